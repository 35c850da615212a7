use Rattle.wl_library_model.proofs.CallsAreSteps.{hub-output, client-output, pieces}
use Rattle.wl_library_model.proofs.laws.law_calls.Goals as goal

pub returns-clause-hub_output : goal.returns-clause-hub_output
returns-clause-hub_output c = hub-output

pub returns-clause-client_output : goal.returns-clause-client_output
returns-clause-client_output c = client-output

pub returns-clause-pieces : goal.returns-clause-pieces
returns-clause-pieces c = pieces
