use Rattle.wl_draft.proofs.Settled.{settle-IsSettled, settle-GrantsWhatIsFree, settle-GrantsPrefixes, settle-MovesGrants, settle-SettlesByName}
use Rattle.wl_draft.proofs.laws.law_settling.Goals as goal

pub returns-clause-settled : goal.returns-clause-settled
returns-clause-settled c = settle-IsSettled

pub returns-clause-free : goal.returns-clause-free
returns-clause-free c = settle-GrantsWhatIsFree

pub returns-clause-prefixes : goal.returns-clause-prefixes
returns-clause-prefixes c = settle-GrantsPrefixes

pub returns-clause-moves : goal.returns-clause-moves
returns-clause-moves c = settle-MovesGrants

pub returns-clause-by_name : goal.returns-clause-by_name
returns-clause-by_name c = settle-SettlesByName
