use Rattle.wl_library_model.proofs.PostsTraced.{heard-are_posts}
use Rattle.wl_library_model.proofs.Simulated.{is-run_of_its_events}
use Rattle.wl_library_model.proofs.ChannelRuns.{channels-are_calls, heard-rising, heard-till_closed}
use Rattle.wl_library_model.proofs.Promised.{exclusion, own, commands, fold, apart}
use Rattle.wl_library_model.proofs.laws.law_library.Goals as goal

pub returns-clause-events : goal.returns-clause-events
returns-clause-events c = is-run_of_its_events

pub returns-clause-exclusion : goal.returns-clause-exclusion
returns-clause-exclusion c = exclusion

pub returns-clause-own : goal.returns-clause-own
returns-clause-own c = own

pub returns-clause-commands : goal.returns-clause-commands
returns-clause-commands c = commands

pub returns-clause-fold : goal.returns-clause-fold
returns-clause-fold c = fold

pub returns-clause-apart : goal.returns-clause-apart
returns-clause-apart c = apart

pub returns-clause-channels : goal.returns-clause-channels
returns-clause-channels c = channels-are_calls

pub returns-clause-heard : goal.returns-clause-heard
returns-clause-heard c = heard-are_posts

pub returns-clause-rising : goal.returns-clause-rising
returns-clause-rising c = heard-rising

pub returns-clause-closed : goal.returns-clause-closed
returns-clause-closed c = heard-till_closed
