-- Settling of tokens one after another, as cited by the contracts of `tell` and `tell_all`.
use Rattle.std.specs.Prelude.{List, [], ◌∷◌, ◌++◌, fold, Option, Some, None, if◌then◌else◌}
use Rattle.wl_agent.specs.declared.snapshot.Snapshot.{Snapshot}
use Rattle.wl_agent.specs.declared.token.Token.{Token}
use Rattle.wl_agent.specs.declared.token.Token.TheVariants as token
use Rattle.wl_agent.specs.declared.token.Settled.{Settled}
use Rattle.wl_agent.specs.declared.token.Settled.TheVariants as answered
use Rattle.wl_agent.specs.declared.token.ProbeSettled.{ProbeSettled}
use Rattle.wl_agent.specs.declared.token.ProbeSettled.TheVariants as probe
use Rattle.wl_agent.specs.declared.token.QuerySettled.{QuerySettled}
use Rattle.wl_agent.specs.declared.token.QuerySettled.TheVariants as query
use Rattle.wl_agent.specs.Tab.{TabState}
use Rattle.wl_agent.specs.Tokens.{is_own, is_pending, is_probing, is_asking, told_pending, told_probe, result_of_query_answer, after_query}
use Rattle.wl_tab.specs.declared.locks.live_command.LiveCommand.{LiveCommand}
use Rattle.wl_tab.specs.TabTokens.{kept_as}
use Rattle.wl_tab.specs.declared.locks.settling.Settlement.{Settlement}
use Rattle.wl_tab.specs.declared.locks.settling.Settlement.TheVariants as fate

-- One token

abbrev pub fate_by_request : Settled → Settlement
fate_by_request (answered.Waiting p) = fate.Stays (token.Pending p)
fate_by_request (answered.Held lock) = fate.Stays (token.HeldLock lock)

abbrev pub fate_by_probe : ProbeSettled → Settlement
fate_by_probe (probe.Waiting p) = fate.Stays (token.Probe p)
fate_by_probe (probe.Held lock) = fate.Stays (token.HeldLock lock)
fate_by_probe probe.Null = fate.Over

abbrev pub fate_by_query : QuerySettled → Settlement
fate_by_query (query.Waiting q) = fate.Stays (token.Asking q)
fate_by_query (query.Whole snapshot) = fate.Whole snapshot
fate_by_query query.Lost = fate.Over

-- The result of settling a token. A token of another tab stays as it is.
abbrev pub fate_of : TabState → Token → Settlement
fate_of a (token.Pending p) =
    if is_own is_pending a p.tab p.number then fate_by_request (told_pending a p) else fate.Stays (token.Pending p)
fate_of a (token.Probe p) =
    if is_own is_probing a p.tab p.number then fate_by_probe (told_probe a p) else fate.Stays (token.Probe p)
fate_of a (token.HeldLock lock) = fate.Stays (token.HeldLock lock)
fate_of a (token.Asking q) =
    if is_own is_asking a q.tab q.number then fate_by_query (result_of_query_answer a q) else fate.Stays (token.Asking q)

-- The tab after one of its tokens is settled.
abbrev pub after_telling : Token → TabState → TabState
after_telling (token.Asking q) a = if is_own is_asking a q.tab q.number then after_query q.number a else a
after_telling t a = a

-- All tokens

-- The tab so far, the tokens that stayed so far, and the last complete snapshot.
pub record Run : Type 0 where
  pub agent : TabState
  pub kept : List LiveCommand
  pub snapshot : Option Snapshot

abbrev pub with_fate : Run → LiveCommand → Settlement → Run
with_fate run x (fate.Stays t) =
    record { agent = after_telling x.token run.agent; kept = run.kept ++ kept_as x.operation t ∷ []; snapshot = run.snapshot }
with_fate run x fate.Over = record { agent = after_telling x.token run.agent; kept = run.kept; snapshot = run.snapshot }
with_fate run x (fate.Whole s) = record { agent = after_telling x.token run.agent; kept = run.kept; snapshot = Some s }

abbrev pub tell_next : Run → LiveCommand → Run
tell_next run x = with_fate run x (fate_of run.agent x.token)

abbrev pub run_from : TabState → Run
run_from a = record { agent = a; kept = []; snapshot = None }

unfoldable pub told_run : TabState → List LiveCommand → Run
told_run a kept = fold tell_next (run_from a) kept
