use Rattle.std.proofs.Common.{◌≡◌, ℕ, [], take}
use Rattle.wl_draft.specs.Tables.{at}
use Rattle.wl_broker.specs.BrokerInvariant.{missing_in}
use Rattle.wl_broker.proofs.listed.read_list.Given as goal

-- The list and the counts contain the tabs read so far.
abbrev pub invariant-loop-tab : goal.invariant-loop-tab
invariant-loop-tab l =
    (l.listed.entries ≡ take l.tab-index l.list)
    × ((p : ℕ) → at 0 l.missing.entries p ≡ missing_in (take l.tab-index l.list) [] p)
