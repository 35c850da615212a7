use Rattle.std.proofs.Common.{◌≡◌, [], take, drop}
use Rattle.wl_draft.specs.Locks.{grantable_behind}
use Rattle.wl_draft.proofs.lists.is_grantable_pair.Given as goal

abbrev pub invariant-loop-index : goal.invariant-loop-index
invariant-loop-index l =
    grantable_behind l.held (take l.index l.waiting) l.client l.number (drop l.index l.waiting) ≡ grantable_behind l.held [] l.client l.number l.waiting
