use Rattle.std.proofs.Common.{◌≡◌, ◌∙◌, [], false, Some, None, sym, ap}
use Rattle.std.specs.Option.{option_map_or}
use Rattle.wl_draft.specs.Locks.{grantable}
use Rattle.wl_table_index.specs.Index.{locks_in}
use Rattle.wl_table_index.specs.Nexts.{is_next}
use Rattle.wl_table_index.proofs.PlaceLemmas.{first-of}
use Rattle.wl_table_index.proofs.CandidateLemmas.{grantable-first}
use Rattle.wl_table.proofs.indexed_table.IndexedTableLockTable.grantable.Goals as goal

pub returns-in-Some : goal.returns-in-Some
returns-in-Some c =
    let t = c.self.inside.index in
    let first = first-of t c.args.client c.args.number (Some c.in-Some.order) c.self.invariant.index c.in-Some.ensures in
    let e : grantable (locks_in t.held.items t.waiting.items) c.args.client c.args.number ≡ is_next c.in-Some.order t.held.items t.waiting.items = grantable-first c.args.client c.args.number t.held.items [] t.waiting.items c.self.invariant.index.waiting_rise ∙ ap (λ o. option_map_or (λ k. is_next k t.held.items t.waiting.items) o false) first in
    rw (← c.self.view_is) (c.is_grantable.ensures ∙ sym e)

pub returns-in-None : goal.returns-in-None
returns-in-None c =
    let t = c.self.inside.index in
    let first = first-of t c.args.client c.args.number None c.self.invariant.index c.in-None.ensures in
    let e : grantable (locks_in t.held.items t.waiting.items) c.args.client c.args.number ≡ false = grantable-first c.args.client c.args.number t.held.items [] t.waiting.items c.self.invariant.index.waiting_rise ∙ ap (λ o. option_map_or (λ k. is_next k t.held.items t.waiting.items) o false) first in
    rw (← c.self.view_is) (sym e)
