use Rattle.std.proofs.Common.{◌≡◌, ◌∙◌, ◌++◌, [], ◌∷◌, ap, arith}
use Rattle.std.proofs.lemmas.Grind.{common_steps}
use Rattle.wl_draft.specs.Locks.{row_of, probed}
use Rattle.wl_table_index.specs.OrderNumbers.{order_at}
use Rattle.wl_table_index.specs.Index.{locks_in}
use Rattle.wl_table_index.proofs.IndexLemmas.{probed-free}
use Rattle.wl_table_index.proofs.LeanLemmas.{lean-filled}
use Rattle.wl_table_index.proofs.PlaceLemmas.{number-absent}
use Rattle.wl_table_index.proofs.CandidateLemmas.{candidates-held}
use Rattle.wl_table.proofs.indexed_table.IndexedTable.grant_immediately.Goals as goal

pub ready_lock-requires-clause-fresh : goal.ready_lock-requires-clause-fresh
ready_lock-requires-clause-fresh c =
    number-absent c.self.inside.index c.args.client c.args.number c.self.invariant.index (rw (← c.self.view_is) at c.requires.fresh)

pub invariant_of-self-2 : goal.invariant_of-self-2
invariant_of-self-2 c =
    let k = order_at c.ready_lock.new.self.next c.ready_lock.new.self.held.slot in
    let items : c.hold.new.self.held.items ≡ c.self.inside.index.held.items ++ (k, (row_of c.args.client c.args.number c.args.name.now c.args.mode)) ∷ [] = c.hold.ensures.held ∙ ap (λ h. h ++ (k, c.in_ok-row.row) ∷ []) c.in_ok-row.ensures.held ∙ ap (λ r. c.self.inside.index.held.items ++ (k, r) ∷ []) c.in_ok-row.ensures.row in
    let same : c.hold.new.self.waiting.items ≡ c.self.inside.index.waiting.items = c.hold.ensures.waiting ∙ c.in_ok-row.ensures.waiting in
    record {
      index = c.hold.ensures.indexed;
      lean = lean-filled c.ready_lock.new.self c.hold.new.self c.in_ok-row.row c.args.client c.args.name.now (ap (λ r. r.client) c.in_ok-row.ensures.row) (ap (λ r. r.name) c.in_ok-row.ensures.row) c.hold.ensures.fills (c.in_ok-row.ensures.lean c.self.invariant.lean);
      candidates = rw (items, same) (candidates-held c.self.inside.candidates.items c.self.inside.index.held.items c.self.inside.index.waiting.items k (row_of c.args.client c.args.number c.args.name.now c.args.mode) c.self.invariant.candidates);
      granted = c.self.invariant.granted;
    }

pub returns-clause-grants : goal.returns-clause-grants
returns-clause-grants c =
    grind (arith, common_steps)

pub returns-clause-ok : goal.returns-clause-ok
returns-clause-ok c =
    let e = rw (← c.self.view_is) at c.requires.grantable in
    let k = order_at c.ready_lock.new.self.next c.ready_lock.new.self.held.slot in
    let items : c.hold.new.self.held.items ≡ c.self.inside.index.held.items ++ (k, (row_of c.args.client c.args.number c.args.name.now c.args.mode)) ∷ [] = c.hold.ensures.held ∙ ap (λ h. h ++ (k, c.in_ok-row.row) ∷ []) c.in_ok-row.ensures.held ∙ ap (λ r. c.self.inside.index.held.items ++ (k, r) ∷ []) c.in_ok-row.ensures.row in
    let same : c.hold.new.self.waiting.items ≡ c.self.inside.index.waiting.items = c.hold.ensures.waiting ∙ c.in_ok-row.ensures.waiting in
    let done : locks_in c.hold.new.self.held.items c.hold.new.self.waiting.items ≡ probed (row_of c.args.client c.args.number c.args.name.now c.args.mode) (locks_in c.self.inside.index.held.items c.self.inside.index.waiting.items) = ap (λ h. locks_in h c.hold.new.self.waiting.items) items ∙ ap (λ w. locks_in (c.self.inside.index.held.items ++ (k, (row_of c.args.client c.args.number c.args.name.now c.args.mode)) ∷ []) w) same ∙ probed-free c.self.inside.index.held.items c.self.inside.index.waiting.items k (row_of c.args.client c.args.number c.args.name.now c.args.mode) e in
    rw (← c.self.view_is) done
