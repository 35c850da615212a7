use Rattle.std.proofs.Common.{◌≡◌, ◌∙◌, ◌++◌, [], ◌∷◌, true, sym, ap, refl}
use Rattle.wl_draft.specs.Locks.{is_grantable, grants, newly_granted, settle, queued, row_of}
use Rattle.wl_table_index.specs.OrderNumbers.{values_in}
use Rattle.wl_table_index.specs.Index.{locks_in}
use Rattle.wl_table_index.specs.NameLines.{line_at}
use Rattle.wl_table_index.specs.Nexts.{is_among, AreCandidates}
use Rattle.wl_table_index.proofs.IndexLemmas.{queued-in, grantable-known}
use Rattle.wl_table_index.proofs.Stuck.{AreStuck}
use Rattle.wl_table_index.proofs.PlaceLemmas.{number-absent}
use Rattle.wl_table_index.proofs.SettleLemmas.{newly-alone, settle-alone}
use Rattle.wl_table_index.proofs.LeanLemmas.{lean-filled, no-items}
use Rattle.wl_table_index.proofs.CandidateLemmas.{no-candidates, candidates-queued, pushed-here, pushed-kept}
use Rattle.wl_table.proofs.indexed_table.IndexedTableLockTable.request.Goals as goal

pub grant_immediately-requires-clause-grantable : goal.grant_immediately-requires-clause-grantable
grant_immediately-requires-clause-grantable c =
    let e : is_grantable (values_in c.self.inside.index.held.items) (values_in c.self.inside.index.waiting.items) (row_of c.args.client c.args.number c.args.name.now c.args.mode) ≡ true = grantable-known c.self.inside.index.held.items c.self.inside.index.waiting.items (line_at c.self.inside.index.lines c.args.name.now) (row_of c.args.client c.args.number c.args.name.now c.args.mode) c.ask-place.result.1 true (c.self.invariant.index.lines c.args.name.now) c.ask-place.ensures c.if-is_next.true in
    rw (← c.self.view_is) e

pub returns-then-is_next-clause-grants : goal.returns-then-is_next-clause-grants
returns-then-is_next-clause-grants c =
    let e : is_grantable (values_in c.self.inside.index.held.items) (values_in c.self.inside.index.waiting.items) (row_of c.args.client c.args.number c.args.name.now c.args.mode) ≡ true = grantable-known c.self.inside.index.held.items c.self.inside.index.waiting.items (line_at c.self.inside.index.lines c.args.name.now) (row_of c.args.client c.args.number c.args.name.now c.args.mode) c.ask-place.result.1 true (c.self.invariant.index.lines c.args.name.now) c.ask-place.ensures c.if-is_next.true in
    let known : is_grantable c.args.self.now.held c.args.self.now.waiting (row_of c.args.client c.args.number c.args.name.now c.args.mode) ≡ true = rw (← c.self.view_is) e in
    let none : AreCandidates [] c.self.inside.index.held.items c.self.inside.index.waiting.items = rw (no-items c.self.inside.candidates.items (sym c.is_empty.ensures ∙ c.if-is_empty.true)) at c.self.invariant.candidates in
    let stuck : AreStuck c.args.self.now.held [] c.args.self.now.waiting = rw (← c.self.view_is) (no-candidates c.self.inside.index.held.items c.self.inside.index.waiting.items none) in
    rw (newly-alone c.args.self.now (row_of c.args.client c.args.number c.args.name.now c.args.mode) stuck known) c.grant_immediately.ensures.grants

pub returns-then-is_next-clause-ok : goal.returns-then-is_next-clause-ok
returns-then-is_next-clause-ok c =
    let e : is_grantable (values_in c.self.inside.index.held.items) (values_in c.self.inside.index.waiting.items) (row_of c.args.client c.args.number c.args.name.now c.args.mode) ≡ true = grantable-known c.self.inside.index.held.items c.self.inside.index.waiting.items (line_at c.self.inside.index.lines c.args.name.now) (row_of c.args.client c.args.number c.args.name.now c.args.mode) c.ask-place.result.1 true (c.self.invariant.index.lines c.args.name.now) c.ask-place.ensures c.if-is_next.true in
    let known : is_grantable c.args.self.now.held c.args.self.now.waiting (row_of c.args.client c.args.number c.args.name.now c.args.mode) ≡ true = rw (← c.self.view_is) e in
    let none : AreCandidates [] c.self.inside.index.held.items c.self.inside.index.waiting.items = rw (no-items c.self.inside.candidates.items (sym c.is_empty.ensures ∙ c.if-is_empty.true)) at c.self.invariant.candidates in
    let stuck : AreStuck c.args.self.now.held [] c.args.self.now.waiting = rw (← c.self.view_is) (no-candidates c.self.inside.index.held.items c.self.inside.index.waiting.items none) in
    rw (settle-alone c.args.self.now (row_of c.args.client c.args.number c.args.name.now c.args.mode) stuck known) c.grant_immediately.ensures.ok

pub ready-requires-clause-fresh : goal.ready-requires-clause-fresh
ready-requires-clause-fresh c =
    number-absent c.self.inside.index c.args.client c.args.number c.self.invariant.index (rw (← c.self.view_is) at c.requires)

pub settle-requires-clause-candidates : goal.settle-requires-clause-candidates
settle-requires-clause-candidates c =
    let t = c.self.inside.index in
    let k = c.queue-order.result in
    let items : c.queue-order.new.self.waiting.items ≡ t.waiting.items ++ (k, c.in_ok-row.row) ∷ [] = c.queue-order.ensures.waiting ∙ ap (λ w. w ++ (k, c.in_ok-row.row) ∷ []) c.in_ok-row.ensures.waiting in
    let same : c.queue-order.new.self.held.items ≡ t.held.items = c.queue-order.ensures.held ∙ c.in_ok-row.ensures.held in
    rw (same, items) (candidates-queued c.self.inside.candidates.items c.push.new.self.items t.held.items t.waiting.items k c.in_ok-row.row c.self.invariant.candidates (λ j m. c.push.ensures.items j ∙ pushed-kept k j _ (ap (λ ks. is_among j ks) c.in_ok-reserve.ensures.items ∙ m)) (c.push.ensures.items k ∙ pushed-here k k _ refl))

pub returns-clause-grants : goal.returns-clause-grants
returns-clause-grants c =
    let t = c.self.inside.index in
    let before : locks_in c.queue-order.new.self.held.items c.queue-order.new.self.waiting.items ≡ queued (row_of c.args.client c.args.number c.args.name.now c.args.mode) (locks_in t.held.items t.waiting.items) = ap (λ h. locks_in h c.queue-order.new.self.waiting.items) (c.queue-order.ensures.held ∙ c.in_ok-row.ensures.held) ∙ ap (λ w. locks_in t.held.items w) (c.queue-order.ensures.waiting ∙ ap (λ w. w ++ (c.queue-order.result, c.in_ok-row.row) ∷ []) c.in_ok-row.ensures.waiting ∙ ap (λ r. t.waiting.items ++ (c.queue-order.result, r) ∷ []) c.in_ok-row.ensures.row) ∙ queued-in t.held.items t.waiting.items c.queue-order.result (row_of c.args.client c.args.number c.args.name.now c.args.mode) in
    let e : c.exact_size_grants.result.items ≡ grants (newly_granted (queued (row_of c.args.client c.args.number c.args.name.now c.args.mode) (locks_in t.held.items t.waiting.items))) = c.exact_size_grants.ensures.value ∙ c.settle.ensures.granted ∙ ap (λ g. g ++ grants (newly_granted (locks_in c.queue-order.new.self.held.items c.queue-order.new.self.waiting.items))) (c.room_to_settle.ensures.items ∙ c.self.invariant.granted) ∙ ap (λ m. grants (newly_granted m)) before in
    rw (← c.self.view_is) e

pub returns-clause-ok : goal.returns-clause-ok
returns-clause-ok c =
    let t = c.self.inside.index in
    let before : locks_in c.queue-order.new.self.held.items c.queue-order.new.self.waiting.items ≡ queued (row_of c.args.client c.args.number c.args.name.now c.args.mode) (locks_in t.held.items t.waiting.items) = ap (λ h. locks_in h c.queue-order.new.self.waiting.items) (c.queue-order.ensures.held ∙ c.in_ok-row.ensures.held) ∙ ap (λ w. locks_in t.held.items w) (c.queue-order.ensures.waiting ∙ ap (λ w. w ++ (c.queue-order.result, c.in_ok-row.row) ∷ []) c.in_ok-row.ensures.waiting ∙ ap (λ r. t.waiting.items ++ (c.queue-order.result, r) ∷ []) c.in_ok-row.ensures.row) ∙ queued-in t.held.items t.waiting.items c.queue-order.result (row_of c.args.client c.args.number c.args.name.now c.args.mode) in
    let e : locks_in c.settle.new.self.held.items c.settle.new.self.waiting.items ≡ settle (queued (row_of c.args.client c.args.number c.args.name.now c.args.mode) (locks_in t.held.items t.waiting.items)) = c.settle.ensures.settled ∙ ap (λ m. settle m) before in
    rw (← c.self.view_is) e

pub invariant_of-self-2 : goal.invariant_of-self-2
invariant_of-self-2 c = record {
  index = c.settle.ensures.indexed;
  lean = c.settle.ensures.lean (lean-filled c.ready.new.self c.queue-order.new.self c.in_ok-row.row c.args.client c.args.name.now (ap (λ r. r.client) c.in_ok-row.ensures.row) (ap (λ r. r.name) c.in_ok-row.ensures.row) c.queue-order.ensures.fills (c.in_ok-row.ensures.lean c.self.invariant.lean));
  candidates = c.settle.ensures.candidates;
  granted = c.exact_size_grants.ensures.emptied;
}
