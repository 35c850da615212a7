use Rattle.std.proofs.Common.{◌≡◌, ◌∙◌, ◌++◌, ap}
use Rattle.wl_draft.specs.Locks.{grants, newly_granted, settle, aborted}
use Rattle.wl_table_index.specs.Index.{locks_in}
use Rattle.wl_table_index.proofs.RemovalLemmas.{aborted-in}
use Rattle.wl_table.proofs.indexed_table.IndexedTableLockTable.abort.Goals as goal

pub returns-clause-grants : goal.returns-clause-grants
returns-clause-grants c =
    let t = c.self.inside.index in
    let before : locks_in c.forget_client.new.self.held.items c.forget_client.new.self.waiting.items ≡ aborted c.args.client c.args.number (locks_in t.held.items t.waiting.items) = rw (c.forget_client.ensures.held, c.forget_client.ensures.waiting, c.remove_all.ensures.held, c.remove_all.ensures.waiting) (aborted-in c.args.client c.args.number t.held.items t.waiting.items) in
    let e : c.exact_size_grants.result.items ≡ grants (newly_granted (aborted c.args.client c.args.number (locks_in t.held.items t.waiting.items))) = c.exact_size_grants.ensures.value ∙ c.settle.ensures.granted ∙ ap (λ g. g ++ grants (newly_granted (locks_in c.forget_client.new.self.held.items c.forget_client.new.self.waiting.items))) (c.room_to_settle.ensures.items ∙ c.self.invariant.granted) ∙ ap (λ m. grants (newly_granted m)) before in
    rw (← c.self.view_is) e

pub returns-clause-ok : goal.returns-clause-ok
returns-clause-ok c =
    let t = c.self.inside.index in
    let before : locks_in c.forget_client.new.self.held.items c.forget_client.new.self.waiting.items ≡ aborted c.args.client c.args.number (locks_in t.held.items t.waiting.items) = rw (c.forget_client.ensures.held, c.forget_client.ensures.waiting, c.remove_all.ensures.held, c.remove_all.ensures.waiting) (aborted-in c.args.client c.args.number t.held.items t.waiting.items) in
    let e : locks_in c.settle.new.self.held.items c.settle.new.self.waiting.items ≡ settle (aborted c.args.client c.args.number (locks_in t.held.items t.waiting.items)) = c.settle.ensures.settled ∙ ap (λ m. settle m) before in
    rw (← c.self.view_is) e
