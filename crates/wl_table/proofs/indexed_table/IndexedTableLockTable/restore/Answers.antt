use Rattle.std.proofs.Common.{◌≡◌, ◌∙◌, ◌++◌, true, length, ap, arith}
use Rattle.wl_draft.specs.Locks.{grants, newly_granted, newly_granted_if, settle, settle_if, restored}
use Rattle.wl_table_index.specs.OrderNumbers.{values_in}
use Rattle.wl_table_index.specs.Index.{locks_in}
use Rattle.wl_table_index.proofs.ReportLemmas.{restored-in, held-mine, waiting-mine, entries-length, values-length}
use Rattle.wl_table.proofs.indexed_table.IndexedTableLockTable.restore.Goals as goal

pub put_all-requires-clause-held_mine : goal.put_all-requires-clause-held_mine
put_all-requires-clause-held_mine c = held-mine c.args.client c.args.entries.now c.in_ok-held.held.items c.in_ok-held.ensures.rows.0

pub put_all-requires-clause-waiting_mine : goal.put_all-requires-clause-waiting_mine
put_all-requires-clause-waiting_mine c = waiting-mine c.args.client c.args.entries.now c.in_ok-held.waiting.items c.in_ok-held.ensures.rows.1

pub put_all-requires-clause-small : goal.put_all-requires-clause-small
put_all-requires-clause-small c =
    let n = entries-length c.args.client c.args.entries.now c.in_ok-held.held.items c.in_ok-held.waiting.items c.in_ok-held.ensures.rows.0 c.in_ok-held.ensures.rows.1 in
    omega (arith, n, c.len.ensures, c.in_ok-room_to_settle.ensures.small, c.in_ok-make_room.ensures.next)

pub settle-requires-clause-small : goal.settle-requires-clause-small
settle-requires-clause-small c =
    let n = entries-length c.args.client c.args.entries.now c.in_ok-held.held.items c.in_ok-held.waiting.items c.in_ok-held.ensures.rows.0 c.in_ok-held.ensures.rows.1 in
    let w = values-length c.put_all.new.self.waiting.items c.make_room.new.self.waiting.items c.in_ok-held.waiting.items c.put_all.ensures.waiting in
    omega (arith, n, w, c.len.ensures, c.in_ok-room_to_settle.ensures.small, c.in_ok-make_room.ensures.next, c.put_all.ensures.next, c.forget_client.ensures.next, ap (λ ps. length ps) c.forget_client.ensures.waiting, ap (λ ps. length ps) c.in_ok-make_room.ensures.waiting)

pub settle-requires-clause-room : goal.settle-requires-clause-room
settle-requires-clause-room c =
    let n = entries-length c.args.client c.args.entries.now c.in_ok-held.held.items c.in_ok-held.waiting.items c.in_ok-held.ensures.rows.0 c.in_ok-held.ensures.rows.1 in
    let w = values-length c.put_all.new.self.waiting.items c.make_room.new.self.waiting.items c.in_ok-held.waiting.items c.put_all.ensures.waiting in
    omega (arith, n, w, c.len.ensures, c.in_ok-room_to_settle.ensures.room, ap (λ ps. length ps) c.forget_client.ensures.waiting, ap (λ ps. length ps) c.in_ok-make_room.ensures.waiting)

pub returns-then-not-settle-clause-grants : goal.returns-then-not-settle-clause-grants
returns-then-not-settle-clause-grants c = rw c.if-not-settle.true c.new.ensures.items

pub returns-then-not-settle-clause-ok : goal.returns-then-not-settle-clause-ok
returns-then-not-settle-clause-ok c =
    let t = c.self.inside.index in
    let before : locks_in c.forget_client.new.self.held.items c.forget_client.new.self.waiting.items ≡ restored c.args.client c.args.entries.now (locks_in t.held.items t.waiting.items) = restored-in c.args.client c.args.entries.now t.held.items t.waiting.items c.forget_client.new.self.held.items c.forget_client.new.self.waiting.items (ap (λ ps. values_in ps) c.forget_client.ensures.held ∙ c.put_all.ensures.held ∙ ap (λ ps. values_in ps ++ c.in_ok-held.held.items) c.in_ok-make_room.ensures.held ∙ ap (λ rs. values_in t.held.items ++ rs) c.in_ok-held.ensures.rows.0) (ap (λ ps. values_in ps) c.forget_client.ensures.waiting ∙ c.put_all.ensures.waiting ∙ ap (λ ps. values_in ps ++ c.in_ok-held.waiting.items) c.in_ok-make_room.ensures.waiting ∙ ap (λ rs. values_in t.waiting.items ++ rs) c.in_ok-held.ensures.rows.1) in
    rw (c.if-not-settle.true, ← c.self.view_is) before

pub returns-clause-grants : goal.returns-clause-grants
returns-clause-grants c =
    let t = c.self.inside.index in
    let before : locks_in c.forget_client.new.self.held.items c.forget_client.new.self.waiting.items ≡ restored c.args.client c.args.entries.now (locks_in t.held.items t.waiting.items) = restored-in c.args.client c.args.entries.now t.held.items t.waiting.items c.forget_client.new.self.held.items c.forget_client.new.self.waiting.items (ap (λ ps. values_in ps) c.forget_client.ensures.held ∙ c.put_all.ensures.held ∙ ap (λ ps. values_in ps ++ c.in_ok-held.held.items) c.in_ok-make_room.ensures.held ∙ ap (λ rs. values_in t.held.items ++ rs) c.in_ok-held.ensures.rows.0) (ap (λ ps. values_in ps) c.forget_client.ensures.waiting ∙ c.put_all.ensures.waiting ∙ ap (λ ps. values_in ps ++ c.in_ok-held.waiting.items) c.in_ok-make_room.ensures.waiting ∙ ap (λ rs. values_in t.waiting.items ++ rs) c.in_ok-held.ensures.rows.1) in
    let e : c.exact_size_grants.result.items ≡ grants (newly_granted_if true (restored c.args.client c.args.entries.now (locks_in t.held.items t.waiting.items))) = c.exact_size_grants.ensures.value ∙ c.settle.ensures.granted ∙ ap (λ g. g ++ grants (newly_granted (locks_in c.forget_client.new.self.held.items c.forget_client.new.self.waiting.items))) (c.room_to_settle.ensures.items ∙ c.self.invariant.granted) ∙ ap (λ m. grants (newly_granted m)) before in
    rw (c.if-not-settle.false, ← c.self.view_is) e

pub returns-clause-ok : goal.returns-clause-ok
returns-clause-ok c =
    let t = c.self.inside.index in
    let before : locks_in c.forget_client.new.self.held.items c.forget_client.new.self.waiting.items ≡ restored c.args.client c.args.entries.now (locks_in t.held.items t.waiting.items) = restored-in c.args.client c.args.entries.now t.held.items t.waiting.items c.forget_client.new.self.held.items c.forget_client.new.self.waiting.items (ap (λ ps. values_in ps) c.forget_client.ensures.held ∙ c.put_all.ensures.held ∙ ap (λ ps. values_in ps ++ c.in_ok-held.held.items) c.in_ok-make_room.ensures.held ∙ ap (λ rs. values_in t.held.items ++ rs) c.in_ok-held.ensures.rows.0) (ap (λ ps. values_in ps) c.forget_client.ensures.waiting ∙ c.put_all.ensures.waiting ∙ ap (λ ps. values_in ps ++ c.in_ok-held.waiting.items) c.in_ok-make_room.ensures.waiting ∙ ap (λ rs. values_in t.waiting.items ++ rs) c.in_ok-held.ensures.rows.1) in
    let e : locks_in c.settle.new.self.held.items c.settle.new.self.waiting.items ≡ settle_if true (restored c.args.client c.args.entries.now (locks_in t.held.items t.waiting.items)) = c.settle.ensures.settled ∙ ap (λ m. settle m) before in
    rw (c.if-not-settle.false, ← c.self.view_is) e
