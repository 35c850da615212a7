use Rattle.std.proofs.Common.{◌≡◌, ◌∙◌, ◌++◌, [], ◌∷◌, sym, ap, arith, append_assoc, append-nil}
use Rattle.wl_draft.specs.Locks.{grants, newly_granted}
use Rattle.wl_table_index.specs.OrderNumbers.{without_order, order_at}
use Rattle.wl_table_index.specs.Index.{locks_in}
use Rattle.wl_table_index.specs.Nexts.{AreCandidates}
use Rattle.wl_table_index.proofs.SettleLemmas.{newly-stuck, settle-stuck}
use Rattle.wl_table_index.proofs.WithoutLemmas.{length-without}
use Rattle.wl_table_index.proofs.NextLemmas.{grant-find, grant-newly_granted, grant-settle}
use Rattle.wl_table_index.proofs.CandidateLemmas.{next-grant, no-candidates, others-popped, least-popped, candidates-passed}
use Rattle.wl_table_index.proofs.index.Index.settle.Goals as goal

pub grant-requires-clause-small : goal.grant-requires-clause-small
grant-requires-clause-small c =
    let l = c.loop-order in
    let i = l.invariant in
    let o = c.in-Some.order in
    let h = l.self.held.items in
    let w = l.self.waiting.items in
    let g = next-grant l.candidates.items h w o i.indexed.waiting_rise i.candidates (least-popped l.candidates.items c.pop.new.self.items o c.in-Some.ensures.items c.in-Some.ensures.least) (sym c.is_grantable.ensures ∙ c.if-is_grantable.true) in
    omega (arith, i.small, length-without o g.row w i.indexed.waiting_rise (grant-find h w o g i.indexed.waiting_rise))

pub grant-requires-clause-room : goal.grant-requires-clause-room
grant-requires-clause-room c =
    let l = c.loop-order in
    let i = l.invariant in
    let o = c.in-Some.order in
    let h = l.self.held.items in
    let w = l.self.waiting.items in
    let g = next-grant l.candidates.items h w o i.indexed.waiting_rise i.candidates (least-popped l.candidates.items c.pop.new.self.items o c.in-Some.ensures.items c.in-Some.ensures.least) (sym c.is_grantable.ensures ∙ c.if-is_grantable.true) in
    omega (arith, i.room, length-without o g.row w i.indexed.waiting_rise (grant-find h w o g i.indexed.waiting_rise))

pub grant-requires-clause-others : goal.grant-requires-clause-others
grant-requires-clause-others c =
    let l = c.loop-order in
    others-popped l.candidates.items c.pop.new.self.items l.self.held.items l.self.waiting.items c.in-Some.order l.invariant.candidates c.in-Some.ensures.items

pub loop-order-smaller-then-is_grantable : goal.loop-order-smaller-then-is_grantable
loop-order-smaller-then-is_grantable c =
    let l = c.loop-order in
    let i = l.invariant in
    let o = c.in-Some.order in
    let h = l.self.held.items in
    let w = l.self.waiting.items in
    let rise = i.indexed.waiting_rise in
    let g = next-grant l.candidates.items h w o rise i.candidates (least-popped l.candidates.items c.pop.new.self.items o c.in-Some.ensures.items c.in-Some.ensures.least) (sym c.is_grantable.ensures ∙ c.if-is_grantable.true) in
    rw c.grant.ensures.waiting (omega (arith, length-without o g.row w rise (grant-find h w o g rise), c.grant.ensures.candidates_len, c.in-Some.ensures.len))

pub loop-order-preserved-then-is_grantable : goal.loop-order-preserved-then-is_grantable
loop-order-preserved-then-is_grantable c =
    let l = c.loop-order in
    let i = l.invariant in
    let o = c.in-Some.order in
    let h = l.self.held.items in
    let w = l.self.waiting.items in
    let k = order_at l.self.next l.self.held.slot in
    let rise = i.indexed.waiting_rise in
    let g = next-grant l.candidates.items h w o rise i.candidates (least-popped l.candidates.items c.pop.new.self.items o c.in-Some.ensures.items c.in-Some.ensures.least) (sym c.is_grantable.ensures ∙ c.if-is_grantable.true) in
    let f = grant-find h w o g rise in
    let len = length-without o g.row w rise f in
    let held : c.grant.new.self.held.items ≡ h ++ (k, g.row) ∷ [] = c.grant.ensures.held g.row f in
    let waiting : c.grant.new.self.waiting.items ≡ without_order o w = c.grant.ensures.waiting in
    record {
      indexed = c.grant.ensures.indexed;
      small = rw waiting (omega (arith, len, i.small, c.grant.ensures.next));
      room = rw waiting (omega (arith, len, i.room, c.grant.ensures.len, c.grant.ensures.capacity));
      candidates = c.grant.ensures.candidates g.row f;
      settled = rw (held, waiting) (sym (grant-settle h w o k g rise) ∙ i.settled);
      newly_granted = rw (c.grant.ensures.granted g.row f, held, waiting) (append_assoc l.granted.items (grants (g.row ∷ [])) (grants (newly_granted (locks_in (h ++ (k, g.row) ∷ []) (without_order o w)))) ∙ ap (λ n. l.granted.items ++ grants n) (sym (grant-newly_granted h w o k g rise)) ∙ i.newly_granted);
      lean = λ l. c.grant.ensures.lean (i.lean l);
    }

pub loop-order-preserved : goal.loop-order-preserved
loop-order-preserved c =
    let l = c.loop-order in
    let i = l.invariant in
    let o = c.in-Some.order in
    let h = l.self.held.items in
    let w = l.self.waiting.items in
    let others = others-popped l.candidates.items c.pop.new.self.items h w o i.candidates c.in-Some.ensures.items in
    record {
      indexed = i.indexed;
      small = i.small;
      room = i.room;
      candidates = candidates-passed c.pop.new.self.items h w o i.indexed.waiting_rise (sym c.is_grantable.ensures ∙ c.if-is_grantable.false) others;
      settled = i.settled;
      newly_granted = i.newly_granted;
      lean = i.lean;
    }

pub returns-clause-settled : goal.returns-clause-settled
returns-clause-settled c =
    let l = c.loop-order in
    let none : AreCandidates [] l.self.held.items l.self.waiting.items = rw (c.in_default.ensures.none) at l.invariant.candidates in
    let s = no-candidates l.self.held.items l.self.waiting.items none in
    sym (settle-stuck (locks_in l.self.held.items l.self.waiting.items) s) ∙ l.invariant.settled

pub returns-clause-granted : goal.returns-clause-granted
returns-clause-granted c =
    let l = c.loop-order in
    let none : AreCandidates [] l.self.held.items l.self.waiting.items = rw (c.in_default.ensures.none) at l.invariant.candidates in
    let s = no-candidates l.self.held.items l.self.waiting.items none in
    sym (append-nil l.granted.items) ∙ ap (λ n. l.granted.items ++ grants n) (sym (newly-stuck (locks_in l.self.held.items l.self.waiting.items) s)) ∙ l.invariant.newly_granted
