use Rattle.std.proofs.Common.{[], ◌∷◌, ◌++◌, refl, sym, ap, ◌∙◌, append_assoc}
use Rattle.std.proofs.lemmas.List.{nil_from_length}
use Rattle.wl_workers.proofs.ReaderLemmas.{HandsUp-none, HandsUp-one, HandsUp-dead, handed_all}
use Rattle.wl_workers.proofs.tab_reader.hand_up.Goals as goal

pub loop-frame-init : goal.loop-frame-init
loop-frame-init g c = record { done = []; split = sym c.into_iter-frame-iterator.ensures.into_iter_gives.0; hands = HandsUp-none _ _ _ }

pub returns-then-finds_dead : goal.returns-then-finds_dead
returns-then-finds_dead g c =
    let h = c.loop-frame.invariant in
    (tt, refl, (h.done, (c.in-Some.frame, _, h.split ∙ ap (λ l. h.done ++ l) c.in-Some.ensures.steps.0), HandsUp-dead _ _ _ _ _ _ h.done c.finds_dead.result h.hands c.if-finds_dead.true c.finds_dead.ensures))

pub loop-frame-preserved : goal.loop-frame-preserved
loop-frame-preserved g c =
    let h = c.loop-frame.invariant in record {
      done = h.done ++ c.in-Some.frame ∷ [];
      split = h.split ∙ ap (λ l. h.done ++ l) c.in-Some.ensures.steps.0 ∙ sym (append_assoc h.done (c.in-Some.frame ∷ []) _);
      hands = HandsUp-one _ _ _ _ _ _ _ h.done c.finds_dead.result c.in-Some.frame h.hands c.if-finds_dead.false c.finds_dead.ensures c.up-refused.ensures;
    }

pub returns : goal.returns
returns g c =
    let h = c.loop-frame.invariant in
    let none = nil_from_length _ (sym c.loop-frame.frame-iterator.rest.ok.0 ∙ c.in-None.ensures.steps.0) in
    handed_all _ _ _ _ _ _ h.done _ h.split none h.hands
