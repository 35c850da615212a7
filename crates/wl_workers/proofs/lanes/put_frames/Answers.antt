use Rattle.std.proofs.Common.{rules, [], ◌∷◌, ◌++◌, sym, ap, ◌∙◌, append_assoc}
use Rattle.std.proofs.lemmas.List.{nil_from_length}
use Rattle.wl_workers.proofs.ToldLemmas.{Grows-nil}
use Rattle.wl_workers.proofs.LaneLemmas.{put_one, put_whole, put_refused}
use Rattle.wl_workers.proofs.lanes.put_frames.Goals as goal

pub loop-addressed-init : goal.loop-addressed-init
loop-addressed-init g c = record { done = []; split = sym c.into_iter-addressed-iterator.ensures.into_iter_gives.0; put = Grows-nil _ }

pub loop-addressed-preserved : goal.loop-addressed-preserved
loop-addressed-preserved g c =
    let h = c.loop-addressed.invariant in record {
      done = h.done ++ c.in-Some.addressed ∷ [];
      split = h.split ∙ ap (λ l. h.done ++ l) c.in-Some.ensures.steps.0 ∙ sym (append_assoc h.done (c.in-Some.addressed ∷ []) _);
      put = put_one _ _ _ h.done c.in-Some.addressed _ h.put c.put_one.ensures c.in_ok-put_one.was;
    }

pub returns-clause-all : goal.returns-clause-all
returns-clause-all g c =
    let h = c.loop-addressed.invariant in
    let none = nil_from_length _ (sym c.loop-addressed.addressed-iterator.rest.ok.0 ∙ c.in-None.ensures.steps.0) in
    put_whole _ _ _ h.done _ h.split none h.put

pub returns-in_err-put_one-clause-some : goal.returns-in_err-put_one-clause-some
returns-in_err-put_one-clause-some g c =
    let h = c.loop-addressed.invariant in
    let some = put_refused _ _ _ c.args.outs.items h.done _ c.in-Some.addressed _ _ (h.split ∙ ap (λ l. h.done ++ l) c.in-Some.ensures.steps.0) h.put c.put_one.ensures c.in_err-put_one.was in
    search (some, rules)
