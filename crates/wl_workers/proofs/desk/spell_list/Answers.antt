use Rattle.std.proofs.Common.{[], ◌++◌, refl, sym, ap, subst, ◌∙◌, append-nil, append_assoc}
use Rattle.std.proofs.lemmas.List.{nil_from_length}
use Rattle.std.proofs.lemmas.Result.{err_from_is_err_and}
use Rattle.std.specs.List.{AllByRecursion}
use Rattle.std.specs.Vec.Iter.{into_iter_items}
use Rattle.wl_grammar.specs.declared.frame.Frame.TheVariants as frame
use Rattle.wl_grammar.specs.Grammar.{IsAddressed, spelling}
use Rattle.wl_workers.specs.DeskSteps.{spelled}
use Rattle.wl_workers.proofs.DeskLemmas.{outs_more}
use Rattle.wl_workers.proofs.desk.spell_list.Goals as goal

pub loop-addressed-init : goal.loop-addressed-init
loop-addressed-init c =
    let items = c.into_iter-addressed-iterator.ensures.into_iter_gives.0 in record {
      spellable = subst (AllByRecursion IsAddressed) (sym items) c.requires;
      output = [];
      appended = sym (append-nil _);
      output_is = ap spelled items;
    }

pub spell_one-requires : goal.spell_one-requires
spell_one-requires c = (subst (AllByRecursion IsAddressed) c.in-Some.ensures.steps.0 c.loop-addressed.invariant.spellable).0

pub loop-addressed-preserved : goal.loop-addressed-preserved
loop-addressed-preserved c =
    let h = c.loop-addressed.invariant in
    let step = c.in-Some.ensures.steps.0 in
    let piece = spelling (frame.Addressed c.in-Some.addressed) in record {
      spellable = (subst (AllByRecursion IsAddressed) step h.spellable).1;
      output = h.output ++ piece;
      appended = c.in_ok-spell_one.ensures.spelled ∙ ap (λ l. l ++ piece) h.appended ∙ append_assoc _ h.output piece;
      output_is = outs_more c.args.listed.items _ _ c.in-Some.addressed h.output piece step h.output_is refl;
    }

pub returns-in_err-spell_one-clause-refused : goal.returns-in_err-spell_one-clause-refused
returns-in_err-spell_one-clause-refused c =
    let h = c.loop-addressed.invariant in
    let p = err_from_is_err_and c.from_residual.result c.from_residual.ensures.1 in
    rw p.1 (h.output, c.in_err-spell_one.ensures.refused ∙ h.appended, (spelled (into_iter_items c.loop-addressed.addressed-iterator), sym h.output_is))

pub returns-clause-spelled : goal.returns-clause-spelled
returns-clause-spelled c =
    let h = c.loop-addressed.invariant in
    let none = nil_from_length _ (sym c.loop-addressed.addressed-iterator.rest.ok.0 ∙ c.in-None.ensures.steps.0) in
    h.appended ∙ ap (λ l. c.args.bytes.now.items ++ l) (sym (append-nil h.output) ∙ ap (λ l. h.output ++ spelled l) (sym none) ∙ h.output_is)
