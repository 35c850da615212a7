use Rattle.std.proofs.Common.{◌∙◌, refl, ap}
use Rattle.std.specs.Prelude.{slice_get}
use Rattle.wl_table_index.proofs.HoldingLemmas.{has-latest, has-further}
use Rattle.wl_table_index.proofs.holdings.Holdings.find_any.Goals as goal

pub returns-in-Some-clause-some : goal.returns-in-Some-clause-some
returns-in-Some-clause-some c = record {
  number = c.in-Some.field-0-0.now;
  there = has-latest c.args.self.now c.in-Some.field-0-0.now c.in-Some.place.now c.in-Some.ensures.value;
  taken = refl;
}

pub returns-in-Some-first-clause-some : goal.returns-in-Some-first-clause-some
returns-in-Some-first-clause-some c = record {
  number = c.in-Some-first.other.now.number;
  there = has-further c.args.self.now c.in-Some-first.other.now (c.in-Some-first.ensures.value ∙ ap (λ fs. slice_get fs 0) c.deref.ensures.value);
  taken = refl;
}
