use Rattle.std.proofs.Common.{◌∙◌, ap}
use Rattle.std.specs.Prelude.{slice_get}
use Rattle.wl_table_index.proofs.NextLemmas.{next-front}
use Rattle.wl_table_index.proofs.index.Index.note_front.Goals as goal

pub returns-clause-front : goal.returns-clause-front
returns-clause-front c = λ k e.
    c.push_front.ensures.front k (c.front.ensures ∙ ap (λ s. slice_get s.queue 0) (c.requires.indexed.lines c.args.name.now) ∙ next-front c.args.name.now c.args.self.now.held.items c.args.self.now.waiting.items k e)
