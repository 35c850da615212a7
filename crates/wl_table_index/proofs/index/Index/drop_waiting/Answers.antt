use Rattle.std.proofs.Common.{◌≡◌, ◌∙◌, ℕ, true, Some, sym}
use Rattle.wl_draft.specs.Tables.{find}
use Rattle.wl_table_index.specs.OrderNumbers.{without_order}
use Rattle.wl_table_index.specs.Nexts.{next_in, is_among}
use Rattle.wl_table_index.proofs.LeanLemmas.{lean-dropped, row-client}
use Rattle.wl_table_index.proofs.PlaceLemmas.{row-of, none-there}
use Rattle.wl_table_index.proofs.CandidateLemmas.{candidates-taken, others-all}
use Rattle.wl_table_index.proofs.index.Index.drop_waiting.Goals as goal

pub returns-in-Some-clause-candidates : goal.returns-in-Some-clause-candidates
returns-in-Some-clause-candidates c = λ all.
    let t = c.args.self.now in
    let o = c.args.order in
    let w = c.in-Some.row in
    let f : find t.waiting.items o ≡ Some w = sym c.in-Some.ensures.value in
    let same : c.forget_name.new.self.held.items ≡ t.held.items = c.forget_name.ensures.held ∙ c.take_waiting.ensures.held in
    let taken : c.forget_name.new.self.waiting.items ≡ without_order o t.waiting.items = c.forget_name.ensures.waiting ∙ c.take_waiting.ensures.waiting in
    let front : (j : ℕ) → next_in w.name t.held.items (without_order o t.waiting.items) ≡ Some j → is_among j c.note_front.new.candidates.items ≡ true = λ j n. c.note_front.ensures.front j (rw (c.take_waiting.ensures.held, c.take_waiting.ensures.waiting) n) in
    rw (same, taken) (candidates-taken c.args.candidates.now.items c.note_front.new.candidates.items t.held.items t.waiting.items o w c.requires.indexed.waiting_rise f (others-all c.args.candidates.now.items t.held.items t.waiting.items o all) c.note_front.ensures.kept front)

pub returns-in-Some-clause-lean : goal.returns-in-Some-clause-lean
returns-in-Some-clause-lean c = λ client number e l.
    let r = row-of client number c.args.self.now.waiting.items c.args.order e in
    lean-dropped c.args.self.now c.take_waiting.new.self c.forget_name.new.self c.in-Some.row client (row-client c.in-Some.row r.row (c.in-Some.ensures.value ∙ r.found) ∙ r.mine) c.in-Some.ensures.empties c.forget_name.ensures.names c.forget_name.ensures.clients l

pub returns-in-None-clause-candidates : goal.returns-in-None-clause-candidates
returns-in-None-clause-candidates c = absurd (none-there _ c.requires.there c.in-None.ensures.value)

pub returns-in-None-clause-lean : goal.returns-in-None-clause-lean
returns-in-None-clause-lean c = absurd (none-there _ c.requires.there c.in-None.ensures.value)
