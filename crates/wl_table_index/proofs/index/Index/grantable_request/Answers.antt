use Rattle.std.proofs.Common.{◌≡◌, ◌∙◌, Some, None, cond, sym, ap, true, false, Bool}
use Rattle.std.specs.Prelude.{slice_get}
use Rattle.wl_table_index.specs.NameLines.{lets_in}
use Rattle.wl_table_index.specs.Index.{line_of}
use Rattle.wl_table_index.proofs.NextLemmas.{next-none, next-some, next-absent}
use Rattle.wl_table_index.proofs.index.Index.grantable_request.Goals as goal

pub returns-then-is_free : goal.returns-then-is_free
returns-then-is_free c =
    let t = c.args.self.now in
    let n = c.args.name.now in
    let e : Some c.in-Some.order ≡ slice_get (line_of n t.held.items t.waiting.items).queue 0 = c.in-Some.ensures ∙ ap (λ s. slice_get s.queue 0) (c.requires.lines n) in
    let b : lets_in (line_of n t.held.items t.waiting.items) c.in-Some-get.row.now.mode ≡ true = ap (λ s. lets_in s c.in-Some-get.row.now.mode) (sym (c.requires.lines n)) ∙ sym c.is_free.ensures ∙ c.if-is_free.true in
    sym (next-some n t.held.items t.waiting.items c.in-Some.order c.in-Some-get.row.now c.requires.waiting_rise e (sym c.in-Some-get.ensures) ∙ ap (λ (x : Bool). cond x (Some c.in-Some.order) None) b)

pub returns-else-is_free : goal.returns-else-is_free
returns-else-is_free c =
    let t = c.args.self.now in
    let n = c.args.name.now in
    let e : Some c.in-Some.order ≡ slice_get (line_of n t.held.items t.waiting.items).queue 0 = c.in-Some.ensures ∙ ap (λ s. slice_get s.queue 0) (c.requires.lines n) in
    let b : lets_in (line_of n t.held.items t.waiting.items) c.in-Some-get.row.now.mode ≡ false = ap (λ s. lets_in s c.in-Some-get.row.now.mode) (sym (c.requires.lines n)) ∙ sym c.is_free.ensures ∙ c.if-is_free.false in
    sym (next-some n t.held.items t.waiting.items c.in-Some.order c.in-Some-get.row.now c.requires.waiting_rise e (sym c.in-Some-get.ensures) ∙ ap (λ (x : Bool). cond x (Some c.in-Some.order) None) b)

pub returns-in-None-get : goal.returns-in-None-get
returns-in-None-get c =
    let t = c.args.self.now in
    let n = c.args.name.now in
    let e : Some c.in-Some.order ≡ slice_get (line_of n t.held.items t.waiting.items).queue 0 = c.in-Some.ensures ∙ ap (λ s. slice_get s.queue 0) (c.requires.lines n) in
    absurd (next-absent n t.held.items t.waiting.items c.in-Some.order c.requires.waiting_rise e (sym c.in-None-get.ensures))

pub returns-in-None : goal.returns-in-None
returns-in-None c =
    let t = c.args.self.now in
    let n = c.args.name.now in
    sym (next-none n t.held.items t.waiting.items (c.in-None.ensures ∙ ap (λ s. slice_get s.queue 0) (c.requires.lines n)))
