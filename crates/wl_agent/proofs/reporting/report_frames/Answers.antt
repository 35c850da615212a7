use Rattle.std.proofs.Common.{◌≡◌, ℕ, Bool, List, [], ◌∷◌, ◌++◌, map, take, drop, sym, ap, ◌∙◌, arith}
use Rattle.std.specs.List.{range_with_len}
use Rattle.std.proofs.lemmas.List.{take_min, drop_min}
use Rattle.wl_limits.specs.declared.frames.TheConstants.{ENTRY_LIMIT}
use Rattle.wl_grammar.specs.declared.frame.Report.{Report}
use Rattle.wl_grammar.specs.declared.frame.Frame.{Frame}
use Rattle.wl_grammar.specs.declared.frame.Frame.TheVariants as frame
use Rattle.wl_grammar.specs.PartCount.{part_count}
use Rattle.wl_grammar.proofs.Parts.{drop_part}
use Rattle.wl_agent.specs.Tab.{upward_frame, report_bodies}
use Rattle.wl_agent.proofs.ToldReports.{part_frame, told_at_once, told_in_parts, part_more}
use Rattle.wl_agent.proofs.reporting.report_frames.Goals as goal

pub returns-then-not-in_parts : goal.returns-then-not-in_parts
returns-then-not-in_parts c =
    let r = c.args.report.now in
    c.new.ensures ∙ c.in_ok-push.ensures.items ∙ ap (λ (fs : List Frame). fs ++ frame.Report c.in_ok-copy_of.field-0 ∷ []) c.new-frames.ensures.items
    ∙ ap (λ (x : Report). frame.Report x ∷ []) c.in_ok-copy_of.ensures ∙ told_at_once r ∙ ap (λ (b : Bool). map upward_frame (report_bodies b r)) (sym c.if-not-in_parts.true)

pub loop-part-preserved : goal.loop-part-preserved
loop-part-preserved c =
    let rest = c.loop-part.rest.now in
    let taken = c.in_ok-copies.ensures ∙ c.split_at.ensures.front ∙ ap (λ (n : ℕ). take n rest) c.min.ensures ∙ take_min ENTRY_LIMIT rest in
    let left = c.split_at.ensures.back ∙ ap (λ (n : ℕ). drop n rest) c.min.ensures ∙ drop_min ENTRY_LIMIT rest in
    (c.in_ok-push-2.ensures.items ∙ part_more c.args.report.now c.loop-part.part _ _ _ rest c.loop-part.invariant.0 taken c.loop-part.invariant.1 c.loop-part.invariant.2, drop_part c.loop-part.part _ rest _ c.loop-part.invariant.1 left, c.loop-part.invariant.2)

pub returns : goal.returns
returns c =
    let r = c.args.report.now in
    let all : c.loop-part.part ≡ part_count r.entries = omega (arith, c.loop-part.auto.part-end, c.loop-part-test.false, c.loop-part.invariant.2) in
    c.new-2.ensures ∙ c.loop-part.invariant.0 ∙ ap (λ (n : ℕ). map (part_frame r) (range_with_len 0 n)) all ∙ told_in_parts r
    ∙ ap (λ (b : Bool). map upward_frame (report_bodies b r)) (sym c.if-not-in_parts.false)
