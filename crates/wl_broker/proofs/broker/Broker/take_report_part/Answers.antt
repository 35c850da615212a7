use Rattle.std.proofs.Common.{sym, ap, ◌∙◌, subst}
use Rattle.std.proofs.lemmas.Result.{IfOk-weaker}
use Rattle.wl_broker_reports.specs.ReportParts.{with_told}
use Rattle.wl_broker_reports.specs.PartialReports.{told}
use Rattle.wl_broker.specs.Broker.{Taking, copied, IsTaken, seat_of, partial_of}
use Rattle.wl_broker.proofs.Drops.{already_joined, held_by_newcomer, bad_report, part_twice, told_taken, join_if_taken}
use Rattle.wl_broker.proofs.Fields.{unseated, listed_seen, joined_seen, newcomer_seen, if_ok_mapped, if_err_always}
use Rattle.wl_broker.proofs.KeptParts.{bad_seen, there_seen, below_passed, fits_passed}
use Rattle.wl_broker.proofs.broker.Broker.take_report_part.Goals as goal

pub returns-then-is_joined-clause-dropped : goal.returns-then-is_joined-clause-dropped
returns-then-is_joined-clause-dropped g c = λ _.
    already_joined c.args.self.now c.args.tab c.args.partition (told c.args.heading c.args.entries.now) (joined_seen _ _ _ c.requires.seat c.is_joined.ensures ∙ c.if-is_joined.true)

pub returns-then-is_held_by_newcomer-clause-dropped :
    goal.returns-then-is_held_by_newcomer-clause-dropped
returns-then-is_held_by_newcomer-clause-dropped g c = λ _.
    let joined = joined_seen _ _ _ c.requires.seat c.is_joined.ensures ∙ c.if-is_joined.false in
    held_by_newcomer c.args.self.now c.args.tab c.args.partition (told c.args.heading c.args.entries.now) joined (newcomer_seen _ _ c.args.entries.now _ c.requires.place c.is_held_by_newcomer.ensures ∙ c.if-is_held_by_newcomer.true)

pub returns-then-is_bad_report-clause-dropped : goal.returns-then-is_bad_report-clause-dropped
returns-then-is_bad_report-clause-dropped g c = λ _.
    let b = c.self.inside in
    let joined = joined_seen _ _ _ c.requires.seat c.is_joined.ensures ∙ c.if-is_joined.false in
    let newcomer = newcomer_seen _ _ c.args.entries.now _ c.requires.place c.is_held_by_newcomer.ensures ∙ c.if-is_held_by_newcomer.false in
    bad_report c.args.self.now c.args.tab c.args.partition (told c.args.heading c.args.entries.now) joined newcomer (bad_seen b.generation b.listed.entries b.seats.entries b.partitions.entries b.kept.entries c.args.self.now c.args.tab c.args.heading c.args.entries.now _ c.self.view_is c.is_bad_report.ensures ∙ c.if-is_bad_report.true)

pub returns-then-has_part-clause-dropped : goal.returns-then-has_part-clause-dropped
returns-then-has_part-clause-dropped g c = λ _.
    let b = c.self.inside in
    let joined = joined_seen _ _ _ c.requires.seat c.is_joined.ensures ∙ c.if-is_joined.false in
    let newcomer = newcomer_seen _ _ c.args.entries.now _ c.requires.place c.is_held_by_newcomer.ensures ∙ c.if-is_held_by_newcomer.false in
    let fitting = bad_seen b.generation b.listed.entries b.seats.entries b.partitions.entries b.kept.entries c.args.self.now c.args.tab c.args.heading c.args.entries.now _ c.self.view_is c.is_bad_report.ensures ∙ c.if-is_bad_report.false in
    part_twice c.args.self.now c.args.tab c.args.partition (told c.args.heading c.args.entries.now) joined newcomer fitting (there_seen b.generation b.listed.entries b.seats.entries b.partitions.entries b.kept.entries c.args.self.now c.args.tab c.args.heading c.args.entries.now _ c.self.view_is c.has_part.ensures ∙ c.if-has_part.true)

pub join_if-requires-clause-new : goal.join_if-requires-clause-new
join_if-requires-clause-new g c =
    let b = c.self.inside in
    let joined = joined_seen _ _ _ c.requires.seat c.is_joined.ensures ∙ c.if-is_joined.false in
    unseated (seat_of c.args.self.now c.args.tab) joined c.requires.alive

pub join_if-requires-clause-placed : goal.join_if-requires-clause-placed
join_if-requires-clause-placed g c = listed_seen c.args.self.now c.args.tab c.args.partition c.requires.placed

pub join_if-requires-clause-below : goal.join_if-requires-clause-below
join_if-requires-clause-below g c =
    let b = c.self.inside in
    below_passed _ _ (bad_seen b.generation b.listed.entries b.seats.entries b.partitions.entries b.kept.entries c.args.self.now c.args.tab c.args.heading c.args.entries.now _ c.self.view_is c.is_bad_report.ensures ∙ c.if-is_bad_report.false)

pub join_if-requires-clause-fits : goal.join_if-requires-clause-fits
join_if-requires-clause-fits g c =
    let b = c.self.inside in
    fits_passed _ _ (bad_seen b.generation b.listed.entries b.seats.entries b.partitions.entries b.kept.entries c.args.self.now c.args.tab c.args.heading c.args.entries.now _ c.self.view_is c.is_bad_report.ensures ∙ c.if-is_bad_report.false)

pub join_if-requires-clause-missing : goal.join_if-requires-clause-missing
join_if-requires-clause-missing g c =
    let b = c.self.inside in
    there_seen b.generation b.listed.entries b.seats.entries b.partitions.entries b.kept.entries c.args.self.now c.args.tab c.args.heading c.args.entries.now _ c.self.view_is c.has_part.ensures ∙ c.if-has_part.false

pub returns-clause-taken : goal.returns-clause-taken
returns-clause-taken g c =
    let b = c.self.inside in
    let joined = joined_seen _ _ _ c.requires.seat c.is_joined.ensures ∙ c.if-is_joined.false in
    let newcomer = newcomer_seen _ _ c.args.entries.now _ c.requires.place c.is_held_by_newcomer.ensures ∙ c.if-is_held_by_newcomer.false in
    let fitting = bad_seen b.generation b.listed.entries b.seats.entries b.partitions.entries b.kept.entries c.args.self.now c.args.tab c.args.heading c.args.entries.now _ c.self.view_is c.is_bad_report.ensures ∙ c.if-is_bad_report.false in
    let missing = there_seen b.generation b.listed.entries b.seats.entries b.partitions.entries b.kept.entries c.args.self.now c.args.tab c.args.heading c.args.entries.now _ c.self.view_is c.has_part.ensures ∙ c.if-has_part.false in
    let taken = told_taken c.args.self.now c.args.tab c.args.partition (told c.args.heading c.args.entries.now) joined newcomer fitting missing in
    if_ok_mapped c.join_if.result c.map_err.result _ _ c.map_err.ensures.cases (IfOk-weaker c.join_if.result _ _ (λ all e. ap (copied c.args.copies) taken ∙ e) c.join_if.ensures.joined)

pub returns-clause-memory : goal.returns-clause-memory
returns-clause-memory g c =
    let b = c.self.inside in
    let joined = joined_seen _ _ _ c.requires.seat c.is_joined.ensures ∙ c.if-is_joined.false in
    let newcomer = newcomer_seen _ _ c.args.entries.now _ c.requires.place c.is_held_by_newcomer.ensures ∙ c.if-is_held_by_newcomer.false in
    let fitting = bad_seen b.generation b.listed.entries b.seats.entries b.partitions.entries b.kept.entries c.args.self.now c.args.tab c.args.heading c.args.entries.now _ c.self.view_is c.is_bad_report.ensures ∙ c.if-is_bad_report.false in
    let missing = there_seen b.generation b.listed.entries b.seats.entries b.partitions.entries b.kept.entries c.args.self.now c.args.tab c.args.heading c.args.entries.now _ c.self.view_is c.has_part.ensures ∙ c.if-has_part.false in
    let taken = told_taken c.args.self.now c.args.tab c.args.partition (told c.args.heading c.args.entries.now) joined newcomer fitting missing in
    if_err_always c.map_err.result _ (λ d _. subst (λ (x : Taking). IsTaken x) (sym taken) (join_if_taken c.args.self.now c.args.tab c.args.partition (with_told c.args.partition (told c.args.heading c.args.entries.now) (partial_of c.args.self.now c.args.tab))))
