use Rattle.std.proofs.Common.{List, ◌≤◌, sym, ap, ◌∙◌, subst, arith}
use Rattle.std.proofs.lemmas.Result.{IfOk-weaker, IfErr-weaker}
use Rattle.wl_draft.specs.declared.row.Entry.{Entry}
use Rattle.wl_grammar.specs.declared.frame.Upward.{Upward}
use Rattle.wl_broker_reports.specs.ReportParts.{Told}
use Rattle.wl_broker_reports.specs.PartialReports.{told}
use Rattle.wl_grammar.specs.Generation.{generation_of}
use Rattle.wl_broker.specs.Broker.{BrokerState, copied, seat_of, Taking, IsTaken, take_inner, take_report_part}
use Rattle.wl_broker.proofs.Drops.{old_generation, later_generation, dead_tab, misplaced, inner_taken}
use Rattle.wl_broker.proofs.Fields.{dead_seen, misplaced_seen}
use Rattle.wl_broker.proofs.broker.Broker.take_copies.Goals as goal

pub returns-then-generation-self-clause-dropped : goal.returns-then-generation-self-clause-dropped
returns-then-generation-self-clause-dropped g c = λ _.
    let b = c.self.inside in
    let mine = ap (λ (x : BrokerState). x.generation) c.self.view_is in
    old_generation c.args.self.now c.args.stamped.now (omega (arith, mine, c.generation-generation.ensures, c.if-generation-self.true))

pub returns-then-generation-self-2-clause-dropped :
    goal.returns-then-generation-self-2-clause-dropped
returns-then-generation-self-2-clause-dropped g c = λ _.
    let b = c.self.inside in
    let mine = ap (λ (x : BrokerState). x.generation) c.self.view_is in
    later_generation c.args.self.now c.args.stamped.now (omega (arith, mine, c.generation-generation.ensures, c.if-generation-self-2.true))

pub returns-then-is_dead-clause-dropped : goal.returns-then-is_dead-clause-dropped
returns-then-is_dead-clause-dropped g c = λ _.
    let b = c.self.inside in
    let mine = ap (λ (x : BrokerState). x.generation) c.self.view_is in
    let old : c.args.self.now.generation ≤ generation_of c.args.stamped.now.inner = omega (arith, mine, c.generation-generation.ensures, c.if-generation-self.false) in
    let later : generation_of c.args.stamped.now.inner ≤ c.args.self.now.generation = omega (arith, mine, c.generation-generation.ensures, c.if-generation-self-2.false) in
    dead_tab c.args.self.now c.args.stamped.now old later (dead_seen b.generation b.listed.entries b.seats.entries b.partitions.entries b.kept.entries c.args.self.now c.args.stamped.now.tab _ _ c.self.view_is c.seat_of-seat.ensures c.is_dead.ensures ∙ c.if-is_dead.true)

pub returns-then-is_misplaced-clause-dropped : goal.returns-then-is_misplaced-clause-dropped
returns-then-is_misplaced-clause-dropped g c = λ _.
    let b = c.self.inside in
    let mine = ap (λ (x : BrokerState). x.generation) c.self.view_is in
    let old : c.args.self.now.generation ≤ generation_of c.args.stamped.now.inner = omega (arith, mine, c.generation-generation.ensures, c.if-generation-self.false) in
    let later : generation_of c.args.stamped.now.inner ≤ c.args.self.now.generation = omega (arith, mine, c.generation-generation.ensures, c.if-generation-self-2.false) in
    let alive = dead_seen b.generation b.listed.entries b.seats.entries b.partitions.entries b.kept.entries c.args.self.now c.args.stamped.now.tab _ _ c.self.view_is c.seat_of-seat.ensures c.is_dead.ensures ∙ c.if-is_dead.false in
    misplaced c.args.self.now c.args.stamped.now old later alive (misplaced_seen b.generation b.listed.entries b.seats.entries b.partitions.entries b.kept.entries c.args.self.now c.args.stamped.now.tab c.args.stamped.now.partition _ _ _ c.self.view_is c.listed_at-place.ensures c.seat_of-seat.ensures c.is_misplaced.ensures ∙ c.if-is_misplaced.true)

pub take_command-requires : goal.take_command-requires
take_command-requires g c =
    let b = c.self.inside in
    record {
      seat = c.seat_of-seat.ensures ∙ ap (λ (x : BrokerState). seat_of x c.args.stamped.now.tab) c.self.view_is;
      placed = misplaced_seen b.generation b.listed.entries b.seats.entries b.partitions.entries b.kept.entries c.args.self.now c.args.stamped.now.tab c.args.stamped.now.partition _ _ _ c.self.view_is c.listed_at-place.ensures c.seat_of-seat.ensures c.is_misplaced.ensures ∙ c.if-is_misplaced.false;
    }

pub take_report_part-requires-clause-alive : goal.take_report_part-requires-clause-alive
take_report_part-requires-clause-alive g c =
    let b = c.self.inside in
    dead_seen b.generation b.listed.entries b.seats.entries b.partitions.entries b.kept.entries c.args.self.now c.args.stamped.now.tab _ _ c.self.view_is c.seat_of-seat.ensures c.is_dead.ensures ∙ c.if-is_dead.false

pub take_report_part-requires-clause-placed : goal.take_report_part-requires-clause-placed
take_report_part-requires-clause-placed g c =
    let b = c.self.inside in
    misplaced_seen b.generation b.listed.entries b.seats.entries b.partitions.entries b.kept.entries c.args.self.now c.args.stamped.now.tab c.args.stamped.now.partition _ _ _ c.self.view_is c.listed_at-place.ensures c.seat_of-seat.ensures c.is_misplaced.ensures ∙ c.if-is_misplaced.false

pub take_report_part-requires-in-ReportPart-clause-alive : goal.take_report_part-requires-in-ReportPart-clause-alive
take_report_part-requires-in-ReportPart-clause-alive g c =
    let b = c.self.inside in
    dead_seen b.generation b.listed.entries b.seats.entries b.partitions.entries b.kept.entries c.args.self.now c.args.stamped.now.tab _ _ c.self.view_is c.seat_of-seat.ensures c.is_dead.ensures ∙ c.if-is_dead.false

pub take_report_part-requires-in-ReportPart-clause-placed : goal.take_report_part-requires-in-ReportPart-clause-placed
take_report_part-requires-in-ReportPart-clause-placed g c =
    let b = c.self.inside in
    misplaced_seen b.generation b.listed.entries b.seats.entries b.partitions.entries b.kept.entries c.args.self.now c.args.stamped.now.tab c.args.stamped.now.partition _ _ _ c.self.view_is c.listed_at-place.ensures c.seat_of-seat.ensures c.is_misplaced.ensures ∙ c.if-is_misplaced.false

pub returns-in-Command-clause-taken : goal.returns-in-Command-clause-taken
returns-in-Command-clause-taken g c =
    let b = c.self.inside in
    let mine = ap (λ (x : BrokerState). x.generation) c.self.view_is in
    let old : c.args.self.now.generation ≤ generation_of c.args.stamped.now.inner = omega (arith, mine, c.generation-generation.ensures, c.if-generation-self.false) in
    let later : generation_of c.args.stamped.now.inner ≤ c.args.self.now.generation = omega (arith, mine, c.generation-generation.ensures, c.if-generation-self-2.false) in
    let alive = dead_seen b.generation b.listed.entries b.seats.entries b.partitions.entries b.kept.entries c.args.self.now c.args.stamped.now.tab _ _ c.self.view_is c.seat_of-seat.ensures c.is_dead.ensures ∙ c.if-is_dead.false in
    let placed = misplaced_seen b.generation b.listed.entries b.seats.entries b.partitions.entries b.kept.entries c.args.self.now c.args.stamped.now.tab c.args.stamped.now.partition _ _ _ c.self.view_is c.listed_at-place.ensures c.seat_of-seat.ensures c.is_misplaced.ensures ∙ c.if-is_misplaced.false in
    let inner = inner_taken c.args.self.now c.args.stamped.now old later alive placed ∙ ap (λ (x : Upward). take_inner c.args.self.now c.args.stamped.now.tab c.args.stamped.now.partition x) c.in-Command.is in
    IfOk-weaker c.take_command.result _ _ (λ all e. ap (copied c.args.copies) inner ∙ e) c.take_command.ensures.taken

pub returns-in-Command-clause-dropped : goal.returns-in-Command-clause-dropped
returns-in-Command-clause-dropped g c =
    let b = c.self.inside in
    let mine = ap (λ (x : BrokerState). x.generation) c.self.view_is in
    let old : c.args.self.now.generation ≤ generation_of c.args.stamped.now.inner = omega (arith, mine, c.generation-generation.ensures, c.if-generation-self.false) in
    let later : generation_of c.args.stamped.now.inner ≤ c.args.self.now.generation = omega (arith, mine, c.generation-generation.ensures, c.if-generation-self-2.false) in
    let alive = dead_seen b.generation b.listed.entries b.seats.entries b.partitions.entries b.kept.entries c.args.self.now c.args.stamped.now.tab _ _ c.self.view_is c.seat_of-seat.ensures c.is_dead.ensures ∙ c.if-is_dead.false in
    let placed = misplaced_seen b.generation b.listed.entries b.seats.entries b.partitions.entries b.kept.entries c.args.self.now c.args.stamped.now.tab c.args.stamped.now.partition _ _ _ c.self.view_is c.listed_at-place.ensures c.seat_of-seat.ensures c.is_misplaced.ensures ∙ c.if-is_misplaced.false in
    let inner = inner_taken c.args.self.now c.args.stamped.now old later alive placed ∙ ap (λ (x : Upward). take_inner c.args.self.now c.args.stamped.now.tab c.args.stamped.now.partition x) c.in-Command.is in
    IfErr-weaker c.take_command.result _ _ (λ d e h. inner ∙ e h) c.take_command.ensures.dropped

pub returns-in-Command-clause-memory : goal.returns-in-Command-clause-memory
returns-in-Command-clause-memory g c =
    let b = c.self.inside in
    let mine = ap (λ (x : BrokerState). x.generation) c.self.view_is in
    let old : c.args.self.now.generation ≤ generation_of c.args.stamped.now.inner = omega (arith, mine, c.generation-generation.ensures, c.if-generation-self.false) in
    let later : generation_of c.args.stamped.now.inner ≤ c.args.self.now.generation = omega (arith, mine, c.generation-generation.ensures, c.if-generation-self-2.false) in
    let alive = dead_seen b.generation b.listed.entries b.seats.entries b.partitions.entries b.kept.entries c.args.self.now c.args.stamped.now.tab _ _ c.self.view_is c.seat_of-seat.ensures c.is_dead.ensures ∙ c.if-is_dead.false in
    let placed = misplaced_seen b.generation b.listed.entries b.seats.entries b.partitions.entries b.kept.entries c.args.self.now c.args.stamped.now.tab c.args.stamped.now.partition _ _ _ c.self.view_is c.listed_at-place.ensures c.seat_of-seat.ensures c.is_misplaced.ensures ∙ c.if-is_misplaced.false in
    let inner = inner_taken c.args.self.now c.args.stamped.now old later alive placed ∙ ap (λ (x : Upward). take_inner c.args.self.now c.args.stamped.now.tab c.args.stamped.now.partition x) c.in-Command.is in
    IfErr-weaker c.take_command.result _ _ (λ d e h. subst (λ (x : Taking). IsTaken x) (sym inner) (e h)) c.take_command.ensures.memory

pub returns-in-Report-clause-taken : goal.returns-in-Report-clause-taken
returns-in-Report-clause-taken g c =
    let b = c.self.inside in
    let mine = ap (λ (x : BrokerState). x.generation) c.self.view_is in
    let old : c.args.self.now.generation ≤ generation_of c.args.stamped.now.inner = omega (arith, mine, c.generation-generation.ensures, c.if-generation-self.false) in
    let later : generation_of c.args.stamped.now.inner ≤ c.args.self.now.generation = omega (arith, mine, c.generation-generation.ensures, c.if-generation-self-2.false) in
    let alive = dead_seen b.generation b.listed.entries b.seats.entries b.partitions.entries b.kept.entries c.args.self.now c.args.stamped.now.tab _ _ c.self.view_is c.seat_of-seat.ensures c.is_dead.ensures ∙ c.if-is_dead.false in
    let placed = misplaced_seen b.generation b.listed.entries b.seats.entries b.partitions.entries b.kept.entries c.args.self.now c.args.stamped.now.tab c.args.stamped.now.partition _ _ _ c.self.view_is c.listed_at-place.ensures c.seat_of-seat.ensures c.is_misplaced.ensures ∙ c.if-is_misplaced.false in
    let inner = inner_taken c.args.self.now c.args.stamped.now old later alive placed ∙ ap (λ (x : Upward). take_inner c.args.self.now c.args.stamped.now.tab c.args.stamped.now.partition x) c.in-Report.is ∙ ap (λ (x : Told). take_report_part c.args.self.now c.args.stamped.now.tab c.args.stamped.now.partition x) (sym (ap (λ (es : List Entry). told c.at_once.result es) c.as_slice.ensures ∙ c.at_once.ensures)) in
    IfOk-weaker c.take_report_part.result _ _ (λ all e. ap (copied c.args.copies) inner ∙ e) c.take_report_part.ensures.taken

pub returns-in-Report-clause-dropped : goal.returns-in-Report-clause-dropped
returns-in-Report-clause-dropped g c =
    let b = c.self.inside in
    let mine = ap (λ (x : BrokerState). x.generation) c.self.view_is in
    let old : c.args.self.now.generation ≤ generation_of c.args.stamped.now.inner = omega (arith, mine, c.generation-generation.ensures, c.if-generation-self.false) in
    let later : generation_of c.args.stamped.now.inner ≤ c.args.self.now.generation = omega (arith, mine, c.generation-generation.ensures, c.if-generation-self-2.false) in
    let alive = dead_seen b.generation b.listed.entries b.seats.entries b.partitions.entries b.kept.entries c.args.self.now c.args.stamped.now.tab _ _ c.self.view_is c.seat_of-seat.ensures c.is_dead.ensures ∙ c.if-is_dead.false in
    let placed = misplaced_seen b.generation b.listed.entries b.seats.entries b.partitions.entries b.kept.entries c.args.self.now c.args.stamped.now.tab c.args.stamped.now.partition _ _ _ c.self.view_is c.listed_at-place.ensures c.seat_of-seat.ensures c.is_misplaced.ensures ∙ c.if-is_misplaced.false in
    let inner = inner_taken c.args.self.now c.args.stamped.now old later alive placed ∙ ap (λ (x : Upward). take_inner c.args.self.now c.args.stamped.now.tab c.args.stamped.now.partition x) c.in-Report.is ∙ ap (λ (x : Told). take_report_part c.args.self.now c.args.stamped.now.tab c.args.stamped.now.partition x) (sym (ap (λ (es : List Entry). told c.at_once.result es) c.as_slice.ensures ∙ c.at_once.ensures)) in
    IfErr-weaker c.take_report_part.result _ _ (λ d e h. inner ∙ e h) c.take_report_part.ensures.dropped

pub returns-in-Report-clause-memory : goal.returns-in-Report-clause-memory
returns-in-Report-clause-memory g c =
    let b = c.self.inside in
    let mine = ap (λ (x : BrokerState). x.generation) c.self.view_is in
    let old : c.args.self.now.generation ≤ generation_of c.args.stamped.now.inner = omega (arith, mine, c.generation-generation.ensures, c.if-generation-self.false) in
    let later : generation_of c.args.stamped.now.inner ≤ c.args.self.now.generation = omega (arith, mine, c.generation-generation.ensures, c.if-generation-self-2.false) in
    let alive = dead_seen b.generation b.listed.entries b.seats.entries b.partitions.entries b.kept.entries c.args.self.now c.args.stamped.now.tab _ _ c.self.view_is c.seat_of-seat.ensures c.is_dead.ensures ∙ c.if-is_dead.false in
    let placed = misplaced_seen b.generation b.listed.entries b.seats.entries b.partitions.entries b.kept.entries c.args.self.now c.args.stamped.now.tab c.args.stamped.now.partition _ _ _ c.self.view_is c.listed_at-place.ensures c.seat_of-seat.ensures c.is_misplaced.ensures ∙ c.if-is_misplaced.false in
    let inner = inner_taken c.args.self.now c.args.stamped.now old later alive placed ∙ ap (λ (x : Upward). take_inner c.args.self.now c.args.stamped.now.tab c.args.stamped.now.partition x) c.in-Report.is ∙ ap (λ (x : Told). take_report_part c.args.self.now c.args.stamped.now.tab c.args.stamped.now.partition x) (sym (ap (λ (es : List Entry). told c.at_once.result es) c.as_slice.ensures ∙ c.at_once.ensures)) in
    IfErr-weaker c.take_report_part.result _ _ (λ d e h. subst (λ (x : Taking). IsTaken x) (sym inner) (e h)) c.take_report_part.ensures.memory

pub returns-in-ReportPart-clause-taken : goal.returns-in-ReportPart-clause-taken
returns-in-ReportPart-clause-taken g c =
    let b = c.self.inside in
    let mine = ap (λ (x : BrokerState). x.generation) c.self.view_is in
    let old : c.args.self.now.generation ≤ generation_of c.args.stamped.now.inner = omega (arith, mine, c.generation-generation.ensures, c.if-generation-self.false) in
    let later : generation_of c.args.stamped.now.inner ≤ c.args.self.now.generation = omega (arith, mine, c.generation-generation.ensures, c.if-generation-self-2.false) in
    let alive = dead_seen b.generation b.listed.entries b.seats.entries b.partitions.entries b.kept.entries c.args.self.now c.args.stamped.now.tab _ _ c.self.view_is c.seat_of-seat.ensures c.is_dead.ensures ∙ c.if-is_dead.false in
    let placed = misplaced_seen b.generation b.listed.entries b.seats.entries b.partitions.entries b.kept.entries c.args.self.now c.args.stamped.now.tab c.args.stamped.now.partition _ _ _ c.self.view_is c.listed_at-place.ensures c.seat_of-seat.ensures c.is_misplaced.ensures ∙ c.if-is_misplaced.false in
    let inner = inner_taken c.args.self.now c.args.stamped.now old later alive placed ∙ ap (λ (x : Upward). take_inner c.args.self.now c.args.stamped.now.tab c.args.stamped.now.partition x) c.in-ReportPart.is ∙ ap (λ (x : Told). take_report_part c.args.self.now c.args.stamped.now.tab c.args.stamped.now.partition x) (sym (ap (λ (es : List Entry). told c.in_part.result es) c.as_slice-in-ReportPart.ensures ∙ c.in_part.ensures)) in
    IfOk-weaker c.take_report_part-in-ReportPart.result _ _ (λ all e. ap (copied c.args.copies) inner ∙ e) c.take_report_part-in-ReportPart.ensures.taken

pub returns-in-ReportPart-clause-dropped : goal.returns-in-ReportPart-clause-dropped
returns-in-ReportPart-clause-dropped g c =
    let b = c.self.inside in
    let mine = ap (λ (x : BrokerState). x.generation) c.self.view_is in
    let old : c.args.self.now.generation ≤ generation_of c.args.stamped.now.inner = omega (arith, mine, c.generation-generation.ensures, c.if-generation-self.false) in
    let later : generation_of c.args.stamped.now.inner ≤ c.args.self.now.generation = omega (arith, mine, c.generation-generation.ensures, c.if-generation-self-2.false) in
    let alive = dead_seen b.generation b.listed.entries b.seats.entries b.partitions.entries b.kept.entries c.args.self.now c.args.stamped.now.tab _ _ c.self.view_is c.seat_of-seat.ensures c.is_dead.ensures ∙ c.if-is_dead.false in
    let placed = misplaced_seen b.generation b.listed.entries b.seats.entries b.partitions.entries b.kept.entries c.args.self.now c.args.stamped.now.tab c.args.stamped.now.partition _ _ _ c.self.view_is c.listed_at-place.ensures c.seat_of-seat.ensures c.is_misplaced.ensures ∙ c.if-is_misplaced.false in
    let inner = inner_taken c.args.self.now c.args.stamped.now old later alive placed ∙ ap (λ (x : Upward). take_inner c.args.self.now c.args.stamped.now.tab c.args.stamped.now.partition x) c.in-ReportPart.is ∙ ap (λ (x : Told). take_report_part c.args.self.now c.args.stamped.now.tab c.args.stamped.now.partition x) (sym (ap (λ (es : List Entry). told c.in_part.result es) c.as_slice-in-ReportPart.ensures ∙ c.in_part.ensures)) in
    IfErr-weaker c.take_report_part-in-ReportPart.result _ _ (λ d e h. inner ∙ e h) c.take_report_part-in-ReportPart.ensures.dropped

pub returns-in-ReportPart-clause-memory : goal.returns-in-ReportPart-clause-memory
returns-in-ReportPart-clause-memory g c =
    let b = c.self.inside in
    let mine = ap (λ (x : BrokerState). x.generation) c.self.view_is in
    let old : c.args.self.now.generation ≤ generation_of c.args.stamped.now.inner = omega (arith, mine, c.generation-generation.ensures, c.if-generation-self.false) in
    let later : generation_of c.args.stamped.now.inner ≤ c.args.self.now.generation = omega (arith, mine, c.generation-generation.ensures, c.if-generation-self-2.false) in
    let alive = dead_seen b.generation b.listed.entries b.seats.entries b.partitions.entries b.kept.entries c.args.self.now c.args.stamped.now.tab _ _ c.self.view_is c.seat_of-seat.ensures c.is_dead.ensures ∙ c.if-is_dead.false in
    let placed = misplaced_seen b.generation b.listed.entries b.seats.entries b.partitions.entries b.kept.entries c.args.self.now c.args.stamped.now.tab c.args.stamped.now.partition _ _ _ c.self.view_is c.listed_at-place.ensures c.seat_of-seat.ensures c.is_misplaced.ensures ∙ c.if-is_misplaced.false in
    let inner = inner_taken c.args.self.now c.args.stamped.now old later alive placed ∙ ap (λ (x : Upward). take_inner c.args.self.now c.args.stamped.now.tab c.args.stamped.now.partition x) c.in-ReportPart.is ∙ ap (λ (x : Told). take_report_part c.args.self.now c.args.stamped.now.tab c.args.stamped.now.partition x) (sym (ap (λ (es : List Entry). told c.in_part.result es) c.as_slice-in-ReportPart.ensures ∙ c.in_part.ensures)) in
    IfErr-weaker c.take_report_part-in-ReportPart.result _ _ (λ d e h. subst (λ (x : Taking). IsTaken x) (sym inner) (e h)) c.take_report_part-in-ReportPart.ensures.memory
