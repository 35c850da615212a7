use Rattle.std.proofs.Common.{◌≡◌, ◌+◌, true, Option, eqb, length, sym, ap, ◌∙◌, subst}
use Rattle.std.proofs.lemmas.Result.{IfOk-weaker}
use Rattle.wl_broker_reports.specs.ReportParts.{Partial, whole_of, fits, came_in, with_told}
use Rattle.wl_broker_reports.specs.PartialReports.{told}
use Rattle.wl_broker_reports.proofs.KeptParts.{last-whole, whole-one, whole-more, below-more}
use Rattle.wl_broker.specs.Broker.{copied, partial_of, join}
use Rattle.wl_broker.proofs.KeptParts.{partial_seen, keeps_part, joins_whole}
use Rattle.wl_broker.proofs.broker.Broker.join_if.Goals as goal

pub join-requires-clause-below : goal.join-requires-clause-below
join-requires-clause-below g c =
    let b = c.self.inside in
    let x = told c.args.heading c.args.entries.now in
    let found = partial_seen b.generation b.listed.entries b.seats.entries b.partitions.entries b.kept.entries c.args.self.now c.args.tab c.self.view_is ∙ sym c.in-Some.ensures in
    let fitting = subst (λ (o : Option Partial). fits x o ≡ true) found c.requires.fits in
    below-more c.args.heading c.args.entries.now _ c.in-Some.kept.now fitting c.requires.below c.gathered.ensures.below (c.deref.ensures.value ∙ c.in_ok-gathered-in-Some.ensures.gathered)

pub returns-then-not-is_last-clause-joined : goal.returns-then-not-is_last-clause-joined
returns-then-not-is_last-clause-joined g c =
    let b = c.self.inside in
    let x = told c.args.heading c.args.entries.now in
    let seen = partial_seen b.generation b.listed.entries b.seats.entries b.partitions.entries b.kept.entries c.args.self.now c.args.tab c.self.view_is in
    let k = with_told c.args.partition x (partial_of c.args.self.now c.args.tab) in
    let last = c.is_last.ensures ∙ ap (λ (o : Option Partial). eqb (length (came_in o) + 1) x.parts) (sym seen) in
    let part = last-whole c.args.partition x (partial_of c.args.self.now c.args.tab) _ c.requires.missing last ∙ c.if-not-is_last.true in
    IfOk-weaker c.keep.result _ _ (λ all e. ap (copied c.args.copies) (keeps_part c.args.self.now c.args.tab c.args.partition k part) ∙ e) c.keep.ensures.kept

pub returns-in_ok-gathered-in-Some-clause-joined : goal.returns-in_ok-gathered-in-Some-clause-joined
returns-in_ok-gathered-in-Some-clause-joined g c =
    let b = c.self.inside in
    let p = c.args.partition in
    let x = told c.args.heading c.args.entries.now in
    let seen = partial_seen b.generation b.listed.entries b.seats.entries b.partitions.entries b.kept.entries c.args.self.now c.args.tab c.self.view_is in
    let k = with_told p x (partial_of c.args.self.now c.args.tab) in
    let last = c.is_last.ensures ∙ ap (λ (o : Option Partial). eqb (length (came_in o) + 1) x.parts) (sym seen) in
    let whole = last-whole p x (partial_of c.args.self.now c.args.tab) _ c.requires.missing last ∙ c.if-not-is_last.false in
    let all = whole-more p c.args.heading c.args.entries.now _ c.in-Some.kept.now (c.deref.ensures.value ∙ c.in_ok-gathered-in-Some.ensures.gathered) in
    let same = joins_whole c.args.self.now c.args.tab p k whole ∙ ap (λ (o : Option Partial). join c.args.self.now c.args.tab p (whole_of (with_told p x o))) (seen ∙ sym c.in-Some.ensures) ∙ ap (join c.args.self.now c.args.tab p) all in
    IfOk-weaker c.join.result _ _ (λ all e. ap (copied c.args.copies) same ∙ e) c.join.ensures.joined

pub returns-in-None-clause-joined : goal.returns-in-None-clause-joined
returns-in-None-clause-joined g c =
    let b = c.self.inside in
    let p = c.args.partition in
    let x = told c.args.heading c.args.entries.now in
    let seen = partial_seen b.generation b.listed.entries b.seats.entries b.partitions.entries b.kept.entries c.args.self.now c.args.tab c.self.view_is in
    let k = with_told p x (partial_of c.args.self.now c.args.tab) in
    let last = c.is_last.ensures ∙ ap (λ (o : Option Partial). eqb (length (came_in o) + 1) x.parts) (sym seen) in
    let whole = last-whole p x (partial_of c.args.self.now c.args.tab) _ c.requires.missing last ∙ c.if-not-is_last.false in
    let all = whole-one p c.args.heading c.args.entries.now in
    let same = joins_whole c.args.self.now c.args.tab p k whole ∙ ap (λ (o : Option Partial). join c.args.self.now c.args.tab p (whole_of (with_told p x o))) (seen ∙ sym c.in-None.ensures) ∙ ap (join c.args.self.now c.args.tab p) all in
    IfOk-weaker c.join-in-None.result _ _ (λ all e. ap (copied c.args.copies) same ∙ e) c.join-in-None.ensures.joined
