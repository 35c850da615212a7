use Rattle.std.proofs.Common.{List, Some, sym, ap, ◌∙◌}
use Rattle.std.proofs.Math.Path.{ap₂}
use Rattle.std.proofs.lemmas.Result.{IfOk-weaker}
use Rattle.wl_grammar.specs.declared.frame.Addressed.{Addressed}
use Rattle.wl_broker.specs.declared.seat.TabSeat.{TabSeat}
use Rattle.wl_broker.specs.Broker.{BrokerState, listed_at, repeated}
use Rattle.wl_broker.proofs.BrokerSteps.{burial_again, burial_joined, burial_listed, burial_stranger}
use Rattle.wl_broker.proofs.Fields.{seat_seen}
use Rattle.wl_broker.proofs.broker.Broker.dead_copies.Goals as goal

pub returns-in-Some-Dead-clause-dead : goal.returns-in-Some-Dead-clause-dead
returns-in-Some-Dead-clause-dead g c =
    let b = c.self.inside in
    let seat = seat_seen b.generation b.listed.entries b.seats.entries b.partitions.entries b.kept.entries c.args.self.now c.args.tab _ c.self.view_is c.seat_of.ensures ∙ c.in-Some-Dead.is ∙ ap (λ (s : TabSeat). Some s) c.in-Some-Dead.field-0-is in
    IfOk-weaker c.say_nothing.result _ _ (λ all e. ap (repeated c.args.copies) (burial_again c.args.self.now c.args.tab seat) ∙ ap₂ (λ (x : BrokerState) (xs : List (List Addressed)). (x, xs)) (sym c.say_nothing.ensures.same) (sym e)) c.say_nothing.ensures.nothing

pub returns-in-Some-Joined-clause-dead : goal.returns-in-Some-Joined-clause-dead
returns-in-Some-Joined-clause-dead g c =
    let b = c.self.inside in
    let seat = seat_seen b.generation b.listed.entries b.seats.entries b.partitions.entries b.kept.entries c.args.self.now c.args.tab _ c.self.view_is c.seat_of.ensures ∙ c.in-Some-Joined.is ∙ ap (λ (s : TabSeat). Some s) c.in-Some-Joined.field-0-is in
    IfOk-weaker c.remove_tab.result _ _ (λ all e. ap (repeated c.args.copies) (burial_joined c.args.self.now c.args.tab c.in-Some-Joined.partition _ _ seat) ∙ e) c.remove_tab.ensures.buried

pub returns-in-Some-clause-dead : goal.returns-in-Some-clause-dead
returns-in-Some-clause-dead g c =
    let b = c.self.inside in
    let seat = seat_seen b.generation b.listed.entries b.seats.entries b.partitions.entries b.kept.entries c.args.self.now c.args.tab _ c.self.view_is c.seat_of.ensures ∙ c.in-None.is in
    let place = ap (λ (x : BrokerState). listed_at c.args.tab x.listed) (sym c.self.view_is) ∙ sym c.listed_at.ensures ∙ c.in-Some.is in
    IfOk-weaker c.remove_tab-in-Some.result _ _ (λ all e. ap (repeated c.args.copies) (burial_listed c.args.self.now c.args.tab c.in-Some.partition seat place) ∙ e) c.remove_tab-in-Some.ensures.buried

pub remove_unknown_tab-requires : goal.remove_unknown_tab-requires
remove_unknown_tab-requires g c =
    let b = c.self.inside in
    record {
      new = seat_seen b.generation b.listed.entries b.seats.entries b.partitions.entries b.kept.entries c.args.self.now c.args.tab _ c.self.view_is c.seat_of.ensures ∙ c.in-None.is;
      unlisted = ap (λ (x : BrokerState). listed_at c.args.tab x.listed) (sym c.self.view_is) ∙ sym c.listed_at.ensures ∙ c.in-None-listed_at.is;
    }

pub returns-in-None-listed_at-clause-dead : goal.returns-in-None-listed_at-clause-dead
returns-in-None-listed_at-clause-dead g c =
    let b = c.self.inside in
    let seat = seat_seen b.generation b.listed.entries b.seats.entries b.partitions.entries b.kept.entries c.args.self.now c.args.tab _ c.self.view_is c.seat_of.ensures ∙ c.in-None.is in
    let place = ap (λ (x : BrokerState). listed_at c.args.tab x.listed) (sym c.self.view_is) ∙ sym c.listed_at.ensures ∙ c.in-None-listed_at.is in
    IfOk-weaker c.remove_unknown_tab.result _ _ (λ all e. ap (repeated c.args.copies) (burial_stranger c.args.self.now c.args.tab seat place) ∙ e) c.remove_unknown_tab.ensures.buried
