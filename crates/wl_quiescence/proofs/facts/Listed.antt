-- In all worlds the broker has each listed tab once.
use Rattle.std.proofs.Common.{◌≡◌, Some, sym, ap, ◌∙◌, subst}
use Rattle.std.specs.Prelude.{⊤}
use Rattle.wl_grammar.specs.Grammar.{TabsRiseFrom}
use Rattle.wl_broker.specs.Broker.{BrokerState}
use Rattle.wl_broker.specs.BrokerLaws.{IsListedOnce}
use Rattle.wl_broker.proofs.Takings.{taking-Takes, burial-Buries}
use Rattle.wl_world_model.proofs.exclusion.Invariant.{broker_in}
use Rattle.wl_library_model.specs.Library.{Library}
use Rattle.wl_library_model.specs.Events.{events}
use Rattle.wl_quiescence.proofs.Reached.{IsReached, world_of, reached-sim}
use Rattle.wl_quiescence.proofs.facts.Induction.{Kept, run-kept}
use Rattle.wl_quiescence.proofs.hub.Taken.{takes-listed}
use Rattle.wl_quiescence.proofs.hub.Deaths.{listed-same}

once-kept : Kept (λ w. ⊤) (λ w b. IsListedOnce b)
once-kept = record {
  same = λ w v b t k c x. x;
  later = λ w v g f later one e x. subst (λ (z : BrokerState). IsListedOnce z) (sym e) x;
  takes = λ w b g f x s i c outs e. subst (TabsRiseFrom 1) (sym (takes-listed b s.tab s.partition (taking-Takes b s c outs e))) x;
  dies = λ w b t x. subst (TabsRiseFrom 1) (sym (listed-same b t (burial-Buries b t))) x;
  first = tt;
  fresh = λ w v b g listed t c up low x. up;
}

pub reached-listed : (l : Library) → IsReached l → (b : BrokerState) → l.hub.supervised.broker ≡ Some b → IsListedOnce b
reached-listed l r b up =
    subst (λ (z : BrokerState). IsListedOnce z) (ap (broker_in (world_of l r).kernel.generation) (sym (reached-sim l r).hub.broker ∙ up))
    (run-kept (λ w. ⊤) (λ w b. IsListedOnce b) once-kept (λ es. tt) (events r.steps))
