-- What is known of a tab whose death the broker is told next.
use Rattle.std.proofs.Common.{◌≡◌, ℕ, true, List, ◌∷◌, Option, Some, None, refl, sym, ap, ◌∙◌, subst}
use Rattle.wl_draft.specs.declared.row.Row.{Row}
use Rattle.wl_draft.proofs.Membership.{apart, In-head}
use Rattle.wl_draft.specs.Membership.{In}
use Rattle.wl_broker.specs.declared.seat.TabSeat.{TabSeat}
use Rattle.wl_broker.specs.declared.seat.TabSeat.TheVariants.{Joined, Dead}
use Rattle.wl_broker.specs.Broker.{BrokerState, seat_of, manager_of, seated_at, or_else, listed_at, place_of, is_joined}
use Rattle.wl_world_model.specs.World.{partition_of}
use Rattle.wl_world_model.proofs.exclusion.Invariant.{broker_of, broker_in}
use Rattle.wl_world_model.proofs.exclusion.HeldAfterSettling.{Stands}
use Rattle.wl_library_model.specs.Library.{Library}
use Rattle.wl_library_model.specs.Events.{events}
use Rattle.wl_library_model.proofs.ProgressPlaces.{run-steady}
use Rattle.wl_quiescence.proofs.Reached.{IsReached, world_of, reached-sim, reached-current}
use Rattle.wl_quiescence.proofs.rest.Invariant.{IsResting}
use Rattle.wl_quiescence.proofs.hub.Deaths.{IsUntold}
use Rattle.wl_quiescence.proofs.facts.Listed.{reached-listed}
use Rattle.wl_quiescence.proofs.facts.Arrived.{reached-untold}

seated-place : (o : Option TabSeat) (x : Option ℕ) (q : ℕ) → is_joined o ≡ true → ((p : ℕ) → seated_at o ≡ Some p → q ≡ p) → or_else (seated_at o) x ≡ Some q
seated-place None x q j f = apart j refl
seated-place (Some (Joined p n m)) x q j f = ap (λ z. Some z) (sym (f p refl))
seated-place (Some Dead) x q j f = apart j refl

pub broker-now : (l : Library) (r : IsReached l) (b : BrokerState) → l.hub.supervised.broker ≡ Some b → broker_of (world_of l r) ≡ b
broker-now l r b up = ap (broker_in (world_of l r).kernel.generation) (sym (reached-sim l r).hub.broker ∙ up)

pub untold-known : (l : Library) → IsReached l → IsResting l → (b : BrokerState) (u : ℕ) (us : List ℕ) → l.hub.supervised.broker ≡ Some b → l.hub.untold ≡ u ∷ us → IsUntold l b u
unfolding place_of
untold-known l r x b u us up e = record {
  dead = reached-untold l r u (subst (In u) (sym e) (In-head refl));
  current = reached-current l r b up;
  once = reached-listed l r b up;
  homes = home;
}
  where
    home : (q : ℕ) (y : Row) → Stands y (manager_of b q) → y.client ≡ u → place_of b u ≡ Some q
    home q y i c =
        let w = world_of l r in
        let same = broker-now l r b up in
        let fits = (reached-sim l r).good.sound.locks.known q y (subst (λ (z : BrokerState). Stands y (manager_of z q)) (sym same) i) in
        let joined : is_joined (seat_of b u) ≡ true = subst (λ t. is_joined (seat_of b t) ≡ true) c ((x.keeping b up).rows q y i) in
        let place : (p : ℕ) → seated_at (seat_of b u) ≡ Some p → partition_of w u ≡ p = λ p a.
        (((run-steady (events r.steps)).places u).seated p (subst (λ (z : BrokerState). seated_at (seat_of z u) ≡ Some p) (sym same) a)).1 in
        seated-place (seat_of b u) (listed_at u b.listed) (partition_of w u) joined place ∙ ap (λ z. Some z) (subst (λ t. partition_of w t ≡ q) c fits.1)
