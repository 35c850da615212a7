-- What is known of the oldest command that has arrived of an honest tab.
use Rattle.std.proofs.Common.{◌≡◌, ◌≢◌, ◌⊎◌, inl, inr, ⊎_elim, ℕ, ◌<◌, ◌≤◌, true, false, not, List, ◌∷◌, length, Some, refl, sym, ap, ◌∙◌, subst, arith}
use Rattle.std.specs.Prelude.{◌==◌}
use Rattle.std.specs.List.{list_any}
use Rattle.std.proofs.lemmas.Bool.{cases_Bool, and_parts, not-true, false_from_ne_true}
use Rattle.wl_draft.specs.Membership.{In}
use Rattle.wl_draft.proofs.Membership.{apart, In-head}
use Rattle.wl_grammar.specs.declared.frame.Command.{Command}
use Rattle.wl_grammar.specs.declared.frame.Frame.{Frame}
use Rattle.wl_grammar.specs.declared.frame.Frame.TheVariants as frame
use Rattle.wl_limits.specs.declared.tabs.TheConstants.{LAST_NUMBER}
use Rattle.wl_broker.specs.Broker.{BrokerState, seat_of, is_dead, is_misplaced}
use Rattle.wl_agent.specs.Tab.{TabState, operation_of}
use Rattle.wl_kernel.specs.Kernel.{is_living, partition_number}
use Rattle.wl_world_model.specs.World.{WorldState, tab_of, partition_of}
use Rattle.wl_world_model.specs.Holdings.{IsHonest}
use Rattle.wl_world_model.proofs.exclusion.Invariant.{broker_of, limit_in}
use Rattle.wl_library_model.specs.Library.{Library, client_of, lives, is_taken, runs}
use Rattle.wl_library_model.specs.Events.{events}
use Rattle.wl_library_model.specs.Simulation.{IsSettled, IsRepeat, GoesUp}
use Rattle.wl_library_model.proofs.Carried.{Sim}
use Rattle.wl_library_model.proofs.ProgressPlaces.{run-steady, well-placed}
use Rattle.wl_quiescence.proofs.Reached.{IsReached, world_of, reached-sim, reached-current}
use Rattle.wl_quiescence.proofs.rest.Invariant.{view}
use Rattle.wl_quiescence.proofs.client.Frames.{client-locks}
use Rattle.wl_quiescence.proofs.hub.Sender.{IsSaidBy}
use Rattle.wl_quiescence.proofs.facts.Issued.{issued-few}
use Rattle.wl_quiescence.proofs.facts.Untold.{broker-now}

-- An honest tab that lives is not dead at the broker, and stands there in its own partition.
pub runs-honest : (l : Library) (r : IsReached l) (t : ℕ) → runs l t ≡ true → IsHonest (world_of l r) t
runs-honest l r t run = subst (λ zs. list_any (λ u. u == t) zs ≡ false) (reached-sim l r).taken (not-true _ (and_parts (lives l t) (not (is_taken l t)) run).1)

pub runs-alive : (l : Library) (r : IsReached l) (b : BrokerState) (t : ℕ) → l.hub.supervised.broker ≡ Some b → runs l t ≡ true → is_dead (seat_of b t) ≡ false
runs-alive l r b t up run =
    let s = reached-sim l r in
    let living = (and_parts (lives l t) (not (is_taken l t)) run).0 in
    false_from_ne_true _ (λ d. apart (subst (λ z. is_living z t ≡ true) s.hub.kernel living) ((s.good.sound.seats t).named (subst (λ (z : BrokerState). is_dead (seat_of z t) ≡ true) (sym (broker-now l r b up)) d)).0)

pub runs-placed : (l : Library) (r : IsReached l) (b : BrokerState) (t : ℕ) → l.hub.supervised.broker ≡ Some b → is_misplaced b t (view l t).place ≡ false
runs-placed l r b t up =
    let w = world_of l r in
    subst (λ k. is_misplaced b t (partition_number k t) ≡ false) (sym (reached-sim l r).hub.kernel)
    (subst (λ (z : BrokerState). is_misplaced z t (partition_of w t) ≡ false) (broker-now l r b up) (well-placed w (broker_of w) t ((run-steady (events r.steps)).places t)))

module _ (l : Library) (r : IsReached l) (b : BrokerState) (x : Command) (fs : List Frame) (up : l.hub.supervised.broker ≡ Some b) (came : l.hub.arrived ≡ frame.Command x ∷ fs) (run : runs l l.hub.sender ≡ true) where
  abbrev t : ℕ
  t = l.hub.sender

  abbrev w : WorldState
  w = world_of l r

  sim : Sim l w
  sim = reached-sim l r

  honest : IsHonest w t
  honest = runs-honest l r t run

  goes : GoesUp w t (frame.Command x)
  goes = (sim.hub.arrived honest (frame.Command x) (subst (In (frame.Command x)) (sym came) (In-head refl))).1

  -- A command of this generation, in the world.
  module _ (now : x.generation ≡ b.generation) where
    settled : IsRepeat (tab_of w t) x → IsSettled (tab_of w t) x.number
    settled o =
        let lt : (tab_of w t).entered < limit_in w.kernel.generation (Some b) = subst (λ z. (tab_of w t).entered < limit_in w.kernel.generation z) (sym sim.hub.broker ∙ up) (sim.good.sound.tabs t).entered in
        let g : b.generation ≡ w.kernel.generation = reached-current l r b up ∙ ap (λ k. k.generation) sim.hub.kernel in
        let le : x.generation ≤ (tab_of w t).entered = o.past in
        o.settled (omega (arith, lt, g, le, now))

    world-issued : x.number < length (tab_of w t).issued
    world-issued = ⊎_elim
        (λ i. (((sim.good.sound.messages t).commands (partition_of w t) x i).2 honest).0)
        (λ o. let lt : x.number < (tab_of w t).report.base = (settled o).reported in let le : (tab_of w t).report.base ≤ length (tab_of w t).issued = sim.good.fit.low t in omega (arith, lt, le))
        goes

    world-same : (operation_of (tab_of w t) x.number ≡ x.operation) ⊎ IsSettled (tab_of w t) x.number
    world-same = ⊎_elim (λ i. inl (((sim.good.sound.messages t).commands (partition_of w t) x i).2 honest).1) (λ o. inr (settled o)) goes

    locks : (client_of l t).locks ≡ record (tab_of w t) { acknowledged = (client_of l t).locks.acknowledged; answered = (client_of l t).locks.answered }
    locks = client-locks l w t sim (⊎_elim (λ y. y)
        (λ n. let z : length (tab_of w t).issued ≡ 0 = ap (λ (a : TabState). length a.issued) ((sim.lines t).client.unwelcomed n) in let lt = world-issued in absurd (omega (arith, z, lt)))
        (cases_Bool (client_of l t).is_welcomed))

    said-same : (operation_of (client_of l t).locks x.number ≡ x.operation) ⊎ IsSettled (client_of l t).locks x.number
    said-same = subst (λ (a : TabState). (operation_of a x.number ≡ x.operation) ⊎ IsSettled a x.number) (sym locks) (⊎_elim inl (λ o. inr (record { reported = o.reported; over = o.over })) world-same)

    said-issued : x.number < length (client_of l t).locks.issued
    said-issued = subst (λ (a : TabState). x.number < length a.issued) (sym locks) world-issued

    before-last : x.number ≢ LAST_NUMBER
    before-last e = let lt = world-issued in let le : length (tab_of w t).issued ≤ 1000000 = issued-few (events r.steps) t in let z : x.number ≡ 4294967295 = e in omega (arith, lt, le, z)

  pub said-known : IsSaidBy (view l t) t b x
  said-known = record { alive = runs-alive l r b t up run; placed = runs-placed l r b t up; last = before-last; same = said-same; issued = said-issued }
