-- Libraries that a run reaches, and facts of each.
use Rattle.std.proofs.Common.{◌≡◌, List, [], ◌∷◌, ◌++◌, Some, refl, sym, ap, ◌∙◌, subst}
use Rattle.std.specs.Prelude.{ℕ}
use Rattle.wl_broker.specs.Broker.{BrokerState}
use Rattle.wl_kernel.specs.TableIndexes.{AreTabs}
use Rattle.wl_world_model.specs.World.{WorldState, empty_world, run}
use Rattle.wl_world_model.specs.WorldExamples.{p}
use Rattle.wl_library_model.specs.Library.{Library, Step, new_library, client_of, step, run_steps}
use Rattle.wl_library_model.specs.Events.{events}
use Rattle.wl_library_model.proofs.Carried.{Sim}
use Rattle.wl_library_model.proofs.Simulated.{run-sim}
use Rattle.wl_quiescence.proofs.rest.Law.{kernel-tabs}
use Rattle.wl_quiescence.proofs.calls.Steps.{NumbersBelow, RoomForOne}
use Rattle.wl_quiescence.proofs.calls.Numbers.{OwnNumbers, run-own, numbers-below}
use Rattle.wl_quiescence.proofs.calls.Limits.{run-limits}
use Rattle.wl_quiescence.proofs.calls.Room.{OneOfEach, room-for_one}
use Rattle.wl_quiescence.proofs.calls.Once.{run-once, sim-once}
use Rattle.wl_quiescence.proofs.calls.Reports.{run-reports}
use Rattle.wl_quiescence.proofs.calls.Opens.{OutputsOpened}
use Rattle.wl_quiescence.proofs.calls.Outputs.{run-outputs}
use Rattle.wl_quiescence.proofs.client.Sends.{NoneWhole, ArePosts}
use Rattle.wl_quiescence.proofs.client.Whole.{steps-none}
use Rattle.wl_quiescence.proofs.client.Posts.{steps-posts, new-posts}
use Rattle.wl_quiescence.proofs.client.Queries.{AreQueries, steps-kept, new-kept}
use Rattle.wl_quiescence.proofs.client.Others.{broker-current}
use Rattle.wl_quiescence.proofs.rest.Invariant.{IsResting}

-- A library that a run reaches.
pub record IsReached (l : Library) : Type 0 where
  pub steps : List Step
  pub is : run_steps steps new_library ≡ l

pub reached-first : IsReached new_library
reached-first = record { steps = []; is = refl }

pub reached-next : (l : Library) (y : Step) → IsReached l → IsReached (step y l)
reached-next l y r = record {
  steps = r.steps ++ y ∷ [];
  is = run-more r.steps new_library ∙ ap (step y) r.is;
}
  where
    run-more : (xs : List Step) (m : Library) → run_steps (xs ++ y ∷ []) m ≡ step y (run_steps xs m)
    run-more [] m = refl
    run-more (z ∷ xs) m = run-more xs (step z m)

-- The world after the events of its steps.
abbrev pub world_of : (l : Library) → IsReached l → WorldState
world_of l r = run (events r.steps) empty_world

pub reached-sim : (l : Library) (r : IsReached l) → Sim l (world_of l r)
reached-sim l r = subst (λ z. Sim z (run (events r.steps) empty_world)) r.is (run-sim r.steps)

pub reached-tabs : (l : Library) → IsReached l → AreTabs l.hub.supervised.kernel.opened
reached-tabs l r = subst (λ (z : Library). AreTabs z.hub.supervised.kernel.opened) r.is (kernel-tabs r.steps p)

pub reached-current : (l : Library) → IsReached l → (b : BrokerState) → l.hub.supervised.broker ≡ Some b → b.generation ≡ l.hub.supervised.kernel.generation
reached-current l r b up = broker-current l (world_of l r) (reached-sim l r) b up ∙ ap (λ z. z.generation) (sym (reached-sim l r).hub.kernel)

pub reached-outputs : (l : Library) → IsReached l → OutputsOpened l
reached-outputs l r = subst OutputsOpened r.is (run-outputs r.steps)

pub reached-numbers : (l : Library) (t : ℕ) → IsReached l → NumbersBelow l t
reached-numbers l t r = numbers-below l (world_of l r) t (reached-sim l r) (subst (λ (z : Library). OwnNumbers (client_of z t)) r.is (run-own r.steps t))

pub reached-once : (l : Library) (t : ℕ) → IsReached l → OneOfEach l t
reached-once l t r = sim-once l (world_of l r) t (reached-sim l r) (run-once run-reports (events r.steps))

pub reached-room : (l : Library) (t : ℕ) → IsReached l → IsResting l → RoomForOne l t
reached-room l t r i = room-for_one l (world_of l r) t (reached-sim l r) (run-limits (events r.steps)) i (reached-once l t r)

pub reached-none : (l : Library) (t : ℕ) → IsReached l → (b : BrokerState) → l.hub.supervised.broker ≡ Some b → NoneWhole b t
reached-none l t r b up = steps-none r.steps b (ap (λ (z : Library). z.hub.supervised.broker) r.is ∙ up) t

pub reached-posts : (l : Library) (t : ℕ) → IsReached l → ArePosts (client_of l t)
reached-posts l t r = subst (λ (z : Library). ArePosts (client_of z t)) r.is (steps-posts r.steps new_library new-posts t)

pub reached-queries : (l : Library) (t : ℕ) → IsReached l → AreQueries (client_of l t).locks
reached-queries l t r = subst (λ (z : Library). AreQueries (client_of z t).locks) r.is (steps-kept r.steps new_library new-kept t)
