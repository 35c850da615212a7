-- The law of rest, from the invariant of all runs that lose no frame.
use Rattle.std.proofs.Common.{◌≡◌, ℕ, true, false, List, Option, Some, None, is_some, refl, sym, ap, ◌∙◌, subst}
use Rattle.wl_origin.specs.Order.{Pair}
use Rattle.wl_origin.proofs.OrderLemmas.{pair_eq-decides}
use Rattle.wl_draft.proofs.Membership.{apart}
use Rattle.wl_kernel.specs.TableIndexes.{AreTabs}
use Rattle.wl_kernel.specs.Kernel.{KernelState, OpenedTab, is_opened, partition_number}
use Rattle.wl_kernel.specs.Kernel.{tab_of as opened_tab}
use Rattle.wl_world_model.specs.World.{WorldState, empty_world, run}
use Rattle.wl_world_model.specs.Holdings.{partition_in}
use Rattle.wl_world_model.specs.Apart.{was_opened_in, is_in}
use Rattle.wl_world_model.proofs.apart.ToldApart.{number-Mates, opened as was_opened_at}
use Rattle.wl_world_model.proofs.apart.RunsApart.{reached}
use Rattle.wl_broker.specs.Broker.{BrokerState, is_active}
use Rattle.wl_library_model.specs.Library.{Library, Step, new_library, run_steps}
use Rattle.wl_library_model.specs.Events.{events}
use Rattle.wl_library_model.specs.Progress.{place}
use Rattle.wl_library_model.specs.Promises.{IsHonest, partition_at}
use Rattle.wl_quiescence.specs.Quiescence.{LivesIn, IsAtRest, AreHonest, IsServed, IsFair, HoldsUp, ServedAtRest, ServedBesideOthers, HeldUpByOthers, NobodyWaitsForNothing}
use Rattle.wl_library_model.proofs.Simulated.{run-sim}
use Rattle.wl_quiescence.proofs.rest.Invariant.{IsResting}
use Rattle.wl_quiescence.proofs.rest.Served.{served, active, inactive}
use Rattle.wl_quiescence.proofs.calls.Room.{OneOfEach}
use Rattle.wl_quiescence.proofs.calls.Once.{run-once, sim-once}
use Rattle.wl_quiescence.proofs.calls.Reports.{run-reports}
use Rattle.wl_quiescence.proofs.rest.Nobody.{nobody}

-- One partition for each number

in-own : (o : OpenedTab) → was_opened_in o.partition (Some o) ≡ true
in-own o = (pair_eq-decides o.partition o.partition).1 refl

in-is : (q : Pair) (x : Option OpenedTab) → was_opened_in q x ≡ true → partition_in x ≡ Some q
in-is q None e = apart e refl
in-is q (Some o) e = ap (λ z. Some z) ((pair_eq-decides o.partition q).0 e)

mates : (q : Pair) (k : KernelState) (t : ℕ) → AreTabs k.opened → is_opened k t ≡ true → was_opened_in q (opened_tab k t) ≡ was_opened_in q (opened_tab k (partition_number k t))
unfolding is_in was_opened_at
mates q k t a e = (number-Mates q k t a e).alike

one-partition : (k : KernelState) (t u : ℕ) → AreTabs k.opened → is_opened k t ≡ true → is_opened k u ≡ true → partition_number k t ≡ partition_number k u
    → partition_in (opened_tab k t) ≡ partition_in (opened_tab k u)
one-partition k t u a x y e = go (opened_tab k t) refl
  where
    go : (o : Option OpenedTab) → opened_tab k t ≡ o → partition_in (opened_tab k t) ≡ partition_in (opened_tab k u)
    go None s = absurd (apart x (ap is_some s))
    go (Some o) s =
        let here : was_opened_in o.partition (opened_tab k t) ≡ true = ap (was_opened_in o.partition) s ∙ in-own o in
        let there : was_opened_in o.partition (opened_tab k u) ≡ true =
        mates o.partition k u a y ∙ (ap (λ n. was_opened_in o.partition (opened_tab k n)) (sym e) ∙ (sym (mates o.partition k t a x) ∙ here)) in
        ap partition_in s ∙ sym (in-is o.partition (opened_tab k u) there)

-- The kernel's tabs

pub kernel-tabs : (steps : List Step) (p : Pair) → AreTabs (run_steps steps new_library).hub.supervised.kernel.opened
kernel-tabs steps p = subst (λ (z : KernelState). AreTabs z.opened) (sym (run-sim steps).hub.kernel) (reached p (events steps)).kernel

-- The invariant of all runs.
abbrev pub AlwaysResting : Type 0
AlwaysResting = (steps : List Step) → IsResting (run_steps steps new_library)

module _ (always : AlwaysResting) (steps : List Step) (p : Pair) (b : BrokerState) where
  abbrev l : Library
  l = run_steps steps new_library

  abbrev w : WorldState
  w = run (events steps) empty_world

  one : (x y : ℕ) → is_opened l.hub.supervised.kernel x ≡ true → is_opened l.hub.supervised.kernel y ≡ true → place l x ≡ place l y → partition_at l x ≡ partition_at l y
  one x y ox oy e = one-partition l.hub.supervised.kernel x y (kernel-tabs steps p) ox oy e

  once : (u : ℕ) → OneOfEach l u
  once u = sim-once l w u (run-sim steps) (run-once run-reports (events steps))

  beside : (t : ℕ) → l.hub.supervised.broker ≡ Some b → IsAtRest p l → LivesIn p l t → IsHonest l t → is_active b (place l t) ≡ true → IsServed l t b × IsFair p l t b
  beside t up rest lives honest a = served l w (run-sim steps) (always steps) p b up rest one once t (lives, honest, a)

  at-rest : (t : ℕ) → l.hub.supervised.broker ≡ Some b → IsAtRest p l → AreHonest p l → LivesIn p l t → IsServed l t b × IsFair p l t b
  at-rest t up rest honest lives = beside t up rest lives (honest t lives) (active l w (run-sim steps) (always steps) p b up rest one once honest t lives)

  held-up : (t : ℕ) → l.hub.supervised.broker ≡ Some b → IsAtRest p l → LivesIn p l t → is_active b (place l t) ≡ false → HoldsUp p l b
  held-up t up rest lives n = inactive l w (run-sim steps) (always steps) p b up rest one once t lives n

pub served-at_rest : AlwaysResting → ServedAtRest
served-at_rest always steps p t b up rest honest lives = at-rest always steps p b t up rest honest lives

pub served-beside : AlwaysResting → ServedBesideOthers
served-beside always steps p t b up rest lives honest a = beside always steps p b t up rest lives honest a

pub held-up_by : AlwaysResting → HeldUpByOthers
held-up_by always steps p t b up rest lives n = held-up always steps p b t up rest lives n

pub nobody-waits : AlwaysResting → NobodyWaitsForNothing
nobody-waits always = nobody (served-at_rest always)
