-- The laws of the world, said of the library.
use Rattle.std.proofs.Common.{◌≡◌, ℕ, ◌<◌, true, false, length, drop, Option, Some, None, sym, ap, ◌∙◌, subst}
use Rattle.std.specs.List.{list_any}
use Rattle.std.specs.Prelude.{◌==◌}
use Rattle.wl_agent.specs.Tab.{operation_of, name_of, mode_of, status_of}
use Rattle.wl_origin.specs.Order.{Pair}
use Rattle.wl_origin.proofs.OrderLemmas.{pair_eq-decides}
use Rattle.wl_draft.specs.Locks.{no_locks}
use Rattle.wl_broker.specs.Broker.{BrokerState, manager_of}
use Rattle.wl_tab.specs.Tabs.{tab_in}
use Rattle.wl_kernel.specs.Kernel.{KernelState, OpenedTab}
use Rattle.wl_kernel.specs.Kernel.{tab_of as opened_tab}
use Rattle.wl_world_model.specs.World.{WorldState, empty_world, run, tab_of, lives as lives_in}
use Rattle.wl_world_model.specs.Holdings.{partition_in, NotEnded}
use Rattle.wl_world_model.specs.Holdings.{IsHolding as HoldsIn, IsHonest as IsHonestIn}
use Rattle.wl_world_model.specs.Orders.{picked, of_partition, of_tab, commands_of, base_of, numbered, IsPrefix}
use Rattle.wl_world_model.specs.Apart.{was_opened_in, is_in, broker_for, up_for, part}
use Rattle.wl_world_model.proofs.apart.Cuts.{find-only, at-only}
use Rattle.wl_world_model.proofs.apart.RunsApart.{runs-apart}
use Rattle.wl_world_model.proofs.exclusion.CoverExcludes.{Sound-exclusion}
use Rattle.wl_world_model.proofs.own.AskedByEvents.{run-own}
use Rattle.wl_world_model.proofs.order.EventsInOrder.{commands-in_order, manager-is_fold}
use Rattle.wl_library_model.specs.Library.{Library, new_library, run_steps, client_of}
use Rattle.wl_library_model.specs.Events.{events}
use Rattle.wl_library_model.specs.Simulation.{AreLocksOf}
use Rattle.wl_library_model.specs.Promises.{WasAskedBy, IsHolding, IsHonest, partition_at, ExclusionForAll, OwnForAll, CommandsInOrderForAll, ManagerIsFoldForAll, ApartForAll}
use Rattle.wl_library_model.proofs.Carried.{Sim}
use Rattle.wl_library_model.proofs.Simulated.{run-sim}
use Rattle.wl_library_model.proofs.AskedBySteps.{asked-by}

module _ (l : Library) (w : WorldState) (s : Sim l w) where
  locks : (t : ℕ) → (client_of l t).is_welcomed ≡ true → AreLocksOf (client_of l t).locks (tab_of w t)
  locks t y = (s.lines t).client.welcomed y

  issued : (t : ℕ) → (client_of l t).is_welcomed ≡ true → (client_of l t).locks.issued ≡ (tab_of w t).issued
  issued t y = ap (λ z. z.issued) (locks t y)

  operation : (t k : ℕ) → (client_of l t).is_welcomed ≡ true → operation_of (client_of l t).locks k ≡ operation_of (tab_of w t) k
  operation t k y = ap (λ z. operation_of z k) (locks t y)

  holds : (t k : ℕ) → IsHolding l t k → HoldsIn w t k
  holds t k h = (subst (λ z. lives_in (record w { kernel = z }) t ≡ true) s.hub.kernel h.living, sym (ap (λ z. status_of z k) (locks t h.welcomed)) ∙ h.held)

  honest : (t : ℕ) → IsHonest l t → IsHonestIn w t
  honest t h = subst (λ zs. list_any (λ u. u == t) zs ≡ false) s.taken h

  same-partition : (t u : ℕ) → partition_at l t ≡ partition_at l u → partition_in (opened_tab w.kernel t) ≡ partition_in (opened_tab w.kernel u)
  same-partition t u e = subst (λ (z : KernelState). partition_in (opened_tab z t) ≡ partition_in (opened_tab z u)) s.hub.kernel e

pub exclusion : ExclusionForAll
exclusion steps t k u j nt nu ht hu d p n =
    let l = run_steps steps new_library in
    let w = run (events steps) empty_world in
    let s = run-sim steps in
    let et = operation l w s t k ht.welcomed in
    let eu = operation l w s u j hu.welcomed in
    let x = Sound-exclusion w s.good.sound t k u j (honest l w s t nt) (honest l w s u nu) (holds l w s t k ht) (holds l w s u j hu) d (same-partition l w s t u p) (sym (ap name_of et) ∙ (n ∙ ap name_of eu)) in
    (ap mode_of et ∙ x.0, ap mode_of eu ∙ x.1)

pub own : OwnForAll
own steps t k h =
    let l = run_steps steps new_library in
    let w = run (events steps) empty_world in
    let s = run-sim steps in
    let o = run-own (events steps) t k (holds l w s t k h) in
    let e = sym (issued l w s t h.welcomed) in (
      subst (λ z. k < length z) e o.0,
      subst (WasAskedBy steps t k) (sym (operation l w s t k h.welcomed)) (asked-by steps t k (operation_of (tab_of w t) k) o.1),
      subst (λ z. NotEnded z k) e o.2,
    )

pub commands : CommandsInOrderForAll
commands steps g p t h y =
    let l = run_steps steps new_library in
    let w = run (events steps) empty_world in
    let s = run-sim steps in
    let mine = of_tab t (of_partition p (picked g (events steps)).items) in
    subst (λ z. IsPrefix (commands_of mine) (numbered (base_of mine) (drop (base_of mine) z))) (sym (issued l w s t y)) (commands-in_order (events steps) g p t (honest l w s t h))

pub fold : ManagerIsFoldForAll
fold steps g p b e n =
    let s = run-sim steps in manager-is_fold (events steps) g p b (sym s.hub.broker ∙ e) n

-- Partitions

in-partition : (p : Pair) (o : Option OpenedTab) → partition_in o ≡ Some p → was_opened_in p o ≡ true
in-partition p None e = absurd (none-some p e)
  where
    none-some : (p : Pair) → None ≡ Some p → ⊥
    none-some p e = cc
in-partition p (Some o) e = (pair_eq-decides o.partition p).1 (some-same o.partition p e)
  where
    some-same : (q p : Pair) → Some q ≡ Some p → q ≡ p
    some-same q p e = cc

is-in : (w : WorldState) (p : Pair) (t : ℕ) → partition_in (opened_tab w.kernel t) ≡ Some p → is_in p w.kernel t ≡ true
unfolding is_in
is-in w p t e = in-partition p (opened_tab w.kernel t) e

part-tab : (w : WorldState) (p : Pair) (t : ℕ) → is_in p w.kernel t ≡ true → tab_of (part p w) t ≡ tab_of w t
part-tab w p t i = ap (tab_in t) (find-only (is_in p w.kernel) t w.tabs i)

part-broker : (w : WorldState) (p : Pair) (t : ℕ) (b : BrokerState) → is_in p w.kernel t ≡ true → w.broker ≡ Some b → (c : BrokerState) × ((part p w).broker ≡ Some c) × (manager_of c t ≡ manager_of b t)
part-broker w p t b i e = (broker_for (is_in p w.kernel) b, ap (up_for (is_in p w.kernel)) e, at-only (is_in p w.kernel) no_locks t b.managers i)

pub apart : ApartForAll
apart steps =
    let l = run_steps steps new_library in
    let w = run (events steps) empty_world in
    let s = run-sim steps in
    record {
      clients = λ p t o y.
          let i = is-in w p t (subst (λ (z : KernelState). partition_in (opened_tab z t) ≡ Some p) s.hub.kernel o) in
          subst (AreLocksOf (client_of l t).locks) (sym (part-tab w p t i) ∙ ap (λ v. tab_of v t) (runs-apart (events steps) p)) (locks l w s t y);
      broker = λ p t b o e.
          let i = is-in w p t (subst (λ (z : KernelState). partition_in (opened_tab z t) ≡ Some p) s.hub.kernel o) in
          let c = part-broker w p t b i (sym s.hub.broker ∙ e) in
          (c.0, ap (λ v. v.broker) (sym (runs-apart (events steps) p)) ∙ c.1, c.2);
    }
