-- A restart greets all tabs that live, and its broker has nothing of them.
use Rattle.std.proofs.Common.{◌≡◌, ◌⊎◌, inl, inr, ⊎_elim, ℕ, Bool, true, false, not, ◌&&◌, List, [], ◌∷◌, ◌++◌, Option, Some, None, is_some, refl, ap, subst}
use Rattle.std.specs.Prelude.{◌==◌, nat_lt}
use Rattle.std.proofs.lemmas.Bool.{eqb-true}
use Rattle.wl_draft.specs.Membership.{In, Here, Later}
use Rattle.wl_draft.proofs.Membership.{apart, either, In-nil, In-cons_cases, In-head, In-map, In-append_right}
use Rattle.wl_broker.specs.Broker.{BrokerState, started, hellos, hello_to}
use Rattle.wl_kernel.specs.Kernel.{KernelState, OpenedTab, tab_in, lives as lives_in, insert_sorted, living_in, any_tab, living_tabs, is_living, partition_number, placed, start_refusal, may_stop, stopped}
use Rattle.wl_kernel.specs.Routes.{frame_of}
use Rattle.wl_supervised_broker.specs.Changes.{Change}
use Rattle.wl_supervised_broker.specs.SupervisedStates.{SupervisedState, changed, frames_of}
use Rattle.wl_hub.specs.Hub.{HubState, from_broker, hub_started, hub_restarted}
use Rattle.wl_quiescence.proofs.rest.Invariant.{hello, seen, Away}

-- Living tabs

insert-In : (n : ℕ) (ms : List ℕ) → In n (insert_sorted n ms)
insert-In n [] = Here
insert-In n (m ∷ ms) = either (In n) (nat_lt m n) (m ∷ insert_sorted n ms) (n ∷ m ∷ ms) (λ _. Later (insert-In n ms)) (λ _. Here)

insert-keeps : (n k : ℕ) (ms : List ℕ) → In k ms → In k (insert_sorted n ms)
insert-keeps n k [] i = absurd (In-nil i)
insert-keeps n k (m ∷ ms) i =
    either (In k) (nat_lt m n) (m ∷ insert_sorted n ms) (n ∷ m ∷ ms)
    (λ _. ⊎_elim (λ e. In-head e) (λ j. Later (insert-keeps n k ms j)) (In-cons_cases i)) (λ _. Later i)

pub living-In : (os : List OpenedTab) (t : ℕ) → lives_in (tab_in os t) ≡ true → In t (living_in any_tab os)
living-In [] t e = apart e refl
living-In (o ∷ os) t e =
    either (λ z. lives_in z ≡ true → In t (living_in any_tab (o ∷ os))) (o.tab == t) (Some o) (tab_in os t)
    (λ y v.
    either (In t) (o.living && any_tab o) (insert_sorted o.tab (living_in any_tab os)) (living_in any_tab os)
    (λ _. subst (λ z. In z (insert_sorted o.tab (living_in any_tab os))) (eqb-true o.tab t y) (insert-In o.tab (living_in any_tab os)))
    (λ n. apart (ap (λ z. z && any_tab o) v) n))
    (λ _ v.
    let i = living-In os t v in
    either (In t) (o.living && any_tab o) (insert_sorted o.tab (living_in any_tab os)) (living_in any_tab os) (λ _. insert-keeps o.tab t (living_in any_tab os) i) (λ _. i))
    e

-- Starts

pub hello-sent : (g t : ℕ) (k : KernelState) (ts : List ℕ) → In t ts → In (t, hello g) (from_broker (hellos g (placed ts k)))
hello-sent g t k ts i = In-map (λ a. (a.tab, frame_of a.inner)) (In-map (λ (x : ℕ × ℕ). hello_to g x.0) (In-map (λ u. (u, partition_number k u)) i))

-- The hub greets the tab in the generation of its broker, which has nothing of the tab.
pub record IsGreeted (h : HubState) (b : BrokerState) (t : ℕ) : Type 0 where
  pub current : b.generation ≡ h.supervised.kernel.generation
  pub greets : In (t, hello b.generation) h.outputs
  pub nothing : seen b t ≡ Away None

abbrev with_kernel_and : KernelState → Option BrokerState → HubState → HubState
with_kernel_and k o h = record h { supervised = record { kernel = k; broker = o } }

-- A start that happens or not, with no broker up.
abbrev starting : Bool → KernelState → HubState → HubState
starting x k h =
    let ts = living_tabs k in
    let c : Change = record { happens = x; kernel = k; broker = Some (started k.generation (placed ts k)); frames = hellos k.generation (placed ts k) } in
    record h { supervised = changed c (record { kernel = k; broker = None }); outputs = h.outputs ++ from_broker (frames_of c) }

starting-greets : (x : Bool) (k : KernelState) (h : HubState) (b : BrokerState) (t : ℕ) → (starting x k h).supervised.broker ≡ Some b → is_living k t ≡ true → IsGreeted (starting x k h) b t
starting-greets false k h b t e l = absurd (none-some b e)
  where
    none-some : (b : BrokerState) → None ≡ Some b → ⊥
    none-some b e = cc
starting-greets true k h b t e l =
    subst (λ z. IsGreeted (starting true k h) z t) (some-same (started k.generation (placed (living_tabs k) k)) b e) (record {
      current = refl;
      greets = In-append_right h.outputs (hello-sent k.generation t k (living_tabs k) (living-In k.opened t l));
      nothing = refl;
    })
  where
    some-same : (a b : BrokerState) → Some a ≡ Some b → a ≡ b
    some-same a b e = cc

start-greets : (k : KernelState) (h : HubState) (b : BrokerState) (t : ℕ) → (hub_started (with_kernel_and k None h)).supervised.broker ≡ Some b → is_living k t ≡ true
    → IsGreeted (hub_started (with_kernel_and k None h)) b t
start-greets k h b t e l = starting-greets (not (is_some (start_refusal (living_tabs k) k))) k h b t e l

-- What a start in this state leaves.
abbrev Starts : KernelState → BrokerState → HubState → BrokerState → ℕ → SupervisedState → Type 0
Starts k c h b t s =
    let g = hub_started (record h { supervised = s }) in
    g.supervised.broker ≡ Some b → (g.supervised ≡ record { kernel = k; broker = Some c }) ⊎ IsGreeted g b t

restart-at : (k : KernelState) (o : Option BrokerState) (h : HubState) (b : BrokerState) (t : ℕ) → (hub_restarted (with_kernel_and k o h)).supervised.broker ≡ Some b → is_living k t ≡ true
    → ((hub_restarted (with_kernel_and k o h)).supervised ≡ record { kernel = k; broker = o }) ⊎ IsGreeted (hub_restarted (with_kernel_and k o h)) b t
restart-at k None h b t e l = inr (start-greets k h b t e l)
restart-at k (Some c) h b t e l =
    either (Starts k c h b t) (may_stop k) (record { kernel = stopped k; broker = None }) (record { kernel = k; broker = Some c })
    (λ _ f. inr (start-greets (stopped k) h b t f l)) (λ _ f. inl refl) e

-- After a restart under which a broker is up, either the broker is the one before, since no generation is left, or each
-- living tab is greeted by a broker that has nothing of it.
pub restart-greets : (h : HubState) (b : BrokerState) (t : ℕ) → (hub_restarted h).supervised.broker ≡ Some b → is_living h.supervised.kernel t ≡ true
    → ((hub_restarted h).supervised ≡ h.supervised) ⊎ IsGreeted (hub_restarted h) b t
restart-greets h b t e l = restart-at h.supervised.kernel h.supervised.broker h b t e l
