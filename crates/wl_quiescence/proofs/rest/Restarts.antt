-- A restart keeps the invariant.
use Rattle.std.proofs.Common.{◌≡◌, ◌⊎◌, inl, inr, ⊎_elim, ℕ, suc, ◌<◌, ◌≤◌, Bool, true, false, not, ◌&&◌, ◌||◌, cond, List, [], ◌∷◌, ◌++◌, map, filter, Option, Some, None, is_some, refl, sym, ap, ◌∙◌, subst, arith, le_refl, append_assoc, append-nil}
use Rattle.std.specs.Prelude.{◌==◌}
use Rattle.std.proofs.lemmas.Bool.{and_parts, eq-eqb, false_from_ne_true}
use Rattle.std.proofs.lemmas.List.{map-append}
use Rattle.std.proofs.lemmas.List.Elements.{filter-append}
use Rattle.wl_draft.specs.declared.row.Row.{Row}
use Rattle.wl_draft.specs.Membership.{In}
use Rattle.wl_draft.proofs.Membership.{apart, either, list_all-In, In-nil, In-map, In-map_cases, In-filter, In-filter_cases, In-append_cases, In-append_right}
use Rattle.wl_grammar.specs.declared.frame.Frame.{Frame}
use Rattle.wl_broker.specs.Broker.{BrokerState, started, hellos, hello_to, seat_of, has_arrived, is_active}
use Rattle.wl_kernel.specs.TableIndexes.{AreTabs}
use Rattle.wl_kernel.specs.Kernel.{tab_of as opened_tab}
use Rattle.wl_world_model.proofs.exclusion.CoverExcludes.{living_opened}
use Rattle.wl_world_model.proofs.apart.CutKernel.{finds}
use Rattle.wl_library_model.proofs.TimelyKernels.{living-row}
use Rattle.wl_kernel.specs.Kernel.{KernelState, OpenedTab, tab_in, lives as lives_in, living_in, any_tab, living_tabs, is_living, partition_number, placed, start_refusal, may_stop, stopped}
use Rattle.wl_kernel.specs.Routes.{frame_of}
use Rattle.wl_supervised_broker.specs.SupervisedStates.{SupervisedState}
use Rattle.wl_hub.specs.Hub.{HubState, from_broker, hub_down, hub_started, hub_restarted}
use Rattle.wl_world_model.proofs.exclusion.Invariant.{limit_in}
use Rattle.wl_library_model.specs.Library.{Library, Restarts, Stops, client_of, lives, runs, is_taken, step, with_hub}
use Rattle.wl_quiescence.proofs.rest.Invariant.{hello, outputs_to, frames_down, is_answer_in, HelloComes, IsFresh, IsServing, IsKeeping, IsResting}
use Rattle.wl_quiescence.proofs.rest.Starts.{living-In, hello-sent}

-- The hub with a new broker, which has nothing of any tab and greets all that live.
pub record IsNew (h g : HubState) (b : BrokerState) : Type 0 where
  pub opened : g.supervised.kernel.opened ≡ h.supervised.kernel.opened
  pub broker : b ≡ started g.supervised.kernel.generation (placed (living_tabs g.supervised.kernel) g.supervised.kernel)
  pub up : g.supervised.broker ≡ Some b
  pub later : limit_in h.supervised.kernel.generation h.supervised.broker ≤ g.supervised.kernel.generation
  pub sent : g.outputs ≡ h.outputs ++ from_broker (hellos g.supervised.kernel.generation (placed (living_tabs g.supervised.kernel) g.supervised.kernel))
  pub untold : g.untold ≡ h.untold
  pub early : g.early ≡ h.early

abbrev with_kernel_and : KernelState → Option BrokerState → HubState → HubState
with_kernel_and k o h = record h { supervised = record { kernel = k; broker = o } }

-- No broker is up: what a start leaves, if it happens or not.
abbrev Started : KernelState → KernelState → Option BrokerState → HubState → BrokerState → Bool → Type 0
Started k m o h b x =
    let g : HubState = record h { supervised = cond x (record { kernel = m; broker = Some (started m.generation (placed (living_tabs m) m)) }) (record { kernel = m; broker = None }); outputs = h.outputs ++ from_broker (cond x (hellos m.generation (placed (living_tabs m) m)) []) } in
    g.supervised.broker ≡ Some b → IsNew (with_kernel_and k o h) g b

start-new : (k m : KernelState) (o : Option BrokerState) (h : HubState) (b : BrokerState) (x : Bool) → m.opened ≡ k.opened → limit_in k.generation o ≤ m.generation → Started k m o h b x
start-new k m o h b true e le f = record { opened = e; broker = sym (some-same _ b f); up = f; later = le; sent = refl; untold = refl; early = refl }
  where
    some-same : (a b : BrokerState) → Some a ≡ Some b → a ≡ b
    some-same a b e = cc
start-new k m o h b false e le f = absurd (none-some b f)
  where
    none-some : (b : BrokerState) → None ≡ Some b → ⊥
    none-some b e = cc

-- What a start in this state leaves.
abbrev Leaves : KernelState → BrokerState → HubState → BrokerState → SupervisedState → Type 0
Leaves k c h b s =
    let g = hub_started (record h { supervised = s }) in
    g.supervised.broker ≡ Some b → (g ≡ with_kernel_and k (Some c) h) ⊎ IsNew (with_kernel_and k (Some c) h) g b

pub restart-new : (k : KernelState) (o : Option BrokerState) (h : HubState) (b : BrokerState) → (hub_restarted (with_kernel_and k o h)).supervised.broker ≡ Some b
    → (hub_restarted (with_kernel_and k o h) ≡ with_kernel_and k o h) ⊎ IsNew (with_kernel_and k o h) (hub_restarted (with_kernel_and k o h)) b
restart-new k None h b e = inr (start-new k k None h b (not (is_some (start_refusal (living_tabs k) k))) refl (le_refl k.generation) e)
restart-new k (Some c) h b e =
    either (Leaves k c h b) (may_stop k) (record { kernel = stopped k; broker = None }) (record { kernel = k; broker = Some c })
    (λ _ f. inr (start-new k (stopped k) (Some c) h b (not (is_some (start_refusal (living_tabs (stopped k)) (stopped k)))) refl (omega arith) f))
    (λ _ f. inl (ap (λ z. record h { supervised = record { kernel = k; broker = Some c }; outputs = z }) (append-nil h.outputs)))
    e

-- What any restart leaves of the hub: it sends hellos alone.
pub record Grows (h g : HubState) : Type 0 where
  pub opened : g.supervised.kernel.opened ≡ h.supervised.kernel.opened
  pub later : limit_in h.supervised.kernel.generation h.supervised.broker ≤ limit_in g.supervised.kernel.generation g.supervised.broker
  pub outs : List (ℕ × Frame)
  pub sent : g.outputs ≡ h.outputs ++ outs
  pub hellos : (o : ℕ × Frame) → In o outs → (n : ℕ) × (o.1 ≡ hello n)

hellos-are : (m : KernelState) (ts : List ℕ) (n : ℕ) (o : ℕ × Frame) → In o (from_broker (hellos n (placed ts m))) → (k : ℕ) × (o.1 ≡ hello k)
hellos-are m ts n o i =
    let a = In-map_cases (λ a. (a.tab, frame_of a.inner)) (hellos n (placed ts m)) i in
    let x = In-map_cases (λ (x : ℕ × ℕ). hello_to n x.0) (placed ts m) a.1 in
    (n, ap (λ z. z.1) (a.2 ∙ ap (λ a. (a.tab, frame_of a.inner)) x.2))

abbrev Growing : KernelState → KernelState → Option BrokerState → HubState → Bool → Type 0
Growing k m o h x =
    Grows (with_kernel_and k o h) (record h { supervised = cond x (record { kernel = m; broker = Some (started m.generation (placed (living_tabs m) m)) }) (record { kernel = m; broker = None }); outputs = h.outputs ++ from_broker (cond x (hellos m.generation (placed (living_tabs m) m)) []) })

start-grows : (k m : KernelState) (o : Option BrokerState) (h : HubState) (x : Bool) → m.opened ≡ k.opened → limit_in k.generation o ≤ m.generation → Growing k m o h x
start-grows k m o h true e le =
    record { opened = e; later = omega (arith, le); outs = from_broker (hellos m.generation (placed (living_tabs m) m)); sent = refl; hellos = hellos-are m (living_tabs m) m.generation }
start-grows k m o h false e le = record { opened = e; later = le; outs = []; sent = refl; hellos = λ o i. absurd (In-nil i) }

restart-grows : (k : KernelState) (o : Option BrokerState) (h : HubState) → Grows (with_kernel_and k o h) (hub_restarted (with_kernel_and k o h))
restart-grows k None h = start-grows k k None h (not (is_some (start_refusal (living_tabs k) k))) refl (le_refl k.generation)
restart-grows k (Some c) h =
    either (λ (s : SupervisedState). Grows (with_kernel_and k (Some c) h) (hub_started (record h { supervised = s }))) (may_stop k) (record { kernel = stopped k; broker = None }) (record { kernel = k; broker = Some c })
    (λ _. start-grows k (stopped k) (Some c) h (not (is_some (start_refusal (living_tabs (stopped k)) (stopped k)))) refl (omega arith))
    (λ _. record { opened = refl; later = le_refl (suc k.generation); outs = []; sent = refl; hellos = λ o i. absurd (In-nil i) })

-- Frames on their way to a tab

pub outputs-append : (t : ℕ) (os ps : List (ℕ × Frame)) → outputs_to t (os ++ ps) ≡ outputs_to t os ++ outputs_to t ps
outputs-append t os ps =
    ap (λ z. map (λ (o : ℕ × Frame). o.1) z) (filter-append (λ (o : ℕ × Frame). o.0 == t) os ps)
    ∙ map-append (λ (o : ℕ × Frame). o.1) (filter (λ (o : ℕ × Frame). o.0 == t) os) (filter (λ (o : ℕ × Frame). o.0 == t) ps)

down-grows : (l : Library) (g : HubState) (t : ℕ) (r : Grows l.hub g) → frames_down (with_hub g l) t ≡ frames_down l t ++ outputs_to t r.outs
down-grows l g t r =
    let front = (client_of l t).arrived ++ (l.lines t).down in let os = outputs_to t l.hub.outputs in let ps = outputs_to t r.outs in
    ap (λ z. front ++ outputs_to t z) r.sent ∙ (ap (λ z. front ++ z) (outputs-append t l.hub.outputs r.outs) ∙ sym (append_assoc front os ps))

down-cases : (l : Library) (g : HubState) (t : ℕ) (r : Grows l.hub g) (x : Frame) → In x (frames_down (with_hub g l) t) → In x (frames_down l t) ⊎ ((n : ℕ) × (x ≡ hello n))
down-cases l g t r x i =
    ⊎_elim inl
    (λ j.
    let o = In-map_cases (λ (o : ℕ × Frame). o.1) (filter (λ (o : ℕ × Frame). o.0 == t) r.outs) j in
    let h = r.hellos o.0 (In-filter_cases (λ (o : ℕ × Frame). o.0 == t) r.outs o.1).0 in inr (h.0, o.2 ∙ h.1))
    (In-append_cases (frames_down l t) (outputs_to t r.outs) (subst (In x) (down-grows l g t r) i))

pub fresh-grows : (l : Library) (g : HubState) (t : ℕ) → Grows l.hub g → IsFresh l t → IsFresh (with_hub g l) t
fresh-grows l g t r f =
    let e = down-grows l g t r in
    record {
      welcome = λ n. let o = f.welcome n in (o.0, o.1 ++ outputs_to t r.outs, o.2, e ∙ ap (λ z. z ++ outputs_to t r.outs) o.3, o.4);
      past = λ x n i y. ⊎_elim (λ j. let lt = f.past x n j y in let le = r.later in omega (arith, lt, le)) (λ h. apart y (ap (is_answer_in n) h.1)) (down-cases l g t r x i);
      entered = let lt = f.entered in let le = r.later in omega (arith, lt, le);
    }

-- The new broker

none-split : (front back : List Row) (r : Row) → [] ≡ front ++ r ∷ back → ⊥
none-split [] back r e = cc
none-split (x ∷ xs) back r e = cc

living-back : (os : List OpenedTab) (t : ℕ) → AreTabs os → In t (living_in any_tab os) → lives_in (tab_in os t) ≡ true
living-back os t a i =
    let r = living-row any_tab os t i in
    let lv : r.row.living ≡ true = (and_parts r.row.living true r.passes).0 in
    ap (λ z. lives_in (tab_in os z)) r.number ∙ (ap lives_in (finds os r.row a r.among) ∙ lv)

-- A partition with a tab that lives recovers.
recovers : (k : KernelState) (t : ℕ) → is_living k t ≡ true → is_active (started k.generation (placed (living_tabs k) k)) (partition_number k t) ≡ false
unfolding is_active
recovers k t lv =
    let n = partition_number k t in
    let b = started k.generation (placed (living_tabs k) k) in
    false_from_ne_true _ (λ y.
    let h = list_all-In (λ (x : ℕ × ℕ). not (x.1 == n) || has_arrived (seat_of b x.0)) (placed (living_tabs k) k) y (In-map (λ u. (u, partition_number k u)) (living-In k.opened t lv)) in
    apart h (ap (λ z. not z || false) (eq-eqb n n refl)))

-- The broker has no locks, and each listed tab lives.
pub new-keeps : (l : Library) (g : HubState) (b : BrokerState) → IsNew l.hub g b → AreTabs g.supervised.kernel.opened → IsKeeping (with_hub g l) b
new-keeps l g b n tabs =
    let k = g.supervised.kernel in
    subst (IsKeeping (with_hub g l)) (sym n.broker) (record {
      early = λ front back t e lv. inr (recovers k t lv);
      listed = λ t q i.
          let o = In-map_cases (λ u. (u, partition_number k u)) (living_tabs k) i in
          let same : t ≡ o.0 = ap (λ z. z.0) o.2 in
          let lv = subst (λ z. is_living k z ≡ true) (sym same) (living-back k.opened o.0 tabs o.1) in
          (ap (λ z. z.1) o.2 ∙ ap (partition_number k) (sym same), living_opened (opened_tab k t) lv, inl lv);
      joined = λ t j. apart j refl;
      settled = λ q y front back r e. absurd (none-split front back r e);
      rows = λ q r i. absurd (⊎_elim In-nil In-nil i);
    })

pub new-serves : (l : Library) (g : HubState) (b : BrokerState) (t : ℕ) → IsNew l.hub g b → Grows l.hub g → IsFresh l t → is_living l.hub.supervised.kernel t ≡ true → IsServing (with_hub g l) t b
new-serves l g b t n r f lv =
    let k = g.supervised.kernel in
    let low = f.entered in
    let le = n.later in
    let here : is_living k t ≡ true = subst (λ z. lives_in (tab_in z t) ≡ true) (sym n.opened) lv in
    let i : In (t, hello k.generation) g.outputs = subst (In (t, hello k.generation)) (sym n.sent) (In-append_right l.hub.outputs (hello-sent k.generation t k (living_tabs k) (living-In k.opened t here))) in
    let comes : HelloComes k.generation (with_hub g l) t =
    In-append_right ((client_of l t).arrived ++ (l.lines t).down) (In-map (λ (o : ℕ × Frame). o.1) (In-filter (λ (o : ℕ × Frame). o.0 == t) g.outputs i (eq-eqb t t refl))) in
    subst (IsServing (with_hub g l) t) (sym n.broker) (record {
      welcomed = λ _. comes;
      enters = λ _. comes;
      answers = λ x i y. absurd (⊎_elim (λ j. let lt = f.past x k.generation j y in omega (arith, lt, le)) (λ h. apart y (ap (is_answer_in k.generation) h.1)) (down-cases l g t r x i));
      reaches = λ _. inl comes;
      reported = λ e _. absurd (omega (arith, low, le, e));
      kept = λ j. apart j refl;
    })

-- The step

living-same : (g h : HubState) (t : ℕ) → g.supervised.kernel.opened ≡ h.supervised.kernel.opened → is_living g.supervised.kernel t ≡ is_living h.supervised.kernel t
living-same g h t e = ap (λ z. lives_in (tab_in z t)) e

pub restart-rests : (l : Library) → AreTabs l.hub.supervised.kernel.opened → IsResting l → IsResting (step Restarts l)
unfolding step
restart-rests l tabs x =
    let g = hub_restarted l.hub in
    let r : Grows l.hub g = restart-grows l.hub.supervised.kernel l.hub.supervised.broker l.hub in
    let m = with_hub g l in
    let runs-before : (t : ℕ) → runs m t ≡ true → runs l t ≡ true = λ t y. sym (ap (λ z. z && not (is_taken l t)) (living-same g l.hub t r.opened)) ∙ y in
    let cases : (b : BrokerState) → g.supervised.broker ≡ Some b → (g ≡ l.hub) ⊎ IsNew l.hub g b = restart-new l.hub.supervised.kernel l.hub.supervised.broker l.hub in
    record {
      fresh = λ t y. fresh-grows l g t r (x.fresh t (runs-before t y));
      keeping = λ b up. ⊎_elim
          (λ e. (subst (λ z. IsResting (with_hub z l)) (sym e) x).keeping b up)
          (λ n. new-keeps l g b n (subst AreTabs (sym r.opened) tabs)) (cases b up);
      serving = λ b t up y. ⊎_elim
          (λ e. (subst (λ z. IsResting (with_hub z l)) (sym e) x).serving b t up y)
          (λ n. new-serves l g b t n r (x.fresh t (runs-before t y)) (and_parts (lives l t) (not (is_taken l t)) (runs-before t y)).0) (cases b up);
    }

-- Without a broker only the fresh part is said.
stop-at : (l : Library) (k : KernelState) (o : Option BrokerState) → IsResting (with_hub (with_kernel_and k o l.hub) l) → IsResting (with_hub (hub_down (with_kernel_and k o l.hub)) l)
stop-at l k None x = x
stop-at l k (Some c) x =
    either (λ (s : SupervisedState). IsResting (with_hub (record l.hub { supervised = s }) l)) (may_stop k) (record { kernel = stopped k; broker = None }) (record { kernel = k; broker = Some c })
    (λ _. down) (λ _. x)
  where
    none-some : (b : BrokerState) → None ≡ Some b → ⊥
    none-some b e = cc

    down : IsResting (with_hub (with_kernel_and (stopped k) None l.hub) l)
    down = record {
      fresh = λ t y. let f = x.fresh t y in let e = f.entered in record {
        welcome = f.welcome;
        past = λ z g i a. let lt : g < suc k.generation = f.past z g i a in omega (arith, lt);
        entered = omega (arith, e);
      };
      keeping = λ b e. absurd (none-some b e);
      serving = λ b t e y. absurd (none-some b e);
    }

pub stop-rests : (l : Library) → IsResting l → IsResting (step Stops l)
unfolding step
stop-rests l x = stop-at l l.hub.supervised.kernel l.hub.supervised.broker x
