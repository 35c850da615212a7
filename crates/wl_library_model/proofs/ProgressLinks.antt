-- Delivery of all frames on their way to the hub or to a client.
use Rattle.std.proofs.Common.{◌≡◌, ⊎_elim, ℕ, Bool, true, cond, not, ◌&&◌, List, [], ◌∷◌, ◌++◌, length, take, drop, filter, replicate, Option, Some, None, refl, sym, ap, ap₂, ◌∙◌, subst, append_assoc, append-nil}
use Rattle.std.specs.Prelude.{◌==◌}
use Rattle.std.specs.List.{list_any}
use Rattle.std.proofs.lemmas.Bool.{eq-eqb, eqb-true}
use Rattle.wl_draft.specs.Membership.{In, Here, Later as Behind}
use Rattle.wl_draft.proofs.Membership.{either, by_test, In-nil, In-cons_cases, In-filter, In-filter_cases}
use Rattle.wl_grammar.specs.declared.frame.Frame.{Frame}
use Rattle.wl_grammar.specs.declared.frame.Frame.TheVariants as frame
use Rattle.wl_client.specs.declared.client.Unsent.TheVariants as unsent
use Rattle.wl_client.specs.Client.{ClientState, welcome_of, after_welcome, is_hello_of, after_delivery, after_frame, after_first, advanced}
use Rattle.wl_kernel.specs.Kernel.{is_living}
use Rattle.wl_supervised_broker.specs.SupervisedStates.{SupervisedState}
use Rattle.wl_hub.specs.Hub.{HubState}
use Rattle.wl_hub.specs.Hub.{advanced as hub_advanced}
use Rattle.wl_library_model.specs.Library.{Library, Line, HubReceives, HubAdvances, HubSends, ClientSends, ClientAdvances, with_line, with_hub, client_of, lives as lives_in, runs, hub_fed, hub_sends_from, is_due, client_fed, sending, followed_by, step, run_steps}
use Rattle.wl_library_model.specs.Progress.{sent_out, received, handled, heard}

-- Lines

pub at_line : (t : ℕ) (x : Line) (l : Library) → (with_line t x l).lines t ≡ x
at_line t x l = ap (λ b. cond b x (l.lines t)) (eq-eqb t t refl)

-- Whether a client runs depends on the hub and on the tabs that were taken over.
pub runs-same : (l m : Library) (t : ℕ) → m.hub.supervised ≡ l.hub.supervised → m.taken ≡ l.taken → runs m t ≡ runs l t
runs-same l m t h e = ap₂ (λ (z : SupervisedState) (zs : List ℕ). is_living z.kernel t && not (list_any (λ u. u == t) zs)) h e

-- The hub sends its frames

-- The tab's frames among these.
abbrev pub for_tab : ℕ → List (ℕ × Frame) → List Frame
for_tab t [] = []
for_tab t (o ∷ os) = cond (t == o.0) (o.1 ∷ for_tab t os) (for_tab t os)

pub for_tab-append : (t : ℕ) (os ps : List (ℕ × Frame)) → for_tab t (os ++ ps) ≡ for_tab t os ++ for_tab t ps
for_tab-append t [] ps = refl
for_tab-append t (o ∷ os) ps =
    by_test (λ b. cond b (o.1 ∷ for_tab t (os ++ ps)) (for_tab t (os ++ ps)) ≡ cond b (o.1 ∷ for_tab t os) (for_tab t os) ++ for_tab t ps) (t == o.0)
    (λ _. ap (λ zs. o.1 ∷ zs) (for_tab-append t os ps))
    (λ _. for_tab-append t os ps)

pub In-for_tab : (t : ℕ) (f : Frame) (os : List (ℕ × Frame)) → In f (for_tab t os) → In (t, f) os
In-for_tab t f [] i = absurd (In-nil i)
In-for_tab t f (o ∷ os) i =
    either (λ zs. In f zs → In (t, f) (o ∷ os)) (t == o.0) (o.1 ∷ for_tab t os) (for_tab t os)
    (λ y j. ⊎_elim
    (λ e. subst (λ (z : ℕ × Frame). In z (o ∷ os)) (λ n. (sym (eqb-true t o.0 y) n, sym e n)) Here)
    (λ k. Behind (In-for_tab t f os k))
    (In-cons_cases j))
    (λ _ j. Behind (In-for_tab t f os j))
    i

pub for_tab-first : (t : ℕ) (f : Frame) (os : List (ℕ × Frame)) → In f (for_tab t ((t, f) ∷ os))
for_tab-first t f os = subst (λ b. In f (cond b (f ∷ for_tab t os) (for_tab t os))) (sym (eq-eqb t t refl)) Here

for_tab-In : (t : ℕ) (f : Frame) (os : List (ℕ × Frame)) → In (t, f) os → In f (for_tab t os)
for_tab-In t f [] i = absurd (In-nil i)
for_tab-In t f (o ∷ os) i = ⊎_elim
    (λ e. subst (λ (z : ℕ × Frame). In f (for_tab t (z ∷ os))) e (for_tab-first t f os))
    (λ k. either (In f) (t == o.0) (o.1 ∷ for_tab t os) (for_tab t os) (λ _. Behind (for_tab-In t f os k)) (λ _. for_tab-In t f os k))
    (In-cons_cases i)

-- Those that the hub sends.
abbrev pub due_for : HubState → ℕ → List (ℕ × Frame) → List Frame
due_for h t os = for_tab t (filter (λ o. is_due h o) os)

pub In-due_for : (h : HubState) (t : ℕ) (f : Frame) (os : List (ℕ × Frame)) → In f (due_for h t os) → In (t, f) os
In-due_for h t f os i = (In-filter_cases (λ o. is_due h o) os (In-for_tab t f (filter (λ o. is_due h o) os) i)).0

pub due_for-In : (h : HubState) (t : ℕ) (f : Frame) (os : List (ℕ × Frame)) → In (t, f) os → is_due h (t, f) ≡ true → In f (due_for h t os)
due_for-In h t f os i d = for_tab-In t f (filter (λ o. is_due h o) os) (In-filter (λ o. is_due h o) os i d)

pub due_for-first : (h : HubState) (t : ℕ) (f : Frame) (os : List (ℕ × Frame)) → is_due h (t, f) ≡ true → due_for h t ((t, f) ∷ os) ≡ f ∷ due_for h t os
due_for-first h t f os d =
    ap (λ b. for_tab t (cond b ((t, f) ∷ filter (λ o. is_due h o) os) (filter (λ o. is_due h o) os))) d
    ∙ ap (λ b. cond b (f ∷ due_for h t os) (due_for h t os)) (eq-eqb t t refl)

pub due_for-append : (h : HubState) (t : ℕ) (os ps : List (ℕ × Frame)) → due_for h t (os ++ ps) ≡ due_for h t os ++ due_for h t ps
due_for-append h t [] ps = refl
due_for-append h t (o ∷ os) ps =
    let d = λ (z : ℕ × Frame). is_due h z in
    by_test (λ b. for_tab t (cond b (o ∷ filter d (os ++ ps)) (filter d (os ++ ps))) ≡ for_tab t (cond b (o ∷ filter d os) (filter d os)) ++ due_for h t ps) (is_due h o)
    (λ _. by_test (λ b. cond b (o.1 ∷ due_for h t (os ++ ps)) (due_for h t (os ++ ps)) ≡ cond b (o.1 ∷ due_for h t os) (due_for h t os) ++ due_for h t ps) (t == o.0)
    (λ _. ap (λ zs. o.1 ∷ zs) (due_for-append h t os ps))
    (λ _. due_for-append h t os ps))
    (λ _. due_for-append h t os ps)

pub record SentOut (l m : Library) (t : ℕ) (fs : List Frame) : Type 0 where
  pub hub : m.hub ≡ record l.hub { outputs = [] }
  pub taken : m.taken ≡ l.taken
  pub line : m.lines t ≡ record (l.lines t) { down = (l.lines t).down ++ fs }

sends-all : (os : List (ℕ × Frame)) (l : Library) (t : ℕ) → l.hub.outputs ≡ os → SentOut l (run_steps (replicate (length os) HubSends) l) t (due_for l.hub t os)
unfolding step
sends-all [] l t e = record { hub = λ i. record l.hub { outputs = e i }; taken = refl; line = λ i. record (l.lines t) { down = sym (append-nil (l.lines t).down) i } }
sends-all (o ∷ os) l t e =
    let x = l.lines o.0 in
    let m = with_hub (record l.hub { outputs = os }) l in
    let n = with_line o.0 (record x { down = x.down ++ o.1 ∷ [] }) m in
    let fs = due_for l.hub t os in
    let due = filter (λ z. is_due l.hub z) os in
    subst (λ z. SentOut l (run_steps (replicate (length os) HubSends) (hub_sends_from z l)) t (due_for l.hub t (o ∷ os))) (sym e)
    (by_test (λ b. SentOut l (run_steps (replicate (length os) HubSends) (cond b n m)) t (for_tab t (cond b (o ∷ due) due))) (is_due l.hub o)
    (λ _. let s = sends-all os n t refl in record {
      hub = s.hub;
      taken = s.taken;
      line = s.line ∙ by_test (λ b. (t == o.0) ≡ b → record (cond b (record x { down = x.down ++ o.1 ∷ [] }) (l.lines t)) { down = (cond b (record x { down = x.down ++ o.1 ∷ [] }) (l.lines t)).down ++ fs } ≡ record (l.lines t) { down = (l.lines t).down ++ cond b (o.1 ∷ fs) fs }) (t == o.0)
          (λ _ y. subst (λ n. record (l.lines o.0) { down = ((l.lines o.0).down ++ o.1 ∷ []) ++ fs } ≡ record (l.lines n) { down = (l.lines n).down ++ o.1 ∷ fs }) (sym (eqb-true t o.0 y)) (λ i. record (l.lines o.0) { down = append_assoc (l.lines o.0).down (o.1 ∷ []) fs i }))
          (λ _ _. refl)
          refl;
    })
    (λ _. let s = sends-all os m t refl in record { hub = s.hub; taken = s.taken; line = s.line }))

-- A client handles frames

abbrev pub all_handled : List Frame → ClientState → ClientState
all_handled [] c = c
all_handled (f ∷ fs) c = all_handled fs (after_first (f ∷ fs) c)

delivery-arrived : (f : Frame) (c : ClientState) → (after_delivery f c).arrived ≡ c.arrived
delivery-arrived (frame.Heard h) c = refl
delivery-arrived f c = refl

welcome-arrived : (o : Option (ℕ × Bool)) (c : ClientState) → (after_welcome o c).arrived ≡ c.arrived
welcome-arrived None c = refl
welcome-arrived (Some w) c = refl

first-arrived : (f : Frame) (fs : List Frame) (c : ClientState) → (after_first (f ∷ fs) c).arrived ≡ fs
first-arrived f fs c =
    let rest = record c { arrived = fs } in
    either (λ z. z.arrived ≡ fs) c.is_welcomed (after_frame f rest) (after_welcome (welcome_of f) rest)
    (λ _. either (λ z. z.arrived ≡ fs) (is_hello_of c.locks.entered f) (record rest { unsent = rest.unsent ++ unsent.Resend ∷ [] }) (after_delivery f rest)
    (λ _. refl)
    (λ _. delivery-arrived f rest))
    (λ _. welcome-arrived (welcome_of f) rest)

pub all_handled-arrived : (fs : List Frame) (c : ClientState) → c.arrived ≡ fs → (all_handled fs c).arrived ≡ []
all_handled-arrived [] c e = e
all_handled-arrived (f ∷ fs) c e = all_handled-arrived fs (after_first (f ∷ fs) c) (first-arrived f fs c)

pub record ClientMoves (l m : Library) (t : ℕ) (c : ClientState) : Type 0 where
  pub hub : m.hub ≡ l.hub
  pub taken : m.taken ≡ l.taken
  pub line : m.lines t ≡ record (l.lines t) { client = c }

handles-all : (fs : List Frame) (l : Library) (t : ℕ) → runs l t ≡ true → (client_of l t).arrived ≡ fs → ClientMoves l (run_steps (replicate (length fs) (ClientAdvances t)) l) t (all_handled fs (client_of l t))
unfolding step
handles-all [] l t r e = record { hub = refl; taken = refl; line = refl }
handles-all (f ∷ fs) l t r e =
    let c = client_of l t in
    let m = with_line t (record (l.lines t) { client = after_first (f ∷ fs) c }) l in
    let at = at_line t (record (l.lines t) { client = after_first (f ∷ fs) c }) l in
    let s = handles-all fs m t r (ap (λ z. z.client.arrived) at ∙ first-arrived f fs c) in
    subst (λ b. ClientMoves l (run_steps (replicate (length fs) (ClientAdvances t)) (cond b (with_line t (record (l.lines t) { client = advanced c }) l) l)) t (all_handled fs (after_first (f ∷ fs) c))) (sym r)
    (subst (λ z. ClientMoves l (run_steps (replicate (length fs) (ClientAdvances t)) (with_line t (record (l.lines t) { client = after_first z c }) l)) t (all_handled fs (after_first (f ∷ fs) c))) (sym e) (record {
      hub = s.hub;
      taken = s.taken;
      line = s.line ∙ ap (λ (z : Line). record z { client = all_handled fs z.client }) at;
    }))

pub handled-moves : (l : Library) (t : ℕ) → runs l t ≡ true → ClientMoves l (handled t l) t (all_handled (client_of l t).arrived (client_of l t))
handled-moves l t r = handles-all (client_of l t).arrived l t r refl

take-all : {X : Type 0} (xs : List X) → take (length xs) xs ≡ xs
take-all [] = refl
take-all (x ∷ xs) = ap (λ zs. x ∷ zs) (take-all xs)

drop-all : {X : Type 0} (xs : List X) → drop (length xs) xs ≡ []
drop-all [] = refl
drop-all (x ∷ xs) = drop-all xs

received-line : (l : Library) (t : ℕ) → runs l t ≡ true → (client_of l t).arrived ≡ [] → (received t l).lines t ≡ record (l.lines t) { client = record (client_of l t) { arrived = (l.lines t).down }; down = [] }
unfolding step
received-line l t r e =
    let x = l.lines t in
    let n = length x.down in
    ap (λ b. (cond b (with_line t (client_fed n x.client.arrived x) l) l).lines t) r
    ∙ (at_line t (client_fed n x.client.arrived x) l
    ∙ (ap (λ fs. client_fed n fs x) e
    ∙ (λ i. record x { client = record x.client { arrived = take-all x.down i }; down = drop-all x.down i })))

received-rest : (l : Library) (t : ℕ) → ((received t l).hub ≡ l.hub) × ((received t l).taken ≡ l.taken)
unfolding step
received-rest l t = either (λ (z : Library). (z.hub ≡ l.hub) × (z.taken ≡ l.taken)) (runs l t) (with_line t (client_fed (length (l.lines t).down) (client_of l t).arrived (l.lines t)) l) l (λ _. (refl, refl)) (λ _. (refl, refl))

-- All frames on their way to a client reach it

-- The client before the frames of its link arrive.
abbrev pub met : ClientState → ClientState
met c = all_handled c.arrived c

abbrev pub on_way : Library → ℕ → List Frame
on_way l t = (l.lines t).down ++ due_for l.hub t l.hub.outputs

abbrev pub hearing : List Frame → ClientState → ClientState
hearing fs c = all_handled fs (record (met c) { arrived = fs })

pub record Heard (l m : Library) (t : ℕ) : Type 0 where
  pub hub : m.hub ≡ record l.hub { outputs = [] }
  pub taken : m.taken ≡ l.taken
  pub line : m.lines t ≡ record (l.lines t) { client = hearing (on_way l t) (client_of l t); down = [] }

pub heard-all : (l : Library) (t : ℕ) → runs l t ≡ true → Heard l (heard t l) t
heard-all l t r =
    let c = client_of l t in
    let a = sent_out l in
    let x = sends-all l.hub.outputs l t refl in
    let ra : runs a t ≡ true = runs-same l a t (ap (λ z. z.supervised) x.hub) x.taken ∙ r in
    let b = handled t a in
    let y = handled-moves a t ra in
    let rb : runs b t ≡ true = runs-same a b t (ap (λ z. z.supervised) y.hub) y.taken ∙ ra in
    let yl : b.lines t ≡ record (l.lines t) { client = met c; down = on_way l t } = y.line ∙ ap (λ (z : Line). record z { client = all_handled z.client.arrived z.client }) x.line in
    let d = received t b in
    let none : (client_of b t).arrived ≡ [] = ap (λ z. z.client.arrived) yl ∙ all_handled-arrived c.arrived c refl in
    let z = received-rest b t in
    let zl : d.lines t ≡ record (l.lines t) { client = record (met c) { arrived = on_way l t }; down = [] } = received-line b t rb none ∙ ap (λ (v : Line). record v { client = record v.client { arrived = v.down }; down = [] }) yl in
    let rd : runs d t ≡ true = runs-same b d t (ap (λ v. v.supervised) z.0) z.1 ∙ rb in
    let e = handled-moves d t rd in
    record {
      hub = e.hub ∙ (z.0 ∙ (y.hub ∙ x.hub));
      taken = e.taken ∙ (z.1 ∙ (y.taken ∙ x.taken));
      line = e.line ∙ ap (λ (v : Line). record v { client = all_handled v.client.arrived v.client }) zl;
    }

-- A client sends, and the hub receives

-- The hub with one frame of the tab to handle.
abbrev pub fed : ℕ → Frame → HubState → HubState
fed t f h = record h { sender = t; arrived = f ∷ [] }

pub sends-line : (l : Library) (t : ℕ) (x : Line) → l.lines t ≡ x → runs l t ≡ true → step (ClientSends t) l ≡ with_line t (record x { client = (sending x.client).client; up = followed_by x.up (sending x.client).frame }) l
unfolding step
sends-line l t x e r =
    ap (λ b. cond b (let z = l.lines t in let s = sending z.client in with_line t (record z { client = s.client; up = followed_by z.up s.frame }) l) l) r
    ∙ ap (λ (z : Line). with_line t (record z { client = (sending z.client).client; up = followed_by z.up (sending z.client).frame }) l) e

-- The hub receives the only frame of the link.
pub receives-line : (l : Library) (t : ℕ) (x : Line) (f : Frame) → l.lines t ≡ x → x.up ≡ f ∷ [] → lives_in l t ≡ true → l.hub.arrived ≡ []
    → step (HubReceives t 1) l ≡ with_line t (record x { up = [] }) (with_hub (fed t f l.hub) l)
unfolding step
receives-line l t x f e u y n =
    ap (λ b. cond b (hub_fed t 1 l.hub.arrived l) l) y
    ∙ (ap (λ fs. hub_fed t 1 fs l) n
    ∙ (ap (λ (z : Line). with_line t (record z { up = drop 1 z.up }) (with_hub (record l.hub { sender = t; arrived = take 1 z.up }) l)) e
    ∙ ap (λ us. with_line t (record x { up = drop 1 us }) (with_hub (record l.hub { sender = t; arrived = take 1 us }) l)) u))

pub advances-hub : (l : Library) → step HubAdvances l ≡ with_hub (hub_advanced l.hub) l
unfolding step
advances-hub l = refl
