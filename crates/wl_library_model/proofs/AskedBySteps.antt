-- Each event that requests a lock is of a step that requests it.
use Rattle.std.proofs.Common.{◌≡◌, ◌⊎◌, inl, inr, ⊎_elim, ℕ, Bool, true, false, cond, not, ◌&&◌, ◌||◌, List, [], ◌∷◌, ◌++◌, length, Option, Some, None, is_some, Result, Ok, Err, refl, sym, ap, ap₂, ◌∙◌, subst}
use Rattle.std.specs.List.{list_any}
use Rattle.std.specs.Prelude.{◌==◌}
use Rattle.wl_origin.specs.Order.{Pair}
use Rattle.wl_origin.specs.declared.fault.OriginFault.{OriginFault}
use Rattle.std.proofs.lemmas.Bool.{and_parts, or_right}
use Rattle.wl_draft.specs.declared.mode.Mode.{Mode}
use Rattle.wl_draft.proofs.Membership.{apart, either}
use Rattle.wl_grammar.specs.declared.frame.Frame.{Frame}
use Rattle.wl_grammar.specs.declared.frame.Frame.TheVariants as frame
use Rattle.wl_grammar.specs.declared.frame.Operation.{Operation}
use Rattle.wl_agent.specs.Tab.{ask_refusal, asked}
use Rattle.wl_kernel.specs.Kernel.{KernelState}
use Rattle.wl_kernel.specs.Routes.{route_up_refusal}
use Rattle.wl_hub.specs.Early.{greeted_next}
use Rattle.wl_supervised_broker.specs.SupervisedStates.{is_active_for}
use Rattle.wl_hub.specs.Hub.{page_refusal}
use Rattle.wl_client.specs.Client.{ClientState, call_refusal, after_command, is_hello_of}
use Rattle.wl_world_model.specs.declared.event.Event.{Event}
use Rattle.wl_world_model.specs.declared.event.Event.TheVariants as event
use Rattle.wl_world_model.specs.declared.event.Forged.{Forged}
use Rattle.wl_world_model.specs.World.{empty_world, after_event, run}
use Rattle.wl_world_model.specs.Holdings.{asking, WasAsked}
use Rattle.wl_library_model.specs.Library.{Library, Line, with_line, Step, Opens, Closes, Restarts, Stops, HubReceives, HubAdvances, HubSends, Asks, Queries, Aborts, Releases, Resends, OpensChannel, Posts, Reads, ClosesChannel, TakesEvent, ClientReceives, ClientAdvances, ClientSends, TakesOver, Forges, new_library, client_of, is_taken, runs, asks, step, run_steps}
use Rattle.wl_library_model.specs.Events.{opening_events, forging, frame_events, first_events, greeting_events, telling_events, advance_events, call_events, delivery_events, handling_events, events_of, events_from, events}
use Rattle.wl_library_model.specs.Promises.{WasAskedBy}
use Rattle.wl_library_model.proofs.Carried.{Sim}
use Rattle.wl_library_model.proofs.Simulated.{step-sim, run-sim}

-- Lists

head-same : {X : Type 0} (x y : X) (xs ys : List X) → x ∷ xs ≡ y ∷ ys → x ≡ y
head-same x y xs ys e = cc

tail-same : {X : Type 0} (x y : X) (xs ys : List X) → x ∷ xs ≡ y ∷ ys → xs ≡ ys
tail-same x y xs ys e = cc

no-nil : {X : Type 0} (xs ys : List X) (x : X) → [] ≡ xs ++ x ∷ ys → ⊥
no-nil [] ys x e = cc
no-nil (z ∷ zs) ys x e = cc

-- An element of the first list, or of the second one behind it.
split : {X : Type 0} (xs ys before later : List X) (e : X) → xs ++ ys ≡ before ++ e ∷ later
    → ((rest : List X) × (xs ≡ before ++ e ∷ rest)) ⊎ ((more : List X) × (before ≡ xs ++ more) × (ys ≡ more ++ e ∷ later))
split [] ys before later e is = inr (before, refl, is)
split (x ∷ xs) ys [] later e is = inl (xs, ap (λ z. z ∷ xs) (head-same x e (xs ++ ys) later is))
split (x ∷ xs) ys (b ∷ bs) later e is =
    let first = head-same x b (xs ++ ys) (bs ++ e ∷ later) is in
    ⊎_elim
    (λ o. inl (o.0, ap₂ ◌∷◌ first o.1))
    (λ o. inr (o.0, ap₂ ◌∷◌ (sym first) o.1, o.2))
    (split xs ys bs later e (tail-same x b (xs ++ ys) (bs ++ e ∷ later) is))

-- Requests

abbrev is_asking : Event → Bool
is_asking (event.Ask t mode name) = true
is_asking (event.Probe t mode name) = true
is_asking e = false

asking-is : (t : ℕ) (mode : Mode) (b : Bool) (name : List ℕ) → is_asking (asking t mode b name) ≡ true
asking-is t mode true name = refl
asking-is t mode false name = refl

has-asking : (before later : List Event) (t : ℕ) (mode : Mode) (b : Bool) (name : List ℕ) → list_any is_asking (before ++ asking t mode b name ∷ later) ≡ true
has-asking [] later t mode b name = ap (λ z. z || list_any is_asking later) (asking-is t mode b name)
has-asking (x ∷ xs) later t mode b name = or_right (is_asking x) _ (has-asking xs later t mode b name)

abbrev None-asks : List Event → Type 0
None-asks es = list_any is_asking es ≡ false

forging-none : (b : Bool) (t : ℕ) (x : Forged) → None-asks (forging b t x)
forging-none true t x = refl
forging-none false t x = refl

upward-none : (b : Bool) (t : ℕ) (x : Forged) (e : Event) → is_asking e ≡ false → None-asks (forging b t x ++ e ∷ [])
upward-none true t x e n = ap (λ z. z || false) n
upward-none false t x e n = ap (λ z. z || false) n

frame-none : (b : Bool) (k : KernelState) (t : ℕ) (f : Frame) → None-asks (frame_events b k t f)
frame-none b k t (frame.Command c) = upward-none b t _ _ refl
frame-none b k t (frame.Report r) = upward-none b t _ _ refl
frame-none b k t (frame.ReportPart r) = upward-none b t _ _ refl
frame-none b k t (frame.Post p) = forging-none b t _
frame-none b k t f = refl

first-none : (l : Library) (fs : List Frame) → None-asks (first_events l fs)
first-none l [] = refl
first-none l (f ∷ fs) =
    let h = l.hub in
    either None-asks (is_some (route_up_refusal h.sender f h.supervised.kernel)) [] (frame_events (is_taken l h.sender) h.supervised.kernel h.sender f) (λ _. refl) (λ _. frame-none (is_taken l h.sender) h.supervised.kernel h.sender f)

greeting-none : (l : Library) (o : Option ℕ) → None-asks (greeting_events l o)
greeting-none l None = first-none l l.hub.arrived
greeting-none l (Some t) = either None-asks (is_active_for t l.hub.supervised) (event.Hello t ∷ []) [] (λ _. refl) (λ _. refl)

telling-none : (l : Library) (ts : List ℕ) → None-asks (telling_events l ts)
telling-none l [] = greeting-none l (greeted_next l.hub.greetings l.hub.early)
telling-none l (t ∷ ts) = refl

advance-none : (l : Library) → None-asks (advance_events l)
advance-none l = either None-asks (is_some l.hub.supervised.broker) (telling_events l l.hub.untold) (first_events l l.hub.arrived) (λ _. telling-none l l.hub.untold) (λ _. first-none l l.hub.arrived)

opening-none : (t : ℕ) (page : Result Pair OriginFault) (i : Bool) → None-asks (opening_events t page i)
opening-none t (Err f) i = refl
opening-none t (Ok p) true = refl
opening-none t (Ok p) false = refl

call-none : (l : Library) (t : ℕ) (e : Event) → is_asking e ≡ false → None-asks (call_events l t e)
call-none l t e n = either None-asks (runs l t && (client_of l t).is_welcomed) (e ∷ []) [] (λ _. ap (λ z. z || false) n) (λ _. refl)

delivery-none : (t : ℕ) (f : Frame) → None-asks (delivery_events t f)
delivery-none t (frame.Hello h) = refl
delivery-none t (frame.Answer x) = refl
delivery-none t (frame.Snapshot x) = refl
delivery-none t (frame.Heard h) = refl
delivery-none t f = refl

handling-none : (t : ℕ) (c : ClientState) (fs : List Frame) → None-asks (handling_events t c fs)
handling-none t c [] = refl
handling-none t c (f ∷ fs) = either None-asks (not c.is_welcomed || is_hello_of c.locks.entered f) [] (delivery_events t f) (λ _. refl) (λ _. delivery-none t f)

-- The step requests the lock, as the only thing that it does.
record IsAsk (l : Library) (x : Step) (before : List Event) (t : ℕ) (mode : Mode) (b : Bool) (name : List ℕ) : Type 0 where
  step : x ≡ Asks t mode b name
  first : before ≡ []
  accepted : (runs l t && (client_of l t).is_welcomed) ≡ true

probe-same : (t u : ℕ) (m n : Mode) (xs ys : List ℕ) → event.Probe t m xs ≡ event.Probe u n ys → (t ≡ u) × (m ≡ n) × (xs ≡ ys)
probe-same t u m n xs ys e = (cc, cc, cc)

ask-same : (t u : ℕ) (m n : Mode) (xs ys : List ℕ) → event.Ask t m xs ≡ event.Ask u n ys → (t ≡ u) × (m ≡ n) × (xs ≡ ys)
ask-same t u m n xs ys e = (cc, cc, cc)

probe-ask : (t u : ℕ) (m n : Mode) (xs ys : List ℕ) → event.Probe t m xs ≡ event.Ask u n ys → ⊥
probe-ask t u m n xs ys e = cc

asking-same : (t u : ℕ) (m n : Mode) (b c : Bool) (xs ys : List ℕ) → asking t m b xs ≡ asking u n c ys → (t ≡ u) × (m ≡ n) × (b ≡ c) × (xs ≡ ys)
asking-same t u m n true true xs ys e = let o = probe-same t u m n xs ys e in (o.0, o.1, refl, o.2)
asking-same t u m n false false xs ys e = let o = ask-same t u m n xs ys e in (o.0, o.1, refl, o.2)
asking-same t u m n true false xs ys e = absurd (probe-ask t u m n xs ys e)
asking-same t u m n false true xs ys e = absurd (probe-ask u t n m ys xs (sym e))

one-first : (x e : Event) (before rest : List Event) → x ∷ [] ≡ before ++ e ∷ rest → (before ≡ []) × (x ≡ e)
one-first x e [] rest is = (refl, head-same x e [] rest is)
one-first x e (b ∷ bs) rest is = absurd (no-nil bs rest e (tail-same x b [] (bs ++ e ∷ rest) is))

ask-found : (l : Library) (u : ℕ) (n : Mode) (c : Bool) (ys : List ℕ) (before rest : List Event) (t : ℕ) (mode : Mode) (b : Bool) (name : List ℕ)
    → call_events l u (asking u n c ys) ≡ before ++ asking t mode b name ∷ rest → IsAsk l (Asks u n c ys) before t mode b name
ask-found l u n c ys before rest t mode b name =
    either (λ es. es ≡ before ++ asking t mode b name ∷ rest → IsAsk l (Asks u n c ys) before t mode b name) (runs l u && (client_of l u).is_welcomed) (asking u n c ys ∷ []) []
    (λ y is. let o = one-first (asking u n c ys) (asking t mode b name) before rest is in
    let e = asking-same u t n mode c b ys name o.1 in record {
      step = (λ i. Asks (e.0 i) (e.1 i) (e.2 i) (e.3 i));
      first = o.0;
      accepted = subst (λ z. (runs l z && (client_of l z).is_welcomed) ≡ true) e.0 y;
    })
    (λ _ is. absurd (no-nil before rest (asking t mode b name) is))

none-found : (l : Library) (x : Step) (es before rest : List Event) (t : ℕ) (mode : Mode) (b : Bool) (name : List ℕ) → None-asks es → es ≡ before ++ asking t mode b name ∷ rest → IsAsk l x before t mode b name
none-found l x es before rest t mode b name n is = apart (ap (list_any is_asking) is ∙ has-asking before rest t mode b name) n

step-found : (l : Library) (x : Step) (before rest : List Event) (t : ℕ) (mode : Mode) (b : Bool) (name : List ℕ) → events_of l x ≡ before ++ asking t mode b name ∷ rest → IsAsk l x before t mode b name
unfolding events_of
step-found l (Opens u page i) before rest t mode b name is =
    none-found l (Opens u page i) _ before rest t mode b name (either None-asks (is_some (page_refusal u page l.hub)) [] (opening_events u page i) (λ _. refl) (λ _. opening-none u page i)) is
step-found l (Closes u) before rest t mode b name is = none-found l (Closes u) _ before rest t mode b name refl is
step-found l Restarts before rest t mode b name is = none-found l Restarts _ before rest t mode b name refl is
step-found l Stops before rest t mode b name is = none-found l Stops _ before rest t mode b name refl is
step-found l (HubReceives u n) before rest t mode b name is = none-found l (HubReceives u n) [] before rest t mode b name refl is
step-found l HubAdvances before rest t mode b name is = none-found l HubAdvances _ before rest t mode b name (advance-none l) is
step-found l HubSends before rest t mode b name is = none-found l HubSends [] before rest t mode b name refl is
step-found l (Asks u n c ys) before rest t mode b name is = ask-found l u n c ys before rest t mode b name is
step-found l (Queries u) before rest t mode b name is = none-found l (Queries u) _ before rest t mode b name (call-none l u (event.Query u) refl) is
step-found l (Aborts u k) before rest t mode b name is = none-found l (Aborts u k) _ before rest t mode b name (call-none l u (event.Abort u k) refl) is
step-found l (Releases u k) before rest t mode b name is = none-found l (Releases u k) _ before rest t mode b name (call-none l u (event.Release u k) refl) is
step-found l (Resends u) before rest t mode b name is = none-found l (Resends u) [] before rest t mode b name refl is
step-found l (OpensChannel u ys) before rest t mode b name is = none-found l (OpensChannel u ys) _ before rest t mode b name (call-none l u (event.Channel u ys) refl) is
step-found l (Posts u k ys) before rest t mode b name is = none-found l (Posts u k ys) _ before rest t mode b name (call-none l u (event.Post u k ys) refl) is
step-found l (Reads u k) before rest t mode b name is = none-found l (Reads u k) _ before rest t mode b name (call-none l u (event.Read u k) refl) is
step-found l (ClosesChannel u k) before rest t mode b name is = none-found l (ClosesChannel u k) _ before rest t mode b name (call-none l u (event.Close u k) refl) is
step-found l (TakesEvent u) before rest t mode b name is = none-found l (TakesEvent u) [] before rest t mode b name refl is
step-found l (ClientReceives u n) before rest t mode b name is = none-found l (ClientReceives u n) [] before rest t mode b name refl is
step-found l (ClientAdvances u) before rest t mode b name is =
    none-found l (ClientAdvances u) _ before rest t mode b name (either None-asks (runs l u) (handling_events u (client_of l u) (client_of l u).arrived) [] (λ _. handling-none u (client_of l u) (client_of l u).arrived) (λ _. refl)) is
step-found l (ClientSends u) before rest t mode b name is = none-found l (ClientSends u) [] before rest t mode b name refl is
step-found l (TakesOver u) before rest t mode b name is = none-found l (TakesOver u) _ before rest t mode b name refl is
step-found l (Forges u f) before rest t mode b name is = none-found l (Forges u f) [] before rest t mode b name refl is

-- The step among the list, with the events of the steps before it.
record Found (xs : List Step) (l : Library) (before : List Event) (t : ℕ) (mode : Mode) (b : Bool) (name : List ℕ) : Type 0 where
  earlier : List Step
  later : List Step
  split : xs ≡ earlier ++ Asks t mode b name ∷ later
  events : before ≡ events_from l earlier
  accepted : (runs (run_steps earlier l) t && (client_of (run_steps earlier l) t).is_welcomed) ≡ true

steps-found : (xs : List Step) (l : Library) (before rest : List Event) (t : ℕ) (mode : Mode) (b : Bool) (name : List ℕ) → events_from l xs ≡ before ++ asking t mode b name ∷ rest → Found xs l before t mode b name
steps-found [] l before rest t mode b name is = absurd (no-nil before rest (asking t mode b name) is)
steps-found (x ∷ xs) l before rest t mode b name is = ⊎_elim
    (λ o. let a = step-found l x before o.0 t mode b name o.1 in record { earlier = []; later = xs; split = ap (λ z. z ∷ xs) a.step; events = a.first; accepted = a.accepted })
    (λ o. let f = steps-found xs (step x l) o.0 rest t mode b name o.2 in record {
      earlier = x ∷ f.earlier;
      later = f.later;
      split = ap (λ zs. x ∷ zs) f.split;
      events = o.1 ∙ ap (λ zs. events_of l x ++ zs) f.events;
      accepted = f.accepted;
    })
    (split (events_of l x) (events_from (step x l) xs) before rest (asking t mode b name) is)

-- The client after the request.
asks-welcomed : (mode : Mode) (b : Bool) (name : List ℕ) (c : ClientState) → (asks mode b name c).is_welcomed ≡ c.is_welcomed
asks-welcomed mode b name c = either (λ (z : ClientState). z.is_welcomed ≡ c.is_welcomed) (is_some (call_refusal (ask_refusal c.locks name) c)) c (after_command (asked mode b name) c) (λ _. refl) (λ _. refl)

still-welcomed : (l : Library) (t : ℕ) (mode : Mode) (b : Bool) (name : List ℕ) → (runs l t && (client_of l t).is_welcomed) ≡ true → (client_of (step (Asks t mode b name) l) t).is_welcomed ≡ true
unfolding step
still-welcomed l t mode b name y =
    either (λ z. (client_of z t).is_welcomed ≡ true) (runs l t) (with_line t (record (l.lines t) { client = asks mode b name (client_of l t) }) l) l
    (λ _. either (λ (z : Line). z.client.is_welcomed ≡ true) (t == t) (record (l.lines t) { client = asks mode b name (client_of l t) }) (l.lines t) (λ _. asks-welcomed mode b name (client_of l t) ∙ (and_parts _ _ y).1) (λ _. (and_parts _ _ y).1))
    (λ n. apart (and_parts _ _ y).0 n)

asks-events : (l : Library) (t : ℕ) (mode : Mode) (b : Bool) (name : List ℕ) → (runs l t && (client_of l t).is_welcomed) ≡ true → events_of l (Asks t mode b name) ≡ asking t mode b name ∷ []
unfolding events_of
asks-events l t mode b name y = ap (λ z. cond z (asking t mode b name ∷ []) []) y

pub asked-by : (steps : List Step) (t k : ℕ) (o : Operation) → WasAsked (events steps) t k o → WasAskedBy steps t k o
asked-by steps t k o a =
    let f = steps-found steps new_library a.before a.later t a.mode a.if_available a.name a.split in
    let l = run_steps f.earlier new_library in
    let w = run a.before empty_world in
    let s : Sim l w = subst (λ es. Sim l (run es empty_world)) (sym f.events) (run-sim f.earlier) in
    let e = asking t a.mode a.if_available a.name in
    let z : Sim (step (Asks t a.mode a.if_available a.name) l) (after_event w e) = subst (λ es. Sim (step (Asks t a.mode a.if_available a.name) l) (run es w)) (asks-events l t a.mode a.if_available a.name f.accepted) (step-sim l w (Asks t a.mode a.if_available a.name) s) in
    let before = ap (λ c. c.issued) ((s.lines t).client.welcomed (and_parts _ _ f.accepted).1) in
    let after = ap (λ c. c.issued) ((z.lines t).client.welcomed (still-welcomed l t a.mode a.if_available a.name f.accepted)) in
    record {
      before = f.earlier;
      later = f.later;
      mode = a.mode;
      if_available = a.if_available;
      name = a.name;
      split = f.split;
      asked = a.asked;
      numbered = ap length before ∙ a.numbered;
      issued = after ∙ (a.issued ∙ ap (λ zs. zs ++ o ∷ []) (sym before));
    }
