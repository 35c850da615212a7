-- Proof that each command that requests a lock was issued by an event that requested it.
use Rattle.std.proofs.Common.{◌≡◌, ◌⊎◌, inl, inr, ⊎_elim, ℕ, ◌+◌, ◌<◌, Bool, true, false, List, [], ◌∷◌, ◌++◌, length, length-append, append_assoc, append-nil, get_or, Option, Some, None, refl, sym, ap, ◌∙◌, subst, arith}
use Rattle.std.specs.Prelude.{◌==◌, nat_lt}
use Rattle.std.proofs.lemmas.Bool.{cases_lt}
use Rattle.std.proofs.lemmas.List.{get_or_append_left, get_or_push}
use Rattle.wl_draft.specs.declared.mode.Mode.{Mode}
use Rattle.wl_grammar.specs.declared.frame.Operation.{Operation}
use Rattle.wl_grammar.specs.declared.frame.Operation.TheVariants.{Request, Release, Abort, Query}
use Rattle.wl_grammar.specs.declared.frame.Downward.{Downward}
use Rattle.wl_grammar.specs.declared.frame.Downward.TheVariants as down
use Rattle.wl_grammar.specs.declared.frame.Stamped.{Stamped}
use Rattle.wl_broker.specs.Broker.{BrokerState, Taking, Drops, Does, taking, is_lock}
use Rattle.wl_broadcast.specs.Channels.{ChannelState}
use Rattle.wl_agent.specs.declared.delivered.Delivered.{Delivered}
use Rattle.wl_agent.specs.Tab.{TabState, born, operation_of, is_held, issue, finish, asked, queried, aborted, released, enter_first, enter_later, enter}
use Rattle.wl_agent.specs.Delivery.{has_entered, delivery}
use Rattle.wl_kernel.specs.Routes.{frame_of}
use Rattle.wl_world_messages.specs.declared.message.Message.{Message}
use Rattle.wl_world_messages.specs.declared.message.Message.TheVariants.{Up, Down, Across}
use Rattle.wl_world_messages.specs.Messages.{is_sent}
use Rattle.wl_draft.proofs.Membership.{apart, either}
use Rattle.wl_limits.specs.declared.tabs.TheConstants.{COMMAND_LIMIT}
use Rattle.wl_tab.specs.Tabs.{told}
use Rattle.wl_world_model.specs.declared.event.Event.{Event}
use Rattle.wl_world_model.specs.declared.event.Event.TheVariants as event
use Rattle.wl_world_model.specs.World.{WorldState, empty_world, with_rows, tab_of, lives, StepResult, unchanged, if_allowed, acts, issues_command, asks, queries, aborts, releases, resends, becomes, takes_frame, arrives_at_broker, arrives, tells, stops, starts, greets, step_result, after_event, run}
use Rattle.wl_world_model.proofs.AtBroker.{follows}
use Rattle.wl_world_model.specs.Sends.{report_if_entered}
use Rattle.wl_world_model.specs.Holdings.{asking, WasAsked, Own}
use Rattle.wl_world_model.proofs.replies.StepsAndSends.{run-push}
use Rattle.wl_world_model.proofs.exclusion.Invariant.{Sound, SoundTab}
use Rattle.wl_world_model.proofs.exclusion.CoverExcludes.{held_alive}
use Rattle.wl_world_model.proofs.exclusion.GrownTabs.{tab_at}
use Rattle.wl_world_model.proofs.exclusion.HeardNumbers.{noted-kept, answer-kept, part-kept}
use Rattle.wl_world_model.proofs.exclusion.ActsWithinAGeneration.{each_tab}
use Rattle.wl_world_model.proofs.exclusion.SoundRuns.{empty-sound, happens-sound, run-sound}

-- The event makes tab `t` request the lock of this command.
abbrev Asks : Event → ℕ → Operation → Type 0
Asks e t (Request mode b name) = e ≡ asking t mode b name
Asks e t c = ⊥

-- The event requests the command, and `y` has issued it after the commands of `x`.
record Puts (e : Event) (t : ℕ) (x y : TabState) (k : ℕ) (c : Operation) : Type 0 where
  asks : Asks e t c
  number : length x.issued ≡ k
  put : y.issued ≡ x.issued ++ c ∷ []

-- Each command of `y` is one of `x`, or the event requested it.
abbrev Adds : Event → ℕ → TabState → TabState → Type 0
Adds e t x y = (k : ℕ) → k < length y.issued → ((k < length x.issued) × (operation_of y k ≡ operation_of x k)) ⊎ (is_lock (operation_of y k) ≡ true → Puts e t x y k (operation_of y k))

-- After a deed, `Adds` holds for each tab.
abbrev AddsBy : Event → WorldState → StepResult → Type 0
AddsBy e w d = (t : ℕ) → Adds e t (tab_of w t) (tab_of d.world t)

none-added : (e : Event) (w : WorldState) (d : StepResult) → d.world.tabs ≡ w.tabs → AddsBy e w d
none-added e w d same t k lt = inl (subst (λ z. k < length (tab_at z t).issued) same lt, ap (λ z. operation_of (tab_at z t) k) same)

allowed-adds : (e : Event) (w : WorldState) (b : Bool) (d : StepResult) → AddsBy e w d → AddsBy e w (if_allowed b w d)
allowed-adds e w b d a = either (AddsBy e w) b d (unchanged w) (λ _. a) (λ _. none-added e w (unchanged w) refl)

acts-adds : (e : Event) (w : WorldState) (t : ℕ) (y : TabState) (ms : List Message) → Adds e t (tab_of w t) y → AddsBy e w (acts w t y ms)
unfolding acts
acts-adds e w t y ms a = each_tab (λ u z. Adds e u (tab_of w u) z) t y w.tabs a (λ u n k lt. inl (lt, refl))

becomes-adds : (e : Event) (w : WorldState) (t : ℕ) (c : ChannelState) (ms : List Message) → AddsBy e w (becomes w t c ms)
unfolding becomes
becomes-adds e w t c ms u k lt = inl (lt, refl)

one-added : (e : Event) (t : ℕ) (x y : TabState) (c : Operation) → y.issued ≡ x.issued ++ c ∷ [] → (is_lock c ≡ true → Asks e t c) → Adds e t x y
one-added e t x y c is asked k lt =
    let lt' : k < length (x.issued ++ c ∷ []) = subst (λ z. k < length z) is lt in
    let long : length (x.issued ++ c ∷ []) ≡ length x.issued + 1 = length-append x.issued (c ∷ []) in
    ⊎_elim
    (λ l. inl (l, ap (λ z. get_or z k Query) is ∙ get_or_append_left x.issued (c ∷ []) Query k l))
    (λ g.
    let number : length x.issued ≡ k = omega arith in
    inr (subst (λ z. is_lock z ≡ true → Puts e t x y k z) (sym (ap (λ z. get_or z k Query) is ∙ get_or_push x.issued c Query k (omega arith))) (λ l. record { asks = asked l; number = number; put = is })))
    (cases_lt k (length x.issued))

same-added : (e : Event) (t : ℕ) (x y : TabState) → y.issued ≡ x.issued → Adds e t x y
same-added e t x y is k lt = inl (subst (λ z. k < length z) is lt, ap (λ z. get_or z k Query) is)

issues-adds : (e : Event) (w : WorldState) (t : ℕ) (y : TabState) (c : Operation) → y.issued ≡ (tab_of w t).issued ++ c ∷ [] → (is_lock c ≡ true → Asks e t c) → AddsBy e w (issues_command w t y)
issues-adds e w t y c is asked = acts-adds e w t y _ (one-added e t (tab_of w t) y c is asked)

asks-adds : (e : Event) (w : WorldState) (t : ℕ) (mode : Mode) (b : Bool) (name : List ℕ) → Asks e t (Request mode b name) → AddsBy e w (asks w t mode b name)
unfolding issue
asks-adds e w t mode b name was = allowed-adds e w _ (issues_command w t (asked mode b name (tab_of w t))) (issues-adds e w t (asked mode b name (tab_of w t)) (Request mode b name) refl (λ _. was))

queries-adds : (e : Event) (w : WorldState) (t : ℕ) → AddsBy e w (queries w t)
unfolding issue
queries-adds e w t = allowed-adds e w _ (issues_command w t (queried (tab_of w t))) (issues-adds e w t (queried (tab_of w t)) Query refl (λ l. apart l refl))

aborts-adds : (e : Event) (w : WorldState) (t k : ℕ) → AddsBy e w (aborts w t k)
unfolding finish
aborts-adds e w t k = allowed-adds e w _ (issues_command w t (aborted k (tab_of w t))) (issues-adds e w t (aborted k (tab_of w t)) (Abort k) refl (λ l. apart l refl))

releases-adds : (e : Event) (w : WorldState) (t k : ℕ) → AddsBy e w (releases w t k)
unfolding finish
releases-adds e w t k = allowed-adds e w _ (issues_command w t (released k (tab_of w t))) (issues-adds e w t (released k (tab_of w t)) (Release k) refl (λ l. apart l refl))

resends-adds : (e : Event) (w : WorldState) (t : ℕ) → AddsBy e w (resends w t)
resends-adds e w t = allowed-adds e w (lives w t) _ (λ u k lt. inl (lt, refl))

-- Arrivals at a tab add no command

enter-issued : (g : ℕ) (x : TabState) → (enter g x).issued ≡ x.issued
unfolding enter_first enter_later
enter-issued g x = either (λ z. z.issued ≡ x.issued) (x.entered == 0) (enter_first g x) (enter_later g x) (λ _. refl) (λ _. refl)

pub delivery-issued : (t : ℕ) (x : TabState) → SoundTab t x → (m : Downward) → (delivery (frame_of m) x).0.issued ≡ x.issued
unfolding delivery
delivery-issued t x s (down.Hello h) =
    either {A = TabState × Delivered} (λ o. o.0.issued ≡ x.issued) (nat_lt x.entered h.generation) _ _ (λ _. enter-issued h.generation x) (λ _. refl)
delivery-issued t x s (down.Answer m) =
    either {A = TabState × Delivered} (λ o. o.0.issued ≡ x.issued) (has_entered m.generation x) _ _ (λ _. (noted-kept m.upto x _ _ (answer-kept m x s.rises)).issued) (λ _. refl)
delivery-issued t x s (down.Snapshot m) =
    either {A = TabState × Delivered} (λ o. o.0.issued ≡ x.issued) (has_entered m.generation x) _ _ (λ _. (noted-kept (m.number + 1) x _ _ (part-kept m x (λ k. ⊥) s.rises)).issued) (λ _. refl)

pub told-issued : (x : TabState) → (told x).issued ≡ x.issued
unfolding told
told-issued x = refl

hears-adds : (e : Event) (w : WorldState) → Sound w → (t : ℕ) (m : Downward) → AddsBy e w (takes_frame w t (frame_of m))
hears-adds e w s t m =
    let a = delivery (frame_of m) (tab_of w t) in
    acts-adds e w t (told a.0) (report_if_entered w.kernel t a.0 a.1) (same-added e t (tab_of w t) (told a.0) (told-issued a.0 ∙ delivery-issued t (tab_of w t) (s.tabs t).state m))

follows-adds : (e : Event) (w : WorldState) (o : Taking) → AddsBy e w (follows w o)
follows-adds e w (Drops reason) = none-added e w (unchanged w) refl
follows-adds e w (Does b outs) = none-added e w (follows w (Does b outs)) refl

up-adds : (e : Event) (w : WorldState) (x : Stamped) (v : Option BrokerState) → AddsBy e w (arrives_at_broker w x v)
up-adds e w x None = none-added e w (unchanged w) refl
up-adds e w x (Some b) = follows-adds e w (taking b x)

comes-adds : (e : Event) (w : WorldState) → Sound w → (m : Message) → AddsBy e w (arrives w m)
comes-adds e w s (Up x) = up-adds e w x w.broker
comes-adds e w s (Down v x) = allowed-adds e w (lives w x.tab) (takes_frame w x.tab (frame_of x.inner)) (hears-adds e w s x.tab x.inner)
comes-adds e w s (Across t x) = allowed-adds e w (lives w t) _ (becomes-adds e w t _ [])

tells-adds : (e : Event) (w : WorldState) (t : ℕ) (v : Option BrokerState) → AddsBy e w (tells w t v)
tells-adds e w t None = none-added e w (unchanged w) refl
tells-adds e w t (Some b) = allowed-adds e w _ _ (λ u k lt. inl (lt, refl))

stops-adds : (e : Event) (w : WorldState) (v : Option BrokerState) → AddsBy e w (stops w v)
stops-adds e w None = none-added e w (unchanged w) refl
stops-adds e w (Some b) = allowed-adds e w _ _ (λ u k lt. inl (lt, refl))

starts-adds : (e : Event) (w : WorldState) (ts : List ℕ) (v : Option BrokerState) → AddsBy e w (starts w ts v)
starts-adds e w ts (Some b) = none-added e w (unchanged w) refl
starts-adds e w ts None = allowed-adds e w _ _ (λ u k lt. inl (lt, refl))

greets-adds : (e : Event) (w : WorldState) (t : ℕ) (v : Option BrokerState) → AddsBy e w (greets w t v)
greets-adds e w t None = none-added e w (unchanged w) refl
greets-adds e w t (Some b) = allowed-adds e w _ _ (λ u k lt. inl (lt, refl))

rows-adds : (i : Bool) (e : Event) (w : WorldState) (t : ℕ) → (u : ℕ) → Adds e u (tab_of w u) (tab_of (with_rows i t w) u)
rows-adds i e w t = each_tab (λ u z. Adds e u (tab_of w u) z) t (born i t COMMAND_LIMIT) w.tabs (λ k lt. absurd (omega arith)) (λ u n k lt. inl (lt, refl))

deed-adds : (e : Event) (w : WorldState) → Sound w → AddsBy e w (step_result w e)
unfolding step_result
deed-adds (event.Open t p) w s = allowed-adds (event.Open t p) w _ _ (rows-adds false (event.Open t p) w t)
deed-adds (event.OpenTwo t p) w s = allowed-adds (event.OpenTwo t p) w _ _ (rows-adds true (event.OpenTwo t p) w t)
deed-adds (event.Ask t mode name) w s = asks-adds (event.Ask t mode name) w t mode false name refl
deed-adds (event.Probe t mode name) w s = asks-adds (event.Probe t mode name) w t mode true name refl
deed-adds (event.Query t) w s = queries-adds (event.Query t) w t
deed-adds (event.Abort t k) w s = aborts-adds (event.Abort t k) w t k
deed-adds (event.Release t k) w s = releases-adds (event.Release t k) w t k
deed-adds (event.Resend t) w s = resends-adds (event.Resend t) w t
deed-adds (event.Channel t name) w s = allowed-adds (event.Channel t name) w _ _ (becomes-adds (event.Channel t name) w t _ [])
deed-adds (event.Post t k bytes) w s = allowed-adds (event.Post t k bytes) w _ _ (becomes-adds (event.Post t k bytes) w t _ _)
deed-adds (event.Read t k) w s = allowed-adds (event.Read t k) w _ _ (becomes-adds (event.Read t k) w t _ [])
deed-adds (event.Close t k) w s = allowed-adds (event.Close t k) w _ _ (becomes-adds (event.Close t k) w t _ [])
deed-adds (event.Deliver m) w s = allowed-adds (event.Deliver m) w (is_sent m w.bag) (arrives w m) (comes-adds (event.Deliver m) w s m)
deed-adds (event.Kill t) w s = allowed-adds (event.Kill t) w _ _ (λ u k lt. inl (lt, refl))
deed-adds (event.Tell t) w s = tells-adds (event.Tell t) w t w.broker
deed-adds event.Stop w s = stops-adds event.Stop w w.broker
deed-adds (event.Start ts) w s = starts-adds (event.Start ts) w ts w.broker
deed-adds (event.Hello t) w s = greets-adds (event.Hello t) w t w.broker
deed-adds (event.Corrupt t) w s = allowed-adds (event.Corrupt t) w _ _ (λ u k lt. inl (lt, refl))
deed-adds (event.Forge t x) w s = allowed-adds (event.Forge t x) w _ _ (λ u k lt. inl (lt, refl))

happens-adds : (e : Event) (w : WorldState) → Sound w → (t : ℕ) → Adds e t (tab_of w t) (tab_of (after_event w e) t)
unfolding after_event
happens-adds e w s = deed-adds e w s

-- A run

abbrev Sourced : List Event → WorldState → Type 0
Sourced past w = (t k : ℕ) → k < length (tab_of w t).issued → is_lock (operation_of (tab_of w t) k) ≡ true → WasAsked past t k (operation_of (tab_of w t) k)

asked-before : (past later : List Event) (t k : ℕ) (c : Operation) → WasAsked past t k c → WasAsked (past ++ later) t k c
asked-before past later t k c a =
    record {
      before = a.before;
      later = a.later ++ later;
      mode = a.mode;
      if_available = a.if_available;
      name = a.name;
      split = ap (λ z. z ++ later) a.split ∙ append_assoc a.before (asking t a.mode a.if_available a.name ∷ a.later) later;
      asked = a.asked;
      numbered = a.numbered;
      issued = a.issued;
    }

asked-now : (past : List Event) (e : Event) (w : WorldState) → w ≡ run past empty_world → (t k : ℕ) (c : Operation) → Puts e t (tab_of w t) (tab_of (after_event w e) t) k c → WasAsked (past ++ e ∷ []) t k c
asked-now past e w ran t k (Request mode b name) p =
    record {
      before = past;
      later = [];
      mode = mode;
      if_available = b;
      name = name;
      split = ap (λ x. past ++ x ∷ []) p.asks;
      asked = refl;
      numbered = subst (λ v. length (tab_of v t).issued ≡ k) ran p.number;
      issued =
          subst (λ v. (tab_of (after_event v (asking t mode b name)) t).issued ≡ (tab_of v t).issued ++ Request mode b name ∷ []) ran
          (subst (λ x. (tab_of (after_event w x) t).issued ≡ (tab_of w t).issued ++ Request mode b name ∷ []) p.asks p.put);
    }
asked-now past e w ran t k (Release n) p = absurd p.asks
asked-now past e w ran t k (Abort n) p = absurd p.asks
asked-now past e w ran t k Query p = absurd p.asks

step-sourced : (past : List Event) (e : Event) (w : WorldState) → Sound w → w ≡ run past empty_world → Sourced past w → Sourced (past ++ e ∷ []) (after_event w e)
step-sourced past e w sw ran s t k lt l = ⊎_elim
    (λ o. subst (λ c. WasAsked (past ++ e ∷ []) t k c) (sym o.1) (asked-before past (e ∷ []) t k _ (s t k o.0 (sym (ap is_lock o.1) ∙ l))))
    (λ o. asked-now past e w ran t k _ (o l))
    (happens-adds e w sw t k lt)

run-sourced : (past events : List Event) (w : WorldState) → Sound w → w ≡ run past empty_world → Sourced past w → Sourced (past ++ events) (run events w)
run-sourced past [] w sw ran s = subst (λ z. Sourced z w) (sym (append-nil past)) s
run-sourced past (e ∷ es) w sw ran s =
    subst (λ z. Sourced z (run es (after_event w e))) (append_assoc past (e ∷ []) es)
    (run-sourced (past ++ e ∷ []) es (after_event w e) (happens-sound w e sw) (ap (λ v. after_event v e) ran ∙ sym (run-push past e empty_world)) (step-sourced past e w sw ran s))

empty-sourced : Sourced [] empty_world
empty-sourced t k lt l = absurd (omega arith)

pub run-own : (events : List Event) → Own events (run events empty_world)
run-own events t k h =
    let w = run events empty_world in
    let s = ((run-sound events).tabs t).state in
    let a = held_alive _ (ap is_held h.1) in
    (s.issued k a, run-sourced [] events empty_world empty-sound refl empty-sourced t k (s.issued k a) (s.lock k a), s.unended k a)
