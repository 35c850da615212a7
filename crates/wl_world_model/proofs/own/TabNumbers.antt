-- Numbers in tab states: each tab's state carries its own number, after every list of events.
use Rattle.std.proofs.Common.{◌≡◌, ℕ, ◌+◌, Bool, true, false, List, [], ◌∷◌, Option, Some, None, is_some, refl, sym, ap, ◌∙◌}
use Rattle.std.specs.Prelude.{◌==◌, nat_lt}
use Rattle.wl_draft.specs.declared.mode.Mode.{Mode}
use Rattle.wl_grammar.specs.declared.frame.Frame.{Frame}
use Rattle.wl_grammar.specs.declared.frame.Frame.TheVariants as frame
use Rattle.wl_grammar.specs.declared.frame.Snapshot.{Snapshot}
use Rattle.wl_grammar.specs.declared.frame.Stamped.{Stamped}
use Rattle.wl_broker.specs.Broker.{BrokerState, Taking, Drops, Does, taking}
use Rattle.wl_broadcast.specs.Channels.{ChannelState}
use Rattle.wl_agent.specs.declared.delivered.Delivered.{Delivered}
use Rattle.wl_agent.specs.declared.delivered.Delivered.TheVariants as heard
use Rattle.wl_agent.specs.Tab.{TabState, born, status_of, issue, finish, ended, asked, queried, aborted, released, enter_first, enter_later, enter}
use Rattle.wl_agent.specs.Delivery.{noted, becomes as becomes_status, after_answer, after_part, told_by_answer, part_refusal, parts_of, with_part_come, has_entered, delivery}
use Rattle.wl_kernel.specs.Routes.{frame_of}
use Rattle.wl_world_messages.specs.declared.message.Message.{Message}
use Rattle.wl_world_messages.specs.declared.message.Message.TheVariants.{Up, Down, Across}
use Rattle.wl_world_messages.specs.Messages.{is_sent}
use Rattle.wl_draft.proofs.Membership.{either}
use Rattle.wl_limits.specs.declared.tabs.TheConstants.{COMMAND_LIMIT}
use Rattle.wl_tab.specs.Tabs.{told}
use Rattle.wl_world_model.specs.declared.event.Event.{Event}
use Rattle.wl_world_model.specs.declared.event.Event.TheVariants as event
use Rattle.wl_world_model.specs.World.{WorldState, empty_world, with_rows, tab_of, lives, StepResult, unchanged, if_allowed, acts, asks, queries, aborts, releases, resends, becomes, takes_frame, arrives_at_broker, arrives, tells, stops, starts, greets, step_result, after_event, run}
use Rattle.wl_world_model.proofs.AtBroker.{follows}
use Rattle.wl_world_model.specs.Sends.{report_if_entered}
use Rattle.wl_world_model.proofs.exclusion.GrownTabs.{tab_at}
use Rattle.wl_world_model.proofs.exclusion.ActsWithinAGeneration.{each_tab}

-- Arrivals at a tab

enter-tab : (g : ℕ) (a : TabState) → (enter g a).tab ≡ a.tab
unfolding enter_first enter_later
enter-tab g a = either (λ z. z.tab ≡ a.tab) (a.entered == 0) (enter_first g a) (enter_later g a) (λ _. refl) (λ _. refl)

after_answer-tab : (d : Delivered) (a : TabState) → (after_answer d a).tab ≡ a.tab
unfolding becomes_status ended
after_answer-tab (heard.Granted k) a = refl
after_answer-tab (heard.Null k) a = refl
after_answer-tab (heard.Lost k) a = refl
after_answer-tab d a = refl

after_part-tab : (x : Snapshot) (a : TabState) → (after_part x a).tab ≡ a.tab
unfolding becomes_status
after_part-tab x a =
    either (λ z. z.tab ≡ a.tab) (is_some (part_refusal x a)) a (becomes_status x.number (with_part_come x (parts_of (status_of a x.number))) a) (λ _. refl) (λ _. refl)

noted-tab : (upto : ℕ) (a : TabState) → (noted upto a).tab ≡ a.tab
unfolding noted
noted-tab upto a = refl

delivery-tab : (f : Frame) (a : TabState) → (delivery f a).0.tab ≡ a.tab
unfolding delivery
delivery-tab (frame.Hello x) a =
    either {A = TabState × Delivered} (λ o. o.0.tab ≡ a.tab) (nat_lt a.entered x.generation) _ _ (λ _. enter-tab x.generation a) (λ _. refl)
delivery-tab (frame.Answer x) a =
    either {A = TabState × Delivered} (λ o. o.0.tab ≡ a.tab) (has_entered x.generation a) _ _
    (λ _. noted-tab x.upto (after_answer (told_by_answer x a) a) ∙ after_answer-tab (told_by_answer x a) a) (λ _. refl)
delivery-tab (frame.Snapshot x) a =
    either {A = TabState × Delivered} (λ o. o.0.tab ≡ a.tab) (has_entered x.generation a) _ _
    (λ _. noted-tab (x.number + 1) (after_part x a) ∙ after_part-tab x a) (λ _. refl)
delivery-tab f a = refl

told-tab : (a : TabState) → (told a).tab ≡ a.tab
unfolding told
told-tab a = refl

-- Events

-- Each tab's state carries the tab's number.
abbrev IsNumbered : WorldState → Type 0
IsNumbered w = (t : ℕ) → (tab_of w t).tab ≡ t

abbrev Keeps : WorldState → StepResult → Type 0
Keeps w d = (t : ℕ) → (tab_of d.world t).tab ≡ (tab_of w t).tab

same-keeps : (w : WorldState) (d : StepResult) → d.world.tabs ≡ w.tabs → Keeps w d
same-keeps w d same t = ap (λ z. (tab_at z t).tab) same

allowed-keeps : (w : WorldState) (b : Bool) (d : StepResult) → Keeps w d → Keeps w (if_allowed b w d)
allowed-keeps w b d k = either (Keeps w) b d (unchanged w) (λ _. k) (λ _ t. refl)

acts-keeps : (w : WorldState) (t : ℕ) (a : TabState) (ms : List Message) → a.tab ≡ (tab_of w t).tab → Keeps w (acts w t a ms)
unfolding acts
acts-keeps w t a ms e = each_tab (λ u z. z.tab ≡ (tab_of w u).tab) t a w.tabs e (λ u n. refl)

becomes-keeps : (w : WorldState) (t : ℕ) (c : ChannelState) (ms : List Message) → Keeps w (becomes w t c ms)
unfolding becomes
becomes-keeps w t c ms u = refl

asks-keeps : (w : WorldState) (t : ℕ) (mode : Mode) (if_available : Bool) (name : List ℕ) → Keeps w (asks w t mode if_available name)
unfolding issue
asks-keeps w t mode if_available name = allowed-keeps w _ _ (acts-keeps w t (asked mode if_available name (tab_of w t)) _ refl)

queries-keeps : (w : WorldState) (t : ℕ) → Keeps w (queries w t)
unfolding issue
queries-keeps w t = allowed-keeps w _ _ (acts-keeps w t (queried (tab_of w t)) _ refl)

aborts-keeps : (w : WorldState) (t k : ℕ) → Keeps w (aborts w t k)
unfolding finish
aborts-keeps w t k = allowed-keeps w _ _ (acts-keeps w t (aborted k (tab_of w t)) _ refl)

releases-keeps : (w : WorldState) (t k : ℕ) → Keeps w (releases w t k)
unfolding finish
releases-keeps w t k = allowed-keeps w _ _ (acts-keeps w t (released k (tab_of w t)) _ refl)

resends-keeps : (w : WorldState) (t : ℕ) → Keeps w (resends w t)
resends-keeps w t = allowed-keeps w _ _ (λ u. refl)

hears-keeps : (w : WorldState) (t : ℕ) (f : Frame) → Keeps w (takes_frame w t f)
hears-keeps w t f =
    let a = delivery f (tab_of w t) in
    acts-keeps w t (told a.0) (report_if_entered w.kernel t a.0 a.1) (told-tab a.0 ∙ delivery-tab f (tab_of w t))

follows-keeps : (w : WorldState) (o : Taking) → Keeps w (follows w o)
follows-keeps w (Drops reason) t = refl
follows-keeps w (Does b outs) t = refl

comes_up-keeps : (w : WorldState) (x : Stamped) (v : Option BrokerState) → Keeps w (arrives_at_broker w x v)
comes_up-keeps w x None t = refl
comes_up-keeps w x (Some b) t = follows-keeps w (taking b x) t

comes-keeps : (w : WorldState) (m : Message) → Keeps w (arrives w m)
comes-keeps w (Up x) = comes_up-keeps w x w.broker
comes-keeps w (Down v x) = allowed-keeps w (lives w x.tab) _ (hears-keeps w x.tab (frame_of x.inner))
comes-keeps w (Across t x) = allowed-keeps w (lives w t) _ (becomes-keeps w t _ [])

tells-keeps : (w : WorldState) (t : ℕ) (v : Option BrokerState) → Keeps w (tells w t v)
tells-keeps w t None = same-keeps w (unchanged w) refl
tells-keeps w t (Some b) = allowed-keeps w _ _ (λ u. refl)

stops-keeps : (w : WorldState) (v : Option BrokerState) → Keeps w (stops w v)
stops-keeps w None = same-keeps w (unchanged w) refl
stops-keeps w (Some b) = allowed-keeps w _ _ (λ u. refl)

starts-keeps : (w : WorldState) (ts : List ℕ) (v : Option BrokerState) → Keeps w (starts w ts v)
starts-keeps w ts (Some b) = same-keeps w (unchanged w) refl
starts-keeps w ts None = allowed-keeps w _ _ (λ u. refl)

greets-keeps : (w : WorldState) (t : ℕ) (v : Option BrokerState) → Keeps w (greets w t v)
greets-keeps w t None = same-keeps w (unchanged w) refl
greets-keeps w t (Some b) = allowed-keeps w _ _ (λ u. refl)

-- The state of an opened tab carries its number.
rows-keeps : (i : Bool) (w : WorldState) (t : ℕ) → IsNumbered w → (u : ℕ) → (tab_of (with_rows i t w) u).tab ≡ (tab_of w u).tab
rows-keeps i w t own = each_tab (λ u z. z.tab ≡ (tab_of w u).tab) t (born i t COMMAND_LIMIT) w.tabs (sym (own t)) (λ u n. refl)

deed-keeps : (w : WorldState) → IsNumbered w → (e : Event) → Keeps w (step_result w e)
unfolding step_result
deed-keeps w own (event.Open t p) = allowed-keeps w _ _ (rows-keeps false w t own)
deed-keeps w own (event.OpenTwo t p) = allowed-keeps w _ _ (rows-keeps true w t own)
deed-keeps w own (event.Ask t mode name) = asks-keeps w t mode false name
deed-keeps w own (event.Probe t mode name) = asks-keeps w t mode true name
deed-keeps w own (event.Query t) = queries-keeps w t
deed-keeps w own (event.Abort t k) = aborts-keeps w t k
deed-keeps w own (event.Release t k) = releases-keeps w t k
deed-keeps w own (event.Resend t) = resends-keeps w t
deed-keeps w own (event.Channel t name) = allowed-keeps w _ _ (becomes-keeps w t _ [])
deed-keeps w own (event.Post t k bytes) = allowed-keeps w _ _ (becomes-keeps w t _ _)
deed-keeps w own (event.Read t k) = allowed-keeps w _ _ (becomes-keeps w t _ [])
deed-keeps w own (event.Close t k) = allowed-keeps w _ _ (becomes-keeps w t _ [])
deed-keeps w own (event.Deliver m) = allowed-keeps w (is_sent m w.bag) _ (comes-keeps w m)
deed-keeps w own (event.Kill t) = allowed-keeps w _ _ (λ u. refl)
deed-keeps w own (event.Tell t) = tells-keeps w t w.broker
deed-keeps w own event.Stop = stops-keeps w w.broker
deed-keeps w own (event.Start ts) = starts-keeps w ts w.broker
deed-keeps w own (event.Hello t) = greets-keeps w t w.broker
deed-keeps w own (event.Corrupt t) = allowed-keeps w _ _ (λ u. refl)
deed-keeps w own (event.Forge t x) = allowed-keeps w _ _ (λ u. refl)

-- Runs

happens-numbered : (w : WorldState) (e : Event) → IsNumbered w → IsNumbered (after_event w e)
unfolding after_event
happens-numbered w e own t = deed-keeps w own e t ∙ own t

run-numbered : (events : List Event) (w : WorldState) → IsNumbered w → IsNumbered (run events w)
run-numbered [] w own = own
run-numbered (e ∷ es) w own = run-numbered es (after_event w e) (happens-numbered w e own)

pub run-number : (events : List Event) (t : ℕ) → (tab_of (run events empty_world) t).tab ≡ t
run-number events t = run-numbered events empty_world (λ u. refl) t
