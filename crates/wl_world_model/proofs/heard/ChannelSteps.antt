-- Effect of an event on a tab's channels: at most one call on them. Also the sources of posts.
use Rattle.std.proofs.Common.{◌≡◌, ◌≢◌, ⊎_elim, ℕ, Bool, true, false, cond, not, ◌&&◌, List, [], ◌∷◌, length, map, Option, Some, None, is_some, refl, sym, ap, ◌∙◌, subst}
use Rattle.std.specs.Prelude.{◌==◌}
use Rattle.std.proofs.lemmas.Bool.{and_parts, cases_Bool, cond-true, cond-false, cases_eq, not-true}
use Rattle.wl_draft.specs.Tables.{find, put}
use Rattle.wl_draft.proofs.TableLemmas.{find-put_same, find-put_other}
use Rattle.wl_origin.specs.Order.{Pair}
use Rattle.wl_grammar.specs.declared.frame.Frame.TheVariants as frame
use Rattle.wl_grammar.specs.declared.frame.Addressed.{Addressed}
use Rattle.wl_grammar.specs.declared.frame.Stamped.{Stamped}
use Rattle.wl_broker.specs.Broker.{BrokerState, Taking, Drops, Does, hello_to, hellos, taking, death_step}
use Rattle.wl_broadcast.specs.Channels.{ChannelState, open_refusal as channel_refusal, opened as channel_opened, post_refusal, posted, heard, is_old, is_own as is_own_channel, read_at, closed_at, after_hearing, no_channels}
use Rattle.wl_broadcast.specs.Heard.{Call, Opens, Posts, Hears, Reads, Closes, step}
use Rattle.wl_agent.specs.declared.delivered.Delivered.{Delivered}
use Rattle.wl_agent.specs.declared.delivered.Delivered.TheVariants.{Entered}
use Rattle.wl_agent.specs.Tokens.{is_pending, is_holding}
use Rattle.wl_agent.specs.Tab.{TabState, report_bodies, status_of, is_asked, ask_refusal, query_refusal, asked, queried, aborted, released, due, is_report_due}
use Rattle.wl_agent.specs.Delivery.{delivery}
use Rattle.wl_kernel.specs.Kernel.{is_opened, open_refusal, opened, killed, may_stop, stopped, start_refusal, placed}
use Rattle.wl_kernel.specs.Routes.{hearers, frame_of}
use Rattle.wl_world_messages.specs.declared.message.Sender.TheVariants.{Kernel}
use Rattle.wl_world_messages.specs.declared.message.Message.{Message}
use Rattle.wl_world_messages.specs.declared.message.Message.TheVariants.{Up, Down, Across}
use Rattle.wl_world_messages.specs.Messages.{is_sent}
use Rattle.wl_draft.specs.Membership.{In}
use Rattle.wl_draft.proofs.Membership.{apart, either, In-nil, In-one, In-append_cases, In-map_cases}
use Rattle.wl_world_messages.proofs.Same.{is_sent-In}
use Rattle.wl_tab.specs.Tabs.{channels_in, told}
use Rattle.wl_world_model.specs.declared.event.Event.{Event}
use Rattle.wl_world_model.specs.declared.event.Event.TheVariants as event
use Rattle.wl_world_model.specs.declared.event.Forged.{Forged}
use Rattle.wl_world_model.specs.declared.event.Forged.TheVariants as forged
use Rattle.wl_world_model.specs.World.{WorldState, tab_of, channels_of, lives, StepResult, unchanged, if_allowed, acts, issues_command, becomes, takes_frame, from_broker, arrives_at_broker, arrives, with_kernel, with_rows, opens_as, tells, stops, starts, greets, is_corrupt, taken_over, step_result, after_event, post_of}
use Rattle.wl_world_model.proofs.AtBroker.{follows, buries, begins}
use Rattle.wl_world_model.specs.Sends.{across, command_message, forgery, report_if_entered, report_messages, resent, stamped}
use Rattle.wl_world_model.specs.Heard.{may_post}
use Rattle.wl_world_model.proofs.Tables.{each_found}
use Rattle.wl_world_model.proofs.exclusion.CoverExcludes.{living_opened}
use Rattle.wl_world_model.proofs.exclusion.OpenedTabs.{each_opened, ended-opened}
use Rattle.wl_world_model.proofs.exclusion.OpeningAndKilling.{not_opened}
use Rattle.wl_world_model.proofs.apart.CutKernel.{hearers-others}

-- Outcomes of an event

-- The message is no post, or a post forged by a tab other than its recipient.
abbrev pub IsNoPost : WorldState → Message → Type 0
IsNoPost w (Up s) = Unit {0}
IsNoPost w (Down v x) = Unit {0}
IsNoPost w (Across t x) = (is_corrupt w x.source ≡ true) × (x.source ≢ t)

-- A post or a read comes from its event and is allowed. An arriving post was sent to this tab.
abbrev pub Caused : WorldState → ℕ → Event → Call → Type 0
Caused w u e (Opens name) = Unit {0}
Caused w u e (Posts j bytes) = (e ≡ event.Post u j bytes) × (may_post w u j bytes ≡ true)
Caused w u e (Hears x) = In (Across u x) w.bag
Caused w u e (Reads k) = e ≡ event.Read u k
Caused w u e (Closes k) = Unit {0}

-- The messages that a call sends.
abbrev pub IsSentBy : WorldState → ℕ → Call → Message → Type 0
IsSentBy w u (Posts j bytes) m = (n : ℕ) × In n (hearers u w.kernel) × (m ≡ across u (post_of j bytes (channels_of w u)) n)
IsSentBy w u call m = ⊥

pub data Kind (w : WorldState) (e : Event) (d : StepResult) : Type 0 where
  quiet : ((u : ℕ) → channels_of d.world u ≡ channels_of w u) → ((m : Message) → In m d.sends → IsNoPost w m) → Kind w e d
  calls : (u : ℕ) (call : Call) → lives w u ≡ true → d.world.channels ≡ put u (step call (channels_of w u)) w.channels → Caused w u e call → ((m : Message) → In m d.sends → IsSentBy w u call m) → Kind w e d

allowed-kind : (w : WorldState) (e : Event) (b : Bool) (d : StepResult) → (b ≡ true → Kind w e d) → Kind w e (if_allowed b w d)
allowed-kind w e b d f = either (Kind w e) b d (unchanged w) f (λ _. quiet (λ _. refl) (λ m i. absurd (In-nil i)))

-- Events that call no channel

acts-kind : (w : WorldState) (e : Event) (t : ℕ) (a : TabState) (ms : List Message) → ((m : Message) → In m ms → IsNoPost w m) → Kind w e (acts w t a ms)
unfolding acts
acts-kind w e t a ms h = quiet (λ _. refl) h

issues-kind : (w : WorldState) (e : Event) (t : ℕ) (a : TabState) → Kind w e (issues_command w t a)
issues-kind w e t a =
    acts-kind w e t a (cond (a.entered == 0) [] (command_message w.kernel t a (length (tab_of w t).issued) ∷ [])) (λ m. either (λ zs. In m zs → IsNoPost w m) (a.entered == 0) [] (command_message w.kernel t a (length (tab_of w t).issued) ∷ [])
    (λ _ i. absurd (In-nil i)) (λ _ i. subst (IsNoPost w) (sym (In-one i)) tt))

reports-kind : (w : WorldState) (t : ℕ) (a : TabState) (m : Message) → In m (report_messages w.kernel t a) → IsNoPost w m
reports-kind w t a m i = subst (IsNoPost w) (sym (In-map_cases (stamped w.kernel t) (report_bodies a.in_parts a.report) i).2) tt

resent-kind : (w : WorldState) (t : ℕ) (a : TabState) (m : Message) → In m (resent w.kernel t a) → IsNoPost w m
resent-kind w t a m i = ⊎_elim
    (either (λ zs. In m zs → IsNoPost w m) (is_report_due a) (report_messages w.kernel t a) [] (λ _ j. reports-kind w t a m j) (λ _ j. absurd (In-nil j)))
    (λ j. subst (IsNoPost w) (sym (In-map_cases (command_message w.kernel t a) (due a) j).2) tt)
    (In-append_cases (cond (is_report_due a) (report_messages w.kernel t a) []) (map (command_message w.kernel t a) (due a)) i)

report-kind : (w : WorldState) (t : ℕ) (a : TabState) (d : Delivered) (m : Message) → In m (report_if_entered w.kernel t a d) → IsNoPost w m
report-kind w t a (Entered reports) m i = reports-kind w t a m i
report-kind w t a _ m i = absurd (In-nil i)

forgery-kind : (w : WorldState) (t : ℕ) (x : Forged) → is_corrupt w t ≡ true → (m : Message) → In m (forgery w.kernel t x) → IsNoPost w m
forgery-kind w t (forged.Upward x) c m i = subst (IsNoPost w) (sym (In-one i)) tt
forgery-kind w t (forged.Post p) c m i =
    let o = In-map_cases (across t p) (hearers t w.kernel) i in
    subst (IsNoPost w) (sym o.2) (c, λ e. hearers-others w.kernel t o.0 o.1 (sym e))

outs-kind : (w : WorldState) (outs : List Addressed) (m : Message) → In m (map from_broker outs) → IsNoPost w m
outs-kind w outs m i = subst (IsNoPost w) (sym (In-map_cases from_broker outs i).2) tt

follows-kind : (w : WorldState) (e : Event) (x : Taking) → Kind w e (follows w x)
follows-kind w e (Drops r) = quiet (λ _. refl) (λ m i. absurd (In-nil i))
follows-kind w e (Does b outs) = quiet (λ _. refl) (outs-kind w outs)

up-kind : (w : WorldState) (e : Event) (x : Stamped) (v : Option BrokerState) → Kind w e (arrives_at_broker w x v)
up-kind w e x None = quiet (λ _. refl) (λ m i. absurd (In-nil i))
up-kind w e x (Some b) = follows-kind w e (taking b x)

tells-kind : (w : WorldState) (e : Event) (t : ℕ) (v : Option BrokerState) → Kind w e (tells w t v)
tells-kind w e t None = quiet (λ _. refl) (λ m i. absurd (In-nil i))
tells-kind w e t (Some b) = allowed-kind w e (is_opened w.kernel t && not (lives w t)) (buries w t b) (λ _. quiet (λ _. refl) (outs-kind w (death_step b t).1))

stops-kind : (w : WorldState) (e : Event) (v : Option BrokerState) → Kind w e (stops w v)
stops-kind w e None = quiet (λ _. refl) (λ m i. absurd (In-nil i))
stops-kind w e (Some b) = allowed-kind w e (may_stop w.kernel) (unchanged (record w { kernel = stopped w.kernel; broker = None })) (λ _. quiet (λ _. refl) (λ m i. absurd (In-nil i)))

starts-kind : (w : WorldState) (e : Event) (ts : List ℕ) (v : Option BrokerState) → Kind w e (starts w ts v)
starts-kind w e ts (Some b) = quiet (λ _. refl) (λ m i. absurd (In-nil i))
starts-kind w e ts None = allowed-kind w e (not (is_some (start_refusal ts w.kernel))) (begins w ts) (λ _. quiet (λ _. refl) (outs-kind w (hellos w.kernel.generation (placed ts w.kernel))))

greets-kind : (w : WorldState) (e : Event) (t : ℕ) (v : Option BrokerState) → Kind w e (greets w t v)
greets-kind w e t None = quiet (λ _. refl) (λ m i. absurd (In-nil i))
greets-kind w e t (Some b) = allowed-kind w e (lives w t) (record { world = w; sends = Down Kernel (hello_to w.kernel.generation t) ∷ [] }) (λ _. quiet (λ _. refl) (λ m i. subst (IsNoPost w) (sym (In-one i)) tt))

-- Calls on channels

-- Each tab's channels carry its number, and a tab that was never opened has none.
pub record Owned (w : WorldState) : Type 0 where
  pub own : (t : ℕ) → (channels_of w t).tab ≡ t
  pub unopened : (t : ℕ) → is_opened w.kernel t ≡ false → channels_of w t ≡ no_channels t

becomes-kind : (w : WorldState) (e : Event) (u : ℕ) (call : Call) (c : ChannelState) (ms : List Message) → lives w u ≡ true → c ≡ step call (channels_of w u) → Caused w u e call → ((m : Message) → In m ms → IsSentBy w u call m)
    → Kind w e (becomes w u c ms)
unfolding becomes
becomes-kind w e u call c ms live s cause h = calls u call live (ap (λ z. put u z w.channels) s) cause h

-- Opening a tab leaves it without channels.
opens-kind : (w : WorldState) (e : Event) (i : Bool) (t : ℕ) (p : Pair) → Owned w → Kind w e (opens_as i w t p)
opens-kind w e i t p own =
    allowed-kind w e (not (is_some (open_refusal t p w.kernel))) (with_kernel (opened t p w.kernel) (with_rows i t w))
    (λ n. quiet
    (each_found (λ u o. channels_in u o ≡ channels_of w u) t (no_channels t) w.channels (sym (own.unopened t (not_opened w.kernel t p (not-true _ n)))) (λ u d. refl))
    (λ m i. absurd (In-nil i)))

second : (a b : Bool) → (a && not b) ≡ true → b ≡ false
second a b e = not-true b (and_parts a (not b) e).1

across-kind : (w : WorldState) (e : Event) (m : Message) → In m w.bag → Kind w e (arrives w m)
across-kind w e (Up x) i = up-kind w e x w.broker
across-kind w e (Down v x) i =
    allowed-kind w e (lives w x.tab) (takes_frame w x.tab (frame_of x.inner)) (λ _. let a = delivery (frame_of x.inner) (tab_of w x.tab) in acts-kind w e x.tab (told a.0) (report_if_entered w.kernel x.tab a.0 a.1) (report-kind w x.tab a.0 a.1))
across-kind w e (Across t x) i = allowed-kind w e (lives w t) (becomes w t (after_hearing (frame.Heard x) (channels_of w t)) []) (λ l. becomes-kind w e t (Hears x) (after_hearing (frame.Heard x) (channels_of w t)) [] l refl i (λ m j. absurd (In-nil j)))

pub kind : (w : WorldState) (e : Event) → Owned w → Kind w e (step_result w e)
unfolding step_result
kind w (event.Open t p) own = opens-kind w (event.Open t p) false t p own
kind w (event.OpenTwo t p) own = opens-kind w (event.OpenTwo t p) true t p own
kind w (event.Ask t mode name) own = allowed-kind w (event.Ask t mode name) (lives w t && not (is_some (ask_refusal (tab_of w t) name))) (issues_command w t (asked mode false name (tab_of w t))) (λ _. issues-kind w (event.Ask t mode name) t (asked mode false name (tab_of w t)))
kind w (event.Probe t mode name) own = allowed-kind w (event.Probe t mode name) (lives w t && not (is_some (ask_refusal (tab_of w t) name))) (issues_command w t (asked mode true name (tab_of w t))) (λ _. issues-kind w (event.Probe t mode name) t (asked mode true name (tab_of w t)))
kind w (event.Query t) own = allowed-kind w (event.Query t) (lives w t && not (is_some (query_refusal (tab_of w t)))) (issues_command w t (queried (tab_of w t))) (λ _. issues-kind w (event.Query t) t (queried (tab_of w t)))
kind w (event.Abort t k) own = allowed-kind w (event.Abort t k) (lives w t && is_pending (tab_of w t) k && is_asked (status_of (tab_of w t) k)) (issues_command w t (aborted k (tab_of w t))) (λ _. issues-kind w (event.Abort t k) t (aborted k (tab_of w t)))
kind w (event.Release t k) own = allowed-kind w (event.Release t k) (lives w t && is_holding (tab_of w t) k) (issues_command w t (released k (tab_of w t))) (λ _. issues-kind w (event.Release t k) t (released k (tab_of w t)))
kind w (event.Resend t) own = allowed-kind w (event.Resend t) (lives w t) (record { world = w; sends = resent w.kernel t (tab_of w t) }) (λ _. quiet (λ _. refl) (resent-kind w t (tab_of w t)))
kind w (event.Channel t name) own =
    let c = channels_of w t in
    allowed-kind w (event.Channel t name) (lives w t && not (is_some (channel_refusal name c))) (becomes w t (channel_opened name c) [])
    (λ e. becomes-kind w (event.Channel t name) t (Opens name) (channel_opened name c) [] (and_parts (lives w t) (not (is_some (channel_refusal name c))) e).0 (sym (cond-false _ _ _ (second (lives w t) (is_some (channel_refusal name c)) e))) tt (λ m i. absurd (In-nil i)))
kind w (event.Post t k bytes) own =
    let c = channels_of w t in
    allowed-kind w (event.Post t k bytes) (may_post w t k bytes) (becomes w t (posted k bytes c) (map (across t (post_of k bytes c)) (hearers t w.kernel)))
    (λ e. becomes-kind w (event.Post t k bytes) t (Posts k bytes) (posted k bytes c) (map (across t (post_of k bytes c)) (hearers t w.kernel)) (and_parts (lives w t) (not (is_some (post_refusal t k bytes c))) e).0
    (sym (ap (λ z. cond (is_some (post_refusal z k bytes c)) c (posted k bytes c)) (own.own t) ∙ cond-false _ _ _ (second (lives w t) (is_some (post_refusal t k bytes c)) e)))
    (refl, e) (λ m i. In-map_cases (across t (post_of k bytes c)) (hearers t w.kernel) i))
kind w (event.Read t k) own =
    let c = channels_of w t in
    allowed-kind w (event.Read t k) (lives w t && is_own_channel c t k) (becomes w t (read_at k c) [])
    (λ e. becomes-kind w (event.Read t k) t (Reads k) (read_at k c) [] (and_parts (lives w t) (is_own_channel c t k) e).0
    (sym (ap (λ z. cond (is_own_channel c z k) (read_at k c) c) (own.own t) ∙ cond-true _ _ _ (and_parts (lives w t) (is_own_channel c t k) e).1)) refl (λ m i. absurd (In-nil i)))
kind w (event.Close t k) own =
    let c = channels_of w t in
    allowed-kind w (event.Close t k) (lives w t && is_own_channel c t k) (becomes w t (closed_at k c) [])
    (λ e. becomes-kind w (event.Close t k) t (Closes k) (closed_at k c) [] (and_parts (lives w t) (is_own_channel c t k) e).0
    (sym (ap (λ z. cond (is_own_channel c z k) (closed_at k c) c) (own.own t) ∙ cond-true _ _ _ (and_parts (lives w t) (is_own_channel c t k) e).1)) tt (λ m i. absurd (In-nil i)))
kind w (event.Deliver m) own = allowed-kind w (event.Deliver m) (is_sent m w.bag) (arrives w m) (λ e. across-kind w (event.Deliver m) m (is_sent-In m w.bag e))
kind w (event.Kill t) own = allowed-kind w (event.Kill t) (lives w t) (with_kernel (killed t w.kernel) w) (λ _. quiet (λ _. refl) (λ m i. absurd (In-nil i)))
kind w (event.Tell t) own = tells-kind w (event.Tell t) t w.broker
kind w event.Stop own = stops-kind w event.Stop w.broker
kind w (event.Start ts) own = starts-kind w (event.Start ts) ts w.broker
kind w (event.Hello t) own = greets-kind w (event.Hello t) t w.broker
kind w (event.Corrupt t) own = allowed-kind w (event.Corrupt t) (lives w t) (unchanged (record w { corrupt = taken_over t w.corrupt })) (λ _. quiet (λ _. refl) (λ m i. absurd (In-nil i)))
kind w (event.Forge t x) own =
    allowed-kind w (event.Forge t x) (is_corrupt w t && lives w t) (record { world = w; sends = forgery w.kernel t x }) (λ e. quiet (λ _. refl) (forgery-kind w t x (and_parts _ _ e).0))

-- Consequences for one tab's channels

pub data Calling (t : ℕ) (w : WorldState) (e : Event) : Type 0 where
  stays : channels_of (after_event w e) t ≡ channels_of w t → Calling t w e
  called : (call : Call) → channels_of (after_event w e) t ≡ step call (channels_of w t) → Caused w t e call → Calling t w e

pub calling : (t : ℕ) (w : WorldState) (e : Event) → Owned w → Calling t w e
unfolding after_event
calling t w e own = at_table (kind w e own)
  where
    at_table : Kind w e (step_result w e) → Calling t w e
    at_table (quiet s h) = stays (s t)
    at_table (calls u call live s cause h) = ⊎_elim
        (λ same. subst (λ z. Calling z w e) same (called call (ap (λ z. channels_in u (find z u)) s ∙ ap (channels_in u) (find-put_same u (step call (channels_of w u)) w.channels)) cause))
        (λ other. stays (ap (λ z. channels_in t (find z t)) s ∙ ap (channels_in t) (find-put_other u (step call (channels_of w u)) w.channels t (λ z. other (sym z)))))
        (cases_eq u t)

-- A call does not change which tab owns the channels.
step-tab : (call : Call) (c : ChannelState) → (step call c).tab ≡ c.tab
step-tab (Opens name) c = either (λ z. z.tab ≡ c.tab) (is_some (channel_refusal name c)) c (channel_opened name c) (λ _. refl) (λ _. refl)
step-tab (Posts k bytes) c = either (λ z. z.tab ≡ c.tab) (is_some (post_refusal c.tab k bytes c)) c (posted k bytes c) (λ _. refl) (λ _. refl)
step-tab (Hears h) c = either (λ z. z.tab ≡ c.tab) (is_old c h.source h.number) c (heard h c) (λ _. refl) (λ _. refl)
step-tab (Reads k) c = either (λ z. z.tab ≡ c.tab) (is_own_channel c c.tab k) (read_at k c) c (λ _. refl) (λ _. refl)
step-tab (Closes k) c = either (λ z. z.tab ≡ c.tab) (is_own_channel c c.tab k) (closed_at k c) c (λ _. refl) (λ _. refl)

-- Opened tabs stay opened

abbrev Stays : WorldState → StepResult → Type 0
Stays w d = (u : ℕ) → is_opened w.kernel u ≡ true → is_opened d.world.kernel u ≡ true

allowed-stays : (w : WorldState) (b : Bool) (d : StepResult) → (b ≡ true → Stays w d) → Stays w (if_allowed b w d)
allowed-stays w b d f = either (Stays w) b d (unchanged w) f (λ _ u e. e)

opens-stays : (w : WorldState) (i : Bool) (t : ℕ) (p : Pair) → Stays w (opens_as i w t p)
opens-stays w i t p =
    allowed-stays w (not (is_some (open_refusal t p w.kernel))) (with_kernel (opened t p w.kernel) (with_rows i t w))
    (λ n. each_opened (λ u o q. is_opened w.kernel u ≡ true → is_some o ≡ true) w.kernel t p (not_opened w.kernel t p (not-true _ n)) (λ q e. refl) (λ u d e. e))

up-stays : (w : WorldState) (x : Taking) → Stays w (follows w x)
up-stays w (Drops r) = λ u e. e
up-stays w (Does b outs) = λ u e. e

comes_up-stays : (w : WorldState) (x : Stamped) (v : Option BrokerState) → Stays w (arrives_at_broker w x v)
comes_up-stays w x None = λ u e. e
comes_up-stays w x (Some b) = up-stays w (taking b x)

comes-stays : (w : WorldState) (m : Message) → Stays w (arrives w m)
unfolding acts becomes
comes-stays w (Up x) = comes_up-stays w x w.broker
comes-stays w (Down v x) = allowed-stays w (lives w x.tab) (takes_frame w x.tab (frame_of x.inner)) (λ _ u e. e)
comes-stays w (Across t x) = allowed-stays w (lives w t) (becomes w t (after_hearing (frame.Heard x) (channels_of w t)) []) (λ _ u e. e)

tells-stays : (w : WorldState) (t : ℕ) (v : Option BrokerState) → Stays w (tells w t v)
tells-stays w t None = λ u e. e
tells-stays w t (Some b) = allowed-stays w (is_opened w.kernel t && not (lives w t)) (buries w t b) (λ _ u e. e)

stops-stays : (w : WorldState) (v : Option BrokerState) → Stays w (stops w v)
stops-stays w None = λ u e. e
stops-stays w (Some b) = allowed-stays w (may_stop w.kernel) (unchanged (record w { kernel = stopped w.kernel; broker = None })) (λ _ u e. e)

starts-stays : (w : WorldState) (ts : List ℕ) (v : Option BrokerState) → Stays w (starts w ts v)
starts-stays w ts (Some b) = λ u e. e
starts-stays w ts None = allowed-stays w (not (is_some (start_refusal ts w.kernel))) (begins w ts) (λ _ u e. e)

greets-stays : (w : WorldState) (t : ℕ) (v : Option BrokerState) → Stays w (greets w t v)
greets-stays w t None = λ u e. e
greets-stays w t (Some b) = allowed-stays w (lives w t) (record { world = w; sends = Down Kernel (hello_to w.kernel.generation t) ∷ [] }) (λ _ u e. e)

deed-stays : (w : WorldState) (e : Event) → Stays w (step_result w e)
unfolding acts becomes step_result
deed-stays w (event.Open t p) = opens-stays w false t p
deed-stays w (event.OpenTwo t p) = opens-stays w true t p
deed-stays w (event.Ask t mode name) = allowed-stays w _ _ (λ _ u e. e)
deed-stays w (event.Probe t mode name) = allowed-stays w _ _ (λ _ u e. e)
deed-stays w (event.Query t) = allowed-stays w _ _ (λ _ u e. e)
deed-stays w (event.Abort t k) = allowed-stays w _ _ (λ _ u e. e)
deed-stays w (event.Release t k) = allowed-stays w _ _ (λ _ u e. e)
deed-stays w (event.Resend t) = allowed-stays w _ _ (λ _ u e. e)
deed-stays w (event.Channel t name) = allowed-stays w _ _ (λ _ u e. e)
deed-stays w (event.Post t k bytes) = allowed-stays w _ _ (λ _ u e. e)
deed-stays w (event.Read t k) = allowed-stays w _ _ (λ _ u e. e)
deed-stays w (event.Close t k) = allowed-stays w _ _ (λ _ u e. e)
deed-stays w (event.Deliver m) = allowed-stays w (is_sent m w.bag) (arrives w m) (λ _. comes-stays w m)
deed-stays w (event.Kill t) = allowed-stays w (lives w t) (with_kernel (killed t w.kernel) w) (λ _ u e. ended-opened t w.kernel.opened u ∙ e)
deed-stays w (event.Tell t) = tells-stays w t w.broker
deed-stays w event.Stop = stops-stays w w.broker
deed-stays w (event.Start ts) = starts-stays w ts w.broker
deed-stays w (event.Hello t) = greets-stays w t w.broker
deed-stays w (event.Corrupt t) = allowed-stays w _ _ (λ _ u e. e)
deed-stays w (event.Forge t x) = allowed-stays w _ _ (λ _ u e. e)

-- A tab that is not opened after an event was not opened before.
unopened-before : (w : WorldState) (e : Event) (u : ℕ) → is_opened (step_result w e).world.kernel u ≡ false → is_opened w.kernel u ≡ false
unopened-before w e u n = ⊎_elim (λ y. apart (deed-stays w e u y) n) (λ y. y) (cases_Bool (is_opened w.kernel u))

pub happens-owned : (w : WorldState) (e : Event) → Owned w → Owned (after_event w e)
unfolding after_event
happens-owned w e own = record { own = λ t. its_own t (calling t w e own); unopened = λ t n. none t (unopened-before w e t n) (kind w e own) }
  where
    its_own : (t : ℕ) → Calling t w e → (channels_of (after_event w e) t).tab ≡ t
    its_own t (stays s) = ap (λ z. z.tab) s ∙ own.own t
    its_own t (called call s cause) = ap (λ z. z.tab) s ∙ step-tab call (channels_of w t) ∙ own.own t

    none : (t : ℕ) → is_opened w.kernel t ≡ false → Kind w e (step_result w e) → channels_of (step_result w e).world t ≡ no_channels t
    none t n (quiet s h) = s t ∙ own.unopened t n
    none t n (calls u call live s cause h) =
        ap (λ z. channels_in t (find z t)) s
        ∙ ap (channels_in t) (find-put_other u (step call (channels_of w u)) w.channels t (λ z. apart (living_opened _ live) (ap (is_opened w.kernel) (sym z) ∙ n)))
        ∙ own.unopened t n
