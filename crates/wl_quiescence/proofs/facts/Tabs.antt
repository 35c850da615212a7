-- Induction over the events of a world: what every call of an agent keeps is true of all tabs in all worlds.
use Rattle.std.proofs.Common.{◌≡◌, if◌then◌else◌, ℕ, Bool, true, false, not, ◌&&◌, List, [], ◌∷◌, Option, Some, None, length, is_some, refl, ap, subst}
use Rattle.std.proofs.lemmas.Bool.{not-true, and_parts, and_from}
use Rattle.wl_origin.specs.Order.{Pair}
use Rattle.wl_draft.specs.declared.mode.Mode.{Mode}
use Rattle.wl_draft.proofs.Membership.{apart, either}
use Rattle.wl_grammar.specs.declared.frame.Frame.{Frame}
use Rattle.wl_grammar.specs.declared.frame.Stamped.{Stamped}
use Rattle.wl_limits.specs.declared.tabs.TheConstants.{COMMAND_LIMIT}
use Rattle.wl_broadcast.specs.Channels.{ChannelState, open_refusal as channel_refusal, opened as channel_opened, post_refusal, posted, is_own as is_own_channel, read_at, closed_at}
use Rattle.wl_broker.specs.Broker.{BrokerState, Taking, Drops, Does, taking}
use Rattle.wl_agent.specs.Tab.{TabState, born, status_of, is_asked, ask_refusal, query_refusal, asked, queried, aborted, released}
use Rattle.wl_agent.specs.Tokens.{is_pending, is_holding}
use Rattle.wl_agent.specs.Delivery.{delivery}
use Rattle.wl_agent.specs.AgentLaws.{Call, Asks, Queries, Aborts, Releases, Hears, step as call_step}
use Rattle.wl_kernel.specs.Kernel.{is_opened, open_refusal, opened, killed, may_stop, start_refusal}
use Rattle.wl_kernel.specs.Routes.{frame_of}
use Rattle.wl_tab.specs.Tabs.{told}
use Rattle.wl_world_messages.specs.declared.message.Message.{Message}
use Rattle.wl_world_messages.specs.declared.message.Message.TheVariants.{Up, Down, Across}
use Rattle.wl_world_messages.specs.Messages.{is_sent}
use Rattle.wl_world_model.specs.declared.event.Event.{Event}
use Rattle.wl_world_model.specs.declared.event.Event.TheVariants as event
use Rattle.wl_world_model.specs.World.{WorldState, empty_world, tab_of, channels_of, lives, is_corrupt, issues_command, post_of, StepResult, unchanged, if_allowed, acts, asks, queries, aborts, releases, becomes, opens_channel, posts, reads, closes, takes_frame, with_rows, with_kernel, opens_as, arrives_at_broker, arrives, tells, stops, starts, greets, taken_over, step_result, after_event, run}
use Rattle.wl_world_model.specs.Sends.{resent, to_hearers, forgery}
use Rattle.wl_world_model.proofs.AtBroker.{follows, buries, begins}
use Rattle.wl_world_model.proofs.exclusion.ActsWithinAGeneration.{after, each_tab}
use Rattle.wl_world_model.proofs.exclusion.OpeningAndKilling.{not_opened}
use Rattle.wl_world_model.proofs.exclusion.CoverExcludes.{living_opened}
use Rattle.wl_world_model.proofs.exclusion.Invariant.{Sound}
use Rattle.wl_kernel.specs.Kernel.{tab_of as opened_tab}

-- A property of tabs that an agent's call keeps in the world, and that a tab has when it opens there.
pub record KeptByTab (w : WorldState) (P : ℕ → TabState → Type 0) : Type 0 where
  pub born : (i : Bool) (t : ℕ) → is_opened w.kernel t ≡ false → P t (born i t COMMAND_LIMIT)
  pub calls : (t : ℕ) → lives w t ≡ true → (x : Call) → P t (tab_of w t) → P t (call_step x (tab_of w t))
  pub hears : (t : ℕ) → lives w t ≡ true → (f : Frame) → P t (tab_of w t) → P t (told (call_step (Hears f) (tab_of w t)))

module _ (w : WorldState) (P : ℕ → TabState → Type 0) (k : KeptByTab w P) where
  abbrev Tabs : WorldState → Type 0
  Tabs v = (t : ℕ) → P t (tab_of v t)

  allowed : (b : Bool) (d : StepResult) → Tabs w → Tabs (after w d) → Tabs (after w (if_allowed b w d))
  allowed b d r n = either (λ z. Tabs (after w z)) b d (unchanged w) (λ _. n) (λ _. r)

  acts-tabs : (t : ℕ) (y : TabState) (ms : List Message) → Tabs w → P t y → Tabs (after w (acts w t y ms))
  unfolding acts
  acts-tabs t y ms r f = each_tab P t y w.tabs f (λ u d. r u)

  becomes-tabs : (t : ℕ) (c : ChannelState) (ms : List Message) → Tabs w → Tabs (after w (becomes w t c ms))
  unfolding becomes
  becomes-tabs t c ms r = r

  opens-tabs : (i : Bool) (t : ℕ) (p : Pair) → Tabs w → Tabs (after w (opens_as i w t p))
  opens-tabs i t p r =
      either (λ z. Tabs (after w z)) (not (is_some (open_refusal t p w.kernel))) (with_kernel (opened t p w.kernel) (with_rows i t w)) (unchanged w)
      (λ e. each_tab P t (born i t COMMAND_LIMIT) w.tabs (k.born i t (not_opened w.kernel t p (not-true _ e))) (λ u d. r u)) (λ _. r)

  frame-tabs : (t : ℕ) (f : Frame) → lives w t ≡ true → Tabs w → Tabs (after w (takes_frame w t f))
  frame-tabs t f lv r = acts-tabs t (told (delivery f (tab_of w t)).0) _ r (k.hears t lv f (r t))

  greets-tabs : (t : ℕ) (v : Option BrokerState) → Tabs w → Tabs (after w (greets w t v))
  greets-tabs t None r = r
  greets-tabs t (Some b) r = allowed (lives w t) _ r r

  follows-tabs : (o : Taking) → Tabs w → Tabs (after w (follows w o))
  follows-tabs (Drops reason) r = r
  follows-tabs (Does c outs) r = r

  broker-tabs : (v : Option BrokerState) (x : Stamped) → Tabs w → Tabs (after w (arrives_at_broker w x v))
  broker-tabs None x r = r
  broker-tabs (Some b) x r = follows-tabs (taking b x) r

  arrives-tabs : (m : Message) → Tabs w → Tabs (after w (arrives w m))
  arrives-tabs (Up x) r = broker-tabs w.broker x r
  arrives-tabs (Down v x) r = either (λ z. Tabs (after w z)) (lives w x.tab) (takes_frame w x.tab (frame_of x.inner)) (unchanged w) (λ lv. frame-tabs x.tab (frame_of x.inner) lv r) (λ _. r)
  arrives-tabs (Across t x) r = allowed (lives w t) _ r (becomes-tabs t _ [] r)

  tells-tabs : (t : ℕ) (v : Option BrokerState) → Tabs w → Tabs (after w (tells w t v))
  tells-tabs t None r = r
  tells-tabs t (Some b) r = either (λ d. Tabs (after w d)) (is_opened w.kernel t && not (lives w t)) (buries w t b) (unchanged w) (λ _. r) (λ _. r)

  stops-tabs : (v : Option BrokerState) → Tabs w → Tabs (after w (stops w v))
  stops-tabs None r = r
  stops-tabs (Some b) r = either (λ d. Tabs (after w d)) (may_stop w.kernel) _ (unchanged w) (λ _. r) (λ _. r)

  starts-tabs : (ts : List ℕ) (v : Option BrokerState) → Tabs w → Tabs (after w (starts w ts v))
  starts-tabs ts (Some b) r = r
  starts-tabs ts None r = either (λ d. Tabs (after w d)) (not (is_some (start_refusal ts w.kernel))) (begins w ts) (unchanged w) (λ _. r) (λ _. r)

  asks-tabs : (t : ℕ) (mode : Mode) (b : Bool) (name : List ℕ) → Tabs w → Tabs (after w (asks w t mode b name))
  asks-tabs t mode b name r =
      let a = asked mode b name (tab_of w t) in
      either (λ z. Tabs (after w z)) (lives w t && not (is_some (ask_refusal (tab_of w t) name))) (issues_command w t a) (unchanged w)
      (λ e. acts-tabs t a _ r (subst (λ c. P t (if c then tab_of w t else a)) (not-true _ (and_parts (lives w t) _ e).1) (k.calls t (and_parts (lives w t) _ e).0 (Asks mode b name) (r t)))) (λ _. r)

  queries-tabs : (t : ℕ) → Tabs w → Tabs (after w (queries w t))
  queries-tabs t r =
      let a = queried (tab_of w t) in
      either (λ z. Tabs (after w z)) (lives w t && not (is_some (query_refusal (tab_of w t)))) (issues_command w t a) (unchanged w)
      (λ e. acts-tabs t a _ r (subst (λ c. P t (if c then tab_of w t else a)) (not-true _ (and_parts (lives w t) _ e).1) (k.calls t (and_parts (lives w t) _ e).0 Queries (r t)))) (λ _. r)

  aborts-tabs : (t n : ℕ) → Tabs w → Tabs (after w (aborts w t n))
  aborts-tabs t n r =
      let a = aborted n (tab_of w t) in
      either (λ z. Tabs (after w z)) (lives w t && is_pending (tab_of w t) n && is_asked (status_of (tab_of w t) n)) (issues_command w t a) (unchanged w)
      (λ e.
      let p = and_parts (lives w t && is_pending (tab_of w t) n) (is_asked (status_of (tab_of w t) n)) e in
      acts-tabs t a _ r
      (subst (λ c. P t (if c then a else tab_of w t)) (and_from (is_pending (tab_of w t) n) (is_asked (status_of (tab_of w t) n)) (and_parts (lives w t) (is_pending (tab_of w t) n) p.0).1 p.1) (k.calls t (and_parts (lives w t) (is_pending (tab_of w t) n) p.0).0 (Aborts n) (r t))))
      (λ _. r)

  releases-tabs : (t n : ℕ) → Tabs w → Tabs (after w (releases w t n))
  releases-tabs t n r =
      let a = released n (tab_of w t) in
      either (λ z. Tabs (after w z)) (lives w t && is_holding (tab_of w t) n) (issues_command w t a) (unchanged w)
      (λ e. acts-tabs t a _ r (subst (λ c. P t (if c then a else tab_of w t)) (and_parts (lives w t) _ e).1 (k.calls t (and_parts (lives w t) _ e).0 (Releases n) (r t)))) (λ _. r)

  channel-tabs : (t : ℕ) (name : List ℕ) → Tabs w → Tabs (after w (opens_channel w t name))
  channel-tabs t name r =
      let c = channel_opened name (channels_of w t) in
      allowed (lives w t && not (is_some (channel_refusal name (channels_of w t)))) (becomes w t c []) r (becomes-tabs t c [] r)

  posts-tabs : (t n : ℕ) (bytes : List ℕ) → Tabs w → Tabs (after w (posts w t n bytes))
  posts-tabs t n bytes r =
      let c = posted n bytes (channels_of w t) in
      let ms = to_hearers w.kernel t (post_of n bytes (channels_of w t)) in
      allowed (lives w t && not (is_some (post_refusal t n bytes (channels_of w t)))) (becomes w t c ms) r (becomes-tabs t c ms r)

  reads-tabs : (t n : ℕ) → Tabs w → Tabs (after w (reads w t n))
  reads-tabs t n r =
      let c = read_at n (channels_of w t) in allowed (lives w t && is_own_channel (channels_of w t) t n) (becomes w t c []) r (becomes-tabs t c [] r)

  closes-tabs : (t n : ℕ) → Tabs w → Tabs (after w (closes w t n))
  closes-tabs t n r =
      let c = closed_at n (channels_of w t) in allowed (lives w t && is_own_channel (channels_of w t) t n) (becomes w t c []) r (becomes-tabs t c [] r)

  pub tabs-after : (e : Event) → Tabs w → Tabs (after_event w e)
  unfolding after_event step_result
  tabs-after (event.Open t p) r = opens-tabs false t p r
  tabs-after (event.OpenTwo t p) r = opens-tabs true t p r
  tabs-after (event.Ask t mode name) r = asks-tabs t mode false name r
  tabs-after (event.Probe t mode name) r = asks-tabs t mode true name r
  tabs-after (event.Query t) r = queries-tabs t r
  tabs-after (event.Abort t n) r = aborts-tabs t n r
  tabs-after (event.Release t n) r = releases-tabs t n r
  tabs-after (event.Resend t) r = allowed (lives w t) (record { world = w; sends = resent w.kernel t (tab_of w t) }) r r
  tabs-after (event.Channel t name) r = channel-tabs t name r
  tabs-after (event.Post t n bytes) r = posts-tabs t n bytes r
  tabs-after (event.Read t n) r = reads-tabs t n r
  tabs-after (event.Close t n) r = closes-tabs t n r
  tabs-after (event.Deliver m) r = allowed (is_sent m w.bag) (arrives w m) r (arrives-tabs m r)
  tabs-after (event.Kill t) r = allowed (lives w t) (with_kernel (killed t w.kernel) w) r r
  tabs-after (event.Tell t) r = tells-tabs t w.broker r
  tabs-after event.Stop r = stops-tabs w.broker r
  tabs-after (event.Start ts) r = starts-tabs ts w.broker r
  tabs-after (event.Hello t) r = greets-tabs t w.broker r
  tabs-after (event.Corrupt t) r = allowed (lives w t) (unchanged (record w { corrupt = taken_over t w.corrupt })) r r
  tabs-after (event.Forge t x) r = allowed (is_corrupt w t && lives w t) (record { world = w; sends = forgery w.kernel t x }) r r

-- One event

-- A tab after an event: as before, or, if it lives, after one call of its agent.
pub data OneCall (lives : Bool) (a : TabState) : TabState → Type 0 where
  Stays : OneCall lives a a
  Calls : lives ≡ true → (x : Call) → OneCall lives a (call_step x a)
  Heard : lives ≡ true → (f : Frame) → OneCall lives a (told (call_step (Hears f) a))

abbrev pub OneCallAt : WorldState → WorldState → ℕ → Type 0
OneCallAt w v t = OneCall (lives w t) (tab_of w t) (tab_of v t)

pub one-call : (w : WorldState) (e : Event) (t : ℕ) → is_opened w.kernel t ≡ true → OneCallAt w (after_event w e) t
one-call w e =
    tabs-after w (λ t a. is_opened w.kernel t ≡ true → OneCall (lives w t) (tab_of w t) a)
    (record { born = λ i t n o. apart o n; calls = λ t lv x h o. Calls lv x; hears = λ t lv f h o. Heard lv f })
    e (λ t o. Stays)

-- A tab that was not opened has issued nothing.
pub unopened-empty : (w : WorldState) → Sound w → (e : Event) (t : ℕ) → is_opened w.kernel t ≡ false → length (tab_of (after_event w e) t).issued ≡ 0
unopened-empty w s e =
    tabs-after w (λ t a. is_opened w.kernel t ≡ false → length a.issued ≡ 0)
    (record {
      born = λ i t n o. refl;
      calls = λ t lv x h o. apart (living_opened (opened_tab w.kernel t) lv) o;
      hears = λ t lv f h o. apart (living_opened (opened_tab w.kernel t) lv) o;
    })
    e (λ t o. ap (λ (a : TabState). length a.issued) ((s.tabs t).unopened o).1)

-- Each tab of the second world is a tab of the first after at most one call.
pub record ActsOnce (w v : WorldState) : Type 0 where
  pub one : (t : ℕ) → is_opened w.kernel t ≡ true → OneCallAt w v t
  pub none : (t : ℕ) → is_opened w.kernel t ≡ false → length (tab_of v t).issued ≡ 0

pub acts-once : (w : WorldState) → Sound w → (e : Event) → ActsOnce w (after_event w e)
acts-once w s e = record { one = one-call w e; none = unopened-empty w s e }

-- All worlds

module _ (P : ℕ → TabState → Type 0) (k : (w : WorldState) → KeptByTab w P) where
  keeps-tabs : (es : List Event) (w : WorldState) → ((t : ℕ) → P t (tab_of w t)) → (t : ℕ) → P t (tab_of (run es w) t)
  keeps-tabs [] w r = r
  keeps-tabs (e ∷ es) w r = keeps-tabs es (after_event w e) (tabs-after w P (k w) e r)

  pub run-tabs : (es : List Event) (t : ℕ) → P t (tab_of (run es empty_world) t)
  run-tabs es = keeps-tabs es empty_world (λ t. (k empty_world).born false t refl)
