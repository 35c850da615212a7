-- Each event of the world leads to a later world.
use Rattle.std.proofs.Common.{◌≡◌, ℕ, suc, ◌+◌, ◌<◌, ◌≤◌, true, false, not, ◌&&◌, ◌||◌, List, [], ◌∷◌, map, Option, Some, None, is_some, refl, sym, ◌∙◌, subst, arith, le_refl}
use Rattle.std.specs.Prelude.{⊤}
use Rattle.std.specs.Prelude.{◌==◌, nat_lt, nat_le}
use Rattle.std.proofs.lemmas.Bool.{not-false, ltb-true, ltb-false}
use Rattle.wl_draft.specs.Locks.{Locks}
use Rattle.wl_draft.specs.Membership.{In}
use Rattle.wl_draft.proofs.Membership.{apart, either, In-nil}
use Rattle.wl_grammar.specs.declared.frame.Operation.{Operation}
use Rattle.wl_grammar.specs.declared.frame.Operation.TheVariants.{Request, Release, Abort, Query}
use Rattle.wl_grammar.specs.declared.frame.Frame.TheVariants as frame
use Rattle.wl_grammar.specs.declared.frame.Stamped.{Stamped}
use Rattle.wl_grammar.specs.declared.frame.Upward.{Upward}
use Rattle.wl_grammar.specs.declared.frame.Upward.TheVariants as up
use Rattle.wl_grammar.specs.declared.frame.Downward.{Downward}
use Rattle.wl_grammar.specs.declared.frame.Downward.TheVariants as down
use Rattle.wl_grammar.specs.declared.frame.Addressed.{Addressed}
use Rattle.wl_grammar.specs.Generation.{generation_of}
use Rattle.wl_broker_reports.specs.ReportParts.{Told, Partial, at_once, in_part, content_of, has_held, all_below, fits, has_part, with_told, is_whole, whole_of}
use Rattle.wl_broker_reports.proofs.KeptParts.{with_told-base}
use Rattle.wl_broker.specs.declared.seat.TabSeat.{TabSeat}
use Rattle.wl_broker.specs.declared.seat.TabSeat.TheVariants.{Joined, Dead}
use Rattle.wl_broker.specs.declared.dropped.Dropped.TheVariants.{OldGeneration, LaterGeneration, NotJoined, Recovering, OutOfTurn, DeadTab, AlreadyJoined, HeldByNewcomer, BadReport, Misplaced, TooMany, PartTwice}
use Rattle.wl_broker.specs.Broker.{BrokerState, Taking, Drops, Does, hello_to, hellos, started, seat_of, partial_of, is_joined, is_dead, next_of, next_in, limit_of, is_active, is_misplaced, is_listed, listed_at, is_lock, place_of, with_seat, settled_at, manager_of, later_answer, perform, take_command, keeping, join, join_if, take_report_part, take_inner, taking, buried_at, death_step}
use Rattle.wl_draft.specs.Locks.{live}
use Rattle.wl_broadcast.specs.Channels.{open_refusal as channel_refusal, opened as channel_opened, post_refusal, posted, is_own as is_own_channel, read_at, closed_at, after_hearing}
use Rattle.wl_agent.specs.declared.delivered.Delivered.{Delivered}
use Rattle.wl_agent.specs.declared.status.Status.TheVariants.{Asked, Querying}
use Rattle.wl_agent.specs.SnapshotParts.{no_parts}
use Rattle.wl_agent.specs.Tab.{TabState}
use Rattle.wl_agent.specs.Delivery.{has_entered, delivery}
use Rattle.wl_kernel.specs.Kernel.{is_opened, start_refusal, placed}
use Rattle.wl_kernel.specs.Routes.{frame_of}
use Rattle.wl_limits.specs.declared.tabs.TheConstants.{LAST_NUMBER}
use Rattle.wl_tab.specs.Tabs.{told}
use Rattle.wl_world_messages.specs.declared.message.Sender.{Sender}
use Rattle.wl_world_messages.specs.declared.message.Sender.TheVariants.{Kernel}
use Rattle.wl_world_messages.specs.declared.message.Message.{Message}
use Rattle.wl_world_messages.specs.declared.message.Message.TheVariants.{Up, Down, Across}
use Rattle.wl_world_messages.specs.Messages.{is_sent}
use Rattle.wl_world_messages.proofs.Same.{is_sent-In, sent_all-keeps}
use Rattle.wl_world_model.specs.declared.event.Event.{Event}
use Rattle.wl_world_model.specs.declared.event.Event.TheVariants as event
use Rattle.wl_world_model.specs.World.{WorldState, empty_world, tab_of, channels_of, lives, is_corrupt, opens_channel, post_of, posts, reads, closes, from_broker, becomes, takes_frame, arrives_at_broker, arrives, tells, stops, starts, greets, step_result, after_event, run}
use Rattle.wl_world_model.specs.Sends.{report_if_entered, resent, to_hearers, forgery}
use Rattle.wl_world_model.specs.Holdings.{IsHonest}
use Rattle.wl_world_model.proofs.AtBroker.{with_broker, broker_does, follows, buries, begins}
use Rattle.wl_world_model.proofs.exclusion.Invariant.{Sound, generation, limit, broker_of, has_joined, up_message, down_message}
use Rattle.wl_world_model.proofs.exclusion.ActsWithinAGeneration.{after}
use Rattle.wl_world_model.proofs.exclusion.Entering.{limit-le}
use Rattle.wl_world_model.proofs.exclusion.HeardNumbers.{noted-kept, answer-kept, part-kept}
use Rattle.wl_world_model.proofs.exclusion.ToldParts.{body-told}
use Rattle.wl_world_model.proofs.exclusion.TakenSeats.{each_seat}
use Rattle.wl_world_model.proofs.exclusion.SoundRuns.{happens-sound}
use Rattle.wl_library_model.proofs.Awaited.{told-none}
use Rattle.wl_library_model.proofs.Later.{Later, SeatsFit, Fit, On, later-on, later-same, on-none, on-allowed, on-acts, on-becomes, on-sends, on-issue, on-finish, delivery-heard, told-heard, on-opens, on-kills, on-corrupts, goes-same}

-- Deeds of the broker

on-broker : (w : WorldState) (b : BrokerState) (outs : List Addressed) → Fit w → SeatsFit w b → On w (after w (broker_does w b outs))
on-broker w b outs f s = record {
  later = record { bag = λ m i. sent_all-keeps (map from_broker outs) w.bag i; opened = λ u o. (o, refl); dead = λ u d. d; honest = λ u h. h; tabs = λ u o. goes-same (tab_of w u) };
  fit = record { untold = f.untold; low = f.low; seats = s };
}

-- The tab gets a seat in which the broker has counted the commands below its report's base.
seated : (w : WorldState) (b : BrokerState) (t : ℕ) (seat : TabSeat) → SeatsFit w b → (IsHonest w t → is_joined (Some seat) ≡ true → (tab_of w t).report.base ≤ next_in (Some seat)) → SeatsFit w (with_seat t seat b)
seated w b t seat f g = each_seat b t seat (λ u o. IsHonest w u → is_joined o ≡ true → (tab_of w u).report.base ≤ next_in o) g (λ u n. f u)

settled : (w : WorldState) (b : BrokerState) (p : ℕ) (m : Locks) → SeatsFit w b → SeatsFit w (settled_at b p m)
unfolding settled_at
settled w b p m f = f

buried : (w : WorldState) (b : BrokerState) (t : ℕ) (o : Option ℕ) → SeatsFit w b → SeatsFit w (buried_at b t o).0
buried w b t None f = f
buried w b t (Some p) f = settled w b p _ f

dies : (w : WorldState) (b : BrokerState) (t : ℕ) → SeatsFit w b → SeatsFit w (death_step b t).0
unfolding death_step
dies w b t f =
    either {A = BrokerState × List Addressed} (λ x. SeatsFit w x.0) (is_dead (seat_of b t)) (b, []) (buried_at (with_seat t Dead b) t (place_of b t))
    (λ _. f)
    (λ _. buried w (with_seat t Dead b) t (place_of b t) (seated w b t Dead f (λ h j. apart j refl)))

-- A message that the broker takes.
abbrev Takes : WorldState → Taking → Type 0
Takes w (Drops reason) = ⊤
Takes w (Does b outs) = SeatsFit w b

performs : (w : WorldState) (b : BrokerState) (t p n : ℕ) (o : Operation) → SeatsFit w b → is_joined (seat_of b t) ≡ true → next_of b t ≤ n → Takes w (perform b t p n o)
unfolding perform
performs w b t p n o f j le =
    settled w (with_seat t (Joined p (n + 1) (limit_of b t)) b) p _
    (seated w b t (Joined p (n + 1) (limit_of b t)) f (λ h _. let low : (tab_of w t).report.base ≤ next_of b t = f t h j in let m : next_of b t ≤ n = le in omega arith))

commands : (w : WorldState) (b : BrokerState) (t p n : ℕ) (o : Operation) → SeatsFit w b → Takes w (take_command b t p n o)
unfolding take_command
commands w b t p n o f =
    either (Takes w) (not (is_joined (seat_of b t))) (Drops NotJoined) _ (λ _. tt)
    (λ j. either (Takes w) (not (is_active b p)) (Drops Recovering) _ (λ _. tt)
    (λ _. either (Takes w) (nat_lt (next_of b t) n || n == LAST_NUMBER) (Drops OutOfTurn) _ (λ _. tt)
    (λ _. either (Takes w) (nat_lt n (next_of b t)) (Does b (later_answer b t p n o ∷ [])) _ (λ _. f)
    (λ m. either (Takes w) (is_lock o && nat_le (limit_of b t) (live (manager_of b p) t)) (Drops TooMany) _ (λ _. tt)
    (λ _. performs w b t p n o f (not-false _ j) (ltb-false _ _ m))))))

joins : (w : WorldState) (b : BrokerState) (t p : ℕ) (k : Partial) → SeatsFit w b → (IsHonest w t → (tab_of w t).report.base ≤ k.base) → Takes w (join b t p (whole_of k))
unfolding join
joins w b t p k f g = settled w (with_seat t (Joined p k.base (whole_of k).limit) b) p _ (seated w b t (Joined p k.base (whole_of k).limit) f (λ h _. g h))

reports : (w : WorldState) (b : BrokerState) (t p : ℕ) (x : Told) → SeatsFit w b → (IsHonest w t → (tab_of w t).report.base ≤ x.base) → Takes w (take_report_part b t p x)
unfolding take_report_part join_if
reports w b t p x f g =
    let k = with_told p x (partial_of b t) in
    either (Takes w) (is_joined (seat_of b t)) (Drops AlreadyJoined) _ (λ _. tt)
    (λ _. either (Takes w) (not (is_listed (listed_at t b.listed)) && has_held x.entries) (Drops HeldByNewcomer) _ (λ _. tt)
    (λ _. either (Takes w) (not (all_below x.base x.entries && fits x (partial_of b t))) (Drops BadReport) _ (λ _. tt)
    (λ _. either (Takes w) (has_part x (partial_of b t)) (Drops PartTwice) _ (λ _. tt)
    (λ _. either (Takes w) (is_whole k) (join b t p (whole_of k)) (Does (keeping t k b) [])
    (λ _. joins w b t p k f (λ h. subst (λ z. (tab_of w t).report.base ≤ z) (sym (with_told-base p x (partial_of b t))) (g h)))
    (λ _. f)))))

-- An honest tab's report to the broker that is up is its present one.
said-base : (w : WorldState) (b : BrokerState) → Sound (with_broker b w) → (t p : ℕ) (u : Upward) (x : Told) → content_of u ≡ Some x → In (up_message t p u) w.bag → generation_of u ≡ b.generation → IsHonest w t → (tab_of w t).report.base ≤ x.base
said-base w b s t p u x is i now h =
    let o = (((s.messages t).reports p u x is i).2) h in
    let g : generation_of u ≡ generation w = now ∙ s.current in
    let le : generation_of u ≤ (tab_of w t).entered = o.1 in
    let lt : (tab_of w t).entered < suc (generation w) = (s.tabs t).entered in
    let e : generation_of u ≡ (tab_of w t).entered = omega arith in
    let part = (body-told (tab_of w t).in_parts (tab_of w t).report u x (o.2 e) is).1 in
    subst (λ z. (tab_of w t).report.base ≤ z) (sym part.base) (le_refl (tab_of w t).report.base)

inner : (w : WorldState) (b : BrokerState) → Sound (with_broker b w) → (t p : ℕ) (u : Upward) → In (up_message t p u) w.bag → generation_of u ≡ b.generation → SeatsFit w b → Takes w (take_inner b t p u)
inner w b s t p (up.Command c) i now f = commands w b t p c.number c.operation f
inner w b s t p (up.Report r) i now f = reports w b t p (at_once r) f (λ h. said-base w b s t p (up.Report r) (at_once r) refl i now h)
inner w b s t p (up.ReportPart r) i now f = reports w b t p (in_part r) f (λ h. said-base w b s t p (up.ReportPart r) (in_part r) refl i now h)

takes : (w : WorldState) (b : BrokerState) → Sound (with_broker b w) → (x : Stamped) → In (Up x) w.bag → SeatsFit w b → Takes w (taking b x)
unfolding taking
takes w b s x i f =
    either (Takes w) (nat_lt (generation_of x.inner) b.generation) (Drops OldGeneration) _ (λ _. tt)
    (λ m. either (Takes w) (nat_lt b.generation (generation_of x.inner)) (Drops LaterGeneration) _ (λ _. tt)
    (λ n. either (Takes w) (is_dead (seat_of b x.tab)) (Drops DeadTab) _ (λ _. tt)
    (λ _. either (Takes w) (is_misplaced b x.tab x.partition) (Drops Misplaced) _ (λ _. tt)
    (λ _. let p : b.generation ≤ generation_of x.inner = ltb-false _ _ m in
    let q : generation_of x.inner ≤ b.generation = ltb-false _ _ n in
    inner w b s x.tab x.partition x.inner i (omega arith) f))))

on-follows : (w : WorldState) (b : BrokerState) (o : Taking) → Fit (with_broker b w) → Takes w o → On (with_broker b w) (after (with_broker b w) (follows (with_broker b w) o))
on-follows w b (Drops reason) f t = on-none (with_broker b w) f
on-follows w b (Does c outs) f t = on-broker (with_broker b w) c outs f t

-- The world with another broker, or with none.
abbrev at_broker : WorldState → Option BrokerState → WorldState
at_broker w v = record w { broker = v }

at_broker-sound : (w : WorldState) (v : Option BrokerState) → w.broker ≡ v → Sound w → Sound (at_broker w v)
at_broker-sound w v e s = subst (λ z. Sound (at_broker w z)) e s

at_broker-fit : (w : WorldState) (v : Option BrokerState) → w.broker ≡ v → Fit w → Fit (at_broker w v)
at_broker-fit w v e f = subst (λ z. Fit (at_broker w z)) e f

on-up : (w : WorldState) (v : Option BrokerState) → w.broker ≡ v → Sound w → Fit w → (x : Stamped) → In (Up x) w.bag → On (at_broker w v) (after (at_broker w v) (arrives_at_broker (at_broker w v) x v))
on-up w None e s f x i = on-none (at_broker w None) (at_broker-fit w None e f)
on-up w (Some b) e s f x i =
    let g = at_broker-fit w (Some b) e f in
    on-follows w b (taking b x) g (takes w b (at_broker-sound w (Some b) e s) x i g.seats)

on-tells : (w : WorldState) (v : Option BrokerState) → w.broker ≡ v → Fit w → (t : ℕ) → On (at_broker w v) (after (at_broker w v) (tells (at_broker w v) t v))
on-tells w None e f t = on-none (at_broker w None) (at_broker-fit w None e f)
on-tells w (Some b) e f t =
    let g = at_broker-fit w (Some b) e f in
    on-allowed (at_broker w (Some b)) (is_opened w.kernel t && not (lives w t)) (buries (at_broker w (Some b)) t b) g
    (λ _. on-broker (at_broker w (Some b)) (death_step b t).0 (death_step b t).1 g (dies w b t g.seats))

on-stops : (w : WorldState) (v : Option BrokerState) → Fit w → On w (after w (stops w v))
on-stops w None f = on-none w f
on-stops w (Some b) f =
    on-allowed w _ _ f
    (λ _. record {
      later = record { bag = λ m i. i; opened = λ u o. (o, refl); dead = λ u d. d; honest = λ u h. h; tabs = λ u o. goes-same (tab_of w u) };
      fit = record { untold = f.untold; low = f.low; seats = λ t h j. apart j refl };
    })

on-starts : (w : WorldState) (ts : List ℕ) (v : Option BrokerState) → Fit w → On w (after w (starts w ts v))
on-starts w ts (Some b) f = on-none w f
on-starts w ts None f = on-allowed w (not (is_some (start_refusal ts w.kernel))) (begins w ts) f (λ _. on-broker w (started w.kernel.generation (placed ts w.kernel)) (hellos w.kernel.generation (placed ts w.kernel)) f (λ t h j. apart j refl))

on-greets : (w : WorldState) (t : ℕ) (v : Option BrokerState) → Fit w → On w (after w (greets w t v))
on-greets w t None f = on-none w f
on-greets w t (Some b) f = on-allowed w (lives w t) _ f (λ _. on-sends w (Down Kernel (hello_to w.kernel.generation t) ∷ []) f)

-- Frames for tabs

-- A tab that has joined keeps its report, since it enters no later generation.
keeps-report : (w : WorldState) → Sound w → (t : ℕ) (v : Sender) (x : Downward) → In (down_message v t x) w.bag → IsHonest w t → has_joined (broker_of w) t ≡ true → (delivery (frame_of x) (tab_of w t)).0.report ≡ (tab_of w t).report
unfolding delivery
keeps-report w s t v (down.Hello h) i y j =
    either {A = TabState × Delivered} (λ o. o.0.report ≡ (tab_of w t).report) (nat_lt (tab_of w t).entered h.generation) _ _
    (λ lt. absurd (
    let l : (tab_of w t).entered < h.generation = ltb-true _ _ lt in
    let g : h.generation < limit w = ((s.messages t).hellos v h i).1 in
    let m : limit w ≤ suc (generation w) = limit-le (generation w) w.broker in
    let e : (tab_of w t).entered ≡ generation w = (s.seats t).joined y j in
    omega arith))
    (λ _. refl)
keeps-report w s t v (down.Answer m) i y j =
    let x = tab_of w t in
    either {A = TabState × Delivered} (λ o. o.0.report ≡ x.report) (has_entered m.generation x) _ _ (λ _. (noted-kept m.upto x _ _ (answer-kept m x (s.tabs t).state.rises)).report) (λ _. refl)
keeps-report w s t v (down.Snapshot m) i y j =
    let x = tab_of w t in
    either {A = TabState × Delivered} (λ o. o.0.report ≡ x.report) (has_entered m.generation x) _ _ (λ _. (noted-kept (m.number + 1) x _ _ (part-kept m x (λ k. ⊥) (s.tabs t).state.rises)).report) (λ _. refl)

told-report : (x : TabState) → (told x).report ≡ x.report
unfolding told
told-report x = refl

on-hears : (w : WorldState) → Sound w → Fit w → (t : ℕ) (v : Sender) (x : Downward) → In (down_message v t x) w.bag → On w (after w (takes_frame w t (frame_of x)))
on-hears w s f t v x i =
    let a = tab_of w t in
    let o = delivery (frame_of x) a in
    let h = told-heard a o.0 (delivery-heard a (s.tabs t).state.rises (f.low t) x) in
    on-acts w t (told o.0) (report_if_entered w.kernel t o.0 o.1) f h.goes (told-none o.0) h.low
    (λ y j. subst (λ z. z.base ≤ next_of (broker_of w) t) (sym (told-report o.0 ∙ keeps-report w s t v x i y j)) (f.seats t y j))

on-comes : (w : WorldState) → Sound w → Fit w → (m : Message) → In m w.bag → On w (after w (arrives w m))
on-comes w s f (Up x) i = on-up w w.broker refl s f x i
on-comes w s f (Down v x) i = on-allowed w (lives w x.tab) (takes_frame w x.tab (frame_of x.inner)) f (λ _. on-hears w s f x.tab v x.inner i)
on-comes w s f (Across t x) i = on-allowed w (lives w t) (becomes w t (after_hearing (frame.Heard x) (channels_of w t)) []) f (λ _. on-becomes w t _ [] f)

-- Channels

on-opens_channel : (w : WorldState) (t : ℕ) (name : List ℕ) → Fit w → On w (after w (opens_channel w t name))
on-opens_channel w t name f =
    let c = channels_of w t in
    on-allowed w (lives w t && not (is_some (channel_refusal name c))) (becomes w t (channel_opened name c) []) f (λ _. on-becomes w t (channel_opened name c) [] f)

on-posts : (w : WorldState) (t k : ℕ) (bytes : List ℕ) → Fit w → On w (after w (posts w t k bytes))
on-posts w t k bytes f =
    let c = channels_of w t in
    on-allowed w (lives w t && not (is_some (post_refusal t k bytes c))) (becomes w t (posted k bytes c) (to_hearers w.kernel t (post_of k bytes c))) f
    (λ _. on-becomes w t (posted k bytes c) (to_hearers w.kernel t (post_of k bytes c)) f)

on-reads : (w : WorldState) (t k : ℕ) → Fit w → On w (after w (reads w t k))
on-reads w t k f = let c = channels_of w t in on-allowed w (lives w t && is_own_channel c t k) (becomes w t (read_at k c) []) f (λ _. on-becomes w t (read_at k c) [] f)

on-closes : (w : WorldState) (t k : ℕ) → Fit w → On w (after w (closes w t k))
on-closes w t k f = let c = channels_of w t in on-allowed w (lives w t && is_own_channel c t k) (becomes w t (closed_at k c) []) f (λ _. on-becomes w t (closed_at k c) [] f)

-- Events

pub happens-on : (w : WorldState) (e : Event) → Sound w → Fit w → On w (after_event w e)
unfolding after_event step_result
happens-on w (event.Open t p) s f = on-opens false w t p f
happens-on w (event.OpenTwo t p) s f = on-opens true w t p f
happens-on w (event.Ask t mode name) s f = on-allowed w _ _ f (λ _. on-issue w t (Request mode false name) Asked refl f)
happens-on w (event.Probe t mode name) s f = on-allowed w _ _ f (λ _. on-issue w t (Request mode true name) Asked refl f)
happens-on w (event.Query t) s f = on-allowed w _ _ f (λ _. on-issue w t Query (Querying no_parts) refl f)
happens-on w (event.Abort t k) s f = on-allowed w _ _ f (λ _. on-finish w t k (Abort k) s f)
happens-on w (event.Release t k) s f = on-allowed w _ _ f (λ _. on-finish w t k (Release k) s f)
happens-on w (event.Resend t) s f = on-allowed w (lives w t) (record { world = w; sends = resent w.kernel t (tab_of w t) }) f (λ _. on-sends w (resent w.kernel t (tab_of w t)) f)
happens-on w (event.Channel t name) s f = on-opens_channel w t name f
happens-on w (event.Post t k bytes) s f = on-posts w t k bytes f
happens-on w (event.Read t k) s f = on-reads w t k f
happens-on w (event.Close t k) s f = on-closes w t k f
happens-on w (event.Deliver m) s f = on-allowed w (is_sent m w.bag) (arrives w m) f (λ h. on-comes w s f m (is_sent-In m w.bag h))
happens-on w (event.Kill t) s f = on-kills w t f
happens-on w (event.Tell t) s f = on-tells w w.broker refl f t
happens-on w event.Stop s f = on-stops w w.broker f
happens-on w (event.Start ts) s f = on-starts w ts w.broker f
happens-on w (event.Hello t) s f = on-greets w t w.broker f
happens-on w (event.Corrupt t) s f = on-corrupts w t f
happens-on w (event.Forge t x) s f = on-allowed w (is_corrupt w t && lives w t) (record { world = w; sends = forgery w.kernel t x }) f (λ _. on-sends w (forgery w.kernel t x) f)

pub empty-fit : Fit empty_world
empty-fit = record { untold = λ t row i. absurd (In-nil i); low = λ t. omega arith; seats = λ t h j. apart j refl }

-- A world that is sound and fit.
pub record Good (w : WorldState) : Type 0 where
  pub sound : Sound w
  pub fit : Fit w

pub happens-good : (w : WorldState) (e : Event) → Good w → Good (after_event w e)
happens-good w e g = record { sound = happens-sound w e g.sound; fit = (happens-on w e g.sound g.fit).fit }

pub run-good : (es : List Event) (w : WorldState) → Good w → Good (run es w)
run-good [] w g = g
run-good (e ∷ es) w g = run-good es (after_event w e) (happens-good w e g)

pub run-later : (es : List Event) (w : WorldState) → Good w → Later w (run es w)
run-later [] w g = later-same w
run-later (e ∷ es) w g =
    later-on w (after_event w e) (run es (after_event w e)) (happens-on w e g.sound g.fit).later (run-later es (after_event w e) (happens-good w e g))
