-- A client handles a frame of the hub.
use Rattle.std.proofs.Common.{◌≡◌, ◌⊎◌, inl, inr, ⊎_elim, ℕ, zero, suc, ◌+◌, ◌<◌, ◌≤◌, Bool, true, false, cond, not, ◌||◌, List, [], ◌∷◌, ◌++◌, length, filter, get_or, Some, refl, sym, ap, ◌∙◌, subst, arith}
use Rattle.std.specs.Prelude.{◌==◌, nat_lt, nat_le}
use Rattle.std.specs.List.{range_with_len}
use Rattle.std.specs.Bool.{⊤}
use Rattle.std.proofs.lemmas.Bool.{cases_Bool, cases_eq, and_parts, or_cases, or_left, or_right, not-true, eqb-true, le-leb}
use Rattle.wl_draft.specs.Membership.{In, Here, Later as Behind}
use Rattle.wl_draft.specs.Tables.{Rises}
use Rattle.wl_draft.proofs.Membership.{apart, either, by_test, In-nil, In-one, In-map, In-filter, In-append_cases, In-append_right}
use Rattle.wl_grammar.specs.declared.frame.Operation.TheVariants.{Query}
use Rattle.wl_grammar.specs.declared.frame.Answer.{Answer}
use Rattle.wl_grammar.specs.declared.frame.Heard.{Heard}
use Rattle.wl_grammar.specs.declared.frame.Hello.{Hello}
use Rattle.wl_grammar.specs.declared.frame.Snapshot.{Snapshot as Part}
use Rattle.wl_grammar.specs.declared.frame.Downward.{Downward}
use Rattle.wl_grammar.specs.declared.frame.Downward.TheVariants as down
use Rattle.wl_grammar.specs.declared.frame.Upward.TheVariants as up
use Rattle.wl_grammar.specs.declared.frame.Frame.{Frame}
use Rattle.wl_grammar.specs.declared.frame.Frame.TheVariants as frame
use Rattle.wl_agent.specs.declared.delivered.Delivered.{Delivered}
use Rattle.wl_agent.specs.declared.delivered.Delivered.TheVariants as heard
use Rattle.wl_agent.specs.declared.drop_reason.DropReason.TheVariants as unheard
use Rattle.wl_agent.specs.Tab.{TabState, born, status_of, report_bodies, report_frames, numbers_of, due, is_due, enter_first, enter_later, enter, report_of}
use Rattle.wl_agent.specs.Delivery.{has_entered, delivery}
use Rattle.wl_kernel.specs.Routes.{frame_of}
use Rattle.wl_limits.specs.declared.tabs.TheConstants.{COMMAND_LIMIT}
use Rattle.wl_tab.specs.Arrivals.{arrival}
use Rattle.wl_tab.specs.Tabs.{told}
use Rattle.wl_client.specs.declared.client.Unsent.TheVariants as unsent
use Rattle.wl_client.specs.Client.{ClientState, welcome_of, after_welcome, is_entering, after_told, is_hello_of, after_delivery, after_first}
use Rattle.wl_client.specs.Client.{after_frame as client_after_frame, advanced as client_advanced}
use Rattle.wl_world_messages.specs.declared.effect.Effect.{Effect}
use Rattle.wl_world_messages.specs.declared.message.Sender.{Sender}
use Rattle.wl_world_messages.specs.declared.message.Sender.TheVariants.{Kernel, Broker}
use Rattle.wl_world_messages.specs.declared.message.Message.{Message}
use Rattle.wl_world_messages.specs.declared.message.Message.TheVariants.{Across}
use Rattle.wl_world_messages.specs.Messages.{is_sent, sent_all}
use Rattle.wl_world_messages.proofs.Same.{sent_all-adds}
use Rattle.wl_world_model.specs.declared.event.Event.TheVariants as event
use Rattle.wl_world_model.specs.World.{WorldState, tab_of, lives, if_allowed, takes_frame, arrives, step_result, after_event, run}
use Rattle.wl_world_model.specs.Sends.{stamped, command_message, report_messages, report_if_entered, report_if_due, resent}
use Rattle.wl_world_model.proofs.exclusion.Invariant.{was_opened}
use Rattle.wl_world_model.proofs.exclusion.ActsWithinAGeneration.{after}
use Rattle.wl_world_model.proofs.exclusion.HeardNumbers.{LiveCommand, same-kept, told-kept, noted-kept, answer-kept, part-kept}
use Rattle.wl_library_model.specs.Library.{Library, Line, with_line, client_of, runs, calls}
use Rattle.wl_library_model.specs.Events.{delivers, delivery_events, handling_events, receiving_events}
use Rattle.wl_library_model.specs.Simulation.{is_awaited, IsSettled, IsRepeated, IsOnItsWayDown, AreLocksOf, IsLineOf, to_tab}
use Rattle.wl_library_model.proofs.SentAgain.{In-is_sent}
use Rattle.wl_library_model.proofs.Later.{GoesOn, Later, delivery-heard, told-heard}
use Rattle.wl_library_model.proofs.Happens.{Good, happens-on}
use Rattle.wl_library_model.proofs.Carried.{Sim, Known, HalfKnown, half-known, half-later, settled-later, stays-up, down-later, up-later}
use Rattle.wl_library_model.proofs.Links.{line-sim, runs-opened}
use Rattle.wl_library_model.proofs.Moves.{marked, locks-from, Moved, moved-none, moved-on, acts-moved, acts-bag, moved-sim}
use Rattle.wl_library_model.proofs.ChannelCalls.{KeepsAll, keeps_all-allowed, keeps_all-becomes, kept-moved, kept-sim}
use Rattle.wl_library_model.proofs.Blind.{after_frame, frame-locks, repeated-locks, same-locks, hello-late, hello-enters, hello-twice}

-- Deliveries in the world

deliver-down : (w : WorldState) (s : Sender) (t : ℕ) (x : Downward) → is_sent (to_tab s t x) w.bag ≡ true → lives w t ≡ true → after_event w (delivers s t x) ≡ after w (takes_frame w t (frame_of x))
unfolding after_event step_result
deliver-down w s t x y l = ap (λ b. after w (if_allowed b w (arrives w (to_tab s t x)))) y ∙ ap (λ b. after w (if_allowed b w (takes_frame w t (frame_of x)))) l

undelivered : (w : WorldState) (s : Sender) (t : ℕ) (x : Downward) → is_sent (to_tab s t x) w.bag ≡ false → after_event w (delivers s t x) ≡ w
unfolding after_event step_result
undelivered w s t x n = ap (λ b. after w (if_allowed b w (arrives w (to_tab s t x)))) n

-- The messages that a tab sends at a frame.
abbrev said : WorldState → ℕ → Downward → List Message
said w t x = let a = delivery (frame_of x) (tab_of w t) in report_if_entered w.kernel t a.0 a.1

deliver-moved : (w : WorldState) (s : Sender) (t : ℕ) (x : Downward) → Good w → is_sent (to_tab s t x) w.bag ≡ true → lives w t ≡ true → Moved w (after_event w (delivers s t x)) t (after_frame (frame_of x) (tab_of w t))
deliver-moved w s t x g y l = acts-moved w t (after_frame (frame_of x) (tab_of w t)) (said w t x) (delivers s t x) g (deliver-down w s t x y l)

undelivered-moved : (w : WorldState) (s : Sender) (t : ℕ) (x : Downward) → Good w → is_sent (to_tab s t x) w.bag ≡ false → Moved w (after_event w (delivers s t x)) t (tab_of w t)
undelivered-moved w s t x g n = subst (λ v. Moved w v t (tab_of w t)) (sym (undelivered w s t x n)) (moved-none w t g)

-- A tab that stays in its generation keeps its report and its commands in the bag.
kept-known : (w v : WorldState) (t : ℕ) (b : TabState) (G : ℕ → Type 0) → Good w → Later w v → was_opened w t ≡ true → LiveCommand (tab_of w t) b G → GoesOn (tab_of w t) b → Known w t (tab_of w t) → Known v t b
kept-known w v t b G g x o c goes k = record {
  commands = λ lt n l. ⊎_elim
      (λ i. inl (subst (λ z. In (stamped v.kernel t (up.Command (record { generation = z; number = n; operation = get_or b.issued n Query }))) v.bag) (sym c.entered)
      (subst (λ z. In (stamped v.kernel t (up.Command (record { generation = (tab_of w t).entered; number = n; operation = get_or z n Query }))) v.bag) (sym c.issued) (stays-up w v x t o _ i))))
      (λ r. inr (settled-later (tab_of w t) b n goes (g.fit.low t) c.entered r))
      (k.commands (subst (λ z. 0 < z) c.entered lt) n (subst (λ z. n < length z) c.issued l));
  report = λ lt u i. stays-up w v x t o u (k.report (subst (λ z. 0 < z) c.entered lt) u (subst (λ z. In u (report_bodies (tab_of w t).in_parts z)) c.report (subst (λ z. In u (report_bodies z b.report)) c.in_parts i)));
}

-- An answer or a part of a snapshot

answer-live : (x : Answer) (a : TabState) → Rises 0 a.statuses → LiveCommand a (after_frame (frame.Answer x) a) (λ j. ⊤)
unfolding delivery
answer-live x a r =
    either {A = TabState × Delivered} (λ z. LiveCommand a (told z.0) (λ j. ⊤)) (has_entered x.generation a) _ _
    (λ _. told-kept a _ (λ j. ⊤) (any a _ _ (noted-kept x.upto a _ _ (answer-kept x a r))))
    (λ _. told-kept a a (λ j. ⊤) (same-kept a (λ j. ⊤) r))
  where
    any : (a y : TabState) (G : ℕ → Type 0) → LiveCommand a y G → LiveCommand a y (λ j. ⊤)
    any a y G c = record { entered = c.entered; report = c.report; in_parts = c.in_parts; issued = c.issued; rises = c.rises; alive = c.alive; held = λ k h. inr tt }

part-live : (x : Part) (a : TabState) → Rises 0 a.statuses → LiveCommand a (after_frame (frame.Snapshot x) a) (λ j. ⊤)
unfolding delivery
part-live x a r =
    either {A = TabState × Delivered} (λ z. LiveCommand a (told z.0) (λ j. ⊤)) (has_entered x.generation a) _ _
    (λ _. told-kept a _ (λ j. ⊤) (noted-kept (x.number + 1) a _ (λ j. ⊤) (part-kept x a (λ j. ⊤) r)))
    (λ _. told-kept a a (λ j. ⊤) (same-kept a (λ j. ⊤) r))

frame-goes : (w : WorldState) (t : ℕ) (x : Downward) → Good w → GoesOn (tab_of w t) (after_frame (frame_of x) (tab_of w t))
frame-goes w t x g = (told-heard (tab_of w t) _ (delivery-heard (tab_of w t) (g.sound.tabs t).state.rises (g.fit.low t) x)).goes

-- A hello

-- The commands that the tab awaits are due.
pub awaited-due : (a : TabState) (k : ℕ) → is_awaited (status_of a k) ≡ true → is_due a k ≡ true
awaited-due a k y = ⊎_elim
    (λ p. or_left _ _ (or_right (nat_le a.acknowledged k) _ p))
    (λ p. or_right _ _ p)
    (or_cases _ _ y)

first-due : (g : ℕ) (a : TabState) (k : ℕ) → is_due (told (enter_first g a)) k ≡ true
unfolding told enter_first
first-due g a k = or_left _ _ (or_left _ _ (le-leb 0 k (omega arith)))

later-due : (g : ℕ) (a : TabState) (k : ℕ) → k < length a.issued → (is_due (told (enter_later g a)) k ≡ true) ⊎ IsSettled (told (enter_later g a)) k
unfolding told enter_later report_of
later-due g a k lt = ⊎_elim
    (λ y. inl (awaited-due (told (enter_later g a)) k y))
    (λ n. inr (record { reported = lt; over = n }))
    (cases_Bool (is_awaited (status_of (told (enter_later g a)) k)))

entered-due : (g : ℕ) (a : TabState) (k : ℕ) → k < length (told (enter g a)).issued → (is_due (told (enter g a)) k ≡ true) ⊎ IsSettled (told (enter g a)) k
unfolding told enter_first enter_later
entered-due g a k =
    either (λ z. k < length (told z).issued → (is_due (told z) k ≡ true) ⊎ IsSettled (told z) k) (a.entered == 0) (enter_first g a) (enter_later g a)
    (λ _ lt. inl (first-due g a k))
    (λ _ lt. later-due g a k lt)

told-report : (x : TabState) → ((told x).report ≡ x.report) × ((told x).in_parts ≡ x.in_parts)
unfolding told
told-report x = (refl, refl)

entering-said : (w : WorldState) (t : ℕ) (h : Hello) → nat_lt (tab_of w t).entered h.generation ≡ true → said w t (down.Hello h) ≡ report_messages w.kernel t (enter h.generation (tab_of w t))
unfolding delivery
entering-said w t h y = ap (λ b. let z : TabState × Delivered = cond b (enter h.generation (tab_of w t), heard.Entered (report_frames (enter h.generation (tab_of w t)))) (tab_of w t, heard.Dropped unheard.OldGeneration) in report_if_entered w.kernel t z.0 z.1) y

-- On entering, the report is sent, and each command is due or settled.
hello-half : (w : WorldState) (s : Sender) (t : ℕ) (h : Hello) → Good w → is_sent (to_tab s t (down.Hello h)) w.bag ≡ true → lives w t ≡ true → HalfKnown w t (tab_of w t)
    → HalfKnown (after_event w (delivers s t (down.Hello h))) t (after_frame (frame.Hello h) (tab_of w t))
hello-half w s t h g y l k =
    let v = after_event w (delivers s t (down.Hello h)) in
    let a = tab_of w t in
    ⊎_elim
    (λ e. subst (HalfKnown v t) (sym (hello-enters h a e)) (record {
      commands = λ lt n m. ⊎_elim (λ d. inl d) (λ r. inr (inr r)) (entered-due h.generation a n m);
      report = λ lt u i. subst (λ z. In (stamped z t u) v.bag) (sym (deliver-moved w s t (down.Hello h) g y l).kernel)
          (subst (λ z. In (stamped w.kernel t u) z.bag) (sym (deliver-down w s t (down.Hello h) y l))
          (acts-bag w t (after_frame (frame.Hello h) a) (said w t (down.Hello h)) (stamped w.kernel t u)
          (subst (In (stamped w.kernel t u)) (sym (entering-said w t h e))
          (In-map (stamped w.kernel t) (subst (λ z. In u (report_bodies (enter h.generation a).in_parts z)) (told-report (enter h.generation a)).0 (subst (λ z. In u (report_bodies z (told (enter h.generation a)).report)) (told-report (enter h.generation a)).1 i))))));
    }))
    (λ n. let same = hello-late h a n (g.fit.untold t) in
    let m = deliver-moved w s t (down.Hello h) g y l in
    subst (HalfKnown v t) m.tab (half-later w v g m.later t (m.tab ∙ same) k))
    (cases_Bool (nat_lt a.entered h.generation))

-- A hello that is delivered if it was sent.
record Greeted (w v : WorldState) (s : Sender) (t : ℕ) (h : Hello) : Type 0 where
  moved : Moved w v t (tab_of v t)
  half : HalfKnown w t (tab_of w t) → HalfKnown v t (tab_of v t)
  sent : is_sent (to_tab s t (down.Hello h)) w.bag ≡ true → tab_of v t ≡ after_frame (frame.Hello h) (tab_of w t)
  unsent : is_sent (to_tab s t (down.Hello h)) w.bag ≡ false → tab_of v t ≡ tab_of w t

moved-at : (w v : WorldState) (t : ℕ) (a : TabState) → Moved w v t a → Moved w v t (tab_of v t)
moved-at w v t a m = record { later = m.later; good = m.good; kernel = m.kernel; broker = m.broker; corrupt = m.corrupt; tab = refl; others = m.others }

greeted : (w : WorldState) (s : Sender) (t : ℕ) (h : Hello) → Good w → lives w t ≡ true → Greeted w (after_event w (delivers s t (down.Hello h))) s t h
greeted w s t h g l =
    let v = after_event w (delivers s t (down.Hello h)) in
    ⊎_elim
    (λ y. let m = deliver-moved w s t (down.Hello h) g y l in record {
      moved = moved-at w v t _ m;
      half = λ k. subst (HalfKnown v t) (sym m.tab) (hello-half w s t h g y l k);
      sent = λ _. m.tab;
      unsent = λ n. apart y n;
    })
    (λ n. let m = undelivered-moved w s t (down.Hello h) g n in record {
      moved = moved-at w v t _ m;
      half = half-later w v g m.later t m.tab;
      sent = λ y. apart y n;
      unsent = λ _. m.tab;
    })
    (cases_Bool (is_sent (to_tab s t (down.Hello h)) w.bag))

-- All that is due is sent again

resend-is : (w : WorldState) (t : ℕ) → lives w t ≡ true → after_event w (event.Resend t) ≡ record w { bag = sent_all (resent w.kernel t (tab_of w t)) w.bag }
unfolding after_event step_result
resend-is w t l = ap (λ b. after w (if_allowed b w (record { world = w; sends = resent w.kernel t (tab_of w t) }))) l

resend-keeps : (w : WorldState) (t : ℕ) → KeepsAll w (step_result w (event.Resend t))
unfolding step_result
resend-keeps w t = keeps_all-allowed w (lives w t) _ (record { tabs = refl; corrupt = refl; kernel = refl; broker = refl })

In-range : (from n k : ℕ) → from ≤ k → k < from + n → In k (range_with_len from n)
In-range from zero k le lt = absurd (omega arith)
In-range from (suc n) k le lt = ⊎_elim
    (λ e. subst (λ z. In z (range_with_len from (suc n))) e Here)
    (λ d. let more : from + 1 ≤ k = omega arith in Behind (In-range (from + 1) n k more (omega arith)))
    (cases_eq from k)

pub due-in : (a : TabState) (k : ℕ) → 0 < a.entered → k < length a.issued → is_due a k ≡ true → In k (due a)
unfolding due
due-in a k lt l d =
    either (In k) (a.entered == 0) [] (filter (is_due a) (numbers_of a))
    (λ e. absurd (let z : a.entered ≡ 0 = eqb-true a.entered 0 e in let p : 0 < a.entered = lt in omega arith))
    (λ _. In-filter (is_due a) (numbers_of a) (numbers-in a k l) d)
  where
    numbers-in : (a : TabState) (k : ℕ) → k < length a.issued → In k (numbers_of a)
    numbers-in a k l = In-range 0 (length a.issued) k (omega arith) (omega arith)

-- Afterwards the bag has each command that is not settled.
resend-known : (w : WorldState) (t : ℕ) → Good w → lives w t ≡ true → HalfKnown w t (tab_of w t) → Known (after_event w (event.Resend t)) t (tab_of w t)
resend-known w t g l k =
    let a = tab_of w t in
    let v = after_event w (event.Resend t) in
    let x = (happens-on w (event.Resend t) g.sound g.fit).later in
    let same = (kept-moved w t (event.Resend t) g (resend-keeps w t)).kernel in
    record {
      commands = λ lt n m. ⊎_elim
          (λ d. inl (subst (λ z. In (command_message z t a n) v.bag) (sym same) (subst (λ z. In (command_message w.kernel t a n) z.bag) (sym (resend-is w t l))
          (sent_all-adds (resent w.kernel t a) w.bag (In-append_right (report_if_due w.kernel t a) (In-map (command_message w.kernel t a) (due-in a n lt m d)))))))
          (λ r. ⊎_elim (λ i. inl (subst (λ z. In (command_message z t a n) v.bag) (sym same) (x.bag _ i))) (λ z. inr z) r)
          (k.commands lt n m);
      report = λ lt u i. subst (λ z. In (stamped z t u) v.bag) (sym same) (x.bag _ (k.report lt u i));
    }

-- The line of the client

-- The client after the frame, with locks that are the tab's.
told-line : (w v : WorldState) (t : ℕ) (x : Line) (e : Effect) (locks : TabState) → Good w → Later w v → x.client.is_welcomed ≡ true → AreLocksOf locks (tab_of v t) → IsLineOf w t x → IsLineOf v t (record x { client = after_told e locks x.client })
told-line w v t x e locks g later y is i = record {
  client = record { welcomed = λ _. is; unwelcomed = λ n. apart y n; unentered = λ n. apart y n };
  down = λ f j. down-later w v later t f (i.down f j);
  came = λ f j. down-later w v later t f (i.came f j);
  up = λ h f j. up-later w v g later t f (i.up (later.honest t h) f j);
  report = λ h f j. up-later w v g later t f (i.report (later.honest t h) f j);
  posts = λ h f j. ⊎_elim
      (λ a. up-later w v g later t f (i.posts (later.honest t h) f a))
      (λ a. absurd (none f a))
      (In-append_cases x.client.unsent (cond (is_entering e) (unsent.Resend ∷ []) []) j);
}
  where
    other : (f : Frame) → unsent.Post f ≡ unsent.Resend → ⊥
    other f e = cc

    none : (f : Frame) → In (unsent.Post f) (cond (is_entering e) (unsent.Resend ∷ []) []) → ⊥
    none f = either (λ zs. In (unsent.Post f) zs → ⊥) (is_entering e) (unsent.Resend ∷ []) [] (λ _ j. other f (In-one j)) (λ _ j. In-nil j)

module _ (l : Library) (w : WorldState) (t : ℕ) (s : Sim l w) (r : runs l t ≡ true) (y : (client_of l t).is_welcomed ≡ true) (x : Line) (welcomed : x.client.is_welcomed ≡ true) (i : IsLineOf w t x) where
  alive : lives w t ≡ true
  alive = subst (λ k. lives (record w { kernel = k }) t ≡ true) s.hub.kernel (and_parts _ _ r).0

  opened : was_opened w t ≡ true
  opened = runs-opened l w t s r

  locks : AreLocksOf x.client.locks (tab_of w t)
  locks = i.client.welcomed welcomed

  abbrev after_line : Frame → Line
  after_line f = record x { client = after_told (arrival f x.client.locks) (after_frame f x.client.locks) x.client }

  -- A message in the bag.
  taken-sim : (d : Downward) → is_sent (to_tab Broker t d) w.bag ≡ true → Known (after_event w (delivers Broker t d)) t (after_frame (frame_of d) (tab_of w t)) → Sim (with_line t (after_line (frame_of d)) l) (after_event w (delivers Broker t d))
  taken-sim d sent k =
      let v = after_event w (delivers Broker t d) in
      let m = deliver-moved w Broker t d s.good sent alive in
      moved-sim l w v t (after_frame (frame_of d) (tab_of w t)) (after_line (frame_of d)) s m
      (told-line w v t x (arrival (frame_of d) x.client.locks) (after_frame (frame_of d) x.client.locks) s.good m.later welcomed (subst (AreLocksOf (after_frame (frame_of d) x.client.locks)) (sym m.tab) (frame-locks d x.client.locks (tab_of w t) locks)) i)
      (subst (Known v t) (sym m.tab) k)

  later-of : (d : Downward) → Later w (after_event w (delivers Broker t d))
  later-of d = (happens-on w (delivers Broker t d) s.good.sound s.good.fit).later

  answer-sim : (a : Answer) → In (to_tab Broker t (down.Answer a)) w.bag ⊎ IsRepeated (tab_of w t) a → Sim (with_line t (after_line (frame.Answer a)) l) (after_event w (delivers Broker t (down.Answer a)))
  answer-sim a o = ⊎_elim
      (λ sent. taken-sim (down.Answer a) sent (kept-known w (after_event w (delivers Broker t (down.Answer a))) t (after_frame (frame.Answer a) (tab_of w t)) (λ j. ⊤) s.good (later-of (down.Answer a)) opened (answer-live a (tab_of w t) (s.good.sound.tabs t).state.rises) (frame-goes w t (down.Answer a) s.good) (s.known t)))
      (λ n. subst (Sim (with_line t (after_line (frame.Answer a)) l)) (sym (undelivered w Broker t (down.Answer a) n))
      (line-sim l w t (after_line (frame.Answer a)) s
      (told-line w w t x (arrival (frame.Answer a) x.client.locks) (after_frame (frame.Answer a) x.client.locks) s.good (moved-none w t s.good).later welcomed
      (⊎_elim (λ j. apart (In-is_sent j) n) (λ q. repeated-locks a x.client.locks (tab_of w t) (s.good.fit.untold t) q locks) o) i)))
      (cases_Bool (is_sent (to_tab Broker t (down.Answer a)) w.bag))

  snapshot-sim : (p : Part) → In (to_tab Broker t (down.Snapshot p)) w.bag → Sim (with_line t (after_line (frame.Snapshot p)) l) (after_event w (delivers Broker t (down.Snapshot p)))
  snapshot-sim p j =
      taken-sim (down.Snapshot p) (In-is_sent j) (kept-known w (after_event w (delivers Broker t (down.Snapshot p))) t (after_frame (frame.Snapshot p) (tab_of w t)) (λ j. ⊤) s.good (later-of (down.Snapshot p)) opened (part-live p (tab_of w t) (s.good.sound.tabs t).state.rises) (frame-goes w t (down.Snapshot p) s.good) (s.known t))

  abbrev v1 : Hello → WorldState
  v1 h = after_event w (delivers Kernel t (down.Hello h))

  abbrev v2 : Hello → WorldState
  v2 h = after_event (v1 h) (delivers Broker t (down.Hello h))

  abbrev v3 : Hello → WorldState
  v3 h = after_event (v2 h) (event.Resend t)

  g1 : (h : Hello) → Greeted w (v1 h) Kernel t h
  g1 h = greeted w Kernel t h s.good alive

  alive1 : (h : Hello) → lives (v1 h) t ≡ true
  alive1 h = subst (λ k. lives (record w { kernel = k }) t ≡ true) (sym (g1 h).moved.kernel) alive

  g2 : (h : Hello) → Greeted (v1 h) (v2 h) Broker t h
  g2 h = greeted (v1 h) Broker t h (g1 h).moved.good (alive1 h)

  alive2 : (h : Hello) → lives (v2 h) t ≡ true
  alive2 h = subst (λ k. lives (record w { kernel = k }) t ≡ true) (sym (g2 h).moved.kernel) (alive1 h)

  last : (h : Hello) → Moved (v2 h) (v3 h) t (tab_of (v2 h) t)
  last h = kept-moved (v2 h) t (event.Resend t) (g2 h).moved.good (resend-keeps (v2 h) t)

  -- The tab has handled the hello after the second delivery.
  handled-first : (h : Hello) → tab_of (v1 h) t ≡ after_frame (frame.Hello h) (tab_of w t) → tab_of (v2 h) t ≡ after_frame (frame.Hello h) (tab_of w t)
  handled-first h e = ⊎_elim
      (λ b. (g2 h).sent b ∙ (ap (after_frame (frame.Hello h)) e ∙ hello-twice h (tab_of w t) (s.good.fit.untold t)))
      (λ b. (g2 h).unsent b ∙ e)
      (cases_Bool (is_sent (to_tab Broker t (down.Hello h)) (v1 h).bag))

  handled : (h : Hello) → In (to_tab Kernel t (down.Hello h)) w.bag ⊎ In (to_tab Broker t (down.Hello h)) w.bag → tab_of (v2 h) t ≡ after_frame (frame.Hello h) (tab_of w t)
  handled h o = ⊎_elim
      (λ b. handled-first h ((g1 h).sent b))
      (λ b. ⊎_elim
      (λ j. apart (In-is_sent j) b)
      (λ j. (g2 h).sent (In-is_sent ((g1 h).moved.later.bag _ j)) ∙ ap (after_frame (frame.Hello h)) ((g1 h).unsent b))
      o)
      (cases_Bool (is_sent (to_tab Kernel t (down.Hello h)) w.bag))

  -- The hello was sent by the kernel or by the broker, or by both.
  hello-sim : (h : Hello) → In (to_tab Kernel t (down.Hello h)) w.bag ⊎ In (to_tab Broker t (down.Hello h)) w.bag → Sim (with_line t (after_line (frame.Hello h)) l) (v3 h)
  hello-sim h o =
      let d = after_frame (frame.Hello h) (tab_of w t) in
      let m = subst (Moved w (v3 h) t) (handled h o) (moved-on w (v2 h) (v3 h) t (tab_of (v2 h) t) (tab_of (v2 h) t) (moved-on w (v1 h) (v2 h) t (tab_of (v1 h) t) (tab_of (v2 h) t) (g1 h).moved (g2 h).moved) (last h)) in
      moved-sim l w (v3 h) t d (after_line (frame.Hello h)) s m
      (told-line w (v3 h) t x (arrival (frame.Hello h) x.client.locks) (after_frame (frame.Hello h) x.client.locks) s.good m.later welcomed (subst (AreLocksOf (after_frame (frame.Hello h) x.client.locks)) (sym m.tab) (frame-locks (down.Hello h) x.client.locks (tab_of w t) locks)) i)
      (subst (Known (v3 h) t) (sym (last h).tab) (resend-known (v2 h) t (g2 h).moved.good (alive2 h) ((g2 h).half ((g1 h).half (half-known w t (tab_of w t) (s.known t))))))

  -- A frame of another kind.
  other-sim : (f : Frame) → delivery f x.client.locks ≡ (x.client.locks, heard.Dropped unheard.WrongKind) → Sim (with_line t (after_line f) l) w
  other-sim f e =
      line-sim l w t (after_line f) s
      (told-line w w t x (arrival f x.client.locks) (after_frame f x.client.locks) s.good (moved-none w t s.good).later welcomed
      (subst (λ (z : TabState × Delivered). AreLocksOf (told z.0) (tab_of w t)) (sym e) (same-locks x.client.locks (tab_of w t) (s.good.fit.untold t) locks)) i)

  heard-line : (h : Heard) → IsLineOf w t (record x { client = after_delivery (frame.Heard h) x.client })
  heard-line h =
      let c = i.client in
      record {
        client = record { welcomed = c.welcomed; unwelcomed = c.unwelcomed; unentered = c.unentered };
        down = i.down;
        came = i.came;
        up = i.up;
        report = i.report;
        posts = i.posts;
      }

  heard-keeps : (h : Heard) → KeepsAll w (step_result w (event.Deliver (Across t h)))
  unfolding step_result
  heard-keeps h = keeps_all-allowed w _ _ (keeps_all-allowed w (lives w t) _ (keeps_all-becomes w t _ _))

  wrong-kind : (a : TabState) → TabState × Delivered
  wrong-kind a = (a, heard.Dropped unheard.WrongKind)

  handled-sim : (f : Frame) → IsOnItsWayDown w t f → Sim (with_line t (record x { client = after_delivery f x.client }) l) (run (delivery_events t f) w)
  unfolding delivery
  handled-sim f (inl dead) = apart alive (not-true _ (and_parts _ _ dead).1)
  handled-sim (frame.Hello h) (inr c) = hello-sim h c
  handled-sim (frame.Answer a) (inr c) = answer-sim a (⊎_elim (λ j. inl j) (λ q. inr q.1) c)
  handled-sim (frame.Snapshot p) (inr c) = snapshot-sim p c
  handled-sim (frame.Heard h) (inr c) = kept-sim l w t (event.Deliver (Across t h)) (record x { client = after_delivery (frame.Heard h) x.client }) s (heard-keeps h) (heard-line h)
  handled-sim (frame.Welcome a) (inr c) = other-sim (frame.Welcome a) refl
  handled-sim (frame.PairWelcome a) (inr c) = other-sim (frame.PairWelcome a) refl
  handled-sim f (inr c) = absurd c

-- The oldest frame

module _ (l : Library) (w : WorldState) (t : ℕ) (s : Sim l w) (r : runs l t ≡ true) where
  abbrev c : ClientState
  c = client_of l t

  still_alive : lives w t ≡ true
  still_alive = subst (λ k. lives (record w { kernel = k }) t ≡ true) s.hub.kernel (and_parts _ _ r).0

  -- The line without the oldest arrived frame.
  rest-line : (f : Frame) (fs : List Frame) → c.arrived ≡ f ∷ fs → IsLineOf w t (record (l.lines t) { client = record c { arrived = fs } })
  rest-line f fs e =
      let i = s.lines t in
      let k = i.client in
      record {
        client = record { welcomed = k.welcomed; unwelcomed = k.unwelcomed; unentered = k.unentered };
        down = i.down;
        came = λ g j. i.came g (subst (In g) (sym e) (Behind j));
        up = i.up;
        report = i.report;
        posts = i.posts;
      }

  welcomed-line : (x : Line) (n : ℕ) (b : Bool) → n ≡ t → (tab_of w t).in_parts ≡ b → x.client.is_welcomed ≡ false → IsLineOf w t x → IsLineOf w t (record x { client = after_welcome (Some (n, b)) x.client })
  welcomed-line x n b e p u i = record {
    client = record {
      welcomed = λ _. locks-from (born b n COMMAND_LIMIT) (tab_of w t) 0 false (ap (marked 0 false) (sym (i.client.unwelcomed u ∙ (ap (λ z. born z t COMMAND_LIMIT) p ∙ ap (λ z. born b z COMMAND_LIMIT) (sym e)))));
      unwelcomed = λ z. apart refl z;
      unentered = λ z. apart refl z;
    };
    down = i.down;
    came = i.came;
    up = i.up;
    report = i.report;
    posts = i.posts;
  }

  welcome-line : (f : Frame) (x : Line) → IsOnItsWayDown w t f → x.client.is_welcomed ≡ false → IsLineOf w t x → IsLineOf w t (record x { client = after_welcome (welcome_of f) x.client })
  welcome-line f x (inl dead) u i = apart still_alive (not-true _ (and_parts _ _ dead).1)
  welcome-line (frame.Welcome a) x (inr o) u i = welcomed-line x a.tab false o.1 o.2 u i
  welcome-line (frame.PairWelcome a) x (inr o) u i = welcomed-line x a.tab true o.1 o.2 u i
  welcome-line f x (inr o) u i = i

  resent-line : (x : Line) → IsLineOf w t x → IsLineOf w t (record x { client = record x.client { unsent = x.client.unsent ++ unsent.Resend ∷ [] } })
  resent-line x i =
      let k = i.client in
      record {
        client = record { welcomed = k.welcomed; unwelcomed = k.unwelcomed; unentered = k.unentered };
        down = i.down;
        came = i.came;
        up = i.up;
        report = i.report;
        posts = λ h f j. ⊎_elim (λ a. i.posts h f a) (λ a. absurd (other f (In-one a))) (In-append_cases x.client.unsent (unsent.Resend ∷ []) j);
      }
    where
      other : (f : Frame) → unsent.Post f ≡ unsent.Resend → ⊥
      other f e = cc

  frame-sim : (f : Frame) (fs : List Frame) → c.arrived ≡ f ∷ fs → c.is_welcomed ≡ true
      → Sim (with_line t (record (l.lines t) { client = client_after_frame f (record c { arrived = fs }) }) l) (run (cond (is_hello_of c.locks.entered f) [] (delivery_events t f)) w)
  frame-sim f fs e y =
      let x = record (l.lines t) { client = record c { arrived = fs } } in
      by_test (λ b. Sim (with_line t (record x { client = cond b (record x.client { unsent = c.unsent ++ unsent.Resend ∷ [] }) (after_delivery f x.client) }) l) (run (cond b [] (delivery_events t f)) w)) (is_hello_of c.locks.entered f)
      (λ _. line-sim l w t _ s (resent-line x (rest-line f fs e)))
      (λ _. handled-sim l w t s r y x y (rest-line f fs e) f ((s.lines t).came f (subst (In f) (sym e) Here)))

  oldest-sim : (fs : List Frame) → c.arrived ≡ fs → Sim (with_line t (record (l.lines t) { client = after_first fs c }) l) (run (handling_events t c fs) w)
  oldest-sim [] e = line-sim l w t (l.lines t) s (s.lines t)
  oldest-sim (f ∷ fs) e =
      let x = record (l.lines t) { client = record c { arrived = fs } } in
      by_test (λ b. c.is_welcomed ≡ b → Sim (with_line t (record x { client = cond b (client_after_frame f x.client) (after_welcome (welcome_of f) x.client) }) l) (run (cond (not b || is_hello_of c.locks.entered f) [] (delivery_events t f)) w)) c.is_welcomed
      (λ _ y. frame-sim f fs e y)
      (λ _ n. line-sim l w t _ s (welcome-line f x ((s.lines t).came f (subst (In f) (sym e) Here)) n (rest-line f fs e)))
      refl

pub client_advances-sim : (l : Library) (w : WorldState) (t : ℕ) → Sim l w → Sim (calls t client_advanced l) (run (receiving_events l t) w)
client_advances-sim l w t s =
    let c = client_of l t in
    by_test (λ b. Sim (cond b (with_line t (record (l.lines t) { client = after_first c.arrived c }) l) l) (run (cond b (handling_events t c c.arrived) []) w)) (runs l t)
    (λ r. oldest-sim l w t s r c.arrived refl)
    (λ _. s)
