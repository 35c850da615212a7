-- A client sends the oldest of what it has to send: the step keeps the invariant.
use Rattle.std.proofs.Common.{◌≡◌, inl, inr, ⊎_elim, ℕ, ◌<◌, ◌≤◌, true, false, not, ◌&&◌, cond, List, [], ◌∷◌, ◌++◌, length, map, Option, Some, None, refl, sym, ap, ap₂, ◌∙◌, subst, arith, append_assoc, append-nil}
use Rattle.std.specs.Prelude.{◌==◌, if◌then◌else◌}
use Rattle.std.specs.List.{list_any}
use Rattle.std.proofs.lemmas.Bool.{cases_Bool, ne_eqb, eqb-true, and_parts, not-true, ltb-false}
use Rattle.std.proofs.lemmas.List.{map-append}
use Rattle.wl_draft.specs.Membership.{In, Here}
use Rattle.wl_draft.proofs.Membership.{either, In-append_cases, In-append_left, In-append_right, In-map, In-nil, In-cons_cases, In-map_cases}
use Rattle.wl_grammar.specs.declared.frame.Frame.{Frame}
use Rattle.wl_grammar.specs.declared.frame.Frame.TheVariants as frame
use Rattle.wl_grammar.specs.declared.frame.Post.{Post}
use Rattle.wl_grammar.specs.declared.frame.Upward.{Upward}
use Rattle.wl_grammar.specs.declared.frame.Upward.TheVariants as up
use Rattle.wl_grammar.specs.Generation.{generation_of}
use Rattle.wl_broker_reports.specs.ReportParts.{Partial, Told, at_once, in_part, content_of, is_whole}
use Rattle.wl_broker.specs.Broker.{BrokerState, seat_of, partial_of, is_joined, next_of}
use Rattle.wl_agent.specs.declared.fault.MessageFault.{MessageFault}
use Rattle.wl_agent.specs.declared.fault.MessageFault.TheVariants.{NotEntered, NoSuchNumber}
use Rattle.wl_agent.specs.Tab.{TabState, is_report_due, is_issued, due, report_frames, command_frame, message_refusal}
use Rattle.wl_client.specs.declared.client.Unsent.{Unsent}
use Rattle.wl_client.specs.declared.client.Unsent.TheVariants as unsent
use Rattle.wl_client.specs.Client.{ClientState}
use Rattle.wl_world_model.specs.World.{WorldState, tab_of}
use Rattle.wl_world_model.specs.Holdings.{IsHonest as IsHonestIn}
use Rattle.wl_world_model.proofs.exclusion.Invariant.{broker_of, broker_in, up_message}
use Rattle.wl_world_model.proofs.exclusion.ToldParts.{HasParts, IsPartOf, body-told}
use Rattle.wl_library_model.specs.Library.{Library, Line, ClientSends, client_of, lives, is_taken, runs, with_line, Sending, unless_refused, sending_item, sending_due, sending_report, sending, followed_by, step}
use Rattle.wl_library_model.specs.Simulation.{AreLocksOf, IsOnItsWayUp, IsRepeat}
use Rattle.wl_library_model.proofs.Carried.{Sim}
use Rattle.wl_library_model.proofs.Arrivals.{due-in, awaited-due}
use Rattle.wl_quiescence.proofs.rest.Invariant.{Seen, Item, Tells, Says, Again, Nothing, View, view, item_of, item_of_unsent, items_of, after_items, arrived_of, seen, Serves, IsResting}
use Rattle.wl_quiescence.proofs.rest.Broker.{seen-at, away-seen}
use Rattle.wl_quiescence.proofs.rest.Steps.{HoldsOf, line-rests}
use Rattle.wl_quiescence.proofs.client.Items.{sending_view, Conveys, sent-serves, conveys-same, frame-item, command-item, drops-item, In-dropped}
use Rattle.wl_quiescence.proofs.client.Again.{Reaching, Fine, items-reaching, again-reaching, sent-reaching, again-list}

-- What is sent again stands for the request to send it

module _ (v : View) (t : ℕ) (b : BrokerState) (xs : List Unsent) where
  abbrev a : TabState
  a = v.client.locks

  abbrev again_view : View
  again_view = sending_view v v.up (if is_report_due a then report_frames a else []) (due a) xs

  abbrev came : List Item
  came = map (item_of b.generation) v.up

  abbrev ending : List Item → Seen → Seen
  ending = after_items v.place (is_report_due a) (length a.issued)

  was-items : v.client.report ≡ [] → v.client.due ≡ [] → v.client.unsent ≡ unsent.Resend ∷ xs → items_of b.generation v ≡ came ++ Again ∷ map item_of_unsent xs
  was-items r d u =
      ap (λ z. map (item_of b.generation) (v.up ++ z) ++ (map Says v.client.due ++ map item_of_unsent v.client.unsent)) r
      ∙ (ap (λ z. map (item_of b.generation) z ++ (map Says v.client.due ++ map item_of_unsent v.client.unsent)) (append-nil v.up)
      ∙ ap₂ (λ y z. came ++ (map Says y ++ map item_of_unsent z)) d u)

  now-items : items_of b.generation again_view ≡ (came ++ map (item_of b.generation) again_view.client.report) ++ (map Says (due a) ++ map item_of_unsent xs)
  now-items = ap (λ z. z ++ (map Says (due a) ++ map item_of_unsent xs)) (map-append (item_of b.generation) v.up again_view.client.report)

  pub conveys-again : v.client.report ≡ [] → v.client.due ≡ [] → v.client.unsent ≡ unsent.Resend ∷ xs → 0 < a.entered → a.report.generation ≡ b.generation
      → Reaching a (ending came (seen b t)) → Conveys v again_view t b
  conveys-again r d u pos own reach = record {
    arrives = λ x.
        ap (λ z. ending z (seen b t)) now-items
        ∙ again-list v.place (is_report_due a) (length a.issued) came (map (item_of b.generation) again_view.client.report) (map Says (due a)) (map item_of_unsent xs) (seen b t)
        (sent-reaching v.place b.generation a (ending came (seen b t)) (ne_eqb a.entered 0 (λ e. omega (arith, pos, e))) own reach)
        (again-reaching v.place a (ending came (seen b t)) reach)
        (ap (λ z. ending z (seen b t)) (sym (was-items r d u)) ∙ x);
    says = λ k n lt w _.
        let le : next_of b t ≤ length a.issued = k.issued in
        inr (subst (In (Says n)) (sym now-items)
        (In-append_right (came ++ map (item_of b.generation) again_view.client.report)
        (In-append_left (map item_of_unsent xs) (In-map Says (due-in a n pos (omega arith) (awaited-due a n w))))));
  }

-- Premises of the step, which other invariants give

-- The parts that the broker keeps of a report are not all.
abbrev pub NoneWhole : BrokerState → ℕ → Type 0
NoneWhole b t = (k : Partial) → partial_of b t ≡ Some k → is_whole k ≡ false

-- The posts that a client has still to send are posts.
abbrev pub ArePosts : ClientState → Type 0
ArePosts c = (f : Frame) → In (unsent.Post f) c.unsent → (x : Post) × (f ≡ frame.Post x)

later-resend : (us : List Unsent) (u : Unsent) → (unsent.Resend ≡ u → In unsent.Resend us) → In unsent.Resend (u ∷ us) → In unsent.Resend us
later-resend us u d i = ⊎_elim d (λ j. j) (In-cons_cases i)

some-broker : (b c : BrokerState) → Some b ≡ Some c → b ≡ c
some-broker b c e = cc

-- A tab that has entered the generation of the broker that is up

module _ (l : Library) (w : WorldState) (t : ℕ) (s : Sim l w) (run : runs l t ≡ true) (b : BrokerState) (is_up : l.hub.supervised.broker ≡ Some b) (e : (client_of l t).locks.entered ≡ b.generation) where
  abbrev client : ClientState
  client = client_of l t

  honest : IsHonestIn w t
  honest = subst (λ zs. list_any (λ u. u == t) zs ≡ false) s.taken (not-true _ (and_parts (lives l t) (not (is_taken l t)) run).1)

  broker : broker_of w ≡ b
  broker = ap (broker_in w.kernel.generation) (sym s.hub.broker ∙ is_up)

  current : b.generation ≡ w.kernel.generation
  current = sym (ap (λ z. z.generation) broker) ∙ s.good.sound.current

  pub entered-positive : 0 < client.locks.entered
  entered-positive = let p : 0 < w.kernel.generation = s.good.sound.positive in let c = current in omega (arith, p, c, e)

  locks : AreLocksOf client.locks (tab_of w t)
  locks = (s.lines t).client.welcomed (⊎_elim (λ y. y) (λ n. absurd (let z = (s.lines t).client.unentered n in let p = entered-positive in omega (arith, z, p))) (cases_Bool client.is_welcomed))

  tab-entered : (tab_of w t).entered ≡ b.generation
  tab-entered = sym (ap (λ (z : TabState). z.entered) locks) ∙ e

  pub own-report : client.locks.report.generation ≡ b.generation
  own-report = ap (λ (z : TabState). z.report.generation) locks ∙ ((s.good.sound.tabs t).state.own ∙ tab-entered)

  said : (p : ℕ) (u : Upward) (y : Told) → content_of u ≡ Some y → In (up_message t p u) w.bag → generation_of u ≡ b.generation → IsPartOf (tab_of w t).in_parts (tab_of w t).report y
  said p u y c i g = (body-told (tab_of w t).in_parts (tab_of w t).report u y (((((s.good.sound.messages t).reports p u y c i).2) honest).2 (g ∙ sym tab-entered)) c).1

  -- The tab's state, but for what the client has heard of.
  abbrev heard : TabState
  heard = record (tab_of w t) { acknowledged = client.locks.acknowledged; answered = client.locks.answered }

  fine-heard : (f : Frame) → IsOnItsWayUp w t f → Fine heard (item_of b.generation f)
  fine-heard (frame.Command c) o =
      either (Fine heard) (c.generation == b.generation) (Says c.number) Nothing
      (λ y. ⊎_elim
      (λ i. (((s.good.sound.messages t).commands _ c i).2 honest).0)
      (λ (r : IsRepeat (tab_of w t) c). let lt : c.number < (tab_of w t).report.base = (r.settled (eqb-true _ _ y ∙ sym tab-entered)).reported in let le : (tab_of w t).report.base ≤ length (tab_of w t).issued = s.good.fit.low t in omega arith)
      o.1)
      (λ _. tt)
  fine-heard (frame.Report r) o = either (Fine heard) (r.generation == b.generation) (Tells (at_once r)) Nothing (λ y. said _ (up.Report r) (at_once r) refl o.1 (eqb-true _ _ y)) (λ _. tt)
  fine-heard (frame.ReportPart r) o = either (Fine heard) (r.generation == b.generation) (Tells (in_part r)) Nothing (λ y. said _ (up.ReportPart r) (in_part r) refl o.1 (eqb-true _ _ y)) (λ _. tt)
  fine-heard f o = tt

  fine-up : (f : Frame) → In f (view l t).up → IsOnItsWayUp w t f
  fine-up f i = ⊎_elim
      (either (λ zs. In f zs → IsOnItsWayUp w t f) (l.hub.sender == t) l.hub.arrived []
      (λ y j. let same = eqb-true l.hub.sender t y in subst (λ z. IsOnItsWayUp w z f) same (s.hub.arrived (subst (IsHonestIn w) (sym same) honest) f j))
      (λ _ j. absurd (In-nil j)))
      (λ j. (s.lines t).up honest f j)
      (In-append_cases (arrived_of l.hub t) (l.lines t).up i)

  fine-items : (fs : List Frame) → ((f : Frame) → In f fs → IsOnItsWayUp w t f) → (i : Item) → In i (map (item_of b.generation) fs) → Fine client.locks i
  fine-items fs g i j =
      let o = In-map_cases (item_of b.generation) fs j in
      subst (Fine client.locks) (sym o.2) (subst (λ z. Fine z (item_of b.generation o.0)) (sym locks) (fine-heard o.0 (g o.0 o.1)))

  pub own-parts : (k : Partial) → partial_of b t ≡ Some k → HasParts client.locks.in_parts client.locks.report k
  own-parts k p = subst (λ z. HasParts z.in_parts z.report k) (sym locks) ((((s.good.sound.seats t).partial k (ap (λ (z : BrokerState). partial_of z t) broker ∙ p)).1 honest).1)

  pub own-low : client.locks.report.base ≤ length client.locks.issued
  own-low = subst (λ z. z.report.base ≤ length z.issued) (sym locks) (s.good.fit.low t)

  -- What the broker will have once the frames on their way are handled.
  pub up-reaching : NoneWhole b t → Serves (view l t) t b → Reaching client.locks (after_items (view l t).place (is_report_due client.locks) (length client.locks.issued) (map (item_of b.generation) (view l t).up) (seen b t))
  up-reaching none x =
      items-reaching (view l t).place client.locks (map (item_of b.generation) (view l t).up) (seen b t) (fine-items (view l t).up fine-up)
      (⊎_elim
      (λ j. let k = x.kept j in subst (Reaching client.locks) (sym (seen-at b t j)) (k.acknowledged, k.issued))
      (λ j. let r = x.reported e j in subst (Reaching client.locks) (sym (away-seen b t j)) (record {
        due = ap₂ (λ y z. not y && not z) (ne_eqb client.locks.entered 0 (λ z. let p = entered-positive in omega (arith, z, p))) r.answered;
        acknowledged = r.acknowledged;
        low = own-low;
        pending = λ k p. (own-parts k p, none k p);
      }))
      (cases_Bool (is_joined (seat_of b t))))

-- The line after a frame was sent

module _ (l : Library) (w : WorldState) (t : ℕ) (s : Sim l w) (x : IsResting l) (run : runs l t ≡ true) where
  abbrev sender : ClientState
  sender = client_of l t

  abbrev sent_line : List Frame → List Frame → List ℕ → List Unsent → Line
  sent_line fs rs ks xs = record (l.lines t) { client = record sender { report = rs; due = ks; unsent = xs }; up = fs }

  built : (fs us rs : List Frame) (ks : List ℕ) (xs : List Unsent) → arrived_of l.hub t ++ fs ≡ us
      → ((b : BrokerState) → l.hub.supervised.broker ≡ Some b → sender.locks.entered ≡ b.generation → Serves (view l t) t b → Conveys (view l t) (sending_view (view l t) us rs ks xs) t b)
      → HoldsOf l.hub t (sent_line fs rs ks xs)
  built fs us rs ks xs e c = record {
    fresh = let f = x.fresh t run in record { welcome = f.welcome; past = f.past; entered = f.entered };
    serves = λ b u. subst (λ z. Serves (sending_view (view l t) z rs ks xs) t b) (sym e) (sent-serves (view l t) us rs ks xs t b (c b u) (x.serving b t u run));
  }

  more : (f : Frame) → arrived_of l.hub t ++ ((l.lines t).up ++ f ∷ []) ≡ (view l t).up ++ f ∷ []
  more f = sym (append_assoc (arrived_of l.hub t) (l.lines t).up (f ∷ []))

  abbrev behind : List ℕ → List Unsent → List Item
  behind ks xs = map Says ks ++ map item_of_unsent xs

  -- A frame is sent in place of its item.
  item-sent : (f : Frame) (i : Item) (ks : List ℕ) (xs : List Unsent) → sender.report ≡ []
      → ((b : BrokerState) → l.hub.supervised.broker ≡ Some b → sender.locks.entered ≡ b.generation → item_of b.generation f ≡ i)
      → ((g : ℕ) → items_of g (view l t) ≡ map (item_of g) ((view l t).up ++ []) ++ i ∷ behind ks xs)
      → (In unsent.Resend sender.unsent → In unsent.Resend xs) → HoldsOf l.hub t (sent_line ((l.lines t).up ++ f ∷ []) sender.report ks xs)
  item-sent f i ks xs r is all again =
      built ((l.lines t).up ++ f ∷ []) ((view l t).up ++ f ∷ []) sender.report ks xs (more f)
      (λ b u e _. conveys-same (view l t) ((view l t).up ++ f ∷ []) sender.report ks xs t b
      (ap (λ z. map (item_of b.generation) (((view l t).up ++ f ∷ []) ++ z) ++ behind ks xs) r
      ∙ (frame-item b.generation (view l t).up f i (behind ks xs) (is b u e) ∙ sym (all b.generation)))
      again)

  -- A number that was not issued is left out.
  item-dropped : (k : ℕ) (ks : List ℕ) (xs : List Unsent) → sender.report ≡ []
      → ((b : BrokerState) → l.hub.supervised.broker ≡ Some b → sender.locks.entered ≡ b.generation → length sender.locks.issued ≤ k)
      → ((g : ℕ) → items_of g (view l t) ≡ map (item_of g) ((view l t).up ++ []) ++ Says k ∷ behind ks xs)
      → (In unsent.Resend sender.unsent → In unsent.Resend xs) → HoldsOf l.hub t (sent_line (l.lines t).up sender.report ks xs)
  item-dropped k ks xs r low all again =
      built (l.lines t).up (view l t).up sender.report ks xs refl
      (λ b u e _.
      let now : items_of b.generation (sending_view (view l t) (view l t).up sender.report ks xs) ≡ map (item_of b.generation) ((view l t).up ++ []) ++ behind ks xs =
      ap (λ z. map (item_of b.generation) ((view l t).up ++ z) ++ behind ks xs) r in
      record {
        arrives = λ a.
            ap (λ z. after_items (view l t).place (is_report_due sender.locks) (length sender.locks.issued) z (seen b t)) now
            ∙ drops-item (view l t).place (is_report_due sender.locks) (length sender.locks.issued) k (map (item_of b.generation) ((view l t).up ++ [])) (behind ks xs) (seen b t) (low b u e)
            (ap (λ z. after_items (view l t).place (is_report_due sender.locks) (length sender.locks.issued) z (seen b t)) (sym (all b.generation)) ∙ a);
        says = λ h n lt wait o. ⊎_elim
            (λ i. inl (again i))
            (λ i. let top = low b u e in let most : next_of b t ≤ length sender.locks.issued = h.issued in
            inr (subst (In (Says n)) (sym now) (In-dropped n k (map (item_of b.generation) ((view l t).up ++ [])) (behind ks xs) (omega (arith, top, most, lt)) (subst (In (Says n)) (all b.generation) i))))
            o;
      })

  -- A command is sent, or left out if it may not be sent.
  command-sent : (k : ℕ) (ks : List ℕ) (xs : List Unsent) → sender.report ≡ []
      → ((g : ℕ) → items_of g (view l t) ≡ map (item_of g) ((view l t).up ++ []) ++ Says k ∷ behind ks xs)
      → (In unsent.Resend sender.unsent → In unsent.Resend xs)
      → HoldsOf l.hub t (sent_line (followed_by (l.lines t).up (unless_refused (message_refusal sender.locks k) (command_frame sender.locks k))) sender.report ks xs)
  command-sent k ks xs r all again =
      let f = command_frame sender.locks k in
      let P : Option MessageFault → Type 0 = λ o. HoldsOf l.hub t (sent_line (followed_by (l.lines t).up (unless_refused o f)) sender.report ks xs) in
      either P (sender.locks.entered == 0) (Some NotEntered) (cond (is_issued sender.locks k) None (Some NoSuchNumber))
      (λ z. item-dropped k ks xs r (λ b u e. absurd (let p = entered-positive l w t s run b u e in let y = eqb-true sender.locks.entered 0 z in omega (arith, p, y))) all again)
      (λ _. either P (is_issued sender.locks k) None (Some NoSuchNumber)
      (λ _. item-sent f (Says k) ks xs r (λ b u e. command-item b.generation sender.locks k e) all again)
      (λ n. item-dropped k ks xs r (λ b u e. ltb-false k (length sender.locks.issued) n) all again))

  -- The client prepares its report and what is due.
  again-sent : (xs : List Unsent) → ((b : BrokerState) → l.hub.supervised.broker ≡ Some b → NoneWhole b t) → sender.report ≡ [] → sender.due ≡ [] → sender.unsent ≡ unsent.Resend ∷ xs
      → HoldsOf l.hub t (sent_line (l.lines t).up (if is_report_due sender.locks then report_frames sender.locks else []) (due sender.locks) xs)
  again-sent xs parts r d u =
      built (l.lines t).up (view l t).up (if is_report_due sender.locks then report_frames sender.locks else []) (due sender.locks) xs refl
      (λ b is e h. conveys-again (view l t) t b xs r d u (entered-positive l w t s run b is e) (own-report l w t s run b is e) (up-reaching l w t s run b is e (parts b is) h))

  abbrev line_of : Sending → Line
  line_of z = record (l.lines t) { client = z.client; up = followed_by (l.lines t).up z.frame }

  module _ (parts : (b : BrokerState) → l.hub.supervised.broker ≡ Some b → NoneWhole b t) (posts : ArePosts sender) where
    item-line : (us : List Unsent) → sender.report ≡ [] → sender.due ≡ [] → sender.unsent ≡ us → HoldsOf l.hub t (line_of (sending_item us sender))
    item-line [] r d u = record { fresh = x.fresh t run; serves = λ b is. x.serving b t is run }
    item-line (unsent.Resend ∷ us) r d u = again-sent us parts r d u
    item-line (unsent.Command k ∷ us) r d u =
        command-sent k sender.due us r
        (λ g. ap₂ (λ y z. map (item_of g) ((view l t).up ++ y) ++ z) r (ap₂ (λ y z. map Says y ++ map item_of_unsent z) d u ∙ ap (λ y. Says k ∷ (map Says y ++ map item_of_unsent us)) (sym d)))
        (λ i. later-resend us (unsent.Command k) (λ e. absurd (other k e)) (subst (In unsent.Resend) u i))
      where
        other : (k : ℕ) → unsent.Resend ≡ unsent.Command k → ⊥
        other k e = cc
    item-line (unsent.Post f ∷ us) r d u =
        item-sent f Nothing sender.due us r
        (λ b is e. let o = posts f (subst (In (unsent.Post f)) (sym u) Here) in ap (item_of b.generation) o.1)
        (λ g. ap₂ (λ y z. map (item_of g) ((view l t).up ++ y) ++ z) r (ap₂ (λ y z. map Says y ++ map item_of_unsent z) d u ∙ ap (λ y. Nothing ∷ (map Says y ++ map item_of_unsent us)) (sym d)))
        (λ i. later-resend us (unsent.Post f) (λ e. absurd (other f e)) (subst (In unsent.Resend) u i))
      where
        other : (f : Frame) → unsent.Resend ≡ unsent.Post f → ⊥
        other f e = cc

    due-line : (ks : List ℕ) → sender.report ≡ [] → sender.due ≡ ks → HoldsOf l.hub t (line_of (sending_due ks sender))
    due-line [] r d = item-line sender.unsent r d refl
    due-line (k ∷ ks) r d =
        command-sent k ks sender.unsent r
        (λ g. ap₂ (λ y z. map (item_of g) ((view l t).up ++ y) ++ (map Says z ++ map item_of_unsent sender.unsent)) r d)
        (λ i. i)

    report-line : (fs : List Frame) → sender.report ≡ fs → HoldsOf l.hub t (line_of (sending_report fs sender))
    report-line [] r = due-line sender.due r refl
    report-line (f ∷ fs) r =
        built ((l.lines t).up ++ f ∷ []) ((view l t).up ++ f ∷ []) fs sender.due sender.unsent (more f)
        (λ b is e _. conveys-same (view l t) ((view l t).up ++ f ∷ []) fs sender.due sender.unsent t b
        (ap (λ z. map (item_of b.generation) z ++ behind sender.due sender.unsent) (append_assoc (view l t).up (f ∷ []) fs ∙ ap (λ z. (view l t).up ++ z) (sym r)))
        (λ i. i))

-- The steps

pub send-rests : (l : Library) (w : WorldState) (t : ℕ) → Sim l w → ((b : BrokerState) → l.hub.supervised.broker ≡ Some b → NoneWhole b t) → ArePosts (client_of l t) → IsResting l → IsResting (step (ClientSends t) l)
unfolding step
send-rests l w t s parts posts x =
    let c = client_of l t in
    let y = record (l.lines t) { client = (sending c).client; up = followed_by (l.lines t).up (sending c).frame } in
    either IsResting (runs l t) (with_line t y l) l
    (λ _. line-rests l t y (λ run. report-line l w t s x run parts posts c.report refl) x)
    (λ _. x)
