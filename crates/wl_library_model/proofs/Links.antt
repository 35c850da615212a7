-- Steps that change no world: frames move along the links, and clients make frames of their unsent items.
use Rattle.std.proofs.Common.{◌≡◌, inl, inr, ⊎_elim, ℕ, zero, suc, ◌<◌, true, cond, not, ◌&&◌, List, [], ◌∷◌, ◌++◌, take, drop, Option, Some, None, refl, sym, ap, ◌∙◌, subst, arith, le_refl}
use Rattle.std.specs.Prelude.{◌==◌}
use Rattle.std.specs.List.{list_any}
use Rattle.std.proofs.lemmas.Bool.{cases_Bool, and_parts, not-true, eqb-false, ltb-true}
use Rattle.wl_draft.specs.Membership.{In, Here, Later as Behind}
use Rattle.wl_draft.proofs.Membership.{apart, either, In-nil, In-one, In-cons_cases, In-append_cases, In-map_cases}
use Rattle.wl_grammar.specs.declared.frame.Frame.{Frame}
use Rattle.wl_grammar.specs.declared.frame.Upward.{Upward}
use Rattle.wl_grammar.specs.declared.frame.Upward.TheVariants as up
use Rattle.wl_agent.specs.declared.fault.MessageFault.TheVariants.{NotEntered, NoSuchNumber}
use Rattle.wl_agent.specs.Tab.{TabState, is_issued, operation_of, command_frame, message_refusal, report_bodies, report_frames, upward_frame, is_report_due}
use Rattle.wl_client.specs.declared.client.Unsent.{Unsent}
use Rattle.wl_client.specs.declared.client.Unsent.TheVariants as unsent
use Rattle.wl_client.specs.Client.{ClientState}
use Rattle.wl_hub.specs.Hub.{HubState}
use Rattle.wl_world_model.specs.World.{WorldState, tab_of, lives}
use Rattle.wl_world_model.specs.Holdings.{IsHonest}
use Rattle.wl_world_model.specs.Sends.{stamped}
use Rattle.wl_world_model.proofs.exclusion.Invariant.{was_opened}
use Rattle.wl_world_model.proofs.exclusion.CoverExcludes.{living_opened}
use Rattle.wl_library_model.specs.Library.{Library, Line, with_line, with_hub, client_of, is_taken, runs, hub_fed, hub_receives, hub_sends_from, is_due, client_fed, client_receives, unless_refused, Sending, sending_item, sending_due, sending_report, sending, followed_by, client_sends, forges}
use Rattle.wl_library_model.specs.Library.{lives as lives_in}
use Rattle.wl_library_model.specs.Simulation.{IsRepeat, IsOnItsWayDown, IsOnItsWayUp, AreLocksOf, IsClientOf, IsLineOf, IsHubOf}
use Rattle.wl_library_model.proofs.Carried.{Sim, Known, each_line}

-- Lists

pub In-take : {X : Type 0} {x : X} (n : ℕ) (xs : List X) → In x (take n xs) → In x xs
In-take zero xs i = absurd (In-nil i)
In-take (suc n) [] i = absurd (In-nil i)
In-take (suc n) (y ∷ ys) i = ⊎_elim (λ e. subst (λ z. In z (y ∷ ys)) (sym e) Here) (λ j. Behind (In-take n ys j)) (In-cons_cases i)

pub In-drop : {X : Type 0} {x : X} (n : ℕ) (xs : List X) → In x (drop n xs) → In x xs
In-drop zero xs i = i
In-drop (suc n) [] i = absurd (In-nil i)
In-drop (suc n) (y ∷ ys) i = Behind (In-drop n ys i)

-- A line changes

pub line-sim : (l : Library) (w : WorldState) (t : ℕ) (y : Line) → Sim l w → IsLineOf w t y → Sim (with_line t y l) w
line-sim l w t y s i = record { good = s.good; hub = s.hub; lines = each_line (IsLineOf w) t y l.lines i s.lines; taken = s.taken; known = s.known }

hub-sim : (l : Library) (w : WorldState) (h : HubState) → Sim l w → IsHubOf w h → Sim (with_hub h l) w
hub-sim l w h s i = record { good = s.good; hub = i; lines = s.lines; taken = s.taken; known = s.known }

-- The hub's links

fed-sim : (l : Library) (w : WorldState) (t n : ℕ) (fs : List Frame) → Sim l w → Sim (hub_fed t n fs l) w
fed-sim l w t n [] s =
    let x = l.lines t in
    let i = s.lines t in
    let h = record l.hub { sender = t; arrived = take n x.up } in
    line-sim (with_hub h l) w t (record x { up = drop n x.up })
    (hub-sim l w h s (record { kernel = s.hub.kernel; broker = s.hub.broker; outputs = s.hub.outputs; arrived = λ y f j. i.up y f (In-take n x.up j); early = s.hub.early }))
    (record { client = i.client; down = i.down; came = i.came; up = λ y f j. i.up y f (In-drop n x.up j); report = i.report; posts = i.posts })
fed-sim l w t n (f ∷ fs) s = s

pub hub_receives-sim : (l : Library) (w : WorldState) (t n : ℕ) → Sim l w → Sim (hub_receives t n l) w
hub_receives-sim l w t n s = either (λ z. Sim z w) (lives_in l t) (hub_fed t n l.hub.arrived l) l (λ _. fed-sim l w t n l.hub.arrived s) (λ _. s)

without-output : (w : WorldState) (h : HubState) (o : ℕ × Frame) (os : List (ℕ × Frame)) → h.outputs ≡ o ∷ os → IsHubOf w h → IsHubOf w (record h { outputs = os })
without-output w h o os e i = record { kernel = i.kernel; broker = i.broker; outputs = λ t f j. i.outputs t f (subst (In (t, f)) (sym e) (Behind j)); arrived = i.arrived; early = i.early }

pub hub_sends-sim : (l : Library) (w : WorldState) (os : List (ℕ × Frame)) → Sim l w → l.hub.outputs ≡ os → Sim (hub_sends_from os l) w
hub_sends-sim l w [] s e = s
hub_sends-sim l w (o ∷ os) s e =
    let x = l.lines o.0 in
    let i = s.lines o.0 in
    let y = record x { down = x.down ++ o.1 ∷ [] } in
    let m = with_hub (record l.hub { outputs = os }) l in
    let dropped : Sim m w = hub-sim l w m.hub s (without-output w l.hub o os e s.hub) in
    either (λ z. Sim z w) (is_due l.hub o) (with_line o.0 y m) m
    (λ _. line-sim m w o.0 y dropped
    (record {
      client = i.client;
      down = λ f j. ⊎_elim (λ a. i.down f a) (λ a. subst (IsOnItsWayDown w o.0) (sym (In-one a)) (s.hub.outputs o.0 o.1 (subst (In (o.0, o.1)) (sym e) Here))) (In-append_cases x.down (o.1 ∷ []) j);
      came = i.came;
      up = i.up;
      report = i.report;
      posts = i.posts;
    }))
    (λ _. dropped)

-- The client's links

client_fed-line : (w : WorldState) (t n : ℕ) (x : Line) (fs : List Frame) → IsLineOf w t x → IsLineOf w t (client_fed n fs x)
client_fed-line w t n x [] i =
    let c = i.client in
    record {
      client = record { welcomed = c.welcomed; unwelcomed = c.unwelcomed; unentered = c.unentered };
      down = λ f j. i.down f (In-drop n x.down j);
      came = λ f j. i.down f (In-take n x.down j);
      up = i.up;
      report = i.report;
      posts = i.posts;
    }
client_fed-line w t n x (f ∷ fs) i = i

pub client_receives-sim : (l : Library) (w : WorldState) (t n : ℕ) → Sim l w → Sim (client_receives t n l) w
client_receives-sim l w t n s =
    either (λ z. Sim z w) (runs l t) (with_line t (client_fed n (client_of l t).arrived (l.lines t)) l) l
    (λ _. line-sim l w t (client_fed n (client_of l t).arrived (l.lines t)) s (client_fed-line w t n (l.lines t) (client_of l t).arrived (s.lines t)))
    (λ _. s)

pub forges-sim : (l : Library) (w : WorldState) (t : ℕ) (f : Frame) → Sim l w → Sim (forges t f l) w
forges-sim l w t f s =
    let x = l.lines t in
    let i = s.lines t in
    either (λ z. Sim z w) (is_taken l t && lives_in l t) (with_line t (record x { up = x.up ++ f ∷ [] }) l) l
    (λ y. line-sim l w t (record x { up = x.up ++ f ∷ [] }) s (record {
      client = i.client;
      down = i.down;
      came = i.came;
      up = λ h. apart (subst (λ zs. list_any (λ u. u == t) zs ≡ true) s.taken (and_parts _ _ y).0) h;
      report = i.report;
      posts = i.posts;
    }))
    (λ _. s)

-- Frames that a client sends

-- The frame, if there is one, is on its way.
abbrev Fine : WorldState → ℕ → Option Frame → Type 0
Fine w t o = (f : Frame) → o ≡ Some f → IsOnItsWayUp w t f

fine-none : (w : WorldState) (t : ℕ) → Fine w t None
fine-none w t f e = absurd (go f e)
  where
    go : (f : Frame) → None ≡ Some f → ⊥
    go f e = cc

fine-some : (w : WorldState) (t : ℕ) (g : Frame) → IsOnItsWayUp w t g → Fine w t (Some g)
fine-some w t g o f e = subst (IsOnItsWayUp w t) (go g f e) o
  where
    go : (g f : Frame) → Some g ≡ Some f → g ≡ f
    go g f e = cc

-- A command of the entered generation is in the bag, or is a repeat.
command-fine : (w : WorldState) (t k : ℕ) (a : TabState) → tab_of w t ≡ a → was_opened w t ≡ true → Known w t a → Fine w t (unless_refused (message_refusal a k) (command_frame a k))
command-fine w t k a e o n =
    either (λ z. Fine w t (unless_refused z (command_frame a k))) (a.entered == 0) (Some NotEntered) (cond (is_issued a k) None (Some NoSuchNumber))
    (λ _. fine-none w t)
    (λ d. either (λ z. Fine w t (unless_refused z (command_frame a k))) (is_issued a k) None (Some NoSuchNumber)
    (λ l. let no : a.entered ≡ 0 → ⊥ = eqb-false a.entered 0 d in
    fine-some w t (command_frame a k) (o, ⊎_elim (λ i. inl i) (λ r. inr (subst (λ z. IsRepeat z (record { generation = a.entered; number = k; operation = operation_of a k })) (sym e) (record { past = le_refl a.entered; settled = λ _. r }))) (n.commands (positive a.entered no) k (ltb-true _ _ l))))
    (λ _. fine-none w t))
  where
    positive : (n : ℕ) → (n ≡ 0 → ⊥) → 0 < n
    positive zero f = absurd (f refl)
    positive (suc n) f = omega arith

-- The commands of a client with the tab's locks are the tab's.
locks-fine : (w : WorldState) (t k : ℕ) (c a : TabState) → AreLocksOf c a → Fine w t (unless_refused (message_refusal a k) (command_frame a k)) → Fine w t (unless_refused (message_refusal c k) (command_frame c k))
locks-fine w t k c a e f = subst (λ z. Fine w t (unless_refused (message_refusal z k) (command_frame z k))) (sym e) f

client-fine : (w : WorldState) (t k : ℕ) (c : ClientState) → was_opened w t ≡ true → Known w t (tab_of w t) → IsClientOf c t (tab_of w t) → Fine w t (unless_refused (message_refusal c.locks k) (command_frame c.locks k))
client-fine w t k c o n i = ⊎_elim
    (λ y. locks-fine w t k c.locks (tab_of w t) (i.welcomed y) (command-fine w t k (tab_of w t) refl o n))
    (λ y. subst (λ z. Fine w t (unless_refused z (command_frame c.locks k))) (sym (ap (λ z. cond (z == 0) (Some NotEntered) (cond (is_issued c.locks k) None (Some NoSuchNumber))) (i.unentered y))) (fine-none w t))
    (cases_Bool c.is_welcomed)

body-up : (w : WorldState) (t : ℕ) (u : Upward) → was_opened w t ≡ true → In (stamped w.kernel t u) w.bag → IsOnItsWayUp w t (upward_frame u)
body-up w t (up.Command c) o i = (o, inl i)
body-up w t (up.Report r) o i = (o, i)
body-up w t (up.ReportPart r) o i = (o, i)

-- The report of a client with the tab's locks.
report-fine : (w : WorldState) (t : ℕ) (c : ClientState) → was_opened w t ≡ true → Known w t (tab_of w t) → IsClientOf c t (tab_of w t) → (f : Frame) → In f (cond (is_report_due c.locks) (report_frames c.locks) []) → IsOnItsWayUp w t f
report-fine w t c o n i f =
    either (λ zs. In f zs → IsOnItsWayUp w t f) (is_report_due c.locks) (report_frames c.locks) []
    (λ d j. ⊎_elim
    (λ y. go c.locks (i.welcomed y) (positive c.locks (and_parts _ _ d).0) j)
    (λ y. absurd (eqb-false c.locks.entered 0 (not-true _ (and_parts _ _ d).0) (i.unentered y)))
    (cases_Bool c.is_welcomed))
    (λ _ j. absurd (In-nil j))
  where
    positive : (a : TabState) → not (a.entered == 0) ≡ true → 0 < a.entered
    positive a d = let no : a.entered ≡ 0 → ⊥ = eqb-false a.entered 0 (not-true _ d) in above a.entered no
      where
        above : (n : ℕ) → (n ≡ 0 → ⊥) → 0 < n
        above zero f = absurd (f refl)
        above (suc n) f = omega arith

    go : (a : TabState) → AreLocksOf a (tab_of w t) → 0 < a.entered → In f (report_frames a) → IsOnItsWayUp w t f
    go a e lt j =
        let m = In-map_cases upward_frame (report_bodies a.in_parts a.report) j in
        let lt' : 0 < (tab_of w t).entered = subst (λ z. 0 < z) (ap (λ z. z.entered) e) lt in
        subst (IsOnItsWayUp w t) (sym m.2) (body-up w t m.0 o (n.report lt' m.0 (subst (λ z. In m.0 (report_bodies z.in_parts z.report)) e m.1)))

-- A client after it has taken an item.
record IsSendingOf (w : WorldState) (t : ℕ) (c : ClientState) (s : Sending) : Type 0 where
  locks : s.client.locks ≡ c.locks
  welcomed : s.client.is_welcomed ≡ c.is_welcomed
  arrived : s.client.arrived ≡ c.arrived
  report : IsHonest w t → (f : Frame) → In f s.client.report → IsOnItsWayUp w t f
  posts : IsHonest w t → (f : Frame) → In (unsent.Post f) s.client.unsent → IsOnItsWayUp w t f
  frame : IsHonest w t → Fine w t s.frame

module _ (w : WorldState) (t : ℕ) (x : Line) (i : IsLineOf w t x) (o : was_opened w t ≡ true) (n : Known w t (tab_of w t)) where
  abbrev c : ClientState
  c = x.client

  item-sent : (us : List Unsent) → c.unsent ≡ us → IsSendingOf w t c (sending_item us c)
  item-sent [] e = record { locks = refl; welcomed = refl; arrived = refl; report = i.report; posts = i.posts; frame = λ _. fine-none w t }
  item-sent (unsent.Resend ∷ us) e = record {
    locks = refl;
    welcomed = refl;
    arrived = refl;
    report = λ _. report-fine w t c o n i.client;
    posts = λ h f j. i.posts h f (subst (In (unsent.Post f)) (sym e) (Behind j));
    frame = λ _. fine-none w t;
  }
  item-sent (unsent.Command k ∷ us) e = record {
    locks = refl;
    welcomed = refl;
    arrived = refl;
    report = i.report;
    posts = λ h f j. i.posts h f (subst (In (unsent.Post f)) (sym e) (Behind j));
    frame = λ _. client-fine w t k c o n i.client;
  }
  item-sent (unsent.Post g ∷ us) e = record {
    locks = refl;
    welcomed = refl;
    arrived = refl;
    report = i.report;
    posts = λ h f j. i.posts h f (subst (In (unsent.Post f)) (sym e) (Behind j));
    frame = λ h. fine-some w t g (i.posts h g (subst (In (unsent.Post g)) (sym e) Here));
  }

  due-sent : (ks : List ℕ) → IsSendingOf w t c (sending_due ks c)
  due-sent [] = item-sent c.unsent refl
  due-sent (k ∷ ks) = record { locks = refl; welcomed = refl; arrived = refl; report = i.report; posts = i.posts; frame = λ _. client-fine w t k c o n i.client }

  report-sent : (fs : List Frame) → c.report ≡ fs → IsSendingOf w t c (sending_report fs c)
  report-sent [] e = due-sent c.due
  report-sent (f ∷ fs) e = record {
    locks = refl;
    welcomed = refl;
    arrived = refl;
    report = λ h g j. i.report h g (subst (In g) (sym e) (Behind j));
    posts = i.posts;
    frame = λ h. fine-some w t f (i.report h f (subst (In f) (sym e) Here));
  }

  sent-client : (s : Sending) → IsSendingOf w t c s → IsClientOf s.client t (tab_of w t)
  sent-client s z = record {
    welcomed = λ y. subst (λ a. AreLocksOf a (tab_of w t)) (sym z.locks) (i.client.welcomed (sym z.welcomed ∙ y));
    unwelcomed = λ y. i.client.unwelcomed (sym z.welcomed ∙ y);
    unentered = λ y. ap (λ a. a.entered) z.locks ∙ i.client.unentered (sym z.welcomed ∙ y);
  }

  followed : (fs : List Frame) (g : Option Frame) (f : Frame) → Fine w t g → ((e : Frame) → In e fs → IsOnItsWayUp w t e) → In f (followed_by fs g) → IsOnItsWayUp w t f
  followed fs None f z up j = up f j
  followed fs (Some g) f z up j = ⊎_elim (λ a. up f a) (λ a. subst (IsOnItsWayUp w t) (sym (In-one a)) (z g refl)) (In-append_cases fs (g ∷ []) j)

  sent-line : (s : Sending) → IsSendingOf w t c s → IsLineOf w t (record x { client = s.client; up = followed_by x.up s.frame })
  sent-line s z = record {
    client = sent-client s z;
    down = i.down;
    came = λ f j. i.came f (subst (In f) z.arrived j);
    up = λ h f j. followed x.up s.frame f (z.frame h) (i.up h) j;
    report = z.report;
    posts = z.posts;
  }

-- A tab whose client runs was opened.
pub runs-opened : (l : Library) (w : WorldState) (t : ℕ) → Sim l w → runs l t ≡ true → was_opened w t ≡ true
runs-opened l w t s y = living_opened _ (subst (λ k. lives (record w { kernel = k }) t ≡ true) s.hub.kernel (and_parts _ _ y).0)

pub client_sends-sim : (l : Library) (w : WorldState) (t : ℕ) → Sim l w → Sim (client_sends t l) w
client_sends-sim l w t s =
    let x = l.lines t in
    let z = sending x.client in
    either (λ y. Sim y w) (runs l t) (with_line t (record x { client = z.client; up = followed_by x.up z.frame }) l) l
    (λ y. line-sim l w t (record x { client = z.client; up = followed_by x.up z.frame }) s
    (sent-line w t x (s.lines t) (runs-opened l w t s y) (s.known t) z (report-sent w t x (s.lines t) (runs-opened l w t s y) (s.known t) x.client.report refl)))
    (λ _. s)
