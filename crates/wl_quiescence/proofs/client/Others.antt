-- A client handles its welcome, an old hello, a post or a frame of the wrong kind: the step keeps the invariant.
use Rattle.std.proofs.Common.{◌≡◌, ◌≢◌, ⊎_elim, ℕ, suc, ◌<◌, ◌≤◌, Bool, true, false, not, cond, List, [], ◌∷◌, ◌++◌, Option, Some, None, refl, sym, ap, ap₂, ◌∙◌, subst, arith}
use Rattle.std.specs.Prelude.{◌==◌, nat_lt}
use Rattle.std.specs.List.{list_any}
use Rattle.std.proofs.lemmas.Bool.{cases_Bool, cases_eq, eq-eqb, ne_eqb, ltb-true, ltb-false, and_parts, not-true}
use Rattle.wl_draft.specs.Membership.{In, Here, Later as Behind}
use Rattle.wl_draft.proofs.Membership.{apart, either, In-cons_cases}
use Rattle.wl_grammar.specs.declared.frame.Heard.{Heard}
use Rattle.wl_grammar.specs.declared.frame.Hello.{Hello}
use Rattle.wl_grammar.specs.declared.frame.Frame.{Frame}
use Rattle.wl_grammar.specs.declared.frame.Frame.TheVariants as frame
use Rattle.wl_limits.specs.declared.tabs.TheConstants.{COMMAND_LIMIT}
use Rattle.wl_broker.specs.Broker.{BrokerState, seat_of, is_joined}
use Rattle.wl_agent.specs.declared.delivered.Delivered.{Delivered}
use Rattle.wl_agent.specs.declared.delivered.Delivered.TheVariants as heard
use Rattle.wl_agent.specs.declared.drop_reason.DropReason.TheVariants as unheard
use Rattle.wl_agent.specs.Tab.{TabState, born, enter, report_frames}
use Rattle.wl_agent.specs.Delivery.{delivery}
use Rattle.wl_tab.specs.Arrivals.{arrival, told_said, generation_in}
use Rattle.wl_client.specs.declared.client.Unsent.{Unsent}
use Rattle.wl_client.specs.declared.client.Unsent.TheVariants as unsent
use Rattle.wl_client.specs.Client.{ClientState, welcome_of, is_entering, after_told, after_delivery, after_frame, after_first, after_welcome}
use Rattle.wl_client.specs.Client.{advanced as client_advanced}
use Rattle.wl_kernel.specs.Kernel.{is_living}
use Rattle.wl_world_model.specs.World.{WorldState, tab_of}
use Rattle.wl_world_model.specs.Holdings.{IsHonest as IsHonestIn}
use Rattle.wl_world_model.proofs.exclusion.Invariant.{broker_of, broker_in, limit_in, limit}
use Rattle.wl_library_model.specs.Library.{Library, ClientAdvances, client_of, lives, is_taken, runs, with_line, step}
use Rattle.wl_library_model.proofs.Blind.{hello-late}
use Rattle.wl_world_messages.specs.declared.message.Sender.TheVariants.{Kernel, Broker}
use Rattle.wl_client.specs.declared.client.Event.{Event}
use Rattle.wl_library_model.proofs.Awaited.{NoneTold, told-same}
use Rattle.wl_library_model.proofs.Carried.{Sim}
use Rattle.wl_quiescence.proofs.rest.Invariant.{View, view, hello, is_answer_in, outputs_to, Serves, IsResting}
use Rattle.wl_quiescence.proofs.rest.Hello.{Hears, hears-new}
use Rattle.wl_quiescence.proofs.rest.Hellos.{enter-rests}
use Rattle.wl_quiescence.proofs.rest.Steps.{HoldsOf, line-rests, again-rests}
use Rattle.wl_quiescence.proofs.client.Kept.{Heeds}
use Rattle.wl_quiescence.proofs.client.Frames.{behind, heard-rests, client-none, joined-entered, unheard-serves, answer-rests}
use Rattle.wl_quiescence.proofs.client.Parts.{snapshot-rests}

-- The client becomes this one
new-client : (l : Library) (t : ℕ) (n : ClientState) → client_advanced (client_of l t) ≡ n → (runs l t ≡ true → HoldsOf l.hub t (record (l.lines t) { client = n })) → IsResting l → IsResting (step (ClientAdvances t) l)
unfolding step
new-client l t n e h x =
    let o = client_of l t in
    let rests : IsResting (with_line t (record (l.lines t) { client = client_advanced o }) l) =
    subst (λ z. IsResting (with_line t (record (l.lines t) { client = z }) l)) (sym e) (line-rests l t (record (l.lines t) { client = n }) h x) in
    either IsResting (runs l t) (with_line t (record (l.lines t) { client = client_advanced o }) l) l (λ _. rests) (λ _. x)

pub first-down : (l : Library) (t : ℕ) (f : Frame) (fs : List Frame) → (client_of l t).arrived ≡ f ∷ fs → (view l t).down ≡ f ∷ behind l t fs
first-down l t f fs a = ap (λ zs. zs ++ (l.lines t).down ++ outputs_to t l.hub.outputs) a

pub first-handled : (l : Library) (t : ℕ) (f : Frame) (fs : List Frame) → (client_of l t).arrived ≡ f ∷ fs → (client_of l t).is_welcomed ≡ true → client_advanced (client_of l t) ≡ after_frame f (record (client_of l t) { arrived = fs })
first-handled l t f fs a y =
    let o = client_of l t in
    ap (λ zs. after_first zs o) a ∙ ap (λ z. cond z (after_frame f (record o { arrived = fs })) (after_welcome (welcome_of f) (record o { arrived = fs }))) y

-- No frame
idle-rests : (l : Library) (t : ℕ) → (client_of l t).arrived ≡ [] → IsResting l → IsResting (step (ClientAdvances t) l)
idle-rests l t a x = new-client l t (client_of l t) (ap (λ zs. after_first zs (client_of l t)) a) (λ r. record { fresh = x.fresh t r; serves = λ b u. x.serving b t u r }) x

-- A post
heard-post-rests : (l : Library) (t : ℕ) (h : Heard) (fs : List Frame) → (client_of l t).arrived ≡ frame.Heard h ∷ fs → (client_of l t).is_welcomed ≡ true → IsResting l → IsResting (step (ClientAdvances t) l)
heard-post-rests l t h fs a y x =
    let down = first-down l t (frame.Heard h) fs a in
    new-client l t (after_frame (frame.Heard h) (record (client_of l t) { arrived = fs })) (first-handled l t (frame.Heard h) fs a y)
    (λ r. record {
      fresh = let g = x.fresh t r in record { welcome = λ z. apart y z; past = λ f k i. g.past f k (subst (In f) (sym down) (Behind i)); entered = g.entered };
      serves = λ b u. unheard-serves (view l t) t b (frame.Heard h) (behind l t fs) down (no-hello b.generation h) refl (x.serving b t u r);
    }) x
  where
    no-hello : (g : ℕ) (z : Heard) → hello g ≡ frame.Heard z → ⊥
    no-hello g z e = cc

-- A frame of the wrong kind

abbrev pub is_wrong : Frame → Bool
is_wrong (frame.Hello h) = false
is_wrong (frame.Answer x) = false
is_wrong (frame.Snapshot x) = false
is_wrong (frame.Heard h) = false
is_wrong f = true

pub wrong-frame : (f : Frame) (c : ClientState) → is_wrong f ≡ true → NoneTold c.locks.statuses → after_frame f c ≡ after_told (arrival f c.locks) c.locks c
unfolding delivery
wrong-frame (frame.Hello h) c e n = apart e refl
wrong-frame (frame.Answer x) c e n = apart e refl
wrong-frame (frame.Snapshot x) c e n = apart e refl
wrong-frame (frame.Heard h) c e n = apart e refl
wrong-frame f c e n = ap (λ z. after_told (arrival f c.locks) z c) (told-same c.locks n)

wrong-quiet : (f : Frame) (a : TabState) → is_wrong f ≡ true → is_entering (arrival f a) ≡ false
unfolding arrival delivery
wrong-quiet (frame.Hello h) a e = apart e refl
wrong-quiet (frame.Answer x) a e = apart e refl
wrong-quiet (frame.Snapshot x) a e = apart e refl
wrong-quiet (frame.Heard h) a e = apart e refl
wrong-quiet f a e = refl

pub wrong-answer : (g : ℕ) (f : Frame) → is_wrong f ≡ true → is_answer_in g f ≡ false
wrong-answer g (frame.Hello h) e = apart e refl
wrong-answer g (frame.Answer x) e = apart e refl
wrong-answer g (frame.Snapshot x) e = apart e refl
wrong-answer g (frame.Heard h) e = apart e refl
wrong-answer g f e = refl

wrong-rests : (l : Library) (w : WorldState) (t : ℕ) (f : Frame) (fs : List Frame) → Sim l w → is_wrong f ≡ true → (client_of l t).arrived ≡ f ∷ fs → (client_of l t).is_welcomed ≡ true → IsResting l → IsResting (step (ClientAdvances t) l)
wrong-rests l w t f fs s k a y x =
    let o = (client_of l t).locks in
    heard-rests l t f fs o a y (wrong-frame f (record (client_of l t) { arrived = fs }) k (client-none l w t s y)) (wrong-quiet f o k) refl
    (λ b r up down v. unheard-serves (view l t) t b f (behind l t fs) down (λ e. apart (ap is_wrong e ∙ k) refl) (wrong-answer b.generation f k) v) x

-- The broker that is up

pub broker-current : (l : Library) (w : WorldState) → Sim l w → (b : BrokerState) → l.hub.supervised.broker ≡ Some b → b.generation ≡ w.kernel.generation
broker-current l w s b up =
    let broker : broker_of w ≡ b = ap (broker_in w.kernel.generation) (sym s.hub.broker ∙ up) in
    sym (ap (λ z. z.generation) broker) ∙ s.good.sound.current

pub broker-positive : (l : Library) (w : WorldState) → Sim l w → (b : BrokerState) → l.hub.supervised.broker ≡ Some b → 0 < b.generation
broker-positive l w s b up = let k = broker-current l w s b up in let pos : 0 < w.kernel.generation = s.good.sound.positive in omega (arith, k, pos)

-- A tab that was not welcomed has not joined.
pub not-joined : (l : Library) (w : WorldState) (t : ℕ) → Sim l w → (b : BrokerState) → runs l t ≡ true → l.hub.supervised.broker ≡ Some b → (client_of l t).is_welcomed ≡ false → is_joined (seat_of b t) ≡ true → ⊥
not-joined l w t s b r up y j =
    let broker : broker_of w ≡ b = ap (broker_in w.kernel.generation) (sym s.hub.broker ∙ up) in
    let honest : IsHonestIn w t = subst (λ zs. list_any (λ u. u == t) zs ≡ false) s.taken (not-true _ (and_parts (lives l t) (not (is_taken l t)) r).1) in
    let e : (tab_of w t).entered ≡ w.kernel.generation = (s.good.sound.seats t).joined honest (subst (λ (z : BrokerState). is_joined (seat_of z t) ≡ true) (sym broker) j) in
    let z : (tab_of w t).entered ≡ 0 = ap (λ (a : TabState). a.entered) ((s.lines t).client.unwelcomed y) in
    let pos : 0 < w.kernel.generation = s.good.sound.positive in
    omega (arith, e, z, pos)

-- The welcome

welcome-serves : (v : View) (t : ℕ) (b : BrokerState) (f : Frame) (rest : List Frame) (c : TabState) → v.down ≡ f ∷ rest → (hello b.generation ≡ f → ⊥) → v.client.is_welcomed ≡ false → c.entered ≢ b.generation
    → (is_joined (seat_of b t) ≡ true → ⊥) → Serves v t b → Serves (record v { down = rest; client = record v.client { is_welcomed = true; locks = c } }) t b
welcome-serves v t b f rest c e d y n j s = record {
  welcomed = λ z. apart refl z;
  enters = λ _. ⊎_elim (λ i. absurd (d i)) (λ i. i) (In-cons_cases (subst (In (hello b.generation)) e (s.welcomed y)));
  answers = λ g i k. s.answers g (subst (In g) (sym e) (Behind i)) k;
  reaches = λ z. absurd (n z);
  reported = λ z _. absurd (n z);
  kept = λ z. absurd (j z);
}

welcome-rests : (l : Library) (w : WorldState) (t : ℕ) (f : Frame) (fs : List Frame) → Sim l w → (client_of l t).arrived ≡ f ∷ fs → (client_of l t).is_welcomed ≡ false → IsResting l → IsResting (step (ClientAdvances t) l)
welcome-rests l w t f fs s a y x =
    let o = client_of l t in
    let rest = record o { arrived = fs } in
    let down = first-down l t f fs a in
    new-client l t (after_welcome (welcome_of f) rest) (ap (λ zs. after_first zs o) a ∙ ap (λ z. cond z (after_frame f rest) (after_welcome (welcome_of f) rest)) y)
    (λ r.
    let g = x.fresh t r in
    let k = g.welcome y in
    let is : welcome_of f ≡ Some k.2 = ap welcome_of (head-same f k.0 (behind l t fs) k.1 (sym down ∙ k.3)) ∙ k.4 in
    subst (λ q. HoldsOf l.hub t (record (l.lines t) { client = after_welcome q rest })) (sym is) (record {
      fresh = record {
        welcome = λ z. apart refl z;
        past = λ f' n i. g.past f' n (subst (In f') (sym down) (Behind i));
        entered = let e = g.entered in omega (arith, e);
      };
      serves = λ b u.
          let pos = broker-positive l w s b u in
          welcome-serves (view l t) t b f (behind l t fs) (born k.2.1 k.2.0 COMMAND_LIMIT) down (λ e. no-welcome b.generation f k.2 e is) y (λ e. omega (arith, e, pos)) (not-joined l w t s b r u y) (x.serving b t u r);
    })) x
  where
    head-same : (f k : Frame) (fs ks : List Frame) → f ∷ fs ≡ k ∷ ks → f ≡ k
    head-same f k fs ks e = cc

    no-welcome : (g : ℕ) (f : Frame) (z : ℕ × Bool) → hello g ≡ f → welcome_of f ≡ Some z → ⊥
    no-welcome g f z e w = none-some z (ap welcome_of e ∙ w)
      where
        none-some : (z : ℕ × Bool) → None ≡ Some z → ⊥
        none-some z e = cc

-- Hellos

hello-same : (g : ℕ) (h : Hello) → hello g ≡ frame.Hello h → g ≡ h.generation
hello-same g h e = ap generation_in e

-- By whether the hello is of the broker that is up.
by_broker : {A : Type 0} (l : Library) (t : ℕ) (h : Hello) → ((b : BrokerState) → l.hub.supervised.broker ≡ Some b → h.generation ≡ b.generation → A)
    → (((b : BrokerState) → l.hub.supervised.broker ≡ Some b → h.generation ≢ b.generation) → A) → A
by_broker {A} l t h f g = go l.hub.supervised.broker refl
  where
    none-some : (b : BrokerState) → None ≡ Some b → ⊥
    none-some b e = cc

    same-broker : (b c : BrokerState) → Some b ≡ Some c → b ≡ c
    same-broker b c e = cc

    go : (o : Option BrokerState) → l.hub.supervised.broker ≡ o → A
    go None e = g (λ b up. absurd (none-some b (sym e ∙ up)))
    go (Some b) e = ⊎_elim (λ s. f b e s) (λ d. g (λ c up s. d (s ∙ sym (ap (λ z. z.generation) (same-broker b c (sym e ∙ up)))))) (cases_eq h.generation b.generation)

-- A hello that comes is of a generation that was started.
hello-started : (l : Library) (w : WorldState) (t : ℕ) (h : Hello) (fs : List Frame) → Sim l w → (client_of l t).arrived ≡ frame.Hello h ∷ fs → runs l t ≡ true → h.generation < limit_in l.hub.supervised.kernel.generation l.hub.supervised.broker
hello-started l w t h fs s a r =
    let alive : is_living w.kernel t ≡ true = subst (λ k. is_living k t ≡ true) s.hub.kernel (and_parts (lives l t) (not (is_taken l t)) r).0 in
    let top : h.generation < limit w = ⊎_elim
    (λ d. apart alive (not-true _ (and_parts _ _ d).1))
    (λ c. ⊎_elim (λ i. ((s.good.sound.messages t).hellos Kernel h i).1) (λ i. ((s.good.sound.messages t).hellos Broker h i).1) c)
    ((s.lines t).came (frame.Hello h) (subst (In (frame.Hello h)) (sym a) Here)) in
    subst (λ z. h.generation < z) (sym (ap₂ limit_in (ap (λ z. z.generation) s.hub.kernel) s.hub.broker)) top

pub hello-low : (l : Library) (w : WorldState) (t : ℕ) (h : Hello) (fs : List Frame) → Sim l w → (client_of l t).arrived ≡ frame.Hello h ∷ fs → (b : BrokerState) → runs l t ≡ true → l.hub.supervised.broker ≡ Some b → h.generation ≤ b.generation
hello-low l w t h fs s a b r up =
    let top = hello-started l w t h fs s a r in
    let is : limit_in l.hub.supervised.kernel.generation l.hub.supervised.broker ≡ suc l.hub.supervised.kernel.generation = ap (limit_in l.hub.supervised.kernel.generation) up in
    let k : l.hub.supervised.kernel.generation ≡ w.kernel.generation = ap (λ z. z.generation) s.hub.kernel in
    let cur = broker-current l w s b up in
    omega (arith, top, is, k, cur)

late-quiet : (h : Hello) (a : TabState) → nat_lt a.entered h.generation ≡ false → is_entering (arrival (frame.Hello h) a) ≡ false
unfolding arrival delivery
late-quiet h a n = ap (λ z. let o : TabState × Delivered = cond z (enter h.generation a, heard.Entered (report_frames (enter h.generation a))) (a, heard.Dropped unheard.OldGeneration) in is_entering (told_said (frame.Hello h) a o.0 o.1)) n

-- A tab that was in another generation than the broker's, and is.
moved-serves : (v : View) (t : ℕ) (b : BrokerState) (f : Frame) (rest : List Frame) (c : TabState) (us : List Unsent) → v.down ≡ f ∷ rest → (hello b.generation ≡ f → ⊥) → v.client.is_welcomed ≡ true
    → c.entered ≢ b.generation → v.client.locks.entered ≢ b.generation → (is_joined (seat_of b t) ≡ true → v.client.locks.entered ≡ b.generation)
    → Serves v t b → Serves (record v { down = rest; client = record v.client { locks = c; unsent = us } }) t b
moved-serves v t b f rest c us e d y n m j s = record {
  welcomed = λ z. apart y z;
  enters = λ _. ⊎_elim (λ i. absurd (d i)) (λ i. i) (In-cons_cases (subst (In (hello b.generation)) e (s.enters m)));
  answers = λ g i k. s.answers g (subst (In g) (sym e) (Behind i)) k;
  reaches = λ z. absurd (n z);
  reported = λ z _. absurd (n z);
  kept = λ z. absurd (m (j z));
}

moved-rests : (l : Library) (w : WorldState) (t : ℕ) (h : Hello) (fs : List Frame) (c : TabState) (us : List Unsent) (es : List Event) → Sim l w → (client_of l t).arrived ≡ frame.Hello h ∷ fs → (client_of l t).is_welcomed ≡ true
    → client_advanced (client_of l t) ≡ record (client_of l t) { arrived = fs; locks = c; unsent = us; events = es } → c.entered ≡ h.generation
    → ((b : BrokerState) → l.hub.supervised.broker ≡ Some b → h.generation ≢ b.generation)
    → ((b : BrokerState) → runs l t ≡ true → l.hub.supervised.broker ≡ Some b → (client_of l t).locks.entered ≢ b.generation) → IsResting l → IsResting (step (ClientAdvances t) l)
moved-rests l w t h fs c us es s a y is in_now other was x =
    let down = first-down l t (frame.Hello h) fs a in
    new-client l t (record (client_of l t) { arrived = fs; locks = c; unsent = us; events = es }) is
    (λ r. record {
      fresh = let g = x.fresh t r in record {
        welcome = λ z. apart y z;
        past = λ f k i. g.past f k (subst (In f) (sym down) (Behind i));
        entered = subst (λ z. z < limit_in l.hub.supervised.kernel.generation l.hub.supervised.broker) (sym in_now) (hello-started l w t h fs s a r);
      };
      serves = λ b u. moved-serves (view l t) t b (frame.Hello h) (behind l t fs) c us down (λ e. other b u (sym (hello-same b.generation h e))) y
          (λ z. other b u (sym in_now ∙ z)) (was b r u) (joined-entered l w t s y b r u) (x.serving b t u r);
    }) x

hello-rests : (l : Library) (w : WorldState) (t : ℕ) (h : Hello) (fs : List Frame) → Sim l w → (client_of l t).arrived ≡ frame.Hello h ∷ fs → (client_of l t).is_welcomed ≡ true → IsResting l → IsResting (step (ClientAdvances t) l)
hello-rests l w t h fs s a y x =
    let o = (client_of l t).locks in
    let c' = record (client_of l t) { arrived = fs } in
    ⊎_elim
    (λ e. by_broker l t h (λ b up g. again-rests l t b fs up (a ∙ ap (λ n. hello n ∷ fs) g) y (sym e ∙ g) (broker-positive l w s b up) x)
    (λ n. moved-rests l w t h fs o ((client_of l t).unsent ++ unsent.Resend ∷ []) (client_of l t).events s a y
    (first-handled l t (frame.Hello h) fs a y ∙ ap (λ z. cond z (record c' { unsent = c'.unsent ++ unsent.Resend ∷ [] }) (after_delivery (frame.Hello h) c')) (eq-eqb h.generation o.entered e))
    (sym e) n (λ b r up z. n b up (e ∙ z)) x))
    (λ d. ⊎_elim
    (λ lt.
    let less = ltb-true o.entered h.generation lt in
    by_broker l t h (λ b up g. enter-rests l w t b fs s up (a ∙ ap (λ n. hello n ∷ fs) g) y (subst (λ n. o.entered < n) g less) x)
    (λ n.
    let hear : Hears h.generation c' (after_delivery (frame.Hello h) c') = hears-new h.generation c' (omega (arith, less)) less in
    moved-rests l w t h fs (after_delivery (frame.Hello h) c').locks (after_delivery (frame.Hello h) c').unsent (after_delivery (frame.Hello h) c').events s a y
    (first-handled l t (frame.Hello h) fs a y ∙ ap (λ z. cond z (record c' { unsent = c'.unsent ++ unsent.Resend ∷ [] }) (after_delivery (frame.Hello h) c')) (ne_eqb h.generation o.entered d))
    hear.entered n (λ b r up z. let low = hello-low l w t h fs s a b r up in omega (arith, low, less, z)) x))
    (λ ge.
    let less = ltb-false o.entered h.generation ge in
    heard-rests l t (frame.Hello h) fs o a y
    (ap (λ z. cond z (record c' { unsent = c'.unsent ++ unsent.Resend ∷ [] }) (after_delivery (frame.Hello h) c')) (ne_eqb h.generation o.entered d)
    ∙ ap (λ z. after_told (arrival (frame.Hello h) o) z c') (hello-late h o ge (client-none l w t s y)))
    (late-quiet h o ge) refl
    (λ b r up down v. unheard-serves (view l t) t b (frame.Hello h) (behind l t fs) down
    (λ e. let g = hello-same b.generation h e in
    let top = (x.fresh t r).entered in
    let is : limit_in l.hub.supervised.kernel.generation l.hub.supervised.broker ≡ suc l.hub.supervised.kernel.generation = ap (limit_in l.hub.supervised.kernel.generation) up in
    let k : l.hub.supervised.kernel.generation ≡ w.kernel.generation = ap (λ z. z.generation) s.hub.kernel in
    let cur = broker-current l w s b up in
    absurd (d (omega (arith, g, top, is, k, cur, less))))
    refl v)
    x)
    (cases_Bool (nat_lt o.entered h.generation)))
    (cases_eq h.generation o.entered)

-- The step

handled-rests : (l : Library) (w : WorldState) (t : ℕ) (f : Frame) (fs : List Frame) → Sim l w → (client_of l t).arrived ≡ f ∷ fs → (client_of l t).is_welcomed ≡ true
    → ((b : BrokerState) → runs l t ≡ true → l.hub.supervised.broker ≡ Some b → Heeds (view l t) t b) → IsResting l → IsResting (step (ClientAdvances t) l)
handled-rests l w t (frame.Hello h) fs s a y heeds x = hello-rests l w t h fs s a y x
handled-rests l w t (frame.Answer z) fs s a y heeds x = answer-rests l w t z fs s a y heeds x
handled-rests l w t (frame.Snapshot z) fs s a y heeds x = snapshot-rests l w t z fs s a y heeds x
handled-rests l w t (frame.Heard z) fs s a y heeds x = heard-post-rests l t z fs a y x
handled-rests l w t f fs s a y heeds x = wrong-rests l w t f fs s refl a y x

-- The client handles the next frame.
pub advance-rests : (l : Library) (w : WorldState) (t : ℕ) → Sim l w → ((b : BrokerState) → runs l t ≡ true → l.hub.supervised.broker ≡ Some b → Heeds (view l t) t b) → IsResting l → IsResting (step (ClientAdvances t) l)
advance-rests l w t s heeds x = go (client_of l t).arrived refl
  where
    go : (fs : List Frame) → (client_of l t).arrived ≡ fs → IsResting (step (ClientAdvances t) l)
    go [] a = idle-rests l t a x
    go (f ∷ fs) a = ⊎_elim (λ y. handled-rests l w t f fs s a y heeds x) (λ n. welcome-rests l w t f fs s a n x) (cases_Bool (client_of l t).is_welcomed)
