-- A client that handles a hello of the broker's generation will send again all that is due, and that is enough.
use Rattle.std.proofs.Common.{◌≡◌, ◌≢◌, ◌⊎◌, inl, inr, ⊎_elim, ℕ, ◌<◌, ◌≤◌, true, false, not, ◌&&◌, cond, List, [], ◌∷◌, ◌++◌, length, map, refl, sym, ap, ◌∙◌, subst, arith, append_assoc}
use Rattle.std.specs.Prelude.{◌==◌, if◌then◌else◌}
use Rattle.std.proofs.lemmas.Bool.{cases_Bool, lt-ltb, eqb-true, eq-eqb, ne_eqb}
use Rattle.std.proofs.lemmas.List.{map-append}
use Rattle.wl_draft.specs.Membership.{In, Here, Later}
use Rattle.wl_draft.proofs.Membership.{apart, either, In-append_right}
use Rattle.wl_grammar.specs.declared.frame.Frame.{Frame}
use Rattle.wl_agent.specs.Tab.{TabState, enter, enter_first, enter_later, report_frames, is_report_due}
use Rattle.wl_agent.specs.Delivery.{delivery}
use Rattle.wl_agent.specs.declared.delivered.Delivered.{Delivered}
use Rattle.wl_agent.specs.declared.delivered.Delivered.TheVariants as heard_as
use Rattle.wl_agent.specs.declared.drop_reason.DropReason.TheVariants as unheard
use Rattle.wl_tab.specs.Tabs.{told}
use Rattle.wl_tab.specs.Arrivals.{arrival, told_said}
use Rattle.wl_client.specs.declared.client.Unsent.{Unsent}
use Rattle.wl_client.specs.declared.client.Unsent.TheVariants as unsent
use Rattle.wl_client.specs.Client.{ClientState, is_entering, is_hello_of, after_delivery, after_frame}
use Rattle.wl_library_model.specs.Library.{Library, client_of}
use Rattle.wl_quiescence.proofs.rest.Invariant.{hello, Item, Says, Again, item_of, item_of_unsent, View, view, items_of, Serves, after_items, Arrives, Reaches, seen}
use Rattle.wl_broker.specs.Broker.{BrokerState, seat_of, is_joined, next_of}
use Rattle.wl_quiescence.proofs.rest.Items.{again-last, again-last-at}
use Rattle.wl_quiescence.proofs.rest.Broker.{seen-at}

-- The client is in the hello's generation. Its report is due if it has just entered, and it is to send again behind the rest.
pub record Hears (g : ℕ) (c d : ClientState) : Type 0 where
  pub unsent : d.unsent ≡ c.unsent ++ unsent.Resend ∷ []
  pub report : d.report ≡ c.report
  pub due : d.due ≡ c.due
  pub entered : d.locks.entered ≡ g
  pub issued : d.locks.issued ≡ c.locks.issued
  pub again : (d.locks ≡ c.locks) ⊎ (is_report_due d.locks ≡ true)

-- A tab that enters a generation.
record Enters (g : ℕ) (a b : TabState) : Type 0 where
  entered : b.entered ≡ g
  issued : b.issued ≡ a.issued
  answered : b.answered ≡ false

enter-enters : (g : ℕ) (a : TabState) → Enters g a (enter g a)
unfolding enter_first enter_later
enter-enters g a =
    either (Enters g a) (a.entered == 0) (enter_first g a) (enter_later g a)
    (λ _. record { entered = refl; issued = refl; answered = refl }) (λ _. record { entered = refl; issued = refl; answered = refl })

told-enters : (g : ℕ) (a b : TabState) → Enters g a b → Enters g a (told b)
unfolding told
told-enters g a b e = record { entered = e.entered; issued = e.issued; answered = e.answered }

pub delivery-hello : (g : ℕ) (a : TabState) → a.entered < g → delivery (hello g) a ≡ (enter g a, heard_as.Entered (report_frames (enter g a)))
unfolding delivery
delivery-hello g a lt =
    ap (λ b. let z : TabState × Delivered = cond b (enter g a, heard_as.Entered (report_frames (enter g a))) (a, heard_as.Dropped unheard.OldGeneration) in z) (lt-ltb a.entered g lt)

entering-hello : (g : ℕ) (a : TabState) → a.entered < g → is_entering (arrival (hello g) a) ≡ true
unfolding arrival
entering-hello g a lt = ap (λ (z : TabState × Delivered). is_entering (told_said (hello g) a z.0 z.1)) (delivery-hello g a lt)

report-due : (g : ℕ) (a b : TabState) → 0 < g → Enters g a b → is_report_due b ≡ true
report-due g a b lt e =
    ap (λ z. not (z == 0) && not b.answered) e.entered ∙ (ap (λ z. not (g == 0) && not z) e.answered ∙ ap (λ z. not z && true) (ne_eqb g 0 (λ z. omega (arith, lt, z))))

pub hears-new : (g : ℕ) (c : ClientState) → 0 < g → c.locks.entered < g → Hears g c (after_delivery (hello g) c)
hears-new g c pos lt =
    let b = told (delivery (hello g) c.locks).0 in
    let e : Enters g c.locks b = subst (λ (z : TabState × Delivered). Enters g c.locks (told z.0)) (sym (delivery-hello g c.locks lt)) (told-enters g c.locks (enter g c.locks) (enter-enters g c.locks)) in
    record {
      unsent = ap (λ z. c.unsent ++ (if z then unsent.Resend ∷ [] else [])) (entering-hello g c.locks lt);
      report = refl;
      due = refl;
      entered = e.entered;
      issued = e.issued;
      again = inr (report-due g c.locks b pos e);
    }

-- A client that has entered no later generation handles the hello.
pub hears-hello : (g : ℕ) (c : ClientState) → 0 < g → c.locks.entered ≤ g → Hears g c (after_frame (hello g) c)
hears-hello g c pos le =
    either (Hears g c) (is_hello_of c.locks.entered (hello g)) (record c { unsent = c.unsent ++ unsent.Resend ∷ [] }) (after_delivery (hello g) c)
    (λ y. record { unsent = refl; report = refl; due = refl; entered = sym (eqb-true g c.locks.entered y); issued = refl; again = inl refl })
    (λ n. hears-new g c pos (let d : c.locks.entered ≢ g = λ e. apart (eq-eqb g c.locks.entered (sym e)) n in omega (arith, le, d)))

-- Sending again is enough

again-behind : (fs : List Item) (ds : List Item) (us : List Unsent) → fs ++ (ds ++ map item_of_unsent (us ++ unsent.Resend ∷ [])) ≡ (fs ++ (ds ++ map item_of_unsent us)) ++ Again ∷ []
again-behind fs ds us =
    ap (λ z. fs ++ (ds ++ z)) (map-append item_of_unsent us (unsent.Resend ∷ []))
    ∙ (ap (λ z. fs ++ z) (sym (append_assoc ds (map item_of_unsent us) (Again ∷ []))) ∙ sym (append_assoc fs (ds ++ map item_of_unsent us) (Again ∷ [])))

-- A client that is to send again behind all else, and whose tab has joined or whose report is due.
pub again-arrives : (v : View) (t : ℕ) (b : BrokerState) (us : List Unsent) → v.client.unsent ≡ us ++ unsent.Resend ∷ []
    → (is_joined (seat_of b t) ≡ true) ⊎ (is_report_due v.client.locks ≡ true) → Arrives v t b
again-arrives v t b us e o =
    let c = v.client in
    let n = length c.locks.issued in
    let fs = map (item_of b.generation) (v.up ++ c.report) in
    let ds = map Says c.due in
    let all : items_of b.generation v ≡ (fs ++ (ds ++ map item_of_unsent us)) ++ Again ∷ [] = ap (λ z. fs ++ (ds ++ map item_of_unsent z)) e ∙ again-behind fs ds us in
    ap (λ z. after_items v.place (is_report_due c.locks) n z (seen b t)) all
    ∙ ⊎_elim
    (λ j. ap (after_items v.place (is_report_due c.locks) n ((fs ++ (ds ++ map item_of_unsent us)) ++ Again ∷ [])) (seen-at b t j)
    ∙ again-last-at v.place (is_report_due c.locks) n (fs ++ (ds ++ map item_of_unsent us)) (next_of b t))
    (λ d. ap (λ z. after_items v.place z n ((fs ++ (ds ++ map item_of_unsent us)) ++ Again ∷ []) (seen b t)) d
    ∙ again-last v.place n (fs ++ (ds ++ map item_of_unsent us)) (seen b t))
    o

-- The hello of the broker's generation is handled by the client of a tab that has joined, or whose report is due if it has
-- entered the generation.
pub hello-reaches : (l m : Library) (t : ℕ) (b : BrokerState) → 0 < b.generation → (client_of l t).locks.entered ≤ b.generation
    → client_of m t ≡ after_frame (hello b.generation) (client_of l t)
    → ((client_of l t).locks.entered ≡ b.generation → is_joined (seat_of b t) ≡ false → is_report_due (client_of l t).locks ≡ true) → Reaches m t b
hello-reaches l m t b pos le e due =
    let h = subst (Hears b.generation (client_of l t)) (sym e) (hears-hello b.generation (client_of l t) pos le) in
    again-arrives (view m t) t b (client_of l t).unsent h.unsent
    (⊎_elim inl
    (λ j. inr (⊎_elim (λ s. ap is_report_due s ∙ due (sym (ap (λ z. z.entered) s) ∙ h.entered) j) (λ d. d) h.again))
    (cases_Bool (is_joined (seat_of b t))))

-- The repeated hello

-- A tab that has entered the generation keeps what is said of it, when its client handles the hello of that generation again.
pub again-serves : (v : View) (t : ℕ) (b : BrokerState) (rest : List Frame) → v.down ≡ hello b.generation ∷ rest → v.client.is_welcomed ≡ true → v.client.locks.entered ≡ b.generation → 0 < b.generation
    → Serves v t b → Serves (record v { down = rest; client = record v.client { unsent = v.client.unsent ++ unsent.Resend ∷ [] } }) t b
again-serves v t b rest d y e pos s =
    let now : View = record v { down = rest; client = record v.client { unsent = v.client.unsent ++ unsent.Resend ∷ [] } } in
    let later : (f : Frame) → In f rest → In f v.down = λ f i. subst (In f) (sym d) (Later i) in
    record {
      welcomed = λ n. apart y n;
      enters = λ n. absurd (n e);
      answers = λ f i a. s.answers f (later f i) a;
      reaches = λ _. inr (inr (again-arrives now t b v.client.unsent refl
          (⊎_elim inl (λ j. let r = s.reported e j in inr (report-due b.generation v.client.locks v.client.locks pos (record { entered = e; issued = refl; answered = r.answered }))) (cases_Bool (is_joined (seat_of b t))))));
      reported = λ _ j. s.reported e j;
      kept = λ j. let k = s.kept j in record {
        acknowledged = k.acknowledged;
        issued = k.issued;
        queried = k.queried;
        awaited = λ n lt w. inr (inr (inr (inl (inr (inr (In-append_right v.client.unsent Here))))));
        stands = k.stands;
        own = k.own;
        room = k.room;
      };
    }

-- The page asks its client to send again all that is due.
pub resend-serves : (v : View) (t : ℕ) (b : BrokerState) → 0 < b.generation → Serves v t b → Serves (record v { client = record v.client { unsent = v.client.unsent ++ unsent.Resend ∷ [] } }) t b
resend-serves v t b pos s =
    let now : View = record v { client = record v.client { unsent = v.client.unsent ++ unsent.Resend ∷ [] } } in
    record {
      welcomed = s.welcomed;
      enters = s.enters;
      answers = s.answers;
      reaches = λ e. inr (inr (again-arrives now t b v.client.unsent refl
          (⊎_elim inl (λ j. let r = s.reported e j in inr (report-due b.generation v.client.locks v.client.locks pos (record { entered = e; issued = refl; answered = r.answered }))) (cases_Bool (is_joined (seat_of b t))))));
      reported = s.reported;
      kept = λ j. let k = s.kept j in record {
        acknowledged = k.acknowledged;
        issued = k.issued;
        queried = k.queried;
        awaited = λ n lt w. inr (inr (inr (inl (inr (inr (In-append_right v.client.unsent Here))))));
        stands = k.stands;
        own = k.own;
        room = k.room;
      };
    }
