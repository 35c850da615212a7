-- The hub handles the oldest frame of an honest tab: the tab is served as before. Here the frame is a command.
use Rattle.std.proofs.Common.{◌≡◌, ◌≢◌, ◌⊎◌, inl, inr, ⊎_elim, ℕ, ◌+◌, ◌<◌, ◌≤◌, true, false, not, ◌&&◌, ◌||◌, List, [], ◌∷◌, ◌++◌, length, map, filter, refl, sym, ap, ◌∙◌, subst, arith, length-append}
use Rattle.std.specs.Prelude.{◌==◌, if◌then◌else◌, nat_lt, nat_le}
use Rattle.std.proofs.lemmas.Bool.{cases_Bool, cases_eq, not-true, not-false, or_cases, or_parts, and_parts, eq-eqb, ne_eqb, eqb-true, ltb-true, ltb-false, leb-true, false_from_ne_true}
use Rattle.std.proofs.lemmas.List.Sums.{length-filter}
use Rattle.std.proofs.lemmas.List.{length-map}
use Rattle.wl_limits.specs.declared.tabs.TheConstants.{LAST_NUMBER}
use Rattle.wl_draft.specs.declared.row.Row.{Row}
use Rattle.wl_draft.specs.Locks.{Locks, live, count_of}
use Rattle.wl_draft.specs.Membership.{In, Here}
use Rattle.wl_draft.proofs.Membership.{apart, either, In-nil, In-one, In-cons_cases, In-append_right, In-append_cases}
use Rattle.wl_grammar.specs.declared.frame.Command.{Command}
use Rattle.wl_grammar.specs.declared.frame.Stamped.{Stamped}
use Rattle.wl_grammar.specs.declared.frame.Operation.{Operation}
use Rattle.wl_grammar.specs.declared.frame.Addressed.{Addressed}
use Rattle.wl_grammar.specs.declared.frame.Snapshot.{Snapshot as Part}
use Rattle.wl_grammar.specs.declared.frame.Upward.TheVariants as up
use Rattle.wl_grammar.specs.declared.frame.Frame.{Frame}
use Rattle.wl_grammar.specs.declared.frame.Frame.TheVariants as frame
use Rattle.wl_broker.specs.declared.seat.TabSeat.TheVariants.{Joined}
use Rattle.wl_broker.specs.declared.dropped.Dropped.{Dropped}
use Rattle.wl_broker.specs.declared.dropped.Dropped.TheVariants.{OldGeneration, LaterGeneration, NotJoined, Recovering, OutOfTurn, DeadTab, Misplaced, TooMany}
use Rattle.wl_broker.specs.Broker.{BrokerState, Taking, Drops, Does, seat_of, partial_of, manager_of, next_of, limit_of, is_joined, is_dead, is_active, is_misplaced, is_lock, later_answer, perform, take_command, taking}
use Rattle.wl_broker.proofs.Counting.{seat_of-settled_at}
use Rattle.wl_agent.specs.Tab.{TabState, status_of, operation_of, is_asked, is_querying, is_request, is_report_due}
use Rattle.wl_kernel.specs.Routes.{frame_of}
use Rattle.wl_hub.specs.Hub.{from_broker}
use Rattle.wl_library_model.specs.Simulation.{IsSettled}
use Rattle.wl_quiescence.proofs.rest.Invariant.{View, Says, Away, Nothing, item_of, items_of, unsent_items, after_item, seen, outputs_to, is_answer_in, Greets, IsNoted, numbers_at, HasKept, Serves}
use Rattle.wl_quiescence.proofs.rest.Items.{item-arrives}
use Rattle.wl_quiescence.proofs.rest.Broker.{after_taking, command-seen, command-early, away-seen}
use Rattle.wl_quiescence.proofs.hub.Rows.{numbers_in, numbers-append}
use Rattle.wl_quiescence.proofs.hub.Moves.{grown, Waits, Goes, greets-grown, noted-grown, waits-grown}
use Rattle.wl_quiescence.proofs.hub.Others.{sent-cases, sent-In, settled-generation}
use Rattle.wl_quiescence.proofs.hub.Snapshot.{query-comes}
use Rattle.wl_broker.proofs.Takings.{after_command, told_by_command}
use Rattle.wl_broker.proofs.Drops.{old_generation, later_generation}
use Rattle.wl_grammar.specs.declared.frame.Answer.{Answer}
use Rattle.wl_grammar.specs.declared.frame.Downward.TheVariants as down
use Rattle.wl_quiescence.proofs.hub.Performed.{KnowsTab, answered, performed, performed-kept}

-- The frames of an action of the broker.
abbrev pub outs_of : Taking → List Addressed
outs_of (Drops reason) = []
outs_of (Does c outs) = outs

-- Any frame

-- The oldest frame is handled, and what the broker has of the tab is what the frame's item says, or the tab is early.
pub handled-serves : (v : View) (fs more : List Frame) (es : List ℕ) (t : ℕ) (b c : BrokerState) (f : Frame) → v.up ≡ f ∷ fs → Goes v es t b c
    → ((x : Frame) → In x more → is_answer_in b.generation x ≡ true → is_joined (seat_of c t) ≡ true)
    → (v.client.locks.entered ≡ b.generation → (seen c t ≡ after_item v.place (is_report_due v.client.locks) (length v.client.locks.issued) (item_of b.generation f) (seen b t)) ⊎ IsNoted (grown v fs more es) t c)
    → (is_joined (seat_of c t) ≡ true → HasKept (grown v fs more es) t c v.client.locks)
    → Serves v t b → Serves (grown v fs more es) t c
handled-serves v fs more es t b c f u goes answers takes kept x =
    let n = grown v fs more es in
    let greets : Greets b.generation v → Greets c.generation n = greets-grown v fs more es b c goes.generation in
    record {
      welcomed = λ w. greets (x.welcomed w);
      enters = λ d. greets (x.enters (λ e. d (e ∙ sym goes.generation)));
      answers = λ g i y.
          let z = subst (λ k. is_answer_in k g ≡ true) goes.generation y in
          ⊎_elim (λ j. goes.joined (x.answers g j z)) (λ j. answers g j z) (In-append_cases v.down more i);
      reaches = λ e. ⊎_elim
          (λ s. ⊎_elim (λ i. inl (greets i))
          (λ o. inr (⊎_elim (λ i. inl (noted-grown v fs more es t b c goes i)) (λ r. inr (item-arrives v t b c f fs u goes.generation s r)) o))
          (x.reaches (e ∙ goes.generation)))
          (λ i. inr (inl i)) (takes (e ∙ goes.generation));
      reported = λ e j. x.reported (e ∙ goes.generation) (false_from_ne_true _ (λ y. apart (goes.joined y) j));
      kept = kept;
    }

-- The items without the frame's.
pub says-cases : (v : View) (fs more : List Frame) (es : List ℕ) (g k : ℕ) (f : Frame) → v.up ≡ f ∷ fs → In (Says k) (items_of g v)
    → (Says k ≡ item_of g f) ⊎ In (Says k) (items_of g (grown v fs more es))
says-cases v fs more es g k f u i =
    In-cons_cases (subst (λ zs. In (Says k) (map (item_of g) (zs ++ v.client.report) ++ unsent_items v.client)) u i)

-- The broker stays as it is.
pub kept-same : (v : View) (fs more : List Frame) (es : List ℕ) (t : ℕ) (b : BrokerState) → (In t v.early → In t es) → ((x : Part) → In (frame.Snapshot x) more → ⊥)
    → ((k : ℕ) → k < next_of b t → (is_asked (status_of v.client.locks k) || is_querying (status_of v.client.locks k)) ≡ true → In (Says k) (items_of b.generation v) → Waits (grown v fs more es) t b k)
    → HasKept v t b v.client.locks → HasKept (grown v fs more es) t b v.client.locks
kept-same v fs more es t b early quiet said h = record {
  acknowledged = h.acknowledged;
  issued = h.issued;
  queried = h.queried;
  awaited = λ k lt e. waits-grown v fs more es t b b k (record { generation = refl; noted = early; joined = λ j. j }) (λ x i _. quiet x i) (λ r y. inl (r, y)) (said k lt e) (h.awaited k lt e);
  stands = h.stands;
  own = h.own;
  room = h.room;
}

pub says-nothing : (k : ℕ) → Says k ≡ Nothing → ⊥
says-nothing k e = cc

-- The frame is of another generation, and is dropped.
pub nothing-serves : (v : View) (fs : List Frame) (es : List ℕ) (t : ℕ) (b : BrokerState) (f : Frame) → v.up ≡ f ∷ fs → item_of b.generation f ≡ Nothing → (In t v.early → In t es)
    → Serves v t b → Serves (grown v fs [] es) t b
nothing-serves v fs es t b f u none early serves =
    let a = v.client.locks in
    handled-serves v fs [] es t b b f u (record { generation = refl; noted = early; joined = λ j. j }) (λ f i y. absurd (In-nil i))
    (λ _. inl (ap (λ z. after_item v.place (is_report_due a) (length a.issued) z (seen b t)) (sym none)))
    (λ j. kept-same v fs [] es t b early (λ y i. In-nil i)
    (λ k lt e i. ⊎_elim (λ s. absurd (says-nothing k (s ∙ none))) (λ s. inr (inr (inr (inr s)))) (says-cases v fs [] es b.generation k f u i))
    (serves.kept j)) serves

-- Numbers

live-counts : (t : ℕ) (rows : List Row) → count_of t rows ≡ length (numbers_in t rows)
live-counts t rows = sym (length-filter (λ (r : Row). r.client == t) rows) ∙ sym (length-map (filter (λ (r : Row). r.client == t) rows) (λ (r : Row). r.number))

pub live-numbers : (m : Locks) (t : ℕ) → live m t ≡ length (numbers_at m t)
live-numbers m t =
    let a = live-counts t m.held in let b = live-counts t m.waiting in
    let c = ap length (numbers-append t m.held m.waiting) ∙ length-append (numbers_in t m.held) (numbers_in t m.waiting) in omega (arith, a, b, c)

-- A command

-- An honest tab's command: its tab lives in its own partition, and the command is the tab's, or settled.
pub record IsSaidBy (v : View) (t : ℕ) (b : BrokerState) (x : Command) : Type 0 where
  pub alive : is_dead (seat_of b t) ≡ false
  pub placed : is_misplaced b t v.place ≡ false
  pub last : x.generation ≡ b.generation → x.number ≢ LAST_NUMBER
  pub same : x.generation ≡ b.generation → (operation_of v.client.locks x.number ≡ x.operation) ⊎ IsSettled v.client.locks x.number
  pub issued : x.generation ≡ b.generation → x.number < length v.client.locks.issued

abbrev pub command_of : View → ℕ → Command → Stamped
command_of v t x = record { tab = t; partition = v.place; inner = up.Command x }

taking-now : (b : BrokerState) (t p : ℕ) (x : Command) → x.generation ≡ b.generation → is_dead (seat_of b t) ≡ false → is_misplaced b t p ≡ false
    → taking b (record { tab = t; partition = p; inner = up.Command x }) ≡ take_command b t p x.number x.operation
unfolding taking
taking-now b t p x g alive placed =
    let Is = λ (z : Taking). z ≡ take_command b t p x.number x.operation in
    either Is (nat_lt x.generation b.generation) (Drops OldGeneration) _ (λ y. let lt : x.generation < b.generation = ltb-true x.generation b.generation y in absurd (omega (arith, lt, g)))
    (λ _. either Is (nat_lt b.generation x.generation) (Drops LaterGeneration) _ (λ y. let lt : b.generation < x.generation = ltb-true b.generation x.generation y in absurd (omega (arith, lt, g)))
    (λ _. either Is (is_dead (seat_of b t)) (Drops DeadTab) _ (λ y. apart y alive)
    (λ _. either Is (is_misplaced b t p) (Drops Misplaced) _ (λ y. apart y placed) (λ _. refl))))

command-away : (b : BrokerState) (t p n : ℕ) (o : Operation) → is_joined (seat_of b t) ≡ false → take_command b t p n o ≡ Drops NotJoined
unfolding take_command
command-away b t p n o j = either (λ z. z ≡ Drops NotJoined) (not (is_joined (seat_of b t))) (Drops NotJoined) _ (λ _. refl) (λ y. apart (not-false _ y) j)

snapshot-later : (o : Addressed) (x : Part) → {d : Answer} → o.inner ≡ down.Answer d → frame.Snapshot x ≡ frame_of o.inner → ⊥
snapshot-later o x {d = d} e f = differ x d (f ∙ ap frame_of e)
  where
    differ : (x : Part) (d : Answer) → frame.Snapshot x ≡ frame.Answer d → ⊥
    differ x d e = cc

-- What the tab's command leaves.
abbrev Ends : View → List Frame → List ℕ → ℕ → BrokerState → Taking → Type 0
Ends v fs es t b o = Serves (grown v fs (outputs_to t (from_broker (outs_of o))) es) t (after_taking b o)

stay : (v : View) (es : List ℕ) (t : ℕ) (b : BrokerState) → (In t v.early → In t es) → Goes v es t b b
stay v es t b early = record { generation = refl; noted = early; joined = λ j. j }

says-same : (k n : ℕ) → Says k ≡ Says n → k ≡ n
says-same k n e = cc

-- The broker is still the tab's, and has its commands as before.
record Keeps (v : View) (fs : List Frame) (es : List ℕ) (t : ℕ) (b : BrokerState) (o : Taking) : Type 0 where
  goes : Goes v es t b (after_taking b o)
  kept : HasKept (grown v fs (outputs_to t (from_broker (outs_of o))) es) t (after_taking b o) v.client.locks

module _ (v : View) (fs : List Frame) (es : List ℕ) (t : ℕ) (b : BrokerState) (x : Command) (u : v.up ≡ frame.Command x ∷ fs) (knows : is_joined (seat_of b t) ≡ true → KnowsTab v t b) (said : IsSaidBy v t b x) (early : In t v.early → In t es) (serves : Serves v t b) where
  abbrev a : TabState
  a = v.client.locks

  stale-serves : (r : Dropped) → x.generation ≢ b.generation → Ends v fs es t b (Drops r)
  stale-serves r d = nothing-serves v fs es t b (frame.Command x) u (ap (λ z. if z then Says x.number else Nothing) (ne_eqb x.generation b.generation d)) early serves

  module _ (g : x.generation ≡ b.generation) where
    item : item_of b.generation (frame.Command x) ≡ Says x.number
    item = ap (λ z. if z then Says x.number else Nothing) (eq-eqb x.generation b.generation g)

    still-said : (more : List Frame) (k : ℕ) → (k ≢ x.number) → In (Says k) (items_of b.generation v) → In (Says k) (items_of b.generation (grown v fs more es))
    still-said more k d i = ⊎_elim (λ s. absurd (d (says-same k x.number (s ∙ item)))) (λ s. s) (says-cases v fs more es b.generation k (frame.Command x) u i)

    away-serves : is_joined (seat_of b t) ≡ false → Ends v fs es t b (Drops NotJoined)
    away-serves j =
        handled-serves v fs [] es t b b (frame.Command x) u (stay v es t b early) (λ f i y. absurd (In-nil i))
        (λ _. inl (away-seen b t j ∙ (ap (λ z. after_item v.place (is_report_due a) (length a.issued) z (Away (partial_of b t))) (sym item)
        ∙ ap (λ z. after_item v.place (is_report_due a) (length a.issued) (item_of b.generation (frame.Command x)) z) (sym (away-seen b t j)))))
        (λ y. apart y j) serves

    early-serves : is_joined (seat_of b t) ≡ true → In t es → Ends v fs es t b (Drops Recovering)
    early-serves j i =
        handled-serves v fs [] es t b b (frame.Command x) u (stay v es t b early) (λ f i y. absurd (In-nil i))
        (λ _. inr (j, i))
        (λ _. kept-same v fs [] es t b early (λ y i. In-nil i) (λ k lt e _. inr (inr (inr (inl (inr (inl (j, i))))))) (serves.kept j)) serves

    module _ (joined : is_joined (seat_of b t) ≡ true) (active : is_active b v.place ≡ true) where
      kept : HasKept v t b a
      kept = serves.kept joined

      known : KnowsTab v t b
      known = knows joined

      -- A number from the next one on is the tab's.
      ours : next_of b t ≤ x.number → operation_of a x.number ≡ x.operation
      ours le = ⊎_elim (λ e. e) (λ s. let lt : x.number < a.report.base = s.reported in let low = known.base in absurd (omega (arith, lt, low, le))) (said.same g)

      room : x.number ≡ next_of b t → is_lock x.operation ≡ true → live (manager_of b v.place) t < limit_of b t
      room e l =
          let op = ours (omega (arith, e)) in
          let i = said.issued g in
          let zero-more : next_of b t + 0 ≡ x.number = omega (arith, e) in
          let h = kept.room 0 (omega (arith, i, zero-more)) (ap (λ z. is_lock (operation_of a z)) zero-more ∙ (ap is_lock op ∙ l)) in
          let n = live-numbers (manager_of b v.place) t in omega (arith, h, n)

      again : (n : ℕ) → n ≡ x.number → n < next_of b t → Keeps v fs es t b (Does b (later_answer b t v.place n x.operation ∷ []))
      again n e lt =
          let outs = later_answer b t v.place n x.operation ∷ [] in
          let more = outputs_to t (from_broker outs) in
          let w = grown v fs more es in
          record {
            goes = stay v es t b early;
            kept = kept-same v fs more es t b early
                (λ y i. let s = sent-cases t outs (frame.Snapshot y) i in snapshot-later (later_answer b t v.place n x.operation) y refl (s.3 ∙ ap (λ (z : Addressed). frame_of z.inner) (In-one s.1)))
                (λ k lk ek i. ⊎_elim
                (λ f.
                let op : (operation_of a n ≡ x.operation) ⊎ IsSettled a n = subst (λ z. (operation_of a z ≡ x.operation) ⊎ IsSettled a z) (sym e) (said.same g) in
                let en : (is_asked (status_of a n) || is_querying (status_of a n)) ≡ true = subst (λ z. (is_asked (status_of a z) || is_querying (status_of a z)) ≡ true) f ek in
                subst (Waits w t b) (sym f)
                (⊎_elim
                (λ o.
                answered w t n b x.operation o
                (⊎_elim (λ y. inl (sym (ap is_lock o) ∙ known.asks n y)) (λ y. inr (sym o ∙ known.querying n y)) (or_cases (is_asked (status_of a n)) (is_querying (status_of a n)) en))
                (λ r. ⊎_elim (λ y. kept.stands n lt y (ap is_request o ∙ r)) (λ y. absurd (apart r (ap is_request (sym o ∙ known.querying n y)))) (or_cases (is_asked (status_of a n)) (is_querying (status_of a n)) en))
                (λ r. known.probes n (ap is_request o ∙ r))
                (In-append_right v.down (sent-In t outs (later_answer b t v.place n x.operation) Here refl)))
                (λ s. apart en s.over) op))
                (λ d. inr (inr (inr (inr (still-said more k (λ z. d (z ∙ sym e)) i))))) (cases_eq k n))
                kept;
          }

      first : (n : ℕ) (o : Operation) → n ≡ next_of b t → o ≡ operation_of a (next_of b t) → n ≡ x.number → Keeps v fs es t b (Does (after_command b t v.place n o) (told_by_command b t v.place n o))
      first n o e f h =
          let i = said.issued g in
          let below : next_of b t < length a.issued = omega (arith, i, e, h) in
          subst (λ z. Keeps v fs es t b (Does (after_command b t v.place z o) (told_by_command b t v.place z o))) (sym e)
          (subst (λ z. Keeps v fs es t b (Does (after_command b t v.place (next_of b t) z) (told_by_command b t v.place (next_of b t) z))) (sym f)
          (let goes : Goes v es t b (performed v fs es t b known kept joined below) = record {
            generation = settled-generation _ v.place _;
            noted = early;
            joined = λ _. ap is_joined (seat_of-settled_at b t (Joined v.place (next_of b t + 1) (limit_of b t)) v.place _);
          } in
          record {
            goes = goes;
            kept = performed-kept v fs es t b known kept joined below goes (λ k d y. still-said (outputs_to t (from_broker (told_by_command b t v.place (next_of b t) (operation_of a (next_of b t))))) k (λ z. d (z ∙ (sym h ∙ e))) y) (λ q. query-comes v fs es t b known q);
          }))

      command-keeps : Keeps v fs es t b (take_command b t v.place x.number x.operation)
      unfolding take_command perform
      command-keeps =
          let Is = Keeps v fs es t b in
          let n = x.number in
          either Is (not (is_joined (seat_of b t))) (Drops NotJoined) _ (λ y. apart joined (not-true _ y))
          (λ _. either Is (not (is_active b v.place)) (Drops Recovering) _ (λ y. apart active (not-true _ y))
          (λ _. either Is (nat_lt (next_of b t) n || n == LAST_NUMBER) (Drops OutOfTurn) _
          (λ y. record {
            goes = stay v es t b early;
            kept = kept-same v fs [] es t b early (λ z i. In-nil i)
                (λ k lt e i. inr (inr (inr (inr (still-said [] k
                (λ f. ⊎_elim (λ z. let up : next_of b t < n = ltb-true (next_of b t) n z in omega (arith, up, lt, f)) (λ z. said.last g (eqb-true n LAST_NUMBER z)) (or_cases (nat_lt (next_of b t) n) (n == LAST_NUMBER) y)) i))))) kept;
          })
          (λ y. either Is (nat_lt n (next_of b t)) (Does b (later_answer b t v.place n x.operation ∷ [])) _
          (λ z. again n refl (ltb-true n (next_of b t) z))
          (λ z.
          let high : n ≤ next_of b t = ltb-false (next_of b t) n (or_parts (nat_lt (next_of b t) n) (n == LAST_NUMBER) y).0 in
          let low : next_of b t ≤ n = ltb-false n (next_of b t) z in
          let e : n ≡ next_of b t = omega (arith, high, low) in
          either Is (is_lock x.operation && nat_le (limit_of b t) (live (manager_of b v.place) t)) (Drops TooMany) _
          (λ q. let h = and_parts (is_lock x.operation) (nat_le (limit_of b t) (live (manager_of b v.place) t)) q in let lt = room e h.0 in let le = leb-true (limit_of b t) (live (manager_of b v.place) t) h.1 in absurd (omega (arith, lt, le)))
          (λ q. first n x.operation e (sym (ours low) ∙ ap (operation_of a) e) refl)))))

      active-serves : Ends v fs es t b (take_command b t v.place x.number x.operation)
      active-serves =
          let o = take_command b t v.place x.number x.operation in
          let k = command-keeps in
          handled-serves v fs (outputs_to t (from_broker (outs_of o))) es t b (after_taking b o) (frame.Command x) u k.goes (λ _ _ _. k.goes.joined joined)
          (λ _. inl (command-seen (is_report_due a) (length a.issued) b t v.place x.number x.operation active (said.last g) room
          ∙ ap (λ z. after_item v.place (is_report_due a) (length a.issued) z (seen b t)) (sym item)))
          (λ _. k.kept) serves

    now-serves : (take_command b t v.place x.number x.operation ≡ Drops Recovering → In t es) → Ends v fs es t b (take_command b t v.place x.number x.operation)
    now-serves noted =
        ⊎_elim
        (λ j. ⊎_elim (λ y. active-serves j y)
        (λ y. let e = command-early b t v.place x.number x.operation j y in subst (Ends v fs es t b) (sym e) (early-serves j (noted e))) (cases_Bool (is_active b v.place)))
        (λ j. subst (Ends v fs es t b) (sym (command-away b t v.place x.number x.operation j)) (away-serves j))
        (cases_Bool (is_joined (seat_of b t)))

  -- The hub handles the tab's command.
  pub command-serves : (taking b (command_of v t x) ≡ Drops Recovering → In t es) → Ends v fs es t b (taking b (command_of v t x))
  command-serves noted =
      ⊎_elim
      (λ g. let e = taking-now b t v.place x g said.alive said.placed in subst (Ends v fs es t b) (sym e) (now-serves g (λ z. noted (e ∙ z))))
      (λ d. ⊎_elim
      (λ lt. subst (Ends v fs es t b) (sym (old_generation b (command_of v t x) lt)) (stale-serves OldGeneration d))
      (λ lt. subst (Ends v fs es t b) (sym (later_generation b (command_of v t x) lt)) (stale-serves LaterGeneration d))
      (less x.generation b.generation d))
      (cases_eq x.generation b.generation)
    where
      less : (m n : ℕ) → m ≢ n → (m < n) ⊎ (n < m)
      less m n d = ⊎_elim (λ y. inl (ltb-true m n y)) (λ y. let le : n ≤ m = ltb-false m n y in inr (omega (arith, le, d))) (cases_Bool (nat_lt m n))
