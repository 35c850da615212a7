-- Each call of an agent keeps `IsReady`, so it holds of each client.
use Rattle.std.proofs.Common.{◌≡◌, ◌≢◌, ⊎_elim, ℕ, zero, suc, ◌+◌, ◌<◌, ◌≤◌, Bool, true, false, not, List, [], length, map, filter, get_or, refl, sym, ap, ap₂, ◌∙◌, subst, arith}
use Rattle.std.specs.Prelude.{◌==◌, nat_lt}
use Rattle.std.proofs.lemmas.Bool.{cases_lt, eq-eqb, eqb-true, ltb-true, and_parts, not-true, not_from_false}
use Rattle.wl_draft.specs.Membership.{In}
use Rattle.wl_draft.specs.Tables.{Table, Rises, find}
use Rattle.wl_draft.specs.declared.row.Entry.{Entry}
use Rattle.wl_draft.proofs.Membership.{apart, either, In-nil, In-map_cases, In-filter}
use Rattle.wl_draft.proofs.RisingTables.{Rises-filter, find-In, In-find}
use Rattle.wl_grammar.specs.declared.frame.Frame.{Frame}
use Rattle.wl_grammar.specs.declared.frame.Frame.TheVariants as frame
use Rattle.wl_grammar.specs.declared.frame.Operation.{Operation}
use Rattle.wl_grammar.specs.declared.frame.Operation.TheVariants.{Request, Release, Abort, Query}
use Rattle.wl_broker.specs.Broker.{is_lock}
use Rattle.wl_agent.specs.declared.delivered.Delivered.{Delivered}
use Rattle.wl_agent.specs.declared.status.Status.{Status}
use Rattle.wl_agent.specs.Tab.{TabState, born, operation_of, reserves_number, live_numbers, live_limit, issue, finish, asked, queried, aborted, released, enter, enter_first, enter_later, report_of}
use Rattle.wl_agent.specs.Delivery.{delivery, noted, after_answer, after_part, told_by_answer, has_entered}
use Rattle.wl_tab.specs.Tabs.{is_told, told}
use Rattle.wl_world_model.proofs.exclusion.Invariant.{SoundTab}
use Rattle.wl_library_model.specs.Library.{Library, client_of}
use Rattle.wl_library_model.specs.Events.{events}
use Rattle.wl_quiescence.proofs.Reached.{IsReached, world_of, reached-sim}
use Rattle.wl_quiescence.proofs.rest.Invariant.{IsAlive, IsReported, numbered_after, numbered_from}
use Rattle.wl_quiescence.proofs.rest.Entering.{alive-as, kept-same, enter-reported}
use Rattle.wl_quiescence.proofs.calls.Issues.{Issued, one-longer, old-operation, new-operation, numbered-same, numbered-last, after-cases}
use Rattle.wl_quiescence.proofs.calls.Steps.{asked-issued, queried-issued, aborted-issued, released-issued, few-asked}
use Rattle.wl_quiescence.proofs.calls.Room.{OnceBelow, from-below, live-rows}
use Rattle.wl_quiescence.proofs.calls.Reports.{run-reports}
use Rattle.wl_quiescence.proofs.client.Answers.{answered_by, answered-entered}
use Rattle.wl_quiescence.proofs.client.Parts.{snapped_by, snapped-entered}
use Rattle.wl_quiescence.proofs.client.Frames.{client-locks, client-sound}
use Rattle.wl_quiescence.proofs.joins.Ready.{reported_numbers, numbered_to, IsReady}
use Rattle.wl_quiescence.proofs.joins.Clients.{KeptByClient, IsKnownOf, reached-clients}

-- Facts of the agent of a welcomed client, from the world.
pub record Known (a : TabState) : Type 0 where
  pub number : ℕ
  pub sound : SoundTab number a
  pub low : a.report.base ≤ length a.issued
  pub once : OnceBelow a.report.base (reported_numbers a)

-- One command more

module _ (o : Operation) (a c : TabState) (y : Issued o a c) (parts : c.in_parts ≡ a.in_parts) (x : Known a) (few : is_lock o ≡ true → live_numbers a < live_limit a.in_parts) (r : IsReady a) where
  base : c.report.base ≡ a.report.base
  base = ap (λ z. z.base) y.report

  same-to : (m : ℕ) → a.report.base + m ≤ length a.issued → numbered_to c m ≡ numbered_to a m
  same-to m le =
      ap (λ z. numbered_from c z.base m (map (λ (e : Entry). e.number) z.entries)) y.report
      ∙ numbered-same o a c y m a.report.base (reported_numbers a) le

  own-more : (c.answered ≡ false) → (k m : ℕ) → a.report.base + m ≡ length c.issued → In k (numbered_to c m) → IsAlive c k
  own-more f k zero e i = let longer = one-longer o a c y in let le = x.low in absurd (omega (arith, longer, le, e))
  own-more f k (suc m) e i =
      let longer = one-longer o a c y in
      let last : a.report.base + m ≡ length a.issued = omega (arith, longer, e) in
      let is : numbered_to c (suc m) ≡ numbered_after o (length a.issued) (numbered_to a m) =
      ap (λ z. numbered_from c z.base (suc m) (map (λ (e : Entry). e.number) z.entries)) y.report
      ∙ (numbered-last c m a.report.base (reported_numbers a)
      ∙ (ap (λ z. numbered_after (operation_of c z) z (numbered_from c a.report.base m (reported_numbers a))) last
      ∙ ap₂ (λ p z. numbered_after p (length a.issued) z) (new-operation o a c y) (numbered-same o a c y m a.report.base (reported_numbers a) (omega (arith, last))))) in
      ⊎_elim
      (λ z.
      let alive = r.own (sym y.answered ∙ f) k m last z.0 in
      let lt = x.sound.issued k alive in
      ⊎_elim (λ s. ap reserves_number s ∙ alive) (λ s. apart s.1 z.1) (y.each k (λ s. omega (arith, lt, s))))
      (λ z. subst (IsAlive c) (sym z.0) (y.new z.1))
      (after-cases o (length a.issued) k (numbered_to a m) (subst (In k) is i))

  room-more : c.answered ≡ false → (m : ℕ) → a.report.base + m < length c.issued → is_lock (operation_of c (a.report.base + m)) ≡ true → length (numbered_to a m) < live_limit a.in_parts
  room-more f m lt lock = ⊎_elim
      (λ less. r.room (sym y.answered ∙ f) m less (sym (ap is_lock (old-operation o a c y (a.report.base + m) less)) ∙ lock))
      (λ more.
      let longer = one-longer o a c y in
      let last : a.report.base + m ≡ length a.issued = omega (arith, lt, longer, more) in
      let le : length (numbered_to a m) ≤ live_numbers a =
      live-rows a.statuses (numbered_to a m) (from-below a m a.report.base (reported_numbers a) x.once) (λ k i. r.own (sym y.answered ∙ f) k m last i) in
      let top = few (sym (ap is_lock (ap (operation_of c) last ∙ new-operation o a c y)) ∙ lock) in
      omega (arith, le, top))
      (cases_lt (a.report.base + m) (length a.issued))

  issue-ready : IsReady c
  issue-ready = record {
    first = λ e. let h = r.first (sym y.entered ∙ e) in (y.answered ∙ h.0, base ∙ h.1, ap (λ z. z.entries) y.report ∙ h.2);
    own = λ f k m e i. own-more f k m (let b = base in omega (arith, b, e)) i;
    room = λ f m lt lock.
        let b = base in
        let longer = one-longer o a c y in
        let s = ap length (same-to m (omega (arith, b, lt, longer))) in
        let h = room-more f m (omega (arith, b, lt)) (subst (λ z. is_lock (operation_of c (z + m)) ≡ true) base lock) in
        subst (λ z. length (numbered_to c m) < live_limit z) (sym parts) (omega (arith, s, h));
  }

-- Frames

numbers-as : (a c : TabState) (n m : ℕ) (ks : List ℕ) → c.issued ≡ a.issued → numbered_from c n m ks ≡ numbered_from a n m ks
numbers-as a c n zero ks e = refl
numbers-as a c n (suc m) ks e =
    numbers-as a c (n + 1) m (numbered_after (operation_of c n) n ks) e
    ∙ ap (λ z. numbered_from a (n + 1) m (numbered_after (get_or z n Query) n ks)) e

-- The row of a number that is alive stays when told queries end.
alive-told : (rows : Table Status) (k : ℕ) → Rises 0 rows → reserves_number (find rows k) ≡ true → reserves_number (find (filter (λ row. not (is_told row.1)) rows) k) ≡ true
alive-told rows k r e =
    let o = alive-as (find rows k) e in
    ap reserves_number (In-find 0 k o.status (filter (λ row. not (is_told row.1)) rows) (Rises-filter (λ row. not (is_told row.1)) 0 rows r)
    (In-filter (λ row. not (is_told row.1)) rows (find-In rows k o.status o.is) (not_from_false _ (kept-same o.status o.alive).1)))
    ∙ o.alive

-- The tabs have the same commands and report, and each number that is alive in the first is alive in the second.
record Like (a c : TabState) : Type 0 where
  issued : c.issued ≡ a.issued
  base : c.report.base ≡ a.report.base
  entries : c.report.entries ≡ a.report.entries
  in_parts : c.in_parts ≡ a.in_parts
  answered : c.answered ≡ false → a.answered ≡ false
  alive : (k : ℕ) → IsAlive a k → IsAlive c k

module _ (a c : TabState) (s : Like a c) where
  as-before : (m : ℕ) → numbered_to c m ≡ numbered_to a m
  as-before m = ap₂ (λ n es. numbered_from c n m (map (λ (e : Entry). e.number) es)) s.base s.entries ∙ numbers-as a c a.report.base m (reported_numbers a) s.issued

  like-ready : (c.entered ≡ 0 → (c.answered ≡ false) × (c.report.base ≡ 0) × (c.report.entries ≡ [])) → IsReady a → IsReady c
  like-ready first r =
      let n = ap length s.issued in
      let b = s.base in
      record {
        first = first;
        own = λ f k m e i. s.alive k (r.own (s.answered f) k m (omega (arith, n, b, e)) (subst (In k) (as-before m) i));
        room = λ f m lt lock.
            let same : operation_of c (c.report.base + m) ≡ operation_of a (a.report.base + m) = ap₂ (λ os z. get_or os (z + m) Query) s.issued s.base in
            let h = r.room (s.answered f) m (omega (arith, n, b, lt)) (sym (ap is_lock same) ∙ lock) in
            let e = ap length (as-before m) in
            subst (λ z. length (numbered_to c m) < live_limit z) (sym s.in_parts) (omega (arith, h, e));
      }

told-ready : (a : TabState) → Rises 0 a.statuses → IsReady a → IsReady (told a)
unfolding told
told-ready a rises r = like-ready a (told a) (record { issued = refl; base = refl; entries = refl; in_parts = refl; answered = λ f. f; alive = λ k. alive-told a.statuses k rises }) r.first r

-- `IsReady` says nothing of a tab that was answered.
answered-ready : (c : TabState) → c.entered ≢ 0 → c.answered ≡ true → IsReady c
answered-ready c d y = record { first = λ e. absurd (d e); own = λ f. apart y f; room = λ f. apart y f }

entered-first : (g : ℕ) (a : TabState) → g ≢ 0 → Rises 0 a.statuses → a.entered ≡ 0 → IsReady a → IsReady (told (enter_first g a))
unfolding enter_first told
entered-first g a d rises e r =
    let h = r.first e in
    like-ready a (told (enter_first g a)) (record { issued = refl; base = sym h.1; entries = sym h.2; in_parts = refl; answered = λ _. h.0; alive = λ k. alive-told a.statuses k rises }) (λ z. absurd (d z)) r

-- The report is the tab's, and no command was issued after it.
entered-later : (g : ℕ) (a : TabState) → g ≢ 0 → IsReported (told (enter_later g a)) → IsReady (told (enter_later g a))
unfolding enter_later told report_of
entered-later g a d x =
    let c = told (enter_later g a) in record {
      first = λ z. absurd (d z);
      own = λ f k m e i.
          let none : m ≡ 0 = omega (arith, e) in
          let o = In-map_cases (λ (e : Entry). e.number) c.report.entries (subst (λ z. In k (numbered_to c z)) none i) in
          ⊎_elim (λ y. subst (IsAlive c) (sym o.2) y) (λ y. let le = y.1 in let lt = y.2 in absurd (omega (arith, le, lt))) (x.alive o.0 o.1);
      room = λ f m lt. absurd (omega (arith, lt));
    }

enter-ready : (g : ℕ) (a : TabState) → g ≢ 0 → Known a → IsReady a → IsReady (told (enter g a))
enter-ready g a d x r =
    either (λ (z : TabState). IsReported (told z) → IsReady (told z)) (a.entered == 0) (enter_first g a) (enter_later g a)
    (λ y _. entered-first g a d x.sound.rises (eqb-true a.entered 0 y) r) (λ _ h. entered-later g a d h)
    (enter-reported x.number g a x.sound)

has-some : (g : ℕ) (a : TabState) → has_entered g a ≡ true → a.entered ≢ 0
has-some g a y e = apart (eq-eqb a.entered 0 e) (not-true _ (and_parts (g == a.entered) (not (a.entered == 0)) y).1)

noted-answered : (n : ℕ) (a : TabState) → (told (noted n a)).answered ≡ true
unfolding noted told
noted-answered n a = refl

hears-ready : (f : Frame) (a : TabState) → Known a → IsReady a → IsReady (told (delivery f a).0)
unfolding delivery
hears-ready (frame.Hello x) a k r =
    either {A = TabState × Delivered} (λ z. IsReady (told z.0)) (nat_lt a.entered x.generation) _ _
    (λ y. enter-ready x.generation a (λ e. let lt : a.entered < x.generation = ltb-true a.entered x.generation y in omega (arith, lt, e)) k r)
    (λ _. told-ready a k.sound.rises r)
hears-ready (frame.Answer x) a k r =
    either {A = TabState × Delivered} (λ z. IsReady (told z.0)) (has_entered x.generation a) _ _
    (λ y. answered-ready (answered_by x a) (λ e. has-some x.generation a y (sym (answered-entered x a k.sound.rises) ∙ e)) (noted-answered x.upto (after_answer (told_by_answer x a) a)))
    (λ _. told-ready a k.sound.rises r)
hears-ready (frame.Snapshot x) a k r =
    either {A = TabState × Delivered} (λ z. IsReady (told z.0)) (has_entered x.generation a) _ _
    (λ y. answered-ready (snapped_by x a) (λ e. has-some x.generation a y (sym (snapped-entered x a k.sound.rises) ∙ e)) (noted-answered (x.number + 1) (after_part x a)))
    (λ _. told-ready a k.sound.rises r)
hears-ready f a k r = told-ready a k.sound.rises r

-- All clients

born-ready : (i : Bool) (t n : ℕ) → IsReady (born i t n)
born-ready i t n = record {
  first = λ _. (refl, refl, refl);
  own = λ _ k m e j. let none : m ≡ 0 = omega (arith, e) in absurd (In-nil (subst (λ z. In k (numbered_to (born i t n) z)) none j));
  room = λ _ m lt. absurd (omega (arith, lt));
}

ready-kept : KeptByClient Known IsReady
unfolding issue finish
ready-kept = record {
  born = born-ready;
  asks = λ mode b name a k n. issue-ready (Request mode b name) a (asked mode b name a) (asked-issued mode b name a) refl k (λ _. few-asked a name n);
  queries = λ a k. issue-ready Query a (queried a) (queried-issued a) refl k (λ e. apart e refl);
  aborts = λ j a k. issue-ready (Abort j) a (aborted j a) (aborted-issued j a) refl k (λ e. apart e refl);
  releases = λ j a k. issue-ready (Release j) a (released j a) (released-issued j a) refl k (λ e. apart e refl);
  hears = hears-ready;
}

reached-known : (l : Library) → IsReached l → IsKnownOf Known l
reached-known l r t y =
    let w = world_of l r in
    let s = reached-sim l r in
    let same = client-locks l w t s y in
    record {
      number = t;
      sound = client-sound l w t s y;
      low = subst (λ (z : TabState). z.report.base ≤ length z.issued) (sym same) (s.good.fit.low t);
      once = subst (λ (z : TabState). OnceBelow z.report.base (reported_numbers z)) (sym same) (run-reports (events r.steps) t);
    }

pub reached-ready : (l : Library) (t : ℕ) → IsReached l → IsReady (client_of l t).locks
reached-ready l t r = reached-clients Known IsReady ready-kept reached-known l r t
