-- What a tab does keeps what is said of its releases.
use Rattle.std.proofs.Common.{◌≡◌, ⊎_elim, ℕ, ◌<◌, ◌≤◌, Bool, true, false, ◌&&◌, List, [], ◌∷◌, ◌++◌, length, get_or, Option, is_some, refl, sym, ap, ◌∙◌, subst, arith, length-append}
use Rattle.std.proofs.lemmas.List.{get_or_append_left, get_or_at}
use Rattle.std.proofs.lemmas.Bool.{cases_Bool, cases_eq, or_left, or_cases}
use Rattle.wl_draft.specs.Locks.{Locks, held_of}
use Rattle.wl_draft.specs.Membership.{In}
use Rattle.wl_draft.proofs.Membership.{apart, either, In-nil, In-append_left}
use Rattle.wl_grammar.specs.declared.frame.Operation.{Operation}
use Rattle.wl_grammar.specs.declared.frame.Operation.TheVariants.{Request, Release, Abort, Query}
use Rattle.wl_broker.specs.declared.seat.TabSeat.{TabSeat}
use Rattle.wl_broker.specs.Broker.{seat_of, manager_of, next_in, next_of, is_joined, is_dead}
use Rattle.wl_agent.specs.declared.status.Status.{Status}
use Rattle.wl_agent.specs.declared.status.Status.TheVariants.{Asked, Querying}
use Rattle.wl_agent.specs.SnapshotParts.{no_parts}
use Rattle.wl_agent.specs.Tab.{TabState, status_of, operation_of, is_asked, is_querying, ask_refusal, query_refusal, asked, queried, aborted, released, issue, finish, ended}
use Rattle.wl_agent.specs.Tokens.{is_pending, is_holding, is_asking, after_query}
use Rattle.wl_agent.specs.Delivery.{delivery}
use Rattle.wl_agent.specs.AgentLaws.{Call, Asks, Queries, Tells, Aborts, Releases as ReleasesCall, Hears, step as call_step}
use Rattle.wl_tab.specs.Tabs.{told}
use Rattle.wl_world_model.specs.World.{WorldState, tab_of, lives, partition_of}
use Rattle.wl_world_model.specs.Holdings.{IsHonest}
use Rattle.wl_world_model.proofs.exclusion.Invariant.{broker_of, was_opened, row_at}
use Rattle.wl_world_model.proofs.exclusion.CoverExcludes.{held_alive}
use Rattle.wl_world_model.proofs.order.Standings.{has_pair-from}
use Rattle.wl_library_model.proofs.Later.{Later}
use Rattle.wl_library_model.proofs.Happens.{Good}
use Rattle.wl_quiescence.proofs.rest.Invariant.{numbers_at}
use Rattle.wl_quiescence.proofs.calls.Room.{OnceBelow, number-In, once-apart}
use Rattle.wl_quiescence.proofs.facts.Tabs.{ActsOnce, OneCall, Stays, Calls, Heard}
use Rattle.wl_quiescence.proofs.facts.Rows.{entries-row}
use Rattle.wl_quiescence.proofs.facts.Reported.{delivery-issued, told-issued}
use Rattle.wl_quiescence.proofs.facts.Releases.{Reports, GoesOn, First, Anew, delivery-reports, told-reports}
use Rattle.wl_quiescence.proofs.facts.Released.{NoneWaits, ToldHeld, Releases, AllReleases}

-- A tab that issues nothing.
kept-releases : (a c : TabState) (m : Locks) (t : ℕ) (seat : Option TabSeat) (g : ℕ) → c.issued ≡ a.issued → Reports a c → Releases a m t seat g → Releases c m t seat g
kept-releases a c m t seat g e r x =
    let below : (n : ℕ) → n < length c.issued → n < length a.issued = λ n lt. subst (λ zs. n < length zs) e lt in
    let op : (n j : ℕ) → operation_of c n ≡ Release j → operation_of a n ≡ Release j = λ n j o. ap (λ zs. get_or zs n Query) (sym e) ∙ o in
    record {
      joined = λ y n j le lt o. x.joined y n j le (below n lt) (op n j o);
      away = λ nj nd en n j le lt o. goes nj nd en n j le (below n lt) (op n j o) r;
      none = λ z n j lt o. nothing z n j (below n lt) (op n j o) r;
    }
  where
    goes : is_joined seat ≡ false → is_dead seat ≡ false → c.entered ≡ g → (n j : ℕ) → c.report.base ≤ n → n < length a.issued → operation_of a n ≡ Release j → Reports a c → ToldHeld c.report.entries j
    goes nj nd en n j le lt o (GoesOn s q) = subst (λ z. ToldHeld z.entries j) (sym q) (x.away nj nd (sym s ∙ en) n j (subst (λ z. z.base ≤ n) q le) lt o)
    goes nj nd en n j le lt o (First z) = absurd (x.none z n j lt o)
    goes nj nd en n j le lt o (Anew pos q) = absurd (omega (arith, le, lt, q))

    nothing : c.entered ≡ 0 → (n j : ℕ) → n < length a.issued → operation_of a n ≡ Release j → Reports a c → ⊥
    nothing z n j lt o (GoesOn s q) = x.none (sym s ∙ z) n j lt o
    nothing z n j lt o (First y) = x.none y n j lt o
    nothing z n j lt o (Anew pos q) = omega (arith, pos, z)

-- What is known of a lock that a tab releases now.
record MayRelease (a : TabState) (m : Locks) (t : ℕ) (seat : Option TabSeat) (g : ℕ) (j : ℕ) : Type 0 where
  joined : is_joined seat ≡ true → (j < next_in seat) × NoneWaits t j m
  away : is_joined seat ≡ false → is_dead seat ≡ false → a.entered ≡ g → ToldHeld a.report.entries j
  none : a.entered ≡ 0 → ⊥

-- A tab that issues a command.
issued-releases : (a c : TabState) (o : Operation) (m : Locks) (t : ℕ) (seat : Option TabSeat) (g : ℕ) → c.issued ≡ a.issued ++ o ∷ [] → c.report ≡ a.report → c.entered ≡ a.entered
    → ((j : ℕ) → o ≡ Release j → MayRelease a m t seat g j) → Releases a m t seat g → Releases c m t seat g
issued-releases a c o m t seat g e r s may x = record {
  joined = λ y n j le lt q. by n lt (λ z. x.joined y n j le z (old n j z q)) (λ z. (may j (new n j z q)).joined y);
  away = λ nj nd en n j le lt q.
      subst (λ z. ToldHeld z.entries j) (sym r)
      (by n lt (λ z. x.away nj nd (sym s ∙ en) n j (subst (λ z. z.base ≤ n) r le) z (old n j z q)) (λ z. (may j (new n j z q)).away nj nd (sym s ∙ en)));
  none = λ z n j lt q. by n lt (λ y. x.none (sym s ∙ z) n j y (old n j y q)) (λ y. (may j (new n j y q)).none (sym s ∙ z));
}
  where
    by : {X : Type 0} (n : ℕ) → n < length c.issued → (n < length a.issued → X) → (n ≡ length a.issued → X) → X
    by n lt f h =
        let more = ap length e ∙ length-append a.issued (o ∷ []) in
        ⊎_elim h (λ d. f (omega (arith, lt, more, d))) (cases_eq n (length a.issued))

    old : (n j : ℕ) → n < length a.issued → operation_of c n ≡ Release j → operation_of a n ≡ Release j
    old n j lt q = sym (get_or_append_left a.issued (o ∷ []) Query n lt) ∙ (ap (λ zs. get_or zs n Query) (sym e) ∙ q)

    new : (n j : ℕ) → n ≡ length a.issued → operation_of c n ≡ Release j → o ≡ Release j
    new n j z q = sym (get_or_at a.issued o [] Query n (sym z)) ∙ (ap (λ zs. get_or zs n Query) (sym e) ∙ q)

module _ (m : Locks) (t : ℕ) (seat : Option TabSeat) (g : ℕ) (a : TabState) (x : Releases a m t seat g) where
  abbrev Is : TabState → Type 0
  Is c = Releases c m t seat g

  issue-releases : (o : Operation) (s : Status) → ((j : ℕ) → o ≡ Release j → ⊥) → Is (issue o s a)
  unfolding issue
  issue-releases o s other = issued-releases a (issue o s a) o m t seat g refl refl refl (λ j e. absurd (other j e)) x

  finish-releases : (o : Operation) (k : ℕ) → ((j : ℕ) → o ≡ Release j → MayRelease a m t seat g j) → Is (finish o k a)
  unfolding finish
  finish-releases o k may = issued-releases a (finish o k a) o m t seat g refl refl refl may x

  ended-releases : (k : ℕ) → Is (ended k a)
  unfolding ended
  ended-releases k = kept-releases a (ended k a) m t seat g refl (GoesOn refl refl) x

  call-releases : (y : Call) → ((j : ℕ) → is_holding a j ≡ true → MayRelease a m t seat g j) → Is (call_step y a)
  call-releases (Asks mode b name) may = either Is (is_some (ask_refusal a name)) a (asked mode b name a) (λ _. x) (λ _. issue-releases (Request mode b name) Asked (λ j e. no-request mode b name j e))
    where
      no-request : (mode : _) (b : Bool) (name : List ℕ) (j : ℕ) → Request mode b name ≡ Release j → ⊥
      no-request mode b name j e = cc
  call-releases Queries may = either Is (is_some (query_refusal a)) a (queried a) (λ _. x) (λ _. issue-releases Query (Querying no_parts) (λ j e. no-query j e))
    where
      no-query : (j : ℕ) → Query ≡ Release j → ⊥
      no-query j e = cc
  call-releases (Tells k) may = either Is (is_asking a k) (after_query k a) a (λ _. either Is (is_querying (status_of a k)) a (ended k a) (λ _. x) (λ _. ended-releases k)) (λ _. x)
  call-releases (Aborts k) may = either Is (is_pending a k && is_asked (status_of a k)) (aborted k a) a (λ _. finish-releases (Abort k) k (λ j e. absurd (no-abort k j e))) (λ _. x)
    where
      no-abort : (k j : ℕ) → Abort k ≡ Release j → ⊥
      no-abort k j e = cc
  call-releases (ReleasesCall k) may = either Is (is_holding a k) (released k a) a (λ y. finish-releases (Release k) k (λ j e. subst (MayRelease a m t seat g) (same k j e) (may k y))) (λ _. x)
    where
      same : (k j : ℕ) → Release k ≡ Release j → k ≡ j
      same k j e = cc
  call-releases (Hears f) may = kept-releases a (delivery f a).0 m t seat g (delivery-issued f a) (delivery-reports f a) x

-- An event that leaves the broker alone

module _ (w v : WorldState) (g : Good w) (once : (t : ℕ) → IsHonest w t → is_joined (seat_of (broker_of w) t) ≡ true → OnceBelow (next_of (broker_of w) t) (numbers_at (manager_of (broker_of w) (partition_of w t)) t))
    (later : Later w v) (acts : ActsOnce w v) (x : AllReleases w.tabs w.kernel w.corrupt (broker_of w)) where
  may-release : (t : ℕ) → IsHonest w t → lives w t ≡ true → (j : ℕ) → is_holding (tab_of w t) j ≡ true → MayRelease (tab_of w t) (manager_of (broker_of w) (partition_of w t)) t (seat_of (broker_of w) t) (broker_of w).generation j
  may-release t h lv j y =
      let b = broker_of w in
      let a = tab_of w t in
      let m = manager_of b (partition_of w t) in
      let s = g.sound in
      let cause = (s.messages t).held j y in
      record {
        joined = λ z.
            let at = s.locks.covers t j h (record { living = lv; alive = held_alive _ y; cause = cause }) ((s.seats t).joined h z) (or_left (is_joined (seat_of b t)) (is_dead (seat_of b t)) z) in
            let stands = has_pair-from t j m.held (row_at t a j) at refl refl in
            let o = once t h z in (
              o.1 j (number-In t j m.held (m.held ++ m.waiting) (λ r i. In-append_left m.waiting i) stands),
              λ r i c d. once-apart t j m o.0 stands (has_pair-from t j m.waiting r i c d),
            );
        away = λ nj nd e. ⊎_elim
            (λ i. let o = entries-row t (λ e. e.held) a.report.entries (row_at t a j) i in (o.0, o.1, sym o.4, o.2))
            (λ q. absurd (⊎_elim (λ z. apart z nj) (λ z. apart z nd) (or_cases _ _ (s.locks.granted t a.entered j q (e ∙ s.current)))))
            cause;
        none = λ z. ⊎_elim
            (λ i. In-nil (subst (λ es. In (row_at t a j) (held_of t es)) ((s.tabs t).state.first z) i))
            (λ q. let pos = ((s.messages t).grants a.entered j q).0 in omega (arith, pos, z))
            cause;
      }

  tab-releases : (t : ℕ) → IsHonest w t → OneCall (lives w t) (tab_of w t) (tab_of v t)
      → Releases (tab_of v t) (manager_of (broker_of w) (partition_of w t)) t (seat_of (broker_of w) t) (broker_of w).generation
  tab-releases t h one =
      let b = broker_of w in
      by (tab_of w t) (lives w t) (tab_of v t) (manager_of b (partition_of w t)) t (seat_of b t) b.generation (x t h) (λ lv j y. may-release t h lv j y) one
    where
      by : (a : TabState) (lv : Bool) (c : TabState) (m : Locks) (t : ℕ) (seat : Option TabSeat) (g : ℕ) → Releases a m t seat g → (lv ≡ true → (j : ℕ) → is_holding a j ≡ true → MayRelease a m t seat g j) → OneCall lv a c → Releases c m t seat g
      by a lv c m t seat g x may Stays = x
      by a lv c m t seat g x may (Calls y call) = call-releases m t seat g a x call (may y)
      by a lv c m t seat g x may (Heard y f) =
          kept-releases a (told (delivery f a).0) m t seat g (told-issued (delivery f a).0 ∙ delivery-issued f a) (told-reports a (delivery f a).0 (delivery-reports f a)) x

  pub later-releases : AllReleases v.tabs v.kernel v.corrupt (broker_of w)
  later-releases t h =
      ⊎_elim
      (λ o.
      subst (λ q. Releases (tab_of v t) (manager_of (broker_of w) q) t (seat_of (broker_of w) t) (broker_of w).generation) (sym (later.opened t o).1)
      (tab-releases t (later.honest t h) (acts.one t o)))
      (λ n. let z = acts.none t n in record {
        joined = λ y n j le lt o. absurd (omega (arith, lt, z));
        away = λ nj nd e n j le lt o. absurd (omega (arith, lt, z));
        none = λ e n j lt o. omega (arith, lt, z);
      })
      (cases_Bool (was_opened w t))
