-- At rest a held lock conflicts with the first request of each name for which one waits.
use Rattle.std.proofs.Common.{◌≡◌, ◌⊎◌, inl, inr, ⊎_elim, ℕ, true, false, not, ◌&&◌, ◌||◌, List, [], ◌∷◌, ◌++◌, Option, Some, None, refl, sym, ap, ◌∙◌, subst}
use Rattle.std.specs.List.{list_any}
use Rattle.std.specs.Prelude.{◌==◌, bytes_eq}
use Rattle.std.proofs.lemmas.Bool.{cases_Bool, and_parts, eqb-true}
use Rattle.std.proofs.lemmas.Slice.Eq.{bytes_eq-Decides}
use Rattle.wl_origin.specs.Order.{Pair}
use Rattle.wl_draft.specs.declared.row.Row.{Row}
use Rattle.wl_draft.specs.declared.mode.Mode.{Mode}
use Rattle.wl_draft.specs.Locks.{Locks, conflict, is_named, is_free, is_grantable, has_pair, is_pair}
use Rattle.wl_draft.specs.Membership.{In, Here, Later}
use Rattle.wl_draft.specs.Settling.{IsSettled}
use Rattle.wl_draft.proofs.Membership.{apart, In-nil, In-cons_cases, In-append_right, list_any-In}
use Rattle.wl_agent.specs.declared.status.Status.{Status}
use Rattle.wl_agent.specs.declared.status.Status.TheVariants.{Asked, Held, Querying, Whole, Lost}
use Rattle.wl_agent.specs.Tab.{is_asked, operation_of, name_of, mode_of}
use Rattle.wl_broker.specs.Broker.{BrokerState, manager_of}
use Rattle.wl_kernel.specs.Kernel.{OpenedTab, number_or, number_beside}
use Rattle.wl_kernel.specs.Kernel.{tab_of as opened_tab}
use Rattle.wl_world_model.specs.World.{WorldState, empty_world, run, tab_of}
use Rattle.wl_world_model.specs.Holdings.{partition_in}
use Rattle.wl_world_model.specs.Holdings.{IsHonest as IsHonestIn}
use Rattle.wl_world_model.proofs.exclusion.Invariant.{broker_of, broker_in}
use Rattle.wl_library_model.specs.Library.{Library, new_library, run_steps}
use Rattle.wl_library_model.specs.Events.{events}
use Rattle.wl_library_model.specs.Promises.{IsHonest, name_at, mode_at}
use Rattle.wl_library_model.specs.Progress.{place, locks_beside}
use Rattle.wl_quiescence.specs.Quiescence.{LivesIn, IsServed, ServedAtRest, NobodyWaitsForNothing}
use Rattle.wl_world_model.proofs.order.Standings.{has_pair-from}
use Rattle.wl_quiescence.proofs.rest.Served.{held-is}
use Rattle.wl_library_model.proofs.Carried.{Sim}
use Rattle.wl_library_model.proofs.Simulated.{run-sim}

-- Rows

-- The first row of a name: no row ahead has the name, and the row `r` is this one or stands behind it.
record First (name : List ℕ) (rows : List Row) (r : Row) : Type 0 where
  front : List Row
  row : Row
  back : List Row
  split : rows ≡ front ++ row ∷ back
  named : bytes_eq row.name name ≡ true
  ahead : is_named name front ≡ false
  after : (r ≡ row) ⊎ In r back

first_of_name : (name : List ℕ) (rows : List Row) (r : Row) → In r rows → bytes_eq r.name name ≡ true → First name rows r
first_of_name name [] r i e = absurd (In-nil i)
first_of_name name (x ∷ xs) r i e =
    ⊎_elim
    (λ y. record { front = []; row = x; back = xs; split = refl; named = y; ahead = refl; after = In-cons_cases i })
    (λ n.
    let o = first_of_name name xs r (⊎_elim (λ s. apart (sym (ap (λ z. bytes_eq z.name name) s) ∙ e) n) (λ j. j) (In-cons_cases i)) e in
    record { front = x ∷ o.front; row = o.row; back = o.back; split = ap (λ z. x ∷ z) o.split; named = o.named; ahead = ap (λ b. b || is_named name o.front) n ∙ o.ahead; after = o.after })
    (cases_Bool (bytes_eq x.name name))

-- A row under the name conflicts with a mode that is not free.
not_free : (name : List ℕ) (mode : Mode) (rows : List Row) → is_free name mode rows ≡ false → (r : Row) × In r rows × (bytes_eq r.name name ≡ true) × (conflict r.mode mode ≡ true)
not_free name mode [] e = apart refl e
not_free name mode (x ∷ xs) e =
    ⊎_elim
    (λ y. let q = and_parts _ _ y in (x, Here, q.0, q.1))
    (λ n. let o = not_free name mode xs (ap (λ b. not b && is_free name mode xs) (sym n) ∙ e) in (o.0, Later o.1, o.2, o.3))
    (cases_Bool (bytes_eq x.name name && conflict x.mode mode))

-- A request that waits in settled locks is the first of its name or behind it, and a held lock conflicts with the first.
record Behind (m : Locks) (r : Row) : Type 0 where
  first : First r.name m.waiting r
  held : Row
  holds : In held m.held
  name : held.name ≡ r.name
  same : first.row.name ≡ r.name
  conflicts : conflict held.mode first.row.mode ≡ true

behind : (m : Locks) → IsSettled m → (r : Row) → In r m.waiting → Behind m r
unfolding is_grantable
behind m s r i =
    let same = λ (x y : Row). (bytes_eq-Decides x.name y.name).0 in
    let o = first_of_name r.name m.waiting r i ((bytes_eq-Decides r.name r.name).1 refl) in
    let n : o.row.name ≡ r.name = same o.row r o.named in
    let a : is_named o.row.name o.front ≡ false = ap (λ z. is_named z o.front) n ∙ o.ahead in
    let f : is_free o.row.name o.row.mode m.held ≡ false = sym (ap (λ b. not b && is_free o.row.name o.row.mode m.held) a) ∙ s o.front o.back o.row o.split in
    let h = not_free o.row.name o.row.mode m.held f in
    record { first = o; held = h.0; holds = h.1; name = same h.0 o.row h.2 ∙ n; same = n; conflicts = h.3 }

has_row : (t k : ℕ) (rows : List Row) → has_pair t k rows ≡ true → (r : Row) × In r rows × (r.client ≡ t) × (r.number ≡ k)
has_row t k rows e =
    let o = list_any-In (is_pair t k) rows e in
    let q = and_parts (o.0.client == t) (o.0.number == k) o.2 in (o.0, o.1, eqb-true o.0.client t q.0, eqb-true o.0.number k q.1)

row_has : (rows : List Row) (r : Row) → In r rows → has_pair r.client r.number rows ≡ true
row_has rows r i = has_pair-from r.client r.number rows r i refl refl

number-same : (os : List OpenedTab) (x y : Option OpenedTab) → partition_in x ≡ partition_in y → number_beside os x ≡ number_beside os y
number-same os None None e = refl
number-same os (Some o) None e = cc
number-same os None (Some o) e = cc
number-same os (Some o) (Some q) e = ap (λ p. number_or 0 os p) (some_same o.partition q.partition e)
  where
    some_same : (p q : Pair) → Some p ≡ Some q → p ≡ q
    some_same p q e = cc

module _ (l : Library) (w : WorldState) (s : Sim l w) (p : Pair) (b : BrokerState) (up : l.hub.supervised.broker ≡ Some b) where
  -- A row at the broker has the name and the mode that its tab's client gave the number.
  called : (t u : ℕ) (r : Row) → IsServed l u b → IsHonest l u → In r (locks_beside l t b).held ⊎ In r (locks_beside l t b).waiting → r.client ≡ u
      → (name_at l u r.number ≡ r.name) × (mode_at l u r.number ≡ r.mode)
  called t u r v h i e =
      let same : broker_of w ≡ b = ap (broker_in w.kernel.generation) (sym s.hub.broker ∙ up) in
      let stands = ⊎_elim (λ j. inl (subst (λ (z : BrokerState). In r (manager_of z (place l t)).held) (sym same) j)) (λ j. inr (subst (λ (z : BrokerState). In r (manager_of z (place l t)).waiting) (sym same) j)) i in
      let fits = s.good.sound.locks.known (place l t) r stands in
      let known = (fits.3 (subst (λ z. IsHonestIn w z) (sym e) (subst (λ zs. list_any (λ v. v == u) zs ≡ false) s.taken h))).0 in
      let k = known.0 in
      let c = ap (λ z. operation_of z r.number) ((s.lines u).client.welcomed v.welcomed) in
      let d = ap (λ z. operation_of (tab_of w z) r.number) (sym e) in (
        ap name_of (c ∙ d) ∙ sym (ap (λ z. z.name) k),
        ap mode_of (c ∙ d) ∙ sym (ap (λ z. z.mode) k),
      )

  placed : (t u : ℕ) → LivesIn p l t → LivesIn p l u → place l t ≡ place l u
  placed t u x y = number-same l.hub.supervised.kernel.opened (opened_tab l.hub.supervised.kernel t) (opened_tab l.hub.supervised.kernel u) (x.place ∙ sym y.place)

asked-is : (o : Option Status) → is_asked o ≡ true → o ≡ Some Asked
asked-is None e = apart e refl
asked-is (Some Asked) e = refl
asked-is (Some Held) e = apart e refl
asked-is (Some (Querying ps)) e = apart e refl
asked-is (Some (Whole s)) e = apart e refl
asked-is (Some Lost) e = apart e refl

pub nobody : ServedAtRest → NobodyWaitsForNothing
nobody served steps p t k b up rest honest lives e =
    let l = run_steps steps new_library in
    let w = run (events steps) empty_world in
    let s = run-sim steps in
    let mine = served steps p t b up rest honest lives in
    let m = locks_beside l t b in
    let r = has_row t k m.waiting (sym (mine.0.waiting k) ∙ ap is_asked e) in
    let h = behind m mine.1.settled r.0 r.1 in
    let u = h.held.client in
    let v = h.first.row.client in
    let queued : In h.first.row m.waiting = subst (In h.first.row) (sym h.first.split) (In-append_right h.first.front Here) in
    let u_lives : LivesIn p l u = mine.1.living h.held (inl h.holds) in
    let v_lives : LivesIn p l v = mine.1.living h.first.row (inr queued) in
    let theirs = (served steps p u b up rest honest u_lives).0 in
    let next = (served steps p v b up rest honest v_lives).0 in
    let held = held-is _ (theirs.held h.held.number ∙ subst (λ q. has_pair u h.held.number (manager_of b q).held ≡ true) (placed l w s p b up t u lives u_lives) (row_has m.held h.held h.holds)) in
    let asked = asked-is _ (next.waiting h.first.row.number ∙ subst (λ q. has_pair v h.first.row.number (manager_of b q).waiting ≡ true) (placed l w s p b up t v lives v_lives) (row_has m.waiting h.first.row queued)) in
    let a = called l w s p b up t u h.held theirs (honest u u_lives) (inl h.holds) refl in
    let c = called l w s p b up t v h.first.row next (honest v v_lives) (inr queued) refl in
    let own : name_at l t k ≡ r.0.name = subst (λ z. name_at l t z ≡ r.0.name) r.3 (called l w s p b up t t r.0 mine.0 (honest t lives) (inr r.1) r.2).0 in
    record {
      holder = u;
      lock = h.held.number;
      holds = (u_lives, record { living = u_lives.living; welcomed = theirs.welcomed; held = held }, a.0 ∙ (h.name ∙ sym own));
      first = v;
      request = h.first.row.number;
      asks = (v_lives, asked, c.0 ∙ (h.same ∙ sym own));
      conflicts = ap (λ z. conflict z (mode_at l v h.first.row.number)) a.1 ∙ (ap (conflict h.held.mode) c.1 ∙ h.conflicts);
      before = ⊎_elim
          (λ q. inl (ap (λ z. z.client) (sym q) ∙ r.2, ap (λ z. z.number) (sym q) ∙ r.3))
          (λ j. inr (record { front = h.first.front; row = h.first.row; back = h.first.back; split = h.first.split; is = refl; behind = has_pair-from t k h.first.back r.0 j r.2 r.3 }))
          h.first.after;
    }
