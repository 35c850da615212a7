-- Number of a partition's listed tabs that have not arrived, before and after one arrives.
use Rattle.std.proofs.Common.{◌≡◌, ◌⊎◌, ⊎_elim, ℕ, ◌+◌, ◌-◌, ◌<◌, ◌≤◌, Bool, true, false, not, ◌&&◌, ◌||◌, cond, eqb, List, [], ◌∷◌, ◌++◌, length, take, drop, get_or, Option, Some, None, unwrap_or, refl, sym, ap, ◌∙◌, subst, arith}
use Rattle.std.proofs.lemmas.Bool.{cond_both, eqb-true, eqb-false, ne_eqb, le-ltb, eq-eqb}
use Rattle.std.proofs.lemmas.List.{take_more, drop_more, take-append-drop, length-take-le}
use Rattle.wl_draft.specs.Tables.{Table, at, find, put}
use Rattle.wl_draft.proofs.TableLemmas.{find-put_same, find-put_other, at-put, at-find}
use Rattle.wl_grammar.specs.Grammar.{TabsRiseFrom}
use Rattle.wl_broker.specs.declared.seat.TabSeat.{TabSeat}
use Rattle.wl_broker.specs.declared.seat.TabSeat.TheVariants.{Joined, Dead}
use Rattle.wl_broker.specs.Broker.{has_arrived, listed_at}
use Rattle.wl_broker.specs.BrokerInvariant.{all_arrived, missing_in, awaited_at, one_at, AreCounts}
use Rattle.wl_broker.proofs.Arrivals.{has_come_some}

-- A partition is active if none of its tabs is missing

none_missing_step : (a c rest : Bool) (m : ℕ) → rest ≡ eqb m 0 → ((not a || c) && rest) ≡ eqb (cond (a && not c) 1 0 + m) 0
none_missing_step true true rest m e = e ∙ ap (λ (n : ℕ). eqb n 0) (omega arith)
none_missing_step true false rest m e = sym (ne_eqb (1 + m) 0 (λ h. omega arith))
none_missing_step false c rest m e = e ∙ ap (λ (n : ℕ). eqb n 0) (omega arith)

pub none_missing : (listed : List (ℕ × ℕ)) (seats : Table TabSeat) (p : ℕ) → all_arrived listed seats p ≡ eqb (missing_in listed seats p) 0
none_missing [] seats p = refl
none_missing (x ∷ xs) seats p = none_missing_step (eqb x.1 p) (has_arrived (find seats x.0)) _ _ (none_missing xs seats p)

-- A tab arrives

missing-put_behind : (listed : List (ℕ × ℕ)) (seats : Table TabSeat) (t : ℕ) (s : TabSeat) (k p : ℕ) → TabsRiseFrom k listed → t < k → missing_in listed (put t s seats) p ≡ missing_in listed seats p
missing-put_behind [] seats t s k p r h = refl
missing-put_behind (x ∷ xs) seats t s k p r h =
    let other = find-put_other t s seats x.0 (λ e. omega (arith, r.0)) in
    let below = missing-put_behind xs seats t s (x.0 + 1) p r.1 (omega (arith, r.0)) in
    rw (other, below) refl

one_alone : (b : Bool) → ◌≡◌ {A = ℕ} (cond b 1 0) (cond (b && true) 1 0)
one_alone true = refl
one_alone false = refl

none_here : (b : Bool) → ◌≡◌ {A = ℕ} 0 (cond (b && false) 1 0)
none_here true = refl
none_here false = refl

one_is : (o : Option TabSeat) (q p : ℕ) → one_at (awaited_at o (Some q)) p ≡ cond (eqb q p && not (has_arrived o)) 1 0
one_is None q p = one_alone (eqb q p)
one_is (Some (Joined r n l)) q p = none_here (eqb q p)
one_is (Some Dead) q p = none_here (eqb q p)

one_nowhere : (o : Option TabSeat) (p : ℕ) → one_at (awaited_at o None) p ≡ 0
one_nowhere None p = refl
one_nowhere (Some s) p = refl

come_here : (b : Bool) → ◌≡◌ {A = ℕ} (cond (b && not true) 1 0) 0
come_here true = refl
come_here false = refl

missing-put_as : (x : ℕ × ℕ) (xs : List (ℕ × ℕ)) (seats : Table TabSeat) (t : ℕ) (s : TabSeat) (p : ℕ) (b : Bool) → eqb x.0 t ≡ b → TabsRiseFrom (x.0 + 1) xs → missing_in xs (put t s seats) p + one_at (awaited_at (find seats t) (listed_at t xs)) p ≡ missing_in xs seats p → missing_in (x ∷ xs) (put t s seats) p + one_at (awaited_at (find seats t) (cond b (Some x.1) (listed_at t xs))) p ≡ missing_in (x ∷ xs) seats p
missing-put_as x xs seats t s p true e r below =
    let same : x.0 ≡ t = eqb-true x.0 t e in
    let now : ◌≡◌ {A = ℕ} (cond (eqb x.1 p && not (has_arrived (find (put t s seats) x.0))) 1 0) 0 =
    ap (λ c. cond {A = ℕ} (eqb x.1 p && not c) 1 0) (ap (λ j. has_arrived (find (put t s seats) j)) same ∙ ap has_arrived (find-put_same t s seats) ∙ has_come_some s) ∙ come_here (eqb x.1 p) in
    let rest = missing-put_behind xs seats t s (x.0 + 1) p r (omega (arith, same)) in
    let before : cond {A = ℕ} (eqb x.1 p && not (has_arrived (find seats x.0))) 1 0 ≡ one_at (awaited_at (find seats t) (Some x.1)) p =
    ap (λ j. cond {A = ℕ} (eqb x.1 p && not (has_arrived (find seats j))) 1 0) same ∙ sym (one_is (find seats t) x.1 p) in
    omega (arith, now, rest, before)
missing-put_as x xs seats t s p false e r below =
    let head : cond {A = ℕ} (eqb x.1 p && not (has_arrived (find (put t s seats) x.0))) 1 0 ≡ cond (eqb x.1 p && not (has_arrived (find seats x.0))) 1 0 =
    ap (λ (o : Option TabSeat). cond {A = ℕ} (eqb x.1 p && not (has_arrived o)) 1 0) (find-put_other t s seats x.0 (eqb-false x.0 t e)) in
    omega (arith, head, below)

-- The number decreases by one if the tab is listed and had not arrived.
missing-put : (listed : List (ℕ × ℕ)) (seats : Table TabSeat) (t : ℕ) (s : TabSeat) (k p : ℕ) → TabsRiseFrom k listed → missing_in listed (put t s seats) p + one_at (awaited_at (find seats t) (listed_at t listed)) p ≡ missing_in listed seats p
missing-put [] seats t s k p r = omega (arith, one_nowhere (find seats t) p)
missing-put (x ∷ xs) seats t s k p r =
    missing-put_as x xs seats t s p (eqb x.0 t) refl r.1 (missing-put xs seats t s (x.0 + 1) p r.1)

-- The counts

abbrev HasArrived : Table ℕ → Table ℕ → Option ℕ → Type 0
HasArrived missing missing' place = (p : ℕ) → at 0 missing' p ≡ at 0 missing p - one_at place p

pub counts_as : (listed : List (ℕ × ℕ)) (seats seats' : Table TabSeat) (missing : Table ℕ) → seats' ≡ seats → AreCounts listed seats missing → AreCounts listed seats' missing
counts_as listed seats seats' missing s k = subst (λ ss. AreCounts listed ss missing) (sym s) k

-- The counts stay correct when a missing tab arrives.
pub AreCounts-arrival : (listed : List (ℕ × ℕ)) (seats : Table TabSeat) (missing missing' : Table ℕ) (t : ℕ) (s : TabSeat) (place : Option ℕ) → TabsRiseFrom 1 listed → AreCounts listed seats missing → place ≡ awaited_at (find seats t) (listed_at t listed) → HasArrived missing missing' place → AreCounts listed (put t s seats) missing'
AreCounts-arrival listed seats missing missing' t s place r k e h = λ p.
    let one : one_at place p ≡ one_at (awaited_at (find seats t) (listed_at t listed)) p = ap (λ o. one_at o p) e in
    omega (arith, h p, k p, one, missing-put listed seats t s 1 p r)

-- The counts stay correct when a tab that has arrived gets another seat.
pub AreCounts-again : (listed : List (ℕ × ℕ)) (seats : Table TabSeat) (missing : Table ℕ) (t : ℕ) (s old : TabSeat) → TabsRiseFrom 1 listed → AreCounts listed seats missing → find seats t ≡ Some old → AreCounts listed (put t s seats) missing
AreCounts-again listed seats missing t s old r k e = λ p.
    let none : one_at (awaited_at (find seats t) (listed_at t listed)) p ≡ 0 = ap (λ o. one_at (awaited_at o (listed_at t listed)) p) e in
    omega (arith, k p, none, missing-put listed seats t s 1 p r)

-- The count determines whether the partition is active after the tab arrives.
pub active_once : (listed : List (ℕ × ℕ)) (seats : Table TabSeat) (missing : Table ℕ) (t : ℕ) (s : TabSeat) (place : Option ℕ) (p n : ℕ) → TabsRiseFrom 1 listed → AreCounts listed seats missing → place ≡ awaited_at (find seats t) (listed_at t listed) → n ≡ at 0 missing p - one_at place p → eqb n 0 ≡ all_arrived listed (put t s seats) p
active_once listed seats missing t s place p n r k e h =
    let one : one_at place p ≡ one_at (awaited_at (find seats t) (listed_at t listed)) p = ap (λ o. one_at o p) e in
    let same : n ≡ missing_in listed (put t s seats) p = omega (arith, h, k p, one, missing-put listed seats t s 1 p r) in
    ap (λ m. eqb m 0) same ∙ sym (none_missing listed (put t s seats) p)

-- A tab with a partition is missing in that partition if it has not arrived.
pub awaited_had : (o : Option TabSeat) (place : Option ℕ) (p : ℕ) → (((n l : ℕ) × (o ≡ Some (Joined p n l))) ⊎ ((o ≡ None) × (place ≡ Some p))) → awaited_at o (Some p) ≡ awaited_at o place
awaited_had None place p had =
    ⊎_elim (λ (h : (n l : ℕ) × (None ≡ Some (Joined p n l))). cc) (λ (h : (◌≡◌ {A = Option TabSeat} None None) × (place ≡ Some p)). sym h.1) had
awaited_had (Some s) place p had = refl

-- The list, read tab by tab

missing_in-append : (xs : List (ℕ × ℕ)) (x : ℕ × ℕ) (p : ℕ) → missing_in (xs ++ x ∷ []) [] p ≡ missing_in xs [] p + cond (eqb x.1 p) 1 0
missing_in-append [] x p = omega (arith, sym (one_alone (eqb x.1 p)))
missing_in-append (y ∷ ys) x p = omega (arith, missing_in-append ys x p)

missing_in-few : (xs : List (ℕ × ℕ)) (p : ℕ) → missing_in xs [] p ≤ length xs
missing_in-few [] p = omega arith
missing_in-few (x ∷ xs) p =
    cond_both (eqb x.1 p && true) 1 0 (λ n. n + missing_in xs [] p ≤ length (x ∷ xs)) (λ _. omega (arith, missing_in-few xs p)) (λ _. omega (arith, missing_in-few xs p))

-- A tab above all others is appended.
put_last : (k : ℕ) (xs : List (ℕ × ℕ)) (x : ℕ × ℕ) (rest : List (ℕ × ℕ)) → TabsRiseFrom k (xs ++ x ∷ rest) → (k ≤ x.0) × (put x.0 x.1 xs ≡ xs ++ x ∷ [])
put_last k [] x rest r = (r.0, refl)
put_last k (y ∷ ys) x rest r =
    let below = put_last (y.0 + 1) ys x rest r.1 in
    let other : eqb y.0 x.0 ≡ false = ne_eqb y.0 x.0 (λ e. omega (arith, below.0)) in
    let later = le-ltb x.0 y.0 (omega (arith, below.0)) in
    (omega (arith, r.0, below.0), rw (other, later) (ap (λ zs. y ∷ zs) below.1))

-- One more tab of the list.
pub read_one : (list : List (ℕ × ℕ)) (i : ℕ) (d : ℕ × ℕ) → TabsRiseFrom 1 list → i < length list → put (get_or list i d).0 (get_or list i d).1 (take i list) ≡ take (i + 1) list
read_one list i d r lt =
    let split : list ≡ take i list ++ get_or list i d ∷ drop (i + 1) list = sym (take-append-drop i list) ∙ ap (λ (xs : List (ℕ × ℕ)). take i list ++ xs) (drop_more list i d lt) in
    (put_last 1 (take i list) (get_or list i d) (drop (i + 1) list) (subst (λ (xs : List (ℕ × ℕ)). TabsRiseFrom 1 xs) split r)).1 ∙ sym (take_more list i d lt)

counted_step : (q p n m here all : ℕ) (b : Bool) → n ≡ here + 1 → (b ≡ true → m ≡ here) → all ≡ m + cond b 1 0 → cond b n m ≡ all
counted_step q p n m here all true e same h = let f = same refl in omega (arith, e, h, f)
counted_step q p n m here all false e same h = omega (arith, h)

pub counted_one : (list : List (ℕ × ℕ)) (i : ℕ) (d : ℕ × ℕ) (missing : Table ℕ) (n : ℕ) → i < length list → ((p : ℕ) → at 0 missing p ≡ missing_in (take i list) [] p) → n ≡ at 0 missing (get_or list i d).1 + 1 → (p : ℕ) → at 0 (put (get_or list i d).1 n missing) p ≡ missing_in (take (i + 1) list) [] p
counted_one list i d missing n lt k e = λ p.
    let x = get_or list i d in
    let all : missing_in (take (i + 1) list) [] p ≡ missing_in (take i list) [] p + cond (eqb x.1 p) 1 0 = ap (λ xs. missing_in xs [] p) (take_more list i d lt) ∙ missing_in-append (take i list) x p in
    at-put 0 x.1 n missing p
    ∙ counted_step x.1 p n (at 0 missing p) (at 0 missing x.1) _ (eqb x.1 p) e (λ same. ap (λ j. at 0 missing j) (sym (eqb-true x.1 p same))) (all ∙ ap (λ m. m + cond (eqb x.1 p) 1 0) (sym (k p)))

-- The number of missing tabs is at most the number of tabs read.
pub missing_in-below : (list : List (ℕ × ℕ)) (i p : ℕ) → i < length list → missing_in (take i list) [] p < length list
missing_in-below list i p lt = omega (arith, missing_in-few (take i list) p, length-take-le i list (omega arith))

-- The list by tab

pub find-listed : (xs : List (ℕ × ℕ)) (t : ℕ) → find xs t ≡ listed_at t xs
find-listed [] t = refl
find-listed (x ∷ xs) t = ap (λ (o : Option ℕ). cond (eqb x.0 t) (Some x.1) o) (find-listed xs t)

-- One count less

one_less : (q p : ℕ) (missing : Table ℕ) (n : ℕ) (b : Bool) → eqb q p ≡ b → n ≡ at 0 missing q - one_at (Some q) q → cond b n (at 0 missing p) ≡ at 0 missing p - cond b 1 0
one_less q p missing n true e h =
    let same : q ≡ p = eqb-true q p e in
    let here : one_at (Some q) q ≡ 1 = ap (λ b. cond b 1 0) (eq-eqb q q refl) in
    let old : at 0 missing q ≡ at 0 missing p = ap (λ j. at 0 missing j) same in
    omega (arith, h, here, old)
one_less q p missing n false e h = omega arith

pub counted_down : (q : ℕ) (missing missing' : Table ℕ) (n : ℕ) → n ≡ at 0 missing q - one_at (Some q) q → missing' ≡ put q n missing → (p : ℕ) → at 0 missing' p ≡ at 0 missing p - one_at (Some q) p
counted_down q missing missing' n h e = λ p.
    ap (λ ps. at 0 ps p) e ∙ at-put 0 q n missing p ∙ one_less q p missing n (eqb q p) refl h

at-none : (q : ℕ) (missing : Table ℕ) → find missing q ≡ None → at 0 missing q ≡ 0
at-none q missing e = at-find 0 missing q ∙ ap (λ o. unwrap_or o 0) e

none_less : (q p : ℕ) (missing : Table ℕ) (b : Bool) → eqb q p ≡ b → at 0 missing q ≡ 0 → at 0 missing p ≡ at 0 missing p - cond b 1 0
none_less q p missing true e h =
    let old : at 0 missing p ≡ 0 = ap (λ j. at 0 missing j) (sym (eqb-true q p e)) ∙ h in omega (arith, old)
none_less q p missing false e h = omega arith

-- If a partition has no count, nothing is subtracted.
pub none_counted : (q : ℕ) (missing missing' : Table ℕ) → find missing q ≡ None → missing' ≡ missing → (p : ℕ) → at 0 missing' p ≡ at 0 missing p - one_at (Some q) p
none_counted q missing missing' none e = λ p.
    ap (λ ps. at 0 ps p) e ∙ none_less q p missing (eqb q p) refl (at-none q missing none)
