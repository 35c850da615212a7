-- Active partitions before and after a tab arrives or dies.
use Rattle.std.proofs.Common.{◌≡◌, ⊎_elim, ℕ, ◌+◌, ◌<◌, Bool, true, false, not, ◌&&◌, ◌||◌, cond, eqb, List, [], ◌∷◌, Option, Some, None, refl, sym, ap, ◌∙◌, subst, arith}
use Rattle.std.specs.List.{list_all}
use Rattle.std.proofs.lemmas.Bool.{and_parts, cases_eq, false≢true, eqb-true, eq-eqb, ne_eqb}
use Rattle.wl_draft.specs.Tables.{Table, find, put}
use Rattle.wl_draft.proofs.TableLemmas.{find-put_same, find-put_other}
use Rattle.wl_grammar.specs.Grammar.{TabsRiseFrom}
use Rattle.wl_broker.specs.declared.seat.TabSeat.{TabSeat}
use Rattle.wl_broker.specs.declared.seat.TabSeat.TheVariants.{Joined, Dead}
use Rattle.wl_broker.specs.Broker.{has_arrived, listed_at}
use Rattle.wl_broker.specs.BrokerInvariant.{all_arrived}

-- Active partitions

-- A tab with a seat has arrived.
pub has_come_some : (s : TabSeat) → has_arrived (Some s) ≡ true
has_come_some (Joined p n l) = refl
has_come_some Dead = refl

-- The tab is not listed under this partition.
abbrev pub is_apart : ℕ → ℕ → List (ℕ × ℕ) → Bool
is_apart t p listed = list_all (λ x. not (eqb x.0 t) || not (eqb x.1 p)) listed

apart_then : (c b : Bool) → (not c || not b) ≡ true → c ≡ true → b ≡ true → ⊥
apart_then true true h c b = false≢true h
apart_then true false h c b = false≢true b
apart_then false b h c d = false≢true c

same_place : (e h h' l l' : Bool) → (e ≡ true → h' ≡ h) → l' ≡ l → ((not e || h') && l') ≡ ((not e || h) && l)
same_place true h h' l l' f g = rw (f refl, g) refl
same_place false h h' l l' f g = g

all_come-apart : (listed : List (ℕ × ℕ)) (seats : Table TabSeat) (t : ℕ) (s : TabSeat) (p : ℕ) → is_apart t p listed ≡ true → all_arrived listed (put t s seats) p ≡ all_arrived listed seats p
all_come-apart [] seats t s p apart = refl
all_come-apart (x ∷ xs) seats t s p apart =
    let h = and_parts _ _ apart in
    same_place (eqb x.1 p) _ _ _ _
    (λ e. ap has_arrived (find-put_other t s seats x.0 (λ same. apart_then (eqb x.0 t) (eqb x.1 p) h.0 (eq-eqb x.0 t same) e)))
    (all_come-apart xs seats t s p h.1)

-- Another seat of a tab that has arrived changes nothing.
has_come-again : (seats : Table TabSeat) (t : ℕ) (s : TabSeat) (k : ℕ) → has_arrived (find seats t) ≡ true → has_arrived (find (put t s seats) k) ≡ has_arrived (find seats k)
has_come-again seats t s k was =
    ⊎_elim (λ (e : t ≡ k). subst (λ j. has_arrived (find (put t s seats) j) ≡ has_arrived (find seats j)) e (ap has_arrived (find-put_same t s seats) ∙ has_come_some s ∙ sym was))
    (λ (ne : t ≡ k → ⊥). ap has_arrived (find-put_other t s seats k (λ e. ne (sym e))))
    (cases_eq t k)

pub all_come-again : (listed : List (ℕ × ℕ)) (seats : Table TabSeat) (t : ℕ) (s : TabSeat) (p : ℕ) → has_arrived (find seats t) ≡ true → all_arrived listed (put t s seats) p ≡ all_arrived listed seats p
all_come-again [] seats t s p was = refl
all_come-again (x ∷ xs) seats t s p was =
    same_place (eqb x.1 p) _ _ _ _ (λ e. has_come-again seats t s x.0 was) (all_come-again xs seats t s p was)

-- No tab with a number below the first one is listed.
unlisted_below : (listed : List (ℕ × ℕ)) (t k p : ℕ) → TabsRiseFrom k listed → t < k → is_apart t p listed ≡ true
unlisted_below [] t k p r h = refl
unlisted_below (x ∷ xs) t k p r h =
    let below = unlisted_below xs t (x.0 + 1) p r.1 (omega (arith, r.0)) in
    let other : eqb x.0 t ≡ false = ne_eqb x.0 t (λ e. omega (arith, r.0)) in
    rw (other, below) refl

abbrev pub is_within : Option ℕ → ℕ → Bool
is_within None p = false
is_within (Some q) p = eqb q p

apart_unlisted_as : (x : ℕ × ℕ) (xs : List (ℕ × ℕ)) (t k p : ℕ) (b : Bool) → eqb x.0 t ≡ b → TabsRiseFrom k (x ∷ xs) → (is_within (listed_at t xs) p ≡ false → is_apart t p xs ≡ true) → is_within (cond b (Some x.1) (listed_at t xs)) p ≡ false → is_apart t p (x ∷ xs) ≡ true
apart_unlisted_as x xs t k p true e r below h =
    let rest = unlisted_below xs t (x.0 + 1) p r.1 (omega (arith, eqb-true x.0 t e)) in
    rw (e, h, rest) refl
apart_unlisted_as x xs t k p false e r below h = rw (e, below h) refl

-- A tab that is listed under another partition is not listed under this one.
apart_unlisted : (listed : List (ℕ × ℕ)) (t k p : ℕ) → TabsRiseFrom k listed → is_within (listed_at t listed) p ≡ false → is_apart t p listed ≡ true
apart_unlisted [] t k p r h = refl
apart_unlisted (x ∷ xs) t k p r h =
    apart_unlisted_as x xs t k p (eqb x.0 t) refl r (apart_unlisted xs t (x.0 + 1) p r.1) h

pub all_come-elsewhere : (listed : List (ℕ × ℕ)) (seats : Table TabSeat) (t : ℕ) (s : TabSeat) (p : ℕ) → TabsRiseFrom 1 listed → is_within (listed_at t listed) p ≡ false → all_arrived listed (put t s seats) p ≡ all_arrived listed seats p
all_come-elsewhere listed seats t s p r h = all_come-apart listed seats t s p (apart_unlisted listed t 1 p r h)
