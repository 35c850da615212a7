-- Proof of the law of a shard's output.
use Rattle.std.proofs.Common.{◌≡◌, ◌≢◌, ◌+◌, ◌-◌, ◌<◌, ◌++◌, ◌==◌, ◌⊎◌, inl, inr, ℕ, zero, suc, Bool, true, false, nat_lt, List, [], ◌∷◌, length, map, slice_get, Option, Some, None, if◌then◌else◌, refl, sym, ap, ◌∙◌, append_assoc, append-nil, arith, length-append}
use Rattle.std.proofs.lemmas.List.{map-append}
use Rattle.std.proofs.lemmas.Bool.Decides.{nat_tests}
use Rattle.wl_process_rules.specs.ShardOutput.{Places, Output, Finish, empty, ready, behind, filled, released, finished, first_of, after, all_released, bytes_at, LeavesInOrder}

-- The first of two, if there is one.
abbrev pub or_else : Option (List ℕ) → Option (List ℕ) → Option (List ℕ)
or_else (Some bytes) other = Some bytes
or_else None other = other

-- The bytes that a finish gives to a place.
abbrev pub given_at : ℕ → List ℕ → ℕ → Option (List ℕ)
given_at finish bytes place = if place == finish then Some bytes else None

either : (b : Bool) → (b ≡ true) ⊎ (b ≡ false)
either true = inl refl
either false = inr refl

or_else-none : (x : Option (List ℕ)) → x ≡ or_else x None
or_else-none (Some bytes) = refl
or_else-none None = refl

or_else-assoc : (x y z : Option (List ℕ)) → or_else (or_else x y) z ≡ or_else x (or_else y z)
or_else-assoc (Some bytes) y z = refl
or_else-assoc None y z = refl

-- All places: those that have left, and behind them the next one and the later ones.
abbrev pub places_of : List (List ℕ) → Places → Places
places_of left behind = map (λ bytes. Some bytes) left ++ behind

at-front : (left : List (List ℕ)) (places : Places) (i : ℕ) → i < length left → bytes_at (places_of left places) i ≡ slice_get left i
at-front [] places i h = absurd (omega (arith, h))
at-front (bytes ∷ left) places zero h = refl
at-front (bytes ∷ left) places (suc i) h = at-front left places i (omega (arith, h))

at-behind : (left : List (List ℕ)) (places : Places) (i : ℕ) → bytes_at (places_of left places) (length left + i) ≡ bytes_at places i
at-behind [] places i = ap (bytes_at places) (omega arith)
at-behind (bytes ∷ left) places i =
    let is : length (bytes ∷ left) + i ≡ suc (length left + i) = omega arith in
    ap (bytes_at (places_of (bytes ∷ left) places)) is ∙ at-behind left places i

-- A change of the places behind those that have left is a change of all places.
behind-front : (given : ℕ → Option (List ℕ)) (left : List (List ℕ)) (old new : Places) → ((i : ℕ) → bytes_at new i ≡ or_else (bytes_at old i) (given (length left + i)))
    → (place : ℕ) → bytes_at (places_of left new) place ≡ or_else (bytes_at (places_of left old) place) (given place)
behind-front given [] old new h place = h place ∙ ap (λ n. or_else (bytes_at old place) (given n)) (omega arith)
behind-front given (bytes ∷ left) old new h zero = refl
behind-front given (bytes ∷ left) old new h (suc place) =
    behind-front (λ n. given (suc n)) left old new (λ i. h i ∙ ap (λ n. or_else (bytes_at old i) (given n)) (omega arith)) place

-- The ready places in front, the place behind them, and the rest.
ready-behind : (places : Places) (i : ℕ) → bytes_at (places_of (ready places) (None ∷ behind places)) i ≡ bytes_at places i
ready-behind [] zero = refl
ready-behind [] (suc i) = refl
ready-behind (None ∷ places) i = refl
ready-behind (Some bytes ∷ places) zero = refl
ready-behind (Some bytes ∷ places) (suc i) = ready-behind places i

given-here : (finish : ℕ) (bytes : List ℕ) (place : ℕ) → place ≡ finish → given_at finish bytes place ≡ Some bytes
given-here finish bytes place is = grind (arith, nat_tests)

given-elsewhere : (finish : ℕ) (bytes : List ℕ) (place : ℕ) → place ≢ finish → given_at finish bytes place ≡ None
given-elsewhere finish bytes place other = grind (arith, nat_tests)

given-shifted : (index finish : ℕ) (bytes : List ℕ) (i place : ℕ) (n : ℕ) → finish ≡ n + index → place ≡ n + i → given_at index bytes i ≡ given_at finish bytes place
given-shifted index finish bytes i place n is at = grind (arith, nat_tests)

given-next : (finish : ℕ) (bytes : List ℕ) (place : ℕ) → given_at finish bytes place ≡ given_at (suc finish) bytes (suc place)
given-next finish bytes place = given-shifted finish (suc finish) bytes place (suc place) 1 (omega arith) (omega arith)

given-first : (finish : ℕ) (bytes : List ℕ) (place : ℕ) (finishes : List Finish) → or_else (given_at finish bytes place) (first_of place finishes) ≡ first_of place ((finish, bytes) ∷ finishes)
given-first finish bytes place finishes = elim (either (place == finish)) [ inl is ↦ rw is refl | inr is ↦ rw is refl ]

nothing-before : (place : ℕ) (x : Option (List ℕ)) → or_else (bytes_at (None ∷ []) place) x ≡ x
nothing-before zero x = refl
nothing-before (suc place) x = refl

unfilled : (x : Option (List ℕ)) (bytes : List ℕ) (i : ℕ) → x ≡ or_else x (given_at zero bytes (suc i))
unfilled x bytes i = or_else-none x ∙ ap (or_else x) (sym (given-elsewhere zero bytes (suc i) (λ e. omega (arith, e))))

fills : (index : ℕ) (bytes : List ℕ) (places : Places) (i : ℕ) → bytes_at (filled index bytes places) i ≡ or_else (bytes_at places i) (given_at index bytes i)
fills zero bytes [] zero = refl
fills zero bytes [] (suc i) = unfilled None bytes i
fills zero bytes (None ∷ places) zero = refl
fills zero bytes (None ∷ places) (suc i) = unfilled (bytes_at places i) bytes i
fills zero bytes (Some first ∷ places) zero = refl
fills zero bytes (Some first ∷ places) (suc i) = unfilled (bytes_at places i) bytes i
fills (suc index) bytes [] zero = sym (given-elsewhere (suc index) bytes zero (λ e. omega (arith, e)))
fills (suc index) bytes [] (suc i) = fills index bytes [] i ∙ given-next index bytes i
fills (suc index) bytes (place ∷ places) zero = or_else-none place ∙ ap (or_else place) (sym (given-elsewhere (suc index) bytes zero (λ e. omega (arith, e))))
fills (suc index) bytes (place ∷ places) (suc i) = fills index bytes places i ∙ ap (or_else (bytes_at places i)) (given-next index bytes i)

-- A step

-- It is the turn of the place that is finished.
step-in-turn : (left : List (List ℕ)) (o : Output) (finish : ℕ) (bytes : List ℕ) → length left ≡ o.next → finish ≡ o.next → (place : ℕ)
    → bytes_at (places_of (left ++ bytes ∷ ready o.later) (None ∷ behind o.later)) place ≡ or_else (bytes_at (places_of left (None ∷ o.later)) place) (given_at finish bytes place)
step-in-turn left o finish bytes len turn place =
    let new : Places = Some bytes ∷ places_of (ready o.later) (None ∷ behind o.later) in
    let split : places_of (left ++ bytes ∷ ready o.later) (None ∷ behind o.later) ≡ places_of left new =
    ap (λ l. l ++ None ∷ behind o.later) (map-append (λ (b : List ℕ). Some b) left (bytes ∷ ready o.later)) ∙ append_assoc (map (λ (b : List ℕ). Some b) left) (map (λ (b : List ℕ). Some b) (bytes ∷ ready o.later)) (None ∷ behind o.later) in
    ap (λ l. bytes_at l place) split ∙ behind-front (given_at finish bytes) left (None ∷ o.later) new (step-in-turn-behind (length left) o.later finish bytes (turn ∙ sym len)) place
  where
    step-in-turn-behind : (n : ℕ) (later : Places) (finish : ℕ) (bytes : List ℕ) → finish ≡ n → (i : ℕ)
        → bytes_at (Some bytes ∷ places_of (ready later) (None ∷ behind later)) i ≡ or_else (bytes_at (None ∷ later) i) (given_at finish bytes (n + i))
    step-in-turn-behind n later finish bytes is zero = sym (given-here finish bytes (n + zero) (omega (arith, is)))
    step-in-turn-behind n later finish bytes is (suc i) = ready-behind later i ∙ or_else-none (bytes_at later i) ∙ ap (or_else (bytes_at later i)) (sym (given-elsewhere finish bytes (n + suc i) (λ e. omega (arith, e, is))))

-- Its turn has not come.
step-early : (left : List (List ℕ)) (o : Output) (finish : ℕ) (bytes : List ℕ) → length left ≡ o.next → o.next < finish → (place : ℕ)
    → bytes_at (places_of left (None ∷ filled (finish - o.next - 1) bytes o.later)) place ≡ or_else (bytes_at (places_of left (None ∷ o.later)) place) (given_at finish bytes place)
step-early left o finish bytes len early place =
    behind-front (given_at finish bytes) left (None ∷ o.later) (None ∷ filled (finish - o.next - 1) bytes o.later) (step-early-behind (length left) o.later finish bytes (finish - o.next - 1) (omega (arith, len, early))) place
  where
    step-early-behind : (n : ℕ) (later : Places) (finish : ℕ) (bytes : List ℕ) (index : ℕ) → finish ≡ n + 1 + index → (i : ℕ)
        → bytes_at (None ∷ filled index bytes later) i ≡ or_else (bytes_at (None ∷ later) i) (given_at finish bytes (n + i))
    step-early-behind n later finish bytes index is zero = sym (given-elsewhere finish bytes (n + zero) (λ e. omega (arith, e, is)))
    step-early-behind n later finish bytes index is (suc i) = fills index bytes later i ∙ ap (or_else (bytes_at later i)) (given-shifted index finish bytes i (n + suc i) (n + 1) (omega (arith, is)) (omega arith))

-- It has been finished before.
step-again : (left : List (List ℕ)) (o : Output) (finish : ℕ) (bytes : List ℕ) → length left ≡ o.next → finish < o.next → (place : ℕ)
    → bytes_at (places_of left (None ∷ o.later)) place ≡ or_else (bytes_at (places_of left (None ∷ o.later)) place) (given_at finish bytes place)
step-again left o finish bytes len again place =
    behind-front (given_at finish bytes) left (None ∷ o.later) (None ∷ o.later) (λ i. or_else-none (bytes_at (None ∷ o.later) i) ∙ ap (or_else (bytes_at (None ∷ o.later) i)) (sym (given-elsewhere finish bytes (length left + i) (λ e. omega (arith, e, len, again))))) place

turn_of : (finish next : ℕ) → (finish == next) ≡ true → finish ≡ next
turn_of finish next is = grind (arith, nat_tests)

early_of : (finish next : ℕ) → nat_lt next finish ≡ true → next < finish
early_of finish next is = grind (arith, nat_tests)

again_of : (finish next : ℕ) → (finish == next) ≡ false → nat_lt next finish ≡ false → finish < next
again_of finish next not_next not_later = grind (arith, nat_tests)

-- The facts that a list of finishes keeps.
pub record Holds (left : List (List ℕ)) (o : Output) (before : Places) (given : ℕ → Option (List ℕ)) : Type 0 where
  pub count : length left ≡ o.next
  pub places : (place : ℕ) → bytes_at (places_of left (None ∷ o.later)) place ≡ or_else (bytes_at before place) (given place)

step : (left : List (List ℕ)) (o : Output) (finish : ℕ) (bytes : List ℕ) → length left ≡ o.next → Holds (left ++ released o finish bytes) (finished o finish bytes) (places_of left (None ∷ o.later)) (given_at finish bytes)
step left o finish bytes len =
    elim (either (finish == o.next)) [
      | inl is ↦ rw is (record {
        count = length-append left (bytes ∷ ready o.later) ∙ omega (arith, len);
        places = step-in-turn left o finish bytes len (turn_of finish o.next is);
      })
      | inr is ↦ elim (either (nat_lt o.next finish)) [
        | inl early ↦ rw (is, early, append-nil left) (record { count = len; places = step-early left o finish bytes len (early_of finish o.next early) })
        | inr late ↦ rw (is, late, append-nil left) (record { count = len; places = step-again left o finish bytes len (again_of finish o.next is late) })
      ]
    ]

steps : (finishes : List Finish) (left : List (List ℕ)) (o : Output) → length left ≡ o.next
    → Holds (left ++ all_released finishes o) (after finishes o) (places_of left (None ∷ o.later)) (λ place. first_of place finishes)
steps [] left o len = rw (append-nil left) (record { count = len; places = λ place. or_else-none (bytes_at (places_of left (None ∷ o.later)) place) })
steps ((finish, bytes) ∷ finishes) left o len =
    let one = step left o finish bytes len in
    let all = steps finishes (left ++ released o finish bytes) (finished o finish bytes) one.count in
    let joined : (left ++ released o finish bytes) ++ all_released finishes (finished o finish bytes) ≡ left ++ (released o finish bytes ++ all_released finishes (finished o finish bytes)) = append_assoc left (released o finish bytes) (all_released finishes (finished o finish bytes)) in
    rw (← joined) (record {
      count = all.count;
      places = λ place. all.places place ∙ ap (λ x. or_else x (first_of place finishes)) (one.places place) ∙ or_else-assoc (bytes_at (places_of left (None ∷ o.later)) place) (given_at finish bytes place) (first_of place finishes) ∙ ap (or_else (bytes_at (places_of left (None ∷ o.later)) place)) (given-first finish bytes place finishes);
    })

pub leaves_in_order : LeavesInOrder
leaves_in_order finishes =
    let left = all_released finishes empty in
    let o = after finishes empty in
    let all = steps finishes [] empty refl in
    let is : (place : ℕ) → bytes_at (places_of left (None ∷ o.later)) place ≡ first_of place finishes = λ place. all.places place ∙ nothing-before place (first_of place finishes) in
    record {
      below = all.count;
      in_order = λ place h. sym (at-front left (None ∷ o.later) place (omega (arith, all.count, h))) ∙ is place;
      waits = ap (λ n. first_of n finishes) (omega (arith, all.count)) ∙ sym (is (length left + 0)) ∙ at-behind left (None ∷ o.later) 0;
      kept = λ index. sym (at-behind left (None ∷ o.later) (suc index)) ∙ is (length left + suc index) ∙ ap (λ n. first_of n finishes) (omega (arith, all.count));
    }
