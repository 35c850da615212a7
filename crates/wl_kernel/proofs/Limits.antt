-- Limits on living tabs after any calls, and starts that are never refused.
use Rattle.std.proofs.Common.{◌≡◌, ℕ, ◌+◌, ◌≤◌, Bool, true, false, not, ◌&&◌, cond, List, [], ◌∷◌, length, Option, Some, None, is_some, if◌then◌else◌, nat_lt, nat_le, refl, sym, ◌∙◌, subst, arith}
use Rattle.std.proofs.lemmas.Bool.Decides.{nat_tests}
use Rattle.wl_origin.specs.Order.{Pair}
use Rattle.wl_kernel.specs.declared.fault.OpenFault.TheVariants.{NumberTaken, TooManyLiving, PartitionFull}
use Rattle.wl_kernel.specs.declared.fault.StartFault.TheVariants.{TooManyListed, NotRising}
use Rattle.wl_kernel.specs.Kernel.{KernelState, OpenedTab, no_tabs, tab_of, is_opened, lives, is_living, any_tab, insert_sorted, living_in, living_tabs, living_of, living_limit, partition_limit, list_limit, is_of, open_refusal, new_tab, ended, first_such, is_listed, is_from_before, stranger, missing, absence, start_refusal, rises}
use Rattle.wl_kernel.specs.KernelLaws.{reached, NeverTooManyLiving, NeverTooManyOfOne, StartsWithTheLiving, StartsWithAll}
use Rattle.wl_kernel.specs.TableIndexes.{AreTabs}
use Rattle.wl_kernel.proofs.RisingNumbers.{without}
use Rattle.wl_kernel.proofs.Living.{passes, living_in-push, living_in-ended, listed-living_in, rises_living_in}
use Rattle.wl_kernel.proofs.OpenedTabs.{tabs-push, tabs-ended, ended_of, open_is_allowed}
use Rattle.wl_kernel.proofs.HomePlaces.{one_partition}
use Rattle.wl_kernel.proofs.Calls.{Keeps, after_keeps, reached_tabs}

-- One more tab, and one fewer

one_more_step : (n m : ℕ) (ms : List ℕ) → length (insert_sorted n ms) ≡ length ms + 1 → length (insert_sorted n (m ∷ ms)) ≡ length (m ∷ ms) + 1
one_more_step n m ms below = grind (arith, nat_tests)

one_more : (n : ℕ) (ms : List ℕ) → length (insert_sorted n ms) ≡ length ms + 1
one_more n [] = refl
one_more n (m ∷ ms) = one_more_step n m ms (one_more n ms)

fewer_step : (t x : ℕ) (xs : List ℕ) → length (without t xs) ≤ length xs → length (without t (x ∷ xs)) ≤ length (x ∷ xs)
fewer_step t x xs below = grind (arith, nat_tests)

fewer : (t : ℕ) (xs : List ℕ) → length (without t xs) ≤ length xs
fewer t [] = omega arith
fewer t (x ∷ xs) = fewer_step t x xs (fewer t xs)

-- Conditions of an opening

not_full : (a b c : Bool) → (if a then Some NumberTaken else (if b then Some TooManyLiving else (if c then Some PartitionFull else None))) ≡ None → (b ≡ false) × (c ≡ false)
not_full true b c e = cc
not_full false true c e = cc
not_full false false true e = cc
not_full false false false e = (refl, refl)

below : (n limit : ℕ) → nat_le limit n ≡ false → n + 1 ≤ limit
below n limit e = grind (arith, nat_tests)

room_for_one : (t : ℕ) (p : Pair) (k : KernelState) → open_refusal t p k ≡ None
    → (length (living_tabs k) + 1 ≤ living_limit) × (length (living_of k p) + 1 ≤ partition_limit)
room_for_one t p k allowed =
    let room = not_full _ (nat_le living_limit (length (living_tabs k))) (nat_le partition_limit (length (living_of k p))) allowed in
    (below (length (living_tabs k)) living_limit room.0, below (length (living_of k p)) partition_limit room.1)

-- The limits

-- The number of living tabs that pass the test is within the limit.
record IsWithin (test : OpenedTab → Bool) (limit : ℕ) (k : KernelState) : Type 0 where
  tabs : AreTabs k.opened
  few : length (living_in test k.opened) ≤ limit

with_one_more : (b : Bool) (t limit : ℕ) (ts : List ℕ) → length ts ≤ limit → (b ≡ true → length ts + 1 ≤ limit) → length (cond b (insert_sorted t ts) ts) ≤ limit
with_one_more true t limit ts few room = subst (λ n. n ≤ limit) (sym (one_more t ts)) (room refl)
with_one_more false t limit ts few room = few

keeps_within : (test : OpenedTab → Bool) (limit : ℕ) → ((t : ℕ) (o : OpenedTab) → test (ended t o) ≡ test o)
    → ((t : ℕ) (p : Pair) (k : KernelState) → open_refusal t p k ≡ None → test (new_tab t p k.generation) ≡ true → length (living_in test k.opened) + 1 ≤ limit)
    → Keeps (IsWithin test limit)
keeps_within test limit same room = record {
  opens = λ t p k allowed within.
      let asked = open_is_allowed t p k allowed in
      record {
        tabs = tabs-push k.opened (new_tab t p k.generation) asked.0 asked.1 within.tabs;
        few = subst (λ (ts : List ℕ). length ts ≤ limit) (sym (living_in-push test k.opened (new_tab t p k.generation)))
            (with_one_more (test (new_tab t p k.generation)) t limit (living_in test k.opened) within.few (room t p k allowed));
      };
  kills = λ t k within. record {
    tabs = tabs-ended t k.opened within.tabs;
    few = subst (λ (ts : List ℕ). length ts ≤ limit) (sym (living_in-ended test t k.opened (same t) within.tabs))
        (let less = fewer t (living_in test k.opened) in omega (arith, less, within.few));
  };
  stops = λ k within. record { tabs = within.tabs; few = within.few };
}

pub never_too_many_living : NeverTooManyLiving
never_too_many_living last calls =
    (after_keeps (IsWithin any_tab living_limit) (keeps_within any_tab living_limit (λ t o. refl) (λ t p k allowed own. (room_for_one t p k allowed).0)) calls (no_tabs last)
    (record { tabs = tt; few = omega arith })).few

pub never_too_many_of_one : NeverTooManyOfOne
never_too_many_of_one last calls p =
    (after_keeps (IsWithin (is_of p) partition_limit)
    (keeps_within (is_of p) partition_limit (ended_of p)
    (λ t q k allowed own. subst (λ (r : Pair). length (living_of k r) + 1 ≤ partition_limit) (one_partition q p own) (room_for_one t q k allowed).1))
    calls (no_tabs last) (record { tabs = tt; few = omega arith })).few

-- Starts

first_none_step : (test : ℕ → Bool) (x : ℕ) (xs : List ℕ) → test x ≡ false → first_such test xs ≡ None → first_such test (x ∷ xs) ≡ None
first_none_step test x xs fails below = grind (arith, nat_tests)

listed_first : (x : ℕ) (xs : List ℕ) → is_listed (x ∷ xs) x ≡ true
listed_first x xs = grind (arith, nat_tests)

listed_rest : (t x : ℕ) (xs : List ℕ) → is_listed xs t ≡ true → is_listed (x ∷ xs) t ≡ true
listed_rest t x xs there = grind (arith, nat_tests)

-- If no listed number passes the test, none is found.
first_none : (test : ℕ → Bool) (xs : List ℕ) → ((t : ℕ) → is_listed xs t ≡ true → test t ≡ false) → first_such test xs ≡ None
first_none test [] fails = refl
first_none test (x ∷ xs) fails =
    first_none_step test x xs (fails x (listed_first x xs)) (first_none test xs (λ t there. fails t (listed_rest t x xs there)))

lives_of_passes : (o : Option OpenedTab) → passes any_tab o ≡ lives o
lives_of_passes None = refl
lives_of_passes (Some o) = alive o.living
  where
    alive : (b : Bool) → (b && true) ≡ b
    alive true = refl
    alive false = refl

living_listed : (k : KernelState) (t : ℕ) → AreTabs k.opened → is_listed (living_tabs k) t ≡ is_living k t
living_listed k t tabs = listed-living_in any_tab k.opened t tabs ∙ lives_of_passes (tab_of k t)

opened_of_living : (o : Option OpenedTab) → lives o ≡ true → is_some o ≡ true
opened_of_living None alive = alive
opened_of_living (Some o) alive = refl

not_both : (a b : Bool) → b ≡ true → (a && not b) ≡ false
not_both true true e = refl
not_both true false e = cc
not_both false b e = refl

not_false : (b : Bool) → b ≡ true → not b ≡ false
not_false true e = refl
not_false false e = cc

not_above : (n limit : ℕ) → n ≤ limit → nat_lt limit n ≡ false
not_above n limit le = grind (arith, nat_tests)

allowed_by : (a b : Bool) (s m : Option ℕ) → a ≡ false → b ≡ true → s ≡ None → m ≡ None → (if a then Some TooManyListed else (if b then absence s m else Some NotRising)) ≡ None
allowed_by a b s m few up known all = rw (few, up, known, all) refl

starts : (k : KernelState) (listed : List ℕ) → AreTabs k.opened → length listed ≤ list_limit → rises listed ≡ true
    → ((t : ℕ) → is_living k t ≡ true → is_listed listed t ≡ true) → ((t : ℕ) → is_listed listed t ≡ true → is_opened k t ≡ true) → start_refusal listed k ≡ None
starts k listed tabs few up all known =
    allowed_by (nat_lt list_limit (length listed)) (rises listed) (stranger k listed) (missing k listed)
    (not_above (length listed) list_limit few) up
    (first_none (λ t. not (is_opened k t)) listed (λ t there. not_false (is_opened k t) (known t there)))
    (first_none (λ t. is_from_before k t && not (is_listed listed t)) (living_tabs k)
    (λ t there. not_both (is_from_before k t) (is_listed listed t) (all t (sym (living_listed k t tabs) ∙ there))))

pub starts_with_the_living : StartsWithTheLiving
starts_with_the_living last calls listed few up all known = starts (reached calls last) listed (reached_tabs calls last) few up all known

pub starts_with_all : StartsWithAll
starts_with_all last calls =
    let k = reached calls last in
    let tabs = reached_tabs calls last in
    starts k (living_tabs k) tabs (never_too_many_living last calls) (rises_living_in any_tab k.opened tabs)
    (λ t alive. living_listed k t tabs ∙ alive)
    (λ t there. opened_of_living (tab_of k t) (sym (living_listed k t tabs) ∙ there))
