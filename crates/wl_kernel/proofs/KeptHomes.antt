-- Homes of partitions, after an opening and after a death.
use Rattle.std.proofs.Common.{◌≡◌, ℕ, Bool, true, false, ◌&&◌, ◌||◌, cond, List, [], ◌∷◌, ◌++◌, map, Some, None, option_map, refl, sym, ap, ◌∙◌, arith}
use Rattle.std.proofs.Math.Bool.{and-false}
use Rattle.std.proofs.lemmas.Bool.Decides.{nat_tests}
use Rattle.std.proofs.lemmas.Option.{cond_some}
use Rattle.std.specs.List.{list_any}
use Rattle.wl_origin.specs.Order.{Pair, pair_eq}
use Rattle.wl_kernel.specs.Kernel.{OpenedTab, tab_in, living_in, insert_sorted, is_of, is_listed, number_or, ended}
use Rattle.wl_kernel.specs.TableIndexes.{HomeTable, home_of, SetsHome, AreTabs, home_in, members, joined, left, AreHomes}
use Rattle.wl_kernel.proofs.HomePlaces.{one_partition}
use Rattle.wl_kernel.proofs.RisingNumbers.{without, without_none}
use Rattle.wl_kernel.proofs.Living.{passes, living_in-push, listed-living_in, living_in-ended}
use Rattle.wl_kernel.proofs.OpenedTabs.{ended_of, any-ended, number-ended, any-push, number-push, number-any, number-none}

-- One more tab

living_none_step : (p : Pair) (x : OpenedTab) (xs : List OpenedTab) → (list_any (is_of p) xs ≡ false → living_in (is_of p) xs ≡ []) → list_any (is_of p) (x ∷ xs) ≡ false
    → living_in (is_of p) (x ∷ xs) ≡ []
living_none_step p x xs below none = grind (arith, nat_tests)

living_none : (p : Pair) (os : List OpenedTab) → list_any (is_of p) os ≡ false → living_in (is_of p) os ≡ []
living_none p [] none = refl
living_none p (x ∷ xs) none = living_none_step p x xs (living_none p xs) none

home_of_more : (a b : Bool) (t n : ℕ) (l : List ℕ) (a' : Bool) (n' : ℕ) (l' : List ℕ) → a' ≡ (a || b) → n' ≡ cond a n (cond b t 0) → l' ≡ cond b (insert_sorted t l) l → (a ≡ false → l ≡ [])
    → cond a' (Some (n', l')) None ≡ cond b (Some (joined t (cond a (Some (n, l)) None))) (cond a (Some (n, l)) None)
home_of_more true true t n l a' n' l' any number living none = rw (any, number, living) refl
home_of_more true false t n l a' n' l' any number living none = rw (any, number, living) refl
home_of_more false true t n l a' n' l' any number living none = rw (any, number, living, none refl) refl
home_of_more false false t n l a' n' l' any number living none = rw any refl

living-push_alive : (p : Pair) (os : List OpenedTab) (o : OpenedTab) → o.living ≡ true
    → living_in (is_of p) (os ++ o ∷ []) ≡ cond (is_of p o) (insert_sorted o.tab (living_in (is_of p) os)) (living_in (is_of p) os)
living-push_alive p os o alive = living_in-push (is_of p) os o ∙ ap (λ b. cond (b && is_of p o) (insert_sorted o.tab (living_in (is_of p) os)) (living_in (is_of p) os)) alive

home_in-push : (p : Pair) (os : List OpenedTab) (o : OpenedTab) → o.living ≡ true
    → home_in (os ++ o ∷ []) p ≡ cond (is_of p o) (Some (joined o.tab (home_in os p))) (home_in os p)
home_in-push p os o alive =
    home_of_more (list_any (is_of p) os) (is_of p o) o.tab (number_or 0 os p) (living_in (is_of p) os)
    (list_any (is_of p) (os ++ o ∷ [])) (number_or 0 (os ++ o ∷ []) p) (living_in (is_of p) (os ++ o ∷ []))
    (any-push p os o) (number-push 0 p os o) (living-push_alive p os o alive) (living_none p os)

home_here_by : (p q : Pair) (t : ℕ) (os : List OpenedTab) (b : Bool) → pair_eq p q ≡ b → cond b (Some (joined t (home_in os p))) (home_in os q) ≡ cond b (Some (joined t (home_in os q))) (home_in os q)
home_here_by p q t os true e = ap (λ r. Some (joined t (home_in os r))) (one_partition p q e)
home_here_by p q t os false e = refl

pub homes-push : (os : List OpenedTab) (o : OpenedTab) (homes more : HomeTable) → o.living ≡ true → AreHomes os homes
    → SetsHome homes more o.partition (Some (joined o.tab (home_of homes o.partition)))
    → AreHomes (os ++ o ∷ []) more
homes-push os o homes more alive housed joins q =
    joins q
    ∙ ap (λ h. cond (pair_eq o.partition q) (Some (joined o.tab h)) (home_of homes q)) (housed o.partition)
    ∙ ap (cond (pair_eq o.partition q) (Some (joined o.tab (home_in os o.partition)))) (housed q)
    ∙ home_here_by o.partition q o.tab os (pair_eq o.partition q) refl
    ∙ sym (home_in-push q os o alive)

joined_number_by : (t : ℕ) (p : Pair) (os : List OpenedTab) (b : Bool) → list_any (is_of p) os ≡ b
    → (joined t (cond b (Some (number_or 0 os p, living_in (is_of p) os)) None)).0 ≡ number_or t os p
joined_number_by t p os true any = number-any 0 t p os any
joined_number_by t p os false any = sym (number-none t p os any)

-- A joining tab gets the number of its partition.
pub joined_number : (t : ℕ) (p : Pair) (os : List OpenedTab) (homes : HomeTable) → AreHomes os homes → (joined t (home_of homes p)).0 ≡ number_or t os p
joined_number t p os homes housed = ap (λ h. (joined t h).0) (housed p) ∙ joined_number_by t p os (list_any (is_of p) os) refl

members_by : (p : Pair) (os : List OpenedTab) (b : Bool) → list_any (is_of p) os ≡ b → members (cond b (Some (number_or 0 os p, living_in (is_of p) os)) None) ≡ living_in (is_of p) os
members_by p os true any = refl
members_by p os false any = sym (living_none p os any)

-- The living tabs in a home are the partition's living tabs.
pub members_kept : (p : Pair) (os : List OpenedTab) (homes : HomeTable) → AreHomes os homes → members (home_of homes p) ≡ living_in (is_of p) os
members_kept p os homes housed = ap members (housed p) ∙ members_by p os (list_any (is_of p) os) refl

-- The home of a partition has its number and its living tabs.
pub home_is : (p : Pair) (os : List OpenedTab) (homes : HomeTable) (h : ℕ × List ℕ) → AreHomes os homes → home_of homes p ≡ Some h → h ≡ (number_or 0 os p, living_in (is_of p) os)
home_is p os homes h housed there = sym (cond_some (list_any (is_of p) os) (number_or 0 os p, living_in (is_of p) os) h (sym (housed p) ∙ there)).1

-- A death

home_in-ended : (t : ℕ) (p : Pair) (os : List OpenedTab) → AreTabs os
    → home_in (map (ended t) os) p ≡ cond (list_any (is_of p) os) (Some (number_or 0 os p, without t (living_in (is_of p) os))) None
home_in-ended t p os tabs = rw (any-ended p t os, number-ended 0 p t os, living_in-ended (is_of p) t os (ended_of p t) tabs) refl

home_left : (t n : ℕ) (l : List ℕ) (a : Bool) → option_map (left t) (cond a (Some (n, l)) None) ≡ cond a (Some (n, without t l)) None
home_left t n l true = refl
home_left t n l false = refl

home_ended_by : (t : ℕ) (p q : Pair) (os : List OpenedTab) (x : OpenedTab) → AreTabs os → tab_in os t ≡ Some x → x.partition ≡ p → (b : Bool) → pair_eq p q ≡ b
    → cond b (option_map (left t) (home_in os p)) (home_in os q) ≡ cond (list_any (is_of q) os) (Some (number_or 0 os q, without t (living_in (is_of q) os))) None
home_ended_by t p q os x tabs there own true e =
    ap (λ r. option_map (left t) (home_in os r)) (one_partition p q e)
    ∙ home_left t (number_or 0 os q) (living_in (is_of q) os) (list_any (is_of q) os)
home_ended_by t p q os x tabs there own false e =
    let apart : is_of q x ≡ false = ap (λ r. pair_eq r q) own ∙ e in
    let absent : is_listed (living_in (is_of q) os) t ≡ false =
    listed-living_in (is_of q) os t tabs ∙ ap (passes (is_of q)) there ∙ ap (λ b. x.living && b) apart ∙ and-false x.living in
    ap (λ l. cond (list_any (is_of q) os) (Some (number_or 0 os q, l)) None) (sym (without_none t (living_in (is_of q) os) absent))

pub homes-ended : (t : ℕ) (os : List OpenedTab) (x : OpenedTab) (p : Pair) (homes less : HomeTable) → AreTabs os → tab_in os t ≡ Some x → x.partition ≡ p
    → AreHomes os homes → SetsHome homes less p (option_map (left t) (home_of homes p)) → AreHomes (map (ended t) os) less
homes-ended t os x p homes less tabs there own housed leaves q =
    leaves q
    ∙ ap (λ h. cond (pair_eq p q) (option_map (left t) h) (home_of homes q)) (housed p)
    ∙ ap (cond (pair_eq p q) (option_map (left t) (home_in os p))) (housed q)
    ∙ home_ended_by t p q os x tabs there own (pair_eq p q) refl
    ∙ sym (home_in-ended t q os tabs)
