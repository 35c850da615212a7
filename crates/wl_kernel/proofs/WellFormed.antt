-- Well-formedness of the frames that the kernel creates.
use Rattle.std.proofs.Common.{◌≡◌, ℕ, ◌+◌, ◌≤◌, Bool, true, false, List, [], ◌∷◌, length, nat_lt, Option, Some, None, if◌then◌else◌, refl, sym, ap, subst, arith}
use Rattle.std.proofs.lemmas.Bool.Decides.{nat_tests}
use Rattle.std.proofs.lemmas.List.{length-map}
use Rattle.std.specs.List.{AllByRecursion}
use Rattle.wl_grammar.specs.Grammar.{IsPlace, TabsRiseFrom}
use Rattle.wl_kernel.specs.declared.fault.StartFault.TheVariants.{TooManyListed, NotRising}
use Rattle.wl_kernel.specs.Kernel.{KernelState, OpenedTab, tab_in, tab_of, is_opened, number_or, number_beside, partition_number, stranger, missing, absence, start_refusal, placed, rises_from, rises, list_limit}
use Rattle.wl_kernel.specs.TableIndexes.{AreTabs, Below, IsList}
use Rattle.wl_kernel.proofs.RisingNumbers.{rises_first, rises_rest}
use Rattle.wl_kernel.proofs.Calls.{any_of_tab, opened_some, named}

-- Numbers of at least 1

from_one_step : (t : ℕ) (o : OpenedTab) (os : List OpenedTab) (x : OpenedTab) → 1 ≤ o.tab → tab_in (o ∷ os) t ≡ Some x → (tab_in os t ≡ Some x → 1 ≤ t) → 1 ≤ t
from_one_step t o os x one there below = grind (arith, nat_tests)

pub tab_from_one : (os : List OpenedTab) (t : ℕ) (x : OpenedTab) → AreTabs os → tab_in os t ≡ Some x → 1 ≤ t
tab_from_one [] t x tabs there = cc
tab_from_one (o ∷ os) t x tabs there = from_one_step t o os x tabs.0 there (tab_from_one os t x tabs.2)

pub number_from_one : (k : KernelState) (t : ℕ) (x : OpenedTab) → AreTabs k.opened → tab_of k t ≡ Some x → 1 ≤ partition_number k t
number_from_one k t x tabs there =
    let n = named x.partition k.opened tabs (any_of_tab k.opened t x there) in
    subst (λ m. 1 ≤ m) (sym (ap (number_beside k.opened) there)) (tab_from_one k.opened (number_or 0 k.opened x.partition) n.tab tabs n.there)

-- Listed tabs

known_step : (k : KernelState) (t : ℕ) (ts : List ℕ) → stranger k (t ∷ ts) ≡ None → (is_opened k t ≡ true) × (stranger k ts ≡ None)
known_step k t ts none = grind (arith, nat_tests)

places : (k : KernelState) (listed : List ℕ) → AreTabs k.opened → stranger k listed ≡ None → AllByRecursion Below (placed listed k) → AllByRecursion IsPlace (placed listed k)
places k [] tabs none below = tt
places k (t ∷ ts) tabs none below =
    let known = known_step k t ts none in
    let x = opened_some (tab_of k t) known.0 in
    (((tab_from_one k.opened t x.0 tabs x.1, below.0.0), (number_from_one k t x.0 tabs x.1, below.0.1)), places k ts tabs known.1 below.1)

placed_rise : (k : KernelState) (a : ℕ) (ts : List ℕ) → rises_from a ts ≡ true → TabsRiseFrom a (placed ts k)
placed_rise k a [] up = tt
placed_rise k a (t ∷ ts) up = (rises_first a t ts up, placed_rise k (t + 1) ts (rises_rest a t ts up))

rises_one : (a t : ℕ) (ts : List ℕ) → 1 ≤ t → rises_from a (t ∷ ts) ≡ true → rises_from 1 (t ∷ ts) ≡ true
rises_one a t ts one up = grind (arith, nat_tests)

listed_rise : (k : KernelState) (listed : List ℕ) → AreTabs k.opened → stranger k listed ≡ None → rises listed ≡ true → TabsRiseFrom 1 (placed listed k)
listed_rise k [] tabs none up = tt
listed_rise k (t ∷ ts) tabs none up =
    let known = known_step k t ts none in
    let x = opened_some (tab_of k t) known.0 in
    placed_rise k 1 (t ∷ ts) (rises_one 0 t ts (tab_from_one k.opened t x.0 tabs x.1) up)

-- A start that is allowed

pub record IsAllowed (k : KernelState) (listed : List ℕ) : Type 0 where
  pub count : length listed ≤ 1024
  pub up : rises listed ≡ true
  pub known : stranger k listed ≡ None

no_stranger : (s m : Option ℕ) → absence s m ≡ None → s ≡ None
no_stranger (Some t) m e = cc
no_stranger None m e = refl

allowed_by : (a b : Bool) (s m : Option ℕ) → (if a then Some TooManyListed else (if b then absence s m else Some NotRising)) ≡ None
    → (a ≡ false) × (b ≡ true) × (s ≡ None)
allowed_by true b s m e = cc
allowed_by false true s m e = (refl, refl, no_stranger s m e)
allowed_by false false s m e = cc

few : (n : ℕ) → nat_lt list_limit n ≡ false → n ≤ 1024
few n e = grind (arith, nat_tests)

pub start_allowed : (k : KernelState) (listed : List ℕ) → start_refusal listed k ≡ None → IsAllowed k listed
start_allowed k listed e =
    let a = allowed_by (nat_lt list_limit (length listed)) (rises listed) (stranger k listed) (missing k listed) e in
    record { count = few (length listed) a.0; up = a.1; known = a.2 }

pub list_is_well_formed : (k : KernelState) (listed : List ℕ) → AreTabs k.opened → start_refusal listed k ≡ None → AllByRecursion Below (placed listed k)
    → IsList (placed listed k)
list_is_well_formed k listed tabs e below =
    let a = start_allowed k listed e in
    record {
      count = subst (λ n. n ≤ 1024) (sym (length-map listed (λ t. (t, partition_number k t)))) a.count;
      places = places k listed tabs a.known below;
      rise = listed_rise k listed tabs a.known a.up;
    }
