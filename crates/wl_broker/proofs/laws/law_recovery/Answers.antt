use Rattle.std.proofs.Common.{◌≡◌, ℕ, Bool, true, false, not, ◌&&◌, ◌||◌, List, [], ◌∷◌, filter, refl, ap, ◌∙◌, if◌then◌else◌}
use Rattle.std.specs.Prelude.{◌==◌}
use Rattle.std.specs.List.{list_all}
use Rattle.std.proofs.lemmas.Bool.{or_left}
use Rattle.wl_draft.specs.Tables.{Table, find}
use Rattle.wl_broker.specs.declared.seat.TabSeat.{TabSeat}
use Rattle.wl_broker.specs.Broker.{has_arrived, is_active}
use Rattle.wl_broker.proofs.laws.law_recovery.Goals as goal

-- Removing an element that passes the test does not change the result for the list.
all-left_out : {X : Type 0} (test : X → Bool) (kept : Bool) (x : X) (xs ys : List X) → (kept ≡ false → test x ≡ true) → list_all test xs ≡ list_all test ys → list_all test (x ∷ xs) ≡ list_all test (if kept then x ∷ ys else ys)
all-left_out test true x xs ys passes e = ap (λ rest. test x && rest) e
all-left_out test false x xs ys passes e = ap (λ passed. passed && list_all test xs) (passes refl) ∙ e

all-own : (seats : Table TabSeat) (p : ℕ) (xs : List (ℕ × ℕ)) → list_all (λ x. not (x.1 == p) || has_arrived (find seats x.0)) xs ≡ list_all (λ x. not (x.1 == p) || has_arrived (find seats x.0)) (filter (λ x. x.1 == p) xs)
all-own seats p [] = refl
all-own seats p (x ∷ xs) =
    all-left_out (λ x. not (x.1 == p) || has_arrived (find seats x.0)) (x.1 == p) x xs (filter (λ x. x.1 == p) xs) (λ other. or_left _ _ (ap not other)) (all-own seats p xs)

pub returns : goal.returns
unfolding is_active
returns c = record { own_tabs = λ b p. all-own b.seats p b.listed }
