-- Taken lists with one more item.
use Rattle.std.proofs.Common.{◌≡◌, ◌≢◌, ◌⊎◌, inl, inr, ℕ, Bool, true, false, cond, not, ◌&&◌, ◌||◌, List, [], ◌∷◌, ◌++◌, filter, refl, sym, ap, ◌∙◌, append_assoc, append-nil}
use Rattle.std.specs.Prelude.{◌==◌}
use Rattle.std.specs.List.{list_any}
use Rattle.std.proofs.Math.Bool.{or-false, or_assoc}
use Rattle.std.proofs.lemmas.Bool.{or_parts, eqb-true, eqb-false, eq-eqb, ne_eqb, cond-true, cond-false}
use Rattle.std.proofs.lemmas.List.{same_from_push}
use Rattle.wl_draft.specs.Locks.{Locks, no_locks}
use Rattle.wl_draft.specs.Membership.{In, Here, Later}
use Rattle.wl_draft.proofs.Membership.{apart, either}
use Rattle.wl_world_model.specs.Orders.{Act, Reports, Item, of_partition, of_tab, is_death, is_report, has_death, has_report, base_or, base_of, command_of, commands_of, managed_one, managed_from, managed}

abbrev pub item : ℕ → ℕ → Act → Item
item t p a = record { tab = t; partition = p; act = a }

-- One more item at the end

push_if : {X : Type 0} (b : Bool) (y x : X) (zs : List X) → cond b (y ∷ (zs ++ x ∷ [])) (zs ++ x ∷ []) ≡ cond b (y ∷ zs) zs ++ x ∷ []
push_if true y x zs = refl
push_if false y x zs = refl

filter-push_true : {X : Type 0} (test : X → Bool) (xs : List X) (x : X) → test x ≡ true → filter test (xs ++ x ∷ []) ≡ filter test xs ++ x ∷ []
filter-push_true test [] x e = cond-true _ _ _ e
filter-push_true test (y ∷ xs) x e = ap (λ zs. cond (test y) (y ∷ zs) zs) (filter-push_true test xs x e) ∙ push_if (test y) y x (filter test xs)

filter-push_false : {X : Type 0} (test : X → Bool) (xs : List X) (x : X) → test x ≡ false → filter test (xs ++ x ∷ []) ≡ filter test xs
filter-push_false test [] x e = cond-false _ _ _ e
filter-push_false test (y ∷ xs) x e = ap (λ zs. cond (test y) (y ∷ zs) zs) (filter-push_false test xs x e)

pub of_partition-push_same : (xs : List Item) (t p : ℕ) (a : Act) → of_partition p (xs ++ item t p a ∷ []) ≡ of_partition p xs ++ item t p a ∷ []
of_partition-push_same xs t p a = filter-push_true (λ x. x.partition == p) xs (item t p a) (eq-eqb p p refl)

pub of_partition-push_other : (q : ℕ) (xs : List Item) (t p : ℕ) (a : Act) → p ≢ q → of_partition q (xs ++ item t p a ∷ []) ≡ of_partition q xs
of_partition-push_other q xs t p a n = filter-push_false (λ x. x.partition == q) xs (item t p a) (ne_eqb p q n)

pub of_tab-push_same : (xs : List Item) (t p : ℕ) (a : Act) → of_tab t (xs ++ item t p a ∷ []) ≡ of_tab t xs ++ item t p a ∷ []
of_tab-push_same xs t p a = filter-push_true (λ x. x.tab == t) xs (item t p a) (eq-eqb t t refl)

pub of_tab-push_other : (u : ℕ) (xs : List Item) (t p : ℕ) (a : Act) → t ≢ u → of_tab u (xs ++ item t p a ∷ []) ≡ of_tab u xs
of_tab-push_other u xs t p a n = filter-push_false (λ x. x.tab == u) xs (item t p a) (ne_eqb t u n)

any-push : (test : Item → Bool) (xs : List Item) (x : Item) → list_any test (xs ++ x ∷ []) ≡ (list_any test xs || test x)
any-push test [] x = or-false (test x)
any-push test (y ∷ xs) x = ap (λ b. test y || b) (any-push test xs x) ∙ sym (or_assoc (test y) (list_any test xs) (test x))

pub has_report-push : (xs : List Item) (x : Item) → has_report (xs ++ x ∷ []) ≡ (has_report xs || is_report x.act)
has_report-push xs x = any-push (λ y. is_report y.act) xs x

pub has_death-push : (xs : List Item) (x : Item) → has_death (xs ++ x ∷ []) ≡ (has_death xs || is_death x.act)
has_death-push xs x = any-push (λ y. is_death y.act) xs x

pub commands_of-push : (xs : List Item) (x : Item) → commands_of (xs ++ x ∷ []) ≡ commands_of xs ++ command_of x.act
commands_of-push [] x = append-nil (command_of x.act)
commands_of-push (y ∷ xs) x = ap (λ zs. command_of y.act ++ zs) (commands_of-push xs x) ∙ sym (append_assoc (command_of y.act) (commands_of xs) (command_of x.act))

pub base_or-none : (a : Act) (n : ℕ) → is_report a ≡ false → base_or a n ≡ n
base_or-none (Reports r) n e = apart refl e
base_or-none a n e = refl

pub base_of-push_first : (xs : List Item) (x : Item) → has_report xs ≡ false → base_of (xs ++ x ∷ []) ≡ base_or x.act 0
base_of-push_first [] x h = refl
base_of-push_first (y ∷ xs) x h =
    let o = or_parts _ _ h in
    base_or-none y.act (base_of (xs ++ x ∷ [])) o.0 ∙ base_of-push_first xs x o.1

-- A tab of one partition

pub of_tab-own : (t p : ℕ) (xs : List Item) → ((x : Item) → In x xs → x.tab ≡ t → x.partition ≡ p) → of_tab t (of_partition p xs) ≡ of_tab t xs
of_tab-own t p [] h = refl
of_tab-own t p (x ∷ xs) h =
    let ih = of_tab-own t p xs (λ z i. h z (Later i)) in
    either (λ zs. of_tab t zs ≡ cond (x.tab == t) (x ∷ of_tab t xs) (of_tab t xs)) (x.partition == p) (x ∷ of_partition p xs) (of_partition p xs)
    (λ e. ap (λ zs. cond (x.tab == t) (x ∷ zs) zs) ih)
    (λ e. ih ∙ sym (ap (λ b. cond b (x ∷ of_tab t xs) (of_tab t xs)) (ne_eqb x.tab t (λ s. eqb-false x.partition p e (h x Here s)))))

pub of_tab-off : (t p : ℕ) (xs : List Item) → ((x : Item) → In x xs → x.tab ≡ t → x.partition ≢ p) → of_tab t (of_partition p xs) ≡ []
of_tab-off t p [] h = refl
of_tab-off t p (x ∷ xs) h =
    let ih = of_tab-off t p xs (λ z i. h z (Later i)) in
    either (λ zs. of_tab t zs ≡ []) (x.partition == p) (x ∷ of_partition p xs) (of_partition p xs)
    (λ e. ap (λ b. cond b (x ∷ of_tab t (of_partition p xs)) (of_tab t (of_partition p xs))) (ne_eqb x.tab t (λ s. h x Here s (eqb-true x.partition p e))) ∙ ih)
    (λ e. ih)

-- A tab without items has an empty list.
pub of_tab-none : (t : ℕ) (xs : List Item) → ((x : Item) → In x xs → x.tab ≢ t) → of_tab t xs ≡ []
of_tab-none t [] h = refl
of_tab-none t (x ∷ xs) h = ap (λ b. cond b (x ∷ of_tab t xs) (of_tab t xs)) (ne_eqb x.tab t (h x Here)) ∙ of_tab-none t xs (λ z i. h z (Later i))

-- A tab of one partition has no report under another partition.
pub no_report_elsewhere : (t p : ℕ) (xs : List Item) → ((x : Item) → In x xs → x.tab ≡ t → x.partition ≡ p) → list_any (λ x. is_report x.act && not (x.partition == p)) (of_tab t xs) ≡ false
no_report_elsewhere t p [] h = refl
no_report_elsewhere t p (x ∷ xs) h =
    let ih = no_report_elsewhere t p xs (λ z i. h z (Later i)) in
    either (λ zs. list_any (λ x. is_report x.act && not (x.partition == p)) zs ≡ false) (x.tab == t) (x ∷ of_tab t xs) (of_tab t xs)
    (λ e. ap (λ b. (is_report x.act && not b) || list_any (λ x. is_report x.act && not (x.partition == p)) (of_tab t xs)) (eq-eqb x.partition p (h x Here (eqb-true x.tab t e)))
    ∙ (and_nothing (is_report x.act) (list_any (λ x. is_report x.act && not (x.partition == p)) (of_tab t xs)) ∙ ih))
    (λ e. ih)
  where
    and_nothing : (a b : Bool) → ((a && false) || b) ≡ b
    and_nothing true b = refl
    and_nothing false b = refl

-- The fold, by the last item

managed_from-push : (p : ℕ) (listed : List (ℕ × ℕ)) (before : List Item) (m : Locks) (xs : List Item) (x : Item)
    → managed_from p listed before m (xs ++ x ∷ []) ≡ managed_one p listed (before ++ (xs ++ x ∷ [])) (managed_from p listed before m xs) x
managed_from-push p listed before m [] x = refl
managed_from-push p listed before m (y ∷ xs) x =
    managed_from-push p listed (before ++ y ∷ []) (managed_one p listed (before ++ y ∷ []) m y) xs x
    ∙ ap (λ zs. managed_one p listed zs (managed_from p listed before m (y ∷ xs)) x) (append_assoc before (y ∷ []) (xs ++ x ∷ []))

pub managed-push : (p : ℕ) (listed : List (ℕ × ℕ)) (xs : List Item) (x : Item) → managed p listed (xs ++ x ∷ []) ≡ managed_one p listed (xs ++ x ∷ []) (managed p listed xs) x
managed-push p listed xs x = managed_from-push p listed [] no_locks xs x

-- Prefixes

snoc : {X : Type 0} (y : X) (ys : List X) → (zs : List X) × (z : X) × (y ∷ ys ≡ zs ++ z ∷ [])
snoc y [] = ([], y, refl)
snoc y (a ∷ ys) = let o = snoc a ys in (y ∷ o.0, o.1, ap (λ zs. y ∷ zs) o.2)

pub split-push : {X : Type 0} (before later xs : List X) (y x : X) → before ++ y ∷ later ≡ xs ++ x ∷ []
    → ((before ≡ xs) × (y ≡ x)) ⊎ ((rest : List X) × (before ++ y ∷ rest ≡ xs))
split-push before [] xs y x e = inl (same_from_push before xs y x e)
split-push before (a ∷ later) xs y x e =
    let o = snoc a later in
    inr (o.0, (same_from_push (before ++ y ∷ o.0) xs o.1 x (append_assoc before (y ∷ o.0) (o.1 ∷ []) ∙ (ap (λ zs. before ++ y ∷ zs) (sym o.2) ∙ e))).0)
