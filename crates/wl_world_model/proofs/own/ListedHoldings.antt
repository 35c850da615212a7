-- Proof that the list of holdings contains each lock held by a living tab exactly once, and no other.
use Rattle.std.proofs.Common.{◌≡◌, inl, inr, ⊎_elim, ℕ, ◌+◌, ◌≤◌, Bool, true, List, [], ◌∷◌, ◌++◌, map, filter, Option, Some, None, refl, sym, ap, ◌∙◌, subst, arith}
use Rattle.std.specs.Prelude.{◌==◌}
use Rattle.std.specs.List.{AllByRecursion, flat_map, list_any}
use Rattle.std.proofs.Math.Bool.{and-true}
use Rattle.std.proofs.lemmas.Bool.{and_parts, cond-true, cond-false, eq-eqb, eqb-true, ne_eqb, leb-true, or_left, or_right}
use Rattle.wl_draft.proofs.RisingTables.{Rises-filter, find-In}
use Rattle.wl_origin.specs.Order.{Pair}
use Rattle.wl_draft.specs.Tables.{Table, find, Rises}
use Rattle.wl_agent.specs.declared.status.Status.{Status}
use Rattle.wl_agent.specs.declared.status.Status.TheVariants.{Held}
use Rattle.wl_agent.specs.Tab.{TabState, status_of, is_held}
use Rattle.wl_kernel.specs.Kernel.{OpenedTab, tab_in, any_tab, lives as lives_in, living_tabs, rises_from, is_listed}
use Rattle.wl_kernel.specs.TableIndexes.{AreTabs}
use Rattle.wl_kernel.proofs.Living.{passes, listed-living_in, rises-living_in}
use Rattle.wl_draft.specs.Membership.{In, Here, Later}
use Rattle.wl_draft.proofs.Membership.{apart, In-nil, In-cons_cases, In-append_left, In-append_right, In-append_cases, In-map, In-map_cases, In-filter, In-filter_cases, list_any-In}
use Rattle.wl_tab.specs.declared.holding.Holding.{Holding}
use Rattle.wl_tab.specs.TabTokens.{holding_at, holdings_of}
use Rattle.wl_world_model.specs.declared.event.Event.{Event}
use Rattle.wl_world_model.specs.World.{WorldState, empty_world, tab_of, lives, run}
use Rattle.wl_world_model.specs.Holdings.{IsHolding}
use Rattle.wl_world_model.specs.Machine.{held_by_living, holding_of, IsBefore, AreOrdered, AreHoldings}
use Rattle.wl_world_model.proofs.exclusion.SoundRuns.{run-sound}
use Rattle.wl_world_model.proofs.apart.RunsApart.{reached}
use Rattle.wl_world_model.proofs.own.TabNumbers.{run-number}

-- Lists

In-flat_map : {X Y : Type 0} (f : X → List Y) {y : Y} (x : X) (xs : List X) → In x xs → In y (f x) → In y (flat_map f xs)
In-flat_map f x [] i j = absurd (In-nil i)
In-flat_map f {y = y} x (z ∷ zs) i j = ⊎_elim
    (λ e. In-append_left (flat_map f zs) (subst (λ v. In y (f v)) e j))
    (λ l. In-append_right (f z) (In-flat_map f x zs l j))
    (In-cons_cases i)

In-flat_map_cases : {X Y : Type 0} (f : X → List Y) {y : Y} (xs : List X) → In y (flat_map f xs) → (x : X) × In x xs × In y (f x)
In-flat_map_cases f [] i = absurd (In-nil i)
In-flat_map_cases f (x ∷ xs) i = ⊎_elim
    (λ a. (x, Here, a))
    (λ b. let o = In-flat_map_cases f xs b in (o.0, Later o.1, o.2))
    (In-append_cases (f x) (flat_map f xs) i)

In-any : {X : Type 0} (p : X → Bool) {x : X} (xs : List X) → In x xs → p x ≡ true → list_any p xs ≡ true
In-any p [] i e = absurd (In-nil i)
In-any p (y ∷ ys) i e = ⊎_elim
    (λ s. or_left (p y) (list_any p ys) (ap p (sym s) ∙ e))
    (λ l. or_right (p y) (list_any p ys) (In-any p ys l e))
    (In-cons_cases i)

all-In : {X : Type 0} (P : X → Type 0) (xs : List X) → ((x : X) → In x xs → P x) → AllByRecursion P xs
all-In P [] f = tt
all-In P (x ∷ xs) f = (f x Here, all-In P xs (λ y i. f y (Later i)))

-- Rows by rising number

In-above : {X : Type 0} (least : ℕ) (ps : Table X) (row : ℕ × X) → Rises least ps → In row ps → least ≤ row.0
In-above least [] row r i = absurd (In-nil i)
In-above least (p ∷ ps) row r i = ⊎_elim
    (λ e. subst (λ z. least ≤ z.0) (sym e) r.0)
    (λ l. let above = In-above (p.0 + 1) ps row r.1 l in omega (arith, r.0))
    (In-cons_cases i)

In-found : {X : Type 0} (least : ℕ) (ps : Table X) (row : ℕ × X) → Rises least ps → In row ps → find ps row.0 ≡ Some row.1
In-found least [] row r i = absurd (In-nil i)
In-found least (p ∷ ps) row r i = ⊎_elim
    (λ e. subst (λ z. find (p ∷ ps) z.0 ≡ Some z.1) (sym e) (cond-true (p.0 == p.0) (Some p.1) (find ps p.0) (eq-eqb p.0 p.0 refl)))
    (λ l. cond-false (p.0 == row.0) (Some p.1) (find ps row.0) (ne_eqb p.0 row.0 (λ e. let above = In-above (p.0 + 1) ps row r.1 l in omega arith))
    ∙ In-found (p.0 + 1) ps row r.1 l)
    (In-cons_cases i)

-- Holdings of one tab

held-is : (s : Status) → is_held (Some s) ≡ true → s ≡ Held
held-is Held e = refl
held-is s e = apart e refl

holdings-held : (a : TabState) (x : Holding) → Rises 0 a.statuses → In x (holdings_of a) → (x.tab ≡ a.tab) × (status_of a x.number ≡ Some Held) × (x ≡ holding_at a x.number)
holdings-held a x r i =
    let m = In-map_cases (λ row. holding_at a row.0) (filter (λ row. is_held (Some row.1)) a.statuses) i in
    let f = In-filter_cases (λ row. is_held (Some row.1)) a.statuses m.1 in
    let number : x.number ≡ m.0.0 = ap (λ h. h.number) m.2 in (
      ap (λ h. h.tab) m.2,
      ap (status_of a) number ∙ In-found 0 a.statuses m.0 r f.0 ∙ ap Some (held-is m.0.1 f.1),
      m.2 ∙ ap (holding_at a) (sym number),
    )

holdings-whole : (a : TabState) (k : ℕ) → status_of a k ≡ Some Held → In (holding_at a k) (holdings_of a)
holdings-whole a k e = In-map (λ row. holding_at a row.0) {x = (k, Held)} (In-filter (λ row. is_held (Some row.1)) a.statuses (find-In a.statuses k Held e) refl)

rows-ordered : (a : TabState) (least : ℕ) (ps : Table Status) → Rises least ps → AreOrdered (map (λ row. holding_at a row.0) ps)
rows-ordered a least [] r = tt
rows-ordered a least (p ∷ ps) r = (
  all-In (IsBefore (holding_at a p.0)) (map (λ row. holding_at a row.0) ps) (λ y i.
      let m = In-map_cases (λ row. holding_at a row.0) ps i in
      let above : p.0 + 1 ≤ m.0.0 = In-above (p.0 + 1) ps m.0 r.1 m.1 in
      subst (IsBefore (holding_at a p.0)) (sym m.2) (inr (refl, omega arith))),
  rows-ordered a (p.0 + 1) ps r.1,
)

holdings-ordered : (a : TabState) → Rises 0 a.statuses → AreOrdered (holdings_of a)
holdings-ordered a r = rows-ordered a 0 (filter (λ row. is_held (Some row.1)) a.statuses) (Rises-filter (λ row. is_held (Some row.1)) 0 a.statuses r)

-- Holdings of all tabs

append-ordered : (xs ys : List Holding) → AreOrdered xs → AreOrdered ys → ((x y : Holding) → In x xs → In y ys → IsBefore x y) → AreOrdered (xs ++ ys)
append-ordered [] ys a b before = b
append-ordered (x ∷ xs) ys a b before = (
  all-In (IsBefore x) (xs ++ ys) (λ y i. ⊎_elim (λ l. from_all (IsBefore x) xs a.0 y l) (λ r. before x y Here r) (In-append_cases xs ys i)),
  append-ordered xs ys a.1 b (λ u v i j. before u v (Later i) j),
)
  where
    from_all : (P : Holding → Type 0) (zs : List Holding) → AllByRecursion P zs → (z : Holding) → In z zs → P z
    from_all P [] f z i = absurd (In-nil i)
    from_all P (w ∷ ws) f z i = ⊎_elim (λ e. subst P (sym e) f.0) (λ l. from_all P ws f.1 z l) (In-cons_cases i)

listed-above : (least t : ℕ) (ts : List ℕ) → rises_from least ts ≡ true → In t ts → least ≤ t
listed-above least t [] r i = absurd (In-nil i)
listed-above least t (u ∷ us) r i =
    let parts = and_parts _ _ r in
    let first : least ≤ u = leb-true least u parts.0 in
    ⊎_elim
    (λ e. subst (λ z. least ≤ z) (sym e) first)
    (λ l. let above : u + 1 ≤ t = listed-above (u + 1) t us parts.1 l in omega arith)
    (In-cons_cases i)

-- Each tab's state carries its own number, and its statuses rise by number.
pub record OwnRows (w : WorldState) : Type 0 where
  pub own : (t : ℕ) → (tab_of w t).tab ≡ t
  pub rise : (t : ℕ) → Rises 0 (tab_of w t).statuses

before-by_tab : (x y : Holding) (t u : ℕ) → x.tab ≡ t → y.tab ≡ u → t + 1 ≤ u → IsBefore x y
before-by_tab x y t u own own' le = inl (omega arith)

tabs-ordered : (w : WorldState) → OwnRows w → (least : ℕ) (ts : List ℕ) → rises_from least ts ≡ true → AreOrdered (flat_map (λ t. holdings_of (tab_of w t)) ts)
tabs-ordered w o least [] r = tt
tabs-ordered w o least (t ∷ ts) r =
    let rest : rises_from (t + 1) ts ≡ true = (and_parts _ _ r).1 in
    append-ordered (holdings_of (tab_of w t)) (flat_map (λ u. holdings_of (tab_of w u)) ts) (holdings-ordered (tab_of w t) (o.rise t)) (tabs-ordered w o (t + 1) ts rest)
    (λ x y i j.
    let c = In-flat_map_cases (λ u. holdings_of (tab_of w u)) ts j in
    before-by_tab x y t c.0 ((holdings-held (tab_of w t) x (o.rise t) i).0 ∙ o.own t) ((holdings-held (tab_of w c.0) y (o.rise c.0) c.2).0 ∙ o.own c.0) (listed-above (t + 1) c.0 ts rest c.1))

passes-lives : (o : Option OpenedTab) → passes any_tab o ≡ lives_in o
passes-lives None = refl
passes-lives (Some o) = and-true o.living

listed-lives : (w : WorldState) → AreTabs w.kernel.opened → (t : ℕ) → is_listed (living_tabs w.kernel) t ≡ lives w t
listed-lives w a t = listed-living_in any_tab w.kernel.opened t a ∙ passes-lives (tab_in w.kernel.opened t)

holding-same : (w : WorldState) → OwnRows w → (t k : ℕ) → holding_at (tab_of w t) k ≡ holding_of w t k
holding-same w o t k = ap (λ n. record { tab = n; number = k; mode = (holding_of w t k).mode; name = (holding_of w t k).name }) (o.own t)

all-held : (w : WorldState) → AreTabs w.kernel.opened → OwnRows w → AreHoldings w (held_by_living w)
all-held w a o = record {
  whole = λ t k h.
      let l = list_any-In (λ n. n == t) (living_tabs w.kernel) (listed-lives w a t ∙ h.0) in
      subst (λ x. In x (held_by_living w)) (holding-same w o t k)
      (In-flat_map (λ u. holdings_of (tab_of w u)) t (living_tabs w.kernel) (subst (λ u. In u (living_tabs w.kernel)) (eqb-true l.0 t l.2) l.1) (holdings-whole (tab_of w t) k h.1));
  held = λ x i.
      let c = In-flat_map_cases (λ u. holdings_of (tab_of w u)) (living_tabs w.kernel) i in
      let t = c.0 in
      let h = holdings-held (tab_of w t) x (o.rise t) c.2 in
      let tab : t ≡ x.tab = sym (h.0 ∙ o.own t) in
      let live : lives w t ≡ true = sym (listed-lives w a t) ∙ In-any (λ n. n == t) (living_tabs w.kernel) c.1 (eq-eqb t t refl) in (
        subst (λ u. IsHolding w u x.number) tab (live, h.1),
        h.2 ∙ holding-same w o t x.number ∙ ap (λ u. holding_of w u x.number) tab,
      );
  ordered = tabs-ordered w o 1 (living_tabs w.kernel) (rises-living_in any_tab w.kernel.opened a);
}

-- Runs

-- The tabs of a run satisfy `AreTabs`, without reference to a partition.
run-tabs : (events : List Event) → AreTabs (run events empty_world).kernel.opened
run-tabs events = go (run events empty_world).kernel.opened (λ p. (reached p events).kernel)
  where
    go : (os : List OpenedTab) → (Pair → AreTabs os) → AreTabs os
    go [] f = tt
    go (o ∷ os) f = f o.partition

pub run-holdings : (events : List Event) → AreHoldings (run events empty_world) (held_by_living (run events empty_world))
run-holdings events =
    all-held (run events empty_world) (run-tabs events) (record { own = run-number events; rise = λ t. ((run-sound events).tabs t).state.rises })
