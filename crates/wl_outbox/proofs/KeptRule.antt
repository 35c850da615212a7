-- Lemmas that each step keeps the rule.
use Rattle.std.proofs.Common.{◌≡◌, ◌≢◌, ℕ, zero, suc, List, [], ◌∷◌, ◌++◌, set, All, Bool, true, false, inr, sym, refl, ap, ◌∙◌, subst, ⊎_elim, arith, append_assoc}
use Rattle.std.proofs.lemmas.List.Elements.{All-push}
use mathlib.Core.Option.{some-injective, some-ne-none}
use lib.ListN.{get_elem?}
use Rattle.crossbeam_queue.specs.Fifo.{Pushes, Pops, Forks, Learns}
use Rattle.crossbeam_queue.proofs.Lists.{at_set, at_snoc, at_longer, set_else, set_again}
use Rattle.wl_outbox.specs.declared.rule.Role.{Role}
use Rattle.wl_outbox.specs.declared.rule.Role.TheVariants.{Opening, Taking, Putting}
use Rattle.wl_outbox.specs.declared.rule.View.{View}
use Rattle.wl_outbox.specs.Parcels.{Packed}
use Rattle.wl_outbox.specs.OutboxRule.{Knows, puts, put_of, put_by, IsForTabOf, IsMerging, opening, IsOrderly}
use Rattle.wl_outbox.specs.OutboxSteps.{taker_of, putter_of, with_parcel, put_in, taken_out, IsMoment}
use Rattle.wl_outbox.specs.Passes.{is_taking, role_of}
use Rattle.wl_outbox.proofs.Merging.{merge_push, merge_same}
use Rattle.wl_outbox.proofs.Puts.{knows_here, put_by-here, put_by-other, put_by-same, put_by-push}

abbrev Each : (ℕ → View → Type 0) → List View → Type 0
Each P views = (pass : ℕ) (v : View) → Knows views pass v → P pass v

each_set : (P : ℕ → View → Type 0) (views : List View) (pass : ℕ) (w : View) → Each P views → P pass w → Each P (set views pass w)
each_set P views pass w h mine j u e = ⊎_elim
    (λ (t : (j ≡ pass) × (w ≡ u)). subst (λ (y : ℕ × View). P y.0 y.1) (λ i. (sym t.0 i, t.1 i)) mine)
    (λ (t : (j ≢ pass) × Knows views j u). h j u t.1)
    (at_set views pass j w u e)

-- An outbox with a pass that takes or puts is assigned to a tab.
opened : (items : List Packed) (views : List View) (pass : ℕ) (v : View) → IsOrderly items views → Knows views pass v → v.role ≢ Opening → IsMerging items views
opened items views pass v h at role = ⊎_elim
    (λ (o : (views ≡ opening ∷ []) × (items ≡ [])). absurd (role (only pass (subst (λ vs. Knows vs pass v) o.0 at))))
    (λ (m : IsMerging items views). m)
    h
  where
    only : (i : ℕ) → Knows (opening ∷ []) i v → v.role ≡ Opening
    only zero e = ap (λ (u : View). u.role) (sym (some-injective opening v e))
    only (suc i) e = absurd (some-ne-none v (sym e))

not_taking : Putting ≡ Taking → ⊥
not_taking e = cc

not_opening : Taking ≡ Opening → ⊥
not_opening e = cc

never_opening : Putting ≡ Opening → ⊥
never_opening e = cc

-- A pass that does not take has the putting role.
pub putting_role : (role : Role) (takes : Bool) → role ≡ role_of takes → is_taking role ≡ false → role ≡ Putting
putting_role Opening true e f = cc
putting_role Opening false e f = cc
putting_role Taking takes e f = cc
putting_role Putting takes e f = refl

-- A pass that takes has the taking role.
pub taking_role : (role : Role) → is_taking role ≡ true → role ≡ Taking
taking_role Opening e = cc
taking_role Taking e = refl
taking_role Putting e = cc

module _ (partition tab : ℕ) where
  abbrev t : View
  t = taker_of partition tab

  abbrev p : View
  p = putter_of partition tab

  two : (P : ℕ → View → Type 0) → P 0 t → P 1 p → Each P (t ∷ p ∷ [])
  two P a b zero v e = subst (P 0) (some-injective t v e) a
  two P a b (suc zero) v e = subst (P 1) (some-injective p v e) b
  two P a b (suc (suc i)) v e = absurd (some-ne-none v (sym e))

  none_put : (i : ℕ) → [] ≡ put_by (t ∷ p ∷ []) i
  none_put zero = refl
  none_put (suc zero) = refl
  none_put (suc (suc i)) = refl

  -- The outbox with its first two passes.
  both : IsMerging [] (t ∷ p ∷ [])
  both = record {
    taker = 0;
    taking = t;
    knows = refl;
    takes = refl;
    alone = two (λ i v. v.role ≡ Taking → i ≡ 0) (λ _. refl) (λ e. absurd (not_taking e));
    merge = record { labelled = []; all = refl; each = none_put };
    opened = two (λ i v. v.role ≢ Opening) (λ e. not_opening e) (λ e. never_opening e);
    same_tab = two (λ i v. (v.partition ≡ partition) × (v.tab ≡ tab)) (refl, refl) (refl, refl);
    for_tab = λ k d lt. absurd (omega arith);
  }

  alone : (i : ℕ) → Knows (opening ∷ []) i opening → IsOrderly [] (set (opening ∷ []) i t ++ p ∷ [])
  alone zero e = inr both
  alone (suc i) e = absurd (some-ne-none opening (sym e))

  pub opens : (pass : ℕ) → Forks IsOrderly pass opening t p
  opens pass items views h at = ⊎_elim
      (λ (o : (views ≡ opening ∷ []) × (items ≡ [])).
      subst (λ (y : List Packed × List View). IsOrderly y.0 (set y.1 pass t ++ p ∷ [])) (λ i. (sym o.1 i, sym o.0 i)) (alone pass (subst (λ vs. Knows vs pass opening) o.0 at)))
      (λ (m : IsMerging items views). absurd (m.opened pass opening at refl))
      h

pub deals : (pass : ℕ) (v : View) → v.role ≡ Taking → Forks IsOrderly pass v v (putter_of v.partition v.tab)
deals pass v role items views h at =
    let m = opened items views pass v h at (λ e. cc) in
    let n : View = putter_of v.partition v.tab in
    let mine = m.same_tab pass v at in
    inr (subst (λ vs. IsMerging items (vs ++ n ∷ [])) (sym (set_again views pass v at)) record {
      taker = m.taker;
      taking = m.taking;
      knows = at_longer views (n ∷ []) m.taker m.taking m.knows;
      takes = m.takes;
      alone = λ i u e is. ⊎_elim (λ (was : Knows views i u). m.alone i u was is) (λ (same : n ≡ u). absurd (let r = ap (λ (y : View). y.role) same in cc)) (at_snoc views n u i e);
      merge = merge_same _ _ _ _ m.merge refl (put_by-push views n refl);
      opened = λ i u e is. ⊎_elim (λ (was : Knows views i u). m.opened i u was is) (λ (same : n ≡ u). absurd (let r = ap (λ (y : View). y.role) same in cc)) (at_snoc views n u i e);
      same_tab = λ i u e. ⊎_elim (λ (was : Knows views i u). m.same_tab i u was) (λ (same : n ≡ u). subst (λ (y : View). (y.partition ≡ m.taking.partition) × (y.tab ≡ m.taking.tab)) same mine) (at_snoc views n u i e);
      for_tab = m.for_tab;
    })

-- A putting pass has put its list of parcels.
putting_puts : (v : View) (l : List Packed) → v.role ≡ Putting → puts v.role l ≡ l
putting_puts v l e = ap (λ r. puts r l) e

taking_puts : (v : View) (l : List Packed) → v.role ≡ Taking → puts v.role l ≡ []
taking_puts v l e = ap (λ r. puts r l) e

pub puts_kept : (n pass : ℕ) (v : View) (x : Packed) → v.role ≡ Putting → IsForTabOf v x → Pushes IsOrderly n pass v x (put_in v x)
puts_kept n pass v x role for_tab items views room h at =
    let m = opened items views pass v h at (λ e. cc) in
    let w : View = with_parcel v x in
    let mine = m.same_tab pass v at in
    let apart : m.taker ≢ pass = λ e. (let is = some-injective m.taking v (sym m.knows ∙ ap (get_elem? views) e ∙ at) in let r = ap (λ (y : View). y.role) is in let a = m.takes in cc) in (
      w,
      inr record {
        taker = m.taker;
        taking = m.taking;
        knows = set_else views pass m.taker w apart ∙ m.knows;
        takes = m.takes;
        alone = each_set (λ i u. u.role ≡ Taking → i ≡ m.taker) views pass w m.alone (λ e. absurd cc);
        merge = merge_same _ _ _ _
            (merge_push (m.taking.parcels ++ items) (put_by views) (put_by (set views pass w)) pass x m.merge
            (put_by-here views pass v w at ∙ putting_puts v (v.parcels ++ x ∷ []) role ∙ ap (λ l. l ++ x ∷ []) (sym (ap put_of at ∙ putting_puts v v.parcels role)))
            (λ q ne. put_by-other views pass q w ne))
            (append_assoc m.taking.parcels items (x ∷ []))
            (λ q. refl);
        opened = each_set (λ i u. u.role ≢ Opening) views pass w m.opened (m.opened pass v at);
        same_tab = each_set (λ i u. (u.partition ≡ m.taking.partition) × (u.tab ≡ m.taking.tab)) views pass w m.same_tab mine;
        for_tab = subst (All (IsForTabOf m.taking)) (append_assoc m.taking.parcels items (x ∷ [])) (All-push (IsForTabOf m.taking) (m.taking.parcels ++ items) x m.for_tab (for_tab.0 ∙ mine.0, for_tab.1 ∙ mine.1));
      },
      refl,
    )

-- A property of all elements holds for the element between two lists.
middle : (P : Packed → Type 0) (xs : List Packed) (x : Packed) (ys : List Packed) → All P (xs ++ x ∷ ys) → P x
middle P [] x ys h = h 0 x (omega arith)
middle P (z ∷ xs) x ys h = middle P xs x ys (λ k d lt. h (suc k) d (omega arith))

pub takes_kept : (pass : ℕ) (v : View) → v.role ≡ Taking → Pops IsOrderly pass v (taken_out v)
takes_kept pass v role x items views h at =
    let m = opened (x ∷ items) views pass v h at (λ e. cc) in
    let w : View = with_parcel v x in
    let mine = m.same_tab pass v at in
    let here : pass ≡ m.taker = m.alone pass v at role in
    let is : m.taking ≡ v = some-injective m.taking v (sym m.knows ∙ ap (get_elem? views) (sym here) ∙ at) in
    let row : m.taking.parcels ++ x ∷ items ≡ (v.parcels ++ x ∷ []) ++ items = ap (λ (y : View). y.parcels ++ x ∷ items) is ∙ sym (append_assoc v.parcels (x ∷ []) items) in
    let all : All (IsForTabOf v) (m.taking.parcels ++ x ∷ items) = subst (λ (y : View). All (IsForTabOf y) (m.taking.parcels ++ x ∷ items)) is m.for_tab in
    let x_for : IsForTabOf v x = middle (IsForTabOf v) m.taking.parcels x items all in (
      w,
      inr record {
        taker = pass;
        taking = w;
        knows = knows_here views pass v w at;
        takes = role;
        alone = each_set (λ i u. u.role ≡ Taking → i ≡ pass) views pass w (λ i u e r. m.alone i u e r ∙ sym here) (λ _. refl);
        merge = merge_same _ _ _ _ m.merge row (put_by-same views pass v w at (taking_puts v v.parcels role ∙ sym (taking_puts v (v.parcels ++ x ∷ []) role)));
        opened = each_set (λ i u. u.role ≢ Opening) views pass w m.opened (m.opened pass v at);
        same_tab = each_set (λ i u. (u.partition ≡ v.partition) × (u.tab ≡ v.tab)) views pass w
            (λ i u e. let s = m.same_tab i u e in (s.0 ∙ sym mine.0, s.1 ∙ sym mine.1)) (refl, refl);
        for_tab = subst (All (IsForTabOf v)) row all;
      },
      (refl, x_for),
    )

pub learns : (pass : ℕ) (v : View) → Learns IsOrderly pass v (IsMoment v)
learns pass v items views h at = (views, pass, h, at)

pub merging : (items : List Packed) (views : List View) (pass : ℕ) (v : View) → IsOrderly items views → Knows views pass v → v.role ≡ Taking → IsMerging items views
merging items views pass v h at role = opened items views pass v h at (λ e. cc)
