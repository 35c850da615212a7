-- Lemmas on the items of one source, and on merges that grow by one item.
use Rattle.std.proofs.Common.{◌≡◌, ◌≢◌, ℕ, List, [], ◌∷◌, ◌++◌, map, cond, sym, refl, ap, ◌∙◌, subst, ⊎_elim, eq-eqb, ne_eqb}
use Rattle.std.specs.Prelude.{filter, ◌==◌}
use Rattle.std.proofs.lemmas.Bool.{cases_eq}
use Rattle.std.proofs.lemmas.List.{map-append, append-nil}
use Rattle.std.proofs.lemmas.List.Elements.{filter-append}
use Rattle.wl_outbox.specs.Merge.{from_source, IsMerge}

module _ {A : Type 0} where
  pub from_source-append : (p : ℕ) (a b : List (ℕ × A)) → from_source p (a ++ b) ≡ from_source p a ++ from_source p b
  from_source-append p a b =
      ap (map (λ (l : ℕ × A). l.1)) (filter-append (λ (l : ℕ × A). l.0 == p) a b)
      ∙ map-append (λ (l : ℕ × A). l.1) (filter (λ (l : ℕ × A). l.0 == p) a) (filter (λ (l : ℕ × A). l.0 == p) b)

  pub from_source-hit : (p : ℕ) (l : ℕ × A) (ls : List (ℕ × A)) → l.0 ≡ p → from_source p (l ∷ ls) ≡ l.1 ∷ from_source p ls
  from_source-hit p l ls e =
      subst (λ b. map (λ (m : ℕ × A). m.1) (cond b (l ∷ filter (λ (m : ℕ × A). m.0 == p) ls) (filter (λ (m : ℕ × A). m.0 == p) ls)) ≡ l.1 ∷ from_source p ls)
      (sym (eq-eqb l.0 p e)) refl

  pub from_source-miss : (p : ℕ) (l : ℕ × A) (ls : List (ℕ × A)) → l.0 ≢ p → from_source p (l ∷ ls) ≡ from_source p ls
  from_source-miss p l ls ne =
      subst (λ b. map (λ (m : ℕ × A). m.1) (cond b (l ∷ filter (λ (m : ℕ × A). m.0 == p) ls) (filter (λ (m : ℕ × A). m.0 == p) ls)) ≡ from_source p ls)
      (sym (ne_eqb l.0 p ne)) refl

  -- A merge grows by one item when one source does.
  pub merge_push : (items : List A) (lists more : ℕ → List A) (p : ℕ) (x : A) → IsMerge items lists → more p ≡ lists p ++ x ∷ []
      → ((q : ℕ) → q ≢ p → more q ≡ lists q) → IsMerge (items ++ x ∷ []) more
  merge_push items lists more p x m here others = record {
    labelled = m.labelled ++ (p, x) ∷ [];
    all = map-append (λ (l : ℕ × A). l.1) m.labelled ((p, x) ∷ []) ∙ ap (λ l. l ++ x ∷ []) m.all;
    each = λ q. ⊎_elim
        (λ (is : q ≡ p). from_source-append q m.labelled ((p, x) ∷ []) ∙ ap (λ l. from_source q m.labelled ++ l) (from_source-hit q (p, x) [] (sym is))
        ∙ ap (λ l. l ++ x ∷ []) (m.each q) ∙ ap (λ i. lists i ++ x ∷ []) is ∙ sym here ∙ ap more (sym is))
        (λ (not : q ≡ p → ⊥). from_source-append q m.labelled ((p, x) ∷ []) ∙ ap (λ l. from_source q m.labelled ++ l) (from_source-miss q (p, x) [] (λ e. not (sym e)))
        ∙ append-nil (from_source q m.labelled) ∙ m.each q ∙ sym (others q not))
        (cases_eq q p);
  }

  pub merge_same : (items items' : List A) (lists lists' : ℕ → List A) → IsMerge items lists → items ≡ items' → ((p : ℕ) → lists p ≡ lists' p) → IsMerge items' lists'
  merge_same items items' lists lists' m same each = record { labelled = m.labelled; all = m.all ∙ same; each = λ p. m.each p ∙ each p }
