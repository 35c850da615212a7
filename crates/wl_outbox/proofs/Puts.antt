-- Lemmas on the passes' puts after one view changes.
use Rattle.std.proofs.Common.{◌≡◌, ◌≢◌, ℕ, zero, suc, List, [], ◌∷◌, ◌++◌, set, sym, refl, ap, ◌∙◌, subst, ⊎_elim}
use Rattle.std.proofs.lemmas.Bool.{cases_eq}
use mathlib.Core.Option.{some-ne-none}
use Rattle.crossbeam_queue.proofs.Lists.{set_else}
use Rattle.wl_outbox.specs.declared.rule.View.{View}
use Rattle.wl_outbox.specs.OutboxRule.{Knows, puts, put_of, put_by}

pub knows_here : (views : List View) (pass : ℕ) (v w : View) → Knows views pass v → Knows (set views pass w) pass w
knows_here [] pass v w at = absurd (some-ne-none v (sym at))
knows_here (x ∷ xs) zero v w at = refl
knows_here (x ∷ xs) (suc i) v w at = knows_here xs i v w at

pub put_by-here : (views : List View) (pass : ℕ) (v w : View) → Knows views pass v → put_by (set views pass w) pass ≡ puts w.role w.parcels
put_by-here views pass v w at = ap put_of (knows_here views pass v w at)

pub put_by-other : (views : List View) (pass q : ℕ) (w : View) → q ≢ pass → put_by (set views pass w) q ≡ put_by views q
put_by-other views pass q w ne = ap put_of (set_else views pass q w ne)

-- If a changed pass has put the same parcels, no pass's puts change.
pub put_by-same : (views : List View) (pass : ℕ) (v w : View) → Knows views pass v → puts v.role v.parcels ≡ puts w.role w.parcels → (q : ℕ) → put_by views q ≡ put_by (set views pass w) q
put_by-same views pass v w at same q = ⊎_elim
    (λ (is : q ≡ pass). subst (λ i. put_by views i ≡ put_by (set views pass w) i) (sym is) (ap put_of at ∙ same ∙ sym (put_by-here views pass v w at)))
    (λ (not : q ≡ pass → ⊥). sym (put_by-other views pass q w not))
    (cases_eq q pass)

-- A new pass has put nothing.
pub put_by-push : (views : List View) (n : View) → puts n.role n.parcels ≡ [] → (q : ℕ) → put_by views q ≡ put_by (views ++ n ∷ []) q
put_by-push [] n none zero = sym none
put_by-push [] n none (suc q) = refl
put_by-push (x ∷ xs) n none zero = refl
put_by-push (x ∷ xs) n none (suc q) = put_by-push xs n none q
