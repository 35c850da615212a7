-- Lemmas on the rows that `retain` keeps.
use Rattle.std.proofs.Common.{◌≡◌, ℕ, Bool, true, false, cond, [], ◌∷◌, Option, is_none, refl, subst, ap, ◌∙◌}
use Rattle.std.specs.Map.Calls.{RetainsPairs}
use Rattle.wl_process_rules.specs.TabEnds.{Rows, running}

running_cons : (p : ℕ × Option ℕ) (ps : Rows) (b : Bool) → is_none p.1 ≡ b → cond b ((p.0, p.1) ∷ running ps) (running ps) ≡ running (p ∷ ps)
running_cons p ps true e = rw e refl
running_cons p ps false e = rw e refl

retained_as : (p : ℕ × Option ℕ) (ps kept rest : Rows) (b : Bool) (w : Option ℕ) → b ≡ is_none p.1 → w ≡ p.1 → rest ≡ running ps → kept ≡ cond b ((p.0, w) ∷ rest) rest → kept ≡ running (p ∷ ps)
retained_as p ps kept rest b w b_is w_is rest_is kept_is =
    kept_is ∙ ap (λ x. cond x ((p.0, w) ∷ rest) rest) b_is ∙ ap (λ (s : Option ℕ). cond (is_none p.1) ((p.0, s) ∷ rest) rest) w_is ∙ ap (λ rs. cond (is_none p.1) ((p.0, p.1) ∷ rs) rs) rest_is ∙ running_cons p ps (is_none p.1) refl

-- A closure that keeps the running processes and changes nothing filters the rows.
pub retained : {F : Type 0} (T : F → ℕ → Option ℕ → Bool → Option ℕ → F → Type 0) (f : F) → ((k : ℕ) (v : Option ℕ) (b : Bool) (w : Option ℕ) (f' : F) → T f k v b w f' → (b ≡ is_none v) × (w ≡ v) × (f' ≡ f)) → (es kept : Rows) → RetainsPairs T f es kept → kept ≡ running es
retained T f says [] kept r = r
retained {F} T f says (p ∷ ps) kept r =
    let told = says p.0 p.1 r.0 r.1 r.2 r.4 in
    let R : F → Type 0 = λ g. RetainsPairs T g ps r.3 in
    retained_as p ps kept r.3 r.0 r.1 told.0 told.1 (retained T f says ps r.3 (subst R told.2 r.5)) r.6
