-- Takeover of a tab: the invariant requires less of it afterwards.
use Rattle.std.proofs.Common.{◌≡◌, ℕ, Bool, false, List, [], ◌∷◌, ◌++◌, refl}
use Rattle.std.specs.Prelude.{◌==◌}
use Rattle.std.specs.List.{list_any}
use Rattle.std.proofs.lemmas.Bool.{or_parts, or_from, ne_eqb}
use Rattle.wl_draft.proofs.Membership.{either}
use Rattle.wl_world_model.specs.World.{WorldState, lives, unchanged, taken_over, corrupts}
use Rattle.wl_world_model.specs.Holdings.{IsHonest}
use Rattle.wl_world_model.proofs.exclusion.HeldAfterSettling.{Compatible-fewer}
use Rattle.wl_world_model.proofs.exclusion.Invariant.{Sound, Counts}
use Rattle.wl_world_model.proofs.exclusion.ActsWithinAGeneration.{after, allowed-sound}

any-append : (test : ℕ → Bool) (ts us : List ℕ) → list_any test (ts ++ us) ≡ false → list_any test ts ≡ false
any-append test [] us e = refl
any-append test (t ∷ ts) us e = let o = or_parts _ _ e in or_from _ _ o.0 (any-append test ts us o.1)

-- A tab that is honest after a takeover was honest before.
pub honest-before : (t u : ℕ) (ts : List ℕ) → list_any (λ v. v == u) (taken_over t ts) ≡ false → list_any (λ v. v == u) ts ≡ false
honest-before t u ts =
    either (λ zs. list_any (λ v. v == u) zs ≡ false → list_any (λ v. v == u) ts ≡ false) (list_any (λ v. v == t) ts) ts (ts ++ t ∷ [])
    (λ _ e. e)
    (λ _ e. any-append (λ v. v == u) ts (t ∷ []) e)

-- A takeover leaves every other honest tab honest.
pub honest-after : (t u : ℕ) (ts : List ℕ) → (t ≡ u → ⊥) → list_any (λ v. v == u) ts ≡ false → list_any (λ v. v == u) (taken_over t ts) ≡ false
honest-after t u ts n h =
    either (λ zs. list_any (λ v. v == u) zs ≡ false) (list_any (λ v. v == t) ts) ts (ts ++ t ∷ [])
    (λ _. h)
    (λ _. any-push u t ts (ne_eqb t u n) h)
  where
    any-push : (u t : ℕ) (ts : List ℕ) → (t == u) ≡ false → list_any (λ v. v == u) ts ≡ false → list_any (λ v. v == u) (ts ++ t ∷ []) ≡ false
    any-push u t [] e h = or_from _ _ e refl
    any-push u t (x ∷ xs) e h = let o = or_parts _ _ h in or_from _ _ o.0 (any-push u t xs e o.1)

-- A world stays sound when fewer tabs are honest.
fewer-sound : (w : WorldState) → Sound w → (ts : List ℕ) → ((u : ℕ) → IsHonest (record w { corrupt = ts }) u → IsHonest w u) → Sound (record w { corrupt = ts })
fewer-sound w s ts before = record {
  positive = s.positive;
  current = s.current;
  tabs = s.tabs;
  messages = λ t. let m = s.messages t in record {
    held = m.held;
    commands = λ p c i. let o = m.commands p c i in (o.0, o.1, λ h. o.2 (before t h));
    reports = λ p u x e i. let o = m.reports p u x e i in (o.0, o.1, λ h. o.2 (before t h));
    grants = λ g k h. let o = m.grants g k h in (o.0, o.1, λ y. o.2 (before t y));
    hellos = m.hellos;
  };
  seats = λ t. let m = s.seats t in record {
    partial = λ k e. let o = m.partial k e in (o.0, λ h. o.1 (before t h));
    joined = λ h j. m.joined (before t h) j;
    named = m.named;
    lists = m.lists;
  };
  locks = record {
    granted = s.locks.granted;
    known = λ p r i. let o = s.locks.known p r i in (o.0, o.1, o.2, λ h. o.3 (before r.client h));
    covers = λ t k h. s.locks.covers t k (before t h);
    agree = λ p. Compatible-fewer (Counts (record w { corrupt = ts }) p) (Counts w p) (λ r c. (before r.client c.0, c.1)) (s.locks.agree p);
  };
}

pub corrupts-sound : (w : WorldState) (t : ℕ) → Sound w → Sound (after w (corrupts w t))
corrupts-sound w t s =
    allowed-sound w (lives w t) (unchanged (record w { corrupt = taken_over t w.corrupt })) s
    (λ _. fewer-sound w s (taken_over t w.corrupt) (λ u h. honest-before t u w.corrupt h))
