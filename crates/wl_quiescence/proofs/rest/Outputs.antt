-- The frames of the hub for one tab.
use Rattle.std.proofs.Common.{◌≡◌, ℕ, ◌==◌, List, [], ◌∷◌, map, filter, refl, subst}
use Rattle.std.proofs.lemmas.Bool.{eqb-true}
use Rattle.wl_draft.specs.Membership.{In, Here, Later}
use Rattle.wl_draft.proofs.Membership.{either}
use Rattle.wl_grammar.specs.declared.frame.Frame.{Frame}
use Rattle.wl_quiescence.proofs.rest.Invariant.{outputs_to}

pub outputs-none : (t : ℕ) (os : List (ℕ × Frame)) → ((f : Frame) → In (t, f) os → ⊥) → outputs_to t os ≡ []
outputs-none t [] f = refl
outputs-none t (o ∷ os) f =
    either (λ zs. map (λ (z : ℕ × Frame). z.1) zs ≡ []) (o.0 == t) (o ∷ filter (λ (z : ℕ × Frame). z.0 == t) os) (filter (λ (z : ℕ × Frame). z.0 == t) os)
    (λ y. absurd (f o.1 (subst (λ z. In (z, o.1) (o ∷ os)) (eqb-true o.0 t y) Here)))
    (λ _. outputs-none t os (λ g i. f g (Later i)))
