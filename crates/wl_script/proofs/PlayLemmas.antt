-- Lemmas on the effect of a line on a world.
use Rattle.std.proofs.Common.{◌≡◌, ◌⊎◌, inl, inr, ⊎_elim, ℕ, Bool, true, false, ◌&&◌, List, ◌++◌, Option, Some, None, is_some, is_none, option_map, Result, Ok, Err, OnOk, IfOk, refl, sym, ap, subst, ◌∙◌, append_assoc}
use Rattle.std.specs.Prelude.{if◌then◌else◌}
use Rattle.wl_origin.specs.Order.{Pair}
use Rattle.wl_origin.specs.declared.fault.OriginFault.{OriginFault}
use Rattle.wl_origin.specs.declared.fault.OriginFault.TheVariants.{Memory}
use Rattle.wl_kernel.specs.declared.fault.OpenFault.{OpenFault}
use Rattle.wl_kernel.specs.Kernel.{open_refusal}
use Rattle.wl_world_messages.specs.declared.effect.Effect.{Effect}
use Rattle.wl_world_messages.specs.declared.effect.Effect.TheVariants as said
use Rattle.wl_world_messages.specs.declared.effect.Refusal.TheVariants as refusal
use Rattle.wl_world_messages.specs.Refused.{refused_or}
use Rattle.wl_world_model.specs.declared.event.Event.TheVariants as event
use Rattle.wl_world_model.specs.World.{WorldState}
use Rattle.wl_world_model.specs.Machine.{Machine}
use Rattle.wl_world_model.specs.Replies.{said_of, reply_of}
use Rattle.wl_script.specs.Played.{Played, plays, says, and_plays, fault_text, opening, opens, opens_url}
use Rattle.wl_script.specs.SimSteps.{is_opened, Becomes}

unrefused : (o : Option OpenFault) (s : Effect) → is_opened s ≡ true → is_opened (refused_or (option_map refusal.Open o) s) ≡ is_none o
unrefused (Some f) s e = refl
unrefused None s e = e

-- The reply tells whether the tab was opened.
pub opened_said : (in_parts : Bool) (w : WorldState) (t : ℕ) (p : Pair) → is_opened (reply_of w (opening in_parts t p)).said ≡ is_none (open_refusal t p w.kernel)
unfolding reply_of said_of
opened_said false w t p = unrefused (open_refusal t p w.kernel) (said.Opened t p) refl
opened_said true w t p = unrefused (open_refusal t p w.kernel) (said.OpenedTwo t p) refl

-- A reported fault of URLs is the true one, unless memory ran out.
pub refused-fault : (r : Result Pair OriginFault) (fault : OriginFault) → (fault ≡ Memory → ⊥) → (fault ≡ Memory) ⊎ (r ≡ Err fault) → r ≡ Err fault
refused-fault r fault n h = ⊎_elim (λ lack. absurd (n lack)) (λ e. e) h

-- A refused URL leaves the world unchanged, and the fault is printed.
pub refuses : {X : Type 0} (in_parts : Bool) (done : Result Machine X) (w : WorldState) (t : ℕ) (r : Result Pair OriginFault) (fault : OriginFault) (before written : List ℕ)
    → (fault ≡ Memory) ⊎ (r ≡ Err fault) → OnOk done (fault ≡ Memory → ⊥) → IfOk done (λ after. Becomes (says w (fault_text fault)) after before written)
    → IfOk done (λ after. Becomes (opens_url in_parts w t r) after before written)
refuses in_parts (Ok after) w t r fault before written h n b = rw (refused-fault r fault n h) b
refuses in_parts (Err e) w t r fault before written h n b = tt

both : (a b : Bool) → a ≡ true → b ≡ true → (a && b) ≡ true
both a b p q = rw (p, q) refl

one_more : (p q : Played) (a : Bool) (after : Machine) (before written : List ℕ) → a ≡ true → Becomes q after before written → Becomes (if a then q else p) after before written
one_more p q a after before written e h = subst (λ b. Becomes (if b then q else p) after before written) (sym e) h

none_more : (p q : Played) (a : Bool) (after : Machine) (before written : List ℕ) → a ≡ false → Becomes p after before written → Becomes (if a then q else p) after before written
none_more p q a after before written e h = subst (λ b. Becomes (if b then q else p) after before written) (sym e) h

-- An opened tab is greeted if a broker is up.
pub opens_greeted : (in_parts : Bool) (w : WorldState) (t : ℕ) (partition : Pair) (mid after : Machine) (before between written : List ℕ)
    → is_none (open_refusal t partition w.kernel) ≡ true → is_some w.broker ≡ true
    → Becomes (plays w (opening in_parts t partition)) mid before between → Becomes (plays mid.world (event.Hello t)) after between written
    → Becomes (opens in_parts w t partition) after before written
opens_greeted in_parts w t partition mid after before between written opened up first second =
    let p = plays w (opening in_parts t partition) in
    let q = plays p.world (event.Hello t) in
    let greeted : Becomes q after between written = subst (λ x. Becomes (plays x (event.Hello t)) after between written) first.0 second in
    one_more p (and_plays p (event.Hello t)) _ after before written (both _ _ opened up)
    (greeted.0, greeted.1 ∙ ap (λ l. l ++ q.written) first.1 ∙ append_assoc before p.written q.written)

-- A tab is not greeted if it was not opened or no broker is up.
pub opens_alone : (in_parts : Bool) (w : WorldState) (t : ℕ) (partition : Pair) (after : Machine) (before written : List ℕ)
    → (is_none (open_refusal t partition w.kernel) && is_some w.broker) ≡ false
    → Becomes (plays w (opening in_parts t partition)) after before written → Becomes (opens in_parts w t partition) after before written
opens_alone in_parts w t partition after before written e h =
    let p = plays w (opening in_parts t partition) in
    none_more p (and_plays p (event.Hello t)) _ after before written e h

-- A conjunction is false if one side is false.
pub not_both : (a b x y : Bool) → a ≡ x → b ≡ y → ((a ≡ true) × (b ≡ false)) ⊎ (a ≡ false) → (x && y) ≡ false
not_both a b x y p q (inl h) =
    let first : x ≡ true = sym p ∙ h.0 in
    let second : y ≡ false = sym q ∙ h.1 in
    rw (first, second) refl
not_both a b x y p q (inr h) =
    let first : x ≡ false = sym p ∙ h in
    rw first refl
