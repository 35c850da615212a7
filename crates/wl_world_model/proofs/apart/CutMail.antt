-- The bag restricted to the messages of some tabs.
use Rattle.std.proofs.Common.{◌≡◌, ℕ, Bool, true, false, cond, List, [], ◌∷◌, ◌++◌, map, filter, refl, sym, ap, ◌∙◌, append-nil}
use Rattle.std.proofs.lemmas.Bool.{or_left, cond-true, cond-false}
use Rattle.std.proofs.lemmas.List.Elements.{filter-append}
use Rattle.wl_grammar.specs.declared.frame.Addressed.{Addressed}
use Rattle.wl_world_messages.specs.declared.message.Message.{Message}
use Rattle.wl_world_messages.specs.Messages.{same_message, is_sent, sent, sent_all}
use Rattle.wl_draft.specs.Membership.{In}
use Rattle.wl_draft.proofs.Membership.{In-one, by_test}
use Rattle.wl_world_messages.proofs.Same.{is_sent-In}
use Rattle.wl_world_model.specs.World.{from_broker}
use Rattle.wl_world_model.specs.Apart.{tab_at, mail}
use Rattle.wl_world_model.proofs.apart.Cuts.{any-filter, filter-all, filter-unchanged, filter-map}

-- Equal messages concern the same tab.
same-tab : (m x : Message) → same_message m x ≡ true → tab_at m ≡ tab_at x
unfolding is_sent
same-tab m x e = ap tab_at (In-one (is_sent-In m (x ∷ []) (or_left (same_message m x) false e)))

pub mail-is_sent : (f : ℕ → Bool) (m : Message) (bag : List Message) → f (tab_at m) ≡ true → is_sent m (mail f bag) ≡ is_sent m bag
unfolding is_sent
mail-is_sent f m bag e = any-filter (same_message m) (λ x. f (tab_at x)) (λ x s. ap f (sym (same-tab m x s)) ∙ e) bag

mail-sent_in : (f : ℕ → Bool) (m : Message) (bag : List Message) → f (tab_at m) ≡ true → mail f (sent m bag) ≡ sent m (mail f bag)
mail-sent_in f m bag e =
    by_test (λ v. is_sent m bag ≡ v → mail f (cond v bag (bag ++ m ∷ [])) ≡ sent m (mail f bag)) (is_sent m bag)
    (λ s _. sym (cond-true _ _ _ (mail-is_sent f m bag e ∙ s)))
    (λ n _. filter-append (λ x. f (tab_at x)) bag (m ∷ []) ∙ ap (λ z. mail f bag ++ z) (cond-true _ _ _ e) ∙ sym (cond-false _ _ _ (mail-is_sent f m bag e ∙ n)))
    refl

mail-sent_out : (f : ℕ → Bool) (m : Message) (bag : List Message) → f (tab_at m) ≡ false → mail f (sent m bag) ≡ mail f bag
mail-sent_out f m bag e =
    by_test (λ v. mail f (cond v bag (bag ++ m ∷ [])) ≡ mail f bag) (is_sent m bag)
    (λ _. refl)
    (λ _. filter-append (λ x. f (tab_at x)) bag (m ∷ []) ∙ ap (λ z. mail f bag ++ z) (cond-false _ _ _ e) ∙ append-nil (mail f bag))

pub mail-sent_all : (f : ℕ → Bool) (ms bag : List Message) → mail f (sent_all ms bag) ≡ sent_all (mail f ms) (mail f bag)
mail-sent_all f [] bag = refl
mail-sent_all f (m ∷ ms) bag =
    mail-sent_all f ms (sent m bag)
    ∙ by_test (λ v. f (tab_at m) ≡ v → sent_all (mail f ms) (mail f (sent m bag)) ≡ sent_all (cond v (m ∷ mail f ms) (mail f ms)) (mail f bag)) (f (tab_at m))
    (λ e _. ap (sent_all (mail f ms)) (mail-sent_in f m bag e))
    (λ e _. ap (sent_all (mail f ms)) (mail-sent_out f m bag e))
    refl

-- Messages that concern only these tabs, or only other tabs.
pub sends-in : (f : ℕ → Bool) (ms bag : List Message) → ((m : Message) → In m ms → f (tab_at m) ≡ true) → mail f (sent_all ms bag) ≡ sent_all ms (mail f bag)
sends-in f ms bag h = mail-sent_all f ms bag ∙ ap (λ z. sent_all z (mail f bag)) (filter-all (λ m. f (tab_at m)) ms h)

pub sends-out : (f : ℕ → Bool) (ms bag : List Message) → ((m : Message) → In m ms → f (tab_at m) ≡ false) → mail f (sent_all ms bag) ≡ mail f bag
sends-out f ms bag h = mail-sent_all f ms bag ∙ ap (λ z. sent_all z (mail f bag)) (filter-unchanged (λ m. f (tab_at m)) ms h)

-- The broker's frames to these tabs.
abbrev pub outs_for : (ℕ → Bool) → List Addressed → List Addressed
outs_for f outs = filter (λ x. f x.tab) outs

pub mail-outs : (f : ℕ → Bool) (outs : List Addressed) → mail f (map from_broker outs) ≡ map from_broker (outs_for f outs)
mail-outs f outs = filter-map (λ m. f (tab_at m)) from_broker outs
