-- Lookup of a message by the places of its key.
use Rattle.std.proofs.Common.{◌≡◌, ℕ, ◌+◌, Bool, true, false, cond, List, [], ◌∷◌, ◌++◌, length, Option, None, Some, unwrap_or, refl, sym, ap, ap₂, ◌∙◌, subst, append_assoc, length-append, not}
use Rattle.std.specs.Prelude.{slice_get, ◌||◌}
use Rattle.std.specs.List.{find, position_from, list_any}
use Rattle.std.specs.Option.{is_some}
use Rattle.std.proofs.lemmas.Iterator.Adapters.{position_from-zero}
use Rattle.wl_world_messages.specs.declared.message.Message.{Message}
use Rattle.wl_world_messages.specs.Messages.{same_message, is_sent, sent, place_of, sending}
use Rattle.wl_world_messages.specs.MessageKeys.{key_of}
use Rattle.wl_world_messages.specs.BagIndex.{same_key, places_from, is_same, is_at}
use Rattle.wl_draft.proofs.Membership.{apart}
use Rattle.wl_world_messages.proofs.Same.{message-same}
use Rattle.wl_world_messages.proofs.Indexing.{same_key-itself}

slice_get-seam : (front : List Message) (x : Message) (rest : List Message) → slice_get (front ++ x ∷ rest) (length front) ≡ Some x
slice_get-seam [] x rest = refl
slice_get-seam (y ∷ front) x rest = slice_get-seam front x rest

-- One step of the search: `t` is whether the place is searched, `s` whether its message is equal.
step : (t s : Bool) (i : ℕ) (test : ℕ → Bool) (ps : List ℕ) (q : Option ℕ)
    → test i ≡ s → (s ≡ true → t ≡ true) → find test ps ≡ q → find test (cond t (i ∷ ps) ps) ≡ cond s (Some i) q
step true s i test ps q e h rest = ap₂ (λ b r. cond b (Some i) r) e rest
step false true i test ps q e h rest = apart (h refl) refl
step false false i test ps q e h rest = rest

find-places_from : (m : Message) (front rest : List Message)
    → find (is_at m (front ++ rest)) (places_from (length front) (key_of m) rest) ≡ position_from (same_message m) (length front) rest
find-places_from m front [] = refl
find-places_from m front (x ∷ rest) =
    let later : find (is_at m ((front ++ x ∷ []) ++ rest)) (places_from (length (front ++ x ∷ [])) (key_of m) rest) ≡ position_from (same_message m) (length (front ++ x ∷ [])) rest =
    find-places_from m (front ++ x ∷ []) rest in
    let next : find (is_at m (front ++ x ∷ rest)) (places_from (length front + 1) (key_of m) rest) ≡ position_from (same_message m) (length front + 1) rest =
    subst (λ (i : ℕ). find (is_at m (front ++ x ∷ rest)) (places_from i (key_of m) rest) ≡ position_from (same_message m) i rest) (length-append front (x ∷ []))
    (subst (λ (zs : List Message). find (is_at m zs) (places_from (length (front ++ x ∷ [])) (key_of m) rest) ≡ position_from (same_message m) (length (front ++ x ∷ [])) rest) (append_assoc front (x ∷ []) rest) later) in
    step (same_key (key_of x) (key_of m)) (same_message m x) (length front) (is_at m (front ++ x ∷ rest))
    (places_from (length front + 1) (key_of m) rest) (position_from (same_message m) (length front + 1) rest)
    (ap (is_same m) (slice_get-seam front x rest))
    (λ s. subst (λ (z : Message). same_key (key_of z) (key_of m) ≡ true) (message-same m x s) (same_key-itself (key_of m)))
    next

-- A lookup by the index finds the first equal message.
pub find-place_of : (m : Message) (bag : List Message) (ps : List ℕ) → ps ≡ places_from 0 (key_of m) bag → find (is_at m bag) ps ≡ place_of m bag
find-place_of m bag ps e = ap (find (is_at m bag)) e ∙ find-places_from m [] bag ∙ sym (position_from-zero (same_message m) bag)

-- A place is found exactly if the message was sent

is_some-position_from : (p : Message → Bool) (i : ℕ) (ms : List Message) → is_some (position_from p i ms) ≡ list_any p ms
is_some-position_from p i [] = refl
is_some-position_from p i (m ∷ ms) = one (p m) (position_from p (i + 1) ms) (list_any p ms) (is_some-position_from p (i + 1) ms)
  where
    one : (b : Bool) (q : Option ℕ) (a : Bool) → is_some q ≡ a → is_some (cond b (Some i) q) ≡ (b || a)
    one true q a e = refl
    one false q a e = e

pub is_some-place_of : (m : Message) (bag : List Message) → is_some (place_of m bag) ≡ is_sent m bag
unfolding is_sent
is_some-place_of m bag = ap is_some (position_from-zero (same_message m) bag) ∙ is_some-position_from (same_message m) 0 bag

-- The result of sending, from the place that was found

found : (m : Message) (bag : List Message) (i : ℕ) → Some i ≡ place_of m bag → is_sent m bag ≡ true
found m bag i e = sym (is_some-place_of m bag) ∙ ap is_some (sym e)

absent : (m : Message) (bag : List Message) → None ≡ place_of m bag → is_sent m bag ≡ false
absent m bag e = sym (is_some-place_of m bag) ∙ ap is_some (sym e)

pub sent-found : (m : Message) (bag : List Message) (i : ℕ) → Some i ≡ place_of m bag → bag ≡ sent m bag
sent-found m bag i e = ap (λ b. cond b bag (bag ++ m ∷ [])) (sym (found m bag i e))

pub sent-absent : (m : Message) (bag : List Message) → None ≡ place_of m bag → bag ++ m ∷ [] ≡ sent m bag
sent-absent m bag e = ap (λ b. cond b bag (bag ++ m ∷ [])) (sym (absent m bag e))

pub sending-found : (m : Message) (bag : List Message) (i : ℕ) → Some i ≡ place_of m bag → record { message = m; place = i; is_new = false } ≡ sending m bag
unfolding sending
sending-found m bag i e = λ k. record { message = m; place = unwrap_or (e k) (length bag); is_new = not (sym (found m bag i e) k) }

pub sending-absent : (m : Message) (bag : List Message) (n : ℕ) → None ≡ place_of m bag → n ≡ length bag → record { message = m; place = n; is_new = true } ≡ sending m bag
unfolding sending
sending-absent m bag n e l =
    (λ k. record { message = m; place = l k; is_new = true })
    ∙ (λ k. record { message = m; place = unwrap_or (e k) (length bag); is_new = not (sym (absent m bag e) k) })
