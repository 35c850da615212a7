-- Index of the bag when messages are added.
use Rattle.std.proofs.Common.{◌≡◌, ℕ, ◌+◌, Bool, true, false, cond, List, [], ◌∷◌, ◌++◌, length, None, Some, unwrap_or, refl, sym, ap, ◌∙◌, arith, add-zero}
use Rattle.std.proofs.lemmas.Cmp.{tied_itself}
use Rattle.std.specs.declared.cmp.Ordering.{Ordering}
use Rattle.std.specs.declared.cmp.Ordering.TheVariants.{Less, Equal, Greater}
use Rattle.std.specs.Ordering.{is_eq}
use Rattle.std.specs.Map.{lookup}
use Rattle.std.specs.BTreeMap.{BTreeMap, get, is_at}
use Rattle.wl_world_messages.specs.declared.message.Message.{Message}
use Rattle.wl_world_messages.specs.declared.message_key.Key.{Key}
use Rattle.wl_world_messages.specs.contracts.message_key.KeyOrd.TheImpl.Laws.{total-law}
use Rattle.wl_world_messages.specs.MessageKeys.{key_of}
use Rattle.wl_world_messages.specs.BagIndex.{key_order, same_key, places_at, places_from, IsIndexOf}
use Rattle.wl_draft.proofs.Membership.{apart, either}

equal-from_is_eq : (o : Ordering) → is_eq o ≡ true → o ≡ Equal
equal-from_is_eq Less h = apart h refl
equal-from_is_eq Equal h = refl
equal-from_is_eq Greater h = apart h refl

-- The index has the same places for equal keys.
places_at-same : (index : BTreeMap Key (List ℕ)) (j k : Key) → same_key j k ≡ true → places_at index j ≡ places_at index k
places_at-same index j k h =
    let e : key_order j k ≡ Equal = equal-from_is_eq (key_order j k) h in
    ap (λ (f : Key → Ordering). unwrap_or (lookup (is_at f) index.entries) []) (λ i z. total-law.congr j k z e i)

-- Inserting a missing key with one place. The map is called `at` between lookup and insertion.
pub places_at-insert : (old at new : BTreeMap Key (List ℕ)) (j : Key) (place : ℕ) (v : List ℕ)
    → None ≡ get key_order old j → at ≡ old → v ≡ place ∷ []
    → ((q : Key) → get key_order new q ≡ cond (is_at (key_order j) q) (Some v) (get key_order at q))
    → (k : Key) → places_at new k ≡ cond (same_key j k) (places_at old k ++ place ∷ []) (places_at old k)
places_at-insert old at new j place v none same one updates k =
    ap (λ o. unwrap_or o []) (updates k ∙ ap (λ (index : BTreeMap Key (List ℕ)). cond (same_key j k) (Some v) (get key_order index k)) same)
    ∙ either
    (λ z. unwrap_or (cond (same_key j k) (Some v) (get key_order old k)) [] ≡ z)
    (same_key j k) (places_at old k ++ place ∷ []) (places_at old k)
    (λ t. ap (λ b. unwrap_or (cond b (Some v) (get key_order old k)) []) t ∙ one
    ∙ ap (λ zs. zs ++ place ∷ []) (ap (λ o. unwrap_or o []) none ∙ places_at-same old j k t))
    (λ f. ap (λ b. unwrap_or (cond b (Some v) (get key_order old k)) []) f)

-- The places of a key after one more message.
places_from-push : (i : ℕ) (k : Key) (ms : List Message) (m : Message)
    → places_from i k (ms ++ m ∷ []) ≡ cond (same_key (key_of m) k) (places_from i k ms ++ (i + length ms) ∷ []) (places_from i k ms)
places_from-push i k [] m = ap (λ n. cond (same_key (key_of m) k) (n ∷ []) []) (sym (add-zero i))
places_from-push i k (x ∷ ms) m =
    ap (λ zs. cond (same_key (key_of x) k) (i ∷ zs) zs) (places_from-push (i + 1) k ms m ∙ ap (λ n. cond (same_key (key_of m) k) (places_from (i + 1) k ms ++ n ∷ []) (places_from (i + 1) k ms)) (omega arith))
    ∙ choices (same_key (key_of x) k) (same_key (key_of m) k) i (i + length (x ∷ ms)) (places_from (i + 1) k ms)
  where
    choices : (s t : Bool) (i n : ℕ) (ps : List ℕ)
        → cond s (i ∷ cond t (ps ++ n ∷ []) ps) (cond t (ps ++ n ∷ []) ps) ≡ cond t (cond s (i ∷ ps) ps ++ n ∷ []) (cond s (i ∷ ps) ps)
    choices true true i n ps = refl
    choices true false i n ps = refl
    choices false true i n ps = refl
    choices false false i n ps = refl

-- The updated index is the index of the bag with one more message.
pub IsIndexOf-push : (bag : List Message) (old new : BTreeMap Key (List ℕ)) (m : Message) (key : Key) (place : ℕ)
    → key ≡ key_of m → place ≡ length bag → IsIndexOf bag old
    → ((k : Key) → places_at new k ≡ cond (same_key key k) (places_at old k ++ place ∷ []) (places_at old k))
    → IsIndexOf (bag ++ m ∷ []) new
IsIndexOf-push bag old new m key place is_key is_place was noted = record {
  places = λ k.
      noted k
      ∙ ap (λ (j : Key). cond (same_key j k) (places_at old k ++ place ∷ []) (places_at old k)) is_key
      ∙ ap (λ (zs : List ℕ). cond (same_key (key_of m) k) (zs ++ place ∷ []) zs) (was.places k)
      ∙ ap (λ (n : ℕ). cond (same_key (key_of m) k) (places_from 0 k bag ++ n ∷ []) (places_from 0 k bag)) (omega arith)
      ∙ sym (places_from-push 0 k bag m);
}

pub same_key-itself : (k : Key) → same_key k k ≡ true
same_key-itself k = ap is_eq (tied_itself total-law k)
