-- Index of the bag: the places of the messages with each key.
use Rattle.std.specs.Prelude.{◌≡◌, ℕ, ◌+◌, List, [], ◌∷◌, Bool, false, Option, None, Some, unwrap_or, slice_get, if◌then◌else◌}
use Rattle.std.specs.declared.cmp.Ordering.{Ordering}
use Rattle.std.specs.Ordering.{is_eq}
use Rattle.std.specs.BTreeMap.{BTreeMap, get}
use Rattle.wl_world_messages.specs.declared.message.Message.{Message}
use Rattle.wl_world_messages.specs.declared.message_key.Key.{Key}
use Rattle.wl_world_messages.specs.contracts.message_key.KeyOrd.TheImpl as key_ord
use Rattle.wl_world_messages.specs.Messages.{same_message}
use Rattle.wl_world_messages.specs.MessageKeys.{key_of}

-- The order of keys.
abbrev pub key_order : Key → Key → Ordering
key_order = (key_ord.ghosts).cmp

abbrev pub same_key : Key → Key → Bool
same_key j k = is_eq (key_order j k)

-- The places that the index has for a key.
abbrev pub places_at : BTreeMap Key (List ℕ) → Key → List ℕ
places_at index k = unwrap_or (get key_order index k) []

-- The places of the messages with a key, if the first message has place `i`.
abbrev pub places_from : ℕ → Key → List Message → List ℕ
places_from i k [] = []
places_from i k (m ∷ ms) = if same_key (key_of m) k then i ∷ places_from (i + 1) k ms else places_from (i + 1) k ms

-- For each key, the index has exactly the places of its messages.
pub record IsIndexOf (bag : List Message) (index : BTreeMap Key (List ℕ)) : Type 0 where
  pub places : (k : Key) → places_at index k ≡ places_from 0 k bag

-- Whether there is a message and it equals `m`.
abbrev pub is_same : Message → Option Message → Bool
is_same m None = false
is_same m (Some x) = same_message m x

-- Whether the place `i` of the bag has a message equal to `m`.
abbrev pub is_at : Message → List Message → ℕ → Bool
is_at m bag i = is_same m (slice_get bag i)
