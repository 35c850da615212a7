-- Lemmas on the origin of a text, from the results of `url`, and on partitions, from their origins.
use Rattle.std.proofs.Common.{◌≡◌, ◌⊎◌, ◌<◌, ◌≤◌, ℕ, List, length, None, Result, Ok, Err, inl, inr, ap, ap₂, sym, ◌∙◌, refl}
use Rattle.std.proofs.lemmas.Bool.{cases_lt, le-ltb, lt-ltb}
use Rattle.url.specs.declared.error.ParseError.{ParseError}
use Rattle.url.specs.declared.error.ParseError.TheVariants.{Overflow, OutOfMemory}
use Rattle.url.specs.Parts.{Parts}
use Rattle.url.specs.Parser.{IsOutOfRoom, parse_url}
use Rattle.url.specs.Origin.{Triple, origin_of}
use Rattle.wl_limits.specs.declared.texts.TheConstants.{URL_LIMIT}
use Rattle.wl_origin.specs.declared.fault.OriginFault.{OriginFault}
use Rattle.wl_origin.specs.declared.fault.OriginFault.TheVariants.{BadUrl, Memory}
use Rattle.wl_origin.specs.Fault.{fault_of}
use Rattle.wl_origin.specs.Order.{paired}
use Rattle.wl_origin.specs.Partition.{origin_of_text, triple_of_origin, triple_of_parsed, paired_origins, partition_of, partition_of_pair}

abbrev bad_url : Result Triple OriginFault
bad_url = Err BadUrl

-- A text that is too long has no origin.
pub origin_of_text-long : (text : List ℕ) → URL_LIMIT < length text → origin_of_text text ≡ Err BadUrl
unfolding origin_of_text
origin_of_text-long text long = rw (lt-ltb URL_LIMIT (length text) long)

-- Any other text is parsed.
pub origin_of_text-short : (text : List ℕ) → length text ≤ URL_LIMIT
    → origin_of_text text ≡ triple_of_parsed (parse_url None text)
unfolding origin_of_text
origin_of_text-short text short = rw (le-ltb URL_LIMIT (length text) short)

-- A text that has an origin is not too long.
pub origin_of_text-fits : (text : List ℕ) (own : Triple) → origin_of_text text ≡ Ok own → length text ≤ URL_LIMIT
origin_of_text-fits text own is = elim (cases_lt URL_LIMIT (length text)) [
  | inl long ↦
      let both : bad_url ≡ Ok own = sym (origin_of_text-long text long) ∙ is in
      absurd cc
  | inr short ↦ short
]

-- A text that can be parsed has the origin of its URL.
pub origin_of_text-parsed : (text : List ℕ) (url : Parts) → length text ≤ URL_LIMIT → parse_url None text ≡ Ok url
    → origin_of_text text ≡ triple_of_origin (origin_of url)
origin_of_text-parsed text url short parsed =
    origin_of_text-short text short ∙ ap triple_of_parsed parsed

bad_or_memory : (cause : ParseError) → (fault_of cause ≡ Memory) ⊎ (fault_of cause ≡ BadUrl)
bad_or_memory OutOfMemory = inl refl
bad_or_memory Overflow = inl refl
bad_or_memory _ = inr refl

-- Errors for lack of memory become `Memory`.
pub fault_of-out_of_room : (cause : ParseError) → IsOutOfRoom cause → fault_of cause ≡ Memory
fault_of-out_of_room cause (inl e) = ap fault_of e
fault_of-out_of_room cause (inr e) = ap fault_of e

-- If the parser fails, the text has no origin for that reason, or the parser ran out of memory.
pub refused_parse : (text : List ℕ) (cause : ParseError) → length text ≤ URL_LIMIT
    → (parse_url None text ≡ Err cause) ⊎ IsOutOfRoom cause
    → (fault_of cause ≡ Memory) ⊎ (origin_of_text text ≡ Err (fault_of cause))
refused_parse text cause short (inl refused) = elim (bad_or_memory cause) [
  | inl memory ↦ inl memory
  | inr bad ↦ inr (origin_of_text-short text short ∙ ap triple_of_parsed refused ∙ ap Err (sym bad))
]
refused_parse text cause short (inr room) = inl (fault_of-out_of_room cause room)

-- Partitions

-- The partition of a top-level page is its origin paired with itself.
pub partition_of-origin : (text : List ℕ) (own : Triple) → origin_of_text text ≡ Ok own → partition_of text ≡ Ok (paired own)
unfolding partition_of partition_of_pair
partition_of-origin text own is = ap (λ o. paired_origins o o) is

pub partition_of_pair-origins : (top own : List ℕ) (t o : Triple) → origin_of_text top ≡ Ok t → origin_of_text own ≡ Ok o → partition_of_pair top own ≡ Ok (t, o)
unfolding partition_of_pair
partition_of_pair-origins top own t o is also = ap₂ paired_origins is also

-- A text was refused for the fault that its definition gives, or for lack of memory.
abbrev pub Refused : {X : Type 0} → Result X OriginFault → OriginFault → Type 0
Refused answer fault = (fault ≡ Memory) ⊎ (answer ≡ Err fault)

-- A refused origin means a refused partition, with the same fault.
pub refused_partition : (text : List ℕ) (fault : OriginFault) → Refused (origin_of_text text) fault → Refused (partition_of text) fault
unfolding partition_of partition_of_pair
refused_partition text fault (inl memory) = inl memory
refused_partition text fault (inr is) = inr (ap (λ o. paired_origins o o) is)

pub refused_top : (top own : List ℕ) (fault : OriginFault) → Refused (origin_of_text top) fault → Refused (partition_of_pair top own) fault
unfolding partition_of_pair
refused_top top own fault (inl memory) = inl memory
refused_top top own fault (inr is) = inr (ap (λ t. paired_origins t (origin_of_text own)) is)

pub refused_own : (top own : List ℕ) (t : Triple) (fault : OriginFault) → origin_of_text top ≡ Ok t → Refused (origin_of_text own) fault → Refused (partition_of_pair top own) fault
unfolding partition_of_pair
refused_own top own t fault is (inl memory) = inl memory
refused_own top own t fault is (inr also) = inr (ap₂ paired_origins is also)
