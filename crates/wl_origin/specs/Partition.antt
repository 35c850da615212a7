-- Partition of a page, from its top-level URL and its own URL. It consists of the origins of both
-- (RFC 6454, section 4, on the URL Standard's origins), each a scheme, a host and a port.
use Rattle.std.specs.Prelude.{ℕ, List, Option, Some, None, Result, Ok, Err, nat_lt, length, if◌then◌else◌}
use Rattle.url.specs.Parts.{Parts}
use Rattle.url.specs.Parser.{Parsed, parse_url}
use Rattle.url.specs.Origin.{Triple, origin_of, ascii_serialization}
use Rattle.wl_limits.specs.declared.texts.TheConstants.{ORIGIN_LIMIT, URL_LIMIT}
use Rattle.wl_origin.specs.declared.fault.OriginFault.{OriginFault}
use Rattle.wl_origin.specs.declared.fault.OriginFault.TheVariants.{BadUrl, Security}
use Rattle.wl_origin.specs.Order.{Pair}

-- Origins

-- The text of an origin leaves out a default port (RFC 6454, section 6.2).
abbrev pub origin_text : Triple → List ℕ
origin_text t = ascii_serialization (Some t)

abbrev pub checked : Triple → Result Triple OriginFault
checked t = if nat_lt ORIGIN_LIMIT (length (origin_text t)) then Err BadUrl else Ok t

-- An opaque origin is refused.
abbrev pub triple_of_origin : Option Triple → Result Triple OriginFault
triple_of_origin None = Err Security
triple_of_origin (Some t) = checked t

abbrev pub triple_of_parsed : Parsed Parts → Result Triple OriginFault
triple_of_parsed (Ok url) = triple_of_origin (origin_of url)
triple_of_parsed (Err e) = Err BadUrl

-- The origin of a text, or the fault for which it has none.
unfoldable pub origin_of_text : List ℕ → Result Triple OriginFault
origin_of_text text = if nat_lt URL_LIMIT (length text) then Err BadUrl else triple_of_parsed (parse_url None text)

-- Partitions

abbrev pub with_own : Triple → Result Triple OriginFault → Result Pair OriginFault
with_own top (Ok own) = Ok (top, own)
with_own top (Err fault) = Err fault

-- A fault of the top-level origin takes precedence.
abbrev pub paired_origins : Result Triple OriginFault → Result Triple OriginFault → Result Pair OriginFault
paired_origins (Ok top) own = with_own top own
paired_origins (Err fault) own = Err fault

-- The partition of a page, from the texts of its top-level URL and its own URL.
unfoldable pub partition_of_pair : List ℕ → List ℕ → Result Pair OriginFault
partition_of_pair top own = paired_origins (origin_of_text top) (origin_of_text own)

-- The partition of a top-level page, from the text of its URL.
unfoldable pub partition_of : List ℕ → Result Pair OriginFault
partition_of text = partition_of_pair text text
