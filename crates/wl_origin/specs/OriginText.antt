-- Invariant of a stored origin: its triple and its text agree.
use Rattle.std.specs.Prelude.{◌≡◌, ◌≤◌, length, string_bytes}
use Rattle.url.specs.Host.{owned_host}
use Rattle.url.specs.Origin.{Triple}
use Rattle.wl_limits.specs.declared.texts.TheConstants.{ORIGIN_LIMIT}
use Rattle.wl_origin.specs.Partition.{origin_text}
use Rattle.wl_origin.specs.declared.tuple_origin.TupleOrigin.TheInside.{Inside}

abbrev pub triple_of : Inside → Triple
triple_of p = (string_bytes p.scheme, owned_host p.host, p.port)

-- The stored text is the text of the triple, and its length is within the limit.
pub record KeepsText (p : Inside) : Type 0 where
  pub text : string_bytes p.text ≡ origin_text (triple_of p)
  pub within : length (string_bytes p.text) ≤ ORIGIN_LIMIT
