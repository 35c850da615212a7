-- Reader that counts its reads, and writer. Both record whether they have failed.
use Rattle.std.specs.Prelude.{ℕ, List, Bool, false, Option}
use Rattle.std.specs.Io.KnownBytes.{Appends}
use Rattle.wl_grammar.specs.Prefixes.{IsPrefixOf}

pub record Reading (R : Type 0) : Type 0 where
  pub reader : R
  pub reads : ℕ
  pub has_failed : Bool

pub record Writing (W : Type 0) : Type 0 where
  pub writer : W
  pub has_failed : Bool

abbrev pub fresh_reader : {R : Type 0} → R → Reading R
fresh_reader reader = record { reader = reader; reads = 0; has_failed = false }

abbrev pub fresh_writer : {W : Type 0} → W → Writing W
fresh_writer writer = record { writer = writer; has_failed = false }

-- The writer has received a prefix of the bytes.
abbrev pub WritesPrefix : Option (List ℕ) → Option (List ℕ) → List ℕ → Type 0
WritesPrefix old new bytes = (front : List ℕ) × IsPrefixOf front bytes × Appends old new front
