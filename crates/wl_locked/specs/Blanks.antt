-- The unopened ledgers of all shards.
use Rattle.std.specs.Prelude.{◌≡◌, ℕ, [], ◌∷◌, slice_index_or}
use Rattle.wl_locked.specs.declared.shards.Blanks.{Blanks}

abbrev pub HaveParts : ℕ → Blanks → Type 0
HaveParts lanes b =
    (b.zero.parts ≡ lanes)
    × (b.one.parts ≡ lanes)
    × (b.two.parts ≡ lanes)
    × (b.three.parts ≡ lanes)
    × (b.four.parts ≡ lanes)
    × (b.five.parts ≡ lanes)
    × (b.six.parts ≡ lanes)
    × (b.seven.parts ≡ lanes)
    × (b.eight.parts ≡ lanes)
    × (b.nine.parts ≡ lanes)
    × (b.ten.parts ≡ lanes)
    × (b.eleven.parts ≡ lanes)
    × (b.twelve.parts ≡ lanes)
    × (b.thirteen.parts ≡ lanes)
    × (b.fourteen.parts ≡ lanes)
    × (b.fifteen.parts ≡ lanes)

-- The name of a shard's ledger.
abbrev pub name_at : Blanks → ℕ → ℕ
name_at b shard =
    slice_index_or
    (b.zero.name ∷ b.one.name ∷ b.two.name ∷ b.three.name ∷ b.four.name ∷ b.five.name ∷ b.six.name ∷ b.seven.name ∷ b.eight.name ∷ b.nine.name ∷ b.ten.name ∷ b.eleven.name ∷ b.twelve.name ∷ b.thirteen.name ∷ b.fourteen.name ∷ b.fifteen.name ∷ [])
    shard
    0

abbrev pub AreNamed : (ℕ → ℕ) → Blanks → Type 0
AreNamed names b =
    (b.zero.name ≡ names 0)
    × (b.one.name ≡ names 1)
    × (b.two.name ≡ names 2)
    × (b.three.name ≡ names 3)
    × (b.four.name ≡ names 4)
    × (b.five.name ≡ names 5)
    × (b.six.name ≡ names 6)
    × (b.seven.name ≡ names 7)
    × (b.eight.name ≡ names 8)
    × (b.nine.name ≡ names 9)
    × (b.ten.name ≡ names 10)
    × (b.eleven.name ≡ names 11)
    × (b.twelve.name ≡ names 12)
    × (b.thirteen.name ≡ names 13)
    × (b.fourteen.name ≡ names 14)
    × (b.fifteen.name ≡ names 15)
