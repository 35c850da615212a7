-- Lemmas on numbers read from values within a range.
use Rattle.std.proofs.Common.{◌≡◌, ◌∙◌, ◌<◌, ◌≤◌, ◌^◌, ◌==◌, ℕ, ℤ, Bool, true, false, cond, pos, neg_ℤ, ◌≤ℤ◌, List, [], ◌∷◌, Option, Some, None, Result, Ok, unwrap_or, option_map, codes, sym, ap, subst, arith}
use Rattle.std.proofs.lemmas.Int.{ints}
use Rattle.std.specs.Str.Parse.{ParsesUnsigned, digits_value, without_leading_plus}
use Rattle.clap.specs.Matches.{ReadsOne}
use Rattle.clap.specs.Values.{IsSignedIn}
use Rattle.clap.specs.Walk.{Row, Text, one_of}
use Rattle.clap.specs.Words.{without_minus}
use Rattle.clap.proofs.CallerReads.{signed_reads}
use Rattle.wl_locked.specs.declared.locked.TheConstants.{LANE_LIMIT, STEP_LIMIT}
use Rattle.wl_locked.specs.declared.shards.TheConstants.{SHARD_LIMIT}
use Rattle.wlb_command_line.specs.CommandWords.{GivesNumber, GivesSize, HasNumber, HasSize, IsSizeInRange}

-- `get_one` returns the number of an option that is given.
pub number_read : (E : Type 0) (G : List ℕ → Result ℕ E → Type 0) (k limit : ℕ) (values : List Row) (id : Text) (r : Option ℕ) → GivesNumber values id limit
    → limit < 2 ^ k → ((text : Text) → one_of id values ≡ Some text → ReadsOne G text r) → ((u : List ℕ) (x : Result ℕ E) → G u x → ParsesUnsigned k 10 u x)
    → (n : ℕ) × (r ≡ Some n) × HasNumber values id n
number_read E G k limit values id r given fits reads only =
    let read = reads (without_minus given.0) given.1 in
    let got = signed_reads E G k 1 limit given.0 r read only fits given.2 in
    let parsed = only (without_minus given.0) (Ok got.0) (subst (ReadsOne G (without_minus given.0)) got.1 read) in (
      got.0,
      got.1,
      ap (option_map (λ (text : Text). digits_value 10 (without_leading_plus text))) given.1 ∙ ap (λ (n : ℕ). Some n) (sym parsed.1),
    )

text_in_range : (limit n : ℕ) (text : Text) → IsSignedIn (pos 1) (pos limit) text → digits_value 10 (without_leading_plus (without_minus text)) ≡ n
    → (1 ≤ n) × (n ≤ limit)
text_in_range limit n [] passed is = absurd (omega (arith, passed.0.0))
text_in_range limit n (x ∷ xs) passed is = go (x == 45) passed.2 passed.3 is
  where
    signed : Bool → ℤ
    signed b = let ds = cond b xs (without_leading_plus (x ∷ xs)) in cond b (neg_ℤ (pos (digits_value 10 ds))) (pos (digits_value 10 ds))

    go : (b : Bool) → pos 1 ≤ℤ signed b → signed b ≤ℤ pos limit → digits_value 10 (without_leading_plus (unwrap_or (cond b (Some xs) None) (x ∷ xs))) ≡ n
        → (1 ≤ n) × (n ≤ limit)
    go true low high is = absurd (omega (arith, ints, low))
    go false low high is = (omega (arith, ints, low, is), omega (arith, ints, high, is))

-- A given number is within its range.
in_range : (values : List Row) (id : Text) (limit n : ℕ) → GivesNumber values id limit → HasNumber values id n → (1 ≤ n) × (n ≤ limit)
in_range values id limit n given has =
    let same = ap (option_map (λ (text : Text). digits_value 10 (without_leading_plus text))) (sym given.1) ∙ has in
    text_in_range limit n given.0 given.2 (ap (λ (o : Option ℕ). unwrap_or o n) same)

-- A given number is within any wider range.
pub wider : (values : List Row) (id : Text) (limit more : ℕ) → limit ≤ more → GivesNumber values id limit → GivesNumber values id more
wider values id limit more le given = (given.0, given.1, (given.2.0, given.2.1, given.2.2, omega (arith, ints, given.2.3, le)))

pub size_in_range : (values : List Row) (lanes shards limit : ℕ) → GivesSize values → HasSize values lanes shards limit → IsSizeInRange lanes shards limit
size_in_range values lanes shards limit given has =
    let lanes_in = in_range values (codes "lanes") LANE_LIMIT lanes given.0 has.0 in
    let shards_in = in_range values (codes "shards") SHARD_LIMIT shards given.1 has.1 in
    let limit_in = in_range values (codes "limit") STEP_LIMIT limit given.2 has.2 in
    (lanes_in.0, lanes_in.1, shards_in.0, shards_in.1, limit_in.0, limit_in.1)
