-- Lemmas on the first fault among shards.
use Rattle.std.proofs.Common.{rules, ◌≡◌, ◌<◌, ℕ, false, List, [], ◌∷◌, length, Option, Some, None, refl, arith}
use Rattle.std.specs.Prelude.{slice_index_or, is_some}
use Rattle.wl_locked.specs.declared.receipt.Receipt.{Receipt}
use Rattle.wl_locked.specs.declared.receipt.Step.{Step}
use Rattle.wl_locked.specs.declared.receipt.CloseFault.{CloseFault}
use Rattle.wl_locked.specs.Sharding.{Run, IsGatheredAs, IsShardFault}

pub stopped : (run : Run) (lanes : List (List (List Receipt))) (histories : List (List Step)) (before : Option (ℕ × CloseFault)) (shard : ℕ) (fault : CloseFault)
    → false ≡ is_some before → shard < run.shards → (before ≡ None → length histories ≡ shard) → IsGatheredAs run lanes histories before → IsShardFault run lanes shard fault
    → IsGatheredAs run lanes histories (Some (shard, fault))
stopped run lanes histories None shard fault none lt long h at = (lt, at, λ s under. (slice_index_or histories s [], h s (omega (arith, long refl, under))))
stopped run lanes histories (Some e) shard fault none lt long h at = absurd (search rules)

-- A new collection has neither histories nor a fault.
pub begun : (run : Run) (lanes : List (List (List Receipt))) (histories : List (List Step)) (fault : Option (ℕ × CloseFault)) → fault ≡ None → histories ≡ [] → IsGatheredAs run lanes histories fault
begun run lanes [] None none empty = λ shard lt. absurd (omega arith)
begun run lanes (h ∷ hs) None none empty = absurd (search rules)
begun run lanes histories (Some e) none empty = absurd (search rules)
