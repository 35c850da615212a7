-- Shards that the run does not use have no tabs, so they send no hellos.
use Rattle.std.proofs.Common.{◌≡◌, ◌<◌, ◌≤◌, ◌%◌, ⊎_elim, ℕ, zero, suc, List, [], ◌∷◌, ◌++◌, refl, ap, ◌∙◌, append-nil, arith}
use Rattle.std.proofs.lemmas.Bool.{cases_lt, cond-false, ne_eqb}
use Rattle.std.proofs.lemmas.Nat.{mod_below}
use Rattle.wl_broker.specs.Broker.{hellos}
use Rattle.wl_broker.specs.Shards.{is_of, listed_of}
use Rattle.wl_locked.specs.Sharding.{Run, hellos_below}

none_listed : (shards shard : ℕ) (xs : List (ℕ × ℕ)) → 0 < shards → shards ≤ shard → listed_of (is_of shards shard) xs ≡ []
none_listed shards shard [] some le = refl
none_listed shards shard (x ∷ xs) some le =
    cond-false _ _ _ (ne_eqb (x.1 % shards) shard (λ e. let below : x.1 % shards < shards = mod_below x.1 shards some in absurd (omega (arith, below, e, le)))) ∙ none_listed shards shard xs some le

pub no_more_hellos : (run : Run) (count : ℕ) → 0 < run.shards → run.shards ≤ count → hellos_below run count ≡ hellos_below run run.shards
no_more_hellos run zero some le = absurd (omega arith)
no_more_hellos run (suc n) some le =
    ⊎_elim
    (λ (last : n < run.shards). let e : suc n ≡ run.shards = omega arith in ap (hellos_below run) e)
    (λ (over : run.shards ≤ n). ap (λ xs. hellos_below run n ++ hellos run.generation xs) (none_listed run.shards n run.listed some over) ∙ append-nil (hellos_below run n) ∙ no_more_hellos run n some over)
    (cases_lt n run.shards)
