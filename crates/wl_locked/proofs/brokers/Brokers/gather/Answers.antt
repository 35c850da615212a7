use Rattle.std.proofs.Common.{◌≡◌, ◌<◌, ℕ, Bool, List, length, Result, ap, ◌∙◌, subst, arith}
use Rattle.std.specs.Prelude.{slice_index_or}
use Rattle.wl_locked.specs.declared.receipt.Receipt.{Receipt}
use Rattle.wl_locked.specs.declared.receipt.Step.{Step}
use Rattle.wl_locked.specs.Receipts.{total}
use Rattle.wl_locked.specs.Closing.{IsCompared}
use Rattle.wl_locked.specs.Sharding.{Run, IsEnding, opening_of, receipts_in}
use Rattle.wl_locked.proofs.brokers.Brokers.gather.Goals as goal

-- The comparison with the lanes' receipts, in the form that ends a shard.
ending : {run : Run} {seen lanes : List (List (List Receipt))} {shard : ℕ} {steps : List Step} {compared : Result Bool ℕ} {counted parts amount : ℕ}
    → seen ≡ lanes → IsCompared (opening_of run shard) run.limit (receipts_in shard seen) steps compared counted
    → parts ≡ length lanes → amount ≡ total (receipts_in shard lanes) → IsEnding run lanes shard steps compared counted parts amount
ending {run = run} {shard = shard} {steps = steps} {compared = compared} {counted = counted} same c p a =
    record { same = subst (λ ls. IsCompared (opening_of run shard) run.limit (receipts_in shard ls) steps compared counted) same c; all = p; sum = a }

pub returns-clause-gathered : goal.returns-clause-gathered
returns-clause-gathered g c =
    let lanes = c.args.lanes.items in
    let seen = c.as_slice-all.ensures.value in
    let parts = ap (λ v. v.0) c.shares.view_is ∙ c.gather_all-shares.ensures.parts in
    let amount = λ (shard : ℕ) (lt : shard < 16). ap (λ v. slice_index_or v.1 shard 0) c.shares.view_is ∙ c.gather_all-shares.ensures.amounts shard lt in
    let after_first = c.end.ensures.gathered lanes c.requires.first
    (ending seen c.compare-first.ensures.first parts (amount 0 (omega arith)))
    (ending seen c.compare-first.ensures.second (c.shares.invariant.0 ∙ parts) (amount 1 (omega arith)))
    (ending seen c.compare-first.ensures.third (c.shares.invariant.1 ∙ parts) (amount 2 (omega arith)))
    (ending seen c.compare-first.ensures.fourth (c.shares.invariant.2 ∙ parts) (amount 3 (omega arith))) in
    let after_second = c.end-2.ensures.gathered lanes after_first
    (ending seen c.compare-second.ensures.first (c.shares.invariant.3 ∙ parts) (amount 4 (omega arith)))
    (ending seen c.compare-second.ensures.second (c.shares.invariant.4 ∙ parts) (amount 5 (omega arith)))
    (ending seen c.compare-second.ensures.third (c.shares.invariant.5 ∙ parts) (amount 6 (omega arith)))
    (ending seen c.compare-second.ensures.fourth (c.shares.invariant.6 ∙ parts) (amount 7 (omega arith))) in
    let after_third = c.end-3.ensures.gathered lanes after_second
    (ending seen c.compare-third.ensures.first (c.shares.invariant.7 ∙ parts) (amount 8 (omega arith)))
    (ending seen c.compare-third.ensures.second (c.shares.invariant.8 ∙ parts) (amount 9 (omega arith)))
    (ending seen c.compare-third.ensures.third (c.shares.invariant.9 ∙ parts) (amount 10 (omega arith)))
    (ending seen c.compare-third.ensures.fourth (c.shares.invariant.10 ∙ parts) (amount 11 (omega arith))) in
    let after_fourth = c.end-4.ensures.gathered lanes after_third
    (ending seen c.compare-fourth.ensures.first (c.shares.invariant.11 ∙ parts) (amount 12 (omega arith)))
    (ending seen c.compare-fourth.ensures.second (c.shares.invariant.12 ∙ parts) (amount 13 (omega arith)))
    (ending seen c.compare-fourth.ensures.third (c.shares.invariant.13 ∙ parts) (amount 14 (omega arith)))
    (ending seen c.compare-fourth.ensures.fourth (c.shares.invariant.14 ∙ parts) (amount 15 (omega arith))) in
    after_fourth
