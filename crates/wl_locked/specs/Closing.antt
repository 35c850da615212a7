-- The result of closing a book with its lanes' receipts.
use Rattle.std.specs.Prelude.{◌≡◌, ◌≢◌, ◌<◌, ◌≤◌, ℕ, Bool, true, false, List, length, Result, Ok, Err, IfOk, IfErr}
use Rattle.wl_broker.specs.Broker.{BrokerState}
use Rattle.wl_locked.specs.declared.receipt.Receipt.{Receipt}
use Rattle.wl_locked.specs.declared.receipt.Step.{Step}
use Rattle.wl_locked.specs.declared.receipt.CloseFault.{CloseFault}
use Rattle.wl_locked.specs.declared.receipt.CloseFault.TheVariants.{Mismatch, WrongCount}
use Rattle.wl_locked.specs.History.{IsReplay}
use Rattle.wl_locked.specs.Receipts.{total, IsMadeOf, IsMismatch}

-- A sequential run could have made the history, it is within the step limit, and the lanes'
-- receipts make it up.
abbrev pub IsHistory : BrokerState → ℕ → List (List Receipt) → List Step → Type 0
IsHistory opening limit lanes history = IsReplay opening history × (length history ≤ limit) × IsMadeOf history lanes

-- A receipt does not fit a valid history, or some lanes are missing.
abbrev pub IsFault : BrokerState → ℕ → ℕ → List (List Receipt) → CloseFault → Type 0
IsFault opening limit parts lanes (Mismatch p) =
    (history : List Step) × IsReplay opening history × (length history ≤ limit) × (length lanes ≡ parts → length history ≡ total lanes) × IsMismatch history lanes p
IsFault opening limit parts lanes WrongCount = length lanes ≢ parts

abbrev pub IsClosed : BrokerState → ℕ → ℕ → List (List Receipt) → Result (List Step) CloseFault → Type 0
IsClosed opening limit parts lanes (Ok history) = IsHistory opening limit lanes history
IsClosed opening limit parts lanes (Err fault) = IsFault opening limit parts lanes fault

-- Helper: the result of the comparison, and the number of steps that the ledger counts.
pub record IsCompared (opening : BrokerState) (limit : ℕ) (lanes : List (List Receipt)) (steps : List Step) (compared : Result Bool ℕ) (counted : ℕ) : Type 0 where
  pub replays : IsReplay opening steps
  pub within : length steps ≤ limit
  pub counts : counted ≡ length steps
  pub made : IfOk compared (λ whole. whole ≡ true → IsMadeOf steps lanes)
  pub fewer : IfOk compared (λ whole. whole ≡ false → total lanes < length steps)
  pub other : IfErr compared (λ p. IsMismatch steps lanes p)
