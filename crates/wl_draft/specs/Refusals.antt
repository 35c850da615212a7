-- Relation between a call's result and the refusal that its definition gives.
use Rattle.std.specs.Prelude.{◌≡◌, ◌≢◌, Option, Some, None, Result, Err, OnOk, IfErr}

-- The call succeeds only if the definition refuses nothing, and otherwise fails with the refusal
-- that it gives.
abbrev pub RefusesOnlyBy : {T E : Type 0} → Result T E → Option E → Type 0
RefusesOnlyBy result refusal = OnOk result (refusal ≡ None) × IfErr result (λ e. refusal ≡ Some e)

-- The call succeeds only if the definition refuses nothing. Otherwise it fails with that refusal.
-- It may also run out of memory, but only if the definition refuses nothing.
abbrev pub RefusesBy : {T E : Type 0} → Result T E → Option E → E → Type 0
RefusesBy result refusal memory =
    OnOk result (refusal ≡ None) × IfErr result (λ e. e ≢ memory → refusal ≡ Some e) × (result ≡ Err memory → refusal ≡ None)
