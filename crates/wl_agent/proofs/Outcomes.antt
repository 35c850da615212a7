-- Lemmas on results: those that hold for any result, and those that hold if a refusal does not
-- apply.
use Rattle.std.proofs.Common.{◌≡◌, Bool, true, false, cond, Option, Some, None, refl, Result, Ok, Err, OnErr}

pub on_err : {T E : Type 0} (r : Result T E) (P : Type 0) → P → OnErr r P
on_err (Ok v) P p = tt
on_err (Err e) P p = p

pub passed : {X : Type 0} (b : Bool) (x : X) (o : Option X) → cond b (Some x) o ≡ None → (b ≡ false) × (o ≡ None)
passed true x o e = cc
passed false x o e = (refl, e)
