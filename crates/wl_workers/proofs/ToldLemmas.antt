-- Lemmas on recorded lists that grow.
use Rattle.std.proofs.Common.{List, [], ◌++◌, Option, None, Some, sym, ap, ◌∙◌, append_assoc, append-nil}
use Rattle.wl_workers.specs.CallRecords.{RecordGrows}

pub Grows-nil : {A : Type 0} (a : Option (List A)) → RecordGrows a a []
Grows-nil None = tt
Grows-nil (Some xs) = sym (append-nil xs)

pub Grows-trans : {A : Type 0} (a b c : Option (List A)) (xs ys : List A) → RecordGrows a b xs → RecordGrows b c ys → RecordGrows a c (xs ++ ys)
Grows-trans None b c xs ys p q = tt
Grows-trans (Some l) None c xs ys p q = absurd p
Grows-trans (Some l) (Some m) None xs ys p q = absurd q
Grows-trans (Some l) (Some m) (Some n) xs ys p q = q ∙ ap (λ k. k ++ ys) p ∙ append_assoc l xs ys
