-- Settled locks: settling them again changes nothing, and the locks of a complete partition are settled.
use Rattle.std.proofs.Common.{◌≡◌, ℕ, true, cond, List, [], ◌∷◌, ◌++◌, refl, sym, subst, append_assoc, append-nil}
use Rattle.wl_draft.specs.Locks.{Locks, no_locks, newly_granted, settle}
use Rattle.wl_broker.proofs.SettledLocks.{newly-settle, settle_same}
use Rattle.wl_world_model.specs.Orders.{Item, is_complete, done, managed_one, managed_from, managed}

-- No waiting request can be granted.
pub record Rested (m : Locks) : Type 0 where
  pub nobody : newly_granted m ≡ []
  pub same : settle m ≡ m

rested_of : (m : Locks) → newly_granted m ≡ [] → Rested m
rested_of m e = record { nobody = e; same = settle_same m e }

no_locks-newly_granted : newly_granted no_locks ≡ []
unfolding newly_granted
no_locks-newly_granted = refl

no_locks-rested : Rested no_locks
no_locks-rested = rested_of no_locks no_locks-newly_granted

managed_one-rested : (p : ℕ) (listed : List (ℕ × ℕ)) (so_far : List Item) (m : Locks) (x : Item) → is_complete p listed so_far ≡ true → Rested (managed_one p listed so_far m x)
managed_one-rested p listed so_far m x c = subst (λ b. Rested (cond b (settle (done x.tab x.act m)) (done x.tab x.act m))) (sym c) (rested_of (settle (done x.tab x.act m)) (newly-settle (done x.tab x.act m)))

managed_from-rested : (p : ℕ) (listed : List (ℕ × ℕ)) (before : List Item) (m : Locks) (xs : List Item) → (is_complete p listed before ≡ true → Rested m) → is_complete p listed (before ++ xs) ≡ true → Rested (managed_from p listed before m xs)
managed_from-rested p listed before m [] r c = r (subst (λ zs. is_complete p listed zs ≡ true) (append-nil before) c)
managed_from-rested p listed before m (x ∷ xs) r c =
    managed_from-rested p listed (before ++ x ∷ []) (managed_one p listed (before ++ x ∷ []) m x) xs (managed_one-rested p listed (before ++ x ∷ []) m x)
    (subst (λ zs. is_complete p listed zs ≡ true) (sym (append_assoc before (x ∷ []) xs)) c)

pub managed-rested : (p : ℕ) (listed : List (ℕ × ℕ)) (xs : List Item) → is_complete p listed xs ≡ true → Rested (managed p listed xs)
managed-rested p listed xs c = managed_from-rested p listed [] no_locks xs (λ _. no_locks-rested) c
