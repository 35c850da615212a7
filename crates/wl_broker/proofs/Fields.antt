-- Fields of a broker after a change, or after a change that was undone.
use Rattle.std.proofs.Common.{◌≡◌, ◌≢◌, ℕ, ◌≤◌, nat_lt, nat_le, eqb, not, ◌&&◌, ◌||◌, Bool, true, false, List, [], ◌∷◌, Option, Some, None, IsSome, is_some, length, Result, Ok, Err, IfOk, IfErr, MatchResult, refl, sym, ap, ◌∙◌, subst, arith}
use Rattle.std.specs.Result.{IsErrAnd}
use Rattle.std.proofs.lemmas.Bool.{or_parts, false≢true, eqb-true, eqb-false, ltb-false, not-false}
use Rattle.std.specs.Option.{MatchOption}
use Rattle.std.specs.Ordering.{nat_cmp}
use Rattle.std.specs.BTreeMap.{is_at, insert_entry}
use Rattle.std.specs.Map.{remove_entry, keys_of}
use Rattle.std.specs.List.Sorted.{IsStrictlySortedBy}
use Rattle.wl_limits.specs.declared.tabs.TheConstants.{LAST_NUMBER}
use Rattle.wl_draft.specs.Tables.{Table, find, has_row, put, at}
use Rattle.wl_draft.specs.Locks.{live}
use Rattle.wl_draft.specs.declared.row.Entry.{Entry}
use Rattle.wl_draft.proofs.TableLemmas.{find-put_same, insert_entry-put, remove_entry-put, is_some-lookup, lookup-find}
use Rattle.wl_grammar.specs.declared.frame.Operation.{Operation}
use Rattle.wl_grammar.specs.declared.frame.Outcome.{Outcome}
use Rattle.wl_grammar.specs.declared.frame.Addressed.{Addressed}
use Rattle.wl_broker_reports.specs.ReportParts.{Partial, kept_at, has_held}
use Rattle.wl_broker.specs.declared.seat.TabSeat.{TabSeat}
use Rattle.wl_broker.specs.declared.seat.TabSeat.TheVariants.{Joined, Dead}
use Rattle.wl_broker.specs.Broker.{BrokerState, seat_of, limit_in, limit_of, is_joined, is_dead, is_active, is_misplaced, listed_at, elsewhere, seated_at, next_of, is_lock, is_listed, manager_of, later_answer, next_in, answer_of, outcome_at}
use Rattle.wl_broker.specs.BrokerInvariant.{PartitionState, no_partition, all_arrived, broker_of, IsConsistent}
use Rattle.wl_broker.proofs.Consistency.{IsConsistent-active}
use Rattle.wl_broker.proofs.PartitionRows.{put_itself, put_put}
use Rattle.wl_broker.proofs.BrokerSteps.{is_active-fields, manager_of-fields, later_is}

pub consistent_as : {listed : List (ℕ × ℕ)} {seats seats' : Table TabSeat} {partitions partitions' : Table PartitionState} → seats' ≡ seats → partitions' ≡ partitions → IsConsistent listed seats partitions → IsConsistent listed seats' partitions'
consistent_as {listed} {seats} {seats'} {partitions} {partitions'} s p k =
    subst (λ ss. IsConsistent listed ss partitions') (sym s) (subst (λ ps. IsConsistent listed seats ps) (sym p) k)

pub same_fields : (g : ℕ) (listed : List (ℕ × ℕ)) (partial : Table Partial) {seats seats' : Table TabSeat} {partitions partitions' : Table PartitionState} → seats' ≡ seats → partitions' ≡ partitions → broker_of g listed seats' partitions' partial ≡ broker_of g listed seats partitions partial
same_fields g listed partial {seats} {seats'} {partitions} {partitions'} s p =
    ap (λ ss. broker_of g listed ss partitions' partial) s ∙ ap (λ ps. broker_of g listed seats ps partial) p

-- An `insert` of a seat is a `put`.
pub seat_put : (t : ℕ) (s : TabSeat) (seats seats' : Table TabSeat) → seats' ≡ insert_entry nat_cmp seats t s → seats' ≡ put t s seats
seat_put t s seats seats' e = e ∙ insert_entry-put t s seats

pub seat_there : (t : ℕ) (s : TabSeat) (seats seats' : Table TabSeat) → seats' ≡ insert_entry nat_cmp seats t s → IsSome (find seats' t)
seat_there t s seats seats' e = ap (λ ss. is_some (find ss t)) (seat_put t s seats seats' e) ∙ ap is_some (find-put_same t s seats)

no_row : (t : ℕ) (seats : Table TabSeat) → find seats t ≡ None → has_row seats t ≡ false
no_row t seats e = sym (is_some-lookup Dead seats t) ∙ ap is_some (lookup-find seats t ∙ e)

-- Restoring a seat undoes its insertion.
pub given_back : (t : ℕ) (s : TabSeat) (before : Option TabSeat) (seats seats' seats'' : Table TabSeat) → before ≡ find seats t → IsStrictlySortedBy nat_cmp (keys_of seats) → seats' ≡ insert_entry nat_cmp seats t s → MatchOption before (seats'' ≡ remove_entry (is_at (nat_cmp t)) seats') (λ x. seats'' ≡ put t x seats') → seats'' ≡ seats
given_back t s None seats seats' seats'' was o e back =
    back ∙ ap (remove_entry (is_at (nat_cmp t))) (seat_put t s seats seats' e) ∙ remove_entry-put t s seats (no_row t seats (sym was))
given_back t s (Some x) seats seats' seats'' was o e back =
    back ∙ ap (put t x) (seat_put t s seats seats' e) ∙ put_put t s x seats ∙ put_itself t x seats o (sym was)

-- The answer to a command that was taken before.
pub again_is : (g : ℕ) (listed : List (ℕ × ℕ)) (seats : Table TabSeat) (partitions : Table PartitionState) (partial : Table Partial) (t p n : ℕ) (o : Operation) (upto : ℕ) (outcome : Outcome) (outs : List Addressed) → upto ≡ next_in (find seats t) → outcome ≡ outcome_at (at no_partition partitions p).locks t n o → outs ≡ answer_of g upto t n outcome ∷ [] → outs ≡ later_answer (broker_of g listed seats partitions partial) t p n o ∷ []
again_is g listed seats partitions partial t p n o upto outcome outs u a e =
    rw (e, u, a, later_is (broker_of g listed seats partitions partial) t p n o, manager_of-fields g listed seats partitions partial p) refl

-- The fields of a broker determine the seat of a tab.
pub seat_seen : (g : ℕ) (listed : List (ℕ × ℕ)) (seats : Table TabSeat) (partitions : Table PartitionState) (partial : Table Partial) (b : BrokerState) (t : ℕ) (o : Option TabSeat) → broker_of g listed seats partitions partial ≡ b → o ≡ find seats t → seat_of b t ≡ o
seat_seen g listed seats partitions partial b t o v e = ap (λ x. seat_of x t) (sym v) ∙ sym e

pub active_seen : (g : ℕ) (listed : List (ℕ × ℕ)) (seats : Table TabSeat) (partitions : Table PartitionState) (partial : Table Partial) (b : BrokerState) (p : ℕ) → broker_of g listed seats partitions partial ≡ b → is_active b p ≡ true → all_arrived listed seats p ≡ true
active_seen g listed seats partitions partial b p v e =
    sym (is_active-fields g listed seats partitions partial p) ∙ ap (λ x. is_active x p) v ∙ e

-- A tab that is not misplaced has joined in no other partition.
pub placed_seen : (g : ℕ) (listed : List (ℕ × ℕ)) (seats : Table TabSeat) (partitions : Table PartitionState) (partial : Table Partial) (b : BrokerState) (t p : ℕ) → broker_of g listed seats partitions partial ≡ b → is_misplaced b t p ≡ false → elsewhere (seated_at (find seats t)) p ≡ false
unfolding is_misplaced
placed_seen g listed seats partitions partial b t p v e =
    ap (λ x. elsewhere (seated_at (seat_of x t)) p) v ∙ (or_parts _ _ (or_parts _ _ e).1).0

pub listed_seen : (b : BrokerState) (t p : ℕ) → is_misplaced b t p ≡ false → elsewhere (listed_at t b.listed) p ≡ false
unfolding is_misplaced
listed_seen b t p e = (or_parts _ _ e).0

seated_as : (o : Option TabSeat) (p : ℕ) → is_joined o ≡ true → elsewhere (seated_at o) p ≡ false → o ≡ Some (Joined p (next_in o) (limit_in o))
seated_as None p j e = absurd (false≢true j)
seated_as (Some (Joined q n l)) p j e = ap (λ r. Some (Joined r n l)) (eqb-true q p (not-false _ e))
seated_as (Some Dead) p j e = absurd (false≢true j)

pub unseated : (o : Option TabSeat) → is_joined o ≡ false → is_dead o ≡ false → o ≡ None
unseated None j d = refl
unseated (Some (Joined q n l)) j d = absurd (false≢true (sym j))
unseated (Some Dead) j d = absurd (false≢true (sym d))

-- A tab that has joined and is not misplaced has joined in this partition. The partition's row
-- states whether it is active.
module _ (g : ℕ) (listed : List (ℕ × ℕ)) (seats : Table TabSeat) (partitions : Table PartitionState) (partial : Table Partial) (b : BrokerState) (t p : ℕ) (v : broker_of g listed seats partitions partial ≡ b) (placed : is_misplaced b t p ≡ false) (o : Option TabSeat) (same : o ≡ seat_of b t) (joined : is_joined o ≡ true) where
  in_seats : o ≡ find seats t
  in_seats = same ∙ ap (λ x. seat_of x t) (sym v)

  seated : o ≡ Some (Joined p (next_in o) (limit_in o))
  seated = seated_as o p joined (ap (λ s. elsewhere (seated_at s) p) in_seats ∙ placed_seen g listed seats partitions partial b t p v placed)

  pub seated_here : seat_of b t ≡ Some (Joined p (next_in o) (limit_in o))
  seated_here = sym same ∙ seated

  pub joined_here : is_joined (seat_of b t) ≡ true
  joined_here = ap is_joined (sym same) ∙ joined

  pub next_here : next_of b t ≡ next_in o
  next_here = ap next_in (sym same)

  pub active_here : (row : PartitionState) → row ≡ at no_partition partitions p → IsConsistent listed seats partitions → is_active b p ≡ row.is_active
  active_here row r k =
      ap (λ x. is_active x p) (sym v) ∙ is_active-fields g listed seats partitions partial p
      ∙ sym (IsConsistent-active t p (next_in o) (limit_in o) k (sym in_seats ∙ seated)) ∙ ap (λ (s : PartitionState). s.is_active) (sym r)

  -- The row determines the number of waiting requests.
  pub waiting_here : (row : PartitionState) → row ≡ at no_partition partitions p → length row.locks.waiting ≡ length (manager_of b p).waiting
  waiting_here row r = rw (← v, manager_of-fields g listed seats partitions partial p, ← r) refl

  -- The number of the command is not above the next one.
  pub turn_here : (next n : ℕ) (out : Bool) → next ≡ next_in o → out ≡ (nat_lt next n || eqb n LAST_NUMBER) → out ≡ false → (n ≤ next_of b t) × (n ≢ LAST_NUMBER)
  turn_here next n out e r f =
      let parts = or_parts (nat_lt next n) (eqb n LAST_NUMBER) (sym r ∙ f) in
      (omega (arith, ltb-false next n parts.0, e, next_here), eqb-false n LAST_NUMBER parts.1)

  -- The row determines whether the tab has reached its limit of locks.
  pub live_here : (row : PartitionState) → row ≡ at no_partition partitions p → (limit : ℕ) (u : Operation) (many : Bool) → limit ≡ limit_in o → many ≡ (is_lock u && nat_le limit (live row.locks t)) → (is_lock u && nat_le (limit_of b t) (live (manager_of b p) t)) ≡ many
  live_here row r limit u many l e =
      rw (← v, manager_of-fields g listed seats partitions partial p, ← r, ← in_seats, ← l) (sym e)

-- The seat determines whether the tab has joined.
pub joined_seen : (o o' : Option TabSeat) (r : Bool) → o ≡ o' → r ≡ is_joined o → is_joined o' ≡ r
joined_seen o o' r s e = ap is_joined (sym s) ∙ sym e

pub dead_seen : (g : ℕ) (listed : List (ℕ × ℕ)) (seats : Table TabSeat) (partitions : Table PartitionState) (partial : Table Partial) (b : BrokerState) (t : ℕ) (o : Option TabSeat) (r : Bool) → broker_of g listed seats partitions partial ≡ b → o ≡ find seats t → r ≡ is_dead o → is_dead (seat_of b t) ≡ r
dead_seen g listed seats partitions partial b t o r v s e = ap (λ x. is_dead (seat_of x t)) (sym v) ∙ ap is_dead (sym s) ∙ sym e

pub newcomer_seen : (o o' : Option ℕ) (entries : List Entry) (r : Bool) → o ≡ o' → r ≡ (not (is_listed o) && has_held entries) → (not (is_listed o') && has_held entries) ≡ r
newcomer_seen o o' entries r x q = rw (← x) (sym q)

pub misplaced_seen : (g : ℕ) (listed : List (ℕ × ℕ)) (seats : Table TabSeat) (partitions : Table PartitionState) (partial : Table Partial) (b : BrokerState) (t p : ℕ) (place : Option ℕ) (o : Option TabSeat) (r : Bool) → broker_of g listed seats partitions partial ≡ b → place ≡ listed_at t listed → o ≡ find seats t → r ≡ (elsewhere place p || (elsewhere (seated_at o) p || elsewhere (kept_at (find partial t)) p)) → is_misplaced b t p ≡ r
unfolding is_misplaced
misplaced_seen g listed seats partitions partial b t p place o r v x s q = rw (← v, ← x, ← s) (sym q)

-- Results with a mapped error

pub if_ok_mapped : {T E D : Type 0} (r : Result T E) (s : Result T D) (Q : E → D → Type 0) (P : T → Type 0) → MatchResult r (λ x. s ≡ Ok x) (λ e. IsErrAnd s (Q e)) → IfOk r P → IfOk s P
if_ok_mapped (Ok x) s Q P e h = subst (λ q. IfOk q P) (sym e) h
if_ok_mapped (Err d) (Ok x) Q P e h = absurd e
if_ok_mapped (Err d) (Err f) Q P e h = tt

pub if_err_always : {T D : Type 0} (s : Result T D) (P : D → Type 0) → ((d : D) → P d) → IfErr s P
if_err_always (Ok x) P h = tt
if_err_always (Err d) P h = h d
