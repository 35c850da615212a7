-- Dropped messages, case by case in the order of the definition.
use Rattle.std.proofs.Common.{◌≡◌, ◌≢◌, ℕ, ◌<◌, ◌≤◌, Bool, true, false, not, cond, ◌&&◌, ◌||◌, eqb, nat_lt, nat_le, refl, ◌∷◌, [], arith}
use Rattle.std.proofs.lemmas.Bool.{lt-ltb, le-ltb, ne_eqb}
use Rattle.wl_limits.specs.declared.tabs.TheConstants.{LAST_NUMBER}
use Rattle.wl_draft.specs.Locks.{live}
use Rattle.wl_grammar.specs.declared.frame.Operation.{Operation}
use Rattle.wl_grammar.specs.declared.frame.Stamped.{Stamped}
use Rattle.wl_broker_reports.specs.ReportParts.{Partial, Told, has_held, all_below, fits, has_part, with_told, is_whole, whole_of}
use Rattle.wl_broker.specs.declared.dropped.Dropped.TheVariants.{OldGeneration, LaterGeneration, NotJoined, Recovering, OutOfTurn, DeadTab, AlreadyJoined, HeldByNewcomer, BadReport, Misplaced, TooMany, PartTwice}
use Rattle.wl_grammar.specs.Generation.{generation_of}
use Rattle.wl_broker.specs.Broker.{BrokerState, Does, Drops, IsTaken, seat_of, partial_of, manager_of, next_of, limit_of, is_joined, is_dead, is_active, is_listed, listed_at, is_misplaced, is_lock, taking, take_inner, keeping, join_if, take_report_part, take_command, join, perform, later_answer}

-- Any message

pub old_generation : (b : BrokerState) (s : Stamped) → generation_of s.inner < b.generation → taking b s ≡ Drops OldGeneration
unfolding taking
old_generation b s h = rw (lt-ltb (generation_of s.inner) b.generation h) refl

pub later_generation : (b : BrokerState) (s : Stamped) → b.generation < generation_of s.inner → taking b s ≡ Drops LaterGeneration
unfolding taking
later_generation b s h = rw (le-ltb (generation_of s.inner) b.generation (omega arith), lt-ltb b.generation (generation_of s.inner) h) refl

module _ (b : BrokerState) (s : Stamped) (old : b.generation ≤ generation_of s.inner) (later : generation_of s.inner ≤ b.generation) where
  pub dead_tab : is_dead (seat_of b s.tab) ≡ true → taking b s ≡ Drops DeadTab
  unfolding taking
  dead_tab h = rw (le-ltb (generation_of s.inner) b.generation old, le-ltb b.generation (generation_of s.inner) later, h) refl

  pub misplaced : is_dead (seat_of b s.tab) ≡ false → is_misplaced b s.tab s.partition ≡ true → taking b s ≡ Drops Misplaced
  unfolding taking
  misplaced h k = rw (le-ltb (generation_of s.inner) b.generation old, le-ltb b.generation (generation_of s.inner) later, h, k) refl

  pub inner_taken : is_dead (seat_of b s.tab) ≡ false → is_misplaced b s.tab s.partition ≡ false → taking b s ≡ take_inner b s.tab s.partition s.inner
  unfolding taking
  inner_taken h k = rw (le-ltb (generation_of s.inner) b.generation old, le-ltb b.generation (generation_of s.inner) later, h, k) refl

-- Reports

module _ (b : BrokerState) (t p : ℕ) (x : Told) where
  pub already_joined : is_joined (seat_of b t) ≡ true → take_report_part b t p x ≡ Drops AlreadyJoined
  unfolding take_report_part
  already_joined h = rw h refl

  pub held_by_newcomer : is_joined (seat_of b t) ≡ false → (not (is_listed (listed_at t b.listed)) && has_held x.entries) ≡ true → take_report_part b t p x ≡ Drops HeldByNewcomer
  unfolding take_report_part
  held_by_newcomer h k = rw (h, k) refl

module _ (b : BrokerState) (t p : ℕ) (x : Told) (new : is_joined (seat_of b t) ≡ false) (newcomer : (not (is_listed (listed_at t b.listed)) && has_held x.entries) ≡ false) where
  pub bad_report : not (all_below x.base x.entries && fits x (partial_of b t)) ≡ true → take_report_part b t p x ≡ Drops BadReport
  unfolding take_report_part
  bad_report h = rw (new, newcomer, h) refl

  pub part_twice : not (all_below x.base x.entries && fits x (partial_of b t)) ≡ false → has_part x (partial_of b t) ≡ true → take_report_part b t p x ≡ Drops PartTwice
  unfolding take_report_part
  part_twice h k = rw (new, newcomer, h, k) refl

  pub told_taken : not (all_below x.base x.entries && fits x (partial_of b t)) ≡ false → has_part x (partial_of b t) ≡ false → take_report_part b t p x ≡ join_if b t p (with_told p x (partial_of b t))
  unfolding take_report_part
  told_taken h k = rw (new, newcomer, h, k) refl

-- Commands

module _ (b : BrokerState) (t p n : ℕ) (o : Operation) where
  pub not_joined : is_joined (seat_of b t) ≡ false → take_command b t p n o ≡ Drops NotJoined
  unfolding take_command
  not_joined h = rw h refl

  pub recovering : is_joined (seat_of b t) ≡ true → is_active b p ≡ false → take_command b t p n o ≡ Drops Recovering
  unfolding take_command
  recovering h a = rw (h, a) refl

module _ (b : BrokerState) (t p n : ℕ) (o : Operation) (joined : is_joined (seat_of b t) ≡ true) (active : is_active b p ≡ true) where
  pub out_of_turn : (nat_lt (next_of b t) n || eqb n LAST_NUMBER) ≡ true → take_command b t p n o ≡ Drops OutOfTurn
  unfolding take_command
  out_of_turn h = rw (joined, active, h) refl

  pub taken_before : n < next_of b t → n ≢ LAST_NUMBER → take_command b t p n o ≡ Does b (later_answer b t p n o ∷ [])
  unfolding take_command
  taken_before h last =
      rw (joined, active, le-ltb (next_of b t) n (omega arith), ne_eqb n LAST_NUMBER last, lt-ltb n (next_of b t) h) refl

  pub too_many : n ≡ next_of b t → n ≢ LAST_NUMBER → (is_lock o && nat_le (limit_of b t) (live (manager_of b p) t)) ≡ true → take_command b t p n o ≡ Drops TooMany
  unfolding take_command
  too_many h last many =
      rw (joined, active, le-ltb (next_of b t) n (omega arith), ne_eqb n LAST_NUMBER last, le-ltb n (next_of b t) (omega arith), many) refl

  pub command_taken : n ≡ next_of b t → n ≢ LAST_NUMBER → (is_lock o && nat_le (limit_of b t) (live (manager_of b p) t)) ≡ false → take_command b t p n o ≡ perform b t p n o
  unfolding take_command
  command_taken h last few =
      rw (joined, active, le-ltb (next_of b t) n (omega arith), ne_eqb n LAST_NUMBER last, le-ltb n (next_of b t) (omega arith), few) refl

join_taken_as : (b : BrokerState) (t p : ℕ) (k : Partial) (c : Bool) → IsTaken (cond c (join b t p (whole_of k)) (Does (keeping t k b) []))
unfolding join
join_taken_as b t p k true = tt
join_taken_as b t p k false = tt

pub join_if_taken : (b : BrokerState) (t p : ℕ) (k : Partial) → IsTaken (join_if b t p k)
unfolding join_if
join_if_taken b t p k = join_taken_as b t p k (is_whole k)

pub perform_taken : (b : BrokerState) (t p n : ℕ) (o : Operation) → IsTaken (perform b t p n o)
unfolding perform
perform_taken b t p n o = tt
