-- Worked examples: the results of the definition for short conversations.
use Rattle.std.specs.Prelude.{◌≡◌, ℕ, List, [], ◌∷◌, ◌++◌, true, false, map}
use Rattle.wl_draft.specs.declared.mode.Mode.{Mode}
use Rattle.wl_draft.specs.declared.mode.Mode.TheVariants.{Shared, Exclusive}
use Rattle.wl_draft.specs.declared.row.Entry.{Entry}
use Rattle.wl_grammar.specs.declared.frame.Operation.{Operation}
use Rattle.wl_grammar.specs.declared.frame.Operation.TheVariants.{Request, Release, Abort, Query}
use Rattle.wl_grammar.specs.declared.frame.Outcome.{Outcome}
use Rattle.wl_grammar.specs.declared.frame.Outcome.TheVariants.{Waiting, Granted, Gone, Taken}
use Rattle.wl_grammar.specs.declared.frame.SnapshotEntry.{SnapshotEntry}
use Rattle.wl_grammar.specs.declared.frame.Addressed.{Addressed}
use Rattle.wl_grammar.specs.declared.frame.Upward.TheVariants as up
use Rattle.wl_grammar.specs.declared.frame.Downward.TheVariants as down
use Rattle.wl_broker.specs.declared.dropped.Dropped.{Dropped}
use Rattle.wl_broker.specs.declared.dropped.Dropped.TheVariants.{Recovering, OutOfTurn, DeadTab, AlreadyJoined, HeldByNewcomer, BadReport, Misplaced, PartTwice}
use Rattle.wl_broker.specs.Broker.{BrokerState, started, Taking, Drops, Does, taking, death_step}
use Rattle.wl_broker.specs.Events.{Event, Comes, Dies, happens}

-- Conversation with a broker

pub data Told : Type 0 where
  Dropping : (reason : Dropped) → Told
  Sending : (outs : List Addressed) → Told

abbrev pub told_for : Taking → Told
told_for (Drops reason) = Dropping reason
told_for (Does after outs) = Sending outs

abbrev pub told_by : BrokerState → Event → Told
told_by b (Comes s) = told_for (taking b s)
told_by b (Dies t) = Sending (death_step b t).1

abbrev pub told : BrokerState → List Event → List Told
told b [] = []
told b (e ∷ es) = told_by b e ∷ told (happens b e) es

-- Abbreviations

abbrev pub a : List ℕ
a = 97 ∷ []

-- Tab `t` of partition `p` reports in generation `g`.
abbrev pub report : ℕ → ℕ → ℕ → ℕ → List Entry → Event
report g t p base entries =
    Comes (record { tab = t; partition = p; inner = up.Report (record { generation = g; base = base; entries = entries }) })

-- Tab `t` of partition `p` reports part `k` of `parts` in generation 2, with base 2.
abbrev pub part : ℕ → ℕ → ℕ → ℕ → List Entry → Event
part t p k parts entries =
    Comes (record { tab = t; partition = p; inner = up.ReportPart (record { generation = 2; base = 2; part = k; parts = parts; entries = entries }) })

-- Tab `t` of partition 1 sends command `n` of generation 1.
abbrev pub command : ℕ → ℕ → Operation → Event
command t n operation =
    Comes (record { tab = t; partition = 1; inner = up.Command (record { generation = 1; number = n; operation = operation }) })

abbrev pub ask : ℕ → ℕ → Mode → Event
ask t n mode = command t n (Request mode false a)

abbrev pub probe : ℕ → ℕ → Mode → Event
probe t n mode = command t n (Request mode true a)

abbrev pub held_entry : ℕ → Entry
held_entry n = record { number = n; held = true; mode = Exclusive; name = a }

abbrev pub waiting_entry : ℕ → Entry
waiting_entry n = record { number = n; held = false; mode = Exclusive; name = a }

abbrev pub answer : ℕ → ℕ → ℕ → ℕ → Outcome → Addressed
answer g t n upto outcome =
    record { tab = t; inner = down.Answer (record { generation = g; upto = upto; number = n; outcome = outcome }) }

abbrev pub snapshot : ℕ → ℕ → List SnapshotEntry → Addressed
snapshot t n entries =
    record { tab = t; inner = down.Snapshot (record { generation = 1; number = n; part = 0; parts = 1; entries = entries }) }

-- The given tabs join, without locks to report.
abbrev pub joins : List ℕ → List Event
joins tabs = map (λ t. report 1 t 1 0 []) tabs

-- Examples

-- An exclusive request waits behind a shared lock. A shared request behind it waits too.
abbrev pub SharedThenExclusive : Type 0
SharedThenExclusive =
    told (started 1 []) (joins (1 ∷ 2 ∷ 3 ∷ 4 ∷ []) ++ ask 1 0 Shared ∷ ask 2 0 Exclusive ∷ ask 3 0 Shared ∷ [])
    ≡ Sending [] ∷ Sending [] ∷ Sending [] ∷ Sending []
    ∷ Sending (answer 1 1 0 1 Granted ∷ []) ∷ Sending (answer 1 2 0 1 Waiting ∷ []) ∷ Sending (answer 1 3 0 1 Waiting ∷ []) ∷ []

-- A probe then gets nothing. An abort of the exclusive request unblocks the shared one. Releases
-- hand the lock over.
abbrev pub ReleaseHandsOver : Type 0
ReleaseHandsOver =
    told (started 1 []) (joins (1 ∷ 2 ∷ 3 ∷ 4 ∷ []) ++ ask 1 0 Shared ∷ ask 2 0 Exclusive ∷ ask 3 0 Shared
    ∷ probe 4 0 Shared ∷ command 2 1 (Abort 0) ∷ ask 2 2 Exclusive ∷ command 1 1 (Release 0) ∷ command 3 1 (Release 0) ∷ [])
    ≡ Sending [] ∷ Sending [] ∷ Sending [] ∷ Sending []
    ∷ Sending (answer 1 1 0 1 Granted ∷ []) ∷ Sending (answer 1 2 0 1 Waiting ∷ []) ∷ Sending (answer 1 3 0 1 Waiting ∷ [])
    ∷ Sending (answer 1 4 0 1 Gone ∷ [])
    ∷ Sending (answer 1 2 1 2 Taken ∷ answer 1 3 0 1 Granted ∷ [])
    ∷ Sending (answer 1 2 2 3 Waiting ∷ [])
    ∷ Sending (answer 1 1 1 2 Taken ∷ [])
    ∷ Sending (answer 1 3 1 2 Taken ∷ answer 1 2 2 3 Granted ∷ []) ∷ []

-- An abort that arrives after the grant releases the lock.
abbrev pub LateGrantAfterAbort : Type 0
LateGrantAfterAbort =
    told (started 1 []) (joins (1 ∷ 2 ∷ []) ++ ask 1 0 Exclusive ∷ ask 2 0 Exclusive ∷ command 1 1 (Abort 0) ∷ [])
    ≡ Sending [] ∷ Sending []
    ∷ Sending (answer 1 1 0 1 Granted ∷ []) ∷ Sending (answer 1 2 0 1 Waiting ∷ [])
    ∷ Sending (answer 1 1 1 2 Taken ∷ answer 1 2 0 1 Granted ∷ []) ∷ []

-- A repeated request is answered by its standing.
abbrev pub RepeatedRequest : Type 0
RepeatedRequest =
    told (started 1 []) (joins (1 ∷ []) ++ ask 1 0 Shared ∷ ask 1 0 Shared ∷ ask 1 0 Shared ∷ command 1 1 (Release 0) ∷ ask 1 0 Shared ∷ [])
    ≡ Sending []
    ∷ Sending (answer 1 1 0 1 Granted ∷ []) ∷ Sending (answer 1 1 0 1 Granted ∷ []) ∷ Sending (answer 1 1 0 1 Granted ∷ [])
    ∷ Sending (answer 1 1 1 2 Taken ∷ []) ∷ Sending (answer 1 1 0 2 Gone ∷ []) ∷ []

-- After a restart, nothing is granted before the last listed tab has reported.
abbrev pub RestartWhileAsked : Type 0
RestartWhileAsked =
    told (started 2 ((1, 1) ∷ (2, 1) ∷ [])) (report 2 2 1 1 (waiting_entry 0 ∷ []) ∷ report 2 1 1 1 (waiting_entry 0 ∷ []) ∷ [])
    ≡ Sending [] ∷ Sending (answer 2 2 0 1 Granted ∷ []) ∷ []

abbrev pub RestartWhileHeld : Type 0
RestartWhileHeld =
    told (started 2 ((1, 1) ∷ (2, 1) ∷ [])) (report 2 2 1 1 (waiting_entry 0 ∷ []) ∷ report 2 1 1 1 (held_entry 0 ∷ []) ∷ [])
    ≡ Sending [] ∷ Sending [] ∷ []

-- A death hands the lock over. A later command of the dead tab is dropped.
abbrev pub DeathHandsOver : Type 0
DeathHandsOver =
    told (started 1 []) (joins (1 ∷ 2 ∷ []) ++ ask 1 0 Exclusive ∷ ask 2 0 Exclusive ∷ Dies 1 ∷ command 1 1 Query ∷ Dies 1 ∷ [])
    ≡ Sending [] ∷ Sending []
    ∷ Sending (answer 1 1 0 1 Granted ∷ []) ∷ Sending (answer 1 2 0 1 Waiting ∷ [])
    ∷ Sending (answer 1 2 0 1 Granted ∷ []) ∷ Dropping DeadTab ∷ Sending [] ∷ []

-- A recovering partition does not block another one.
abbrev pub OtherOriginUnblocked : Type 0
OtherOriginUnblocked =
    told (started 2 ((1, 1) ∷ (2, 1) ∷ (3, 3) ∷ [])) (report 2 3 3 1 (waiting_entry 0 ∷ []) ∷ [])
    ≡ Sending (answer 2 3 0 1 Granted ∷ []) ∷ []

abbrev pub entries : List SnapshotEntry
entries = record { held = true; tab = 1; mode = Exclusive; name = a } ∷ record { held = false; tab = 2; mode = Shared; name = a } ∷ []

-- A snapshot lists held locks before waiting requests. A repeated query is answered with Gone.
abbrev pub SnapshotRow : Type 0
SnapshotRow =
    told (started 1 []) (joins (1 ∷ 2 ∷ []) ++ ask 1 0 Exclusive ∷ ask 2 0 Shared ∷ command 1 1 Query ∷ command 2 1 Query ∷ command 2 1 Query ∷ [])
    ≡ Sending [] ∷ Sending []
    ∷ Sending (answer 1 1 0 1 Granted ∷ []) ∷ Sending (answer 1 2 0 1 Waiting ∷ [])
    ∷ Sending (snapshot 1 1 entries ∷ []) ∷ Sending (snapshot 2 1 entries ∷ []) ∷ Sending (answer 1 2 1 2 Gone ∷ []) ∷ []

-- A command ahead of its turn is dropped. It is taken when its turn has come.
abbrev pub OutOfTurnRow : Type 0
OutOfTurnRow =
    told (started 1 []) (joins (1 ∷ []) ++ ask 1 1 Shared ∷ ask 1 0 Shared ∷ ask 1 1 Shared ∷ [])
    ≡ Sending [] ∷ Dropping OutOfTurn ∷ Sending (answer 1 1 0 1 Granted ∷ []) ∷ Sending (answer 1 1 1 2 Granted ∷ []) ∷ []

-- A tab that is not listed cannot report a held lock.
abbrev pub HeldNewcomer : Type 0
HeldNewcomer = told (started 1 []) (report 1 1 1 1 (held_entry 0 ∷ []) ∷ []) ≡ Dropping HeldByNewcomer ∷ []

-- The broker does not wait for a listed tab that is dead.
abbrev pub DeadTabUnblocks : Type 0
DeadTabUnblocks =
    told (started 1 ((1, 1) ∷ [])) (report 1 2 1 0 [] ∷ ask 2 0 Exclusive ∷ Dies 1 ∷ ask 2 0 Exclusive ∷ report 1 2 1 0 [] ∷ [])
    ≡ Sending [] ∷ Dropping Recovering ∷ Sending [] ∷ Sending (answer 1 2 0 1 Granted ∷ []) ∷ Dropping AlreadyJoined ∷ []

-- The second part arrives first and is kept. The first part then makes the tab join, with the
-- entries in order.
abbrev pub InTwoParts : Type 0
InTwoParts =
    told (started 2 ((1, 1) ∷ [])) (part 1 1 1 2 (waiting_entry 1 ∷ []) ∷ part 1 1 1 2 (waiting_entry 1 ∷ []) ∷ part 1 1 0 2 (waiting_entry 0 ∷ []) ∷ part 1 1 0 2 [] ∷ [])
    ≡ Sending [] ∷ Dropping PartTwice ∷ Sending (answer 2 1 0 2 Granted ∷ []) ∷ Dropping AlreadyJoined ∷ []

-- Messages that do not fit a kept part are dropped. They are a whole report, a part with a
-- different number of parts, an entry that is out of order, and a part under another partition. The
-- kept part is discarded when the tab dies.
abbrev pub PartsThatDoNotFit : Type 0
PartsThatDoNotFit =
    told (started 2 ((1, 1) ∷ [])) (part 1 1 1 2 (waiting_entry 0 ∷ []) ∷ report 2 1 1 2 [] ∷ part 1 1 0 3 [] ∷ part 1 1 0 2 (waiting_entry 1 ∷ [])
    ∷ part 1 2 0 2 [] ∷ Dies 1 ∷ part 1 1 0 2 [] ∷ [])
    ≡ Sending [] ∷ Dropping BadReport ∷ Dropping BadReport ∷ Dropping BadReport ∷ Dropping Misplaced ∷ Sending [] ∷ Dropping DeadTab ∷ []
