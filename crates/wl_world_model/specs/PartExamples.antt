-- Worked examples: partitions that are pairs of origins, and reports in parts.
use Rattle.std.specs.Prelude.{◌≡◌, ℕ, zero, suc, ◌+◌, List, [], ◌∷◌, ◌++◌, Bool, true, false, map, Option, Some, None}
use Rattle.url.specs.declared.host.Host.TheVariants.{Domain}
use Rattle.url.specs.Origin.{Triple}
use Rattle.wl_origin.specs.Order.{paired}
use Rattle.wl_draft.specs.declared.mode.Mode.TheVariants.{Shared, Exclusive}
use Rattle.wl_draft.specs.declared.row.Entry.{Entry}
use Rattle.wl_draft.specs.Locks.{row_of}
use Rattle.wl_grammar.specs.declared.frame.Operation.TheVariants.{Request}
use Rattle.wl_grammar.specs.declared.frame.Outcome.TheVariants.{Granted}
use Rattle.wl_grammar.specs.declared.frame.Stamped.{Stamped}
use Rattle.wl_grammar.specs.declared.frame.Addressed.{Addressed}
use Rattle.wl_grammar.specs.declared.frame.Upward.TheVariants as up
use Rattle.wl_grammar.specs.declared.frame.Downward.TheVariants as down
use Rattle.wl_grammar.specs.declared.frame.Frame.TheVariants as frame
use Rattle.wl_grammar.specs.Grammar.{spelling}
use Rattle.wl_broker.specs.declared.dropped.Dropped.{Dropped}
use Rattle.wl_broker.specs.declared.dropped.Dropped.TheVariants.{AlreadyJoined, HeldByNewcomer, BadReport, PartTwice, Misplaced, DeadTab}
use Rattle.wl_broker.specs.Broker.{BrokerState, started, manager_of, limit_of, Taking, Drops, Does as Did, taking, death_step}
use Rattle.wl_broker.specs.Events.{broker_after}
use Rattle.wl_world_messages.specs.declared.effect.Effect.TheVariants as said
use Rattle.wl_world_messages.specs.declared.effect.Reason.TheVariants as reason
use Rattle.wl_world_messages.specs.declared.message.Message.{Message}
use Rattle.wl_world_messages.specs.declared.message.Message.TheVariants.{Up}
use Rattle.wl_world_model.specs.declared.event.Event.TheVariants as event
use Rattle.wl_world_model.specs.declared.event.Forged.TheVariants as forged
use Rattle.wl_world_model.specs.World.{partition_of}
use Rattle.wl_world_model.specs.WorldExamples.{Line, Does, Delivers, played, sent_behind, holds, join, ask, answer, entry, a}
use Rattle.wl_world_model.specs.HostileExamples.{held_by}
use Rattle.wl_world_model.specs.ReplyExamples.{told_after, new, silent}

-- A report of one part is equivalent to a report that comes at once

abbrev pub only_part : Stamped
only_part = record { tab = 1; partition = 1; inner = up.ReportPart (record { generation = 1; base = 0; part = 0; parts = 1; entries = [] }) }

abbrev pub first_request : Stamped
first_request = record { tab = 1; partition = 1; inner = up.Command (record { generation = 1; number = 0; operation = Request Exclusive false a }) }

abbrev pub granted_first : Addressed
granted_first = record { tab = 1; inner = down.Answer (record { generation = 1; upto = 1; number = 0; outcome = Granted }) }

-- The frames that the broker sends.
abbrev pub outs_of : Taking → List Addressed
outs_of (Drops reason) = []
outs_of (Did b outs) = outs

-- The bytes of the only part, as a stamped frame.
abbrev pub spelled : List ℕ
spelled =
    0 ∷ 0 ∷ 0 ∷ 22 ∷ 1 ∷ 32 ∷ 0 ∷ 1 ∷ 0 ∷ 1 ∷ 2 ∷ 2 ∷ 0 ∷ 0 ∷ 0 ∷ 1 ∷ 0 ∷ 0 ∷ 0 ∷ 0 ∷ 0 ∷ 0 ∷ 0 ∷ 1 ∷ 0 ∷ 0 ∷ []

abbrev pub OnePart : Type 0
OnePart =
    (spelling (frame.Stamped only_part) ≡ spelled)
    × (outs_of (taking (started 1 []) only_part) ≡ [])
    × (outs_of (taking (broker_after (started 1 []) (taking (started 1 []) only_part)) first_request) ≡ granted_first ∷ [])

-- Refused parts and abandoned parts

-- The reason for which the broker drops each of these messages, if it does.
abbrev pub dropped_in : Taking → Option Dropped
dropped_in (Drops reason) = Some reason
dropped_in (Did b outs) = None

abbrev pub dropped : List Stamped → BrokerState → List (Option Dropped)
dropped [] b = []
dropped (s ∷ ss) b = dropped_in (taking b s) ∷ dropped ss (broker_after b (taking b s))

abbrev pub taken : List Stamped → BrokerState → BrokerState
taken [] b = b
taken (s ∷ ss) b = taken ss (broker_after b (taking b s))

abbrev pub entry_of : Bool → ℕ → Entry
entry_of held k = record { number = k; held = held; mode = Shared; name = a }

abbrev pub part : ℕ → ℕ → ℕ → ℕ → List Entry → Stamped
part p base k n entries =
    record { tab = 1; partition = p; inner = up.ReportPart (record { generation = 1; base = base; part = k; parts = n; entries = entries }) }

abbrev pub at_once : List Entry → Stamped
at_once entries = record { tab = 1; partition = 1; inner = up.Report (record { generation = 1; base = 3; entries = entries }) }

-- The second of three parts.
abbrev pub middle : Stamped
middle = part 1 3 1 3 (entry_of false 1 ∷ [])

-- The broker refuses parts with another base, another count, a number out of order or not below the base, a
-- held lock, or another partition. It also refuses a report that comes at once, and the same part again. The
-- last missing part makes the tab join.
abbrev pub PartsRefused : Type 0
PartsRefused =
    (dropped
    (middle ∷ part 1 4 0 3 [] ∷ part 1 3 0 2 [] ∷ at_once [] ∷ part 1 3 2 3 (entry_of false 1 ∷ []) ∷ part 1 3 0 3 (entry_of false 1 ∷ [])
    ∷ part 1 3 2 3 (entry_of false 3 ∷ []) ∷ part 1 3 2 3 (entry_of true 2 ∷ []) ∷ part 2 3 2 3 (entry_of false 2 ∷ []) ∷ middle
    ∷ part 1 3 2 3 (entry_of false 2 ∷ []) ∷ part 1 3 0 3 (entry_of false 0 ∷ []) ∷ middle ∷ [])
    (started 1 [])
    ≡ None ∷ Some BadReport ∷ Some BadReport ∷ Some BadReport ∷ Some BadReport ∷ Some BadReport
    ∷ Some BadReport ∷ Some HeldByNewcomer ∷ Some Misplaced ∷ Some PartTwice
    ∷ None ∷ None ∷ Some AlreadyJoined ∷ [])
    × (map (λ r. r.number) (manager_of (taken (middle ∷ part 1 3 2 3 (entry_of false 2 ∷ []) ∷ part 1 3 0 3 (entry_of false 0 ∷ []) ∷ []) (started 1 [])) 1).held ≡ 0 ∷ 1 ∷ 2 ∷ [])

-- A death removes the stored parts, and no more parts are taken. A tab that joins by parts has a higher lock limit.
abbrev pub PartsGivenUp : Type 0
PartsGivenUp =
    ((taken (middle ∷ []) (started 1 [])).partial ≡ (1, record { partition = 1; base = 3; parts = 3; limit = 1024; came = (1, entry_of false 1 ∷ []) ∷ [] }) ∷ [])
    × ((death_step (taken (middle ∷ []) (started 1 [])) 1).0.partial ≡ [])
    × (dropped (middle ∷ []) (death_step (taken (middle ∷ []) (started 1 [])) 1).0 ≡ Some DeadTab ∷ [])
    × ((taken (only_part ∷ []) (started 1 [])).partial ≡ [])
    × (limit_of (taken (only_part ∷ []) (started 1 [])) 1 ≡ 1024)
    × (limit_of (taken (at_once [] ∷ []) (started 1 [])) 1 ≡ 64)

-- 65 locks across a restart, reported in two parts; the second part arrives first

abbrev pub b : List ℕ
b = 98 ∷ []

abbrev pub own : Triple
own = (104 ∷ 116 ∷ 116 ∷ 112 ∷ [], Domain a, 80)

abbrev pub top : Triple
top = (104 ∷ 116 ∷ 116 ∷ 112 ∷ [], Domain (116 ∷ []), 80)

abbrev pub asks : ℕ → List Line
asks zero = []
asks (suc n) = Does (event.Ask 1 Shared b) ∷ asks n

abbrev pub asked : List Line
asked =
    Does (event.Start []) ∷ Does (event.OpenTwo 1 (top, own)) ∷ Does (event.Hello 1) ∷ Delivers 1 ∷ Delivers 2
    ∷ (asks 65 ++ Does event.Stop ∷ Does (event.Start (1 ∷ [])) ∷ [])

abbrev pub recovered : List Line
recovered = Delivers 68 ∷ Delivers 70 ∷ Delivers 70 ∷ Delivers 69 ∷ []

-- `n` consecutive numbers, from `k` on.
abbrev pub from : ℕ → ℕ → List ℕ
from k zero = []
from k (suc n) = k ∷ from (k + 1) n

abbrev pub waiting : ℕ → Entry
waiting k = record { number = k; held = false; mode = Shared; name = b }

abbrev pub report_part : ℕ → ℕ → ℕ → ℕ → List Entry → Message
report_part g base k n entries =
    Up (record { tab = 1; partition = 1; inner = up.ReportPart (record { generation = g; base = base; part = k; parts = n; entries = entries }) })

abbrev pub InTwoParts : Type 0
InTwoParts =
    (told_after asked recovered
    ≡ (said.Entered 2 [], new 69 ∷ new 70 ∷ []) ∷ silent (said.Part 1 2) ∷ silent (said.Dropped (reason.AtBroker PartTwice)) ∷ (said.Joined 1, map new (from 71 65)) ∷ [])
    × (sent_behind 68 (asked ++ recovered)
    ≡ report_part 2 65 0 2 (map waiting (from 0 64)) ∷ report_part 2 65 1 2 (waiting 64 ∷ []) ∷ map (λ k. answer 2 1 k 65 Granted) (from 0 65))

-- A tab that was taken over forges parts across a restart

-- A part of a forged report for the next generation, which the tab has not entered.
abbrev pub forged_part : ℕ → List Entry → Line
forged_part k entries =
    Does (event.Forge 2 (forged.Upward (up.ReportPart (record { generation = 2; base = 2; part = k; parts = 2; entries = entries }))))

abbrev pub half_forged : List Line
half_forged =
    Does (event.Start []) ∷ (join 1 ++ join 2
    ++ ask 1 ∷ Delivers 5 ∷ Delivers 6 ∷ Does (event.Corrupt 2) ∷ Does event.Stop ∷ Does (event.Start (1 ∷ 2 ∷ []))
    ∷ forged_part 1 [] ∷ Delivers 9 ∷ [])

abbrev pub all_forged : List Line
all_forged = half_forged ++ forged_part 0 (entry true ∷ []) ∷ Delivers 10 ∷ Delivers 7 ∷ Delivers 11 ∷ []

-- With the second part the tab joins. The broker's held locks conflict, and the honest holder remains the
-- only tab that holds the lock.
abbrev pub ForgedParts : Type 0
ForgedParts =
    (held_by (played half_forged).broker 1 ≡ [])
    × (held_by (played all_forged).broker 1 ≡ row_of 2 0 a Exclusive ∷ row_of 1 0 a Exclusive ∷ [])
    × (holds 1 0 all_forged ≡ true) × (holds 2 0 all_forged ≡ false)

-- Partitions are pairs

abbrev pub opened_beside : List Line
opened_beside = Does (event.OpenTwo 1 (top, own)) ∷ Does (event.Open 2 (paired own)) ∷ Does (event.OpenTwo 3 (own, own)) ∷ []

abbrev pub ApartByTop : Type 0
ApartByTop =
    (partition_of (played opened_beside) 1 ≡ 1) × (partition_of (played opened_beside) 2 ≡ 2) × (partition_of (played opened_beside) 3 ≡ 2)
