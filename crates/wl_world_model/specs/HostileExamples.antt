-- Worked examples of tabs that were taken over, also across a restart.
use Rattle.std.specs.Prelude.{◌≡◌, ℕ, List, [], ◌∷◌, ◌++◌, true, false, Option, Some, None}
use Rattle.wl_draft.specs.declared.mode.Mode.TheVariants.{Exclusive}
use Rattle.wl_draft.specs.declared.row.Row.{Row}
use Rattle.wl_draft.specs.Locks.{row_of}
use Rattle.wl_grammar.specs.declared.frame.Operation.TheVariants.{Release}
use Rattle.wl_grammar.specs.declared.frame.Outcome.TheVariants.{Granted, Taken}
use Rattle.wl_grammar.specs.declared.frame.Upward.TheVariants as up
use Rattle.wl_broker.specs.Broker.{BrokerState, manager_of}
use Rattle.wl_world_messages.specs.declared.message.Message.TheVariants.{Across}
use Rattle.wl_world_model.specs.declared.event.Event.TheVariants as event
use Rattle.wl_world_model.specs.declared.event.Forged.TheVariants as forged
use Rattle.wl_world_model.specs.WorldExamples.{Line, Does, Delivers, played, sent_behind, holds, a, p, q, command, report, answer, hello, entry, request, ask, join, contended}

-- A forged release of number 0, which the tab has not issued.
abbrev pub forged_release : Line
forged_release = Does (event.Forge 2 (forged.Upward (up.Command (record { generation = 1; number = 0; operation = Release 0 }))))

-- A forged report for a generation that the tab has not entered. It claims the lock that the other tab holds.
abbrev pub forged_report : Line
forged_report = Does (event.Forge 2 (forged.Upward (up.Report (record { generation = 2; base = 1; entries = entry true ∷ [] }))))

abbrev pub besieged : List Line
besieged =
    Does (event.Start []) ∷ (join 1 ++ join 2
    ++ ask 1 ∷ Delivers 5 ∷ Delivers 6 ∷ forged_release ∷ Does (event.Corrupt 2) ∷ forged_release ∷ Delivers 7
    ∷ Does event.Stop ∷ Does (event.Start (1 ∷ 2 ∷ [])) ∷ forged_report ∷ Delivers 11 ∷ Delivers 9 ∷ Delivers 12 ∷ [])

abbrev pub held_by : Option BrokerState → ℕ → List Row
held_by None p = []
held_by (Some b) p = (manager_of b p).held

-- The forgery of an honest tab is not sent. The broker's held locks conflict, and the honest holder remains
-- the only tab that holds the lock.
abbrev pub HonestHolderStays : Type 0
HonestHolderStays =
    (sent_behind 4 besieged
    ≡ command 1 1 0 request ∷ answer 1 1 0 1 Granted ∷ command 1 2 0 (Release 0) ∷ answer 1 2 0 1 Taken
    ∷ hello 2 1 ∷ hello 2 2 ∷ report 2 2 1 (entry true ∷ []) ∷ report 2 1 1 (entry true ∷ []) ∷ [])
    × (held_by (played besieged).broker 1 ≡ row_of 2 0 a Exclusive ∷ row_of 1 0 a Exclusive ∷ [])
    × (holds 1 0 besieged ≡ true) × (holds 2 0 besieged ≡ false)

-- The holder is taken over and forges the release of its lock under its next number. The broker grants the lock to the
-- other tab, so both hold it by their own account. Exclusion therefore holds for honest tabs alone.
abbrev pub forged_own_release : Line
forged_own_release = Does (event.Forge 1 (forged.Upward (up.Command (record { generation = 1; number = 1; operation = Release 0 }))))

abbrev pub undermined : List Line
undermined = contended ++ Delivers 6 ∷ Does (event.Corrupt 1) ∷ forged_own_release ∷ Delivers 9 ∷ Delivers 11 ∷ []

abbrev pub CorruptHolderIsNotExcluded : Type 0
CorruptHolderIsNotExcluded =
    (sent_behind 8 undermined ≡ command 1 1 1 (Release 0) ∷ answer 1 1 1 2 Taken ∷ answer 1 2 0 1 Granted ∷ [])
    × (holds 1 0 undermined ≡ true) × (holds 2 0 undermined ≡ true)

-- A forged post is attributed to its own tab under the forged number, no matter which channels the tab opened or posted on.
abbrev pub forged_post : Line
forged_post = Does (event.Forge 1 (forged.Post (record { number = 7; channel = a; bytes = 120 ∷ [] })))

abbrev pub forged_across : List Line
forged_across =
    Does (event.Open 1 p) ∷ Does (event.Open 2 p) ∷ Does (event.Open 3 q) ∷ Does (event.Channel 2 a) ∷ Does (event.Corrupt 1) ∷ forged_post ∷ []

abbrev pub ForgedPostIsItsTabs : Type 0
ForgedPostIsItsTabs = sent_behind 0 forged_across ≡ Across 2 (record { source = 1; number = 7; channel = a; bytes = 120 ∷ [] }) ∷ []
