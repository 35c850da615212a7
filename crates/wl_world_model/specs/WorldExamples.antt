-- Worked examples: short scripts and the results that the definition computes for them.
use Rattle.std.specs.Prelude.{◌≡◌, ℕ, ◌*◌, ◌-◌, List, [], ◌∷◌, ◌++◌, Bool, true, false, ◌&&◌, get_or, drop}
use Rattle.wl_origin.specs.Order.{Pair, paired}
use Rattle.url.specs.declared.host.Host.TheVariants.{Domain}
use Rattle.wl_draft.specs.declared.mode.Mode.TheVariants.{Exclusive}
use Rattle.wl_draft.specs.declared.row.Entry.{Entry}
use Rattle.wl_grammar.specs.declared.frame.Operation.{Operation}
use Rattle.wl_grammar.specs.declared.frame.Operation.TheVariants.{Request, Release, Abort, Query}
use Rattle.wl_grammar.specs.declared.frame.Outcome.{Outcome}
use Rattle.wl_grammar.specs.declared.frame.Outcome.TheVariants.{Waiting, Granted, Taken}
use Rattle.wl_grammar.specs.declared.frame.Upward.TheVariants as up
use Rattle.wl_grammar.specs.declared.frame.Downward.TheVariants as down
use Rattle.wl_broker.specs.Broker.{hello_to}
use Rattle.wl_agent.specs.Tab.{status_of, is_held}
use Rattle.wl_world_messages.specs.declared.message.Sender.TheVariants.{Kernel, Broker}
use Rattle.wl_world_messages.specs.declared.message.Message.{Message}
use Rattle.wl_world_messages.specs.declared.message.Message.TheVariants.{Up, Down, Across}
use Rattle.wl_world_model.specs.declared.event.Event.{Event}
use Rattle.wl_world_model.specs.declared.event.Event.TheVariants as event
use Rattle.wl_world_model.specs.World.{WorldState, empty_world, tab_of, lives, after_event, run}
use Rattle.wl_world_model.specs.Apart.{part, projected}
use Rattle.wl_world_model.specs.Holdings.{Exclusion, Differ, IsHonest, partition_at, name_at, mode_at}
use Rattle.wl_world_model.specs.Orders.{Reports, Commands, picked}

-- Scripts

-- An event, or the delivery of a message by its place among all messages sent, counted from 1.
pub data Line : Type 0 where
  Does : (happening : Event) → Line
  Delivers : (place : ℕ) → Line

abbrev pub message_at : WorldState → ℕ → Message
message_at w n = get_or w.bag (n - 1) (Down Kernel (hello_to 0 0))

abbrev pub after_line : WorldState → Line → WorldState
after_line w (Does e) = after_event w e
after_line w (Delivers n) = after_event w (event.Deliver (message_at w n))

abbrev pub after_lines : List Line → WorldState → WorldState
after_lines [] w = w
after_lines (l ∷ ls) w = after_lines ls (after_line w l)

abbrev pub played : List Line → WorldState
played lines = after_lines lines empty_world

-- The messages sent, without the first `n`.
abbrev pub sent_behind : ℕ → List Line → List Message
sent_behind n lines = drop n (played lines).bag

-- Whether the tab lives and holds the lock of number `k`, by its own account.
abbrev pub holds_in : WorldState → ℕ → ℕ → Bool
holds_in w t k = lives w t && is_held (status_of (tab_of w t) k)

abbrev pub holds : ℕ → ℕ → List Line → Bool
holds t k lines = holds_in (played lines) t k

-- Abbreviations

abbrev pub a : List ℕ
a = 97 ∷ []

abbrev pub p : Pair
p = paired (104 ∷ 116 ∷ 116 ∷ 112 ∷ [], Domain a, 80)

abbrev pub command : ℕ → ℕ → ℕ → Operation → Message
command g t n o = Up (record { tab = t; partition = 1; inner = up.Command (record { generation = g; number = n; operation = o }) })

abbrev pub report : ℕ → ℕ → ℕ → List Entry → Message
report g t base entries = Up (record { tab = t; partition = 1; inner = up.Report (record { generation = g; base = base; entries = entries }) })

abbrev pub answer : ℕ → ℕ → ℕ → ℕ → Outcome → Message
answer g t n upto o = Down Broker (record { tab = t; inner = down.Answer (record { generation = g; upto = upto; number = n; outcome = o }) })

abbrev pub hello : ℕ → ℕ → Message
hello g t = Down Broker (hello_to g t)

abbrev pub entry : Bool → Entry
entry held = record { number = 0; held = held; mode = Exclusive; name = a }

abbrev pub request : Operation
request = Request Exclusive false a

abbrev pub ask : ℕ → Line
ask t = Does (event.Ask t Exclusive a)

-- A tab is opened, receives its hello, and its report arrives at the broker.
abbrev pub join : ℕ → List Line
join t = Does (event.Open t p) ∷ Does (event.Hello t) ∷ Delivers (2 * t - 1) ∷ Delivers (2 * t) ∷ []

-- Two tabs join. The first requests a lock and is granted it, but the answer has not yet arrived. The second waits.
abbrev pub contended : List Line
contended = Does (event.Start []) ∷ (join 1 ++ join 2 ++ ask 1 ∷ Delivers 5 ∷ ask 2 ∷ Delivers 7 ∷ [])

abbrev pub contended_sends : List Message
contended_sends = command 1 1 0 request ∷ answer 1 1 0 1 Granted ∷ command 1 2 0 request ∷ answer 1 2 0 1 Waiting ∷ []

-- The examples

abbrev pub FirstGrant : Type 0
FirstGrant = (sent_behind 4 contended ≡ contended_sends) × (holds 1 0 contended ≡ false) × (holds 1 0 (contended ++ Delivers 6 ∷ []) ≡ true)

-- A release grants the lock to the waiting tab.
abbrev pub released : List Line
released = contended ++ Delivers 6 ∷ Does (event.Release 1 0) ∷ Delivers 9 ∷ Delivers 11 ∷ []

abbrev pub ReleaseHandsOver : Type 0
ReleaseHandsOver =
    (sent_behind 8 released ≡ command 1 1 1 (Release 0) ∷ answer 1 1 1 2 Taken ∷ answer 1 2 0 1 Granted ∷ [])
    × (holds 1 0 released ≡ false) × (holds 2 0 released ≡ true)

-- A grant that arrives after the abort is dropped, and the abort grants the lock to the waiting tab.
abbrev pub aborted : List Line
aborted = contended ++ Does (event.Abort 1 0) ∷ Delivers 6 ∷ Delivers 9 ∷ []

abbrev pub LateGrantAfterAbort : Type 0
LateGrantAfterAbort =
    (sent_behind 8 aborted ≡ command 1 1 1 (Abort 0) ∷ answer 1 1 1 2 Taken ∷ answer 1 2 0 1 Granted ∷ [])
    × (holds 1 0 aborted ≡ false) × (holds 2 0 aborted ≡ false)

-- The broker stops and starts, and both tabs enter the next generation. The second tab's report arrives first.
abbrev pub restart : List Line
restart = Does event.Stop ∷ Does (event.Start (1 ∷ 2 ∷ [])) ∷ Delivers 9 ∷ Delivers 10 ∷ Delivers 12 ∷ Delivers 11 ∷ []

-- A request that was only asked is granted again, and the old grant is dropped.
abbrev pub restarted_asked : List Line
restarted_asked = contended ++ restart ++ Delivers 6 ∷ Delivers 13 ∷ []

abbrev pub RestartWhileAsked : Type 0
RestartWhileAsked =
    (sent_behind 8 restarted_asked
    ≡ hello 2 1 ∷ hello 2 2 ∷ report 2 1 1 (entry false ∷ []) ∷ report 2 2 1 (entry false ∷ []) ∷ answer 2 2 0 1 Granted ∷ [])
    × (holds 1 0 restarted_asked ≡ false) × (holds 2 0 restarted_asked ≡ true)

-- A held lock stays held.
abbrev pub restarted_held : List Line
restarted_held = contended ++ Delivers 6 ∷ restart

-- The second tab holds the lock. Only the report of the first tab, which requests it, arrives, so nothing is granted.
abbrev pub restarted_behind : List Line
restarted_behind =
    released ++ ask 1 ∷ Does event.Stop ∷ Does (event.Start (1 ∷ 2 ∷ [])) ∷ Delivers 13 ∷ Delivers 14 ∷ Delivers 15 ∷ []

abbrev pub RestartWhileHeld : Type 0
RestartWhileHeld =
    (sent_behind 8 restarted_held ≡ hello 2 1 ∷ hello 2 2 ∷ report 2 1 1 (entry true ∷ []) ∷ report 2 2 1 (entry false ∷ []) ∷ [])
    × (holds 1 0 restarted_held ≡ true) × (holds 2 0 restarted_held ≡ false)
    × (sent_behind 12 restarted_behind
    ≡ hello 2 1 ∷ hello 2 2 ∷ report 2 1 3 (record { number = 2; held = false; mode = Exclusive; name = a } ∷ []) ∷ report 2 2 1 (entry true ∷ []) ∷ [])

-- Two different locks of one name, the first exclusive, of honest tabs of one partition.
pub record AreRivals (w : WorldState) (t k u j : ℕ) : Type 0 where
  pub first : IsHonest w t
  pub second : IsHonest w u
  pub differ : Differ t k u j
  pub partition : partition_at w t ≡ partition_at w u
  pub name : name_at w t k ≡ name_at w u j
  pub mode : mode_at w t k ≡ Exclusive

-- Exclusion is false in a world in which rivals are both held.
abbrev pub RivalsAreExcluded : Type 0
RivalsAreExcluded = (w : WorldState) (t k u j : ℕ) → Exclusion w → AreRivals w t k u j → (holds_in w t k && holds_in w u j) ≡ false

-- After a script, rivals are not both held.
abbrev pub Excluded : ℕ → ℕ → ℕ → ℕ → List Line → Type 0
Excluded t k u j lines = AreRivals (played lines) t k u j × ((holds t k lines && holds u j lines) ≡ false)

-- A grant of the old generation arrives, and then that of the new one for the other tab.
abbrev pub OldGrantExcluded : Type 0
OldGrantExcluded = Excluded 1 0 2 0 restarted_asked

-- One of two tabs has reported, and a grant to it would arrive. The other tab holds the lock.
abbrev pub EarlyGrantExcluded : Type 0
EarlyGrantExcluded = Excluded 1 2 2 0 (restarted_behind ++ Delivers 17 ∷ [])

-- A death grants the lock to the waiting tab once the broker is told. Commands that the dead tab sent before are dropped.
abbrev pub killed : List Line
killed = contended ++ Delivers 6 ∷ Does (event.Query 1) ∷ Does (event.Kill 1) ∷ Does (event.Tell 1) ∷ Delivers 9 ∷ Delivers 10 ∷ []

abbrev pub DeathHandsOver : Type 0
DeathHandsOver =
    (sent_behind 8 killed ≡ command 1 1 1 Query ∷ answer 1 2 0 1 Granted ∷ []) × (holds 1 0 killed ≡ false) × (holds 2 0 killed ≡ true)

-- A post goes to the other tab of its partition, and not to other partitions.
abbrev pub q : Pair
q = paired (104 ∷ 116 ∷ 116 ∷ 112 ∷ [], Domain (98 ∷ []), 80)

abbrev pub posted : List Line
posted =
    Does (event.Open 1 p) ∷ Does (event.Open 2 p) ∷ Does (event.Open 3 q)
    ∷ Does (event.Channel 1 a) ∷ Does (event.Channel 2 a) ∷ Does (event.Channel 3 a) ∷ Does (event.Post 1 0 (120 ∷ [])) ∷ []

abbrev pub PostsInThePartition : Type 0
PostsInThePartition = sent_behind 0 posted ≡ Across 2 (record { source = 1; number = 0; channel = a; bytes = 120 ∷ [] }) ∷ []

-- The items that a generation takes, picked from the events: the tab's report and its command once. A
-- repeated command is not taken.
abbrev pub taken_events : List Event
taken_events =
    event.Start [] ∷ event.Open 1 p ∷ event.Hello 1 ∷ event.Deliver (Down Kernel (hello_to 1 1)) ∷ event.Deliver (report 1 1 0 [])
    ∷ event.Ask 1 Exclusive a ∷ event.Deliver (command 1 1 0 request) ∷ event.Deliver (command 1 1 0 request) ∷ []

abbrev pub TakenOnce : Type 0
TakenOnce =
    (picked 1 taken_events).items
    ≡ record { tab = 1; partition = 1; act = Reports (record { base = 0; entries = []; limit = 64 }) }
    ∷ record { tab = 1; partition = 1; act = Commands 0 request } ∷ []

-- One partition alone

-- A tab of another partition requests a lock under a name that is held. Its partition recovers while the
-- others do not, and its next command is answered.
abbrev pub request_3 : ℕ → ℕ → Message
request_3 g n = Up (record { tab = 3; partition = 3; inner = up.Command (record { generation = g; number = n; operation = request }) })

abbrev pub report_3 : ℕ → ℕ → List Entry → Message
report_3 g base entries = Up (record { tab = 3; partition = 3; inner = up.Report (record { generation = g; base = base; entries = entries }) })

abbrev pub enters : ℕ → List Event
enters t = event.Open t p ∷ event.Hello t ∷ event.Deliver (Down Kernel (hello_to 1 t)) ∷ event.Deliver (report 1 t 0 []) ∷ []

abbrev pub enters_apart : List Event
enters_apart = event.Open 3 q ∷ event.Hello 3 ∷ event.Deliver (Down Kernel (hello_to 1 3)) ∷ event.Deliver (report_3 1 0 []) ∷ []

abbrev pub recovers_apart : List ℕ → List Event
recovers_apart listed =
    event.Ask 3 Exclusive a
    ∷ event.Stop ∷ event.Start listed ∷ event.Deliver (hello 2 3) ∷ event.Deliver (report_3 2 1 (entry false ∷ []))
    ∷ event.Ask 3 Exclusive a ∷ event.Deliver (request_3 2 1) ∷ []

abbrev pub beside_others : List Event
beside_others = event.Start [] ∷ (enters 1 ++ enters 2 ++ enters_apart ++ recovers_apart (1 ∷ 2 ∷ 3 ∷ []))

abbrev pub without_others : List Event
without_others = event.Start [] ∷ (enters_apart ++ recovers_apart (3 ∷ []))

abbrev pub sent_apart : List Message
sent_apart =
    Down Kernel (hello_to 1 3) ∷ report_3 1 0 [] ∷ request_3 1 0
    ∷ hello 2 3 ∷ report_3 2 1 (entry false ∷ []) ∷ answer 2 3 0 1 Granted
    ∷ request_3 2 1 ∷ answer 2 3 1 2 Waiting ∷ []

-- The projection to the tab's partition is the script without the other tabs. It sends the same messages to
-- and from the tab as the whole script.
abbrev pub OtherOriginUnblocked : Type 0
OtherOriginUnblocked =
    (projected q empty_world beside_others ≡ without_others)
    × ((run without_others empty_world).bag ≡ sent_apart)
    × ((part q (run beside_others empty_world)).bag ≡ sent_apart)
