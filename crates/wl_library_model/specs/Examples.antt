-- A worked conversation: two clients, a restart, a death, and a post.
use Rattle.std.specs.Prelude.{◌≡◌, ℕ, List, [], ◌∷◌, ◌++◌, Bool, true, false, ◌&&◌, Ok}
use Rattle.wl_draft.specs.declared.mode.Mode.TheVariants.{Exclusive}
use Rattle.wl_grammar.specs.declared.frame.Outcome.{Outcome}
use Rattle.wl_grammar.specs.declared.frame.Outcome.TheVariants.{Granted, Waiting}
use Rattle.wl_grammar.specs.declared.frame.Downward.TheVariants as down
use Rattle.wl_broadcast.specs.Channels.{no_channels}
use Rattle.wl_broadcast.specs.Heard.{Hears, takes_in}
use Rattle.wl_broadcast.specs.Heard.{Opens as OpensOne, Posts as PostsOn}
use Rattle.wl_agent.specs.Tab.{status_of, is_held}
use Rattle.wl_world_messages.specs.declared.message.Sender.TheVariants.{Kernel, Broker}
use Rattle.wl_world_model.specs.declared.event.Event.{Event}
use Rattle.wl_world_model.specs.declared.event.Event.TheVariants as event
use Rattle.wl_world_model.specs.WorldExamples.{a, p, command, report, request}
use Rattle.wl_library_model.specs.Library.{Step, Opens, Closes, Restarts, HubAdvances, Asks, Releases, OpensChannel, Posts, new_library, run_steps, client_of, lives, to_client, to_hub}
use Rattle.wl_library_model.specs.Events.{events, events_of, delivers}
use Rattle.wl_library_model.specs.Channels.{channel_calls}

-- Whether the tab lives and its client holds the lock of number `k`.
abbrev pub holds : ℕ → ℕ → List Step → Bool
holds t k steps = let l = run_steps steps new_library in lives l t && is_held (status_of (client_of l t).locks k)

-- A tab opens. Its client is welcomed and greeted, and its report makes it join.
abbrev pub joins : ℕ → List Step
joins t = Opens t (Ok p) false ∷ (to_client t 2 ++ to_hub t 2 1)

abbrev pub asks : ℕ → List Step
asks t = Asks t Exclusive false a ∷ (to_hub t 1 1 ++ to_client t 1)

-- The first client holds the lock, and the second one waits.
abbrev pub contended : List Step
contended = Restarts ∷ (joins 1 ++ joins 2 ++ asks 1 ++ asks 2)

-- The next broker greets both clients. Each reports, and the second one sends its request again.
abbrev pub restarted : List Step
restarted = contended ++ Restarts ∷ (to_client 1 1 ++ to_client 2 1 ++ to_hub 1 2 1 ++ to_hub 2 3 2)

-- The first tab dies, the broker is told, and the second client hears that its lock is granted.
abbrev pub bereaved : List Step
bereaved = restarted ++ Closes 1 ∷ HubAdvances ∷ (to_client 2 1 ++ to_client 2 1)

abbrev pub heard_hello : ℕ → ℕ → List Event
heard_hello g t =
    delivers Kernel t (down.Hello (record { generation = g })) ∷ delivers Broker t (down.Hello (record { generation = g })) ∷ event.Resend t ∷ []

abbrev pub heard_answer : ℕ → ℕ → ℕ → Outcome → Event
heard_answer g t upto o = delivers Broker t (down.Answer (record { generation = g; upto = upto; number = 0; outcome = o }))

abbrev pub joining_events : ℕ → List Event
joining_events t = event.Open t p ∷ event.Hello t ∷ (heard_hello 1 t ++ event.Deliver (report 1 t 0 []) ∷ [])

abbrev pub asking_events : ℕ → Outcome → List Event
asking_events t o = event.Ask t Exclusive a ∷ event.Deliver (command 1 t 0 request) ∷ heard_answer 1 t 1 o ∷ []

abbrev pub ContendedIsThese : Type 0
ContendedIsThese =
    events contended
    ≡ event.Stop ∷ event.Start [] ∷ (joining_events 1 ++ joining_events 2 ++ asking_events 1 Granted ++ asking_events 2 Waiting)

abbrev pub Contended : Type 0
Contended = (holds 1 0 contended ≡ true) × (holds 2 0 contended ≡ false)

-- A release ends the lock at once.
abbrev pub Released : Type 0
Released = holds 1 0 (contended ++ Releases 1 0 ∷ []) ≡ false

-- A death is an event, and a restart lists the living tabs.
abbrev pub DeathsAndRestartsAreEvents : Type 0
DeathsAndRestartsAreEvents =
    let l = run_steps contended new_library in
    (events_of l (Closes 1) ≡ event.Kill 1 ∷ []) × (events_of l Restarts ≡ event.Stop ∷ event.Start (1 ∷ 2 ∷ []) ∷ [])

-- The next broker has heard of the first tab alone, so the partition recovers.
abbrev pub recovering : List Step
recovering = Restarts ∷ (joins 1 ++ joins 2 ++ Restarts ∷ (to_client 1 1 ++ to_hub 1 2 1))

-- A request in a partition that recovers is not granted.
abbrev pub Recovering : Type 0
Recovering = holds 1 0 (recovering ++ asks 1) ≡ false

-- A held lock stays held over the restart.
abbrev pub Restarted : Type 0
Restarted = (holds 1 0 restarted ≡ true) × (holds 2 0 restarted ≡ false)

-- A death hands the lock over.
abbrev pub Bereaved : Type 0
Bereaved = (holds 1 0 bereaved ≡ false) × (holds 2 0 bereaved ≡ true)

-- The first client posts a byte on a channel of both, and the second one hears it.
abbrev pub talked : List Step
talked =
    Restarts
    ∷ (joins 1 ++ joins 2 ++ OpensChannel 1 a ∷ OpensChannel 2 a ∷ Posts 1 0 (120 ∷ []) ∷ (to_hub 1 1 1 ++ to_client 2 1))

-- The post reaches the second client alone, whose object takes it.
abbrev pub Talked : Type 0
Talked =
    (channel_calls 2 talked ≡ OpensOne a ∷ Hears (record { source = 1; number = 0; channel = a; bytes = 120 ∷ [] }) ∷ [])
    × (channel_calls 1 talked ≡ OpensOne a ∷ PostsOn 0 (120 ∷ []) ∷ [])
    × (takes_in 0 (channel_calls 2 talked) (no_channels 2) ≡ record { source = 1; number = 0; bytes = 120 ∷ [] } ∷ [])
