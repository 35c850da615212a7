-- The library and the world after the events of its steps: the same kernel, broker and locks.
use Rattle.std.specs.Prelude.{◌≡◌, ◌≢◌, ◌⊎◌, ℕ, ◌<◌, ◌≤◌, List, Bool, true, false, ◌||◌, length, Option, ⊤}
use Rattle.wl_grammar.specs.declared.frame.Command.{Command}
use Rattle.wl_grammar.specs.declared.frame.Answer.{Answer}
use Rattle.wl_grammar.specs.declared.frame.Frame.{Frame}
use Rattle.wl_grammar.specs.declared.frame.Frame.TheVariants as frame
use Rattle.wl_grammar.specs.declared.frame.Upward.TheVariants as up
use Rattle.wl_grammar.specs.declared.frame.Downward.{Downward}
use Rattle.wl_grammar.specs.declared.frame.Downward.TheVariants as down
use Rattle.wl_agent.specs.declared.status.Status.{Status}
use Rattle.wl_agent.specs.Tab.{TabState, born, status_of, is_asked, is_querying}
use Rattle.wl_draft.specs.Membership.{In}
use Rattle.wl_limits.specs.declared.tabs.TheConstants.{COMMAND_LIMIT}
use Rattle.wl_kernel.specs.Kernel.{is_opened}
use Rattle.wl_supervised_broker.specs.Changes.{is_dead}
use Rattle.wl_world_messages.specs.declared.message.Sender.{Sender}
use Rattle.wl_world_messages.specs.declared.message.Sender.TheVariants.{Kernel, Broker}
use Rattle.wl_world_messages.specs.declared.message.Message.{Message}
use Rattle.wl_world_messages.specs.declared.message.Message.TheVariants.{Down}
use Rattle.wl_client.specs.declared.client.Unsent.TheVariants as unsent
use Rattle.wl_client.specs.Client.{ClientState}
use Rattle.wl_hub.specs.Hub.{HubState}
use Rattle.wl_world_model.specs.World.{WorldState, empty_world, tab_of, run}
use Rattle.wl_world_model.specs.Sends.{stamped}
use Rattle.wl_world_model.specs.Holdings.{IsHonest}
use Rattle.wl_library_model.specs.Library.{Library, Line, Step, new_library, run_steps}
use Rattle.wl_library_model.specs.Events.{events}

-- The tab waits for an answer to the number.
abbrev pub is_awaited : Option Status → Bool
is_awaited s = is_asked s || is_querying s

-- The tab's report tells what became of the command, and the tab waits for no answer to it.
pub record IsSettled (a : TabState) (k : ℕ) : Type 0 where
  pub reported : k < a.report.base
  pub over : is_awaited (status_of a k) ≡ false

-- A command that was issued before the tab entered its generation, and is sent again although it is settled. The broker
-- has counted it with the report, and only answers it.
pub record IsRepeat (a : TabState) (c : Command) : Type 0 where
  pub past : c.generation ≤ a.entered
  pub settled : c.generation ≡ a.entered → IsSettled a c.number

-- The answer to such a command changes no lock.
pub record IsRepeated (a : TabState) (x : Answer) : Type 0 where
  pub past : x.generation ≤ a.entered
  pub issued : x.generation ≡ a.entered → x.number < length a.issued
  pub over : x.generation ≡ a.entered → is_awaited (status_of a x.number) ≡ false

-- Links

-- The frame of an honest tab is in the world's bag, or is a repeat.
abbrev pub GoesUp : WorldState → ℕ → Frame → Type 0
GoesUp w t (frame.Command c) = In (stamped w.kernel t (up.Command c)) w.bag ⊎ IsRepeat (tab_of w t) c
GoesUp w t (frame.Report r) = In (stamped w.kernel t (up.Report r)) w.bag
GoesUp w t (frame.ReportPart r) = In (stamped w.kernel t (up.ReportPart r)) w.bag
GoesUp w t (frame.Post p) = ⊤
GoesUp w t f = ⊥

abbrev pub to_tab : Sender → ℕ → Downward → Message
to_tab sender t x = Down sender (record { tab = t; inner = x })

-- The frame for a tab is in the world's bag, is its welcome, answers a repeat, or is a post of another tab.
abbrev pub ComesDown : WorldState → ℕ → Frame → Type 0
ComesDown w t (frame.Hello h) = In (to_tab Kernel t (down.Hello h)) w.bag ⊎ In (to_tab Broker t (down.Hello h)) w.bag
ComesDown w t (frame.Answer x) = In (to_tab Broker t (down.Answer x)) w.bag ⊎ ((is_opened w.kernel t ≡ true) × IsRepeated (tab_of w t) x)
ComesDown w t (frame.Snapshot x) = In (to_tab Broker t (down.Snapshot x)) w.bag
ComesDown w t (frame.Heard h) = h.source ≢ t
ComesDown w t (frame.Welcome x) = (is_opened w.kernel t ≡ true) × (x.tab ≡ t) × ((tab_of w t).in_parts ≡ false)
ComesDown w t (frame.PairWelcome x) = (is_opened w.kernel t ≡ true) × (x.tab ≡ t) × ((tab_of w t).in_parts ≡ true)
ComesDown w t f = ⊥

-- Only a dead tab may have another frame on its way. It is dropped.
abbrev pub IsOnItsWayDown : WorldState → ℕ → Frame → Type 0
IsOnItsWayDown w t f = (is_dead w.kernel t ≡ true) ⊎ ComesDown w t f

abbrev pub IsOnItsWayUp : WorldState → ℕ → Frame → Type 0
IsOnItsWayUp w t f = (is_opened w.kernel t ≡ true) × GoesUp w t f

-- Locks

-- The locks are the same. The client may have heard more of what the broker has counted, from answers to repeats.
abbrev pub AreLocksOf : TabState → TabState → Type 0
AreLocksOf c a = c ≡ record a { acknowledged = c.acknowledged; answered = c.answered }

-- Before its welcome, the client of a tab has done nothing.
pub record IsClientOf (c : ClientState) (t : ℕ) (a : TabState) : Type 0 where
  pub welcomed : c.is_welcomed ≡ true → AreLocksOf c.locks a
  pub unwelcomed : c.is_welcomed ≡ false → a ≡ born a.in_parts t COMMAND_LIMIT
  pub unentered : c.is_welcomed ≡ false → c.locks.entered ≡ 0

-- The whole

-- A tab's client, and the frames on their way to it and, if it is honest, from it.
pub record IsLineOf (w : WorldState) (t : ℕ) (x : Line) : Type 0 where
  pub client : IsClientOf x.client t (tab_of w t)
  pub down : (f : Frame) → In f x.down → IsOnItsWayDown w t f
  pub came : (f : Frame) → In f x.client.arrived → IsOnItsWayDown w t f
  pub up : IsHonest w t → (f : Frame) → In f x.up → IsOnItsWayUp w t f
  pub report : IsHonest w t → (f : Frame) → In f x.client.report → IsOnItsWayUp w t f
  pub posts : IsHonest w t → (f : Frame) → In (unsent.Post f) x.client.unsent → IsOnItsWayUp w t f

pub record IsHubOf (w : WorldState) (h : HubState) : Type 0 where
  pub kernel : h.supervised.kernel ≡ w.kernel
  pub broker : h.supervised.broker ≡ w.broker
  pub outputs : (t : ℕ) (f : Frame) → In (t, f) h.outputs → IsOnItsWayDown w t f
  pub arrived : IsHonest w h.sender → (f : Frame) → In f h.arrived → IsOnItsWayUp w h.sender f
  pub early : (t : ℕ) → In t h.early → is_opened w.kernel t ≡ true

pub record IsSame (l : Library) (w : WorldState) : Type 0 where
  pub hub : IsHubOf w l.hub
  pub lines : (t : ℕ) → IsLineOf w t (l.lines t)
  pub taken : l.taken ≡ w.corrupt

-- The law: after every list of steps, the library is the world after the steps' events.
abbrev pub IsRunOfItsEvents : Type 0
IsRunOfItsEvents = (steps : List Step) → IsSame (run_steps steps new_library) (run (events steps) empty_world)
