-- Invariant of every world that a run reaches.
use Rattle.std.proofs.Common.{◌≡◌, ◌≢◌, ◌⊎◌, ℕ, suc, ◌<◌, ◌≤◌, Bool, true, false, List, [], length, Option, Some, None, is_some}
use Rattle.wl_draft.specs.declared.row.Row.{Row}
use Rattle.wl_draft.specs.Locks.{row_of, held_of, waiting_of}
use Rattle.wl_draft.specs.Tables.{Rises}
use Rattle.wl_grammar.specs.declared.frame.Operation.{Operation}
use Rattle.wl_grammar.specs.declared.frame.Operation.TheVariants.{Release, Abort}
use Rattle.wl_grammar.specs.declared.frame.Outcome.TheVariants.{Granted}
use Rattle.wl_grammar.specs.declared.frame.Command.{Command}
use Rattle.wl_grammar.specs.declared.frame.Answer.{Answer}
use Rattle.wl_grammar.specs.declared.frame.Hello.{Hello}
use Rattle.wl_grammar.specs.declared.frame.Upward.{Upward}
use Rattle.wl_grammar.specs.declared.frame.Upward.TheVariants as up
use Rattle.wl_grammar.specs.declared.frame.Downward.{Downward}
use Rattle.wl_grammar.specs.declared.frame.Downward.TheVariants as down
use Rattle.wl_broker_reports.specs.ReportParts.{Partial, Told, content_of}
use Rattle.wl_grammar.specs.Generation.{generation_of}
use Rattle.wl_broker.specs.declared.seat.TabSeat.{TabSeat}
use Rattle.wl_broker.specs.Broker.{BrokerState, started, seat_of, manager_of, partial_of, is_joined, is_dead, has_arrived, is_lock}
use Rattle.wl_agent.specs.declared.status.Status.{Status}
use Rattle.wl_agent.specs.Tab.{TabState, born, report_bodies, status_of, operation_of, name_of, mode_of, is_held, reserves_number}
use Rattle.wl_kernel.specs.Kernel.{OpenedTab, is_opened, lives as lives_in}
use Rattle.wl_kernel.specs.Kernel.{tab_of as opened_tab}
use Rattle.wl_world_messages.specs.declared.message.Sender.{Sender}
use Rattle.wl_world_messages.specs.declared.message.Message.{Message}
use Rattle.wl_world_messages.specs.declared.message.Message.TheVariants.{Up, Down}
use Rattle.wl_draft.specs.Membership.{In}
use Rattle.wl_limits.specs.declared.tabs.TheConstants.{COMMAND_LIMIT}
use Rattle.wl_world_model.specs.World.{WorldState, tab_of, lives, partition_of}
use Rattle.wl_world_model.specs.Holdings.{IsHonest}
use Rattle.wl_world_model.proofs.exclusion.HeldAfterSettling.{Compatible, Stands}
use Rattle.wl_world_model.proofs.exclusion.ToldParts.{HasParts}

-- Definitions

abbrev pub generation : WorldState → ℕ
generation w = w.kernel.generation

-- A bound above every generation that was ever started.
abbrev pub limit_in : ℕ → Option BrokerState → ℕ
limit_in g None = g
limit_in g (Some b) = suc g

abbrev pub limit : WorldState → ℕ
limit w = limit_in w.kernel.generation w.broker

-- The broker that is up, or an empty one of the next generation.
abbrev pub broker_in : ℕ → Option BrokerState → BrokerState
broker_in g None = started g []
broker_in g (Some b) = b

abbrev pub broker_of : WorldState → BrokerState
broker_of w = broker_in w.kernel.generation w.broker

abbrev pub has_joined : BrokerState → ℕ → Bool
has_joined b t = is_joined (seat_of b t)

abbrev pub is_named_dead : BrokerState → ℕ → Bool
is_named_dead b t = is_dead (seat_of b t)

abbrev pub came : BrokerState → ℕ → Bool
came b t = has_arrived (seat_of b t)

-- The generation in which a tab was opened, or 0 if it was never opened.
abbrev pub opening_in : Option OpenedTab → ℕ
opening_in None = 0
opening_in (Some o) = o.generation

abbrev pub opening : WorldState → ℕ → ℕ
opening w t = opening_in (opened_tab w.kernel t)

abbrev pub was_opened : WorldState → ℕ → Bool
was_opened w t = is_opened w.kernel t

abbrev pub up_message : ℕ → ℕ → Upward → Message
up_message t p x = Up (record { tab = t; partition = p; inner = x })

abbrev pub down_message : Sender → ℕ → Downward → Message
down_message s t x = Down s (record { tab = t; inner = x })

-- The bag has an answer of generation `g` that grants number `k` of tab `t`.
abbrev pub HasGrant : List Message → ℕ → ℕ → ℕ → Type 0
HasGrant bag t g k = (s : Sender) × (x : Answer) × In (down_message s t (down.Answer x)) bag × (x.generation ≡ g) × (x.number ≡ k) × (x.outcome ≡ Granted)

-- The status is asked or held.
abbrev pub Alive : Option Status → Type 0
Alive s = reserves_number s ≡ true

-- The lock that command number `k` requests.
abbrev pub lock : ℕ → ℕ → Operation → Row
lock t k o = row_of t k (name_of o) (mode_of o)

abbrev pub row_at : ℕ → TabState → ℕ → Row
row_at t x k = lock t k (operation_of x k)

-- The row agrees with its tab's issued commands.
abbrev pub IsKnown : ℕ → TabState → Row → Type 0
IsKnown t x r = (r ≡ row_at t x r.number) × (r.number < length x.issued)

-- One of the issued commands releases or aborts the number.
abbrev pub Ends : List Operation → ℕ → Type 0
Ends issued k = In (Release k) issued ⊎ In (Abort k) issued

-- The body is one of those in which the tab sends its report.
abbrev pub IsSaid : TabState → Upward → Type 0
IsSaid x u = In u (report_bodies x.in_parts x.report)

-- The state of a newly opened tab, of either kind.
abbrev pub IsBorn : ℕ → TabState → Type 0
IsBorn t x = (in_parts : Bool) × (x ≡ born in_parts t COMMAND_LIMIT)

-- The parts stored at the broker belong to the report that the tab made on entering generation `g`.
abbrev pub KeepsOf : ℕ → TabState → Partial → Type 0
KeepsOf g x k = (x.entered ≡ g) × HasParts x.in_parts x.report k

-- Locks and claims

-- A tab's own state: its issued commands, its statuses and the report that it made last.
pub record SoundTab (t : ℕ) (x : TabState) : Type 0 where
  -- A number that is asked or held was issued, requests a lock, and is neither released nor aborted.
  pub issued : (k : ℕ) → Alive (status_of x k) → k < length x.issued
  pub lock : (k : ℕ) → Alive (status_of x k) → is_lock (operation_of x k) ≡ true
  pub unended : (k : ℕ) → Alive (status_of x k) → Ends x.issued k → ⊥
  -- A release or an abort names a number that was issued.
  pub ends : (k : ℕ) → Ends x.issued k → k < length x.issued
  -- The report agrees with the issued commands, and is of the entered generation.
  pub told : (r : Row) → In r (held_of t x.report.entries) ⊎ In r (waiting_of t x.report.entries) → IsKnown t x r
  pub first : x.entered ≡ 0 → x.report.entries ≡ []
  pub own : x.report.generation ≡ x.entered
  pub rises : Rises 0 x.statuses

-- The cause of a lock: the tab's report has it as held, or a granted answer of the entered generation names it.
abbrev pub CauseIn : List Message → ℕ → TabState → ℕ → Type 0
CauseIn bag t x k = In (row_at t x k) (held_of t x.report.entries) ⊎ HasGrant bag t x.entered k

abbrev pub Cause : WorldState → ℕ → ℕ → Type 0
Cause w t k = CauseIn w.bag t (tab_of w t) k

-- A lock of a living tab that is asked or held and has a cause.
abbrev pub Covered : WorldState → ℕ → ℕ → Type 0
Covered w t k = record { living : lives w t ≡ true; alive : Alive (status_of (tab_of w t) k); cause : Cause w t k }

-- The row is in the report of a tab of partition `p` that has entered the generation and may still join.
abbrev pub Reported : WorldState → ℕ → Row → Type 0
Reported w p r =
    (partition_of w r.client ≡ p) × (came (broker_of w) r.client ≡ false) × ((tab_of w r.client).entered ≡ generation w)
    × In r (held_of r.client (tab_of w r.client).report.entries)

-- The row is a covered lock of a tab of partition `p` that has not entered the generation.
abbrev pub Carried : WorldState → ℕ → Row → Type 0
Carried w p r =
    (partition_of w r.client ≡ p) × ((tab_of w r.client).entered ≢ generation w) × (r ≡ row_at r.client (tab_of w r.client) r.number)
    × Covered w r.client r.number

-- One of three reasons.
pub data Reason (Stands Reported Carried : Type 0) : Type 0 where
  stands : Stands → Reason Stands Reported Carried
  reported : Reported → Reason Stands Reported Carried
  carried : Carried → Reason Stands Reported Carried

-- A reason why a lock of partition `p` blocks others: the broker holds it, or it is reported or carried.
abbrev pub Claim : WorldState → ℕ → Row → Type 0
Claim w p r = Reason (In r (manager_of (broker_of w) p).held) (Reported w p r) (Carried w p r)

-- A claim of an honest tab.
abbrev pub Counts : WorldState → ℕ → Row → Type 0
Counts w p r = IsHonest w r.client × Claim w p r

-- The tab of a row in the locks of partition `p` belongs to `p` and has come. If the tab is honest, the row
-- agrees with its commands.
abbrev pub Fits : WorldState → ℕ → Row → Type 0
Fits w p r =
    (was_opened w r.client ≡ true) × (partition_of w r.client ≡ p) × (came (broker_of w) r.client ≡ true)
    × (IsHonest w r.client → IsKnown r.client (tab_of w r.client) r × ((tab_of w r.client).entered ≡ generation w))

-- The invariant

-- The invariant has four parts, and three of them speak of one tab at a time. Their arguments are the things that a
-- step may replace for a tab: its state `x`, its opening `o`, its partition `q`, its seat and its stored report parts.
-- Each part is a record type without a name. Two worlds that agree in everything a part reads have the same part, so a
-- step hands on each part that does not read its change.

-- State and opening of tab `t`.
abbrev pub TabPart : WorldState → ℕ → TabState → Option OpenedTab → Type 0
TabPart w t x o = record {
  state : SoundTab t x;
  -- The tab has entered no generation later than the last one that was started.
  entered : x.entered < limit w;
  -- A number that was never opened has the state of a new tab.
  unopened : is_some o ≡ false → IsBorn t x;
  since : opening_in o ≤ generation w;
  -- A tab opened in this generation has entered no other one, and reported no lock.
  newcomer : opening_in o ≡ generation w → (x.entered ≡ 0) ⊎ ((x.entered ≡ generation w) × (x.report.entries ≡ []));
}

-- Messages from tab `t` and to it. An honest tab's messages agree with its state.
abbrev pub MessagePart : WorldState → ℕ → TabState → Option OpenedTab → ℕ → Type 0
MessagePart w t x o q = record {
  -- Each lock that the tab holds has a cause.
  held : (k : ℕ) → is_held (status_of x k) ≡ true → CauseIn w.bag t x k;
  -- A command carries the tab's partition. If the tab is honest, it issued the command.
  commands :
      (p : ℕ) (c : Command) → In (up_message t p (up.Command c)) w.bag →
      (is_some o ≡ true) × (p ≡ q) × (IsHonest w t → (c.number < length x.issued) × (operation_of x c.number ≡ c.operation));
  -- An honest tab reports only to a generation that it has entered. To the latest one, it sends its present report.
  reports :
      (p : ℕ) (u : Upward) (y : Told) → content_of u ≡ Some y → In (up_message t p u) w.bag →
      (is_some o ≡ true) × (p ≡ q) × (IsHonest w t → (0 < generation_of u) × (generation_of u ≤ x.entered) × (generation_of u ≡ x.entered → IsSaid x u));
  -- A grant is of a generation that was started. If the tab is honest, it has entered it and issued the number.
  grants : (g k : ℕ) → HasGrant w.bag t g k → (0 < g) × (g < limit w) × (IsHonest w t → (g ≤ x.entered) × (k < length x.issued));
  -- A hello is of a generation that was started, and goes to an opened tab.
  hellos :
      (s : Sender) (h : Hello) → In (down_message s t (down.Hello h)) w.bag →
      (0 < h.generation) × (h.generation < limit w) × (is_some o ≡ true) × (opening_in o ≡ generation w → h.generation ≡ generation w);
}

-- The broker's view of tab `t`.
abbrev pub SeatPart : WorldState → ℕ → TabState → Option OpenedTab → ℕ → Option TabSeat → Option Partial → Type 0
SeatPart w t x o q seat stored = record {
  -- The stored parts belong to the report that an honest tab made on entering this generation.
  partial : (k : Partial) → stored ≡ Some k → (is_some o ≡ true) × (IsHonest w t → KeepsOf (generation w) x k);
  -- An honest tab that has joined has entered this generation.
  joined : IsHonest w t → is_joined seat ≡ true → x.entered ≡ generation w;
  -- A tab that was named dead is dead.
  named : is_dead seat ≡ true → (lives_in o ≡ false) × (is_some o ≡ true);
  -- A broker that is up lists each tab opened in an earlier generation that lives or has entered this one.
  lists : is_some w.broker ≡ true → opening_in o < generation w → (lives_in o ≡ true) ⊎ (x.entered ≡ generation w) → In (t, q) (broker_of w).listed;
}

abbrev pub SoundTabs : WorldState → Type 0
SoundTabs w = (t : ℕ) → TabPart w t (tab_of w t) (opened_tab w.kernel t)

abbrev pub SoundMessages : WorldState → Type 0
SoundMessages w = (t : ℕ) → MessagePart w t (tab_of w t) (opened_tab w.kernel t) (partition_of w t)

abbrev pub SoundSeats : WorldState → Type 0
SoundSeats w = (t : ℕ) → SeatPart w t (tab_of w t) (opened_tab w.kernel t) (partition_of w t) (seat_of (broker_of w) t) (partial_of (broker_of w) t)

-- The broker's locks, and the claims that they have to respect.
abbrev pub SoundLocks : WorldState → Type 0
SoundLocks w = record {
  -- A tab that was granted a lock in this generation has come.
  granted : (t g k : ℕ) → HasGrant w.bag t g k → g ≡ generation w → came (broker_of w) t ≡ true;
  known : (p : ℕ) (r : Row) → Stands r (manager_of (broker_of w) p) → Fits w p r;
  -- The broker holds each covered lock of an honest tab that has entered the generation and come.
  covers :
      (t k : ℕ) → IsHonest w t → Covered w t k → (tab_of w t).entered ≡ generation w → came (broker_of w) t ≡ true →
      In (row_at t (tab_of w t) k) (manager_of (broker_of w) (partition_of w t)).held;
  -- Any two claims of honest tabs to one name are shared.
  agree : (p : ℕ) → Compatible (Counts w p);
}

-- The invariant of every world that a run reaches.
pub record Sound (w : WorldState) : Type 0 where
  pub positive : 0 < generation w
  -- A broker that is up serves the kernel's generation.
  pub current : (broker_of w).generation ≡ generation w
  pub tabs : SoundTabs w
  pub messages : SoundMessages w
  pub seats : SoundSeats w
  pub locks : SoundLocks w
