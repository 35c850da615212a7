-- The invariant from which the law of rest follows: for each honest tab that lives, something is on its way that ends with
-- the tab's having joined and the broker's having taken all its commands.
use Rattle.std.proofs.Common.{◌≡◌, ◌≢◌, ◌⊎◌, ℕ, zero, suc, ◌+◌, ◌<◌, ◌≤◌, Bool, true, false, ◌&&◌, ◌||◌, List, [], ◌∷◌, ◌++◌, length, map, filter, Option, Some}
use Rattle.std.specs.Prelude.{◌==◌, if◌then◌else◌}
use Rattle.wl_draft.specs.declared.row.Row.{Row}
use Rattle.wl_draft.specs.declared.row.Entry.{Entry}
use Rattle.wl_draft.specs.Locks.{Locks, has_pair}
use Rattle.wl_draft.specs.Membership.{In}
use Rattle.wl_grammar.specs.declared.frame.Answer.{Answer}
use Rattle.wl_grammar.specs.declared.frame.Snapshot.{Snapshot as Part}
use Rattle.wl_grammar.specs.declared.frame.Operation.{Operation}
use Rattle.wl_grammar.specs.declared.frame.Operation.TheVariants.{Request, Release, Abort, Query}
use Rattle.wl_grammar.specs.declared.frame.Outcome.{Outcome}
use Rattle.wl_grammar.specs.declared.frame.Outcome.TheVariants.{Granted, Gone}
use Rattle.wl_grammar.specs.declared.frame.Frame.{Frame}
use Rattle.wl_grammar.specs.declared.frame.Frame.TheVariants as frame
use Rattle.wl_broker_reports.specs.ReportParts.{Partial, Told, at_once, in_part, has_part, with_told, is_whole}
use Rattle.wl_broker.specs.Broker.{BrokerState, seat_of, partial_of, manager_of, next_of, limit_of, is_joined, is_dead, is_active, is_lock}
use Rattle.wl_broker.specs.Grants.{AreSettled}
use Rattle.wl_agent.specs.declared.status.Status.TheVariants.{Querying}
use Rattle.wl_agent.specs.SnapshotParts.{PartsState, with_part, is_whole as is_whole_snapshot}
use Rattle.wl_agent.specs.Tab.{TabState, status_of, operation_of, is_request, is_report_due, is_held, is_asked, is_querying, reserves_number}
use Rattle.wl_kernel.specs.Kernel.{is_opened, is_living, partition_number}
use Rattle.wl_supervised_broker.specs.SupervisedStates.{SupervisedState}
use Rattle.wl_frames.specs.Stream.{at_start}
use Rattle.wl_broadcast.specs.Channels.{no_channels}
use Rattle.wl_client.specs.declared.client.Unsent.{Unsent}
use Rattle.wl_client.specs.declared.client.Unsent.TheVariants as unsent
use Rattle.wl_client.specs.Client.{ClientState, welcome_of}
use Rattle.wl_hub.specs.Hub.{HubState}
use Rattle.wl_world_model.proofs.exclusion.Invariant.{limit_in}
use Rattle.wl_library_model.specs.Library.{Library, Line, client_of, runs}

-- From a tab to the broker

-- What the broker has of a tab: the parts kept of its report, or, once it has joined, the number of its next command.
pub data Seen : Type 0 where
  Away : (kept : Option Partial) → Seen
  At : (next : ℕ) → Seen

abbrev pub seen_if : Bool → ℕ → Option Partial → Seen
seen_if joined n o = if joined then At n else Away o

abbrev pub seen : BrokerState → ℕ → Seen
seen b t = seen_if (is_joined (seat_of b t)) (next_of b t) (partial_of b t)

-- What is to come from a tab: a report or a part of one, a command, or all that is due.
pub data Item : Type 0 where
  Tells : (x : Told) → Item
  Says : (number : ℕ) → Item
  Again : Item
  Nothing : Item

abbrev pub item_of : ℕ → Frame → Item
item_of g (frame.Command c) = if c.generation == g then Says c.number else Nothing
item_of g (frame.Report r) = if r.generation == g then Tells (at_once r) else Nothing
item_of g (frame.ReportPart r) = if r.generation == g then Tells (in_part r) else Nothing
item_of g f = Nothing

abbrev pub item_of_unsent : Unsent → Item
item_of_unsent unsent.Resend = Again
item_of_unsent (unsent.Command k) = Says k
item_of_unsent (unsent.Post f) = Nothing

-- The frames of the tab that the hub has still to handle.
abbrev pub arrived_of : HubState → ℕ → List Frame
arrived_of h t = if h.sender == t then h.arrived else []

abbrev pub outputs_to : ℕ → List (ℕ × Frame) → List Frame
outputs_to t os = map (λ o. o.1) (filter (λ o. o.0 == t) os)

-- All that the invariant reads of a tab: its client, the frames on their way from it and to it, oldest first, the number of
-- its partition, and the hub's early tabs. A step that leaves these alone leaves alone what is said of the tab.
pub record View : Type 0 where
  pub client : ClientState
  pub up : List Frame
  pub down : List Frame
  pub place : ℕ
  pub early : List ℕ

-- The client but for what it has received, its channels and its events.
abbrev pub bare : ClientState → ClientState
bare c = record c { channels = no_channels 0; feeding = at_start; arrived = []; events = [] }

abbrev pub down_with : HubState → Line → ℕ → List Frame
down_with h x t = x.client.arrived ++ x.down ++ outputs_to t h.outputs

abbrev pub view_with : HubState → Line → ℕ → View
view_with h x t = record {
  client = bare x.client;
  up = arrived_of h t ++ x.up;
  down = down_with h x t;
  place = partition_number h.supervised.kernel t;
  early = h.early;
}

abbrev pub frames_down : Library → ℕ → List Frame
frames_down l t = down_with l.hub (l.lines t) t

abbrev pub view : Library → ℕ → View
view l t = view_with l.hub (l.lines t) t

abbrev pub frames_up : Library → ℕ → List Frame
frames_up l t = arrived_of l.hub t ++ (l.lines t).up ++ (client_of l t).report

abbrev pub unsent_items : ClientState → List Item
unsent_items c = map Says c.due ++ map item_of_unsent c.unsent

-- Oldest first.
abbrev pub items_of : ℕ → View → List Item
items_of g v = map (item_of g) (v.up ++ v.client.report) ++ unsent_items v.client

abbrev pub coming : ℕ → Library → ℕ → List Item
coming g l t = items_of g (view l t)

-- What the broker has after an item, in an active partition. `due` says whether the tab's report is due, and `total` is the
-- number of the tab's commands.
abbrev pub told_away : ℕ → Told → Option Partial → Seen
told_away p x o = if has_part x o then Away o else (if is_whole (with_told p x o) then At x.base else Away (Some (with_told p x o)))

abbrev pub after_item : ℕ → Bool → ℕ → Item → Seen → Seen
after_item p due total (Tells x) (At m) = At m
after_item p due total (Tells x) (Away o) = told_away p x o
after_item p due total (Says k) (At m) = At (if k == m then m + 1 else m)
after_item p due total (Says k) (Away o) = Away o
after_item p due total Again (At m) = At total
after_item p due total Again (Away o) = if due then At total else Away o
after_item p due total Nothing s = s

abbrev pub after_items : ℕ → Bool → ℕ → List Item → Seen → Seen
after_items p due total [] s = s
after_items p due total (x ∷ xs) s = after_items p due total xs (after_item p due total x s)

-- From the hub to a tab

abbrev pub hello : ℕ → Frame
hello g = frame.Hello (record { generation = g })

abbrev pub Greets : ℕ → View → Type 0
Greets g v = In (hello g) v.down

abbrev pub HelloComes : ℕ → Library → ℕ → Type 0
HelloComes g l t = Greets g (view l t)

-- A frame that only a tab that has joined receives.
abbrev pub is_answer_in : ℕ → Frame → Bool
is_answer_in g (frame.Answer x) = x.generation == g
is_answer_in g (frame.Snapshot x) = x.generation == g
is_answer_in g f = false

-- The answer ends the wait for the number.
abbrev pub ends_wait : Operation → Outcome → Bool
ends_wait (Request mode if_available name) Granted = true
ends_wait (Request mode if_available name) Gone = if_available
ends_wait Query Gone = true
ends_wait o s = false

abbrev pub AnswerComes : ℕ → View → ℕ → Type 0
AnswerComes g v k =
    (x : Answer) × In (frame.Answer x) v.down × (x.generation ≡ g) × (x.number ≡ k) × (ends_wait (operation_of v.client.locks k) x.outcome ≡ true)

-- The snapshot's parts that are on their way, with those that came, are all.
abbrev pub parts_in : ℕ → ℕ → List Frame → PartsState → PartsState
parts_in g k [] ps = ps
parts_in g k (frame.Snapshot x ∷ fs) ps = parts_in g k fs (if (x.generation == g) && (x.number == k) then with_part x ps else ps)
parts_in g k (f ∷ fs) ps = parts_in g k fs ps

abbrev pub SnapshotComes : ℕ → View → ℕ → Type 0
SnapshotComes g v k =
    (ps : PartsState) × (status_of v.client.locks k ≡ Some (Querying ps))
    × ((x : Part) × In (frame.Snapshot x) v.down × (x.generation ≡ g) × (x.number ≡ k))
    × (is_whole_snapshot (parts_in g k v.down ps) ≡ true)

-- One tab

-- The tab has joined, and the hub will greet it again once its partition is active.
abbrev pub IsNoted : View → ℕ → BrokerState → Type 0
IsNoted v t b = (is_joined (seat_of b t) ≡ true) × In t v.early

abbrev pub IsEarly : Library → ℕ → BrokerState → Type 0
IsEarly l t b = IsNoted (view l t) t b

-- All that is to come ends with the tab's having joined and the broker's having taken all its commands.
abbrev pub Arrives : View → ℕ → BrokerState → Type 0
Arrives v t b =
    let a = v.client.locks in
    after_items v.place (is_report_due a) (length a.issued) (items_of b.generation v) (seen b t) ≡ At (length a.issued)

abbrev pub Reaches : Library → ℕ → BrokerState → Type 0
Reaches l t b = Arrives (view l t) t b

-- The client will send again all that is due.
abbrev pub SendsAgain : View → ℕ → BrokerState → Type 0
SendsAgain v t b = Greets b.generation v ⊎ IsNoted v t b ⊎ In unsent.Resend v.client.unsent

abbrev pub ends_at : ℕ → Operation → Bool
ends_at k (Release j) = j == k
ends_at k (Abort j) = j == k
ends_at k o = false

-- A command that the broker has still to take ends the number.
abbrev pub EndsLater : TabState → ℕ → ℕ → Type 0
EndsLater a n k = (j : ℕ) × (n ≤ j) × (j < length a.issued) × (ends_at k (operation_of a j) ≡ true)

abbrev pub IsAlive : TabState → ℕ → Type 0
IsAlive a k = reserves_number (status_of a k) ≡ true

-- A tab that has entered the broker's generation and has not joined: its report has all its locks and requests from before
-- the report.
pub record IsReported (a : TabState) : Type 0 where
  pub told : (k : ℕ) → k < a.report.base → IsAlive a k → (e : Entry) × In e a.report.entries × (e.number ≡ k) × (e.held ≡ is_held (status_of a k))
  pub alive : (e : Entry) → In e a.report.entries → IsAlive a e.number ⊎ EndsLater a a.report.base e.number
  pub answered : a.answered ≡ false
  pub acknowledged : a.acknowledged ≡ a.report.base

-- The numbers of a tab at the broker, if each request and probe from number `n` on, `m` in all, is queued and none granted.
abbrev pub numbered_after : Operation → ℕ → List ℕ → List ℕ
numbered_after (Request mode if_available name) n ks = n ∷ ks
numbered_after (Release j) n ks = filter (λ k. if k == j then false else true) ks
numbered_after (Abort j) n ks = filter (λ k. if k == j then false else true) ks
numbered_after Query n ks = ks

abbrev pub numbered_from : TabState → ℕ → ℕ → List ℕ → List ℕ
numbered_from a n zero ks = ks
numbered_from a n (suc m) ks = numbered_from a (n + 1) m (numbered_after (operation_of a n) n ks)

abbrev pub numbers_at : Locks → ℕ → List ℕ
numbers_at m t = map (λ (r : Row). r.number) (filter (λ (r : Row). r.client == t) (m.held ++ m.waiting))

-- A tab that has joined.
pub record HasKept (v : View) (t : ℕ) (b : BrokerState) (a : TabState) : Type 0 where
  -- The broker has taken the commands that the client knows it has taken, and none that was not issued.
  pub acknowledged : a.acknowledged ≤ next_of b t
  pub issued : next_of b t ≤ length a.issued
  pub queried : (k : ℕ) → is_querying (status_of a k) ≡ true → k < length a.issued
  -- A number that waits for an answer is waiting at the broker, or is answered by what is on its way.
  pub awaited :
      (k : ℕ) → k < next_of b t → (is_asked (status_of a k) || is_querying (status_of a k)) ≡ true →
      ((is_request (operation_of a k) ≡ true) × (has_pair t k (manager_of b v.place).waiting ≡ true))
      ⊎ AnswerComes b.generation v k ⊎ SnapshotComes b.generation v k ⊎ SendsAgain v t b ⊎ In (Says k) (items_of b.generation v)
  -- A request that waits for an answer is at the broker.
  pub stands :
      (k : ℕ) → k < next_of b t → is_asked (status_of a k) ≡ true → is_request (operation_of a k) ≡ true →
      (has_pair t k (manager_of b v.place).held || has_pair t k (manager_of b v.place).waiting) ≡ true
  -- What the broker has of the tab is the client's, once it has taken all commands; and none of them is one too many.
  pub own : (k m : ℕ) → next_of b t + m ≡ length a.issued → In k (numbered_from a (next_of b t) m (numbers_at (manager_of b v.place) t)) → IsAlive a k
  pub room :
      (m : ℕ) → next_of b t + m < length a.issued → is_lock (operation_of a (next_of b t + m)) ≡ true →
      length (numbered_from a (next_of b t) m (numbers_at (manager_of b v.place) t)) < limit_of b t

abbrev pub IsKept : Library → ℕ → BrokerState → TabState → Type 0
IsKept l t b a = HasKept (view l t) t b a

-- An honest tab that lives, with or without a broker. No generation from `bound` on was started.
pub record Fresh (v : View) (bound : ℕ) : Type 0 where
  -- A client that was not welcomed receives its welcome first.
  pub welcome : v.client.is_welcomed ≡ false → (f : Frame) × (fs : List Frame) × (x : ℕ × Bool) × (v.down ≡ f ∷ fs) × (welcome_of f ≡ Some x)
  pub past : (f : Frame) (g : ℕ) → In f v.down → is_answer_in g f ≡ true → g < bound
  pub entered : v.client.locks.entered < bound

abbrev pub IsFresh : Library → ℕ → Type 0
IsFresh l t = Fresh (view l t) (limit_in l.hub.supervised.kernel.generation l.hub.supervised.broker)

-- An honest tab that lives, under the broker `b`.
pub record Serves (v : View) (t : ℕ) (b : BrokerState) : Type 0 where
  pub welcomed : v.client.is_welcomed ≡ false → Greets b.generation v
  pub enters : v.client.locks.entered ≢ b.generation → Greets b.generation v
  pub answers : (f : Frame) → In f v.down → is_answer_in b.generation f ≡ true → is_joined (seat_of b t) ≡ true
  pub reaches : v.client.locks.entered ≡ b.generation → Greets b.generation v ⊎ IsNoted v t b ⊎ Arrives v t b
  pub reported : v.client.locks.entered ≡ b.generation → is_joined (seat_of b t) ≡ false → IsReported v.client.locks
  pub kept : is_joined (seat_of b t) ≡ true → HasKept v t b v.client.locks

abbrev pub IsServing : Library → ℕ → BrokerState → Type 0
IsServing l t b = Serves (view l t) t b

-- All that the invariant reads of the hub itself.
pub record HubView : Type 0 where
  pub supervised : SupervisedState
  pub untold : List ℕ
  pub early : List ℕ
  pub greetings : ℕ

abbrev pub hub_view : HubState → HubView
hub_view h = record { supervised = h.supervised; untold = h.untold; early = h.early; greetings = h.greetings }

-- The hub and its broker.
pub record Keeping (h : HubView) (b : BrokerState) : Type 0 where
  -- A living tab whose commands were dropped stands among those to be greeted, or its partition recovers.
  pub early :
      (front back : List ℕ) (t : ℕ) → h.early ≡ front ++ t ∷ back → is_living h.supervised.kernel t ≡ true →
      (length front < h.greetings) ⊎ (is_active b (partition_number h.supervised.kernel t) ≡ false)
  -- The broker was told, or will be told, of each listed tab, and of each tab that has joined, that is dead.
  pub listed :
      (t q : ℕ) → In (t, q) b.listed →
      (q ≡ partition_number h.supervised.kernel t) × (is_opened h.supervised.kernel t ≡ true)
      × ((is_living h.supervised.kernel t ≡ true) ⊎ In t h.untold ⊎ (is_dead (seat_of b t) ≡ true))
  pub joined : (t : ℕ) → is_joined (seat_of b t) ≡ true → (is_living h.supervised.kernel t ≡ true) ⊎ In t h.untold
  pub settled : AreSettled b
  pub rows : (q : ℕ) (r : Row) → In r (manager_of b q).held ⊎ In r (manager_of b q).waiting → is_joined (seat_of b r.client) ≡ true

abbrev pub IsKeeping : Library → BrokerState → Type 0
IsKeeping l b = Keeping (hub_view l.hub) b

-- The invariant. While no broker is up it says nothing, since the next one greets all tabs.
pub record IsResting (l : Library) : Type 0 where
  pub fresh : (t : ℕ) → runs l t ≡ true → IsFresh l t
  pub keeping : (b : BrokerState) → l.hub.supervised.broker ≡ Some b → IsKeeping l b
  pub serving : (b : BrokerState) (t : ℕ) → l.hub.supervised.broker ≡ Some b → runs l t ≡ true → IsServing l t b
