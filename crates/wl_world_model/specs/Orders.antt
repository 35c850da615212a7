-- The messages and deaths that a generation's broker takes, picked from the events, and the order laws about them.
use Rattle.std.specs.Prelude.{◌≡◌, ℕ, ◌+◌, List, [], ◌∷◌, ◌++◌, Bool, true, false, not, ◌&&◌, ◌||◌, ◌==◌, nat_le, length, drop, filter, Some, is_some, if◌then◌else◌}
use Rattle.std.specs.List.{list_any, list_all}
use Rattle.wl_draft.specs.declared.row.Row.{Row}
use Rattle.wl_draft.specs.Locks.{Locks, no_locks, is_grantable, newly_granted_if, settle_if, has_pair, live, row_of, ended, restored}
use Rattle.wl_grammar.specs.declared.frame.Operation.{Operation}
use Rattle.wl_grammar.specs.declared.frame.Operation.TheVariants.{Request}
use Rattle.wl_grammar.specs.declared.frame.Outcome.TheVariants.{Granted}
use Rattle.wl_grammar.specs.declared.frame.Answer.{Answer}
use Rattle.wl_grammar.specs.declared.frame.Upward.{Upward}
use Rattle.wl_grammar.specs.declared.frame.Upward.TheVariants as up
use Rattle.wl_grammar.specs.declared.frame.Downward.TheVariants as down
use Rattle.wl_draft.specs.Tables.{Table, find, put}
use Rattle.wl_broker_reports.specs.ReportParts.{Partial, kept_at, without_partial, has_held, all_below, Told, at_once, in_part, fits, has_part, with_told, is_whole, Whole, whole_of}
use Rattle.wl_grammar.specs.Generation.{generation_of}
use Rattle.wl_broker.specs.Broker.{BrokerState, manager_of, listed_at, is_listed, elsewhere, drafted, is_lock}
use Rattle.wl_kernel.specs.Kernel.{is_opened, start_refusal, placed}
use Rattle.wl_world_messages.specs.declared.message.Sender.{Sender}
use Rattle.wl_world_messages.specs.declared.message.Sender.TheVariants.{Broker}
use Rattle.wl_world_messages.specs.declared.message.Message.{Message}
use Rattle.wl_world_messages.specs.declared.message.Message.TheVariants.{Up, Down, Across}
use Rattle.wl_world_messages.specs.Messages.{is_sent}
use Rattle.wl_draft.specs.Membership.{In}
use Rattle.wl_world_model.specs.declared.event.Event.{Event}
use Rattle.wl_world_model.specs.declared.event.Event.TheVariants as event
use Rattle.wl_world_model.specs.World.{WorldState, empty_world, tab_of, lives, partition_of, after_event, run}
use Rattle.wl_world_model.specs.Holdings.{IsHonest}
use Rattle.wl_limits.specs.declared.tabs.TheConstants.{LAST_NUMBER}

-- An item that the broker takes from a tab: its death, its report, or a command.
pub data Act : Type 0 where
  Dies : Act
  Reports : (report : Whole) → Act
  Commands : (number : ℕ) (operation : Operation) → Act

pub record Item : Type 0 where
  pub tab : ℕ
  pub partition : ℕ
  pub act : Act

-- The state picked for one generation: its start list with partitions, the items taken so far,
-- and incomplete reports by tab.
pub record Picked : Type 0 where
  pub listed : List (ℕ × ℕ)
  pub items : List Item
  pub partial : Table Partial

-- Queries of a list of items

-- The taken list of a partition.
abbrev pub of_partition : ℕ → List Item → List Item
of_partition p items = filter (λ x. x.partition == p) items

abbrev pub of_tab : ℕ → List Item → List Item
of_tab t items = filter (λ x. x.tab == t) items

abbrev pub is_death : Act → Bool
is_death Dies = true
is_death act = false

abbrev pub is_report : Act → Bool
is_report (Reports report) = true
is_report act = false

abbrev pub has_death : List Item → Bool
has_death items = list_any (λ x. is_death x.act) items

abbrev pub has_report : List Item → Bool
has_report items = list_any (λ x. is_report x.act) items

-- The base of the first report in the list, or 0 if there is none.
abbrev pub base_or : Act → ℕ → ℕ
base_or (Reports report) rest = report.base
base_or act rest = rest

abbrev pub base_of : List Item → ℕ
base_of [] = 0
base_of (x ∷ xs) = base_or x.act (base_of xs)

-- The lock limit that the first report sets, or 0 if there is none.
abbrev pub limit_or : Act → ℕ → ℕ
limit_or (Reports report) rest = report.limit
limit_or act rest = rest

abbrev pub limit_of : List Item → ℕ
limit_of [] = 0
limit_of (x ∷ xs) = limit_or x.act (limit_of xs)

-- The commands in the list, with their numbers.
abbrev pub command_of : Act → List (ℕ × Operation)
command_of (Commands number operation) = (number, operation) ∷ []
command_of act = []

abbrev pub commands_of : List Item → List (ℕ × Operation)
commands_of [] = []
commands_of (x ∷ xs) = command_of x.act ++ commands_of xs

-- The number of a tab's next command, from that tab's items.
abbrev pub next_of : List Item → ℕ
next_of mine = base_of mine + length (commands_of mine)

-- The tab has a report or a death in the list.
abbrev pub has_arrived : List Item → ℕ → Bool
has_arrived taken t = has_report (of_tab t taken) || has_death (of_tab t taken)

-- The partition is active: each listed tab of the partition has a report or a death in its taken list.
abbrev pub is_complete : ℕ → List (ℕ × ℕ) → List Item → Bool
is_complete p listed taken = list_all (λ x. not (x.1 == p) || has_arrived taken x.0) listed

-- The draft's commands, folded over a partition's taken list

abbrev pub done : ℕ → Act → Locks → Locks
done t Dies m = ended t m
done t (Reports report) m = restored t report.entries m
done t (Commands number operation) m = drafted t number operation m

-- Applies one item, and settles if the partition is active. `so_far` is the list up to and with that item.
abbrev pub managed_one : ℕ → List (ℕ × ℕ) → List Item → Locks → Item → Locks
managed_one p listed so_far m x = settle_if (is_complete p listed so_far) (done x.tab x.act m)

abbrev pub managed_from : ℕ → List (ℕ × ℕ) → List Item → Locks → List Item → Locks
managed_from p listed before m [] = m
managed_from p listed before m (x ∷ xs) = managed_from p listed (before ++ x ∷ []) (managed_one p listed (before ++ x ∷ []) m x) xs

abbrev pub managed : ℕ → List (ℕ × ℕ) → List Item → Locks
managed p listed taken = managed_from p listed [] no_locks taken

-- The lock that a probe is granted, if it is.
abbrev pub granted_if : Bool → Row → List Row
granted_if granted r = if granted then r ∷ [] else []

abbrev pub probe_grants : Locks → ℕ → Act → List Row
probe_grants m t (Commands number (Request mode if_available name)) =
    granted_if (if_available && is_grantable m.held m.waiting (row_of t number name mode)) (row_of t number name mode)
probe_grants m t act = []

-- The locks that an item newly grants, by a probe or by settling.
abbrev pub grants_of : ℕ → List (ℕ × ℕ) → List Item → Item → List Row
grants_of p listed before x =
    probe_grants (managed p listed before) x.tab x.act
    ++ newly_granted_if (is_complete p listed (before ++ x ∷ [])) (done x.tab x.act (managed p listed before))

-- Items that are taken

-- The tab is listed under another partition, its report was taken under another one, or a part of its report came there.
abbrev pub is_placed_elsewhere : Picked → ℕ → ℕ → Bool
is_placed_elsewhere k t p =
    elsewhere (listed_at t k.listed) p
    || (list_any (λ x. is_report x.act && not (x.partition == p)) (of_tab t k.items) || elsewhere (kept_at (find k.partial t)) p)

-- Whether the broker takes a report or a part. The tab has neither died nor reported and is not placed elsewhere. A
-- newcomer holds no lock. All numbers are below the base, and the part fits the stored ones and is new.
unfoldable pub takes_told : Picked → ℕ → ℕ → Told → Bool
takes_told k t p x =
    let mine = of_tab t (of_partition p k.items) in
    not (has_death mine) && (not (is_placed_elsewhere k t p) && (not (has_report mine)
    && (not (not (is_listed (listed_at t k.listed)) && has_held x.entries)
    && ((all_below x.base x.entries && fits x (find k.partial t)) && not (has_part x (find k.partial t))))))

-- The command requests a lock, and the tab already has as many locks as its limit allows.
abbrev pub has_too_many : ℕ → Locks → ℕ → Operation → Bool
has_too_many limit m t o = is_lock o && nat_le limit (live m t)

-- Whether the broker takes a command. Its tab has not died, is not placed elsewhere and has reported. The partition is
-- active. The number is the tab's next and not the last one. For a request or a probe, the tab is below its lock limit.
unfoldable pub takes_command : Picked → ℕ → ℕ → ℕ → Operation → Bool
takes_command k t p n o =
    let list = of_partition p k.items in
    let mine = of_tab t list in
    not (has_death mine) && (not (is_placed_elsewhere k t p) && (has_report mine && (is_complete p k.listed list
    && (not (n == LAST_NUMBER) && (n == next_of mine && not (has_too_many (limit_of mine) (managed p k.listed list) t o))))))

-- Appends an item. The stored parts of its tab's report are removed.
abbrev pub adds : ℕ → ℕ → Act → Picked → Picked
adds t p act k = record k { items = k.items ++ record { tab = t; partition = p; act = act } ∷ []; partial = without_partial t k.partial }

-- A report is appended as an item when its last missing part is taken. Until then its parts are stored.
unfoldable pub adds_report : ℕ → ℕ → Partial → Picked → Picked
adds_report t p r k = if is_whole r then adds t p (Reports (whole_of r)) k else record k { partial = put t r k.partial }

abbrev pub picks_told : Picked → ℕ → ℕ → Told → Picked
picks_told k t p x = if takes_told k t p x then adds_report t p (with_told p x (find k.partial t)) k else k

abbrev pub picks_upward : Picked → ℕ → ℕ → Upward → Picked
picks_upward k t p (up.Report r) = picks_told k t p (at_once r)
picks_upward k t p (up.ReportPart r) = picks_told k t p (in_part r)
picks_upward k t p (up.Command c) = if takes_command k t p c.number c.operation then adds t p (Commands c.number c.operation) k else k

-- Items picked from the events while the generation is up

abbrev pub is_up : ℕ → WorldState → Bool
is_up g w = is_some w.broker && w.kernel.generation == g

abbrev pub picks_message : ℕ → Picked → Message → Picked
picks_message g k (Up s) =
    if generation_of s.inner == g then picks_upward k s.tab s.partition s.inner else k
picks_message g k (Down s x) = k
picks_message g k (Across t x) = k

-- The first death notice of an opened tab that does not live.
abbrev pub takes_death : WorldState → Picked → ℕ → Bool
takes_death w k t = is_opened w.kernel t && not (lives w t) && not (has_death (of_tab t (of_partition (partition_of w t) k.items)))

-- Whether this Start begins generation `g`.
abbrev pub begins_now : ℕ → WorldState → List ℕ → Bool
begins_now g w ts = not (is_some w.broker) && w.kernel.generation == g && not (is_some (start_refusal ts w.kernel))

-- The state picked for generation `g` after this event in this world.
unfoldable pub picks : ℕ → WorldState → Picked → Event → Picked
picks g w k (event.Deliver m) = if is_up g w && is_sent m w.bag then picks_message g k m else k
picks g w k (event.Tell t) = if is_up g w && takes_death w k t then adds t (partition_of w t) Dies k else k
picks g w k (event.Start ts) = if begins_now g w ts then record { listed = placed ts w.kernel; items = []; partial = [] } else k
picks g w k e = k

abbrev pub picked_from : ℕ → List Event → WorldState → Picked → Picked
picked_from g [] w k = k
picked_from g (e ∷ es) w k = picked_from g es (after_event w e) (picks g w k e)

abbrev pub picked : ℕ → List Event → Picked
picked g events = picked_from g events empty_world (record { listed = []; items = []; partial = [] })

-- Properties of one list of events and its world, for every generation and partition

abbrev pub IsPrefix : {X : Type 0} → List X → List X → Type 0
IsPrefix {X} xs ys = (rest : List X) × (xs ++ rest ≡ ys)

-- Commands with consecutive numbers, from `k` on.
abbrev pub numbered : ℕ → List Operation → List (ℕ × Operation)
numbered k [] = []
numbered k (o ∷ os) = (k, o) ∷ numbered (k + 1) os

-- An honest tab's taken commands are a prefix of its issued commands from its report's base on, each once and in order.
abbrev pub CommandsInOrder : List Event → WorldState → Type 0
CommandsInOrder events w =
    (g p t : ℕ) → IsHonest w t →
    let mine = of_tab t (of_partition p (picked g events).items) in
    IsPrefix (commands_of mine) (numbered (base_of mine) (drop (base_of mine) (tab_of w t).issued))

-- While a generation is up, its broker's locks in a partition are the fold over the partition's taken list.
abbrev pub ManagerIsFold : List Event → WorldState → Type 0
ManagerIsFold events w =
    (g p : ℕ) (b : BrokerState) → w.broker ≡ Some b → b.generation ≡ g →
    manager_of b p ≡ managed p (picked g events).listed (of_partition p (picked g events).items)

-- The lock is held after some prefix of its partition's taken list.
abbrev pub WasHeld : Picked → ℕ → ℕ → ℕ → Type 0
WasHeld k p t n =
    (before : List Item) × (later : List Item) × (before ++ later ≡ of_partition p k.items) × (has_pair t n (managed p k.listed before).held ≡ true)

-- A granted answer of generation `g` is in the bag only if its lock is held after some prefix of the taken list.
abbrev pub GrantedWereHeld : List Event → WorldState → Type 0
GrantedWereHeld events w =
    (g t : ℕ) (s : Sender) (x : Answer) → In (Down s (record { tab = t; inner = down.Answer x })) w.bag → x.generation ≡ g → x.outcome ≡ Granted →
    WasHeld (picked g events) (partition_of w t) t x.number

-- Each lock that an item newly grants, by a probe or by settling, has a granted answer of generation `g` in the bag.
abbrev pub HasAnswer : List Message → ℕ → Row → Type 0
HasAnswer bag g r =
    (upto : ℕ) × In (Down Broker (record { tab = r.client; inner = down.Answer (record { generation = g; upto = upto; number = r.number; outcome = Granted }) })) bag

abbrev pub GrantsWereSent : List Event → WorldState → Type 0
GrantsWereSent events w =
    (g p : ℕ) (before later : List Item) (x : Item) (r : Row) → before ++ x ∷ later ≡ of_partition p (picked g events).items →
    In r (grants_of p (picked g events).listed before x) → HasAnswer w.bag g r

-- The laws, over every list of events

abbrev pub CommandsInOrderForAll : Type 0
CommandsInOrderForAll = (events : List Event) → CommandsInOrder events (run events empty_world)

abbrev pub ManagerIsFoldForAll : Type 0
ManagerIsFoldForAll = (events : List Event) → ManagerIsFold events (run events empty_world)

abbrev pub GrantedWereHeldForAll : Type 0
GrantedWereHeldForAll = (events : List Event) → GrantedWereHeld events (run events empty_world)

abbrev pub GrantsWereSentForAll : Type 0
GrantsWereSentForAll = (events : List Event) → GrantsWereSent events (run events empty_world)
