-- Draining ends: its statement, and a measure that each move is to lower. Definitions alone: nothing is proved of them here.
use Rattle.std.proofs.Common.{◌≡◌, ◌⊎◌, ℕ, ◌+◌, ◌<◌, Bool, true, false, not, ◌&&◌, ◌||◌, List, [], ◌∷◌, length, filter, Option, Some, None, is_some}
use Rattle.std.specs.Prelude.{⊤, ◌*◌, ◌==◌}
use Rattle.std.specs.List.{list_any}
use Rattle.wl_limits.specs.declared.frames.TheConstants.{SNAPSHOT_PART_LIMIT}
use Rattle.wl_origin.specs.Order.{Pair}
use Rattle.wl_draft.specs.Locks.{Locks}
use Rattle.wl_grammar.specs.declared.frame.Frame.{Frame}
use Rattle.wl_grammar.specs.declared.frame.Frame.TheVariants as frame
use Rattle.wl_broker.specs.Broker.{BrokerState, is_active}
use Rattle.wl_agent.specs.Tab.{TabState}
use Rattle.wl_client.specs.declared.client.Unsent.{Unsent}
use Rattle.wl_client.specs.declared.client.Unsent.TheVariants as unsent
use Rattle.wl_kernel.specs.Kernel.{OpenedTab, partition_number}
use Rattle.wl_library_model.specs.Library.{Library, Line, Step, HubReceives, HubAdvances, HubSends, ClientReceives, ClientAdvances, ClientSends, new_library, client_of, step, run_steps}
use Rattle.wl_library_model.specs.Promises.{IsHonest}
use Rattle.wl_quiescence.specs.Quiescence.{LivesIn, IsAtRest}

-- The steps that only carry on what is under way.
abbrev pub is_move : Step → Bool
is_move (HubReceives t n) = true
is_move HubAdvances = true
is_move HubSends = true
is_move (ClientReceives t n) = true
is_move (ClientAdvances t) = true
is_move (ClientSends t) = true
is_move x = false

abbrev pub AreMoves : List Step → Type 0
AreMoves [] = ⊤
AreMoves (x ∷ xs) = (is_move x ≡ true) × AreMoves xs

-- The statement: under a running broker, some moves lead to rest.
abbrev pub DrainingEnds : Type 0
DrainingEnds =
    (steps : List Step) (p : Pair) → let l = run_steps steps new_library in
    is_some l.hub.supervised.broker ≡ true → ((t : ℕ) → LivesIn p l t → IsHonest l t) →
    (moves : List Step) × AreMoves moves × IsAtRest p (run_steps moves l)

-- The measure

abbrev pub total : {X : Type 0} → (X → ℕ) → List X → ℕ
total f [] = 0
total f (x ∷ xs) = f x + total f xs

-- The tabs that may still be greeted: early ones, and living ones of a partition that recovers.
abbrev pub may_be_greeted : Library → Option BrokerState → OpenedTab → Bool
may_be_greeted l None o = true
may_be_greeted l (Some b) o = list_any (λ u. u == o.tab) l.hub.early || (o.living && not (is_active b (partition_number l.hub.supervised.kernel o.tab)))

abbrev pub greetings_left : Library → ℕ
greetings_left l = length (filter (may_be_greeted l l.hub.supervised.broker) l.hub.supervised.kernel.opened)

-- A command may be answered by a snapshot in parts, and adds one row.
abbrev pub command_weight : ℕ
command_weight = 4 * (SNAPSHOT_PART_LIMIT + 3)

-- A frame for the hub, where `n` tabs were opened. A post goes to each other tab.
abbrev pub up_weight : ℕ → Frame → ℕ
up_weight n (frame.Command c) = command_weight
up_weight n (frame.Report r) = 4 * length r.entries + n + 2
up_weight n (frame.ReportPart r) = 4 * length r.entries + n + 2
up_weight n (frame.Post p) = 4 * n + 1
up_weight n f = 1

-- All that a client may send again: a report of all its numbers, at worst one a part, and all its commands.
abbrev pub again_weight : ℕ → TabState → ℕ
again_weight n a = 1 + (length a.issued + 1) * (n + 5) + 4 * length a.issued + length a.issued * (command_weight + 4)

-- A frame for a tab. A hello makes its client send all again.
abbrev pub down_weight : ℕ → TabState → Frame → ℕ
down_weight n a (frame.Hello h) = again_weight n a + 2
down_weight n a f = 1

abbrev pub unsent_weight : ℕ → TabState → Unsent → ℕ
unsent_weight n a unsent.Resend = again_weight n a
unsent_weight n a (unsent.Command k) = command_weight + 3
unsent_weight n a (unsent.Post f) = up_weight n f + 3

abbrev pub line_weight : ℕ → Line → ℕ
line_weight n x =
    let a = x.client.locks in
    total (λ f. down_weight n a f + 2) x.down + total (λ f. down_weight n a f + 1) x.client.arrived + total (λ f. up_weight n f + 2) x.up
    + total (λ f. up_weight n f + 3) x.client.report + length x.client.due * (command_weight + 3) + total (unsent_weight n a) x.client.unsent

-- Each request that waits may be granted once.
abbrev pub waiting_weight : Option BrokerState → ℕ
waiting_weight None = 0
waiting_weight (Some b) = total (λ (row : ℕ × Locks). 4 * length row.1.waiting) b.managers

abbrev pub hub_weight : ℕ → Library → ℕ
hub_weight n l =
    total (λ (o : ℕ × Frame). down_weight n (client_of l o.0).locks o.1 + 3) l.hub.outputs + total (λ f. up_weight n f + 1) l.hub.arrived
    + length l.hub.untold * (n + 1) + l.hub.greetings + waiting_weight l.hub.supervised.broker

abbrev pub weight_of : Library → ℕ
weight_of l = let n = length l.hub.supervised.kernel.opened in hub_weight n l + total (λ (o : OpenedTab). line_weight n (l.lines o.tab)) l.hub.supervised.kernel.opened

-- Fewer greetings are left, or as many and less weight.
abbrev pub IsLess : Library → Library → Type 0
IsLess m l = (greetings_left m < greetings_left l) ⊎ ((greetings_left m ≡ greetings_left l) × (weight_of m < weight_of l))

-- What is to be proved of each reached library under a broker: a move lowers the measure, or changes nothing but the number
-- of the tab whose frames arrived last, as a receive of no frames does.
abbrev pub MovesFall : Type 0
MovesFall =
    (steps : List Step) (x : Step) → let l = run_steps steps new_library in
    is_some l.hub.supervised.broker ≡ true → is_move x ≡ true → ((s : ℕ) × (step x l ≡ record l { hub = record l.hub { sender = s } })) ⊎ IsLess (step x l) l
