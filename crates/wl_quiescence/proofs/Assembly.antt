-- Each step keeps the invariant, so it holds of all runs, and the law follows.
use Rattle.std.proofs.Common.{List, [], ◌∷◌, refl, le_refl}
use Rattle.wl_draft.proofs.Membership.{apart}
use Rattle.wl_broker.specs.Broker.{next_of}
use Rattle.wl_library_model.specs.Library.{Library, Step, Opens, Closes, Restarts, Stops, HubReceives, HubAdvances, HubSends, Asks, Queries, Aborts, Releases, Resends, OpensChannel, Posts, Reads, ClosesChannel, TakesEvent, ClientReceives, ClientAdvances, ClientSends, TakesOver, Forges, new_library, step, run_steps}
use Rattle.wl_quiescence.specs.Quiescence.{ServedAtRest, ServedBesideOthers, HeldUpByOthers, NobodyWaitsForNothing}
use Rattle.wl_quiescence.proofs.rest.Invariant.{IsResting}
use Rattle.wl_quiescence.proofs.rest.Steps.{new-rests, take_event-rests, open_channel-rests, hub_receive-rests, client_receive-rests, read-rests, close_channel-rests, take_over-rests, forge-rests}
use Rattle.wl_quiescence.proofs.rest.Restarts.{restart-rests, stop-rests}
use Rattle.wl_quiescence.proofs.rest.Hellos.{resend-rests}
use Rattle.wl_quiescence.proofs.rest.Posts.{post-rests}
use Rattle.wl_quiescence.proofs.rest.Law.{AlwaysResting, served-at_rest, served-beside, held-up_by, nobody-waits}
use Rattle.wl_quiescence.proofs.calls.Drops.{hub_send-rests}
use Rattle.wl_quiescence.proofs.calls.Steps.{ask-rests, query-rests, abort-rests, release-rests}
use Rattle.wl_quiescence.proofs.calls.Opens.{open-rests, close-rests}
use Rattle.wl_quiescence.proofs.client.Kept.{IsHeeding}
use Rattle.wl_quiescence.proofs.client.Others.{advance-rests as client_advance-rests}
use Rattle.wl_quiescence.proofs.client.Sends.{send-rests}
use Rattle.wl_quiescence.proofs.hub.Advances.{MayAdvance, advance-rests as hub_advance-rests}
use Rattle.wl_quiescence.proofs.Reached.{IsReached, reached-first, reached-next, world_of, reached-sim, reached-tabs, reached-current, reached-outputs, reached-numbers, reached-room, reached-none, reached-posts, reached-queries}
use Rattle.wl_quiescence.proofs.heeds.Law.{heeds, unheard}
use Rattle.wl_quiescence.proofs.facts.Listed.{reached-listed}
use Rattle.wl_quiescence.proofs.facts.Arrived.{reached-living}
use Rattle.wl_quiescence.proofs.facts.Untold.{untold-known}
use Rattle.wl_quiescence.proofs.facts.Locks.{reached-locks, reached-requested, reached-released}
use Rattle.wl_quiescence.proofs.facts.Said.{said-known}
use Rattle.wl_quiescence.proofs.Known.{known-base, known-asks, known-unended}
use Rattle.wl_quiescence.proofs.joins.Told.{told as told-reached}

-- The invariant, with what comes down to the clients.
record IsKept (l : Library) : Type 0 where
  resting : IsResting l
  heeding : IsHeeding l

may-advance : (l : Library) → IsReached l → IsKept l → MayAdvance l
may-advance l r i = record {
  current = reached-current l r;
  once = reached-listed l r;
  living = reached-living l r;
  untold = untold-known l r i.resting;
  knows = λ b c fs up a run. (
    λ j.
        let t = l.hub.sender in
        let w = world_of l r in
        let s = reached-sim l r in
        record {
          base = known-base l w t s b run up j;
          asks = known-asks l w t s b run up j;
          unended = known-unended l w t s b run up j;
          querying = λ k y. ((reached-queries l t r).queries k y).1;
          probes = reached-requested l r b t up run j;
          released = λ k lt e. reached-released l r b t up run j (next_of b t) k (le_refl (next_of b t)) lt e;
          unheard = unheard l r i.resting i.heeding b t up run j;
        },
    said-known l r b c fs up a run,
  );
  told = told-reached l r i.resting;
}

step-rests : (l : Library) (y : Step) → IsReached l → IsKept l → IsResting (step y l)
step-rests l (Opens t page is_pair) r i = open-rests l (world_of l r) t page is_pair (reached-sim l r) (reached-outputs l r) i.resting
step-rests l (Closes t) r i = close-rests l t i.resting
step-rests l Restarts r i = restart-rests l (reached-tabs l r) i.resting
step-rests l Stops r i = stop-rests l i.resting
step-rests l (HubReceives t n) r i = hub_receive-rests l t n i.resting
step-rests l HubAdvances r i = hub_advance-rests l (may-advance l r i) i.resting
step-rests l HubSends r i = hub_send-rests l (world_of l r) (reached-sim l r) i.resting
step-rests l (Asks t mode b name) r i = ask-rests l (world_of l r) t mode b name (reached-sim l r) (reached-numbers l t r) (reached-room l t r i.resting) i.resting
step-rests l (Queries t) r i = query-rests l (world_of l r) t (reached-sim l r) (reached-numbers l t r) i.resting
step-rests l (Aborts t j) r i = abort-rests l (world_of l r) t j (reached-sim l r) (reached-numbers l t r) i.resting
step-rests l (Releases t j) r i = release-rests l (world_of l r) t j (reached-sim l r) (reached-numbers l t r) i.resting
step-rests l (Resends t) r i = resend-rests l (world_of l r) t (reached-sim l r) i.resting
step-rests l (OpensChannel t name) r i = open_channel-rests l t name i.resting
step-rests l (Posts t j bytes) r i = post-rests l t j bytes i.resting
step-rests l (Reads t j) r i = read-rests l t j i.resting
step-rests l (ClosesChannel t j) r i = close_channel-rests l t j i.resting
step-rests l (TakesEvent t) r i = take_event-rests l t i.resting
step-rests l (ClientReceives t n) r i = client_receive-rests l t n i.resting
step-rests l (ClientAdvances t) r i = client_advance-rests l (world_of l r) t (reached-sim l r) (λ b run up. i.heeding b t up run) i.resting
step-rests l (ClientSends t) r i = send-rests l (world_of l r) t (reached-sim l r) (reached-none l t r) (reached-posts l t r) i.resting
step-rests l (TakesOver t) r i = take_over-rests l t i.resting
step-rests l (Forges t f) r i = forge-rests l t f i.resting

-- All runs

always-from : (xs : List Step) (l : Library) → IsReached l → IsKept l → IsResting (run_steps xs l)
always-from [] l r i = i.resting
always-from (y ∷ xs) l r i =
    always-from xs (step y l) (reached-next l y r) (record { resting = step-rests l y r i; heeding = heeds l y r i.resting (reached-locks l r) i.heeding })

pub always-resting : AlwaysResting
always-resting steps = always-from steps new_library reached-first (record { resting = new-rests; heeding = λ b t up run. apart run refl })

pub law-served : ServedAtRest
law-served = served-at_rest always-resting

pub law-nobody : NobodyWaitsForNothing
law-nobody = nobody-waits always-resting

pub law-beside : ServedBesideOthers
law-beside = served-beside always-resting

pub law-held_up : HeldUpByOthers
law-held_up = held-up_by always-resting
