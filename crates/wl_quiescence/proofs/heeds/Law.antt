-- What comes down to a client agrees with the broker after each step, and no part comes of a query that the broker has still to take.
use Rattle.std.proofs.Common.{arith}
use Rattle.wl_agent.specs.SnapshotParts.{no_parts}
use Rattle.wl_library_model.specs.Library.{Library, Step, Opens, Closes, Restarts, Stops, HubReceives, HubAdvances, HubSends, Asks, Queries, Aborts, Releases, Resends, OpensChannel, Posts, Reads, ClosesChannel, TakesEvent, ClientReceives, ClientAdvances, ClientSends, TakesOver, Forges, step}
use Rattle.wl_quiescence.proofs.rest.Invariant.{frames_down, IsResting}
use Rattle.wl_quiescence.proofs.rest.Steps.{take_event-same, open_channel-same, hub_receive-same, client_receive-same, read-same, close_channel-same, take_over-same}
use Rattle.wl_quiescence.proofs.client.Kept.{IsHeeding}
use Rattle.wl_quiescence.proofs.client.Frames.{joined-entered}
use Rattle.wl_quiescence.proofs.Reached.{IsReached, reached-next, world_of, reached-sim}
use Rattle.wl_quiescence.proofs.Known.{joined-welcomed}
use Rattle.wl_quiescence.proofs.OfEach.{OfEach, AreLocks, IsUnheard}
use Rattle.wl_quiescence.proofs.heeds.Agrees.{parts-away}
use Rattle.wl_quiescence.proofs.heeds.Advances.{hub_advance-heeds}
use Rattle.wl_quiescence.proofs.heeds.Calls.{same-heeds, ask-heeds, query-heeds, abort-heeds, release-heeds, post-heeds, resend-heeds, forge-heeds, send-heeds, client_advance-heeds}
use Rattle.wl_quiescence.proofs.heeds.Hub.{open-heeds, close-heeds, restart-heeds, stop-heeds, hub_send-heeds}

pub heeds : (l : Library) (y : Step) → IsReached l → IsResting l → OfEach l (AreLocks l) → IsHeeding l → IsHeeding (step y l)
heeds l (Opens t page is_pair) r x o h = open-heeds l r t page is_pair x h
heeds l (Closes t) r x o h = close-heeds l t h
heeds l Restarts r x o h = restart-heeds l r x h
heeds l Stops r x o h = stop-heeds l h
heeds l (HubReceives t n) r x o h = same-heeds l (step (HubReceives t n) l) (hub_receive-same l t n) h
heeds l HubAdvances r x o h = hub_advance-heeds l r x o h (reached-next l HubAdvances r)
heeds l HubSends r x o h = hub_send-heeds l r h
heeds l (Asks t mode b name) r x o h = ask-heeds l t x h mode b name (reached-next l (Asks t mode b name) r)
heeds l (Queries t) r x o h = query-heeds l t x h (reached-next l (Queries t) r)
heeds l (Aborts t j) r x o h = abort-heeds l t x h j (reached-next l (Aborts t j) r)
heeds l (Releases t j) r x o h = release-heeds l t x h j (reached-next l (Releases t j) r)
heeds l (Resends t) r x o h = resend-heeds l t x h
heeds l (OpensChannel t name) r x o h = same-heeds l (step (OpensChannel t name) l) (open_channel-same l t name) h
heeds l (Posts t j bytes) r x o h = post-heeds l t x h j bytes
heeds l (Reads t j) r x o h = same-heeds l (step (Reads t j) l) (read-same l t j) h
heeds l (ClosesChannel t j) r x o h = same-heeds l (step (ClosesChannel t j) l) (close_channel-same l t j) h
heeds l (TakesEvent t) r x o h = same-heeds l (step (TakesEvent t) l) (take_event-same l t) h
heeds l (ClientReceives t n) r x o h = same-heeds l (step (ClientReceives t n) l) (client_receive-same l t n) h
heeds l (ClientAdvances t) r x o h = client_advance-heeds l t x h r (reached-next l (ClientAdvances t) r)
heeds l (ClientSends t) r x o h = send-heeds l t x h
heeds l (TakesOver t) r x o h = same-heeds l (step (TakesOver t) l) (take_over-same l t) h
heeds l (Forges t f) r x o h = forge-heeds l t x h f

pub unheard : (l : Library) → IsReached l → IsResting l → IsHeeding l → OfEach l (IsUnheard l)
unheard l r x h b t up run joined k le q =
    let w = world_of l r in
    let s = reached-sim l r in
    let o = h b t up run in (
      o.unheard (joined-entered l w t s (joined-welcomed l w t s b run up joined) b run up joined) k le q,
      parts-away b.generation k (frames_down l t) no_parts (λ y i g f. let lt = o.snapshots y i g in omega (arith, lt, le, f)),
    )
