-- After every list of steps the library is the world after the steps' events.
use Rattle.std.proofs.Common.{◌≡◌, List, [], ◌∷◌, ◌++◌, refl, sym, subst, arith}
use Rattle.wl_draft.proofs.Membership.{apart, In-nil}
use Rattle.wl_world_model.specs.declared.event.Event.{Event}
use Rattle.wl_world_model.specs.World.{WorldState, empty_world, after_event, run}
use Rattle.wl_world_model.proofs.exclusion.SoundRuns.{run-sound}
use Rattle.wl_library_model.specs.Library.{Library, Step, Opens, Closes, Restarts, Stops, HubReceives, HubAdvances, HubSends, Asks, Queries, Aborts, Releases, Resends, OpensChannel, Posts, Reads, ClosesChannel, TakesEvent, ClientReceives, ClientAdvances, ClientSends, TakesOver, Forges, new_library, step, run_steps}
use Rattle.wl_library_model.specs.Events.{events_of, events_from, events}
use Rattle.wl_library_model.specs.Simulation.{IsRunOfItsEvents}
use Rattle.wl_library_model.proofs.Happens.{empty-fit}
use Rattle.wl_library_model.proofs.Carried.{Sim}
use Rattle.wl_library_model.proofs.Hubs.{restart-sim, stop-sim}
use Rattle.wl_library_model.proofs.Frames.{advance-sim}
use Rattle.wl_library_model.proofs.Openings.{open-sim, close-sim, take-sim}
use Rattle.wl_library_model.proofs.Links.{hub_receives-sim, hub_sends-sim, client_receives-sim, client_sends-sim, forges-sim}
use Rattle.wl_library_model.proofs.Moves.{ask-sim, query-sim, abort-sim, release-sim}
use Rattle.wl_library_model.proofs.ChannelCalls.{resend-sim, take_event-sim, open_channel-sim, post-sim, read-sim, close_channel-sim}
use Rattle.wl_library_model.proofs.Arrivals.{client_advances-sim}

pub step-sim : (l : Library) (w : WorldState) (x : Step) → Sim l w → Sim (step x l) (run (events_of l x) w)
unfolding step events_of
step-sim l w (Opens t page is_pair) s = open-sim l w t page is_pair s
step-sim l w (Closes t) s = close-sim l w t s
step-sim l w Restarts s = restart-sim l w s
step-sim l w Stops s = stop-sim l w s
step-sim l w (HubReceives t n) s = hub_receives-sim l w t n s
step-sim l w HubAdvances s = advance-sim l w s
step-sim l w HubSends s = hub_sends-sim l w l.hub.outputs s refl
step-sim l w (Asks t mode if_available name) s = ask-sim l w t mode if_available name s
step-sim l w (Queries t) s = query-sim l w t s
step-sim l w (Aborts t k) s = abort-sim l w t k s
step-sim l w (Releases t k) s = release-sim l w t k s
step-sim l w (Resends t) s = resend-sim l w t s
step-sim l w (OpensChannel t name) s = open_channel-sim l w t name s
step-sim l w (Posts t k bytes) s = post-sim l w t k bytes s
step-sim l w (Reads t k) s = read-sim l w t k s
step-sim l w (ClosesChannel t k) s = close_channel-sim l w t k s
step-sim l w (TakesEvent t) s = take_event-sim l w t s
step-sim l w (ClientReceives t n) s = client_receives-sim l w t n s
step-sim l w (ClientAdvances t) s = client_advances-sim l w t s
step-sim l w (ClientSends t) s = client_sends-sim l w t s
step-sim l w (TakesOver t) s = take-sim l w t s
step-sim l w (Forges t f) s = forges-sim l w t f s

pub run-append : (xs ys : List Event) (w : WorldState) → run (xs ++ ys) w ≡ run ys (run xs w)
run-append [] ys w = refl
run-append (x ∷ xs) ys w = run-append xs ys (after_event w x)

pub steps-sim : (xs : List Step) (l : Library) (w : WorldState) → Sim l w → Sim (run_steps xs l) (run (events_from l xs) w)
steps-sim [] l w s = s
steps-sim (x ∷ xs) l w s =
    subst (Sim (run_steps xs (step x l))) (sym (run-append (events_of l x) (events_from (step x l) xs) w))
    (steps-sim xs (step x l) (run (events_of l x) w) (step-sim l w x s))

pub empty-sim : Sim new_library empty_world
empty-sim = record {
  good = record { sound = run-sound []; fit = empty-fit };
  hub = record { kernel = refl; broker = refl; outputs = λ t f j. absurd (In-nil j); arrived = λ y f j. absurd (In-nil j); early = λ t j. absurd (In-nil j) };
  lines = λ t. record {
    client = record { welcomed = λ y. apart y refl; unwelcomed = λ n. refl; unentered = λ n. refl };
    down = λ f j. absurd (In-nil j);
    came = λ f j. absurd (In-nil j);
    up = λ h f j. absurd (In-nil j);
    report = λ h f j. absurd (In-nil j);
    posts = λ h f j. absurd (In-nil j);
  };
  taken = refl;
  known = λ t. record { commands = λ lt. absurd (omega arith); report = λ lt. absurd (omega arith) };
}

pub run-sim : (steps : List Step) → Sim (run_steps steps new_library) (run (events steps) empty_world)
run-sim steps = steps-sim steps new_library empty_world empty-sim

pub is-run_of_its_events : IsRunOfItsEvents
is-run_of_its_events steps = let s = run-sim steps in record { hub = s.hub; lines = s.lines; taken = s.taken }
