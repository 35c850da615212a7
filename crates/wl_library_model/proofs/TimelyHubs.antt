-- The hub opens and closes tabs only in the calls for it.
use Rattle.std.proofs.Common.{◌≡◌, ℕ, List, [], ◌∷◌, Option, Some, None, is_some, refl, ◌∙◌}
use Rattle.wl_draft.proofs.Membership.{either}
use Rattle.wl_grammar.specs.declared.frame.Frame.{Frame}
use Rattle.wl_grammar.specs.declared.frame.Frame.TheVariants as frame
use Rattle.wl_grammar.specs.declared.frame.Stamped.{Stamped}
use Rattle.wl_broker.specs.Broker.{BrokerState, Taking, Drops, Does, taking}
use Rattle.wl_kernel.specs.Kernel.{KernelState, OpenedTab, living_tabs}
use Rattle.wl_kernel.specs.Routes.{route_up_refusal, routed_up}
use Rattle.wl_kernel.specs.declared.routes.Routed.{Routed}
use Rattle.wl_kernel.specs.declared.routes.Routed.TheVariants.{Broker, Tabs}
use Rattle.wl_supervised_broker.specs.Changes.{Change, stop_change, start_change, message_change, taking_change, death_change}
use Rattle.wl_supervised_broker.specs.SupervisedStates.{SupervisedState, is_active_for, changed}
use Rattle.wl_hub.specs.Early.{greeted_next}
use Rattle.wl_hub.specs.Hub.{HubState, Step, routed_step, after_first, greeted, postponing, after_greeting, after_told, advanced, hub_stopped, hub_down, hub_restarted}

abbrev tabs_of : SupervisedState → List OpenedTab
tabs_of s = s.kernel.opened

changed-tabs : (c : Change) (s : SupervisedState) → c.kernel.opened ≡ s.kernel.opened → tabs_of (changed c s) ≡ tabs_of s
changed-tabs c s e = either (λ z. tabs_of z ≡ tabs_of s) c.happens (record { kernel = c.kernel; broker = c.broker }) s (λ _. e) (λ _. refl)

message-tabs : (x : Stamped) (k : KernelState) (o : Option BrokerState) → (message_change x k o).kernel.opened ≡ k.opened
message-tabs x k None = refl
message-tabs x k (Some b) = go (taking b x)
  where
    go : (d : Taking) → (taking_change k d).kernel.opened ≡ k.opened
    go (Drops reason) = refl
    go (Does c outs) = refl

death-tabs : (t : ℕ) (k : KernelState) (o : Option BrokerState) → (death_change t k o).kernel.opened ≡ k.opened
death-tabs t k None = refl
death-tabs t k (Some b) = refl

stop-tabs : (k : KernelState) (o : Option BrokerState) → (stop_change k o).kernel.opened ≡ k.opened
stop-tabs k None = refl
stop-tabs k (Some b) = refl

start-tabs : (ts : List ℕ) (k : KernelState) (o : Option BrokerState) → (start_change ts k o).kernel.opened ≡ k.opened
start-tabs ts k None = refl
start-tabs ts k (Some b) = refl

routed-tabs : (r : Routed) (s : SupervisedState) → tabs_of (routed_step r s).supervised ≡ tabs_of s
routed-tabs (Tabs heard) s = refl
routed-tabs (Broker (frame.Stamped x)) s = changed-tabs (message_change x s.kernel s.broker) s (message-tabs x s.kernel s.broker)
routed-tabs (Broker f) s = refl

first-tabs : (h : HubState) (fs : List Frame) → tabs_of (after_first h fs).supervised ≡ tabs_of h.supervised
first-tabs h [] = refl
first-tabs h (f ∷ fs) =
    either (λ (x : Step). tabs_of x.supervised ≡ tabs_of h.supervised) (is_some (route_up_refusal h.sender f h.supervised.kernel)) (routed_step (Tabs []) h.supervised) (routed_step (routed_up h.sender f h.supervised.kernel) h.supervised)
    (λ _. refl)
    (λ _. routed-tabs (routed_up h.sender f h.supervised.kernel) h.supervised)

greeting-tabs : (h : HubState) (o : Option ℕ) → tabs_of (after_greeting h o).supervised ≡ tabs_of h.supervised
greeting-tabs h None = first-tabs h h.arrived
greeting-tabs h (Some t) = either (λ z. tabs_of z.supervised ≡ tabs_of h.supervised) (is_active_for t h.supervised) (greeted t h) (postponing h) (λ _. refl) (λ _. refl)

told-tabs : (h : HubState) (ts : List ℕ) → tabs_of (after_told h ts).supervised ≡ tabs_of h.supervised
told-tabs h [] = greeting-tabs h (greeted_next h.greetings h.early)
told-tabs h (t ∷ ts) = changed-tabs (death_change t h.supervised.kernel h.supervised.broker) h.supervised (death-tabs t h.supervised.kernel h.supervised.broker)

pub advanced-tabs : (h : HubState) → tabs_of (advanced h).supervised ≡ tabs_of h.supervised
advanced-tabs h = either (λ (z : HubState). tabs_of z.supervised ≡ tabs_of h.supervised) (is_some h.supervised.broker) (after_told h h.untold) (after_first h h.arrived) (λ _. told-tabs h h.untold) (λ _. first-tabs h h.arrived)

pub down-tabs : (h : HubState) → tabs_of (hub_down h).supervised ≡ tabs_of h.supervised
down-tabs h =
    either (λ (z : HubState). tabs_of z.supervised ≡ tabs_of h.supervised) (is_some h.supervised.broker) (hub_stopped h) h
    (λ _. changed-tabs (stop_change h.supervised.kernel h.supervised.broker) h.supervised (stop-tabs h.supervised.kernel h.supervised.broker))
    (λ _. refl)

pub restarted-tabs : (h : HubState) → tabs_of (hub_restarted h).supervised ≡ tabs_of h.supervised
restarted-tabs h =
    let d = hub_down h in
    let ts = living_tabs d.supervised.kernel in
    changed-tabs (start_change ts d.supervised.kernel d.supervised.broker) d.supervised (start-tabs ts d.supervised.kernel d.supervised.broker) ∙ down-tabs h
