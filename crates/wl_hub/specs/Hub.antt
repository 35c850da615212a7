-- The hub: the kernel with its broker, the frames that tabs have sent, and the frames for tabs.
use Rattle.std.specs.Prelude.{◌≡◌, ℕ, List, [], ◌∷◌, ◌++◌, Bool, ◌==◌, nat_eq, length, map, Option, Some, None, is_some, option_map, Result, Ok, Err, if◌then◌else◌}
use Rattle.indexmap.specs.IndexMap.{insert_entry, swap_remove_entry}
use Rattle.wl_limits.specs.declared.brokers.TheConstants.{LAST_GENERATION}
use Rattle.wl_origin.specs.declared.fault.OriginFault.{OriginFault}
use Rattle.wl_origin.specs.Order.{Pair}
use Rattle.wl_grammar.specs.declared.frame.Frame.{Frame}
use Rattle.wl_grammar.specs.declared.frame.Frame.TheVariants as frame
use Rattle.wl_grammar.specs.declared.frame.Addressed.{Addressed}
use Rattle.wl_frames.specs.Stream.{Feeding, at_start, Decodes}
use Rattle.std.specs.Map.{lookup}
use Rattle.wl_frames.specs.declared.fault.FrameFault.{FrameFault}
use Rattle.wl_kernel.specs.Kernel.{no_tabs, open_refusal, opened, killed, living_tabs}
use Rattle.wl_kernel.specs.Routes.{routed_up, route_up_refusal, frame_of}
use Rattle.wl_kernel.specs.Welcome.{texts_of, welcome}
use Rattle.wl_kernel.specs.declared.fault.RouteFault.{RouteFault}
use Rattle.wl_kernel.specs.declared.routes.Routed.{Routed}
use Rattle.wl_hub.specs.declared.fault.OpenRefusal.{OpenRefusal}
use Rattle.wl_hub.specs.declared.fault.OpenRefusal.TheVariants.{Origin, Tab}
use Rattle.wl_hub.specs.declared.hub.HubStatus.{HubStatus}
use Rattle.wl_hub.specs.declared.receiving.Progress.{Progress}
use Rattle.wl_hub.specs.declared.receiving.Progress.TheVariants.{Idle, Told, Greeted, Postponed, Handled, Refused}
use Rattle.wl_hub.specs.declared.receiving.Verdict.{Verdict}
use Rattle.wl_hub.specs.declared.receiving.Verdict.TheVariants.{Other}
use Rattle.wl_hub.specs.Early.{verdict_of, noted, without_tab, greeted_next, rest_after, postponed}
use Rattle.wl_supervised_broker.specs.Supervising.{message_effect}
use Rattle.wl_kernel.specs.declared.routes.Routed.TheVariants.{Broker, Tabs}
use Rattle.wl_supervised_broker.specs.SupervisedStates.{SupervisedState, is_active_for, without_broker, with_kernel, after_message, frames_after_message, after_death, frames_at_death, after_stop, after_start, frames_at_start}

pub record HubState : Type 0 where
  pub supervised : SupervisedState
  pub feeds : List (ℕ × Feeding)  -- what each living tab has sent of an unfinished frame
  pub untold : List ℕ  -- dead tabs of which the broker was not told
  pub sender : ℕ  -- the tab that sent the arrived frames
  pub arrived : List Frame  -- frames that the hub has still to handle
  pub early : List ℕ  -- tabs whose commands the broker dropped, since their partition recovered
  pub greetings : ℕ  -- how many of these, from the front, may be due for a greeting
  pub outputs : List (ℕ × Frame)  -- each with its tab, oldest first

abbrev pub new_hub : HubState
new_hub = record {
  supervised = without_broker (no_tabs LAST_GENERATION);
  feeds = [];
  untold = [];
  sender = 0;
  arrived = [];
  early = [];
  greetings = 0;
  outputs = [];
}

-- Outputs

-- The frames that the broker sends, each with its tab.
abbrev pub from_broker : List Addressed → List (ℕ × Frame)
from_broker outs = map (λ a. (a.tab, frame_of a.inner)) outs

abbrev pub sends : List (ℕ × Frame) → HubState → HubState
sends outs h = record h { outputs = h.outputs ++ outs }

-- Tabs

-- The kernel tells a new tab the generation of the broker that is up.
abbrev pub greeting : ℕ → SupervisedState → List (ℕ × Frame)
greeting t s = if is_some s.broker then (t, frame.Hello (record { generation = s.kernel.generation })) ∷ [] else []

-- A tab opens in the kernel's table. It is sent its welcome and a greeting.
abbrev pub hub_opened : ℕ → Pair → Bool → HubState → HubState
hub_opened t p is_pair h =
    let texts = texts_of p is_pair in
    sends ((t, welcome t texts.top texts.own) ∷ greeting t h.supervised)
    (record h { supervised = with_kernel (opened t p h.supervised.kernel) h.supervised; feeds = insert_entry nat_eq h.feeds t at_start })

-- A page whose URLs give this partition, or none for a fault, opens as a tab.
abbrev pub page_refusal : ℕ → Result Pair OriginFault → HubState → Option OpenRefusal
page_refusal t (Err f) h = Some (Origin f)
page_refusal t (Ok p) h = option_map Tab (open_refusal t p h.supervised.kernel)

abbrev pub page_opened : ℕ → Result Pair OriginFault → Bool → HubState → HubState
page_opened t (Err f) is_pair h = h
page_opened t (Ok p) is_pair h = hub_opened t p is_pair h

-- The frames of a dead tab are not handled.
abbrev pub without_sender : ℕ → HubState → HubState
without_sender t h = if h.sender == t then record h { arrived = [] } else h

-- A tab dies, and is not early any more. The broker is told later.
abbrev pub hub_closed : ℕ → HubState → HubState
hub_closed t h =
    without_sender t (record h {
      supervised = with_kernel (killed t h.supervised.kernel) h.supervised;
      feeds = swap_remove_entry (nat_eq t) h.feeds;
      untold = h.untold ++ t ∷ [];
      early = without_tab t h.early;
    })

-- Events of the kernel and its broker

-- The supervisor after an event, the frames that are sent, and the broker's answer to the sender's frame.
pub record Step : Type 0 where
  pub supervised : SupervisedState
  pub sent : List (ℕ × Frame)
  pub verdict : Verdict

-- The broker takes a stamped frame, and other tabs receive a post.
abbrev pub routed_step : Routed → SupervisedState → Step
routed_step (Tabs heard) s = record { supervised = s; sent = heard; verdict = Other }
routed_step (Broker (frame.Stamped x)) s = record {
  supervised = after_message x s;
  sent = from_broker (frames_after_message x s);
  verdict = verdict_of (is_active_for x.tab (after_message x s)) (message_effect x s.broker);
}
routed_step (Broker f) s = record { supervised = s; sent = []; verdict = Other }

-- The kernel routes a tab's frame. It drops a frame that it refuses.
abbrev pub frame_step : ℕ → Frame → SupervisedState → Step
frame_step t f s =
    if is_some (route_up_refusal t f s.kernel) then record { supervised = s; sent = []; verdict = Other } else routed_step (routed_up t f s.kernel) s

-- The broker hears of a death.
abbrev pub told_step : ℕ → SupervisedState → Step
told_step t s = record { supervised = after_death t s; sent = from_broker (frames_at_death t s); verdict = Other }

abbrev pub stepped : Step → HubState → HubState
stepped x h = record h { supervised = x.supervised; outputs = h.outputs ++ x.sent }

-- A partition may become active when a tab joins or a death is told. Then the early tabs of active partitions are greeted.
abbrev pub with_verdict : Verdict → ℕ → HubState → HubState
with_verdict v t h = let r = noted v t h.early h.greetings in record h { early = r.0; greetings = r.1 }

-- The oldest arrived frame is handled.
abbrev pub after_first : HubState → List Frame → HubState
after_first h [] = h
after_first h (f ∷ fs) =
    let x = frame_step h.sender f h.supervised in
    with_verdict x.verdict h.sender (stepped x (record h { arrived = fs }))

-- An early tab is greeted.
abbrev pub greeted : ℕ → HubState → HubState
greeted t h =
    let r = rest_after h.greetings h.early in
    sends ((t, frame.Hello (record { generation = h.supervised.kernel.generation })) ∷ [])
    (record h { early = r.0; greetings = r.1 })

abbrev pub postponing : HubState → HubState
postponing h = let r = postponed h.greetings h.early in record h { early = r.0; greetings = r.1 }

-- The next early tab is greeted if its partition is active, and then sends its commands again. Otherwise it stays early.
abbrev pub after_greeting : HubState → Option ℕ → HubState
after_greeting h None = after_first h h.arrived
after_greeting h (Some t) =
    if is_active_for t h.supervised then greeted t h else postponing h

-- The broker hears of the oldest death that it was not told of.
abbrev pub after_told : HubState → List ℕ → HubState
after_told h [] = after_greeting h (greeted_next h.greetings h.early)
after_told h (t ∷ ts) = record (stepped (told_step t h.supervised) (record h { untold = ts })) { greetings = length h.early }

-- Deaths come first, then greetings, and then frames. A death or a greeting waits until a broker is up.
abbrev pub advanced : HubState → HubState
advanced h = if is_some h.supervised.broker then after_told h h.untold else after_first h h.arrived

-- Result of `advance`.
abbrev pub handling : Option RouteFault → Progress
handling None = Handled
handling (Some f) = Refused f

abbrev pub progress_at : HubState → List Frame → Progress
progress_at h [] = Idle
progress_at h (f ∷ fs) = handling (route_up_refusal h.sender f h.supervised.kernel)

abbrev pub progress_after : HubState → Option ℕ → Progress
progress_after h None = progress_at h h.arrived
progress_after h (Some t) = if is_active_for t h.supervised then Greeted t else Postponed t

abbrev pub progress_from : HubState → List ℕ → Progress
progress_from h [] = progress_after h (greeted_next h.greetings h.early)
progress_from h (t ∷ ts) = Told t

abbrev pub progress_of : HubState → Progress
progress_of h = if is_some h.supervised.broker then progress_from h h.untold else progress_at h h.arrived

-- Life of the broker

abbrev pub hub_stopped : HubState → HubState
hub_stopped h = record h { supervised = after_stop h.supervised }

-- The broker of the next generation starts with all living tabs.
abbrev pub hub_started : HubState → HubState
hub_started h =
    let ts = living_tabs h.supervised.kernel in
    stepped (record { supervised = after_start ts h.supervised; sent = from_broker (frames_at_start ts h.supervised); verdict = Other }) h

-- A broker that is up is stopped first.
abbrev pub hub_down : HubState → HubState
hub_down h = if is_some h.supervised.broker then hub_stopped h else h

abbrev pub hub_restarted : HubState → HubState
hub_restarted h = hub_started (hub_down h)

-- Bytes of tabs

-- The tab's decoder is given a piece. The other decoders stay the same.
pub record IsFed (t : ℕ) (piece : List ℕ) (old new : List (ℕ × Feeding)) (frames : List Frame) (fault : Option FrameFault) : Type 0 where
  pub before : Feeding
  pub after : Feeding
  pub had : lookup (nat_eq t) old ≡ Some before
  pub decodes : Decodes before after piece frames fault
  pub now : new ≡ insert_entry nat_eq old t after

-- No frame waited, and the frames of a piece have arrived from its tab.
pub record IsReceived (t : ℕ) (piece : List ℕ) (old new : HubState) (fault : Option FrameFault) : Type 0 where
  pub feeds : List (ℕ × Feeding)
  pub frames : List Frame
  pub idle : old.arrived ≡ []
  pub fed : IsFed t piece old.feeds feeds frames fault
  pub now : new ≡ record old { feeds = feeds; sender = t; arrived = frames }

-- Status

abbrev pub status_of : HubState → HubStatus
status_of h = record {
  generation = if is_some h.supervised.broker then Some h.supervised.kernel.generation else None;
  living = length (living_tabs h.supervised.kernel);
  untold = length h.untold;
  outputs = length h.outputs;
}
