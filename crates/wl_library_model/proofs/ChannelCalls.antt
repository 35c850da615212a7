-- Calls on a client's channels, and items for its page, which change no lock.
use Rattle.std.proofs.Common.{◌≡◌, ⊎_elim, ℕ, Bool, true, false, cond, ◌&&◌, List, [], ◌∷◌, ◌++◌, Option, Some, option_map, is_some, refl, sym, ap, subst}
use Rattle.wl_draft.proofs.Membership.{either, In-one, In-append_cases}
use Rattle.wl_grammar.specs.declared.frame.Frame.{Frame}
use Rattle.wl_broadcast.specs.Channels.{ChannelState, name_at, is_open_at, closed_at, post_frame, opened, open_refusal, read_at}
use Rattle.wl_tab.specs.declared.channels.ChannelRefusal.{ChannelRefusal}
use Rattle.wl_tab.specs.declared.channels.ChannelRefusal.TheVariants.{Fault}
use Rattle.wl_tab.specs.TabChannels.{number_refusal, posting_refusal}
use Rattle.wl_client.specs.declared.client.Unsent.TheVariants as unsent
use Rattle.wl_client.specs.declared.fault.ChannelCallFault.TheVariants as call
use Rattle.wl_client.specs.Client.{ClientState, channel_refusal, with_channels, after_post, after_close}
use Rattle.wl_client.specs.Faults.{of_channel}
use Rattle.wl_world_messages.specs.declared.message.Message.{Message}
use Rattle.wl_world_model.specs.declared.event.Event.{Event}
use Rattle.wl_world_model.specs.declared.event.Event.TheVariants as event
use Rattle.wl_world_model.specs.World.{WorldState, tab_of, StepResult, unchanged, if_allowed, becomes, step_result, after_event, run}
use Rattle.wl_world_model.proofs.exclusion.Invariant.{was_opened}
use Rattle.wl_library_model.specs.Library.{Library, Line, with_line, client_of, runs, calls, unless, resends, opens_channel, posts, reads, takes_event}
use Rattle.wl_library_model.specs.Events.{call_events}
use Rattle.wl_library_model.specs.Simulation.{IsOnItsWayUp, IsLineOf}
use Rattle.wl_library_model.proofs.Happens.{Good}
use Rattle.wl_library_model.proofs.Carried.{Sim, line-later, known-later}
use Rattle.wl_library_model.proofs.Hubs.{still-event}
use Rattle.wl_library_model.proofs.Links.{line-sim, runs-opened}
use Rattle.wl_library_model.proofs.Moves.{Moved, moved-sim, call-sim}

-- Lines whose client has the same locks

abbrev pub LikeLine : WorldState → ℕ → Line → ClientState → Type 0
LikeLine w t x c = IsLineOf w t (record x { client = c })

unless-line : {F : Type 0} → (w : WorldState) (t : ℕ) (x : Line) (r : Option F) (d : ClientState) → IsLineOf w t x → LikeLine w t x d → LikeLine w t x (unless r x.client d)
unless-line w t x r d i j = either (LikeLine w t x) (is_some r) x.client d (λ _. i) (λ _. j)

channels-line : (w : WorldState) (t : ℕ) (x : Line) (cs : ChannelState) → IsLineOf w t x → LikeLine w t x (with_channels cs x.client)
channels-line w t x cs i =
    let c = i.client in
    record {
      client = record { welcomed = c.welcomed; unwelcomed = c.unwelcomed; unentered = c.unentered };
      down = i.down;
      came = i.came;
      up = i.up;
      report = i.report;
      posts = i.posts;
    }

resend-line : (w : WorldState) (t : ℕ) (x : Line) → IsLineOf w t x → LikeLine w t x (record x.client { unsent = x.client.unsent ++ unsent.Resend ∷ [] })
resend-line w t x i =
    let c = i.client in
    record {
      client = record { welcomed = c.welcomed; unwelcomed = c.unwelcomed; unentered = c.unentered };
      down = i.down;
      came = i.came;
      up = i.up;
      report = i.report;
      posts = λ h f j. ⊎_elim (λ a. i.posts h f a) (λ a. absurd (other f (In-one a))) (In-append_cases x.client.unsent (unsent.Resend ∷ []) j);
    }
  where
    other : (f : Frame) → unsent.Post f ≡ unsent.Resend → ⊥
    other f e = cc

post-line : (w : WorldState) (t : ℕ) (x : Line) (k : ℕ) (bytes : List ℕ) → was_opened w t ≡ true → IsLineOf w t x → LikeLine w t x (after_post k bytes x.client)
post-line w t x k bytes o i =
    let c = i.client in
    let g = post_frame x.client.channels.posts (name_at x.client.channels.objects k) bytes in
    record {
      client = record { welcomed = c.welcomed; unwelcomed = c.unwelcomed; unentered = c.unentered };
      down = i.down;
      came = i.came;
      up = i.up;
      report = i.report;
      posts = λ h f j. ⊎_elim (λ a. i.posts h f a) (λ a. subst (IsOnItsWayUp w t) (sym (same f g (In-one a))) (o, tt)) (In-append_cases x.client.unsent (unsent.Post g ∷ []) j);
    }
  where
    same : (f g : Frame) → unsent.Post f ≡ unsent.Post g → f ≡ g
    same f g e = cc

-- Steps without an event

pub resend-sim : (l : Library) (w : WorldState) (t : ℕ) → Sim l w → Sim (calls t resends l) w
resend-sim l w t s =
    let x = l.lines t in
    either (λ z. Sim z w) (runs l t) (with_line t (record x { client = resends x.client }) l) l
    (λ _. line-sim l w t (record x { client = resends x.client }) s (unless-line w t x _ (record x.client { unsent = x.client.unsent ++ unsent.Resend ∷ [] }) (s.lines t) (resend-line w t x (s.lines t))))
    (λ _. s)

pub take_event-sim : (l : Library) (w : WorldState) (t : ℕ) → Sim l w → Sim (calls t takes_event l) w
take_event-sim l w t s =
    let x = l.lines t in
    let i = s.lines t in
    let c = i.client in
    either (λ z. Sim z w) (runs l t) (with_line t (record x { client = takes_event x.client }) l) l
    (λ _. line-sim l w t (record x { client = takes_event x.client }) s (record {
      client = record { welcomed = c.welcomed; unwelcomed = c.unwelcomed; unentered = c.unentered };
      down = i.down;
      came = i.came;
      up = i.up;
      report = i.report;
      posts = i.posts;
    }))
    (λ _. s)

-- Events of channels

-- Kernel, broker and tabs are the same.
pub record KeepsAll (w : WorldState) (d : StepResult) : Type 0 where
  pub tabs : d.world.tabs ≡ w.tabs
  pub corrupt : d.world.corrupt ≡ w.corrupt
  pub kernel : d.world.kernel ≡ w.kernel
  pub broker : d.world.broker ≡ w.broker

pub keeps_all-allowed : (w : WorldState) (b : Bool) (d : StepResult) → KeepsAll w d → KeepsAll w (if_allowed b w d)
keeps_all-allowed w b d k = either (KeepsAll w) b d (unchanged w) (λ _. k) (λ _. record { tabs = refl; corrupt = refl; kernel = refl; broker = refl })

pub keeps_all-becomes : (w : WorldState) (t : ℕ) (c : ChannelState) (ms : List Message) → KeepsAll w (becomes w t c ms)
unfolding becomes
keeps_all-becomes w t c ms = record { tabs = refl; corrupt = refl; kernel = refl; broker = refl }

-- An event that keeps them all.
pub kept-moved : (w : WorldState) (t : ℕ) (e : Event) → Good w → KeepsAll w (step_result w e) → Moved w (after_event w e) t (tab_of w t)
unfolding after_event
kept-moved w t e g k =
    let x = still-event w e g (k.tabs, k.corrupt) in
    record { later = x.later; good = x.good; kernel = k.kernel; broker = k.broker; corrupt = k.corrupt; tab = x.tabs t; others = λ u d. x.tabs u }

pub kept-sim : (l : Library) (w : WorldState) (t : ℕ) (e : Event) (y : Line) → Sim l w → KeepsAll w (step_result w e) → IsLineOf w t y → Sim (with_line t y l) (after_event w e)
kept-sim l w t e y s k i =
    let m = kept-moved w t e s.good k in
    moved-sim l w (after_event w e) t (tab_of w t) y s m (line-later w (after_event w e) s.good m.later t y m.tab i) (known-later w (after_event w e) s.good m.later t m.tab (s.known t))

channel_uncalled : (r : Option ChannelRefusal) (c d : ClientState) → c.is_welcomed ≡ false → unless (channel_refusal r c) c d ≡ c
channel_uncalled r c d n = ap (λ z. cond (is_some (cond z (option_map of_channel r) (Some call.NotWelcomed))) c d) n

open_channel-keeps : (w : WorldState) (t : ℕ) (name : List ℕ) → KeepsAll w (step_result w (event.Channel t name))
unfolding step_result
open_channel-keeps w t name = keeps_all-allowed w _ _ (keeps_all-becomes w t _ _)

post-keeps : (w : WorldState) (t k : ℕ) (bytes : List ℕ) → KeepsAll w (step_result w (event.Post t k bytes))
unfolding step_result
post-keeps w t k bytes = keeps_all-allowed w _ _ (keeps_all-becomes w t _ _)

read-keeps : (w : WorldState) (t k : ℕ) → KeepsAll w (step_result w (event.Read t k))
unfolding step_result
read-keeps w t k = keeps_all-allowed w _ _ (keeps_all-becomes w t _ _)

close-keeps : (w : WorldState) (t k : ℕ) → KeepsAll w (step_result w (event.Close t k))
unfolding step_result
close-keeps w t k = keeps_all-allowed w _ _ (keeps_all-becomes w t _ _)

pub open_channel-sim : (l : Library) (w : WorldState) (t : ℕ) (name : List ℕ) → Sim l w → Sim (calls t (opens_channel name) l) (run (call_events l t (event.Channel t name)) w)
open_channel-sim l w t name s =
    call-sim l w t (opens_channel name) (event.Channel t name) s
    (λ n. channel_uncalled (option_map Fault (open_refusal name (client_of l t).channels)) (client_of l t) (with_channels (opened name (client_of l t).channels) (client_of l t)) n)
    (λ r y. kept-sim l w t (event.Channel t name) (record (l.lines t) { client = opens_channel name (client_of l t) }) s (open_channel-keeps w t name)
    (unless-line w t (l.lines t) _ (with_channels (opened name (client_of l t).channels) (client_of l t)) (s.lines t) (channels-line w t (l.lines t) _ (s.lines t))))

pub post-sim : (l : Library) (w : WorldState) (t k : ℕ) (bytes : List ℕ) → Sim l w → Sim (calls t (posts k bytes) l) (run (call_events l t (event.Post t k bytes)) w)
post-sim l w t k bytes s =
    call-sim l w t (posts k bytes) (event.Post t k bytes) s
    (λ n. channel_uncalled (posting_refusal k bytes (client_of l t).channels) (client_of l t) (after_post k bytes (client_of l t)) n)
    (λ r y. kept-sim l w t (event.Post t k bytes) (record (l.lines t) { client = posts k bytes (client_of l t) }) s (post-keeps w t k bytes)
    (unless-line w t (l.lines t) _ (after_post k bytes (client_of l t)) (s.lines t) (post-line w t (l.lines t) k bytes (runs-opened l w t s r) (s.lines t))))

pub read-sim : (l : Library) (w : WorldState) (t k : ℕ) → Sim l w → Sim (calls t (reads k) l) (run (call_events l t (event.Read t k)) w)
read-sim l w t k s =
    call-sim l w t (reads k) (event.Read t k) s
    (λ n. channel_uncalled (number_refusal k (client_of l t).channels) (client_of l t) (with_channels (read_at k (client_of l t).channels) (client_of l t)) n)
    (λ r y. kept-sim l w t (event.Read t k) (record (l.lines t) { client = reads k (client_of l t) }) s (read-keeps w t k)
    (unless-line w t (l.lines t) _ (with_channels (read_at k (client_of l t).channels) (client_of l t)) (s.lines t) (channels-line w t (l.lines t) _ (s.lines t))))

pub close_channel-sim : (l : Library) (w : WorldState) (t k : ℕ) → Sim l w → Sim (calls t (after_close k) l) (run (call_events l t (event.Close t k)) w)
close_channel-sim l w t k s =
    let c = client_of l t in
    let d = with_channels (closed_at k c.channels) c in
    call-sim l w t (after_close k) (event.Close t k) s
    (λ n. ap (λ z. cond (z && is_open_at c.channels.objects k) d c) n)
    (λ r y. kept-sim l w t (event.Close t k) (record (l.lines t) { client = after_close k c }) s (close-keeps w t k)
    (either (LikeLine w t (l.lines t)) (c.is_welcomed && is_open_at c.channels.objects k) d c (λ _. channels-line w t (l.lines t) (closed_at k c.channels) (s.lines t)) (λ _. s.lines t)))
