-- Which events change a tab's channels, and how.
use Rattle.std.proofs.Common.{◌≡◌, ◌≢◌, ℕ, Bool, true, false, cond, not, ◌&&◌, List, [], ◌∷◌, Option, Some, None, is_some, refl, sym, ap, ◌∙◌}
use Rattle.std.specs.Prelude.{⊤}
use Rattle.std.specs.List.{AllByRecursion}
use Rattle.std.proofs.lemmas.Bool.{not-true}
use Rattle.wl_origin.specs.Order.{Pair}
use Rattle.wl_draft.proofs.Membership.{either, by_test}
use Rattle.wl_draft.proofs.TableLemmas.{find-put_same, find-put_other}
use Rattle.wl_grammar.specs.declared.frame.Frame.TheVariants as frame
use Rattle.wl_grammar.specs.declared.frame.Heard.{Heard}
use Rattle.wl_grammar.specs.declared.frame.Stamped.{Stamped}
use Rattle.wl_broker.specs.Broker.{BrokerState, Taking, Drops, Does, taking}
use Rattle.wl_broadcast.specs.Channels.{ChannelState, no_channels, open_refusal as channel_refusal, opened as channel_opened, post_refusal, posted, is_own as is_own_channel, read_at, closed_at, after_hearing}
use Rattle.wl_broadcast.specs.Heard.{Call}
use Rattle.wl_broadcast.specs.Heard.{Opens as OpensOne, Posts as PostsOn, Reads as ReadsFrom, Closes as ClosesOne, Hears, step as channel_step}
use Rattle.wl_kernel.specs.Kernel.{is_opened, open_refusal, opened, may_stop, start_refusal}
use Rattle.wl_tab.specs.Tabs.{channels_in}
use Rattle.wl_world_messages.specs.declared.message.Message.{Message}
use Rattle.wl_world_messages.specs.declared.message.Message.TheVariants.{Up, Down, Across}
use Rattle.wl_world_messages.specs.Messages.{is_sent}
use Rattle.wl_world_model.specs.declared.event.Event.{Event}
use Rattle.wl_world_model.specs.declared.event.Event.TheVariants as event
use Rattle.wl_world_model.specs.World.{WorldState, empty_world, channels_of, lives, StepResult, unchanged, if_allowed, acts, becomes, with_kernel, with_rows, opens_as, arrives_at_broker, arrives, tells, stops, starts, greets, step_result, after_event, run}
use Rattle.wl_world_model.proofs.AtBroker.{follows, buries, begins}
use Rattle.wl_world_model.proofs.Tables.{each_found}
use Rattle.wl_world_model.proofs.exclusion.ActsWithinAGeneration.{after}
use Rattle.wl_world_model.proofs.exclusion.OpeningAndKilling.{not_opened}
use Rattle.wl_world_model.proofs.heard.ChannelSteps.{Owned, happens-owned}

-- Events that change no channel

abbrev Still : WorldState → StepResult → Type 0
Still w d = (t : ℕ) → channels_of d.world t ≡ channels_of w t

still-allowed : (w : WorldState) (b : Bool) (d : StepResult) → Still w d → Still w (if_allowed b w d)
still-allowed w b d f = either (Still w) b d (unchanged w) (λ _. f) (λ _ t. refl)

-- The event is no call on a channel and brings no post.
abbrev pub IsSilent : Event → Type 0
IsSilent (event.Channel t name) = ⊥
IsSilent (event.Post t k bytes) = ⊥
IsSilent (event.Read t k) = ⊥
IsSilent (event.Close t k) = ⊥
IsSilent (event.Deliver (Across t h)) = ⊥
IsSilent e = ⊤

still-follows : (w : WorldState) (o : Taking) → Still w (follows w o)
still-follows w (Drops reason) t = refl
still-follows w (Does b outs) t = refl

still-up : (w : WorldState) (x : Stamped) (v : Option BrokerState) → Still w (arrives_at_broker w x v)
still-up w x None t = refl
still-up w x (Some b) t = still-follows w (taking b x) t

still-tells : (w : WorldState) (u : ℕ) (v : Option BrokerState) → Still w (tells w u v)
still-tells w u None t = refl
still-tells w u (Some b) t = still-allowed w (is_opened w.kernel u && not (lives w u)) (buries w u b) (λ n. refl) t

still-stops : (w : WorldState) (v : Option BrokerState) → Still w (stops w v)
still-stops w None t = refl
still-stops w (Some b) t = still-allowed w (may_stop w.kernel) _ (λ n. refl) t

still-starts : (w : WorldState) (ts : List ℕ) (v : Option BrokerState) → Still w (starts w ts v)
still-starts w ts (Some b) t = refl
still-starts w ts None t = still-allowed w (not (is_some (start_refusal ts w.kernel))) (begins w ts) (λ n. refl) t

still-greets : (w : WorldState) (u : ℕ) (v : Option BrokerState) → Still w (greets w u v)
still-greets w u None t = refl
still-greets w u (Some b) t = still-allowed w (lives w u) _ (λ n. refl) t

still-opens : (i : Bool) (w : WorldState) (u : ℕ) (p : Pair) → Owned w → Still w (opens_as i w u p)
still-opens i w u p own =
    either (Still w) (not (is_some (open_refusal u p w.kernel))) (with_kernel (opened u p w.kernel) (with_rows i u w)) (unchanged w)
    (λ n. each_found (λ t o. channels_in t o ≡ channels_of w t) u (no_channels u) w.channels (sym (own.unopened u (not_opened w.kernel u p (not-true _ n)))) (λ t d. refl))
    (λ _ t. refl)

still-comes : (w : WorldState) (m : Message) → IsSilent (event.Deliver m) → Still w (arrives w m)
unfolding acts
still-comes w (Up x) s = still-up w x w.broker
still-comes w (Down v x) s = still-allowed w (lives w x.tab) _ (λ t. refl)
still-comes w (Across t h) s = absurd s

pub still-channels : (w : WorldState) (e : Event) → Owned w → IsSilent e → (t : ℕ) → channels_of (after_event w e) t ≡ channels_of w t
unfolding after_event step_result acts
still-channels w (event.Open u p) own s t = still-opens false w u p own t
still-channels w (event.OpenTwo u p) own s t = still-opens true w u p own t
still-channels w (event.Ask u mode name) own s t = still-allowed w _ _ (λ n. refl) t
still-channels w (event.Probe u mode name) own s t = still-allowed w _ _ (λ n. refl) t
still-channels w (event.Query u) own s t = still-allowed w _ _ (λ n. refl) t
still-channels w (event.Abort u k) own s t = still-allowed w _ _ (λ n. refl) t
still-channels w (event.Release u k) own s t = still-allowed w _ _ (λ n. refl) t
still-channels w (event.Resend u) own s t = still-allowed w _ _ (λ n. refl) t
still-channels w (event.Channel u name) own s t = absurd s
still-channels w (event.Post u k bytes) own s t = absurd s
still-channels w (event.Read u k) own s t = absurd s
still-channels w (event.Close u k) own s t = absurd s
still-channels w (event.Deliver m) own s t = still-allowed w (is_sent m w.bag) (arrives w m) (still-comes w m s) t
still-channels w (event.Kill u) own s t = still-allowed w _ _ (λ n. refl) t
still-channels w (event.Tell u) own s t = still-tells w u w.broker t
still-channels w event.Stop own s t = still-stops w w.broker t
still-channels w (event.Start ts) own s t = still-starts w ts w.broker t
still-channels w (event.Hello u) own s t = still-greets w u w.broker t
still-channels w (event.Corrupt u) own s t = still-allowed w _ _ (λ n. refl) t
still-channels w (event.Forge u x) own s t = still-allowed w _ _ (λ n. refl) t

pub run-owned : (es : List Event) (w : WorldState) → Owned w → Owned (run es w)
run-owned [] w own = own
run-owned (e ∷ es) w own = run-owned es (after_event w e) (happens-owned w e own)

pub empty-owned : Owned empty_world
empty-owned = record { own = λ t. refl; unopened = λ t n. refl }

pub still-run : (es : List Event) (w : WorldState) → Owned w → AllByRecursion IsSilent es → (t : ℕ) → channels_of (run es w) t ≡ channels_of w t
still-run [] w own s t = refl
still-run (e ∷ es) w own s t = still-run es (after_event w e) (happens-owned w e own) s.1 t ∙ still-channels w e own s.0 t

-- Calls on channels

-- The channels of tab `u` become `c` if the call is allowed.
module _ (w : WorldState) (u : ℕ) (ok : Bool) (c : ChannelState) (ms : List Message) (live : lives w u ≡ true) where
  abbrev done : WorldState
  done = after w (if_allowed (lives w u && ok) w (becomes w u c ms))

  called-here : channels_of done u ≡ cond ok c (channels_of w u)
  unfolding becomes
  called-here =
      ap (λ b. channels_of (after w (if_allowed (b && ok) w (becomes w u c ms))) u) live
      ∙ by_test (λ b. channels_of (after w (if_allowed b w (becomes w u c ms))) u ≡ cond b c (channels_of w u)) ok (λ _. ap (channels_in u) (find-put_same u c w.channels)) (λ _. refl)

  called-else : (t : ℕ) → t ≢ u → channels_of done t ≡ channels_of w t
  unfolding becomes
  called-else t d = either (λ x. channels_of (after w x) t ≡ channels_of w t) (lives w u && ok) (becomes w u c ms) (unchanged w) (λ _. ap (channels_in t) (find-put_other u c w.channels t d)) (λ _. refl)

-- The event has this effect on the channels of tab `u`, and none on others.
pub record Calls (w : WorldState) (u : ℕ) (e : Event) (call : Call) : Type 0 where
  pub here : channels_of (after_event w e) u ≡ channel_step call (channels_of w u)
  pub elsewhere : (t : ℕ) → t ≢ u → channels_of (after_event w e) t ≡ channels_of w t

flipped : {X : Type 0} (b : Bool) (x y : X) → cond (not b) x y ≡ cond b y x
flipped true x y = refl
flipped false x y = refl

pub open-calls : (w : WorldState) (u : ℕ) (name : List ℕ) → lives w u ≡ true → Calls w u (event.Channel u name) (OpensOne name)
unfolding after_event step_result
open-calls w u name live =
    let c = channels_of w u in
    let b = is_some (channel_refusal name c) in
    record { here = called-here w u (not b) (channel_opened name c) [] live ∙ flipped b (channel_opened name c) c; elsewhere = called-else w u (not b) (channel_opened name c) [] live }

pub post-calls : (w : WorldState) (u k : ℕ) (bytes : List ℕ) → Owned w → lives w u ≡ true → Calls w u (event.Post u k bytes) (PostsOn k bytes)
unfolding after_event step_result
post-calls w u k bytes own live =
    let c = channels_of w u in
    let b = is_some (post_refusal u k bytes c) in
    record {
      here = called-here w u (not b) (posted k bytes c) _ live ∙ (flipped b (posted k bytes c) c ∙ ap (λ z. cond (is_some (post_refusal z k bytes c)) c (posted k bytes c)) (sym (own.own u)));
      elsewhere = called-else w u (not b) (posted k bytes c) _ live;
    }

pub read-calls : (w : WorldState) (u k : ℕ) → Owned w → lives w u ≡ true → Calls w u (event.Read u k) (ReadsFrom k)
unfolding after_event step_result
read-calls w u k own live =
    let c = channels_of w u in
    record {
      here = called-here w u (is_own_channel c u k) (read_at k c) [] live ∙ ap (λ z. cond (is_own_channel c z k) (read_at k c) c) (sym (own.own u));
      elsewhere = called-else w u (is_own_channel c u k) (read_at k c) [] live;
    }

pub close-calls : (w : WorldState) (u k : ℕ) → Owned w → lives w u ≡ true → Calls w u (event.Close u k) (ClosesOne k)
unfolding after_event step_result
close-calls w u k own live =
    let c = channels_of w u in
    record {
      here = called-here w u (is_own_channel c u k) (closed_at k c) [] live ∙ ap (λ z. cond (is_own_channel c z k) (closed_at k c) c) (sym (own.own u));
      elsewhere = called-else w u (is_own_channel c u k) (closed_at k c) [] live;
    }

-- A post that was sent to the tab.
pub hear-here : (w : WorldState) (u : ℕ) (h : Heard) → lives w u ≡ true → is_sent (Across u h) w.bag ≡ true → channels_of (after_event w (event.Deliver (Across u h))) u ≡ channel_step (Hears h) (channels_of w u)
unfolding after_event step_result becomes
hear-here w u h live sent =
    ap (λ b. channels_of (after w (if_allowed b w (arrives w (Across u h)))) u) sent
    ∙ (ap (λ b. channels_of (after w (if_allowed b w (becomes w u (after_hearing (frame.Heard h) (channels_of w u)) []))) u) live
    ∙ ap (channels_in u) (find-put_same u (after_hearing (frame.Heard h) (channels_of w u)) w.channels))

pub hear-else : (w : WorldState) (u : ℕ) (h : Heard) (t : ℕ) → t ≢ u → channels_of (after_event w (event.Deliver (Across u h))) t ≡ channels_of w t
unfolding after_event step_result becomes
hear-else w u h t d =
    either (λ x. channels_of (after w x) t ≡ channels_of w t) (is_sent (Across u h) w.bag) (arrives w (Across u h)) (unchanged w)
    (λ _. either (λ x. channels_of (after w x) t ≡ channels_of w t) (lives w u) (becomes w u (after_hearing (frame.Heard h) (channels_of w u)) []) (unchanged w)
    (λ _. ap (channels_in t) (find-put_other u (after_hearing (frame.Heard h) (channels_of w u)) w.channels t d)) (λ _. refl))
    (λ _. refl)
