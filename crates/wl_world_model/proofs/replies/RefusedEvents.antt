-- Refused events change nothing.
use Rattle.std.proofs.Common.{◌≡◌, ℕ, ◌-◌, is_some, Bool, true, false, not, ◌&&◌, cond, eqb, ltb, leb, length, List, [], ◌∷◌, Option, Some, None, option_map, refl, sym, ap, ◌∙◌, subst, ⊎_elim, zero, suc, arith}
use Rattle.std.proofs.lemmas.Bool.{and_right, cases_eq, ltb-false, le-ltb}
use Rattle.wl_draft.specs.Tables.{Table, find, put}
use Rattle.wl_draft.proofs.TableLemmas.{find-put_same, find-put_other}
use Rattle.wl_grammar.specs.declared.frame.Frame.{Frame}
use Rattle.wl_grammar.specs.declared.frame.Stamped.{Stamped}
use Rattle.wl_grammar.specs.declared.frame.Heard.{Heard}
use Rattle.wl_grammar.specs.declared.frame.Upward.{Upward}
use Rattle.wl_grammar.specs.declared.frame.Upward.TheVariants as up
use Rattle.wl_broker.specs.Broker.{BrokerState, seat_of, is_joined, Taking, Drops, Does, taking}
use Rattle.wl_agent.specs.declared.delivered.Delivered.{Delivered}
use Rattle.wl_agent.specs.declared.delivered.Delivered.TheVariants as told
use Rattle.wl_agent.specs.Tab.{TabState, is_asked, status_of, ask_refusal, query_refusal}
use Rattle.wl_agent.specs.Tokens.{is_pending, is_holding}
use Rattle.wl_agent.specs.Delivery.{delivery}
use Rattle.wl_broadcast.specs.declared.letter.Letter.{Letter}
use Rattle.wl_broadcast.specs.declared.fault.ChannelFault.TheVariants as fault
use Rattle.wl_broadcast.specs.Channels.{ChannelState, Object, changed_at, first_of, inbox_at, is_old, is_open_at, is_own, post_limit, read_at, rest_of}
use Rattle.wl_broadcast.specs.Channels.{open_refusal as channel_refusal}
use Rattle.wl_kernel.specs.Kernel.{is_opened, may_stop, open_refusal, start_refusal}
use Rattle.wl_kernel.specs.Routes.{frame_of}
use Rattle.wl_world_messages.specs.declared.effect.Reached.{Reached}
use Rattle.wl_world_messages.specs.declared.effect.Reason.{Reason}
use Rattle.wl_world_messages.specs.declared.effect.Reason.TheVariants as reason
use Rattle.wl_world_messages.specs.declared.effect.Refusal.{Refusal}
use Rattle.wl_world_messages.specs.declared.effect.Refusal.TheVariants as refusal
use Rattle.wl_world_messages.specs.declared.effect.Effect.{Effect}
use Rattle.wl_world_messages.specs.declared.effect.Effect.TheVariants as said
use Rattle.wl_world_messages.specs.Refused.{refused, refused_or}
use Rattle.wl_world_messages.specs.declared.message.Message.{Message}
use Rattle.wl_world_messages.specs.declared.message.Message.TheVariants.{Up, Down, Across}
use Rattle.wl_world_messages.specs.Messages.{is_sent, sent_all}
use Rattle.wl_tab.specs.Tabs.{channels_in}
use Rattle.wl_tab.specs.Arrivals.{arrival, told_said}
use Rattle.wl_supervised_broker.specs.Supervising.{message_effect, start_effect, stop_effect, taken_said, taking_said, death_effect}
use Rattle.wl_broadcast.proofs.Numbered.{is_open_at-suc}
use Rattle.wl_world_model.specs.declared.event.Event.{Event}
use Rattle.wl_world_model.specs.declared.event.Event.TheVariants as event
use Rattle.wl_world_model.specs.World.{WorldState, StepResult, becomes, channels_of, step_result, greets, after_event, lives, unchanged, starts, stops, tab_of, tells, if_allowed, is_corrupt}
use Rattle.wl_world_model.specs.Sends.{forgery, resent}
use Rattle.wl_world_model.specs.Replies.{delivering, greeting, hearing, letter_of, reached, read_letter, reply_of, said_of, sendings, some_resent, some_forged}
use Rattle.wl_world_model.specs.Refusals.{AreSame, RefusedChangesNothing}

-- A number that was never opened is not open.
pub open_beyond : (os : List Object) (k : ℕ) → ltb k (length os) ≡ false → is_open_at os k ≡ false
open_beyond [] k e = refl
open_beyond (o ∷ os) zero e = absurd (omega (arith, ltb-false zero (length (o ∷ os)) e))
open_beyond (o ∷ os) (suc k) e = is_open_at-suc o os k ∙ open_beyond os k (le-ltb k (length os) (omega (arith, ltb-false (suc k) (length (o ∷ os)) e)))

-- A deed that does nothing

abbrev DoesNothing : WorldState → StepResult → Type 0
DoesNothing w d = AreSame (record d.world { bag = sent_all d.sends w.bag }) w × (sendings d.sends w.bag ≡ [])

idle : (w : WorldState) → DoesNothing w (unchanged w)
idle w = (record { tabs = λ t. refl; channels = λ t. refl; kernel = refl; broker = refl; bag = refl; corrupt = refl }, refl)

undone : (w : WorldState) (b : Bool) (d : StepResult) → b ≡ false → DoesNothing w (if_allowed b w d)
undone w b d e = subst (λ c. DoesNothing w (if_allowed c w d)) (sym e) (idle w)

-- Storing a tab's row again does not change its state.
put_again : {X : Type 0} (of : ℕ → Option X → X) (t : ℕ) (x : X) (rows : Table X) → of t (Some x) ≡ of t (find rows t) → (u : ℕ) → of u (find (put t x rows) u) ≡ of u (find rows u)
put_again of t x rows e u =
    ⊎_elim
    (λ same. subst (λ (v : ℕ). of v (find (put t x rows) v) ≡ of v (find rows v)) (sym same) (ap (of t) (find-put_same t x rows) ∙ e))
    (λ other. ap (of u) (find-put_other t x rows u other))
    (cases_eq u t)

-- The reply determines whether the event was done

abbrev IsDone : Effect → Type 0
IsDone s = (r : Refusal) → s ≡ said.Refused r → ⊥

not_allowed : {F : Type 0} (of : F → Refusal) (o : Option F) (s : Effect) (r : Refusal) → IsDone s → refused_or (option_map of o) s ≡ said.Refused r → not (is_some o) ≡ false
not_allowed of None s r done h = absurd (done r h)
not_allowed of (Some f) s r done h = refl

not_so : (b : Bool) (s : Effect) (q r : Refusal) → IsDone s → cond b s (refused q) ≡ said.Refused r → b ≡ false
not_so true s q r done h = absurd (done r h)
not_so false s q r done h = refl

-- A command that is refused was not allowed: its tab was dead, or the command itself was refused.
of_life : (l a : Bool) (s : Effect) (q r : Refusal) → (s ≡ said.Refused r → a ≡ false) → cond l s (refused q) ≡ said.Refused r → (l && a) ≡ false
of_life true a s q r f h = f h
of_life false a s q r f h = refl

not_aborted : (l p a : Bool) (s : Effect) (r : Refusal) → IsDone s → cond l (cond p (cond a s (refused refusal.Held)) (refused refusal.Nothing)) (refused refusal.NoTab) ≡ said.Refused r → (l && p && a) ≡ false
not_aborted true true a s r done h = not_so a s refusal.Held r done h
not_aborted true false a s r done h = refl
not_aborted false p a s r done h = refl

-- Sending again, channels

resent-same : (w : WorldState) (t : ℕ) (l : Bool) (ms : List Message) (r : Refusal) → cond l (some_resent ms) (refused refusal.NoTab) ≡ said.Refused r → DoesNothing w (if_allowed l w (record { world = w; sends = ms }))
resent-same w t false ms r h = idle w
resent-same w t true [] r h = idle w
resent-same w t true (m ∷ ms) r h = let bad : ⊥ = cc in absurd bad

-- A forged post without hearers does nothing.
forged-same : (w : WorldState) (t : ℕ) (l c : Bool) (ms : List Message) (r : Refusal) → cond l (cond c (some_forged ms) (refused refusal.Honest)) (refused refusal.NoTab) ≡ said.Refused r → DoesNothing w (if_allowed (c && l) w (record { world = w; sends = ms }))
forged-same w t l false ms r h = idle w
forged-same w t false true ms r h = idle w
forged-same w t true true [] r h = idle w
forged-same w t true true (m ∷ ms) r h = let bad : ⊥ = cc in absurd bad

-- An empty inbox has an empty rest.
rest_of_none : (ls : List Letter) → first_of ls ≡ None → rest_of ls ≡ ls
rest_of_none [] h = refl
rest_of_none (l ∷ ls) h = let bad : ⊥ = cc in absurd bad

abbrev without_first : Object → Object
without_first o = record o { inbox = rest_of o.inbox }

unread_as : (b : Bool) (o : Object) (os rest : List Object) (ls : List Letter) → first_of (cond b o.inbox ls) ≡ None → (first_of ls ≡ None → rest ≡ os) → cond b (without_first o ∷ os) (o ∷ rest) ≡ o ∷ os
unread_as true o os rest ls h stays = ap (λ xs. record o { inbox = xs } ∷ os) (rest_of_none o.inbox h)
unread_as false o os rest ls h stays = ap (λ xs. o ∷ xs) (stays h)

unread : (os : List Object) (k : ℕ) → first_of (inbox_at os k) ≡ None → changed_at k without_first os ≡ os
unread [] k h = refl
unread (o ∷ os) k h = unread_as (eqb k 0) o os (changed_at (k - 1) without_first os) (inbox_at os (k - 1)) h (unread os (k - 1))

read-same : (w : WorldState) (t k : ℕ) → first_of (inbox_at (channels_of w t).objects k) ≡ None → DoesNothing w (becomes w t (read_at k (channels_of w t)) [])
unfolding becomes
read-same w t k h =
    let c = channels_of w t in
    let same : read_at k c ≡ c = ap (λ os. record c { objects = os }) (unread c.objects k h) in
    (record { tabs = λ u. refl; channels = put_again channels_in t (read_at k c) w.channels same; kernel = refl; broker = refl; bag = refl; corrupt = refl }, refl)

read_nothing : (w : WorldState) (d : StepResult) (l n own : Bool) (o : Option Letter) (r : Refusal) → (n ≡ false → own ≡ false) → (o ≡ None → DoesNothing w d) → cond l (cond n (cond own (read_letter o) (refused refusal.InvalidState)) (refused refusal.NoChannel)) (refused refusal.NoTab) ≡ said.Refused r → DoesNothing w (if_allowed (l && own) w d)
read_nothing w d false n own o r beyond none h = idle w
read_nothing w d true true false o r beyond none h = idle w
read_nothing w d true true true None r beyond none h = none refl
read_nothing w d true true true (Some letter) r beyond none h = let bad : ⊥ = cc in absurd bad
read_nothing w d true false own o r beyond none h = undone w own d (beyond refl)

-- A number that was never opened is not an open channel of any tab.
not_own : (c : ChannelState) (t k : ℕ) → ltb k (length c.objects) ≡ false → is_own c t k ≡ false
not_own c t k e = and_right (eqb t c.tab) (is_open_at c.objects k) (open_beyond c.objects k e)

not_closed : (n own : Bool) (s : Effect) (r : Refusal) → IsDone s → (n ≡ false → own ≡ false) → cond n s (refused refusal.NoChannel) ≡ said.Refused r → own ≡ false
not_closed true own s r done beyond h = absurd (done r h)
not_closed false own s r done beyond h = beyond refl

not_posted : (n own d p : Bool) (s : Effect) (r : Refusal) → IsDone s → (n ≡ false → own ≡ false) → cond n (cond own (cond d (refused (refusal.Channel fault.DataTooLong)) (cond p (refused (refusal.Channel fault.PostsUsedUp)) s)) (refused refusal.InvalidState)) (refused refusal.NoChannel) ≡ said.Refused r → not (is_some (cond d (Some fault.DataTooLong) (cond p (Some fault.PostsUsedUp) (cond own None (Some fault.ForeignChannel))))) ≡ false
not_posted n own true p s r done beyond h = refl
not_posted n own false true s r done beyond h = refl
not_posted n false false false s r done beyond h = refl
not_posted true true false false s r done beyond h = absurd (done r h)
not_posted false true false false s r done beyond h = let bad : true ≡ false = beyond refl in absurd (let worse : ⊥ = cc in worse)

-- Deliveries

told-done : (f : Frame) (a b : TabState) (d : Delivered) → IsDone (told_said f a b d)
told-done f a b (told.Entered report) r h = cc
told-done f a b (told.Granted k) r h = cc
told-done f a b (told.Waiting k) r h = cc
told-done f a b (told.Null k) r h = cc
told-done f a b (told.Lost k) r h = cc
told-done f a b (told.Taken k) r h = cc
told-done f a b (told.Part k) r h = cc
told-done f a b (told.Whole k) r h = cc
told-done f a b (told.Dropped u) r h = cc

arrival-done : (f : Frame) (a : TabState) → IsDone (arrival f a)
unfolding arrival
arrival-done f a = let d = delivery f a in told-done f a d.0 d.1

either-done : (b : Bool) (s u : Effect) → IsDone s → IsDone u → IsDone (cond b s u)
either-done true s u done other = done
either-done false s u done other = other

dropped-done : (why : Reason) → IsDone (said.Dropped why)
dropped-done why r h = cc

heard-done : (t : ℕ) (letter : Letter) (objects : List Reached) → IsDone (said.Heard t letter objects)
heard-done t letter objects r h = cc

hearing-done : (t : ℕ) (x : Heard) (c : ChannelState) → IsDone (hearing t x c)
hearing-done t x c = either-done (is_old c x.source x.number) _ _ (dropped-done reason.OldPost) (heard-done t (letter_of x) (reached None x.channel c.objects))

joined-done : (t : ℕ) → IsDone (said.Joined t)
joined-done t r h = cc

part-done : (k n : ℕ) → IsDone (said.Part k n)
part-done k n r h = cc

taken-done : (b : BrokerState) (t : ℕ) (x : Upward) → IsDone (taken_said b t x)
taken-done b t (up.Command c) = λ r h. cc
taken-done b t (up.Report x) = joined-done t
taken-done b t (up.ReportPart x) = either-done (is_joined (seat_of b t)) _ _ (joined-done t) (part-done x.part x.parts)

taking-done : (s : Stamped) (t : Taking) → IsDone (taking_said s t)
taking-done s (Drops why) = dropped-done (reason.AtBroker why)
taking-done s (Does b outs) = taken-done b s.tab s.inner

brought-done : (s : Stamped) (o : Option BrokerState) → IsDone (message_effect s o)
brought-done s None = dropped-done reason.Down
brought-done s (Some b) = taking-done s (taking b s)

delivering-done : (w : WorldState) (m : Message) → IsDone (delivering w m)
delivering-done w (Up s) = brought-done s w.broker
delivering-done w (Down sender x) = either-done (lives w x.tab) _ _ (arrival-done (frame_of x.inner) (tab_of w x.tab)) (dropped-done reason.DeadTab)
delivering-done w (Across t x) = either-done (lives w t) _ _ (hearing-done t x (channels_of w t)) (dropped-done reason.DeadTab)

-- The kernel and the broker

not_told : (o l : Bool) (s : Effect) (r : Refusal) → IsDone s → cond (not o) (refused refusal.NoTab) (cond l (refused refusal.Living) s) ≡ said.Refused r → (o && not l) ≡ false
not_told true true s r done h = refl
not_told true false s r done h = absurd (done r h)
not_told false l s r done h = refl

tells-refused : (w : WorldState) (t : ℕ) (o : Option BrokerState) (r : Refusal) → death_effect w.kernel t o ≡ said.Refused r → DoesNothing w (tells w t o)
tells-refused w t None r h = idle w
tells-refused w t (Some b) r h = undone w (is_opened w.kernel t && not (lives w t)) _ (not_told (is_opened w.kernel t) (lives w t) (said.Told t) r (λ q e. cc) h)

stops-refused : (w : WorldState) (o : Option BrokerState) (r : Refusal) → stop_effect w.kernel o ≡ said.Refused r → DoesNothing w (stops w o)
stops-refused w None r h = idle w
stops-refused w (Some b) r h = undone w (may_stop w.kernel) _ (not_so (may_stop w.kernel) (said.Stopped w.kernel.generation) refusal.GenerationsUsedUp r (λ q e. cc) h)

starts-refused : (w : WorldState) (ts : List ℕ) (o : Option BrokerState) (r : Refusal) → start_effect w.kernel ts o ≡ said.Refused r → DoesNothing w (starts w ts o)
starts-refused w ts (Some b) r h = idle w
starts-refused w ts None r h = undone w (not (is_some (start_refusal ts w.kernel))) _ (not_allowed refusal.Start (start_refusal ts w.kernel) (said.Started w.kernel.generation) r (λ q e. cc) h)

greets-refused : (w : WorldState) (t : ℕ) (o : Option BrokerState) (r : Refusal) → greeting w.kernel t o ≡ said.Refused r → DoesNothing w (greets w t o)
greets-refused w t None r h = idle w
greets-refused w t (Some b) r h = undone w (lives w t) _ (not_so (lives w t) said.Greeted refusal.NoTab r (λ q e. cc) h)

-- Events

asked : (w : WorldState) (t : ℕ) (name : List ℕ) (d : StepResult) (r : Refusal) → cond (lives w t) (refused_or (option_map refusal.Ask (ask_refusal (tab_of w t) name)) (said.Issued t (length (tab_of w t).issued))) (refused refusal.NoTab) ≡ said.Refused r → DoesNothing w (if_allowed (lives w t && not (is_some (ask_refusal (tab_of w t) name))) w d)
asked w t name d r h =
    let o = ask_refusal (tab_of w t) name in
    undone w (lives w t && not (is_some o)) d
    (of_life (lives w t) (not (is_some o)) _ refusal.NoTab r (not_allowed refusal.Ask o (said.Issued t (length (tab_of w t).issued)) r (λ q e. cc)) h)

refused-step_result : (w : WorldState) (e : Event) (r : Refusal) → said_of w e ≡ said.Refused r → DoesNothing w (step_result w e)
unfolding said_of step_result
refused-step_result w (event.Open t p) r h = undone w _ _ (not_allowed refusal.Open (open_refusal t p w.kernel) (said.Opened t p) r (λ q e. cc) h)
refused-step_result w (event.OpenTwo t p) r h = undone w _ _ (not_allowed refusal.Open (open_refusal t p w.kernel) (said.OpenedTwo t p) r (λ q e. cc) h)
refused-step_result w (event.Ask t mode name) r h = asked w t name _ r h
refused-step_result w (event.Probe t mode name) r h = asked w t name _ r h
refused-step_result w (event.Query t) r h =
    let o = query_refusal (tab_of w t) in
    undone w (lives w t && not (is_some o)) _
    (of_life (lives w t) (not (is_some o)) _ refusal.NoTab r (not_allowed refusal.Ask o (said.Issued t (length (tab_of w t).issued)) r (λ q e. cc)) h)
refused-step_result w (event.Abort t k) r h =
    let a = tab_of w t in
    undone w (lives w t && is_pending a k && is_asked (status_of a k)) _
    (not_aborted (lives w t) (is_pending a k) (is_asked (status_of a k)) (said.Issued t (length a.issued)) r (λ q e. cc) h)
refused-step_result w (event.Release t k) r h =
    let a = tab_of w t in
    undone w (lives w t && is_holding a k) _
    (of_life (lives w t) (is_holding a k) _ refusal.NoTab r (not_so (is_holding a k) (said.Issued t (length a.issued)) refusal.Nothing r (λ q e. cc)) h)
refused-step_result w (event.Resend t) r h = resent-same w t (lives w t) (resent w.kernel t (tab_of w t)) r h
refused-step_result w (event.Channel t name) r h =
    let o = channel_refusal name (channels_of w t) in
    undone w (lives w t && not (is_some o)) _
    (of_life (lives w t) (not (is_some o)) _ refusal.NoTab r (not_allowed refusal.Channel o (said.ChannelOpened (length (channels_of w t).objects)) r (λ q e. cc)) h)
refused-step_result w (event.Post t k bytes) r h =
    let c = channels_of w t in
    let d = ltb 16384 (length bytes) in
    let p = leb post_limit c.posts in
    undone w _ _
    (of_life (lives w t) _ _ refusal.NoTab r (not_posted (ltb k (length c.objects)) (is_own c t k) d p (said.Posted t c.posts bytes _) r (λ q e. cc) (not_own c t k)) h)
refused-step_result w (event.Read t k) r h =
    let c = channels_of w t in
    read_nothing w _ (lives w t) (ltb k (length c.objects)) (is_own c t k) (first_of (inbox_at c.objects k)) r (not_own c t k) (read-same w t k) h
refused-step_result w (event.Close t k) r h =
    let c = channels_of w t in
    undone w (lives w t && is_own c t k) _
    (of_life (lives w t) (is_own c t k) _ refusal.NoTab r (not_closed (ltb k (length c.objects)) (is_own c t k) (said.Closed k) r (λ q e. cc) (not_own c t k)) h)
refused-step_result w (event.Deliver m) r h = undone w (is_sent m w.bag) _ (not_so (is_sent m w.bag) (delivering w m) refusal.NoMessage r (delivering-done w m) h)
refused-step_result w (event.Kill t) r h = undone w (lives w t) _ (not_so (lives w t) (said.Killed t) refusal.NoTab r (λ q e. cc) h)
refused-step_result w (event.Tell t) r h = tells-refused w t w.broker r h
refused-step_result w event.Stop r h = stops-refused w w.broker r h
refused-step_result w (event.Start ts) r h = starts-refused w ts w.broker r h
refused-step_result w (event.Hello t) r h = greets-refused w t w.broker r h
refused-step_result w (event.Corrupt t) r h = undone w (lives w t) _ (not_so (lives w t) (said.Corrupted t) refusal.NoTab r (λ q e. cc) h)
refused-step_result w (event.Forge t x) r h = forged-same w t (lives w t) (is_corrupt w t) (forgery w.kernel t x) r h

pub refused-changes_nothing : RefusedChangesNothing
unfolding after_event reply_of
refused-changes_nothing w e r h = refused-step_result w e r h
