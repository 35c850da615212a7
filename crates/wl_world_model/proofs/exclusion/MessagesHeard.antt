-- Arrivals of messages at a tab, and a tab's acts on its channels.
use Rattle.std.proofs.Common.{◌≡◌, ℕ, Bool, true, not, ◌&&◌, ◌+◌, List, [], map, Option, Some, None, is_some, refl, sym, subst}
use Rattle.std.specs.Prelude.{nat_lt}
use Rattle.std.proofs.lemmas.Bool.{eqb-true, and_parts}
use Rattle.wl_draft.specs.Tables.{Table, put}
use Rattle.wl_grammar.specs.declared.frame.Operation.{Operation}
use Rattle.wl_grammar.specs.declared.frame.Operation.TheVariants.{Request, Release, Abort, Query}
use Rattle.wl_grammar.specs.declared.frame.Outcome.{Outcome}
use Rattle.wl_grammar.specs.declared.frame.Outcome.TheVariants as outcome
use Rattle.wl_grammar.specs.declared.frame.Answer.{Answer}
use Rattle.wl_grammar.specs.declared.frame.Snapshot.{Snapshot as Part}
use Rattle.wl_grammar.specs.declared.frame.Downward.{Downward}
use Rattle.wl_grammar.specs.declared.frame.Downward.TheVariants as down
use Rattle.wl_broadcast.specs.Channels.{ChannelState, open_refusal as channel_refusal, opened as channel_opened, post_refusal, posted, is_own as is_own_channel, read_at, closed_at}
use Rattle.wl_agent.specs.declared.drop_reason.DropReason.{DropReason}
use Rattle.wl_agent.specs.declared.drop_reason.DropReason.TheVariants as unheard
use Rattle.wl_agent.specs.declared.delivered.Delivered.{Delivered}
use Rattle.wl_agent.specs.declared.delivered.Delivered.TheVariants as heard
use Rattle.wl_agent.specs.declared.status.Status.{Status}
use Rattle.wl_agent.specs.declared.status.Status.TheVariants.{Asked, Held, Querying}
use Rattle.wl_agent.specs.SnapshotParts.{PartsState, with_part, is_whole}
use Rattle.wl_agent.specs.Tab.{TabState, status_of, operation_of, is_issued}
use Rattle.wl_agent.specs.Delivery.{noted, result_of_asked_lock_answer, result_of_lock_answer, result_of_end_answer, result_of_asked_query_answer, result_of_query_answer, result_of_answer, told_by_answer, part_refusal, parts_of, told_by_come, told_unless, told_by_part, after_answer, after_part, has_entered, of_other, delivery}
use Rattle.wl_kernel.specs.Routes.{hearers, frame_of}
use Rattle.wl_world_messages.specs.declared.message.Sender.{Sender}
use Rattle.wl_world_messages.specs.declared.message.Message.{Message}
use Rattle.wl_draft.specs.Membership.{In}
use Rattle.wl_draft.proofs.Membership.{either, In-nil, In-map_cases}
use Rattle.wl_tab.specs.Tabs.{told}
use Rattle.wl_world_model.specs.World.{WorldState, tab_of, lives, acts, channels_of, becomes, opens_channel, posts, reads, closes, takes_frame, post_of}
use Rattle.wl_world_model.specs.Sends.{across, report_if_entered}
use Rattle.wl_world_model.proofs.exclusion.Invariant.{Sound, HasGrant, down_message}
use Rattle.wl_world_model.proofs.exclusion.HeardNumbers.{LiveCommand, same-kept, told-kept, noted-kept, answer-kept, part-kept}
use Rattle.wl_world_model.proofs.exclusion.ActsWithinAGeneration.{after, allowed-sound, heard-sound}
use Rattle.wl_world_model.proofs.exclusion.Entering.{hello-sound}
use Rattle.wl_world_model.proofs.exclusion.SayingAndPosting.{Says, said-sound}

-- A tab sends a report only when it enters a generation

module _ (w : WorldState) (t : ℕ) (y : TabState) where
  abbrev Silent : Delivered → Type 0
  Silent d = report_if_entered w.kernel t y d ≡ []

  asked-silent : (k : ℕ) (b : Bool) (o : Outcome) → Silent (result_of_asked_lock_answer k b o)
  asked-silent k b outcome.Granted = refl
  asked-silent k b outcome.Waiting = either Silent b (heard.Dropped unheard.Odd) (heard.Waiting k) (λ _. refl) (λ _. refl)
  asked-silent k b outcome.Gone = either Silent b (heard.Null k) (heard.Dropped unheard.Odd) (λ _. refl) (λ _. refl)
  asked-silent k b outcome.Taken = refl

  lock-silent : (k : ℕ) (b : Bool) (s : Option Status) (o : Outcome) → Silent (result_of_lock_answer k b s o)
  lock-silent k b (Some Asked) o = asked-silent k b o
  lock-silent k b (Some Held) o = refl
  lock-silent k b s o = refl

  end-silent : (k : ℕ) (o : Outcome) → Silent (result_of_end_answer k o)
  end-silent k outcome.Taken = refl
  end-silent k o = refl

  asked_query-silent : (k : ℕ) (o : Outcome) → Silent (result_of_asked_query_answer k o)
  asked_query-silent k outcome.Gone = refl
  asked_query-silent k o = refl

  query-silent : (k : ℕ) (s : Option Status) (o : Outcome) → Silent (result_of_query_answer k s o)
  query-silent k (Some (Querying parts)) o = asked_query-silent k o
  query-silent k s o = refl

  command-silent : (k : ℕ) (c : Operation) (s : Option Status) (o : Outcome) → Silent (result_of_answer k c s o)
  command-silent k (Request mode if_available name) s o = lock-silent k if_available s o
  command-silent k (Release number) s o = end-silent k o
  command-silent k (Abort number) s o = end-silent k o
  command-silent k Query s o = query-silent k s o

  answer-silent : (x : Answer) (a : TabState) → Silent (told_by_answer x a)
  answer-silent x a =
      either Silent (is_issued a x.number) (result_of_answer x.number (operation_of a x.number) (status_of a x.number) x.outcome) (heard.Dropped unheard.Odd)
      (λ _. command-silent x.number (operation_of a x.number) (status_of a x.number) x.outcome) (λ _. refl)

  unless-silent : (o : Option DropReason) (x : Part) (parts : PartsState) → Silent (told_unless o (told_by_come x parts))
  unless-silent (Some reason) x parts = refl
  unless-silent None x parts = either Silent (is_whole (with_part x parts)) (heard.Whole x.number) (heard.Part x.number) (λ _. refl) (λ _. refl)

  other-silent : (g : ℕ) (a : TabState) → Silent (of_other g a)
  other-silent g a = either Silent (nat_lt g a.entered) (heard.Dropped unheard.OldGeneration) (heard.Dropped unheard.LaterGeneration) (λ _. refl) (λ _. refl)

-- A message arrives at a tab

-- A world stays sound when a tab takes a frame without entering a generation.
quiet-sound : (w : WorldState) (t : ℕ) (y : TabState) (d : Delivered) (G : ℕ → Type 0) → Sound w → lives w t ≡ true → report_if_entered w.kernel t y d ≡ [] → LiveCommand (tab_of w t) y G → ((k : ℕ) → G k → HasGrant w.bag t (tab_of w t).entered k)
    → Sound (after w (acts w t (told y) (report_if_entered w.kernel t y d)))
quiet-sound w t y d G s l quiet c grant =
    subst (λ ms. Sound (after w (acts w t (told y) ms))) (sym quiet) (heard-sound w t (told y) G s l (told-kept (tab_of w t) y G c) grant)

-- A world stays sound when a frame of another generation arrives.
other-sound : (w : WorldState) (t g : ℕ) → Sound w → lives w t ≡ true → Sound (after w (acts w t (told (tab_of w t)) (report_if_entered w.kernel t (tab_of w t) (of_other g (tab_of w t)))))
other-sound w t g s l =
    let x = tab_of w t in
    quiet-sound w t x (of_other g x) (λ k. ⊥) s l (other-silent w t x g x) (same-kept x (λ k. ⊥) (s.tabs t).state.rises) (λ k e. absurd e)

pub down-sound : (w : WorldState) (v : Sender) (t : ℕ) (x : Downward) → Sound w → lives w t ≡ true → In (down_message v t x) w.bag → Sound (after w (takes_frame w t (frame_of x)))
unfolding delivery
down-sound w v t (down.Hello h) s l i = hello-sound w s t h v i l
down-sound w v t (down.Answer x) s l i =
    let a = tab_of w t in
    let y = noted x.upto (after_answer (told_by_answer x a) a) in
    either {A = TabState × Delivered} (λ o. Sound (after w (acts w t (told o.0) (report_if_entered w.kernel t o.0 o.1)))) (has_entered x.generation a) (y, told_by_answer x a) (a, of_other x.generation a)
    (λ e. quiet-sound w t y (told_by_answer x a) _ s l (answer-silent w t y x a) (noted-kept x.upto a _ _ (answer-kept x a (s.tabs t).state.rises)) (λ k g. (v, x, i, eqb-true x.generation a.entered (and_parts _ _ e).0, g.0, g.1)))
    (λ _. other-sound w t x.generation s l)
down-sound w v t (down.Snapshot x) s l i =
    let a = tab_of w t in
    let y = noted (x.number + 1) (after_part x a) in
    either {A = TabState × Delivered} (λ o. Sound (after w (acts w t (told o.0) (report_if_entered w.kernel t o.0 o.1)))) (has_entered x.generation a) (y, told_by_part x a) (a, of_other x.generation a)
    (λ _. quiet-sound w t y (told_by_part x a) (λ k. ⊥) s l (unless-silent w t y (part_refusal x a) x (parts_of (status_of a x.number))) (noted-kept (x.number + 1) a _ _ (part-kept x a (λ k. ⊥) (s.tabs t).state.rises)) (λ k e. absurd e))
    (λ _. other-sound w t x.generation s l)

-- Channels

-- No part of the invariant reads the channels.
pub channel-sound : (w : WorldState) → Sound w → (cs : Table ChannelState) → Sound (record w { channels = cs })
channel-sound w s cs = record { positive = s.positive; current = s.current; tabs = s.tabs; messages = s.messages; seats = s.seats; locks = s.locks }

becomes-sound : (w : WorldState) (t : ℕ) (c : ChannelState) (ms : List Message) → Sound w → ((v : WorldState) (m : Message) → In m ms → Says v m) → Sound (after w (becomes w t c ms))
unfolding becomes
becomes-sound w t c ms s f = said-sound (record w { channels = put t c w.channels }) (channel-sound w s (put t c w.channels)) ms (f (record w { channels = put t c w.channels }))

pub opens_channel-sound : (w : WorldState) (t : ℕ) (name : List ℕ) → Sound w → Sound (after w (opens_channel w t name))
opens_channel-sound w t name s =
    allowed-sound w (lives w t && not (is_some (channel_refusal name (channels_of w t)))) (becomes w t (channel_opened name (channels_of w t)) []) s
    (λ _. becomes-sound w t (channel_opened name (channels_of w t)) [] s (λ v m i. absurd (In-nil i)))

pub posts-sound : (w : WorldState) (t k : ℕ) (bytes : List ℕ) → Sound w → Sound (after w (posts w t k bytes))
posts-sound w t k bytes s =
    let c = channels_of w t in
    allowed-sound w (lives w t && not (is_some (post_refusal t k bytes c))) (becomes w t (posted k bytes c) (map (across t (post_of k bytes c)) (hearers t w.kernel))) s
    (λ _. becomes-sound w t (posted k bytes c) (map (across t (post_of k bytes c)) (hearers t w.kernel)) s
    (λ v m i. let o = In-map_cases (across t (post_of k bytes c)) (hearers t w.kernel) i in subst (Says v) (sym o.2) tt))

pub reads-sound : (w : WorldState) (t k : ℕ) → Sound w → Sound (after w (reads w t k))
reads-sound w t k s =
    let c = channels_of w t in
    allowed-sound w (lives w t && is_own_channel c t k) (becomes w t (read_at k c) []) s
    (λ _. becomes-sound w t (read_at k c) [] s (λ v m i. absurd (In-nil i)))

pub closes-sound : (w : WorldState) (t k : ℕ) → Sound w → Sound (after w (closes w t k))
closes-sound w t k s =
    let c = channels_of w t in
    allowed-sound w (lives w t && is_own_channel c t k) (becomes w t (closed_at k c) []) s
    (λ _. becomes-sound w t (closed_at k c) [] s (λ v m i. absurd (In-nil i)))

pub across-sound : (w : WorldState) (t : ℕ) (c : ChannelState) → Sound w → Sound (after w (becomes w t c []))
across-sound w t c s = becomes-sound w t c [] s (λ v m i. absurd (In-nil i))
