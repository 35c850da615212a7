-- Calls on a tab's channels, over the parts of the world.
use Rattle.std.proofs.Common.{◌≡◌, ℕ, List, [], Bool, cond, false, true, Some, None, Result, Ok, Err, OnOk, OnErr, IfErr, refl, sym, ap, ◌∙◌, subst}
use Rattle.wl_draft.specs.Tables.{Table, find, put}
use Rattle.wl_grammar.specs.declared.frame.Frame.{Frame}
use Rattle.wl_grammar.specs.declared.frame.Frame.TheVariants as frame
use Rattle.wl_grammar.specs.declared.frame.Heard.{Heard}
use Rattle.wl_broadcast.specs.declared.letter.Posted.{Posted}
use Rattle.wl_broadcast.specs.declared.letter.Hearing.{Hearing}
use Rattle.wl_broadcast.specs.declared.letter.Hearing.TheVariants.{Old, New}
use Rattle.wl_broadcast.specs.Channels.{ChannelState, Object, read_at, posted, post_frame, name_at, taking, full, hearing_of, is_old}
use Rattle.wl_agent.specs.Tab.{TabState}
use Rattle.wl_world_messages.specs.declared.effect.Effect.TheVariants as said
use Rattle.wl_world_messages.specs.declared.effect.Reason.TheVariants as reason
use Rattle.wl_world_messages.specs.declared.effect.Reached.{Reached}
use Rattle.wl_world_messages.specs.Refused.{refused}
use Rattle.wl_world_messages.specs.declared.message.Message.{Message}
use Rattle.wl_tab.specs.declared.channels.ChannelRefusal.{ChannelRefusal}
use Rattle.wl_tab.specs.Tabs.{channels_in}
use Rattle.wl_tab.specs.TabChannels.{number_refusal, posting_refusal}
use Rattle.wl_supervised_broker.specs.SupervisedStates.{SupervisedState}
use Rattle.wl_world_model.specs.World.{WorldState, StepResult, channels_of, lives, becomes, unchanged, posts, reads}
use Rattle.wl_world_model.specs.Replies.{posting, reached, hearing, letter_of, alive_or}
use Rattle.wl_world.specs.Merging.{merged, number_in, posted_said, hearing_said}
use Rattle.wl_world.specs.Components.{OwnRows, world_of, crossed, of_posting}
use Rattle.wl_world.proofs.calls.MergedReaches.{merged-reached}
use Rattle.wl_world.proofs.calls.ChannelCalls.{posts-done, posts-refused, posting-done, posting-refused, reads-done, reads-refused}

abbrev pub row_of : ℕ → Table ChannelState → ChannelState
row_of t cs = channels_in t (find cs t)

-- Reading

pub reads-world : {X : Type 0} (r : Result X ChannelRefusal) (ts : Table TabState) (cs us : Table ChannelState) (s : SupervisedState) (bag : List Message) (corrupt : List ℕ) (w : WorldState) → world_of ts cs s bag corrupt ≡ w → (t k : ℕ) → lives w t ≡ true → OwnRows cs → OnOk r (us ≡ put t (read_at k (row_of t cs)) cs) → OnOk r (number_refusal k (row_of t cs) ≡ None) → IfErr r (λ e. number_refusal k (row_of t cs) ≡ Some e) → OnErr r (us ≡ cs) → world_of ts us s bag corrupt ≡ (reads w t k).world
unfolding becomes
reads-world (Ok x) ts cs us s bag corrupt w v t k live own ok none refused err =
    subst (λ (z : WorldState). lives z t ≡ true → world_of ts us s bag corrupt ≡ (reads z t k).world) v
    (λ alive. ap (λ z. world_of ts z s bag corrupt) ok ∙ ap (λ (d : StepResult). d.world) (sym (reads-done (world_of ts cs s bag corrupt) t k alive (own t) none)))
    live
reads-world (Err e) ts cs us s bag corrupt w v t k live own ok none refused err =
    subst (λ (z : WorldState). lives z t ≡ true → world_of ts us s bag corrupt ≡ (reads z t k).world) v
    (λ alive. ap (λ z. world_of ts z s bag corrupt) err ∙ ap (λ (d : StepResult). d.world) (sym (reads-refused (world_of ts cs s bag corrupt) t k e alive (own t) refused)))
    live

-- Posting

-- The post goes to the other open objects of the name. Each of them takes it or is full.
pub record IsPostOf (k : ℕ) (bytes : List ℕ) (c : ChannelState) (p : Posted) : Type 0 where
  pub frame : p.frame ≡ post_frame c.posts (name_at c.objects k) bytes
  pub took : p.took ≡ taking (Some k) (name_at c.objects k) c.objects
  pub full : p.full ≡ full (Some k) (name_at c.objects k) c.objects

said-posted : (k : ℕ) (bytes : List ℕ) (t : ℕ) (c : ChannelState) (p : Posted) → IsPostOf k bytes c p → posted_said t bytes p ≡ said.Posted t c.posts bytes (reached (Some k) (name_at c.objects k) c.objects)
said-posted k bytes t c p is =
    ap (λ (f : Frame). said.Posted t (number_in f) bytes (merged p.took p.full)) is.frame
    ∙ ap (λ (took : List ℕ). said.Posted t c.posts bytes (merged took p.full)) is.took
    ∙ ap (λ (fs : List ℕ). said.Posted t c.posts bytes (merged (taking (Some k) (name_at c.objects k) c.objects) fs)) is.full
    ∙ ap (λ (objects : List Reached). said.Posted t c.posts bytes objects) (merged-reached 0 (Some k) (name_at c.objects k) c.objects)

module _ (ts : Table TabState) (cs : Table ChannelState) (s : SupervisedState) (bag : List Message) (corrupt : List ℕ) (w : WorldState) (v : world_of ts cs s bag corrupt ≡ w) (t k : ℕ) (bytes : List ℕ) (live : lives w t ≡ true) (own : OwnRows cs) where
  pub posted-world : (us : Table ChannelState) → us ≡ put t (posted k bytes (row_of t cs)) cs → posting_refusal k bytes (row_of t cs) ≡ None → world_of ts us s bag corrupt ≡ (posts w t k bytes).world
  unfolding becomes
  posted-world us is none =
      subst (λ (z : WorldState). lives z t ≡ true → world_of ts us s bag corrupt ≡ (posts z t k bytes).world) v
      (λ alive. ap (λ z. world_of ts z s bag corrupt) is ∙ ap (λ (d : StepResult). d.world) (sym (posts-done (world_of ts cs s bag corrupt) t k bytes alive (own t) none)))
      live

  pub posted-sends : posting_refusal k bytes (row_of t cs) ≡ None → (f : Frame) → f ≡ post_frame (row_of t cs).posts (name_at (row_of t cs).objects k) bytes → crossed s.kernel t f ≡ (posts w t k bytes).sends
  unfolding becomes
  posted-sends none f is =
      subst (λ (z : WorldState). lives z t ≡ true → crossed s.kernel t f ≡ (posts z t k bytes).sends) v
      (λ alive. ap (λ (g : Frame). crossed s.kernel t g) is ∙ ap (λ (d : StepResult). d.sends) (sym (posts-done (world_of ts cs s bag corrupt) t k bytes alive (own t) none)))
      live

  pub posted-said : posting_refusal k bytes (row_of t cs) ≡ None → (p : Posted) → IsPostOf k bytes (row_of t cs) p → posted_said t bytes p ≡ posting w t k bytes
  posted-said none p is =
      subst (λ (z : WorldState). lives z t ≡ true → posted_said t bytes p ≡ posting z t k bytes) v
      (λ alive. said-posted k bytes t (row_of t cs) p is ∙ sym (posting-done (world_of ts cs s bag corrupt) t k bytes alive (own t) none))
      live

  -- A refused post changes nothing.
  unposted : (e : ChannelRefusal) → posting_refusal k bytes (row_of t cs) ≡ Some e → posts w t k bytes ≡ unchanged w
  unposted e some =
      subst (λ (z : WorldState). lives z t ≡ true → posts z t k bytes ≡ unchanged z) v
      (λ alive. posts-refused (world_of ts cs s bag corrupt) t k bytes e alive (own t) some)
      live

  pub unposted-world : (us : Table ChannelState) → us ≡ cs → (e : ChannelRefusal) → posting_refusal k bytes (row_of t cs) ≡ Some e → world_of ts us s bag corrupt ≡ (posts w t k bytes).world
  unposted-world us same e some =
      ap (λ (rows : Table ChannelState). world_of ts rows s bag corrupt) same ∙ v ∙ ap (λ (d : StepResult). d.world) (sym (unposted e some))

  pub unposted-sends : (e : ChannelRefusal) → posting_refusal k bytes (row_of t cs) ≡ Some e → [] ≡ (posts w t k bytes).sends
  unposted-sends e some = ap (λ (d : StepResult). d.sends) (sym (unposted e some))

  pub unposted-said : (e : ChannelRefusal) → posting_refusal k bytes (row_of t cs) ≡ Some e → refused (of_posting e) ≡ posting w t k bytes
  unposted-said e some =
      subst (λ (z : WorldState). lives z t ≡ true → refused (of_posting e) ≡ posting z t k bytes) v
      (λ alive. sym (posting-refused (world_of ts cs s bag corrupt) t k bytes e alive (own t) some))
      live

-- Arriving posts

said-heard : (b : Bool) (t : ℕ) (x : Heard) (os : List Object) → hearing_said t x (cond b Old (New (taking None x.channel os) (full None x.channel os))) ≡ cond b (said.Dropped reason.OldPost) (said.Heard t (letter_of x) (reached None x.channel os))
said-heard true t x os = refl
said-heard false t x os = ap (λ (objects : List Reached). said.Heard t (letter_of x) objects) (merged-reached 0 None x.channel os)

pub heard-said : (ts : Table TabState) (cs : Table ChannelState) (s : SupervisedState) (bag : List Message) (corrupt : List ℕ) (w : WorldState) → world_of ts cs s bag corrupt ≡ w → (t : ℕ) (x : Heard) → lives w t ≡ true → (h : Hearing) → h ≡ hearing_of (frame.Heard x) (row_of t cs) → hearing_said t x h ≡ alive_or w t (hearing t x (channels_of w t))
heard-said ts cs s bag corrupt w v t x live h is =
    subst (λ (z : WorldState). lives z t ≡ true → hearing_said t x h ≡ alive_or z t (hearing t x (channels_of z t))) v
    (λ alive. let c = row_of t cs in ap (λ (g : Hearing). hearing_said t x g) is ∙ said-heard (is_old c x.source x.number) t x c.objects ∙ sym (rw alive refl))
    live
