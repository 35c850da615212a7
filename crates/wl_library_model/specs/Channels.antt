-- Channels of the library (HTML Standard, section 9.5): the calls that reach the channels of a tab's client, and the
-- posts that its objects take.
use Rattle.std.specs.Prelude.{◌≡◌, ℕ, ◌<◌, List, [], ◌∷◌, ◌++◌, true, false, not, length, is_some, ◌&&◌, ◌==◌, if◌then◌else◌}
use Rattle.wl_grammar.specs.declared.frame.Frame.{Frame}
use Rattle.wl_grammar.specs.declared.frame.Frame.TheVariants as frame
use Rattle.wl_grammar.specs.declared.frame.Heard.{Heard}
use Rattle.wl_draft.specs.Membership.{In}
use Rattle.wl_kernel.specs.Routes.{hearers}
use Rattle.wl_tab.specs.TabChannels.{posting_refusal}
use Rattle.wl_broadcast.specs.Channels.{no_channels, is_open_at, name_at}
use Rattle.wl_broadcast.specs.Heard.{Call, HearsOthers, RisesFrom, of_source, takes_in, after}
use Rattle.wl_broadcast.specs.Heard.{Opens as OpensOne, Posts as PostsOn, Hears, Reads as ReadsFrom, Closes as ClosesOne}
use Rattle.wl_client.specs.Client.{ClientState, channel_refusal}
use Rattle.wl_library_model.specs.Library.{Library, Step, HubAdvances, is_taken, OpensChannel, Posts, Reads, ClosesChannel, ClientAdvances, new_library, client_of, runs, step, run_steps}

-- A call of the client of tab `u`, as a call on the channels of tab `t`.
abbrev pub called_by : ℕ → ℕ → Library → Call → List Call
called_by t u l call = if u == t && (runs l u && (client_of l u).is_welcomed) then call ∷ [] else []

-- Only a post of another tab reaches the channels.
abbrev pub heard_by : Frame → List Call
heard_by (frame.Heard h) = Hears h ∷ []
heard_by f = []

abbrev pub handled_by : ClientState → List Frame → List Call
handled_by c [] = []
handled_by c (f ∷ fs) = if c.is_welcomed then heard_by f else []

-- The calls on the channels of tab `t` that a step makes.
abbrev pub channel_calls_of : ℕ → Library → Step → List Call
channel_calls_of t l (OpensChannel u name) = called_by t u l (OpensOne name)
channel_calls_of t l (Posts u k bytes) = called_by t u l (PostsOn k bytes)
channel_calls_of t l (Reads u k) = called_by t u l (ReadsFrom k)
channel_calls_of t l (ClosesChannel u k) = called_by t u l (ClosesOne k)
channel_calls_of t l (ClientAdvances u) = if u == t && runs l u then handled_by (client_of l u) (client_of l u).arrived else []
channel_calls_of t l x = []

abbrev pub channel_calls_from : ℕ → Library → List Step → List Call
channel_calls_from t l [] = []
channel_calls_from t l (x ∷ xs) = channel_calls_of t l x ++ channel_calls_from t (step x l) xs

abbrev pub channel_calls : ℕ → List Step → List Call
channel_calls t steps = channel_calls_from t new_library steps

-- A welcomed client has the channels that these calls make of none, and each post that reaches them from the hub is of
-- another tab.
pub record HasChannelsOf (steps : List Step) (t : ℕ) (c : ClientState) : Type 0 where
  pub channels : c.channels ≡ after (channel_calls t steps) (no_channels t)
  pub others : HearsOthers t (channel_calls t steps)

abbrev pub ChannelsAreCalls : Type 0
ChannelsAreCalls =
    (steps : List Step) (t : ℕ) → let c = client_of (run_steps steps new_library) t in
    c.is_welcomed ≡ true → HasChannelsOf steps t c

-- The numbers of the posts that an object takes of one source strictly rise.
abbrev pub HeardRising : Type 0
HeardRising = (steps : List Step) (t k source : ℕ) → RisesFrom 0 (of_source source (takes_in k (channel_calls t steps) (no_channels t)))

-- A closed object takes no posts, whatever steps follow.
abbrev pub HeardTillClosed : Type 0
HeardTillClosed =
    (before later : List Step) (t k : ℕ) → let l = run_steps before new_library in
    k < length (client_of l t).channels.objects → is_open_at (client_of l t).channels.objects k ≡ false →
    takes_in k (channel_calls_from t l later) (client_of l t).channels ≡ []

-- Where posts come from

-- By one of the steps, the client of tab `s` posted these bytes under this number, on an object of this name.
pub record WasPostedBy (steps : List Step) (s number : ℕ) (name bytes : List ℕ) : Type 0 where
  pub before : List Step
  pub later : List Step
  pub object : ℕ
  pub split : steps ≡ before ++ Posts s object bytes ∷ later
  pub named : name_at (client_of (run_steps before new_library) s).channels.objects object ≡ name
  pub numbered : (client_of (run_steps before new_library) s).channels.posts ≡ number
  pub accepted :
      let c = client_of (run_steps before new_library) s in
      runs (run_steps before new_library) s && not (is_some (channel_refusal (posting_refusal object bytes c.channels) c)) ≡ true

-- At one of the steps the hub sent a post of tab `s` on to the other living tabs of its partition, and `t` was one.
pub record WasRouted (steps : List Step) (t s : ℕ) : Type 0 where
  pub before : List Step
  pub later : List Step
  pub split : steps ≡ before ++ HubAdvances ∷ later
  pub hears : In t (hearers s (run_steps before new_library).hub.supervised.kernel)

-- The hub handed the post on from its source's partition. An honest source's client has made it.
pub record IsPostHeard (steps : List Step) (l : Library) (t : ℕ) (h : Heard) : Type 0 where
  pub routed : WasRouted steps t h.source
  pub posted : is_taken l h.source ≡ false → WasPostedBy steps h.source h.number h.channel h.bytes

abbrev pub HeardArePosts : Type 0
HeardArePosts =
    (steps : List Step) (t : ℕ) (h : Heard) →
    In (Hears h) (channel_calls t steps) → IsPostHeard steps (run_steps steps new_library) t h
