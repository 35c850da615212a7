-- The posts that a channel object receives, over every list of events (HTML Standard 9.5 BroadcastChannel).
use Rattle.std.specs.Prelude.{◌≡◌, ℕ, ◌<◌, List, [], ◌∷◌, ◌++◌, Bool, true, false, not, ◌&&◌, ◌==◌, length, drop, is_some, if◌then◌else◌}
use Rattle.wl_broadcast.specs.declared.letter.Letter.{Letter}
use Rattle.wl_broadcast.specs.Channels.{Object, post_refusal, name_at, inbox_at, is_open_at}
use Rattle.wl_broadcast.specs.Heard.{of_source, RisesFrom}
use Rattle.wl_world_messages.specs.declared.effect.Effect.{Effect}
use Rattle.wl_world_messages.specs.declared.effect.Effect.TheVariants as said
use Rattle.wl_draft.specs.Membership.{In}
use Rattle.wl_world_model.specs.declared.event.Event.{Event}
use Rattle.wl_world_model.specs.declared.event.Event.TheVariants as event
use Rattle.wl_world_model.specs.World.{WorldState, empty_world, channels_of, lives, after_event, run}
use Rattle.wl_world_model.specs.Replies.{reply_of}
use Rattle.wl_world_model.specs.Holdings.{IsHonest, partition_at}

-- A tab's channel objects, in the order of opening.
abbrev pub objects_of : WorldState → ℕ → List Object
objects_of w t = (channels_of w t).objects

-- The posts that an event adds to the inbox of object `k` of tab `t`.
abbrev pub takes_at : ℕ → ℕ → WorldState → Event → List Letter
takes_at t k w e = drop (length (inbox_at (objects_of w t) k)) (inbox_at (objects_of (after_event w e) t) k)

-- All posts that these events add to the inbox, in order, whether read or not.
abbrev pub taken_in : ℕ → ℕ → List Event → WorldState → List Letter
taken_in t k [] w = []
taken_in t k (e ∷ es) w = takes_at t k w e ++ taken_in t k es (after_event w e)

abbrev pub taken : ℕ → ℕ → List Event → List Letter
taken t k events = taken_in t k events empty_world

-- The post that a reply reports as read.
abbrev pub letters_in : Effect → List Letter
letters_in (said.Read l) = l ∷ []
letters_in s = []

-- The post that the reply to an event reports as read from object `k` of tab `t`.
abbrev pub told_by : ℕ → ℕ → Event → Effect → List Letter
told_by t k (event.Read u j) s = if u == t && j == k then letters_in s else []
told_by t k e s = []

-- All posts that the replies to these events report as read.
abbrev pub read_in : ℕ → ℕ → List Event → WorldState → List Letter
read_in t k [] w = []
read_in t k (e ∷ es) w = told_by t k e (reply_of w e).said ++ read_in t k es (after_event w e)

-- Posts

-- The tab lives and may post these bytes on its object `j`.
abbrev pub may_post : WorldState → ℕ → ℕ → List ℕ → Bool
may_post w t j bytes = lives w t && not (is_some (post_refusal t j bytes (channels_of w t)))

-- The tab posted these bytes on its object `j`, which has this name, as the post of this number.
pub record WasPosted (events : List Event) (t j number : ℕ) (name bytes : List ℕ) : Type 0 where
  pub before : List Event
  pub later : List Event
  pub split : events ≡ before ++ event.Post t j bytes ∷ later
  pub accepted : may_post (run before empty_world) t j bytes ≡ true
  pub named : name_at (objects_of (run before empty_world) t) j ≡ name
  pub numbered : (channels_of (run before empty_world) t).posts ≡ number

-- The letter is a post by its source, from the partition of tab `t`, to the name of its object `k`. It was
-- not posted on that object itself.
pub record IsPostFor (events : List Event) (t k : ℕ) (l : Letter) : Type 0 where
  pub object : ℕ
  pub posted : WasPosted events l.source object l.number (name_at (objects_of (run events empty_world) t) k) l.bytes
  pub partition : partition_at (run events empty_world) l.source ≡ partition_at (run events empty_world) t
  pub another : (l.source ≡ t) × (object ≡ k) → ⊥

-- Properties of one list of events and its world, for every object

-- An object takes posts of one source with strictly rising numbers.
abbrev pub HeardRising : List Event → Type 0
HeardRising events = (t k source : ℕ) → RisesFrom 0 (of_source source (taken t k events))

-- Each post that an object takes from an honest source was posted to it.
abbrev pub HeardPosts : List Event → Type 0
HeardPosts events = (t k : ℕ) (l : Letter) → IsHonest (run events empty_world) l.source → In l (taken t k events) → IsPostFor events t k l

-- A closed object takes no posts, and no reply reports a post as read from it.
abbrev pub HeardTillClosed : List Event → Type 0
HeardTillClosed events =
    (before later : List Event) (t k : ℕ) → let w = run before empty_world in
    before ++ later ≡ events → k < length (objects_of w t) → is_open_at (objects_of w t) k ≡ false
    → (taken_in t k later w ≡ []) × (read_in t k later w ≡ [])

-- The posts taken are those read, as the replies say, followed by a rest. The rest is the inbox while the object is open.
pub record IsReadInOrder (events : List Event) (w : WorldState) (t k : ℕ) : Type 0 where
  pub rest : List Letter
  pub took : taken t k events ≡ read_in t k events empty_world ++ rest
  pub waits : is_open_at (objects_of w t) k ≡ true → rest ≡ inbox_at (objects_of w t) k

abbrev pub HeardIsRead : List Event → WorldState → Type 0
HeardIsRead events w = (t k : ℕ) → IsReadInOrder events w t k

-- The laws, over every list of events

abbrev pub HeardRisingForAll : Type 0
HeardRisingForAll = (events : List Event) → HeardRising events

abbrev pub HeardPostsForAll : Type 0
HeardPostsForAll = (events : List Event) → HeardPosts events

abbrev pub HeardTillClosedForAll : Type 0
HeardTillClosedForAll = (events : List Event) → HeardTillClosed events

abbrev pub HeardIsReadForAll : Type 0
HeardIsReadForAll = (events : List Event) → HeardIsRead events (run events empty_world)
