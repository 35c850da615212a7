-- Helpers that merge the destination lists of a post, and that turn its frames into messages.
use Rattle.std.specs.Prelude.{ℕ, List, [], ◌∷◌, ◌++◌, map, take, drop, nat_lt, Option, Some, None}
use Rattle.std.specs.List.{prefix_len}
use Rattle.wl_grammar.specs.declared.frame.Frame.{Frame}
use Rattle.wl_grammar.specs.declared.frame.Frame.TheVariants as frame
use Rattle.wl_grammar.specs.declared.frame.Heard.{Heard}
use Rattle.wl_broadcast.specs.declared.letter.Posted.{Posted}
use Rattle.wl_broadcast.specs.declared.letter.Hearing.{Hearing}
use Rattle.wl_broadcast.specs.declared.letter.Hearing.TheVariants.{Old, New}
use Rattle.wl_world_messages.specs.declared.effect.Effect.{Effect}
use Rattle.wl_world_messages.specs.declared.effect.Effect.TheVariants as said
use Rattle.wl_world_messages.specs.declared.effect.Reason.TheVariants as reason
use Rattle.wl_world_messages.specs.declared.effect.Reached.{Reached}
use Rattle.wl_world_messages.specs.declared.effect.Reached.TheVariants.{Took, Full}
use Rattle.wl_world_messages.specs.declared.message.Message.{Message}
use Rattle.wl_world_messages.specs.declared.message.Message.TheVariants.{Across}
use Rattle.wl_world_model.specs.Replies.{letter_of}

-- The length of the longest prefix of numbers below the bound.
abbrev pub count_below : ℕ → List ℕ → ℕ
count_below bound numbers = prefix_len (λ n. nat_lt n bound) numbers

-- Merges the destinations that took a post with those that were full, by rising number.
abbrev pub merged : List ℕ → List ℕ → List Reached
merged took [] = map Took took
merged took (f ∷ fs) = map Took (take (count_below f took) took) ++ Full f ∷ merged (drop (count_below f took) took) fs

-- A frame that the kernel routes to a tab, as the message that arrives there. Only `Heard` frames become messages.
abbrev pub across_to : ℕ → Frame → Option Message
across_to t (frame.Heard x) = Some (Across t x)
across_to t f = None

abbrev pub number_in : Frame → ℕ
number_in (frame.Post p) = p.number
number_in f = 0

-- The reply to a post.
abbrev pub posted_said : ℕ → List ℕ → Posted → Effect
posted_said t bytes p = said.Posted t (number_in p.frame) bytes (merged p.took p.full)

-- The reply to the arrival of another tab's post.
abbrev pub hearing_said : ℕ → Heard → Hearing → Effect
hearing_said t x Old = said.Dropped reason.OldPost
hearing_said t x (New took full) = said.Heard t (letter_of x) (merged took full)
