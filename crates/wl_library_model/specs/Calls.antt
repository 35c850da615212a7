-- The calls whose contracts are relations are steps, too: sending the next frame, and taking bytes that were cut anywhere.
use Rattle.std.specs.Prelude.{◌≡◌, ◌≢◌, ◌⊎◌, ℕ, List, [], ◌∷◌, ◌++◌, Bool, true, false, length, take, drop, Option, Some, None}
use Rattle.std.specs.List.{flat_map, AllByRecursion}
use Rattle.wl_grammar.specs.declared.frame.Frame.{Frame}
use Rattle.wl_grammar.specs.Grammar.{IsWellFormed, spelling}
use Rattle.wl_frames.specs.Stream.{Feeding, Takes}
use Rattle.wl_client.specs.declared.sending.Output.{Output as ClientOutput}
use Rattle.wl_client.specs.declared.sending.Output.TheVariants.{Sent, Skipped}
use Rattle.wl_client.specs.Client.{ClientState}
use Rattle.wl_client.specs.Sending.{IsNext as IsNextOfClient}
use Rattle.wl_hub.specs.declared.sending.Output.{Output as HubOutput}
use Rattle.wl_hub.specs.declared.sending.Output.TheVariants.{Idle, For, Dropped}
use Rattle.wl_hub.specs.Hub.{HubState}
use Rattle.wl_hub.specs.Sending.{IsNext as IsNextOfHub}
use Rattle.wl_library_model.specs.Library.{Library, HubSends, is_due, sending, step}

-- The bytes of a well-formed frame are appended.
pub record IsAppended (f : Frame) (before after : List ℕ) : Type 0 where
  pub well_formed : IsWellFormed f
  pub bytes : after ≡ before ++ spelling f

-- `Hub::next_output` is `HubSends`. It appends the oldest frame and returns its tab if the frame is due, and drops it otherwise.
-- A frame that is due and not well-formed is dropped, too, while the machine sends it.
abbrev pub Sends : Bool → ℕ → Frame → HubOutput → List ℕ → List ℕ → Type 0
Sends true t f done before after = ((done ≡ For t) × IsAppended f before after) ⊎ ((IsWellFormed f → ⊥) × (done ≡ Dropped) × (after ≡ before))
Sends false t f done before after = (done ≡ Dropped) × (after ≡ before)

abbrev pub SendsOldest : List (ℕ × Frame) → HubState → HubOutput → List ℕ → List ℕ → Type 0
SendsOldest [] h done before after = (done ≡ Idle) × (after ≡ before)
SendsOldest (o ∷ os) h done before after = Sends (is_due h o) o.0 o.1 done before after

abbrev pub HubOutputIsStep : Type 0
HubOutputIsStep =
    (l : Library) (new : HubState) (done : HubOutput) (before after : List ℕ) → IsNextOfHub l.hub done before after new →
    (new ≡ (step HubSends l).hub) × SendsOldest l.hub.outputs l.hub done before after

-- `Client::next_output` is `ClientSends`. It appends the frame of the oldest item, if there is one. A frame that is not
-- well-formed is skipped, while the machine sends it.
abbrev pub SendsIfAny : Option Frame → ClientOutput → List ℕ → List ℕ → Type 0
SendsIfAny None done before after = (done ≢ Sent) × (after ≡ before)
SendsIfAny (Some f) done before after = ((done ≡ Sent) × IsAppended f before after) ⊎ ((IsWellFormed f → ⊥) × (done ≡ Skipped) × (after ≡ before))

abbrev pub ClientOutputIsStep : Type 0
ClientOutputIsStep =
    (c new : ClientState) (done : ClientOutput) (before after : List ℕ) → IsNextOfClient c done before after new →
    (new ≡ (sending c).client) × SendsIfAny (sending c).frame done before after

-- If a decoder's rest and the bytes of its link spell the frames on their way, then a piece of any length gives the first
-- of these frames, as in `HubReceives` and `ClientReceives`, and what is left spells the others.
abbrev pub PiecesAreFrames : Type 0
PiecesAreFrames =
    (old new : Feeding) (piece tail : List ℕ) (frames fs : List Frame) → AllByRecursion IsWellFormed fs →
    old.rest ++ piece ++ tail ≡ flat_map spelling fs → Takes old new piece frames →
    (frames ≡ take (length frames) fs) × (new.rest ++ tail ≡ flat_map spelling (drop (length frames) fs))
