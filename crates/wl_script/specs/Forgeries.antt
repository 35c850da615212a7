-- Forged messages in scripts: a frame body in hexadecimal.
use Rattle.std.specs.Prelude.{◌≡◌, ◌↔◌, ℕ, ◌<◌, List, All, Option, Some, None, Result, Ok, Err, if◌then◌else◌}
use Rattle.std.specs.List.{list_any}
use Rattle.std.specs.Char.{is_ascii_lowercase}
use Rattle.hex.specs.Hex.{decode_of}
use Rattle.hex.specs.declared.error.FromHexError.{FromHexError}
use Rattle.wl_frames.specs.declared.fault.FrameFault.{FrameFault}
use Rattle.wl_frames.specs.declared.fault.FrameFault.TheVariants as fault
use Rattle.wl_grammar.specs.declared.frame.Frame.{Frame}
use Rattle.wl_grammar.specs.declared.frame.Frame.TheVariants as frame
use Rattle.wl_grammar.specs.declared.frame.Upward.TheVariants as up
use Rattle.wl_grammar.specs.Grammar.{IsBody}
use Rattle.wl_frames.specs.Reading.{◌>>=◌}
use Rattle.wl_frames.specs.Bodies.{inner_kind_at, frame_at, all_of}
use Rattle.wl_script_words.specs.declared.parse_fault.ParseFault.{ParseFault}
use Rattle.wl_script_words.specs.declared.parse_fault.ParseFault.TheVariants as unread
use Rattle.wl_world_model.specs.declared.event.Forged.{Forged}
use Rattle.wl_world_model.specs.declared.event.Forged.TheVariants as forged

abbrev pub decoded : Result (List ℕ) FromHexError → Option (List ℕ)
decoded (Ok bytes) = Some bytes
decoded (Err e) = None

-- Bytes written as pairs of uppercase hexadecimal digits.
unfoldable pub hex_at : List ℕ → Option (List ℕ)
hex_at word = if list_any is_ascii_lowercase word then None else decoded (decode_of word)

-- The frame with this body.
unfoldable pub body_at : List ℕ → Option Frame
body_at bytes = do
  kind ← inner_kind_at bytes
  fields ← frame_at kind.0 kind.1
  whole ← all_of fields
  Some whole.0

-- The reason for refusing a word whose frame has a fault.
abbrev pub unread_of : FrameFault → ParseFault
unread_of fault.Memory = unread.Memory
unread_of _ = unread.Form

-- The message that a frame is when a tab sends it: a command, a report, a report part or a post.
abbrev pub tab_says : Frame → Option Forged
tab_says (frame.Command c) = Some (forged.Upward (up.Command c))
tab_says (frame.Report r) = Some (forged.Upward (up.Report r))
tab_says (frame.ReportPart r) = Some (forged.Upward (up.ReportPart r))
tab_says (frame.Post p) = Some (forged.Post p)
tab_says f = None

unfoldable pub forged_at : List ℕ → Option Forged
forged_at word = hex_at word >>= body_at >>= tab_says

-- Law

-- The frame read from a body is the frame that the grammar assigns to its bytes.
abbrev pub ReadsBodies : Type 0
ReadsBodies = (bytes : List ℕ) (f : Frame) → All (λ b. b < 256) bytes → (body_at bytes ≡ Some f) ↔ IsBody bytes f
