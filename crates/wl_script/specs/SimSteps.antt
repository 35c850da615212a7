-- Helpers of the simulator's private contracts: the effect of one line and of one piece of a
-- script.
use Rattle.std.specs.Prelude.{◌≡◌, ℕ, ◌+◌, ◌≤◌, Bool, false, true, List, [], ◌∷◌, ◌++◌, length, Some, None, Result, Ok, Err}
use Rattle.wl_world_messages.specs.declared.effect.Effect.{Effect}
use Rattle.wl_world_messages.specs.declared.effect.Effect.TheVariants as said
use Rattle.wl_world_model.specs.World.{WorldState, empty_world}
use Rattle.wl_world_model.specs.Machine.{Machine}
use Rattle.wl_grammar.specs.Prefixes.{IsPrefixOf}
use Rattle.wl_script.specs.declared.sim.SimFault.{SimFault}
use Rattle.wl_script.specs.declared.sim.SimFault.TheVariants as sim
use Rattle.wl_script.specs.Played.{Played}
use Rattle.wl_script.specs.Sim.{Ran, runs, lines_of}

-- The kernel has opened the tab.
abbrev pub is_opened : Effect → Bool
is_opened (said.Opened tab partition) = true
is_opened (said.OpenedTwo tab partition) = true
is_opened s = false

-- The world is the result of the line, and the line's output was appended.
abbrev pub Becomes : Played → Machine → List ℕ → List ℕ → Type 0
Becomes p after before written = (after.world ≡ p.world) × (written ≡ before ++ p.written)

-- Scripts being read

-- The world, the number of the current line, and the part of that line read so far.
pub record SimState : Type 0 where
  pub world : WorldState
  pub number : ℕ
  pub text : List ℕ

abbrev pub at_first : SimState
at_first = record { world = empty_world; number = 1; text = [] }

-- The lines with `front` put before the first one.
abbrev pub first_after : List ℕ → List (List ℕ) → List (List ℕ)
first_after front [] = front ∷ []
first_after front (text ∷ texts) = (front ++ text) ∷ texts

-- The lines of a piece that continues the text `front`.
abbrev pub lines_after : List ℕ → List ℕ → List (List ℕ)
lines_after front piece = first_after front (lines_of piece)

-- How a run ends before its lines do.
abbrev pub EndsBy : Ran → SimFault → List ℕ → Type 0
EndsBy r (sim.Line n) output = (r.refused ≡ Some n) × (output ≡ r.written)
EndsBy r sim.Read output = ⊥
EndsBy r sim.Write output = IsPrefixOf output r.written
EndsBy r sim.TooManyReads output = ⊥
EndsBy r sim.Memory output = IsPrefixOf output r.written

-- The effect of playing one line.
abbrev pub PlaysLine : ℕ → WorldState → List ℕ → Result Machine SimFault → List ℕ → Type 0
PlaysLine n w text (Ok after) output = runs n w (text ∷ []) ≡ record { world = after.world; written = output; refused = None }
PlaysLine n w text (Err e) output = EndsBy (runs n w (text ∷ [])) e output

-- The lines that end in a piece were played.
pub record Plays (old : SimState) (piece : List ℕ) (new : SimState) (output : List ℕ) : Type 0 where
  pub texts : List (List ℕ)
  pub lines_are : lines_after old.text piece ≡ texts ++ new.text ∷ []
  pub ran : runs old.number old.world texts ≡ record { world = new.world; written = output; refused = None }
  pub number_is : new.number ≡ old.number + length texts
  pub within : new.number ≤ old.number + length piece

-- The effect of reading a piece. A run that ends in a piece does not depend on later input.
abbrev pub Takes : SimState → List ℕ → Result SimState SimFault → List ℕ → Type 0
Takes old piece (Ok new) output = Plays old piece new output
Takes old piece (Err e) output = (more : List ℕ) → EndsBy (runs old.number old.world (lines_after old.text (piece ++ more))) e output

-- The end of the script: the last line is the text read so far.
abbrev pub Closes : SimState → Result (Unit {0}) SimFault → List ℕ → Type 0
Closes old (Ok done) output =
    ((runs old.number old.world (old.text ∷ [])).refused ≡ None) × (output ≡ (runs old.number old.world (old.text ∷ [])).written)
Closes old (Err e) output = EndsBy (runs old.number old.world (old.text ∷ [])) e output
