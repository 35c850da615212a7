-- The output of the simulator for a script.
use Rattle.std.specs.Prelude.{◌≡◌, ◌⊎◌, ⊤, ℕ, ◌+◌, ◌==◌, List, [], ◌∷◌, ◌++◌, Option, Some, None, Result, Ok, Err}
use Rattle.std.specs.List.{slice_split}
use Rattle.std.specs.Io.KnownBytes.{Consumes, Appends, IsAtEnd}
use Rattle.wl_world_model.specs.World.{WorldState, empty_world}
use Rattle.wl_grammar.specs.Prefixes.{IsPrefixOf}
use Rattle.wl_script.specs.declared.sim_line.SimLine.{SimLine}
use Rattle.wl_script.specs.declared.sim.SimFault.{SimFault}
use Rattle.wl_script.specs.declared.sim.SimFault.TheVariants as sim
use Rattle.wl_script.specs.SimLines.{line_at}
use Rattle.wl_script.specs.Played.{played}

-- The result of playing lines: the world, the output, and the number of the first line with a
-- syntax error.
pub record Ran : Type 0 where
  pub world : WorldState
  pub written : List ℕ
  pub refused : Option ℕ

-- Plays line n and goes on with the rest. A syntax error ends the run.
abbrev pub goes : ℕ → WorldState → Option SimLine → (WorldState → Ran) → Ran
goes n w None rest = record { world = w; written = []; refused = Some n }
goes n w (Some l) rest = let p = played w l in record (rest p.world) { written = p.written ++ (rest p.world).written }

-- The run over these lines. The first one has number n.
abbrev pub runs : ℕ → WorldState → List (List ℕ) → Ran
runs n w [] = record { world = w; written = []; refused = None }
runs n w (text ∷ texts) = goes n w (line_at text) (λ after. runs (n + 1) after texts)

-- The lines of a script, separated by line feeds. The text after the last line feed is one more
-- line.
abbrev pub lines_of : List ℕ → List (List ℕ)
lines_of script = slice_split (λ b. b == 10) script

-- All lines but the last, which has no line feed yet.
abbrev pub whole_lines : List (List ℕ) → List (List ℕ)
whole_lines [] = []
whole_lines (text ∷ []) = []
whole_lines (text ∷ next ∷ texts) = text ∷ whole_lines (next ∷ texts)

-- The run over a whole script, with lines counted from 1.
abbrev pub run_of : List ℕ → Ran
run_of script = runs 1 empty_world (lines_of script)

abbrev pub whole_run_of : List ℕ → Ran
whole_run_of script = runs 1 empty_world (whole_lines (lines_of script))

-- The output of a run over an input, by the run's result.
abbrev pub Answered : List ℕ → Result (Unit {0}) SimFault → List ℕ → Type 0
-- Every line was played.
Answered input (Ok done) output = ((run_of input).refused ≡ None) × (output ≡ (run_of input).written)
-- Line n is the first with a syntax error, and the lines before it were played.
Answered input (Err (sim.Line n)) output = ((run_of input).refused ≡ Some n) × (output ≡ (run_of input).written)
-- The reader failed, or the read limit was reached. The lines that have a line feed were played.
Answered input (Err sim.Read) output = ((whole_run_of input).refused ≡ None) × (output ≡ (whole_run_of input).written)
Answered input (Err sim.TooManyReads) output = ((whole_run_of input).refused ≡ None) × (output ≡ (whole_run_of input).written)
-- The writer failed, or memory ran out. The output is a prefix of the full output.
Answered input (Err sim.Write) output = IsPrefixOf output (run_of input).written
Answered input (Err sim.Memory) output = IsPrefixOf output (run_of input).written

-- A run succeeds only at the end of the script. A syntax error is found at that end, or does not
-- depend on later input.
abbrev pub NeedsEnd : List ℕ → Result (Unit {0}) SimFault → Option (List ℕ) → Type 0
NeedsEnd input (Ok done) reader = IsAtEnd reader
NeedsEnd input (Err (sim.Line n)) reader = IsAtEnd reader ⊎ ((more : List ℕ) → (run_of (input ++ more)).refused ≡ Some n)
NeedsEnd input (Err e) reader = ⊤

-- The reader gave an input, and the writer took the answer to it.
pub record Runs (reader_before reader_after writer_before writer_after : Option (List ℕ)) (result : Result (Unit {0}) SimFault) : Type 0 where
  pub input : List ℕ
  pub output : List ℕ
  pub consumed : Consumes reader_before reader_after input
  pub appended : Appends writer_before writer_after output
  pub answered : Answered input result output
  pub at_end : NeedsEnd input result reader_after
