-- Lemmas on whole runs: the input and output so far, how a run ends, and which side failed.
use Rattle.std.proofs.Common.{◌≡◌, inl, inr, ℕ, List, [], ◌∷◌, ◌++◌, Bool, true, false, Option, None, Result, Ok, Err, refl, sym, ap, subst, ◌∙◌, append_assoc, append-nil}
use Rattle.std.specs.Io.KnownBytes.{Consumes, Appends, Keeps, IsAtEnd}
use Rattle.std.proofs.KnownBytes.{Consumes-trans, Appends-trans, Consumes-kept, Keeps-refl}
use Rattle.wl_world_model.specs.World.{empty_world}
use Rattle.wl_frames.specs.declared.device.ReadFault.{ReadFault}
use Rattle.wl_frames.specs.declared.device.ReadFault.TheVariants as read
use Rattle.wl_frames.specs.Faults.{of_read}
use Rattle.wl_script.specs.declared.sim.SimFault.{SimFault}
use Rattle.wl_script.specs.declared.sim.SimFault.TheVariants as sim
use Rattle.wl_script.specs.Sim.{Ran, runs, whole_lines, run_of, whole_run_of, Answered, NeedsEnd, Runs}
use Rattle.wl_script.specs.SimSteps.{SimState, at_first, lines_after, EndsBy, Plays, Closes}
use Rattle.wl_script.proofs.Splits.{lines_after-nil, lines_none, whole_but_last}
use Rattle.wl_script.proofs.RunLemmas.{before, EndsBy-before, runs-after, Plays-more, Ends-after}

-- Helper: the whole lines read so far were played.
pub record Stands (reader_before reader_now writer_before writer_now : Option (List ℕ)) (s : SimState) : Type 0 where
  pub input : List ℕ
  pub output : List ℕ
  pub consumed : Consumes reader_before reader_now input
  pub appended : Appends writer_before writer_now output
  pub plays : Plays at_first input s output

pub Stands-more : (a b b' c d d' : Option (List ℕ)) (old new : SimState) (piece output : List ℕ) → Stands a b c d old → Consumes b b' piece → Appends d d' output
    → Plays old piece new output → Stands a b' c d' new
Stands-more a b b' c d d' old new piece output h consumed appended plays = record {
  input = h.input ++ piece;
  output = h.output ++ output;
  consumed = Consumes-trans a b b' h.input piece h.consumed consumed;
  appended = Appends-trans c d d' h.output output h.appended appended;
  plays = Plays-more at_first old new h.input piece h.output output h.plays plays;
}

-- How a run ends

-- A run that ends early ends with a syntax error, a writer failure, or out of memory.
answered_by : (input : List ℕ) (e : SimFault) (output : List ℕ) → EndsBy (run_of input) e output → Answered input (Err e) output
answered_by input (sim.Line n) output h = h
answered_by input sim.Read output h = absurd h
answered_by input sim.Write output h = h
answered_by input sim.TooManyReads output h = absurd h
answered_by input sim.Memory output h = h

-- A run that ended early does not depend on the input that the reader still has.
needs_no_end : (input : List ℕ) (e : SimFault) (output : List ℕ) (reader : Option (List ℕ)) → ((more : List ℕ) → EndsBy (run_of (input ++ more)) e output) → NeedsEnd input (Err e) reader
needs_no_end input (sim.Line n) output reader h = inr (λ more. (h more).0)
needs_no_end input sim.Read output reader h = tt
needs_no_end input sim.Write output reader h = tt
needs_no_end input sim.TooManyReads output reader h = tt
needs_no_end input sim.Memory output reader h = tt

ends-whole : (old : SimState) (input before piece output : List ℕ) (e : SimFault) → Plays at_first input old before
    → ((more : List ℕ) → EndsBy (runs old.number old.world (lines_after old.text (piece ++ more))) e output)
    → (more : List ℕ) → EndsBy (run_of ((input ++ piece) ++ more)) e (before ++ output)
ends-whole old input before piece output e plays ends more =
    subst (λ script. EndsBy (run_of script) e (before ++ output)) (sym (append_assoc input piece more))
    (subst (λ texts. EndsBy (runs 1 empty_world texts) e (before ++ output)) (lines_after-nil (input ++ (piece ++ more)))
    (Ends-after at_first old input (piece ++ more) before output e plays (ends more)))

pub Runs-broken : (a b b' c d d' : Option (List ℕ)) (old : SimState) (piece output : List ℕ) (e : SimFault) → Stands a b c d old → Consumes b b' piece → Appends d d' output
    → ((more : List ℕ) → EndsBy (runs old.number old.world (lines_after old.text (piece ++ more))) e output) → Runs a b' c d' (Err e)
Runs-broken a b b' c d d' old piece output e h consumed appended ends =
    let whole = ends-whole old h.input h.output piece output e h.plays ends in record {
      input = h.input ++ piece;
      output = h.output ++ output;
      consumed = Consumes-trans a b b' h.input piece h.consumed consumed;
      appended = Appends-trans c d d' h.output output h.appended appended;
      answered = answered_by (h.input ++ piece) e (h.output ++ output) (subst (λ script. EndsBy (run_of script) e (h.output ++ output)) (append-nil (h.input ++ piece)) (whole []));
      at_end = needs_no_end (h.input ++ piece) e (h.output ++ output) b' whole;
    }

-- The lines with a line feed are the lines played.
whole_is : (input output : List ℕ) (s : SimState) → Plays at_first input s output → whole_run_of input ≡ record { world = s.world; written = output; refused = None }
whole_is input output s h =
    ap (λ texts. runs 1 empty_world (whole_lines texts)) (sym (lines_after-nil input) ∙ h.lines_are)
    ∙ ap (runs 1 empty_world) (whole_but_last h.texts s.text)
    ∙ h.ran

unread_answered : (input output : List ℕ) (s : SimState) (e : ReadFault) → Plays at_first input s output → Answered input (Err (of_read sim.Read sim.TooManyReads e)) output
unread_answered input output s read.Failed h =
    let is = whole_is input output s h in (ap (λ (r : Ran). r.refused) is, sym (ap (λ (r : Ran). r.written) is))
unread_answered input output s read.TooManyReads h =
    let is = whole_is input output s h in (ap (λ (r : Ran). r.refused) is, sym (ap (λ (r : Ran). r.written) is))

unread_needs_none : (input : List ℕ) (e : ReadFault) (reader : Option (List ℕ)) → NeedsEnd input (Err (of_read sim.Read sim.TooManyReads e)) reader
unread_needs_none input read.Failed reader = tt
unread_needs_none input read.TooManyReads reader = tt

-- A failed read and the read limit take no input.
keeps_unread : (b b' : Option (List ℕ)) (e : ReadFault) → (e ≡ read.Failed → Keeps b b') → (e ≡ read.TooManyReads → b' ≡ b) → Keeps b b'
keeps_unread b b' read.Failed failed limit = failed refl
keeps_unread b b' read.TooManyReads failed limit = subst (Keeps b) (sym (limit refl)) (Keeps-refl b)

pub Runs-unread : (a b b' c d : Option (List ℕ)) (s : SimState) (e : ReadFault) → Stands a b c d s → (e ≡ read.Failed → Keeps b b') → (e ≡ read.TooManyReads → b' ≡ b)
    → Runs a b' c d (Err (of_read sim.Read sim.TooManyReads e))
Runs-unread a b b' c d s e h failed limit = record {
  input = h.input;
  output = h.output;
  consumed = Consumes-kept a b b' h.input h.consumed (keeps_unread b b' e failed limit);
  appended = h.appended;
  answered = unread_answered h.input h.output s e h.plays;
  at_end = unread_needs_none h.input e b';
}

pub Runs-limit : (a b c d : Option (List ℕ)) (s : SimState) → Stands a b c d s → Runs a b c d (Err sim.TooManyReads)
Runs-limit a b c d s h = Runs-unread a b b c d s read.TooManyReads h (λ e. cc) (λ e. refl)

-- At the end of the script, the whole run is the output so far followed by the run of the last
-- line.
run_at_end : (input output : List ℕ) (s : SimState) → Plays at_first input s output → run_of input ≡ before output (runs s.number s.world (s.text ∷ []))
run_at_end input output s h =
    ap (runs 1 empty_world) (sym (lines_after-nil input) ∙ ap (lines_after []) (sym (append-nil input)))
    ∙ runs-after at_first s input [] output h
    ∙ ap (λ texts. before output (runs s.number s.world texts)) (lines_none s.text)

closes_answered : (input output last : List ℕ) (s : SimState) (r : Result (Unit {0}) SimFault) → Plays at_first input s output → Closes s r last → Answered input r (output ++ last)
closes_answered input output last s (Ok done) h closes =
    let is = run_at_end input output s h in
    (ap (λ (r : Ran). r.refused) is ∙ closes.0, ap (λ l. output ++ l) closes.1 ∙ sym (ap (λ (r : Ran). r.written) is))
closes_answered input output last s (Err e) h closes =
    answered_by input e (output ++ last) (subst (λ r. EndsBy r e (output ++ last)) (sym (run_at_end input output s h)) (EndsBy-before output (runs s.number s.world (s.text ∷ [])) e last closes))

end_is_needed : (input : List ℕ) (r : Result (Unit {0}) SimFault) (reader : Option (List ℕ)) → IsAtEnd reader → NeedsEnd input r reader
end_is_needed input (Ok done) reader at_end = at_end
end_is_needed input (Err (sim.Line n)) reader at_end = inl at_end
end_is_needed input (Err sim.Read) reader at_end = tt
end_is_needed input (Err sim.Write) reader at_end = tt
end_is_needed input (Err sim.TooManyReads) reader at_end = tt
end_is_needed input (Err sim.Memory) reader at_end = tt

pub Runs-end : (a b b' c d d' : Option (List ℕ)) (s : SimState) (none last : List ℕ) (r : Result (Unit {0}) SimFault) → Stands a b c d s → Consumes b b' none → none ≡ []
    → IsAtEnd b' → Appends d d' last → Closes s r last → Runs a b' c d' r
Runs-end a b b' c d d' s none last r h consumed empty at_end appended closes = record {
  input = h.input;
  output = h.output ++ last;
  consumed = subst (Consumes a b') (ap (λ l. h.input ++ l) empty ∙ append-nil h.input) (Consumes-trans a b b' h.input none h.consumed consumed);
  appended = Appends-trans c d d' h.output last h.appended appended;
  answered = closes_answered h.input h.output last s r h.plays closes;
  at_end = end_is_needed h.input r b' at_end;
}

-- Reader and writer failures

-- Playing a piece never fails with a reader's fault.
pub no_read : {X : Type 0} (result : Result X SimFault) (old : SimState) (piece : List ℕ) (e : SimFault) (output : List ℕ) → result ≡ Err e → ((more : List ℕ) → EndsBy (runs old.number old.world (lines_after old.text (piece ++ more))) e output) → (result ≡ Err sim.Read → ⊥) × (result ≡ Err sim.TooManyReads → ⊥)
no_read result old piece (sim.Line n) output is ends = (λ other. cc, λ other. cc)
no_read result old piece sim.Read output is ends = absurd (ends [])
no_read result old piece sim.Write output is ends = (λ other. cc, λ other. cc)
no_read result old piece sim.TooManyReads output is ends = absurd (ends [])
no_read result old piece sim.Memory output is ends = (λ other. cc, λ other. cc)

pub sound_at_ok : {X : Type 0} (x : X) (b : Bool) → (b ≡ true → Ok x ≡ Err sim.Write) → b ≡ false
sound_at_ok x true h = let e = h refl in cc
sound_at_ok x false h = refl
