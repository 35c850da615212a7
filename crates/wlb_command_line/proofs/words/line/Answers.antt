-- Lemmas on clap's result for the command line.
use Rattle.std.proofs.Common.{◌≢◌, IfErr, IsErrAnd, Result, Ok, Err, ◌≡◌, ◌∙◌, ⊎_elim, refl, sym, subst, ap, true, List, [], map}
use Rattle.std.specs.String.{string_bytes}
use Rattle.clap.specs.Words.{App, HasKind, HasMatchesOf, IsAmong, Kinds, Text, fault_of, is_simple, is_simple_and_free, kind_of, subcommand_of, subcommand_rows_of, takes}
use Rattle.clap.proofs.OnLiterals.{clap_on_literals}
use Rattle.clap.proofs.WalkLemmas.{both}
use Rattle.clap.specs.declared.error.Error.{Error}
use Rattle.clap.specs.declared.error.kind.ErrorKind.TheVariants.{OutOfMemory}
use Rattle.clap.specs.declared.parser.matches.ArgMatches.{ArgMatches}
use Rattle.wlb_command_line.specs.declared.command.LineFault.{LineFault}
use Rattle.wlb_command_line.specs.declared.command.LineFault.TheVariants.{Memory}
use Rattle.wlb_command_line.specs.CommandWords.{command_line, Means}
use Rattle.wlb_command_line.proofs.Forms.{command_taken}
use Rattle.wlb_command_line.proofs.Given.{given_all}
use Rattle.wlb_command_line.proofs.words.line.Goals as goal

is_plain : is_simple_and_free command_line ≡ true
unfolding clap_on_literals
is_plain = refl

-- If no other kind of error is possible, the error is out of memory.
memory_alone : (kinds : Kinds) (e : Error) → kinds ≡ [] → HasKind kinds e → kind_of e ≡ OutOfMemory
memory_alone kinds e none has = ⊎_elim (λ m. m) (λ among. absurd (subst (IsAmong (kind_of e)) none among)) has

-- An out-of-memory fault is no other fault.
memory_only : {T : Type 0} (P : Type 0) (r : Result T LineFault) → IsErrAnd r (λ e. e ≡ Memory) → IfErr r (λ e. e ≢ Memory → P)
memory_only P (Ok x) is = tt
memory_only P (Err e) is = λ differs. absurd (differs is)

module _ (app : App) (words : List Text) (is_program : app ≡ command_line) where
  no_fault : (is_simple_and_free app ≡ true → fault_of app words ≡ []) → fault_of command_line words ≡ []
  no_fault kinds = ap (λ (a : App). fault_of a words) (sym is_program) ∙ kinds (ap is_simple_and_free is_program ∙ is_plain)

  found : (m : ArgMatches) → HasMatchesOf app words m → subcommand_rows_of m ≡ subcommand_of command_line words
  found m matches = (matches (ap is_simple is_program ∙ (both _ _ is_plain).0)).1 ∙ ap (λ (a : App). subcommand_of a words) is_program

pub line_of-requires : goal.line_of-requires
line_of-requires c = λ met is.
    let words = map string_bytes c.args.words.now in
    let program_is = c.in_ok-program.ensures in
    given_all words (no_fault _ words program_is c.in-Ok.ensures.kinds) met (sym (found _ words program_is c.in-Ok.matches c.in-Ok.ensures.matches) ∙ is)

pub returns-in_err-line_of-in-Ok-clause-usage : goal.returns-in_err-line_of-in-Ok-clause-usage
returns-in_err-line_of-in-Ok-clause-usage c = memory_only _ _ c.from_residual-in_err-line_of-in-Ok.ensures.1

pub returns-in_ok-line_of-in-Ok-clause-meant : goal.returns-in_ok-line_of-in-Ok-clause-meant
returns-in_ok-line_of-in-Ok-clause-meant c =
    let words = map string_bytes c.args.words.now in
    subst (λ met. Means met c.in_ok-line_of-in-Ok.field-0) (found _ words c.in_ok-program.ensures c.in-Ok.matches c.in-Ok.ensures.matches) c.in_ok-line_of-in-Ok.ensures.meant

pub returns-in_ok-line_of-in-Ok-clause-refused : goal.returns-in_ok-line_of-in-Ok-clause-refused
returns-in_ok-line_of-in-Ok-clause-refused c = no_fault _ (map string_bytes c.args.words.now) c.in_ok-program.ensures c.in-Ok.ensures.kinds

pub returns-in-Err-clause-command : goal.returns-in-Err-clause-command
returns-in-Err-clause-command c = λ is_one.
    c.line_fault.ensures (c.in-Err.ensures.passes (ap (λ (a : App). takes a (map string_bytes c.args.words.now)) c.in_ok-program.ensures ∙ command_taken (map string_bytes c.args.words.now) is_one))

pub returns-in-Err-clause-usage : goal.returns-in-Err-clause-usage
returns-in-Err-clause-usage c = λ differs none.
    let program_is = c.in_ok-program.ensures in
    let faults = ap (λ (a : App). fault_of a (map string_bytes c.args.words.now)) program_is in
    differs (c.line_fault.ensures (memory_alone _ c.in-Err.error (faults ∙ none) (c.in-Err.ensures.kinds (ap is_simple_and_free program_is ∙ is_plain))))
