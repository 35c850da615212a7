-- If the grammar finds no fault in the words, the subcommand that they name has all its values.
use Rattle.std.proofs.Common.{◌≡◌, ◌∙◌, ◌&&◌, ◌||◌, not, ℕ, Bool, true, false, cond, List, [], ◌∷◌, Option, Some, None, is_some, find, filter, unwrap_or, codes, bytes_eq, refl, sym, ap, ap₂, subst, Box, box_value, option_map, inl, inr, true≢false}
use Rattle.std.specs.List.{list_all}
use Rattle.std.specs.Option.{ForSome, option_map_or}
use Rattle.std.proofs.lemmas.Slice.Eq.{bytes_eq-Decides}
use Rattle.clap.specs.Facts.{parser_of_value}
use Rattle.clap.specs.Values.{Accepts, read_as, refused_kind}
use Rattle.clap.specs.ValueTests.{accepts}
use Rattle.clap.specs.Walk.{Row, Rule, Text, answers_to, first_of, nothing_held, one_of, reading_by, rows_after, walk}
use Rattle.clap.specs.Simple.{App, Shape, argument_words, built, built_leaf, entered, filled, inherited, label_of, marked_built, names_of, rows_at, with_index, with_leaf_noted}
use Rattle.clap.specs.Kinds.{value_kinds}
use Rattle.clap.specs.Faults.{entered_fault, level_fault}
use Rattle.clap.specs.Matches.{subcommand_name_of}
use Rattle.clap.specs.Words.{fault_of, subcommand_of, subcommand_rows, subcommand_rows_of}
use Rattle.clap.specs.declared.parser.matches.ArgMatches.{ArgMatches}
use Rattle.clap.specs.declared.parser.matches.ArgMatches.TheViews.{out-ArgMatches, out-SubCommand}
use Rattle.clap.specs.declared.parser.matches.SubCommand.{SubCommand}
use Rattle.clap.specs.declared.builder.value_parser.ValueParser.{ValueParser}
use Rattle.clap.proofs.ValueTestLemmas.{accepts-Accepts}
use Rattle.wl_locked.specs.declared.locked.TheConstants.{LANE_LIMIT, STEP_LIMIT}
use Rattle.wl_locked.specs.declared.shards.TheConstants.{SHARD_LIMIT}
use Rattle.wlb_command_line.specs.CommandWords.{broker_command, command_line, kernel_command, number_option, placed, tab_command, text_option, up_to, GivesAll, GivesNumber, GivesSize, GivesText, IsKnown}
use Rattle.wlb_command_line.proofs.FaultFree.{IsGoodStop, is_reader, level_good, value_given}
use Rattle.wlb_command_line.proofs.Lists.{IsIn, find-IsIn, find-passes}

-- The subcommand at which a walk stopped, and the words left to it.
record Entry (b : App) (stop : Option (Text × List Text)) (name : Text) (rows : List Row) : Type 0 where
  pub shape : Shape
  pub called : Text
  pub words : List Text
  pub is_in : IsIn shape b.subs
  pub stopped : stop ≡ Some (called, words)
  pub answers : answers_to called (label_of shape) ≡ true
  pub faultless : level_fault shape [] nothing_held words false [] ≡ []
  pub named : name ≡ shape.name
  pub found : rows ≡ rows_after shape.rules [] words

entry_of : (b : App) (stop : Option (Text × List Text)) (name : Text) (rows : List Row) → entered_fault b stop ≡ [] → entered b stop ≡ Some (name, rows)
    → Entry b stop name rows
entry_of b None name rows e is = cc
entry_of b (Some p) name rows e is = go (find (λ s. answers_to p.0 (label_of s)) b.subs) refl e is
  where
    go : (sub : Option Shape) → find (λ s. answers_to p.0 (label_of s)) b.subs ≡ sub
        → option_map_or (λ s. level_fault s [] nothing_held p.1 false []) sub [] ≡ [] → option_map (λ s. rows_at s p.1) sub ≡ Some (name, rows)
        → Entry b (Some p) name rows
    go None found e is = cc
    go (Some s) found e is =
        let same : rows_at s p.1 ≡ (name, rows) = ap (λ (o : Option (Text × List Row)). unwrap_or o (name, rows)) is in
        record {
          shape = s;
          called = p.0;
          words = p.1;
          is_in = find-IsIn _ b.subs s found;
          stopped = refl;
          answers = find-passes (λ s. answers_to p.0 (label_of s)) b.subs s found;
          faultless = e;
          named = sym (ap (λ (q : Text × List Row). q.0) same);
          found = sym (ap (λ (q : Text × List Row). q.1) same);
        }

-- Subcommands

abbrev pub built_sub : App → Shape
built_sub sub = built_leaf (inherited (with_leaf_noted (marked_built command_line.top)) sub.top)

accepted : (ignore_case : Bool) (parser : ValueParser) (text : Text) → value_kinds ignore_case parser text ≡ [] → Accepts ignore_case parser text
accepted ignore_case parser text e = accepts-Accepts ignore_case parser text (go (accepts ignore_case parser text) e)
  where
    go : (b : Bool) → cond b [] (refused_kind parser ∷ []) ≡ [] → b ≡ true
    go true e = refl
    go false e = cc

-- The rows of a level whose words have no fault.
module _ (s : Shape) (all : list_all is_reader s.rules ≡ true) (once : s.args_override_self ≡ false) (words : List Text)
    (faultless : level_fault s [] nothing_held words false [] ≡ []) where
  gives : (a : Rule) → a.required ≡ true → filter (λ b. bytes_eq b.id a.id) s.rules ≡ a ∷ []
      → (text : Text) × (first_of a.id (rows_after s.rules [] words) ≡ Some text) × (one_of a.id (rows_after s.rules [] words) ≡ Some (read_as (reading_by a) text))
      × (value_kinds a.ignore_case (parser_of_value a.parser) text ≡ [])
  gives a wanted alone =
      let good = level_good s all once [] words false [] faultless in
      value_given s all once (rows_after s.rules [] words) a good.0 good.3 wanted alone

  gives_text : (a : Rule) → a.required ≡ true → filter (λ b. bytes_eq b.id a.id) s.rules ≡ a ∷ [] → GivesText (rows_after s.rules [] words) a.id
  gives_text a wanted alone = ap is_some (gives a wanted alone).1

  gives_number : (id : Text) (i limit : ℕ) → filter (λ b. bytes_eq b.id id) s.rules ≡ with_index i (filled (number_option id (up_to limit))) ∷ []
      → GivesNumber (rows_after s.rules [] words) id limit
  gives_number id i limit alone =
      let given = gives (with_index i (filled (number_option id (up_to limit)))) refl alone in
      (given.0, given.2, accepted false (up_to limit) given.0 given.3)

kernel_gives : (words : List Text) → level_fault (built_sub kernel_command) [] nothing_held words false [] ≡ []
    → (rows : List Row) → rows ≡ rows_after (built_sub kernel_command).rules [] words
    → GivesText rows (codes "dir") × GivesSize rows × GivesText rows (codes "script")
kernel_gives words faultless rows is =
    let text = gives_text (built_sub kernel_command) refl refl words faultless in
    let number = gives_number (built_sub kernel_command) refl refl words faultless in
    subst (λ (rows : List Row). GivesText rows (codes "dir") × GivesSize rows × GivesText rows (codes "script")) (sym is) (
      text (with_index 1 (filled (text_option (codes "dir")))) refl refl,
      (number (codes "lanes") 1 LANE_LIMIT refl, number (codes "shards") 1 SHARD_LIMIT refl, number (codes "limit") 1 STEP_LIMIT refl),
      text (with_index 1 (filled (placed (codes "script")))) refl refl,
    )

broker_gives : (words : List Text) → level_fault (built_sub broker_command) [] nothing_held words false [] ≡ []
    → (rows : List Row) → rows ≡ rows_after (built_sub broker_command).rules [] words
    → GivesText rows (codes "socket") × GivesSize rows
broker_gives words faultless rows is =
    let text = gives_text (built_sub broker_command) refl refl words faultless in
    let number = gives_number (built_sub broker_command) refl refl words faultless in
    subst (λ (rows : List Row). GivesText rows (codes "socket") × GivesSize rows) (sym is) (
      text (with_index 1 (filled (text_option (codes "socket")))) refl refl,
      (number (codes "lanes") 1 LANE_LIMIT refl, number (codes "shards") 1 SHARD_LIMIT refl, number (codes "limit") 1 STEP_LIMIT refl),
    )

tab_gives : (words : List Text) → level_fault (built_sub tab_command) [] nothing_held words false [] ≡ []
    → (rows : List Row) → rows ≡ rows_after (built_sub tab_command).rules [] words
    → GivesText rows (codes "socket") × GivesText rows (codes "script")
tab_gives words faultless rows is =
    let text = gives_text (built_sub tab_command) refl refl words faultless in
    subst (λ (rows : List Row). GivesText rows (codes "socket") × GivesText rows (codes "script")) (sym is)
    (text (with_index 1 (filled (text_option (codes "socket")))) refl refl, text (with_index 1 (filled (placed (codes "script")))) refl refl)

-- The program

-- A name cannot equal two different names.
differ : {name : Text} (a b : Text) → bytes_eq a a ≡ true → bytes_eq b a ≡ false → name ≡ a → name ≡ b → ⊥
differ a b same other is_a is_b = true≢false (sym same ∙ ap (λ t. bytes_eq t a) (sym is_a ∙ is_b) ∙ other)

-- A call of the help subcommand asks for help.
no_help : (called : Text) → (bytes_eq (codes "help") called || false) ≡ true → (bytes_eq called (codes "help") && not false) ≡ false → ⊥
no_help called answers calm =
    let is = (bytes_eq-Decides (codes "help") called).0 (left (bytes_eq (codes "help") called) answers) in
    true≢false (ap (λ (t : Text). bytes_eq t (codes "help") && not false) is ∙ calm)
  where
    left : (b : Bool) → (b || false) ≡ true → b ≡ true
    left true e = refl
    left false e = e

entry_gives : (stop : Option (Text × List Text)) (name : Text) (rows : List Row) → Entry (built command_line) stop name rows
    → IsGoodStop (built command_line).top refl refl stop → GivesAll name rows
entry_gives stop name rows entry calm = go entry.is_in
  where
    by_name : (a : Text) → (name ≡ a → IsKnown name) → name ≡ a → bytes_eq a a ≡ true → bytes_eq (codes "kernel") a ≡ false → bytes_eq (codes "broker") a ≡ false
        → bytes_eq (codes "tab") a ≡ false → GivesAll name rows
    by_name a known is same kernel broker tab = record {
      known = known is;
      kernel = λ k. absurd (differ a (codes "kernel") same kernel is k);
      broker = λ k. absurd (differ a (codes "broker") same broker is k);
      tab = λ k. absurd (differ a (codes "tab") same tab is k);
    }

    level : (s : Shape) → entry.shape ≡ s
        → (name ≡ s.name) × (level_fault s [] nothing_held entry.words false [] ≡ []) × (rows ≡ rows_after s.rules [] entry.words)
    level s is = (
      entry.named ∙ ap (λ (s : Shape). s.name) is,
      subst (λ (s : Shape). level_fault s [] nothing_held entry.words false [] ≡ []) is entry.faultless,
      entry.found ∙ ap (λ (s : Shape). rows_after s.rules [] entry.words) is,
    )

    go : IsIn entry.shape (built command_line).subs → GivesAll name rows
    go (inl is) = by_name (codes "desk") (λ n. inl n) (level _ is).0 refl refl refl refl
    go (inr (inl is)) = by_name (codes "sim") (λ n. inr (inl n)) (level _ is).0 refl refl refl refl
    go (inr (inr (inl is))) =
        let here = level (built_sub kernel_command) is in
        record {
          known = inr (inr (inl here.0));
          kernel = λ _. kernel_gives entry.words here.1 rows here.2;
          broker = λ k. absurd (differ (codes "kernel") (codes "broker") refl refl here.0 k);
          tab = λ k. absurd (differ (codes "kernel") (codes "tab") refl refl here.0 k);
        }
    go (inr (inr (inr (inl is)))) =
        let here = level (built_sub broker_command) is in
        record {
          known = inr (inr (inr (inl here.0)));
          kernel = λ k. absurd (differ (codes "broker") (codes "kernel") refl refl here.0 k);
          broker = λ _. broker_gives entry.words here.1 rows here.2;
          tab = λ k. absurd (differ (codes "broker") (codes "tab") refl refl here.0 k);
        }
    go (inr (inr (inr (inr (inl is))))) =
        let here = level (built_sub tab_command) is in
        record {
          known = inr (inr (inr (inr here.0)));
          kernel = λ k. absurd (differ (codes "tab") (codes "kernel") refl refl here.0 k);
          broker = λ k. absurd (differ (codes "tab") (codes "broker") refl refl here.0 k);
          tab = λ _. tab_gives entry.words here.1 rows here.2;
        }
    go (inr (inr (inr (inr (inr (inl is)))))) =
        let answers = ap (λ (s : Shape). answers_to entry.called (label_of s)) (sym is) ∙ entry.answers in
        absurd (no_help entry.called answers (subst (IsGoodStop (built command_line).top refl refl) entry.stopped calm))
    go (inr (inr (inr (inr (inr (inr none)))))) = absurd none

-- Words without a fault give their subcommand all its values.
pub given_all : (words : List Text) → fault_of command_line words ≡ [] → ForSome (subcommand_of command_line words) (λ found. GivesAll found.0 found.1)
given_all words faultless found is =
    let b = built command_line in
    let stop = (walk b.top.rules (names_of b) nothing_held (argument_words b words)).stopped in
    let good = level_good b.top refl refl (names_of b) (argument_words b words) (is_some (entered b stop)) (entered_fault b stop) faultless in
    entry_gives stop found.0 found.1 (entry_of b stop found.0 found.1 good.2 is) good.1

module _ {Z : Type 0} where
  rows_from : (sub : Option (Box SubCommand Z)) (name : Text) (rows : List Row) → Some name ≡ option_map (λ b. (out-SubCommand (box_value b)).name.now) sub
      → Some rows ≡ option_map (λ p. p.1) (subcommand_rows sub) → subcommand_rows sub ≡ Some (name, rows)
  rows_from None name rows is_name is_rows = cc
  rows_from (Some b) name rows is_name is_rows =
      ap₂ (λ (n : Text) (r : List Row). Some (n, r)) (sym (ap (λ (o : Option Text). unwrap_or o name) is_name)) (sym (ap (λ (o : Option (List Row)). unwrap_or o rows) is_rows))

-- The name and the rows of the subcommand that a parse found.
pub found_is : (m : ArgMatches) (name : Text) (rows : List Row) → Some name ≡ subcommand_name_of m → Some rows ≡ option_map (λ p. p.1) (subcommand_rows_of m)
    → subcommand_rows_of m ≡ Some (name, rows)
found_is m = rows_from (out-ArgMatches m).subcommand
