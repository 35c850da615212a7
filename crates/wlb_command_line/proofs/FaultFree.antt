-- Lemmas on the end of a parse without a fault: each required argument has a row with values that
-- it accepts.
use Rattle.std.proofs.Common.{if◌then◌else◌, ◌≡◌, ◌∙◌, ◌<◌, ◌&&◌, ◌||◌, ◌++◌, not, ℕ, Bool, true, false, zero, suc, cond, nat_lt, length, List, [], ◌∷◌, Option, Some, None, is_some, find, filter, fold, slice_get, codes, bytes_eq, chars, refl, sym, ap, ap₂, subst, option_and_then, option_map, inl, ⊎_elim, append-nil, arith, true≢false}
use Rattle.std.specs.List.{list_all}
use Rattle.std.specs.Option.{option_map_or}
use Rattle.clap.specs.Values.{is_request, read_as}
use Rattle.clap.specs.Facts.{explicit_source, parser_of_value, unwrap_or_range}
use Rattle.clap.specs.Walk.{Held, Names, Outcome, Row, Rule, Step, Text, Waiting, Walk, action_of, after_flag, after_step, arg_by_id, arg_by_index, arg_by_long, arg_by_short, at_row, attached_value, bundle, bundle_met, bundle_step, default_rows, done, finished, first_of, flag_met, has_row, idle, is_empty, is_pending, long_met, long_or_other, more_values, next, nothing_held, one_of, option, option_met, option_word, plain, plain_word, positional, pushed, reacted, reading_by, refused, row_text, settled, settled_rows, short_met, short_or_plain, subcommand, subcommand_met, subcommand_or_other, takes_several, takes_values, to_positional, trailing, used, used_as, used_by_id, value, values_or_missing, waits, walk, walk_from, walked, walked_from, with_default, with_values, word_met}
use Rattle.clap.specs.Lexer.{long_of, short_of}
use Rattle.clap.specs.Simple.{Shape}
use Rattle.clap.specs.Takes.{is_given}
use Rattle.clap.specs.Kinds.{Kinds, check_kinds, or_else, range_kinds, value_kinds}
use Rattle.clap.specs.Faults.{action_fault, bundle_fault, bundle_step_fault, check_fault, defaults_fault, flag_word_fault, flags_fault, level_fault, long_fault, option_fault, other_fault, positional_fault, react_fault, repeat_fault, set_fault, settle_fault, short_fault, step_fault, stray_fault, turn_fault, use_fault, values_fault, walk_fault, word_fault}
use Rattle.clap.specs.declared.builder.action.ArgAction.{ArgAction}
use Rattle.clap.specs.declared.builder.action.ArgAction.TheVariants as action
use Rattle.clap.specs.declared.error.kind.ErrorKind.TheVariants as kind
use Rattle.clap.specs.declared.builder.value_parser.Reading.{Reading}
use Rattle.clap.specs.declared.parser.matches.ValueSource.TheVariants.{CommandLine}
use Rattle.clap.proofs.SimpleLemmas.{is_nil}
use Rattle.clap.proofs.WalkLemmas.{both}
use Rattle.wlb_command_line.proofs.Lists.{Each, Each-snoc, IsIn, IsIn-filter, filter-IsIn, find-Each, find-IsIn, list_all-IsIn, list_any-IsIn}

-- Kinds

neither_kind : (a b : Kinds) → or_else a b ≡ [] → (a ≡ []) × (b ≡ [])
neither_kind [] b e = (refl, e)
neither_kind (k ∷ ks) b e = cc

-- Rows

-- A row with a new id is appended.
at_row-new : (id : Text) (change : Row → List Row) (missing rows : List Row) → has_row id rows ≡ false → at_row id change missing rows ≡ rows ++ missing
at_row-new id change missing [] none = refl
at_row-new id change missing (r ∷ rs) none = go (bytes_eq r.id id) (at_row-new id change missing rs) none
  where
    go : (b : Bool) → (has_row id rs ≡ false → at_row id change missing rs ≡ rs ++ missing) → (b || has_row id rs) ≡ false
        → cond b (change r ++ rs) (r ∷ at_row id change missing rs) ≡ r ∷ (rs ++ missing)
    go true rest e = absurd (true≢false e)
    go false rest e = ap (λ xs. r ∷ xs) (rest e)

-- The argument is set by words, rather than asking for help.
abbrev is_set : ArgAction → Bool
is_set action.Set = true
is_set _ = false

abbrev least_values : Rule → ℕ
least_values a = (unwrap_or_range a.range).start_inclusive

abbrev reads : ArgAction → Rule → Bool
reads x a = is_request x || (is_set x && nat_lt 0 (least_values a))

abbrev pub is_reader : Rule → Bool
is_reader a = is_empty a.defaults && reads (action_of a) a

-- A use that passes its range check has at least one value.
some_values : (a : Rule) (most : ℕ) (values : List Text) → nat_lt 0 (least_values a) ≡ true → range_kinds (least_values a) most (length values) ≡ []
    → (values_or_missing a values ≡ values) × (0 < length values)
some_values a most [] least e =
    let bad = rw least at e in
    cc
some_values a most (v ∷ vs) least e = (refl, omega arith)

-- Without defaults, no row is added.
default_none : (rows : List Row) (a : Rule) → a.defaults ≡ [] → with_default rows a ≡ rows
default_none rows a none = go (has_row a.id rows) a.defaults none
  where
    go : (b : Bool) (ds : List Text) → ds ≡ [] → cond b rows (default_rows a.id (reading_by a) ds rows) ≡ rows
    go true ds e = refl
    go false [] e = refl
    go false (d ∷ ds) e = cc

defaults_none : (rows : List Row) (rules : List Rule) → list_all is_reader rules ≡ true → fold with_default rows rules ≡ rows
defaults_none rows [] all = refl
defaults_none rows (a ∷ rest) all =
    let none = is_nil a.defaults (both _ _ (both _ _ all).0).0 in
    ap (λ xs. fold with_default xs rest) (default_none rows a none) ∙ defaults_none rows rest (both _ _ all).1

-- The name does not ask for help.
abbrev pub IsNoCall : Shape → Text → Type 0
IsNoCall s name = (bytes_eq name (codes "help") && not s.disable_help_subcommand) ≡ false

module _ (s : Shape) (all : list_all is_reader s.rules ≡ true) (once : s.args_override_self ≡ false) where
  -- The values of the row belong to an argument that accepts them.
  abbrev pub Fits : Row → Type 0
  Fits r = (a : Rule) × IsIn a s.rules × (a.id ≡ r.id) × (r.reading ≡ reading_by a) × (0 < length r.values) × (values_fault a r.values ≡ [])

  abbrev AllFit : Held → Type 0
  AllFit h = Each Fits h.rows

  -- One use of an argument

  set_fits : (a : Rule) (values : List Text) (rows : List Row) → IsIn a s.rules → 0 < length values → Each Fits rows
      → set_fault s.args_override_self a values rows ≡ [] → Each Fits (used_as action.Set a.id (reading_by a) values rows)
  set_fits a values rows is some fit e =
      let faults = neither_kind (repeat_fault s.args_override_self a.id rows) (values_fault a values) e in
      let new : has_row a.id rows ≡ false = first_use (has_row a.id rows) s.args_override_self once faults.0 in
      let row : Row = record { id = a.id; values = values; count = None; source = Some CommandLine; reading = reading_by a } in
      let same = ap (λ (rs : List Row). with_values a.id (reading_by a) CommandLine values rs) (at_row-new a.id (λ _. []) [] rows new ∙ append-nil rows)
      ∙ at_row-new a.id (more_values CommandLine values) (row ∷ []) rows new in
      subst (Each Fits) (sym same) (Each-snoc Fits rows row fit (a, is, refl, refl, some, faults.1))
    where
      first_use : (has again : Bool) → again ≡ false → (if has && not again then kind.ArgumentConflict ∷ [] else []) ≡ [] → has ≡ false
      first_use true true off e = absurd (true≢false off)
      first_use true false off e = cc
      first_use false again off e = refl

  used_fits : (a : Rule) (values : List Text) (rows : List Row) → IsIn a s.rules → Each Fits rows → use_fault s.args_override_self a values rows ≡ []
      → Each Fits (used a values rows)
  used_fits a values rows is fit e =
      let faults = neither_kind _ (action_fault (action_of a) s.args_override_self a (values_or_missing a values) rows) e in
      go (action_of a) (both _ _ (list_all-IsIn is_reader s.rules a all is)).1 faults.1 (λ least. some_values a _ values least faults.0)
    where
      go : (x : ArgAction) → reads x a ≡ true → action_fault x s.args_override_self a (values_or_missing a values) rows ≡ []
          → (nat_lt 0 (least_values a) ≡ true → (values_or_missing a values ≡ values) × (0 < length values))
          → Each Fits (used_as x a.id (reading_by a) (values_or_missing a values) rows)
      go action.Set known none some =
          let given = some known in
          set_fits a (values_or_missing a values) rows is (subst (λ (vs : List Text). 0 < length vs) (sym given.0) given.1) fit none
      go action.Append known none some = absurd (true≢false (sym known))
      go action.SetTrue known none some = absurd (true≢false (sym known))
      go action.SetFalse known none some = absurd (true≢false (sym known))
      go action.Count known none some = absurd (true≢false (sym known))
      go action.Help known none some = fit
      go action.HelpShort known none some = fit
      go action.HelpLong known none some = fit
      go action.Version known none some = fit

  -- The walk

  settled_fits : (h : Held) → AllFit h → settle_fault s.rules s.args_override_self h ≡ [] → AllFit (settled s.rules h)
  settled_fits h fit e = go h.pending e
    where
      by_id : (p : Text × List Text) (found : Option Rule) → arg_by_id s.rules p.0 ≡ found
          → option_map_or (λ a. use_fault s.args_override_self a p.1 h.rows) found [] ≡ [] → Each Fits (used_by_id found p.1 h.rows)
      by_id p None is e = fit
      by_id p (Some a) is e = used_fits a p.1 h.rows (find-IsIn _ s.rules a is) fit e

      go : (pending : Option (Text × List Text))
          → option_map_or (λ (p : Text × List Text). option_map_or (λ a. use_fault s.args_override_self a p.1 h.rows) (arg_by_id s.rules p.0) []) pending [] ≡ []
          → Each Fits (settled_rows s.rules pending h.rows)
      go None e = fit
      go (Some p) e = by_id p (arg_by_id s.rules p.0) refl e

  reacted_fits : (a : Rule) (values : List Text) (h : Held) → IsIn a s.rules → AllFit h → react_fault s.rules s.args_override_self a values h ≡ []
      → AllFit (reacted s.rules a values h)
  reacted_fits a values h is fit e =
      let faults = neither_kind (settle_fault s.rules s.args_override_self h) _ e in
      used_fits a values (settled s.rules h).rows is (settled_fits h fit faults.0) faults.1

  option_fits : (a : Rule) (v : Option Text) (h : Held) → IsIn a s.rules → AllFit h → option_fault s.rules s.args_override_self a v h ≡ []
      → AllFit (option_met s.rules a v h).0
  option_fits a (Some v) h is fit e = reacted_fits a (v ∷ []) h is fit e
  option_fits a None h is fit e = settled_fits h fit e

  long_fits : (found : Option Rule) (v : Option Text) (h : Held) → ((a : Rule) → found ≡ Some a → IsIn a s.rules) → AllFit h
      → long_fault s.rules s.args_override_self found v h ≡ [] → AllFit (long_met s.rules found v h).0
  long_fits None v h is fit e = fit
  long_fits (Some a) v h is fit e = go (takes_values a) e
    where
      flag : (v : Option Text) → (if is_some v then kind.TooManyValues ∷ [] else react_fault s.rules s.args_override_self a [] h) ≡ [] → AllFit (flag_met s.rules a v h).0
      flag (Some v) e = fit
      flag None e = reacted_fits a [] h (is a refl) fit e

      go : (b : Bool) → cond b (option_fault s.rules s.args_override_self a v h) (if is_some v then kind.TooManyValues ∷ [] else react_fault s.rules s.args_override_self a [] h) ≡ []
          → AllFit (cond b (option_met s.rules a v h) (flag_met s.rules a v h)).0
      go true e = option_fits a v h (is a refl) fit e
      go false e = flag v e

  short_fits : (found : Option Rule) (rest : Text) (h : Held) (more : Held → Held × Outcome) (more_fault : Held → Kinds)
      → ((a : Rule) → found ≡ Some a → IsIn a s.rules) → AllFit h → ((h : Held) → AllFit h → more_fault h ≡ [] → AllFit (more h).0)
      → short_fault s.rules s.args_override_self found rest h more_fault ≡ [] → AllFit (short_met s.rules found rest h more).0
  short_fits None rest h more more_fault is fit goes_on e = fit
  short_fits (Some a) rest h more more_fault is fit goes_on e = go (takes_values a) e
    where
      go : (b : Bool) → cond b (option_fault s.rules s.args_override_self a (attached_value rest) h)
          (or_else (react_fault s.rules s.args_override_self a [] h) (more_fault (reacted s.rules a [] h))) ≡ []
          → AllFit (cond b (option_met s.rules a (attached_value rest) h) (more (reacted s.rules a [] h))).0
      go true e = option_fits a (attached_value rest) h (is a refl) fit e
      go false e =
          let faults = neither_kind (react_fault s.rules s.args_override_self a [] h) _ e in
          goes_on (reacted s.rules a [] h) (reacted_fits a [] h (is a refl) fit faults.0) faults.1

  bundle_fits : (k : ℕ) (flags : Text) (skip : ℕ) (so_far : Outcome) (h : Held) → AllFit h → flags_fault s.rules s.args_override_self k flags skip h ≡ []
      → AllFit (bundle_met s.rules k flags skip so_far h).0
  unfolding bundle_met flags_fault
  bundle_fits zero flags skip so_far h fit e = fit
  bundle_fits (suc k) flags skip so_far h fit e = go (slice_get (chars flags) 0) skip (bundle_fits k) e
    where
      go : (x : Option ℕ) (skip : ℕ)
          → ((flags : Text) (skip : ℕ) (so_far : Outcome) (h : Held) → AllFit h → flags_fault s.rules s.args_override_self k flags skip h ≡ []
          → AllFit (bundle_met s.rules k flags skip so_far h).0)
          → bundle_step_fault s.rules s.args_override_self x flags skip h (flags_fault s.rules s.args_override_self k) ≡ []
          → AllFit (bundle_step s.rules x flags skip so_far h (bundle_met s.rules k)).0
      go None skip later e = fit
      go (Some x) zero later e = short_fits (arg_by_short s.rules x) _ h _ _ (λ a is. find-IsIn _ s.rules a is) fit (λ h fit e. later _ 0 done h fit e) e
      go (Some x) (suc skip) later e = later _ skip so_far h fit e

  -- A word

  -- A step that does not ask for help keeps the rows valid.
  abbrev IsGoodStep : Step → Type 0
  IsGoodStep (subcommand name) = IsNoCall s name
  IsGoodStep _ = Unit {0}

  abbrev IsGood : Held × Step → Type 0
  IsGood p = AllFit p.0 × IsGoodStep p.1

  plain_good : (waiting : Waiting) (word : Text) (h : Held) → AllFit h → IsGood (plain_word s.rules waiting word h)
  plain_good idle word h fit = (fit, tt)
  plain_good positional word h fit = (fit, tt)
  plain_good (option id) word h fit = go (arg_by_id s.rules id)
    where
      go : (found : Option Rule) → IsGood ((option_word found id word h).0, next (option_word found id word h).1)
      go None = (fit, tt)
      go (Some a) = (fit, tt)

  flag_good : (waiting : Waiting) (word : Text) (h : Held) (outcome : Outcome) → AllFit h → IsGood (after_flag s.rules waiting word h outcome)
  flag_good waiting word h done fit = (fit, tt)
  flag_good waiting word h (waits id) fit = (fit, tt)
  flag_good waiting word h plain fit = plain_good waiting word h fit
  flag_good waiting word h refused fit = plain_good waiting word h fit

  short_good : (waiting : Waiting) (word : Text) (short : Option Text) (h : Held) → AllFit h
      → option_map_or (λ flags. bundle_fault s.rules s.args_override_self flags h) short [] ≡ [] → IsGood (short_or_plain s.rules waiting word short h)
  short_good waiting word None h fit e = plain_good waiting word h fit
  short_good waiting word (Some flags) h fit e =
      flag_good waiting word (bundle s.rules flags h).0 (bundle s.rules flags h).1 (bundle_fits (length flags) flags h.skip plain (record h { skip = 0 }) fit e)

  long_good : (waiting : Waiting) (word : Text) (long : Option (Text × Option Text)) (h : Held) → AllFit h
      → flag_word_fault s.rules s.args_override_self long word h ≡ [] → IsGood (long_or_other s.rules waiting word long h)
  long_good waiting word None h fit e = short_good waiting word (short_of word) h fit e
  long_good waiting word (Some p) h fit e =
      flag_good waiting word _ (long_met s.rules (arg_by_long s.rules p.0) p.1 h).1
      (long_fits (arg_by_long s.rules p.0) p.1 h (λ a is. find-IsIn _ s.rules a is) fit e)

  other_good : (met : Option Text) (waiting : Waiting) (position : ℕ) (word : Text) (h : Held) → AllFit h → other_fault s met word h ≡ []
      → IsGood (subcommand_or_other s.rules met waiting position word h)
  other_good (Some name) waiting position word h fit e = (fit, no_call (bytes_eq name (codes "help") && not s.disable_help_subcommand) e)
    where
      no_call : (b : Bool) → (if b then kind.DisplayHelp ∷ kind.InvalidSubcommand ∷ [] else []) ≡ [] → b ≡ false
      no_call true e = cc
      no_call false e = refl
  other_good None waiting position word h fit e = go (bytes_eq word (45 ∷ 45 ∷ [])) e
    where
      go : (b : Bool) → cond b [] (flag_word_fault s.rules s.args_override_self (long_of word) word h) ≡ []
          → IsGood (cond b (h, trailing position) (long_or_other s.rules waiting word (long_of word) h))
      go true e = (fit, tt)
      go false e = long_good waiting word (long_of word) h fit e

  word_good : (names : Names) (is_trailing : Bool) (waiting : Waiting) (position : ℕ) (word : Text) (h : Held) → AllFit h
      → word_fault s names is_trailing waiting word h ≡ [] → IsGood (word_met s.rules names is_trailing waiting position word h)
  word_good names true waiting position word h fit e = (fit, tt)
  word_good names false waiting position word h fit e = other_good (subcommand_met names waiting word) waiting position word h fit e

  -- Between two words the rows are valid, and the subcommand found does not ask for help.
  abbrev pub IsGoodStop : Option (Text × List Text) → Type 0
  IsGoodStop None = Unit {0}
  IsGoodStop (Some p) = IsNoCall s p.0

  abbrev IsGoodWalk : Walk → Type 0
  IsGoodWalk w = AllFit w.held × IsGoodStop w.stopped

  step_good : (w : Walk) (word : Text) (h : Held) (step : Step) → IsGoodStop w.stopped → IsGood (h, step) → step_fault s w.position h step ≡ []
      → IsGoodWalk (after_step s.rules word w h step)
  step_good w word h (next waiting) stop good e = (good.0, stop)
  step_good w word h (trailing position) stop good e = (good.0, stop)
  step_good w word h (subcommand name) stop good e = good
  step_good w word h value stop good e = go (arg_by_index s.rules w.position) e
    where
      held : (a : Rule) (b : Bool) → cond b [] (settle_fault s.rules s.args_override_self h) ≡ [] → AllFit (pushed a.id word (cond b h (settled s.rules h)))
      held a true e = good.0
      held a false e = settled_fits h good.0 e

      go : (found : Option Rule) → option_map_or (λ a. positional_fault s.rules s.args_override_self a h) found (stray_fault s) ≡ []
          → IsGoodWalk (to_positional s.rules found word w h)
      go None e = (good.0, stop)
      go (Some a) e = (held a (is_pending a h.pending && takes_several a) e, tt)

  walked_good : (names : Names) (w : Walk) (word : Text) → IsGoodWalk w → turn_fault s names w word ≡ [] → IsGoodWalk (walked s.rules names w word)
  unfolding walked
  walked_good names w word good e = go w.stopped good.1 e
    where
      met : Held × Step
      met = word_met s.rules names w.is_trailing w.waiting w.position word w.held

      go : (stop : Option (Text × List Text)) → IsGoodStop stop
          → cond (is_some stop) [] (or_else (word_fault s names w.is_trailing w.waiting word w.held) (step_fault s w.position met.0 met.1)) ≡ []
          → IsGoodWalk (walked_from s.rules names stop w word)
      go (Some p) calm e = (good.0, calm)
      go None calm e =
          let faults = neither_kind (word_fault s names w.is_trailing w.waiting word w.held) _ e in
          step_good w word met.0 met.1 good.1 (word_good names w.is_trailing w.waiting w.position word w.held good.0 faults.0) faults.1

  walk_good : (names : Names) (w : Walk) (words : List Text) → IsGoodWalk w → walk_fault s names w words ≡ [] → IsGoodWalk (fold (walked s.rules names) w words)
  unfolding walk_fault
  walk_good names w [] good e = good
  walk_good names w (word ∷ rest) good e =
      let faults = neither_kind (turn_fault s names w word) _ e in
      walk_good names (walked s.rules names w word) rest (walked_good names w word good faults.0) faults.1

  -- After the walk

  -- If the words of a level have no fault, its rows are valid and its stop is no request for help.
  pub level_good : (names : Names) (words : List Text) (has : Bool) (below : Kinds) → level_fault s names nothing_held words has below ≡ []
      → Each Fits (finished s.rules (walk s.rules names nothing_held words).held) × IsGoodStop (walk s.rules names nothing_held words).stopped
      × (below ≡ []) × (check_fault s (finished s.rules (walk s.rules names nothing_held words).held) has ≡ [])
  level_good names words has below e =
      let end = (walk s.rules names nothing_held words).held in
      let first = neither_kind (walk_fault s names (walk_from nothing_held) words) _ e in
      let second = neither_kind below _ first.1 in
      let third = neither_kind (settle_fault s.rules s.args_override_self end) _ second.1 in
      let fourth = neither_kind (defaults_fault (settled s.rules end).rows s.rules) _ third.1 in
      let good = walk_good names (walk_from nothing_held) words (tt, tt) first.0 in (
        subst (Each Fits) (sym (defaults_none (settled s.rules end).rows s.rules all)) (settled_fits end good.0 third.0),
        good.1,
        second.0,
        fourth.1,
      )

  -- A required argument with a unique id has a value that it accepts.
  pub value_given : (rows : List Row) (a : Rule) → Each Fits rows → check_fault s rows false ≡ [] → a.required ≡ true
      → filter (λ b. bytes_eq b.id a.id) s.rules ≡ a ∷ []
      → (text : Text) × (first_of a.id rows ≡ Some text) × (one_of a.id rows ≡ Some (read_as (reading_by a) text)) × (value_kinds a.ignore_case (parser_of_value a.parser) text ≡ [])
  value_given rows a fit checked wanted alone = go (find (λ r. bytes_eq r.id a.id) rows) refl given
    where
      third : (x y z : Bool) → check_kinds x y z ≡ [] → z ≡ false
      third false false false e = refl
      third false false true e = cc
      third false true z e = cc
      third true y z e = cc

      past_not : (b c : Bool) → (not (b && false) && c) ≡ false → c ≡ false
      past_not true c e = e
      past_not false c e = e

      unless : (b c : Bool) → b ≡ true → (b && not c) ≡ false → c ≡ true
      unless true true is e = refl
      unless true false is e = absurd (true≢false e)
      unless false c is e = absurd (true≢false (sym is))

      is_in : IsIn a s.rules
      is_in = filter-IsIn (λ b. bytes_eq b.id a.id) s.rules a (subst (IsIn a) (sym alone) (inl refl))

      given : is_given a.id rows ≡ true
      given = unless a.required (is_given a.id rows) wanted
          (list_any-IsIn (λ b. b.required && not (is_given b.id rows)) s.rules a (past_not s.subcommand_negates_reqs _ (third _ _ _ checked)) is_in)

      first : (b : Rule) (values : List Text) → 0 < length values → values_fault b values ≡ []
          → (text : Text) × (slice_get values 0 ≡ Some text) × (value_kinds b.ignore_case (parser_of_value b.parser) text ≡ [])
      first b [] some e = absurd (omega arith)
      first b (v ∷ vs) some e = (v, refl, (neither_kind _ _ e).0)

      go : (found : Option Row) → find (λ r. bytes_eq r.id a.id) rows ≡ found → option_map_or (λ r. explicit_source r.source) found false ≡ true
          → (text : Text) × (option_and_then (λ r. slice_get r.values 0) found ≡ Some text) × (option_and_then row_text found ≡ Some (read_as (reading_by a) text))
          × (value_kinds a.ignore_case (parser_of_value a.parser) text ≡ [])
      go None is e = absurd (true≢false (sym e))
      go (Some r) is e =
          let hit = find-Each Fits (λ r. bytes_eq r.id a.id) rows r is fit in
          let own = hit.0 in
          let among = subst (IsIn own.0) alone (IsIn-filter (λ b. bytes_eq b.id a.id) s.rules own.0 own.1 (ap (λ (id : Text). bytes_eq id a.id) own.2 ∙ hit.1)) in
          let same : own.0 ≡ a = ⊎_elim (λ h. h) (λ none. absurd none) among in
          let taken = first a r.values own.4 (subst (λ (b : Rule). values_fault b r.values ≡ []) same own.5) in
          let how : r.reading ≡ reading_by a = own.3 ∙ ap reading_by same in
          (taken.0, taken.1, ap₂ (λ (how : Reading) (o : Option Text). option_map (read_as how) o) how taken.1, taken.2)
