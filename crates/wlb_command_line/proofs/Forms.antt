-- Lemmas that the grammar accepts every command in its plain form.
use Rattle.std.proofs.Common.{◌≡◌, ◌∙◌, ◌<◌, ◌≤◌, ◌^◌, ◌==◌, ◌&&◌, ℕ, Bool, true, false, nat_lt, pos, List, [], ◌∷◌, ◌++◌, Some, None, is_some, fold, codes, bytes_eq, decimal, refl, sym, ap, ap₂, inl, inr, rules, arith}
use Rattle.std.specs.List.{list_all}
use Rattle.std.specs.Str.Parse.{IsNumeral, without_leading_plus}
use Rattle.std.proofs.lemmas.Bool.{ne_eqb}
use Rattle.std.proofs.lemmas.Fmt.{decimal_is_IsNumeral}
use Rattle.std.proofs.lemmas.Str.Parse.{digit_from_value}
use Rattle.clap.specs.Lexer.{long_of, short_of}
use Rattle.clap.specs.Values.{IsSignedIn}
use Rattle.clap.specs.ValueTests.{accepts}
use Rattle.clap.specs.Walk.{Held, Names, Rule, Text, Walk, action_of, arg_by_id, arg_by_index, arg_by_long, finished, idle, is_append, is_pending, most_values, nothing_held, option, settled, takes_several, takes_values, walk_from, walked}
use Rattle.clap.specs.Simple.{App, Shape, built, entered, filled, names_of, with_index}
use Rattle.clap.specs.Takes.{built_takes, default_passes, entered_passes, is_valid, level_passes, settle_passes, takes, turn_passes, walk_passes}
use Rattle.wl_locked.specs.declared.locked.TheConstants.{LANE_LIMIT, STEP_LIMIT}
use Rattle.wl_locked.specs.declared.shards.TheConstants.{SHARD_LIMIT}
use Rattle.wlb_command_line.specs.CommandWords.{broker_command, command_line, kernel_command, number_option, placed, size_words, tab_command, text_option, up_to, IsCommand, IsPlain, IsPlainForm, IsSizeInRange}
use Rattle.wlb_command_line.proofs.Given.{built_sub}
use Rattle.clap.proofs.OnLiterals.{clap_on_literals}
use Rattle.clap.proofs.WalkLemmas.{walk_stopped}
use Rattle.clap.proofs.ValueTestLemmas.{Accepts-accepts}

-- Words

-- A text that does not start with a hyphen is no flag.
plain_word_is : (text : Text) → IsPlain text → (bytes_eq text (45 ∷ 45 ∷ []) ≡ false) × (long_of text ≡ None) × (short_of text ≡ None)
plain_word_is [] plain = (refl, refl, refl)
plain_word_is (x ∷ xs) plain = rw plain (refl, refl, refl)

-- The walk

-- The walk between two options.
abbrev between : Held → Walk
between h = record { held = h; waiting = idle; position = 1; is_trailing = false; stopped = None }

abbrev asking : Text → Held → Walk
asking id h = record (between h) { waiting = option id }

-- The walk reaches the state `after` with the words `rest` left.
abbrev ComesTo : Shape → Walk → List Text → Walk → List Text → Type 0
ComesTo s w words after rest = (walk_passes s [] w words ≡ walk_passes s [] after rest)
    × (fold (walked s.rules []) w words ≡ fold (walked s.rules []) after rest)

then_comes : (s : Shape) (u v w : Walk) (a b c : List Text) → ComesTo s u a v b → ComesTo s v b w c → ComesTo s u a w c
then_comes s u v w a b c first second = (first.0 ∙ second.0, first.1 ∙ second.1)

-- The word is the name of an option that takes one value.
abbrev IsOption : Shape → Text → Text → Rule → Type 0
IsOption s word n a = (bytes_eq word (45 ∷ 45 ∷ []) ≡ false) × (long_of word ≡ Some (n, None)) × (arg_by_long s.rules n ≡ Some a) × (arg_by_id s.rules a.id ≡ Some a)
    × (takes_values a ≡ true) × (nat_lt 1 (most_values a) ≡ false) × (bytes_eq a.id a.id ≡ true)

abbrev after_option : Shape → Held → Rule → Text → Held
after_option s h a word = record (settled s.rules h) { pending = Some (a.id, word ∷ []) }

option_named : (s : Shape) (h : Held) (name n : Text) (a : Rule) (rest : List Text) → IsOption s name n a → settle_passes s.rules s.args_override_self h ≡ true
    → ComesTo s (between h) (name ∷ rest) (asking a.id (record (settled s.rules h) { pending = Some (a.id, []) })) rest
unfolding walk_passes walked
option_named s h name n a rest is passes = rw (is.0, is.1, is.2, is.4, passes) (refl, refl)

option_valued : (s : Shape) (h : Held) (name n : Text) (a : Rule) (word : Text) (rest : List Text) → IsOption s name n a → IsPlain word
    → ComesTo s (asking a.id (record h { pending = Some (a.id, []) })) (word ∷ rest) (between (record h { pending = Some (a.id, word ∷ []) })) rest
unfolding walk_passes walked
option_valued s h name n a word rest is plain =
    let facts = plain_word_is word plain in
    rw (facts.0, facts.1, facts.2, is.3, is.6, is.5) (refl, refl)

option_read : (s : Shape) (h : Held) (name n : Text) (a : Rule) (word : Text) (rest : List Text) → IsOption s name n a → IsPlain word
    → settle_passes s.rules s.args_override_self h ≡ true
    → ComesTo s (between h) (name ∷ word ∷ rest) (between (after_option s h a word)) rest
option_read s h name n a word rest is plain passes =
    then_comes s _ _ _ _ _ _ (option_named s h name n a (word ∷ rest) is passes) (option_valued s (settled s.rules h) name n a word rest is plain)

-- A word fills the first positional argument, which takes one value.
option_placed : (s : Shape) (h : Held) (a : Rule) (word : Text) → arg_by_index s.rules 1 ≡ Some a → takes_several a ≡ false → is_append (action_of a) ≡ false
    → is_pending a h.pending ≡ false → a.trailing_var_arg ≡ false → IsPlain word → settle_passes s.rules s.args_override_self h ≡ true
    → ComesTo s (between h) (word ∷ []) (record (between (record (settled s.rules h) { pending = Some (a.id, word ∷ []) })) { position = 2 }) []
unfolding walk_passes walked
option_placed s h a word found one once other trails plain passes =
    let facts = plain_word_is word plain in
    rw (facts.0, facts.1, facts.2, found, one, once, other, trails, passes) (refl, refl)

-- A level is accepted if its walk ends in an acceptable state.
level_taken : (s : Shape) (words : List Text) (after : Walk) → ComesTo s (between nothing_held) words after []
    → (settle_passes s.rules s.args_override_self after.held && (list_all default_passes s.rules && is_valid s (finished s.rules after.held) false)) ≡ true
    → level_passes s [] nothing_held words false ≡ true
unfolding walk_passes
level_taken s words after comes ends =
    ap₂ (λ (b : Bool) (w : Walk). b && (settle_passes s.rules s.args_override_self w.held && (list_all default_passes s.rules && is_valid s (finished s.rules w.held) false)))
    comes.0 comes.1 ∙ ends

-- Numbers

no_sign : (ds : List ℕ) → IsNumeral 10 ds → IsPlain ds × (without_leading_plus ds ≡ ds)
no_sign [] numeral = absurd (omega (arith, numeral.0))
no_sign (d ∷ ds) numeral =
    let digit = digit_from_value d numeral.1.0 in
    let minus : (d == 45) ≡ false = ne_eqb _ _ (λ e. omega (arith, digit)) in
    let plus : (d == 43) ≡ false = ne_eqb _ _ (λ e. omega (arith, digit)) in
    (minus, rw plus refl)

-- A decimal number within its range is a plain word that the parser accepts.
decimal_taken : (limit n : ℕ) → 1 ≤ n → n ≤ limit → limit < 2 ^ 63 → IsPlain (decimal n) × (accepts false (up_to limit) (decimal n) ≡ true)
decimal_taken limit n least most fits =
    let small : n < 2 ^ 64 = omega arith in
    let numeral = decimal_is_IsNumeral n small in
    let bare = no_sign (decimal n) numeral.0 in
    let signed : IsSignedIn (pos 1) (pos limit) (decimal n) = rw (bare.0, bare.1, numeral.1) (numeral.0, record { sfits = omega arith }, search rules, search rules) in
    (bare.0, Accepts-accepts false (up_to limit) (decimal n) signed)

-- Subcommands

abbrev text_rule : Text → Rule
text_rule id = with_index 1 (filled (text_option id))

abbrev number_rule : Text → ℕ → Rule
number_rule id limit = with_index 1 (filled (number_option id (up_to limit)))

abbrev script_rule : Rule
script_rule = with_index 1 (filled (placed (codes "script")))

abbrev after_size : Shape → Held → ℕ → ℕ → ℕ → Held
after_size s h lanes shards limit =
    after_option s (after_option s (after_option s h (number_rule (codes "lanes") LANE_LIMIT) (decimal lanes)) (number_rule (codes "shards") SHARD_LIMIT) (decimal shards))
    (number_rule (codes "limit") STEP_LIMIT) (decimal limit)

-- The state is acceptable when the next option starts.
abbrev passes_at : Shape → Held → Bool
passes_at s h = settle_passes s.rules s.args_override_self h

-- The command has the size options, and each is accepted if its parser accepts the value.
record IsSized (s : Shape) (h : Held) : Type 0 where
  pub lanes : IsOption s (codes "--lanes") (codes "lanes") (number_rule (codes "lanes") LANE_LIMIT)
  pub shards : IsOption s (codes "--shards") (codes "shards") (number_rule (codes "shards") SHARD_LIMIT)
  pub limit : IsOption s (codes "--limit") (codes "limit") (number_rule (codes "limit") STEP_LIMIT)
  pub before : passes_at s h ≡ true
  pub after_lanes : (n : ℕ) → passes_at s (after_option s h (number_rule (codes "lanes") LANE_LIMIT) (decimal n)) ≡ (accepts false (up_to LANE_LIMIT) (decimal n) && true)
  pub after_shards : (m n : ℕ)
      → passes_at s (after_option s (after_option s h (number_rule (codes "lanes") LANE_LIMIT) (decimal m)) (number_rule (codes "shards") SHARD_LIMIT) (decimal n))
      ≡ (accepts false (up_to SHARD_LIMIT) (decimal n) && true)
  pub after_limit : (l m n : ℕ) → passes_at s (after_size s h l m n) ≡ (accepts false (up_to STEP_LIMIT) (decimal n) && true)

size_read : (s : Shape) (h : Held) (lanes shards limit : ℕ) (rest : List Text) → IsSized s h → IsSizeInRange lanes shards limit
    → ComesTo s (between h) (size_words lanes shards limit rest) (between (after_size s h lanes shards limit)) rest
    × (passes_at s (after_size s h lanes shards limit) ≡ true)
size_read s h lanes shards limit rest is size =
    let lanes_ok = decimal_taken LANE_LIMIT lanes size.0 size.1 (omega arith) in
    let shards_ok = decimal_taken SHARD_LIMIT shards size.2 size.3 (omega arith) in
    let limit_ok = decimal_taken STEP_LIMIT limit size.4 size.5 (omega arith) in
    let first = option_read s h _ _ _ (decimal lanes) _ is.lanes lanes_ok.0 is.before in
    let second = option_read s _ _ _ _ (decimal shards) _ is.shards shards_ok.0 (is.after_lanes lanes ∙ ap (λ b. b && true) lanes_ok.1) in
    let third = option_read s _ _ _ _ (decimal limit) rest is.limit limit_ok.0 (is.after_shards lanes shards ∙ ap (λ b. b && true) shards_ok.1) in
    (then_comes s _ _ _ _ _ _ first (then_comes s _ _ _ _ _ _ second third), is.after_limit lanes shards limit ∙ ap (λ b. b && true) limit_ok.1)

kernel_passes : (directory script : Text) (lanes shards limit : ℕ) → IsPlain directory → IsPlain script → IsSizeInRange lanes shards limit
    → level_passes (built_sub kernel_command) [] nothing_held (codes "--dir" ∷ directory ∷ size_words lanes shards limit (script ∷ [])) false ≡ true
kernel_passes directory script lanes shards limit plain_directory plain_script size =
    let s = built_sub kernel_command in
    let h = after_option s nothing_held (text_rule (codes "dir")) directory in
    let is_sized : IsSized s h = record {
      lanes = (refl, refl, refl, refl, refl, refl, refl);
      shards = (refl, refl, refl, refl, refl, refl, refl);
      limit = (refl, refl, refl, refl, refl, refl, refl);
      before = refl;
      after_lanes = λ n. refl;
      after_shards = λ m n. refl;
      after_limit = λ l m n. refl;
    } in
    let directory_read = option_read s nothing_held _ (codes "dir") (text_rule (codes "dir")) directory _ (refl, refl, refl, refl, refl, refl, refl) plain_directory refl in
    let sized = size_read s h lanes shards limit (script ∷ []) is_sized size in
    let placed = option_placed s _ script_rule script refl refl refl refl refl plain_script sized.1 in
    level_taken s _ _ (then_comes s _ _ _ _ _ _ directory_read (then_comes s _ _ _ _ _ _ sized.0 placed)) refl

broker_passes : (socket : Text) (lanes shards limit : ℕ) → IsPlain socket → IsSizeInRange lanes shards limit
    → level_passes (built_sub broker_command) [] nothing_held (codes "--socket" ∷ socket ∷ size_words lanes shards limit []) false ≡ true
broker_passes socket lanes shards limit plain size =
    let s = built_sub broker_command in
    let h = after_option s nothing_held (text_rule (codes "socket")) socket in
    let is_sized : IsSized s h = record {
      lanes = (refl, refl, refl, refl, refl, refl, refl);
      shards = (refl, refl, refl, refl, refl, refl, refl);
      limit = (refl, refl, refl, refl, refl, refl, refl);
      before = refl;
      after_lanes = λ n. refl;
      after_shards = λ m n. refl;
      after_limit = λ l m n. refl;
    } in
    let socket_read = option_read s nothing_held _ (codes "socket") (text_rule (codes "socket")) socket _ (refl, refl, refl, refl, refl, refl, refl) plain refl in
    let sized = size_read s h lanes shards limit [] is_sized size in
    level_taken s _ _ (then_comes s _ _ _ _ _ _ socket_read sized.0) (ap (λ b. b && true) sized.1)

tab_passes : (socket script : Text) → IsPlain socket → IsPlain script
    → level_passes (built_sub tab_command) [] nothing_held (codes "--socket" ∷ socket ∷ script ∷ []) false ≡ true
tab_passes socket script plain_socket plain_script =
    let s = built_sub tab_command in
    let socket_read = option_read s nothing_held _ (codes "socket") (text_rule (codes "socket")) socket _ (refl, refl, refl, refl, refl, refl, refl) plain_socket refl in
    let placed = option_placed s _ script_rule script refl refl refl refl refl plain_script refl in
    level_taken s _ _ (then_comes s _ _ _ _ _ _ socket_read placed) refl

-- The program

-- After a subcommand's name, the remaining words belong to the subcommand.
stopped_passes : (s : Shape) (names : Names) (w : Walk) (p : Text × List Text) (words : List Text) → walk_passes s names (record w { stopped = Some p }) words ≡ true
unfolding walk_passes walked
stopped_passes s names w p [] = refl
stopped_passes s names w p (x ∷ xs) = stopped_passes s names w (p.0, p.1 ++ x ∷ []) xs

-- A command accepts a subcommand's name followed by words that the subcommand accepts.
named_taken : (b : App) (called : Text) (words : List Text)
    → walked b.top.rules (names_of b) (walk_from nothing_held) called ≡ record (walk_from nothing_held) { stopped = Some (called, []) }
    → turn_passes b.top (names_of b) (walk_from nothing_held) called ≡ true
    → (entered_passes b (Some (called, words)) && (settle_passes b.top.rules b.top.args_override_self nothing_held && (list_all default_passes b.top.rules
    && is_valid b.top (finished b.top.rules nothing_held) (is_some (entered b (Some (called, words))))))) ≡ true
    → built_takes b nothing_held (called ∷ words) ≡ true
unfolding walk_passes
named_taken b called words met turn ends =
    let w = walk_from nothing_held in
    let stop = ap (λ (v : Walk). fold (walked b.top.rules (names_of b)) v words) met ∙ sym (walk_stopped b.top.rules (names_of b) w called [] words) in
    let passes : walk_passes b.top (names_of b) w (called ∷ words) ≡ true =
    ap₂ (λ x (v : Walk). x && walk_passes b.top (names_of b) v words) turn met ∙ stopped_passes b.top (names_of b) w (called, []) words in
    ap₂ (λ (v : Walk) x. entered_passes b v.stopped && (x && (settle_passes b.top.rules b.top.args_override_self v.held && (list_all default_passes b.top.rules
    && is_valid b.top (finished b.top.rules v.held) (is_some (entered b v.stopped)))))) stop passes ∙ ends

kernel_taken : (words : List Text) → level_passes (built_sub kernel_command) [] nothing_held words false ≡ true
    → built_takes (built command_line) nothing_held (codes "kernel" ∷ words) ≡ true
unfolding walked
kernel_taken words passes = named_taken (built command_line) (codes "kernel") words refl refl (ap (λ b. b && true) passes)

broker_taken : (words : List Text) → level_passes (built_sub broker_command) [] nothing_held words false ≡ true
    → built_takes (built command_line) nothing_held (codes "broker" ∷ words) ≡ true
unfolding walked
broker_taken words passes = named_taken (built command_line) (codes "broker") words refl refl (ap (λ b. b && true) passes)

tab_taken : (words : List Text) → level_passes (built_sub tab_command) [] nothing_held words false ≡ true
    → built_takes (built command_line) nothing_held (codes "tab" ∷ words) ≡ true
unfolding walked
tab_taken words passes = named_taken (built command_line) (codes "tab") words refl refl (ap (λ b. b && true) passes)

takes_none : (name : Text) → takes command_line (name ∷ []) ≡ true
unfolding clap_on_literals
takes_none name = refl

takes_desk : (name : Text) → takes command_line (name ∷ codes "desk" ∷ []) ≡ true
unfolding clap_on_literals
takes_desk name = refl

takes_sim : (name : Text) → takes command_line (name ∷ codes "sim" ∷ []) ≡ true
unfolding clap_on_literals
takes_sim name = refl

-- Every command in its plain form is accepted.
form_taken : (name : Text) (rest : List Text) → IsPlainForm rest → takes command_line (name ∷ rest) ≡ true
form_taken name rest (inl none) = ap (λ words. takes command_line (name ∷ words)) none ∙ takes_none name
form_taken name rest (inr (inl desk)) = ap (λ words. takes command_line (name ∷ words)) desk ∙ takes_desk name
form_taken name rest (inr (inr (inl sim))) = ap (λ words. takes command_line (name ∷ words)) sim ∙ takes_sim name
form_taken name rest (inr (inr (inr (inl f)))) = ap (λ words. takes command_line (name ∷ words)) f.spelled
    ∙ kernel_taken _ (kernel_passes f.directory f.script f.lanes f.shards f.limit f.plain.0 f.plain.1 f.in_range)
form_taken name rest (inr (inr (inr (inr (inl f))))) = ap (λ words. takes command_line (name ∷ words)) f.spelled
    ∙ broker_taken _ (broker_passes f.socket f.lanes f.shards f.limit f.plain f.in_range)
form_taken name rest (inr (inr (inr (inr (inr f))))) = ap (λ words. takes command_line (name ∷ words)) f.spelled
    ∙ tab_taken _ (tab_passes f.socket f.script f.plain.0 f.plain.1)

pub command_taken : (words : List Text) → IsCommand words → takes command_line words ≡ true
command_taken words is = ap (takes command_line) is.2 ∙ form_taken is.0 is.1 is.3
