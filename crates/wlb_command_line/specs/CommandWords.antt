-- The command line of `wlb`, in the grammar of clap's simple commands.
use Rattle.std.specs.Prelude.{◌≡◌, ◌⊎◌, ◌≤◌, ℕ, List, [], ◌∷◌, codes, decimal, option_map, Option, Some, None, pos, true, false, IsSome, String, ⊤}
use Rattle.std.specs.String.{string_bytes}
use Rattle.std.specs.declared.alloc.Global.{Global}
use Rattle.std.specs.Str.Parse.{digits_value, starts_with_minus, without_leading_plus}
use Rattle.clap.specs.Values.{IsSignedIn}
use Rattle.clap.specs.Words.{App, Row, Rule, Text, app_of, first_of, found_of, new_app, new_rule, one_of, rows_of, rule_of, subcommand_of, with_rule, with_subcommand, without_minus}
use Rattle.clap.specs.declared.builder.arg.Arg.{Arg}
use Rattle.clap.specs.declared.builder.command.Command.{Command}
use Rattle.clap.specs.declared.builder.command.Command.TheViews.{out-Command}
use Rattle.clap.specs.declared.builder.value_parser.ValueParser.{ValueParser}
use Rattle.clap.specs.declared.builder.value_parser.ValueParser.TheVariants.{Signed}
use Rattle.clap.specs.declared.parser.matches.ArgMatches.{ArgMatches}
use Rattle.wl_locked.specs.declared.locked.TheConstants.{LANE_LIMIT, STEP_LIMIT}
use Rattle.wl_locked.specs.declared.shards.TheConstants.{SHARD_LIMIT}
use Rattle.wlb_command_line.specs.declared.command.Line.{Line}
use Rattle.wlb_command_line.specs.declared.command.Line.TheVariants.{Desk, Sim, Kernel, Broker, Tab}

-- Grammar

-- A required positional argument.
abbrev pub placed : Text → Rule
placed id = record (new_rule id) { value_names = 1; required = true }

-- A required option with a text value.
abbrev pub text_option : Text → Rule
text_option id = record (placed id) { long = Some id }

-- A required option with a value that a parser accepts.
abbrev pub number_option : Text → ValueParser → Rule
number_option id parser = record (text_option id) { parser = Some parser }

-- The parser of numbers from 1 to a limit.
abbrev pub up_to : ℕ → ValueParser
up_to limit = Signed (pos 1) (pos limit)

-- A command with the options for the size of a broker.
abbrev pub with_size : App → App
with_size app =
    let with_lanes = with_rule app (number_option (codes "lanes") (up_to LANE_LIMIT)) in
    let with_shards = with_rule with_lanes (number_option (codes "shards") (up_to SHARD_LIMIT)) in
    with_rule with_shards (number_option (codes "limit") (up_to STEP_LIMIT))

abbrev pub kernel_command : App
kernel_command = with_rule (with_size (with_rule (new_app (codes "kernel")) (text_option (codes "dir")))) (placed (codes "script"))

abbrev pub broker_command : App
broker_command = with_size (with_rule (new_app (codes "broker")) (text_option (codes "socket")))

abbrev pub tab_command : App
tab_command = with_rule (with_rule (new_app (codes "tab")) (text_option (codes "socket"))) (placed (codes "script"))

-- The program with its subcommands.
abbrev pub command_line : App
command_line =
    let with_desk = with_subcommand (new_app (codes "wlb")) (new_app (codes "desk")).top in
    let with_sim = with_subcommand with_desk (new_app (codes "sim")).top in
    let with_kernel = with_subcommand with_sim kernel_command.top in
    let with_broker = with_subcommand with_kernel broker_command.top in
    with_subcommand with_broker tab_command.top

-- The argument follows this rule and is not global.
abbrev pub HasRule : Rule → Arg → Type 0
HasRule rule arg = (rule_of arg ≡ rule) × (arg.global ≡ false)

-- The command follows this grammar and has no global arguments.
abbrev pub HasGrammar : App → Command → Type 0
HasGrammar app command = (app_of command ≡ app) × ((out-Command command).has_globals ≡ false)

-- Meaning of the words

-- The values that clap found for a command.
abbrev pub values_of : ArgMatches → List Row
values_of matches = rows_of (found_of matches)

-- The argument of this id has this text.
abbrev pub HasText : List Row → Text → String Global → Type 0
HasText values id text = first_of id values ≡ Some (string_bytes text)

-- The argument of this id has this number, as clap reads it from the text.
abbrev pub HasNumber : List Row → Text → ℕ → Type 0
HasNumber values id number =
    option_map (λ text. digits_value 10 (without_leading_plus text)) (one_of id values) ≡ Some number

abbrev pub HasSize : List Row → ℕ → ℕ → ℕ → Type 0
HasSize values lanes shards limit = HasNumber values (codes "lanes") lanes
    × HasNumber values (codes "shards") shards × HasNumber values (codes "limit") limit

-- The subcommand that clap found, with its values, means this line.
abbrev pub Means : Option (Text × List Row) → Line → Type 0
Means found Desk = (found ≡ None) ⊎ ((values : List Row) × (found ≡ Some (codes "desk", values)))
Means found Sim = (values : List Row) × (found ≡ Some (codes "sim", values))
Means found (Kernel directory lanes shards limit script) = (values : List Row) × (found ≡ Some (codes "kernel", values))
    × HasText values (codes "dir") directory × HasSize values lanes shards limit × HasText values (codes "script") script
Means found (Broker socket lanes shards limit) = (values : List Row) × (found ≡ Some (codes "broker", values))
    × HasText values (codes "socket") socket × HasSize values lanes shards limit
Means found (Tab socket script) = (values : List Row) × (found ≡ Some (codes "tab", values))
    × HasText values (codes "socket") socket × HasText values (codes "script") script

-- The line is the meaning of the words.
abbrev pub IsMeant : List Text → Line → Type 0
IsMeant words = Means (subcommand_of command_line words)

-- The numbers for the size of a broker are within their limits.
abbrev pub IsSizeInRange : ℕ → ℕ → ℕ → Type 0
IsSizeInRange lanes shards limit = (1 ≤ lanes) × (lanes ≤ LANE_LIMIT)
    × (1 ≤ shards) × (shards ≤ SHARD_LIMIT) × (1 ≤ limit) × (limit ≤ STEP_LIMIT)

abbrev pub IsInRange : Line → Type 0
IsInRange Desk = ⊤
IsInRange Sim = ⊤
IsInRange (Kernel directory lanes shards limit script) = IsSizeInRange lanes shards limit
IsInRange (Broker socket lanes shards limit) = IsSizeInRange lanes shards limit
IsInRange (Tab socket script) = ⊤

-- Guarantees of clap's grammar

-- The values include a text for this id.
abbrev pub GivesText : List Row → Text → Type 0
GivesText values id = IsSome (first_of id values)

-- The values include a number from 1 to a limit for this id.
abbrev pub GivesNumber : List Row → Text → ℕ → Type 0
GivesNumber values id limit = (text : Text) × (one_of id values ≡ Some (without_minus text)) × IsSignedIn (pos 1) (pos limit) text

abbrev pub GivesSize : List Row → Type 0
GivesSize values = GivesNumber values (codes "lanes") LANE_LIMIT
    × GivesNumber values (codes "shards") SHARD_LIMIT × GivesNumber values (codes "limit") STEP_LIMIT

-- The name is that of a subcommand.
abbrev pub IsKnown : Text → Type 0
IsKnown name = (name ≡ codes "desk") ⊎ ((name ≡ codes "sim") ⊎ ((name ≡ codes "kernel") ⊎ ((name ≡ codes "broker") ⊎ (name ≡ codes "tab"))))

-- The name is that of a subcommand, and the values include all that it requires.
pub record GivesAll (name : Text) (values : List Row) : Type 0 where
  pub known : IsKnown name
  pub kernel : name ≡ codes "kernel" → GivesText values (codes "dir") × GivesSize values × GivesText values (codes "script")
  pub broker : name ≡ codes "broker" → GivesText values (codes "socket") × GivesSize values
  pub tab : name ≡ codes "tab" → GivesText values (codes "socket") × GivesText values (codes "script")

-- Commands in plain form

-- The text does not start with a hyphen.
abbrev pub IsPlain : Text → Type 0
IsPlain text = starts_with_minus text ≡ false

-- The options for the size of a broker, in decimal, followed by other words.
abbrev pub size_words : ℕ → ℕ → ℕ → List Text → List Text
size_words lanes shards limit rest =
    codes "--lanes" ∷ decimal lanes ∷ codes "--shards" ∷ decimal shards ∷ codes "--limit" ∷ decimal limit ∷ rest

-- The words of a `kernel` command, with all options in the order of its help.
pub record IsKernelForm (words : List Text) : Type 0 where
  pub directory : Text
  pub lanes : ℕ
  pub shards : ℕ
  pub limit : ℕ
  pub script : Text
  pub plain : IsPlain directory × IsPlain script
  pub in_range : IsSizeInRange lanes shards limit
  pub spelled : words ≡ codes "kernel" ∷ codes "--dir" ∷ directory ∷ size_words lanes shards limit (script ∷ [])

pub record IsBrokerForm (words : List Text) : Type 0 where
  pub socket : Text
  pub lanes : ℕ
  pub shards : ℕ
  pub limit : ℕ
  pub plain : IsPlain socket
  pub in_range : IsSizeInRange lanes shards limit
  pub spelled : words ≡ codes "broker" ∷ codes "--socket" ∷ socket ∷ size_words lanes shards limit []

pub record IsTabForm (words : List Text) : Type 0 where
  pub socket : Text
  pub script : Text
  pub plain : IsPlain socket × IsPlain script
  pub spelled : words ≡ codes "tab" ∷ codes "--socket" ∷ socket ∷ script ∷ []

-- The words after the program's name: none, a subcommand's name alone, or a subcommand with all its
-- options.
abbrev pub IsPlainForm : List Text → Type 0
IsPlainForm words = (words ≡ []) ⊎ ((words ≡ codes "desk" ∷ []) ⊎ ((words ≡ codes "sim" ∷ [])
    ⊎ (IsKernelForm words ⊎ (IsBrokerForm words ⊎ IsTabForm words))))

abbrev pub IsCommand : List Text → Type 0
IsCommand words = (name : Text) × (rest : List Text) × (words ≡ name ∷ rest) × IsPlainForm rest
