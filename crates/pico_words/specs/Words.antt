-- The words behind the program's name. They are read as `clap` reads those of a simple command: options may stand
-- before and behind MODE, `--seed=N` is `--seed N`, `--` ends the options, and no option is given twice.
use Rattle.std.specs.Prelude.{ℕ, Bool, true, false, not, ◌&&◌, ◌||◌, List, [], ◌∷◌, codes, bytes_eq, if◌then◌else◌, Option, Some, None, is_some, option_map}
use Rattle.std.specs.Option.{option_map_or}
use Rattle.pico_base.specs.Options.{◌>>=◌}
use Rattle.clap.specs.Words.{App, Row, Rule, fault_of, first_of, matches_of, new_rule, with_rule}
use Rattle.clap.specs.Walk.{is_empty}
use Rattle.clap.specs.Simple.{Shape, new_shape}
use Rattle.clap.specs.declared.builder.action.ArgAction.TheVariants.{SetTrue}
use Rattle.text_fields.specs.Fields.{number_at}
use Rattle.pico_words.specs.declared.words.Options.{Options}
use Rattle.pico_words.specs.declared.words.Request.{Request}
use Rattle.pico_words.specs.declared.words.Request.TheVariants.{Run, Simulate, Check, Generate, Boxes, Freeze, Thaw, Queues}

-- ---- the command

-- a word that must be there
abbrev pub mode_rule : Rule
mode_rule = record (new_rule (codes "mode")) { required = true }

-- an option with a value
abbrev pub seed_rule : Rule
seed_rule = record (new_rule (codes "seed")) { long = Some (codes "seed") }

-- an option without one
abbrev pub steps_rule : Rule
steps_rule = record (new_rule (codes "steps")) { long = Some (codes "steps"); action = Some SetTrue }

-- neither the program's name nor an option for help or the version is among the words
abbrev pub bare : Shape
bare = record (new_shape (codes "pico")) {
  no_binary_name = true;
  disable_help_flag = true;
  disable_version_flag = true;
}

-- `pico MODE [--seed N] [--steps]`
abbrev pub command : App
command = with_rule (with_rule (with_rule (record { top = bare; subs = [] }) mode_rule) seed_rule) steps_rule

-- ---- what they ask for

-- the greatest number of a schedule and of a generated script
abbrev pub max_seed : ℕ
max_seed = 2147483646

-- a number that nothing follows
abbrev pub whole : ℕ × List ℕ → Option ℕ
whole number = if is_empty number.1 then Some number.0 else None

-- N, in decimal digits without leading zeros; 0 where the words have none
unfoldable pub number_of : Option (List ℕ) → Option ℕ
number_of None = Some 0
number_of (Some word) = number_at max_seed word >>= whole

abbrev pub options_with : Bool → ℕ → Options
options_with steps seed = record { seed = seed; steps = steps }

abbrev pub options_of : Option (List ℕ) → Bool → Option Options
options_of seed steps = option_map (options_with steps) (number_of seed)

-- of the modes that have to do with images `freeze` has `--seed`, and `thaw` no option
unfoldable pub meant_of_image : Option (List ℕ) → Bool → List ℕ → Option Request
meant_of_image seed steps mode =
    if bytes_eq mode (codes "freeze") && not steps
    then option_map Freeze (number_of seed)
    else if bytes_eq mode (codes "thaw") && not (is_some seed || steps) then Some Thaw else None

-- each option goes with the mode: `run` and `mq` have `--steps`, `sim` and `gen` have both, and `check` and `boxes`
-- none
unfoldable pub meant : Option (List ℕ) → Bool → List ℕ → Option Request
meant seed steps mode =
    if bytes_eq mode (codes "run") && not (is_some seed)
    then Some (Run steps)
    else
    if bytes_eq mode (codes "sim")
    then option_map Simulate (options_of seed steps)
    else
    if bytes_eq mode (codes "gen")
    then option_map Generate (options_of seed steps)
    else
    if bytes_eq mode (codes "check") && not (is_some seed || steps)
    then Some Check
    else
    if bytes_eq mode (codes "boxes") && not (is_some seed || steps)
    then Some Boxes
    else
    if bytes_eq mode (codes "mq") && not (is_some seed)
    then Some (Queues steps)
    else meant_of_image seed steps mode

-- ---- what the words give

-- the command finds no fault in the words
unfoldable pub is_taken : List (List ℕ) → Bool
is_taken words = is_empty (fault_of command words)

-- `--steps` was found
abbrev pub is_true : Option (List ℕ) → Bool
is_true text = option_map_or (λ bytes. bytes_eq bytes (codes "true")) text false

-- what is meant by what the command found: a word for MODE, perhaps one for N, and whether `--steps` is there
abbrev pub found : List Row → Option Request
found rows =
    first_of (codes "mode") rows
    >>= meant (first_of (codes "seed") rows) (is_true (first_of (codes "steps") rows))

-- What the words ask for; none where they aren't in order.
unfoldable pub request_in : List (List ℕ) → Option Request
request_in words = if is_taken words then found (matches_of command words) else None
