-- What a line says by itself, wherever it stands.
use Rattle.std.specs.Prelude.{ℕ, ◌+◌, ◌==◌, Bool, false, ◌&&◌, List, [], ◌∷◌, ◌++◌, codes, bytes_eq, fold, position, if◌then◌else◌, Option, Some, None, option_map}
use Rattle.std.specs.List.{list_any}
use Rattle.std.specs.Option.{unwrap_or}
use Rattle.kernel_model.specs.Script.{is_name}
use Rattle.call_words.specs.declared.verb.Verb.{Verb}
use Rattle.call_words.specs.declared.verb.Verb.TheVariants as verbs
use Rattle.script_reader.specs.declared.says.Front.{Front}
use Rattle.script_reader.specs.declared.says.Front.TheVariants.{Wrong, Gives}
use Rattle.script_reader.specs.declared.says.Said.{Said}
use Rattle.script_reader.specs.declared.says.Said.TheVariants.{Skipped, Opens, BadProc, Ends, Unknown, Bad, Forks, Calls}
use Rattle.script_reader.specs.Words.{words_of}
use Rattle.script_reader.specs.Parts.{positive, variable}
use Rattle.call_words.specs.Verbs.{verb_of}
use Rattle.script_reader.specs.Forms.{FromCall, call_of}

-- ---- the blocks of a text

-- the name in a line `proc NAME`, by the line's words
unfoldable pub opened_by : List (List ℕ) → Option (List ℕ)
opened_by (p ∷ name ∷ []) = if bytes_eq p (codes "proc") && is_name name then Some name else None
opened_by _ = None

abbrev pub opening_at : List ℕ → Option (List ℕ)
opening_at line = opened_by (words_of line)

-- the names that stand in the lines `proc NAME`, each once, in the order of their first lines
abbrev pub with_name : List (List ℕ) → List ℕ → List (List ℕ)
with_name names name = if list_any (bytes_eq name) names then names else names ++ name ∷ []

abbrev pub with_opening : List (List ℕ) → Option (List ℕ) → List (List ℕ)
with_opening names None = names
with_opening names (Some name) = with_name names name

abbrev pub names_of : List (List ℕ) → List (List ℕ)
names_of lines = fold (λ names line. with_opening names (opening_at line)) [] lines

-- the number of the block of this name: blocks are counted from 1 in the order of the names
unfoldable pub number_of : List (List ℕ) → List ℕ → Option ℕ
number_of names name = option_map (λ place. place + 1) (position (bytes_eq name) names)

-- ---- what may stand in front of a call

abbrev pub nothing : Front ℕ
nothing = Gives None

-- what stands there, by the value that it is read as
abbrev pub given : Option ℕ → Front ℕ
given None = Wrong
given (Some value) = Gives (Some value)

-- `VAR =`, which a second word `=` shows, and the words behind it
unfoldable pub set_at : List (List ℕ) → Front ℕ × List (List ℕ)
set_at (v ∷ e ∷ words) = if bytes_eq e (codes "=") then (given (variable v), words) else (nothing, v ∷ e ∷ words)
set_at words = (nothing, words)

-- how often a line may try its call
abbrev pub max_tries : ℕ
max_tries = 20000

-- `try N`, which a word `try` shows, and the words behind it
unfoldable pub tries_at : List (List ℕ) → Front ℕ × List (List ℕ)
tries_at (t ∷ n ∷ words) =
    if bytes_eq t (codes "try") then (given (positive max_tries n), words) else (nothing, t ∷ n ∷ words)
tries_at (t ∷ []) = if bytes_eq t (codes "try") then (Wrong, []) else (nothing, t ∷ [])
tries_at [] = (nothing, [])

-- ---- call lines

abbrev pub line_with : Option ℕ → Option ℕ → FromCall → Said
line_with set tries call = Calls (record { set = set; tries = unwrap_or tries 1; from = call.0; call = call.1 })

-- `fork NAME` doesn't go with `try`
unfoldable pub fork_said : List (List ℕ) → Front ℕ → Front ℕ → List (List ℕ) → Said
fork_said names (Gives set) (Gives None) (name ∷ []) =
    if is_name name then Forks set (number_of names name) else Bad
fork_said names _ _ _ = Bad

abbrev pub said_from : Option ℕ → Option ℕ → Option FromCall → Said
said_from set tries None = Bad
said_from set tries (Some call) = line_with set tries call

-- `exit N` goes with neither `VAR =` nor `try`
unfoldable pub exit_said : Front ℕ → Front ℕ → Option FromCall → Said
exit_said (Gives None) (Gives None) call = said_from None None call
exit_said _ _ call = Bad

unfoldable pub other_said : Front ℕ → Front ℕ → Option FromCall → Said
other_said (Gives set) (Gives tries) call = said_from set tries call
other_said _ _ call = Bad

-- a call of this name, with these words behind the name
unfoldable pub verb_said : List (List ℕ) → Front ℕ → Front ℕ → Verb → List (List ℕ) → Said
verb_said names set tries verbs.Fork words = fork_said names set tries words
verb_said names set tries verbs.Exit words = exit_said set tries (call_of verbs.Exit words)
verb_said names set tries verb words = other_said set tries (call_of verb words)

abbrev pub named_said : List (List ℕ) → Front ℕ → Front ℕ → Option Verb → List (List ℕ) → Said
named_said names set tries None words = Unknown
named_said names set tries (Some verb) words = verb_said names set tries verb words

-- the call behind `VAR =` and `try N`. A line that ends before the call's name is bad
unfoldable pub call_said : List (List ℕ) → Front ℕ → Front ℕ → List (List ℕ) → Said
call_said names set tries [] = Bad
call_said names set tries (name ∷ words) = named_said names set tries (verb_of name) words

unfoldable pub line_said : List (List ℕ) → List (List ℕ) → Said
line_said names words =
    let front : Front ℕ × List (List ℕ) = set_at words in
    let behind : Front ℕ × List (List ℕ) = tries_at front.1 in
    call_said names front.0 behind.0 behind.1

-- ---- lines

-- `proc NAME`, by the words behind `proc`
abbrev pub proc_from : Option ℕ → List ℕ → Said
proc_from None name = BadProc
proc_from (Some number) name = Opens name number

unfoldable pub proc_said : List (List ℕ) → List (List ℕ) → Said
proc_said names (name ∷ []) = if is_name name then proc_from (number_of names name) name else BadProc
proc_said names _ = BadProc

unfoldable pub end_said : List (List ℕ) → Said
end_said [] = Ends
end_said _ = Bad

unfoldable pub is_comment : List ℕ → Bool
is_comment [] = false
is_comment (b ∷ bytes) = b == 35

-- a line by its words, in a text whose blocks have these names
unfoldable pub words_said : List (List ℕ) → List (List ℕ) → Said
words_said names [] = Skipped
words_said names (w ∷ words) =
    if is_comment w
    then Skipped
    else
    if bytes_eq w (codes "proc")
    then proc_said names words
    else if bytes_eq w (codes "end") then end_said words else line_said names (w ∷ words)

abbrev pub said_of : List (List ℕ) → List ℕ → Said
said_of names line = words_said names (words_of line)
