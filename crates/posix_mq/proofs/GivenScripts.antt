-- A text that is read gives a sound script, which is a given script.
use Rattle.std.proofs.Common.{◌≡◌, ℕ, ◌+◌, ◌≤◌, true, List, [], ◌∷◌, length, eqb, Some, None, Result, Ok, Err, refl, subst}
use Rattle.std.specs.Prelude.{IfErr}
use Rattle.std.specs.List.{list_all}
use Rattle.std.proofs.lemmas.Bool.{ltb-false}
use Rattle.pico_base.specs.declared.script.Block.{Block}
use Rattle.pico_base.specs.declared.script.Script.{Script}
use Rattle.kernel_model.specs.Script.{IsSoundScript}
use Rattle.script_reader.specs.declared.fault.ScriptStop.{ScriptStop}
use Rattle.script_reader.specs.declared.fault.ScriptStop.TheVariants.{Memory, At}
use Rattle.script_reader.specs.declared.place.Place.{Place}
use Rattle.script_reader.specs.declared.says.Said.{Said}
use Rattle.script_reader.specs.declared.says.Said.TheVariants.{Skipped, Opens, BadProc, Ends, Unknown, Bad, Forks, Calls}
use Rattle.script_reader.specs.Words.{lines_of}
use Rattle.script_reader.specs.Says.{names_of}
use Rattle.script_reader.specs.Fault as spec
use Rattle.script_reader.specs.Fault.{start, fault_of, Blocks}
use Rattle.script_reader.proofs.Steps.{faultless}
use Rattle.script_reader.proofs.Tidy.{all_push}
use Rattle.script_reader.proofs.Sound.{IsReader, AreFine, sound_lines, script_of, whole_has, ending_ok, stopped}
use Rattle.mq_model.specs.Reading.{mq_said_of, mq_blocks_from, mq_blocks_of, outcome, Stops}
use Rattle.mq_model.specs.Given.{is_given_line, is_given_block, IsGiven}
use Rattle.posix_mq.proofs.QueueLines.{IsGivenSaid, said_right, opening_said}

-- ---- sound scripts

reader : (names : List (List ℕ)) → IsReader (mq_said_of names) (mq_blocks_from names)
unfolding mq_blocks_from
reader names = record { ends = λ place number. refl; goes = λ place number line lines. refl }

all_fine : (names : List (List ℕ)) → AreFine names (mq_said_of names)
all_fine names = record { fine = λ line h. (said_right names line h).fine; opens = opening_said names }

blocks_sound : (lines : List (List ℕ)) (blocks : List Block) → mq_blocks_of lines ≡ Ok blocks
    → IsSoundScript (script_of blocks)
unfolding mq_blocks_of
blocks_sound lines blocks e =
    let names : List (List ℕ) = names_of lines in
    sound_lines (mq_said_of names) (mq_blocks_from names) lines blocks (all_fine names) (reader names) e

-- what reads as a script is sound
pub reads_sound : (bytes : List ℕ) (given : Script) → outcome bytes ≡ Ok given → IsSoundScript given
unfolding outcome
reads_sound bytes given e =
    whole_has IsSoundScript bytes (mq_blocks_of (lines_of bytes)) given (blocks_sound (lines_of bytes)) e

-- ---- given scripts

record AreGiven (place : Place) : Type 0 where
  blocks : list_all is_given_block place.blocks ≡ true
  lines : list_all is_given_line place.lines ≡ true

given_behind : (place : Place) (said : Said) → IsGivenSaid said → AreGiven place → AreGiven (spec.behind place said)
given_behind place Skipped given h = h
given_behind place (Opens name number) given h = record { blocks = h.blocks; lines = refl }
given_behind place BadProc given h = h
given_behind place Ends given h =
    let block : Block = record { name = place.name; lines = place.lines } in
    record { blocks = all_push is_given_block place.blocks block h.blocks h.lines; lines = refl }
given_behind place Unknown given h = h
given_behind place Bad given h = h
given_behind place (Forks set None) given h = h
given_behind place (Forks set (Some number)) given h =
    record { blocks = h.blocks; lines = all_push is_given_line place.lines (spec.fork_line set number) h.lines refl }
given_behind place (Calls line) given h =
    record { blocks = h.blocks; lines = all_push is_given_line place.lines line h.lines given }

given_from : (names : List (List ℕ)) (place : Place) (number : ℕ) (lines : List (List ℕ)) (blocks : List Block)
    → AreGiven place → mq_blocks_from names place number lines ≡ Ok blocks → list_all is_given_block blocks ≡ true
unfolding mq_blocks_from
given_from names place number [] blocks h e =
    let end = ending_ok place.inside (eqb (length place.blocks) 0) number place.blocks blocks e in
    subst (λ (bs : List Block). list_all is_given_block bs ≡ true) end.2 h.blocks
given_from names place number (line ∷ lines) blocks h e =
    let said : Said = mq_said_of names line in
    let s = stopped (fault_of place (length line) said) number
    (mq_blocks_from names (spec.behind place said) (number + 1) lines) blocks e in
    let short : length line ≤ 4096 = ltb-false 4096 (length line) (faultless place (length line) said s.0).short in
    given_from names (spec.behind place said) (number + 1) lines blocks
    (given_behind place said (said_right names line short).given h) s.1

blocks_given : (lines : List (List ℕ)) (blocks : List Block) → mq_blocks_of lines ≡ Ok blocks
    → IsGiven (script_of blocks)
unfolding mq_blocks_of start
blocks_given lines blocks e =
    let names : List (List ℕ) = names_of lines in
    given_from names (start (length names)) 1 lines blocks (record { blocks = refl; lines = refl }) e

-- what reads as a script is a given script
pub reads_given : (bytes : List ℕ) (given : Script) → outcome bytes ≡ Ok given → IsGiven given
unfolding outcome
reads_given bytes given e =
    whole_has IsGiven bytes (mq_blocks_of (lines_of bytes)) given (blocks_given (lines_of bytes)) e

-- ---- faults

same_stop : (stop : ScriptStop) (read : Result Script ScriptStop) → spec.Stops stop read → Stops stop read
same_stop Memory read h = tt
same_stop (At line fault) read h = h

-- a fault that is given is the first one
pub given_fault : (r read : Result Script ScriptStop) → spec.Gives r read → IfErr r (λ stop. Stops stop read)
given_fault (Ok given) read h = tt
given_fault (Err stop) read h = same_stop stop read h
