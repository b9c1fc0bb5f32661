-- Calls as bytes: a code, and the call's arguments.
use Rattle.std.specs.Prelude.{ℕ, Bool, true, false, List, [], ◌∷◌, ◌++◌, length, Some}
use Rattle.std.specs.List.{flat_map}
use Rattle.pico_base.specs.declared.call.Call.{Call}
use Rattle.pico_base.specs.declared.call.Call.TheVariants as calls
use Rattle.pico_base.specs.declared.call.SemStep.{SemStep}
use Rattle.pico_base.specs.declared.numbers.Name.{Name}
use Rattle.pico_base.specs.declared.numbers.Name.TheVariants as names
use Rattle.pico_base.specs.Signal.{signal_number}
use Rattle.frame_bytes.specs.Readers.{Reader, one, two, three, four, five, counted, passing, tabled}
use Rattle.frame_bytes.specs.Fields.{word, half, signed, text, flag_byte, sigarg_byte, name_field, name_of, word_at, half_at, positive_at, count_at, signed_at, flag_at, kind_at, sig_at, sigarg_at, text_at}

-- an operation of semop

abbrev pub step_field : SemStep → List ℕ
step_field s = half s.num ++ (signed s.add ++ flag_byte s.nowait ∷ [])

unfoldable pub step_at : Reader SemStep
step_at bytes = three half_at signed_at flag_at
    (λ num add nowait. record { num = num; add = add; nowait = nowait }) bytes

-- operations, of which there is one at least

abbrev pub steps_field : List SemStep → List ℕ
steps_field steps = half (length steps) ++ flat_map step_field steps

unfoldable pub steps_at : Reader (List SemStep)
steps_at bytes = counted count_at step_at bytes

-- values for a whole set, of which there is one at least

abbrev pub values_field : List ℕ → List ℕ
values_field values = half (length values) ++ flat_map word values

unfoldable pub set_at : Reader (List ℕ)
set_at bytes = counted count_at word_at bytes

-- Where a call waits that a signal interrupts: a queue or a set. A script may wait on number 0, which names nothing.

abbrev pub is_object : Name → Bool
is_object (names.Proc pid) = false
is_object (names.Msg id) = true
is_object (names.Sem id) = true

unfoldable pub object_at : Reader Name
object_at bytes = passing is_object (two kind_at word_at name_of) bytes

-- calls

abbrev pub call_bytes : Call → List ℕ
call_bytes (calls.Kill pid sig) = 1 ∷ (word pid ++ sigarg_byte sig ∷ [])
call_bytes (calls.MsgGet (Some key) create excl) = 2 ∷ (word key ++ flag_byte create ∷ flag_byte excl ∷ [])
call_bytes (calls.MsgSnd id class bytes nowait) =
    3 ∷ (word id ++ (signed class ++ (text bytes ++ flag_byte nowait ∷ [])))
call_bytes (calls.MsgRcv id class size noerror nowait) =
    4 ∷ (word id ++ (signed class ++ (word size ++ flag_byte noerror ∷ flag_byte nowait ∷ [])))
call_bytes (calls.MsgStat id) = 5 ∷ word id
call_bytes (calls.MsgSet id qbytes) = 6 ∷ (word id ++ word qbytes)
call_bytes (calls.MsgRmid id) = 7 ∷ word id
call_bytes (calls.SemGet (Some key) count create excl) =
    8 ∷ (word key ++ (word count ++ flag_byte create ∷ flag_byte excl ∷ []))
call_bytes (calls.SemOp id steps) = 9 ∷ (word id ++ steps_field steps)
call_bytes (calls.SemGetVal id num) = 10 ∷ (word id ++ half num)
call_bytes (calls.SemSetVal id num value) = 11 ∷ (word id ++ (half num ++ word value))
call_bytes (calls.SemGetAll id) = 12 ∷ word id
call_bytes (calls.SemSetAll id values) = 13 ∷ (word id ++ values_field values)
call_bytes (calls.SemGetPid id num) = 14 ∷ (word id ++ half num)
call_bytes (calls.SemGetNcnt id num) = 15 ∷ (word id ++ half num)
call_bytes (calls.SemGetZcnt id num) = 16 ∷ (word id ++ half num)
call_bytes (calls.SemRmid id) = 17 ∷ word id
call_bytes (calls.Exit status) = 18 ∷ half status
call_bytes (calls.Killed sig) = 19 ∷ signal_number sig ∷ []
call_bytes (calls.Withdraw name) = 20 ∷ name_field name
call_bytes _ = []

-- Reading: each code with the fields behind it.

abbrev pub asked_rows : List (ℕ × Reader Call)
asked_rows =
    (1, two word_at sigarg_at calls.Kill)
    ∷ (2, three positive_at flag_at flag_at (λ key. calls.MsgGet (Some key)))
    ∷ (3, four word_at signed_at text_at flag_at calls.MsgSnd)
    ∷ (4, five word_at signed_at word_at flag_at flag_at calls.MsgRcv)
    ∷ (5, one word_at calls.MsgStat)
    ∷ (6, two word_at word_at calls.MsgSet)
    ∷ (7, one word_at calls.MsgRmid)
    ∷ (8, four positive_at word_at flag_at flag_at (λ key. calls.SemGet (Some key)))
    ∷ (9, two word_at steps_at calls.SemOp)
    ∷ (10, two word_at half_at calls.SemGetVal)
    ∷ (11, three word_at half_at word_at calls.SemSetVal)
    ∷ (12, one word_at calls.SemGetAll)
    ∷ (13, two word_at set_at calls.SemSetAll)
    ∷ (14, two word_at half_at calls.SemGetPid)
    ∷ (15, two word_at half_at calls.SemGetNcnt)
    ∷ (16, two word_at half_at calls.SemGetZcnt)
    ∷ (17, one word_at calls.SemRmid)
    ∷ []

unfoldable pub asked_call_at : Reader Call
asked_call_at bytes = tabled asked_rows bytes

abbrev pub last_rows : List (ℕ × Reader Call)
last_rows = (18, one half_at calls.Exit) ∷ (19, one sig_at calls.Killed) ∷ []

unfoldable pub last_call_at : Reader Call
last_call_at bytes = tabled last_rows bytes

abbrev pub withdrawal_rows : List (ℕ × Reader Call)
withdrawal_rows = (20, one object_at calls.Withdraw) ∷ []

unfoldable pub withdrawal_at : Reader Call
withdrawal_at bytes = tabled withdrawal_rows bytes
