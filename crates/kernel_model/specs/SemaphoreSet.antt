-- A semaphore set (POSIX.1-2017: semget, semop, semctl; System Interfaces 2.7 for what these share).
use Rattle.std.specs.Prelude.{ℕ, ◌+◌, ◌-◌, ℤ, pos, negsuc, suc, zero, Bool, ◌||◌, List, [], ◌∷◌, length, map, replicate, nat_eq, nat_lt, nat_le, if◌then◌else◌, Option, Some, None, Result, Ok, Err, slice_get, slice_set, fold}
use Rattle.std.specs.List.{list_any}
use Rattle.pico_base.specs.declared.call.SemStep.{SemStep}
use Rattle.pico_base.specs.declared.reply.Errno.{Errno}
use Rattle.pico_base.specs.declared.reply.Errno.TheVariants.{Einval, Eagain, E2big, Efbig, Erange}

-- a semaphore: semval and sempid, which is 0 for no process yet
pub record Semaphore : Type 0 where
  pub value : ℕ
  pub last : ℕ

pub record SemaphoreSet : Type 0 where
  pub semaphores : List Semaphore

abbrev pub set_of : List Semaphore → SemaphoreSet
set_of semaphores = record { semaphores = semaphores }

-- the limits (profile): a set's semaphores, a semaphore's value, and the operations of a semop
abbrev pub max_semaphores : ℕ
max_semaphores = 64

abbrev pub max_value : ℕ
max_value = 32767

abbrev pub max_operations : ℕ
max_operations = 32

-- semget: EINVAL for no semaphores, or more than a set may have. The values of a new set are 0 (profile: semget leaves
-- them open)
abbrev pub is_bad_count : ℕ → Bool
is_bad_count count = nat_eq count 0 || nat_lt max_semaphores count

abbrev pub new_semaphore : Semaphore
new_semaphore = record { value = 0; last = 0 }

abbrev pub new_set : ℕ → Result SemaphoreSet Errno
new_set count = if is_bad_count count then Err Einval else Ok (set_of (replicate count new_semaphore))

-- The trial of a semop (semop: all operations or none). Its operations are taken in order, on a copy of the values
-- (profile).

abbrev pub values_of : List Semaphore → List ℕ
values_of semaphores = map (λ s. s.value) semaphores

-- one operation: the new value, or it would have to wait, or the value would be above the limit (ERANGE: semop leaves
-- a value above the limit open, so profile)
pub data Moved : Type 0 where
  To : (value : ℕ) → Moved
  Waits : Moved
  TooHigh : Moved

-- a negative one needs a value at least its size, zero needs the value 0, and a positive one adds
abbrev pub move_by : ℤ → ℕ → Moved
move_by (pos zero) value = if nat_eq value 0 then To 0 else Waits
move_by (pos (suc n)) value = if nat_le (value + suc n) max_value then To (value + suc n) else TooHigh
move_by (negsuc n) value = if nat_le (suc n) value then To (value - suc n) else Waits

-- a number that is no semaphore's is refused before the trial
abbrev pub move_at : ℤ → Option ℕ → Moved
move_at add None = Waits
move_at add (Some value) = move_by add value

-- the trial: all new values, the first operation that would have to wait, or a value above the limit, whichever comes
-- first (profile)
pub data Tried : Type 0 where
  Done : (values : List ℕ) → Tried
  StopsAt : (index : ℕ) → Tried
  OutOfRange : Tried

abbrev pub go_on : ℕ → List ℕ → ℕ → Moved → (List ℕ → Tried) → Tried
go_on index values num (To value) rest = rest (slice_set values num value)
go_on index values num Waits rest = StopsAt index
go_on index values num TooHigh rest = OutOfRange

-- from the operation of this index on
abbrev pub try_from : ℕ → List ℕ → List SemStep → Tried
try_from index values [] = Done values
try_from index values (step ∷ steps) =
    go_on index values step.num (move_at step.add (slice_get values step.num)) (λ next. try_from (index + 1) next steps)

abbrev pub try_ops : List ℕ → List SemStep → Tried
try_ops values steps = try_from 0 values steps

-- semop. After the trial each named semaphore's last process is the caller, also where its operation is zero (semop:
-- sempid of each semaphore in the array of operations)

-- other values, and the same last processes
abbrev pub with_values : List Semaphore → List ℕ → List Semaphore
with_values [] values = []
with_values (s ∷ rest) [] = s ∷ rest
with_values (s ∷ rest) (value ∷ values) = record s { value = value } ∷ with_values rest values

abbrev pub with_last : Semaphore → ℕ → Semaphore
with_last s pid = record s { last = pid }

abbrev pub mark_at : List Semaphore → ℕ → ℕ → Option Semaphore → List Semaphore
mark_at semaphores pid num None = semaphores
mark_at semaphores pid num (Some s) = slice_set semaphores num (with_last s pid)

abbrev pub mark : ℕ → List Semaphore → SemStep → List Semaphore
mark pid semaphores step = mark_at semaphores pid step.num (slice_get semaphores step.num)

abbrev pub op_after_trial : SemaphoreSet → ℕ → List SemStep → Tried → Result SemaphoreSet Errno
op_after_trial set pid steps (Done values) =
    Ok (record set { semaphores = fold (mark pid) (with_values set.semaphores values) steps })
op_after_trial set pid steps (StopsAt index) = Err Eagain
op_after_trial set pid steps OutOfRange = Err Erange

-- E2BIG for too many operations, then EFBIG for a number that is no semaphore's
abbrev pub op : SemaphoreSet → ℕ → List SemStep → Result SemaphoreSet Errno
op set pid steps =
    if nat_lt max_operations (length steps) then Err E2big
    else if list_any (λ step. nat_le (length set.semaphores) step.num) steps then Err Efbig
    else op_after_trial set pid steps (try_ops (values_of set.semaphores) steps)

-- semctl with GETVAL and GETPID: EINVAL for a number that is no semaphore's
abbrev pub read_semaphore : Option Semaphore → (Semaphore → ℕ) → Result ℕ Errno
read_semaphore None part = Err Einval
read_semaphore (Some s) part = Ok (part s)

abbrev pub value_at : SemaphoreSet → ℕ → Result ℕ Errno
value_at set num = read_semaphore (slice_get set.semaphores num) (λ s. s.value)

abbrev pub last_at : SemaphoreSet → ℕ → Result ℕ Errno
last_at set num = read_semaphore (slice_get set.semaphores num) (λ s. s.last)

-- semctl with GETNCNT and GETZCNT: nobody waits
abbrev pub waiting_at : SemaphoreSet → ℕ → Result ℕ Errno
waiting_at set num = read_semaphore (slice_get set.semaphores num) (λ _. 0)

-- semctl with SETVAL and SETALL: ERANGE for a value above the limit. Last processes stay (profile: semctl says nothing
-- of sempid)
abbrev pub set_value_at : SemaphoreSet → ℕ → ℕ → Option Semaphore → Result SemaphoreSet Errno
set_value_at set num value None = Err Einval
set_value_at set num value (Some s) =
    if nat_lt max_value value then Err Erange
    else Ok (record set { semaphores = slice_set set.semaphores num (record s { value = value }) })

abbrev pub set_value : SemaphoreSet → ℕ → ℕ → Result SemaphoreSet Errno
set_value set num value = set_value_at set num value (slice_get set.semaphores num)

-- another count of values than the set's size is refused (profile)
abbrev pub set_all : SemaphoreSet → List ℕ → Result SemaphoreSet Errno
set_all set values =
    if nat_eq (length values) (length set.semaphores)
    then if list_any (nat_lt max_value) values then Err Erange
    else Ok (record set { semaphores = with_values set.semaphores values })
    else Err Einval
