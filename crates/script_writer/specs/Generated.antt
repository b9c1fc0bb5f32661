-- Generated scripts. Script N has P = 2 + N mod 31 blocks: `main`, and a worker for each number from 1 to P - 1. For
-- each worker main makes a queue, sends M = 10 + N mod 291 messages to it, and then forks the worker, which receives
-- them all and tells main so with a message to the queue that main made first.
use Rattle.std.specs.Prelude.{ℕ, zero, suc, ◌+◌, ◌*◌, ◌%◌, pos, true, false, List, [], ◌∷◌, ◌++◌, map, replicate, codes, nat_lt, if◌then◌else◌, Option, Some, None}
use Rattle.std.specs.List.{flat_map}
use Rattle.std.specs.Fmt.{decimal}
use Rattle.pico_base.specs.declared.call.Call.{Call}
use Rattle.pico_base.specs.declared.call.Call.TheVariants as calls
use Rattle.pico_base.specs.declared.script.Line.{Line}
use Rattle.pico_base.specs.declared.script.Block.{Block}
use Rattle.pico_base.specs.declared.script.Script.{Script}

-- the numbers from 1 to n
abbrev pub upto : ℕ → List ℕ
upto zero = []
upto (suc n) = upto n ++ suc n ∷ []

-- how many workers, and how many messages each of them gets
abbrev pub workers_of : ℕ → ℕ
workers_of number = 1 + number % 31

abbrev pub messages_of : ℕ → ℕ
messages_of number = 10 + number % 291

-- Variables by their index: `s`, whose queue is main's, and `q` and the digits of k, whose queue is worker k's.

abbrev pub main_queue : ℕ
main_queue = 111 * 18

abbrev pub worker_queue : ℕ → ℕ
worker_queue k = 111 * 16 + (if nat_lt k 10 then 1 + k else 11 + k)

-- Lines. No line is tried again.

abbrev pub line : Option ℕ → Option ℕ → Call → Line
line set from call = record { set = set; tries = 1; from = from; call = call }

-- `VAR = msgget private`
abbrev pub make : ℕ → Line
make queue = line (Some queue) None (calls.MsgGet None false false)

-- `msgsnd $VAR 1 "x" nowait`
abbrev pub send : ℕ → Line
send queue = line None (Some queue) (calls.MsgSnd 0 (pos 1) (codes "x") true)

-- `msgrcv $VAR 0 8 nowait`
abbrev pub receive : ℕ → Line
receive queue = line None (Some queue) (calls.MsgRcv 0 (pos 0) 8 false true)

-- `fork wk`: worker k is block k + 1
abbrev pub fork : ℕ → Line
fork k = line None None (calls.Fork (k + 1))

-- Blocks.

-- what main does for worker k
abbrev pub lines_for : ℕ → ℕ → List Line
lines_for messages k =
    make (worker_queue k) ∷ (replicate messages (send (worker_queue k)) ++ fork k ∷ [])

abbrev pub main_lines : ℕ → ℕ → List Line
main_lines messages workers = make main_queue ∷ flat_map (lines_for messages) (upto workers)

abbrev pub main : ℕ → ℕ → Block
main messages workers = record { name = codes "main"; lines = main_lines messages workers }

abbrev pub worker_lines : ℕ → ℕ → List Line
worker_lines messages k = replicate messages (receive (worker_queue k)) ++ send main_queue ∷ []

-- `wk`
abbrev pub worker_name : ℕ → List ℕ
worker_name k = codes "w" ++ decimal k

abbrev pub worker : ℕ → ℕ → Block
worker messages k = record { name = worker_name k; lines = worker_lines messages k }

-- the script with so many messages for each of so many workers
abbrev pub script_with : ℕ → ℕ → Script
script_with messages workers = record { blocks = main messages workers ∷ map (worker messages) (upto workers) }

-- the script of this number
unfoldable pub generated : ℕ → Script
generated number = script_with (messages_of number) (workers_of number)
