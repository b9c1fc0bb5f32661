-- Verdicts on the traces of small scripts, and on altered ones, computed.
use Rattle.std.specs.Prelude.{◌≡◌, ⊤, ℕ, pos, true, false, List, [], ◌∷◌, ◌++◌, Some, None, Ok, Err, refl, codes}
use Rattle.std.specs.Fmt.{digits}
use Rattle.pico_base.specs.declared.call.Call.TheVariants as calls
use Rattle.pico_base.specs.declared.call.Call.TheVariants.{MsgSnd, MsgRcv, Exit, Withdraw}
use Rattle.pico_base.specs.declared.numbers.Name.TheVariants.{Msg, Sem}
use Rattle.pico_base.specs.declared.reply.Reply.TheVariants.{Num, Message}
use Rattle.pico_base.specs.declared.script.Script.{Script}
use Rattle.pico_base.specs.declared.signal.Act.TheVariants.{Catch}
use Rattle.pico_base.specs.declared.signal.Sig.TheVariants.{Usr1}
use Rattle.pico_base.specs.declared.signal.SigArg.TheVariants.{Is}
use Rattle.kernel_model.specs.Effect.{reply_alone}
use Rattle.kernel_model.specs.FirstExample.{hello}
use Rattle.kernel_model.specs.Trace.{set_text, entries_total, processes_total, not_ready_total, refused_total}
use Rattle.waiting_model.specs.TraceExamples.{one_block, two_blocks}
use Rattle.quoted_bytes.specs.Front.{strip}
use Rattle.text_fields.specs.Fields.{digit_at, digits_front, number_at, signed_at, word_at, flag_at, named_at, argument_at, many, quoted_at, repeated_at, repetition_at, text_at, set_at}
use Rattle.text_fields.specs.Bytes.{hex_at, escape_at, text_byte_at}
use Rattle.call_words.specs.Verbs.{verb_of}
use Rattle.trace_text.specs.Reading.{fork_at, exit_at, kill_at, sigaction_at, options_at, msgget_key_at, msgget_at, object_at, msgsnd_at, msgrcv_at, withdrawal_from_at, withdrawal_at, no_call_at, call_at, exited_at, ended_by_at, message_at, numbered_at, negative_at, stat_at, all_values_at, word_reply_at, reply_at, own_at, made_at, by_at, wake_at, entry_at, entry_in}
use Rattle.trace_text.specs.declared.fault.CheckFault.TheVariants.{NotATrace, Illegal, NotTheScript}
use Rattle.trace_check.specs.FirstFault.{judge_from, verdict_of}

-- what a verdict on literal bytes computes with
unfoldable pub lines_on_literals : ⊤
unfolding entries_total processes_total not_ready_total refused_total set_text judge_from verb_of fork_at exit_at
    kill_at
    sigaction_at msgget_at msgget_key_at options_at object_at msgsnd_at msgrcv_at withdrawal_from_at withdrawal_at
    no_call_at call_at numbered_at message_at word_reply_at reply_at own_at made_at by_at wake_at entry_at entry_in
    strip digit_at digits_front number_at signed_at word_at flag_at named_at many hex_at escape_at text_byte_at
    quoted_at repeated_at repetition_at text_at digits negative_at stat_at all_values_at exited_at ended_by_at set_at
    argument_at
lines_on_literals = tt

-- A process that doesn't wait.

-- the lines of the script's trace
abbrev made : List ℕ
made = codes "1 msgget private = 1 by 1\n"

abbrev sent : List ℕ
sent = codes "1 msgsnd 1 1 \"hi\" nowait = 0 by 1\n"

abbrev received : List ℕ
received = codes "1 msgrcv 1 0 16 nowait = 1 \"hi\" by 1\n"

abbrev ended : List ℕ
ended = codes "1 exit 0 = ended by 1\n"

abbrev totals : List ℕ
totals = codes "totals entries 4 processes 1 notready 0 refused 0\n"

-- whoever carried the calls out
legal : verdict_of hello
    (made ++ (sent ++ (codes "1 msgrcv 1 0 16 nowait = 1 \"hi\" by 32\n" ++ (ended ++ totals)))) 7
    ≡ Ok (record { entries = 4 })
unfolding lines_on_literals
legal = refl

-- another message than the kernel gives
another_reply : verdict_of hello
    (made ++ (sent ++ (codes "1 msgrcv 1 0 16 nowait = 1 \"ho\" by 1\n" ++ (ended ++ totals)))) 7
    ≡ Err (Illegal 9 (Some (reply_alone (Message (pos 1) (codes "hi")))) (reply_alone (Message (pos 1) (codes "ho"))))
unfolding lines_on_literals
another_reply = refl

-- a call of the script is left out
call_left_out : verdict_of hello (made ++ (received ++ (ended ++ totals))) 7
    ≡ Err (NotTheScript 8 (Some (MsgSnd 1 (pos 1) (codes "hi") true)) (Some (MsgRcv 1 (pos 0) 16 false true)))
unfolding lines_on_literals
call_left_out = refl

-- the last call is missing
end_left_out : verdict_of hello
    (made ++ (sent ++ (received ++ codes "totals entries 3 processes 1 notready 0 refused 0\n"))) 7
    ≡ Err (NotTheScript 10 (Some (Exit 0)) None)
unfolding lines_on_literals
end_left_out = refl

-- totals that don't count the lines, and a node above the last
wrong_totals : verdict_of hello
    (made ++ (sent ++ (received ++ (ended
    ++ codes "totals entries 5 processes 1 notready 0 refused 0\n")))) 7
    ≡ Err (NotATrace 11)
unfolding lines_on_literals
wrong_totals = refl

node_33 : verdict_of hello
    (codes "1 msgget private = 1 by 33\n" ++ (sent ++ (received ++ (ended ++ totals)))) 7
    ≡ Err (NotATrace 7)
unfolding lines_on_literals
node_33 = refl

-- Processes that wait. In `two_blocks` process 1 makes a queue, forks, and receives; process 2 sends. In `one_block`
-- nobody sends.

abbrev waits : List ℕ
waits = codes "1 msgget private = 1 by 1\n1 fork child = 2 by 1\n1 msgrcv 1 0 8 = parked by 1\n"

abbrev ends : List ℕ
ends =
    codes "1 exit 0 = ended by 1\n2 exit 0 = ended by 1\n"
    ++ codes "totals entries 6 processes 2 notready 0 refused 0\n"

-- the receive parks, and the send wakes it
woken : verdict_of two_blocks (waits ++ (codes "2 msgsnd 1 1 \"hi\" = 0 by 1 wakes 1 1 \"hi\"\n" ++ ends)) 1
    ≡ Ok (record { entries = 6 })
unfolding lines_on_literals
woken = refl

-- the trace doesn't say so
nobody_woken : verdict_of two_blocks (waits ++ (codes "2 msgsnd 1 1 \"hi\" = 0 by 1\n" ++ ends)) 1
    ≡ Err (Illegal 4 (Some (record { own = Some (Num 0); woken = (1, Message (pos 1) (codes "hi")) ∷ [] }))
    (reply_alone (Num 0)))
unfolding lines_on_literals
nobody_woken = refl

-- the totals come while the process waits
stalled : verdict_of one_block
    (codes "1 msgget private = 1 by 1\n1 msgrcv 1 0 8 = parked by 1\n"
    ++ codes "totals entries 2 processes 1 notready 0 refused 0\n") 1
    ≡ Ok (record { entries = 2 })
unfolding lines_on_literals
stalled = refl

-- a process makes a call while it waits
call_in_a_wait : verdict_of one_block
    (codes "1 msgget private = 1 by 1\n1 msgrcv 1 0 8 = parked by 1\n1 exit 0 = ended by 1\n"
    ++ codes "totals entries 3 processes 1 notready 0 refused 0\n") 1
    ≡ Err (NotTheScript 3 (Some (Withdraw (Msg 1))) (Some (Exit 0)))
unfolding lines_on_literals
call_in_a_wait = refl

-- `sigaction USR1 catch`, `q = msgget private`, `fork child`, `msgrcv $q 0 8`; the child makes `kill 1 USR1`
abbrev struck_blocks : Script
struck_blocks =
    record {
      blocks = record {
        name = codes "main";
        lines =
            record { set = None; tries = 1; from = None; call = calls.SigAction (Is Usr1) Catch }
            ∷ record { set = Some 1776; tries = 1; from = None; call = calls.MsgGet None false false }
            ∷ record { set = None; tries = 1; from = None; call = calls.Fork 2 }
            ∷ record { set = None; tries = 1; from = Some 1776; call = MsgRcv 0 (pos 0) 8 false false }
            ∷ [];
      }
          ∷ record {
            name = codes "child";
            lines = record { set = None; tries = 1; from = None; call = calls.Kill 1 (Is Usr1) } ∷ [];
          }
          ∷ [];
    }

abbrev struck : List ℕ
struck =
    codes "1 sigaction USR1 catch = 0 by 1\n1 msgget private = 1 by 1\n1 fork child = 2 by 1\n"
    ++ codes "1 msgrcv 1 0 8 = parked by 1\n2 kill 1 USR1 = 0 by 1\n"

abbrev struck_ends : List ℕ
struck_ends =
    codes "1 exit 0 = ended by 1\n2 exit 0 = ended by 1\n"
    ++ codes "totals entries 8 processes 2 notready 0 refused 1\n"

-- a signal strikes a process that waits, and it withdraws its call
withdrawn : verdict_of struck_blocks (struck ++ (codes "1 withdraw msg 1 = EINTR by 1\n" ++ struck_ends)) 1
    ≡ Ok (record { entries = 8 })
unfolding lines_on_literals
withdrawn = refl

-- but not from where it doesn't wait
withdrawn_elsewhere : verdict_of struck_blocks
    (struck ++ (codes "1 withdraw sem 1 = EINTR by 1\n" ++ struck_ends)) 1
    ≡ Err (NotTheScript 6 (Some (Withdraw (Msg 1))) (Some (Withdraw (Sem 1))))
unfolding lines_on_literals
withdrawn_elsewhere = refl
