-- Worked examples of lines beside the one that is expected, computed by the checker.
use Rattle.std.specs.Prelude.{◌≡◌, ℕ, pos, true, false, List, [], ◌∷◌, ◌++◌, Option, Some, None, refl, codes}
use Rattle.std.specs.Fmt.{digits}
use Rattle.std.specs.Option.{option_map_or}
use Rattle.std.proofs.Common.{arith}
use Rattle.pico_base.specs.declared.call.Call.{Call}
use Rattle.pico_base.specs.declared.call.Call.TheVariants.{Fork, GetPid, MsgGet, MsgSnd, MsgRcv, Withdraw}
use Rattle.pico_base.specs.declared.numbers.Name.TheVariants.{Msg}
use Rattle.pico_base.specs.declared.reply.Reply.TheVariants.{Num}
use Rattle.number_maps.specs.Maps.{Numbered}
use Rattle.kernel_model.specs.Effect.{reply_alone}
use Rattle.kernel_model.specs.FirstExample.{hello}
use Rattle.waiting_model.specs.Kernel.{Kernel, opening}
use Rattle.waiting_model.specs.Transition.{Successor, successor, transition}
use Rattle.trace_text.specs.declared.fault.CheckFault.TheVariants.{Memory, NotATrace}
use Rattle.trace_check.specs.declared.cursor.Cursor.{Cursor}
use Rattle.trace_check.specs.declared.judge.Judge.{Judge}
use Rattle.trace_check.specs.Cursors.{beginning, moved_on}
use Rattle.trace_check.specs.Told.{HasCarried, IsBegun, IsDueAt, is_numberless, kept_fault, line_with}

-- a call that makes a process or a queue takes a number, a send takes none; a withdrawal is no call of a script
pub makes_a_process : is_numberless (Fork 2) ≡ false
makes_a_process = refl

pub makes_a_queue : is_numberless (MsgGet None false false) ≡ false
makes_a_queue = refl

abbrev pub sends : Call
sends = MsgSnd 1 (pos 1) (codes "hi") true

pub makes_nothing : is_numberless sends ≡ true
makes_nothing = refl

pub is_withdrawn : is_numberless (Withdraw (Msg 1)) ≡ false
is_withdrawn = refl

-- what stands in front of the outcome, and the outcome
pub send_line : line_with hello 1 sends (codes "0 by 1") ≡ codes "1 msgsnd 1 1 \"hi\" nowait = 0 by 1"
unfolding digits
send_line = refl

-- Process 1 has made its queue, and its send is due.
abbrev pub makes : Call
makes = MsgGet None false false

abbrev pub made_cursors : Numbered Cursor
made_cursors = moved_on hello ((1, beginning 1 []) ∷ []) 1 makes (reply_alone (Num 1))

pub send_is_due : IsDueAt hello made_cursors 1 sends
send_is_due = record { cursor = _; there = refl; idle = refl; due = refl }

-- the line begins with the send, whatever stands behind it
pub send_begins : IsBegun hello made_cursors (codes "1 msgsnd 1 1 \"hi\" nowait = 7 by 1")
unfolding digits
send_begins =
    record {
      pid = 1;
      call = sends;
      rest = codes "7 by 1";
      small = omega arith;
      numberless = refl;
      grammar = refl;
      due = send_is_due;
      is = refl;
    }

-- the kernel with the queue, and with the message in it
abbrev pub kernel_after : Option Successor → Kernel
kernel_after o = option_map_or (λ s. s.kernel) o opening

abbrev pub made_kernel : Kernel
made_kernel = kernel_after (transition opening 1 makes 1)

abbrev pub sent_kernel : Kernel
sent_kernel = kernel_after (transition made_kernel 1 sends 0)

-- the line says 7; the kernel has carried the send out and says 0, the processes and the totals are as before
pub another_outcome : (old new : Judge) → old.kernel ≡ made_kernel → old.cursors.entries ≡ made_cursors
    → new.kernel ≡ sent_kernel → new.cursors.entries ≡ old.cursors.entries → new.tally ≡ old.tally
    → new.other ≡ Some (reply_alone (Num 0))
    → HasCarried hello (codes "1 msgsnd 1 1 \"hi\" nowait = 7 by 1") old new
unfolding send_begins
another_outcome old new before there after cursors tally other =
    record {
      begun = record {
        pid = 1;
        call = sends;
        rest = codes "7 by 1";
        small = send_begins.small;
        numberless = refl;
        grammar = refl;
        due = rw there send_is_due;
        is = send_begins.is;
      };
      outcome = reply_alone (Num 0);
      other = other;
      step = λ n. rw (before, after) refl;
      cursors = cursors;
      tally = tally;
    }

-- the fault that was kept, and that memory ran out where none was
pub keeps_a_fault : kept_fault (Some (NotATrace 9)) ≡ NotATrace 9
keeps_a_fault = refl

pub keeps_none : kept_fault None ≡ Memory
keeps_none = refl
