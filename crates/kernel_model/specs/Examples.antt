-- Worked examples of each kind of answer, computed by the checker.
use Rattle.std.specs.Prelude.{◌≡◌, ℕ, ℤ, pos, negsuc, Bool, true, false, List, [], ◌∷◌, Option, Some, None, refl, codes, replicate}
use Rattle.pico_base.specs.declared.call.Call.{Call}
use Rattle.pico_base.specs.declared.call.Call.TheVariants as calls
use Rattle.pico_base.specs.declared.call.SemStep.{SemStep}
use Rattle.pico_base.specs.declared.reply.Errno.{Errno}
use Rattle.pico_base.specs.declared.reply.Errno.TheVariants.{Esrch, Einval, Echild, Enoent, Eexist, Enomsg, Eagain, E2big, Efbig, Erange}
use Rattle.pico_base.specs.declared.reply.Reply.{Reply}
use Rattle.pico_base.specs.declared.reply.Reply.TheVariants.{Num, Child, Message, Bits, Stat, All, Ended, Fail}
use Rattle.pico_base.specs.declared.reply.Ending.TheVariants.{Exited, Killed}
use Rattle.pico_base.specs.declared.signal.Sig.TheVariants.{Int, Quit, Kill, Usr1, Term, Chld}
use Rattle.pico_base.specs.declared.signal.SigArg.TheVariants.{Zero, Is, Bad}
use Rattle.pico_base.specs.declared.signal.Act.TheVariants.{Ign, Catch}
use Rattle.pico_base.specs.declared.signal.How.TheVariants.{Block, Unblock, SetMask}
use Rattle.pico_base.specs.declared.signal.PerSignal.{PerSignal}
use Rattle.pico_base.specs.Signal.{put_at, everywhere}
use Rattle.kernel_model.specs.Signals.{Signals, new_signals, with_mask}
use Rattle.kernel_model.specs.Kernel.{Kernel, opening}
use Rattle.kernel_model.specs.Transition.{Successor, transition}

-- a call that a process makes, and the number for what it may create
pub record Made : Type 0 where
  pub pid : ℕ
  pub call : Call
  pub number : ℕ

abbrev pub by : ℕ → Call → Made
by pid call = record { pid = pid; call = call; number = 0 }

abbrev pub creating : ℕ → Call → ℕ → Made
creating pid call number = record { pid = pid; call = call; number = number }

-- the replies to these calls, in order; none where there is no transition, and the kernel stays
abbrev pub reply_in : Option Successor → Option Reply
reply_in None = None
reply_in (Some step) = step.outcome.own

abbrev pub kernel_in : Kernel → Option Successor → Kernel
kernel_in k None = k
kernel_in k (Some step) = step.kernel

abbrev pub replies_from : Kernel → List Made → List (Option Reply)
replies_from k [] = []
replies_from k (m ∷ ms) =
    let step : Option Successor = transition k m.pid m.call m.number
    in reply_in step ∷ replies_from (kernel_in k step) ms

abbrev pub replies : List Made → List (Option Reply)
replies made = replies_from opening made

abbrev pub no_signal : PerSignal Bool
no_signal = everywhere false

abbrev pub only_usr1 : PerSignal Bool
only_usr1 = put_at no_signal Usr1 true

-- a private queue
abbrev pub queue : Made
queue = creating 1 (calls.MsgGet None false false) 1

abbrev pub sends : ℤ → List ℕ → Made
sends class text = by 1 (calls.MsgSnd 1 class text true)

abbrev pub receives : ℤ → ℕ → Made
receives class size = by 1 (calls.MsgRcv 1 class size false true)

abbrev pub number : ℕ → Option Reply
number n = Some (Num n)

abbrev pub fails : Errno → Option Reply
fails e = Some (Fail e)

-- a negative type takes the oldest message of the lowest type that fits, and 0 the oldest of all
pub takes_the_lowest_type : replies (
    queue ∷ sends (pos 5) (codes "e") ∷ sends (pos 4) (codes "d") ∷ sends (pos 3) (codes "a")
    ∷ sends (pos 3) (codes "b")
    ∷ receives (negsuc 3) 16 ∷ receives (pos 0) 16 ∷ [])
    ≡ number 1 ∷ number 0 ∷ number 0 ∷ number 0 ∷ number 0
    ∷ Some (Message (pos 3) (codes "a")) ∷ Some (Message (pos 5) (codes "e")) ∷ []
takes_the_lowest_type = refl

-- the bytes of a queue are limited, and an empty text needs none
pub fills_a_queue : replies (
    queue ∷ by 1 (calls.MsgSet 1 4096) ∷ sends (pos 1) (replicate 4097 97) ∷ sends (pos 1) (replicate 4096 97)
    ∷ sends (pos 1) [] ∷ sends (pos 1) (codes "b") ∷ by 1 (calls.MsgStat 1) ∷ [])
    ≡ number 1 ∷ number 0 ∷ fails Einval ∷ number 0 ∷ number 0 ∷ fails Eagain ∷ Some (Stat 2 4096 1 0) ∷ []
fills_a_queue = refl

-- msg_qbytes may go below what is there: the messages stay, and no other has room until enough of them are taken
pub lowers_the_limit : replies (
    queue ∷ sends (pos 1) (codes "abcd") ∷ by 1 (calls.MsgSet 1 2) ∷ sends (pos 1) [] ∷ by 1 (calls.MsgStat 1)
    ∷ receives (pos 0) 16 ∷ sends (pos 1) (codes "ab") ∷ by 1 (calls.MsgSet 1 16385) ∷ [])
    ≡ number 1 ∷ number 0 ∷ number 0 ∷ fails Eagain ∷ Some (Stat 1 2 1 0) ∷ Some (Message (pos 1) (codes "abcd"))
    ∷ number 0
    ∷ fails Einval ∷ []
lowers_the_limit = refl

-- a text above the size asked stays, or is cut
pub cuts_a_text : replies (
    queue ∷ sends (pos 1) (codes "abc") ∷ receives (pos 0) 2 ∷ by 1 (calls.MsgRcv 1 (pos 0) 2 true true)
    ∷ receives (pos 0) 2
    ∷ [])
    ≡ number 1 ∷ number 0 ∷ fails E2big ∷ Some (Message (pos 1) (codes "ab")) ∷ fails Enomsg ∷ []
cuts_a_text = refl

-- a child is there until it is waited for, and 300 is cut to a byte
pub waits_for_a_child : replies (
    by 1 (calls.WaitPid None true) ∷ creating 1 (calls.Fork 2) 2 ∷ by 1 (calls.WaitPid (Some 2) true)
    ∷ by 2 (calls.Exit 300)
    ∷ by 1 (calls.Kill 2 Zero) ∷ by 1 (calls.WaitPid (Some 2) true) ∷ by 1 (calls.Kill 2 Zero)
    ∷ by 1 (calls.Kill 8 Zero)
    ∷ by 1 (calls.Kill 2 Bad) ∷ by 1 (calls.WaitPid None true) ∷ [])
    ≡ fails Echild ∷ number 2 ∷ number 0 ∷ Some Ended ∷ number 0 ∷ Some (Child 2 (Exited 44)) ∷ fails Esrch
    ∷ fails Esrch
    ∷ fails Einval ∷ fails Echild ∷ []
waits_for_a_child = refl

-- a parent that ignores CHLD keeps no ended child
pub ignores_its_children : replies (
    by 1 (calls.SigAction (Is Chld) Ign) ∷ creating 1 (calls.Fork 2) 2 ∷ by 1 (calls.WaitPid None true)
    ∷ by 2 (calls.Exit 0)
    ∷ by 1 (calls.WaitPid None true) ∷ by 1 (calls.Kill 2 Zero) ∷ [])
    ≡ number 0 ∷ number 2 ∷ number 0 ∷ Some Ended ∷ fails Echild ∷ fails Esrch ∷ []
ignores_its_children = refl

-- an ended child counts as caught CHLD at a parent that catches it
pub catches_chld : replies (
    by 1 (calls.SigAction (Is Chld) Catch) ∷ creating 1 (calls.Fork 2) 2 ∷ by 2 (calls.Exit 0)
    ∷ by 1 (calls.Handled Chld) ∷ [])
    ≡ number 0 ∷ number 2 ∷ Some Ended ∷ number 1 ∷ []
catches_chld = refl

-- a masked signal is pending once, and is gone where its new action ignores it
pub holds_a_signal : replies (
    by 1 calls.GetPid ∷ by 1 (calls.SigAction (Is Usr1) Catch) ∷ by 1 (calls.SigProcMask Block only_usr1)
    ∷ by 1 (calls.Kill 1 (Is Usr1)) ∷ by 1 (calls.Kill 1 (Is Usr1)) ∷ by 1 calls.SigPending
    ∷ by 1 (calls.SigAction (Is Usr1) Ign) ∷ by 1 calls.SigPending ∷ by 1 (calls.SigProcMask Unblock only_usr1)
    ∷ by 1 (calls.Handled Usr1) ∷ by 1 (calls.SigAction (Is Kill) Ign) ∷ [])
    ≡ number 1 ∷ number 0 ∷ Some (Bits no_signal) ∷ number 0 ∷ number 0 ∷ Some (Bits only_usr1) ∷ number 0
    ∷ Some (Bits no_signal) ∷ Some (Bits only_usr1) ∷ number 0 ∷ fails Einval ∷ []
holds_a_signal = refl

-- a pending signal that is unmasked is caught once
pub catches_a_held_signal : replies (
    by 1 (calls.SigAction (Is Usr1) Catch) ∷ by 1 (calls.SigProcMask SetMask only_usr1) ∷ by 1 (calls.Kill 1 (Is Usr1))
    ∷ by 1 (calls.Kill 1 (Is Usr1)) ∷ by 1 (calls.SigProcMask SetMask no_signal) ∷ by 1 calls.SigPending
    ∷ by 1 (calls.Handled Usr1) ∷ [])
    ≡ number 0 ∷ Some (Bits no_signal) ∷ number 0 ∷ number 0 ∷ Some (Bits only_usr1) ∷ Some (Bits no_signal) ∷ number 1
    ∷ []
catches_a_held_signal = refl

-- KILL is in no mask, and ends at once
pub masks_no_kill : replies (
    by 1 (calls.SigProcMask Block (put_at only_usr1 Kill true)) ∷ by 1 (calls.SigProcMask Block no_signal)
    ∷ by 1 (calls.Kill 1 (Is Kill)) ∷ by 1 calls.SigPending ∷ by 1 (calls.Killed Kill) ∷ [])
    ≡ Some (Bits no_signal) ∷ Some (Bits only_usr1) ∷ number 0 ∷ None ∷ Some Ended ∷ []
masks_no_kill = refl

-- INT, QUIT and USR1 are pending, and all but QUIT are caught
abbrev pub three_pending : Signals
three_pending =
    let caught = put_at (put_at new_signals.actions Int Catch) Usr1 Catch
    in let three = put_at (put_at (put_at no_signal Int true) Quit true) Usr1 true
    in record new_signals { actions = caught; mask = three; pending = three }

-- unmasked together, they arrive in table order: INT is caught, QUIT dooms the process, and USR1 stays pending
pub unmasks_several : with_mask three_pending SetMask no_signal
    ≡ record three_pending {
      mask = no_signal;
      pending = only_usr1;
      handled = put_at (everywhere 0) Int 1;
      doom =
          Some Quit;
    }
unmasks_several = refl

-- the same as calls: the doomed process has the reply, and nothing but its ending after it
pub unmasks_a_doom : replies (
    by 1 (calls.SigProcMask SetMask (put_at only_usr1 Quit true)) ∷ by 1 (calls.Kill 1 (Is Usr1))
    ∷ by 1 (calls.Kill 1 (Is Quit))
    ∷ by 1 calls.GetPid ∷ by 1 (calls.SigProcMask SetMask no_signal) ∷ by 1 calls.GetPid ∷ by 1 (calls.Killed Usr1)
    ∷ by 1 (calls.Killed Quit) ∷ [])
    ≡ Some (Bits no_signal) ∷ number 0 ∷ number 0 ∷ number 1 ∷ Some (Bits (put_at only_usr1 Quit true)) ∷ None ∷ None
    ∷ Some Ended ∷ []
unmasks_a_doom = refl

-- a child has its parent's mask, and nothing pending
pub inherits_the_mask : replies (
    by 1 (calls.SigProcMask Block only_usr1) ∷ by 1 (calls.Kill 1 (Is Usr1)) ∷ creating 1 (calls.Fork 2) 2
    ∷ by 2 calls.SigPending ∷ by 2 (calls.SigProcMask Block no_signal) ∷ by 1 calls.SigPending ∷ [])
    ≡ Some (Bits no_signal) ∷ number 0 ∷ number 2 ∷ Some (Bits no_signal) ∷ Some (Bits only_usr1)
    ∷ Some (Bits only_usr1) ∷ []
inherits_the_mask = refl

-- a process that dooms itself has its reply, and then nothing but its ending by that signal
pub ends_by_its_own_signal : replies (
    by 1 (calls.Kill 1 (Is Term)) ∷ by 1 calls.GetPid ∷ by 1 (calls.Killed Kill) ∷ by 1 (calls.Killed Term)
    ∷ by 1 calls.GetPid
    ∷ [])
    ≡ number 0 ∷ None ∷ None ∷ Some Ended ∷ None ∷ []
ends_by_its_own_signal = refl

-- a process that another dooms has one more call, and the parent learns of its end
pub ends_by_anothers_signal : replies (
    creating 1 (calls.Fork 2) 2 ∷ by 2 (calls.Killed Term) ∷ by 1 (calls.Kill 2 (Is Term)) ∷ by 2 calls.GetPid
    ∷ by 2 calls.GetPid
    ∷ by 2 (calls.Killed Term) ∷ by 1 (calls.WaitPid None true) ∷ [])
    ≡ number 2 ∷ None ∷ number 0 ∷ number 2 ∷ None ∷ Some Ended ∷ Some (Child 2 (Killed Term)) ∷ []
ends_by_anothers_signal = refl

-- the one more call may be exit, which then is how the process ended
pub exits_after_anothers_signal : replies (
    creating 1 (calls.Fork 2) 2 ∷ by 1 (calls.Kill 2 (Is Term)) ∷ by 2 (calls.Exit 3) ∷ by 2 (calls.Killed Term)
    ∷ by 1 (calls.WaitPid None true) ∷ [])
    ≡ number 2 ∷ number 0 ∷ Some Ended ∷ None ∷ Some (Child 2 (Exited 3)) ∷ []
exits_after_anothers_signal = refl

-- the child of a process that has ended is gone where it ends
pub has_no_parent_left : replies (
    creating 1 (calls.Fork 2) 2 ∷ creating 2 (calls.Fork 3) 9 ∷ creating 2 (calls.Fork 4) 10 ∷ by 10 (calls.Exit 0)
    ∷ by 1 (calls.Kill 10 Zero) ∷ by 2 (calls.Exit 0) ∷ by 1 (calls.Kill 10 Zero) ∷ by 9 (calls.Exit 0)
    ∷ by 1 (calls.Kill 9 Zero)
    ∷ by 1 (calls.WaitPid None true) ∷ [])
    ≡ number 2 ∷ number 9 ∷ number 10 ∷ Some Ended ∷ number 0 ∷ Some Ended ∷ fails Esrch ∷ Some Ended ∷ fails Esrch
    ∷ Some (Child 2 (Exited 0)) ∷ []
has_no_parent_left = refl

-- a number is given out once, and neither 0 nor one that has no four bytes
pub gives_each_number_once : replies (
    creating 1 (calls.Fork 2) 1 ∷ creating 1 (calls.Fork 2) 0 ∷ creating 1 (calls.Fork 2) 4294967296 ∷ queue
    ∷ by 1 (calls.MsgRmid 1) ∷ queue ∷ by 1 (calls.MsgRmid 1) ∷ [])
    ≡ None ∷ None ∷ None ∷ number 1 ∷ number 0 ∷ None ∷ fails Einval ∷ []
gives_each_number_once = refl

abbrev pub step : ℕ → ℤ → Bool → SemStep
step num add nowait = record { num = num; add = add; nowait = nowait }

-- a semop that stops leaves all values, and a sum above the limit too
pub stops_a_semop : replies (
    creating 1 (calls.SemGet None 2 false false) 1 ∷ by 1 (calls.SemSetVal 1 0 1)
    ∷ by 1 (calls.SemOp 1 (step 0 (negsuc 0) true ∷ step 1 (negsuc 0) true ∷ [])) ∷ by 1 (calls.SemGetAll 1)
    ∷ by 1 (calls.SemGetPid 1 0) ∷ by 1 (calls.SemSetVal 1 0 32767) ∷ by 1 (calls.SemOp 1 (step 0 (pos 1) false ∷ []))
    ∷ by 1 (calls.SemOp 1 (step 2 (pos 1) false ∷ [])) ∷ by 1 (calls.SemOp 1 (replicate 33 (step 2 (pos 1) false)))
    ∷ by 1 (calls.SemGetAll 1) ∷ by 1 (calls.SemSetVal 1 0 32768) ∷ by 1 (calls.SemGetVal 1 2) ∷ [])
    ≡ number 1 ∷ number 0 ∷ fails Eagain ∷ Some (All (1 ∷ 0 ∷ [])) ∷ number 0 ∷ number 0 ∷ fails Erange ∷ fails Efbig
    ∷ fails E2big
    ∷ Some (All (32767 ∷ 0 ∷ [])) ∷ fails Erange ∷ fails Einval ∷ []
stops_a_semop = refl

-- a semop that succeeds is its caller's at each semaphore that it names, a zero operation's too
pub marks_each_semaphore : replies (
    creating 1 (calls.SemGet None 3 false false) 1 ∷ by 1 (calls.SemSetAll 1 (4 ∷ 0 ∷ 9 ∷ []))
    ∷ by 1 (calls.SemOp 1 (step 0 (negsuc 3) true ∷ step 0 (pos 0) true ∷ step 1 (pos 0) true ∷ []))
    ∷ by 1 (calls.SemGetAll 1)
    ∷ by 1 (calls.SemGetPid 1 1) ∷ by 1 (calls.SemGetPid 1 2) ∷ by 1 (calls.SemGetNcnt 1 0)
    ∷ by 1 (calls.SemSetAll 1 (1 ∷ []))
    ∷ by 1 (calls.SemOp 1 (step 0 (negsuc 0) false ∷ [])) ∷ [])
    ≡ number 1 ∷ number 0 ∷ number 0 ∷ Some (All (0 ∷ 0 ∷ 9 ∷ [])) ∷ number 1 ∷ number 0 ∷ number 0 ∷ fails Einval
    ∷ None ∷ []
marks_each_semaphore = refl

-- keys of queues and of sets are apart; a removal frees its key
pub binds_keys : replies (
    by 1 (calls.MsgGet (Some 5) false false) ∷ creating 1 (calls.MsgGet (Some 5) true false) 1
    ∷ by 1 (calls.MsgGet (Some 5) true true) ∷ by 1 (calls.MsgGet (Some 5) false false)
    ∷ by 1 (calls.SemGet (Some 5) 0 true false)
    ∷ creating 1 (calls.SemGet (Some 5) 3 true false) 1 ∷ by 1 (calls.SemGet (Some 5) 4 false false)
    ∷ by 1 (calls.SemGet (Some 5) 0 false false) ∷ by 1 (calls.MsgRmid 1) ∷ by 1 (calls.MsgGet (Some 5) false false)
    ∷ creating 1 (calls.MsgGet (Some 5) true false) 2 ∷ [])
    ≡ fails Enoent ∷ number 1 ∷ fails Eexist ∷ number 1 ∷ fails Einval ∷ number 1 ∷ fails Einval ∷ number 1 ∷ number 0
    ∷ fails Enoent
    ∷ number 2 ∷ []
binds_keys = refl

-- a value that is set leaves the process of the last semop
pub sets_a_value : replies (
    creating 1 (calls.SemGet None 2 false false) 1 ∷ by 1 (calls.SemOp 1 (step 0 (pos 2) false ∷ []))
    ∷ by 1 (calls.SemSetVal 1 0 5)
    ∷ by 1 (calls.SemGetPid 1 0) ∷ by 1 (calls.SemSetAll 1 (1 ∷ 1 ∷ [])) ∷ by 1 (calls.SemGetPid 1 0)
    ∷ by 1 (calls.SemGetPid 1 1) ∷ [])
    ≡ number 1 ∷ number 0 ∷ number 0 ∷ number 1 ∷ number 0 ∷ number 1 ∷ number 0 ∷ []
sets_a_value = refl

-- a key of sets leads nowhere, or to a set that is wanted new; excl alone means nothing
pub refuses_keys : replies (
    by 1 (calls.SemGet (Some 5) 1 false false) ∷ by 1 (calls.SemGet (Some 5) 1 false true)
    ∷ creating 1 (calls.SemGet (Some 5) 1 true false) 1 ∷ by 1 (calls.SemGet (Some 5) 1 true true)
    ∷ by 1 (calls.SemGet (Some 5) 1 false true) ∷ by 1 (calls.MsgGet (Some 5) false true)
    ∷ creating 1 (calls.MsgGet (Some 5) true true) 1 ∷ by 1 (calls.MsgGet (Some 5) false true) ∷ [])
    ≡ fails Enoent ∷ fails Enoent ∷ number 1 ∷ fails Eexist ∷ number 1 ∷ fails Enoent ∷ number 1 ∷ number 1 ∷ []
refuses_keys = refl
