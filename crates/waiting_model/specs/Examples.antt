-- Worked examples of callers that wait, computed by the checker.
use Rattle.std.specs.Prelude.{◌≡◌, ℕ, ℤ, pos, negsuc, true, false, List, [], ◌∷◌, Option, Some, None, refl, codes, replicate}
use Rattle.pico_base.specs.declared.call.Call.{Call}
use Rattle.pico_base.specs.declared.call.Call.TheVariants as calls
use Rattle.pico_base.specs.declared.call.SemStep.{SemStep}
use Rattle.pico_base.specs.declared.numbers.Name.{Name}
use Rattle.pico_base.specs.declared.numbers.Name.TheVariants.{Proc, Msg, Sem}
use Rattle.pico_base.specs.declared.reply.Errno.{Errno}
use Rattle.pico_base.specs.declared.reply.Errno.TheVariants.{Esrch, Einval, Echild, Enomsg, Eagain, E2big, Efbig, Erange, Eidrm, Eintr}
use Rattle.pico_base.specs.declared.reply.Outcome.{Outcome}
use Rattle.pico_base.specs.declared.reply.Reply.{Reply}
use Rattle.pico_base.specs.declared.reply.Reply.TheVariants.{Num, Child, Message, Bits, Stat, All, Ended, Fail}
use Rattle.pico_base.specs.declared.reply.Ending.TheVariants.{Exited}
use Rattle.pico_base.specs.declared.signal.Sig.TheVariants.{Kill, Usr1, Term, Chld}
use Rattle.pico_base.specs.declared.signal.SigArg.TheVariants.{Zero, Is}
use Rattle.pico_base.specs.declared.signal.Act.TheVariants.{Ign, Catch}
use Rattle.pico_base.specs.declared.signal.How.TheVariants.{Block}
use Rattle.kernel_model.specs.Examples.{only_usr1, no_signal, step}
use Rattle.waiting_model.specs.Kernel.{Kernel, opening}
use Rattle.waiting_model.specs.Transition.{Successor, transition}

-- what a process makes, and the number for what it may create
pub record Made : Type 0 where
  pub pid : ℕ
  pub call : Call
  pub number : ℕ

abbrev pub by : ℕ → Call → Made
by pid call = record { pid = pid; call = call; number = 0 }

abbrev pub creating : ℕ → Call → ℕ → Made
creating pid call number = record { pid = pid; call = call; number = number }

abbrev pub withdraws : ℕ → Name → Made
withdraws pid name = by pid (calls.Withdraw name)

-- what these come to, in order; none where there is no transition, and the kernel stays
abbrev pub outcome_in : Option Successor → Option Outcome
outcome_in None = None
outcome_in (Some s) = Some s.outcome

abbrev pub kernel_in : Kernel → Option Successor → Kernel
kernel_in k None = k
kernel_in k (Some s) = s.kernel

abbrev pub outcomes_from : Kernel → List Made → List (Option Outcome)
outcomes_from k [] = []
outcomes_from k (m ∷ ms) =
    let s : Option Successor = transition k m.pid m.call m.number
    in outcome_in s ∷ outcomes_from (kernel_in k s) ms

abbrev pub kernel_after : Kernel → List Made → Kernel
kernel_after k [] = k
kernel_after k (m ∷ ms) = kernel_after (kernel_in k (transition k m.pid m.call m.number)) ms

-- the caller's reply alone, a call that parks, and a reply that also wakes these
abbrev pub gives : Reply → Option Outcome
gives reply = Some (record { own = Some reply; woken = [] })

abbrev pub number : ℕ → Option Outcome
number n = gives (Num n)

abbrev pub fails : Errno → Option Outcome
fails e = gives (Fail e)

abbrev pub parks : Option Outcome
parks = Some (record { own = None; woken = [] })

abbrev pub wakes : Reply → List (ℕ × Reply) → Option Outcome
wakes reply woken = Some (record { own = Some reply; woken = woken })

-- Process 1 has made queue 1 and set 1 of two semaphores, and forked 2 and 3.
abbrev pub made_first : List Made
made_first =
    creating 1 (calls.MsgGet None false false) 1 ∷ creating 1 (calls.SemGet None 2 false false) 1
    ∷ creating 1 (calls.Fork 2) 2 ∷ creating 1 (calls.Fork 3) 3 ∷ []

abbrev pub outcomes : List Made → List (Option Outcome)
outcomes made = outcomes_from (kernel_after opening made_first) made

-- calls in short

abbrev pub sends : ℕ → ℤ → List ℕ → Made
sends pid class text = by pid (calls.MsgSnd 1 class text false)

abbrev pub sends_at_once : ℕ → ℤ → List ℕ → Made
sends_at_once pid class text = by pid (calls.MsgSnd 1 class text true)

abbrev pub receives : ℕ → ℤ → ℕ → Made
receives pid class size = by pid (calls.MsgRcv 1 class size false false)

abbrev pub receives_at_once : ℕ → ℤ → ℕ → Made
receives_at_once pid class size = by pid (calls.MsgRcv 1 class size false true)

abbrev pub operates : ℕ → List SemStep → Made
operates pid steps = by pid (calls.SemOp 1 steps)

abbrev pub waits : ℕ → Option ℕ → Made
waits pid child = by pid (calls.WaitPid child false)

abbrev pub text : ℤ → List ℕ → Reply
text class bytes = Message class bytes

-- Queues.

-- a receive waits for a message, and a send wakes it: the message was there in between, so the receiver is its last one
pub wakes_a_receive : outcomes (
    receives 2 (pos 0) 8 ∷ sends_at_once 1 (pos 1) (codes "hi") ∷ by 1 (calls.MsgStat 1) ∷ [])
    ≡ parks ∷ wakes (Num 0) ((2, text (pos 1) (codes "hi")) ∷ []) ∷ gives (Stat 0 16384 1 2) ∷ []
wakes_a_receive = refl

-- a receive makes room, the send that waited for it goes on, and its message is what another receive waited for
pub wakes_by_a_woken_send : outcomes (
    by 1 (calls.MsgSet 1 4) ∷ sends_at_once 1 (pos 1) (codes "abcd") ∷ sends 2 (pos 2) (codes "ef")
    ∷ receives 3 (pos 2) 8 ∷ receives_at_once 1 (pos 0) 8 ∷ [])
    ≡ number 0 ∷ number 0 ∷ parks ∷ parks
    ∷ wakes (text (pos 1) (codes "abcd")) ((2, Num 0) ∷ (3, text (pos 2) (codes "ef")) ∷ []) ∷ []
wakes_by_a_woken_send = refl

-- a receive that parked before the send goes on after it: those who wait are looked at from the first on again
pub begins_at_the_first_again : outcomes (
    by 1 (calls.MsgSet 1 4) ∷ sends_at_once 1 (pos 1) (codes "abcd") ∷ receives 3 (pos 2) 8
    ∷ sends 2 (pos 2) (codes "ef") ∷ receives_at_once 1 (pos 0) 8 ∷ by 1 (calls.MsgStat 1) ∷ [])
    ≡ number 0 ∷ number 0 ∷ parks ∷ parks
    ∷ wakes (text (pos 1) (codes "abcd")) ((2, Num 0) ∷ (3, text (pos 2) (codes "ef")) ∷ [])
    ∷ gives (Stat 0 4 2 3) ∷ []
begins_at_the_first_again = refl

-- who may get a message is by its type, and then by who parked first
pub goes_by_type_and_then_by_order : outcomes (
    receives 2 (negsuc 2) 8 ∷ receives 3 (pos 5) 8 ∷ sends 1 (pos 5) (codes "e") ∷ receives 3 (pos 0) 8
    ∷ sends 1 (pos 3) (codes "c") ∷ sends 1 (pos 9) (codes "i") ∷ [])
    ≡ parks ∷ parks ∷ wakes (Num 0) ((3, text (pos 5) (codes "e")) ∷ []) ∷ parks
    ∷ wakes (Num 0) ((2, text (pos 3) (codes "c")) ∷ []) ∷ wakes (Num 0) ((3, text (pos 9) (codes "i")) ∷ []) ∷ []
goes_by_type_and_then_by_order = refl

-- a higher limit wakes several sends at once, in order, and the one that is too long for it goes on waiting
pub wakes_several_sends : outcomes (
    by 1 (calls.MsgSet 1 0) ∷ sends 2 (pos 1) (codes "ab") ∷ sends 3 (pos 1) (codes "c")
    ∷ creating 1 (calls.Fork 4) 4 ∷ sends 4 (pos 1) (codes "def") ∷ by 1 (calls.MsgSet 1 4)
    ∷ by 1 (calls.MsgStat 1) ∷ [])
    ≡ number 0 ∷ parks ∷ parks ∷ number 4 ∷ parks ∷ wakes (Num 0) ((2, Num 0) ∷ (3, Num 0) ∷ [])
    ∷ gives (Stat 2 4 3 0) ∷ []
wakes_several_sends = refl

-- a message that is longer than asked refuses the receive that it wakes, stays, and is the next one's
pub refuses_a_woken_receive : outcomes (
    receives 2 (pos 0) 1 ∷ receives 3 (pos 0) 8 ∷ sends 1 (pos 1) (codes "ab") ∷ [])
    ≡ parks ∷ parks ∷ wakes (Num 0) ((2, Fail E2big) ∷ (3, text (pos 1) (codes "ab")) ∷ []) ∷ []
refuses_a_woken_receive = refl

-- what is refused doesn't wait, and what can go on at once doesn't either
pub doesnt_park : outcomes (
    sends 2 (pos 0) (codes "a") ∷ sends 2 (pos 1) (replicate 4097 97) ∷ by 2 (calls.MsgRcv 9 (pos 0) 8 false false)
    ∷ sends 2 (pos 1) (codes "ab") ∷ receives 2 (pos 0) 1 ∷ receives 2 (pos 0) 8 ∷ receives_at_once 2 (pos 0) 8
    ∷ [])
    ≡ fails Einval ∷ fails Einval ∷ fails Einval ∷ number 0 ∷ fails E2big ∷ gives (text (pos 1) (codes "ab"))
    ∷ fails Enomsg ∷ []
doesnt_park = refl

-- a send waits while the bytes would pass the limit; with IPC_NOWAIT it is refused, also where others wait
pub parks_a_send : outcomes (
    by 1 (calls.MsgSet 1 1) ∷ sends 1 (pos 1) (codes "a") ∷ sends 2 (pos 1) (codes "b")
    ∷ sends_at_once 3 (pos 1) (codes "c") ∷ receives 1 (pos 0) 8 ∷ receives 1 (pos 0) 8 ∷ [])
    ≡ number 0 ∷ number 0 ∷ parks ∷ fails Eagain ∷ wakes (text (pos 1) (codes "a")) ((2, Num 0) ∷ [])
    ∷ gives (text (pos 1) (codes "b")) ∷ []
parks_a_send = refl

-- a removal wakes each that waits, in order, and there is no such queue any more
pub removes_a_queue : outcomes (
    receives 2 (pos 0) 8 ∷ receives 3 (pos 1) 8 ∷ by 1 (calls.MsgRmid 1) ∷ receives 2 (pos 0) 8 ∷ [])
    ≡ parks ∷ parks ∷ wakes (Num 0) ((2, Fail Eidrm) ∷ (3, Fail Eidrm) ∷ []) ∷ fails Einval ∷ []
removes_a_queue = refl

-- Semaphore sets.

-- an operation that waits for a value, how many wait for it, a removal, and a set that is no more
pub counts_and_removes : outcomes (
    operates 2 (step 0 (negsuc 0) false ∷ step 1 (negsuc 0) false ∷ [])
    ∷ by 1 (calls.SemGetNcnt 1 0) ∷ by 1 (calls.SemGetNcnt 1 1) ∷ by 1 (calls.SemSetVal 1 0 1)
    ∷ by 1 (calls.SemGetNcnt 1 0) ∷ by 1 (calls.SemGetNcnt 1 1) ∷ by 1 (calls.SemRmid 1)
    ∷ operates 2 (step 0 (pos 1) false ∷ []) ∷ [])
    ≡ parks ∷ number 1 ∷ number 0 ∷ number 0 ∷ number 0 ∷ number 1 ∷ wakes (Num 0) ((2, Fail Eidrm) ∷ [])
    ∷ fails Einval ∷ []
counts_and_removes = refl

-- one that waits for 0 is counted apart, and goes on once the value is 0
pub waits_for_zero : outcomes (
    by 1 (calls.SemSetVal 1 1 2) ∷ operates 2 (step 1 (pos 0) false ∷ step 1 (pos 7) false ∷ [])
    ∷ by 1 (calls.SemGetZcnt 1 1) ∷ by 1 (calls.SemGetNcnt 1 1) ∷ by 1 (calls.SemGetZcnt 1 0)
    ∷ by 1 (calls.SemGetZcnt 1 2) ∷ operates 3 (step 1 (negsuc 0) false ∷ [])
    ∷ operates 3 (step 1 (negsuc 0) false ∷ []) ∷ by 1 (calls.SemGetAll 1) ∷ by 1 (calls.SemGetPid 1 1) ∷ [])
    ≡ number 0 ∷ parks ∷ number 1 ∷ number 0 ∷ number 0 ∷ fails Einval ∷ number 0
    ∷ wakes (Num 0) ((2, Num 0) ∷ []) ∷ gives (All (0 ∷ 7 ∷ [])) ∷ number 2 ∷ []
waits_for_zero = refl

-- the first and the third of those who wait go on, and not the second, which wants more
pub passes_over_the_second : outcomes (
    creating 1 (calls.Fork 4) 4 ∷ operates 2 (step 0 (negsuc 0) false ∷ []) ∷ operates 3 (step 0 (negsuc 4) false ∷ [])
    ∷ operates 4 (step 0 (negsuc 0) false ∷ []) ∷ operates 1 (step 0 (pos 2) false ∷ []) ∷ by 1 (calls.SemGetNcnt 1 0)
    ∷ [])
    ≡ number 4 ∷ parks ∷ parks ∷ parks ∷ wakes (Num 0) ((2, Num 0) ∷ (4, Num 0) ∷ []) ∷ number 1 ∷ []
passes_over_the_second = refl

-- a woken operation may let another one go on
pub wakes_by_a_woken_operation : outcomes (
    operates 2 (step 1 (negsuc 0) false ∷ []) ∷ operates 3 (step 0 (negsuc 0) false ∷ step 1 (pos 1) false ∷ [])
    ∷ by 1 (calls.SemSetVal 1 0 1) ∷ by 1 (calls.SemGetAll 1) ∷ [])
    ≡ parks ∷ parks ∷ wakes (Num 0) ((3, Num 0) ∷ (2, Num 0) ∷ []) ∷ gives (All (0 ∷ 0 ∷ [])) ∷ []
wakes_by_a_woken_operation = refl

-- it waits at its first operation; once that can go on, the trial stops at one with IPC_NOWAIT, and all values stay
pub refuses_a_woken_operation : outcomes (
    operates 2 (step 0 (negsuc 0) false ∷ step 1 (negsuc 0) true ∷ []) ∷ by 1 (calls.SemSetVal 1 0 1)
    ∷ by 1 (calls.SemGetAll 1) ∷ operates 2 (step 0 (negsuc 1) false ∷ step 1 (pos 32767) false ∷ [])
    ∷ by 1 (calls.SemSetVal 1 1 1) ∷ operates 1 (step 0 (pos 1) false ∷ []) ∷ by 1 (calls.SemGetAll 1) ∷ [])
    ≡ parks ∷ wakes (Num 0) ((2, Fail Eagain) ∷ []) ∷ gives (All (1 ∷ 0 ∷ [])) ∷ parks ∷ number 0
    ∷ wakes (Num 0) ((2, Fail Erange) ∷ []) ∷ gives (All (2 ∷ 1 ∷ [])) ∷ []
refuses_a_woken_operation = refl

-- a call with an operation that may wait is refused at once where the trial stops at one with IPC_NOWAIT, where a
-- number is no semaphore's, or where there are too many operations
pub refuses_before_it_waits : outcomes (
    operates 2 (step 0 (negsuc 0) true ∷ step 1 (negsuc 0) false ∷ [])
    ∷ operates 2 (step 0 (negsuc 0) false ∷ step 2 (negsuc 0) false ∷ [])
    ∷ operates 2 (replicate 33 (step 0 (negsuc 0) false)) ∷ by 2 (calls.SemOp 2 (step 0 (negsuc 0) false ∷ [])) ∷ [])
    ≡ fails Eagain ∷ fails Efbig ∷ fails E2big ∷ fails Einval ∷ []
refuses_before_it_waits = refl

-- all values that are set at once wake as one change
pub sets_all_values : outcomes (
    operates 2 (step 0 (negsuc 1) false ∷ []) ∷ operates 3 (step 1 (negsuc 0) false ∷ step 0 (negsuc 0) false ∷ [])
    ∷ by 1 (calls.SemSetAll 1 (3 ∷ 1 ∷ [])) ∷ by 1 (calls.SemGetAll 1) ∷ [])
    ≡ parks ∷ parks ∷ wakes (Num 0) ((2, Num 0) ∷ (3, Num 0) ∷ []) ∷ gives (All (0 ∷ 0 ∷ [])) ∷ []
sets_all_values = refl

-- Children.

-- the child that ends is its waiting parent's, and is gone then
pub wakes_a_parent : outcomes (
    waits 1 None ∷ by 2 (calls.Exit 7) ∷ by 1 (calls.Kill 2 Zero) ∷ waits 1 (Some 2) ∷ waits 1 (Some 3)
    ∷ by 3 (calls.Exit 300) ∷ waits 1 None ∷ [])
    ≡ parks ∷ wakes Ended ((1, Child 2 (Exited 7)) ∷ []) ∷ fails Esrch ∷ fails Echild ∷ parks
    ∷ wakes Ended ((1, Child 3 (Exited 44)) ∷ []) ∷ fails Echild ∷ []
wakes_a_parent = refl

-- a parent that waits for one child goes on waiting while another ends, which it finds afterwards
pub waits_for_one_child : outcomes (
    waits 1 (Some 3) ∷ by 2 (calls.Exit 0) ∷ by 3 (calls.Exit 1) ∷ waits 1 None ∷ [])
    ≡ parks ∷ gives Ended ∷ wakes Ended ((1, Child 3 (Exited 1)) ∷ []) ∷ gives (Child 2 (Exited 0)) ∷ []
waits_for_one_child = refl

-- a parent that ignores its children waits until none is left
pub waits_for_ignored_children : outcomes (
    by 1 (calls.SigAction (Is Chld) Ign) ∷ waits 1 None ∷ by 2 (calls.Exit 0) ∷ by 3 (calls.Exit 0) ∷ [])
    ≡ number 0 ∷ parks ∷ gives Ended ∷ wakes Ended ((1, Fail Echild) ∷ []) ∷ []
waits_for_ignored_children = refl

-- CHLD comes after the wake, so the parent is struck, and the next call that waits may be withdrawn at once
pub strikes_behind_the_wake : outcomes (
    by 1 (calls.SigAction (Is Chld) Catch) ∷ waits 1 None ∷ by 2 (calls.Exit 0) ∷ receives 1 (pos 0) 8
    ∷ withdraws 1 (Msg 1) ∷ by 1 (calls.Handled Chld) ∷ [])
    ≡ number 0 ∷ parks ∷ wakes Ended ((1, Child 2 (Exited 0)) ∷ []) ∷ parks ∷ fails Eintr ∷ number 1 ∷ []
strikes_behind_the_wake = refl

-- a child that ends strikes a parent that waits for another one, and the parent may withdraw
pub withdraws_from_waitpid : outcomes (
    by 1 (calls.SigAction (Is Chld) Catch) ∷ waits 1 (Some 3) ∷ withdraws 1 (Proc 1) ∷ by 2 (calls.Exit 0)
    ∷ withdraws 1 (Msg 1) ∷ withdraws 1 (Proc 2) ∷ withdraws 1 (Proc 1) ∷ withdraws 1 (Proc 1) ∷ [])
    ≡ number 0 ∷ parks ∷ None ∷ gives Ended ∷ None ∷ None ∷ fails Eintr ∷ None ∷ []
withdraws_from_waitpid = refl

-- Withdrawals.

-- a signal that is caught lets the call that waits be withdrawn, and then the queue is as it was: nobody waits
pub withdraws_a_receive : outcomes (
    by 2 (calls.SigAction (Is Usr1) Catch) ∷ receives 2 (pos 0) 8 ∷ withdraws 2 (Msg 1) ∷ by 1 (calls.Kill 2 (Is Usr1))
    ∷ withdraws 2 (Msg 1) ∷ withdraws 2 (Msg 1) ∷ sends 1 (pos 1) (codes "a") ∷ by 2 (calls.Handled Usr1) ∷ [])
    ≡ number 0 ∷ parks ∷ None ∷ number 0 ∷ fails Eintr ∷ None ∷ number 0 ∷ number 1 ∷ []
withdraws_a_receive = refl

-- a process that waits makes nothing but its withdrawal, and that from where it waits
pub waits_and_does_nothing : outcomes (
    by 2 (calls.SigAction (Is Usr1) Catch) ∷ operates 2 (step 0 (negsuc 0) false ∷ []) ∷ by 1 (calls.Kill 2 (Is Usr1))
    ∷ by 2 calls.GetPid ∷ by 2 (calls.Exit 0) ∷ withdraws 2 (Msg 1) ∷ withdraws 2 (Proc 2) ∷ withdraws 2 (Sem 2)
    ∷ withdraws 2 (Sem 1) ∷ by 2 calls.GetPid ∷ [])
    ≡ number 0 ∷ parks ∷ number 0 ∷ None ∷ None ∷ None ∷ None ∷ None ∷ fails Eintr ∷ number 2 ∷ []
waits_and_does_nothing = refl

-- a wake takes the strike away, and a signal that is held off or discarded doesn't strike
pub isnt_struck : outcomes (
    by 2 (calls.SigAction (Is Usr1) Catch) ∷ receives 2 (pos 0) 8 ∷ by 1 (calls.Kill 2 (Is Usr1))
    ∷ sends 1 (pos 1) (codes "a") ∷ receives 2 (pos 0) 8 ∷ withdraws 2 (Msg 1) ∷ by 1 (calls.Kill 2 (Is Chld))
    ∷ withdraws 2 (Msg 1) ∷ by 3 (calls.SigProcMask Block only_usr1) ∷ receives 3 (pos 0) 8
    ∷ by 1 (calls.Kill 3 (Is Usr1)) ∷ withdraws 3 (Msg 1) ∷ [])
    ≡ number 0 ∷ parks ∷ number 0 ∷ wakes (Num 0) ((2, text (pos 1) (codes "a")) ∷ []) ∷ parks ∷ None ∷ number 0
    ∷ None ∷ gives (Bits no_signal) ∷ parks ∷ number 0 ∷ None ∷ []
isnt_struck = refl

-- a process that was struck before it parks may be withdrawn at once; any reply takes the strike away
pub was_struck_before : outcomes (
    by 2 (calls.SigAction (Is Usr1) Catch) ∷ by 1 (calls.Kill 2 (Is Usr1)) ∷ receives 2 (pos 0) 8 ∷ withdraws 2 (Msg 1)
    ∷ by 1 (calls.Kill 2 (Is Usr1)) ∷ by 2 calls.GetPid ∷ receives 2 (pos 0) 8 ∷ withdraws 2 (Msg 1) ∷ [])
    ≡ number 0 ∷ number 0 ∷ parks ∷ fails Eintr ∷ number 0 ∷ number 2 ∷ parks ∷ None ∷ []
was_struck_before = refl

-- a process that is doomed while it waits withdraws, and has one more call before its end
pub withdraws_and_ends : outcomes (
    receives 2 (pos 0) 8 ∷ by 1 (calls.Kill 2 (Is Term)) ∷ by 2 (calls.Killed Term) ∷ withdraws 2 (Msg 1)
    ∷ by 2 calls.GetPid ∷ by 2 calls.GetPid ∷ by 2 (calls.Killed Term) ∷ [])
    ≡ parks ∷ number 0 ∷ None ∷ fails Eintr ∷ number 2 ∷ None ∷ gives Ended ∷ []
withdraws_and_ends = refl

-- one that was doomed before it parked has nothing left behind its withdrawal, or its wake, but its end
pub parks_doomed : outcomes (
    by 1 (calls.Kill 2 (Is Kill)) ∷ receives 2 (pos 0) 8 ∷ withdraws 2 (Msg 1) ∷ by 2 calls.GetPid
    ∷ by 2 (calls.Killed Kill) ∷ by 1 (calls.Kill 3 (Is Term)) ∷ receives 3 (pos 0) 8 ∷ sends 1 (pos 1) []
    ∷ by 3 calls.GetPid ∷ by 3 (calls.Killed Term) ∷ [])
    ≡ number 0 ∷ parks ∷ fails Eintr ∷ None ∷ gives Ended ∷ number 0 ∷ parks
    ∷ wakes (Num 0) ((3, text (pos 1) []) ∷ []) ∷ None ∷ gives Ended ∷ []
parks_doomed = refl

-- nobody waits where nobody has parked
pub doesnt_withdraw : outcomes (
    by 2 (calls.SigAction (Is Usr1) Catch) ∷ by 1 (calls.Kill 2 (Is Usr1)) ∷ withdraws 2 (Msg 1)
    ∷ withdraws 2 (Proc 2) ∷ withdraws 9 (Msg 1) ∷ [])
    ≡ number 0 ∷ number 0 ∷ None ∷ None ∷ None ∷ []
doesnt_withdraw = refl
