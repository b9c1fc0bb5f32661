-- Worked examples of footprints, computed by the checker.
use Rattle.std.specs.Prelude.{◌≡◌, pos, true, false, List, [], ◌∷◌, Some, None, refl, codes}
use Rattle.pico_base.specs.declared.call.Call.TheVariants as calls
use Rattle.pico_base.specs.declared.numbers.Name.TheVariants.{Proc, Msg}
use Rattle.std.specs.Option.{option_map}
use Rattle.pico_base.specs.declared.reply.Ending.TheVariants.{Exited}
use Rattle.pico_base.specs.declared.signal.Sig.TheVariants.{Usr1}
use Rattle.pico_base.specs.declared.signal.SigArg.TheVariants.{Is}
use Rattle.number_maps.specs.Maps.{get}
use Rattle.kernel_model.specs.Row.{ended_child, new_row}
use Rattle.waiting_model.specs.Marks.{Alive, new_alive, new_marks}
use Rattle.waiting_model.specs.Kernel.{Kernel, Living, Ended, Gone, opening}
use Rattle.waiting_model.specs.Transition.{Successor, transition}
use Rattle.waiting_model.specs.Examples.{Made, by, creating, kernel_after, made_first, receives, waits}
use Rattle.waiting_footprint_laws.specs.Footprint.{MarksOf, Whole, ParentOf, QueueAt, SetAt, SizeOf, QueueKeys, SetKeys, footprint}

-- process 1 has made queue 1 and set 1, and forked 2 and 3; then these
abbrev pub after : List Made → Kernel
after made = kernel_after (kernel_after opening made_first) made

-- a send may wake who waits to receive, whether it does or not; with whoever parked first in front
pub at_a_queue : footprint (after (receives 2 (pos 7) 8 ∷ receives 3 (pos 0) 8 ∷ [])) 1
    (calls.MsgSnd 1 (pos 1) (codes "a") false) 0
    ≡ MarksOf 1 ∷ QueueAt 1 ∷ MarksOf 2 ∷ MarksOf 3 ∷ []
at_a_queue = refl

-- where there is no queue nobody waits
pub at_no_queue : footprint (after []) 1 (calls.MsgStat 9) 0 ≡ MarksOf 1 ∷ QueueAt 9 ∷ []
at_no_queue = refl

-- a removal wakes each who waits, and frees the key
pub removes_a_queue : footprint (after (receives 2 (pos 0) 8 ∷ [])) 1 (calls.MsgRmid 1) 0
    ≡ MarksOf 1 ∷ QueueKeys ∷ QueueAt 1 ∷ MarksOf 2 ∷ []
removes_a_queue = refl

-- a withdrawal is made where the call waits, and at the caller where it waits for its children
pub withdraws_a_receive : footprint (after (receives 2 (pos 0) 8 ∷ [])) 2 (calls.Withdraw (Msg 1)) 0
    ≡ MarksOf 2 ∷ QueueAt 1 ∷ MarksOf 2 ∷ []
withdraws_a_receive = refl

pub withdraws_a_wait : footprint (after (waits 1 None ∷ [])) 1 (calls.Withdraw (Proc 1)) 0 ≡ MarksOf 1 ∷ Whole 1 ∷ []
withdraws_a_wait = refl

-- an end is the parent's affair, which may wait for it
pub ends : footprint (after (waits 1 None ∷ [])) 2 (calls.Exit 0) 0
    ≡ MarksOf 2 ∷ Whole 2 ∷ ParentOf 2 ∷ Whole 1 ∷ []
ends = refl

-- a wait for children looks at those that have ended
pub waits_for_children : footprint (after (by 3 (calls.Exit 0) ∷ by 2 (calls.Exit 0) ∷ [])) 1
    (calls.WaitPid None false) 0
    ≡ MarksOf 1 ∷ Whole 1 ∷ Whole 3 ∷ Whole 2 ∷ []
waits_for_children = refl

-- a signal to another process, and a get by a key that leads to a set
pub signals : footprint (after []) 1 (calls.Kill 2 (Is Usr1)) 0 ≡ MarksOf 1 ∷ Whole 2 ∷ []
signals = refl

pub gets_by_key : footprint (after (creating 1 (calls.SemGet (Some 5) 2 true false) 2 ∷ [])) 2
    (calls.SemGet (Some 5) 2 false false) 3
    ≡ MarksOf 2 ∷ SetKeys ∷ SetAt 3 ∷ SizeOf 2 ∷ []
gets_by_key = refl

-- Why a valid process that waits for its children finds none that has ended: where one does, the end of another child
-- gives it the one that ended before, which is no part of that end.

abbrev pub impatient_parent : Alive
impatient_parent =
    record {
      row = record new_row { family = record { living = 2 ∷ []; ended = ended_child 3 (Exited 0) ∷ [] } };
      marks = record new_marks { parked = Some (calls.WaitPid None false) };
    }

abbrev pub impatient : Kernel
impatient =
    record opening {
      processes = (1, Living impatient_parent) ∷ (2, Living new_alive) ∷ (3, Ended (Exited 0)) ∷ [];
    }

pub ends_under_an_impatient_parent : footprint impatient 2 (calls.Exit 0) 0
    ≡ MarksOf 2 ∷ Whole 2 ∷ ParentOf 2 ∷ Whole 1 ∷ []
ends_under_an_impatient_parent = refl

pub changes_what_is_no_part : option_map (λ (s : Successor). get s.kernel.processes 3)
    (transition impatient 2 (calls.Exit 0) 0)
    ≡ Some (Some Gone)
changes_what_is_no_part = refl
