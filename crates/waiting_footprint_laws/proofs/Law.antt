-- The law at each call.
use Rattle.std.proofs.Common.{◌≡◌, ℕ, List, Option, Some, None, refl}
use Rattle.pico_base.specs.declared.call.Call.{Call}
use Rattle.pico_base.specs.declared.call.Call.TheVariants as calls
use Rattle.pico_base.specs.declared.numbers.Kind.{Kind}
use Rattle.waiting_model.specs.Kernel.{Kernel}
use Rattle.waiting_model.specs.Transition.{Successor, transition}
use Rattle.waiting_footprint_laws.specs.Footprint.{Part, footprint}
use Rattle.waiting_footprint_laws.specs.Law.{FootprintLaw, GrowsBy, SameSteps}
use Rattle.waiting_footprint_laws.proofs.Effects.{AlikeSteps}
use Rattle.waiting_footprint_laws.proofs.Steps.{LawAt}
use Rattle.waiting_footprint_laws.proofs.Processes.{fork-law, getpid-law, kill-law, action-law, mask-law, pending-law, handled-law, wait-law}
use Rattle.waiting_footprint_laws.proofs.Queues.{get_queue-law, queue-law, remove_queue-law}
use Rattle.waiting_footprint_laws.proofs.Sets.{get_set-law, set-law, remove_set-law}
use Rattle.waiting_footprint_laws.proofs.Withdrawals.{withdraw-law}
use Rattle.waiting_footprint_laws.proofs.Ends.{exit-law, killed-law}
use Rattle.waiting_footprint_laws.proofs.Growth.{growth}

law-at : (j k : Kernel) (pid n : ℕ) (call : Call) → LawAt j k pid call n
law-at j k pid n (calls.Fork block) = fork-law j k pid n block
law-at j k pid n (calls.Exit status) = exit-law j k pid n status
law-at j k pid n (calls.Killed sig) = killed-law j k pid n sig
law-at j k pid n calls.GetPid = getpid-law j k pid n
law-at j k pid n (calls.Kill target sig) = kill-law j k pid n target sig
law-at j k pid n (calls.SigAction sig act) = action-law j k pid n sig act
law-at j k pid n (calls.SigProcMask how set) = mask-law j k pid n how set
law-at j k pid n calls.SigPending = pending-law j k pid n
law-at j k pid n (calls.Handled sig) = handled-law j k pid n sig
law-at j k pid n (calls.WaitPid child nohang) = wait-law j k pid n child nohang
law-at j k pid n (calls.MsgGet key create excl) = get_queue-law j k pid n key create excl
law-at j k pid n (calls.MsgSnd id class text nowait) =
    λ vj vk h uj uk.
    queue-law j k pid n id (calls.MsgSnd id class text nowait) refl (λ a. refl) (λ i a. refl) vj vk h
law-at j k pid n (calls.MsgRcv id class size noerror nowait) =
    λ vj vk h uj uk.
    queue-law j k pid n id (calls.MsgRcv id class size noerror nowait) refl (λ a. refl) (λ i a. refl) vj vk h
law-at j k pid n (calls.MsgStat id) =
    λ vj vk h uj uk. queue-law j k pid n id (calls.MsgStat id) refl (λ a. refl) (λ i a. refl) vj vk h
law-at j k pid n (calls.MsgSet id qbytes) =
    λ vj vk h uj uk. queue-law j k pid n id (calls.MsgSet id qbytes) refl (λ a. refl) (λ i a. refl) vj vk h
law-at j k pid n (calls.MsgRmid id) = remove_queue-law j k pid n id
law-at j k pid n (calls.SemGet key count create excl) = get_set-law j k pid n key count create excl
law-at j k pid n (calls.SemOp id steps) =
    λ vj vk h uj uk. set-law j k pid n id (calls.SemOp id steps) refl (λ a. refl) (λ i a. refl) vj vk h
law-at j k pid n (calls.SemGetVal id num) =
    λ vj vk h uj uk. set-law j k pid n id (calls.SemGetVal id num) refl (λ a. refl) (λ i a. refl) vj vk h
law-at j k pid n (calls.SemGetPid id num) =
    λ vj vk h uj uk. set-law j k pid n id (calls.SemGetPid id num) refl (λ a. refl) (λ i a. refl) vj vk h
law-at j k pid n (calls.SemGetNcnt id num) =
    λ vj vk h uj uk. set-law j k pid n id (calls.SemGetNcnt id num) refl (λ a. refl) (λ i a. refl) vj vk h
law-at j k pid n (calls.SemGetZcnt id num) =
    λ vj vk h uj uk. set-law j k pid n id (calls.SemGetZcnt id num) refl (λ a. refl) (λ i a. refl) vj vk h
law-at j k pid n (calls.SemSetVal id num value) =
    λ vj vk h uj uk. set-law j k pid n id (calls.SemSetVal id num value) refl (λ a. refl) (λ i a. refl) vj vk h
law-at j k pid n (calls.SemGetAll id) =
    λ vj vk h uj uk. set-law j k pid n id (calls.SemGetAll id) refl (λ a. refl) (λ i a. refl) vj vk h
law-at j k pid n (calls.SemSetAll id values) =
    λ vj vk h uj uk. set-law j k pid n id (calls.SemSetAll id values) refl (λ a. refl) (λ i a. refl) vj vk h
law-at j k pid n (calls.SemRmid id) = remove_set-law j k pid n id
law-at j k pid n (calls.Withdraw name) = withdraw-law j k pid n name

-- the same step but for the numbers used, and these
with-growth : (parts : List Part) (call : Call) (n : ℕ) (j k : Kernel) (x y : Option Successor)
    → AlikeSteps parts j k x y
    → ((s : Successor) → x ≡ Some s → (kind : Kind) → GrowsBy call n s.outcome j s.kernel kind)
    → ((s : Successor) → y ≡ Some s → (kind : Kind) → GrowsBy call n s.outcome k s.kernel kind)
    → SameSteps parts call n j k x y
with-growth parts call n j k None None s f g = tt
with-growth parts call n j k None (Some y) s f g = absurd s
with-growth parts call n j k (Some x) None s f g = absurd s
with-growth parts call n j k (Some x) (Some y) s f g =
    record {
      outcome = s.outcome;
      agree = s.agree;
      rest_of_first = s.rest_of_first;
      rest_of_second = s.rest_of_second;
      used_of_first = f x refl;
      used_of_second = g y refl;
    }

-- the footprint's law, at every call
pub the_law : FootprintLaw
the_law j k pid call n vj vk h uj uk =
    with-growth (footprint j pid call n) call n j k (transition j pid call n) (transition k pid call n)
    (law-at j k pid n call vj vk h uj uk) (growth j pid call n vj uj) (growth k pid call n vk uk)
