-- The law at each call.
use Rattle.std.proofs.Common.{◌≡◌, ℕ, Bool, true, false, if◌then◌else◌, not, List, Option, Some, None, refl, sym, subst}
use Rattle.pico_base.specs.declared.call.Call.{Call}
use Rattle.pico_base.specs.declared.call.Call.TheVariants as calls
use Rattle.pico_base.specs.declared.numbers.Name.{Name}
use Rattle.kernel_model.specs.Kernel.{Kernel, living_at}
use Rattle.kernel_model.specs.Row.{Alive}
use Rattle.pico_base.specs.declared.numbers.Kind.{Kind}
use Rattle.kernel_model.specs.Transition.{Successor, is_spent, transition, transition_by}
use Rattle.kernel_model.specs.Footprint.{Part, footprint}
use Rattle.kernel_model.specs.FootprintLaw.{GrowsBy, SameSteps, FootprintLaw}
use Rattle.footprint_laws.proofs.Stepped.{AlikeSteps}
use Rattle.footprint_laws.proofs.Growth.{growth}
use Rattle.footprint_laws.proofs.AtCall.{LawAt}
use Rattle.footprint_laws.proofs.Processes.{fork-law, getpid-law, kill-law, action-law, mask-law, pending-law, handled-law, wait-law}
use Rattle.footprint_laws.proofs.Queues.{get_queue-law, send-law, receive-law, stat-law, set_bytes-law, remove_queue-law}
use Rattle.footprint_laws.proofs.Sets.{get_set-law, operate-law, get_value-law, get_last-law, get_ncnt-law, get_zcnt-law, set_value-law, get_all-law, set_all-law, remove_set-law}
use Rattle.footprint_laws.proofs.Ends.{exit-law, killed-law}

-- a withdrawal has no step
nothing-if : (b : Bool) (x : Option Successor) → x ≡ None → (if b then x else None) ≡ None
nothing-if true x h = h
nothing-if false x h = refl

no-step : (k : Kernel) (pid n : ℕ) (name : Name) (o : Option Alive)
    → transition_by k pid (calls.Withdraw name) n o ≡ None
no-step k pid n name None = refl
no-step k pid n name (Some a) = nothing-if (not (is_spent a.allowance)) None refl

alike-nothing : (parts : List Part) (j k : Kernel) (x y : Option Successor) → x ≡ None → y ≡ None
    → AlikeSteps parts j k x y
alike-nothing parts j k x y none nothing =
    subst (λ (s : Option Successor). AlikeSteps parts j k s y) (sym none)
    (subst (λ (s : Option Successor). AlikeSteps parts j k None s) (sym nothing) tt)

withdraw-law : (j k : Kernel) (pid n : ℕ) (name : Name) → LawAt j k pid (calls.Withdraw name) n
withdraw-law j k pid n name vj vk h uj uk =
    alike-nothing (footprint j pid (calls.Withdraw name) n) j k (transition j pid (calls.Withdraw name) n)
    (transition k pid (calls.Withdraw name) n) (no-step j pid n name (living_at j pid))
    (no-step k pid n name (living_at k pid))

law-at : (j k : Kernel) (pid n : ℕ) (call : Call) → LawAt j k pid call n
law-at j k pid n (calls.Fork block) = fork-law j k pid n block
law-at j k pid n (calls.Exit status) = exit-law j k pid n status
law-at j k pid n (calls.Killed sig) = killed-law j k pid n sig
law-at j k pid n calls.GetPid = getpid-law j k pid n
law-at j k pid n (calls.Kill target sig) = kill-law j k pid n target sig
law-at j k pid n (calls.SigAction sig act) = action-law j k pid n sig act
law-at j k pid n (calls.SigProcMask how set) = mask-law j k pid n how set
law-at j k pid n calls.SigPending = pending-law j k pid n
law-at j k pid n (calls.Handled sig) = handled-law j k pid n sig
law-at j k pid n (calls.WaitPid child nohang) = wait-law j k pid n child nohang
law-at j k pid n (calls.MsgGet key create excl) = get_queue-law j k pid n key create excl
law-at j k pid n (calls.MsgSnd id class text nowait) = send-law j k pid n id class text nowait
law-at j k pid n (calls.MsgRcv id class size noerror nowait) = receive-law j k pid n id class size noerror nowait
law-at j k pid n (calls.MsgStat id) = stat-law j k pid n id
law-at j k pid n (calls.MsgSet id qbytes) = set_bytes-law j k pid n id qbytes
law-at j k pid n (calls.MsgRmid id) = remove_queue-law j k pid n id
law-at j k pid n (calls.SemGet key count create excl) = get_set-law j k pid n key count create excl
law-at j k pid n (calls.SemOp id steps) = operate-law j k pid n id steps
law-at j k pid n (calls.SemGetVal id num) = get_value-law j k pid n id num
law-at j k pid n (calls.SemGetPid id num) = get_last-law j k pid n id num
law-at j k pid n (calls.SemGetNcnt id num) = get_ncnt-law j k pid n id num
law-at j k pid n (calls.SemGetZcnt id num) = get_zcnt-law j k pid n id num
law-at j k pid n (calls.SemSetVal id num value) = set_value-law j k pid n id num value
law-at j k pid n (calls.SemGetAll id) = get_all-law j k pid n id
law-at j k pid n (calls.SemSetAll id values) = set_all-law j k pid n id values
law-at j k pid n (calls.SemRmid id) = remove_set-law j k pid n id
law-at j k pid n (calls.Withdraw name) = withdraw-law j k pid n name

-- the same step but for the numbers used, and these
with-growth : (parts : List Part) (call : Call) (n : ℕ) (j k : Kernel) (x y : Option Successor)
    → AlikeSteps parts j k x y
    → ((s : Successor) → x ≡ Some s → (kind : Kind) → GrowsBy call n s.outcome j s.kernel kind)
    → ((s : Successor) → y ≡ Some s → (kind : Kind) → GrowsBy call n s.outcome k s.kernel kind)
    → SameSteps parts call n j k x y
with-growth parts call n j k None None s f g = tt
with-growth parts call n j k None (Some y) s f g = absurd s
with-growth parts call n j k (Some x) None s f g = absurd s
with-growth parts call n j k (Some x) (Some y) s f g =
    record {
      outcome = s.outcome;
      agree = s.agree;
      rest_of_first = s.rest_of_first;
      rest_of_second = s.rest_of_second;
      used_of_first = f x refl;
      used_of_second = g y refl;
    }

-- the footprint's law, at every call
pub the_law : FootprintLaw
the_law j k pid call n vj vk h uj uk =
    with-growth (footprint j pid call n) call n j k (transition j pid call n) (transition k pid call n)
    (law-at j k pid n call vj vk h uj uk) (growth j pid call n vj uj) (growth k pid call n vk uk)
