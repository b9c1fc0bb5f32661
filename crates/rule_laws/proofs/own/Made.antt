-- What msgget and semget with IPC_PRIVATE make; and a number of a range is one of four bytes.
use Rattle.std.proofs.Common.{◌≡◌, ℕ, zero, suc, ◌-◌, ◌/◌, ◌<◌, ◌≤◌, Bool, true, false, List, length, Some, None, Ok, refl, ap, sym, ◌∙◌, arith, nat_lt, slice_get, if◌then◌else◌}
use Rattle.std.proofs.lemmas.Bool.{lt-ltb, ne_eqb}
use Rattle.std.proofs.lemmas.Option.{slice_get_within}
use Rattle.pico_base.specs.declared.call.Call.TheVariants as calls
use Rattle.pico_base.specs.declared.numbers.Kind.TheVariants as kinds
use Rattle.pico_base.specs.declared.numbers.Name.TheVariants.{Msg, Sem}
use Rattle.pico_base.specs.declared.script.Script.{Script}
use Rattle.number_maps.specs.Maps.{is_used}
use Rattle.kernel_model.specs.Kernel.{Kernel}
use Rattle.kernel_model.specs.Numbers.{is_positive_u32, is_u32, number_end}
use Rattle.kernel_model.specs.Queue.{empty_queue}
use Rattle.kernel_model.specs.SemaphoreSet.{SemaphoreSet, new_set}
use Rattle.entry_laws.specs.Entering.{MayMake}
use Rattle.entry_laws.proofs.Fresh.{makes-private-queue, makes-private-set}
use Rattle.waiting_model.specs.Waiters.{unawaited}
use Rattle.node_model.specs.Bodies.{AQueue, ASet}
use Rattle.node_model.specs.Directory.{maker_in, max_ranges}
use Rattle.world_model.specs.Numbers.{make_set}
use Rattle.rule_laws.proofs.Nodes.{and-true}
use Rattle.rule_laws.proofs.own.Asks.{queue-takes, set-takes}
use Rattle.rule_laws.proofs.own.Objects.{MakesOne}

-- a new queue
pub makes-queue : (script : Script) (k : Kernel) (pid number : ℕ) (create excl : Bool)
    → MayMake k pid (calls.MsgGet None create excl) → is_used k.used_queues number ≡ false
    → is_positive_u32 number ≡ true
    → MakesOne script k pid (calls.MsgGet None create excl) kinds.Msg number (Msg number) (AQueue
    (unawaited empty_queue))
makes-queue script k pid number create excl may unused low =
    record {
      takes = queue-takes create excl;
      kind_is = refl;
      number_is = refl;
      object = refl;
      with_number = λ step. refl;
      makes = makes-private-queue k pid number create excl may unused low;
      no_fork = refl;
      no_exit = refl;
      not_killed = refl;
    }

-- a new set
pub makes-set : (script : Script) (k : Kernel) (pid number count : ℕ) (create excl : Bool) (set : SemaphoreSet)
    → MayMake k pid (calls.SemGet None count create excl) → new_set count ≡ Ok set
    → is_used k.used_sets number ≡ false → is_positive_u32 number ≡ true
    → MakesOne script k pid (calls.SemGet None count create excl) kinds.Sem number (Sem number) (ASet (unawaited set))
makes-set script k pid number count create excl set may is unused low =
    record {
      takes = set-takes count create excl set is;
      kind_is = refl;
      number_is = refl;
      object = refl;
      with_number = λ step. ap (make_set script step (calls.SemGet None count create excl) number) is;
      makes = makes-private-set k pid number count create excl set may is unused low;
      no_fork = refl;
      no_exit = refl;
      not_killed = refl;
    }

none-is-some : {A : Type 0} (a : A) → None ≡ Some a → ⊥
none-is-some a h = cc

-- a number of a range is one of four bytes, where there are no more ranges than may be
pub number-is-low : (ranges : List ℕ) (number node : ℕ) → length ranges ≤ max_ranges
    → maker_in ranges number ≡ Some node → is_positive_u32 number ≡ true
number-is-low ranges zero node few h = absurd (none-is-some node h)
number-is-low ranges (suc i) node few h =
    let there : slice_get ranges ((suc i - 1) / 8) ≡ Some node =
    sym (ap (λ t. if t then None else slice_get ranges ((suc i - 1) / 8)) (ne_eqb (suc i) 0 (λ e. omega (arith, e))))
    ∙ h
    in let within : (suc i - 1) / 8 < length ranges = slice_get_within ranges ((suc i - 1) / 8) node there
    in and-true (nat_lt 0 (suc i)) (is_u32 (suc i)) (lt-ltb 0 (suc i) (omega arith))
    (lt-ltb (suc i) number_end (omega (arith, few, within)))
