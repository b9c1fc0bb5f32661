-- The calls that take a number, and what each comes to with one of any source.
use Rattle.std.proofs.Common.{◌≡◌, ℕ, Bool, true, None, Ok, refl, sym, subst}
use Rattle.std.proofs.lemmas.Bool.{false≢true}
use Rattle.pico_base.specs.declared.call.Call.{Call}
use Rattle.pico_base.specs.declared.call.Call.TheVariants as calls
use Rattle.pico_base.specs.declared.numbers.Kind.{Kind}
use Rattle.pico_base.specs.declared.numbers.Kind.TheVariants as kinds
use Rattle.kernel_model.specs.SemaphoreSet.{SemaphoreSet, new_set}
use Rattle.node_model.specs.Leases.{takes_number}
use Rattle.rule_laws.proofs.own.Asks.{Takes, fork-takes, queue-takes, set-takes}

-- a fork, or a new queue or set without a key, with the kind of its number
pub data Making (kind : Kind) (call : Call) : Type 0 where
  forks : (block : ℕ) → kind ≡ kinds.Proc → call ≡ calls.Fork block → Making kind call
  makes_queue : (create excl : Bool) → kind ≡ kinds.Msg → call ≡ calls.MsgGet None create excl → Making kind call
  makes_set : (count : ℕ) (create excl : Bool) (set : SemaphoreSet) → kind ≡ kinds.Sem
      → call ≡ calls.SemGet None count create excl → new_set count ≡ Ok set → Making kind call

-- a set that is asked for without a key has a size that there is
abbrev pub HasSize : Call → Type 0
HasSize call =
    (count : ℕ) (create excl : Bool) → call ≡ calls.SemGet None count create excl
    → (set : SemaphoreSet) × (new_set count ≡ Ok set)

-- a call that takes a number of a kind is one of these
pub making-of : (kind : Kind) (call : Call) → takes_number kind call ≡ true → HasSize call → Making kind call
making-of kinds.Proc (calls.Fork block) h sized = forks block refl refl
making-of kinds.Msg (calls.MsgGet None create excl) h sized = makes_queue create excl refl refl
making-of kinds.Sem (calls.SemGet None count create excl) h sized =
    let it = sized count create excl refl in makes_set count create excl it.0 refl refl it.1
making-of kind call h sized = absurd (false≢true h)

-- and starts so
pub making-takes : (kind : Kind) (call : Call) → Making kind call → Takes kind call
making-takes kind call (forks block kind_is is) =
    subst (λ k. Takes k call) (sym kind_is) (subst (λ c. Takes kinds.Proc c) (sym is) (fork-takes block))
making-takes kind call (makes_queue create excl kind_is is) =
    subst (λ k. Takes k call) (sym kind_is) (subst (λ c. Takes kinds.Msg c) (sym is) (queue-takes create excl))
making-takes kind call (makes_set count create excl set kind_is is sized) =
    subst (λ k. Takes k call) (sym kind_is)
    (subst (λ c. Takes kinds.Sem c) (sym is) (set-takes count create excl set sized))
