-- A call that takes a number never waits, counts nobody who waits, and withdraws nothing.
use Rattle.std.proofs.Common.{◌≡◌, ℕ, Bool, true, false, ◌&&◌, None, refl, ap, ◌∙◌}
use Rattle.std.proofs.lemmas.Bool.{false≢true}
use Rattle.pico_base.specs.declared.call.Call.{Call}
use Rattle.pico_base.specs.declared.call.Call.TheVariants as calls
use Rattle.pico_base.specs.declared.numbers.Kind.{Kind}
use Rattle.pico_base.specs.declared.numbers.Kind.TheVariants as kinds
use Rattle.waiting_model.specs.Calls.{is_withdrawal, may_park, waits_at}
use Rattle.waiting_model.specs.Linear.{counts_waiters}
use Rattle.waiting_model.specs.Marks.{Alive}
use Rattle.waiting_laws.proofs.Leads.{waits_for_child}
use Rattle.node_model.specs.Kinds.{is_object}
use Rattle.node_model.specs.Leases.{takes_number}
use Rattle.world_laws.proofs.Cancels.{may_be_withdrawn}

data IsNumbered (call : Call) : Type 0 where
  forks_one : (block : ℕ) → call ≡ calls.Fork block → IsNumbered call
  makes_queue : (create excl : Bool) → call ≡ calls.MsgGet None create excl → IsNumbered call
  makes_set : (count : ℕ) (create excl : Bool) → call ≡ calls.SemGet None count create excl → IsNumbered call

numbered : (kind : Kind) (call : Call) → takes_number kind call ≡ true → IsNumbered call
numbered kinds.Proc (calls.Fork block) h = forks_one block refl
numbered kinds.Msg (calls.MsgGet None create excl) h = makes_queue create excl refl
numbered kinds.Sem (calls.SemGet None count create excl) h = makes_set count create excl refl
numbered kinds.Proc call h = absurd (false≢true h)
numbered kinds.Msg call h = absurd (false≢true h)
numbered kinds.Sem call h = absurd (false≢true h)

-- what is so of each of these
of-numbered : {A : Type 0} (f : Call → A) (a : A) → ((block : ℕ) → f (calls.Fork block) ≡ a)
    → ((create excl : Bool) → f (calls.MsgGet None create excl) ≡ a)
    → ((count : ℕ) (create excl : Bool) → f (calls.SemGet None count create excl) ≡ a)
    → (kind : Kind) (call : Call) → takes_number kind call ≡ true → f call ≡ a
of-numbered f a forks queues sets kind call h = by-call (numbered kind call h)
  where
    by-call : IsNumbered call → f call ≡ a
    by-call (forks_one block is) = ap f is ∙ forks block
    by-call (makes_queue create excl is) = ap f is ∙ queues create excl
    by-call (makes_set count create excl is) = ap f is ∙ sets count create excl

-- a call that makes something with a new number never waits
pub numbered-parks-not : (kind : Kind) (call : Call) → takes_number kind call ≡ true → may_park call ≡ false
numbered-parks-not kind call h =
    of-numbered may_park false (λ block. refl) (λ create excl. refl) (λ count create excl. refl) kind call h

-- nor does it count those who wait
pub numbered-counts-not : (kind : Kind) (call : Call) → takes_number kind call ≡ true → counts_waiters call ≡ false
numbered-counts-not kind call h =
    of-numbered counts_waiters false (λ block. refl) (λ create excl. refl) (λ count create excl. refl) kind call h

-- and it takes back no call
pub numbered-withdraws-not : (kind : Kind) (call : Call) → takes_number kind call ≡ true → is_withdrawal call ≡ false
numbered-withdraws-not kind call h =
    of-numbered is_withdrawal false (λ block. refl) (λ create excl. refl) (λ count create excl. refl) kind call h

-- it waits for no child
pub numbered-waits-not : (a : Alive) (kind : Kind) (call : Call) → takes_number kind call ≡ true
    → waits_for_child a call ≡ false
numbered-waits-not a kind call h =
    of-numbered (waits_for_child a) false (λ block. refl) (λ create excl. refl) (λ count create excl. refl) kind call h

-- and is never withdrawn
pub numbered-not-withdrawn : (pid : ℕ) (kind : Kind) (call : Call) → takes_number kind call ≡ true
    → may_be_withdrawn pid call ≡ false
numbered-not-withdrawn pid kind call h = ap (λ t. t && is_object (waits_at pid call)) (numbered-parks-not kind call h)
