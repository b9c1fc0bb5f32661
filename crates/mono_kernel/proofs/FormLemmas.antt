-- A call of a living process, by the effect of its form.
use Rattle.std.proofs.Common.{◌≡◌, ◌∙◌, ℕ, [], map, Option, Some, None, IfSome, Result, Ok, Err, refl, sym, ap, subst}
use Rattle.pico_base.specs.declared.call.Call.{Call}
use Rattle.pico_base.specs.declared.reply.Reply.{Reply}
use Rattle.waiting_model.specs.declared.callers.Waiting.{Waiting}
use Rattle.waiting_model.specs.Waiters.{waiter}
use Rattle.waiting_model.specs.Marks.{Alive}
use Rattle.waiting_model.specs.Kernel.{Kernel, living_at}
use Rattle.waiting_model.specs.Effect.{Effect, replying, woken_pair}
use Rattle.waiting_model.specs.Transition.{effect, effect_by}
use Rattle.mono_kernel.specs.declared.done.Done.{Done}
use Rattle.mono_kernel.specs.declared.done.Done.TheVariants as dones
use Rattle.mono_kernel.specs.declared.fault.CallFault.{CallFault}
use Rattle.mono_kernel.specs.declared.fault.CallFault.TheVariants.{Memory, NotAllowed}
use Rattle.mono_kernel.specs.Answers.{Answers, IsDone, Replies}
use Rattle.mono_kernel.specs.Done.{done_of}

-- a reply, and nobody is woken
pub alone-done : (e : Effect) (call : Call) (new : Kernel) (reply : Reply) → e ≡ replying new reply
    → IsDone e call new (dones.Replies reply [])
alone-done e call new reply is =
    record {
      kernel = ap (λ (x : Effect). x.kernel) is;
      own = ap (λ (x : Effect). x.own) is;
      woken = ap (λ (x : Effect). map woken_pair x.wakes) is;
      parks = tt;
    }

-- an answer that is a reply
reply-answers : (e : Option Effect) (call : Call) (k next : Kernel) (r : Result Reply CallFault) → Replies e r k next
    → Answers e call (done_of r) k next
reply-answers e call k next (Ok reply) h =
    rw h (alone-done (replying next reply) call next reply refl)
reply-answers e call k next (Err NotAllowed) h = h
reply-answers e call k next (Err Memory) h = h

module _ (k next : Kernel) (pid n : ℕ) (call : Call) (eff : Alive → Option Effect)
    (computes : (a : Alive) → effect k (waiter pid call) a n ≡ eff a) where
  -- a call by its own effect
  pub by-effect : (r : Result Done CallFault) → IfSome (living_at k pid) (λ a. Answers (eff a) call r k next)
      → IfSome (living_at k pid) (λ a. Answers (effect k (waiter pid call) a n) call r k next)
  by-effect r h = at (living_at k pid) h
    where
      at : (o : Option Alive) → IfSome o (λ a. Answers (eff a) call r k next)
          → IfSome o (λ a. Answers (effect k (waiter pid call) a n) call r k next)
      at None g = tt
      at (Some a) g = rw (computes a) g

  -- one that replies at once
  pub by-reply : (r : Result Reply CallFault) (d : Result Done CallFault) → d ≡ done_of r
      → IfSome (living_at k pid) (λ a. Replies (eff a) r k next)
      → IfSome (living_at k pid) (λ a. Answers (effect k (waiter pid call) a n) call d k next)
  by-reply r d is h = at (living_at k pid) h
    where
      at : (o : Option Alive) → IfSome o (λ a. Replies (eff a) r k next)
          → IfSome o (λ a. Answers (effect k (waiter pid call) a n) call d k next)
      at None g = tt
      at (Some a) g = rw (computes a, is) (reply-answers (eff a) call k next r g)

-- a call's effect by its form
pub by-form : (k : Kernel) (who : Waiting) (a : Alive) (call form : Call) (n : ℕ) (e : Option Effect) → call ≡ form
    → effect_by k who a form n ≡ e
    → effect_by k who a call n ≡ e
by-form k who a call form n e is h = subst (λ (x : Call). effect_by k who a x n ≡ e) (sym is) h

-- a kernel and a reply by whoever lives there
pub both-are : (o : Option Alive) (f : Alive → Kernel) (g : Alive → Reply) (next : Kernel) (reply : Reply)
    → IfSome o (λ a. next ≡ f a)
    → IfSome o (λ a. reply ≡ g a)
    → IfSome o (λ a. Some (replying (f a) (g a)) ≡ Some (replying next reply))
both-are None f g next reply h i = tt
both-are (Some a) f g next reply h i =
    ap (λ (k : Kernel). Some (replying k (g a))) (sym h) ∙ ap (λ (r : Reply). Some (replying next r)) (sym i)

-- an effect of whoever lives there, as an effect that there is
pub there-is : (o : Option Alive) (eff : Alive → Effect) (e : Effect) → IfSome o (λ a. eff a ≡ e)
    → IfSome o (λ a. Some (eff a) ≡ Some e)
there-is None eff e h = tt
there-is (Some a) eff e h = ap Some h

-- and of whatever call it is
pub of-call : {X : Type 0} (o : Option Alive) (P : Alive → X → Type 0) (x : X) → IfSome o (λ a. (y : X) → P a y)
    → IfSome o (λ a. P a x)
of-call None P x h = tt
of-call (Some a) P x h = h x

-- what holds whoever lives there
pub anyway : {X : Type 0} (o : Option X) (Q : Type 0) → Q → IfSome o (λ _. Q)
anyway None Q h = tt
anyway (Some x) Q h = h
