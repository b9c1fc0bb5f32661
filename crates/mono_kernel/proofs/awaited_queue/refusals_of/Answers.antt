use Rattle.std.proofs.Common.{◌≡◌, ◌∙◌, ◌<◌, ◌++◌, ◌∷◌, [], ℕ, zero, suc, ◌+◌, List, map, length, take, get_or, sym, ap, add-one, arith, rules}
use Rattle.std.proofs.lemmas.List.{take_all}
use Rattle.pico_base.specs.declared.reply.Reply.{Reply}
use Rattle.waiting_model.specs.declared.callers.Waiting.{Waiting}
use Rattle.mono_kernel.specs.Waiters.{eidrm_for}
use Rattle.mono_kernel.proofs.awaited_queue.refusals_of.Goals as goal

take-next : (ws : List Waiting) (i : ℕ) (w : Waiting) → i < length ws → w ≡ get_or ws i w
    → map eidrm_for (take (suc i) ws) ≡ map eidrm_for (take i ws) ++ eidrm_for w ∷ []
take-next [] i w inside read = absurd (omega arith)
take-next (x ∷ ws) zero w inside read = ap (λ (y : Waiting). eidrm_for y ∷ []) (sym read)
take-next (x ∷ ws) (suc i) w inside read =
    let less : i < length ws = omega arith
    in ap (λ (ys : List (ℕ × Reply)). eidrm_for x ∷ ys) (take-next ws i w less read)

one-more : (ws : List Waiting) (i : ℕ) (w : Waiting) (woken : List (ℕ × Reply)) (p : ℕ × Reply) → i < length ws
    → w ≡ get_or ws i w
    → woken ≡ map eidrm_for (take i ws)
    → p ≡ eidrm_for w
    → woken ++ p ∷ [] ≡ map eidrm_for (take (i + 1) ws)
one-more ws i w woken p inside read so_far says = rw (add-one, so_far, says) (sym (take-next ws i w inside read))

pub loop-waiter-preserved : goal.loop-waiter-preserved
loop-waiter-preserved c =
    let inside : c.loop-waiter.waiter-index < length c.args.waiters.now = omega arith
    in record {
      as_many = search rules;
      room = search rules;
      told = c.push_reserved.ensures.items
          ∙ one-more c.args.waiters.now c.loop-waiter.waiter-index c.waiter-item.result c.loop-waiter.woken.items
          c.refusal.result inside c.waiter-item.is c.loop-waiter.invariant.told c.refusal.ensures;
    }

pub returns : goal.returns
returns c =
    c.loop-waiter.invariant.told
    ∙ ap (map eidrm_for) (take_all c.loop-waiter.waiter-index c.args.waiters.now (omega arith))
