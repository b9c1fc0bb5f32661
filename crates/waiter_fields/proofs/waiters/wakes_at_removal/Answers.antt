use Rattle.std.proofs.Common.{◌≡◌, ◌∙◌, ◌<◌, ◌++◌, ◌∷◌, [], ℕ, zero, suc, ◌+◌, List, map, length, take, get_or, sym, ap, add-one, arith, rules}
use Rattle.std.proofs.lemmas.List.{take_all}
use Rattle.pico_base.specs.declared.reply.Errno.TheVariants.{Eidrm}
use Rattle.pico_base.specs.declared.reply.Reply.TheVariants.{Fail}
use Rattle.waiting_model.specs.declared.callers.Waiting.{Waiting}
use Rattle.waiting_model.specs.declared.callers.Wake.{Wake}
use Rattle.waiting_model.specs.Waiters.{wake}
use Rattle.waiter_fields.proofs.waiters.wakes_at_removal.Goals as goal

abbrev told : Waiting → Wake
told w = wake w (Fail Eidrm)

take-next : (ws : List Waiting) (i : ℕ) (w : Waiting) → i < length ws → w ≡ get_or ws i w
    → map told (take (suc i) ws) ≡ map told (take i ws) ++ told w ∷ []
take-next [] i w inside read = absurd (omega arith)
take-next (x ∷ ws) zero w inside read = ap (λ (y : Waiting). told y ∷ []) (sym read)
take-next (x ∷ ws) (suc i) w inside read =
    let less : i < length ws = omega arith
    in ap (λ (ys : List Wake). told x ∷ ys) (take-next ws i w less read)

one-more : (ws : List Waiting) (i : ℕ) (w : Waiting) (woken : List Wake) (p : Wake) → i < length ws
    → w ≡ get_or ws i w
    → woken ≡ map told (take i ws)
    → p ≡ told w
    → woken ++ p ∷ [] ≡ map told (take (i + 1) ws)
one-more ws i w woken p inside read so_far says = rw (add-one, so_far, says) (sym (take-next ws i w inside read))

pub loop-waiter-preserved : goal.loop-waiter-preserved
loop-waiter-preserved c =
    let inside : c.loop-waiter.waiter-index < length c.args.waiters.now = omega arith
    in record {
      as_many = search rules;
      room = search rules;
      told = c.push_reserved.ensures.items
          ∙ one-more c.args.waiters.now c.loop-waiter.waiter-index c.waiter-item.result c.loop-waiter.wakes.items
          c.woken_with.result inside c.waiter-item.is c.loop-waiter.invariant.told c.woken_with.ensures;
    }

pub returns : goal.returns
returns c =
    c.loop-waiter.invariant.told ∙ ap (map told) (take_all c.loop-waiter.waiter-index c.args.waiters.now (omega arith))
