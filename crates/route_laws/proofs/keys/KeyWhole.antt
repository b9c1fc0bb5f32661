-- A get by a key is carried out in the kernel in which callers wait, too: it waits for nobody, and wakes nobody.
use Rattle.std.proofs.Common.{◌≡◌, ℕ, Bool, false, List, ◌∷◌, ap}
use Rattle.pico_base.specs.declared.call.Home.TheVariants as homes
use Rattle.pico_base.specs.declared.numbers.Name.{Name}
use Rattle.pico_base.specs.declared.reply.Reply.{Reply}
use Rattle.pico_base.specs.declared.call.Call.{Call}
use Rattle.pico_base.specs.declared.script.Script.{Script}
use Rattle.pico_base.specs.Home.{home_of}
use Rattle.rpc_frame.specs.declared.asked.Asked.{Asked}
use Rattle.kernel_model.specs.Effect.{reply_alone}
use Rattle.kernel_model.specs.Kernel.{Kernel}
use Rattle.waiting_model.specs.Calls.{may_park}
use Rattle.waiting_model.specs.Linear.{counts_waiters}
use Rattle.waiting_laws.proofs.Leads.{StepsAlike, is_of_process, own-leads}
use Rattle.node_model.specs.declared.held.Held.{Held}
use Rattle.node_model.specs.declared.held.Held.TheVariants.{Request}
use Rattle.node_model.specs.Bodies.{Body, bare, body_in, waiters_of}
use Rattle.world_model.specs.World.{World}
use Rattle.entry_laws.specs.Entering.{Makes}
use Rattle.world_laws.specs.Cancels.{owing_of}
use Rattle.world_laws.specs.Invariant.{HoldsOwing}
use Rattle.world_laws.specs.Places.{Beside}
use Rattle.world_laws.specs.Wholes.{HasWhole}
use Rattle.rule_laws.proofs.own.Bodies.{bodies-kept}
use Rattle.route_laws.proofs.Entered.{whole-of}
use Rattle.route_laws.proofs.hand.HandMoves.{IsCallOf}
use Rattle.route_laws.proofs.keys.KeyOutcomes.{GetsQueue, GetsSet, IsKeyed}
use Rattle.route_laws.proofs.served.OneReply.{in-whole, one-lives, one-may}
use Rattle.route_laws.proofs.served.Whole.{WholeStep}
use Rattle.route_laws.proofs.served.WholeSteps.{does-at-once, no-child}

parks-not : (call : Call) → IsKeyed call → may_park call ≡ false
parks-not call (GetsQueue key create excl e) = ap may_park e
parks-not call (GetsSet key count create excl e) = ap may_park e

counts-not : (call : Call) → IsKeyed call → counts_waiters call ≡ false
counts-not call (GetsQueue key create excl e) = ap counts_waiters e
counts-not call (GetsSet key count create excl e) = ap counts_waiters e

module _ (script : Script) (w : World) (asked : Asked) (rest : List Held) (p : ℕ) (strikes : Bool) (b : Beside)
    (holds : HoldsOwing script w (Request asked ∷ rest) (owing_of p strikes) b) (asks : IsCallOf script asked)
    (on : home_of asked.pid asked.call ≡ homes.Keys) (is : IsKeyed asked.call) (reply : Reply) (next : Kernel)
    (makes : Makes b.kernel asked.pid asked.call reply next) (body : Name → Body)
    (parts : (m : Name) → bare (body m) ≡ body_in next m)
    (same : (m : Name) → waiters_of (body m) ≡ waiters_of (b.body m)) where
  whole-was : HasWhole w b
  whole-was = whole-of p strikes w b holds.whole

  steps : StepsAlike b.whole asked.pid asked.call reply next
  steps =
      own-leads b.whole b.kernel next asked.pid (in-whole script w asked rest p strikes b holds whole-was asks).alive
      asked.call
      reply whole-was.sound whole-was.alike (ap is_of_process on)
      (one-lives script w asked rest p strikes b holds whole-was asks)
      (one-may script w asked rest p strikes b holds whole-was asks)
      (no-child (in-whole script w asked rest p strikes b holds whole-was asks).alive asked.call
      (parks-not asked.call is))
      (does-at-once b.kernel next 1 asked.pid asked.call reply (counts-not asked.call is) (parks-not asked.call is)
      (makes.leads 1))

  pub key-whole : WholeStep b.whole asked.pid asked.call (reply_alone reply) next body
  key-whole =
      record {
        next = steps.next;
        step = steps.step;
        bodies_are = λ alike. bodies-kept b.whole steps.next next steps.alike steps.keeps b.body body whole-was.bodies
            parts same;
      }
