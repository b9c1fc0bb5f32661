-- A process's body is the kernel's part: nobody waits at it.
use Rattle.std.proofs.Common.{◌≡◌, ℕ, List, None, Option, Some, [], ap, refl, sym, ◌∙◌}
use Rattle.pico_base.specs.declared.numbers.Name.TheVariants.{Proc, Msg, Sem}
use Rattle.pico_base.specs.declared.script.Script.{Script}
use Rattle.pico_base.specs.declared.numbers.Name.{Name}
use Rattle.number_maps.specs.Maps.{get}
use Rattle.kernel_model.specs.Kernel.{Kernel, Process}
use Rattle.kernel_model.specs.Kernel as kernel
use Rattle.node_model.specs.declared.held.Held.{Held}
use Rattle.node_model.specs.Bodies.{body_in, process_body, waiters_of}
use Rattle.world_model.specs.World.{World}
use Rattle.world_laws.specs.Cancels.{Owing}
use Rattle.world_laws.specs.Places.{Beside}
use Rattle.world_laws.specs.Sights.{is_born_in}
use Rattle.world_laws.specs.Names.{NameHolds, name_sight}
use Rattle.world_laws.specs.Invariant.{HoldsOwing}
use Rattle.rule_laws.proofs.own.Bodies.{process-body-is, process_bodies}

-- the body of a process beside the world is the kernel's part of it
pub process-part : (script : Script) (w : World) (hand : List Held) {owes : Owing} (b : Beside) (pid : ℕ)
    → HoldsOwing script w hand owes b → b.body (Proc pid) ≡ body_in b.kernel (Proc pid)
process-part script w hand b pid holds =
    let known : NameHolds script b.pids (is_born_in w) (Proc pid) (name_sight script w hand b (Proc pid)) =
    holds.names (Proc pid)
    in process-body-is b.kernel (b.body (Proc pid)) pid known.parts

waits-nowhere : (o : Option Process) → waiters_of (process_body o) ≡ []
waits-nowhere None = refl
waits-nowhere (Some (kernel.Living alive)) = refl
waits-nowhere (Some (kernel.Ended ending)) = refl
waits-nowhere (Some kernel.Gone) = refl

-- With processes' bodies of another kernel those who wait are the same.
pub waiters-kept : (script : Script) (w : World) (hand : List Held) {owes : Owing} (b : Beside) (next : Kernel)
    → HoldsOwing script w hand owes b → (name : Name)
    → waiters_of (process_bodies next b.body name) ≡ waiters_of (b.body name)
waiters-kept script w hand b next holds (Proc pid) =
    waits-nowhere (get next.processes pid)
    ∙ sym (ap waiters_of (process-part script w hand b pid holds) ∙ waits-nowhere (get b.kernel.processes pid))
waiters-kept script w hand b next holds (Msg id) = refl
waiters-kept script w hand b next holds (Sem id) = refl
