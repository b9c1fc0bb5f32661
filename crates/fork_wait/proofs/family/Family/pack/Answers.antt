use Rattle.std.proofs.Common.{sym}
use Rattle.std.proofs.lemmas.List.Elements.{All-from_recursion, All-same, recursion_from_All}
use Rattle.kernel_model.specs.Row.{EndedChild}
use Rattle.fork_wait.proofs.Bodies.{Small, Small-join}
use Rattle.fork_wait.proofs.family.Family.pack.Goals as goal

pub returns-clause-state : goal.returns-clause-state
returns-clause-state c =
    let f = c.self.inside in
    rw (← c.self.view_is) record {
      sound = c.self.invariant.sound;
      numbers =
          All-from_recursion Small _
          (Small-join f.living.items f.ended.items
          (recursion_from_All Small f.living.items
          (All-same Small f.living.items c.deref.result.now
          (sym c.deref.ensures.value) c.in_ok-write_numbers.ensures.numbers))
          (recursion_from_All (λ (e : EndedChild). Small e.pid) f.ended.items
          (All-same (λ (e : EndedChild). Small e.pid) f.ended.items c.deref-2.result.now
          (sym c.deref-2.ensures.value) c.in_ok-write_ended.ensures.numbers)));
    }
