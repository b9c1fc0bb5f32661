use Rattle.std.proofs.Common.{◌≡◌, ◌<◌, length, arith, rules}
use Rattle.std.proofs.lemmas.List.{length-map}
use Rattle.index_links.specs.Nodes.{Node}
use Rattle.waiting_model.specs.declared.callers.Waiting.{Waiting}
use Rattle.sysv_sem.specs.Waiters.{held, waiters_in, try_steps}
use Rattle.sysv_sem.proofs.Rounds.{settles_more, settles_done}
use Rattle.sysv_sem.proofs.settling.settle.Goals as goal

pub returns-in-None : goal.returns-in-None
returns-in-None c =
    settles_done try_steps (held c.args.row.now c.args.waiters.now.nodes)
    (held c.loop-round.row c.loop-round.waiters.nodes) (held c.wake_first.new.row c.wake_first.new.waiters.nodes)
    c.loop-round.wakes.items _ c.loop-round.invariant.settles c.in-None.ensures

pub loop-round-preserved : goal.loop-round-preserved
loop-round-preserved c =
    let many : length (waiters_in c.args.waiters.now.nodes) ≡ length c.args.waiters.now.nodes =
    length-map c.args.waiters.now.nodes (λ (n : Node Waiting). n.value) in
    let inside : c.loop-round.round < length (waiters_in c.args.waiters.now.nodes) =
    omega (arith, c.len-all.ensures, many) in
    record {
      as_many = search rules;
      room = search rules;
      settles = rw c.push_reserved.ensures.items
          (settles_more try_steps (held c.args.row.now c.args.waiters.now.nodes)
          (held c.loop-round.row c.loop-round.waiters.nodes)
          (held c.wake_first.new.row c.wake_first.new.waiters.nodes) c.loop-round.wakes.items
          (length (waiters_in c.args.waiters.now.nodes)) c.loop-round.round c.in-Some.wake inside
          c.loop-round.invariant.settles c.in-Some.ensures);
    }
