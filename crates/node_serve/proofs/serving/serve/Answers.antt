use Rattle.node_serve.specs.Callers.{waiting_with}
use Rattle.node_serve.specs.Serving.{Serves, ServesAsDefined, ServesAsTheKernel}
use Rattle.node_serve.proofs.Defined.{serves-as-defined}
use Rattle.node_serve.proofs.InKernel.{serves-as-the-kernel}
use Rattle.node_serve.proofs.KernelLemmas.{if-ok}
use Rattle.node_serve.proofs.serving.serve.Goals as goal

pub returns-clause-defined : goal.returns-clause-defined
returns-clause-defined c =
    let who = waiting_with c.args.who.now c.args.call.now
    in if-ok (Serves c.args.deeds.now.bodies who c.carry_out.new.deeds.bodies)
    (ServesAsDefined c.args.deeds.now.bodies who c.carry_out.new.deeds.bodies) c.carry_out.result
    (serves-as-defined c.args.deeds.now.bodies who c.requires c.carry_out.new.deeds.bodies) c.carry_out.ensures.ok

pub returns-clause-kernel : goal.returns-clause-kernel
returns-clause-kernel c =
    let who = waiting_with c.args.who.now c.args.call.now
    in if-ok (Serves c.args.deeds.now.bodies who c.carry_out.new.deeds.bodies)
    (ServesAsTheKernel c.args.deeds.now.bodies who c.carry_out.new.deeds.bodies) c.carry_out.result
    (serves-as-the-kernel c.args.deeds.now.bodies who c.carry_out.new.deeds.bodies) c.carry_out.ensures.ok
