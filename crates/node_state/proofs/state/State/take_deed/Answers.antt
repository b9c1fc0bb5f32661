use Rattle.std.proofs.Common.{◌∙◌, ap, refl}
use Rattle.std.specs.Option.{option_map}
use Rattle.node_serve.specs.Bodies.{body_of}
use Rattle.node_serve.proofs.KernelLemmas.{bodies-get}
use Rattle.node_state.proofs.Holding.{bodies-without, packed-as-written}
use Rattle.node_state.proofs.state.State.take_deed.Goals as goal

pub returns : goal.returns
returns c =
    let out = c.in_ok-packed.ensures in
    let bodies = c.args.self.now.deeds.bodies in
    record {
      body = body_of out.body;
      held = bodies-get bodies c.args.name ∙ ap (option_map body_of) out.held;
      packed = packed-as-written c.args.name out.body c.in_ok-packed.packed out.packed;
      after = rw (out.after, c.unwatch.ensures, bodies-without bodies c.args.name) refl;
    }
