use Rattle.std.proofs.Common.{Some, None, refl}
use Rattle.node_serve.specs.Bodies.{body_of}
use Rattle.node_state.proofs.Holding.{deed-as-read}
use Rattle.node_state.proofs.state.State.keep.Goals as goal

pub returns-in-Some : goal.returns-in-Some
returns-in-Some c = record {
  body = body_of c.in-Some.body;
  read = deed-as-read c.args.deed c.as_slice.result.now c.in_ok-body.field-0 (Some c.in-Some.body) c.as_slice.ensures
      c.in_ok-body.ensures c.in-Some.is;
  after = c.in_ok-create-in-Some.ensures;
}

pub returns : goal.returns
returns c = (
  deed-as-read c.args.deed c.as_slice.result.now c.in_ok-body.field-0 None c.as_slice.ensures c.in_ok-body.ensures
      c.in-None.is,
  refl,
)
