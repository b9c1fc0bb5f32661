use Rattle.std.proofs.Common.{◌≡◌, rules}
use Rattle.kernel_model.specs.Row.{Family}
use Rattle.fork_wait.specs.Children.{members_of}
use Rattle.fork_wait.specs.Spelling.{HasBytes, family_bytes}
use Rattle.fork_wait.proofs.Bodies.{one-family}
use Rattle.fork_wait.proofs.family.Family.unpack.Goals as goal

pub returns-clause-only : goal.returns-clause-only
returns-clause-only c f spelled has =
    let read : Family = members_of c.in_ok-with_room.field-0.items c.in_ok-with_room-2.field-0.items in
    let found : (c.args.bytes.now ≡ family_bytes read) × HasBytes read = search rules in
    one-family c.args.bytes.now read f found.0 found.1 spelled has
