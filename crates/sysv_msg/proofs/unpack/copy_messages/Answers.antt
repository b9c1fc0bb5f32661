use Rattle.std.proofs.Common.{◌≡◌, ◌++◌, ◌∷◌, [], SFits, w32, refl, rules, arith}
use Rattle.std.proofs.lemmas.Int.{to_z-of_z}
use Rattle.pico_base.specs.declared.fault.UnpackFault.TheVariants.{NotABody}
use Rattle.kernel_model.specs.Queue.{Message}
use Rattle.frame_bytes.specs.Readers.{many}
use Rattle.frame_bytes.proofs.Loop.{ends, is_done}
use Rattle.sysv_msg.specs.Linked.{messages_of}
use Rattle.sysv_msg.specs.Reading.{message_at}
use Rattle.sysv_msg.proofs.Copying.{Head, begins-copying, copies-on}
use Rattle.sysv_msg.proofs.unpack.copy_messages.Goals as goal

pub loop-init : goal.loop-init
loop-init c =
    let room = c.requires.room in
    record {
      copied = begins-copying c.args.count c.args.bytes.now c.args.into.now.nodes c.requires.nothing;
      small = omega arith;
      room = omega (arith, room);
    }

pub returns-in_default-clause-read : goal.returns-in_default-clause-read
returns-in_default-clause-read c =
    ends Message message_at NotABody (messages_of c.loop.into.nodes) c.args.count c.loop.counter c.loop.rest.now
    (many message_at c.args.count c.args.bytes.now) c.loop-test.true c.in_default.ensures.read
    c.loop.invariant.copied.read

pub loop-preserved : goal.loop-preserved
loop-preserved c =
    let fits : SFits w32 c.in-Some.class = search rules in
    let n : Head = record {
      slot = c.push_reserved.result;
      class = c.in-Some.class;
      value = c.in-Some.text.now;
    } in
    let is : c.push_reserved.new.self.nodes ≡ c.loop.into.nodes ++ n ∷ [] =
    rw (c.push_reserved.ensures.nodes, to_z-of_z w32 c.in-Some.class fits, c.in_ok-from_slice.ensures) refl in
    let small = c.loop.invariant.small in
    let room = c.loop.invariant.room in
    let within = c.in-Some.ensures.within in
    let left = c.push_reserved.ensures.spare in
    let lt = c.loop-test.true in
    record {
      copied = copies-on c.args.count c.loop.counter c.loop.size c.args.bytes.now c.loop.rest.now
          c.in-Some.after.now c.loop.into.nodes c.push_reserved.new.self.nodes n c.loop-test.true
          c.in-Some.ensures.read is c.loop.invariant.copied;
      small = omega (arith, small, within);
      room = omega (arith, room, left, lt);
    }

pub returns-clause-read : goal.returns-clause-read
returns-clause-read c =
    is_done Message message_at (messages_of c.loop.into.nodes) c.args.count c.loop.counter c.loop.rest.now
    (many message_at c.args.count c.args.bytes.now) c.loop-test.false c.loop.invariant.copied.read
