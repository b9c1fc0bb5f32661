use Rattle.std.proofs.Common.{◌≡◌, ◌++◌, SFits, w32, arith, rules}
use Rattle.std.proofs.lemmas.Int.{to_z-of_z}
use Rattle.sysv_msg.specs.Body.{message_field}
use Rattle.sysv_msg.proofs.Packing.{begins_packing, ends_packing, has_packed_all, next_there, packs_more}
use Rattle.sysv_msg.proofs.pack.push_linked.Goals as goal

pub loop-init : goal.loop-init
loop-init c =
    begins_packing c.args.links.now.nodes c.first-at.result c.args.out.now.items c.first-at.ensures.slot

pub value-requires : goal.value-requires
value-requires c =
    next_there c.args.links.now.nodes c.in-Some.slot c.loop.counter c.loop.at c.args.out.now.items
    c.loop.out.items c.have_own_slots.ensures c.in-Some.is c.loop.invariant

pub class-requires : goal.class-requires
class-requires c =
    next_there c.args.links.now.nodes c.in-Some.slot c.loop.counter c.loop.at c.args.out.now.items
    c.loop.out.items c.have_own_slots.ensures c.in-Some.is c.loop.invariant

pub next-at-requires : goal.next-at-requires
next-at-requires c =
    next_there c.args.links.now.nodes c.in-Some.slot c.loop.counter c.loop.at c.args.out.now.items
    c.loop.out.items c.have_own_slots.ensures c.in-Some.is c.loop.invariant

pub loop-preserved : goal.loop-preserved
loop-preserved c =
    let fits : SFits w32 c.class.result = search rules in
    let packed : c.push_message.new.out.items ≡ c.loop.out.items
    ++ message_field (record { class = c.class.result; text = c.value.result.now }) =
    rw (to_z-of_z w32 c.class.result fits, c.as_slice.ensures) at c.in_ok-push_message.ensures in
    packs_more c.args.links.now.nodes c.in-Some.slot c.loop.counter c.loop.at c.next-at.result
    c.args.out.now.items c.loop.out.items c.push_message.new.out.items c.class.result c.value.result.now
    c.have_own_slots.ensures c.in-Some.is c.class.ensures c.value.ensures packed
    c.next-at.ensures.slot c.loop.invariant

pub returns-in_default : goal.returns-in_default
returns-in_default c =
    ends_packing c.args.links.now.nodes c.loop.counter c.loop.at c.args.out.now.items
    c.loop.out.items c.in_default.is c.loop.invariant

pub returns : goal.returns
returns c =
    let all = c.loop-test.false in
    let len = c.len-end.ensures in
    has_packed_all c.args.links.now.nodes c.loop.counter c.loop.at c.args.out.now.items
    c.loop.out.items (omega arith) c.loop.invariant
