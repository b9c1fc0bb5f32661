use Rattle.std.proofs.Common.{◌≡◌, ◌∙◌, ℕ, List, Some, None, SFits, w32, of_z, nat_eq, rules, sym, ap}
use Rattle.kernel_model.specs.Queue.{Message, select}
use Rattle.sysv_msg.specs.Packed.{front_of, messages_in}
use Rattle.sysv_msg.specs.Reading.{message_at, message_of}
use Rattle.sysv_msg.proofs.PackedMessages.{asks-front, asks-none, front-there, none-there, on-true, same-number}
use Rattle.sysv_msg.proofs.packed.PackedQueue.is_in_front.Goals as goal

pub returns-in-Some : goal.returns-in-Some
returns-in-Some c =
    let range = c.ranges.class in
    let fits : SFits w32 c.in-Some.kind = search rules in
    let here : SFits w32 c.args.class = search rules in
    let n : ℕ = c.self.inside.count in
    let b : List ℕ = c.self.inside.messages in
    let ms : List Message = messages_in n b in
    let m : Message = message_of c.in-Some.kind c.in-Some.field-0-1.now in
    let read : message_at b ≡ Some (m, c.in-Some.field-0-2.now) =
    ap message_at (sym c.as_slice.ensures) ∙ c.in-Some.ensures.read in
    let f = front-there n c.self.inside.size b c.in-Some.field-0-2.now ms m c.self.invariant.1 read in
    rw (← c.self.view_is)
    (on-true (nat_eq (of_z w32 c.in-Some.kind) (of_z w32 c.args.class)) (select ms c.args.class ≡ front_of ms)
    (λ same. asks-front ms m f.others c.args.class f.is
    (sym (same-number c.in-Some.kind c.args.class fits here same)) c.self.invariant.1.each))

pub returns-in-None : goal.returns-in-None
returns-in-None c =
    let n : ℕ = c.self.inside.count in
    let b : List ℕ = c.self.inside.messages in
    let ms : List Message = messages_in n b in
    let read : message_at b ≡ None = ap message_at (sym c.as_slice.ensures) ∙ c.in-None.ensures.read in
    rw (← c.self.view_is)
    (asks-none ms c.args.class (none-there n c.self.inside.size b ms c.self.invariant.1 read))
