use Rattle.std.proofs.Common.{◌≡◌, ◌∙◌, ◌+◌, ◌≤◌, ◌++◌, ◌∷◌, [], ℕ, pos, ◌≤ℤ◌, List, length, SFits, w32, true, rules, sym, ap, subst, arith}
use Rattle.std.proofs.lemmas.Int.{to_z-of_z}
use Rattle.kernel_model.specs.Queue.{Message, Queue, bytes_of, has_room, max_text}
use Rattle.sysv_msg.specs.Body.{message_field}
use Rattle.sysv_msg.specs.Limits.{IsSendable}
use Rattle.sysv_msg.specs.Packed.{messages_in}
use Rattle.sysv_msg.specs.Reading.{message_of, queue_of}
use Rattle.sysv_msg.proofs.PackedMessages.{holds-more, holds-read, is-positive, messages-are, room-there, sends}
use Rattle.sysv_msg.proofs.packed.PackedQueue.send.Goals as goal

-- where memory is refused nothing changes
pub invariant_of-self : goal.invariant_of-self
invariant_of-self c = rw c.in_default.ensures.err c.self.invariant

pub invariant_of-self-2 : goal.invariant_of-self-2
invariant_of-self-2 c =
    let fits : SFits w32 c.args.class = search rules in
    let n : ℕ = c.self.inside.count in
    let s : ℕ = c.self.inside.size in
    let b : List ℕ = c.self.inside.messages in
    let ms : List Message = messages_in n b in
    let m : Message = message_of c.args.class c.args.text in
    let q : Queue = queue_of c.self.inside.qbytes c.self.inside.last_sender c.self.inside.last_receiver ms in
    let more : c.push.new.self ≡ b ++ message_field m =
    rw (to_z-of_z w32 c.args.class fits, c.as_slice.ensures) at c.in-Ok.ensures.pushed in
    let told : has_room c.args.self.now c.args.text ≡ true =
    rw c.len-2.ensures at (sym c.has_room.ensures ∙ c.if-not-has_room.false) in
    let room : has_room q c.args.text ≡ true =
    subst (λ (k : Queue). has_room k c.args.text ≡ true) (sym c.self.view_is) told in
    let there = room-there (bytes_of ms) (length c.args.text) c.self.inside.qbytes (length ms) room in
    let limit = c.self.invariant.0 in
    let positive : pos 1 ≤ℤ c.args.class =
    is-positive c.args.class (rw (to_z-of_z w32 c.args.class fits) at c.if-class-lt1.false) in
    let short = c.if-len-gt-MAX_TEXT.false in
    let sendable : IsSendable m = record {
      class = positive;
      fits = c.ranges.class;
      text = omega (arith, short, c.len.ensures);
    } in
    let h = holds-more n s b ms m c.self.invariant.1 sendable there.1 (omega (arith, there.0, limit)) in (
      c.self.invariant.0,
      rw (c.len-3.ensures, more)
          (holds-read (n + 1) (s + length c.args.text) (b ++ message_field m) (ms ++ m ∷ []) h),
    )

pub returns-clause-sent : goal.returns-clause-sent
returns-clause-sent c =
    let fits : SFits w32 c.args.class = search rules in
    let n : ℕ = c.self.inside.count in
    let s : ℕ = c.self.inside.size in
    let b : List ℕ = c.self.inside.messages in
    let ms : List Message = messages_in n b in
    let m : Message = message_of c.args.class c.args.text in
    let q : Queue = queue_of c.self.inside.qbytes c.self.inside.last_sender c.self.inside.last_receiver ms in
    let more : c.push.new.self ≡ b ++ message_field m =
    rw (to_z-of_z w32 c.args.class fits, c.as_slice.ensures) at c.in-Ok.ensures.pushed in
    let told : has_room c.args.self.now c.args.text ≡ true =
    rw c.len-2.ensures at (sym c.has_room.ensures ∙ c.if-not-has_room.false) in
    let room : has_room q c.args.text ≡ true =
    subst (λ (k : Queue). has_room k c.args.text ≡ true) (sym c.self.view_is) told in
    let there = room-there (bytes_of ms) (length c.args.text) c.self.inside.qbytes (length ms) room in
    let limit = c.self.invariant.0 in
    let positive : pos 1 ≤ℤ c.args.class =
    is-positive c.args.class (rw (to_z-of_z w32 c.args.class fits) at c.if-class-lt1.false) in
    let few = c.if-len-gt-MAX_TEXT.false in
    let short : length c.args.text ≤ max_text = omega (arith, few, c.len.ensures) in
    let sendable : IsSendable m = record { class = positive; fits = c.ranges.class; text = short } in
    let h = holds-more n s b ms m c.self.invariant.1 sendable there.1 (omega (arith, there.0, limit)) in
    let next : messages_in (n + 1) c.push.new.self ≡ ms ++ m ∷ [] =
    ap (messages_in (n + 1)) more
    ∙ messages-are (n + 1) (s + length c.args.text) (b ++ message_field m) (ms ++ m ∷ []) h in
    rw (← c.self.view_is)
    (sends q c.args.pid c.args.class c.args.text (messages_in (n + 1) c.push.new.self) positive short room
    next)
