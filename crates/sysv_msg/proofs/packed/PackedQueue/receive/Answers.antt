use Rattle.std.proofs.Common.{◌≡◌, ◌∙◌, ◌-◌, ℕ, List, length, Some, None, SFits, w32, of_z, to_z, take, rules, sym, ap, subst}
use Rattle.std.proofs.lemmas.Int.{to_z-of_z}
use Rattle.kernel_model.specs.Queue.{Message, Queue, select}
use Rattle.sysv_msg.specs.Packed.{Holds, front_of, messages_in}
use Rattle.sysv_msg.specs.Reading.{message_at, message_of, queue_of}
use Rattle.sysv_msg.proofs.PackedMessages.{front-there, holds-read, messages-are, none-there, receives-first, receives-long, receives-none}
use Rattle.sysv_msg.proofs.packed.PackedQueue.receive.Goals as goal

pub returns-in_default-clause-refused : goal.returns-in_default-clause-refused
returns-in_default-clause-refused c =
    let b : List ℕ = c.self.inside.messages in
    let ms : List Message = messages_in c.self.inside.count b in
    let read : message_at b ≡ None = ap message_at (sym c.as_slice.ensures) ∙ c.in_default.ensures.read in
    let none = none-there c.self.inside.count c.self.inside.size b ms c.self.invariant.1 read in
    let front : select ms c.args.class ≡ front_of ms =
    subst (λ (q : Queue). select q.messages c.args.class ≡ front_of q.messages) (sym c.self.view_is) c.requires in
    rw (← c.self.view_is)
    (receives-none (queue_of c.self.inside.qbytes c.self.inside.last_sender c.self.inside.last_receiver ms)
    c.args.pid c.args.class c.args.size c.args.noerror none front)

pub returns-then-not-fits-clause-refused : goal.returns-then-not-fits-clause-refused
returns-then-not-fits-clause-refused c =
    let b : List ℕ = c.self.inside.messages in
    let ms : List Message = messages_in c.self.inside.count b in
    let m : Message = message_of c.in-Some.kind c.in-Some.text.now in
    let read : message_at b ≡ Some (m, c.in-Some.rest.now) =
    ap message_at (sym c.as_slice.ensures) ∙ c.in-Some.ensures.read in
    let f = front-there c.self.inside.count c.self.inside.size b c.in-Some.rest.now ms m c.self.invariant.1 read in
    let front : select ms c.args.class ≡ front_of ms =
    subst (λ (q : Queue). select q.messages c.args.class ≡ front_of q.messages) (sym c.self.view_is) c.requires in
    rw (← c.self.view_is)
    (receives-long (queue_of c.self.inside.qbytes c.self.inside.last_sender c.self.inside.last_receiver ms)
    c.args.pid c.args.class c.args.size c.args.noerror m f.others f.is front
    (sym c.fits.ensures ∙ c.if-not-fits.true))

pub keep-requires : goal.keep-requires
keep-requires c =
    let b : List ℕ = c.self.inside.messages in
    let ms : List Message = messages_in c.self.inside.count b in
    let m : Message = message_of c.in-Some.kind c.in-Some.text.now in
    let read : message_at b ≡ Some (m, c.in-Some.rest.now) =
    ap message_at (sym c.as_slice.ensures) ∙ c.in-Some.ensures.read in
    (front-there c.self.inside.count c.self.inside.size b c.in-Some.rest.now ms m c.self.invariant.1 read).shorter

pub overflow_sub-self : goal.overflow_sub-self
overflow_sub-self c =
    let b : List ℕ = c.self.inside.messages in
    let ms : List Message = messages_in c.self.inside.count b in
    let m : Message = message_of c.in-Some.kind c.in-Some.text.now in
    let read : message_at b ≡ Some (m, c.in-Some.rest.now) =
    ap message_at (sym c.as_slice.ensures) ∙ c.in-Some.ensures.read in
    (front-there c.self.inside.count c.self.inside.size b c.in-Some.rest.now ms m c.self.invariant.1 read).some

pub overflow_sub-self-2 : goal.overflow_sub-self-2
overflow_sub-self-2 c =
    let b : List ℕ = c.self.inside.messages in
    let ms : List Message = messages_in c.self.inside.count b in
    let m : Message = message_of c.in-Some.kind c.in-Some.text.now in
    let read : message_at b ≡ Some (m, c.in-Some.rest.now) =
    ap message_at (sym c.as_slice.ensures) ∙ c.in-Some.ensures.read in
    (front-there c.self.inside.count c.self.inside.size b c.in-Some.rest.now ms m c.self.invariant.1 read).light

pub invariant_of-self : goal.invariant_of-self
invariant_of-self c =
    let n : ℕ = c.self.inside.count in
    let b : List ℕ = c.self.inside.messages in
    let ms : List Message = messages_in n b in
    let m : Message = message_of c.in-Some.kind c.in-Some.text.now in
    let read : message_at b ≡ Some (m, c.in-Some.rest.now) =
    ap message_at (sym c.as_slice.ensures) ∙ c.in-Some.ensures.read in
    let f = front-there n c.self.inside.size b c.in-Some.rest.now ms m c.self.invariant.1 read in
    let kept : c.keep.new.self ≡ c.in-Some.rest.now = c.keep.ensures ∙ f.rest_is in (
      c.self.invariant.0,
      holds-read (n - 1) (c.self.inside.size - length c.in-Some.text.now) c.keep.new.self f.others
          (subst (λ (r : List ℕ). Holds (n - 1) (c.self.inside.size - length c.in-Some.text.now) r f.others) (sym kept)
          f.left),
    )

pub returns-clause-taken : goal.returns-clause-taken
returns-clause-taken c =
    let fits : SFits w32 c.in-Some.kind = search rules in
    let n : ℕ = c.self.inside.count in
    let b : List ℕ = c.self.inside.messages in
    let ms : List Message = messages_in n b in
    let m : Message = message_of c.in-Some.kind c.in-Some.text.now in
    let read : message_at b ≡ Some (m, c.in-Some.rest.now) =
    ap message_at (sym c.as_slice.ensures) ∙ c.in-Some.ensures.read in
    let f = front-there n c.self.inside.size b c.in-Some.rest.now ms m c.self.invariant.1 read in
    let kept : c.keep.new.self ≡ c.in-Some.rest.now = c.keep.ensures ∙ f.rest_is in
    let left : messages_in (n - 1) c.keep.new.self ≡ f.others =
    messages-are (n - 1) (c.self.inside.size - length c.in-Some.text.now) c.keep.new.self f.others
    (subst (λ (r : List ℕ). Holds (n - 1) (c.self.inside.size - length c.in-Some.text.now) r f.others) (sym kept)
    f.left) in
    let front : select ms c.args.class ≡ front_of ms =
    subst (λ (q : Queue). select q.messages c.args.class ≡ front_of q.messages) (sym c.self.view_is) c.requires in
    rw (← c.self.view_is)
    (receives-first (queue_of c.self.inside.qbytes c.self.inside.last_sender c.self.inside.last_receiver ms)
    c.args.pid c.args.class c.args.size c.args.noerror m f.others (messages_in (n - 1) c.keep.new.self)
    (to_z w32 (of_z w32 c.in-Some.kind)) c.cut.result f.is front
    (sym c.fits.ensures ∙ c.if-not-fits.false) left (to_z-of_z w32 c.in-Some.kind fits)
    (c.cut.ensures ∙ ap (λ (t : List ℕ). take c.args.size t) c.in-Ok.ensures))
