use Rattle.std.proofs.Common.{◌≡◌, ◌<◌, ◌∙◌, true, ◌||◌, nat_le, length, Some, slice_get, refl, sym, arith, rules, SFits, w32, inl, inr}
use Rattle.std.specs.VecDeque.{deque_len}
use Rattle.std.proofs.lemmas.Int.{to_z-of_z}
use Rattle.std.proofs.lemmas.Option.{slice_get_read}
use Rattle.kernel_model.specs.Queue.{Queue, select}
use Rattle.mono_kernel.proofs.QueueLemmas.{receive-too_long, receive-takes, is_cut_or_fits}
use Rattle.mono_kernel.proofs.queue.MessageQueue.receive.Goals as goal
use Rattle.mono_kernel.proofs.queue.MessageQueue.receive.Goals.{else-len-size-via-then-len-size+else-not-noerror, else-len-size-via-else-len-size}

pub returns-then-not-noerror-clause-received : goal.returns-then-not-noerror-clause-received
returns-then-not-noerror-clause-received c =
    let fits : SFits w32 c.args.class = search rules
    in let q : Queue = record {
      messages = c.self.inside.messages.items;
      qbytes = c.self.inside.qbytes;
      last_sender =
          c.self.inside.last_sender;
      last_receiver = c.self.inside.last_receiver;
    }
    in let counted : deque_len c.self.inside.messages ≡ length c.self.inside.messages.items = search rules
    in let chosen : select c.self.inside.messages.items c.args.class ≡ Some c.in-Some.place =
    sym (simp to_z-of_z at c.selected_place.ensures) ∙ c.in-Some.is
    in let there : slice_get c.self.inside.messages.items c.in-Some.place ≡ Some c.in-Some-get.found.now =
    slice_get_read c.self.inside.messages.items _ _ _ counted
    (c.in-Some-get.ensures.variant.0 refl) c.in-Some-get.ensures.lookup
    in let long : c.args.size < length c.in-Some-get.found.now.text = omega arith
    in rw (← c.self.view_is) (
      receive-too_long q c.args.pid c.args.class c.args.size c.args.noerror c.in-Some.place c.in-Some-get.found.now
          chosen there long c.if-not-noerror.true,
      refl,
    )

pub returns-in-Some-remove-clause-received : goal.returns-in-Some-remove-clause-received
returns-in-Some-remove-clause-received c =
    let fits : SFits w32 c.args.class = search rules
    in let q : Queue = record {
      messages = c.self.inside.messages.items;
      qbytes = c.self.inside.qbytes;
      last_sender =
          c.self.inside.last_sender;
      last_receiver = c.self.inside.last_receiver;
    }
    in let counted : deque_len c.self.inside.messages ≡ length c.self.inside.messages.items = search rules
    in let chosen : select c.self.inside.messages.items c.args.class ≡ Some c.in-Some.place =
    sym (simp to_z-of_z at c.selected_place.ensures) ∙ c.in-Some.is
    in let seen : slice_get c.self.inside.messages.items c.in-Some.place ≡ Some c.in-Some-get.found.now =
    slice_get_read c.self.inside.messages.items _ _ _ counted
    (c.in-Some-get.ensures.variant.0 refl) c.in-Some-get.ensures.lookup
    in let there : slice_get c.self.inside.messages.items c.in-Some.place ≡ Some c.in-Some-remove.message =
    slice_get_read c.self.inside.messages.items _ _ _ counted
    (c.in-Some-remove.ensures.variant.0 refl) c.in-Some-remove.ensures.value
    in let same : length c.in-Some-remove.message.text ≡ c.len-len.result = cc
    in let may : (nat_le (length c.in-Some-remove.message.text) c.args.size || c.args.noerror) ≡ true =
    elim c.else-len-size.branch [
      | else-len-size-via-then-len-size+else-not-noerror w ↦ is_cut_or_fits _ c.args.size c.args.noerror
          (inr (cc w.if-not-noerror.false))
      | else-len-size-via-else-len-size w ↦ is_cut_or_fits
          (length c.in-Some-remove.message.text) c.args.size c.args.noerror (inl (omega arith))
    ]
    in rw (← c.self.view_is, c.in-Some-remove.ensures.items, c.cut.ensures)
    (receive-takes q c.args.pid c.args.class c.args.size c.args.noerror c.in-Some.place c.in-Some-remove.message chosen
    there may)
