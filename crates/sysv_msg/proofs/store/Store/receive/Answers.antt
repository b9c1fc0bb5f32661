use Rattle.std.proofs.Common.{◌≡◌, ◌+◌, ◌∙◌, ℕ, List, length, sym, ap, arith}
use Rattle.std.specs.Prelude.{remove}
use Rattle.std.proofs.lemmas.Int.{to_z-of_z}
use Rattle.index_links.specs.Nodes.{Node}
use Rattle.kernel_model.specs.Queue.{bytes_of}
use Rattle.sysv_msg.specs.Linked.{message_of, messages_of, IsSelected}
use Rattle.sysv_msg.specs.Reading.{queue_of}
use Rattle.sysv_msg.proofs.Receiving.{bytes_removed, within_removed}
use Rattle.sysv_msg.proofs.Slots.{node_value}
use Rattle.sysv_msg.proofs.store.Store.receive.Goals as goal

pub overflow_sub-self : goal.overflow_sub-self
overflow_sub-self c =
    let range = c.ranges.class in
    let ns : List (Node (List ℕ)) = c.self.inside.messages.nodes in
    let s : IsSelected c.args.class ns c.in-Some.slot = simp to_z-of_z at c.in-Some.ensures in
    let text : s.node.value ≡ c.value.result.now =
    node_value c.in-Some.slot ns s.node c.value.result.now s.found c.value.ensures in
    let size : length s.node.value ≡ length c.value.result.now = ap (λ (t : List ℕ). length t) text in
    let gone : bytes_of (remove (messages_of ns) s.place) + length s.node.value ≡ bytes_of (messages_of ns) =
    bytes_removed (messages_of ns) s.place (message_of s.node) s.there in
    let count = c.self.invariant.0 in
    omega (arith, count, c.len-length.ensures, size, gone)

pub invariant_of-self : goal.invariant_of-self
invariant_of-self c =
    let range = c.ranges.class in
    let ns : List (Node (List ℕ)) = c.self.inside.messages.nodes in
    let s : IsSelected c.args.class ns c.in-Some.slot = simp to_z-of_z at c.in-Some.ensures in
    let text : s.node.value ≡ c.value.result.now =
    node_value c.in-Some.slot ns s.node c.value.result.now s.found c.value.ensures in
    let long : c.len-length.result ≡ length s.node.value =
    c.len-length.ensures ∙ sym (ap (λ (t : List ℕ). length t) text) in
    let left : messages_of c.unlink-text.new.self.nodes ≡ remove (messages_of ns) s.place =
    ap messages_of c.unlink-text.ensures.nodes ∙ s.rest in
    rw long
    (within_removed
    (queue_of c.self.inside.qbytes c.self.inside.last_sender c.self.inside.last_receiver (messages_of ns))
    s.place c.args.pid c.self.inside.bytes (message_of s.node) (messages_of c.unlink-text.new.self.nodes) s.there left
    c.self.invariant.0 c.self.invariant.1)
