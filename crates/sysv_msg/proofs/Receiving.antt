-- What a receive gives for the place that was selected, and that the queue keeps its limits.
use Rattle.std.proofs.Common.{◌≡◌, ℕ, zero, suc, ◌+◌, ◌-◌, Bool, true, false, ◌||◌, ℤ, List, [], ◌∷◌, length, take, Some, Ok, Err, refl, ap, arith}
use Rattle.std.specs.List.{AllByRecursion}
use Rattle.std.specs.Prelude.{nat_le, nat_lt, remove, slice_get}
use Rattle.std.proofs.lemmas.Bool.{lt-ltb}
use Rattle.std.proofs.lemmas.Option.{slice_get_within}
use Rattle.std.proofs.lemmas.List.Sums.{sum_by-cons}
use Rattle.pico_base.specs.declared.reply.Errno.TheVariants.{E2big}
use Rattle.kernel_model.specs.Queue.{Message, Queue, select, receive, bytes_of}
use Rattle.sysv_msg.specs.Limits.{IsSendable, IsWithinLimits}
use Rattle.sysv_msg.specs.Linked.{messages_of, message_of, IsSelected}
use Rattle.sysv_msg.specs.Going.{is_inside}
use Rattle.index_links.specs.Nodes.{Node}

-- what holds of each holds of each that is left
pub each_removed : {X : Type 0} (P : X → Type 0) (xs : List X) (place : ℕ) → AllByRecursion P xs
    → AllByRecursion P (remove xs place)
each_removed P [] zero h = h
each_removed P [] (suc place) h = h
each_removed P (x ∷ xs) zero h = h.1
each_removed P (x ∷ xs) (suc place) h = (h.0, each_removed P xs place h.1)

-- a message that fits, or may be cut, is received
pub receive_taken : (q : Queue) (pid : ℕ) (class : ℤ) (size : ℕ) (noerror : Bool) (place : ℕ) (m : Message)
    (rest : List Message)
    → select q.messages class ≡ Some place → slice_get q.messages place ≡ Some m
    → (nat_le (length m.text) size || noerror) ≡ true → rest ≡ remove q.messages place
    → receive q pid class size noerror
    ≡ Ok (record {
      queue = record q { messages = rest; last_receiver = pid };
      message =
          record m { text = take size m.text };
    })
receive_taken q pid class size noerror place m rest selected there fits left = rw (selected, there, fits, left) refl

-- one that is too long, and may not be cut, is refused
pub receive_refused : (q : Queue) (pid : ℕ) (class : ℤ) (size : ℕ) (noerror : Bool) (place : ℕ) (m : Message)
    → select q.messages class ≡ Some place → slice_get q.messages place ≡ Some m
    → (nat_le (length m.text) size || noerror) ≡ false
    → receive q pid class size noerror ≡ Err E2big
receive_refused q pid class size noerror place m selected there fits = rw (selected, there, fits) refl

-- a message that is taken out leaves the bytes of the others
pub bytes_removed : (ms : List Message) (place : ℕ) (m : Message) → slice_get ms place ≡ Some m
    → bytes_of (remove ms place) + length m.text ≡ bytes_of ms
bytes_removed [] place m there = absurd (cc)
bytes_removed (x ∷ ms) zero m there =
    let same : x ≡ m = cc in
    let text : length x.text ≡ length m.text = ap (λ (k : Message). length k.text) same in
    omega (arith, text, sum_by-cons (λ (k : Message). length k.text) x ms)
bytes_removed (x ∷ ms) (suc place) m there =
    let rest = bytes_removed ms place m there in
    omega (
      arith,
      rest,
      sum_by-cons (λ (k : Message). length k.text) x ms,
      sum_by-cons (λ (k : Message). length k.text) x (remove ms place),
    )

-- and one message less
pub length_removed : (ms : List Message) (place : ℕ) (m : Message) → slice_get ms place ≡ Some m
    → length (remove ms place) + 1 ≡ length ms
length_removed [] place m there = absurd (cc)
length_removed (x ∷ ms) zero m there = omega arith
length_removed (x ∷ ms) (suc place) m there = let rest = length_removed ms place m there in omega (arith, rest)

-- a queue without one of its messages is within its limits
pub within_removed : (q : Queue) (place pid bytes : ℕ) (m : Message) (rest : List Message)
    → slice_get q.messages place ≡ Some m → rest ≡ remove q.messages place
    → bytes ≡ bytes_of q.messages → IsWithinLimits q
    → (bytes - length m.text ≡ bytes_of rest) × IsWithinLimits (record q { messages = rest; last_receiver = pid })
within_removed q place pid bytes m rest there left count limits =
    let sum = bytes_removed q.messages place m there in
    let shorter = length_removed q.messages place m there in
    rw left (
      omega arith,
      record {
        qbytes = limits.qbytes;
        count = let h = limits.count in omega arith;
        bytes = let h = limits.bytes in omega arith;
        each = each_removed IsSendable q.messages place limits.each;
      },
    )

-- a place that has a message is inside
pub inside : (ms : List Message) (place : ℕ) (m : Message) → slice_get ms place ≡ Some m
    → nat_lt place (length ms) ≡ true
inside ms place m there = lt-ltb place (length ms) (slice_get_within ms place m there)

-- a receive finds a message where a slot was found
pub some_inside : (class : ℤ) (q : Queue) (ns : List (Node (List ℕ))) (slot : ℕ) → q.messages ≡ messages_of ns
    → IsSelected class ns slot → is_inside q (select q.messages class) ≡ true
some_inside class q ns slot same s =
    let chosen : select q.messages class ≡ Some s.place = rw same s.selected in
    let there : slice_get q.messages s.place ≡ Some (message_of s.node) = rw same s.there in
    rw chosen (inside q.messages s.place (message_of s.node) there)
