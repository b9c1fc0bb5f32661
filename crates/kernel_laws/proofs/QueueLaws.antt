-- Each queue stays within its limits, and the table of queues in order.
use Rattle.std.proofs.Common.{◌≡◌, ℕ, ℤ, ◌+◌, ◌<◌, ◌≤◌, Bool, true, false, ◌||◌, List, [], ◌∷◌, ◌++◌, length, Option, Some, None, Ok, Err, take, drop, suc, refl, ap, sym, subst, arith, length-append}
use Rattle.std.specs.Prelude.{◌≤ℤ◌, pos, if◌then◌else◌, nat_le, nat_lt, int_le, is_some, slice_get, remove}
use Rattle.std.proofs.lemmas.Bool.{and_parts, leb-true, ltb-true}
use Rattle.std.proofs.lemmas.List.Elements.{All-push, All-append, All-take, All-drop, All-nil}
use Rattle.std.proofs.lemmas.List.Sums.{sum_by_push, sum_by-remove}
use Rattle.std.proofs.lemmas.List.Edits.{length-remove}
use Rattle.std.proofs.lemmas.Option.{slice_get_within}
use lib.Signed.{le_z_yes}
use lib.Dec.{T}
use Rattle.number_maps.specs.Maps.{get, put}
use Rattle.kernel_model.specs.Kernel.{Kernel, opening}
use Rattle.kernel_model.specs.Row.{Alive}
use Rattle.kernel_model.specs.Queue.{receive, Queue, Message, Received, bytes_in, bytes_of, empty_queue, has_room, is_sendable, send, select, take_message, receive_from, receive_at, set_qbytes}
use Rattle.kernel_laws.specs.Queues.{IsMessage, IsQueueWithinLimits, QueuesAreWithinLimits}
use Rattle.kernel_laws.proofs.Plain.{from_ok, not_ok}
use Rattle.kernel_laws.proofs.Tables.{Table, table-empty, table-change, table-make, table-bind, table-remove, fresh-unused}
use Rattle.kernel_laws.proofs.Moves.{Moves}
use Rattle.kernel_laws.proofs.Histories.{Kept, kept-along}

in_order : (a b : ℤ) → int_le a b ≡ true → a ≤ℤ b
in_order a b h = le_z_yes (subst T (sym h) tt)

both-tests : {A E : Type 0} (s r : Bool) (x y : A) (e f : E) → (if s then if r then Ok x else Err e else Err f) ≡ Ok y
    → (s ≡ true) × (r ≡ true) × (x ≡ y)
both-tests true true x y e f h = (refl, refl, from_ok x y h)
both-tests true false x y e f h = not_ok e y h
both-tests false r x y e f h = not_ok f y h

one-test : {A E : Type 0} (s : Bool) (x y : A) (e : E) → (if s then Ok x else Err e) ≡ Ok y → (s ≡ true) × (x ≡ y)
one-test true x y e h = (refl, from_ok x y h)
one-test false x y e h = not_ok e y h

within-empty : IsQueueWithinLimits empty_queue
within-empty = record { limit = omega arith; bytes = omega arith; count = omega arith; messages = All-nil IsMessage }

within-pushed : (q : Queue) (pid : ℕ) (m : Message) → IsQueueWithinLimits q → IsMessage m
    → bytes_in q + length m.text ≤ 16384 → length q.messages < 1024
    → IsQueueWithinLimits (record q { messages = q.messages ++ m ∷ []; last_sender = pid })
within-pushed q pid m w h bytes count =
    let e : bytes_of (q.messages ++ m ∷ []) ≡ bytes_of q.messages + length m.text =
    sum_by_push (λ (x : Message). length x.text) q.messages m
    in let l : length (q.messages ++ m ∷ []) ≡ length q.messages + length (m ∷ []) = length-append q.messages (m ∷ [])
    in record {
      limit = w.limit;
      bytes = omega arith;
      count = omega arith;
      messages = All-push IsMessage q.messages m w.messages h;
    }

within-sent : (q : Queue) (pid : ℕ) (class : ℤ) (text : List ℕ) (next : Queue) → IsQueueWithinLimits q
    → send q pid class text ≡ Ok next → IsQueueWithinLimits next
within-sent q pid class text next w h =
    let m : Message = record { class = class; text = text }
    in let t = both-tests (is_sendable class text) (has_room q text)
    (record q { messages = q.messages ++ m ∷ []; last_sender = pid }) next _ _ h
    in let sendable = and_parts (int_le (pos 1) class) (nat_le (length text) 4096) t.0
    in let room = and_parts (nat_le (bytes_in q + length text) q.qbytes) (nat_lt (length q.messages) 1024) t.1
    in let fits : bytes_in q + length text ≤ q.qbytes = leb-true (bytes_in q + length text) q.qbytes room.0
    in let few : length q.messages < 1024 = ltb-true (length q.messages) 1024 room.1
    in let below = w.limit
    in let good : IsMessage m =
    record { class = in_order (pos 1) class sendable.0; text = leb-true (length text) 4096 sendable.1 }
    in subst IsQueueWithinLimits t.2 (within-pushed q pid m w good (omega arith) few)

within-removed : (q : Queue) (pid place : ℕ) (m : Message) → IsQueueWithinLimits q → slice_get q.messages place ≡ Some m
    → IsQueueWithinLimits (record q { messages = remove q.messages place; last_receiver = pid })
within-removed q pid place m w h =
    let l : place < length q.messages = slice_get_within q.messages place m h
    in let e = sum_by-remove (λ (x : Message). length x.text) q.messages place m l
    in let c = length-remove q.messages place l
    in let bytes = w.bytes
    in let count = w.count
    in record {
      limit = w.limit;
      bytes = omega (arith, e, bytes);
      count = omega (arith, c, count);
      messages =
          All-append IsMessage (take place q.messages) (drop (suc place) q.messages)
          (All-take IsMessage place q.messages w.messages) (All-drop IsMessage (suc place) q.messages w.messages);
    }

within-taken : (q : Queue) (pid size : ℕ) (noerror : Bool) (place : ℕ) (o : Option Message) (r : Received)
    → IsQueueWithinLimits q → slice_get q.messages place ≡ o
    → receive_at q pid size noerror place o ≡ Ok r → IsQueueWithinLimits r.queue
within-taken q pid size noerror place None r w l h = not_ok _ r h
within-taken q pid size noerror place (Some m) r w l h =
    let t = one-test (nat_le (length m.text) size || noerror) (take_message q pid size place m) r _ h
    in subst IsQueueWithinLimits (ap (λ (x : Received). x.queue) t.1) (within-removed q pid place m w l)

within-placed : (q : Queue) (pid size : ℕ) (noerror : Bool) (o : Option ℕ) (r : Received) → IsQueueWithinLimits q
    → receive_from q pid size noerror o ≡ Ok r → IsQueueWithinLimits r.queue
within-placed q pid size noerror None r w h = not_ok _ r h
within-placed q pid size noerror (Some place) r w h =
    within-taken q pid size noerror place (slice_get q.messages place) r w refl h

within-limited : (q : Queue) (qbytes : ℕ) (next : Queue) → IsQueueWithinLimits q → set_qbytes q qbytes ≡ Ok next
    → IsQueueWithinLimits next
within-limited q qbytes next w h =
    let t = one-test (nat_le qbytes 16384) (record q { qbytes = qbytes }) next _ h
    in subst IsQueueWithinLimits t.1
    (record { limit = leb-true qbytes 16384 t.0; bytes = w.bytes; count = w.count; messages = w.messages })

-- the table of queues, with what each call keeps of a queue
abbrev pub QueueTable : (Queue → Type 0) → Kernel → Type 0
QueueTable P k = Table P k.queues k.queue_keys k.used_queues

pub record QueueRule (P : Queue → Type 0) : Type 0 where
  pub new : P empty_queue
  pub sent : (q : Queue) (pid : ℕ) (class : ℤ) (text : List ℕ) (next : Queue) → P q → send q pid class text ≡ Ok next
      → P next
  pub taken_from : (q : Queue) (pid : ℕ) (class : ℤ) (size : ℕ) (noerror : Bool) (r : Received) → P q
      → receive q pid class size noerror ≡ Ok r → P r.queue
  pub limited : (q : Queue) (qbytes : ℕ) (next : Queue) → P q → set_qbytes q qbytes ≡ Ok next → P next

-- every move keeps what each change of a queue keeps
pub queues-moves : (P : Queue → Type 0) → QueueRule P → (k : Kernel) (pid : ℕ) (a : Alive) (n : ℕ) → QueueTable P k
    → Moves (QueueTable P) k pid a n
queues-moves P rule k pid a n t =
    let change : (id : ℕ) (q next : Queue) → get k.queues id ≡ Some q → P next
    → QueueTable P (record k { queues = put k.queues id next }) =
    λ id q next l w. table-change P k.queues k.queue_keys k.used_queues t id next (ap is_some l) w
    in record {
      same = t;
      forks = λ f. t;
      ends = λ ending. t;
      acts = λ g act h. t;
      masks = λ how set. t;
      raises_own = λ target g h. t;
      raises_other = λ other target g h. t;
      reaps = λ which child ending h. t;
      makes_queue = λ f. table-make P k.queues k.queue_keys k.used_queues t n empty_queue rule.new;
      binds_queue = λ key f.
          table-bind P k.queues k.queue_keys k.used_queues t n key empty_queue
          (fresh-unused k.used_queues n f) rule.new;
      sends = λ id class text q next l h. change id q next l (rule.sent q pid class text next (t.each id q l) h);
      receives = λ id class size noerror q r l h.
          change id q r.queue l (rule.taken_from q pid class size noerror r (t.each id q l) h);
      limits = λ id qbytes q next l h. change id q next l (rule.limited q qbytes next (t.each id q l) h);
      removes_queue = λ id. table-remove P k.queues k.queue_keys k.used_queues t id;
      makes_set = λ count set h f. t;
      binds_set = λ key count set h f. t;
      operates = λ id steps set next l h. t;
      sets_one = λ id num value set next l h. t;
      fills = λ id values set next l h. t;
      removes_set = λ id. t;
    }

-- each change of a queue keeps it within its limits
pub queue-within-rule : QueueRule IsQueueWithinLimits
queue-within-rule =
    record {
      new = within-empty;
      sent = within-sent;
      taken_from = λ q pid class size noerror r. within-placed q pid size noerror (select q.messages class) r;
      limited = within-limited;
    }

-- each queue is within its limits
abbrev pub Queues : Kernel → Type 0
Queues k = QueueTable IsQueueWithinLimits k

-- the opening kernel has no queue
pub queues-opening : Queues opening
queues-opening = table-empty IsQueueWithinLimits

-- every entry keeps queues within their limits
pub queues-kept : Kept Queues
queues-kept =
    record {
      moves = λ k pid call n next outcome s t. queues-moves IsQueueWithinLimits queue-within-rule k pid s.alive n t;
      finishes = λ pid k a t l d. t;
    }

-- queues are within their limits
pub queues_are_within_limits_lemma : QueuesAreWithinLimits
queues_are_within_limits_lemma k r id q l = (kept-along Queues queues-kept r.0 opening k r.1 queues-opening).each id q l
