-- Messages that stay as they are spelled: what is read of them, and that it stays so where one is added or taken.
use Rattle.std.proofs.Common.{SFits, w32, of_z, to_z, nat_eq, Bool, false, Ok, Err, take, ◌≡◌, ◌∙◌, ℕ, zero, suc, true, ◌+◌, ◌-◌, ◌≤◌, ◌<◌, ℤ, pos, negsuc, ◌≤ℤ◌, List, [], ◌∷◌, ◌++◌, length, drop, Option, Some, None, refl, sym, ap, subst, arith}
use Rattle.std.specs.Bool.{OnTrue}
use Rattle.std.specs.Int.{w16}
use Rattle.std.specs.List.{AllByRecursion, flat_map}
use Rattle.std.specs.Prelude.{◌&&◌, ◌||◌, int_le, int_lt, nat_le, nat_lt, position, remove, slice_get}
use Rattle.std.proofs.lemmas.List.{append-nil, length-append}
use Rattle.std.proofs.lemmas.List.Concat.{flat_map-append, flat_map-cons}
use Rattle.std.proofs.lemmas.List.Sums.{sum_by-cons}
use Rattle.std.specs.Ordering.{int_eq}
use Rattle.std.proofs.lemmas.Bool.Decides.{Decides-int_eq}
use Rattle.std.proofs.lemmas.Bool.{and_parts, eqb-true}
use Rattle.std.proofs.lemmas.Bool.Decides.{nat_tests}
use Rattle.std.proofs.lemmas.Int.{ints, to_z-of_z}
use Rattle.std.proofs.lemmas.Iterator.Adapters.{position_from-zero}
use Rattle.std.proofs.Math.Seq.{drop-append_seam, take-append_seam}
use Rattle.pico_base.specs.declared.reply.Errno.TheVariants.{E2big, Enomsg}
use Rattle.body_fields.specs.Fields.{number_upto}
use Rattle.body_fields.proofs.Fields.{IsBytes, Takes, some_is}
use Rattle.frame_bytes.specs.Readers.{many}
use Rattle.frame_bytes.proofs.Inverse.{Counted, Inverse, counted-inverse}
use Rattle.kernel_model.specs.Queue.{Message, Queue, bytes_of, has_room, max_messages, max_queue_bytes, max_text, receive, receive_from, select, send}
use Rattle.waiting_model.specs.Waiters.{Awaited, unawaited}
use Rattle.sysv_msg.specs.Body.{IsBodyOf, message_field, queue_code}
use Rattle.sysv_msg.specs.Limits.{IsSendable}
use Rattle.sysv_msg.specs.Packed.{HasTaken, Holds, front_of, messages_in, messages_or_none}
use Rattle.sysv_msg.specs.Passing.{Passes}
use Rattle.sysv_msg.specs.Reading.{class_at, message_at, numbers_at, queue_of}
use Rattle.frame_bytes.specs.Fields.{signed_at}
use Rattle.sysv_msg.proofs.BodyLaws.{message-inverse}
use Rattle.sysv_msg.proofs.Passing.{bytes-more, messages-read, unawaited-body}
use Rattle.sysv_msg.proofs.Parts.{state-read}
use Rattle.sysv_msg.proofs.Bodies.{body-again, one-queue}
use Rattle.sysv_msg.proofs.Receiving.{receive_refused, receive_taken}

-- ---- the bytes of messages are read as these messages

-- a count that stands in no bytes, since it is known
known-count : (n : ℕ) → Inverse ℕ (λ k. k ≡ n) (λ k. []) (λ bytes. Some (n, bytes))
known-count n = record { takes = taken; again = λ k rest is. ap (λ (j : ℕ). Some (j, rest)) (sym is) } where
  taken : (bytes : List ℕ) (x : ℕ × List ℕ) → IsBytes bytes → Some (n, bytes) ≡ Some x
      → Takes bytes [] x.1 × (x.0 ≡ n)
  taken bytes x fits e =
      let is = some_is (n, bytes) x e in
      subst (λ (y : ℕ × List ℕ). Takes bytes [] y.1 × (y.0 ≡ n)) is (record { parts = refl; rest_fits = fits }, refl)

-- so many messages are read as they are spelled
so-many : (n : ℕ) → Inverse (List Message) (Counted Message (λ k. k ≡ n) IsSendable) (flat_map message_field)
    (many message_at n)
so-many n =
    counted-inverse Message (λ k. k ≡ n) (λ k. []) (λ bytes. Some (n, bytes)) IsSendable message_field message_at
    (known-count n) message-inverse

-- what so many are read as
pub messages-are : (count size : ℕ) (bytes : List ℕ) (ms : List Message) → Holds count size bytes ms
    → messages_in count bytes ≡ ms
unfolding messages_in
messages-are count size bytes ms h =
    let spelled : bytes ≡ flat_map message_field ms ++ [] =
    h.spelled ∙ sym (append-nil (flat_map message_field ms)) in
    ap (λ (b : List ℕ). messages_or_none (many message_at count b)) spelled
    ∙ ap messages_or_none ((so-many count).again ms [] (record { count = h.counted; each = h.each }))

-- the bytes hold what is read of them
pub holds-read : (count size : ℕ) (bytes : List ℕ) (ms : List Message) → Holds count size bytes ms
    → Holds count size bytes (messages_in count bytes)
holds-read count size bytes ms h = subst (Holds count size bytes) (sym (messages-are count size bytes ms h)) h

-- ---- one more message

each-more : (ms : List Message) (m : Message) → AllByRecursion IsSendable ms → IsSendable m
    → AllByRecursion IsSendable (ms ++ m ∷ [])
each-more [] m each sendable = (sendable, tt)
each-more (k ∷ ms) m each sendable = (each.0, each-more ms m each.1 sendable)

-- behind one more message they hold it, too
pub holds-more : (count size : ℕ) (bytes : List ℕ) (ms : List Message) (m : Message) → Holds count size bytes ms
    → IsSendable m → length ms < max_messages → bytes_of ms + length m.text ≤ max_queue_bytes
    → Holds (count + 1) (size + length m.text) (bytes ++ message_field m) (ms ++ m ∷ [])
holds-more count size bytes ms m h sendable few light =
    let long = length-append ms (m ∷ []) in
    let sum = bytes-more ms m in
    let counted = h.counted in
    let sized = h.sized in
    record {
      counted = omega (arith, long, counted);
      sized = omega (arith, sum, sized);
      spelled = ap (λ (b : List ℕ). b ++ message_field m) h.spelled
          ∙ sym (flat_map-append message_field ms (m ∷ [])
          ∙ ap (λ (b : List ℕ). flat_map message_field ms ++ b)
          (flat_map-cons message_field m [] ∙ append-nil (message_field m)));
      few = omega (arith, long, few);
      light = omega (arith, sum, light);
      each = each-more ms m h.each sendable;
    }

-- ---- the first message

-- the first message, and that the bytes behind it hold the others
pub record Front (bytes : List ℕ) (m : Message) (rest : List ℕ) (count size : ℕ) (ms : List Message) : Type 0 where
  pub others : List Message
  pub is : ms ≡ m ∷ others
  pub left : Holds (count - 1) (size - length m.text) rest others
  pub some : 1 ≤ count
  pub light : length m.text ≤ size
  pub shorter : length rest ≤ length bytes
  pub rest_is : drop (length bytes - length rest) bytes ≡ rest

nothing-read : message_at [] ≡ None
unfolding message_at class_at signed_at
nothing-read = refl

none-some : (o : Option (Message × List ℕ)) (x : Message × List ℕ) → o ≡ None → o ≡ Some x → ⊥
none-some None x none some = absurd cc
none-some (Some y) x none some = absurd cc

first-read : (m : Message) (ms : List Message) (bytes : List ℕ) → AllByRecursion IsSendable (m ∷ ms)
    → bytes ≡ flat_map message_field (m ∷ ms) → message_at bytes ≡ Some (m, flat_map message_field ms)
first-read m ms bytes each spelled =
    ap message_at (spelled ∙ flat_map-cons message_field m ms)
    ∙ message-inverse.again m (flat_map message_field ms) each.0

-- where none is read there is none
pub none-there : (count size : ℕ) (bytes : List ℕ) (ms : List Message) → Holds count size bytes ms
    → message_at bytes ≡ None → ms ≡ []
none-there count size bytes [] h none = refl
none-there count size bytes (m ∷ ms) h none =
    absurd (none-some (message_at bytes) (m, flat_map message_field ms) none (first-read m ms bytes h.each h.spelled))

-- the one that is read is the first
pub front-there : (count size : ℕ) (bytes rest : List ℕ) (ms : List Message) (m : Message)
    → Holds count size bytes ms → message_at bytes ≡ Some (m, rest) → Front bytes m rest count size ms
front-there count size bytes rest [] m h read =
    absurd (none-some (message_at bytes) (m, rest) (ap message_at h.spelled ∙ nothing-read) read)
front-there count size bytes rest (k ∷ ms) m h read =
    let fields : List ℕ = flat_map message_field ms in
    let both = some_is (k, fields) (m, rest) (sym (first-read k ms bytes h.each h.spelled) ∙ read) in
    let is : k ≡ m = ap (λ (x : Message × List ℕ). x.0) both in
    let behind : rest ≡ fields = sym (ap (λ (x : Message × List ℕ). x.1) both) in
    let spelled : bytes ≡ message_field m ++ rest =
    h.spelled ∙ (flat_map-cons message_field k ms ∙ rw (is, behind) refl) in
    let long : length bytes ≡ length (message_field m) + length rest =
    ap (λ (b : List ℕ). length b) spelled ∙ length-append (message_field m) rest in
    let sum = sum_by-cons (λ (j : Message). length j.text) k ms in
    let text : length k.text ≡ length m.text = ap (λ (j : Message). length j.text) is in
    let counted = h.counted in
    let sized = h.sized in
    let few = h.few in
    let light = h.light in
    let front : length bytes - length rest ≡ length (message_field m) = omega (arith, long) in
    record {
      others = ms;
      is = ap (λ (j : Message). j ∷ ms) is;
      left = record {
        counted = omega (arith, counted);
        sized = omega (arith, sized, sum, text);
        spelled = behind;
        few = omega (arith, few);
        light = omega (arith, light, sum);
        each = h.each.1;
      };
      some = omega (arith, counted);
      light = omega (arith, sized, sum, text);
      shorter = omega (arith, long);
      rest_is = ap (λ (n : ℕ). drop n bytes) front
          ∙ (ap (λ (b : List ℕ). drop (length (message_field m)) b) spelled
          ∙ drop-append_seam (message_field m) rest);
    }

-- ---- which message is asked for

none-selected : (class : ℤ) → select [] class ≡ None
none-selected (pos zero) = refl
none-selected (pos (suc n)) = refl
none-selected (negsuc n) = refl

-- the first one passes a test
first-place : (p : Message → Bool) (m : Message) (ms : List Message) → p m ≡ true → position p (m ∷ ms) ≡ Some 0
first-place p m ms passes = position_from-zero p (m ∷ ms) ∙ rw passes refl

-- where there is none
pub asks-none : (ms : List Message) (class : ℤ) → ms ≡ [] → select ms class ≡ front_of ms
asks-none [] class is = none-selected class
asks-none (m ∷ ms) class is = absurd cc

-- for type 0
pub asks-any : (ms : List Message) (class : ℤ) → class ≡ pos 0 → select ms class ≡ front_of ms
asks-any ms class is = subst (λ (z : ℤ). select ms z ≡ front_of ms) (sym is) (any ms) where
  any : (xs : List Message) → select xs (pos 0) ≡ front_of xs
  any [] = refl
  any (x ∷ xs) = first-place (λ (_ : Message). true) x xs refl

-- for the first one's own type
pub asks-first : (m : Message) (ms : List Message) (class : ℤ) → class ≡ m.class → pos 1 ≤ℤ class
    → select (m ∷ ms) class ≡ Some 0
asks-first m ms (pos zero) is positive = first-place (λ (_ : Message). true) m ms refl
asks-first m ms (pos (suc n)) is positive =
    first-place (λ (k : Message). int_eq k.class (pos (suc n))) m ms
    ((Decides-int_eq m.class (pos (suc n))).1 (sym is))
asks-first m ms (negsuc n) is positive = absurd (grind (arith, ints))

-- the first one is asked for
pub asks-front : (ms : List Message) (m : Message) (others : List Message) (class : ℤ) → ms ≡ m ∷ others
    → class ≡ m.class → AllByRecursion IsSendable ms → select ms class ≡ front_of ms
asks-front [] m others class is same each = absurd cc
asks-front (k ∷ ms) m others class is same each =
    let kind : class ≡ k.class = cc in
    let positive = each.0.class in
    asks-first k ms class kind (subst (λ (z : ℤ). pos 1 ≤ℤ z) (sym kind) positive)

-- ---- what a receive and a send come to

-- nothing is there
pub receives-none : (q : Queue) (pid : ℕ) (class : ℤ) (size : ℕ) (noerror : Bool) → q.messages ≡ []
    → select q.messages class ≡ front_of q.messages → receive q pid class size noerror ≡ Err Enomsg
receives-none q pid class size noerror none front =
    ap (receive_from q pid size noerror) (front ∙ ap front_of none)

-- the first is too long, and may not be cut
pub receives-long : (q : Queue) (pid : ℕ) (class : ℤ) (size : ℕ) (noerror : Bool) (m : Message)
    (others : List Message) → q.messages ≡ m ∷ others → select q.messages class ≡ front_of q.messages
    → (nat_le (length m.text) size || noerror) ≡ false → receive q pid class size noerror ≡ Err E2big
receives-long q pid class size noerror m others is front fits =
    receive_refused q pid class size noerror 0 m (front ∙ ap front_of is)
    (ap (λ (ms : List Message). slice_get ms 0) is) fits

-- the first is taken
pub receives-first : (q : Queue) (pid : ℕ) (class : ℤ) (size : ℕ) (noerror : Bool) (m : Message)
    (others left : List Message) (kind : ℤ) (cut : List ℕ)
    → q.messages ≡ m ∷ others → select q.messages class ≡ front_of q.messages
    → (nat_le (length m.text) size || noerror) ≡ true → left ≡ others → kind ≡ m.class → cut ≡ take size m.text
    → receive q pid class size noerror
    ≡ Ok (record {
      queue = queue_of q.qbytes q.last_sender pid left;
      message = record { class = kind; text = cut };
    })
receives-first q pid class size noerror m others left kind cut is front fits same of_kind of_text =
    rw (same, of_kind, of_text)
    (receive_taken q pid class size noerror 0 m others (front ∙ ap front_of is)
    (ap (λ (ms : List Message). slice_get ms 0) is) fits (sym (ap (λ (ms : List Message). remove ms 0) is)))

-- a message is sent
pub sends : (q : Queue) (pid : ℕ) (class : ℤ) (text : List ℕ) (next : List Message) → pos 1 ≤ℤ class
    → length text ≤ max_text → has_room q text ≡ true
    → next ≡ q.messages ++ record { class = class; text = text } ∷ []
    → send q pid class text ≡ Ok (queue_of q.qbytes pid q.last_receiver next)
sends q pid class text next positive short room more =
    let low : int_le (pos 1) class ≡ true = grind (arith, ints) in
    let most : nat_le (length text) max_text ≡ true = grind (arith, nat_tests) in
    rw (more, low, most, room) refl

-- a type that isn't below 1
pub is-positive : (z : ℤ) → int_lt z (pos 1) ≡ false → pos 1 ≤ℤ z
is-positive z h = grind (arith, ints)

-- there is room
pub room-there : (bytes len qbytes count : ℕ)
    → (nat_le (bytes + len) qbytes && nat_lt count max_messages) ≡ true
    → (bytes + len ≤ qbytes) × (count < max_messages)
room-there bytes len qbytes count test =
    let both = and_parts (nat_le (bytes + len) qbytes) (nat_lt count max_messages) test in
    (grind (arith, nat_tests), grind (arith, nat_tests))

-- ---- numbers that are equal as they are stored

-- signed numbers of 32 bits
pub same-number : (a b : ℤ) → SFits w32 a → SFits w32 b → nat_eq (of_z w32 a) (of_z w32 b) ≡ true → a ≡ b
same-number a b fits_a fits_b same =
    sym (to_z-of_z w32 a fits_a)
    ∙ (ap (to_z w32) (eqb-true (of_z w32 a) (of_z w32 b) same) ∙ to_z-of_z w32 b fits_b)

-- what holds where a test is passed
pub on-true : (b : Bool) (P : Type 0) → (b ≡ true → P) → OnTrue b P
on-true true P h = h refl
on-true false P h = tt

-- ---- messages that were passed over

-- one byte is behind them
pub one-behind : (count size : ℕ) (bytes waiters : List ℕ) → IsBytes bytes → waiters ≡ 0 ∷ []
    → (p : Passes count bytes size waiters)
    → length bytes ≡ length (flat_map message_field p.messages) + 1
one-behind count size bytes waiters fits none p =
    let w = (so-many count).takes bytes (p.messages, waiters) fits p.read in
    let long = ap (λ (b : List ℕ). length b) w.0.parts in
    let one : length waiters ≡ 1 = ap (λ (b : List ℕ). length b) none in
    omega (arith, long, one, length-append (flat_map message_field p.messages) waiters)

-- they are taken without it
pub has-taken : (count size : ℕ) (bytes waiters taken : List ℕ) → IsBytes bytes → waiters ≡ 0 ∷ []
    → Passes count bytes size waiters → count ≤ max_messages → size ≤ max_queue_bytes
    → taken ≡ take (length bytes - 1) bytes → HasTaken count size bytes taken
has-taken count size bytes waiters taken fits none p few light is =
    let w = (so-many count).takes bytes (p.messages, waiters) fits p.read in
    let fields : List ℕ = flat_map message_field p.messages in
    let long = one-behind count size bytes waiters fits none p in
    let front : length bytes - 1 ≡ length fields = omega (arith, long) in
    let long_as = w.1.count in
    let sized = p.size_is in
    record {
      messages = p.messages;
      read = p.read ∙ ap (λ (b : List ℕ). Some (p.messages, b)) none;
      holds = record {
        counted = w.1.count;
        sized = sized;
        spelled = is ∙ (ap (λ (n : ℕ). take n bytes) front
            ∙ (ap (λ (b : List ℕ). take (length fields) b) w.0.parts ∙ take-append_seam fields waiters));
        few = omega (arith, long_as, few);
        light = omega (arith, sized, light);
        each = w.1.each;
      };
    }

-- ---- a queue that is unpacked so

-- at which nobody waits
pub unpacked-body : (bytes fields rest behind taken : List ℕ) (n : ℕ × ℕ × ℕ) (count size : ℕ) → IsBytes bytes
    → bytes ≡ queue_code ∷ fields → numbers_at fields ≡ Some (n, rest)
    → number_upto w16 max_messages rest ≡ Some (count, behind) → HasTaken count size behind taken
    → IsBodyOf (unawaited (queue_of n.0 n.1 n.2 (messages_in count taken))) bytes
unpacked-body bytes fields rest behind taken n count size fits is numbers counts t =
    let read = messages-read rest behind (0 ∷ []) count t.messages counts t.read t.holds.light in
    let state = state-read fields rest (0 ∷ []) n t.messages numbers read in
    subst (λ (ms : List Message). IsBodyOf (unawaited (queue_of n.0 n.1 n.2 ms)) bytes)
    (sym (messages-are count size taken t.messages t.holds))
    (unawaited-body bytes fields (queue_of n.0 n.1 n.2 t.messages) fits is state)

-- bytes are the body of one queue
pub one-body : (bytes : List ℕ) (p q : Awaited Queue) → IsBodyOf p bytes → IsBodyOf q bytes → p ≡ q
one-body bytes p q h g = one-queue bytes p q (body-again bytes p h) g
