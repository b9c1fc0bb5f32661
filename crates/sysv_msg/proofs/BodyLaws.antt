-- A queue that is read from a body is the one that was written, and what was written is read again.
use Rattle.std.proofs.Common.{◌≡◌, ℕ, ◌^◌, ◌≤◌, Bool, true, ℤ, pos, ◌≤ℤ◌, List, [], ◌∷◌, ◌++◌, length, Some, refl, ap, ◌∙◌, append_assoc, arith}
use Rattle.std.specs.Prelude.{FitsSigned, int_le, nat_le}
use Rattle.std.specs.Int.{w16, w32}
use Rattle.std.specs.List.{AllByRecursion}
use Rattle.std.proofs.lemmas.Bool.{false≢true}
use Rattle.std.proofs.lemmas.Bool.Decides.{nat_tests}
use Rattle.std.proofs.lemmas.Int.{ints}
use Rattle.pico_base.specs.declared.call.Call.{Call}
use Rattle.pico_base.specs.declared.call.Call.TheVariants as calls
use Rattle.kernel_model.specs.Queue.{Message, Queue, bytes_of, max_messages, max_queue_bytes, max_text}
use Rattle.body_fields.specs.Fields.{number_upto}
use Rattle.body_fields.proofs.Fields.{number_upto_again, number_upto_takes, wide16, wide32}
use Rattle.frame_bytes.specs.Readers.{counted, tabled}
use Rattle.frame_bytes.specs.Fields.{IsWord, flag_byte, half, signed, signed_at, text, text_at, word}
use Rattle.frame_bytes.specs.Calls.{call_bytes}
use Rattle.frame_bytes.specs.Limits.{is_text}
use Rattle.frame_bytes.proofs.Inverse.{Counted, Field, Inverse, Passes, Reads, counted-inverse, five-again, five-takes, four-again, four-takes, passing-inverse, renamed, tabled-takes, two-again, two-takes}
use Rattle.frame_bytes.proofs.FieldLaws.{flag-field, signed-field, signed-inverse, text-field, text-inverse, text-is, whole-inverse, word-field}
use Rattle.sysv_msg.specs.Limits.{IsSendable}
use Rattle.sysv_msg.specs.Body.{IsWaitingCall, message_field, messages_field}
use Rattle.sysv_msg.specs.Reading.{call_at, call_rows, class_at, message_at, message_of, messages_at, queue_of, short_at, state_at}

-- ---- messages

class-inverse : Inverse ℤ (Passes ℤ (λ z. FitsSigned w32 z) (int_le (pos 1))) signed class_at
unfolding class_at
class-inverse = passing-inverse ℤ (λ z. FitsSigned w32 z) signed signed_at (int_le (pos 1)) signed-inverse

abbrev class-field : Field ℤ
class-field = record {
  Fits = Passes ℤ (λ z. FitsSigned w32 z) (int_le (pos 1));
  spell = signed;
  read = class_at;
  inverse = class-inverse;
}

abbrev is_short : List ℕ → Bool
is_short bytes = nat_le (length bytes) max_text

short-inverse : Inverse (List ℕ) (Passes (List ℕ) (λ bytes. is_text bytes ≡ true) is_short) text short_at
unfolding short_at
short-inverse = passing-inverse (List ℕ) (λ bytes. is_text bytes ≡ true) text text_at is_short text-inverse

abbrev short-field : Field (List ℕ)
short-field = record {
  Fits = Passes (List ℕ) (λ bytes. is_text bytes ≡ true) is_short;
  spell = text;
  read = short_at;
  inverse = short-inverse;
}

at-most : (n most : ℕ) → nat_le n most ≡ true → n ≤ most
at-most n most h = grind (arith, nat_tests)

is-at-most : (n most : ℕ) → n ≤ most → nat_le n most ≡ true
is-at-most n most h = grind (arith, nat_tests)

at-least-one : (z : ℤ) → int_le (pos 1) z ≡ true → pos 1 ≤ℤ z
at-least-one z h = grind (arith, ints)

is-at-least-one : (z : ℤ) → pos 1 ≤ℤ z → int_le (pos 1) z ≡ true
is-at-least-one z h = grind (arith, ints)

message-fits : (z : ℤ) (bytes : List ℕ) → Passes ℤ (λ y. FitsSigned w32 y) (int_le (pos 1)) z
    → Passes (List ℕ) (λ b. is_text b ≡ true) is_short bytes → IsSendable (message_of z bytes)
message-fits z bytes p q =
    record { class = at-least-one z p.passes; fits = p.fits; text = at-most (length bytes) max_text q.passes }

-- a text that a message may have, has a length of 4 bytes
short-is : (bytes : List ℕ) → length bytes ≤ max_text → is_text bytes ≡ true
short-is bytes h = text-is bytes (omega arith)

-- a message is read as it is spelled
pub message-inverse : Inverse Message IsSendable message_field message_at
unfolding message_at
message-inverse =
    whole-inverse Message IsSendable message_field message_at
    (two-takes Message IsSendable message_field ℤ (List ℕ) class-field short-field message_of [] (λ a b. refl)
    message-fits)
    (λ m rest h. two-again ℤ (List ℕ) Message class-field short-field message_of m.class m.text rest
    (record { fits = h.fits; passes = is-at-least-one m.class h.class })
    (record { fits = short-is m.text h.text; passes = is-at-most (length m.text) max_text h.text }))

count-inverse : Inverse ℕ (λ n. n ≤ max_messages) half (number_upto w16 max_messages)
count-inverse = record {
  takes = λ bytes x fits e. number_upto_takes w16 (2 ^ 16) wide16 max_messages bytes x fits e;
  again = λ n rest le. number_upto_again w16 (2 ^ 16) wide16 max_messages n rest (omega (arith, le)) le;
}

-- messages that a queue may have
pub record AreMessages (ms : List Message) : Type 0 where
  pub few : length ms ≤ max_messages
  pub bytes : bytes_of ms ≤ max_queue_bytes
  pub each : AllByRecursion IsSendable ms

abbrev are_light : List Message → Bool
are_light ms = nat_le (bytes_of ms) max_queue_bytes

abbrev AreCounted : List Message → Type 0
AreCounted ms = Passes (List Message) (Counted Message (λ n. n ≤ max_messages) IsSendable) are_light ms

pub messages-inverse : Inverse (List Message) AreMessages messages_field messages_at
unfolding messages_at
messages-inverse =
    renamed (List Message) AreCounted AreMessages messages_field messages_at
    (λ ms p. record {
      few = p.fits.count;
      bytes = at-most (bytes_of ms) max_queue_bytes p.passes;
      each = p.fits.each;
    })
    (λ ms a. record {
      fits = record { count = a.few; each = a.each };
      passes = is-at-most (bytes_of ms) max_queue_bytes a.bytes;
    })
    (passing-inverse (List Message) (Counted Message (λ n. n ≤ max_messages) IsSendable) messages_field
    (counted (number_upto w16 max_messages) message_at) are_light
    (counted-inverse Message (λ n. n ≤ max_messages) half (number_upto w16 max_messages) IsSendable message_field
    message_at count-inverse message-inverse))

-- ---- the queue's own fields

limit-inverse : Inverse ℕ (λ n. n ≤ max_queue_bytes) word (number_upto w32 max_queue_bytes)
limit-inverse = record {
  takes = λ bytes x fits e. number_upto_takes w32 (2 ^ 32) wide32 max_queue_bytes bytes x fits e;
  again = λ n rest le. number_upto_again w32 (2 ^ 32) wide32 max_queue_bytes n rest (omega (arith, le)) le;
}

abbrev limit-field : Field ℕ
limit-field = record {
  Fits = λ n. n ≤ max_queue_bytes;
  spell = word;
  read = number_upto w32 max_queue_bytes;
  inverse = limit-inverse;
}

abbrev messages-all : Field (List Message)
messages-all = record { Fits = AreMessages; spell = messages_field; read = messages_at; inverse = messages-inverse }

-- a queue whose own fields have a spelling
pub record IsState (q : Queue) : Type 0 where
  pub qbytes : q.qbytes ≤ max_queue_bytes
  pub sender : IsWord q.last_sender
  pub receiver : IsWord q.last_receiver
  pub messages : AreMessages q.messages

-- the queue's own fields behind the code
abbrev pub state_field : Queue → List ℕ
state_field q = word q.qbytes ++ (word q.last_sender ++ (word q.last_receiver ++ messages_field q.messages))

behind-state : (q : Queue) (rest : List ℕ)
    → state_field q ++ rest ≡ word q.qbytes ++ (word q.last_sender ++ (word q.last_receiver
    ++ (messages_field q.messages ++ rest)))
behind-state q rest = refl

-- they are read as they are spelled
pub state-inverse : Inverse Queue IsState state_field state_at
unfolding state_at
state-inverse =
    whole-inverse Queue IsState state_field state_at
    (four-takes Queue IsState state_field ℕ ℕ ℕ (List Message) limit-field word-field word-field messages-all queue_of
    [] (λ a b c d. refl)
    (λ a b c d p q r s. record { qbytes = p; sender = q; receiver = r; messages = s }))
    (λ q rest h. four-again ℕ ℕ ℕ (List Message) Queue limit-field word-field word-field messages-all queue_of q.qbytes
    q.last_sender q.last_receiver q.messages rest h.qbytes h.sender h.receiver h.messages)

-- ---- the calls that wait

call-takes : Reads Call IsWaitingCall call_bytes call_at []
unfolding call_at
call-takes =
    tabled-takes Call IsWaitingCall call_bytes call_rows (
      four-takes Call IsWaitingCall call_bytes ℕ ℤ (List ℕ) Bool word-field signed-field text-field flag-field
          calls.MsgSnd (3 ∷ []) (λ a b c d. refl)
          (λ a b c d p q r s. record { waits = refl; ranges = (p, q); within = r }),
      (
        five-takes Call IsWaitingCall call_bytes ℕ ℤ ℕ Bool Bool word-field signed-field word-field flag-field
            flag-field calls.MsgRcv (4 ∷ []) (λ a b c d e. refl)
            (λ a b c d e p q r s t. record { waits = refl; ranges = (p, q, r); within = refl }),
        tt,
      ),
    )

-- the flag behind a text
send-bytes : (id : ℕ) (class : ℤ) (bytes : List ℕ) (nowait : Bool) (rest : List ℕ)
    → call_bytes (calls.MsgSnd id class bytes nowait) ++ rest ≡ 3
    ∷ (word id ++ (signed class ++ (text bytes ++ (flag_byte nowait ∷ rest))))
send-bytes id class bytes nowait rest =
    ap (λ (y : List ℕ). 3 ∷ (word id ++ (signed class ++ (word (length bytes) ++ y))))
    (append_assoc bytes (flag_byte nowait ∷ []) rest)

call-again : (call : Call) (rest : List ℕ) → IsWaitingCall call
    → call_at (call_bytes call ++ rest) ≡ Some (call, rest)
unfolding call_at
call-again (calls.MsgSnd id class bytes nowait) rest h =
    ap (tabled call_rows) (send-bytes id class bytes nowait rest)
    ∙ four-again ℕ ℤ (List ℕ) Bool Call word-field signed-field text-field flag-field calls.MsgSnd id class bytes nowait
    rest h.ranges.0 h.ranges.1 h.within tt
call-again (calls.MsgRcv id class size noerror nowait) rest h =
    five-again ℕ ℤ ℕ Bool Bool Call word-field signed-field word-field flag-field flag-field calls.MsgRcv id class size
    noerror nowait rest h.ranges.0 h.ranges.1 h.ranges.2 tt tt
call-again call rest h = absurd (false≢true h.waits)

-- a call that waits is read as it is spelled
pub call-inverse : Inverse Call IsWaitingCall call_bytes call_at
call-inverse = whole-inverse Call IsWaitingCall call_bytes call_at call-takes call-again
