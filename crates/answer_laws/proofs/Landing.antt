-- What is written back through a map's entry is the change that the call's step makes, with its reply.
use Rattle.std.proofs.Common.{◌≡◌, ◌∙◌, ℕ, Some, Result, Ok, Err, MatchResult, IfOk, IfErr, OnErr, refl, ap}
use Rattle.std.specs.Ordering.{nat_cmp}
use Rattle.std.specs.Map.{set_value}
use Rattle.std.specs.BTreeMap.{is_at}
use Rattle.std.proofs.lemmas.Map.Steps.{set_value_same}
use Rattle.pico_base.specs.declared.reply.Errno.{Errno}
use Rattle.pico_base.specs.declared.reply.Reply.{Reply}
use Rattle.pico_base.specs.declared.reply.Reply.TheVariants.{Num, Fail, Message}
use Rattle.number_maps.specs.Maps.{Numbered, get}
use Rattle.kernel_model.specs.Queue.{Queue, Received, Message as QueueMessage}
use Rattle.number_maps.specs.Rising.{IsRising}
use Rattle.answer_laws.specs.Answers.{Changes, Receives, done_reply}
use Rattle.number_maps.proofs.Changes.{set_value-put}

module _ {V : Type 0} where
  -- what was written back unchanged
  pub same-lands : (m es : Numbered V) (id : ℕ) (v w : V) → get m id ≡ Some v → w ≡ v
      → es ≡ set_value (is_at (nat_cmp id)) m w → es ≡ m
  same-lands m es id v w there is written =
      written ∙ ap (set_value (is_at (nat_cmp id)) m) is ∙ set_value_same (is_at (nat_cmp id)) m v there

  pub step-lands : {U : Type 0} (step : V → Result V Errno) (m es : Numbered V) (id : ℕ) (v w : V) (r : Result U Errno)
      (reply : Reply) → IsRising m
      → get m id ≡ Some v → MatchResult r (λ _. step v ≡ Ok w) (λ e. (step v ≡ Err e) × (w ≡ v))
      → es ≡ set_value (is_at (nat_cmp id)) m w → reply ≡ done_reply r → Changes step m id es reply
  step-lands step m es id v w (Ok u) reply rising there ok written is =
      rw (there, ok) (written ∙ set_value-put m id w v rising there, is)
  step-lands step m es id v w (Err e) reply rising there bad written is =
      rw (there, bad.0) (same-lands m es id v w there bad.1 written, is)

  -- the same, where the callee has a clause for each outcome
  pub clauses-land : {U : Type 0} (step : V → Result V Errno) (m es : Numbered V) (id : ℕ) (v w : V)
      (r : Result U Errno) (reply : Reply) → IsRising m
      → get m id ≡ Some v → IfOk r (λ _. step v ≡ Ok w) → IfErr r (λ e. step v ≡ Err e) → OnErr r (w ≡ v)
      → es ≡ set_value (is_at (nat_cmp id)) m w → reply ≡ done_reply r → Changes step m id es reply
  clauses-land {U} step m es id v w (Ok u) reply rising there ok bad same written is =
      step-lands {U = U} step m es id v w (Ok u) reply rising there ok written is
  clauses-land {U} step m es id v w (Err e) reply rising there ok bad same written is =
      step-lands {U = U} step m es id v w (Err e) reply rising there (bad, same) written is

-- a receive that gave a message leaves its number with the queue that it left
pub received-lands : (step : Queue → Result Received Errno) (m es : Numbered Queue) (id : ℕ) (v w : Queue)
    (message : QueueMessage) (reply : Reply)
    → IsRising m → get m id ≡ Some v → step v ≡ Ok (record { queue = w; message = message })
    → es ≡ set_value (is_at (nat_cmp id)) m w → reply ≡ Message message.class message.text → Receives step m id es reply
received-lands step m es id v w message reply rising there ok written is =
    rw (there, ok) (written ∙ set_value-put m id w v rising there, is)

-- a receive that was refused leaves all as it was
pub refused-lands : (step : Queue → Result Received Errno) (m es : Numbered Queue) (id : ℕ) (v w : Queue) (e : Errno)
    → get m id ≡ Some v → step v ≡ Err e → w ≡ v → es ≡ set_value (is_at (nat_cmp id)) m w
    → Receives step m id es (Fail e)
refused-lands step m es id v w e there bad same written =
    rw (there, bad) (same-lands m es id v w there same written, refl)

-- a send leaves its number with the queue that it left
pub sent-lands : (step : Queue → Result Queue Errno) (m es : Numbered Queue) (id : ℕ) (v w : Queue) → IsRising m
    → get m id ≡ Some v
    → step v ≡ Ok w → es ≡ set_value (is_at (nat_cmp id)) m w → Changes step m id es (Num 0)
sent-lands step m es id v w rising there ok written =
    rw (there, ok) (written ∙ set_value-put m id w v rising there, refl)

-- a send that was refused leaves all as it was
pub unsent-lands : (step : Queue → Result Queue Errno) (m es : Numbered Queue) (id : ℕ) (v w : Queue) (e : Errno)
    → get m id ≡ Some v → step v ≡ Err e → w ≡ v → es ≡ set_value (is_at (nat_cmp id)) m w
    → Changes step m id es (Fail e)
unsent-lands step m es id v w e there bad same written =
    rw (there, bad) (same-lands m es id v w there same written, refl)
