-- What a call comes to, as a trace prints it without the node between: the caller's own reply, or `parked`, and each
-- caller that is woken.
use Rattle.std.specs.Prelude.{◌≡◌, ℕ, pos, List, [], ◌∷◌, ◌++◌, Some, None, codes, refl}
use Rattle.std.specs.List.{flat_map}
use Rattle.std.specs.Fmt.{digits}
use Rattle.pico_base.specs.declared.reply.Errno.TheVariants.{Eidrm}
use Rattle.pico_base.specs.declared.reply.Outcome.{Outcome}
use Rattle.pico_base.specs.declared.reply.Reply.TheVariants.{Num, Message, Fail}
use Rattle.kernel_model.specs.Trace.{own_text, wake_text}

abbrev pub outcome_text : Outcome → List ℕ
outcome_text o = own_text o.own ++ flat_map wake_text o.woken

-- ---- examples

-- a call that waits
pub parked-text : outcome_text (record { own = None; woken = [] }) ≡ codes "parked"
parked-text = refl

-- a queue is removed at which processes 3 and 2 wait
pub removal-text : outcome_text (record { own = Some (Num 0); woken = (3, Fail Eidrm) ∷ (2, Fail Eidrm) ∷ [] })
    ≡ codes "0 wakes 3 EIDRM wakes 2 EIDRM"
unfolding digits
removal-text = refl

-- a message is sent to a queue at which process 2 waits for one
pub message-text : outcome_text (record { own = Some (Num 0); woken = (2, Message (pos 1) (codes "hi")) ∷ [] })
    ≡ codes "0 wakes 2 1 \"hi\""
unfolding digits
message-text = refl
