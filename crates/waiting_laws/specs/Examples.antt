-- Worked examples beside those of the definitions, computed by the checker: what waits without a trace of it, what is
-- withdrawn, and what is removed.
use Rattle.std.specs.Prelude.{◌≡◌, pos, [], ◌∷◌, refl, codes}
use Rattle.pico_base.specs.declared.call.Call.TheVariants as calls
use Rattle.pico_base.specs.declared.numbers.Name.TheVariants.{Msg}
use Rattle.pico_base.specs.declared.reply.Errno.TheVariants.{Einval, Eidrm, Eintr}
use Rattle.pico_base.specs.declared.reply.Reply.TheVariants.{Num, Stat, Fail}
use Rattle.pico_base.specs.declared.signal.Sig.TheVariants.{Usr1}
use Rattle.pico_base.specs.declared.signal.SigArg.TheVariants.{Is}
use Rattle.pico_base.specs.declared.signal.Act.TheVariants.{Catch}
use Rattle.waiting_model.specs.Examples.{by, withdraws, outcomes, gives, number, fails, parks, wakes, sends, sends_at_once, receives, receives_at_once, text}

-- a removal wakes who sends and who receives alike
pub removes_a_full_queue : outcomes (
    by 1 (calls.MsgSet 1 1) ∷ sends 1 (pos 1) (codes "a") ∷ receives 2 (pos 2) 8 ∷ sends 3 (pos 1) (codes "b")
    ∷ by 1 (calls.MsgRmid 1) ∷ sends 3 (pos 1) [] ∷ [])
    ≡ number 0 ∷ number 0 ∷ parks ∷ parks ∷ wakes (Num 0) ((2, Fail Eidrm) ∷ (3, Fail Eidrm) ∷ []) ∷ fails Einval ∷ []
removes_a_full_queue = refl

-- a text whose send waits takes no room: what fits goes in before it
pub takes_no_room_while_it_waits : outcomes (
    by 1 (calls.MsgSet 1 4) ∷ sends 1 (pos 1) (codes "abc") ∷ sends 2 (pos 1) (codes "de")
    ∷ sends_at_once 3 (pos 2) (codes "f") ∷ by 1 (calls.MsgStat 1) ∷ receives_at_once 1 (pos 0) 8 ∷ [])
    ≡ number 0 ∷ number 0 ∷ parks ∷ number 0 ∷ gives (Stat 2 4 3 0)
    ∷ wakes (text (pos 1) (codes "abc")) ((2, Num 0) ∷ []) ∷ []
takes_no_room_while_it_waits = refl

-- a send that is withdrawn is never made, and those behind it keep their order
pub withdraws_a_send : outcomes (
    by 2 (calls.SigAction (Is Usr1) Catch) ∷ by 1 (calls.MsgSet 1 1) ∷ sends 1 (pos 1) (codes "a")
    ∷ sends 2 (pos 1) (codes "b") ∷ sends 3 (pos 1) (codes "c") ∷ by 1 (calls.Kill 2 (Is Usr1)) ∷ withdraws 2 (Msg 1)
    ∷ receives_at_once 1 (pos 0) 8 ∷ by 1 (calls.MsgStat 1) ∷ [])
    ≡ number 0 ∷ number 0 ∷ number 0 ∷ parks ∷ parks ∷ number 0 ∷ fails Eintr
    ∷ wakes (text (pos 1) (codes "a")) ((3, Num 0) ∷ []) ∷ gives (Stat 1 1 3 1) ∷ []
withdraws_a_send = refl
