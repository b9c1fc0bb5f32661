-- Worked examples of the ends of lines, computed by the checker.
use Rattle.std.specs.Prelude.{◌≡◌, pos, [], ◌∷◌, Some, None, refl, codes}
use Rattle.std.specs.Fmt.{digits}
use Rattle.std.proofs.Common.{ap, arith, get_or}
use Rattle.pico_base.specs.declared.reply.Errno.TheVariants.{Enomsg}
use Rattle.pico_base.specs.declared.reply.Reply.TheVariants.{Num, Message, Fail}
use Rattle.kernel_model.specs.Effect.{reply_alone}
use Rattle.trace_text.specs.Expected.{EndsWith, numbered}

-- a number, whichever node carried the call out
pub a_number : EndsWith (numbered 0) (codes "0 by 1")
unfolding digits
a_number = record { fits = refl; node = 1; low = omega arith; high = omega arith; text = refl }

pub by_the_last_node : EndsWith (numbered 1776) (codes "1776 by 32")
unfolding digits
by_the_last_node = record { fits = refl; node = 32; low = omega arith; high = omega arith; text = refl }

-- no reply yet
pub parked : EndsWith (record { own = None; woken = [] }) (codes "parked by 2")
unfolding digits
parked = record { fits = refl; node = 2; low = omega arith; high = omega arith; text = refl }

-- an error
pub refused : EndsWith (reply_alone (Fail Enomsg)) (codes "ENOMSG by 3")
unfolding digits
refused = record { fits = refl; node = 3; low = omega arith; high = omega arith; text = refl }

-- a send whose message goes to a receiver that waits
pub wakes_another :
    EndsWith (record { own = Some (Num 0); woken = (1, Message (pos 1) (codes "hi")) ∷ [] })
    (codes "0 by 1 wakes 1 1 \"hi\"")
unfolding digits
wakes_another = record { fits = refl; node = 1; low = omega arith; high = omega arith; text = refl }

-- another number is not the end that is expected
pub another_number : EndsWith (numbered 7) (codes "8 by 1") → ⊥
unfolding digits
another_number ends = let first : 55 ≡ 56 = ap (λ line. get_or line 0 0) ends.text in absurd (omega (arith, first))
