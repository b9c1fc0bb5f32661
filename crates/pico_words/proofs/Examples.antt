-- Words and what they ask for, computed.
use Rattle.std.proofs.Common.{◌≡◌, true, false, List, [], ◌∷◌, Option, Some, None, refl}
use Rattle.std.specs.Prelude.{ℕ, codes}
use Rattle.clap.proofs.OnLiterals.{clap_on_literals}
use Rattle.text_fields.specs.Fields.{digit_at, digits_front, number_at}
use Rattle.pico_words.specs.declared.words.Request.TheVariants.{Run, Simulate, Check, Generate, Boxes, Freeze, Thaw, Queues}
use Rattle.pico_words.specs.Words.{request_in, is_taken, meant, meant_of_image, number_of}

-- options stand before the mode and behind it, and `--seed=N` is `--seed N`
options_around : request_in (codes "--steps" ∷ codes "sim" ∷ codes "--seed=7" ∷ [])
    ≡ Some (Simulate (record { seed = 7; steps = true }))
unfolding clap_on_literals request_in is_taken meant meant_of_image number_of digit_at digits_front number_at
options_around = refl

no_options : request_in (codes "gen" ∷ []) ≡ Some (Generate (record { seed = 0; steps = false }))
unfolding clap_on_literals request_in is_taken meant meant_of_image number_of digit_at digits_front number_at
no_options = refl

-- `--` ends the options
mode_behind_them : request_in (codes "--" ∷ codes "check" ∷ []) ≡ Some Check
unfolding clap_on_literals request_in is_taken meant meant_of_image number_of digit_at digits_front number_at
mode_behind_them = refl

-- `check` has no options
check_with_steps : request_in (codes "check" ∷ codes "--steps" ∷ []) ≡ None
unfolding clap_on_literals request_in is_taken meant meant_of_image number_of digit_at digits_front number_at
check_with_steps = refl

-- nor has `boxes`
boxes_alone : request_in (codes "boxes" ∷ []) ≡ Some Boxes
unfolding clap_on_literals request_in is_taken meant meant_of_image number_of digit_at digits_front number_at
boxes_alone = refl

boxes_with_a_number : request_in (codes "boxes" ∷ codes "--seed=7" ∷ []) ≡ None
unfolding clap_on_literals request_in is_taken meant meant_of_image number_of digit_at digits_front number_at
boxes_with_a_number = refl

-- and `run` has `--steps`, and no number
run_with_steps : request_in (codes "run" ∷ codes "--steps" ∷ []) ≡ Some (Run true)
unfolding clap_on_literals request_in is_taken meant meant_of_image number_of digit_at digits_front number_at
run_with_steps = refl

run_with_a_number : request_in (codes "run" ∷ codes "--seed" ∷ codes "7" ∷ []) ≡ None
unfolding clap_on_literals request_in is_taken meant meant_of_image number_of digit_at digits_front number_at
run_with_a_number = refl

-- so has `mq`
mq_with_steps : request_in (codes "mq" ∷ codes "--steps" ∷ []) ≡ Some (Queues true)
unfolding clap_on_literals request_in is_taken meant meant_of_image number_of digit_at digits_front number_at
mq_with_steps = refl

mq_with_a_number : request_in (codes "mq" ∷ codes "--seed" ∷ codes "7" ∷ []) ≡ None
unfolding clap_on_literals request_in is_taken meant meant_of_image number_of digit_at digits_front number_at
mq_with_a_number = refl

-- no option is given twice, and a number has no leading zero
steps_twice : request_in (codes "sim" ∷ codes "--steps" ∷ codes "--steps" ∷ []) ≡ None
unfolding clap_on_literals request_in is_taken meant meant_of_image number_of digit_at digits_front number_at
steps_twice = refl

leading_zero : request_in (codes "sim" ∷ codes "--seed" ∷ codes "07" ∷ []) ≡ None
unfolding clap_on_literals request_in is_taken meant meant_of_image number_of digit_at digits_front number_at
leading_zero = refl

-- `freeze` has a number, and `thaw` no option
freeze_some : request_in (codes "freeze" ∷ codes "--seed" ∷ codes "2" ∷ []) ≡ Some (Freeze 2)
unfolding clap_on_literals request_in is_taken meant meant_of_image number_of digit_at digits_front number_at
freeze_some = refl

freeze_with_steps : request_in (codes "freeze" ∷ codes "--steps" ∷ []) ≡ None
unfolding clap_on_literals request_in is_taken meant meant_of_image number_of digit_at digits_front number_at
freeze_with_steps = refl

thaw_alone : request_in (codes "thaw" ∷ []) ≡ Some Thaw
unfolding clap_on_literals request_in is_taken meant meant_of_image number_of digit_at digits_front number_at
thaw_alone = refl

thaw_with_a_number : request_in (codes "thaw" ∷ codes "--seed=2" ∷ []) ≡ None
unfolding clap_on_literals request_in is_taken meant meant_of_image number_of digit_at digits_front number_at
thaw_with_a_number = refl

-- a mode must be given, and be one of the eight
nothing : request_in [] ≡ None
unfolding clap_on_literals request_in is_taken meant meant_of_image number_of digit_at digits_front number_at
nothing = refl

help : request_in (codes "--help" ∷ []) ≡ None
unfolding clap_on_literals request_in is_taken meant meant_of_image number_of digit_at digits_front number_at
help = refl
