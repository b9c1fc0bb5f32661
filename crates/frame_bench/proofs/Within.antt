-- The frame that is passed keeps to the limits.
use Rattle.std.proofs.Common.{◌≡◌, ℕ, ◌^◌, ◌≤◌, List, ◌++◌, ◌∷◌, length, refl, arith, length-append}
use Rattle.std.proofs.lemmas.Bool.{and_from, lt-ltb, le-leb}
use Rattle.pico_base.specs.declared.numbers.Name.TheVariants as names
use Rattle.rpc_frame.specs.declared.frame.Frame.TheVariants as frames
use Rattle.frame_bytes.specs.Fields.{name_field, text, word}
use Rattle.frame_bytes.specs.Frames.{frame_body, max_frame}
use Rattle.frame_bytes.specs.Limits.{is_text, IsWithinLimits}

-- a frame with a deed of queue 1, whose body isn't longer than 65,536 bytes
pub grant_is_within : (body : List ℕ) → length body ≤ 65536
    → IsWithinLimits (frames.Grant record { name = names.Msg 1; body = body })
grant_is_within body short =
    let front : length (word (length body)) ≡ 4 = refl in
    let name : length (name_field (names.Msg 1)) ≡ 5 = refl in
    let whole = length-append (name_field (names.Msg 1)) (text body) in
    let behind = length-append (word (length body)) body in
    let few : length (frame_body (frames.Grant record { name = names.Msg 1; body = body })) ≤ max_frame = omega arith in
    and_from (is_text body) _ (lt-ltb (length body) (2 ^ 32) (omega arith)) (le-leb _ max_frame few)
