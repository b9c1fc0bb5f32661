-- How large scripts and images are.
use Rattle.std.proofs.Common.{◌≡◌, ℕ, ◌≤◌, Bool, true, false, cond, ltb, List, length, inl, inr, refl, ap, arith, length-take}
use Rattle.std.specs.Prelude.{Result, Ok, Err}
use Rattle.pico_base.specs.declared.script.Script.{Script}
use Rattle.script_reader.specs.declared.fault.ScriptStop.{ScriptStop}
use Rattle.script_reader.specs.Fault.{Reads, outcome}
use Rattle.pico_cmd.specs.Stop.{AreBytesUpTo}

not_first : (b : Bool) (stop : ScriptStop) (r : Result Script ScriptStop) (script : Script)
    → cond b (Err stop) r ≡ Ok script → b ≡ false
not_first true stop r script h = absurd cc
not_first false stop r script h = refl

within : (n : ℕ) → ltb 1048576 n ≡ false → n ≤ 1048576
within n e = grind arith

-- a text of a script isn't too long
pub script_short : (bytes : List ℕ) (script : Script) → Reads bytes script → length bytes ≤ 1048576
unfolding outcome
script_short bytes script h =
    within (length bytes) (not_first (ltb 1048576 (length bytes)) _ _ script h)

-- so it is read whole
pub whole_script : (bytes left : List ℕ) (script : Script) → AreBytesUpTo 1048576 bytes left → Reads bytes script
    → bytes ≡ left
whole_script bytes left script (inl same) reads = same.0
whole_script bytes left script (inr long) reads =
    let short : length bytes ≤ 1048576 = script_short bytes script reads in
    absurd (let f : ⊥ = omega (arith, short, long.0, ap length long.1, length-take 1048577 left) in f)

-- an image isn't too long, so it is read whole
pub whole_image : (bytes left : List ℕ) → AreBytesUpTo 16777216 bytes left → length bytes ≤ 16777216 → bytes ≡ left
whole_image bytes left (inl same) short = same.0
whole_image bytes left (inr long) short =
    absurd (let f : ⊥ = omega (arith, short, long.0, ap length long.1, length-take 16777217 left) in f)

-- and so it is where what was left isn't too long
pub whole_left : (bytes left : List ℕ) → AreBytesUpTo 16777216 bytes left → length left ≤ 16777216 → bytes ≡ left
whole_left bytes left (inl same) short = same.0
whole_left bytes left (inr long) short = absurd (let f : ⊥ = omega (arith, short, long.0) in f)
