-- A small generated script, computed.
use Rattle.std.specs.Prelude.{◌≡◌, ◌+◌, ◌*◌, [], ◌∷◌, ◌++◌, length, map, replicate, refl, codes, sum_by}
use Rattle.std.specs.Fmt.{digits}
use Rattle.pico_base.specs.declared.script.Block.{Block}
use Rattle.script_writer.specs.Generated.{make, send, receive, fork, generated}

-- main makes its queue `s`, then a queue `q1`, sends it 10 messages, and forks `w1`, which receives them and tells main
smallest : (generated 0).blocks
    ≡ record {
      name = codes "main";
      lines = make 1998 ∷ make 1778 ∷ (replicate 10 (send 1778) ++ fork 1 ∷ []);
    }
    ∷ record { name = codes "w1"; lines = replicate 10 (receive 1778) ++ send 1998 ∷ [] }
    ∷ []
unfolding generated digits
smallest = refl

-- 12 workers of 21 messages each, whose names have one digit or two
names_of_eleven : map (λ (b : Block). b.name) (generated 11).blocks
    ≡ codes "main" ∷ codes "w1" ∷ codes "w2" ∷ codes "w3" ∷ codes "w4" ∷ codes "w5" ∷ codes "w6" ∷ codes "w7"
    ∷ codes "w8" ∷ codes "w9" ∷ codes "w10" ∷ codes "w11" ∷ codes "w12" ∷ []
unfolding generated digits
names_of_eleven = refl

lines_of_eleven : sum_by (λ (b : Block). length b.lines) (generated 11).blocks ≡ 1 + 12 * 23 + 12 * 22
unfolding generated digits
lines_of_eleven = refl
