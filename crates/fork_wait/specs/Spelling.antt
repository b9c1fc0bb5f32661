-- The bytes of a family, as one node sends it to another (profile).
use Rattle.std.specs.Prelude.{◌≡◌, ℕ, ◌<◌, ◌^◌, All, List, [], ◌∷◌, ◌++◌, length, refl}
use Rattle.std.specs.Int.{w32, to_be_bytes}
use Rattle.std.specs.List.{flat_map}
use Rattle.pico_base.specs.declared.reply.Ending.{Ending}
use Rattle.pico_base.specs.declared.reply.Ending.TheVariants.{Exited, Killed}
use Rattle.pico_base.specs.declared.signal.Sig.TheVariants.{Term}
use Rattle.kernel_model.specs.Row.{Family, EndedChild, ended_child}
use Rattle.pico_base.specs.Signal.{signal_number}
use Rattle.fork_wait.specs.Children.{AreChildren, children}

-- 0 and the status, or 1 and the signal's number
abbrev pub ending_bytes : Ending → List ℕ
ending_bytes (Exited status) = 0 ∷ status ∷ []
ending_bytes (Killed g) = 1 ∷ signal_number g ∷ []

-- a number in four bytes, high bytes first, and an ending
abbrev pub ended_bytes : EndedChild → List ℕ
ended_bytes e = to_be_bytes w32 e.pid ++ ending_bytes e.ending

-- the count of the living children and their numbers, then the count of the ended ones and each of these
unfoldable pub family_bytes : Family → List ℕ
family_bytes f = length f.living ∷ flat_map (to_be_bytes w32) f.living ++ length f.ended ∷ flat_map ended_bytes f.ended

-- the families that have bytes: all that a process can have
pub record HasBytes (f : Family) : Type 0 where
  pub sound : AreChildren (children f)
  pub numbers : All (λ n. n < 2 ^ 32) (children f)

example : family_bytes (record { living = 2 ∷ []; ended = ended_child 258 (Killed Term) ∷ [] }) ≡ 1 ∷ 0 ∷ 0 ∷ 0 ∷ 2 ∷ 1
    ∷ 0 ∷ 0 ∷ 1 ∷ 2 ∷ 1 ∷ 9 ∷ []
unfolding family_bytes
example = refl
