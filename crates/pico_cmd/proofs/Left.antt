-- How runs are left, and the status that goes with it.
use Rattle.std.proofs.Common.{◌≡◌, ◌⊎◌, inl, inr, ℕ, zero, suc, ◌+◌, ◌<◌, ◌≤◌, Bool, true, false, ◌||◌, List, [], ◌∷◌, length, drop, get_or, Option, Some, None, refl, sym, ap, subst, ◌∙◌, arith}
use Rattle.std.specs.Prelude.{IfSome, IsSome}
use Rattle.std.specs.List.{AllByRecursion}
use Rattle.std.specs.Option.{option_map_or}
use Rattle.std.proofs.lemmas.List.{at_drop_all, at_drop_more}
use Rattle.pico_base.specs.declared.script.Script.{Script}
use Rattle.world_model.specs.Run.{is_stalled}
use Rattle.world_model.specs.World.{World}
use Rattle.pico_run.specs.declared.rested.Rested.{Rested}
use Rattle.pico_run.specs.Rested.{IsRested}
use Rattle.pico_cmd.specs.declared.status.Status.{Status}
use Rattle.pico_cmd.specs.declared.status.Status.TheVariants as status
use Rattle.pico_cmd.specs.Promise.{OrStalled}
use Rattle.pico_cmd.specs.Stalled.{are_left_stalled, is_left_stalled, status_left}

-- a run with threads is left as its world is
pub left_as_world : (o : Option World) (stalled : Bool) → IsSome o → IfSome o (λ w. stalled ≡ is_stalled w)
    → stalled ≡ option_map_or is_stalled o false
left_as_world None stalled there is = absurd (let f : ⊥ = cc in f)
left_as_world (Some w) stalled there is = is

-- as the last world of its run is
pub left_as_last : (script : Script) (r : Rested) (k : IsRested script r) → is_stalled k.world ≡ is_left_stalled r
left_as_last script r k = sym (ap (λ (o : Option World). option_map_or is_stalled o false) k.is_world)

or_false : (b : Bool) → (b || false) ≡ b
or_false true = refl
or_false false = refl

-- of one run it is that run
pub left_alone : (r : Rested) → are_left_stalled (r ∷ []) ≡ is_left_stalled r
left_alone r = or_false (is_left_stalled r)

-- the status that goes with it is one of two
abbrev pub IsEnded : Status → Type 0
IsEnded s = (s ≡ status.Done) ⊎ (s ≡ status.Stalled)

-- the one that goes with how it is left
pub ended_so : (s : Status) (stalled : Bool) → s ≡ status_left stalled → IsEnded s
ended_so s false e = inl e
ended_so s true e = inr e

-- and it is due where Done is
pub ended_or_stalled : (s : Status) → IsEnded s → OrStalled (λ t. s ≡ t) status.Done
ended_or_stalled s (inl e) = inl e
ended_or_stalled s (inr e) = inr (refl, e)

-- ---- of several runs, asked one by one

-- none was found up to this place
abbrev pub IsLeftToAsk : List Rested → ℕ → Type 0
IsLeftToAsk rested at = are_left_stalled (drop at rested) ≡ are_left_stalled rested

-- what is left to ask is the run at this place, and those behind it
left_here : (rested : List Rested) (at : ℕ) (one : Rested) (r : Bool) → IsLeftToAsk rested at → at < length rested
    → one ≡ get_or rested at one → r ≡ is_left_stalled one
    → (r || are_left_stalled (drop (at + 1) rested)) ≡ are_left_stalled rested
left_here rested at one r left within read is =
    ap (λ (b : Bool). b || are_left_stalled (drop (at + 1) rested)) (is ∙ ap is_left_stalled read)
    ∙ sym (at_drop_more are_left_stalled rested at one within) ∙ left

-- it is left so
pub left_found : (rested : List Rested) (at : ℕ) (one : Rested) (r : Bool) → IsLeftToAsk rested at
    → at < length rested → one ≡ get_or rested at one → r ≡ is_left_stalled one → r ≡ true
    → true ≡ are_left_stalled rested
left_found rested at one r left within read is found =
    ap (λ (b : Bool). b || are_left_stalled (drop (at + 1) rested)) (sym found)
    ∙ left_here rested at one r left within read is

-- it isn't, and the next one is left to ask
pub left_next : (rested : List Rested) (at : ℕ) (one : Rested) (r : Bool) → IsLeftToAsk rested at
    → at < length rested → one ≡ get_or rested at one → r ≡ is_left_stalled one → r ≡ false
    → IsLeftToAsk rested (at + 1)
left_next rested at one r left within read is calm =
    ap (λ (b : Bool). b || are_left_stalled (drop (at + 1) rested)) (sym calm)
    ∙ left_here rested at one r left within read is

-- none is left to ask
pub left_none : (rested : List Rested) (at : ℕ) → IsLeftToAsk rested at → length rested ≤ at
    → false ≡ are_left_stalled rested
left_none rested at left over = sym (at_drop_all are_left_stalled rested at over) ∙ left

-- each has its world
pub there_at : (rested : List Rested) (at : ℕ) (one : Rested) → AllByRecursion (λ (r : Rested). IsSome r.world) rested
    → at < length rested → one ≡ get_or rested at one → IsSome one.world
there_at [] at one all within read = absurd (omega arith)
there_at (r ∷ rested) zero one all within read = subst (λ (x : Rested). IsSome x.world) (sym read) all.0
there_at (r ∷ rested) (suc at) one all within read = there_at rested at one all.1 (omega arith) read
