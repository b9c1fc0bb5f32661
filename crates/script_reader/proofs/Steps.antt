-- A line without a fault, and what it leaves.
use Rattle.std.proofs.Common.{◌≡◌, ℕ, ◌+◌, ◌≤◌, Bool, true, false, not, ◌&&◌, ◌||◌, cond, ltb, List, [], ◌∷◌, length, Option, Some, None, Result, Err, refl, sym, ap, arith}
use Rattle.std.proofs.lemmas.Bool.{ltb-false}
use Rattle.std.proofs.lemmas.List.{length-append}
use Rattle.std.proofs.lemmas.Option.{none-some}
use Rattle.pico_base.specs.declared.script.Block.{Block}
use Rattle.script_reader.specs.declared.fault.ScriptFault.{ScriptFault}
use Rattle.script_reader.specs.declared.fault.ScriptStop.{ScriptStop}
use Rattle.script_reader.specs.declared.fault.ScriptStop.TheVariants.{At}
use Rattle.script_reader.specs.declared.place.Place.{Place}
use Rattle.script_reader.specs.declared.says.Said.{Said}
use Rattle.script_reader.specs.declared.says.Said.TheVariants.{Skipped, Opens, BadProc, Ends, Unknown, Bad, Forks, Calls}
use Rattle.script_reader.specs.Says.{said_of}
use Rattle.script_reader.specs.Fault as spec
use Rattle.script_reader.specs.Fault.{start, has_fault, fault_of, blocks_from, Blocks, Fails, GivesBlocks}

-- ---- what no fault says

pub record IsFaultless (place : Place) (size : ℕ) (said : Said) : Type 0 where
  pub short : ltb 4096 size ≡ false
  pub no_proc : (not place.inside && not (spec.is_proc said || spec.is_skipped said)) ≡ false
  pub no_end : (place.inside && spec.is_proc said) ≡ false
  pub known_call : (place.inside && spec.is_unknown said) ≡ false
  pub good : (spec.is_bad said || (spec.repeats place said || (place.over && spec.is_call said))) ≡ false
  pub set : spec.uses_unset place said ≡ false
  pub known_proc : spec.forks_nothing said ≡ false
  pub once : spec.forks_again place said ≡ false
  pub forked : spec.is_never_forked place said ≡ false
  pub forward : spec.forks_back place said ≡ false
  pub few_procs : spec.is_proc_too_many place said ≡ false
  pub few_calls : ltb 20000 (place.calls + spec.calls_of place said) ≡ false

after_none : (b : Bool) (x : ScriptFault) (o : Option ScriptFault) → cond b (Some x) o ≡ None → (b ≡ false) × (o ≡ None)
after_none true x o e = absurd (none-some x (sym e))
after_none false x o e = (refl, e)

-- without a fault none of the conditions holds
pub faultless : (place : Place) (size : ℕ) (said : Said) → fault_of place size said ≡ None
    → IsFaultless place size said
unfolding fault_of has_fault
faultless place size said e =
    let a = after_none _ _ _ e in
    let b = after_none _ _ _ a.1 in
    let c = after_none _ _ _ b.1 in
    let d = after_none _ _ _ c.1 in
    let f = after_none _ _ _ d.1 in
    let g = after_none _ _ _ f.1 in
    let h = after_none _ _ _ g.1 in
    let i = after_none _ _ _ h.1 in
    let j = after_none _ _ _ i.1 in
    let k = after_none _ _ _ j.1 in
    let l = after_none _ _ _ k.1 in
    let m = after_none _ _ _ l.1 in
    record {
      short = a.0;
      no_proc = b.0;
      no_end = c.0;
      known_call = d.0;
      good = f.0;
      set = g.0;
      known_proc = h.0;
      once = i.0;
      forked = j.0;
      forward = k.0;
      few_procs = l.0;
      few_calls = m.0;
    }

-- ---- what a line adds

pub behind_calls : (place : Place) (said : Said)
    → (spec.behind place said).calls ≤ place.calls + spec.calls_of place said
behind_calls place Skipped = omega arith
behind_calls place (Opens name number) = omega arith
behind_calls place BadProc = omega arith
behind_calls place Ends = omega arith
behind_calls place Unknown = omega arith
behind_calls place Bad = omega arith
behind_calls place (Forks set None) = omega arith
behind_calls place (Forks set (Some number)) = omega arith
behind_calls place (Calls line) = omega arith

-- a line ends at most one block
pub behind_blocks : (place : Place) (said : Said) → length (spec.behind place said).blocks ≤ length place.blocks + 1
behind_blocks place Skipped = omega arith
behind_blocks place (Opens name number) = omega arith
behind_blocks place BadProc = omega arith
behind_blocks place Ends =
    omega (arith, length-append place.blocks (record { name = place.name; lines = place.lines } ∷ []))
behind_blocks place Unknown = omega arith
behind_blocks place Bad = omega arith
behind_blocks place (Forks set None) = omega arith
behind_blocks place (Forks set (Some number)) = omega arith
behind_blocks place (Calls line) = omega arith

-- the calls stay within 20,000
pub calls_within : (place : Place) (size : ℕ) (said : Said) → fault_of place size said ≡ None
    → (spec.behind place said).calls ≤ 20000
calls_within place size said e =
    omega (
      arith,
      behind_calls place said,
      ltb-false 20000 (place.calls + spec.calls_of place said) (faultless place size said e).few_calls,
    )

-- before the first line there is no block and no call
pub start_place : (names : ℕ) (place : Place) → place ≡ start names → (length place.blocks ≡ 0) × (place.calls ≡ 0)
unfolding start
start_place names place e = (ap (λ (p : Place). length p.blocks) e, ap (λ (p : Place). p.calls) e)

-- ---- one line of a text

-- a line with a fault is the answer
pub blocks_from-stops : (names : List (List ℕ)) (place : Place) (number : ℕ) (line : List ℕ)
    (lines : List (List ℕ)) (said : Said) (fault : ScriptFault) → said ≡ said_of names line
    → fault_of place (length line) said ≡ Some fault
    → blocks_from names place number (line ∷ lines) ≡ Err (number, fault)
unfolding blocks_from
blocks_from-stops names place number line lines said fault is e =
    rw (← is, e) refl

-- a line without one leaves the answer to the rest
pub blocks_from-goes : (names : List (List ℕ)) (place : Place) (number : ℕ) (line : List ℕ)
    (lines : List (List ℕ)) (said : Said) → said ≡ said_of names line
    → fault_of place (length line) said ≡ None
    → blocks_from names place number (line ∷ lines)
    ≡ blocks_from names (spec.behind place said) (number + 1) lines
unfolding blocks_from
blocks_from-goes names place number line lines said is e =
    rw (← is, e) refl

-- where no line is left
pub blocks_from-ends : (names : List (List ℕ)) (place : Place) (number : ℕ) (lines : List (List ℕ))
    → lines ≡ [] → blocks_from names place number lines ≡ spec.ending place number
unfolding blocks_from
blocks_from-ends names place number lines e = rw e refl

pub fails_at : (stop : ScriptStop) (number : ℕ) (fault : ScriptFault) (total : Blocks) → stop ≡ At number fault
    → total ≡ Err (number, fault) → Fails stop total
fails_at stop number fault total e t = rw e t

-- an answer of the same reading
pub gives_same : (r : Result (List Block) ScriptStop) (read total : Blocks) → read ≡ total → GivesBlocks r read
    → GivesBlocks r total
gives_same r read total e h = rw (← e) h
