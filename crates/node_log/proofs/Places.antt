-- The same streams and seat, and looks at the lines of a script.
use Rattle.std.proofs.Common.{◌≡◌, ◌≢◌, ℕ, zero, suc, ◌+◌, ◌≤◌, Bool, true, false, not, nat_eq, if◌then◌else◌, List, [], ◌∷◌, length, Option, Some, refl, sym, ap, subst, ◌∙◌, arith}
use Rattle.std.specs.List.{filter, AllByRecursion}
use Rattle.std.proofs.lemmas.Bool.{eqb-false}
use Rattle.pico_base.specs.declared.script.Script.{Script}
use Rattle.world_model.specs.World.{numbers, node_count}
use Rattle.log_model.specs.declared.answer.LogFault.{LogFault}
use Rattle.log_model.specs.declared.found.Found.{Found}
use Rattle.log_model.specs.Views.{Line}
use Rattle.log_model.specs.Looks.{Looks, Passed, Stopped, Went}
use Rattle.log_model.specs.Forkers.{forker_of}
use Rattle.log_model.specs.Logged.{IsOfScript, others_in, others_of}
use Rattle.node_lines.specs.Lines.{AreSameLines}
use Rattle.node_log.specs.declared.works.Works.{Works}
use Rattle.node_log.specs.Parts.{IsSamePlace, view_with}

-- ---- the same lines

-- lines are the same as they are
pub lines-same : (lines : List Line) → AreSameLines lines lines
lines-same [] = tt
lines-same (line ∷ lines) = (record { other = refl; out = refl; into = refl }, lines-same lines)

-- and the same as those that were the same before
pub lines-again : (xs ys zs : List Line) → AreSameLines xs ys → AreSameLines ys zs → AreSameLines xs zs
lines-again [] [] [] s t = tt
lines-again [] [] (z ∷ zs) s t = t
lines-again [] (y ∷ ys) zs s t = absurd s
lines-again (x ∷ xs) [] zs s t = absurd s
lines-again (x ∷ xs) (y ∷ ys) [] s t = absurd t
lines-again (x ∷ xs) (y ∷ ys) (z ∷ zs) s t = (
  record { other = t.0.other ∙ s.0.other; out = t.0.out ∙ s.0.out; into = t.0.into ∙ s.0.into },
  lines-again xs ys zs s.1 t.1,
)

-- the same lines are with the same nodes
pub others-same : (olds news : List Line) → AreSameLines olds news → others_in news ≡ others_in olds
others-same [] [] s = refl
others-same [] (new ∷ news) s = absurd s
others-same (old ∷ olds) [] s = absurd s
others-same (old ∷ olds) (new ∷ news) s =
    let first : new.other ≡ old.other = s.0.other in
    let rest : others_in news ≡ others_in olds = others-same olds news s.1 in
    cc

-- the same lines are as many
pub count-same : (olds news : List Line) → AreSameLines olds news → length news ≡ length olds
count-same [] [] s = refl
count-same [] (new ∷ news) s = absurd s
count-same (old ∷ olds) [] s = absurd s
count-same (old ∷ olds) (new ∷ news) s = ap suc (count-same olds news s.1)

-- ---- it is a node of the script still

-- who has the same place is a node of the script still
pub of_script-after : (script : Script) (old new : Works) (quiet later : ℕ) (fault next : Option LogFault)
    → IsOfScript script (view_with old quiet fault) → IsSamePlace old new
    → ((q : ℕ) → new.forker ≡ Some q → q ≡ forker_of script old.number)
    → IsOfScript script (view_with new later next)
of_script-after script old new quiet later fault next h same known =
    record {
      low = let low : 1 ≤ old.number = h.low in omega (arith, same.number);
      high = let high : old.number ≤ node_count script = h.high in omega (arith, same.number);
      others =
          others-same old.lines.items new.lines.items same.lines ∙ h.others
          ∙ ap (others_of script) (sym same.number);
      forker = λ q e. known q e ∙ ap (forker_of script) (sym same.number);
    }

-- ---- looks at lines of a script

abbrev AgreesOn : (ℕ → Bool) → (ℕ → Bool) → List ℕ → Type 0
AgreesOn may may' ns = AllByRecursion (λ q. may q ≡ may' q) ns

looks-along : (may may' : ℕ → Bool) (olds : List Line) (found : Found) (news : List Line)
    → AgreesOn may may' (others_in olds) → Looks may olds found news → Looks may' olds found news
looks-along may may' [] found [] a h = h
looks-along may may' [] found (new ∷ news) a h = absurd h
looks-along may may' (old ∷ olds) found [] a h = absurd h
looks-along may may' (old ∷ olds) found (new ∷ news) a h =
    elim h [
      | Passed m e rest ↦ Passed (sym a.0 ∙ m) e (looks-along may may' olds found news a.1 rest)
      | Stopped m end look e ↦ Stopped (sym a.0 ∙ m) end look e
      | Went first next m end look rest e ↦
          Went first next (sym a.0 ∙ m) end look (looks-along may may' olds next news a.1 rest) e
    ]

agree-first : (may may' : ℕ → Bool) (number low : ℕ) (ns : List ℕ) → AgreesOn may may' ns
    → (b : Bool) → nat_eq low number ≡ b → (low ≢ number → may low ≡ may' low)
    → AgreesOn may may' (if not b then low ∷ ns else ns)
agree-first may may' number low ns rest true e agree = rest
agree-first may may' number low ns rest false e agree = (agree (eqb-false low number e), rest)

above-agree : (may may' : ℕ → Bool) (number low count : ℕ) → 1 ≤ low
    → ((q : ℕ) → 1 ≤ q → q ≢ number → may q ≡ may' q)
    → AgreesOn may may' (filter (λ q. not (nat_eq q number)) (numbers low count))
above-agree may may' number low zero h agree = tt
above-agree may may' number low (suc count) h agree =
    let rest = above-agree may may' number (low + 1) count (omega arith) agree in
    agree-first may may' number low (filter (λ q. not (nat_eq q number)) (numbers (low + 1) count)) rest
    (nat_eq low number) refl (agree low h)

-- where two tests agree on all nodes but this one, the looks are the same
pub looks-of_script : (script : Script) (number : ℕ) (may may' : ℕ → Bool) (olds : List Line) (found : Found)
    (news : List Line) → others_in olds ≡ others_of script number
    → ((q : ℕ) → 1 ≤ q → q ≢ number → may q ≡ may' q) → Looks may olds found news → Looks may' olds found news
looks-of_script script number may may' olds found news e agree h =
    let all = above-agree may may' number 1 (node_count script) (omega arith) agree in
    looks-along may may' olds found news (subst (AgreesOn may may') (sym e) all) h
