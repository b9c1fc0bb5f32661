-- The opening world weighs at most 32 for each call of the script. So where each event lowers the weight, a run has at
-- most 32 events for each call.
use Rattle.std.proofs.Common.{◌≡◌, ℕ, zero, suc, ◌+◌, ◌-◌, ◌*◌, ◌<◌, ◌≤◌, Bool, true, false, List, [], ◌∷◌, length, map, replicate, slice_get, nat_eq, Some, refl, ap, sym, subst, ◌∙◌, arith}
use Rattle.std.specs.Prelude.{sum_by}
use Rattle.std.proofs.lemmas.Bool.{eqb-true}
use Rattle.std.proofs.lemmas.List.Sums.{sum_by-cons}
use Rattle.pico_base.specs.declared.script.Block.{Block}
use Rattle.pico_base.specs.declared.script.Event.{Event}
use Rattle.pico_base.specs.declared.script.Script.{Script}
use Rattle.kernel_model.specs.Fitting.{block_at}
use Rattle.kernel_model.specs.Script.{calls_in}
use Rattle.node_model.specs.Caller.{lines_in, lines_of}
use Rattle.world_model.specs.Node.{Node, first_node, opening_node, unborn_node}
use Rattle.world_model.specs.Run.{Runs}
use Rattle.world_model.specs.World.{World, node_count, numbers, opening_world}
use Rattle.world_laws.specs.Places.{Beside, CallPlace, Idle}
use Rattle.weight_laws.specs.Weights.{call_at, call_weight, calls_of, node_weight, row_weight, stream_weight, streams_weight, weight, cancel_weight, cancels_to, cancels_weight}
use Rattle.weight_laws.proofs.Parts.{no-table}
use Rattle.weight_laws.specs.Runs.{EachGoesOn, GoesOn, RunsAreShort}

-- ---- the opening world

opening-node-weight : (script : Script) (p : ℕ)
    → node_weight script (opening_node p) ≤ 32 * sum_by (λ line. line.tries) (lines_of script p)
opening-node-weight script p = by-test (nat_eq p 1) refl
  where
    by-test : (t : Bool) → nat_eq p 1 ≡ t
        → node_weight script (opening_node p) ≤ 32 * sum_by (λ line. line.tries) (lines_of script p)
    by-test true h =
        let e : p ≡ 1 = eqb-true p 1 h
        in subst (λ q. node_weight script (opening_node q) ≤ 32 * sum_by (λ line. line.tries) (lines_of script q))
        (sym e) (omega arith)
    by-test false h =
        let e : opening_node p ≡ unborn_node p =
        ap (λ (b : Bool). elim b [ true ↦ first_node | false ↦ unborn_node p ]) h
        in let none = no-table (nat_eq p 1)
        in subst (λ (m : Node). node_weight script m ≤ 32 * sum_by (λ line. line.tries) (lines_of script p)) (sym e)
        (omega (arith, none))

block-weight : (script : Script) (i : ℕ) (b : Block) → slice_get script.blocks i ≡ Some b
    → node_weight script (opening_node (1 + i)) ≤ 32 * calls_in b
block-weight script i b h =
    let same : 1 + i - 1 ≡ i = omega arith
    in let at : block_at script (1 + i) ≡ Some b = ap (slice_get script.blocks) same ∙ h
    in let lines : sum_by (λ line. line.tries) (lines_of script (1 + i)) ≡ calls_in b =
    ap (λ o. sum_by (λ line. line.tries) (lines_in o)) at
    in let few = opening-node-weight script (1 + i)
    in omega (arith, lines, few)

numbered-sum : (script : Script) (bs : List Block) (first : ℕ)
    → ((i : ℕ) (b : Block) → slice_get bs i ≡ Some b
    → node_weight script (opening_node (first + i)) ≤ 32 * calls_in b)
    → sum_by (node_weight script) (map opening_node (numbers first (length bs))) ≤ 32 * sum_by calls_in bs
numbered-sum script [] first h = omega arith
numbered-sum script (b ∷ bs) first h =
    let e : first + 0 ≡ first = omega arith
    in let here : node_weight script (opening_node first) ≤ 32 * calls_in b =
    subst (λ q. node_weight script (opening_node q) ≤ 32 * calls_in b) e (h 0 b refl)
    in let rest = numbered-sum script bs (first + 1)
    (λ i c g. let f : first + suc i ≡ first + 1 + i = omega arith
    in subst (λ q. node_weight script (opening_node q) ≤ 32 * calls_in c) f (h (suc i) c g))
    in let x = sum_by-cons (node_weight script) (opening_node first)
    (map opening_node (numbers (first + 1) (length bs)))
    in let y = sum_by-cons calls_in b bs
    in omega (arith, here, rest, x, y)

no-frames : (count : ℕ) → row_weight (replicate count []) ≡ 0
no-frames zero = refl
no-frames (suc count) =
    let rest = no-frames count
    in let x = sum_by-cons stream_weight [] (replicate count [])
    in omega (arith, rest, x)

no-streams : (count m : ℕ) → streams_weight (replicate count (replicate m [])) ≡ 0
no-streams zero m = refl
no-streams (suc count) m =
    let rest = no-streams count m
    in let here = no-frames m
    in let x = sum_by-cons row_weight (replicate m []) (replicate count (replicate m []))
    in omega (arith, rest, here, x)

no-cancels-to : (to count : ℕ) → cancels_to to (replicate count []) ≡ 0
no-cancels-to to zero = refl
no-cancels-to to (suc count) =
    let rest = no-cancels-to to count
    in let x = sum_by-cons (λ there. sum_by (cancel_weight to) there) [] (replicate count [])
    in omega (arith, rest, x)

no-cancels : (to count m : ℕ) → cancels_weight to (replicate count (replicate m [])) ≡ 0
no-cancels to zero m = refl
no-cancels to (suc count) m =
    let rest = no-cancels (to + 1) count m in let here = no-cancels-to to m in omega (arith, rest, here)

no-calls : (call : ℕ → CallPlace) → ((p : ℕ) → call p ≡ Idle) → (first count : ℕ)
    → sum_by (call_at call) (numbers first count) ≡ 0
no-calls call idle first zero = refl
no-calls call idle first (suc count) =
    let rest = no-calls call idle (first + 1) count
    in let x = sum_by-cons (call_at call) first (numbers (first + 1) count)
    in let one : call_at call first ≡ 0 = ap call_weight (idle first)
    in omega (arith, rest, x, one)

-- The opening world weighs at most 32 for each call.
pub opening-weight : (script : Script) (call : ℕ → CallPlace) → ((p : ℕ) → call p ≡ Idle)
    → weight script (opening_world script) call ≤ 32 * calls_of script
opening-weight script call idle =
    let nodes = numbered-sum script script.blocks 1 (block-weight script)
    in let streams = no-streams (node_count script) (node_count script)
    in let cancels = no-cancels 1 (node_count script) (node_count script)
    in let calls = no-calls call idle 1 (node_count script)
    in omega (arith, nodes, streams, cancels, calls)

-- ---- a run

along : (script : Script) (Holding : World → Beside → Type 0) → EachGoesOn script Holding → (w last : World)
    (b : Beside) → Holding w b → (events : List Event) → Runs w events last → length events ≤ weight script w b.call
along script Holding each w last b holds [] run = omega arith
along script Holding each w last b holds (e ∷ events) run =
    let on : GoesOn script Holding w run.next b = each w run.next b e holds run.enabled run.steps
    in let low : weight script run.next on.beside.call < weight script w b.call = on.lower
    in let rest = along script Holding each run.next last on.beside on.holds events run.rest
    in omega (arith, low, rest)

-- Where each event lowers the weight, runs are short.
pub runs-are-short : (script : Script) (Holding : World → Beside → Type 0) → EachGoesOn script Holding → (b : Beside)
    → Holding (opening_world script) b → ((p : ℕ) → b.call p ≡ Idle) → RunsAreShort script
runs-are-short script Holding each b holds idle events last run =
    let all = along script Holding each (opening_world script) last b holds events run
    in let first = opening-weight script b.call idle
    in omega (arith, all, first)
