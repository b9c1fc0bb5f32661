-- A script has no more blocks than lines headed by `proc`.
use Rattle.std.proofs.Common.{◌≡◌, ℕ, ◌+◌, ◌≤◌, Bool, true, false, not, ◌&&◌, ◌==◌, cond, ltb, List, [], ◌∷◌, length, Option, Some, None, Result, Ok, Err, codes, bytes_eq, refl, sym, ap, subst, arith}
use Rattle.std.proofs.lemmas.Bool.{and_parts, ltb-false}
use Rattle.std.proofs.lemmas.List.{length-append}
use Rattle.std.proofs.lemmas.Option.{same_Some, none-some}
use Rattle.std.proofs.lemmas.Slice.Eq.{bytes_eq-Decides}
use Rattle.pico_base.specs.declared.script.Block.{Block}
use Rattle.kernel_model.specs.Script.{is_name}
use Rattle.script_reader.specs.declared.fault.ScriptFault.{ScriptFault}
use Rattle.script_reader.specs.declared.fault.ScriptFault.TheVariants.{NoEnd, NoProc}
use Rattle.script_reader.specs.declared.place.Place.{Place}
use Rattle.script_reader.specs.declared.says.Said.{Said}
use Rattle.script_reader.specs.declared.says.Said.TheVariants.{Skipped, Opens, BadProc, Ends, Unknown, Bad, Forks, Calls}
use Rattle.script_reader.specs.Says.{is_comment, opened_by, opening_at, names_of, said_of}
use Rattle.script_reader.specs.Words.{words_of}
use Rattle.script_reader.specs.Fault as script
use Rattle.script_reader.specs.Fault.{Blocks, blocks_from, blocks_of, start, fault_of, behind}
use Rattle.script_reader.proofs.Steps.{IsFaultless, faultless}
use Rattle.script_reader.proofs.Saying.{IsFine, said_fine}
use Rattle.script_reader.proofs.Opened.{inside_of, not_both}
use Rattle.sandbox_set.specs.declared.heading.Heading.{Heading}
use Rattle.sandbox_set.specs.declared.heading.Heading.TheVariants as headings
use Rattle.sandbox_set.specs.Boxes as spec
use Rattle.sandbox_set.specs.Boxes.{heading_of, heading_by, heads_node, placed, read_behind}
use Rattle.sandbox_set.specs.Parts.{nodes_behind, nodes_with, nodes_then, one_more}

-- ---- a line that opens a block is headed by `proc`

head_is : (words : List (List ℕ)) → heading_by (codes "proc" ∷ words) ≡ headings.Proc
unfolding is_comment
head_is words = refl

head_opened : (p : List ℕ) (words : List (List ℕ)) → bytes_eq p (codes "proc") ≡ true
    → heading_by (p ∷ words) ≡ headings.Proc
head_opened p words e =
    subst (λ w. heading_by (w ∷ words) ≡ headings.Proc) (sym ((bytes_eq-Decides p (codes "proc")).0 e)) (head_is words)

opened_heading : (words : List (List ℕ)) (name : List ℕ) → opened_by words ≡ Some name
    → heading_by words ≡ headings.Proc
unfolding opened_by
opened_heading [] name e = absurd (none-some name e)
opened_heading (p ∷ []) name e = absurd (none-some name e)
opened_heading (p ∷ n ∷ []) name e = opened_step (bytes_eq p (codes "proc") && is_name n) refl e
  where
    opened_step : (b : Bool) → (bytes_eq p (codes "proc") && is_name n) ≡ b → cond b (Some n) None ≡ Some name
        → heading_by (p ∷ n ∷ []) ≡ headings.Proc
    opened_step true b e = head_opened p (n ∷ []) (and_parts (bytes_eq p (codes "proc")) (is_name n) b).0
    opened_step false b e = absurd (none-some name e)
opened_heading (p ∷ n ∷ m ∷ words) name e = absurd (none-some name e)

opens_node : (line name : List ℕ) → opening_at line ≡ Some name → heads_node line ≡ true
unfolding heading_of
opens_node line name e = ap spec.heads_node_by (opened_heading (words_of line) name e)

-- ---- one line

-- the blocks so far, the open one with them
abbrev width : Place → ℕ
width place = length place.blocks + cond place.inside 1 0

node_step : (h : Heading) (nodes more : ℕ)
    → cond (not (spec.heads_node_by h)) (Some nodes) (cond (ltb nodes 32) (Some (nodes + 1)) None) ≡ Some more
    → (nodes ≤ more) × (spec.heads_node_by h ≡ true → more ≡ nodes + 1)
node_step headings.Skipped nodes more e = (omega (arith, same_Some nodes more e), λ t. absurd cc)
node_step headings.Sandbox nodes more e = (omega (arith, same_Some nodes more e), λ t. absurd cc)
node_step headings.EndSandbox nodes more e = (omega (arith, same_Some nodes more e), λ t. absurd cc)
node_step headings.Other nodes more e = (omega (arith, same_Some nodes more e), λ t. absurd cc)
node_step headings.Proc nodes more e = proc_step (ltb nodes 32) e
  where
    proc_step : (b : Bool) → cond b (Some (nodes + 1)) None ≡ Some more
        → (nodes ≤ more) × (true ≡ true → more ≡ nodes + 1)
    proc_step true e = let same = same_Some (nodes + 1) more e in (omega (arith, same), λ t. sym same)
    proc_step false e = absurd cc

width_step : (names : List (List ℕ)) (place : Place) (line : List ℕ) (said : Said) (nodes more : ℕ)
    → IsFine names (opening_at line) said → IsFaultless place (length line) said → nodes ≤ more
    → (heads_node line ≡ true → more ≡ nodes + 1) → width (behind place said) + nodes ≤ width place + more
width_step names place line (Opens name number) nodes more fine f grows node =
    let closed : place.inside ≡ false = not_both place.inside true f.no_end refl in
    let size : width place ≡ length place.blocks + 0 = ap (λ b. length place.blocks + cond b 1 0) closed in
    omega (arith, size, node (opens_node line name fine.2))
width_step names place line Ends nodes more fine f grows node =
    let inside : place.inside ≡ true = inside_of place Ends f.no_proc refl in
    let size : width place ≡ length place.blocks + 1 = ap (λ b. length place.blocks + cond b 1 0) inside in
    omega (
      arith,
      size,
      grows,
      length-append place.blocks (record { name = place.name; lines = place.lines } ∷ []),
    )
width_step names place line Skipped nodes more fine f grows node = omega (arith, grows)
width_step names place line BadProc nodes more fine f grows node = omega (arith, grows)
width_step names place line Unknown nodes more fine f grows node = omega (arith, grows)
width_step names place line Bad nodes more fine f grows node = omega (arith, grows)
width_step names place line (Forks set None) nodes more fine f grows node = omega (arith, grows)
width_step names place line (Forks set (Some number)) nodes more fine f grows node = omega (arith, grows)
width_step names place line (Calls call) nodes more fine f grows node = omega (arith, grows)

-- ---- all lines

more_ok : (r : Result ℕ ℕ) (n : ℕ) → one_more r ≡ Ok n → r ≡ Ok n
more_ok (Ok nodes) n e = e
more_ok (Err before) n e = absurd cc

same_ok : (x y : ℕ) → (let r : Result ℕ ℕ = Ok x in r ≡ Ok y) → x ≡ y
same_ok x y e = cc

same_blocks : (x y : List Block) → (let r : Blocks = Ok x in r ≡ Ok y) → x ≡ y
same_blocks x y e = cc

counted : (names : List (List ℕ)) (place : Place) (number : ℕ) (lines : List (List ℕ)) (nodes n : ℕ)
    (blocks : List Block) → blocks_from names place number lines ≡ Ok blocks → nodes_with nodes lines ≡ Ok n
    → nodes + length blocks ≤ n + width place
unfolding blocks_from
counted names place number [] nodes n blocks e c = end_step place.inside (length place.blocks == 0) e
  where
    end_step : (b d : Bool)
        → cond {A = Blocks} b (Err (number, NoEnd)) (cond d (Err (1, NoProc)) (Ok place.blocks)) ≡ Ok blocks
        → nodes + length blocks ≤ n + (length place.blocks + cond b 1 0)
    end_step true d e = absurd cc
    end_step false true e = absurd cc
    end_step false false e =
        omega (arith, ap length (same_blocks place.blocks blocks e), same_ok nodes n c)
counted names place number (line ∷ lines) nodes n blocks e c =
    fault_step (fault_of place (length line) (said_of names line)) refl e
    (λ more. counted names (behind place (said_of names line)) (number + 1) lines more n blocks)
  where
    more_step : (o : Option ℕ) → nodes_behind nodes line ≡ o → nodes_then o (λ more. nodes_with more lines) ≡ Ok n
        → fault_of place (length line) (said_of names line) ≡ None
        → ((more : ℕ) → nodes_with more lines ≡ Ok n
        → more + length blocks ≤ n + width (behind place (said_of names line)))
        → nodes + length blocks ≤ n + width place
    more_step None b c f others = absurd cc
    more_step (Some more) b c f others =
        let clean = faultless place (length line) (said_of names line) f in
        let fine = said_fine names line (ltb-false 4096 (length line) clean.short) in
        let node = node_step (heading_of line) nodes more b in
        omega (
          arith,
          others more (more_ok (nodes_with more lines) n c),
          width_step names place line (said_of names line) nodes more fine clean node.0 node.1,
        )

    fault_step : (o : Option ScriptFault) → fault_of place (length line) (said_of names line) ≡ o
        → script.unless o number (blocks_from names (behind place (said_of names line)) (number + 1) lines) ≡ Ok blocks
        → ((more : ℕ) → blocks_from names (behind place (said_of names line)) (number + 1) lines ≡ Ok blocks
        → nodes_with more lines ≡ Ok n → more + length blocks ≤ n + width (behind place (said_of names line)))
        → nodes + length blocks ≤ n + width place
    fault_step (Some fault) f e others = absurd cc
    fault_step None f e others = more_step (nodes_behind nodes line) refl c f (λ more. others more e)

-- the nodes behind a script are at least those before it and its blocks
pub script_nodes : (number : ℕ) (lines : List (List ℕ)) (nodes n : ℕ) (blocks : List Block)
    → read_behind number lines ≡ Ok blocks → nodes_with nodes lines ≡ Ok n → nodes + length blocks ≤ n
unfolding read_behind blocks_of start
script_nodes number lines nodes n blocks e c =
    let all : blocks_of lines ≡ Ok blocks = unplaced (blocks_of lines) e in
    omega (arith, counted (names_of lines) (start (length (names_of lines))) 1 lines nodes n blocks all c)
  where
    unplaced : (read : Blocks) → placed number lines read ≡ Ok blocks → read ≡ Ok blocks
    unplaced (Ok others) e = e
    unplaced (Err x) e = absurd cc
