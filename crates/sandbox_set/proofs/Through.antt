-- Going through a sandbox, line after line.
use Rattle.std.proofs.Common.{◌≡◌, ℕ, suc, ◌+◌, ◌<◌, ◌≤◌, Bool, true, false, not, cond, ltb, eqb, List, [], ◌∷◌, ◌++◌, length, drop, Option, Some, None, Result, Ok, Err, lt-ltb, le-ltb, eqb-true, refl, sym, ap, ◌∙◌, arith}
use Rattle.std.specs.List.{AllByRecursion}
use Rattle.std.specs.Option.{option_or}
use Rattle.std.specs.Prelude.{if◌then◌else◌, nat_lt}
use Rattle.std.proofs.lemmas.Bool.{eqb-false, eq-eqb, ltb-false}
use Rattle.std.proofs.lemmas.Option.{same_Some}
use Rattle.pico_base.specs.declared.script.Block.{Block}
use Rattle.script_reader.specs.declared.fault.ScriptFault.{ScriptFault}
use Rattle.script_reader.specs.Fault.{Blocks}
use Rattle.sandbox_set.specs.declared.heading.Heading.{Heading}
use Rattle.sandbox_set.specs.declared.heading.Heading.TheVariants.{Skipped, Sandbox, EndSandbox, Proc, Other}
use Rattle.sandbox_set.specs.declared.read.Sandbox.{Sandbox as Box}
use Rattle.sandbox_set.specs.declared.fault.BoxFault.{BoxFault}
use Rattle.sandbox_set.specs.declared.fault.BoxFault.TheVariants.{Script as OfScript, NoEndSandbox, TooManyNodes}
use Rattle.sandbox_set.specs.declared.fault.BoxStop.TheVariants.{At}
use Rattle.sandbox_set.specs.Boxes as spec
use Rattle.sandbox_set.specs.Boxes.{Place, Read, outside, behind, box_of, heading_of, ends_script, ends_sandbox, script_lines, own_fault, fault_at, fault_of, boxes_from, Stops}
use Rattle.sandbox_set.specs.Parts.{nodes_behind, nodes_with, nodes_then, one_more, own_end, is_closed}
use Rattle.sandbox_set.proofs.Headings.{inner, own_many, own_none, own_end_line, own_break, ends_is, breaks_is}

-- ---- one line

-- a line with a fault is the answer
pub from_stops : (place : Place) (number : ℕ) (line : List ℕ) (lines : List (List ℕ)) (fault : BoxFault)
    → fault_of place number line ≡ Some fault → boxes_from place number (line ∷ lines) ≡ Err (At number fault)
unfolding boxes_from
from_stops place number line lines fault e = rw e refl

-- a line without one leaves the answer to the rest
pub from_goes : (place : Place) (number : ℕ) (line : List ℕ) (lines : List (List ℕ))
    → fault_of place number line ≡ None
    → boxes_from place number (line ∷ lines) ≡ boxes_from (behind place number line lines) (number + 1) lines
unfolding boxes_from
from_goes place number line lines e = rw e refl

-- a fault of the line's own comes first
pub own_first : (place : Place) (number : ℕ) (line : List ℕ) (fault : BoxFault) → own_fault place line ≡ Some fault
    → fault_of place number line ≡ Some fault
own_first place number line fault e = ap (λ o. option_or o (spec.script_fault number place.begun)) e

-- else its fault is the script's
pub then_script : (place : Place) (number : ℕ) (line : List ℕ) → own_fault place line ≡ None
    → fault_of place number line ≡ spec.script_fault number place.begun
then_script place number line e = ap (λ o. option_or o (spec.script_fault number place.begun)) e

-- ---- the lines of a script

-- none of the lines ends a script
abbrev pub AllBody : List (List ℕ) → Type 0
AllBody lines = AllByRecursion (λ line. ends_script line ≡ false) lines

-- no line of a script ends it
pub script_body : (lines : List (List ℕ)) → AllBody (script_lines lines)
script_body [] = tt
script_body (line ∷ lines) = body_step (ends_script line) refl (script_body lines)
  where
    body_step : (b : Bool) → ends_script line ≡ b → AllBody (script_lines lines)
        → AllBody (cond b [] (line ∷ script_lines lines))
    body_step true e h = tt
    body_step false e h = (e, h)

body_goes : (h : Heading) (boxes : List Box) (name : List ℕ) (read : Blocks) (nodes more number : ℕ) (line : List ℕ)
    (lines : List (List ℕ)) → spec.ends_script_by h ≡ false
    → cond (not (spec.heads_node_by h)) (Some nodes) (cond (ltb nodes 32) (Some (nodes + 1)) None) ≡ Some more
    → spec.behind_by h (inner boxes name read nodes) number line lines ≡ inner boxes name read more
body_goes Skipped boxes name read nodes more number line lines b e =
    ap (inner boxes name read) (same_Some nodes more e)
body_goes Sandbox boxes name read nodes more number line lines b e = absurd cc
body_goes EndSandbox boxes name read nodes more number line lines b e = absurd cc
body_goes Other boxes name read nodes more number line lines b e =
    ap (inner boxes name read) (same_Some nodes more e)
body_goes Proc boxes name read nodes more number line lines b e = proc_step (ltb nodes 32) e
  where
    proc_step : (c : Bool) → cond c (Some (nodes + 1)) None ≡ Some more
        → inner boxes name read (nodes + 1) ≡ inner boxes name read more
    proc_step true e = ap (inner boxes name read) (same_Some (nodes + 1) more e)
    proc_step false e = absurd cc

behind_body : (boxes : List Box) (name : List ℕ) (read : Blocks) (nodes more number : ℕ) (line : List ℕ)
    (lines : List (List ℕ)) → ends_script line ≡ false → nodes_behind nodes line ≡ Some more
    → behind (inner boxes name read nodes) number line lines ≡ inner boxes name read more
behind_body boxes name read nodes more number line lines b e =
    body_goes (heading_of line) boxes name read nodes more number line lines b e

next_number : (number n : ℕ) → number + 1 + n ≡ number + suc n
next_number number n = omega arith

-- the script's fault if it stands before this line, or else this
abbrev pub script_before : ℕ → ℕ → ScriptFault → Read → Read
script_before limit m f other = if nat_lt m limit then Err (At m (OfScript f)) else other

-- what a fault of the sandbox's own comes to, with what the script reads as
abbrev pub stops_at : ℕ → BoxFault → Blocks → Read
stops_at line fault (Ok blocks) = Err (At line fault)
stops_at line fault (Err x) = script_before line x.0 x.1 (Err (At line fault))

module _ (boxes : List Box) (name : List ℕ) where
  -- the answer where the script has no fault: a node too many, or that of the lines behind the script
  abbrev pub after_ok : List Block → ℕ → ℕ → List (List ℕ) → Result ℕ ℕ → Read
  after_ok blocks number size tail (Err before) = Err (At (number + before) TooManyNodes)
  after_ok blocks number size tail (Ok nodes) = boxes_from (inner boxes name (Ok blocks) nodes) (number + size) tail

  shift_ok : (blocks : List Block) (number size : ℕ) (tail : List (List ℕ)) (r : Result ℕ ℕ)
      → after_ok blocks (number + 1) size tail r ≡ after_ok blocks number (suc size) tail (one_more r)
  shift_ok blocks number size tail (Err before) =
      let e : number + 1 + before ≡ number + (before + 1) = omega arith in
      ap (λ (n : ℕ). Err (At n TooManyNodes)) e
  shift_ok blocks number size tail (Ok nodes) =
      ap (λ (n : ℕ). boxes_from (inner boxes name (Ok blocks) nodes) n tail) (next_number number size)

  pub through_ok : (blocks : List Block) (body tail : List (List ℕ)) (nodes number : ℕ) → AllBody body
      → boxes_from (inner boxes name (Ok blocks) nodes) number (body ++ tail)
      ≡ after_ok blocks number (length body) tail (nodes_with nodes body)
  through_ok blocks [] tail nodes number h =
      let e : number ≡ number + 0 = omega arith in
      ap (λ (n : ℕ). boxes_from (inner boxes name (Ok blocks) nodes) n tail) e
  through_ok blocks (line ∷ body) tail nodes number h =
      ok_step (nodes_behind nodes line) refl (λ more. through_ok blocks body tail more (number + 1) h.1)
    where
      ok_step : (o : Option ℕ) → nodes_behind nodes line ≡ o
          → ((more : ℕ) → boxes_from (inner boxes name (Ok blocks) more) (number + 1) (body ++ tail)
          ≡ after_ok blocks (number + 1) (length body) tail (nodes_with more body))
          → boxes_from (inner boxes name (Ok blocks) nodes) number (line ∷ (body ++ tail))
          ≡ after_ok blocks number (suc (length body)) tail (nodes_then o (λ more. nodes_with more body))
      ok_step None e others =
          let n : number ≡ number + 0 = omega arith in
          from_stops (inner boxes name (Ok blocks) nodes) number line (body ++ tail) TooManyNodes
          (own_first (inner boxes name (Ok blocks) nodes) number line TooManyNodes
          (own_many boxes name (Ok blocks) nodes line h.0 e))
          ∙ ap (λ (k : ℕ). Err (At k TooManyNodes)) n
      ok_step (Some more) e others =
          from_goes (inner boxes name (Ok blocks) nodes) number line (body ++ tail)
          (then_script (inner boxes name (Ok blocks) nodes) number line
          (own_none boxes name (Ok blocks) nodes line more h.0 e))
          ∙ ap (λ p. boxes_from p (number + 1) (body ++ tail))
          (behind_body boxes name (Ok blocks) nodes more number line (body ++ tail) h.0 e)
          ∙ others more ∙ shift_ok blocks number (length body) tail (nodes_with more body)

  -- the answer where the script has a fault
  abbrev pub after_err : ℕ → ScriptFault → ℕ → ℕ → List (List ℕ) → Result ℕ ℕ → Read
  after_err m f number size tail (Err before) =
      script_before (number + before) m f (Err (At (number + before) TooManyNodes))
  after_err m f number size tail (Ok nodes) =
      script_before (number + size) m f (boxes_from (inner boxes name (Err (m, f)) nodes) (number + size) tail)

  shift_err : (m : ℕ) (f : ScriptFault) (number size : ℕ) (tail : List (List ℕ)) (r : Result ℕ ℕ)
      → after_err m f (number + 1) size tail r ≡ after_err m f number (suc size) tail (one_more r)
  shift_err m f number size tail (Err before) =
      let e : number + 1 + before ≡ number + (before + 1) = omega arith in
      ap (λ (n : ℕ). script_before n m f (Err (At n TooManyNodes))) e
  shift_err m f number size tail (Ok nodes) =
      ap (λ (n : ℕ). script_before n m f (boxes_from (inner boxes name (Err (m, f)) nodes) n tail))
      (next_number number size)

  later : (m : ℕ) (f : ScriptFault) (limit : ℕ) (other : Read) → limit ≤ m → script_before limit m f other ≡ other
  later m f limit other h = rw (le-ltb m limit h) refl

  sooner : (m : ℕ) (f : ScriptFault) (limit : ℕ) (other : Read) → m < limit
      → script_before limit m f other ≡ Err (At m (OfScript f))
  sooner m f limit other h = rw (lt-ltb m limit h) refl

  -- the fault is at the first line
  first_err : (m : ℕ) (f : ScriptFault) (size : ℕ) (tail : List (List ℕ)) (r : Result ℕ ℕ)
      → Err (At m (OfScript f)) ≡ after_err m f m (suc size) tail (one_more r)
  first_err m f size tail (Err before) =
      sym (sooner m f (m + (before + 1)) (Err (At (m + (before + 1)) TooManyNodes)) (omega arith))
  first_err m f size tail (Ok nodes) =
      sym (sooner m f (m + suc size) (boxes_from (inner boxes name (Err (m, f)) nodes) (m + suc size) tail)
      (omega arith))

  -- what the lines behind come to
  abbrev Others : ℕ → ScriptFault → List (List ℕ) → List (List ℕ) → ℕ → Type 0
  Others m f body tail number =
      (more : ℕ) → number + 1 ≤ m
      → boxes_from (inner boxes name (Err (m, f)) more) (number + 1) (body ++ tail)
      ≡ after_err m f (number + 1) (length body) tail (nodes_with more body)

  abbrev faulty : ℕ → ScriptFault → ℕ → Place
  faulty m f nodes = inner boxes name (Err (m, f)) nodes

  pub through_err : (m : ℕ) (f : ScriptFault) (body tail : List (List ℕ)) (nodes number : ℕ) → AllBody body
      → number ≤ m
      → boxes_from (inner boxes name (Err (m, f)) nodes) number (body ++ tail)
      ≡ after_err m f number (length body) tail (nodes_with nodes body)
  through_err m f [] tail nodes number h low =
      let e : number ≡ number + 0 = omega arith in
      ap (λ (n : ℕ). boxes_from (inner boxes name (Err (m, f)) nodes) n tail) e
      ∙ sym (later m f (number + 0) (boxes_from (inner boxes name (Err (m, f)) nodes) (number + 0) tail)
      (omega (arith, low)))
  through_err m f (line ∷ body) tail nodes number h low =
      err_step (nodes_behind nodes line) refl
      (λ more above. through_err m f body tail more (number + 1) h.1 above)
    where
      script_step : (b : Bool) (more : ℕ) → eqb m number ≡ b → own_fault (faulty m f nodes) line ≡ None
          → nodes_behind nodes line ≡ Some more → Others m f body tail number
          → boxes_from (faulty m f nodes) number (line ∷ (body ++ tail))
          ≡ after_err m f number (suc (length body)) tail (one_more (nodes_with more body))
      script_step true more b none e others =
          let same : m ≡ number = eqb-true m number b in
          let fault : fault_of (faulty m f nodes) number line ≡ Some (OfScript f) =
          then_script (faulty m f nodes) number line none ∙ ap (λ c. cond c (Some (OfScript f)) None) b in
          from_stops (faulty m f nodes) number line (body ++ tail) (OfScript f) fault
          ∙ ap (λ (n : ℕ). Err (At n (OfScript f))) (sym same)
          ∙ first_err m f (length body) tail (nodes_with more body)
          ∙ ap (λ (n : ℕ). after_err m f n (suc (length body)) tail (one_more (nodes_with more body))) same
      script_step false more b none e others =
          let other : m ≡ number → ⊥ = eqb-false m number b in
          let fault : fault_of (faulty m f nodes) number line ≡ None =
          then_script (faulty m f nodes) number line none ∙ ap (λ c. cond c (Some (OfScript f)) None) b in
          from_goes (faulty m f nodes) number line (body ++ tail) fault
          ∙ ap (λ p. boxes_from p (number + 1) (body ++ tail))
          (behind_body boxes name (Err (m, f)) nodes more number line (body ++ tail) h.0 e)
          ∙ others more (omega (arith, low, other))
          ∙ shift_err m f number (length body) tail (nodes_with more body)

      err_step : (o : Option ℕ) → nodes_behind nodes line ≡ o → Others m f body tail number
          → boxes_from (faulty m f nodes) number (line ∷ (body ++ tail))
          ≡ after_err m f number (suc (length body)) tail (nodes_then o (λ more. nodes_with more body))
      err_step None e others =
          let n : number ≡ number + 0 = omega arith in
          from_stops (faulty m f nodes) number line (body ++ tail) TooManyNodes
          (own_first (faulty m f nodes) number line TooManyNodes (own_many boxes name (Err (m, f)) nodes line h.0 e))
          ∙ ap (λ (k : ℕ). Err (At k TooManyNodes)) n
          ∙ sym (later m f (number + 0) (Err (At (number + 0) TooManyNodes)) (omega (arith, low)))
      err_step (Some more) e others =
          script_step (eqb m number) more refl (own_none boxes name (Err (m, f)) nodes line more h.0 e) e others

  -- ---- behind the script

  pub is_break : (line : List ℕ) (lines : List (List ℕ)) → script_lines (line ∷ lines) ≡ []
      → ends_script line ≡ true
  is_break line lines e = break_step (ends_script line) e
    where
      break_step : (b : Bool) → cond b [] (line ∷ script_lines lines) ≡ [] → b ≡ true
      break_step true e = refl
      break_step false e = absurd cc

  -- a sandbox that is broken off
  pub tail_open : (read : Blocks) (nodes number : ℕ) (tail : List (List ℕ)) → script_lines tail ≡ []
      → is_closed tail ≡ false
      → boxes_from (inner boxes name read nodes) number tail ≡ Err (At number NoEndSandbox)
  unfolding boxes_from
  tail_open read nodes number [] ends broken = refl
  tail_open read nodes number (line ∷ lines) ends broken =
      from_stops (inner boxes name read nodes) number line lines NoEndSandbox
      (own_first (inner boxes name read nodes) number line NoEndSandbox
      (own_break boxes name read nodes line (breaks_is line (is_break line lines ends) broken)))

  -- a sandbox that is ended, with its script
  pub tail_ok : (blocks : List Block) (nodes number : ℕ) (tail : List (List ℕ)) → is_closed tail ≡ true
      → boxes_from (inner boxes name (Ok blocks) nodes) number tail
      ≡ boxes_from (outside (boxes ++ box_of name blocks ∷ []) nodes) (number + 1) (drop 1 tail)
  tail_ok blocks nodes number [] closed = absurd cc
  tail_ok blocks nodes number (line ∷ lines) closed =
      let here : Place = inner boxes name (Ok blocks) nodes in
      from_goes here number line lines
      (then_script here number line (own_end_line boxes name (Ok blocks) nodes line (ends_is line closed)))
      ∙ ap (λ h. boxes_from (spec.behind_by h here number line lines) (number + 1) lines) (ends_is line closed)

  -- a sandbox that is ended, with the script's fault at its end
  pub tail_err : (m : ℕ) (f : ScriptFault) (nodes : ℕ) (tail : List (List ℕ)) → is_closed tail ≡ true
      → boxes_from (inner boxes name (Err (m, f)) nodes) m tail ≡ Err (At m (OfScript f))
  tail_err m f nodes [] closed = absurd cc
  tail_err m f nodes (line ∷ lines) closed =
      let here : Place = inner boxes name (Err (m, f)) nodes in
      from_stops here m line lines (OfScript f)
      (then_script here m line (own_end_line boxes name (Err (m, f)) nodes line (ends_is line closed))
      ∙ ap (λ c. cond c (Some (OfScript f)) None) (eq-eqb m m refl))

  -- ---- the whole sandbox

  module _ (body tail : List (List ℕ)) (nodes number : ℕ) (h : AllBody body) (ends : script_lines tail ≡ []) where
    -- an ended sandbox with its script
    pub whole_ok : (blocks : List Block) (n : ℕ) → nodes_with nodes body ≡ Ok n → is_closed tail ≡ true
        → boxes_from (inner boxes name (Ok blocks) nodes) number (body ++ tail)
        ≡ boxes_from (outside (boxes ++ box_of name blocks ∷ []) n) (number + length body + 1) (drop 1 tail)
    whole_ok blocks n e closed =
        through_ok blocks body tail nodes number h ∙ ap (after_ok blocks number (length body) tail) e
        ∙ tail_ok blocks n (number + length body) tail closed

    -- an ended sandbox with a fault of its script
    pub whole_err : (m : ℕ) (f : ScriptFault) (n : ℕ) → number ≤ m → m ≤ number + length body
        → nodes_with nodes body ≡ Ok n → is_closed tail ≡ true
        → boxes_from (inner boxes name (Err (m, f)) nodes) number (body ++ tail) ≡ Err (At m (OfScript f))
    whole_err m f n low high e closed =
        through_err m f body tail nodes number h low ∙ ap (after_err m f number (length body) tail) e
        ∙ err_at (ltb m (number + length body)) refl
      where
        err_at : (b : Bool) → ltb m (number + length body) ≡ b
            → cond b (Err (At m (OfScript f)))
            (boxes_from (inner boxes name (Err (m, f)) n) (number + length body) tail)
            ≡ Err (At m (OfScript f))
        err_at true b = refl
        err_at false b =
            let last : number + length body ≡ m = omega (arith, high, ltb-false m (number + length body) b) in
            ap (λ (k : ℕ). boxes_from (inner boxes name (Err (m, f)) n) k tail) last ∙ tail_err m f n tail closed

    pub whole_stops : (line : ℕ) (fault : BoxFault) (read : Blocks) (r : Result ℕ ℕ) (closed : Bool)
        → ((m : ℕ) (f : ScriptFault) → read ≡ Err (m, f) → number ≤ m) → nodes_with nodes body ≡ r
        → is_closed tail ≡ closed
        → own_end number r (length body) closed ≡ Some (line, fault)
        → boxes_from (inner boxes name read nodes) number (body ++ tail) ≡ stops_at line fault read
    whole_stops line fault read (Err before) closed low e c own =
        let pair = same_Some (number + before, TooManyNodes) (line, fault) own in
        let same : number + before ≡ line = ap (λ x. x.0) pair in
        let kind : TooManyNodes ≡ fault = ap (λ x. x.1) pair in
        many_read read low
        ∙ ap (λ (k : ℕ). stops_at k TooManyNodes read) same ∙ ap (λ (g : BoxFault). stops_at line g read) kind
      where
        many_read : (read : Blocks) → ((m : ℕ) (f : ScriptFault) → read ≡ Err (m, f) → number ≤ m)
            → boxes_from (inner boxes name read nodes) number (body ++ tail)
            ≡ stops_at (number + before) TooManyNodes read
        many_read (Ok blocks) low =
            through_ok blocks body tail nodes number h ∙ ap (after_ok blocks number (length body) tail) e
        many_read (Err (m, f)) low =
            through_err m f body tail nodes number h (low m f refl)
            ∙ ap (after_err m f number (length body) tail) e
    whole_stops line fault read (Ok n) true low e c own = absurd cc
    whole_stops line fault read (Ok n) false low e c own =
        let pair = same_Some (number + length body, NoEndSandbox) (line, fault) own in
        let same : number + length body ≡ line = ap (λ x. x.0) pair in
        let kind : NoEndSandbox ≡ fault = ap (λ x. x.1) pair in
        open_read read low
        ∙ ap (λ (k : ℕ). stops_at k NoEndSandbox read) same ∙ ap (λ (g : BoxFault). stops_at line g read) kind
      where
        open_read : (read : Blocks) → ((m : ℕ) (f : ScriptFault) → read ≡ Err (m, f) → number ≤ m)
            → boxes_from (inner boxes name read nodes) number (body ++ tail)
            ≡ stops_at (number + length body) NoEndSandbox read
        open_read (Ok blocks) low =
            through_ok blocks body tail nodes number h ∙ ap (after_ok blocks number (length body) tail) e
            ∙ tail_open (Ok blocks) n (number + length body) tail ends c
        open_read (Err (m, f)) low =
            through_err m f body tail nodes number h (low m f refl)
            ∙ ap (after_err m f number (length body) tail) e
            ∙ ap (script_before (number + length body) m f)
            (tail_open (Err (m, f)) n (number + length body) tail ends c)
