-- A sandbox that was read, or its first fault, is what reading the whole input comes to.
use Rattle.std.proofs.Common.{◌≡◌, ℕ, ◌+◌, ◌<◌, ◌≤◌, Bool, true, false, cond, ltb, List, [], ◌∷◌, ◌++◌, length, drop, eq-eqb, ne_eqb, Some, None, Result, Ok, Err, refl, sym, ap, subst, ◌∙◌, arith}
use Rattle.pico_base.specs.declared.script.Script.{Script}
use Rattle.script_reader.specs.declared.fault.ScriptFault.{ScriptFault}
use Rattle.script_reader.specs.Fault.{Blocks}
use Rattle.script_reader.specs.Words.{lines_of}
use Rattle.sandbox_set.specs.declared.read.Sandbox.{Sandbox as Box}
use Rattle.sandbox_set.specs.declared.fault.BoxFault.{BoxFault}
use Rattle.sandbox_set.specs.declared.fault.BoxFault.TheVariants.{Script as OfScript, NoSandbox}
use Rattle.sandbox_set.specs.declared.fault.BoxStop.{BoxStop}
use Rattle.sandbox_set.specs.declared.fault.BoxStop.TheVariants.{Memory, At}
use Rattle.sandbox_set.specs.declared.heading.Heading.TheVariants.{Skipped}
use Rattle.sandbox_set.specs.Boxes.{Place, Read, outside, opened, behind_by, box_of, heading_of, is_skipped, name_in, own_fault, read_behind, ending, boxes_from, boxes_of, Stops}
use Rattle.sandbox_set.specs.Parts.{IsPart, Closes, nodes_with, own_end, is_closed, script_from, first_of, from_here, from_line, from_inside, Stands, IsText}
use Rattle.sandbox_set.specs.Sound.{AreSound}
use Rattle.sandbox_set.proofs.Blocks.{script_nodes}
use Rattle.sandbox_set.proofs.Cuts.{text_after}
use Rattle.sandbox_set.proofs.Headings.{inner, named_box, skipped_is, named_heading, own_skipped}
use Rattle.sandbox_set.proofs.Scripts.{placed_lines}
use Rattle.sandbox_set.proofs.Sounds.{sound_none}
use Rattle.sandbox_set.proofs.Through.{from_goes, from_stops, then_script, own_first, AllBody, script_body, stops_at, whole_ok, whole_err, whole_stops}

-- ---- what the script's reading gives

read_ok : (read : Blocks) (s : Script) → script_from read ≡ Ok s → read ≡ Ok s.blocks
read_ok (Ok blocks) s e =
    let same : record { blocks = blocks } ≡ s = cc in
    ap (λ (t : Script). Ok t.blocks) same
read_ok (Err x) s e = absurd cc

-- a stop of the script is one of the whole input
lifted : (stop : BoxStop) (read : Blocks) (whole : Read) → ((m : ℕ) (f : ScriptFault) → read ≡ Err (m, f)
    → whole ≡ Err (At m (OfScript f))) → Stops stop (script_from read) → Stops stop whole
lifted Memory read whole h s = tt
lifted (At line fault) (Ok blocks) whole h s = absurd cc
lifted (At line fault) (Err (m, f)) whole h s =
    let number : m ≡ line = cc in
    let kind : OfScript f ≡ fault = cc in
    h m f refl ∙ ap (λ (k : ℕ). Err (At k (OfScript f))) number ∙ ap (λ (g : BoxFault). Err (At line g)) kind

same_at : (stop : BoxStop) (line : ℕ) (fault : BoxFault) (whole : Read)
    → (let r : Result Script BoxStop = Err (At line fault) in Stops stop r) → whole ≡ Err (At line fault)
    → Stops stop whole
same_at Memory line fault whole s e = tt
same_at (At l g) line fault whole s e =
    let number : line ≡ l = cc in
    let kind : fault ≡ g = cc in
    e ∙ ap (λ (k : ℕ). Err (At k fault)) number ∙ ap (λ (h : BoxFault). Err (At l h)) kind

-- the first of two faults is what the whole input stops with
first_lifted : (stop : BoxStop) (line : ℕ) (fault : BoxFault) (read : Blocks) (whole : Read)
    → Stops stop (first_of line fault (script_from read)) → whole ≡ stops_at line fault read
    → Stops stop whole
first_lifted stop line fault (Ok blocks) whole s e = same_at stop line fault whole s e
first_lifted stop line fault (Err (m, f)) whole s e = lift_step (ltb m line) s e
  where
    lift_step : (b : Bool)
        → (let r : Result Script BoxStop = cond b (Err (At m (OfScript f))) (Err (At line fault)) in Stops stop r)
        → whole ≡ cond b (Err (At m (OfScript f))) (Err (At line fault)) → Stops stop whole
    lift_step true s e = same_at stop m (OfScript f) whole s e
    lift_step false s e = same_at stop line fault whole s e

-- ---- the sandbox in the input

module _ (boxes : List Box) (nodes : ℕ) (name : List ℕ) (number : ℕ) (after script : List ℕ) (lines : ℕ)
    (behind : List ℕ) (part : IsPart after script lines behind) where
  abbrev body : List (List ℕ)
  body = lines_of script

  abbrev tail : List (List ℕ)
  tail = lines_of behind

  abbrev read : Blocks
  read = read_behind number body

  goes : AllBody body
  goes = subst AllBody (sym part.script_is) (script_body (lines_of after))

  -- what stands behind the line `sandbox NAME`: the script, and what follows it
  inside_is : from_inside boxes nodes name number after
      ≡ boxes_from (inner boxes name read nodes) (number + 1) (body ++ tail)
  inside_is =
      ap
      (λ (ls : List (List ℕ)).
      boxes_from (inner boxes name (read_behind number ls) nodes) (number + 1) (lines_of after))
      (sym part.script_is)
      ∙ ap (boxes_from (inner boxes name read nodes) (number + 1)) part.parts

  low : (m : ℕ) (f : ScriptFault) → read ≡ Err (m, f) → number + 1 ≤ m
  low m f e = (placed_lines number body (m, f) e).0

  -- a fault of the sandbox's own, or an earlier one of its script
  pub sandbox_stops : (line : ℕ) (fault : BoxFault) (stop : BoxStop)
      → own_end (number + 1) (nodes_with nodes body) lines (is_closed tail) ≡ Some (line, fault)
      → Stops stop (first_of line fault (script_from read))
      → Stops stop (from_inside boxes nodes name number after)
  sandbox_stops line fault stop own s =
      first_lifted stop line fault read (from_inside boxes nodes name number after) s
      (inside_is
      ∙ whole_stops boxes name body tail nodes (number + 1) goes part.ends line fault read (nodes_with nodes body)
      (is_closed tail) low refl refl
      (ap (λ (k : ℕ). own_end (number + 1) (nodes_with nodes body) k (is_closed tail)) part.count ∙ own))

  -- a fault of the script in an ended sandbox
  pub script_stops : (n : ℕ) (stop : BoxStop) → nodes_with nodes body ≡ Ok n → is_closed tail ≡ true
      → Stops stop (script_from read) → Stops stop (from_inside boxes nodes name number after)
  script_stops n stop e closed s =
      lifted stop read (from_inside boxes nodes name number after)
      (λ m f is.
      inside_is
      ∙ ap (λ (r : Blocks). boxes_from (inner boxes name r nodes) (number + 1) (body ++ tail)) is
      ∙ whole_err boxes name body tail nodes (number + 1) goes part.ends m f n (low m f is)
      (placed_lines number body (m, f) is).1 e closed)
      s

  -- an ended sandbox with its script
  pub sandbox_goes : (n : ℕ) (s : Script) (rest : List ℕ) → nodes_with nodes body ≡ Ok n → Closes behind rest
      → script_from read ≡ Ok s
      → from_here (boxes ++ named_box name s ∷ []) n (number + (lines + 2)) rest
      ≡ from_inside boxes nodes name number after
  sandbox_goes n s rest e closes ok =
      let last : number + 1 + length body + 1 ≡ number + (lines + 2) = omega (arith, part.count) in
      sym (inside_is
      ∙ ap (λ (r : Blocks). boxes_from (inner boxes name r nodes) (number + 1) (body ++ tail)) (read_ok read s ok)
      ∙ whole_ok boxes name body tail nodes (number + 1) goes part.ends s.blocks n e closes.closed
      ∙ ap (boxes_from (outside (boxes ++ box_of name s.blocks ∷ []) n) (number + 1 + length body + 1)) closes.rest_is
      ∙ ap (λ (k : ℕ). from_here (boxes ++ box_of name s.blocks ∷ []) n k rest) last)

-- the blocks of the script are among the nodes
pub sandbox_nodes : (number : ℕ) (lines : List (List ℕ)) (nodes n : ℕ) (s : Script)
    → script_from (read_behind number lines) ≡ Ok s → nodes_with nodes lines ≡ Ok n → nodes + length s.blocks ≤ n
sandbox_nodes number lines nodes n s e c =
    script_nodes number lines nodes n s.blocks (read_ok (read_behind number lines) s e) c

-- ---- a line outside a sandbox

module _ (boxes : List Box) (nodes number : ℕ) (line after : List ℕ) where
  abbrev here : Place
  here = outside boxes nodes

  -- a line without words, or a comment
  pub skipped_line : is_skipped line ≡ true
      → from_here boxes nodes (number + 1) after ≡ from_line boxes nodes number line after
  skipped_line e =
      let is : heading_of line ≡ Skipped = skipped_is line e in
      sym (from_goes here number line (lines_of after) (then_script here number line (own_skipped boxes nodes line is))
      ∙ ap (λ h. boxes_from (behind_by h here number line (lines_of after)) (number + 1) (lines_of after)) is)

  -- a line `sandbox NAME` without a fault
  pub begun_line : (name : List ℕ) → name_in line ≡ Some name → own_fault here line ≡ None
      → from_inside boxes nodes name number after ≡ from_line boxes nodes number line after
  begun_line name e none =
      let lines : List (List ℕ) = lines_of after in
      sym (from_goes here number line lines (then_script here number line none)
      ∙ ap (λ h. boxes_from (behind_by h here number line lines) (number + 1) lines) (named_heading line name e)
      ∙ ap (λ o. boxes_from (opened here o number lines) (number + 1) lines) e)

  -- another line
  pub stray_line : (fault : BoxFault) → own_fault here line ≡ Some fault
      → from_line boxes nodes number line after ≡ Err (At number fault)
  stray_line fault e = from_stops here number line (lines_of after) fault (own_first here number line fault e)

-- ---- all lines

-- what is left, with what was read, comes to what all comes to
pub record IsRead (bytes : List ℕ) (boxes : List Box) (nodes number : ℕ) (rest : List ℕ) : Type 0 where
  pub same : from_here boxes nodes number rest ≡ boxes_of (lines_of bytes)
  pub sound : AreSound nodes boxes
  pub stands : Stands nodes number rest

-- before the first line
pub read_start : (bytes : List ℕ) → length bytes ≤ 1048576 → IsText bytes → IsRead bytes [] 0 1 bytes
unfolding boxes_of
read_start bytes short text =
    record {
      same = refl;
      sound = sound_none;
      stands = record { few = omega arith; room = omega (arith, short); text = text };
    }

-- behind the next line its number is one more
pub stands_behind : (nodes number : ℕ) (rest line after : List ℕ) → Stands nodes number rest
    → lines_of rest ≡ line ∷ lines_of after → after ≡ drop (length line + 1) rest → length after < length rest
    → Stands nodes (number + 1) after
stands_behind nodes number rest line after h is behind shorter =
    record {
      few = h.few;
      room = omega (arith, h.room, shorter);
      text = text_after rest line after is behind h.text;
    }

-- where no line is left
pub read_none : (bytes : List ℕ) (boxes : List Box) (nodes number : ℕ) (rest : List ℕ)
    → IsRead bytes boxes nodes number rest → lines_of rest ≡ []
    → boxes_of (lines_of bytes) ≡ ending (outside boxes nodes) number
unfolding boxes_from
read_none bytes boxes nodes number rest h none =
    sym h.same ∙ ap (boxes_from (outside boxes nodes) number) none

module _ (bytes : List ℕ) (boxes : List Box) (nodes number : ℕ) (rest : List ℕ)
    (h : IsRead bytes boxes nodes number rest) (none : lines_of rest ≡ []) where
  -- an input of no line with words
  pub read_nothing : length boxes ≡ 0 → boxes_of (lines_of bytes) ≡ Err (At 1 NoSandbox)
  read_nothing e = read_none bytes boxes nodes number rest h none ∙ rw (eq-eqb (length boxes) 0 e) refl

  -- the sandboxes of the input
  pub read_all : (length boxes ≡ 0 → ⊥) → boxes_of (lines_of bytes) ≡ Ok boxes
  read_all e = read_none bytes boxes nodes number rest h none ∙ rw (ne_eqb (length boxes) 0 e) refl
