-- The faults of an image: those of its script, and those behind it.
use Rattle.std.proofs.Common.{◌≡◌, ℕ, ◌+◌, ◌-◌, Bool, true, false, cond, eqb, List, [], ◌∷◌, ◌++◌, length, Option, Some, None, ap, subst}
use Rattle.std.specs.Prelude.{Result, Ok, Err}
use Rattle.std.specs.Option.{option_map_or}
use Rattle.pico_base.specs.declared.script.Script.{Script}
use Rattle.stamp_merge.specs.declared.Stamped.{Stamped}
use Rattle.script_reader.specs.declared.fault.ScriptFault.{ScriptFault}
use Rattle.script_reader.specs.declared.fault.ScriptStop.{ScriptStop}
use Rattle.script_reader.specs.declared.fault.ScriptStop.TheVariants as scripts
use Rattle.script_reader.specs.Fault.{IsFirstFault, outcome, line_behind}
use Rattle.world_model.specs.World.{World, opening_world, is_enabled, step}
use Rattle.image_text.specs.declared.placed.Placed.{Placed}
use Rattle.image_text.specs.declared.fault.ImageFault.TheVariants.{NotRising}
use Rattle.image_text.specs.declared.fault.ImageStop.{ImageStop}
use Rattle.image_text.specs.declared.fault.ImageStop.TheVariants.{Memory, Script as InScript, At}
use Rattle.image_text.specs.Image.{max_image}
use Rattle.image_text.specs.Lines.{count_in, event_in}
use Rattle.image_text.specs.Order.{first_fall, ordered}
use Rattle.image_text.specs.Parts.{script_of, seen, is_large, number_behind, lines_behind}
use Rattle.image_text.specs.Reading.{Events, outside, events_from, listed, in_order, with_script, events_of, stop_of, of_script, said_by}
use Rattle.world_image.specs.Thawing.{Outcome, not_enabled, behind, of_said, thawed}

-- it isn't a fault of the script
abbrev NotOfScript : {A : Type 0} → Result A ImageStop → Type 0
NotOfScript (Ok x) = Unit {0}
NotOfScript (Err Memory) = Unit {0}
NotOfScript (Err (InScript line fault)) = ⊥
NotOfScript (Err (At line fault)) = Unit {0}

not_there : {A : Type 0} (r : Result A ImageStop) (line : ℕ) (fault : ScriptFault) → NotOfScript r
    → r ≡ Err (InScript line fault) → ⊥
not_there {A} r line fault not is = subst (λ (x : Result A ImageStop). NotOfScript x) is not

-- ---- of the lines behind the script none is

from_lines : (nodes left low number : ℕ) (done : Events) (lines : List (List ℕ))
    → NotOfScript (events_from nodes left low number done lines)
unfolding events_from
from_lines nodes left low number done [] = of (eqb left 0)
  where
    of : (b : Bool) → NotOfScript (let r : Result Events ImageStop = cond b (Ok done) (outside number) in r)
    of true = tt
    of false = tt
from_lines nodes left low number done (line ∷ lines) =
    of (eqb left 0) (event_in nodes low number line)
    (λ e. events_from nodes (left - 1) e.node (number + 1) (done ++ e ∷ []) lines)
    (λ e. from_lines nodes (left - 1) e.node (number + 1) (done ++ e ∷ []) lines)
  where
    of : (b : Bool) (o : Option (Stamped Placed)) (f : Stamped Placed → Result Events ImageStop)
        → ((e : Stamped Placed) → NotOfScript (f e))
        → NotOfScript (cond b (outside number) (option_map_or f o (outside number)))
    of true o f h = tt
    of false None f h = tt
    of false (Some e) f h = h e

of_listed : (nodes number : ℕ) (lines : List (List ℕ)) → NotOfScript (listed nodes number lines)
unfolding listed
of_listed nodes number [] = tt
of_listed nodes number (line ∷ lines) = of (count_in line)
  where
    of : (o : Option ℕ) → NotOfScript
        (option_map_or (λ count. events_from nodes count 1 (number + 1) [] lines) o (outside number))
    of None = tt
    of (Some count) = from_lines nodes count 1 (number + 1) [] lines

of_order : (r : Result Events ImageStop) → NotOfScript r → NotOfScript (in_order r)
of_order (Err stop) h = h
of_order (Ok events) h = of (first_fall events)
  where
    of : (o : Option ℕ) → NotOfScript
        (let r : Result Events ImageStop = option_map_or (λ line. Err (At line NotRising)) o (Ok (ordered events)) in r)
    of None = tt
    of (Some line) = tt

of_events : (nodes : ℕ) (bytes : List ℕ) → NotOfScript (events_of nodes bytes)
of_events nodes bytes =
    of (is_large bytes) (in_order (listed nodes (number_behind bytes) (lines_behind bytes)))
    (of_order (listed nodes (number_behind bytes) (lines_behind bytes))
    (of_listed nodes (number_behind bytes) (lines_behind bytes)))
  where
    of : (b : Bool) (read : Result Events ImageStop) → NotOfScript read
        → NotOfScript (cond b (outside (line_behind max_image bytes)) read)
    of true read h = tt
    of false read h = h

-- nor of the events
of_behind : (events : List (Stamped Placed)) (w : World) (last : Option ℕ) → NotOfScript (behind w last events)
unfolding behind
of_behind [] w last = tt
of_behind (e ∷ events) w last =
    of (is_enabled w e.item.event) (step w e.item.event) (λ next. of_behind events next (Some e.node))
  where
    of : (b : Bool) (o : Option World) → ((next : World) → NotOfScript (behind next (Some e.node) events))
        → NotOfScript (let no : Outcome = Err (not_enabled e.item.line) in
        cond b (option_map_or (λ next. behind next (Some e.node) events) o no) no)
    of false o h = tt
    of true None h = tt
    of true (Some next) h = h next

-- ---- the script's

of_read : (script : Script) (r : Result Events ImageStop) → NotOfScript r → NotOfScript (of_said (with_script script r))
of_read script (Err Memory) h = tt
of_read script (Err (InScript line fault)) h = h
of_read script (Err (At line fault)) h = tt
of_read script (Ok events) h = of_behind events (opening_world script) None

same_fault : (stop : ScriptStop) (line : ℕ) (fault : ScriptFault) → stop_of stop ≡ InScript line fault
    → stop ≡ scripts.At line fault
same_fault scripts.Memory line fault h = absurd (let f : ⊥ = cc in f)
same_fault (scripts.At l f) line fault h = cc

err_parts : (a b : ImageStop) → (let r : Outcome = Err a in r ≡ Err b) → a ≡ b
err_parts a b h = cc

-- where thawing stops at the script, that is its first fault
pub script_fault : (image : List ℕ) (line : ℕ) (fault : ScriptFault) → thawed image ≡ Err (InScript line fault)
    → IsFirstFault (script_of (seen image)) line fault
unfolding thawed said_by
script_fault image line fault h = of (outcome (script_of (seen image))) h
  where
    of : (o : Result Script ScriptStop) → of_said (of_script (seen image) o) ≡ Err (InScript line fault)
        → o ≡ Err (scripts.At line fault)
    of (Err stop) is = ap Err (same_fault stop line fault (err_parts (stop_of stop) (InScript line fault) is))
    of (Ok script) is =
        absurd (not_there (of_said (with_script script (events_of (length script.blocks) (seen image)))) line fault
        (of_read script (events_of (length script.blocks) (seen image))
        (of_events (length script.blocks) (seen image))) is)

-- and where the script has a fault, thawing stops there
pub stops_at_script : (image : List ℕ) (line : ℕ) (fault : ScriptFault)
    → IsFirstFault (script_of (seen image)) line fault → thawed image ≡ Err (InScript line fault)
unfolding thawed said_by
stops_at_script image line fault h =
    ap (λ (o : Result Script ScriptStop). of_said (of_script (seen image) o)) h
