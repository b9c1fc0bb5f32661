-- The run of a script as the program goes on with it: what was taken, what was told, and what the world keeps.
use Rattle.std.proofs.Common.{◌≡◌, ℕ, Bool, true, false, List, [], ◌∷◌, ◌++◌, if◌then◌else◌, Option, Some, None, IfSome, IsSome, refl, sym, ap, ◌∙◌}
use Rattle.pico_base.specs.declared.script.Script.{Script}
use Rattle.pico_base.specs.declared.script.Event.{Event}
use Rattle.kernel_model.specs.Script.{IsSoundScript}
use Rattle.world_model.specs.World.{World, opening_world, size, node_count, is_enabled}
use Rattle.world_model.specs.Schedule.{Schedule, choice, schedule_of, schedule_after}
use Rattle.world_model.specs.Run.{is_stalled}
use Rattle.world_core.specs.Laws.{IsWithin}
use Rattle.world_core.specs.Stepped.{IsStepped}
use Rattle.pico_cmd.specs.declared.telling.Telling.{Telling}
use Rattle.pico_cmd.specs.Telling.{IsToldRun, MakeUp, Tells, kept_if}
use Rattle.pico_cmd.proofs.RunLaws.{Laws}
use Rattle.pico_cmd.proofs.Runs.{IsUnderWay, IsUnderWay-start, IsUnderWay-more, IsUnderWay-end, IsUnderWay-left, chosen_is_next}
use Rattle.pico_cmd.proofs.ToldSoFar.{IsWholeStep, world_is_there, within_kept, chosen_in_whole, enabled_in_kept, stalled_in_whole, whole_steps, all_is_told}

-- where no event was taken none is kept
none_kept : (steps : Bool) → kept_if steps [] ≡ []
none_kept true = refl
none_kept false = refl

-- one event more is kept where events are wanted
one_kept : (steps : Bool) (taken : List Event) (e : Event)
    → (if steps then kept_if steps taken ++ e ∷ [] else kept_if steps taken) ≡ kept_if steps (taken ++ e ∷ [])
one_kept true taken e = refl
one_kept false taken e = refl

-- the run so far
pub record IsGoing (script : Script) (seed : ℕ) (lines : Bool) (taken : List Event) (telling : Telling)
    (world : Option World) (at : Schedule) : Type 0 where
  pub whole : World
  pub under : IsUnderWay script seed taken whole at
  pub made : MakeUp whole telling world
  pub lines_are : telling.lines ≡ lines

-- it begins
pub IsGoing-start : (script : Script) (seed : ℕ) (taken : List Event) (telling : Telling) (world : Option World)
    (at : Schedule)
    → taken ≡ [] → world ≡ Some (opening_world script) → at ≡ schedule_of seed (node_count script)
    → Tells script [] telling → IsGoing script seed telling.lines taken telling world at
IsGoing-start script seed taken telling world at none opening first fresh =
    record {
      whole = opening_world script;
      under = IsUnderWay-start script seed taken at none first;
      made = record { told = []; kept = opening_world script; is_kept = opening; is_whole = refl; tells = fresh };
      lines_are = refl;
    }

-- the world is there
pub going_is_there : (script : Script) (seed : ℕ) (lines : Bool) (taken : List Event) (telling : Telling)
    (world : Option World) (at : Schedule) → IsGoing script seed lines taken telling world at → IsSome world
going_is_there script seed lines taken telling world at g = world_is_there g.whole telling world g.made

-- the last event of the schedule was of one of its nodes
pub going_is_within : (script : Script) (seed : ℕ) (lines : Bool) (taken : List Event) (telling : Telling)
    (world : Option World) (at : Schedule) → IsGoing script seed lines taken telling world at
    → IfSome world (λ w. IsWithin (size w) at)
going_is_within script seed lines taken telling world at g =
    within_kept g.whole telling world at g.made g.under.of_world

chosen_now : (script : Script) (seed : ℕ) (lines : Bool) (taken : List Event) (telling : Telling)
    (world : Option World) (at : Schedule) (r : Option Event) (e : Event)
    (g : IsGoing script seed lines taken telling world at)
    → IfSome world (λ w. r ≡ choice w at) → r ≡ Some e → choice g.whole at ≡ Some e
chosen_now script seed lines taken telling world at r e g chosen is =
    chosen_in_whole g.whole telling world at r g.made chosen ∙ is

-- the event that was chosen is enabled in the world
pub going_is_enabled : (script : Script) (seed : ℕ) (lines : Bool) (taken : List Event) (telling : Telling)
    (world : Option World) (at : Schedule) (r : Option Event) (e : Event)
    → IsGoing script seed lines taken telling world at → IfSome world (λ w. r ≡ choice w at) → r ≡ Some e
    → IfSome world (λ w. is_enabled w e ≡ true)
going_is_enabled script seed lines taken telling world at r e g chosen is =
    enabled_in_kept g.whole telling world e g.made
    (chosen_is_next script seed taken g.whole at e g.under
    (chosen_now script seed lines taken telling world at r e g chosen is)).enabled

-- what is told behind a step
abbrev pub KeepsUp : Telling → Option World → Telling → Option World → Type 0
KeepsUp old world new next = (whole : World) → MakeUp whole old world → MakeUp whole new next

-- it goes on
pub IsGoing-more : (script : Script) (seed : ℕ) (lines : Bool) (taken more : List Event) (telling told : Telling)
    (world stepped kept : Option World) (at next_at : Schedule) (r : Option Event) (e : Event)
    → IsGoing script seed lines taken telling world at
    → IfSome world (λ w. r ≡ choice w at) → r ≡ Some e → IsStepped world e stepped
    → next_at ≡ schedule_after at e → more ≡ taken ++ e ∷ []
    → KeepsUp telling stepped told kept → told.lines ≡ telling.lines
    → IsGoing script seed lines more told kept next_at
IsGoing-more script seed lines taken more telling told world stepped kept at next_at r e g chosen is s after_it with_it
    keeps same =
    let w : IsWholeStep g.whole e telling stepped = whole_steps g.whole telling world stepped e g.made s
    in record {
      whole = w.next;
      under =
          IsUnderWay-more script seed taken more g.whole w.next at next_at e g.under
          (chosen_now script seed lines taken telling world at r e g chosen is) w.stepped after_it with_it;
      made = keeps w.next w.made;
      lines_are = same ∙ g.lines_are;
    }

-- the run so far, of whose events these were kept
pub record IsRunning (script : Script) (seed : ℕ) (lines steps : Bool) (kept : List Event) (telling : Telling)
    (world : Option World) (at : Schedule) : Type 0 where
  pub taken : List Event
  pub are_kept : kept ≡ kept_if steps taken
  pub going : IsGoing script seed lines taken telling world at

-- it begins
pub IsRunning-start : (script : Script) (seed : ℕ) (steps : Bool) (kept : List Event) (telling : Telling)
    (world : Option World) (at : Schedule)
    → kept ≡ [] → world ≡ Some (opening_world script) → at ≡ schedule_of seed (node_count script)
    → Tells script [] telling → IsRunning script seed telling.lines steps kept telling world at
IsRunning-start script seed steps kept telling world at none opening first fresh =
    record {
      taken = [];
      are_kept = none ∙ sym (none_kept steps);
      going = IsGoing-start script seed [] telling world at refl opening first fresh;
    }

-- it goes on
pub IsRunning-more : (script : Script) (seed : ℕ) (lines steps : Bool) (kept more : List Event)
    (telling told : Telling) (world stepped left : Option World) (at next_at : Schedule) (r : Option Event) (e : Event)
    → IsRunning script seed lines steps kept telling world at
    → IfSome world (λ w. r ≡ choice w at) → r ≡ Some e → IsStepped world e stepped
    → next_at ≡ schedule_after at e → more ≡ (if steps then kept ++ e ∷ [] else kept)
    → KeepsUp telling stepped told left → told.lines ≡ telling.lines
    → IsRunning script seed lines steps more told left next_at
IsRunning-more script seed lines steps kept more telling told world stepped left at next_at r e g chosen is s after_it
    with_it keeps same =
    record {
      taken = g.taken ++ e ∷ [];
      are_kept = with_it ∙ ap (λ (es : List Event). if steps then es ++ e ∷ [] else es) g.are_kept
          ∙ one_kept steps g.taken e;
      going = IsGoing-more script seed lines g.taken (g.taken ++ e ∷ []) telling told world stepped left at next_at r e
          g.going chosen is s after_it refl keeps same;
    }

-- it ends, and is left so
pub IsRunning-end : (script : Script) (seed : ℕ) (lines steps : Bool) (kept : List Event) (telling told : Telling)
    (world left : Option World) (at : Schedule) (r : Option Event) (stalled : Bool)
    → Laws → IsSoundScript script
    → IsRunning script seed lines steps kept telling world at → IfSome world (λ w. r ≡ choice w at) → r ≡ None
    → IfSome world (λ w. stalled ≡ is_stalled w)
    → KeepsUp telling world told left → IfSome left (λ w. w.journal ≡ [])
    → IsToldRun script seed steps kept stalled told
IsRunning-end script seed lines steps kept telling told world left at r stalled laws sound running chosen none is keeps
    nothing =
    let g : IsGoing script seed lines running.taken telling world at = running.going
    in let over : choice g.whole at ≡ None = chosen_in_whole g.whole telling world at r g.made chosen ∙ none
    in record {
      events = running.taken;
      last = g.whole;
      run = IsUnderWay-end script seed running.taken g.whole at laws sound g.under over;
      left = IsUnderWay-left script seed running.taken g.whole at stalled laws sound g.under over
          (stalled_in_whole g.whole telling world stalled g.made is);
      are_kept = running.are_kept;
      tells = all_is_told g.whole told left (keeps g.whole g.made) nothing;
    }
