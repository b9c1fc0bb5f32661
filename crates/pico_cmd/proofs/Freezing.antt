-- The first events of a script's run, as they are taken and stamped.
use Rattle.std.proofs.Common.{◌≡◌, inl, inr, ℕ, ◌+◌, ◌≤◌, Bool, true, List, [], ◌∷◌, ◌++◌, length, Option, Some, None, refl, sym, ap, ◌∙◌, arith, length-append}
use Rattle.std.specs.Prelude.{IfSome, IsSome}
use Rattle.pico_base.specs.declared.script.Event.{Event}
use Rattle.pico_base.specs.declared.script.Script.{Script}
use Rattle.stamp_merge.specs.declared.Stamped.{Stamped}
use Rattle.world_model.specs.World.{World, opening_world, size, node_count, is_enabled}
use Rattle.world_model.specs.Run.{IsAtRest}
use Rattle.world_model.specs.Schedule.{Schedule, choice, schedule_of, schedule_after}
use Rattle.world_core.specs.Laws.{IsWithin}
use Rattle.world_core.specs.Stepped.{IsStepped}
use Rattle.pico_cmd.specs.declared.telling.Telling.{Telling}
use Rattle.pico_cmd.specs.Frozen.{AreFirstStamped, stamped_event, stamped_from}
use Rattle.pico_cmd.specs.Telling.{Tells}
use Rattle.pico_cmd.proofs.Goings.{IsGoing, IsGoing-start, IsGoing-more, KeepsUp, going_is_there, going_is_within, going_is_enabled}
use Rattle.pico_cmd.proofs.RunLaws.{Laws}
use Rattle.pico_cmd.proofs.ToldSoFar.{chosen_in_whole}

-- one event more has the next stamp
pub stamped_more : (stamp : ℕ) (es : List Event) (e : Event)
    → stamped_from stamp (es ++ e ∷ []) ≡ stamped_from stamp es ++ stamped_event (stamp + length es) e ∷ []
stamped_more stamp [] e = ap (λ (k : ℕ). stamped_event k e ∷ []) (omega arith)
stamped_more stamp (x ∷ es) e =
    let same : (stamp + 1) + length es ≡ stamp + length (x ∷ es) = omega arith in
    ap (λ (ys : List (Stamped Event)). stamped_event stamp x ∷ ys)
    (stamped_more (stamp + 1) es e
    ∙ ap (λ (k : ℕ). stamped_from (stamp + 1) es ++ stamped_event k e ∷ []) same)

-- so many events were taken, and were stamped
pub record IsFreezing (script : Script) (stamped : List (Stamped Event)) (before : ℕ) (telling : Telling)
    (world : Option World) (at : Schedule) : Type 0 where
  pub lines : Bool
  pub taken : List Event
  pub are_stamped : stamped ≡ stamped_from 1 taken
  pub many : length taken ≡ before
  pub going : IsGoing script 0 lines taken telling world at

-- it begins
pub IsFreezing-start : (script : Script) (stamped : List (Stamped Event)) (telling : Telling) (world : Option World)
    (at : Schedule) → stamped ≡ [] → world ≡ Some (opening_world script) → at ≡ schedule_of 0 (node_count script)
    → Tells script [] telling → IsFreezing script stamped 0 telling world at
IsFreezing-start script stamped telling world at none opening first fresh =
    record {
      lines = telling.lines;
      taken = [];
      are_stamped = none;
      many = refl;
      going = IsGoing-start script 0 [] telling world at refl opening first fresh;
    }

module _ (script : Script) (stamped : List (Stamped Event)) (before : ℕ) (telling : Telling) (world : Option World)
    (at : Schedule) (f : IsFreezing script stamped before telling world at) where
  -- the world is there
  pub freezing_is_there : IsSome world
  freezing_is_there = going_is_there script 0 f.lines f.taken telling world at f.going

  -- the last event of the schedule was of one of its nodes
  pub freezing_is_within : IfSome world (λ w. IsWithin (size w) at)
  freezing_is_within = going_is_within script 0 f.lines f.taken telling world at f.going

  -- the event that was chosen is enabled
  pub freezing_is_enabled : (r : Option Event) (e : Event) → IfSome world (λ w. r ≡ choice w at) → r ≡ Some e
      → IfSome world (λ w. is_enabled w e ≡ true)
  freezing_is_enabled r e chosen is =
      going_is_enabled script 0 f.lines f.taken telling world at r e f.going chosen is

  -- one event more
  pub IsFreezing-more : (more : List (Stamped Event)) (told : Telling) (stepped kept : Option World)
      (next_at : Schedule) (r : Option Event) (e : Event)
      → IfSome world (λ w. r ≡ choice w at) → r ≡ Some e → IsStepped world e stepped
      → next_at ≡ schedule_after at e → more ≡ stamped ++ stamped_event (before + 1) e ∷ []
      → KeepsUp telling stepped told kept → told.lines ≡ telling.lines
      → IsFreezing script more (before + 1) told kept next_at
  IsFreezing-more more told stepped kept next_at r e chosen is s after_it with_it keeps same =
      let place : before + 1 ≡ 1 + length f.taken = omega (arith, f.many) in
      let size : length (f.taken ++ e ∷ []) ≡ length f.taken + 1 = length-append f.taken (e ∷ []) in
      record {
        lines = f.lines;
        taken = f.taken ++ e ∷ [];
        are_stamped =
            with_it
            ∙ ap (λ (k : ℕ). stamped ++ stamped_event k e ∷ []) place
            ∙ ap (λ (xs : List (Stamped Event)). xs ++ stamped_event (1 + length f.taken) e ∷ []) f.are_stamped
            ∙ sym (stamped_more 1 f.taken e);
        many = omega (arith, size, f.many);
        going =
            IsGoing-more script 0 f.lines f.taken (f.taken ++ e ∷ []) telling told world stepped kept at next_at r e
            f.going chosen is s after_it refl keeps same;
      }

  -- as many as are wanted
  pub first_all : (count : ℕ) → before ≡ count → AreFirstStamped script count stamped
  first_all count many =
      record {
        events = f.taken;
        first = record {
          world = f.going.whole;
          schedule = at;
          takes = f.going.under.takes;
          run = f.going.under.run;
          all = inl (f.many ∙ many);
        };
        are_stamped = f.are_stamped;
      }

  -- all, where the world is at rest
  pub first_rest : (count : ℕ) (r : Option Event) → Laws → before ≤ count → IfSome world (λ w. r ≡ choice w at)
      → r ≡ None → AreFirstStamped script count stamped
  first_rest count r laws few chosen none =
      let whole : World = f.going.whole in
      let over : choice whole at ≡ None = chosen_in_whole whole telling world at r f.going.made chosen ∙ none in
      let rest : IsAtRest whole = laws.rest script whole at (f.taken, f.going.under.run) f.going.under.of_world over in
      record {
        events = f.taken;
        first = record {
          world = whole;
          schedule = at;
          takes = f.going.under.takes;
          run = f.going.under.run;
          all = inr (omega (arith, few, f.many), rest);
        };
        are_stamped = f.are_stamped;
      }
