-- What was told and what the world keeps, as the world goes on and lets go.
use Rattle.std.proofs.Common.{◌≡◌, Bool, true, List, [], ◌++◌, Option, Some, None, IfSome, IsSome, refl, sym, ap, subst, ◌∙◌}
use Rattle.std.specs.Option.{option_map}
use Rattle.std.proofs.lemmas.List.{append-nil}
use Rattle.pico_base.specs.declared.script.Script.{Script}
use Rattle.pico_base.specs.declared.script.Event.{Event}
use Rattle.pico_base.specs.declared.reply.Entry.{Entry}
use Rattle.world_model.specs.World.{World, size, step, is_enabled}
use Rattle.world_model.specs.Run.{is_stalled}
use Rattle.world_model.specs.Schedule.{Schedule, choice}
use Rattle.world_core.specs.Behind.{behind, without_journal}
use Rattle.world_core.specs.Laws.{IsWithin}
use Rattle.world_core.specs.Stepped.{IsStepped}
use Rattle.world_core.proofs.Behind.{choice_behind, enabled_behind, step_goes_behind}
use Rattle.pico_cmd.specs.declared.telling.Telling.{Telling}
use Rattle.pico_cmd.specs.Telling.{MakeUp, Tells}
use Rattle.pico_cmd.proofs.Runs.{step_script}

-- the world is there
pub world_is_there : (whole : World) (telling : Telling) (world : Option World) → MakeUp whole telling world
    → IsSome world
world_is_there whole telling world made = subst (λ (o : Option World). IsSome o) (sym made.is_kept) refl

-- what is within the whole world's nodes is within those of the world
pub within_kept : (whole : World) (telling : Telling) (world : Option World) (at : Schedule)
    → MakeUp whole telling world → IsWithin (size whole) at → IfSome world (λ w. IsWithin (size w) at)
within_kept whole telling world at made within =
    subst (λ (o : Option World). IfSome o (λ w. IsWithin (size w) at)) (sym made.is_kept)
    (subst (λ (w : World). IsWithin (size w) at) (sym made.is_whole) within)

-- what is chosen in the world is chosen in the whole world
pub chosen_in_whole : (whole : World) (telling : Telling) (world : Option World) (at : Schedule) (r : Option Event)
    → MakeUp whole telling world → IfSome world (λ w. r ≡ choice w at) → choice whole at ≡ r
chosen_in_whole whole telling world at r made chosen =
    let kept : r ≡ choice made.kept at =
    subst (λ (o : Option World). IfSome o (λ w. r ≡ choice w at)) made.is_kept chosen
    in sym (ap (λ (w : World). choice w at) made.is_whole) ∙ choice_behind made.told made.kept at ∙ sym kept

-- what is enabled in the whole world is enabled in the world
pub enabled_in_kept : (whole : World) (telling : Telling) (world : Option World) (e : Event)
    → MakeUp whole telling world → is_enabled whole e ≡ true → IfSome world (λ w. is_enabled w e ≡ true)
enabled_in_kept whole telling world e made enabled =
    let kept : is_enabled made.kept e ≡ true =
    sym (enabled_behind made.told made.kept e) ∙ ap (λ (w : World). is_enabled w e) made.is_whole ∙ enabled
    in subst (λ (o : Option World). IfSome o (λ w. is_enabled w e ≡ true)) (sym made.is_kept) kept

-- the whole world is left as the world is
pub stalled_in_whole : (whole : World) (telling : Telling) (world : Option World) (stalled : Bool)
    → MakeUp whole telling world → IfSome world (λ w. stalled ≡ is_stalled w) → is_stalled whole ≡ stalled
stalled_in_whole whole telling world stalled made is =
    let kept : stalled ≡ is_stalled made.kept =
    subst (λ (o : Option World). IfSome o (λ w. stalled ≡ is_stalled w)) made.is_kept is
    in sym (ap (λ (w : World). is_stalled w) made.is_whole) ∙ sym kept

-- the whole world after a step, with what was told as before
pub record IsWholeStep (whole : World) (e : Event) (telling : Telling) (world : Option World) : Type 0 where
  pub next : World
  pub stepped : step whole e ≡ Some next
  pub made : MakeUp next telling world

same_world : (world : Option World) (w now : World) → world ≡ Some w → world ≡ Some now → w ≡ now
same_world world w now a b = let e : Some w ≡ Some now = sym a ∙ b in cc

-- where the world makes a step the whole world makes it
pub whole_steps : (whole : World) (telling : Telling) (world new : Option World) (e : Event)
    → MakeUp whole telling world → IsStepped world e new → IsWholeStep whole e telling new
whole_steps whole telling world new e made s =
    let told : List Entry = made.told
    in let next : World = s.1
    in let stepped : step made.kept e ≡ Some next =
    subst (λ (x : World). step x e ≡ Some next) (same_world world s.0 made.kept s.2 made.is_kept) s.4
    in let script : next.script ≡ whole.script =
    step_script made.kept e next stepped ∙ ap (λ (w : World). w.script) made.is_whole
    in record {
      next = behind told next;
      stepped =
          subst (λ (x : World). step x e ≡ Some (behind told next)) made.is_whole
          (step_goes_behind told made.kept next e stepped);
      made = record {
        told = told;
        kept = next;
        is_kept = s.3;
        is_whole = refl;
        tells = subst (λ (x : Script). Tells x told telling) (sym script) made.tells;
      };
    }

-- what is kept is told, and let go
pub made_of_told : (whole : World) (old new : Telling) (world after_it : Option World) (script : Script)
    (entries : List Entry)
    → MakeUp whole old world
    → IfSome world (λ w. script ≡ w.script) → IfSome world (λ w. entries ≡ w.journal)
    → after_it ≡ option_map without_journal world
    → ((told : List Entry) → Tells script told old → Tells script (told ++ entries) new)
    → MakeUp whole new after_it
made_of_told whole old new world after_it script entries made is_script is_entries is_after tells =
    let told : List Entry = made.told
    in let kept : World = made.kept
    in let at_script : script ≡ kept.script =
    subst (λ (o : Option World). IfSome o (λ w. script ≡ w.script)) made.is_kept is_script
    in let at_entries : entries ≡ kept.journal =
    subst (λ (o : Option World). IfSome o (λ w. entries ≡ w.journal)) made.is_kept is_entries
    in let same : script ≡ whole.script = at_script ∙ ap (λ (w : World). w.script) made.is_whole
    in let all : List Entry = told ++ kept.journal
    in let told_all : Tells script (told ++ entries) new =
    tells told (subst (λ (x : Script). Tells x told old) (sym same) made.tells)
    in record {
      told = all;
      kept = without_journal kept;
      is_kept = is_after ∙ ap (option_map without_journal) made.is_kept;
      is_whole =
          ap (λ (journal : List Entry). record kept { journal = journal }) (append-nil all) ∙ made.is_whole;
      tells =
          subst (λ (x : Script). Tells x all new) same
          (subst (λ (es : List Entry). Tells script (told ++ es) new) at_entries told_all);
    }

-- a world that let go keeps nothing
pub nothing_is_kept : (world after_it : Option World) → after_it ≡ option_map without_journal world
    → IfSome after_it (λ w. w.journal ≡ [])
nothing_is_kept None after_it is = subst (λ (o : Option World). IfSome o (λ w. w.journal ≡ [])) (sym is) tt
nothing_is_kept (Some w) after_it is = subst (λ (o : Option World). IfSome o (λ w. w.journal ≡ [])) (sym is) refl

-- where nothing is kept, all was told
pub all_is_told : (whole : World) (telling : Telling) (world : Option World) → MakeUp whole telling world
    → IfSome world (λ w. w.journal ≡ []) → Tells whole.script whole.journal telling
all_is_told whole telling world made none =
    let empty : made.kept.journal ≡ [] =
    subst (λ (o : Option World). IfSome o (λ w. w.journal ≡ [])) made.is_kept none
    in let all : made.told ≡ whole.journal =
    sym (append-nil made.told) ∙ ap (λ (es : List Entry). made.told ++ es) (sym empty)
    ∙ ap (λ (w : World). w.journal) made.is_whole
    in subst (λ (es : List Entry). Tells whole.script es telling) all made.tells
