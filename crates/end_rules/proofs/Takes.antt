-- A parcel is taken, or there is no step.
use Rattle.std.proofs.Common.{◌≡◌, ◌∙◌, ℕ, zero, suc, Bool, true, false, if◌then◌else◌, ◌||◌, nat_eq, List, [], ◌∷◌, map, Option, Some, None, is_some, refl, ap}
use Rattle.std.specs.List.{list_any}
use Rattle.std.specs.Option.{option_and_then, option_map}
use Rattle.pico_base.specs.declared.numbers.Name.{Name}
use Rattle.pico_base.specs.declared.numbers.Name.TheVariants.{Proc}
use Rattle.pico_base.specs.declared.script.Script.{Script}
use Rattle.rpc_frame.specs.declared.deed.PackedDeed.{PackedDeed}
use Rattle.rpc_frame.specs.declared.deed.Parcel.{Parcel}
use Rattle.rpc_frame.specs.declared.frame.Frame.TheVariants as frames
use Rattle.number_maps.specs.Maps.{Numbered}
use Rattle.node_model.specs.declared.held.Held.TheVariants.{Ending}
use Rattle.node_model.specs.Bodies as model
use Rattle.node_model.specs.Kinds.{Named, get_named}
use Rattle.node_model.specs.Directory.{Directory, Place, At, Coming, maker, maker_stays, place_of, route, route_by}
use Rattle.node_model.specs.Parcels.{fitting_bodies, lets_end}
use Rattle.node_serve.specs.declared.body.Body.{Body}
use Rattle.node_serve.specs.Bodies.{bodies_of, body_of}
use Rattle.node_serve.specs.Ending.{lets}
use Rattle.node_serve.proofs.KernelLemmas.{bodies-get}
use Rattle.world_model.specs.Step.{Step, send}
use Rattle.world_model.specs.Ends.{end_by, end_process, exit_here, exit_with, release_names}
use Rattle.world_model.specs.Releases.{go_on_after, no_round, release, release_round, release_rounds}
use Rattle.end_rules.specs.Taking.{may_end_by}

differ : {B : Type 0} → true ≡ false → B
differ h = absurd (cc)

none-from : {A : Type 0} (o : Option A) → is_some o ≡ false → o ≡ None
none-from None h = refl
none-from (Some x) h = differ h

-- ---- the exit isn't carried out here

no-parent : (script : Script) (s : Step) (parcel : Parcel) (o : Option (Numbered model.Body))
    → exit_with script s parcel o None ≡ None
no-parent script s parcel None = refl
no-parent script s parcel (Some bodies) = refl

not-let : (script : Script) (s : Step) (parcel : Parcel) (o : Option (Numbered model.Body)) (parent : model.Body)
    → lets_end parcel.pid parent ≡ false → exit_with script s parcel o (Some parent) ≡ None
not-let script s parcel None parent h = refl
not-let script s parcel (Some bodies) parent h = rw h refl

by-parent : (script : Script) (s : Step) (parcel : Parcel) (bodies : Option (Numbered model.Body)) (o : Option Body)
    → lets parcel.pid o ≡ false → exit_with script s parcel bodies (option_map body_of o) ≡ None
by-parent script s parcel bodies None h = no-parent script s parcel bodies
by-parent script s parcel bodies (Some parent) h = not-let script s parcel bodies (body_of parent) h

-- where the parent isn't held, or doesn't list the process
pub no-exit-by : (script : Script) (s : Step) (bodies : Named Body) (parcel : Parcel)
    → s.node.deeds ≡ bodies_of bodies → lets parcel.pid (get_named bodies (Proc parcel.parent)) ≡ false
    → exit_here script s parcel ≡ None
no-exit-by script s bodies parcel is h =
    ap (exit_with script s parcel (fitting_bodies s.node.deeds parcel))
    (ap (λ deeds. get_named deeds (Proc parcel.parent)) is ∙ bodies-get bodies (Proc parcel.parent))
    ∙ by-parent script s parcel (fitting_bodies s.node.deeds parcel) (get_named bodies (Proc parcel.parent)) h

-- ---- the process doesn't end

by-place : (script : Script) (s : Step) (bodies : Named Body) (parcel : Parcel) (o : Option Place) (b : Bool)
    (made_by : Option ℕ)
    → s.node.deeds ≡ bodies_of bodies → may_end_by bodies s.node.number parcel (route_by o b made_by) ≡ false
    → end_by script s parcel o ≡ None
by-place script s bodies parcel None b made_by is h = refl
by-place script s bodies parcel (Some (Coming to items)) b made_by is h = differ h
by-place script s bodies parcel (Some (At node)) b made_by is h = by-test (nat_eq node s.node.number) h
  where
    by-test : (t : Bool)
        → (if t then lets parcel.pid (get_named bodies (Proc parcel.parent)) else true) ≡ false
        → (if t
        then option_map (release_names parcel node) (exit_here script s parcel)
        else Some (release_names parcel node (send s node (frames.ExitTo parcel))))
        ≡ None
    by-test true h = ap (option_map (release_names parcel node)) (no-exit-by script s bodies parcel is h)
    by-test false h = differ h

no-rounds : (script : Script) (rounds : ℕ) (s : Step) (parcel : Parcel) → end_process script s parcel ≡ None
    → release_rounds rounds script (Ending parcel ∷ []) s ≡ None
no-rounds script zero s parcel none =
    ap (option_and_then (go_on_after no_round (release_round script no_round []) [])) none
no-rounds script (suc rounds) s parcel none =
    ap (option_and_then
    (go_on_after (release_rounds rounds script) (release_round script (release_rounds rounds script) []) [])) none

-- Where the end rule doesn't apply, nothing is released: the places are those of this directory.
pub no-release : (script : Script) (s : Step) (d : Directory) (bodies : Named Body) (parcel : Parcel)
    → s.node.deeds ≡ bodies_of bodies
    → place_of s.node.leader.directory (Proc parcel.parent) ≡ place_of d (Proc parcel.parent)
    → may_end_by bodies s.node.number parcel (route d (Proc parcel.parent)) ≡ false
    → release script (Ending parcel ∷ []) s ≡ None
no-release script s d bodies parcel is place h =
    no-rounds script _ s parcel
    (ap (end_by script s parcel) place
    ∙ by-place script s bodies parcel (place_of d (Proc parcel.parent)) (maker_stays d (maker d (Proc parcel.parent)))
    (maker d (Proc parcel.parent)) is h)

-- ---- a rule that has no step

-- where there is none on the condition
pub none-if : (b : Bool) (o : Option Step) → o ≡ None → (if b then o else None) ≡ None
none-if true o none = none
none-if false o none = refl

-- where there is none for any value
pub none-of-each : {A : Type 0} (f : A → Option Step) (o : Option A) → ((x : A) → f x ≡ None)
    → option_and_then f o ≡ None
none-of-each f None each = refl
none-of-each f (Some x) each = each x

-- ---- the names of a parcel

-- a name that passes a test is among the deeds' names just where a deed has such a name
pub any-name : (test : Name → Bool) (deeds : List PackedDeed)
    → list_any test (map (λ deed. deed.name) deeds) ≡ list_any (λ deed. test deed.name) deeds
any-name test [] = refl
any-name test (deed ∷ deeds) = ap (λ b. test deed.name || b) (any-name test deeds)
