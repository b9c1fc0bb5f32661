-- What the leader holds: a name that its directory has at the leader itself is in its table, with the name's body.
use Rattle.std.proofs.Common.{◌≡◌, true, List, Option, Some, None, is_some, refl, ap, sym, ◌∙◌}
use Rattle.std.proofs.lemmas.Bool.{false≢true}
use Rattle.pico_base.specs.declared.numbers.Name.{Name}
use Rattle.pico_base.specs.declared.script.Script.{Script}
use Rattle.node_model.specs.declared.held.Held.{Held}
use Rattle.node_model.specs.Kinds.{get_named}
use Rattle.node_model.specs.Directory.{At, place_of}
use Rattle.node_model.specs.Bodies.{Body}
use Rattle.world_model.specs.World.{World}
use Rattle.world_laws.specs.Cancels.{Owing}
use Rattle.world_laws.specs.Places.{InTable, Beside}
use Rattle.world_laws.specs.Sights.{node_of, directory_of, is_born_in}
use Rattle.world_laws.specs.Plays.{is_there, believed}
use Rattle.world_laws.specs.Names.{NameHolds, NameSight, name_sight, maker_tells}
use Rattle.world_laws.specs.Invariant.{HoldsOwing}
use Rattle.world_laws.proofs.NameFacts.{IsHeldAt, held-there}

-- its deed is in the leader's table, with its body
pub record IsAtLeader (w : World) (b : Beside) (name : Name) : Type 0 where
  pub deed_is : b.deed name ≡ InTable 1
  pub held : get_named (node_of w 1).deeds name ≡ Some (b.body name)

-- where the directory says so
pub at-leader : (script : Script) (w : World) (hand : List Held) {owes : Owing} (b : Beside) (name : Name)
    → HoldsOwing script w hand owes b → place_of (directory_of w) name ≡ Some (At 1) → IsAtLeader w b name
at-leader script w hand b name holds place =
    by-held (get_named (node_of w 1).deeds name) refl
    (h.leader ∙ ap (λ o. is_there 1 (believed o (maker_tells x x.maker))) place)
  where
    x : NameSight
    x = name_sight script w hand b name

    h : NameHolds script b.pids (is_born_in w) name (name_sight script w hand b name)
    h = holds.names name

    by-held : (o : Option Body) → get_named (node_of w 1).deeds name ≡ o
        → is_some (get_named (node_of w 1).deeds name) ≡ true → IsAtLeader w b name
    by-held None is some = absurd (false≢true (sym (ap is_some is) ∙ some))
    by-held (Some v) is some =
        let at : IsHeldAt (b.deed name) (b.body name) 1 v =
        held-there (b.deed name) (b.body name) 1 v (sym (h.tables 1) ∙ is)
        in record { deed_is = at.deed_is; held = is ∙ ap Some at.body_is }
