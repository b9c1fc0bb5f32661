-- A run ends in one world, and goes on with an event of that world.
use Rattle.std.proofs.Common.{◌≡◌, true, List, [], ◌∷◌, ◌++◌, Some, refl, ap, sym, subst, ◌∙◌}
use Rattle.pico_base.specs.declared.script.Event.{Event}
use Rattle.world_model.specs.World.{World, step, is_enabled}
use Rattle.world_model.specs.Run.{Runs}

-- the same events lead to the same world
pub one-end : (es : List Event) (w a b : World) → Runs w es a → Runs w es b → a ≡ b
one-end [] w a b h g = sym h ∙ g
one-end (e ∷ es) w a b h g =
    let both : Some h.next ≡ Some g.next = sym h.steps ∙ g.steps
    in let same : h.next ≡ g.next = cc
    in one-end es h.next a b h.rest (subst (λ (x : World). Runs x es b) (sym same) g.rest)

-- and one event more to the next one
pub runs-further : (es : List Event) (w v next : World) (e : Event) → Runs w es v → is_enabled v e ≡ true
    → step v e ≡ Some next → Runs w (es ++ e ∷ []) next
runs-further [] w v next e h enabled steps =
    record {
      enabled = ap (λ (x : World). is_enabled x e) h ∙ enabled;
      next = next;
      steps = ap (λ (x : World). step x e) h ∙ steps;
      rest = refl;
    }
runs-further (d ∷ es) w v next e h enabled steps =
    record {
      enabled = h.enabled;
      next = h.next;
      steps = h.steps;
      rest = runs-further es h.next v next e h.rest enabled steps;
    }
