-- Thawing says yes exactly where the text is an image whose events are a run.
use Rattle.std.proofs.Common.{◌≡◌, ℕ, ◌+◌, Bool, true, false, cond, List, [], ◌∷◌, map, Option, Some, None, IfSome, IsSome, refl, sym, ap, subst, ◌∙◌}
use Rattle.std.specs.Prelude.{Result, Ok, Err, IfOk}
use Rattle.std.specs.Option.{option_map_or}
use Rattle.pico_base.specs.declared.script.Script.{Script}
use Rattle.pico_base.specs.declared.script.Event.{Event}
use Rattle.stamp_merge.specs.declared.Stamped.{Stamped}
use Rattle.world_model.specs.World.{World, opening_world, is_enabled, step}
use Rattle.world_model.specs.Run.{Runs, IsRunOf}
use Rattle.image_text.specs.declared.placed.Placed.{Placed}
use Rattle.image_text.specs.declared.image.Said.{Said}
use Rattle.image_text.specs.declared.fault.ImageStop.{ImageStop}
use Rattle.image_text.specs.declared.fault.ImageStop.TheVariants.{Memory, Script as InScript, At}
use Rattle.image_text.specs.Order.{plain, ordered}
use Rattle.image_text.specs.Parts.{number_behind}
use Rattle.image_text.specs.Reading.{said_by}
use Rattle.image_text.proofs.Images.{said-is}
use Rattle.image_text.proofs.Again.{placed_from, says-placed, reads-again}
use Rattle.world_image.specs.declared.thawing.Thawed.{Thawed}
use Rattle.world_image.specs.Thawing.{Outcome, not_enabled, behind, of_said, thawed, Gives}
use Rattle.world_image.specs.Thaws.{last_from, IsThawOf, IsThawedAs}

abbrev happened : Stamped Placed → Event
happened e = e.item.event

-- ---- stepping is a run

test-ok : (b : Bool) (r : Outcome) (stop : ImageStop) (x : World × Option ℕ) → cond b r (Err stop) ≡ Ok x
    → (b ≡ true) × (r ≡ Ok x)
test-ok true r stop x h = (refl, h)
test-ok false r stop x h = absurd cc

step-ok : (f : World → Outcome) (o : Option World) (stop : ImageStop) (x : World × Option ℕ)
    → option_map_or f o (Err stop) ≡ Ok x → (w : World) × (o ≡ Some w) × (f w ≡ Ok x)
step-ok f None stop x h = absurd cc
step-ok f (Some w) stop x h = (w, refl, h)

pair-parts : (a b : World) (s t : Option ℕ) → (let r : Outcome = Ok (a, s) in r ≡ Ok (b, t)) → (a ≡ b) × (s ≡ t)
pair-parts a b s t h =
    let same : (a, s) ≡ (b, t) = cc in
    (ap (λ (p : World × Option ℕ). p.0) same, ap (λ (p : World × Option ℕ). p.1) same)

behind-runs : (events : List (Stamped Placed)) (w : World) (last : Option ℕ) (next : World) (node : Option ℕ)
    → behind w last events ≡ Ok (next, node)
    → Runs w (map happened events) next × (node ≡ last_from last events)
unfolding behind
behind-runs [] w last next node h = let p = pair-parts w next last node h in (p.0, sym p.1)
behind-runs (e ∷ events) w last next node h =
    let a = test-ok (is_enabled w e.item.event) _ (not_enabled e.item.line) (next, node) h in
    let b = step-ok (λ v. behind v (Some e.node) events) (step w e.item.event) (not_enabled e.item.line) (
      next,
      node,
    ) a.1 in
    let rest = behind-runs events b.0 (Some e.node) next node b.2 in
    (record { enabled = a.0; next = b.0; steps = b.1; rest = rest.0 }, rest.1)

runs-behind : (events : List (Stamped Placed)) (w : World) (last : Option ℕ) (next : World)
    → Runs w (map happened events) next → behind w last events ≡ Ok (next, last_from last events)
unfolding behind
runs-behind [] w last next h = ap (λ (v : World). Ok (v, last)) h
runs-behind (e ∷ events) w last next h =
    rw (h.enabled, h.steps) (runs-behind events h.next (Some e.node) next h.rest)

-- ---- events without their lines

same-events : (events : List (Stamped Placed)) → map happened events ≡ map (λ e. e.item) (map plain events)
same-events [] = refl
same-events (e ∷ events) = ap (λ (es : List Event). e.item.event ∷ es) (same-events events)

same-last : (last : Option ℕ) (events : List (Stamped Placed))
    → last_from last events ≡ last_from last (map plain events)
same-last last [] = refl
same-last last (e ∷ events) = same-last (Some e.node) events

-- ---- yes, and only there

said-ok : (r : Result Said ImageStop) (x : World × Option ℕ) → of_said r ≡ Ok x
    → (said : Said) × (r ≡ Ok said) × (behind (opening_world said.script) None said.events ≡ Ok x)
said-ok (Err stop) x h = absurd cc
said-ok (Ok said) x h = (said, refl, h)

-- thawing says yes only to an image whose events are a run
pub thaw-is : (image : List ℕ) (w : World) (last : Option ℕ) → thawed image ≡ Ok (w, last) → IsThawOf image w last
unfolding thawed
thaw-is image w last h =
    let a = said-ok (said_by image) (w, last) h in
    let said : Said = a.0 in
    let says = said-is image said a.1 in
    let runs = behind-runs said.events (opening_world said.script) None w last a.2 in
    record {
      script = said.script;
      events = says.events;
      is_image = says.is_image;
      stamps = says.stamps;
      order = map plain said.events;
      is_order = says.order;
      run = subst (λ (es : List Event). IsRunOf said.script es w) (same-events said.events) runs.0;
      last_is = runs.1 ∙ same-last None said.events;
    }

-- and to each of them
pub thaw-again : (image : List ℕ) (w : World) (last : Option ℕ) → IsThawOf image w last → thawed image ≡ Ok (w, last)
unfolding thawed
thaw-again image w last h =
    let said : Said = record { script = h.script; events = ordered (placed_from (number_behind image + 1) h.events) } in
    let says : said_by image ≡ Ok said = says-placed image h.script h.events h.is_image h.stamps in
    let same = (reads-again image (Ok said) says h.script h.events h.order h.is_image h.stamps h.is_order).1 in
    let run : Runs (opening_world h.script) (map happened said.events) w =
    subst (λ (es : List Event). Runs (opening_world h.script) es w)
    (ap (map (λ (e : Stamped Event). e.item)) (sym same) ∙ sym (same-events said.events)) h.run in
    let node : last_from None said.events ≡ last =
    same-last None said.events ∙ ap (last_from None) same ∙ sym h.last_is in
    ap of_said says ∙ runs-behind said.events (opening_world h.script) None w run
    ∙ ap (λ (n : Option ℕ). Ok (w, n)) node

-- ---- what was returned

-- a world that was returned is whole
pub given-whole : (image : List ℕ) (r : Result Thawed ImageStop) → Gives r (thawed image) → IfOk r (λ t. IsSome t.world)
given-whole image (Ok t) h = h.0
given-whole image (Err stop) h = tt

-- it is that of the image
pub given-is : (image : List ℕ) (r : Result Thawed ImageStop) → Gives r (thawed image)
    → IfOk r (λ t. IfSome t.world (λ w. IsThawOf image w t.last))
given-is image (Ok t) h = of t.world t.last h.1
  where
    of : (o : Option World) (last : Option ℕ) → IfSome o (λ w. thawed image ≡ Ok (w, last))
        → IfSome o (λ w. IsThawOf image w last)
    of None last h = tt
    of (Some w) last h = thaw-is image w last h
given-is image (Err stop) h = tt

apart : (x : World × Option ℕ) (stop : ImageStop) → (let r : Outcome = Ok x in r ≡ Err stop) → ⊥
apart x stop e = cc

-- what an image is thawed as was returned
pub given-as : (image : List ℕ) (r : Result Thawed ImageStop) → Gives r (thawed image) → (w : World) (last : Option ℕ)
    → IsThawOf image w last → IsThawedAs w last r
given-as image (Ok t) h w last is = of t.world t.last h.0 h.1
  where
    of : (o : Option World) (got : Option ℕ) → IsSome o → IfSome o (λ v. thawed image ≡ Ok (v, got))
        → (o ≡ Some w) × (got ≡ last)
    of None got some h = absurd cc
    of (Some v) got some h =
        let p = pair-parts v w got last (sym h ∙ thaw-again image w last is) in
        (ap (λ (u : World). Some u) p.0, p.1)
given-as image (Err Memory) h w last is = tt
given-as image (Err (InScript line fault)) h w last is =
    apart (w, last) (InScript line fault) (sym (thaw-again image w last is) ∙ h)
given-as image (Err (At line fault)) h w last is = apart (w, last) (At line fault) (sym
    (thaw-again image w last is) ∙ h)
