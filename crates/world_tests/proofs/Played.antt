-- A run of given events, so far, where each is tried when it comes.
use Rattle.std.proofs.Common.{◌≡◌, ℕ, ◌+◌, ◌<◌, ◌≤◌, Bool, true, false, List, ◌∷◌, length, drop, get_or, Option, Some, None, IfSome, IsSome, refl, sym, ap, subst, ◌∙◌}
use Rattle.std.proofs.lemmas.List.{drop_more, drop_all}
use Rattle.std.specs.Option.{option_map}
use Rattle.pico_base.specs.declared.script.Script.{Script}
use Rattle.pico_base.specs.declared.script.Event.{Event}
use Rattle.world_model.specs.World.{World, opening_world, step, is_enabled}
use Rattle.world_model.specs.Example.{after_events}

-- What is left of the events leads from this world to where all of them lead from the opening one.
pub record IsPlayed (script : Script) (events : List Event) (i : ℕ) (world : Option World) : Type 0 where
  pub now : World
  pub is_now : world ≡ Some now
  pub same : after_events now (drop i events) ≡ after_events (opening_world script) events

-- what an event comes to, by whether it may come and where it leads
abbrev chosen : Bool → Option World → List Event → Option World
chosen enabled next events =
    elim enabled
    [ false ↦ None | true ↦ elim next [ None ↦ None | Some w ↦ after_events w events ] ]

after_first : (w : World) (e : Event) (events : List Event)
    → after_events w (e ∷ events) ≡ chosen (is_enabled w e) (step w e) events
after_first w e events = refl

-- the events from this place on begin with the one that stands there
split : (events : List Event) (i : ℕ) (e : Event) → i < length events → e ≡ get_or events i e
    → drop i events ≡ e ∷ drop (i + 1) events
split events i e lt read = drop_more events i e lt ∙ ap (λ (x : Event). x ∷ drop (i + 1) events) (sym read)

-- Before the first event all of them are left.
pub IsPlayed-first : (script : Script) (events : List Event) (world : Option World)
    → world ≡ Some (opening_world script) → IsPlayed script events 0 world
IsPlayed-first script events world e = record { now = opening_world script; is_now = e; same = refl }

-- An event that may come leads on.
pub IsPlayed-next : (script : Script) (events : List Event) (i : ℕ) (world next : Option World) (e : Event)
    (old new : World)
    → IsPlayed script events i world → i < length events → e ≡ get_or events i e
    → IfSome world (λ w. true ≡ is_enabled w e)
    → world ≡ Some old → next ≡ Some new → step old e ≡ Some new
    → IsPlayed script events (i + 1) next
IsPlayed-next script events i world next e old new p lt read enabled is_old is_new taken =
    let P : Option World → Type 0 = λ o. IfSome o (λ w. true ≡ is_enabled w e) in
    let may : true ≡ is_enabled p.now e = subst P p.is_now enabled in
    let one : old ≡ p.now = (let a = is_old in let b = p.is_now in cc) in
    let goes : step p.now e ≡ Some new = ap (λ (w : World). step w e) (sym one) ∙ taken in
    record {
      now = new;
      is_now = is_new;
      same =
          ap (λ (o : Option World). chosen true o (drop (i + 1) events)) (sym goes)
          ∙ ap (λ (b : Bool). chosen b (step p.now e) (drop (i + 1) events)) may
          ∙ sym (after_first p.now e (drop (i + 1) events))
          ∙ ap (λ (es : List Event). after_events p.now es) (sym (split events i e lt read))
          ∙ p.same;
    }

-- Where an event may not come, all of them lead nowhere.
pub IsPlayed-stops : (script : Script) (events : List Event) (i : ℕ) (world : Option World) (e : Event)
    → IsPlayed script events i world → i < length events → e ≡ get_or events i e
    → IfSome world (λ w. false ≡ is_enabled w e)
    → None ≡ option_map Some (after_events (opening_world script) events)
IsPlayed-stops script events i world e p lt read enabled =
    let P : Option World → Type 0 = λ o. IfSome o (λ w. false ≡ is_enabled w e) in
    let may_not : false ≡ is_enabled p.now e = subst P p.is_now enabled in
    let nowhere : None ≡ after_events (opening_world script) events =
    ap (λ (b : Bool). chosen b (step p.now e) (drop (i + 1) events)) may_not
    ∙ sym (after_first p.now e (drop (i + 1) events))
    ∙ ap (λ (es : List Event). after_events p.now es) (sym (split events i e lt read))
    ∙ p.same
    in ap (λ (o : Option World). option_map Some o) nowhere

-- Where no event is left, this is where all of them lead.
pub IsPlayed-all : (script : Script) (events : List Event) (i : ℕ) (world : Option World)
    → IsPlayed script events i world → length events ≤ i
    → Some world ≡ option_map Some (after_events (opening_world script) events)
IsPlayed-all script events i world p le =
    let there : Some p.now ≡ after_events (opening_world script) events =
    ap (λ (es : List Event). after_events p.now es) (sym (drop_all i events le)) ∙ p.same in
    ap Some p.is_now ∙ ap (λ (o : Option World). option_map Some o) there

-- The world isn't spent.
pub IsPlayed-whole : (script : Script) (events : List Event) (i : ℕ) (world : Option World)
    → IsPlayed script events i world → IsSome world
IsPlayed-whole script events i world p = let P : Option World → Type 0 = λ o. IsSome o in subst P (sym p.is_now) refl
