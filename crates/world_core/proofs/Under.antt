-- A run of given events, so far.
use Rattle.std.proofs.Common.{◌≡◌, ℕ, ◌+◌, ◌<◌, ◌≤◌, true, List, [], ◌∷◌, ◌++◌, length, take, drop, get_or, Option, Some, IfSome, IsSome, refl, sym, ap, subst, ◌∙◌}
use Rattle.std.proofs.lemmas.List.{take_more, drop_more, take_all}
use Rattle.pico_base.specs.declared.script.Script.{Script}
use Rattle.pico_base.specs.declared.script.Event.{Event}
use Rattle.world_model.specs.World.{World, opening_world, step, is_enabled}
use Rattle.world_model.specs.Run.{Runs, IsRunOf}
use Rattle.world_core.specs.Stepped.{IsStepped}
use Rattle.world_core.proofs.Worlds.{Runs-more}

-- the first i of the events led here, and the others can follow
pub record IsUnder (script : Script) (events : List Event) (i : ℕ) (world : Option World) : Type 0 where
  pub now : World
  pub is_now : world ≡ Some now
  pub so_far : Runs (opening_world script) (take i events) now
  pub last : World
  pub left : Runs now (drop i events) last

pub IsUnder-first : (script : Script) (events : List Event) (world : Option World) (last : World)
    → world ≡ Some (opening_world script)
    → IsRunOf script events last → IsUnder script events 0 world
IsUnder-first script events world last e run = record {
  now = opening_world script;
  is_now = e;
  so_far = refl;
  last = last;
  left = run;
}

left_next : (script : Script) (events : List Event) (i : ℕ) (world : Option World) (e : Event)
    (u : IsUnder script events i world)
    → i < length events → e ≡ get_or events i e → Runs u.now (e ∷ drop (i + 1) events) u.last
left_next script events i world e u lt read =
    let split : drop i events ≡ e ∷ drop (i + 1) events =
    drop_more events i e lt ∙ ap (λ (x : Event). x ∷ drop (i + 1) events) (sym read)
    in subst (λ (es : List Event). Runs u.now es u.last) split u.left

pub IsUnder-enabled : (script : Script) (events : List Event) (i : ℕ) (world : Option World) (e : Event)
    → IsUnder script events i world
    → i < length events → e ≡ get_or events i e → IfSome world (λ w. is_enabled w e ≡ true)
IsUnder-enabled script events i world e u lt read =
    let P : Option World → Type 0 = λ o. IfSome o (λ w. is_enabled w e ≡ true)
    in subst P (sym u.is_now) (left_next script events i world e u lt read).enabled

-- a run of given events goes on by the next of them
pub IsUnder-next : (script : Script) (events : List Event) (i : ℕ) (world next : Option World) (e : Event)
    → IsUnder script events i world → i < length events → e ≡ get_or events i e → IsStepped world e next
    → IsUnder script events (i + 1) next
IsUnder-next script events i world next e u lt read stepped =
    let left = left_next script events i world e u lt read in
    let same : stepped.0 ≡ u.now = (let a = stepped.2 in let b = u.is_now in cc) in
    let taken : step u.now e ≡ Some stepped.1 = ap (λ (w : World). step w e) (sym same) ∙ stepped.4 in
    let there : left.next ≡ stepped.1 = (let a = left.steps in cc) in
    let more : take (i + 1) events ≡ take i events ++ e ∷ [] =
    take_more events i e lt ∙ ap (λ (x : Event). take i events ++ x ∷ []) (sym read) in
    record {
      now = stepped.1;
      is_now = stepped.3;
      so_far =
          subst (λ (es : List Event). Runs (opening_world script) es stepped.1) (sym more)
          (Runs-more (take i events) (opening_world script) u.now stepped.1 e u.so_far left.enabled taken);
      last = u.last;
      left = subst (λ (w : World). Runs w (drop (i + 1) events) u.last) there left.rest;
    }

pub IsUnder-run : (script : Script) (events : List Event) (i : ℕ) (world : Option World) → IsUnder script events i world
    → length events ≤ i → IfSome world (IsRunOf script events)
IsUnder-run script events i world u le =
    let all : take i events ≡ events = take_all i events le
    in let run : IsRunOf script events u.now =
    subst (λ (es : List Event). Runs (opening_world script) es u.now) all u.so_far
    in let P : Option World → Type 0 = λ o. IfSome o (IsRunOf script events) in subst P (sym u.is_now) run

pub IsUnder-whole : (script : Script) (events : List Event) (i : ℕ) (world : Option World)
    → IsUnder script events i world → IsSome world
IsUnder-whole script events i world u = let P : Option World → Type 0 = λ o. IsSome o in subst P (sym u.is_now) refl
