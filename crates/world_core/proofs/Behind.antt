-- What a world does next doesn't rest on what its journal begins with.
use Rattle.std.proofs.Common.{◌≡◌, ℕ, ◌%◌, Bool, List, [], ◌∷◌, length, slice_get, Option, Some, None, IsSome, refl, ap, subst, ◌∙◌}
use Rattle.std.specs.List.{filter, flat_map}
use Rattle.std.specs.Option.{option_map}
use Rattle.std.proofs.lemmas.List.{append_assoc}
use Rattle.pico_base.specs.declared.script.Event.{Event}
use Rattle.pico_base.specs.declared.script.Event.TheVariants as events
use Rattle.pico_base.specs.declared.reply.Entry.{Entry}
use Rattle.rpc_frame.specs.declared.frame.Frame.{Frame}
use Rattle.world_model.specs.Node.{Node}
use Rattle.world_model.specs.Step.{Step}
use Rattle.world_model.specs.Starting.{run}
use Rattle.world_model.specs.Turn.{take_frame}
use Rattle.world_model.specs.World.{World, node_at, numbers, size, stream, with_stream, world_after, after_turn, runs_at, takes_at, step, is_enabled}
use Rattle.world_model.specs.Schedule.{Schedule, InTurn, Drawn, choice, drawn, events_of, nodes_after}
use Rattle.world_core.specs.Behind.{behind}

after_behind : (told : List Entry) (w : World) (p : ℕ) (s : Step)
    → world_after (behind told w) p s ≡ behind told (world_after w p s)
after_behind told w p s =
    ap (λ (journal : List Entry). record (world_after w p s) { journal = journal })
    (append_assoc told w.journal s.entries)

turn_behind : (told : List Entry) (w : World) (p : ℕ) (turn : Option Step)
    → after_turn (behind told w) p turn ≡ option_map (behind told) (after_turn w p turn)
turn_behind told w p None = refl
turn_behind told w p (Some s) = ap (λ (next : World). Some next) (after_behind told w p s)

run_behind : (told : List Entry) (w : World) (p : ℕ) (o : Option Node)
    → runs_at (behind told w) p o ≡ option_map (behind told) (runs_at w p o)
run_behind told w p None = refl
run_behind told w p (Some n) = turn_behind told w p (run w.script n)

take_behind : (told : List Entry) (w : World) (p from : ℕ) (o : Option Node) (there : List Frame)
    → takes_at (behind told w) p from o there ≡ option_map (behind told) (takes_at w p from o there)
take_behind told w p from None there = refl
take_behind told w p from (Some n) [] = refl
take_behind told w p from (Some n) (frame ∷ left) =
    turn_behind told (record w { streams = with_stream w.streams p from left }) p (take_frame w.script n from frame)

-- an event does the same behind any entries
pub step_behind : (told : List Entry) (w : World) (e : Event)
    → step (behind told w) e ≡ option_map (behind told) (step w e)
step_behind told w (events.Run p) = run_behind told w p (node_at w p)
step_behind told w (events.Take p from) = take_behind told w p from (node_at w p) (stream w p from)

-- an event that leads on leads on behind any entries
pub step_goes_behind : (told : List Entry) (w next : World) (e : Event) → step w e ≡ Some next
    → step (behind told w) e ≡ Some (behind told next)
step_goes_behind told w next e taken = step_behind told w e ∙ ap (option_map (behind told)) taken

some_before : (told : List Entry) (o : Option World) → IsSome (option_map (behind told) o) → IsSome o
some_before told None some = some
some_before told (Some next) some = refl

-- an event that has a step behind some entries has one
pub step_is_there : (told : List Entry) (w : World) (e : Event) → IsSome (step (behind told w) e) → IsSome (step w e)
step_is_there told w e some =
    some_before told (step w e) (subst (λ (o : Option World). IsSome o) (step_behind told w e) some)

-- the same events are enabled behind any entries
pub enabled_behind : (told : List Entry) (w : World) (e : Event) → is_enabled (behind told w) e ≡ is_enabled w e
enabled_behind told w (events.Run p) = refl
enabled_behind told w (events.Take p from) = refl

same_events : (told : List Entry) (w : World) → is_enabled (behind told w) ≡ is_enabled w
same_events told w = λ i e. enabled_behind told w e i

-- and a schedule chooses the same
pub choice_behind : (told : List Entry) (w : World) (s : Schedule) → choice (behind told w) s ≡ choice w s
choice_behind told w (InTurn last) =
    ap (λ (may : Event → Bool).
    slice_get (flat_map (λ p. filter may (events_of (size w) p)) (nodes_after (size w) last)) 0)
    (same_events told w)
choice_behind told w (Drawn x) =
    ap (λ (may : Event → Bool).
    let all : List Event = flat_map (λ p. filter may (events_of (size w) p)) (numbers 1 (size w))
    in slice_get all (drawn x % length all))
    (same_events told w)
