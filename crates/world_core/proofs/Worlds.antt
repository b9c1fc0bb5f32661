-- The shape of a world: how many nodes and streams there are, whatever has happened.
use Rattle.std.proofs.Common.{◌≡◌, ℕ, ◌+◌, ◌-◌, ◌<◌, ◌≢◌, suc, zero, true, List, [], ◌∷◌, ◌++◌, length, replicate, set, get_or, Option, Some, None, refl, sym, ap, subst, ◌∙◌, ⊎_elim, length-set, get_or-set_same, get_or-set_other}
use Rattle.std.proofs.lemmas.List.{length-map, length-replicate, get_or-replicate}
use Rattle.std.proofs.lemmas.Bool.{cases_eq}
use Rattle.pico_base.specs.declared.script.Script.{Script}
use Rattle.pico_base.specs.declared.script.Event.{Event}
use Rattle.pico_base.specs.declared.script.Event.TheVariants as events
use Rattle.rpc_frame.specs.declared.frame.Frame.{Frame}
use Rattle.world_model.specs.Node.{Node, opening_node}
use Rattle.world_model.specs.Step.{Step}
use Rattle.world_model.specs.Starting.{run}
use Rattle.world_model.specs.Turn.{take_frame}
use Rattle.world_model.specs.World.{World, Streams, numbers, size, node_count, opening_world, node_at, stream, stream_in, with_stream, with_sent, with_all_sent, world_after, after_turn, runs_at, takes_at, step, is_enabled}
use Rattle.world_model.specs.Run.{Runs, IsReachableWorld}
use Rattle.world_core.specs.declared.state.State.{State}
use Rattle.world_core.specs.Behind.{behind}
use Rattle.world_core.specs.State.{IsSquare, IsAlive, world_of}

-- there are as many numbers as are asked for
pub length-numbers : (count first : ℕ) → length (numbers first count) ≡ count
length-numbers zero first = refl
length-numbers (suc count) first = ap (λ n. suc n) (length-numbers count (first + 1))

pub record IsShaped (w : World) : Type 0 where
  pub nodes : length w.nodes ≡ size w
  pub streams : length w.streams ≡ size w
  pub square : IsSquare w.streams

-- a square of empty streams
pub IsSquare-replicate : (n : ℕ) → IsSquare (replicate n (replicate n []))
IsSquare-replicate n k h =
    let lt : k < n = subst (λ (m : ℕ). k < m) (length-replicate n (replicate n [])) h
    in ap length (get_or-replicate n k (replicate n []) [] lt)
    ∙ length-replicate n [] ∙ sym (length-replicate n (replicate n []))

pub IsShaped-opening : (script : Script) → IsShaped (opening_world script)
IsShaped-opening script = record {
  nodes = length-map (numbers 1 (node_count script)) opening_node ∙ length-numbers (node_count script) 1;
  streams = length-replicate (node_count script) (replicate (node_count script) []);
  square = IsSquare-replicate (node_count script);
}

-- one stream of a square is another
row_at : (streams : Streams) (i k j : ℕ) (fs : List Frame) → IsSquare streams → k < length streams
    → length (get_or (set streams i (set (get_or streams i []) j fs)) k []) ≡ length streams
row_at streams i k j fs square lt =
    ⊎_elim (λ (same : k ≡ i).
    let lt_i : i < length streams = subst (λ (m : ℕ). m < length streams) same lt in
    subst (λ (m : ℕ). length (get_or (set streams i (set (get_or streams i []) j fs)) m []) ≡ length streams) (sym same)
    (ap length (get_or-set_same streams i (set (get_or streams i []) j fs) [] lt_i)
    ∙ length-set (get_or streams i []) j fs ∙ square i lt_i))
    (λ (other : k ≢ i). ap length (get_or-set_other streams i k (set (get_or streams i []) j fs) [] other)
    ∙ square k lt)
    (cases_eq k i)

pub length-with_stream : (streams : Streams) (to from : ℕ) (fs : List Frame)
    → length (with_stream streams to from fs) ≡ length streams
length-with_stream streams to from fs = length-set streams (to - 1) (set (get_or streams (to - 1) []) (from - 1) fs)

-- with another stream in a place, a square is still one
pub IsSquare-set : (streams : Streams) (i j : ℕ) (fs : List Frame)
    → IsSquare streams → IsSquare (set streams i (set (get_or streams i []) j fs))
IsSquare-set streams i j fs square k lt =
    let same = length-set streams i (set (get_or streams i []) j fs)
    in let lt' : k < length streams = subst (λ (m : ℕ). k < m) same lt
    in row_at streams i k j fs square lt' ∙ sym same

pub IsSquare-with_stream : (streams : Streams) (to from : ℕ) (fs : List Frame)
    → IsSquare streams → IsSquare (with_stream streams to from fs)
IsSquare-with_stream streams to from fs square = IsSquare-set streams (to - 1) (from - 1) fs square

-- after frames are sent, there are as many rows of streams
pub length-with_all_sent : (from : ℕ) (sends : List (ℕ × Frame)) (streams : Streams)
    → length (with_all_sent from streams sends) ≡ length streams
length-with_all_sent from [] streams = refl
length-with_all_sent from (sent ∷ sends) streams =
    length-with_all_sent from sends (with_sent from streams sent)
    ∙ length-with_stream streams sent.0 from (stream_in streams sent.0 from ++ sent.1 ∷ [])

-- after frames are sent, a square is still one
pub IsSquare-with_all_sent : (from : ℕ) (sends : List (ℕ × Frame)) (streams : Streams)
    → IsSquare streams → IsSquare (with_all_sent from streams sends)
IsSquare-with_all_sent from [] streams square = square
IsSquare-with_all_sent from (sent ∷ sends) streams square =
    IsSquare-with_all_sent from sends (with_sent from streams sent)
    (IsSquare-with_stream streams sent.0 from (stream_in streams sent.0 from ++ sent.1 ∷ []) square)

IsShaped-after : (w : World) (p : ℕ) (s : Step) → IsShaped w → IsShaped (world_after w p s)
IsShaped-after w p s shaped = record {
  nodes = length-set w.nodes (p - 1) s.node ∙ shaped.nodes;
  streams = length-with_all_sent p s.sends w.streams ∙ shaped.streams;
  square = IsSquare-with_all_sent p s.sends w.streams shaped.square;
}

-- what a step keeps
pub record IsKept (w next : World) : Type 0 where
  pub script : next.script ≡ w.script
  pub shaped : IsShaped w → IsShaped next

kept-turn : (w next : World) (p : ℕ) (s : Option Step) → after_turn w p s ≡ Some next → IsKept w next
kept-turn w next p None e = absurd (let f : ⊥ = cc in f)
kept-turn w next p (Some s) e =
    let same : world_after w p s ≡ next = cc
    in subst (λ (n : World). IsKept w n) same (record { script = refl; shaped = IsShaped-after w p s })

kept-run : (w next : World) (p : ℕ) (n : Option Node) → runs_at w p n ≡ Some next → IsKept w next
kept-run w next p None e = absurd (let f : ⊥ = cc in f)
kept-run w next p (Some n) e = kept-turn w next p (run w.script n) e

kept-take : (w next : World) (p from : ℕ) (n : Option Node) (fs : List Frame) → takes_at w p from n fs ≡ Some next
    → IsKept w next
kept-take w next p from None fs e = absurd (let f : ⊥ = cc in f)
kept-take w next p from (Some n) [] e = absurd (let f : ⊥ = cc in f)
kept-take w next p from (Some n) (frame ∷ fs) e =
    let taken : World = record w { streams = with_stream w.streams p from fs }
    in let kept : IsKept taken next = kept-turn taken next p (take_frame w.script n from frame) e
    in record {
      script = kept.script;
      shaped = λ shaped. kept.shaped (record {
        nodes = shaped.nodes;
        streams = length-with_stream w.streams p from fs ∙ shaped.streams;
        square = IsSquare-with_stream w.streams p from fs shaped.square;
      });
    }

-- a step keeps the script, and the shape of a world that has it
pub kept-step : (w next : World) (e : Event) → step w e ≡ Some next → IsKept w next
kept-step w next (events.Run p) e = kept-run w next p (node_at w p) e
kept-step w next (events.Take p from) e = kept-take w next p from (node_at w p) (stream w p from) e

pub kept-runs : (w last : World) (es : List Event) → Runs w es last → IsKept w last
kept-runs w last [] runs = subst (λ (n : World). IsKept w n) runs (record { script = refl; shaped = λ s. s })
kept-runs w last (e ∷ es) runs =
    let first = kept-step w runs.next e runs.steps
    in let rest = kept-runs runs.next last es runs.rest
    in record { script = rest.script ∙ first.script; shaped = λ s. rest.shaped (first.shaped s) }

pub reachable-script : (script : Script) (w : World) → IsReachableWorld script w → w.script ≡ script
reachable-script script w reached = (kept-runs (opening_world script) w reached.0 reached.1).script

-- a reachable world has as many nodes as its script says, and a stream from each to each
pub reachable-shaped : (script : Script) (w : World) → IsReachableWorld script w → IsShaped w
reachable-shaped script w reached =
    (kept-runs (opening_world script) w reached.0 reached.1).shaped (IsShaped-opening script)

-- and so has a world that runs lead to behind entries that were let go
pub alive-shaped : (s : State) → IsAlive s → IsShaped (world_of s)
alive-shaped s alive =
    let shaped : IsShaped (behind alive.told (world_of s)) =
    reachable-shaped s.script (behind alive.told (world_of s)) alive.reachable
    in record { nodes = shaped.nodes; streams = shaped.streams; square = shaped.square }

-- one more event
pub Runs-more : (es : List Event) (w mid next : World) (e : Event)
    → Runs w es mid → is_enabled mid e ≡ true → step mid e ≡ Some next → Runs w (es ++ e ∷ []) next
Runs-more [] w mid next e runs enabled taken =
    subst (λ (m : World). Runs m (e ∷ []) next) (sym runs)
    (record { enabled = enabled; next = next; steps = taken; rest = refl })
Runs-more (first ∷ es) w mid next e runs enabled taken =
    record {
      enabled = runs.enabled;
      next = runs.next;
      steps = runs.steps;
      rest = Runs-more es runs.next mid next e runs.rest enabled taken;
    }

-- an enabled event leads from a reachable world to a reachable one
pub reachable-more : (script : Script) (w next : World) (e : Event)
    → IsReachableWorld script w → is_enabled w e ≡ true → step w e ≡ Some next → IsReachableWorld script next
reachable-more script w next e reached enabled taken =
    (reached.0 ++ e ∷ [], Runs-more reached.0 (opening_world script) w next e reached.1 enabled taken)
