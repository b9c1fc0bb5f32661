-- In each world of a run there are the script, its nodes, and a stream for each pair of them, wherever frames were
-- sent.
use Rattle.std.proofs.Common.{◌≡◌, ℕ, ◌-◌, ◌<◌, List, [], ◌∷◌, ◌++◌, length, get_or, Option, Some, None, refl, ap, sym, subst, ◌∙◌, inl, inr}
use Rattle.std.specs.Prelude.{set}
use Rattle.std.proofs.lemmas.Bool.{cases_eq}
use Rattle.std.proofs.lemmas.List.{length-set, get_or-set_same, get_or-set_other}
use Rattle.pico_base.specs.declared.script.Script.{Script}
use Rattle.pico_base.specs.declared.script.Event.{Event}
use Rattle.pico_base.specs.declared.script.Event.TheVariants as events
use Rattle.rpc_frame.specs.declared.frame.Frame.{Frame}
use Rattle.world_model.specs.Node.{Node}
use Rattle.world_model.specs.Step.{Step}
use Rattle.world_model.specs.Starting.{run}
use Rattle.world_model.specs.Turn.{take_frame}
use Rattle.world_model.specs.World.{World, Streams, node_at, stream, stream_in, with_stream, with_sent, with_all_sent, node_count, opening_world, world_after, after_turn, runs_at, takes_at, step}
use Rattle.world_model.specs.Run.{Runs, IsRunOf}
use Rattle.world_laws.proofs.Streams.{Square}
use Rattle.log_laws.proofs.Whole.{length-nodes, opening-square}

-- a world with so many nodes, and a stream for each pair
pub record HasShape (script : Script) (w : World) : Type 0 where
  pub of_script : w.script ≡ script
  pub count : length w.nodes ≡ node_count script
  pub square : Square (node_count script) w.streams

square-kept : (n : ℕ) (ss : Streams) (p q : ℕ) (fs : List Frame) → Square n ss → Square n (with_stream ss p q fs)
square-kept n ss p q fs s =
    record {
      rows = length-set ss (p - 1) _ ∙ s.rows;
      row = λ i l. elim (cases_eq i (p - 1)) [
        | inl e ↦
            let within : p - 1 < n = subst (λ j. j < n) e l
            in ap (λ j. length (get_or (set ss (p - 1) (set (get_or ss (p - 1) []) (q - 1) fs)) j [])) e
            ∙ ap length (get_or-set_same ss (p - 1) _ [] (subst (λ x. p - 1 < x) (sym s.rows) within))
            ∙ length-set (get_or ss (p - 1) []) (q - 1) fs ∙ s.row (p - 1) within
        | inr d ↦ ap length (get_or-set_other ss (p - 1) i _ [] d) ∙ s.row i l
      ];
    }

square-all_sent : (n p : ℕ) (ss : Streams) (sends : List (ℕ × Frame)) → Square n ss
    → Square n (with_all_sent p ss sends)
square-all_sent n p ss [] s = s
square-all_sent n p ss (sent ∷ sends) s =
    square-all_sent n p (with_sent p ss sent) sends
    (square-kept n ss sent.0 p (stream_in ss sent.0 p ++ sent.1 ∷ []) s)

shape-after : (script : Script) (v : World) (p : ℕ) (s : Step) → HasShape script v → HasShape script (world_after v p s)
shape-after script v p s shape =
    record {
      of_script = shape.of_script;
      count = length-set v.nodes (p - 1) s.node ∙ shape.count;
      square = square-all_sent (node_count script) p v.streams s.sends shape.square;
    }

-- a turn that has a step, and the world that it leaves
pub after-some : (v next : World) (p : ℕ) (o : Option Step) → after_turn v p o ≡ Some next
    → (s : Step) × ((o ≡ Some s) × (next ≡ world_after v p s))
after-some v next p None h = absurd (cc)
after-some v next p (Some s) h = let same : next ≡ world_after v p s = cc in (s, (refl, same))

shape-after_turn : (script : Script) (v next : World) (p : ℕ) (o : Option Step) → HasShape script v
    → after_turn v p o ≡ Some next → HasShape script next
shape-after_turn script v next p o shape h =
    let found = after-some v next p o h
    in subst (HasShape script) (sym found.1.1) (shape-after script v p found.0 shape)

shape-after_run : (script : Script) (w next : World) (p : ℕ) (o : Option Node) → HasShape script w
    → runs_at w p o ≡ Some next → HasShape script next
shape-after_run script w next p None shape h = absurd (cc)
shape-after_run script w next p (Some n) shape h = shape-after_turn script w next p (run w.script n) shape h

shape-after_take : (script : Script) (w next : World) (p from : ℕ) (o : Option Node) (fs : List Frame)
    → HasShape script w → takes_at w p from o fs ≡ Some next → HasShape script next
shape-after_take script w next p from None fs shape h = absurd (cc)
shape-after_take script w next p from (Some n) [] shape h = absurd (cc)
shape-after_take script w next p from (Some n) (frame ∷ rest) shape h =
    shape-after_turn script (record w { streams = with_stream w.streams p from rest }) next p
    (take_frame w.script n from frame)
    (record {
      of_script = shape.of_script;
      count = shape.count;
      square = square-kept (node_count script) w.streams p from rest shape.square;
    })
    h

shape-next : (script : Script) (w next : World) (e : Event) → HasShape script w → step w e ≡ Some next
    → HasShape script next
shape-next script w next (events.Run p) shape h = shape-after_run script w next p (node_at w p) shape h
shape-next script w next (events.Take p from) shape h =
    shape-after_take script w next p from (node_at w p) (stream w p from) shape h

shape-runs : (script : Script) (es : List Event) (w last : World) → HasShape script w → Runs w es last
    → HasShape script last
shape-runs script [] w last shape h = subst (HasShape script) h shape
shape-runs script (e ∷ es) w last shape h =
    shape-runs script es h.next last (shape-next script w h.next e shape h.steps) h.rest

-- the world of a run
pub shape-of-run : (script : Script) (es : List Event) (w : World) → IsRunOf script es w → HasShape script w
shape-of-run script es w h =
    shape-runs script es (opening_world script) w
    (record { of_script = refl; count = length-nodes 1 (node_count script); square = opening-square script }) h
