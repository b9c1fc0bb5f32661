-- Where taking a frame is enabled there is one at the head of the stream, and the node is born or it is a Checkpoint.
use Rattle.std.proofs.Common.{◌≡◌, ℕ, zero, suc, ◌-◌, ◌<◌, ◌≤◌, Bool, true, false, ◌&&◌, ◌||◌, List, [], ◌∷◌, length, get_or, Option, Some, None, refl, ap, sym, ◌∙◌, arith}
use Rattle.std.proofs.lemmas.Bool.{ltb-true, false≢true}
use Rattle.std.proofs.lemmas.Option.{slice_get_within}
use Rattle.pico_base.specs.declared.script.Script.{Script}
use Rattle.pico_base.specs.declared.script.Event.TheVariants as events
use Rattle.rpc_frame.specs.declared.frame.Frame.{Frame}
use Rattle.world_model.specs.Node.{Node, is_born}
use Rattle.world_model.specs.World.{World, node_at, stream, node_count, is_number, is_enabled, is_take_enabled, is_checkpoint}
use Rattle.world_laws.specs.Sights.{node_of}
use Rattle.world_laws.specs.Invariant.{IsShaped}
use Rattle.world_laws.proofs.Steps.{Heads, node-there}

-- the frame that is taken, and who may take it
pub record IsTaken (script : Script) (w : World) (p q : ℕ) : Type 0 where
  pub frame : Frame
  pub rest : List Frame
  pub heads : Heads script w p q frame rest
  pub may : (is_born (node_of w p) || is_checkpoint frame) ≡ true

both : (a b : Bool) → (a && b) ≡ true → (a ≡ true) × (b ≡ true)
both true b h = (refl, h)
both false b h = absurd (false≢true h)

-- something is within a list where it isn't what stands for nothing
within : {A : Type 0} (xs : List A) (i : ℕ) (d : A) → (get_or xs i d ≡ d → ⊥) → i < length xs
within [] i d h = absurd (h refl)
within (x ∷ xs) zero d h = omega arith
within (x ∷ xs) (suc i) d h = let rest = within xs i d h in omega (arith, rest)

not-none : (f : Frame) (fs : List Frame) → f ∷ fs ≡ [] → ⊥
not-none f fs h = cc

same-node : (n m : Node) → Some n ≡ Some m → n ≡ m
same-node n m h = cc

module _ (script : Script) (w : World) (shape : IsShaped script w) (p q : ℕ) (low : 1 ≤ p) (low_from : 1 ≤ q) where
  taken-by : (o : Option Node) (fs : List Frame) → node_at w p ≡ o → stream w p q ≡ fs → is_take_enabled o fs ≡ true
      → IsTaken script w p q
  taken-by None fs e g h = absurd (false≢true h)
  taken-by (Some n) [] e g h = absurd (false≢true h)
  taken-by (Some n) (frame ∷ rest) e g h =
      let there = slice_get_within w.nodes (p - 1) n e
      in let count = shape.nodes
      in let high : p ≤ node_count script = omega (arith, there, count)
      in let row = shape.row (p - 1) (omega (arith, high))
      in let from = within (get_or w.streams (p - 1) []) (q - 1) [] (λ z. not-none frame rest (sym g ∙ z))
      in let same : node_of w p ≡ n = same-node (node_of w p) n (sym (node-there script w shape p low high) ∙ e)
      in record {
        frame = frame;
        rest = rest;
        heads = record {
          low = low;
          high = high;
          low_from = low_from;
          high_from = omega (arith, from, row);
          head = g;
        };
        may = ap (λ m. is_born m || is_checkpoint frame) same ∙ h;
      }

-- an enabled event that takes a frame has one to take
pub enabled-takes : (script : Script) (w : World) (p q : ℕ) → IsShaped script w
    → is_enabled w (events.Take p q) ≡ true → IsTaken script w p q
enabled-takes script w p q shape h =
    let first = both (is_number p && is_number q) (is_take_enabled (node_at w p) (stream w p q)) h
    in let second = both (is_number p) (is_number q) first.0
    in taken-by script w shape p q (ltb-true 0 p second.0) (ltb-true 0 q second.1) (node_at w p) (stream w p q) refl
    refl first.1
