-- Where an event that is enabled takes place.
use Rattle.std.proofs.Common.{◌≡◌, ℕ, ◌-◌, ◌<◌, ◌≤◌, Bool, true, false, ◌&&◌, List, [], length, set, get_or, Option, Some, None, refl, sym, ap, subst, ◌∙◌, arith, length-set}
use Rattle.std.proofs.lemmas.List.{get_or_read}
use Rattle.std.proofs.lemmas.Option.{slice_get_within}
use Rattle.pico_base.specs.declared.script.Event.{Event}
use Rattle.pico_base.specs.declared.script.Event.TheVariants as events
use Rattle.rpc_frame.specs.declared.frame.Frame.{Frame}
use Rattle.world_model.specs.Node.{Node}
use Rattle.world_model.specs.World.{World, Streams, node_at, stream, with_all_sent, is_number, is_enabled, is_run_enabled, is_take_enabled}
use Rattle.world_core.specs.Inbox.{IsTaken}
use Rattle.world_core.specs.State.{IsSquare, AreSeats}
use Rattle.world_core.proofs.Worlds.{IsSquare-set, IsSquare-with_all_sent, length-with_all_sent}

-- where both hold, the second does
pub and_right : (a b : Bool) → (a && b) ≡ true → b ≡ true
and_right true b e = e
and_right false b e = absurd (let f : ⊥ = cc in f)

run_some : (o : Option Node) → is_run_enabled o ≡ true → (n : Node) × (o ≡ Some n)
run_some None e = absurd (let f : ⊥ = cc in f)
run_some (Some n) e = (n, refl)

take_some : (o : Option Node) (fs : List Frame) → is_take_enabled o fs ≡ true → (n : Node) × (o ≡ Some n)
take_some None fs e = absurd (let f : ⊥ = cc in f)
take_some (Some n) fs e = (n, refl)

within : (w : World) (p : ℕ) (n : Node) → node_at w p ≡ Some n → p ≤ length w.nodes
within w p n e = let lt = slice_get_within w.nodes (p - 1) n e in omega arith

-- a node whose run is enabled is one of the world's
pub run_within : (w : World) (e : Event) (p : ℕ) → is_enabled w e ≡ true → e ≡ events.Run p → p ≤ length w.nodes
run_within w e p enabled is =
    let found = run_some (node_at w p)
    (and_right (is_number p) _ (sym (ap (λ (x : Event). is_enabled w x) is) ∙ enabled))
    in within w p found.0 found.1

-- a node that may take a frame is one of the world's
pub take_within : (w : World) (e : Event) (p from : ℕ) → is_enabled w e ≡ true → e ≡ events.Take p from
    → p ≤ length w.nodes
take_within w e p from enabled is =
    let found = take_some (node_at w p) (stream w p from)
    (and_right (is_number p && is_number from) _ (sym (ap (λ (x : Event). is_enabled w x) is) ∙ enabled))
    in within w p found.0 found.1

-- taking a frame leaves a square
pub IsSquare-taken : (streams : Streams) (k from : ℕ) (frame : Frame) (row new : List (List Frame))
    → k < length streams → row ≡ get_or streams k row → IsTaken row from (Some frame) new
    → IsSquare streams → IsSquare (set streams k new)
IsSquare-taken streams k from frame row new lt row_is taken square =
    let at : row ≡ get_or streams k [] = get_or_read streams k row lt row_is []
    in let e : new ≡ set (get_or streams k []) (from - 1) taken.0 =
    taken.2 ∙ ap (λ (l : List (List Frame)). set l (from - 1) taken.0) at
    in subst (λ (l : List (List Frame)). IsSquare (set streams k l)) (sym e)
    (IsSquare-set streams k (from - 1) taken.0 square)

-- and so does it leave the seats
pub seats-taken : (nodes : List (Option Node)) (streams : Streams) (k from : ℕ) (frame : Frame)
    (row new : List (List Frame)) → AreSeats nodes streams → k < length nodes → row ≡ get_or streams k row
    → IsTaken row from (Some frame) new → AreSeats nodes (set streams k new)
seats-taken nodes streams k from frame row new seats lt row_is taken = record {
  whole = seats.whole;
  few = seats.few;
  width = length-set streams k new ∙ seats.width;
  square = IsSquare-taken streams k from frame row new (omega (arith, seats.width)) row_is taken seats.square;
}

-- sending leaves the seats
pub seats-sent : (nodes : List (Option Node)) (from : ℕ) (sends : List (ℕ × Frame)) (streams now : Streams)
    → now ≡ with_all_sent from streams sends → AreSeats nodes streams → AreSeats nodes now
seats-sent nodes from sends streams now sent seats =
    subst (AreSeats nodes) (sym sent)
    (record {
      whole = seats.whole;
      few = seats.few;
      width = length-with_all_sent from sends streams ∙ seats.width;
      square = IsSquare-with_all_sent from sends streams seats.square;
    })
