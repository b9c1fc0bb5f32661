-- What a schedule chooses is enabled, and of one of the world's nodes.
use Rattle.std.proofs.Common.{◌≡◌, ℕ, zero, suc, ◌+◌, ◌-◌, ◌%◌, ◌<◌, ◌≤◌, true, List, [], ◌∷◌, length, map, get_or, slice_get, Some, refl, sym, subst, arith}
use Rattle.std.specs.List.{All, flat_map}
use Rattle.std.proofs.lemmas.List.Elements.{All-append, All-filter, All-map, filter_passes}
use Rattle.std.proofs.lemmas.Option.{get_or_from_slice_get, slice_get_within}
use Rattle.pico_base.specs.declared.script.Event.{Event}
use Rattle.pico_base.specs.declared.script.Event.TheVariants as events
use Rattle.world_model.specs.World.{World, numbers, size, is_enabled}
use Rattle.world_model.specs.Schedule.{Schedule, InTurn, Drawn, choice, drawn, enabled_at, enabled_events, events_of, node_of, nodes_after}
use Rattle.world_core.specs.Laws.{IsWithin}

-- an event that may come next, of one of so many nodes
pub record IsNext (w : World) (count : ℕ) (e : Event) : Type 0 where
  pub enabled : is_enabled w e ≡ true
  pub within : node_of e ≤ count

numbers_within : (first count bound : ℕ) → first + count ≤ bound + 1 → All (λ p. p ≤ bound) (numbers first count)
numbers_within first zero bound le = λ k d lt. absurd (let f : ⊥ = omega (arith, lt) in f)
numbers_within first (suc count) bound le =
    λ k d lt. elim k as (λ k. k < length (numbers first (suc count)) → get_or (numbers first (suc count)) k d ≤ bound) [
      | zero ↦ λ lt. omega (arith, le)
      | suc k ↦ λ lt.
          numbers_within (first + 1) count bound (omega (arith, le)) k d (omega (arith, lt))
    ] lt

of_node : (count p : ℕ) → All (λ e. node_of e ≡ p) (events_of count p)
of_node count p =
    All-append (λ e. node_of e ≡ p) (map (λ from. events.Take p from) (numbers 1 count)) (events.Run p ∷ [])
    (All-map (λ e. node_of e ≡ p) (λ from. events.Take p from) (numbers 1 count) (λ k d lt. refl))
    (λ k d lt. elim k as (λ k. k < 1
    → node_of (get_or (events.Run p ∷ []) k d)
    ≡ p) [ zero ↦ λ lt. refl | suc k ↦ λ lt. absurd (let f : ⊥ = omega (arith, lt) in f) ] lt)

next_at : (w : World) (count p : ℕ) → p ≤ count → All (IsNext w count) (enabled_at w p)
next_at w count p le =
    λ k d lt. record {
      enabled = filter_passes (is_enabled w) (events_of (size w) p) k d lt;
      within = subst (λ (n : ℕ). n ≤ count)
          (sym (All-filter (is_enabled w) (λ e. node_of e ≡ p) (events_of (size w) p) (of_node (size w) p) k d lt)) le;
    }

next_among : (w : World) (count : ℕ) (nodes : List ℕ) → All (λ p. p ≤ count) nodes
    → All (IsNext w count) (flat_map (enabled_at w) nodes)
next_among w count [] h = λ k d lt. absurd (let f : ⊥ = omega (arith, lt) in f)
next_among w count (p ∷ nodes) h =
    All-append (IsNext w count) (enabled_at w p) (flat_map (enabled_at w) nodes)
    (next_at w count p (h 0 0 (omega arith)))
    (next_among w count nodes (λ k d lt. h (suc k) d (omega (arith, lt))))

found : (P : Event → Type 0) (xs : List Event) (i : ℕ) (e : Event) → All P xs → slice_get xs i ≡ Some e → P e
found P xs i e all is = subst P (get_or_from_slice_get xs i e e is) (all i e (slice_get_within xs i e is))

-- an event that a schedule within the world chooses is enabled, and of one of its nodes
pub choice_next : (w : World) (s : Schedule) (e : Event) → IsWithin (size w) s → choice w s ≡ Some e
    → IsNext w (size w) e
choice_next w (InTurn last) e le is =
    found (IsNext w (size w)) (flat_map (enabled_at w) (nodes_after (size w) last)) 0 e
    (next_among w (size w) (nodes_after (size w) last)
    (All-append (λ p. p ≤ size w) (numbers (last + 1) (size w - last)) (numbers 1 last)
    (numbers_within (last + 1) (size w - last) (size w) (omega (arith, le)))
    (numbers_within 1 last (size w) (omega (arith, le))))) is
choice_next w (Drawn x) e le is =
    found (IsNext w (size w)) (enabled_events w) (drawn x % length (enabled_events w)) e
    (next_among w (size w) (numbers 1 (size w)) (numbers_within 1 (size w) (size w) (omega arith))) is

-- ---- the sender of a frame that is taken

-- whom an event takes a frame from is one of so many nodes
abbrev pub SenderWithin : ℕ → Event → Type 0
SenderWithin count (events.Run p) = Unit {0}
SenderWithin count (events.Take p from) = from ≤ count

of_sender : (count p : ℕ) → All (SenderWithin count) (events_of count p)
of_sender count p =
    All-append (SenderWithin count) (map (λ from. events.Take p from) (numbers 1 count)) (events.Run p ∷ [])
    (All-map (SenderWithin count) (λ from. events.Take p from) (numbers 1 count)
    (numbers_within 1 count count (omega arith)))
    (λ k d lt. elim k as (λ k. k < 1
    → SenderWithin count (get_or (events.Run p ∷ []) k d)) [
      | zero ↦ λ lt. tt
      | suc k ↦ λ lt. absurd (let f : ⊥ = omega (arith, lt) in f)
    ] lt)

senders_among : (w : World) (nodes : List ℕ) → All (SenderWithin (size w)) (flat_map (enabled_at w) nodes)
senders_among w [] = λ k d lt. absurd (let f : ⊥ = omega (arith, lt) in f)
senders_among w (p ∷ nodes) =
    All-append (SenderWithin (size w)) (enabled_at w p) (flat_map (enabled_at w) nodes)
    (λ k d lt. All-filter (is_enabled w) (SenderWithin (size w)) (events_of (size w) p) (of_sender (size w) p) k d lt)
    (senders_among w nodes)

-- it is one of the world's nodes
pub choice_sender : (w : World) (s : Schedule) (e : Event) → choice w s ≡ Some e → SenderWithin (size w) e
choice_sender w (InTurn last) e is =
    found (SenderWithin (size w)) (flat_map (enabled_at w) (nodes_after (size w) last)) 0 e
    (senders_among w (nodes_after (size w) last)) is
choice_sender w (Drawn x) e is =
    found (SenderWithin (size w)) (enabled_events w) (drawn x % length (enabled_events w)) e
    (senders_among w (numbers 1 (size w))) is
