-- Whether a call is under way at some node, asked node by node.
use Rattle.std.proofs.Common.{◌≡◌, ℕ, ◌+◌, ◌<◌, ◌≤◌, Bool, true, false, ◌||◌, List, [], ◌∷◌, length, drop, get_or, Option, Some, None, IfSome, IsSome, refl, sym, ap, ◌∙◌}
use Rattle.std.specs.List.{list_any}
use Rattle.std.proofs.lemmas.List.{at_drop_all, at_drop_more, get_or_read}
use Rattle.world_model.specs.Node.{Node}
use Rattle.world_model.specs.Run.{has_call_under_way}
use Rattle.world_core.specs.State.{whole}

abbrev pub calls_at : Option Node → Bool
calls_at None = false
calls_at (Some n) = has_call_under_way n

whole-calls : (ns : List (Option Node)) → list_any calls_at ns ≡ list_any has_call_under_way (whole ns)
whole-calls [] = refl
whole-calls (None ∷ ns) = whole-calls ns
whole-calls (Some n ∷ ns) = ap (λ (b : Bool). has_call_under_way n || b) (whole-calls ns)

-- none was found up to this place
abbrev pub IsLeftToAsk : List (Option Node) → ℕ → Type 0
IsLeftToAsk ns at = list_any calls_at (drop at ns) ≡ list_any has_call_under_way (whole ns)

-- at first none was asked
pub left-first : (ns : List (Option Node)) → IsLeftToAsk ns 0
left-first ns = whole-calls ns

-- the node at a place was asked
pub calls-here : (slot : Option Node) (r : Bool) → IsSome slot → IfSome slot (λ n. r ≡ has_call_under_way n)
    → r ≡ calls_at slot
calls-here None r there is = absurd (let f : ⊥ = cc in f)
calls-here (Some n) r there is = is

-- what is left to ask is the node at this place, and those behind it
left-here : (ns : List (Option Node)) (at : ℕ) (slot : Option Node) (r : Bool) → IsLeftToAsk ns at → at < length ns
    → slot ≡ get_or ns at slot → r ≡ calls_at slot
    → (r || list_any calls_at (drop (at + 1) ns)) ≡ list_any has_call_under_way (whole ns)
left-here ns at slot r left within read is =
    ap (λ (b : Bool). b || list_any calls_at (drop (at + 1) ns))
    (is ∙ ap calls_at (get_or_read ns at slot within read None))
    ∙ sym (at_drop_more (list_any calls_at) ns at None within) ∙ left

-- it has a call under way
pub left-found : (ns : List (Option Node)) (at : ℕ) (slot : Option Node) (r : Bool) → IsLeftToAsk ns at
    → at < length ns → slot ≡ get_or ns at slot → r ≡ calls_at slot → r ≡ true
    → true ≡ list_any has_call_under_way (whole ns)
left-found ns at slot r left within read is found =
    ap (λ (b : Bool). b || list_any calls_at (drop (at + 1) ns)) (sym found)
    ∙ left-here ns at slot r left within read is

-- it has none, and the next one is left to ask
pub left-next : (ns : List (Option Node)) (at : ℕ) (slot : Option Node) (r : Bool) → IsLeftToAsk ns at
    → at < length ns → slot ≡ get_or ns at slot → r ≡ calls_at slot → r ≡ false → IsLeftToAsk ns (at + 1)
left-next ns at slot r left within read is calm =
    ap (λ (b : Bool). b || list_any calls_at (drop (at + 1) ns)) (sym calm)
    ∙ left-here ns at slot r left within read is

-- none is left to ask
pub left-none : (ns : List (Option Node)) (at : ℕ) → IsLeftToAsk ns at → length ns ≤ at
    → false ≡ list_any has_call_under_way (whole ns)
left-none ns at left over = sym (at_drop_all (list_any calls_at) ns at over) ∙ left
