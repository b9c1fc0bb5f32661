-- The processes of those who take away, and the nodes of all who wait, one after another.
use Rattle.std.proofs.Common.{◌≡◌, ◌∙◌, ℕ, List, [], ◌∷◌, ◌++◌, map, sym, ap}
use Rattle.std.proofs.lemmas.List.{append-nil, map-append}
use Rattle.std.proofs.lemmas.List.Concat.{flat_map-append, flat_map-cons}
use Rattle.waiting_model.specs.declared.callers.Waiting.{Waiting}
use Rattle.sysv_sem.specs.Waiters.{taker, takers}

-- they are those of so many who wait
abbrev pub AreTakers : List ℕ → List Waiting → Type 0
AreTakers pids ws = pids ≡ takers ws

-- behind one more
pub takers-further : (pids more : List ℕ) (w : Waiting) → more ≡ pids ++ taker w → (ws : List Waiting)
    → AreTakers pids ws → AreTakers more (ws ++ w ∷ [])
takers-further pids more w is ws so_far =
    let all : takers (ws ++ w ∷ []) ≡ takers ws ++ taker w =
    flat_map-append taker ws (w ∷ [])
    ∙ ap (λ (r : List ℕ). takers ws ++ r) (flat_map-cons taker w [] ∙ append-nil (taker w))
    in is ∙ ap (λ (r : List ℕ). r ++ taker w) so_far ∙ sym all

-- they are the nodes of so many who wait
abbrev pub AreCallers : List ℕ → List Waiting → Type 0
AreCallers nodes ws = nodes ≡ map (λ w. w.caller) ws

-- behind one more
pub callers-further : (nodes more : List ℕ) (w : Waiting) → more ≡ nodes ++ w.caller ∷ [] → (ws : List Waiting)
    → AreCallers nodes ws → AreCallers more (ws ++ w ∷ [])
callers-further nodes more w is ws so_far =
    is ∙ ap (λ (r : List ℕ). r ++ w.caller ∷ []) so_far ∙ sym (map-append (λ (v : Waiting). v.caller) ws (w ∷ []))
