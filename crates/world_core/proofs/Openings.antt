-- The nodes of a script at its opening, one after another.
use Rattle.std.proofs.Common.{◌≡◌, ℕ, ◌+◌, List, [], ◌∷◌, ◌++◌, length, map, replicate, Option, Some, sym, ap, subst, ◌∙◌, arith}
use Rattle.std.proofs.lemmas.List.{length-map, length-replicate, map_push}
use Rattle.pico_base.specs.declared.script.Script.{Script}
use Rattle.kernel_model.specs.Script.{IsSoundScript}
use Rattle.world_model.specs.Node.{Node, opening_node}
use Rattle.world_model.specs.World.{Streams, numbers, node_count}
use Rattle.world_core.specs.State.{AreWhole, AreSeats, IsSquare}
use Rattle.world_core.proofs.Lists.{numbers-more}
use Rattle.world_core.proofs.Seats.{few_of}
use Rattle.world_core.proofs.Wholes.{AreWhole-map}
use Rattle.world_core.proofs.Worlds.{IsSquare-replicate, length-numbers}

-- the opened nodes with the next one, opened as well, are those of one number more
pub opening_more : (k : ℕ) (nodes more : List (Option Node)) (node : Option Node)
    → nodes ≡ map Some (map opening_node (numbers 1 k)) → node ≡ Some (opening_node (k + 1)) → more ≡ nodes ++ node ∷ []
    → more ≡ map Some (map opening_node (numbers 1 (k + 1)))
opening_more k nodes more node all is_next pushed =
    let e : k + 1 ≡ 1 + k = omega arith in
    let step : map opening_node (numbers 1 (k + 1)) ≡ map opening_node (numbers 1 k) ++ opening_node (k + 1) ∷ [] =
    ap (map opening_node) (numbers-more k 1) ∙ map_push opening_node (numbers 1 k) (1 + k)
    ∙ ap (λ (n : ℕ). map opening_node (numbers 1 k) ++ opening_node n ∷ []) (sym e) in
    pushed ∙ ap (λ (l : List (Option Node)). l ++ node ∷ []) all
    ∙ ap (λ (n : Option Node). map Some (map opening_node (numbers 1 k)) ++ n ∷ []) is_next
    ∙ sym (ap (map Some) step ∙ map_push Some (map opening_node (numbers 1 k)) (opening_node (k + 1)))

-- the opening world's nodes and streams
pub opening-seats : (script : Script) (m : ℕ) (nodes : List (Option Node)) (streams : Streams) → IsSoundScript script
    → nodes ≡ map Some (map opening_node (numbers 1 (node_count script)))
    → streams ≡ replicate m (replicate m []) → m ≡ node_count script → AreSeats nodes streams
opening-seats script m nodes streams sound are_nodes are_streams same =
    let opened : List Node = map opening_node (numbers 1 (node_count script)) in
    let width : length nodes ≡ node_count script =
    ap length are_nodes ∙ length-map opened Some ∙ length-map (numbers 1 (node_count script)) opening_node
    ∙ length-numbers (node_count script) 1 in
    record {
      whole = subst AreWhole (sym are_nodes) (AreWhole-map opened);
      few = (let few = few_of (node_count script) sound.size in omega (arith, width));
      width = ap length are_streams ∙ length-replicate m (replicate m []) ∙ same ∙ sym width;
      square = subst IsSquare (sym are_streams) (IsSquare-replicate m);
    }
