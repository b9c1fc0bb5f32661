-- The first parcel of the leader's hand comes to its end: with what is in hand then, and the calls in their places, the
-- step weighs no more.
use Rattle.std.proofs.Common.{◌≡◌, ℕ, ◌+◌, ◌≤◌, Bool, true, false, if◌then◌else◌, List, [], ◌∷◌, ◌++◌, filter, length, map, nat_eq, Option, Some, None, option_map, refl, ap, sym, subst, ◌∙◌, inl, inr, arith}
use Rattle.std.specs.Prelude.{count_by}
use Rattle.std.proofs.lemmas.Bool.{false≢true}
use Rattle.std.proofs.lemmas.List.{length-append}
use Rattle.std.proofs.lemmas.List.Elements.{filter-append}
use Rattle.std.proofs.lemmas.List.Sums.{length-filter, sum_by-append, sum_by-cons}
use Rattle.pico_base.specs.declared.numbers.Name.{Name}
use Rattle.pico_base.specs.declared.numbers.Name.TheVariants.{Proc}
use Rattle.pico_base.specs.declared.script.Script.{Script}
use Rattle.rpc_frame.specs.declared.deed.PackedDeed.{PackedDeed}
use Rattle.rpc_frame.specs.declared.deed.Parcel.{Parcel}
use Rattle.rpc_frame.specs.declared.frame.Frame.TheVariants as frames
use Rattle.number_maps.specs.Maps.{Numbered}
use Rattle.kernel_laws.proofs.Plain.{from_some, not_some}
use Rattle.node_model.specs.Bodies.{Body}
use Rattle.node_model.specs.declared.held.Held.{Held}
use Rattle.node_model.specs.declared.held.Held.TheVariants.{Ending}
use Rattle.node_model.specs.Directory.{At, Coming, Directory, Place, hold, hold_at, is_parcel, place_of, with_place}
use Rattle.node_model.specs.Kinds.{is_object}
use Rattle.node_model.specs.Parcels.{pack_all}
use Rattle.world_model.specs.Census.{one_if}
use Rattle.world_model.specs.Ends.{AfterEnd, IsHeld, Releases, arrive_all, end_by, end_process, exit_here, held_for_all, names_in, release_names}
use Rattle.world_model.specs.Node.{Node}
use Rattle.world_model.specs.Routes.{hold_item}
use Rattle.world_model.specs.Step.{Step, send, with_directory, with_node}
use Rattle.world_laws.specs.Invariant.{IsLeading}
use Rattle.world_laws.specs.Places.{CallPlace}
use Rattle.world_laws.proofs.Named.{name-cases}
use Rattle.rule_laws.proofs.Places.{place-with-other}
use Rattle.route_laws.proofs.release.EndedParcels.{IsPacked}
use Rattle.route_laws.proofs.exits.Arrivals.{AreApart, names-apart}
use Rattle.route_laws.proofs.exits.Released.{call_released}
use Rattle.route_laws.proofs.release.RoutedParcels.{directory_in}
use Rattle.weight_laws.specs.Weights.{calls_weight, directory_weight, hand_weight, is_away, is_held_cancel, item_weight, middle_weight}
use Rattle.weight_laws.proofs.Arrivals.{AreProcesses, HeldAsCounted, ItemsFit, arrivals-fewer, arrivals-free, arrivals-know, arrivals-known, calls-released, released-back, released-cost}
use Rattle.weight_laws.proofs.Costs.{MayEndIf, step_weight}
use Rattle.weight_laws.proofs.Ends.{EndsFree, exit-free}
use Rattle.weight_laws.proofs.Hand.{FewerAway, back-less, back_weight, items-less}
use Rattle.weight_laws.proofs.Known.{knows-with}
use Rattle.weight_laws.proofs.Parts.{place-replaces}
use Rattle.weight_laws.proofs.Sums.{sends-push}

packed-processes : (bodies : Numbered Body)
    → AreProcesses (map (λ (deed : PackedDeed). deed.name) (pack_all Proc bodies))
packed-processes [] = tt
packed-processes (e ∷ bodies) = (refl, packed-processes bodies)

-- the names of a parcel are of processes
pub names-are-processes : (parcel : Parcel) → IsPacked parcel → AreProcesses (names_in parcel)
names-are-processes parcel packed =
    subst (λ ds. AreProcesses (map (λ (deed : PackedDeed). deed.name) ds)) (sym packed.packed)
    (packed-processes packed.bodies)

one-more-parcel : (items : List Held) (parcel : Parcel)
    → count_by is_parcel (items ++ Ending parcel ∷ []) ≡ count_by is_parcel items + 1
one-more-parcel items parcel =
    let both = length-filter is_parcel (items ++ Ending parcel ∷ [])
    in let one = length-filter is_parcel items
    in let parts = ap length (filter-append is_parcel items (Ending parcel ∷ []))
    ∙ length-append (filter is_parcel items) (filter is_parcel (Ending parcel ∷ []))
    in omega (arith, both, one, parts)

no-more-cancels : (items : List Held) (parcel : Parcel)
    → count_by is_held_cancel (items ++ Ending parcel ∷ []) ≡ count_by is_held_cancel items
no-more-cancels items parcel =
    let both = length-filter is_held_cancel (items ++ Ending parcel ∷ [])
    in let one = length-filter is_held_cancel items
    in let parts = ap length (filter-append is_held_cancel items (Ending parcel ∷ []))
    ∙ length-append (filter is_held_cancel items) (filter is_held_cancel (Ending parcel ∷ []))
    in omega (arith, both, one, parts)

-- what is taken of the leader in the middle of its event
pub record IsTended (script : Script) (call : ℕ → CallPlace) (d : Directory) : Type 0 where
  pub leads : IsLeading d
  pub fit : ItemsFit d
  pub counted : HeldAsCounted script call d

module _ (script : Script) (call : ℕ → CallPlace) (parcel : Parcel) (packed : IsPacked parcel) (rest : List Held) where
  abbrev names : List Name
  names = names_in parcel

  -- the calls that were held for the names are in hand
  abbrev pub calls_freed : ℕ → CallPlace
  calls_freed p = call_released names (call p)

  -- ---- the names come to a node

  abbrev arrived : Step → ℕ → Step
  arrived u node =
      let n : Node = u.node in with_node u (with_directory n (arrive_all n.leader.directory names node))

  arrived-lowers : (u : Step) (node : ℕ) → IsTended script call (directory_in u)
      → middle_weight script (arrived u node) (held_for_all (directory_in u) names ++ rest) calls_freed
      ≤ step_weight script u + (hand_weight (directory_in u) rest + calls_weight script call)
  arrived-lowers u node tended =
      let d : Directory = directory_in u
      in let d' : Directory = arrive_all d names node
      in let items : List Held = held_for_all d names
      in let apart : AreApart names = names-apart parcel packed.bodies packed.packed packed.ordered
      in let processes = names-are-processes parcel packed
      in let free = arrivals-free node names d apart tended.leads
      in let cost = released-cost d d' tended.fit names (arrivals-known node names d)
      in let both = sum_by-append (item_weight d') items rest
      in let less = items-less d d' (arrivals-know node names d) rest
      in let back : back_weight d' (items ++ rest) ≡ back_weight d' rest =
      ap one_if (released-back d d' tended.fit names processes rest)
      in let fewer = back-less d d' (arrivals-fewer node names d processes) rest
      in let calls = calls-released script call d tended.counted names apart
      in omega (arith, free, cost, both, less, back, fewer, calls)

  -- a step that costs so much, with the directory as it was
  released : (s u : Step) (node more : ℕ) → more ≤ 1 → step_weight script u ≤ step_weight script s + more
      → directory_in u ≡ directory_in s → IsTended script call (directory_in s)
      → middle_weight script (arrived u node) (held_for_all (directory_in u) names ++ rest) calls_freed
      ≤ middle_weight script s (Ending parcel ∷ rest) call
  released s u node more few cost same tended =
      let low = arrived-lowers u node (subst (IsTended script call) (sym same) tended)
      in let hand : hand_weight (directory_in u) rest ≡ hand_weight (directory_in s) rest =
      ap (λ (d : Directory). hand_weight d rest) same
      in let first = sum_by-cons (item_weight (directory_in s)) (Ending parcel) rest
      in omega (arith, low, hand, first, cost, few)

  -- ---- it is held

  held-fewer : (d : Directory) (to : Option ℕ) (items : List Held)
      → FewerAway d (with_place d (Proc parcel.parent) (Coming to items))
  held-fewer d to items m object h =
      elim (name-cases m (Proc parcel.parent)) [
        | inl e ↦ absurd (false≢true (ap is_object (sym e) ∙ object))
        | inr other ↦
            sym (ap is_away (place-with-other d (Proc parcel.parent) (Coming to items) m other)) ∙ h
      ]

  held : (s : Step) (to : Option ℕ) (items : List Held)
      → place_of (directory_in s) (Proc parcel.parent) ≡ Some (Coming to items) → IsTended script call (directory_in s)
      → middle_weight script (hold_item s (Proc parcel.parent) (Ending parcel)) rest call
      ≤ middle_weight script s (Ending parcel ∷ rest) call
  held s to items e tended =
      let d : Directory = directory_in s
      in let place : Place = Coming to (items ++ Ending parcel ∷ [])
      in let d' : Directory = with_place d (Proc parcel.parent) place
      in let same : hold d (Proc parcel.parent) (Ending parcel) ≡ d' =
      ap (hold_at d (Proc parcel.parent) (Ending parcel)) e
      in let weighs = place-replaces d (Proc parcel.parent) place (Coming to items) tended.leads e
      in let count = one-more-parcel items parcel
      in let cancels = no-more-cancels items parcel
      in let directory : directory_weight (hold d (Proc parcel.parent) (Ending parcel)) ≡ directory_weight d' =
      ap directory_weight same
      in let hand : hand_weight (hold d (Proc parcel.parent) (Ending parcel)) rest ≡ hand_weight d' rest =
      ap (λ (y : Directory). hand_weight y rest) same
      in let less = items-less d d' (knows-with d (Proc parcel.parent) place) rest
      in let back = back-less d d' (held-fewer d to (items ++ Ending parcel ∷ [])) rest
      in let first = sum_by-cons (item_weight d) (Ending parcel) rest
      in omega (arith, weighs, count, cancels, directory, hand, less, back, first)

  -- ---- by the parent's place

  -- with what is in hand then it weighs no more
  abbrev pub EndLowers : Step → AfterEnd → Type 0
  EndLowers s (IsHeld t) = middle_weight script t rest call ≤ middle_weight script s (Ending parcel ∷ rest) call
  EndLowers s (Releases t items) =
      middle_weight script t (items ++ rest) calls_freed ≤ middle_weight script s (Ending parcel ∷ rest) call

  carried-out : (s : Step) (may : MayEndIf script s.node) (node : ℕ) (after : AfterEnd) (o : Option Step)
      → exit_here script s parcel ≡ o
      → IsTended script call (directory_in s)
      → option_map (release_names parcel node) o ≡ Some after → EndLowers s after
  carried-out s may node after None e tended h = not_some after h
  carried-out s may node after (Some u) e tended h =
      let free : EndsFree script s u = exit-free script s parcel may u e
      in let cost = free.costs
      in subst (EndLowers s) (from_some (release_names parcel node u) after h)
      (released s u node 0 (omega arith) (omega (arith, cost)) free.directory tended)

  end-at : (s : Step) (may : MayEndIf script s.node) (node : ℕ) (after : AfterEnd) (t : Bool)
      → IsTended script call (directory_in s)
      → (if t then option_map (release_names parcel node) (exit_here script s parcel)
      else Some (release_names parcel node (send s node (frames.ExitTo parcel)))) ≡ Some after
      → EndLowers s after
  end-at s may node after true tended h = carried-out s may node after (exit_here script s parcel) refl tended h
  end-at s may node after false tended h =
      let u : Step = send s node (frames.ExitTo parcel)
      in let one = sends-push s.sends (node, frames.ExitTo parcel)
      in subst (EndLowers s) (from_some (release_names parcel node u) after h)
      (released s u node 1 (omega arith) (omega (arith, one)) refl tended)

  end-place : (s : Step) (may : MayEndIf script s.node) (after : AfterEnd) (o : Option Place)
      → place_of (directory_in s) (Proc parcel.parent) ≡ o
      → IsTended script call (directory_in s) → end_by script s parcel o ≡ Some after → EndLowers s after
  end-place s may after None e tended h = not_some after h
  end-place s may after (Some (At node)) e tended h =
      let n : Node = s.node in end-at s may node after (nat_eq node n.number) tended h
  end-place s may after (Some (Coming to items)) e tended h =
      subst (EndLowers s) (from_some (IsHeld (hold_item s (Proc parcel.parent) (Ending parcel))) after h)
      (held s to items e tended)

  -- The end of the first parcel.
  pub end-lowers : (s : Step) (may : MayEndIf script s.node) (after : AfterEnd) → IsTended script call (directory_in s)
      → end_process script s parcel ≡ Some after → EndLowers s after
  end-lowers s may after tended h =
      end-place s may after (place_of (directory_in s) (Proc parcel.parent)) refl tended h
