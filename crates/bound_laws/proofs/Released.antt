-- The leader carries out an end, and releases what it held: bounds stay in every world in the middle of an event.
use Rattle.std.proofs.Common.{◌≡◌, ℕ, zero, suc, nat_eq, List, [], ◌∷◌, ◌++◌, Option, Some, None, Bool}
use Rattle.std.specs.Prelude.{count_by, ◌+◌}
use Rattle.std.specs.Option.{option_map}
use Rattle.pico_base.specs.declared.numbers.Name.{Name}
use Rattle.pico_base.specs.declared.numbers.Name.TheVariants.{Proc}
use Rattle.pico_base.specs.declared.reply.Reply.TheVariants as replies
use Rattle.pico_base.specs.declared.script.Script.{Script}
use Rattle.pico_base.specs.declared.call.Call.{Call}
use Rattle.rpc_frame.specs.declared.asked.Asked.{Asked}
use Rattle.rpc_frame.specs.declared.deed.Parcel.{Parcel}
use Rattle.rpc_frame.specs.declared.frame.Frame.TheVariants as frames
use Rattle.number_maps.specs.Maps.{Numbered}
use Rattle.kernel_laws.proofs.Plain.{Of, by_test, of-map, of-next, of-some, of-test}
use Rattle.kernel_laws.proofs.Lists.{all-both}
use Rattle.waiting_model.specs.declared.callers.Wake.{Wake}
use Rattle.waiting_model.specs.ProcessCalls.{wakes_under}
use Rattle.node_model.specs.declared.held.Held.{Held}
use Rattle.node_model.specs.declared.held.Held.TheVariants.{Request, Ending}
use Rattle.node_model.specs.Bodies.{Body}
use Rattle.node_model.specs.Directory.{Directory, Place, At, Coming, arrive, held_for, is_parcel, parcels_held, place_of}
use Rattle.node_model.specs.Kinds.{get_named, put_all}
use Rattle.node_model.specs.Parcels.{commit_exit, fitting_bodies, Committed, ending_of, lets_end, parent_with}
use Rattle.node_model.specs.Entries.{outcome_with}
use Rattle.world_model.specs.Routes.{route_held}
use Rattle.world_model.specs.Ends.{AfterEnd, IsHeld, Releases, arrive_all, end_by, end_process, enter_exit, exit_here, exit_with, held_for_all, names_in, release_names, answer_own, is_struck_by_end, parked_parent}
use Rattle.world_model.specs.Releases.{go_on_after, no_round, release, release_round, release_rounds}
use Rattle.world_model.specs.Step.{Step, send, with_deeds, with_directory, enter_with, reply_here, with_strike}
use Rattle.world_model.specs.World.{IsNode}
use Rattle.bound_laws.specs.Bounded.{ItemIsOfNode, ItemsAreOfNodes, NamesNodes, PlaceNamesNodes, StepIsBounded}
use Rattle.bound_laws.proofs.Parts.{arrive-names, held-are-of-nodes}
use Rattle.bound_laws.proofs.Routed.{hold-item-bounded, route-held-bounded}
use Rattle.bound_laws.proofs.StepParts.{enter-bounded, send-bounded, with-deeds-bounded, with-directory-bounded, with-node-bounded, reply-here-bounded, with-strike-bounded}
use Rattle.bound_laws.proofs.Waiters.{PairsNameNodes, committed-name-nodes, put-deeds-bounded}

module _ (script : Script) where
  -- ---- ends

  arrive-all-names : (names : List Name) (d : Directory) (node : ℕ) → NamesNodes script d → IsNode script node
      → NamesNodes script (arrive_all d names node)
  arrive-all-names [] d node k own = k
  arrive-all-names (name ∷ names) d node k own =
      arrive-all-names names (arrive d name node) node (arrive-names script d name node k own) own

  held-for-all-named : (names : List Name) (d : Directory) → NamesNodes script d
      → ItemsAreOfNodes script (held_for_all d names)
  held-for-all-named [] d k = tt
  held-for-all-named (name ∷ names) d k =
      all-both (ItemIsOfNode script) (held_for d name) (held_for_all d names) (held-are-of-nodes script d name k)
      (held-for-all-named names d k)

  -- what an end comes to
  abbrev pub AfterEndIsBounded : AfterEnd → Type 0
  AfterEndIsBounded (IsHeld step) = StepIsBounded script step
  AfterEndIsBounded (Releases step items) = StepIsBounded script step × ItemsAreOfNodes script items

  release-names-bounded : (parcel : Parcel) (node : ℕ) (s : Step) → StepIsBounded script s → IsNode script node
      → AfterEndIsBounded (release_names parcel node s)
  release-names-bounded parcel node s k own =
      let d : Directory = s.node.leader.directory
      in (
        with-node-bounded script s (with_directory s.node (arrive_all d (names_in parcel) node)) k
            (with-directory-bounded script s.node (arrive_all d (names_in parcel) node) k.node
            (arrive-all-names (names_in parcel) d node k.node.directory own)),
        held-for-all-named (names_in parcel) d k.node.directory,
      )

  commit-names-nodes : (parcel : Parcel) (bodies : Numbered Body) (waits : Option Call) (parent : Body)
      → Of (λ c. PairsNameNodes script c.changes) (commit_exit parcel bodies waits parent)
  commit-names-nodes parcel bodies waits parent =
      of-test (λ c. PairsNameNodes script c.changes) (lets_end parcel.pid parent) (Some _)
      (λ _. committed-name-nodes script parcel bodies waits parent
      (wakes_under parcel.pid (ending_of parcel.call) (parent_with parcel.parent waits parent)))

  answer-own-bounded : (wakes : List Wake) (s : Step) → StepIsBounded script s
      → StepIsBounded script (answer_own script s wakes)
  answer-own-bounded [] s k = k
  answer-own-bounded (w ∷ wakes) s k =
      answer-own-bounded wakes (reply_here script s w.reply s.node.caller.under_way)
      (reply-here-bounded script s w.reply s.node.caller.under_way k)

  enter-exit-bounded : (s : Step) (parcel : Parcel) (c : Committed) → StepIsBounded script s
      → PairsNameNodes script c.changes → StepIsBounded script (enter_exit script s parcel c)
  enter-exit-bounded s parcel c k all =
      let now : Bool = is_struck_by_end s.node parcel.parent
      in let held : Step = with_deeds (with_strike s now) (put_all s.node.deeds c.changes)
      in answer-own-bounded c.wakes
      (enter_with held parcel.pid parcel.call (outcome_with (Some replies.Ended) c.wakes))
      (enter-bounded script held parcel.pid parcel.call (outcome_with (Some replies.Ended) c.wakes)
      (with-deeds-bounded script (with_strike s now) (put_all s.node.deeds c.changes)
      (with-strike-bounded script s now k) (put-deeds-bounded script c.changes s.node.deeds k.node.deeds all)))

  exit-with-bounded : (s : Step) (parcel : Parcel) (bodies : Option (Numbered Body)) (parent : Option Body)
      → StepIsBounded script s → Of (StepIsBounded script) (exit_with script s parcel bodies parent)
  exit-with-bounded s parcel (Some bodies) (Some parent) k =
      let waits : Option Call = parked_parent s.node parcel.parent
      in of-map (StepIsBounded script) (commit_exit parcel bodies waits parent) (enter_exit script s parcel)
      (λ c is. enter-exit-bounded s parcel c k
      (of-some (λ x. PairsNameNodes script x.changes) (commit_exit parcel bodies waits parent) c
      (commit-names-nodes parcel bodies waits parent) is))
  exit-with-bounded s parcel None parent k = tt
  exit-with-bounded s parcel (Some bodies) None k = tt

  -- An exit is carried out.
  pub exit-here-bounded : (s : Step) (parcel : Parcel) → StepIsBounded script s
      → Of (StepIsBounded script) (exit_here script s parcel)
  exit-here-bounded s parcel k =
      exit-with-bounded s parcel (fitting_bodies s.node.deeds parcel) (get_named s.node.deeds (Proc parcel.parent)) k

  end-by-bounded : (s : Step) (parcel : Parcel) (o : Option Place) → StepIsBounded script s → PlaceNamesNodes script o
      → Of AfterEndIsBounded (end_by script s parcel o)
  end-by-bounded s parcel None k own = tt
  end-by-bounded s parcel (Some (At node)) k own =
      by_test (Of AfterEndIsBounded) (nat_eq node s.node.number)
      (option_map (release_names parcel node) (exit_here script s parcel))
      (Some (release_names parcel node (send s node (frames.ExitTo parcel))))
      (λ _. of-map AfterEndIsBounded (exit_here script s parcel) (release_names parcel node)
      (λ next is. release-names-bounded parcel node next
      (of-some (StepIsBounded script) (exit_here script s parcel) next (exit-here-bounded s parcel k) is) own))
      (λ _. release-names-bounded parcel node (send s node (frames.ExitTo parcel))
      (send-bounded script s node (frames.ExitTo parcel) k own tt) own)
  end-by-bounded s parcel (Some (Coming to items)) k own =
      hold-item-bounded script s (Proc parcel.parent) (Ending parcel) k tt

  -- A process's end goes to where its parent is, and what that releases is of nodes.
  pub end-process-bounded : (s : Step) (parcel : Parcel) → StepIsBounded script s
      → Of AfterEndIsBounded (end_process script s parcel)
  end-process-bounded s parcel k =
      end-by-bounded s parcel (place_of s.node.leader.directory (Proc parcel.parent)) k
      (k.node.directory.places (Proc parcel.parent))

  -- ---- the next world in the middle of an event

  -- A step that has routed what was held, a call of a node or its withdrawal, is bounded,
  pub routed-is-bounded : (s t : Step) (asked : Asked) → StepIsBounded script s → IsNode script asked.caller
      → route_held script s asked ≡ Some t → StepIsBounded script t
  routed-is-bounded s t asked k caller is =
      of-some (StepIsBounded script) (route_held script s asked) t (route-held-bounded script s asked k caller) is

  -- and so is one that has sent an end on, with what that releases.
  pub ended-is-bounded : (s : Step) (parcel : Parcel) (after : AfterEnd) → StepIsBounded script s
      → end_process script s parcel ≡ Some after → AfterEndIsBounded after
  ended-is-bounded s parcel after k is =
      of-some AfterEndIsBounded (end_process script s parcel) after (end-process-bounded s parcel k) is

  -- ---- to release what was held

  -- a way to go on keeps bounds
  abbrev GoesOnWell : (Step → Option Step) → Type 0
  GoesOnWell go_on = (s : Step) → StepIsBounded script s → Of (StepIsBounded script) (go_on s)

  abbrev RoundsWell : (List Held → Step → Option Step) → Type 0
  RoundsWell next_round = (items : List Held) → ItemsAreOfNodes script items → GoesOnWell (next_round items)

  go-on-after-bounded : (next_round : List Held → Step → Option Step) (go_on : Step → Option Step) (rest : List Held)
      (after : AfterEnd) → RoundsWell next_round → GoesOnWell go_on → ItemsAreOfNodes script rest
      → AfterEndIsBounded after → Of (StepIsBounded script) (go_on_after next_round go_on rest after)
  go-on-after-bounded next_round go_on rest (IsHeld s) rounds goes all k = goes s k
  go-on-after-bounded next_round go_on rest (Releases s items) rounds goes all k =
      rounds (items ++ rest) (all-both (ItemIsOfNode script) items rest k.1 all) s k.0

  release-round-bounded : (next_round : List Held → Step → Option Step) → RoundsWell next_round → (items : List Held)
      → ItemsAreOfNodes script items → GoesOnWell (release_round script next_round items)
  release-round-bounded next_round rounds [] all s k = k
  release-round-bounded next_round rounds (Request asked ∷ rest) all s k =
      of-next (StepIsBounded script) (route_held script s asked) (release_round script next_round rest)
      (λ next is. release-round-bounded next_round rounds rest all.1 next
      (of-some (StepIsBounded script) (route_held script s asked) next (route-held-bounded script s asked k all.0) is))
  release-round-bounded next_round rounds (Ending parcel ∷ rest) all s k =
      of-next (StepIsBounded script) (end_process script s parcel)
      (go_on_after next_round (release_round script next_round rest) rest)
      (λ after is. go-on-after-bounded next_round (release_round script next_round rest) rest after rounds
      (release-round-bounded next_round rounds rest all.1) all.1
      (of-some AfterEndIsBounded (end_process script s parcel) after (end-process-bounded s parcel k) is))

  release-rounds-bounded : (rounds : ℕ) → RoundsWell (release_rounds rounds script)
  release-rounds-bounded zero items all s k = release-round-bounded no_round (λ _ _ _ _. tt) items all s k
  release-rounds-bounded (suc rounds) items all s k =
      release-round-bounded (release_rounds rounds script) (release-rounds-bounded rounds) items all s k

  -- What was held is released.
  pub release-bounded : (items : List Held) (s : Step) → StepIsBounded script s → ItemsAreOfNodes script items
      → Of (StepIsBounded script) (release script items s)
  release-bounded items s k all =
      release-rounds-bounded (count_by is_parcel items + parcels_held s.node.leader.directory) items all s k
