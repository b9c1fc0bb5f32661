-- The leader carries out an end, and releases what it held, within limits.
use Rattle.std.proofs.Common.{◌≡◌, ◌++◌, Option, Some, None, ℕ, true, nat_eq, refl, ◌≤◌, List, ◌+◌, [], ◌∷◌, zero, suc, map}
use Rattle.std.proofs.lemmas.Bool.{and_parts}
use Rattle.std.specs.List.{AllByRecursion, list_all}
use Rattle.std.specs.Option.{option_map}
use Rattle.std.specs.Prelude.{count_by}
use Rattle.frame_bytes.specs.Fields.{name_number}
use Rattle.frame_bytes.specs.Limits.{is_frame, is_deed, is_nonzero}
use Rattle.kernel_laws.proofs.Plain.{by_test, Of, of-map, of-some, of-next}
use Rattle.kernel_model.specs.Script.{IsSoundScript}
use Rattle.limit_laws.proofs.Carried.{exit-within}
use Rattle.limit_laws.proofs.Frames.{exit-has-deeds}
use Rattle.limit_laws.proofs.Lengths.{nonzero-is-some}
use Rattle.limit_laws.proofs.Named.{AreChangesWithin, deeds-put-all}
use Rattle.limit_laws.proofs.Routed.{hold-item-within, route-held-within}
use Rattle.limit_laws.proofs.Steps.{with-directory-step, send-within, with-deeds-within, reply-here-within, arrived-within, held-are-within}
use Rattle.kernel_laws.proofs.Lists.{all-both}
use Rattle.limit_laws.specs.Within.{IsItemWithin, IsDirectoryWithin, IsNodeWithin, IsStepWithin, AreItemsWithin}
use Rattle.node_model.specs.Bodies.{Body}
use Rattle.node_model.specs.Directory.{Directory, Place, At, Coming, place_of, held_for, arrive, is_parcel, parcels_held}
use Rattle.node_model.specs.Kinds.{number_of, get_named, put_all}
use Rattle.node_model.specs.Entries.{outcome_with}
use Rattle.node_model.specs.Parcels.{Committed, fitting_bodies, commit_exit}
use Rattle.node_model.specs.declared.held.Held.TheVariants.{Request, Ending}
use Rattle.node_model.specs.declared.held.Held.{Held}
use Rattle.number_maps.specs.Maps.{Numbered}
use Rattle.pico_base.specs.declared.call.Call.{Call}
use Rattle.pico_base.specs.declared.numbers.Name.TheVariants.{Proc}
use Rattle.pico_base.specs.declared.numbers.Name.{Name}
use Rattle.pico_base.specs.declared.reply.Reply.TheVariants as replies
use Rattle.pico_base.specs.declared.script.Script.{Script}
use Rattle.rpc_frame.specs.declared.deed.PackedDeed.{PackedDeed}
use Rattle.rpc_frame.specs.declared.deed.Parcel.{Parcel}
use Rattle.rpc_frame.specs.declared.frame.Frame.TheVariants as frames
use Rattle.waiting_model.specs.declared.callers.Wake.{Wake}
use Rattle.world_model.specs.Node.{Node}
use Rattle.world_model.specs.Ends.{answer_own, is_struck_by_end, parked_parent, names_in, exit_here, end_process, AfterEnd, IsHeld, Releases, arrive_all, end_by, held_for_all, exit_with, release_names, enter_exit}
use Rattle.world_model.specs.Releases.{release, release_round, go_on_after, no_round, release_rounds}
use Rattle.world_model.specs.Routes.{route_held}
use Rattle.world_model.specs.Step.{Step, enter_with, reply_here, with_deeds, with_strike, send}

module _ (script : Script) (sound : IsSoundScript script) where
  abbrev NodeIs : Node → Type 0
  NodeIs n = IsNodeWithin script n

  abbrev StepIs : Step → Type 0
  StepIs s = IsStepWithin script s

  -- ---- ends

  abbrev AreNumbered : List Name → Type 0
  AreNumbered names = AllByRecursion (λ (name : Name). 1 ≤ number_of name) names

  names-are-numbered : (deeds : List PackedDeed) → list_all is_deed deeds ≡ true
      → AreNumbered (map (λ deed. deed.name) deeds)
  names-are-numbered [] h = tt
  names-are-numbered (deed ∷ deeds) h =
      let w = and_parts (is_deed deed) (list_all is_deed deeds) h
      in (
        nonzero-is-some deed.name (and_parts (is_nonzero (name_number deed.name)) _ w.0).0,
        names-are-numbered deeds w.1,
      )

  arrive-all-within : (names : List Name) (d : Directory) (node : ℕ) → IsDirectoryWithin d → AreNumbered names
      → IsDirectoryWithin (arrive_all d names node)
  arrive-all-within [] d node k low = k
  arrive-all-within (name ∷ names) d node k low =
      arrive-all-within names (arrive d name node) node (arrived-within script sound d name node k low.0) low.1

  held-for-all-within : (names : List Name) (d : Directory) → IsDirectoryWithin d
      → AreItemsWithin (held_for_all d names)
  held-for-all-within [] d k = tt
  held-for-all-within (name ∷ names) d k =
      all-both IsItemWithin (held_for d name) (held_for_all d names) (held-are-within script sound d name k)
      (held-for-all-within names d k)

  -- what an end comes to
  abbrev IsAfterWithin : AfterEnd → Type 0
  IsAfterWithin (IsHeld step) = StepIs step
  IsAfterWithin (Releases step items) = StepIs step × AreItemsWithin items

  release-names-within : (parcel : Parcel) (node : ℕ) (s : Step) → StepIs s
      → is_frame (frames.ExitTo parcel) ≡ true → IsAfterWithin (release_names parcel node s)
  release-names-within parcel node s k can =
      let d : Directory = s.node.leader.directory
      in (
        with-directory-step script sound s (arrive_all d (names_in parcel) node) k
            (arrive-all-within (names_in parcel) d node k.node.directory
            (names-are-numbered parcel.deeds (exit-has-deeds parcel can))),
        held-for-all-within (names_in parcel) d k.node.directory,
      )

  answer-own-within : (wakes : List Wake) (s : Step) → StepIs s → StepIs (answer_own script s wakes)
  answer-own-within [] s k = k
  answer-own-within (w ∷ wakes) s k =
      answer-own-within wakes (reply_here script s w.reply s.node.caller.under_way)
      (reply-here-within script sound s w.reply s.node.caller.under_way k)

  enter-exit-within : (s : Step) (parcel : Parcel) (c : Committed) → StepIs s
      → AreChangesWithin s.node.pid s.node.caller.line c.changes → StepIs (enter_exit script s parcel c)
  enter-exit-within s parcel c k h =
      let n : Node = s.node
      in let struck : Step = with_strike s (is_struck_by_end n parcel.parent)
      in let held : Step = with_deeds struck (put_all n.deeds c.changes)
      in let held_within : StepIs held =
      with-deeds-within script sound struck (put_all n.deeds c.changes) (record { node = k.node; sends = k.sends })
      (deeds-put-all n.pid n.caller.line c.changes n.deeds k.node.deeds h)
      in answer-own-within c.wakes
      (enter_with held parcel.pid parcel.call (outcome_with (Some replies.Ended) c.wakes))
      (record { node = held_within.node; sends = held_within.sends })

  exit-with-within : (s : Step) (parcel : Parcel) (bodies : Option (Numbered Body)) (parent : Option Body) → StepIs s
      → is_frame (frames.ExitTo parcel) ≡ true → fitting_bodies s.node.deeds parcel ≡ bodies
      → get_named s.node.deeds (Proc parcel.parent) ≡ parent → Of StepIs (exit_with script s parcel bodies parent)
  exit-with-within s parcel (Some bodies) (Some parent) k can fits there =
      let n : Node = s.node
      in let waits : Option Call = parked_parent n parcel.parent
      in of-map StepIs (commit_exit parcel bodies waits parent) (enter_exit script s parcel)
      (λ c is. enter-exit-within s parcel c k
      (of-some (λ (x : Committed). AreChangesWithin n.pid n.caller.line x.changes)
      (commit_exit parcel bodies waits parent) c
      (exit-within n.pid n.caller.line n.deeds parcel bodies waits parent k.node.deeds (exit-has-deeds parcel can) fits
      there) is))
  exit-with-within s parcel None parent k can fits there = tt
  exit-with-within s parcel (Some bodies) None k can fits there = tt

  -- An exit is carried out.
  pub exit-here-within : (s : Step) (parcel : Parcel) → StepIs s → is_frame (frames.ExitTo parcel) ≡ true
      → Of StepIs (exit_here script s parcel)
  exit-here-within s parcel k can =
      exit-with-within s parcel (fitting_bodies s.node.deeds parcel) (get_named s.node.deeds (Proc parcel.parent)) k can
      refl refl

  end-by-within : (s : Step) (parcel : Parcel) (o : Option Place) → StepIs s → is_frame (frames.ExitTo parcel) ≡ true
      → Of IsAfterWithin (end_by script s parcel o)
  end-by-within s parcel None k can = tt
  end-by-within s parcel (Some (At node)) k can =
      by_test (Of IsAfterWithin) (nat_eq node s.node.number)
      (option_map (release_names parcel node) (exit_here script s parcel))
      (Some (release_names parcel node (send s node (frames.ExitTo parcel))))
      (λ _. of-map IsAfterWithin (exit_here script s parcel) (release_names parcel node)
      (λ next is. release-names-within parcel node next
      (of-some StepIs (exit_here script s parcel) next (exit-here-within s parcel k can) is) can))
      (λ _. release-names-within parcel node (send s node (frames.ExitTo parcel))
      (send-within script sound s node (frames.ExitTo parcel) k can tt) can)
  end-by-within s parcel (Some (Coming to items)) k can =
      hold-item-within script sound s (Proc parcel.parent) (Ending parcel) k can

  end-process-within : (s : Step) (parcel : Parcel) → StepIs s → is_frame (frames.ExitTo parcel) ≡ true
      → Of IsAfterWithin (end_process script s parcel)
  end-process-within s parcel k can =
      end-by-within s parcel (place_of s.node.leader.directory (Proc parcel.parent)) k can

  -- ---- to release what was held

  abbrev GoesOnWell : (Step → Option Step) → Type 0
  GoesOnWell go_on = (s : Step) → StepIs s → Of StepIs (go_on s)

  abbrev RoundsWell : (List Held → Step → Option Step) → Type 0
  RoundsWell next_round = (items : List Held) → AreItemsWithin items → GoesOnWell (next_round items)

  go-on-after-within : (next_round : List Held → Step → Option Step) (go_on : Step → Option Step) (rest : List Held)
      (after : AfterEnd) → RoundsWell next_round → GoesOnWell go_on → AreItemsWithin rest → IsAfterWithin after
      → Of StepIs (go_on_after next_round go_on rest after)
  go-on-after-within next_round go_on rest (IsHeld s) rounds goes all k = goes s k
  go-on-after-within next_round go_on rest (Releases s items) rounds goes all k =
      rounds (items ++ rest) (all-both IsItemWithin items rest k.1 all) s k.0

  release-round-within : (next_round : List Held → Step → Option Step) → RoundsWell next_round → (items : List Held)
      → AreItemsWithin items → GoesOnWell (release_round script next_round items)
  release-round-within next_round rounds [] all s k = k
  release-round-within next_round rounds (Request asked ∷ rest) all s k =
      of-next StepIs (route_held script s asked) (release_round script next_round rest)
      (λ next is. release-round-within next_round rounds rest all.1 next
      (of-some StepIs (route_held script s asked) next (route-held-within script sound s asked k all.0) is))
  release-round-within next_round rounds (Ending parcel ∷ rest) all s k =
      of-next StepIs (end_process script s parcel)
      (go_on_after next_round (release_round script next_round rest) rest)
      (λ after is. go-on-after-within next_round (release_round script next_round rest) rest after rounds
      (release-round-within next_round rounds rest all.1) all.1
      (of-some IsAfterWithin (end_process script s parcel) after (end-process-within s parcel k all.0) is))

  release-rounds-within : (rounds : ℕ) → RoundsWell (release_rounds rounds script)
  release-rounds-within zero items all s k = release-round-within no_round (λ _ _ _ _. tt) items all s k
  release-rounds-within (suc rounds) items all s k =
      release-round-within (release_rounds rounds script) (release-rounds-within rounds) items all s k

  -- What was held is released.
  pub release-within : (items : List Held) (s : Step) → StepIs s → AreItemsWithin items
      → Of StepIs (release script items s)
  release-within items s k all =
      release-rounds-within (count_by is_parcel items + parcels_held s.node.leader.directory) items all s k
