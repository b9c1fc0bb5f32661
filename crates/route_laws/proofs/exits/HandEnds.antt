-- The first parcel in the leader's hand: its process's end is held for the parent, where that is awaited, or it is sent
-- on or carried out. In each case all holds as before.
use Rattle.std.proofs.Common.{◌≡◌, ℕ, ◌≤◌, true, not, List, [], ◌∷◌, Option, Some, None, is_none, refl, ap, sym, subst, ◌∙◌, inl, inr, arith, append-nil, ◌++◌}
use Rattle.std.proofs.lemmas.Bool.{cases_eq, false≢true}
use Rattle.pico_base.specs.declared.numbers.Name.TheVariants.{Proc}
use Rattle.pico_base.specs.declared.script.Script.{Script}
use Rattle.rpc_frame.specs.declared.deed.Parcel.{Parcel}
use Rattle.node_model.specs.declared.held.Held.{Held}
use Rattle.node_model.specs.declared.held.Held.TheVariants.{Ending}
use Rattle.node_model.specs.Directory.{Directory, Place, At, Coming, place_of, hold, is_known}
use Rattle.world_model.specs.Node.{Node, Stage, Unborn, Living, Leaving, Left}
use Rattle.world_model.specs.Step.{Step, with_directory}
use Rattle.world_model.specs.Routes.{hold_item}
use Rattle.world_model.specs.Ends.{IsHeld, Releases, end_by, end_process, names_in}
use Rattle.world_model.specs.World.{World, node_count, world_after}
use Rattle.world_laws.specs.Places.{InHand, Beside}
use Rattle.world_laws.specs.Sights.{node_of, directory_of, stage_of}
use Rattle.world_laws.specs.Names.{forker}
use Rattle.world_laws.specs.Ways.{Way, way_sight, knows_parent, IsParcelOf, here, tells, collected, over, gone, under_way_of, HasSender}
use Rattle.world_laws.specs.Deeds.{DeedsAreRead}
use Rattle.world_laws.specs.Families.{PidsHold}
use Rattle.world_laws.proofs.Changes.{Changes}
use Rattle.world_laws.proofs.Middles.{changes-further}
use Rattle.rule_laws.proofs.own.Moved.{is_still}
use Rattle.rule_laws.proofs.ends.Directories.{KnowsNodes}
use Rattle.rule_laws.proofs.ends.KeptItems.{parcel-held}
use Rattle.route_laws.proofs.exits.EndKeeps.{EndKeeps, leader-here, leader-directory, end-sent-on, end-carried-out, AreReleased}
use Rattle.route_laws.proofs.hand.Noted.{HoldsAfter}
use Rattle.route_laws.proofs.exits.Released.{call_released}
use Rattle.route_laws.proofs.exits.Parcels.{HasParcel, hand-sender, parcel-in-hand, low-node, high-node, not-first}
use Rattle.route_laws.proofs.Owed.{HoldsAt}

-- The parcel comes to an end that keeps all: it is held, with each call where it was; or it is gone, and what was held
-- for its names is in hand.
pub data HasEnd (script : Script) (v : World) (s : Step) (parcel : Parcel) (rest : List Held) (b : Beside) : Type 0
  where
    keeps_it : (next : Step) → end_process script s parcel ≡ Some (IsHeld next)
        → HoldsAfter script v next rest b.call → HasEnd script v s parcel rest b
    frees : (next : Step) (items : List Held) → end_process script s parcel ≡ Some (Releases next items)
        → HoldsAfter script v next (items ++ rest) (λ p. call_released (names_in parcel) (b.call p))
        → HasEnd script v s parcel rest b

module _ (script : Script) (v : World) (s : Step) (parcel : Parcel) (rest : List Held) (b : Beside)
    (holds : HoldsAt script v 1 s (Ending parcel ∷ rest) b) (reads : DeedsAreRead b.kernel b.body)
    (at_nodes : KnowsNodes (directory_of (world_after v 1 s))) where
  abbrev w : World
  w = world_after v 1 s

  abbrev d : Directory
  d = directory_of w

  abbrev sender : HasSender script b.pids (stage_of w) (under_way_of w) parcel
  sender = hand-sender script w rest parcel b holds

  abbrev c : ℕ
  c = sender.node

  parcel_is : HasParcel script w b parcel c sender.call (InHand c)
  parcel_is = parcel-in-hand script w rest parcel b holds

  some_node : 1 ≤ node_count script
  some_node =
      let pids : PidsHold script b.pids b.places b.kernel = holds.pids
      in let range = pids.nodes 1 (λ e. omega (arith, e, pids.first))
      in range.1

  -- the leader knows the parent, since the node has left
  parent-known : is_known d (Proc parcel.parent) ≡ true
  parent-known =
      ap (λ q. is_known d (Proc q)) is_of.parent
      ∙ by-way (holds.ways c two (high-node script w (Ending parcel ∷ rest) b holds parcel c sender.call (InHand c)
      parcel_is))
    where
      is_of : IsParcelOf script b.pids c sender.call parcel
      is_of = sender.is_of

      two : 2 ≤ c
      two =
          let low = low-node script w (Ending parcel ∷ rest) b holds parcel c sender.call (InHand c) parcel_is
          in let other = not-first script w (Ending parcel ∷ rest) b holds parcel c sender.call (InHand c) parcel_is
          in omega (arith, low, other)

      not-here : {stage : Stage} → stage ≡ Left → stage ≡ Unborn → ⊥
      not-here e g = cc

      not-living : {stage : Stage} → stage ≡ Left → stage ≡ Living → ⊥
      not-living e g = cc

      not-leaving : {stage : Stage} → stage ≡ Left → stage ≡ Leaving → ⊥
      not-leaving e g = cc

      by-way : Way script b.pids c (knows_parent script w b.pids c) (way_sight w c)
          → is_known d (Proc (b.pids (forker script c))) ≡ true
      by-way (here z) =
          absurd (elim z.stage [ inl e ↦ not-here sender.stage e | inr e ↦ not-living sender.stage e ])
      by-way (tells z) = absurd (not-leaving sender.stage z.stage)
      by-way (collected z) = absurd (not-leaving sender.stage z.stage)
      by-way (over z) = z.parent
      by-way (gone z) = z.parent

  -- ---- by the parent's place

  abbrev held_on : Step
  held_on = hold_item s (Proc parcel.parent) (Ending parcel)

  held-changes : Changes script 1 w (world_after v 1 held_on)
      (with_directory (node_of w 1) (hold (directory_of w) (Proc parcel.parent) (Ending parcel))) [] [] []
  held-changes =
      subst (λ (m : Node). Changes script 1 w (world_after v 1 held_on)
      (with_directory m (hold m.leader.directory (Proc parcel.parent) (Ending parcel))) [] [] [])
      (sym (leader-here script v s parcel rest b holds some_node))
      (changes-further script v 1 s held_on [] [] holds.shape (omega arith) some_node tt
      (record { sends_are = sym (append-nil s.sends); entries_are = sym (append-nil s.entries) }))

  held-for : (to : Option ℕ) (kept : List Held) → place_of d (Proc parcel.parent) ≡ Some (Coming to kept)
      → HasEnd script v s parcel rest b
  held-for to kept place =
      keeps_it held_on
      (ap (λ z. end_by script s parcel (place_of z (Proc parcel.parent)))
      (leader-directory script v s parcel rest b holds some_node)
      ∙ ap (end_by script s parcel) place)
      (record {
        beside = _;
        holds = parcel-held script w rest parcel b holds to kept place (world_after v 1 held_on) held-changes;
        calls = λ p. is_still refl;
      })

  released : EndKeeps script v s parcel rest (AreReleased b.call (names_in parcel)) → HasEnd script v s parcel rest b
  released e = frees e.next e.items e.is_end (record { beside = e.beside; holds = e.holds; calls = e.calls })

  at-node : (x : ℕ) → place_of d (Proc parcel.parent) ≡ Some (At x) → HasEnd script v s parcel rest b
  at-node x place =
      elim (cases_eq x 1) [
        | inl e ↦
            released
            (end-carried-out script v s parcel rest b holds some_node reads (place ∙ ap (λ y. Some (At y)) e))
        | inr away ↦
            released
            (end-sent-on script v s parcel rest b holds some_node x place (at_nodes (Proc parcel.parent) x place) away)
      ]

  by-place : (o : Option Place) → place_of d (Proc parcel.parent) ≡ o → HasEnd script v s parcel rest b
  by-place None e = absurd (false≢true (sym (ap (λ o. not (is_none o)) e) ∙ parent-known))
  by-place (Some (Coming to kept)) e = held-for to kept e
  by-place (Some (At x)) e = at-node x e

  -- The end comes to something that keeps all.
  pub hand-has-end : HasEnd script v s parcel rest b
  hand-has-end = by-place (place_of d (Proc parcel.parent)) refl
