-- An exit is carried out as the deeds say, and wakes the parent that waits for it.
use Rattle.std.proofs.Common.{◌≡◌, ◌∙◌, ℕ, Bool, List, [], ◌∷◌, Option, Some, refl, ap, sym}
use Rattle.std.specs.Option.{option_map}
use Rattle.pico_base.specs.declared.call.Call.{Call}
use Rattle.pico_base.specs.declared.numbers.Name.TheVariants.{Proc}
use Rattle.pico_base.specs.declared.reply.Reply.{Reply}
use Rattle.pico_base.specs.declared.reply.Reply.TheVariants as replies
use Rattle.pico_base.specs.declared.script.Script.{Script}
use Rattle.rpc_frame.specs.declared.deed.Parcel.{Parcel}
use Rattle.waiting_model.specs.declared.callers.Wake.{Wake}
use Rattle.number_maps.specs.Maps.{Numbered}
use Rattle.node_model.specs.Bodies as model
use Rattle.node_model.specs.Entries.{outcome_with}
use Rattle.node_model.specs.Kinds.{Named, get_named, put_all}
use Rattle.node_model.specs.Parcels.{commit_exit, fitting_bodies}
use Rattle.node_serve.specs.declared.body.Body.{Body}
use Rattle.node_serve.specs.Bodies.{bodies_of}
use Rattle.node_serve.specs.Ending.{Commits, parked_for, wakes_with}
use Rattle.world_model.specs.Step.{Step, enter_with, with_deeds, with_strike}
use Rattle.world_model.specs.Ends.{answer_own, enter_exit, exit_here, exit_with, is_struck_by_end, parked_parent}

module _ (script : Script) (s : Step) (parcel : Parcel) where
  -- the exit's entry, and the parent's answer if it is woken
  abbrev entered : Step → Call → List Wake → Step
  entered t call wakes =
      answer_own script (enter_with t parcel.pid call (outcome_with (Some replies.Ended) wakes)) wakes

  -- with these deeds, and a strike if the end strikes
  abbrev left_with : model.Deeds → Step
  left_with deeds = with_strike (with_deeds s deeds) (is_struck_by_end s.node parcel.parent)

  -- what is committed to the deeds is the exit
  exit-is : (old new : Named Body) (awaits : Option (Option ℕ)) (own : Option Reply) → s.node.deeds ≡ bodies_of old
      → Commits old parcel awaits new own → parked_for awaits ≡ parked_parent s.node parcel.parent
      → exit_here script s parcel
      ≡ Some (entered (left_with (bodies_of new)) parcel.call (wakes_with parcel.parent own))
  exit-is old new awaits own is c parked =
      ap (λ (deeds : model.Deeds).
      exit_with script s parcel (fitting_bodies deeds parcel) (get_named deeds (Proc parcel.parent))) is
      ∙ ap (λ (fit : Option (Numbered model.Body)).
      exit_with script s parcel fit (get_named (bodies_of old) (Proc parcel.parent))) c.fits
      ∙ ap (exit_with script s parcel (Some c.bodies)) c.held
      ∙ ap (λ (waits : Option Call).
      option_map (enter_exit script s parcel) (commit_exit parcel c.bodies waits c.parent)) (sym parked)
      ∙ ap (option_map (enter_exit script s parcel)) c.commits
      ∙ ap (λ (deeds : model.Deeds).
      Some (entered (left_with (put_all deeds c.committed.changes)) parcel.call c.committed.wakes)) is
      ∙ ap (λ (deeds : model.Deeds). Some (entered (left_with deeds) parcel.call c.committed.wakes)) (sym c.after)
      ∙ ap (λ (wakes : List Wake). Some (entered (left_with (bodies_of new)) parcel.call wakes)) c.wakes

  -- the same, as the code comes to its last step: by a strike, a copy of the call, and whom the end wakes
  pub exit-as : (old new : Named Body) (awaits : Option (Option ℕ)) (own : Option Reply) (mid last : Step)
      (struck : Bool) (call : Call) (wakes : List Wake) → s.node.deeds ≡ bodies_of old
      → Commits old parcel awaits new own → parked_for awaits ≡ parked_parent s.node parcel.parent
      → struck ≡ is_struck_by_end s.node parcel.parent → mid ≡ with_strike (with_deeds s (bodies_of new)) struck
      → call ≡ parcel.call → wakes ≡ wakes_with parcel.parent own → last ≡ entered mid call wakes
      → exit_here script s parcel ≡ Some last
  exit-as old new awaits own mid last struck call wakes is c parked strikes mid_is same woken last_is =
      exit-is old new awaits own is c parked
      ∙ ap (λ (t : Step). Some t)
      (sym (last_is
      ∙ ap (λ (t : Step). entered t call wakes) (mid_is ∙ ap (with_strike (with_deeds s (bodies_of new))) strikes)
      ∙ ap (λ (k : Call). entered (left_with (bodies_of new)) k wakes) same
      ∙ ap (λ (ws : List Wake). entered (left_with (bodies_of new)) parcel.call ws) woken))

  -- and where it wakes the parent, whose node and ticket no entry says
  pub exit-wakes : (old new : Named Body) (awaits : Option (Option ℕ)) (reply : Reply) (mid last : Step)
      (struck : Bool) (call : Call) (w : Wake) (node : ℕ) → s.node.deeds ≡ bodies_of old
      → Commits old parcel awaits new (Some reply) → parked_for awaits ≡ parked_parent s.node parcel.parent
      → struck ≡ is_struck_by_end s.node parcel.parent → mid ≡ with_strike (with_deeds s (bodies_of new)) struck
      → call ≡ parcel.call → w ≡ record { caller = node; ticket = 0; pid = parcel.parent; reply = reply }
      → last ≡ entered mid call (w ∷ []) → exit_here script s parcel ≡ Some last
  exit-wakes old new awaits reply mid last struck call w node is c parked strikes mid_is same w_is last_is =
      exit-as old new awaits (Some reply) mid last struck call (wakes_with parcel.parent (Some reply)) is c parked
      strikes mid_is same refl (last_is ∙ ap (λ (x : Wake). entered mid call (x ∷ [])) w_is)
