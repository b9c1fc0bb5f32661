-- A parcel that is there is of a node that has left, and is the only one of its process.
use Rattle.std.proofs.Common.{◌≡◌, ◌≢◌, ℕ, true, [], Some, Contains, ap, sym, subst, ◌∙◌}
use Rattle.pico_base.specs.declared.call.Call.{Call}
use Rattle.pico_base.specs.declared.numbers.Name.{Name}
use Rattle.pico_base.specs.declared.numbers.Name.TheVariants.{Proc}
use Rattle.pico_base.specs.declared.script.Script.{Script}
use Rattle.rpc_frame.specs.declared.deed.Parcel.{Parcel}
use Rattle.rpc_frame.specs.declared.frame.Frame.{Frame}
use Rattle.rpc_frame.specs.declared.frame.Frame.TheVariants as frames
use Rattle.node_model.specs.declared.held.Held.TheVariants.{Ending}
use Rattle.node_model.specs.Directory.{has_deed_of, held_for}
use Rattle.world_model.specs.Node.{Left}
use Rattle.world_model.specs.World.{World}
use Rattle.world_laws.specs.Invariant.{Holds}
use Rattle.world_laws.specs.Places.{Beside}
use Rattle.world_laws.specs.Sights.{directory_of, frames_to, stage_of}
use Rattle.world_laws.specs.Ways.{HasSender, IsParcelIn, IsParcelOf, left as left_in, sent as sent_in, under_way_of}
use Rattle.rule_laws.proofs.ends.KeptItems.{has-its-own}
use Rattle.projection_laws.proofs.Deeds.{held-for-parent, parcel_in}

module _ (script : Script) (w : World) (b : Beside) (holds : Holds script w [] b) where
  abbrev Sends : Parcel → Type 0
  Sends parcel = HasSender script b.pids (stage_of w) (under_way_of w) parcel

  -- a frame or an item brings a parcel, as the invariant has it
  pub parcel-of-frame : (to sender : ℕ) (frame : Frame) (parcel : Parcel) → Contains (frames_to w to sender) frame
      → parcel_in frame ≡ Some parcel → IsParcelIn w [] parcel
  parcel-of-frame to sender (frames.Left one) parcel there is =
      let first : to ≡ 1 = let fit = holds.frames_fit in fit.may_be to sender (frames.Left one) there
      in let same : one ≡ parcel = some-parcel one parcel is
      in subst (IsParcelIn w []) same
      (left_in sender (subst (λ q. Contains (frames_to w q sender) (frames.Left one)) first there))
    where
      some-parcel : (p q : Parcel) → Some p ≡ Some q → p ≡ q
      some-parcel p q e = cc
  parcel-of-frame to sender (frames.ExitTo one) parcel there is =
      let first : sender ≡ 1 = let fit = holds.frames_fit in fit.may_be to sender (frames.ExitTo one) there
      in let same : one ≡ parcel = some-parcel one parcel is
      in subst (IsParcelIn w []) same
      (sent_in to (subst (λ q. Contains (frames_to w to q) (frames.ExitTo one)) first there))
    where
      some-parcel : (p q : Parcel) → Some p ≡ Some q → p ≡ q
      some-parcel p q e = cc
  parcel-of-frame to sender frame parcel there is = absurd (cc)

  pub parcel-of-item : (name : Name) (parcel : Parcel) → Contains (held_for (directory_of w) name) (Ending parcel)
      → Contains (held_for (directory_of w) (Proc parcel.parent)) (Ending parcel)
  parcel-of-item name parcel there =
      subst (λ m. Contains (held_for (directory_of w) m) (Ending parcel))
      (held-for-parent script w b holds name parcel there) there

  -- whose it is: a node that has left, with this call
  pub record IsOfNode (p : ℕ) (parcel : Parcel) : Type 0 where
    pub stage : stage_of w p ≡ Left
    pub call : Call
    pub under_way : under_way_of w p ≡ Some call
    pub call_is : parcel.call ≡ call

  pub of-node : (p : ℕ) (parcel : Parcel) → b.pids p ≢ 0 → IsParcelIn w [] parcel → parcel.pid ≡ b.pids p
      → IsOfNode p parcel
  of-node p parcel forked there is =
      let s : Sends parcel = holds.parcels parcel there
      in let its : IsParcelOf script b.pids s.node s.call parcel = s.is_of
      in let pids = holds.pids
      in let same : p ≡ s.node = pids.apart p s.node forked (sym is ∙ its.pid)
      in record {
        stage = ap (stage_of w) same ∙ s.stage;
        call = s.call;
        under_way = ap (under_way_of w) same ∙ s.ends_by;
        call_is = its.call_is;
      }

  -- a parcel has its own process's deed
  pub own-deed : (parcel : Parcel) → IsParcelIn w [] parcel → has_deed_of (Proc parcel.pid) parcel ≡ true
  own-deed parcel there = has-its-own script b.pids (stage_of w) (under_way_of w) parcel (holds.parcels parcel there)
