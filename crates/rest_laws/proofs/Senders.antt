-- Whose parcel it is, and that what a parcel carries is of no node below its own.
use Rattle.std.proofs.Common.{◌≡◌, ◌≢◌, ℕ, ◌<◌, ◌≤◌, true, [], Option, Some, None, ap, sym, ◌∙◌, arith}
use Rattle.std.proofs.lemmas.Bool.{false≢true}
use Rattle.pico_base.specs.declared.numbers.Name.TheVariants.{Proc}
use Rattle.pico_base.specs.declared.script.Script.{Script}
use Rattle.rpc_frame.specs.declared.deed.Parcel.{Parcel}
use Rattle.kernel_laws.proofs.Plain.{from_some, not_some}
use Rattle.kernel_model.specs.Kernel.{Process}
use Rattle.kernel_model.specs.Kernel as kernel
use Rattle.world_model.specs.World.{World}
use Rattle.world_laws.specs.Callers.{is_at_work}
use Rattle.world_laws.specs.Families.{FamilyHolds, IsBorn, IsItsOwn, IsWhereFor, NodeHolds, RestsBelow, checkpoints_to, is_first_stage}
use Rattle.world_laws.specs.Invariant.{Holds, process_deed}
use Rattle.world_laws.specs.Names.{forker}
use Rattle.world_laws.specs.Places.{Beside, DeedPlace, InLeft, InKept, InHand, InExitTo}
use Rattle.world_laws.specs.Sights.{is_born_in, is_born_stage, node_of, stage_of}
use Rattle.world_laws.specs.Ways.{HasSender, IsParcelIn, IsParcelOf, under_way_of}
use Rattle.route_laws.proofs.hand.Answering.{born-there}
use Rattle.rule_laws.proofs.Suggestions.{born-in-range}

-- ---- what a parcel carries

-- the node whose process's parcel a deed is in
abbrev pub carrier : DeedPlace → Option ℕ
carrier (InLeft g) = Some g
carrier (InKept g) = Some g
carrier (InHand g) = Some g
carrier (InExitTo g x) = Some g
carrier place = None

own-not-above : (c : ℕ) (place : DeedPlace) (g : ℕ) → IsItsOwn c place → carrier place ≡ Some g → g ≤ c
own-not-above c (InLeft x) g own e = let same = from_some x g e in omega (arith, own, same)
own-not-above c (InKept x) g own e = let same = from_some x g e in omega (arith, own, same)
own-not-above c (InHand x) g own e = let same = from_some x g e in omega (arith, own, same)
own-not-above c (InExitTo x to) g own e = let same = from_some x g e in omega (arith, own, same)
own-not-above c place g own e = not_some g e

rest-not-above : (c : ℕ) (place : DeedPlace) (g : ℕ) → RestsBelow c place → carrier place ≡ Some g → g ≤ c
rest-not-above c (InLeft x) g below e = let same = from_some x g e in omega (arith, below, same)
rest-not-above c (InKept x) g below e = let same = from_some x g e in omega (arith, below, same)
rest-not-above c (InHand x) g below e = let same = from_some x g e in omega (arith, below, same)
rest-not-above c (InExitTo x to) g below e = let same = from_some x g e in omega (arith, below, same)
rest-not-above c place g below e = not_some g e

not-above : (c : ℕ) (place : DeedPlace) (process : Process) (g : ℕ) → IsWhereFor c place process
    → carrier place ≡ Some g → g ≤ c
not-above c place (kernel.Living alive) g at e = own-not-above c place g at e
not-above c place (kernel.Ended ending) g at e = rest-not-above c place g at e
not-above c place kernel.Gone g at e = rest-not-above c place g at e

-- ---- whose parcel it is

-- The parcel is of the process of a node that was forked by one below it.
pub record Sender (script : Script) (b : Beside) (parcel : Parcel) : Type 0 where
  pub node : ℕ
  pub forked : b.pids node ≢ 0
  pub parent_forked : b.pids (forker script node) ≢ 0
  pub below : forker script node < node
  pub pid_is : parcel.pid ≡ b.pids node
  pub parent_is : parcel.parent ≡ b.pids (forker script node)

module _ (script : Script) (w : World) (b : Beside) (holds : Holds script w [] b) where
  -- A parcel with the deed of a node's process is of no node above that one.
  pub carried-by-lower : (c : ℕ) → b.pids c ≢ 0 → (g : ℕ) → carrier (b.deed (Proc (b.pids c))) ≡ Some g → g ≤ c
  carried-by-lower c forked g e =
      let family : FamilyHolds script b.pids b.places b.kernel (process_deed b.deed) (checkpoints_to script w c)
      (stage_of w c) c = holds.families c forked
      in not-above c (b.deed (Proc (b.pids c))) family.process g family.where_it_is e

  -- Each parcel that there is has one.
  pub sender-of : (parcel : Parcel) → IsParcelIn w [] parcel → Sender script b parcel
  sender-of parcel there =
      let s : HasSender script b.pids (stage_of w) (under_way_of w) parcel = holds.parcels parcel there
      in let its : IsParcelOf script b.pids s.node s.call parcel = s.is_of
      in let born : is_born_in w s.node ≡ true = ap is_born_stage s.stage
      in let range = born-in-range script w holds.shape s.node born
      in let n : NodeHolds script b.pids (is_born_in w) s.node (node_of w s.node) =
      holds.nodes s.node range.0 range.1
      in let birth : IsBorn script b.pids s.node (node_of w s.node).pid (node_of w s.node).parent
      (node_of w s.node).parent_node =
      born-there script b.pids s.node (node_of w s.node).pid (node_of w s.node).parent
      (node_of w s.node).parent_node (stage_of w s.node) (ap is_at_work s.stage) n.birth
      in let pids = holds.pids
      in let forker_is = pids.forked s.node birth.forked
      (λ e. false≢true (sym (ap is_first_stage s.stage) ∙ n.first e))
      in record {
        node = s.node;
        forked = birth.forked;
        parent_forked = forker_is.0;
        below = forker_is.1;
        pid_is = its.pid;
        parent_is = its.parent;
      }
