-- A deed in a parcel is of a node that has left, so that node's process was forked.
use Rattle.std.proofs.Common.{Contains, ◌≡◌, ◌≢◌, ℕ, Bool, true, false, ◌&&◌, List, [], ◌∷◌, filter, nat_eq, Some, None, refl, ap, sym, subst, ◌∙◌}
use Rattle.std.proofs.lemmas.Bool.{eq-eqb, false≢true}
use Rattle.pico_base.specs.declared.numbers.Name.{Name}
use Rattle.pico_base.specs.declared.numbers.Name.TheVariants.{Proc}
use Rattle.pico_base.specs.declared.script.Script.{Script}
use Rattle.rpc_frame.specs.declared.deed.Parcel.{Parcel}
use Rattle.kernel_laws.proofs.Members.{contains-filtered, contains-first}
use Rattle.node_model.specs.declared.held.Held.{Held}
use Rattle.node_model.specs.Directory.{held_for, is_parcel_with}
use Rattle.world_model.specs.Census.{brings}
use Rattle.world_model.specs.Node.{Left, Node, Stage}
use Rattle.world_model.specs.World.{World}
use Rattle.world_laws.specs.Places.{Beside, DeedPlace, InCheckpoint, InExitTo, InGiveBack, InGrant, InHand, InKept, InLeft, InTable, Unmade}
use Rattle.world_laws.specs.Sights.{directory_of, frames_to, is_born_in, is_born_stage, node_of, stage_of}
use Rattle.world_laws.specs.Names.{HasDeed, IsBringer, IsExitOf, IsItemWith, IsLeftOf, NameHolds, NameSight, OneIf, OnlyOne, forker, is_hand_place, is_kept_for, is_stream_of, name_sight, node_in}
use Rattle.world_laws.specs.Families.{BornIn, IsBorn, NodeHolds}
use Rattle.world_laws.specs.Invariant.{Holds}
use Rattle.world_laws.specs.Ways.{HasSender, IsParcelIn, IsParcelOf, under_way_of, kept as kept_in, left as left_in, sent as sent_in}
use Rattle.rule_laws.proofs.Suggestions.{born-in-range}
use Rattle.rule_laws.proofs.makes.NewOnes.{parcel_of}

-- there is just one
one-there : {A : Type 0} (P : A → Type 0) (xs : List A) (t : Bool) → t ≡ true → OneIf t P xs → OnlyOne P xs
one-there P xs true e h = h
one-there P xs false e h = absurd (false≢true e)

-- which was among those that were filtered
in-filtered : {A : Type 0} (test : A → Bool) (xs : List A) (a : A) → filter test xs ≡ a ∷ [] → Contains xs a
in-filtered test xs a e = (contains-filtered test xs a (subst (λ ys. Contains ys a) (sym e) (contains-first a []))).0

both-true : (a c : Bool) → a ≡ true → c ≡ true → (a && c) ≡ true
both-true a c h g = rw (h, g) refl

module _ (script : Script) (w : World) (b : Beside) (holds : Holds script w [] b) where
  -- the process of a node that has left was forked
  pub left-is-forked : (c : ℕ) → stage_of w c ≡ Left → b.pids c ≢ 0
  left-is-forked c is_left =
      let n : Node = node_of w c
      in let range = born-in-range script w holds.shape c (ap is_born_stage is_left)
      in let node : NodeHolds script b.pids (is_born_in w) c n = holds.nodes c range.0 range.1
      in let born : IsBorn script b.pids c n.pid n.parent n.parent_node =
      subst (λ (s : Stage). BornIn script b.pids c n.pid n.parent n.parent_node s) is_left node.birth
      in born.forked

  parcel-node : (c : ℕ) (parcel : Parcel) → IsParcelIn w [] parcel → parcel.pid ≡ b.pids c → stage_of w c ≡ Left
  parcel-node c parcel there e =
      let s : HasSender script b.pids (stage_of w) (under_way_of w) parcel = holds.parcels parcel there
      in let of : IsParcelOf script b.pids s.node s.call parcel = s.is_of
      in let same : s.node ≡ c = holds.pids.apart s.node c (left-is-forked s.node s.stage) (sym of.pid ∙ e)
      in subst (λ q. stage_of w q ≡ Left) same s.stage

  module _ (m : Name) where
    abbrev x : NameSight
    x = name_sight script w [] b m

    known : NameHolds script b.pids (is_born_in w) m x
    known = holds.names m

    -- a deed in a parcel is of a node that has left
    pub handed-has-left : (c : ℕ) → parcel_of (b.deed m) ≡ Some c → stage_of w c ≡ Left
    handed-has-left c e = by-place (b.deed m) refl e
      where
        same-some : (a d : ℕ) → Some a ≡ Some d → a ≡ d
        same-some a d h = cc

        none-is-some : None ≡ Some c → ⊥
        none-is-some h = cc

        in-stream : (place : DeedPlace) → b.deed m ≡ place → (to sender : ℕ)
            → is_stream_of (forker script) place to sender ≡ true
            → OnlyOne (IsBringer b.pids m (b.body m) place) (filter (brings m) (frames_to w to sender))
        in-stream place is to sender t =
            one-there (IsBringer b.pids m (b.body m) place) (filter (brings m) (frames_to w to sender))
            (is_stream_of (forker script) place to sender) t
            (subst (λ (d : DeedPlace). OneIf (is_stream_of (forker script) d to sender)
            (IsBringer b.pids m (b.body m) d) (filter (brings m) (frames_to w to sender))) is
            (known.streams to sender))

        by-left : (g : ℕ) → b.deed m ≡ InLeft g → stage_of w g ≡ Left
        by-left g is =
            let one = in-stream (InLeft g) is 1 g (both-true (nat_eq 1 1) (nat_eq g g) refl (eq-eqb g g refl))
            in let of : IsLeftOf m (b.body m) (b.pids g) one.one = one.holds
            in let has : HasDeed m (b.body m) (b.pids g) of.parcel = of.has
            in parcel-node g of.parcel
            (left_in g (subst (λ f. Contains (frames_to w 1 g) f) of.is
            (in-filtered (brings m) (frames_to w 1 g) one.one one.only))) has.of_process

        by-exit : (g to : ℕ) → b.deed m ≡ InExitTo g to → stage_of w g ≡ Left
        by-exit g to is =
            let one = in-stream (InExitTo g to) is to 1 (both-true (nat_eq to to) (nat_eq 1 1) (eq-eqb to to refl) refl)
            in let of : IsExitOf m (b.body m) (b.pids g) one.one = one.holds
            in let has : HasDeed m (b.body m) (b.pids g) of.parcel = of.has
            in parcel-node g of.parcel
            (sent_in to (subst (λ f. Contains (frames_to w to 1) f) of.is
            (in-filtered (brings m) (frames_to w to 1) one.one one.only))) has.of_process

        by-kept : (g : ℕ) → b.deed m ≡ InKept g → stage_of w g ≡ Left
        by-kept g is =
            let pid : ℕ = b.pids (forker script g)
            in let one : OnlyOne (IsItemWith m (b.body m) (b.pids g)) (x.kept pid) =
            one-there (IsItemWith m (b.body m) (b.pids g)) (x.kept pid) (nat_eq pid pid) (eq-eqb pid pid refl)
            (subst (λ (d : DeedPlace). OneIf (is_kept_for (forker script) b.pids d pid)
            (IsItemWith m (b.body m) (b.pids (node_in d))) (x.kept pid)) is (known.kept pid))
            in let of : IsItemWith m (b.body m) (b.pids g) one.one = one.holds
            in let has : HasDeed m (b.body m) (b.pids g) of.parcel = of.has
            in parcel-node g of.parcel
            (kept_in pid (subst (λ i. Contains (held_for (directory_of w) (Proc pid)) i) of.is
            (in-filtered (is_parcel_with m) (held_for (directory_of w) (Proc pid)) one.one one.only))) has.of_process

        by-hand : (g : ℕ) → b.deed m ≡ InHand g → ⊥
        by-hand g is =
            let one : OnlyOne (IsItemWith m (b.body m) (b.pids g)) [] =
            subst (λ (d : DeedPlace). OneIf (is_hand_place d)
            (IsItemWith m (b.body m) (b.pids (node_in d))) []) is known.in_hand
            in not-one one.one one.only
          where
            not-one : (i : Held) → [] ≡ i ∷ [] → ⊥
            not-one i h = cc

        by-place : (place : DeedPlace) → b.deed m ≡ place → parcel_of place ≡ Some c → stage_of w c ≡ Left
        by-place (InLeft g) is e = subst (λ q. stage_of w q ≡ Left) (same-some g c e) (by-left g is)
        by-place (InExitTo g to) is e = subst (λ q. stage_of w q ≡ Left) (same-some g c e) (by-exit g to is)
        by-place (InKept g) is e = subst (λ q. stage_of w q ≡ Left) (same-some g c e) (by-kept g is)
        by-place (InHand g) is e = absurd (by-hand g is)
        by-place Unmade is e = absurd (none-is-some e)
        by-place (InTable node) is e = absurd (none-is-some e)
        by-place (InCheckpoint to) is e = absurd (none-is-some e)
        by-place (InGrant to) is e = absurd (none-is-some e)
        by-place (InGiveBack sender) is e = absurd (none-is-some e)
