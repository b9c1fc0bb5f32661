-- Each deed, wherever it is, is the kernel's part of its name.
use Rattle.std.proofs.Common.{◌≡◌, ℕ, Bool, true, false, [], ◌∷◌, filter, Option, Some, None, Contains, refl, ap, sym, subst, ◌∙◌, inl, inr}
use Rattle.std.proofs.lemmas.Bool.{false≢true}
use Rattle.pico_base.specs.declared.numbers.Name.{Name}
use Rattle.pico_base.specs.declared.numbers.Name.TheVariants.{Proc}
use Rattle.pico_base.specs.declared.script.Script.{Script}
use Rattle.rpc_frame.specs.declared.deed.PackedDeed.{PackedDeed}
use Rattle.rpc_frame.specs.declared.deed.Parcel.{Parcel}
use Rattle.rpc_frame.specs.declared.frame.Frame.{Frame}
use Rattle.rpc_frame.specs.declared.frame.Frame.TheVariants as frames
use Rattle.kernel_laws.proofs.Members.{contains-cases, contains-filter, contains-none}
use Rattle.kernel_laws.proofs.Plain.{from_some, not_some}
use Rattle.entry_laws.specs.Entering.{is_used_name}
use Rattle.entry_laws.proofs.Names.{same-name}
use Rattle.node_model.specs.declared.held.Held.{Held}
use Rattle.node_model.specs.declared.held.Held.TheVariants.{Request, Ending}
use Rattle.node_model.specs.Bodies.{Body}
use Rattle.node_model.specs.Directory.{has_deed_of, held_for, is_parcel_with, items_of}
use Rattle.node_model.specs.Kinds.{get_named, is_same_name, number_of}
use Rattle.node_model.specs.Spelling.{pack, read_deed}
use Rattle.world_model.specs.Census.{brings}
use Rattle.world_model.specs.Node.{Node}
use Rattle.world_model.specs.World.{World}
use Rattle.world_laws.specs.Deeds.{DeedsAreRead}
use Rattle.world_laws.specs.Invariant.{Holds}
use Rattle.world_laws.specs.Names.{HasDeed, IsBringer, IsCheckpointOf, IsExitOf, IsItemFor, IsItemWith, IsLeftOf, NameHolds, NameSight, OneIf, forker, is_kept_for, is_stream_of, name_sight, node_in}
use Rattle.world_laws.specs.Places.{Beside, DeedPlace, Unmade, InTable, InCheckpoint, InGrant, InGiveBack, InLeft, InKept, InHand, InExitTo}
use Rattle.world_laws.specs.Sights.{directory_of, frames_to, is_born_in, stage_of}
use Rattle.world_laws.specs.Ways.{HasSender, IsParcelIn, IsParcelOf, kept as kept_in, left as left_in, sent as sent_in, under_way_of}
use Rattle.world_laws.specs.Wholes.{HasWhole}
use Rattle.world_laws.proofs.NameFacts.{IsHeldAt, held-there as held-as-there}
use Rattle.rest_laws.proofs.Senders.{carrier}
use Rattle.projection_laws.specs.Projection.{DeedsAreParts, HasNode, IsBodyOf, IsPart, deeds_held, deeds_in}
use Rattle.projection_laws.proofs.Brought.{Brought, brought-is, one-entry, unpacked}
use Rattle.projection_laws.proofs.Views.{any-there, each-in, held-is, node-is, on-way}

-- ---- a frame that brings a deed

-- the deed that a frame brings alone
abbrev alone : Frame → Option PackedDeed
alone (frames.Checkpoint pid parent deed vars) = Some deed
alone (frames.GiveBack deed) = Some deed
alone (frames.Grant deed) = Some deed
alone frame = None

-- and the parcel that it brings
abbrev pub parcel_in : Frame → Option Parcel
parcel_in (frames.Left parcel) = Some parcel
parcel_in (frames.ExitTo parcel) = Some parcel
parcel_in frame = None

module _ (pids forks_it : ℕ → ℕ) (name : Name) (body : Body) (to sender : ℕ) (frame : Frame) where
  packed-alone : (deed : PackedDeed) → alone frame ≡ Some deed → (place : DeedPlace)
      → is_stream_of forks_it place to sender ≡ true → IsBringer pids name body place frame → deed ≡ pack name body
  packed-alone deed e (InCheckpoint c) h is =
      let it : IsCheckpointOf name body frame = is
      in from_some deed (pack name body) (sym e ∙ ap alone it.is)
  packed-alone deed e (InGrant x) h is = from_some deed (pack name body) (sym e ∙ ap alone is)
  packed-alone deed e (InGiveBack x) h is = from_some deed (pack name body) (sym e ∙ ap alone is)
  packed-alone deed e (InLeft c) h is =
      let it : IsLeftOf name body (pids c) frame = is in not_some deed (sym (ap alone it.is) ∙ e)
  packed-alone deed e (InExitTo c x) h is =
      let it : IsExitOf name body (pids c) frame = is in not_some deed (sym (ap alone it.is) ∙ e)
  packed-alone deed e Unmade h is = absurd (false≢true h)
  packed-alone deed e (InTable node) h is = absurd (false≢true h)
  packed-alone deed e (InKept c) h is = absurd (false≢true h)
  packed-alone deed e (InHand c) h is = absurd (false≢true h)

  -- a parcel has it, and is of the node's process whose parcel the deed is in
  pub record IsCarried (place : DeedPlace) (parcel : Parcel) : Type 0 where
    pub carried : carrier place ≡ Some (node_in place)
    pub has : HasDeed name body (pids (node_in place)) parcel

  in-its-parcel : (parcel : Parcel) → parcel_in frame ≡ Some parcel → (place : DeedPlace)
      → is_stream_of forks_it place to sender ≡ true → IsBringer pids name body place frame
      → IsCarried place parcel
  in-its-parcel parcel e (InLeft c) h is =
      let it : IsLeftOf name body (pids c) frame = is
      in record {
        carried = refl;
        has = subst (HasDeed name body (pids c)) (from_some it.parcel parcel (sym (ap parcel_in it.is) ∙ e)) it.has;
      }
  in-its-parcel parcel e (InExitTo c x) h is =
      let it : IsExitOf name body (pids c) frame = is
      in record {
        carried = refl;
        has = subst (HasDeed name body (pids c)) (from_some it.parcel parcel (sym (ap parcel_in it.is) ∙ e)) it.has;
      }
  in-its-parcel parcel e (InCheckpoint c) h is =
      let it : IsCheckpointOf name body frame = is in not_some parcel (sym (ap parcel_in it.is) ∙ e)
  in-its-parcel parcel e (InGrant x) h is = not_some parcel (sym (ap parcel_in is) ∙ e)
  in-its-parcel parcel e (InGiveBack x) h is = not_some parcel (sym (ap parcel_in is) ∙ e)
  in-its-parcel parcel e Unmade h is = absurd (false≢true h)
  in-its-parcel parcel e (InTable node) h is = absurd (false≢true h)
  in-its-parcel parcel e (InKept c) h is = absurd (false≢true h)
  in-its-parcel parcel e (InHand c) h is = absurd (false≢true h)

kept-is-carried : (forks_it pids : ℕ → ℕ) (place : DeedPlace) (pid : ℕ)
    → is_kept_for forks_it pids place pid ≡ true → carrier place ≡ Some (node_in place)
kept-is-carried forks_it pids (InKept c) pid e = refl
kept-is-carried forks_it pids place pid e = absurd (false≢true e)

-- ---- a world

module _ (script : Script) (w : World) (b : Beside) (holds : Holds script w [] b) where
  abbrev sight : Name → NameSight
  sight name = name_sight script w [] b name

  known : (name : Name) → NameHolds script b.pids (is_born_in w) name (sight name)
  known name = holds.names name

  abbrev body_of : Name → Body
  body_of name = b.body name

  -- a name whose deed is somewhere is used
  used-by-place : (name : Name) (test : DeedPlace → Bool) → test Unmade ≡ false → test (b.deed name) ≡ true
      → is_used_name b.kernel name ≡ true
  used-by-place name test none some = by-test (is_used_name b.kernel name) refl
    where
      by-test : (t : Bool) → is_used_name b.kernel name ≡ t → is_used_name b.kernel name ≡ true
      by-test true e = e
      by-test false e =
          let n = known name
          in absurd (false≢true (sym none ∙ ap test (sym (n.made.1 e)) ∙ some))

  -- ---- parcels

  -- a parcel has one deed of a name
  one-deed : (parcel : Parcel) → HasSender script b.pids (stage_of w) (under_way_of w) parcel → (deed : PackedDeed)
      (body : Body) → Contains parcel.deeds deed → Contains parcel.deeds (pack deed.name body)
      → deed ≡ pack deed.name body
  one-deed parcel s deed body here there =
      let its : IsParcelOf script b.pids s.node s.call parcel = s.is_of
      in let one = unpacked its.bodies deed (subst (λ ds. Contains ds deed) its.packed here)
      in let other =
      unpacked its.bodies (pack deed.name body) (subst (λ ds. Contains ds (pack deed.name body)) its.packed there)
      in let e : ℕ × Body = one.0
      in let f : ℕ × Body = other.0
      in let number : e.0 ≡ f.0 =
      ap (λ (d : PackedDeed). number_of d.name) one.2 ∙ sym (ap (λ (d : PackedDeed). number_of d.name) other.2)
      in let same : e.1 ≡ f.1 = one-entry its.bodies e f its.ordered one.1 other.1 number
      in sym one.2 ∙ ap (λ q. pack (Proc q) e.1) number ∙ ap (pack (Proc f.0)) same ∙ other.2

  -- the deed of a name that a parcel in a stream has is in that parcel
  pub record IsInParcel (name : Name) (parcel : Parcel) : Type 0 where
    pub used : is_used_name b.kernel name ≡ true
    pub carried : carrier (b.deed name) ≡ Some (node_in (b.deed name))
    pub has : HasDeed name (body_of name) (b.pids (node_in (b.deed name))) parcel

  pub in-stream : (to sender : ℕ) (frame : Frame) (parcel : Parcel) → Contains (frames_to w to sender) frame
      → parcel_in frame ≡ Some parcel → (name : Name) → brings name frame ≡ true → IsInParcel name parcel
  in-stream to sender frame parcel there is name has =
      let r : Brought script w b holds name to sender frame =
      brought-is script w b holds name to sender frame there has
      in let it : IsCarried b.pids (forker script) name (body_of name) to sender frame (b.deed name) parcel =
      in-its-parcel b.pids (forker script) name (body_of name) to sender frame parcel is (b.deed name) r.in_stream
      r.bringer
      in record { used = r.used; carried = it.carried; has = it.has }

  -- what is held for a process: the end of a child of it
  pub held-for-parent : (name : Name) (parcel : Parcel) → Contains (held_for (directory_of w) name) (Ending parcel)
      → name ≡ Proc parcel.parent
  held-for-parent name parcel there =
      let n = known name
      in each-in (IsItemFor name) (items_of (sight name).place) (Ending parcel) n.items there

  ending-is : (p q : Parcel) → Ending p ≡ Ending q → p ≡ q
  ending-is p q e = cc

  abbrev IsIn : Name → Held → Type 0
  IsIn name item = IsItemWith name (body_of name) (b.pids (node_in (b.deed name))) item

  pub in-held : (pid : ℕ) (parcel : Parcel) → Contains (held_for (directory_of w) (Proc pid)) (Ending parcel)
      → (name : Name) → has_deed_of name parcel ≡ true → IsInParcel name parcel
  in-held pid parcel there name has =
      by-test (is_kept_for (forker script) b.pids (b.deed name) pid) refl (let n = known name in n.kept pid)
    where
      kept : Contains (filter (is_parcel_with name) (held_for (directory_of w) (Proc pid))) (Ending parcel)
      kept = contains-filter (is_parcel_with name) (held_for (directory_of w) (Proc pid)) (Ending parcel) there has

      by-test : (t : Bool) → is_kept_for (forker script) b.pids (b.deed name) pid ≡ t
          → OneIf t (IsIn name) (filter (is_parcel_with name) (held_for (directory_of w) (Proc pid)))
          → IsInParcel name parcel
      by-test false e one = absurd (contains-none (Ending parcel) (subst (λ xs. Contains xs (Ending parcel)) one kept))
      by-test true e one =
          elim (contains-cases one.one [] (Ending parcel) (subst (λ xs. Contains xs (Ending parcel)) one.only kept)) [
            | inl same ↦
                let item : IsIn name (Ending parcel) = subst (IsIn name) same one.holds
                in record {
                  used = used-by-place name (λ d. is_kept_for (forker script) b.pids d pid) refl e;
                  carried = kept-is-carried (forker script) b.pids (b.deed name) pid e;
                  has = subst (HasDeed name (body_of name) (b.pids (node_in (b.deed name))))
                      (sym (ending-is parcel item.parcel item.is)) item.has;
                }
            | inr later ↦ absurd (contains-none (Ending parcel) later)
          ]

  -- ---- deeds

  -- a deed on its way spells its name's body, and is read back as that
  pub record SpellsBody (deed : PackedDeed) : Type 0 where
    pub used : is_used_name b.kernel deed.name ≡ true
    pub spelled : deed ≡ pack deed.name (body_of deed.name)
    pub read : read_deed deed ≡ Some (body_of deed.name)

  pub is-part : (name : Name) → IsBodyOf b.whole name (body_of name)
  is-part name = let whole : HasWhole w b = holds.whole in whole.bodies name

  part-of : (deed : PackedDeed) → SpellsBody deed → IsPart b.whole deed
  part-of deed s =
      record { body = body_of deed.name; is = is-part deed.name; spelled = s.spelled; read = s.read }

  -- what is in a node's table is its name's body
  pub table-is : (p : ℕ) (n : Node) (name : Name) (body : Body) → HasNode w p n → get_named n.deeds name ≡ Some body
      → (b.deed name ≡ InTable p) × (body ≡ body_of name)
  table-is p n name body is there =
      let k = known name
      in let it : IsHeldAt (b.deed name) (body_of name) p body =
      held-as-there (b.deed name) (body_of name) p body
      (sym (k.tables p) ∙ ap (λ (m : Node). get_named m.deeds name) (node-is script w b holds p n is) ∙ there)
      in (it.deed_is, it.body_is)

  module _ (reads : DeedsAreRead b.kernel b.body) where
    part-is : (deed : PackedDeed) → is_used_name b.kernel deed.name ≡ true → deed ≡ pack deed.name (body_of deed.name)
        → SpellsBody deed
    part-is deed used is = record { used = used; spelled = is; read = ap read_deed is ∙ reads deed.name used }

    alone-spells : (to sender : ℕ) (frame : Frame) (deed : PackedDeed) → Contains (frames_to w to sender) frame
        → alone frame ≡ Some deed → brings deed.name frame ≡ true → SpellsBody deed
    alone-spells to sender frame deed there is has =
        let r : Brought script w b holds deed.name to sender frame =
        brought-is script w b holds deed.name to sender frame there has
        in part-is deed r.used
        (packed-alone b.pids (forker script) deed.name (body_of deed.name) to sender frame deed is (b.deed deed.name)
        r.in_stream r.bringer)

    -- a deed alone is its only one
    only-one : (to sender : ℕ) (frame : Frame) (one deed : PackedDeed) → Contains (frames_to w to sender) frame
        → alone frame ≡ Some one → brings one.name frame ≡ true → Contains (one ∷ []) deed → SpellsBody deed
    only-one to sender frame one deed there is has among =
        elim (contains-cases one [] deed among) [
          | inl same ↦ subst SpellsBody same (alone-spells to sender frame one there is has)
          | inr later ↦ absurd (contains-none deed later)
        ]

    has-it : (parcel : Parcel) (deed : PackedDeed) → Contains parcel.deeds deed → has_deed_of deed.name parcel ≡ true
    has-it parcel deed among =
        any-there (λ (d : PackedDeed). is_same_name deed.name d.name) parcel.deeds deed among (same-name deed.name)

    in-parcel-spells : (parcel : Parcel) → IsParcelIn w [] parcel → (deed : PackedDeed) → Contains parcel.deeds deed
        → IsInParcel deed.name parcel → SpellsBody deed
    in-parcel-spells parcel there deed among is =
        let has = is.has
        in part-is deed is.used
        (one-deed parcel (holds.parcels parcel there) deed (body_of deed.name) among has.there)

    pub frame-spells : (to sender : ℕ) (frame : Frame) (deed : PackedDeed) → Contains (frames_to w to sender) frame
        → Contains (deeds_in frame) deed → SpellsBody deed
    frame-spells to sender (frames.Checkpoint pid parent one vars) deed there among =
        only-one to sender (frames.Checkpoint pid parent one vars) one deed there refl (same-name one.name) among
    frame-spells to sender (frames.GiveBack one) deed there among =
        only-one to sender (frames.GiveBack one) one deed there refl (same-name one.name) among
    frame-spells to sender (frames.Grant one) deed there among =
        only-one to sender (frames.Grant one) one deed there refl (same-name one.name) among
    frame-spells to sender (frames.Left parcel) deed there among =
        let first : to ≡ 1 = let fit = holds.frames_fit in fit.may_be to sender (frames.Left parcel) there
        in in-parcel-spells parcel
        (left_in sender (subst (λ q. Contains (frames_to w q sender) (frames.Left parcel)) first there)) deed among
        (in-stream to sender (frames.Left parcel) parcel there refl deed.name (has-it parcel deed among))
    frame-spells to sender (frames.ExitTo parcel) deed there among =
        let first : sender ≡ 1 = let fit = holds.frames_fit in fit.may_be to sender (frames.ExitTo parcel) there
        in in-parcel-spells parcel
        (sent_in to (subst (λ q. Contains (frames_to w to q) (frames.ExitTo parcel)) first there)) deed among
        (in-stream to sender (frames.ExitTo parcel) parcel there refl deed.name (has-it parcel deed among))
    frame-spells to sender frame deed there among = absurd (contains-none deed among)

    item-spells : (name : Name) (item : Held) (deed : PackedDeed) → Contains (held_for (directory_of w) name) item
        → Contains (deeds_held item) deed → SpellsBody deed
    item-spells name (Request asked) deed there among = absurd (contains-none deed among)
    item-spells name (Ending parcel) deed there among =
        let here : Contains (held_for (directory_of w) (Proc parcel.parent)) (Ending parcel) =
        subst (λ m. Contains (held_for (directory_of w) m) (Ending parcel)) (held-for-parent name parcel there) there
        in in-parcel-spells parcel (kept_in parcel.parent here) deed among
        (in-held parcel.parent parcel here deed.name (has-it parcel deed among))

    -- Each deed is the kernel's part of its name.
    pub deeds-are-parts : DeedsAreParts w b.whole
    deeds-are-parts =
        record {
          in_tables = λ p n name body is there.
              subst (IsBodyOf b.whole name) (sym (table-is p n name body is there).1) (is-part name);
          on_way = λ to sender frame deed is among.
              part-of deed (frame-spells to sender frame deed (on-way script w b holds to sender frame is) among);
          held = λ name item deed is among.
              part-of deed (item-spells name item deed (held-is script w b holds name item is) among);
        }
