-- An ended process's deed is together with that of the living process that keeps it.
use Rattle.std.proofs.Common.{◌≡◌, ◌≢◌, ℕ, Bool, true, false, ◌&&◌, nat_eq, List, [], ◌∷◌, filter, Some, is_some, Contains, refl, ap, sym, subst, ◌∙◌, inl, inr, Option, None, option_and_then}
use Rattle.std.proofs.lemmas.Bool.{eq-eqb}
use Rattle.pico_base.specs.declared.numbers.Name.{Name}
use Rattle.pico_base.specs.declared.numbers.Name.TheVariants.{Proc}
use Rattle.pico_base.specs.declared.reply.Ending.{Ending}
use Rattle.pico_base.specs.declared.script.Script.{Script}
use Rattle.rpc_frame.specs.declared.deed.Parcel.{Parcel}
use Rattle.rpc_frame.specs.declared.frame.Frame.{Frame}
use Rattle.rpc_frame.specs.declared.frame.Frame.TheVariants as frames
use Rattle.kernel_laws.proofs.Members.{contains-cases, contains-filter, contains-none}
use Rattle.entry_laws.proofs.Names.{same-name}
use Rattle.node_model.specs.Kinds.{is_same_name}
use Rattle.node_model.specs.Spelling.{pack}
use Rattle.rpc_frame.specs.declared.deed.PackedDeed.{PackedDeed}
use Rattle.kernel_model.specs.Row.{Alive, Row, ended_child}
use Rattle.waiting_model.specs.Kernel.{alive_in}
use Rattle.waiting_model.specs.Kernel as waiting
use Rattle.waiting_model.specs.Marks as waiting_marks
use Rattle.waiting_laws.specs.InLine.{AlikeAt, IsAlike}
use Rattle.entry_laws.proofs.History.{history-reachable}
use Rattle.world_laws.specs.Wholes.{HasWhole}
use Rattle.world_laws.specs.Ways.{IsParcelIn, kept as kept_in, left as left_in, sent as sent_in}
use Rattle.projection_laws.proofs.Parcels.{own-deed}
use Rattle.kernel_laws.proofs.People.{from-living}
use Rattle.kernel_laws.proofs.Plain.{from_some}
use Rattle.kernel_laws.proofs.ValidLaws.{reachable_kernels_are_valid_lemma}
use Rattle.kernel_model.specs.Kernel.{Process, living_at}
use Rattle.kernel_model.specs.Kernel as kernel
use Rattle.kernel_model.specs.Valid.{HasKeeper, IsValid}
use Rattle.number_maps.specs.Maps.{get}
use Rattle.node_model.specs.declared.held.Held.{Held}
use Rattle.node_model.specs.declared.held.Held.TheVariants.{Ending as EndingOf}
use Rattle.node_model.specs.Bodies.{Body}
use Rattle.node_model.specs.Directory.{has_deed_of, held_for, is_parcel_with}
use Rattle.world_model.specs.Census.{brings}
use Rattle.world_model.specs.World.{World}
use Rattle.world_laws.specs.Families.{FamilyHolds, IsWhereFor, IsWithParent, RestsBelow, checkpoints_to}
use Rattle.world_laws.specs.Invariant.{Holds, process_deed}
use Rattle.world_laws.specs.Names.{HasDeed, IsBringer, IsExitOf, IsItemWith, IsLeftOf, NameHolds, NameSight, OneIf, OnlyOne, forker, held_as, held_at, is_kept_for, is_stream_of, name_sight, node_in, is_hand_place}
use Rattle.world_laws.specs.Places.{Beside, DeedPlace, InTable, InLeft, InKept, InHand, InExitTo}
use Rattle.world_laws.specs.Sights.{directory_of, frames_to, is_born_in, node_of, stage_of}
use Rattle.world_laws.proofs.NameFacts.{held-here}
use Rattle.rule_laws.proofs.ends.KeptItems.{kept-is-there}
use Rattle.rest_laws.proofs.Shaped.{holder-in-range}
use Rattle.projection_laws.specs.Projection.{AreTogether, IsWithItsParent, held, in_parcel, in_table, left, sent}
use Rattle.projection_laws.proofs.Views.{any-there, held-there, node-here, way-there}

left-is : (p q : Parcel) → frames.Left p ≡ frames.Left q → p ≡ q
left-is p q e = cc

exit-is : (p q : Parcel) → frames.ExitTo p ≡ frames.ExitTo q → p ≡ q
exit-is p q e = cc

ending-is : (p q : Parcel) → EndingOf p ≡ EndingOf q → p ≡ q
ending-is p q e = cc

not-one : {A : Type 0} (x : A) → [] ≡ x ∷ [] → ⊥
not-one x e = cc

both-same : (a c : ℕ) → (nat_eq a a && nat_eq c c) ≡ true
both-same a c = rw (eq-eqb a a refl, eq-eqb c c refl) refl

-- two that a list of one has are the same
one-alone : {A : Type 0} (t : Bool) (P : A → Type 0) (xs : List A) → OneIf t P xs → (x y : A) → Contains xs x
    → Contains xs y → x ≡ y
one-alone false P xs one x y here there = absurd (contains-none x (subst (λ zs. Contains zs x) one here))
one-alone true P xs one x y here there = sym (is-one x here) ∙ is-one y there
  where
    is-one : (z : _) → Contains xs z → one.one ≡ z
    is-one z h =
        elim (contains-cases one.one [] z (subst (λ zs. Contains zs z) one.only h)) [
          | inl same ↦ same
          | inr later ↦ absurd (contains-none z later)
        ]

-- ---- two kernels that are alike

ended-alike : (o : Option waiting.Process) (p : Option kernel.Process) (ending : Ending) → AlikeAt o p
    → o ≡ Some (waiting.Ended ending) → p ≡ Some (kernel.Ended ending)
ended-alike (Some (waiting.Ended a)) (Some (kernel.Ended c)) ending alike e =
    let same : a ≡ ending = cc in ap (λ (z : Ending). Some (kernel.Ended z)) (sym alike ∙ same)
ended-alike (Some (waiting.Living a)) p ending alike e = absurd (cc)
ended-alike (Some waiting.Gone) p ending alike e = absurd (cc)
ended-alike None p ending alike e = absurd (cc)
ended-alike o p ending alike e = absurd alike

record LivesWhole (o : Option waiting.Process) (x : Alive) : Type 0 where
  alive : waiting_marks.Alive
  is : o ≡ Some (waiting.Living alive)
  row : alive.row ≡ x.row

living-alike : (o : Option waiting.Process) (p : Option kernel.Process) (x : Alive) → AlikeAt o p
    → p ≡ Some (kernel.Living x) → LivesWhole o x
living-alike (Some (waiting.Living a)) (Some (kernel.Living y)) x alike e =
    let same : y ≡ x = cc in record { alive = a; is = refl; row = alike.0 ∙ ap (λ (z : Alive). z.row) same }
living-alike o (Some (kernel.Ended ending)) x alike e = absurd (cc)
living-alike o (Some kernel.Gone) x alike e = absurd (cc)
living-alike o None x alike e = absurd (cc)
living-alike o p x alike e = absurd alike

module _ (script : Script) (w : World) (b : Beside) (holds : Holds script w [] b) where
  abbrev sight : Name → NameSight
  sight name = name_sight script w [] b name

  known : (name : Name) → NameHolds script b.pids (is_born_in w) name (sight name)
  known name = holds.names name

  abbrev body_of : Name → Body
  body_of name = b.body name

  has-it : (name : Name) (pid : ℕ) (parcel : Parcel) → HasDeed name (body_of name) pid parcel
      → has_deed_of name parcel ≡ true
  has-it name pid parcel has =
      any-there (λ (d : PackedDeed). is_same_name name d.name) parcel.deeds (pack name (body_of name)) has.there
      (same-name name)

  -- ---- in streams

  -- the frame that brings a name whose deed is in a stream
  record Brings (name : Name) (place : DeedPlace) (to sender : ℕ) : Type 0 where
    frame : Frame
    there : Contains (frames_to w to sender) frame
    is : IsBringer b.pids name (body_of name) place frame

  bringer : (name : Name) (place : DeedPlace) → b.deed name ≡ place → (to sender : ℕ)
      → is_stream_of (forker script) place to sender ≡ true → Brings name place to sender
  bringer name place at to sender is =
      let one : OnlyOne (IsBringer b.pids name (body_of name) place) (filter (brings name) (frames_to w to sender)) =
      subst (λ t. OneIf t (IsBringer b.pids name (body_of name) place) (filter (brings name) (frames_to w to sender)))
      is
      (subst (λ p. OneIf (is_stream_of (forker script) p to sender) (IsBringer b.pids name (body_of name) p)
      (filter (brings name) (frames_to w to sender))) at (let n = known name in n.streams to sender))
      in record {
        frame = one.one;
        there = kept-is-there (brings name) (frames_to w to sender) one.one one.only;
        is = one.holds;
      }

  -- two frames of a stream that bring the same name are the same
  same-frame : (name : Name) (to sender : ℕ) (f g : Frame) → Contains (frames_to w to sender) f
      → Contains (frames_to w to sender) g → brings name f ≡ true → brings name g ≡ true → f ≡ g
  same-frame name to sender f g here there has also =
      one-alone (is_stream_of (forker script) (b.deed name) to sender)
      (IsBringer b.pids name (body_of name) (b.deed name)) (filter (brings name) (frames_to w to sender))
      (let n = known name in n.streams to sender) f g
      (contains-filter (brings name) (frames_to w to sender) f here has)
      (contains-filter (brings name) (frames_to w to sender) g there also)

  own : (parcel : Parcel) (pid : ℕ) → IsParcelIn w [] parcel → parcel.pid ≡ pid → has_deed_of (Proc pid) parcel ≡ true
  own parcel pid there is =
      ap (λ q. has_deed_of (Proc q) parcel) (sym is) ∙ own-deed script w b holds parcel there

  left-together : (g : ℕ) (a c : Name) → b.deed a ≡ InLeft g → b.deed c ≡ InLeft g → AreTogether w a c
  left-together g a c at also =
      let one : Brings a (InLeft g) 1 g = bringer a (InLeft g) at 1 g (both-same 1 g)
      in let other : Brings c (InLeft g) 1 g = bringer c (InLeft g) also 1 g (both-same 1 g)
      in let f : IsLeftOf a (body_of a) (b.pids g) one.frame = one.is
      in let h : IsLeftOf c (body_of c) (b.pids g) other.frame = other.is
      in let has : HasDeed a (body_of a) (b.pids g) f.parcel = f.has
      in let has_too : HasDeed c (body_of c) (b.pids g) h.parcel = h.has
      in let here : Contains (frames_to w 1 g) (frames.Left f.parcel) =
      subst (λ x. Contains (frames_to w 1 g) x) f.is one.there
      in let there : Contains (frames_to w 1 g) (frames.Left h.parcel) =
      subst (λ x. Contains (frames_to w 1 g) x) h.is other.there
      in let same : f.parcel ≡ h.parcel =
      left-is f.parcel h.parcel
      (same-frame (Proc (b.pids g)) 1 g (frames.Left f.parcel) (frames.Left h.parcel) here there
      (own f.parcel (b.pids g) (left_in g here) has.of_process)
      (own h.parcel (b.pids g) (left_in g there) has_too.of_process))
      in in_parcel f.parcel (left 1 g (way-there script w b holds 1 g (frames.Left f.parcel) here))
      (has-it a (b.pids g) f.parcel has)
      (ap (has_deed_of c) same ∙ has-it c (b.pids g) h.parcel has_too)

  exit-together : (g x : ℕ) (a c : Name) → b.deed a ≡ InExitTo g x → b.deed c ≡ InExitTo g x → AreTogether w a c
  exit-together g x a c at also =
      let one : Brings a (InExitTo g x) x 1 = bringer a (InExitTo g x) at x 1 (both-same x 1)
      in let other : Brings c (InExitTo g x) x 1 = bringer c (InExitTo g x) also x 1 (both-same x 1)
      in let f : IsExitOf a (body_of a) (b.pids g) one.frame = one.is
      in let h : IsExitOf c (body_of c) (b.pids g) other.frame = other.is
      in let has : HasDeed a (body_of a) (b.pids g) f.parcel = f.has
      in let has_too : HasDeed c (body_of c) (b.pids g) h.parcel = h.has
      in let here : Contains (frames_to w x 1) (frames.ExitTo f.parcel) =
      subst (λ y. Contains (frames_to w x 1) y) f.is one.there
      in let there : Contains (frames_to w x 1) (frames.ExitTo h.parcel) =
      subst (λ y. Contains (frames_to w x 1) y) h.is other.there
      in let same : f.parcel ≡ h.parcel =
      exit-is f.parcel h.parcel
      (same-frame (Proc (b.pids g)) x 1 (frames.ExitTo f.parcel) (frames.ExitTo h.parcel) here there
      (own f.parcel (b.pids g) (sent_in x here) has.of_process)
      (own h.parcel (b.pids g) (sent_in x there) has_too.of_process))
      in in_parcel f.parcel (sent x 1 (way-there script w b holds x 1 (frames.ExitTo f.parcel) here))
      (has-it a (b.pids g) f.parcel has)
      (ap (has_deed_of c) same ∙ has-it c (b.pids g) h.parcel has_too)

  -- ---- in held lists

  abbrev list_for : ℕ → List Held
  list_for pid = held_for (directory_of w) (Proc pid)

  record Keeps (name : Name) (g : ℕ) : Type 0 where
    parcel : Parcel
    there : Contains (list_for (b.pids (forker script g))) (EndingOf parcel)
    has : HasDeed name (body_of name) (b.pids g) parcel

  keeper : (name : Name) (g : ℕ) → b.deed name ≡ InKept g → Keeps name g
  keeper name g at =
      let pid : ℕ = b.pids (forker script g)
      in let one : OnlyOne (IsItemWith name (body_of name) (b.pids g)) (filter (is_parcel_with name) (list_for pid)) =
      subst (λ t. OneIf t (IsItemWith name (body_of name) (b.pids g)) (filter (is_parcel_with name) (list_for pid)))
      (eq-eqb pid pid refl)
      (subst (λ p. OneIf (is_kept_for (forker script) b.pids p pid)
      (IsItemWith name (body_of name) (b.pids (node_in p))) (filter (is_parcel_with name) (list_for pid))) at
      (let n = known name in n.kept pid))
      in let item : IsItemWith name (body_of name) (b.pids g) one.one = one.holds
      in record {
        parcel = item.parcel;
        there = subst (λ i. Contains (list_for pid) i) item.is
            (kept-is-there (is_parcel_with name) (list_for pid) one.one one.only);
        has = item.has;
      }

  same-item : (name : Name) (pid : ℕ) (p q : Parcel) → Contains (list_for pid) (EndingOf p)
      → Contains (list_for pid) (EndingOf q) → has_deed_of name p ≡ true → has_deed_of name q ≡ true → p ≡ q
  same-item name pid p q here there has also =
      ending-is p q
      (one-alone (is_kept_for (forker script) b.pids (b.deed name) pid)
      (IsItemWith name (body_of name) (b.pids (node_in (b.deed name)))) (filter (is_parcel_with name) (list_for pid))
      (let n = known name in n.kept pid) (EndingOf p) (EndingOf q)
      (contains-filter (is_parcel_with name) (list_for pid) (EndingOf p) here has)
      (contains-filter (is_parcel_with name) (list_for pid) (EndingOf q) there also))

  kept-together : (g : ℕ) (a c : Name) → b.deed a ≡ InKept g → b.deed c ≡ InKept g → AreTogether w a c
  kept-together g a c at also =
      let one : Keeps a g = keeper a g at
      in let other : Keeps c g = keeper c g also
      in let pid : ℕ = b.pids (forker script g)
      in let has = one.has
      in let has_too = other.has
      in let same : one.parcel ≡ other.parcel =
      same-item (Proc (b.pids g)) pid one.parcel other.parcel one.there other.there
      (own one.parcel (b.pids g) (kept_in pid one.there) has.of_process)
      (own other.parcel (b.pids g) (kept_in pid other.there) has_too.of_process)
      in in_parcel one.parcel (held (Proc pid) (held-there script w b holds (Proc pid) (EndingOf one.parcel) one.there))
      (has-it a (b.pids g) one.parcel has)
      (ap (has_deed_of c) same ∙ has-it c (b.pids g) other.parcel has_too)

  -- ---- in tables

  table-together : (x : ℕ) (a c : Name) → b.deed a ≡ InTable x → b.deed c ≡ InTable x → AreTogether w a c
  table-together x a c at also =
      let range = holder-in-range script w holds.shape x a (body_of a) (here a at)
      in in_table x (node_of w x) (node-here script w b holds x range.0 range.1) (ap is_some (here a at))
      (ap is_some (here c also))
    where
      here : (name : Name) → b.deed name ≡ InTable x → held_at w name x ≡ Some (body_of name)
      here name e =
          let n = known name
          in n.tables x ∙ ap (λ p. held_as p (body_of name) x) e ∙ held-here x (body_of name)

  -- ---- wherever it rests

  pub not-in-hand : (name : Name) (g : ℕ) → b.deed name ≡ InHand g → ⊥
  not-in-hand name g at =
      let one : OnlyOne (IsItemWith name (body_of name) (b.pids g)) [] =
      subst (λ p. OneIf (is_hand_place p) (IsItemWith name (body_of name) (b.pids (node_in p))) []) at
      (let n = known name in n.in_hand)
      in not-one one.one one.only

  pub resting-together : (c : ℕ) (a d : Name) (place : DeedPlace) → RestsBelow c place → b.deed a ≡ place
      → b.deed d ≡ place → AreTogether w a d
  resting-together c a d (InTable x) rests at also = table-together x a d at also
  resting-together c a d (InLeft g) rests at also = left-together g a d at also
  resting-together c a d (InKept g) rests at also = kept-together g a d at also
  resting-together c a d (InExitTo g x) rests at also = exit-together g x a d at also
  resting-together c a d (InHand g) rests at also = absurd (not-in-hand a g at)
  resting-together c a d place rests at also = absurd rests

  -- ---- families

  -- where an ended process is, its parent is
  record RestsWithParent (c : ℕ) : Type 0 where
    rests : RestsBelow c (b.deed (Proc (b.pids c)))
    with_parent : b.deed (Proc (b.pids c)) ≡ b.deed (Proc (b.pids (forker script c)))

  ended-rests : (c : ℕ) (ending : Ending) → b.pids c ≢ 0
      → get b.kernel.processes (b.pids c) ≡ Some (kernel.Ended ending) → RestsWithParent c
  ended-rests c ending forked is =
      let family : FamilyHolds script b.pids b.places b.kernel (process_deed b.deed) (checkpoints_to script w c)
      (stage_of w c) c = holds.families c forked
      in let same : family.process ≡ kernel.Ended ending =
      from_some family.process (kernel.Ended ending) (sym family.is ∙ is)
      in record {
        rests = subst (λ p. IsWhereFor c (b.deed (Proc (b.pids c))) p) same family.where_it_is;
        with_parent = subst (λ p. IsWithParent (process_deed b.deed) (b.pids (forker script c)) (b.pids c) p) same
            family.with_parent;
      }

  -- An ended process is with the living one that keeps it.
  pub ended-is-kept : (pid : ℕ) (ending : Ending) → get b.whole.processes pid ≡ Some (waiting.Ended ending)
      → IsWithItsParent w b.whole pid ending
  ended-is-kept pid ending ended =
      let whole : HasWhole w b = holds.whole
      in let alike : IsAlike b.whole b.kernel = whole.alike
      in let is : get b.kernel.processes pid ≡ Some (kernel.Ended ending) =
      ended-alike (get b.whole.processes pid) (get b.kernel.processes pid) ending (alike.processes pid) ended
      in let valid : IsValid b.kernel =
      reachable_kernels_are_valid_lemma b.kernel (history-reachable script b.lines b.kernel b.places holds.history)
      in let k : HasKeeper b.kernel pid ending = valid.kept pid ending is
      in let pids = holds.pids
      in let node = pids.there pid (kernel.Ended ending) is
      in let c : ℕ = node.0
      in let forked : b.pids c ≢ 0 = λ z. node.2 (sym node.1 ∙ z)
      in let of = pids.there k.keeper (kernel.Living k.alive) (from-living b.kernel.processes k.keeper k.alive k.lives)
      in let p : ℕ = of.0
      in let parent_forked : b.pids p ≢ 0 = λ z. of.2 (sym of.1 ∙ z)
      in let family : FamilyHolds script b.pids b.places b.kernel (process_deed b.deed) (checkpoints_to script w p)
      (stage_of w p) p = holds.families p parent_forked
      in let child = family.children k.alive pid (ap (living_at b.kernel) of.1 ∙ k.lives) (inr (ending, k.kept))
      in let same : c ≡ child.0 = pids.apart c child.0 forked (node.1 ∙ sym child.2)
      in let parent_is : b.pids (forker script c) ≡ k.keeper =
      ap (λ x. b.pids (forker script x)) same ∙ ap b.pids child.1 ∙ of.1
      in let r : RestsWithParent c = ended-rests c ending forked (ap (get b.kernel.processes) node.1 ∙ is)
      in let lives : LivesWhole (get b.whole.processes k.keeper) k.alive =
      living-alike (get b.whole.processes k.keeper) (get b.kernel.processes k.keeper) k.alive
      (alike.processes k.keeper) (from-living b.kernel.processes k.keeper k.alive k.lives)
      in record {
        parent = k.keeper;
        alive = lives.alive;
        lives = ap (option_and_then alive_in) lives.is;
        kept = subst (λ (row : Row). Contains row.family.ended (ended_child pid ending)) (sym lives.row) k.kept;
        together = resting-together c (Proc pid) (Proc k.keeper) (b.deed (Proc (b.pids c))) r.rests
            (ap (λ q. b.deed (Proc q)) (sym node.1))
            (ap (λ q. b.deed (Proc q)) (sym parent_is) ∙ sym r.with_parent);
      }
