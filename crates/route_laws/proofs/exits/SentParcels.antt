-- A parcel that has come to a node: its names are on their way there in it, and the parent's deed is in the node's
-- table.
use Rattle.std.proofs.Common.{◌≡◌, ◌≢◌, ℕ, suc, ◌<◌, ◌≤◌, Bool, true, false, ◌&&◌, ◌||◌, not, cond, if◌then◌else◌, List, [], ◌∷◌, ◌++◌, length, filter, nat_eq, Option, Some, None, is_none, is_some, option_and_then, Contains, refl, ap, sym, subst, ◌∙◌, arith}
use Rattle.std.specs.List.{list_any}
use Rattle.std.proofs.lemmas.Bool.{eq-eqb, eqb-true, ne_eqb, false≢true}
use Rattle.std.proofs.lemmas.List.Elements.{Contains-append_right}
use Rattle.pico_base.specs.declared.numbers.Name.{Name}
use Rattle.pico_base.specs.declared.numbers.Name.TheVariants.{Proc}
use Rattle.pico_base.specs.declared.script.Script.{Script}
use Rattle.rpc_frame.specs.declared.deed.Parcel.{Parcel}
use Rattle.rpc_frame.specs.declared.frame.Frame.{Frame}
use Rattle.rpc_frame.specs.declared.frame.Frame.TheVariants as frames
use Rattle.number_maps.specs.Maps.{get}
use Rattle.kernel_model.specs.Kernel.{Process, living_at, alive_in}
use Rattle.kernel_model.specs.Kernel as kernel
use Rattle.kernel_model.specs.Row.{Alive, lists}
use Rattle.entry_laws.specs.Entering.{IsChildIn}
use Rattle.node_model.specs.Kinds.{is_same_name}
use Rattle.node_model.specs.Directory.{has_deed_of}
use Rattle.node_model.specs.Bodies.{Body}
use Rattle.world_model.specs.Lives.{is_new_row}
use Rattle.world_model.specs.Census.{brings}
use Rattle.world_model.specs.World.{World}
use Rattle.world_laws.specs.Places.{DeedPlace, Unmade, InTable, InCheckpoint, InGrant, InGiveBack, InLeft, InKept, InHand, InExitTo, Beside}
use Rattle.world_laws.specs.Sights.{frames_to, stage_of, is_born_in}
use Rattle.world_laws.specs.Plays.{Hold, Has, Comes, IsNeeded, steps_if, play, plays, is_has, is_there, is_checkpoint_of, has_any}
use Rattle.world_laws.specs.Names.{NameSight, name_sight, NameHolds, HasDeed, OneIf, OnlyOne, IsBringer, IsExitOf, PlaysTo, may_be_at, is_stream_of, held_at, comes_to, forker, belief_of}
use Rattle.world_laws.specs.Ways.{IsParcelOf, sent as sent_in, under_way_of, HasSender}
use Rattle.world_laws.specs.Families.{FamilyHolds, IsWhereFor, IsNewAt, checkpoints_to}
use Rattle.world_laws.specs.Invariant.{process_deed, HoldsOwing}
use Rattle.world_laws.proofs.Heads.{head-is, head-there, head-from-another}
use Rattle.world_laws.proofs.Named.{same-name}
use Rattle.world_laws.proofs.NameFacts.{IsHeldAt, held-there, begin-has, has_left, play-needs}
use Rattle.world_laws.proofs.Steps.{Heads}
use Rattle.world_laws.specs.Cancels.{Owing}
use Rattle.rule_laws.proofs.ends.KeptItems.{kept-is-there, not-left-out, has-its-own}
use Rattle.rule_laws.proofs.ends.Taken.{fewer-none}
use Rattle.rule_laws.proofs.ends.Releases.{checkpoints-bring}
use Rattle.route_laws.proofs.exits.Parcels.{HasParcel, sent-on-way, has-number, own-lives, not-first}
use Rattle.route_laws.proofs.exits.ExitMoves.{is_exit}

some-same : {A : Type 0} {u v : A} → Some u ≡ Some v → u ≡ v
some-same e = cc

and-false : (t : Bool) → (t && false) ≡ false
and-false true = refl
and-false false = refl

both : (p q : Bool) → (p && q) ≡ true → (p ≡ true) × (q ≡ true)
both true q h = (refl, h)
both false q h = absurd (false≢true h)

or-first : (p q : Bool) → q ≡ false → (p || q) ≡ true → p ≡ true
or-first true q none h = refl
or-first false q none h = absurd (false≢true (sym none ∙ h))

some-true : {A : Type 0} (o : Option A) → is_some o ≡ true → (v : A) × (o ≡ Some v)
some-true None h = absurd (false≢true h)
some-true (Some v) h = (v, refl)

no-members : (n : ℕ) (xs : List ℕ) → nat_eq (length xs) 0 ≡ true → list_any (nat_eq n) xs ≡ false
no-members n [] h = refl
no-members n (x ∷ xs) h =
    let none : suc (length xs) ≡ 0 = eqb-true (suc (length xs)) 0 h
    in absurd (omega (arith, none))

-- a new process lists nobody
new-lists-none : (a : Alive) (child : ℕ) → is_new_row a.row ≡ true → lists a.row.family child ≡ false
new-lists-none a child new =
    let row = both (is_none a.row.signals.doom)
    (nat_eq (length a.row.family.living) 0 && nat_eq (length a.row.family.ended) 0) new
    in let family = both (nat_eq (length a.row.family.living) 0) (nat_eq (length a.row.family.ended) 0) row.1
    in no-members child a.row.family.living family.0

record IsFirst {A : Type 0} (t : Bool) (P : A → Type 0) (x : A) (xs : List A) : Type 0 where
  counts : t ≡ true
  alone : xs ≡ []
  is : P x

one-first : {A : Type 0} (t : Bool) (P : A → Type 0) (x : A) (xs : List A) → OneIf t P (x ∷ xs) → IsFirst t P x xs
one-first true P x xs o =
    record { counts = refl; alone = rest-same o.only; is = subst P (sym (first-same o.only)) o.holds }
  where
    first-same : x ∷ xs ≡ o.one ∷ [] → x ≡ o.one
    first-same g = cc

    rest-same : x ∷ xs ≡ o.one ∷ [] → xs ≡ []
    rest-same g = cc
one-first false P x xs o = absurd (not-empty o)
  where
    not-empty : x ∷ xs ≡ [] → ⊥
    not-empty e = cc

-- ---- an ExitTo that brings a name

-- it is where the deed is
record IsSentIn (pids : ℕ → ℕ) (name : Name) (body : Body) (deed : DeedPlace) (x : ℕ) (parcel : Parcel) : Type 0 where
  node : ℕ
  deed_is : deed ≡ InExitTo node x
  has : HasDeed name body (pids node) parcel

same-parcel : (p q : Parcel) → frames.ExitTo p ≡ frames.ExitTo q → p ≡ q
same-parcel p q e = cc

sent-here : (forks_it pids : ℕ → ℕ) (name : Name) (body : Body) (x : ℕ) (parcel : Parcel) (deed : DeedPlace)
    → is_stream_of forks_it deed x 1 ≡ true → IsBringer pids name body deed (frames.ExitTo parcel)
    → IsSentIn pids name body deed x parcel
sent-here forks_it pids name body x parcel (InExitTo g y) counts is =
    let to = both (nat_eq x y) true counts
    in record {
      node = g;
      deed_is = ap (InExitTo g) (sym (eqb-true x y to.0));
      has = subst (λ q. HasDeed name body (pids g) q) (sym (same-parcel parcel is.parcel is.is)) is.has;
    }
sent-here forks_it pids name body x parcel (InCheckpoint g) counts is = absurd (false≢true (ap is_exit (sym is.is)))
sent-here forks_it pids name body x parcel (InGrant g) counts is = absurd (false≢true (ap is_exit (sym is)))
sent-here forks_it pids name body x parcel (InGiveBack g) counts is = absurd (false≢true (ap is_exit (sym is)))
sent-here forks_it pids name body x parcel (InLeft g) counts is = absurd (false≢true (ap is_exit (sym is.is)))
sent-here forks_it pids name body x parcel Unmade counts is = absurd (false≢true counts)
sent-here forks_it pids name body x parcel (InTable g) counts is = absurd (false≢true counts)
sent-here forks_it pids name body x parcel (InKept g) counts is = absurd (false≢true counts)
sent-here forks_it pids name body x parcel (InHand g) counts is = absurd (false≢true counts)

module _ (script : Script) (w : World) {owes : Owing} (b : Beside) (holds : HoldsOwing script w [] owes b) (x : ℕ)
    (parcel : Parcel)
    (rest : List Frame) (h : Heads script w x 1 (frames.ExitTo parcel) rest) where
  abbrev frame : Frame
  frame = frames.ExitTo parcel

  -- it isn't the leader that takes it
  pub not-leader : x ≢ 1
  not-leader e = head-from-another script w x 1 frame rest h (is_born_in w) holds.frames_fit (sym e)

  -- so it is above
  pub above-leader : 2 ≤ x
  above-leader = let low = h.low in let other = not-leader in omega (arith, low, other)

  -- it is the first of its stream
  pub stream-is : frames_to w x 1 ≡ frame ∷ rest
  stream-is = head-is script w x 1 frame rest h

  -- the node whose parcel it is
  pub sent-sender : HasSender script b.pids (stage_of w) (under_way_of w) parcel
  sent-sender = holds.parcels parcel (sent_in x (head-there script w x 1 frame rest h))

  abbrev c : ℕ
  c = sent-sender.node

  its : IsParcelOf script b.pids c sent-sender.call parcel
  its = sent-sender.is_of

  -- a name of the parcel is on its way in it, and no other frame behind it brings the name
  record ComesFirst (name : Name) : Type 0 where
    sent : IsSentIn b.pids name (b.body name) (b.deed name) x parcel
    alone : filter (brings name) rest ≡ []

  brought-is : (name : Name)
      → filter (brings name) (frames_to w x 1)
      ≡ cond (has_deed_of name parcel) (frame ∷ filter (brings name) rest) (filter (brings name) rest)
  brought-is name = ap (filter (brings name)) stream-is

  comes-first : (name : Name) → has_deed_of name parcel ≡ true → ComesFirst name
  comes-first name e =
      let known : NameHolds script b.pids (is_born_in w) name (name_sight script w [] b name) = holds.names name
      in let first : IsFirst (is_stream_of (forker script) (b.deed name) x 1)
      (IsBringer b.pids name (b.body name) (b.deed name)) frame (filter (brings name) rest) =
      one-first (is_stream_of (forker script) (b.deed name) x 1)
      (IsBringer b.pids name (b.body name) (b.deed name)) frame (filter (brings name) rest)
      (subst (λ fs. OneIf (is_stream_of (forker script) (b.deed name) x 1)
      (IsBringer b.pids name (b.body name) (b.deed name)) fs)
      (brought-is name
      ∙ ap (λ t. cond t (frame ∷ filter (brings name) rest) (filter (brings name) rest)) e) (known.streams x 1))
      in record {
        sent = sent-here (forker script) b.pids name (b.body name) x parcel (b.deed name) first.counts
            first.is;
        alone = first.alone;
      }

  -- nothing behind it brings a name of the parcel
  pub none-behind : (name : Name) → has_deed_of name parcel ≡ true → filter (brings name) rest ≡ []
  none-behind name e = let first = comes-first name e in first.alone

  own-in : has_deed_of (Proc parcel.pid) parcel ≡ true
  own-in = has-its-own script b.pids (stage_of w) (under_way_of w) parcel sent-sender

  forked : b.pids c ≢ 0
  forked z =
      let first = comes-first (Proc parcel.pid) own-in
      in let sent = first.sent
      in has-number script w [] b parcel.pid holds (λ e. not-unmade sent.node (sym sent.deed_is ∙ e)) (its.pid ∙ z)
    where
      not-unmade : (g : ℕ) → InExitTo g x ≡ Unmade → ⊥
      not-unmade g e = cc

  same-node : (g : ℕ) → parcel.pid ≡ b.pids g → g ≡ c
  same-node g e = let pids = holds.pids in sym (pids.apart c g forked (sym its.pid ∙ e))

  -- what is said to be on its way in the node's parcel is in this one
  in-this : (name : Name) → b.deed name ≡ InExitTo c x → has_deed_of name parcel ≡ true
  in-this name deed = by-test (has_deed_of name parcel) refl
    where
      known : NameHolds script b.pids (is_born_in w) name (name_sight script w [] b name)
      known = holds.names name

      only-one : OnlyOne (IsExitOf name (b.body name) (b.pids c)) (filter (brings name) (frames_to w x 1))
      only-one =
          subst (λ t. OneIf (t && true) (IsExitOf name (b.body name) (b.pids c))
          (filter (brings name) (frames_to w x 1))) (eq-eqb x x refl)
          (subst (λ d. OneIf (is_stream_of (forker script) d x 1) (IsBringer b.pids name (b.body name) d)
          (filter (brings name) (frames_to w x 1))) deed (known.streams x 1))

      another : has_deed_of name parcel ≡ false
          → IsExitOf name (b.body name) (b.pids c) only-one.one → ⊥
      another g is =
          let behind : filter (brings name) rest ≡ frames.ExitTo is.parcel ∷ [] =
          sym (brought-is name
          ∙ ap (λ t. cond t (frame ∷ filter (brings name) rest) (filter (brings name) rest)) g)
          ∙ only-one.only ∙ ap (λ f. f ∷ []) is.is
          in let there : Contains (frames_to w x 1) (frames.ExitTo is.parcel) =
          subst (λ fs. Contains fs (frames.ExitTo is.parcel)) (sym stream-is)
          (Contains-append_right (frame ∷ []) rest (frames.ExitTo is.parcel)
          (kept-is-there (brings name) rest (frames.ExitTo is.parcel) behind))
          in let has = is.has
          in not-left-out (brings name) (brings (Proc parcel.pid)) rest (frames.ExitTo is.parcel) behind
          (subst (λ pid. has_deed_of (Proc pid) is.parcel ≡ true) (has.of_process ∙ sym its.pid)
          (has-its-own script b.pids (stage_of w) (under_way_of w) is.parcel
          (holds.parcels is.parcel (sent_in x there))))
          (none-behind (Proc parcel.pid) own-in)

      by-test : (t : Bool) → has_deed_of name parcel ≡ t → has_deed_of name parcel ≡ true
      by-test true g = g
      by-test false g = absurd (another g only-one.holds)

  -- The parcel at the head of the stream.
  pub parcel-sent : HasParcel script w b parcel c sent-sender.call (InExitTo c x)
  parcel-sent =
      record {
        is_of = its;
        stage = sent-sender.stage;
        under_way = sent-sender.ends_by;
        on_way = sent-on-way c x;
        deeds = λ name e.
            let first = comes-first name e
            in let sent = first.sent
            in let has = sent.has
            in sent.deed_is ∙ ap (λ g. InExitTo g x) (same-node sent.node has.of_process);
        has = λ name e.
            let first = comes-first name e
            in let sent = first.sent
            in let has = sent.has
            in subst (λ g. HasDeed name (b.body name) (b.pids g) parcel) (same-node sent.node has.of_process)
            sent.has;
        all = in-this;
      }

  -- ---- the parent

  abbrev parent : Name
  parent = Proc parcel.parent

  abbrev p : NameSight
  p = name_sight script w [] b parent

  of-parent : NameHolds script b.pids (is_born_in w) parent p
  of-parent = holds.names parent

  up : (b.pids (forker script c) ≢ 0) × (forker script c < c)
  up =
      let pids = holds.pids
      in pids.forked c forked
      (not-first script w [] b holds parcel c sent-sender.call (InExitTo c x) parcel-sent)

  abbrev g : ℕ
  g = forker script c

  family : FamilyHolds script b.pids b.places b.kernel (process_deed b.deed) (checkpoints_to script w g) (stage_of w g)
      g
  family = holds.families g up.0

  parent-is : parent ≡ Proc (b.pids g)
  parent-is = ap Proc its.parent

  parent-not-in : has_deed_of parent parcel ≡ false
  parent-not-in = by-test (has_deed_of parent parcel) refl
    where
      by-process : (v : Process) → IsWhereFor g (InExitTo c x) v → ⊥
      by-process (kernel.Living a) at = let lower = up.1 in omega (arith, at, lower)
      by-process (kernel.Ended e) at = let lower = up.1 in omega (arith, at, lower)
      by-process kernel.Gone at = let lower = up.1 in omega (arith, at, lower)

      by-test : (t : Bool) → has_deed_of parent parcel ≡ t → has_deed_of parent parcel ≡ false
      by-test false e = e
      by-test true e =
          absurd
          (by-process family.process
          (subst (λ d. IsWhereFor g d family.process)
          (ap b.deed (sym parent-is) ∙ parcel_deed e) family.where_it_is))
        where
          parcel_deed : has_deed_of parent parcel ≡ true → b.deed parent ≡ InExitTo c x
          parcel_deed z = let q = parcel-sent in q.deeds parent z

  -- a parent has forked, so no Checkpoint brings it
  no-checkpoint : (to : ℕ) → b.deed parent ≡ InCheckpoint to → ⊥
  no-checkpoint to e =
      by-process family.process family.is
      (subst (λ d. IsWhereFor g d family.process) at family.where_it_is)
      (subst (λ d. IsNewAt family.process d) at family.fresh)
    where
      at : b.deed (Proc (b.pids g)) ≡ InCheckpoint to
      at = ap b.deed (sym parent-is) ∙ e

      child : FamilyHolds script b.pids b.places b.kernel (process_deed b.deed) (checkpoints_to script w c)
          (stage_of w c) c
      child = holds.families c forked

      listed : (a : Alive) → living_at b.kernel (b.pids g) ≡ Some a → lists a.row.family (b.pids c) ≡ true
      listed a lives =
          let own = own-lives script w [] b holds parcel c sent-sender.call (InExitTo c x) parcel-sent
          in subst (λ v. IsChildIn b.kernel (b.pids g) (b.pids c) v) (some-same (sym child.is ∙ own.there))
          (child.child (not-first script w [] b holds parcel c sent-sender.call (InExitTo c x) parcel-sent)) a lives

      by-process : (v : Process) → get b.kernel.processes (b.pids g) ≡ Some v → IsWhereFor g (InCheckpoint to) v
          → IsNewAt v (InCheckpoint to) → ⊥
      by-process (kernel.Living a) is there new =
          false≢true
          (sym (new-lists-none a (b.pids c) new)
          ∙ listed a (ap (option_and_then alive_in) is))
      by-process (kernel.Ended ending) is there new = there
      by-process kernel.Gone is there new = there

  nothing-comes : is_stream_of (forker script) (b.deed parent) x (forker script x) ≡ false
      → comes_to script w parent x ≡ false
  nothing-comes none =
      ap (λ fs. not (nat_eq (forker script x) 1) && has_any fs)
      (fewer-none (is_checkpoint_of parent) (brings parent) (checkpoints-bring parent) (frames_to w x (forker script x))
      (subst (λ t. OneIf t (IsBringer b.pids parent p.body (b.deed parent)) (p.brought x (forker script x))) none
      (of-parent.streams x (forker script x))))
      ∙ and-false (not (nat_eq (forker script x) 1))

  from-leader : (t : Bool) → nat_eq (forker script x) 1 ≡ t → comes_to script w parent x ≡ (not t && has_any
      (filter (is_checkpoint_of parent) (frames_to w x (forker script x))))
  from-leader t e =
      ap (λ s. not s && has_any (filter (is_checkpoint_of parent) (frames_to w x (forker script x)))) e

  comes-not : (d : DeedPlace) → b.deed parent ≡ d → comes_to script w parent x ≡ false
  comes-not (InCheckpoint to) e = absurd (no-checkpoint to e)
  comes-not (InGrant to) e = absurd (false≢true (ap (may_be_at false) (sym e) ∙ of-parent.place_fits))
  comes-not (InGiveBack to) e = absurd (false≢true (ap (may_be_at false) (sym e) ∙ of-parent.place_fits))
  comes-not (InLeft of) e =
      nothing-comes
      (ap (λ d. is_stream_of (forker script) d x (forker script x)) e
      ∙ ap (λ t. t && nat_eq (forker script x) of) (ne_eqb x 1 not-leader))
  comes-not (InExitTo of to) e = by-test (nat_eq (forker script x) 1) refl
    where
      by-test : (t : Bool) → nat_eq (forker script x) 1 ≡ t → comes_to script w parent x ≡ false
      by-test true same = from-leader true same
      by-test false other =
          nothing-comes
          (ap (λ d. is_stream_of (forker script) d x (forker script x)) e
          ∙ ap (λ t. nat_eq x to && t) other ∙ and-false (nat_eq x to))
  comes-not Unmade e = nothing-comes (ap (λ d. is_stream_of (forker script) d x (forker script x)) e)
  comes-not (InTable node) e = nothing-comes (ap (λ d. is_stream_of (forker script) d x (forker script x)) e)
  comes-not (InKept of) e = nothing-comes (ap (λ d. is_stream_of (forker script) d x (forker script x)) e)
  comes-not (InHand of) e = nothing-comes (ap (λ d. is_stream_of (forker script) d x (forker script x)) e)

  -- the play of the parent's name begins with it, and what stands behind the parcel is played on
  pub record ParentPlays : Type 0 where
    pub last : Hold
    pub begins : p.begins x ≡ Has
    pub plays_on : play Has (plays p.used b.call parent rest) ≡ Some last
    pub agrees : is_has last ≡ is_there x (belief_of p)

  steps-first : p.steps x ≡ IsNeeded ∷ plays p.used b.call parent rest
  steps-first =
      ap (plays p.used b.call parent) stream-is
      ∙ ap (λ t. (if t then Comes ∷ [] else steps_if (is_same_name parent (Proc parcel.parent)) IsNeeded)
      ++ plays p.used b.call parent rest) parent-not-in
      ∙ ap (λ t. steps_if t IsNeeded ++ plays p.used b.call parent rest) (same-name parent (Proc parcel.parent) refl)

  -- so it does
  pub parent-plays : ParentPlays
  parent-plays =
      let played : PlaysTo (p.begins x) (p.steps x) (is_there x (belief_of p)) = of-parent.plays x above-leader
      in let needs = play-needs (p.begins x) played.last (plays p.used b.call parent rest)
      (ap (play (p.begins x)) (sym steps-first) ∙ played.plays)
      in record { last = played.last; begins = needs.0; plays_on = needs.1; agrees = played.agrees }

  -- The parent's deed is in the node's table.
  pub parent-here : b.deed parent ≡ InTable x
  parent-here =
      let begun = begin-has (stage_of w x) (is_some (held_at w parent x)) (comes_to script w parent x)
      parent-plays.begins
      in let held = some-true (held_at w parent x)
      (or-first (is_some (held_at w parent x)) (comes_to script w parent x) (comes-not (b.deed parent) refl) begun.1)
      in let at : IsHeldAt (b.deed parent) (b.body parent) x held.0 =
      held-there (b.deed parent) (b.body parent) x held.0 (sym (of-parent.tables x) ∙ held.1)
      in at.deed_is

  -- and it hasn't left
  pub not-left : has_left (stage_of w x) ≡ false
  not-left =
      let begun = begin-has (stage_of w x) (is_some (held_at w parent x)) (comes_to script w parent x)
      parent-plays.begins
      in begun.0
