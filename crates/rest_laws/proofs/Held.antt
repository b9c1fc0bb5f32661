-- At rest the leader holds nothing: a queue or a set is never on its way for good, and of the parcels that are held one
-- of the smallest node would be held for a process whose deed is in a parcel of a smaller one.
use Rattle.std.proofs.Common.{◌≡◌, ◌≢◌, ℕ, zero, suc, ◌<◌, ◌≤◌, Bool, true, false, ◌&&◌, ◌||◌, nat_eq, if◌then◌else◌, List, [], ◌∷◌, Contains, Option, Some, None, is_some, refl, ap, sym, subst, ◌∙◌, inl, inr, arith}
use Rattle.std.proofs.lemmas.Bool.{cases_eq, eq-eqb, false≢true}
use Rattle.pico_base.specs.declared.numbers.Name.{Name}
use Rattle.pico_base.specs.declared.numbers.Name.TheVariants.{Proc}
use Rattle.pico_base.specs.declared.script.Script.{Script}
use Rattle.rpc_frame.specs.declared.deed.Parcel.{Parcel}
use Rattle.kernel_laws.proofs.Plain.{from_some, not_some}
use Rattle.entry_laws.specs.Entering.{is_used_name}
use Rattle.node_model.specs.declared.held.Held.{Held}
use Rattle.node_model.specs.declared.held.Held.TheVariants.{Ending}
use Rattle.node_model.specs.Bodies.{Body, Deeds}
use Rattle.node_model.specs.Directory.{At, Coming, Directory, Place, held_for, items_of, is_parcel_with, place_of}
use Rattle.node_model.specs.Kinds.{get_named, none_named}
use Rattle.world_model.specs.Census.{brings}
use Rattle.world_model.specs.Node.{Left, Stage}
use Rattle.world_model.specs.Run.{IsAtRest}
use Rattle.world_model.specs.World.{World}
use Rattle.world_laws.specs.Families.{HoldsIn, NodeHolds}
use Rattle.world_laws.specs.Invariant.{Holds}
use Rattle.world_laws.specs.Names.{is_hand_place}
use Rattle.world_laws.specs.Names.{IsBringer, IsItemWith, NameHolds, NameSight, OneIf, OnlyOne, PlaysTo, belief_of, comes_to, forker, held_as, held_at, is_kept_for, is_stream_of, maker_tells, name_sight, node_in}
use Rattle.world_laws.specs.Places.{Beside, DeedPlace, Unmade, InTable, InCheckpoint, InGrant, InGiveBack, InLeft, InKept, InHand, InExitTo}
use Rattle.world_laws.specs.Plays.{Hold, OnTheWay, believed, is_has, is_there, play, plays}
use Rattle.world_laws.specs.Sights.{directory_of, frames_to, is_born_in, node_of, stage_of}
use Rattle.world_laws.specs.Ways.{kept}
use Rattle.world_laws.proofs.NameFacts.{begins-with, has_left}
use Rattle.rule_laws.proofs.ends.KeptItems.{kept-is-there}
use Rattle.bound_laws.specs.Bounded.{IsBounded}
use Rattle.rest_laws.proofs.Census.{is_way, one-is-some, stream-is, way_from, way_to}
use Rattle.rest_laws.proofs.Senders.{Sender, carrier, carried-by-lower, sender-of}
use Rattle.rest_laws.proofs.Shaped.{holder-in-range, unborn-has-nothing}
use Rattle.rest_laws.proofs.Streams.{all-empty}

left-is : (s : Stage) → has_left s ≡ true → s ≡ Left
left-is Left h = refl
left-is s h = absurd (false≢true h)

some-hold : (g h : Hold) → Some g ≡ Some h → g ≡ h
some-hold g h e = from_some g h e

not-one : {A : Type 0} (x : A) → [] ≡ x ∷ [] → ⊥
not-one x e = cc

three-true : (a b c : Bool) → a ≡ true → b ≡ true → c ≡ true → (a && (b && c)) ≡ true
three-true a b c e f g = rw (e, f, g) refl

abbrev no_deeds : Deeds
no_deeds = none_named

none-holds : (name : Name) → get_named no_deeds name ≡ None
none-holds name = unborn-has-nothing 0 name

module _ (script : Script) (w : World) (b : Beside) (holds : Holds script w [] b) (rest : IsAtRest w)
    (bounded : IsBounded script w []) where
  abbrev d : Directory
  d = directory_of w

  abbrev sight : Name → NameSight
  sight name = name_sight script w [] b name

  known : (name : Name) → NameHolds script b.pids (is_born_in w) name (sight name)
  known name = holds.names name

  empty : (to sender : ℕ) → frames_to w to sender ≡ []
  empty to sender = all-empty script w b holds rest bounded to sender

  -- ---- where deeds aren't

  -- in no frame
  pub not-on-way : (name : Name) → is_way (b.deed name) ≡ false
  not-on-way name = by-test (is_way (b.deed name)) refl
    where
      there : is_way (b.deed name) ≡ true → ⊥
      there e =
          let to : ℕ = way_to (b.deed name)
          in let sender : ℕ = way_from (forker script) (b.deed name)
          in one-is-some (is_stream_of (forker script) (b.deed name) to sender)
          (IsBringer b.pids name (sight name).body (b.deed name)) (brings name) (frames_to w to sender)
          ((known name).streams to sender)
          (stream-is (forker script) (b.deed name) to sender
          ∙ three-true (is_way (b.deed name)) (nat_eq to to) (nat_eq sender sender) e (eq-eqb to to refl)
          (eq-eqb sender sender refl))
          (empty to sender)

      by-test : (t : Bool) → is_way (b.deed name) ≡ t → is_way (b.deed name) ≡ false
      by-test false e = e
      by-test true e = absurd (there e)

  -- in no parcel in hand, since nothing is in hand
  pub not-in-hand : (name : Name) (c : ℕ) → b.deed name ≡ InHand c → ⊥
  not-in-hand name c e =
      let one : OnlyOne (IsItemWith name (sight name).body (b.pids c)) [] =
      subst (λ p. OneIf (is_hand_place p) (IsItemWith name (sight name).body (b.pids (node_in p))) []) e
      (known name).in_hand
      in not-one one.one one.only

  -- ---- what is awaited

  -- is held by no node
  module _ (name : Name) (to : Option ℕ) (items : List Held) (place : place_of d name ≡ Some (Coming to items)) where
    belief-is : belief_of (sight name) ≡ OnTheWay
    belief-is = ap (λ o. believed o (maker_tells (sight name) (sight name).maker)) place

    -- at another node than the leader nothing is to come, so the deed would stay
    not-at-other : (h : ℕ) → 2 ≤ h → (v : Body) → held_at w name h ≡ Some v → ⊥
    not-at-other h low v there = by-test (has_left (stage_of w h)) refl
      where
        old : PlaysTo ((sight name).begins h) ((sight name).steps h) (is_there h (belief_of (sight name)))
        old = (known name).plays h low

        begins-last : (sight name).begins h ≡ old.last
        begins-last =
            some-hold ((sight name).begins h) old.last
            (sym (ap (λ fs. play ((sight name).begins h) (plays (is_used_name b.kernel name) b.call name fs))
            (empty h 1))
            ∙ old.plays)

        gone-on : is_has ((sight name).begins h) ≡ false
        gone-on = ap is_has begins-last ∙ old.agrees ∙ ap (is_there h) belief-is

        by-test : (t : Bool) → has_left (stage_of w h) ≡ t → ⊥
        by-test false stays =
            false≢true
            (sym gone-on
            ∙ ap is_has (begins-with (stage_of w h) (is_some (held_at w name h)) (comes_to script w name h) stays
            (ap (λ o. is_some o || comes_to script w name h) there)))
        by-test true gone =
            let range = holder-in-range script w holds.shape h name v there
            in let n : NodeHolds script b.pids (is_born_in w) h (node_of w h) = holds.nodes h range.0 range.1
            in let nothing : (node_of w h).deeds ≡ none_named =
            subst (λ s. HoldsIn h (node_of w h) s) (left-is (stage_of w h) gone) n.holds
            in not_some v (sym (ap (λ (m : Deeds). get_named m name) nothing ∙ none-holds name) ∙ there)

    not-held : (h : ℕ) (v : Body) → held_at w name h ≡ Some v → ⊥
    not-held h v there =
        let range = holder-in-range script w holds.shape h name v there
        in elim (cases_eq h 1) [
          | inl same ↦
              false≢true
              (sym ((known name).leader ∙ ap (is_there 1) belief-is)
              ∙ ap is_some (ap (held_at w name) (sym same) ∙ there))
          | inr other ↦ let low = range.0 in not-at-other h (omega (arith, low, other)) v there
        ]

    -- so its deed is in a parcel that is held
    pub awaited-is-kept : (c : ℕ) × (b.deed name ≡ InKept c)
    awaited-is-kept = by-place (b.deed name) refl
      where
        self-held : (h : ℕ) (v : Body) → held_as (InTable h) v h ≡ Some v
        self-held h v = ap (λ t. if t then Some v else None) (eq-eqb h h refl)

        on-way : (p : DeedPlace) → b.deed name ≡ p → is_way p ≡ true → (c : ℕ) × (b.deed name ≡ InKept c)
        on-way p e way = absurd (false≢true (sym (not-on-way name) ∙ ap is_way e ∙ way))

        by-place : (p : DeedPlace) → b.deed name ≡ p → (c : ℕ) × (b.deed name ≡ InKept c)
        by-place (InKept c) e = (c, e)
        by-place Unmade e =
            let n = known name
            in absurd (false≢true (sym (n.made.0 e) ∙ n.known (ap is_some place)))
        by-place (InTable h) e =
            let n = known name
            in absurd
            (not-held h (sight name).body
            (n.tables h ∙ ap (λ p. held_as p (sight name).body h) e ∙ self-held h (sight name).body))
        by-place (InHand c) e = absurd (not-in-hand name c e)
        by-place (InCheckpoint c) e = on-way (InCheckpoint c) e refl
        by-place (InGrant h) e = on-way (InGrant h) e refl
        by-place (InGiveBack h) e = on-way (InGiveBack h) e refl
        by-place (InLeft c) e = on-way (InLeft c) e refl
        by-place (InExitTo c x) e = on-way (InExitTo c x) e refl

  -- ---- parcels that are held

  -- one is held for the parent of its process
  pub record KeptParcel (c : ℕ) : Type 0 where
    pub parcel : Parcel
    pub there : Contains (held_for d (Proc (b.pids (forker script c)))) (Ending parcel)
    pub pid_is : parcel.pid ≡ b.pids c

  kept-parcel : (name : Name) (c : ℕ) → b.deed name ≡ InKept c → KeptParcel c
  kept-parcel name c e =
      let pid : ℕ = b.pids (forker script c)
      in let one : OnlyOne (IsItemWith name (sight name).body (b.pids c)) ((sight name).kept pid) =
      subst (λ t. OneIf t (IsItemWith name (sight name).body (b.pids c)) ((sight name).kept pid)) (eq-eqb pid pid refl)
      (subst
      (λ p. OneIf (is_kept_for (forker script) b.pids p pid) (IsItemWith name (sight name).body (b.pids (node_in p)))
      ((sight name).kept pid)) e ((known name).kept pid))
      in let item : IsItemWith name (sight name).body (b.pids c) one.one = one.holds
      in let has = item.has
      in record {
        parcel = item.parcel;
        there = subst (λ i. Contains (held_for d (Proc pid)) i) item.is
            (kept-is-there (is_parcel_with name) (held_for d (Proc pid)) one.one one.only);
        pid_is = has.of_process;
      }

  nothing-contained : (items : List Held) (item : Held) → items ≡ [] → Contains items item → ⊥
  nothing-contained items item e there = none (subst (λ xs. Contains xs item) e there)
    where
      none : Contains [] item → ⊥
      none h = let low = h.1 in absurd (omega (arith, low))

  -- so the parent's deed is in one of a smaller node
  kept-for-lower : (name : Name) (c : ℕ) → b.deed name ≡ InKept c
      → (g : ℕ) × (g < c) × (m : Name) × (b.deed m ≡ InKept g)
  kept-for-lower name c e = by-place (place_of d parent) refl
    where
      k : KeptParcel c
      k = kept-parcel name c e

      s : Sender script b k.parcel
      s = sender-of script w b holds k.parcel (kept (b.pids (forker script c)) k.there)

      parent : Name
      parent = Proc (b.pids (forker script c))

      same : s.node ≡ c
      same = let pids = holds.pids in pids.apart s.node c s.forked (sym s.pid_is ∙ k.pid_is)

      by-place : (o : Option Place) → place_of d parent ≡ o → (g : ℕ) × (g < c) × (m : Name) × (b.deed m ≡ InKept g)
      by-place None at = absurd (nothing-contained (held_for d parent) (Ending k.parcel) (ap items_of at) k.there)
      by-place (Some (At node)) at =
          absurd (nothing-contained (held_for d parent) (Ending k.parcel) (ap items_of at) k.there)
      by-place (Some (Coming to items)) at =
          let next = awaited-is-kept parent to items at
          in let lower : next.0 ≤ forker script c =
          carried-by-lower script w b holds (forker script c)
          (subst (λ z. b.pids (forker script z) ≢ 0) same s.parent_forked) next.0 (ap carrier next.1)
          in let below : forker script c < c = subst (λ z. forker script z < z) same s.below
          in (next.0, omega (arith, lower, below), parent, next.1)

  -- and none is held at all
  none-kept-below : (n c : ℕ) → c < n → (name : Name) → b.deed name ≡ InKept c → ⊥
  none-kept-below zero c low name e = absurd (omega (arith, low))
  none-kept-below (suc n) c low name e =
      let next = kept-for-lower name c e
      in let lower = next.1
      in none-kept-below n next.0 (omega (arith, low, lower)) next.2 next.3

  -- No deed is in a parcel that is held.
  pub none-kept : (name : Name) (c : ℕ) → b.deed name ≡ InKept c → ⊥
  none-kept name c e = none-kept-below (suc c) c (omega arith) name e

  -- The leader holds nothing.
  pub nothing-held : (name : Name) → held_for d name ≡ []
  nothing-held name = by-place (place_of d name) refl
    where
      by-place : (o : Option Place) → place_of d name ≡ o → held_for d name ≡ []
      by-place None at = ap items_of at
      by-place (Some (At node)) at = ap items_of at
      by-place (Some (Coming to items)) at =
          let kept_in = awaited-is-kept name to items at in absurd (none-kept name kept_in.0 kept_in.1)
