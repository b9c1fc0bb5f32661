-- The deed of a queue or set has come back to the leader, which keeps it: what the frame says, and what holds of the
-- name afterwards.
use Rattle.std.proofs.Common.{◌≡◌, ◌⊎◌, ℕ, ◌≤◌, Bool, true, false, ◌&&◌, if◌then◌else◌, List, [], ◌∷◌, filter, nat_eq, Option, Some, None, is_some, Contains, refl, ap, sym, subst, ◌∙◌, inl, inr, arith}
use Rattle.std.specs.List.{AllByRecursion}
use Rattle.std.proofs.lemmas.Bool.{eqb-true, ne_eqb, false≢true}
use Rattle.std.proofs.lemmas.List.Elements.{Contains-append_cases, Contains-push_cases}
use Rattle.pico_base.specs.declared.numbers.Name.{Name}
use Rattle.pico_base.specs.declared.script.Script.{Script}
use Rattle.rpc_frame.specs.declared.deed.PackedDeed.{PackedDeed}
use Rattle.rpc_frame.specs.declared.deed.Parcel.{Parcel}
use Rattle.rpc_frame.specs.declared.frame.Frame.{Frame}
use Rattle.rpc_frame.specs.declared.frame.Frame.TheVariants as frames
use Rattle.node_model.specs.declared.held.Held.{Held}
use Rattle.node_model.specs.declared.held.Held.TheVariants.{Request, Ending}
use Rattle.node_model.specs.Kinds.{is_object}
use Rattle.node_model.specs.Bodies.{Body}
use Rattle.node_model.specs.Directory.{At, Coming, is_parcel_with}
use Rattle.node_model.specs.Spelling.{pack}
use Rattle.world_laws.specs.Places.{DeedPlace, Unmade, InTable, InCheckpoint, InGrant, InGiveBack, InLeft, InKept, InHand, InExitTo}
use Rattle.world_laws.specs.Plays.{Hold, believed, is_there}
use Rattle.world_laws.specs.Names.{NameSight, NameHolds, IsBringer, IsCheckpointOf, IsLeftOf, IsExitOf, IsItemWith, IsItemFor, OneIf, PlaysTo, maker_tells, is_stream_of, is_kept_for, is_hand_place, node_in, forker}
use Rattle.rule_laws.proofs.Grants.{IsAlone, is-alone}

-- ---- the frame

-- what a GiveBack says of where the deed was
pub record IsGivenBack (deed : DeedPlace) (sender : ℕ) (packed : PackedDeed) (name : Name) (body : Body)
    (rest : List Frame) : Type 0 where
  pub deed_is : deed ≡ InGiveBack sender
  pub packed_is : packed ≡ pack name body
  pub alone : rest ≡ []

abbrev is_give_back : Frame → Bool
is_give_back (frames.GiveBack deed) = true
is_give_back frame = false

give-backs-same : (a b : PackedDeed) → frames.GiveBack a ≡ frames.GiveBack b → a ≡ b
give-backs-same a b h = cc

not-none : {A : Type 0} (x : A) (xs : List A) → x ∷ xs ≡ [] → ⊥
not-none x xs h = cc

and-second : (a b : Bool) → (a && b) ≡ true → b ≡ true
and-second true b h = h
and-second false b h = absurd (false≢true h)

-- what stands alone where the deed is of another kind is no GiveBack
no-other : (t : Bool) (P : Frame → Type 0) → ((f : Frame) → P f → is_give_back f ≡ false) → (packed : PackedDeed)
    (rest fs : List Frame) → fs ≡ frames.GiveBack packed ∷ rest → OneIf t P fs → ⊥
no-other t P differs packed rest fs e h =
    let one : IsAlone t P (frames.GiveBack packed) rest = is-alone t P (frames.GiveBack packed) rest fs e h
    in false≢true (sym (differs (frames.GiveBack packed) one.holds))

-- a GiveBack says that the deed is in it
pub given-back : (forks_it : ℕ → ℕ) (pids : ℕ → ℕ) (name : Name) (body : Body) (deed : DeedPlace) (to sender : ℕ)
    (packed : PackedDeed) (rest fs : List Frame)
    → fs ≡ frames.GiveBack packed ∷ rest
    → OneIf (is_stream_of forks_it deed to sender) (IsBringer pids name body deed) fs
    → IsGivenBack deed sender packed name body rest
given-back forks_it pids name body Unmade to sender packed rest fs e h =
    absurd (not-none (frames.GiveBack packed) rest (sym e ∙ h))
given-back forks_it pids name body (InTable node) to sender packed rest fs e h =
    absurd (not-none (frames.GiveBack packed) rest (sym e ∙ h))
given-back forks_it pids name body (InKept of) to sender packed rest fs e h =
    absurd (not-none (frames.GiveBack packed) rest (sym e ∙ h))
given-back forks_it pids name body (InHand of) to sender packed rest fs e h =
    absurd (not-none (frames.GiveBack packed) rest (sym e ∙ h))
given-back forks_it pids name body (InGiveBack node) to sender packed rest fs e h =
    let one : IsAlone (nat_eq to 1 && nat_eq sender node) (λ f. f ≡ frames.GiveBack (pack name body))
    (frames.GiveBack packed) rest =
    is-alone (nat_eq to 1 && nat_eq sender node) (λ f. f ≡ frames.GiveBack (pack name body)) (frames.GiveBack packed)
    rest fs e h
    in record {
      deed_is = ap InGiveBack (sym (eqb-true sender node (and-second (nat_eq to 1) (nat_eq sender node) one.is_there)));
      packed_is = give-backs-same packed (pack name body) one.holds;
      alone = one.alone;
    }
given-back forks_it pids name body (InGrant node) to sender packed rest fs e h =
    absurd (no-other _ (λ f. f ≡ frames.Grant (pack name body)) (λ f is. ap is_give_back is) packed rest fs e h)
given-back forks_it pids name body (InCheckpoint c) to sender packed rest fs e h =
    absurd (no-other _ (IsCheckpointOf name body) (λ f is. ap is_give_back is.is) packed rest fs e h)
given-back forks_it pids name body (InLeft c) to sender packed rest fs e h =
    absurd (no-other _ (IsLeftOf name body (pids c)) (λ f is. ap is_give_back is.is) packed rest fs e h)
given-back forks_it pids name body (InExitTo c node) to sender packed rest fs e h =
    absurd (no-other _ (IsExitOf name body (pids c)) (λ f is. ap is_give_back is.is) packed rest fs e h)

-- ---- what is held for a queue or set is no parcel

no-process : (name : Name) (parcel : Parcel) → is_object name ≡ true → IsItemFor name (Ending parcel) → ⊥
no-process name parcel object e = false≢true (sym (ap is_object e) ∙ object)

-- so none has a name's deed
pub no-parcel-kept : (name m : Name) (items : List Held) → is_object name ≡ true
    → AllByRecursion (IsItemFor name) items → filter (is_parcel_with m) items ≡ []
no-parcel-kept name m [] object all = refl
no-parcel-kept name m (Request asked ∷ items) object all = no-parcel-kept name m items object all.1
no-parcel-kept name m (Ending parcel ∷ items) object all = absurd (no-process name parcel object all.0)

first-or-later : (x v : Held) (xs : List Held) → Contains (x ∷ xs) v → (x ≡ v) ⊎ Contains xs v
first-or-later x v xs there =
    elim (Contains-append_cases (x ∷ []) xs v there) [
      | inr later ↦ inr later
      | inl first ↦
          elim (Contains-push_cases [] x v first) [ inl none ↦ absurd (omega (arith, none.1)) | inr e ↦ inl e ]
    ]

-- and there is none among them
pub no-parcel-there : (name : Name) (items : List Held) (parcel : Parcel) → is_object name ≡ true
    → AllByRecursion (IsItemFor name) items → Contains items (Ending parcel) → ⊥
no-parcel-there name [] parcel object all there = omega (arith, there.1)
no-parcel-there name (item ∷ items) parcel object all there =
    elim (first-or-later item (Ending parcel) items there) [
      | inr later ↦ no-parcel-there name items parcel object all.1 later
      | inl e ↦ no-process name parcel object (subst (IsItemFor name) e all.0)
    ]

-- ---- the name

-- its deed is in the leader's table, and nothing is held for it any more
abbrev pub home_sight : NameSight → Hold → NameSight
home_sight x first =
    record x {
      place = Some (At 1);
      deed = InTable 1;
      held = λ h. if nat_eq 1 h then Some x.body else None;
      brought = λ to sender. [];
      begins = λ h. if nat_eq h 1 then first else x.begins h;
    }

-- all holds of a name whose deed has come back to the leader
pub name-home : (script : Script) (pids : ℕ → ℕ) (born : ℕ → Bool) (name : Name) (x : NameSight) (to : Option ℕ)
    (items : List Held) (q : ℕ) (first : Hold) → NameHolds script pids born name x → x.place ≡ Some (Coming to items)
    → x.deed ≡ InGiveBack q → NameHolds script pids born name (home_sight x first)
name-home script pids born name x to items q first h place deed =
    record {
      parts = h.parts;
      callers = h.callers;
      made = (λ e. absurd (not-unmade e), λ u. absurd (was-unmade (sym deed ∙ h.made.1 u)));
      place_fits = refl;
      tables = λ y. refl;
      streams = λ t sender. refl;
      kept = λ pid. subst (λ d. OneIf (is_kept_for (forker script) pids d pid)
          (IsItemWith name x.body (pids (node_in d))) (x.kept pid)) deed (h.kept pid);
      in_hand = subst (λ d. OneIf (is_hand_place d) (IsItemWith name x.body (pids (node_in d))) x.hand) deed h.in_hand;
      known = λ e. h.known (ap is_some place);
      believed = λ used. refl;
      plays = plays-now;
      leader = refl;
      told = h.told;
      found = λ y low. refl;
      unplaced = λ used e. absurd (false≢true (sym (ap is_some e)));
      ranged = h.ranged;
      leased = h.leased;
      bound = λ y e. absurd (false≢true (ap is_some e));
      items = tt;
    }
  where
    not-unmade : InTable 1 ≡ Unmade → ⊥
    not-unmade e = cc

    was-unmade : InGiveBack q ≡ Unmade → ⊥
    was-unmade e = cc

    plays-now : (y : ℕ) → 2 ≤ y → PlaysTo (if nat_eq y 1 then first else x.begins y) (x.steps y) (nat_eq 1 y)
    plays-now y low =
        subst (λ t. PlaysTo (if t then first else x.begins y) (x.steps y) (nat_eq 1 y))
        (sym (ne_eqb y 1 (λ e. omega (arith, e, low))))
        (subst (λ t. PlaysTo (x.begins y) (x.steps y) t)
        (ap (λ o. is_there y (believed o (maker_tells x x.maker))) place
        ∙ sym (ne_eqb 1 y (λ e. omega (arith, e, low))))
        (h.plays y low))
