-- A parcel in the leader's hand whose parent's deed is awaited is held for the parent: what holds of each name.
use Rattle.std.proofs.Common.{◌≡◌, ℕ, Bool, true, false, cond, List, [], ◌∷◌, ◌++◌, nat_eq, Option, Some, is_some, refl, ap, sym, subst, ◌∙◌}
use Rattle.std.specs.List.{AllByRecursion}
use Rattle.std.proofs.lemmas.Bool.{false≢true}
use Rattle.pico_base.specs.declared.numbers.Name.{Name}
use Rattle.pico_base.specs.declared.script.Script.{Script}
use Rattle.rpc_frame.specs.declared.deed.Parcel.{Parcel}
use Rattle.node_model.specs.declared.held.Held.{Held}
use Rattle.node_model.specs.declared.held.Held.TheVariants.{Ending}
use Rattle.node_model.specs.Kinds.{is_object}
use Rattle.node_model.specs.Bodies.{Body}
use Rattle.node_model.specs.Directory.{Coming, destination_of, items_of}
use Rattle.world_laws.specs.Places.{DeedPlace, Unmade, InKept, InHand}
use Rattle.world_laws.specs.Plays.{OnTheWay, believed, is_there}
use Rattle.world_laws.specs.Names.{NameSight, NameHolds, PlaysTo, IsItemFor, HasDeed, OneIf, IsBringer, IsItemWith, held_as, is_stream_of, is_hand_place, is_kept_for, node_in, may_be_at, belief_of, maker_tells, forker}
use Rattle.rule_laws.proofs.ends.Taken.{both-all}

-- ---- one more item is held

abbrev pub with_item : NameSight → Option ℕ → List Held → Held → NameSight
with_item x to items item = record x { place = Some (Coming to (items ++ item ∷ [])) }

-- all holds of a name that is awaited, with one more item held for it
pub name-with-item : (script : Script) (pids : ℕ → ℕ) (born : ℕ → Bool) (name : Name) (x : NameSight) (to : Option ℕ)
    (items : List Held) (item : Held) → x.place ≡ Some (Coming to items) → IsItemFor name item
    → NameHolds script pids born name x → NameHolds script pids born name (with_item x to items item)
name-with-item script pids born name x to items item was is_for h =
    record {
      parts = h.parts;
      callers = h.callers;
      made = h.made;
      place_fits = h.place_fits;
      tables = h.tables;
      streams = h.streams;
      kept = h.kept;
      in_hand = h.in_hand;
      known = λ e. h.known (ap is_some was);
      believed = λ used. refl;
      plays = λ q low. subst (λ v. PlaysTo (x.begins q) (x.steps q) (is_there q v)) belief-was (h.plays q low);
      leader = h.leader ∙ ap (is_there 1) belief-was;
      told = h.told;
      found = λ q low. refl;
      unplaced = λ used e. absurd (false≢true (sym (ap is_some e)));
      ranged = h.ranged;
      leased = h.leased;
      bound = λ node e. h.bound node (ap destination_of was ∙ e);
      items = both-all (IsItemFor name) items (item ∷ []) all-were (is_for, tt);
    }
  where
    belief-was : belief_of x ≡ OnTheWay
    belief-was = ap (λ o. believed o (maker_tells x x.maker)) was

    all-were : AllByRecursion (IsItemFor name) items
    all-were = subst (λ o. AllByRecursion (IsItemFor name) (items_of o)) was h.items

-- ---- a deed in the hand is in a parcel that is held now

abbrev pub kept_for : NameSight → ℕ → List Held → (ℕ → List Held) → NameSight
kept_for x c hand kept = record x { deed = InKept c; hand = hand; kept = kept }

-- the item that was the only one in hand is the only one that is held, for the parent of the node's process
pub record IsKeptNow (script : Script) (pids : ℕ → ℕ) (name : Name) (x : NameSight) (c : ℕ) (parcel : Parcel)
    (hand : List Held) (kept : ℕ → List Held) : Type 0 where
  pub was : x.deed ≡ InHand c
  pub has : HasDeed name x.body (pids c) parcel
  pub no_more : hand ≡ []
  pub now : (pid : ℕ)
      → kept pid ≡ x.kept pid ++ cond (nat_eq (pids (forker script c)) pid) (Ending parcel ∷ []) []

one-kept : {A : Type 0} (t : Bool) (P : A → Type 0) (x : A) → P x → OneIf t P (cond t (x ∷ []) [])
one-kept true P x h = record { one = x; only = refl; holds = h }
one-kept false P x h = refl

-- all holds of a name whose deed is kept now
pub name-kept : (script : Script) (pids : ℕ → ℕ) (born : ℕ → Bool) (name : Name) (x : NameSight) (c : ℕ)
    (parcel : Parcel) (hand : List Held) (kept : ℕ → List Held)
    → IsKeptNow script pids name x c parcel hand kept
    → NameHolds script pids born name x → NameHolds script pids born name (kept_for x c hand kept)
name-kept script pids born name x c parcel hand kept s h =
    record {
      parts = h.parts;
      callers = h.callers;
      made = (λ e. absurd (not-unmade e), λ u. absurd (was-used u));
      place_fits = ap (may_be_at (is_object name)) (sym s.was) ∙ h.place_fits;
      tables = λ q. h.tables q ∙ ap (λ d. held_as d x.body q) s.was;
      streams = λ to sender. subst (λ d. OneIf (is_stream_of (forker script) d to sender)
          (IsBringer pids name x.body d) (x.brought to sender)) s.was (h.streams to sender);
      kept = λ pid. subst
          (λ items. OneIf (nat_eq (pids (forker script c)) pid) (IsItemWith name x.body (pids c)) items)
          (sym (s.now pid ∙ ap (λ items. items ++ cond (nat_eq (pids (forker script c)) pid) (Ending parcel ∷ []) [])
          (none-kept-before pid)))
          (one-kept (nat_eq (pids (forker script c)) pid) (IsItemWith name x.body (pids c)) (Ending parcel)
          (record { parcel = parcel; is = refl; has = s.has }));
      in_hand = s.no_more;
      known = h.known;
      believed = h.believed;
      plays = h.plays;
      leader = h.leader;
      told = h.told;
      found = h.found;
      unplaced = h.unplaced;
      ranged = h.ranged;
      leased = h.leased;
      bound = h.bound;
      items = h.items;
    }
  where
    not-unmade : InKept c ≡ Unmade → ⊥
    not-unmade e = cc

    was-used : x.used ≡ false → ⊥
    was-used unused = in-hand (sym s.was ∙ h.made.1 unused)
      where
        in-hand : InHand c ≡ Unmade → ⊥
        in-hand e = cc

    none-kept-before : (pid : ℕ) → x.kept pid ≡ []
    none-kept-before pid =
        subst (λ d. OneIf (is_kept_for (forker script) pids d pid) (IsItemWith name x.body (pids (node_in d)))
        (x.kept pid)) s.was (h.kept pid)

-- ---- whose deed it is

-- a name with a deed in a parcel in hand has its deed there, and no other item in hand has it
pub in-hand-is : (pids : ℕ → ℕ) (name : Name) (body : Body) (deed : DeedPlace) (parcel : Parcel) (more : List Held)
    → OneIf (is_hand_place deed) (IsItemWith name body (pids (node_in deed))) (Ending parcel ∷ more)
    → (c : ℕ) × (deed ≡ InHand c) × HasDeed name body (pids c) parcel × (more ≡ [])
in-hand-is pids name body (InHand c) parcel more one = (c, refl, has-it, no-more)
  where
    no-more : more ≡ []
    no-more = rest-same one.only
      where
        rest-same : {v : Held} → Ending parcel ∷ more ≡ v ∷ [] → more ≡ []
        rest-same e = cc

    parcel-same : (q : Parcel) (v : Held) → Ending parcel ∷ more ≡ v ∷ [] → v ≡ Ending q → parcel ≡ q
    parcel-same q v e g = cc

    has-it : HasDeed name body (pids c) parcel
    has-it =
        let item : IsItemWith name body (pids c) one.one = one.holds
        in subst (λ q. HasDeed name body (pids c) q) (sym (parcel-same item.parcel one.one one.only item.is)) item.has
in-hand-is pids name body deed parcel more none = absurd (none-is-not deed none)
  where
    none-is-not : (place : DeedPlace)
        → OneIf (is_hand_place place) (IsItemWith name body (pids (node_in place))) (Ending parcel ∷ more) → ⊥
    none-is-not place e = cc
