-- What holds of a name: once it is new; while its number is made ready; and where one more node's process has a
-- number.
use Rattle.std.proofs.Common.{◌≡◌, ◌≢◌, ◌⊎◌, ℕ, ◌≤◌, Bool, true, false, List, [], nat_eq, Contains, Option, Some, None, is_some, refl, ap, sym, subst, ◌∙◌, inl, inr}
use Rattle.std.specs.List.{AllByRecursion}
use Rattle.std.proofs.lemmas.Bool.{cases_eq, eq-eqb, ne_eqb, false≢true}
use Rattle.pico_base.specs.declared.numbers.Name.{Name}
use Rattle.pico_base.specs.declared.script.Script.{Script}
use Rattle.rpc_frame.specs.declared.frame.Frame.{Frame}
use Rattle.node_model.specs.Directory.{destination_of, items_of}
use Rattle.node_model.specs.Kinds.{is_object}
use Rattle.world_laws.specs.Places.{DeedPlace, InCheckpoint, InExitTo, InGiveBack, InGrant, InHand, InKept, InLeft, InTable, Unmade}
use Rattle.world_laws.specs.Plays.{Nowhere, Somewhere, believed, finds_place, is_there, told}
use Rattle.world_laws.specs.Names.{HasMakerThatStays, IsBringer, IsExitOf, IsItemFor, IsItemWith, IsLeftOf, IsTold, NameHolds, NameSight, OneIf, PlaysTo, RangeStep, SaysOf, IsSentThere, belief_of, forker, held_as, is_hand_place, is_kept_for, is_nowhere, is_stream_of, leases_first, maker_tells, may_be_at, node_in}
use Rattle.rule_laws.proofs.own.Rebodied.{IsBodyOf}
use Rattle.rule_laws.proofs.own.NewNames.{is-unplaced, nobody-in}

-- ---- a name that nothing has

module _ (script : Script) (pids : ℕ → ℕ) (born : ℕ → Bool) (name : Name) (x : NameSight)
    (h : NameHolds script pids born name x) (unused : x.used ≡ false) where
  -- it isn't known
  pub nothing-known : x.place ≡ None
  nothing-known = is-unplaced x.place (λ e. false≢true (sym unused ∙ h.known e))

  -- nobody tells its place
  pub nothing-told : (q : ℕ) → x.placed q ≡ []
  nothing-told q = nobody-in (x.placed q) (λ v there. false≢true (sym unused ∙ (h.told q v there).used))

  -- so it is believed nowhere
  pub believed-nowhere : belief_of x ≡ Nowhere
  believed-nowhere =
      ap (λ o. believed o (maker_tells x x.maker)) nothing-known
      ∙ ap told (none-by x.maker)
    where
      none-by : (o : Option ℕ) → maker_tells x o ≡ []
      none-by None = refl
      none-by (Some q) = nothing-told q

  -- and no node has it once all that is on its way has come
  pub plays-without : (q : ℕ) → 2 ≤ q → PlaysTo (x.begins q) (x.steps q) false
  plays-without q low =
      subst (λ c. PlaysTo (x.begins q) (x.steps q) (is_there q c)) believed-nowhere (h.plays q low)

  -- its deed is nowhere
  pub deed-nowhere : x.deed ≡ Unmade
  deed-nowhere = h.made.1 unused

  -- so no node holds it
  pub held-nowhere : (q : ℕ) → x.held q ≡ None
  held-nowhere q = h.tables q ∙ ap (λ (d : DeedPlace). held_as d x.body q) deed-nowhere

  -- and nothing brings it
  pub brought-nowhere : (to sender : ℕ) → x.brought to sender ≡ []
  brought-nowhere to sender =
      subst (λ (d : DeedPlace). OneIf (is_stream_of (forker script) d to sender)
      (IsBringer pids name x.body d) (x.brought to sender)) deed-nowhere (h.streams to sender)

  -- nor is it held
  pub kept-nowhere : (pid : ℕ) → x.kept pid ≡ []
  kept-nowhere pid =
      subst (λ (d : DeedPlace). OneIf (is_kept_for (forker script) pids d pid)
      (IsItemWith name x.body (pids (node_in d))) (x.kept pid)) deed-nowhere (h.kept pid)

  -- nor in hand
  pub hand-nowhere : x.hand ≡ []
  hand-nowhere =
      subst (λ (d : DeedPlace). OneIf (is_hand_place d) (IsItemWith name x.body (pids (node_in d))) x.hand)
      deed-nowhere h.in_hand

-- ---- a new name

-- Where its deed is, with nothing kept; who believes it where; and that the play of each node ends so.
pub record IsNew (script : Script) (pids : ℕ → ℕ) (name : Name) (x y : NameSight) (at : ℕ) : Type 0 where
  pub is_body : IsBodyOf script y.part y.body
  pub used : y.used ≡ true
  pub made : y.deed ≡ Unmade → ⊥
  pub place_fits : may_be_at (is_object name) y.deed ≡ true
  pub tables : (q : ℕ) → y.held q ≡ held_as y.deed y.body q
  pub streams : (to sender : ℕ)
      → OneIf (is_stream_of (forker script) y.deed to sender) (IsBringer pids name y.body y.deed) (y.brought to sender)
  pub not_kept : (pid : ℕ) → is_kept_for (forker script) pids y.deed pid ≡ false
  pub not_in_hand : is_hand_place y.deed ≡ false
  pub kept : (pid : ℕ) → y.kept pid ≡ x.kept pid
  pub hand : y.hand ≡ x.hand
  -- what is believed
  pub belief : belief_of y ≡ Somewhere at
  pub leader : is_some (y.held 1) ≡ nat_eq at 1
  pub there : 2 ≤ at → PlaysTo (y.begins at) (y.steps at) true
  pub begins : (q : ℕ) → q ≢ at → y.begins q ≡ x.begins q
  pub steps : (q : ℕ) → q ≢ at → y.steps q ≡ x.steps q
  pub told : (sender node : ℕ) → Contains (y.placed sender) node → IsTold pids name y.used y.maker sender node
  pub found : (q : ℕ) → 2 ≤ q → finds_place (is_some y.place) (y.news q) ≡ true
  pub unplaced : y.place ≡ None → HasMakerThatStays y.maker y.stays
  -- of its number
  pub ranged : (q : ℕ) → Contains (y.ranges q) IsSentThere → y.maker ≡ Some q
  pub leased : (q : ℕ) → 2 ≤ q → leases_first (y.ranges q) ≡ true
  pub bound : destination_of y.place ≡ None
  pub items : items_of y.place ≡ []

none-is-some : {A : Type 0} (a : A) → None ≡ Some a → ⊥
none-is-some a h = cc

-- all holds of it
pub name-new : (script : Script) (pids now : ℕ → ℕ) (born more : ℕ → Bool) (name : Name) (x y : NameSight) (at : ℕ)
    → NameHolds script pids born name x → x.used ≡ false → IsNew script now name x y at
    → NameHolds script now more name y
name-new script pids now born more name x y at h unused v =
    record {
      parts = v.is_body.parts;
      callers = v.is_body.callers;
      made = (λ e. absurd (v.made e), λ u. absurd (false≢true (sym u ∙ v.used)));
      place_fits = v.place_fits;
      tables = v.tables;
      streams = v.streams;
      kept = λ pid. subst (λ t. OneIf t (IsItemWith name y.body (now (node_in y.deed))) (y.kept pid))
          (sym (v.not_kept pid)) (v.kept pid ∙ kept-nowhere script pids born name x h unused pid);
      in_hand = subst (λ t. OneIf t (IsItemWith name y.body (now (node_in y.deed))) y.hand)
          (sym v.not_in_hand) (v.hand ∙ hand-nowhere script pids born name x h unused);
      known = λ e. v.used;
      believed = λ u. ap is_nowhere v.belief;
      plays = λ q low. plays-now q low (cases_eq q at);
      leader = v.leader ∙ sym (ap (is_there 1) v.belief);
      told = v.told;
      found = v.found;
      unplaced = λ u e. v.unplaced e;
      ranged = v.ranged;
      leased = v.leased;
      bound = λ to e. absurd (none-is-some to (sym v.bound ∙ e));
      items = subst (λ items. AllByRecursion (IsItemFor name) items) (sym v.items) tt;
    }
  where
    plays-now : (q : ℕ) → 2 ≤ q → (q ≡ at) ⊎ (q ≢ at) → PlaysTo (y.begins q) (y.steps q) (is_there q (belief_of y))
    plays-now q low (inl e) =
        subst (λ r. PlaysTo (y.begins r) (y.steps r) (is_there r (belief_of y))) (sym e)
        (subst (λ t. PlaysTo (y.begins at) (y.steps at) t)
        (sym (ap (is_there at) v.belief ∙ eq-eqb at at refl)) (v.there (subst (λ r. 2 ≤ r) e low)))
    plays-now q low (inr d) =
        subst (λ c. PlaysTo c (y.steps q) (is_there q (belief_of y))) (sym (v.begins q d))
        (subst (λ ss. PlaysTo (x.begins q) ss (is_there q (belief_of y))) (sym (v.steps q d))
        (subst (λ t. PlaysTo (x.begins q) (x.steps q) t)
        (sym (ap (is_there q) v.belief ∙ ne_eqb at q (λ e. d (sym e))))
        (plays-without script pids born name x h unused q low)))

-- ---- a name whose number is made ready

-- its maker is the same, or it had none, and nothing has its number; and fewer leases are on their way
pub name-ready : (script : Script) (pids : ℕ → ℕ) (born : ℕ → Bool) (name : Name) (x : NameSight) (maker : Option ℕ)
    (ranges : ℕ → List RangeStep)
    → (x.maker ≡ maker) ⊎ ((x.used ≡ false) × (x.maker ≡ None))
    → ((q : ℕ) → Contains (ranges q) IsSentThere → Contains (x.ranges q) IsSentThere)
    → ((q : ℕ) → leases_first (x.ranges q) ≡ true → leases_first (ranges q) ≡ true)
    → NameHolds script pids born name x
    → NameHolds script pids born name (record x { maker = maker; ranges = ranges })
name-ready script pids born name x maker ranges (inl same) fewer first h =
    subst (λ o. NameHolds script pids born name (record x { maker = o; ranges = ranges })) same
    (record {
      parts = h.parts;
      callers = h.callers;
      made = h.made;
      place_fits = h.place_fits;
      tables = h.tables;
      streams = h.streams;
      kept = h.kept;
      in_hand = h.in_hand;
      known = h.known;
      believed = h.believed;
      plays = h.plays;
      leader = h.leader;
      told = h.told;
      found = h.found;
      unplaced = h.unplaced;
      ranged = λ q there. h.ranged q (fewer q there);
      leased = λ q low. first q (h.leased q low);
      bound = h.bound;
      items = h.items;
    })
name-ready script pids born name x maker ranges (inr new) fewer first h =
    record {
      parts = h.parts;
      callers = h.callers;
      made = h.made;
      place_fits = h.place_fits;
      tables = h.tables;
      streams = h.streams;
      kept = h.kept;
      in_hand = h.in_hand;
      known = h.known;
      believed = λ used. absurd (false≢true (sym new.0 ∙ used));
      plays = λ q low. subst (λ c. PlaysTo (x.begins q) (x.steps q) (is_there q c)) belief-same (h.plays q low);
      leader = h.leader ∙ ap (is_there 1) belief-same;
      told = λ sender node there. absurd (false≢true (sym new.0 ∙ (h.told sender node there).used));
      found = h.found;
      unplaced = λ used e. absurd (false≢true (sym new.0 ∙ used));
      ranged = λ q there. absurd (none-is-some q (sym new.1 ∙ h.ranged q (fewer q there)));
      leased = λ q low. first q (h.leased q low);
      bound = h.bound;
      items = h.items;
    }
  where
    none-by : (o : Option ℕ) → maker_tells x o ≡ []
    none-by None = refl
    none-by (Some q) = nothing-told script pids born name x h new.0 q

    belief-same : belief_of x ≡ belief_of (record x { maker = maker; ranges = ranges })
    belief-same = ap (believed x.place) (none-by x.maker ∙ sym (none-by maker))

-- ---- one more node's process has a number

-- whose parcel a deed is in
abbrev pub parcel_of : DeedPlace → Option ℕ
parcel_of (InLeft c) = Some c
parcel_of (InKept c) = Some c
parcel_of (InHand c) = Some c
parcel_of (InExitTo c x) = Some c
parcel_of place = None

-- numbers that are there stay
pub record AreMore (script : Script) (pids now : ℕ → ℕ) (name : Name) (x : NameSight) : Type 0 where
  pub told : (sender node : ℕ) → Contains (x.placed sender) node → SaysOf pids name sender node
      → SaysOf now name sender node
  pub own : (c : ℕ) → parcel_of x.deed ≡ Some c → now c ≡ pids c
  pub parent : (c : ℕ) → parcel_of x.deed ≡ Some c → now (forker script c) ≡ pids (forker script c)

module _ (script : Script) (pids now : ℕ → ℕ) (born : ℕ → Bool) (name : Name) (x : NameSight)
    (h : NameHolds script pids born name x) (m : AreMore script pids now name x) where
  bringer-still : (place : DeedPlace) → ((c : ℕ) → parcel_of place ≡ Some c → now c ≡ pids c) → (frame : Frame)
      → IsBringer pids name x.body place frame → IsBringer now name x.body place frame
  bringer-still Unmade own frame b = b
  bringer-still (InTable node) own frame b = b
  bringer-still (InCheckpoint to) own frame b = b
  bringer-still (InGrant to) own frame b = b
  bringer-still (InGiveBack sender) own frame b = b
  bringer-still (InLeft c) own frame b = subst (λ pid. IsLeftOf name x.body pid frame) (sym (own c refl)) b
  bringer-still (InKept c) own frame b = b
  bringer-still (InHand c) own frame b = b
  bringer-still (InExitTo c to) own frame b = subst (λ pid. IsExitOf name x.body pid frame) (sym (own c refl)) b

  one-still : {A : Type 0} (t : Bool) (P Q : A → Type 0) (xs : List A) → ((a : A) → P a → Q a) → OneIf t P xs
      → OneIf t Q xs
  one-still true P Q xs g o = record { one = o.one; only = o.only; holds = g o.one o.holds }
  one-still false P Q xs g o = o

  kept-still : (place : DeedPlace) → x.deed ≡ place → (pid : ℕ)
      → OneIf (is_kept_for (forker script) pids place pid) (IsItemWith name x.body (pids (node_in place))) (x.kept pid)
      → OneIf (is_kept_for (forker script) now place pid) (IsItemWith name x.body (now (node_in place))) (x.kept pid)
  kept-still (InKept c) is pid o =
      subst (λ parent. OneIf (nat_eq parent pid) (IsItemWith name x.body (now c)) (x.kept pid))
      (sym (m.parent c (ap parcel_of is)))
      (subst (λ own. OneIf (nat_eq (pids (forker script c)) pid) (IsItemWith name x.body own) (x.kept pid))
      (sym (m.own c (ap parcel_of is))) o)
  kept-still Unmade is pid o = o
  kept-still (InTable node) is pid o = o
  kept-still (InCheckpoint to) is pid o = o
  kept-still (InGrant to) is pid o = o
  kept-still (InGiveBack sender) is pid o = o
  kept-still (InLeft c) is pid o = o
  kept-still (InHand c) is pid o = o
  kept-still (InExitTo c to) is pid o = o

  hand-still : (place : DeedPlace) → x.deed ≡ place
      → OneIf (is_hand_place place) (IsItemWith name x.body (pids (node_in place))) x.hand
      → OneIf (is_hand_place place) (IsItemWith name x.body (now (node_in place))) x.hand
  hand-still (InHand c) is o = subst (λ own. OneIf true (IsItemWith name x.body own) x.hand)
      (sym (m.own c (ap parcel_of is))) o
  hand-still Unmade is o = o
  hand-still (InTable node) is o = o
  hand-still (InCheckpoint to) is o = o
  hand-still (InGrant to) is o = o
  hand-still (InGiveBack sender) is o = o
  hand-still (InLeft c) is o = o
  hand-still (InKept c) is o = o
  hand-still (InExitTo c to) is o = o

  -- a name keeps all that holds of it
  pub name-with-more : NameHolds script now born name x
  name-with-more =
      record {
        parts = h.parts;
        callers = h.callers;
        made = h.made;
        place_fits = h.place_fits;
        tables = h.tables;
        streams = λ to sender. one-still (is_stream_of (forker script) x.deed to sender) _ _ (x.brought to sender)
            (bringer-still x.deed m.own) (h.streams to sender);
        kept = λ pid. kept-still x.deed refl pid (h.kept pid);
        in_hand = hand-still x.deed refl h.in_hand;
        known = h.known;
        believed = h.believed;
        plays = h.plays;
        leader = h.leader;
        told = λ sender node there.
            let old : IsTold pids name x.used x.maker sender node = h.told sender node there
            in record {
              used = old.used;
              maker = old.maker;
              says = m.told sender node there old.says;
              other = old.other;
            };
        found = h.found;
        unplaced = h.unplaced;
        ranged = h.ranged;
        leased = h.leased;
        bound = h.bound;
        items = h.items;
      }
