-- The leader sends the deed of a queue or set that it holds to a node that is born and stays. The node has it once it
-- has taken what is on its way there.
use Rattle.std.proofs.Common.{◌≡◌, ◌≢◌, ℕ, ◌≤◌, Bool, true, false, ◌&&◌, ◌||◌, not, cond, if◌then◌else◌, List, [], ◌∷◌, ◌++◌, filter, flat_map, nat_eq, Option, Some, None, is_some, is_none, refl, ap, sym, subst, ◌∙◌, inl, inr, arith, append-nil}
use Rattle.std.specs.List.{AllByRecursion}
use Rattle.std.proofs.lemmas.Bool.{cases_eq, eq-eqb, ne_eqb, false≢true}
use Rattle.pico_base.specs.declared.numbers.Name.{Name}
use Rattle.pico_base.specs.declared.numbers.Name.TheVariants.{Proc}
use Rattle.pico_base.specs.declared.script.Script.{Script}
use Rattle.rpc_frame.specs.declared.frame.Frame.{Frame}
use Rattle.rpc_frame.specs.declared.frame.Frame.TheVariants as frames
use Rattle.number_maps.specs.Maps.{get}
use Rattle.node_model.specs.declared.held.Held.{Held}
use Rattle.node_model.specs.Kinds.{is_object, is_same_name, kind_of, number_of, get_named, without_named}
use Rattle.node_model.specs.Directory.{Directory, Parting, Place, At, place_of, with_place, arrive, items_of, has_deed_of, is_parcel_with, maker, maker_in, stays}
use Rattle.node_model.specs.Spelling.{pack}
use Rattle.node_model.specs.Watches.{Watches}
use Rattle.world_model.specs.Node.{Node, Stage, Left}
use Rattle.world_model.specs.Step.{with_directory}
use Rattle.world_model.specs.Census.{brings}
use Rattle.world_model.specs.World.{World, node_count}
use Rattle.world_laws.specs.Places.{CallPlace, DeedPlace, Unmade, InTable, InGrant, Beside, deed_in}
use Rattle.world_laws.specs.Sights.{node_of, frames_to, directory_of, stage_of, is_born_in, is_born_stage}
use Rattle.world_laws.specs.Plays.{Hold, Has, Lacks, Done, PlayStep, Comes, Goes, AllGo, IsNeeded, play, play_on, plays, steps_of, steps_if, begin, has_any, is_checkpoint_of, is_has, is_there, believed, placed_in, news}
use Rattle.world_laws.specs.Names.{NameSight, name_sight, NameHolds, PlaysTo, OneIf, IsBringer, IsItemWith, held_as, held_at, comes_to, is_stream_of, is_kept_for, is_hand_place, node_in, belief_of, maker_tells, range_steps_of, forker, is_maker}
use Rattle.world_laws.specs.Ways.{WaySight, Way, way_sight, is_recall_all, here, tells, collected, over, gone}
use Rattle.world_laws.specs.Families.{NodeHolds}
use Rattle.world_laws.specs.Cancels.{Owing}
use Rattle.world_laws.specs.Invariant.{HoldsOwing}
use Rattle.world_laws.proofs.Named.{name-cases, same-name, other-name, get-without-same-name, get-without-other-name}
use Rattle.world_laws.proofs.Played.{play-append, play-none}
use Rattle.world_laws.proofs.Sends.{frame_if}
use Rattle.world_laws.proofs.Stays.{IsMore, SameName, name-stays}
use Rattle.world_laws.proofs.Changes.{Changes, sent, filter-is-list-map, flat_map-is-list-map, made-after, made-same, stayed}
use Rattle.world_laws.proofs.LeftAlone.{LeavesName, name-left-alone}
use Rattle.world_laws.proofs.NameFacts.{has_left, held-elsewhere, one-if-sent}
use Rattle.world_laws.proofs.Heads.{kept-of-sent}
use Rattle.rule_laws.proofs.Quiet.{IsQuiet, SameButPlaces, quiet-keeps, quiet-born}
use Rattle.rule_laws.proofs.Nodes.{leader-stage, node-with-directory, node-with-objects, object-is-no-process, processes-without}
use Rattle.rule_laws.proofs.Places.{directory-leaves, place-with-same, place-with-other, with-place-keeps}
use Rattle.rule_laws.proofs.Suggestions.{born-in-range}
use Rattle.route_laws.proofs.hand.Served.{IsAtLeader, at-leader}

-- ---- a play in which not all goes

abbrev is_all_go : PlayStep → Bool
is_all_go AllGo = true
is_all_go s = false

abbrev pub is_done : Hold → Bool
is_done Done = true
is_done hold = false

abbrev GoesOn : List PlayStep → Type 0
GoesOn ss = AllByRecursion (λ s. is_all_go s ≡ false) ss

goes-on-if : (t : Bool) (s : PlayStep) → is_all_go s ≡ false → GoesOn (steps_if t s)
goes-on-if true s h = (h, tt)
goes-on-if false s h = tt

goes-on-exit : (t : Bool) (ss : List PlayStep) → GoesOn ss → GoesOn (if t then Comes ∷ [] else ss)
goes-on-exit true ss h = (refl, tt)
goes-on-exit false ss h = h

frame-goes-on : (used : Bool) (call : ℕ → CallPlace) (name : Name) (f : Frame) → is_recall_all f ≡ false
    → GoesOn (steps_of used call name f)
frame-goes-on used call name (frames.Grant deed) h = goes-on-if (is_same_name name deed.name) Comes refl
frame-goes-on used call name (frames.Checkpoint pid parent deed vars) h = goes-on-if (is_same_name name deed.name)
    Comes refl
frame-goes-on used call name (frames.ExitTo parcel) h =
    goes-on-exit (has_deed_of name parcel) _ (goes-on-if (is_same_name name (Proc parcel.parent)) IsNeeded refl)
frame-goes-on used call name (frames.Recall other) h = goes-on-if (is_same_name name other) Goes refl
frame-goes-on used call name frames.RecallAll h = absurd (false≢true (sym h))
frame-goes-on used call name (frames.Forward asked) h = goes-on-if _ IsNeeded refl
frame-goes-on used call name (frames.Cancel asked) h = goes-on-if _ IsNeeded refl
frame-goes-on used call name frame h = tt

both-go-on : (xs ys : List PlayStep) → GoesOn xs → GoesOn ys → GoesOn (xs ++ ys)
both-go-on [] ys h g = g
both-go-on (x ∷ xs) ys h g = (h.0, both-go-on xs ys h.1 g)

not-empty : {A : Type 0} (x : A) (xs : List A) → x ∷ xs ≡ [] → ⊥
not-empty x xs h = cc

drops-first : (t : Bool) (f : Frame) (fs : List Frame) → cond t (f ∷ fs) fs ≡ [] → (t ≡ false) × (fs ≡ [])
drops-first true f fs h = absurd (not-empty f fs h)
drops-first false f fs h = (refl, h)

-- where no RecallAll is on its way not all goes
frames-go-on : (used : Bool) (call : ℕ → CallPlace) (name : Name) (fs : List Frame) → filter is_recall_all fs ≡ []
    → GoesOn (plays used call name fs)
frames-go-on used call name [] h = tt
frames-go-on used call name (f ∷ fs) h =
    let both = drops-first (is_recall_all f) f (filter is_recall_all fs) h
    in both-go-on (steps_of used call name f) (plays used call name fs) (frame-goes-on used call name f both.0)
    (frames-go-on used call name fs both.1)

some-hold : (a c : Hold) → Some a ≡ Some c → a ≡ c
some-hold a c h = cc

none-is-some : (a : Hold) → None ≡ Some a → ⊥
none-is-some a h = false≢true (ap is_some h)

stops : (ss : List PlayStep) (last : Hold) → play_on ss None ≡ Some last → is_done last ≡ false
stops ss last h = absurd (none-is-some last (sym (play-none ss) ∙ h))

plays-on : (ss : List PlayStep) (hold last : Hold) → GoesOn ss → is_done hold ≡ false → play hold ss ≡ Some last
    → is_done last ≡ false
plays-on [] hold last g d h = ap is_done (sym (some-hold hold last h)) ∙ d
plays-on (AllGo ∷ ss) hold last g d h = absurd (false≢true (sym g.0))
plays-on (s ∷ ss) Done last g d h = absurd (false≢true (sym d))
plays-on (Comes ∷ ss) Lacks last g d h = plays-on ss Has last g.1 refl h
plays-on (Comes ∷ ss) Has last g d h = stops ss last h
plays-on (Goes ∷ ss) Has last g d h = plays-on ss Lacks last g.1 refl h
plays-on (Goes ∷ ss) Lacks last g d h = stops ss last h
plays-on (IsNeeded ∷ ss) Has last g d h = plays-on ss Has last g.1 refl h
plays-on (IsNeeded ∷ ss) Lacks last g d h = stops ss last h

lacks-is : (hold : Hold) → is_has hold ≡ false → is_done hold ≡ false → hold ≡ Lacks
lacks-is Lacks h d = refl
lacks-is Has h d = absurd (false≢true (sym h))
lacks-is Done h d = absurd (false≢true (sym d))

-- ---- a node that stays

record IsThere (x : WaySight) : Type 0 where
  not_left : has_left x.stage ≡ false
  no_recall : x.recalls ≡ []

some-parting : (a : Parting) → Some a ≡ None → ⊥
some-parting a h = false≢true (sym (ap is_some h))

-- it hasn't left, and isn't asked for all
is-there-still : (script : Script) (pids : ℕ → ℕ) (c : ℕ) (knows : Bool) (x : WaySight) → Way script pids c knows x
    → x.parting ≡ None → IsThere x
is-there-still script pids c knows x (here h) none =
    record {
      not_left = elim h.stage [ inl e ↦ ap has_left e | inr e ↦ ap has_left e ];
      no_recall = h.shows.has_recalls;
    }
is-there-still script pids c knows x (tells h) none =
    record { not_left = ap has_left h.stage; no_recall = h.shows.has_recalls }
is-there-still script pids c knows x (collected h) none =
    absurd (some-parting _ (sym h.shows.has_parting ∙ none))
is-there-still script pids c knows x (over h) none = absurd (some-parting _ (sym h.shows.has_parting ∙ none))
is-there-still script pids c knows x (gone h) none = absurd (some-parting _ (sym h.shows.has_parting ∙ none))

begins-so : (stage : Stage) (holds comes : Bool) → has_left stage ≡ false → is_done (begin stage holds comes) ≡ false
begins-so stage holds comes h = by-stage stage h (holds || comes)
  where
    by-both : (t : Bool) → is_done (if t then Has else Lacks) ≡ false
    by-both true = refl
    by-both false = refl

    by-stage : (stage : Stage) → has_left stage ≡ false → (t : Bool) → is_done (begin stage holds comes) ≡ false
    by-stage Left h t = absurd (false≢true (sym h))
    by-stage s h t = by-both (holds || comes)

none-there : (o : Option Parting) → is_none o ≡ true → o ≡ None
none-there None h = refl
none-there (Some p) h = absurd (false≢true h)

-- ---- the name

-- its deed is on its way to a node
abbrev pub granted_sight : NameSight → ℕ → Frame → Hold → NameSight
granted_sight x to frame first =
    record x {
      place = Some (At to);
      deed = InGrant to;
      held = λ h. None;
      brought = λ h sender. cond (nat_eq h to && nat_eq sender 1) (frame ∷ []) [];
      begins = λ h. if nat_eq h 1 then first else x.begins h;
      steps = λ h. x.steps h ++ steps_if (nat_eq h to) Comes;
    }

no-place : (a : Place) → Some a ≡ None → ⊥
no-place a h = false≢true (sym (ap is_some h))

no-number : (a : ℕ) → None ≡ Some a → ⊥
no-number a h = false≢true (ap is_some h)

module _ (script : Script) (pids : ℕ → ℕ) (born : ℕ → Bool) (name : Name) (x : NameSight)
    (h : NameHolds script pids born name x) (to : ℕ) (low : 2 ≤ to) (object : is_object name ≡ true)
    (place : x.place ≡ Some (At 1)) (deed : x.deed ≡ InTable 1) (begins : is_done (x.begins to) ≡ false)
    (steps : GoesOn (x.steps to)) (first : Hold) where
  is-elsewhere : (y : ℕ) → 2 ≤ y → is_there y (belief_of x) ≡ false
  is-elsewhere y low_y =
      ap (λ o. is_there y (believed o (maker_tells x x.maker))) place ∙ ne_eqb 1 y (λ e. omega (arith, e, low_y))

  plays-to : PlaysTo (x.begins to) (x.steps to ++ Comes ∷ []) true
  plays-to =
      let old : PlaysTo (x.begins to) (x.steps to) (is_there to (belief_of x)) = h.plays to low
      in let lacks : old.last ≡ Lacks =
      lacks-is old.last (old.agrees ∙ is-elsewhere to low) (plays-on (x.steps to) (x.begins to) old.last steps begins
      old.plays)
      in record {
        last = Has;
        plays = play-append (x.steps to) (Comes ∷ []) (Some (x.begins to))
            ∙ ap (play_on (Comes ∷ [])) (old.plays ∙ ap Some lacks);
        agrees = refl;
      }

  plays-elsewhere : (y : ℕ) → 2 ≤ y → PlaysTo (x.begins y) (x.steps y ++ []) false
  plays-elsewhere y low_y =
      subst (λ t. PlaysTo (x.begins y) (x.steps y ++ []) t) (is-elsewhere y low_y)
      (subst (λ ss. PlaysTo (x.begins y) ss (is_there y (belief_of x))) (sym (append-nil (x.steps y)))
      (h.plays y low_y))

  plays-now : (y : ℕ) → 2 ≤ y → PlaysTo (x.begins y) (x.steps y ++ steps_if (nat_eq y to) Comes) (nat_eq to y)
  plays-now y low_y =
      elim (cases_eq y to) [
        | inl e ↦
            subst (λ t. PlaysTo (x.begins y) (x.steps y ++ steps_if t Comes) (nat_eq to y)) (sym (eq-eqb y to e))
            (subst (λ t. PlaysTo (x.begins y) (x.steps y ++ Comes ∷ []) t) (sym (eq-eqb to y (sym e)))
            (subst (λ z. PlaysTo (x.begins z) (x.steps z ++ Comes ∷ []) true) (sym e) plays-to))
        | inr d ↦
            subst (λ t. PlaysTo (x.begins y) (x.steps y ++ steps_if t Comes) (nat_eq to y)) (sym (ne_eqb y to d))
            (subst (λ t. PlaysTo (x.begins y) (x.steps y ++ []) t) (sym (ne_eqb to y (λ e. d (sym e))))
            (plays-elsewhere y low_y))
      ]

  plays-first : (y : ℕ) → 2 ≤ y → PlaysTo (if nat_eq y 1 then first else x.begins y)
      (x.steps y ++ steps_if (nat_eq y to) Comes) (nat_eq to y)
  plays-first y low_y =
      subst (λ t. PlaysTo (if t then first else x.begins y) (x.steps y ++ steps_if (nat_eq y to) Comes) (nat_eq to y))
      (sym (ne_eqb y 1 (λ e. omega (arith, e, low_y)))) (plays-now y low_y)

  used : x.used ≡ false → ⊥
  used unused = in-table (sym deed ∙ h.made.1 unused)
    where
      in-table : InTable 1 ≡ Unmade → ⊥
      in-table e = cc

  -- all holds of a name that the leader sends to a node that stays
  pub name-granted : NameHolds script pids born name
      (granted_sight x to (frames.Grant (pack name x.body)) first)
  name-granted =
      record {
        parts = h.parts;
        callers = h.callers;
        made = (λ e. absurd (not-unmade e), λ u. absurd (used u));
        place_fits = object;
        tables = λ q. refl;
        streams = λ h sender. one-if-sent (nat_eq h to && nat_eq sender 1)
            (IsBringer pids name x.body (InGrant to)) (frames.Grant (pack name x.body)) refl;
        kept = λ pid. subst (λ d. OneIf (is_kept_for (forker script) pids d pid)
            (IsItemWith name x.body (pids (node_in d))) (x.kept pid)) deed (h.kept pid);
        in_hand = subst (λ d. OneIf (is_hand_place d) (IsItemWith name x.body (pids (node_in d))) x.hand) deed
            h.in_hand;
        known = λ e. h.known (ap is_some place);
        believed = λ used. refl;
        plays = plays-first;
        leader = sym (ne_eqb to 1 (λ e. omega (arith, e, low)));
        told = h.told;
        found = λ q low_q. refl;
        unplaced = λ used e. absurd (no-place (At to) e);
        ranged = h.ranged;
        leased = h.leased;
        bound = λ y e. absurd (no-number y e);
        items = tt;
      }
    where
      not-unmade : InGrant to ≡ Unmade → ⊥
      not-unmade e = cc

-- ---- the move

module _ (script : Script) (w : World) (hand : List Held) {owes : Owing} (b : Beside)
    (holds : HoldsOwing script w hand owes b) (name : Name) (to : ℕ) (object : is_object name ≡ true)
    (born : is_born_in w to ≡ true) (other : to ≢ 1)
    (place : place_of (directory_of w) name ≡ Some (At 1)) (stays_there : stays (directory_of w) to ≡ true)
    (watches : Watches) (w' : World)
    (c : Changes script 1 w w'
    (with_directory (record (node_of w 1) {
      deeds = without_named (node_of w 1).deeds name;
      watches = watches;
    }) (arrive (directory_of w) name to)) [] ((to, frames.Grant (pack name (b.body name))) ∷ []) []) where
  abbrev x : NameSight
  x = name_sight script w hand b name

  abbrev d : Directory
  d = directory_of w

  abbrev n : Node
  n =
      with_directory (record (node_of w 1) {
        deeds = without_named (node_of w 1).deeds name;
        watches = watches;
      }) (arrive d name to)

  abbrev frame : Frame
  frame = frames.Grant (pack name (b.body name))

  abbrev sends : List (ℕ × Frame)
  sends = (to, frame) ∷ []

  abbrev deed_now : Name → DeedPlace
  deed_now = deed_in b.deed name (InGrant to)

  abbrev moved : Beside
  moved = record b { deed = deed_now }

  at : IsAtLeader w b name
  at = at-leader script w hand b name holds place

  low-high : (1 ≤ to) × (to ≤ node_count script)
  low-high = born-in-range script w holds.shape to born

  low-two : 2 ≤ to
  low-two = let low = low-high.0 in omega (arith, low, other)

  high-one : 1 ≤ node_count script
  high-one = let low = low-high.0 in let high = low-high.1 in omega (arith, low, high)

  node-was : NodeHolds script b.pids (is_born_in w) 1 (node_of w 1)
  node-was = holds.nodes 1 (omega arith) high-one

  stage-was : (is_born_stage (stage_of w 1) ≡ true) × (has_left (stage_of w 1) ≡ false)
  stage-was = leader-stage script b.pids (is_born_in w) 1 (node_of w 1) refl node-was

  directory-now : directory_of w' ≡ with_place d name (At to)
  directory-now = ap (λ (m : Node). m.leader.directory) c.here

  but-places : SameButPlaces d (directory_of w')
  but-places =
      subst (λ (y : Directory). SameButPlaces d y) (sym directory-now)
      (with-place-keeps d name (At to) holds.leading (sym (ap items_of place)))

  quiet : IsQuiet script w w' b deed_now 1 n [] sends
  quiet =
      record {
        caller = record { number = refl; pid = refl; stage = refl; caller = refl; leases = refl };
        queue_keys = refl;
        set_keys = refl;
        directory = but-places;
        node = node-with-directory script b.pids (is_born_in w) 1 _ (arrive d name to) refl
            (node-with-objects script b.pids (is_born_in w) 1 (node_of w 1)
            (without_named (node_of w 1).deeds name) watches stage-was.0 stage-was.1
            (processes-without (node_of w 1).deeds name object) node-was);
        deeds = λ pid. ap (λ t. if t then InGrant to else b.deed (Proc pid)) (object-is-no-process name pid object);
        plain_taken = tt;
        plain_sent = (refl, tt);
        no_birth_taken = tt;
        no_birth_sent = (refl, tt);
        no_lease_taken = λ kind. tt;
        no_lease_sent = λ kind. (refl, tt);
        of_no_call = λ y. tt;
        sent_of_no_call = λ y. (refl, tt);
        no_cancel_taken = λ y. tt;
        no_cancel_sent = λ y. (refl, tt);
        may_be_sent = ((refl, born), tt);
        to_others = (other, tt);
      }

  still : IsThere (way_sight w to)
  still =
      is-there-still script b.pids to _ (way_sight w to) (holds.ways to low-two low-high.1)
      (none-there (get d.partings to) stays_there)

  held-now : (q : ℕ) → None ≡ held_at w' name q
  held-now q =
      let known : NameHolds script b.pids (is_born_in w) name x = holds.names name
      in elim (cases_eq q 1) [
        | inl e ↦
            subst (λ y. None ≡ held_at w' name y) (sym e)
            (sym (ap (λ (m : Node). get_named m.deeds name) c.here
            ∙ get-without-same-name (node_of w 1).deeds name))
        | inr g ↦
            sym (ap (λ (m : Node). get_named m.deeds name) (c.others q g)
            ∙ known.tables q ∙ ap (λ y. held_as y x.body q) at.deed_is ∙ held-elsewhere 1 q x.body g)
      ]

  comes-now : (q : ℕ) → comes_to script w' name q ≡ comes_to script w name q
  comes-now q =
      ap (λ fs. not (nat_eq (forker script q) 1) && has_any fs)
      (made-same script 1 w w' n [] sends [] c (λ t s fs. filter (is_checkpoint_of name) fs)
      (λ t s. filter-is-list-map (is_checkpoint_of name)) tt (refl, tt) q (forker script q))

  abbrev first : Hold
  first = begin (stage_of w' 1) (is_some (held_at w' name 1)) (comes_to script w' name 1)

  begins-now : (q : ℕ) → (if nat_eq q 1 then first else x.begins q)
      ≡ begin (stage_of w' q) (is_some (held_at w' name q)) (comes_to script w' name q)
  begins-now q =
      elim (cases_eq q 1) [
        | inl e ↦
            ap (λ t. if t then first else x.begins q) (eq-eqb q 1 e)
            ∙ subst (λ y. first ≡ begin (stage_of w' y) (is_some (held_at w' name y)) (comes_to script w' name y))
            (sym e) refl
        | inr g ↦
            ap (λ t. if t then first else x.begins q) (ne_eqb q 1 g)
            ∙ ap (begin (stage_of w q) (is_some (held_at w name q))) (sym (comes-now q))
            ∙ sym (ap
            (λ (m : Node). begin m.stage (is_some (get_named m.deeds name)) (comes_to script w' name q))
            (c.others q g))
      ]

  comes-if : (t : Bool) → plays x.used b.call name (frame_if t frame ++ []) ≡ steps_if t Comes
  comes-if true = ap (λ u. steps_if u Comes ++ []) (same-name name name refl)
  comes-if false = refl

  steps-now : (y : ℕ) → x.steps y ++ steps_if (nat_eq y to) Comes ≡ plays x.used b.call name (frames_to w' y 1)
  steps-now y =
      sym (made-after script 1 w w' n [] sends [] c (λ t s fs. plays x.used b.call name fs)
      (λ t s. flat_map-is-list-map _) y 1
      ∙ ap (λ ss. ss ++ plays x.used b.call name (sent 1 sends y 1))
      (stayed script 1 w w' n [] sends [] c (λ t s fs. plays x.used b.call name fs) (λ t s. flat_map-is-list-map _) tt
      y 1)
      ∙ ap (λ ss. x.steps y ++ ss) (comes-if (nat_eq y to)))

  brought-before : (h sender : ℕ) → x.brought h sender ≡ []
  brought-before h sender =
      let known : NameHolds script b.pids (is_born_in w) name x = holds.names name
      in subst (λ y. OneIf (is_stream_of (forker script) y h sender) (IsBringer b.pids name x.body y)
      (x.brought h sender)) at.deed_is (known.streams h sender)

  brought-now : (h sender : ℕ) → cond (nat_eq h to && nat_eq sender 1) (frame ∷ []) []
      ≡ filter (brings name) (frames_to w' h sender)
  brought-now h sender =
      sym (made-after script 1 w w' n [] sends [] c (λ t s fs. filter (brings name) fs)
      (λ t s. filter-is-list-map (brings name)) h sender
      ∙ ap (λ fs. fs ++ filter (brings name) (sent 1 sends h sender))
      (stayed script 1 w w' n [] sends [] c (λ t s fs. filter (brings name) fs)
      (λ t s. filter-is-list-map (brings name)) tt h sender
      ∙ brought-before h sender)
      ∙ kept-of-sent (brings name) frame (same-name name name refl) (nat_eq h to) (nat_eq sender 1))

  sight-now : SameName (granted_sight x to frame first) (name_sight script w' hand moved name)
  sight-now =
      let same = but-places
      in record {
        place = sym (ap (λ y. place_of y name) directory-now ∙ place-with-same d name (At to));
        maker = ap (λ ranges. maker_in ranges (number_of name)) (sym (same.ranges_are (kind_of name)));
        stays = λ y. ap is_none (sym (same.partings_are y));
        used = refl;
        part = refl;
        body = refl;
        deed = sym (ap (λ t. if t then InGrant to else b.deed name) (same-name name name refl));
        held = held-now;
        brought = brought-now;
        kept = λ pid. ap (filter (is_parcel_with name)) (sym (same.held_is (Proc pid)));
        hand = refl;
        begins = begins-now;
        steps = steps-now;
        ranges = λ y. sym (made-same script 1 w w' n [] sends [] c
            (λ t s fs. flat_map (range_steps_of x.used b.call name) fs) (λ t s. flat_map-is-list-map _) tt (refl, tt) y
            1);
        placed = λ y. sym (made-same script 1 w w' n [] sends [] c (λ t s fs. placed_in name fs)
            (λ t s. flat_map-is-list-map _) tt (refl, tt) 1 y);
        news = λ y. ap (λ ranges. news name (x.used && is_maker (maker_in ranges (number_of name)) y)
            (frames_to w 1 y)) (sym (same.ranges_are (kind_of name)))
            ∙ sym (made-same script 1 w w' n [] sends [] c
            (λ t s fs. news name (x.used && is_maker (maker (directory_of w') name) s) fs)
            (λ t s. flat_map-is-list-map _) tt (refl, tt) 1 y);
      }

  others : (m : Name) → m ≢ name → LeavesName w w' hand hand b moved 1 n c.left m
  others m e =
      record {
        directory = directory-leaves d (directory_of w') m but-places
            (ap (λ y. place_of y m) directory-now ∙ place-with-other d name (At to) m e);
        used_is = refl;
        part_is = refl;
        body_is = refl;
        deed_is = ap (λ t. if t then InGrant to else b.deed m) (other-name name m (λ g. e (sym g)));
        held_is = get-without-other-name (node_of w 1).deeds name m e;
        begins_is = λ holds_it comes. refl;
        hand_is = refl;
        steps_are = λ used y. refl;
        ranges_are = λ used y. refl;
      }

  more : IsMore (is_born_in w) (is_born_in w')
  more = quiet-born script w w' hand owes b deed_now 1 n [] sends (omega arith) high-one holds c quiet

  names : (m : Name) → NameHolds script b.pids (is_born_in w') m (name_sight script w' hand moved m)
  names m =
      elim (name-cases m name) [
        | inl e ↦
            subst (λ y. NameHolds script b.pids (is_born_in w') y (name_sight script w' hand moved y)) (sym e)
            (name-stays script b.pids (is_born_in w) (is_born_in w') name _ _ more sight-now
            (name-granted script b.pids (is_born_in w) name x (holds.names name) to low-two object place at.deed_is
            (begins-so (stage_of w to) (is_some (held_at w name to)) (comes_to script w name to) still.not_left)
            (frames-go-on x.used b.call name (frames_to w to 1) still.no_recall) first))
        | inr g ↦
            name-stays script b.pids (is_born_in w) (is_born_in w') m _ _ more
            (name-left-alone script 1 w w' n [] sends [] c hand hand b moved m (others m g) tt
            (other-name m name g, tt)) (holds.names m)
      ]

  -- The deed is on its way to the node, which the leader believes to have it.
  pub grant-sent-keeps : HoldsOwing script w' hand owes moved
  grant-sent-keeps =
      quiet-keeps script w w' hand owes b deed_now 1 n [] sends (omega arith) high-one holds c quiet names
