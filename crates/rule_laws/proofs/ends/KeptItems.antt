-- The leader holds a parcel in its hand for the parent, whose deed is awaited.
use Rattle.std.proofs.Common.{◌≡◌, ◌≢◌, ℕ, ◌≤◌, Bool, true, false, ◌&&◌, not, cond, if◌then◌else◌, List, [], ◌∷◌, ◌++◌, filter, flat_map, nat_eq, Option, Some, is_none, is_some, Contains, refl, ap, sym, subst, ◌∙◌, inl, inr, append-nil}
use Rattle.std.specs.List.{list_any}
use Rattle.std.proofs.lemmas.Bool.{cases_eq, eq-eqb, ne_eqb, false≢true}
use Rattle.std.proofs.lemmas.List.Elements.{filter-append, Contains-append_left, Contains-append_right, Contains-push, Contains-push_cases}
use Rattle.pico_base.specs.declared.numbers.Name.{Name}
use Rattle.pico_base.specs.declared.numbers.Name.TheVariants.{Proc}
use Rattle.pico_base.specs.declared.script.Script.{Script}
use Rattle.rpc_frame.specs.declared.deed.Parcel.{Parcel}
use Rattle.entry_laws.specs.Entering.{is_used_name}
use Rattle.node_model.specs.declared.held.Held.{Held}
use Rattle.node_model.specs.declared.held.Held.TheVariants.{Ending}
use Rattle.node_model.specs.Kinds.{kind_of, is_same_name, get_named, for_kind}
use Rattle.node_model.specs.Directory.{Directory, Coming, place_of, with_place, hold, hold_at, has_deed_of, is_parcel_with, held_for, items_of, maker, stays, is_known}
use Rattle.number_maps.specs.Maps.{get}
use Rattle.pico_base.specs.declared.call.Call.{Call}
use Rattle.world_model.specs.Node.{Node, Stage}
use Rattle.world_model.specs.Step.{with_directory}
use Rattle.world_model.specs.World.{World, node_count, is_checkpoint}
use Rattle.kernel_model.specs.Kernel.{Process}
use Rattle.kernel_model.specs.Kernel as kernel
use Rattle.pico_base.specs.declared.numbers.Kind.{Kind}
use Rattle.rpc_frame.specs.declared.frame.Frame.TheVariants as frames
use Rattle.number_maps.proofs.Rising.{rising-put}
use Rattle.world_laws.specs.Callers.{call_sight}
use Rattle.world_laws.specs.Families.{NodeHolds, FamilyHolds, IsWhereFor, IsWithParent, CheckpointIn, IsNewAt, IsAwaited, checkpoints_to}
use Rattle.world_laws.proofs.LeftAlone.{LeavesCall, call-left-alone, way-left-alone, was-there, sender-stays, kind-left-alone, other-node-stays, frames-still-fit, few-still}
use Rattle.rule_laws.proofs.CallMoves.{call-items-same}
use Rattle.rule_laws.proofs.Nodes.{node-with-directory}
use Rattle.world_laws.specs.Places.{DeedPlace, Unmade, InHand, InKept, Beside}
use Rattle.world_laws.specs.Sights.{node_of, frames_to, directory_of, stage_of, is_born_in}
use Rattle.world_laws.specs.Names.{NameSight, name_sight, NameHolds, HasDeed, OneIf, OnlyOne, IsItemWith, is_hand_place, node_in, comes_to, held_at, forker, is_maker, range_steps_of}
use Rattle.world_laws.specs.Plays.{plays, begin, is_checkpoint_of, has_any, placed_in, news}
use Rattle.world_model.specs.Census.{brings}
use Rattle.rpc_frame.specs.declared.frame.Frame.{Frame}
use Rattle.world_laws.proofs.Stays.{IsMore, SameName, name-stays, node-born, call-stays, way-stays, kind-stays}
use Rattle.world_laws.specs.Ways.{way_sight, knows_parent, left as left_in, sent as sent_in, kept as kept_in, IsParcelOf, IsParcelIn, at_hand, under_way_of, HasSender}
use Rattle.world_laws.specs.Invariant.{HoldsOwing, IsLeading, process_deed}
use Rattle.world_laws.specs.Cancels.{Owing}
use Rattle.world_laws.proofs.Cancels.{is_item_of}
use Rattle.rule_laws.proofs.ends.Given.{packed-has}
use Rattle.rule_laws.proofs.ends.Taken.{DropsFirst, drops-first}
use Rattle.world_laws.specs.Ranges.{kind_sight, KeysHold}
use Rattle.world_laws.proofs.Numbers.{zero-is-unused}
use Rattle.world_laws.proofs.Named.{name-cases}
use Rattle.world_laws.proofs.Changes.{Changes, IsListMap, filter-is-list-map, flat_map-is-list-map, made-same, still-born, read-same}
use Rattle.rule_laws.proofs.Places.{place-with-same, place-with-other}
use Rattle.rule_laws.proofs.ends.Unmoved.{LeavesItems, cancel-unmoved, whole-unmoved}
use Rattle.rule_laws.proofs.ends.Keeping.{name-with-item, IsKeptNow, name-kept, in-hand-is}

-- ---- lists

cond-first : {A : Type 0} (t : Bool) (x v : A) (xs : List A) → t ≡ true → cond t (x ∷ xs) xs ≡ v ∷ [] → x ≡ v
cond-first true x v xs h e = cc
cond-first false x v xs h e = absurd (false≢true h)

cond-later : {A : Type 0} (t : Bool) (x v : A) (xs : List A) → t ≡ false → cond t (x ∷ xs) xs ≡ v ∷ [] → xs ≡ v ∷ []
cond-later true x v xs h e = absurd (false≢true (sym h))
cond-later false x v xs h e = e

-- what a filter keeps alone is in the list
pub kept-is-there : {A : Type 0} (test : A → Bool) (xs : List A) (v : A) → filter test xs ≡ v ∷ [] → Contains xs v
kept-is-there test [] v e = absurd (cc)
kept-is-there test (x ∷ xs) v e = by-test (kept-is-there test xs v) (test x) refl
  where
    by-test : (filter test xs ≡ v ∷ [] → Contains xs v) → (t : Bool) → test x ≡ t → Contains (x ∷ xs) v
    by-test later true g =
        subst (λ y. Contains (x ∷ xs) y) (cond-first (test x) x v (filter test xs) g e)
        (Contains-append_left (x ∷ []) xs x (Contains-push [] x))
    by-test later false g =
        Contains-append_right (x ∷ []) xs v (later (cond-later (test x) x v (filter test xs) g e))

-- and what passes another test isn't left out by that
pub not-left-out : {A : Type 0} (test other : A → Bool) (xs : List A) (v : A) → filter test xs ≡ v ∷ []
    → other v ≡ true → filter other xs ≡ [] → ⊥
not-left-out test other [] v e passes none = absurd (cc)
not-left-out test other (x ∷ xs) v e passes none =
    let drops : DropsFirst other x xs = drops-first other x xs none
    in by-test (λ g. not-left-out test other xs v g passes drops.rest) drops.first (test x) refl
  where
    by-test : (filter test xs ≡ v ∷ [] → ⊥) → other x ≡ false → (t : Bool) → test x ≡ t → ⊥
    by-test later dropped true g =
        false≢true (sym dropped ∙ ap other (cond-first (test x) x v (filter test xs) g e) ∙ passes)
    by-test later dropped false g = later (cond-later (test x) x v (filter test xs) g e)

-- ---- the deeds in hand

-- a parcel has its own process's deed
pub has-its-own : (script : Script) (pids : ℕ → ℕ) (stages : ℕ → Stage) (under_way : ℕ → Option Call) (parcel : Parcel)
    → (s : HasSender script pids stages under_way parcel) → has_deed_of (Proc parcel.pid) parcel ≡ true
has-its-own script pids stages under_way parcel s =
    let is : IsParcelOf script pids s.node s.call parcel = s.is_of
    in ap (λ ds. list_any (λ deed. is_same_name (Proc parcel.pid) deed.name) ds) is.packed
    ∙ packed-has parcel.pid is.bodies
    ∙ ap is_some (ap (get is.bodies) is.pid ∙ is.own)

module _ (script : Script) (w : World) (items : List Held) (parcel : Parcel) {owes : Owing} (b : Beside)
    (holds : HoldsOwing script w (Ending parcel ∷ items) owes b) where
  abbrev hand : List Held
  hand = Ending parcel ∷ items

  abbrev sight : Name → NameSight
  sight name = name_sight script w hand b name

  sender-of : (q : Parcel) → Contains hand (Ending q) → HasSender script b.pids (stage_of w) (under_way_of w) q
  sender-of q there = holds.parcels q (at_hand there)

  first-there : Contains hand (Ending parcel)
  first-there = Contains-append_left (Ending parcel ∷ []) items (Ending parcel) (Contains-push [] (Ending parcel))

  -- a name with a deed in the first parcel: its deed is in hand, and in no other item
  pub first-has : (name : Name) → has_deed_of name parcel ≡ true
      → (c : ℕ) × (b.deed name ≡ InHand c) × HasDeed name (sight name).body (b.pids c) parcel
      × (filter (is_parcel_with name) items ≡ [])
  first-has name e =
      let known : NameHolds script b.pids (is_born_in w) name (sight name) = holds.names name
      in in-hand-is b.pids name (sight name).body (b.deed name) parcel (filter (is_parcel_with name) items)
      (subst
      (λ xs. OneIf (is_hand_place (b.deed name)) (IsItemWith name (sight name).body (b.pids (node_in
      (b.deed name)))) xs)
      (ap (λ t. cond t (Ending parcel ∷ filter (is_parcel_with name) items) (filter (is_parcel_with name) items)) e)
      known.in_hand)

  -- no two parcels in hand are of one process
  pub one-of-each : (test : Held → Bool) (q : Parcel) → filter test items ≡ Ending q ∷ [] → q.pid ≡ parcel.pid → ⊥
  one-of-each test q only same =
      let own = first-has (Proc parcel.pid) (has-its-own script b.pids (stage_of w) (under_way_of w) parcel
      (sender-of parcel first-there))
      in not-left-out test (is_parcel_with (Proc parcel.pid)) items (Ending q) only
      (subst (λ pid. has_deed_of (Proc pid) q ≡ true) same
      (has-its-own script b.pids (stage_of w) (under_way_of w) q
      (sender-of q (Contains-append_right (Ending parcel ∷ []) items (Ending q)
      (kept-is-there test items (Ending q) only)))))
      own.3

  -- so what is said to be in the hand in its node's parcel is in it
  pub first-has-all : (name : Name) (c : ℕ) → b.deed name ≡ InHand c → parcel.pid ≡ b.pids c
      → has_deed_of name parcel ≡ true
  first-has-all name c deed pid = by-test (has_deed_of name parcel) refl
    where
      known : NameHolds script b.pids (is_born_in w) name (sight name)
      known = holds.names name

      only-one : OnlyOne (IsItemWith name (sight name).body (b.pids c)) (sight name).hand
      only-one =
          subst (λ z. OneIf (is_hand_place z) (IsItemWith name (sight name).body (b.pids (node_in z)))
          (sight name).hand)
          deed known.in_hand

      not-there : has_deed_of name parcel ≡ false → IsItemWith name (sight name).body (b.pids c) only-one.one → ⊥
      not-there g is =
          one-of-each (is_parcel_with name) is.parcel
          (sym (ap (λ t. cond t (Ending parcel ∷ filter (is_parcel_with name) items)
          (filter (is_parcel_with name) items)) g)
          ∙ only-one.only ∙ ap (λ v. v ∷ []) is.is)
          (let has = is.has in has.of_process ∙ sym pid)

      by-test : (t : Bool) → has_deed_of name parcel ≡ t → has_deed_of name parcel ≡ true
      by-test true g = g
      by-test false g = absurd (not-there g only-one.holds)

-- ---- the names afterwards

module _ (script : Script) (w : World) (items : List Held) (parcel : Parcel) {owes : Owing} (b : Beside)
    (holds : HoldsOwing script w (Ending parcel ∷ items) owes b) (to : Option ℕ) (kept_items : List Held)
    (place : place_of (directory_of w) (Proc parcel.parent) ≡ Some (Coming to kept_items)) (w' : World)
    (changes : Changes script 1 w w'
    (with_directory (node_of w 1) (hold (directory_of w) (Proc parcel.parent) (Ending parcel))) [] [] []) where
  abbrev d : Directory
  d = directory_of w

  abbrev item : Held
  item = Ending parcel

  abbrev d2 : Directory
  d2 = with_place d (Proc parcel.parent) (Coming to (kept_items ++ item ∷ []))

  directory-now : directory_of w' ≡ d2
  directory-now =
      ap (λ (m : Node). m.leader.directory) changes.here ∙ ap (hold_at d (Proc parcel.parent) item) place

  pub sender : HasSender script b.pids (stage_of w) (under_way_of w) parcel
  sender = sender-of script w items parcel b holds parcel (first-there script w items parcel b holds)

  abbrev c : ℕ
  c = sender.node

  its : IsParcelOf script b.pids c sender.call parcel
  its = sender.is_of

  -- the sender's process is forked
  sender-forked : b.pids c ≢ 0
  sender-forked z =
      let first = first-has script w items parcel b holds (Proc parcel.pid)
      (has-its-own script b.pids (stage_of w) (under_way_of w) parcel sender)
      in unused-is-unmade (first.0) (first.1)
    where
      own : NameHolds script b.pids (is_born_in w) (Proc parcel.pid) (name_sight script w (item ∷ items) b
          (Proc parcel.pid))
      own = holds.names (Proc parcel.pid)

      not-unmade : (g : ℕ) → InHand g ≡ Unmade → ⊥
      not-unmade g e = cc

      unused-is-unmade : (g : ℕ) → b.deed (Proc parcel.pid) ≡ InHand g → ⊥
      unused-is-unmade g deed =
          not-unmade g
          (sym deed
          ∙ own.made.1 (ap (λ q. is_used_name b.kernel (Proc q)) (its.pid ∙ z)
          ∙ zero-is-unused (is_born_in w) (kind_sight w b.kernel (kind_of (Proc 0))) (holds.kinds (kind_of (Proc 0)))))

  abbrev deeds-now : Name → DeedPlace
  deeds-now name = if has_deed_of name parcel then InKept c else b.deed name

  abbrev moved : Beside
  moved = record b { deed = deeds-now }

  abbrev after : Node
  after = with_directory (node_of w 1) (hold (directory_of w) (Proc parcel.parent) (Ending parcel))

  more : IsMore (is_born_in w) (is_born_in w')
  more = still-born script 1 w w' after [] [] [] changes (λ g. g)

  nothing-more : (t : Bool) (is : List Held) → is ++ cond t [] [] ≡ is
  nothing-more true is = append-nil is
  nothing-more false is = append-nil is

  held-at-parent : held_for d (Proc parcel.parent) ≡ kept_items
  held-at-parent = ap items_of place

  held-now : (name : Name) → name ≢ Proc parcel.parent → held_for d2 name ≡ held_for d name
  held-now name u = ap items_of (place-with-other d (Proc parcel.parent) (Coming to (kept_items ++ item ∷ [])) name u)

  held-more : held_for d2 (Proc parcel.parent) ≡ kept_items ++ item ∷ []
  held-more = ap items_of (place-with-same d (Proc parcel.parent) (Coming to (kept_items ++ item ∷ [])))

  proc-same : (i j : ℕ) → Proc i ≡ Proc j → i ≡ j
  proc-same i j e = cc

  module _ (name : Name) where
    abbrev x : NameSight
    x = name_sight script w (item ∷ items) b name

    known : NameHolds script b.pids (is_born_in w) name x
    known = holds.names name

    -- with one more item held for the parent
    held-first : NameHolds script b.pids (is_born_in w) name (record x { place = place_of d2 name })
    held-first =
        elim (name-cases name (Proc parcel.parent)) [
          | inl e ↦
              subst (λ o. NameHolds script b.pids (is_born_in w) name (record x { place = o }))
              (sym (subst (λ m. place_of d2 m ≡ Some (Coming to (kept_items ++ item ∷ []))) (sym e)
              (place-with-same d (Proc parcel.parent) (Coming to (kept_items ++ item ∷ [])))))
              (name-with-item script b.pids (is_born_in w) name x to kept_items item
              (ap (place_of d) e ∙ place) e known)
          | inr u ↦
              subst (λ o. NameHolds script b.pids (is_born_in w) name (record x { place = o }))
              (sym (place-with-other d (Proc parcel.parent) (Coming to (kept_items ++ item ∷ [])) name u)) known
        ]

    kept-now : (pid : ℕ)
        → filter (is_parcel_with name) (held_for d2 (Proc pid))
        ≡ x.kept pid ++ cond (nat_eq parcel.parent pid) (cond (has_deed_of name parcel) (item ∷ []) []) []
    kept-now pid =
        elim (cases_eq parcel.parent pid) [
          | inl e ↦
              subst (λ q. filter (is_parcel_with name) (held_for d2 (Proc q))
              ≡ x.kept q ++ cond (nat_eq parcel.parent q) (cond (has_deed_of name parcel) (item ∷ []) []) []) e
              (ap (filter (is_parcel_with name)) held-more
              ∙ filter-append (is_parcel_with name) kept_items (item ∷ [])
              ∙ ap (λ is. filter (is_parcel_with name) is ++ cond (has_deed_of name parcel) (item ∷ []) [])
              (sym held-at-parent)
              ∙ ap (λ t. x.kept parcel.parent ++ cond t (cond (has_deed_of name parcel) (item ∷ []) []) [])
              (sym (eq-eqb parcel.parent parcel.parent refl)))
          | inr u ↦
              ap (filter (is_parcel_with name)) (held-now (Proc pid) (λ e. u (sym (proc-same pid parcel.parent e))))
              ∙ sym (append-nil (x.kept pid))
              ∙ ap (λ t. x.kept pid ++ cond t (cond (has_deed_of name parcel) (item ∷ []) []) [])
              (sym (ne_eqb parcel.parent pid u))
        ]

    -- A name of the parcel is kept for the parent now.
    pub is-kept : has_deed_of name parcel ≡ true
        → IsKeptNow script b.pids name (record x { place = place_of d2 name }) c parcel
        (filter (is_parcel_with name) items) (λ pid. filter (is_parcel_with name) (held_for d2 (Proc pid)))
    is-kept e =
        let first = first-has script w items parcel b holds name e
        in let pids = holds.pids
        in let same : first.0 ≡ c = same-node first.0 first.1 first.2
        in record {
          was = first.1 ∙ ap InHand same;
          has = subst (λ q. HasDeed name x.body (b.pids q) parcel) same first.2;
          no_more = first.3;
          now = λ pid. kept-now pid
              ∙ ap (λ t. x.kept pid ++ cond (nat_eq parcel.parent pid) (cond t (item ∷ []) []) []) e
              ∙ ap (λ q. x.kept pid ++ cond (nat_eq q pid) (item ∷ []) []) its.parent;
        }
      where
        same-node : (g : ℕ) → b.deed name ≡ InHand g → HasDeed name x.body (b.pids g) parcel → g ≡ c
        same-node g deed has =
            let pids = holds.pids
            in sym (pids.apart c g sender-forked (sym its.pid ∙ has.of_process))

    none-taken-sent : {A : Type 0} (g : ℕ → ℕ → List Frame → List A)
        → ((t s : ℕ) → IsListMap (g t s)) → (t s : ℕ) → g t s (frames_to w t s) ≡ g t s (frames_to w' t s)
    none-taken-sent g m t s =
        sym (made-same script 1 w w' after [] [] [] changes g m tt tt t s)

    begins-now : (q : ℕ)
        → x.begins q ≡ begin (stage_of w' q) (is_some (held_at w' name q)) (comes_to script w' name q)
    begins-now q =
        ap (λ fs. begin (stage_of w q) (is_some (held_at w name q)) (not (nat_eq (forker script q) 1) && has_any fs))
        (none-taken-sent (λ t s fs. filter (is_checkpoint_of name) fs)
        (λ t s. filter-is-list-map (is_checkpoint_of name)) q (forker script q))
        ∙ sym (read-same script 1 w w' after [] [] [] changes
        (λ (m : Node). begin m.stage (is_some (get_named m.deeds name)) (comes_to script w' name q)) refl q)

    -- what is seen of it, where this is its deed's place, and these are in hand and held
    sight-with : (y : NameSight) → y ≡ record x {
      place = place_of d2 name;
      deed = deeds-now name;
      hand = filter (is_parcel_with name) items;
      kept = λ pid. filter (is_parcel_with name) (held_for d2 (Proc pid));
    }
        → SameName y (name_sight script w' items moved name)
    sight-with y e =
        subst (λ (z : NameSight). SameName z (name_sight script w' items moved name)) (sym e)
        (record {
          place = ap (λ z. place_of z name) (sym directory-now);
          maker = ap (λ z. maker z name) (sym directory-now);
          stays = λ q. ap (λ z. stays z q) (sym directory-now);
          used = refl;
          part = refl;
          body = refl;
          deed = refl;
          held = λ q. sym (read-same script 1 w w' after [] [] [] changes
              (λ (m : Node). get_named m.deeds name) refl q);
          brought = none-taken-sent (λ t s fs. filter (brings name) fs) (λ t s. filter-is-list-map (brings name));
          kept = λ pid. ap (λ z. filter (is_parcel_with name) (held_for z (Proc pid))) (sym directory-now);
          hand = refl;
          begins = begins-now;
          steps = λ q. none-taken-sent (λ t s fs. plays x.used b.call name fs) (λ t s. flat_map-is-list-map _) q 1;
          ranges = λ q. none-taken-sent (λ t s fs. flat_map (range_steps_of x.used b.call name) fs)
              (λ t s. flat_map-is-list-map _) q 1;
          placed = λ q. none-taken-sent (λ t s fs. placed_in name fs) (λ t s. flat_map-is-list-map _) 1 q;
          news = λ q. ap (λ z. news name (x.used && is_maker (maker z name) q) (frames_to w 1 q)) (sym directory-now)
              ∙ none-taken-sent
              (λ t s fs. news name (x.used && is_maker (maker (directory_of w') name) s) fs)
              (λ t s. flat_map-is-list-map _) 1 q;
        })

    names : NameHolds script b.pids (is_born_in w') name (name_sight script w' items moved name)
    names = by-test (has_deed_of name parcel) refl
      where
        by-test : (t : Bool) → has_deed_of name parcel ≡ t
            → NameHolds script b.pids (is_born_in w') name (name_sight script w' items moved name)
        by-test true e =
            name-stays script b.pids (is_born_in w) (is_born_in w') name _ _ more
            (sight-with _ (λ i. record x {
              place = place_of d2 name;
              deed = (sym (ap (λ t. if t then InKept c else b.deed name) e)) i;
              hand = filter (is_parcel_with name) items;
              kept = λ pid. filter (is_parcel_with name) (held_for d2 (Proc pid));
            }))
            (name-kept script b.pids (is_born_in w) name (record x { place = place_of d2 name }) c parcel
            (filter (is_parcel_with name) items) (λ pid. filter (is_parcel_with name) (held_for d2 (Proc pid)))
            (is-kept e) held-first)
        by-test false e =
            name-stays script b.pids (is_born_in w) (is_born_in w') name _ _ more
            (sight-with (record x { place = place_of d2 name }) (λ i. record x {
              place = place_of d2 name;
              deed = (sym (ap (λ t. if t then InKept c else b.deed name) e)) i;
              hand = (ap (λ t. cond t (item ∷ filter (is_parcel_with name) items)
                  (filter (is_parcel_with name) items)) e) i;
              kept = λ pid. (sym (kept-now pid
                  ∙ ap (λ t. x.kept pid ++ cond (nat_eq parcel.parent pid) (cond t (item ∷ []) []) []) e
                  ∙ nothing-more (nat_eq parcel.parent pid) (x.kept pid))) i;
            }))
            held-first

  -- ---- the families

  has-same : (m k : Name) → b.deed m ≡ b.deed k → has_deed_of m parcel ≡ has_deed_of k parcel
  has-same m k e = by-tests (has_deed_of m parcel) (has_deed_of k parcel) refl refl
    where
      all-of : (g : Name) → b.deed g ≡ InHand c → has_deed_of g parcel ≡ true
      all-of g deed = first-has-all script w items parcel b holds g c deed its.pid

      was-in-hand : (g : Name) → has_deed_of g parcel ≡ true → b.deed g ≡ InHand c
      was-in-hand g h = let kept = is-kept g h in kept.was

      by-tests : (s t : Bool) → has_deed_of m parcel ≡ s → has_deed_of k parcel ≡ t
          → has_deed_of m parcel ≡ has_deed_of k parcel
      by-tests true t g h = g ∙ sym (all-of k (sym e ∙ was-in-hand m g))
      by-tests false true g h = all-of m (e ∙ was-in-hand k h) ∙ sym h
      by-tests false false g h = g ∙ sym h

  deeds-same : (m k : Name) → b.deed m ≡ b.deed k → deeds-now m ≡ deeds-now k
  deeds-same m k e =
      ap (λ t. if t then InKept c else b.deed m) (has-same m k e)
      ∙ ap (λ p. if has_deed_of k parcel then InKept c else p) e

  where-now : (k : ℕ) (process : Process) (m : Name) → IsWhereFor k (b.deed m) process
      → IsWhereFor k (deeds-now m) process
  where-now k process m h = by-test (has_deed_of m parcel) refl
    where
      in-kept : (v : Process) → IsWhereFor k (InHand c) v → IsWhereFor k (InKept c) v
      in-kept (kernel.Living alive) g = g
      in-kept (kernel.Ended ending) g = g
      in-kept kernel.Gone g = g

      by-test : (t : Bool) → has_deed_of m parcel ≡ t
          → IsWhereFor k (if t then InKept c else b.deed m) process
      by-test true e =
          let kept = is-kept m e in in-kept process (subst (λ p. IsWhereFor k p process) kept.was h)
      by-test false e = h

  parent-now : (parent pid : ℕ) (process : Process) → IsWithParent (process_deed b.deed) parent pid process
      → IsWithParent (process_deed deeds-now) parent pid process
  parent-now parent pid (kernel.Living alive) h = tt
  parent-now parent pid (kernel.Ended ending) h = deeds-same (Proc pid) (Proc parent) h
  parent-now parent pid kernel.Gone h = tt

  stage-same : (q : ℕ) → stage_of w' q ≡ stage_of w q
  stage-same q = read-same script 1 w w' after [] [] [] changes (λ (m : Node). m.stage) refl q

  families-now : (k : ℕ) → b.pids k ≢ 0
      → FamilyHolds script b.pids b.places b.kernel (process_deed deeds-now) (checkpoints_to script w' k)
      (stage_of w' k) k
  families-now k forked =
      let old : FamilyHolds script b.pids b.places b.kernel (process_deed b.deed) (checkpoints_to script w k)
      (stage_of w k) k = holds.families k forked
      in record {
        process = old.process;
        is = old.is;
        child = old.child;
        where_it_is = where-now k old.process (Proc (b.pids k)) old.where_it_is;
        with_parent = parent-now (b.pids (forker script k)) (b.pids k) old.process old.with_parent;
        checkpoint = checkpoint-by (has_deed_of (Proc (b.pids k)) parcel)
            (subst (λ fs. CheckpointIn script b.pids b.places k fs (b.deed (Proc (b.pids k)))) (sym frames-same)
            old.checkpoint);
        fresh = fresh-by (has_deed_of (Proc (b.pids k)) parcel) old.process old.fresh;
        awaited = awaited-by (has_deed_of (Proc (b.pids k)) parcel)
            (subst (λ s. IsAwaited s (b.deed (Proc (b.pids k)))) (sym (stage-same k)) old.awaited);
        children = old.children;
      }
    where
      frames-same : checkpoints_to script w' k ≡ checkpoints_to script w k
      frames-same =
          made-same script 1 w w' after [] [] [] changes (λ t s fs. filter is_checkpoint fs)
          (λ t s. filter-is-list-map is_checkpoint) tt tt k (forker script k)

      checkpoint-by : (t : Bool)
          → CheckpointIn script b.pids b.places k (checkpoints_to script w' k) (b.deed (Proc (b.pids k)))
          → CheckpointIn script b.pids b.places k (checkpoints_to script w' k)
          (if t then InKept c else b.deed (Proc (b.pids k)))
      checkpoint-by true h = tt
      checkpoint-by false h = h

      new-in-kept : (v : Process) → IsNewAt v (InKept c)
      new-in-kept (kernel.Living alive) = tt
      new-in-kept (kernel.Ended ending) = tt
      new-in-kept kernel.Gone = tt

      fresh-by : (t : Bool) (v : Process) → IsNewAt v (b.deed (Proc (b.pids k)))
          → IsNewAt v (if t then InKept c else b.deed (Proc (b.pids k)))
      fresh-by true v h = new-in-kept v
      fresh-by false v h = h

      awaited-by : (t : Bool) → IsAwaited (stage_of w' k) (b.deed (Proc (b.pids k)))
          → IsAwaited (stage_of w' k) (if t then InKept c else b.deed (Proc (b.pids k)))
      awaited-by true h = tt
      awaited-by false h = h

  -- ---- all else

  held-still : (x : ℕ) (name : Name)
      → filter (is_item_of x) (held_for (directory_of w') name) ≡ filter (is_item_of x) (held_for d name)
  held-still x name =
      ap (λ z. filter (is_item_of x) (held_for z name)) directory-now
      ∙ elim (name-cases name (Proc parcel.parent)) [
        | inl e ↦
            subst (λ m. filter (is_item_of x) (held_for d2 m) ≡ filter (is_item_of x) (held_for d m)) (sym e)
            (ap (filter (is_item_of x)) held-more
            ∙ filter-append (is_item_of x) kept_items (item ∷ [])
            ∙ append-nil (filter (is_item_of x) kept_items)
            ∙ ap (filter (is_item_of x)) (sym held-at-parent))
        | inr u ↦ ap (filter (is_item_of x)) (held-now name u)
      ]

  known-still : (name : Name) → is_known d name ≡ true → is_known (directory_of w') name ≡ true
  known-still name k =
      ap (λ z. is_known z name) directory-now
      ∙ elim (name-cases name (Proc parcel.parent)) [
        | inl e ↦
            subst (λ m. is_known d2 m ≡ true) (sym e)
            (ap (λ o. not (is_none o))
            (place-with-same d (Proc parcel.parent) (Coming to (kept_items ++ item ∷ []))))
        | inr u ↦
            ap (λ o. not (is_none o))
            (place-with-other d (Proc parcel.parent) (Coming to (kept_items ++ item ∷ [])) name u) ∙ k
      ]

  parcel-was : (q : Parcel) → IsParcelIn w' items q → IsParcelIn w (item ∷ items) q
  parcel-was q (left_in y there) =
      elim (was-there script 1 w w' after [] [] [] changes (λ t g. ⊥) tt 1 y (frames.Left q) there) [
        | inl old ↦ left_in y old
        | inr new ↦ absurd new.1
      ]
  parcel-was q (sent_in y there) =
      elim (was-there script 1 w w' after [] [] [] changes (λ t g. ⊥) tt y 1 (frames.ExitTo q) there) [
        | inl old ↦ sent_in y old
        | inr new ↦ absurd new.1
      ]
  parcel-was q (kept_in pid there) =
      elim (name-cases (Proc pid) (Proc parcel.parent)) [
        | inr u ↦
            kept_in pid
            (subst (λ is. Contains is (Ending q)) (ap (λ z. held_for z (Proc pid)) directory-now
            ∙ held-now (Proc pid) u)
            there)
        | inl e ↦
            elim (Contains-push_cases kept_items item (Ending q)
            (subst (λ is. Contains is (Ending q))
            (ap (λ z. held_for z (Proc pid)) directory-now ∙ ap (held_for d2) e ∙ held-more) there)) [
              | inl old ↦
                  kept_in pid
                  (subst (λ is. Contains is (Ending q)) (sym (ap (held_for d) e ∙ held-at-parent)) old)
              | inr same ↦
                  at_hand
                  (subst (λ v. Contains (item ∷ items) v) same (first-there script w items parcel b holds))
            ]
      ]
  parcel-was q (at_hand there) = at_hand (Contains-append_right (item ∷ []) items (Ending q) there)

  nodes-now : (q : ℕ) → 1 ≤ q → q ≤ node_count script → NodeHolds script b.pids (is_born_in w') q (node_of w' q)
  nodes-now q low high =
      elim (cases_eq q 1) [
        | inr u ↦
            other-node-stays script 1 w w' after [] [] [] changes b.pids (is_born_in w) (is_born_in w') q u more
            (holds.nodes q low high)
        | inl e ↦
            subst (λ y. NodeHolds script b.pids (is_born_in w') y (node_of w' y)) (sym e)
            (subst (λ (m : Node). NodeHolds script b.pids (is_born_in w') 1 m) (sym changes.here)
            (node-born script b.pids (is_born_in w) (is_born_in w') 1 after more
            (node-with-directory script b.pids (is_born_in w) 1 (node_of w 1)
            (hold (directory_of w) (Proc parcel.parent) (Ending parcel)) refl
            (holds.nodes 1 (subst (λ y. 1 ≤ y) e low) (subst (λ y. y ≤ node_count script) e high)))))
      ]

  leading-now : IsLeading (directory_of w')
  leading-now =
      let leads = holds.leading
      in subst (λ (z : Directory). IsLeading z) (sym directory-now)
      (record {
        stays = leads.stays;
        processes = rising-put d.places.processes parcel.parent (Coming to (kept_items ++ item ∷ [])) leads.processes;
        queues = leads.queues;
        sets = leads.sets;
      })

  keys-now : KeysHold (node_of w' 1).leader b.kernel
  keys-now =
      let keys : KeysHold (node_of w 1).leader b.kernel = holds.keys
      in record {
        queues = λ key. ap (λ (m : Node). get m.leader.queue_keys key) changes.here ∙ keys.queues key;
        sets = λ key. ap (λ (m : Node). get m.leader.set_keys key) changes.here ∙ keys.sets key;
      }

  ranges-same : (kind : Kind) → for_kind (directory_of w').ranges kind ≡ for_kind d.ranges kind
  ranges-same kind = ap (λ (z : Directory). for_kind z.ranges kind) directory-now

  leaves-call : (y : ℕ) → LeavesCall w w' (item ∷ items) items b moved 1 after y
  leaves-call y =
      record {
        own = λ e. record { number = refl; pid = refl; stage = refl; caller = refl; leases = refl };
        place_is = refl;
        alive_is = refl;
        call_is = refl;
        held_is = λ name. call-items-same y (held_for (directory_of w') name) (held_for d name) (held-still y name);
        hand_is = refl;
        waiters_are = λ name. refl;
      }

  leaves-items : (y : ℕ) → LeavesItems w w' (item ∷ items) items 1 after y
  leaves-items y =
      record {
        own = λ e. record { number = refl; pid = refl; stage = refl; caller = refl; leases = refl };
        held_is = held-still y;
        hand_is = refl;
        leaves = λ q e. ap (λ z. stays z q) directory-now ∙ e;
      }

  -- The parcel is held, and the others are still in hand.
  pub parcel-held : HoldsOwing script w' items owes moved
  parcel-held =
      record {
        shape = changes.shape;
        history = holds.history;
        whole = whole-unmoved script w w' (item ∷ items) items owes b deeds-now 1 after [] [] holds changes refl;
        leading = leading-now;
        pids = holds.pids;
        nodes = nodes-now;
        frames_fit = frames-still-fit script 1 w w' after [] [] [] changes more holds.frames_fit tt tt;
        names = names;
        calls = λ y low high. call-stays script y (is_born_in w) (is_born_in w') (call_sight w (item ∷ items) b y)
            (call_sight w' items moved y) more
            (call-left-alone script 1 w w' after [] [] [] changes (item ∷ items) items b moved y (leaves-call y) tt tt)
            (holds.calls y low high);
        cancels = λ y low high. cancel-unmoved script w w' (item ∷ items) items owes b deeds-now 1 after [] [] holds
            changes names y low high (leaves-items y) tt tt tt tt;
        ways = λ q low high. way-stays script b.pids q (knows_parent script w b.pids q)
            (knows_parent script w' b.pids q) (way_sight w q) (way_sight w' q)
            (known-still (Proc (b.pids (forker script q))))
            (way-left-alone script 1 w w' after [] [] [] changes q (λ e. refl)
            (ap (λ (z : Directory). get z.partings q) directory-now) tt tt) (holds.ways q low high);
        parcels = λ q there. sender-stays script 1 w w' after [] [] [] changes b.pids q (λ left. (left, refl))
            (holds.parcels q (parcel-was q there));
        kinds = λ kind. kind-stays (is_born_in w) (is_born_in w') _ _ more
            (kind-left-alone script 1 w w' after [] [] [] changes b.kernel b.kernel kind
            (λ number. refl) refl (ranges-same kind) tt tt) (holds.kinds kind);
        few = λ kind. few-still script 1 w w' after [] [] [] changes b.call b.call kind refl
            (ranges-same kind) (λ y. refl) (holds.few kind);
        keys = keys-now;
        families = families-now;
      }
