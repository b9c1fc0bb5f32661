-- The opening world: node 1 is born with process 1, and there is nothing else.
use Rattle.std.proofs.Common.{◌≡◌, ◌≢◌, ◌⊎◌, ℕ, zero, suc, ◌+◌, ◌-◌, ◌/◌, ◌<◌, ◌≤◌, Bool, true, false, ◌&&◌, ◌||◌, not, if◌then◌else◌, List, [], ◌∷◌, length, map, replicate, slice_get, get_or, filter, flat_map, nat_eq, Contains, Option, Some, None, is_some, unwrap_or, refl, ap, sym, subst, ◌∙◌, inl, inr, arith}
use Rattle.std.specs.List.{AllByRecursion, list_any, range_with_len}
use Rattle.std.proofs.lemmas.Bool.{cases_eq, cases_lt, ne_eqb, lt-ltb, le-ltb, false≢true}
use Rattle.std.proofs.lemmas.Option.{slice_get_past}
use Rattle.pico_base.specs.declared.call.Call.{Call}
use Rattle.pico_base.specs.declared.numbers.Kind.{Kind}
use Rattle.pico_base.specs.declared.numbers.Kind.TheVariants as kinds
use Rattle.pico_base.specs.declared.numbers.Name.{Name}
use Rattle.pico_base.specs.declared.numbers.Name.TheVariants.{Proc, Msg, Sem}
use Rattle.pico_base.specs.declared.script.Block.{Block}
use Rattle.pico_base.specs.declared.script.Line.{Line}
use Rattle.pico_base.specs.declared.script.Script.{Script}
use Rattle.rpc_frame.specs.declared.deed.Parcel.{Parcel}
use Rattle.rpc_frame.specs.declared.frame.Frame.{Frame}
use Rattle.rpc_frame.specs.declared.frame.Frame.TheVariants as frames
use Rattle.number_maps.specs.Maps.{get, is_used}
use Rattle.number_maps.proofs.Rising.{rising-nothing, rising-put}
use Rattle.number_maps.proofs.LookUps.{get-first, get-later}
use Rattle.std.proofs.lemmas.List.Elements.{Contains-push_cases}
use Rattle.kernel_model.specs.Script.{is_exit}
use Rattle.kernel_model.specs.Row.{Alive, Row, Free, new_row}
use Rattle.kernel_model.specs.Kernel.{Process, opening, living_at}
use Rattle.kernel_model.specs.Kernel as kernel
use Rattle.kernel_model.specs.Footprint.{used_of}
use Rattle.kernel_model.specs.Fitting.{Place, block_place, block_at, opening_places, with_exit}
use Rattle.entry_laws.specs.Entering.{is_used_name}
use Rattle.waiting_model.specs.Kernel.{opening as whole_opening, living_at as lives_at}
use Rattle.waiting_model.specs.Marks.{Alive as Marked, new_alive}
use Rattle.waiting_laws.proofs.ParkWaits.{opening-alike, opening-sound}
use Rattle.node_model.specs.declared.held.Held.{Held}
use Rattle.node_model.specs.declared.held.Held.TheVariants.{Ending}
use Rattle.node_model.specs.Kinds.{get_named, none_named, is_same_name, number_of, for_kind}
use Rattle.node_model.specs.Directory.{Directory, Place as NamePlace, At, opening_directory, place_of, maker, maker_in, stays, held_for, items_of, is_parcel_with}
use Rattle.node_model.specs.Bodies.{Body, Living as LivingBody, body_in, erase, process_body, whole_in, whole_process}
use Rattle.node_model.specs.Caller.{lines_of, lines_in}
use Rattle.node_model.specs.Leases.{leader_leases}
use Rattle.world_model.specs.Node.{Node, Stage, Unborn, Living, Leaving, Left, Over, unborn_node, first_node, opening_node}
use Rattle.world_model.specs.Lives.{names_block}
use Rattle.world_model.specs.Census.{brings}
use Rattle.world_model.specs.World.{World, opening_world, numbers, node_count, node_at, is_number}
use Rattle.world_laws.specs.Places.{DeedPlace, Unmade, InTable, Idle, NoCancel, Beside}
use Rattle.world_laws.specs.Sights.{node_of, frames_to, directory_of, stage_of, is_born_in, is_born_stage}
use Rattle.world_laws.specs.Plays.{told, Has, Lacks, begin, is_there, is_has, is_checkpoint_of, has_any, plays, placed_in, news}
use Rattle.world_laws.specs.Names.{RangeStep, maker_tells, belief_of, NameSight, name_sight, NameHolds, held_at, held_as, comes_to, range_steps_of, forker, is_maker}
use Rattle.world_laws.specs.Callers.{CallSight, call_sight, CallHolds, IsNowhere, is_about, is_item_about, is_waiter_of}
use Rattle.world_laws.specs.Cancels.{CancelHolds, IsCancelFrame, IsCancelItem, Nothing, OfCall, cancel_sight, is_cancel_of, is_held_cancel_of}
use Rattle.world_laws.specs.Wholes.{HasMarks, HasWhole, under_way_at}
use Rattle.world_laws.specs.Ways.{way_sight, Way, here, knows_parent, is_leaving_frame, is_recall_all, is_left_frame, IsParcelIn, left, sent, kept, at_hand}
use Rattle.world_laws.specs.Ranges.{KindSight, kind_sight, KindHolds, IsRestOf, is_given, lease_at, lease_in, FewRanges, leases_on_way, KeysHold}
use Rattle.world_laws.specs.Families.{NodeHolds, PidsHold, FamilyHolds, ListsChild, checkpoints_to}
use Rattle.world_laws.specs.Invariant.{Holds, IsShaped, IsLeading, process_deed}
use Rattle.world_laws.specs.Runnable.{IsRunnable}
use Rattle.world_laws.proofs.Named.{name-cases, other-name, get-put-same-name, get-put-other-name}
use Rattle.world_laws.proofs.NewRanges.{in-lease-again}
use Rattle.world_laws.proofs.Stays.{SameName, name-stays, SameCall, call-stays, SameKind, kind-stays}
use Rattle.kernel_laws.proofs.Lists.{all-at}
use Rattle.rule_laws.proofs.Births.{first-lines}
use Rattle.rule_laws.proofs.own.Rebodied.{nobody-waits, nobody-waits-in}

-- ---- what stands beside it

abbrev opening_pids : ℕ → ℕ
opening_pids c = if nat_eq c 1 then 1 else 0

abbrev opening_deed : Name → DeedPlace
opening_deed name = if is_same_name (Proc 1) name then InTable 1 else Unmade

-- process 1 at the beginning of block 1, its deed at node 1, and no call under way
abbrev pub opening_beside : Script → Beside
opening_beside script =
    record {
      lines = [];
      kernel = opening;
      places = opening_places script;
      whole = whole_opening;
      pids = opening_pids;
      deed = opening_deed;
      call = λ p. Idle;
      body = body_in opening;
      cancel = λ p. NoCancel;
    }

-- ---- the nodes, and no frames

length-numbers : (first count : ℕ) → length (numbers first count) ≡ count
length-numbers first zero = refl
length-numbers first (suc count) = let rest = length-numbers (first + 1) count in omega (arith, rest)

length-mapped : {A B : Type 0} (f : A → B) (xs : List A) → length (map f xs) ≡ length xs
length-mapped f [] = refl
length-mapped f (x ∷ xs) = let rest = length-mapped f xs in omega (arith, rest)

length-replicated : {A : Type 0} (n : ℕ) (x : A) → length (replicate n x) ≡ n
length-replicated zero x = refl
length-replicated (suc n) x = let rest = length-replicated n x in omega (arith, rest)

nodes-are : (first count i : ℕ) → i < count
    → slice_get (map opening_node (numbers first count)) i ≡ Some (opening_node (first + i))
nodes-are first zero i h = absurd (omega arith)
nodes-are first (suc count) zero h =
    let same : first ≡ first + 0 = omega arith
    in ap (λ k. Some (opening_node k)) same
nodes-are first (suc count) (suc i) h =
    let same : first + 1 + i ≡ first + suc i = omega arith
    in nodes-are (first + 1) count i (omega arith) ∙ ap (λ k. Some (opening_node k)) same

row-of : {A : Type 0} (n i : ℕ) (x : A) (d : A) → (get_or (replicate n x) i d ≡ x) ⊎ (get_or (replicate n x) i d ≡ d)
row-of zero i x d = inr refl
row-of (suc n) zero x d = inl refl
row-of (suc n) (suc i) x d = row-of n i x d

row-within : {A : Type 0} (n i : ℕ) (x : A) (d : A) → i < n → get_or (replicate n x) i d ≡ x
row-within zero i x d h = absurd (omega arith)
row-within (suc n) zero x d h = refl
row-within (suc n) (suc i) x d h = row-within n i x d (omega arith)

abbrev no_fs : List Frame
no_fs = []

nothing-in : (n i : ℕ) → get_or (replicate n no_fs) i [] ≡ []
nothing-in zero i = refl
nothing-in (suc n) zero = refl
nothing-in (suc n) (suc i) = nothing-in n i

nothing-there : (n i j : ℕ) → get_or (get_or (replicate n (replicate n no_fs)) i []) j [] ≡ []
nothing-there n i j =
    elim (row-of n i (replicate n no_fs) []) [
      | inl e ↦ ap (λ row. get_or row j []) e ∙ nothing-in n j
      | inr e ↦ ap (λ row. get_or row j []) e
    ]

opening-other : (p : ℕ) → p ≢ 1 → opening_node p ≡ unborn_node p
opening-other p d = by-test (nat_eq p 1) (ne_eqb p 1 d)
  where
    by-test : (t : Bool) → t ≡ false → elim t [ true ↦ first_node | false ↦ unborn_node p ] ≡ unborn_node p
    by-test false e = refl
    by-test true e = absurd (false≢true (sym e))

none-if : (t : Bool) → (if t then no_fs else []) ≡ []
none-if true = refl
none-if false = refl

module _ (script : Script) (r : IsRunnable script) where
  abbrev w : World
  w = opening_world script

  abbrev b : Beside
  b = opening_beside script

  no-frames : (to sender : ℕ) → frames_to w to sender ≡ []
  no-frames to sender =
      ap (λ fs. if is_number to && is_number sender then fs else [])
      (nothing-there (node_count script) (to - 1) (sender - 1))
      ∙ none-if (is_number to && is_number sender)

  node-in-range : (p : ℕ) → 1 ≤ p → p ≤ node_count script → node_of w p ≡ opening_node p
  node-in-range p low high =
      let place : 1 + (p - 1) ≡ p = omega arith
      in ap (λ t. unwrap_or (if t then node_at w p else None) (unborn_node p)) (lt-ltb 0 p (omega arith))
      ∙ ap (λ o. unwrap_or o (unborn_node p)) (nodes-are 1 (node_count script) (p - 1) (omega arith))
      ∙ ap opening_node place

  node-one : node_of w 1 ≡ first_node
  node-one = let some = r.some_block in node-in-range 1 (omega arith) some

  node-else : (p : ℕ) → p ≢ 1 → node_of w p ≡ unborn_node p
  node-else p d =
      elim (cases_eq p 0) [
        | inl nought ↦
            ap (λ t. unwrap_or (if t then node_at w p else None) (unborn_node p)) (le-ltb 0 p (omega (arith, nought)))
        | inr some ↦
            elim (cases_lt (node_count script) p) [
              | inl past ↦
                  ap (λ o. unwrap_or (if is_number p then o else None) (unborn_node p))
                  (slice_get_past w.nodes (p - 1) (subst (λ k. k ≤ p - 1) (sym count) (omega (arith, past))))
                  ∙ nobody (is_number p)
              | inr within ↦ node-in-range p (omega (arith, some)) (omega (arith, within)) ∙ opening-other p d
            ]
      ]
    where
      count : length w.nodes ≡ node_count script
      count = length-mapped opening_node (numbers 1 (node_count script)) ∙ length-numbers 1 (node_count script)

      nobody : (t : Bool) → unwrap_or (if t then None else None) (unborn_node p) ≡ unborn_node p
      nobody true = refl
      nobody false = refl

  directory-first : directory_of w ≡ opening_directory
  directory-first = ap (λ (m : Node). m.leader.directory) node-one

  -- ---- the names

  holds-none : (m : Name) → held_for opening_directory m ≡ []
  holds-none (Proc pid) =
      elim (cases_eq pid 1) [
        | inl e ↦ ap items_of (get-first (1, At 1) [] pid e)
        | inr d ↦ ap items_of (get-later (1, At 1) [] pid d)
      ]
  holds-none (Msg id) = refl
  holds-none (Sem id) = refl

  abbrev z : Name → NameSight
  z m =
      record {
        place = place_of opening_directory m;
        maker = maker opening_directory m;
        stays = stays opening_directory;
        used = is_used_name opening m;
        part = body_in opening m;
        body = body_in opening m;
        deed = opening_deed m;
        held = held_at w m;
        brought = λ to sender. [];
        kept = λ pid. [];
        hand = [];
        begins = λ h. begin (stage_of w h) (is_some (held_at w m h)) false;
        steps = λ h. [];
        ranges = λ h. [];
        placed = λ q. [];
        news = λ q. [];
      }

  and-false : (t : Bool) → (t && false) ≡ false
  and-false true = refl
  and-false false = refl

  comes-not : (m : Name) (h : ℕ) → comes_to script w m h ≡ false
  comes-not m h =
      ap (λ fs. not (nat_eq (forker script h) 1) && has_any (filter (is_checkpoint_of m) fs))
      (no-frames h (forker script h))
      ∙ and-false (not (nat_eq (forker script h) 1))

  z-is : (m : Name) → SameName (z m) (name_sight script w [] b m)
  z-is m =
      record {
        place = ap (λ d. place_of d m) (sym directory-first);
        maker = ap (λ d. maker d m) (sym directory-first);
        stays = λ y. ap (λ d. stays d y) (sym directory-first);
        used = refl;
        part = refl;
        body = refl;
        deed = refl;
        held = λ h. refl;
        brought = λ to sender. ap (filter (brings m)) (sym (no-frames to sender));
        kept = λ pid. sym (ap (λ d. filter (is_parcel_with m) (held_for d (Proc pid))) directory-first
            ∙ ap (filter (is_parcel_with m)) (holds-none (Proc pid)));
        hand = refl;
        begins = λ h. ap (begin (stage_of w h) (is_some (held_at w m h))) (sym (comes-not m h));
        steps = λ h. ap (λ fs. plays (is_used_name opening m) b.call m fs) (sym (no-frames h 1));
        ranges = λ h. ap (λ fs. flat_map (range_steps_of (is_used_name opening m) b.call m) fs) (sym (no-frames h 1));
        placed = λ q. ap (λ fs. placed_in m fs) (sym (no-frames 1 q));
        news = λ q. ap (λ fs. news m (is_used_name opening m && is_maker (maker (directory_of w) m) q) fs)
            (sym (no-frames 1 q));
      }

  no-nat : (v : ℕ) → Contains [] v → ⊥
  no-nat v there = omega (arith, there.1)

  contains-no-step : (v : RangeStep) → Contains [] v → ⊥
  contains-no-step v there = omega (arith, there.1)

  held-nowhere : (m : Name) (h : ℕ) → h ≢ 1 → held_at w m h ≡ None
  held-nowhere m h d = ap (λ (x : Node). get_named x.deeds m) (node-else h d) ∙ nothing m
    where
      nothing : (m : Name) → get_named (unborn_node h).deeds m ≡ None
      nothing (Proc y) = refl
      nothing (Msg y) = refl
      nothing (Sem y) = refl

  begins-lacking : (m : Name) (h : ℕ) → h ≢ 1 → begin (stage_of w h) (is_some (held_at w m h)) false ≡ Lacks
  begins-lacking m h d =
      ap (λ s. begin s (is_some (held_at w m h)) false) (ap (λ (x : Node). x.stage) (node-else h d))
      ∙ ap (λ o. if is_some o || false then Has else Lacks) (held-nowhere m h d)

  not-unmade : InTable 1 ≡ Unmade → ⊥
  not-unmade e = cc

  place-not-none : (v : NamePlace) → Some v ≡ None → ⊥
  place-not-none v e = cc

  some-not-none : (to : ℕ) → None ≡ Some to → ⊥
  some-not-none to e = cc

  first-held : (h : ℕ) → held_at w (Proc 1) h ≡ held_as (InTable 1) (body_in opening (Proc 1)) h
  first-held h =
      elim (cases_eq h 1) [
        | inl e ↦
            subst (λ y. held_at w (Proc 1) y ≡ held_as (InTable 1) (body_in opening (Proc 1)) y) (sym e)
            (ap (λ (x : Node). get_named x.deeds (Proc 1)) node-one)
        | inr d ↦
            held-nowhere (Proc 1) h d
            ∙ sym (ap (λ t. if t then Some (body_in opening (Proc 1)) else None) (ne_eqb 1 h (λ e. d (sym e))))
      ]

  name-first : NameHolds script opening_pids (is_born_in w) (Proc 1) (z (Proc 1))
  name-first =
      record {
        parts = (nobody-waits-in script opening (Proc 1)).parts;
        callers = (nobody-waits-in script opening (Proc 1)).callers;
        made = (λ e. absurd (not-unmade e), λ e. absurd (false≢true (sym e)));
        place_fits = refl;
        tables = first-held;
        streams = λ to sender. refl;
        kept = λ pid. refl;
        in_hand = refl;
        known = λ e. refl;
        believed = λ e. refl;
        plays = λ h low. record {
          last = Lacks;
          plays = ap Some (begins-lacking (Proc 1) h (λ e. omega (arith, e, low)));
          agrees = sym (ne_eqb 1 h (λ e. omega (arith, e, low)));
        };
        leader = ap is_some (first-held 1);
        told = λ sender node there. absurd (no-nat node there);
        found = λ q low. refl;
        unplaced = λ used e. absurd (place-not-none (At 1) e);
        ranged = λ h there. absurd (contains-no-step _ there);
        leased = λ h low. refl;
        bound = λ to e. absurd (some-not-none to e);
        items = tt;
      }

  -- any other name is unused, and nowhere

  abbrev absent : Name → NameSight
  absent m =
      record {
        place = None;
        maker = maker opening_directory m;
        stays = stays opening_directory;
        used = false;
        part = body_in opening m;
        body = body_in opening m;
        deed = Unmade;
        held = λ h. None;
        brought = λ to sender. [];
        kept = λ pid. [];
        hand = [];
        begins = λ h. begin (stage_of w h) false false;
        steps = λ h. [];
        ranges = λ h. [];
        placed = λ q. [];
        news = λ q. [];
      }

  unknown : (m : Name) → m ≢ Proc 1 → place_of opening_directory m ≡ None
  unknown (Proc pid) d = get-later (1, At 1) [] pid (λ e. d (ap Proc e))
  unknown (Msg id) d = refl
  unknown (Sem id) d = refl

  unused : (m : Name) → m ≢ Proc 1 → is_used_name opening m ≡ false
  unused (Proc pid) d = ap (λ t. t || false) (ne_eqb pid 1 (λ e. d (ap Proc e)))
  unused (Msg id) d = refl
  unused (Sem id) d = refl

  unmade : (m : Name) → m ≢ Proc 1 → opening_deed m ≡ Unmade
  unmade m d = ap (λ t. if t then InTable 1 else Unmade) (other-name (Proc 1) m (λ e. d (sym e)))

  held-no : (m : Name) → m ≢ Proc 1 → (h : ℕ) → held_at w m h ≡ None
  held-no m d h =
      elim (cases_eq h 1) [
        | inr e ↦ held-nowhere m h e
        | inl e ↦
            subst (λ y. held_at w m y ≡ None) (sym e)
            (ap (λ (x : Node). get_named x.deeds m) node-one
            ∙ get-put-other-name none_named (Proc 1) (LivingBody new_row) m d ∙ nothing m)
      ]
    where
      nothing : (m : Name) → get_named {V = Body} none_named m ≡ None
      nothing (Proc y) = refl
      nothing (Msg y) = refl
      nothing (Sem y) = refl

  absent-is : (m : Name) → m ≢ Proc 1 → SameName (absent m) (name_sight script w [] b m)
  absent-is m d =
      let same : SameName (z m) (name_sight script w [] b m) = z-is m
      in record {
        place = sym (unknown m d) ∙ same.place;
        maker = same.maker;
        stays = same.stays;
        used = sym (unused m d);
        part = refl;
        body = refl;
        deed = sym (unmade m d);
        held = λ h. sym (held-no m d h);
        brought = same.brought;
        kept = same.kept;
        hand = refl;
        begins = λ h. ap (λ o. begin (stage_of w h) (is_some o) false) (sym (held-no m d h)) ∙ same.begins h;
        steps = same.steps;
        ranges = same.ranges;
        placed = same.placed;
        news = same.news;
      }

  no-maker-tells : (m : Name) (made_by : Option ℕ) → maker_tells (absent m) made_by ≡ []
  no-maker-tells m None = refl
  no-maker-tells m (Some q) = refl

  no-belief : (m : Name) (h : ℕ) → is_there h (belief_of (absent m)) ≡ false
  no-belief m h = ap (λ ns. is_there h (told ns)) (no-maker-tells m (maker opening_directory m))

  begins-not : (stage : Stage) → is_has (begin stage false false) ≡ false
  begins-not Unborn = refl
  begins-not Living = refl
  begins-not Leaving = refl
  begins-not Left = refl
  begins-not Over = refl

  name-absent : (m : Name) → NameHolds script opening_pids (is_born_in w) m (absent m)
  name-absent m =
      record {
        parts = (nobody-waits-in script opening m).parts;
        callers = (nobody-waits-in script opening m).callers;
        made = (λ e. refl, λ e. refl);
        place_fits = refl;
        tables = λ h. refl;
        streams = λ to sender. refl;
        kept = λ pid. refl;
        in_hand = refl;
        known = λ e. absurd (false≢true e);
        believed = λ e. absurd (false≢true e);
        plays = λ h low. record {
          last = begin (stage_of w h) false false;
          plays = refl;
          agrees = begins-not (stage_of w h) ∙ sym (no-belief m h);
        };
        leader = sym (no-belief m 1);
        told = λ sender node there. absurd (no-nat node there);
        found = λ q low. refl;
        unplaced = λ e f. absurd (false≢true e);
        ranged = λ h there. absurd (contains-no-step _ there);
        leased = λ h low. refl;
        bound = λ to e. absurd (some-not-none to e);
        items = tt;
      }

  names : (m : Name) → NameHolds script opening_pids (is_born_in w) m (name_sight script w [] b m)
  names m =
      elim (name-cases m (Proc 1)) [
        | inl e ↦
            subst (λ y. NameHolds script opening_pids (is_born_in w) y (name_sight script w [] b y)) (sym e)
            (name-stays script opening_pids (is_born_in w) (is_born_in w) (Proc 1) _ _ (λ y g. g) (z-is (Proc 1))
            name-first)
        | inr d ↦
            name-stays script opening_pids (is_born_in w) (is_born_in w) m _ _ (λ y g. g) (absent-is m d)
            (name-absent m)
      ]

  -- ---- the calls

  abbrev idle : Node → ℕ → CallSight
  idle n p =
      record {
        number = n.number;
        pid = n.pid;
        stage = n.stage;
        caller = n.caller;
        leases = n.leases;
        place = get b.places (b.pids p);
        alive = living_at opening (b.pids p);
        call = Idle;
        frames_about = λ to sender. [];
        held = λ name. [];
        hand = [];
        waiters = λ name. [];
      }

  idle-is : (n : Node) (p : ℕ) → node_of w p ≡ n → SameCall (idle n p) (call_sight w [] b p)
  idle-is n p e =
      record {
        number = ap (λ (x : Node). x.number) (sym e);
        pid = ap (λ (x : Node). x.pid) (sym e);
        stage = ap (λ (x : Node). x.stage) (sym e);
        caller = ap (λ (x : Node). x.caller) (sym e);
        leases = ap (λ (x : Node). x.leases) (sym e);
        place = refl;
        alive = refl;
        call = refl;
        frames_about = λ to sender. ap (filter (is_about p to sender)) (sym (no-frames to sender));
        held = λ m. sym (ap (λ d. filter (is_item_about p) (held_for d m)) directory-first
            ∙ ap (filter (is_item_about p)) (holds-none m));
        hand = refl;
        waiters = λ m. sym (ap (filter (is_waiter_of p)) (nobody-waits opening m));
      }

  nowhere : (n : Node) (p : ℕ) → IsNowhere (idle n p)
  nowhere n p =
      record {
        in_streams = λ to sender. refl;
        held_for_names = λ m. refl;
        in_hand = refl;
        waiting = λ m. refl;
      }

  call-first : CallHolds script 1 (is_born_in w) (idle first_node 1)
  call-first =
      record {
        call = record {
          nowhere = nowhere first_node 1;
          idle = refl;
          free = record {
            there = ap Some (first-lines script 1 []);
            alive = record { row = new_row; allowance = Free };
            lives = refl;
            tickets = omega arith;
            try_left = λ line at.
                let some = all-at (λ (l : Line). 1 ≤ l.tries) (lines_of script 1) 0 line (r.tries 1) at
                in omega (arith, some);
          };
        };
        ends = refl;
      }

  call-other : (p : ℕ) → CallHolds script p (is_born_in w) (idle (unborn_node p) p)
  call-other p =
      record { call = record { nowhere = nowhere (unborn_node p) p; idle = refl; free = tt }; ends = refl }

  calls : (p : ℕ) → 1 ≤ p → p ≤ node_count script → CallHolds script p (is_born_in w) (call_sight w [] b p)
  calls p low high =
      elim (cases_eq p 1) [
        | inl e ↦
            subst (λ y. CallHolds script y (is_born_in w) (call_sight w [] b y)) (sym e)
            (call-stays script 1 (is_born_in w) (is_born_in w) _ _ (λ y g. g) (idle-is first_node 1 node-one)
            call-first)
        | inr d ↦
            call-stays script p (is_born_in w) (is_born_in w) _ _ (λ y g. g)
            (idle-is (unborn_node p) p (node-else p d)) (call-other p)
      ]

  -- ---- the withdrawals

  none-under-way : (p : ℕ) → under_way_at w p ≡ None
  none-under-way p =
      elim (cases_eq p 1) [
        | inl e ↦ ap (λ y. under_way_at w y) e ∙ ap (λ (x : Node). x.caller.under_way) node-one
        | inr d ↦ ap (λ (x : Node). x.caller.under_way) (node-else p d)
      ]

  cancels : (p : ℕ) → CancelHolds p Nothing (cancel_sight w [] b p)
  cancels p =
      record {
        of_call = subst (λ (o : Option Call). OfCall p false (cancel_sight w [] b p) Idle o) (sym (none-under-way p))
            refl;
        frames = λ to sender. subst
            (λ fs. AllByRecursion (IsCancelFrame (cancel_sight w [] b p)) (filter (is_cancel_of p) fs))
            (sym (no-frames to sender)) tt;
        held = λ m. subst
            (λ items. AllByRecursion (IsCancelItem (cancel_sight w [] b p)) (filter (is_held_cancel_of p) items))
            (sym (ap (λ d. held_for d m) directory-first ∙ holds-none m)) tt;
        hand = tt;
        owed = λ e. absurd (false≢true e);
      }

  -- ---- the kernel in which callers wait

  whole-body : (m : Name) → erase (body_in opening m) ≡ whole_in whole_opening m
  whole-body (Msg id) = refl
  whole-body (Sem id) = refl
  whole-body (Proc pid) =
      elim (cases_eq pid 1) [
        | inl e ↦
            subst (λ y. erase (body_in opening (Proc y)) ≡ whole_in whole_opening (Proc y)) (sym e) refl
        | inr d ↦
            ap (λ o. erase (process_body o)) (get-later _ [] pid d) ∙ sym (ap whole_process (get-later _ [] pid d))
      ]

  first-unparked : (a : Marked) → Some new_alive ≡ Some a → a.marks.parked ≡ None
  first-unparked a e = ap (λ (z : Marked). z.marks.parked) (sym (marked-same new_alive a e))
    where
      marked-same : (v u : Marked) → Some v ≡ Some u → v ≡ u
      marked-same v u e = cc

  none-lives : (a : Marked) → None ≡ Some a → ⊥
  none-lives a e = cc

  unparked : (p : ℕ) (a : Marked) → lives_at whole_opening (opening_pids p) ≡ Some a → a.marks.parked ≡ None
  unparked p a lives =
      elim (cases_eq p 1) [
        | inl e ↦ first-unparked a (sym (ap (λ y. lives_at whole_opening (opening_pids y)) e) ∙ lives)
        | inr d ↦
            absurd
            (none-lives a (sym (ap (λ t. lives_at whole_opening (if t then 1 else 0)) (ne_eqb p 1 d)) ∙ lives))
      ]

  whole : HasWhole w b
  whole =
      record {
        legal = refl;
        lines = refl;
        alike = opening-alike;
        sound = opening-sound;
        bodies = whole-body;
        marks = λ p a lives. subst (λ (o : Option Call). HasMarks Idle o a) (sym (none-under-way p))
            (unparked p a lives);
      }

  -- ---- the nodes

  no-owner : (m : Name) (y : ℕ) → Contains {X = Name × ℕ} [] (m, y) → ⊥
  no-owner m y there = omega (arith, there.1)

  none-is-body : (v : Body) → None ≡ Some v → ⊥
  none-is-body v e = cc

  unborn-is-not-over : Unborn ≡ Over → ⊥
  unborn-is-not-over e = cc

  rows-first : (pid : ℕ) (row : Row) → get_named first_node.deeds (Proc pid) ≡ Some (LivingBody row) → pid ≡ 1
  rows-first pid row e =
      elim (cases_eq pid 1) [
        | inl same ↦ same
        | inr d ↦
            absurd
            (none-is-body (LivingBody row)
            (sym (get-put-other-name none_named (Proc 1) (LivingBody new_row) (Proc pid)
            (λ g. d (ap number_of g))) ∙ e))
      ]

  node-first : NodeHolds script opening_pids (is_born_in w) 1 first_node
  node-first =
      record {
        number = refl;
        holds = record { row = new_row; here = get-put-same-name none_named (Proc 1) (LivingBody new_row) };
        birth = record {
          pid_is = refl;
          parent_is = λ d. absurd (d refl);
          parent_node_is = λ d. absurd (d refl);
          forked = λ e. omega (arith, e);
        };
        first = λ e. refl;
        others = λ d. absurd (d refl);
        rows = rows-first;
        owners = λ m y there. absurd (no-owner m y there);
      }

  node-other : (p : ℕ) → p ≢ 1 → NodeHolds script opening_pids (is_born_in w) p (unborn_node p)
  node-other p d =
      record {
        number = refl;
        holds = refl;
        birth = tt;
        first = λ e. absurd (d e);
        others = λ e f. unborn-is-not-over f;
        rows = λ pid row e. absurd (none-is-body (LivingBody row) e);
        owners = λ m y there. absurd (no-owner m y there);
      }

  nodes : (p : ℕ) → 1 ≤ p → p ≤ node_count script → NodeHolds script opening_pids (is_born_in w) p (node_of w p)
  nodes p low high =
      elim (cases_eq p 1) [
        | inl e ↦
            subst (λ y. NodeHolds script opening_pids (is_born_in w) y (node_of w y)) (sym e)
            (subst (λ (x : Node). NodeHolds script opening_pids (is_born_in w) 1 x) (sym node-one) node-first)
        | inr d ↦
            subst (λ (x : Node). NodeHolds script opening_pids (is_born_in w) p x) (sym (node-else p d))
            (node-other p d)
      ]

  -- ---- the processes

  pid-one : (c : ℕ) → opening_pids c ≢ 0 → c ≡ 1
  pid-one c d =
      elim (cases_eq c 1) [
        | inl e ↦ e
        | inr e ↦ absurd (d (ap (λ t. if t then 1 else 0) (ne_eqb c 1 e)))
      ]

  abbrev first-place : Place
  first-place = block_place (block_at script 1) []

  abbrev left-of : Place → List Line
  left-of place = place.left

  left-is : first-place.left ≡ lines_of script 1
  left-is = by-block (block_at script 1)
    where
      by-block : (o : Option Block)
          → left-of (block_place o []) ≡ lines_in o
      by-block None = refl
      by-block (Some block) = refl

  not-empty : (line : Line) (lines : List Line) → line ∷ lines ≡ [] → ⊥
  not-empty line lines e = cc

  some-lines : (lines : List Line) → with_exit lines ≡ [] → ⊥
  some-lines [] e = not-empty _ _ e
  some-lines (line ∷ lines) e = by-test (is_exit line.call) e
    where
      by-test : (t : Bool) → (if t then line ∷ [] else line ∷ with_exit lines) ≡ [] → ⊥
      by-test true e = not-empty _ _ e
      by-test false e = not-empty _ _ e

  lines-left : first-place.left ≡ [] → ⊥
  lines-left e = by-block (block_at script 1) refl (sym left-is ∙ e)
    where
      none-block : (block : Block) → Some block ≡ None → ⊥
      none-block block g = cc

      first-there : (blocks : List Block) → 1 ≤ length blocks → slice_get blocks 0 ≡ None → ⊥
      first-there [] low g = omega (arith, low)
      first-there (block ∷ blocks) low g = none-block block g

      by-block : (o : Option Block) → block_at script 1 ≡ o → lines_in o ≡ [] → ⊥
      by-block None g f = first-there script.blocks r.some_block g
      by-block (Some block) g f = some-lines block.lines f

  none-is-place : (v : Place) → None ≡ Some v → ⊥
  none-is-place v e = cc

  none-is-process : (v : Process) → None ≡ Some v → ⊥
  none-is-process v e = cc

  none-is-alive : (v : Alive) → None ≡ Some v → ⊥
  none-is-alive v e = cc

  alive-is-none : (v : Alive) → Some v ≡ None → ⊥
  alive-is-none v e = cc

  place-same : (v u : Place) → Some v ≡ Some u → v ≡ u
  place-same v u e = cc

  at-one : (pid : ℕ) (place : Place) → get (opening_places script) pid ≡ Some place → pid ≡ 1
  at-one pid place e =
      elim (cases_eq pid 1) [
        | inl same ↦ same
        | inr d ↦ absurd (none-is-place place (sym (get-later (1, first-place) [] pid d) ∙ e))
      ]

  one-process : (pid : ℕ) (v : Process) → get opening.processes pid ≡ Some v → pid ≡ 1
  one-process pid v e =
      elim (cases_eq pid 1) [
        | inl same ↦ same
        | inr d ↦ absurd (none-is-process v (sym (get-later _ [] pid d) ∙ e))
      ]

  place-first : (c : ℕ) (place : Place) → c ≡ 1 → get (opening_places script) (opening_pids c) ≡ Some place
      → first-place ≡ place
  place-first c place e g =
      place-same first-place place (sym (ap (λ y. get (opening_places script) (opening_pids y)) e) ∙ g)

  no-process : (c : ℕ) (a : Alive) → c ≢ 1 → living_at opening (opening_pids c) ≡ Some a → ⊥
  no-process c a d e =
      none-is-alive a
      (sym (ap (λ t. living_at opening (if t then 1 else 0)) (ne_eqb c 1 d)) ∙ e)

  pids-hold : PidsHold script opening_pids (opening_places script) opening
  pids-hold =
      record {
        first = refl;
        apart = λ c d f e. pid-one c f ∙ sym (pid-one d (λ g. f (e ∙ g)));
        nodes = λ c f.
            let one = pid-one c f
            in let some = r.some_block
            in (omega (arith, one), omega (arith, one, some));
        forked = λ c f d. absurd (d (pid-one c f));
        placed = λ pid place e.
            let one = at-one pid place e
            in (1, sym one, λ g. omega (arith, one, g));
        there = λ pid v e.
            let one = one-process pid v e
            in (1, sym one, λ g. omega (arith, one, g));
        has_place = λ c f. (first-place, ap (λ y. get (opening_places script) (opening_pids y)) (pid-one c f));
        ahead = λ p c place e f any.
            let up = r.forks_up 1 c (subst (λ lines. list_any (λ line. names_block c line.call) lines ≡ true) left-is
            (subst (λ (y : Place). list_any (λ line. names_block c line.call) y.left ≡ true)
            (sym (place-first p place (pid-one p f) e)) any))
            in ap (λ t. if t then 1 else 0) (ne_eqb c 1 (λ g. omega (arith, g, up)));
        alive = λ c a place lives e. elim (cases_eq c 1) [
          | inl one ↦ λ g. lines-left (ap (λ (y : Place). y.left) (place-first c place one e) ∙ g)
          | inr d ↦ absurd (no-process c a d lives)
        ];
        dead = λ c place f none e.
            absurd
            (alive-is-none _ (sym (ap (λ y. living_at opening (opening_pids y)) (pid-one c f)) ∙ none));
      }

  -- ---- the families

  alive-same : (v u : Alive) → Some v ≡ Some u → v ≡ u
  alive-same v u e = cc

  family-first : FamilyHolds script opening_pids (opening_places script) opening
      (process_deed opening_deed)
      (checkpoints_to script w 1) (stage_of w 1) 1
  family-first =
      record {
        process = kernel.Living (record { row = new_row; allowance = Free });
        is = refl;
        child = λ d. absurd (d refl);
        where_it_is = refl;
        with_parent = tt;
        checkpoint = tt;
        fresh = tt;
        awaited = tt;
        children = λ a child lives lists_it. absurd (no-child a child (alive-same _ a lives) lists_it);
      }
    where
      new-lists-none : (child : ℕ)
          → ListsChild (record { row = new_row; allowance = Free }) child → ⊥
      new-lists-none child (inl e) = false≢true e
      new-lists-none child (inr e) = omega (arith, e.1.1)

      no-child : (a : Alive) (child : ℕ) → record { row = new_row; allowance = Free } ≡ a
          → ListsChild a child → ⊥
      no-child a child e lists_it =
          new-lists-none child (subst (λ (y : Alive). ListsChild y child) (sym e) lists_it)

  -- ---- the numbers

  abbrev kind-first : Kind → KindSight
  kind-first kind =
      record {
        used = is_used (used_of opening kind);
        leases = lease_at w kind;
        coming = λ h. [];
        ranges = for_kind opening_directory.ranges kind;
      }

  kind-is : (kind : Kind) → SameKind (kind-first kind) (kind_sight w opening kind)
  kind-is kind =
      record {
        used = λ number. refl;
        leases = λ h. refl;
        coming = λ h. ap (flat_map (lease_in kind)) (sym (no-frames h 1));
        ranges = ap (λ (d : Directory). for_kind d.ranges kind) (sym directory-first);
      }

  no-range-made : (x : KindSight) (number : ℕ) → x.ranges ≡ [] → is_given x number (maker_in x.ranges number) ≡ false
  no-range-made x number e =
      ap (λ rs. is_given x number (maker_in rs number)) e ∙ by-test (nat_eq number 0)
    where
      by-test : (t : Bool) → is_given x number (if t then None else None) ≡ false
      by-test true = refl
      by-test false = refl

  lease-one : (kind : Kind) → lease_at w kind 1 ≡ for_kind leader_leases kind
  lease-one kind = ap (λ (x : Node). for_kind x.leases kind) node-one

  lease-else : (kind : Kind) (h : ℕ) → h ≢ 1 → lease_at w kind h ≡ []
  lease-else kind h d = ap (λ (x : Node). for_kind x.leases kind) (node-else h d) ∙ nothing kind
    where
      nothing : (kind : Kind) → for_kind (unborn_node h).leases kind ≡ []
      nothing kinds.Proc = refl
      nothing kinds.Msg = refl
      nothing kinds.Sem = refl

  lease-none : (kind : Kind) → for_kind leader_leases kind ≡ [] → (h : ℕ) → lease_at w kind h ≡ []
  lease-none kind e h =
      elim (cases_eq h 1) [
        | inl one ↦ ap (lease_at w kind) one ∙ lease-one kind ∙ e
        | inr d ↦ lease-else kind h d
      ]

  born-one : is_born_in w 1 ≡ true
  born-one = ap (λ (x : Node). is_born_stage x.stage) node-one

  contains-one : (v : ℕ) → Contains (1 ∷ []) v → 1 ≡ v
  contains-one v there = elim (Contains-push_cases [] 1 v there) [ inl none ↦ absurd (no-nat v none) | inr e ↦ e ]

  kind-empty : (kind : Kind) → used_of opening kind ≡ [] → for_kind opening_directory.ranges kind ≡ []
      → for_kind leader_leases kind ≡ []
      → KindHolds (is_born_in w) (kind-first kind)
  kind-empty kind unused_all no_ranges no_lease =
      record {
        used = λ number. ap (λ us. is_used us number) unused_all
            ∙ sym (no-range-made (kind-first kind) number no_ranges);
        leases = λ h low. inl (lease-none kind no_lease h);
        coming = λ h first there. absurd (no-nat first there);
        one_coming = λ h. omega arith;
        to_born = λ node there. absurd (no-nat node (subst (λ rs. Contains rs node) no_ranges there));
      }

  or-false : (t : Bool) → (t || false) ≡ t
  or-false true = refl
  or-false false = refl

  abbrev processes : KindSight
  processes = kind-first kinds.Proc

  maker-low : (number : ℕ) → 1 ≤ number → number ≤ 8 → maker_in (1 ∷ []) number ≡ Some 1
  maker-low number low high =
      let place : (number - 1) / 8 ≡ 0 = omega (arith, low, high)
      in ap (λ t. if t then None else slice_get (1 ∷ []) ((number - 1) / 8)) (ne_eqb number 0 (λ e. omega
      (arith, e, low)))
      ∙ ap (slice_get (1 ∷ [])) place

  maker-high : (number : ℕ) → 9 ≤ number → maker_in (1 ∷ []) number ≡ None
  maker-high number low =
      ap (λ t. if t then None else slice_get (1 ∷ []) ((number - 1) / 8)) (ne_eqb number 0 (λ e. omega (arith, e, low)))
      ∙ slice_get_past (1 ∷ []) ((number - 1) / 8) (omega (arith, low))

  given-low : (number : ℕ) → is_given processes number (Some 1) ≡ not (list_any (nat_eq number) (range_with_len 2 7))
  given-low number =
      ap (λ ns. not (list_any (nat_eq number) ns || false)) (lease-one kinds.Proc)
      ∙ ap not (or-false (list_any (nat_eq number) (range_with_len 2 7)))

  used-first : (number : ℕ) → is_used (1 ∷ []) number ≡ is_given processes number (maker_in (1 ∷ []) number)
  used-first number =
      elim (cases_eq number 0) [
        | inl nought ↦
            subst (λ y. is_used (1 ∷ []) y ≡ is_given processes y (maker_in (1 ∷ []) y)) (sym nought) refl
        | inr some ↦
            elim (cases_eq number 1) [
              | inl one ↦
                  subst (λ y. is_used (1 ∷ []) y ≡ is_given processes y (maker_in (1 ∷ []) y)) (sym one)
                  (sym (given-low 1))
              | inr d ↦
                  ap (λ t. t || false) (ne_eqb number 1 d)
                  ∙ elim (cases_lt 8 number) [
                    | inl past ↦ sym (ap (is_given processes number) (maker-high number (omega (arith, past))))
                    | inr within ↦
                        sym (ap (is_given processes number)
                        (maker-low number (omega (arith, some)) (omega (arith, within)))
                        ∙ given-low number
                        ∙ ap not
                        (in-lease-again number 2 7 (omega (arith, some, d)) (omega (arith, within))))
                  ]
            ]
      ]

  lease-of-first : (h : ℕ) → 1 ≤ h → (lease_at w kinds.Proc h ≡ []) ⊎ IsRestOf (1 ∷ []) (lease_at w kinds.Proc h) h
  lease-of-first h low =
      elim (cases_eq h 1) [
        | inr d ↦ inl (lease-else kinds.Proc h d)
        | inl one ↦
            inr
            (subst (λ y. IsRestOf (1 ∷ []) (lease_at w kinds.Proc y) y) (sym one)
            (subst (λ ns. IsRestOf (1 ∷ []) ns 1) (sym (lease-one kinds.Proc))
            (record {
              first = 1;
              range = record { index = 0; first_is = refl; maker = refl };
              taken = 1;
              rest = refl;
            })))
      ]

  kind-processes : KindHolds (is_born_in w) processes
  kind-processes =
      record {
        used = used-first;
        leases = lease-of-first;
        coming = λ h first there. absurd (no-nat first there);
        one_coming = λ h. omega arith;
        to_born = λ node there. subst (λ y. is_born_in w y ≡ true) (contains-one node there) born-one;
      }

  kind-holds : (kind : Kind) → KindHolds (is_born_in w) (kind-first kind)
  kind-holds kinds.Proc = kind-processes
  kind-holds kinds.Msg = kind-empty kinds.Msg refl refl refl
  kind-holds kinds.Sem = kind-empty kinds.Sem refl refl refl

  one-range : (kind : Kind) → length (for_kind opening_directory.ranges kind) ≤ 1
  one-range kinds.Proc = omega arith
  one-range kinds.Msg = omega arith
  one-range kinds.Sem = omega arith

  few : (kind : Kind) → FewRanges script w (λ p. Idle) kind
  few kind =
      subst (λ (d : Directory). length (for_kind d.ranges kind) ≤ length w.journal + leases_on_way script
      (λ p. Idle) kind + 1)
      (sym directory-first) (let one = one-range kind in omega (arith, one))

  -- ---- the ways, the parcels, and all of it

  ways : (c : ℕ) → 2 ≤ c → c ≤ node_count script
      → Way script opening_pids c (knows_parent script w opening_pids c) (way_sight w c)
  ways c low high =
      here
      (record {
        stage = inl (ap (λ (x : Node). x.stage) (node-else c (λ e. omega (arith, e, low))));
        shows = record {
          has_leavings = ap (filter is_leaving_frame) (no-frames 1 c);
          has_recalls = ap (filter is_recall_all) (no-frames c 1);
          has_parting = ap (λ (d : Directory). get d.partings c) directory-first;
        };
        lefts = ap (filter is_left_frame) (no-frames 1 c);
      })

  no-frame : (f : Frame) → Contains [] f → ⊥
  no-frame f there = omega (arith, there.1)

  no-item : (f : Held) → Contains [] f → ⊥
  no-item f there = omega (arith, there.1)

  no-parcel : (parcel : Parcel) → IsParcelIn w [] parcel → ⊥
  no-parcel parcel (left c there) =
      no-frame (frames.Left parcel) (subst (λ fs. Contains fs (frames.Left parcel)) (no-frames 1 c) there)
  no-parcel parcel (sent x there) =
      no-frame (frames.ExitTo parcel) (subst (λ fs. Contains fs (frames.ExitTo parcel)) (no-frames x 1) there)
  no-parcel parcel (kept pid there) =
      no-item (Ending parcel)
      (subst (λ items. Contains items (Ending parcel))
      (ap (λ d. held_for d (Proc pid)) directory-first ∙ holds-none (Proc pid)) there)
  no-parcel parcel (at_hand there) = no-item (Ending parcel) there

  shaped : IsShaped script w
  shaped =
      record {
        of_script = refl;
        nodes = length-mapped opening_node (numbers 1 (node_count script)) ∙ length-numbers 1 (node_count script);
        rows = length-replicated (node_count script) (replicate (node_count script) no_fs);
        row = λ p low.
            ap length (row-within (node_count script) p (replicate (node_count script) no_fs) [] low)
            ∙ length-replicated (node_count script) no_fs;
        tries = r.tries;
      }

  leads : IsLeading opening_directory
  leads =
      record {
        stays = refl;
        processes = rising-put [] 1 (At 1) (rising-nothing NamePlace);
        queues = rising-nothing NamePlace;
        sets = rising-nothing NamePlace;
      }

  -- The invariant holds at the beginning.
  pub opening-holds : Holds script w [] b
  opening-holds =
      record {
        shape = shaped;
        history = record {
          legal = refl;
          fits = refl;
          ordered = rising-put [] 1 first-place (rising-nothing Place);
        };
        whole = whole;
        leading = subst (λ (d : Directory). IsLeading d) (sym directory-first) leads;
        pids = pids-hold;
        nodes = nodes;
        frames_fit = record {
          may_be = λ to sender frame there. absurd
              (no-frame frame (subst (λ fs. Contains fs frame) (no-frames to sender) there));
          none_to_itself = λ p. no-frames p p;
        };
        names = names;
        calls = calls;
        cancels = λ p low high. cancels p;
        ways = ways;
        parcels = λ parcel there. absurd (no-parcel parcel there);
        kinds = λ kind. kind-stays (is_born_in w) (is_born_in w) _ _ (λ y g. g) (kind-is kind) (kind-holds kind);
        few = few;
        keys = subst (λ (x : Node). KeysHold x.leader opening) (sym node-one)
            (record { queues = λ key. refl; sets = λ key. refl });
        families = λ c f. subst (λ y. FamilyHolds script opening_pids (opening_places script) opening
            (process_deed opening_deed) (checkpoints_to script w y) (stage_of w y) y) (sym (pid-one c f)) family-first;
      }
