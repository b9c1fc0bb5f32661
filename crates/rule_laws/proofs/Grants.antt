-- A node takes the deed of a queue or set that the leader sends it.
use Rattle.std.proofs.Common.{◌≡◌, ◌≢◌, ◌⊎◌, ℕ, ◌≤◌, Bool, true, false, ◌&&◌, ◌||◌, not, cond, if◌then◌else◌, List, [], ◌∷◌, ◌++◌, filter, flat_map, nat_eq, Some, None, is_some, option_and_then, refl, ap, sym, subst, ◌∙◌, inl, inr, arith}
use Rattle.std.specs.List.{AllByRecursion, list_all}
use Rattle.std.proofs.lemmas.Bool.{cases_eq, eqb-true, eq-eqb, ne_eqb, false≢true}
use Rattle.pico_base.specs.declared.numbers.Name.{Name}
use Rattle.pico_base.specs.declared.numbers.Name.TheVariants.{Proc}
use Rattle.pico_base.specs.declared.script.Script.{Script}
use Rattle.pico_base.specs.declared.script.Event.TheVariants as events
use Rattle.rpc_frame.specs.declared.deed.PackedDeed.{PackedDeed}
use Rattle.rpc_frame.specs.declared.frame.Frame.{Frame}
use Rattle.rpc_frame.specs.declared.frame.Frame.TheVariants as frames
use Rattle.node_model.specs.Kinds.{is_object, kind_of, number_of, get_named, put_named}
use Rattle.node_model.specs.Directory.{place_of, maker, stays, held_for, is_parcel_with}
use Rattle.node_model.specs.Leases.{leases_hold}
use Rattle.node_model.specs.Bodies.{Body, waiters_of}
use Rattle.node_model.specs.Spelling.{pack, read_deed}
use Rattle.waiting_model.specs.declared.callers.Waiting.{Waiting}
use Rattle.world_model.specs.Node.{Node, Stage, Unborn, Living, Leaving, Left, Over, is_born, is_leader, is_node, is_unborn, holds as holds_deed}
use Rattle.world_model.specs.Step.{Step, step_to}
use Rattle.world_model.specs.Moves.{keep, receive_deed, take_grant}
use Rattle.world_model.specs.Census.{brings}
use Rattle.world_model.specs.World.{World, world_after}
use Rattle.world_laws.specs.Places.{DeedPlace, Unmade, InTable, InCheckpoint, InGrant, InGiveBack, InLeft, InKept, InHand, InExitTo, Beside, deed_in}
use Rattle.world_laws.specs.Sights.{node_of, frames_to, directory_of, stage_of, is_born_in, is_born_stage}
use Rattle.world_laws.specs.Deeds.{DeedsAreRead}
use Rattle.world_laws.specs.Plays.{steps_if, Has, Lacks, PlayStep, Comes, plays, play, begin, is_there, is_checkpoint_of, has_any, placed_in, news}
use Rattle.world_laws.specs.Names.{NameSight, name_sight, NameHolds, held_at, held_as, comes_to, may_be_at, is_stream_of, is_kept_for, is_hand_place, node_in, IsBringer, IsItemWith, IsCheckpointOf, IsLeftOf, IsExitOf, OneIf, PlaysTo, belief_of, range_steps_of, forker, is_maker}
use Rattle.world_laws.specs.Ranges.{kind_sight}
use Rattle.world_laws.specs.Families.{NodeHolds}
use Rattle.world_laws.specs.Cancels.{Nothing}
use Rattle.world_laws.specs.Invariant.{Holds, MayBe}
use Rattle.world_laws.proofs.Named.{name-cases, same-name, other-name, get-put-same-name, get-put-other-name}
use Rattle.world_laws.proofs.Stays.{IsMore, SameName, name-stays}
use Rattle.world_laws.proofs.Changes.{Changes, filter-is-list-map, flat_map-is-list-map, made-same, only-stayed, directory-same}
use Rattle.world_laws.proofs.LeftAlone.{LeavesName, same-directory, name-left-alone}
use Rattle.world_laws.proofs.Steps.{KeepsAs, Heads, world_without, take-steps, changes-by-take}
use Rattle.world_laws.proofs.NameFacts.{play-comes, begin-lacks, begins-with, has_left, plays-by}
use Rattle.world_laws.proofs.Numbers.{used-is-taken}
use Rattle.world_laws.proofs.Heads.{head-is, head-may-be, head-from-another, rest-stays, others-stay}
use Rattle.rule_laws.proofs.Quiet.{IsQuiet, same-but-places, quiet-keeps, quiet-born}
use Rattle.rule_laws.proofs.Nodes.{node-with-objects, processes-with, object-is-no-process}

-- ---- the frame

-- one list has one frame where it has this one
pub record IsAlone {A : Type 0} (t : Bool) (P : A → Type 0) (x : A) (xs : List A) : Type 0 where
  pub is_there : t ≡ true
  pub holds : P x
  pub alone : xs ≡ []

first-same : {A : Type 0} (x y : A) (xs ys : List A) → x ∷ xs ≡ y ∷ ys → x ≡ y
first-same x y xs ys h = cc

rest-same : {A : Type 0} (x y : A) (xs ys : List A) → x ∷ xs ≡ y ∷ ys → xs ≡ ys
rest-same x y xs ys h = cc

not-none : {A : Type 0} (x : A) (xs : List A) → x ∷ xs ≡ [] → ⊥
not-none x xs h = cc

-- then it is the one
pub is-alone : {A : Type 0} (t : Bool) (P : A → Type 0) (x : A) (xs ys : List A) → ys ≡ x ∷ xs → OneIf t P ys
    → IsAlone t P x xs
is-alone true P x xs ys e h =
    let both : x ∷ xs ≡ h.one ∷ [] = sym e ∙ h.only
    in record {
      is_there = refl;
      holds = subst P (sym (first-same x h.one xs [] both)) h.holds;
      alone = rest-same x h.one xs [] both;
    }
is-alone false P x xs ys e h = absurd (not-none x xs (sym e ∙ h))

-- what a Grant says of where the deed was
pub record IsGranted (deed : DeedPlace) (to : ℕ) (packed : PackedDeed) (name : Name) (body : Body)
    (rest : List Frame) : Type 0 where
  pub deed_is : deed ≡ InGrant to
  pub packed_is : packed ≡ pack name body
  pub alone : rest ≡ []

abbrev is_grant : Frame → Bool
is_grant (frames.Grant deed) = true
is_grant frame = false

no-grant : (frame : Frame) (deed : PackedDeed) → is_grant frame ≡ false → frames.Grant deed ≡ frame → ⊥
no-grant frame deed h e = false≢true (sym h ∙ ap is_grant (sym e))

grants-same : (a b : PackedDeed) → frames.Grant a ≡ frames.Grant b → a ≡ b
grants-same a b h = cc

and-first : (a b : Bool) → (a && b) ≡ true → a ≡ true
and-first true b h = refl
and-first false b h = absurd (false≢true h)

-- a Grant says that the deed is in it
pub granted : (forks_it : ℕ → ℕ) (pids : ℕ → ℕ) (name : Name) (body : Body) (deed : DeedPlace) (to sender : ℕ)
    (packed : PackedDeed) (rest fs : List Frame)
    → fs ≡ frames.Grant packed ∷ rest
    → OneIf (is_stream_of forks_it deed to sender) (IsBringer pids name body deed) fs
    → IsGranted deed to packed name body rest
granted forks_it pids name body Unmade to sender packed rest fs e h =
    absurd (not-none (frames.Grant packed) rest (sym e ∙ h))
granted forks_it pids name body (InTable node) to sender packed rest fs e h =
    absurd (not-none (frames.Grant packed) rest (sym e ∙ h))
granted forks_it pids name body (InKept of) to sender packed rest fs e h =
    absurd (not-none (frames.Grant packed) rest (sym e ∙ h))
granted forks_it pids name body (InHand of) to sender packed rest fs e h =
    absurd (not-none (frames.Grant packed) rest (sym e ∙ h))
granted forks_it pids name body (InGrant node) to sender packed rest fs e h =
    let one : IsAlone (nat_eq to node && nat_eq sender 1) (λ f. f ≡ frames.Grant (pack name body)) (frames.Grant packed)
    rest =
    is-alone (nat_eq to node && nat_eq sender 1) (λ f. f ≡ frames.Grant (pack name body)) (frames.Grant packed) rest fs
    e h
    in record {
      deed_is = ap InGrant (sym (eqb-true to node (and-first (nat_eq to node) (nat_eq sender 1) one.is_there)));
      packed_is = grants-same packed (pack name body) one.holds;
      alone = one.alone;
    }
granted forks_it pids name body (InCheckpoint c) to sender packed rest fs e h =
    let one : IsAlone (nat_eq to c && nat_eq sender (forks_it c)) (IsCheckpointOf name body)
    (frames.Grant packed) rest =
    is-alone (nat_eq to c && nat_eq sender (forks_it c)) (IsCheckpointOf name body) (frames.Grant packed) rest fs e h
    in let is : IsCheckpointOf name body (frames.Grant packed) = one.holds
    in absurd (no-grant (frames.Checkpoint is.pid is.parent (pack name body) is.vars) packed refl is.is)
granted forks_it pids name body (InGiveBack node) to sender packed rest fs e h =
    let one : IsAlone (nat_eq to 1 && nat_eq sender node) (λ f. f ≡ frames.GiveBack (pack name body))
    (frames.Grant packed) rest =
    is-alone (nat_eq to 1 && nat_eq sender node) (λ f. f ≡ frames.GiveBack (pack name body)) (frames.Grant packed) rest
    fs e h
    in absurd (no-grant (frames.GiveBack (pack name body)) packed refl one.holds)
granted forks_it pids name body (InLeft c) to sender packed rest fs e h =
    let one : IsAlone (nat_eq to 1 && nat_eq sender c) (IsLeftOf name body (pids c)) (frames.Grant packed) rest =
    is-alone (nat_eq to 1 && nat_eq sender c) (IsLeftOf name body (pids c)) (frames.Grant packed) rest fs e h
    in let is : IsLeftOf name body (pids c) (frames.Grant packed) = one.holds
    in absurd (no-grant (frames.Left is.parcel) packed refl is.is)
granted forks_it pids name body (InExitTo c node) to sender packed rest fs e h =
    let one : IsAlone (nat_eq to node && nat_eq sender 1) (IsExitOf name body (pids c)) (frames.Grant packed) rest =
    is-alone (nat_eq to node && nat_eq sender 1) (IsExitOf name body (pids c)) (frames.Grant packed) rest fs e h
    in let is : IsExitOf name body (pids c) (frames.Grant packed) = one.holds
    in absurd (no-grant (frames.ExitTo is.parcel) packed refl is.is)

-- ---- the name

-- it is in the node's table now
abbrev pub arrived : NameSight → ℕ → List PlayStep → NameSight
arrived x p rest =
    record x {
      deed = InTable p;
      held = λ h. if nat_eq p h then Some x.body else None;
      brought = λ to sender. [];
      begins = λ h. if nat_eq h p then Has else x.begins h;
      steps = λ h. if nat_eq h p then rest else x.steps h;
    }

module _ (script : Script) (pids : ℕ → ℕ) (born : ℕ → Bool) (name : Name) (x : NameSight)
    (h : NameHolds script pids born name x) (p : ℕ) (other : p ≢ 1) (deed : x.deed ≡ InGrant p)
    (rest : List PlayStep) (begins : x.begins p ≡ Lacks) (steps : x.steps p ≡ Comes ∷ rest) where
  not-in-tables : (q : ℕ) → x.held q ≡ None
  not-in-tables q = h.tables q ∙ ap (λ d. held_as d x.body q) deed

  is-used : x.used ≡ true
  is-used = by-test x.used refl
    where
      not-unmade : InGrant p ≡ Unmade → ⊥
      not-unmade e = cc

      by-test : (t : Bool) → x.used ≡ t → x.used ≡ true
      by-test true e = e
      by-test false e = absurd (not-unmade (sym deed ∙ h.made.1 e))

  plays-on : 2 ≤ p → PlaysTo Has rest (is_there p (belief_of x))
  plays-on low =
      let old : PlaysTo (x.begins p) (x.steps p) (is_there p (belief_of x)) = h.plays p low
      in let come = play-comes Lacks old.last rest
      (ap (λ ss. play Lacks ss) (sym steps) ∙ ap (λ b. play b (x.steps p)) (sym begins) ∙ old.plays)
      in record { last = old.last; plays = come.1; agrees = old.agrees }

  plays-at : (q : ℕ) → 2 ≤ q
      → PlaysTo (if nat_eq q p then Has else x.begins q) (if nat_eq q p then rest else x.steps q)
      (is_there q (belief_of x))
  plays-at q low =
      plays-by (nat_eq q p) Has (x.begins q) rest (x.steps q) (is_there q (belief_of x))
      (λ e. subst (λ y. PlaysTo Has rest (is_there y (belief_of x))) (sym (eqb-true q p e))
      (plays-on (subst (λ y. 2 ≤ y) (eqb-true q p e) low))) (λ e. h.plays q low)

  -- all holds of the name with its deed in the table
  pub name-arrived : NameHolds script pids born name (arrived x p rest)
  name-arrived =
      record {
        parts = h.parts;
        callers = h.callers;
        made = (λ e. absurd (not-unmade e), λ u. absurd (false≢true (sym u ∙ is-used)));
        place_fits = refl;
        tables = λ q. refl;
        streams = λ to sender. refl;
        kept = λ pid. subst (λ d. OneIf (is_kept_for (forker script) pids d pid)
            (IsItemWith name x.body (pids (node_in d))) (x.kept pid)) deed (h.kept pid);
        in_hand = subst (λ d. OneIf (is_hand_place d) (IsItemWith name x.body (pids (node_in d))) x.hand) deed
            h.in_hand;
        known = h.known;
        believed = h.believed;
        plays = plays-at;
        leader = ap (λ t. is_some (if t then Some x.body else None)) (ne_eqb p 1 other)
            ∙ sym (ap is_some (not-in-tables 1)) ∙ h.leader;
        told = h.told;
        found = h.found;
        unplaced = h.unplaced;
        ranged = h.ranged;
        leased = h.leased;
        bound = h.bound;
        items = h.items;
      }
    where
      not-unmade : InTable p ≡ Unmade → ⊥
      not-unmade e = cc

-- ---- the event

still-born-stage : (stage : Stage) → is_born_stage stage ≡ true → not (is_unborn stage) ≡ true
still-born-stage Unborn h = absurd (false≢true h)
still-born-stage Living h = refl
still-born-stage Leaving h = refl
still-born-stage Left h = refl
still-born-stage Over h = refl

-- those who wait there have nodes of the script
pub all-nodes : (script : Script) (ws : List Waiting) → AllByRecursion (λ w. is_node script w.caller ≡ true) ws
    → list_all (λ w. is_node script w.caller) ws ≡ true
all-nodes script [] all = refl
all-nodes script (w ∷ ws) all = rw (all.0, all-nodes script ws all.1) refl

or-both : (a b : Bool) → (a || b) ≡ false → (a ≡ false) × (b ≡ false)
or-both true b h = absurd (false≢true (sym h))
or-both false b h = (refl, h)

module _ (script : Script) (w : World) (b : Beside) (holds : Holds script w [] b) (reads : DeedsAreRead b.kernel b.body)
    (p : ℕ) (packed : PackedDeed) (rest : List Frame) (h : Heads script w p 1 (frames.Grant packed) rest) where
  abbrev name : Name
  name = packed.name

  abbrev x : NameSight
  x = name_sight script w [] b name

  abbrev n : Node
  n = node_of w p

  known : NameHolds script b.pids (is_born_in w) name x
  known = holds.names name

  other : p ≢ 1
  other e = head-from-another script w p 1 (frames.Grant packed) rest h (is_born_in w) holds.frames_fit (sym e)

  may : MayBe script (is_born_in w) p 1 (frames.Grant packed)
  may = head-may-be script w p 1 (frames.Grant packed) rest h (is_born_in w) holds.frames_fit

  low-node : 2 ≤ p
  low-node = let low = h.low in omega (arith, low, other)

  brought-first : x.brought p 1 ≡ frames.Grant packed ∷ filter (brings name) rest
  brought-first =
      ap (filter (brings name)) (head-is script w p 1 (frames.Grant packed) rest h)
      ∙ ap (λ t. cond t (frames.Grant packed ∷ filter (brings name) rest) (filter (brings name) rest))
      (same-name name name refl)

  is-granted : IsGranted x.deed p packed name x.body (filter (brings name) rest)
  is-granted =
      granted (forker script) b.pids name x.body x.deed p 1 packed (filter (brings name) rest) (x.brought p 1)
      brought-first (known.streams p 1)

  object : is_object name ≡ true
  object = sym (ap (may_be_at (is_object name)) is-granted.deed_is) ∙ known.place_fits

  plays-first : x.steps p ≡ Comes ∷ plays x.used b.call name rest
  plays-first =
      ap (λ fs. plays x.used b.call name fs) (head-is script w p 1 (frames.Grant packed) rest h)
      ∙ ap (λ t. steps_if t Comes ++ plays x.used b.call name rest) (same-name name name refl)

  begins-here : x.begins p ≡ Lacks
  begins-here =
      let old : PlaysTo (x.begins p) (x.steps p) (is_there p (belief_of x)) = known.plays p low-node
      in let come = play-comes (x.begins p) old.last (plays x.used b.call name rest)
      (ap (λ ss. play (x.begins p) ss) (sym plays-first) ∙ old.plays)
      in come.0

  not-left : has_left (stage_of w p) ≡ false
  not-left =
      let both = begin-lacks (stage_of w p) (is_some (held_at w name p)) (comes_to script w name p) begins-here
      in both.0

  not-here : holds_deed n name ≡ false
  not-here =
      let both = begin-lacks (stage_of w p) (is_some (held_at w name p)) (comes_to script w name p) begins-here
      in let one = or-both (is_some (held_at w name p)) (comes_to script w name p) both.1
      in one.0

  node-holds : NodeHolds script b.pids (is_born_in w) p n
  node-holds = holds.nodes p h.low h.high

  used : x.used ≡ true
  used =
      is-used script b.pids (is_born_in w) name x known p other is-granted.deed_is
      (plays x.used b.call name rest) begins-here
      plays-first

  not-leased : leases_hold n.leases name ≡ false
  not-leased =
      used-is-taken (is_born_in w) (kind_sight w b.kernel (kind_of name)) (holds.kinds (kind_of name))
      (number_of name) p h.low used

  abbrev after : Step
  after = step_to (keep n name x.body)

  all-true : (leads born is_object here leased : Bool) → leads ≡ false → born ≡ true → is_object ≡ true
      → here ≡ false → leased ≡ false
      → ((not leads && (born && true)) && (is_object && (not here && not leased))) ≡ true
  all-true leads born is_object here leased a c d e f = rw (a, c, d, e, f) refl

  rule : take_grant script n 1 packed ≡ Some after
  rule =
      ap (λ t. if t then option_and_then (receive_deed script n name) (read_deed packed) else None)
      (all-true (is_leader n) (is_born n) (is_object name) (holds_deed n name) (leases_hold n.leases name)
      (ne_eqb n.number 1 (λ e. other (sym node-holds.number ∙ e))) (still-born-stage n.stage may.1) object not-here
      not-leased)
      ∙ ap (option_and_then (receive_deed script n name)) (ap read_deed is-granted.packed_is ∙ reads name used)
      ∙ ap (λ t. if t then Some after else None) (all-nodes script (waiters_of x.body) known.callers)

  -- what it changes

  abbrev next : World
  next = world_after (world_without w p 1 rest) p after

  abbrev moved : Beside
  moved = record b { deed = deed_in b.deed name (InTable p) }

  abbrev takes : List (ℕ × Frame)
  takes = (1, frames.Grant packed) ∷ []

  changes : Changes script p w next after.node takes [] []
  changes = changes-by-take script w holds.shape p 1 (frames.Grant packed) rest after h tt

  same-there : directory_of next ≡ directory_of w
  same-there = directory-same script p w next after.node takes [] [] changes other

  quiet : IsQuiet script w next b (deed_in b.deed name (InTable p)) p after.node takes []
  quiet =
      record {
        caller = record { number = refl; pid = refl; stage = refl; caller = refl; leases = refl };
        queue_keys = refl;
        set_keys = refl;
        directory = same-but-places (directory_of w) (directory_of next) same-there holds.leading;
        node = node-with-objects script b.pids (is_born_in w) p n (put_named n.deeds name x.body) n.watches may.1
            not-left (processes-with n.deeds name x.body object) node-holds;
        deeds = λ pid. ap (λ t. if t then InTable p else b.deed (Proc pid)) (object-is-no-process name pid object);
        plain_taken = (refl, tt);
        plain_sent = tt;
        no_birth_taken = (refl, tt);
        no_birth_sent = tt;
        no_lease_taken = λ kind. (refl, tt);
        no_lease_sent = λ kind. tt;
        of_no_call = λ y. (refl, tt);
        sent_of_no_call = λ y. tt;
        no_cancel_taken = λ y. (refl, tt);
        no_cancel_sent = λ y. tt;
        may_be_sent = tt;
        to_others = tt;
      }

  held-now : (q : ℕ) → (if nat_eq p q then Some x.body else None) ≡ held_at next name q
  held-now q =
      elim (cases_eq q p) [
        | inl e ↦
            ap (λ t. if t then Some x.body else None) (eq-eqb p q (sym e))
            ∙ subst (λ y. Some x.body ≡ held_at next name y) (sym e)
            (sym (ap (λ (m : Node). get_named m.deeds name) changes.here ∙ get-put-same-name n.deeds name x.body))
        | inr d ↦
            ap (λ t. if t then Some x.body else None) (ne_eqb p q (λ e. d (sym e)))
            ∙ sym (ap (λ (m : Node). get_named m.deeds name) (changes.others q d)
            ∙ known.tables q ∙ ap (λ y. held_as y x.body q) is-granted.deed_is)
      ]

  comes-now : (q : ℕ) → comes_to script next name q ≡ comes_to script w name q
  comes-now q =
      ap (λ fs. not (nat_eq (forker script q) 1) && has_any fs)
      (made-same script p w next after.node takes [] [] changes (λ t s fs. filter (is_checkpoint_of name) fs)
      (λ t s. filter-is-list-map (is_checkpoint_of name)) (refl, tt) tt q (forker script q))

  here-now : is_some (held_at next name p) ≡ true
  here-now = ap is_some (sym (held-now p) ∙ ap (λ t. if t then Some x.body else None) (eq-eqb p p refl))

  begins-now : (q : ℕ)
      → (if nat_eq q p then Has else x.begins q)
      ≡ begin (stage_of next q) (is_some (held_at next name q)) (comes_to script next name q)
  begins-now q =
      elim (cases_eq q p) [
        | inl e ↦
            ap (λ t. if t then Has else x.begins q) (eq-eqb q p e)
            ∙ sym (subst (λ y. begin (stage_of next y) (is_some (held_at next name y)) (comes_to script next name y)
            ≡ Has) (sym e)
            (begins-with (stage_of next p) (is_some (held_at next name p)) (comes_to script next name p)
            (ap (λ (m : Node). has_left m.stage) changes.here ∙ not-left)
            (ap (λ t. t || comes_to script next name p) here-now)))
        | inr d ↦
            ap (λ t. if t then Has else x.begins q) (ne_eqb q p d)
            ∙ ap (begin (stage_of w q) (is_some (held_at w name q))) (sym (comes-now q))
            ∙ sym (ap
            (λ (m : Node). begin m.stage (is_some (get_named m.deeds name)) (comes_to script next name q))
            (changes.others q d))
      ]

  abbrev rest-steps : List PlayStep
  rest-steps = plays x.used b.call name (changes.left p 1)

  steps-were : x.steps p ≡ Comes ∷ rest-steps
  steps-were =
      rest-stays script p 1 w next after.node (frames.Grant packed) [] [] changes
      (λ t s fs. plays x.used b.call name fs)
      (λ t s. flat_map-is-list-map _)
      ∙ ap (λ t. (steps_if t Comes ++ []) ++ rest-steps) (same-name name name refl)

  steps-now : (q : ℕ) → (if nat_eq q p then rest-steps else x.steps q) ≡ plays x.used b.call name (frames_to next q 1)
  steps-now q =
      elim (cases_eq q p) [
        | inl e ↦
            ap (λ t. if t then rest-steps else x.steps q) (eq-eqb q p e)
            ∙ subst (λ y. rest-steps ≡ plays x.used b.call name (frames_to next y 1)) (sym e)
            (sym (only-stayed script p w next after.node takes [] [] changes (λ t s fs. plays x.used b.call name fs)
            (λ t s. flat_map-is-list-map _) tt p 1))
        | inr d ↦
            ap (λ t. if t then rest-steps else x.steps q) (ne_eqb q p d)
            ∙ sym (only-stayed script p w next after.node takes [] [] changes (λ t s fs. plays x.used b.call name fs)
            (λ t s. flat_map-is-list-map _) tt q 1
            ∙ others-stay script p 1 w next after.node (frames.Grant packed) [] [] changes
            (λ t s fs. plays x.used b.call name fs) (λ t s. flat_map-is-list-map _) q 1 (inl d))
      ]

  -- the deed was in this frame alone
  left-alone : (to sender : ℕ) → filter (brings name) (changes.left to sender) ≡ []
  left-alone to sender =
      elim (cases_eq to p) [
        | inr d ↦ away (inl d) (ap (λ t. t && nat_eq sender 1) (ne_eqb to p d))
        | inl e ↦
            elim (cases_eq sender 1) [
              | inr d ↦
                  away (inr d) (ap (λ t. nat_eq to p && t) (ne_eqb sender 1 d) ∙ and-false (nat_eq to p))
              | inl g ↦
                  subst (λ y. filter (brings name) (changes.left y sender) ≡ []) (sym e)
                  (subst (λ z. filter (brings name) (changes.left p z) ≡ []) (sym g) at-head)
            ]
      ]
    where
      and-false : (t : Bool) → (t && false) ≡ false
      and-false true = refl
      and-false false = refl

      away : (to ≢ p) ⊎ (sender ≢ 1) → (nat_eq to p && nat_eq sender 1) ≡ false
          → filter (brings name) (changes.left to sender) ≡ []
      away d none =
          others-stay script p 1 w next after.node (frames.Grant packed) [] [] changes
          (λ t s fs. filter (brings name) fs) (λ t s. filter-is-list-map (brings name)) to sender d
          ∙ subst (λ t. OneIf t (IsBringer b.pids name x.body (InGrant p)) (x.brought to sender)) none
          (subst (λ y. OneIf (is_stream_of (forker script) y to sender) (IsBringer b.pids name x.body y)
          (x.brought to sender)) is-granted.deed_is (known.streams to sender))

      at-head : filter (brings name) (changes.left p 1) ≡ []
      at-head =
          rest-same (frames.Grant packed) (frames.Grant packed) (filter (brings name) (changes.left p 1))
          (filter (brings name) rest)
          (sym (ap (λ t. cond t (frames.Grant packed ∷ []) [] ++ filter (brings name) (changes.left p 1))
          (same-name name name refl))
          ∙ sym (rest-stays script p 1 w next after.node (frames.Grant packed) [] [] changes
          (λ t s fs. filter (brings name) fs) (λ t s. filter-is-list-map (brings name)))
          ∙ brought-first)
          ∙ is-granted.alone

  sight-now : SameName (arrived x p rest-steps) (name_sight script next [] moved name)
  sight-now =
      record {
        place = ap (λ y. place_of y name) (sym same-there);
        maker = ap (λ y. maker y name) (sym same-there);
        stays = λ q. ap (λ y. stays y q) (sym same-there);
        used = refl;
        part = refl;
        body = refl;
        deed = sym (ap (λ t. if t then InTable p else b.deed name) (same-name name name refl));
        held = held-now;
        brought = λ to sender. sym (only-stayed script p w next after.node takes [] [] changes
            (λ t s fs. filter (brings name) fs) (λ t s. filter-is-list-map (brings name)) tt to sender
            ∙ left-alone to sender);
        kept = λ pid. ap (λ y. filter (is_parcel_with name) (held_for y (Proc pid))) (sym same-there);
        hand = refl;
        begins = begins-now;
        steps = steps-now;
        ranges = λ q. sym (made-same script p w next after.node takes [] [] changes
            (λ t s fs. flat_map (range_steps_of x.used b.call name) fs) (λ t s. flat_map-is-list-map _) (refl, tt) tt q
            1);
        placed = λ q. sym (made-same script p w next after.node takes [] [] changes
            (λ t s fs. placed_in name fs) (λ t s. flat_map-is-list-map _) (refl, tt) tt 1 q);
        news = λ q. ap (λ y. news name (x.used && is_maker (maker y name) q) (frames_to w 1 q)) (sym same-there)
            ∙ sym (made-same script p w next after.node takes [] [] changes
            (λ t s fs. news name (x.used && is_maker (maker (directory_of next) name) s) fs)
            (λ t s. flat_map-is-list-map _) (refl, tt) tt 1 q);
      }

  others : (m : Name) → m ≢ name → LeavesName w next [] [] b moved p after.node changes.left m
  others m d =
      record {
        directory = same-directory (directory_of w) (directory_of next) same-there m;
        used_is = refl;
        part_is = refl;
        body_is = refl;
        deed_is = ap (λ t. if t then InTable p else b.deed m) (other-name name m (λ e. d (sym e)));
        held_is = get-put-other-name n.deeds name x.body m d;
        begins_is = λ holds_it comes. refl;
        hand_is = refl;
        steps_are = λ used q. refl;
        ranges_are = λ used q. refl;
      }

  names : (m : Name) → NameHolds script b.pids (is_born_in next) m (name_sight script next [] moved m)
  names m =
      elim (name-cases m name) [
        | inl e ↦
            subst (λ y. NameHolds script b.pids (is_born_in next) y (name_sight script next [] moved y)) (sym e)
            (name-stays script b.pids (is_born_in w) (is_born_in next) name _ _ more sight-now
            (name-arrived script b.pids (is_born_in w) name x known p other is-granted.deed_is rest-steps
            begins-here steps-were))
        | inr d ↦
            name-stays script b.pids (is_born_in w) (is_born_in next) m _ _ more
            (name-left-alone script p w next after.node takes [] [] changes [] [] b moved m (others m d)
            (other-name m name d, tt) tt) (holds.names m)
      ]
    where
      more : IsMore (is_born_in w) (is_born_in next)
      more =
          quiet-born script w next [] Nothing b (deed_in b.deed name (InTable p))
          p after.node takes [] h.low h.high holds
          changes quiet

  -- The deed is in this node's table now.
  pub grant-keeps : KeepsAs script w (events.Take p 1) moved
  grant-keeps =
      record {
        next = next;
        is_step = take-steps script w p 1 (frames.Grant packed) rest after holds.shape h rule refl;
        holds = quiet-keeps script w next [] Nothing b (deed_in b.deed name (InTable p))
            p after.node takes [] h.low h.high
            holds changes quiet names;
      }
