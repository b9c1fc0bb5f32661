-- What holds of a name when the node that may hold its deed hands over all.
use Rattle.std.proofs.Common.{◌≡◌, ◌≢◌, ◌≤◌, ℕ, Bool, true, false, ◌&&◌, cond, if◌then◌else◌, List, [], ◌∷◌, nat_eq, Some, None, is_some, refl, ap, sym, subst, ◌∙◌, inl, inr}
use Rattle.std.proofs.lemmas.Bool.{eqb-true, false≢true}
use Rattle.pico_base.specs.declared.numbers.Name.{Name}
use Rattle.pico_base.specs.declared.numbers.Name.TheVariants.{Proc, Msg, Sem}
use Rattle.pico_base.specs.declared.script.Script.{Script}
use Rattle.rpc_frame.specs.declared.frame.Frame.{Frame}
use Rattle.rpc_frame.specs.declared.deed.Parcel.{Parcel}
use Rattle.kernel_model.specs.Fitting.{Places}
use Rattle.kernel_model.specs.Kernel.{Process}
use Rattle.kernel_model.specs.Kernel as kernel
use Rattle.node_model.specs.declared.held.Held.{Held}
use Rattle.node_model.specs.Kinds.{is_object}
use Rattle.node_model.specs.Bodies.{Body}
use Rattle.world_model.specs.Node.{Stage, Unborn, Leaving}
use Rattle.world_laws.specs.Places.{DeedPlace, Unmade, InTable, InCheckpoint, InGiveBack, InLeft}
use Rattle.world_laws.specs.Plays.{Hold, Has, Lacks, Done, PlayStep, AllGo, play, is_there}
use Rattle.world_laws.specs.Names.{NameSight, NameHolds, HasDeed, held_as, is_stream_of, is_kept_for, is_hand_place, node_in, may_be_at, IsBringer, IsItemWith, OneIf, PlaysTo, belief_of, forker}
use Rattle.world_laws.specs.Families.{IsWhereFor, IsWithParent, CheckpointIn, IsNewAt, IsAwaited}
use Rattle.world_laws.proofs.NameFacts.{held-elsewhere, one-if-sent, plays-by}
use Rattle.rule_laws.proofs.ends.Given.{frame_of}

-- ---- where the deed goes

-- where a deed is that its node hands over: an object by itself, a process in the parcel
abbrev pub handed_to : ℕ → Bool → DeedPlace
handed_to p true = InGiveBack p
handed_to p false = InLeft p

-- whether the deed is in this node's table
abbrev pub is_in_table : ℕ → DeedPlace → Bool
is_in_table p (InTable q) = nat_eq q p
is_in_table p place = false

-- what was in the node's table is on its way to the leader: an object by itself, a process in the parcel
abbrev pub handed : ℕ → Bool → DeedPlace → DeedPlace
handed p object place = if is_in_table p place then handed_to p object else place

-- a deed that the test finds is in that table
pub in-table-is : (p : ℕ) (place : DeedPlace) → is_in_table p place ≡ true → place ≡ InTable p
in-table-is p (InTable q) h = ap InTable (eqb-true q p h)
in-table-is p place h = absurd (false≢true h)

-- and one that it doesn't find is not held there
pub not-in-table : (p : ℕ) (place : DeedPlace) (body : Body) → is_in_table p place ≡ false → held_as place body p ≡ None
not-in-table p (InTable q) body h = ap (λ t. if t then Some body else None) h
not-in-table p place body h = refl

-- ---- plays

-- all go, whatever was there
pub play-all-go : (hold last : Hold) (ss : List PlayStep) → play hold (AllGo ∷ ss) ≡ Some last
    → play Done ss ≡ Some last
play-all-go Has last ss h = h
play-all-go Lacks last ss h = h
play-all-go Done last ss h = h

module _ (x : NameSight) (p : ℕ) (rest : List PlayStep) (steps : x.steps p ≡ AllGo ∷ rest)
    (old : (q : ℕ) → 2 ≤ q → PlaysTo (x.begins q) (x.steps q) (is_there q (belief_of x))) where
  plays-done : 2 ≤ p → PlaysTo Done rest (is_there p (belief_of x))
  plays-done low =
      let was : PlaysTo (x.begins p) (x.steps p) (is_there p (belief_of x)) = old p low
      in record {
        last = was.last;
        plays = play-all-go (x.begins p) was.last rest (ap (λ ss. play (x.begins p) ss) (sym steps) ∙ was.plays);
        agrees = was.agrees;
      }

  plays-left : (q : ℕ) → 2 ≤ q
      → PlaysTo (if nat_eq q p then Done else x.begins q) (if nat_eq q p then rest else x.steps q)
      (is_there q (belief_of x))
  plays-left q low =
      plays-by (nat_eq q p) Done (x.begins q) rest (x.steps q) (is_there q (belief_of x))
      (λ e. subst (λ y. PlaysTo Done rest (is_there y (belief_of x)))
      (sym (eqb-true q p e))
      (plays-done (subst (λ y. 2 ≤ y) (eqb-true q p e) low)))
      (λ e. old q low)

-- ---- a name that isn't there

-- what is seen of a name that isn't there, once the node has handed over what it had
abbrev pub left_by : NameSight → ℕ → List PlayStep → NameSight
left_by x p rest =
    record x {
      begins = λ h. if nat_eq h p then Done else x.begins h;
      steps = λ h. if nat_eq h p then rest else x.steps h;
    }

-- all holds of a name whose deed is elsewhere
pub name-left-by : (script : Script) (pids : ℕ → ℕ) (born : ℕ → Bool) (name : Name) (x : NameSight)
    → NameHolds script pids born name x → (p : ℕ) (rest : List PlayStep) → x.steps p ≡ AllGo ∷ rest
    → NameHolds script pids born name (left_by x p rest)
name-left-by script pids born name x h p rest steps =
    record {
      parts = h.parts;
      callers = h.callers;
      made = h.made;
      place_fits = h.place_fits;
      tables = h.tables;
      streams = h.streams;
      kept = h.kept;
      in_hand = h.in_hand;
      known = h.known;
      believed = h.believed;
      plays = plays-left x p rest steps h.plays;
      leader = h.leader;
      told = h.told;
      found = h.found;
      unplaced = h.unplaced;
      ranged = h.ranged;
      leased = h.leased;
      bound = h.bound;
      items = h.items;
    }

-- ---- a name that is there

-- what is seen of a name whose deed is on its way in this frame
abbrev pub handed_over : NameSight → ℕ → Bool → Frame → List PlayStep → NameSight
handed_over x p object frame rest =
    record x {
      deed = handed_to p object;
      held = λ h. None;
      brought = λ to sender. cond (nat_eq to 1 && nat_eq sender p) (frame ∷ []) [];
      begins = λ h. if nat_eq h p then Done else x.begins h;
      steps = λ h. if nat_eq h p then rest else x.steps h;
    }

fits-handed : (p : ℕ) (object : Bool) → may_be_at object (handed_to p object) ≡ true
fits-handed p true = refl
fits-handed p false = refl

held-handed : (p : ℕ) (object : Bool) (body : Body) (h : ℕ) → None ≡ held_as (handed_to p object) body h
held-handed p true body h = refl
held-handed p false body h = refl

not-unmade : (p : ℕ) (object : Bool) → handed_to p object ≡ Unmade → ⊥
not-unmade p true e = cc
not-unmade p false e = cc

streams-handed : (forks_it : ℕ → ℕ) (p : ℕ) (object : Bool) (P : Frame → Type 0) (frame : Frame) → P frame
    → (to sender : ℕ)
    → OneIf (is_stream_of forks_it (handed_to p object) to sender) P
    (cond (nat_eq to 1 && nat_eq sender p) (frame ∷ []) [])
streams-handed forks_it p true P frame holds to sender = one-if-sent (nat_eq to 1 && nat_eq sender p) P frame holds
streams-handed forks_it p false P frame holds to sender = one-if-sent (nat_eq to 1 && nat_eq sender p) P frame holds

kept-handed : (forks_it pids : ℕ → ℕ) (p : ℕ) (object : Bool) (P : Held → Type 0) (items : List Held) → items ≡ []
    → (pid : ℕ) → OneIf (is_kept_for forks_it pids (handed_to p object) pid) P items
kept-handed forks_it pids p true P items none pid = none
kept-handed forks_it pids p false P items none pid = none

hand-handed : (p : ℕ) (object : Bool) (P : Held → Type 0) (items : List Held) → items ≡ []
    → OneIf (is_hand_place (handed_to p object)) P items
hand-handed p true P items none = none
hand-handed p false P items none = none

module _ (script : Script) (pids : ℕ → ℕ) (born : ℕ → Bool) (name : Name) (x : NameSight)
    (h : NameHolds script pids born name x) (p : ℕ) (other : p ≢ 1) (deed : x.deed ≡ InTable p)
    (frame : Frame) (bringer : IsBringer pids name x.body (handed_to p (is_object name)) frame)
    (rest : List PlayStep) (steps : x.steps p ≡ AllGo ∷ rest) where
  nowhere-held : is_some (x.held 1) ≡ false
  nowhere-held =
      ap is_some
      (h.tables 1 ∙ ap (λ d. held_as d x.body 1) deed
      ∙ held-elsewhere p 1 x.body (λ e. other (sym e)))

  was-used : x.used ≡ false → ⊥
  was-used unused = in-table (sym deed ∙ h.made.1 unused)
    where
      in-table : InTable p ≡ Unmade → ⊥
      in-table e = cc

  -- all holds of a name whose deed is on its way to the leader now
  pub name-handed-over : NameHolds script pids born name (handed_over x p (is_object name) frame rest)
  name-handed-over =
      record {
        parts = h.parts;
        callers = h.callers;
        made = (λ e. absurd (not-unmade p (is_object name) e), λ u. absurd (was-used u));
        place_fits = fits-handed p (is_object name);
        tables = held-handed p (is_object name) x.body;
        streams = streams-handed (forker script) p (is_object name)
            (IsBringer pids name x.body (handed_to p (is_object name))) frame bringer;
        kept = λ pid. kept-handed (forker script) pids p (is_object name)
            (IsItemWith name x.body (pids (node_in (handed_to p (is_object name))))) (x.kept pid)
            (subst (λ d. OneIf (is_kept_for (forker script) pids d pid)
            (IsItemWith name x.body (pids (node_in d))) (x.kept pid)) deed (h.kept pid)) pid;
        in_hand = hand-handed p (is_object name)
            (IsItemWith name x.body (pids (node_in (handed_to p (is_object name))))) x.hand
            (subst (λ d. OneIf (is_hand_place d) (IsItemWith name x.body (pids (node_in d))) x.hand) deed h.in_hand);
        known = h.known;
        believed = h.believed;
        plays = plays-left x p rest steps h.plays;
        leader = sym nowhere-held ∙ h.leader;
        told = h.told;
        found = h.found;
        unplaced = h.unplaced;
        ranged = h.ranged;
        leased = h.leased;
        bound = h.bound;
        items = h.items;
      }

-- the frame brings what the node had
pub brings-handed : (pids : ℕ → ℕ) (name : Name) (body : Body) (p : ℕ) (parcel : Parcel)
    → ((pid : ℕ) → name ≡ Proc pid → HasDeed name body (pids p) parcel)
    → IsBringer pids name body (handed_to p (is_object name)) (frame_of name body parcel)
brings-handed pids (Proc pid) body p parcel has = record { parcel = parcel; is = refl; has = has pid refl }
brings-handed pids (Msg id) body p parcel has = refl
brings-handed pids (Sem id) body p parcel has = refl

-- ---- families

where-in-left : (c p : ℕ) → p ≢ 1 → (process : Process) → IsWhereFor c (InTable p) process
    → IsWhereFor c (InLeft p) process
where-in-left c p other (kernel.Living alive) h = h
where-in-left c p other (kernel.Ended ending) (inl l) = l
where-in-left c p other (kernel.Ended ending) (inr e) = absurd (other e)
where-in-left c p other kernel.Gone (inl l) = l
where-in-left c p other kernel.Gone (inr e) = absurd (other e)

-- a process's deed is where it may be, in the parcel too
pub where-handed : (c p : ℕ) → p ≢ 1 → (process : Process) (place : DeedPlace) → IsWhereFor c place process
    → IsWhereFor c (handed p false place) process
where-handed c p other process place h = by-test (is_in_table p place) refl
  where
    by-test : (t : Bool) → is_in_table p place ≡ t
        → IsWhereFor c (if t then handed_to p false else place) process
    by-test true e =
        where-in-left c p other process (subst (λ d. IsWhereFor c d process) (in-table-is p place e) h)
    by-test false e = h

-- an ended one still goes with its parent
pub parent-handed : (p : ℕ) (deed : ℕ → DeedPlace) (parent pid : ℕ) (process : Process)
    → IsWithParent deed parent pid process → IsWithParent (λ q. handed p false (deed q)) parent pid process
parent-handed p deed parent pid (kernel.Living alive) h = tt
parent-handed p deed parent pid (kernel.Ended ending) h = ap (handed p false) h
parent-handed p deed parent pid kernel.Gone h = tt

-- its Checkpoint is still on its way
pub checkpoint-handed : (script : Script) (pids : ℕ → ℕ) (places : Places) (c p : ℕ) (fs : List Frame)
    (place : DeedPlace)
    → CheckpointIn script pids places c fs place → CheckpointIn script pids places c fs (handed p false place)
checkpoint-handed script pids places c p fs place h = by-test (is_in_table p place)
  where
    by-test : (t : Bool) → CheckpointIn script pids places c fs (if t then handed_to p false else place)
    by-test true = tt
    by-test false = h

-- what is new is still new
pub fresh-handed : (p : ℕ) (process : Process) (place : DeedPlace) → IsNewAt process place
    → IsNewAt process (handed p false place)
fresh-handed p process place h = by-test (is_in_table p place)
  where
    new-in-left : (v : Process) → IsNewAt v (InLeft p)
    new-in-left (kernel.Living alive) = tt
    new-in-left (kernel.Ended ending) = tt
    new-in-left kernel.Gone = tt

    by-test : (t : Bool) → IsNewAt process (if t then handed_to p false else place)
    by-test true = new-in-left process
    by-test false = h

-- what is awaited is still awaited
pub awaited-handed : (p : ℕ) (stage : Stage) (place : DeedPlace) → IsAwaited stage place
    → IsAwaited stage (handed p false place)
awaited-handed p stage place h = by-test (is_in_table p place)
  where
    by-test : (t : Bool) → IsAwaited stage (if t then handed_to p false else place)
    by-test true = tt
    by-test false = h

-- nothing is awaited where a node leaves
pub not-awaited : (stage : Stage) (place : DeedPlace) → IsAwaited Leaving place → IsAwaited stage place
not-awaited stage (InCheckpoint to) h = absurd (is-born h)
  where
    is-born : Leaving ≡ Unborn → ⊥
    is-born e = cc
not-awaited stage place h = tt
