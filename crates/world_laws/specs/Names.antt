-- What holds of one name: where its deed is, what the leader believes, and what is on its way.
use Rattle.std.specs.Prelude.{◌≡◌, ◌≢◌, ◌↔◌, ◌≤◌, ℕ, Bool, true, false, not, ◌&&◌, nat_eq, List, [], ◌∷◌, if◌then◌else◌, Option, Some, None, is_some, Contains}
use Rattle.std.specs.List.{filter, list_any, flat_map, AllByRecursion}
use Rattle.pico_base.specs.declared.numbers.Kind.{Kind}
use Rattle.pico_base.specs.declared.numbers.Name.{Name}
use Rattle.pico_base.specs.declared.numbers.Name.TheVariants.{Proc, Msg, Sem}
use Rattle.pico_base.specs.declared.script.Script.{Script}
use Rattle.rpc_frame.specs.declared.deed.Parcel.{Parcel}
use Rattle.rpc_frame.specs.declared.frame.Frame.{Frame}
use Rattle.rpc_frame.specs.declared.frame.Frame.TheVariants as frames
use Rattle.kernel_model.specs.Script.{Vars}
use Rattle.entry_laws.specs.Entering.{is_used_name}
use Rattle.node_model.specs.declared.held.Held.{Held}
use Rattle.node_model.specs.declared.held.Held.TheVariants.{Request, Ending}
use Rattle.node_model.specs.Kinds.{kind_of, number_of, is_same_kind, is_object, get_named}
use Rattle.node_model.specs.Directory.{Directory, Place, place_of, items_of, held_for, destination_of, maker, stays, is_parcel_with}
use Rattle.node_model.specs.Leases.{lease_of}
use Rattle.node_model.specs.Bodies.{Body, body_in, bare, waiters_of}
use Rattle.node_model.specs.Spelling.{pack}
use Rattle.world_model.specs.Node.{Node, is_node}
use Rattle.world_model.specs.Lives.{is_forked_by}
use Rattle.world_model.specs.World.{World, numbers, node_count}
use Rattle.world_model.specs.Census.{brings}
use Rattle.world_laws.specs.Places.{DeedPlace, Unmade, InTable, InCheckpoint, InGrant, InGiveBack, InLeft, InKept, InHand, InExitTo, CallPlace, SentByRange, Beside}
use Rattle.world_laws.specs.Sights.{node_of, frames_to, directory_of, stage_of}
use Rattle.world_laws.specs.Plays.{Hold, PlayStep, play, plays, begin, brings_checkpoint, Belief, Nowhere, believed, is_there, is_has, placed_in, News, news, finds_place, is_call_on, is_cancel_on}

-- the node whose block forks a block, 0 for none
abbrev pub first_that : (ℕ → Bool) → List ℕ → ℕ
first_that test [] = 0
first_that test (n ∷ ns) = if test n then n else first_that test ns

abbrev pub forker : Script → ℕ → ℕ
forker script c = first_that (λ p. is_forked_by script p c) (numbers 1 (node_count script))

-- ---- what there is to see of a name

-- a call that was sent to a range's node, and a lease that brings the name's number there
pub data RangeStep : Type 0 where
  IsSentThere : RangeStep
  IsLeased : RangeStep

abbrev pub is_sent_by_range : CallPlace → Bool
is_sent_by_range (SentByRange to) = true
is_sent_by_range place = false

abbrev pub range_steps_if : Bool → RangeStep → List RangeStep
range_steps_if true s = s ∷ []
range_steps_if false s = []

abbrev pub leases_name : Name → Kind → ℕ → Bool
leases_name name kind first = is_same_kind (kind_of name) kind && list_any (nat_eq (number_of name)) (lease_of first)

-- a withdrawal goes there as its call does, as long as the name isn't used
abbrev pub range_steps_of : Bool → (ℕ → CallPlace) → Name → Frame → List RangeStep
range_steps_of used call name (frames.Forward asked) =
    range_steps_if (is_call_on name asked && is_sent_by_range (call asked.caller)) IsSentThere
range_steps_of used call name (frames.Cancel asked) =
    range_steps_if (not used && is_cancel_on name asked) IsSentThere
range_steps_of used call name (frames.Lease kind first) = range_steps_if (leases_name name kind first) IsLeased
range_steps_of used call name frame = []

-- no lease with the number stands behind the call
abbrev pub leases_first : List RangeStep → Bool
leases_first [] = true
leases_first (IsLeased ∷ rest) = leases_first rest
leases_first (IsSentThere ∷ []) = true
leases_first (IsSentThere ∷ IsSentThere ∷ rest) = leases_first (IsSentThere ∷ rest)
leases_first (IsSentThere ∷ IsLeased ∷ rest) = false

pub record NameSight : Type 0 where
  -- the leader's place of it, who has its number's range, and which nodes stay
  pub place : Option Place
  pub maker : Option ℕ
  pub stays : ℕ → Bool
  -- the kernel's part, the body, and where the deed is
  pub used : Bool
  pub part : Body
  pub body : Body
  pub deed : DeedPlace
  -- the deeds of it: at each node, in the stream to a node from a node, and in parcels that are held for a process, or
  -- in hand
  pub held : ℕ → Option Body
  pub brought : ℕ → ℕ → List Frame
  pub kept : ℕ → List Held
  pub hand : List Held
  -- what is on its way from the leader to each node, and how that begins
  pub begins : ℕ → Hold
  pub steps : ℕ → List PlayStep
  pub ranges : ℕ → List RangeStep
  -- what is on its way from each node to the leader
  pub placed : ℕ → List ℕ
  pub news : ℕ → List News

abbrev pub held_at : World → Name → ℕ → Option Body
held_at w name h =
    let n : Node = node_of w h
    in get_named n.deeds name

abbrev pub is_maker : Option ℕ → ℕ → Bool
is_maker None q = false
is_maker (Some p) q = nat_eq p q

abbrev pub comes_to : Script → World → Name → ℕ → Bool
comes_to script w name h = not (nat_eq (forker script h) 1) && brings_checkpoint name (frames_to w h (forker script h))

abbrev pub name_sight : Script → World → List Held → Beside → Name → NameSight
name_sight script w hand b name =
    let d : Directory = directory_of w
    in record {
      place = place_of d name;
      maker = maker d name;
      stays = stays d;
      used = is_used_name b.kernel name;
      part = body_in b.kernel name;
      body = b.body name;
      deed = b.deed name;
      held = held_at w name;
      brought = λ to «from». filter (brings name) (frames_to w to «from»);
      kept = λ pid. filter (is_parcel_with name) (held_for d (Proc pid));
      hand = filter (is_parcel_with name) hand;
      begins = λ h. begin (stage_of w h) (is_some (held_at w name h)) (comes_to script w name h);
      steps = λ h. plays (is_used_name b.kernel name) b.call name (frames_to w h 1);
      ranges = λ h. flat_map (range_steps_of (is_used_name b.kernel name) b.call name) (frames_to w h 1);
      placed = λ q. placed_in name (frames_to w 1 q);
      news = λ q. news name (is_used_name b.kernel name && is_maker (maker d name) q) (frames_to w 1 q);
    }

-- ---- where the deed is

pub record OnlyOne {A : Type 0} (P : A → Type 0) (xs : List A) : Type 0 where
  pub one : A
  pub only : xs ≡ one ∷ []
  pub holds : P one

-- one of a kind where the deed is there, and none where it isn't
abbrev pub OneIf : {A : Type 0} → Bool → (A → Type 0) → List A → Type 0
OneIf true P xs = OnlyOne P xs
OneIf false P xs = xs ≡ []

abbrev pub held_as : DeedPlace → Body → ℕ → Option Body
held_as (InTable node) body h = if nat_eq node h then Some body else None
held_as place body h = None

-- it is in the stream to a node from another
abbrev pub is_stream_of : (ℕ → ℕ) → DeedPlace → ℕ → ℕ → Bool
is_stream_of forks_it (InCheckpoint c) to sender = nat_eq to c && nat_eq sender (forks_it c)
is_stream_of forks_it (InGrant h) to sender = nat_eq to h && nat_eq sender 1
is_stream_of forks_it (InGiveBack h) to sender = nat_eq to 1 && nat_eq sender h
is_stream_of forks_it (InLeft c) to sender = nat_eq to 1 && nat_eq sender c
is_stream_of forks_it (InExitTo c x) to sender = nat_eq to x && nat_eq sender 1
is_stream_of forks_it place to sender = false

-- it is in a parcel that is held for this process, the parent of the node's
abbrev pub is_kept_for : (ℕ → ℕ) → (ℕ → ℕ) → DeedPlace → ℕ → Bool
is_kept_for forks_it pids (InKept c) pid = nat_eq (pids (forks_it c)) pid
is_kept_for forks_it pids place pid = false

abbrev pub is_hand_place : DeedPlace → Bool
is_hand_place (InHand c) = true
is_hand_place place = false

-- the deed with the kernel's part, alone or in the parcel of a node's process
pub record HasDeed (name : Name) (body : Body) (pid : ℕ) (parcel : Parcel) : Type 0 where
  pub there : Contains parcel.deeds (pack name body)
  pub of_process : parcel.pid ≡ pid

pub record IsCheckpointOf (name : Name) (body : Body) (frame : Frame) : Type 0 where
  pub pid : ℕ
  pub parent : ℕ
  pub vars : Vars
  pub is : frame ≡ frames.Checkpoint pid parent (pack name body) vars

pub record IsLeftOf (name : Name) (body : Body) (pid : ℕ) (frame : Frame) : Type 0 where
  pub parcel : Parcel
  pub is : frame ≡ frames.Left parcel
  pub has : HasDeed name body pid parcel

pub record IsExitOf (name : Name) (body : Body) (pid : ℕ) (frame : Frame) : Type 0 where
  pub parcel : Parcel
  pub is : frame ≡ frames.ExitTo parcel
  pub has : HasDeed name body pid parcel

abbrev pub IsBringer : (ℕ → ℕ) → Name → Body → DeedPlace → Frame → Type 0
IsBringer pids name body (InCheckpoint c) frame = IsCheckpointOf name body frame
IsBringer pids name body (InGrant h) frame = frame ≡ frames.Grant (pack name body)
IsBringer pids name body (InGiveBack h) frame = frame ≡ frames.GiveBack (pack name body)
IsBringer pids name body (InLeft c) frame = IsLeftOf name body (pids c) frame
IsBringer pids name body (InExitTo c x) frame = IsExitOf name body (pids c) frame
IsBringer pids name body place frame = Unit {0}

pub record IsItemWith (name : Name) (body : Body) (pid : ℕ) (item : Held) : Type 0 where
  pub parcel : Parcel
  pub is : item ≡ Ending parcel
  pub has : HasDeed name body pid parcel

abbrev pub node_in : DeedPlace → ℕ
node_in Unmade = 0
node_in (InTable node) = node
node_in (InCheckpoint to) = to
node_in (InGrant to) = to
node_in (InGiveBack sender) = sender
node_in (InLeft of) = of
node_in (InKept of) = of
node_in (InHand of) = of
node_in (InExitTo of to) = of

-- queues and sets are in tables and go by Grant and GiveBack; processes are in tables, in Checkpoints and in parcels
abbrev pub may_be_at : Bool → DeedPlace → Bool
may_be_at is_an_object Unmade = true
may_be_at is_an_object (InTable node) = true
may_be_at is_an_object (InGrant to) = is_an_object
may_be_at is_an_object (InGiveBack sender) = is_an_object
may_be_at is_an_object (InCheckpoint to) = not is_an_object
may_be_at is_an_object (InLeft of) = not is_an_object
may_be_at is_an_object (InKept of) = not is_an_object
may_be_at is_an_object (InHand of) = not is_an_object
may_be_at is_an_object (InExitTo of to) = not is_an_object

-- ---- what holds of it

-- what is on its way from the leader can be taken, and then the node has the deed exactly where the leader believes it
pub record PlaysTo (begins : Hold) (steps : List PlayStep) (has : Bool) : Type 0 where
  pub last : Hold
  pub plays : play begins steps ≡ Some last
  pub agrees : is_has last ≡ has

-- a Placed is sent by the name's maker, which isn't the leader, and says its own node, or the node of the process that
-- it forked
abbrev pub SaysOf : (ℕ → ℕ) → Name → ℕ → ℕ → Type 0
SaysOf pids (Proc pid) sender node = pids node ≡ pid
SaysOf pids (Msg id) sender node = node ≡ sender
SaysOf pids (Sem id) sender node = node ≡ sender

pub record IsTold (pids : ℕ → ℕ) (name : Name) (is_used : Bool) (made_by : Option ℕ) (sender node : ℕ) : Type 0 where
  pub used : is_used ≡ true
  pub maker : made_by ≡ Some sender
  pub says : SaysOf pids name sender node
  pub other : node ≢ 1

-- what is held for a name: calls on it, withdrawals of such calls, and the ends of its process's children
abbrev pub IsItemFor : Name → Held → Type 0
IsItemFor name (Request asked) = is_call_on name asked ≡ true
IsItemFor name (Ending parcel) = name ≡ Proc parcel.parent

abbrev pub is_nowhere : Belief → Bool
is_nowhere Nowhere = true
is_nowhere belief = false

-- what the leader believes of it, or will once it has taken what the maker tells it
abbrev pub maker_tells : NameSight → Option ℕ → List ℕ
maker_tells x None = []
maker_tells x (Some q) = x.placed q

abbrev pub belief_of : NameSight → Belief
belief_of x = believed x.place (maker_tells x x.maker)

pub record HasMakerThatStays (made_by : Option ℕ) (who_stays : ℕ → Bool) : Type 0 where
  pub node : ℕ
  pub makes : made_by ≡ Some node
  pub stays : who_stays node ≡ true

pub record IsBoundRightly (name : Name) (born : ℕ → Bool) (to : ℕ) : Type 0 where
  pub object : is_object name ≡ true
  pub is_born : born to ≡ true

pub record NameHolds (script : Script) (pids : ℕ → ℕ) (born : ℕ → Bool) (name : Name) (x : NameSight) : Type 0 where
  -- its body is the kernel's part, with those who wait there, who have nodes of the script
  pub parts : bare x.body ≡ x.part
  pub callers : AllByRecursion (λ w. is_node script w.caller ≡ true) (waiters_of x.body)
  -- its deed is in one place, with its body; nothing has the deed of an unused name
  pub made : (x.deed ≡ Unmade) ↔ (x.used ≡ false)
  pub place_fits : may_be_at (is_object name) x.deed ≡ true
  pub tables : (h : ℕ) → x.held h ≡ held_as x.deed x.body h
  pub streams : (to sender : ℕ)
      → OneIf (is_stream_of (forker script) x.deed to sender) (IsBringer pids name x.body x.deed) (x.brought to sender)
  pub kept : (pid : ℕ)
      → OneIf (is_kept_for (forker script) pids x.deed pid) (IsItemWith name x.body (pids (node_in x.deed)))
      (x.kept pid)
  pub in_hand : OneIf (is_hand_place x.deed) (IsItemWith name x.body (pids (node_in x.deed))) x.hand
  -- what the leader believes is what there will be
  pub known : is_some x.place ≡ true → x.used ≡ true
  pub believed : x.used ≡ true → is_nowhere (belief_of x) ≡ false
  pub plays : (h : ℕ) → 2 ≤ h → PlaysTo (x.begins h) (x.steps h) (is_there h (belief_of x))
  pub leader : is_some (x.held 1) ≡ is_there 1 (belief_of x)
  -- a maker tells the place before anything else needs it
  pub told : (sender node : ℕ) → Contains (x.placed sender) node → IsTold pids name x.used x.maker sender node
  pub found : (q : ℕ) → 2 ≤ q → finds_place (is_some x.place) (x.news q) ≡ true
  pub unplaced : x.used ≡ true → x.place ≡ None → HasMakerThatStays x.maker x.stays
  -- a call goes by range to the maker, and no lease with the number stands behind it
  pub ranged : (h : ℕ) → Contains (x.ranges h) IsSentThere → x.maker ≡ Some h
  pub leased : (h : ℕ) → 2 ≤ h → leases_first (x.ranges h) ≡ true
  -- where it is bound for, and what is held for it
  pub bound : (to : ℕ) → destination_of x.place ≡ Some to → IsBoundRightly name born to
  pub items : AllByRecursion (IsItemFor name) (items_of x.place)
