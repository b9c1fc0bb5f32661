-- A process that is parked in `waitpid` is woken at its node: in line the call does then what it does at once, and it
-- is over.
use Rattle.std.proofs.Common.{Bool, List, Option, Some, [], ap, arith, false, filter, flat_map, if◌then◌else◌, inl, inr, refl, subst, sym, true, ℕ, ◌++◌, ◌∙◌, ◌∷◌, ◌≡◌, ◌≢◌, ◌≤◌, is_some}
use Rattle.std.proofs.lemmas.Bool.{cases_eq, eq-eqb, false≢true, ne_eqb}
use Rattle.pico_base.specs.declared.call.Call.{Call}
use Rattle.pico_base.specs.declared.call.Call.TheVariants as calls
use Rattle.pico_base.specs.declared.reply.Entry.{Entry}
use Rattle.pico_base.specs.declared.numbers.Kind.{Kind}
use Rattle.pico_base.specs.declared.numbers.Name.TheVariants.{Msg, Proc, Sem}
use Rattle.pico_base.specs.declared.numbers.Name.{Name}
use Rattle.pico_base.specs.declared.reply.Reply.{Reply}
use Rattle.pico_base.specs.declared.script.Script.{Script}
use Rattle.pico_base.specs.declared.reply.Reply.TheVariants as replies
use Rattle.number_maps.specs.Maps.{get, is_used}
use Rattle.kernel_model.specs.Kernel.{Kernel, Process}
use Rattle.kernel_model.specs.Kernel as kernel
use Rattle.kernel_model.specs.Fitting.{Places, place_after, places_after, Place}
use Rattle.kernel_model.specs.Row.{Row}
use Rattle.waiting_model.specs.Linear.{at_once, line_of}
use Rattle.waiting_model.specs.Kernel as whole_kernels
use Rattle.world_laws.specs.Places.{Beside, CallPlace, DeedPlace, Idle, InCheckpoint, InTable, Parked, call_in}
use Rattle.world_laws.specs.Families.{BornIn, FamilyHolds, HoldsIn, IsBorn, IsWithParent, NodeHolds, checkpoints_to}
use Rattle.world_laws.specs.Callers.{CallHolds, CallSight, FreeIn, HasCall, HasCallOrNone, IsFree, IsNowhere, IsSoFar, IsToBeMade, asked_of, call_sight, frame_at, is_about, is_at_work, is_end_place, is_end_stage, is_held_at, is_in_hand, is_in_stream, is_item_about, is_waiter_of, is_waiting_at, only_if, tries_made}
use Rattle.world_laws.proofs.Changes.{Changes, filter-is-list-map, made-same, read-same, stayed}
use Rattle.world_laws.specs.Ranges.{FewRanges, KeysHold, KindHolds, has_lease, kind_sight}
use Rattle.world_laws.specs.Invariant.{HoldsOwing, IsShaped, process_deed}
use Rattle.world_laws.proofs.Lines.{IsAnswered, answered, due-at-line}
use Rattle.world_laws.proofs.Stays.{IsMore, SameCall, call-stays, kind-stays, name-stays}
use Rattle.world_laws.proofs.LeftAlone.{LeavesName, kind-left-alone, name-left-alone, same-directory}
use Rattle.world_laws.specs.Names.{NameHolds, forker, held_as, name_sight, range_steps_of}
use Rattle.world_laws.specs.Cancels.{Owing, Wakes}
use Rattle.world_laws.specs.Sights.{directory_of, is_born_in, is_born_stage, node_of, stage_of}
use Rattle.world_laws.proofs.Named.{get-put-other-name, get-put-same-name, name-cases}
use Rattle.world_laws.proofs.NameFacts.{held-here}
use Rattle.world_laws.specs.Plays.{plays}
use Rattle.world_laws.specs.Wholes.{under_way_at}
use Rattle.node_model.specs.Bodies.{Body, Deeds, Gone, Living as LivingBody, body_in}
use Rattle.node_model.specs.Caller.{Caller, answer_call, caller_place}
use Rattle.node_model.specs.Directory.{Directory, held_for}
use Rattle.node_model.specs.declared.held.Held.TheVariants.{Request}
use Rattle.node_model.specs.declared.held.Held.{Held}
use Rattle.node_model.specs.Carrying.{done, in_body, on_body, on_row}
use Rattle.node_model.specs.Kinds.{for_kind, get_named, is_object, put_all, put_named}
use Rattle.node_model.specs.Serving.{waiting_as}
use Rattle.serve_laws.specs.Served.{Does, found_gone, line, Line}
use Rattle.serve_laws.specs.Laws.{is_found}
use Rattle.rule_laws.proofs.own.Entries.{EntryLeaves}
use Rattle.rule_laws.proofs.own.Served.{FindsOne, found-is, found-one, served-leaves, served-place}
use Rattle.rule_laws.proofs.own.EntryMoves.{IsEntryMove, entry-born, entry-keeps, few-after, ranges-still, steps-still}
use Rattle.rule_laws.proofs.own.Rebodied.{name-rebodied, name-seen-rebodied}
use Rattle.rule_laws.proofs.own.Alone.{process-is-body, process-unchanged, process-waiters}
use Rattle.rule_laws.proofs.own.Bodies.{process_bodies}
use Rattle.rule_laws.proofs.CallMoves.{same-but-call}
use Rattle.entry_laws.proofs.Served.{FindsChild}
use Rattle.entry_laws.specs.Entering.{HasHistory, KeepsKeys, MayMake}
use Rattle.entry_laws.proofs.Lined.{Lined, lined, lined-finds}
use Rattle.entry_laws.proofs.History.{history-goes-on, may-make-from}
use Rattle.entry_laws.proofs.Keys.{keys-kept, size-same}
use Rattle.entry_laws.proofs.Replies.{set-not-found}
use Rattle.entry_laws.proofs.Numbers.{used-kept}
use Rattle.world_model.specs.Node.{Leader, Leaving, Left, Living, Node, Over, Stage, Unborn}
use Rattle.world_model.specs.World.{World, node_count}
use Rattle.route_laws.proofs.exits.Parts.{process-part}
use Rattle.route_laws.proofs.Entered.{KeepsDoom}
use Rattle.pico_base.specs.declared.reply.Ending.{Ending}

in-checkpoint-not : (to node : ℕ) → InCheckpoint to ≡ InTable node → ⊥
in-checkpoint-not to node h = cc

gone-is-no-row : (row : Row) → Gone ≡ LivingBody row → ⊥
gone-is-no-row row h = cc

some-same : {A : Type 0} {u v : A} → Some u ≡ Some v → u ≡ v
some-same e = cc

proc-same : (a e : ℕ) → Proc a ≡ Proc e → a ≡ e
proc-same a e h = cc

queue-is-no-process : (id pid : ℕ) → Msg id ≡ Proc pid → ⊥
queue-is-no-process id pid h = cc

set-is-no-process : (id pid : ℕ) → Sem id ≡ Proc pid → ⊥
set-is-no-process id pid h = cc

-- no queue is found as a child
queue-not-found : (r : Reply) (id : ℕ) → is_found r (Msg id) ≡ false
queue-not-found (replies.Child child ending) id = refl
queue-not-found r id = refl

with-parent : (deed : ℕ → DeedPlace) (parent pid : ℕ) (process : Process) (ending : Ending)
    → process ≡ kernel.Ended ending → IsWithParent deed parent pid process → deed pid ≡ deed parent
with-parent deed parent pid process ending is h = subst (λ (x : Process). IsWithParent deed parent pid x) is h

-- ---- the deeds then

put-found : (deeds : Deeds) (reply : Reply) (m : Name) → is_found reply m ≡ true
    → get_named (put_all deeds (found_gone (Some reply))) m ≡ Some Gone
put-found deeds (replies.Child child ending) m h =
    subst (λ y. get_named (put_named deeds (Proc child) Gone) y ≡ Some Gone) (sym (found-is child ending m h))
    (get-put-same-name deeds (Proc child) Gone)
put-found deeds reply m h = absurd (false≢true h)

put-unfound : (deeds : Deeds) (reply : Reply) (m : Name) → is_found reply m ≡ false
    → get_named (put_all deeds (found_gone (Some reply))) m ≡ get_named deeds m
put-unfound deeds (replies.Child child ending) m h =
    get-put-other-name deeds (Proc child) Gone m
    (λ same. false≢true (sym h ∙ ap (is_found (replies.Child child ending)) same ∙ eq-eqb child child refl))
put-unfound deeds reply m h = refl

-- a process that is at work and doesn't end makes calls
pub stage-living : (stage : Stage) → is_at_work stage ≡ true → is_end_stage stage ≡ false → stage ≡ Living
stage-living Living work no_end = refl
stage-living Unborn work no_end = absurd (false≢true work)
stage-living Over work no_end = absurd (false≢true work)
stage-living Leaving work no_end = absurd (false≢true (sym no_end))
stage-living Left work no_end = absurd (false≢true (sym no_end))

-- What is known of it: the call under way, where it is parked, its process's row, and what the call leaves of that at
-- once.
pub record WaitsHere (w : World) (b : Beside) (p : ℕ) (which : Option ℕ) (reply : Reply) (row left : Row) : Type 0
  where
    pub under_way : under_way_at w p ≡ Some (calls.WaitPid which false)
    pub parked : b.call p ≡ Parked
    pub deed : b.deed (Proc (b.pids p)) ≡ InTable p
    pub here : (let n : Node = node_of w p in get_named n.deeds (Proc (b.pids p)) ≡ Some (LivingBody row))
    pub waited : on_row row (b.pids p) (at_once (calls.WaitPid which false)) ≡ done left reply

module _ (script : Script) (w : World) (hand : List Held) {owes : Owing} (b : Beside)
    (holds : HoldsOwing script w hand owes b) (p : ℕ) (low : 1 ≤ p) (high : p ≤ node_count script)
    (which : Option ℕ) (reply : Reply) (row left : Row) (s : WaitsHere w b p which reply row left)
    (whole : whole_kernels.Kernel) (deeds-now : Deeds)
    (deeds_are : (m : Name)
    → (let n : Node = node_of w p
    in get_named deeds-now m
    ≡ get_named (put_all n.deeds ((Proc (b.pids p), LivingBody left) ∷ found_gone (Some reply))) m)) where
  abbrev n : Node
  n = node_of w p

  abbrev k : Kernel
  k = b.kernel

  abbrev pid : ℕ
  pid = b.pids p

  abbrev name : Name
  name = Proc pid

  abbrev call : Call
  call = calls.WaitPid which false

  abbrev place : Place
  place = caller_place script p n.caller

  abbrev x : CallSight
  x = call_sight w hand b p

  node-holds : NodeHolds script b.pids (is_born_in w) p n
  node-holds = holds.nodes p low high

  pid-is : n.pid ≡ pid
  pid-is = sym (node-holds.rows pid row s.here)

  -- ---- the call

  call-holds : CallHolds script p (is_born_in w) x
  call-holds = holds.calls p low high

  has : HasCall script p (is_born_in w) x call
  has = subst (λ o. HasCallOrNone script p (is_born_in w) x o) s.under_way call-holds.call

  to-be-made : IsToBeMade script p x call
  to-be-made = subst (λ z. IsSoFar script p x call z) s.parked has.so_far

  stage-is : n.stage ≡ Living
  stage-is = stage-living n.stage has.at_work (sym call-holds.ends ∙ ap is_end_place s.parked)

  birth : IsBorn script b.pids p n.pid n.parent n.parent_node
  birth =
      subst (λ stage. BornIn script b.pids p n.pid n.parent n.parent_node stage) stage-is node-holds.birth

  may : MayMake k pid call
  may = may-make-from script b.lines k b.places pid call to-be-made.alive holds.history to-be-made.lives to-be-made.may

  -- ---- its line

  abbrev its-line : Line
  its-line = line pid call reply

  body-is : body_in k name ≡ LivingBody row
  body-is =
      let known : NameHolds script b.pids (is_born_in w) name (name_sight script w hand b name) = holds.names name
      in some-same
      (ap Some (sym (process-part script w hand b pid holds)) ∙ sym (held-here p (b.body name))
      ∙ ap (λ d. held_as d (b.body name) p) (sym s.deed) ∙ sym (known.tables p) ∙ s.here)

  -- In line it does what it does at once.
  pub waited_line : Lined k name its-line (LivingBody left)
  waited_line =
      lined k name its-line (LivingBody left) may refl refl
      (Does (in_body LivingBody (done left reply))
      (ap (λ (v : Body). on_body name v pid (at_once call)) body-is ∙ ap (in_body LivingBody) s.waited) refl refl)

  abbrev c : Lined k name its-line (LivingBody left)
  c = waited_line

  abbrev entry : Entry
  entry = line_of p pid call reply

  abbrev places-now : Places
  places-now = places_after script b.places entry place

  pub woken_leaves : EntryLeaves k b.places pid c.next places-now
  woken_leaves =
      served-leaves k name its-line (LivingBody left) may c refl refl script b.places p p n.caller to-be-made.there
      to-be-made.due

  pub woken-objects : (m : Name) → is_object m ≡ true → body_in c.next m ≡ body_in k m
  woken-objects (Msg id) object = c.others (Msg id) (queue-is-no-process id pid) (queue-not-found reply id)
  woken-objects (Sem id) object = c.others (Sem id) (set-is-no-process id pid) (set-not-found reply id)
  woken-objects (Proc q) object = absurd (false≢true object)

  -- a child that was found has its deed here, too
  found-deed : (m : Name) → is_found reply m ≡ true → b.deed m ≡ InTable p
  found-deed m there =
      let f : FindsOne reply = found-one reply m there
      in let m-is : m ≡ Proc f.child =
      found-is f.child f.ending m (ap (λ (r : Reply). is_found r m) (sym f.is) ∙ there)
      in let finds : FindsChild k pid name may.alive f.child f.ending =
      lined-finds k name its-line (LivingBody left) may c f.child f.ending refl f.is
      in let family : FamilyHolds script b.pids b.places k (process_deed b.deed) (checkpoints_to script w p)
      (stage_of w p) p = holds.families p birth.forked
      in let child = family.children may.alive f.child may.lives (inr (f.ending, finds.kept))
      in let its : FamilyHolds script b.pids b.places k (process_deed b.deed) (checkpoints_to script w child.0)
      (stage_of w child.0) child.0 = holds.families child.0 (λ none. child.3 (sym child.2 ∙ none))
      in let over : its.process ≡ kernel.Ended f.ending =
      some-same (sym its.is ∙ ap (get k.processes) child.2 ∙ finds.ended)
      in ap b.deed (m-is ∙ ap Proc (sym child.2))
      ∙ with-parent (process_deed b.deed) (b.pids (forker script child.0)) (b.pids child.0) its.process f.ending over
      its.with_parent
      ∙ ap (λ (y : ℕ). b.deed (Proc (b.pids y))) child.1 ∙ s.deed

  -- which isn't the process itself
  found-other : (m : Name) → is_found reply m ≡ true → m ≢ name
  found-other m there same =
      gone-is-no-row left (sym (c.found m there) ∙ ap (body_in c.next) same ∙ c.there)

  awaited : (q to : ℕ) → b.deed (Proc q) ≡ InCheckpoint to → body_in c.next (Proc q) ≡ body_in k (Proc q)
  awaited q to e =
      c.others (Proc q) (λ same. in-checkpoint-not to p (sym e ∙ ap b.deed same ∙ s.deed))
      (not-found (is_found reply (Proc q)) refl)
    where
      not-found : (t : Bool) → is_found reply (Proc q) ≡ t → is_found reply (Proc q) ≡ false
      not-found false is = is
      not-found true is = absurd (in-checkpoint-not to p (sym e ∙ found-deed (Proc q) is))

  -- another process that lives then lived, and was doomed if it is
  pub woken-keeps-doom : (q : ℕ) → q ≢ pid → KeepsDoom k c.next q
  woken-keeps-doom q other r is = by-found (is_found reply (Proc q)) refl
    where
      by-found : (t : Bool) → is_found reply (Proc q) ≡ t
          → (z : Row) × (body_in k (Proc q) ≡ LivingBody z) × (is_some r.signals.doom ≡ is_some z.signals.doom)
      by-found true found = absurd (gone-is-no-row r (sym (c.found (Proc q) found) ∙ is))
      by-found false none = (r, sym (c.others (Proc q) (λ same. other (proc-same q pid same)) none) ∙ is, refl)

  -- ---- the node

  abbrev next-caller : Caller
  next-caller = answer_call script p n.caller call reply

  abbrev pub woken_node : Node
  woken_node = record n { caller = next-caller; deeds = deeds-now }

  found-there : (m : Name) → is_found reply m ≡ true → get_named deeds-now m ≡ Some Gone
  found-there m there = deeds_are m ∙ put-found (put_named n.deeds name (LivingBody left)) reply m there

  unfound : (m : Name) → is_found reply m ≡ false
      → get_named deeds-now m ≡ get_named (put_named n.deeds name (LivingBody left)) m
  unfound m none = deeds_are m ∙ put-unfound (put_named n.deeds name (LivingBody left)) reply m none

  name-there : get_named deeds-now name ≡ Some (LivingBody left)
  name-there = by-found (is_found reply name) refl
    where
      by-found : (t : Bool) → is_found reply name ≡ t → get_named deeds-now name ≡ Some (LivingBody left)
      by-found true is = absurd (found-other name is refl)
      by-found false is = unfound name is ∙ get-put-same-name n.deeds name (LivingBody left)

  others-there : (m : Name) → m ≢ name → is_found reply m ≡ false → get_named deeds-now m ≡ get_named n.deeds m
  others-there m d none = unfound m none ∙ get-put-other-name n.deeds name (LivingBody left) m d

  rows-now : (q : ℕ) (r : Row) → get_named deeds-now (Proc q) ≡ Some (LivingBody r) → q ≡ n.pid
  rows-now q r there =
      elim (cases_eq q pid) [
        | inl e ↦ e ∙ sym pid-is
        | inr d ↦ by-found (λ same. d (proc-same q pid same)) (is_found reply (Proc q)) refl
      ]
    where
      by-found : Proc q ≢ name → (t : Bool) → is_found reply (Proc q) ≡ t → q ≡ n.pid
      by-found d false none = node-holds.rows q r (sym (others-there (Proc q) d none) ∙ there)
      by-found d true is = absurd (gone-is-no-row r (some-same (sym (found-there (Proc q) is) ∙ there)))

  node-now : NodeHolds script b.pids (is_born_in w) p woken_node
  node-now =
      record {
        number = node-holds.number;
        holds = subst (λ (stage : Stage). HoldsIn p woken_node stage) (sym stage-is)
            (record { row = left; here = ap (λ (q : ℕ). get_named deeds-now (Proc q)) pid-is ∙ name-there });
        birth = node-holds.birth;
        first = node-holds.first;
        others = node-holds.others;
        rows = rows-now;
        owners = node-holds.owners;
      }

  keeps-keys : KeepsKeys k c.next
  keeps-keys =
      record {
        queues = λ key. c.queue_keys key;
        sets = λ key. c.set_keys key;
        sizes = λ key id bound. size-same c.next k id
            (c.others (Sem id) (set-is-no-process id pid) (set-not-found reply id));
      }

  history-now : HasHistory script (b.lines ++ entry ∷ []) c.next places-now
  history-now =
      history-goes-on script b.lines k b.places p pid call reply place c.next holds.history to-be-made.there
      to-be-made.due c.enters.makes

  pub woken-answered : IsAnswered script p n.caller call reply next-caller
  woken-answered =
      let shape : IsShaped script w = holds.shape
      in let at = due-at-line script p n.caller call to-be-made.due
      in answered script p shape.tries n.caller call reply at.0 at.1 has.try_left

  -- ---- beside the world

  abbrev calls-now : ℕ → CallPlace
  calls-now = call_in b.call p Idle

  -- what is beside it then
  abbrev pub woken_beside : Beside
  woken_beside =
      record b {
        lines = b.lines ++ entry ∷ [];
        kernel = c.next;
        places = places-now;
        whole = whole;
        call = calls-now;
        body = process_bodies c.next b.body;
      }

  here-now : calls-now p ≡ Idle
  here-now = ap (λ t. if t then Idle else b.call p) (eq-eqb p p refl)

  elsewhere : (y : ℕ) → y ≢ p → calls-now y ≡ b.call y
  elsewhere y d = ap (λ t. if t then Idle else b.call y) (ne_eqb p y (λ e. d (sym e)))

  module _ (next : World) (changes : Changes script p w next woken_node [] [] []) where
    same-there : directory_of next ≡ directory_of w
    same-there =
        read-same script p w next woken_node [] [] [] changes (λ (m : Node). m.leader.directory) refl 1

    keys-now : KeysHold (node_of next 1).leader c.next
    keys-now =
        subst (λ (l : Leader). KeysHold l c.next)
        (sym (read-same script p w next woken_node [] [] [] changes (λ (m : Node). m.leader) refl 1))
        (let l : Leader = (node_of w 1).leader
        in keys-kept l.queue_keys l.set_keys k c.next keeps-keys holds.keys)

    move : IsEntryMove script w next hand hand owes Wakes b woken_beside p woken_node [] [] p
    move =
        record {
          entry = woken_leaves;
          history = history-now;
          keys = keys-now;
          forked = birth.forked;
          born = ap is_born_stage stage-is;
          awaited = awaited;
          stage = refl;
          under_way = λ is_left. absurd (left-not (sym stage-is ∙ is_left));
          own = λ d. absurd (d refl);
          directory = same-but-call p (directory_of w) (directory_of next) same-there holds.leading;
          node = node-now;
          deeds = λ q. refl;
          calls = λ y d. elsewhere y d;
          hand_of_others = λ y d. refl;
          parcels_at_hand = λ parcel there. there;
          whole = λ h. tt;
          waiters_of_others = λ y d m. ap (filter (is_waiter_of y))
              (process-waiters script w hand owes b holds c.next woken-objects m);
          cancel_of_others = λ y d. refl;
          owed_of_others = λ y d same h. tt;
          makers_stay = λ m node unused used. absurd
              (false≢true (sym unused ∙ sym (used-kept k pid call reply c.next c.enters m) ∙ used));
          plain_taken = tt;
          plain_sent = tt;
          no_birth_taken = tt;
          no_birth_sent = tt;
          of_no_other = λ y d. tt;
          sent_of_no_other = λ y d. tt;
          no_cancel_taken = λ y d. tt;
          no_cancel_sent = λ y d. tt;
          may_be_sent = tt;
          to_others = tt;
        }
      where
        left-not : Living ≡ Left → ⊥
        left-not h = cc

    more : IsMore (is_born_in w) (is_born_in next)
    more =
        entry-born script w next hand hand owes Wakes b woken_beside p woken_node [] [] [] p low high holds changes move

    -- the call is over

    abbrev over : CallSight
    over =
        record x {
          caller = next-caller;
          place = Some (place_after place call (Some reply));
          alive = Some c.caller.alive;
          call = Idle;
        }

    nowhere : IsNowhere over
    nowhere =
        record {
          in_streams = λ to sender. has.just_there.in_streams to sender
              ∙ ap (λ z. only_if (is_in_stream z p to sender) (frame_at z (asked_of x call))) s.parked;
          held_for_names = λ m. has.just_there.held_for_names m
              ∙ ap (λ z. only_if (is_held_at z m) (Request (asked_of x call))) s.parked;
          in_hand = has.just_there.in_hand ∙ ap (λ z. only_if (is_in_hand z) (Request (asked_of x call))) s.parked;
          waiting = λ m. has.just_there.waiting m
              ∙ ap (λ z. only_if (is_waiting_at z m) (waiting_as (asked_of x call))) s.parked;
        }

    free-now : IsFree script p over
    free-now =
        record {
          there = ap Some (sym woken-answered.place_is);
          alive = c.caller.alive;
          lives = refl;
          tickets =
              let few = has.tickets
              in let many = woken-answered.more_tries
              in subst (λ t. t ≤ tries_made script p next-caller) (sym woken-answered.ticket_is)
              (omega (arith, few, many));
          try_left = woken-answered.left;
        }

    call-over : CallHolds script p (is_born_in w) over
    call-over =
        record {
          call = subst (λ o. HasCallOrNone script p (is_born_in w) over o) (sym woken-answered.free)
              (record {
                nowhere = nowhere;
                idle = refl;
                free = subst (λ stage. FreeIn script p over stage) (sym stage-is) free-now;
              });
          ends = ap is_end_stage (sym stage-is);
        }

    sight-now : SameCall over (call_sight next hand woken_beside p)
    sight-now =
        record {
          number = sym (ap (λ (m : Node). m.number) changes.here);
          pid = sym (ap (λ (m : Node). m.pid) changes.here);
          stage = sym (ap (λ (m : Node). m.stage) changes.here);
          caller = sym (ap (λ (m : Node). m.caller) changes.here);
          leases = sym (ap (λ (m : Node). m.leases) changes.here);
          place = sym (served-place k name its-line (LivingBody left) may c refl refl script b.places p place);
          alive = sym c.caller.lives;
          call = sym here-now;
          frames_about = λ to sender. sym (made-same script p w next woken_node [] [] [] changes
              (λ t q fs. filter (is_about p t q) fs) (λ t q. filter-is-list-map (is_about p t q)) tt tt to sender);
          held = λ m. sym (ap (λ (d : Directory). filter (is_item_about p) (held_for d m)) same-there);
          hand = refl;
          waiters = λ m. sym (ap (filter (is_waiter_of p))
              (process-waiters script w hand owes b holds c.next woken-objects m));
        }

    call-now : CallHolds script p (is_born_in next) (call_sight next hand woken_beside p)
    call-now = call-stays script p (is_born_in w) (is_born_in next) _ _ more sight-now call-over

    -- no frame was about it
    left-alone : (t q : ℕ) → filter (is_about p t q) (changes.left t q) ≡ []
    left-alone t q =
        stayed script p w next woken_node [] [] [] changes (λ t q fs. filter (is_about p t q) fs)
        (λ t q. filter-is-list-map (is_about p t q)) tt t q
        ∙ nowhere.in_streams t q

    steps-left : (used : Bool) (m : Name) (y : ℕ)
        → plays used calls-now m (changes.left y 1) ≡ plays used b.call m (changes.left y 1)
    steps-left used m y =
        steps-still script w next hand hand owes Wakes b woken_beside p woken_node [] [] [] p low high holds changes
        move
        used y (left-alone y 1) m

    ranges-left : (used : Bool) (m : Name) (y : ℕ)
        → flat_map (range_steps_of used calls-now m) (changes.left y 1)
        ≡ flat_map (range_steps_of used b.call m) (changes.left y 1)
    ranges-left used m y =
        ranges-still script w next hand hand owes Wakes b woken_beside p woken_node [] [] [] p low high holds changes
        move
        used y (left-alone y 1) m

    -- the names

    leaves-name : (m : Name) → m ≢ name → is_found reply m ≡ false
        → LeavesName w next hand hand b woken_beside p woken_node changes.left m
    leaves-name m d none =
        record {
          directory = same-directory (directory_of w) (directory_of next) same-there m;
          used_is = used-kept k pid call reply c.next c.enters m;
          part_is = c.others m d none;
          body_is = process-unchanged script w hand owes b holds c.next woken-objects m (c.others m d none);
          deed_is = refl;
          held_is = others-there m d none;
          begins_is = λ holds_it comes. refl;
          hand_is = refl;
          steps_are = λ used y. steps-left used m y;
          ranges_are = λ used y. ranges-left used m y;
        }

    rebodies : (m : Name) → b.deed m ≡ InTable p → get_named deeds-now m ≡ Some (woken_beside.body m)
        → NameHolds script b.pids (is_born_in next) m (name_sight script next hand woken_beside m)
    rebodies m deed now =
        let old : NameHolds script b.pids (is_born_in w) m (name_sight script w hand b m) = holds.names m
        in name-stays script b.pids (is_born_in w) (is_born_in next) m _ _ more
        (name-seen-rebodied script p w next woken_node [] [] [] changes hand hand b woken_beside m old.tables
        (record {
          directory = same-directory (directory_of w) (directory_of next) same-there m;
          used_is = used-kept k pid call reply c.next c.enters m;
          deed_was = deed;
          deed_is = refl;
          held_is = now;
          begins_is = λ holds_it comes. refl;
          hand_is = refl;
          steps_are = λ used y. steps-left used m y;
          ranges_are = λ used y. ranges-left used m y;
        }) tt tt)
        (name-rebodied script b.pids (is_born_in w) m (name_sight script w hand b m) p (body_in c.next m)
        (woken_beside.body m) (process-is-body script w hand owes b holds c.next woken-objects m) deed old)

    names-now : (m : Name) → NameHolds script b.pids (is_born_in next) m (name_sight script next hand woken_beside m)
    names-now m =
        elim (name-cases m name) [
          | inl e ↦ rebodies m (ap b.deed e ∙ s.deed) (at-name m e)
          | inr d ↦ by-found d (is_found reply m) refl
        ]
      where
        at-name : (m : Name) → m ≡ name → get_named deeds-now m ≡ Some (woken_beside.body m)
        at-name m e =
            subst (λ (y : Name). get_named deeds-now y ≡ Some (woken_beside.body y)) (sym e)
            (name-there ∙ ap Some (sym c.there))

        child-gone : (f : FindsOne reply) → m ≡ Proc f.child → is_found reply m ≡ true → woken_beside.body m ≡ Gone
        child-gone f m-is there =
            ap woken_beside.body m-is ∙ c.found (Proc f.child) (ap (is_found reply) (sym m-is) ∙ there)

        by-found : m ≢ name → (t : Bool) → is_found reply m ≡ t
            → NameHolds script b.pids (is_born_in next) m (name_sight script next hand woken_beside m)
        by-found d true there =
            let f : FindsOne reply = found-one reply m there
            in let m-is : m ≡ Proc f.child =
            found-is f.child f.ending m (ap (λ (r : Reply). is_found r m) (sym f.is) ∙ there)
            in rebodies m (found-deed m there) (found-there m there ∙ ap Some (sym (child-gone f m-is there)))
        by-found d false none =
            name-stays script b.pids (is_born_in w) (is_born_in next) m _ _ more
            (name-left-alone script p w next woken_node [] [] [] changes hand hand b woken_beside m
            (leaves-name m d none) tt tt) (holds.names m)

    -- the numbers

    numbers-now : (kind : Kind) → KindHolds (is_born_in next) (kind_sight next c.next kind)
    numbers-now kind =
        kind-stays (is_born_in w) (is_born_in next) _ _ more
        (kind-left-alone script p w next woken_node [] [] [] changes k c.next kind
        (λ number. ap (λ used. is_used used number) (c.enters.used kind)) refl
        (ap (λ (d : Directory). for_kind d.ranges kind) same-there) tt tt) (holds.kinds kind)

    lease-same : (kind : Kind) (y : ℕ) → has_lease kind (calls-now y) ≡ has_lease kind (b.call y)
    lease-same kind y =
        elim (cases_eq y p) [
          | inl e ↦
              subst (λ z. has_lease kind (calls-now z) ≡ has_lease kind (b.call z)) (sym e)
              (ap (has_lease kind) here-now ∙ sym (ap (has_lease kind) s.parked))
          | inr d ↦ ap (has_lease kind) (elsewhere y d)
        ]

    few-now : (kind : Kind) → FewRanges script next calls-now kind
    few-now kind =
        few-after script w next hand hand owes Wakes b woken_beside p woken_node [] [] [] p low high holds changes move
        kind (ap (λ (d : Directory). for_kind d.ranges kind) same-there) (lease-same kind)

    -- It is over, and all holds then, but for the kernel in which callers wait, and for withdrawals.
    pub woken-keeps : HoldsOwing script next hand Wakes woken_beside
    woken-keeps =
        entry-keeps script w next hand hand owes Wakes b woken_beside p woken_node [] [] [] p low high holds changes
        move call-now tt names-now numbers-now few-now
