-- Each who waits at a queue or a set is a call of a node that is under way, and no node's call waits there twice: so
-- few wait, and each has its bytes.
use Rattle.std.proofs.Common.{◌≡◌, ◌≢◌, Bool, Err, None, Ok, Option, Some, [], ap, arith, cond, filter, length, map, nat_eq, not, pos, refl, subst, suc, sym, ℕ, ◌&&◌, ◌++◌, ◌<◌, ◌^◌, ◌∙◌, ◌∷◌, ◌≤◌, false, true, List, inl, inr, is_some, nat_lt, ◌+◌}
use Rattle.std.proofs.lemmas.List.Elements.{All-contains, All-from_recursion}
use Rattle.std.specs.List.{AllByRecursion, IsDistinct, list_any}
use Rattle.std.proofs.lemmas.Map.Keys.{IsDistinct-cons}
use Rattle.std.proofs.lemmas.Bool.{and_parts, cases_Bool, eq-eqb, eqb-true, false≢true, leb-true, lt-ltb, ne_eqb, or_cases, or_parts, le-leb, ltb-true}
use Rattle.std.specs.Prelude.{Contains, if◌then◌else◌, int_le, nat_le}
use Rattle.std.proofs.lemmas.Map.Made.{length-le_from_is_member}
use Rattle.std.proofs.lemmas.List.{length-map}
use Rattle.std.specs.Cmp.{nat_eq_equiv}
use Rattle.pico_base.specs.declared.call.Call.{Call}
use Rattle.pico_base.specs.declared.reply.Errno.TheVariants.{Eagain, Einval}
use Rattle.pico_base.specs.declared.numbers.Name.TheVariants.{Msg, Sem}
use Rattle.pico_base.specs.declared.numbers.Name.{Name}
use Rattle.pico_base.specs.declared.script.Script.{Script}
use Rattle.pico_base.specs.Home.{home_of}
use Rattle.pico_base.specs.declared.call.Call.TheVariants as calls
use Rattle.number_maps.specs.Maps.{get}
use Rattle.kernel_laws.specs.Reachable.{IsReachableKernel}
use Rattle.kernel_laws.proofs.Members.{contains-cases, contains-filter, contains-first, contains-later, contains-none}
use Rattle.kernel_model.specs.Script.{IsSoundScript}
use Rattle.kernel_model.specs.Queue.{Queue, has_room, is_sendable, max_text}
use Rattle.kernel_model.specs.SemaphoreSet.{SemaphoreSet, max_operations, op}
use Rattle.kernel_model.specs.Numbers.{is_u32}
use Rattle.waiting_model.specs.SemaphoreSet.{are_tried, stop_of, try_set, waits_for}
use Rattle.waiting_model.specs.Waiters.{changed}
use Rattle.waiting_model.specs.Calls.{may_park}
use Rattle.waiting_model.specs.Queue.{try_queue, try_send}
use Rattle.waiting_model.specs.declared.callers.Waiting.{Waiting}
use Rattle.world_laws.specs.Places.{AsksLease, Beside, CallPlace, Ends, HasLease, Idle, InAnswer, InAsk, InBounce, InNotOwner, InRequest, IsHeld, IsInHand, Parked, SentByPlace, SentByRange, Waits}
use Rattle.world_laws.specs.Families.{BornIn, IsBorn, NodeHolds}
use Rattle.world_laws.specs.Callers.{CallHolds, CallSight, HasCall, HasCallOrNone, asked_of, call_sight, is_at_work, is_on, is_waiter_of, is_waiting_at, only_if, IsSoFar, IsToBeMade, may_be_in, tries_made}
use Rattle.world_laws.specs.Invariant.{HoldsOwing}
use Rattle.world_laws.specs.Names.{NameHolds, name_sight}
use Rattle.world_laws.specs.Cancels.{Owing}
use Rattle.world_laws.specs.Sights.{is_born_in, node_of}
use Rattle.entry_laws.proofs.Names.{same-name-is}
use Rattle.world_laws.specs.Wholes.{under_way_at}
use Rattle.frame_bytes.specs.Fields.{is_node as is_wire_node}
use Rattle.frame_bytes.specs.Ranges.{HasCallRanges}
use Rattle.frame_bytes.specs.Limits.{is_call, is_half, is_nonzero}
use Rattle.sysv_sem.specs.Waiters.{HaveOwnProcesses, IsShortOp, LackProcess}
use Rattle.node_model.specs.declared.held.Held.{Held}
use Rattle.node_model.specs.Bodies.{waiters_of}
use Rattle.node_model.specs.Serving.{waiting_as}
use Rattle.node_model.specs.Caller.{Caller}
use Rattle.world_model.specs.World.{IsNode, World, node_count, numbers}
use Rattle.world_model.specs.Node.{Leaving, Left, Living, Over, Stage, Unborn, is_node}
use Rattle.bound_laws.proofs.Calls.{IsRanged}
use Rattle.bound_laws.proofs.Ranges.{few-blocks}
use Rattle.bound_laws.proofs.Numbers.{in-numbers, length-of-numbers, is-among}
use Rattle.bound_laws.proofs.Smalls.{caller-is-low}
use Rattle.bound_laws.proofs.Scripts.{due-in-script-is-ranged}
use Rattle.sysv_msg.specs.Body.{IsWaitingCall}
use Rattle.waiter_fields.specs.Waiters.{are_different, processes_of}
use Rattle.entry_laws.proofs.History.{history-reachable}
use Rattle.rule_laws.proofs.own.Runs.{next-ticket}

-- ---- lists in which each has a key of its own

only-is : {A : Type 0} (b : Bool) (x y : A) → Contains (only_if b x) y → (b ≡ true) × (y ≡ x)
only-is true x y h =
    (refl, elim (contains-cases x [] y h) [ inl same ↦ sym same | inr none ↦ absurd (contains-none y none) ])
only-is false x y h = absurd (contains-none y h)

only-few : {A : Type 0} (b : Bool) (x : A) → length (only_if b x) ≤ 1
only-few true x = omega arith
only-few false x = omega arith

filter-longer : {A : Type 0} (test : A → Bool) (x : A) (xs : List A) → test x ≡ true
    → length (filter test (x ∷ xs)) ≡ suc (length (filter test xs))
filter-longer test x xs h = ap (λ t. length (cond t (x ∷ filter test xs) (filter test xs))) h

filter-rest : {A : Type 0} (test : A → Bool) (x : A) (xs : List A)
    → length (filter test xs) ≤ length (filter test (x ∷ xs))
filter-rest test x xs = by (test x)
  where
    by : (t : Bool) → length (filter test xs) ≤ length (cond t (x ∷ filter test xs) (filter test xs))
    by true = omega arith
    by false = omega arith

some-filtered : {A : Type 0} (test : A → Bool) (xs : List A) (x : A) → Contains xs x → test x ≡ true
    → 1 ≤ length (filter test xs)
some-filtered test xs x there passes =
    let within : Contains (filter test xs) x = contains-filter test xs x there passes
    in let low : within.0 < length (filter test xs) = within.1
    in omega (arith, low)

any-is : (n : ℕ) (ws : List Waiting) → list_any (nat_eq n) (processes_of ws) ≡ true
    → (w : Waiting) × Contains ws w × (w.pid ≡ n)
any-is n [] h = absurd (false≢true h)
any-is n (w ∷ ws) h =
    elim (or_cases (nat_eq n w.pid) (list_any (nat_eq n) (processes_of ws)) h) [
      | inl here ↦ (w, contains-first w ws, sym (eqb-true n w.pid here))
      | inr later ↦
          let found = any-is n ws later in (found.0, contains-later w ws found.0 found.1, found.2)
    ]

-- ---- calls that wait at a queue or a set

-- a call on a queue that waits
pub queue-call : (pid id : ℕ) (call : Call) (q : Queue) → id < 2 ^ 32 → IsRanged call
    → is_on (Msg id) (home_of pid call) ≡ true → may_park call ≡ true → try_queue q pid call ≡ None
    → IsWaitingCall call
queue-call pid id (calls.MsgSnd other class text nowait) q low ranged on parks stops =
    record {
      waits = refl;
      ranges = (subst (λ n. n < 2 ^ 32) (eqb-true id other on) low, ranged);
      within = lt-ltb (length text) (2 ^ 32) (sendable (is_sendable class text) refl stops);
    }
  where
    sendable : (t : Bool) → is_sendable class text ≡ t
        → try_send q nowait (if t
        then if has_room q text
        then Ok (record q { messages = q.messages ++ record { class = class; text = text } ∷ []; last_sender = pid })
        else Err Eagain
        else Err Einval)
        ≡ None
        → length text < 2 ^ 32
    sendable true is h =
        let parts = and_parts (int_le (pos 1) class) (nat_le (length text) max_text) is
        in let short = leb-true (length text) max_text parts.1
        in omega (arith, short)
    sendable false is h = absurd (cc)
queue-call pid id (calls.MsgRcv other class size noerror nowait) q low ranged on parks stops =
    record {
      waits = refl;
      ranges = (subst (λ n. n < 2 ^ 32) (eqb-true id other on) low, ranged.0, ranged.1);
      within = refl;
    }
queue-call pid id (calls.WaitPid child nohang) q low ranged on parks stops = absurd (false≢true on)
queue-call pid id (calls.SemOp other steps) q low ranged on parks stops = absurd (false≢true on)
queue-call pid id (calls.Withdraw name) q low ranged on parks stops = absurd (false≢true parks)
queue-call pid id call q low ranged on parks stops = absurd (false≢true parks)

-- and one on a set
pub record IsWaitingOp (call : Call) : Type 0 where
  pub short : IsShortOp call
  pub ranges : HasCallRanges call
  pub within : is_call call ≡ true

-- which has bytes
pub set-call : (pid id : ℕ) (call : Call) (set : SemaphoreSet) → id < 2 ^ 32 → IsRanged call
    → is_on (Sem id) (home_of pid call) ≡ true → may_park call ≡ true → try_set set pid call ≡ None
    → IsWaitingOp call
set-call pid id (calls.SemOp other steps) set low ranged on parks stops =
    let few : length steps ≤ max_operations = tried (are_tried set steps && waits_for (stop_of set steps)) refl stops
    in let some : 1 ≤ length steps = ranged.0
    in record {
      short = few;
      ranges = (subst (λ n. n < 2 ^ 32) (eqb-true id other on) low, ranged.1);
      within = both (is_half (length steps)) (is_nonzero (length steps))
          (lt-ltb (length steps) (2 ^ 16) (omega (arith, few)))
          (lt-ltb 0 (length steps) (omega (arith, some)));
    }
  where
    tried : (t : Bool) → (are_tried set steps && waits_for (stop_of set steps)) ≡ t
        → (if t then None else Some (changed set (op set pid steps))) ≡ None → length steps ≤ max_operations
    tried true is h =
        let parts = and_parts (are_tried set steps) (waits_for (stop_of set steps)) is
        in let few = and_parts (nat_le (length steps) max_operations) _ parts.0
        in leb-true (length steps) max_operations few.0
    tried false is h = absurd (cc)

    both : (a b : Bool) → a ≡ true → b ≡ true → (a && b) ≡ true
    both true b h g = g
    both false b h g = absurd (false≢true h)
set-call pid id (calls.MsgSnd other class text nowait) set low ranged on parks stops = absurd (false≢true on)
set-call pid id (calls.MsgRcv other class size noerror nowait) set low ranged on parks stops = absurd (false≢true on)
set-call pid id (calls.WaitPid child nohang) set low ranged on parks stops = absurd (false≢true on)
set-call pid id (calls.Withdraw name) set low ranged on parks stops = absurd (false≢true parks)
set-call pid id call set low ranged on parks stops = absurd (false≢true parks)

-- ---- in a world

waiting-at : (place : CallPlace) (name : Name) → is_waiting_at place name ≡ true → place ≡ Waits name
waiting-at (Waits other) name h = ap Waits (same-name-is other name h)
waiting-at Idle name h = absurd (false≢true h)
waiting-at (AsksLease kind) name h = absurd (false≢true h)
waiting-at (HasLease kind first) name h = absurd (false≢true h)
waiting-at InAsk name h = absurd (false≢true h)
waiting-at (InRequest to) name h = absurd (false≢true h)
waiting-at (InNotOwner sender) name h = absurd (false≢true h)
waiting-at (SentByPlace to) name h = absurd (false≢true h)
waiting-at (SentByRange to) name h = absurd (false≢true h)
waiting-at (InBounce sender) name h = absurd (false≢true h)
waiting-at (IsHeld other) name h = absurd (false≢true h)
waiting-at IsInHand name h = absurd (false≢true h)
waiting-at Parked name h = absurd (false≢true h)
waiting-at (InAnswer sender reply) name h = absurd (false≢true h)
waiting-at Ends name h = absurd (false≢true h)

module _ (script : Script) (w : World) (hand : List Held) (owes : Owing) (b : Beside)
    (holds : HoldsOwing script w hand owes b) where
  sight : ℕ → CallSight
  sight p = call_sight w hand b p

  -- who waits at a name is the call under way of its node, which waits there
  pub record WaitsThere (name : Name) (v : Waiting) : Type 0 where
    pub node : IsNode script v.caller
    pub call : Call
    pub under_way : under_way_at w v.caller ≡ Some call
    pub is : v ≡ waiting_as (asked_of (call_sight w hand b v.caller) call)
    pub waits : b.call v.caller ≡ Waits name
    pub has : HasCall script v.caller (is_born_in w) (call_sight w hand b v.caller) call

  node-of-waiter : (name : Name) (v : Waiting) → Contains (waiters_of (b.body name)) v → IsNode script v.caller
  node-of-waiter name v there =
      let n : NameHolds script b.pids (is_born_in w) name (name_sight script w hand b name) = holds.names name
      in let is : is_node script v.caller ≡ true =
      All-contains (λ (u : Waiting). is_node script u.caller ≡ true) (waiters_of (b.body name)) v
      (All-from_recursion (λ (u : Waiting). is_node script u.caller ≡ true) (waiters_of (b.body name)) n.callers) there
      in let ends = and_parts (nat_le 1 v.caller) (nat_le v.caller (node_count script)) is
      in record { low = leb-true 1 v.caller ends.0; high = leb-true v.caller (node_count script) ends.1 }

  -- Each who waits is such a call.
  pub waits-there : (name : Name) (v : Waiting) → Contains (waiters_of (b.body name)) v → WaitsThere name v
  waits-there name v there = by x.caller.under_way refl k.call
    where
      own : IsNode script v.caller
      own = node-of-waiter name v there

      x : CallSight
      x = call_sight w hand b v.caller

      k : CallHolds script v.caller (is_born_in w) x
      k = holds.calls v.caller own.low own.high

      mine : Contains (x.waiters name) v
      mine =
          contains-filter (is_waiter_of v.caller) (waiters_of (b.body name)) v there (eq-eqb v.caller v.caller refl)

      by : (o : Option Call) → x.caller.under_way ≡ o → HasCallOrNone script v.caller (is_born_in w) x o
          → WaitsThere name v
      by None is none =
          absurd (contains-none v (subst (λ (vs : List Waiting). Contains vs v) (none.nowhere.waiting name) mine))
      by (Some call) is has =
          let only =
          only-is (is_waiting_at x.call name) (waiting_as (asked_of x call)) v
          (subst (λ (vs : List Waiting). Contains vs v) (has.just_there.waiting name) mine)
          in record {
            node = own;
            call = call;
            under_way = is;
            is = only.1;
            waits = waiting-at x.call name only.0;
            has = has;
          }

  -- no node's call waits there twice
  one-of-node : (name : Name) (v : Waiting) → Contains (waiters_of (b.body name)) v
      → length (filter (is_waiter_of v.caller) (waiters_of (b.body name))) ≤ 1
  one-of-node name v there =
      let it = waits-there name v there
      in let x : CallSight = call_sight w hand b v.caller
      in subst (λ (vs : List Waiting). length vs ≤ 1) (sym (it.has.just_there.waiting name))
      (only-few (is_waiting_at x.call name) (waiting_as (asked_of x it.call)))

  -- its process has its number
  pid-of-waiter : (name : Name) (v : Waiting) → Contains (waiters_of (b.body name)) v
      → (v.pid ≡ b.pids v.caller) × (b.pids v.caller ≢ 0)
  pid-of-waiter name v there = by (node_of w v.caller).stage refl k.birth it.has.at_work
    where
      it : WaitsThere name v
      it = waits-there name v there

      k : NodeHolds script b.pids (is_born_in w) v.caller (node_of w v.caller)
      k = holds.nodes v.caller it.node.low it.node.high

      born : IsBorn script b.pids v.caller (node_of w v.caller).pid (node_of w v.caller).parent
          (node_of w v.caller).parent_node
          → (v.pid ≡ b.pids v.caller) × (b.pids v.caller ≢ 0)
      born i = (ap (λ (u : Waiting). u.pid) it.is ∙ i.pid_is, i.forked)

      by : (stage : Stage) → (node_of w v.caller).stage ≡ stage
          → BornIn script b.pids v.caller (node_of w v.caller).pid (node_of w v.caller).parent
          (node_of w v.caller).parent_node stage
          → is_at_work stage ≡ true → (v.pid ≡ b.pids v.caller) × (b.pids v.caller ≢ 0)
      by Unborn is i work = absurd (false≢true work)
      by Over is i work = absurd (false≢true work)
      by Living is i work = born i
      by Leaving is i work = born i
      by Left is i work = born i

  same-process : (name : Name) (v u : Waiting) → Contains (waiters_of (b.body name)) v
      → Contains (waiters_of (b.body name)) u → v.pid ≡ u.pid → v.caller ≡ u.caller
  same-process name v u first second same =
      let pids = holds.pids
      in let a = pid-of-waiter name v first
      in let c = pid-of-waiter name u second
      in pids.apart v.caller u.caller a.1 (sym a.0 ∙ same ∙ c.0)

-- ---- so few wait

-- each of these has a node of its own, and those of one process have one node
pub record HaveOwnNodes (vs : List Waiting) : Type 0 where
  pub once : (v : Waiting) → Contains vs v → length (filter (is_waiter_of v.caller) vs) ≤ 1
  pub same : (v u : Waiting) → Contains vs v → Contains vs u → v.pid ≡ u.pid → v.caller ≡ u.caller

own-rest : (v : Waiting) (vs : List Waiting) → HaveOwnNodes (v ∷ vs) → HaveOwnNodes vs
own-rest v vs h =
    record {
      once = λ u there.
          let once = h.once u (contains-later v vs u there)
          in let less = filter-rest (is_waiter_of u.caller) v vs
          in omega (arith, once, less);
      same = λ u t first second. h.same u t (contains-later v vs u first) (contains-later v vs t second);
    }

-- one behind another isn't of its node
not-twice : (v u : Waiting) (vs : List Waiting) → HaveOwnNodes (v ∷ vs) → Contains vs u → v.caller ≡ u.caller → ⊥
not-twice v u vs h there same =
    let once = h.once v (contains-first v vs)
    in let more = filter-longer (is_waiter_of v.caller) v vs (eq-eqb v.caller v.caller refl)
    in let some =
    some-filtered (is_waiter_of v.caller) vs u there (eq-eqb u.caller v.caller (sym same))
    in absurd (omega (arith, once, more, some))

lacks-process : (v : Waiting) (vs : List Waiting) → HaveOwnNodes (v ∷ vs)
    → list_any (nat_eq v.pid) (processes_of vs) ≡ false
lacks-process v vs h =
    elim (cases_Bool (list_any (nat_eq v.pid) (processes_of vs))) [
      | inr f ↦ f
      | inl t ↦
          let u = any-is v.pid vs t
          in absurd (not-twice v u.0 vs h u.1
          (h.same v u.0 (contains-first v vs) (contains-later v vs u.0 u.1) (sym u.2)))
    ]

-- no two are of one process
pub processes-differ : (vs : List Waiting) → HaveOwnNodes vs → are_different (processes_of vs) ≡ true
processes-differ [] h = refl
processes-differ (v ∷ vs) h =
    ap (λ t. not t && are_different (processes_of vs)) (lacks-process v vs h)
    ∙ processes-differ vs (own-rest v vs h)

lack-process : (pid : ℕ) (vs : List Waiting) → list_any (nat_eq pid) (processes_of vs) ≡ false → LackProcess pid vs
lack-process pid [] h = tt
lack-process pid (v ∷ vs) h =
    let parts = or_parts (nat_eq pid v.pid) (list_any (nat_eq pid) (processes_of vs)) h
    in (parts.0, lack-process pid vs parts.1)

-- the same, as sets have it
pub own-processes : (vs : List Waiting) → HaveOwnNodes vs → HaveOwnProcesses vs
own-processes [] h = tt
own-processes (v ∷ vs) h =
    (lack-process v.pid vs (lacks-process v vs h), own-processes vs (own-rest v vs h))

abbrev caller_of : Waiting → ℕ
caller_of v = v.caller

abbrev same_number : ℕ → ℕ
same_number n = n

callers-apart : (v : Waiting) (us vs : List Waiting) → HaveOwnNodes (v ∷ vs)
    → ((u : Waiting) → Contains us u → Contains vs u)
    → AllByRecursion (λ y. nat_eq v.caller y ≡ false) (map caller_of us)
callers-apart v [] vs h within = tt
callers-apart v (u ∷ us) vs h within = (
  ne_eqb v.caller u.caller (λ same. not-twice v u vs h (within u (contains-first u us)) same),
  callers-apart v us vs h (λ t there. within t (contains-later u us t there)),
)

callers-differ : (vs : List Waiting) → HaveOwnNodes vs → IsDistinct nat_eq (map caller_of vs)
unfolding IsDistinct
callers-differ [] h = tt
callers-differ (v ∷ vs) h =
    IsDistinct-cons nat_eq v.caller (map caller_of vs) (callers-apart v vs vs h (λ u there. there))
    (callers-differ vs (own-rest v vs h))

caller-among : (n : ℕ) (vs : List Waiting) → list_any (nat_eq n) (map caller_of vs) ≡ true
    → (v : Waiting) × Contains vs v × (v.caller ≡ n)
caller-among n [] h = absurd (false≢true h)
caller-among n (v ∷ vs) h =
    elim (or_cases (nat_eq n v.caller) (list_any (nat_eq n) (map caller_of vs)) h) [
      | inl here ↦ (v, contains-first v vs, sym (eqb-true n v.caller here))
      | inr later ↦
          let found = caller-among n vs later in (found.0, contains-later v vs found.0 found.1, found.2)
    ]

-- ---- the bytes of who waits

-- numbers of who waits
pub record HasWaiterNumbers (v : Waiting) : Type 0 where
  pub caller : is_wire_node v.caller ≡ true
  pub ticket : v.ticket < 2 ^ 32
  pub positive : 1 ≤ v.ticket
  pub pid : v.pid < 2 ^ 32

module _ (script : Script) (sound : IsSoundScript script) (w : World) (hand : List Held) (owes : Owing) (b : Beside)
    (holds : HoldsOwing script w hand owes b) where
  reachable : IsReachableKernel b.kernel
  reachable = history-reachable script b.lines b.kernel b.places holds.history

  pub own-nodes : (name : Name) → HaveOwnNodes (waiters_of (b.body name))
  own-nodes name =
      record {
        once = one-of-node script w hand owes b holds name;
        same = same-process script w hand owes b holds name;
      }

  -- at most as many wait as there are nodes
  pub few-wait : (name : Name) → length (waiters_of (b.body name)) ≤ 32
  few-wait name =
      let vs : List Waiting = waiters_of (b.body name)
      in let all : List ℕ = map same_number (numbers 1 (node_count script))
      in let many =
      length-le_from_is_member nat_eq_equiv (map caller_of vs) all (callers-differ vs (own-nodes name))
      (λ p among.
      let found = caller-among p vs among
      in let own = node-of-waiter script w hand owes b holds name found.0 found.1
      in let low = own.low
      in let high = own.high
      in let is = found.2
      in is-among same_number p (numbers 1 (node_count script))
      (in-numbers (node_count script) 1 p (omega (arith, low, is)) (omega (arith, high, is))))
      in let count = length-map vs caller_of
      in let nodes = length-of-numbers same_number (node_count script) 1
      in let few = few-blocks script sound
      in omega (arith, many, count, nodes, few)

  module _ (name : Name) (v : Waiting) (there : Contains (waiters_of (b.body name)) v) where
    abbrev it : WaitsThere script w hand owes b holds name v
    it = waits-there script w hand owes b holds name v there

    abbrev own : IsNode script v.caller
    own = it.node

    abbrev x : CallSight
    x = call_sight w hand b v.caller

    abbrev has : HasCall script v.caller (is_born_in w) x it.call
    has = it.has

    to-be-made : IsToBeMade script v.caller x it.call
    to-be-made = subst (IsSoFar script v.caller x it.call) it.waits has.so_far

    same-call : it.call ≡ v.call
    same-call = ap (λ (u : Waiting). u.call) (sym it.is)

    -- its call has the ranges of a line
    pub waiter-is-ranged : IsRanged v.call
    waiter-is-ranged =
        subst IsRanged same-call
        (due-in-script-is-ranged script sound v.caller x.caller it.call to-be-made.due)

    -- it is on the name, and may wait
    pub waiter-is-on : is_on name (home_of v.pid v.call) ≡ true
    waiter-is-on =
        let home = subst (λ place. may_be_in place (home_of x.pid it.call) it.call ≡ true) it.waits has.home
        in subst (λ (u : Waiting). is_on name (home_of u.pid u.call) ≡ true) (sym it.is)
        (and_parts (is_on name (home_of x.pid it.call)) (may_park it.call) home).0

    pub waiter-parks : may_park v.call ≡ true
    waiter-parks =
        let home = subst (λ place. may_be_in place (home_of x.pid it.call) it.call ≡ true) it.waits has.home
        in subst (λ c. may_park c ≡ true) same-call
        (and_parts (is_on name (home_of x.pid it.call)) (may_park it.call) home).1

    ticket-is-low : v.ticket < 2 ^ 32
    ticket-is-low =
        let most : Caller = record x.caller { ticket = tries_made script v.caller x.caller }
        in let last : is_u32 (tries_made script v.caller x.caller + 1) ≡ true =
        next-ticket script v.caller most it.call sound to-be-made.due has.try_left (omega arith)
        in let low : tries_made script v.caller x.caller + 1 < 2 ^ 32 =
        ltb-true (tries_made script v.caller x.caller + 1) (2 ^ 32) last
        in let few = has.tickets
        in let same : v.ticket ≡ x.caller.ticket = ap (λ (u : Waiting). u.ticket) it.is
        in omega (arith, low, few, same)

    -- and its numbers fit their fields
    pub waiter-numbers : HasWaiterNumbers v
    waiter-numbers =
        let low = own.low
        in let high = own.high
        in let few = few-blocks script sound
        in let same : v.ticket ≡ x.caller.ticket = ap (λ (u : Waiting). u.ticket) it.is
        in let started = has.started
        in let process = pid-of-waiter script w hand owes b holds name v there
        in record {
          caller = both (nat_lt 0 v.caller) (nat_le v.caller 32) (lt-ltb 0 v.caller (omega (arith, low)))
              (le-leb v.caller 32 (omega (arith, high, few)));
          ticket = ticket-is-low;
          positive = omega (arith, same, started);
          pid = subst (λ n. n < 2 ^ 32) (sym process.0)
              (caller-is-low b.kernel (b.pids v.caller) reachable (get b.kernel.processes (b.pids v.caller)) refl
              (ap is_some to-be-made.lives));
        }
      where
        both : (a c : Bool) → a ≡ true → c ≡ true → (a && c) ≡ true
        both true c h g = g
        both false c h g = absurd (false≢true h)
