-- Who waits at a queue or a set in the world: each is a call of a node that is under way and waits there, no node's
-- twice. So they wait there rightly, and there is room for one more.
use Rattle.std.proofs.Common.{◌≡◌, ◌≢◌, Bool, Option, None, Some, List, [], ◌∷◌, ap, arith, cond, filter, length, map, nat_eq, refl, subst, suc, sym, zero, ℕ, ◌||◌, ◌+◌, ◌<◌, ◌∙◌, ◌≤◌, false, true, inl, inr}
use Rattle.std.specs.Cmp.{nat_eq_equiv}
use Rattle.std.specs.List.{AllByRecursion, IsDistinct, list_any}
use Rattle.std.specs.Prelude.{Contains, nat_le}
use Rattle.std.proofs.lemmas.Bool.{and_parts, cases_Bool, cases_eq, eq-eqb, eqb-true, false≢true, leb-true, ne_eqb, or_cases, or_right}
use Rattle.std.proofs.lemmas.List.{length-map}
use Rattle.std.proofs.lemmas.List.Elements.{All-contains, All-from_recursion}
use Rattle.std.proofs.lemmas.Map.Keys.{IsDistinct-cons}
use Rattle.std.proofs.lemmas.Map.Made.{length-le_from_is_member}
use Rattle.pico_base.specs.declared.call.Call.{Call}
use Rattle.pico_base.specs.declared.call.Home.{Home}
use Rattle.pico_base.specs.declared.call.Home.TheVariants as homes
use Rattle.pico_base.specs.declared.numbers.Name.{Name}
use Rattle.pico_base.specs.declared.script.Script.{Script}
use Rattle.pico_base.specs.Home.{home_of}
use Rattle.kernel_laws.proofs.Members.{contains-cases, contains-filter, contains-first, contains-later, contains-none}
use Rattle.waiting_model.specs.Calls.{may_park}
use Rattle.waiting_model.specs.declared.callers.Waiting.{Waiting}
use Rattle.node_model.specs.declared.held.Held.{Held}
use Rattle.node_model.specs.Bodies.{waiters_of}
use Rattle.node_model.specs.Serving.{name_for, name_in, waiting_as}
use Rattle.world_model.specs.Node.{Leaving, Left, Living, Over, Stage, Unborn, is_node}
use Rattle.world_model.specs.World.{IsNode, World, node_count, numbers}
use Rattle.serve_laws.specs.Served.{WaitAt}
use Rattle.entry_laws.proofs.Names.{same-name-is}
use Rattle.world_laws.specs.Places.{AsksLease, Beside, CallPlace, Ends, HasLease, Idle, InAnswer, InAsk, InBounce, InNotOwner, InRequest, IsHeld, IsInHand, Parked, SentByPlace, SentByRange, Waits}
use Rattle.world_laws.specs.Sights.{is_born_in, node_of}
use Rattle.world_laws.specs.Names.{NameHolds, name_sight}
use Rattle.world_laws.specs.Callers.{CallHolds, CallSight, HasCall, HasCallOrNone, asked_of, call_sight, is_at_work, is_on, is_waiter_of, is_waiting_at, may_be_in, only_if}
use Rattle.world_laws.specs.Cancels.{Owing}
use Rattle.world_laws.specs.Families.{BornIn, IsBorn, NodeHolds}
use Rattle.world_laws.specs.Wholes.{under_way_at}
use Rattle.world_laws.specs.Invariant.{HoldsOwing}

-- ---- lists in which each has a key of its own

only-is : {A : Type 0} (b : Bool) (x y : A) → Contains (only_if b x) y → (b ≡ true) × (y ≡ x)
only-is true x y h = (
  refl,
  elim (contains-cases x [] y h) [
    | inl same ↦ sym same
    | inr none ↦ absurd
        (contains-none y none)
  ],
)
only-is false x y h = absurd (contains-none y h)

only-few : {A : Type 0} (b : Bool) (x : A) → length (only_if b x) ≤ 1
only-few true x = omega arith
only-few false x = omega arith

filter-longer : {A : Type 0} (test : A → Bool) (x : A) (xs : List A) → test x ≡ true
    → length (filter test (x ∷ xs)) ≡ suc (length (filter test xs))
filter-longer test x xs h = ap (λ t. length (cond t (x ∷ filter test xs) (filter test xs))) h

filter-rest : {A : Type 0} (test : A → Bool) (x : A) (xs : List A)
    → length (filter test xs) ≤ length (filter test (x ∷ xs))
filter-rest test x xs = by (test x)
  where
    by : (t : Bool) → length (filter test xs) ≤ length (cond t (x ∷ filter test xs) (filter test xs))
    by true = omega arith
    by false = omega arith

some-filtered : {A : Type 0} (test : A → Bool) (xs : List A) (x : A) → Contains xs x → test x ≡ true
    → 1 ≤ length (filter test xs)
some-filtered test xs x there passes =
    let within : Contains (filter test xs) x = contains-filter test xs x there passes
    in let low : within.0 < length (filter test xs) = within.1
    in omega (arith, low)

-- where a process is found among those who wait, one of them is of that process
pub any-of-pid : (n : ℕ) (ws : List Waiting) → list_any (λ v. nat_eq n v.pid) ws ≡ true
    → (w : Waiting) × Contains ws w × (w.pid ≡ n)
any-of-pid n [] h = absurd (false≢true h)
any-of-pid n (w ∷ ws) h =
    elim (or_cases (nat_eq n w.pid) (list_any (λ v. nat_eq n v.pid) ws) h) [
      | inl here ↦ (w, contains-first w ws, sym (eqb-true n w.pid here))
      | inr later ↦
          let found = any-of-pid n ws later in (found.0, contains-later w ws found.0 found.1, found.2)
    ]

-- ---- numbers

-- the numbers from one on have each of these
in-numbers : (n k d : ℕ) → k ≤ d → d < k + n → list_any (nat_eq d) (numbers k n) ≡ true
in-numbers zero k d low high = absurd (omega (arith, low, high))
in-numbers (suc n) k d low high =
    elim (cases_eq d k) [
      | inl same ↦ ap (λ t. t || list_any (nat_eq d) (numbers (k + 1) n)) (eq-eqb d k same)
      | inr other ↦
          or_right (nat_eq d k) (list_any (nat_eq d) (numbers (k + 1) n))
          (in-numbers n (k + 1) d (omega (arith, low, other)) (omega (arith, high)))
    ]

-- and they are so many
length-of-numbers : (n k : ℕ) → length (numbers k n) ≡ n
length-of-numbers zero k = refl
length-of-numbers (suc n) k = ap suc (length-of-numbers n (k + 1))

-- ---- places

-- who waits at a name waits nowhere else
pub waiting-at : (place : CallPlace) (name : Name) → is_waiting_at place name ≡ true → place ≡ Waits name
waiting-at (Waits other) name h = ap Waits (same-name-is other name h)
waiting-at Idle name h = absurd (false≢true h)
waiting-at (AsksLease kind) name h = absurd (false≢true h)
waiting-at (HasLease kind first) name h = absurd (false≢true h)
waiting-at InAsk name h = absurd (false≢true h)
waiting-at (InRequest to) name h = absurd (false≢true h)
waiting-at (InNotOwner sender) name h = absurd (false≢true h)
waiting-at (SentByPlace to) name h = absurd (false≢true h)
waiting-at (SentByRange to) name h = absurd (false≢true h)
waiting-at (InBounce sender) name h = absurd (false≢true h)
waiting-at (IsHeld other) name h = absurd (false≢true h)
waiting-at IsInHand name h = absurd (false≢true h)
waiting-at Parked name h = absurd (false≢true h)
waiting-at (InAnswer sender reply) name h = absurd (false≢true h)
waiting-at Ends name h = absurd (false≢true h)

-- a call that is on a name is carried out on it
pub name-of-on : (name : Name) (pid : ℕ) (home : Home) → is_on name home ≡ true → name_in pid home ≡ Some name
name-of-on name pid (homes.At other) h = ap Some (sym (same-name-is name other h))
name-of-on name pid (homes.Removal other) h = ap Some (sym (same-name-is name other h))
name-of-on name pid homes.Own h = absurd (false≢true h)
name-of-on name pid homes.Keys h = absurd (false≢true h)
name-of-on name pid homes.Parent h = absurd (false≢true h)

-- ---- so few wait

-- each of these has a node of its own, and those of one process have one node
pub record HaveOwnNodes (vs : List Waiting) : Type 0 where
  pub once : (v : Waiting) → Contains vs v → length (filter (is_waiter_of v.caller) vs) ≤ 1
  pub same : (v u : Waiting) → Contains vs v → Contains vs u → v.pid ≡ u.pid → v.caller ≡ u.caller

own-rest : (v : Waiting) (vs : List Waiting) → HaveOwnNodes (v ∷ vs) → HaveOwnNodes vs
own-rest v vs h =
    record {
      once = λ u there.
          let once = h.once u (contains-later v vs u there)
          in let less = filter-rest (is_waiter_of u.caller) v vs
          in omega (arith, once, less);
      same = λ u t first second. h.same u t (contains-later v vs u first) (contains-later v vs t second);
    }

-- one behind another isn't of its node
not-twice : (v u : Waiting) (vs : List Waiting) → HaveOwnNodes (v ∷ vs) → Contains vs u → v.caller ≡ u.caller → ⊥
not-twice v u vs h there same =
    let once = h.once v (contains-first v vs)
    in let more = filter-longer (is_waiter_of v.caller) v vs (eq-eqb v.caller v.caller refl)
    in let some =
    some-filtered (is_waiter_of v.caller) vs u there (eq-eqb u.caller v.caller (sym same))
    in absurd (omega (arith, once, more, some))

-- no two are of one process
lacks-process : (v : Waiting) (vs : List Waiting) → HaveOwnNodes (v ∷ vs)
    → list_any (λ u. nat_eq v.pid u.pid) vs ≡ false
lacks-process v vs h =
    elim (cases_Bool (list_any (λ u. nat_eq v.pid u.pid) vs)) [
      | inr f ↦ f
      | inl t ↦
          let u = any-of-pid v.pid vs t
          in absurd (not-twice v u.0 vs h u.1
          (h.same v u.0 (contains-first v vs) (contains-later v vs u.0 u.1) (sym u.2)))
    ]

abbrev caller_of : Waiting → ℕ
caller_of v = v.caller

callers-apart : (v : Waiting) (us vs : List Waiting) → HaveOwnNodes (v ∷ vs)
    → ((u : Waiting) → Contains us u → Contains vs u)
    → AllByRecursion (λ y. nat_eq v.caller y ≡ false) (map caller_of us)
callers-apart v [] vs h within = tt
callers-apart v (u ∷ us) vs h within = (
  ne_eqb v.caller u.caller (λ same. not-twice v u vs h (within u (contains-first u us)) same),
  callers-apart v us vs h (λ t there. within t (contains-later u us t there)),
)

callers-differ : (vs : List Waiting) → HaveOwnNodes vs → IsDistinct nat_eq (map caller_of vs)
unfolding IsDistinct
callers-differ [] h = tt
callers-differ (v ∷ vs) h =
    IsDistinct-cons nat_eq v.caller (map caller_of vs) (callers-apart v vs vs h (λ u there. there))
    (callers-differ vs (own-rest v vs h))

caller-among : (n : ℕ) (vs : List Waiting) → list_any (nat_eq n) (map caller_of vs) ≡ true
    → (v : Waiting) × Contains vs v × (v.caller ≡ n)
caller-among n [] h = absurd (false≢true h)
caller-among n (v ∷ vs) h =
    elim (or_cases (nat_eq n v.caller) (list_any (nat_eq n) (map caller_of vs)) h) [
      | inl here ↦ (v, contains-first v vs, sym (eqb-true n v.caller here))
      | inr later ↦
          let found = caller-among n vs later in (found.0, contains-later v vs found.0 found.1, found.2)
    ]

others-apart : (p : ℕ) (vs : List Waiting) → ((v : Waiting) → Contains vs v → p ≢ v.caller)
    → AllByRecursion (λ y. nat_eq p y ≡ false) (map caller_of vs)
others-apart p [] h = tt
others-apart p (v ∷ vs) h = (
  ne_eqb p v.caller (h v (contains-first v vs)),
  others-apart p vs (λ u there. h u (contains-later v vs u there)),
)

-- one more node beside those of who waits: there are no more than these
one-more : (count p : ℕ) (vs : List Waiting) → 1 ≤ p → p ≤ count → HaveOwnNodes vs
    → ((v : Waiting) → Contains vs v → (1 ≤ v.caller) × (v.caller ≤ count) × (p ≢ v.caller)) → length vs + 1 ≤ count
unfolding IsDistinct
one-more count p vs low high own nodes =
    let all : List ℕ = numbers 1 count
    in let distinct : IsDistinct nat_eq (p ∷ map caller_of vs) =
    IsDistinct-cons nat_eq p (map caller_of vs)
    (others-apart p vs (λ v there. let node = nodes v there in node.2)) (callers-differ vs own)
    in let within : (q : ℕ) → list_any (nat_eq q) (p ∷ map caller_of vs) ≡ true → list_any (nat_eq q) all ≡ true =
    λ q among.
    elim (or_cases (nat_eq q p) (list_any (nat_eq q) (map caller_of vs)) among) [
      | inl here ↦
          let is = eqb-true q p here in in-numbers count 1 q (omega (arith, low, is)) (omega (arith, high, is))
      | inr later ↦
          let found = caller-among q vs later
          in let node = nodes found.0 found.1
          in let least = node.0
          in let most = node.1
          in let is = found.2
          in in-numbers count 1 q (omega (arith, least, is)) (omega (arith, most, is))
    ]
    in let many = length-le_from_is_member nat_eq_equiv (p ∷ map caller_of vs) all distinct within
    in let mapped = length-map vs caller_of
    in let few = length-of-numbers count 1
    in omega (arith, many, mapped, few)

-- ---- in a world

module _ (script : Script) (w : World) (hand : List Held) {owes : Owing} (b : Beside)
    (holds : HoldsOwing script w hand owes b) where
  -- who waits at a name is the call under way of its node, which waits there
  pub record WaitsThere (name : Name) (v : Waiting) : Type 0 where
    pub node : IsNode script v.caller
    pub call : Call
    pub under_way : under_way_at w v.caller ≡ Some call
    pub is : v ≡ waiting_as (asked_of (call_sight w hand b v.caller) call)
    pub waits : b.call v.caller ≡ Waits name
    pub has : HasCall script v.caller (is_born_in w) (call_sight w hand b v.caller) call

  node-of-waiter : (name : Name) (v : Waiting) → Contains (waiters_of (b.body name)) v → IsNode script v.caller
  node-of-waiter name v there =
      let n : NameHolds script b.pids (is_born_in w) name (name_sight script w hand b name) = holds.names name
      in let is : is_node script v.caller ≡ true =
      All-contains (λ (u : Waiting). is_node script u.caller ≡ true) (waiters_of (b.body name)) v
      (All-from_recursion (λ (u : Waiting). is_node script u.caller ≡ true) (waiters_of (b.body name)) n.callers) there
      in let ends = and_parts (nat_le 1 v.caller) (nat_le v.caller (node_count script)) is
      in record { low = leb-true 1 v.caller ends.0; high = leb-true v.caller (node_count script) ends.1 }

  -- Each who waits is such a call.
  pub waits-there : (name : Name) (v : Waiting) → Contains (waiters_of (b.body name)) v → WaitsThere name v
  waits-there name v there = by x.caller.under_way refl k.call
    where
      own : IsNode script v.caller
      own = node-of-waiter name v there

      x : CallSight
      x = call_sight w hand b v.caller

      k : CallHolds script v.caller (is_born_in w) x
      k = holds.calls v.caller own.low own.high

      mine : Contains (x.waiters name) v
      mine =
          contains-filter (is_waiter_of v.caller) (waiters_of (b.body name)) v there (eq-eqb v.caller v.caller refl)

      by : (o : Option Call) → x.caller.under_way ≡ o → HasCallOrNone script v.caller (is_born_in w) x o
          → WaitsThere name v
      by None is none =
          absurd (contains-none v (subst (λ (vs : List Waiting). Contains vs v) (none.nowhere.waiting name) mine))
      by (Some call) is has =
          let only =
          only-is (is_waiting_at x.call name) (waiting_as (asked_of x call)) v
          (subst (λ (vs : List Waiting). Contains vs v) (has.just_there.waiting name) mine)
          in record {
            node = own;
            call = call;
            under_way = is;
            is = only.1;
            waits = waiting-at x.call name only.0;
            has = has;
          }

  -- no node's call waits there twice
  one-of-node : (name : Name) (v : Waiting) → Contains (waiters_of (b.body name)) v
      → length (filter (is_waiter_of v.caller) (waiters_of (b.body name))) ≤ 1
  one-of-node name v there =
      let it = waits-there name v there
      in let x : CallSight = call_sight w hand b v.caller
      in subst (λ (vs : List Waiting). length vs ≤ 1) (sym (it.has.just_there.waiting name))
      (only-few (is_waiting_at x.call name) (waiting_as (asked_of x it.call)))

  -- its process has its number
  pub pid-of-waiter : (name : Name) (v : Waiting) → Contains (waiters_of (b.body name)) v
      → (v.pid ≡ b.pids v.caller) × (b.pids v.caller ≢ 0)
  pid-of-waiter name v there = by (node_of w v.caller).stage refl k.birth it.has.at_work
    where
      it : WaitsThere name v
      it = waits-there name v there

      k : NodeHolds script b.pids (is_born_in w) v.caller (node_of w v.caller)
      k = holds.nodes v.caller it.node.low it.node.high

      born : IsBorn script b.pids v.caller (node_of w v.caller).pid (node_of w v.caller).parent
          (node_of w v.caller).parent_node
          → (v.pid ≡ b.pids v.caller) × (b.pids v.caller ≢ 0)
      born i = (ap (λ (u : Waiting). u.pid) it.is ∙ i.pid_is, i.forked)

      by : (stage : Stage) → (node_of w v.caller).stage ≡ stage
          → BornIn script b.pids v.caller (node_of w v.caller).pid (node_of w v.caller).parent
          (node_of w v.caller).parent_node stage
          → is_at_work stage ≡ true → (v.pid ≡ b.pids v.caller) × (b.pids v.caller ≢ 0)
      by Unborn is i work = absurd (false≢true work)
      by Over is i work = absurd (false≢true work)
      by Living is i work = born i
      by Leaving is i work = born i
      by Left is i work = born i

  same-process : (name : Name) (v u : Waiting) → Contains (waiters_of (b.body name)) v
      → Contains (waiters_of (b.body name)) u → v.pid ≡ u.pid → v.caller ≡ u.caller
  same-process name v u first second same =
      let pids = holds.pids
      in let a = pid-of-waiter name v first
      in let c = pid-of-waiter name u second
      in pids.apart v.caller u.caller a.1 (sym a.0 ∙ same ∙ c.0)

  pub own-nodes : (name : Name) → HaveOwnNodes (waiters_of (b.body name))
  own-nodes name = record { once = one-of-node name; same = same-process name }

  -- its call may have to wait, and is carried out on the name
  pub waiter-parks : (name : Name) (v : Waiting) → Contains (waiters_of (b.body name)) v
      → (may_park v.call ≡ true) × (name_for v.pid v.call ≡ Some name)
  waiter-parks name v there =
      let it = waits-there name v there
      in let x : CallSight = call_sight w hand b v.caller
      in let home = subst (λ place. may_be_in place (home_of x.pid it.call) it.call ≡ true) it.waits it.has.home
      in let parts = and_parts (is_on name (home_of x.pid it.call)) (may_park it.call) home
      in subst (λ (u : Waiting). (may_park u.call ≡ true) × (name_for u.pid u.call ≡ Some name)) (sym it.is)
      (parts.1, name-of-on name x.pid (home_of x.pid it.call) parts.0)

  wait-rightly : (name : Name) (vs : List Waiting) → HaveOwnNodes vs
      → ((v : Waiting) → Contains vs v → (may_park v.call ≡ true) × (name_for v.pid v.call ≡ Some name))
      → WaitAt name vs
  wait-rightly name [] own each = tt
  wait-rightly name (v ∷ vs) own each =
      let first = each v (contains-first v vs)
      in (
        first.0,
        first.1,
        lacks-process v vs own,
        wait-rightly name vs (own-rest v vs own) (λ u there. each u (contains-later v vs u there)),
      )

  -- So they wait there rightly.
  pub wait-at : (name : Name) → WaitAt name (waiters_of (b.body name))
  wait-at name = wait-rightly name (waiters_of (b.body name)) (own-nodes name) (waiter-parks name)

  -- Who doesn't wait there finds room.
  pub has-room-for : (name : Name) (p : ℕ) → 1 ≤ p → p ≤ node_count script
      → filter (is_waiter_of p) (waiters_of (b.body name)) ≡ []
      → length (waiters_of (b.body name)) + 1 ≤ node_count script
  has-room-for name p low high none =
      one-more (node_count script) p (waiters_of (b.body name)) low high (own-nodes name)
      (λ v there.
      let node = node-of-waiter name v there
      in (
        node.low,
        node.high,
        λ same. contains-none v
            (subst (λ (vs : List Waiting). Contains vs v) none
            (contains-filter (is_waiter_of p) (waiters_of (b.body name)) v there (eq-eqb v.caller p (sym same)))),
      ))
