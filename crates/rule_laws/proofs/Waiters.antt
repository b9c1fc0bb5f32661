-- Each who waits at a queue or a set is the call under way of its node, which waits there; so they wait there as
-- serving
-- asks for.
use Rattle.std.proofs.Common.{◌≡◌, ◌≢◌, ◌≤◌, ◌<◌, ◌∙◌, ℕ, suc, Bool, true, false, ◌&&◌, cond, nat_eq, List, [], ◌∷◌, filter, length, Option, Some, None, refl, sym, ap, subst, inl, inr, arith}
use Rattle.std.specs.Prelude.{Contains, nat_le}
use Rattle.std.specs.List.{list_any}
use Rattle.std.proofs.lemmas.Bool.{and_parts, cases_Bool, eq-eqb, eqb-true, false≢true, leb-true, or_cases}
use Rattle.std.proofs.lemmas.List.Elements.{All-contains, All-from_recursion}
use Rattle.pico_base.specs.declared.call.Call.{Call}
use Rattle.pico_base.specs.declared.call.Home.{Home}
use Rattle.pico_base.specs.declared.call.Home.TheVariants as homes
use Rattle.pico_base.specs.declared.numbers.Name.{Name}
use Rattle.pico_base.specs.declared.script.Script.{Script}
use Rattle.pico_base.specs.Home.{home_of}
use Rattle.kernel_laws.proofs.Members.{contains-cases, contains-filter, contains-first, contains-later, contains-none}
use Rattle.waiting_model.specs.declared.callers.Waiting.{Waiting}
use Rattle.waiting_model.specs.Calls.{may_park}
use Rattle.node_model.specs.declared.held.Held.{Held}
use Rattle.node_model.specs.Bodies.{waiters_of}
use Rattle.node_model.specs.Serving.{name_for, name_in, waiting_as}
use Rattle.world_model.specs.Node.{Stage, Unborn, Living, Leaving, Left, Over, is_node}
use Rattle.world_model.specs.World.{World, IsNode, node_count}
use Rattle.serve_laws.specs.Served.{WaitAt}
use Rattle.entry_laws.proofs.Names.{same-name-is}
use Rattle.world_laws.specs.Places.{CallPlace, Idle, AsksLease, HasLease, InAsk, InRequest, InNotOwner, SentByPlace, SentByRange, InBounce, IsHeld, IsInHand, Parked, Waits, InAnswer, Ends, Beside}
use Rattle.world_laws.specs.Sights.{node_of, is_born_in}
use Rattle.world_laws.specs.Names.{NameHolds, name_sight}
use Rattle.world_laws.specs.Callers.{CallHolds, CallSight, HasCall, HasCallOrNone, asked_of, call_sight, is_at_work, is_on, is_waiter_of, is_waiting_at, may_be_in, only_if}
use Rattle.world_laws.specs.Families.{NodeHolds, BornIn, IsBorn}
use Rattle.world_laws.specs.Cancels.{Owing}
use Rattle.world_laws.specs.Invariant.{HoldsOwing}
use Rattle.world_laws.specs.Wholes.{under_way_at}

-- ---- lists

only-is : {A : Type 0} (b : Bool) (x y : A) → Contains (only_if b x) y → (b ≡ true) × (y ≡ x)
only-is true x y h =
    (refl, elim (contains-cases x [] y h) [ inl same ↦ sym same | inr none ↦ absurd (contains-none y none) ])
only-is false x y h = absurd (contains-none y h)

only-few : {A : Type 0} (b : Bool) (x : A) → length (only_if b x) ≤ 1
only-few true x = omega arith
only-few false x = omega arith

filter-longer : {A : Type 0} (test : A → Bool) (x : A) (xs : List A) → test x ≡ true
    → length (filter test (x ∷ xs)) ≡ suc (length (filter test xs))
filter-longer test x xs h = ap (λ t. length (cond t (x ∷ filter test xs) (filter test xs))) h

some-filtered : {A : Type 0} (test : A → Bool) (xs : List A) (x : A) → Contains xs x → test x ≡ true
    → 1 ≤ length (filter test xs)
some-filtered test xs x there passes =
    let within : Contains (filter test xs) x = contains-filter test xs x there passes
    in let low : within.0 < length (filter test xs) = within.1
    in omega (arith, low)

-- one of these is of the process
any-is : (n : ℕ) (ws : List Waiting) → list_any (λ v. nat_eq n v.pid) ws ≡ true
    → (w : Waiting) × Contains ws w × (w.pid ≡ n)
any-is n [] h = absurd (false≢true h)
any-is n (w ∷ ws) h =
    elim (or_cases (nat_eq n w.pid) (list_any (λ v. nat_eq n v.pid) ws) h) [
      | inl here ↦ (w, contains-first w ws, sym (eqb-true n w.pid here))
      | inr later ↦
          let found = any-is n ws later in (found.0, contains-later w ws found.0 found.1, found.2)
    ]

-- ---- the place of a call that waits

waiting-at : (place : CallPlace) (name : Name) → is_waiting_at place name ≡ true → place ≡ Waits name
waiting-at (Waits other) name h = ap Waits (same-name-is other name h)
waiting-at Idle name h = absurd (false≢true h)
waiting-at (AsksLease kind) name h = absurd (false≢true h)
waiting-at (HasLease kind first) name h = absurd (false≢true h)
waiting-at InAsk name h = absurd (false≢true h)
waiting-at (InRequest to) name h = absurd (false≢true h)
waiting-at (InNotOwner sender) name h = absurd (false≢true h)
waiting-at (SentByPlace to) name h = absurd (false≢true h)
waiting-at (SentByRange to) name h = absurd (false≢true h)
waiting-at (InBounce sender) name h = absurd (false≢true h)
waiting-at (IsHeld other) name h = absurd (false≢true h)
waiting-at IsInHand name h = absurd (false≢true h)
waiting-at Parked name h = absurd (false≢true h)
waiting-at (InAnswer sender reply) name h = absurd (false≢true h)
waiting-at Ends name h = absurd (false≢true h)

-- a call on a name is on it wherever it is carried out
on-name : (name : Name) (pid : ℕ) (home : Home) → is_on name home ≡ true → name_in pid home ≡ Some name
on-name name pid homes.Own h = absurd (false≢true h)
on-name name pid homes.Keys h = absurd (false≢true h)
on-name name pid (homes.At other) h = ap Some (sym (same-name-is name other h))
on-name name pid (homes.Removal other) h = ap Some (sym (same-name-is name other h))
on-name name pid homes.Parent h = absurd (false≢true h)

-- ---- in a world

module _ (script : Script) (w : World) (hand : List Held) (owes : Owing) (b : Beside)
    (holds : HoldsOwing script w hand owes b) (name : Name) where
  abbrev waiters : List Waiting
  waiters = waiters_of (b.body name)

  -- who waits at the name is the call under way of its node, which waits there
  pub record WaitsThere (v : Waiting) : Type 0 where
    pub node : IsNode script v.caller
    pub call : Call
    pub under_way : under_way_at w v.caller ≡ Some call
    pub is : v ≡ waiting_as (asked_of (call_sight w hand b v.caller) call)
    pub waits : b.call v.caller ≡ Waits name
    pub has : HasCall script v.caller (is_born_in w) (call_sight w hand b v.caller) call

  node-of-waiter : (v : Waiting) → Contains waiters v → IsNode script v.caller
  node-of-waiter v there =
      let n : NameHolds script b.pids (is_born_in w) name (name_sight script w hand b name) = holds.names name
      in let is : is_node script v.caller ≡ true =
      All-contains (λ (u : Waiting). is_node script u.caller ≡ true) waiters v
      (All-from_recursion (λ (u : Waiting). is_node script u.caller ≡ true) waiters n.callers) there
      in let ends = and_parts (nat_le 1 v.caller) (nat_le v.caller (node_count script)) is
      in record { low = leb-true 1 v.caller ends.0; high = leb-true v.caller (node_count script) ends.1 }

  -- each who waits is such a call
  pub waits-there : (v : Waiting) → Contains waiters v → WaitsThere v
  waits-there v there = by x.caller.under_way refl k.call
    where
      own : IsNode script v.caller
      own = node-of-waiter v there

      x : CallSight
      x = call_sight w hand b v.caller

      k : CallHolds script v.caller (is_born_in w) x
      k = holds.calls v.caller own.low own.high

      mine : Contains (x.waiters name) v
      mine = contains-filter (is_waiter_of v.caller) waiters v there (eq-eqb v.caller v.caller refl)

      by : (o : Option Call) → x.caller.under_way ≡ o → HasCallOrNone script v.caller (is_born_in w) x o → WaitsThere v
      by None is none =
          absurd (contains-none v (subst (λ (vs : List Waiting). Contains vs v) (none.nowhere.waiting name) mine))
      by (Some call) is has =
          let only =
          only-is (is_waiting_at x.call name) (waiting_as (asked_of x call)) v
          (subst (λ (vs : List Waiting). Contains vs v) (has.just_there.waiting name) mine)
          in record {
            node = own;
            call = call;
            under_way = is;
            is = only.1;
            waits = waiting-at x.call name only.0;
            has = has;
          }

  -- it is on the name, and may have to wait
  pub waits-rightly : (v : Waiting) → Contains waiters v
      → (may_park v.call ≡ true) × (name_for v.pid v.call ≡ Some name)
  waits-rightly v there =
      let it : WaitsThere v = waits-there v there
      in let x : CallSight = call_sight w hand b v.caller
      in let home : (is_on name (home_of x.pid it.call) && may_park it.call) ≡ true =
      ap (λ (place : CallPlace). may_be_in place (home_of x.pid it.call) it.call) (sym it.waits) ∙ it.has.home
      in let parts = and_parts (is_on name (home_of x.pid it.call)) (may_park it.call) home
      in subst (λ (u : Waiting). (may_park u.call ≡ true) × (name_for u.pid u.call ≡ Some name)) (sym it.is)
      (parts.1, on-name name x.pid (home_of x.pid it.call) parts.0)

  -- no node's call waits there twice
  one-of-node : (v : Waiting) → Contains waiters v → length (filter (is_waiter_of v.caller) waiters) ≤ 1
  one-of-node v there =
      let it : WaitsThere v = waits-there v there
      in let x : CallSight = call_sight w hand b v.caller
      in subst (λ (vs : List Waiting). length vs ≤ 1) (sym (it.has.just_there.waiting name))
      (only-few (is_waiting_at x.call name) (waiting_as (asked_of x it.call)))

  -- its process has its number
  pid-of-waiter : (v : Waiting) → Contains waiters v → (v.pid ≡ b.pids v.caller) × (b.pids v.caller ≢ 0)
  pid-of-waiter v there = by (node_of w v.caller).stage refl k.birth it.has.at_work
    where
      it : WaitsThere v
      it = waits-there v there

      k : NodeHolds script b.pids (is_born_in w) v.caller (node_of w v.caller)
      k = holds.nodes v.caller it.node.low it.node.high

      born : IsBorn script b.pids v.caller (node_of w v.caller).pid (node_of w v.caller).parent
          (node_of w v.caller).parent_node
          → (v.pid ≡ b.pids v.caller) × (b.pids v.caller ≢ 0)
      born i = (ap (λ (u : Waiting). u.pid) it.is ∙ i.pid_is, i.forked)

      by : (stage : Stage) → (node_of w v.caller).stage ≡ stage
          → BornIn script b.pids v.caller (node_of w v.caller).pid (node_of w v.caller).parent
          (node_of w v.caller).parent_node stage
          → is_at_work stage ≡ true → (v.pid ≡ b.pids v.caller) × (b.pids v.caller ≢ 0)
      by Unborn is i work = absurd (false≢true work)
      by Over is i work = absurd (false≢true work)
      by Living is i work = born i
      by Leaving is i work = born i
      by Left is i work = born i

  same-process : (v u : Waiting) → Contains waiters v → Contains waiters u → v.pid ≡ u.pid → v.caller ≡ u.caller
  same-process v u first second same =
      let a = pid-of-waiter v first
      in let c = pid-of-waiter u second
      in holds.pids.apart v.caller u.caller a.1 (sym a.0 ∙ same ∙ c.0)

-- ---- they wait there as serving asks for

-- what is known of each of them
record WaitsOn (name : Name) (vs : List Waiting) : Type 0 where
  pub rightly : (v : Waiting) → Contains vs v → (may_park v.call ≡ true) × (name_for v.pid v.call ≡ Some name)
  pub once : (v : Waiting) → Contains vs v → length (filter (is_waiter_of v.caller) vs) ≤ 1
  pub same : (v u : Waiting) → Contains vs v → Contains vs u → v.pid ≡ u.pid → v.caller ≡ u.caller

filter-rest : {A : Type 0} (test : A → Bool) (x : A) (xs : List A)
    → length (filter test xs) ≤ length (filter test (x ∷ xs))
filter-rest test x xs = by (test x)
  where
    by : (t : Bool) → length (filter test xs) ≤ length (cond t (x ∷ filter test xs) (filter test xs))
    by true = omega arith
    by false = omega arith

rest-waits : (name : Name) (v : Waiting) (vs : List Waiting) → WaitsOn name (v ∷ vs) → WaitsOn name vs
rest-waits name v vs h = record {
  rightly = λ u there. h.rightly u (contains-later v vs u there);
  once = λ u there.
      let once = h.once u (contains-later v vs u there)
      in let less = filter-rest (is_waiter_of u.caller) v vs
      in omega (arith, once, less);
  same = λ u t first second. h.same u t (contains-later v vs u first) (contains-later v vs t second);
}

-- one behind another isn't of its node, so not of its process
first-alone : (name : Name) (v : Waiting) (vs : List Waiting) → WaitsOn name (v ∷ vs)
    → list_any (λ u. nat_eq v.pid u.pid) vs ≡ false
first-alone name v vs h =
    elim (cases_Bool (list_any (λ u. nat_eq v.pid u.pid) vs)) [
      | inr none ↦ none
      | inl some ↦
          let u = any-is v.pid vs some
          in let same : v.caller ≡ u.0.caller =
          h.same v u.0 (contains-first v vs) (contains-later v vs u.0 u.1) (sym u.2)
          in let once = h.once v (contains-first v vs)
          in let more = filter-longer (is_waiter_of v.caller) v vs (eq-eqb v.caller v.caller refl)
          in let there = some-filtered (is_waiter_of v.caller) vs u.0 u.1 (eq-eqb u.0.caller v.caller (sym same))
          in absurd (omega (arith, once, more, there))
    ]

wait-at-by : (name : Name) (vs : List Waiting) → WaitsOn name vs → WaitAt name vs
wait-at-by name [] h = tt
wait-at-by name (v ∷ vs) h =
    let own = h.rightly v (contains-first v vs)
    in (own.0, own.1, first-alone name v vs h, wait-at-by name vs (rest-waits name v vs h))

-- Those who wait at a name do so with calls on it that may have to wait, and none twice.
pub they-wait-at : (script : Script) (w : World) (hand : List Held) (owes : Owing) (b : Beside)
    → HoldsOwing script w hand owes b → (name : Name) → WaitAt name (waiters_of (b.body name))
they-wait-at script w hand owes b holds name =
    wait-at-by name (waiters_of (b.body name))
    (record {
      rightly = waits-rightly script w hand owes b holds name;
      once = one-of-node script w hand owes b holds name;
      same = same-process script w hand owes b holds name;
    })
