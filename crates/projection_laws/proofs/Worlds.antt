-- Every world of a run projects to the kernel that its journal replays to.
use Rattle.std.proofs.Common.{◌≡◌, ◌≢◌, ℕ, ◌+◌, ◌≤◌, Bool, true, false, not, ◌&&◌, nat_lt, if◌then◌else◌, List, [], ◌∷◌, ◌++◌, length, Option, Some, None, is_some, option_and_then, Contains, refl, ap, sym, subst, ◌∙◌, inl, inr, arith}
use Rattle.std.specs.Option.{option_map, option_map_or}
use Rattle.std.proofs.lemmas.Bool.{false≢true}
use Rattle.pico_base.specs.declared.call.Call.{Call}
use Rattle.pico_base.specs.declared.reply.Reply.{Reply}
use Rattle.pico_base.specs.declared.script.Event.{Event}
use Rattle.pico_base.specs.declared.script.Line.{Line}
use Rattle.pico_base.specs.declared.script.Script.{Script}
use Rattle.kernel_laws.proofs.Plain.{from_some, not_some}
use Rattle.kernel_model.specs.Fitting.{IsDue, Place, after_reply, asks_again, call_due, due, is_killed, place_after, set_variable, value_in}
use Rattle.kernel_model.specs.Kernel.{alive_in as plain_alive_in, living_at as plain_living_at}
use Rattle.kernel_model.specs.Row.{Allowance, Free, One, Spent}
use Rattle.kernel_model.specs.Row as plain
use Rattle.kernel_model.specs.Script.{IsSoundScript}
use Rattle.kernel_model.specs.SemaphoreSet.{SemaphoreSet}
use Rattle.kernel_model.specs.SetCalls.{set_size as plain_set_size}
use Rattle.kernel_model.specs.Transition.{is_spent, may_make as plain_may_make}
use Rattle.kernel_model.specs.Valid.{IsValid, IsValidProcess}
use Rattle.pico_base.specs.declared.call.Call.TheVariants as calls
use Rattle.number_maps.specs.Maps.{Numbered, get}
use Rattle.waiting_model.specs.History.{Replays}
use Rattle.waiting_model.specs.Kernel.{Kernel, living_at, opening}
use Rattle.waiting_model.specs.Marks.{Alive, plain_alive}
use Rattle.waiting_model.specs.Plain.{plain_kernel, plain_process}
use Rattle.waiting_model.specs.SetCalls.{set_size}
use Rattle.waiting_model.specs.Waiters.{Awaited}
use Rattle.waiting_laws.specs.InLine.{IsAlike}
use Rattle.waiting_laws.specs.Parked.{mark_in, mark_of}
use Rattle.waiting_laws.specs.Sound.{IsSound}
use Rattle.waiting_laws.proofs.Maps.{get-each}
use Rattle.waiting_laws.proofs.Rows.{from-living}
use Rattle.node_model.specs.Bodies.{Body, waiters_of}
use Rattle.node_model.specs.Caller.{caller_place}
use Rattle.world_model.specs.Node.{Node}
use Rattle.world_model.specs.Run.{IsReachableWorld, Runs}
use Rattle.world_model.specs.World.{IsNode, World, node_count, opening_world}
use Rattle.world_laws.specs.Callers.{HasCall, IsMade as IsMadeAt, IsSoFar, call_sight}
use Rattle.world_laws.specs.Cancels.{Nothing}
use Rattle.world_laws.specs.Deeds.{DeedsAreRead}
use Rattle.world_laws.specs.Invariant.{HasInvariant, Holds}
use Rattle.world_laws.specs.Places.{Beside, CallPlace, InAnswer, Parked, Waits}
use Rattle.world_laws.specs.Sights.{is_born_in, node_of}
use Rattle.world_laws.specs.Ways.{under_way_of}
use Rattle.world_laws.specs.Wholes.{HasMarks, HasMarksOf, HasWhole}
use Rattle.bound_laws.specs.Bounded.{IsBounded, IsShapedAndBounded}
use Rattle.bound_laws.proofs.Deeds.{deeds-are-read-in}
use Rattle.bound_laws.proofs.Runs.{reachable-is-bounded}
use Rattle.bound_laws.proofs.WhoWaits.{WaitsThere, waits-there}
use Rattle.rest_laws.proofs.Nodes.{is_waiting_place}
use Rattle.rest_laws.proofs.OneReplay.{one-replay}
use Rattle.run_laws.proofs.Runs.{worlds_have_the_invariant_lemma}
use Rattle.projection_laws.specs.Laws.{EachPrefixProjects, WorldsProject}
use Rattle.projection_laws.specs.Projection.{AllowancesFit, IsInterruptedRightly, IsToBeMade, IsUnderWay, KeysAreTheKernels, Projects, WaitersAreCalls, WithdrawalsFit, bound_to}
use Rattle.projection_laws.proofs.CallCounts.{has-call, pid-is}
use Rattle.projection_laws.proofs.CallPlaces.{is_answer}
use Rattle.projection_laws.proofs.Calls.{is-under-way}
use Rattle.projection_laws.proofs.Deeds.{deeds-are-parts}
use Rattle.projection_laws.proofs.Families.{ended-is-kept}
use Rattle.projection_laws.proofs.HowFar.{come-is, is-parked}
use Rattle.projection_laws.proofs.Numbers.{number-is-apart}
use Rattle.projection_laws.proofs.Views.{node-here, node-in-range, node-is}
use Rattle.projection_laws.proofs.Waiters.{somewhere-is}
use Rattle.projection_laws.proofs.Withdrawals.{is-interrupted}

-- ---- what a doomed process may still do

-- it has one entry left, where it may make another call than its end
one-left : (a : plain.Alive) (call : Call) → is_killed call ≡ false → plain_may_make a call ≡ true → a.allowance ≢ Free
    → a.allowance ≡ One
one-left a call other may doomed = by-allowance a.allowance refl
  where
    unspent : (c : Call) → is_killed c ≡ false → plain_may_make a c ≡ true → is_spent a.allowance ≡ false
    unspent (calls.Killed sig) e h = absurd (false≢true (sym e))
    unspent c e h = not-not (is_spent a.allowance) h
      where
        not-not : (t : Bool) → not t ≡ true → t ≡ false
        not-not false g = refl
        not-not true g = absurd (false≢true g)

    by-allowance : (v : Allowance) → a.allowance ≡ v → v ≡ One
    by-allowance One e = refl
    by-allowance Free e = absurd (doomed e)
    by-allowance Spent e = absurd (false≢true (sym (unspent call other may) ∙ ap is_spent e))

-- ---- how far the journal is

-- where a call is due, its reply leads on
leads-on : (place : Place) (call : Call) (reply : Reply) (other : Call) → due place ≡ Some other
    → place ≡ place_after place call (Some reply) → ⊥
leads-on place call reply other is same = by-left place.left refl
  where
    some-left : (lines : List Line) → place.left ≡ [] → ⊥
    some-left lines e = not_some other (sym (ap (call_due place) e) ∙ is)

    by-left : (lines : List Line) → place.left ≡ lines → ⊥
    by-left [] e = some-left [] e
    by-left (line ∷ lines) e =
        by-test (asks_again call (Some reply) && nat_lt (place.tried + 1) line.tries) refl
      where
        stays : place ≡ after_reply place call reply (line ∷ lines)
        stays = same ∙ ap (after_reply place call reply) e

        again : Place
        again = record place { tried = place.tried + 1 }

        behind : Place
        behind = record { left = lines; tried = 0; vars = set_variable place.vars line.set (value_in (Some reply)) }

        by-test : (t : Bool) → (asks_again call (Some reply) && nat_lt (place.tried + 1) line.tries) ≡ t → ⊥
        by-test true g =
            let once_more : place ≡ again = stays ∙ ap (λ t. if t then again else behind) g
            in let count = ap (λ (q : Place). q.tried) once_more
            in omega (arith, count)
        by-test false g =
            let passed : place ≡ behind = stays ∙ ap (λ t. if t then again else behind) g
            in let count = ap (λ (q : Place). length q.left) passed
            in let lines_are = ap (λ (ls : List Line). length ls) e
            in omega (arith, count, lines_are)

some-due : (place : Place) (call : Call) → IsDue place call → (other : Call) × (due place ≡ Some other)
some-due place call (inl e) = (call, e)
some-due place call (inr e) = (e.1, e.2)

-- ---- a process

-- who lives in the kernel in which callers wait lives in that without them
plain-lives : (k : Kernel) (pid : ℕ) (a : Alive) → living_at k pid ≡ Some a
    → plain_living_at (plain_kernel k) pid ≡ Some (plain_alive a)
plain-lives k pid a lives =
    ap (option_and_then plain_alive_in)
    (get-each plain_process k.processes pid ∙ ap (option_map plain_process) (from-living k.processes pid a lives))

second-of : (t u : Bool) → (t && u) ≡ true → u ≡ true
second-of true u h = h
second-of false u h = absurd (false≢true h)

-- what may be made by a process that isn't parked
may-of : (place : CallPlace) (call : Call) (a : Alive) → is_waiting_place place ≡ false → is_answer place ≡ false
    → HasMarksOf place call a → plain_may_make (plain_alive a) call ≡ true
may-of Parked call a busy free h = absurd (false≢true (sym busy))
may-of (Waits name) call a busy free h = absurd (false≢true (sym busy))
may-of (InAnswer g reply) call a busy free h = absurd (false≢true (sym free))
may-of place call a busy free h = second-of (not (is_some a.marks.parked)) (plain_may_make (plain_alive a) call) h

parked-of : (place : CallPlace) (call : Call) (a : Alive) → is_waiting_place place ≡ true → HasMarksOf place call a
    → is_some a.marks.parked ≡ true
parked-of Parked call a waits h = ap is_some h
parked-of (Waits name) call a waits h = ap is_some h
parked-of place call a waits h = absurd (false≢true waits)

-- ---- a world

module _ (script : Script) (sound : IsSoundScript script) (w : World) (b : Beside) (holds : Holds script w [] b)
    (bounded : IsBounded script w []) where
  whole : HasWhole w b
  whole = holds.whole

  valid : IsValid (plain_kernel b.whole)
  valid = let s : IsSound b.whole = whole.sound in s.valid

  reads : DeedsAreRead b.kernel b.body
  reads = deeds-are-read-in script sound w [] Nothing b holds whole

  abbrev place_at : ℕ → Place
  place_at p = caller_place script p (node_of w p).caller

  module _ (p : ℕ) (low : 1 ≤ p) (high : p ≤ node_count script) (call : Call) (under : under_way_of w p ≡ Some call)
      (come : IsToBeMade w p (node_of w p)) where
    has : HasCall script p (is_born_in w) (call_sight w [] b p) call
    has = has-call script w b holds p low high call under

    its-pid : (node_of w p).pid ≡ b.pids p
    its-pid = pid-is script w b holds p low high call under

    come-at : (get b.places (b.pids p) ≡ Some (place_at p)) × (is_some (mark_in b.whole.processes (b.pids p)) ≡ false)
    come-at =
        let shape = holds.shape
        in let is =
        come-is script w b holds (node_of w p).pid (caller_place w.script p (node_of w p).caller) false come
        in (
          ap (get b.places) (sym its-pid) ∙ is.0
              ∙ ap (λ s. Some (caller_place s p (node_of w p).caller)) shape.of_script,
          ap (λ pid. is_some (mark_in b.whole.processes pid)) (sym its-pid) ∙ is.1,
        )

    -- it has no reply
    unanswered : is_answer (b.call p) ≡ false
    unanswered = by-place (b.call p) has.so_far
      where
        by-place : (q : CallPlace) → IsSoFar script p (call_sight w [] b p) call q → is_answer q ≡ false
        by-place (InAnswer h reply) m =
            let made : IsMadeAt script p (call_sight w [] b p) call reply = m
            in let other = some-due (place_at p) call made.due
            in absurd
            (leads-on (place_at p) call reply other.0 other.1
            (from_some (place_at p) (place_after (place_at p) call (Some reply)) (sym come-at.0 ∙ made.there)))
        by-place q m = refl

    module _ (alive : Alive) (lives : living_at b.whole (b.pids p) ≡ Some alive) where
      marks-are : HasMarksOf (b.call p) call alive
      marks-are = subst (λ o. HasMarks (b.call p) o alive) under (whole.marks p alive lives)

      -- nor does it wait
      unparked : is_waiting_place (b.call p) ≡ false
      unparked = by-test (is_waiting_place (b.call p)) refl
        where
          by-test : (t : Bool) → is_waiting_place (b.call p) ≡ t → is_waiting_place (b.call p) ≡ false
          by-test false e = e
          by-test true e =
              absurd
              (false≢true
              (sym come-at.1 ∙ ap (λ o. is_some (mark_of o)) lives ∙ parked-of (b.call p) call alive e marks-are))

      -- So it may be made.
      may-be-made : plain_may_make (plain_alive alive) call ≡ true
      may-be-made = may-of (b.call p) call alive unparked unanswered marks-are

  -- a process that is doomed isn't free to act, and one that isn't is
  allowed : (pid : ℕ) (alive : Alive) → living_at b.whole pid ≡ Some alive
      → IsValidProcess (plain_kernel b.whole) pid (plain_alive alive)
  allowed pid alive lives = valid.alive pid (plain_alive alive) (plain-lives b.whole pid alive lives)

  allowances-fit : AllowancesFit w b.whole
  allowances-fit =
      record {
        free = λ pid alive lives none.
            let v : IsValidProcess (plain_kernel b.whole) pid (plain_alive alive) = allowed pid alive lives
            in let both = v.allowed
            in both.0 none;
        one = λ p n call alive is under other come lives doomed.
            let same : node_of w p ≡ n = node-is script w b holds p n is
            in one-of p is.number (node-in-range script w b holds p n is) call
            (ap (λ (m : Node). m.caller.under_way) same ∙ under) other
            (subst (IsToBeMade w p) (sym same) come) alive
            (ap (λ (m : Node). living_at b.whole m.pid) same ∙ lives) doomed;
      }
    where
      one-of : (p : ℕ) → 1 ≤ p → p ≤ node_count script → (call : Call) → under_way_of w p ≡ Some call
          → is_killed call ≡ false → IsToBeMade w p (node_of w p) → (alive : Alive)
          → living_at b.whole (node_of w p).pid ≡ Some alive → alive.row.signals.doom ≢ None
          → alive.marks.allowance ≡ One
      one-of p low high call under other come alive lives doomed =
          let v : IsValidProcess (plain_kernel b.whole) (node_of w p).pid (plain_alive alive) =
          allowed (node_of w p).pid alive lives
          in let both = v.allowed
          in one-left (plain_alive alive) call other
          (may-be-made p low high call under come alive
          (ap (living_at b.whole) (sym (pid-is script w b holds p low high call under)) ∙ lives))
          (λ free. doomed (both.1 free))

  -- ---- keys

  alike : IsAlike b.whole b.kernel
  alike = whole.alike

  size-is : (id : ℕ) → plain_set_size b.kernel id ≡ set_size b.whole id
  size-is id =
      ap (λ (m : Numbered SemaphoreSet). option_map_or (λ (set : SemaphoreSet). length set.semaphores) (get m id) 0)
      (sym alike.sets)
      ∙ ap (λ (o : Option SemaphoreSet). option_map_or (λ (set : SemaphoreSet). length set.semaphores) o 0)
      (get-each (λ (s : Awaited SemaphoreSet). s.state) b.whole.sets id)
      ∙ by-set (get b.whole.sets id)
    where
      by-set : (o : Option (Awaited SemaphoreSet))
          → option_map_or (λ (set : SemaphoreSet). length set.semaphores)
          (option_map (λ (s : Awaited SemaphoreSet). s.state) o) 0
          ≡ option_map_or (λ (set : Awaited SemaphoreSet). length set.state.semaphores) o 0
      by-set None = refl
      by-set (Some s) = refl

  keys-are-the-kernels : KeysAreTheKernels (node_of w 1).leader b.whole
  keys-are-the-kernels =
      let h = holds.keys
      in record {
        queues = λ key.
            h.queues key ∙ ap (λ m. option_map (λ id. bound_to id 0) (get m key)) (sym alike.queue_keys);
        sets = λ key.
            h.sets key ∙ ap (λ m. option_map (λ id. bound_to id (plain_set_size b.kernel id)) (get m key))
            (sym alike.set_keys)
            ∙ ap (λ (size : ℕ → ℕ). option_map (λ id. bound_to id (size id)) (get b.whole.set_keys key))
            (λ i id. size-is id i);
      }

  -- ---- calls

  waiters-are-calls : WaitersAreCalls w b.whole
  waiters-are-calls =
      record {
        are = λ name body v at among.
            let body_is : body ≡ b.body name = somewhere-is script w b holds bounded reads name body at
            in let it : WaitsThere script w [] Nothing b holds name v =
            waits-there script w [] Nothing b holds name v
            (subst (λ (c : Body). Contains (waiters_of c) v) body_is among)
            in let own : IsNode script v.caller = it.node
            in let has : HasCall script v.caller (is_born_in w) (call_sight w [] b v.caller) it.call = it.has
            in (
              node_of w v.caller,
              it.call,
              node-here script w b holds v.caller own.low own.high,
              it.under_way,
              it.is,
              is-parked script w b holds v.caller own.low own.high it.call it.under_way
                  (ap is_waiting_place it.waits)
                  (subst (λ c. IsSoFar script v.caller (call_sight w [] b v.caller) it.call c) it.waits has.so_far),
            );
      }

  withdrawals-fit : WithdrawalsFit w b.whole
  withdrawals-fit p n call alive is under parks unanswered lives =
      let same : node_of w p ≡ n = node-is script w b holds p n is
      in subst (λ (m : Node). IsInterruptedRightly w b.whole m call alive) same
      (is-interrupted script w b holds p is.number (node-in-range script w b holds p n is) call
      (ap (λ (m : Node). m.caller.under_way) same ∙ under) parks unanswered alive
      (ap (λ (m : Node). living_at b.whole m.pid) same ∙ lives))

  -- The world projects to the kernel that stands beside it.
  pub world-projects : Projects w b.whole
  world-projects =
      record {
        deeds = deeds-are-parts script w b holds reads;
        keys = λ n is.
            subst (λ (m : Node). KeysAreTheKernels m.leader b.whole) (node-is script w b holds 1 n is)
            keys-are-the-kernels;
        numbers = λ kind number. number-is-apart script w b holds kind number;
        ended = λ pid ending is. ended-is-kept script w b holds pid ending is;
        calls = λ p n call is under.
            let same : node_of w p ≡ n = node-is script w b holds p n is
            in subst (λ (m : Node). IsUnderWay w b.whole p m call) same
            (is-under-way script w b holds bounded reads p is.number (node-in-range script w b holds p n is) call
            (ap (λ (m : Node). m.caller.under_way) same ∙ under));
        waiters = waiters-are-calls;
        withdrawals = withdrawals-fit;
        allowances = allowances-fit;
      }

-- ---- the laws

-- what is beside a world of a run
module _ (script : Script) (w : World) (sound : IsSoundScript script) (run : IsReachableWorld script w) where
  abbrev beside : Beside
  beside = let i : HasInvariant script w = worlds_have_the_invariant_lemma script w sound run in i.beside

  holds-there : Holds script w [] beside
  holds-there = let i : HasInvariant script w = worlds_have_the_invariant_lemma script w sound run in i.holds

  replays-to : Replays opening w.journal beside.whole
  replays-to = let whole : HasWhole w beside = holds-there.whole in whole.legal

  projects-there : Projects w beside.whole
  projects-there =
      let both : IsShapedAndBounded script w = reachable-is-bounded script sound w run
      in world-projects script sound w beside holds-there both.bounded

-- Each world that a run leads to projects to the kernel that its journal replays to.
pub worlds_project_lemma : WorldsProject
worlds_project_lemma script w k sound run replays =
    subst (Projects w)
    (one-replay opening (beside script w sound run).whole k w.journal (replays-to script w sound run) replays)
    (projects-there script w sound run)

-- a run leads to a world after each of its prefixes
prefix-runs : (w last : World) (events more : List Event) → Runs w (events ++ more) last
    → (middle : World) × Runs w events middle
prefix-runs w last [] more run = (w, refl)
prefix-runs w last (e ∷ events) more run =
    let rest = prefix-runs run.next last events more run.rest
    in (rest.0, record { enabled = run.enabled; next = run.next; steps = run.steps; rest = rest.1 })

-- After every prefix of every run there are such a world and such a kernel.
pub each_prefix_projects_lemma : EachPrefixProjects
each_prefix_projects_lemma script events more last sound run =
    let middle = prefix-runs (opening_world script) last events more run
    in let w : World = middle.0
    in let reached : IsReachableWorld script w = (events, middle.1)
    in record {
      world = w;
      runs = middle.1;
      kernel = (beside script w sound reached).whole;
      replays = replays-to script w sound reached;
      projects = projects-there script w sound reached;
    }
