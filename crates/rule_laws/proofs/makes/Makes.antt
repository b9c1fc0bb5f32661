-- A node starts, or goes on with, a call that takes a number, and what holds in every world that a run leads to
-- still holds. So each call of a process on itself keeps it, at every node.
use Rattle.std.proofs.Common.{◌≡◌, ◌≢◌, ◌⊎◌, ℕ, ◌≤◌, Bool, true, List, [], ◌∷◌, length, Option, Some, None, Ok, refl, ap, sym, subst, inl, inr, arith}
use Rattle.std.proofs.lemmas.Bool.{cases_eq, ltb-true}
use Rattle.pico_base.specs.declared.call.Call.{Call}
use Rattle.pico_base.specs.declared.call.Call.TheVariants as calls
use Rattle.pico_base.specs.declared.numbers.Kind.{Kind}
use Rattle.pico_base.specs.declared.numbers.Kind.TheVariants as kinds
use Rattle.pico_base.specs.declared.numbers.Name.TheVariants.{Msg, Sem}
use Rattle.pico_base.specs.declared.reply.Reply.{Reply}
use Rattle.pico_base.specs.declared.script.Event.{Event}
use Rattle.pico_base.specs.declared.script.Event.TheVariants as events
use Rattle.pico_base.specs.declared.script.Script.{Script}
use Rattle.rpc_frame.specs.declared.frame.Frame.{Frame}
use Rattle.rpc_frame.specs.declared.frame.Frame.TheVariants as frames
use Rattle.number_maps.specs.Rising.{IsRising}
use Rattle.kernel_model.specs.Queue.{empty_queue}
use Rattle.kernel_model.specs.Script.{IsSoundScript}
use Rattle.kernel_model.specs.SemaphoreSet.{SemaphoreSet, new_set}
use Rattle.waiting_model.specs.Linear.{at_once}
use Rattle.waiting_model.specs.Waiters.{unawaited}
use Rattle.node_model.specs.Bodies.{AQueue, ASet}
use Rattle.node_model.specs.Awaiting.{on_own}
use Rattle.node_model.specs.Carrying.{is_own, is_served}
use Rattle.node_model.specs.Directory.{has_more, max_ranges}
use Rattle.node_model.specs.Kinds.{for_kind}
use Rattle.node_model.specs.Leases.{is_used_up}
use Rattle.world_model.specs.Node.{can_run}
use Rattle.world_model.specs.World.{World, node_count}
use Rattle.world_laws.specs.Places.{AsksLease, Beside, CallPlace, Idle, Parked}
use Rattle.world_laws.specs.Sights.{directory_of, node_of}
use Rattle.world_laws.specs.Invariant.{Holds}
use Rattle.world_laws.proofs.Steps.{Heads}
use Rattle.rule_laws.proofs.own.Asks.{lease-ask-starts}
use Rattle.rule_laws.proofs.own.Made.{makes-queue as a-queue, makes-set as a-set}
use Rattle.rule_laws.proofs.own.OwnCalls.{own-call-keeps}
use Rattle.rule_laws.proofs.own.Moved.{AfterRun, IsMoved, is_still}
use Rattle.rule_laws.proofs.own.OwnWaits.{own-wait-keeps}
use Rattle.rule_laws.proofs.own.OwnCases.{Keeps, OwnCase, forks as case-forks, is-refused, makes-queue, makes-set, own-case, serves}
use Rattle.rule_laws.proofs.own.Refused.{refused-keeps}
use Rattle.rule_laws.proofs.own.Runs.{Starts}
use Rattle.rule_laws.proofs.makes.FromFrame.{call as its-call, from-frame, making}
use Rattle.rule_laws.proofs.makes.FromLease.{from-lease}
use Rattle.rule_laws.proofs.makes.FromNext.{from-next}
use Rattle.rule_laws.proofs.makes.Making.{HasSize, Making, forks, makes_queue, makes_set, making-takes}
use Rattle.rule_laws.proofs.makes.NewForks.{fork-keeps}
use Rattle.rule_laws.proofs.makes.NewObjects.{object-keeps}
use Rattle.rule_laws.proofs.makes.Sources.{Origin, Source}
use Rattle.rule_laws.proofs.makes.Taken.{number-positive, number-unused}

-- the call of the node is over
abbrev pub IsOverAfter : Beside → ℕ → (ℕ → CallPlace) → Type 0
IsOverAfter b p after = IsMoved b.call after p (λ place. place ≡ Idle)

-- where the node has just started it, it is in some place
by-run : (script : Script) (w : World) (b : Beside) (p : ℕ) (e : Event) → Keeps script w e (IsOverAfter b p)
    → Keeps script w e (AfterRun b p)
by-run script w b p e k =
    let m : IsOverAfter b p k.beside.call = k.after
    in record {
      beside = k.beside;
      keeps = k.keeps;
      after = inr (record { place = m.place; calls = m.calls; fits = tt });
    }

-- ---- with a number of any source

module _ (script : Script) (sound : IsSoundScript script) (w : World) (b : Beside) (holds : Holds script w [] b) (p : ℕ)
    (kind : Kind) (number : ℕ) (numbers : List ℕ) (o : Origin) (e : Event) where
  fork-with : (block : ℕ) → Source script w b p (calls.Fork block) kind number numbers o e
      → Keeps script w e (IsOverAfter b p)
  fork-with block s =
      record {
        beside = _;
        keeps = fork-keeps script sound w b holds p block kind number numbers o e s;
        after = record { place = Idle; calls = λ y. is_still refl; fits = refl };
      }

  queue-with : (create excl : Bool)
      → Source script w b p (calls.MsgGet None create excl) kinds.Msg number numbers o e
      → Keeps script w e (IsOverAfter b p)
  queue-with create excl s =
      record {
        beside = _;
        keeps = object-keeps script w b holds p (calls.MsgGet None create excl) kinds.Msg number numbers o e s
            (Msg number) (AQueue (unawaited empty_queue))
            (a-queue script b.kernel (b.pids p) number create excl s.may
            (number-unused script w b holds p (calls.MsgGet None create excl) kinds.Msg number numbers o e s)
            (number-positive script w b holds p (calls.MsgGet None create excl) kinds.Msg number numbers o e s));
        after = record { place = Idle; calls = λ y. is_still refl; fits = refl };
      }

  set-with : (count : ℕ) (create excl : Bool) (set : SemaphoreSet) → new_set count ≡ Ok set
      → Source script w b p (calls.SemGet None count create excl) kinds.Sem number numbers o e
      → Keeps script w e (IsOverAfter b p)
  set-with count create excl set sized s =
      record {
        beside = _;
        keeps = object-keeps script w b holds p (calls.SemGet None count create excl) kinds.Sem number numbers o e s
            (Sem number) (ASet (unawaited set))
            (a-set script b.kernel (b.pids p) number count create excl set s.may sized
            (number-unused script w b holds p (calls.SemGet None count create excl) kinds.Sem number numbers o e s)
            (number-positive script w b holds p (calls.SemGet None count create excl) kinds.Sem number numbers o e s));
        after = record { place = Idle; calls = λ y. is_still refl; fits = refl };
      }

  -- A call that has its number is carried out with it.
  pub made-with : (call : Call) → Making kind call → Source script w b p call kind number numbers o e
      → Keeps script w e (IsOverAfter b p)
  made-with call (forks block kind_is is) s =
      fork-with block (subst (λ c. Source script w b p c kind number numbers o e) is s)
  made-with call (makes_queue create excl kind_is is) s =
      queue-with create excl
      (subst (λ k. Source script w b p (calls.MsgGet None create excl) k number numbers o e) kind_is
      (subst (λ c. Source script w b p c kind number numbers o e) is s))
  made-with call (makes_set count create excl set kind_is is sized) s =
      set-with count create excl set sized
      (subst (λ k. Source script w b p (calls.SemGet None count create excl) k number numbers o e) kind_is
      (subst (λ c. Source script w b p c kind number numbers o e) is s))

-- ---- a Lease

-- A node takes a Lease, and the call that asked for it goes on with its first number.
pub lease-keeps : (script : Script) → IsSoundScript script → (w : World) (b : Beside) → Holds script w [] b → (p : ℕ)
    (kind : Kind) (first : ℕ) (rest : List Frame) → Heads script w p 1 (frames.Lease kind first) rest
    → IsRising (node_of w p).deeds.processes
    → ((call : Call) → (node_of w p).caller.under_way ≡ Some call → HasSize call)
    → length (for_kind (directory_of w).ranges kind) ≤ max_ranges
    → Keeps script w (events.Take p 1) (IsOverAfter b p)
lease-keeps script sound w b holds p kind first rest h rising sized enough =
    made-with script sound w b holds p kind first _ _ (events.Take p 1)
    (its-call script w b holds p kind first rest h rising sized enough)
    (making script w b holds p kind first rest h rising sized enough)
    (from-frame script w b holds p kind first rest h rising sized enough)

-- ---- a call that starts

-- A call of a process on itself that is served has its reply, or parks.
served-starts : (script : Script) → IsSoundScript script → (w : World) (b : Beside) → Holds script w [] b → (p : ℕ)
    → 1 ≤ p → p ≤ node_count script → can_run (node_of w p) ≡ true → (s : Starts script w b p)
    → is_own (node_of w p).pid s.call ≡ true → is_served (at_once s.call) ≡ true
    → Keeps script w (events.Run p) (AfterRun b p)
served-starts script sound w b holds p low high can s own served =
    by-reply (on_own s.row (b.pids p) s.call).own refl
  where
    by-reply : (o : Option Reply) → (on_own s.row (b.pids p) s.call).own ≡ o
        → Keeps script w (events.Run p) (AfterRun b p)
    by-reply (Some reply) replied =
        record {
          beside = _;
          keeps = own-call-keeps script sound w b holds p low high can s own served reply replied;
          after = inl (λ y. is_still refl);
        }
    by-reply None unreplied =
        record {
          beside = _;
          keeps = own-wait-keeps script sound w b holds p low high can s own served unreplied;
          after = inr (record { place = Parked; calls = λ y. is_still refl; fits = tt });
        }

module _ (script : Script) (sound : IsSoundScript script) (w : World) (b : Beside) (holds : Holds script w [] b) (p : ℕ)
    (low : 1 ≤ p) (high : p ≤ node_count script) (can : can_run (node_of w p) ≡ true) (s : Starts script w b p)
    (more : (kind : Kind) → has_more (directory_of w) kind ≡ true) where
  enough : (kind : Kind) → length (for_kind (directory_of w).ranges kind) ≤ max_ranges
  enough kind =
      let less = ltb-true (length (for_kind (directory_of w).ranges kind)) max_ranges (more kind)
      in omega (arith, less)

  used-up : (kind : Kind) → Making kind s.call → for_kind (node_of w p).leases kind ≡ [] → (p ≡ 1) ⊎ (p ≢ 1)
      → Keeps script w (events.Run p) (AfterRun b p)
  used-up kind m over (inr other) =
      record {
        beside = _;
        keeps = lease-ask-starts script sound w b holds p low high can s other kind (making-takes kind s.call m)
            (ap is_used_up over);
        after = inr (record { place = AsksLease kind; calls = λ y. is_still refl; fits = tt });
      }
  used-up kind m over (inl first) =
      at-leader p first low high can s m over
    where
      at-leader : (q : ℕ) → q ≡ 1 → 1 ≤ q → q ≤ node_count script → can_run (node_of w q) ≡ true
          → (t : Starts script w b q) → Making kind t.call → for_kind (node_of w q).leases kind ≡ []
          → Keeps script w (events.Run q) (AfterRun b q)
      at-leader q i =
          subst (λ z. 1 ≤ z → z ≤ node_count script → can_run (node_of w z) ≡ true → (t : Starts script w b z)
          → Making kind t.call → for_kind (node_of w z).leases kind ≡ []
          → Keeps script w (events.Run z) (AfterRun b z)) (sym i)
          (λ low_z high_z can_z t m over.
          by-run script w b 1 (events.Run 1)
          (made-with script sound w b holds 1 kind _ _ _ (events.Run 1) t.call m
          (from-next script sound w b holds high_z can_z t kind (making-takes kind t.call m) over (more kind))))

  -- A call that takes a number starts with one of the lease; else the leader gives itself more, and another node asks.
  pub making-keeps : (kind : Kind) → Making kind s.call → Keeps script w (events.Run p) (AfterRun b p)
  making-keeps kind m = by-lease (for_kind (node_of w p).leases kind) refl
    where
      by-lease : (ns : List ℕ) → for_kind (node_of w p).leases kind ≡ ns → Keeps script w (events.Run p) (AfterRun b p)
      by-lease [] over = used-up kind m over (cases_eq p 1)
      by-lease (number ∷ numbers) lease =
          by-run script w b p (events.Run p)
          (made-with script sound w b holds p kind number numbers _ (events.Run p) s.call m
          (from-lease script sound w b holds p low high can s kind (making-takes kind s.call m) number numbers lease
          (enough kind)))

  -- Each call of a process on itself starts, at any node.
  pub own-call-starts : is_own (node_of w p).pid s.call ≡ true → Keeps script w (events.Run p) (AfterRun b p)
  own-call-starts own = by-case (own-case (node_of w p).pid s.call own s.due_now.not_withdrawal)
    where
      by-case : OwnCase s.call → Keeps script w (events.Run p) (AfterRun b p)
      by-case (serves served) = served-starts script sound w b holds p low high can s own served
      by-case (case-forks block is) = making-keeps kinds.Proc (forks block refl is)
      by-case (makes-queue create excl is) = making-keeps kinds.Msg (makes_queue create excl refl is)
      by-case (makes-set count create excl set is sized) =
          making-keeps kinds.Sem (makes_set count create excl set refl is sized)
      by-case (is-refused count create excl error is bad) =
          record {
            beside = _;
            keeps = refused-keeps script sound w b holds p low high can s count create excl error is bad;
            after = inl (λ y. is_still refl);
          }
