-- At rest no process is doomed: a signal that dooms it would have interrupted its call, and the withdrawal would be on
-- its way or held.
use Rattle.std.proofs.Common.{◌≡◌, ◌≢◌, ℕ, ◌≤◌, Bool, true, false, ◌&&◌, nat_eq, List, [], ◌∷◌, ◌++◌, filter, Option, Some, None, is_some, refl, ap, sym, subst, ◌∙◌}
use Rattle.std.proofs.lemmas.Bool.{eq-eqb, false≢true}
use Rattle.pico_base.specs.declared.call.Call.{Call}
use Rattle.pico_base.specs.declared.call.Call.TheVariants as calls
use Rattle.pico_base.specs.declared.numbers.Name.{Name}
use Rattle.pico_base.specs.declared.script.Script.{Script}
use Rattle.pico_base.specs.Home.{home_of}
use Rattle.waiting_model.specs.Calls.{may_park, waits_at}
use Rattle.waiting_model.specs.Kernel.{living_at}
use Rattle.waiting_model.specs.Marks.{Alive}
use Rattle.node_model.specs.Kinds.{is_object}
use Rattle.world_model.specs.Run.{IsAtRest}
use Rattle.world_model.specs.World.{World, node_count}
use Rattle.world_laws.specs.Callers.{is_on, may_be_in, only_if}
use Rattle.world_laws.specs.Cancels.{CallMayWait, CancelHolds, CancelSight, FollowsItsCall, MayBeInterrupted, Nothing, OfCall, WaitsForChild, asked_as, cancel_held_at, cancel_in_hand, cancel_in_stream, cancel_sight, has_reply, is_doomed, is_of_call, is_held_of_call}
use Rattle.world_laws.specs.Invariant.{Holds}
use Rattle.world_laws.specs.Places.{Beside, CallPlace, CancelHeld, CancelInHand, CancelPlace, NoCancel, Parked, SentByRange, SentTo, ToLeader, Waits}
use Rattle.world_laws.specs.Sights.{node_of}
use Rattle.world_laws.proofs.Named.{same-name}
use Rattle.bound_laws.specs.Bounded.{IsBounded}
use Rattle.rest_laws.proofs.Held.{nothing-held}
use Rattle.rest_laws.proofs.Nodes.{WaitsHere, is_waiting_place}
use Rattle.rest_laws.proofs.Streams.{all-empty}

-- a call that waits elsewhere than at its caller does so at a queue or a set
on-object : (pid : ℕ) (call : Call) (m : Name) → may_park call ≡ true → is_on m (home_of pid call) ≡ true
    → is_object (waits_at pid call) ≡ true
on-object pid (calls.MsgSnd id class text nowait) m parks on = refl
on-object pid (calls.MsgRcv id class size noerror nowait) m parks on = refl
on-object pid (calls.SemOp id steps) m parks on = refl
on-object pid (calls.WaitPid child nohang) m parks on = absurd (false≢true on)
on-object pid call m parks on = absurd (false≢true parks)

first-of : (t u : Bool) → (t && u) ≡ true → t ≡ true
first-of true u h = refl
first-of false u h = absurd (false≢true h)

undoomed-is : {A : Type 0} (o : Option A) → is_some o ≡ false → o ≡ None
undoomed-is None h = refl
undoomed-is (Some x) h = absurd (false≢true (sym h))

-- nothing is both empty and a list with something in it
never-ends-so : {A B : Type 0} (xs : List A) (t : Bool) (x : A) → t ≡ true → [] ≡ xs ++ only_if t x → B
never-ends-so {A} [] true x h e = absurd (differ e)
  where
    differ : [] ≡ x ∷ [] → ⊥
    differ g = cc
never-ends-so {A} (y ∷ ys) true x h e = absurd (differ e)
  where
    differ : [] ≡ y ∷ (ys ++ x ∷ []) → ⊥
    differ g = cc
never-ends-so xs false x h e = absurd (false≢true h)

not-by-range : (place : CallPlace) (node : ℕ) → is_waiting_place place ≡ true → place ≡ SentByRange node → ⊥
not-by-range place node waits e = false≢true (sym (ap is_waiting_place e) ∙ waits)

same-numbers : (to sender : ℕ) → (nat_eq to to && nat_eq sender sender) ≡ true
same-numbers to sender = rw (eq-eqb to to refl, eq-eqb sender sender refl) refl

module _ (script : Script) (w : World) (b : Beside) (holds : Holds script w [] b) (rest : IsAtRest w)
    (bounded : IsBounded script w []) (p : ℕ) (low : 1 ≤ p) (high : p ≤ node_count script) (call : Call)
    (waits : WaitsHere script w b p call) where
  abbrev x : CancelSight
  x = cancel_sight w [] b p

  abbrev name : Name
  name = waits_at (node_of w p).pid call

  cancel-holds : CancelHolds p Nothing x
  cancel-holds = holds.cancels p low high

  of-call : OfCall p false x (b.call p) (Some call)
  of-call = subst (λ o. OfCall p false x (b.call p) o) waits.is cancel-holds.of_call

  -- there is no withdrawal
  module _ (may : CallMayWait p false x call name) where
    follows : FollowsItsCall p x (asked_as x call) (asked_as x (calls.Withdraw name))
    follows = may.follows

    in-no-stream : (to sender : ℕ) → cancel_in_stream x.cancel p to sender ≡ true → ⊥
    in-no-stream to sender there =
        never-ends-so _ (cancel_in_stream x.cancel p to sender) _ there
        (sym (ap (filter (is_of_call p (node_of w p).caller.ticket to sender))
        (all-empty script w b holds rest bounded to sender))
        ∙ follows.in_streams to sender)

    in-no-list : (m : Name) → cancel_held_at x.cancel m ≡ true → ⊥
    in-no-list m there =
        never-ends-so _ (cancel_held_at x.cancel m) _ there
        (sym (ap (filter (is_held_of_call p (node_of w p).caller.ticket))
        (nothing-held script w b holds rest bounded m))
        ∙ follows.held_for_names m)

    no-cancel : b.cancel p ≡ NoCancel
    no-cancel = by-place (b.cancel p) refl
      where
        by-place : (c : CancelPlace) → b.cancel p ≡ c → b.cancel p ≡ NoCancel
        by-place NoCancel e = e
        by-place ToLeader e =
            absurd (in-no-stream 1 p (ap (λ c. cancel_in_stream c p 1 p) e ∙ same-numbers 1 p))
        by-place (SentTo h) e =
            absurd (in-no-stream h 1 (ap (λ c. cancel_in_stream c p h 1) e ∙ same-numbers h 1))
        by-place (CancelHeld m) e =
            absurd (in-no-list m (ap (λ c. cancel_held_at c m) e ∙ same-name m m refl))
        by-place CancelInHand e =
            absurd (never-ends-so _ (cancel_in_hand x.cancel) _ (ap cancel_in_hand e) follows.in_hand)

    not-doomed : is_doomed x.alive ≡ true → ⊥
    not-doomed doomed =
        let nowhere = may.nowhere (may.interrupted refl doomed) no-cancel
        in not-by-range (b.call p) nowhere.node waits.place nowhere.is

    waits-undoomed : is_doomed x.alive ≡ false
    waits-undoomed = by-test (is_doomed x.alive) refl
      where
        by-test : (t : Bool) → is_doomed x.alive ≡ t → is_doomed x.alive ≡ false
        by-test false e = e
        by-test true e = absurd (not-doomed e)

  sight-undoomed : is_doomed x.alive ≡ false
  sight-undoomed = by-place (b.call p) waits.place waits.home of-call
    where
      by-place : (place : CallPlace) → is_waiting_place place ≡ true
          → may_be_in place (home_of (node_of w p).pid call) call ≡ true
          → OfCall p false x place (Some call) → is_doomed x.alive ≡ false
      by-place Parked t may h = let child : WaitsForChild false x = h.1 in child.undoomed refl
      by-place (Waits m) t may h =
          waits-undoomed
          (subst (λ u. MayBeInterrupted p false x call name u (has_reply (Waits m)))
          (ap (λ u. u && is_object name) waits.parks
          ∙ on-object (node_of w p).pid call m waits.parks
          (first-of (is_on m (home_of (node_of w p).pid call)) (may_park call) may)) h)
      by-place place t may h = absurd (false≢true t)

  -- No signal has doomed it.
  pub undoomed : (a : Alive) → living_at b.whole (b.pids p) ≡ Some a → a.row.signals.doom ≡ None
  undoomed a lives = undoomed-is a.row.signals.doom (sym (ap is_doomed lives) ∙ sight-undoomed)
