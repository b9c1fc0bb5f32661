-- Where a deed is held and nobody waits there as a withdrawal says, that is an old one: else its call would wait there.
use Rattle.std.proofs.Common.{Bool, List, Option, Some, [], ap, arith, cond, false, filter, is_some, nat_eq, refl, sym, true, ℕ, ◌&&◌, ◌++◌, ◌||◌, ◌∙◌, ◌∷◌, ◌≡◌, ◌≤◌}
use Rattle.std.proofs.lemmas.Bool.{eq-eqb, false≢true}
use Rattle.std.specs.List.{list_any}
use Rattle.std.specs.Option.{option_map_or}
use Rattle.pico_base.specs.declared.call.Call.{Call}
use Rattle.pico_base.specs.declared.numbers.Name.{Name}
use Rattle.pico_base.specs.declared.script.Script.{Script}
use Rattle.rpc_frame.specs.declared.asked.Asked.{Asked}
use Rattle.rpc_frame.specs.declared.frame.Frame.TheVariants as frames
use Rattle.rpc_frame.specs.declared.frame.Frame.{Frame}
use Rattle.waiting_model.specs.Calls.{waits_at, withdrawn_from}
use Rattle.waiting_model.specs.declared.callers.Waiting.{Waiting}
use Rattle.node_model.specs.Bodies.{waiters_of}
use Rattle.node_model.specs.Directory.{At, Coming, Place, place_of}
use Rattle.node_model.specs.Kinds.{is_object, is_same_name}
use Rattle.node_model.specs.Serving.{has_waiter, waiting_as}
use Rattle.node_model.specs.declared.held.Held.{Held}
use Rattle.world_model.specs.World.{World, node_count}
use Rattle.entry_laws.specs.Entering.{is_used_name}
use Rattle.waiter_fields.specs.Settling.{is_waiter}
use Rattle.world_laws.proofs.Cancels.{may_be_withdrawn}
use Rattle.world_laws.proofs.Following.{WaitsAt, waits-at}
use Rattle.world_laws.proofs.NameFacts.{held-here, play-needs}
use Rattle.world_laws.proofs.Named.{same-name}
use Rattle.world_laws.specs.Callers.{asked_of, call_sight, is_in_stream, is_waiter_of}
use Rattle.world_laws.specs.Cancels.{Owing, cancel_sight, may_follow}
use Rattle.world_laws.specs.Invariant.{HoldsOwing}
use Rattle.world_laws.specs.Names.{NameHolds, PlaysTo, held_as, held_at, name_sight, node_in}
use Rattle.world_laws.specs.Places.{Beside, CallPlace, IsHeld, SentByPlace, SentByRange, SentTo, Waits}
use Rattle.world_laws.specs.Plays.{IsNeeded, is_cancel_on, play, plays, steps_if}
use Rattle.world_laws.specs.Sights.{directory_of, frames_to, is_born_in, node_of}
use Rattle.route_laws.proofs.cancels.Beliefs.{owner-believed}
use Rattle.route_laws.proofs.cancels.Current.{IsCurrent}
use Rattle.route_laws.proofs.cancels.Deeds.{begins-held, held-is-there}
use Rattle.route_laws.proofs.cancels.Whereabouts.{by-place-at, by-place-to, by-range-at, by-range-to, held-is-coming, is_out, waits-at-used, waits-there}

none-there : {T : Type 0} (x : T) (xs : List T) → [] ≡ x ∷ xs → ⊥
none-there x xs h = cc

head-is : {T : Type 0} (x y : T) (xs ys : List T) → x ∷ xs ≡ y ∷ ys → x ≡ y
head-is x y xs ys h = cc

or-there : (t u : Bool) → u ≡ true → (t || u) ≡ true
or-there true u h = refl
or-there false u h = h

-- one that a filter keeps is in the list
among : (test kept : Waiting → Bool) (v : Waiting) (rest ws : List Waiting) → filter kept ws ≡ v ∷ rest
    → test v ≡ true → list_any test ws ≡ true
among test kept v rest [] h passes = absurd (none-there v rest h)
among test kept v rest (u ∷ ws) h passes = by (kept u) h (λ g. among test kept v rest ws g passes)
  where
    by : (t : Bool) → cond t (u ∷ filter kept ws) (filter kept ws) ≡ v ∷ rest
        → (filter kept ws ≡ v ∷ rest → list_any test ws ≡ true) → (test u || list_any test ws) ≡ true
    by true h later = ap (λ z. test z || list_any test ws) (head-is u v (filter kept ws) rest h)
        ∙ ap (λ t. t || list_any test ws) passes
    by false h later = or-there (test u) (list_any test ws) (later h)

module _ (script : Script) (w : World) (hand : List Held) (owes : Owing) (b : Beside)
    (holds : HoldsOwing script w hand owes b) (p : ℕ) (low : 1 ≤ p) (high : p ≤ node_count script) (call : Call)
    (is : (node_of w p).caller.under_way ≡ Some call)
    (may : may_be_withdrawn (node_of w p).pid call ≡ true) where
  abbrev name : Name
  name = waits_at (node_of w p).pid call

  known : NameHolds script b.pids (is_born_in w) name (name_sight script w hand b name)
  known = holds.names name

  at : WaitsAt (node_of w p).pid call
  at = waits-at (node_of w p).pid call may

  -- a call that waits is in its name's body under its ticket
  pub has-its-waiter : (m : Name) → b.call p ≡ Waits m
      → has_waiter (b.body name) (node_of w p).pid (node_of w p).caller.ticket ≡ true
  has-its-waiter m e =
      among (is_waiter (node_of w p).pid (node_of w p).caller.ticket) (is_waiter_of p)
      (waiting_as (asked_of (call_sight w hand b p) call)) [] (waiters_of (b.body name))
      (waits-there script w hand owes b holds p low high call is may m e)
      (both (eq-eqb (node_of w p).pid (node_of w p).pid refl)
      (eq-eqb (node_of w p).caller.ticket (node_of w p).caller.ticket refl))
    where
      both : {t u : Bool} → t ≡ true → u ≡ true → (t && u) ≡ true
      both {t} {u} e f = rw (e, f) refl

  -- a node that holds the name holds it with its body
  pub held-with-body : (h : ℕ) → is_some (held_at w name h) ≡ true → held_at w name h ≡ Some (b.body name)
  held-with-body h some =
      known.tables h
      ∙ ap (λ z. held_as z (b.body name) h) (held-is-there script w hand b name known at.object h some)
      ∙ held-here h (b.body name)

  abbrev is_coming_place : Option Place → Bool
  is_coming_place (Some (Coming to items)) = true
  is_coming_place place = false

  -- ---- at the leader

  module _ (place : place_of (directory_of w) name ≡ Some (At 1)) where
    -- it holds what it knows to be there
    pub leader-holds : held_at w name 1 ≡ Some (b.body name)
    leader-holds =
        held-with-body 1 (known.leader ∙ owner-believed script w hand owes b holds name at.object 1 place)

    deed-first : node_in (b.deed name) ≡ 1
    deed-first =
        ap node_in
        (held-is-there script w hand b name known at.object 1
        (known.leader ∙ owner-believed script w hand owes b holds name at.object 1 place))

    -- a call that has left its caller waits there
    pub waits-at-leader : is_out (b.call p) ≡ true
        → has_waiter (b.body name) (node_of w p).pid (node_of w p).caller.ticket ≡ true
    waits-at-leader out = by (b.call p) refl out
      where
        body-waits : Bool
        body-waits =
            has_waiter (b.body (waits_at (node_of w p).pid call)) (node_of w p).pid (node_of w p).caller.ticket

        by : (z : CallPlace) → b.call p ≡ z → is_out z ≡ true
            → has_waiter (b.body (waits_at (node_of w p).pid call)) (node_of w p).pid (node_of w p).caller.ticket ≡ true
        by (Waits m) e out = has-its-waiter m e
        by (SentByPlace h) e out =
            let there = by-place-at script w hand owes b holds p low high call is may h e
            in let to = by-place-to script w hand owes b holds p low high call is may h e
            in let one = deed-first
            in absurd (omega (arith, there, to, one))
        by (SentByRange h) e out =
            let there = by-range-at script w hand owes b holds p low high call is may h e
            (known.known (ap is_some place))
            in let to = by-range-to script w hand owes b holds p low high call is may h e
            in let one = deed-first
            in absurd (omega (arith, there, to, one))
        by (IsHeld m) e out =
            let coming = held-is-coming script w hand owes b holds p low high call is may m e
            in absurd (false≢true (sym (ap is_coming_place place) ∙ ap is_coming_place coming.2))
        by z e out = absurd (false≢true out)

  -- ---- at the node that its withdrawal has come to

  -- a call whose withdrawal was sent to a node, and is first in the stream, waits
  current-waits : (to : ℕ) (cancel : Asked) → IsCurrent p (cancel_sight w hand b p) call cancel (SentTo to)
      → (m : Name) × (b.call p ≡ Waits m)
  current-waits to cancel cur = by (b.call p) refl cur.pair cur.alone
    where
      both : (t : Bool) → t ≡ true → (t && true) ≡ true
      both t e = ap (λ z. z && true) e

      by : (z : CallPlace) → b.call p ≡ z → may_follow (SentTo to) z ≡ true → is_in_stream z p to 1 ≡ false
          → (m : Name) × (b.call p ≡ Waits m)
      by (Waits m) e follows alone = (m, e)
      by (SentByPlace h) e follows alone = absurd (false≢true (sym alone ∙ both (nat_eq to h) follows))
      by (SentByRange h) e follows alone = absurd (false≢true (sym alone ∙ both (nat_eq to h) follows))
      by z e follows alone = absurd (false≢true follows)

  module _ (to : ℕ) (low_to : 2 ≤ to) (cancel : Asked) (rest : List Frame)
      (front : frames_to w to 1 ≡ frames.Cancel cancel ∷ rest)
      (withdraws : withdrawn_from cancel.call ≡ Some name)
      (cur : IsCurrent p (cancel_sight w hand b p) call cancel (SentTo to)) where
    used : is_used_name b.kernel name ≡ true
    used =
        let waits = current-waits to cancel cur
        in waits-at-used script w hand owes b holds p low high call is may waits.0 waits.1

    both : (t u : Bool) → t ≡ true → u ≡ true → (t && u) ≡ true
    both t u e f = rw (e, f) refl

    on-it : is_cancel_on name cancel ≡ true
    on-it =
        both (is_object name) (option_map_or (is_same_name name) (withdrawn_from cancel.call) false) at.object
        (ap (λ o. option_map_or (is_same_name name) o false) withdraws ∙ same-name name name refl)

    steps-first : plays (is_used_name b.kernel name) b.call name (frames_to w to 1)
        ≡ IsNeeded ∷ plays (is_used_name b.kernel name) b.call name rest
    steps-first =
        ap (plays (is_used_name b.kernel name) b.call name) front
        ∙ ap (λ t. steps_if t IsNeeded ++ plays (is_used_name b.kernel name) b.call name rest)
        (both (is_used_name b.kernel name) (is_cancel_on name cancel) used on-it)

    -- the node holds the deed
    pub node-holds : held_at w name to ≡ Some (b.body name)
    node-holds =
        let old : PlaysTo _ _ _ = known.plays to low_to
        in held-with-body to
        (begins-held script w hand b name known at.object to
        (play-needs _ old.last (plays (is_used_name b.kernel name) b.call name rest)
        (ap (play _) (sym steps-first) ∙ old.plays)).0)

    -- and the call waits there
    pub waits-at-node : has_waiter (b.body name) (node_of w p).pid (node_of w p).caller.ticket ≡ true
    waits-at-node = let waits = current-waits to cancel cur in has-its-waiter waits.0 waits.1
