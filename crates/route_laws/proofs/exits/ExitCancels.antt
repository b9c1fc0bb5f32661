-- The withdrawals of all calls once an exit is carried out, whether it wakes the parent or not.
use Rattle.std.proofs.Common.{List, None, Some, [], ap, false, inl, inr, is_some, map, subst, sym, ℕ, ◌||◌, ◌∙◌, ◌∷◌, ◌≡◌, ◌≢◌, ◌≤◌}
use Rattle.std.proofs.lemmas.Bool.{cases_eq, false≢true, ne_eqb}
use Rattle.pico_base.specs.declared.call.Call.{Call}
use Rattle.pico_base.specs.declared.reply.Entry.{Entry}
use Rattle.pico_base.specs.declared.numbers.Name.TheVariants.{Proc}
use Rattle.pico_base.specs.declared.reply.Reply.{Reply}
use Rattle.pico_base.specs.declared.script.Script.{Script}
use Rattle.rpc_frame.specs.declared.deed.Parcel.{Parcel}
use Rattle.kernel_model.specs.Row.{Row}
use Rattle.waiting_model.specs.declared.callers.Wake.{Wake}
use Rattle.waiting_model.specs.Effect.{woken_pair}
use Rattle.waiting_model.specs.Kernel as whole_kernels
use Rattle.world_laws.specs.Places.{Beside, DeedPlace, Ends, InTable, NoCancel, Unmade}
use Rattle.world_laws.specs.Cancels.{CancelHolds, CancelSight, Owing, cancel_sight}
use Rattle.world_laws.specs.Deeds.{DeedsAreRead}
use Rattle.world_laws.specs.Wholes.{HasWhole, under_way_at}
use Rattle.world_laws.specs.Invariant.{HoldsOwing}
use Rattle.world_laws.proofs.Cancels.{SameCancel}
use Rattle.world_laws.proofs.Following.{SameOld}
use Rattle.world_laws.proofs.Replied.{cancel-over}
use Rattle.world_laws.specs.Sights.{node_of}
use Rattle.node_model.specs.Parcels.{Committed}
use Rattle.node_model.specs.declared.held.Held.{Held}
use Rattle.node_model.specs.Bodies.{Living as LivingBody}
use Rattle.route_laws.proofs.exits.Parcels.{HasParcel, has-number, is-an-end}
use Rattle.route_laws.proofs.exits.EndMarks.{IsExited, OwesAlso, ended-cancel, exit-cancel}
use Rattle.route_laws.proofs.Entered.{KeepsDoom}
use Rattle.route_laws.proofs.exits.Parents.{ParentLives, own_wake, parent-lives}
use Rattle.route_laws.proofs.exits.Exits.{ends_as, parent_body}
use Rattle.world_model.specs.World.{World, node_count}
use Rattle.world_model.specs.Ends.{is_struck_by_end}
use Rattle.waiting_laws.specs.Woken.{woken_in}

-- What is seen of withdrawals before, perhaps with what an arrival releases: it holds, of the same processes; and the
-- process that ends has a call that ends it under way.
pub record AreSeen (script : Script) (b : Beside) (c : ℕ) (call : Call) (owes : Owing) (s : ℕ → CancelSight) : Type 0
  where
    pub alive : (y : ℕ) → (s y).alive ≡ whole_kernels.living_at b.whole (b.pids y)
    pub held : (y : ℕ) → 1 ≤ y → y ≤ node_count script → CancelHolds y owes (s y)
    pub under_way : (s c).caller.under_way ≡ Some call

module _ (script : Script) (w : World) (hand : List Held) {owes : Owing} (b : Beside)
    (holds : HoldsOwing script w hand owes b) (parcel : Parcel) (c : ℕ) (call : Call) (place : DeedPlace)
    (parcel_is : HasParcel script w b parcel c call place) (reads : DeedsAreRead b.kernel b.body) (x : ℕ)
    (parent_at : b.deed (Proc parcel.parent) ≡ InTable x) (whole : HasWhole w b) (w' : World) (hand' : List Held)
    (b' : Beside) (lines : List Entry)
    (e : IsExited script w hand b holds parcel c call place parcel_is reads x parent_at whole w' hand' b' lines)
    (owes' : Owing) (also : OwesAlso x (is_struck_by_end (node_of w x) parcel.parent) owes owes')
    (ends : b'.call c ≡ Ends) where
  abbrev wakes : List Wake
  wakes = let m : Committed = ends_as script w hand b holds parcel c call place parcel_is reads x parent_at in m.wakes

  abbrev seen : ℕ → CancelSight
  seen y = cancel_sight w' hand' b' y

  -- nobody is woken
  pub cancels-alone : wakes ≡ [] → (s : ℕ → CancelSight) → AreSeen script b c call owes s →
      ((y : ℕ) → SameCancel (s y) (seen y))
      → ((y : ℕ) → y ≢ c → KeepsDoom b.kernel b'.kernel (b.pids y))
      → (y : ℕ) → 1 ≤ y → y ≤ node_count script → CancelHolds y owes' (seen y)
  cancels-alone none s h same doom y low high =
      elim (cases_eq y c) [
        | inl at ↦
            ended-cancel script w hand b holds parcel c call place parcel_is reads x parent_at whole w' hand' b' lines e
            owes' also y (s y) (h.alive y) (same y) (h.held y low high) call at
            (ap (λ q. (s q).caller.under_way) at ∙ h.under_way)
            (is-an-end script w hand b holds parcel c call place parcel_is) (ap b'.call at ∙ ends)
        | inr other ↦
            exit-cancel script w hand b holds parcel c call place parcel_is reads x parent_at whole w' hand' b' lines e
            owes' also y (s y) (h.alive y) (same y) (h.held y low high) other
            (ap (λ ws. woken_in (b.pids y) (map woken_pair ws)) none) (doom y other)
      ]

  -- the parent is, whose call is over
  module _ (row : Row)
      (is : parent_body script w hand b holds parcel c call place parcel_is reads x parent_at ≡ LivingBody row)
      (reply : Reply) (woken : wakes ≡ own_wake parcel.parent reply ∷ []) where
    l : ParentLives script w b parcel x row
    l = parent-lives script w hand b holds parcel c call place parcel_is reads x parent_at row is

    forked : b.pids x ≢ 0
    forked z =
        has-number script w hand b parcel.parent holds (λ u. not-unmade (sym parent_at ∙ u)) (l.pid_is ∙ z)
      where
        not-unmade : InTable x ≡ Unmade → ⊥
        not-unmade g = cc

    -- no other is
    pub asleep : (y : ℕ) → y ≢ x → woken_in (b.pids y) (map woken_pair wakes) ≡ false
    asleep y other =
        ap (λ ws. woken_in (b.pids y) (map woken_pair ws)) woken
        ∙ ap (λ t. t || false)
        (ne_eqb (b.pids y) parcel.parent
        (λ same. other (sym (holds.pids.apart x y forked (sym (same ∙ l.pid_is))))))

    pub cancels-woken : (s : ℕ → CancelSight) → AreSeen script b c call owes s →
        ((y : ℕ) → y ≢ x → SameCancel (s y) (seen y))
        → ((y : ℕ) → y ≢ c → y ≢ x → KeepsDoom b.kernel b'.kernel (b.pids y))
        → SameOld (s x) (seen x) → b'.cancel x ≡ NoCancel → under_way_at w' x ≡ None
        → (y : ℕ) → 1 ≤ y → y ≤ node_count script → CancelHolds y owes' (seen y)
    cancels-woken s h same doom old none free y low high =
        elim (cases_eq y x) [
          | inl at ↦
              subst (λ q. CancelHolds q owes' (seen q)) (sym at)
              (cancel-over x owes owes' (s x) (seen x) old none (inl free)
              (λ owed some. absurd (false≢true (sym (ap is_some free) ∙ some)))
              (subst (λ q. CancelHolds q owes (s q)) at (h.held y low high)))
          | inr away ↦
              elim (cases_eq y c) [
                | inl at ↦
                    ended-cancel script w hand b holds parcel c call place parcel_is reads x parent_at whole w' hand' b'
                    lines e owes' also y (s y) (h.alive y) (same y away) (h.held y low high) call at
                    (ap (λ q. (s q).caller.under_way) at ∙ h.under_way)
                    (is-an-end script w hand b holds parcel c call place parcel_is) (ap b'.call at ∙ ends)
                | inr other ↦
                    exit-cancel script w hand b holds parcel c call place parcel_is reads x parent_at whole w' hand' b'
                    lines e owes' also y (s y) (h.alive y) (same y away) (h.held y low high) other (asleep y away)
                    (doom y other away)
              ]
        ]
