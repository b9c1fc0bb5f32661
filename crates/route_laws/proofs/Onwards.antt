-- A call goes on without being carried out: it may be made wherever it is then, and its withdrawal stays behind it.
use Rattle.std.proofs.Common.{◌≡◌, ◌≢◌, ℕ, Bool, true, false, if◌then◌else◌, List, [], filter, refl, ap, sym, subst, ◌∙◌, append-nil}
use Rattle.std.specs.List.{AllByRecursion}
use Rattle.std.proofs.lemmas.Bool.{eq-eqb, ne_eqb, false≢true}
use Rattle.pico_base.specs.declared.numbers.Name.{Name}
use Rattle.pico_base.specs.declared.script.Script.{Script}
use Rattle.rpc_frame.specs.declared.frame.Frame.{Frame}
use Rattle.waiting_model.specs.Marks.{Alive}
use Rattle.node_model.specs.declared.held.Held.{Held}
use Rattle.node_model.specs.Caller.{Caller}
use Rattle.node_model.specs.Directory.{held_for}
use Rattle.world_model.specs.Node.{Node}
use Rattle.world_model.specs.World.{World}
use Rattle.world_laws.specs.Places.{CallPlace, SentByRange, Waits, Beside, call_in}
use Rattle.world_laws.specs.Sights.{node_of, directory_of, is_born_in}
use Rattle.world_laws.specs.Callers.{CallHolds, call_sight}
use Rattle.world_laws.specs.Cancels.{CancelIf, Owing, cancel_sight, is_cancel_of, is_held_cancel_of}
use Rattle.world_laws.specs.Wholes.{HasMarks, WholeIf, under_way_at}
use Rattle.world_laws.proofs.Cancels.{same-later}
use Rattle.world_laws.proofs.Changes.{Changes, read-same}
use Rattle.world_laws.proofs.Following.{CallGoesOn}
use Rattle.world_laws.proofs.LeftAlone.{SameCaller}
use Rattle.world_laws.proofs.Pairs.{goes_on, lands}
use Rattle.world_laws.proofs.Wholes.{is_to_be_made, marks-go-on, marks-of-others, whole-left-alone}
use Rattle.rule_laws.proofs.Withdrawals.{old-still}
use Rattle.route_laws.proofs.Owed.{cancel-if-goes-on}

-- a call that doesn't come to wait lands nowhere
abbrev pub is_wait_place : CallPlace → Bool
is_wait_place (Waits name) = true
is_wait_place place = false

pub lands-not : (place next : CallPlace) → is_wait_place next ≡ false → lands place next ≡ false
lands-not (SentByRange h) (Waits name) away = absurd (false≢true (sym away))
lands-not (SentByRange h) next away = refl
lands-not place next away = refl

module _ (script : Script) (p : ℕ) (w w' : World) (n : Node) (takes sends : List (ℕ × Frame))
    (c : Changes script p w w' n takes sends []) (b : Beside) (x : ℕ) (place next : CallPlace)
    (was : b.call x ≡ place) (same : SameCaller (node_of w p) n) where
  -- the call is there now
  abbrev pub gone_on : Beside
  gone_on = record b { call = call_in b.call x next }

  is-there : call_in b.call x next x ≡ next
  is-there = ap (λ t. if t then next else b.call x) (eq-eqb x x refl)

  -- and the calls of others are where they were
  pub others-still : (y : ℕ) → y ≢ x → call_in b.call x next y ≡ b.call y
  others-still y d = ap (λ t. if t then next else b.call y) (ne_eqb x y (λ e. d (sym e)))

  read : {A : Type 0} (f : Node → A) → f n ≡ f (node_of w p) → (y : ℕ) → f (node_of w y) ≡ f (node_of w' y)
  read f e y = sym (read-same script p w w' n takes sends [] c f e y)

  under-way-same : (y : ℕ) → under_way_at w y ≡ under_way_at w' y
  under-way-same y = read (λ (m : Node). m.caller.under_way) (ap (λ (k : Caller). k.under_way) same.caller) y

  -- The kernel in which callers wait stays beside the world.
  pub whole-goes-on : is_to_be_made place ≡ true → is_to_be_made next ≡ true → (owes : Owing) → WholeIf owes w b
      → WholeIf owes w' (record b { call = call_in b.call x next })
  whole-goes-on from to owes h =
      whole-left-alone w w' b gone_on owes
      (record {
        journal_is = c.journal ∙ append-nil w.journal;
        lines_are = refl;
        kernel_is = refl;
        whole_is = refl;
        pids_are = λ y. refl;
        bodies_are = λ name. refl;
        marks_still = λ p a lives. marks-of-others w w' b.call gone_on.call x others-still
            (λ y d. sym (under-way-same y)) p a (λ same. own-marks a);
      }) h
    where
      own-marks : (a : Alive) → HasMarks (b.call x) (under_way_at w x) a
          → HasMarks (gone_on.call x) (under_way_at w' x) a
      own-marks a marks =
          subst (λ z. HasMarks z (under_way_at w' x) a) (sym is-there)
          (subst (λ o. HasMarks next o a) (under-way-same x)
          (marks-go-on place next (under_way_at w x) a from to
          (subst (λ z. HasMarks z (under_way_at w x) a) was marks)))

  module _ (hand hand' : List Held) (number : (node_of w x).number ≡ x) (on : goes_on place next ≡ true)
      (nowhere : is_wait_place next ≡ false)
      (held : (name : Name)
      → filter (is_held_cancel_of x) (held_for (directory_of w') name)
      ≡ filter (is_held_cancel_of x) (held_for (directory_of w) name))
      (hand_is : filter (is_held_cancel_of x) hand' ≡ filter (is_held_cancel_of x) hand)
      (none_taken : AllByRecursion (λ s. is_cancel_of x s.1 ≡ false) takes)
      (none_sent : AllByRecursion (λ s. is_cancel_of x s.1 ≡ false) sends) where
    caller-same : (node_of w x).caller ≡ (node_of w' x).caller
    caller-same = read (λ (m : Node). m.caller) same.caller x

    goes : CallGoesOn x (cancel_sight w hand b x) (cancel_sight w' hand' gone_on x)
    goes =
        record {
          number_is = number;
          number = read (λ (m : Node). m.number) same.number x;
          caller = caller-same;
          old = old-still script p w w' n takes sends [] c hand hand' b gone_on x
              (read (λ (m : Node). m.pid) same.pid x)
              (same-later (let m : Node = node_of w x in m.caller) (let m : Node = node_of w' x in m.caller)
              caller-same) held hand_is none_taken none_sent;
          cancel = refl;
          goes = subst (λ z. goes_on z (gone_on.call x) ≡ true) (sym was)
              (subst (λ z. goes_on place z ≡ true) (sym is-there) on);
          somewhere = λ there. absurd (false≢true (sym (lands-not place next nowhere)
              ∙ sym (ap (λ z. lands place z) is-there) ∙ sym (ap (λ z. lands z (gone_on.call x)) was) ∙ there));
        }

    -- Its withdrawal stays behind it.
    pub cancel-goes-behind : (owes : Owing)
        → CallHolds script x (is_born_in w) (call_sight w hand b x)
        → CallHolds script x (is_born_in w') (call_sight w' hand' (record b { call = call_in b.call x next }) x)
        → CancelIf x owes (cancel_sight w hand b x)
        → CancelIf x owes (cancel_sight w' hand' (record b { call = call_in b.call x next }) x)
    cancel-goes-behind owes before after h =
        cancel-if-goes-on script x (is_born_in w) (is_born_in w') owes w w' hand hand' b gone_on goes refl before after
        h
