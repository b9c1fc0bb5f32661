-- The withdrawals once a call was served: who has a reply has none, a call that parks leaves its own behind, and those
-- of others are where they were.
use Rattle.std.proofs.Common.{◌≡◌, ◌≢◌, ◌⊎◌, ℕ, ◌≤◌, Bool, true, false, ◌||◌, cond, if◌then◌else◌, List, [], ◌∷◌, ◌++◌, filter, nat_eq, Option, Some, None, is_some, refl, ap, sym, subst, ◌∙◌, inl, inr}
use Rattle.std.specs.List.{AllByRecursion}
use Rattle.std.proofs.lemmas.Bool.{cases_eq, eq-eqb, eqb-true, false≢true, ne_eqb}
use Rattle.pico_base.specs.declared.call.Call.{Call}
use Rattle.pico_base.specs.declared.call.Call.TheVariants as calls
use Rattle.pico_base.specs.declared.numbers.Name.{Name}
use Rattle.pico_base.specs.declared.reply.Entry.{Entry}
use Rattle.pico_base.specs.declared.reply.Reply.{Reply}
use Rattle.pico_base.specs.declared.script.Script.{Script}
use Rattle.pico_base.specs.Home.{home_of}
use Rattle.rpc_frame.specs.declared.asked.Asked.{Asked}
use Rattle.rpc_frame.specs.declared.frame.Frame.{Frame}
use Rattle.waiting_model.specs.Calls.{is_withdrawal, waits_at, withdrawn_from}
use Rattle.waiting_model.specs.Kernel.{living_at}
use Rattle.waiting_laws.proofs.ParksStruck.{LivesParked, parks-keep-struck}
use Rattle.node_model.specs.declared.held.Held.{Held}
use Rattle.node_model.specs.declared.held.Held.TheVariants.{Request}
use Rattle.node_model.specs.Awaiting.{Applied, on_whole}
use Rattle.node_model.specs.Bodies.{Body}
use Rattle.node_model.specs.Caller.{Caller}
use Rattle.node_model.specs.Directory.{Directory, held_for, is_known, stays}
use Rattle.node_model.specs.Kinds.{is_object}
use Rattle.node_model.specs.Serving.{waiting_as}
use Rattle.world_model.specs.Node.{Node}
use Rattle.world_model.specs.Serving as serving
use Rattle.world_model.specs.Step.{Step}
use Rattle.world_model.specs.World.{World, node_count, world_after}
use Rattle.world_laws.specs.Places.{CancelPlace, Idle, InTable, IsInHand, NoCancel, Waits, Beside}
use Rattle.world_laws.specs.Sights.{node_of, directory_of, is_born_in}
use Rattle.world_laws.specs.Callers.{CallHolds, CallSight, HasCallOrNone, call_sight, is_about, is_item_about, is_on, may_be_in}
use Rattle.world_laws.specs.Cancels.{CancelHolds, CancelIf, CancelSight, Owing, cancel_sight, has_reply, is_cancel_of, is_doomed, is_held_cancel_of, is_owed, is_struck, owing_of}
use Rattle.world_laws.specs.Families.{NodeHolds}
use Rattle.world_laws.specs.Wholes.{HasWhole}
use Rattle.world_laws.specs.Invariant.{HoldsOwing}
use Rattle.world_laws.proofs.Cancels.{IsLater, SameCancel, StaysOwed, cancel-left-alone, cancel-stays, is_item_of, same-later}
use Rattle.world_laws.proofs.Changes.{Changes, read-same}
use Rattle.world_laws.proofs.Following.{CallGoesOn, SameOld}
use Rattle.world_laws.proofs.GoingOn.{cancel-goes-on}
use Rattle.world_laws.proofs.LeftAlone.{SameCaller}
use Rattle.world_laws.proofs.Replied.{IsOver, cancel-over}
use Rattle.rule_laws.proofs.Withdrawals.{old-still}
use Rattle.route_laws.proofs.hand.HandMoves.{IsCallOf, IsFirst, first}
use Rattle.route_laws.proofs.served.AllTurns.{CarriedAt, is_among}
use Rattle.route_laws.proofs.served.Before.{GoesToWait, WasBefore}
use Rattle.route_laws.proofs.served.Replies.{IsAtWork, place_by}
use Rattle.route_laws.proofs.served.Rounds.{Answered}
use Rattle.route_laws.proofs.served.Serving.{IsServing, OwnPlace, own_turn}
use Rattle.route_laws.proofs.served.Stepped.{caller-lives}
use Rattle.route_laws.proofs.served.Strikes.{doomed-was, struck-now, struck-still, doomed-elsewhere}
use Rattle.route_laws.proofs.served.Whole.{StandsWhole}
use Rattle.world_laws.proofs.Pairs.{goes_on, lands}
use Rattle.route_laws.proofs.hand.Answering.{pid-in-hand}

-- What the step changes: frames to those who have their replies, and the node's own call, where that has one.
pub record IsStepOf (script : Script) (v : World) (p : ℕ) (s t : Step) (asked : Asked) (name : Name) (d : Applied Body)
    (woken : List Answered) : Type 0 where
  pub sends : List (ℕ × Frame)
  pub entries : List Entry
  pub changes : Changes script p (world_after v p s) (world_after v p t) t.node [] sends entries
  pub there : node_of (world_after v p s) p ≡ s.node
  pub directory : directory_of (world_after v p t) ≡ directory_of (world_after v p s)
  pub of_no_other : (y : ℕ) → y ≢ asked.caller → is_among y woken ≡ false
      → AllByRecursion (λ f. is_about y f.0 p f.1 ≡ false) sends
  pub about_none : d.own ≡ None → AllByRecursion (λ f. is_about asked.caller f.0 p f.1 ≡ false) sends
  pub no_cancel : (y : ℕ) → AllByRecursion (λ f. is_cancel_of y f.1 ≡ false) sends
  -- the node
  pub number : t.node.number ≡ (node_of (world_after v p s) p).number
  pub pid : t.node.pid ≡ (node_of (world_after v p s) p).pid
  pub later : IsLater (node_of (world_after v p s) p).caller t.node.caller
  pub same_caller : (p ≡ asked.caller → d.own ≡ None) → is_among p woken ≡ false
      → SameCaller (node_of (world_after v p s) p) t.node
  pub strikes : t.strikes ≡ (s.strikes || serving.is_struck s.node name asked.call)

-- ---- what is owed

pub whole-holds : (p : ℕ) (strikes : Bool) (y : ℕ) (x : CancelSight) → CancelIf y (owing_of p strikes) x
    → CancelHolds y (owing_of p strikes) x
whole-holds p true y x h = h
whole-holds p false y x h = h

pub holds-whole : (p : ℕ) (strikes : Bool) (y : ℕ) (x : CancelSight) → CancelHolds y (owing_of p strikes) x
    → CancelIf y (owing_of p strikes) x
holds-whole p true y x h = h
holds-whole p false y x h = h

-- only of the node itself, and where a signal strikes
pub owed-is : (p : ℕ) (strikes : Bool) (y : ℕ) → is_owed (owing_of p strikes) y ≡ true → (p ≡ y) × (strikes ≡ true)
owed-is p true y h = (eqb-true p y h, refl)
owed-is p false y h = absurd (false≢true h)

pub not-owed : (p : ℕ) (strikes : Bool) → is_owed (owing_of p strikes) p ≡ false → strikes ≡ false
not-owed p true h = absurd (false≢true (sym h ∙ eq-eqb p p refl))
not-owed p false h = refl

pub owed-no-more : (p : ℕ) (before now : Bool) (y : ℕ) → is_owed (owing_of p (before || now)) y ≡ false
    → is_owed (owing_of p before) y ≡ false
owed-no-more p true now y h = h
owed-no-more p false now y h = refl

or-false : (a c : Bool) → (a || c) ≡ false → c ≡ false
or-false true c h = absurd (false≢true (sym h))
or-false false c h = h

or-true : (a c : Bool) → (a || c) ≡ true → (a ≡ true) ⊎ (c ≡ true)
or-true true c h = inl refl
or-true false c h = inr h

-- where there is no call under way, or its reply is on its way, it is over
over-at : (script : Script) (p y : ℕ) (born : ℕ → Bool) (x : CallSight) (z : CancelSight) → x.call ≡ z.call
    → x.caller ≡ z.caller → CallHolds script y born x → CarriedAt p y x.call → IsOver z
over-at script p y born x z calls callers h c = by (nat_eq y p) c.is
  where
    none-of : (o : Option Call) → x.caller.under_way ≡ o → x.call ≡ Idle → HasCallOrNone script y born x o
        → x.caller.under_way ≡ None
    none-of None is idle g = is
    none-of (Some call) is idle g =
        absurd (false≢true (sym (ap (λ place. may_be_in place (home_of x.pid call) call) idle) ∙ g.home))

    by : (own : Bool) → x.call ≡ place_by own p c.reply → IsOver z
    by true is =
        inl (sym (ap (λ (k : Caller). k.under_way) callers) ∙ none-of x.caller.under_way refl is h.call)
    by false is = inr (sym (ap has_reply calls) ∙ ap has_reply is)

-- and a node's own call is over
idle-at : (script : Script) (y : ℕ) (born : ℕ → Bool) (x : CallSight) → CallHolds script y born x
    → CarriedAt y y x.call → x.caller.under_way ≡ None
idle-at script y born x h c = none-of x.caller.under_way refl h.call
  where
    idle : x.call ≡ Idle
    idle = c.is ∙ ap (λ own. place_by own y c.reply) (eq-eqb y y refl)

    none-of : (o : Option Call) → x.caller.under_way ≡ o → HasCallOrNone script y born x o → x.caller.under_way ≡ None
    none-of None is g = is
    none-of (Some call) is g =
        absurd (false≢true (sym (ap (λ place. may_be_in place (home_of x.pid call) call) idle) ∙ g.home))

no-withdrawal : (call : Call) → is_withdrawal call ≡ false → withdrawn_from call ≡ None
no-withdrawal (calls.Withdraw name) h = absurd (false≢true (sym h))
no-withdrawal call h = refl

one-of-both : (a c : Bool) → c ≡ true → (a || c) ≡ true
one-of-both true c h = refl
one-of-both false c h = h

-- ---- all withdrawals

module _ (script : Script) (v : World) (p : ℕ) (s t : Step) (asked : Asked) (rest : List Held) (b : Beside)
    {owed : Owing} (holds : HoldsOwing script (world_after v p s) (Request asked ∷ rest) owed b)
    (h : HasWhole (world_after v p s) b) (earlier : WasBefore script v p s asked rest b)
    (waits : GoesToWait script v p s asked rest b earlier) (at : IsAtWork script (world_after v p s) p)
    (asks : IsCallOf script asked)
    (name : Name) (on : is_on name (home_of asked.pid asked.call) ≡ true) (here : b.deed name ≡ InTable p)
    (woken : List Answered)
    (i : IsServing script v p t asked rest b name (on_whole name (b.body name) (waiting_as asked)) woken)
    (z : StandsWhole v p t asked b i.beside (on_whole name (b.body name) (waiting_as asked)) woken)
    (g : IsStepOf script v p s t asked name (on_whole name (b.body name) (waiting_as asked)) woken)
    (parked : (on_whole name (b.body name) (waiting_as asked)).own ≡ None → is_object name ≡ true) where
  abbrev w : World
  w = world_after v p s

  abbrev w' : World
  w' = world_after v p t

  abbrev d : Applied Body
  d = on_whole name (b.body name) (waiting_as asked)

  -- the world before, where the call was elsewhere
  abbrev u : World
  u = earlier.world

  abbrev hand : List Held
  hand = earlier.hand

  abbrev beside-before : Beside
  beside-before = record b { call = earlier.call }

  abbrev now : Bool
  now = serving.is_struck s.node name asked.call

  abbrev owes' : Owing
  owes' = owing_of p t.strikes

  -- who has a reply
  abbrev pub is_answered_by : ℕ → Bool
  is_answered_by y = is_among y (own_turn asked d.own ++ woken)

  -- has no withdrawal
  abbrev pub cancel_after : ℕ → CancelPlace
  cancel_after y = if is_answered_by y then NoCancel else b.cancel y

  abbrev pub after : Beside
  after = record i.beside { whole = z.next; cancel = cancel_after }

  abbrev x : ℕ → CancelSight
  x y = cancel_sight u hand beside-before y

  abbrev x' : ℕ → CancelSight
  x' y = cancel_sight w' rest after y

  pids-same : (y : ℕ) → i.beside.pids y ≡ b.pids y
  pids-same y = ap (λ f. f y) i.keeps.pids

  before : (y : ℕ) → 1 ≤ y → y ≤ node_count script → CancelHolds y (owing_of p s.strikes) (x y)
  before y low high = whole-holds p s.strikes y (x y) (earlier.cancels y low high)

  calls-then : (y : ℕ) → 1 ≤ y → y ≤ node_count script
      → CallHolds script y (is_born_in w') (call_sight w' rest i.beside y)
  calls-then y low high =
      let k = i.holds
      in k.calls y low high

  is-first : IsFirst script asked.caller (is_born_in w) (call_sight w (Request asked ∷ rest) b asked.caller) asked
      (filter (is_item_about asked.caller) rest)
  is-first = first script w asked rest b holds asks

  cancel-kept : (y : ℕ) → is_answered_by y ≡ false → cancel_after y ≡ b.cancel y
  cancel-kept y none = ap (λ t. if t then NoCancel else b.cancel y) none

  -- ---- what stays of each

  node-same : {A : Type 0} (f : Node → A) → f t.node ≡ f (node_of w p) → (y : ℕ) → f (node_of w' y) ≡ f (node_of u y)
  node-same f same y =
      read-same script p w w' t.node [] g.sends g.entries g.changes f same y ∙ ap f (earlier.nodes y)

  directory-same : directory_of w' ≡ directory_of u
  directory-same = g.directory ∙ ap (λ (n : Node). n.leader.directory) (earlier.nodes 1)

  changes : Changes script p u w' t.node earlier.takes g.sends g.entries
  changes = earlier.changes w' t.node g.sends g.entries g.changes

  later-there : (y : ℕ) → IsLater (node_of u y).caller (node_of w' y).caller
  later-there y =
      subst (λ (n : Node). IsLater n.caller (node_of w' y).caller) (earlier.nodes y)
      (elim (cases_eq y p) [
        | inl e ↦
            subst (λ q. IsLater (node_of w q).caller (node_of w' q).caller) (sym e)
            (subst (λ (n : Node). IsLater (node_of w p).caller n.caller) (sym g.changes.here) g.later)
        | inr other ↦
            same-later (node_of w y).caller (node_of w' y).caller
            (ap (λ (n : Node). n.caller) (sym (g.changes.others y other)))
      ])

  old-there : (y : ℕ) → SameOld (x y) (x' y)
  old-there y =
      old-still script p u w' t.node earlier.takes g.sends g.entries changes hand rest beside-before after y
      (sym (node-same (λ (n : Node). n.pid) g.pid y))
      (later-there y)
      (λ m. ap (λ (e : Directory). filter (is_held_cancel_of y) (held_for e m)) directory-same)
      (earlier.cancel_items y) (earlier.no_cancel y) (g.no_cancel y)

  marks-of : (y : ℕ) → living_at z.next (i.beside.pids y) ≡ living_at z.next (b.pids y)
  marks-of y = ap (living_at z.next) (pids-same y)

  -- what is owed of who has no reply, where its process is struck as it was, and isn't doomed anew
  stays-owed : (y : ℕ) → 1 ≤ y → y ≤ node_count script
      → (is_struck (living_at b.whole (b.pids y)) ≡ true → is_struck (living_at z.next (b.pids y)) ≡ true)
      → (x' y).caller.under_way ≡ (x y).caller.under_way
      → StaysOwed y (owing_of p s.strikes) owes' (x y) (x' y)
  stays-owed y low high struck under_way =
      record {
        owed = λ none. owed-no-more p s.strikes now y (subst (λ k. is_owed (owing_of p k) y ≡ false) g.strikes none);
        struck = λ was. ap is_struck (marks-of y) ∙ struck was;
        doomed = λ none doomed. doomed-before none (sym (ap is_doomed (marks-of y)) ∙ doomed);
        strikes = λ owed some. ap is_struck (marks-of y) ∙ strikes-then owed (ap is_some (sym under_way) ∙ some);
      }
    where
      doomed-by : (k : Bool) → now ≡ k → is_owed owes' y ≡ false → is_doomed (living_at z.next (b.pids y)) ≡ true
          → is_doomed (living_at b.whole (b.pids y)) ≡ true
      doomed-by false calm none doomed =
          doomed-was script v p s t asked rest b holds h at asks name on here woken i z g.there y calm doomed
      doomed-by true yes_now none doomed =
          doomed-elsewhere script v p s t asked rest b holds h at asks name on here woken i z g.there y
          (λ same. not-both (or-false s.strikes now
          (sym g.strikes ∙ not-owed p t.strikes (subst (λ q. is_owed owes' q ≡ false) same none))) yes_now) doomed
        where
          not-both : now ≡ false → now ≡ true → ⊥
          not-both a c = false≢true (sym a ∙ c)

      doomed-before : is_owed owes' y ≡ false → is_doomed (living_at z.next (b.pids y)) ≡ true
          → is_doomed (living_at b.whole (b.pids y)) ≡ true
      doomed-before none doomed = doomed-by now refl none doomed

      strikes-then : is_owed owes' y ≡ true → is_some (x y).caller.under_way ≡ true
          → is_struck (living_at z.next (b.pids y)) ≡ true
      strikes-then owed some =
          let is = owed-is p t.strikes y owed
          in elim (or-true s.strikes now (sym g.strikes ∙ is.1)) [
            | inl was ↦
                struck
                ((before y low high).owed
                (subst (λ k. is_owed (owing_of p k) y ≡ true) (sym was) (eq-eqb p y is.0)) some)
            | inr yes_now ↦
                subst (λ q. is_struck (living_at z.next (b.pids q)) ≡ true) is.0
                (struck-now script v p s t asked rest b holds h at asks name on here woken i z g.there yes_now)
          ]

  -- ---- those of others

  other-stays : (y : ℕ) → 1 ≤ y → y ≤ node_count script → y ≢ asked.caller → is_among y woken ≡ false
      → is_answered_by y ≡ false → CancelHolds y owes' (x' y)
  other-stays y low high other among none =
      cancel-stays y (owing_of p s.strikes) owes' (x y) (x' y) same
      (stays-owed y low high (struck-still script v p s t asked rest b holds h at asks name on here woken i z g.there y
      other
      among) (sym (ap (λ (k : Caller). k.under_way) same.caller))) (before y low high)
    where
      own-same : y ≡ p → SameCaller (node_of u p) t.node
      own-same e =
          subst (λ (n : Node). SameCaller n t.node) (earlier.nodes p)
          (g.same_caller (λ same. absurd (other (e ∙ same))) (subst (λ q. is_among q woken ≡ false) e among))

      call-still : i.beside.call y ≡ earlier.call y
      call-still = i.still y other among ∙ earlier.others y other

      same : SameCancel (x y) (x' y)
      same =
          cancel-left-alone script p u w' t.node earlier.takes g.sends g.entries changes hand rest beside-before after y
          (record {
            own = own-same;
            call_is = call-still;
            cancel_is = cancel-kept y none;
            held_is = λ m. ap (λ (e : Directory). filter (is_item_of y) (held_for e m)) directory-same;
            hand_is = earlier.items y other;
            nowhere = λ call is may l. record {
              node = l.node;
              is = call-still ∙ l.is;
              leaves = ap (λ (e : Directory). stays e l.node) directory-same ∙ l.leaves;
              unknown = ap (λ (e : Directory). is_known e (waits_at (node_of u y).pid call)) directory-same ∙ l.unknown;
            };
          }) (earlier.of_no_other y other) (g.of_no_other y other among) (earlier.no_cancel y) (g.no_cancel y)

  -- ---- of who has a reply

  answered-over : (y : ℕ) → 1 ≤ y → y ≤ node_count script → is_answered_by y ≡ true
      → CarriedAt p y (i.beside.call y) → CancelHolds y owes' (x' y)
  answered-over y low high answered carried =
      cancel-over y (owing_of p s.strikes) owes' (x y) (x' y) (old-there y)
      (ap (λ k. if k then NoCancel else b.cancel y) answered)
      (over-at script p y (is_born_in w') (call_sight w' rest i.beside y) (x' y) refl refl (calls-then y low high)
      carried)
      (λ owed some.
      let is = owed-is p t.strikes y owed
      in absurd (none-or-some
      (idle-at script y (is_born_in w') (call_sight w' rest i.beside y) (calls-then y low high)
      (subst (λ q. CarriedAt q y (i.beside.call y)) is.0 carried)) some))
      (before y low high)
    where
      none-or-some : (x' y).caller.under_way ≡ None → is_some (x' y).caller.under_way ≡ true → ⊥
      none-or-some none some = false≢true (sym (ap is_some none) ∙ some)

  -- ---- of a call that parks

  parked-stays : d.own ≡ None → i.beside.call asked.caller ≡ Waits name → is_among asked.caller woken ≡ false
      → is_answered_by asked.caller ≡ false → CancelHolds asked.caller owes' (x' asked.caller)
  parked-stays none place among unanswered =
      cancel-goes-on script asked.caller (is_born_in u) (is_born_in w') (owing_of p s.strikes) owes' u w' hand rest
      beside-before after
      goes
      (stays-owed asked.caller asks.low asks.high struck (sym (ap (λ (k : Caller). k.under_way) same-caller)))
      waits.caller calls-after (before asked.caller asks.low asks.high)
    where
      y : ℕ
      y = asked.caller

      same-caller-now : (node_of w asked.caller).caller ≡ (node_of w' asked.caller).caller
      same-caller-now =
          elim (cases_eq asked.caller p) [
            | inl e ↦
                let same : SameCaller (node_of w p) t.node =
                g.same_caller (λ own. none) (subst (λ q. is_among q woken ≡ false) e among)
                in ap (λ q. (let n : Node = node_of w q in n.caller)) e ∙ sym same.caller
                ∙ sym (ap (λ (n : Node). n.caller) g.changes.here)
                ∙ ap (λ q. (let n : Node = node_of w' q in n.caller)) (sym e)
            | inr other ↦ sym (ap (λ (n : Node). n.caller) (g.changes.others asked.caller other))
          ]

      same-caller : (node_of u asked.caller).caller ≡ (node_of w' asked.caller).caller
      same-caller = ap (λ (n : Node). n.caller) (sym (earlier.nodes asked.caller)) ∙ same-caller-now

      calls-after : CallHolds script asked.caller (is_born_in w') (call_sight w' rest after asked.caller)
      calls-after =
          let k : CallHolds script asked.caller (is_born_in w') (call_sight w' rest i.beside asked.caller) =
          calls-then asked.caller asks.low asks.high
          in record { call = k.call; ends = k.ends }

      goes : CallGoesOn asked.caller (x asked.caller) (x' asked.caller)
      goes =
          let node : NodeHolds script b.pids (is_born_in w) asked.caller (node_of w asked.caller) =
          holds.nodes asked.caller asks.low asks.high
          in record {
            number_is = ap (λ (n : Node). n.number) (sym (earlier.nodes asked.caller)) ∙ node.number;
            number = sym (node-same (λ (n : Node). n.number) g.number asked.caller);
            caller = same-caller;
            old = old-there asked.caller;
            cancel = sym (cancel-kept asked.caller unanswered);
            goes = ap (goes_on (earlier.call asked.caller)) place ∙ waits.goes name;
            somewhere = λ there. absurd (false≢true (sym (ap (lands (earlier.call asked.caller)) place
                ∙ waits.lands_not name) ∙ there));
          }

      struck : is_struck (living_at b.whole (b.pids asked.caller)) ≡ true
          → is_struck (living_at z.next (b.pids asked.caller)) ≡ true
      struck was =
          let pid : asked.pid ≡ b.pids asked.caller = pid-in-hand script w asked rest b holds asks
          in let lives = caller-lives script v p s t asked rest b holds h asks name on woken i
          in let parked_there : LivesParked z.next asked.pid _ =
          parks-keep-struck b.whole asked.pid asked.call _ _ z.sound (no-withdrawal asked.call asks.is_call) z.step
          none _
          lives
          in ap (λ q. is_struck (living_at z.next q)) (sym pid) ∙ ap is_struck parked_there.lives ∙ parked_there.struck
          ∙ sym (ap is_struck lives) ∙ ap (λ q. is_struck (living_at b.whole q)) pid ∙ was

  -- ---- all together

  own-reply : (o : Option Reply) → d.own ≡ o → OwnPlace p asked.caller name o (i.beside.call asked.caller)
      → is_among asked.caller woken ≡ false → CancelHolds asked.caller owes' (x' asked.caller)
  own-reply None none place among =
      parked-stays none place among
      (ap (λ o. is_among asked.caller (own_turn asked o ++ woken)) none ∙ among)
  own-reply (Some reply) is place among =
      answered-over asked.caller asks.low asks.high
      (ap (λ o. is_among asked.caller (own_turn asked o ++ woken)) is
      ∙ ap (λ k. k || is_among asked.caller woken) (eq-eqb asked.caller asked.caller refl)) place

  unanswered-other : (y : ℕ) → y ≢ asked.caller → is_among y woken ≡ false → (o : Option Reply)
      → is_among y (own_turn asked o ++ woken) ≡ false
  unanswered-other y other among None = among
  unanswered-other y other among (Some reply) =
      ap (λ k. k || is_among y woken) (ne_eqb asked.caller y (λ e. other (sym e))) ∙ among

  answered-other : (y : ℕ) → is_among y woken ≡ true → (o : Option Reply)
      → is_among y (own_turn asked o ++ woken) ≡ true
  answered-other y among None = among
  answered-other y among (Some reply) = one-of-both (nat_eq asked.caller y) (is_among y woken) among

  hand-or-waits : IsInHand ≡ Waits name → ⊥
  hand-or-waits e = cc

  never-woken : (more : List Answered) → AllByRecursion (λ a. b.call a.who.caller ≡ Waits name) more
      → is_among asked.caller more ≡ false
  never-woken [] waited = refl
  never-woken (a ∷ more) waited =
      ap (λ k. k || is_among asked.caller more)
      (ne_eqb a.who.caller asked.caller
      (λ e. hand-or-waits (sym is-first.place_is ∙ ap b.call (sym e) ∙ waited.0)))
      ∙ never-woken more waited.1

  -- All withdrawals hold then.
  pub cancels-then : (y : ℕ) → 1 ≤ y → y ≤ node_count script → CancelIf y owes' (x' y)
  cancels-then y low high =
      holds-whole p t.strikes y (x' y)
      (elim (cases_eq y asked.caller) [
        | inl e ↦
            subst (λ q. CancelHolds q owes' (x' q)) (sym e)
            (own-reply d.own refl i.own (never-woken woken i.waited))
        | inr other ↦ by other (is_among y woken) refl
      ])
    where
      by : y ≢ asked.caller → (k : Bool) → is_among y woken ≡ k → CancelHolds y owes' (x' y)
      by other true among = answered-over y low high (answered-other y among d.own) (i.carried y among)
      by other false among =
          other-stays y low high other among (unanswered-other y other among d.own)
