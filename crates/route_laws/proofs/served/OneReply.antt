-- A node carries out the first call of its hand, which has its reply and wakes nobody: the kernel in which callers wait
-- stands beside the world then, the call's withdrawal is over, and those of others are where they were.
use Rattle.std.proofs.Common.{◌≡◌, ◌≢◌, ℕ, Bool, true, false, cond, if◌then◌else◌, List, [], ◌∷◌, ◌++◌, filter, nat_eq, Option, Some, None, is_some, refl, ap, sym, subst, ◌∙◌, inl, inr}
use Rattle.std.specs.List.{AllByRecursion}
use Rattle.std.specs.Prelude.{slice_get}
use Rattle.std.proofs.lemmas.Bool.{cases_eq, eq-eqb, eqb-true, false≢true, ne_eqb}
use Rattle.pico_base.specs.declared.call.Call.{Call}
use Rattle.pico_base.specs.declared.call.Call.TheVariants as calls
use Rattle.pico_base.specs.declared.numbers.Name.{Name}
use Rattle.pico_base.specs.declared.numbers.Name.TheVariants.{Proc}
use Rattle.pico_base.specs.declared.reply.Outcome.{Outcome}
use Rattle.pico_base.specs.declared.reply.Reply.{Reply}
use Rattle.pico_base.specs.declared.script.Line.{Line}
use Rattle.pico_base.specs.declared.script.Script.{Script}
use Rattle.rpc_frame.specs.declared.asked.Asked.{Asked}
use Rattle.rpc_frame.specs.declared.frame.Frame.{Frame}
use Rattle.kernel_model.specs.Effect.{reply_alone}
use Rattle.kernel_model.specs.Fitting.{Places, places_after}
use Rattle.kernel_model.specs.Kernel as plain
use Rattle.kernel_model.specs.Row as plain_rows
use Rattle.kernel_model.specs.Transition as plain_steps
use Rattle.waiting_model.specs.Calls.{is_withdrawal}
use Rattle.waiting_model.specs.Kernel as kernel
use Rattle.waiting_model.specs.Linear.{line_of}
use Rattle.waiting_model.specs.Marks.{Alive}
use Rattle.kernel_model.specs.History.{number_in}
use Rattle.waiting_model.specs.Transition.{may_make, successor, transition}
use Rattle.waiting_laws.specs.Lines.{MayMakeLines, lines_of}
use Rattle.node_model.specs.declared.held.Held.{Held}
use Rattle.node_model.specs.declared.held.Held.TheVariants.{Request}
use Rattle.node_model.specs.Bodies.{Body, body_in}
use Rattle.node_model.specs.Caller.{Caller, answer_call, caller_place, lines_of as script_lines}
use Rattle.node_model.specs.Directory.{held_for}
use Rattle.node_model.specs.Entries.{entry_by, entry_with}
use Rattle.world_model.specs.Node.{Node}
use Rattle.world_model.specs.World.{World}
use Rattle.entry_laws.specs.Entering.{HasHistory}
use Rattle.world_laws.specs.Places.{DeedPlace, Idle, InAnswer, IsInHand, NoCancel, Beside, call_in, cancel_in}
use Rattle.world_laws.specs.Sights.{node_of, directory_of, is_born_in}
use Rattle.world_laws.specs.Callers.{CallSight, HasCall, IsSoFar, IsToBeMade, call_sight, is_item_about}
use Rattle.world_laws.specs.Cancels.{CancelHolds, CancelIf, CancelSight, Owing, cancel_sight, is_doomed, is_held_cancel_of, has_reply, is_cancel_of, is_struck, owing_of}
use Rattle.world_laws.specs.Wholes.{HasMarks, HasWhole, WholeIf, under_way_at}
use Rattle.world_laws.specs.Invariant.{HoldsOwing, IsShaped}
use Rattle.world_laws.proofs.Cancels.{IsLater, SameCancel, StaysOwed, answer-later, cancel-stays, same-later}
use Rattle.world_laws.proofs.Changes.{Changes}
use Rattle.world_laws.proofs.Lines.{IsAnswered, answered, due-at-line}
use Rattle.world_laws.proofs.Replied.{IsOver, cancel-over}
use Rattle.world_laws.proofs.Following.{SameOld}
use Rattle.world_laws.proofs.Wholes.{LivesAlike, lives-alike}
use Rattle.rule_laws.proofs.Withdrawals.{old-still}
use Rattle.rule_laws.proofs.own.Entries.{EntryLeaves, others-go-on}
use Rattle.route_laws.proofs.Entered.{EntersWith, cancel-holds-of, cancel-if-of, entered-whole, still-struck, was-doomed, whole-if}
use Rattle.route_laws.proofs.hand.Answering.{caller-forked, pid-in-hand}
use Rattle.route_laws.proofs.hand.HandMoves.{IsCallOf, IsFirst, first, no-held-cancel}
use Rattle.route_laws.proofs.served.Cancelled.{owed-is}
use Rattle.route_laws.proofs.served.Replies.{Then, beside_then, caller_by, no-cancel-sends, place_by, sends_by}
use Rattle.route_laws.proofs.served.Whole.{WholeStep}

some-same : {A : Type 0} (a c : A) → Some a ≡ Some c → a ≡ c
some-same a c h = cc

-- an entry that wakes nobody is one line
one-line : (k : kernel.Kernel) (node pid : ℕ) (call : Call) (reply : Reply) → is_withdrawal call ≡ false
    → lines_of k (entry_with node pid call (reply_alone reply)) ≡ line_of node pid call reply ∷ []
one-line k node pid (calls.Withdraw name) reply h = absurd (false≢true (sym h))
one-line k node pid call reply h = refl

module _ (script : Script) (w : World) (asked : Asked) (rest : List Held) (p : ℕ) (strikes : Bool) (b : Beside)
    {owed : Owing} (holds : HoldsOwing script w (Request asked ∷ rest) owed b) (whole-was : HasWhole w b)
    (asks : IsCallOf script asked) where
  abbrev caller : ℕ
  caller = asked.caller

  abbrev hand : List Held
  hand = Request asked ∷ rest

  abbrev owes : Owing
  owes = owing_of p strikes

  abbrev x : CallSight
  x = call_sight w hand b caller

  pub is-first : IsFirst script caller (is_born_in w) x asked (filter (is_item_about caller) rest)
  is-first = first script w asked rest b holds asks

  has : HasCall script caller (is_born_in w) x is-first.call
  has = is-first.has

  pub to-be-made : IsToBeMade script caller x is-first.call
  to-be-made = subst (λ z. IsSoFar script caller x is-first.call z) is-first.place_is has.so_far

  call-is : asked.call ≡ is-first.call
  call-is = ap (λ (z : Asked). z.call) is-first.asked_is

  pid-is : asked.pid ≡ b.pids caller
  pid-is = pid-in-hand script w asked rest b holds asks

  -- ---- its process, in the kernel in which callers wait

  pub in-whole : LivesAlike b.whole (b.pids caller) to-be-made.alive
  in-whole = lives-alike b.whole b.kernel (b.pids caller) to-be-made.alive whole-was.alike to-be-made.lives

  -- It lives there,
  pub one-lives : kernel.living_at b.whole asked.pid ≡ Some in-whole.alive
  one-lives = ap (kernel.living_at b.whole) pid-is ∙ in-whole.lives

  -- and may make the call.
  pub one-may : may_make in-whole.alive asked.call ≡ true
  one-may =
      let marks : HasMarks (b.call caller) (under_way_at w caller) in-whole.alive =
      whole-was.marks caller in-whole.alive in-whole.lives
      in ap (λ (z : Asked). may_make in-whole.alive z.call) is-first.asked_is
      ∙ subst (λ o. HasMarks IsInHand o in-whole.alive) is-first.is
      (subst (λ place. HasMarks place (under_way_at w caller) in-whole.alive) is-first.place_is marks)

  -- ---- the reply

  module _ (node : ℕ) (reply : Reply) (next : plain.Kernel) (deed : Name → DeedPlace) (body : Name → Body)
      (step : WholeStep b.whole asked.pid asked.call (reply_alone reply) next body) where
    -- what stands beside the world then, but for where calls are
    abbrev pub after_one : Then
    after_one =
        record {
          lines = b.lines ++ line_of node asked.pid asked.call reply ∷ [];
          kernel = next;
          places = places_after script b.places (entry_by node asked.pid asked.call reply)
              (caller_place script caller (node_of w caller).caller);
          whole = step.next;
          deed = deed;
          body = body;
          cancel = cancel_in b.cancel caller NoCancel;
        }

    abbrev places : Places
    places = places_after script b.places (entry_by node asked.pid asked.call reply)
        (caller_place script caller (node_of w caller).caller)

    module _ (own : Bool) (is_own : nat_eq caller p ≡ own) (n : Node) (sends : List (ℕ × Frame)) (w' : World)
        (c : Changes script p w w' n [] sends (entry_by node asked.pid asked.call reply ∷ []))
        (sends_are : sends ≡ sends_by own asked reply)
        (leaves : EntryLeaves b.kernel b.places asked.pid next places)
        (history : HasHistory script (b.lines ++ line_of node asked.pid asked.call reply ∷ []) next places)
        (caller_is : n.caller ≡ caller_by script own asked reply (node_of w p).caller) where
      abbrev moved : Beside
      moved = beside_then b (call_in b.call caller (place_by own p reply)) after_one

      abbrev outcome : Outcome
      outcome = reply_alone reply

      apart : (y : ℕ) → y ≢ caller → b.pids y ≢ b.pids caller
      apart y other e =
          let pids = holds.pids
          in other (sym (pids.apart caller y (caller-forked script w asked rest b holds asks) (sym e)))

      own-node : own ≡ true → caller ≡ p
      own-node e = eqb-true caller p (is_own ∙ e)

      other-node : own ≡ false → caller ≢ p
      other-node e same = false≢true (sym (is_own ∙ e) ∙ eq-eqb caller p same)

      -- ---- the node's own call is over

      at-line : (line : Line) × (slice_get (script_lines script caller) x.caller.line ≡ Some line)
      at-line = due-at-line script caller x.caller is-first.call to-be-made.due

      is-answered : IsAnswered script caller x.caller is-first.call reply
          (answer_call script caller x.caller is-first.call reply)
      is-answered =
          let shape : IsShaped script w = holds.shape
          in answered script caller shape.tries x.caller is-first.call reply at-line.0 at-line.1 has.try_left

      mine-is : (t : Bool) → t ≡ true → n.caller ≡ caller_by script t asked reply (node_of w p).caller
          → n.caller ≡ answer_call script caller (node_of w p).caller asked.call reply
      mine-is true e k = k
      mine-is false e k = absurd (false≢true e)

      caller-then : own ≡ true
          → (node_of w' caller).caller ≡ answer_call script caller x.caller is-first.call reply
      caller-then e =
          ap (λ q. (let m : Node = node_of w' q in m.caller)) (own-node e)
          ∙ ap (λ (m : Node). m.caller) c.here ∙ mine-is own e caller_is
          ∙ ap (λ q. (let m : Node = node_of w q in answer_call script caller m.caller asked.call reply))
          (sym (own-node e))
          ∙ ap (λ call. answer_call script caller x.caller call reply) call-is

      free-then : own ≡ true → under_way_at w' caller ≡ None
      free-then e = ap (λ (k : Caller). k.under_way) (caller-then e) ∙ is-answered.free

      same-elsewhere : own ≡ false → node_of w' caller ≡ node_of w caller
      same-elsewhere e = c.others caller (other-node e)

      -- ---- others' calls are where they were

      other-caller : (t : Bool) → nat_eq caller p ≡ t → n.caller ≡ caller_by script t asked reply (node_of w p).caller
          → p ≢ caller → n.caller ≡ (node_of w p).caller
      other-caller true is k d = absurd (d (sym (eqb-true caller p is)))
      other-caller false is k d = k

      other-under-way : (y : ℕ) → y ≢ caller → under_way_at w' y ≡ under_way_at w y
      other-under-way y d =
          elim (cases_eq y p) [
            | inl e ↦
                ap (under_way_at w') e ∙ ap (λ (m : Node). m.caller.under_way) c.here
                ∙ ap (λ (k : Caller). k.under_way)
                (other-caller own is_own caller_is (λ same. d (e ∙ same)))
                ∙ ap (under_way_at w) (sym e)
            | inr away ↦ ap (λ (m : Node). m.caller.under_way) (c.others y away)
          ]

      call-elsewhere : (y : ℕ) → y ≢ caller → moved.call y ≡ b.call y
      call-elsewhere y d = ap (λ t. if t then place_by own p reply else b.call y) (ne_eqb caller y (λ e. d (sym e)))

      call-here : moved.call caller ≡ place_by own p reply
      call-here = ap (λ t. if t then place_by own p reply else b.call caller) (eq-eqb caller caller refl)

      -- ---- the kernel in which callers wait

      no-mark : (t : Bool) → own ≡ t → (a : Alive) → a.marks.parked ≡ None
          → HasMarks (place_by t p reply) (under_way_at w' caller) a
      no-mark true e a none = subst (λ o. HasMarks Idle o a) (sym (free-then e)) none
      no-mark false e a none = by (under_way_at w' caller)
        where
          by : (o : Option Call) → HasMarks (InAnswer p reply) o a
          by None = none
          by (Some call) = none

      enters : EntersWith w w' b moved node caller asked.call outcome
      enters =
          record {
            step = subst (λ q. transition b.whole q asked.call (number_in (Some reply))
                ≡ Some (successor step.next (reply_alone reply))) pid-is step.step;
            may = subst (λ q. MayMakeLines b.kernel (lines_of b.whole (entry_with node q asked.call outcome))) pid-is
                (subst (λ ls. MayMakeLines b.kernel ls) (sym (one-line b.whole node asked.pid asked.call reply
                asks.is_call)) (may-line, tt));
            journal = c.journal ∙ ap (λ q. w.journal ++ entry_with node q asked.call outcome ∷ []) pid-is;
            lines = ap (λ ls. b.lines ++ ls) (sym (one-line b.whole node asked.pid asked.call reply asks.is_call))
                ∙ ap (λ q. b.lines ++ lines_of b.whole (entry_with node q asked.call outcome)) pid-is;
            led = let old = holds.history in old.legal;
            leads = history.legal;
            bodies = step.bodies_are;
            pids = λ y. refl;
            apart = apart;
            own_marks = λ alike a lives mark. subst (λ z. HasMarks z (under_way_at w' caller) a) (sym call-here)
                (no-mark own refl a mark);
            woken = λ y d is. absurd (false≢true is);
            others = λ y d none a marks. subst (λ z. HasMarks z (under_way_at w' y) a) (sym (call-elsewhere y d))
                (subst (λ o. HasMarks (b.call y) o a) (sym (other-under-way y d)) marks);
            dead = λ y d dead. (others-go-on b.kernel next b.places places asked.pid leaves (b.pids y)
                (λ e. apart y d (e ∙ pid-is))).dead dead;
          }
        where
          may-line : (a : plain_rows.Alive) → plain.living_at b.kernel asked.pid ≡ Some a → plain_steps.may_make a
              asked.call ≡ true
          may-line a lives =
              subst (λ z. plain_steps.may_make z asked.call ≡ true)
              (some-same to-be-made.alive a
              (sym to-be-made.lives ∙ ap (plain.living_at b.kernel) (sym pid-is) ∙ lives))
              (subst (λ call. plain_steps.may_make to-be-made.alive call ≡ true) (sym call-is) to-be-made.may)

      pub has-whole : HasWhole w' moved
      has-whole = entered-whole w w' b moved node caller asked.call outcome whole-was enters

      -- It stands beside the world.
      pub one-whole : WholeIf owes w b → WholeIf owes w' moved
      one-whole h = whole-if p strikes w' moved has-whole

      -- ---- withdrawals

      -- Those of others hold, where each process has the same part,
      pub others-owed : ((q : ℕ) → body_in next (Proc q) ≡ body_in b.kernel (Proc q)) → (y : ℕ) → y ≢ caller
          → (before : CancelSight) → before.alive ≡ kernel.living_at b.whole (b.pids y)
          → SameCancel before (cancel_sight w' rest moved y) → CancelIf y owes before
          → CancelIf y owes (cancel_sight w' rest moved y)
      others-owed parts y d before alive same h =
          cancel-if-of p strikes y (cancel_sight w' rest moved y)
          (cancel-stays y owes owes before (cancel_sight w' rest moved y) same stays was)
        where
          was : CancelHolds y owes before
          was = cancel-holds-of p strikes y before h

          struck : is_struck before.alive ≡ true → is_struck (kernel.living_at step.next (b.pids y)) ≡ true
          struck e =
              still-struck w w' b moved node caller asked.call outcome whole-was enters (b.pids y) (apart y d) refl
              (ap is_struck (sym alive) ∙ e)

          stays : StaysOwed y owes owes before (cancel_sight w' rest moved y)
          stays =
              record {
                owed = λ none. none;
                struck = struck;
                doomed = λ none doomed. ap is_doomed alive
                    ∙ was-doomed w w' b moved node caller asked.call outcome whole-was enters (b.pids y)
                    (λ r is. (r, sym (parts (b.pids y)) ∙ is, refl)) doomed;
                strikes = λ owed some. struck (was.owed owed
                    (ap (λ (k : Caller). is_some k.under_way) same.caller ∙ some));
              }

      -- and that of the call is over.
      pub one-cancel : (before : CancelSight) → SameOld before (cancel_sight w' rest moved caller)
          → CancelIf caller owes before → CancelIf caller owes (cancel_sight w' rest moved caller)
      one-cancel before old h =
          cancel-if-of p strikes caller (cancel_sight w' rest moved caller)
          (cancel-over caller owes owes before (cancel_sight w' rest moved caller) old
          (ap (λ t. if t then NoCancel else b.cancel caller) (eq-eqb caller caller refl))
          (over-by own refl)
          (λ owed some. absurd (not-owed-then (owed-is p strikes caller owed).0 some))
          (cancel-holds-of p strikes caller before h))
        where
          over-by : (t : Bool) → own ≡ t → IsOver (cancel_sight w' rest moved caller)
          over-by true e = inl (free-then e)
          over-by false e =
              inr (ap (λ z. has_reply z) (call-here ∙ ap (λ t. place_by t p reply) e))

          not-owed-then : p ≡ caller → is_some (under_way_at w' caller) ≡ true → ⊥
          not-owed-then mine some =
              false≢true (sym (ap is_some (free-then (sym is_own ∙ eq-eqb caller p (sym mine)))) ∙ some)

      -- Its old ones are where they were.
      pub old-here : n.pid ≡ (node_of w p).pid
          → ((m : Name)
          → filter (is_held_cancel_of caller) (held_for (directory_of w') m)
          ≡ filter (is_held_cancel_of caller) (held_for (directory_of w) m))
          → SameOld (cancel_sight w hand b caller) (cancel_sight w' rest moved caller)
      old-here pid_same held =
          old-still script p w w' n [] sends _ c hand rest b moved caller (pid-by own refl) (later-by own refl) held
          (sym (ap (λ t. cond t (Request asked ∷ filter (is_held_cancel_of caller) rest)
          (filter (is_held_cancel_of caller) rest)) (no-held-cancel asked caller asks.is_call)))
          tt (subst (λ fs. AllByRecursion (λ s. is_cancel_of caller s.1 ≡ false) fs) (sym sends_are)
          (no-cancel-sends own asked reply caller))
        where
          pid-by : (t : Bool) → own ≡ t → (node_of w caller).pid ≡ (node_of w' caller).pid
          pid-by true e =
              ap (λ q. (let m : Node = node_of w q in m.pid)) (own-node e) ∙ sym pid_same
              ∙ sym (ap (λ (m : Node). m.pid) c.here)
              ∙ ap (λ q. (let m : Node = node_of w' q in m.pid)) (sym (own-node e))
          pid-by false e = sym (ap (λ (m : Node). m.pid) (same-elsewhere e))

          later-by : (t : Bool) → own ≡ t → IsLater (node_of w caller).caller (node_of w' caller).caller
          later-by true e =
              subst (λ k. IsLater x.caller k) (sym (caller-then e))
              (answer-later script caller x.caller is-first.call reply)
          later-by false e =
              same-later (node_of w caller).caller (node_of w' caller).caller
              (ap (λ (m : Node). m.caller) (sym (same-elsewhere e)))
