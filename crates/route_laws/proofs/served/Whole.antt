-- A served call in the kernel in which callers wait: its entry leads there to what the lines lead to in the other one,
-- so that it stands beside the world afterwards.
use Rattle.std.proofs.Common.{◌≡◌, ◌≢◌, ◌⊎◌, ℕ, ◌≤◌, Bool, true, false, nat_eq, if◌then◌else◌, List, [], ◌∷◌, ◌++◌, map, Option, Some, None, refl, ap, sym, subst, ◌∙◌, inl, inr, ◌||◌, filter}
use Rattle.std.specs.List.{AllByRecursion}
use Rattle.std.specs.Prelude.{Contains}
use Rattle.std.proofs.lemmas.Bool.{cases_eq, eq-eqb, false≢true, ne_eqb}
use Rattle.pico_base.specs.declared.call.Call.{Call}
use Rattle.pico_base.specs.declared.call.Call.TheVariants as calls
use Rattle.pico_base.specs.declared.numbers.Name.{Name}
use Rattle.pico_base.specs.declared.reply.Entry.{Entry}
use Rattle.pico_base.specs.declared.reply.Outcome.{Outcome}
use Rattle.pico_base.specs.declared.reply.Reply.{Reply}
use Rattle.pico_base.specs.declared.script.Script.{Script}
use Rattle.rpc_frame.specs.declared.asked.Asked.{Asked}
use Rattle.kernel_model.specs.History.{number_in}
use Rattle.kernel_model.specs.Kernel as plain
use Rattle.kernel_model.specs.Transition as plain_steps
use Rattle.waiting_model.specs.declared.callers.Waiting.{Waiting}
use Rattle.waiting_model.specs.Calls.{is_withdrawal}
use Rattle.waiting_model.specs.Effect.{woken_pair}
use Rattle.waiting_model.specs.History.{Replays}
use Rattle.waiting_model.specs.Kernel.{Kernel, living_at, opening}
use Rattle.waiting_model.specs.Linear.{LeadInLine, in_line, line_of}
use Rattle.waiting_model.specs.Marks.{Alive}
use Rattle.waiting_model.specs.Transition.{successor, transition}
use Rattle.waiting_laws.specs.InLine.{IsAlike}
use Rattle.waiting_laws.specs.Lines.{MayMakeLine, MayMakeLines, lines_of, own_line, wait_lines, marked_line}
use Rattle.waiting_laws.specs.MarkMoves.{MovesMarks, own_mark}
use Rattle.waiting_laws.specs.Parked.{mark_in, mark_of}
use Rattle.waiting_laws.specs.Woken.{woken_in}
use Rattle.waiting_laws.proofs.Leads.{GoesOn, LivesOn, KeepsMarks, goes-on, others-keep-marks}
use Rattle.waiting_laws.proofs.MarkMoves.{reachable-moves}
use Rattle.node_model.specs.declared.held.Held.{Held}
use Rattle.node_model.specs.declared.held.Held.TheVariants.{Request}
use Rattle.node_model.specs.Awaiting.{Applied}
use Rattle.node_model.specs.Bodies.{Body, erase, waiters_of, whole_in}
use Rattle.node_model.specs.Entries.{entry_with, outcome_with}
use Rattle.world_model.specs.Step.{Step}
use Rattle.world_model.specs.World.{World, node_count, world_after}
use Rattle.world_laws.specs.Places.{IsInHand, Waits, Beside, CancelPlace}
use Rattle.world_laws.specs.Sights.{is_born_in}
use Rattle.world_laws.specs.Callers.{CallHolds, CallSight, HasCall, HasCallOrNone, IsSoFar, IsToBeMade, call_sight, may_be_in, is_item_about}
use Rattle.world_laws.specs.Cancels.{Owing}
use Rattle.world_laws.specs.Wholes.{HasMarks, HasWhole, under_way_at}
use Rattle.world_laws.specs.Invariant.{HoldsOwing}
use Rattle.world_laws.proofs.Wholes.{LivesAlike, lives-alike}
use Rattle.rule_laws.proofs.own.InWhole.{LivesPlain, dead-plain, lives-plain, marks-carry}
use Rattle.rule_laws.proofs.own.Moved.{IsCarriedOut, is_answered, is_over}
use Rattle.route_laws.proofs.hand.Answering.{caller-forked, pid-in-hand}
use Rattle.route_laws.proofs.hand.HandMoves.{IsCallOf, IsFirst, first}
use Rattle.route_laws.proofs.served.AllTaken.{AreAmong}
use Rattle.route_laws.proofs.served.AllTurns.{is_among, turn_lines, carried-out}
use Rattle.route_laws.proofs.served.Rounds.{Answered, wake_of}
use Rattle.route_laws.proofs.served.Serving.{IsServing, OwnPlace, own_turn}
use Rattle.route_laws.proofs.served.Waiters.{WaitsThere, pid-of-waiter, waits-there}
use Rattle.kernel_laws.proofs.People.{from-living}
use Rattle.pico_base.specs.Home.{home_of}
use Rattle.waiting_laws.specs.Sound.{IsSound}

-- The entry's step in the kernel in which callers wait; and once that is alike, these are the bodies of its names.
pub record WholeStep (k : Kernel) (pid : ℕ) (call : Call) (outcome : Outcome) (last : plain.Kernel)
    (bodies : Name → Body) : Type 0 where
  pub next : Kernel
  pub step : transition k pid call (number_in outcome.own) ≡ Some (successor next outcome)
  pub bodies_are : IsAlike next last → (name : Name) → erase (bodies name) ≡ whole_in next name

-- The kernel in which callers wait stands beside the world then, whatever withdrawals there are.
pub record StandsWhole (v : World) (p : ℕ) (t : Step) (asked : Asked) (b after : Beside) (d : Applied Body)
    (woken : List Answered) : Type 0 where
  pub next : Kernel
  pub step : transition b.whole asked.pid asked.call (number_in d.own)
      ≡ Some (successor next (outcome_with d.own d.wakes))
  pub sound : IsSound b.whole
  pub alike : IsAlike next after.kernel
  pub whole_then : (cancel : ℕ → CancelPlace)
      → HasWhole (world_after v p t) (record after { whole = next; cancel = cancel })
  -- the processes of others, and of those who are woken
  pub was_forked : (y : ℕ) (a : Alive) → living_at b.whole (b.pids y) ≡ Some a → b.pids y ≢ 0
  pub other_pid : (y : ℕ) → y ≢ asked.caller → b.pids y ≢ asked.pid
  pub woken_is : (y : ℕ) → b.pids y ≢ 0 → woken_in (b.pids y) (map woken_pair d.wakes) ≡ is_among y woken

-- ---- small facts

none-is-some : {A : Type 0} (a : A) → None ≡ Some a → ⊥
none-is-some a h = cc

some-same : {A : Type 0} (a c : A) → Some a ≡ Some c → a ≡ c
some-same a c h = cc

-- a call that has its reply leaves no mark
marks-over : (script : Script) (p : ℕ) (born : ℕ → Bool) (x : CallSight) → CallHolds script p born x
    → IsCarriedOut x.call → (a : Alive) → a.marks.parked ≡ None → HasMarks x.call x.caller.under_way a
marks-over script p born x h (is_answered node reply is) a none = by x.caller.under_way
  where
    by : (o : Option Call) → HasMarks x.call o a
    by None = none
    by (Some call) = subst (λ place. HasMarks place (Some call) a) (sym is) none
marks-over script p born x h (is_over is) a none = by x.caller.under_way h.call
  where
    by : (o : Option Call) → HasCallOrNone script p born x o → HasMarks x.call o a
    by None g = none
    by (Some call) g = absurd (false≢true (sym (ap (λ place. may_be_in place (home_of x.pid call) call) is) ∙ g.home))

-- ---- the lines of those who are woken

module _ (script : Script) (w : World) (hand : List Held) {owes : Owing} (b : Beside)
    (holds : HoldsOwing script w hand owes b) (h : HasWhole w b) (name : Name) where
  module _ (v : Waiting) (there : Contains (waiters_of (b.body name)) v) where
    it : WaitsThere script w hand b holds name v
    it = waits-there script w hand b holds name v there

    abbrev sight : CallSight
    sight = call_sight w hand b v.caller

    has : HasCall script v.caller (is_born_in w) sight it.call
    has = it.has

    waiter-due : IsToBeMade script v.caller sight it.call
    waiter-due = subst (λ z. IsSoFar script v.caller sight it.call z) it.waits has.so_far

    own-pid : v.pid ≡ b.pids v.caller
    own-pid = (pid-of-waiter script w hand b holds name v there).0

    waiter-call : it.call ≡ v.call
    waiter-call = ap (λ (u : Waiting). u.call) (sym it.is)

    in-whole : LivesAlike b.whole (b.pids v.caller) waiter-due.alive
    in-whole = lives-alike b.whole b.kernel (b.pids v.caller) waiter-due.alive h.alike waiter-due.lives

    -- its process is marked with its call
    waiter-marked : mark_in b.whole.processes v.pid ≡ Some v.call
    waiter-marked =
        let parked : in-whole.alive.marks.parked ≡ Some it.call =
        subst (λ o. HasMarks (Waits name) o in-whole.alive) it.under_way
        (subst (λ place. HasMarks place (under_way_at w v.caller) in-whole.alive) it.waits
        (h.marks v.caller in-whole.alive in-whole.lives))
        in ap (mark_in b.whole.processes) own-pid ∙ ap mark_of in-whole.lives ∙ parked ∙ ap Some waiter-call

    -- and may make it in the other kernel
    waiter-may : (node : ℕ) (reply : Reply) → MayMakeLine b.kernel (line_of node v.pid v.call reply)
    waiter-may node reply a lives =
        let same : waiter-due.alive ≡ a =
        some-same waiter-due.alive a (sym waiter-due.lives ∙ ap (plain.living_at b.kernel) (sym own-pid) ∙ lives)
        in subst (λ z. plain_steps.may_make z v.call ≡ true) same
        (subst (λ call. plain_steps.may_make waiter-due.alive call ≡ true) waiter-call waiter-due.may)

  pub woken-lines : (node : ℕ) (woken : List Answered) → AreAmong (waiters_of (b.body name)) woken
      → wait_lines b.whole node (map woken_pair (map wake_of woken)) ≡ turn_lines node woken
  woken-lines node [] among = refl
  woken-lines node (a ∷ more) among =
      ap (λ o. marked_line node a.who.pid o a.reply ++ wait_lines b.whole node (map woken_pair (map wake_of more)))
      (waiter-marked a.who among.0)
      ∙ ap (λ ls. line_of node a.who.pid a.who.call a.reply ∷ ls) (woken-lines node more among.1)

  pub woken-may : (node : ℕ) (woken : List Answered) → AreAmong (waiters_of (b.body name)) woken
      → MayMakeLines b.kernel (turn_lines node woken)
  woken-may node [] among = tt
  woken-may node (a ∷ more) among = (waiter-may a.who among.0 node a.reply, woken-may node more among.1)

  -- a process is woken where its node's call is
  pub woken-pid : (woken : List Answered) → AreAmong (waiters_of (b.body name)) woken → (y : ℕ) → b.pids y ≢ 0
      → woken_in (b.pids y) (map woken_pair (map wake_of woken)) ≡ is_among y woken
  woken-pid [] among y forked = refl
  woken-pid (a ∷ more) among y forked =
      let pids = holds.pids
      in let own = own-pid a.who among.0
      in elim (cases_eq a.who.caller y) [
        | inl e ↦
            ap (λ t. t || woken_in (b.pids y) (map woken_pair (map wake_of more)))
            (eq-eqb (b.pids y) a.who.pid (ap b.pids (sym e) ∙ sym own))
            ∙ sym (ap (λ t. t || is_among y more) (eq-eqb a.who.caller y e))
        | inr d ↦
            ap (λ t. t || woken_in (b.pids y) (map woken_pair (map wake_of more)))
            (ne_eqb (b.pids y) a.who.pid
            (λ e. d (sym (pids.apart y a.who.caller forked (e ∙ own)))))
            ∙ woken-pid more among.1 y forked
            ∙ sym (ap (λ t. t || is_among y more) (ne_eqb a.who.caller y d))
      ]

-- ---- the entry

lines-by : (k : Kernel) (node pid : ℕ) (call : Call) (outcome : Outcome) → is_withdrawal call ≡ false
    → lines_of k (entry_with node pid call outcome)
    ≡ own_line node pid call outcome.own ++ wait_lines k node outcome.woken
lines-by k node pid (calls.Withdraw name) outcome h = absurd (false≢true (sym h))
lines-by k node pid call outcome h = refl

own-lines : (node : ℕ) (asked : Asked) (own : Option Reply) (woken : List Answered)
    → own_line node asked.pid asked.call own ++ turn_lines node woken ≡ turn_lines node (own_turn asked own ++ woken)
own-lines node asked None woken = refl
own-lines node asked (Some reply) woken = refl

module _ (script : Script) (v : World) (p : ℕ) (s t : Step) (asked : Asked) (rest : List Held) {owes : Owing}
    (b : Beside)
    (holds : HoldsOwing script (world_after v p s) (Request asked ∷ rest) owes b) (h : HasWhole (world_after v p s) b)
    (asks : IsCallOf script asked) (name : Name) (d : Applied Body) (woken : List Answered)
    (i : IsServing script v p t asked rest b name d woken)
    (journal : (let w : World = world_after v p s in let w' : World = world_after v p t
    in w'.journal ≡ w.journal ++ entry_with p asked.pid asked.call (outcome_with d.own d.wakes) ∷ []))
    (callers : (y : ℕ) → (y ≡ asked.caller → d.own ≡ None) → is_among y woken ≡ false
    → under_way_at (world_after v p t) y ≡ under_way_at (world_after v p s) y)
    (step : WholeStep b.whole asked.pid asked.call (outcome_with d.own d.wakes) i.beside.kernel i.beside.body) where
  abbrev w : World
  w = world_after v p s

  abbrev w' : World
  w' = world_after v p t

  abbrev hand : List Held
  hand = Request asked ∷ rest

  abbrev outcome : Outcome
  outcome = outcome_with d.own d.wakes

  abbrev entry : Entry
  entry = entry_with p asked.pid asked.call outcome

  abbrev x : CallSight
  x = call_sight w hand b asked.caller

  is-first : IsFirst script asked.caller (is_born_in w) x asked (filter (is_item_about asked.caller) rest)
  is-first = first script w asked rest b holds asks

  to-be-made : IsToBeMade script asked.caller x is-first.call
  to-be-made =
      let has : HasCall script asked.caller (is_born_in w) x is-first.call = is-first.has
      in subst (λ z. IsSoFar script asked.caller x is-first.call z) is-first.place_is has.so_far

  call-is : is-first.call ≡ asked.call
  call-is = sym (ap (λ (z : Asked). z.call) is-first.asked_is)

  pid-is : asked.pid ≡ b.pids asked.caller
  pid-is = pid-in-hand script w asked rest b holds asks

  lines-are : lines_of b.whole entry ≡ turn_lines p (own_turn asked d.own ++ woken)
  lines-are =
      lines-by b.whole p asked.pid asked.call outcome asks.is_call
      ∙ ap (λ ws. own_line p asked.pid asked.call d.own ++ wait_lines b.whole p (map woken_pair ws)) i.wakes
      ∙ ap (λ ls. own_line p asked.pid asked.call d.own ++ ls)
      (woken-lines script w hand b holds h name p woken i.among)
      ∙ own-lines p asked d.own woken

  own-may : (o : Option Reply) → MayMakeLines b.kernel (turn_lines p (own_turn asked o ++ woken))
  own-may None = woken-may script w hand b holds h name p woken i.among
  own-may (Some reply) = (
    λ a lives.
        (let same : to-be-made.alive ≡ a =
        some-same to-be-made.alive a (sym to-be-made.lives ∙ ap (plain.living_at b.kernel) (sym pid-is) ∙ lives)
        in subst (λ z. plain_steps.may_make z asked.call ≡ true) same
        (subst (λ call. plain_steps.may_make to-be-made.alive call ≡ true) call-is to-be-made.may)),
    woken-may script w hand b holds h name p woken i.among,
  )

  goes : GoesOn w.journal b.whole entry step.next i.beside.kernel
  goes =
      let before = holds.history
      in let after = i.holds.history
      in goes-on w.journal b.whole b.kernel entry step.next i.beside.kernel
      (record {
        legal = h.legal;
        lines = subst (λ ls. LeadInLine plain.opening ls b.kernel) h.lines before.legal;
        sound = h.sound;
        alike = h.alike;
        may = subst (λ ls. MayMakeLines b.kernel ls) (sym lines-are) (own-may d.own);
        step = step.step;
      })
      (subst (λ ls. LeadInLine plain.opening ls i.beside.kernel)
      (i.lines ∙ ap (λ ls. ls ++ turn_lines p (own_turn asked d.own ++ woken)) h.lines
      ∙ ap (λ ls. in_line w.journal ++ ls) (sym lines-are)) after.legal)

  -- ---- marks

  moves : MovesMarks b.whole asked.pid asked.call (successor step.next outcome)
  moves = reachable-moves w.journal b.whole h.legal asked.pid asked.call (number_in d.own) _ step.step

  mark-now : (q : ℕ) (a : Alive) → living_at step.next q ≡ Some a
      → a.marks.parked
      ≡ (if nat_eq asked.pid q then own_mark asked.call d.own
      else if woken_in q outcome.woken then None else mark_in b.whole.processes q)
  mark-now q a lives = sym (ap mark_of lives) ∙ moves q

  -- the caller's
  caller-mark : (a : Alive) → living_at step.next (b.pids asked.caller) ≡ Some a
      → a.marks.parked ≡ own_mark asked.call d.own
  caller-mark a lives =
      mark-now (b.pids asked.caller) a lives
      ∙ ap (λ t. if t then own_mark asked.call d.own
      else if woken_in (b.pids asked.caller) outcome.woken then None
      else mark_in b.whole.processes (b.pids asked.caller)) (eq-eqb asked.pid (b.pids asked.caller) pid-is)

  other-pid : (y : ℕ) → y ≢ asked.caller → b.pids y ≢ asked.pid
  other-pid y other e =
      let pids = holds.pids
      in other (sym (pids.apart asked.caller y (caller-forked script w asked rest b holds asks) (sym pid-is ∙ sym e)))

  woken-is : (y : ℕ) → b.pids y ≢ 0 → woken_in (b.pids y) outcome.woken ≡ is_among y woken
  woken-is y forked =
      ap (λ ws. woken_in (b.pids y) (map woken_pair ws)) i.wakes
      ∙ woken-pid script w hand b holds h name woken i.among y forked

  -- that of one who is woken
  woken-mark : (y : ℕ) (a : Alive) → y ≢ asked.caller → b.pids y ≢ 0 → is_among y woken ≡ true
      → living_at step.next (b.pids y) ≡ Some a → a.marks.parked ≡ None
  woken-mark y a other forked among lives =
      mark-now (b.pids y) a lives
      ∙ ap (λ t. if t then own_mark asked.call d.own
      else if woken_in (b.pids y) outcome.woken then None else mark_in b.whole.processes (b.pids y))
      (ne_eqb asked.pid (b.pids y) (λ e. other-pid y other (sym e)))
      ∙ ap (λ t. if t then None else mark_in b.whole.processes (b.pids y)) (woken-is y forked ∙ among)

  call-now : (y : ℕ) → 1 ≤ y → y ≤ node_count script
      → CallHolds script y (is_born_in w') (call_sight w' rest i.beside y)
  call-now y low high =
      let after = i.holds
      in after.calls y low high

  in-range : (y : ℕ) → b.pids y ≢ 0 → CallHolds script y (is_born_in w') (call_sight w' rest i.beside y)
  in-range y forked =
      let pids = holds.pids
      in let range = pids.nodes y forked
      in call-now y range.0 range.1

  own-marks : (o : Option Reply) → d.own ≡ o → OwnPlace p asked.caller name o (i.beside.call asked.caller) → (a : Alive)
      → a.marks.parked ≡ own_mark asked.call o
      → HasMarks (i.beside.call asked.caller) (under_way_at w' asked.caller) a
  own-marks None none place a mark =
      subst (λ z. HasMarks z (under_way_at w' asked.caller) a) (sym place)
      (subst (λ o. HasMarks (Waits name) o a)
      (sym (callers asked.caller (λ e. none) (never-woken woken i.waited) ∙ is-first.is ∙ ap Some call-is)) mark)
    where
      hand-or-waits : IsInHand ≡ Waits name → ⊥
      hand-or-waits e = cc

      never-woken : (more : List Answered) → AllByRecursion (λ z. b.call z.who.caller ≡ Waits name) more
          → is_among asked.caller more ≡ false
      never-woken [] waited = refl
      never-woken (z ∷ more) waited =
          ap (λ t. t || is_among asked.caller more)
          (ne_eqb z.who.caller asked.caller
          (λ e. hand-or-waits (sym is-first.place_is ∙ ap b.call (sym e) ∙ waited.0)))
          ∙ never-woken more waited.1
  own-marks (Some reply) is place a mark =
      marks-over script asked.caller (is_born_in w') (call_sight w' rest i.beside asked.caller)
      (call-now asked.caller asks.low asks.high)
      (carried-out p asked.caller (i.beside.call asked.caller) place) a mark

  -- others go on
  other-marks : (y : ℕ) (a : Alive) → y ≢ asked.caller → b.pids y ≢ 0 → is_among y woken ≡ false
      → living_at step.next (b.pids y) ≡ Some a → HasMarks (b.call y) (under_way_at w y) a
  other-marks y a other forked among lives = by-life (living_at b.whole (b.pids y)) refl
    where
      by-life : (o : Option Alive) → living_at b.whole (b.pids y) ≡ o → HasMarks (b.call y) (under_way_at w y) a
      by-life (Some c) was =
          let on : LivesOn step.next (b.pids y) c =
          others-keep-marks b.whole asked.pid asked.call (number_in d.own) _ h.sound step.step (b.pids y) c
          (other-pid y other) (woken-is y forked ∙ among) was
          in marks-carry (b.call y) (under_way_at w y) c a
          (subst (λ (z : Alive). KeepsMarks c z) (some-same on.alive a (sym on.lives ∙ lives)) on.keeps)
          (h.marks y c was)
      by-life None none =
          let now : LivesPlain i.beside.kernel (b.pids y) a =
          lives-plain step.next i.beside.kernel (b.pids y) a goes.alike lives
          in absurd (none-is-some now.alive
          (sym (i.keeps.dead (b.pids y) (dead-plain b.whole b.kernel (b.pids y) h.alike none)) ∙ now.lives))

  -- what stands beside the world then, with these withdrawals
  abbrev pub with_whole : (ℕ → CancelPlace) → Beside
  with_whole cancel = record i.beside { whole = step.next; cancel = cancel }

  -- who lives was forked
  forked-of : (y : ℕ) (a : Alive) → living_at step.next (b.pids y) ≡ Some a → b.pids y ≢ 0
  forked-of y a lives =
      let now : LivesPlain i.beside.kernel (b.pids y) a =
      lives-plain step.next i.beside.kernel (b.pids y) a goes.alike lives
      in let pids = i.holds.pids
      in let known = pids.there (b.pids y) _ (from-living i.beside.kernel.processes (b.pids y) now.alive now.lives)
      in known.2

  marks-then : (y : ℕ) (a : Alive) → living_at step.next (i.beside.pids y) ≡ Some a
      → HasMarks (i.beside.call y) (under_way_at w' y) a
  marks-then y a lives = by (cases_eq y asked.caller) (is_among y woken) refl
    where
      lives-so : living_at step.next (b.pids y) ≡ Some a
      lives-so = ap (λ f. living_at step.next (f y)) (sym i.keeps.pids) ∙ lives

      by : (y ≡ asked.caller) ⊎ (y ≢ asked.caller) → (t : Bool) → is_among y woken ≡ t
          → HasMarks (i.beside.call y) (under_way_at w' y) a
      by (inl e) t among =
          subst (λ z. HasMarks (i.beside.call z) (under_way_at w' z) a) (sym e)
          (own-marks d.own refl i.own a
          (caller-mark a (ap (λ z. living_at step.next (b.pids z)) (sym e) ∙ lives-so)))
      by (inr other) true among =
          marks-over script y (is_born_in w') (call_sight w' rest i.beside y) (in-range y (forked-of y a lives-so))
          (carried-out p y (i.beside.call y) (i.carried y among)) a
          (woken-mark y a other (forked-of y a lives-so) among lives-so)
      by (inr other) false among =
          subst (λ place. HasMarks place (under_way_at w' y) a) (sym (i.still y other among))
          (subst (λ o. HasMarks (b.call y) o a) (sym (callers y (λ e. absurd (other e)) among))
          (other-marks y a other (forked-of y a lives-so) among lives-so))

  -- It stands beside the world afterwards, whatever withdrawals there are.
  whole-then : (cancel : ℕ → CancelPlace) → HasWhole w' (with_whole cancel)
  whole-then cancel =
      record {
        legal = subst (λ j. Replays opening j step.next) (sym journal) goes.legal;
        lines = i.lines ∙ ap (λ ls. ls ++ turn_lines p (own_turn asked d.own ++ woken)) h.lines
            ∙ ap (λ ls. in_line w.journal ++ ls) (sym lines-are) ∙ sym goes.lines ∙ ap in_line (sym journal);
        alike = goes.alike;
        sound = goes.sound;
        bodies = step.bodies_are goes.alike;
        marks = marks-then;
      }

  was-forked : (y : ℕ) (a : Alive) → living_at b.whole (b.pids y) ≡ Some a → b.pids y ≢ 0
  was-forked y a lives =
      let was : LivesPlain b.kernel (b.pids y) a = lives-plain b.whole b.kernel (b.pids y) a h.alike lives
      in let pids = holds.pids
      in let known = pids.there (b.pids y) _ (from-living b.kernel.processes (b.pids y) was.alive was.lives)
      in known.2

  pub stands-whole : StandsWhole v p t asked b i.beside d woken
  stands-whole =
      record {
        next = step.next;
        step = step.step;
        sound = h.sound;
        alike = goes.alike;
        whole_then = whole-then;
        was_forked = was-forked;
        other_pid = other-pid;
        woken_is = woken-is;
      }
