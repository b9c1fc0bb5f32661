-- The first turn that is left of a merge is an enabled event, and has the machine's step.
use Rattle.std.proofs.Common.{◌≡◌, ◌≢◌, ℕ, ◌<◌, ◌≤◌, Bool, true, false, ◌||◌, ◌&&◌, List, [], ◌∷◌, ◌++◌, map, nat_eq, if◌then◌else◌, Option, Some, None, refl, ap, sym, subst, ◌∙◌, inl, inr, arith}
use Rattle.std.specs.List.{AllByRecursion}
use Rattle.std.proofs.lemmas.Bool.{cases_eq, eq-eqb, ne_eqb, lt-ltb}
use Rattle.pico_base.specs.declared.script.Script.{Script}
use Rattle.rpc_frame.specs.declared.frame.Frame.{Frame}
use Rattle.kernel_laws.proofs.Plain.{if-some}
use Rattle.world_model.specs.Node.{Node, can_run, is_born}
use Rattle.world_model.specs.Starting.{run}
use Rattle.world_model.specs.Turn.{take_frame}
use Rattle.world_model.specs.World.{IsNode, World, node_at, stream, with_stream, node_count, world_after, after_turn, runs_at, takes_at, step, is_enabled, is_run_enabled, is_take_enabled, is_number, is_checkpoint}
use Rattle.world_laws.proofs.Streams.{square-with, stream-same, stream-other}
use Rattle.log_laws.specs.Logs.{StampedFrame, frame_of, Input, Runs, Takes, Logged, Log, LeadsTo, Makes, turn_on, takes_of, taken_in, taken_if, sent_in, IsTakenLater, GoesBetween}
use Rattle.log_laws.specs.Merge.{NodeTurn, event_at, event_of}
use Rattle.log_laws.proofs.Lists.{log_of, log-of-own, log-of-other, all-of-log, none-below, stamps-of-sent}
use Rattle.log_laws.proofs.Halfway.{Nodes, OnWay, Ends, IsHalfway, IsTaken, nodes_after, on_way_after, halfway-after}

-- the turn is an enabled event with a step, and the rest of the merge is left
pub record Advances (script : Script) (ends : Ends) (w : World) (t : NodeTurn) (turns : List NodeTurn) : Type 0 where
  pub next : World
  pub now : Nodes
  pub on_way : OnWay
  pub enabled : is_enabled w (event_of t) ≡ true
  pub steps : step w (event_of t) ≡ Some next
  pub journal : next.journal ≡ w.journal ++ t.turn.step.entries
  pub halfway : IsHalfway script ends next now on_way turns

both-true : (a b : Bool) → a ≡ true → b ≡ true → (a && b) ≡ true
both-true a b h g = rw (h, g) refl

number-is : (p : ℕ) → 1 ≤ p → is_number p ≡ true
number-is p low = lt-ltb 0 p (omega arith)

module _ (script : Script) (ends : Ends) (w : World) (now : Nodes) (on_way : OnWay) (t : NodeTurn)
    (turns : List NodeTurn) (half : IsHalfway script ends w now on_way (t ∷ turns)) where
  here : IsNode script t.node
  here = half.nodes.0

  between-first : GoesBetween script t.turn
  between-first = half.between.0

  -- the node makes this turn
  makes : Makes script (now t.node) t.turn (λ next. LeadsTo script next (log_of t.node turns) (ends.last t.node))
  makes =
      subst (λ (l : Log). LeadsTo script (now t.node) l (ends.last t.node)) (log-of-own t turns t.node refl)
      (half.leads t.node here)

  -- ---- a turn that starts a call

  nothing-taken : t.turn.input ≡ Runs → (p q : ℕ) → taken_in q (log_of p (t ∷ turns)) ≡ taken_in q (log_of p turns)
  nothing-taken input p q =
      elim (cases_eq t.node p) [
        | inl e ↦
            ap (taken_in q) (log-of-own t turns p e)
            ∙ ap (λ (i : Input). takes_of q i ++ taken_in q (log_of p turns)) input
        | inr d ↦ ap (taken_in q) (log-of-other t turns p d)
      ]

  run-taken : t.turn.input ≡ Runs → IsTaken script ends w now on_way t turns
  run-taken input =
      record {
        of_script = half.of_script;
        count = half.count;
        square = half.square;
        here = here;
        sent = between-first.sent;
        node = half.node;
        leads = half.leads;
        stream_is = half.stream_is;
        balance = λ p q is_p is_q.
            ap (λ (fs : List StampedFrame). fs ++ ends.untaken p q) (sym (nothing-taken input p q))
            ∙ half.balance p q is_p is_q;
        in_order = half.in_order.1;
        nodes = half.nodes.1;
        between = half.between.1;
      }

  pub run-advances : t.turn.input ≡ Runs → Advances script ends w t turns
  run-advances input =
      let turned : (if can_run (now t.node) then run script (now t.node) else None) ≡ Some t.turn.step =
      ap (turn_on script (now t.node)) (sym input) ∙ makes.turns
      in let rule = if-some (can_run (now t.node)) (run script (now t.node)) t.turn.step turned
      in let there = half.node t.node here
      in record {
        next = world_after w t.node t.turn.step;
        now = nodes_after now t;
        on_way = on_way_after on_way t;
        enabled =
            ap (λ (i : Input). is_enabled w (event_at t.node i)) input
            ∙ both-true (is_number t.node) (is_run_enabled (node_at w t.node)) (number-is t.node here.low)
            (ap is_run_enabled there ∙ rule.0);
        steps =
            ap (λ (i : Input). step w (event_at t.node i)) input
            ∙ ap (runs_at w t.node) there
            ∙ ap (after_turn w t.node)
            (ap (λ (s : Script). run s (now t.node)) half.of_script ∙ rule.1);
        journal = refl;
        halfway = halfway-after script ends w now on_way t turns (run-taken input);
      }

  -- ---- a turn that takes a frame

  -- what is still to be sent has high stamps
  still-high : (p q : ℕ)
      → AllByRecursion (λ (f : StampedFrame). t.turn.stamp ≤ f.stamp) (sent_in p (log_of q (t ∷ turns)))
  still-high p q =
      let same : t.turn.stamp ≤ t.turn.stamp = omega arith
      in stamps-of-sent (λ stamp. t.turn.stamp ≤ stamp) p (log_of q (t ∷ turns))
      (all-of-log (λ (l : Logged). t.turn.stamp ≤ l.stamp) q (t ∷ turns) (same, none-below t turns half.in_order.0))

  first-high : (f : StampedFrame) (fs sent : List StampedFrame) → f ∷ fs ≡ sent
      → AllByRecursion (λ (g : StampedFrame). t.turn.stamp ≤ g.stamp) sent → t.turn.stamp ≤ f.stamp
  first-high f fs [] e h = absurd (cc)
  first-high f fs (g ∷ gs) e h = let same : f ≡ g = cc in
      subst (λ (x : StampedFrame). t.turn.stamp ≤ x.stamp) (sym same) h.0

  -- so a frame that is taken now is on its way
  heads : (f : StampedFrame) (fs way sent : List StampedFrame) → f.stamp < t.turn.stamp → f ∷ fs ≡ way ++ sent
      → AllByRecursion (λ (g : StampedFrame). t.turn.stamp ≤ g.stamp) sent
      → (rest : List StampedFrame) × ((way ≡ f ∷ rest) × (fs ≡ rest ++ sent))
  heads f fs [] sent low e h = let high = first-high f fs sent e h in absurd (omega arith)
  heads f fs (g ∷ rest) sent low e h =
      let same : f ≡ g = cc
      in let others : fs ≡ rest ++ sent = cc
      in (rest, (ap (λ (x : StampedFrame). x ∷ rest) (sym same), others))

module _ (script : Script) (ends : Ends) (w : World) (now : Nodes) (on_way : OnWay) (t : NodeTurn)
    (turns : List NodeTurn) (half : IsHalfway script ends w now on_way (t ∷ turns)) (from : ℕ) (taken : StampedFrame)
    (input : t.turn.input ≡ Takes from taken) (from_node : IsNode script from) (rest : List StampedFrame)
    (way : on_way t.node from ≡ taken ∷ rest)
    (others : taken_in from (log_of t.node turns) ++ ends.untaken t.node from
    ≡ rest ++ sent_in t.node (log_of from (t ∷ turns))) where
  to_here : IsNode script t.node
  to_here = half.nodes.0

  -- the streams without the frame
  abbrev left_over : OnWay
  left_over to sender =
      if nat_eq t.node to then (if nat_eq from sender then rest else on_way to sender) else on_way to sender

  abbrev without : World
  without = record w { streams = with_stream w.streams t.node from (map frame_of rest) }

  left-there : left_over t.node from ≡ rest
  left-there = rw (eq-eqb t.node t.node refl, eq-eqb from from refl) refl

  left-row : (to sender : ℕ) → t.node ≢ to → left_over to sender ≡ on_way to sender
  left-row to sender d =
      ap (λ b. if b then (if nat_eq from sender then rest else on_way to sender) else on_way to sender)
      (ne_eqb t.node to d)

  choice-same : {A : Type 0} (b : Bool) (x : A) → (if b then x else x) ≡ x
  choice-same true x = refl
  choice-same false x = refl

  left-column : (to sender : ℕ) → from ≢ sender → left_over to sender ≡ on_way to sender
  left-column to sender d =
      ap (λ b. if nat_eq t.node to then (if b then rest else on_way to sender) else on_way to sender)
      (ne_eqb from sender d)
      ∙ choice-same (nat_eq t.node to) (on_way to sender)

  -- the frame is taken from one stream alone
  takes-own : (q : ℕ) → takes_of q t.turn.input ≡ taken_if (nat_eq from q) taken
  takes-own q = ap (takes_of q) input

  taken-here : taken_in from (log_of t.node (t ∷ turns)) ≡ taken ∷ taken_in from (log_of t.node turns)
  taken-here =
      ap (taken_in from) (log-of-own t turns t.node refl)
      ∙ ap (λ (fs : List StampedFrame). fs ++ taken_in from (log_of t.node turns))
      (takes-own from ∙ ap (λ b. taken_if b taken) (eq-eqb from from refl))

  taken-row : (p q : ℕ) → t.node ≢ p → taken_in q (log_of p (t ∷ turns)) ≡ taken_in q (log_of p turns)
  taken-row p q d = ap (taken_in q) (log-of-other t turns p d)

  taken-column : (q : ℕ) → from ≢ q → taken_in q (log_of t.node (t ∷ turns)) ≡ taken_in q (log_of t.node turns)
  taken-column q d =
      ap (taken_in q) (log-of-own t turns t.node refl)
      ∙ ap (λ (fs : List StampedFrame). fs ++ taken_in q (log_of t.node turns))
      (takes-own q ∙ ap (λ b. taken_if b taken) (ne_eqb from q d))

  stream-left : (p q : ℕ) → IsNode script p → IsNode script q → stream without p q ≡ map frame_of (left_over p q)
  stream-left p q is_p is_q =
      elim (cases_eq t.node p) [
        | inl e ↦
            elim (cases_eq from q) [
              | inl g ↦
                  subst (λ (i : ℕ). stream without i q ≡ map frame_of (left_over i q)) e
                  (subst (λ (j : ℕ). stream without t.node j ≡ map frame_of (left_over t.node j)) g
                  (stream-same (node_count script) w.streams t.node from (map frame_of rest) half.square to_here.low
                  to_here.high from_node.low from_node.high
                  ∙ ap (map frame_of) (sym left-there)))
              | inr d ↦
                  stream-other (node_count script) w.streams t.node from p q (map frame_of rest) half.square to_here.low
                  to_here.high from_node.low is_p.low is_q.low (λ x y. d (sym y))
                  ∙ half.stream_is p q is_p is_q
                  ∙ ap (map frame_of) (sym (left-column p q d))
            ]
        | inr d ↦
            stream-other (node_count script) w.streams t.node from p q (map frame_of rest) half.square to_here.low
            to_here.high from_node.low is_p.low is_q.low (λ x. absurd (d (sym x)))
            ∙ half.stream_is p q is_p is_q
            ∙ ap (map frame_of) (sym (left-row p q d))
      ]

  -- what is equal before and after the frame was taken
  balance-kept : (p q : ℕ) → IsNode script p → IsNode script q
      → taken_in q (log_of p (t ∷ turns)) ≡ taken_in q (log_of p turns) → left_over p q ≡ on_way p q
      → taken_in q (log_of p turns) ++ ends.untaken p q ≡ left_over p q ++ sent_in p (log_of q (t ∷ turns))
  balance-kept p q is_p is_q same left =
      ap (λ (fs : List StampedFrame). fs ++ ends.untaken p q) (sym same)
      ∙ half.balance p q is_p is_q
      ∙ ap (λ (fs : List StampedFrame). fs ++ sent_in p (log_of q (t ∷ turns))) (sym left)

  balance-left : (p q : ℕ) → IsNode script p → IsNode script q
      → taken_in q (log_of p turns) ++ ends.untaken p q ≡ left_over p q ++ sent_in p (log_of q (t ∷ turns))
  balance-left p q is_p is_q =
      elim (cases_eq t.node p) [
        | inl e ↦
            elim (cases_eq from q) [
              | inl g ↦
                  subst (λ (i : ℕ). taken_in q (log_of i turns) ++ ends.untaken i q
                  ≡ left_over i q ++ sent_in i (log_of q (t ∷ turns))) e
                  (subst (λ (j : ℕ). taken_in j (log_of t.node turns) ++ ends.untaken t.node j
                  ≡ left_over t.node j ++ sent_in t.node (log_of j (t ∷ turns))) g
                  (others ∙ ap (λ (fs : List StampedFrame). fs ++ sent_in t.node (log_of from (t ∷ turns)))
                  (sym left-there)))
              | inr d ↦
                  balance-kept p q is_p is_q
                  (subst (λ (i : ℕ). taken_in q (log_of i (t ∷ turns)) ≡ taken_in q (log_of i turns)) e
                  (taken-column q d))
                  (left-column p q d)
            ]
        | inr d ↦ balance-kept p q is_p is_q (taken-row p q d) (left-row p q d)
      ]

  without-taken : IsTaken script ends without now left_over t turns
  without-taken =
      record {
        of_script = half.of_script;
        count = half.count;
        square =
            square-with (node_count script) w.streams t.node from (map frame_of rest) half.square to_here.low
            to_here.high;
        here = to_here;
        sent = (let first : GoesBetween script t.turn = half.between.0 in first.sent);
        node = half.node;
        leads = half.leads;
        stream_is = stream-left;
        balance = balance-left;
        in_order = half.in_order.1;
        nodes = half.nodes.1;
        between = half.between.1;
      }

  frame-heads : stream w t.node from ≡ taken.frame ∷ map frame_of rest
  frame-heads = half.stream_is t.node from to_here from_node ∙ ap (map frame_of) way

  turn-taken : (if is_born (now t.node) || is_checkpoint taken.frame
      then take_frame script (now t.node) from taken.frame else None) ≡ Some t.turn.step
  turn-taken =
      ap (turn_on script (now t.node)) (sym input) ∙ (makes script ends w now on_way t turns half).turns

  pub frame-advances : Advances script ends w t turns
  frame-advances =
      let n : Node = now t.node
      in let frame : Frame = taken.frame
      in let rule = if-some (is_born n || is_checkpoint frame) (take_frame script n from frame) t.turn.step turn-taken
      in let there = half.node t.node to_here
      in let numbers = both-true (is_number t.node) (is_number from) (number-is t.node to_here.low)
      (number-is from from_node.low)
      in record {
        next = world_after without t.node t.turn.step;
        now = nodes_after now t;
        on_way = on_way_after left_over t;
        enabled =
            ap (λ (i : Input). is_enabled w (event_at t.node i)) input
            ∙ both-true (is_number t.node && is_number from) (is_take_enabled (node_at w t.node) (stream w t.node from))
            numbers
            (ap (λ (o : Option Node). is_take_enabled o (stream w t.node from)) there
            ∙ ap (is_take_enabled (Some n)) frame-heads ∙ rule.0);
        steps =
            ap (λ (i : Input). step w (event_at t.node i)) input
            ∙ ap (λ (o : Option Node). takes_at w t.node from o (stream w t.node from)) there
            ∙ ap (takes_at w t.node from (Some n)) frame-heads
            ∙ ap (after_turn without t.node)
            (ap (λ (s : Script). take_frame s n from frame) half.of_script ∙ rule.1);
        journal = refl;
        halfway = halfway-after script ends without now left_over t turns without-taken;
      }

module _ (script : Script) (ends : Ends) (w : World) (now : Nodes) (on_way : OnWay) (t : NodeTurn)
    (turns : List NodeTurn) (half : IsHalfway script ends w now on_way (t ∷ turns)) where
  -- the frame that is taken is at the head of its stream
  take-advances : (from : ℕ) (taken : StampedFrame) → t.turn.input ≡ Takes from taken → Advances script ends w t turns
  take-advances from taken input =
      let first : GoesBetween script t.turn = half.between.0
      in let later : IsTakenLater script t.turn.stamp (Takes from taken) =
      subst (λ (i : Input). IsTakenLater script t.turn.stamp i) input first.taken
      in let is_here : IsNode script t.node = half.nodes.0
      in let own : taken_in from (log_of t.node (t ∷ turns)) ≡ taken ∷ taken_in from (log_of t.node turns) =
      ap (taken_in from) (log-of-own t turns t.node refl)
      ∙ ap (λ (fs : List StampedFrame). fs ++ taken_in from (log_of t.node turns))
      (ap (takes_of from) input ∙ ap (λ b. taken_if b taken) (eq-eqb from from refl))
      in let balance : taken ∷ (taken_in from (log_of t.node turns) ++ ends.untaken t.node from)
      ≡ on_way t.node from ++ sent_in t.node (log_of from (t ∷ turns)) =
      ap (λ (fs : List StampedFrame). fs ++ ends.untaken t.node from) (sym own)
      ∙ half.balance t.node from is_here later.0
      in let head = heads script ends w now on_way t turns half taken
      (taken_in from (log_of t.node turns) ++ ends.untaken t.node from) (on_way t.node from)
      (sent_in t.node (log_of from (t ∷ turns))) later.1 balance
      (still-high script ends w now on_way t turns half t.node from)
      in frame-advances script ends w now on_way t turns half from taken input later.0 head.0 head.1.0 head.1.1

  by-input : (input : Input) → t.turn.input ≡ input → Advances script ends w t turns
  by-input Runs input = run-advances script ends w now on_way t turns half input
  by-input (Takes from taken) input = take-advances from taken input

  -- the first turn that is left has a step
  pub advances : Advances script ends w t turns
  advances = by-input t.turn.input refl
