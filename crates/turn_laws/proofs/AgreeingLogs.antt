-- Along a merge of agreeing logs each turn sends to nodes of the script: the world before it is one of a run.
use Rattle.std.proofs.Common.{◌≡◌, ◌⊎◌, ℕ, ◌<◌, ◌≤◌, Bool, true, false, if◌then◌else◌, List, [], ◌∷◌, ◌++◌, drop, length, map, nat_eq, Some, refl, ap, sym, subst, ◌∙◌, inl, inr, arith, append_assoc, append-nil}
use Rattle.std.specs.List.{AllByRecursion}
use Rattle.std.proofs.lemmas.Bool.{cases_eq, cases_lt, eq-eqb, ne_eqb}
use Rattle.pico_base.specs.declared.script.Script.{Script}
use Rattle.rpc_frame.specs.declared.frame.Frame.{Frame}
use Rattle.kernel_model.specs.Script.{IsSoundScript}
use Rattle.world_model.specs.Node.{Node, opening_node}
use Rattle.world_model.specs.Run.{IsReachableWorld}
use Rattle.world_model.specs.World.{IsNode, World, node_at, node_count, opening_world, stream}
use Rattle.world_laws.proofs.Streams.{Square}
use Rattle.log_laws.specs.Follows.{IsThere}
use Rattle.log_laws.specs.Laws.{IsRunOfTurns}
use Rattle.log_laws.specs.Logs.{AreConsistent, GoesBetween, Input, IsTakenLater, LeadsTo, Log, Logged, Makes, Runs, StampedFrame, Takes, frame_of, sends_of, sent_in, taken_if, taken_in, takes_of}
use Rattle.stamp_merge.specs.Merge.{AreInOrder}
use Rattle.log_laws.specs.Merge.{IsMerge, NodeTurn, event_of, turn_item}
use Rattle.log_laws.proofs.ByNode.{IsMergeByNode, by-node, from-nodes}
use Rattle.log_laws.proofs.Halfway.{Ends, IsHalfway, Nodes, OnWay, nodes_after}
use Rattle.log_laws.proofs.Lists.{all-of-log, append-all, log-of-other, log-of-own, log_of, none-below, stamps-of-sent, turn_if}
use Rattle.log_laws.proofs.Turns.{Advances, advances}
use Rattle.log_laws.proofs.Whole.{all-from-logs, consistent_logs_are_runs_lemma, length-nodes, opening-square}
use Rattle.turn_laws.specs.Laws.{GoesToAnother, IsTurnIn}
use Rattle.turn_laws.specs.AgreeingLogs.{Agree, AgreeingLogsAreConsistent, AgreeingLogsAreRuns, IsLater, IsSentBefore}
use Rattle.turn_laws.proofs.Sends.{sends_go_to_others_lemma}
use Rattle.turn_laws.proofs.Turns.{reachable-more}

abbrev Frames : Type 0
Frames = List StampedFrame

-- ---- lists

none-left : (xs ys : Frames) → xs ++ ys ≡ [] → xs ≡ []
none-left [] ys e = refl
none-left (x ∷ xs) ys e = absurd (cc)

none-right : (xs ys : Frames) → xs ++ ys ≡ [] → ys ≡ []
none-right [] ys e = e
none-right (x ∷ xs) ys e = absurd (cc)

rest-same : (x y : StampedFrame) (xs ys : Frames) → x ∷ xs ≡ y ∷ ys → xs ≡ ys
rest-same x y xs ys e = cc

first-same : (x y : StampedFrame) (xs ys : Frames) → x ∷ xs ≡ y ∷ ys → x ≡ y
first-same x y xs ys e = cc

-- the same front taken off
cancel : (xs ys zs : Frames) → xs ++ ys ≡ xs ++ zs → ys ≡ zs
cancel [] ys zs e = e
cancel (x ∷ xs) ys zs e = cancel xs ys zs (rest-same x x (xs ++ ys) (xs ++ zs) e)

-- ---- who frames come from

node-or-not : (script : Script) (q : ℕ) → IsNode script q ⊎ (IsNode script q → ⊥)
node-or-not script q =
    elim (cases_lt q 1) [
      | inl low ↦ inr (λ is. let at_least = is.low in omega (arith, low, at_least))
      | inr some ↦
          elim (cases_lt (node_count script) q) [
            | inl past ↦ inr (λ is. let at_most = is.high in omega (arith, past, at_most))
            | inr within ↦ inl (record { low = omega (arith, some); high = omega (arith, within) })
          ]
    ]

-- a log that takes nothing from elsewhere takes from nodes
all-taken : (script : Script) (log : Log) → ((q : ℕ) → (IsNode script q → ⊥) → taken_in q log ≡ [])
    → AllByRecursion IsLater log → AllByRecursion (λ turn. IsTakenLater script turn.stamp turn.input) log
all-taken script [] none later = tt
all-taken script (turn ∷ log) none later = (
  by-input turn.input later.0 (λ q out. none-left (takes_of q turn.input) (taken_in q log) (none q out)),
  all-taken script log (λ q out. none-right (takes_of q turn.input) (taken_in q log) (none q out)) later.1,
)
  where
    some-taken : (from : ℕ) (taken : StampedFrame) → takes_of from (Takes from taken) ≡ [] → ⊥
    some-taken from taken e = not-none taken (sym (ap (λ b. taken_if b taken) (eq-eqb from from refl)) ∙ e)
      where
        not-none : (f : StampedFrame) → f ∷ [] ≡ [] → ⊥
        not-none f h = cc

    by-input : (input : Input) → IsSentBefore turn.stamp input
        → ((q : ℕ) → (IsNode script q → ⊥) → takes_of q input ≡ []) → IsTakenLater script turn.stamp input
    by-input Runs before from_none = tt
    by-input (Takes from taken) before from_none =
        elim (node-or-not script from) [
          | inl is ↦ (is, before)
          | inr out ↦ absurd (some-taken from taken (from_none from out))
        ]

-- ---- the first turn of what is left

split-taken : (b : Bool) (turn : Logged) (q : ℕ) (log : Log)
    → taken_in q (turn_if b turn ++ log) ≡ taken_in q (turn_if b turn ++ []) ++ taken_in q log
split-taken true turn q log = ap (λ (fs : Frames). fs ++ taken_in q log) (sym (append-nil (takes_of q turn.input)))
split-taken false turn q log = refl

split-sent : (b : Bool) (turn : Logged) (p : ℕ) (log : Log)
    → sent_in p (turn_if b turn ++ log) ≡ sent_in p (turn_if b turn ++ []) ++ sent_in p log
split-sent true turn p log = ap (λ (fs : Frames). fs ++ sent_in p log) (sym (append-nil (sends_of p turn)))
split-sent false turn p log = refl

-- a world in the middle of a merge, with no word of where frames go
record IsSoFar (script : Script) (ends : Ends) (w : World) (now : Nodes) (on_way : OnWay)
    (turns : List NodeTurn) : Type 0 where
  of_script : w.script ≡ script
  count : length w.nodes ≡ node_count script
  square : Square (node_count script) w.streams
  node : (p : ℕ) → IsNode script p → node_at w p ≡ Some (now p)
  leads : (p : ℕ) → IsNode script p → LeadsTo script (now p) (log_of p turns) (ends.last p)
  stream_is : (p q : ℕ) → IsNode script p → IsNode script q → stream w p q ≡ map frame_of (on_way p q)
  balance : (p q : ℕ) → IsNode script p → IsNode script q
      → taken_in q (log_of p turns) ++ ends.untaken p q ≡ on_way p q ++ sent_in p (log_of q turns)
  in_order : AreInOrder (map turn_item turns)
  nodes : AllByRecursion (λ t. IsNode script t.node) turns
  taken : AllByRecursion (λ t. IsTakenLater script t.turn.stamp t.turn.input) turns

module _ (script : Script) (sound : IsSoundScript script) (ends : Ends) (w : World) (now : Nodes) (on_way : OnWay)
    (t : NodeTurn) (turns : List NodeTurn) (so_far : IsSoFar script ends w now on_way (t ∷ turns))
    (reachable : IsReachableWorld script w) where
  here : IsNode script t.node
  here = so_far.nodes.0

  -- what the turn takes from a node, and what it sends to one
  abbrev takes : ℕ → ℕ → Frames
  takes p q = taken_in q (log_of p (t ∷ []))

  abbrev sends : ℕ → ℕ → Frames
  sends p q = sent_in p (log_of q (t ∷ []))

  balance-first : (p q : ℕ) → IsNode script p → IsNode script q
      → takes p q ++ (taken_in q (log_of p turns) ++ ends.untaken p q)
      ≡ on_way p q ++ (sends p q ++ sent_in p (log_of q turns))
  balance-first p q is_p is_q =
      sym (append_assoc (takes p q) (taken_in q (log_of p turns)) (ends.untaken p q))
      ∙ ap (λ (fs : Frames). fs ++ ends.untaken p q) (sym (split-taken (nat_eq t.node p) t.turn q (log_of p turns)))
      ∙ so_far.balance p q is_p is_q
      ∙ ap (λ (fs : Frames). on_way p q ++ fs) (split-sent (nat_eq t.node q) t.turn p (log_of q turns))

  -- what is still to be sent has high stamps
  still-high : (p q : ℕ) → AllByRecursion (λ (f : StampedFrame). t.turn.stamp ≤ f.stamp)
      (sends p q ++ sent_in p (log_of q turns))
  still-high p q =
      let same : t.turn.stamp ≤ t.turn.stamp = omega arith
      in append-all (λ (f : StampedFrame). t.turn.stamp ≤ f.stamp) (sends p q) (sent_in p (log_of q turns))
      (stamps-of-sent (λ stamp. t.turn.stamp ≤ stamp) p (log_of q (t ∷ []))
      (all-of-log (λ (l : Logged). t.turn.stamp ≤ l.stamp) q (t ∷ []) (same, tt)))
      (stamps-of-sent (λ stamp. t.turn.stamp ≤ stamp) p (log_of q turns)
      (all-of-log (λ (l : Logged). t.turn.stamp ≤ l.stamp) q turns (none-below t turns so_far.in_order.0)))

  -- so a frame that is taken now stands first on its way
  heads : (f : StampedFrame) (fs way sent : Frames) → f.stamp < t.turn.stamp → f ∷ fs ≡ way ++ sent
      → AllByRecursion (λ (g : StampedFrame). t.turn.stamp ≤ g.stamp) sent → (rest : Frames) × (way ≡ f ∷ rest)
  heads f fs (g ∷ rest) sent low e high =
      (rest, ap (λ (x : StampedFrame). x ∷ rest) (sym (first-same f g fs (rest ++ sent) e)))
  heads f fs [] [] low e high = absurd (cc)
  heads f fs [] (g ∷ sent) low e high =
      let same = ap (λ (x : StampedFrame). x.stamp) (first-same f g fs sent e)
      in let above = high.0
      in absurd (omega (arith, low, same, above))

  -- the turn takes nothing from a node, or one frame, which stands first
  data IsFirst (p q : ℕ) : Type 0 where
    takes_none : takes p q ≡ [] → IsFirst p q
    takes_one : (f : StampedFrame) (rest : Frames) → takes p q ≡ f ∷ [] → on_way p q ≡ f ∷ rest → IsFirst p q

  found-first : (p q : ℕ) → IsNode script p → IsNode script q → (f : StampedFrame) → takes p q ≡ f ∷ []
      → f.stamp < t.turn.stamp → IsFirst p q
  found-first p q is_p is_q f one low =
      let head =
      heads f (taken_in q (log_of p turns) ++ ends.untaken p q) (on_way p q) (sends p q ++ sent_in p (log_of q turns))
      low (ap (λ (fs : Frames). fs ++ (taken_in q (log_of p turns) ++ ends.untaken p q)) (sym one)
      ∙ balance-first p q is_p is_q) (still-high p q)
      in takes_one f head.0 one head.1

  is-first : (p q : ℕ) → IsNode script p → IsNode script q → IsFirst p q
  is-first p q is_p is_q = by-node (nat_eq t.node p) refl
    where
      by-sender : (from : ℕ) (taken : StampedFrame) → t.turn.input ≡ Takes from taken → nat_eq t.node p ≡ true
          → (b : Bool) → nat_eq from q ≡ b → IsFirst p q
      by-sender from taken input own b e =
          by-value b e
          (ap (λ c. taken_in q (turn_if c t.turn ++ [])) own ∙ append-nil (takes_of q t.turn.input)
          ∙ ap (takes_of q) input ∙ ap (λ c. taken_if c taken) e)
        where
          later : IsTakenLater script t.turn.stamp (Takes from taken)
          later = subst (λ i. IsTakenLater script t.turn.stamp i) input so_far.taken.0

          by-value : (c : Bool) → nat_eq from q ≡ c → takes p q ≡ taken_if c taken → IsFirst p q
          by-value true g is = found-first p q is_p is_q taken is later.1
          by-value false g is = takes_none is

      by-input : (input : Input) → t.turn.input ≡ input → nat_eq t.node p ≡ true → IsFirst p q
      by-input Runs input own =
          takes_none
          (ap (λ c. taken_in q (turn_if c t.turn ++ [])) own ∙ append-nil (takes_of q t.turn.input)
          ∙ ap (takes_of q) input)
      by-input (Takes from taken) input own = by-sender from taken input own (nat_eq from q) refl

      by-node : (b : Bool) → nat_eq t.node p ≡ b → IsFirst p q
      by-node true e = by-input t.turn.input refl e
      by-node false e = takes_none (ap (λ c. taken_in q (turn_if c t.turn ++ [])) e)

  -- ---- the turn is one of the world

  makes : Makes script (now t.node) t.turn (λ next. LeadsTo script next (log_of t.node turns) (ends.last t.node))
  makes =
      subst (λ (l : Log). LeadsTo script (now t.node) l (ends.last t.node)) (log-of-own t turns t.node refl)
      (so_far.leads t.node here)

  is-there : (input : Input) → t.turn.input ≡ input → IsThere script w t.node input
  is-there Runs input = tt
  is-there (Takes from taken) input =
      let later : IsTakenLater script t.turn.stamp (Takes from taken) =
      subst (λ i. IsTakenLater script t.turn.stamp i) input so_far.taken.0
      in let one : takes t.node from ≡ taken ∷ [] =
      ap (λ c. taken_in from (turn_if c t.turn ++ [])) (eq-eqb t.node t.node refl)
      ∙ append-nil (takes_of from t.turn.input)
      ∙ ap (takes_of from) input ∙ ap (λ c. taken_if c taken) (eq-eqb from from refl)
      in let head =
      heads taken (taken_in from (log_of t.node turns) ++ ends.untaken t.node from) (on_way t.node from)
      (sends t.node from ++ sent_in t.node (log_of from turns)) later.1
      (ap (λ (fs : Frames). fs ++ (taken_in from (log_of t.node turns) ++ ends.untaken t.node from)) (sym one)
      ∙ balance-first t.node from here later.0) (still-high t.node from)
      in record {
        sender = later.0;
        rest = map frame_of head.0;
        first = so_far.stream_is t.node from here later.0 ∙ ap (map frame_of) head.1;
      }

  is-turn : IsTurnIn script w t.node (now t.node) t.turn.input
  is-turn =
      record {
        reachable = reachable;
        is_node = here;
        node = so_far.node t.node here;
        there = is-there t.turn.input refl;
      }

  receivers : (ss : List (ℕ × Frame)) → AllByRecursion (GoesToAnother script t.node) ss
      → AllByRecursion (λ s. IsNode script s.0) ss
  receivers [] all = tt
  receivers (s ∷ ss) all =
      let first : GoesToAnother script t.node s = all.0 in (first.receiver, receivers ss all.1)

  goes : GoesBetween script t.turn
  goes =
      record {
        taken = so_far.taken.0;
        sent = receivers t.turn.step.sends
            (sends_go_to_others_lemma script w t.node (now t.node) t.turn.input t.turn.step sound is-turn makes.turns);
      }

  -- ---- and an event, behind which the rest of the merge is left

  abbrev on_way_next : OnWay
  on_way_next p q = drop (length (takes p q)) (on_way p q ++ sends p q)

  balance-alone : (p q : ℕ) → IsNode script p → IsNode script q
      → takes p q ++ on_way_next p q ≡ on_way p q ++ sends p q
  balance-alone p q is_p is_q = by-case (is-first p q is_p is_q)
    where
      taken-off : (fs way : Frames) → fs ≡ [] → fs ++ drop (length fs) way ≡ way
      taken-off fs way e = ap (λ (gs : Frames). gs ++ drop (length gs) way) e

      one-off : (fs way rest sent : Frames) (f : StampedFrame) → fs ≡ f ∷ [] → way ≡ f ∷ rest
          → fs ++ drop (length fs) (way ++ sent) ≡ way ++ sent
      one-off fs way rest sent f e g =
          ap (λ (gs : Frames). gs ++ drop (length gs) (way ++ sent)) e
          ∙ ap (λ (ws : Frames). f ∷ drop 1 (ws ++ sent)) g
          ∙ ap (λ (ws : Frames). ws ++ sent) (sym g)

      by-case : IsFirst p q → takes p q ++ on_way_next p q ≡ on_way p q ++ sends p q
      by-case (takes_none e) = taken-off (takes p q) (on_way p q ++ sends p q) e
      by-case (takes_one f rest e g) = one-off (takes p q) (on_way p q) rest (sends p q) f e g

  abbrev ends_alone : Ends
  ends_alone = record { last = nodes_after now t; untaken = on_way_next }

  leads-alone : (p : ℕ) → IsNode script p → LeadsTo script (now p) (log_of p (t ∷ [])) (nodes_after now t p)
  leads-alone p is =
      elim (cases_eq t.node p) [
        | inl e ↦
            subst (λ (l : Log). LeadsTo script (now p) l (nodes_after now t p)) (sym (log-of-own t [] p e))
            (subst (λ i. LeadsTo script (now i) (t.turn ∷ []) (nodes_after now t i)) e
            (record {
              turns = makes.turns;
              rest = sym (ap (λ c. if c then t.turn.step.node else now t.node) (eq-eqb t.node t.node refl));
            }))
        | inr d ↦
            subst (λ (l : Log). LeadsTo script (now p) l (nodes_after now t p)) (sym (log-of-other t [] p d))
            (sym (ap (λ c. if c then t.turn.step.node else now p) (ne_eqb t.node p d)))
      ]

  alone : IsHalfway script ends_alone w now on_way (t ∷ [])
  alone =
      record {
        of_script = so_far.of_script;
        count = so_far.count;
        square = so_far.square;
        node = so_far.node;
        leads = leads-alone;
        stream_is = so_far.stream_is;
        balance = balance-alone;
        in_order = (tt, tt);
        nodes = (here, tt);
        between = (goes, tt);
      }

  step : Advances script ends_alone w t []
  step = advances script ends_alone w now on_way t [] alone

  leads-next : (p : ℕ) → IsNode script p → LeadsTo script (nodes_after now t p) (log_of p turns) (ends.last p)
  leads-next p is =
      elim (cases_eq t.node p) [
        | inl e ↦
            subst (λ i. LeadsTo script (nodes_after now t i) (log_of i turns) (ends.last i)) e
            (subst (λ (n : Node). LeadsTo script n (log_of t.node turns) (ends.last t.node))
            (sym (ap (λ c. if c then t.turn.step.node else now t.node) (eq-eqb t.node t.node refl))) makes.rest)
        | inr d ↦
            subst (λ (n : Node). LeadsTo script n (log_of p turns) (ends.last p))
            (sym (ap (λ c. if c then t.turn.step.node else now p) (ne_eqb t.node p d)))
            (subst (λ (l : Log). LeadsTo script (now p) l (ends.last p)) (log-of-other t turns p d)
            (so_far.leads p is))
      ]

  balance-next : (p q : ℕ) → IsNode script p → IsNode script q
      → taken_in q (log_of p turns) ++ ends.untaken p q ≡ on_way_next p q ++ sent_in p (log_of q turns)
  balance-next p q is_p is_q =
      cancel (takes p q) (taken_in q (log_of p turns) ++ ends.untaken p q)
      (on_way_next p q ++ sent_in p (log_of q turns))
      (balance-first p q is_p is_q
      ∙ sym (append_assoc (on_way p q) (sends p q) (sent_in p (log_of q turns)))
      ∙ ap (λ (fs : Frames). fs ++ sent_in p (log_of q turns)) (sym (balance-alone p q is_p is_q))
      ∙ append_assoc (takes p q) (on_way_next p q) (sent_in p (log_of q turns)))

  half : IsHalfway script ends_alone step.next step.now step.on_way []
  half = step.halfway

  next-so-far : IsSoFar script ends step.next (nodes_after now t) on_way_next turns
  next-so-far =
      record {
        of_script = half.of_script;
        count = half.count;
        square = half.square;
        node = λ p is. half.node p is ∙ ap Some (half.leads p is);
        leads = leads-next;
        stream_is = λ p q is_p is_q.
            half.stream_is p q is_p is_q
            ∙ ap (map frame_of) (sym (append-nil (step.on_way p q)) ∙ sym (half.balance p q is_p is_q));
        balance = balance-next;
        in_order = so_far.in_order.1;
        nodes = so_far.nodes.1;
        taken = so_far.taken.1;
      }

  next-reachable : IsReachableWorld script step.next
  next-reachable = reachable-more script w step.next (event_of t) reachable step.enabled step.steps

-- each turn of the rest goes between nodes
all-go : (script : Script) → IsSoundScript script → (ends : Ends) (turns : List NodeTurn) (w : World) (now : Nodes)
    (on_way : OnWay) → IsSoFar script ends w now on_way turns → IsReachableWorld script w
    → AllByRecursion (λ t. GoesBetween script t.turn) turns
all-go script sound ends [] w now on_way so_far reachable = tt
all-go script sound ends (t ∷ turns) w now on_way so_far reachable = (
  goes script sound ends w now on_way t turns so_far reachable,
  all-go script sound ends turns (step script sound ends w now on_way t turns so_far reachable).next
      (nodes_after now t) (on_way_next script sound ends w now on_way t turns so_far reachable)
      (next-so-far script sound ends w now on_way t turns so_far reachable)
      (next-reachable script sound ends w now on_way t turns so_far reachable),
)

-- ---- from the opening world on

-- logs without turns lead to the opening world
opening-run : (script : Script) → IsRunOfTurns script [] opening_node (λ p q. [])
opening-run script =
    consistent_logs_are_runs_lemma script (λ p. []) opening_node (λ p q. []) []
    (record {
      rise = λ p is. tt;
      leads = λ p is. refl;
      streams = λ p q is_p is_q. refl;
      between = λ p is. tt;
    })
    (from-nodes script (λ p. []) [] (record { in_order = tt; each = λ p is. refl; nodes = tt }))

module _ (script : Script) (logs : ℕ → Log) (last : ℕ → Node) (untaken : ℕ → ℕ → List StampedFrame)
    (turns : List NodeTurn) (sound : IsSoundScript script) (agree : Agree script logs last untaken)
    (merge : IsMerge script logs turns) where
  abbrev ends : Ends
  ends = record { last = last; untaken = untaken }

  nodes : IsMergeByNode script logs turns
  nodes = by-node script logs turns merge

  none-from-outside : (p : ℕ) → IsNode script p → (q : ℕ) → (IsNode script q → ⊥) → taken_in q (logs p) ≡ []
  none-from-outside p is q out =
      none-left (taken_in q (logs p)) (untaken p q) (agree.streams p q is ∙ ap (sent_in p) (agree.others q out))

  opening-so-far : IsSoFar script ends (opening_world script) opening_node (λ p q. []) turns
  opening-so-far =
      let run : IsRunOfTurns script [] opening_node (λ p q. []) = opening-run script
      in let same : run.world ≡ opening_world script = sym run.runs
      in record {
        of_script = refl;
        count = length-nodes 1 (node_count script);
        square = opening-square script;
        node = λ p is. ap (λ (v : World). node_at v p) (sym same) ∙ run.node p is;
        leads = λ p is.
            subst (λ (l : Log). LeadsTo script (opening_node p) l (last p)) (sym (nodes.each p is)) (agree.leads p is);
        stream_is = λ p q is_p is_q. ap (λ (v : World). stream v p q) (sym same) ∙ run.stream_is p q is_p is_q;
        balance = λ p q is_p is_q.
            ap (λ (l : Log). taken_in q l ++ untaken p q) (nodes.each p is_p)
            ∙ agree.streams p q is_p
            ∙ ap (sent_in p) (sym (nodes.each q is_q));
        in_order = nodes.in_order;
        nodes = nodes.nodes;
        taken = all-from-logs (λ turn. IsTakenLater script turn.stamp turn.input) script turns nodes.nodes (λ p is.
            subst (λ (l : Log). AllByRecursion (λ turn. IsTakenLater script turn.stamp turn.input) l)
            (sym (nodes.each p is)) (all-taken script (logs p) (none-from-outside p is) (agree.later p is)));
      }

  each-goes : AllByRecursion (λ t. GoesBetween script t.turn) turns
  each-goes =
      all-go script sound ends turns (opening_world script) opening_node (λ p q. []) opening-so-far ([], refl)

  -- Their frames go between nodes of the script.
  are-consistent : AreConsistent script logs last untaken
  are-consistent =
      record {
        rise = agree.rise;
        leads = agree.leads;
        streams = λ p q is_p is_q. agree.streams p q is_p;
        between = λ p is.
            subst (λ (l : Log). AllByRecursion (GoesBetween script) l) (nodes.each p is)
            (all-of-log (GoesBetween script) p turns each-goes);
      }

-- Logs that agree are consistent.
pub agreeing_logs_are_consistent_lemma : AgreeingLogsAreConsistent
agreeing_logs_are_consistent_lemma script logs last untaken turns sound agree merge =
    are-consistent script logs last untaken turns sound agree merge

-- So their merge is a run.
pub agreeing_logs_are_runs_lemma : AgreeingLogsAreRuns
agreeing_logs_are_runs_lemma script logs last untaken turns sound agree merge =
    consistent_logs_are_runs_lemma script logs last untaken turns
    (are-consistent script logs last untaken turns sound agree merge) merge
