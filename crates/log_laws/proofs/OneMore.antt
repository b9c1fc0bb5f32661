-- Consistent logs, and one turn more behind its node's: they are consistent again.
use Rattle.std.proofs.Common.{◌≡◌, ◌≢◌, ℕ, ◌<◌, Bool, List, [], ◌∷◌, ◌++◌, map, nat_eq, if◌then◌else◌, Some, refl, ap, sym, subst, ◌∙◌, inl, inr, append_assoc, append-nil}
use Rattle.std.specs.List.{AllByRecursion}
use Rattle.std.proofs.lemmas.Bool.{cases_eq, eq-eqb, ne_eqb}
use Rattle.std.proofs.lemmas.Grind.{flat_map-append}
use Rattle.pico_base.specs.declared.script.Script.{Script}
use Rattle.stamp_merge.specs.declared.Stamped.{Stamped}
use Rattle.stamp_merge.specs.Merge.{StampsRise, IsBefore, AreInOrder}
use Rattle.world_model.specs.Node.{Node, opening_node}
use Rattle.world_model.specs.World.{IsNode}
use Rattle.log_laws.specs.Logs.{StampedFrame, Logged, Log, turn_on, LeadsTo, sends_of, sent_in, takes_of, taken_in, items_in, GoesBetween, AreConsistent}
use Rattle.log_laws.specs.Merge.{NodeTurn, turn_item, IsMerge}
use Rattle.log_laws.specs.Follows.{logs_after, AreBelow}
use Rattle.log_laws.proofs.Lists.{append-all, turn_if, log_of, log-of-own, log-of-other, all-of-log}
use Rattle.log_laws.proofs.ByNode.{IsMergeByNode, by-node, from-nodes}
use Rattle.log_laws.proofs.Halfway.{Nodes, OnWay, nodes_after, sends_if, on_way_after}

-- ---- the logs with the turn

-- the node's own log has the turn at its end
pub after-own : (logs : ℕ → Log) (t : NodeTurn) (p : ℕ) → t.node ≡ p → logs_after logs t p ≡ logs p ++ t.turn ∷ []
after-own logs t p e = ap (λ b. if b then logs p ++ t.turn ∷ [] else logs p) (eq-eqb t.node p e)

-- and any other log is as it was
pub after-other : (logs : ℕ → Log) (t : NodeTurn) (p : ℕ) → t.node ≢ p → logs_after logs t p ≡ logs p
after-other logs t p d = ap (λ b. if b then logs p ++ t.turn ∷ [] else logs p) (ne_eqb t.node p d)

-- ---- the merge with the turn

log-with-last : (logs : ℕ → Log) (turns : List NodeTurn) (t : NodeTurn) (p : ℕ) → log_of p turns ≡ logs p
    → log_of p (turns ++ t ∷ []) ≡ logs_after logs t p
log-with-last logs turns t p h =
    flat_map-append (λ (u : NodeTurn). turn_if (nat_eq u.node p) u.turn) turns (t ∷ [])
    ∙ ap (λ (l : Log). l ++ log_of p (t ∷ [])) h
    ∙ elim (cases_eq t.node p) [
      | inl e ↦
          ap (λ (l : Log). logs p ++ l) (log-of-own t [] p e) ∙ sym (after-own logs t p e)
      | inr d ↦
          ap (λ (l : Log). logs p ++ l) (log-of-other t [] p d) ∙ append-nil (logs p) ∙ sym (after-other logs t p d)
    ]

before-last : (u t : NodeTurn) (turns : List NodeTurn) → u.turn.stamp < t.turn.stamp
    → AllByRecursion (IsBefore (turn_item u)) (map turn_item turns)
    → AllByRecursion (IsBefore (turn_item u)) (map turn_item (turns ++ t ∷ []))
before-last u t [] low before = (inl low, tt)
before-last u t (v ∷ turns) low before = (before.0, before-last u t turns low before.1)

order-with-last : (turns : List NodeTurn) (t : NodeTurn) → AreInOrder (map turn_item turns)
    → AreBelow t.turn.stamp turns → AreInOrder (map turn_item (turns ++ t ∷ []))
order-with-last [] t order below = (tt, tt)
order-with-last (u ∷ turns) t order below =
    (before-last u t turns below.0 order.0, order-with-last turns t order.1 below.1)

-- a turn under a stamp above all others is the last one of the merge
pub merge-with-last : (script : Script) (logs : ℕ → Log) (turns : List NodeTurn) (t : NodeTurn)
    → IsMerge script logs turns → IsNode script t.node → AreBelow t.turn.stamp turns
    → IsMerge script (logs_after logs t) (turns ++ t ∷ [])
merge-with-last script logs turns t merge here below =
    let nodes : IsMergeByNode script logs turns = by-node script logs turns merge
    in from-nodes script (logs_after logs t) (turns ++ t ∷ [])
    (record {
      in_order = order-with-last turns t nodes.in_order below;
      each = λ p is. log-with-last logs turns t p (nodes.each p is);
      nodes = append-all (λ (u : NodeTurn). IsNode script u.node) turns (t ∷ []) nodes.nodes (here, tt);
    })

-- what is below in the merge is below in each log
pub below-in-log : (script : Script) (logs : ℕ → Log) (turns : List NodeTurn) (stamp : ℕ) → IsMerge script logs turns
    → AreBelow stamp turns → (p : ℕ) → IsNode script p → AllByRecursion (λ (l : Logged). l.stamp < stamp) (logs p)
below-in-log script logs turns stamp merge below p is =
    subst (AllByRecursion (λ (l : Logged). l.stamp < stamp)) ((by-node script logs turns merge).each p is)
    (all-of-log (λ (l : Logged). l.stamp < stamp) p turns below)

-- ---- the node's log with the turn

above-with-last : (stamp p : ℕ) (log : Log) (turn : Logged) → stamp < turn.stamp
    → AllByRecursion (λ (e : Stamped Logged). stamp < e.stamp) (items_in p log)
    → AllByRecursion (λ (e : Stamped Logged). stamp < e.stamp) (items_in p (log ++ turn ∷ []))
above-with-last stamp p [] turn low above = (low, tt)
above-with-last stamp p (l ∷ log) turn low above = (above.0, above-with-last stamp p log turn low above.1)

-- under a stamp above all others it rises
pub rises-with-last : (p : ℕ) (log : Log) (turn : Logged) → StampsRise (items_in p log)
    → AllByRecursion (λ (l : Logged). l.stamp < turn.stamp) log → StampsRise (items_in p (log ++ turn ∷ []))
rises-with-last p [] turn rise below = (tt, tt)
rises-with-last p (l ∷ log) turn rise below =
    (above-with-last l.stamp p log turn below.0 rise.0, rises-with-last p log turn rise.1 below.1)

-- and it leads to the node that the turn leaves
pub leads-with-last : (script : Script) (log : Log) (n last : Node) (turn : Logged) → LeadsTo script n log last
    → turn_on script last turn.input ≡ Some turn.step → LeadsTo script n (log ++ turn ∷ []) turn.step.node
leads-with-last script [] n last turn h turned =
    record { turns = ap (λ (m : Node). turn_on script m turn.input) h ∙ turned; rest = refl }
leads-with-last script (l ∷ log) n last turn h turned =
    record { turns = h.turns; rest = leads-with-last script log l.step.node last turn h.rest turned }

-- ---- what it takes and sends

-- what a turn takes from a node, where the test holds
abbrev pub takes_if : Bool → ℕ → Logged → List StampedFrame
takes_if b from turn = if b then takes_of from turn.input else []

taken-with-last : (logs : ℕ → Log) (t : NodeTurn) (p q : ℕ)
    → taken_in q (logs_after logs t p) ≡ taken_in q (logs p) ++ takes_if (nat_eq t.node p) q t.turn
taken-with-last logs t p q =
    elim (cases_eq t.node p) [
      | inl e ↦
          ap (taken_in q) (after-own logs t p e)
          ∙ flat_map-append (λ (turn : Logged). takes_of q turn.input) (logs p) (t.turn ∷ [])
          ∙ ap (λ (fs : List StampedFrame). taken_in q (logs p) ++ fs) (append-nil (takes_of q t.turn.input))
          ∙ sym (ap (λ b. taken_in q (logs p) ++ takes_if b q t.turn) (eq-eqb t.node p e))
      | inr d ↦
          ap (taken_in q) (after-other logs t p d)
          ∙ sym (append-nil (taken_in q (logs p)))
          ∙ sym (ap (λ b. taken_in q (logs p) ++ takes_if b q t.turn) (ne_eqb t.node p d))
    ]

sent-with-last : (logs : ℕ → Log) (t : NodeTurn) (p q : ℕ)
    → sent_in p (logs_after logs t q) ≡ sent_in p (logs q) ++ sends_if (nat_eq t.node q) p t.turn
sent-with-last logs t p q =
    elim (cases_eq t.node q) [
      | inl e ↦
          ap (sent_in p) (after-own logs t q e)
          ∙ flat_map-append (sends_of p) (logs q) (t.turn ∷ [])
          ∙ ap (λ (fs : List StampedFrame). sent_in p (logs q) ++ fs) (append-nil (sends_of p t.turn))
          ∙ sym (ap (λ b. sent_in p (logs q) ++ sends_if b p t.turn) (eq-eqb t.node q e))
      | inr d ↦
          ap (sent_in p) (after-other logs t q d)
          ∙ sym (append-nil (sent_in p (logs q)))
          ∙ sym (ap (λ b. sent_in p (logs q) ++ sends_if b p t.turn) (ne_eqb t.node q d))
    ]

-- The machine's turn of a node where the logs lead, under a stamp above all others. What is on its way is what it
-- takes, and what is left.
pub record GoesOn (script : Script) (last : Nodes) (untaken : OnWay) (turns : List NodeTurn) (t : NodeTurn) : Type 0
  where
    pub here : IsNode script t.node
    pub turned : turn_on script (last t.node) t.turn.input ≡ Some t.turn.step
    pub between : GoesBetween script t.turn
    pub below : AreBelow t.turn.stamp turns
    pub left : OnWay
    pub splits : (p q : ℕ) → IsNode script p → IsNode script q
        → untaken p q ≡ takes_if (nat_eq t.node p) q t.turn ++ left p q

module _ (script : Script) (logs : ℕ → Log) (last : Nodes) (untaken : OnWay) (turns : List NodeTurn) (t : NodeTurn)
    (consistent : AreConsistent script logs last untaken) (merge : IsMerge script logs turns)
    (on : GoesOn script last untaken turns t) where
  rises : (p : ℕ) → IsNode script p → StampsRise (items_in p (logs_after logs t p))
  rises p is =
      elim (cases_eq t.node p) [
        | inl e ↦
            subst (λ (l : Log). StampsRise (items_in p l)) (sym (after-own logs t p e))
            (rises-with-last p (logs p) t.turn (consistent.rise p is)
            (below-in-log script logs turns t.turn.stamp merge on.below p is))
        | inr d ↦ subst (λ (l : Log). StampsRise (items_in p l)) (sym (after-other logs t p d)) (consistent.rise p is)
      ]

  leads-own : LeadsTo script (opening_node t.node) (logs t.node ++ t.turn ∷ []) t.turn.step.node
  leads-own =
      leads-with-last script (logs t.node) (opening_node t.node) (last t.node) t.turn
      (consistent.leads t.node on.here) on.turned

  leads : (p : ℕ) → IsNode script p → LeadsTo script (opening_node p) (logs_after logs t p) (nodes_after last t p)
  leads p is =
      elim (cases_eq t.node p) [
        | inl e ↦
            subst (λ (l : Log). LeadsTo script (opening_node p) l (nodes_after last t p)) (sym (after-own logs t p e))
            (subst (λ (n : Node). LeadsTo script (opening_node p) (logs p ++ t.turn ∷ []) n)
            (sym (ap (λ b. if b then t.turn.step.node else last p) (eq-eqb t.node p e)))
            (subst (λ (i : ℕ). LeadsTo script (opening_node i) (logs i ++ t.turn ∷ []) t.turn.step.node) e leads-own))
        | inr d ↦
            subst (λ (l : Log). LeadsTo script (opening_node p) l (nodes_after last t p))
            (sym (after-other logs t p d))
            (subst (λ (n : Node). LeadsTo script (opening_node p) (logs p) n)
            (sym (ap (λ b. if b then t.turn.step.node else last p) (ne_eqb t.node p d))) (consistent.leads p is))
      ]

  streams : (p q : ℕ) → IsNode script p → IsNode script q
      → taken_in q (logs_after logs t p) ++ on_way_after on.left t p q ≡ sent_in p (logs_after logs t q)
  streams p q is_p is_q =
      let before : List StampedFrame = taken_in q (logs p)
      in let takes : List StampedFrame = takes_if (nat_eq t.node p) q t.turn
      in let left : List StampedFrame = on.left p q
      in let sends : List StampedFrame = sends_if (nat_eq t.node q) p t.turn
      in ap (λ (fs : List StampedFrame). fs ++ (left ++ sends)) (taken-with-last logs t p q)
      ∙ append_assoc before takes (left ++ sends)
      ∙ ap (λ (fs : List StampedFrame). before ++ fs)
      (sym (append_assoc takes left sends)
      ∙ ap (λ (fs : List StampedFrame). fs ++ sends) (sym (on.splits p q is_p is_q)))
      ∙ sym (append_assoc before (untaken p q) sends)
      ∙ ap (λ (fs : List StampedFrame). fs ++ sends) (consistent.streams p q is_p is_q)
      ∙ sym (sent-with-last logs t p q)

  go-between : (p : ℕ) → IsNode script p → AllByRecursion (GoesBetween script) (logs_after logs t p)
  go-between p is =
      elim (cases_eq t.node p) [
        | inl e ↦
            subst (AllByRecursion (GoesBetween script)) (sym (after-own logs t p e))
            (append-all (GoesBetween script) (logs p) (t.turn ∷ []) (consistent.between p is) (on.between, tt))
        | inr d ↦ subst (AllByRecursion (GoesBetween script)) (sym (after-other logs t p d)) (consistent.between p is)
      ]

  -- the logs with the turn are consistent
  pub consistent-with-last : AreConsistent script (logs_after logs t) (nodes_after last t) (on_way_after on.left t)
  consistent-with-last = record { rise = rises; leads = leads; streams = streams; between = go-between }
