-- A world in the middle of a merge, and what is left of the merge: the first turn that is left has a step there.
use Rattle.std.proofs.Common.{◌≡◌, ℕ, ◌-◌, ◌<◌, Bool, List, [], ◌∷◌, ◌++◌, length, map, nat_eq, if◌then◌else◌, Some, ap, sym, subst, ◌∙◌, inl, inr, arith, append_assoc, append-nil}
use Rattle.std.specs.List.{AllByRecursion}
use Rattle.std.proofs.lemmas.Bool.{cases_eq, eq-eqb, ne_eqb}
use Rattle.std.proofs.lemmas.List.{length-set}
use Rattle.pico_base.specs.declared.script.Script.{Script}
use Rattle.rpc_frame.specs.declared.frame.Frame.{Frame}
use Rattle.world_model.specs.Node.{Node}
use Rattle.world_model.specs.World.{IsNode, World, node_at, stream, node_count, world_after}
use Rattle.world_laws.proofs.Streams.{Square}
use Rattle.world_laws.proofs.Sends.{AreToNodes, square-sent, all-sent, none-sent}
use Rattle.log_laws.specs.Logs.{StampedFrame, frame_of, Logged, Log, LeadsTo, Makes, sent_to, sends_of, sent_in, taken_in, GoesBetween}
use Rattle.stamp_merge.specs.Merge.{AreInOrder}
use Rattle.log_laws.specs.Merge.{NodeTurn, turn_item}
use Rattle.log_laws.proofs.Lists.{get-set-same, get-set-other, map-append, frames-of-sends, log_of, log-of-own, log-of-other}

-- each node as it stands
abbrev pub Nodes : Type 0
Nodes = ℕ → Node

-- to a node from another
abbrev pub OnWay : Type 0
OnWay = ℕ → ℕ → List StampedFrame

-- what the logs lead to
pub record Ends : Type 0 where
  pub last : Nodes
  pub untaken : OnWay

-- the world, with stamps on the frames, and the turns that are left
pub record IsHalfway (script : Script) (ends : Ends) (w : World) (now : Nodes) (on_way : OnWay)
    (turns : List NodeTurn) : Type 0 where
  pub of_script : w.script ≡ script
  pub count : length w.nodes ≡ node_count script
  pub square : Square (node_count script) w.streams
  pub node : (p : ℕ) → IsNode script p → node_at w p ≡ Some (now p)
  pub leads : (p : ℕ) → IsNode script p → LeadsTo script (now p) (log_of p turns) (ends.last p)
  pub stream_is : (p q : ℕ) → IsNode script p → IsNode script q → stream w p q ≡ map frame_of (on_way p q)
  pub balance : (p q : ℕ) → IsNode script p → IsNode script q
      → taken_in q (log_of p turns) ++ ends.untaken p q ≡ on_way p q ++ sent_in p (log_of q turns)
  pub in_order : AreInOrder (map turn_item turns)
  pub nodes : AllByRecursion (λ t. IsNode script t.node) turns
  pub between : AllByRecursion (λ t. GoesBetween script t.turn) turns

-- ---- after a turn

-- one of them after its turn
abbrev pub nodes_after : Nodes → NodeTurn → Nodes
nodes_after now t p = if nat_eq t.node p then t.turn.step.node else now p

-- what a turn sends to a node, where the test holds
abbrev pub sends_if : Bool → ℕ → Logged → List StampedFrame
sends_if b to turn = if b then sends_of to turn else []

-- what is on its way after a turn
abbrev pub on_way_after : OnWay → NodeTurn → OnWay
on_way_after on_way t to from = on_way to from ++ sends_if (nat_eq t.node from) to t.turn

to-nodes : (script : Script) (sends : List (ℕ × Frame)) → AllByRecursion (λ s. IsNode script s.0) sends
    → AreToNodes (node_count script) sends
to-nodes script [] h = tt
to-nodes script (s ∷ sends) h =
    let first : IsNode script s.0 = h.0
    in (record { low = first.low; high = first.high }, to-nodes script sends h.1)

-- The world with the first turn's frame taken, where it took one, and what is left behind that turn.
pub record IsTaken (script : Script) (ends : Ends) (v : World) (now : Nodes) (on_way : OnWay) (t : NodeTurn)
    (turns : List NodeTurn) : Type 0 where
  pub of_script : v.script ≡ script
  pub count : length v.nodes ≡ node_count script
  pub square : Square (node_count script) v.streams
  pub here : IsNode script t.node
  pub sent : AllByRecursion (λ s. IsNode script s.0) t.turn.step.sends
  pub node : (p : ℕ) → IsNode script p → node_at v p ≡ Some (now p)
  pub leads : (p : ℕ) → IsNode script p → LeadsTo script (now p) (log_of p (t ∷ turns)) (ends.last p)
  pub stream_is : (p q : ℕ) → IsNode script p → IsNode script q → stream v p q ≡ map frame_of (on_way p q)
  pub balance : (p q : ℕ) → IsNode script p → IsNode script q
      → taken_in q (log_of p turns) ++ ends.untaken p q ≡ on_way p q ++ sent_in p (log_of q (t ∷ turns))
  pub in_order : AreInOrder (map turn_item turns)
  pub nodes : AllByRecursion (λ u. IsNode script u.node) turns
  pub between : AllByRecursion (λ u. GoesBetween script u.turn) turns

module _ (script : Script) (ends : Ends) (v : World) (now : Nodes) (on_way : OnWay) (t : NodeTurn)
    (turns : List NodeTurn) (taken : IsTaken script ends v now on_way t turns) where
  abbrev after : World
  after = world_after v t.node t.turn.step

  node-after : (p : ℕ) → IsNode script p → node_at after p ≡ Some (nodes_after now t p)
  node-after p is =
      let here = taken.here
      in elim (cases_eq t.node p) [
        | inl e ↦
            let same : p - 1 ≡ t.node - 1 = ap (λ (i : ℕ). i - 1) (sym e)
            in ap (λ (i : ℕ). node_at after i) (sym e)
            ∙ get-set-same v.nodes (t.node - 1) t.turn.step.node
            (subst (λ (n : ℕ). t.node - 1 < n) (sym taken.count) (
            let low = here.low in let high = here.high in omega arith
            ))
            ∙ sym (ap (λ b. Some (if b then t.turn.step.node else now p)) (eq-eqb t.node p e))
        | inr d ↦
            get-set-other v.nodes (t.node - 1) (p - 1) t.turn.step.node (λ e. d (
            let a = here.low in let c = is.low in omega arith
            ))
            ∙ taken.node p is
            ∙ sym (ap (λ b. Some (if b then t.turn.step.node else now p)) (ne_eqb t.node p d))
      ]

  leads-after : (p : ℕ) → IsNode script p → LeadsTo script (nodes_after now t p) (log_of p turns) (ends.last p)
  leads-after p is =
      let leads = taken.leads p is
      in elim (cases_eq t.node p) [
        | inl e ↦
            let makes : Makes script (now p) t.turn (λ next. LeadsTo script next (log_of p turns) (ends.last p)) =
            subst (λ (l : Log). LeadsTo script (now p) l (ends.last p)) (log-of-own t turns p e) leads
            in subst (λ (n : Node). LeadsTo script n (log_of p turns) (ends.last p))
            (sym (ap (λ b. if b then t.turn.step.node else now p) (eq-eqb t.node p e))) makes.rest
        | inr d ↦
            subst (λ (n : Node). LeadsTo script n (log_of p turns) (ends.last p))
            (sym (ap (λ b. if b then t.turn.step.node else now p) (ne_eqb t.node p d)))
            (subst (λ (l : Log). LeadsTo script (now p) l (ends.last p)) (log-of-other t turns p d) leads)
      ]

  stream-after : (p q : ℕ) → IsNode script p → IsNode script q
      → stream after p q ≡ map frame_of (on_way_after on_way t p q)
  stream-after p q is_p is_q =
      let here = taken.here
      in let to_nodes = to-nodes script t.turn.step.sends taken.sent
      in elim (cases_eq t.node q) [
        | inl e ↦
            ap (λ (i : ℕ). stream after p i) (sym e)
            ∙ all-sent (node_count script) t.node v.streams t.turn.step.sends p taken.square to_nodes here.low here.high
            is_p.low
            ∙ ap (λ (fs : List Frame). fs ++ sent_to p t.turn.step.sends)
            (ap (λ (i : ℕ). stream v p i) e ∙ taken.stream_is p q is_p is_q)
            ∙ ap (λ (fs : List Frame). map frame_of (on_way p q) ++ fs) (sym (frames-of-sends p t.turn))
            ∙ sym (map-append frame_of (on_way p q) (sends_of p t.turn))
            ∙ sym (ap (λ b. map frame_of (on_way p q ++ sends_if b p t.turn)) (eq-eqb t.node q e))
        | inr d ↦
            none-sent (node_count script) t.node v.streams t.turn.step.sends p q taken.square to_nodes here.low is_p.low
            is_q.low (λ e. d (sym e))
            ∙ taken.stream_is p q is_p is_q
            ∙ ap (map frame_of) (sym (append-nil (on_way p q)))
            ∙ sym (ap (λ b. map frame_of (on_way p q ++ sends_if b p t.turn)) (ne_eqb t.node q d))
      ]

  sent-first : (p q : ℕ) → sent_in p (log_of q (t ∷ turns))
      ≡ sends_if (nat_eq t.node q) p t.turn ++ sent_in p (log_of q turns)
  sent-first p q =
      elim (cases_eq t.node q) [
        | inl e ↦
            ap (sent_in p) (log-of-own t turns q e)
            ∙ sym (ap (λ b. sends_if b p t.turn ++ sent_in p (log_of q turns)) (eq-eqb t.node q e))
        | inr d ↦
            ap (sent_in p) (log-of-other t turns q d)
            ∙ sym (ap (λ b. sends_if b p t.turn ++ sent_in p (log_of q turns)) (ne_eqb t.node q d))
      ]

  balance-after : (p q : ℕ) → IsNode script p → IsNode script q
      → taken_in q (log_of p turns) ++ ends.untaken p q
      ≡ on_way_after on_way t p q ++ sent_in p (log_of q turns)
  balance-after p q is_p is_q =
      taken.balance p q is_p is_q
      ∙ ap (λ (fs : List StampedFrame). on_way p q ++ fs) (sent-first p q)
      ∙ sym (append_assoc (on_way p q) (sends_if (nat_eq t.node q) p t.turn) (sent_in p (log_of q turns)))

  -- the turn's node and frames in their places, the rest of the merge is left
  pub halfway-after : IsHalfway script ends after (nodes_after now t) (on_way_after on_way t) turns
  halfway-after =
      record {
        of_script = taken.of_script;
        count = length-set v.nodes (t.node - 1) t.turn.step.node ∙ taken.count;
        square =
            square-sent (node_count script) t.node v.streams t.turn.step.sends taken.square
            (to-nodes script t.turn.step.sends taken.sent);
        node = node-after;
        leads = leads-after;
        stream_is = stream-after;
        balance = balance-after;
        in_order = taken.in_order;
        nodes = taken.nodes;
        between = taken.between;
      }
