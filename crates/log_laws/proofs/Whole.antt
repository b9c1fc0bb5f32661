-- From the opening world a merge of consistent logs is a run, turn by turn.
use Rattle.std.proofs.Common.{◌≡◌, ℕ, zero, suc, ◌+◌, ◌-◌, ◌<◌, List, [], ◌∷◌, ◌++◌, length, map, replicate, get_or, slice_get, Some, refl, ap, sym, subst, ◌∙◌, inl, inr, arith, append_assoc, append-nil}
use Rattle.std.specs.List.{AllByRecursion}
use Rattle.std.proofs.lemmas.Bool.{cases_eq}
use Rattle.std.proofs.lemmas.List.{length-replicate, get_or-replicate}
use Rattle.pico_base.specs.declared.script.Script.{Script}
use Rattle.pico_base.specs.declared.reply.Entry.{Entry}
use Rattle.rpc_frame.specs.declared.frame.Frame.{Frame}
use Rattle.world_model.specs.Node.{Node, opening_node}
use Rattle.world_model.specs.World.{IsNode, World, node_at, stream, node_count, numbers, opening_world}
use Rattle.world_model.specs.Run.{Runs}
use Rattle.world_laws.proofs.Streams.{Square}
use Rattle.log_laws.specs.Logs.{StampedFrame, frame_of, Logged, Log, GoesBetween, LeadsTo, sent_in, taken_in, AreConsistent}
use Rattle.log_laws.specs.Merge.{NodeTurn, events_of, entries_of}
use Rattle.log_laws.specs.Laws.{ConsistentLogsAreRuns}
use Rattle.log_laws.proofs.Lists.{log_of, log-of-own, log-of-other}
use Rattle.log_laws.proofs.ByNode.{IsMergeByNode, by-node}
use Rattle.log_laws.proofs.Halfway.{Nodes, OnWay, Ends, IsHalfway}
use Rattle.log_laws.proofs.Turns.{Advances, advances}

-- the turns that are left are events that lead to what the logs lead to
pub record Arrives (script : Script) (ends : Ends) (w : World) (turns : List NodeTurn) : Type 0 where
  pub world : World
  pub runs : Runs w (events_of turns) world
  pub node : (p : ℕ) → IsNode script p → node_at world p ≡ Some (ends.last p)
  pub stream_is : (p q : ℕ) → IsNode script p → IsNode script q → stream world p q ≡ map frame_of (ends.untaken p q)
  pub journal : world.journal ≡ w.journal ++ entries_of turns

arrives : (script : Script) (ends : Ends) (turns : List NodeTurn) (w : World) (now : Nodes) (on_way : OnWay)
    → IsHalfway script ends w now on_way turns → Arrives script ends w turns
arrives script ends [] w now on_way half =
    record {
      world = w;
      runs = refl;
      node = λ p is. half.node p is ∙ ap Some (half.leads p is);
      stream_is = λ p q is_p is_q.
          half.stream_is p q is_p is_q
          ∙ ap (map frame_of) (sym (append-nil (on_way p q)) ∙ sym (half.balance p q is_p is_q));
      journal = sym (append-nil w.journal);
    }
arrives script ends (t ∷ turns) w now on_way half =
    let first : Advances script ends w t turns = advances script ends w now on_way t turns half
    in let rest : Arrives script ends first.next turns =
    arrives script ends turns first.next first.now first.on_way first.halfway
    in record {
      world = rest.world;
      runs = record { enabled = first.enabled; next = first.next; steps = first.steps; rest = rest.runs };
      node = rest.node;
      stream_is = rest.stream_is;
      journal =
          rest.journal
          ∙ ap (λ (es : List Entry). es ++ entries_of turns) first.journal
          ∙ append_assoc w.journal t.turn.step.entries (entries_of turns);
    }

-- ---- the opening world

-- as many as were asked for
pub length-nodes : (first count : ℕ) → length (map opening_node (numbers first count)) ≡ count
length-nodes first zero = refl
length-nodes first (suc count) = ap suc (length-nodes (first + 1) count)

node-number : (first count i : ℕ) → i < count
    → slice_get (map opening_node (numbers first count)) i ≡ Some (opening_node (first + i))
node-number first zero i h = absurd (omega arith)
node-number first (suc count) zero h =
    let same : first ≡ first + 0 = omega arith in ap (λ n. Some (opening_node n)) same
node-number first (suc count) (suc i) h =
    let same : first + 1 + i ≡ first + suc i = omega arith
    in node-number (first + 1) count i (omega arith) ∙ ap (λ n. Some (opening_node n)) same

opening-node-at : (script : Script) (p : ℕ) → IsNode script p
    → node_at (opening_world script) p ≡ Some (opening_node p)
opening-node-at script p is =
    let low = is.low
    in let high = is.high
    in let same : 1 + (p - 1) ≡ p = omega arith
    in node-number 1 (node_count script) (p - 1) (omega arith) ∙ ap (λ n. Some (opening_node n)) same

opening-stream : (script : Script) (p q : ℕ) → IsNode script p → IsNode script q
    → stream (opening_world script) p q ≡ []
opening-stream script p q is_p is_q =
    let n = node_count script
    in let low = is_p.low
    in let high = is_p.high
    in let low_q = is_q.low
    in let high_q = is_q.high
    in let row : List (List Frame) = replicate n []
    in ap (λ (r : List (List Frame)). get_or r (q - 1) []) (get_or-replicate n (p - 1) row [] (omega arith))
    ∙ get_or-replicate n (q - 1) [] [] (omega arith)

-- what holds of a log holds of what is behind the first turn of the merge
all-behind : (P : Logged → Type 0) (t : NodeTurn) (turns : List NodeTurn) (p : ℕ)
    → AllByRecursion P (log_of p (t ∷ turns)) → AllByRecursion P (log_of p turns)
all-behind P t turns p h =
    elim (cases_eq t.node p) [
      | inl e ↦ (subst (λ (l : Log). AllByRecursion P l) (log-of-own t turns p e) h).1
      | inr d ↦ subst (λ (l : Log). AllByRecursion P l) (log-of-other t turns p d) h
    ]

-- what holds of each node's log holds of each turn of the merge
pub all-from-logs : (P : Logged → Type 0) (script : Script) (turns : List NodeTurn)
    → AllByRecursion (λ t. IsNode script t.node) turns
    → ((p : ℕ) → IsNode script p → AllByRecursion P (log_of p turns)) → AllByRecursion (λ t. P t.turn) turns
all-from-logs P script [] nodes h = tt
all-from-logs P script (t ∷ turns) nodes h =
    let own : AllByRecursion P (t.turn ∷ log_of t.node turns) =
    subst (λ (l : Log). AllByRecursion P l) (log-of-own t turns t.node refl) (h t.node nodes.0)
    in (own.0, all-from-logs P script turns nodes.1 (λ p is. all-behind P t turns p (h p is)))

-- there is a stream for each pair
pub opening-square : (script : Script) → Square (node_count script) (opening_world script).streams
opening-square script =
    let n = node_count script
    in let row : List (List Frame) = replicate n []
    in record {
      rows = length-replicate n row;
      row = λ i l. ap length (get_or-replicate n i row [] l) ∙ length-replicate n [];
    }

opening-halfway : (script : Script) (logs : ℕ → Log) (last : ℕ → Node) (untaken : ℕ → ℕ → List StampedFrame)
    (turns : List NodeTurn) → AreConsistent script logs last untaken → IsMergeByNode script logs turns
    → IsHalfway script (record { last = last; untaken = untaken }) (opening_world script) opening_node (λ p q. []) turns
opening-halfway script logs last untaken turns consistent merge =
    record {
      of_script = refl;
      count = length-nodes 1 (node_count script);
      square = opening-square script;
      node = opening-node-at script;
      leads = λ p is.
          subst (λ (l : Log). LeadsTo script (opening_node p) l (last p)) (sym (merge.each p is))
          (consistent.leads p is);
      stream_is = opening-stream script;
      balance = λ p q is_p is_q.
          ap (λ (l : Log). taken_in q l ++ untaken p q) (merge.each p is_p)
          ∙ consistent.streams p q is_p is_q
          ∙ ap (sent_in p) (sym (merge.each q is_q));
      in_order = merge.in_order;
      nodes = merge.nodes;
      between = all-from-logs (GoesBetween script) script turns merge.nodes (λ p is.
          subst (λ (l : Log). AllByRecursion (GoesBetween script) l) (sym (merge.each p is)) (consistent.between p is));
    }

-- consistent logs are runs
pub consistent_logs_are_runs_lemma : ConsistentLogsAreRuns
consistent_logs_are_runs_lemma script logs last untaken turns consistent merge =
    let ends : Ends = record { last = last; untaken = untaken }
    in let a : Arrives script ends (opening_world script) turns =
    arrives script ends turns (opening_world script) opening_node (λ p q. [])
    (opening-halfway script logs last untaken turns consistent (by-node script logs turns merge))
    in record { world = a.world; runs = a.runs; node = a.node; stream_is = a.stream_is; journal = a.journal }
