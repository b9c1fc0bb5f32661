-- The logs of a script's nodes, one behind another, are what `stamp_merge` asks for.
use Rattle.std.proofs.Common.{◌≡◌, ◌≢◌, ℕ, zero, suc, ◌+◌, ◌<◌, ◌≤◌, List, [], ◌∷◌, ◌++◌, refl, ap, sym, ◌∙◌, append-nil, inl, inr, arith}
use Rattle.std.specs.List.{AllByRecursion}
use Rattle.std.proofs.lemmas.Bool.{cases_eq}
use Rattle.pico_base.specs.declared.script.Script.{Script}
use Rattle.world_model.specs.World.{IsNode, node_count}
use Rattle.stamp_merge.specs.declared.Stamped.{Stamped}
use Rattle.stamp_merge.specs.Merge as stamps
use Rattle.stamp_merge.proofs.Merges.{all-own, none-own, of-append}
use Rattle.log_laws.specs.Logs.{Logged, Log, item_of, items_in}
use Rattle.log_laws.specs.Merge.{logs_from, logs_of}
use Rattle.log_laws.specs.Laws.{LogsMayMerge}
use Rattle.log_laws.proofs.Lists.{append-all}

-- ---- one log

items-own : (p : ℕ) (log : Log) → AllByRecursion (λ (e : Stamped Logged). e.node ≡ p) (items_in p log)
items-own p [] = tt
items-own p (t ∷ log) = (refl, items-own p log)

items-other : (p q : ℕ) (log : Log) → q ≢ p → AllByRecursion (λ (e : Stamped Logged). e.node ≢ p) (items_in q log)
items-other p q [] d = tt
items-other p q (t ∷ log) d = (d, items-other p q log d)

one-node : (p : ℕ) (log : Log) → stamps.IsOfOneNode (items_in p log)
one-node p [] = tt
one-node p (t ∷ log) = items-own p log

share-none : (p q : ℕ) (log other : Log) → q ≢ p → stamps.ShareNoNode (items_in p log) (items_in q other)
share-none p q [] other d = tt
share-none p q (t ∷ log) other d = (items-other p q other d, share-none p q log other d)

items-are : (P : Stamped Logged → Type 0) (p : ℕ) (log : Log) → ((turn : Logged) → P (item_of p turn))
    → AllByRecursion P (items_in p log)
items-are P p [] is = tt
items-are P p (t ∷ log) is = (is t, items-are P p log is)

-- ---- the logs of so many nodes

-- a number among so many from the first on
abbrev IsAmong : ℕ → ℕ → ℕ → Type 0
IsAmong node count p = (node ≤ p) × (p < node + count)

first-among : (node count : ℕ) → IsAmong node (suc count) node
first-among node count = (omega arith, omega arith)

later-among : (node count p : ℕ) → IsAmong (suc node) count p → IsAmong node (suc count) p
later-among node count p h =
    let low : suc node ≤ p = h.0 in let high : p < suc node + count = h.1 in (omega arith, omega arith)

each-log : (P : List (Stamped Logged) → Type 0) (node count : ℕ) (logs : ℕ → Log)
    → ((p : ℕ) → IsAmong node count p → P (items_in p (logs p))) → AllByRecursion P (logs_from node count logs)
each-log P node zero logs h = tt
each-log P node (suc count) logs h =
    (h node (first-among node count), each-log P (suc node) count logs (λ p a. h p (later-among node count p a)))

apart : (p node count : ℕ) (logs : ℕ → Log) → p < node
    → AllByRecursion (stamps.ShareNoNode (items_in p (logs p))) (logs_from node count logs)
apart p node zero logs h = tt
apart p node (suc count) logs h =
    (share-none p node (logs p) (logs node) (λ e. absurd (omega arith)), apart p (suc node) count logs (omega arith))

own-nodes : (node count : ℕ) (logs : ℕ → Log) → stamps.HaveOwnNodes (logs_from node count logs)
own-nodes node zero logs = tt
own-nodes node (suc count) logs =
    (one-node node (logs node), apart node (suc node) count logs (omega arith), own-nodes (suc node) count logs)

none-later : (p node count : ℕ) (logs : ℕ → Log) → p < node
    → stamps.items_of p (stamps.all_items (logs_from node count logs)) ≡ []
none-later p node zero logs h = refl
none-later p node (suc count) logs h =
    of-append p (items_in node (logs node)) (stamps.all_items (logs_from (suc node) count logs))
    ∙ ap (λ (es : List (Stamped Logged)). es ++ stamps.items_of p (stamps.all_items (logs_from (suc node) count logs)))
    (none-own p (items_in node (logs node)) (items-other p node (logs node) (λ e. absurd (omega arith))))
    ∙ none-later p (suc node) count logs (omega arith)

own-first : (node count : ℕ) (logs : ℕ → Log)
    → stamps.items_of node (stamps.all_items (logs_from node (suc count) logs)) ≡ items_in node (logs node)
own-first node count logs =
    let rest = stamps.all_items (logs_from (suc node) count logs)
    in let log = items_in node (logs node)
    in of-append node log rest
    ∙ ap (λ (es : List (Stamped Logged)). es ++ stamps.items_of node rest)
    (all-own node log (items-own node (logs node)))
    ∙ ap (λ (es : List (Stamped Logged)). log ++ es) (none-later node (suc node) count logs (omega arith))
    ∙ append-nil log

each-own : (node count : ℕ) (logs : ℕ → Log) (p : ℕ) → IsAmong node count p
    → stamps.items_of p (stamps.all_items (logs_from node count logs)) ≡ items_in p (logs p)
each-own node zero logs p h =
    let low : node ≤ p = h.0 in let high : p < node + 0 = h.1 in absurd (omega arith)
each-own node (suc count) logs p h =
    elim (cases_eq node p) [
      | inl e ↦
          ap (λ q. stamps.items_of q (stamps.all_items (logs_from node (suc count) logs))) (sym e)
          ∙ own-first node count logs ∙ ap (λ q. items_in q (logs q)) e
      | inr d ↦
          let low : node ≤ p = h.0
          in let high : p < node + suc count = h.1
          in let rest = stamps.all_items (logs_from (suc node) count logs)
          in of-append p (items_in node (logs node)) rest
          ∙ ap (λ (es : List (Stamped Logged)). es ++ stamps.items_of p rest)
          (none-own p (items_in node (logs node)) (items-other p node (logs node) d))
          ∙ each-own (suc node) count logs p (omega arith, omega arith)
    ]

all-are : (P : Stamped Logged → Type 0) (node count : ℕ) (logs : ℕ → Log)
    → ((p : ℕ) → IsAmong node count p → (turn : Logged) → P (item_of p turn))
    → AllByRecursion P (stamps.all_items (logs_from node count logs))
all-are P node zero logs h = tt
all-are P node (suc count) logs h =
    append-all P (items_in node (logs node)) (stamps.all_items (logs_from (suc node) count logs))
    (items-are P node (logs node) (h node (first-among node count)))
    (all-are P (suc node) count logs (λ p a. h p (later-among node count p a)))

among-is : (script : Script) (p : ℕ) → IsAmong 1 (node_count script) p → IsNode script p
among-is script p h =
    let low : 1 ≤ p = h.0 in let high : p < 1 + node_count script = h.1 in record { low = low; high = omega arith }

is-among : (script : Script) (p : ℕ) → IsNode script p → IsAmong 1 (node_count script) p
is-among script p is =
    let low : 1 ≤ p = is.low in let high : p ≤ node_count script = is.high in (low, omega arith)

-- each node's part of all items is its log
pub log-part : (script : Script) (logs : ℕ → Log) (p : ℕ) → IsNode script p
    → stamps.items_of p (stamps.all_items (logs_of script logs)) ≡ items_in p (logs p)
log-part script logs p is = each-own 1 (node_count script) logs p (is-among script p is)

-- what holds of each item of a node of the script holds of all items
pub all-of-logs : (P : Stamped Logged → Type 0) (script : Script) (logs : ℕ → Log)
    → ((p : ℕ) → IsNode script p → (turn : Logged) → P (item_of p turn))
    → AllByRecursion P (stamps.all_items (logs_of script logs))
all-of-logs P script logs h = all-are P 1 (node_count script) logs (λ p a. h p (among-is script p a))

-- what holds of each node's log holds of all logs
pub each-of-logs : (P : List (Stamped Logged) → Type 0) (script : Script) (logs : ℕ → Log)
    → ((p : ℕ) → IsNode script p → P (items_in p (logs p))) → AllByRecursion P (logs_of script logs)
each-of-logs P script logs h = each-log P 1 (node_count script) logs (λ p a. h p (among-is script p a))

-- the logs of a script's nodes may be merged
pub logs_may_merge_lemma : LogsMayMerge
logs_may_merge_lemma script logs rise =
    record { rise = each-of-logs stamps.StampsRise script logs rise; own_nodes = own-nodes 1 (node_count script) logs }
