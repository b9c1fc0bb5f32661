-- What the threads did is a run of the machine, from which the run goes on.
use Rattle.std.proofs.Common.{◌≡◌, ℕ, zero, suc, ◌+◌, ◌<◌, ◌≤◌, List, [], ◌∷◌, length, map, Option, Some, None, IfSome, IsSome, refl, ap, sym, subst, ◌∙◌, arith, inl, inr, append-nil}
use Rattle.std.specs.List.{AllByRecursion}
use Rattle.std.proofs.lemmas.Bool.{cases_eq}
use Rattle.pico_base.specs.declared.script.Script.{Script}
use Rattle.pico_base.specs.declared.script.Event.{Event}
use Rattle.stamp_merge.specs.declared.Stamped as merged
use Rattle.stamp_merge.specs.Merge as stamps
use Rattle.stamp_merge.proofs.Merges.{own-item, others-item}
use Rattle.journal_core.specs.declared.stamped.Stamped.{Stamped}
use Rattle.kernel_model.specs.Script.{IsSoundScript}
use Rattle.world_model.specs.World.{IsNode, World, numbers, node_count, opening_world}
use Rattle.world_model.specs.Run.{IsRunOf}
use Rattle.log_laws.specs.Merge.{MayMerge, NodeTurn}
use Rattle.log_laws.specs.EventLogs.{event_item, event_item_of, event_log}
use Rattle.log_laws.proofs.Lists.{log_of, log-of-own, log-of-other}
use Rattle.log_laws.proofs.ByNode.{by-node}
use Rattle.log_laws.proofs.RunEnds.{one-end}
use Rattle.log_model.specs.Views.{Parting}
use Rattle.thread_laws.specs.Joined.{kept_logs}
use Rattle.thread_laws.specs.Laws.{NodesMayMerge, ThreadsMakeARun, IsRunOfThreads}
use Rattle.pico_run.specs.Joined.{IsThreaded, parting_of}
use Rattle.pico_run.specs.Rested.{ArePartings}
use Rattle.pico_run.specs.Resting.{IsGoing, logs_in}
use Rattle.pico_run.proofs.Lists.{length-map, length-numbers, map-map}

-- ---- the logs

pub logs-are-kept : (script : Script) (journal : List Stamped) (partings : List Parting)
    (t : IsThreaded script journal partings) → logs_in partings ≡ kept_logs script t.nodes
logs-are-kept script journal partings t =
    ap logs_in t.partings_are
    ∙ map-map (λ p. parting_of (t.nodes p)) (λ (x : Parting). x.log) (numbers 1 (node_count script))

-- the logs of the threads may be merged
pub logs-may-merge : (script : Script) (journal : List Stamped) (partings : List Parting) → NodesMayMerge
    → IsThreaded script journal partings → MayMerge (logs_in partings)
logs-may-merge script journal partings may t =
    subst (λ (xs : List (List (merged.Stamped Event))). MayMerge xs)
    (sym (logs-are-kept script journal partings t)) (may script t.nodes journal t.joined)

pub threads-run : (script : Script) (journal : List Stamped) (partings : List Parting)
    (events : List (merged.Stamped Event)) → ThreadsMakeARun → IsSoundScript script
    → (t : IsThreaded script journal partings) → stamps.IsMerge (logs_in partings) events
    → IsRunOfThreads script t.nodes journal events
threads-run script journal partings events makes sound t merge =
    makes script t.nodes journal events sound t.joined
    (subst (λ (xs : List (List (merged.Stamped Event))). stamps.IsMerge xs events)
    (logs-are-kept script journal partings t) merge)

-- the plain events are a run
pub plain-run : (script : Script) (journal : List Stamped) (partings : List Parting)
    (events : List (merged.Stamped Event)) (plain : List Event) → ThreadsMakeARun → IsSoundScript script
    → IsThreaded script journal partings → stamps.IsMerge (logs_in partings) events
    → plain ≡ map (λ e. e.item) events → (w : World) × IsRunOf script plain w
plain-run script journal partings events plain makes sound t merge is =
    let r : IsRunOfThreads script t.nodes journal events =
    threads-run script journal partings events makes sound t merge
    in (
      r.world,
      subst (λ (es : List Event). IsRunOf script es r.world) (sym (is ∙ r.events)) r.run.runs,
    )

-- ---- the partings

items-of-turns : (p : ℕ) (turns : List NodeTurn)
    → stamps.items_of p (map event_item turns) ≡ event_log p (log_of p turns)
items-of-turns p [] = refl
items-of-turns p (t ∷ turns) =
    elim (cases_eq t.node p) [
      | inl own ↦
          own-item (event_item t) (map event_item turns) p own
          ∙ ap (λ (es : List (merged.Stamped Event)). event_item t ∷ es) (items-of-turns p turns)
          ∙ ap (λ k. event_item_of k t.turn ∷ event_log p (log_of p turns)) own
          ∙ sym (ap (event_log p) (log-of-own t turns p own))
      | inr other ↦
          others-item (event_item t) (map event_item turns) p other
          ∙ items-of-turns p turns
          ∙ sym (ap (event_log p) (log-of-other t turns p other))
    ]

are-partings : (script : Script) (journal : List Stamped) (partings : List Parting)
    (events : List (merged.Stamped Event)) (t : IsThreaded script journal partings)
    (r : IsRunOfThreads script t.nodes journal events) (first count : ℕ) → 1 ≤ first
    → first + count ≤ node_count script + 1
    → ArePartings r.logs first (map (λ p. parting_of (t.nodes p)) (numbers first count))
are-partings script journal partings events t r first zero low high = tt
are-partings script journal partings events t r first (suc count) low high =
    let is : IsNode script first = record { low = low; high = omega (arith, high) }
    in (
      record {
        node_is = t.joined.number first is;
        quiet = t.quiet first is (r.no_fault first is);
        later = [];
        log = sym (r.kept first is) ∙ sym (append-nil (t.nodes first).log);
      },
      are-partings script journal partings events t r (first + 1) count (omega arith) (omega (arith, high)),
    )

merged-logs : (script : Script) (journal : List Stamped) (partings : List Parting)
    (events : List (merged.Stamped Event)) (t : IsThreaded script journal partings)
    (r : IsRunOfThreads script t.nodes journal events) (first count : ℕ) → 1 ≤ first
    → first + count ≤ node_count script + 1
    → AllByRecursion (λ (p : Parting). stamps.items_of p.node events ≡ p.log)
    (map (λ p. parting_of (t.nodes p)) (numbers first count))
merged-logs script journal partings events t r first zero low high = tt
merged-logs script journal partings events t r first (suc count) low high =
    let is : IsNode script first = record { low = low; high = omega (arith, high) }
    in (
      ap (λ k. stamps.items_of k events) (t.joined.number first is)
          ∙ ap (λ (es : List (merged.Stamped Event)). stamps.items_of first es) r.items
          ∙ items-of-turns first r.turns
          ∙ ap (event_log first) ((by-node script r.logs r.turns r.run.merge).each first is)
          ∙ sym (r.kept first is),
      merged-logs script journal partings events t r (first + 1) count (omega arith) (omega (arith, high)),
    )

each : {X : Type 0} (P : X → Type 0) → ((x : X) → P x) → (xs : List X) → AllByRecursion P xs
each P h [] = tt
each P h (x ∷ xs) = (h x, each P h xs)

-- ---- the run so far

world-of-run : (script : Script) (events : List Event) (w : World) (o : Option World)
    → IsRunOf script events w → IfSome o (IsRunOf script events) → IsSome o → o ≡ Some w
world-of-run script events w None run is there = absurd (let f : ⊥ = cc in f)
world-of-run script events w (Some v) run is there =
    ap (λ (x : World). Some x) (one-end events (opening_world script) v w is run)

-- the merge is a run on its way to rest
pub going-start : (script : Script) (journal : List Stamped) (partings : List Parting)
    (events : List (merged.Stamped Event)) (plain : List Event) (world : Option World) → ThreadsMakeARun
    → IsSoundScript script → IsThreaded script journal partings → stamps.IsMerge (logs_in partings) events
    → plain ≡ map (λ e. e.item) events → IfSome world (IsRunOf script plain) → IsSome world
    → IsGoing script (record { journal = journal; events = events; world = world; partings = partings })
going-start script journal partings events plain world makes sound t merge is_plain runs there =
    let r : IsRunOfThreads script t.nodes journal events =
    threads-run script journal partings events makes sound t merge
    in let count : node_count script + 1 ≡ 1 + node_count script = omega arith
    in let high : 1 + node_count script ≤ node_count script + 1 = omega arith
    in let all : List Parting = map (λ p. parting_of (t.nodes p)) (numbers 1 (node_count script))
    in record {
      logs = r.logs;
      turns = r.turns;
      world = r.world;
      is_world =
          world-of-run script plain r.world world
          (subst (λ (es : List Event). IsRunOf script es r.world) (sym (is_plain ∙ r.events)) r.run.runs) runs there;
      run = r.run;
      events = r.items;
      journal = r.journal_is;
      entries = r.entries;
      count =
          ap length t.partings_are
          ∙ length-map (λ p. parting_of (t.nodes p)) (numbers 1 (node_count script))
          ∙ length-numbers 1 (node_count script);
      partings =
          subst (λ (ps : List Parting). ArePartings r.logs 1 ps) (sym t.partings_are)
          (are-partings script journal partings events t r 1 (node_count script) (omega arith) high);
      threads = record {
        first = events;
        later = [];
        whole = sym (append-nil events);
        logs =
            subst (λ (ps : List Parting). AllByRecursion (λ (p : Parting). stamps.items_of p.node events ≡ p.log) ps)
            (sym t.partings_are)
            (merged-logs script journal partings events t r 1 (node_count script) (omega arith) high);
        rise = tt;
        above = each (λ (e : merged.Stamped Event). AllByRecursion (λ (f : merged.Stamped Event). e.stamp < f.stamp) [])
            (λ e. tt) events;
      };
      order = merge.in_order;
      below = r.below;
    }
