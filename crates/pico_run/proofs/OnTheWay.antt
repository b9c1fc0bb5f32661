-- The run goes on, event by event, behind what the threads did.
use Rattle.std.proofs.Common.{◌≡◌, ℕ, ◌+◌, ◌<◌, ◌≤◌, true, List, [], ◌∷◌, ◌++◌, length, map, drop, Option, Some, None, IfSome, IsSome, refl, ap, sym, subst, ◌∙◌, arith, append_assoc, append-nil, length-append}
use Rattle.std.specs.List.{AllByRecursion}
use Rattle.std.proofs.Math.Seq.{drop-append_seam}
use Rattle.pico_base.specs.declared.script.Script.{Script}
use Rattle.pico_base.specs.declared.script.Event.{Event}
use Rattle.stamp_merge.specs.Merge as stamps
use Rattle.journal_core.specs.declared.stamped.Stamped.{Stamped}
use Rattle.journal_core.specs.Journal.{under}
use Rattle.kernel_model.specs.Script.{IsSoundScript}
use Rattle.world_model.specs.World.{IsNode, World, node_count, is_enabled, size, step}
use Rattle.world_model.specs.Schedule.{InTurn, in_turn, node_of}
use Rattle.world_core.specs.Laws.{RestIsWhereNothingIsChosen}
use Rattle.log_laws.specs.Logs.{Log}
use Rattle.log_laws.specs.Merge.{NodeTurn, events_of}
use Rattle.log_laws.specs.EventLogs.{event_item, event_log}
use Rattle.log_laws.specs.Follows.{AreBelow, TurnFollows}
use Rattle.log_laws.proofs.Shapes.{shape-of-run}
use Rattle.turn_laws.specs.Laws.{RunsAreFew}
use Rattle.log_model.specs.Views.{Parting}
use Rattle.thread_laws.specs.Laws.{StepsFollow}
use Rattle.thread_laws.proofs.Lasts.{Item}
use Rattle.thread_laws.proofs.Resting.{GoesOn, IsBegun, IsRunSoFar, log-begins, next_item, run-goes-on}
use Rattle.pico_run.specs.declared.rested.Rested.{Rested}
use Rattle.pico_run.specs.Rested.{ArePartings, IsParting, IsRested}
use Rattle.pico_run.specs.Resting.{IsGoing, IsMade}
use Rattle.pico_run.proofs.Chosen.{IsNext, in_turn_next}
use Rattle.pico_run.proofs.Lists.{length-map}

-- The run so far, with its last stamp and the node of its last event: behind the threads' logs and their events stand
-- those that were stepped.
pub record IsOnTheWay (script : Script) (r : Rested) (stamp after : ℕ) : Type 0 where
  pub kept : ℕ → Log
  pub first : List Item
  pub world : World
  pub is_world : r.world ≡ Some world
  pub so_far : IsRunSoFar script kept first world r.events r.journal stamp
  pub count : length r.partings ≡ node_count script
  pub partings : ArePartings kept 1 r.partings
  pub logs : AllByRecursion (λ (p : Parting). stamps.items_of p.node first ≡ p.log) r.partings
  pub there : after ≤ node_count script

same-world : (v w : World) → Some v ≡ Some w → v ≡ w
same-world v w e = cc

-- ---- the beginning

turns-below : (bound : ℕ) (turns : List NodeTurn)
    → AllByRecursion (λ (e : Item). e.stamp ≤ bound) (map event_item turns)
    → AreBelow (bound + 1) turns
turns-below bound [] h = tt
turns-below bound (t ∷ turns) h =
    let low : t.turn.stamp ≤ bound = h.0 in (omega (arith, low), turns-below bound turns h.1)

items-up-to : (bound : ℕ) (turns : List NodeTurn) → AreBelow (bound + 1) turns
    → AllByRecursion (λ (e : Item). e.stamp ≤ bound) (map event_item turns)
items-up-to bound [] h = tt
items-up-to bound (t ∷ turns) h =
    let low : t.turn.stamp < bound + 1 = h.0 in (omega (arith, low), items-up-to bound turns h.1)

-- what the threads did is a run on its way
pub on-the-way-start : (script : Script) (r : Rested) (events : List Item) (stamp after : ℕ) → IsGoing script r
    → events ≡ r.events → AllByRecursion (λ (e : Item). e.stamp ≤ stamp) events
    → ((bound : ℕ) → AllByRecursion (λ (e : Item). e.stamp ≤ bound) events → stamp ≤ bound)
    → after ≤ node_count script → IsOnTheWay script r stamp after
on-the-way-start script r events stamp after g same above least there =
    let items : events ≡ map event_item g.turns = same ∙ g.events
    in record {
      kept = g.logs;
      first = g.threads.first;
      world = g.world;
      is_world = g.is_world;
      so_far = record {
        logs = g.logs;
        turns = g.turns;
        run = g.run;
        items = g.events;
        journal_is = g.journal;
        entries = g.entries;
        below =
            turns-below stamp g.turns
            (subst (λ (es : List Item). AllByRecursion (λ (e : Item). e.stamp ≤ stamp) es) items above);
        few =
            least (length g.turns)
            (subst (λ (es : List Item). AllByRecursion (λ (e : Item). e.stamp ≤ length g.turns) es) (sym items)
            (items-up-to (length g.turns) g.turns g.below));
        later = g.threads.later;
        whole = g.threads.whole;
        rise = g.threads.rise;
        above = g.threads.above;
        goes_on = λ p is. record { more = []; whole = sym (append-nil (g.logs p)) };
      };
      count = g.count;
      partings = g.partings;
      logs = g.threads.logs;
      there = there;
    }

-- a run is of one script alone
pub one-script : (script other : Script) (r : Rested) → IsGoing script r → IsGoing other r → script ≡ other
one-script script other r g h =
    sym (shape-of-run script (events_of g.turns) g.world g.run.runs).of_script
    ∙ ap (λ (w : World). w.script) (same-world g.world h.world (sym g.is_world ∙ h.is_world))
    ∙ (shape-of-run other (events_of h.turns) h.world h.run.runs).of_script

-- ---- at any time

module _ (script : Script) (r : Rested) (stamp after : ℕ) (on : IsOnTheWay script r stamp after) where
  -- there are few events
  pub few-events : RunsAreFew → IsSoundScript script → length r.events ≤ 640000
  few-events runs sound =
      let few : length (events_of on.so_far.turns) ≤ 640000 =
      runs script (events_of on.so_far.turns) on.world sound on.so_far.run.runs
      in let same : length (events_of on.so_far.turns) ≡ length on.so_far.turns = length-map _ on.so_far.turns
      in let count : length r.events ≡ length on.so_far.turns =
      ap length on.so_far.items ∙ length-map event_item on.so_far.turns
      in omega (arith, few, same, count)

  -- and the stamps are low
  pub few-stamps : RunsAreFew → IsSoundScript script → stamp ≤ 640000
  few-stamps runs sound =
      let few : length r.events ≤ 640000 = few-events runs sound
      in let count : length r.events ≡ length on.so_far.turns =
      ap length on.so_far.items ∙ length-map event_item on.so_far.turns
      in let low : stamp ≤ length on.so_far.turns = on.so_far.few
      in omega (arith, few, count, low)

  -- the world is there, and has the node of the last event
  pub world-is-there : IsSome r.world
  world-is-there = subst (λ (o : Option World). IsSome o) (sym on.is_world) refl

  of-script : on.world.script ≡ script
  of-script = (shape-of-run script (events_of on.so_far.turns) on.world on.so_far.run.runs).of_script

  is-within : after ≤ size on.world
  is-within = subst (λ (s : Script). after ≤ node_count s) (sym of-script) on.there

  pub world-has-node : IfSome r.world (λ w. after ≤ size w)
  world-has-node = subst (λ (o : Option World). IfSome o (λ w. after ≤ size w)) (sym on.is_world) is-within

-- ---- one event more

-- a list that begins with another is that one and the rest
with-rest : {X : Type 0} (xs ys zs : List X) → zs ≡ xs ++ ys → zs ≡ xs ++ drop (length xs) zs
with-rest {X} xs ys zs e =
    e ∙ ap (λ (us : List X). xs ++ us) (sym (ap (λ (us : List X). drop (length xs) us) e ∙ drop-append_seam xs ys))

module _ (script : Script) (r : Rested) (stamp after : ℕ) (on : IsOnTheWay script r stamp after) (o : Option Event)
    (e : Event) (chosen : IfSome r.world (λ w. o ≡ in_turn w after)) (is : o ≡ Some e) where
  is-next : IsNext on.world (size on.world) e
  is-next =
      in_turn_next on.world after e (is-within script r stamp after on)
      (sym (subst (λ (x : Option World). IfSome x (λ w. o ≡ in_turn w after)) on.is_world chosen) ∙ is)

  -- the event that was chosen is enabled
  pub chosen-is-enabled : IfSome r.world (λ w. is_enabled w e ≡ true)
  chosen-is-enabled =
      subst (λ (x : Option World). IfSome x (λ w. is_enabled w e ≡ true)) (sym on.is_world) is-next.enabled

-- the event was carried out
module _ (script : Script) (r : Rested) (stamp after : ℕ) (on : IsOnTheWay script r stamp after) (e : Event)
    (next : IsNext on.world (size on.world) e) (world : Option World) (events : List Item) (journal : List Stamped)
    (steps : StepsFollow) (sound : IsSoundScript script)
    (m : IsMade e (stamp + 1) r.world world r.events events r.journal journal) where
  same : m.now ≡ on.world
  same = same-world m.now on.world (sym m.is_now ∙ on.is_world)

  stepped : step on.world e ≡ Some m.next
  stepped = subst (λ (w : World). step w e ≡ Some m.next) same m.steps

  adds : m.next.journal ≡ on.world.journal ++ drop (length on.world.journal) m.next.journal
  adds =
      let turn : TurnFollows script on.so_far.logs on.so_far.turns on.world e m.next (stamp + 1) =
      steps script on.so_far.logs on.so_far.turns on.world e m.next (stamp + 1) sound on.so_far.run
      next.enabled stepped on.so_far.below
      in with-rest on.world.journal turn.turn.turn.step.entries m.next.journal turn.entries

  journal-now : journal
      ≡ r.journal ++ under (stamp + 1) (node_of e) (drop (length on.world.journal) m.next.journal)
  journal-now =
      m.journal_is
      ∙ ap (λ (w : World). r.journal ++ under (stamp + 1) (node_of e) (drop (length w.journal) m.next.journal)) same

  so-far-now : IsRunSoFar script on.kept on.first m.next events journal (stamp + 1)
  so-far-now =
      subst (λ (es : List Item). IsRunSoFar script on.kept on.first m.next es journal (stamp + 1)) (sym m.events_are)
      (subst (λ (es : List Stamped).
      IsRunSoFar script on.kept on.first m.next (r.events ++ next_item (stamp + 1) e ∷ []) es (stamp + 1))
      (sym journal-now)
      (run-goes-on script sound steps on.kept on.first on.world m.next r.events r.journal stamp on.so_far e
      next.enabled stepped (drop (length on.world.journal) m.next.journal) adds))

  way-goes-on : IsOnTheWay script
      (record { journal = journal; events = events; world = world; partings = r.partings }) (stamp + 1) (node_of e)
  way-goes-on =
      record {
        kept = on.kept;
        first = on.first;
        world = m.next;
        is_world = m.is_next;
        so_far = so-far-now;
        count = on.count;
        partings = on.partings;
        logs = on.logs;
        there = subst (λ (s : Script). node_of e ≤ node_count s) (of-script script r stamp after on) next.within;
      }

-- with the event that was chosen the run is on its way again
pub on-the-way-more : (script : Script) (r : Rested) (stamp after next_after : ℕ) (o : Option Event) (e : Event)
    (world : Option World) (events : List Item) (journal : List Stamped) → StepsFollow → IsSoundScript script
    → IsOnTheWay script r stamp after → IfSome r.world (λ w. o ≡ in_turn w after) → o ≡ Some e → next_after ≡ node_of e
    → IsMade e (stamp + 1) r.world world r.events events r.journal journal
    → IsOnTheWay script (record { journal = journal; events = events; world = world; partings = r.partings })
    (stamp + 1) next_after
on-the-way-more script r stamp after next_after o e world events journal steps sound on chosen is own m =
    subst (λ (p : ℕ). IsOnTheWay script
    (record { journal = journal; events = events; world = world; partings = r.partings }) (stamp + 1) p) (sym own)
    (way-goes-on script r stamp after on e (is-next script r stamp after on o e chosen is) world events journal steps
    sound m)

-- an event is one event more
pub made-more : (e : Event) (stamp : ℕ) (world next : Option World) (events more : List Item)
    (journal more_journal : List Stamped) → IsMade e stamp world next events more journal more_journal
    → length more ≡ length events + 1
made-more e stamp world next events more journal more_journal m =
    ap length m.events_are ∙ length-append events (next_item stamp e ∷ [])

-- ---- the end

-- the threads' logs begin the logs
partings-now : (script : Script) (kept logs : ℕ → Log) (first : ℕ) (partings : List Parting) → 1 ≤ first
    → first + length partings ≤ node_count script + 1
    → ((p : ℕ) → IsNode script p → GoesOn (kept p) (logs p)) → ArePartings kept first partings
    → ArePartings logs first partings
partings-now script kept logs first [] low high on all = tt
partings-now script kept logs first (p ∷ partings) low high on all =
    let own : IsParting kept first p = all.0
    in let begun : IsBegun (event_log first (kept first)) (event_log first (logs first)) =
    log-begins first (kept first) (logs first) (event_log first (kept first)) refl
    (on first (record { low = low; high = omega (arith, high) }))
    in (
      record {
        node_is = own.node_is;
        quiet = own.quiet;
        later = own.later ++ begun.later;
        log =
            begun.is
            ∙ ap (λ (es : List Item). es ++ begun.later) own.log
            ∙ append_assoc p.log own.later begun.later;
      },
      partings-now script kept logs (first + 1) partings (omega arith) (omega (arith, high)) on all.1,
    )

-- where nothing is chosen, the run has come to rest
pub on-the-way-end : (script : Script) (r : Rested) (stamp after : ℕ) (o : Option Event) → RestIsWhereNothingIsChosen
    → IsOnTheWay script r stamp after → IfSome r.world (λ w. o ≡ in_turn w after) → o ≡ None → IsRested script r
on-the-way-end script r stamp after o rests on chosen none =
    let high : 1 + length r.partings ≤ node_count script + 1 = let same = on.count in omega (arith, same)
    in record {
      logs = on.so_far.logs;
      turns = on.so_far.turns;
      world = on.world;
      is_world = on.is_world;
      run = on.so_far.run;
      events = on.so_far.items;
      journal = on.so_far.journal_is;
      entries = on.so_far.entries;
      rest =
          rests script on.world (InTurn after) (events_of on.so_far.turns, on.so_far.run.runs)
          (is-within script r stamp after on)
          (sym (subst (λ (x : Option World). IfSome x (λ w. o ≡ in_turn w after)) on.is_world chosen) ∙ none);
      count = on.count;
      partings =
          partings-now script on.kept on.so_far.logs 1 r.partings (omega arith) high on.so_far.goes_on on.partings;
      threads = record {
        first = on.first;
        later = on.so_far.later;
        whole = on.so_far.whole;
        logs = on.logs;
        rise = on.so_far.rise;
        above = on.so_far.above;
      };
    }
