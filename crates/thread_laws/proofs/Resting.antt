-- A run that is stepped on behind that of the threads, with its events and its journal: what a loop over the events
-- that are left keeps.
use Rattle.std.proofs.Common.{◌≡◌, ℕ, ◌+◌, ◌<◌, ◌≤◌, true, List, [], ◌∷◌, ◌++◌, length, map, Some, refl, ap, sym, subst, ◌∙◌, inl, inr, append_assoc, append-nil, arith}
use Rattle.std.specs.List.{AllByRecursion}
use Rattle.std.proofs.lemmas.Bool.{cases_eq}
use Rattle.std.proofs.lemmas.List.{append_cancel_left, length-append}
use Rattle.pico_base.specs.declared.script.Script.{Script}
use Rattle.pico_base.specs.declared.script.Event.{Event}
use Rattle.pico_base.specs.declared.reply.Entry.{Entry}
use Rattle.stamp_merge.specs.Merge as stamps
use Rattle.stamp_merge.proofs.Merges.{own-item, others-item}
use Rattle.journal_core.specs.declared.stamped.Stamped.{Stamped}
use Rattle.journal_core.specs.Journal.{under}
use Rattle.kernel_model.specs.Script.{IsSoundScript}
use Rattle.world_model.specs.World.{IsNode, World, step, is_enabled}
use Rattle.world_model.specs.Schedule.{node_of}
use Rattle.log_laws.specs.Logs.{Log}
use Rattle.log_laws.specs.Merge.{NodeTurn}
use Rattle.log_laws.specs.Journal.{JournalEntry, journal_entry, IsJournalOf}
use Rattle.log_laws.specs.EventLogs.{event_item_of, event_item, event_log}
use Rattle.log_laws.specs.Follows.{IsRunOfLogs, AreBelow, TurnFollows, logs_after}
use Rattle.log_laws.proofs.JournalsFollow.{event-entered}
use Rattle.log_laws.proofs.Lists.{map-append, append-all, left-all, right-all, log_of, log-of-own, log-of-other}
use Rattle.log_laws.proofs.ByNode.{by-node}
use Rattle.log_laws.proofs.OneMore.{after-own, after-other}
use Rattle.log_model.specs.Views.{LoggedNode}
use Rattle.thread_laws.specs.Joined.{entry_of_node, journal_of}
use Rattle.thread_laws.specs.Laws.{IsRunOfThreads, StepsFollow}
use Rattle.thread_laws.proofs.Journals.{entered-under}
use Rattle.thread_laws.proofs.Lasts.{Item, IsLastStamp, below-last, items-below, last-few}

-- ---- what is kept

-- the longer log begins with the other
pub record GoesOn (log longer : Log) : Type 0 where
  pub more : Log
  pub whole : longer ≡ log ++ more

-- Longer logs lead to the world: behind the events of the threads' logs come those that were stepped, under rising
-- stamps above all others. This is the last stamp, and there are as many turns at least.
pub record IsRunSoFar (script : Script) (kept : ℕ → Log) (first : List Item) (w : World)
    (events : List Item) (journal : List Stamped) (stamp : ℕ) : Type 0 where
  pub logs : ℕ → Log
  pub turns : List NodeTurn
  pub run : IsRunOfLogs script logs turns w
  pub items : events ≡ map event_item turns
  pub journal_is : IsJournalOf script logs (journal_of journal)
  pub entries : map (λ e. e.entry) journal ≡ w.journal
  pub below : AreBelow (stamp + 1) turns
  pub few : stamp ≤ length turns
  pub later : List Item
  pub whole : events ≡ first ++ later
  pub rise : stamps.StampsRise later
  pub above : AllByRecursion (λ e. AllByRecursion (λ f. e.stamp < f.stamp) later) first
  pub goes_on : (p : ℕ) → IsNode script p → GoesOn (kept p) (logs p)

-- ---- the beginning

nothing-above : (es : List Item)
    → AllByRecursion (λ (e : Item). AllByRecursion (λ (f : Item). e.stamp < f.stamp) []) es
nothing-above [] = tt
nothing-above (e ∷ es) = (tt, nothing-above es)

-- the threads' run is one so far
pub run-begins : (script : Script) (nodes : ℕ → LoggedNode) (journal : List Stamped)
    (merged : List Item) (stamp : ℕ) (t : IsRunOfThreads script nodes journal merged)
    → IsLastStamp merged stamp → IsRunSoFar script t.logs merged t.world merged journal stamp
run-begins script nodes journal merged stamp t is_last =
    let last : IsLastStamp (map event_item t.turns) stamp =
    subst (λ (es : List Item). IsLastStamp es stamp) t.items is_last
    in record {
      logs = t.logs;
      turns = t.turns;
      run = t.run;
      items = t.items;
      journal_is = t.journal_is;
      entries = t.entries;
      below = below-last t.turns stamp t.run.merge.in_order last;
      few = last-few t.turns stamp t.below last;
      later = [];
      whole = sym (append-nil merged);
      rise = tt;
      above = nothing-above merged;
      goes_on = λ p is. record { more = []; whole = sym (append-nil (t.logs p)) };
    }

-- ---- one event more

plain-under : (stamp node : ℕ) (es : List Entry) → map (λ (e : Stamped). e.entry) (under stamp node es) ≡ es
plain-under stamp node [] = refl
plain-under stamp node (e ∷ es) = ap (λ (xs : List Entry). e ∷ xs) (plain-under stamp node es)

rise-with-last : (es : List Item) (last : Item) → stamps.StampsRise es
    → AllByRecursion (λ (e : Item). e.stamp < last.stamp) es → stamps.StampsRise (es ++ last ∷ [])
rise-with-last [] last rise low = (tt, tt)
rise-with-last (e ∷ es) last rise low = (
  append-all (λ (f : Item). e.stamp < f.stamp) es (last ∷ []) rise.0 (low.0, tt),
  rise-with-last es last rise.1 low.1,
)

above-with-last : (es later : List Item) (last : Item)
    → AllByRecursion (λ (e : Item). AllByRecursion (λ (f : Item). e.stamp < f.stamp) later) es
    → AllByRecursion (λ (e : Item). e.stamp < last.stamp) es
    → AllByRecursion (λ (e : Item). AllByRecursion (λ (f : Item). e.stamp < f.stamp) (later ++ last ∷ [])) es
above-with-last [] later last above low = tt
above-with-last (e ∷ es) later last above low = (
  append-all (λ (f : Item). e.stamp < f.stamp) later (last ∷ []) above.0 (low.0, tt),
  above-with-last es later last above.1 low.1,
)

goes-further : (kept : ℕ → Log) (logs : ℕ → Log) (t : NodeTurn) (p : ℕ) → GoesOn (kept p) (logs p)
    → GoesOn (kept p) (logs_after logs t p)
goes-further kept logs t p on =
    elim (cases_eq t.node p) [
      | inl own ↦ record {
        more = on.more ++ t.turn ∷ [];
        whole =
            after-own logs t p own
            ∙ ap (λ (log : Log). log ++ t.turn ∷ []) on.whole
            ∙ append_assoc (kept p) on.more (t.turn ∷ []);
      }
      | inr other ↦ record { more = on.more; whole = after-other logs t p other ∙ on.whole }
    ]

-- the event as one of a merge
abbrev pub next_item : ℕ → Event → Item
next_item stamp e = record { stamp = stamp; node = node_of e; item = e }

-- With an enabled event, under the next stamp, and with the entries that it adds, it is one again.
module _ (script : Script) (sound : IsSoundScript script) (follow : StepsFollow) (kept : ℕ → Log)
    (first : List Item) (w next : World) (events : List Item)
    (journal : List Stamped) (stamp : ℕ) (r : IsRunSoFar script kept first w events journal stamp) (e : Event)
    (enabled : is_enabled w e ≡ true) (steps : step w e ≡ Some next) (es : List Entry)
    (adds : next.journal ≡ w.journal ++ es) where
  turn : TurnFollows script r.logs r.turns w e next (stamp + 1)
  turn = follow script r.logs r.turns w e next (stamp + 1) sound r.run enabled steps r.below

  same-entries : turn.turn.turn.step.entries ≡ es
  same-entries =
      append_cancel_left w.journal turn.turn.turn.step.entries es (sym turn.entries ∙ adds)

  all-low : AllByRecursion (λ (x : Item). x.stamp < stamp + 1) (first ++ r.later)
  all-low =
      subst (AllByRecursion (λ (x : Item). x.stamp < stamp + 1)) (sym r.items ∙ r.whole)
      (items-below (stamp + 1) r.turns r.below)

  next-items : events ++ next_item (stamp + 1) e ∷ [] ≡ map event_item (r.turns ++ turn.turn ∷ [])
  next-items =
      ap (λ (xs : List Item). xs ++ next_item (stamp + 1) e ∷ []) r.items
      ∙ ap (λ (x : Item). map event_item r.turns ++ x ∷ []) (sym turn.item)
      ∙ sym (map-append event_item r.turns (turn.turn ∷ []))

  next-journal : IsJournalOf script (logs_after r.logs turn.turn)
      (journal_of (journal ++ under (stamp + 1) (node_of e) es))
  next-journal =
      let entered : IsJournalOf script (logs_after r.logs turn.turn)
      (journal_of journal ++ map (journal_entry (node_of e) (stamp + 1)) turn.turn.turn.step.entries) =
      event-entered script r.logs r.turns w e next (stamp + 1) (journal_of journal) r.run.merge r.below turn
      r.journal_is
      in subst (IsJournalOf script (logs_after r.logs turn.turn))
      (ap (λ (xs : List Entry). journal_of journal ++ map (journal_entry (node_of e) (stamp + 1)) xs) same-entries
      ∙ ap (λ (xs : List JournalEntry). journal_of journal ++ xs) (sym (entered-under (node_of e) (stamp + 1) es))
      ∙ sym (map-append entry_of_node journal (under (stamp + 1) (node_of e) es)))
      entered

  next-entries : map (λ (x : Stamped). x.entry) (journal ++ under (stamp + 1) (node_of e) es) ≡ next.journal
  next-entries =
      map-append (λ (x : Stamped). x.entry) journal (under (stamp + 1) (node_of e) es)
      ∙ ap (λ (xs : List Entry). xs ++ map (λ (x : Stamped). x.entry) (under (stamp + 1) (node_of e) es)) r.entries
      ∙ ap (λ (xs : List Entry). w.journal ++ xs) (plain-under (stamp + 1) (node_of e) es)
      ∙ sym adds

  pub run-goes-on : IsRunSoFar script kept first next (events ++ next_item (stamp + 1) e ∷ [])
      (journal ++ under (stamp + 1) (node_of e) es) (stamp + 1)
  run-goes-on =
      record {
        logs = logs_after r.logs turn.turn;
        turns = r.turns ++ turn.turn ∷ [];
        run = turn.run;
        items = next-items;
        journal_is = next-journal;
        entries = next-entries;
        below = turn.below;
        few = let size = length-append r.turns (turn.turn ∷ []) in let low = r.few in omega arith;
        later = r.later ++ next_item (stamp + 1) e ∷ [];
        whole =
            ap (λ (xs : List Item). xs ++ next_item (stamp + 1) e ∷ []) r.whole
            ∙ append_assoc first r.later (next_item (stamp + 1) e ∷ []);
        rise =
            rise-with-last r.later (next_item (stamp + 1) e) r.rise
            (right-all (λ (x : Item). x.stamp < stamp + 1) first r.later all-low);
        above =
            above-with-last first r.later (next_item (stamp + 1) e) r.above
            (left-all (λ (x : Item). x.stamp < stamp + 1) first r.later all-low);
        goes_on = λ p is. goes-further kept r.logs turn.turn p (r.goes_on p is);
      }

-- ---- what each thread left

-- its log begins its node's events
pub record IsBegun (log whole : List Item) : Type 0 where
  pub later : List Item
  pub is : whole ≡ log ++ later

-- a parting's log is the first part of its node's
pub log-begins : (p : ℕ) (kept logs : Log) (log : List Item) → log ≡ event_log p kept
    → GoesOn kept logs → IsBegun log (event_log p logs)
log-begins p kept logs log same on =
    record {
      later = event_log p on.more;
      is =
          ap (event_log p) on.whole
          ∙ map-append (event_item_of p) kept on.more
          ∙ ap (λ (xs : List Item). xs ++ event_log p on.more) (sym same);
    }

items-of-turns : (p : ℕ) (turns : List NodeTurn)
    → stamps.items_of p (map event_item turns) ≡ event_log p (log_of p turns)
items-of-turns p [] = refl
items-of-turns p (t ∷ turns) =
    elim (cases_eq t.node p) [
      | inl own ↦
          own-item (event_item t) (map event_item turns) p own
          ∙ ap (λ (xs : List Item). event_item t ∷ xs) (items-of-turns p turns)
          ∙ ap (λ q. event_item_of q t.turn ∷ event_log p (log_of p turns)) own
          ∙ sym (ap (event_log p) (log-of-own t turns p own))
      | inr other ↦
          others-item (event_item t) (map event_item turns) p other
          ∙ items-of-turns p turns
          ∙ sym (ap (event_log p) (log-of-other t turns p other))
    ]

-- the merged events of a node are its log
pub items-of-node : (script : Script) (nodes : ℕ → LoggedNode) (journal : List Stamped)
    (merged : List Item) → IsRunOfThreads script nodes journal merged → (p : ℕ) → IsNode script p
    → stamps.items_of p merged ≡ (nodes p).log
items-of-node script nodes journal merged t p is =
    ap (stamps.items_of p) t.items
    ∙ items-of-turns p t.turns
    ∙ ap (event_log p) ((by-node script t.logs t.turns t.run.merge).each p is)
    ∙ sym (t.kept p is)
