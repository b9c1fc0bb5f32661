-- A turn under a stamp above all others: what it enters stands behind the journal.
use Rattle.std.proofs.Common.{◌≡◌, ℕ, ◌<◌, ◌≤◌, List, [], ◌∷◌, ◌++◌, map, refl, ap, sym, subst, ◌∙◌, inl, inr, arith, append-nil}
use Rattle.std.specs.List.{flat_map, AllByRecursion}
use Rattle.std.proofs.lemmas.Bool.{cases_eq}
use Rattle.std.proofs.lemmas.Grind.{flat_map-append}
use Rattle.pico_base.specs.declared.script.Script.{Script}
use Rattle.pico_base.specs.declared.script.Event.{Event}
use Rattle.pico_base.specs.declared.reply.Entry.{Entry}
use Rattle.stamp_merge.proofs.Filters.{all-map}
use Rattle.world_model.specs.World.{IsNode, World}
use Rattle.world_model.specs.Schedule.{node_of}
use Rattle.log_laws.specs.Logs.{Log}
use Rattle.log_laws.specs.Merge.{NodeTurn, IsMerge}
use Rattle.log_laws.specs.Journal.{JournalEntry, journal_entry, entered, entries_by, StampsDontFall, OneNodeAStamp, IsJournalOf}
use Rattle.log_laws.specs.Follows.{logs_after, AreBelow, TurnFollows, JournalsFollow}
use Rattle.log_laws.proofs.Lists.{append-all}
use Rattle.log_laws.proofs.Journals.{by-append, entered-stamps, entered-nodes, own-all, others-none, stamps-of-journal}
use Rattle.log_laws.proofs.OneMore.{after-own, after-other, below-in-log}

-- ---- stamps

one-stamp-order : (stamp : ℕ) (es : List JournalEntry) → AllByRecursion (λ (e : JournalEntry). e.stamp ≡ stamp) es
    → StampsDontFall es
one-stamp-order stamp [] h = tt
one-stamp-order stamp (e ∷ es) h =
    let own : e.stamp ≡ stamp = h.0
    in (
      all-map (λ (f : JournalEntry) (same : f.stamp ≡ stamp). not-above e.stamp f.stamp (own ∙ sym same)) es h.1,
      one-stamp-order stamp es h.1,
    )
  where
    not-above : (a b : ℕ) → a ≡ b → a ≤ b
    not-above a b same = omega arith

low-first : (low stamp : ℕ) (es : List JournalEntry) → low < stamp
    → AllByRecursion (λ (e : JournalEntry). e.stamp ≡ stamp) es
    → AllByRecursion (λ (e : JournalEntry). low ≤ e.stamp) es
low-first low stamp [] h same = tt
low-first low stamp (e ∷ es) h same =
    let own : e.stamp ≡ stamp = same.0 in (omega arith, low-first low stamp es h same.1)

order-behind : (stamp : ℕ) (journal es : List JournalEntry) → StampsDontFall journal
    → AllByRecursion (λ (e : JournalEntry). e.stamp < stamp) journal
    → AllByRecursion (λ (e : JournalEntry). e.stamp ≡ stamp) es → StampsDontFall (journal ++ es)
order-behind stamp [] es order below same = one-stamp-order stamp es same
order-behind stamp (x ∷ journal) es order below same = (
  append-all (λ (e : JournalEntry). x.stamp ≤ e.stamp) journal es order.0
      (low-first x.stamp stamp es below.0 same),
  order-behind stamp journal es order.1 below.1 same,
)

-- ---- one node a stamp

other-stamps : (x : JournalEntry) (stamp : ℕ) (es : List JournalEntry) → x.stamp < stamp
    → AllByRecursion (λ (e : JournalEntry). e.stamp ≡ stamp) es
    → AllByRecursion (λ (e : JournalEntry). e.stamp ≡ x.stamp → e.node ≡ x.node) es
other-stamps x stamp [] low same = tt
other-stamps x stamp (e ∷ es) low same =
    let own : e.stamp ≡ stamp = same.0 in (λ h. absurd (omega arith), other-stamps x stamp es low same.1)

entered-one_node : (node stamp : ℕ) (es : List Entry) → OneNodeAStamp (map (journal_entry node stamp) es)
entered-one_node node stamp [] = tt
entered-one_node node stamp (e ∷ es) = (all-one es, entered-one_node node stamp es)
  where
    all-one : (fs : List Entry)
        → AllByRecursion (λ (f : JournalEntry). f.stamp ≡ stamp → f.node ≡ node) (map (journal_entry node stamp) fs)
    all-one [] = tt
    all-one (f ∷ fs) = (λ h. refl, all-one fs)

apart-behind : (stamp : ℕ) (journal es : List JournalEntry) → OneNodeAStamp journal
    → AllByRecursion (λ (e : JournalEntry). e.stamp < stamp) journal
    → AllByRecursion (λ (e : JournalEntry). e.stamp ≡ stamp) es → OneNodeAStamp es → OneNodeAStamp (journal ++ es)
apart-behind stamp [] es apart below same one = one
apart-behind stamp (x ∷ journal) es apart below same one = (
  append-all (λ (e : JournalEntry). e.stamp ≡ x.stamp → e.node ≡ x.node) journal es apart.0
      (other-stamps x stamp es below.0 same),
  apart-behind stamp journal es apart.1 below.1 same one,
)

-- ---- node by node

entries-with-last : (logs : ℕ → Log) (journal : List JournalEntry) (t : NodeTurn) (p : ℕ)
    → entries_by p journal ≡ flat_map (entered p) (logs p)
    → entries_by p (journal ++ entered t.node t.turn) ≡ flat_map (entered p) (logs_after logs t p)
entries-with-last logs journal t p h =
    let stamp : ℕ = t.turn.stamp
    in let es : List Entry = t.turn.step.entries
    in let of_log : List JournalEntry = flat_map (entered p) (logs p)
    in by-append p journal (entered t.node t.turn)
    ∙ ap (λ (xs : List JournalEntry). xs ++ entries_by p (entered t.node t.turn)) h
    ∙ elim (cases_eq t.node p) [
      | inl e ↦
          ap (λ (i : ℕ). of_log ++ entries_by p (entered i t.turn)) e
          ∙ ap (λ (xs : List JournalEntry). of_log ++ xs) (own-all p stamp es)
          ∙ sym (ap (λ (xs : List JournalEntry). of_log ++ xs) (append-nil (entered p t.turn)))
          ∙ sym (flat_map-append (entered p) (logs p) (t.turn ∷ []))
          ∙ sym (ap (flat_map (entered p)) (after-own logs t p e))
      | inr d ↦
          ap (λ (xs : List JournalEntry). of_log ++ xs) (others-none t.node p stamp es d)
          ∙ append-nil of_log
          ∙ sym (ap (flat_map (entered p)) (after-other logs t p d))
    ]

-- its entries follow the journal
pub journals_follow_lemma : JournalsFollow
journals_follow_lemma script logs turns journal t merge is here below =
    let low : AllByRecursion (λ (e : JournalEntry). e.stamp < t.turn.stamp) journal =
    stamps-of-journal (λ stamp. stamp < t.turn.stamp) script logs journal is
    (below-in-log script logs turns t.turn.stamp merge below)
    in let same : AllByRecursion (λ (e : JournalEntry). e.stamp ≡ t.turn.stamp) (entered t.node t.turn) =
    entered-stamps t.node t.turn.stamp t.turn.step.entries
    in record {
      each = λ p at. entries-with-last logs journal t p (is.each p at);
      nodes =
          append-all (λ (e : JournalEntry). IsNode script e.node) journal (entered t.node t.turn) is.nodes
          (entered-nodes script t.node t.turn.stamp t.turn.step.entries here);
      order = order-behind t.turn.stamp journal (entered t.node t.turn) is.order low same;
      apart =
          apart-behind t.turn.stamp journal (entered t.node t.turn) is.apart low same
          (entered-one_node t.node t.turn.stamp t.turn.step.entries);
    }

-- so do those of an event that follows the logs
pub event-entered : (script : Script) (logs : ℕ → Log) (turns : List NodeTurn) (w : World) (e : Event) (next : World)
    (stamp : ℕ) (journal : List JournalEntry) → IsMerge script logs turns → AreBelow stamp turns
    → (f : TurnFollows script logs turns w e next stamp) → IsJournalOf script logs journal
    → IsJournalOf script (logs_after logs f.turn)
    (journal ++ map (journal_entry (node_of e) stamp) f.turn.turn.step.entries)
event-entered script logs turns w e next stamp journal merge below f is =
    let es : List Entry = f.turn.turn.step.entries
    in let own : AreBelow f.turn.turn.stamp turns = subst (λ (s : ℕ). AreBelow s turns) (sym f.stamped) below
    in subst (λ (p : ℕ). IsJournalOf script (logs_after logs f.turn) (journal ++ map (journal_entry p stamp) es)) f.node
    (subst (λ (s : ℕ). IsJournalOf script (logs_after logs f.turn)
    (journal ++ map (journal_entry f.turn.node s) es)) f.stamped
    (journals_follow_lemma script logs turns journal f.turn merge is f.made.is_node own))
