-- The nodes' shared journal is that of their logs.
use Rattle.std.proofs.Common.{◌≡◌, ℕ, ◌≤◌, ◌==◌, List, [], ◌∷◌, ◌++◌, map, refl, ap, sym, ◌∙◌, inl, inr, arith}
use Rattle.std.specs.List.{flat_map, AllByRecursion}
use Rattle.std.proofs.lemmas.Bool.{cases_eq, eq-eqb, ne_eqb}
use Rattle.pico_base.specs.declared.script.Script.{Script}
use Rattle.pico_base.specs.declared.reply.Entry.{Entry}
use Rattle.stamp_merge.proofs.Filters.{filter-no, filter-yes}
use Rattle.journal_core.specs.declared.stamped.Stamped.{Stamped}
use Rattle.journal_core.specs.Journal.{of_seat, under, Follows, AllFollow, IsInOrder, IsOfSeats}
use Rattle.world_model.specs.World.{IsNode, node_count}
use Rattle.log_laws.specs.Logs.{Log}
use Rattle.log_laws.specs.Journal.{JournalEntry, journal_entry, entered, entries_by, StampsDontFall, OneNodeAStamp, IsJournalOf, plain_entries}
use Rattle.log_laws.proofs.Lists.{map-append}
use Rattle.log_laws.proofs.Journals.{own-entry, others-entry}
use Rattle.log_model.specs.Views.{LoggedNode}
use Rattle.log_model.specs.Logged.{entries_under}
use Rattle.thread_laws.specs.Joined.{entry_of_node, journal_of}
use Rattle.thread_laws.proofs.Nodes.{HaveMade}

-- ---- one node's entries

by-seat : (p : ℕ) (journal : List Stamped) → entries_by p (journal_of journal) ≡ journal_of (of_seat p journal)
by-seat p [] = refl
by-seat p (e ∷ journal) =
    elim (cases_eq e.seat p) [
      | inl own ↦
          own-entry (entry_of_node e) (journal_of journal) p own
          ∙ ap (λ (es : List JournalEntry). entry_of_node e ∷ es) (by-seat p journal)
          ∙ sym (ap journal_of (filter-yes (λ (f : Stamped). f.seat == p) e journal (eq-eqb e.seat p own)))
      | inr other ↦
          others-entry (entry_of_node e) (journal_of journal) p other
          ∙ by-seat p journal
          ∙ sym (ap journal_of (filter-no (λ (f : Stamped). f.seat == p) e journal (ne_eqb e.seat p other)))
    ]

-- entries under a stamp and a seat are those that the node's turn enters
pub entered-under : (p stamp : ℕ) (es : List Entry)
    → journal_of (under stamp p es) ≡ map (journal_entry p stamp) es
entered-under p stamp [] = refl
entered-under p stamp (e ∷ es) =
    ap (λ (xs : List JournalEntry). journal_entry p stamp e ∷ xs) (entered-under p stamp es)

all-entered : (p : ℕ) (turns : Log) → journal_of (flat_map (entries_under p) turns) ≡ flat_map (entered p) turns
all-entered p [] = refl
all-entered p (turn ∷ turns) =
    map-append entry_of_node (entries_under p turn) (flat_map (entries_under p) turns)
    ∙ ap (λ (es : List JournalEntry). es ++ journal_of (flat_map (entries_under p) turns))
    (entered-under p turn.stamp turn.step.entries)
    ∙ ap (λ (es : List JournalEntry). entered p turn ++ es) (all-entered p turns)

-- ---- their order

not-below : (first e : Stamped) → Follows first e → first.stamp ≤ e.stamp
not-below first e (inl low) = omega arith
not-below first e (inr same) = let equal : first.stamp ≡ e.stamp = same.0 in omega arith

dont-fall-behind : (first : Stamped) (journal : List Stamped) → AllFollow first journal
    → AllByRecursion (λ (e : JournalEntry). first.stamp ≤ e.stamp) (journal_of journal)
dont-fall-behind first [] all = tt
dont-fall-behind first (e ∷ journal) all = (not-below first e all.0, dont-fall-behind first journal all.1)

dont-fall : (journal : List Stamped) → IsInOrder journal → StampsDontFall (journal_of journal)
dont-fall [] order = tt
dont-fall (e ∷ journal) order = (dont-fall-behind e journal order.0, dont-fall journal order.1)

one-seat : (first e : Stamped) → Follows first e → e.stamp ≡ first.stamp → e.seat ≡ first.seat
one-seat first e (inl low) same = absurd (omega arith)
one-seat first e (inr both) same = sym both.1

one-node-behind : (first : Stamped) (journal : List Stamped) → AllFollow first journal
    → AllByRecursion (λ (e : JournalEntry). e.stamp ≡ first.stamp → e.node ≡ first.seat) (journal_of journal)
one-node-behind first [] all = tt
one-node-behind first (e ∷ journal) all = (one-seat first e all.0, one-node-behind first journal all.1)

one-node : (journal : List Stamped) → IsInOrder journal → OneNodeAStamp (journal_of journal)
one-node [] order = tt
one-node (e ∷ journal) order = (one-node-behind e journal order.0, one-node journal order.1)

-- ---- all of it

of-nodes : (script : Script) (journal : List Stamped) → IsOfSeats (node_count script) journal
    → AllByRecursion (λ (e : JournalEntry). IsNode script e.node) (journal_of journal)
of-nodes script [] seats = tt
of-nodes script (e ∷ journal) seats =
    (record { low = seats.0; high = seats.1 }, of-nodes script journal seats.2)

module _ (script : Script) (nodes : ℕ → LoggedNode) (have : HaveMade script nodes) (journal : List Stamped) where
  pub is-journal : ((p : ℕ) → IsNode script p → of_seat p journal ≡ (nodes p).seat.own) → IsInOrder journal
      → IsOfSeats (node_count script) journal → IsJournalOf script have.logs (journal_of journal)
  is-journal own order seats =
      record {
        each = λ p is.
            by-seat p journal
            ∙ ap journal_of (own p is ∙ (have.made p is).own)
            ∙ all-entered p (have.logs p);
        nodes = of-nodes script journal seats;
        order = dont-fall journal order;
        apart = one-node journal order;
      }

-- its entries are the journal's own
pub same-entries : (journal : List Stamped)
    → plain_entries (journal_of journal) ≡ map (λ (e : Stamped). e.entry) journal
same-entries [] = refl
same-entries (e ∷ journal) = ap (λ (es : List Entry). e.entry ∷ es) (same-entries journal)
