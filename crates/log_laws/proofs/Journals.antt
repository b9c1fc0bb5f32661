-- A journal in which stamps don't fall, and one stamp is of one node, is settled by each node's entries in it.
use Rattle.std.proofs.Common.{◌≡◌, ◌≢◌, ℕ, ◌≤◌, List, [], ◌∷◌, ◌++◌, map, nat_eq, refl, ap, sym, subst, ◌∙◌, inl, inr, arith, append_assoc}
use Rattle.std.specs.List.{flat_map, AllByRecursion}
use Rattle.std.proofs.lemmas.Bool.{cases_eq, eq-eqb, ne_eqb}
use Rattle.pico_base.specs.declared.script.Script.{Script}
use Rattle.pico_base.specs.declared.reply.Entry.{Entry}
use Rattle.world_model.specs.World.{IsNode}
use Rattle.log_laws.specs.Logs.{Logged, Log}
use Rattle.stamp_merge.specs.Merge.{IsBefore, AreInOrder}
use Rattle.log_laws.specs.Merge.{NodeTurn, turn_item, entries_of}
use Rattle.log_laws.specs.Journal.{JournalEntry, journal_entry, entered, entry_if, entries_by, StampsDontFall, OneNodeAStamp, IsJournalOf, plain_entries}
use Rattle.log_laws.specs.Laws.{OneJournal}
use Rattle.log_laws.proofs.Lists.{map-append, append-all, log_of, log-of-own, log-of-other, not-below}
use Rattle.log_laws.proofs.ByNode.{IsMergeByNode, by-node}

-- ---- one node's entries

-- the first entry is the node's
pub own-entry : (e : JournalEntry) (es : List JournalEntry) (p : ℕ) → e.node ≡ p
    → entries_by p (e ∷ es) ≡ e ∷ entries_by p es
own-entry e es p h = ap (λ b. entry_if b e ++ entries_by p es) (eq-eqb e.node p h)

-- it is another's
pub others-entry : (e : JournalEntry) (es : List JournalEntry) (p : ℕ) → e.node ≢ p
    → entries_by p (e ∷ es) ≡ entries_by p es
others-entry e es p h = ap (λ b. entry_if b e ++ entries_by p es) (ne_eqb e.node p h)

-- a node's entries of two journals behind each other
pub by-append : (p : ℕ) (xs ys : List JournalEntry) → entries_by p (xs ++ ys) ≡ entries_by p xs ++ entries_by p ys
by-append p [] ys = refl
by-append p (x ∷ xs) ys =
    ap (λ (zs : List JournalEntry). entry_if (nat_eq x.node p) x ++ zs) (by-append p xs ys)
    ∙ sym (append_assoc (entry_if (nat_eq x.node p) x) (entries_by p xs) (entries_by p ys))

-- what holds of all entries holds of one node's first
first-of : (P : JournalEntry → Type 0) (p : ℕ) (xs : List JournalEntry) (y : JournalEntry) (rest : List JournalEntry)
    → entries_by p xs ≡ y ∷ rest → AllByRecursion P xs → P y
first-of P p [] y rest h all = absurd (cc)
first-of P p (x ∷ xs) y rest h all =
    elim (cases_eq x.node p) [
      | inl e ↦
          let there : x ∷ entries_by p xs ≡ y ∷ rest = sym (own-entry x xs p e) ∙ h
          in let same : x ≡ y = cc
          in subst P same all.0
      | inr d ↦ first-of P p xs y rest (sym (others-entry x xs p d) ∙ h) all.1
    ]

-- ---- two journals with the same entries of each node

abbrev AgreeBy : Script → List JournalEntry → List JournalEntry → Type 0
AgreeBy script xs ys = (p : ℕ) → IsNode script p → entries_by p xs ≡ entries_by p ys

-- where the first entries are of one node they are the same, and so are the others node by node
rest-agree : (script : Script) (x y : JournalEntry) (xs ys : List JournalEntry) → x.node ≡ y.node
    → AgreeBy script (x ∷ xs) (y ∷ ys) → AgreeBy script xs ys
rest-agree script x y xs ys same agree p is =
    elim (cases_eq x.node p) [
      | inl e ↦
          let whole : x ∷ entries_by p xs ≡ y ∷ entries_by p ys =
          sym (own-entry x xs p e) ∙ agree p is ∙ own-entry y ys p (sym same ∙ e)
          in cc
      | inr d ↦
          sym (others-entry x xs p d) ∙ agree p is ∙ others-entry y ys p (λ e. d (same ∙ e))
    ]

-- the first entries are of one node
same-node : (script : Script) (x y : JournalEntry) (xs ys : List JournalEntry) → IsNode script x.node
    → IsNode script y.node → StampsDontFall (x ∷ xs) → OneNodeAStamp (x ∷ xs) → StampsDontFall (y ∷ ys)
    → AgreeBy script (x ∷ xs) (y ∷ ys) → x.node ≡ y.node
same-node script x y xs ys at_x at_y order apart order' agree =
    elim (cases_eq x.node y.node) [
      | inl e ↦ e
      | inr d ↦
          let x_in : entries_by x.node ys ≡ x ∷ entries_by x.node xs =
          sym (others-entry y ys x.node (λ e. d (sym e))) ∙ sym (agree x.node at_x) ∙ own-entry x xs x.node refl
          in let y_in : entries_by y.node xs ≡ y ∷ entries_by y.node ys =
          sym (others-entry x xs y.node d) ∙ agree y.node at_y ∙ own-entry y ys y.node refl
          in let low : y.stamp ≤ x.stamp =
          first-of (λ (e : JournalEntry). y.stamp ≤ e.stamp) x.node ys x (entries_by x.node xs) x_in order'.0
          in let high : x.stamp ≤ y.stamp =
          first-of (λ (e : JournalEntry). x.stamp ≤ e.stamp) y.node xs y (entries_by y.node ys) y_in order.0
          in let one : y.stamp ≡ x.stamp → y.node ≡ x.node =
          first-of (λ (e : JournalEntry). e.stamp ≡ x.stamp → e.node ≡ x.node) y.node xs y (entries_by y.node ys) y_in
          apart.0
          in sym (one (omega arith))
    ]

same-first : (script : Script) (x y : JournalEntry) (xs ys : List JournalEntry) → IsNode script x.node → x.node ≡ y.node
    → AgreeBy script (x ∷ xs) (y ∷ ys) → x ≡ y
same-first script x y xs ys at_x same agree =
    let whole : x ∷ entries_by x.node xs ≡ y ∷ entries_by x.node ys =
    sym (own-entry x xs x.node refl) ∙ agree x.node at_x ∙ own-entry y ys x.node (sym same)
    in cc

one-order : (script : Script) (xs ys : List JournalEntry) → AllByRecursion (λ e. IsNode script e.node) xs
    → AllByRecursion (λ e. IsNode script e.node) ys → StampsDontFall xs → OneNodeAStamp xs → StampsDontFall ys
    → AgreeBy script xs ys → xs ≡ ys
one-order script [] [] at_xs at_ys order apart order' agree = refl
one-order script [] (y ∷ ys) at_xs at_ys order apart order' agree =
    let none : [] ≡ y ∷ entries_by y.node ys = agree y.node at_ys.0 ∙ own-entry y ys y.node refl in absurd (cc)
one-order script (x ∷ xs) [] at_xs at_ys order apart order' agree =
    let none : x ∷ entries_by x.node xs ≡ [] = sym (own-entry x xs x.node refl) ∙ agree x.node at_xs.0 in absurd (cc)
one-order script (x ∷ xs) (y ∷ ys) at_xs at_ys order apart order' agree =
    let same = same-node script x y xs ys at_xs.0 at_ys.0 order apart order' agree
    in let first : x ≡ y = same-first script x y xs ys at_xs.0 same agree
    in let rest : xs ≡ ys =
    one-order script xs ys at_xs.1 at_ys.1 order.1 apart.1 order'.1 (rest-agree script x y xs ys same agree)
    in ap (λ (e : JournalEntry). e ∷ xs) first ∙ ap (λ (es : List JournalEntry). y ∷ es) rest

-- ---- the entries of a merge

abbrev all_entered : List NodeTurn → List JournalEntry
all_entered turns = flat_map (λ t. entered t.node t.turn) turns

-- what a turn entered has its stamp
pub entered-stamps : (node stamp : ℕ) (es : List Entry)
    → AllByRecursion (λ (e : JournalEntry). e.stamp ≡ stamp) (map (journal_entry node stamp) es)
entered-stamps node stamp [] = tt
entered-stamps node stamp (e ∷ es) = (refl, entered-stamps node stamp es)

-- and its node
pub entered-nodes : (script : Script) (node stamp : ℕ) (es : List Entry) → IsNode script node
    → AllByRecursion (λ (e : JournalEntry). IsNode script e.node) (map (journal_entry node stamp) es)
entered-nodes script node stamp [] h = tt
entered-nodes script node stamp (e ∷ es) h = (h, entered-nodes script node stamp es h)

all-nodes : (script : Script) (turns : List NodeTurn) → AllByRecursion (λ t. IsNode script t.node) turns
    → AllByRecursion (λ (e : JournalEntry). IsNode script e.node) (all_entered turns)
all-nodes script [] h = tt
all-nodes script (t ∷ turns) h =
    append-all (λ (e : JournalEntry). IsNode script e.node) (entered t.node t.turn) (all_entered turns)
    (entered-nodes script t.node t.turn.stamp t.turn.step.entries h.0) (all-nodes script turns h.1)

same-above : (stamp : ℕ) (x : JournalEntry) (xs ys : List JournalEntry) → x.stamp ≡ stamp
    → AllByRecursion (λ (e : JournalEntry). e.stamp ≡ stamp) xs
    → AllByRecursion (λ (e : JournalEntry). stamp ≤ e.stamp) ys
    → AllByRecursion (λ (e : JournalEntry). x.stamp ≤ e.stamp) (xs ++ ys)
same-above stamp x [] [] h same above = tt
same-above stamp x [] (y ∷ ys) h same above =
    (let high : stamp ≤ y.stamp = above.0 in omega arith, same-above stamp x [] ys h tt above.1)
same-above stamp x (z ∷ xs) ys h same above =
    (let equal : z.stamp ≡ stamp = same.0 in omega arith, same-above stamp x xs ys h same.1 above)

dont-fall-append : (stamp : ℕ) (xs ys : List JournalEntry) → AllByRecursion (λ (e : JournalEntry). e.stamp ≡ stamp) xs
    → AllByRecursion (λ (e : JournalEntry). stamp ≤ e.stamp) ys → StampsDontFall ys → StampsDontFall (xs ++ ys)
dont-fall-append stamp [] ys same above order = order
dont-fall-append stamp (x ∷ xs) ys same above order =
    (same-above stamp x xs ys same.0 same.1 above, dont-fall-append stamp xs ys same.1 above order)

high-entries : (low node stamp : ℕ) (es : List Entry) → low ≤ stamp
    → AllByRecursion (λ (e : JournalEntry). low ≤ e.stamp) (map (journal_entry node stamp) es)
high-entries low node stamp [] h = tt
high-entries low node stamp (e ∷ es) h = (h, high-entries low node stamp es h)

all-above : (t : NodeTurn) (turns : List NodeTurn) → AllByRecursion (IsBefore (turn_item t)) (map turn_item turns)
    → AllByRecursion (λ (e : JournalEntry). t.turn.stamp ≤ e.stamp) (all_entered turns)
all-above t [] h = tt
all-above t (u ∷ turns) h =
    append-all (λ (e : JournalEntry). t.turn.stamp ≤ e.stamp) (entered u.node u.turn) (all_entered turns)
    (high-entries t.turn.stamp u.node u.turn.stamp u.turn.step.entries (not-below t u h.0)) (all-above t turns h.1)

all-dont_fall : (turns : List NodeTurn) → AreInOrder (map turn_item turns) → StampsDontFall (all_entered turns)
all-dont_fall [] h = tt
all-dont_fall (t ∷ turns) h =
    dont-fall-append t.turn.stamp (entered t.node t.turn) (all_entered turns)
    (entered-stamps t.node t.turn.stamp t.turn.step.entries) (all-above t turns h.0) (all-dont_fall turns h.1)

-- what holds of each node's entries holds of all
pub all-by-nodes : (P : JournalEntry → Type 0) (script : Script) (journal : List JournalEntry)
    → AllByRecursion (λ e. IsNode script e.node) journal
    → ((p : ℕ) → IsNode script p → AllByRecursion P (entries_by p journal)) → AllByRecursion P journal
all-by-nodes P script [] at h = tt
all-by-nodes P script (e ∷ es) at h =
    let own : AllByRecursion P (e ∷ entries_by e.node es) =
    subst (AllByRecursion P) (own-entry e es e.node refl) (h e.node at.0)
    in (own.0, all-by-nodes P script es at.1 (λ p is. behind-first p (h p is)))
  where
    behind-first : (p : ℕ) → AllByRecursion P (entries_by p (e ∷ es)) → AllByRecursion P (entries_by p es)
    behind-first p all =
        elim (cases_eq e.node p) [
          | inl s ↦ (subst (AllByRecursion P) (own-entry e es p s) all).1
          | inr d ↦ subst (AllByRecursion P) (others-entry e es p d) all
        ]

-- what holds of the stamps of turns holds of those of their entries
pub stamps-of-entered : (P : ℕ → Type 0) (p : ℕ) (log : Log) → AllByRecursion (λ (turn : Logged). P turn.stamp) log
    → AllByRecursion (λ (e : JournalEntry). P e.stamp) (flat_map (entered p) log)
stamps-of-entered P p [] h = tt
stamps-of-entered P p (turn ∷ log) h =
    append-all (λ (e : JournalEntry). P e.stamp) (entered p turn) (flat_map (entered p) log)
    (of-entries turn.step.entries) (stamps-of-entered P p log h.1)
  where
    of-entries : (es : List Entry)
        → AllByRecursion (λ (e : JournalEntry). P e.stamp) (map (journal_entry p turn.stamp) es)
    of-entries [] = tt
    of-entries (e ∷ es) = (h.0, of-entries es)

-- and so of those of a journal
pub stamps-of-journal : (P : ℕ → Type 0) (script : Script) (logs : ℕ → Log) (journal : List JournalEntry)
    → IsJournalOf script logs journal
    → ((p : ℕ) → IsNode script p → AllByRecursion (λ (turn : Logged). P turn.stamp) (logs p))
    → AllByRecursion (λ (e : JournalEntry). P e.stamp) journal
stamps-of-journal P script logs journal is h =
    all-by-nodes (λ (e : JournalEntry). P e.stamp) script journal is.nodes (λ p at.
    subst (AllByRecursion (λ (e : JournalEntry). P e.stamp)) (sym (is.each p at))
    (stamps-of-entered P p (logs p) (h p at)))

-- ---- node by node the merge's entries are those of the logs

-- a node's own entries are all kept
pub own-all : (p stamp : ℕ) (es : List Entry)
    → entries_by p (map (journal_entry p stamp) es) ≡ map (journal_entry p stamp) es
own-all p stamp [] = refl
own-all p stamp (e ∷ es) =
    own-entry (journal_entry p stamp e) (map (journal_entry p stamp) es) p refl
    ∙ ap (λ (xs : List JournalEntry). journal_entry p stamp e ∷ xs) (own-all p stamp es)

-- and none of another node's
pub others-none : (node p stamp : ℕ) (es : List Entry) → node ≢ p
    → entries_by p (map (journal_entry node stamp) es) ≡ []
others-none node p stamp [] h = refl
others-none node p stamp (e ∷ es) h =
    others-entry (journal_entry node stamp e) (map (journal_entry node stamp) es) p h ∙ others-none node p stamp es h

abbrev entered_in : ℕ → Log → List JournalEntry
entered_in p log = flat_map (entered p) log

by-logs : (p : ℕ) (turns : List NodeTurn) → entries_by p (all_entered turns) ≡ entered_in p (log_of p turns)
by-logs p [] = refl
by-logs p (t ∷ turns) =
    by-append p (entered t.node t.turn) (all_entered turns)
    ∙ elim (cases_eq t.node p) [
      | inl e ↦
          ap (λ (i : ℕ). entries_by p (entered i t.turn) ++ entries_by p (all_entered turns)) e
          ∙ ap (λ (xs : List JournalEntry). xs ++ entries_by p (all_entered turns))
          (own-all p t.turn.stamp t.turn.step.entries)
          ∙ ap (λ (xs : List JournalEntry). entered p t.turn ++ xs) (by-logs p turns)
          ∙ sym (ap (entered_in p) (log-of-own t turns p e))
      | inr d ↦
          ap (λ (xs : List JournalEntry). xs ++ entries_by p (all_entered turns))
          (others-none t.node p t.turn.stamp t.turn.step.entries d)
          ∙ by-logs p turns
          ∙ sym (ap (entered_in p) (log-of-other t turns p d))
    ]

plain-map : (node stamp : ℕ) (es : List Entry) → plain_entries (map (journal_entry node stamp) es) ≡ es
plain-map node stamp [] = refl
plain-map node stamp (e ∷ es) = ap (λ (xs : List Entry). e ∷ xs) (plain-map node stamp es)

plain-all : (turns : List NodeTurn) → plain_entries (all_entered turns) ≡ entries_of turns
plain-all [] = refl
plain-all (t ∷ turns) =
    map-append (λ (e : JournalEntry). e.entry) (entered t.node t.turn) (all_entered turns)
    ∙ ap (λ (xs : List Entry). xs ++ plain_entries (all_entered turns))
    (plain-map t.node t.turn.stamp t.turn.step.entries)
    ∙ ap (λ (xs : List Entry). t.turn.step.entries ++ xs) (plain-all turns)

-- a journal of the logs has the entries of their merge in its order
pub one_journal_lemma : OneJournal
one_journal_lemma script logs turns journal merge is =
    let nodes : IsMergeByNode script logs turns = by-node script logs turns merge
    in let same : journal ≡ all_entered turns =
    one-order script journal (all_entered turns) is.nodes (all-nodes script turns nodes.nodes) is.order is.apart
    (all-dont_fall turns nodes.in_order)
    (λ p at. is.each p at ∙ ap (entered_in p) (sym (nodes.each p at)) ∙ sym (by-logs p turns))
    in ap plain_entries same ∙ plain-all turns
