-- Stamps are at most places: a turn's stamp is the next one to that of a turn before it, or is 1.
use Rattle.std.proofs.Common.{◌≡◌, ◌≢◌, ◌⊎◌, ℕ, ◌+◌, ◌<◌, ◌≤◌, List, [], ◌∷◌, length, map, max, refl, sym, subst, inl, inr, arith}
use Rattle.std.specs.List.{AllByRecursion, Contains}
use Rattle.std.proofs.lemmas.Bool.{cases_eq, cases_lt}
use Rattle.std.proofs.lemmas.List.Elements.{All-contains, All-contains_itself}
use Rattle.pico_base.specs.declared.script.Script.{Script}
use Rattle.stamp_merge.specs.Merge.{IsBefore, AreInOrder}
use Rattle.stamp_merge.proofs.Filters.{all-map}
use Rattle.world_model.specs.Node.{Node}
use Rattle.world_model.specs.World.{IsNode}
use Rattle.log_laws.specs.Logs.{StampedFrame, Logged, Log, sent_in, taken_in, AreConsistent}
use Rattle.log_laws.specs.Merge.{NodeTurn, turn_item}
use Rattle.log_laws.specs.Journal.{JournalEntry, IsJournalOf}
use Rattle.log_laws.specs.Drawn.{IsStampOfTurn, IsKnownStamp, IsDrawnFrom, AreAtMostPlaces, StampsAreFew}
use Rattle.log_laws.proofs.Lists.{to-all, from-all, all-of-log, left-all, none-below, stamps-of-sent}
use Rattle.log_laws.proofs.ByNode.{IsMergeByNode, by-node}
use Rattle.log_laws.proofs.Journals.{stamps-of-journal}
use Rattle.log_laws.proofs.Whole.{all-from-logs}

-- ---- a known stamp in the merge

-- some turn has this stamp
abbrev Has : ℕ → List NodeTurn → Type 0
Has stamp [] = ⊥
Has stamp (t ∷ turns) = (t.turn.stamp ≡ stamp) ⊎ Has stamp turns

has-or-none : (stamp : ℕ) (turns : List NodeTurn)
    → Has stamp turns ⊎ AllByRecursion (λ (t : NodeTurn). t.turn.stamp ≢ stamp) turns
has-or-none stamp [] = inr tt
has-or-none stamp (t ∷ turns) =
    elim (cases_eq t.turn.stamp stamp) [
      | inl e ↦ inl (inl e)
      | inr d ↦ elim (has-or-none stamp turns) [
        | inl has ↦ inl (inr has)
        | inr none ↦ inr (d, none)
      ]
    ]

has-logged : (script : Script) (logs : ℕ → Log) (turns : List NodeTurn) (stamp : ℕ)
    → IsMergeByNode script logs turns → IsStampOfTurn script logs stamp → Has stamp turns
has-logged script logs turns stamp merge is =
    elim (has-or-none stamp turns) [
      | inl has ↦ has
      | inr none ↦
          let others : AllByRecursion (λ (turn : Logged). turn.stamp ≢ stamp) (logs is.node) =
          subst (AllByRecursion (λ (turn : Logged). turn.stamp ≢ stamp)) (merge.each is.node is.is_node)
          (all-of-log (λ (turn : Logged). turn.stamp ≢ stamp) is.node turns none)
          in let other : is.turn.stamp ≢ stamp =
          All-contains (λ (turn : Logged). turn.stamp ≢ stamp) (logs is.node) is.turn
          (to-all (λ (turn : Logged). turn.stamp ≢ stamp) (logs is.node) others) is.logged
          in absurd (other is.stamped)
    ]

-- ---- places

-- the stamp is the next one to one that is low, or to that of one of these turns
record IsNextTo (place : ℕ) (turns : List NodeTurn) (t : NodeTurn) : Type 0 where
  known : ℕ
  is_known : (known < place) ⊎ Has known turns
  next : t.turn.stamp ≡ known + 1

not-lower : (stamp low : ℕ) (turns : List NodeTurn) → AllByRecursion (λ (u : NodeTurn). low ≤ u.turn.stamp) turns
    → Has stamp turns → low ≤ stamp
not-lower stamp low [] all has = absurd has
not-lower stamp low (u ∷ turns) all (inl e) = let high : low ≤ u.turn.stamp = all.0 in omega arith
not-lower stamp low (u ∷ turns) all (inr has) = not-lower stamp low turns all.1 has

-- the first turn's is low
first-low : (place : ℕ) (t : NodeTurn) (others : List NodeTurn)
    → AllByRecursion (IsBefore (turn_item t)) (map turn_item others) → IsNextTo place (t ∷ others) t
    → t.turn.stamp ≤ place
first-low place t turns before is =
    let next : t.turn.stamp ≡ is.known + 1 = is.next
    in elim is.is_known [
      | inl low ↦ omega arith
      | inr has ↦
          let same : t.turn.stamp ≤ t.turn.stamp = omega arith
          in let high : t.turn.stamp ≤ is.known =
          not-lower is.known t.turn.stamp (t ∷ turns) (same, none-below t turns before)
          has
          in absurd (omega arith)
    ]

-- so it counts as low behind it
next-behind : (place : ℕ) (t : NodeTurn) (turns : List NodeTurn) → t.turn.stamp ≤ place → (u : NodeTurn)
    → IsNextTo place (t ∷ turns) u → IsNextTo (place + 1) turns u
next-behind place t turns low u is =
    record {
      known = is.known;
      is_known = elim is.is_known [
        | inl below ↦ inl (omega arith)
        | inr has ↦ elim has [
          | inl e ↦ inl (let same : t.turn.stamp ≡ is.known = e in omega arith)
          | inr later ↦ inr later
        ]
      ];
      next = is.next;
    }

at-most-places : (place : ℕ) (turns : List NodeTurn) → AreInOrder (map turn_item turns)
    → AllByRecursion (IsNextTo place turns) turns → AreAtMostPlaces place turns
at-most-places place [] order next = tt
at-most-places place (t ∷ turns) order next =
    let low : t.turn.stamp ≤ place = first-low place t turns order.0 next.0
    in (
      low,
      at-most-places (place + 1) turns order.1
          (all-map (λ (u : NodeTurn) is. next-behind place t turns low u is) turns next.1),
    )

-- places are at most as many as turns
low-places : (place high : ℕ) (turns : List NodeTurn) → place + length turns ≤ high + 1 → AreAtMostPlaces place turns
    → AllByRecursion (λ (t : NodeTurn). t.turn.stamp ≤ high) turns
low-places place high [] fits h = tt
low-places place high (t ∷ turns) fits h =
    let low : t.turn.stamp ≤ place = h.0 in (omega arith, low-places (place + 1) high turns (omega arith) h.1)

drawn-next : (script : Script) (logs : ℕ → Log) (turns : List NodeTurn) → IsMergeByNode script logs turns
    → (t : NodeTurn) → IsDrawnFrom script logs t.turn → IsNextTo 1 turns t
drawn-next script logs turns merge t is =
    record {
      known = is.known;
      is_known = elim is.is_known [
        | inl none ↦ inl (let zero : is.known ≡ 0 = none in omega arith)
        | inr of ↦ inr (has-logged script logs turns is.known merge of)
      ];
      next = is.next;
    }

-- there are as few stamps as turns
pub stamps_are_few_lemma : StampsAreFew
stamps_are_few_lemma script logs turns merge drawn =
    let nodes : IsMergeByNode script logs turns = by-node script logs turns merge
    in let all_drawn : AllByRecursion (λ (t : NodeTurn). IsDrawnFrom script logs t.turn) turns =
    all-from-logs (IsDrawnFrom script logs) script turns nodes.nodes (λ p is.
    subst (AllByRecursion (IsDrawnFrom script logs)) (sym (nodes.each p is)) (drawn p is))
    in let places : AreAtMostPlaces 1 turns =
    at-most-places 1 turns nodes.in_order
    (all-map (λ (t : NodeTurn) is. drawn-next script logs turns nodes t is) turns all_drawn)
    in let few : AllByRecursion (λ (t : NodeTurn). t.turn.stamp ≤ length turns) turns =
    low-places 1 (length turns) turns (omega arith) places
    in record {
      places = places;
      merged = few;
      logged = λ p is.
          subst (AllByRecursion (λ (turn : Logged). turn.stamp ≤ length turns)) (nodes.each p is)
          (all-of-log (λ (turn : Logged). turn.stamp ≤ length turns) p turns few);
    }

-- ---- which stamps are known

-- the larger of two that are known
pub known-larger : (script : Script) (logs : ℕ → Log) (a b : ℕ) → IsKnownStamp script logs a
    → IsKnownStamp script logs b → IsKnownStamp script logs (max a b)
known-larger script logs a b a_is b_is =
    elim (cases_lt a b) [
      | inl low ↦ let same : b ≡ max a b = omega arith in subst (IsKnownStamp script logs) same b_is
      | inr high ↦ let same : a ≡ max a b = omega arith in subst (IsKnownStamp script logs) same a_is
    ]

-- those of turns
pub known-turns : (script : Script) (logs : ℕ → Log) (p : ℕ) → IsNode script p
    → AllByRecursion (λ (turn : Logged). IsStampOfTurn script logs turn.stamp) (logs p)
known-turns script logs p is =
    all-map (λ (turn : Logged) here.
    record { node = p; turn = turn; is_node = is; logged = here; stamped = refl })
    (logs p) (from-all (Contains (logs p)) (logs p) (All-contains_itself (logs p)))

-- of frames that were sent,
pub known-sent : (script : Script) (logs : ℕ → Log) (to from : ℕ) → IsNode script from
    → AllByRecursion (λ (f : StampedFrame). IsStampOfTurn script logs f.stamp) (sent_in to (logs from))
known-sent script logs to from is =
    stamps-of-sent (IsStampOfTurn script logs) to (logs from) (known-turns script logs from is)

-- that were taken,
pub known-taken : (script : Script) (logs : ℕ → Log) (last : ℕ → Node) (untaken : ℕ → ℕ → List StampedFrame)
    (to from : ℕ) → AreConsistent script logs last untaken → IsNode script to → IsNode script from
    → AllByRecursion (λ (f : StampedFrame). IsStampOfTurn script logs f.stamp) (taken_in from (logs to))
known-taken script logs last untaken to from consistent is_to is_from =
    left-all (λ (f : StampedFrame). IsStampOfTurn script logs f.stamp) (taken_in from (logs to)) (untaken to from)
    (subst (AllByRecursion (λ (f : StampedFrame). IsStampOfTurn script logs f.stamp))
    (sym (consistent.streams to from is_to is_from)) (known-sent script logs to from is_from))

-- and of entries of the journal
pub known-entered : (script : Script) (logs : ℕ → Log) (journal : List JournalEntry) → IsJournalOf script logs journal
    → AllByRecursion (λ (e : JournalEntry). IsStampOfTurn script logs e.stamp) journal
known-entered script logs journal is =
    stamps-of-journal (IsStampOfTurn script logs) script logs journal is (known-turns script logs)
