-- No stamp is above the number of turns: each is one more than a stamp that its node knew of.
use Rattle.std.proofs.Common.{◌≡◌, ℕ, ◌+◌, ◌<◌, ◌≤◌, List, [], ◌∷◌, ◌++◌, length, refl, ap, sym, subst, ◌∙◌, inl, inr, arith}
use Rattle.std.specs.List.{AllByRecursion, Contains}
use Rattle.std.proofs.lemmas.Bool.{eq-eqb}
use Rattle.std.proofs.lemmas.List.Elements.{Contains-append_left}
use Rattle.pico_base.specs.declared.script.Script.{Script}
use Rattle.stamp_merge.proofs.Filters.{all-map}
use Rattle.world_model.specs.World.{IsNode}
use Rattle.journal_core.specs.declared.stamped.Stamped.{Stamped}
use Rattle.journal_core.specs.Journal.{BeginsWith}
use Rattle.log_laws.specs.Logs.{StampedFrame, Input, Takes, Logged, Log, IsTakenLater, GoesBetween, taken_if, takes_of, taken_in, AreConsistent}
use Rattle.log_laws.specs.Merge.{NodeTurn, IsMerge}
use Rattle.log_laws.specs.Journal.{JournalEntry, IsJournalOf}
use Rattle.log_laws.specs.Drawn.{IsStampOfTurn, IsKnownStamp, IsDrawnFrom, AreDrawn, HasFewStamps}
use Rattle.log_laws.specs.Follows.{AreBelow}
use Rattle.log_laws.proofs.Drawn.{stamps_are_few_lemma, known-taken, known-entered}
use Rattle.log_laws.proofs.Lists.{right-all}
use Rattle.log_model.specs.Views.{LoggedNode}
use Rattle.log_model.specs.Logged.{IsFloor, FromNothing, FromTurn, FromFrame, FromEntry, IsDrawn}
use Rattle.thread_laws.specs.Joined.{entry_of_node, journal_of}
use Rattle.thread_laws.proofs.Lists.{first-or-later, each-in, at-one, in-map}
use Rattle.thread_laws.proofs.Nodes.{HaveMade}

-- ---- a frame that a turn took

takes-it : (sender : ℕ) (taken : StampedFrame) (input : Input) → input ≡ Takes sender taken
    → takes_of sender input ≡ taken ∷ []
takes-it sender taken input is =
    ap (takes_of sender) is ∙ ap (λ b. taken_if b taken) (eq-eqb sender sender refl)

-- what holds of all that a log took from a node holds of what one of its turns did
at-taken : (P : StampedFrame → Type 0) (sender : ℕ) (taken : StampedFrame) (log : Log) (turn : Logged)
    → Contains log turn → turn.input ≡ Takes sender taken → AllByRecursion P (taken_in sender log) → P taken
at-taken P sender taken [] turn there is all = absurd (omega (arith, there.1))
at-taken P sender taken (first ∷ log) turn there is all =
    elim (first-or-later first log turn there) [
      | inl e ↦
          let takes = takes-it sender taken first.input (ap (λ (t : Logged). t.input) e ∙ is)
          in let own : AllByRecursion P (taken ∷ taken_in sender log) =
          subst (λ (fs : List StampedFrame). AllByRecursion P (fs ++ taken_in sender log)) takes all
          in own.0
      | inr later ↦
          at-taken P sender taken log turn later is
          (right-all P (takes_of sender first.input) (taken_in sender log) all)
    ]

module _ (script : Script) (nodes : ℕ → LoggedNode) (have : HaveMade script nodes) (journal : List Stamped)
    (is_journal : IsJournalOf script have.logs (journal_of journal))
    (seen : (p : ℕ) → IsNode script p → BeginsWith journal (nodes p).seat.seen) where
  -- ---- what a node knew of

  known-entry : (p : ℕ) → IsNode script p → (e : Stamped) → Contains (nodes p).seat.seen e
      → IsStampOfTurn script have.logs e.stamp
  known-entry p is e there =
      let begins = seen p is
      in at-one (λ (f : JournalEntry). IsStampOfTurn script have.logs f.stamp) (journal_of journal) (entry_of_node e)
      (known-entered script have.logs (journal_of journal) is_journal)
      (in-map entry_of_node journal e
      (subst (λ (es : List Stamped). Contains es e) (sym begins.1)
      (Contains-append_left (nodes p).seat.seen begins.0 e there)))

  -- it is known, where that of the frame is
  pub known-floor : (p : ℕ) → IsNode script p → (input : Input) (floor : ℕ)
      → IsFloor (have.logs p) input (nodes p).seat.seen floor
      → ((sender : ℕ) (taken : StampedFrame) → input ≡ Takes sender taken
      → IsStampOfTurn script have.logs taken.stamp)
      → IsKnownStamp script have.logs floor
  known-floor p is input floor (FromNothing none) frame = inl none
  known-floor p is input floor (FromTurn turn there same) frame =
      inr (record { node = p; turn = turn; is_node = is; logged = there; stamped = same })
  known-floor p is input floor (FromFrame sender taken of same) frame =
      subst (IsKnownStamp script have.logs) same (inr (frame sender taken of))
  known-floor p is input floor (FromEntry e there same) frame =
      subst (IsKnownStamp script have.logs) same (inr (known-entry p is e there))

  -- ---- all stamps

  module _ (untaken : ℕ → ℕ → List StampedFrame) (consistent : AreConsistent script have.logs have.last untaken) where
    known-input : (p : ℕ) → IsNode script p → (turn : Logged) → Contains (have.logs p) turn → (sender : ℕ)
        (taken : StampedFrame) → turn.input ≡ Takes sender taken → IsStampOfTurn script have.logs taken.stamp
    known-input p is turn there sender taken takes =
        let goes : GoesBetween script turn =
        at-one (GoesBetween script) (have.logs p) turn (have.made p is).between there
        in let from = subst (IsTakenLater script turn.stamp) takes goes.taken
        in at-taken (λ (f : StampedFrame). IsStampOfTurn script have.logs f.stamp) sender taken (have.logs p) turn
        there takes
        (known-taken script have.logs have.last untaken p sender consistent is from.0)

    drawn-from : (p : ℕ) → IsNode script p → (turn : Logged) → Contains (have.logs p) turn
        → IsDrawnFrom script have.logs turn
    drawn-from p is turn there =
        let drawn : IsDrawn (have.logs p) (nodes p).seat.seen turn =
        at-one (IsDrawn (have.logs p) (nodes p).seat.seen) (have.logs p) turn (have.made p is).drawn there
        in record {
          known = drawn.floor;
          is_known = known-floor p is turn.input drawn.floor drawn.from (known-input p is turn there);
          next = drawn.is;
        }

    are-drawn : AreDrawn script have.logs
    are-drawn p is = each-in (IsDrawnFrom script have.logs) (have.logs p) (drawn-from p is)

    pub few-stamps : (turns : List NodeTurn) → IsMerge script have.logs turns → HasFewStamps script have.logs turns
    few-stamps turns merge = stamps_are_few_lemma script have.logs turns merge are-drawn

-- ---- so few

-- a stamp that is known is no higher than the number of turns
pub low-stamp : (script : Script) (logs : ℕ → Log) (turns : List NodeTurn) → HasFewStamps script logs turns
    → (stamp : ℕ) → IsKnownStamp script logs stamp → stamp ≤ length turns
low-stamp script logs turns few stamp (inl none) = omega arith
low-stamp script logs turns few stamp (inr of) =
    let low : of.turn.stamp ≤ length turns =
    at-one (λ (turn : Logged). turn.stamp ≤ length turns) (logs of.node) of.turn (few.logged of.node of.is_node)
    of.logged
    in let same : of.turn.stamp ≡ stamp = of.stamped
    in omega arith

-- all stamps are below the number of turns and one
pub all-below : (script : Script) (logs : ℕ → Log) (turns : List NodeTurn) → HasFewStamps script logs turns
    → AreBelow (length turns + 1) turns
all-below script logs turns few = all-map (λ (t : NodeTurn) low. below-next t.turn.stamp low) turns few.merged
  where
    below-next : (stamp : ℕ) → stamp ≤ length turns → stamp < length turns + 1
    below-next stamp low = omega arith
