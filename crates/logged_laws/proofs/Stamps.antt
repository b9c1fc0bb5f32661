-- The stamp of an event, and what drawing it leaves of the seat.
use Rattle.std.proofs.Common.{◌≡◌, ◌⊎◌, ℕ, ◌+◌, ◌-◌, ◌^◌, ◌≤◌, List, [], ◌∷◌, ◌++◌, max, refl, ap, sym, subst, ◌∙◌, inl, inr, append_assoc, append-nil, arith}
use Rattle.std.specs.List.{Contains}
use Rattle.std.proofs.lemmas.List.Elements.{Contains-append_left}
use Rattle.pico_base.specs.declared.reply.Entry.{Entry}
use Rattle.journal_core.specs.declared.stamped.Stamped.{Stamped}
use Rattle.journal_core.specs.Journal.{stamp_after, last_stamp, under, BeginsWith}
use Rattle.journal_core.specs.Seated.{Seated}
use Rattle.log_model.specs.Turns.{IsStamped, HasNoStamp}
use Rattle.logged_laws.proofs.Lists.{contains-first, contains-later}

-- ---- the last stamp of a journal

-- it is 0, or that of an entry
abbrev pub IsStampSeen : List Stamped → ℕ → Type 0
IsStampSeen seen stamp = (stamp ≡ 0) ⊎ ((e : Stamped) × Contains seen e × (e.stamp ≡ stamp))

abbrev IsAfter : ℕ → List Stamped → Type 0
IsAfter last es = (stamp_after last es ≡ last) ⊎ ((e : Stamped) × Contains es e × (e.stamp ≡ stamp_after last es))

stamp-after-is : (last : ℕ) (es : List Stamped) → IsAfter last es
stamp-after-is last [] = inl refl
stamp-after-is last (e ∷ es) =
    elim (stamp-after-is e.stamp es) [
      | inl same ↦ inr (e, contains-first e es, sym same)
      | inr has ↦ inr (has.0, contains-later e es has.0 has.1, has.2)
    ]

-- also where the journal is longer by now
last-stamp-seen : (found more : List Stamped) → IsStampSeen (found ++ more) (last_stamp found)
last-stamp-seen found more =
    elim (stamp-after-is 0 found) [
      | inl none ↦ inl none
      | inr has ↦ inr (has.0, Contains-append_left found more has.0 has.1, has.2)
    ]

-- ---- where a stamp comes from

-- it is the floor, or the larger of the floor and a stamp that was seen
pub data IsLarger (floor : ℕ) (seen : List Stamped) (larger : ℕ) : Type 0 where
  IsFloorItself : larger ≡ floor → IsLarger floor seen larger
  IsLargerOf : (stamp : ℕ) → IsStampSeen seen stamp → larger ≡ max floor stamp → IsLarger floor seen larger

-- it is no lower than the floor
pub floor-within : (floor : ℕ) (seen : List Stamped) (larger : ℕ) → IsLarger floor seen larger → floor ≤ larger
floor-within floor seen larger (IsFloorItself is) = omega arith
floor-within floor seen larger (IsLargerOf stamp of is) = omega arith

-- ---- a stamp that was drawn

-- the seat has appended the entries under it, and has seen the journal that it saw before, or a longer one
pub record IsDrawnStamp (floor : ℕ) (entries : List Entry) (old new : Seated) (stamp : ℕ) : Type 0 where
  pub larger : ℕ
  pub from : IsLarger floor new.seen larger
  pub is : stamp ≡ larger + 1
  pub own : new.own ≡ old.own ++ under stamp old.number entries
  pub seen : BeginsWith new.seen old.seen

-- so it is where a turn has such a stamp
pub drawn-stamp : (floor : ℕ) (entries : List Entry) (old new : Seated) (stamp : ℕ)
    → IsStamped floor entries old new stamp → IsDrawnStamp floor entries old new stamp
drawn-stamp floor [] old new stamp is =
    record {
      larger = floor;
      from = IsFloorItself refl;
      is = is.0.1;
      own = ap (λ (s : Seated). s.own) is.1 ∙ sym (append-nil old.own);
      seen = ([], ap (λ (s : Seated). s.seen) is.1 ∙ sym (append-nil old.seen));
    }
drawn-stamp floor (e ∷ es) old new stamp is =
    let entered : List Stamped = under stamp old.number (e ∷ es)
    in record {
      larger = max floor (last_stamp is.found);
      from = subst (λ (seen : List Stamped). IsLarger floor seen (max floor (last_stamp is.found))) (sym is.seen)
          (IsLargerOf (last_stamp is.found) (last-stamp-seen is.found entered) refl);
      is = is.stamped.1;
      own = is.own;
      seen = longer old.seen is.found new.seen is.begins entered is.seen;
    }
  where
    longer : (seen found now : List Stamped) → BeginsWith found seen → (more : List Stamped) → now ≡ found ++ more
        → BeginsWith now seen
    longer seen found now begins more is =
        (begins.0 ++ more, is ∙ ap (λ (es : List Stamped). es ++ more) begins.1 ∙ append_assoc seen begins.0 more)

-- ---- no stamp that is left

-- Such a larger number is too high. The seat has appended nothing.
pub record IsOutOfStamps (floor : ℕ) (old new : Seated) : Type 0 where
  pub larger : ℕ
  pub from : IsLarger floor new.seen larger
  pub high : 2 ^ 63 - 1 ≤ larger
  pub own : new.own ≡ old.own
  pub seen : BeginsWith new.seen old.seen

-- so it is where a turn has no stamp
pub out-of-stamps : (floor : ℕ) (entries : List Entry) (old new : Seated) (last : ℕ)
    → HasNoStamp floor entries old new last → IsOutOfStamps floor old new
out-of-stamps floor [] old new last is =
    record {
      larger = floor;
      from = IsFloorItself refl;
      high = is.0;
      own = ap (λ (s : Seated). s.own) is.2;
      seen = ([], ap (λ (s : Seated). s.seen) is.2 ∙ sym (append-nil old.seen));
    }
out-of-stamps floor (e ∷ es) old new last is =
    record {
      larger = max floor (last_stamp new.seen);
      from = IsLargerOf (last_stamp new.seen)
          (subst (λ (seen : List Stamped). IsStampSeen seen (last_stamp new.seen)) (append-nil new.seen)
          (last-stamp-seen new.seen [])) refl;
      high = is.cause.0;
      own = is.own;
      seen = is.begins;
    }
