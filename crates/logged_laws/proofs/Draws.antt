-- Where the stamp of a turn comes from.
use Rattle.std.proofs.Common.{◌≡◌, ◌⊎◌, ℕ, ◌≤◌, List, ◌++◌, max, refl, sym, subst, inl, inr, arith}
use Rattle.std.specs.List.{AllByRecursion, Contains}
use Rattle.std.proofs.lemmas.Bool.{cases_lt}
use Rattle.std.proofs.lemmas.List.Elements.{Contains-append_left}
use Rattle.journal_core.specs.declared.stamped.Stamped.{Stamped}
use Rattle.journal_core.specs.Journal.{BeginsWith}
use Rattle.stamp_merge.proofs.Filters.{all-map}
use Rattle.log_laws.specs.Logs.{Input, Runs, Takes, Logged, Log}
use Rattle.log_model.specs.Turns.{floor_of}
use Rattle.log_model.specs.Logged.{IsFloor, FromNothing, FromTurn, FromFrame, FromEntry, IsDrawn}
use Rattle.logged_laws.proofs.Stamps.{IsStampSeen, IsLarger, IsFloorItself, IsLargerOf}

-- the last stamp of these turns, or 0
abbrev pub IsClock : Log → ℕ → Type 0
IsClock turns clock = (clock ≡ 0) ⊎ ((turn : Logged) × Contains turns turn × (turn.stamp ≡ clock))

-- ---- floors

clock-floor : (turns : Log) (input : Input) (seen : List Stamped) (clock : ℕ) → IsClock turns clock
    → IsFloor turns input seen clock
clock-floor turns input seen clock (inl none) = FromNothing none
clock-floor turns input seen clock (inr has) = FromTurn has.0 has.1 has.2

seen-floor : (turns : Log) (input : Input) (seen : List Stamped) (stamp : ℕ) → IsStampSeen seen stamp
    → IsFloor turns input seen stamp
seen-floor turns input seen stamp (inl none) = FromNothing none
seen-floor turns input seen stamp (inr has) = FromEntry has.0 has.1 has.2

-- the larger of two
larger-floor : (turns : Log) (input : Input) (seen : List Stamped) (a b : ℕ) → IsFloor turns input seen a
    → IsFloor turns input seen b → IsFloor turns input seen (max a b)
larger-floor turns input seen a b a_is b_is =
    elim (cases_lt a b) [
      | inl low ↦ let same : b ≡ max a b = omega arith in subst (IsFloor turns input seen) same b_is
      | inr high ↦ let same : a ≡ max a b = omega arith in subst (IsFloor turns input seen) same a_is
    ]

input-floor : (turns : Log) (input : Input) (seen : List Stamped) (clock : ℕ) → IsClock turns clock
    → IsFloor turns input seen (floor_of clock input)
input-floor turns Runs seen clock is = clock-floor turns Runs seen clock is
input-floor turns (Takes sender taken) seen clock is =
    larger-floor turns (Takes sender taken) seen clock taken.stamp
    (clock-floor turns (Takes sender taken) seen clock is) (FromFrame sender taken refl refl)

-- that above which a stamp is drawn
pub drawn-floor : (turns : Log) (input : Input) (seen : List Stamped) (clock larger : ℕ) → IsClock turns clock
    → IsLarger (floor_of clock input) seen larger → IsFloor turns input seen larger
drawn-floor turns input seen clock larger is (IsFloorItself same) =
    subst (IsFloor turns input seen) (sym same) (input-floor turns input seen clock is)
drawn-floor turns input seen clock larger is (IsLargerOf stamp of same) =
    subst (IsFloor turns input seen) (sym same)
    (larger-floor turns input seen (floor_of clock input) stamp (input-floor turns input seen clock is)
    (seen-floor turns input seen stamp of))

-- ---- the floor is at least

-- the floor is no lower than the clock
pub clock-within : (clock : ℕ) (input : Input) → clock ≤ floor_of clock input
clock-within clock Runs = omega arith
clock-within clock (Takes sender taken) = omega arith

-- ---- with more turns, and more that was seen

more-floor : (turns more : Log) (input : Input) (seen entries : List Stamped) (floor : ℕ)
    → IsFloor turns input seen floor → IsFloor (turns ++ more) input (seen ++ entries) floor
more-floor turns more input seen entries floor (FromNothing none) = FromNothing none
more-floor turns more input seen entries floor (FromTurn turn there is) =
    FromTurn turn (Contains-append_left turns more turn there) is
more-floor turns more input seen entries floor (FromFrame sender taken of is) = FromFrame sender taken of is
more-floor turns more input seen entries floor (FromEntry e there is) =
    FromEntry e (Contains-append_left seen entries e there) is

-- a floor of a longer journal
pub floor-with-turns : (turns more : Log) (input : Input) (old new : List Stamped) (floor : ℕ) → BeginsWith new old
    → IsFloor turns input old floor → IsFloor (turns ++ more) input new floor
floor-with-turns turns more input old new floor begins from =
    subst (λ (seen : List Stamped). IsFloor (turns ++ more) input seen floor) (sym begins.1)
    (more-floor turns more input old begins.0 floor from)

-- what was drawn from some turns is drawn from more
pub drawn-with-turns : (turns more : Log) (old new : List Stamped) → BeginsWith new old → (log : Log)
    → AllByRecursion (IsDrawn turns old) log → AllByRecursion (IsDrawn (turns ++ more) new) log
drawn-with-turns turns more old new begins log drawn =
    all-map (λ (turn : Logged) is.
    record {
      floor = is.floor;
      from = floor-with-turns turns more turn.input old new is.floor begins is.from;
      is = is.is;
    })
    log drawn
