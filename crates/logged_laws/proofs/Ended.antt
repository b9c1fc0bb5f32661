-- A turn that makes no event: the same turns are all of the node's, and why it makes none any more is said.
use Rattle.std.proofs.Common.{◌≡◌, ℕ, false, List, Some, None, sym, subst, inl, inr}
use Rattle.std.specs.List.{AllByRecursion}
use Rattle.pico_base.specs.declared.script.Script.{Script}
use Rattle.stamp_merge.proofs.Filters.{all-map}
use Rattle.log_laws.specs.Logs.{Input}
use Rattle.log_model.specs.declared.answer.LogFault.TheVariants as faults
use Rattle.log_model.specs.declared.found.Found.{Found}
use Rattle.log_model.specs.Views.{Line, LoggedNode}
use Rattle.log_model.specs.Looks.{ends_looks, Looks}
use Rattle.log_model.specs.Turns.{may_take, input_of, floor_of, after_looks, with_fault, HasNoRule, EndsBadly, EndsFull}
use Rattle.log_model.specs.Logged.{others_in, IsOfScript, IsWholeLine, Stands, IsLogged}
use Rattle.logged_laws.proofs.Lists.{AreApart}
use Rattle.logged_laws.proofs.Others.{others-apart}
use Rattle.logged_laws.proofs.Lines.{whole-line-of}
use Rattle.logged_laws.proofs.Looks.{whole-after-looks, HasRefused, refused-after-looks}
use Rattle.logged_laws.proofs.Came.{HasCome, came}
use Rattle.logged_laws.proofs.Stamps.{IsOutOfStamps, out-of-stamps}
use Rattle.logged_laws.proofs.Draws.{drawn-floor}
use Rattle.logged_laws.proofs.Kept.{IsSeatStill, same-seat, with-same-turns}

-- A node that goes on where it stands has looked at its lines.
pub record HasLooked (script : Script) (old : LoggedNode) (was : IsLogged script old) (found : Found)
    (lines : List Line) : Type 0 where
  pub none : old.fault ≡ None
  pub node : old.node ≡ Some was.last
  pub whole : AllByRecursion (IsWholeLine was.turns) old.lines
  pub looks : Looks (may_take script old.number was.last) old.lines found lines

-- the input of its turn came in
pub input-came : (script : Script) (old : LoggedNode) (was : IsLogged script old) (found : Found) (lines : List Line)
    (input : Input) → HasLooked script old was found lines → input_of was.last found ≡ Some input
    → HasCome script old.number was.turns old.lines lines was.last input
input-came script old was found lines input looked is =
    let apart : AreApart (others_in old.lines) =
    subst AreApart (sym was.of_script.others) (others-apart script old.number)
    in came script old.number was.turns old.lines lines was.last found input apart looked.whole looked.looks is

module _ (script : Script) (old new : LoggedNode) (was : IsLogged script old) (found : Found) (lines : List Line)
    (looked : HasLooked script old was found lines) (of : IsOfScript script new) where
  -- ---- nothing came of the looks

  -- the looks alone are left
  pub kept-quiet : (quiet : ℕ) → ends_looks found ≡ false → new ≡ after_looks old lines quiet new.forker
      → IsLogged script new
  kept-quiet quiet goes is =
      let whole : AllByRecursion (IsWholeLine was.turns) lines =
      whole-after-looks was.turns (may_take script old.number was.last) old.lines lines found goes looked.looks
      looked.whole
      in let left : LoggedNode = after_looks old lines quiet new.forker
      in subst (IsLogged script) (sym is)
      (with-same-turns script old old.node new.forker lines old.seat quiet old.fault was (same-seat old.seat)
      (subst (IsOfScript script) is of)
      (all-map (λ line w. whole-line-of was.turns line w) lines whole)
      (subst (Stands script left was.turns was.last) (sym looked.none) (looked.node, whole)))

  -- ---- a fault

  -- a line was refused,
  kept-with-refused : new.seat ≡ old.seat → new ≡ with_fault old lines new faults.BadFrame
      → HasRefused was.turns lines → IsLogged script new
  kept-with-refused seat is has =
      subst (IsLogged script) (sym is)
      (with-same-turns script old new.node new.forker lines new.seat 0 (Some faults.BadFrame) was
      (subst (IsSeatStill old.seat) (sym seat) (same-seat old.seat)) (subst (IsOfScript script) is of) has.all
      (inl has.line))

  -- or the input has no rule
  kept-with-no-rule : new.seat ≡ old.seat → new ≡ with_fault old lines new faults.BadFrame
      → HasNoRule script was.last found lines → IsLogged script new
  kept-with-no-rule seat is has =
      let come : HasCome script old.number was.turns old.lines lines was.last has.input =
      input-came script old was found lines has.input looked has.is_input
      in subst (IsLogged script) (sym is)
      (with-same-turns script old new.node new.forker lines new.seat 0 (Some faults.BadFrame) was
      (subst (IsSeatStill old.seat) (sym seat) (same-seat old.seat)) (subst (IsOfScript script) is of) come.all
      (inr (record { input = has.input; there = come.there; may = come.may; no_rule = has.no_rule })))

  -- bytes, a frame or a line of the script that the node refuses
  pub kept-bad : EndsBadly script old was.last found lines new → IsLogged script new
  kept-bad ends =
      elim ends.cause [
        | inl refused ↦
            kept-with-refused ends.seat ends.is
            (refused-after-looks was.turns (may_take script old.number was.last) old.lines lines
            (subst (λ (f : Found). Looks (may_take script old.number was.last) old.lines f lines) refused looked.looks)
            looked.whole)
        | inr no_rule ↦ kept-with-no-rule ends.seat ends.is no_rule
      ]

  -- no stamp is left
  pub kept-full : (last : ℕ) → EndsFull script old was.last found lines new last → IsLogged script new
  kept-full last ends =
      let come : HasCome script old.number was.turns old.lines lines was.last ends.input =
      input-came script old was found lines ends.input looked ends.is_input
      in let out : IsOutOfStamps (floor_of old.clock ends.input) old.seat new.seat =
      out-of-stamps (floor_of old.clock ends.input) ends.step.entries old.seat new.seat last ends.no_stamp
      in subst (IsLogged script) (sym ends.is)
      (with-same-turns script old new.node new.forker lines new.seat 0 (Some (faults.StampEnd last)) was
      (record { number = ends.seat; own = out.own; seen = out.seen }) (subst (IsOfScript script) ends.is of) come.all
      (record {
        input = ends.input;
        there = come.there;
        floor = out.larger;
        from = drawn-floor was.turns ends.input new.seat.seen old.clock out.larger was.clock_is out.from;
        high = out.high;
      }))
