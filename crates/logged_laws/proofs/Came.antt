-- What came in when a node looked at its lines: what is known of an input, and of the lines with it.
use Rattle.std.proofs.Common.{◌≡◌, ℕ, Bool, true, if◌then◌else◌, List, Option, Some, None, refl, ap, sym, subst, ◌∙◌, inl, inr}
use Rattle.std.specs.List.{AllByRecursion}
use Rattle.std.proofs.lemmas.Bool.{cases_Bool}
use Rattle.pico_base.specs.declared.script.Script.{Script}
use Rattle.stamp_merge.proofs.Filters.{all-map}
use Rattle.world_model.specs.Node.{Node, can_run}
use Rattle.log_laws.specs.Logs.{StampedFrame, stamped, Input, Runs, Takes, Log}
use Rattle.log_model.specs.declared.found.Found.{Found}
use Rattle.log_model.specs.declared.found.Found.TheVariants.{Nothing, Part, Whole, Refused}
use Rattle.log_model.specs.Views.{Line}
use Rattle.log_model.specs.Looks.{Looks}
use Rattle.log_model.specs.Turns.{may_take, input_of}
use Rattle.log_model.specs.Logged.{others_in, IsLineOf, IsWholeLine, WasThere, IsFromOther}
use Rattle.logged_laws.proofs.Lists.{AreApart}
use Rattle.logged_laws.proofs.Lines.{IsLineWith, with-nothing, whole-line-of}
use Rattle.logged_laws.proofs.Looks.{whole-after-looks, HasFrame, frame-after-looks}

-- It was there, from one of the nodes of the earlier lines, and might be taken. With it the lines are whole.
pub record HasCome (script : Script) (number : ℕ) (turns : Log) (olds lines : List Line) (n : Node) (input : Input)
    : Type 0 where
  pub there : WasThere turns lines n input
  pub may : (sender : ℕ) (taken : StampedFrame) → input ≡ Takes sender taken
      → may_take script number n sender ≡ true
  pub from : IsFromOther olds input
  pub with_it : AllByRecursion (IsLineWith turns input) lines
  pub all : AllByRecursion (IsLineOf turns) lines

abbrev run-if : Bool → Option Input
run-if b = if b then Some Runs else None

-- a line of the script, where no frame was found
came-run : (script : Script) (number : ℕ) (turns : Log) (olds lines : List Line) (n : Node) (input : Input)
    → AllByRecursion (IsWholeLine turns) lines → run-if (can_run n) ≡ Some input
    → HasCome script number turns olds lines n input
came-run script number turns olds lines n input whole is =
    elim (cases_Bool (can_run n)) [
      | inl can ↦
          let given : Some Runs ≡ Some input = sym (ap run-if can) ∙ is
          in let same : Runs ≡ input = cc
          in subst (HasCome script number turns olds lines n) same
          (record {
            there = can;
            may = λ sender taken e. absurd (cc);
            from = tt;
            with_it = all-map (λ line w. with-nothing turns Runs line refl w) lines whole;
            all = all-map (λ line w. whole-line-of turns line w) lines whole;
          })
      | inr can_not ↦
          let nothing : Option Input = None
          in let given : nothing ≡ Some input = sym (ap run-if can_not) ∙ is
          in absurd (cc)
    ]

-- a frame
came-frame : (script : Script) (number : ℕ) (turns : Log) (olds lines : List Line) (n : Node) (sender : ℕ)
    (taken : StampedFrame) → HasFrame turns (may_take script number n) (others_in olds) lines sender taken
    → HasCome script number turns olds lines n (Takes sender taken)
came-frame script number turns olds lines n sender taken has =
    record {
      there = has.would;
      may = λ s t e.
          let same : sender ≡ s = cc
          in subst (λ (p : ℕ). may_take script number n p ≡ true) same has.may_take;
      from = has.from;
      with_it = has.with_it;
      all = has.all;
    }

-- the input of a turn
pub came : (script : Script) (number : ℕ) (turns : Log) (olds lines : List Line) (n : Node) (found : Found)
    (input : Input) → AreApart (others_in olds) → AllByRecursion (IsWholeLine turns) olds
    → Looks (may_take script number n) olds found lines → input_of n found ≡ Some input
    → HasCome script number turns olds lines n input
came script number turns olds lines n Nothing input apart whole looks is =
    came-run script number turns olds lines n input
    (whole-after-looks turns (may_take script number n) olds lines Nothing refl looks whole) is
came script number turns olds lines n Part input apart whole looks is =
    came-run script number turns olds lines n input
    (whole-after-looks turns (may_take script number n) olds lines Part refl looks whole) is
came script number turns olds lines n (Whole sender stamp frame) input apart whole looks is =
    let same : Takes sender (stamped stamp frame) ≡ input = cc
    in subst (HasCome script number turns olds lines n) same
    (came-frame script number turns olds lines n sender (stamped stamp frame)
    (frame-after-looks turns (may_take script number n) olds lines sender stamp frame apart looks whole))
came script number turns olds lines n Refused input apart whole looks is = absurd (cc)
