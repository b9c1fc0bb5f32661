-- The end of a line that is expected.
use Rattle.std.specs.Prelude.{◌≡◌, ℕ, ◌≤◌, true, List, [], ◌∷◌, ◌++◌, Some}
use Rattle.pico_base.specs.declared.reply.Outcome.{Outcome}
use Rattle.pico_base.specs.declared.reply.Reply.TheVariants.{Num}
use Rattle.kernel_model.specs.Trace.{own_text, by_text}
use Rattle.trace_text.specs.Grammar.{is_outcome}

-- what a line has behind ` = ` is this outcome, which has a line, by one of the nodes
pub record EndsWith (outcome : Outcome) (rest : List ℕ) : Type 0 where
  pub fits : is_outcome outcome ≡ true
  pub node : ℕ
  pub low : 1 ≤ node
  pub high : node ≤ 32
  pub text : own_text outcome.own ++ by_text node outcome.woken ≡ rest ++ 10 ∷ []

-- the caller gets this number, and nobody is woken
abbrev pub numbered : ℕ → Outcome
numbered number = record { own = Some (Num number); woken = [] }
