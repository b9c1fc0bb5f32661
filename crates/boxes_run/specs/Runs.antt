-- What a run of several sandboxes comes to.
use Rattle.std.specs.Prelude.{List, [], ◌∷◌, map}
use Rattle.pico_base.specs.declared.script.Script.{Script}
use Rattle.sandbox_set.specs.declared.read.Sandbox.{Sandbox}
use Rattle.pico_run.specs.declared.rested.Rested.{Rested}
use Rattle.pico_run.specs.Rested.{IsRested}

abbrev pub scripts_of : List Sandbox → List Script
scripts_of boxes = map (λ (b : Sandbox). b.script) boxes

-- one outcome for each script, in order, which is one of a run of that script alone
abbrev pub AreRested : List Script → List Rested → Type 0
AreRested [] [] = Unit {0}
AreRested [] (r ∷ rs) = ⊥
AreRested (script ∷ scripts) [] = ⊥
AreRested (script ∷ scripts) (r ∷ rs) = IsRested script r × AreRested scripts rs
