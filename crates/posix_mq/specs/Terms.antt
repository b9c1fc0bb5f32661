-- A line that is due, and the place behind it.
use Rattle.std.specs.Prelude.{ℕ, List, [], ◌∷◌, drop, Option, Some, None}
use Rattle.pico_base.specs.declared.script.Line.{Line}
use Rattle.kernel_model.specs.Fitting.{Place, set_variable}
use Rattle.posix_mq.specs.declared.progress.Terms.{Terms}

-- what the first line says beside its call
abbrev pub terms_of : List Line → Option Terms
terms_of [] = None
terms_of (line ∷ lines) = Some (record { set = line.set; tries = line.tries })

-- the place behind the first line, with this variable set
abbrev pub passed : Place → Option ℕ → ℕ → Place
passed place variable value =
    record { left = drop 1 place.left; tried = 0; vars = set_variable place.vars variable value }
