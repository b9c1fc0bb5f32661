-- The history of POSIX message queues that a journal stands for is legal, and fits the given script.
use Rattle.std.specs.Prelude.{List}
use Rattle.pico_base.specs.declared.reply.Entry.{Entry}
use Rattle.pico_base.specs.declared.script.Script.{Script}
use Rattle.waiting_model.specs.History as plain
use Rattle.waiting_model.specs.Fitting as plain_fitting
use Rattle.mq_model.specs.Given.{IsGiven}
use Rattle.mq_model.specs.SystemV.{system_v}
use Rattle.mq_model.specs.Shown.{history_of}
use Rattle.mq_model.specs.History.{IsLegal}
use Rattle.mq_model.specs.Fitting.{Fits, FitsWhole}

-- The journal is legal and fits the script of System V that runs the given script. Then its history is legal too,
abbrev pub HistoriesAreLegal : Type 0
HistoriesAreLegal =
    (given : Script) (journal : List Entry) → IsGiven given → plain.IsLegal journal
    → plain_fitting.Fits (system_v given) journal → IsLegal (history_of given journal)

-- and fits the given script,
abbrev pub HistoriesFit : Type 0
HistoriesFit =
    (given : Script) (journal : List Entry) → IsGiven given → plain.IsLegal journal
    → plain_fitting.Fits (system_v given) journal → Fits given (history_of given journal)

-- to its end where the journal does.
abbrev pub HistoriesFitWhole : Type 0
HistoriesFitWhole =
    (given : Script) (journal : List Entry) → IsGiven given → plain.IsLegal journal
    → plain_fitting.FitsWhole (system_v given) journal → FitsWhole given (history_of given journal)
