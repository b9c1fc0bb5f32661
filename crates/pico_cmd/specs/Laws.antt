-- What freezing and thawing come to together.
use Rattle.std.specs.Prelude.{◌≡◌, ℕ, false, List, []}
use Rattle.pico_words.specs.declared.words.Options.{Options}
use Rattle.pico_words.specs.declared.words.Request.TheVariants.{Simulate, Freeze, Thaw}
use Rattle.pico_cmd.specs.declared.status.Status.{Status}
use Rattle.pico_cmd.specs.declared.status.Status.TheVariants.{Done}
use Rattle.pico_cmd.specs.Promise.{Answers, Cause}

-- the words `sim` alone
abbrev pub plain : Options
plain = record { seed = 0; steps = false }

pub record ThawsAsSim (bytes image : List ℕ) : Type 0 where
  -- the image is thawed, unless memory runs out,
  pub cause : Cause Thaw image Done
  -- and whatever `thaw` answers is what `sim` answers to the script, in status and in text
  pub same : (s t : Status) (text other : List ℕ) → Answers Thaw image s text []
      → Answers (Simulate plain) bytes t other [] → (s ≡ t) × (text ≡ other)

-- What `freeze` writes, after however many events, `thaw` takes for what `sim` takes the script.
abbrev pub ThawOfFreezeIsSim : Type 0
ThawOfFreezeIsSim =
    (count : ℕ) (bytes image : List ℕ) → Answers (Freeze count) bytes Done image [] → ThawsAsSim bytes image
