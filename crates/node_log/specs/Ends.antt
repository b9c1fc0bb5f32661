-- Ends of streams and lines.
use Rattle.std.specs.Prelude.{◌≡◌, []}
use Rattle.frame_bytes.specs.Streams.{Rest}
use Rattle.log_model.specs.Views.{Line}
use Rattle.node_lines.specs.declared.end.End.{End}

-- nothing was taken from it
abbrev pub IsUntaken : End → Type 0
IsUntaken end = end.into.taken ≡ []

-- the line of these ends, with nothing held back
abbrev pub line_of : End → Line
line_of end = record { other = end.other; out = end.out; into = end.into; left = Rest [] }

-- the ends of a line
abbrev pub end_of : Line → End
end_of line = record { other = line.other; out = line.out; into = line.into }
