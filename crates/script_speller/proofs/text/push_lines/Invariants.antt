use Rattle.std.proofs.Common.{◌≡◌, ◌++◌, take}
use Rattle.std.specs.List.{flat_map}
use Rattle.script_speller.specs.Spelling as spec
use Rattle.script_speller.proofs.text.push_lines.Given as goal

-- the lines so far
abbrev pub invariant-loop-line : goal.invariant-loop-line
invariant-loop-line l =
    l.out.items ≡ l.fn.out.items ++ flat_map (spec.behind_feed l.script) (take l.line-index l.lines)
