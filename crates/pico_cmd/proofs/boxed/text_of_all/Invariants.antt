use Rattle.std.specs.Iterator.Adapters.{zip_first, zip_second}
use Rattle.std.specs.Slice.Iter.{iter_rest}
use Rattle.pico_cmd.specs.Boxed.{worlds_text}
use Rattle.pico_cmd.proofs.WorldTexts.{AreTold}
use Rattle.pico_cmd.proofs.boxed.text_of_all.Given as goal

-- the text so far, and that of the worlds left, are the text of all
abbrev pub invariant-loop-name : goal.invariant-loop-name
invariant-loop-name l =
    AreTold l.out.items (iter_rest (zip_first l.name-iterator)) (iter_rest (zip_second l.name-iterator))
    (worlds_text l.fn.names l.fn.rested)
