-- A world whose journal begins with entries that were let go.
use Rattle.std.specs.Prelude.{List, [], ◌++◌}
use Rattle.pico_base.specs.declared.reply.Entry.{Entry}
use Rattle.world_model.specs.World.{World}

-- the world whose journal has these entries before all that this one's has
abbrev pub behind : List Entry → World → World
behind entries w = record w { journal = entries ++ w.journal }

-- the world without its journal
abbrev pub without_journal : World → World
without_journal w = record w { journal = [] }
