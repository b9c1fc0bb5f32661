-- Deeds on their way are within the grammar: each body of a used name, packed, is read back.
use Rattle.std.specs.Prelude.{◌≡◌, true, Some}
use Rattle.pico_base.specs.declared.numbers.Name.{Name}
use Rattle.kernel_model.specs.Kernel.{Kernel}
use Rattle.entry_laws.specs.Entering.{is_used_name}
use Rattle.node_model.specs.Bodies.{Body}
use Rattle.node_model.specs.Spelling.{pack, read_deed}

abbrev pub DeedsAreRead : Kernel → (Name → Body) → Type 0
DeedsAreRead k bodies =
    (name : Name) → is_used_name k name ≡ true → read_deed (pack name (bodies name)) ≡ Some (bodies name)
