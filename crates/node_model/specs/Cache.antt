-- Which node last answered for a name: at most 64 names, the one used last first.
use Rattle.std.specs.Prelude.{ℕ, not, List, ◌∷◌, take, Option, Some, None}
use Rattle.std.specs.List.{filter}
use Rattle.std.specs.Map.{lookup}
use Rattle.pico_base.specs.declared.numbers.Name.{Name}
use Rattle.node_model.specs.Kinds.{is_same_name}

abbrev pub Cache : Type 0
Cache = List (Name × ℕ)

abbrev pub max_cached : ℕ
max_cached = 64

abbrev pub owner_in : Cache → Name → Option ℕ
owner_in cache name = lookup (is_same_name name) cache

abbrev pub forget : Cache → Name → Cache
forget cache name = filter (λ e. not (is_same_name name e.0)) cache

-- the pair goes to the front, and past 64 names the one used longest ago goes
abbrev pub learn : Cache → Name → ℕ → Cache
learn cache name node = take max_cached ((name, node) ∷ forget cache name)

-- a look brings the name to the front
abbrev pub look_by : Cache → Name → Option ℕ → Cache
look_by cache name None = cache
look_by cache name (Some node) = (name, node) ∷ forget cache name

abbrev pub look : Cache → Name → Cache
look cache name = look_by cache name (owner_in cache name)
