-- What holds of every cache besides: no name stands twice, and there are at most as many as it has room for.
use Rattle.std.specs.Prelude.{◌≡◌, ◌≤◌, ℕ, [], ◌∷◌, None, length}
use Rattle.node_model.specs.Cache.{Cache, max_cached, owner_in}

abbrev pub IsOnceEach : Cache → Type 0
IsOnceEach [] = Unit {0}
IsOnceEach (e ∷ es) = (owner_in es e.0 ≡ None) × IsOnceEach es

pub record IsWithin (cache : Cache) (places : ℕ) : Type 0 where
  pub cap : places ≡ max_cached
  pub size : length cache ≤ max_cached
  pub once : IsOnceEach cache
