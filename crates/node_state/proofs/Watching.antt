-- A watch that notes a read lands in its map.
use Rattle.std.proofs.Common.{◌≡◌, ◌∙◌, ℕ, Some, unwrap_or, ap}
use Rattle.std.specs.Ordering.{nat_cmp}
use Rattle.std.specs.Map.{set_value}
use Rattle.std.specs.BTreeMap.{is_at}
use Rattle.number_maps.specs.Maps.{Numbered, get, put}
use Rattle.number_maps.specs.Rising.{IsRising}
use Rattle.number_maps.proofs.Changes.{set_value-put}
use Rattle.migrate.specs.Watching.{Watching, watching_after}

-- writing the watch after a read over the old one puts it into the map
pub noted-lands : (watches new : Numbered Watching) (n : ℕ) (anew was is : Watching) (reader : ℕ) → IsRising watches
    → get watches n ≡ Some was → is ≡ watching_after was reader
    → new ≡ set_value (is_at (nat_cmp n)) watches is
    → new ≡ put watches n (watching_after (unwrap_or (get watches n) anew) reader)
noted-lands watches new n anew was is reader rising there after written =
    rw there (written ∙ set_value-put watches n is was rising there ∙ ap (put watches n) after)
