-- A table of keys without those that lead to a number.
use Rattle.std.proofs.Common.{◌≡◌, ℕ, not, nat_eq, nat_cmp, ap, sym, ◌∙◌}
use Rattle.std.specs.Ordering.{eq_by_cmp}
use Rattle.std.proofs.lemmas.Cmp.{eq_by_cmp_equiv, nat_cmp_total}
use Rattle.std.proofs.lemmas.Map.Entries.{lookup-filter-values, option_filter}
use Rattle.std.proofs.lemmas.Map.Keys.{IsDistinct-from_sorted}
use Rattle.number_maps.specs.Maps.{Numbered, get}
use Rattle.number_maps.specs.Rising.{IsRising}
use Rattle.kernel_model.specs.QueueCalls.{unbind}

get-unbound : (keys : Numbered ℕ) (id key : ℕ) → IsRising keys
    → get (unbind keys id) key ≡ option_filter (λ v. not (nat_eq v id)) (get keys key)
get-unbound keys id key h =
    lookup-filter-values {eq = eq_by_cmp nat_cmp} (eq_by_cmp_equiv nat_cmp_total) (λ v. not (nat_eq v id)) key keys
    (IsDistinct-from_sorted nat_cmp _ h)

-- tables that agree at a key agree there afterwards
pub unbound-same : (a b : Numbered ℕ) (id key : ℕ) → IsRising a → IsRising b → get a key ≡ get b key
    → get (unbind a id) key ≡ get (unbind b id) key
unbound-same a b id key ha hb h =
    get-unbound a id key ha ∙ ap (option_filter (λ v. not (nat_eq v id))) h ∙ sym (get-unbound b id key hb)
