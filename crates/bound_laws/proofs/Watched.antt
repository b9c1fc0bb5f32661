-- Changes of watches leave each watch over what its node owns.
use Rattle.std.proofs.Common.{◌≡◌, ◌⊎◌, ℕ, ◌||◌, nat_eq, List, [], ◌∷◌, Some, None, unwrap_or, refl, ap, ◌∙◌, inl, inr}
use Rattle.pico_base.specs.declared.numbers.Name.{Name}
use Rattle.pico_base.specs.declared.numbers.Name.TheVariants.{Proc, Msg, Sem}
use Rattle.kernel_laws.proofs.Plain.{by_test}
use Rattle.entry_laws.proofs.Names.{get-put-other-name, get-put-same-name, name-cases}
use Rattle.migrate.specs.Watching.{Watching, run_with, watching_after, watching_anew}
use Rattle.node_model.specs.Kinds.{get_named, none_named, put_named, without_named}
use Rattle.node_model.specs.Watches.{Watches, unwatch, watch_over, with_read, with_reads}
use Rattle.route_laws.specs.Watching.{AreWatchesOf}
use Rattle.bound_laws.proofs.Tables.{get-without-named}
use Rattle.world_model.specs.Starting.{run}

-- a name that isn't watched is watched anew
pub none-watched : (owner : ℕ) → AreWatchesOf owner none_named
none-watched owner (Proc n) = refl
none-watched owner (Msg n) = refl
none-watched owner (Sem n) = refl

owner-stays : (w : Watching) (reader : ℕ) → (watching_after w reader).owner ≡ w.owner
owner-stays w reader =
    by_test (λ (x : Watching). x.owner ≡ w.owner) (nat_eq (run_with w reader) 0 || nat_eq (run_with w reader) 4)
    (watching_anew w.owner) (record { owner = w.owner; reader = Some reader; run = run_with w reader }) (λ _. refl)
    (λ _. refl)

watch-put : (owner : ℕ) (watches : Watches) (name : Name) (w : Watching) → AreWatchesOf owner watches → w.owner ≡ owner
    → AreWatchesOf owner (put_named watches name w)
watch-put owner watches name w all own other =
    elim (name-cases other name) [
      | inl same ↦
          ap (λ m. (unwrap_or (get_named (put_named watches name w) m) (watching_anew owner)).owner) same
          ∙ ap (λ o. (unwrap_or o (watching_anew owner)).owner) (get-put-same-name watches name w) ∙ own
      | inr apart ↦
          ap (λ o. (unwrap_or o (watching_anew owner)).owner) (get-put-other-name watches name w other apart)
          ∙ all other
    ]

-- a read is counted
pub read-watched : (owner : ℕ) (watches : Watches) (name : Name) (reader : ℕ) → AreWatchesOf owner watches
    → AreWatchesOf owner (with_read watches owner name reader)
read-watched owner watches name reader all =
    watch-put owner watches name (watching_after (watch_over watches owner name) reader) all
    (owner-stays (watch_over watches owner name) reader ∙ all name)

-- and so are several, one after another
pub reads-watched : (owner : ℕ) (watches : Watches) (name : Name) (readers : List ℕ) → AreWatchesOf owner watches
    → AreWatchesOf owner (with_reads watches owner name readers)
reads-watched owner watches name [] all = all
reads-watched owner watches name (reader ∷ readers) all =
    reads-watched owner (with_read watches owner name reader) name readers
    (read-watched owner watches name reader all)

without-watch : (owner : ℕ) (watches : Watches) (name other : Name) → AreWatchesOf owner watches
    → (get_named (without_named watches name) other ≡ None)
    ⊎ (get_named (without_named watches name) other ≡ get_named watches other)
    → (watch_over (without_named watches name) owner other).owner ≡ owner
without-watch owner watches name other all (inl none) = ap (λ o. (unwrap_or o (watching_anew owner)).owner) none
without-watch owner watches name other all (inr same) =
    ap (λ o. (unwrap_or o (watching_anew owner)).owner) same ∙ all other

-- a watch is gone
pub unwatched : (owner : ℕ) (watches : Watches) (name : Name) → AreWatchesOf owner watches
    → AreWatchesOf owner (unwatch watches name)
unwatched owner watches name all other =
    without-watch owner watches name other all (get-without-named watches name other)
