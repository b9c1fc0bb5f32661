-- The deeds that a node holds, and for how many more it has room.
use Rattle.std.specs.Prelude.{◌≡◌, ℕ, true, List, [], ◌∷◌, ◌++◌, map, None, refl}
use Rattle.std.specs.Coded.{Coded, code_by, coded×, coded_list, coded_ℕ}
use Rattle.pico_base.specs.declared.numbers.Name.{Name}
use Rattle.pico_base.specs.declared.numbers.Name.TheVariants.{Proc, Msg, Sem}
use Rattle.number_maps.specs.Maps.{Numbered}
use Rattle.number_maps.specs.Rising.{IsRising}
use Rattle.node_model.specs.Kinds.{Named, get_named}

-- the bodies of the names that are held
pub record Holdings (B : Type 0) : Type 0 where
  pub bodies : Named B
  pub spare : ℕ

abbrev pub coded_numbered : {B : Type 0} → Coded B → Coded (Numbered B)
coded_numbered b = coded_list (coded× coded_ℕ b)

abbrev pub holdings_code : {B : Type 0} → Coded B → Coded (Holdings B)
holdings_code {B} b =
    code_by (Numbered B × (Numbered B × (Numbered B × ℕ)))
    (coded× (coded_numbered b) (coded× (coded_numbered b) (coded× (coded_numbered b) coded_ℕ)))
    (λ h. (h.bodies.processes, (h.bodies.queues, (h.bodies.sets, h.spare))))
    (λ p. record { bodies = record { processes = p.0; queues = p.1.0; sets = p.1.1.0 }; spare = p.1.1.1 }) (λ _. refl)

-- The deeds one after another, in the order in which a node hands them over: queues, then sets, then processes, each by
-- rising number.
abbrev pub deeds_of : {B : Type 0} → (ℕ → Name) → Numbered B → List (Name × B)
deeds_of name bodies = map (λ e. (name e.0, e.1)) bodies

abbrev pub all_deeds : {B : Type 0} → Named B → List (Name × B)
all_deeds bodies = deeds_of Msg bodies.queues ++ deeds_of Sem bodies.sets ++ deeds_of Proc bodies.processes

-- within each kind the numbers rise
pub record AreRising {B : Type 0} (bodies : Named B) : Type 0 where
  pub processes : IsRising bodies.processes
  pub queues : IsRising bodies.queues
  pub sets : IsRising bodies.sets

-- none of these names is held
abbrev pub AreAbsent : {B : Type 0} → Named B → List Name → Type 0
AreAbsent bodies [] = Unit {0}
AreAbsent bodies (name ∷ names) = (get_named bodies name ≡ None) × AreAbsent bodies names

in_order : all_deeds
    (record { processes = (2, true) ∷ []; queues = (3, true) ∷ (9, true) ∷ []; sets = (1, true) ∷ [] })
    ≡ (Msg 3, true) ∷ (Msg 9, true) ∷ (Sem 1, true) ∷ (Proc 2, true) ∷ []
in_order = refl
