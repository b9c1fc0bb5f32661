-- Packed deeds of queues and sets before those of processes are told apart by their names.
use Rattle.std.proofs.Common.{◌≡◌, ℕ, Bool, true, false, cond, List, [], ◌∷◌, ◌++◌, map, refl, sym, ap, subst, ◌∙◌, IsTrue}
use Rattle.std.specs.List.{AllByRecursion}
use Rattle.pico_base.specs.declared.numbers.Name.{Name}
use Rattle.pico_base.specs.declared.numbers.Name.TheVariants.{Proc, Msg, Sem}
use Rattle.rpc_frame.specs.declared.deed.PackedDeed.{PackedDeed}
use Rattle.number_maps.specs.Maps.{Numbered}
use Rattle.node_model.specs.Kinds.{is_object}
use Rattle.deed_box.specs.Deeds.{deeds_of}
use Rattle.deed_box.specs.Packing.{ArePackedDeeds, IsPackedDeed}
use Rattle.exit_handover.specs.Giving.{objects_in, processes_in}

module _ {B : Type 0} (fits : B → Name → Bool) (IsSpelled : B → List ℕ → Type 0) where
  abbrev pub AreOfKind : Bool → List (Name × B) → Type 0
  AreOfKind kind ds = AllByRecursion (λ d. is_object d.0 ≡ kind) ds

  pub queues_are_objects : (bodies : Numbered B) → AreOfKind true (deeds_of Msg bodies)
  queues_are_objects [] = tt
  queues_are_objects (e ∷ es) = (refl, queues_are_objects es)

  pub sets_are_objects : (bodies : Numbered B) → AreOfKind true (deeds_of Sem bodies)
  sets_are_objects [] = tt
  sets_are_objects (e ∷ es) = (refl, sets_are_objects es)

  pub processes_are_none : (bodies : Numbered B) → AreOfKind false (deeds_of Proc bodies)
  processes_are_none [] = tt
  processes_are_none (e ∷ es) = (refl, processes_are_none es)

  pub AreOfKind-append : (kind : Bool) (ds es : List (Name × B)) → AreOfKind kind ds → AreOfKind kind es
      → AreOfKind kind (ds ++ es)
  AreOfKind-append kind [] es a b = b
  AreOfKind-append kind (d ∷ ds) es a b = (a.0, AreOfKind-append kind ds es a.1 b)

  kind_is : (d : Name × B) (p : PackedDeed) (kind : Bool) → IsPackedDeed fits IsSpelled d p → is_object d.0 ≡ kind
      → is_object p.name ≡ kind
  kind_is d p kind h is = ap is_object h.name ∙ is

  pub no_objects : (es : List (Name × B)) (ps : List PackedDeed) → AreOfKind false es
      → ArePackedDeeds fits IsSpelled es ps → objects_in ps ≡ []
  no_objects [] [] k h = refl
  no_objects [] (p ∷ ps) k h = absurd h
  no_objects (e ∷ es) [] k h = absurd h
  no_objects (e ∷ es) (p ∷ ps) k h =
      ap (λ t. cond t (p ∷ objects_in ps) (objects_in ps)) (kind_is e p false h.0 k.0) ∙ no_objects es ps k.1 h.1

  pub all_processes : (es : List (Name × B)) (ps : List PackedDeed) → AreOfKind false es
      → ArePackedDeeds fits IsSpelled es ps → processes_in ps ≡ ps
  all_processes [] [] k h = refl
  all_processes [] (p ∷ ps) k h = absurd h
  all_processes (e ∷ es) [] k h = absurd h
  all_processes (e ∷ es) (p ∷ ps) k h =
      ap (λ t. cond t (processes_in ps) (p ∷ processes_in ps)) (kind_is e p false h.0 k.0)
      ∙ ap (λ xs. p ∷ xs) (all_processes es ps k.1 h.1)

  pub objects_packed : (ds es : List (Name × B)) (ps : List PackedDeed) → AreOfKind true ds → AreOfKind false es
      → ArePackedDeeds fits IsSpelled (ds ++ es) ps → ArePackedDeeds fits IsSpelled ds (objects_in ps)
  objects_packed [] es ps k l h = subst (ArePackedDeeds fits IsSpelled []) (sym (no_objects es ps l h)) tt
  objects_packed (d ∷ ds) es [] k l h = absurd h
  objects_packed (d ∷ ds) es (p ∷ ps) k l h =
      subst (λ t. ArePackedDeeds fits IsSpelled (d ∷ ds) (cond t (p ∷ objects_in ps) (objects_in ps)))
      (sym (kind_is d p true h.0 k.0))
      (h.0, objects_packed ds es ps k.1 l h.1)

  pub processes_packed : (ds es : List (Name × B)) (ps : List PackedDeed) → AreOfKind true ds → AreOfKind false es
      → ArePackedDeeds fits IsSpelled (ds ++ es) ps → ArePackedDeeds fits IsSpelled es (processes_in ps)
  processes_packed [] es ps k l h = subst (ArePackedDeeds fits IsSpelled es) (sym (all_processes es ps l h)) h
  processes_packed (d ∷ ds) es [] k l h = absurd h
  processes_packed (d ∷ ds) es (p ∷ ps) k l h =
      subst (λ t. ArePackedDeeds fits IsSpelled es (cond t (processes_in ps) (p ∷ processes_in ps)))
      (sym (kind_is d p true h.0 k.0))
      (processes_packed ds es ps k.1 l h.1)
