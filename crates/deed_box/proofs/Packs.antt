-- Packing and unpacking one deed after another.
use Rattle.std.proofs.Common.{◌≡◌, ℕ, zero, suc, ◌+◌, ◌≤◌, ◌<◌, Bool, List, [], ◌∷◌, ◌++◌, length, get_or, drop, refl, sym, ap, subst, ◌∙◌, arith, IsTrue, inl, inr, append-nil}
use Rattle.std.proofs.lemmas.List.{append_assoc}
use Rattle.pico_base.specs.declared.numbers.Name.{Name}
use Rattle.rpc_frame.specs.declared.deed.PackedDeed.{PackedDeed}
use Rattle.number_maps.specs.Maps.{Numbered}
use Rattle.deed_box.specs.Deeds.{deeds_of}
use Rattle.deed_box.specs.Packing.{AllFit, ArePackedDeeds, IsNoDeed, IsPackedDeed, SomeIsNoDeed}

module _ {B : Type 0} (fits : B → Name → Bool) (IsSpelled : B → List ℕ → Type 0) where
  pub fits_at : (name : ℕ → Name) (es : Numbered B) (i : ℕ) (e : ℕ × B) → i < length es → e ≡ get_or es i e
      → AllFit fits (deeds_of name es) → IsTrue (fits e.1 (name e.0))
  fits_at name [] i e lt is all = absurd (omega arith)
  fits_at name (x ∷ es) zero e lt is all = subst (λ y. IsTrue (fits y.1 (name y.0))) (sym is) all.0
  fits_at name (x ∷ es) (suc i) e lt is all = fits_at name es i e (omega arith) is all.1

  pub packed_at : (name : ℕ → Name) (es : Numbered B) (i : ℕ) (e : ℕ × B) (p : PackedDeed) (ps : List PackedDeed)
      → i < length es → e ≡ get_or es i e → IsPackedDeed fits IsSpelled (name e.0, e.1) p
      → ArePackedDeeds fits IsSpelled (deeds_of name (drop (suc i) es)) ps
      → ArePackedDeeds fits IsSpelled (deeds_of name (drop i es)) (p ∷ ps)
  packed_at name [] i e p ps lt is one all = absurd (omega arith)
  packed_at name (x ∷ es) zero e p ps lt is one all =
      (subst (λ y. IsPackedDeed fits IsSpelled (name y.0, y.1) p) is one, all)
  packed_at name (x ∷ es) (suc i) e p ps lt is one all = packed_at name es i e p ps (omega arith) is one all

  pub unpacked_at : (ps : List PackedDeed) (i : ℕ) (p : PackedDeed) (d : Name × B) (ds : List (Name × B))
      → i < length ps → p ≡ get_or ps i p → IsPackedDeed fits IsSpelled d p
      → ArePackedDeeds fits IsSpelled ds (drop (suc i) ps) → ArePackedDeeds fits IsSpelled (d ∷ ds) (drop i ps)
  unpacked_at [] i p d ds lt is one all = absurd (omega arith)
  unpacked_at (x ∷ ps) zero p d ds lt is one all = (subst (IsPackedDeed fits IsSpelled d) is one, all)
  unpacked_at (x ∷ ps) (suc i) p d ds lt is one all = unpacked_at ps i p d ds (omega arith) is one all

  pub some_at : (ps : List PackedDeed) (i : ℕ) (p : PackedDeed) → i < length ps → p ≡ get_or ps i p
      → IsNoDeed fits IsSpelled p → SomeIsNoDeed fits IsSpelled ps
  some_at [] i p lt is nothing = absurd (omega arith)
  some_at (x ∷ ps) zero p lt is nothing = inl (subst (IsNoDeed fits IsSpelled) is nothing)
  some_at (x ∷ ps) (suc i) p lt is nothing = inr (some_at ps i p (omega arith) is nothing)

  -- there are as many deeds as packed ones
  pub packed-length : (ds : List (Name × B)) (ps : List PackedDeed) → ArePackedDeeds fits IsSpelled ds ps
      → length ds ≡ length ps
  packed-length [] [] all = refl
  packed-length [] (p ∷ ps) all = absurd all
  packed-length (d ∷ ds) [] all = absurd all
  packed-length (d ∷ ds) (p ∷ ps) all = ap suc (packed-length ds ps all.1)

  pub ArePackedDeeds-append : (ds es : List (Name × B)) (ps qs : List PackedDeed) → ArePackedDeeds fits IsSpelled ds ps
      → ArePackedDeeds fits IsSpelled es qs → ArePackedDeeds fits IsSpelled (ds ++ es) (ps ++ qs)
  ArePackedDeeds-append [] es [] qs a b = b
  ArePackedDeeds-append [] es (p ∷ ps) qs a b = absurd a
  ArePackedDeeds-append (d ∷ ds) es [] qs a b = absurd a
  ArePackedDeeds-append (d ∷ ds) es (p ∷ ps) qs a b = (a.0, ArePackedDeeds-append ds es ps qs a.1 b)

  pub AllFit-left : (ds es : List (Name × B)) → AllFit fits (ds ++ es) → AllFit fits ds
  AllFit-left [] es all = tt
  AllFit-left (d ∷ ds) es all = (all.0, AllFit-left ds es all.1)

  pub AllFit-right : (ds es : List (Name × B)) → AllFit fits (ds ++ es) → AllFit fits es
  AllFit-right [] es all = all
  AllFit-right (d ∷ ds) es all = AllFit-right ds es all.1

  -- what is left to pack, or to unpack, completes what there is
  abbrev pub PacksRest : (ℕ → Name) → Numbered B → ℕ → List PackedDeed → Type 0
  PacksRest name es i done =
      (ps : List PackedDeed) → ArePackedDeeds fits IsSpelled (deeds_of name (drop i es)) ps
      → ArePackedDeeds fits IsSpelled (deeds_of name es) (done ++ ps)

  abbrev pub UnpacksRest : List PackedDeed → ℕ → List (Name × B) → Type 0
  UnpacksRest ps i done =
      (ds : List (Name × B)) → ArePackedDeeds fits IsSpelled ds (drop i ps)
      → ArePackedDeeds fits IsSpelled (done ++ ds) ps

  pub packs_next : (name : ℕ → Name) (es : Numbered B) (i j : ℕ) (e : ℕ × B) (p : PackedDeed) (done : List PackedDeed)
      → j ≡ suc i → i < length es → e ≡ get_or es i e → IsPackedDeed fits IsSpelled (name e.0, e.1) p
      → PacksRest name es i done → PacksRest name es j (done ++ p ∷ [])
  packs_next name es i j e p done next lt is one so_far ps rest =
      subst (ArePackedDeeds fits IsSpelled (deeds_of name es)) (sym (append_assoc done (p ∷ []) ps))
      (so_far (p ∷ ps) (packed_at name es i e p ps lt is one
      (subst (λ k. ArePackedDeeds fits IsSpelled (deeds_of name (drop k es)) ps) next rest)))

  pub unpacks_next : (ps : List PackedDeed) (i j : ℕ) (p : PackedDeed) (d : Name × B) (done : List (Name × B))
      → j ≡ suc i → i < length ps → p ≡ get_or ps i p → IsPackedDeed fits IsSpelled d p → UnpacksRest ps i done
      → UnpacksRest ps j (done ++ d ∷ [])
  unpacks_next ps i j p d done next lt is one so_far ds rest =
      subst (λ xs. ArePackedDeeds fits IsSpelled xs ps) (sym (append_assoc done (d ∷ []) ds))
      (so_far (d ∷ ds) (unpacked_at ps i p d ds lt is one
      (subst (λ k. ArePackedDeeds fits IsSpelled ds (drop k ps)) next rest)))

  drop_all : {X : Type 0} (xs : List X) (i : ℕ) → length xs ≤ i → drop i xs ≡ []
  drop_all [] zero le = refl
  drop_all [] (suc i) le = refl
  drop_all (x ∷ xs) zero le = absurd (omega arith)
  drop_all (x ∷ xs) (suc i) le = drop_all xs i (omega arith)

  pub packs_end : (name : ℕ → Name) (es : Numbered B) (i : ℕ) (done : List PackedDeed) → length es ≤ i
      → PacksRest name es i done → ArePackedDeeds fits IsSpelled (deeds_of name es) done
  packs_end name es i done le so_far =
      subst (ArePackedDeeds fits IsSpelled (deeds_of name es)) (append-nil done)
      (so_far [] (subst (λ xs. ArePackedDeeds fits IsSpelled (deeds_of name xs) []) (sym (drop_all es i le)) tt))

  pub unpacks_end : (ps : List PackedDeed) (i : ℕ) (done : List (Name × B)) → length ps ≤ i → UnpacksRest ps i done
      → ArePackedDeeds fits IsSpelled done ps
  unpacks_end ps i done le so_far =
      subst (λ xs. ArePackedDeeds fits IsSpelled xs ps) (append-nil done)
      (so_far [] (subst (ArePackedDeeds fits IsSpelled []) (sym (drop_all ps i le)) tt))

  -- queues, sets and processes, one after another
  pub all_packed : (qs ss ps : List (Name × B)) (packed_qs packed_ss packed_ps all : List PackedDeed)
      → all ≡ packed_qs ++ packed_ss ++ packed_ps → ArePackedDeeds fits IsSpelled qs packed_qs
      → ArePackedDeeds fits IsSpelled ss packed_ss → ArePackedDeeds fits IsSpelled ps packed_ps
      → ArePackedDeeds fits IsSpelled (qs ++ ss ++ ps) all
  all_packed qs ss ps packed_qs packed_ss packed_ps all is a b c =
      subst (ArePackedDeeds fits IsSpelled (qs ++ ss ++ ps)) (sym is)
      (ArePackedDeeds-append (qs ++ ss) ps (packed_qs ++ packed_ss) packed_ps
      (ArePackedDeeds-append qs ss packed_qs packed_ss a b) c)
