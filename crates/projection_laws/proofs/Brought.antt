-- What a frame on its way brings of a name's deed, and what a parcel's deeds are, as the invariant says it.
use Rattle.std.proofs.Common.{◌≡◌, ℕ, ◌<◌, Bool, true, false, [], ◌∷◌, filter, Some, Contains, refl, ap, sym, subst, ◌∙◌, inl, inr, arith}
use Rattle.std.proofs.lemmas.Bool.{false≢true}
use Rattle.pico_base.specs.declared.numbers.Name.{Name}
use Rattle.pico_base.specs.declared.numbers.Name.TheVariants.{Proc}
use Rattle.pico_base.specs.declared.script.Script.{Script}
use Rattle.rpc_frame.specs.declared.deed.PackedDeed.{PackedDeed}
use Rattle.rpc_frame.specs.declared.frame.Frame.{Frame}
use Rattle.number_maps.specs.Maps.{Numbered, get}
use Rattle.number_maps.specs.Rising.{IsRising}
use Rattle.number_maps.proofs.LookUps.{get-first, get-later}
use Rattle.number_maps.proofs.Rising.{Above, above-first, rising-rest}
use Rattle.kernel_laws.proofs.Members.{contains-cases, contains-filter, contains-first, contains-later, contains-none}
use Rattle.kernel_laws.proofs.Plain.{from_some}
use Rattle.entry_laws.specs.Entering.{is_used_name}
use Rattle.node_model.specs.Bodies.{Body}
use Rattle.node_model.specs.Parcels.{pack_all}
use Rattle.node_model.specs.Spelling.{pack}
use Rattle.world_model.specs.Census.{brings}
use Rattle.world_model.specs.World.{World}
use Rattle.world_laws.specs.Invariant.{Holds}
use Rattle.world_laws.specs.Names.{IsBringer, NameHolds, OneIf, forker, is_stream_of, name_sight}
use Rattle.world_laws.specs.Places.{Beside, Unmade}
use Rattle.world_laws.specs.Sights.{frames_to, is_born_in}

-- ---- entries by rising number

above-contains : {V : Type 0} (n : ℕ) (m : Numbered V) (e : ℕ × V) → Above n m → Contains m e → n < e.0
above-contains n [] e above there = absurd (contains-none e there)
above-contains n (x ∷ m) e above there =
    elim (contains-cases x m e there) [
      | inl same ↦ subst (λ y. n < y.0) same above.0
      | inr later ↦ above-contains n m e above.1 later
    ]

-- an entry is found by its number
found-at : {V : Type 0} (m : Numbered V) (e : ℕ × V) → IsRising m → Contains m e → get m e.0 ≡ Some e.1
found-at [] e r there = absurd (contains-none e there)
found-at (x ∷ m) e r there =
    elim (contains-cases x m e there) [
      | inl same ↦ subst (λ y. get (x ∷ m) y.0 ≡ Some y.1) same (get-first x m x.0 refl)
      | inr later ↦
          let above = above-contains x.0 m e (above-first x m r) later
          in get-later x m e.0 (λ same. omega (arith, above, same)) ∙ found-at m e (rising-rest x m r) later
    ]

-- so there is one for a number
pub one-entry : {V : Type 0} (m : Numbered V) (e f : ℕ × V) → IsRising m → Contains m e → Contains m f → e.0 ≡ f.0
    → e.1 ≡ f.1
one-entry m e f r here there same =
    from_some e.1 f.1 (sym (found-at m e r here) ∙ ap (get m) same ∙ found-at m f r there)

-- each deed that is packed is of an entry
pub unpacked : (bodies : Numbered Body) (deed : PackedDeed) → Contains (pack_all Proc bodies) deed
    → (e : ℕ × Body) × Contains bodies e × (pack (Proc e.0) e.1 ≡ deed)
unpacked [] deed there = absurd (contains-none deed there)
unpacked (x ∷ bodies) deed there =
    elim (contains-cases (pack (Proc x.0) x.1) (pack_all Proc bodies) deed there) [
      | inl same ↦ (x, contains-first x bodies, same)
      | inr later ↦
          let u = unpacked bodies deed later in (u.0, contains-later x bodies u.0 u.1, u.2)
    ]

-- ---- a deed that is brought

module _ (script : Script) (w : World) (b : Beside) (holds : Holds script w [] b) where
  -- a frame brings a name's deed: the name is used, and the deed is in this frame
  pub record Brought (name : Name) (to sender : ℕ) (f : Frame) : Type 0 where
    pub used : is_used_name b.kernel name ≡ true
    pub in_stream : is_stream_of (forker script) (b.deed name) to sender ≡ true
    pub bringer : IsBringer b.pids name (b.body name) (b.deed name) f

  used-where-made : (name : Name) (t : Bool) → is_used_name b.kernel name ≡ t
      → (b.deed name ≡ Unmade → ⊥) → is_used_name b.kernel name ≡ true
  used-where-made name true is made = is
  used-where-made name false is made =
      let n : NameHolds script b.pids (is_born_in w) name (name_sight script w [] b name) = holds.names name
      in absurd (made (n.made.1 is))

  brought-by : (name : Name) (to sender : ℕ) (f : Frame) (t : Bool)
      → is_stream_of (forker script) (b.deed name) to sender ≡ t
      → OneIf t (IsBringer b.pids name (b.body name) (b.deed name))
      (filter (brings name) (frames_to w to sender))
      → Contains (filter (brings name) (frames_to w to sender)) f → Brought name to sender f
  brought-by name to sender f false is one there = absurd (contains-none f (subst (λ fs. Contains fs f) one there))
  brought-by name to sender f true is one there =
      elim (contains-cases one.one [] f (subst (λ fs. Contains fs f) one.only there)) [
        | inl same ↦ record {
          used = used-where-made name (is_used_name b.kernel name) refl
              (λ unmade. false≢true (sym (ap (λ place. is_stream_of (forker script) place to sender) unmade) ∙ is));
          in_stream = is;
          bringer = subst (IsBringer b.pids name (b.body name) (b.deed name)) same one.holds;
        }
        | inr later ↦ absurd (contains-none f later)
      ]

  -- A frame on its way that brings a name's deed brings it as the invariant says.
  pub brought-is : (name : Name) (to sender : ℕ) (f : Frame) → Contains (frames_to w to sender) f
      → brings name f ≡ true → Brought name to sender f
  brought-is name to sender f there has =
      let n : NameHolds script b.pids (is_born_in w) name (name_sight script w [] b name) = holds.names name
      in brought-by name to sender f (is_stream_of (forker script) (b.deed name) to sender) refl
      (n.streams to sender) (contains-filter (brings name) (frames_to w to sender) f there has)
