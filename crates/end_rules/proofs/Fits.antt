-- A parcel that fits: what the end of its process asks of it.
use Rattle.std.proofs.Common.{◌≡◌, ◌∙◌, ℕ, ◌<◌, ◌≢◌, Bool, true, false, ◌&&◌, ◌||◌, nat_eq, nat_lt, List, [], ◌∷◌, map, Option, Some, None, is_none, is_some, refl, ap, sym, subst, arith, inl, inr}
use Rattle.std.specs.Prelude.{◌⊎◌, if◌then◌else◌}
use Rattle.std.specs.List.{list_all, list_any}
use Rattle.std.specs.Option.{option_and_then, option_map}
use Rattle.std.proofs.lemmas.Bool.{ltb-true}
use Rattle.pico_base.specs.declared.numbers.Name.{Name}
use Rattle.pico_base.specs.declared.numbers.Name.TheVariants.{Proc, Msg, Sem}
use Rattle.rpc_frame.specs.declared.deed.PackedDeed.{PackedDeed}
use Rattle.rpc_frame.specs.declared.deed.Parcel.{Parcel}
use Rattle.number_maps.specs.Maps.{Numbered, get}
use Rattle.number_maps.specs.Rising.{IsRising}
use Rattle.number_maps.proofs.LookUps.{get-first, get-later}
use Rattle.number_maps.proofs.Order.{same-from-nat_eq}
use Rattle.number_maps.proofs.Rising.{above-first, above-lower, get-above, rising-behind, rising-nothing, rising-rest}
use Rattle.node_model.specs.Kinds.{Named, get_named, is_same_name, number_of}
use Rattle.node_model.specs.Bodies as model
use Rattle.node_model.specs.Bodies.{is_over_body}
use Rattle.node_model.specs.Parcels.{are_rising, fits_bodies, fits_if, has_own_row, is_held_none, is_over_but_for, numbered_body, read_deeds, with_body}
use Rattle.node_model.specs.Spelling.{read_deed}
use Rattle.deed_box.specs.Deeds.{AreAbsent}
use Rattle.deed_box.specs.Packing.{names_of}
use Rattle.node_serve.specs.declared.body.Body.{Body}
use Rattle.node_serve.specs.Bodies.{bodies_of, body_of}
use Rattle.node_serve.specs.Ending.{fits_as_read, may_be_read, rise}
use Rattle.node_serve.proofs.KernelLemmas.{bodies-get}
use Rattle.end_rules.specs.Fitting.{fits_deeds}

differ : {B : Type 0} → false ≡ true → B
differ h = absurd (cc)

both : (a b : Bool) → (a && b) ≡ true → (a ≡ true) × (b ≡ true)
both true b h = (refl, h)
both false b h = absurd (cc)

-- ---- the bodies that are read

-- each deed is of a process, and is read as the body in its place
unfoldable Reads : List PackedDeed → Numbered model.Body → Type 0
Reads [] [] = Unit {0}
Reads [] (e ∷ bodies) = ⊥
Reads (deed ∷ deeds) [] = ⊥
Reads (deed ∷ deeds) (e ∷ bodies) =
    (deed.name ≡ Proc e.0) × ((read_deed deed ≡ Some e.1) × Reads deeds bodies)

unfoldable ReadsIf : List PackedDeed → Option (Numbered model.Body) → Type 0
ReadsIf deeds None = Unit {0}
ReadsIf deeds (Some bodies) = Reads deeds bodies

by-rest : (deed : PackedDeed) (deeds : List PackedDeed) (pid : ℕ) (body : model.Body) → deed.name ≡ Proc pid
    → read_deed deed ≡ Some body → (o : Option (Numbered model.Body)) → ReadsIf deeds o
    → ReadsIf (deed ∷ deeds) (with_body o (pid, body))
unfolding Reads ReadsIf
by-rest deed deeds pid body name read None rest = tt
by-rest deed deeds pid body name read (Some bodies) rest = (name, (read, rest))

by-body : (deed : PackedDeed) (deeds : List PackedDeed) (pid : ℕ) → deed.name ≡ Proc pid → (o : Option model.Body)
    → read_deed deed ≡ o → ReadsIf deeds (read_deeds deeds)
    → ReadsIf (deed ∷ deeds) (option_and_then (with_body (read_deeds deeds)) (option_map (λ body. (pid, body)) o))
unfolding ReadsIf
by-body deed deeds pid name None read rest = tt
by-body deed deeds pid name (Some body) read rest = by-rest deed deeds pid body name read (read_deeds deeds) rest

by-name : (deed : PackedDeed) (deeds : List PackedDeed) (name : Name) → deed.name ≡ name
    → ReadsIf deeds (read_deeds deeds)
    → ReadsIf (deed ∷ deeds) (option_and_then (with_body (read_deeds deeds)) (numbered_body deed name))
unfolding ReadsIf
by-name deed deeds (Proc pid) is rest = by-body deed deeds pid is (read_deed deed) refl rest
by-name deed deeds (Msg id) is rest = tt
by-name deed deeds (Sem id) is rest = tt

all-read : (deeds : List PackedDeed) → ReadsIf deeds (read_deeds deeds)
unfolding Reads ReadsIf
all-read [] = tt
all-read (deed ∷ deeds) = by-name deed deeds deed.name refl (all-read deeds)

-- ---- what is asked of them

-- they stand by rising number
to-rising : (bodies : Numbered model.Body) → are_rising bodies ≡ true → IsRising bodies
to-rising [] h = rising-nothing model.Body
to-rising (e ∷ []) h = rising-behind e [] tt (rising-nothing model.Body)
to-rising (e ∷ f ∷ bodies) h =
    let parts = both (nat_lt e.0 f.0) (are_rising (f ∷ bodies)) h
    in let below : e.0 < f.0 = ltb-true e.0 f.0 parts.0
    in let rest : IsRising (f ∷ bodies) = to-rising (f ∷ bodies) parts.1
    in rising-behind e (f ∷ bodies) (below, above-lower e.0 f.0 bodies below (above-first f bodies rest)) rest

numbers-rise : (deeds : List PackedDeed) (bodies : Numbered model.Body) → Reads deeds bodies
    → are_rising bodies ≡ true → rise (map (λ deed. number_of deed.name) deeds) ≡ true
unfolding Reads
numbers-rise [] [] reads h = refl
numbers-rise [] (e ∷ bodies) reads h = absurd reads
numbers-rise (deed ∷ deeds) [] reads h = absurd reads
numbers-rise (deed ∷ []) (e ∷ []) reads h = refl
numbers-rise (deed ∷ []) (e ∷ f ∷ bodies) reads h = absurd reads.1.1
numbers-rise (deed ∷ next ∷ deeds) (e ∷ []) reads h = absurd reads.1.1
numbers-rise (deed ∷ next ∷ deeds) (e ∷ f ∷ bodies) reads h =
    let parts = both (nat_lt e.0 f.0) (are_rising (f ∷ bodies)) h
    in ap (λ b. b && rise (map (λ deed. number_of deed.name) (next ∷ deeds)))
    (ap (λ name. nat_lt (number_of name) (number_of next.name)) reads.0
    ∙ ap (λ name. nat_lt e.0 (number_of name)) reads.1.1.0 ∙ parts.0)
    ∙ numbers-rise (next ∷ deeds) (f ∷ bodies) reads.1.1 parts.1

module _ (parcel : Parcel) where
  abbrev Own : Numbered model.Body → Type 0
  Own bodies = has_own_row parcel.call (get bodies parcel.pid) ≡ true

  -- the process's own deed is among them
  own-named : (deeds : List PackedDeed) (bodies : Numbered model.Body) → Reads deeds bodies → Own bodies
      → list_any (is_same_name (Proc parcel.pid)) (names_of deeds) ≡ true
  unfolding Reads
  own-named [] [] reads own = differ own
  own-named [] (e ∷ bodies) reads own = absurd reads
  own-named (deed ∷ deeds) [] reads own = absurd reads
  own-named (deed ∷ deeds) (e ∷ bodies) reads own =
      ap (λ name. is_same_name (Proc parcel.pid) name || list_any (is_same_name (Proc parcel.pid)) (names_of deeds))
      reads.0
      ∙ by (nat_eq parcel.pid e.0) refl (own-named deeds bodies reads.1.1)
    where
      apart : (a b : ℕ) → nat_eq a b ≡ false → a ≢ b
      apart a b h same = grind arith

      by : (b : Bool) → nat_eq parcel.pid e.0 ≡ b
          → (Own bodies → list_any (is_same_name (Proc parcel.pid)) (names_of deeds) ≡ true)
          → (b || list_any (is_same_name (Proc parcel.pid)) (names_of deeds)) ≡ true
      by true is later = refl
      by false is later =
          later (sym (ap (has_own_row parcel.call) (get-later e bodies parcel.pid (apart parcel.pid e.0 is))) ∙ own)

  -- a body of the process is its own, which is the only one
  abbrev OwnOrNone : Numbered model.Body → Type 0
  OwnOrNone bodies = Own bodies ⊎ (get bodies parcel.pid ≡ None)

  some-own : (e : ℕ × model.Body) (bodies : Numbered model.Body) → parcel.pid ≡ e.0 → OwnOrNone (e ∷ bodies)
      → has_own_row parcel.call (Some e.1) ≡ true
  some-own e bodies same (inl own) = sym (ap (has_own_row parcel.call) (get-first e bodies parcel.pid same)) ∙ own
  some-own e bodies same (inr none) =
      let no : Some e.1 ≡ None = sym (get-first e bodies parcel.pid same) ∙ none in absurd (cc)

  rest-own : (e : ℕ × model.Body) (bodies : Numbered model.Body) → IsRising (e ∷ bodies) → (b : Bool)
      → nat_eq e.0 parcel.pid ≡ b → OwnOrNone (e ∷ bodies) → OwnOrNone bodies
  rest-own e bodies rises true is own =
      inr (subst (λ pid. get bodies pid ≡ None) (same-from-nat_eq e.0 parcel.pid is)
      (get-above e.0 bodies (above-first e bodies rises)))
  rest-own e bodies rises false is (inl own) =
      inl (sym (ap (has_own_row parcel.call) (get-later e bodies parcel.pid (apart e.0 parcel.pid is))) ∙ own)
    where
      apart : (a b : ℕ) → nat_eq a b ≡ false → b ≢ a
      apart a b h same = grind arith
  rest-own e bodies rises false is (inr none) =
      inr (sym (get-later e bodies parcel.pid (apart e.0 parcel.pid is)) ∙ none)
    where
      apart : (a b : ℕ) → nat_eq a b ≡ false → b ≢ a
      apart a b h same = grind arith

  may-here : (e : ℕ × model.Body) (bodies : Numbered model.Body) (b : Bool) → nat_eq e.0 parcel.pid ≡ b
      → OwnOrNone (e ∷ bodies) → (b || is_over_body e.1) ≡ true
      → (if b then has_own_row parcel.call (Some e.1) else is_over_body e.1) ≡ true
  may-here e bodies true is own over = some-own e bodies (sym (same-from-nat_eq e.0 parcel.pid is)) own
  may-here e bodies false is own over = over

  each-may : (deeds : List PackedDeed) (bodies : Numbered model.Body) → Reads deeds bodies → IsRising bodies
      → OwnOrNone bodies → list_all (is_over_but_for parcel.pid) bodies ≡ true
      → list_all (λ deed. may_be_read parcel deed.name (read_deed deed)) deeds ≡ true
  unfolding Reads
  each-may [] [] reads rises own over = refl
  each-may [] (e ∷ bodies) reads rises own over = absurd reads
  each-may (deed ∷ deeds) [] reads rises own over = absurd reads
  each-may (deed ∷ deeds) (e ∷ bodies) reads rises own over =
      let parts = both (is_over_but_for parcel.pid e) (list_all (is_over_but_for parcel.pid) bodies) over
      in let rest : Bool = list_all (λ deed. may_be_read parcel deed.name (read_deed deed)) deeds
      in ap (λ name. may_be_read parcel name (read_deed deed) && rest) reads.0
      ∙ ap (λ o. may_be_read parcel (Proc e.0) o && rest) reads.1.0
      ∙ ap (λ b. b && rest) (may-here e bodies (nat_eq e.0 parcel.pid) refl own parts.0)
      ∙ each-may deeds bodies reads.1.1 (rising-rest e bodies rises)
      (rest-own e bodies rises (nat_eq e.0 parcel.pid) refl own) parts.1

-- none is held
all-absent : (old : Named Body) (deeds : List PackedDeed) (bodies : Numbered model.Body) → Reads deeds bodies
    → list_all (is_held_none (bodies_of old)) bodies ≡ true → AreAbsent old (names_of deeds)
unfolding Reads
all-absent old [] [] reads none = tt
all-absent old [] (e ∷ bodies) reads none = absurd reads
all-absent old (deed ∷ deeds) [] reads none = absurd reads
all-absent old (deed ∷ deeds) (e ∷ bodies) reads none =
    let parts = both (is_held_none (bodies_of old) e) (list_all (is_held_none (bodies_of old)) bodies) none
    in (
      ap (get_named old) reads.0
          ∙ by (get_named old (Proc e.0)) (sym (ap is_none (bodies-get old (Proc e.0))) ∙ parts.0),
      all-absent old deeds bodies reads.1.1 parts.1,
    )
  where
    by : (o : Option Body) → is_none (option_map body_of o) ≡ true → o ≡ None
    by None h = refl
    by (Some body) h = absurd (cc)

-- ---- both ends of it

-- What is asked of the parcel where its process's end is carried out.
pub record IsFitFor (old : Named Body) (parcel : Parcel) : Type 0 where
  pub absent : AreAbsent old (names_of parcel.deeds)
  pub as_read : fits_as_read parcel ≡ true

all-three : (a b c : Bool) → a ≡ true → b ≡ true → c ≡ true → (a && (b && c)) ≡ true
all-three a b c first second third = rw (first, second, third) refl

fit-bodies : (old : Named Body) (parcel : Parcel) (bodies : Numbered model.Body) → Reads parcel.deeds bodies
    → fits_bodies (bodies_of old) parcel bodies ≡ true → IsFitFor old parcel
fit-bodies old parcel bodies reads h =
    let a = both (are_rising bodies) _ h
    in let b = both (has_own_row parcel.call (get bodies parcel.pid)) _ a.1
    in let c = both (list_all (is_over_but_for parcel.pid) bodies) _ b.1
    in record {
      absent = all-absent old parcel.deeds bodies reads c.1;
      as_read = all-three _ _ _ (numbers-rise parcel.deeds bodies reads a.0)
          (own-named parcel parcel.deeds bodies reads b.0)
          (each-may parcel parcel.deeds bodies reads (to-rising bodies a.0) (inl b.0) c.0);
    }

by-bodies : (old : Named Body) (parcel : Parcel) (o : Option (Numbered model.Body)) → ReadsIf parcel.deeds o
    → is_some (option_and_then (fits_if (bodies_of old) parcel) o) ≡ true → IsFitFor old parcel
unfolding ReadsIf
by-bodies old parcel None reads h = differ h
by-bodies old parcel (Some bodies) reads h =
    fit-bodies old parcel bodies reads (by (fits_bodies (bodies_of old) parcel bodies) h)
  where
    by : (b : Bool) → is_some (if b then Some bodies else None) ≡ true → b ≡ true
    by true h = refl
    by false h = differ h

-- a parcel that fits is fit for its process's end
pub fit-for : (old : Named Body) (parcel : Parcel) → fits_deeds (bodies_of old) parcel ≡ true → IsFitFor old parcel
fit-for old parcel h = by-bodies old parcel (read_deeds parcel.deeds) (all-read parcel.deeds) h
