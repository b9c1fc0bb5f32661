-- A parcel that fits as far as it can be read, and whose deeds were read: it fits.
use Rattle.std.proofs.Common.{◌≡◌, ◌∙◌, ℕ, ◌<◌, Bool, true, false, not, ◌&&◌, ◌||◌, nat_eq, nat_lt, List, [], ◌∷◌, map, Option, Some, None, is_none, refl, sym, ap, subst, arith}
use Rattle.std.specs.Prelude.{if◌then◌else◌, IsTrue}
use Rattle.std.specs.List.{list_all, list_any, AllByRecursion, IsDistinct}
use Rattle.std.specs.Option.{option_and_then, option_map}
use Rattle.pico_base.specs.declared.call.Call.{Call}
use Rattle.pico_base.specs.declared.numbers.Name.{Name}
use Rattle.pico_base.specs.declared.numbers.Name.TheVariants.{Proc, Msg, Sem}
use Rattle.rpc_frame.specs.declared.deed.PackedDeed.{PackedDeed}
use Rattle.rpc_frame.specs.declared.deed.Parcel.{Parcel}
use Rattle.number_maps.specs.Maps.{Numbered, get, is_used}
use Rattle.number_maps.proofs.LookUps.{get-first, get-later}
use Rattle.number_maps.proofs.Order.{same-from-nat_eq}
use Rattle.node_model.specs.Kinds.{Named, get_named, is_same_name, number_of}
use Rattle.node_model.specs.Bodies as model
use Rattle.node_model.specs.Bodies.{is_over_body}
use Rattle.node_model.specs.Parcels.{are_rising, fits_bodies, fits_if, fitting_bodies, has_own_row, is_held_none, is_over_but_for, numbered_body, read_deeds, with_body}
use Rattle.node_model.specs.Spelling.{read_deed}
use Rattle.deed_box.specs.Deeds.{AreAbsent}
use Rattle.deed_box.specs.Packing.{ArePackedDeeds, IsPackedDeed, names_of}
use Rattle.node_serve.specs.declared.body.Body.{Body}
use Rattle.node_serve.specs.Bodies.{bodies_of, body_of}
use Rattle.node_serve.specs.Spelled.{IsSpelled, suits}
use Rattle.node_serve.specs.Ending.{fits_as_read, may_be, may_be_read, rise}
use Rattle.node_serve.proofs.KernelLemmas.{bodies-get}
use Rattle.node_serve.proofs.Reading.{deed-read}

differ : {B : Type 0} → false ≡ true → B
differ h = absurd (cc)

pub both : (a b : Bool) → (a && b) ≡ true → (a ≡ true) × (b ≡ true)
both true b h = (refl, h)
both false b h = absurd (cc)

-- ---- rising numbers

less : (n m : ℕ) → nat_lt n m ≡ true → n < m
less n m h = grind arith

above-lower : (n m : ℕ) (ns : List ℕ) → n < m → AllByRecursion (λ k. m < k) ns → AllByRecursion (λ k. n < k) ns
above-lower n m [] below all = tt
above-lower n m (k ∷ ns) below all = (omega (arith, below, all.0), above-lower n m ns below all.1)

rise-above : (n : ℕ) (ns : List ℕ) → rise (n ∷ ns) ≡ true → AllByRecursion (λ k. n < k) ns
rise-above n [] h = tt
rise-above n (m ∷ ns) h =
    let w = both (nat_lt n m) (rise (m ∷ ns)) h
    in (less n m w.0, above-lower n m ns (less n m w.0) (rise-above m ns w.1))

rise-rest : (n : ℕ) (ns : List ℕ) → rise (n ∷ ns) ≡ true → rise ns ≡ true
rise-rest n [] h = refl
rise-rest n (m ∷ ns) h = let w = both (nat_lt n m) (rise (m ∷ ns)) h in w.1

above-unused : (n : ℕ) (ns : List ℕ) → AllByRecursion (λ k. n < k) ns → is_used ns n ≡ false
above-unused n [] all = refl
above-unused n (k ∷ ns) all =
    let apart : nat_eq n k ≡ false = grind (arith, all.0) in rw apart (above-unused n ns all.1)

-- no number stands twice
unfoldable pub Apart : List ℕ → Type 0
Apart [] = Unit {0}
Apart (n ∷ ns) = (is_used ns n ≡ false) × Apart ns

-- among rising numbers none stands twice
pub rise-apart : (ns : List ℕ) → rise ns ≡ true → Apart ns
unfolding Apart
rise-apart [] h = tt
rise-apart (n ∷ ns) h = (above-unused n ns (rise-above n ns h), rise-apart ns (rise-rest n ns h))

-- nor a name
others-differ : (name : Name) (deeds : List PackedDeed)
    → AllByRecursion (λ k. number_of name < k) (map (λ deed. number_of deed.name) deeds)
    → AllByRecursion (λ y. is_same_name name y ≡ false) (names_of deeds)
others-differ name [] all = tt
others-differ name (deed ∷ deeds) all =
    let apart : nat_eq (number_of name) (number_of deed.name) ≡ false = grind (arith, all.0)
    in (rw apart (and-false _), others-differ name deeds all.1)
  where
    and-false : (b : Bool) → (b && false) ≡ false
    and-false true = refl
    and-false false = refl

rise-distinct : (deeds : List PackedDeed) → rise (map (λ deed. number_of deed.name) deeds) ≡ true
    → IsDistinct is_same_name (names_of deeds)
unfolding IsDistinct
rise-distinct [] h = tt
rise-distinct (deed ∷ deeds) h = (
  others-differ deed.name deeds
      (rise-above (number_of deed.name) (map (λ d. number_of d.name) deeds) h),
  rise-distinct deeds (rise-rest (number_of deed.name) (map (λ d. number_of d.name) deeds) h),
)

-- ---- what the test says

pub record FitsAsRead (parcel : Parcel) : Type 0 where
  pub rises : rise (map (λ deed. number_of deed.name) parcel.deeds) ≡ true
  pub own : list_any (is_same_name (Proc parcel.pid)) (names_of parcel.deeds) ≡ true
  pub each : list_all (λ deed. may_be_read parcel deed.name (read_deed deed)) parcel.deeds ≡ true

-- a parcel that fits as read passes each part of the test
pub read-parts : (parcel : Parcel) → fits_as_read parcel ≡ true → FitsAsRead parcel
read-parts parcel h =
    let a = both (rise (map (λ deed. number_of deed.name) parcel.deeds)) _ h
    in let b = both (list_any (is_same_name (Proc parcel.pid)) (names_of parcel.deeds)) _ a.1
    in record { rises = a.0; own = b.0; each = b.1 }

-- the names of a parcel that fits are all different
pub names-distinct : (parcel : Parcel) → fits_as_read parcel ≡ true
    → IsDistinct is_same_name (names_of parcel.deeds)
names-distinct parcel h = let f = read-parts parcel h in rise-distinct parcel.deeds f.rises

-- ---- the deeds of a parcel, once they are read

-- a deed of a process that may be in the parcel
pub record Known (parcel : Parcel) (deed : Name × Body) (packed : PackedDeed) : Type 0 where
  pub number : ℕ
  pub name : packed.name ≡ Proc number
  pub same : deed.0 ≡ Proc number
  pub read : read_deed packed ≡ Some (body_of deed.1)
  pub may : may_be parcel number (body_of deed.1) ≡ true

known : (parcel : Parcel) (deed : Name × Body) (packed : PackedDeed) (name : Name) (body : Option model.Body)
    → packed.name ≡ name → packed.name ≡ deed.0 → read_deed packed ≡ Some (body_of deed.1)
    → read_deed packed ≡ body → may_be_read parcel name body ≡ true → Known parcel deed packed
known parcel deed packed (Proc pid) (Some body) is named read was may =
    let same : body ≡ body_of deed.1 = some_same body (body_of deed.1) (sym was ∙ read)
    in record {
      number = pid;
      name = is;
      same = sym named ∙ is;
      read = read;
      may = sym (ap (may_be parcel pid) same) ∙ may;
    }
  where
    some_same : {A : Type 0} (x y : A) → Some x ≡ Some y → x ≡ y
    some_same x y h = cc
known parcel deed packed (Proc pid) None is named read was may =
    let none : None ≡ Some (body_of deed.1) = sym was ∙ read in absurd (cc)
known parcel deed packed (Msg id) body is named read was may = differ may
known parcel deed packed (Sem id) body is named read was may = differ may

-- the deeds and the packed ones are as many, and each is of a process that may be in the parcel
unfoldable pub AllKnown : Parcel → List (Name × Body) → List PackedDeed → Type 0
AllKnown parcel [] [] = Unit {0}
AllKnown parcel [] (p ∷ ps) = ⊥
AllKnown parcel (d ∷ ds) [] = ⊥
AllKnown parcel (d ∷ ds) (p ∷ ps) = Known parcel d p × AllKnown parcel ds ps

-- deeds that were unpacked from ones that pass the test are of processes that may be in the parcel
pub all-known : (parcel : Parcel) (ds : List (Name × Body)) (ps : List PackedDeed)
    → ArePackedDeeds suits IsSpelled ds ps
    → list_all (λ deed. may_be_read parcel deed.name (read_deed deed)) ps ≡ true → AllKnown parcel ds ps
unfolding AllKnown
all-known parcel [] [] packed each = tt
all-known parcel [] (p ∷ ps) packed each = packed
all-known parcel (d ∷ ds) [] packed each = packed
all-known parcel (d ∷ ds) (p ∷ ps) packed each =
    let w = both (may_be_read parcel p.name (read_deed p)) _ each
    in (
      known parcel d p p.name (read_deed p) refl packed.0.name (deed-read d p packed.0) refl w.0,
      all-known parcel ds ps packed.1 w.1,
    )

-- their numbers and bodies
abbrev pub numbered : List (Name × Body) → Numbered model.Body
numbered deeds = map (λ d. (number_of d.0, body_of d.1)) deeds

-- their numbers alone
abbrev pub numbers : List (Name × Body) → List ℕ
numbers deeds = map (λ d. number_of d.0) deeds

module _ (parcel : Parcel) where
  read-all : (ds : List (Name × Body)) (ps : List PackedDeed) → AllKnown parcel ds ps
      → read_deeds ps ≡ Some (numbered ds)
  unfolding AllKnown
  read-all [] [] all = refl
  read-all [] (p ∷ ps) all = absurd all
  read-all (d ∷ ds) [] all = absurd all
  read-all (d ∷ ds) (p ∷ ps) all =
      let k = all.0
      in ap (λ (name : Name). option_and_then (with_body (read_deeds ps)) (numbered_body p name)) k.name
      ∙ ap (λ (o : Option model.Body).
      option_and_then (with_body (read_deeds ps)) (option_map (λ body. (k.number, body)) o)) k.read
      ∙ ap (λ (o : Option (Numbered model.Body)). with_body o (k.number, body_of d.1)) (read-all ds ps all.1)
      ∙ ap (λ (name : Name). Some ((number_of name, body_of d.1) ∷ numbered ds)) (sym k.same)

  same-numbers : (ds : List (Name × Body)) (ps : List PackedDeed) → AllKnown parcel ds ps
      → map (λ deed. number_of deed.name) ps ≡ numbers ds
  unfolding AllKnown
  same-numbers [] [] all = refl
  same-numbers [] (p ∷ ps) all = absurd all
  same-numbers (d ∷ ds) [] all = absurd all
  same-numbers (d ∷ ds) (p ∷ ps) all =
      let k = all.0
      in ap (λ (name : Name). number_of name ∷ map (λ deed. number_of deed.name) ps) (k.name ∙ sym k.same)
      ∙ ap (λ (ns : List ℕ). number_of d.0 ∷ ns) (same-numbers ds ps all.1)

  rising-by : (ds : List (Name × Body)) → rise (numbers ds) ≡ true → are_rising (numbered ds) ≡ true
  rising-by [] h = refl
  rising-by (d ∷ []) h = refl
  rising-by (d ∷ e ∷ ds) h =
      let w = both (nat_lt (number_of d.0) (number_of e.0)) _ h
      in rw w.0 (rising-by (e ∷ ds) w.1)

  over-each : (ds : List (Name × Body)) (ps : List PackedDeed) → AllKnown parcel ds ps
      → list_all (is_over_but_for parcel.pid) (numbered ds) ≡ true
  unfolding AllKnown
  over-each [] [] all = refl
  over-each [] (p ∷ ps) all = absurd all
  over-each (d ∷ ds) [] all = absurd all
  over-each (d ∷ ds) (p ∷ ps) all =
      let k = all.0
      in let here : is_over_but_for parcel.pid (number_of d.0, body_of d.1) ≡ true =
      ap (λ (name : Name). is_over_but_for parcel.pid (number_of name, body_of d.1)) k.same
      ∙ by (nat_eq k.number parcel.pid) (has_own_row parcel.call (Some (body_of d.1))) (is_over_body (body_of d.1))
      k.may
      in rw here (over-each ds ps all.1)
    where
      by : (b own over : Bool) → (if b then own else over) ≡ true → (b || over) ≡ true
      by true own over h = refl
      by false own over h = h

  own-there : (ds : List (Name × Body)) (ps : List PackedDeed) → AllKnown parcel ds ps
      → list_any (is_same_name (Proc parcel.pid)) (names_of ps) ≡ true
      → has_own_row parcel.call (get (numbered ds) parcel.pid) ≡ true
  unfolding AllKnown
  own-there [] [] all h = differ h
  own-there [] (p ∷ ps) all h = absurd all
  own-there (d ∷ ds) [] all h = absurd all
  own-there (d ∷ ds) (p ∷ ps) all h =
      let k = all.0
      in by (number_of d.0) (ap number_of k.same) (nat_eq parcel.pid k.number) refl k.may
      (sym (ap (λ (name : Name).
      is_same_name (Proc parcel.pid) name || list_any (is_same_name (Proc parcel.pid)) (names_of ps)) k.name) ∙ h)
      (own-there ds ps all.1)
    where
      flip : (a b : ℕ) → nat_eq a b ≡ true → nat_eq b a ≡ true
      flip a b h = grind arith

      by : (n : ℕ) → n ≡ all.0.number → (b : Bool) → nat_eq parcel.pid all.0.number ≡ b
          → may_be parcel all.0.number (body_of d.1) ≡ true
          → (b || list_any (is_same_name (Proc parcel.pid)) (names_of ps)) ≡ true
          → (list_any (is_same_name (Proc parcel.pid)) (names_of ps) ≡ true
          → has_own_row parcel.call (get (numbered ds) parcel.pid) ≡ true)
          → has_own_row parcel.call (get ((n, body_of d.1) ∷ numbered ds) parcel.pid) ≡ true
      by n is true same may any later =
          let at : parcel.pid ≡ n = same-from-nat_eq parcel.pid all.0.number same ∙ sym is
          in ap (has_own_row parcel.call) (get-first (n, body_of d.1) (numbered ds) parcel.pid at)
          ∙ sym (ap (λ (b : Bool).
          if b then has_own_row parcel.call (Some (body_of d.1)) else is_over_body (body_of d.1))
          (flip parcel.pid all.0.number same)) ∙ may
      by n is false same may any later =
          let apart : nat_eq parcel.pid n ≡ false =
          subst (λ (m : ℕ). nat_eq parcel.pid m ≡ false) (sym is) same
          in ap (has_own_row parcel.call)
          (get-later (n, body_of d.1) (numbered ds) parcel.pid (apart-from parcel.pid n apart))
          ∙ later any
        where
          apart-from : (a b : ℕ) → nat_eq a b ≡ false → a ≡ b → ⊥
          apart-from a b apart same = grind arith

  none-held : (old : Named Body) (ds : List (Name × Body)) (ps : List PackedDeed) → AllKnown parcel ds ps
      → AreAbsent old (names_of ps)
      → list_all (is_held_none (bodies_of old)) (numbered ds) ≡ true
  unfolding AllKnown
  none-held old [] [] all absent = refl
  none-held old [] (p ∷ ps) all absent = absurd all
  none-held old (d ∷ ds) [] all absent = absurd all
  none-held old (d ∷ ds) (p ∷ ps) all absent =
      let k = all.0
      in let none : get_named (bodies_of old) (Proc (number_of d.0)) ≡ None =
      ap (λ (name : Name). get_named (bodies_of old) (Proc (number_of name))) k.same
      ∙ sym (ap (get_named (bodies_of old)) k.name)
      ∙ bodies-get old p.name ∙ ap (option_map body_of) absent.0
      in rw none (none-held old ds ps all.1 absent.1)

  -- it fits, with these bodies
  pub parcel-fits : (old : Named Body) (ds : List (Name × Body)) → AllKnown parcel ds parcel.deeds
      → AreAbsent old (names_of parcel.deeds)
      → FitsAsRead parcel
      → (fitting_bodies (bodies_of old) parcel ≡ Some (numbered ds))
  parcel-fits old ds all absent f =
      let rises : rise (numbers ds) ≡ true = sym (ap rise (same-numbers ds parcel.deeds all)) ∙ f.rises
      in let fits : fits_bodies (bodies_of old) parcel (numbered ds) ≡ true =
      rw (
        rising-by ds rises,
        own-there ds parcel.deeds all f.own,
        over-each ds parcel.deeds all,
        none-held old ds parcel.deeds all absent,
      ) refl
      in ap (option_and_then (fits_if (bodies_of old) parcel)) (read-all ds parcel.deeds all)
      ∙ ap (λ (b : Bool). if b then Some (numbered ds) else None) fits

  -- its numbers rise
  pub known-rise : (ds : List (Name × Body)) (ps : List PackedDeed) → AllKnown parcel ds ps
      → rise (map (λ deed. number_of deed.name) ps) ≡ true → rise (numbers ds) ≡ true
  known-rise ds ps all rises = sym (ap rise (same-numbers ds ps all)) ∙ rises
