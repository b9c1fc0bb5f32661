-- Readers and spellings that are inverse to each other, and that what is put together of such ones is so, too.
use Rattle.std.proofs.Common.{◌≡◌, ℕ, zero, suc, ◌<◌, Bool, true, false, cond, eqb, List, [], ◌∷◌, ◌++◌, length, Option, Some, None, refl, sym, ap, subst, ◌∙◌, append_assoc}
use Rattle.std.specs.Prelude.{find}
use Rattle.std.specs.List.{flat_map, AllByRecursion}
use Rattle.std.proofs.lemmas.Bool.{eqb-true}
use Rattle.std.proofs.lemmas.List.Concat.{flat_map-cons}
use Rattle.pico_base.specs.Options.{◌>>=◌}
use Rattle.body_fields.proofs.Fields.{IsBytes, IsBytes-rest, bind_some, guard_ended, some_is, Takes, Takes-then}
use Rattle.frame_bytes.specs.Readers.{Reader, byte_at, passing, one_of, many, counted, one, two, three, four, five, pick, tabled}

-- what is read is spelled so, and what is spelled so is read
pub record Inverse (A : Type 0) (Fits : A → Type 0) (spell : A → List ℕ) (read : Reader A) : Type 0 where
  pub takes : (bytes : List ℕ) (x : A × List ℕ) → IsBytes bytes → read bytes ≡ Some x → Takes bytes (spell x.0) x.1
      × Fits x.0
  pub again : (a : A) (rest : List ℕ) → Fits a → read (spell a ++ rest) ≡ Some (a, rest)

-- ---- a byte, and tests

-- a byte is read as it is
pub byte-inverse : Inverse ℕ (λ n. n < 256) (λ n. n ∷ []) byte_at
byte-inverse = record { takes = byte-takes; again = λ n rest fits. refl } where
  byte-takes : (bytes : List ℕ) (x : ℕ × List ℕ) → IsBytes bytes → byte_at bytes ≡ Some x → Takes bytes (x.0 ∷ []) x.1
      × (x.0 < 256)
  byte-takes [] x fits e = absurd cc
  byte-takes (b ∷ bytes) x fits e =
      subst (λ (y : ℕ × List ℕ). Takes (b ∷ bytes) (y.0 ∷ []) y.1 × (y.0 < 256)) (some_is (b, bytes) x e)
      (record { parts = refl; rest_fits = IsBytes-rest b bytes fits }, fits 0)

-- a value that passes a test
pub record Passes (A : Type 0) (Fits : A → Type 0) (test : A → Bool) (a : A) : Type 0 where
  pub fits : Fits a
  pub passes : test a ≡ true

-- a value that passes a test is read as it is spelled where any value is
pub passing-inverse : (A : Type 0) (Fits : A → Type 0) (spell : A → List ℕ) (read : Reader A) (test : A → Bool)
    → Inverse A Fits spell read
    → Inverse A (Passes A Fits test) spell (passing test read)
passing-inverse A Fits spell read test i = record { takes = take; again = give } where
  take : (bytes : List ℕ) (x : A × List ℕ) → IsBytes bytes → passing test read bytes ≡ Some x
      → Takes bytes (spell x.0) x.1 × Passes A Fits test x.0
  take bytes x fits e =
      let a = bind_some (read bytes) (λ n. cond (test n.0) (Some n) None) x e
      in let g = guard_ended (test a.0.0) a.0 x a.2
      in let t = i.takes bytes a.0 fits a.1
      in subst (λ (y : A × List ℕ). Takes bytes (spell y.0) y.1 × Passes A Fits test y.0) g.1
      (t.0, record { fits = t.1; passes = g.0 })

  give : (a : A) (rest : List ℕ) → Passes A Fits test a → passing test read (spell a ++ rest) ≡ Some (a, rest)
  give a rest p = rw (i.again a rest p.fits, p.passes) refl

-- the same, under another name of what fits
pub renamed : (A : Type 0) (Fits Named : A → Type 0) (spell : A → List ℕ) (read : Reader A)
    → ((a : A) → Fits a → Named a) → ((a : A) → Named a → Fits a)
    → Inverse A Fits spell read → Inverse A Named spell read
renamed A Fits Named spell read there back i =
    record {
      takes = λ bytes x fits e. let t = i.takes bytes x fits e in (t.0, there x.0 t.1);
      again = λ a rest fits. i.again a rest (back a fits);
    }

-- ---- one of a list of values, by its byte

found-is : (A : Type 0) (code : A → ℕ) (b : ℕ) (values : List A) (a : A) (Fits : A → Type 0)
    → AllByRecursion Fits values
    → find (λ x. eqb (code x) b) values ≡ Some a → (code a ≡ b) × Fits a
found-is A code b [] a Fits all e = absurd cc
found-is A code b (v ∷ values) a Fits all e =
    by-test (eqb (code v) b) refl (λ g. found-is A code b values a Fits all.1 g) e where
      by-test : (t : Bool) → eqb (code v) b ≡ t → (find (λ x. eqb (code x) b) values ≡ Some a → (code a ≡ b) × Fits a)
          → cond t (Some v) (find (λ x. eqb (code x) b) values) ≡ Some a → (code a ≡ b) × Fits a
      by-test true t later g = subst (λ (y : A). (code y ≡ b) × Fits y) (some_is v a g) (eqb-true (code v) b t, all.0)
      by-test false t later g = later g

-- one of a list of values with different bytes is read as it is spelled
pub one_of-inverse : (A : Type 0) (Fits : A → Type 0) (code : A → ℕ) (values : List A) → AllByRecursion Fits values
    → ((a : A) → Fits a → find (λ x. eqb (code x) (code a)) values ≡ Some a)
    → Inverse A Fits (λ a. code a ∷ []) (one_of code values)
one_of-inverse A Fits code values all there = record { takes = take; again = give } where
  take : (bytes : List ℕ) (x : A × List ℕ) → IsBytes bytes → one_of code values bytes ≡ Some x
      → Takes bytes (code x.0 ∷ []) x.1 × Fits x.0
  take bytes x fits e =
      let a = bind_some (byte_at bytes)
      (λ byte. find (λ y. eqb (code y) byte.0) values >>= λ value. Some (value, byte.1)) x e
      in let b = bind_some (find (λ y. eqb (code y) a.0.0) values) (λ value. Some (value, a.0.1)) x a.2
      in let t = byte-inverse.takes bytes a.0 fits a.1
      in let is = found-is A code a.0.0 values b.0 Fits all b.1
      in let spelled : Takes bytes (code b.0 ∷ []) a.0.1 = subst (λ (n : ℕ). Takes bytes (n ∷ []) a.0.1) (sym is.0) t.0
      in subst (λ (y : A × List ℕ). Takes bytes (code y.0 ∷ []) y.1 × Fits y.0) (some_is (b.0, a.0.1) x b.2)
      (spelled, is.1)

  give : (a : A) (rest : List ℕ) → Fits a → one_of code values (code a ∷ rest) ≡ Some (a, rest)
  give a rest fits = ap (λ (o : Option A). o >>= λ value. Some (value, rest)) (there a fits)

-- ---- several values, and a count of them

pub many-takes : (A : Type 0) (Fits : A → Type 0) (spell : A → List ℕ) (read : Reader A) → Inverse A Fits spell read
    → (n : ℕ) (bytes : List ℕ) (x : List A × List ℕ) → IsBytes bytes → many read n bytes ≡ Some x
    → Takes bytes (flat_map spell x.0) x.1 × ((length x.0 ≡ n) × AllByRecursion Fits x.0)
unfolding many
many-takes A Fits spell read i zero bytes x fits e =
    subst (λ (y : List A × List ℕ). Takes bytes (flat_map spell y.0) y.1 × ((length y.0 ≡ 0) × AllByRecursion Fits y.0))
    (some_is ([], bytes) x e)
    (record { parts = refl; rest_fits = fits }, (refl, tt))
many-takes A Fits spell read i (suc n) bytes x fits e =
    let a = bind_some (read bytes) (λ first. many read n first.1 >>= λ others. Some (first.0 ∷ others.0, others.1)) x e
    in let b = bind_some (many read n a.0.1) (λ others. Some (a.0.0 ∷ others.0, others.1)) x a.2
    in let first = i.takes bytes a.0 fits a.1
    in let second = many-takes A Fits spell read i n a.0.1 b.0 first.0.rest_fits b.1
    in let both = Takes-then bytes (spell a.0.0) a.0.1 (flat_map spell b.0.0) b.0.1 first.0 second.0
    in let made : List A × List ℕ = (a.0.0 ∷ b.0.0, b.0.1)
    in subst (λ (y : List A × List ℕ). Takes bytes (flat_map spell y.0) y.1
    × ((length y.0 ≡ suc n) × AllByRecursion Fits y.0)) (some_is made x b.2)
    (rw flat_map-cons both, (ap suc second.1.0, (first.1, second.1.1)))

pub many-again : (A : Type 0) (Fits : A → Type 0) (spell : A → List ℕ) (read : Reader A) → Inverse A Fits spell read
    → (xs : List A) (rest : List ℕ) → AllByRecursion Fits xs
    → many read (length xs) (flat_map spell xs ++ rest) ≡ Some (xs, rest)
unfolding many
many-again A Fits spell read i [] rest fits = refl
many-again A Fits spell read i (x ∷ xs) rest fits =
    let regrouped : flat_map spell (x ∷ xs) ++ rest ≡ spell x ++ (flat_map spell xs ++ rest) =
    ap (λ (y : List ℕ). y ++ rest) (flat_map-cons spell x xs) ∙ append_assoc (spell x) (flat_map spell xs) rest
    in ap (many read (suc (length xs))) regrouped
    ∙ rw (i.again x (flat_map spell xs ++ rest) fits.0, many-again A Fits spell read i xs rest fits.1) refl

-- a count that fits, and values that do
pub record Counted (A : Type 0) (Counts : ℕ → Type 0) (Fits : A → Type 0) (xs : List A) : Type 0 where
  pub count : Counts (length xs)
  pub each : AllByRecursion Fits xs

-- a list behind its count is read as it is spelled where its values are
pub counted-inverse : (A : Type 0) (Counts : ℕ → Type 0) (spell_count : ℕ → List ℕ) (count : Reader ℕ) (Fits : A
    → Type 0) (spell : A → List ℕ) (read : Reader A)
    → Inverse ℕ Counts spell_count count → Inverse A Fits spell read
    → Inverse (List A) (Counted A Counts Fits) (λ xs. spell_count (length xs) ++ flat_map spell xs) (counted count read)
counted-inverse A Counts spell_count count Fits spell read j i = record { takes = take; again = give } where
  take : (bytes : List ℕ) (x : List A × List ℕ) → IsBytes bytes → counted count read bytes ≡ Some x
      → Takes bytes (spell_count (length x.0) ++ flat_map spell x.0) x.1 × Counted A Counts Fits x.0
  take bytes x fits e =
      let a = bind_some (count bytes) (λ n. many read n.0 n.1) x e
      in let first = j.takes bytes a.0 fits a.1
      in let second = many-takes A Fits spell read i a.0.0 a.0.1 x first.0.rest_fits a.2
      in let both = Takes-then bytes (spell_count a.0.0) a.0.1 (flat_map spell x.0) x.1 first.0 second.0
      in (
        subst (λ (n : ℕ). Takes bytes (spell_count n ++ flat_map spell x.0) x.1) (sym second.1.0) both,
        record { count = subst Counts (sym second.1.0) first.1; each = second.1.1 },
      )

  give : (xs : List A) (rest : List ℕ) → Counted A Counts Fits xs
      → counted count read ((spell_count (length xs) ++ flat_map spell xs) ++ rest) ≡ Some (xs, rest)
  give xs rest c =
      ap (counted count read) (append_assoc (spell_count (length xs)) (flat_map spell xs) rest)
      ∙ rw (j.again (length xs) (flat_map spell xs ++ rest) c.count) (many-again A Fits spell read i xs rest c.each)

-- ---- one to five fields behind some bytes

-- what a reader gives behind these bytes is spelled by them and by what it took
pub record Behind (Z : Type 0) (Fits : Z → Type 0) (spell : Z → List ℕ) (front bytes : List ℕ) (x : Z
    × List ℕ) : Type 0 where
  pub took : Takes (front ++ bytes) (spell x.0) x.1
  pub fits : Fits x.0

-- a field: which values fit, how they are spelled, and what reads them
pub record Field (A : Type 0) : Type 1 where
  pub Fits : A → Type 0
  pub spell : A → List ℕ
  pub read : Reader A
  pub inverse : Inverse A Fits spell read

module _ (Z : Type 0) (Fits : Z → Type 0) (spell : Z → List ℕ) where
  -- what is read from here on is spelled so behind these bytes
  abbrev pub Reads : Reader Z → List ℕ → Type 0
  Reads read front = (bytes : List ℕ) (x : Z × List ℕ) → IsBytes bytes → read bytes ≡ Some x
      → Behind Z Fits spell front bytes x

  -- a field is read, and what is read behind it is spelled so behind the field
  step : (A : Type 0) (f : Field A) (next : A → Reader Z) (front : List ℕ)
      → ((a : A) → f.Fits a → Reads (next a) (front ++ f.spell a))
      → Reads (λ bytes. f.read bytes >>= λ a. next a.0 a.1) front
  step A f next front later bytes x fits e =
      let a = bind_some (f.read bytes) (λ a. next a.0 a.1) x e
      in let t = f.inverse.takes bytes a.0 fits a.1
      in let b = later a.0.0 t.1 a.0.1 x t.0.rest_fits a.2
      in let regrouped : front ++ bytes ≡ (front ++ f.spell a.0.0) ++ a.0.1 =
      ap (λ (y : List ℕ). front ++ y) t.0.parts ∙ sym (append_assoc front (f.spell a.0.0) a.0.1)
      in record { took = record { parts = regrouped ∙ b.took.parts; rest_fits = b.took.rest_fits }; fits = b.fits }

  pub none-takes : (front : List ℕ) (z : Z) → spell z ≡ front → Fits z → Reads (λ bytes. Some (z, bytes)) front
  none-takes front z same has bytes x fits e =
      subst (λ (y : Z × List ℕ). Behind Z Fits spell front bytes y) (some_is (z, bytes) x e)
      (record { took = record { parts = ap (λ (y : List ℕ). y ++ bytes) (sym same); rest_fits = fits }; fits = has })

  pub one-takes : (A : Type 0) (f : Field A) (make : A → Z) (front : List ℕ)
      → ((a : A) → spell (make a) ≡ front ++ f.spell a)
      → ((a : A) → f.Fits a → Fits (make a)) → Reads (one f.read make) front
  one-takes A f make front same has =
      step A f (λ a rest. Some (make a, rest)) front
      (λ a fa. none-takes (front ++ f.spell a) (make a) (same a) (has a fa))

  pub two-takes : (A B : Type 0) (f : Field A) (g : Field B) (make : A → B → Z) (front : List ℕ)
      → ((a : A) (b : B) → spell (make a b) ≡ (front ++ f.spell a) ++ g.spell b)
      → ((a : A) (b : B) → f.Fits a → g.Fits b → Fits (make a b)) → Reads (two f.read g.read make) front
  two-takes A B f g make front same has =
      step A f (λ a. one g.read (make a)) front
      (λ a fa. one-takes B g (make a) (front ++ f.spell a) (same a) (λ b. has a b fa))

  pub three-takes : (A B C : Type 0) (f : Field A) (g : Field B) (h : Field C) (make : A → B → C → Z) (front : List ℕ)
      → ((a : A) (b : B) (c : C) → spell (make a b c) ≡ ((front ++ f.spell a) ++ g.spell b) ++ h.spell c)
      → ((a : A) (b : B) (c : C) → f.Fits a → g.Fits b → h.Fits c → Fits (make a b c))
      → Reads (three f.read g.read h.read make) front
  three-takes A B C f g h make front same has =
      step A f (λ a. two g.read h.read (make a)) front
      (λ a fa. two-takes B C g h (make a) (front ++ f.spell a) (same a) (λ b c. has a b c fa))

  pub four-takes : (A B C D : Type 0) (f : Field A) (g : Field B) (h : Field C) (i : Field D) (make : A → B → C → D → Z)
      (front : List ℕ)
      → ((a : A) (b : B) (c : C) (d : D)
      → spell (make a b c d) ≡ (((front ++ f.spell a) ++ g.spell b) ++ h.spell c) ++ i.spell d)
      → ((a : A) (b : B) (c : C) (d : D) → f.Fits a → g.Fits b → h.Fits c → i.Fits d → Fits (make a b c d))
      → Reads (four f.read g.read h.read i.read make) front
  four-takes A B C D f g h i make front same has =
      step A f (λ a. three g.read h.read i.read (make a)) front
      (λ a fa. three-takes B C D g h i (make a) (front ++ f.spell a) (same a) (λ b c d. has a b c d fa))

  pub five-takes : (A B C D E : Type 0) (f : Field A) (g : Field B) (h : Field C) (i : Field D) (j : Field E) (make : A
      → B → C → D → E → Z) (front : List ℕ)
      → ((a : A) (b : B) (c : C) (d : D) (e : E)
      → spell (make a b c d e) ≡ ((((front ++ f.spell a) ++ g.spell b) ++ h.spell c) ++ i.spell d) ++ j.spell e)
      → ((a : A) (b : B) (c : C) (d : D) (e : E) → f.Fits a → g.Fits b → h.Fits c → i.Fits d → j.Fits e
      → Fits (make a b c d e))
      → Reads (five f.read g.read h.read i.read j.read make) front
  five-takes A B C D E f g h i j make front same has =
      step A f (λ a. four g.read h.read i.read j.read (make a)) front
      (λ a fa. four-takes B C D E g h i j (make a) (front ++ f.spell a) (same a) (λ b c d e. has a b c d e fa))

  -- each row's fields are spelled so behind its code
  abbrev pub ReadsRow : ℕ × Reader Z → Type 0
  ReadsRow row = Reads row.1 (row.0 ∷ [])

  pub pick-takes : (rows : List (ℕ × Reader Z)) → AllByRecursion ReadsRow rows → (code : ℕ)
      → Reads (pick rows code) (code ∷ [])
  pick-takes [] all code bytes x fits e = absurd cc
  pick-takes (row ∷ rows) all code bytes x fits e =
      by-test (eqb code row.0) refl (pick-takes rows all.1 code bytes x fits) e where
        by-test : (t : Bool) → eqb code row.0 ≡ t
            → (pick rows code bytes ≡ Some x → Behind Z Fits spell (code ∷ []) bytes x)
            → cond t (row.1 bytes) (pick rows code bytes) ≡ Some x → Behind Z Fits spell (code ∷ []) bytes x
        by-test true t later g =
            subst (λ (n : ℕ). Behind Z Fits spell (n ∷ []) bytes x) (sym (eqb-true code row.0 t)) (all.0 bytes x fits g)
        by-test false t later g = later g

  pub tabled-takes : (rows : List (ℕ × Reader Z)) → AllByRecursion ReadsRow rows → Reads (tabled rows) []
  tabled-takes rows all bytes x fits e =
      let a = bind_some (byte_at bytes) (λ code. pick rows code.0 code.1) x e
      in let t = byte-inverse.takes bytes a.0 fits a.1
      in let b = pick-takes rows all a.0.0 a.0.1 x t.0.rest_fits a.2
      in record { took = record { parts = t.0.parts ∙ b.took.parts; rest_fits = b.took.rest_fits }; fits = b.fits }

-- ---- what was spelled is read again

-- one field is read again, and made into a value
pub one-again : (A Z : Type 0) (f : Field A) (make : A → Z) (a : A) (rest : List ℕ) → f.Fits a
    → one f.read make (f.spell a ++ rest) ≡ Some (make a, rest)
one-again A Z f make a rest fa = rw (f.inverse.again a rest fa) refl

-- two fields one behind the other are
pub two-again : (A B Z : Type 0) (f : Field A) (g : Field B) (make : A → B → Z) (a : A) (b : B) (rest : List ℕ)
    → f.Fits a → g.Fits b
    → two f.read g.read make (f.spell a ++ (g.spell b ++ rest)) ≡ Some (make a b, rest)
two-again A B Z f g make a b rest fa fb =
    rw (f.inverse.again a (g.spell b ++ rest) fa) (one-again B Z g (make a) b rest fb)

-- three are
pub three-again : (A B C Z : Type 0) (f : Field A) (g : Field B) (h : Field C) (make : A → B → C → Z) (a : A) (b : B)
    (c : C) (rest : List ℕ)
    → f.Fits a → g.Fits b → h.Fits c
    → three f.read g.read h.read make (f.spell a ++ (g.spell b ++ (h.spell c ++ rest))) ≡ Some (make a b c, rest)
three-again A B C Z f g h make a b c rest fa fb fc =
    rw (f.inverse.again a (g.spell b ++ (h.spell c ++ rest)) fa) (two-again B C Z g h (make a) b c rest fb fc)

-- four are
pub four-again : (A B C D Z : Type 0) (f : Field A) (g : Field B) (h : Field C) (i : Field D) (make : A → B → C → D → Z)
    (a : A) (b : B) (c : C) (d : D) (rest : List ℕ)
    → f.Fits a → g.Fits b → h.Fits c → i.Fits d
    → four f.read g.read h.read i.read make (f.spell a ++ (g.spell b ++ (h.spell c ++ (i.spell d ++ rest))))
    ≡ Some (make a b c d, rest)
four-again A B C D Z f g h i make a b c d rest fa fb fc fd =
    rw (f.inverse.again a (g.spell b ++ (h.spell c ++ (i.spell d ++ rest))) fa)
    (three-again B C D Z g h i (make a) b c d rest fb fc fd)

-- five are
pub five-again : (A B C D E Z : Type 0) (f : Field A) (g : Field B) (h : Field C) (i : Field D) (j : Field E) (make : A
    → B → C → D → E → Z)
    (a : A) (b : B) (c : C) (d : D) (e : E) (rest : List ℕ) → f.Fits a → g.Fits b → h.Fits c → i.Fits d → j.Fits e
    → five f.read g.read h.read i.read j.read make
    (f.spell a ++ (g.spell b ++ (h.spell c ++ (i.spell d ++ (j.spell e ++ rest))))) ≡ Some (make a b c d e, rest)
five-again A B C D E Z f g h i j make a b c d e rest fa fb fc fd fe =
    rw (f.inverse.again a (g.spell b ++ (h.spell c ++ (i.spell d ++ (j.spell e ++ rest)))) fa)
    (four-again B C D E Z g h i j (make a) b c d e rest fb fc fd fe)
