-- What holds of each value that a reader gives, whatever numbers stand for bytes.
use Rattle.std.proofs.Common.{◌≡◌, ℕ, zero, suc, ◌≤◌, Bool, true, cond, ltb, List, [], ◌∷◌, length, Some, None, refl, ap, subst, sym}
use Rattle.std.proofs.lemmas.Bool.{ltb-false}
use Rattle.std.specs.Int.{Width}
use Rattle.std.specs.List.{AllByRecursion}
use Rattle.body_fields.proofs.Fields.{bind_some, guard_ended, guard_some, some_is, whole_is}
use Rattle.body_fields.specs.Fields.{byte_upto, number_at, number_upto, whole}
use Rattle.frame_bytes.specs.Readers.{Reader, byte_at, counted, four, many, one, passing, three, two}

-- each value that is read is like this
abbrev pub Gets : {A : Type 0} → (A → Type 0) → Reader A → Type 0
Gets {A} P read = (bytes : List ℕ) (x : A × List ℕ) → read bytes ≡ Some x → P x.0

-- nothing is said of it
abbrev pub Any : {A : Type 0} → A → Type 0
Any a = Unit {0}

-- so it is with any reader
pub gets-any : {A : Type 0} (read : Reader A) → Gets Any read
gets-any read bytes x e = tt

-- more is said of it than is asked
pub gets-more : {A : Type 0} (P Q : A → Type 0) (read : Reader A) → Gets P read → ((a : A) → P a → Q a) → Gets Q read
gets-more P Q read each more bytes x e = more x.0 (each bytes x e)

-- ---- numbers

-- a number up to a limit
pub gets-upto : (w : Width) (most : ℕ) → Gets (λ n. n ≤ most) (number_upto w most)
unfolding number_upto
gets-upto w most bytes n e =
    let a = bind_some (number_at w bytes) (λ x. cond (ltb most x.0) None (Some x)) n e
    in let g = guard_some (ltb most a.0.0) a.0 n a.2
    in subst (λ (x : ℕ × List ℕ). x.0 ≤ most) g.1 (ltb-false _ _ g.0)

-- and in one byte
pub gets-byte-upto : (most : ℕ) → Gets (λ n. n ≤ most) (byte_upto most)
unfolding byte_upto
gets-byte-upto most bytes n e =
    let a = bind_some (byte_at bytes) (λ x. cond (ltb most x.0) None (Some x)) n e
    in let g = guard_some (ltb most a.0.0) a.0 n a.2
    in subst (λ (x : ℕ × List ℕ). x.0 ≤ most) g.1 (ltb-false _ _ g.0)

-- ---- what is put together

-- a value that passes a test
pub gets-passing : {A : Type 0} (P : A → Type 0) (test : A → Bool) (read : Reader A) → Gets P read
    → Gets (λ a. P a × (test a ≡ true)) (passing test read)
gets-passing {A} P test read each bytes x e =
    let a = bind_some (read bytes) (λ y. cond (test y.0) (Some y) None) x e
    in let g = guard_ended (test a.0.0) a.0 x a.2
    in subst (λ (y : A × List ℕ). P y.0 × (test y.0 ≡ true)) g.1 (each bytes a.0 a.1, g.0)

module _ {Z : Type 0} (R : Z → Type 0) where
  -- what is made of one field,
  pub gets-one : {A : Type 0} (P : A → Type 0) (read : Reader A) (make : A → Z) → Gets P read
      → ((a : A) → P a → R (make a)) → Gets R (one read make)
  gets-one P read make each made bytes x e =
      let a = bind_some (read bytes) (λ y. Some (make y.0, y.1)) x e
      in subst (λ (z : Z × List ℕ). R z.0) (some_is (make a.0.0, a.0.1) x a.2) (made a.0.0 (each bytes a.0 a.1))

  -- of two,
  pub gets-two : {A B : Type 0} (P : A → Type 0) (Q : B → Type 0) (first : Reader A) (second : Reader B)
      (make : A → B → Z) → Gets P first → Gets Q second → ((a : A) (b : B) → P a → Q b → R (make a b))
      → Gets R (two first second make)
  gets-two P Q first second make p q made bytes x e =
      let a = bind_some (first bytes) (λ y. one second (make y.0) y.1) x e
      in gets-one Q second (make a.0.0) q (λ b h. made a.0.0 b (p bytes a.0 a.1) h) a.0.1 x a.2

  -- of three,
  pub gets-three : {A B C : Type 0} (P : A → Type 0) (Q : B → Type 0) (S : C → Type 0) (first : Reader A)
      (second : Reader B) (third : Reader C) (make : A → B → C → Z) → Gets P first → Gets Q second → Gets S third
      → ((a : A) (b : B) (c : C) → P a → Q b → S c → R (make a b c)) → Gets R (three first second third make)
  gets-three P Q S first second third make p q s made bytes x e =
      let a = bind_some (first bytes) (λ y. two second third (make y.0) y.1) x e
      in gets-two Q S second third (make a.0.0) q s (λ b c h i. made a.0.0 b c (p bytes a.0 a.1) h i) a.0.1 x a.2

  -- and of four
  pub gets-four : {A B C D : Type 0} (P : A → Type 0) (Q : B → Type 0) (S : C → Type 0) (T : D → Type 0)
      (first : Reader A) (second : Reader B) (third : Reader C) (fourth : Reader D) (make : A → B → C → D → Z)
      → Gets P first → Gets Q second → Gets S third → Gets T fourth
      → ((a : A) (b : B) (c : C) (d : D) → P a → Q b → S c → T d → R (make a b c d))
      → Gets R (four first second third fourth make)
  gets-four P Q S T first second third fourth make p q s t made bytes x e =
      let a = bind_some (first bytes) (λ y. three second third fourth (make y.0) y.1) x e
      in gets-three Q S T second third fourth (make a.0.0) q s t
      (λ b c d h i j. made a.0.0 b c d (p bytes a.0 a.1) h i j) a.0.1 x a.2

-- so many values
pub gets-many : {A : Type 0} (P : A → Type 0) (read : Reader A) → Gets P read → (n : ℕ)
    → Gets (λ xs. (length xs ≡ n) × AllByRecursion P xs) (many read n)
unfolding many
gets-many {A} P read each zero bytes x e =
    subst (λ (y : List A × List ℕ). (length y.0 ≡ 0) × AllByRecursion P y.0) (some_is ([], bytes) x e) (refl, tt)
gets-many {A} P read each (suc n) bytes x e =
    let a = bind_some (read bytes) _ x e
    in let b = bind_some (many read n a.0.1) _ x a.2
    in let others = gets-many P read each n a.0.1 b.0 b.1
    in let made : List A × List ℕ = (a.0.0 ∷ b.0.0, b.0.1)
    in subst (λ (y : List A × List ℕ). (length y.0 ≡ suc n) × AllByRecursion P y.0) (some_is made x b.2)
    (ap suc others.0, (each bytes a.0 a.1, others.1))

-- a count, and so many values
pub gets-counted : {A : Type 0} (Q : ℕ → Type 0) (P : A → Type 0) (count : Reader ℕ) (read : Reader A)
    → Gets Q count → Gets P read → Gets (λ xs. Q (length xs) × AllByRecursion P xs) (counted count read)
gets-counted Q P count read counts each bytes x e =
    let n = bind_some (count bytes) (λ y. many read y.0 y.1) x e
    in let all = gets-many P read each n.0.0 n.0.1 x n.2
    in (subst Q (sym all.0) (counts bytes n.0 n.1), all.1)

-- what is read whole
pub got-whole : {A : Type 0} (P : A → Type 0) (read : Reader A) (bytes : List ℕ) (a : A) → Gets P read
    → whole (read bytes) ≡ Some a → P a
got-whole P read bytes a each e = each bytes (a, []) (whole_is (read bytes) a e)
