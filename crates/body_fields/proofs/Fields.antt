-- A number that is read is the number that was written, and what was written is read again.
use Rattle.std.proofs.Common.{◌≡◌, ℕ, suc, ◌+◌, ◌^◌, ◌<◌, ◌≤◌, Bool, true, false, cond, eqb, ltb, List, [], ◌∷◌, ◌++◌, length, get_or, take, drop, Option, Some, None, refl, sym, ap, subst, ◌∙◌, append_assoc, arith, inl, inr}
use Rattle.std.specs.Int.{Width, w16, w32, byte_len, from_be_bytes, to_be_bytes}
use Rattle.std.proofs.lemmas.Bool.{cases_lt, eqb-true, ltb-false, le-ltb}
use Rattle.std.proofs.lemmas.List.{append-nil, nil_from_length, take_at, drop_at, take-append-drop, length-append, length-take, get_or-drop, get_or-take, get_or_past}
use Rattle.std.proofs.lemmas.Nat.{be_bytes_2, be_bytes_4, from_be_bytes-to_be_bytes_2, from_be_bytes-to_be_bytes_4}
use Rattle.pico_base.specs.Options.{◌>>=◌}
use Rattle.body_fields.specs.Fields.{byte_at, byte_upto, number_at, number_upto, whole}

-- each number is a byte
abbrev pub IsBytes : List ℕ → Type 0
IsBytes bytes = (i : ℕ) → get_or bytes i 0 < 256

-- what is left of bytes are bytes
pub IsBytes-drop : (n : ℕ) (bytes : List ℕ) → IsBytes bytes → IsBytes (drop n bytes)
IsBytes-drop n bytes h i = rw get_or-drop (h (n + i))

-- what stands behind the first byte are bytes
pub IsBytes-rest : (b : ℕ) (bytes : List ℕ) → IsBytes (b ∷ bytes) → IsBytes bytes
IsBytes-rest b bytes h i = h (suc i)

IsBytes-take : (n : ℕ) (bytes : List ℕ) → IsBytes bytes → IsBytes (take n bytes)
IsBytes-take n bytes h i =
    elim (cases_lt i n) [
      | inl lt ↦ rw (get_or-take n bytes i 0 lt) (h i)
      | inr le ↦ rw (get_or_past (take n bytes) i 0 (omega (arith, length-take n bytes))) (omega arith)
    ]

-- the value of a step that did not fail
pub bind_some : {A B : Type 0} (o : Option A) (f : A → Option B) (y : B) → (o >>= f) ≡ Some y → (x : A) × (o ≡ Some x)
    × (f x ≡ Some y)
bind_some (Some x) f y e = (x, refl, e)
bind_some None f y e = absurd cc

-- a test that did not fail
pub guard_some : {A : Type 0} (b : Bool) (x y : A) → cond b None (Some x) ≡ Some y → (b ≡ false) × (x ≡ y)
guard_some true x y e = absurd cc
guard_some false x y e = (refl, cc)

-- where a reader under a test gave a value, the test held and that is the value
pub guard_ended : {A : Type 0} (b : Bool) (x y : A) → cond b (Some x) None ≡ Some y → (b ≡ true) × (x ≡ y)
guard_ended true x y e = (refl, cc)
guard_ended false x y e = absurd cc

-- where a reader under a test gave a value, the test held and the rest gave it
pub guard_then : {A : Type 0} (b : Bool) (o : Option A) (y : A) → cond b o None ≡ Some y → (b ≡ true) × (o ≡ Some y)
guard_then true o y e = (refl, e)
guard_then false o y e = absurd cc

abbrev done : {A : Type 0} → A → Option A
done x = Some x

-- a reader gives one value
pub some_is : {A : Type 0} (x y : A) → done x ≡ done y → x ≡ y
some_is x y e = cc

-- what a reader took from the front
pub record Takes (bytes text rest : List ℕ) : Type 0 where
  pub parts : bytes ≡ text ++ rest
  pub rest_fits : IsBytes rest

-- two parts taken one after the other are one part
pub Takes-then : (a x b y c : List ℕ) → Takes a x b → Takes b y c → Takes a (x ++ y) c
Takes-then a x b y c p q =
    record { parts = p.parts ∙ ap (λ (t : List ℕ). x ++ t) q.parts ∙ sym (append_assoc x y c); rest_fits = q.rest_fits }

-- what was taken is all of the bytes, if nothing is left of them
pub Takes-all : (bytes text : List ℕ) → Takes bytes text [] → bytes ≡ text
Takes-all bytes text t = t.parts ∙ append-nil text

-- nothing is behind what was read whole
pub whole_is : {A : Type 0} (read : Option (A × List ℕ)) (x : A) → whole read ≡ Some x → read ≡ Some (x, [])
whole_is None x e = absurd cc
whole_is {A} (Some y) x e =
    let g = guard_ended (eqb (length y.1) 0) y.0 x e in
    let nothing : y.1 ≡ [] = nil_from_length y.1 (eqb-true _ _ g.0) in
    ap (λ (r : List ℕ). Some (y.0, r)) nothing ∙ ap (λ (v : A). Some (v, [])) g.1

pub record IsWide (w : Width) (limit : ℕ) : Type 0 where
  pub len : (n : ℕ) → length (to_be_bytes w n) ≡ byte_len w
  pub back : (bytes : List ℕ) → length bytes ≡ byte_len w → IsBytes bytes
      → to_be_bytes w (from_be_bytes w bytes) ≡ bytes
  pub again : (n : ℕ) → n < limit → from_be_bytes w (to_be_bytes w n) ≡ n
  pub below : (bytes : List ℕ) → IsBytes bytes → from_be_bytes w bytes < limit

-- a number of 16 bits is below 2 ^ 16
pub wide16 : IsWide w16 (2 ^ 16)
wide16 = record {
  len = λ n. refl;
  back = λ bytes len fits. be_bytes_2 bytes _ len fits refl;
  again = λ n lt. from_be_bytes-to_be_bytes_2 n lt;
  below = λ bytes fits. omega (arith, fits 0, fits 1);
}

-- a number of 32 bits is below 2 ^ 32
pub wide32 : IsWide w32 (2 ^ 32)
wide32 = record {
  len = λ n. refl;
  back = λ bytes len fits. be_bytes_4 bytes _ len fits refl;
  again = λ n lt. from_be_bytes-to_be_bytes_4 n lt;
  below = λ bytes fits. omega (arith, fits 0, fits 1, fits 2, fits 3);
}

-- a number that was read is what its bytes spell, and fits its width
pub number_takes : (w : Width) (limit : ℕ) (wide : IsWide w limit) (bytes : List ℕ) (n : ℕ × List ℕ) → IsBytes bytes
    → number_at w bytes ≡ Some n → Takes bytes (to_be_bytes w n.0) n.1 × (n.0 < limit)
number_takes w limit wide bytes n fits e =
    let front = take (byte_len w) bytes in
    let g = guard_some (ltb (length bytes) (byte_len w)) (from_be_bytes w front, drop (byte_len w) bytes) n e in
    let long : byte_len w ≤ length bytes = ltb-false _ _ g.0 in
    let back : to_be_bytes w (from_be_bytes w front) ≡ front =
    wide.back front (omega (arith, length-take (byte_len w) bytes)) (IsBytes-take (byte_len w) bytes fits) in
    subst (λ (x : ℕ × List ℕ). Takes bytes (to_be_bytes w x.0) x.1 × (x.0 < limit)) g.1 (
      record {
        parts = rw back (sym (take-append-drop (byte_len w) bytes));
        rest_fits =
            IsBytes-drop (byte_len w) bytes fits;
      },
      wide.below front (IsBytes-take (byte_len w) bytes fits),
    )

-- a number is read back from what spells it
pub number_again : (w : Width) (limit : ℕ) (wide : IsWide w limit) (n : ℕ) (rest : List ℕ) → n < limit
    → number_at w (to_be_bytes w n ++ rest) ≡ Some (n, rest)
number_again w limit wide n rest lt =
    let len = wide.len n in
    let long : ltb (length (to_be_bytes w n ++ rest)) (byte_len w) ≡ false =
    le-ltb _ _ (omega (arith, length-append (to_be_bytes w n) rest)) in
    rw (
      long,
      take_at (to_be_bytes w n) rest (byte_len w) len,
      drop_at (to_be_bytes w n) rest (byte_len w) len,
      wide.again n lt,
    ) refl

-- the same of a number with a limit
pub number_upto_takes : (w : Width) (limit : ℕ) (wide : IsWide w limit) (most : ℕ) (bytes : List ℕ) (n : ℕ × List ℕ)
    → IsBytes bytes → number_upto w most bytes ≡ Some n → Takes bytes (to_be_bytes w n.0) n.1 × (n.0 ≤ most)
unfolding number_upto
number_upto_takes w limit wide most bytes n fits e =
    let a = bind_some (number_at w bytes) (λ n. cond (ltb most n.0) None (Some n)) n e in
    let g = guard_some (ltb most a.0.0) a.0 n a.2 in
    let t = number_takes w limit wide bytes a.0 fits a.1 in
    subst (λ (x : ℕ × List ℕ). Takes bytes (to_be_bytes w x.0) x.1 × (x.0 ≤ most)) g.1 (t.0, ltb-false _ _ g.0)

-- a number within its limit is read back
pub number_upto_again : (w : Width) (limit : ℕ) (wide : IsWide w limit) (most n : ℕ) (rest : List ℕ) → n < limit
    → n ≤ most → number_upto w most (to_be_bytes w n ++ rest) ≡ Some (n, rest)
unfolding number_upto
number_upto_again w limit wide most n rest lt le =
    let low : ltb most n ≡ false = le-ltb _ _ le in
    rw (number_again w limit wide n rest lt, low) refl

-- a byte that was read is the first one
pub byte_takes : (bytes : List ℕ) (b : ℕ × List ℕ) → IsBytes bytes → byte_at bytes ≡ Some b → Takes bytes (b.0 ∷ []) b.1
byte_takes [] b fits e = absurd cc
byte_takes (x ∷ xs) b fits e =
    subst (λ (p : ℕ × List ℕ). Takes (x ∷ xs) (p.0 ∷ []) p.1) (some_is (x, xs) b e)
    (record { parts = refl; rest_fits = IsBytes-rest x xs fits })

-- the same of a byte with a limit
pub byte_upto_takes : (most : ℕ) (bytes : List ℕ) (b : ℕ × List ℕ) → IsBytes bytes → byte_upto most bytes ≡ Some b
    → Takes bytes (b.0 ∷ []) b.1 × (b.0 ≤ most)
unfolding byte_upto
byte_upto_takes most bytes b fits e =
    let a = bind_some (byte_at bytes) (λ b. cond (ltb most b.0) None (Some b)) b e in
    let g = guard_some (ltb most a.0.0) a.0 b a.2 in
    subst (λ (x : ℕ × List ℕ). Takes bytes (x.0 ∷ []) x.1 × (x.0 ≤ most)) g.1
    (byte_takes bytes a.0 fits a.1, ltb-false _ _ g.0)

-- a byte within its limit is read back
pub byte_upto_again : (most b : ℕ) (rest : List ℕ) → b ≤ most → byte_upto most (b ∷ rest) ≡ Some (b, rest)
unfolding byte_upto
byte_upto_again most b rest le =
    let low : ltb most b ≡ false = le-ltb _ _ le in
    rw low refl

-- a reader that is a test behind another: a value that one gives and the other refuses
pub refused : {A : Type 0} (read : Option A) (x : A) → read ≡ None → read ≡ done x → ⊥
refused read x none some = absurd cc
