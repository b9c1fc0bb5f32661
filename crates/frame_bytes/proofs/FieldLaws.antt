-- Each field reads what it spells.
use Rattle.std.proofs.Common.{◌≡◌, ℕ, ◌^◌, ◌<◌, ◌≤◌, Bool, true, false, cond, eqb, ltb, ℤ, List, [], ◌∷◌, ◌++◌, length, take, drop, Some, None, refl, sym, subst, arith}
use Rattle.std.specs.Prelude.{nat_lt, FitsSigned, find}
use Rattle.std.specs.Int.{w16, w32, cast_signed, cast_unsigned}
use Rattle.std.proofs.Math.Facts.{sfits_to_z, Fits-of_z}
use Rattle.std.proofs.lemmas.Bool.{ltb-false, le-ltb, and_parts, and_from, false≢true}
use Rattle.std.proofs.lemmas.Bool.Decides.{nat_tests}
use Rattle.std.proofs.lemmas.Int.{to_z-of_z, of_z-to_z}
use Rattle.std.proofs.lemmas.List.{take_at, drop_at, take-append-drop, length-append, length-take}
use Rattle.pico_base.specs.declared.numbers.Kind.{Kind}
use Rattle.pico_base.specs.declared.numbers.Kind.TheVariants as kinds
use Rattle.pico_base.specs.declared.numbers.Name.{Name}
use Rattle.pico_base.specs.declared.numbers.Name.TheVariants as names
use Rattle.pico_base.specs.declared.reply.Errno.{Errno}
use Rattle.pico_base.specs.declared.reply.Errno.TheVariants.{Esrch, Einval, Echild, Enoent, Eexist, Enomsg, Eagain, E2big, Efbig, Erange, Eidrm, Eintr}
use Rattle.pico_base.specs.declared.signal.Sig.{Sig}
use Rattle.pico_base.specs.declared.signal.Sig.TheVariants.{Hup, Int, Quit, Kill, Usr1, Usr2, Pipe, Alrm, Term, Chld}
use Rattle.pico_base.specs.declared.signal.SigArg.{SigArg}
use Rattle.pico_base.specs.declared.signal.SigArg.TheVariants.{Zero, Is, Bad}
use Rattle.pico_base.specs.ErrorNumber.{all_errors, error_number}
use Rattle.pico_base.specs.Signal.{all_signals, signal_number}
use Rattle.body_fields.proofs.Fields.{IsBytes, IsBytes-drop, bind_some, guard_some, some_is, Takes, Takes-then, wide16, wide32, number_takes, number_again}
use Rattle.frame_bytes.specs.Readers.{Reader, byte_at}
use Rattle.frame_bytes.specs.Fields.{IsWord, IsHalf, IsNode, is_node, name_number, word, half, signed, text, flag_byte, all_flags, sigarg_byte, all_sigargs, kind_byte, all_kinds, name_of, name_field, word_at, half_at, positive_at, count_at, signed_at, node_at, flag_at, sig_at, sigarg_at, errno_at, kind_at, name_at, text_at}
use Rattle.frame_bytes.specs.Limits.{is_nonzero, is_text, is_half, is_count, is_sigarg}
use Rattle.frame_bytes.proofs.Inverse.{Inverse, Field, Passes, byte-inverse, passing-inverse, renamed, one_of-inverse, Reads, two-takes, two-again}

-- ---- what the limits of counts say

half-passes : (n : ℕ) → is_half n ≡ true → IsHalf n
half-passes n h = grind (arith, nat_tests)

half-is : (n : ℕ) → IsHalf n → is_half n ≡ true
half-is n h = grind (arith, nat_tests)

text-passes : (bytes : List ℕ) → is_text bytes ≡ true → length bytes < 2 ^ 32
text-passes bytes h = grind (arith, nat_tests)

-- a text whose length has 4 bytes passes the test
pub text-is : (bytes : List ℕ) → length bytes < 2 ^ 32 → is_text bytes ≡ true
text-is bytes h = grind (arith, nat_tests)

-- ---- numbers

-- a number of 4 bytes is read as it is spelled
pub word-inverse : Inverse ℕ IsWord word word_at
word-inverse = record {
  takes = λ bytes x fits e. number_takes w32 (2 ^ 32) wide32 bytes x fits e;
  again = λ n rest fits. number_again w32 (2 ^ 32) wide32 n rest fits;
}

-- so is one of 2 bytes
pub half-inverse : Inverse ℕ IsHalf half half_at
half-inverse = record {
  takes = λ bytes x fits e. number_takes w16 (2 ^ 16) wide16 bytes x fits e;
  again = λ n rest fits. number_again w16 (2 ^ 16) wide16 n rest fits;
}

-- a number of 4 bytes that is at least 1
abbrev pub IsPositive : ℕ → Type 0
IsPositive n = IsWord n × (is_nonzero n ≡ true)

pub positive-inverse : Inverse ℕ IsPositive word positive_at
unfolding positive_at
positive-inverse =
    renamed ℕ (Passes ℕ IsWord (nat_lt 0)) IsPositive word positive_at
    (λ n p. (p.fits, p.passes)) (λ n p. record { fits = p.0; passes = p.1 })
    (passing-inverse ℕ IsWord word word_at (nat_lt 0) word-inverse)

-- a count that is within the limits is read as it is spelled
pub values-count-inverse : Inverse ℕ (λ n. is_half n ≡ true) half half_at
values-count-inverse =
    renamed ℕ IsHalf (λ n. is_half n ≡ true) half half_at (λ n p. half-is n p) (λ n p. half-passes n p) half-inverse

-- so is one that is at least 1
pub count-inverse : Inverse ℕ (λ n. is_count n ≡ true) half count_at
unfolding count_at
count-inverse =
    renamed ℕ (Passes ℕ (λ n. is_half n ≡ true) (nat_lt 0)) (λ n. is_count n ≡ true) half count_at
    (λ n p. and_from (is_half n) (nat_lt 0 n) p.fits p.passes)
    (λ n p. let t = and_parts (is_half n) (nat_lt 0 n) p in record { fits = t.0; passes = t.1 })
    (passing-inverse ℕ (λ n. is_half n ≡ true) half half_at (nat_lt 0) values-count-inverse)

-- a node fits its byte
node-byte : (n : ℕ) → is_node n ≡ true → n < 256
node-byte n h = grind (arith, nat_tests)

pub node-inverse : Inverse ℕ IsNode (λ n. n ∷ []) node_at
unfolding node_at
node-inverse =
    renamed ℕ (Passes ℕ (λ n. n < 256) is_node) IsNode (λ n. n ∷ []) node_at
    (λ n p. p.passes) (λ n p. record { fits = node-byte n p; passes = p })
    (passing-inverse ℕ (λ n. n < 256) (λ n. n ∷ []) byte_at is_node byte-inverse)

-- a signed number in four bytes, by two's complement
pub signed-inverse : Inverse ℤ (λ z. FitsSigned w32 z) signed signed_at
unfolding signed_at
signed-inverse = record { takes = take; again = give } where
  take : (bytes : List ℕ) (x : ℤ × List ℕ) → IsBytes bytes → signed_at bytes ≡ Some x → Takes bytes (signed x.0) x.1
      × FitsSigned w32 x.0
  take bytes x fits e =
      let b = bind_some (word_at bytes) (λ n. Some (cast_signed w32 n.0, n.1)) x e
      in let n = b.0
      in let t = word-inverse.takes bytes n fits b.1
      in let back : cast_unsigned w32 (cast_signed w32 n.0) ≡ n.0 = of_z-to_z w32 n.0 t.1
      in let whole : Takes bytes (word (cast_unsigned w32 (cast_signed w32 n.0))) n.1 =
      subst (λ (k : ℕ). Takes bytes (word k) n.1) (sym back) t.0
      in subst (λ (p : ℤ × List ℕ). Takes bytes (signed p.0) p.1 × FitsSigned w32 p.0)
      (some_is (cast_signed w32 n.0, n.1) x b.2)
      (whole, sfits_to_z (record { fits = t.1 }))

  give : (z : ℤ) (rest : List ℕ) → FitsSigned w32 z → signed_at (signed z ++ rest) ≡ Some (z, rest)
  give z rest fits =
      let lt : cast_unsigned w32 z < 2 ^ 32 = (Fits-of_z fits).fits
      in rw (word-inverse.again (cast_unsigned w32 z) rest lt, to_z-of_z w32 z fits) refl

-- ---- values that have a byte

-- the value with this byte is found by it
abbrev IsThere : (A : Type 0) → (A → ℕ) → List A → A → Type 0
IsThere A code values a = find (λ x. eqb (code x) (code a)) values ≡ Some a

flag-there : (b : Bool) → Unit {0} → IsThere Bool flag_byte all_flags b
flag-there false fits = refl
flag-there true fits = refl

pub flag-inverse : Inverse Bool (λ b. Unit {0}) (λ b. flag_byte b ∷ []) flag_at
unfolding flag_at
flag-inverse = one_of-inverse Bool (λ b. Unit {0}) flag_byte all_flags (tt, (tt, tt)) flag-there

sig-there : (g : Sig) → Unit {0} → IsThere Sig signal_number all_signals g
sig-there Hup fits = refl
sig-there Int fits = refl
sig-there Quit fits = refl
sig-there Kill fits = refl
sig-there Usr1 fits = refl
sig-there Usr2 fits = refl
sig-there Pipe fits = refl
sig-there Alrm fits = refl
sig-there Term fits = refl
sig-there Chld fits = refl

pub sig-inverse : Inverse Sig (λ g. Unit {0}) (λ g. signal_number g ∷ []) sig_at
unfolding sig_at
sig-inverse =
    one_of-inverse Sig (λ g. Unit {0}) signal_number all_signals
    (tt, (tt, (tt, (tt, (tt, (tt, (tt, (tt, (tt, (tt, tt)))))))))) sig-there

sigarg-there : (a : SigArg) → is_sigarg a ≡ true → IsThere SigArg sigarg_byte all_sigargs a
sigarg-there Zero fits = refl
sigarg-there (Is Hup) fits = refl
sigarg-there (Is Int) fits = refl
sigarg-there (Is Quit) fits = refl
sigarg-there (Is Kill) fits = refl
sigarg-there (Is Usr1) fits = refl
sigarg-there (Is Usr2) fits = refl
sigarg-there (Is Pipe) fits = refl
sigarg-there (Is Alrm) fits = refl
sigarg-there (Is Term) fits = refl
sigarg-there (Is Chld) fits = refl
sigarg-there Bad fits = absurd (false≢true fits)

pub sigarg-inverse : Inverse SigArg (λ a. is_sigarg a ≡ true) (λ a. sigarg_byte a ∷ []) sigarg_at
unfolding sigarg_at
sigarg-inverse =
    one_of-inverse SigArg (λ a. is_sigarg a ≡ true) sigarg_byte all_sigargs
    (refl, (refl, (refl, (refl, (refl, (refl, (refl, (refl, (refl, (refl, (refl, tt))))))))))) sigarg-there

errno-there : (e : Errno) → Unit {0} → IsThere Errno error_number all_errors e
errno-there Esrch fits = refl
errno-there Einval fits = refl
errno-there Echild fits = refl
errno-there Enoent fits = refl
errno-there Eexist fits = refl
errno-there Enomsg fits = refl
errno-there Eagain fits = refl
errno-there E2big fits = refl
errno-there Efbig fits = refl
errno-there Erange fits = refl
errno-there Eidrm fits = refl
errno-there Eintr fits = refl

pub errno-inverse : Inverse Errno (λ e. Unit {0}) (λ e. error_number e ∷ []) errno_at
unfolding errno_at
errno-inverse =
    one_of-inverse Errno (λ e. Unit {0}) error_number all_errors
    (tt, (tt, (tt, (tt, (tt, (tt, (tt, (tt, (tt, (tt, (tt, (tt, tt)))))))))))) errno-there

kind-there : (k : Kind) → Unit {0} → IsThere Kind kind_byte all_kinds k
kind-there kinds.Proc fits = refl
kind-there kinds.Msg fits = refl
kind-there kinds.Sem fits = refl

pub kind-inverse : Inverse Kind (λ k. Unit {0}) (λ k. kind_byte k ∷ []) kind_at
unfolding kind_at
kind-inverse = one_of-inverse Kind (λ k. Unit {0}) kind_byte all_kinds (tt, (tt, (tt, tt))) kind-there

-- ---- texts

-- a text is read as it is spelled: its length, and so many bytes
pub text-inverse : Inverse (List ℕ) (λ bytes. is_text bytes ≡ true) text text_at
unfolding text_at
text-inverse = record { takes = take-text; again = give } where
  take-text : (bytes : List ℕ) (x : List ℕ × List ℕ) → IsBytes bytes → text_at bytes ≡ Some x
      → Takes bytes (text x.0) x.1 × (is_text x.0 ≡ true)
  take-text bytes x fits e =
      let b = bind_some (word_at bytes) (λ n. cond (ltb (length n.1) n.0) None (Some (take n.0 n.1, drop n.0 n.1))) x e
      in let n = b.0
      in let t = word-inverse.takes bytes n fits b.1
      in let g = guard_some (ltb (length n.1) n.0) (take n.0 n.1, drop n.0 n.1) x b.2
      in let long : n.0 ≤ length n.1 = ltb-false _ _ g.0
      in let len : length (take n.0 n.1) ≡ n.0 = omega (arith, length-take n.0 n.1)
      in let second : Takes n.1 (take n.0 n.1) (drop n.0 n.1) =
      record { parts = sym (take-append-drop n.0 n.1); rest_fits = IsBytes-drop n.0 n.1 t.0.rest_fits }
      in let both = Takes-then bytes (word n.0) n.1 (take n.0 n.1) (drop n.0 n.1) t.0 second
      in let whole : Takes bytes (text (take n.0 n.1)) (drop n.0 n.1) =
      subst (λ (k : ℕ). Takes bytes (word k ++ take n.0 n.1) (drop n.0 n.1)) (sym len) both
      in subst (λ (p : List ℕ × List ℕ). Takes bytes (text p.0) p.1 × (is_text p.0 ≡ true)) g.1
      (whole, text-is (take n.0 n.1) (omega (arith, t.1, len)))

  give : (bytes rest : List ℕ) → is_text bytes ≡ true → text_at (text bytes ++ rest) ≡ Some (bytes, rest)
  give bytes rest fits =
      let lt = text-passes bytes fits
      in let long : ltb (length (bytes ++ rest)) (length bytes) ≡ false =
      le-ltb _ _ (omega (arith, length-append bytes rest))
      in rw (
        word-inverse.again (length bytes) (bytes ++ rest) lt,
        long,
        take_at bytes rest (length bytes) refl,
        drop_at bytes rest (length bytes) refl,
      ) refl

-- ---- the fields as values, and those that are made of others

-- the fields with their laws: a number of 4 bytes
abbrev pub word-field : Field ℕ
word-field = record { Fits = IsWord; spell = word; read = word_at; inverse = word-inverse }

-- a number of 2 bytes
abbrev pub half-field : Field ℕ
half-field = record { Fits = IsHalf; spell = half; read = half_at; inverse = half-inverse }

-- a number of 4 bytes that is at least 1
abbrev pub positive-field : Field ℕ
positive-field = record { Fits = IsPositive; spell = word; read = positive_at; inverse = positive-inverse }

-- a node
abbrev pub node-field : Field ℕ
node-field = record { Fits = IsNode; spell = λ n. n ∷ []; read = node_at; inverse = node-inverse }

-- a signed number
abbrev pub signed-field : Field ℤ
signed-field = record { Fits = λ z. FitsSigned w32 z; spell = signed; read = signed_at; inverse = signed-inverse }

-- a flag
abbrev pub flag-field : Field Bool
flag-field = record { Fits = λ b. Unit {0}; spell = λ b. flag_byte b ∷ []; read = flag_at; inverse = flag-inverse }

-- a signal
abbrev pub sig-field : Field Sig
sig-field = record { Fits = λ g. Unit {0}; spell = λ g. signal_number g ∷ []; read = sig_at; inverse = sig-inverse }

-- the signal of a kill, which may be 0 or none
abbrev pub sigarg-field : Field SigArg
sigarg-field = record {
  Fits = λ a. is_sigarg a ≡ true;
  spell = λ a. sigarg_byte a ∷ [];
  read = sigarg_at;
  inverse = sigarg-inverse;
}

-- an error
abbrev pub errno-field : Field Errno
errno-field = record {
  Fits = λ e. Unit {0};
  spell = λ e. error_number e ∷ [];
  read = errno_at;
  inverse =
      errno-inverse;
}

-- a kind of numbers
abbrev pub kind-field : Field Kind
kind-field = record { Fits = λ k. Unit {0}; spell = λ k. kind_byte k ∷ []; read = kind_at; inverse = kind-inverse }

-- a text
abbrev pub text-field : Field (List ℕ)
text-field = record { Fits = λ bytes. is_text bytes ≡ true; spell = text; read = text_at; inverse = text-inverse }

-- what is read with nothing before it takes its bytes
pub whole-inverse : (Z : Type 0) (Fits : Z → Type 0) (spell : Z → List ℕ) (read : Reader Z) → Reads Z Fits spell read []
    → ((z : Z) (rest : List ℕ) → Fits z → read (spell z ++ rest) ≡ Some (z, rest)) → Inverse Z Fits spell read
whole-inverse Z Fits spell read reads again =
    record { takes = λ bytes x fits e. let b = reads bytes x fits e in (b.took, b.fits); again = again }

-- a name that has a spelling
abbrev pub IsName : Name → Type 0
IsName name = IsPositive (name_number name)

-- what a kind and a number make is spelled as they are
pub name-same : (k : Kind) (n : ℕ) → name_field (name_of k n) ≡ kind_byte k ∷ word n
name-same kinds.Proc n = refl
name-same kinds.Msg n = refl
name-same kinds.Sem n = refl

name-fits : (k : Kind) (n : ℕ) → Unit {0} → IsPositive n → IsName (name_of k n)
name-fits kinds.Proc n u h = h
name-fits kinds.Msg n u h = h
name-fits kinds.Sem n u h = h

name-again : (name : Name) (rest : List ℕ) → IsName name → name_at (name_field name ++ rest) ≡ Some (name, rest)
unfolding name_at
name-again (names.Proc n) rest h = two-again Kind ℕ Name kind-field positive-field name_of kinds.Proc n rest tt h
name-again (names.Msg n) rest h = two-again Kind ℕ Name kind-field positive-field name_of kinds.Msg n rest tt h
name-again (names.Sem n) rest h = two-again Kind ℕ Name kind-field positive-field name_of kinds.Sem n rest tt h

pub name-inverse : Inverse Name IsName name_field name_at
unfolding name_at
name-inverse =
    whole-inverse Name IsName name_field name_at
    (two-takes Name IsName name_field Kind ℕ kind-field positive-field name_of [] name-same name-fits) name-again

-- a name
abbrev pub name-field : Field Name
name-field = record { Fits = IsName; spell = name_field; read = name_at; inverse = name-inverse }
