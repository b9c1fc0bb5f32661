-- Reading items one after the other, as a loop does.
use Rattle.std.proofs.Common.{◌≡◌, ℕ, suc, ◌-◌, ◌+◌, ◌≤◌, ◌<◌, List, [], ◌∷◌, ◌++◌, Option, Some, None, refl, sym, ap, ◌∙◌, append_assoc, arith}
use Rattle.std.proofs.lemmas.List.{append-nil}
use Rattle.pico_base.specs.declared.fault.UnpackFault.{UnpackFault}
use Rattle.pico_base.specs.declared.fault.UnpackFault.TheVariants.{Memory, NotABody}
use Rattle.pico_base.specs.Options.{◌>>=◌}
use Rattle.frame_bytes.specs.Readers.{Fails, Reader, many}

-- what was read before, and what is still read
abbrev pub with_front : {A : Type 0} → List A → Option (List A × List ℕ) → Option (List A × List ℕ)
with_front front read = read >>= λ x. Some (front ++ x.0, x.1)

module _ (A : Type 0) (read : Reader A) where
  regroup : (front : List A) (a : A) (o : Option (List A × List ℕ))
      → with_front front (o >>= λ x. Some (a ∷ x.0, x.1)) ≡ with_front (front ++ a ∷ []) o
  regroup front a (Some x) = ap (λ (xs : List A). Some (xs, x.1)) (simp append_assoc)
  regroup front a None = refl

  pub goes_on : (front : List A) (count i : ℕ) (bytes : List ℕ) (a : A) (after : List ℕ)
      (total : Option (List A × List ℕ)) → i < count → read bytes ≡ Some (a, after)
      → with_front front (many read (count - i) bytes) ≡ total
      → with_front (front ++ a ∷ []) (many read (count - (i + 1)) after) ≡ total
  unfolding many
  goes_on front count i bytes a after total lt h so_far =
      let k : count - i ≡ suc (count - (i + 1)) = omega arith in
      let one : with_front front (many read (count - i) bytes)
      ≡ with_front (front ++ a ∷ []) (many read (count - (i + 1)) after) =
      rw (k, h) (regroup front a (many read (count - (i + 1)) after)) in
      sym one ∙ so_far

  pub ends : (e : UnpackFault) (front : List A) (count i : ℕ) (bytes : List ℕ) (total : Option (List A × List ℕ))
      → i < count → Fails e (read bytes)
      → with_front front (many read (count - i) bytes) ≡ total → Fails e total
  unfolding many
  ends Memory front count i bytes total lt h so_far = tt
  ends NotABody front count i bytes total lt h so_far =
      let k : count - i ≡ suc (count - (i + 1)) = omega arith in
      let one : with_front front (many read (count - i) bytes) ≡ None = rw (k, h) refl in
      sym so_far ∙ one

  pub is_done : (front : List A) (count i : ℕ) (bytes : List ℕ) (total : Option (List A × List ℕ)) → count ≤ i
      → with_front front (many read (count - i) bytes) ≡ total → total ≡ Some (front, bytes)
  unfolding many
  is_done front count i bytes total le so_far =
      let k : count - i ≡ 0 = omega arith in
      let one : with_front front (many read (count - i) bytes) ≡ Some (front, bytes) =
      rw k (ap (λ (xs : List A). Some (xs, bytes)) (append-nil front)) in
      sym so_far ∙ one
