-- Those who wait are passed over as they are read: their processes are those of the waiters, and so many.
use Rattle.std.proofs.Common.{◌≡◌, ℕ, zero, suc, Bool, true, false, cond, ltb, List, [], ◌∷◌, length, Option, Some, None, refl, sym, ap, ◌∙◌}
use Rattle.std.specs.Option.{option_map}
use Rattle.pico_base.specs.declared.call.Call.{Call}
use Rattle.pico_base.specs.Options.{◌>>=◌}
use Rattle.waiting_model.specs.declared.callers.Waiting.{Waiting}
use Rattle.body_fields.specs.Fields.{byte_upto}
use Rattle.body_fields.proofs.Fields.{bind_some, some_is}
use Rattle.frame_bytes.specs.Readers.{Reader, many, one}
use Rattle.waiter_fields.specs.Waiters.{max_waiters, are_different, processes_of, head_at, waiter_of, waiter_at, waiters_at}
use Rattle.waiter_fields.specs.Ranges.{process_at, count_of_waiters}

-- so many values are read as are asked for
pub many-length : (A : Type 0) (read : Reader A) (n : ℕ) (bytes : List ℕ) (x : List A × List ℕ)
    → many read n bytes ≡ Some x → length x.0 ≡ n
unfolding many
many-length A read zero bytes x e = ap (λ (y : List A × List ℕ). length y.0) (sym (some_is ([], bytes) x e))
many-length A read (suc n) bytes x e =
    let a = bind_some (read bytes) (λ first. many read n first.1 >>= λ others. Some (first.0 ∷ others.0, others.1)) x e
    in let b = bind_some (many read n a.0.1) (λ others. Some (a.0.0 ∷ others.0, others.1)) x a.2
    in ap (λ (y : List A × List ℕ). length y.0) (sym (some_is (a.0.0 ∷ b.0.0, b.0.1) x b.2))
    ∙ ap suc (many-length A read n a.0.1 b.0 b.1)

module _ (call_at : Reader Call) where
  abbrev one-of : Waiting × List ℕ → ℕ × List ℕ
  one-of x = (x.0.pid, x.1)

  abbrev all-of : List Waiting × List ℕ → List ℕ × List ℕ
  all-of x = (processes_of x.0, x.1)

  by-call : (h : ℕ × ℕ × ℕ) (o : Option (Call × List ℕ))
      → (o >>= λ c. Some (h.2, c.1)) ≡ option_map one-of (o >>= λ c. Some (waiter_of h c.0, c.1))
  by-call h None = refl
  by-call h (Some c) = refl

  by-head : (o : Option ((ℕ × ℕ × ℕ) × List ℕ))
      → (o >>= λ h. one call_at (λ c. h.0.2) h.1) ≡ option_map one-of (o >>= λ h. one call_at (waiter_of h.0) h.1)
  by-head None = refl
  by-head (Some h) = by-call h.0 (call_at h.1)

  -- the process is the waiter's
  one-process : (bytes : List ℕ) → process_at call_at bytes ≡ option_map one-of (waiter_at call_at bytes)
  unfolding process_at waiter_at
  one-process bytes = by-head (head_at bytes)

  by-others : (w : Waiting × List ℕ) (o : Option (List Waiting × List ℕ))
      → (option_map all-of o >>= λ x. Some (w.0.pid ∷ x.0, x.1))
      ≡ option_map all-of (o >>= λ x. Some (w.0 ∷ x.0, x.1))
  by-others w None = refl
  by-others w (Some x) = refl

  by-first : (n : ℕ) (o : Option (Waiting × List ℕ))
      → ((bytes : List ℕ)
      → many (process_at call_at) n bytes ≡ option_map all-of (many (waiter_at call_at) n bytes))
      → (option_map one-of o >>= λ p. many (process_at call_at) n p.1 >>= λ x. Some (p.0 ∷ x.0, x.1))
      ≡ option_map all-of (o >>= λ w. many (waiter_at call_at) n w.1 >>= λ x. Some (w.0 ∷ x.0, x.1))
  by-first n None rec = refl
  by-first n (Some w) rec =
      ap (λ (o : Option (List ℕ × List ℕ)). o >>= λ x. Some (w.0.pid ∷ x.0, x.1)) (rec w.1)
      ∙ by-others w (many (waiter_at call_at) n w.1)

  -- so many processes are those of so many waiters
  pub many-processes : (n : ℕ) (bytes : List ℕ)
      → many (process_at call_at) n bytes ≡ option_map all-of (many (waiter_at call_at) n bytes)
  unfolding many
  many-processes zero bytes = refl
  many-processes (suc n) bytes =
      rw (one-process bytes) (by-first n (waiter_at call_at bytes) (λ rest. many-processes n rest))

  -- ---- the whole field

  abbrev tested : Option (List Waiting × List ℕ) → Option (List Waiting × List ℕ)
  tested o = o >>= λ x. cond (are_different (processes_of x.0)) (Some x) None

  abbrev counted-of : Option (List Waiting × List ℕ) → Option (ℕ × List ℕ)
  counted-of o = option_map (λ x. (length x.0, x.1)) (tested o)

  by-test : (x : List Waiting × List ℕ) (told : ℕ × List ℕ) (b : Bool)
      → (let y : ℕ × List ℕ = (length x.0, x.1) in y ≡ told)
      → option_map (λ y. (length y.0, y.1)) (cond b (Some x) None) ≡ cond b (Some told) None
  by-test x told true is = ap (λ (y : ℕ × List ℕ). Some y) is
  by-test x told false is = refl

  by-waiters : (o : Option (List Waiting × List ℕ)) (count : ℕ) (pids after : List ℕ) (t : Bool)
      → ((x : List Waiting × List ℕ) → o ≡ Some x → length x.0 ≡ count)
      → option_map all-of o ≡ Some (pids, after) → are_different pids ≡ t
      → counted-of o ≡ cond t (Some (count, after)) None
  by-waiters None count pids after t len e d = absurd cc
  by-waiters (Some x) count pids after t len e d =
      let same = some_is (all-of x) (pids, after) e
      in let own : are_different (processes_of x.0) ≡ t =
      ap (λ (y : List ℕ × List ℕ). are_different y.0) same ∙ d
      in let rest : x.1 ≡ after = ap (λ (y : List ℕ × List ℕ). y.1) same
      in let told : (let y : ℕ × List ℕ = (length x.0, x.1) in y ≡ (count, after)) =
      ap (λ (n : ℕ). (let y : ℕ × List ℕ = (n, x.1) in y)) (len x refl)
      ∙ ap (λ (z : List ℕ). (let y : ℕ × List ℕ = (count, z) in y)) rest
      in rw own (by-test x (count, after) t told)

  none-many : (o : Option (List Waiting × List ℕ)) → option_map all-of o ≡ None → counted-of o ≡ None
  none-many None e = refl
  none-many (Some x) e = absurd cc

  -- a count, and so many processes, no two of which are the same
  pub are-passed : (bytes : List ℕ) (count : ℕ) (rest pids after : List ℕ) (t : Bool)
      → byte_upto max_waiters bytes ≡ Some (count, rest) → many (process_at call_at) count rest ≡ Some (pids, after)
      → are_different pids ≡ t → count_of_waiters call_at bytes ≡ cond t (Some (count, after)) None
  unfolding waiters_at
  are-passed bytes count rest pids after t first others d =
      rw first (by-waiters (many (waiter_at call_at) count rest) count pids after t
      (λ x e. many-length Waiting (waiter_at call_at) count rest x e) (sym (many-processes count rest) ∙ others) d)

  -- no count
  pub no-count : (bytes : List ℕ) → byte_upto max_waiters bytes ≡ None → count_of_waiters call_at bytes ≡ None
  unfolding waiters_at
  no-count bytes first = rw first refl

  -- a count, and fewer who wait
  pub too-few : (bytes : List ℕ) (count : ℕ) (rest : List ℕ) → byte_upto max_waiters bytes ≡ Some (count, rest)
      → many (process_at call_at) count rest ≡ None → count_of_waiters call_at bytes ≡ None
  unfolding waiters_at
  too-few bytes count rest first others =
      rw first (none-many (many (waiter_at call_at) count rest) (sym (many-processes count rest) ∙ others))

  -- ---- those who are passed over are those who are read

  abbrev with-length : List Waiting × List ℕ → ℕ × List ℕ
  with-length x = (length x.0, x.1)

  own-read : (n count : ℕ) (rest after : List ℕ) (x : List Waiting × List ℕ) (t : Bool)
      → many (waiter_at call_at) n rest ≡ Some x
      → option_map with-length (cond t (Some x) None) ≡ Some (count, after)
      → cond t (Some x) None ≡ many (waiter_at call_at) count rest
  own-read n count rest after x true is told =
      let same = some_is (with-length x) (count, after) told
      in let long : n ≡ count =
      sym (many-length Waiting (waiter_at call_at) n rest x is) ∙ ap (λ (y : ℕ × List ℕ). y.0) same
      in sym is ∙ ap (λ (k : ℕ). many (waiter_at call_at) k rest) long
  own-read n count rest after x false is told = absurd cc

  read-many : (n count : ℕ) (rest after : List ℕ) (o : Option (List Waiting × List ℕ))
      → many (waiter_at call_at) n rest ≡ o → counted-of o ≡ Some (count, after)
      → tested o ≡ many (waiter_at call_at) count rest
  read-many n count rest after None is told = absurd cc
  read-many n count rest after (Some x) is told =
      own-read n count rest after x (are_different (processes_of x.0)) is told

  abbrev from-count : Option (ℕ × List ℕ) → Option (List Waiting × List ℕ)
  from-count o = o >>= λ n. many (waiter_at call_at) n.0 n.1

  read-upto : (b count : ℕ) (rest after : List ℕ) (t : Bool)
      → counted-of (from-count (cond t None (Some (b, rest)))) ≡ Some (count, after)
      → tested (from-count (cond t None (Some (b, rest)))) ≡ many (waiter_at call_at) count rest
  read-upto b count rest after true told = absurd cc
  read-upto b count rest after false told =
      read-many b count rest after (many (waiter_at call_at) b rest) refl told

  read-behind : (b : ℕ) (rest : List ℕ) (count : ℕ) (after : List ℕ)
      → count_of_waiters call_at (b ∷ rest) ≡ Some (count, after)
      → waiters_at call_at (b ∷ rest) ≡ many (waiter_at call_at) count rest
  unfolding waiters_at byte_upto
  read-behind b rest count after told = read-upto b count rest after (ltb max_waiters b) told

  -- behind the count
  pub are-read : (bytes : List ℕ) (b : ℕ) (rest : List ℕ) (count : ℕ) (after : List ℕ) → bytes ≡ b ∷ rest
      → count_of_waiters call_at bytes ≡ Some (count, after)
      → waiters_at call_at bytes ≡ many (waiter_at call_at) count rest
  are-read bytes b rest count after split told =
      rw split (read-behind b rest count after (rw split at told))

  -- of no bytes
  pub none-of-nothing : (bytes : List ℕ) → bytes ≡ [] → waiters_at call_at bytes ≡ None
  unfolding waiters_at byte_upto
  none-of-nothing bytes nothing = rw nothing refl

  -- where none are passed over none are read
  pub none-read : (bytes : List ℕ) → count_of_waiters call_at bytes ≡ None → waiters_at call_at bytes ≡ None
  none-read bytes told = by-read (waiters_at call_at bytes) told where
    by-read : (o : Option (List Waiting × List ℕ)) → option_map with-length o ≡ None → o ≡ None
    by-read None e = refl
    by-read (Some x) e = absurd cc
