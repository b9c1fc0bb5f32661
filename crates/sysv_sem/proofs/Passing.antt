-- What is passed over: semaphores, and a whole set at which nobody waits.
use Rattle.std.proofs.Common.{◌≡◌, ◌∙◌, ℕ, suc, ◌+◌, ◌-◌, ◌<◌, ◌≤◌, true, List, [], ◌∷◌, ◌++◌, drop, get_or, length, take, Option, Some, None, refl, ap, arith}
use Rattle.std.proofs.Math.Seq.{take-length}
use Rattle.body_fields.specs.Fields.{byte_upto}
use Rattle.body_fields.proofs.Fields.{IsBytes}
use Rattle.kernel_model.specs.SemaphoreSet.{Semaphore, set_of}
use Rattle.frame_bytes.specs.Readers.{byte_at, many}
use Rattle.frame_bytes.proofs.Loop.{goes_on, is_done, with_front}
use Rattle.waiting_model.specs.Waiters.{unawaited}
use Rattle.sysv_sem.specs.Body.{set_code}
use Rattle.sysv_sem.specs.Passing.{HasRow, HasSemaphores, IsUnawaited}
use Rattle.sysv_sem.specs.Reading.{fields_at, is_good_count, row_at, semaphore_at, set_at, waiters_at}
use Rattle.sysv_sem.proofs.Bodies.{set_takes}

-- semaphores were passed over, and as many as are left come behind them
pub record Passing (count counter : ℕ) (bytes rest : List ℕ) : Type 0 where
  pub semaphores : List Semaphore
  pub read : with_front semaphores (many semaphore_at (count - counter) rest) ≡ many semaphore_at count bytes

nothing-before : (o : Option (List Semaphore × List ℕ)) → with_front [] o ≡ o
nothing-before None = refl
nothing-before (Some x) = refl

-- none as yet
pub begins-passing : (count : ℕ) (bytes : List ℕ) → Passing count 0 bytes bytes
begins-passing count bytes =
    let k : count - 0 ≡ count = omega arith in
    record { semaphores = []; read = rw k (nothing-before (many semaphore_at count bytes)) }

-- one more
pub passes-on : (count counter : ℕ) (bytes rest after : List ℕ) (s : Semaphore) → counter < count
    → semaphore_at rest ≡ Some (s, after) → Passing count counter bytes rest
    → Passing count (counter + 1) bytes after
passes-on count counter bytes rest after s lt read p =
    record {
      semaphores = p.semaphores ++ s ∷ [];
      read = goes_on Semaphore semaphore_at p.semaphores count counter rest s after (many semaphore_at count bytes) lt
          read p.read;
    }

-- all
pub has-passed : (count counter : ℕ) (bytes rest : List ℕ) → count ≤ counter → Passing count counter bytes rest
    → HasSemaphores count bytes rest
has-passed count counter bytes rest ge p =
    record {
      semaphores = p.semaphores;
      read = is_done Semaphore semaphore_at p.semaphores count counter rest (many semaphore_at count bytes) ge p.read;
    }

-- semaphores behind a count that a set may have
pub row-there : (bytes rest behind : List ℕ) (count : ℕ) → byte_at bytes ≡ Some (count, rest)
    → is_good_count count ≡ true → HasSemaphores count rest behind → HasRow bytes behind
unfolding row_at
row-there bytes rest behind count first good s =
    record { semaphores = s.semaphores; read = rw (first, good, s.read) refl }

-- bytes behind the first one
pub behind-first : (bytes : List ℕ) (code : ℕ) → 1 ≤ length bytes → get_or bytes 0 0 ≡ code
    → bytes ≡ code ∷ take (length bytes - 1) (drop 1 bytes)
behind-first [] code some first = absurd (omega (arith, some))
behind-first (b ∷ bytes) code some first =
    let rest : suc (length bytes) - 1 ≡ length bytes = omega arith in
    rw (rest, take-length bytes) (ap (λ (c : ℕ). c ∷ bytes) first)

-- one byte, and none behind it
pub one-byte : (bytes : List ℕ) (code : ℕ) → 1 ≤ length bytes → length bytes < 2 → get_or bytes 0 0 ≡ code
    → bytes ≡ code ∷ []
one-byte [] code some few first = absurd (omega (arith, some))
one-byte (b ∷ []) code some few first = ap (λ (c : ℕ). c ∷ []) first
one-byte (b ∷ d ∷ bytes) code some few first = absurd (omega (arith, few))

nobody-behind : waiters_at (0 ∷ []) ≡ Some ([], [])
unfolding waiters_at byte_upto many
nobody-behind = refl

-- a set's semaphores behind the code, and behind them that nobody waits
pub unawaited-there : (bytes fields : List ℕ) → IsBytes bytes → bytes ≡ set_code ∷ fields
    → HasRow fields (0 ∷ []) → IsUnawaited bytes
unfolding set_at fields_at
unawaited-there bytes fields fits is r =
    let read : set_at bytes ≡ Some (unawaited (set_of r.semaphores)) =
    ap set_at is ∙ rw (r.read, nobody-behind) refl in
    record {
      set = set_of r.semaphores;
      is_body = set_takes bytes (unawaited (set_of r.semaphores)) fits read;
    }
