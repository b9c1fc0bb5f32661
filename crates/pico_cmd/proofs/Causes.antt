-- From the status of the answer to the status that is told.
use Rattle.std.proofs.Common.{◌≡◌, inl, inr, ◌⊎◌, List, ℕ, Option, Some, None, refl, ◌∙◌}
use Rattle.pico_words.specs.declared.words.Request.{Request}
use Rattle.pico_words.specs.declared.words.Request.TheVariants.{Run, Simulate, Check, Generate, Boxes, Queues, Freeze, Thaw}
use Rattle.pico_cmd.specs.declared.status.Status.{Status}
use Rattle.pico_cmd.specs.declared.status.Status.TheVariants as status
use Rattle.pico_cmd.specs.Promise.{EachCause, IsOrStops, IsWritten, OrStalled}

or_stalled : (P Q : Status → Type 0) → ((s : Status) → P s → Q s) → (s : Status) → OrStalled P s → OrStalled Q s
or_stalled P Q f s (inl h) = inl (f s h)
or_stalled P Q f s (inr h) = inr (h.0, f status.Stalled h.1)

-- what follows from a cause's status goes over to what follows from that
each_cause : (asked : Option Request) (left : Option (List ℕ)) (P Q : Status → Type 0) → ((s : Status) → P s → Q s)
    → EachCause asked left P → EachCause asked left Q
each_cause None left P Q f h = tt
each_cause (Some (Run steps)) None P Q f h = tt
each_cause (Some (Run steps)) (Some bytes) P Q f h = λ s c. or_stalled P Q f s (h s c)
each_cause (Some (Simulate o)) None P Q f h = tt
each_cause (Some (Simulate o)) (Some bytes) P Q f h = λ s c. or_stalled P Q f s (h s c)
each_cause (Some Check) None P Q f h = tt
each_cause (Some Check) (Some bytes) P Q f h = λ s c. f s (h s c)
each_cause (Some (Generate o)) left P Q f h = λ s c. f s (h s c)
each_cause (Some Boxes) None P Q f h = tt
each_cause (Some Boxes) (Some bytes) P Q f h = λ s c. or_stalled P Q f s (h s c)
each_cause (Some (Queues steps)) None P Q f h = tt
each_cause (Some (Queues steps)) (Some bytes) P Q f h = λ s c. or_stalled P Q f s (h s c)
each_cause (Some (Freeze count)) None P Q f h = tt
each_cause (Some (Freeze count)) (Some bytes) P Q f h = λ s c. f s (h s c)
each_cause (Some Thaw) None P Q f h = tt
each_cause (Some Thaw) (Some bytes) P Q f h = λ s c. or_stalled P Q f s (h s c)

-- what holds of each status follows from each cause
each_always : (asked : Option Request) (left : Option (List ℕ)) (Q : Status → Type 0) → ((s : Status) → Q s)
    → EachCause asked left Q
each_always None left Q f = tt
each_always (Some (Run steps)) None Q f = tt
each_always (Some (Run steps)) (Some bytes) Q f = λ s c. inl (f s)
each_always (Some (Simulate o)) None Q f = tt
each_always (Some (Simulate o)) (Some bytes) Q f = λ s c. inl (f s)
each_always (Some Check) None Q f = tt
each_always (Some Check) (Some bytes) Q f = λ s c. f s
each_always (Some (Generate o)) left Q f = λ s c. f s
each_always (Some Boxes) None Q f = tt
each_always (Some Boxes) (Some bytes) Q f = λ s c. inl (f s)
each_always (Some (Queues steps)) None Q f = tt
each_always (Some (Queues steps)) (Some bytes) Q f = λ s c. inl (f s)
each_always (Some (Freeze count)) None Q f = tt
each_always (Some (Freeze count)) (Some bytes) Q f = λ s c. f s
each_always (Some Thaw) None Q f = tt
each_always (Some Thaw) (Some bytes) Q f = λ s c. inl (f s)

written_or_stops : (got : Status) (text : List ℕ) (old new : Option (List ℕ)) (cause : Type 0) (r s : Status)
    → IsWritten got text old new cause r → got ≡ s → IsOrStops r s
written_or_stops got text old new cause r s (inl w) e = inl (inl (w.status ∙ e))
written_or_stops got text old new cause r s (inr c) e = inl (inr (inr c.status))

-- where a text with the causes' status is written, the status told is theirs or one in its place
pub exactly_written : (asked : Option Request) (left : Option (List ℕ)) (got : Status) (text : List ℕ)
    (old new : Option (List ℕ)) (cause : Type 0) (r : Status) → EachCause asked left (λ s. got ≡ s)
    → IsWritten got text old new cause r → EachCause asked left (IsOrStops r)
exactly_written asked left got text old new cause r h w =
    each_cause asked left (λ s. got ≡ s) (IsOrStops r) (λ s e. written_or_stops got text old new cause r s w e) h

-- want of memory may stand in the place of each cause's status
pub exactly_memory : (asked : Option Request) (left : Option (List ℕ))
    → EachCause asked left (IsOrStops status.Memory)
exactly_memory asked left = each_always asked left (IsOrStops status.Memory) (λ s. inl (inr (inl refl)))

-- a read that failed may stand in the place of each cause's status
pub exactly_read_fault : (asked : Option Request) (left : Option (List ℕ))
    → EachCause asked left (IsOrStops status.ReadFault)
exactly_read_fault asked left = each_always asked left (IsOrStops status.ReadFault) (λ s. inr refl)

abbrev pub IsOrMemory : Status → Status → Type 0
IsOrMemory r s = (r ≡ s) ⊎ (r ≡ status.Memory)

written_whole : (got : Status) (text : List ℕ) (old new : Option (List ℕ)) (cause : Type 0) (r s : Status)
    → IsWritten got text old new cause r → (cause → ⊥) → got ≡ s → IsOrMemory r s
written_whole got text old new cause r s (inl w) n e = inl (w.status ∙ e)
written_whole got text old new cause r s (inr c) n e = absurd (n c.cause_is)

-- where nothing can make the write fail, the status told is the causes' or want of memory
pub complete_written : (asked : Option Request) (left : Option (List ℕ)) (got : Status) (text : List ℕ)
    (old new : Option (List ℕ)) (cause : Type 0) (r : Status) → EachCause asked left (λ s. got ≡ s)
    → IsWritten got text old new cause r → (cause → ⊥) → EachCause asked left (λ s. (r ≡ s) ⊎ (r ≡ status.Memory))
complete_written asked left got text old new cause r h w n =
    each_cause asked left (λ s. got ≡ s) (IsOrMemory r) (λ s e. written_whole got text old new cause r s w n e) h

-- want of memory may stand in the place of each cause's status, also where no write or read can fail
pub complete_memory : (asked : Option Request) (left : Option (List ℕ))
    → EachCause asked left (λ s. (status.Memory ≡ s) ⊎ (status.Memory ≡ status.Memory))
complete_memory asked left = each_always asked left (IsOrMemory status.Memory) (λ s. inr refl)
