-- What is on its way to a node about a name that isn't used, once the name is used. A withdrawal, or a call that was
-- sent
-- by the range of its number, then needs the deed; both go to the node that makes the name.
use Rattle.std.proofs.Common.{◌≡◌, ℕ, Bool, true, false, ◌&&◌, List, [], ◌∷◌, ◌++◌, flat_map, Contains, Some, refl, ap, sym, subst, ◌∙◌, inl, inr}
use Rattle.std.specs.List.{AllByRecursion}
use Rattle.std.proofs.lemmas.Bool.{false≢true}
use Rattle.std.proofs.lemmas.List.Elements.{Contains-append_left, Contains-append_right}
use Rattle.kernel_laws.proofs.Members.{contains-cases, contains-first}
use Rattle.pico_base.specs.declared.numbers.Name.{Name}
use Rattle.rpc_frame.specs.declared.frame.Frame.{Frame}
use Rattle.rpc_frame.specs.declared.frame.Frame.TheVariants as frames
use Rattle.node_model.specs.Kinds.{is_object}
use Rattle.world_laws.specs.Places.{CallPlace, SentByPlace, SentByRange}
use Rattle.world_laws.specs.Plays.{Has, IsNeeded, PlayStep, is_call_on, is_cancel_on, is_lasting, needs_by, play, plays, steps_if, steps_of}
use Rattle.world_laws.specs.Names.{IsLeased, IsSentThere, RangeStep, is_sent_by_range, leases_first, leases_name, range_steps_if, range_steps_of}

-- ---- where nothing was played, only deeds are needed

not-empty : {A : Type 0} (x : A) (xs : List A) → x ∷ xs ≡ [] → ⊥
not-empty x xs h = cc

-- the deed is needed, and nothing else
abbrev pub AreNeeds : List PlayStep → Type 0
AreNeeds steps = AllByRecursion (λ s. s ≡ IsNeeded) steps

needs-if : (t : Bool) → AreNeeds (steps_if t IsNeeded)
needs-if true = (refl, tt)
needs-if false = tt

none-needs : (steps : List PlayStep) → steps ≡ [] → AreNeeds steps
none-needs [] h = tt
none-needs (s ∷ ss) h = absurd (not-empty s ss h)

needs-of : (call : ℕ → CallPlace) (name : Name) (f : Frame) → steps_of false call name f ≡ []
    → AreNeeds (steps_of true call name f)
needs-of call name (frames.Forward asked) h = needs-if _
needs-of call name (frames.Cancel asked) h = needs-if _
needs-of call name f h = none-needs (steps_of false call name f) h

first-none : {A : Type 0} (xs ys : List A) → xs ++ ys ≡ [] → xs ≡ []
first-none [] ys h = refl
first-none (x ∷ xs) ys h = absurd (not-empty x (xs ++ ys) h)

then-none : {A : Type 0} (xs ys : List A) → xs ++ ys ≡ [] → ys ≡ []
then-none [] ys h = h
then-none (x ∷ xs) ys h = absurd (not-empty x (xs ++ ys) h)

both-needs : (xs ys : List PlayStep) → AreNeeds xs → AreNeeds ys → AreNeeds (xs ++ ys)
both-needs [] ys h g = g
both-needs (x ∷ xs) ys h g = (h.0, both-needs xs ys h.1 g)

needs-now : (call : ℕ → CallPlace) (name : Name) (fs : List Frame) → plays false call name fs ≡ []
    → AreNeeds (plays true call name fs)
needs-now call name [] h = tt
needs-now call name (f ∷ fs) h =
    both-needs (steps_of true call name f) (plays true call name fs)
    (needs-of call name f (first-none (steps_of false call name f) (plays false call name fs) h))
    (needs-now call name fs (then-none (steps_of false call name f) (plays false call name fs) h))

play-needs : (steps : List PlayStep) → AreNeeds steps → play Has steps ≡ Some Has
play-needs [] h = refl
play-needs (s ∷ ss) h = ap (λ z. play Has (z ∷ ss)) h.0 ∙ play-needs ss h.1

-- a play in which nothing was played ends as it begins, where the node has the deed
pub still-has : (call : ℕ → CallPlace) (name : Name) (fs : List Frame) → plays false call name fs ≡ []
    → play Has (plays true call name fs) ≡ Some Has
still-has call name fs h = play-needs (plays true call name fs) (needs-now call name fs h)

-- ---- where nothing was sent by the range of its number, nothing more is needed

-- nothing of this is sent there
abbrev IsNotSent : List RangeStep → Type 0
IsNotSent steps = Contains steps IsSentThere → ⊥

same-if : (t : Bool) → IsNotSent (range_steps_if t IsSentThere) → steps_if t IsNeeded ≡ []
same-if true none = absurd (none (contains-first IsSentThere []))
same-if false none = refl

forward-same : (on lasting : Bool) (c : CallPlace) → IsNotSent (range_steps_if (on && is_sent_by_range c) IsSentThere)
    → steps_if (on && needs_by lasting c) IsNeeded ≡ steps_if (on && needs_by false c) IsNeeded
forward-same false lasting c none = refl
forward-same true lasting (SentByRange h) none = absurd (none (contains-first IsSentThere []))
forward-same true lasting (SentByPlace h) none = refl
forward-same true lasting c none = refl

same-of : (call : ℕ → CallPlace) (name : Name) (f : Frame) → IsNotSent (range_steps_of false call name f)
    → steps_of true call name f ≡ steps_of false call name f
same-of call name (frames.Forward asked) none =
    forward-same (is_call_on name asked) (is_object name && is_lasting asked) (call asked.caller) none
same-of call name (frames.Cancel asked) none = same-if (is_cancel_on name asked) none
same-of call name f none = refl

-- then all is played as before
pub plays-unsent : (call : ℕ → CallPlace) (name : Name) (fs : List Frame)
    → IsNotSent (flat_map (range_steps_of false call name) fs)
    → plays true call name fs ≡ plays false call name fs
plays-unsent call name [] none = refl
plays-unsent call name (f ∷ fs) none =
    let here = range_steps_of false call name f
    in let there = flat_map (range_steps_of false call name) fs
    in ap (λ ss. ss ++ plays true call name fs)
    (same-of call name f (λ s. none (Contains-append_left here there IsSentThere s)))
    ∙ ap (λ ss. steps_of false call name f ++ ss)
    (plays-unsent call name fs (λ s. none (Contains-append_right here there IsSentThere s)))

-- ---- the name of a process

process-of : (call : ℕ → CallPlace) (name : Name) (f : Frame) → is_object name ≡ false
    → steps_of true call name f ≡ steps_of false call name f
process-of call name (frames.Forward asked) process =
    ap (λ t. steps_if (is_call_on name asked && needs_by (t && is_lasting asked) (call asked.caller)) IsNeeded) process
process-of call name (frames.Cancel asked) process = by-test (is_object name) _ process
  where
    by-test : (t u : Bool) → t ≡ false → steps_if (t && u) IsNeeded ≡ []
    by-test false u h = refl
    by-test true u h = absurd (false≢true (sym h))
process-of call name f process = refl

-- what is on its way about a process is the same whether it is used or not
pub plays-of-process : (call : ℕ → CallPlace) (name : Name) (fs : List Frame) → is_object name ≡ false
    → plays true call name fs ≡ plays false call name fs
plays-of-process call name [] process = refl
plays-of-process call name (f ∷ fs) process =
    ap (λ ss. ss ++ plays true call name fs) (process-of call name f process)
    ∙ ap (λ ss. steps_of false call name f ++ ss) (plays-of-process call name fs process)

-- ---- what was sent by the range of its number

cancel-unsent : (t : Bool) (rest more : List RangeStep) → (Contains rest IsSentThere → Contains more IsSentThere)
    → Contains rest IsSentThere → Contains (range_steps_if t IsSentThere ++ more) IsSentThere
cancel-unsent t rest more h there =
    Contains-append_right (range_steps_if t IsSentThere) more IsSentThere (h there)

with-front : (front rest more : List RangeStep) → (Contains rest IsSentThere → Contains more IsSentThere)
    → Contains (front ++ rest) IsSentThere → Contains (front ++ more) IsSentThere
with-front [] rest more h there = h there
with-front (s ∷ ss) rest more h there =
    elim (contains-cases s (ss ++ rest) IsSentThere there) [
      | inl e ↦ subst (λ z. Contains (z ∷ (ss ++ more)) IsSentThere) (sym e) (contains-first IsSentThere (ss ++ more))
      | inr behind ↦
          Contains-append_right (s ∷ []) (ss ++ more) IsSentThere (with-front ss rest more h behind)
    ]

-- what is sent there of a used name was sent there before
pub sent-before : (call : ℕ → CallPlace) (name : Name) (fs : List Frame)
    → Contains (flat_map (range_steps_of true call name) fs) IsSentThere
    → Contains (flat_map (range_steps_of false call name) fs) IsSentThere
sent-before call name [] there = there
sent-before call name (frames.Cancel asked ∷ fs) there =
    cancel-unsent (is_cancel_on name asked) (flat_map (range_steps_of true call name) fs)
    (flat_map (range_steps_of false call name) fs) (sent-before call name fs) there
sent-before call name (frames.Forward asked ∷ fs) there =
    with-front (range_steps_of true call name (frames.Forward asked)) (flat_map (range_steps_of true call name) fs)
    (flat_map (range_steps_of false call name) fs) (sent-before call name fs) there
sent-before call name (frames.Lease kind first ∷ fs) there =
    with-front (range_steps_of true call name (frames.Lease kind first)) (flat_map (range_steps_of true call name) fs)
    (flat_map (range_steps_of false call name) fs) (sent-before call name fs) there
sent-before call name (f ∷ fs) there = sent-before call name fs there

-- leases are in front still, also behind one that was sent
record StillFirst (before after : List RangeStep) : Type 0 where
  alone : leases_first before ≡ true → leases_first after ≡ true
  behind : leases_first (IsSentThere ∷ before) ≡ true → leases_first (IsSentThere ∷ after) ≡ true

without-first : (steps : List RangeStep) → leases_first (IsSentThere ∷ steps) ≡ true → leases_first steps ≡ true
without-first [] h = refl
without-first (IsSentThere ∷ rest) h = h
without-first (IsLeased ∷ rest) h = absurd (false≢true h)

sent-in-front : (t : Bool) (before after : List RangeStep) → StillFirst before after
    → StillFirst (range_steps_if t IsSentThere ++ before) (range_steps_if t IsSentThere ++ after)
sent-in-front true before after s = record { alone = s.behind; behind = s.behind }
sent-in-front false before after s = s

sent-is-dropped : (t : Bool) (before after : List RangeStep) → StillFirst before after
    → StillFirst (range_steps_if t IsSentThere ++ before) after
sent-is-dropped true before after s =
    record { alone = λ h. without-first after (s.behind h); behind = s.behind }
sent-is-dropped false before after s = s

leased-in-front : (t : Bool) (before after : List RangeStep) → StillFirst before after
    → StillFirst (range_steps_if t IsLeased ++ before) (range_steps_if t IsLeased ++ after)
leased-in-front true before after s = record { alone = s.alone; behind = λ h. absurd (false≢true h) }
leased-in-front false before after s = s

first-by : (call : ℕ → CallPlace) (name : Name) (fs : List Frame)
    → StillFirst (flat_map (range_steps_of false call name) fs) (flat_map (range_steps_of true call name) fs)
first-by call name [] = record { alone = λ h. h; behind = λ h. h }
first-by call name (frames.Cancel asked ∷ fs) =
    sent-is-dropped (is_cancel_on name asked) (flat_map (range_steps_of false call name) fs)
    (flat_map (range_steps_of true call name) fs) (first-by call name fs)
first-by call name (frames.Forward asked ∷ fs) =
    sent-in-front (is_call_on name asked && is_sent_by_range (call asked.caller))
    (flat_map (range_steps_of false call name) fs) (flat_map (range_steps_of true call name) fs) (first-by call name fs)
first-by call name (frames.Lease kind first ∷ fs) =
    leased-in-front (leases_name name kind first) (flat_map (range_steps_of false call name) fs)
    (flat_map (range_steps_of true call name) fs) (first-by call name fs)
first-by call name (f ∷ fs) = first-by call name fs

-- so no lease stands behind one
pub first-still : (call : ℕ → CallPlace) (name : Name) (fs : List Frame)
    → leases_first (flat_map (range_steps_of false call name) fs) ≡ true
    → leases_first (flat_map (range_steps_of true call name) fs) ≡ true
first-still call name fs h = (first-by call name fs).alone h
