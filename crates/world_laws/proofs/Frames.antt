-- Which frames are about a name, a call, a way: the others leave what is seen of it.
use Rattle.std.proofs.Common.{◌≡◌, ◌≢◌, ℕ, Bool, true, false, ◌||◌, ◌&&◌, not, cond, if◌then◌else◌, List, [], ◌∷◌, ◌++◌, filter, flat_map, nat_eq, Contains, refl, ap, sym, subst, ◌∙◌, inl, inr, arith}
use Rattle.std.specs.List.{AllByRecursion}
use Rattle.std.proofs.lemmas.Bool.{cases_eq, eq-eqb, ne_eqb, false≢true}
use Rattle.std.proofs.lemmas.List.Elements.{Contains-append_cases, Contains-push_cases}
use Rattle.pico_base.specs.declared.numbers.Kind.{Kind}
use Rattle.pico_base.specs.declared.numbers.Name.{Name}
use Rattle.pico_base.specs.declared.numbers.Name.TheVariants.{Proc}
use Rattle.rpc_frame.specs.declared.frame.Frame.{Frame}
use Rattle.rpc_frame.specs.declared.frame.Frame.TheVariants as frames
use Rattle.node_model.specs.Kinds.{is_same_name, is_object}
use Rattle.node_model.specs.Directory.{has_deed_of}
use Rattle.world_model.specs.Census.{brings}
use Rattle.world_model.specs.World.{is_checkpoint}
use Rattle.world_laws.specs.Places.{CallPlace}
use Rattle.world_laws.specs.Plays.{is_call_on, is_cancel_on, is_lasting, needs_by, steps_of, steps_if, Comes, Goes, IsNeeded, plays, is_checkpoint_of, placed_by, placed_in, news_of, news_if, Tells, NeedsPlace, news}
use Rattle.world_laws.specs.Names.{leases_name, is_sent_by_range, range_steps_of, range_steps_if, IsSentThere, IsLeased}
use Rattle.world_laws.specs.Callers.{is_about}
use Rattle.world_laws.specs.Ways.{is_leaving_frame, is_recall_all, is_left_frame}
use Rattle.world_laws.specs.Ranges.{lease_in}
use Rattle.world_laws.proofs.Sends.{frame_if, frames_with}

-- ---- lists of frames

-- what follows from a fact of each holds of each
pub all-weaker : {A : Type 0} {P Q : A → Type 0} → ((x : A) → P x → Q x) → (xs : List A) → AllByRecursion P xs
    → AllByRecursion Q xs
all-weaker g [] all = tt
all-weaker g (x ∷ xs) all = (g x all.0, all-weaker g xs all.1)

-- nothing is in an empty stream
pub contains-none : (frame : Frame) → Contains [] frame → ⊥
contains-none frame there = omega (arith, there.1)

-- in a stream of one frame is that one
pub contains-one : (f g : Frame) → Contains (f ∷ []) g → f ≡ g
contains-one f g there =
    elim (Contains-push_cases [] f g there) [ inl none ↦ absurd (contains-none g none) | inr e ↦ e ]

-- what is on its way to a node from what was sent was sent to it
pub sent-is : (P : ℕ → Frame → Type 0) (pairs : List (ℕ × Frame)) → AllByRecursion (λ s. P s.0 s.1) pairs → (x : ℕ)
    (frame : Frame) → Contains (frames_with x pairs) frame → P x frame
sent-is P [] all x frame there = absurd (contains-none frame there)
sent-is P (s ∷ pairs) all x frame there =
    elim (Contains-append_cases (frame_if (nat_eq x s.0) s.1) (frames_with x pairs) frame there) [
      | inl first ↦
          elim (cases_eq x s.0) [
            | inl e ↦
                let one : s.1 ≡ frame =
                contains-one s.1 frame (subst (λ b. Contains (frame_if b s.1) frame) (eq-eqb x s.0 e) first)
                in subst (λ f. P x f) one (subst (λ y. P y s.1) (sym e) all.0)
            | inr d ↦
                absurd
                (contains-none frame (subst (λ b. Contains (frame_if b s.1) frame) (ne_eqb x s.0 d) first))
          ]
      | inr later ↦ sent-is P pairs all.1 x frame later
    ]

dropped : {A : Type 0} (test : A → Bool) (x : A) → test x ≡ false → filter test (x ∷ []) ≡ []
dropped test x h = ap (λ b. cond b (x ∷ []) []) h

-- ---- names

-- the frame is about the name. A Leaving is where its node made the name, and a RecallAll is where the node has it.
abbrev pub concerns : Name → Frame → Bool
concerns name (frames.Forward asked) = is_call_on name asked
concerns name (frames.Bounce asked) = is_call_on name asked
concerns name (frames.Lease kind first) = leases_name name kind first
concerns name (frames.Placed other node) = is_same_name name other
concerns name (frames.Checkpoint pid parent deed vars) = is_same_name name deed.name
concerns name (frames.Recall other) = is_same_name name other
concerns name (frames.GiveBack deed) = is_same_name name deed.name
concerns name (frames.Grant deed) = is_same_name name deed.name
concerns name (frames.Leaving pid parent parent_node) = true
concerns name frames.RecallAll = true
concerns name (frames.Left parcel) = has_deed_of name parcel
concerns name (frames.ExitTo parcel) = has_deed_of name parcel || is_same_name name (Proc parcel.parent)
concerns name (frames.Cancel asked) = is_cancel_on name asked
concerns name frame = false

or-left : (a b : Bool) → (a || b) ≡ false → a ≡ false
or-left true b h = absurd (false≢true (sym h))
or-left false b h = refl

or-right : (a b : Bool) → (a || b) ≡ false → b ≡ false
or-right true b h = absurd (false≢true (sym h))
or-right false b h = h

brings-none : (name : Name) (frame : Frame) → concerns name frame ≡ false → brings name frame ≡ false
brings-none name (frames.Checkpoint pid parent deed vars) h = h
brings-none name (frames.GiveBack deed) h = h
brings-none name (frames.Grant deed) h = h
brings-none name (frames.Left parcel) h = h
brings-none name (frames.ExitTo parcel) h = or-left (has_deed_of name parcel) _ h
brings-none name frame h = refl

is-no-checkpoint : (name : Name) (frame : Frame) → concerns name frame ≡ false → is_checkpoint_of name frame ≡ false
is-no-checkpoint name (frames.Checkpoint pid parent deed vars) h = h
is-no-checkpoint name frame h = refl

-- a frame that is not about a name brings no deed of it
pub no-deed : (name : Name) (frame : Frame) → concerns name frame ≡ false → filter (brings name) (frame ∷ []) ≡ []
no-deed name frame h = dropped (brings name) frame (brings-none name frame h)

-- nor a Checkpoint
pub no-checkpoint : (name : Name) (frame : Frame) → concerns name frame ≡ false
    → filter (is_checkpoint_of name) (frame ∷ []) ≡ []
no-checkpoint name frame h = dropped (is_checkpoint_of name) frame (is-no-checkpoint name frame h)

none-of-both : (a b : Bool) → a ≡ false → (a && b) ≡ false
none-of-both true b h = absurd (false≢true (sym h))
none-of-both false b h = refl

and-false : (a b : Bool) → b ≡ false → (a && b) ≡ false
and-false true b h = h
and-false false b h = refl

exit-steps : (a b : Bool) → a ≡ false → b ≡ false → (if a then Comes ∷ [] else steps_if b IsNeeded) ≡ []
exit-steps a b h g = rw (h, g) refl

no-steps-of : (used : Bool) (call : ℕ → CallPlace) (name : Name) (frame : Frame) → concerns name frame ≡ false
    → steps_of used call name frame ≡ []
no-steps-of used call name (frames.Forward asked) h =
    ap (λ b. steps_if b IsNeeded) (none-of-both (is_call_on name asked) _ h)
no-steps-of used call name (frames.Checkpoint pid parent deed vars) h = ap (λ b. steps_if b Comes) h
no-steps-of used call name (frames.Recall other) h = ap (λ b. steps_if b Goes) h
no-steps-of used call name (frames.Grant deed) h = ap (λ b. steps_if b Comes) h
no-steps-of used call name frames.RecallAll h = absurd (false≢true (sym h))
no-steps-of used call name (frames.ExitTo parcel) h =
    exit-steps (has_deed_of name parcel) (is_same_name name (Proc parcel.parent)) (or-left _ _ h)
    (or-right (has_deed_of name parcel) _ h)
no-steps-of used call name (frames.Cancel asked) h =
    ap (λ b. steps_if b IsNeeded) (and-false used (is_cancel_on name asked) h)
no-steps-of used call name frame h = refl

-- a map to lists, of one frame
just-one : {A : Type 0} (g : Frame → List A) (frame : Frame) → g frame ≡ [] → flat_map g (frame ∷ []) ≡ []
just-one g frame h = ap (λ xs. xs ++ []) h

-- it is nothing in the play
pub no-steps : (used : Bool) (call : ℕ → CallPlace) (name : Name) (frame : Frame) → concerns name frame ≡ false
    → plays used call name (frame ∷ []) ≡ []
no-steps used call name frame h = just-one (steps_of used call name) frame (no-steps-of used call name frame h)

no-ranges-of : (used : Bool) (call : ℕ → CallPlace) (name : Name) (frame : Frame) → concerns name frame ≡ false
    → range_steps_of used call name frame ≡ []
no-ranges-of used call name (frames.Forward asked) h =
    ap (λ b. range_steps_if b IsSentThere) (none-of-both (is_call_on name asked) _ h)
no-ranges-of used call name (frames.Lease kind first) h = ap (λ b. range_steps_if b IsLeased) h
no-ranges-of used call name (frames.Cancel asked) h =
    ap (λ b. range_steps_if b IsSentThere) (and-false (not used) (is_cancel_on name asked) h)
no-ranges-of used call name frame h = refl

-- nor a call sent by range, nor a lease with its number
pub no-ranges : (used : Bool) (call : ℕ → CallPlace) (name : Name) (frame : Frame) → concerns name frame ≡ false
    → flat_map (range_steps_of used call name) (frame ∷ []) ≡ []
no-ranges used call name frame h = just-one (range_steps_of used call name) frame (no-ranges-of used call name frame h)

no-places-of : (name : Name) (frame : Frame) → concerns name frame ≡ false → placed_by name frame ≡ []
no-places-of name (frames.Placed other node) h = ap (λ b. if b then node ∷ [] else []) h
no-places-of name frame h = refl

-- it tells no place of it
pub no-places : (name : Name) (frame : Frame) → concerns name frame ≡ false → placed_in name (frame ∷ []) ≡ []
no-places name frame h = just-one (placed_by name) frame (no-places-of name frame h)

no-news-of : (name : Name) (made : Bool) (frame : Frame) → concerns name frame ≡ false → news_of name made frame ≡ []
no-news-of name made (frames.Placed other node) h = ap (λ b. news_if b Tells) h
no-news-of name made (frames.Bounce asked) h = ap (λ b. news_if b NeedsPlace) h
no-news-of name made (frames.Leaving pid parent parent_node) h = absurd (false≢true (sym h))
no-news-of name made frame h = refl

-- and needs none
pub no-news : (name : Name) (made : Bool) (frame : Frame) → concerns name frame ≡ false
    → news name made (frame ∷ []) ≡ []
no-news name made frame h = just-one (news_of name made) frame (no-news-of name made frame h)

-- ---- calls

-- a frame of another call is left out
pub not-about : (x to sender : ℕ) (frame : Frame) → is_about x to sender frame ≡ false
    → filter (is_about x to sender) (frame ∷ []) ≡ []
not-about x to sender frame h = dropped (is_about x to sender) frame h

-- calls of others are where they were
abbrev pub IsSameBut : ℕ → (ℕ → CallPlace) → (ℕ → CallPlace) → Type 0
IsSameBut x call changed = (y : ℕ) → y ≢ x → changed y ≡ call y

apart : (a b : ℕ) → nat_eq a b ≡ false → a ≢ b
apart a b h e = false≢true (sym h ∙ eq-eqb a b e)

steps-of-others : (used : Bool) (call changed : ℕ → CallPlace) (x : ℕ) → IsSameBut x call changed → (name : Name)
    (to sender : ℕ) (frame : Frame)
    → is_about x to sender frame ≡ false → steps_of used changed name frame ≡ steps_of used call name frame
steps-of-others used call changed x same name to sender (frames.Forward asked) h =
    ap (λ place. steps_if (is_call_on name asked && needs_by (used && (is_object name && is_lasting asked)) place)
    IsNeeded)
    (same asked.caller (apart asked.caller x h))
steps-of-others used call changed x same name to sender frame h = refl

ranges-of-others : (used : Bool) (call changed : ℕ → CallPlace) (x : ℕ) → IsSameBut x call changed → (name : Name)
    (to sender : ℕ) (frame : Frame)
    → is_about x to sender frame ≡ false → range_steps_of used changed name frame ≡ range_steps_of used call name frame
ranges-of-others used call changed x same name to sender (frames.Forward asked) h =
    ap (λ place. range_steps_if (is_call_on name asked && is_sent_by_range place) IsSentThere)
    (same asked.caller (apart asked.caller x h))
ranges-of-others used call changed x same name to sender frame h = refl

-- an empty filter drops the first, and the rest
record DropsAll {A : Type 0} (test : A → Bool) (x : A) (xs : List A) : Type 0 where
  first : test x ≡ false
  rest : filter test xs ≡ []

is-not-empty : {A : Type 0} (x : A) (xs : List A) → x ∷ xs ≡ [] → ⊥
is-not-empty x xs h = cc

drops-by : {A : Type 0} (b : Bool) (x : A) (xs : List A) → cond b (x ∷ xs) xs ≡ [] → (b ≡ false) × (xs ≡ [])
drops-by true x xs h = absurd (is-not-empty x xs h)
drops-by false x xs h = (refl, h)

drops-all : {A : Type 0} (test : A → Bool) (x : A) (xs : List A) → filter test (x ∷ xs) ≡ [] → DropsAll test x xs
drops-all test x xs h =
    let both = drops-by (test x) x (filter test xs) h
    in record { first = both.0; rest = both.1 }

-- where no frame is about a call, it doesn't matter where that call is
pub plays-of-others : (used : Bool) (call changed : ℕ → CallPlace) (x : ℕ) → IsSameBut x call changed → (name : Name)
    (to sender : ℕ) (fs : List Frame)
    → filter (is_about x to sender) fs ≡ [] → plays used changed name fs ≡ plays used call name fs
plays-of-others used call changed x same name to sender [] h = refl
plays-of-others used call changed x same name to sender (f ∷ fs) h =
    let d : DropsAll (is_about x to sender) f fs = drops-all (is_about x to sender) f fs h
    in ap (λ xs. xs ++ plays used changed name fs) (steps-of-others used call changed x same name to sender f d.first)
    ∙ ap (λ xs. steps_of used call name f ++ xs) (plays-of-others used call changed x same name to sender fs d.rest)

-- the same for calls sent by range
pub ranges-of-all-others : (used : Bool) (call changed : ℕ → CallPlace) (x : ℕ) → IsSameBut x call changed
    → (name : Name) (to sender : ℕ) (fs : List Frame)
    → filter (is_about x to sender) fs ≡ []
    → flat_map (range_steps_of used changed name) fs ≡ flat_map (range_steps_of used call name) fs
ranges-of-all-others used call changed x same name to sender [] h = refl
ranges-of-all-others used call changed x same name to sender (f ∷ fs) h =
    let d : DropsAll (is_about x to sender) f fs = drops-all (is_about x to sender) f fs h
    in ap (λ xs. xs ++ flat_map (range_steps_of used changed name) fs)
    (ranges-of-others used call changed x same name to sender f d.first)
    ∙ ap (λ xs. range_steps_of used call name f ++ xs)
    (ranges-of-all-others used call changed x same name to sender fs d.rest)

-- ---- what only some events have

-- nothing of a process's end
abbrev pub is_plain : Frame → Bool
is_plain (frames.Leaving pid parent parent_node) = false
is_plain frames.RecallAll = false
is_plain (frames.Left parcel) = false
is_plain (frames.ExitTo parcel) = false
is_plain frame = true

-- nothing of an end in any of them
abbrev pub ArePlain : List (ℕ × Frame) → Type 0
ArePlain pairs = AllByRecursion (λ s. is_plain s.1 ≡ true) pairs

-- so there is no Leaving among them
pub no-leaving : (frame : Frame) → is_plain frame ≡ true → filter is_leaving_frame (frame ∷ []) ≡ []
no-leaving (frames.Leaving pid parent parent_node) h = absurd (false≢true h)
no-leaving frame h = refl

-- no RecallAll
pub no-recall-all : (frame : Frame) → is_plain frame ≡ true → filter is_recall_all (frame ∷ []) ≡ []
no-recall-all frames.RecallAll h = absurd (false≢true h)
no-recall-all frame h = refl

-- no Left
pub no-left : (frame : Frame) → is_plain frame ≡ true → filter is_left_frame (frame ∷ []) ≡ []
no-left (frames.Left parcel) h = absurd (false≢true h)
no-left frame h = refl

-- none of them brings a process
abbrev pub BringNoBirth : List (ℕ × Frame) → Type 0
BringNoBirth pairs = AllByRecursion (λ s. is_checkpoint s.1 ≡ false) pairs

-- no Checkpoint
pub no-birth : (frame : Frame) → is_checkpoint frame ≡ false → filter is_checkpoint (frame ∷ []) ≡ []
no-birth frame h = dropped is_checkpoint frame h

-- none of them brings new numbers
abbrev pub BringNoLease : List (ℕ × Frame) → Type 0
BringNoLease pairs = (kind : Kind) → AllByRecursion (λ s. lease_in kind s.1 ≡ []) pairs

-- no Lease of the kind
pub no-lease : (kind : Kind) (frame : Frame) → lease_in kind frame ≡ [] → flat_map (lease_in kind) (frame ∷ []) ≡ []
no-lease kind frame h = just-one (lease_in kind) frame h
