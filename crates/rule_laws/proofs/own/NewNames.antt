-- For a name that isn't there yet: nothing on the way is about it. And lists and options that nothing is in.
use Rattle.std.proofs.Common.{◌≡◌, ℕ, Bool, true, false, ◌&&◌, cond, if◌then◌else◌, List, [], ◌∷◌, ◌++◌, filter, Contains, Option, Some, None, is_some, refl, ap, sym, ◌∙◌, inl, inr}
use Rattle.std.proofs.lemmas.Bool.{false≢true}
use Rattle.pico_base.specs.declared.numbers.Name.{Name}
use Rattle.pico_base.specs.declared.numbers.Name.TheVariants.{Proc}
use Rattle.rpc_frame.specs.declared.frame.Frame.{Frame}
use Rattle.rpc_frame.specs.declared.frame.Frame.TheVariants as frames
use Rattle.kernel_laws.proofs.Members.{contains-cases, contains-first, contains-none}
use Rattle.node_model.specs.Directory.{has_deed_of}
use Rattle.node_model.specs.Kinds.{is_same_name}
use Rattle.world_model.specs.Census.{brings}
use Rattle.world_laws.specs.Places.{CallPlace}
use Rattle.world_laws.specs.Plays.{Hold, Has, Lacks, PlayStep, Comes, Goes, IsNeeded, is_cancel_on, is_has, needs_deed, play, plays, steps_if, steps_of}
use Rattle.world_laws.specs.Ways.{is_recall_all}
use Rattle.world_laws.proofs.NameFacts.{play-goes, play-needs}

-- ---- nothing on the way is about a name that isn't there

lacks-is-not-has : Lacks ≡ Has → ⊥
lacks-is-not-has h = false≢true (ap is_has h)

if-needed : (t : Bool) (ss : List PlayStep) (last : Hold) → play Lacks (steps_if t IsNeeded ++ ss) ≡ Some last
    → steps_if t IsNeeded ≡ []
if-needed true ss last h = absurd (lacks-is-not-has ((play-needs Lacks last ss h).0))
if-needed false ss last h = refl

if-goes : (t : Bool) (ss : List PlayStep) (last : Hold) → play Lacks (steps_if t Goes ++ ss) ≡ Some last
    → steps_if t Goes ≡ []
if-goes true ss last h = absurd (lacks-is-not-has ((play-goes Lacks last ss h).0))
if-goes false ss last h = refl

if-exit : (a c : Bool) (ss : List PlayStep) (last : Hold) → a ≡ false
    → play Lacks ((if a then Comes ∷ [] else steps_if c IsNeeded) ++ ss) ≡ Some last
    → (if a then Comes ∷ [] else steps_if c IsNeeded) ≡ []
if-exit true c ss last e h = absurd (false≢true (sym e))
if-exit false c ss last e h = if-needed c ss last h

no-step : (used : Bool) (call : ℕ → CallPlace) (name : Name) (f : Frame) (ss : List PlayStep) (last : Hold)
    → brings name f ≡ false
    → is_recall_all f ≡ false → play Lacks (steps_of used call name f ++ ss) ≡ Some last
    → steps_of used call name f ≡ []
no-step used call name (frames.Grant deed) ss last e r h = ap (λ t. steps_if t Comes) e
no-step used call name (frames.Checkpoint pid parent deed vars) ss last e r h = ap (λ t. steps_if t Comes) e
no-step used call name (frames.ExitTo parcel) ss last e r h =
    if-exit (has_deed_of name parcel) (is_same_name name (Proc parcel.parent)) ss last e h
no-step used call name (frames.Recall other) ss last e r h = if-goes (is_same_name name other) ss last h
no-step used call name frames.RecallAll ss last e r h = absurd (false≢true (sym r))
no-step used call name (frames.Forward asked) ss last e r h = if-needed (needs_deed used call name asked) ss last h
no-step used call name (frames.Cancel asked) ss last e r h = if-needed (used && is_cancel_on name asked) ss last h
no-step used call name f ss last e r h = refl

-- where a filter keeps nothing, it drops the first, and all the others
pub drops : {A : Type 0} (t : Bool) (x : A) (xs : List A) → cond t (x ∷ xs) xs ≡ [] → (t ≡ false) × (xs ≡ [])
drops true x xs h = absurd (not-empty x xs h)
  where
    not-empty : {A : Type 0} (x : A) (xs : List A) → x ∷ xs ≡ [] → ⊥
    not-empty x xs h = cc
drops false x xs h = (refl, h)

-- where no frame brings its deed, none collects all, and the node lacks it
pub no-plays : (used : Bool) (call : ℕ → CallPlace) (name : Name) (fs : List Frame) (last : Hold)
    → filter (brings name) fs ≡ []
    → filter is_recall_all fs ≡ [] → play Lacks (plays used call name fs) ≡ Some last → plays used call name fs ≡ []
no-plays used call name [] last e r h = refl
no-plays used call name (f ∷ fs) last e r h =
    let b = drops (brings name f) f (filter (brings name) fs) e
    in let c = drops (is_recall_all f) f (filter is_recall_all fs) r
    in let none : steps_of used call name f ≡ [] = no-step used call name f (plays used call name fs) last b.0 c.0 h
    in ap (λ ss. ss ++ plays used call name fs) none
    ∙ no-plays used call name fs last b.1 c.1 (sym (ap (λ ss. play Lacks (ss ++ plays used call name fs)) none) ∙ h)

-- ---- lists and options

-- a list in which nothing is is empty
pub nobody-in : (xs : List ℕ) → ((v : ℕ) → Contains xs v → ⊥) → xs ≡ []
nobody-in [] h = refl
nobody-in (v ∷ vs) h = absurd (h v (contains-first v vs))

-- what isn't there is none
pub is-unplaced : {A : Type 0} (o : Option A) → (is_some o ≡ true → ⊥) → o ≡ None
is-unplaced None h = refl
is-unplaced (Some a) h = absurd (h refl)

-- in a list of one is that one
pub only-in : (v u : ℕ) → Contains (v ∷ []) u → v ≡ u
only-in v u there = elim (contains-cases v [] u there) [ inl e ↦ e | inr none ↦ absurd (contains-none u none) ]
