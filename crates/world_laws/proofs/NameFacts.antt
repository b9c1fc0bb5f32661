-- What follows of one name: where it is held, what a frame at the head of its play found, and what brings it.
use Rattle.std.proofs.Common.{◌≡◌, ◌≢◌, ℕ, Bool, true, false, ◌&&◌, ◌||◌, not, cond, if◌then◌else◌, List, [], ◌∷◌, filter, nat_eq, Some, None, is_some, refl, ap, sym, subst, ◌∙◌}
use Rattle.std.proofs.lemmas.Bool.{eqb-true, eq-eqb, ne_eqb, false≢true}
use Rattle.std.specs.List.{AllByRecursion}
use Rattle.pico_base.specs.declared.numbers.Name.{Name}
use Rattle.pico_base.specs.declared.numbers.Name.TheVariants.{Proc, Msg, Sem}
use Rattle.rpc_frame.specs.declared.deed.PackedDeed.{PackedDeed}
use Rattle.rpc_frame.specs.declared.frame.Frame.{Frame}
use Rattle.rpc_frame.specs.declared.frame.Frame.TheVariants as frames
use Rattle.node_model.specs.Kinds.{get_named}
use Rattle.node_model.specs.Bodies.{Body}
use Rattle.node_model.specs.Spelling.{pack}
use Rattle.world_model.specs.Node.{Node, Stage, Unborn, Living, Leaving, Left, Over, is_unborn, unborn_node}
use Rattle.world_model.specs.Census.{brings}
use Rattle.world_laws.specs.Places.{DeedPlace, Unmade, InTable, InCheckpoint, InGrant, InGiveBack, InLeft, InKept, InHand, InExitTo}
use Rattle.world_laws.specs.Plays.{Hold, Has, Lacks, Done, PlayStep, Comes, Goes, IsNeeded, play, begin, is_checkpoint_of, is_has}
use Rattle.world_laws.specs.Names.{OneIf, IsBringer, is_stream_of, held_as, may_be_at, PlaysTo}
use Rattle.world_laws.specs.Families.{HoldsIn}
use Rattle.world_laws.proofs.Played.{play-none}

-- ---- plays

none-is-not : {A : Type 0} (a : A) → None ≡ Some a → ⊥
none-is-not a h = false≢true (ap is_some h)

-- a deed that goes was there, and one that comes was not
pub play-goes : (hold last : Hold) (ss : List PlayStep) → play hold (Goes ∷ ss) ≡ Some last
    → (hold ≡ Has) × (play Lacks ss ≡ Some last)
play-goes Has last ss h = (refl, h)
play-goes Lacks last ss h = absurd (none-is-not last (sym (play-none ss) ∙ h))
play-goes Done last ss h = absurd (none-is-not last (sym (play-none ss) ∙ h))

-- a deed that comes was not there
pub play-comes : (hold last : Hold) (ss : List PlayStep) → play hold (Comes ∷ ss) ≡ Some last
    → (hold ≡ Lacks) × (play Has ss ≡ Some last)
play-comes Lacks last ss h = (refl, h)
play-comes Has last ss h = absurd (none-is-not last (sym (play-none ss) ∙ h))
play-comes Done last ss h = absurd (none-is-not last (sym (play-none ss) ∙ h))

-- what needs the deed finds it, and leaves it
pub play-needs : (hold last : Hold) (ss : List PlayStep) → play hold (IsNeeded ∷ ss) ≡ Some last
    → (hold ≡ Has) × (play Has ss ≡ Some last)
play-needs Has last ss h = (refl, h)
play-needs Lacks last ss h = absurd (none-is-not last (sym (play-none ss) ∙ h))
play-needs Done last ss h = absurd (none-is-not last (sym (play-none ss) ∙ h))

-- ---- how a play begins

done-is-not-has : Done ≡ Has → ⊥
done-is-not-has h = false≢true (ap is_has h)

begins-as : (b : Bool) → (if b then Has else Lacks) ≡ Has → b ≡ true
begins-as true h = refl
begins-as false h = absurd (false≢true (ap is_has h))

-- the node has handed over all
abbrev pub has_left : Stage → Bool
has_left Left = true
has_left stage = false

-- where a play begins with the deed, the node hasn't left, and it holds the deed or a Checkpoint brings it
pub begin-has : (stage : Stage) (holds comes : Bool) → begin stage holds comes ≡ Has
    → (has_left stage ≡ false) × ((holds || comes) ≡ true)
begin-has Unborn holds comes h = (refl, begins-as (holds || comes) h)
begin-has Living holds comes h = (refl, begins-as (holds || comes) h)
begin-has Leaving holds comes h = (refl, begins-as (holds || comes) h)
begin-has Over holds comes h = (refl, begins-as (holds || comes) h)
begin-has Left holds comes h = absurd (done-is-not-has h)

lacks-as : (b : Bool) → (if b then Has else Lacks) ≡ Lacks → b ≡ false
lacks-as true h = absurd (false≢true (sym (ap is_has h)))
lacks-as false h = refl

abbrev is_done : Hold → Bool
is_done Done = true
is_done hold = false

-- where a play begins without the deed, it is not here and does not come
pub begin-lacks : (stage : Stage) (holds comes : Bool) → begin stage holds comes ≡ Lacks
    → (has_left stage ≡ false) × ((holds || comes) ≡ false)
begin-lacks Unborn holds comes h = (refl, lacks-as (holds || comes) h)
begin-lacks Living holds comes h = (refl, lacks-as (holds || comes) h)
begin-lacks Leaving holds comes h = (refl, lacks-as (holds || comes) h)
begin-lacks Over holds comes h = (refl, lacks-as (holds || comes) h)
begin-lacks Left holds comes h = absurd (false≢true (sym (ap is_done h)))

-- a node that hasn't left begins with the deed exactly where it has it
pub begins-with : (stage : Stage) (holds comes : Bool) → has_left stage ≡ false → (holds || comes) ≡ true
    → begin stage holds comes ≡ Has
begins-with Unborn holds comes l h = ap (λ b. if b then Has else Lacks) h
begins-with Living holds comes l h = ap (λ b. if b then Has else Lacks) h
begins-with Leaving holds comes l h = ap (λ b. if b then Has else Lacks) h
begins-with Over holds comes l h = ap (λ b. if b then Has else Lacks) h
begins-with Left holds comes l h = absurd (false≢true (sym l))

-- and without it where it is not
pub begins-without : (stage : Stage) (holds comes : Bool) → has_left stage ≡ false → (holds || comes) ≡ false
    → begin stage holds comes ≡ Lacks
begins-without Unborn holds comes l h = ap (λ b. if b then Has else Lacks) h
begins-without Living holds comes l h = ap (λ b. if b then Has else Lacks) h
begins-without Leaving holds comes l h = ap (λ b. if b then Has else Lacks) h
begins-without Over holds comes l h = ap (λ b. if b then Has else Lacks) h
begins-without Left holds comes l h = absurd (false≢true (sym l))

-- ---- what is held

pub record IsHeldAt (deed : DeedPlace) (body : Body) (h : ℕ) (v : Body) : Type 0 where
  pub deed_is : deed ≡ InTable h
  pub body_is : v ≡ body

some-is : (v body : Body) → Some body ≡ Some v → v ≡ body
some-is v body h = cc

in-table : (node h : ℕ) (body v : Body) (t : Bool) → nat_eq node h ≡ t
    → (if t then Some body else None) ≡ Some v
    → IsHeldAt (InTable node) body h v
in-table node h body v true e g =
    record { deed_is = ap InTable (eqb-true node h e); body_is = some-is v body g }
in-table node h body v false e g = absurd (none-is-not v g)

-- a name that a node holds is in its table, with the kernel's part
pub held-there : (deed : DeedPlace) (body : Body) (h : ℕ) (v : Body) → held_as deed body h ≡ Some v
    → IsHeldAt deed body h v
held-there (InTable node) body h v g = in-table node h body v (nat_eq node h) refl g
held-there Unmade body h v g = absurd (none-is-not v g)
held-there (InCheckpoint to) body h v g = absurd (none-is-not v g)
held-there (InGrant to) body h v g = absurd (none-is-not v g)
held-there (InGiveBack sender) body h v g = absurd (none-is-not v g)
held-there (InLeft of) body h v g = absurd (none-is-not v g)
held-there (InKept of) body h v g = absurd (none-is-not v g)
held-there (InHand of) body h v g = absurd (none-is-not v g)
held-there (InExitTo of to) body h v g = absurd (none-is-not v g)

-- and it isn't held elsewhere
pub held-elsewhere : (node h : ℕ) (body : Body) → h ≢ node → held_as (InTable node) body h ≡ None
held-elsewhere node h body d = ap (λ t. if t then Some body else None) (ne_eqb node h (λ e. d (sym e)))

-- it is held in its own table
pub held-here : (node : ℕ) (body : Body) → held_as (InTable node) body node ≡ Some body
held-here node body = ap (λ t. if t then Some body else None) (eq-eqb node node refl)

-- a node that holds something is born
pub holder-is-born : (p : ℕ) (n : Node) (name : Name) (body : Body) (stage : Stage) → HoldsIn p n stage
    → get_named n.deeds name ≡ Some body → not (is_unborn stage) ≡ true
holder-is-born p n name body Unborn h g =
    absurd (none-is-not body (sym (ap (λ (m : Node). get_named m.deeds name) h ∙ nothing name) ∙ g))
  where
    nothing : (name : Name) → get_named (unborn_node p).deeds name ≡ None
    nothing (Proc pid) = refl
    nothing (Msg id) = refl
    nothing (Sem id) = refl
holder-is-born p n name body Living h g = refl
holder-is-born p n name body Leaving h g = refl
holder-is-born p n name body Left h g = refl
holder-is-born p n name body Over h g = refl

-- ---- what brings it

-- where a filter keeps nothing that another one does, and keeps only what that one does, it keeps nothing
none-of-fewer : {A : Type 0} (few many : A → Bool) → ((x : A) → few x ≡ true → many x ≡ true) → (xs : List A)
    → AllByRecursion (λ x. few x ≡ false) (filter many xs) → filter few xs ≡ []
none-of-fewer few many less [] all = refl
none-of-fewer few many less (x ∷ xs) all = by-test (none-of-fewer few many less xs) (many x) refl all
  where
    not-few : (t : Bool) → few x ≡ t → many x ≡ false → few x ≡ false
    not-few true e m = absurd (false≢true (sym m ∙ less x e))
    not-few false e m = e

    by-test : (AllByRecursion (λ y. few y ≡ false) (filter many xs) → filter few xs ≡ []) → (m : Bool) → many x ≡ m
        → AllByRecursion (λ x. few x ≡ false) (cond m (x ∷ filter many xs) (filter many xs))
        → cond (few x) (x ∷ filter few xs) (filter few xs) ≡ []
    by-test rest true e all = ap (λ b. cond b (x ∷ filter few xs) (filter few xs)) all.0 ∙ rest all.1
    by-test rest false e all =
        ap (λ b. cond b (x ∷ filter few xs) (filter few xs)) (not-few (few x) refl e) ∙ rest all

checkpoints-bring : (name : Name) (frame : Frame) → is_checkpoint_of name frame ≡ true → brings name frame ≡ true
checkpoints-bring name (frames.Checkpoint pid parent deed vars) h = h
checkpoints-bring name frame h = absurd (false≢true h)

one-if-all : {A : Type 0} (t : Bool) (P : A → Type 0) (Q : A → Type 0) (xs : List A) → OneIf t P xs
    → ((x : A) → P x → Q x) → AllByRecursion Q xs
one-if-all true P Q xs h g = subst (λ ys. AllByRecursion Q ys) (sym h.only) (g h.one h.holds, tt)
one-if-all false P Q xs h g = subst (λ ys. AllByRecursion Q ys) (sym h) tt

is-grant : (name : Name) (deed : PackedDeed) (frame : Frame) → frame ≡ frames.Grant deed
    → is_checkpoint_of name frame ≡ false
is-grant name deed frame e = ap (is_checkpoint_of name) e

is-given-back : (name : Name) (deed : PackedDeed) (frame : Frame) → frame ≡ frames.GiveBack deed
    → is_checkpoint_of name frame ≡ false
is-given-back name deed frame e = ap (is_checkpoint_of name) e

-- no Checkpoint brings a queue or a set
pub no-checkpoint-of-object : (forks_it : ℕ → ℕ) (pids : ℕ → ℕ) (name : Name) (body : Body) (deed : DeedPlace)
    (to sender : ℕ) (fs : List Frame) → may_be_at true deed ≡ true
    → OneIf (is_stream_of forks_it deed to sender) (IsBringer pids name body deed) (filter (brings name) fs)
    → filter (is_checkpoint_of name) fs ≡ []
no-checkpoint-of-object forks_it pids name body deed to sender fs may h =
    none-of-fewer (is_checkpoint_of name) (brings name) (checkpoints-bring name) fs (by-place deed may h)
  where
    by-place : (d : DeedPlace) → may_be_at true d ≡ true
        → OneIf (is_stream_of forks_it d to sender) (IsBringer pids name body d) (filter (brings name) fs)
        → AllByRecursion (λ f. is_checkpoint_of name f ≡ false) (filter (brings name) fs)
    by-place Unmade may h = subst (λ ys. AllByRecursion (λ f. is_checkpoint_of name f ≡ false) ys) (sym h) tt
    by-place (InTable node) may h = subst (λ ys. AllByRecursion (λ f. is_checkpoint_of name f ≡ false) ys) (sym h) tt
    by-place (InGrant node) may h =
        one-if-all (nat_eq to node && nat_eq sender 1) _ (λ f. is_checkpoint_of name f ≡ false) _ h
        (is-grant name (pack name body))
    by-place (InGiveBack node) may h =
        one-if-all (nat_eq to 1 && nat_eq sender node) _ (λ f. is_checkpoint_of name f ≡ false) _ h
        (is-given-back name (pack name body))
    by-place (InCheckpoint node) may h = absurd (false≢true may)
    by-place (InLeft node) may h = absurd (false≢true may)
    by-place (InKept node) may h = absurd (false≢true may)
    by-place (InHand node) may h = absurd (false≢true may)
    by-place (InExitTo node to) may h = absurd (false≢true may)

-- what is sent in one stream is there alone
pub one-if-sent : {A : Type 0} (t : Bool) (P : A → Type 0) (x : A) → P x → OneIf t P (cond t (x ∷ []) [])
one-if-sent true P x h = record { one = x; only = refl; holds = h }
one-if-sent false P x h = refl

-- ---- by the node

-- a play that is another one at one node
pub plays-by : (t : Bool) (a b : Hold) (ss rr : List PlayStep) (has : Bool) → (t ≡ true → PlaysTo a ss has)
    → (t ≡ false → PlaysTo b rr has)
    → PlaysTo (if t then a else b) (if t then ss else rr) has
plays-by true a b ss rr has f g = f refl
plays-by false a b ss rr has f g = g refl
