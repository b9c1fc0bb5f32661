-- Where the deed of a queue or a set is, by what is on its way from the leader: what needs it there finds it, and who
-- is believed to have it will; and it is in one place.
use Rattle.std.proofs.Common.{Bool, List, None, Option, Some, [], ap, arith, false, filter, if◌then◌else◌, inl, inr, is_some, nat_eq, not, refl, subst, sym, true, ℕ, ◌&&◌, ◌++◌, ◌||◌, ◌∙◌, ◌∷◌, ◌≡◌, ◌≤◌, ◌⊎◌}
use Rattle.std.proofs.lemmas.Bool.{cases_eq, eqb-true, false≢true}
use Rattle.pico_base.specs.declared.numbers.Name.TheVariants.{Proc}
use Rattle.pico_base.specs.declared.numbers.Name.{Name}
use Rattle.pico_base.specs.declared.script.Script.{Script}
use Rattle.rpc_frame.specs.declared.frame.Frame.TheVariants as frames
use Rattle.rpc_frame.specs.declared.frame.Frame.{Frame}
use Rattle.node_model.specs.Bodies.{Body}
use Rattle.node_model.specs.Kinds.{is_object, is_same_name}
use Rattle.node_model.specs.declared.held.Held.{Held}
use Rattle.world_model.specs.Census.{brings}
use Rattle.world_model.specs.World.{World}
use Rattle.entry_laws.specs.Entering.{is_used_name}
use Rattle.world_laws.proofs.Filtered.{DropsBoth, drops-both}
use Rattle.world_laws.proofs.NameFacts.{IsHeldAt, begin-has, held-there, no-checkpoint-of-object, play-goes, play-needs}
use Rattle.world_laws.specs.Names.{IsBringer, NameHolds, NameSight, OneIf, PlaysTo, belief_of, comes_to, forker, held_at, is_stream_of, may_be_at, name_sight, node_in}
use Rattle.world_laws.specs.Places.{Beside, CallPlace, DeedPlace, InCheckpoint, InExitTo, InGiveBack, InGrant, InLeft, InTable}
use Rattle.world_laws.specs.Plays.{AllGo, Comes, Done, Goes, Has, Hold, IsNeeded, Lacks, PlayStep, has_any, is_has, is_there, play, plays, steps_if, steps_of}
use Rattle.world_laws.specs.Sights.{frames_to, is_born_in, stage_of}

-- ---- plays in which the deed doesn't come

abbrev pub has_comes : List PlayStep → Bool
has_comes [] = false
has_comes (Comes ∷ rest) = true
has_comes (s ∷ rest) = has_comes rest

-- something on its way needs the deed there
abbrev pub has_need : List PlayStep → Bool
has_need [] = false
has_need (IsNeeded ∷ rest) = true
has_need (s ∷ rest) = has_need rest

done-is-not-has : Done ≡ Has → ⊥
done-is-not-has h = false≢true (ap is_has h)

lacks-is-not-has : Lacks ≡ Has → ⊥
lacks-is-not-has h = false≢true (ap is_has h)

some-hold : (a c : Hold) → Some a ≡ Some c → a ≡ c
some-hold a c h = cc

-- what is needed was there at the beginning
needed-from-the-first : (hold last : Hold) (ss : List PlayStep) → has_comes ss ≡ false → play hold ss ≡ Some last
    → has_need ss ≡ true → hold ≡ Has
needed-from-the-first hold last [] none h need = absurd (false≢true need)
needed-from-the-first hold last (Comes ∷ ss) none h need = absurd (false≢true (sym none))
needed-from-the-first hold last (Goes ∷ ss) none h need = (play-goes hold last ss h).0
needed-from-the-first hold last (IsNeeded ∷ ss) none h need = (play-needs hold last ss h).0
needed-from-the-first Has last (AllGo ∷ ss) none h need = refl
needed-from-the-first Lacks last (AllGo ∷ ss) none h need =
    absurd (done-is-not-has (needed-from-the-first Done last ss none h need))
needed-from-the-first Done last (AllGo ∷ ss) none h need =
    absurd (done-is-not-has (needed-from-the-first Done last ss none h need))

-- and so was what is there in the end
there-from-the-first : (hold : Hold) (ss : List PlayStep) → has_comes ss ≡ false → play hold ss ≡ Some Has
    → hold ≡ Has
there-from-the-first hold [] none h = some-hold hold Has h
there-from-the-first hold (Comes ∷ ss) none h = absurd (false≢true (sym none))
there-from-the-first hold (Goes ∷ ss) none h = (play-goes hold Has ss h).0
there-from-the-first hold (IsNeeded ∷ ss) none h = (play-needs hold Has ss h).0
there-from-the-first Has (AllGo ∷ ss) none h = refl
there-from-the-first Lacks (AllGo ∷ ss) none h = absurd (done-is-not-has (there-from-the-first Done ss none h))
there-from-the-first Done (AllGo ∷ ss) none h = absurd (done-is-not-has (there-from-the-first Done ss none h))

-- ---- a stream that brings no deed of the name

has-comes-of-both : (ss ts : List PlayStep) → has_comes ss ≡ false → has_comes ts ≡ false
    → has_comes (ss ++ ts) ≡ false
has-comes-of-both [] ts h g = g
has-comes-of-both (Comes ∷ ss) ts h g = absurd (false≢true (sym h))
has-comes-of-both (Goes ∷ ss) ts h g = has-comes-of-both ss ts h g
has-comes-of-both (AllGo ∷ ss) ts h g = has-comes-of-both ss ts h g
has-comes-of-both (IsNeeded ∷ ss) ts h g = has-comes-of-both ss ts h g

need-is-no-coming : (t : Bool) → has_comes (steps_if t IsNeeded) ≡ false
need-is-no-coming true = refl
need-is-no-coming false = refl

going-is-no-coming : (t : Bool) → has_comes (steps_if t Goes) ≡ false
going-is-no-coming true = refl
going-is-no-coming false = refl

none-comes-of : (used : Bool) (call : ℕ → CallPlace) (name : Name) (f : Frame) → brings name f ≡ false
    → has_comes (steps_of used call name f) ≡ false
none-comes-of used call name (frames.Grant deed) h = ap (λ t. has_comes (steps_if t Comes)) h
none-comes-of used call name (frames.Checkpoint pid parent deed vars) h = ap (λ t. has_comes (steps_if t Comes)) h
none-comes-of used call name (frames.ExitTo parcel) h =
    ap (λ t. has_comes (if t then Comes ∷ [] else steps_if (is_same_name name (Proc parcel.parent)) IsNeeded)) h
    ∙ need-is-no-coming (is_same_name name (Proc parcel.parent))
none-comes-of used call name (frames.Recall other) h = going-is-no-coming (is_same_name name other)
none-comes-of used call name frames.RecallAll h = refl
none-comes-of used call name (frames.Forward asked) h = need-is-no-coming _
none-comes-of used call name (frames.Cancel asked) h = need-is-no-coming _
none-comes-of used call name f h = refl

-- no deed comes where no frame brings one
none-comes : (used : Bool) (call : ℕ → CallPlace) (name : Name) (fs : List Frame) → filter (brings name) fs ≡ []
    → has_comes (plays used call name fs) ≡ false
none-comes used call name [] h = refl
none-comes used call name (f ∷ fs) h =
    let d : DropsBoth (brings name) f fs = drops-both (brings name) f fs h
    in has-comes-of-both (steps_of used call name f) (plays used call name fs)
    (none-comes-of used call name f d.first) (none-comes used call name fs d.rest)

-- ---- one name

first-of-both : (a b : Bool) → (a && b) ≡ true → a ≡ true
first-of-both true b e = refl
first-of-both false b e = absurd (false≢true e)

not-to-leader : (h : ℕ) → 2 ≤ h → (t : Bool) → nat_eq h 1 ≡ t → t ≡ true → ⊥
not-to-leader h low t e is = let one = eqb-true h 1 (e ∙ is) in omega (arith, low, one)

-- the deed is at the node, or on its way to it from the leader
abbrev pub IsAtOrComes : DeedPlace → ℕ → Type 0
IsAtOrComes deed h = (deed ≡ InTable h) ⊎ (deed ≡ InGrant h)

-- a queue or a set on its way from the leader to a node is in a Grant
in-grant-to : (deed : DeedPlace) (forks_it : ℕ → ℕ) (h : ℕ) → 2 ≤ h → may_be_at true deed ≡ true
    → is_stream_of forks_it deed h 1 ≡ true → IsAtOrComes deed h
in-grant-to (InGrant node) forks_it h low may there =
    inr (ap InGrant (sym (eqb-true h node (first-of-both (nat_eq h node) _ there))))
in-grant-to (InGiveBack node) forks_it h low may there =
    absurd (not-to-leader h low (nat_eq h 1) refl (first-of-both (nat_eq h 1) _ there))
in-grant-to (InCheckpoint node) forks_it h low may there = absurd (false≢true may)
in-grant-to (InLeft node) forks_it h low may there = absurd (false≢true may)
in-grant-to (InExitTo node to) forks_it h low may there = absurd (false≢true may)
in-grant-to deed forks_it h low may there = absurd (false≢true there)

at-or-comes-in : (deed : DeedPlace) (h : ℕ) → IsAtOrComes deed h → node_in deed ≡ h
at-or-comes-in deed h (inl e) = ap node_in e
at-or-comes-in deed h (inr e) = ap node_in e

none-is-some : (o : Option Body) → is_some o ≡ true → o ≡ None → ⊥
none-is-some o h e = false≢true (sym (ap is_some e) ∙ h)

some-body : (o : Option Body) → is_some o ≡ true → (v : Body) × (o ≡ Some v)
some-body (Some v) e = (v, refl)
some-body None e = absurd (false≢true e)

module _ (script : Script) (w : World) (hand : List Held) (b : Beside) (name : Name)
    (known : NameHolds script b.pids (is_born_in w) name (name_sight script w hand b name))
    (object : is_object name ≡ true) where
  abbrev x : NameSight
  x = name_sight script w hand b name

  fits : may_be_at true x.deed ≡ true
  fits = ap (λ o. may_be_at o x.deed) (sym object) ∙ known.place_fits

  -- a node that holds it has it
  pub held-is-there : (h : ℕ) → is_some (x.held h) ≡ true → x.deed ≡ InTable h
  held-is-there h some =
      let v = some-body (x.held h) some
      in let at : IsHeldAt x.deed x.body h v.0 = held-there x.deed x.body h v.0 (sym (known.tables h) ∙ v.1)
      in at.deed_is

  comes-not : (h : ℕ) → comes_to script w name h ≡ false
  comes-not h =
      ap (λ fs. not (nat_eq (forker script h) 1) && has_any fs)
      (no-checkpoint-of-object (forker script) b.pids name x.body x.deed h (forker script h)
      (frames_to w h (forker script h)) fits (known.streams h (forker script h)))
      ∙ and-false (not (nat_eq (forker script h) 1))
    where
      and-false : (t : Bool) → (t && false) ≡ false
      and-false true = refl
      and-false false = refl

  or-false : (t : Bool) → (t || false) ≡ true → t ≡ true
  or-false true e = refl
  or-false false e = absurd (false≢true e)

  -- a play that begins with the deed is where it is held
  pub begins-held : (h : ℕ) → x.begins h ≡ Has → is_some (held_at w name h) ≡ true
  begins-held h begins =
      let both = begin-has (stage_of w h) (is_some (held_at w name h)) (comes_to script w name h) begins
      in or-false (is_some (held_at w name h))
      (ap (λ t. is_some (held_at w name h) || t) (sym (comes-not h)) ∙ both.1)

  -- where the play has the deed at some point, the deed is there, or on its way there
  at-node : (h : ℕ) → 2 ≤ h → (has_comes (x.steps h) ≡ false → x.begins h ≡ Has) → IsAtOrComes x.deed h
  at-node h low first = by (is_stream_of (forker script) x.deed h 1) refl (known.streams h 1)
    where
      by : (t : Bool) → is_stream_of (forker script) (b.deed name) h 1 ≡ t
          → OneIf t (IsBringer b.pids name (b.body name) (b.deed name)) (filter (brings name) (frames_to w h 1))
          → IsAtOrComes (b.deed name) h
      by true there one = in-grant-to (b.deed name) (forker script) h low fits there
      by false there none =
          inl
          (held-is-there h
          (begins-held h (first (none-comes (is_used_name b.kernel name) b.call name (frames_to w h 1) none))))

  -- what needs it there finds it
  pub needed-at : (h : ℕ) → 2 ≤ h → has_need (x.steps h) ≡ true → node_in x.deed ≡ h
  needed-at h low need =
      let play : PlaysTo (x.begins h) (x.steps h) (is_there h (belief_of x)) = known.plays h low
      in at-or-comes-in x.deed h
      (at-node h low (λ none. needed-from-the-first (x.begins h) play.last (x.steps h) none play.plays need))

  has-is : (hold : Hold) → is_has hold ≡ true → hold ≡ Has
  has-is Has e = refl
  has-is Lacks e = absurd (false≢true e)
  has-is Done e = absurd (false≢true e)

  -- and who is believed to have it will
  pub believed-there : (h : ℕ) → 2 ≤ h → is_there h (belief_of x) ≡ true → IsAtOrComes x.deed h
  believed-there h low there =
      let play : PlaysTo (x.begins h) (x.steps h) (is_there h (belief_of x)) = known.plays h low
      in let has : play.last ≡ Has = has-is play.last (play.agrees ∙ there)
      in at-node h low
      (λ none. there-from-the-first (x.begins h) (x.steps h) none (play.plays ∙ ap Some has))

  -- also the leader
  pub believed-at : (h : ℕ) → 1 ≤ h → is_there h (belief_of x) ≡ true → node_in x.deed ≡ h
  believed-at h low there =
      elim (cases_eq h 1) [
        | inl e ↦
            ap node_in (held-is-there 1 (known.leader ∙ subst (λ y. is_there y (belief_of x) ≡ true) e there)) ∙ sym e
        | inr d ↦ at-or-comes-in x.deed h (believed-there h (omega (arith, low, d)) there)
      ]

  -- so it is in use
  pub deed-is-used : (h : ℕ) → 1 ≤ h → node_in x.deed ≡ h → x.used ≡ true
  deed-is-used h low at = by x.used refl
    where
      by : (t : Bool) → is_used_name b.kernel name ≡ t → is_used_name b.kernel name ≡ true
      by true e = e
      by false e =
          let none : node_in (b.deed name) ≡ 0 = ap node_in (known.made.1 e)
          in absurd (omega (arith, low, at, none))
