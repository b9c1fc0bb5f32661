-- A parcel goes on to a node: the plays there of the names that it has, and all that holds of such a name.
use Rattle.std.proofs.Common.{◌≡◌, ◌≢◌, ℕ, ◌≤◌, Bool, true, false, ◌&&◌, ◌||◌, cond, if◌then◌else◌, List, [], ◌∷◌, ◌++◌, flat_map, nat_eq, Some, None, is_some, refl, ap, sym, subst, ◌∙◌, inl, inr, append-nil}
use Rattle.std.specs.List.{list_any}
use Rattle.std.proofs.lemmas.Bool.{cases_eq, eq-eqb, ne_eqb, false≢true}
use Rattle.pico_base.specs.declared.numbers.Name.{Name}
use Rattle.pico_base.specs.declared.script.Script.{Script}
use Rattle.rpc_frame.specs.declared.deed.Parcel.{Parcel}
use Rattle.rpc_frame.specs.declared.frame.Frame.{Frame}
use Rattle.rpc_frame.specs.declared.frame.Frame.TheVariants as frames
use Rattle.node_model.specs.Kinds.{is_object}
use Rattle.node_model.specs.Directory.{At}
use Rattle.world_model.specs.Node.{Stage, Unborn, Living, Leaving, Left, Over}
use Rattle.world_laws.specs.Places.{CallPlace, IsHeld, IsInHand, Unmade, InHand, InExitTo}
use Rattle.world_laws.specs.Plays.{Hold, Has, Lacks, Done, PlayStep, Comes, Goes, AllGo, IsNeeded, play, play_on, plays, steps_of, steps_if, begin, is_has, is_call_on, is_lasting, needs_by}
use Rattle.world_laws.specs.Names.{NameSight, NameHolds, PlaysTo, HasDeed, IsExitOf, range_steps_of, range_steps_if, IsSentThere, is_sent_by_range, held_as, may_be_at}
use Rattle.world_laws.specs.Ways.{is_recall_all}
use Rattle.world_laws.proofs.NameFacts.{has_left, one-if-sent}
use Rattle.world_laws.proofs.Played.{play-none, play-append}
use Rattle.route_laws.proofs.exits.Arrivals.{is_one_of}
use Rattle.route_laws.proofs.exits.Released.{call_released}

-- ---- where a play ends

-- nothing will be held any more
abbrev pub is_done : Hold → Bool
is_done Done = true
is_done hold = false

-- all are asked for
abbrev pub is_all_go : PlayStep → Bool
is_all_go AllGo = true
is_all_go s = false

none-is-not : {A : Type 0} (a : A) → None ≡ Some a → ⊥
none-is-not a h = false≢true (ap is_some h)

some-same : {A : Type 0} {a c : A} → Some a ≡ Some c → a ≡ c
some-same e = cc

or-false : (t : Bool) → t ≡ (t || false)
or-false true = refl
or-false false = refl

-- a play ends with nothing held any more where it began so, or where all were asked for
pub done-by : (ss : List PlayStep) (hold last : Hold) → play hold ss ≡ Some last
    → is_done last ≡ (is_done hold || list_any is_all_go ss)
done-by [] hold last h = ap is_done (sym (some-same h)) ∙ or-false (is_done hold)
done-by (AllGo ∷ ss) Has last h = done-by ss Done last h
done-by (AllGo ∷ ss) Lacks last h = done-by ss Done last h
done-by (AllGo ∷ ss) Done last h = done-by ss Done last h
done-by (Comes ∷ ss) Lacks last h = done-by ss Has last h
done-by (Comes ∷ ss) Has last h = absurd (none-is-not last (sym (play-none ss) ∙ h))
done-by (Comes ∷ ss) Done last h = absurd (none-is-not last (sym (play-none ss) ∙ h))
done-by (Goes ∷ ss) Has last h = done-by ss Lacks last h
done-by (Goes ∷ ss) Lacks last h = absurd (none-is-not last (sym (play-none ss) ∙ h))
done-by (Goes ∷ ss) Done last h = absurd (none-is-not last (sym (play-none ss) ∙ h))
done-by (IsNeeded ∷ ss) Has last h = done-by ss Has last h
done-by (IsNeeded ∷ ss) Lacks last h = absurd (none-is-not last (sym (play-none ss) ∙ h))
done-by (IsNeeded ∷ ss) Done last h = absurd (none-is-not last (sym (play-none ss) ∙ h))

any-both : (test : PlayStep → Bool) (xs ys : List PlayStep)
    → list_any test (xs ++ ys) ≡ (list_any test xs || list_any test ys)
any-both test [] ys = refl
any-both test (x ∷ xs) ys =
    ap (λ t. test x || t) (any-both test xs ys) ∙ or-both (test x) (list_any test xs) (list_any test ys)
  where
    or-both : (p q r : Bool) → (p || (q || r)) ≡ ((p || q) || r)
    or-both true q r = refl
    or-both false q r = refl

goes-if : (t : Bool) (s : PlayStep) → is_all_go s ≡ false → list_any is_all_go (steps_if t s) ≡ false
goes-if true s e = ap (λ u. u || false) e
goes-if false s e = refl

exit-goes : (a c : Bool) → list_any is_all_go (if a then Comes ∷ [] else steps_if c IsNeeded) ≡ false
exit-goes true c = refl
exit-goes false c = goes-if c IsNeeded refl

-- all are asked for by a RecallAll alone, whatever the name is
go-is-recall : (used : Bool) (call : ℕ → CallPlace) (name : Name) (f : Frame)
    → list_any is_all_go (steps_of used call name f) ≡ is_recall_all f
go-is-recall used call name (frames.Grant deed) = goes-if _ Comes refl
go-is-recall used call name (frames.Checkpoint pid parent deed vars) = goes-if _ Comes refl
go-is-recall used call name (frames.ExitTo parcel) = exit-goes _ _
go-is-recall used call name (frames.Recall other) = goes-if _ Goes refl
go-is-recall used call name frames.RecallAll = refl
go-is-recall used call name (frames.Forward asked) = goes-if _ IsNeeded refl
go-is-recall used call name (frames.Cancel asked) = goes-if _ IsNeeded refl
go-is-recall used call name f = refl

all-go : (used : Bool) (call : ℕ → CallPlace) (name : Name) (fs : List Frame)
    → list_any is_all_go (plays used call name fs) ≡ list_any is_recall_all fs
all-go used call name [] = refl
all-go used call name (f ∷ fs) =
    any-both is_all_go (steps_of used call name f) (plays used call name fs)
    ∙ (λ i. go-is-recall used call name f i || all-go used call name fs i)

done-begins : (stage : Stage) (holds comes : Bool) → is_done (begin stage holds comes) ≡ has_left stage
done-begins Left holds comes = refl
done-begins Unborn holds comes = by-test (holds || comes)
  where
    by-test : (t : Bool) → is_done (if t then Has else Lacks) ≡ false
    by-test true = refl
    by-test false = refl
done-begins Living holds comes = by-test (holds || comes)
  where
    by-test : (t : Bool) → is_done (if t then Has else Lacks) ≡ false
    by-test true = refl
    by-test false = refl
done-begins Leaving holds comes = by-test (holds || comes)
  where
    by-test : (t : Bool) → is_done (if t then Has else Lacks) ≡ false
    by-test true = refl
    by-test false = refl
done-begins Over holds comes = by-test (holds || comes)
  where
    by-test : (t : Bool) → is_done (if t then Has else Lacks) ≡ false
    by-test true = refl
    by-test false = refl

-- So two names' plays at a node both end so, or neither.
pub done-together : (used also : Bool) (call : ℕ → CallPlace) (a b : Name) (stage : Stage) (ha ca hb cb : Bool)
    (fs : List Frame) (last end : Hold) → play (begin stage ha ca) (plays used call a fs) ≡ Some last
    → play (begin stage hb cb) (plays also call b fs) ≡ Some end → is_done last ≡ is_done end
done-together used also call a b stage ha ca hb cb fs last end p q =
    done-by (plays used call a fs) (begin stage ha ca) last p
    ∙ (λ i. (done-begins stage ha ca ∙ sym (done-begins stage hb cb)) i
    || (all-go used call a fs ∙ sym (all-go also call b fs)) i)
    ∙ sym (done-by (plays also call b fs) (begin stage hb cb) end q)

-- what has nothing, and may still have something
pub lacks-is : (hold : Hold) → is_has hold ≡ false → is_done hold ≡ false → hold ≡ Lacks
lacks-is Has h e = absurd (false≢true (sym h))
lacks-is Lacks h e = refl
lacks-is Done h e = absurd (false≢true (sym e))

-- ---- calls that come into the hand

needs-still : (names : List Name) (lasting : Bool) (c : CallPlace)
    → needs_by lasting (call_released names c) ≡ needs_by lasting c
needs-still names lasting (IsHeld m) = by-test (is_one_of m names)
  where
    by-test : (t : Bool) → needs_by lasting (if t then IsInHand else IsHeld m) ≡ false
    by-test true = refl
    by-test false = refl
needs-still names lasting c = refl

by-range-still : (names : List Name) (c : CallPlace)
    → is_sent_by_range (call_released names c) ≡ is_sent_by_range c
by-range-still names (IsHeld m) = by-test (is_one_of m names)
  where
    by-test : (t : Bool) → is_sent_by_range (if t then IsInHand else IsHeld m) ≡ false
    by-test true = refl
    by-test false = refl
by-range-still names c = refl

-- they aren't in frames: plays stay
pub plays-released : (names : List Name) (used : Bool) (call : ℕ → CallPlace) (name : Name) (fs : List Frame)
    → plays used (λ p. call_released names (call p)) name fs ≡ plays used call name fs
plays-released names used call name fs = λ i. flat_map (λ f. step f i) fs
  where
    step : (f : Frame) → steps_of used (λ p. call_released names (call p)) name f ≡ steps_of used call name f
    step (frames.Forward asked) =
        ap (λ t. steps_if (is_call_on name asked && t) IsNeeded)
        (needs-still names (used && (is_object name && is_lasting asked)) (call asked.caller))
    step f = refl

-- and so does what was sent by range
pub ranges-released : (names : List Name) (used : Bool) (call : ℕ → CallPlace) (name : Name) (fs : List Frame)
    → flat_map (range_steps_of used (λ p. call_released names (call p)) name) fs
    ≡ flat_map (range_steps_of used call name) fs
ranges-released names used call name fs = λ i. flat_map (λ f. step f i) fs
  where
    step : (f : Frame)
        → range_steps_of used (λ p. call_released names (call p)) name f ≡ range_steps_of used call name f
    step (frames.Forward asked) =
        ap (λ t. range_steps_if (is_call_on name asked && t) IsSentThere)
        (by-range-still names (call asked.caller))
    step f = refl

-- ---- a name of the parcel

-- it was in hand, no node has it, and the play at the node lacks it
pub record GoesOnward (pids : ℕ → ℕ) (name : Name) (x : NameSight) (c node : ℕ) (parcel : Parcel) : Type 0 where
  pub deed : x.deed ≡ InHand c
  pub has : HasDeed name x.body (pids c) parcel
  pub used : x.used ≡ true
  pub away : node ≢ 1
  pub others : (h : ℕ) → 2 ≤ h → PlaysTo (x.begins h) (x.steps h) false
  pub lacks : play (x.begins node) (x.steps node) ≡ Some Lacks

-- it is on its way there now
abbrev pub gone_onward : NameSight → ℕ → ℕ → Parcel → NameSight
gone_onward x c node parcel =
    record x {
      place = Some (At node);
      deed = InExitTo c node;
      brought = λ to sender. cond (nat_eq to node && nat_eq sender 1) (frames.ExitTo parcel ∷ []) [];
      kept = λ pid. [];
      hand = [];
      steps = λ h. x.steps h ++ steps_if (nat_eq h node) Comes;
    }

-- All holds of a name whose deed goes on to a node in a parcel.
pub name-gone-onward : (script : Script) (pids : ℕ → ℕ) (born : ℕ → Bool) (name : Name) (x : NameSight) (c node : ℕ)
    (parcel : Parcel) → GoesOnward pids name x c node parcel → NameHolds script pids born name x
    → NameHolds script pids born name (gone_onward x c node parcel)
name-gone-onward script pids born name x c node parcel g h =
    record {
      parts = h.parts;
      callers = h.callers;
      made = (λ e. absurd (not-unmade e), λ u. absurd (false≢true (sym u ∙ g.used)));
      place_fits = ap (may_be_at (is_object name)) (sym g.deed) ∙ h.place_fits;
      tables = λ q. h.tables q ∙ ap (λ d. held_as d x.body q) g.deed;
      streams = λ to sender. one-if-sent (nat_eq to node && nat_eq sender 1) (IsExitOf name x.body (pids c))
          (frames.ExitTo parcel) (record { parcel = parcel; is = refl; has = g.has });
      kept = λ pid. refl;
      in_hand = refl;
      known = λ e. g.used;
      believed = λ used. refl;
      plays = plays-now;
      leader = ap is_some (h.tables 1 ∙ ap (λ d. held_as d x.body 1) g.deed) ∙ sym (ne_eqb node 1 g.away);
      told = h.told;
      found = λ q low. refl;
      unplaced = λ used e. absurd (false≢true (sym (ap is_some e)));
      ranged = h.ranged;
      leased = h.leased;
      bound = λ to e. absurd (false≢true (ap is_some e));
      items = tt;
    }
  where
    not-unmade : InExitTo c node ≡ Unmade → ⊥
    not-unmade e = cc

    plays-now : (q : ℕ) → 2 ≤ q
        → PlaysTo (x.begins q) (x.steps q ++ steps_if (nat_eq q node) Comes) (nat_eq node q)
    plays-now q low =
        elim (cases_eq q node) [
          | inl e ↦
              subst (λ t. PlaysTo (x.begins q) (x.steps q ++ steps_if t Comes) (nat_eq node q))
              (sym (eq-eqb q node e))
              (subst (λ t. PlaysTo (x.begins q) (x.steps q ++ Comes ∷ []) t) (sym (eq-eqb node q (sym e)))
              (subst (λ z. PlaysTo (x.begins z) (x.steps z ++ Comes ∷ []) true) (sym e)
              (record {
                last = Has;
                plays = play-append (x.steps node) (Comes ∷ []) (Some (x.begins node))
                    ∙ ap (play_on (Comes ∷ [])) g.lacks;
                agrees = refl;
              })))
          | inr d ↦
              subst (λ t. PlaysTo (x.begins q) (x.steps q ++ steps_if t Comes) (nat_eq node q))
              (sym (ne_eqb q node d))
              (subst (λ t. PlaysTo (x.begins q) (x.steps q ++ []) t) (sym (ne_eqb node q (λ e. d (sym e))))
              (subst (λ ss. PlaysTo (x.begins q) ss false) (sym (append-nil (x.steps q))) (g.others q low)))
        ]
