-- What is held for names that have come to a node is in the leader's hand: a call that was held, and the deeds in a
-- parcel that was held. All holds of them as before.
use Rattle.std.proofs.Common.{◌≡◌, ◌≢◌, ℕ, Bool, true, false, if◌then◌else◌, List, [], ◌++◌, flat_map, nat_eq, Option, Some, None, refl, ap, sym, subst, ◌∙◌, inl, inr, append-nil}
use Rattle.std.proofs.lemmas.Bool.{ne_eqb, false≢true}
use Rattle.pico_base.specs.declared.call.Call.{Call}
use Rattle.pico_base.specs.declared.call.Home.{Home}
use Rattle.pico_base.specs.declared.call.Home.TheVariants as homes
use Rattle.pico_base.specs.declared.numbers.Name.{Name}
use Rattle.pico_base.specs.declared.numbers.Name.TheVariants.{Proc, Msg, Sem}
use Rattle.pico_base.specs.declared.script.Script.{Script}
use Rattle.rpc_frame.specs.declared.asked.Asked.{Asked}
use Rattle.rpc_frame.specs.declared.frame.Frame.{Frame}
use Rattle.waiting_model.specs.declared.callers.Waiting.{Waiting}
use Rattle.node_model.specs.declared.held.Held.{Held}
use Rattle.node_model.specs.declared.held.Held.TheVariants.{Request}
use Rattle.node_model.specs.Kinds.{is_same_name}
use Rattle.node_model.specs.Bodies.{Body}
use Rattle.node_model.specs.Leases.{Leases}
use Rattle.node_model.specs.Serving.{waiting_as}
use Rattle.world_model.specs.Node.{Stage, Unborn, Living, Leaving, Left, Over}
use Rattle.world_model.specs.Calls.{is_for_others}
use Rattle.world_laws.specs.Places.{DeedPlace, Unmade, InTable, InCheckpoint, InGrant, InGiveBack, InLeft, InKept, InHand, InExitTo, CallPlace, IsHeld, IsInHand, InAnswer, Ends}
use Rattle.world_laws.specs.Names.{NameSight, NameHolds, OneIf, IsBringer, IsItemWith, held_as, is_stream_of, is_kept_for, is_hand_place, node_in, may_be_at, forker}
use Rattle.world_laws.specs.Callers.{CallSight, CallHolds, HasCall, HasNoCall, HasCallOrNone, IsFree, FreeIn, HasEnded, IsJustThere, IsNowhere, IsSoFar, IsToBeMade, IsBetween, asked_of, only_if, is_in_stream, frame_at, is_held_at, is_in_hand, is_on, may_be_in, lease_is_over, is_end_place, is_waiting_at}
use Rattle.world_laws.proofs.Named.{other-name}
use Rattle.route_laws.proofs.exits.Arrivals.{is_one_of, AreApart, one-of-all, none-of-all, just-one-if, just-one-is}

-- ---- where they are now

-- a call that was held for one of the names is in hand
abbrev pub call_released : List Name → CallPlace → CallPlace
call_released names (IsHeld name) = if is_one_of name names then IsInHand else IsHeld name
call_released names place = place

-- so is a deed in a parcel that was held for one of them
abbrev pub deed_released : Script → (ℕ → ℕ) → List Name → DeedPlace → DeedPlace
deed_released script pids names (InKept g) =
    if is_one_of (Proc (pids (forker script g))) names then InHand g else InKept g
deed_released script pids names place = place

-- one name of a list and one that isn't in it are two
pub apart-names : (names : List Name) (a b : Name) → is_one_of a names ≡ true → is_one_of b names ≡ false → a ≢ b
apart-names names a b in_it not_in e =
    false≢true (sym not_in ∙ ap (λ n. is_one_of n names) (sym e) ∙ in_it)

-- ---- a deed

module _ (script : Script) (pids : ℕ → ℕ) (names : List Name) where
  abbrev now : DeedPlace → DeedPlace
  now = deed_released script pids names

  unmade-only : (d : DeedPlace) → now d ≡ Unmade → d ≡ Unmade
  unmade-only (InKept g) e = absurd (by-test (is_one_of (Proc (pids (forker script g))) names) e)
    where
      by-test : (t : Bool) → (if t then InHand g else InKept g) ≡ Unmade → ⊥
      by-test true h = cc
      by-test false h = cc
  unmade-only Unmade e = e
  unmade-only (InTable node) e = e
  unmade-only (InCheckpoint to) e = e
  unmade-only (InGrant to) e = e
  unmade-only (InGiveBack sender) e = e
  unmade-only (InLeft of) e = e
  unmade-only (InHand of) e = e
  unmade-only (InExitTo of to) e = e

  fits-still : (o : Bool) (d : DeedPlace) → may_be_at o d ≡ true → may_be_at o (now d) ≡ true
  fits-still o (InKept g) e = by-test (is_one_of (Proc (pids (forker script g))) names)
    where
      by-test : (t : Bool) → may_be_at o (if t then InHand g else InKept g) ≡ true
      by-test true = e
      by-test false = e
  fits-still o Unmade e = e
  fits-still o (InTable node) e = e
  fits-still o (InCheckpoint to) e = e
  fits-still o (InGrant to) e = e
  fits-still o (InGiveBack sender) e = e
  fits-still o (InLeft of) e = e
  fits-still o (InHand of) e = e
  fits-still o (InExitTo of to) e = e

  held-still : (d : DeedPlace) (body : Body) (h : ℕ) → held_as d body h ≡ held_as (now d) body h
  held-still (InKept g) body h = by-test (is_one_of (Proc (pids (forker script g))) names)
    where
      by-test : (t : Bool) → None ≡ held_as (if t then InHand g else InKept g) body h
      by-test true = refl
      by-test false = refl
  held-still Unmade body h = refl
  held-still (InTable node) body h = refl
  held-still (InCheckpoint to) body h = refl
  held-still (InGrant to) body h = refl
  held-still (InGiveBack sender) body h = refl
  held-still (InLeft of) body h = refl
  held-still (InHand of) body h = refl
  held-still (InExitTo of to) body h = refl

  brought-still : (name : Name) (body : Body) (d : DeedPlace) (to sender : ℕ) (fs : List Frame)
      → OneIf (is_stream_of (forker script) d to sender) (IsBringer pids name body d) fs
      → OneIf (is_stream_of (forker script) (now d) to sender) (IsBringer pids name body (now d)) fs
  brought-still name body (InKept g) to sender fs h = by-test (is_one_of (Proc (pids (forker script g))) names)
    where
      by-test : (t : Bool)
          → OneIf (is_stream_of (forker script) (if t then InHand g else InKept g) to sender)
          (IsBringer pids name body (if t then InHand g else InKept g)) fs
      by-test true = h
      by-test false = h
  brought-still name body Unmade to sender fs h = h
  brought-still name body (InTable node) to sender fs h = h
  brought-still name body (InCheckpoint c) to sender fs h = h
  brought-still name body (InGrant c) to sender fs h = h
  brought-still name body (InGiveBack c) to sender fs h = h
  brought-still name body (InLeft c) to sender fs h = h
  brought-still name body (InHand c) to sender fs h = h
  brought-still name body (InExitTo c x) to sender fs h = h

  abbrev Items : Name → Body → DeedPlace → Held → Type 0
  Items name body d = IsItemWith name body (pids (node_in d))

  nothing-kept : (t : Bool) (xs : List Held) → xs ≡ [] → (if t then [] else xs) ≡ []
  nothing-kept true xs e = refl
  nothing-kept false xs e = e

  -- what is still held with the deed
  kept-still : (name : Name) (body : Body) (d : DeedPlace) (pid : ℕ) (xs : List Held)
      → OneIf (is_kept_for (forker script) pids d pid) (Items name body d) xs
      → OneIf (is_kept_for (forker script) pids (now d) pid) (Items name body (now d))
      (if is_one_of (Proc pid) names then [] else xs)
  kept-still name body (InKept g) pid xs h =
      by-test (is_one_of (Proc (pids (forker script g))) names) refl (is_one_of (Proc pid) names) refl
    where
      apart : {s t : Bool} → is_one_of (Proc (pids (forker script g))) names ≡ s → is_one_of (Proc pid) names ≡ t
          → s ≢ t → nat_eq (pids (forker script g)) pid ≡ false
      apart a b u =
          ne_eqb (pids (forker script g)) pid (λ e. u (sym a ∙ ap (λ q. is_one_of (Proc q) names) e ∙ b))

      none-there : nat_eq (pids (forker script g)) pid ≡ false → xs ≡ []
      none-there e = subst (λ t. OneIf t (Items name body (InKept g)) xs) e h

      by-test : (s : Bool) → is_one_of (Proc (pids (forker script g))) names ≡ s → (t : Bool)
          → is_one_of (Proc pid) names ≡ t
          → OneIf (is_kept_for (forker script) pids (if s then InHand g else InKept g) pid)
          (Items name body (if s then InHand g else InKept g)) (if t then [] else xs)
      by-test true a true b = refl
      by-test true a false b = none-there (apart a b (λ e. false≢true (sym e)))
      by-test false a true b =
          subst (λ t. OneIf t (Items name body (InKept g)) []) (sym (apart a b false≢true)) refl
      by-test false a false b = h
  kept-still name body Unmade pid xs h = nothing-kept (is_one_of (Proc pid) names) xs h
  kept-still name body (InTable node) pid xs h = nothing-kept (is_one_of (Proc pid) names) xs h
  kept-still name body (InCheckpoint c) pid xs h = nothing-kept (is_one_of (Proc pid) names) xs h
  kept-still name body (InGrant c) pid xs h = nothing-kept (is_one_of (Proc pid) names) xs h
  kept-still name body (InGiveBack c) pid xs h = nothing-kept (is_one_of (Proc pid) names) xs h
  kept-still name body (InLeft c) pid xs h = nothing-kept (is_one_of (Proc pid) names) xs h
  kept-still name body (InHand c) pid xs h = nothing-kept (is_one_of (Proc pid) names) xs h
  kept-still name body (InExitTo c x) pid xs h = nothing-kept (is_one_of (Proc pid) names) xs h

  -- what each name had of it
  record HeldWith (name : Name) (body : Body) (d : DeedPlace) (f : Name → List Held) : Type 0 where
    processes : (pid : ℕ) → OneIf (is_kept_for (forker script) pids d pid) (Items name body d) (f (Proc pid))
    queues : (id : ℕ) → f (Msg id) ≡ []
    sets : (id : ℕ) → f (Sem id) ≡ []

  none-held : (name : Name) (body : Body) (d : DeedPlace) (f : Name → List Held) → HeldWith name body d f
      → ((pid : ℕ) → is_kept_for (forker script) pids d pid ≡ false) → (m : Name) → f m ≡ []
  none-held name body d f h away (Proc pid) =
      subst (λ t. OneIf t (Items name body d) (f (Proc pid))) (away pid) (h.processes pid)
  none-held name body d f h away (Msg id) = h.queues id
  none-held name body d f h away (Sem id) = h.sets id

  one-held : (name : Name) (body : Body) (g : ℕ) (f : Name → List Held) → HeldWith name body (InKept g) f → (m : Name)
      → OneIf (is_same_name (Proc (pids (forker script g))) m) (Items name body (InKept g)) (f m)
  one-held name body g f h (Proc pid) = h.processes pid
  one-held name body g f h (Msg id) = h.queues id
  one-held name body g f h (Sem id) = h.sets id

  with-hand : {A : Type 0} (t : Bool) (P : A → Type 0) (xs ys : List A) → xs ≡ [] → OneIf t P ys → OneIf t P (xs ++ ys)
  with-hand t P xs ys none one = subst (λ zs. OneIf t P (zs ++ ys)) (sym none) one

  -- what is in hand with the deed
  hand-now : (name : Name) (body : Body) (d : DeedPlace) (f : Name → List Held) (xs : List Held) → AreApart names
      → HeldWith name body d f → OneIf (is_hand_place d) (Items name body d) xs
      → OneIf (is_hand_place (now d)) (Items name body (now d)) (flat_map f names ++ xs)
  hand-now name body (InKept g) f xs apart h one =
      by-test (is_one_of (Proc (pids (forker script g))) names)
      (subst (λ ys. OneIf (is_one_of (Proc (pids (forker script g))) names) (Items name body (InKept g)) ys)
      (sym (ap (λ ys. flat_map f names ++ ys) one ∙ append-nil (flat_map f names)))
      (one-of-all (Items name body (InKept g)) f (Proc (pids (forker script g))) names apart
      (one-held name body g f h)))
    where
      by-test : (t : Bool) → OneIf t (Items name body (InKept g)) (flat_map f names ++ xs)
          → OneIf (is_hand_place (if t then InHand g else InKept g))
          (Items name body (if t then InHand g else InKept g)) (flat_map f names ++ xs)
      by-test true z = z
      by-test false z = z
  hand-now name body (InHand c) f xs apart h one =
      with-hand true (Items name body (InHand c)) (flat_map f names) xs
      (none-of-all f names (none-held name body (InHand c) f h (λ pid. refl))) one
  hand-now name body Unmade f xs apart h one =
      with-hand false (Items name body Unmade) (flat_map f names) xs
      (none-of-all f names (none-held name body Unmade f h (λ pid. refl))) one
  hand-now name body (InTable node) f xs apart h one =
      with-hand false (Items name body (InTable node)) (flat_map f names) xs
      (none-of-all f names (none-held name body (InTable node) f h (λ pid. refl))) one
  hand-now name body (InCheckpoint c) f xs apart h one =
      with-hand false (Items name body (InCheckpoint c)) (flat_map f names) xs
      (none-of-all f names (none-held name body (InCheckpoint c) f h (λ pid. refl))) one
  hand-now name body (InGrant c) f xs apart h one =
      with-hand false (Items name body (InGrant c)) (flat_map f names) xs
      (none-of-all f names (none-held name body (InGrant c) f h (λ pid. refl))) one
  hand-now name body (InGiveBack c) f xs apart h one =
      with-hand false (Items name body (InGiveBack c)) (flat_map f names) xs
      (none-of-all f names (none-held name body (InGiveBack c) f h (λ pid. refl))) one
  hand-now name body (InLeft c) f xs apart h one =
      with-hand false (Items name body (InLeft c)) (flat_map f names) xs
      (none-of-all f names (none-held name body (InLeft c) f h (λ pid. refl))) one
  hand-now name body (InExitTo c x) f xs apart h one =
      with-hand false (Items name body (InExitTo c x)) (flat_map f names) xs
      (none-of-all f names (none-held name body (InExitTo c x) f h (λ pid. refl))) one

  -- ---- a name

  -- what is held for each name with the deed of this one: what is seen of that, and what is not
  pub record IsSeenHeld (x : NameSight) (f : Name → List Held) : Type 0 where
    pub processes : (pid : ℕ) → f (Proc pid) ≡ x.kept pid
    pub queues : (id : ℕ) → f (Msg id) ≡ []
    pub sets : (id : ℕ) → f (Sem id) ≡ []

  -- the name, as it is seen then
  abbrev pub released_name : NameSight → (Name → List Held) → NameSight
  released_name x f =
      record x {
        deed = deed_released script pids names x.deed;
        kept = λ pid. if is_one_of (Proc pid) names then [] else x.kept pid;
        hand = flat_map f names ++ x.hand;
      }

  -- All holds of a name, whose deed may have been in a parcel that was held for one of the names.
  pub name-released : (born : ℕ → Bool) (name : Name) (x : NameSight) (f : Name → List Held) → AreApart names
      → IsSeenHeld x f → NameHolds script pids born name x → NameHolds script pids born name (released_name x f)
  name-released born name x f apart s h =
      record {
        parts = h.parts;
        callers = h.callers;
        made = (λ e. h.made.0 (unmade-only x.deed e), λ u. ap now (h.made.1 u));
        place_fits = fits-still _ x.deed h.place_fits;
        tables = λ q. h.tables q ∙ held-still x.deed x.body q;
        streams = λ to sender. brought-still name x.body x.deed to sender (x.brought to sender) (h.streams to sender);
        kept = λ pid. kept-still name x.body x.deed pid (x.kept pid) (h.kept pid);
        in_hand = hand-now name x.body x.deed f x.hand apart
            (record {
              processes = λ pid. subst
                  (λ ys. OneIf (is_kept_for (forker script) pids x.deed pid) (Items name x.body x.deed) ys)
                  (sym (s.processes pid)) (h.kept pid);
              queues = s.queues;
              sets = s.sets;
            }) h.in_hand;
        known = h.known;
        believed = h.believed;
        plays = h.plays;
        leader = h.leader;
        told = h.told;
        found = h.found;
        unplaced = h.unplaced;
        ranged = h.ranged;
        leased = h.leased;
        bound = h.bound;
        items = h.items;
      }

-- ---- a call

module _ (names : List Name) where
  pub in-stream-still : (c : CallPlace) (p to sender : ℕ) (asked : Asked)
      → only_if (is_in_stream c p to sender) (frame_at c asked)
      ≡ only_if (is_in_stream (call_released names c) p to sender) (frame_at (call_released names c) asked)
  in-stream-still (IsHeld m) p to sender asked = by-test (is_one_of m names)
    where
      by-test : (t : Bool)
          → [] ≡ only_if (is_in_stream (if t then IsInHand else IsHeld m) p to sender)
          (frame_at (if t then IsInHand else IsHeld m) asked)
      by-test true = refl
      by-test false = refl
  in-stream-still c p to sender asked = refl

  held-for-call : (m name : Name) (item : Held) (xs : List Held) → xs ≡ only_if (is_same_name m name) item
      → (s : Bool) → is_one_of m names ≡ s → (t : Bool) → is_one_of name names ≡ t
      → (if t then [] else xs) ≡ only_if (is_held_at (if s then IsInHand else IsHeld m) name) item
  held-for-call m name item xs e true a true b = refl
  held-for-call m name item xs e true a false b =
      e ∙ ap (λ t. only_if t item) (other-name m name (apart-names names m name a b))
  held-for-call m name item xs e false a true b =
      ap (λ t. only_if t item)
      (sym (other-name m name (λ g. apart-names names name m b a (sym g))))
  held-for-call m name item xs e false a false b = e

  none-of : (t : Bool) (xs : List Held) → xs ≡ [] → (if t then [] else xs) ≡ []
  none-of true xs e = refl
  none-of false xs e = e

  pub call-held-still : (c : CallPlace) (name : Name) (item : Held) (xs : List Held)
      → xs ≡ only_if (is_held_at c name) item
      → (if is_one_of name names then [] else xs) ≡ only_if (is_held_at (call_released names c) name) item
  call-held-still (IsHeld m) name item xs e =
      held-for-call m name item xs e (is_one_of m names) refl (is_one_of name names) refl
  call-held-still c name item xs e = none-of (is_one_of name names) xs e

  in-hand-by : (m : Name) (item : Held) (t : Bool)
      → only_if t item ≡ only_if (is_in_hand (if t then IsInHand else IsHeld m)) item
  in-hand-by m item true = refl
  in-hand-by m item false = refl

  call-hand-now : (c : CallPlace) (f : Name → List Held) (item : Held) (xs : List Held) → AreApart names
      → ((name : Name) → f name ≡ only_if (is_held_at c name) item) → xs ≡ only_if (is_in_hand c) item
      → flat_map f names ++ xs ≡ only_if (is_in_hand (call_released names c)) item
  call-hand-now (IsHeld m) f item xs apart held e =
      ap (λ ys. flat_map f names ++ ys) e ∙ append-nil (flat_map f names)
      ∙ just-one-is (is_one_of m names) item (flat_map f names)
      (one-of-all (λ y. y ≡ item) f m names apart
      (λ name. just-one-if (is_same_name m name) item (f name) (held name)))
      ∙ in-hand-by m item (is_one_of m names)
  call-hand-now c f item xs apart held e = ap (λ ys. ys ++ xs) (none-of-all f names held) ∙ e

  waiting-still : (c : CallPlace) (name : Name) (w : Waiting)
      → only_if (is_waiting_at c name) w ≡ only_if (is_waiting_at (call_released names c) name) w
  waiting-still (IsHeld m) name w = by-test (is_one_of m names)
    where
      by-test : (t : Bool) → [] ≡ only_if (is_waiting_at (if t then IsInHand else IsHeld m) name) w
      by-test true = refl
      by-test false = refl
  waiting-still c name w = refl

  on-is-for-others : (m : Name) (home : Home) → is_on m home ≡ true → is_for_others home ≡ true
  on-is-for-others m (homes.At other) h = refl
  on-is-for-others m (homes.Removal other) h = refl
  on-is-for-others m homes.Own h = h
  on-is-for-others m homes.Keys h = refl
  on-is-for-others m homes.Parent h = h

  home-still : (c : CallPlace) (home : Home) (call : Call) → may_be_in c home call ≡ true
      → may_be_in (call_released names c) home call ≡ true
  home-still (IsHeld m) home call h = by-test (is_one_of m names)
    where
      by-test : (t : Bool) → may_be_in (if t then IsInHand else IsHeld m) home call ≡ true
      by-test true = on-is-for-others m home h
      by-test false = h
  home-still c home call h = h

  used-up-still : (c : CallPlace) (leases : Leases) → lease_is_over c leases
      → lease_is_over (call_released names c) leases
  used-up-still (IsHeld m) leases h = by-test (is_one_of m names)
    where
      by-test : (t : Bool) → lease_is_over (if t then IsInHand else IsHeld m) leases
      by-test true = tt
      by-test false = tt
  used-up-still c leases h = h

  between-still : (c : CallPlace) (p : ℕ) (born : ℕ → Bool) → IsBetween p born c
      → IsBetween p born (call_released names c)
  between-still (IsHeld m) p born h = by-test (is_one_of m names)
    where
      by-test : (t : Bool) → IsBetween p born (if t then IsInHand else IsHeld m)
      by-test true = tt
      by-test false = tt
  between-still c p born h = h

  -- whether it ends its process
  pub end-place-still : (c : CallPlace) → is_end_place (call_released names c) ≡ is_end_place c
  end-place-still (IsHeld m) = by-test (is_one_of m names)
    where
      by-test : (t : Bool) → is_end_place (if t then IsInHand else IsHeld m) ≡ false
      by-test true = refl
      by-test false = refl
  end-place-still c = refl

  -- the call, as it is seen then
  abbrev pub released_call : CallSight → CallSight
  released_call x =
      record x {
        call = call_released names x.call;
        held = λ name. if is_one_of name names then [] else x.held name;
        hand = flat_map x.held names ++ x.hand;
      }

  module _ (script : Script) (p : ℕ) (born : ℕ → Bool) (x : CallSight) (apart : AreApart names) where
    abbrev y : CallSight
    y = released_call x

    to-be-made : (call : Call) → IsToBeMade script p x call → IsToBeMade script p y call
    to-be-made call h = record { there = h.there; due = h.due; alive = h.alive; lives = h.lives; may = h.may }

    has-ended : HasEnded x → HasEnded y
    has-ended h = record { last = h.last; there = h.there; over = h.over; dead = h.dead }

    so-far : (call : Call) (c : CallPlace) → IsSoFar script p x call c → IsSoFar script p y call (call_released names c)
    so-far call (InAnswer q reply) h = record { there = h.there; due = h.due; alive = h.alive; lives = h.lives }
    so-far call Ends (inl h) = inl (to-be-made call h)
    so-far call Ends (inr h) = inr (has-ended h)
    so-far call (IsHeld m) h = by-test (is_one_of m names)
      where
        by-test : (t : Bool) → IsSoFar script p y call (if t then IsInHand else IsHeld m)
        by-test true = to-be-made call h
        by-test false = to-be-made call h
    so-far call c h = to-be-made call h

    free : (stage : Stage) → FreeIn script p x stage → FreeIn script p y stage
    free Unborn h = h
    free Living h =
        let f : IsFree script p x = h
        in record { there = f.there; alive = f.alive; lives = f.lives; tickets = f.tickets; try_left = f.try_left }
    free Leaving h = h
    free Left h = h
    free Over h = has-ended h

    just-there : (asked : Asked) → IsJustThere p x asked → IsJustThere p y asked
    just-there asked h =
        record {
          in_streams = λ to sender. h.in_streams to sender ∙ in-stream-still x.call p to sender asked;
          held_for_names = λ name. call-held-still x.call name (Request asked) (x.held name) (h.held_for_names name);
          in_hand = call-hand-now x.call x.held (Request asked) x.hand apart h.held_for_names h.in_hand;
          waiting = λ name. h.waiting name ∙ waiting-still x.call name (waiting_as asked);
        }

    call-or-none : (o : Option Call) → HasCallOrNone script p born x o → HasCallOrNone script p born y o
    call-or-none None h =
        let none : HasNoCall script p x = h
        in let nowhere : IsNowhere x = none.nowhere
        in record {
          nowhere = record {
            in_streams = nowhere.in_streams;
            held_for_names = λ name. none-of (is_one_of name names) (x.held name) (nowhere.held_for_names name);
            in_hand = ap (λ ys. ys ++ x.hand) (none-of-all x.held names nowhere.held_for_names) ∙ nowhere.in_hand;
            waiting = nowhere.waiting;
          };
          idle = ap (call_released names) none.idle;
          free = free x.stage none.free;
        }
    call-or-none (Some call) h =
        let has : HasCall script p born x call = h
        in record {
          just_there = just-there (asked_of x call) has.just_there;
          home = home-still x.call _ call has.home;
          used_up = used-up-still x.call x.leases has.used_up;
          between = between-still x.call p born has.between;
          so_far = so-far call x.call has.so_far;
          at_work = has.at_work;
          started = has.started;
          tickets = has.tickets;
          try_left = has.try_left;
        }

    -- All holds of a call, which may have been held for one of the names.
    pub call-comes : CallHolds script p born x → CallHolds script p born y
    call-comes h =
        record { call = call-or-none x.caller.under_way h.call; ends = end-place-still x.call ∙ h.ends }
