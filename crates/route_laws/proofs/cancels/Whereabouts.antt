-- Where a call is that waits for a queue or a set and has left its caller: on its way to a node, held for the name, or
-- among those who wait there. By the leader's place of the name its withdrawal finds it.
use Rattle.std.proofs.Common.{Bool, List, None, Option, Some, [], ap, arith, cond, false, filter, nat_eq, not, refl, subst, suc, sym, true, zero, ℕ, ◌&&◌, ◌++◌, ◌∙◌, ◌∷◌, ◌≡◌, ◌≢◌, ◌≤◌}
use Rattle.std.proofs.lemmas.Bool.{eq-eqb, false≢true}
use Rattle.pico_base.specs.Home.{home_of}
use Rattle.pico_base.specs.declared.call.Call.TheVariants as calls
use Rattle.pico_base.specs.declared.call.Call.{Call}
use Rattle.pico_base.specs.declared.numbers.Name.TheVariants.{Msg, Proc, Sem}
use Rattle.pico_base.specs.declared.numbers.Name.{Name}
use Rattle.pico_base.specs.declared.script.Script.{Script}
use Rattle.rpc_frame.specs.declared.asked.Asked.{Asked}
use Rattle.rpc_frame.specs.declared.frame.Frame.TheVariants as frames
use Rattle.rpc_frame.specs.declared.frame.Frame.{Frame}
use Rattle.kernel_model.specs.Valid.{IsValid}
use Rattle.waiting_model.specs.Calls.{may_park, waits_at}
use Rattle.node_model.specs.Bodies.{AQueue, ASet, Body, Removed, bare, waiters_of}
use Rattle.node_model.specs.Carrying.{is_removal}
use Rattle.node_model.specs.Directory.{At, Coming, Place, held_for, items_of, maker, place_of}
use Rattle.node_model.specs.Kinds.{is_object}
use Rattle.node_model.specs.Serving.{waiting_as}
use Rattle.node_model.specs.declared.held.Held.TheVariants.{Request}
use Rattle.node_model.specs.declared.held.Held.{Held}
use Rattle.world_model.specs.World.{World, node_count}
use Rattle.entry_laws.proofs.Fresh.{nothing_at, unused-body}
use Rattle.entry_laws.proofs.History.{history-reachable}
use Rattle.entry_laws.specs.Entering.{is_used_name}
use Rattle.kernel_laws.proofs.ValidLaws.{reachable_kernels_are_valid_lemma}
use Rattle.rule_laws.proofs.Nowhere.{sent-there}
use Rattle.world_laws.proofs.Cancels.{may_be_withdrawn}
use Rattle.world_laws.proofs.Following.{WaitsAt, waits-at}
use Rattle.world_laws.proofs.Named.{same-name, same-name-is}
use Rattle.world_laws.specs.Callers.{CallHolds, HasCall, HasCallOrNone, IsBetween, IsJustThere, asked_of, call_sight, frame_at, is_about, is_held_at, is_in_stream, is_item_about, is_on, is_waiter_of, is_waiting_at, may_be_in, only_if}
use Rattle.world_laws.specs.Cancels.{Owing}
use Rattle.world_laws.specs.Families.{NodeHolds}
use Rattle.world_laws.specs.Invariant.{HoldsOwing}
use Rattle.world_laws.specs.Names.{NameHolds, NameSight, is_sent_by_range, name_sight, node_in}
use Rattle.world_laws.specs.Places.{Beside, CallPlace, IsHeld, SentByPlace, SentByRange, Waits}
use Rattle.world_laws.specs.Plays.{IsNeeded, PlayStep, is_call_on, is_home_on, is_lasting, needs_by, needs_deed, plays, steps_if, steps_of}
use Rattle.world_laws.specs.Sights.{directory_of, frames_to, is_born_in, node_of}
use Rattle.route_laws.proofs.cancels.Deeds.{has_need, needed-at}

-- it has left its caller and the leader's hand, and has no reply
abbrev pub is_out : CallPlace → Bool
is_out (SentByPlace h) = true
is_out (SentByRange h) = true
is_out (IsHeld name) = true
is_out (Waits name) = true
is_out place = false

-- ---- a call on its way is among the steps

not-empty : (x : Frame) (xs : List Frame) → [] ≡ x ∷ xs → ⊥
not-empty x xs h = cc

first-same : (x y : Frame) (xs ys : List Frame) → x ∷ xs ≡ y ∷ ys → x ≡ y
first-same x y xs ys h = cc

need-in-front : (ss ts : List PlayStep) → has_need ss ≡ true → has_need (ss ++ ts) ≡ true
need-in-front [] ts h = absurd (false≢true h)
need-in-front (IsNeeded ∷ ss) ts h = refl
need-in-front (s ∷ ss) ts h = need-in-front ss ts h

need-behind : (ss ts : List PlayStep) → has_need ts ≡ true → has_need (ss ++ ts) ≡ true
need-behind [] ts h = h
need-behind (IsNeeded ∷ ss) ts h = refl
need-behind (s ∷ ss) ts h = need-behind ss ts h

module _ (used : Bool) (call : ℕ → CallPlace) (name : Name) (p to : ℕ) (asked : Asked)
    (needs : needs_deed used call name asked ≡ true) where
  head-needs : (f : Frame) (fs rest : List Frame) (t : Bool)
      → cond t (f ∷ filter (is_about p to 1) fs) (filter (is_about p to 1) fs) ≡ frames.Forward asked ∷ rest
      → (filter (is_about p to 1) fs ≡ frames.Forward asked ∷ rest → has_need (plays used call name fs) ≡ true)
      → has_need (steps_of used call name f ++ plays used call name fs) ≡ true
  head-needs f fs rest true h later =
      need-in-front (steps_of used call name f) (plays used call name fs)
      (ap (λ g. has_need (steps_of used call name g))
      (first-same f (frames.Forward asked) (filter (is_about p to 1) fs) rest h)
      ∙ ap (λ t. has_need (steps_if t IsNeeded)) needs)
  head-needs f fs rest false h later =
      need-behind (steps_of used call name f) (plays used call name fs) (later h)

  -- a Forward of a call that needs the deed says so
  pub need-there : (fs rest : List Frame) → filter (is_about p to 1) fs ≡ frames.Forward asked ∷ rest
      → has_need (plays used call name fs) ≡ true
  need-there [] rest h = absurd (not-empty (frames.Forward asked) rest h)
  need-there (f ∷ fs) rest h = head-needs f fs rest (is_about p to 1 f) h (need-there fs rest)

-- ---- one call

none-there : {T : Type 0} (x : T) (xs : List T) → [] ≡ x ∷ xs → ⊥
none-there x xs h = cc

first-of-both : (a b : Bool) → (a && b) ≡ true → a ≡ true
first-of-both true b e = refl
first-of-both false b e = absurd (false≢true e)

object-is-removed : (m : Name) → is_object m ≡ true → nothing_at m ≡ Removed
object-is-removed (Msg id) h = refl
object-is-removed (Sem id) h = refl
object-is-removed (Proc pid) h = absurd (false≢true h)

abbrev is_removed : Body → Bool
is_removed Removed = true
is_removed body = false

-- nobody waits at what was removed
nobody-waits : (body : Body) → bare body ≡ Removed → waiters_of body ≡ []
nobody-waits (AQueue queue) h = absurd (false≢true (ap is_removed h))
nobody-waits (ASet set) h = absurd (false≢true (ap is_removed h))
nobody-waits body h = refl

some-node : (a c : ℕ) → Some a ≡ Some c → a ≡ c
some-node a c h = cc

parks-is-no-removal : (call : Call) → may_park call ≡ true → is_removal call ≡ false
parks-is-no-removal (calls.MsgSnd id class text nowait) h = refl
parks-is-no-removal (calls.MsgRmid id) h = absurd (false≢true h)
parks-is-no-removal (calls.SemRmid id) h = absurd (false≢true h)
parks-is-no-removal call h = refl

module _ (script : Script) (w : World) (hand : List Held) (owes : Owing) (b : Beside)
    (holds : HoldsOwing script w hand owes b) (p : ℕ) (low : 1 ≤ p) (high : p ≤ node_count script) (call : Call)
    (is : (node_of w p).caller.under_way ≡ Some call)
    (may : may_be_withdrawn (node_of w p).pid call ≡ true) where
  abbrev name : Name
  name = waits_at (node_of w p).pid call

  abbrev x : NameSight
  x = name_sight script w hand b name

  abbrev asked : Asked
  asked = asked_of (call_sight w hand b p) call

  has : HasCall script p (is_born_in w) (call_sight w hand b p) call
  has =
      let c : CallHolds script p (is_born_in w) (call_sight w hand b p) = holds.calls p low high
      in subst (λ (o : Option Call). HasCallOrNone script p (is_born_in w) (call_sight w hand b p) o) is c.call

  there : IsJustThere p (call_sight w hand b p) asked
  there = has.just_there

  number-is : asked.caller ≡ p
  number-is =
      let n : NodeHolds script b.pids (is_born_in w) p (node_of w p) = holds.nodes p low high
      in n.number

  at : WaitsAt (node_of w p).pid call
  at = waits-at (node_of w p).pid call may

  known : NameHolds script b.pids (is_born_in w) name x
  known = holds.names name

  on-it : is_call_on name asked ≡ true
  on-it = ap (is_home_on name) at.home ∙ same-name name name refl

  lasting : is_lasting asked ≡ true
  lasting = ap not (parks-is-no-removal call at.parks)

  both : (t u : Bool) → t ≡ true → u ≡ true → (t && u) ≡ true
  both t u e f = rw (e, f) refl

  -- a node that a frame is on its way to is one
  some-node-to : (h : ℕ) → filter (is_about p h 1) (frames_to w h 1) ≡ frames.Forward asked ∷ [] → 1 ≤ h
  some-node-to zero e = absurd (not-empty (frames.Forward asked) [] e)
  some-node-to (suc h) e = omega arith

  place-in-stream : (place : CallPlace) (h : ℕ) → b.call p ≡ place → is_in_stream place p h 1 ≡ true
      → frame_at place asked ≡ frames.Forward asked
      → filter (is_about p h 1) (frames_to w h 1) ≡ frames.Forward asked ∷ []
  place-in-stream place h e here frame =
      there.in_streams h 1
      ∙ ap (λ z. only_if (is_in_stream z p h 1) (frame_at z asked)) e
      ∙ ap (λ t. only_if t (frame_at place asked)) here
      ∙ ap (λ f. f ∷ []) frame

  by-place-in-stream : (h : ℕ) → b.call p ≡ SentByPlace h
      → filter (is_about p h 1) (frames_to w h 1) ≡ frames.Forward asked ∷ []
  by-place-in-stream h e =
      place-in-stream (SentByPlace h) h e (both (nat_eq h h) true (eq-eqb h h refl) refl) refl

  by-range-in-stream : (h : ℕ) → b.call p ≡ SentByRange h
      → filter (is_about p h 1) (frames_to w h 1) ≡ frames.Forward asked ∷ []
  by-range-in-stream h e =
      place-in-stream (SentByRange h) h e (both (nat_eq h h) true (eq-eqb h h refl) refl) refl

  other-node : (place : CallPlace) (h : ℕ) → b.call p ≡ place → (IsBetween p (is_born_in w) place → h ≢ 1)
      → filter (is_about p h 1) (frames_to w h 1) ≡ frames.Forward asked ∷ [] → 2 ≤ h
  other-node place h e between there =
      let some = some-node-to h there
      in let other : h ≢ 1 = between (subst (λ z. IsBetween p (is_born_in w) z) e has.between)
      in omega (arith, some, other)

  -- it goes to another node than the leader
  pub by-place-to : (h : ℕ) → b.call p ≡ SentByPlace h → 2 ≤ h
  by-place-to h e = other-node (SentByPlace h) h e (λ d. d) (by-place-in-stream h e)

  -- also by range
  pub by-range-to : (h : ℕ) → b.call p ≡ SentByRange h → 2 ≤ h
  by-range-to h e = other-node (SentByRange h) h e (λ d. d) (by-range-in-stream h e)

  -- sent by the name's place it goes where the deed is
  pub by-place-at : (h : ℕ) → b.call p ≡ SentByPlace h → node_in x.deed ≡ h
  by-place-at h e =
      needed-at script w hand b name known at.object h
      (by-place-to h e)
      (need-there (is_used_name b.kernel name) b.call name p h asked needs (frames_to w h 1) []
      (by-place-in-stream h e))
    where
      needs : needs_deed (is_used_name b.kernel name) b.call name asked ≡ true
      needs =
          both (is_call_on name asked) _ on-it
          (ap (needs_by (is_used_name b.kernel name && (is_object name && is_lasting asked))) (ap b.call number-is ∙ e))

  -- and so it does where it was sent by the range of its number, once the name is used
  pub by-range-at : (h : ℕ) → b.call p ≡ SentByRange h → is_used_name b.kernel name ≡ true → node_in x.deed ≡ h
  by-range-at h e used =
      needed-at script w hand b name known at.object h
      (by-range-to h e)
      (need-there (is_used_name b.kernel name) b.call name p h asked needs (frames_to w h 1) []
      (by-range-in-stream h e))
    where
      all : (u o l : Bool) → u ≡ true → o ≡ true → l ≡ true → (u && (o && l)) ≡ true
      all u o l e f g = rw (e, f, g) refl

      needs : needs_deed (is_used_name b.kernel name) b.call name asked ≡ true
      needs =
          both (is_call_on name asked) _ on-it
          (ap (needs_by (is_used_name b.kernel name && (is_object name && is_lasting asked))) (ap b.call number-is ∙ e)
          ∙ all (is_used_name b.kernel name) (is_object name) (is_lasting asked) used at.object lasting)

  -- that is the maker's node
  pub by-range-to-maker : (h : ℕ) → b.call p ≡ SentByRange h → maker (directory_of w) name ≡ Some h
  by-range-to-maker h e =
      known.ranged h
      (sent-there (is_used_name b.kernel name) b.call name p h asked on-it
      (ap is_sent_by_range (ap b.call number-is ∙ e)) (frames_to w h 1) [] (by-range-in-stream h e))

  -- ---- held for the name, or waiting there

  -- a call is held for its own name
  pub held-for-it : (m : Name) → b.call p ≡ IsHeld m → m ≡ name
  held-for-it m e =
      same-name-is m name
      (ap (λ h. is_on m h) (sym at.home)
      ∙ subst (λ z. may_be_in z (home_of (node_of w p).pid call) call ≡ true) e has.home)

  held-there : (m : Name) → b.call p ≡ IsHeld m
      → filter (is_item_about p) (held_for (directory_of w) name) ≡ Request asked ∷ []
  held-there m e =
      there.held_for_names name
      ∙ ap (λ z. only_if (is_held_at z name) (Request asked)) e
      ∙ ap (λ t. only_if t (Request asked)) (same-name m name (held-for-it m e))

  -- a call that is held is held for its name, which is on its way to the leader
  pub held-is-coming : (m : Name) → b.call p ≡ IsHeld m
      → (to : Option ℕ) × (items : List Held) × (place_of (directory_of w) name ≡ Some (Coming to items))
  held-is-coming m e = by (place_of (directory_of w) name) refl
    where
      nothing-held : (o : Option Place) → place_of (directory_of w) (waits_at (node_of w p).pid call) ≡ o
          → items_of o ≡ [] → ⊥
      nothing-held o is none =
          none-there (Request asked) []
          (sym (ap (λ items. filter (is_item_about p) items) none)
          ∙ sym (ap (λ z. filter (is_item_about p) (items_of z)) is) ∙ held-there m e)

      by : (o : Option Place) → place_of (directory_of w) (waits_at (node_of w p).pid call) ≡ o
          → (to : Option ℕ) × (items : List Held)
          × (place_of (directory_of w) (waits_at (node_of w p).pid call) ≡ Some (Coming to items))
      by (Some (Coming to items)) is = (to, items, is)
      by (Some (At node)) is = absurd (nothing-held (Some (At node)) is refl)
      by None is = absurd (nothing-held None is refl)

  -- a call waits at its own name
  pub waits-at-it : (m : Name) → b.call p ≡ Waits m → m ≡ name
  waits-at-it m e =
      same-name-is m name
      (ap (λ h. is_on m h) (sym at.home)
      ∙ first-of-both (is_on m (home_of (node_of w p).pid call)) (may_park call)
      (subst (λ z. may_be_in z (home_of (node_of w p).pid call) call ≡ true) e has.home))

  -- a call that waits is among those who wait at its name
  pub waits-there : (m : Name) → b.call p ≡ Waits m
      → filter (is_waiter_of p) (waiters_of (b.body name)) ≡ waiting_as asked ∷ []
  waits-there m e =
      there.waiting name
      ∙ ap (λ z. only_if (is_waiting_at z name) (waiting_as asked)) e
      ∙ ap (λ t. only_if t (waiting_as asked)) (same-name m name (waits-at-it m e))

  valid : IsValid b.kernel
  valid = reachable_kernels_are_valid_lemma b.kernel (history-reachable script b.lines b.kernel b.places holds.history)

  -- which is used, then
  pub waits-at-used : (m : Name) → b.call p ≡ Waits m → is_used_name b.kernel name ≡ true
  waits-at-used m e = by (is_used_name b.kernel name) refl
    where
      by : (t : Bool) → is_used_name b.kernel (waits_at (node_of w p).pid call) ≡ t
          → is_used_name b.kernel (waits_at (node_of w p).pid call) ≡ true
      by true used = used
      by false unused =
          absurd (none-there (waiting_as asked) []
          (sym (ap (λ ws. filter (is_waiter_of p) ws)
          (nobody-waits (b.body name)
          (known.parts ∙ unused-body b.kernel name valid unused ∙ object-is-removed name at.object)))
          ∙ waits-there m e))
