-- A call that waits and is on its way by range to a node that leaves, on a name that the leader doesn't know: nothing
-- has
-- the name's number. So it stays unknown until that is given, and a node that leaves gives none.
use Rattle.std.proofs.Common.{◌≡◌, ℕ, ◌≤◌, Bool, true, false, ◌&&◌, not, cond, List, [], ◌∷◌, ◌++◌, filter, flat_map, Contains, Option, Some, None, is_none, is_some, refl, ap, sym, subst, ◌∙◌}
use Rattle.std.proofs.lemmas.Bool.{eq-eqb, false≢true}
use Rattle.std.proofs.lemmas.List.Elements.{Contains-append_left, Contains-append_right, Contains-push}
use Rattle.pico_base.specs.declared.call.Call.{Call}
use Rattle.pico_base.specs.declared.call.Call.TheVariants as calls
use Rattle.pico_base.specs.declared.call.Home.TheVariants as homes
use Rattle.pico_base.specs.declared.numbers.Name.{Name}
use Rattle.pico_base.specs.declared.script.Script.{Script}
use Rattle.pico_base.specs.Home.{home_of}
use Rattle.rpc_frame.specs.declared.asked.Asked.{Asked}
use Rattle.rpc_frame.specs.declared.frame.Frame.{Frame}
use Rattle.rpc_frame.specs.declared.frame.Frame.TheVariants as frames
use Rattle.entry_laws.specs.Entering.{is_used_name}
use Rattle.waiting_model.specs.Calls.{may_park, waits_at}
use Rattle.node_model.specs.declared.held.Held.{Held}
use Rattle.node_model.specs.Kinds.{is_object}
use Rattle.node_model.specs.Directory.{Directory, Place, is_known, maker, place_of, stays}
use Rattle.world_model.specs.World.{World, node_count}
use Rattle.world_laws.specs.Places.{CallPlace, Beside}
use Rattle.world_laws.specs.Sights.{node_of, frames_to, directory_of, is_born_in}
use Rattle.world_laws.specs.Plays.{is_call_on, is_home_on}
use Rattle.world_laws.specs.Names.{NameHolds, HasMakerThatStays, IsSentThere, is_sent_by_range, name_sight, range_steps_of, range_steps_if}
use Rattle.world_laws.specs.Callers.{CallHolds, HasCall, HasCallOrNone, asked_of, call_sight, frame_at, is_about, is_in_stream, only_if}
use Rattle.world_laws.specs.Cancels.{LeadsNowhere, Owing, cancel_sight}
use Rattle.world_laws.specs.Families.{NodeHolds}
use Rattle.world_laws.specs.Invariant.{HoldsOwing}
use Rattle.world_laws.proofs.Named.{same-name}

-- ---- a call that may wait at a queue or a set is on it

and-no : (t : Bool) → (t && false) ≡ true → false ≡ true
and-no true h = h
and-no false h = h

-- its home is where it waits
pub waits-home : (pid : ℕ) (call : Call) → (may_park call && is_object (waits_at pid call)) ≡ true
    → home_of pid call ≡ homes.At (waits_at pid call)
waits-home pid (calls.MsgSnd id class text nowait) h = refl
waits-home pid (calls.MsgRcv id class size noerror nowait) h = refl
waits-home pid (calls.SemOp id steps) h = refl
waits-home pid (calls.WaitPid child true) h = absurd (false≢true h)
waits-home pid (calls.WaitPid child false) h = absurd (false≢true h)
waits-home pid call h = absurd (false≢true h)

-- ---- a call on its way by range is among the steps

not-empty : (x : Frame) (xs : List Frame) → [] ≡ x ∷ xs → ⊥
not-empty x xs h = cc

first-same : (x y : Frame) (xs ys : List Frame) → x ∷ xs ≡ y ∷ ys → x ≡ y
first-same x y xs ys h = cc

module _ (used : Bool) (call : ℕ → CallPlace) (name : Name) (x to : ℕ) (asked : Asked)
    (on : is_call_on name asked ≡ true) (ranged : is_sent_by_range (call asked.caller) ≡ true) where
  one-step : range_steps_of used call name (frames.Forward asked) ≡ IsSentThere ∷ []
  one-step = both (is_call_on name asked) (is_sent_by_range (call asked.caller)) on ranged
    where
      both : (s t : Bool) → s ≡ true → t ≡ true → range_steps_if (s && t) IsSentThere ≡ IsSentThere ∷ []
      both s t e h = rw (e, h) refl

  head-there : (f : Frame) (fs rest : List Frame) (t : Bool)
      → cond t (f ∷ filter (is_about x to 1) fs) (filter (is_about x to 1) fs) ≡ frames.Forward asked ∷ rest
      → (filter (is_about x to 1) fs ≡ frames.Forward asked ∷ rest
      → Contains (flat_map (range_steps_of used call name) fs) IsSentThere)
      → Contains (range_steps_of used call name f ++ flat_map (range_steps_of used call name) fs) IsSentThere
  head-there f fs rest true h later =
      Contains-append_left (range_steps_of used call name f) (flat_map (range_steps_of used call name) fs) IsSentThere
      (subst (λ ss. Contains ss IsSentThere)
      (sym (ap (range_steps_of used call name)
      (first-same f (frames.Forward asked) (filter (is_about x to 1) fs) rest h) ∙ one-step))
      (Contains-push [] IsSentThere))
  head-there f fs rest false h later =
      Contains-append_right (range_steps_of used call name f) (flat_map (range_steps_of used call name) fs) IsSentThere
      (later h)

  -- a Forward of such a call says so
  pub sent-there : (fs rest : List Frame) → filter (is_about x to 1) fs ≡ frames.Forward asked ∷ rest
      → Contains (flat_map (range_steps_of used call name) fs) IsSentThere
  sent-there [] rest h = absurd (not-empty (frames.Forward asked) rest h)
  sent-there (f ∷ fs) rest h = head-there f fs rest (is_about x to 1 f) h (sent-there fs rest)

-- ---- the name isn't used

none-there : {A : Type 0} (o : Option A) → not (is_none o) ≡ false → o ≡ None
none-there None h = refl
none-there (Some x) h = absurd (false≢true (sym h))

some-same : (a c : ℕ) → Some a ≡ Some c → a ≡ c
some-same a c h = cc

module _ (script : Script) (w : World) (hand : List Held) (owes : Owing) (b : Beside)
    (holds : HoldsOwing script w hand owes b) (y : ℕ) (low : 1 ≤ y) (high : y ≤ node_count script) (call : Call)
    (is : (node_of w y).caller.under_way ≡ Some call)
    (may : (may_park call && is_object (waits_at (node_of w y).pid call)) ≡ true)
    (l : LeadsNowhere (cancel_sight w hand b y) (waits_at (node_of w y).pid call)) where
  abbrev name : Name
  name = waits_at (node_of w y).pid call

  abbrev used : Bool
  used = is_used_name b.kernel name

  abbrev asked : Asked
  asked = asked_of (call_sight w hand b y) call

  has : HasCall script y (is_born_in w) (call_sight w hand b y) call
  has =
      let c : CallHolds script y (is_born_in w) (call_sight w hand b y) = holds.calls y low high
      in subst (λ (o : Option Call). HasCallOrNone script y (is_born_in w) (call_sight w hand b y) o) is c.call

  number-is : asked.caller ≡ y
  number-is =
      let n : NodeHolds script b.pids (is_born_in w) y (node_of w y) = holds.nodes y low high
      in n.number

  known : NameHolds script b.pids (is_born_in w) name (name_sight script w hand b name)
  known = holds.names name

  on-it : is_call_on name asked ≡ true
  on-it = ap (is_home_on name) (waits-home (node_of w y).pid call may) ∙ same-name name name refl

  by-range : is_sent_by_range (b.call asked.caller) ≡ true
  by-range = ap is_sent_by_range (ap b.call number-is ∙ l.is)

  in-stream : filter (is_about y l.node 1) (frames_to w l.node 1) ≡ frames.Forward asked ∷ []
  in-stream =
      has.just_there.in_streams l.node 1
      ∙ ap (λ place. only_if (is_in_stream place y l.node 1) (frame_at place asked)) l.is
      ∙ ap (λ t. only_if (t && true) (frames.Forward asked)) (eq-eqb l.node l.node refl)

  made-there : maker (directory_of w) name ≡ Some l.node
  made-there =
      known.ranged l.node
      (sent-there used b.call name y l.node asked on-it by-range (frames_to w l.node 1) [] in-stream)

  -- It can't be used: then the leader doesn't know it, and its maker stays.
  pub nowhere-unused : is_used_name b.kernel name ≡ false
  nowhere-unused = by used refl
    where
      by : (t : Bool) → is_used_name b.kernel name ≡ t → is_used_name b.kernel name ≡ false
      by false e = e
      by true e =
          let stays_there : HasMakerThatStays (maker (directory_of w) name) (stays (directory_of w)) =
          known.unplaced e (none-there (place_of (directory_of w) name) l.unknown)
          in let same : stays_there.node ≡ l.node =
          some-same stays_there.node l.node (sym stays_there.makes ∙ made-there)
          in absurd (false≢true (sym l.leaves ∙ ap (stays (directory_of w)) (sym same) ∙ stays_there.stays))

  -- its number is that node's to give
  pub nowhere-made : maker (directory_of w) name ≡ Some l.node
  nowhere-made = made-there

unknown-by : (d : Directory) (name : Name) (used : Bool) → (is_some (place_of d name) ≡ true → used ≡ true)
    → used ≡ false → is_known d name ≡ false
unknown-by d name u known unused = by (place_of d name) refl
  where
    by : (o : Option Place) → place_of d name ≡ o → not (is_none (place_of d name)) ≡ false
    by None e = ap (λ o. not (is_none o)) e
    by (Some place) e = absurd (false≢true (sym unused ∙ known (ap is_some e)))

-- a name that isn't used afterwards isn't known
pub still-unknown : (script : Script) (pids : ℕ → ℕ) (born : ℕ → Bool) (w : World) (hand : List Held) (b : Beside)
    (name : Name) → NameHolds script pids born name (name_sight script w hand b name)
    → is_used_name b.kernel name ≡ false → is_known (directory_of w) name ≡ false
still-unknown script pids born w hand b name h unused =
    unknown-by (directory_of w) name (is_used_name b.kernel name) h.known unused
