-- A node whose process ends is asked for all that it holds: each queue and set goes back to the leader, and its
-- processes go there in a parcel, with the call that ends its own.
use Rattle.std.proofs.Common.{◌≡◌, ◌≢◌, ◌⊎◌, ℕ, ◌≤◌, Bool, true, false, ◌&&◌, ◌||◌, not, cond, if◌then◌else◌, List, [], ◌∷◌, ◌++◌, fold, filter, flat_map, nat_eq, Option, Some, None, is_some, option_and_then, Contains, refl, ap, sym, subst, ◌∙◌, inl, inr, arith, append-nil}
use Rattle.std.specs.List.{AllByRecursion}
use Rattle.std.specs.Prelude.{◌==◌}
use Rattle.std.proofs.lemmas.Bool.{cases_eq, eq-eqb, ne_eqb, false≢true}
use Rattle.pico_base.specs.declared.call.Call.{Call}
use Rattle.pico_base.specs.declared.call.Call.TheVariants as calls
use Rattle.pico_base.specs.declared.call.Home.TheVariants as homes
use Rattle.pico_base.specs.declared.numbers.Kind.{Kind}
use Rattle.pico_base.specs.declared.numbers.Name.{Name}
use Rattle.pico_base.specs.declared.numbers.Name.TheVariants.{Proc, Msg, Sem}
use Rattle.pico_base.specs.declared.script.Script.{Script}
use Rattle.pico_base.specs.declared.script.Event.TheVariants as events
use Rattle.pico_base.specs.declared.signal.SigArg.TheVariants.{Zero, Is, Bad}
use Rattle.pico_base.specs.Home.{home_of}
use Rattle.rpc_frame.specs.declared.deed.PackedDeed.{PackedDeed}
use Rattle.rpc_frame.specs.declared.deed.Parcel.{Parcel}
use Rattle.rpc_frame.specs.declared.frame.Frame.{Frame}
use Rattle.rpc_frame.specs.declared.frame.Frame.TheVariants as frames
use Rattle.number_maps.specs.Maps.{get}
use Rattle.kernel_model.specs.Row.{Alive, Row}
use Rattle.kernel_model.specs.Kernel.{Process}
use Rattle.kernel_model.specs.Kernel as kernel
use Rattle.kernel_model.specs.Transition.{may_make}
use Rattle.entry_laws.specs.Entering.{HasRow}
use Rattle.entry_laws.proofs.Bodies.{body-living}
use Rattle.waiting_model.specs.Calls.{waits_at}
use Rattle.node_model.specs.declared.held.Held.{Held}
use Rattle.node_model.specs.declared.held.Held.TheVariants.{Ending}
use Rattle.node_model.specs.Kinds.{is_object, get_named, none_named, for_kind}
use Rattle.node_model.specs.Directory.{Directory, Parting, place_of, maker, stays, is_known, held_for, is_parcel_with}
use Rattle.node_model.specs.Bodies.{Body, Living as LivingBody, Deeds, body_in, process_body}
use Rattle.node_model.specs.Spelling.{pack}
use Rattle.node_model.specs.Parcels.{give_all, parcel_of, may_end_with, is_over_but_for}
use Rattle.world_model.specs.Node.{Node, Leaving, Left, Over, is_leaving_stage}
use Rattle.world_model.specs.Step.{Step, step_to}
use Rattle.world_model.specs.Lives.{is_end, hand_over, take_recall_all, send_to_leader}
use Rattle.world_model.specs.Census.{brings}
use Rattle.world_model.specs.World.{World, world_after, node_count, is_checkpoint}
use Rattle.world_laws.specs.Places.{CallPlace, Ends, DeedPlace, InTable, Beside}
use Rattle.world_laws.specs.Sights.{node_of, frames_to, directory_of, stage_of, is_born_in}
use Rattle.world_laws.specs.Plays.{Done, PlayStep, AllGo, plays, begin, is_checkpoint_of, has_any, placed_in, news}
use Rattle.world_laws.specs.Names.{NameSight, name_sight, NameHolds, HasDeed, held_at, held_as, comes_to, IsBringer, OneIf, is_stream_of, range_steps_of, forker, is_maker}
use Rattle.world_laws.specs.Callers.{CallSight, CallHolds, call_sight, HasCall, HasNoCall, HasCallOrNone, IsJustThere, IsSoFar, IsToBeMade, HasEnded, asked_of, may_be_in, is_about, is_item_about, is_end_place, is_end_stage}
use Rattle.world_laws.specs.Ways.{Way, way_sight, knows_parent, Shows, IsCollected, HandsOver, here, tells, collected, over, gone, is_leaving_frame, is_recall_all, is_left_frame, IsParcelOf, IsParcelIn, left as left_in, sent as sent_in, kept as kept_in, at_hand, under_way_of, HasSender}
use Rattle.world_laws.specs.Ranges.{KeysHold, lease_in}
use Rattle.world_laws.specs.Families.{NodeHolds, HoldsIn, HoldsRow, BornIn, IsBorn, FamilyHolds, CheckpointIn, IsAwaited, checkpoints_to}
use Rattle.world_laws.specs.Cancels.{CancelIf, Nothing, Owing, cancel_sight, is_cancel_of, is_held_cancel_of, is_of_call, is_held_of_call}
use Rattle.world_laws.specs.Invariant.{Holds, HoldsOwing, IsLeading, MayBe, process_deed}
use Rattle.world_laws.proofs.Cancels.{SameCancel, is_item_of}
use Rattle.world_laws.proofs.Stays.{IsMore, SameName, name-stays, SameCall, call-stays, SameWay, way-stays, kind-stays}
use Rattle.world_laws.proofs.Sends.{IsToNode}
use Rattle.world_laws.proofs.Changes.{Changes, sent, filter-is-list-map, flat_map-is-list-map, made-after, made-same, only-stayed, stayed, directory-same, still-born}
use Rattle.world_laws.proofs.LeftAlone.{LeavesCall, call-left-alone, was-there, sender-stays, kind-left-alone, other-node-stays, frames-still-fit, few-still}
use Rattle.world_laws.proofs.Steps.{KeepsAs, Heads, world_without, take-steps, changes-by-take}
use Rattle.world_laws.proofs.NameFacts.{held-elsewhere, IsHeldAt, held-there}
use Rattle.world_laws.proofs.Heads.{head-is, head-may-be, head-from-another, rest-stays, others-stay}
use Rattle.rule_laws.proofs.CallMoves.{cancel-if-same}
use Rattle.rule_laws.proofs.own.Bodies.{process-body-is}
use Rattle.rule_laws.proofs.ends.Unmoved.{LeavesItems, cancel-unmoved, whole-unmoved}
use Rattle.rule_laws.proofs.ends.Given.{AreRising, to_leader, fold-sends, kept-of-all-sent, all-given, frame_of, gives-name, gives-left, packed-there, all-of-map}
use Rattle.rule_laws.proofs.ends.Handed.{handed_to, is_in_table, handed, in-table-is, not-in-table, left_by, name-left-by, handed_over, name-handed-over, brings-handed, where-handed, parent-handed, checkpoint-handed, fresh-handed, awaited-handed, not-awaited}

-- ---- the call that ends a process

is-not-empty : {A : Type 0} (x : A) (xs : List A) → x ∷ xs ≡ [] → ⊥
is-not-empty x xs h = cc

end-place-is : (place : CallPlace) → is_end_place place ≡ true → place ≡ Ends
end-place-is Ends h = refl
end-place-is place h = absurd (false≢true h)

own-or-at : (t : Bool) (name : Name) (call : Call)
    → may_be_in Ends (if t then homes.Own else homes.At name) call ≡ true → ⊥
own-or-at true name call h = false≢true h
own-or-at false name call h = false≢true h

-- a call that ends its process is `exit` or `killed`
pub ends-by-end : (pid : ℕ) (call : Call) → may_be_in Ends (home_of pid call) call ≡ true → is_end call ≡ true
ends-by-end pid (calls.Exit status) h = refl
ends-by-end pid (calls.Killed sig) h = refl
ends-by-end pid (calls.Kill to Bad) h = absurd (false≢true h)
ends-by-end pid (calls.Kill to Zero) h = absurd (own-or-at (to == pid) (Proc to) (calls.Kill to Zero) h)
ends-by-end pid (calls.Kill to (Is sig)) h = absurd (own-or-at (to == pid) (Proc to) (calls.Kill to (Is sig)) h)
ends-by-end pid (calls.MsgGet None create excl) h = absurd (false≢true h)
ends-by-end pid (calls.MsgGet (Some key) create excl) h = absurd (false≢true h)
ends-by-end pid (calls.SemGet None count create excl) h = absurd (false≢true h)
ends-by-end pid (calls.SemGet (Some key) count create excl) h = absurd (false≢true h)
ends-by-end pid (calls.Withdraw (Proc to)) h =
    absurd (own-or-at (to == pid) (Proc to) (calls.Withdraw (Proc to)) h)
ends-by-end pid (calls.Withdraw (Msg id)) h = absurd (false≢true h)
ends-by-end pid (calls.Withdraw (Sem id)) h = absurd (false≢true h)
ends-by-end pid call h = absurd (false≢true h)

-- the row allows it, where the process may make it
pub end-is-allowed : (a : Alive) (call : Call) → is_end call ≡ true → may_make a call ≡ true
    → may_end_with a.row call ≡ true
end-is-allowed a (calls.Exit status) e h = refl
end-is-allowed a (calls.Killed sig) e h = h
end-is-allowed a call e h = absurd (false≢true e)

-- the call that ends a node's process is under way there
pub record EndsBy (script : Script) (p : ℕ) (born : ℕ → Bool) (y : CallSight) : Type 0 where
  pub call : Call
  pub is : y.caller.under_way ≡ Some call
  pub has : HasCall script p born y call
  pub place : y.call ≡ Ends

-- at each node whose process ends
pub ends-by : (script : Script) (p : ℕ) (born : ℕ → Bool) (y : CallSight) → CallHolds script p born y
    → is_end_stage y.stage ≡ true → EndsBy script p born y
ends-by script p born y h stage = by-call y.caller.under_way refl h.call
  where
    place-is : y.call ≡ Ends
    place-is = end-place-is y.call (h.ends ∙ stage)

    by-call : (o : Option Call) → y.caller.under_way ≡ o → HasCallOrNone script p born y o → EndsBy script p born y
    by-call None e none =
        let n : HasNoCall script p y = none
        in absurd (false≢true (ap is_end_place (sym n.idle ∙ place-is)))
    by-call (Some call) e some = record { call = call; is = e; has = some; place = place-is }

-- the deeds at this node
abbrev pub deeds_at : World → ℕ → Deeds
deeds_at w p =
    let n : Node = node_of w p
    in n.deeds

or-true : (t : Bool) → (t || true) ≡ true
or-true true = refl
or-true false = refl

-- a process that doesn't live is over, and one that lives is the node's own
pub over-or-own : (k : ℕ) (o : Option Process) (pid : ℕ) → ((row : Row) → process_body o ≡ LivingBody row → k ≡ pid)
    → is_over_but_for pid (k, process_body o) ≡ true
over-or-own k None pid own = or-true (nat_eq k pid)
over-or-own k (Some (kernel.Living alive)) pid own = ap (λ t. t || false) (eq-eqb k pid (own alive.row refl))
over-or-own k (Some (kernel.Ended ending)) pid own = or-true (nat_eq k pid)
over-or-own k (Some kernel.Gone) pid own = or-true (nat_eq k pid)

-- a process's body is the kernel's part
pub process-part : (script : Script) (w : World) (hand : List Held) {owes : Owing} (b : Beside)
    → HoldsOwing script w hand owes b → (k : ℕ) → b.body (Proc k) ≡ body_in b.kernel (Proc k)
process-part script w hand b holds k =
    let known : NameHolds script b.pids (is_born_in w) (Proc k) (name_sight script w hand b (Proc k)) =
    holds.names (Proc k)
    in process-body-is b.kernel (b.body (Proc k)) k known.parts

nothing-at : (m : Name) → get_named {V = Body} none_named m ≡ None
nothing-at (Proc k) = refl
nothing-at m = refl

-- ---- the event

module _ (script : Script) (w : World) (b : Beside) (holds : Holds script w [] b) (p : ℕ) (rest : List Frame)
    (h : Heads script w p 1 frames.RecallAll rest) (rises : AreRising (deeds_at w p)) where
  abbrev n : Node
  n = node_of w p

  other : p ≢ 1
  other e = head-from-another script w p 1 frames.RecallAll rest h (is_born_in w) holds.frames_fit (sym e)

  low-node : 2 ≤ p
  low-node = let low = h.low in omega (arith, low, other)

  recalls-there : filter is_recall_all (frames_to w p 1) ≡ frames.RecallAll ∷ filter is_recall_all rest
  recalls-there = ap (filter is_recall_all) (head-is script w p 1 frames.RecallAll rest h)

  abbrev knows : Bool
  knows = knows_parent script w b.pids p

  was-collected : Way script b.pids p knows (way_sight w p) → IsCollected knows (way_sight w p)
  was-collected way = by-way way
    where
      no-recall : (leavings : List Frame) (parting : Option Parting) → Shows (way_sight w p) leavings [] parting → ⊥
      no-recall leavings parting s =
          is-not-empty frames.RecallAll (filter is_recall_all rest) (sym recalls-there ∙ s.has_recalls)

      by-way : Way script b.pids p knows (way_sight w p) → IsCollected knows (way_sight w p)
      by-way (here z) = absurd (no-recall _ _ z.shows)
      by-way (tells z) = absurd (no-recall _ _ z.shows)
      by-way (collected z) = z
      by-way (over z) = absurd (no-recall _ _ z.shows)
      by-way (gone z) = absurd (no-recall _ _ z.shows)

  way-was : IsCollected knows (way_sight w p)
  way-was = was-collected (holds.ways p low-node h.high)

  stage : stage_of w p ≡ Leaving
  stage = way-was.stage

  node-holds : NodeHolds script b.pids (is_born_in w) p n
  node-holds = holds.nodes p h.low h.high

  row-here : HoldsRow n.deeds n.pid
  row-here = subst (λ s. HoldsIn p n s) stage node-holds.holds

  birth : IsBorn script b.pids p n.pid n.parent n.parent_node
  birth = subst (λ s. BornIn script b.pids p n.pid n.parent n.parent_node s) stage node-holds.birth

  -- the call

  abbrev y-of : ℕ → CallSight
  y-of x = call_sight w [] b x

  -- the call that ends the process is under way
  pub ends : EndsBy script p (is_born_in w) (y-of p)
  ends = ends-by script p (is_born_in w) (y-of p) (holds.calls p h.low h.high) (ap is_end_stage stage)

  abbrev call : Call
  call = ends.call

  is-an-end : is_end call ≡ true
  is-an-end =
      let has = ends.has
      in ends-by-end n.pid call
      (subst (λ z. may_be_in z (home_of n.pid call) call ≡ true) ends.place has.home)

  table-of : (name : Name) (body : Body) → get_named n.deeds name ≡ Some body
      → IsHeldAt (b.deed name) (b.body name) p body
  table-of name body there =
      let known : NameHolds script b.pids (is_born_in w) name (name_sight script w [] b name) = holds.names name
      in held-there (b.deed name) (b.body name) p body (sym (known.tables p) ∙ there)

  own-row : HasRow b.kernel (b.pids p) row-here.row
  own-row =
      let at = table-of (Proc n.pid) (LivingBody row-here.row) row-here.here
      in subst (λ q. HasRow b.kernel q row-here.row) birth.pid_is
      (body-living b.kernel n.pid row-here.row
      (sym (process-part script w [] b holds n.pid) ∙ sym at.body_is))

  so-far : IsToBeMade script p (y-of p) call ⊎ HasEnded (y-of p)
  so-far =
      let has = ends.has
      in subst (λ z. IsSoFar script p (y-of p) call z) ends.place has.so_far

  to-be-made : IsToBeMade script p (y-of p) call
  to-be-made = by-cases so-far
    where
      by-cases : IsToBeMade script p (y-of p) call ⊎ HasEnded (y-of p) → IsToBeMade script p (y-of p) call
      by-cases (inl made) = made
      by-cases (inr ended) = absurd (false≢true (ap is_some (sym ended.dead ∙ own-row.lives)))

  allowed : may_end_with row-here.row call ≡ true
  allowed =
      subst (λ r. may_end_with r call ≡ true)
      (ap (λ (a : Alive). a.row) (some-same (sym to-be-made.lives ∙ own-row.lives)) ∙ own-row.row_is)
      (end-is-allowed to-be-made.alive call is-an-end to-be-made.may)
    where
      some-same : {A : Type 0} {x y : A} → Some x ≡ Some y → x ≡ y
      some-same e = cc

  -- what it changes

  abbrev empty : Node
  empty = record n { stage = Left; deeds = none_named; watches = none_named }

  abbrev gives : List Frame
  gives = give_all n.deeds n.pid n.parent call

  abbrev parcel : Parcel
  parcel = parcel_of n.deeds n.pid n.parent call

  abbrev sends : List (ℕ × Frame)
  sends = to_leader gives

  abbrev after : Step
  after = record { node = empty; entries = []; sends = sends; strikes = false }

  rule : take_recall_all n 1 ≡ Some after
  rule =
      ap (λ s. if true && is_leaving_stage s then option_and_then (hand_over n) n.caller.under_way else None) stage
      ∙ ap (option_and_then (hand_over n)) ends.is
      ∙ ap (λ t. if t then Some (fold send_to_leader (step_to empty) gives) else None) is-an-end
      ∙ ap Some (fold-sends (step_to empty) gives)

  abbrev next : World
  next = world_after (world_without w p 1 rest) p after

  abbrev deeds-now : Name → DeedPlace
  deeds-now name = handed p (is_object name) (b.deed name)

  abbrev moved : Beside
  moved = record b { deed = deeds-now }

  abbrev takes : List (ℕ × Frame)
  takes = (1, frames.RecallAll) ∷ []

  each-sent : (P : ℕ × Frame → Type 0) → ((deed : PackedDeed) → P (1, frames.GiveBack deed))
      → P (1, frames.Left parcel) → AllByRecursion P sends
  each-sent P back left = all-given P back n.deeds n.pid n.parent call left

  changes : Changes script p w next empty takes sends []
  changes =
      let low = h.low
      in let high = h.high
      in changes-by-take script w holds.shape p 1 frames.RecallAll rest after h
      (each-sent (IsToNode (node_count script)) (λ deed. record { low = omega arith; high = omega arith })
      (record { low = omega arith; high = omega arith }))

  same-there : directory_of next ≡ directory_of w
  same-there = directory-same script p w next empty takes sends [] changes other

  more : IsMore (is_born_in w) (is_born_in next)
  more = still-born script p w next empty takes sends [] changes (λ g. refl)

  stage-now : stage_of next p ≡ Left
  stage-now = ap (λ (m : Node). m.stage) changes.here

  stage-elsewhere : (x : ℕ) → x ≢ p → stage_of next x ≡ stage_of w x
  stage-elsewhere x d = ap (λ (m : Node). m.stage) (changes.others x d)

  -- ---- the names

  module _ (name : Name) where
    abbrev x : NameSight
    x = name_sight script w [] b name

    known : NameHolds script b.pids (is_born_in w) name x
    known = holds.names name

    abbrev rest-steps : List PlayStep
    rest-steps = plays x.used b.call name (changes.left p 1)

    steps-were : x.steps p ≡ AllGo ∷ rest-steps
    steps-were =
        rest-stays script p 1 w next empty frames.RecallAll sends [] changes
        (λ t s fs. plays x.used b.call name fs) (λ t s. flat_map-is-list-map _)

    only-plays : (q : ℕ) → plays x.used b.call name (frames_to next q 1) ≡ plays x.used b.call name (changes.left q 1)
    only-plays q =
        only-stayed script p w next empty takes sends [] changes
        (λ t s fs. plays x.used b.call name fs) (λ t s. flat_map-is-list-map _)
        (each-sent (λ s. plays x.used b.call name (s.1 ∷ []) ≡ []) (λ deed. refl) refl) q 1

    steps-now : (q : ℕ) → (if nat_eq q p then rest-steps else x.steps q) ≡ plays x.used b.call name (frames_to next q 1)
    steps-now q =
        elim (cases_eq q p) [
          | inl e ↦
              ap (λ t. if t then rest-steps else x.steps q) (eq-eqb q p e)
              ∙ subst (λ y. rest-steps ≡ plays x.used b.call name (frames_to next y 1)) (sym e) (sym (only-plays p))
          | inr d ↦
              ap (λ t. if t then rest-steps else x.steps q) (ne_eqb q p d)
              ∙ sym (only-plays q
              ∙ others-stay script p 1 w next empty frames.RecallAll sends [] changes
              (λ t s fs. plays x.used b.call name fs) (λ t s. flat_map-is-list-map _) q 1 (inl d))
        ]

    comes-now : (q : ℕ) → comes_to script next name q ≡ comes_to script w name q
    comes-now q =
        ap (λ fs. not (nat_eq (forker script q) 1) && has_any fs)
        (made-same script p w next empty takes sends [] changes
        (λ t s fs. filter (is_checkpoint_of name) fs) (λ t s. filter-is-list-map (is_checkpoint_of name)) (refl, tt)
        (each-sent (λ s. filter (is_checkpoint_of name) (s.1 ∷ []) ≡ []) (λ deed. refl) refl)
        q (forker script q))

    begins-now : (q : ℕ)
        → (if nat_eq q p then Done else x.begins q)
        ≡ begin (stage_of next q) (is_some (held_at next name q)) (comes_to script next name q)
    begins-now q =
        elim (cases_eq q p) [
          | inl e ↦
              ap (λ t. if t then Done else x.begins q) (eq-eqb q p e)
              ∙ subst (λ y. Done ≡ begin (stage_of next y) (is_some (held_at next name y))
              (comes_to script next name y))
              (sym e)
              (sym (ap (λ s. begin s (is_some (held_at next name p)) (comes_to script next name p)) stage-now))
          | inr d ↦
              ap (λ t. if t then Done else x.begins q) (ne_eqb q p d)
              ∙ ap (begin (stage_of w q) (is_some (held_at w name q))) (sym (comes-now q))
              ∙ sym (ap
              (λ (m : Node). begin m.stage (is_some (get_named m.deeds name)) (comes_to script next name q))
              (changes.others q d))
        ]

    held-now : held_at next name p ≡ None
    held-now = ap (λ (m : Node). get_named m.deeds name) changes.here ∙ nothing-at name

    held-others : (q : ℕ) → q ≢ p → held_at next name q ≡ held_at w name q
    held-others q d = ap (λ (m : Node). get_named m.deeds name) (changes.others q d)

    -- what brings it was there, or was sent now
    brought-now : (to sender : ℕ)
        → filter (brings name) (frames_to next to sender)
        ≡ x.brought to sender ++ cond (nat_eq to 1 && nat_eq sender p) (filter (brings name) gives) []
    brought-now to sender =
        made-after script p w next empty takes sends [] changes
        (λ t s fs. filter (brings name) fs) (λ t s. filter-is-list-map (brings name)) to sender
        ∙ ap (λ fs. fs ++ filter (brings name) (sent p sends to sender))
        (stayed script p w next empty takes sends [] changes
        (λ t s fs. filter (brings name) fs) (λ t s. filter-is-list-map (brings name)) (refl, tt) to sender)
        ∙ ap (λ fs. x.brought to sender ++ fs) (kept-of-all-sent (brings name) p gives to sender)

    ranges-now : (q : ℕ) → x.ranges q ≡ flat_map (range_steps_of x.used b.call name) (frames_to next q 1)
    ranges-now q =
        sym (made-same script p w next empty takes sends [] changes
        (λ t s fs. flat_map (range_steps_of x.used b.call name) fs) (λ t s. flat_map-is-list-map _) (refl, tt)
        (each-sent (λ s. flat_map (range_steps_of x.used b.call name) (s.1 ∷ []) ≡ []) (λ deed. refl) refl) q 1)

    placed-now : (q : ℕ) → x.placed q ≡ placed_in name (frames_to next 1 q)
    placed-now q =
        sym (made-same script p w next empty takes sends [] changes
        (λ t s fs. placed_in name fs) (λ t s. flat_map-is-list-map _) (refl, tt)
        (each-sent (λ s. placed_in name (s.1 ∷ []) ≡ []) (λ deed. refl) refl) 1 q)

    news-now : (q : ℕ)
        → x.news q ≡ news name (x.used && is_maker (maker (directory_of next) name) q) (frames_to next 1 q)
    news-now q =
        ap (λ y. news name (x.used && is_maker (maker y name) q) (frames_to w 1 q)) (sym same-there)
        ∙ sym (made-same script p w next empty takes sends [] changes
        (λ t s fs. news name (x.used && is_maker (maker (directory_of next) name) s) fs)
        (λ t s. flat_map-is-list-map _) (refl, tt)
        (each-sent (λ s. news name (x.used && is_maker (maker (directory_of next) name) p) (s.1 ∷ []) ≡ [])
        (λ deed. refl) refl) 1 q)

    -- a name that isn't here

    name-elsewhere : is_in_table p x.deed ≡ false
        → NameHolds script b.pids (is_born_in next) name (name_sight script next [] moved name)
    name-elsewhere away =
        name-stays script b.pids (is_born_in w) (is_born_in next) name _ _ more sight-elsewhere
        (name-left-by script b.pids (is_born_in w) name x known p rest-steps steps-were)
      where
        none-here : held_at w name p ≡ None
        none-here = known.tables p ∙ not-in-table p x.deed x.body away

        append-nothing : (t : Bool) (fs : List Frame) → fs ++ cond t [] [] ≡ fs
        append-nothing true fs = append-nil fs
        append-nothing false fs = append-nil fs

        brought-same : (to sender : ℕ) → filter (brings name) (frames_to next to sender) ≡ x.brought to sender
        brought-same to sender =
            brought-now to sender
            ∙ ap (λ fs. x.brought to sender ++ cond (nat_eq to 1 && nat_eq sender p) fs [])
            (gives-name n.deeds n.pid n.parent call rises name None none-here)
            ∙ append-nothing (nat_eq to 1 && nat_eq sender p) (x.brought to sender)

        held-same : (q : ℕ) → x.held q ≡ held_at next name q
        held-same q =
            elim (cases_eq q p) [
              | inl e ↦ subst (λ y. x.held y ≡ held_at next name y) (sym e) (none-here ∙ sym held-now)
              | inr d ↦ sym (held-others q d)
            ]

        sight-elsewhere : SameName (left_by x p rest-steps) (name_sight script next [] moved name)
        sight-elsewhere =
            record {
              place = ap (λ y. place_of y name) (sym same-there);
              maker = ap (λ y. maker y name) (sym same-there);
              stays = λ q. ap (λ y. stays y q) (sym same-there);
              used = refl;
              part = refl;
              body = refl;
              deed = sym (ap (λ t. if t then handed_to p (is_object name) else x.deed) away);
              held = held-same;
              brought = λ to sender. sym (brought-same to sender);
              kept = λ pid. ap (λ y. filter (is_parcel_with name) (held_for y (Proc pid))) (sym same-there);
              hand = refl;
              begins = begins-now;
              steps = steps-now;
              ranges = ranges-now;
              placed = placed-now;
              news = news-now;
            }

    -- a name that is here

    name-here : is_in_table p x.deed ≡ true
        → NameHolds script b.pids (is_born_in next) name (name_sight script next [] moved name)
    name-here at =
        name-stays script b.pids (is_born_in w) (is_born_in next) name _ _ more sight-here
        (name-handed-over script b.pids (is_born_in w) name x known p other deed-is (frame_of name x.body parcel)
        (brings-handed b.pids name x.body p parcel has-deed) rest-steps steps-were)
      where
        deed-is : x.deed ≡ InTable p
        deed-is = in-table-is p x.deed at

        held-here : held_at w name p ≡ Some x.body
        held-here =
            known.tables p ∙ ap (λ d. held_as d x.body p) deed-is
            ∙ ap (λ t. if t then Some x.body else None) (eq-eqb p p refl)

        has-deed : (pid : ℕ) → name ≡ Proc pid → HasDeed name x.body (b.pids p) parcel
        has-deed pid e =
            record {
              there = subst (λ m. Contains parcel.deeds (pack m x.body)) (sym e)
                  (packed-there pid n.deeds.processes x.body
                  (ap (get_named n.deeds) (sym e) ∙ held-here));
              of_process = birth.pid_is;
            }

        brought-before : (to sender : ℕ) → x.brought to sender ≡ []
        brought-before to sender =
            subst (λ d. OneIf (is_stream_of (forker script) d to sender) (IsBringer b.pids name x.body d)
            (x.brought to sender)) deed-is (known.streams to sender)

        brought-here : (to sender : ℕ)
            → cond (nat_eq to 1 && nat_eq sender p) (frame_of name x.body parcel ∷ []) []
            ≡ filter (brings name) (frames_to next to sender)
        brought-here to sender =
            sym (brought-now to sender
            ∙ ap (λ fs. fs ++ cond (nat_eq to 1 && nat_eq sender p) (filter (brings name) gives) [])
            (brought-before to sender)
            ∙ ap (λ fs. cond (nat_eq to 1 && nat_eq sender p) fs [])
            (gives-name n.deeds n.pid n.parent call rises name (Some x.body) held-here))

        none-held : (q : ℕ) → None ≡ held_at next name q
        none-held q =
            elim (cases_eq q p) [
              | inl e ↦ subst (λ y. None ≡ held_at next name y) (sym e) (sym held-now)
              | inr d ↦
                  sym (held-others q d ∙ known.tables q ∙ ap (λ y. held_as y x.body q) deed-is
                  ∙ held-elsewhere p q x.body d)
            ]

        sight-here : SameName (handed_over x p (is_object name) (frame_of name x.body parcel) rest-steps)
            (name_sight script next [] moved name)
        sight-here =
            record {
              place = ap (λ y. place_of y name) (sym same-there);
              maker = ap (λ y. maker y name) (sym same-there);
              stays = λ q. ap (λ y. stays y q) (sym same-there);
              used = refl;
              part = refl;
              body = refl;
              deed = sym (ap (λ t. if t then handed_to p (is_object name) else x.deed) at);
              held = none-held;
              brought = brought-here;
              kept = λ pid. ap (λ y. filter (is_parcel_with name) (held_for y (Proc pid))) (sym same-there);
              hand = refl;
              begins = begins-now;
              steps = steps-now;
              ranges = ranges-now;
              placed = placed-now;
              news = news-now;
            }

    names : NameHolds script b.pids (is_born_in next) name (name_sight script next [] moved name)
    names = by-test (is_in_table p x.deed) refl
      where
        by-test : (t : Bool) → is_in_table p x.deed ≡ t
            → NameHolds script b.pids (is_born_in next) name (name_sight script next [] moved name)
        by-test true e = name-here e
        by-test false e = name-elsewhere e

  -- ---- the node

  node-now : NodeHolds script b.pids (is_born_in next) p empty
  node-now =
      record {
        number = node-holds.number;
        holds = refl;
        birth = birth;
        first = λ e. absurd (other e);
        others = λ d e. absurd (left-is-not-over e);
        rows = λ pid row there. absurd (nothing-there row there);
        owners = λ name owner there.
            let old = node-holds.owners name owner there
            in (more owner old.0, old.1);
      }
    where
      left-is-not-over : Left ≡ Over → ⊥
      left-is-not-over e = cc

      nothing-there : (row : Row) → None ≡ Some (LivingBody row) → ⊥
      nothing-there row e = false≢true (ap is_some e)

  nodes-now : (x : ℕ) → 1 ≤ x → x ≤ node_count script
      → NodeHolds script b.pids (is_born_in next) x (node_of next x)
  nodes-now x low_x high_x =
      elim (cases_eq x p) [
        | inr d ↦
            other-node-stays script p w next empty takes sends [] changes b.pids (is_born_in w) (is_born_in next) x d
            more (holds.nodes x low_x high_x)
        | inl e ↦
            subst (λ y. NodeHolds script b.pids (is_born_in next) y (node_of next y)) (sym e)
            (subst (λ (m : Node). NodeHolds script b.pids (is_born_in next) p m) (sym changes.here) node-now)
      ]

  -- ---- the calls

  abbrev leaves-with : CallSight
  leaves-with = record (y-of p) { stage = Left }

  call-here : CallHolds script p (is_born_in w) leaves-with
  call-here =
      record {
        call = subst (λ o. HasCallOrNone script p (is_born_in w) leaves-with o) (sym ends.is) has-it;
        ends = ap is_end_place ends.place;
      }
    where
      old : HasCall script p (is_born_in w) (y-of p) call
      old = ends.has

      there : IsJustThere p (y-of p) (asked_of (y-of p) call)
      there = old.just_there

      made-still : IsToBeMade script p leaves-with call
      made-still =
          let m : IsToBeMade script p (y-of p) call = to-be-made
          in record { there = m.there; due = m.due; alive = m.alive; lives = m.lives; may = m.may }

      has-it : HasCall script p (is_born_in w) leaves-with call
      has-it =
          record {
            just_there = record {
              in_streams = there.in_streams;
              held_for_names = there.held_for_names;
              in_hand = there.in_hand;
              waiting = there.waiting;
            };
            home = old.home;
            used_up = old.used_up;
            between = old.between;
            so_far = subst (λ z. IsSoFar script p leaves-with call z) (sym ends.place) (inl made-still);
            at_work = refl;
            started = old.started;
            tickets = old.tickets;
            try_left = old.try_left;
          }

  call-sight-now : SameCall leaves-with (call_sight next [] moved p)
  call-sight-now =
      record {
        number = sym (ap (λ (m : Node). m.number) changes.here);
        pid = sym (ap (λ (m : Node). m.pid) changes.here);
        stage = sym stage-now;
        caller = sym (ap (λ (m : Node). m.caller) changes.here);
        leases = sym (ap (λ (m : Node). m.leases) changes.here);
        place = refl;
        alive = refl;
        call = refl;
        frames_about = λ to sender. sym (made-same script p w next empty takes sends [] changes
            (λ t s fs. filter (is_about p t s) fs) (λ t s. filter-is-list-map (is_about p t s)) (refl, tt)
            (each-sent (λ s. filter (is_about p s.0 p) (s.1 ∷ []) ≡ []) (λ deed. refl) refl) to sender);
        held = λ m. ap (λ z. filter (is_item_about p) (held_for z m)) (sym same-there);
        hand = refl;
        waiters = λ m. refl;
      }

  leaves-call : (y : ℕ) → y ≢ p → LeavesCall w next [] [] b moved p empty y
  leaves-call y d =
      record {
        own = λ e. absurd (d e);
        place_is = refl;
        alive_is = refl;
        call_is = refl;
        held_is = λ m. ap (λ z. filter (is_item_about y) (held_for z m)) same-there;
        hand_is = refl;
        waiters_are = λ m. refl;
      }

  calls-now : (y : ℕ) → 1 ≤ y → y ≤ node_count script
      → CallHolds script y (is_born_in next) (call_sight next [] moved y)
  calls-now y low high =
      elim (cases_eq y p) [
        | inl e ↦
            subst (λ z. CallHolds script z (is_born_in next) (call_sight next [] moved z)) (sym e)
            (call-stays script p (is_born_in w) (is_born_in next) _ _ more call-sight-now call-here)
        | inr d ↦
            call-stays script y (is_born_in w) (is_born_in next) _ _ more
            (call-left-alone script p w next empty takes sends [] changes [] [] b moved y (leaves-call y d)
            (refl, tt) (each-sent (λ s. is_about y s.0 p s.1 ≡ false) (λ deed. refl) refl)) (holds.calls y low high)
      ]

  -- ---- the withdrawals

  abbrev ticket : ℕ
  ticket = n.caller.ticket

  ticket-same : (node_of next p).caller.ticket ≡ ticket
  ticket-same = ap (λ (m : Node). m.caller.ticket) changes.here

  cancel-sight-now : SameCancel (cancel_sight w [] b p) (cancel_sight next [] moved p)
  cancel-sight-now =
      record {
        number = sym (ap (λ (m : Node). m.number) changes.here);
        pid = sym (ap (λ (m : Node). m.pid) changes.here);
        caller = sym (ap (λ (m : Node). m.caller) changes.here);
        call = refl;
        cancel = refl;
        cancels = λ to sender. sym (made-same script p w next empty takes sends [] changes
            (λ t s fs. filter (is_cancel_of p) fs) (λ t s. filter-is-list-map (is_cancel_of p)) (refl, tt)
            (each-sent (λ s. filter (is_cancel_of p) (s.1 ∷ []) ≡ []) (λ deed. refl) refl) to sender);
        held_cancels = λ m. ap (λ z. filter (is_held_cancel_of p) (held_for z m)) (sym same-there);
        hand_cancels = refl;
        of_call = λ to sender.
            sym (ap (λ k. filter (is_of_call p k to sender) (frames_to next to sender)) ticket-same
            ∙ made-same script p w next empty takes sends [] changes
            (λ t s fs. filter (is_of_call p ticket t s) fs) (λ t s. filter-is-list-map (is_of_call p ticket t s))
            (refl, tt)
            (each-sent (λ s. filter (is_of_call p ticket s.0 p) (s.1 ∷ []) ≡ []) (λ deed. refl) refl) to sender);
        held_of_call = λ m.
            sym (ap (λ k. filter (is_held_of_call p k) (held_for (directory_of next) m)) ticket-same
            ∙ ap (λ z. filter (is_held_of_call p ticket) (held_for z m)) same-there);
        hand_of_call = refl;
        nowhere = λ asked is may at. record {
          node = at.node;
          is = at.is;
          leaves = ap (λ z. stays z at.node) same-there ∙ at.leaves;
          unknown = ap (λ z. is_known z (waits_at n.pid asked)) same-there ∙ at.unknown;
        };
      }

  leaves-items : (y : ℕ) → y ≢ p → LeavesItems w next [] [] p empty y
  leaves-items y d =
      record {
        own = λ e. absurd (d e);
        held_is = λ m. ap (λ z. filter (is_item_of y) (held_for z m)) same-there;
        hand_is = refl;
        leaves = λ q e. ap (λ z. stays z q) same-there ∙ e;
      }

  cancels-now : (y : ℕ) → 1 ≤ y → y ≤ node_count script → CancelIf y Nothing (cancel_sight next [] moved y)
  cancels-now y low high =
      elim (cases_eq y p) [
        | inl e ↦
            subst (λ z. CancelIf z Nothing (cancel_sight next [] moved z)) (sym e)
            (cancel-if-same p Nothing (cancel_sight w [] b p) (cancel_sight next [] moved p) refl cancel-sight-now
            (holds.cancels p h.low h.high))
        | inr d ↦
            cancel-unmoved script w next [] [] Nothing b deeds-now p empty takes sends holds changes names y low high
            (leaves-items y d) (refl, tt) (each-sent (λ s. is_about y s.0 p s.1 ≡ false) (λ deed. refl) refl)
            (refl, tt) (each-sent (λ s. is_cancel_of y s.1 ≡ false) (λ deed. refl) refl)
      ]

  -- ---- the ways

  leavings-same : (c : ℕ) → filter is_leaving_frame (frames_to next 1 c) ≡ filter is_leaving_frame (frames_to w 1 c)
  leavings-same c =
      made-same script p w next empty takes sends [] changes (λ t s fs. filter is_leaving_frame fs)
      (λ t s. filter-is-list-map is_leaving_frame) (refl, tt)
      (each-sent (λ s. filter is_leaving_frame (s.1 ∷ []) ≡ []) (λ deed. refl) refl) 1 c

  recalls-left : (c : ℕ) → filter is_recall_all (frames_to next c 1) ≡ filter is_recall_all (changes.left c 1)
  recalls-left c =
      only-stayed script p w next empty takes sends [] changes (λ t s fs. filter is_recall_all fs)
      (λ t s. filter-is-list-map is_recall_all)
      (each-sent (λ s. filter is_recall_all (s.1 ∷ []) ≡ []) (λ deed. refl) refl) c 1

  lefts-now : (c : ℕ)
      → filter is_left_frame (frames_to next 1 c)
      ≡ filter is_left_frame (frames_to w 1 c) ++ cond (nat_eq c p) (frames.Left parcel ∷ []) []
  lefts-now c =
      made-after script p w next empty takes sends [] changes (λ t s fs. filter is_left_frame fs)
      (λ t s. filter-is-list-map is_left_frame) 1 c
      ∙ ap (λ fs. fs ++ filter is_left_frame (sent p sends 1 c))
      (stayed script p w next empty takes sends [] changes (λ t s fs. filter is_left_frame fs)
      (λ t s. filter-is-list-map is_left_frame) (refl, tt) 1 c)
      ∙ ap (λ fs. filter is_left_frame (frames_to w 1 c) ++ fs)
      (kept-of-all-sent is_left_frame p gives 1 c
      ∙ ap (λ fs. cond (nat_eq c p) fs []) (gives-left n.deeds n.pid n.parent call))

  parting-same : (c : ℕ) → get (directory_of next).partings c ≡ get (directory_of w).partings c
  parting-same c = ap (λ (z : Directory). get z.partings c) same-there

  knows-still : (c : ℕ) → knows_parent script w b.pids c ≡ true → knows_parent script next b.pids c ≡ true
  knows-still c e = ap (λ z. is_known z (Proc (b.pids (forker script c)))) same-there ∙ e

  way-here : HandsOver (knows_parent script next b.pids p) (way_sight next p)
  way-here =
      let shown = way-was.shows
      in record {
        stage = stage-now;
        shows = record {
          has_leavings = leavings-same p ∙ shown.has_leavings;
          has_recalls = recalls-left p
              ∙ tails-same frames.RecallAll (filter is_recall_all (changes.left p 1)) []
              (sym (rest-stays script p 1 w next empty frames.RecallAll sends [] changes
              (λ t s fs. filter is_recall_all fs) (λ t s. filter-is-list-map is_recall_all)) ∙ shown.has_recalls);
          has_parting = parting-same p ∙ shown.has_parting;
        };
        parcel = parcel;
        lefts = lefts-now p
            ∙ ap (λ fs. fs ++ cond (nat_eq p p) (frames.Left parcel ∷ []) []) way-was.lefts
            ∙ ap (λ t. cond t (frames.Left parcel ∷ []) []) (eq-eqb p p refl);
        parent = knows-still p way-was.parent;
      }
    where
      tails-same : (f : Frame) (xs ys : List Frame) → f ∷ xs ≡ f ∷ ys → xs ≡ ys
      tails-same f xs ys e = cc

  way-elsewhere : (c : ℕ) → c ≢ p → SameWay (way_sight w c) (way_sight next c)
  way-elsewhere c d =
      record {
        stage = sym (stage-elsewhere c d);
        parting = sym (parting-same c);
        leavings = sym (leavings-same c);
        recalls = sym (recalls-left c
            ∙ others-stay script p 1 w next empty frames.RecallAll sends [] changes
            (λ t s fs. filter is_recall_all fs) (λ t s. filter-is-list-map is_recall_all) c 1 (inl d));
        lefts = sym (lefts-now c
            ∙ ap (λ t. filter is_left_frame (frames_to w 1 c) ++ cond t (frames.Left parcel ∷ []) []) (ne_eqb c p d)
            ∙ append-nil (filter is_left_frame (frames_to w 1 c)));
      }

  ways-now : (c : ℕ) → 2 ≤ c → c ≤ node_count script
      → Way script b.pids c (knows_parent script next b.pids c) (way_sight next c)
  ways-now c low high =
      elim (cases_eq c p) [
        | inl e ↦
            subst (λ z. Way script b.pids z (knows_parent script next b.pids z) (way_sight next z)) (sym e)
            (over way-here)
        | inr d ↦
            way-stays script b.pids c (knows_parent script w b.pids c) (knows_parent script next b.pids c)
            (way_sight w c) (way_sight next c) (knows-still c) (way-elsewhere c d) (holds.ways c low high)
      ]

  -- ---- the parcels

  bodies-over : AllByRecursion (λ (e : ℕ × Body). is_over_but_for (b.pids p) e ≡ true) n.deeds.processes
  bodies-over =
      all-of-map (λ (e : ℕ × Body). is_over_but_for (b.pids p) e ≡ true) n.deeds.processes rises.processes
      (λ k body there.
      let at = table-of (Proc k) body there
      in let is : body ≡ body_in b.kernel (Proc k) = at.body_is ∙ process-part script w [] b holds k
      in subst (λ (v : Body). is_over_but_for (b.pids p) (k, v) ≡ true) (sym is)
      (over-or-own k (get b.kernel.processes k) (b.pids p)
      (λ row e. node-holds.rows k row (there ∙ ap Some (is ∙ e)) ∙ birth.pid_is)))

  its-parcel : IsParcelOf script b.pids p call parcel
  its-parcel =
      record {
        pid = birth.pid_is;
        parent = birth.parent_is other;
        call_is = refl;
        bodies = n.deeds.processes;
        packed = refl;
        ordered = rises.processes;
        row = row-here.row;
        own = ap (get n.deeds.processes) (sym birth.pid_is) ∙ row-here.here;
        allowed = allowed;
        others = bodies-over;
      }

  its-sender : HasSender script b.pids (stage_of next) (under_way_of next) parcel
  its-sender =
      record {
        node = p;
        call = call;
        stage = stage-now;
        ends_by = ap (λ (m : Node). m.caller.under_way) changes.here ∙ ends.is;
        is_of = its-parcel;
      }

  old-sender : (q : Parcel) → IsParcelIn w [] q → HasSender script b.pids (stage_of next) (under_way_of next) q
  old-sender q there =
      sender-stays script p w next empty takes sends [] changes b.pids q (λ left. absurd (not-left (sym stage ∙ left)))
      (holds.parcels q there)
    where
      not-left : Leaving ≡ Left → ⊥
      not-left e = cc

  parcels-now : (q : Parcel) → IsParcelIn next [] q
      → HasSender script b.pids (stage_of next) (under_way_of next) q
  parcels-now q (left_in c there) =
      elim (was-there script p w next empty takes sends [] changes (λ to f. f ≡ frames.Left q → q ≡ parcel)
      (each-sent (λ s. s.1 ≡ frames.Left q → q ≡ parcel) (λ deed e. absurd (not-left deed e)) parcel-same)
      1 c (frames.Left q) there) [
        | inl old ↦ old-sender q (left_in c old)
        | inr new ↦
            subst (λ r. HasSender script b.pids (stage_of next) (under_way_of next) r) (sym (new.1 refl)) its-sender
      ]
    where
      not-left : (deed : PackedDeed) → frames.GiveBack deed ≡ frames.Left q → ⊥
      not-left deed e = cc

      parcel-same : frames.Left parcel ≡ frames.Left q → q ≡ parcel
      parcel-same e = cc
  parcels-now q (sent_in c there) =
      elim (was-there script p w next empty takes sends [] changes (λ to f. f ≡ frames.ExitTo q → ⊥)
      (each-sent (λ s. s.1 ≡ frames.ExitTo q → ⊥) not-exit no-left)
      c 1 (frames.ExitTo q) there) [
        | inl old ↦ old-sender q (sent_in c old)
        | inr new ↦ absurd (new.1 refl)
      ]
    where
      not-exit : (deed : PackedDeed) → frames.GiveBack deed ≡ frames.ExitTo q → ⊥
      not-exit deed e = cc

      no-left : frames.Left parcel ≡ frames.ExitTo q → ⊥
      no-left e = cc
  parcels-now q (kept_in pid there) =
      old-sender q (kept_in pid (subst (λ z. Contains (held_for z (Proc pid)) (Ending q)) same-there there))
  parcels-now q (at_hand there) = old-sender q (at_hand there)

  -- ---- the families

  awaited-still : (c : ℕ) (place : DeedPlace) → IsAwaited (stage_of w c) place → IsAwaited (stage_of next c) place
  awaited-still c place old =
      elim (cases_eq c p) [
        | inl e ↦
            not-awaited (stage_of next c) place
            (subst (λ s. IsAwaited s place) (ap (stage_of w) e ∙ stage) old)
        | inr d ↦ subst (λ s. IsAwaited s place) (sym (stage-elsewhere c d)) old
      ]

  families-now : (c : ℕ) → b.pids c ≢ 0
      → FamilyHolds script b.pids b.places b.kernel (process_deed deeds-now) (checkpoints_to script next c)
      (stage_of next c) c
  families-now c forked =
      let old : FamilyHolds script b.pids b.places b.kernel (process_deed b.deed) (checkpoints_to script w c)
      (stage_of w c) c = holds.families c forked
      in record {
        process = old.process;
        is = old.is;
        child = old.child;
        where_it_is = where-handed c p other old.process (b.deed (Proc (b.pids c))) old.where_it_is;
        with_parent = parent-handed p (process_deed b.deed) (b.pids (forker script c)) (b.pids c) old.process
            old.with_parent;
        checkpoint = checkpoint-handed script b.pids b.places c p (checkpoints_to script next c)
            (b.deed (Proc (b.pids c)))
            (subst (λ fs. CheckpointIn script b.pids b.places c fs (b.deed (Proc (b.pids c)))) (sym frames-same)
            old.checkpoint);
        fresh = fresh-handed p old.process (b.deed (Proc (b.pids c))) old.fresh;
        awaited = awaited-handed p (stage_of next c) (b.deed (Proc (b.pids c)))
            (awaited-still c (b.deed (Proc (b.pids c))) old.awaited);
        children = old.children;
      }
    where
      frames-same : checkpoints_to script next c ≡ checkpoints_to script w c
      frames-same =
          made-same script p w next empty takes sends [] changes (λ t s fs. filter is_checkpoint fs)
          (λ t s. filter-is-list-map is_checkpoint) (refl, tt)
          (each-sent (λ s. filter is_checkpoint (s.1 ∷ []) ≡ []) (λ deed. refl) refl) c (forker script c)

  -- ---- all else

  keys-now : KeysHold (node_of next 1).leader b.kernel
  keys-now =
      let keys : KeysHold (node_of w 1).leader b.kernel = holds.keys
      in record {
        queues = λ key. ap (λ (m : Node). get m.leader.queue_keys key) (changes.others 1 (λ e. other (sym e)))
            ∙ keys.queues key;
        sets = λ key. ap (λ (m : Node). get m.leader.set_keys key) (changes.others 1 (λ e. other (sym e)))
            ∙ keys.sets key;
      }

  ranges-same : (kind : Kind) → for_kind (directory_of next).ranges kind ≡ for_kind (directory_of w).ranges kind
  ranges-same kind = ap (λ (z : Directory). for_kind z.ranges kind) same-there

  -- All that the node held is on its way to the leader.
  pub recall-all-keeps : KeepsAs script w (events.Take p 1) moved
  recall-all-keeps =
      record {
        next = next;
        is_step = take-steps script w p 1 frames.RecallAll rest after holds.shape h rule refl;
        holds = record {
          shape = changes.shape;
          history = holds.history;
          whole = whole-unmoved script w next [] [] Nothing b deeds-now p empty takes sends holds changes refl;
          leading = subst (λ (z : Directory). IsLeading z) (sym same-there) holds.leading;
          pids = holds.pids;
          nodes = nodes-now;
          frames_fit = frames-still-fit script p w next empty takes sends [] changes more holds.frames_fit
              (each-sent (λ s. MayBe script (is_born_in next) s.0 p s.1) (λ deed. refl) refl)
              (each-sent (λ s. s.0 ≢ p) (λ deed e. other (sym e)) (λ e. other (sym e)));
          names = names;
          calls = calls-now;
          cancels = cancels-now;
          ways = ways-now;
          parcels = parcels-now;
          kinds = λ kind. kind-stays (is_born_in w) (is_born_in next) _ _ more
              (kind-left-alone script p w next empty takes sends [] changes b.kernel b.kernel kind (λ number. refl)
              refl (ranges-same kind) (refl, tt)
              (each-sent (λ s. lease_in kind s.1 ≡ []) (λ deed. refl) refl)) (holds.kinds kind);
          few = λ kind. few-still script p w next empty takes sends [] changes b.call b.call kind refl
              (ranges-same kind) (λ y. refl) (holds.few kind);
          keys = keys-now;
          families = families-now;
        };
      }

-- whoever is asked, and by whomever
pub any-recall-all-keeps : (script : Script) (w : World) (b : Beside) → Holds script w [] b → (p q : ℕ)
    (rest : List Frame) → Heads script w p q frames.RecallAll rest → AreRising (deeds_at w p)
    → KeepsAs script w (events.Take p q) (record b { deed = λ name. handed p (is_object name) (b.deed name) })
any-recall-all-keeps script w b holds p q rest h rises =
    let by-leader : q ≡ 1 =
    head-may-be script w p q frames.RecallAll rest h (is_born_in w) holds.frames_fit
    in subst
    (λ s. KeepsAs script w (events.Take p s) (record b { deed = λ name. handed p (is_object name) (b.deed name) }))
    (sym by-leader)
    (recall-all-keeps script w b holds p rest
    (subst (λ s. Heads script w p s frames.RecallAll rest) by-leader h) rises)
