-- The parent of a process that ends, where it lives: its deed is at its own node, and where it waits for a child, that
-- is the call under way there, with which it is parked.
use Rattle.std.proofs.Common.{◌≡◌, ℕ, Bool, true, false, Option, Some, None, is_some, refl, ap, sym, subst, ◌∙◌, inl, inr, not, ◌&&◌, ◌⊎◌, List, if◌then◌else◌, ◌<◌, ◌≢◌, ◌≤◌, [], ◌∷◌}
use Rattle.std.proofs.lemmas.Bool.{false≢true, eq-eqb}
use Rattle.pico_base.specs.declared.call.Call.{Call}
use Rattle.pico_base.specs.declared.call.Call.TheVariants as calls
use Rattle.pico_base.specs.declared.numbers.Kind.TheVariants as kinds
use Rattle.pico_base.specs.declared.numbers.Name.TheVariants.{Proc}
use Rattle.pico_base.specs.declared.script.Script.{Script}
use Rattle.pico_base.specs.Home.{home_of}
use Rattle.pico_base.specs.declared.reply.Errno.TheVariants.{Echild}
use Rattle.pico_base.specs.declared.reply.Reply.{Reply}
use Rattle.pico_base.specs.declared.reply.Reply.TheVariants as replies
use Rattle.rpc_frame.specs.declared.deed.Parcel.{Parcel}
use Rattle.number_maps.specs.Maps.{get}
use Rattle.kernel_model.specs.Kernel.{Kernel, living_at}
use Rattle.kernel_model.specs.Row.{Row, lists, Found, NoChild, NotYet, Waited}
use Rattle.kernel_model.specs.Kernel as kernel
use Rattle.kernel_model.specs.Row as plain_rows
use Rattle.kernel_laws.proofs.People.{from-living}
use Rattle.waiting_model.specs.Marks.{Alive, awaited_children}
use Rattle.waiting_model.specs.Kernel as whole_kernels
use Rattle.waiting_model.specs.declared.callers.Wake.{Wake}
use Rattle.waiting_model.specs.ProcessCalls.{wakes_of_parent, wakes_under}
use Rattle.node_model.specs.declared.held.Held.{Held}
use Rattle.node_model.specs.Bodies.{Living as LivingBody, AQueue, ASet, Body, Ended, Gone, Removed}
use Rattle.node_model.specs.Parcels.{Committed, ending_of, parent_with}
use Rattle.world_model.specs.Ends.{waits_for_child}
use Rattle.world_model.specs.World.{World, node_count}
use Rattle.world_laws.specs.Places.{CallPlace, AsksLease, HasLease, Parked, Waits, InAnswer, Beside, DeedPlace, InTable}
use Rattle.world_laws.specs.Callers.{may_be_in, CallHolds, HasCallOrNone, call_sight, HasCall, IsSoFar, IsToBeMade}
use Rattle.world_laws.specs.Wholes.{HasMarksOf, HasMarks, HasWhole, under_way_at}
use Rattle.world_laws.specs.Deeds.{DeedsAreRead}
use Rattle.world_laws.specs.Families.{FamilyHolds, IsWhereFor, NodeHolds, checkpoints_to}
use Rattle.world_laws.specs.Invariant.{HoldsOwing, process_deed}
use Rattle.world_laws.proofs.Wholes.{LivesAlike, lives-alike}
use Rattle.world_laws.specs.Cancels.{Owing}
use Rattle.world_laws.specs.Names.{forker}
use Rattle.world_laws.specs.Sights.{is_born_in, node_of, stage_of}
use Rattle.route_laws.proofs.exits.Parcels.{HasParcel, not-first, parcel-forked, bodies, part}
use Rattle.route_laws.proofs.exits.Exits.{awaits, child-of, parent-here, parent-is, parent_body, wakes-or-not, ends_as}
use Rattle.entry_laws.specs.Entering.{HasRow}
use Rattle.entry_laws.proofs.Bodies.{body-living}
use Rattle.entry_laws.proofs.Ends.{exit_comes_to}
use Rattle.rule_laws.proofs.ends.RecallAlls.{deeds_at}
use Rattle.rule_laws.proofs.ends.Taken.{each_with}
use Rattle.serve_laws.specs.Ends.{WakesOrNot, WakesThen}

some-same : {A : Type 0} {u v : A} → Some u ≡ Some v → u ≡ v
some-same e = cc

none-is-some : {A : Type 0} (a : A) → None ≡ Some a → ⊥
none-is-some a e = cc

-- ---- which call a process is parked with

-- The place of a call that waits for a child: a process itself makes it, and asks nobody for it.
pub own-waits-parked : (place : CallPlace) (pid : ℕ) (child : Option ℕ) (nohang : Bool)
    → may_be_in place (home_of pid (calls.WaitPid child nohang)) (calls.WaitPid child nohang) ≡ true
    → (place ≡ Parked) × (nohang ≡ false)
own-waits-parked Parked pid child false h = (refl, refl)
own-waits-parked Parked pid child true h = absurd (false≢true h)
own-waits-parked (AsksLease kinds.Proc) pid child nohang h = absurd (false≢true h)
own-waits-parked (AsksLease kinds.Msg) pid child nohang h = absurd (false≢true h)
own-waits-parked (AsksLease kinds.Sem) pid child nohang h = absurd (false≢true h)
own-waits-parked (HasLease kinds.Proc first) pid child nohang h = absurd (false≢true h)
own-waits-parked (HasLease kinds.Msg first) pid child nohang h = absurd (false≢true h)
own-waits-parked (HasLease kinds.Sem first) pid child nohang h = absurd (false≢true h)
own-waits-parked place pid child nohang h = absurd (false≢true h)

unparked : (o : Option Call) (t : Bool) → (not (is_some o) && t) ≡ true → o ≡ None
unparked None t h = refl
unparked (Some call) t h = absurd (false≢true h)

-- a process that isn't parked with a wait for a child awaits none
marked-with : (place : CallPlace) (call : Call) (a : Alive) → HasMarksOf place call a
    → (a.marks.parked ≡ Some call) ⊎ (a.marks.parked ≡ None)
marked-with Parked call a h = inl h
marked-with (Waits name) call a h = inl h
marked-with (InAnswer from reply) call a h = inr h
marked-with place call a h = inr (unparked a.marks.parked _ h)

awaits-none : (o : Option Call) (call : Call) → awaited_children (Some call) ≡ None → (o ≡ Some call) ⊎ (o ≡ None)
    → awaited_children o ≡ None
awaits-none o call none (inl e) = ap awaited_children e ∙ none
awaits-none o call none (inr e) = ap awaited_children e

-- The process awaits the children that the call under way at its node waits for.
awaited-by : (place : CallPlace) (pid : ℕ) (call : Call) (a : Alive)
    → may_be_in place (home_of pid call) call ≡ true → HasMarksOf place call a
    → awaited_children a.marks.parked ≡ awaited_children (waits_for_child (Some call))
awaited-by place pid (calls.WaitPid child false) a fits marks =
    let is = own-waits-parked place pid child false fits
    in ap awaited_children (subst (λ z. HasMarksOf z (calls.WaitPid child false) a) is.0 marks)
awaited-by place pid (calls.WaitPid child true) a fits marks =
    absurd (false≢true (sym (own-waits-parked place pid child true fits).1))
awaited-by place pid call a fits marks = awaits-none a.marks.parked call refl (marked-with place call a marks)

-- as a node wakes its own process
abbrev pub own_wake : ℕ → Reply → Wake
own_wake parent reply = record { caller = 0; ticket = 0; pid = parent; reply = reply }

-- ---- the parent

-- It lives, at this node, whose process it is, and lists the child.
pub record ParentLives (script : Script) (w : World) (b : Beside) (parcel : Parcel) (x : ℕ) (row : Row) : Type 0 where
  pub low : 1 ≤ x
  pub high : x ≤ node_count script
  pub pid_is : parcel.parent ≡ b.pids x
  pub node_pid : (node_of w x).pid ≡ parcel.parent
  pub alive : plain_rows.Alive
  pub lives : living_at b.kernel parcel.parent ≡ Some alive
  pub row_is : alive.row ≡ row
  pub listed : lists row.family parcel.pid ≡ true

module _ (script : Script) (w : World) (hand : List Held) {owes : Owing} (b : Beside)
    (holds : HoldsOwing script w hand owes b) (parcel : Parcel) (c : ℕ) (call : Call) (place : DeedPlace)
    (parcel_is : HasParcel script w b parcel c call place) (reads : DeedsAreRead b.kernel b.body) (x : ℕ)
    (parent_at : b.deed (Proc parcel.parent) ≡ InTable x) where
  abbrev k : Kernel
  k = b.kernel

  module _ (row : Row)
      (is : parent_body script w hand b holds parcel c call place parcel_is reads x parent_at ≡ LivingBody row) where
    pub has-row : HasRow k parcel.parent row
    has-row = body-living k parcel.parent row is

    up : (b.pids (forker script c) ≢ 0) × (forker script c < c)
    up =
        let pids = holds.pids
        in pids.forked c (parcel-forked script w hand b holds parcel c call place parcel_is)
        (not-first script w hand b holds parcel c call place parcel_is)

    parent-pid : parcel.parent ≡ b.pids (forker script c)
    parent-pid = parent-is script w hand b holds parcel c call place parcel_is reads x parent_at

    family : FamilyHolds script b.pids b.places k (process_deed b.deed) (checkpoints_to script w (forker script c))
        (stage_of w (forker script c)) (forker script c)
    family = holds.families (forker script c) up.0

    process-is : family.process ≡ kernel.Living has-row.alive
    process-is =
        some-same
        (sym family.is ∙ ap (get k.processes) (sym parent-pid)
        ∙ from-living k.processes parcel.parent has-row.alive has-row.lives)

    at-home : x ≡ forker script c
    at-home =
        subst (λ d. IsWhereFor (forker script c) d (kernel.Living has-row.alive))
        (ap (λ q. b.deed (Proc q)) (sym parent-pid) ∙ parent_at)
        (subst (λ v. IsWhereFor (forker script c) (b.deed (Proc (b.pids (forker script c)))) v) process-is
        family.where_it_is)

    range : (1 ≤ x) × (x ≤ node_count script)
    range =
        let pids = holds.pids
        in subst (λ y. (1 ≤ y) × (y ≤ node_count script)) (sym at-home) (pids.nodes (forker script c) up.0)

    -- A living parent lives there.
    pub parent-lives : ParentLives script w b parcel x row
    parent-lives =
        let n : NodeHolds script b.pids (is_born_in w) x (node_of w x) = holds.nodes x range.0 range.1
        in let child = child-of script w hand b holds parcel c call place parcel_is reads x parent_at
        in record {
          low = range.0;
          high = range.1;
          pid_is = parent-pid ∙ ap b.pids (sym at-home);
          node_pid = sym (n.rows parcel.parent row
              (parent-here script w hand b holds parcel c call place parcel_is reads x parent_at ∙ ap Some is));
          alive = has-row.alive;
          lives = has-row.lives;
          row_is = has-row.row_is;
          listed = child.listed row is;
        }

    abbrev under_way : Option Call
    under_way = under_way_at w x

    abbrev here : CallHolds script x (is_born_in w) (call_sight w hand b x)
    here = holds.calls x range.0 range.1

    -- what its node takes it to wait for
    pub awaits-is : awaits script w hand b holds parcel c call place parcel_is reads x parent_at ≡ waits_for_child
        under_way
    awaits-is = ap (λ t. if t then waits_for_child under_way else None)
        (eq-eqb parcel.parent (node_of w x).pid (sym parent-lives.node_pid))

    -- in the kernel in which callers wait
    module _ (whole : HasWhole w b) where
      abbrev pub parent_alike : LivesAlike b.whole parcel.parent has-row.alive
      parent_alike = lives-alike b.whole k parcel.parent has-row.alive whole.alike has-row.lives

      marks : HasMarks (b.call x) under_way parent_alike.alive
      marks =
          whole.marks x parent_alike.alive
          (ap (whole_kernels.living_at b.whole) (sym parent-lives.pid_is) ∙ parent_alike.lives)

      -- it awaits the same children
      pub awaits-same : awaited_children parent_alike.alive.marks.parked
          ≡ awaited_children (awaits script w hand b holds parcel c call place parcel_is reads x parent_at)
      awaits-same = by-call under_way refl here.call marks ∙ ap awaited_children (sym awaits-is)
        where
          by-call : (o : Option Call) → under_way ≡ o
              → HasCallOrNone script x (is_born_in w) (call_sight w hand b x) o → HasMarks (b.call x) o
              parent_alike.alive
              → awaited_children parent_alike.alive.marks.parked ≡ awaited_children (waits_for_child o)
          by-call None e none m = ap awaited_children m
          by-call (Some one) e has m = awaited-by (b.call x) (node_of w x).pid one parent_alike.alive has.home m

    -- ---- where it waits

    -- The call under way at its node is a `waitpid`, with which it is parked, and which it may make.
    pub record ParentWaits (waits : Call) : Type 0 where
      pub under_way_is : under_way_at w x ≡ Some waits
      pub child : Option ℕ
      pub waits_for : waits ≡ calls.WaitPid child false
      pub parked : b.call x ≡ Parked
      pub made : IsToBeMade script x (call_sight w hand b x) waits

    record WaitsAs (o : Option Call) (waits : Call) : Type 0 where
      under_way_as : o ≡ Some waits
      for_child : Option ℕ
      is_as : waits ≡ calls.WaitPid for_child false

    waits-as : (o : Option Call) (waits : Call) → waits_for_child o ≡ Some waits → WaitsAs o waits
    waits-as None waits h = absurd (none-is-some waits h)
    waits-as (Some (calls.WaitPid child false)) waits h =
        record { under_way_as = h; for_child = child; is_as = sym (some-same h) }
    waits-as (Some (calls.WaitPid child true)) waits h = absurd (none-is-some waits h)
    waits-as (Some call) waits h = absurd (none-is-some waits h)

    pub parent-waits : (waits : Call)
        → awaits script w hand b holds parcel c call place parcel_is reads x parent_at ≡ Some waits → ParentWaits waits
    parent-waits waits aw =
        let s : WaitsAs under_way waits = waits-as under_way waits (sym awaits-is ∙ aw)
        in let has : HasCall script x (is_born_in w) (call_sight w hand b x) waits =
        subst (λ o. HasCallOrNone script x (is_born_in w) (call_sight w hand b x) o) s.under_way_as here.call
        in let is = own-waits-parked (b.call x) (node_of w x).pid s.for_child false
        (subst (λ z. may_be_in (b.call x) (home_of (node_of w x).pid z) z ≡ true) s.is_as has.home)
        in record {
          under_way_is = s.under_way_as;
          child = s.for_child;
          waits_for = s.is_as;
          parked = is.0;
          made = subst (λ z. IsSoFar script x (call_sight w hand b x) waits z) is.0 has.so_far;
        }

  -- ---- whom the end wakes

  abbrev end_comes_to : Committed
  end_comes_to = ends_as script w hand b holds parcel c call place parcel_is reads x parent_at

  abbrev pub bereft : Committed
  bereft =
      exit_comes_to parcel (each_with (part script w hand b holds parcel c call place parcel_is)
      (bodies script w hand b holds parcel c call place parcel_is)) None
      (parent_body script w hand b holds parcel c call place parcel_is reads x parent_at)

  -- Nobody; or the parent, which lives and waits, and in line does so at once.
  pub data WhomItWakes : Type 0 where
    nobody : end_comes_to.wakes ≡ [] → end_comes_to.changes ≡ bereft.changes → WhomItWakes
    the_parent : (row : Row) (waits : Call) (reply : Reply)
        → parent_body script w hand b holds parcel c call place parcel_is reads x parent_at ≡ LivingBody row
        → awaits script w hand b holds parcel c call place parcel_is reads x parent_at ≡ Some waits
        → end_comes_to.wakes ≡ own_wake parcel.parent reply ∷ []
        → WakesThen parcel waits (deeds_at w x) end_comes_to bereft (own_wake parcel.parent reply) → WhomItWakes

  no-wakes : (body : Body) → wakes_under parcel.pid (ending_of parcel.call) (parent_with parcel.parent None body) ≡ []
  no-wakes (LivingBody row) = refl
  no-wakes body = refl

  -- who is woken is a living parent
  record WokenParent (body : Body) (v : Wake) : Type 0 where
    row : Row
    lives : body ≡ LivingBody row
    is : v ≡ own_wake parcel.parent v.reply

  first-same : (a v : Wake) → a ∷ [] ≡ v ∷ [] → a ≡ v
  first-same a v h = cc

  none-first : (v : Wake) → [] ≡ v ∷ [] → ⊥
  none-first v h = cc

  wakes-it : (found : Waited) (v : Wake) → wakes_of_parent parcel.parent found ≡ v ∷ []
      → v ≡ own_wake parcel.parent v.reply
  wakes-it (Found child ending) v h =
      sym (first-same (own_wake parcel.parent (replies.Child child ending)) v h)
      ∙ ap (λ (z : Wake). own_wake parcel.parent z.reply)
      (first-same (own_wake parcel.parent (replies.Child child ending)) v h)
  wakes-it NotYet v h = absurd (none-first v h)
  wakes-it NoChild v h =
      sym (first-same (own_wake parcel.parent (replies.Fail Echild)) v h)
      ∙ ap (λ (z : Wake). own_wake parcel.parent z.reply)
      (first-same (own_wake parcel.parent (replies.Fail Echild)) v h)

  woken-parent : (waits : Option Call) (body : Body) (v : Wake)
      → wakes_under parcel.pid (ending_of parcel.call) (parent_with parcel.parent waits body) ≡ v ∷ []
      → WokenParent body v
  woken-parent waits (LivingBody row) v h = record { row = row; lives = refl; is = wakes-it _ v h }
  woken-parent waits (Ended ending) v h = absurd (none-first v h)
  woken-parent waits Gone v h = absurd (none-first v h)
  woken-parent waits (AQueue q) v h = absurd (none-first v h)
  woken-parent waits (ASet s) v h = absurd (none-first v h)
  woken-parent waits Removed v h = absurd (none-first v h)

  wakes-by : (waits : Call)
      → awaits script w hand b holds parcel c call place parcel_is reads x parent_at ≡ Some waits → (wakes : List Wake)
      → end_comes_to.wakes ≡ wakes → WakesOrNot parcel waits (deeds_at w x) end_comes_to bereft wakes → WhomItWakes
  wakes-by waits aw [] is h = nobody is h
  wakes-by waits aw (v ∷ []) is h =
      let p : WokenParent (parent_body script w hand b holds parcel c call place parcel_is reads x parent_at) v =
      woken-parent (awaits script w hand b holds parcel c call place parcel_is reads x parent_at)
      (parent_body script w hand b holds parcel c call place parcel_is reads x parent_at) v is
      in the_parent p.row waits v.reply p.lives aw (is ∙ ap (λ z. z ∷ []) p.is)
      (subst (λ z. WakesThen parcel waits (deeds_at w x) end_comes_to bereft z) p.is h)
  wakes-by waits aw (v ∷ u ∷ wakes) is h = absurd h

  pub whom-it-wakes : WhomItWakes
  whom-it-wakes = by (awaits script w hand b holds parcel c call place parcel_is reads x parent_at) refl
    where
      by : (o : Option Call) → awaits script w hand b holds parcel c call place parcel_is reads x parent_at ≡ o
          → WhomItWakes
      by None e =
          nobody
          (ap (λ z. wakes_under parcel.pid (ending_of parcel.call) (parent_with parcel.parent z
          (parent_body script w hand b holds parcel c call place parcel_is reads x parent_at))) e
          ∙ no-wakes (parent_body script w hand b holds parcel c call place parcel_is reads x parent_at))
          (ap (λ z. let m : Committed = exit_comes_to parcel
          (each_with (part script w hand b holds parcel c call place parcel_is)
          (bodies script w hand b holds parcel c call place parcel_is)) z
          (parent_body script w hand b holds parcel c call place parcel_is reads x parent_at) in m.changes) e)
      by (Some waits) e =
          wakes-by waits e end_comes_to.wakes refl
          (wakes-or-not script w hand b holds parcel c call place parcel_is reads x parent_at waits e)
