-- The end of a parcel's process at the node where its parent's deed is: the exit is carried out there, as the kernel's,
-- and the node has the deeds of the parcel's names and of the parent afterwards, with the next kernel's parts.
use Rattle.std.proofs.Common.{◌≡◌, ◌≢◌, ℕ, Bool, true, false, List, [], ◌∷◌, ◌++◌, Option, Some, None, is_some, option_map, Contains, refl, ap, sym, subst, ◌∙◌, inl, inr}
use Rattle.std.proofs.lemmas.Bool.{false≢true}
use Rattle.pico_base.specs.declared.call.Call.{Call}
use Rattle.pico_base.specs.declared.call.Call.TheVariants as calls
use Rattle.pico_base.specs.declared.numbers.Name.{Name}
use Rattle.pico_base.specs.declared.numbers.Name.TheVariants.{Proc}
use Rattle.pico_base.specs.declared.reply.Ending.{Ending}
use Rattle.pico_base.specs.declared.reply.Reply.TheVariants as replies
use Rattle.pico_base.specs.declared.reply.Entry.{Entry}
use Rattle.pico_base.specs.declared.script.Script.{Script}
use Rattle.rpc_frame.specs.declared.deed.Parcel.{Parcel}
use Rattle.number_maps.specs.Maps.{Numbered, get}
use Rattle.kernel_laws.proofs.People.{from-living}
use Rattle.kernel_model.specs.Row.{Alive, Row, ended_child, lists}
use Rattle.kernel_model.specs.Kernel.{Kernel, Process, living_at}
use Rattle.kernel_model.specs.Kernel as kernel
use Rattle.kernel_model.specs.Fitting.{Place, Places, IsDue, move_on, places_after}
use Rattle.kernel_model.specs.Script.{is_fork}
use Rattle.waiting_model.specs.Linear.{line_of}
use Rattle.entry_laws.specs.Entering.{HasHistory, HasRow, IsChildIn, IsChildOf, MayMake}
use Rattle.entry_laws.proofs.Bodies.{body-living}
use Rattle.entry_laws.proofs.Ends.{MayEnd, EndsHere, ends-here, exit_changes, commits, ends-wake, exit_comes_to}
use Rattle.entry_laws.proofs.History.{history-goes-on, may-make-from, place-moves, places-stay}
use Rattle.entry_laws.proofs.Others.{goes}
use Rattle.entry_laws.proofs.Places.{end-is-last}
use Rattle.entry_laws.proofs.Places as places_of
use Rattle.node_model.specs.declared.held.Held.{Held}
use Rattle.node_model.specs.Kinds.{get_named, put_all}
use Rattle.node_model.specs.Caller.{Caller, caller_place}
use Rattle.node_model.specs.Directory.{has_deed_of}
use Rattle.node_model.specs.Bodies.{Body, Living as LivingBody, Deeds, body_in, process_body}
use Rattle.node_model.specs.Parcels.{ending_of, fitting_bodies, Committed, commit_exit}
use Rattle.node_model.specs.Entries.{entry_with, outcome_with}
use Rattle.world_model.specs.Step.{Step}
use Rattle.world_model.specs.Lives.{is_end}
use Rattle.world_model.specs.Ends.{enter_exit, exit_with, exit_here, parked_parent}
use Rattle.world_model.specs.World.{World}
use Rattle.world_model.specs.Node.{Node}
use Rattle.world_laws.specs.Places.{DeedPlace, InTable, Beside}
use Rattle.world_laws.specs.Sights.{node_of, stage_of, is_born_in}
use Rattle.world_laws.specs.Names.{NameHolds, name_sight, held_as, forker}
use Rattle.world_laws.specs.Callers.{call_sight, IsToBeMade}
use Rattle.world_laws.specs.Families.{FamilyHolds, IsWithParent, checkpoints_to}
use Rattle.world_laws.specs.Invariant.{process_deed, HoldsOwing}
use Rattle.world_laws.specs.Deeds.{DeedsAreRead}
use Rattle.world_laws.proofs.NameFacts.{held-here}
use Rattle.world_laws.specs.Cancels.{Owing}
use Rattle.rule_laws.proofs.ends.RecallAlls.{deeds_at}
use Rattle.rule_laws.proofs.ends.Taken.{each_with, each-gets}
use Rattle.route_laws.proofs.exits.Parcels.{HasParcel, IsOnItsWay, bodies, part, has-body, own-in-parcel, parcel-forked, not-first, OwnLives, own-lives, own-living, own-part, own-family, end-to-be-made, is-an-end, parcel-fits, parcel-reads}
use Rattle.route_laws.proofs.exits.EndLeaves.{EndLeaves}
use Rattle.route_laws.proofs.exits.Parts.{process-part}
use Rattle.serve_laws.specs.Ends.{WakesOrNot}

some-same : {A : Type 0} {u v : A} → Some u ≡ Some v → u ≡ v
some-same e = cc

none-is-some : {A : Type 0} (a : A) → None ≡ Some a → ⊥
none-is-some a e = cc

-- an end is its process's last call, and no fork
pub ends-last : (call : Call) → is_end call ≡ true → places_of.is_end call ≡ true
ends-last (calls.Exit status) h = refl
ends-last (calls.Killed sig) h = refl
ends-last call h = absurd (false≢true h)

-- it forks nothing
pub end-no-fork : (call : Call) → is_end call ≡ true → is_fork call ≡ false
end-no-fork (calls.Exit status) h = refl
end-no-fork (calls.Killed sig) h = refl
end-no-fork call h = absurd (false≢true h)

module _ (script : Script) (w : World) (hand : List Held) {owes : Owing} (b : Beside)
    (holds : HoldsOwing script w hand owes b)
    (parcel : Parcel) (c : ℕ) (call : Call) (place : DeedPlace)
    (parcel_is : HasParcel script w b parcel c call place) (reads : DeedsAreRead b.kernel b.body) (x : ℕ)
    (parent_at : b.deed (Proc parcel.parent) ≡ InTable x) where
  abbrev k : Kernel
  k = b.kernel

  abbrev deeds : Deeds
  deeds = deeds_at w x

  abbrev its : Numbered Body
  its = bodies script w hand b holds parcel c call place parcel_is

  abbrev of : ℕ → Body
  of = part script w hand b holds parcel c call place parcel_is

  on_way : IsOnItsWay c place
  on_way = parcel_is.on_way

  -- its number is that of the node's process
  pub pid-is : parcel.pid ≡ b.pids c
  pid-is = let p = parcel_is.is_of in p.pid

  abbrev lives : OwnLives script w hand b holds parcel c call place parcel_is
  lives = own-lives script w hand b holds parcel c call place parcel_is

  -- the row of the parcel's process
  abbrev pub end_row : Row
  end_row = lives.alive.row

  -- and its parent's body
  abbrev pub parent_body : Body
  parent_body = of parcel.parent

  known : (name : Name) → NameHolds script b.pids (is_born_in w) name (name_sight script w hand b name)
  known name = holds.names name

  -- ---- what the node has

  -- none of the parcel's names
  pub none-here : (q : ℕ) → has_deed_of (Proc q) parcel ≡ true → get deeds.processes q ≡ None
  none-here q e =
      let n = known (Proc q)
      in n.tables x ∙ ap (λ d. held_as d (b.body (Proc q)) x) (parcel_is.deeds (Proc q) e)
      ∙ on_way.in_no_table (b.body (Proc q)) x

  -- but the parent's
  pub parent-here : get_named deeds (Proc parcel.parent) ≡ Some parent_body
  parent-here =
      let n = known (Proc parcel.parent)
      in n.tables x ∙ ap (λ v. held_as (b.deed (Proc parcel.parent)) v x)
      (process-part script w hand b parcel.parent holds)
      ∙ ap (λ d. held_as d parent_body x) parent_at ∙ held-here x parent_body

  -- the parent isn't in the parcel
  pub parent-not-in : has_deed_of (Proc parcel.parent) parcel ≡ false
  parent-not-in = by-test (has_deed_of (Proc parcel.parent) parcel) refl
    where
      by-test : (t : Bool) → has_deed_of (Proc parcel.parent) parcel ≡ t
          → has_deed_of (Proc parcel.parent) parcel ≡ false
      by-test false e = e
      by-test true e =
          absurd (none-is-some parent_body (sym (none-here parcel.parent e) ∙ parent-here))

  -- ---- the process

  -- its parent is the process of the node that forked it
  pub parent-is : parcel.parent ≡ b.pids (forker script c)
  parent-is = let p = parcel_is.is_of in p.parent

  abbrev family : FamilyHolds script b.pids b.places k (process_deed b.deed) (checkpoints_to script w c)
      (stage_of w c) c
  family = own-family script w hand b holds parcel c call place parcel_is

  made : IsToBeMade script c (call_sight w hand b c) call
  made = end-to-be-made script w hand b holds parcel c call place parcel_is

  call-is : parcel.call ≡ call
  call-is = let p = parcel_is.is_of in p.call_is

  -- it may make its last call
  pub may-exit : MayMake k parcel.pid parcel.call
  may-exit =
      subst (λ q. MayMake k q parcel.call) (sym pid-is)
      (subst (λ z. MayMake k (b.pids c) z) (sym call-is)
      (may-make-from script b.lines k b.places (b.pids c) call made.alive holds.history made.lives made.may))

  -- it has this row
  pub own-row : body_in k (Proc parcel.pid) ≡ LivingBody end_row
  own-row =
      ap (λ q. body_in k (Proc q)) pid-is ∙ own-part script w hand b holds parcel c call place parcel_is

  -- a process of the parcel is read as the kernel's part
  pub gets : (q : ℕ) → has_deed_of (Proc q) parcel ≡ true → get (each_with of its) q ≡ Some (of q)
  gets q e = by-body (get its q) refl
      (sym (has-body script w hand b holds parcel c call place parcel_is q) ∙ e)
    where
      by-body : (o : Option Body) → get its q ≡ o → is_some (get its q) ≡ true
          → get (each_with of its) q ≡ Some (of q)
      by-body (Some v) g h = each-gets of its q v g
      by-body None g h = absurd (false≢true (sym (ap is_some g) ∙ h))

  -- its ended children are in its parcel
  pub child-in : (child : ℕ) (ending : Ending) → Contains end_row.family.ended (ended_child child ending)
      → (has_deed_of (Proc child) parcel ≡ true) × (get k.processes child ≡ Some (kernel.Ended ending))
  child-in child ending listed =
      let living = own-living script w hand b holds parcel c call place parcel_is
      in let m : MayMake k parcel.pid parcel.call = may-exit
      in let over = (m.valid.alive (b.pids c) lives.alive living).ended child ending listed
      in let of_it = family.children lives.alive child living (inr (ending, listed))
      in (in-it of_it.0 of_it.1 of_it.2 of_it.3 over, over)
    where
      in-it : (d : ℕ) → forker script d ≡ c → b.pids d ≡ child → child ≢ 0
          → get k.processes child ≡ Some (kernel.Ended ending) → has_deed_of (Proc child) parcel ≡ true
      in-it d forks is some over =
          let its_family : FamilyHolds script b.pids b.places k (process_deed b.deed) (checkpoints_to script w d)
          (stage_of w d) d = holds.families d (λ z. some (sym is ∙ z))
          in let process = some-same (sym its_family.is ∙ ap (get k.processes) is ∙ over)
          in let with_parent : b.deed (Proc (b.pids d)) ≡ b.deed (Proc (b.pids (forker script d))) =
          subst (λ v. IsWithParent (process_deed b.deed) (b.pids (forker script d)) (b.pids d) v) process
          its_family.with_parent
          in parcel_is.all (Proc child)
          (ap (λ q. b.deed (Proc q)) (sym is) ∙ with_parent ∙ ap (λ g. b.deed (Proc (b.pids g))) forks
          ∙ parcel_is.deeds (Proc (b.pids c))
          (own-in-parcel script w hand b holds parcel c call place parcel_is))

  pub child-of : IsChildOf k parcel.pid parcel.parent parent_body
  child-of =
      record {
        is = refl;
        listed = λ row is.
            let a : HasRow k parcel.parent row = body-living k parcel.parent row is
            in ap (λ (r : Row). lists r.family parcel.pid) (sym a.row_is)
            ∙ ap (lists a.alive.row.family) pid-is
            ∙ its-child family.process family.is
            (family.child (not-first script w hand b holds parcel c call place parcel_is)) a.alive
            (ap (living_at k) (sym parent-is) ∙ a.lives);
        only = λ p a is_living lists_it.
            let is = from-living k.processes p a is_living
            in let pids = holds.pids
            in let g = pids.there p (kernel.Living a) is
            in only-one p g.0 g.1 g.2 a (ap (living_at k) g.1 ∙ is_living) lists_it;
      }
    where
      its-child : (v : Process) → get k.processes (b.pids c) ≡ Some v
          → IsChildIn k (b.pids (forker script c)) (b.pids c) v → (a : Alive)
          → living_at k (b.pids (forker script c)) ≡ Some a → lists a.row.family (b.pids c) ≡ true
      its-child v is child a parent_lives =
          subst (λ z. IsChildIn k (b.pids (forker script c)) (b.pids c) z)
          (some-same (sym is ∙ lives.there)) child a parent_lives

      only-one : (p g : ℕ) → b.pids g ≡ p → p ≢ 0 → (a : Alive) → living_at k (b.pids g) ≡ Some a
          → lists a.row.family parcel.pid ≡ true → p ≡ parcel.parent
      only-one p g is some a is_living lists_it =
          let its_family : FamilyHolds script b.pids b.places k (process_deed b.deed) (checkpoints_to script w g)
          (stage_of w g) g = holds.families g (λ z. some (sym is ∙ z))
          in let d = its_family.children a parcel.pid is_living (inl lists_it)
          in let pids = holds.pids
          in let same : c ≡ d.0 =
          pids.apart c d.0 (parcel-forked script w hand b holds parcel c call place parcel_is)
          (sym pid-is ∙ sym d.2)
          in sym is ∙ ap b.pids (sym d.1) ∙ ap (λ y. b.pids (forker script y)) (sym same) ∙ sym parent-is

  -- The end is one that the node's deeds allow.
  pub may-end : MayEnd k deeds parcel (each_with of its) end_row parent_body
  may-end =
      record {
        fits = parcel-fits script w hand b holds parcel c call place parcel_is reads deeds none-here;
        brought = gets parcel.pid
            (ap (λ q. has_deed_of (Proc q) parcel) pid-is
            ∙ own-in-parcel script w hand b holds parcel c call place parcel_is)
            ∙ ap Some own-row;
        lives = own-row;
        children = λ child ending listed.
            let in_it = child-in child ending listed
            in gets child in_it.0 ∙ ap (λ o. Some (process_body o)) in_it.1;
        held = parent-here;
        child_of = child-of;
      }

  -- so it is the kernel's
  abbrev pub exit_is : EndsHere k deeds parcel (each_with of its) end_row parent_body
  exit_is = ends-here k deeds parcel (each_with of its) end_row parent_body may-exit may-end

  -- the next kernel
  abbrev pub next : Kernel
  next = exit_is.next

  -- ---- the step

  -- what the node has then
  abbrev pub deeds_then : Deeds
  deeds_then = put_all deeds (exit_changes parcel (each_with of its) parent_body)

  -- the call in which the parent waits there, if it does
  abbrev pub awaits : Option Call
  awaits = parked_parent (node_of w x) parcel.parent

  -- what the exit comes to
  abbrev pub ends_as : Committed
  ends_as = exit_comes_to parcel (each_with of its) awaits parent_body

  -- The exit is carried out there.
  pub exits : (step : Step) → step.node ≡ node_of w x
      → exit_here script step parcel ≡ Some (enter_exit script step parcel ends_as)
  exits step same =
      (λ i. exit_with script step parcel
      ((ap (λ (m : Node). fitting_bodies m.deeds parcel) same
      ∙ parcel-reads script w hand b holds parcel c call place parcel_is reads deeds none-here) i)
      ((ap (λ (m : Node). get_named m.deeds (Proc parcel.parent)) same ∙ parent-here) i))
      ∙ ap (option_map (enter_exit script step parcel))
      (ap (λ (m : Node). commit_exit parcel (each_with of its) (parked_parent m parcel.parent) parent_body) same
      ∙ commits k deeds parcel (each_with of its) end_row parent_body may-end awaits)

  -- Where it wakes the parent, that is in line its wait at once; else it is as where that doesn't wait.
  pub wakes-or-not : (waits : Call) → awaits ≡ Some waits
      → WakesOrNot parcel waits deeds ends_as (exit_comes_to parcel (each_with of its) None parent_body) ends_as.wakes
  wakes-or-not waits is =
      subst (λ o. WakesOrNot parcel waits deeds (exit_comes_to parcel (each_with of its) o parent_body)
      (exit_comes_to parcel (each_with of its) None parent_body)
      (exit_comes_to parcel (each_with of its) o parent_body).wakes) (sym is)
      (ends-wake k deeds parcel (each_with of its) end_row parent_body may-exit may-end waits)

  -- ---- the history

  abbrev caller : Caller
  caller = (node_of w c).caller

  abbrev was : Place
  was = caller_place script c caller

  -- its entry
  abbrev pub exit_entry : Entry
  exit_entry = entry_with x parcel.pid parcel.call (outcome_with (Some replies.Ended) ends_as.wakes)

  -- the line of the exit
  abbrev pub exit_line : Entry
  exit_line = line_of x parcel.pid parcel.call replies.Ended

  -- and the places then
  abbrev pub places_then : Places
  places_then = places_after script b.places exit_line was

  place-was : get b.places parcel.pid ≡ Some was
  place-was = ap (get b.places) pid-is ∙ made.there

  an-end : is_end parcel.call ≡ true
  an-end = ap is_end call-is ∙ is-an-end script w hand b holds parcel c call place parcel_is

  -- the history has the line
  pub history-then : HasHistory script (b.lines ++ exit_line ∷ []) next places_then
  history-then =
      history-goes-on script b.lines k b.places x parcel.pid parcel.call replies.Ended was next holds.history
      place-was (subst (λ z. IsDue was z) (sym call-is) made.due) exit_is.enters.makes

  -- What the end leaves of the kernel and the places.
  pub exit-leaves : EndLeaves k b.places parcel.pid parcel.parent end_row parent_body (ending_of parcel.call) next
      places_then
  exit-leaves =
      let m : MayMake k parcel.pid parcel.call = may-exit
      in let child : IsChildOf k parcel.pid parcel.parent parent_body = child-of
      in record {
        valid = m.valid;
        others = goes k parcel.pid parcel.call replies.Ended next m.valid m.alone exit_is.enters.makes;
        own = own-row;
        its = refl;
        listed = child.listed;
        bodies = exit_is.bodies_are;
        used = exit_is.enters.used;
        was = was;
        place_was = place-was;
        now = move_on was parcel.call (Some replies.Ended);
        place_is = place-moves script b.places x parcel.pid parcel.call replies.Ended was
            (end-no-fork parcel.call an-end);
        over = end-is-last script c caller parcel.call (subst (λ z. IsDue was z) (sym call-is) made.due)
            (ends-last parcel.call an-end);
        places_stay = λ q other. places-stay script b.places x parcel.pid parcel.call replies.Ended was q
            (end-no-fork parcel.call an-end) other;
      }
