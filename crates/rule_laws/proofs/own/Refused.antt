-- A node carries out a call of its process that is refused, and takes no number: a set of a size that there isn't. An
-- entry that changes nothing.
use Rattle.std.proofs.Common.{◌≡◌, ℕ, ◌+◌, ◌≤◌, Bool, true, false, if◌then◌else◌, [], ◌∷◌, ◌++◌, filter, nat_eq, Some, None, refl, ap, sym, subst, ◌∙◌, inl, inr, Err, is_some}
use Rattle.std.proofs.lemmas.Bool.{eq-eqb, false≢true}
use Rattle.pico_base.specs.declared.call.Call.{Call}
use Rattle.pico_base.specs.declared.call.Call.TheVariants as calls
use Rattle.pico_base.specs.declared.numbers.Name.{Name}
use Rattle.pico_base.specs.declared.numbers.Name.TheVariants.{Proc}
use Rattle.pico_base.specs.declared.reply.Entry.{Entry}
use Rattle.pico_base.specs.declared.reply.Reply.{Reply}
use Rattle.pico_base.specs.declared.script.Event.TheVariants as events
use Rattle.pico_base.specs.declared.script.Script.{Script}
use Rattle.pico_base.specs.Home.{home_of}
use Rattle.rpc_frame.specs.declared.frame.Frame.TheVariants as frames
use Rattle.number_maps.specs.Maps.{get, is_used}
use Rattle.kernel_model.specs.Fitting.{Place, Places, place_after, places_after, IsDue, due, is_killed, move_on}
use Rattle.kernel_model.specs.Effect.{reply_alone}
use Rattle.kernel_model.specs.History.{number_in}
use Rattle.kernel_model.specs.Kernel.{Kernel}
use Rattle.kernel_model.specs.Transition.{successor, transition}
use Rattle.waiting_model.specs.Calls.{may_park}
use Rattle.waiting_model.specs.Linear.{at_once, counts_waiters, line_of}
use Rattle.waiting_laws.proofs.Leads.{is_of_process, waits_for_child}
use Rattle.kernel_model.specs.Script.{IsSoundScript, is_exit, is_fork}
use Rattle.entry_laws.specs.Entering.{HasHistory, LeavesOthers, MayMake, Same}
use Rattle.entry_laws.proofs.History.{history-goes-on, moved-is, place-moves, places-stay}
use Rattle.entry_laws.proofs.Keys.{keys-kept}
use Rattle.entry_laws.proofs.Numbers.{used-kept, process-there}
use Rattle.node_model.specs.Caller.{Caller, answer_call, caller_place, start_call}
use Rattle.node_model.specs.Directory.{Directory, held_for}
use Rattle.node_model.specs.Kinds.{for_kind, is_object}
use Rattle.node_model.specs.Bodies.{body_in}
use Rattle.node_model.specs.Entries.{entry_by}
use Rattle.world_model.specs.Node.{Node, Leader, Stage, Living, Left, can_run}
use Rattle.world_model.specs.Starting.{run, start_by, start_set}
use Rattle.world_model.specs.Step.{Step, reply_here, step_to}
use Rattle.world_model.specs.World.{World, node_count, world_after}
use Rattle.world_laws.specs.Places.{Beside}
use Rattle.world_laws.specs.Sights.{node_of, directory_of, is_born_in, is_born_stage}
use Rattle.world_laws.specs.Callers.{CallHolds, CallSight, call_sight, is_about, is_item_about, is_waiter_of}
use Rattle.world_laws.specs.Cancels.{CancelHolds, Nothing, cancel_sight, is_held_cancel_of}
use Rattle.world_laws.specs.Families.{HoldsIn, NodeHolds}
use Rattle.world_laws.specs.Invariant.{Holds}
use Rattle.world_laws.specs.Ranges.{KeysHold}
use Rattle.world_laws.proofs.Changes.{Changes, filter-is-list-map, made-same, read-same}
use Rattle.world_laws.proofs.LeftAlone.{LeavesName, kind-left-alone, name-left-alone, same-directory}
use Rattle.world_laws.proofs.Stays.{IsMore, SameCall, call-stays, kind-stays, name-stays}
use Rattle.world_laws.proofs.Steps.{KeepsAs, changes-by-run, run-steps}
use Rattle.rule_laws.proofs.CallMoves.{same-but-call}
use Rattle.rule_laws.proofs.own.Entries.{EntryLeaves}
use Rattle.rule_laws.proofs.own.EntryMoves.{IsEntryMove, entry-born, entry-keeps, few-after}
use Rattle.rule_laws.proofs.own.Runs.{Starts, run-is}
use Rattle.std.specs.List.{list_any}
use Rattle.pico_base.specs.declared.reply.Errno.{Errno}
use Rattle.pico_base.specs.declared.reply.Reply.TheVariants as replies
use Rattle.kernel_model.specs.SemaphoreSet.{new_set}
use Rattle.entry_laws.proofs.Fresh.{LeavesAll, refuses-private-set}
use Rattle.entry_laws.proofs.Kin.{kin-same}
use Rattle.entry_laws.proofs.Listed.{listed-same}
use Rattle.entry_laws.proofs.Others.{goes}
use Rattle.entry_laws.proofs.Places.{goes-on, left-shrinks}
use Rattle.world_laws.proofs.Lines.{IsAnswered}
use Rattle.rule_laws.proofs.own.Alone.{after_alone, cancel-alone, does-at-once, others-alone, process-unchanged, process-waiters, whole-alone}
use Rattle.rule_laws.proofs.own.Answered.{answered-at-once, call-answered}
use Rattle.rule_laws.proofs.own.Starting.{its-process}

-- such an entry leaves the rest
pub unchanged-leaves : (k : Kernel) (pid : ℕ) (call : Call) (reply : Reply) (m : MayMake k pid call)
    (c : LeavesAll k pid call reply) → is_fork call ≡ false → is_exit call ≡ false → is_killed call ≡ false
    → (script : Script) (places : Places) (node p : ℕ) (caller : Caller)
    → get places pid ≡ Some (caller_place script p caller) → IsDue (caller_place script p caller) call
    → EntryLeaves k places pid c.next
    (places_after script places (entry_by node pid call reply) (caller_place script p caller))
unchanged-leaves k pid call reply m c no_fork no_exit not_killed script places node p caller there is_due =
    let place : Place = caller_place script p caller
    in let moved : move_on place call (Some reply) ≡ place_after place call (Some reply) =
    moved-is place call (Some reply) not_killed
    in let others : LeavesOthers k pid c.next = goes k pid call reply c.next m.valid m.alone c.enters.makes
    in record {
      valid = m.valid;
      others = others;
      lived = record { alive = m.alive; lives = m.lives };
      lives = c.caller;
      processes = λ q. used-kept k pid call reply c.next c.enters (Proc q);
      kin = λ parent q h. kin-same k c.next parent q (Same (c.bodies (Proc parent))) (Same (c.bodies (Proc q)))
          (process-there c.next q others.valid ∙ used-kept k pid call reply c.next c.enters (Proc q)
          ∙ sym (process-there k q m.valid) ∙ ap is_some h.is) h;
      listed = λ q child l. listed-same k c.next q child (Same (c.bodies (Proc q))) l;
      was = place;
      place_was = there;
      now = place_after place call (Some reply);
      place_is = place-moves script places node pid call reply place no_fork ∙ ap Some moved;
      places_stay = λ q d. places-stay script places node pid call reply place q no_fork d;
      more_left = goes-on script p caller call reply (due-itself place is_due) no_exit;
      shrinks = λ test h. left-shrinks place call reply test (ap (λ (x : Place). list_any test x.left) moved ∙ h);
    }
  where
    due-itself : (place : Place) → IsDue place call → due place ≡ Some call
    due-itself place (inl h) = h
    due-itself place (inr h) = absurd (false≢true (sym not_killed ∙ h.0))

module _ (script : Script) (sound : IsSoundScript script) (w : World) (b : Beside) (holds : Holds script w [] b) (p : ℕ)
    (low : 1 ≤ p) (high : p ≤ node_count script) (can : can_run (node_of w p) ≡ true) (s : Starts script w b p)
    (count : ℕ) (create excl : Bool) (error : Errno) (is : s.call ≡ calls.SemGet None count create excl)
    (bad : new_set count ≡ Err error) where
  abbrev n : Node
  n = node_of w p

  abbrev k : Kernel
  k = b.kernel

  abbrev pid : ℕ
  pid = b.pids p

  abbrev call : Call
  call = s.call

  abbrev gets : Call
  gets = calls.SemGet None count create excl

  abbrev reply : Reply
  reply = replies.Fail error

  abbrev place : Place
  place = caller_place script p n.caller

  node-holds : NodeHolds script b.pids (is_born_in w) p n
  node-holds = holds.nodes p low high

  pub refused : LeavesAll k pid call reply
  refused =
      subst (λ (y : Call). LeavesAll k pid y reply) (sym is)
      (refuses-private-set k pid count create excl error (subst (λ (y : Call). MayMake k pid y) is s.may) bad)

  pub step : transition k pid (at_once call) (number_in (Some reply))
      ≡ Some (successor refused.next (reply_alone reply))
  step =
      does-at-once k (line_of p pid call reply) refused.next (refused.enters.makes.leads p) (ap counts_waiters is)
      (ap may_park is)

  abbrev started : Caller
  started = start_call n.caller call

  abbrev next-caller : Caller
  next-caller = answer_call script p started call reply

  abbrev after-node : Node
  after-node = record n { caller = next-caller }

  abbrev entry : Entry
  entry = entry_by p pid call reply

  abbrev after-as : Call → ℕ → ℕ → Step
  after-as y number process =
      record {
        node = record n { caller = answer_call script number (start_call n.caller y) y reply };
        entries = entry_by number process y reply ∷ [];
        sends = [];
        strikes = false;
      }

  abbrev after : Step
  after = after-as call p pid

  abbrev middle : Step
  middle =
      record {
        node = record n { caller = start_call n.caller gets };
        entries = entry_by n.number n.pid gets reply ∷ [];
        sends = [];
        strikes = false;
      }

  starts-so : start_by script (step_to (record n { caller = start_call n.caller gets })) gets s.row
      (home_of n.pid gets) ≡ Some (after-as gets p pid)
  starts-so =
      ap (start_set script (step_to (record n { caller = start_call n.caller gets })) gets) bad
      ∙ ap (λ t. Some (if t then reply_here script middle reply
      (elim (nat_eq (n.caller.ticket + 1) (n.caller.ticket + 1)) [ true ↦ Some gets | false ↦ None ])
      else record middle { sends = (n.number, frames.Answer (n.caller.ticket + 1) reply) ∷ [] }))
      (eq-eqb n.number n.number refl)
      ∙ ap (λ t. Some (reply_here script middle reply (elim t [ true ↦ Some gets | false ↦ None ])))
      (eq-eqb (n.caller.ticket + 1) (n.caller.ticket + 1) refl)
      ∙ ap (λ number. Some (after-as gets number n.pid)) node-holds.number
      ∙ ap (λ process. Some (after-as gets p process)) s.birth.pid_is

  rule : run script n ≡ Some after
  rule =
      run-is script sound w b holds p low high can s
      ∙ subst (λ y. start_by script (step_to (record n { caller = start_call n.caller y })) y s.row (home_of n.pid y)
      ≡ Some (after-as y p pid)) (sym is) starts-so

  abbrev next : World
  next = world_after w p after

  abbrev places-now : Places
  places-now = places_after script b.places entry place

  pub leaves : EntryLeaves k b.places pid refused.next places-now
  leaves =
      unchanged-leaves k pid call reply s.may refused (ap is_fork is) (ap is_exit is)
      (ap is_killed is) script b.places p
      p n.caller s.free.there s.due_now.due

  pub objects : (m : Name) → is_object m ≡ true → body_in refused.next m ≡ body_in k m
  objects m object = refused.bodies m

  pub own-home : is_of_process (home_of pid call) ≡ true
  own-home = ap (λ y. is_of_process (home_of pid y)) is

  pub no-child : waits_for_child (its-process script w b holds p low high s).alive call ≡ false
  no-child = ap (waits_for_child (its-process script w b holds p low high s).alive) is

  -- what stands beside the world then
  abbrev moved : Beside
  moved =
      after_alone script w b holds p low high s reply refused.next places-now step own-home no-child objects leaves

  changes : Changes script p w next after-node [] [] (entry ∷ [])
  changes = changes-by-run script w holds.shape p after low high tt

  same-there : directory_of next ≡ directory_of w
  same-there =
      read-same script p w next after-node [] [] (entry ∷ []) changes (λ (m : Node). m.leader.directory) refl 1

  node-now : NodeHolds script b.pids (is_born_in w) p after-node
  node-now =
      record {
        number = node-holds.number;
        holds = subst (λ (stage : Stage). HoldsIn p after-node stage) (sym s.stage)
            (record { row = s.row; here = s.has_row });
        birth = node-holds.birth;
        first = node-holds.first;
        others = node-holds.others;
        rows = node-holds.rows;
        owners = node-holds.owners;
      }

  keys-now : KeysHold (node_of next 1).leader refused.next
  keys-now =
      subst (λ (l : Leader). KeysHold l refused.next)
      (sym (read-same script p w next after-node [] [] (entry ∷ []) changes (λ (m : Node). m.leader) refl 1))
      (let l : Leader = (node_of w 1).leader
      in keys-kept l.queue_keys l.set_keys k refused.next refused.keys holds.keys)

  history-now : HasHistory script (b.lines ++ entry ∷ []) refused.next places-now
  history-now =
      history-goes-on script b.lines k b.places p pid call reply place refused.next holds.history s.free.there
      s.due_now.due refused.enters.makes

  is-answered : IsAnswered script p started call reply next-caller
  is-answered = answered-at-once script w b holds p low high s reply

  move : IsEntryMove script w next [] [] Nothing Nothing b moved p after-node [] [] p
  move =
      record {
        entry = leaves;
        history = history-now;
        keys = keys-now;
        forked = s.birth.forked;
        born = ap is_born_stage s.stage;
        awaited = λ q to e. refused.bodies (Proc q);
        stage = refl;
        under_way = λ left. absurd (left-not (sym s.stage ∙ left));
        own = λ d. absurd (d refl);
        directory = same-but-call p (directory_of w) (directory_of next) same-there holds.leading;
        node = node-now;
        deeds = λ q. refl;
        calls = λ y d. refl;
        hand_of_others = λ y d. refl;
        parcels_at_hand = λ parcel there. there;
        whole = whole-alone script w b holds p low high s reply refused.next places-now step own-home no-child objects
            leaves next after-node changes history-now is-answered.free;
        waiters_of_others = λ y d m. ap (filter (is_waiter_of y))
            (process-waiters script w [] Nothing b holds refused.next objects m);
        cancel_of_others = λ y d. refl;
        owed_of_others = λ y d. others-alone script w b holds p low high s reply refused.next places-now step own-home
            no-child objects leaves next after-node changes history-now is-answered.free y d
            (λ a lives. refused.bodies (Proc (b.pids y))) [] [] Nothing;
        makers_stay = λ m node unused used. absurd
            (false≢true (sym unused ∙ sym (used-kept k pid call reply refused.next refused.enters m) ∙ used));
        plain_taken = tt;
        plain_sent = tt;
        no_birth_taken = tt;
        no_birth_sent = tt;
        of_no_other = λ y d. tt;
        sent_of_no_other = λ y d. tt;
        no_cancel_taken = λ y d. tt;
        no_cancel_sent = λ y d. tt;
        may_be_sent = tt;
        to_others = tt;
      }
    where
      left-not : Living ≡ Left → ⊥
      left-not h = cc

  more : IsMore (is_born_in w) (is_born_in next)
  more =
      entry-born script w next [] [] Nothing Nothing b moved p after-node [] [] (entry ∷ []) p low high
      holds changes move

  abbrev ended : CallSight
  ended =
      record (call_sight w [] b p) {
        caller = answer_call script p started call reply;
        place = Some (place_after place call (Some reply));
        alive = Some refused.caller.alive;
      }

  call-ended : CallHolds script p (is_born_in w) ended
  call-ended = call-answered script w b holds p low high s reply refused.caller.alive n.leases

  cancel-now : CancelHolds p Nothing (cancel_sight next [] moved p)
  cancel-now =
      cancel-alone script w b holds p low high s reply refused.next places-now step own-home no-child objects leaves
      next after-node changes history-now is-answered.free refl is-answered.ticket_is
      (λ m. ap (λ (d : Directory). filter (is_held_cancel_of p) (held_for d m)) same-there)

  sight-now : SameCall ended (call_sight next [] moved p)
  sight-now =
      record {
        number = sym (ap (λ (m : Node). m.number) changes.here);
        pid = sym (ap (λ (m : Node). m.pid) changes.here);
        stage = sym (ap (λ (m : Node). m.stage) changes.here);
        caller = sym (ap (λ (m : Node). m.caller) changes.here);
        leases = sym (ap (λ (m : Node). m.leases) changes.here);
        place = sym (place-moves script b.places p pid call reply place (ap is_fork is)
            ∙ ap Some (moved-is place call (Some reply) (ap is_killed is)));
        alive = sym refused.caller.lives;
        call = refl;
        frames_about = λ to sender. sym (made-same script p w next after-node [] [] (entry ∷ []) changes
            (λ t q fs. filter (is_about p t q) fs) (λ t q. filter-is-list-map (is_about p t q)) tt tt to sender);
        held = λ m. sym (ap (λ (d : Directory). filter (is_item_about p) (held_for d m)) same-there);
        hand = refl;
        waiters = λ m. sym (ap (filter (is_waiter_of p))
            (process-waiters script w [] Nothing b holds refused.next objects m));
      }

  leaves-name : (m : Name) → LeavesName w next [] [] b moved p after-node changes.left m
  leaves-name m =
      record {
        directory = same-directory (directory_of w) (directory_of next) same-there m;
        used_is = used-kept k pid call reply refused.next refused.enters m;
        part_is = refused.bodies m;
        body_is = process-unchanged script w [] Nothing b holds refused.next objects m (refused.bodies m);
        deed_is = refl;
        held_is = refl;
        begins_is = λ holds_it comes. refl;
        hand_is = refl;
        steps_are = λ used y. refl;
        ranges_are = λ used y. refl;
      }

  -- The call is refused, and none is under way.
  pub refused-keeps : KeepsAs script w (events.Run p) moved
  refused-keeps =
      record {
        next = next;
        is_step = run-steps script w p after holds.shape low high rule;
        holds = entry-keeps script w next [] [] Nothing Nothing b moved p after-node [] []
            (entry ∷ []) p low high holds changes move
            (call-stays script p (is_born_in w) (is_born_in next) _ _ more sight-now call-ended) cancel-now
            (λ m. name-stays script b.pids (is_born_in w) (is_born_in next) m _ _ more
            (name-left-alone script p w next after-node [] [] (entry ∷ []) changes [] [] b moved m (leaves-name m) tt
            tt) (holds.names m))
            (λ kind. kind-stays (is_born_in w) (is_born_in next) _ _ more
            (kind-left-alone script p w next after-node [] [] (entry ∷ []) changes k refused.next kind
            (λ number. ap (λ used. is_used used number) (refused.enters.used kind)) refl
            (ap (λ (d : Directory). for_kind d.ranges kind) same-there) tt tt) (holds.kinds kind))
            (λ kind. few-after script w next [] [] Nothing Nothing b moved p after-node [] []
            (entry ∷ []) p low high holds changes move kind
            (ap (λ (d : Directory). for_kind d.ranges kind) same-there) (λ y. refl));
      }
