-- A node carries out a call of its process on the process itself, which has its reply at once: getpid, the calls on
-- signals, kill of oneself, and a waitpid that needn't wait.
use Rattle.std.proofs.Common.{◌≡◌, ◌≢◌, ℕ, ◌+◌, ◌≤◌, Bool, true, false, if◌then◌else◌, [], ◌∷◌, ◌++◌, filter, nat_eq, Option, Some, None, refl, ap, sym, subst, ◌∙◌, inl, inr}
use Rattle.std.proofs.lemmas.Bool.{cases_eq, eq-eqb, false≢true}
use Rattle.pico_base.specs.declared.call.Call.{Call}
use Rattle.pico_base.specs.declared.call.Call.TheVariants as calls
use Rattle.pico_base.specs.declared.numbers.Kind.{Kind}
use Rattle.pico_base.specs.declared.numbers.Name.{Name}
use Rattle.pico_base.specs.declared.numbers.Name.TheVariants.{Proc, Msg, Sem}
use Rattle.pico_base.specs.declared.reply.Ending.{Ending}
use Rattle.pico_base.specs.declared.reply.Entry.{Entry}
use Rattle.pico_base.specs.declared.reply.Reply.{Reply}
use Rattle.pico_base.specs.declared.reply.Reply.TheVariants as replies
use Rattle.pico_base.specs.declared.script.Event.TheVariants as events
use Rattle.pico_base.specs.declared.script.Script.{Script}
use Rattle.pico_base.specs.Home.{home_of}
use Rattle.rpc_frame.specs.declared.frame.Frame.TheVariants as frames
use Rattle.number_maps.specs.Maps.{get, is_used}
use Rattle.kernel_model.specs.Effect.{reply_alone}
use Rattle.kernel_model.specs.Fitting.{Place, Places, place_after, places_after}
use Rattle.kernel_model.specs.History.{number_in}
use Rattle.kernel_model.specs.Kernel.{Kernel, Process, living_at}
use Rattle.kernel_model.specs.Kernel as kernel
use Rattle.kernel_model.specs.Row.{Alive, Row}
use Rattle.kernel_model.specs.Script.{IsSoundScript}
use Rattle.kernel_model.specs.Transition.{successor, transition}
use Rattle.waiting_model.specs.declared.callers.Waiting.{Waiting}
use Rattle.waiting_model.specs.Linear.{at_once}
use Rattle.waiting_laws.proofs.Leads.{is_of_process, waits_for_child}
use Rattle.serve_laws.specs.Laws.{is_found}
use Rattle.serve_laws.specs.Served.{DoesLine, Line, line}
use Rattle.entry_laws.specs.Entering.{HasHistory, KeepsKeys, removed_queue, removed_set, unless_removed}
use Rattle.entry_laws.proofs.Bodies.{living-body}
use Rattle.entry_laws.proofs.History.{history-goes-on}
use Rattle.entry_laws.proofs.Holding.{ServesHere, is_found_by, served_deeds}
use Rattle.entry_laws.proofs.Keys.{keys-kept, size-same}
use Rattle.entry_laws.proofs.Lined.{Lined, lined, lined-finds}
use Rattle.entry_laws.proofs.Numbers.{used-kept}
use Rattle.entry_laws.proofs.Replies.{set-not-found}
use Rattle.entry_laws.proofs.Served.{FindsChild}
use Rattle.node_model.specs.Awaiting.{Applied, on_own}
use Rattle.node_model.specs.Bodies.{Body, Deeds, Gone, Living as LivingBody, body_in}
use Rattle.node_model.specs.Caller.{Caller, answer_call, caller_place, start_call}
use Rattle.node_model.specs.Carrying.{is_own, is_served}
use Rattle.node_model.specs.Directory.{Directory, held_for}
use Rattle.node_model.specs.Entries.{entry_by, entry_with, outcome_with}
use Rattle.node_model.specs.Kinds.{for_kind, get_named, is_object}
use Rattle.node_model.specs.Serving.{name_for}
use Rattle.world_model.specs.Node.{Node, Leader, Stage, Living, Left, asked_here, can_run}
use Rattle.world_model.specs.Starting.{run}
use Rattle.world_model.specs.Step.{Step, reply_here, reply_if}
use Rattle.world_model.specs.World.{World, node_count, world_after}
use Rattle.world_laws.specs.Places.{Beside, DeedPlace, InCheckpoint, InTable}
use Rattle.world_laws.specs.Sights.{node_of, directory_of, is_born_in, is_born_stage, stage_of}
use Rattle.world_laws.specs.Names.{NameHolds, forker, name_sight}
use Rattle.world_laws.specs.Callers.{CallHolds, CallSight, call_sight, is_about, is_item_about, is_waiter_of}
use Rattle.world_laws.specs.Cancels.{CancelHolds, Nothing, cancel_sight, is_held_cancel_of}
use Rattle.world_laws.specs.Families.{FamilyHolds, HoldsIn, IsWithParent, NodeHolds, checkpoints_to}
use Rattle.world_laws.specs.Invariant.{Holds, process_deed}
use Rattle.world_laws.specs.Ranges.{KindHolds, FewRanges, KeysHold, kind_sight}
use Rattle.world_laws.proofs.Changes.{Changes, filter-is-list-map, made-same, read-same}
use Rattle.world_laws.proofs.LeftAlone.{LeavesName, kind-left-alone, name-left-alone, same-directory}
use Rattle.world_laws.proofs.Lines.{IsAnswered}
use Rattle.world_laws.proofs.Named.{name-cases}
use Rattle.world_laws.proofs.Stays.{IsMore, SameCall, call-stays, kind-stays, name-stays}
use Rattle.world_laws.proofs.Steps.{KeepsAs, changes-by-run, run-steps}
use Rattle.rule_laws.proofs.CallMoves.{same-but-call}
use Rattle.rule_laws.proofs.own.Alone.{after_alone, cancel-alone, others-alone, process-is-body, process-unchanged, process-waiters, whole-alone}
use Rattle.rule_laws.proofs.own.Answered.{answered-at-once, call-answered}
use Rattle.rule_laws.proofs.own.Entries.{EntryLeaves}
use Rattle.rule_laws.proofs.own.EntryMoves.{IsEntryMove, entry-born, entry-keeps, few-after}
use Rattle.rule_laws.proofs.own.OwnResults.{own-at-once, own-line, replied-in-whole}
use Rattle.rule_laws.proofs.own.OwnServed.{home-is as own-home-is, named as own-named, own-call, own-rule, own_caller, own_result, serves}
use Rattle.rule_laws.proofs.own.Rebodied.{name-rebodied, name-seen-rebodied}
use Rattle.rule_laws.proofs.own.Runs.{Starts}
use Rattle.rule_laws.proofs.own.Served.{FindsOne, found-is, found-one, served-leaves, served-place}
use Rattle.rule_laws.proofs.own.Starting.{its-process}

-- ---- calls on oneself

-- they remove nothing
removes-no-queue : (pid : ℕ) (call : Call) → is_own pid call ≡ true → removed_queue call ≡ None
removes-no-queue pid (calls.MsgRmid id) h = absurd (false≢true h)
removes-no-queue pid call h = refl

removes-no-set : (pid : ℕ) (call : Call) → is_own pid call ≡ true → removed_set call ≡ None
removes-no-set pid (calls.SemRmid id) h = absurd (false≢true h)
removes-no-set pid call h = refl

in-checkpoint-not : (to node : ℕ) → InCheckpoint to ≡ InTable node → ⊥
in-checkpoint-not to node h = cc

gone-is-no-row : (row : Row) → Gone ≡ LivingBody row → ⊥
gone-is-no-row row h = cc

some-body : (a c : Body) → Some a ≡ Some c → a ≡ c
some-body a c h = cc

some-process : (a c : Process) → Some a ≡ Some c → a ≡ c
some-process a c h = cc

set-is-no-process : (id pid : ℕ) → Sem id ≡ Proc pid → ⊥
set-is-no-process id pid h = cc

queue-is-no-process : (id pid : ℕ) → Msg id ≡ Proc pid → ⊥
queue-is-no-process id pid h = cc

-- no queue is found as a child
queue-not-found : (r : Reply) (id : ℕ) → is_found r (Msg id) ≡ false
queue-not-found (replies.Child child ending) id = refl
queue-not-found r id = refl

with-parent : (deed : ℕ → DeedPlace) (parent pid : ℕ) (process : Process) (ending : Ending)
    → process ≡ kernel.Ended ending → IsWithParent deed parent pid process → deed pid ≡ deed parent
with-parent deed parent pid process ending is h = subst (λ (x : Process). IsWithParent deed parent pid x) is h

module _ (script : Script) (sound : IsSoundScript script) (w : World) (b : Beside) (holds : Holds script w [] b) (p : ℕ)
    (low : 1 ≤ p) (high : p ≤ node_count script) (can : can_run (node_of w p) ≡ true) (s : Starts script w b p)
    (own : is_own (node_of w p).pid s.call ≡ true) (served : is_served (at_once s.call) ≡ true) (reply : Reply)
    (replied : (on_own s.row (b.pids p) s.call).own ≡ Some reply) where
  abbrev n : Node
  n = node_of w p

  abbrev k : Kernel
  k = b.kernel

  abbrev pid : ℕ
  pid = b.pids p

  abbrev name : Name
  name = Proc pid

  abbrev call : Call
  call = s.call

  abbrev place : Place
  place = caller_place script p n.caller

  abbrev x : CallSight
  x = call_sight w [] b p

  node-holds : NodeHolds script b.pids (is_born_in w) p n
  node-holds = holds.nodes p low high

  pid-is : n.pid ≡ pid
  pid-is = s.birth.pid_is

  own-is : is_own pid call ≡ true
  own-is = own-call script sound w b holds p low high can s own served

  named-is : name_for pid call ≡ Some name
  named-is = own-named script sound w b holds p low high can s own served

  abbrev who : Waiting
  who = own_caller script sound w b holds p low high can s own served

  abbrev result : Applied Row
  result = own_result script sound w b holds p low high can s own served

  pub here : ServesHere n.deeds name (LivingBody s.row) who
  here = serves script sound w b holds p low high can s own served

  abbrev its-line : Line
  its-line = line pid call reply

  body-is : LivingBody s.row ≡ body_in k name
  body-is = sym (living-body k pid s.alive s.lives ∙ ap LivingBody s.row_is)

  -- In line it does what it does at once.
  pub c : Lined k name its-line (LivingBody result.left)
  c =
      lined k name its-line (LivingBody result.left) s.may served named-is
      (subst (λ (v : Body). DoesLine name v its-line (LivingBody result.left)) body-is
      (own-line s.row who reply replied))

  pub step : transition k pid (at_once call) (number_in (Some reply)) ≡ Some (successor c.next (reply_alone reply))
  step = own-at-once k c.next s.row p pid call reply own-is replied (c.enters.makes.leads p)

  -- what it comes to

  abbrev deeds-now : Deeds
  deeds-now = served_deeds n.deeds name (LivingBody result.left) (Some reply)

  abbrev started : Caller
  started = start_call n.caller call

  abbrev next-caller : Caller
  next-caller = answer_call script p started call reply

  abbrev after-node : Node
  after-node = record n { caller = next-caller; deeds = deeds-now }

  abbrev entry : Entry
  entry = entry_by p pid call reply

  abbrev after : Step
  after = record { node = after-node; entries = entry ∷ []; sends = []; strikes = false }

  -- the step, by the numbers that the node has
  abbrev step-with : ℕ → ℕ → Step
  step-with number process =
      record {
        node = record n { caller = answer_call script number started call reply; deeds = deeds-now };
        entries = entry_by number process call reply ∷ [];
        sends = [];
        strikes = false;
      }

  -- in the middle of it the reply is to come
  abbrev middle : Step
  middle =
      record {
        node = record n { caller = started; deeds = deeds-now };
        entries = entry_by n.number n.pid call reply ∷ [];
        sends = [];
        strikes = false;
      }

  rule : run script n ≡ Some after
  rule =
      own-rule script sound w b holds p low high can s own served
      ∙ ap (λ (o : Option Reply). Some (reply_if script
      (record {
        node = record n { caller = started; deeds = served_deeds n.deeds name (LivingBody result.left) o };
        entries = entry_with n.number n.pid call (outcome_with o []) ∷ [];
        sends = [];
        strikes = false;
      }) (asked_here (record n { caller = started }) call) o)) replied
      ∙ ap (λ t. Some (if t then reply_here script middle reply
      (elim (nat_eq (n.caller.ticket + 1) (n.caller.ticket + 1)) [ true ↦ Some call | false ↦ None ])
      else record middle { sends = (n.number, frames.Answer (n.caller.ticket + 1) reply) ∷ [] }))
      (eq-eqb n.number n.number refl)
      ∙ ap (λ t. Some (reply_here script middle reply (elim t [ true ↦ Some call | false ↦ None ])))
      (eq-eqb (n.caller.ticket + 1) (n.caller.ticket + 1) refl)
      ∙ ap (λ number. Some (step-with number n.pid)) node-holds.number
      ∙ ap (λ process. Some (step-with p process)) pid-is

  -- what it changes

  abbrev next : World
  next = world_after w p after

  abbrev places-now : Places
  places-now = places_after script b.places entry place

  pub leaves : EntryLeaves k b.places pid c.next places-now
  leaves =
      served-leaves k name its-line (LivingBody result.left) s.may c served named-is script b.places p p n.caller
      s.free.there s.due_now.due

  pub own-home : is_of_process (home_of pid call) ≡ true
  own-home = ap is_of_process (own-home-is script sound w b holds p low high can s own served)

  pub no-child : waits_for_child (its-process script w b holds p low high s).alive call ≡ false
  no-child =
      let process = its-process script w b holds p low high s
      in replied-in-whole s.row pid call reply process.alive (process.row ∙ s.row_is) replied

  pub objects : (m : Name) → is_object m ≡ true → body_in c.next m ≡ body_in k m
  objects (Msg id) object = c.others (Msg id) (queue-is-no-process id pid) (queue-not-found reply id)
  objects (Sem id) object = c.others (Sem id) (set-is-no-process id pid) (set-not-found reply id)
  objects (Proc q) object = absurd (false≢true object)

  -- what stands beside the world then
  abbrev moved : Beside
  moved = after_alone script w b holds p low high s reply c.next places-now step own-home no-child objects leaves

  changes : Changes script p w next after-node [] [] (entry ∷ [])
  changes = changes-by-run script w holds.shape p after low high tt

  same-there : directory_of next ≡ directory_of w
  same-there =
      read-same script p w next after-node [] [] (entry ∷ []) changes (λ (m : Node). m.leader.directory) refl 1

  -- a child that was found has its deed here, too
  found-deed : (m : Name) → is_found reply m ≡ true → b.deed m ≡ InTable p
  found-deed m there =
      let f : FindsOne reply = found-one reply m there
      in let m-is : m ≡ Proc f.child =
      found-is f.child f.ending m (ap (λ (r : Reply). is_found r m) (sym f.is) ∙ there)
      in let finds : FindsChild k pid name s.may.alive f.child f.ending =
      lined-finds k name its-line (LivingBody result.left) s.may c f.child f.ending named-is f.is
      in let family : FamilyHolds script b.pids b.places k (process_deed b.deed) (checkpoints_to script w p)
      (stage_of w p) p = holds.families p s.birth.forked
      in let child = family.children s.may.alive f.child s.may.lives (inr (f.ending, finds.kept))
      in let its : FamilyHolds script b.pids b.places k (process_deed b.deed) (checkpoints_to script w child.0)
      (stage_of w child.0) child.0 = holds.families child.0 (λ none. child.3 (sym child.2 ∙ none))
      in let over : its.process ≡ kernel.Ended f.ending =
      some-process its.process (kernel.Ended f.ending)
      (sym its.is ∙ ap (get k.processes) child.2 ∙ finds.ended)
      in ap b.deed (m-is ∙ ap Proc (sym child.2))
      ∙ with-parent (process_deed b.deed) (b.pids (forker script child.0)) (b.pids child.0) its.process f.ending over
      its.with_parent
      ∙ ap (λ (y : ℕ). b.deed (Proc (b.pids y))) child.1 ∙ s.deed

  body-stays : (m : Name) → m ≢ name → is_found reply m ≡ false → body_in c.next m ≡ body_in k m
  body-stays m d none = c.others m d none

  awaited : (q to : ℕ) → b.deed (Proc q) ≡ InCheckpoint to → body_in c.next (Proc q) ≡ body_in k (Proc q)
  awaited q to e =
      body-stays (Proc q)
      (λ same. in-checkpoint-not to p (sym e ∙ ap b.deed same ∙ s.deed)) (not-found (is_found reply (Proc q)) refl)
    where
      not-found : (t : Bool) → is_found reply (Proc q) ≡ t → is_found reply (Proc q) ≡ false
      not-found false is = is
      not-found true is = absurd (in-checkpoint-not to p (sym e ∙ found-deed (Proc q) is))

  -- the node

  name-there : get_named deeds-now name ≡ Some (LivingBody result.left)
  name-there =
      sym (ap (λ o. get_named (served_deeds n.deeds name (LivingBody result.left) o) name) replied) ∙ here.here

  found-there : (m : Name) → is_found reply m ≡ true → get_named deeds-now m ≡ Some Gone
  found-there m there =
      sym (ap (λ o. get_named (served_deeds n.deeds name (LivingBody result.left) o) m) replied)
      ∙ here.found m (ap (λ o. is_found_by o m) replied ∙ there)

  others-there : (m : Name) → m ≢ name → is_found reply m ≡ false → get_named deeds-now m ≡ get_named n.deeds m
  others-there m d none =
      sym (ap (λ o. get_named (served_deeds n.deeds name (LivingBody result.left) o) m) replied)
      ∙ here.others m d (ap (λ o. is_found_by o m) replied ∙ none)

  row-now : get_named deeds-now (Proc n.pid) ≡ Some (LivingBody result.left)
  row-now = ap (λ (q : ℕ). get_named deeds-now (Proc q)) pid-is ∙ name-there

  rows-now : (q : ℕ) (row : Row) → get_named deeds-now (Proc q) ≡ Some (LivingBody row) → q ≡ n.pid
  rows-now q row there =
      elim (cases_eq q pid) [
        | inl e ↦ e ∙ sym pid-is
        | inr d ↦ by-found (λ same. d (number-same q pid same)) (is_found reply (Proc q)) refl
      ]
    where
      number-same : (a e : ℕ) → Proc a ≡ Proc e → a ≡ e
      number-same a e h = cc

      by-found : Proc q ≢ name → (t : Bool) → is_found reply (Proc q) ≡ t → q ≡ n.pid
      by-found d false none = node-holds.rows q row (sym (others-there (Proc q) d none) ∙ there)
      by-found d true is =
          absurd
          (gone-is-no-row row (some-body Gone (LivingBody row) (sym (found-there (Proc q) is) ∙ there)))

  node-now : NodeHolds script b.pids (is_born_in w) p after-node
  node-now =
      record {
        number = node-holds.number;
        holds = subst (λ (stage : Stage). HoldsIn p after-node stage) (sym s.stage)
            (record { row = result.left; here = row-now });
        birth = node-holds.birth;
        first = node-holds.first;
        others = node-holds.others;
        rows = rows-now;
        owners = node-holds.owners;
      }

  -- keys and history

  keeps-keys : KeepsKeys k c.next
  keeps-keys =
      record {
        queues = λ key. c.queue_keys key
            ∙ ap (λ o. unless_removed o (get k.queue_keys key)) (removes-no-queue pid call own-is);
        sets = λ key. c.set_keys key
            ∙ ap (λ o. unless_removed o (get k.set_keys key)) (removes-no-set pid call own-is);
        sizes = λ key id bound. size-same c.next k id
            (body-stays (Sem id) (set-is-no-process id pid) (set-not-found reply id));
      }

  keys-now : KeysHold (node_of next 1).leader c.next
  keys-now =
      subst (λ (l : Leader). KeysHold l c.next)
      (sym (read-same script p w next after-node [] [] (entry ∷ []) changes (λ (m : Node). m.leader) refl 1))
      (let l : Leader = (node_of w 1).leader
      in keys-kept l.queue_keys l.set_keys k c.next keeps-keys holds.keys)

  history-now : HasHistory script (b.lines ++ entry ∷ []) c.next places-now
  history-now =
      history-goes-on script b.lines k b.places p pid call reply place c.next holds.history
      s.free.there
      s.due_now.due c.enters.makes

  is-answered : IsAnswered script p started call reply next-caller
  is-answered = answered-at-once script w b holds p low high s reply

  -- another process lives on with the same body
  stays-if-living : (y : ℕ) → y ≢ p → (a : Alive) → living_at c.next (b.pids y) ≡ Some a
      → body_in c.next (Proc (b.pids y)) ≡ body_in k (Proc (b.pids y))
  stays-if-living y d a lives =
      body-stays (Proc (b.pids y)) (λ same. d (sym (holds.pids.apart p y s.birth.forked (sym (number-same _ _ same)))))
      (not-found (is_found reply (Proc (b.pids y))) refl)
    where
      number-same : (u v : ℕ) → Proc u ≡ Proc v → u ≡ v
      number-same u v h = cc

      not-found : (t : Bool) → is_found reply (Proc (b.pids y)) ≡ t → is_found reply (Proc (b.pids y)) ≡ false
      not-found false is = is
      not-found true is =
          absurd (gone-is-no-row a.row (sym (c.found (Proc (b.pids y)) is) ∙ living-body c.next (b.pids y) a lives))

  move : IsEntryMove script w next [] [] Nothing Nothing b moved p after-node [] [] p
  move =
      record {
        entry = leaves;
        history = history-now;
        keys = keys-now;
        forked = s.birth.forked;
        born = ap is_born_stage s.stage;
        awaited = awaited;
        stage = refl;
        under_way = λ left. absurd (left-not (sym s.stage ∙ left));
        own = λ d. absurd (d refl);
        directory = same-but-call p (directory_of w) (directory_of next) same-there holds.leading;
        node = node-now;
        deeds = λ q. refl;
        calls = λ y d. refl;
        hand_of_others = λ y d. refl;
        parcels_at_hand = λ parcel there. there;
        whole = whole-alone script w b holds p low high s reply c.next places-now step own-home no-child objects leaves
            next after-node changes history-now is-answered.free;
        waiters_of_others = λ y d m. ap (filter (is_waiter_of y))
            (process-waiters script w [] Nothing b holds c.next objects m);
        cancel_of_others = λ y d. refl;
        owed_of_others = λ y d. others-alone script w b holds p low high s reply c.next places-now step own-home
            no-child
            objects leaves next after-node changes history-now is-answered.free y d (stays-if-living y d) [] [] Nothing;
        makers_stay = λ m node unused used. absurd
            (false≢true (sym unused ∙ sym (used-kept k pid call reply c.next c.enters m) ∙ used));
        plain_taken = tt;
        plain_sent = tt;
        no_birth_taken = tt;
        no_birth_sent = tt;
        of_no_other = λ y d. tt;
        sent_of_no_other = λ y d. tt;
        no_cancel_taken = λ y d. tt;
        no_cancel_sent = λ y d. tt;
        may_be_sent = tt;
        to_others = tt;
      }
    where
      left-not : Living ≡ Left → ⊥
      left-not h = cc

  more : IsMore (is_born_in w) (is_born_in next)
  more =
      entry-born script w next [] [] Nothing Nothing b moved p after-node [] [] (entry ∷ []) p low high holds
      changes move

  -- the call

  abbrev ended : CallSight
  ended =
      record x {
        caller = next-caller;
        place = Some (place_after place call (Some reply));
        alive = Some c.caller.alive;
      }

  call-ended : CallHolds script p (is_born_in w) ended
  call-ended = call-answered script w b holds p low high s reply c.caller.alive n.leases

  sight-now : SameCall ended (call_sight next [] moved p)
  sight-now =
      record {
        number = sym (ap (λ (m : Node). m.number) changes.here);
        pid = sym (ap (λ (m : Node). m.pid) changes.here);
        stage = sym (ap (λ (m : Node). m.stage) changes.here);
        caller = sym (ap (λ (m : Node). m.caller) changes.here);
        leases = sym (ap (λ (m : Node). m.leases) changes.here);
        place = sym (served-place k name its-line (LivingBody result.left) s.may c served named-is script b.places p
            place);
        alive = sym c.caller.lives;
        call = refl;
        frames_about = λ to sender. sym (made-same script p w next after-node [] [] (entry ∷ []) changes
            (λ t q fs. filter (is_about p t q) fs) (λ t q. filter-is-list-map (is_about p t q)) tt tt to sender);
        held = λ m. sym (ap (λ (d : Directory). filter (is_item_about p) (held_for d m)) same-there);
        hand = refl;
        waiters = λ m. sym (ap (filter (is_waiter_of p))
            (process-waiters script w [] Nothing b holds c.next objects m));
      }

  call-now : CallHolds script p (is_born_in next) (call_sight next [] moved p)
  call-now = call-stays script p (is_born_in w) (is_born_in next) _ _ more sight-now call-ended

  cancel-now : CancelHolds p Nothing (cancel_sight next [] moved p)
  cancel-now =
      cancel-alone script w b holds p low high s reply c.next places-now step own-home no-child objects leaves next
      after-node changes history-now is-answered.free refl is-answered.ticket_is
      (λ m. ap (λ (d : Directory). filter (is_held_cancel_of p) (held_for d m)) same-there)

  -- the names

  leaves-name : (m : Name) → m ≢ name → is_found reply m ≡ false
      → LeavesName w next [] [] b moved p after-node changes.left m
  leaves-name m d not =
      record {
        directory = same-directory (directory_of w) (directory_of next) same-there m;
        used_is = used-kept k pid call reply c.next c.enters m;
        part_is = body-stays m d not;
        body_is = process-unchanged script w [] Nothing b holds c.next objects m (body-stays m d not);
        deed_is = refl;
        held_is = others-there m d not;
        begins_is = λ holds_it comes. refl;
        hand_is = refl;
        steps_are = λ used y. refl;
        ranges_are = λ used y. refl;
      }

  rebodies : (m : Name) → b.deed m ≡ InTable p → get_named deeds-now m ≡ Some (moved.body m)
      → NameHolds script b.pids (is_born_in next) m (name_sight script next [] moved m)
  rebodies m deed now =
      let old : NameHolds script b.pids (is_born_in w) m (name_sight script w [] b m) = holds.names m
      in name-stays script b.pids (is_born_in w) (is_born_in next) m _ _ more
      (name-seen-rebodied script p w next after-node [] [] (entry ∷ []) changes [] [] b moved m old.tables
      (record {
        directory = same-directory (directory_of w) (directory_of next) same-there m;
        used_is = used-kept k pid call reply c.next c.enters m;
        deed_was = deed;
        deed_is = refl;
        held_is = now;
        begins_is = λ holds_it comes. refl;
        hand_is = refl;
        steps_are = λ used y. refl;
        ranges_are = λ used y. refl;
      }) tt tt)
      (name-rebodied script b.pids (is_born_in w) m (name_sight script w [] b m) p (body_in c.next m) (moved.body m)
      (process-is-body script w [] Nothing b holds c.next objects m) deed old)

  names-now : (m : Name) → NameHolds script b.pids (is_born_in next) m (name_sight script next [] moved m)
  names-now m =
      elim (name-cases m name) [
        | inl e ↦ rebodies m (ap b.deed e ∙ s.deed) (at-name m e)
        | inr d ↦ by-found d (is_found reply m) refl
      ]
    where
      at-name : (m : Name) → m ≡ name → get_named deeds-now m ≡ Some (moved.body m)
      at-name m e =
          subst (λ (y : Name). get_named deeds-now y ≡ Some (moved.body y)) (sym e) (name-there ∙ ap Some (sym c.there))

      child-gone : (f : FindsOne reply) → m ≡ Proc f.child → is_found reply m ≡ true → moved.body m ≡ Gone
      child-gone f m-is there =
          ap moved.body m-is ∙ c.found (Proc f.child) (ap (is_found reply) (sym m-is) ∙ there)

      by-found : m ≢ name → (t : Bool) → is_found reply m ≡ t
          → NameHolds script b.pids (is_born_in next) m (name_sight script next [] moved m)
      by-found d true there =
          let f : FindsOne reply = found-one reply m there
          in let m-is : m ≡ Proc f.child =
          found-is f.child f.ending m (ap (λ (r : Reply). is_found r m) (sym f.is) ∙ there)
          in rebodies m (found-deed m there) (found-there m there ∙ ap Some (sym (child-gone f m-is there)))
      by-found d false not =
          name-stays script b.pids (is_born_in w) (is_born_in next) m _ _ more
          (name-left-alone script p w next after-node [] [] (entry ∷ []) changes [] [] b moved m (leaves-name m d not)
          tt tt) (holds.names m)

  -- the numbers

  numbers-now : (kind : Kind) → KindHolds (is_born_in next) (kind_sight next c.next kind)
  numbers-now kind =
      kind-stays (is_born_in w) (is_born_in next) _ _ more
      (kind-left-alone script p w next after-node [] [] (entry ∷ []) changes k c.next kind
      (λ number. ap (λ used. is_used used number) (c.enters.used kind)) refl
      (ap (λ (d : Directory). for_kind d.ranges kind) same-there) tt tt) (holds.kinds kind)

  few-now : (kind : Kind) → FewRanges script next b.call kind
  few-now kind =
      few-after script w next [] [] Nothing Nothing b moved p after-node [] [] (entry ∷ []) p low high holds
      changes move kind (ap (λ (d : Directory). for_kind d.ranges kind) same-there) (λ y. refl)

  -- The call is carried out, and none is under way.
  pub own-call-keeps : KeepsAs script w (events.Run p) moved
  own-call-keeps =
      record {
        next = next;
        is_step = run-steps script w p after holds.shape low high rule;
        holds = entry-keeps script w next [] [] Nothing Nothing b moved p after-node [] [] (entry ∷ []) p low
            high holds changes move call-now cancel-now names-now numbers-now few-now;
      }
