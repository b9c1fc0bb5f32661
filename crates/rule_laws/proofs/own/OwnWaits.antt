-- A node carries out a call of its process on the process itself that has no reply: a `waitpid` that finds only living
-- children. It parks, and all else stays.
use Rattle.std.proofs.Common.{◌≡◌, ◌≢◌, ℕ, ◌≤◌, true, false, if◌then◌else◌, [], ◌∷◌, filter, Option, Some, None, refl, ap, sym, subst, ◌∙◌, inl, inr, append-nil, arith}
use Rattle.std.proofs.lemmas.Bool.{cases_eq, eq-eqb, ne_eqb}
use Rattle.pico_base.specs.declared.call.Call.{Call}
use Rattle.pico_base.specs.declared.call.Home.TheVariants as homes
use Rattle.pico_base.specs.declared.numbers.Kind.{Kind}
use Rattle.pico_base.specs.declared.numbers.Name.{Name}
use Rattle.pico_base.specs.declared.numbers.Name.TheVariants.{Proc}
use Rattle.pico_base.specs.declared.reply.Entry.{Entry}
use Rattle.pico_base.specs.declared.reply.Reply.{Reply}
use Rattle.pico_base.specs.declared.script.Event.TheVariants as events
use Rattle.pico_base.specs.declared.script.Script.{Script}
use Rattle.pico_base.specs.Home.{home_of}
use Rattle.kernel_model.specs.Kernel.{Kernel}
use Rattle.kernel_model.specs.Row.{Row}
use Rattle.kernel_model.specs.Row as plain_rows
use Rattle.kernel_model.specs.Script.{IsSoundScript}
use Rattle.kernel_model.specs.Transition as plain_steps
use Rattle.waiting_model.specs.declared.callers.Waiting.{Waiting}
use Rattle.waiting_model.specs.Calls.{may_park}
use Rattle.waiting_model.specs.Linear.{at_once}
use Rattle.waiting_laws.proofs.Leads.{ParksAlike, own-parks}
use Rattle.entry_laws.proofs.Holding.{ServesHere, is_found_by, served_deeds}
use Rattle.node_model.specs.Awaiting.{on_own}
use Rattle.node_model.specs.Bodies.{Deeds, Living as LivingBody}
use Rattle.node_model.specs.Caller.{Caller, start_call}
use Rattle.node_model.specs.Carrying.{is_own, is_served}
use Rattle.node_model.specs.Directory.{Directory, held_for}
use Rattle.node_model.specs.Entries.{entry_with, outcome_with}
use Rattle.node_model.specs.Kinds.{for_kind, get_named}
use Rattle.world_model.specs.Node.{Node, Stage, Living, Left, asked_here, can_run}
use Rattle.world_model.specs.Starting.{run}
use Rattle.world_model.specs.Step.{Step, reply_if}
use Rattle.world_model.specs.World.{World, node_count, world_after}
use Rattle.world_laws.specs.Places.{Beside, CallPlace, Parked, call_in}
use Rattle.world_laws.specs.Sights.{node_of, directory_of, is_born_in}
use Rattle.world_laws.specs.Names.{NameHolds, name_sight}
use Rattle.world_laws.specs.Callers.{CallHolds, CallSight, HasCall, call_sight, is_about, is_at_work, is_end_place, is_item_about, may_be_in}
use Rattle.world_laws.specs.Cancels.{CancelHolds, Nothing, cancel_sight, is_held_cancel_of}
use Rattle.world_laws.specs.Families.{HoldsIn, NodeHolds}
use Rattle.world_laws.specs.Invariant.{Holds}
use Rattle.world_laws.specs.Ranges.{FewRanges, KindHolds, has_lease, kind_sight}
use Rattle.world_laws.specs.Wholes.{HasMarks, HasWhole, under_way_at}
use Rattle.world_laws.proofs.Changes.{Changes, filter-is-list-map, made-same, read-same, stayed}
use Rattle.world_laws.proofs.LeftAlone.{LeavesName, kind-left-alone, name-left-alone, same-directory}
use Rattle.world_laws.proofs.Named.{name-cases}
use Rattle.world_laws.proofs.Stays.{IsMore, SameCall, call-stays, kind-stays, name-stays}
use Rattle.world_laws.proofs.Steps.{KeepsAs, changes-by-run, run-steps}
use Rattle.rule_laws.proofs.CallMoves.{IsCallMove, call-move-keeps, move-born, ranges-still, same-but-call, steps-still}
use Rattle.rule_laws.proofs.own.EntryMoves.{few-longer}
use Rattle.rule_laws.proofs.own.InWhole.{EntersAlone, has-whole-then, other-withdrawal}
use Rattle.rule_laws.proofs.own.OwnResults.{WaitsForChild, own-waits, waits-in-whole}
use Rattle.rule_laws.proofs.own.OwnServed.{home-is, own-rule, own_caller, serves}
use Rattle.rule_laws.proofs.own.Runs.{Starts}
use Rattle.rule_laws.proofs.own.Starting.{cancel-begun, its-process, starts-may}

module _ (script : Script) (sound : IsSoundScript script) (w : World) (b : Beside) (holds : Holds script w [] b) (p : ℕ)
    (low : 1 ≤ p) (high : p ≤ node_count script) (can : can_run (node_of w p) ≡ true) (s : Starts script w b p)
    (own : is_own (node_of w p).pid s.call ≡ true) (served : is_served (at_once s.call) ≡ true)
    (unreplied : (on_own s.row (b.pids p) s.call).own ≡ None) where
  abbrev n : Node
  n = node_of w p

  abbrev k : Kernel
  k = b.kernel

  abbrev pid : ℕ
  pid = b.pids p

  abbrev name : Name
  name = Proc pid

  abbrev call : Call
  call = s.call

  abbrev x : CallSight
  x = call_sight w [] b p

  node-holds : NodeHolds script b.pids (is_born_in w) p n
  node-holds = holds.nodes p low high

  whole-is : HasWhole w b
  whole-is = holds.whole

  pid-is : n.pid ≡ pid
  pid-is = s.birth.pid_is

  waits : WaitsForChild s.row pid call
  waits = own-waits s.row pid call unreplied

  pub parks : may_park call ≡ true
  parks = ap may_park waits.is

  home : home_of n.pid call ≡ homes.Own
  home = ap (λ (q : ℕ). home_of q call) pid-is ∙ home-is script sound w b holds p low high can s own served

  abbrev who : Waiting
  who = own_caller script sound w b holds p low high can s own served

  here : ServesHere n.deeds name (LivingBody s.row) who
  here = serves script sound w b holds p low high can s own served

  -- what it comes to

  abbrev deeds-now : Deeds
  deeds-now = served_deeds n.deeds name (LivingBody (on_own s.row pid call).left) None

  abbrev started : Caller
  started = start_call n.caller call

  abbrev after-node : Node
  after-node = record n { caller = started; deeds = deeds-now }

  abbrev entry : Entry
  entry = entry_with p pid call (outcome_with None [])

  abbrev after : Step
  after = record { node = after-node; entries = entry ∷ []; sends = []; strikes = false }

  abbrev next : World
  next = world_after w p after

  -- the step, by the numbers that the node has
  abbrev step-with : ℕ → ℕ → Step
  step-with number process =
      record {
        node = after-node;
        entries = entry_with number process call (outcome_with None []) ∷ [];
        sends = [];
        strikes = false;
      }

  rule : run script n ≡ Some after
  rule =
      own-rule script sound w b holds p low high can s own served
      ∙ ap (λ (o : Option Reply). Some (reply_if script
      (record {
        node = record n {
          caller = started;
          deeds = served_deeds n.deeds name (LivingBody (on_own s.row pid call).left) o;
        };
        entries = entry_with n.number n.pid call (outcome_with o []) ∷ [];
        sends = [];
        strikes = false;
      }) (asked_here (record n { caller = started }) call) o)) unreplied
      ∙ ap (λ number. Some (step-with number n.pid)) node-holds.number
      ∙ ap (λ process. Some (step-with p process)) pid-is

  -- The row is put back as it was, so the table is the same.

  at-name : get_named deeds-now name ≡ get_named n.deeds name
  at-name =
      sym (ap (λ o. get_named (served_deeds n.deeds name (LivingBody (on_own s.row pid call).left) o) name) unreplied)
      ∙ here.here ∙ ap (λ r. Some (LivingBody r)) waits.left
      ∙ sym (ap (λ (q : ℕ). get_named n.deeds (Proc q)) (sym pid-is) ∙ s.has_row)

  pub held-same : (m : Name) → get_named deeds-now m ≡ get_named n.deeds m
  held-same m =
      elim (name-cases m name) [
        | inl e ↦ subst (λ (y : Name). get_named deeds-now y ≡ get_named n.deeds y) (sym e) at-name
        | inr d ↦
            sym (ap (λ o. get_named (served_deeds n.deeds name (LivingBody
            (on_own s.row pid call).left) o) m) unreplied)
            ∙ here.others m d (ap (λ o. is_found_by o m) unreplied)
      ]

  -- It parks in the kernel in which callers wait, too.
  pub parked : ParksAlike b.whole pid call k
  parked =
      let process = its-process script w b holds p low high s
      in own-parks b.whole k pid process.alive call whole-is.alike process.lives
      (starts-may script w b holds p low high s)
      (waits-in-whole s.row pid call process.alive (process.row ∙ s.row_is) waits)

  abbrev calls-now : ℕ → CallPlace
  calls-now = call_in b.call p Parked

  abbrev pub parked_beside : Beside
  parked_beside = record b { call = calls-now; whole = parked.next }

  changes : Changes script p w next after-node [] [] (entry ∷ [])
  changes = changes-by-run script w holds.shape p after low high tt

  same-there : directory_of next ≡ directory_of w
  same-there =
      read-same script p w next after-node [] [] (entry ∷ []) changes (λ (m : Node). m.leader.directory) refl 1

  node-now : NodeHolds script b.pids (is_born_in w) p after-node
  node-now =
      record {
        number = node-holds.number;
        holds = subst (λ (stage : Stage). HoldsIn p after-node stage) (sym s.stage)
            (record { row = s.row; here = held-same (Proc n.pid) ∙ s.has_row });
        birth = node-holds.birth;
        first = node-holds.first;
        others = node-holds.others;
        rows = λ q row there. node-holds.rows q row (sym (held-same (Proc q)) ∙ there);
        owners = node-holds.owners;
      }

  here-now : calls-now p ≡ Parked
  here-now = ap (λ t. if t then Parked else b.call p) (eq-eqb p p refl)

  elsewhere : (y : ℕ) → y ≢ p → calls-now y ≡ b.call y
  elsewhere y d = ap (λ t. if t then Parked else b.call y) (ne_eqb p y (λ e. d (sym e)))

  under-way : under_way_at next p ≡ Some call
  under-way = ap (λ (m : Node). m.caller.under_way) changes.here

  same-alive : (a c : plain_rows.Alive) → Some a ≡ Some c → a ≡ c
  same-alive a c h = cc

  enters : EntersAlone w next b parked_beside p p call None
  enters =
      record {
        step = parked.step 0;
        keeps = parked.keeps;
        ends_no_wait = s.due_now.not_withdrawal;
        may = λ a lives. subst (λ (z : plain_rows.Alive). plain_steps.may_make z call ≡ true)
            (same-alive s.alive a (sym s.lives ∙ lives)) s.due_now.may;
        journal = changes.journal;
        lines = sym (append-nil b.lines);
        led = holds.history.legal;
        leads = holds.history.legal;
        parts = λ m. let known : NameHolds script b.pids (is_born_in w) m (name_sight script w [] b m) = holds.names m
            in known.parts;
        waiters = λ m. refl;
        own_pid = refl;
        own_marks = λ a marks. subst (λ o. HasMarks (calls-now p) o a) (sym under-way)
            (subst (λ c. HasMarks c (Some call) a) (sym here-now) marks);
        others = λ y d. inl (refl, λ e. d (sym (holds.pids.apart p y s.birth.forked (sym e))));
        calls = λ y d same. (elsewhere y d, ap (λ (z : Node). z.caller.under_way) (changes.others y d));
        dead = λ y d same dead. dead;
      }

  move : IsCallMove script w next [] [] Nothing Nothing b parked_beside p after-node [] [] p
  move =
      record {
        stage = refl;
        under_way = λ left. absurd (left-not (sym s.stage ∙ left));
        own = λ d. absurd (d refl);
        queue_keys = refl;
        set_keys = refl;
        directory = same-but-call p (directory_of w) (directory_of next) same-there holds.leading;
        node = node-now;
        deeds = λ q. refl;
        calls = λ y d. elsewhere y d;
        hand_of_others = λ y d. refl;
        parcels_at_hand = λ parcel there. there;
        whole = λ h. has-whole-then w next b parked_beside p p call None h enters;
        waiters_of_others = λ y d m. refl;
        cancel_of_others = λ y d. refl;
        owed_of_others = λ y d same h. other-withdrawal w next b parked_beside p p call None whole-is enters y d refl
            (λ e. d (sym (holds.pids.apart p y s.birth.forked (sym e)))) (λ a lives. refl) [] [] Nothing same h;
        plain_taken = tt;
        plain_sent = tt;
        no_birth_taken = tt;
        no_birth_sent = tt;
        of_no_other = λ y d. tt;
        sent_of_no_other = λ y d. tt;
        no_cancel_taken = λ y d. tt;
        no_cancel_sent = λ y d. tt;
        may_be_sent = tt;
        to_others = tt;
      }
    where
      left-not : Living ≡ Left → ⊥
      left-not h = cc

  more : IsMore (is_born_in w) (is_born_in next)
  more =
      move-born script w next [] [] Nothing Nothing b parked_beside p after-node [] [] (entry ∷ []) p low high holds
      changes move

  -- the call

  abbrev out : CallSight
  out = record x { caller = started; call = Parked }

  has-call : HasCall script p (is_born_in w) out call
  has-call =
      record {
        just_there = record {
          in_streams = s.nowhere.in_streams;
          held_for_names = s.nowhere.held_for_names;
          in_hand = s.nowhere.in_hand;
          waiting = s.nowhere.waiting;
        };
        home = ap (λ home. may_be_in Parked home call) home ∙ parks;
        used_up = tt;
        between = tt;
        so_far = record {
          there = s.free.there;
          due = s.due_now.due;
          alive = s.alive;
          lives = s.lives;
          may = s.due_now.may;
        };
        at_work = ap is_at_work s.stage;
        started = omega arith;
        tickets = let few = s.free.tickets in omega (arith, few);
        try_left = s.free.try_left;
      }

  call-out : CallHolds script p (is_born_in w) out
  call-out =
      let old : CallHolds script p (is_born_in w) x = holds.calls p low high
      in record { call = has-call; ends = sym (ap is_end_place s.idle) ∙ old.ends }

  sight-now : SameCall out (call_sight next [] parked_beside p)
  sight-now =
      record {
        number = sym (ap (λ (m : Node). m.number) changes.here);
        pid = sym (ap (λ (m : Node). m.pid) changes.here);
        stage = sym (ap (λ (m : Node). m.stage) changes.here);
        caller = sym (ap (λ (m : Node). m.caller) changes.here);
        leases = sym (ap (λ (m : Node). m.leases) changes.here);
        place = refl;
        alive = refl;
        call = sym here-now;
        frames_about = λ to sender. sym (made-same script p w next after-node [] [] (entry ∷ []) changes
            (λ t q fs. filter (is_about p t q) fs) (λ t q. filter-is-list-map (is_about p t q)) tt tt to sender);
        held = λ m. sym (ap (λ (d : Directory). filter (is_item_about p) (held_for d m)) same-there);
        hand = refl;
        waiters = λ m. refl;
      }

  call-now : CallHolds script p (is_born_in next) (call_sight next [] parked_beside p)
  call-now = call-stays script p (is_born_in w) (is_born_in next) _ _ more sight-now call-out

  cancel-now : CancelHolds p Nothing (cancel_sight next [] parked_beside p)
  cancel-now =
      cancel-begun script w b holds p low high s next [] after-node [] []
      (entry ∷ []) changes parked_beside refl refl refl
      refl refl parked.alike (λ m. ap (λ (d : Directory). filter (is_held_cancel_of p)
      (held_for d m)) same-there) refl tt
      tt (is_born_in next) call-now

  -- names and numbers

  -- no frame was about it
  left-alone : (t q : ℕ) → filter (is_about p t q) (changes.left t q) ≡ []
  left-alone t q =
      stayed script p w next after-node [] [] (entry ∷ []) changes (λ t q fs. filter (is_about p t q) fs)
      (λ t q. filter-is-list-map (is_about p t q)) tt t q
      ∙ s.nowhere.in_streams t q

  leaves-name : (m : Name) → LeavesName w next [] [] b parked_beside p after-node changes.left m
  leaves-name m =
      record {
        directory = same-directory (directory_of w) (directory_of next) same-there m;
        used_is = refl;
        part_is = refl;
        body_is = refl;
        deed_is = refl;
        held_is = held-same m;
        begins_is = λ holds_it comes. refl;
        hand_is = refl;
        steps_are = λ used y. steps-still script w next [] [] Nothing Nothing b parked_beside p after-node [] []
            (entry ∷ []) p low high holds changes move used y (left-alone y 1) m;
        ranges_are = λ used y. ranges-still script w next [] [] Nothing Nothing b parked_beside p after-node [] []
            (entry ∷ []) p low high holds changes move used y (left-alone y 1) m;
      }

  names-now : (m : Name) → NameHolds script b.pids (is_born_in next) m (name_sight script next [] parked_beside m)
  names-now m =
      name-stays script b.pids (is_born_in w) (is_born_in next) m _ _ more
      (name-left-alone script p w next after-node [] [] (entry ∷ []) changes [] [] b parked_beside m (leaves-name m) tt
      tt) (holds.names m)

  numbers-now : (kind : Kind) → KindHolds (is_born_in next) (kind_sight next b.kernel kind)
  numbers-now kind =
      kind-stays (is_born_in w) (is_born_in next) _ _ more
      (kind-left-alone script p w next after-node [] [] (entry ∷ []) changes b.kernel b.kernel kind
      (λ number. refl) refl
      (ap (λ (d : Directory). for_kind d.ranges kind) same-there) tt tt) (holds.kinds kind)

  lease-same : (kind : Kind) (y : ℕ) → has_lease kind (calls-now y) ≡ has_lease kind (b.call y)
  lease-same kind y =
      elim (cases_eq y p) [
        | inl e ↦
            subst (λ z. has_lease kind (calls-now z) ≡ has_lease kind (b.call z)) (sym e)
            (ap (has_lease kind) here-now ∙ sym (ap (has_lease kind) s.idle))
        | inr d ↦ ap (has_lease kind) (elsewhere y d)
      ]

  few-now : (kind : Kind) → FewRanges script next calls-now kind
  few-now kind =
      few-longer script p w next after-node [] [] (entry ∷ []) changes b.call calls-now kind
      (ap (λ (d : Directory). for_kind d.ranges kind) same-there) (lease-same kind) (holds.few kind)

  -- The call waits at its own process.
  pub own-wait-keeps : KeepsAs script w (events.Run p) parked_beside
  own-wait-keeps =
      record {
        next = next;
        is_step = run-steps script w p after holds.shape low high rule;
        holds = call-move-keeps script w next [] [] Nothing Nothing b parked_beside p after-node [] []
            (entry ∷ []) p low
            high holds changes move call-now cancel-now names-now numbers-now few-now;
      }
