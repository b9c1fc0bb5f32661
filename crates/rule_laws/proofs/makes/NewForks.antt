-- A node's process forks, whatever the number's source: its row lists the child, whose deed goes to the block's node
-- in a Checkpoint, and the child's place is told, or placed.
use Rattle.std.proofs.Common.{◌≡◌, ◌≢◌, ◌⊎◌, ℕ, ◌≤◌, Bool, true, false, ◌&&◌, cond, not, if◌then◌else◌, List, [], ◌∷◌, ◌++◌, filter, flat_map, nat_eq, Contains, Option, Some, None, is_none, is_some, option_and_then, option_map, refl, ap, sym, subst, ◌∙◌, inl, inr, arith, append-nil}
use Rattle.std.specs.List.{AllByRecursion}
use Rattle.std.proofs.lemmas.Bool.{cases_eq, eq-eqb, eqb-true, ne_eqb, false≢true}
use Rattle.pico_base.specs.declared.call.Call.{Call}
use Rattle.pico_base.specs.declared.call.Call.TheVariants as calls
use Rattle.pico_base.specs.declared.numbers.Kind.{Kind}
use Rattle.pico_base.specs.declared.numbers.Kind.TheVariants as kinds
use Rattle.pico_base.specs.declared.numbers.Name.{Name}
use Rattle.pico_base.specs.declared.numbers.Name.TheVariants.{Proc, Msg, Sem}
use Rattle.pico_base.specs.declared.reply.Entry.{Entry}
use Rattle.pico_base.specs.declared.reply.Reply.{Reply}
use Rattle.pico_base.specs.declared.reply.Reply.TheVariants as replies
use Rattle.pico_base.specs.declared.script.Event.{Event}
use Rattle.pico_base.specs.declared.script.Script.{Script}
use Rattle.rpc_frame.specs.declared.deed.PackedDeed.{PackedDeed}
use Rattle.rpc_frame.specs.declared.frame.Frame.{Frame}
use Rattle.rpc_frame.specs.declared.frame.Frame.TheVariants as frames
use Rattle.number_maps.specs.Maps.{get}
use Rattle.kernel_model.specs.Fitting.{Place, Places, child_vars, places_after}
use Rattle.kernel_model.specs.Kernel.{living_at}
use Rattle.kernel_model.specs.Kernel as kernel
use Rattle.kernel_model.specs.Row.{Row}
use Rattle.kernel_model.specs.Script.{IsSoundScript}
use Rattle.entry_laws.specs.Entering.{is_used_name}
use Rattle.entry_laws.proofs.Fresh.{Forks}
use Rattle.entry_laws.proofs.History.{ForkPlaces, fork-places}
use Rattle.entry_laws.proofs.Numbers.{used-made, used-others}
use Rattle.node_model.specs.Bodies.{Body, Living as LivingBody, body_in, row_of, waiters_of}
use Rattle.node_model.specs.Caller.{answer_call, caller_place}
use Rattle.node_model.specs.Directory.{Directory, is_known, is_parcel_with, maker}
use Rattle.node_model.specs.Kinds.{get_named, is_object, put_named, with_kind}
use Rattle.node_model.specs.Serving.{child_body, parent_body}
use Rattle.node_model.specs.Spelling.{pack}
use Rattle.world_model.specs.Census.{brings}
use Rattle.world_model.specs.Node.{Node, Stage, Living, Left, Unborn, unborn_node}
use Rattle.world_model.specs.Numbers.{fork_with, make_with, tell_place}
use Rattle.world_model.specs.Step.{Step, send, step_to}
use Rattle.world_model.specs.World.{World, node_count, is_checkpoint}
use Rattle.world_laws.specs.Places.{Beside, CallPlace, DeedPlace, InCheckpoint, InTable, Unmade, deed_in}
use Rattle.world_laws.specs.Sights.{directory_of, frames_to, is_born_in, node_of, stage_of}
use Rattle.world_laws.specs.Names.{IsBringer, IsCheckpointOf, NameHolds, NameSight, OneIf, PlaysTo, SaysOf, comes_to, forker, held_as, held_at, is_hand_place, is_kept_for, is_stream_of, may_be_at, name_sight, range_steps_of}
use Rattle.world_laws.specs.Ranges.{kind_sight}
use Rattle.world_laws.specs.Families.{FamilyHolds, HoldsIn, NodeHolds, checkpoints_to}
use Rattle.world_laws.specs.Invariant.{FramesFit, Holds, process_deed}
use Rattle.rpc_frame.specs.declared.deed.Parcel.{Parcel}
use Rattle.node_model.specs.declared.held.Held.TheVariants.{Ending}
use Rattle.node_model.specs.Entries.{entry_by}
use Rattle.world_laws.specs.Callers.{CallHolds, CallSight, FreeIn, HasCallOrNone, call_sight, is_about, is_end_place, is_end_stage, is_item_about, is_waiter_of}
use Rattle.world_laws.specs.Cancels.{CancelHolds, Nothing, cancel_sight, is_held_cancel_of}
use Rattle.world_laws.specs.Wholes.{under_way_at}
use Rattle.waiting_model.specs.Calls.{may_park, waits_at}
use Rattle.world_laws.proofs.Cancels.{cancel-left-alone, is_item_of, same-later}
use Rattle.world_laws.proofs.Replied.{cancel-over}
use Rattle.rule_laws.proofs.Nowhere.{nowhere-unused, still-unknown}
use Rattle.rule_laws.proofs.Withdrawals.{idle-uncancelled, old-still}
use Rattle.rule_laws.proofs.own.Alone.{process-is-body, process-unchanged, process-waiters}
use Rattle.rule_laws.proofs.own.Bodies.{process_bodies}
use Rattle.rule_laws.proofs.own.Entries.{StillLives}
use Rattle.rule_laws.proofs.own.InWhole.{EntersAlone, IsNewProcess, has-whole-then, other-withdrawal}
use Rattle.rule_laws.proofs.makes.Entered.{entered_by, made-enters}
use Rattle.rule_laws.proofs.makes.FirstUsed.{plays-of-process}
use Rattle.world_laws.proofs.Frames.{all-weaker, not-about}
use Rattle.world_laws.proofs.LeftAlone.{call-left-alone, frames-still-fit, other-node-stays, parcel-was-there, sender-stays, way-left-alone}
use Rattle.world_laws.proofs.Changes.{Changes, IsListMap, MakesNothing, filter-is-list-map, flat_map-is-list-map, frames_if, made-after, made-same, nothing-sent, read-same, sent}
use Rattle.world_laws.proofs.Heads.{kept-of-sent}
use Rattle.world_laws.proofs.NameFacts.{held-elsewhere, held-here, one-if-sent}
use Rattle.world_laws.proofs.Numbers.{zero-is-unused}
use Rattle.world_laws.specs.Plays.{Comes, Has, Lacks, begin, has_any, is_checkpoint_of, placed_in, play, plays, steps_if, steps_of}
use Rattle.world_laws.specs.Ways.{HasSender, IsHere, IsParcelIn, Way, here, knows_parent, under_way_of, way_sight}
use Rattle.world_laws.proofs.Named.{get-put-other-name, get-put-same-name, name-cases, other-name, same-name}
use Rattle.world_laws.proofs.Sends.{AreToNodes, frame_if}
use Rattle.world_laws.proofs.Stays.{IsMore, SameName, SameWay, call-stays, name-stays, node-born, way-stays}
use Rattle.world_laws.proofs.Steps.{KeepsAs}
use Rattle.rule_laws.proofs.own.Others.{call-goes-on}
use Rattle.rule_laws.proofs.own.Rebodied.{IsBodyOf, name-rebodied}
use Rattle.world_laws.proofs.Changes.{still-born}
use Rattle.rule_laws.proofs.makes.CallsOver.{carried-here}
use Rattle.rule_laws.proofs.makes.Counts.{few-now, kinds-now}
use Rattle.rule_laws.proofs.makes.ForkFamilies.{family-new, family-still}
use Rattle.rule_laws.proofs.makes.Directories.{IsAfter, after-is, directory-now, place_if, placed_if, tell-is, tells_if}
use Rattle.rule_laws.proofs.makes.ForkKin.{ForkLeaves, apart-child, now-other, now-parent, now-there, others-go-on, pids-forked, with-pid-other, with_pid}
use Rattle.rule_laws.proofs.makes.Forked.{fork-entry, fork-kind, fork-leaves}
use Rattle.rule_laws.proofs.makes.Forkers.{IsForkedFrom}
use Rattle.rule_laws.proofs.makes.MorePids.{born-with, node-with, sender-with, way-with}
use Rattle.rule_laws.proofs.makes.FromLease.{frames-of-none}
use Rattle.rule_laws.proofs.makes.Lacking.{no-checkpoint-brought, nothing-played}
use Rattle.rule_laws.proofs.makes.NewOnes.{AreMore, IsNew, brought-nowhere, held-nowhere, name-new, name-with-more}
use Rattle.rule_laws.proofs.makes.Handed.{handed-has-left, left-is-forked}
use Rattle.rule_laws.proofs.makes.Ready.{calls-now, left-same, left-steps, name-is-ready, other-seen, others-same, ready-name}
use Rattle.rule_laws.proofs.makes.Sources.{Gives, Origin, Source, directory_by, ready_node, takes_by}
use Rattle.rule_laws.proofs.makes.Taken.{call-after, cancel-after, free-after, history-after, keys-after, name-maker, name-unknown, name-unused, some-node, taken-no-cancel, taken-of-no-other, taken-plain}
use Rattle.rule_laws.proofs.makes.Told.{belief-now, bound-now, found-now, items-now, leased-now, ranged-now, sent-append, told-now, unplaced-now}
use Rattle.rule_laws.proofs.makes.Unforked.{from-here, is-unborn, no-births, not-forked, unborn-call, unborn-here, unborn-stage}

module _ (script : Script) (sound : IsSoundScript script) (w : World) (b : Beside) (holds : Holds script w [] b) (p : ℕ)
    (block : ℕ) (kind : Kind) (number : ℕ) (numbers : List ℕ) (o : Origin) (e : Event)
    (s : Source script w b p (calls.Fork block) kind number numbers o e) where
  abbrev n : Node
  n = node_of w p

  abbrev pid : ℕ
  pid = b.pids p

  abbrev call : Call
  call = calls.Fork block

  abbrev reply : Reply
  reply = replies.Num number

  abbrev name : Name
  name = Proc number

  abbrev place : Place
  place = caller_place script p s.caller

  node-holds : NodeHolds script b.pids (is_born_in w) p n
  node-holds = holds.nodes p s.low s.high

  -- ---- the step

  abbrev packed : PackedDeed
  packed = pack name (child_body s.row)

  abbrev checkpoint-with : ℕ → ℕ → Frame
  checkpoint-with q process =
      frames.Checkpoint number process packed (child_vars (caller_place script q s.caller))

  abbrev checkpoint : Frame
  checkpoint = frames.Checkpoint number pid packed (child_vars place)

  abbrev step-with : ℕ → ℕ → Step
  step-with q process =
      record {
        node =
            record n {
              caller = answer_call script q s.caller call reply;
              deeds = put_named n.deeds (Proc process) (parent_body s.row number);
              leases = with_kind n.leases kind numbers;
              leader =
                  record n.leader {
                    directory = placed_if (nat_eq p 1) (directory_by n.leader.directory kind o) name block;
                  };
            };
        entries = entry_by q process call reply ∷ [];
        sends = (block, checkpoint-with q process) ∷ tells_if (nat_eq p 1) name block;
        strikes = false;
      }

  abbrev after-node : Node
  after-node =
      record n {
        caller = answer_call script p s.caller call reply;
        deeds = put_named n.deeds (Proc pid) (parent_body s.row number);
        leases = with_kind n.leases kind numbers;
        leader =
            record n.leader { directory = placed_if (nat_eq p 1) (directory_by n.leader.directory kind o) name block };
      }

  abbrev births : List (ℕ × Frame)
  births = (block, checkpoint) ∷ []

  abbrev sends : List (ℕ × Frame)
  sends = births ++ tells_if (nat_eq p 1) name block

  abbrev entries : List Entry
  entries = entry_by p pid call reply ∷ []

  abbrev after : Step
  after = record { node = after-node; entries = entries; sends = sends; strikes = false }

  abbrev ready : Node
  ready = ready_node n s.caller kind numbers o

  abbrev held : Step
  held =
      record {
        node = record ready { deeds = put_named n.deeds (Proc n.pid) (parent_body s.row number) };
        entries = [];
        sends = [];
        strikes = false;
      }

  abbrev replied : Step
  replied =
      record {
        node = record held.node { caller = answer_call script n.number s.caller call reply };
        entries = entry_by n.number n.pid call reply ∷ [];
        sends = [];
        strikes = false;
      }

  rule : make_with script (step_to ready) call number ≡ Some after
  rule =
      ap (λ body. option_map (fork_with script (step_to ready) call block number) (row_of body)) s.has_row
      ∙ ap (λ st. Some (tell_place (send st block (checkpoint-with n.number n.pid)) name block))
      (carried-here script held call reply s.under_way)
      ∙ ap Some
      (tell-is (send replied block (checkpoint-with n.number n.pid)) name block (nat_eq p 1)
      (ap (λ q. nat_eq q 1) node-holds.number))
      ∙ ap (λ q. Some (step-with q n.pid)) node-holds.number
      ∙ ap (λ process. Some (step-with p process)) s.birth.pid_is

  -- the block is one behind this node's
  from : IsForkedFrom script p block
  from = from-here script sound w b holds p block kind number numbers o e s

  -- a fact of what is sent
  of-sends : (P : ℕ × Frame → Type 0) → P (block, checkpoint) → (p ≢ 1 → P (1, frames.Placed name block))
      → AllByRecursion P sends
  of-sends P first h = (first, by-test (nat_eq p 1) refl)
    where
      by-test : (t : Bool) → nat_eq p 1 ≡ t → AllByRecursion P (tells_if t name block)
      by-test true i = tt
      by-test false i = (h (λ one. false≢true (sym i ∙ eq-eqb p 1 one)), tt)

  to-nodes : AreToNodes (node_count script) sends
  to-nodes =
      of-sends _
      (record { low = let low = from.low in omega (arith, low); high = from.high })
      (λ other. record { low = omega arith; high = some-node script w b holds p call kind number numbers o e s })

  -- which is the event's
  pub given : Gives script w p e (takes_by kind o) after
  given = s.gives after to-nodes refl rule

  abbrev next : World
  next = given.next

  abbrev changes : Changes script p w next after-node (takes_by kind o) sends entries
  changes = given.changes

  -- ---- beside the world

  pub forks : Forks b.kernel pid block number s.row
  forks = fork-entry script sound w b holds p block kind number numbers o e s

  abbrev places-now : Places
  places-now = places_after script b.places (entry_by p pid call reply) place

  abbrev pids-now : ℕ → ℕ
  pids-now = with_pid b.pids block number

  abbrev deed-now : Name → DeedPlace
  deed-now = deed_in b.deed name (InCheckpoint block)

  abbrev calls-after : ℕ → CallPlace
  calls-after = calls-now script w b holds p call kind number numbers o e s next after-node sends entries changes

  abbrev body-now : Name → Body
  body-now = process_bodies forks.next b.body

  -- what stands beside the world then
  abbrev pub moved : Beside
  moved =
      entered_by script w b holds p call kind number numbers o e s reply forks.next forks.enters.makes next after-node
      sends
      changes (record b { pids = pids-now; deed = deed-now; body = body-now })

  leaves : ForkLeaves script b.kernel b.places b.pids p block number s.row (child_vars place) forks.next places-now
  unfolding forks
  leaves = fork-leaves script sound w b holds p block kind number numbers o e s

  -- ---- the name

  kind-is : kinds.Proc ≡ kind
  kind-is = fork-kind kind block s.takes.takes

  unused : is_used_name b.kernel name ≡ false
  unused = name-unused script w b holds p call kind number numbers o e s name kind-is refl

  made : maker (directory_by (directory_of w) kind o) name ≡ Some p
  made = name-maker script w b holds p call kind number numbers o e s name kind-is refl

  directory-is : directory_of next ≡ placed_if (nat_eq p 1) (directory_by (directory_of w) kind o) name block
  directory-is = directory-now script w next p kind o after-node sends entries name block changes s.at_leader refl

  is-after : IsAfter (directory_of w) (directory_by (directory_of w) kind o) (directory_of next) name
      (place_if (nat_eq p 1) block)
  is-after =
      subst (λ (d : Directory). IsAfter (directory_of w) (directory_by (directory_of w) kind o) d name
      (place_if (nat_eq p 1) block)) (sym directory-is)
      (after-is (directory_of w) kind o name block (nat_eq p 1)
      (name-unknown script w b holds p call kind number numbers o e s name kind-is refl) holds.leading)

  -- the same nodes are born
  more : IsMore (is_born_in w) (is_born_in next)
  more = still-born script p w next after-node (takes_by kind o) sends entries changes (λ h. h)

  -- numbers that are there stay
  now-same : (c : ℕ) → b.pids c ≢ 0 → pids-now c ≡ b.pids c
  now-same c some = now-other script b.kernel b.places b.pids p block number s.row (child_vars place) forks.next
      places-now leaves c some

  parent-same : (c : ℕ) → b.pids c ≢ 0 → pids-now (forker script c) ≡ b.pids (forker script c)
  parent-same c some = now-parent script b.kernel b.places b.pids p block number s.row (child_vars place) forks.next
      places-now leaves c some

  not-child : (c : ℕ) → b.pids c ≢ number
  not-child c =
      apart-child script b.kernel b.places b.pids p block number s.row (child_vars place) forks.next places-now leaves c

  child-there : pids-now block ≡ number
  child-there = now-there script b.kernel b.places b.pids p block number s.row (child_vars place) forks.next places-now
      leaves

  -- ---- the bodies

  object-stays : (m : Name) → is_object m ≡ true → body_in forks.next m ≡ body_in b.kernel m
  object-stays (Msg id) object = forks.rest (Msg id) (queue-no-process id pid) (queue-no-process id number)
    where
      queue-no-process : (id q : ℕ) → Msg id ≡ Proc q → ⊥
      queue-no-process id q h = cc
  object-stays (Sem id) object = forks.rest (Sem id) (set-no-process id pid) (set-no-process id number)
    where
      set-no-process : (id q : ℕ) → Sem id ≡ Proc q → ⊥
      set-no-process id q h = cc
  object-stays (Proc q) object = absurd (false≢true object)

  now-body : (m : Name) → IsBodyOf script (body_in forks.next m) (body-now m)
  now-body m = process-is-body script w [] Nothing b holds forks.next object-stays m

  waiters-same : (m : Name) → waiters_of (body-now m) ≡ waiters_of (b.body m)
  waiters-same m = process-waiters script w [] Nothing b holds forks.next object-stays m

  waiters-of : (c : ℕ) (m : Name)
      → filter (is_waiter_of c) (waiters_of (body-now m)) ≡ filter (is_waiter_of c) (waiters_of (b.body m))
  waiters-of c m = ap (filter (is_waiter_of c)) (waiters-same m)

  -- ---- the node

  row-there : (pid : ℕ) → n.pid ≡ pid
      → get_named (put_named n.deeds (Proc pid) (parent_body s.row number)) (Proc n.pid)
      ≡ Some (parent_body s.row number)
  row-there pid is =
      ap (λ q. get_named (put_named n.deeds (Proc pid) (parent_body s.row number)) (Proc q)) is
      ∙ get-put-same-name n.deeds (Proc pid) (parent_body s.row number)

  node-now : NodeHolds script pids-now (is_born_in w) p after-node
  node-now =
      record {
        number = node-holds.number;
        holds = subst (λ (stage : Stage). HoldsIn p after-node stage) (sym s.stage)
            (record { row = _; here = row-there pid s.birth.pid_is });
        birth = born-with script b.pids pids-now p n.pid n.parent n.parent_node n.stage (now-same p) (parent-same p)
            node-holds.birth;
        first = node-holds.first;
        others = node-holds.others;
        rows = λ q row there. row-is q row there (cases_eq q pid);
        owners = node-holds.owners;
      }
    where
      process-same : (a c : ℕ) → Proc a ≡ Proc c → a ≡ c
      process-same a c h = cc

      row-is : (q : ℕ) (row : Row)
          → get_named (put_named n.deeds (Proc pid) (parent_body s.row number)) (Proc q) ≡ Some (LivingBody row)
          → (q ≡ pid) ⊎ (q ≢ pid) → q ≡ n.pid
      row-is q row there (inl same) = same ∙ sym s.birth.pid_is
      row-is q row there (inr other) =
          node-holds.rows q row
          (sym (get-put-other-name n.deeds (Proc pid) (parent_body s.row number) (Proc q)
          (λ same. other (process-same q pid same))) ∙ there)

  -- ---- what is on its way

  abbrev tells : List (ℕ × Frame)
  tells = tells_if (nat_eq p 1) name block

  -- a fact of the frame that tells the child's place
  of-tells : (P : ℕ × Frame → Type 0) → (p ≢ 1 → P (1, frames.Placed name block)) → AllByRecursion P tells
  of-tells P h = by-test (nat_eq p 1) refl
    where
      by-test : (t : Bool) → nat_eq p 1 ≡ t → AllByRecursion P (tells_if t name block)
      by-test true i = tt
      by-test false i = (h (λ one. false≢true (sym i ∙ eq-eqb p 1 one)), tt)

  -- what a list map that makes nothing of that frame makes of all
  after-births : {A : Type 0} (f : ℕ → ℕ → List Frame → List A) → ((to sender : ℕ) → IsListMap (f to sender))
      → ((first : ℕ) → f p 1 (frames.Lease kind first ∷ []) ≡ []) → MakesNothing (λ to. f to p) tells
      → (to sender : ℕ)
      → f to sender (frames_to next to sender)
      ≡ f to sender (frames_to w to sender) ++ f to sender (sent p births to sender)
  after-births f m none none_told to sender =
      let g : IsListMap (f to sender) = m to sender
      in made-after script p w next after-node (takes_by kind o) sends entries changes f m to sender
      ∙ ap (λ ys. ys ++ f to sender (sent p sends to sender))
      (left-same script w b holds p call kind number numbers o e s next after-node sends entries changes f m none to
      sender)
      ∙ ap (λ ys. f to sender (frames_to w to sender) ++ ys)
      (ap (f to sender) (sent-append p births tells to sender)
      ∙ g.of_both (sent p births to sender) (sent p tells to sender)
      ∙ ap (λ ys. f to sender (sent p births to sender) ++ ys) (nothing-sent f m p tells none_told to sender)
      ∙ append-nil (f to sender (sent p births to sender)))

  births-elsewhere : {A : Type 0} (f : ℕ → ℕ → List Frame → List A) → ((to sender : ℕ) → IsListMap (f to sender))
      → (to sender : ℕ) → to ≢ block → f to sender (sent p births to sender) ≡ []
  births-elsewhere f m to sender d =
      let g : IsListMap (f to sender) = m to sender
      in ap (λ t. f to sender (frames_if (nat_eq sender p) (frame_if t checkpoint ++ []))) (ne_eqb to block d)
      ∙ ap (f to sender) (frames-of-none (nat_eq sender p)) ∙ g.of_none

  -- so elsewhere it is as it was
  same-elsewhere : {A : Type 0} (f : ℕ → ℕ → List Frame → List A) → ((to sender : ℕ) → IsListMap (f to sender))
      → ((first : ℕ) → f p 1 (frames.Lease kind first ∷ []) ≡ []) → MakesNothing (λ to. f to p) tells
      → (to sender : ℕ) → to ≢ block → f to sender (frames_to next to sender) ≡ f to sender (frames_to w to sender)
  same-elsewhere f m none none_told to sender d =
      after-births f m none none_told to sender
      ∙ ap (λ ys. f to sender (frames_to w to sender) ++ ys) (births-elsewhere f m to sender d)
      ∙ append-nil (f to sender (frames_to w to sender))

  -- ---- the new name

  abbrev x : NameSight
  x = ready-name script w b holds p call kind number numbers o e s next after-node sends entries changes name

  known : NameHolds script b.pids (is_born_in w) name x
  known = name-is-ready script w b holds p call kind number numbers o e s next after-node sends entries changes name

  abbrev y : NameSight
  y = name_sight script next [] moved name

  process-same : (a c : ℕ) → Proc a ≡ Proc c → a ≡ c
  process-same a c h = cc

  not-parent : name ≢ Proc pid
  not-parent same = forks.apart (process-same number pid same)

  later : 2 ≤ block
  later = from.low

  deed-is : deed-now name ≡ InCheckpoint block
  deed-is = ap (λ t. if t then InCheckpoint block else b.deed name) (same-name name name refl)

  held-now : (q : ℕ) → held_at next name q ≡ None
  held-now q =
      read-same script p w next after-node (takes_by kind o) sends entries changes
      (λ (z : Node). get_named z.deeds name)
      (get-put-other-name n.deeds (Proc pid) (parent_body s.row number) name not-parent) q
      ∙ held-nowhere script b.pids (is_born_in w) name x known unused q

  brings-now : (to sender : ℕ) → filter (brings name) (frames_to next to sender)
      ≡ cond (nat_eq to block && nat_eq sender p) (checkpoint ∷ []) []
  brings-now to sender =
      after-births (λ t q fs. filter (brings name) fs) (λ t q. filter-is-list-map (brings name)) (λ first. refl)
      (of-tells _ (λ other. refl)) to sender
      ∙ ap (λ fs. fs ++ filter (brings name) (sent p births to sender))
      (brought-nowhere script b.pids (is_born_in w) name x known unused to sender)
      ∙ kept-of-sent (brings name) checkpoint (same-name name name refl) (nat_eq to block) (nat_eq sender p)

  body-is : body_in forks.next name ≡ child_body s.row
  body-is = forks.child_is

  is-checkpoint : IsCheckpointOf name (body_in forks.next name) checkpoint
  is-checkpoint =
      record {
        pid = number;
        parent = pid;
        vars = child_vars place;
        is = ap (λ body. frames.Checkpoint number pid (pack name body) (child_vars place)) (sym body-is);
      }

  streams-now : (to sender : ℕ)
      → OneIf (nat_eq to block && nat_eq sender (forker script block)) (IsCheckpointOf name (body_in forks.next name))
      (y.brought to sender)
  streams-now to sender =
      subst (λ f. OneIf (nat_eq to block && nat_eq sender f) (IsCheckpointOf name (body_in forks.next name))
      (y.brought to sender)) (sym from.forker_is)
      (subst (λ fs. OneIf (nat_eq to block && nat_eq sender p) (IsCheckpointOf name (body_in forks.next name)) fs)
      (sym (brings-now to sender))
      (one-if-sent (nat_eq to block && nat_eq sender p) (IsCheckpointOf name (body_in forks.next name)) checkpoint
      is-checkpoint))

  no-checkpoints : (to sender : ℕ) → filter (is_checkpoint_of name) (frames_to w to sender) ≡ []
  no-checkpoints to sender =
      no-checkpoint-brought name (frames_to w to sender)
      (brought-nowhere script b.pids (is_born_in w) name x known unused to sender)

  comes-there : comes_to script next name block ≡ not (nat_eq p 1)
  comes-there =
      ap (λ f. not (nat_eq f 1) && has_any (filter (is_checkpoint_of name) (frames_to next block f))) from.forker_is
      ∙ ap (λ fs. not (nat_eq p 1) && has_any fs)
      (after-births (λ t q fs. filter (is_checkpoint_of name) fs) (λ t q. filter-is-list-map (is_checkpoint_of name))
      (λ first. refl) (of-tells _ (λ other. refl)) block p
      ∙ ap (λ fs. fs ++ filter (is_checkpoint_of name) (sent p births block p)) (no-checkpoints block p)
      ∙ kept-of-sent (is_checkpoint_of name) checkpoint (same-name name name refl) (nat_eq block block) (nat_eq p p)
      ∙ ap (λ t. cond (t && nat_eq p p) (checkpoint ∷ []) []) (eq-eqb block block refl)
      ∙ ap (λ t. cond t (checkpoint ∷ []) []) (eq-eqb p p refl))
      ∙ and-true-is (not (nat_eq p 1))
    where
      and-true-is : (t : Bool) → (t && true) ≡ t
      and-true-is true = refl
      and-true-is false = refl

  comes-elsewhere : (q : ℕ) → q ≢ block → comes_to script next name q ≡ comes_to script w name q
  comes-elsewhere q d =
      ap (λ fs. not (nat_eq (forker script q) 1) && has_any fs)
      (same-elsewhere (λ t z fs. filter (is_checkpoint_of name) fs) (λ t z. filter-is-list-map (is_checkpoint_of name))
      (λ first. refl) (of-tells _ (λ other. refl)) q (forker script q) d)

  stage-same : (q : ℕ) → stage_of next q ≡ stage_of w q
  stage-same q =
      read-same script p w next after-node (takes_by kind o) sends entries changes (λ (z : Node). z.stage) refl q

  begins-elsewhere : (q : ℕ) → q ≢ block → y.begins q ≡ x.begins q
  begins-elsewhere q d =
      ap (begin (stage_of next q) (is_some (held_at next name q))) (comes-elsewhere q d)
      ∙ ap (λ held_it. begin (stage_of next q) (is_some held_it) (comes_to script w name q))
      (held-now q ∙ sym (held-nowhere script b.pids (is_born_in w) name x known unused q))
      ∙ ap (λ stage. begin stage (is_some (held_at w name q)) (comes_to script w name q)) (stage-same q)

  used-now : is_used_name forks.next name ≡ true
  used-now = used-made b.kernel pid call reply name forks.next forks.enters

  -- what was on its way is the same for a process whether it is used or not
  steps-left : (q : ℕ) → plays true calls-after name (changes.left q 1) ≡ plays false b.call name (frames_to w q 1)
  steps-left q =
      left-steps script w b holds p call kind number numbers o e s next after-node sends entries changes true name q
      ∙ plays-of-process b.call name (frames_to w q 1) refl

  steps-now : (q : ℕ) → y.steps q
      ≡ plays true calls-after name (changes.left q 1) ++ plays true calls-after name (sent p sends q 1)
  steps-now q =
      ap (λ u. plays u calls-after name (frames_to next q 1)) used-now
      ∙ made-after script p w next after-node (takes_by kind o) sends entries changes
      (λ t z fs. plays true calls-after name fs) (λ t z. flat_map-is-list-map _) q 1

  steps-elsewhere : (q : ℕ) → q ≢ block → y.steps q ≡ x.steps q
  steps-elsewhere q d =
      steps-now q
      ∙ ap (λ ys. ys ++ plays true calls-after name (sent p sends q 1)) (steps-left q)
      ∙ ap (λ ys. plays false b.call name (frames_to w q 1) ++ ys) (nothing-played-there q d)
      ∙ append-nil (plays false b.call name (frames_to w q 1))
      ∙ sym (ap (λ u. plays u b.call name (frames_to w q 1)) unused)
    where
      nothing-played-there : (q : ℕ) → q ≢ block → plays true calls-after name (sent p sends q 1) ≡ []
      nothing-played-there q d =
          ap (plays true calls-after name) (sent-append p births tells q 1)
          ∙ (flat_map-is-list-map (steps_of true calls-after name)).of_both (sent p births q 1) (sent p tells q 1)
          ∙ ap (λ ys. ys ++ plays true calls-after name (sent p tells q 1))
          (births-elsewhere (λ t z fs. plays true calls-after name fs) (λ t z. flat_map-is-list-map _) q 1 d)
          ∙ nothing-sent (λ t z fs. plays true calls-after name fs) (λ t z. flat_map-is-list-map _) p tells
          (of-tells _ (λ other. refl)) q 1

  unborn-way : IsHere (way_sight w block)
  unborn-way =
      unborn-here script w b holds block (let low = from.low in omega (arith, low)) from.high
      (not-forked script sound w b holds p block kind number numbers o e s) from.low

  stage-there : stage_of next block ≡ Unborn
  stage-there =
      stage-same block
      ∙ unborn-stage script w b holds block (let low = from.low in omega (arith, low)) from.high
      (not-forked script sound w b holds p block kind number numbers o e s)

  begins-there : (t : Bool) → nat_eq p 1 ≡ t → y.begins block ≡ (if t then Lacks else Has)
  begins-there t i =
      ap (λ held_it. begin (stage_of next block) (is_some held_it) (comes_to script next name block)) (held-now block)
      ∙ ap (begin (stage_of next block) false) (comes-there ∙ ap not i)
      ∙ ap (λ stage. begin stage false (not t)) stage-there
      ∙ by-test t
    where
      by-test : (t : Bool) → begin Unborn false (not t) ≡ (if t then Lacks else Has)
      by-test true = refl
      by-test false = refl

  steps-there : (t : Bool) → nat_eq p 1 ≡ t → y.steps block ≡ (if t then Comes ∷ [] else [])
  steps-there t i =
      steps-now block
      ∙ ap (λ ys. ys ++ plays true calls-after name (sent p sends block 1))
      (steps-left block
      ∙ nothing-played script w b holds name unused block unborn-way later)
      ∙ ap (plays true calls-after name) (sent-append p births tells block 1)
      ∙ (flat_map-is-list-map (steps_of true calls-after name)).of_both (sent p births block 1) (sent p tells block 1)
      ∙ ap (λ ys. plays true calls-after name (sent p births block 1) ++ ys)
      (nothing-sent (λ a z fs. plays true calls-after name fs) (λ a z. flat_map-is-list-map _) p tells
      (of-tells _ (λ other. refl)) block 1)
      ∙ append-nil (plays true calls-after name (sent p births block 1))
      ∙ ap (λ u. plays true calls-after name (frames_if (nat_eq 1 p) (frame_if u checkpoint ++ [])))
      (eq-eqb block block refl)
      ∙ ap (λ u. plays true calls-after name (frames_if u (checkpoint ∷ []))) (turned (nat_eq p 1) refl ∙ i)
      ∙ by-test t
    where
      turned : (u : Bool) → nat_eq p 1 ≡ u → nat_eq 1 p ≡ nat_eq p 1
      turned true g = eq-eqb 1 p (sym (eqb-true p 1 g)) ∙ sym g
      turned false g = ne_eqb 1 p (λ same. false≢true (sym g ∙ eq-eqb p 1 (sym same))) ∙ sym g

      by-test : (t : Bool) → plays true calls-after name (frames_if t (checkpoint ∷ []))
          ≡ (if t then Comes ∷ [] else [])
      by-test true = ap (λ u. steps_if u Comes ++ []) (same-name name name refl)
      by-test false = refl

  there-now : PlaysTo (y.begins block) (y.steps block) true
  there-now =
      record {
        last = Has;
        plays = ap (λ z. play z (y.steps block)) (begins-there (nat_eq p 1) refl)
            ∙ ap (play (if nat_eq p 1 then Lacks else Has)) (steps-there (nat_eq p 1) refl) ∙ by-test (nat_eq p 1);
        agrees = refl;
      }
    where
      by-test : (t : Bool) → play (if t then Lacks else Has) (if t then Comes ∷ [] else []) ≡ Some Has
      by-test true = refl
      by-test false = refl

  none-placed : MakesNothing (λ to fs. placed_in name fs) births
  none-placed = (refl, tt)

  none-ranged : MakesNothing (λ to fs. flat_map (range_steps_of true calls-after name) fs) sends
  none-ranged = of-sends _ refl (λ other. refl)

  is-new : IsNew script pids-now name x y block
  is-new =
      record {
        is_body = now-body name;
        used = used-now;
        made = λ i. in-checkpoint-not (sym deed-is ∙ i);
        place_fits = ap (may_be_at false) deed-is;
        tables = λ q. held-now q ∙ ap (λ (d : DeedPlace). held_as d (body_in forks.next name) q) (sym deed-is);
        streams = λ to sender. subst (λ (d : DeedPlace). OneIf (is_stream_of (forker script) d to sender)
            (IsBringer pids-now name (body_in forks.next name) d) (y.brought to sender)) (sym deed-is)
            (streams-now to sender);
        not_kept = λ q. ap (λ (d : DeedPlace). is_kept_for (forker script) pids-now d q) deed-is;
        not_in_hand = ap is_hand_place deed-is;
        kept = λ q. ap (filter (is_parcel_with name)) (is-after.held (Proc q));
        hand = refl;
        belief = belief-now script w b holds p call kind number numbers o e s next after-node births entries name block
            changes is-after unused made moved used-now none-placed;
        leader = ap is_some (held-now 1) ∙ sym (ne_eqb block 1 (λ one. omega (arith, later, one)));
        there = λ low. there-now;
        begins = begins-elsewhere;
        steps = steps-elsewhere;
        told = told-now script w b holds p call kind number numbers o e s next after-node births entries name block
            changes is-after unused made moved used-now none-placed child-there
            (λ other one. omega (arith, later, one));
        found = found-now script w b holds p call kind number numbers o e s next after-node births entries name block
            changes is-after unused made moved used-now none-placed
            (λ flag. (refl, tt));
        unplaced = unplaced-now script w b holds p call kind number numbers o e s next after-node births entries name
            block changes is-after unused made moved used-now none-placed;
        ranged = ranged-now script w b holds p call kind number numbers o e s next after-node births entries name block
            changes is-after unused made moved used-now none-placed none-ranged;
        leased = leased-now script w b holds p call kind number numbers o e s next after-node births entries name block
            changes is-after unused made moved used-now none-placed none-ranged;
        bound = bound-now script w b holds p call kind number numbers o e s next after-node births entries name block
            changes is-after unused made moved used-now none-placed;
        items = items-now script w b holds p call kind number numbers o e s next after-node births entries name block
            changes is-after unused made moved used-now none-placed;
      }
    where
      in-checkpoint-not : InCheckpoint block ≡ Unmade → ⊥
      in-checkpoint-not h = cc

  new-name-now : NameHolds script pids-now (is_born_in next) name (name_sight script next [] moved name)
  new-name-now =
      name-new script b.pids pids-now (is_born_in w) (is_born_in next) name x y block known unused is-new

  -- ---- other names

  says-still : (m : Name) (sender node : ℕ) → is_used_name b.kernel m ≡ true → SaysOf b.pids m sender node
      → SaysOf pids-now m sender node
  says-still (Msg id) sender node used h = h
  says-still (Sem id) sender node used h = h
  says-still (Proc q) sender node used h =
      elim (cases_eq (b.pids node) 0) [
        | inr some ↦ now-same node some ∙ h
        | inl none ↦
            absurd
            (false≢true
            (sym (zero-is-unused (is_born_in w) (kind_sight w b.kernel kinds.Proc) (holds.kinds kinds.Proc))
            ∙ ap (λ z. is_used_name b.kernel (Proc z)) (sym none ∙ h) ∙ used))
      ]

  abbrev ready-of : Name → NameSight
  ready-of m = ready-name script w b holds p call kind number numbers o e s next after-node sends entries changes m

  are-more : (m : Name) → AreMore script b.pids pids-now m (ready-of m)
  are-more m =
      let was : NameHolds script b.pids (is_born_in w) m (name_sight script w [] b m) = holds.names m
      in record {
        told = λ sender node there h. says-still m sender node (was.told sender node there).used h;
        own = λ c is. now-same c (left-is-forked script w b holds c (handed-has-left script w b holds m c is));
        parent = λ c is. parent-same c (left-is-forked script w b holds c (handed-has-left script w b holds m c is));
      }

  ready-more : (m : Name) → NameHolds script pids-now (is_born_in w) m (ready-of m)
  ready-more m =
      name-with-more script b.pids pids-now (is_born_in w) m (ready-of m)
      (name-is-ready script w b holds p call kind number numbers o e s next after-node sends entries changes m)
      (are-more m)

  other-deed : (m : Name) → m ≢ name → deed-now m ≡ b.deed m
  other-deed m d = ap (λ t. if t then InCheckpoint block else b.deed m) (other-name name m (λ same. d (sym same)))

  seen-now : (m : Name) → m ≢ name → (part body : Body) (held_by : ℕ → Option Body) → part ≡ body_in forks.next m
      → body ≡ body-now m
      → ((q : ℕ) → held_by q ≡ held_at next m q) → ((q : ℕ) → is_some (held_by q) ≡ is_some (held_at w m q))
      → SameName (record (ready-of m) { part = part; body = body; held = held_by }) (name_sight script next [] moved m)
  seen-now m d part body held_by part_is body_is held_is still =
      other-seen script w b holds p call kind number numbers o e s next after-node sends entries changes moved
      name (place_if (nat_eq p 1) block) m part body held_by is-after d
      (used-others b.kernel pid call reply name forks.next forks.enters m d) (other-deed m d) part_is body_is held_is
      still refl (of-sends _ (other-name m name d) (λ other. other-name m name d))

  name-elsewhere : (m : Name) → m ≢ name → m ≢ Proc pid
      → NameHolds script pids-now (is_born_in next) m (name_sight script next [] moved m)
  name-elsewhere m d away =
      name-stays script pids-now (is_born_in w) (is_born_in next) m _ _ more
      (seen-now m d (body_in b.kernel m) (b.body m) (held_at w m) (sym (forks.rest m away d))
      (sym (process-unchanged script w [] Nothing b holds forks.next object-stays m (forks.rest m away d)))
      (λ q. sym (read-same script p w next after-node (takes_by kind o) sends entries changes
      (λ (z : Node). get_named z.deeds m)
      (get-put-other-name n.deeds (Proc pid) (parent_body s.row number) m away) q)) (λ q. refl)) (ready-more m)

  -- the parent's name
  parent-held : (q : ℕ) → held_as (InTable p) (body_in forks.next (Proc pid)) q ≡ held_at next (Proc pid) q
  parent-held q =
      elim (cases_eq q p) [
        | inl i ↦
            subst (λ z. held_as (InTable p) (body_in forks.next (Proc pid)) z ≡ held_at next (Proc pid) z) (sym i)
            (held-here p (body_in forks.next (Proc pid)) ∙ ap Some forks.parent
            ∙ sym (ap (λ (m : Node). get_named m.deeds (Proc pid)) changes.here
            ∙ get-put-same-name n.deeds (Proc pid) (parent_body s.row number)))
        | inr d ↦
            held-elsewhere p q (body_in forks.next (Proc pid)) d
            ∙ sym (ap (λ (m : Node). get_named m.deeds (Proc pid)) (changes.others q d) ∙ was-held q
            ∙ held-elsewhere p q (b.body (Proc pid)) d)
      ]
    where
      was-held : (q : ℕ) → held_at w (Proc pid) q ≡ held_as (InTable p) (b.body (Proc pid)) q
      was-held q =
          let was : NameHolds script b.pids (is_born_in w) (Proc pid) (name_sight script w [] b (Proc pid)) =
          holds.names (Proc pid)
          in was.tables q ∙ ap (λ (d : DeedPlace). held_as d (b.body (Proc pid)) q) s.deed

  parent-name-now : NameHolds script pids-now (is_born_in next) (Proc pid) (name_sight script next [] moved (Proc pid))
  parent-name-now =
      let m : Name = Proc pid
      in let body : Body = body_in forks.next m
      in name-stays script pids-now (is_born_in w) (is_born_in next) m _ _ more
      (seen-now m (λ same. not-parent (sym same)) body body (held_as (b.deed m) body) refl refl
      (λ q. ap (λ (d : DeedPlace). held_as d body q) s.deed ∙ parent-held q) still)
      (name-rebodied script pids-now (is_born_in w) m (ready-of m) p body body (now-body m) s.deed (ready-more m))
    where
      same-some : (t : Bool) (a c : Body) → is_some (if t then Some a else None) ≡ is_some (if t then Some c else None)
      same-some true a c = refl
      same-some false a c = refl

      still : (q : ℕ)
          → is_some (held_as (b.deed (Proc pid)) (body_in forks.next (Proc pid)) q)
          ≡ is_some (held_at w (Proc pid) q)
      still q =
          let was : NameHolds script b.pids (is_born_in w) (Proc pid) (name_sight script w [] b (Proc pid)) =
          holds.names (Proc pid)
          in ap (λ (d : DeedPlace). is_some (held_as d (body_in forks.next (Proc pid)) q)) s.deed
          ∙ same-some (nat_eq p q) (body_in forks.next (Proc pid)) (b.body (Proc pid))
          ∙ sym (ap is_some (was.tables q)
          ∙ ap (λ (d : DeedPlace). is_some (held_as d (b.body (Proc pid)) q)) s.deed)

  -- each name holds
  names-now : (m : Name) → NameHolds script pids-now (is_born_in next) m (name_sight script next [] moved m)
  names-now m =
      elim (name-cases name m) [
        | inl i ↦
            subst (λ z. NameHolds script pids-now (is_born_in next) z (name_sight script next [] moved z)) i
            new-name-now
        | inr d ↦
            elim (name-cases (Proc pid) m) [
              | inl i ↦
                  subst (λ z. NameHolds script pids-now (is_born_in next) z (name_sight script next [] moved z)) i
                  parent-name-now
              | inr away ↦ name-elsewhere m (λ same. d (sym same)) (λ same. away (sym same))
            ]
      ]

  -- ---- calls

  calls-still : (c : ℕ) → c ≢ p → calls-after c ≡ b.call c
  calls-still =
      others-same script w b holds p call kind number numbers o e s next after-node sends entries changes

  fork-moves : ForkPlaces script b.places pid block number place places-now
  fork-moves = fork-places script b.places p pid block number place forks.apart

  own-call-now : CallHolds script p (is_born_in next) (call_sight next [] moved p)
  own-call-now =
      call-after script w b holds p call kind number numbers o e s next after-node sends reply forks.next changes
      (is_born_in next) moved forks.caller.alive name (place_if (nat_eq p 1) block) is-after refl
      s.stage (ap (get places-now) (now-same p s.birth.forked) ∙ fork-moves.parent)
      (ap (living_at forks.next) (now-same p s.birth.forked) ∙ forks.caller.lives)
      (λ m. waiters-of p m ∙ s.not_waiting m) (of-sends _ refl (λ other. refl))

  block-low : 1 ≤ block
  block-low = omega (arith, later)

  unforked : b.pids block ≡ 0
  unforked = not-forked script sound w b holds p block kind number numbers o e s

  block-apart : block ≢ p
  block-apart same = let before = from.before in omega (arith, before, same)

  -- the block's node has no call yet
  block-call-now : CallHolds script block (is_born_in next) (call_sight next [] moved block)
  block-call-now =
      let was = unborn-call script w b holds block block-low from.high unforked
      in let node : node_of next block ≡ unborn_node block =
      changes.others block block-apart ∙ is-unborn script w b holds block block-low from.high unforked
      in let v : CallSight = call_sight next [] moved block
      in record {
        call = subst (λ u. HasCallOrNone script block (is_born_in next) v u)
            (sym (ap (λ (m : Node). m.caller.under_way) node))
            (record {
              nowhere = record {
                in_streams = λ to sender. made-same script p w next after-node (takes_by kind o) sends entries changes
                    (λ t q fs. filter (is_about block t q) fs) (λ t q. filter-is-list-map (is_about block t q))
                    (all-weaker (λ t. not-about block p t.0 t.1) (takes_by kind o)
                    (taken-of-no-other kind p o block block-apart))
                    (of-sends _ refl (λ other. refl)) to sender
                    ∙ was.nowhere.in_streams to sender;
                held_for_names = λ m. ap (filter (is_item_about block)) (is-after.held m)
                    ∙ was.nowhere.held_for_names m;
                in_hand = refl;
                waiting = λ m. waiters-of block m ∙ was.nowhere.waiting m;
              };
              idle = calls-still block block-apart ∙ was.idle;
              free = subst (λ (st : Stage). FreeIn script block v st) (sym (ap (λ (m : Node). m.stage) node)) tt;
            });
        ends = ap is_end_place (calls-still block block-apart ∙ was.idle)
            ∙ sym (ap (λ (m : Node). is_end_stage m.stage) node);
      }

  abbrev between : Beside
  between = record b { kernel = forks.next }

  other-call-now : (c : ℕ) → 1 ≤ c → c ≤ node_count script → c ≢ p → c ≢ block
      → CallHolds script c (is_born_in next) (call_sight next [] moved c)
  other-call-now c low high d away =
      call-stays script c (is_born_in w) (is_born_in next) (call_sight w [] between c) (call_sight next [] moved c) more
      (call-left-alone script p w next after-node (takes_by kind o) sends entries changes [] [] between moved c
      (record {
        own = λ same. absurd (d same);
        place_is = ap (get places-now) number-same ∙ fork-moves.others (b.pids c) other-process (not-child c);
        alive_is = ap (living_at forks.next) number-same;
        call_is = calls-still c d;
        held_is = λ m. ap (filter (is_item_about c)) (is-after.held m);
        hand_is = refl;
        waiters_are = λ m. waiters-of c m;
      }) (taken-of-no-other kind p o c d) (of-sends _ refl (λ other. refl)))
      (call-goes-on script c (is_born_in w) (call_sight w [] b c) (living_at forks.next (b.pids c))
      (others-go-on script b.kernel b.places b.pids p block number s.row (child_vars place) forks.next places-now leaves
      (b.pids c) other-process (not-child c)) (holds.calls c low high))
    where
      number-same : pids-now c ≡ b.pids c
      number-same = with-pid-other b.pids block number c away

      other-process : b.pids c ≢ pid
      other-process same = d (sym (holds.pids.apart p c s.birth.forked (sym same)))

  calls-hold : (c : ℕ) → 1 ≤ c → c ≤ node_count script
      → CallHolds script c (is_born_in next) (call_sight next [] moved c)
  calls-hold c low high =
      elim (cases_eq c p) [
        | inl same ↦
            subst (λ z. CallHolds script z (is_born_in next) (call_sight next [] moved z)) (sym same) own-call-now
        | inr d ↦
            elim (cases_eq c block) [
              | inl same ↦
                  subst (λ z. CallHolds script z (is_born_in next) (call_sight next [] moved z)) (sym same)
                  block-call-now
              | inr away ↦ other-call-now c low high d away
            ]
      ]

  -- ---- the kernel in which callers wait, and withdrawals

  others-live-on : (q : ℕ) → q ≢ pid → q ≢ number → StillLives (living_at b.kernel q) (living_at forks.next q)
  others-live-on q other new =
      others-go-on script b.kernel b.places b.pids p block number s.row
      (child_vars place) forks.next places-now leaves q
      other new

  apart : (c : ℕ) → c ≢ p → b.pids c ≢ pid
  apart c d same = d (sym (holds.pids.apart p c s.birth.forked (sym same)))

  free : after-node.caller.under_way ≡ None
  free = free-after script w b holds p call kind number numbers o e s next after-node sends reply forks.next changes
      refl

  block-idle : under_way_at next block ≡ None
  block-idle =
      ap (λ (m : Node). m.caller.under_way)
      (changes.others block block-apart ∙ is-unborn script w b holds block block-low from.high unforked)

  new-process : IsNewProcess next b.kernel block (pids-now block) pid
  new-process =
      record {
        no_call = block-idle;
        other = λ same. forks.apart (sym child-there ∙ same);
        nobody = ap (living_at b.kernel) child-there ∙ ap (option_and_then kernel.alive_in) forks.absent;
      }

  enters-whole : EntersAlone w next b moved p p call (Some reply)
  enters-whole =
      made-enters script w b holds p call kind number numbers o e s reply forks.next forks.enters.makes next
      after-node sends changes (record b { pids = pids-now; deed = deed-now; body = body-now }) free
      (λ m. (now-body m).parts) waiters-same (now-same p s.birth.forked)
      (λ y d. elim (cases_eq y block) [
        | inl same ↦
            inr (subst (λ z. IsNewProcess next b.kernel z (pids-now z) pid) (sym same) new-process)
        | inr away ↦ inl (with-pid-other b.pids block number y away, apart y d)
      ])
      (λ y d same dead. (others-live-on (b.pids y) (apart y d) (not-child y)).dead dead)

  own-cancel-now : CancelHolds p Nothing (cancel_sight next [] moved p)
  own-cancel-now =
      cancel-after script w b holds p call kind number numbers o e s next after-node sends reply forks.next changes
      moved name (place_if (nat_eq p 1) block) is-after refl refl refl (of-sends _ refl (λ other. refl))

  -- the block's node has no call
  block-cancel-now : CancelHolds block Nothing (cancel_sight next [] moved block)
  block-cancel-now =
      let was : CancelHolds block Nothing (cancel_sight w [] b block) = holds.cancels block block-low from.high
      in let node : node_of next block ≡ node_of w block = changes.others block block-apart
      in cancel-over block Nothing Nothing (cancel_sight w [] b block) (cancel_sight next [] moved block)
      (old-still script p w next after-node (takes_by kind o) sends entries changes [] [] b moved block
      (sym (ap (λ (m : Node). m.pid) node))
      (same-later (let m : Node = node_of w block in m.caller) (let m : Node = node_of next block in m.caller)
      (ap (λ (m : Node). m.caller) (sym node)))
      (λ m. ap (filter (is_held_cancel_of block)) (is-after.held m)) refl (taken-no-cancel kind o block)
      (of-sends _ refl (λ other. refl)))
      (idle-uncancelled block Nothing (cancel_sight w [] b block) was
      (sym (ap (λ (m : Node). m.caller.under_way) node) ∙ block-idle))
      (inl block-idle) (λ owed. absurd (false≢true owed)) was

  other-cancel-now : (c : ℕ) → 1 ≤ c → c ≤ node_count script → c ≢ p → c ≢ block
      → CancelHolds c Nothing (cancel_sight next [] moved c)
  other-cancel-now c low high d away =
      other-withdrawal w next b moved p p call (Some reply) holds.whole enters-whole c d
      (with-pid-other b.pids block number c away) (apart c d)
      (λ a lives. forks.rest (Proc (b.pids c)) (λ same. apart c d (process-same (b.pids c) pid same))
      (λ same. not-child c (process-same (b.pids c) number same))) [] [] Nothing
      (cancel-left-alone script p w next after-node (takes_by kind o) sends entries changes [] [] b moved c
      (record {
        own = λ same. absurd (d same);
        call_is = calls-still c d;
        cancel_is = refl;
        held_is = λ m. ap (filter (is_item_of c)) (is-after.held m);
        hand_is = refl;
        nowhere = λ under_way is may l. record {
          node = l.node;
          is = calls-still c d ∙ l.is;
          leaves = ap is_none (is-after.partings l.node) ∙ l.leaves;
          unknown = still-unknown script pids-now (is_born_in next) next [] moved
              (waits_at (node_of w c).pid under_way) (names-now (waits_at (node_of w c).pid under_way))
              (used-others b.kernel pid call reply name forks.next forks.enters (waits_at (node_of w c).pid under_way)
              (λ same. false≢true (sym (ap is_object same) ∙ second (may_park under_way) _ may))
              ∙ nowhere-unused script w [] Nothing b holds c low high under_way is may l);
        };
      }) (taken-of-no-other kind p o c d) (of-sends _ refl (λ other. refl)) (taken-no-cancel kind o c)
      (of-sends _ refl (λ other. refl))) (holds.cancels c low high)
    where
      second : (t u : Bool) → (t && u) ≡ true → u ≡ true
      second true u h = h
      second false u h = absurd (false≢true h)

  cancels-hold : (c : ℕ) → 1 ≤ c → c ≤ node_count script → CancelHolds c Nothing (cancel_sight next [] moved c)
  cancels-hold c low high =
      elim (cases_eq c p) [
        | inl same ↦ subst (λ z. CancelHolds z Nothing (cancel_sight next [] moved z)) (sym same) own-cancel-now
        | inr d ↦
            elim (cases_eq c block) [
              | inl same ↦ subst (λ z. CancelHolds z Nothing (cancel_sight next [] moved z)) (sym same) block-cancel-now
              | inr away ↦ other-cancel-now c low high d away
            ]
      ]

  -- ---- nodes, frames, ways and parcels

  nodes-hold : (c : ℕ) → 1 ≤ c → c ≤ node_count script → NodeHolds script pids-now (is_born_in next) c (node_of next c)
  nodes-hold c low high =
      elim (cases_eq c p) [
        | inr d ↦
            node-with script b.pids pids-now (is_born_in next) c (node_of next c) (now-same c) (parent-same c)
            (other-node-stays script p w next after-node (takes_by kind o) sends entries changes b.pids (is_born_in w)
            (is_born_in next) c d more (holds.nodes c low high))
        | inl same ↦
            subst (λ z. NodeHolds script pids-now (is_born_in next) z (node_of next z)) (sym same)
            (subst (λ (m : Node). NodeHolds script pids-now (is_born_in next) p m) (sym changes.here)
            (node-born script pids-now (is_born_in w) (is_born_in next) p after-node more node-now))
      ]

  frames-hold : FramesFit script (is_born_in next) (frames_to next)
  frames-hold =
      frames-still-fit script p w next after-node (takes_by kind o) sends entries changes more holds.frames_fit
      (of-sends _ (sym from.forker_is) (λ other. refl)) (of-sends _ block-apart (λ other one. other (sym one)))

  way-same : (c : ℕ) → SameWay (way_sight w c) (way_sight next c)
  way-same c =
      way-left-alone script p w next after-node (takes_by kind o) sends entries changes c (λ same. refl)
      (is-after.partings c) (taken-plain kind o) (of-sends _ refl (λ other. refl))

  ways-hold : (c : ℕ) → 2 ≤ c → c ≤ node_count script
      → Way script pids-now c (knows_parent script next pids-now c) (way_sight next c)
  ways-hold c low high =
      elim (cases_eq (b.pids c) 0) [
        | inl none ↦
            way-stays script pids-now c (knows_parent script next pids-now c) (knows_parent script next pids-now c)
            (way_sight w c) (way_sight next c) (λ h. h) (way-same c)
            (here (unborn-here script w b holds c (omega (arith, low)) high none low))
        | inr some ↦
            way-stays script pids-now c (knows_parent script w b.pids c) (knows_parent script next pids-now c)
            (way_sight w c) (way_sight next c)
            (λ h. ap (λ q. is_known (directory_of next) (Proc q)) (parent-same c some)
            ∙ is-after.known_still (Proc (b.pids (forker script c))) h)
            (way-same c)
            (way-with script b.pids pids-now c (knows_parent script w b.pids c) (way_sight w c) (now-same c some)
            (parent-same c some) (holds.ways c low high))
      ]

  parcels-hold : (parcel : Parcel) → IsParcelIn next [] parcel
      → HasSender script pids-now (stage_of next) (under_way_of next) parcel
  parcels-hold parcel there =
      sender-with script b.pids pids-now (stage_of next) (under_way_of next) parcel
      (λ c left. now-same c (left-is-forked script w b holds c (sym (stage-same c) ∙ left)))
      (λ c left. parent-same c (left-is-forked script w b holds c (sym (stage-same c) ∙ left)))
      (sender-stays script p w next after-node (takes_by kind o) sends entries changes b.pids parcel
      (λ left. absurd (left-not (sym s.stage ∙ left)))
      (holds.parcels parcel
      (parcel-was-there script p w next after-node (takes_by kind o) sends entries changes [] parcel
      (of-sends _ refl (λ other. refl))
      (λ q in_it. subst (λ items. Contains items (Ending parcel)) (is-after.held (Proc q)) in_it) there)))
    where
      left-not : Living ≡ Left → ⊥
      left-not h = cc

  -- ---- families

  checkpoints-there : checkpoints_to script next block ≡ checkpoint ∷ []
  checkpoints-there =
      ap (λ f. filter is_checkpoint (frames_to next block f)) from.forker_is
      ∙ after-births (λ t q fs. filter is_checkpoint fs) (λ t q. filter-is-list-map is_checkpoint)
      (λ first. refl) (of-tells _ (λ other. refl)) block p
      ∙ ap (λ fs. fs ++ filter is_checkpoint (sent p births block p))
      (no-births script w b holds block block-low from.high unforked p)
      ∙ kept-of-sent is_checkpoint checkpoint refl (nat_eq block block) (nat_eq p p)
      ∙ ap (λ t. cond (t && nat_eq p p) (checkpoint ∷ []) []) (eq-eqb block block refl)
      ∙ ap (λ t. cond t (checkpoint ∷ []) []) (eq-eqb p p refl)

  deeds-still : (q : ℕ) → q ≢ number → process_deed deed-now q ≡ process_deed b.deed q
  deeds-still q d = other-deed (Proc q) (λ same. d (process-same q number same))

  families-hold : (c : ℕ) → pids-now c ≢ 0
      → FamilyHolds script pids-now places-now forks.next (process_deed deed-now) (checkpoints_to script next c)
      (stage_of next c) c
  families-hold c some =
      elim (cases_eq c block) [
        | inl same ↦
            subst (λ z. FamilyHolds script pids-now places-now forks.next (process_deed deed-now)
            (checkpoints_to script next z) (stage_of next z) z) (sym same)
            (subst (λ fs. FamilyHolds script pids-now places-now forks.next (process_deed deed-now) fs
            (stage_of next block) block) (sym checkpoints-there)
            (subst (λ st. FamilyHolds script pids-now places-now forks.next (process_deed deed-now) (checkpoint ∷ []) st
            block) (sym stage-there)
            (family-new script b.kernel b.places b.pids p block number s.row (child_vars place) forks.next places-now
            leaves (process_deed b.deed) (process_deed deed-now) s.deed deed-is deeds-still packed)))
        | inr d ↦
            let forked : b.pids c ≢ 0 = λ none. some (with-pid-other b.pids block number c d ∙ none)
            in subst (λ fs. FamilyHolds script pids-now places-now forks.next (process_deed deed-now) fs
            (stage_of next c) c)
            (sym (same-elsewhere (λ t q fs. filter is_checkpoint fs)
            (λ t q. filter-is-list-map is_checkpoint) (λ first. refl) (of-tells _ (λ other. refl)) c
            (forker script c) d))
            (subst (λ st. FamilyHolds script pids-now places-now forks.next (process_deed deed-now)
            (checkpoints_to script w c) st c) (sym (stage-same c))
            (family-still script b.kernel b.places b.pids p block number s.row (child_vars place) forks.next places-now
            leaves (process_deed b.deed) (process_deed deed-now) s.deed deed-is deeds-still (checkpoints_to script w c)
            (stage_of w c) c forked (holds.families c forked)))
      ]

  -- The child is on its way to its node, and its parent lists it.
  pub fork-keeps : KeepsAs script w e moved
  fork-keeps =
      record {
        next = next;
        is_step = given.is_step;
        holds = record {
          shape = changes.shape;
          history = history-after script w b holds p call kind number numbers o e s next after-node sends reply
              forks.next changes forks.enters.makes;
          whole = has-whole-then w next b moved p p call (Some reply) holds.whole enters-whole;
          leading = is-after.leads;
          pids = pids-forked script b.kernel b.places b.pids p block number s.row (child_vars place) forks.next
              places-now leaves holds.pids;
          nodes = nodes-hold;
          frames_fit = frames-hold;
          names = names-now;
          calls = calls-hold;
          cancels = cancels-hold;
          ways = ways-hold;
          parcels = parcels-hold;
          kinds = kinds-now script w b holds p call kind number numbers o e s next after-node sends
              (entry_by p pid call reply) changes name forks.next reply forks.enters kind-is refl more refl
              is-after.ranges (λ z. of-sends _ refl (λ other. refl));
          few = few-now script w b holds p call kind number numbers o e s next after-node sends
              (entry_by p pid call reply) changes is-after.ranges;
          keys = keys-after script w b holds p call kind number numbers o e s next after-node sends reply forks.next
              changes forks.keys refl refl;
          families = families-hold;
        };
      }
