-- Process 1 ends at node 1: it is gone with its ended children, and node 1 goes on as the leader.
use Rattle.std.proofs.Common.{◌≡◌, ◌≢◌, ◌⊎◌, ℕ, ◌+◌, ◌≤◌, Bool, true, false, ◌||◌, if◌then◌else◌, List, [], ◌∷◌, ◌++◌, length, map, filter, nat_eq, Option, Some, None, is_none, is_some, Contains, refl, ap, sym, subst, ◌∙◌, inl, inr, arith}
use Rattle.std.proofs.lemmas.Bool.{cases_eq, eq-eqb, ne_eqb, or_cases, false≢true}
use Rattle.std.proofs.lemmas.List.{length-append}
use Rattle.pico_base.specs.declared.call.Call.{Call}
use Rattle.pico_base.specs.declared.call.Home.TheVariants as homes
use Rattle.pico_base.specs.declared.numbers.Kind.{Kind}
use Rattle.pico_base.specs.declared.numbers.Name.{Name}
use Rattle.pico_base.specs.declared.numbers.Name.TheVariants.{Proc, Msg, Sem}
use Rattle.pico_base.specs.declared.reply.Ending.{Ending}
use Rattle.pico_base.specs.declared.reply.Entry.{Entry}
use Rattle.pico_base.specs.declared.reply.Reply.TheVariants as replies
use Rattle.pico_base.specs.declared.script.Event.TheVariants as events
use Rattle.pico_base.specs.declared.script.Script.{Script}
use Rattle.pico_base.specs.Home.{home_of}
use Rattle.rpc_frame.specs.declared.frame.Frame.TheVariants as frames
use Rattle.number_maps.specs.Maps.{get, is_used}
use Rattle.kernel_laws.proofs.People.{from-living}
use Rattle.kernel_model.specs.Fitting.{Place, Places, move_on, places_after}
use Rattle.kernel_model.specs.Kernel.{Kernel, Process, living_at}
use Rattle.kernel_model.specs.Kernel as kernel
use Rattle.kernel_model.specs.Row.{Alive, EndedChild, Row, ended_child, lists}
use Rattle.kernel_model.specs.Script.{IsSoundScript}
use Rattle.kernel_model.specs.History.{number_in}
use Rattle.kernel_model.specs.Transition.{may_make}
use Rattle.waiting_model.specs.Calls.{waits_at}
use Rattle.waiting_model.specs.Kernel.{parent_in}
use Rattle.waiting_model.specs.Transition.{successor}
use Rattle.waiting_laws.proofs.Struck.{EndsWhole, end-leads, no-parent-of, outcome_of_end}
use Rattle.entry_laws.specs.Entering.{HasHistory, is_used_name}
use Rattle.entry_laws.proofs.Bodies.{living-body}
use Rattle.entry_laws.proofs.Ends.{EndBodies, EndsFirst, among-kept, ends-first, first-held, first-kept, gone_with, is_gone_of}
use Rattle.entry_laws.proofs.History.{history-goes-on, place-moves, places-stay}
use Rattle.entry_laws.proofs.Keys.{keys-kept}
use Rattle.entry_laws.proofs.Numbers.{process-there}
use Rattle.entry_laws.proofs.Others.{goes}
use Rattle.entry_laws.proofs.Places.{end-is-last}
use Rattle.node_model.specs.declared.held.Held.{Held}
use Rattle.node_model.specs.declared.held.Held.TheVariants as items
use Rattle.node_model.specs.Bodies.{Deeds, Living as LivingBody, Ended, Gone, body_in, process_body, waiters_of}
use Rattle.node_model.specs.Caller.{Caller, answer_call, caller_place, start_call}
use Rattle.node_model.specs.Directory.{Directory, held_for, is_known}
use Rattle.node_model.specs.Kinds.{for_kind, get_named, is_object, kind_of, number_of, put_all}
use Rattle.node_model.specs.Parcels.{end_first, ending_of, may_end_with}
use Rattle.node_model.specs.Entries.{entry_by}
use Rattle.serve_laws.specs.Ends.{is_among}
use Rattle.world_model.specs.Node.{Node, Leader, Stage, Living, Left, Over, can_run}
use Rattle.world_model.specs.Lives.{is_end}
use Rattle.world_model.specs.Starting.{run, start_by, end_leader, leave}
use Rattle.world_model.specs.Step.{Step, reply_here, step_to}
use Rattle.world_model.specs.World.{World, node_count, world_after, is_checkpoint}
use Rattle.world_laws.specs.Places.{Beside, InCheckpoint, InTable, Ends}
use Rattle.world_laws.specs.Sights.{node_of, directory_of, is_born_in, stage_of}
use Rattle.world_laws.specs.Plays.{begin}
use Rattle.world_laws.specs.Names.{NameHolds, forker, name_sight}
use Rattle.world_laws.specs.Callers.{CallHolds, CallSight, FreeIn, HasCallOrNone, HasEnded, call_sight, is_about, is_end_place, is_end_stage, is_item_about, is_waiter_of, may_be_in}
use Rattle.world_laws.specs.Cancels.{CancelHolds, Nothing, cancel_sight, is_held_cancel_of}
use Rattle.world_laws.specs.Families.{FamilyHolds, IsAwaited, IsWithParent, NodeHolds, RestsBelow, checkpoints_to}
use Rattle.world_laws.specs.Invariant.{Holds, IsLeading, process_deed}
use Rattle.world_laws.specs.Ranges.{FewRanges, KeysHold, kind_sight, leases_on_way}
use Rattle.world_laws.specs.Ways.{knows_parent, way_sight}
use Rattle.world_laws.specs.Wholes.{HasMarks, HasWhole, under_way_at}
use Rattle.world_laws.proofs.Cancels.{SameCancel, cancel-left-alone, is_item_of, next-later}
use Rattle.world_laws.proofs.Changes.{Changes, filter-is-list-map, made-same, read-same, still-born}
use Rattle.world_laws.proofs.LeftAlone.{LeavesCall, call-left-alone, frames-still-fit, kind-left-alone, name-left-alone, other-node-stays, parcel-was-there, same-directory, sender-stays, way-left-alone}
use Rattle.world_laws.proofs.Lines.{IsAnswered, answered, due-at-line}
use Rattle.world_laws.proofs.Numbers.{zero-is-unused}
use Rattle.world_laws.proofs.Replied.{cancel-over}
use Rattle.world_laws.proofs.Stays.{IsMore, call-stays, kind-stays, name-stays, node-born, way-stays}
use Rattle.world_laws.proofs.Steps.{KeepsAs, changes-by-run, run-steps}
use Rattle.rule_laws.proofs.Withdrawals.{old-still}
use Rattle.rule_laws.proofs.own.Alone.{process-is-body, process-unchanged, process-waiters}
use Rattle.rule_laws.proofs.own.Bodies.{process_bodies}
use Rattle.rule_laws.proofs.own.InWhole.{EntersAlone, LivesPlain, has-whole-then, lives-plain, other-withdrawal}
use Rattle.rule_laws.proofs.own.Others.{call-goes-on}
use Rattle.rule_laws.proofs.own.Rebodied.{name-rebodied, name-seen-rebodied}
use Rattle.rule_laws.proofs.own.Runs.{Starts, run-is}
use Rattle.rule_laws.proofs.own.Starting.{its-process, starts-may, starts-uncancelled}
use Rattle.rule_laws.proofs.ends.RecallAlls.{end-is-allowed, ends-by-end}
use Rattle.route_laws.proofs.exits.EndLeaves.{EndLeaves, RestsAfter, end-dead, end-others, family-after-end, pids-after-end}
use Rattle.route_laws.proofs.exits.Exits.{ends-last, end-no-fork}
use Rattle.route_laws.proofs.exits.NoForker.{first-has-no-forker}
use Rattle.route_laws.proofs.exits.WholeEnds.{ending-known}

-- ---- who is gone with the first process

any-front : (q : ℕ) (xs ys : List ℕ) → is_used xs q ≡ true → is_used (xs ++ ys) q ≡ true
any-front q [] ys h = absurd (false≢true h)
any-front q (x ∷ xs) ys h =
    elim (or_cases (nat_eq q x) (is_used xs q) h) [
      | inl first ↦ ap (λ t. t || is_used (xs ++ ys) q) first
      | inr later ↦ or-later (nat_eq q x) (any-front q xs ys later)
    ]
  where
    or-later : (t : Bool) → is_used (xs ++ ys) q ≡ true → (t || is_used (xs ++ ys) q) ≡ true
    or-later true h = refl
    or-later false h = h

any-last : (q : ℕ) (xs : List ℕ) → is_used (xs ++ q ∷ []) q ≡ true
any-last q [] = ap (λ t. t || false) (eq-eqb q q refl)
any-last q (x ∷ xs) = or-later (nat_eq q x) (any-last q xs)
  where
    or-later : (t : Bool) → is_used (xs ++ q ∷ []) q ≡ true → (t || is_used (xs ++ q ∷ []) q) ≡ true
    or-later true h = refl
    or-later false h = h

any-neither : (q n : ℕ) (xs : List ℕ) → is_used xs q ≡ false → q ≢ n → is_used (xs ++ n ∷ []) q ≡ false
any-neither q n [] h d = ap (λ t. t || false) (ne_eqb q n d)
any-neither q n (x ∷ xs) h d = by-test (nat_eq q x) h (λ g. any-neither q n xs g d)
  where
    by-test : (t : Bool) → (t || is_used xs q) ≡ false → (is_used xs q ≡ false → is_used (xs ++ n ∷ []) q ≡ false)
        → (t || is_used (xs ++ n ∷ []) q) ≡ false
    by-test true g later = absurd (false≢true (sym g))
    by-test false g later = later g

-- it is one of the children, or the process
gone-is : (q n : ℕ) (es : List EndedChild) → is_used (map (λ e. e.pid) es ++ n ∷ []) q ≡ true
    → (q ≡ n) ⊎ (is_among es q ≡ true)
gone-is q n es h =
    elim (cases_eq q n) [
      | inl e ↦ inl e
      | inr d ↦ inr (by-test (is_among es q) refl d)
    ]
  where
    by-test : (t : Bool) → is_among es q ≡ t → q ≢ n → is_among es q ≡ true
    by-test true e d = e
    by-test false e d = absurd (false≢true (sym (any-neither q n (map (λ e. e.pid) es) e d) ∙ h))

gone-not-row : (row : Row) → Gone ≡ LivingBody row → ⊥
gone-not-row row h = cc

gone-not-ended : (e : Ending) → Gone ≡ Ended e → ⊥
gone-not-ended e h = cc

some-same : {A : Type 0} {u v : A} → Some u ≡ Some v → u ≡ v
some-same e = cc

not-awaited : (to : ℕ) → InTable 1 ≡ InCheckpoint to → ⊥
not-awaited to e = cc

module _ (script : Script) (sound : IsSoundScript script) (w : World) (b : Beside) (holds : Holds script w [] b)
    (high : 1 ≤ node_count script) (can : can_run (node_of w 1) ≡ true) (s : Starts script w b 1)
    (home : home_of (node_of w 1).pid s.call ≡ homes.Parent) where
  abbrev n : Node
  n = node_of w 1

  abbrev k : Kernel
  k = b.kernel

  abbrev pid : ℕ
  pid = b.pids 1

  abbrev call : Call
  call = s.call

  abbrev row : Row
  row = s.row

  abbrev place : Place
  place = caller_place script 1 n.caller

  pub low : 1 ≤ 1
  low = omega arith

  node-holds : NodeHolds script b.pids (is_born_in w) 1 n
  node-holds = holds.nodes 1 low high

  pid-is : n.pid ≡ pid
  pid-is = s.birth.pid_is

  -- the call is `exit` or `killed`
  pub an-end : is_end call ≡ true
  an-end = ends-by-end n.pid call (ap (λ z. may_be_in Ends z call) home)

  -- its process has this row
  pub own-body : body_in k (Proc pid) ≡ LivingBody row
  own-body = living-body k pid s.alive s.lives ∙ ap LivingBody s.row_is

  -- which allows the call
  pub allowed : may_end_with row call ≡ true
  allowed =
      subst (λ (r : Row). may_end_with r call ≡ true)
      (ap (λ (a : Alive). a.row) (some-same (sym s.may.lives ∙ s.lives)) ∙ s.row_is)
      (end-is-allowed s.may.alive call an-end s.may.may)

  -- no process is its parent
  pub unlisted : (p : ℕ) (a : Alive) → living_at k p ≡ Some a → lists a.row.family pid ≡ true → ⊥
  unlisted p a lives lists_it =
      let is = from-living k.processes p a lives
      in let pids = holds.pids
      in let g = pids.there p (kernel.Living a) is
      in not-parent g.0 (λ z. g.2 (sym g.1 ∙ z)) a (ap (living_at k) g.1 ∙ lives) lists_it
    where
      not-parent : (g : ℕ) → b.pids g ≢ 0 → (a : Alive) → living_at k (b.pids g) ≡ Some a
          → lists a.row.family pid ≡ true → ⊥
      not-parent g forked a lives lists_it =
          let family : FamilyHolds script b.pids b.places k (process_deed b.deed) (checkpoints_to script w g)
          (stage_of w g) g = holds.families g forked
          in let d = family.children a pid lives (inl lists_it)
          in let pids = holds.pids
          in let first : 1 ≡ d.0 = pids.apart 1 d.0 s.birth.forked (sym d.2)
          in let none : g ≡ 0 = sym d.1 ∙ ap (forker script) (sym first) ∙ first-has-no-forker script sound
          in let range = pids.nodes g forked
          in let above = range.0
          in omega (arith, none, above)

  -- the kernel's side

  abbrev e : EndsFirst k pid call row
  e = ends-first k pid call row s.may own-body allowed unlisted

  abbrev after : Kernel
  after = e.next

  abbrev gone : Name → Bool
  gone name = is_gone_of (gone_with pid row) name

  -- its ended children have numbers, and their deeds are in node 1's table
  child-here : (q : ℕ) → is_among row.family.ended q ≡ true → (q ≢ 0) × (b.deed (Proc q) ≡ InTable 1)
  child-here q h =
      let kept = among-kept row.family.ended q h
      in let family : FamilyHolds script b.pids b.places k (process_deed b.deed) (checkpoints_to script w 1)
      (stage_of w 1) 1 = holds.families 1 s.birth.forked
      in let listed : Contains s.alive.row.family.ended (ended_child q kept.0) =
      subst (λ (r : Row). Contains r.family.ended (ended_child q kept.0)) (sym s.row_is) kept.1
      in let d = family.children s.alive q s.lives (inr (kept.0, listed))
      in let over = (s.may.valid.alive pid s.alive s.lives).ended q kept.0 listed
      in (d.3, by-child d.0 d.1 d.2 d.3 kept.0 over)
    where
      by-child : (d : ℕ) → forker script d ≡ 1 → b.pids d ≡ q → q ≢ 0 → (ending : Ending)
          → get k.processes q ≡ Some (kernel.Ended ending) → b.deed (Proc q) ≡ InTable 1
      by-child d forks is some ending over =
          let its : FamilyHolds script b.pids b.places k (process_deed b.deed) (checkpoints_to script w d)
          (stage_of w d) d = holds.families d (λ z. some (sym is ∙ z))
          in let process = some-same (sym its.is ∙ ap (get k.processes) is ∙ over)
          in ap (λ p. b.deed (Proc p)) (sym is)
          ∙ subst (λ v. IsWithParent (process_deed b.deed) (b.pids (forker script d)) (b.pids d) v) process
          its.with_parent
          ∙ ap (λ y. b.deed (Proc (b.pids y))) forks ∙ s.deed

  -- so are all that are gone
  gone-here : (name : Name) → gone name ≡ true → b.deed name ≡ InTable 1
  gone-here (Proc q) h =
      elim (gone-is q pid row.family.ended h) [
        | inl own ↦ ap (λ p. b.deed (Proc p)) own ∙ s.deed
        | inr among ↦ (child-here q among).1
      ]
  gone-here (Msg id) h = absurd (false≢true h)
  gone-here (Sem id) h = absurd (false≢true h)

  gone-own : gone (Proc pid) ≡ true
  gone-own = any-last pid (map (λ c. c.pid) row.family.ended)

  zero-among : is_among row.family.ended 0 ≡ false
  zero-among = by-test (is_among row.family.ended 0) refl
    where
      by-test : (t : Bool) → is_among row.family.ended 0 ≡ t → is_among row.family.ended 0 ≡ false
      by-test false h = h
      by-test true h = absurd ((child-here 0 h).0 refl)

  zero-body : body_in k (Proc 0) ≡ Gone
  zero-body = by-process (get k.processes 0) refl
    where
      none : is_some (get k.processes 0) ≡ false
      none =
          process-there k 0 s.may.valid
          ∙ zero-is-unused (is_born_in w) (kind_sight w k (kind_of (Proc 0))) (holds.kinds (kind_of (Proc 0)))

      by-process : (o : Option Process) → get k.processes 0 ≡ o → body_in k (Proc 0) ≡ Gone
      by-process None is = ap process_body is
      by-process (Some v) is = absurd (false≢true (sym none ∙ ap is_some is))

  -- nobody is its parent: number 0 stands for one that is gone
  bodies : EndBodies k after pid 0 row Gone (ending_of call)
  bodies =
      record {
        own = e.gone (Proc pid) gone-own;
        its = e.rest (Proc 0)
            (any-neither 0 pid (map (λ c. c.pid) row.family.ended) zero-among (λ z. s.birth.forked (sym z)))
            ∙ zero-body;
        children = λ q other away h. e.gone (Proc q) (any-front q (map (λ c. c.pid) row.family.ended) (pid ∷ []) h);
        others = λ q other away h. e.rest (Proc q)
            (any-neither q pid (map (λ c. c.pid) row.family.ended) h other);
        objects = λ name object. e.rest name (not-gone name object);
        apart = λ z. s.birth.forked (sym z);
        not_among = zero-among;
      }
    where
      not-gone : (name : Name) → is_object name ≡ true → gone name ≡ false
      not-gone (Proc q) h = absurd (false≢true h)
      not-gone (Msg id) h = refl
      not-gone (Sem id) h = refl

  -- the history

  abbrev entry : Entry
  entry = entry_by 1 pid call replies.Ended

  abbrev places_now : Places
  places_now = places_after script b.places entry place

  leaves : EndLeaves k b.places pid 0 row Gone (ending_of call) after places_now
  leaves =
      record {
        valid = s.may.valid;
        others = goes k pid call replies.Ended after s.may.valid s.may.alone e.enters.makes;
        own = own-body;
        its = zero-body;
        listed = λ r is. absurd (gone-not-row r is);
        bodies = bodies;
        used = e.enters.used;
        was = place;
        place_was = s.free.there;
        now = move_on place call (Some replies.Ended);
        place_is = place-moves script b.places 1 pid call replies.Ended place (end-no-fork call an-end);
        over = end-is-last script 1 n.caller call s.due_now.due (ends-last call an-end);
        places_stay = λ q other. places-stay script b.places 1 pid call replies.Ended place q
            (end-no-fork call an-end) other;
      }

  -- ---- the step

  abbrev started : Caller
  started = start_call n.caller call

  abbrev deeds_now : Deeds
  deeds_now = put_all n.deeds (end_first pid row)

  abbrev now : Node
  now = record n { caller = answer_call script 1 started call replies.Ended; stage = Over; deeds = deeds_now }

  abbrev ended : Step
  ended = record { node = now; entries = entry ∷ []; sends = []; strikes = false }

  -- the step, by the numbers that the node has
  abbrev step_with : ℕ → ℕ → Step
  step_with number process =
      record {
        node =
            record n {
              caller = answer_call script number started call replies.Ended;
              stage = Over;
              deeds = put_all n.deeds (end_first process row);
            };
        entries = entry_by number process call replies.Ended ∷ [];
        sends = [];
        strikes = false;
      }

  -- in the middle of it the reply is to come
  abbrev middle : Step
  middle =
      record {
        node = record n { caller = started; stage = Over; deeds = put_all n.deeds (end_first n.pid row) };
        entries = entry_by n.number n.pid call replies.Ended ∷ [];
        sends = [];
        strikes = false;
      }

  rule : run script n ≡ Some ended
  rule =
      run-is script sound w b holds 1 low high can s
      ∙ ap (start_by script (step_to (record n { caller = started })) call row) home
      ∙ ap (λ t. Some (if t then end_leader script (step_to (record n { caller = started })) call row
      else leave (step_to (record n { caller = started })))) (eq-eqb n.number 1 node-holds.number)
      ∙ ap (λ t. Some (if t then reply_here script middle replies.Ended
      (elim (nat_eq (n.caller.ticket + 1) (n.caller.ticket + 1)) [ true ↦ Some call | false ↦ None ])
      else record middle { sends = (n.number, frames.Answer (n.caller.ticket + 1) replies.Ended) ∷ [] }))
      (eq-eqb n.number n.number refl)
      ∙ ap (λ t. Some (reply_here script middle replies.Ended (elim t [ true ↦ Some call | false ↦ None ])))
      (eq-eqb (n.caller.ticket + 1) (n.caller.ticket + 1) refl)
      ∙ ap (λ number. Some (step_with number n.pid)) node-holds.number
      ∙ ap (λ process. Some (step_with 1 process)) pid-is

  -- ---- what it changes

  abbrev w2 : World
  w2 = world_after w 1 ended

  -- the end in the kernel in which callers wait
  abbrev pub first_whole : EndsWhole b.whole (b.pids 1) s.call (ending_of s.call)
  first_whole =
      let process = its-process script w b holds 1 low high s
      in end-leads b.whole pid process.alive call (ending_of call) process.lives
      (starts-may script w b holds 1 low high s) (ending-known call an-end)

  -- beside the world the kernels and the places are the next ones
  abbrev pub first_over : Beside
  first_over =
      record b {
        lines = b.lines ++ entry_by 1 (b.pids 1) s.call replies.Ended ∷ [];
        kernel = e.next;
        places = places_after script b.places (entry_by 1 (b.pids 1) s.call replies.Ended)
            (caller_place script 1 (node_of w 1).caller);
        whole = first_whole.next;
        body = process_bodies e.next b.body;
      }

  changes : Changes script 1 w w2 now [] [] (entry ∷ [])
  changes = changes-by-run script w holds.shape 1 ended low high tt

  same-there : directory_of w2 ≡ directory_of w
  same-there = read-same script 1 w w2 now [] [] (entry ∷ []) changes (λ (m : Node). m.leader.directory) refl 1

  more : IsMore (is_born_in w) (is_born_in w2)
  more = still-born script 1 w w2 now [] [] (entry ∷ []) changes (λ h. refl)

  stage-else : (y : ℕ) → y ≢ 1 → stage_of w2 y ≡ stage_of w y
  stage-else y d = ap (λ (m : Node). m.stage) (changes.others y d)

  -- the node

  rows-now : (q : ℕ) (r : Row) → get_named deeds_now (Proc q) ≡ Some (LivingBody r) → q ≡ n.pid
  rows-now q r there = by-test (gone (Proc q)) refl
    where
      by-test : (t : Bool) → gone (Proc q) ≡ t → q ≡ n.pid
      by-test true h = absurd (gone-not-row r (some-same (sym (first-held pid row n.deeds (Proc q) h) ∙ there)))
      by-test false h = node-holds.rows q r (sym (first-kept pid row n.deeds (Proc q) h) ∙ there)

  node-now : NodeHolds script b.pids (is_born_in w) 1 now
  node-now =
      record {
        number = node-holds.number;
        holds = refl;
        birth = s.birth;
        first = λ z. refl;
        others = λ d z. d refl;
        rows = rows-now;
        owners = node-holds.owners;
      }

  nodes-now : (y : ℕ) → 1 ≤ y → y ≤ node_count script → NodeHolds script b.pids (is_born_in w2) y (node_of w2 y)
  nodes-now y low_y high_y =
      elim (cases_eq y 1) [
        | inr d ↦
            other-node-stays script 1 w w2 now [] [] (entry ∷ []) changes b.pids (is_born_in w) (is_born_in w2) y d
            more (holds.nodes y low_y high_y)
        | inl z ↦
            subst (λ x. NodeHolds script b.pids (is_born_in w2) x (node_of w2 x)) (sym z)
            (subst (λ (m : Node). NodeHolds script b.pids (is_born_in w2) 1 m) (sym changes.here)
            (node-born script b.pids (is_born_in w) (is_born_in w2) 1 now more node-now))
      ]

  -- ---- the families

  body-same : (q : ℕ) → gone (Proc q) ≡ false → body_in after (Proc q) ≡ body_in k (Proc q)
  body-same q h = e.rest (Proc q) h

  awaited-same : (q to : ℕ) → b.deed (Proc q) ≡ InCheckpoint to
      → (body_in after (Proc q) ≡ body_in k (Proc q)) × (q ≢ pid)
  awaited-same q to h = (
    body-same q (not-gone (gone (Proc q)) refl),
    λ own. not-awaited to (sym s.deed ∙ ap (λ p. b.deed (Proc p)) (sym own) ∙ h),
  )
    where
      not-gone : (t : Bool) → gone (Proc q) ≡ t → gone (Proc q) ≡ false
      not-gone false z = z
      not-gone true z = absurd (not-awaited to (sym (gone-here (Proc q) z) ∙ h))

  rests : RestsAfter k after b.places places_now pid 0 row Gone (ending_of call) leaves script b.pids 1
      (process_deed b.deed) (process_deed b.deed)
  rests =
      record {
        process_is = refl;
        parent_is = λ up. absurd (up refl);
        rests = subst (λ d. RestsBelow 1 d) (sym s.deed) (inr refl);
        with_parent = λ ending is. absurd (gone-not-ended ending
            (sym (e.gone (Proc pid) gone-own) ∙ ap process_body is));
        where_others = λ g v other at. at;
        together = λ p q h. h;
        comes = λ q to h. h;
        awaited = awaited-same;
      }

  family-then : (y : ℕ) → b.pids y ≢ 0
      → FamilyHolds script b.pids places_now after (process_deed b.deed) (checkpoints_to script w2 y) (stage_of w y) y
  family-then y forked =
      let pids = holds.pids
      in subst (λ fs. FamilyHolds script b.pids places_now after (process_deed b.deed) fs (stage_of w y) y)
      (sym (made-same script 1 w w2 now [] [] (entry ∷ []) changes (λ t q fs. filter is_checkpoint fs)
      (λ t q. filter-is-list-map is_checkpoint) tt tt y (forker script y)))
      (family-after-end k after b.places places_now pid 0 row Gone (ending_of call) leaves script b.pids 1
      (process_deed b.deed) (process_deed b.deed) rests (checkpoints_to script w y) (stage_of w y) y forked pids.apart
      (holds.families y forked))

  -- node 1's stage doesn't matter, since its process's deed is in its table
  at-stage : (stage : Stage)
      → FamilyHolds script b.pids places_now after (process_deed b.deed) (checkpoints_to script w2 1) (stage_of w 1) 1
      → FamilyHolds script b.pids places_now after (process_deed b.deed) (checkpoints_to script w2 1) stage 1
  at-stage stage h =
      record {
        process = h.process;
        is = h.is;
        child = h.child;
        where_it_is = h.where_it_is;
        with_parent = h.with_parent;
        checkpoint = h.checkpoint;
        fresh = h.fresh;
        awaited = subst (λ d. IsAwaited stage d) (sym s.deed) tt;
        children = h.children;
      }

  families-now : (y : ℕ) → b.pids y ≢ 0
      → FamilyHolds script b.pids places_now after (process_deed b.deed) (checkpoints_to script w2 y) (stage_of w2 y) y
  families-now y forked =
      elim (cases_eq y 1) [
        | inl z ↦
            subst (λ x. FamilyHolds script b.pids places_now after (process_deed b.deed) (checkpoints_to script w2 x)
            (stage_of w2 x) x) (sym z)
            (at-stage (stage_of w2 1) (family-then 1 s.birth.forked))
        | inr d ↦
            subst (λ stage. FamilyHolds script b.pids places_now after (process_deed b.deed)
            (checkpoints_to script w2 y) stage y) (sym (stage-else y d)) (family-then y forked)
      ]

  -- ---- the calls

  -- the same callers wait
  waiters-same : (name : Name) → waiters_of (first_over.body name) ≡ waiters_of (b.body name)
  waiters-same = process-waiters script w [] Nothing b holds after bodies.objects

  abbrev x : CallSight
  x = call_sight w [] b 1

  abbrev x2 : CallSight
  x2 = call_sight w2 [] first_over 1

  is-answered : IsAnswered script 1 started call replies.Ended now.caller
  is-answered =
      let shape = holds.shape
      in let line = due-at-line script 1 n.caller call s.due_now.due
      in answered script 1 shape.tries started call replies.Ended line.0 line.1 s.free.try_left

  own-ended : HasEnded x2
  own-ended =
      record {
        last = leaves.now;
        there = leaves.place_is;
        over = leaves.over;
        dead = end-dead k after b.places places_now pid 0 row Gone (ending_of call) leaves;
      }

  call-own : CallHolds script 1 (is_born_in w2) x2
  call-own =
      record {
        call = subst (λ (o : Option Call). HasCallOrNone script 1 (is_born_in w2) x2 o)
            (sym (ap (λ (m : Node). m.caller.under_way) changes.here ∙ is-answered.free))
            (record {
              nowhere = record {
                in_streams = λ to q. made-same script 1 w w2 now [] [] (entry ∷ []) changes
                    (λ t r fs. filter (is_about 1 t r) fs) (λ t r. filter-is-list-map (is_about 1 t r)) tt tt to q
                    ∙ s.nowhere.in_streams to q;
                held_for_names = λ name. ap (λ (d : Directory). filter (is_item_about 1) (held_for d name)) same-there
                    ∙ s.nowhere.held_for_names name;
                in_hand = refl;
                waiting = λ name. ap (filter (is_waiter_of 1)) (waiters-same name) ∙ s.nowhere.waiting name;
              };
              idle = s.idle;
              free = subst (λ (stage : Stage). FreeIn script 1 x2 stage)
                  (sym (ap (λ (m : Node). m.stage) changes.here)) own-ended;
            });
        ends = ap is_end_place s.idle ∙ sym (ap (λ (m : Node). is_end_stage m.stage) changes.here);
      }

  other-process : (y : ℕ) → y ≢ 1 → b.pids y ≢ pid
  other-process y d same = let pids = holds.pids in d (sym (pids.apart 1 y s.birth.forked (sym same)))

  -- with the next kernel
  abbrev between : Beside
  between = record b { kernel = after }

  leaves-call : (y : ℕ) → y ≢ 1 → LeavesCall w w2 [] [] between first_over 1 now y
  leaves-call y d =
      record {
        own = λ z. absurd (d z);
        place_is = leaves.places_stay (b.pids y) (other-process y d);
        alive_is = refl;
        call_is = refl;
        held_is = λ name. ap (λ (z : Directory). filter (is_item_about y) (held_for z name)) same-there;
        hand_is = refl;
        waiters_are = λ name. ap (filter (is_waiter_of y)) (waiters-same name);
      }

  calls-now : (y : ℕ) → 1 ≤ y → y ≤ node_count script
      → CallHolds script y (is_born_in w2) (call_sight w2 [] first_over y)
  calls-now y low_y high_y =
      elim (cases_eq y 1) [
        | inl z ↦ subst (λ p. CallHolds script p (is_born_in w2) (call_sight w2 [] first_over p)) (sym z) call-own
        | inr d ↦
            call-stays script y (is_born_in w) (is_born_in w2) (call_sight w [] between y)
            (call_sight w2 [] first_over y) more
            (call-left-alone script 1 w w2 now [] [] (entry ∷ []) changes [] [] between first_over y
            (leaves-call y d) tt tt)
            (call-goes-on script y (is_born_in w) (call_sight w [] b y) (living_at after (b.pids y))
            (end-others k after b.places places_now pid 0 row Gone (ending_of call) leaves (b.pids y)
            (other-process y d)) (holds.calls y low_y high_y))
      ]

  -- ---- the names

  body-gone : (name : Name) → gone name ≡ true → first_over.body name ≡ Gone
  body-gone (Proc q) h = e.gone (Proc q) h
  body-gone (Msg id) h = absurd (false≢true h)
  body-gone (Sem id) h = absurd (false≢true h)

  begins-same : (holds_it comes : Bool) → begin Over holds_it comes ≡ begin (stage_of w 1) holds_it comes
  begins-same holds_it comes = ap (λ (stage : Stage). begin stage holds_it comes) (sym s.stage)

  used-same : (name : Name) → is_used_name after name ≡ is_used_name k name
  used-same name = ap (λ u. is_used u (number_of name)) (leaves.used (kind_of name))

  name-left : (name : Name) → gone name ≡ false
      → NameHolds script b.pids (is_born_in w2) name (name_sight script w2 [] first_over name)
  name-left name h =
      name-stays script b.pids (is_born_in w) (is_born_in w2) name _ _ more
      (name-left-alone script 1 w w2 now [] [] (entry ∷ []) changes [] [] b first_over name
      (record {
        directory = same-directory (directory_of w) (directory_of w2) same-there name;
        used_is = used-same name;
        part_is = e.rest name h;
        body_is = process-unchanged script w [] Nothing b holds after bodies.objects name (e.rest name h);
        deed_is = refl;
        held_is = first-kept pid row n.deeds name h;
        begins_is = begins-same;
        hand_is = refl;
        steps_are = λ u y. refl;
        ranges_are = λ u y. refl;
      }) tt tt) (holds.names name)

  name-gone : (name : Name) → gone name ≡ true
      → NameHolds script b.pids (is_born_in w2) name (name_sight script w2 [] first_over name)
  name-gone name h =
      let known : NameHolds script b.pids (is_born_in w) name (name_sight script w [] b name) = holds.names name
      in name-stays script b.pids (is_born_in w) (is_born_in w2) name _ _ more
      (name-seen-rebodied script 1 w w2 now [] [] (entry ∷ []) changes [] [] b first_over name known.tables
      (record {
        directory = same-directory (directory_of w) (directory_of w2) same-there name;
        used_is = used-same name;
        deed_was = gone-here name h;
        deed_is = refl;
        held_is = first-held pid row n.deeds name h ∙ ap Some (sym (body-gone name h));
        begins_is = begins-same;
        hand_is = refl;
        steps_are = λ u y. refl;
        ranges_are = λ u y. refl;
      }) tt tt)
      (name-rebodied script b.pids (is_born_in w) name (name_sight script w [] b name) 1 (body_in after name)
      (first_over.body name) (process-is-body script w [] Nothing b holds after bodies.objects name)
      (gone-here name h) known)

  names-now : (name : Name) → NameHolds script b.pids (is_born_in w2) name (name_sight script w2 [] first_over name)
  names-now name = by-test (gone name) refl
    where
      by-test : (t : Bool) → gone name ≡ t
          → NameHolds script b.pids (is_born_in w2) name (name_sight script w2 [] first_over name)
      by-test true h = name-gone name h
      by-test false h = name-left name h

  -- ---- all else

  keys-now : KeysHold (node_of w2 1).leader after
  keys-now =
      subst (λ (l : Leader). KeysHold l after)
      (sym (read-same script 1 w w2 now [] [] (entry ∷ []) changes (λ (m : Node). m.leader) refl 1))
      (let l : Leader = (node_of w 1).leader
      in keys-kept l.queue_keys l.set_keys k after e.keys holds.keys)

  ranges-same : (kind : Kind) → for_kind (directory_of w2).ranges kind ≡ for_kind (directory_of w).ranges kind
  ranges-same kind = ap (λ (z : Directory). for_kind z.ranges kind) same-there

  few-now : (kind : Kind) → FewRanges script w2 b.call kind
  few-now kind =
      let old : length (for_kind (directory_of w).ranges kind)
      ≤ length w.journal + leases_on_way script b.call kind + 1 = holds.few kind
      in let longer : length w2.journal ≡ length w.journal + length (entry ∷ []) =
      ap length changes.journal ∙ length-append w.journal (entry ∷ [])
      in let many : length (for_kind (directory_of w2).ranges kind) ≡ length (for_kind (directory_of w).ranges kind) =
      ap length (ranges-same kind)
      in omega (arith, old, longer, many)

  -- ---- the kernel in which callers wait

  history-now : HasHistory script first_over.lines after places_now
  history-now =
      history-goes-on script b.lines k b.places 1 pid call replies.Ended place after holds.history s.free.there
      s.due_now.due e.enters.makes

  whole-was : HasWhole w b
  whole-was = holds.whole

  -- there, too, no process is its parent
  no-parent : parent_in pid b.whole.processes ≡ None
  no-parent =
      no-parent-of b.whole pid whole-was.sound
      (λ p a lives listed.
      let now : LivesPlain k p a = lives-plain b.whole k p a whole-was.alike lives
      in unlisted p now.alive now.lives (ap (λ (r : Row). lists r.family pid) now.row ∙ listed))

  none-now : under_way_at w2 1 ≡ None
  none-now = ap (λ (m : Node). m.caller.under_way) changes.here ∙ is-answered.free

  same-alive : (a c : Alive) → Some a ≡ Some c → a ≡ c
  same-alive a c h = cc

  first-enters : EntersAlone w w2 b first_over 1 1 call (Some replies.Ended)
  first-enters =
      record {
        step = first_whole.step (number_in (Some replies.Ended))
            ∙ ap (λ o. Some (successor first_whole.next (outcome_of_end pid (ending_of call) o))) no-parent;
        keeps = first_whole.keeps;
        ends_no_wait = s.due_now.not_withdrawal;
        may = λ a lives. subst (λ (z : Alive). may_make z call ≡ true) (same-alive s.alive a (sym s.lives ∙ lives))
            s.due_now.may;
        journal = changes.journal;
        lines = refl;
        led = holds.history.legal;
        leads = history-now.legal;
        parts = λ name. (process-is-body script w [] Nothing b holds after bodies.objects name).parts;
        waiters = waiters-same;
        own_pid = refl;
        own_marks = λ a marks. subst (λ o. HasMarks (b.call 1) o a) (sym none-now) marks;
        others = λ y d. inl (refl, other-process y d);
        calls = λ y d same. (refl, ap (λ (m : Node). m.caller.under_way) (changes.others y d));
        dead = λ y d same dead. (end-others k after b.places places_now pid 0 row Gone (ending_of call) leaves
            (b.pids y) (other-process y d)).dead dead;
      }

  -- ---- withdrawals

  held-same : (test : Held → Bool) (name : Name)
      → filter test (held_for (directory_of w2) name) ≡ filter test (held_for (directory_of w) name)
  held-same test name = ap (λ (z : Directory). filter test (held_for z name)) same-there

  seen-same : (y : ℕ) → y ≢ 1 → SameCancel (cancel_sight w [] b y) (cancel_sight w2 [] first_over y)
  seen-same y d =
      cancel-left-alone script 1 w w2 now [] [] (entry ∷ []) changes [] [] b first_over y
      (record {
        own = λ z. absurd (d z);
        call_is = refl;
        cancel_is = refl;
        held_is = held-same (is_item_of y);
        hand_is = refl;
        nowhere = λ one known may l. record {
          node = l.node;
          is = l.is;
          leaves = ap (λ (z : Directory). is_none (get z.partings l.node)) same-there ∙ l.leaves;
          unknown = ap (λ z. is_known z (waits_at (node_of w y).pid one)) same-there ∙ l.unknown;
        };
      }) tt tt tt tt

  -- who lives on has the same row
  body-stays : (y : ℕ) (c : Alive) → living_at after (b.pids y) ≡ Some c
      → body_in after (Proc (b.pids y)) ≡ body_in k (Proc (b.pids y))
  body-stays y c lives = by-test (gone (Proc (b.pids y))) refl
    where
      by-test : (t : Bool) → gone (Proc (b.pids y)) ≡ t
          → body_in after (Proc (b.pids y)) ≡ body_in k (Proc (b.pids y))
      by-test false h = e.rest (Proc (b.pids y)) h
      by-test true h =
          absurd (gone-not-row c.row (sym (e.gone (Proc (b.pids y)) h) ∙ living-body after (b.pids y) c lives))

  own-cancel : CancelHolds 1 Nothing (cancel_sight w2 [] first_over 1)
  own-cancel =
      let ticket : (node_of w2 1).caller.ticket ≡ n.caller.ticket + 1 =
      ap (λ (m : Node). m.caller.ticket) changes.here ∙ is-answered.ticket_is
      in cancel-over 1 Nothing Nothing (cancel_sight w [] b 1) (cancel_sight w2 [] first_over 1)
      (old-still script 1 w w2 now [] [] (entry ∷ []) changes [] [] b first_over 1
      (sym (ap (λ (m : Node). m.pid) changes.here))
      (next-later n.caller (let m : Node = node_of w2 1 in m.caller) (omega (arith, ticket)))
      (held-same (is_held_cancel_of 1)) refl tt tt)
      (starts-uncancelled script w b holds 1 low high s) (inl none-now) (λ owed. absurd (false≢true owed))
      (holds.cancels 1 low high)

  cancels-now : (y : ℕ) → 1 ≤ y → y ≤ node_count script → CancelHolds y Nothing (cancel_sight w2 [] first_over y)
  cancels-now y low_y high_y =
      elim (cases_eq y 1) [
        | inl z ↦ subst (λ p. CancelHolds p Nothing (cancel_sight w2 [] first_over p)) (sym z) own-cancel
        | inr d ↦
            other-withdrawal w w2 b first_over 1 1 call (Some replies.Ended) whole-was first-enters y d refl
            (other-process y d) (body-stays y) [] [] Nothing (seen-same y d) (holds.cancels y low_y high_y)
      ]

  living-not-left : stage_of w 1 ≡ Left → ⊥
  living-not-left left = differ (sym s.stage ∙ left)
    where
      differ : Living ≡ Left → ⊥
      differ h = cc

  not-leader : (y : ℕ) → 2 ≤ y → y ≢ 1
  not-leader y two z = omega (arith, two, z)

  -- The event has a step, and all holds after it.
  pub first-end-keeps : KeepsAs script w (events.Run 1) first_over
  first-end-keeps =
      record {
        next = w2;
        is_step = run-steps script w 1 ended holds.shape low high rule;
        holds = record {
          shape = changes.shape;
          history = history-now;
          whole = has-whole-then w w2 b first_over 1 1 call (Some replies.Ended) whole-was first-enters;
          leading = subst (λ (z : Directory). IsLeading z) (sym same-there) holds.leading;
          pids = pids-after-end k after b.places places_now pid 0 row Gone (ending_of call) leaves script b.pids
              holds.pids;
          nodes = nodes-now;
          frames_fit = frames-still-fit script 1 w w2 now [] [] (entry ∷ []) changes more holds.frames_fit tt tt;
          names = names-now;
          calls = calls-now;
          cancels = cancels-now;
          ways = λ y low_y high_y. way-stays script b.pids y (knows_parent script w b.pids y)
              (knows_parent script w2 b.pids y) (way_sight w y) (way_sight w2 y)
              (λ h. ap (λ z. is_known z (Proc (b.pids (forker script y)))) same-there ∙ h)
              (way-left-alone script 1 w w2 now [] [] (entry ∷ []) changes y
              (λ z. absurd (not-leader y low_y z)) (ap (λ (z : Directory). get z.partings y) same-there) tt tt)
              (holds.ways y low_y high_y);
          parcels = λ parcel there. sender-stays script 1 w w2 now [] [] (entry ∷ []) changes b.pids parcel
              (λ left. absurd (living-not-left left))
              (holds.parcels parcel
              (parcel-was-there script 1 w w2 now [] [] (entry ∷ []) changes [] parcel tt
              (λ q. subst (λ z. Contains (held_for z (Proc q)) (items.Ending parcel)) same-there) there));
          kinds = λ kind. kind-stays (is_born_in w) (is_born_in w2) _ _ more
              (kind-left-alone script 1 w w2 now [] [] (entry ∷ []) changes k after kind
              (λ number. ap (λ u. is_used u number) (leaves.used kind)) refl (ranges-same kind) tt tt)
              (holds.kinds kind);
          few = few-now;
          keys = keys-now;
          families = families-now;
        };
      }
