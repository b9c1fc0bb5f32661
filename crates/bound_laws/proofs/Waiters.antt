-- Whoever waits at what a node holds, or is woken there, waits with a call of a node: so it stays where a call is
-- carried out, whatever it does.
use Rattle.std.proofs.Common.{◌≡◌, ℕ, zero, suc, Bool, true, false, List, [], ◌∷◌, length, map, filter, Option, Some, None, Result, Ok, Err, refl, ap, sym, subst, ◌∙◌, inl, inr, nat_eq}
use Rattle.std.specs.Prelude.{if◌then◌else◌}
use Rattle.std.specs.List.{AllByRecursion}
use Rattle.std.specs.Option.{option_and_then, option_map}
use Rattle.std.proofs.lemmas.Bool.{false≢true}
use Rattle.pico_base.specs.declared.call.Call.{Call}
use Rattle.pico_base.specs.declared.call.Call.TheVariants as calls
use Rattle.pico_base.specs.declared.numbers.Name.{Name}
use Rattle.pico_base.specs.declared.numbers.Name.TheVariants.{Proc, Msg, Sem}
use Rattle.pico_base.specs.declared.reply.Errno.{Errno}
use Rattle.pico_base.specs.declared.reply.Errno.TheVariants.{Eidrm}
use Rattle.pico_base.specs.declared.reply.Reply.TheVariants.{Fail}
use Rattle.pico_base.specs.declared.script.Script.{Script}
use Rattle.pico_base.specs.declared.signal.SigArg.{SigArg}
use Rattle.pico_base.specs.declared.signal.SigArg.TheVariants.{Zero, Is, Bad}
use Rattle.rpc_frame.specs.declared.deed.Parcel.{Parcel}
use Rattle.number_maps.specs.Maps.{get, Numbered}
use Rattle.kernel_laws.proofs.Lists.{all-both, all-filtered}
use Rattle.kernel_laws.proofs.Plain.{Of, by_test}
use Rattle.kernel_model.specs.Queue.{Queue}
use Rattle.kernel_model.specs.Row.{Waited, Found, NotYet, NoChild, wait}
use Rattle.kernel_model.specs.SemaphoreSet.{SemaphoreSet}
use Rattle.kernel_model.specs.Signals.{Signals, act_on, raise}
use Rattle.waiting_model.specs.declared.callers.Waiting.{Waiting}
use Rattle.waiting_model.specs.declared.callers.Wake.{Wake}
use Rattle.waiting_model.specs.Effect.{Effect, on_named, reply_with}
use Rattle.waiting_model.specs.Kernel.{Kernel, Process, with_alive}
use Rattle.waiting_model.specs.Kernel as kernel
use Rattle.waiting_model.specs.Marks.{Alive, raise_by_other}
use Rattle.waiting_model.specs.ProcessCalls.{action_effect, kill, kill_at, reap_child, signal_living, with_signals}
use Rattle.waiting_model.specs.Queue.{carry_out_on_queue, try_queue}
use Rattle.waiting_model.specs.QueueCalls.{queue_effect, remove_queue}
use Rattle.waiting_model.specs.SemaphoreSet.{carry_out_on_set, carry_out_on_set_by, try_set}
use Rattle.waiting_model.specs.SetCalls.{remove_set, set_effect}
use Rattle.waiting_model.specs.Transition.{effect_by}
use Rattle.waiting_model.specs.Waiters.{Attempt, Awaited, Carried, Ready, Settled, Try, awaited, carry_out_by, first_ready, ready_or, settle_by, settle_on, wake}
use Rattle.entry_laws.proofs.Names.{get-put-other-name, get-put-same-name, name-cases}
use Rattle.node_model.specs.Bodies.{AQueue, ASet, Body, Deeds, Ended, Gone, Living, Removed, kernel_with, waiters_of, whole_in, whole_process, whole_queue, whole_set}
use Rattle.node_model.specs.Carrying.{makes_or_ends}
use Rattle.node_model.specs.Kinds.{get_named, none_named, put_all, put_named, without_named}
use Rattle.node_model.specs.Serving.{Served, actor, body_without, caller_if, changed_names, makes_something, name_for, parts_in, serve, serve_at, serve_by, serve_on, woken_reads}
use Rattle.node_model.specs.Parcels.{committed, all_gone, ending_of, kernel_after_end, names_after_end}
use Rattle.world_model.specs.World.{IsNode}
use Rattle.bound_laws.specs.Bounded.{DeedsAreBounded, HeldNamesNodes, WaitersAreOfNodes}
use Rattle.bound_laws.proofs.Parts.{none-rises, put-rises, without-rises}
use Rattle.bound_laws.proofs.Tables.{get-without-named, put-thing, without-thing}

module _ (script : Script) where
  -- ---- the deeds of a node

  none-here : (name : Name) → HeldNamesNodes script (get_named none_named name)
  none-here (Proc n) = tt
  none-here (Msg n) = tt
  none-here (Sem n) = tt

  -- none are held
  pub no-deeds-bounded : DeedsAreBounded script none_named
  no-deeds-bounded = record { rise = none-rises; waiters = none-here }

  -- one more
  pub put-deed-bounded : (deeds : Deeds) (name : Name) (body : Body) → DeedsAreBounded script deeds
      → WaitersAreOfNodes script body → DeedsAreBounded script (put_named deeds name body)
  put-deed-bounded deeds name body k own =
      record {
        rise = put-rises deeds name body k.rise;
        waiters = λ other. elim (name-cases other name) [
          | inl same ↦
              subst (λ m. HeldNamesNodes script (get_named (put_named deeds name body) m)) (sym same)
              (subst (HeldNamesNodes script) (sym (get-put-same-name deeds name body)) own)
          | inr apart ↦
              subst (HeldNamesNodes script) (sym (get-put-other-name deeds name body other apart)) (k.waiters other)
        ];
      }

  -- one less
  pub without-deed-bounded : (deeds : Deeds) (name : Name) → DeedsAreBounded script deeds
      → DeedsAreBounded script (without_named deeds name)
  without-deed-bounded deeds name k =
      record {
        rise = without-rises deeds name k.rise;
        waiters = λ other. elim (get-without-named deeds name other) [
          | inl none ↦ subst (HeldNamesNodes script) (sym none) tt
          | inr same ↦ subst (HeldNamesNodes script) (sym same) (k.waiters other)
        ];
      }

  -- these bodies are of names with whom only calls of nodes wait
  abbrev pub PairsNameNodes : List (Name × Body) → Type 0
  PairsNameNodes pairs = AllByRecursion (λ pair. WaitersAreOfNodes script pair.1) pairs

  -- several more
  pub put-deeds-bounded : (pairs : List (Name × Body)) (deeds : Deeds) → DeedsAreBounded script deeds
      → PairsNameNodes pairs → DeedsAreBounded script (put_all deeds pairs)
  put-deeds-bounded [] deeds k all = k
  put-deeds-bounded (pair ∷ pairs) deeds k all =
      put-deeds-bounded pairs (put_named deeds pair.0 pair.1) (put-deed-bounded deeds pair.0 pair.1 k all.0) all.1

  -- ---- a queue or a set on which a call is carried out

  abbrev AreOfNodes : List Waiting → Type 0
  AreOfNodes ws = AllByRecursion (λ w. IsNode script w.caller) ws

  -- whoever is woken there waited with a call of a node
  abbrev pub WokenAreOfNodes : List Wake → Type 0
  WokenAreOfNodes wakes = AllByRecursion (λ w. IsNode script w.caller) wakes

  record IsReadyOfNode {T : Type 0} (r : Ready T) : Type 0 where
    waiter : IsNode script r.waiter.caller
    others : AreOfNodes r.others

  ready-or : {T : Type 0} (w : Waiting) (ws : List Waiting) (o : Option (Attempt T)) (later : Option (Ready T))
      → IsNode script w.caller → AreOfNodes ws → Of (IsReadyOfNode {T = T}) later
      → Of (IsReadyOfNode {T = T}) (ready_or w ws o later)
  ready-or w ws (Some a) later own all k = record { waiter = own; others = all }
  ready-or w ws None None own all k = tt
  ready-or w ws None (Some r) own all k = record { waiter = k.waiter; others = (own, k.others) }

  first-ready : {T : Type 0} (try : Try T) (state : T) (ws : List Waiting) → AreOfNodes ws
      → Of (IsReadyOfNode {T = T}) (first_ready try state ws)
  first-ready try state [] all = tt
  first-ready try state (w ∷ ws) all =
      ready-or w ws (try state w.pid w.call) (first_ready try state ws) all.0 all.1 (first-ready try state ws all.1)

  record SettlesNodes {T : Type 0} (s : Settled T) : Type 0 where
    object : AreOfNodes s.object.waiters
    wakes : WokenAreOfNodes s.wakes

  settled-on : {T : Type 0} (o : Awaited T) (r : Option (Ready T)) (rest : Awaited T → Settled T)
      → ((x : Awaited T) → AreOfNodes x.waiters → SettlesNodes (rest x)) → AreOfNodes o.waiters
      → Of (IsReadyOfNode {T = T}) r → SettlesNodes (settle_on o r rest)
  settled-on o None rest goes all k = record { object = all; wakes = tt }
  settled-on o (Some r) rest goes all k =
      let s = goes (awaited r.attempt.state r.others) k.others
      in record { object = s.object; wakes = (k.waiter, s.wakes) }

  settled-by : {T : Type 0} (n : ℕ) (try : Try T) (o : Awaited T) → AreOfNodes o.waiters
      → SettlesNodes (settle_by n try o)
  settled-by zero try o all = record { object = all; wakes = tt }
  settled-by (suc n) try o all =
      settled-on o (first_ready try o.state o.waiters) (settle_by n try) (settled-by n try) all
      (first-ready try o.state o.waiters all)

  record CarriesNodes {T : Type 0} (c : Carried T) : Type 0 where
    object : AreOfNodes c.object.waiters
    wakes : WokenAreOfNodes c.wakes

  carried-by : {T : Type 0} (try : Try T) (o : Awaited T) (who : Waiting) (a : Option (Attempt T))
      → AreOfNodes o.waiters → IsNode script who.caller → CarriesNodes (carry_out_by try o who a)
  carried-by try o who None all own =
      record { object = all-both (λ w. IsNode script w.caller) o.waiters (who ∷ []) all (own, tt); wakes = tt }
  carried-by try o who (Some a) all own =
      let s = settled-by (length o.waiters) try (record o { state = a.state }) all
      in record { object = s.object; wakes = s.wakes }

  carried-on-set : (s : Awaited SemaphoreSet) (who : Waiting) (call : Call) → AreOfNodes s.waiters
      → IsNode script who.caller → CarriesNodes (carry_out_on_set_by s who call)
  carried-on-set s who (calls.SemGetNcnt id num) all own = record { object = all; wakes = tt }
  carried-on-set s who (calls.SemGetZcnt id num) all own = record { object = all; wakes = tt }
  carried-on-set s who call all own = carried-by try_set s who (try_set s.state who.pid who.call) all own

  -- who waits at what is removed is woken
  woken-by-removal : (ws : List Waiting) → AreOfNodes ws → WokenAreOfNodes (map (λ w. wake w (Fail Eidrm)) ws)
  woken-by-removal [] all = tt
  woken-by-removal (w ∷ ws) all = (all.0, woken-by-removal ws all.1)

  -- ---- an effect of a call

  -- at the queues and the sets of a kernel
  record KernelNamesNodes (k : Kernel) : Type 0 where
    queues : (id : ℕ) (q : Awaited Queue) → get k.queues id ≡ Some q → AreOfNodes q.waiters
    sets : (id : ℕ) (s : Awaited SemaphoreSet) → get k.sets id ≡ Some s → AreOfNodes s.waiters

  record EffectNamesNodes (e : Effect) : Type 0 where
    kernel : KernelNamesNodes e.kernel
    wakes : WokenAreOfNodes e.wakes

  module _ (k : Kernel) (all : KernelNamesNodes k) where
    -- a call that leaves the queues and the sets, and wakes nobody
    same-objects : (e : Effect) → e.kernel.queues ≡ k.queues → e.kernel.sets ≡ k.sets → e.wakes ≡ []
        → EffectNamesNodes e
    same-objects e queues sets nobody =
        record {
          kernel = record {
            queues = λ id q is. all.queues id q (ap (λ m. get m id) (sym queues) ∙ is);
            sets = λ id s is. all.sets id s (ap (λ m. get m id) (sym sets) ∙ is);
          };
          wakes = subst WokenAreOfNodes (sym nobody) tt;
        }

    reaped : (pid : ℕ) (a : Alive) (nohang : Bool) (w : Waited) → EffectNamesNodes (reap_child k pid a nohang w)
    reaped pid a nohang (Found child ending) = same-objects _ refl refl refl
    reaped pid a true NotYet = same-objects _ refl refl refl
    reaped pid a false NotYet = same-objects _ refl refl refl
    reaped pid a nohang NoChild = same-objects _ refl refl refl

    signalled : (caller pid : ℕ) (a : Alive) (sig : SigArg) → EffectNamesNodes (signal_living k caller pid a sig)
    signalled caller pid a Zero = same-objects _ refl refl refl
    signalled caller pid a Bad = same-objects _ refl refl refl
    signalled caller pid a (Is g) =
        by_test (λ (next : Kernel). EffectNamesNodes (reply_with next 0)) (nat_eq caller pid)
        (with_signals k pid a (raise a.row.signals g)) (with_alive k pid (raise_by_other a g))
        (λ _. same-objects _ refl refl refl) (λ _. same-objects _ refl refl refl)

    killed-at : (caller pid : ℕ) (sig : SigArg) (o : Option Process) → EffectNamesNodes (kill_at k caller pid sig o)
    killed-at caller pid sig None = same-objects _ refl refl refl
    killed-at caller pid sig (Some kernel.Gone) = same-objects _ refl refl refl
    killed-at caller pid sig (Some (kernel.Ended ending)) = same-objects _ refl refl refl
    killed-at caller pid sig (Some (kernel.Living a)) = signalled caller pid a sig

    killed : (caller pid : ℕ) (sig : SigArg) → EffectNamesNodes (kill k caller pid sig)
    killed caller pid Bad = same-objects _ refl refl refl
    killed caller pid Zero = killed-at caller pid Zero (get k.processes pid)
    killed caller pid (Is g) = killed-at caller pid (Is g) (get k.processes pid)

    queue-carried : (id : ℕ) (who : Waiting) (o : Option (Awaited Queue)) → get k.queues id ≡ o
        → IsNode script who.caller
        → EffectNamesNodes (on_named k o (λ q. queue_effect k id (carry_out_on_queue q who)))
    queue-carried id who None is own = same-objects _ refl refl refl
    queue-carried id who (Some q) is own =
        let c : CarriesNodes (carry_out_on_queue q who) =
        carried-by try_queue q who (try_queue q.state who.pid who.call) (all.queues id q is) own
        in record {
          kernel = record {
            queues = put-thing (λ (x : Awaited Queue). AreOfNodes x.waiters) k.queues id _ all.queues c.object;
            sets = all.sets;
          };
          wakes = c.wakes;
        }

    queue-removed : (id : ℕ) (o : Option (Awaited Queue)) → get k.queues id ≡ o
        → EffectNamesNodes (on_named k o (remove_queue k id))
    queue-removed id None is = same-objects _ refl refl refl
    queue-removed id (Some q) is =
        record {
          kernel = record {
            queues = without-thing (λ (x : Awaited Queue). AreOfNodes x.waiters) k.queues id all.queues;
            sets = all.sets;
          };
          wakes = woken-by-removal q.waiters (all.queues id q is);
        }

    set-carried : (id : ℕ) (who : Waiting) (o : Option (Awaited SemaphoreSet)) → get k.sets id ≡ o
        → IsNode script who.caller → EffectNamesNodes (on_named k o (λ s. set_effect k id (carry_out_on_set s who)))
    set-carried id who None is own = same-objects _ refl refl refl
    set-carried id who (Some s) is own =
        let c : CarriesNodes (carry_out_on_set s who) = carried-on-set s who who.call (all.sets id s is) own
        in record {
          kernel = record {
            queues = all.queues;
            sets = put-thing (λ (x : Awaited SemaphoreSet). AreOfNodes x.waiters) k.sets id _ all.sets c.object;
          };
          wakes = c.wakes;
        }

    set-removed : (id : ℕ) (o : Option (Awaited SemaphoreSet)) → get k.sets id ≡ o
        → EffectNamesNodes (on_named k o (remove_set k id))
    set-removed id None is = same-objects _ refl refl refl
    set-removed id (Some s) is =
        record {
          kernel = record {
            queues = all.queues;
            sets = without-thing (λ (x : Awaited SemaphoreSet). AreOfNodes x.waiters) k.sets id all.sets;
          };
          wakes = woken-by-removal s.waiters (all.sets id s is);
        }

    -- each call that makes nothing and ends no process
    effect-names : (who : Waiting) (a : Alive) (call : Call) → IsNode script who.caller
        → makes_or_ends call ≡ false → Of EffectNamesNodes (effect_by k who a call 0)
    effect-names who a (calls.Fork block) own h = absurd (false≢true (sym h))
    effect-names who a (calls.MsgGet key create excl) own h = absurd (false≢true (sym h))
    effect-names who a (calls.SemGet key count create excl) own h = absurd (false≢true (sym h))
    effect-names who a (calls.Exit status) own h = absurd (false≢true (sym h))
    effect-names who a (calls.Killed sig) own h = absurd (false≢true (sym h))
    effect-names who a (calls.Kill target sig) own h = killed who.pid target sig
    effect-names who a (calls.SigAction sig act) own h = acted (act_on a.row.signals sig act)
      where
        acted : (r : Result Signals Errno) → EffectNamesNodes (action_effect k who.pid a r)
        acted (Ok s) = same-objects _ refl refl refl
        acted (Err e) = same-objects _ refl refl refl
    effect-names who a (calls.WaitPid child nohang) own h = reaped who.pid a nohang (wait a.row.family child)
    effect-names who a (calls.MsgSnd id class text nowait) own h = queue-carried id who (get k.queues id) refl own
    effect-names who a (calls.MsgRcv id class size noerror nowait) own h =
        queue-carried id who (get k.queues id) refl own
    effect-names who a (calls.MsgStat id) own h = queue-carried id who (get k.queues id) refl own
    effect-names who a (calls.MsgSet id qbytes) own h = queue-carried id who (get k.queues id) refl own
    effect-names who a (calls.MsgRmid id) own h = queue-removed id (get k.queues id) refl
    effect-names who a (calls.SemOp id steps) own h = set-carried id who (get k.sets id) refl own
    effect-names who a (calls.SemGetVal id num) own h = set-carried id who (get k.sets id) refl own
    effect-names who a (calls.SemGetPid id num) own h = set-carried id who (get k.sets id) refl own
    effect-names who a (calls.SemGetNcnt id num) own h = set-carried id who (get k.sets id) refl own
    effect-names who a (calls.SemGetZcnt id num) own h = set-carried id who (get k.sets id) refl own
    effect-names who a (calls.SemSetVal id num value) own h = set-carried id who (get k.sets id) refl own
    effect-names who a (calls.SemGetAll id) own h = set-carried id who (get k.sets id) refl own
    effect-names who a (calls.SemSetAll id values) own h = set-carried id who (get k.sets id) refl own
    effect-names who a (calls.SemRmid id) own h = set-removed id (get k.sets id) refl
    effect-names who a (calls.Withdraw name) own h = tt
    effect-names who a call own h = same-objects _ refl refl refl

  -- ---- a call that is served

  body-names : (name : Name) (body : Body) → WaitersAreOfNodes script body → KernelNamesNodes (kernel_with name body)
  body-names (Proc pid) body all = record { queues = λ id q is. absurd (cc); sets = λ id s is. absurd (cc) }
  body-names (Msg id) (AQueue queue) all =
      record {
        queues = put-thing (λ (x : Awaited Queue). AreOfNodes x.waiters) [] id queue (λ n q is. absurd (cc)) all;
        sets = λ n s is. absurd (cc);
      }
  body-names (Msg id) body all = record { queues = λ n q is. absurd (cc); sets = λ n s is. absurd (cc) }
  body-names (Sem id) (ASet set) all =
      record {
        queues = λ n q is. absurd (cc);
        sets = put-thing (λ (x : Awaited SemaphoreSet). AreOfNodes x.waiters) [] id set (λ n s is. absurd (cc)) all;
      }
  body-names (Sem id) body all = record { queues = λ n q is. absurd (cc); sets = λ n s is. absurd (cc) }

  process-part : (o : Option Process) → WaitersAreOfNodes script (whole_process o)
  process-part None = tt
  process-part (Some (kernel.Living a)) = tt
  process-part (Some (kernel.Ended ending)) = tt
  process-part (Some kernel.Gone) = tt

  queue-part : (k : Kernel) (id : ℕ) (o : Option (Awaited Queue)) → KernelNamesNodes k → get k.queues id ≡ o
      → WaitersAreOfNodes script (whole_queue o)
  queue-part k id None all is = tt
  queue-part k id (Some q) all is = all.queues id q is

  set-part : (k : Kernel) (id : ℕ) (o : Option (Awaited SemaphoreSet)) → KernelNamesNodes k → get k.sets id ≡ o
      → WaitersAreOfNodes script (whole_set o)
  set-part k id None all is = tt
  set-part k id (Some s) all is = all.sets id s is

  -- a part of such a kernel
  part-names : (k : Kernel) (name : Name) → KernelNamesNodes k → WaitersAreOfNodes script (whole_in k name)
  part-names k (Proc pid) all = process-part (get k.processes pid)
  part-names k (Msg id) all = queue-part k id (get k.queues id) all refl
  part-names k (Sem id) all = set-part k id (get k.sets id) all refl

  parts-name : (k : Kernel) (names : List Name) → KernelNamesNodes k → PairsNameNodes (parts_in k names)
  parts-name k [] all = tt
  parts-name k (name ∷ names) all = (part-names k name all, parts-name k names all)

  -- the parts of processes have none who wait
  pub gone-name-nodes : (pids : List ℕ) → PairsNameNodes (all_gone pids)
  gone-name-nodes [] = tt
  gone-name-nodes (pid ∷ pids) = (tt, gone-name-nodes pids)

  -- what an end comes to
  pub committed-name-nodes : (parcel : Parcel) (bodies : Numbered Body) (waits : Option Call) (parent : Body)
      (wakes : List Wake) → PairsNameNodes (committed parcel bodies waits parent wakes).changes
  committed-name-nodes parcel bodies waits parent wakes =
      all-both (λ pair. WaitersAreOfNodes script pair.1) (all_gone (map (λ e. e.0) bodies)) _
      (gone-name-nodes (map (λ e. e.0) bodies))
      (parts-name (kernel_after_end parcel.pid parcel.parent waits parent (ending_of parcel.call))
      (names_after_end parcel.pid parcel.parent wakes parent)
      (record { queues = λ id q is. absurd (cc); sets = λ id s is. absurd (cc) }))

  callers-of : (wakes : List Wake) → WokenAreOfNodes wakes
      → AllByRecursion (IsNode script) (map (λ (w : Wake). w.caller) wakes)
  callers-of [] all = tt
  callers-of (w ∷ wakes) all = (all.0, callers-of wakes all.1)

  caller-if : (b : Bool) (p : ℕ) → IsNode script p → AllByRecursion (IsNode script) (caller_if b p)
  caller-if true p own = (own, tt)
  caller-if false p own = tt

  -- what a served call says of nodes
  pub record ServedNamesNodes (s : Served) : Type 0 where
    pub changes : PairsNameNodes s.changes
    pub wakes : WokenAreOfNodes s.wakes
    pub readers : AllByRecursion (IsNode script) s.readers

  served-by : (name : Name) (body : Body) (who : Waiting) (e : Effect) → IsNode script who.caller
      → EffectNamesNodes e → ServedNamesNodes (serve_by name body who e)
  served-by name body who e own k =
      record {
        changes = parts-name e.kernel (changed_names name e.own) k.kernel;
        wakes = k.wakes;
        readers = all-both (IsNode script) (caller_if _ who.caller) _ (caller-if _ who.caller own)
            (callers-of (filter (woken_reads (waiters_of body)) e.wakes)
            (all-filtered (λ w. IsNode script w.caller) (woken_reads (waiters_of body)) e.wakes k.wakes));
      }

  served-on : (name : Name) (body : Body) (who : Waiting) → WaitersAreOfNodes script body → IsNode script who.caller
      → makes_or_ends who.call ≡ false → Of ServedNamesNodes (serve_on name body who)
  served-on name body who all own h =
      mapped (effect_by (kernel_with name body) who (actor body) who.call 0)
      (effect-names (kernel_with name body) (body-names name body all) who (actor body) who.call own h)
    where
      mapped : (o : Option Effect) → Of EffectNamesNodes o
          → Of ServedNamesNodes (option_map (serve_by name body who) o)
      mapped None k = tt
      mapped (Some e) k = served-by name body who e own k

  served-at : (deeds : Deeds) (who : Waiting) (o : Option Name) → DeedsAreBounded script deeds
      → IsNode script who.caller → makes_or_ends who.call ≡ false → Of ServedNamesNodes (serve_at deeds who o)
  served-at deeds who None k own h = tt
  served-at deeds who (Some name) k own h = by (get_named deeds name) (k.waiters name)
    where
      by : (o : Option Body) → HeldNamesNodes script o
          → Of ServedNamesNodes (option_and_then (λ body. serve_on name body who) o)
      by None all = tt
      by (Some body) all = served-on name body who all own h

  -- A call of a node that is served leaves, wakes and counts only nodes.
  pub served-names : (deeds : Deeds) (who : Waiting) → DeedsAreBounded script deeds → IsNode script who.caller
      → Of ServedNamesNodes (serve deeds who)
  served-names deeds who k own = by who.call refl
    where
      by : (call : Call) → who.call ≡ call
          → Of ServedNamesNodes
          (if makes_something call then None else serve_at deeds who (name_for who.pid call))
      by (calls.Fork block) is = tt
      by (calls.MsgGet key create excl) is = tt
      by (calls.SemGet key count create excl) is = tt
      by (calls.Exit status) is = tt
      by (calls.Killed sig) is = tt
      by call is = served-at deeds who (name_for who.pid call) k own (ap makes_or_ends is)

  -- ---- a wait that ends

  -- who waits there without one of them
  pub body-without-names : (pid ticket : ℕ) (body : Body) → WaitersAreOfNodes script body
      → WaitersAreOfNodes script (body_without pid ticket body)
  body-without-names pid ticket (AQueue queue) all =
      all-filtered (λ w. IsNode script w.caller) _ queue.waiters all
  body-without-names pid ticket (ASet set) all =
      all-filtered (λ w. IsNode script w.caller) _ set.waiters all
  body-without-names pid ticket (Living row) all = tt
  body-without-names pid ticket (Ended ending) all = tt
  body-without-names pid ticket Gone all = tt
  body-without-names pid ticket Removed all = tt
