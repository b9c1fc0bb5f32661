-- What a get by a key comes to at the leader, whoever asked for it: it has a reply and changes nothing else, or a queue
-- or a set is made, and the key leads to it.
use Rattle.std.proofs.Common.{◌≡◌, ◌⊎◌, ℕ, ◌≤◌, Bool, true, false, List, length, Some, None, Ok, Err, Result, option_map, refl, ap, sym, subst, ◌∙◌, inl, inr, arith}
use Rattle.std.proofs.lemmas.Bool.{false≢true}
use Rattle.pico_base.specs.declared.call.Call.{Call}
use Rattle.pico_base.specs.declared.call.Call.TheVariants as calls
use Rattle.pico_base.specs.declared.call.Home.{Home}
use Rattle.pico_base.specs.declared.call.Home.TheVariants as homes
use Rattle.pico_base.specs.declared.numbers.Kind.{Kind}
use Rattle.pico_base.specs.declared.numbers.Kind.TheVariants as kinds
use Rattle.pico_base.specs.declared.numbers.Name.{Name}
use Rattle.pico_base.specs.declared.numbers.Name.TheVariants.{Msg, Sem}
use Rattle.pico_base.specs.declared.reply.Errno.{Errno}
use Rattle.pico_base.specs.declared.reply.Reply.{Reply}
use Rattle.pico_base.specs.declared.reply.Reply.TheVariants as replies
use Rattle.pico_base.specs.declared.script.Script.{Script}
use Rattle.pico_base.specs.declared.signal.SigArg.TheVariants.{Zero, Is, Bad}
use Rattle.pico_base.specs.Home.{home_of}
use Rattle.key_table.specs.KeyMap.{key_answer}
use Rattle.key_table.specs.declared.Bound.{Bound}
use Rattle.key_table.specs.declared.KeyAnswer.{KeyAnswer}
use Rattle.key_table.specs.declared.KeyAnswer.TheVariants as answers
use Rattle.rpc_frame.specs.declared.asked.Asked.{Asked}
use Rattle.number_maps.specs.Maps.{Numbered, get, put}
use Rattle.kernel_model.specs.Kernel.{Kernel}
use Rattle.kernel_model.specs.Queue.{empty_queue}
use Rattle.kernel_model.specs.SemaphoreSet.{SemaphoreSet, new_set}
use Rattle.entry_laws.specs.Entering.{HasKeys, MayMake, bound_to}
use Rattle.entry_laws.proofs.Fresh.{LeavesAll}
use Rattle.entry_laws.proofs.Keyed.{MakesBound, finds-queue, finds-set, found_set, makes-keyed-queue, makes-keyed-set, refuses-queue, refuses-set, refuses-size}
use Rattle.node_model.specs.declared.held.Held.{Held}
use Rattle.node_model.specs.Bodies.{AQueue, ASet, Body}
use Rattle.waiting_model.specs.Waiters.{unawaited}
use Rattle.node_model.specs.Directory.{Directory, has_more, place_name}
use Rattle.node_model.specs.Kinds.{number_of, put_named}
use Rattle.world_model.specs.Node.{Node}
use Rattle.world_model.specs.Step.{Step, carry_out, with_node}
use Rattle.world_model.specs.Numbers.{take_number}
use Rattle.world_model.specs.Keys.{create_set, get_by_key, get_queue, get_set, make_queue, make_set}
use Rattle.world_model.specs.World.{World, node_count}
use Rattle.world_laws.specs.Places.{Beside}
use Rattle.world_laws.specs.Sights.{directory_of, is_born_in, node_of}
use Rattle.world_laws.specs.Families.{NodeHolds}
use Rattle.world_laws.specs.Cancels.{Owing}
use Rattle.world_laws.specs.Invariant.{HoldsOwing}
use Rattle.route_laws.proofs.hand.Answering.{IsPlainCall}
use Rattle.route_laws.proofs.keys.NumberKinds.{kill-is, withdrawal-is}
use Rattle.route_laws.proofs.keys.MadeHere.{MakesOf, Tables, made_node}
use Rattle.route_laws.proofs.keys.Taking.{TakesNumber, takes-number, without_number}

-- ---- which calls these are

-- a get of a queue by a key, or of a set
pub data IsKeyed (call : Call) : Type 0 where
  GetsQueue : (key : ℕ) (create excl : Bool) → call ≡ calls.MsgGet (Some key) create excl → IsKeyed call
  GetsSet : (key count : ℕ) (create excl : Bool) → call ≡ calls.SemGet (Some key) count create excl → IsKeyed call

abbrev is_keys : Home → Bool
is_keys homes.Keys = true
is_keys home = false

by-home : (pid : ℕ) (call : Call) → is_keys (home_of pid call) ≡ true → IsKeyed call
by-home pid (calls.MsgGet (Some key) create excl) h = GetsQueue key create excl refl
by-home pid (calls.SemGet (Some key) count create excl) h = GetsSet key count create excl refl
by-home pid (calls.MsgGet None create excl) h = absurd (false≢true h)
by-home pid (calls.SemGet None count create excl) h = absurd (false≢true h)
by-home pid (calls.Kill other Bad) h = absurd (false≢true h)
by-home pid (calls.Kill other Zero) h = absurd (false≢true (sym (kill-is is_keys false pid other refl refl) ∙ h))
by-home pid (calls.Kill other (Is sig)) h = absurd (false≢true (sym (kill-is is_keys false pid other refl refl) ∙ h))
by-home pid (calls.Withdraw name) h =
    absurd (false≢true (sym (withdrawal-is is_keys false pid name refl (λ other. refl)) ∙ h))
by-home pid call h = absurd (false≢true h)

-- a call that belongs to the keys is one of them
pub keyed : (pid : ℕ) (call : Call) → home_of pid call ≡ homes.Keys → IsKeyed call
keyed pid call h = by-home pid call (ap is_keys h)

-- it forks nothing and ends nobody
pub keyed-plain : (call : Call) → IsKeyed call → IsPlainCall call
keyed-plain call (GetsQueue key create excl e) =
    subst (λ c. IsPlainCall c) (sym e) (record { no_fork = refl; no_exit = refl; not_killed = refl })
keyed-plain call (GetsSet key count create excl e) =
    subst (λ c. IsPlainCall c) (sym e) (record { no_fork = refl; no_exit = refl; not_killed = refl })

-- ---- what they come to

-- it has a reply, and changes nothing else
pub record OnlyReplies (script : Script) (b : Beside) (s : Step) (asked : Asked) : Type 0 where
  pub reply : Reply
  pub leaves : LeavesAll b.kernel asked.pid asked.call reply
  pub is : get_by_key script s asked asked.call ≡ Some (carry_out script s asked reply)

-- something is made, and the leader's keys are these then
pub record MakesKeyed (script : Script) (w : World) (b : Beside) (s : Step) (asked : Asked) : Type 0 where
  pub kind : Kind
  pub name : Name
  pub body : Body
  pub makes : MakesOf w b asked.pid asked.call kind name body
  pub keys : Tables
  pub has_keys : HasKeys keys.queues keys.sets makes.made.next
  pub is : get_by_key script s asked asked.call
      ≡ Some (carry_out script
      (with_node s
      (made_node (node_of w 1) kind makes.takes.numbers makes.takes.directory name body (node_of w 1).caller keys))
      asked (replies.Num (number_of name)))

module _ (script : Script) (w : World) (hand : List Held) {owes : Owing} (b : Beside)
    (holds : HoldsOwing script w hand owes b)
    (some_node : 1 ≤ node_count script) (enough : (kind : Kind) → has_more (directory_of w) kind ≡ true) (s : Step)
    (here : node_of w 1 ≡ s.node) (asked : Asked) (may : MayMake b.kernel asked.pid asked.call) where
  abbrev n : Node
  n = node_of w 1

  abbrev k : Kernel
  k = b.kernel

  abbrev queue_keys : Numbered Bound
  queue_keys = n.leader.queue_keys

  abbrev set_keys : Numbered Bound
  set_keys = n.leader.set_keys

  abbrev Outcome : Type 0
  Outcome = OnlyReplies script b s asked ⊎ MakesKeyed script w b s asked

  number-is : n.number ≡ 1
  number-is =
      let h : NodeHolds script b.pids (is_born_in w) 1 (node_of w 1) = holds.nodes 1 (omega arith) some_node
      in h.number

  takes : (kind : Kind) → TakesNumber w k kind
  takes kind = takes-number script w hand b holds some_node kind (enough kind)

  taken-is : (kind : Kind) (t : TakesNumber w k kind)
      → take_number s.node kind
      ≡ Some (record { number = t.number; node = without_number n kind t.numbers t.directory })
  taken-is kind t = ap (λ (z : Node). take_number z kind) (sym here) ∙ t.is

  -- the node with what it has made, placed at a node
  abbrev made-at : (kind : Kind) → List ℕ → Directory → Name → Body → Tables → ℕ → Node
  made-at kind numbers d name body keys node =
      record n {
        deeds = put_named n.deeds name body;
        leases = (without_number n kind numbers d).leases;
        leader = record { directory = place_name d name node; queue_keys = keys.queues; set_keys = keys.sets };
      }

  -- ---- msgget

  module _ (key : ℕ) (create excl : Bool) (call : asked.call ≡ calls.MsgGet (Some key) create excl) where
    abbrev gets : Call
    gets = calls.MsgGet (Some key) create excl

    may-get : MayMake k asked.pid gets
    may-get = subst (λ c. MayMake k asked.pid c) call may

    queue-rule : (answer : KeyAnswer) → key_answer (get queue_keys key) create excl ≡ answer
        → get_by_key script s asked asked.call ≡ get_queue script s asked key answer
    queue-rule answer is =
        ap (get_by_key script s asked) call
        ∙ ap (λ (z : Node). get_queue script s asked key (key_answer (get z.leader.queue_keys key) create excl))
        (sym here)
        ∙ ap (get_queue script s asked key) is

    new-queue : key_answer (get queue_keys key) create excl ≡ answers.Create → MakesKeyed script w b s asked
    new-queue is =
        let t : TakesNumber w k kinds.Msg = takes kinds.Msg
        in let keys : Tables = record { queues = put queue_keys key (bound_to t.number 0); sets = set_keys }
        in let bound : MakesBound k asked.pid asked.call (Msg t.number) (AQueue (unawaited empty_queue)) keys.queues
        keys.sets =
        subst (λ c. MakesBound k asked.pid c (Msg t.number) (AQueue (unawaited empty_queue)) keys.queues keys.sets)
        (sym call)
        (makes-keyed-queue queue_keys set_keys k asked.pid key t.number create excl may-get holds.keys is t.unused
        t.positive)
        in record {
          kind = kinds.Msg;
          name = Msg t.number;
          body = AQueue (unawaited empty_queue);
          makes = record { takes = t; kind_is = refl; number_is = refl; object = refl; made = bound.object };
          keys = keys;
          has_keys = bound.keys;
          is = queue-rule answers.Create is
              ∙ ap (option_map (make_queue script s asked key)) (taken-is kinds.Msg t)
              ∙ ap (λ q. Some (carry_out script
              (with_node s (made-at kinds.Msg t.numbers t.directory (Msg t.number) (AQueue (unawaited empty_queue))
              keys q)) asked
              (replies.Num t.number))) number-is;
        }

    queue-outcome : (answer : KeyAnswer) → key_answer (get queue_keys key) create excl ≡ answer → Outcome
    queue-outcome (answers.Found id count) is =
        inl (record {
          reply = replies.Num id;
          leaves = subst (λ c. LeavesAll k asked.pid c (replies.Num id)) (sym call)
              (finds-queue queue_keys set_keys k asked.pid key create excl id count may-get holds.keys is);
          is = queue-rule (answers.Found id count) is;
        })
    queue-outcome (answers.Fail error) is =
        inl (record {
          reply = replies.Fail error;
          leaves = subst (λ c. LeavesAll k asked.pid c (replies.Fail error)) (sym call)
              (refuses-queue queue_keys set_keys k asked.pid key create excl error may-get holds.keys is);
          is = queue-rule (answers.Fail error) is;
        })
    queue-outcome answers.Create is = inr (new-queue is)

  -- ---- semget

  module _ (key count : ℕ) (create excl : Bool) (call : asked.call ≡ calls.SemGet (Some key) count create excl) where
    abbrev gets_set : Call
    gets_set = calls.SemGet (Some key) count create excl

    may-get-set : MayMake k asked.pid gets_set
    may-get-set = subst (λ c. MayMake k asked.pid c) call may

    set-rule : (answer : KeyAnswer) → key_answer (get set_keys key) create excl ≡ answer
        → get_by_key script s asked asked.call ≡ get_set script s asked key count answer
    set-rule answer is =
        ap (get_by_key script s asked) call
        ∙ ap (λ (z : Node). get_set script s asked key count (key_answer (get z.leader.set_keys key) create excl))
        (sym here)
        ∙ ap (get_set script s asked key count) is

    new-one : (set : SemaphoreSet) → new_set count ≡ Ok set
        → key_answer (get set_keys key) create excl ≡ answers.Create → MakesKeyed script w b s asked
    new-one set sized is =
        let t : TakesNumber w k kinds.Sem = takes kinds.Sem
        in let keys : Tables =
        record { queues = queue_keys; sets = put set_keys key (bound_to t.number (length set.semaphores)) }
        in let bound : MakesBound k asked.pid asked.call (Sem t.number) (ASet (unawaited set)) keys.queues keys.sets =
        subst (λ c. MakesBound k asked.pid c (Sem t.number) (ASet (unawaited set)) keys.queues keys.sets) (sym call)
        (makes-keyed-set queue_keys set_keys k asked.pid key t.number count create excl set may-get-set holds.keys is
        sized t.unused t.positive)
        in record {
          kind = kinds.Sem;
          name = Sem t.number;
          body = ASet (unawaited set);
          makes = record { takes = t; kind_is = refl; number_is = refl; object = refl; made = bound.object };
          keys = keys;
          has_keys = bound.keys;
          is = set-rule answers.Create is
              ∙ ap (create_set script s asked key) sized
              ∙ ap (option_map (make_set script s asked key set)) (taken-is kinds.Sem t)
              ∙ ap (λ q. Some (carry_out script
              (with_node s (made-at kinds.Sem t.numbers t.directory (Sem t.number) (ASet (unawaited set)) keys q)) asked
              (replies.Num t.number))) number-is;
        }

    created-set : key_answer (get set_keys key) create excl ≡ answers.Create → (r : Result SemaphoreSet Errno)
        → new_set count ≡ r → Outcome
    created-set is (Err error) bad =
        inl (record {
          reply = replies.Fail error;
          leaves = subst (λ c. LeavesAll k asked.pid c (replies.Fail error)) (sym call)
              (refuses-size queue_keys set_keys k asked.pid key count create excl error may-get-set holds.keys is bad);
          is = set-rule answers.Create is ∙ ap (create_set script s asked key) bad;
        })
    created-set is (Ok set) sized = inr (new-one set sized is)

    set-outcome : (answer : KeyAnswer) → key_answer (get set_keys key) create excl ≡ answer → Outcome
    set-outcome (answers.Found id size) is =
        inl (record {
          reply = found_set id size count;
          leaves = subst (λ c. LeavesAll k asked.pid c (found_set id size count)) (sym call)
              (finds-set queue_keys set_keys k asked.pid key count create excl id size may-get-set holds.keys is);
          is = set-rule (answers.Found id size) is;
        })
    set-outcome (answers.Fail error) is =
        inl (record {
          reply = replies.Fail error;
          leaves = subst (λ c. LeavesAll k asked.pid c (replies.Fail error)) (sym call)
              (refuses-set queue_keys set_keys k asked.pid key count create excl error may-get-set holds.keys is);
          is = set-rule (answers.Fail error) is;
        })
    set-outcome answers.Create is = created-set is (new_set count) refl

  -- A get by a key has one of the two outcomes.
  pub key-outcome : IsKeyed asked.call → OnlyReplies script b s asked ⊎ MakesKeyed script w b s asked
  key-outcome (GetsQueue key create excl e) =
      queue-outcome key create excl e (key_answer (get queue_keys key) create excl) refl
  key-outcome (GetsSet key count create excl e) =
      set-outcome key count create excl e (key_answer (get set_keys key) create excl) refl
