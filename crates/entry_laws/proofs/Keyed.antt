-- Gets by a key, by what the leader's tables answer.
use Rattle.std.proofs.Common.{◌≡◌, ℕ, Bool, true, false, ◌||◌, length, Option, Some, None, Ok, Err, refl, ap, sym, ◌∙◌, nat_eq}
use Rattle.std.specs.Prelude.{if◌then◌else◌, nat_le}
use Rattle.std.specs.Option.{option_map}
use Rattle.pico_base.specs.declared.call.Call.{Call}
use Rattle.pico_base.specs.declared.call.Call.TheVariants as calls
use Rattle.pico_base.specs.declared.numbers.Name.{Name}
use Rattle.pico_base.specs.declared.numbers.Name.TheVariants.{Msg, Sem}
use Rattle.pico_base.specs.declared.reply.Errno.{Errno}
use Rattle.pico_base.specs.declared.reply.Errno.TheVariants.{Einval}
use Rattle.pico_base.specs.declared.reply.Reply.{Reply}
use Rattle.pico_base.specs.declared.reply.Reply.TheVariants as replies
use Rattle.key_table.specs.KeyMap.{key_answer}
use Rattle.key_table.specs.declared.Bound.{Bound}
use Rattle.key_table.specs.declared.KeyAnswer.{KeyAnswer}
use Rattle.key_table.specs.declared.KeyAnswer.TheVariants as answers
use Rattle.number_maps.specs.Maps.{Numbered, get, put, is_used}
use Rattle.number_maps.proofs.LookUps.{get-put-same}
use Rattle.kernel_model.specs.Numbers.{is_positive_u32}
use Rattle.kernel_model.specs.Queue.{empty_queue}
use Rattle.kernel_model.specs.SemaphoreSet.{SemaphoreSet, new_set}
use Rattle.kernel_model.specs.Kernel.{Kernel}
use Rattle.kernel_model.specs.Effect.{Effect, reply_with, refuse}
use Rattle.kernel_model.specs.QueueCalls.{get_queue_at}
use Rattle.kernel_model.specs.SetCalls.{find_set, get_set_at, new_set_of, set_size}
use Rattle.kernel_model.specs.History.{number_in}
use Rattle.waiting_model.specs.Waiters.{unawaited}
use Rattle.node_model.specs.Bodies.{Body, AQueue, ASet, body_in, queue_body, set_body}
use Rattle.entry_laws.specs.Entering.{HasKeys, MayMake, bound_to}
use Rattle.entry_laws.proofs.Fresh.{LeavesAll, MakesObject, bound-apart, fresh-is, leaves-all, queue-rest, queue-used, set-rest, set-used, with_new_queue, with_new_set}
use Rattle.entry_laws.proofs.Keys.{keys-bind-queue, keys-bind-set}
use Rattle.entry_laws.proofs.Making.{finished, finished-is-like, enters-by}
use Rattle.entry_laws.proofs.Served.{lived-finished}

-- ---- what an answer says of the kernel

answered : (table : Numbered Bound) (key : ℕ) (create excl : Bool) (found : Option Bound) (answer : KeyAnswer)
    → get table key ≡ found → key_answer (get table key) create excl ≡ answer → key_answer found create excl ≡ answer
answered table key create excl found answer is h = sym (ap (λ o. key_answer o create excl) is) ∙ h

queue-found : (k : Kernel) (key n : ℕ) (create excl : Bool) (o : Option ℕ) (id count : ℕ)
    → key_answer (option_map (λ i. bound_to i 0) o) create excl ≡ answers.Found id count
    → get_queue_at k key create excl n o ≡ Some (reply_with k id)
queue-found k key n true excl None id count h = absurd (cc)
queue-found k key n false excl None id count h = absurd (cc)
queue-found k key n true true (Some i) id count h = absurd (cc)
queue-found k key n true false (Some i) id count h =
    let same : i ≡ id = cc in ap (λ j. Some (reply_with k j)) same
queue-found k key n false excl (Some i) id count h =
    let same : i ≡ id = cc in ap (λ j. Some (reply_with k j)) same

queue-failed : (k : Kernel) (key n : ℕ) (create excl : Bool) (o : Option ℕ) (e : Errno)
    → key_answer (option_map (λ i. bound_to i 0) o) create excl ≡ answers.Fail e
    → get_queue_at k key create excl n o ≡ Some (refuse k e)
queue-failed k key n true excl None e h = absurd (cc)
queue-failed k key n false excl None e h = ap (λ x. Some (refuse k x)) (failed-is _ e h)
  where
    failed-is : (a b : Errno) → answers.Fail a ≡ answers.Fail b → a ≡ b
    failed-is a b h = cc
queue-failed k key n true true (Some i) e h = ap (λ x. Some (refuse k x)) (failed-is _ e h)
  where
    failed-is : (a b : Errno) → answers.Fail a ≡ answers.Fail b → a ≡ b
    failed-is a b h = cc
queue-failed k key n true false (Some i) e h = absurd (cc)
queue-failed k key n false excl (Some i) e h = absurd (cc)

queue-creates : (k : Kernel) (key n : ℕ) (create excl : Bool) (o : Option ℕ)
    → key_answer (option_map (λ i. bound_to i 0) o) create excl ≡ answers.Create
    → get_queue_at k key create excl n o ≡ get_queue_at k key true excl n None
queue-creates k key n true excl None h = refl
queue-creates k key n false excl None h = absurd (cc)
queue-creates k key n true true (Some i) h = absurd (cc)
queue-creates k key n true false (Some i) h = absurd (cc)
queue-creates k key n false excl (Some i) h = absurd (cc)

-- ---- msgget by a key

-- a get whose key is bound finds the queue
pub finds-queue : (queue_keys set_keys : Numbered Bound) (k : Kernel) (pid key : ℕ) (create excl : Bool) (id count : ℕ)
    → MayMake k pid (calls.MsgGet (Some key) create excl) → HasKeys queue_keys set_keys k
    → key_answer (get queue_keys key) create excl ≡ answers.Found id count
    → LeavesAll k pid (calls.MsgGet (Some key) create excl) (replies.Num id)
finds-queue queue_keys set_keys k pid key create excl id count m h answer =
    leaves-all k pid (calls.MsgGet (Some key) create excl) (replies.Num id) m
    (queue-found k key id create excl (get k.queue_keys key) id count
    (answered queue_keys key create excl _ _ (h.queues key) answer))

-- one that the tables refuse is refused by the kernel
pub refuses-queue : (queue_keys set_keys : Numbered Bound) (k : Kernel) (pid key : ℕ) (create excl : Bool)
    (error : Errno) → MayMake k pid (calls.MsgGet (Some key) create excl) → HasKeys queue_keys set_keys k
    → key_answer (get queue_keys key) create excl ≡ answers.Fail error
    → LeavesAll k pid (calls.MsgGet (Some key) create excl) (replies.Fail error)
refuses-queue queue_keys set_keys k pid key create excl error m h answer =
    leaves-all k pid (calls.MsgGet (Some key) create excl) (replies.Fail error) m
    (queue-failed k key 0 create excl (get k.queue_keys key) error
    (answered queue_keys key create excl _ _ (h.queues key) answer))

-- something new is there, and these tables have its key, too
pub record MakesBound (k : Kernel) (pid : ℕ) (call : Call) (name : Name)
    (body : Body) (queue_keys set_keys : Numbered Bound) : Type 0 where
  pub object : MakesObject k pid call name body
  pub keys : HasKeys queue_keys set_keys object.next

-- one that is to create makes a queue, and binds its key
pub makes-keyed-queue : (queue_keys set_keys : Numbered Bound) (k : Kernel) (pid key n : ℕ) (create excl : Bool)
    → MayMake k pid (calls.MsgGet (Some key) create excl) → HasKeys queue_keys set_keys k
    → key_answer (get queue_keys key) create excl ≡ answers.Create
    → is_used k.used_queues n ≡ false → is_positive_u32 n ≡ true
    → MakesBound k pid (calls.MsgGet (Some key) create excl) (Msg n) (AQueue (unawaited empty_queue))
    (put queue_keys key (bound_to n 0)) set_keys
makes-keyed-queue queue_keys set_keys k pid key n create excl m h answer unused low =
    let keys : Numbered ℕ = put k.queue_keys key n
    in let j : Kernel = with_new_queue k keys n
    in let e : Effect = reply_with j n
    in let like = finished-is-like j pid
    in let gives =
    queue-creates k key n create excl (get k.queue_keys key)
    (answered queue_keys key create excl _ _ (h.queues key) answer)
    in record {
      object = record {
        next = finished j pid;
        enters = enters-by k pid (calls.MsgGet (Some key) create excl) e (Some (Msg n)) m
            (gives ∙ ap (λ (t : Bool). if t then Some e else None) (fresh-is k.used_queues n low unused))
            (queue-used k keys n);
        there = like.bodies (Msg n) ∙ ap queue_body (get-put-same k.queues n empty_queue);
        rest = λ name other. like.bodies name ∙ queue-rest k keys n name other;
        caller = lived-finished j pid (record { alive = m.alive; lives = m.lives });
      };
      keys = keys-bind-queue queue_keys set_keys k (finished j pid) key n h like.queue_keys like.set_keys like.sets;
    }

-- ---- semget by a key

-- the reply of a get that found a set of this size
abbrev pub found_set : ℕ → ℕ → ℕ → Reply
found_set id size count = if nat_eq count 0 || nat_le count size then replies.Num id else replies.Fail Einval

found-effect : (k : Kernel) (id : ℕ) (t : Bool)
    → (if t then reply_with k id else refuse k Einval)
    ≡ record { kernel = k; reply = if t then replies.Num id else replies.Fail Einval }
found-effect k id true = refl
found-effect k id false = refl

find-is : (k : Kernel) (id size count : ℕ) → set_size k id ≡ size
    → find_set k id count ≡ record { kernel = k; reply = found_set id size count }
find-is k id size count is =
    found-effect k id (nat_eq count 0 || nat_le count (set_size k id))
    ∙ ap (λ (s : ℕ). effect_with k (found_set id s count)) is
  where
    effect_with : Kernel → Reply → Effect
    effect_with l r = record { kernel = l; reply = r }

set-found : (k : Kernel) (key count n : ℕ) (create excl : Bool) (o : Option ℕ) (id size : ℕ)
    → key_answer (option_map (λ i. bound_to i (set_size k i)) o) create excl ≡ answers.Found id size
    → get_set_at k key count create excl n o ≡ Some (record { kernel = k; reply = found_set id size count })
set-found k key count n true excl None id size h = absurd (cc)
set-found k key count n false excl None id size h = absurd (cc)
set-found k key count n true true (Some i) id size h = absurd (cc)
set-found k key count n true false (Some i) id size h =
    let same : i ≡ id = cc
    in let sized : set_size k i ≡ size = cc
    in ap (λ j. Some (find_set k j count)) same
    ∙ ap Some (find-is k id size count (ap (set_size k) (sym same) ∙ sized))
set-found k key count n false excl (Some i) id size h =
    let same : i ≡ id = cc
    in let sized : set_size k i ≡ size = cc
    in ap (λ j. Some (find_set k j count)) same
    ∙ ap Some (find-is k id size count (ap (set_size k) (sym same) ∙ sized))

set-failed : (k : Kernel) (key count n : ℕ) (create excl : Bool) (o : Option ℕ) (e : Errno)
    → key_answer (option_map (λ i. bound_to i (set_size k i)) o) create excl ≡ answers.Fail e
    → get_set_at k key count create excl n o ≡ Some (refuse k e)
set-failed k key count n true excl None e h = absurd (cc)
set-failed k key count n false excl None e h = ap (λ x. Some (refuse k x)) (failed-is _ e h)
  where
    failed-is : (a b : Errno) → answers.Fail a ≡ answers.Fail b → a ≡ b
    failed-is a b h = cc
set-failed k key count n true true (Some i) e h = ap (λ x. Some (refuse k x)) (failed-is _ e h)
  where
    failed-is : (a b : Errno) → answers.Fail a ≡ answers.Fail b → a ≡ b
    failed-is a b h = cc
set-failed k key count n true false (Some i) e h = absurd (cc)
set-failed k key count n false excl (Some i) e h = absurd (cc)

set-creates : (k : Kernel) (key count n : ℕ) (create excl : Bool) (o : Option ℕ)
    → key_answer (option_map (λ i. bound_to i (set_size k i)) o) create excl ≡ answers.Create
    → get_set_at k key count create excl n o ≡ new_set_of k (put k.set_keys key n) n (new_set count)
set-creates k key count n true excl None h = refl
set-creates k key count n false excl None h = absurd (cc)
set-creates k key count n true true (Some i) h = absurd (cc)
set-creates k key count n true false (Some i) h = absurd (cc)
set-creates k key count n false excl (Some i) h = absurd (cc)

-- a get whose key is bound finds the set, if it has enough semaphores
pub finds-set : (queue_keys set_keys : Numbered Bound) (k : Kernel) (pid key count : ℕ) (create excl : Bool)
    (id size : ℕ) → MayMake k pid (calls.SemGet (Some key) count create excl) → HasKeys queue_keys set_keys k
    → key_answer (get set_keys key) create excl ≡ answers.Found id size
    → LeavesAll k pid (calls.SemGet (Some key) count create excl) (found_set id size count)
finds-set queue_keys set_keys k pid key count create excl id size m h answer =
    leaves-all k pid (calls.SemGet (Some key) count create excl) (found_set id size count) m
    (set-found k key count (number_in (Some (found_set id size count))) create excl (get k.set_keys key) id size
    (answered set_keys key create excl _ _ (h.sets key) answer))

-- one that the tables refuse is refused by the kernel
pub refuses-set : (queue_keys set_keys : Numbered Bound) (k : Kernel) (pid key count : ℕ) (create excl : Bool)
    (error : Errno) → MayMake k pid (calls.SemGet (Some key) count create excl) → HasKeys queue_keys set_keys k
    → key_answer (get set_keys key) create excl ≡ answers.Fail error
    → LeavesAll k pid (calls.SemGet (Some key) count create excl) (replies.Fail error)
refuses-set queue_keys set_keys k pid key count create excl error m h answer =
    leaves-all k pid (calls.SemGet (Some key) count create excl) (replies.Fail error) m
    (set-failed k key count 0 create excl (get k.set_keys key) error
    (answered set_keys key create excl _ _ (h.sets key) answer))

-- a set of a bad size is refused, and takes no number
pub refuses-size : (queue_keys set_keys : Numbered Bound) (k : Kernel) (pid key count : ℕ) (create excl : Bool)
    (error : Errno) → MayMake k pid (calls.SemGet (Some key) count create excl) → HasKeys queue_keys set_keys k
    → key_answer (get set_keys key) create excl ≡ answers.Create → new_set count ≡ Err error
    → LeavesAll k pid (calls.SemGet (Some key) count create excl) (replies.Fail error)
refuses-size queue_keys set_keys k pid key count create excl error m h answer bad =
    leaves-all k pid (calls.SemGet (Some key) count create excl) (replies.Fail error) m
    (set-creates k key count 0 create excl (get k.set_keys key)
    (answered set_keys key create excl _ _ (h.sets key) answer)
    ∙ ap (new_set_of k (put k.set_keys key 0) 0) bad)

-- one that is to create makes a set, and binds its key
pub makes-keyed-set : (queue_keys set_keys : Numbered Bound) (k : Kernel) (pid key n count : ℕ) (create excl : Bool)
    (set : SemaphoreSet) → MayMake k pid (calls.SemGet (Some key) count create excl) → HasKeys queue_keys set_keys k
    → key_answer (get set_keys key) create excl ≡ answers.Create → new_set count ≡ Ok set
    → is_used k.used_sets n ≡ false → is_positive_u32 n ≡ true
    → MakesBound k pid (calls.SemGet (Some key) count create excl) (Sem n) (ASet (unawaited set)) queue_keys
    (put set_keys key (bound_to n (length set.semaphores)))
makes-keyed-set queue_keys set_keys k pid key n count create excl set m h answer sized unused low =
    let keys : Numbered ℕ = put k.set_keys key n
    in let j : Kernel = with_new_set k keys n set
    in let e : Effect = reply_with j n
    in let like = finished-is-like j pid
    in let call : Call = calls.SemGet (Some key) count create excl
    in let gives =
    set-creates k key count n create excl (get k.set_keys key)
    (answered set_keys key create excl _ _ (h.sets key) answer)
    in let there : body_in (finished j pid) (Sem n) ≡ ASet (unawaited set) =
    like.bodies (Sem n) ∙ ap set_body (get-put-same k.sets n set)
    in record {
      object = record {
        next = finished j pid;
        enters = enters-by k pid call e (Some (Sem n)) m
            (gives ∙ ap (new_set_of k keys n) sized
            ∙ ap (λ (t : Bool). if t then Some e else None) (fresh-is k.used_sets n low unused))
            (set-used k keys n set);
        there = there;
        rest = λ name other. like.bodies name ∙ set-rest k keys n set name other;
        caller = lived-finished j pid (record { alive = m.alive; lives = m.lives });
      };
      keys = keys-bind-set queue_keys set_keys k (finished j pid) key n set h like.queue_keys like.set_keys there
          (λ other apart.
          like.bodies (Sem other) ∙ set-rest k keys n set (Sem other) (λ same. apart (set_number other n same)))
          (λ q other bound. bound-apart k n q other m.valid unused bound);
    }
  where
    set_number : (a b : ℕ) → Sem a ≡ Sem b → a ≡ b
    set_number a b h = cc
