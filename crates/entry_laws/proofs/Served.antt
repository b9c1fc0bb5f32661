-- A call is served on the body of its name, as the kernel's transition does it: what the kernel has afterwards, and
-- what the node that serves it holds.
use Rattle.std.proofs.Common.{◌≡◌, ◌≢◌, ◌⊎◌, ℕ, Bool, true, false, Option, Some, None, refl, ap, sym, subst, ◌∙◌, inl, inr, nat_eq}
use Rattle.std.specs.Prelude.{if◌then◌else◌, is_some, Contains}
use Rattle.std.specs.Option.{option_and_then}
use Rattle.std.proofs.lemmas.Bool.{cases_eq, eq-eqb, ne_eqb, false≢true}
use Rattle.pico_base.specs.declared.call.Call.{Call}
use Rattle.pico_base.specs.declared.call.Call.TheVariants as calls
use Rattle.pico_base.specs.declared.numbers.Name.{Name}
use Rattle.pico_base.specs.declared.numbers.Name.TheVariants.{Proc, Sem}
use Rattle.pico_base.specs.declared.reply.Ending.{Ending}
use Rattle.pico_base.specs.declared.reply.Outcome.{Outcome}
use Rattle.pico_base.specs.declared.reply.Reply.{Reply}
use Rattle.pico_base.specs.declared.reply.Reply.TheVariants as replies
use Rattle.key_table.specs.declared.Bound.{Bound}
use Rattle.number_maps.specs.Maps.{Numbered, get}
use Rattle.number_maps.specs.Rising.{IsRising}
use Rattle.kernel_model.specs.Queue.{Queue}
use Rattle.kernel_model.specs.SemaphoreSet.{SemaphoreSet}
use Rattle.kernel_model.specs.Row.{Alive, ended_child}
use Rattle.kernel_model.specs.Kernel.{Kernel}
use Rattle.kernel_model.specs.Kernel as kernel
use Rattle.kernel_model.specs.Effect.{Effect, on_named, reply_alone}
use Rattle.kernel_model.specs.QueueCalls.{remove_queue}
use Rattle.kernel_model.specs.SetCalls.{remove_set, set_size}
use Rattle.kernel_model.specs.Transition.{effect, successor, transition}
use Rattle.kernel_model.specs.History.{number_in}
use Rattle.kernel_model.specs.Valid.{AreKeys, IsValid}
use Rattle.waiting_model.specs.Waiters.{unawaited}
use Rattle.node_model.specs.Kinds.{number_of}
use Rattle.node_model.specs.Bodies.{Body, Living, Ended, Gone, AQueue, ASet, Removed, body_in}
use Rattle.node_model.specs.Serving.{name_for}
use Rattle.node_model.specs.Carrying.{done, in_body, is_removal, is_served, on_body, on_row, on_set}
use Rattle.serve_laws.specs.Laws.{Follows, is_found}
use Rattle.serve_laws.proofs.Steps.{served-calls}
use Rattle.entry_laws.specs.Entering.{MayMake, Enters, HasKeys, other_than, removed_queue, removed_set, unless_removed, without_keys_of}
use Rattle.entry_laws.proofs.Bodies.{living-body, body-living}
use Rattle.entry_laws.proofs.Making.{finished, finished-is-like, enters-by, steps-by}
use Rattle.entry_laws.proofs.Effects.{Gives, Leaves, gives, effect-any}
use Rattle.entry_laws.proofs.Keys.{get-unbound, keys-unbound, size-by-body, size-same, size_in}
use Rattle.entry_laws.proofs.Names.{name-cases}
use Rattle.entry_laws.proofs.Others.{Lived}
use Rattle.entry_laws.proofs.Replies.{body-none, finds, on_set-size, row-found, set-not-found}

-- The kernel makes the call, and leaves on its name what the call leaves on the name's body; a child that was found is
-- gone, and all else stays.
pub record Carried (k : Kernel) (pid : ℕ) (call : Call) (name : Name) : Type 0 where
  pub reply : Reply
  pub next : Kernel
  pub step : transition k pid call (number_in (Some reply)) ≡ Some (successor next (reply_alone reply))
  pub enters : Enters k pid call reply None next
  pub follows : Follows k name (on_body name (body_in k name) pid call) next reply
  -- no key leads to what it removes, and the others stay
  pub queue_keys : (key : ℕ) → get next.queue_keys key ≡ unless_removed (removed_queue call) (get k.queue_keys key)
  pub set_keys : (key : ℕ) → get next.set_keys key ≡ unless_removed (removed_set call) (get k.set_keys key)
  -- the caller lives on
  pub caller : Lived next pid

-- what is in two equal options is the same
pub some-is : {A : Type 0} (x y : A) → Some x ≡ Some y → x ≡ y
some-is x y h = cc

-- who lived still lives once the call is over
pub lived-finished : (k : Kernel) (pid : ℕ) → Lived k pid → Lived (finished k pid) pid
lived-finished k pid h =
    let same = (finished-is-like k pid).bodies (Proc pid)
    in let row = body-living (finished k pid) pid h.alive.row (same ∙ living-body k pid h.alive h.lives)
    in record { alive = row.alive; lives = row.lives }

-- ---- keys

-- a key of nothing doesn't lead to this identifier
pub absent-other : {V : Type 0} (keys : Numbered ℕ) (things : Numbered V) (id key : ℕ) → AreKeys keys things
    → get things id ≡ None → get keys key ≡ option_and_then (other_than id) (get keys key)
absent-other keys things id key are none = by (get keys key) refl
  where
    by : (o : Option ℕ) → get keys key ≡ o → o ≡ option_and_then (other_than id) o
    by None is = refl
    by (Some v) is =
        elim (cases_eq v id) [
          | inl same ↦
              let there : is_some (get things v) ≡ true = are.lead key v is
              in absurd (false≢true (sym (ap is_some (ap (get things) same ∙ none)) ∙ there))
          | inr other ↦ sym (ap (λ (t : Bool). if t then None else Some v) (ne_eqb v id other))
        ]

removed-queue-keys : (k : Kernel) (id key : ℕ) (o : Option Queue) (e : Effect) → IsValid k → get k.queues id ≡ o
    → on_named k o (λ _. remove_queue k id) ≡ e
    → get e.kernel.queue_keys key ≡ option_and_then (other_than id) (get k.queue_keys key)
removed-queue-keys k id key None e valid there is =
    sym (ap (λ (x : Effect). get x.kernel.queue_keys key) is)
    ∙ absent-other k.queue_keys k.queues id key valid.queue_keys there
removed-queue-keys k id key (Some q) e valid there is =
    sym (ap (λ (x : Effect). get x.kernel.queue_keys key) is)
    ∙ get-unbound k.queue_keys id key valid.queue_keys.ordered

removed-set-keys : (k : Kernel) (id key : ℕ) (o : Option SemaphoreSet) (e : Effect) → IsValid k → get k.sets id ≡ o
    → on_named k o (λ _. remove_set k id) ≡ e
    → get e.kernel.set_keys key ≡ option_and_then (other_than id) (get k.set_keys key)
removed-set-keys k id key None e valid there is =
    sym (ap (λ (x : Effect). get x.kernel.set_keys key) is)
    ∙ absent-other k.set_keys k.sets id key valid.set_keys there
removed-set-keys k id key (Some q) e valid there is =
    sym (ap (λ (x : Effect). get x.kernel.set_keys key) is)
    ∙ get-unbound k.set_keys id key valid.set_keys.ordered

kept-queue-keys : (k : Kernel) (key : ℕ) (o : Option SemaphoreSet) (id : ℕ) (e : Effect)
    → on_named k o (λ _. remove_set k id) ≡ e → get e.kernel.queue_keys key ≡ get k.queue_keys key
kept-queue-keys k key None id e is = sym (ap (λ (x : Effect). get x.kernel.queue_keys key) is)
kept-queue-keys k key (Some s) id e is = sym (ap (λ (x : Effect). get x.kernel.queue_keys key) is)

kept-set-keys : (k : Kernel) (key : ℕ) (o : Option Queue) (id : ℕ) (e : Effect)
    → on_named k o (λ _. remove_queue k id) ≡ e → get e.kernel.set_keys key ≡ get k.set_keys key
kept-set-keys k key None id e is = sym (ap (λ (x : Effect). get x.kernel.set_keys key) is)
kept-set-keys k key (Some s) id e is = sym (ap (λ (x : Effect). get x.kernel.set_keys key) is)

queue-keys-after : (k : Kernel) (pid n : ℕ) (a : Alive) (call : Call) (e : Effect) → IsValid k
    → Leaves k pid (is_removal call) e → effect k pid a call n ≡ Some e → (key : ℕ)
    → get e.kernel.queue_keys key ≡ unless_removed (removed_queue call) (get k.queue_keys key)
queue-keys-after k pid n a (calls.MsgRmid id) e valid leaves gives key =
    removed-queue-keys k id key (get k.queues id) e valid refl (some-is _ e gives)
queue-keys-after k pid n a (calls.SemRmid id) e valid leaves gives key =
    kept-queue-keys k key (get k.sets id) id e (some-is _ e gives)
queue-keys-after k pid n a call e valid leaves gives key = ap (λ keys. get keys key) (leaves.queue_keys refl)

set-keys-after : (k : Kernel) (pid n : ℕ) (a : Alive) (call : Call) (e : Effect) → IsValid k
    → Leaves k pid (is_removal call) e → effect k pid a call n ≡ Some e → (key : ℕ)
    → get e.kernel.set_keys key ≡ unless_removed (removed_set call) (get k.set_keys key)
set-keys-after k pid n a (calls.MsgRmid id) e valid leaves gives key =
    kept-set-keys k key (get k.queues id) id e (some-is _ e gives)
set-keys-after k pid n a (calls.SemRmid id) e valid leaves gives key =
    removed-set-keys k id key (get k.sets id) e valid refl (some-is _ e gives)
set-keys-after k pid n a call e valid leaves gives key = ap (λ keys. get keys key) (leaves.set_keys refl)

-- a call that can be served is carried out
pub carried : (k : Kernel) (pid : ℕ) (call : Call) (name : Name) → MayMake k pid call → is_served call ≡ true
    → name_for pid call ≡ Some name → Carried k pid call name
carried k pid call name m served named =
    let g : Gives k pid m.alive call 0 = gives k pid 0 m.alive call served m.valid m.lives
    in let e : Effect = g.result
    in let like = finished-is-like e.kernel pid
    in let next : Kernel = finished e.kernel pid
    in let made = effect-any k pid m.alive call (number_in (Some e.reply)) 0 served ∙ g.gives
    in let step = steps-by k pid call e m made
    in let enters : Enters k pid call e.reply None next = enters-by k pid call e None m made g.leaves.used
    in let w = served-calls k pid (number_in (Some e.reply)) call name next (reply_alone e.reply) m.valid served named
    step
    in let answer : e.reply ≡ w.answer = some-is e.reply w.answer (ap (λ (o : Outcome). o.own) w.alone)
    in record {
      reply = e.reply;
      next = next;
      step = step;
      enters = enters;
      follows = subst (λ (r : Reply). Follows k name (on_body name (body_in k name) pid call) next r) (sym answer)
          w.follows;
      queue_keys = λ key.
          ap (λ keys. get keys key) like.queue_keys
          ∙ queue-keys-after k pid 0 m.alive call e m.valid g.leaves g.gives key;
      set_keys = λ key.
          ap (λ keys. get keys key) like.set_keys
          ∙ set-keys-after k pid 0 m.alive call e m.valid g.leaves g.gives key;
      caller = lived-finished e.kernel pid (g.leaves.lives (record { alive = m.alive; lives = m.lives }));
    }

-- ---- what it leaves, in the invariant's words

-- a name that isn't the call's and wasn't found
pub carried-rest : (k : Kernel) (pid : ℕ) (call : Call) (name : Name) (c : Carried k pid call name) (m : Name)
    → m ≢ name → is_found c.reply m ≡ false → body_in c.next m ≡ body_in k m
carried-rest k pid call name c m other not_found = c.follows.others m other not_found

set-size-after : (name : Name) (id : ℕ) (body : Body) (pid : ℕ) (call : Call) → is_removal call ≡ false
    → size_in (on_body (Sem id) body pid call).left ≡ size_in body
unfolding size_in
set-size-after name id (ASet s) pid call h =
    ap (λ (t : Bool).
    size_in (if t then done Removed (replies.Num 0) else in_body (λ (x : SemaphoreSet). ASet (unawaited x))
    (on_set s.state pid call)).left) h
    ∙ on_set-size s.state pid call
set-size-after name id (Living row) pid call h = refl
set-size-after name id (Ended e) pid call h = refl
set-size-after name id Gone pid call h = refl
set-size-after name id (AQueue q) pid call h = refl
set-size-after name id Removed pid call h = refl

removal-of : (call : Call) (t : Bool) → is_removal call ≡ t → (pid id : ℕ) → name_for pid call ≡ Some (Sem id)
    → (is_removal call ≡ false) ⊎ (removed_set call ≡ Some id)
removal-of (calls.SemRmid id) t is pid other named =
    let same : Sem id ≡ Sem other = some-is (Sem id) (Sem other) named
    in inr (ap (λ (n : Name). Some (number_of n)) same)
removal-of (calls.MsgRmid id) t is pid other named = absurd (cc)
removal-of call t is pid other named = inl refl

-- the set that a key still leads to has its size
pub carried-size : (k : Kernel) (pid : ℕ) (call : Call) (name : Name) (c : Carried k pid call name)
    → name_for pid call ≡ Some name → (key id : ℕ) → get c.next.set_keys key ≡ Some id
    → set_size c.next id ≡ set_size k id
carried-size k pid call name c named key id bound =
    elim (name-cases (Sem id) name) [
      | inl same ↦
          elim (removal-of call (is_removal call) refl pid id (named ∙ ap Some (sym same))) [
            | inl stays ↦
                size-by-body c.next k id
                (ap (λ (n : Name). size_in (body_in c.next n)) same ∙ ap size_in c.follows.there
                ∙ ap (λ (n : Name). size_in (on_body n (body_in k n) pid call).left) (sym same)
                ∙ set-size-after (Sem id) id (body_in k (Sem id)) pid call stays)
            | inr gone ↦
                absurd (not-other id (get k.set_keys key)
                (sym (ap (λ (r : Option ℕ). unless_removed r (get k.set_keys key)) gone)
                ∙ sym (c.set_keys key) ∙ bound))
          ]
      | inr other ↦ size-same c.next k id (c.follows.others (Sem id) other (set-not-found c.reply id))
    ]
  where
    not-by : (id v : ℕ) (t : Bool) → nat_eq v id ≡ t → (if t then None else Some v) ≡ Some id → ⊥
    not-by id v true same h = absurd (cc)
    not-by id v false other h =
        let is : v ≡ id = some-is v id h in false≢true (sym other ∙ eq-eqb v id is)

    not-other : (id : ℕ) (o : Option ℕ) → option_and_then (other_than id) o ≡ Some id → ⊥
    not-other id None h = absurd (cc)
    not-other id (Some v) h = not-by id v (nat_eq v id) refl h

-- the leader's tables, without the keys of what the call removes
pub carried-keys : (queue_keys set_keys : Numbered Bound) (k : Kernel) (pid : ℕ) (call : Call) (name : Name)
    (c : Carried k pid call name) → name_for pid call ≡ Some name → IsRising queue_keys → IsRising set_keys
    → HasKeys queue_keys set_keys k
    → HasKeys (without_keys_of (removed_queue call) queue_keys) (without_keys_of (removed_set call) set_keys) c.next
carried-keys queue_keys set_keys k pid call name c named rises rises_too h =
    keys-unbound queue_keys set_keys (removed_queue call) (removed_set call) k c.next rises rises_too h c.queue_keys
    c.set_keys (carried-size k pid call name c named)

-- ---- families

-- A child that is found is the caller's: the call is its own, and it kept the child's ending.
pub record FindsChild (k : Kernel) (pid : ℕ) (name : Name) (a : Alive) (child : ℕ) (ending : Ending) : Type 0 where
  pub own : name ≡ Proc pid
  pub kept : Contains a.row.family.ended (ended_child child ending)
  pub ended : get k.processes child ≡ Some (kernel.Ended ending)

-- a reply with a child comes from the caller's own row, which keeps that end, and the child has ended so
pub found-by : (k : Kernel) (pid : ℕ) (call : Call) (name : Name) (m : MayMake k pid call) (r : Reply) (child : ℕ)
    (ending : Ending) → name_for pid call ≡ Some name → r ≡ replies.Child child ending
    → r ≡ (on_body name (body_in k name) pid call).reply → FindsChild k pid name m.alive child ending
found-by k pid (calls.WaitPid which nohang) name m r child ending named is does =
    let own : name ≡ Proc pid = some-is name (Proc pid) (sym named)
    in let body : body_in k (Proc pid) ≡ Living m.alive.row = living-body k pid m.alive m.lives
    in let call : Call = calls.WaitPid which nohang
    in let says : (on_row m.alive.row pid call).reply ≡ replies.Child child ending =
    sym (ap (λ (n : Name). (on_body n (body_in k n) pid call).reply) own
    ∙ ap (λ (b : Body). (on_body (Proc pid) b pid call).reply) body) ∙ sym does ∙ is
    in let kept = row-found m.alive.row pid call child ending says
    in record { own = own; kept = kept; ended = (m.valid.alive pid m.alive m.lives).ended child ending kept }
found-by k pid call name m r child ending named is does =
    absurd (false≢true (sym (ap finds does ∙ body-none name (body_in k name) pid call refl) ∙ ap finds is))

-- a reply that found a child has found one that its parent kept
pub carried-finds : (k : Kernel) (pid : ℕ) (call : Call) (name : Name) (m : MayMake k pid call)
    (c : Carried k pid call name) (child : ℕ) (ending : Ending) → name_for pid call ≡ Some name
    → c.reply ≡ replies.Child child ending → FindsChild k pid name m.alive child ending
carried-finds k pid call name m c child ending named is =
    found-by k pid call name m c.reply child ending named is c.follows.reply
