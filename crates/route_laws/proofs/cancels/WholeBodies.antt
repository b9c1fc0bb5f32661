-- The bodies of the kernel in which callers wait, once one doesn't wait any more.
use Rattle.std.proofs.Common.{[], Bool, Contains, List, None, Option, Some, ap, cond, false, filter, if◌then◌else◌, inl, inr, map, nat_eq, not, refl, subst, sym, true, ℕ, ◌∙◌, ◌∷◌, ◌≡◌, ◌≢◌}
use Rattle.std.proofs.lemmas.Bool.{cases_eq, false≢true}
use Rattle.std.specs.BTreeMap.{is_at}
use Rattle.std.specs.Ordering.{nat_cmp}
use Rattle.pico_base.specs.declared.numbers.Name.TheVariants.{Msg, Proc, Sem}
use Rattle.pico_base.specs.declared.numbers.Name.{Name}
use Rattle.number_maps.proofs.LookUps.{get-put-other, get-put-same}
use Rattle.number_maps.specs.Maps.{Numbered, get, put}
use Rattle.kernel_model.specs.Queue.{Queue}
use Rattle.kernel_model.specs.SemaphoreSet.{SemaphoreSet}
use Rattle.waiting_model.specs.Kernel as kernel
use Rattle.waiting_model.specs.Kernel.{Kernel, Process, change_living, where_living}
use Rattle.waiting_model.specs.Marks.{after_reply}
use Rattle.waiting_model.specs.Transition.{queue_without, set_without, withdrawn}
use Rattle.waiting_model.specs.Waiters.{Awaited, erased, erased_waiter, without_waiter}
use Rattle.waiting_model.specs.declared.callers.Waiting.{Waiting}
use Rattle.node_model.specs.Bodies.{AQueue, ASet, Body, Ended, Gone, Living, Removed, erase, waiters_of, whole_in, whole_process, whole_queue, whole_set}
use Rattle.node_model.specs.Kinds.{is_object}
use Rattle.kernel_laws.proofs.Members.{contains-none}
use Rattle.serve_laws.proofs.Rounds.{without}
use Rattle.route_laws.proofs.served.Rounds.{with_waiters}

-- ---- processes

row-stays : (p : Process) → whole_process (Some (where_living after_reply p)) ≡ whole_process (Some p)
row-stays (kernel.Living a) = refl
row-stays (kernel.Ended ending) = refl
row-stays kernel.Gone = refl

row-by : (t : Bool) (p : Process)
    → whole_process (Some (if t then where_living after_reply p else p)) ≡ whole_process (Some p)
row-by true p = row-stays p
row-by false p = refl

at-first : (t : Bool) (x y : Option Process) (p r : Process) → whole_process (Some r) ≡ whole_process (Some p)
    → whole_process y ≡ whole_process x → whole_process (cond t (Some r) y) ≡ whole_process (cond t (Some p) x)
at-first true x y p r first rest = first
at-first false x y p r first rest = rest

rows-stay : (pid q : ℕ) (ps : Numbered Process)
    → whole_process (get (change_living ps pid after_reply) q) ≡ whole_process (get ps q)
rows-stay pid q [] = refl
rows-stay pid q (e ∷ ps) =
    at-first (is_at (nat_cmp q) e.0) (get ps q) (get (change_living ps pid after_reply) q) e.1
    (if nat_eq pid e.0 then where_living after_reply e.1 else e.1) (row-by (nat_eq pid e.0) e.1) (rows-stay pid q ps)

-- ---- those who wait

-- erased, and one taken out, in either order
erased-without : (pid : ℕ) (ws : List Waiting)
    → map erased_waiter (without pid ws) ≡ filter (λ w. not (nat_eq pid w.pid)) (map erased_waiter ws)
erased-without pid [] = refl
erased-without pid (w ∷ ws) = by (nat_eq pid w.pid) (erased-without pid ws)
  where
    by : (t : Bool)
        → map erased_waiter (without pid ws) ≡ filter (λ w. not (nat_eq pid w.pid)) (map erased_waiter ws)
        → map erased_waiter (cond (not t) (w ∷ without pid ws) (without pid ws))
        ≡ cond (not t) (erased_waiter w ∷ filter (λ w. not (nat_eq pid w.pid)) (map erased_waiter ws))
        (filter (λ w. not (nat_eq pid w.pid)) (map erased_waiter ws))
    by true rest = rest
    by false rest = ap (λ us. erased_waiter w ∷ us) rest

module _ {T : Type 0} where
  fewer-erased : (pid : ℕ) (o : Awaited T)
      → erased (record o { waiters = without pid o.waiters }) ≡ without_waiter pid (erased o)
  fewer-erased pid o = ap (λ ws. record o { waiters = ws }) (erased-without pid o.waiters)

-- ---- the kernel

removed-queue : (q : Awaited Queue) → AQueue q ≡ Removed → ⊥
removed-queue q h = cc

removed-set : (s : Awaited SemaphoreSet) → ASet s ≡ Removed → ⊥
removed-set s h = cc

same-queue : (q r : Awaited Queue) → AQueue q ≡ AQueue r → q ≡ r
same-queue q r h = cc

same-set : (q r : Awaited SemaphoreSet) → ASet q ≡ ASet r → q ≡ r
same-set q r h = cc

same-id : (id other : ℕ) → Msg id ≡ Msg other → id ≡ other
same-id id other h = cc

same-sem : (id other : ℕ) → Sem id ≡ Sem other → id ≡ other
same-sem id other h = cc

set-no-queue : (s : Awaited SemaphoreSet) (o : Option (Awaited Queue)) → ASet s ≡ whole_queue o → ⊥
set-no-queue s None h = cc
set-no-queue s (Some q) h = cc

queue-no-set : (q : Awaited Queue) (o : Option (Awaited SemaphoreSet)) → AQueue q ≡ whole_set o → ⊥
queue-no-set q None h = cc
queue-no-set q (Some s) h = cc

-- at a process nobody waits
pub bodies-alone : (k : Kernel) (pid own : ℕ) (m : Name) → whole_in (withdrawn k pid (Proc own)) m ≡ whole_in k m
bodies-alone k pid own (Proc q) = rows-stay pid q k.processes
bodies-alone k pid own (Msg id) = refl
bodies-alone k pid own (Sem id) = refl

module _ (k : Kernel) (pid : ℕ) (bodies bodies' : Name → Body)
    (before : (m : Name) → erase (bodies m) ≡ whole_in k m) where
  module _ (id : ℕ) (q : Awaited Queue) (is : bodies (Msg id) ≡ AQueue q)
      (here : bodies' (Msg id) ≡ AQueue (record q { waiters = without pid q.waiters }))
      (others : (m : Name) → m ≢ Msg id → bodies' m ≡ bodies m) where
    there : (o : Option (Awaited Queue)) → get k.queues id ≡ o → o ≡ Some (erased q)
    there None e =
        absurd (removed-queue (erased q) (sym (ap erase is) ∙ before (Msg id) ∙ ap whole_queue e))
    there (Some r) e =
        ap Some (sym (same-queue (erased q) r (sym (ap erase is) ∙ before (Msg id) ∙ ap whole_queue e)))

    queue-left : withdrawn k pid (Msg id) ≡ record k {
      queues = put k.queues id (without_waiter pid (erased q));
      processes = change_living k.processes pid after_reply;
    }
    queue-left =
        ap (λ o. (let left = queue_without k id pid o in record left
        { processes = change_living left.processes pid after_reply }))
        (there (get k.queues id) refl)

    pub queue-bodies : (m : Name) → erase (bodies' m) ≡ whole_in (withdrawn k pid (Msg id)) m
    queue-bodies m = by m ∙ sym (ap (λ z. whole_in z m) queue-left)
      where
        by : (m : Name) → erase (bodies' m) ≡ whole_in (record k {
          queues = put k.queues id (without_waiter pid (erased q));
          processes = change_living k.processes pid after_reply;
        }) m
        by (Proc other) =
            ap erase (others (Proc other) (λ e. cc)) ∙ before (Proc other) ∙ sym (rows-stay pid other k.processes)
        by (Sem other) = ap erase (others (Sem other) (λ e. cc)) ∙ before (Sem other)
        by (Msg other) = elim (cases_eq other id) [
          | inl e ↦
              ap (λ z. erase (bodies' (Msg z))) e ∙ ap erase here ∙ ap AQueue (fewer-erased pid q)
              ∙ sym (ap whole_queue (get-put-same k.queues id (without_waiter pid (erased q))))
              ∙ ap (λ z. whole_queue (get (put k.queues id (without_waiter pid (erased q))) z)) (sym e)
          | inr d ↦
              ap erase (others (Msg other) (λ e. d (same-id other id e))) ∙ before (Msg other)
              ∙ sym (ap whole_queue (get-put-other k.queues id (without_waiter pid (erased q)) other d))
        ]

  module _ (id : ℕ) (s : Awaited SemaphoreSet) (is : bodies (Sem id) ≡ ASet s)
      (here : bodies' (Sem id) ≡ ASet (record s { waiters = without pid s.waiters }))
      (others : (m : Name) → m ≢ Sem id → bodies' m ≡ bodies m) where
    set-there : (o : Option (Awaited SemaphoreSet)) → get k.sets id ≡ o → o ≡ Some (erased s)
    set-there None e =
        absurd (removed-set (erased s) (sym (ap erase is) ∙ before (Sem id) ∙ ap whole_set e))
    set-there (Some r) e =
        ap Some (sym (same-set (erased s) r (sym (ap erase is) ∙ before (Sem id) ∙ ap whole_set e)))

    set-left : withdrawn k pid (Sem id) ≡ record k {
      sets = put k.sets id (without_waiter pid (erased s));
      processes = change_living k.processes pid after_reply;
    }
    set-left =
        ap (λ o. (let left = set_without k id pid o in record left
        { processes = change_living left.processes pid after_reply }))
        (set-there (get k.sets id) refl)

    pub set-bodies : (m : Name) → erase (bodies' m) ≡ whole_in (withdrawn k pid (Sem id)) m
    set-bodies m = by m ∙ sym (ap (λ z. whole_in z m) set-left)
      where
        by : (m : Name) → erase (bodies' m) ≡ whole_in (record k {
          sets = put k.sets id (without_waiter pid (erased s));
          processes = change_living k.processes pid after_reply;
        }) m
        by (Proc other) =
            ap erase (others (Proc other) (λ e. cc)) ∙ before (Proc other) ∙ sym (rows-stay pid other k.processes)
        by (Msg other) = ap erase (others (Msg other) (λ e. cc)) ∙ before (Msg other)
        by (Sem other) = elim (cases_eq other id) [
          | inl e ↦
              ap (λ z. erase (bodies' (Sem z))) e ∙ ap erase here ∙ ap ASet (fewer-erased pid s)
              ∙ sym (ap whole_set (get-put-same k.sets id (without_waiter pid (erased s))))
              ∙ ap (λ z. whole_set (get (put k.sets id (without_waiter pid (erased s))) z)) (sym e)
          | inr d ↦
              ap erase (others (Sem other) (λ e. d (same-sem other id e))) ∙ before (Sem other)
              ∙ sym (ap whole_set (get-put-other k.sets id (without_waiter pid (erased s)) other d))
        ]

  -- Of a name's body one who waits there is taken out, and the others stay.
  pub bodies-without : (name : Name) (v : Waiting) → Contains (waiters_of (bodies name)) v
      → bodies' name ≡ with_waiters (bodies name) (without pid (waiters_of (bodies name)))
      → ((m : Name) → m ≢ name → bodies' m ≡ bodies m) → is_object name ≡ true
      → (m : Name) → erase (bodies' m) ≡ whole_in (withdrawn k pid name) m
  bodies-without (Msg id) v among here others object = by (bodies (Msg id)) refl
    where
      by : (body : Body) → bodies (Msg id) ≡ body → (m : Name) → erase (bodies' m) ≡ whole_in (withdrawn k pid (Msg id))
          m
      by (AQueue q) is =
          queue-bodies id q is (here ∙ ap (λ body. with_waiters body (without pid (waiters_of body))) is) others
      by (ASet s) is =
          absurd (set-no-queue (erased s) (get k.queues id) (sym (ap erase is) ∙ before (Msg id)))
      by (Living row) is = absurd (contains-none v (subst (λ body. Contains (waiters_of body) v) is among))
      by (Ended ending) is = absurd (contains-none v (subst (λ body. Contains (waiters_of body) v) is among))
      by Gone is = absurd (contains-none v (subst (λ body. Contains (waiters_of body) v) is among))
      by Removed is = absurd (contains-none v (subst (λ body. Contains (waiters_of body) v) is among))
  bodies-without (Sem id) v among here others object = by (bodies (Sem id)) refl
    where
      by : (body : Body) → bodies (Sem id) ≡ body → (m : Name) → erase (bodies' m) ≡ whole_in (withdrawn k pid (Sem id))
          m
      by (ASet s) is =
          set-bodies id s is (here ∙ ap (λ body. with_waiters body (without pid (waiters_of body))) is) others
      by (AQueue q) is =
          absurd (queue-no-set (erased q) (get k.sets id) (sym (ap erase is) ∙ before (Sem id)))
      by (Living row) is = absurd (contains-none v (subst (λ body. Contains (waiters_of body) v) is among))
      by (Ended ending) is = absurd (contains-none v (subst (λ body. Contains (waiters_of body) v) is among))
      by Gone is = absurd (contains-none v (subst (λ body. Contains (waiters_of body) v) is among))
      by Removed is = absurd (contains-none v (subst (λ body. Contains (waiters_of body) v) is among))
  bodies-without (Proc own) v among here others object = absurd (false≢true object)
