-- The same effect on two kernels, and the same step.
use Rattle.std.proofs.Common.{◌≡◌, ◌∙◌, ℕ, Bool, true, false, not, ◌&&◌, cond, nat_eq, List, [], ◌∷◌, length, Option, Some, None, refl, ap, sym, subst, inl, inr}
use Rattle.std.specs.List.{list_any}
use Rattle.std.specs.Option.{option_map, option_map_or}
use Rattle.std.proofs.lemmas.Bool.{false≢true, or_cases, or_left, or_right, eqb-true}
use Rattle.pico_base.specs.declared.reply.Errno.TheVariants.{Einval}
use Rattle.pico_base.specs.declared.reply.Outcome.{Outcome}
use Rattle.pico_base.specs.declared.reply.Reply.{Reply}
use Rattle.pico_base.specs.declared.reply.Reply.TheVariants.{Fail}
use Rattle.number_maps.specs.Maps.{Numbered, get, is_used}
use Rattle.number_maps.proofs.Order.{eq-same}
use Rattle.kernel_model.specs.Effect.{is_fresh}
use Rattle.kernel_model.specs.Numbers.{is_positive_u32}
use Rattle.kernel_model.specs.Queue.{Queue}
use Rattle.kernel_model.specs.SemaphoreSet.{SemaphoreSet}
use Rattle.waiting_model.specs.declared.callers.Wake.{Wake}
use Rattle.waiting_model.specs.Waiters.{Awaited}
use Rattle.waiting_model.specs.Kernel.{Kernel, Process, parent_in}
use Rattle.waiting_model.specs.Effect.{Effect, on_named}
use Rattle.waiting_model.specs.Transition.{Successor, successor}
use Rattle.waiting_footprint_laws.specs.Footprint.{Part, MarksOf, Whole, ParentOf, QueueAt, SetAt, SizeOf, QueueKeys, SetKeys, parent_number}
use Rattle.waiting_footprint_laws.specs.Law.{SameAt, AgreeOn, RestStays, is_marks, is_whole, is_queue, is_set, is_queue_keys, is_set_keys}
use Rattle.footprint_laws.proofs.Change.{Change, Stays, Same, Changes, changes-none, change-agree, change-first, change-second}
use Rattle.waiting_footprint_laws.proofs.Moved.{Moved, Kept, marks_in, moved-from_change, moved-marks, moved-whole, moved-first, moved-second, moved-row_first, moved-row_second}

-- the part says who is the process's parent
abbrev pub is_parent : ℕ → Part → Bool
is_parent pid (ParentOf p) = nat_eq pid p
is_parent pid part = false

-- the parts have the process whole
abbrev pub has_whole : List Part → ℕ → Bool
has_whole parts p = list_any (is_whole p) parts

-- the parts have the process's marks
abbrev pub has_marks : List Part → ℕ → Bool
has_marks parts p = list_any (is_marks p) parts

-- the parts have the queue
abbrev pub has_queue : List Part → ℕ → Bool
has_queue parts p = list_any (is_queue p) parts

-- the parts have the set
abbrev pub has_set : List Part → ℕ → Bool
has_set parts p = list_any (is_set p) parts

-- the parts have what the queue's key is bound to
abbrev pub has_queue_keys : List Part → ℕ → Bool
has_queue_keys parts p = list_any is_queue_keys parts

-- the parts have what the set's key is bound to
abbrev pub has_set_keys : List Part → ℕ → Bool
has_set_keys parts p = list_any is_set_keys parts

-- the parts say who the process's parent is
abbrev pub has_parent : List Part → ℕ → Bool
has_parent parts p = list_any (is_parent p) parts

-- no process's parent is a part
abbrev pub Childless : List Part → Type 0
Childless parts = (p : ℕ) → has_parent parts p ≡ false

-- nobody is the parent of the process
abbrev pub IsOrphan : Kernel → ℕ → Type 0
IsOrphan k p = parent_in p k.processes ≡ None

-- what is left of all processes
abbrev pub AllMoved : List Part → Kernel → Kernel → Numbered Process → Numbered Process → Type 0
AllMoved parts j k a b =
    (p : ℕ) → Moved (has_whole parts p) (has_marks parts p) (get j.processes p) (get k.processes p) (get a p) (get b p)

-- What a step leaves at each number of two kernels.
pub record Stepped (parts : List Part) (j k to_j to_k : Kernel) : Type 0 where
  pub processes : AllMoved parts j k to_j.processes to_k.processes
  pub queues : Changes (has_queue parts) j.queues k.queues to_j.queues to_k.queues
  pub sets : Changes (has_set parts) j.sets k.sets to_j.sets to_k.sets
  pub queue_keys : Changes (has_queue_keys parts) j.queue_keys k.queue_keys to_j.queue_keys to_k.queue_keys
  pub set_keys : Changes (has_set_keys parts) j.set_keys k.set_keys to_j.set_keys to_k.set_keys
  pub parents : (p : ℕ) → has_parent parts p ≡ true → IsOrphan to_j p × IsOrphan to_k p

-- The same effect on two kernels: the same reply or none, the same wakes, and such a step.
pub record SameEffect (parts : List Part) (j k : Kernel) (e f : Effect) : Type 0 where
  pub own : e.own ≡ f.own
  pub wakes : e.wakes ≡ f.wakes
  pub step : Stepped parts j k e.kernel f.kernel

-- no effect on both kernels, or the same
abbrev pub SameEffects : List Part → Kernel → Kernel → Option Effect → Option Effect → Type 0
SameEffects parts j k None None = Unit {0}
SameEffects parts j k (Some e) (Some f) = SameEffect parts j k e f
SameEffects parts j k _ _ = ⊥

-- From what a step leaves to agreement and to the rest.

orphans-number : (p : ℕ) (j k : Kernel) → IsOrphan j p → IsOrphan k p → parent_number j p ≡ parent_number k p
orphans-number p j k a b = ap (option_map (λ r. r.pid)) (a ∙ sym b)

abbrev size_in : Option (Awaited SemaphoreSet) → ℕ
size_in o = option_map_or (λ set. length set.state.semaphores) o 0

change-size : (t : Bool) (j k to_j to_k : Option (Awaited SemaphoreSet)) → Change t j k to_j to_k
    → size_in j ≡ size_in k → size_in to_j ≡ size_in to_k
change-size t j k to_j to_k (Stays x y) h = ap size_in x ∙ h ∙ ap size_in (sym y)
change-size t j k to_j to_k (Same s x) h = ap size_in x

-- each test that the part passes is passed by one of the parts
abbrev IsAmong : List Part → Part → Type 0
IsAmong parts x = (test : Part → Bool) → test x ≡ true → list_any test parts ≡ true

module _ (parts : List Part) (j k to_j to_k : Kernel) (s : Stepped parts j k to_j to_k) where
  agree-at : (x : Part) → IsAmong parts x → SameAt j k x → SameAt to_j to_k x
  agree-at (MarksOf p) among h = moved-marks _ _ _ _ _ _ (s.processes p) h
  agree-at (Whole p) among h = moved-whole _ _ _ _ _ _ (s.processes p) h
  agree-at (ParentOf p) among h =
      let o = s.parents p (among (is_parent p) (eq-same p))
      in orphans-number p to_j to_k o.0 o.1
  agree-at (QueueAt p) among h = change-agree _ _ _ _ _ (s.queues p) h
  agree-at (SetAt p) among h = change-agree _ _ _ _ _ (s.sets p) h
  agree-at (SizeOf p) among h = change-size _ _ _ _ _ (s.sets p) h
  agree-at QueueKeys among h = λ key. change-agree _ _ _ _ _ (s.queue_keys key) (h key)
  agree-at SetKeys among h = λ key. change-agree _ _ _ _ _ (s.set_keys key) (h key)

  agree-within : (some : List Part) → ((test : Part → Bool) → list_any test some ≡ true → list_any test parts ≡ true)
      → AgreeOn some j k → AgreeOn some to_j to_k
  agree-within [] among h = tt
  agree-within (x ∷ xs) among h = (
    agree-at x (λ test t. among test (or_left (test x) (list_any test xs) t)) h.0,
    agree-within xs (λ test t. among test (or_right (test x) (list_any test xs) t)) h.1,
  )

  agree-after : AgreeOn parts j k → AgreeOn parts to_j to_k
  agree-after h = agree-within parts (λ test t. t) h

  rest-first : RestStays parts j to_j
  rest-first =
      record {
        processes = λ p w a. moved-first _ _ _ _ _ _ (s.processes p) w a;
        rows = λ p w. moved-row_first _ _ _ _ _ _ (s.processes p) w;
        queues = λ p f. change-first _ _ _ _ _ (s.queues p) f;
        sets = λ p f. change-first _ _ _ _ _ (s.sets p) f;
        queue_keys = λ f key. change-first _ _ _ _ _ (s.queue_keys key) f;
        set_keys = λ f key. change-first _ _ _ _ _ (s.set_keys key) f;
      }

  rest-second : RestStays parts k to_k
  rest-second =
      record {
        processes = λ p w a. moved-second _ _ _ _ _ _ (s.processes p) w a;
        rows = λ p w. moved-row_second _ _ _ _ _ _ (s.processes p) w;
        queues = λ p f. change-second _ _ _ _ _ (s.queues p) f;
        sets = λ p f. change-second _ _ _ _ _ (s.sets p) f;
        queue_keys = λ f key. change-second _ _ _ _ _ (s.queue_keys key) f;
        set_keys = λ f key. change-second _ _ _ _ _ (s.set_keys key) f;
      }

-- The same step, but for the numbers used.
pub record AlikeStep (parts : List Part) (j k : Kernel) (to_j to_k : Successor) : Type 0 where
  pub outcome : to_j.outcome ≡ to_k.outcome
  pub agree : AgreeOn parts to_j.kernel to_k.kernel
  pub rest_of_first : RestStays parts j to_j.kernel
  pub rest_of_second : RestStays parts k to_k.kernel

-- no step of both kernels, or steps alike on these parts
abbrev pub AlikeSteps : List Part → Kernel → Kernel → Option Successor → Option Successor → Type 0
AlikeSteps parts j k None None = Unit {0}
AlikeSteps parts j k (Some to_j) (Some to_k) = AlikeStep parts j k to_j to_k
AlikeSteps parts j k _ _ = ⊥

-- steps that touch the same parts alike are alike
pub step-from : (parts : List Part) (o p : Outcome) (j k to_j to_k : Kernel) → o ≡ p → AgreeOn parts j k
    → Stepped parts j k to_j to_k → AlikeStep parts j k (successor to_j o) (successor to_k p)
step-from parts o p j k to_j to_k same h s =
    record {
      outcome = same;
      agree = agree-after parts j k to_j to_k s h;
      rest_of_first = rest-first parts j k to_j to_k s;
      rest_of_second = rest-second parts j k to_j to_k s;
    }

-- The marks that are parts are the same.

mark-same : (x : Part) (n : ℕ) (j k : Kernel) → is_marks n x ≡ true → SameAt j k x
    → marks_in (get j.processes n) ≡ marks_in (get k.processes n)
mark-same (MarksOf p) n j k t h =
    subst (λ (q : ℕ). marks_in (get j.processes q) ≡ marks_in (get k.processes q)) (sym (eqb-true n p t)) h
mark-same (Whole p) n j k t h = absurd (false≢true t)
mark-same (ParentOf p) n j k t h = absurd (false≢true t)
mark-same (QueueAt p) n j k t h = absurd (false≢true t)
mark-same (SetAt p) n j k t h = absurd (false≢true t)
mark-same (SizeOf p) n j k t h = absurd (false≢true t)
mark-same QueueKeys n j k t h = absurd (false≢true t)
mark-same SetKeys n j k t h = absurd (false≢true t)

-- of each process whose marks are a part
pub marks-same : (parts : List Part) (n : ℕ) (j k : Kernel) → has_marks parts n ≡ true → AgreeOn parts j k
    → marks_in (get j.processes n) ≡ marks_in (get k.processes n)
marks-same [] n j k t h = absurd (false≢true t)
marks-same (x ∷ xs) n j k t h =
    elim (or_cases (is_marks n x) (list_any (is_marks n) xs) t)
    [ inl u ↦ mark-same x n j k u h.0 | inr u ↦ marks-same xs n j k u h.1 ]

-- Effects where one table changes, or none.

-- numbers that a new thing may get are the same
pub fresh-alike : (a b : List ℕ) (n : ℕ) → is_used a n ≡ false → is_used b n ≡ false → is_fresh a n ≡ is_fresh b n
fresh-alike a b n x y = ap (λ u. is_positive_u32 n && not u) (x ∙ sym y)

module _ (parts : List Part) (j k : Kernel) where
  -- processes that change whole
  pub moved-from_changes : (a b : Numbered Process) → Changes (has_whole parts) j.processes k.processes a b
      → AllMoved parts j k a b
  moved-from_changes a b c = λ p. moved-from_change _ _ _ _ _ _ (c p)

  -- no process changes
  pub moved-none : AllMoved parts j k j.processes k.processes
  moved-none = λ p. Kept refl refl

  -- something new, where its number may be given out
  pub made-if : (b c : Bool) (e f : Effect) → b ≡ c → SameEffect parts j k e f
      → SameEffects parts j k (cond b (Some e) None) (cond c (Some f) None)
  made-if true true e f h s = s
  made-if false false e f h s = tt
  made-if true false e f h s = cc
  made-if false true e f h s = cc

  module _ (childless : Childless parts) where
    childless-here : (to_j to_k : Kernel) (p : ℕ) → has_parent parts p ≡ true → IsOrphan to_j p × IsOrphan to_k p
    childless-here to_j to_k p t = absurd (false≢true (sym (childless p) ∙ t))

    -- a call that changes nothing
    pub unchanged : (own : Option Reply)
        → SameEffect parts j k (record { kernel = j; own = own; wakes = [] })
        (record { kernel = k; own = own; wakes = [] })
    unchanged own =
        record {
          own = refl;
          wakes = refl;
          step = record {
            processes = moved-none;
            queues = changes-none (has_queue parts) j.queues k.queues;
            sets = changes-none (has_set parts) j.sets k.sets;
            queue_keys = changes-none (has_queue_keys parts) j.queue_keys k.queue_keys;
            set_keys = changes-none (has_set_keys parts) j.set_keys k.set_keys;
            parents = childless-here j k;
          };
        }

    -- a call on what a number leads to, which is the same in both
    pub named-alike : {V : Type 0} (o p : Option V) (f g : V → Effect) → o ≡ p
        → ((v : V) → o ≡ Some v → SameEffect parts j k (f v) (g v))
        → SameEffect parts j k (on_named j o f) (on_named k p g)
    named-alike o p f g h s = subst (λ q. SameEffect parts j k (on_named j o f) (on_named k q g)) h (named-by o f g s)
      where
        named-by : {V : Type 0} (o : Option V) (f g : V → Effect)
            → ((v : V) → o ≡ Some v → SameEffect parts j k (f v) (g v))
            → SameEffect parts j k (on_named j o f) (on_named k o g)
        named-by None f g s = unchanged (Some (Fail Einval))
        named-by (Some v) f g s = s v refl

    -- queues and their keys change, and those who are woken
    pub queues-changed : (ps qs : Numbered Process) (a b : Numbered (Awaited Queue)) (keys_a keys_b : Numbered ℕ)
        (used_a used_b : List ℕ) (own : Option Reply) (wakes : List Wake) → AllMoved parts j k ps qs
        → Changes (has_queue parts) j.queues k.queues a b
        → Changes (has_queue_keys parts) j.queue_keys k.queue_keys keys_a keys_b
        → SameEffect parts j k
        (record {
          kernel = record j { processes = ps; queues = a; queue_keys = keys_a; used_queues = used_a };
          own = own;
          wakes = wakes;
        })
        (record {
          kernel = record k { processes = qs; queues = b; queue_keys = keys_b; used_queues = used_b };
          own = own;
          wakes = wakes;
        })
    queues-changed ps qs a b keys_a keys_b used_a used_b own wakes m s t =
        record {
          own = refl;
          wakes = refl;
          step = record {
            processes = m;
            queues = s;
            sets = changes-none (has_set parts) j.sets k.sets;
            queue_keys = t;
            set_keys = changes-none (has_set_keys parts) j.set_keys k.set_keys;
            parents = λ p t. absurd (false≢true (sym (childless p) ∙ t));
          };
        }

    -- the same of sets
    pub sets-changed : (ps qs : Numbered Process) (a b : Numbered (Awaited SemaphoreSet)) (keys_a keys_b : Numbered ℕ)
        (used_a used_b : List ℕ) (own : Option Reply) (wakes : List Wake) → AllMoved parts j k ps qs
        → Changes (has_set parts) j.sets k.sets a b
        → Changes (has_set_keys parts) j.set_keys k.set_keys keys_a keys_b
        → SameEffect parts j k
        (record {
          kernel = record j { processes = ps; sets = a; set_keys = keys_a; used_sets = used_a };
          own = own;
          wakes = wakes;
        })
        (record {
          kernel = record k { processes = qs; sets = b; set_keys = keys_b; used_sets = used_b };
          own = own;
          wakes = wakes;
        })
    sets-changed ps qs a b keys_a keys_b used_a used_b own wakes m s t =
        record {
          own = refl;
          wakes = refl;
          step = record {
            processes = m;
            queues = changes-none (has_queue parts) j.queues k.queues;
            sets = s;
            queue_keys = changes-none (has_queue_keys parts) j.queue_keys k.queue_keys;
            set_keys = t;
            parents = λ p t. absurd (false≢true (sym (childless p) ∙ t));
          };
        }

    -- processes change whole
    pub processes-changed : (a b : Numbered Process) (used_a used_b : List ℕ) (own : Option Reply)
        → Changes (has_whole parts) j.processes k.processes a b
        → SameEffect parts j k
        (record { kernel = record j { processes = a; used_processes = used_a }; own = own; wakes = [] })
        (record { kernel = record k { processes = b; used_processes = used_b }; own = own; wakes = [] })
    processes-changed a b used_a used_b own s =
        let same = unchanged own
        in record {
          own = refl;
          wakes = refl;
          step = record {
            processes = moved-from_changes a b s;
            queues = same.step.queues;
            sets = same.step.sets;
            queue_keys = same.step.queue_keys;
            set_keys = same.step.set_keys;
            parents = λ p t. absurd (false≢true (sym (childless p) ∙ t));
          };
        }
