-- From what a step leaves at each number of two kernels to the same step.
use Rattle.std.proofs.Common.{◌≡◌, ℕ, Bool, true, false, List, [], ◌∷◌, length, Option, Some, None, refl, ap, sym, ◌∙◌}
use Rattle.std.specs.List.{list_any}
use Rattle.std.specs.Option.{option_map, option_and_then, option_map_or}
use Rattle.std.proofs.lemmas.Bool.{false≢true, or_left, or_right}
use Rattle.pico_base.specs.declared.reply.Reply.{Reply}
use Rattle.number_maps.specs.Maps.{get}
use Rattle.kernel_model.specs.Row.{Allowance}
use Rattle.kernel_model.specs.SemaphoreSet.{SemaphoreSet}
use Rattle.kernel_model.specs.Kernel.{Kernel, Process, alive_in}
use Rattle.kernel_model.specs.Effect.{reply_alone}
use Rattle.kernel_model.specs.Transition.{Successor, successor}
use Rattle.kernel_model.specs.Footprint.{Part, MayDo, Whole, ParentOf, QueueAt, SetAt, SizeOf, QueueKeys, SetKeys, parent_number}
use Rattle.kernel_model.specs.FootprintLaw.{is_whole, is_allowance, bare, SameAt, AgreeOn, RestStays}
use Rattle.number_maps.proofs.Order.{eq-same}
use Rattle.footprint_laws.proofs.Change.{Change, Stays, Same, Changes, change-agree, change-first, change-second, is_parent, has_whole, has_queue, has_set, has_queue_keys, has_set_keys, has_parent}

-- the parts have what the process may still do
abbrev pub has_allowance : List Part → ℕ → Bool
has_allowance parts p = list_any (is_allowance p) parts

-- what a process that lives may still do
abbrev pub allowance_in : Option Process → Option Allowance
allowance_in o = option_map (λ a. a.allowance) (option_and_then alive_in o)

-- what a step leaves of a process: beside an effect's changes the allowance alone may be another one, and the same in
-- both
pub data Moved (whole allowed : Bool) (j k to_j to_k : Option Process) : Type 0 where
  Kept : to_j ≡ j → to_k ≡ k → Moved whole allowed j k to_j to_k
  Equal : whole ≡ true → to_j ≡ to_k → Moved whole allowed j k to_j to_k
  Doomed : whole ≡ false → allowed ≡ true → allowance_in to_j ≡ allowance_in to_k
      → option_map bare to_j ≡ option_map bare j
      → option_map bare to_k ≡ option_map bare k → Moved whole allowed j k to_j to_k

-- a change of a process, but for what it may still do
pub moved-from_change : (whole allowed : Bool) (j k to_j to_k : Option Process) → Change whole j k to_j to_k
    → Moved whole allowed j k to_j to_k
moved-from_change whole allowed j k to_j to_k (Stays x y) = Kept x y
moved-from_change whole allowed j k to_j to_k (Same h x) = Equal h x

pub record Stepped (parts : List Part) (j k to_j to_k : Kernel) : Type 0 where
  pub processes : (p : ℕ)
      → Moved (has_whole parts p) (has_allowance parts p) (get j.processes p) (get k.processes p) (get to_j.processes p)
      (get to_k.processes p)
  pub queues : Changes (has_queue parts) j.queues k.queues to_j.queues to_k.queues
  pub sets : Changes (has_set parts) j.sets k.sets to_j.sets to_k.sets
  pub queue_keys : Changes (has_queue_keys parts) j.queue_keys k.queue_keys to_j.queue_keys to_k.queue_keys
  pub set_keys : Changes (has_set_keys parts) j.set_keys k.set_keys to_j.set_keys to_k.set_keys
  pub parents : (p : ℕ) → has_parent parts p ≡ true → parent_number to_j p ≡ parent_number to_k p

-- Agreement afterwards, part by part.

moved-allowance : (w a : Bool) (j k to_j to_k : Option Process) → Moved w a j k to_j to_k
    → allowance_in j ≡ allowance_in k → allowance_in to_j ≡ allowance_in to_k
moved-allowance w a j k to_j to_k (Kept x y) h = ap allowance_in x ∙ h ∙ ap allowance_in (sym y)
moved-allowance w a j k to_j to_k (Equal t x) h = ap allowance_in x
moved-allowance w a j k to_j to_k (Doomed f t x y z) h = x

moved-whole : (w a : Bool) (j k to_j to_k : Option Process) → Moved w a j k to_j to_k → w ≡ true → j ≡ k → to_j ≡ to_k
moved-whole w a j k to_j to_k (Kept x y) t h = x ∙ h ∙ sym y
moved-whole w a j k to_j to_k (Equal s x) t h = x
moved-whole w a j k to_j to_k (Doomed f s x y z) t h = absurd (false≢true (sym f ∙ t))

abbrev size_in : Option SemaphoreSet → ℕ
size_in o = option_map_or (λ set. length set.semaphores) o 0

change-size : (t : Bool) (j k to_j to_k : Option SemaphoreSet) → Change t j k to_j to_k → size_in j ≡ size_in k
    → size_in to_j ≡ size_in to_k
change-size t j k to_j to_k (Stays x y) h = ap size_in x ∙ h ∙ ap size_in (sym y)
change-size t j k to_j to_k (Same s x) h = ap size_in x

-- each test that the part passes is passed by one of the parts
abbrev IsAmong : List Part → Part → Type 0
IsAmong parts x = (test : Part → Bool) → test x ≡ true → list_any test parts ≡ true

module _ (parts : List Part) (j k to_j to_k : Kernel) (s : Stepped parts j k to_j to_k) where
  agree-at : (x : Part) → IsAmong parts x → SameAt j k x → SameAt to_j to_k x
  agree-at (MayDo p) among h = moved-allowance _ _ _ _ _ _ (s.processes p) h
  agree-at (Whole p) among h = moved-whole _ _ _ _ _ _ (s.processes p) (among (is_whole p) (eq-same p)) h
  agree-at (ParentOf p) among h = s.parents p (among (is_parent p) (eq-same p))
  agree-at (QueueAt p) among h = change-agree _ _ _ _ _ (s.queues p) h
  agree-at (SetAt p) among h = change-agree _ _ _ _ _ (s.sets p) h
  agree-at (SizeOf p) among h = change-size _ _ _ _ _ (s.sets p) h
  agree-at QueueKeys among h = λ key. change-agree _ _ _ _ _ (s.queue_keys key) (h key)
  agree-at SetKeys among h = λ key. change-agree _ _ _ _ _ (s.set_keys key) (h key)

  agree-within : (some : List Part) → ((test : Part → Bool) → list_any test some ≡ true → list_any test parts ≡ true)
      → AgreeOn some j k → AgreeOn some to_j to_k
  agree-within [] among h = tt
  agree-within (x ∷ xs) among h = (
    agree-at x (λ test t. among test (or_left (test x) (list_any test xs) t)) h.0,
    agree-within xs (λ test t. among test (or_right (test x) (list_any test xs) t)) h.1,
  )

  pub agree-after : AgreeOn parts j k → AgreeOn parts to_j to_k
  agree-after h = agree-within parts (λ test t. t) h

-- The rest.

moved-first : (w a : Bool) (j k to_j to_k : Option Process) → Moved w a j k to_j to_k → w ≡ false → a ≡ false → to_j ≡ j
moved-first w a j k to_j to_k (Kept x y) f g = x
moved-first w a j k to_j to_k (Equal t x) f g = absurd (false≢true (sym f ∙ t))
moved-first w a j k to_j to_k (Doomed v t x y z) f g = absurd (false≢true (sym g ∙ t))

moved-second : (w a : Bool) (j k to_j to_k : Option Process) → Moved w a j k to_j to_k → w ≡ false → a ≡ false
    → to_k ≡ k
moved-second w a j k to_j to_k (Kept x y) f g = y
moved-second w a j k to_j to_k (Equal t x) f g = absurd (false≢true (sym f ∙ t))
moved-second w a j k to_j to_k (Doomed v t x y z) f g = absurd (false≢true (sym g ∙ t))

moved-row_first : (w a : Bool) (j k to_j to_k : Option Process) → Moved w a j k to_j to_k → w ≡ false
    → option_map bare to_j ≡ option_map bare j
moved-row_first w a j k to_j to_k (Kept x y) f = ap (option_map bare) x
moved-row_first w a j k to_j to_k (Equal t x) f = absurd (false≢true (sym f ∙ t))
moved-row_first w a j k to_j to_k (Doomed v t x y z) f = y

moved-row_second : (w a : Bool) (j k to_j to_k : Option Process) → Moved w a j k to_j to_k → w ≡ false
    → option_map bare to_k ≡ option_map bare k
moved-row_second w a j k to_j to_k (Kept x y) f = ap (option_map bare) y
moved-row_second w a j k to_j to_k (Equal t x) f = absurd (false≢true (sym f ∙ t))
moved-row_second w a j k to_j to_k (Doomed v t x y z) f = z

pub rest-first : (parts : List Part) (j k to_j to_k : Kernel) → Stepped parts j k to_j to_k → RestStays parts j to_j
rest-first parts j k to_j to_k s =
    record {
      processes = λ p w a. moved-first _ _ _ _ _ _ (s.processes p) w a;
      rows = λ p w. moved-row_first _ _ _ _ _ _ (s.processes p) w;
      queues = λ p f. change-first _ _ _ _ _ (s.queues p) f;
      sets = λ p f. change-first _ _ _ _ _ (s.sets p) f;
      queue_keys = λ f key. change-first _ _ _ _ _ (s.queue_keys key) f;
      set_keys = λ f key. change-first _ _ _ _ _ (s.set_keys key) f;
    }

pub rest-second : (parts : List Part) (j k to_j to_k : Kernel) → Stepped parts j k to_j to_k → RestStays parts k to_k
rest-second parts j k to_j to_k s =
    record {
      processes = λ p w a. moved-second _ _ _ _ _ _ (s.processes p) w a;
      rows = λ p w. moved-row_second _ _ _ _ _ _ (s.processes p) w;
      queues = λ p f. change-second _ _ _ _ _ (s.queues p) f;
      sets = λ p f. change-second _ _ _ _ _ (s.sets p) f;
      queue_keys = λ f key. change-second _ _ _ _ _ (s.queue_keys key) f;
      set_keys = λ f key. change-second _ _ _ _ _ (s.set_keys key) f;
    }

-- The same step, but for the numbers used.
pub record AlikeStep (parts : List Part) (j k : Kernel) (to_j to_k : Successor) : Type 0 where
  pub outcome : to_j.outcome ≡ to_k.outcome
  pub agree : AgreeOn parts to_j.kernel to_k.kernel
  pub rest_of_first : RestStays parts j to_j.kernel
  pub rest_of_second : RestStays parts k to_k.kernel

-- no step of both kernels, or steps alike on these parts
abbrev pub AlikeSteps : List Part → Kernel → Kernel → Option Successor → Option Successor → Type 0
AlikeSteps parts j k None None = Unit {0}
AlikeSteps parts j k (Some to_j) (Some to_k) = AlikeStep parts j k to_j to_k
AlikeSteps parts j k _ _ = ⊥

-- steps that touch the same parts alike are alike
pub step-from : (parts : List Part) (reply : Reply) (j k to_j to_k : Kernel) → AgreeOn parts j k
    → Stepped parts j k to_j to_k
    → AlikeStep parts j k (successor to_j (reply_alone reply)) (successor to_k (reply_alone reply))
step-from parts reply j k to_j to_k h s =
    record {
      outcome = refl;
      agree = agree-after parts j k to_j to_k s h;
      rest_of_first = rest-first parts j k to_j to_k s;
      rest_of_second = rest-second parts j k to_j to_k s;
    }
