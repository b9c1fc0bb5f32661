-- The same effect where one table of the kernel changes, or none.
use Rattle.std.proofs.Common.{◌≡◌, ℕ, Bool, true, false, not, ◌&&◌, cond, List, Option, Some, None, Result, Ok, Err, refl, ap, sym, subst, ◌∙◌}
use Rattle.std.proofs.lemmas.Bool.{false≢true}
use Rattle.pico_base.specs.declared.reply.Reply.{Reply}
use Rattle.pico_base.specs.declared.reply.Reply.TheVariants.{Num, Fail}
use Rattle.pico_base.specs.declared.reply.Errno.{Errno}
use Rattle.pico_base.specs.declared.reply.Errno.TheVariants.{Einval}
use Rattle.number_maps.specs.Maps.{Numbered, is_used}
use Rattle.kernel_model.specs.Numbers.{is_positive_u32}
use Rattle.kernel_model.specs.Queue.{Queue}
use Rattle.kernel_model.specs.SemaphoreSet.{SemaphoreSet}
use Rattle.kernel_model.specs.Kernel.{Kernel, Process}
use Rattle.kernel_model.specs.Effect.{Effect, look_up, on_named, is_fresh}
use Rattle.kernel_model.specs.Footprint.{Part}
use Rattle.footprint_laws.proofs.Change.{Changes, changes-none, has_whole, has_queue, has_set, has_queue_keys, has_set_keys, has_parent, IsOrphan, SameEffect, SameEffects}

-- no process's parent is a part
abbrev pub Childless : List Part → Type 0
Childless parts = (p : ℕ) → has_parent parts p ≡ false

-- numbers that a new thing may get are the same
pub fresh-alike : (a b : List ℕ) (n : ℕ) → is_used a n ≡ false → is_used b n ≡ false → is_fresh a n ≡ is_fresh b n
fresh-alike a b n x y = ap (λ u. is_positive_u32 n && not u) (x ∙ sym y)

module _ (parts : List Part) (j k : Kernel) where
  pub made-if : (b c : Bool) (e f : Effect) → b ≡ c → SameEffect parts j k e f
      → SameEffects parts j k (cond b (Some e) None) (cond c (Some f) None)
  made-if true true e f h s = s
  made-if false false e f h s = tt
  made-if true false e f h s = cc
  made-if false true e f h s = cc

  module _ (childless : Childless parts) where
    orphans : (e f : Effect) (p : ℕ) → has_parent parts p ≡ true → IsOrphan e.kernel p × IsOrphan f.kernel p
    orphans e f p t = absurd (false≢true (sym (childless p) ∙ t))

    pub unchanged : (r : Reply)
        → SameEffect parts j k (record { kernel = j; reply = r }) (record { kernel = k; reply = r })
    unchanged r =
        record {
          reply = refl;
          processes = changes-none (has_whole parts) j.processes k.processes;
          queues = changes-none (has_queue parts) j.queues k.queues;
          sets = changes-none (has_set parts) j.sets k.sets;
          queue_keys = changes-none (has_queue_keys parts) j.queue_keys k.queue_keys;
          set_keys = changes-none (has_set_keys parts) j.set_keys k.set_keys;
          parents = orphans (record { kernel = j; reply = r }) (record { kernel = k; reply = r });
        }

    pub looked-alike : (r : Result ℕ Errno) → SameEffect parts j k (look_up j r) (look_up k r)
    looked-alike (Ok m) = unchanged (Num m)
    looked-alike (Err e) = unchanged (Fail e)

    named-by : {V : Type 0} (o : Option V) (f g : V → Effect)
        → ((v : V) → o ≡ Some v → SameEffect parts j k (f v) (g v))
        → SameEffect parts j k (on_named j o f) (on_named k o g)
    named-by None f g s = unchanged (Fail Einval)
    named-by (Some v) f g s = s v refl

    pub named-alike : {V : Type 0} (o p : Option V) (f g : V → Effect) → o ≡ p
        → ((v : V) → SameEffect parts j k (f v) (g v)) → SameEffect parts j k (on_named j o f) (on_named k p g)
    named-alike o p f g h s =
        subst (λ q. SameEffect parts j k (on_named j o f) (on_named k q g)) h (named-by o f g (λ v e. s v))

    pub queues-changed : (a b : Numbered Queue) (keys_a keys_b : Numbered ℕ) (used_a used_b : List ℕ) (r : Reply)
        → Changes (has_queue parts) j.queues k.queues a b
        → Changes (has_queue_keys parts) j.queue_keys k.queue_keys keys_a keys_b
        → SameEffect parts j k
        (record { kernel = record j { queues = a; queue_keys = keys_a; used_queues = used_a }; reply = r })
        (record { kernel = record k { queues = b; queue_keys = keys_b; used_queues = used_b }; reply = r })
    queues-changed a b keys_a keys_b used_a used_b r s t =
        let same = unchanged r
        in record {
          reply = refl;
          processes = same.processes;
          queues = s;
          sets = same.sets;
          queue_keys = t;
          set_keys = same.set_keys;
          parents = λ p t. absurd (false≢true (sym (childless p) ∙ t));
        }

    pub sets-changed : (a b : Numbered SemaphoreSet) (keys_a keys_b : Numbered ℕ) (used_a used_b : List ℕ) (r : Reply)
        → Changes (has_set parts) j.sets k.sets a b → Changes (has_set_keys parts) j.set_keys k.set_keys keys_a keys_b
        → SameEffect parts j k
        (record { kernel = record j { sets = a; set_keys = keys_a; used_sets = used_a }; reply = r })
        (record { kernel = record k { sets = b; set_keys = keys_b; used_sets = used_b }; reply = r })
    sets-changed a b keys_a keys_b used_a used_b r s t =
        let same = unchanged r
        in record {
          reply = refl;
          processes = same.processes;
          queues = same.queues;
          sets = s;
          queue_keys = same.queue_keys;
          set_keys = t;
          parents = λ p t. absurd (false≢true (sym (childless p) ∙ t));
        }

    pub processes-changed : (a b : Numbered Process) (used_a used_b : List ℕ) (r : Reply)
        → Changes (has_whole parts) j.processes k.processes a b
        → SameEffect parts j k
        (record { kernel = record j { processes = a; used_processes = used_a }; reply = r })
        (record { kernel = record k { processes = b; used_processes = used_b }; reply = r })
    processes-changed a b used_a used_b r s =
        let same = unchanged r
        in record {
          reply = refl;
          processes = s;
          queues = same.queues;
          sets = same.sets;
          queue_keys = same.queue_keys;
          set_keys = same.set_keys;
          parents = λ p t. absurd (false≢true (sym (childless p) ∙ t));
        }
