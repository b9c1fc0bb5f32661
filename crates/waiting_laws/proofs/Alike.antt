-- An effect is that of before, and nobody waits afterwards: what all calls share.
use Rattle.std.proofs.Common.{◌≡◌, ◌∙◌, ℕ, Bool, true, false, [], Option, Some, None, refl, ap, sym}
use Rattle.std.specs.Prelude.{if◌then◌else◌}
use Rattle.pico_base.specs.declared.reply.Reply.{Reply}
use Rattle.number_maps.specs.Maps.{Numbered, put}
use Rattle.kernel_model.specs.Effect as plain
use Rattle.kernel_model.specs.Kernel as plain_kernels
use Rattle.waiting_model.specs.Marks.{Alive, plain_alive}
use Rattle.waiting_model.specs.Kernel.{Kernel, Process, Living, with_alive}
use Rattle.waiting_model.specs.Effect.{Effect, replying}
use Rattle.waiting_model.specs.Plain.{each, plain_process, plain_kernel, AllValues, IsUnparked, NobodyWaits}
use Rattle.waiting_laws.proofs.Maps.{put-each, all-put}

pub record Alike (e : Effect) (p : plain.Effect) : Type 0 where
  pub kernel : plain_kernel e.kernel ≡ p.kernel
  pub own : e.own ≡ Some p.reply
  pub wakes : e.wakes ≡ []
  pub quiet : NobodyWaits e.kernel

-- both calls have an effect, or none
abbrev pub BothAlike : Option Effect → Option plain.Effect → Type 0
BothAlike None None = Unit {0}
BothAlike (Some e) (Some p) = Alike e p
BothAlike e p = ⊥

-- where a test decides whether there is an effect at all
pub alike-test : (b : Bool) (e : Effect) (p : plain.Effect) → Alike e p
    → BothAlike (if b then Some e else None) (if b then Some p else None)
alike-test true e p h = h
alike-test false e p h = tt

-- where it decides between two effects
pub alike-choice : (b : Bool) (e f : Effect) (p q : plain.Effect) → Alike e p → Alike f q
    → Alike (if b then e else f) (if b then p else q)
alike-choice true e f p q h g = h
alike-choice false e f p q h g = g

-- the same, where each of them may be none
pub both-choice : (b : Bool) (e f : Option Effect) (p q : Option plain.Effect) → BothAlike e p → BothAlike f q
    → BothAlike (if b then e else f) (if b then p else q)
both-choice true e f p q h g = h
both-choice false e f p q h g = g

-- an effect of before, as a kernel and a reply
abbrev pub plain_effect : plain_kernels.Kernel → Reply → plain.Effect
plain_effect k reply = record { kernel = k; reply = reply }

-- a reply that leaves the kernel
pub alike-replying : (k : Kernel) → NobodyWaits k → (reply : Reply)
    → Alike (replying k reply) (plain_effect (plain_kernel k) reply)
alike-replying k quiet reply = record { kernel = refl; own = refl; wakes = refl; quiet = quiet }

-- other processes
pub quiet-processes : (k : Kernel) → NobodyWaits k → (ps : Numbered Process) → AllValues IsUnparked ps
    → NobodyWaits (record k { processes = ps })
quiet-processes k quiet ps unparked =
    record {
      processes = unparked;
      queues = quiet.queues;
      sets = quiet.sets;
      queues_rise = quiet.queues_rise;
      sets_rise = quiet.sets_rise;
    }

-- a reply beside other processes
pub alike-processes : (k : Kernel) → NobodyWaits k → (ps : Numbered Process) → AllValues IsUnparked ps
    → (qs : Numbered plain_kernels.Process) → each plain_process ps ≡ qs → (reply : Reply)
    → Alike (replying (record k { processes = ps }) reply)
    (plain_effect (record (plain_kernel k) { processes = qs }) reply)
alike-processes k quiet ps unparked qs same reply =
    record {
      kernel = ap (λ (rs : Numbered plain_kernels.Process). record (plain_kernel k) { processes = rs }) same;
      own = refl;
      wakes = refl;
      quiet = quiet-processes k quiet ps unparked;
    }

-- another row
pub alike-with_alive : (k : Kernel) → NobodyWaits k → (pid : ℕ) (a : Alive) → a.marks.parked ≡ None → (reply : Reply)
    → Alike (replying (with_alive k pid a) reply)
    (plain_effect (plain_kernels.with_alive (plain_kernel k) pid (plain_alive a)) reply)
alike-with_alive k quiet pid a unparked reply =
    alike-processes k quiet (put k.processes pid (Living a))
    (all-put IsUnparked k.processes pid (Living a) quiet.processes unparked)
    (put (each plain_process k.processes) pid (plain_kernels.Living (plain_alive a)))
    (sym (put-each plain_process k.processes pid (Living a))) reply

-- two changes of a map
pub put-twice : {A B : Type 0} (f : A → B) (m : Numbered A) (i j : ℕ) (x y : A)
    → each f (put (put m i x) j y) ≡ put (put (each f m) i (f x)) j (f y)
put-twice f m i j x y =
    sym (put-each f (put m i x) j y) ∙ ap (λ r. put r j (f y)) (sym (put-each f m i x))
