-- Which of those who wait read once they go on.
use Rattle.std.proofs.Common.{◌≡◌, ◌∙◌, ℕ, Bool, true, false, ◌&&◌, ◌||◌, nat_eq, List, [], ◌∷◌, map, refl, sym, ap, subst}
use Rattle.std.specs.Prelude.{if◌then◌else◌}
use Rattle.std.specs.List.{AllByRecursion, flat_map, list_any}
use Rattle.std.proofs.lemmas.List.Concat.{flat_map-cons}
use Rattle.std.proofs.lemmas.List.Folds.{list_any-append}
use Rattle.pico_base.specs.declared.call.Call.{Call}
use Rattle.pico_base.specs.declared.call.Call.TheVariants as calls
use Rattle.pico_base.specs.declared.reply.Errno.{Errno}
use Rattle.pico_base.specs.declared.reply.Errno.TheVariants.{Eidrm}
use Rattle.pico_base.specs.declared.reply.Reply.{Reply}
use Rattle.pico_base.specs.declared.reply.Reply.TheVariants as replies
use Rattle.kernel_model.specs.SemaphoreSet.{SemaphoreSet}
use Rattle.waiting_model.specs.Waiters.{Awaited, wake, wakes_at_removal}
use Rattle.waiting_model.specs.declared.callers.Waiting.{Waiting}
use Rattle.waiting_model.specs.declared.callers.Wake.{Wake}
use Rattle.sysv_sem.specs.Asking.{NotesTakers}
use Rattle.sysv_sem.specs.Waiters.{IsAtRest, IsSetWaiter, IsShortOp, takers, takes_away}
use Rattle.node_model.specs.Serving.{has_read, woken_reads}
use Rattle.node_serve.specs.Serving.{gives_message, gives_number}

abbrev is_among : List ℕ → ℕ → Bool
is_among pids pid = list_any (λ other. nat_eq other pid) pids

and-true : (b : Bool) → (b && true) ≡ b
and-true true = refl
and-true false = refl

and-false : (b : Bool) → (b && false) ≡ false
and-false true = refl
and-false false = refl

or-false : (b : Bool) → (b || false) ≡ b
or-false true = refl
or-false false = refl

-- one more, who reads or doesn't
one-more : (here reads gives rest : Bool)
    → ((here && (reads && gives)) || (rest && gives)) ≡ (((here && reads) || rest) && gives)
one-more true true true rest = refl
one-more true true false rest = and-false rest
one-more true false gives rest = refl
one-more false reads gives rest = refl

-- where a waiting call reads by its kind and its reply, those of the kind say who reads
module _ (May : Waiting → Type 0) (reads : Call → Bool) (gives : Reply → Bool)
    (by-kind : (v : Waiting) (reply : Reply) → May v → has_read v.call reply ≡ (reads v.call && gives reply)) where
  abbrev reader : Waiting → List ℕ
  reader v = if reads v.call then v.pid ∷ [] else []

  reader-is : (v : Waiting) (pid : ℕ) → is_among (reader v) pid ≡ (nat_eq v.pid pid && reads v.call)
  reader-is v pid = by (reads v.call)
    where
      by : (b : Bool) → is_among (if b then v.pid ∷ [] else []) pid ≡ (nat_eq v.pid pid && b)
      by true = or-false (nat_eq v.pid pid) ∙ sym (and-true (nat_eq v.pid pid))
      by false = sym (and-false (nat_eq v.pid pid))

  readers-say : (vs : List Waiting) (w : Wake) → AllByRecursion May vs
      → (is_among (flat_map reader vs) w.pid && gives w.reply) ≡ woken_reads vs w
  readers-say [] w each = refl
  readers-say (v ∷ vs) w each =
      let rest : Bool = is_among (flat_map reader vs) w.pid
      in ap (λ (pids : List ℕ). is_among pids w.pid && gives w.reply) (flat_map-cons reader v vs)
      ∙ ap (λ (b : Bool). b && gives w.reply)
      (list_any-append (λ (other : ℕ). nat_eq other w.pid) (reader v) (flat_map reader vs)
      ∙ ap (λ (b : Bool). b || rest) (reader-is v w.pid))
      ∙ sym (one-more (nat_eq v.pid w.pid) (reads v.call) (gives w.reply) rest)
      ∙ ap (λ (b : Bool). (nat_eq v.pid w.pid && (reads v.call && gives w.reply)) || b) (readers-say vs w each.1)
      ∙ ap (λ (b : Bool). (nat_eq v.pid w.pid && b) || woken_reads vs w) (sym (by-kind v w.reply each.0))

-- ---- operations on semaphores

op-reads : (call : Call) (reply : Reply) → IsShortOp call
    → has_read call reply ≡ (takes_away call && gives_number reply)
op-reads (calls.SemOp id steps) (replies.Num n) short = sym (and-true (takes_away (calls.SemOp id steps)))
op-reads (calls.SemOp id steps) reply short = sym (and-false (takes_away (calls.SemOp id steps)))
op-reads call reply short = absurd short

-- a set's takers say who reads there
say-takers : (s : Awaited SemaphoreSet) (pids : List ℕ) → IsAtRest s → pids ≡ takers s.waiters
    → (w : Wake) → (is_among pids w.pid && gives_number w.reply) ≡ woken_reads s.waiters w
say-takers s pids rest is w =
    ap (λ (ps : List ℕ). is_among ps w.pid && gives_number w.reply) is
    ∙ readers-say IsSetWaiter takes_away gives_number (λ v reply waits. op-reads v.call reply waits.call) s.waiters w
    rest.waiters.each

all-wakes : (P : Wake → Type 0) → ((w : Wake) → P w) → (ws : List Wake) → AllByRecursion P ws
all-wakes P each [] = tt
all-wakes P each (w ∷ ws) = (each w, all-wakes P each ws)

-- where somebody is woken the takers are noted
pub takers-say : (s : Awaited SemaphoreSet) (pids : List ℕ) (wakes : List Wake) → IsAtRest s
    → NotesTakers wakes pids (takers s.waiters)
    → AllByRecursion (λ w. (is_among pids w.pid && gives_number w.reply) ≡ woken_reads s.waiters w) wakes
takers-say s pids [] rest notes = tt
takers-say s pids (v ∷ vs) rest notes =
    all-wakes (λ w. (is_among pids w.pid && gives_number w.reply) ≡ woken_reads s.waiters w)
    (say-takers s pids rest notes) (v ∷ vs)

-- ---- a removal

-- who is refused has read nothing
refused-reads : (call : Call) (e : Errno) → has_read call (replies.Fail e) ≡ false
refused-reads (calls.MsgRcv id class size noerror nowait) e = refl
refused-reads (calls.SemOp id steps) e = refl
refused-reads call e = refl

nobody-reads : (vs : List Waiting) (pid : ℕ) (e : Errno)
    → list_any (λ v. nat_eq v.pid pid && has_read v.call (replies.Fail e)) vs ≡ false
nobody-reads [] pid e = refl
nobody-reads (v ∷ vs) pid e =
    rw (refused-reads v.call e, and-false (nat_eq v.pid pid), nobody-reads vs pid e) refl

removal-says : (all vs : List Waiting)
    → AllByRecursion (λ w. gives_message w.reply ≡ woken_reads all w) (map (λ v. wake v (replies.Fail Eidrm)) vs)
removal-says all [] = tt
removal-says all (v ∷ vs) = (sym (nobody-reads all v.pid Eidrm), removal-says all vs)

-- nobody reads who is woken by a removal
pub removed-say : {T : Type 0} (object : Awaited T) (wakes : List Wake) → wakes ≡ wakes_at_removal object
    → AllByRecursion (λ w. gives_message w.reply ≡ woken_reads object.waiters w) wakes
removed-say object wakes is =
    subst (AllByRecursion (λ w. gives_message w.reply ≡ woken_reads object.waiters w)) (sym is)
    (removal-says object.waiters object.waiters)
