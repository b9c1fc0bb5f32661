-- The caller's marks after a call on queues.
use Rattle.std.proofs.Common.{◌≡◌, ◌∙◌, ℕ, Bool, true, false, nat_eq, [], ◌∷◌, Option, Some, None, is_some, refl, ap, sym, subst, Ordering}
use Rattle.std.specs.Prelude.{if◌then◌else◌}
use Rattle.std.specs.declared.cmp.Ordering.TheVariants.{Less, Equal, Greater}
use Rattle.std.specs.List.{AllByRecursion}
use Rattle.std.specs.Map.{keys_of}
use Rattle.std.specs.Ordering.{nat_cmp, match_ordering}
use Rattle.std.specs.Option.{option_and_then}
use Rattle.std.proofs.lemmas.Map.Keys.{sorted_head}
use Rattle.pico_base.specs.declared.call.Call.{Call}
use Rattle.pico_base.specs.declared.reply.Reply.{Reply}
use Rattle.number_maps.specs.Maps.{Numbered, get, put}
use Rattle.number_maps.specs.Rising.{IsRising}
use Rattle.number_maps.proofs.Changes.{less-none, put-put}
use Rattle.number_maps.proofs.LookUps.{get-put-same}
use Rattle.number_maps.proofs.Order.{equal-same, less-apart, greater-apart, eq-same}
use Rattle.number_maps.proofs.Rising.{rising-put, rising-rest}
use Rattle.waiting_model.specs.Marks.{Alive, after_reply, spent}
use Rattle.waiting_model.specs.Kernel.{Kernel, Process, Living, Ended, Gone, alive_in, living_at, where_living, change_living, with_alive}
use Rattle.waiting_model.specs.Transition.{allowance_after, marks_after, finish_call}
use Rattle.mq_model.specs.Transition.{after_call}

-- a change of a number that isn't there changes nothing
absent : (f : Alive → Alive) (k : ℕ) (ps : Numbered Process) → AllByRecursion (λ y. nat_cmp k y ≡ Less) (keys_of ps)
    → change_living ps k f ≡ ps
absent f k [] above = refl
absent f k (e ∷ es) above = rw (less-apart k e.0 above.0, absent f k es above.1)

changed-at : (f : Alive → Alive) (k : ℕ) (p : Process) (e : ℕ × Process) (es : Numbered Process) (o : Ordering)
    → nat_cmp k e.0 ≡ o → IsRising (e ∷ es) → get (e ∷ es) k ≡ Some p
    → (get es k ≡ Some p → change_living es k f ≡ put es k (where_living f p))
    → change_living (e ∷ es) k f
    ≡ match_ordering o ((k, where_living f p) ∷ e ∷ es) ((e.0, where_living f p) ∷ es)
    (e ∷ put es k (where_living f p))
changed-at f k p e es Less h rising there rec =
    let none : get (e ∷ es) k ≡ None = less-none k e es rising h in absurd (cc)
changed-at f k p e es Equal h rising there rec =
    let is : Some e.1 ≡ Some p = rw h at there
    in let value : e.1 ≡ p = cc
    in let same : nat_eq k e.0 ≡ true = ap (nat_eq k) (sym (equal-same k e.0 h)) ∙ eq-same k
    in let rest : change_living es k f ≡ es =
    absent f k es
    (subst (λ (n : ℕ). AllByRecursion (λ y. nat_cmp n y ≡ Less) (keys_of es)) (sym (equal-same k e.0 h))
    (sorted_head nat_cmp e.0 (keys_of es) rising))
    in rw (same, value, rest)
changed-at f k p e es Greater h rising there rec =
    let later : get es k ≡ Some p = rw h at there
    in rw (greater-apart k e.0 h, rec later)

-- in a map in order, a change of a process that is there writes it anew
pub changed-is-put : (f : Alive → Alive) (ps : Numbered Process) (k : ℕ) (p : Process) → IsRising ps
    → get ps k ≡ Some p → change_living ps k f ≡ put ps k (where_living f p)
changed-is-put f [] k p rising there = absurd (cc)
changed-is-put f (e ∷ es) k p rising there =
    changed-at f k p e es (nat_cmp k e.0) refl rising there
    (changed-is-put f es k p (rising-rest e es rising))

-- the processes behind a call that has its reply
abbrev pub with_processes : Kernel → Numbered Process → Kernel
with_processes k ps = record k { processes = ps }

living-there : (ps : Numbered Process) (pid : ℕ) (o : Option Process) (a : Alive) → get ps pid ≡ o
    → option_and_then alive_in o ≡ Some a → get ps pid ≡ Some (Living a)
living-there ps pid None a there is = absurd (cc)
living-there ps pid (Some (Living b)) a there is = let same : b ≡ a = cc in there ∙ ap (λ c. Some (Living c)) same
living-there ps pid (Some (Ended ending)) a there is = absurd (cc)
living-there ps pid (Some Gone) a there is = absurd (cc)

finished-if : (k : Kernel) → IsRising k.processes → (pid : ℕ) (a : Alive) → get k.processes pid ≡ Some (Living a)
    → (call : Call) (reply : Reply) (b : Bool) → is_some a.row.signals.doom ≡ b
    → marks_after (if b then with_alive k pid (spent a) else k) pid call (Some reply)
    ≡ with_processes k (put k.processes pid (Living (after_reply (if b then spent a else a))))
finished-if k rising pid a there call reply true doom =
    ap (with_processes k)
    (changed-is-put after_reply (put k.processes pid (Living (spent a))) pid (Living (spent a))
    (rising-put k.processes pid (Living (spent a)) rising) (get-put-same k.processes pid (Living (spent a)))
    ∙ put-put k.processes pid (Living (spent a)) (Living (after_reply (spent a))))
finished-if k rising pid a there call reply false doom =
    ap (with_processes k) (changed-is-put after_reply k.processes pid (Living a) rising there)

-- the marks behind a call that has its reply are those of POSIX message queues
pub finished : (k : Kernel) → IsRising k.processes → (pid : ℕ) (a : Alive) → living_at k pid ≡ Some a → (call : Call)
    → (reply : Reply)
    → finish_call k pid call (Some reply) ≡ with_processes k (change_living k.processes pid after_call)
finished k rising pid a lives call reply =
    let there : get k.processes pid ≡ Some (Living a) =
    living-there k.processes pid (get k.processes pid) a refl lives
    in ap (λ (o : Option Alive). marks_after (allowance_after k pid o) pid call (Some reply)) lives
    ∙ (finished-if k rising pid a there call reply (is_some a.row.signals.doom) refl
    ∙ sym (ap (with_processes k) (changed-is-put after_call k.processes pid (Living a) rising there)))
