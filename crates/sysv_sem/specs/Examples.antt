-- Who asks, and of whom it is noted that an operation takes from its semaphore; computed by the checker.
use Rattle.std.specs.Prelude.{◌≡◌, pos, negsuc, true, false, [], ◌∷◌, refl}
use Rattle.pico_base.specs.declared.call.Call.{Call}
use Rattle.pico_base.specs.declared.call.Call.TheVariants.{SemOp, SemGetVal}
use Rattle.pico_base.specs.declared.reply.Reply.TheVariants.{Num}
use Rattle.waiting_model.specs.declared.callers.Waiting.{Waiting}
use Rattle.waiting_model.specs.declared.callers.Wake.{Wake}
use Rattle.sysv_sem.specs.Asking.{asking, NotesTakers}
use Rattle.sysv_sem.specs.Waiters.{takers, takes_away}

-- it takes one from semaphore 0, and it waits for 0 there
abbrev pub takes : Call
takes = SemOp 1 (record { num = 0; add = negsuc 0; nowait = false } ∷ [])

abbrev pub waits_for_zero : Call
waits_for_zero = SemOp 1 (record { num = 0; add = pos 0; nowait = false } ∷ [])

which_take : (takes_away takes ≡ true) × (takes_away waits_for_zero ≡ false) × (takes_away (SemGetVal 1 0) ≡ false)
which_take = (refl, refl, refl)

-- who asks waits with its call
abbrev pub second : Waiting
second = asking (record { caller = 2; ticket = 7; pid = 5 }) takes

abbrev pub third : Waiting
third = asking (record { caller = 3; ticket = 1; pid = 6 }) waits_for_zero

waits_with_its_call : (second.caller ≡ 2) × (second.ticket ≡ 7) × (second.pid ≡ 5) × (second.call ≡ takes)
waits_with_its_call = (refl, refl, refl, refl)

taking : takers (second ∷ third ∷ []) ≡ 5 ∷ []
taking = refl

-- where somebody is woken those who take are noted, and where nobody is any may be
abbrev pub woken : Wake
woken = record { caller = 3; ticket = 1; pid = 6; reply = Num 0 }

noted : NotesTakers (woken ∷ []) (5 ∷ []) (takers (second ∷ third ∷ []))
noted = refl

nobody_woken : NotesTakers [] [] (takers (second ∷ third ∷ []))
nobody_woken = tt
