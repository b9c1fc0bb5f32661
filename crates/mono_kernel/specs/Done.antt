-- What a call comes to that is carried out: the caller waits, or has its reply, and others are woken.
use Rattle.std.specs.Prelude.{◌≡◌, ℕ, List, [], map, Option, Some, None, Result, Ok, Err}
use Rattle.pico_base.specs.declared.call.Call.{Call}
use Rattle.pico_base.specs.declared.reply.Reply.{Reply}
use Rattle.waiting_model.specs.Effect.{woken_pair}
use Rattle.waiting_model.specs.Waiters.{Awaited, Carried}
use Rattle.mono_kernel.specs.declared.fault.CallFault.{CallFault}
use Rattle.mono_kernel.specs.declared.done.Done.{Done}
use Rattle.mono_kernel.specs.declared.done.Done.TheVariants.{Parks, Replies}

-- the caller's reply, none where it waits
abbrev pub own_of : Done → Option Reply
own_of (Parks call) = None
own_of (Replies reply woken) = Some reply

-- those who are woken, each with its reply
abbrev pub woken_of : Done → List (ℕ × Reply)
woken_of (Parks call) = []
woken_of (Replies reply woken) = woken

-- a caller that waits does so in this call
abbrev pub ParksIn : Call → Done → Type 0
ParksIn call (Parks other) = other ≡ call
ParksIn call (Replies reply woken) = Unit {0}

-- a call that replies at once and wakes nobody
abbrev pub done_of : Result Reply CallFault → Result Done CallFault
done_of (Ok reply) = Ok (Replies reply [])
done_of (Err fault) = Err fault

-- what carrying out a call on a queue or a set leaves there, and what it comes to
pub record IsCarried {T : Type 0} (c : Carried T) (call : Call) (new : Awaited T) (done : Done) : Type 0 where
  pub object : c.object ≡ new
  pub own : c.own ≡ own_of done
  pub woken : map woken_pair c.wakes ≡ woken_of done
  pub parks : ParksIn call done
