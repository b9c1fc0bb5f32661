-- What the text of a history tells of an entry, and what the totals count of it.
use Rattle.std.specs.Prelude.{List, [], ◌∷◌, Option, Some, None}
use Rattle.std.specs.Option.{option_and_then}
use Rattle.pico_base.specs.declared.call.Call.{Call}
use Rattle.pico_base.specs.declared.call.Call.TheVariants.{SigPending}
use Rattle.pico_base.specs.declared.reply.Reply.TheVariants.{Fail}
use Rattle.pico_base.specs.declared.reply.Entry.{Entry}
use Rattle.pico_base.specs.declared.script.Script.{Script}
use Rattle.number_maps.specs.Maps.{get}
use Rattle.kernel_model.specs.Effect.{reply_alone}
use Rattle.waiting_model.specs.Fitting.{Places, Progress, opening_places}
use Rattle.mq_model.specs.Calls.{MqEntry}
use Rattle.mq_model.specs.Fitting.{written_error}
use Rattle.mq_model.specs.Shown.{due_in, places_behind, stands_for}
use Rattle.mq_model.specs.SystemV.{refusal_of, shown_plainly, shown_refused}
use Rattle.posix_mq.specs.declared.text.Refusal.{Refusal}

-- a given call that its arguments refuse
abbrev pub refused_as : Option Call → Option Refusal
refused_as None = None
refused_as (Some call) = option_and_then (λ why. Some (record { call = call; why = why })) (refusal_of call)

abbrev pub refusal_at : Entry → Option Progress → Option Refusal
refusal_at e progress = refused_as (stands_for e.call (due_in progress))

abbrev pub told_of : Entry → Option Refusal → MqEntry
told_of e None = shown_plainly e
told_of e (Some refusal) = shown_refused e refusal.call refusal.why

-- an entry that counts as much
abbrev pub counted_of : Entry → Option Refusal → Entry
counted_of e None = e
counted_of e (Some refusal) =
    record {
      pid = e.pid;
      call = SigPending;
      outcome = reply_alone (Fail (written_error refusal.why));
      by = e.by;
    }

abbrev pub counted_from : Script → Places → List Entry → List Entry
counted_from given places [] = []
counted_from given places (e ∷ es) =
    let progress : Option Progress = get places e.pid
    in counted_of e (refusal_at e progress) ∷ counted_from given (places_behind given places e progress) es

abbrev pub counted : Script → List Entry → List Entry
counted given journal = counted_from given (opening_places given) journal
