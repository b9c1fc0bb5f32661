-- What a call on the queue or the set of a number leaves in the map.
use Rattle.std.specs.Prelude.{◌≡◌, ℕ, [], map, Option, Some, None}
use Rattle.std.specs.Option.{option_map}
use Rattle.pico_base.specs.declared.call.Call.{Call}
use Rattle.pico_base.specs.declared.reply.Reply.TheVariants.{Fail}
use Rattle.pico_base.specs.declared.reply.Errno.TheVariants.{Einval}
use Rattle.number_maps.specs.Maps.{Numbered, get, put}
use Rattle.waiting_model.specs.Effect.{woken_pair}
use Rattle.waiting_model.specs.Waiters.{Awaited, Carried}
use Rattle.mono_kernel.specs.declared.done.Done.{Done}
use Rattle.mono_kernel.specs.declared.done.Done.TheVariants.{Replies}
use Rattle.mono_kernel.specs.Done.{own_of, woken_of, ParksIn}

pub record IsCarriedAt {T : Type 0} (c : Carried T) (old : Numbered (Awaited T)) (id : ℕ) (call : Call)
    (new : Numbered (Awaited T)) (done : Done) : Type 0 where
  pub entries : new ≡ put old id c.object
  pub own : c.own ≡ own_of done
  pub woken : map woken_pair c.wakes ≡ woken_of done
  pub parks : ParksIn call done

-- EINVAL where there is none of that number
abbrev pub CarriedBy : {T : Type 0} → Option (Carried T) → Numbered (Awaited T) → ℕ → Call → Numbered (Awaited T) → Done
    → Type 0
CarriedBy None old id call new done = (new ≡ old) × (done ≡ Replies (Fail Einval) [])
CarriedBy (Some c) old id call new done = IsCarriedAt c old id call new done

abbrev pub CarriesAt : {T : Type 0} → (Awaited T → Carried T) → Numbered (Awaited T) → ℕ → Call → Numbered (Awaited T)
    → Done → Type 0
CarriesAt carry old id call new done = CarriedBy (option_map carry (get old id)) old id call new done

-- the map with a change of what it has at a number
abbrev pub changed_by : {V : Type 0} → Numbered V → ℕ → Option V → Numbered V
changed_by m id None = m
changed_by m id (Some v) = put m id v

abbrev pub changed_at : {V : Type 0} → (V → V) → Numbered V → ℕ → Numbered V
changed_at f m id = changed_by m id (option_map f (get m id))
