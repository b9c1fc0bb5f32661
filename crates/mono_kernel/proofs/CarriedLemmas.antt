-- What a call left through a map's entry is what the map has then.
use Rattle.std.proofs.Common.{◌≡◌, ◌∙◌, ℕ, Some, sym, ap}
use Rattle.std.specs.Ordering.{nat_cmp}
use Rattle.std.specs.Map.{set_value}
use Rattle.std.specs.BTreeMap.{is_at}
use Rattle.pico_base.specs.declared.call.Call.{Call}
use Rattle.number_maps.specs.Maps.{Numbered, get, put}
use Rattle.number_maps.specs.Rising.{IsRising}
use Rattle.number_maps.proofs.Changes.{set_value-put}
use Rattle.waiting_model.specs.Waiters.{Awaited, Carried}
use Rattle.mono_kernel.specs.declared.done.Done.{Done}
use Rattle.mono_kernel.specs.At.{CarriesAt, changed_at}
use Rattle.mono_kernel.specs.Done.{IsCarried}

-- a call that was carried out there
pub carried-lands : {T : Type 0} (carry : Awaited T → Carried T) (m es : Numbered (Awaited T)) (id : ℕ)
    (v w : Awaited T) (call : Call) (done : Done)
    → IsRising m → get m id ≡ Some v → IsCarried (carry v) call w done → es ≡ set_value (is_at (nat_cmp id)) m w
    → CarriesAt carry m id call es done
carried-lands carry m es id v w call done rising there c written =
    rw there
    (record {
      entries = written ∙ set_value-put m id w v rising there ∙ ap (put m id) (sym c.object);
      own = c.own;
      woken = c.woken;
      parks = c.parks;
    })

-- a change there
pub changed-lands : {V : Type 0} (f : V → V) (m es : Numbered V) (id : ℕ) (v w : V) → IsRising m → get m id ≡ Some v
    → w ≡ f v → es ≡ set_value (is_at (nat_cmp id)) m w
    → es ≡ changed_at f m id
changed-lands f m es id v w rising there is written =
    rw there (written ∙ set_value-put m id w v rising there ∙ ap (put m id) is)
