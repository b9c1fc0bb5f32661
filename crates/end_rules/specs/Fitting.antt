-- A parcel that fits, and the numbered bodies in it.
use Rattle.std.specs.Prelude.{ℕ, Bool, true, nat_lt, Option, Some, None, is_some}
use Rattle.rpc_frame.specs.declared.deed.Parcel.{Parcel}
use Rattle.node_model.specs.Bodies as model
use Rattle.node_model.specs.Parcels.{fitting_bodies}
use Rattle.node_serve.specs.declared.body.Body.{Body}
use Rattle.node_serve.specs.Bodies.{body_of}

-- a number, with the body as the definitions have it
abbrev pub numbered : ℕ × Body → ℕ × model.Body
numbered e = (e.0, body_of e.1)

-- the parcel fits a node with these deeds
abbrev pub fits_deeds : model.Deeds → Parcel → Bool
fits_deeds deeds parcel = is_some (fitting_bodies deeds parcel)

-- the number may stand behind the last one
abbrev pub is_above : Option ℕ → ℕ → Bool
is_above None number = true
is_above (Some last) number = nat_lt last number
