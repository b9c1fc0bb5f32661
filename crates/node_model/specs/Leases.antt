-- The numbers that a node may still give to what it makes: for each kind the rest of its last range, in rising order.
use Rattle.std.specs.Prelude.{ℕ, Bool, true, false, nat_eq, List, [], ◌∷◌, None}
use Rattle.std.specs.List.{list_any, range_with_len}
use Rattle.pico_base.specs.declared.call.Call.{Call}
use Rattle.pico_base.specs.declared.call.Call.TheVariants as calls
use Rattle.pico_base.specs.declared.numbers.Kind.{Kind}
use Rattle.pico_base.specs.declared.numbers.Kind.TheVariants.{Proc, Msg, Sem}
use Rattle.pico_base.specs.declared.numbers.Name.{Name}
use Rattle.node_model.specs.Kinds.{PerKind, kind_of, number_of, for_kind, with_kind, for_all_kinds}
use Rattle.node_model.specs.Directory.{range_size}

abbrev pub Leases : Type 0
Leases = PerKind (List ℕ)

-- node 1 has the rest of the first range of process numbers, and all else is used up
abbrev pub leader_leases : Leases
leader_leases = record { processes = range_with_len 2 7; queues = []; sets = [] }

abbrev pub no_leases : Leases
no_leases = for_all_kinds []

abbrev pub is_used_up : List ℕ → Bool
is_used_up [] = true
is_used_up (number ∷ numbers) = false

abbrev pub lease_of : ℕ → List ℕ
lease_of first = range_with_len first range_size

abbrev pub refill : Leases → Kind → ℕ → Leases
refill leases kind first = with_kind leases kind (lease_of first)

-- the number is still to be taken
abbrev pub leases_hold : Leases → Name → Bool
leases_hold leases name = list_any (nat_eq (number_of name)) (for_kind leases (kind_of name))

-- a call of one's own that takes a number of the kind
abbrev pub takes_number : Kind → Call → Bool
takes_number Proc (calls.Fork block) = true
takes_number Msg (calls.MsgGet None create excl) = true
takes_number Sem (calls.SemGet None count create excl) = true
takes_number kind call = false
