-- What a call says by the way in which it stopped.
use Rattle.std.specs.Prelude.{ℕ, List, Result, Ok, Err, ⊤}
use Rattle.host_iface.specs.declared.stops.ReadStop.{ReadStop}
use Rattle.host_iface.specs.declared.stops.ReadStop.TheVariants as reads
use Rattle.host_iface.specs.declared.stops.WriteStop.{WriteStop}
use Rattle.host_iface.specs.declared.stops.WriteStop.TheVariants as writes

-- P where a read failed
abbrev pub OnReadFault : {T : Type 0} → Result T ReadStop → Type 0 → Type 0
OnReadFault (Ok value) P = ⊤
OnReadFault (Err reads.Memory) P = ⊤
OnReadFault (Err reads.Fault) P = P
OnReadFault (Err (reads.TooLong read)) P = ⊤

-- P where no read failed
abbrev pub UnlessReadFault : {T : Type 0} → Result T ReadStop → Type 0 → Type 0
UnlessReadFault (Ok value) P = P
UnlessReadFault (Err reads.Memory) P = P
UnlessReadFault (Err reads.Fault) P = ⊤
UnlessReadFault (Err (reads.TooLong read)) P = P

-- P of the bytes that were read, where there were more than the limit
abbrev pub IfTooLong : {T : Type 0} → Result T ReadStop → (List ℕ → Type 0) → Type 0
IfTooLong (Ok value) P = ⊤
IfTooLong (Err reads.Memory) P = ⊤
IfTooLong (Err reads.Fault) P = ⊤
IfTooLong (Err (reads.TooLong read)) P = P read

-- P of how many bytes were taken before a write failed
abbrev pub IfWriteFault : {T : Type 0} → Result T WriteStop → (ℕ → Type 0) → Type 0
IfWriteFault (Ok value) P = ⊤
IfWriteFault (Err (writes.Fault taken)) P = P taken
