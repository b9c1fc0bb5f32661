use Rattle.std.proofs.Common.{◌≡◌, drop, map}
use Rattle.frame_bytes.specs.Fields.{rise_from}
use Rattle.frame_bytes.specs.Frames.{have_order}
use Rattle.frame_bytes.proofs.frame_reading.have_order.Given as goal

abbrev pub invariant-loop-var : goal.invariant-loop-var
invariant-loop-var l = rise_from l.least (map (λ v. v.0) (drop l.var-index l.vars)) ≡ have_order l.vars
