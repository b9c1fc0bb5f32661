-- A signal that doesn't strike a process dooms it not; and a call on another name than a process leaves that as it is.
use Rattle.std.proofs.Common.{◌≡◌, ℕ, Bool, true, false, not, ◌&&◌, ◌||◌, if◌then◌else◌, Option, Some, None, is_some, refl, ap, sym, ◌∙◌}
use Rattle.std.specs.Option.{option_and_then, option_map_or}
use Rattle.std.proofs.lemmas.Bool.{false≢true}
use Rattle.pico_base.specs.declared.call.Call.{Call}
use Rattle.pico_base.specs.declared.call.Call.TheVariants as calls
use Rattle.pico_base.specs.declared.numbers.Name.TheVariants.{Proc}
use Rattle.pico_base.specs.declared.signal.Sig.{Sig}
use Rattle.pico_base.specs.declared.signal.SigArg.TheVariants.{Zero, Is, Bad}
use Rattle.pico_base.specs.Signal.{at, put_at}
use Rattle.number_maps.specs.Maps.{get}
use Rattle.kernel_model.specs.Row.{Row}
use Rattle.kernel_model.specs.Signals.{Signals, arrive, discards, doom_by, is_kill, raise}
use Rattle.waiting_model.specs.declared.callers.Waiting.{Waiting}
use Rattle.waiting_model.specs.Kernel.{Kernel, Process, alive_in, living_at}
use Rattle.waiting_model.specs.Kernel as kernel
use Rattle.waiting_model.specs.Marks.{strikes}
use Rattle.node_model.specs.Awaiting.{on_own, on_whole}
use Rattle.node_model.specs.Bodies.{AQueue, ASet, Body, Ended, Gone, Living, Removed, bare, row_of, whole_in, whole_process}
use Rattle.node_model.specs.Carrying.{is_own}
use Rattle.node_model.specs.Serving.{signal_strikes}
use Rattle.world_laws.specs.Cancels.{is_doomed}

-- ---- signals

raised-by : (s : Signals) (g : Sig) (d k c m : Bool) → (not d && (k || (not c && not m))) ≡ false
    → (let t : Signals = (if d then s else if k then doom_by s g else if c then s
    else if m then record s { pending = put_at s.pending g true } else arrive s g) in t.doom)
    ≡ s.doom
raised-by s g true k c m h = refl
raised-by s g false true c m h = absurd (false≢true (sym h))
raised-by s g false false true m h = refl
raised-by s g false false false true h = refl
raised-by s g false false false false h = absurd (false≢true (sym h))

-- one that doesn't strike
raised : (s : Signals) (g : Sig) → strikes s g ≡ false → (let t : Signals = raise s g in t.doom) ≡ s.doom
raised s g h = raised-by s g (is_some s.doom) (is_kill g) (discards (at s.actions g) g) (at s.mask g) h

row-kept : (row : Row) (pid : ℕ) (call : Call) → is_own pid call ≡ false → signal_strikes row call ≡ false
    → (let r : Row = (on_own row pid call).left in r.signals.doom) ≡ row.signals.doom
row-kept row pid (calls.WaitPid child nohang) other h = absurd (false≢true (sym other))
row-kept row pid (calls.SigAction sig action) other h = absurd (false≢true (sym other))
row-kept row pid (calls.SigProcMask how set) other h = absurd (false≢true (sym other))
row-kept row pid (calls.Kill target Zero) other h = refl
row-kept row pid (calls.Kill target Bad) other h = refl
row-kept row pid (calls.Kill target (Is g)) other h = raised row.signals g h
row-kept row pid call other h = refl

-- ---- bodies

-- a process with this body lives, and is doomed
abbrev pub doomed_body : Body → Bool
doomed_body (Living row) = is_some row.signals.doom
doomed_body body = false

-- the call strikes the process with this body
abbrev pub strikes_body : Body → Call → Bool
strikes_body (Living row) call = signal_strikes row call
strikes_body body call = false

-- by the row under a name, if there is one, the call strikes as it does by the body there
pub strikes-row : (o : Option Body) (body : Body) (call : Call) → o ≡ Some body
    → option_map_or (λ row. signal_strikes row call) (row_of o) false ≡ strikes_body body call
strikes-row o (Living row) call is = ap (λ z. option_map_or (λ r. signal_strikes r call) (row_of z) false) is
strikes-row o (Ended ending) call is = ap (λ z. option_map_or (λ r. signal_strikes r call) (row_of z) false) is
strikes-row o Gone call is = ap (λ z. option_map_or (λ r. signal_strikes r call) (row_of z) false) is
strikes-row o (AQueue q) call is = ap (λ z. option_map_or (λ r. signal_strikes r call) (row_of z) false) is
strikes-row o (ASet s) call is = ap (λ z. option_map_or (λ r. signal_strikes r call) (row_of z) false) is
strikes-row o Removed call is = ap (λ z. option_map_or (λ r. signal_strikes r call) (row_of z) false) is

-- who waits there is no matter for that
pub bare-doomed : (body : Body) → doomed_body (bare body) ≡ doomed_body body
bare-doomed (Living row) = refl
bare-doomed (Ended ending) = refl
bare-doomed Gone = refl
bare-doomed (AQueue q) = refl
bare-doomed (ASet s) = refl
bare-doomed Removed = refl

-- A call that doesn't strike it leaves it undoomed.
pub doom-kept : (q : ℕ) (body : Body) (who : Waiting) → is_own who.pid who.call ≡ false
    → strikes_body body who.call ≡ false → doomed_body (on_whole (Proc q) body who).left ≡ true
    → doomed_body body ≡ true
doom-kept q (Living row) who other h doomed =
    ap is_some (sym (row-kept row who.pid who.call other h)) ∙ doomed
doom-kept q (Ended ending) who other h doomed = doomed
doom-kept q Gone who other h doomed = doomed
doom-kept q (AQueue x) who other h doomed = doomed
doom-kept q (ASet x) who other h doomed = doomed
doom-kept q Removed who other h doomed = doomed

doomed-by : (o : Option Process) → is_doomed (option_and_then alive_in o) ≡ doomed_body (whole_process o)
doomed-by None = refl
doomed-by (Some (kernel.Living a)) = refl
doomed-by (Some (kernel.Ended ending)) = refl
doomed-by (Some kernel.Gone) = refl

-- a process is doomed where its body is
pub doomed-is : (k : Kernel) (q : ℕ) → is_doomed (living_at k q) ≡ doomed_body (whole_in k (Proc q))
doomed-is k q = doomed-by (get k.processes q)
