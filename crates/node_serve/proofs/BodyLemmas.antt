-- Bodies and their bytes.
use Rattle.std.proofs.Common.{◌≡◌, ◌∙◌, ℕ, ◌<◌, List, length, take, drop, Some, None, Result, Err, ap, arith, length-append}
use Rattle.signal_state.specs.Spelling.{signal_bytes, HasBytes as HasSignalBytes}
use Rattle.signal_state.proofs.Bodies.{signal_bytes-length}
use Rattle.pico_base.specs.declared.fault.UnpackFault.{UnpackFault}
use Rattle.pico_base.specs.declared.fault.UnpackFault.TheVariants.{Memory, NotABody}
use Rattle.body_fields.specs.Fields.{Refuses}
use Rattle.fork_wait.specs.Spelling.{family_bytes, HasBytes as HasFamilyBytes}
use Rattle.kernel_model.specs.Signals.{Signals}
use Rattle.kernel_model.specs.Row.{Family}
use Rattle.node_serve.specs.declared.body.Row.{Row}
use Rattle.node_serve.specs.Spelled.{IsRow}
use Rattle.node_serve.specs.Laws.{row-front, row-rest}

-- fewer than 55 bytes are no row's
pub row-long : (row : Row) (bytes : List ℕ) → IsRow row bytes → length bytes < 55 → ⊥
row-long row bytes is short =
    absurd (omega (
      arith,
      ap length is.spelled,
      length-append (signal_bytes row.signals) (family_bytes row.family),
      signal_bytes-length row.signals,
    ))

-- bytes are no row's where the first 55 of them are the spelling of no signals
pub no-signals : (row : Row) (bytes front : List ℕ) → front ≡ take 55 bytes
    → ((s : Signals) → HasSignalBytes s → front ≡ signal_bytes s → None ≡ Some s) → IsRow row bytes → ⊥
no-signals row bytes front cut only is = differ (only row.signals is.signals (cut ∙ row-front row bytes is))
  where
    differ : {s : Signals} → None ≡ Some s → ⊥
    differ e = cc

-- the family's reading refused, though some family has the bytes
pub no-family : (row : Row) (bytes rest : List ℕ) (fault : UnpackFault)
    → ◌≡◌ {A = Result Row UnpackFault} (Err fault) (Err NotABody)
    → rest ≡ drop 55 bytes → Refuses (λ (f : Family). (rest ≡ family_bytes f) × HasFamilyBytes f) fault
    → IsRow row bytes → ⊥
no-family row bytes rest Memory refused cut cause is = cc
no-family row bytes rest NotABody refused cut cause is = cause row.family (cut ∙ row-rest row bytes is, is.family)
