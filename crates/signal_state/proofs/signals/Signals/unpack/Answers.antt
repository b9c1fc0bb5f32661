use Rattle.std.proofs.Common.{◌≡◌, Some, sym, ap, ◌∙◌, List, ℕ, length}
use Rattle.std.proofs.lemmas.Bool.{false≢true}
use Rattle.std.proofs.lemmas.Bool.Decides.{Decides-eqb}
use Rattle.std.proofs.lemmas.Slice.Eq.{slice_eq-Decides}
use Rattle.kernel_model.specs.Signals.{Signals}
use Rattle.signal_state.specs.Reading.{actions_from, set_at}
use Rattle.signal_state.specs.Spelling.{signal_bytes}
use Rattle.signal_state.proofs.Bodies.{actions-again, fields-again, held-parts, mask-again, pending-again, signal_bytes-length}
use Rattle.signal_state.proofs.signals.Signals.unpack.Goals as goal

pub returns-then-not-is_held-clause-only : goal.returns-then-not-is_held-clause-only
returns-then-not-is_held-clause-only c s has spelled =
    let actions : c.actions_of-actions.result ≡ s.actions =
    c.actions_of-actions.ensures ∙ ap actions_from spelled ∙ actions-again s in
    let mask : c.set_of_bytes-mask.result ≡ s.mask =
    c.set_of_bytes-mask.ensures ∙ ap (λ (b : List ℕ). set_at b 10) spelled ∙ mask-again s in
    let pending : c.set_of_bytes-pending.result ≡ s.pending =
    c.set_of_bytes-pending.ensures ∙ ap (λ (b : List ℕ). set_at b 12) spelled ∙ pending-again s in
    absurd (false≢true (sym c.if-not-is_held.true
    ∙ c.is_held.ensures.1 (rw (actions, mask, pending) (held-parts s has.held))))

pub returns-then-eq-clause-found : goal.returns-then-eq-clause-found
returns-then-eq-clause-found c = (
  sym ((slice_eq-Decides Decides-eqb _ _ _ c.eq.ensures).0 c.if-eq.true) ∙ c.as_slice.ensures ∙ c.pack.ensures.bytes,
  c.pack.ensures.state,
)

pub returns-then-eq-clause-only : goal.returns-then-eq-clause-only
returns-then-eq-clause-only c s has spelled =
    ap (λ (x : Signals). Some x)
    (fields-again c.args.bytes.now s c.actions_of-actions.result c.set_of_bytes-mask.result
    c.set_of_bytes-pending.result c.counts_of.result c.from_number.result has spelled
    c.actions_of-actions.ensures c.set_of_bytes-mask.ensures c.set_of_bytes-pending.ensures c.counts_of.ensures
    c.from_number.ensures)

pub returns-else-eq-clause-only : goal.returns-else-eq-clause-only
returns-else-eq-clause-only c s has spelled =
    let state =
    fields-again c.args.bytes.now s c.actions_of-actions.result c.set_of_bytes-mask.result c.set_of_bytes-pending.result
    c.counts_of.result c.from_number.result has spelled
    c.actions_of-actions.ensures c.set_of_bytes-mask.ensures c.set_of_bytes-pending.ensures c.counts_of.ensures
    c.from_number.ensures
    in
    let same : c.as_slice.result.now ≡ c.args.bytes.now =
    c.as_slice.ensures ∙ c.pack.ensures.bytes ∙ ap signal_bytes state ∙ sym spelled in
    absurd (false≢true (sym c.if-eq.false ∙ (slice_eq-Decides Decides-eqb _ _ _ c.eq.ensures).1 same))

pub returns-then-bytes-ne-PACKED-clause-only : goal.returns-then-bytes-ne-PACKED-clause-only
returns-then-bytes-ne-PACKED-clause-only c s has spelled =
    absurd (c.if-bytes-ne-PACKED.true (ap length spelled ∙ signal_bytes-length s))
