use Rattle.std.proofs.Common.{◌≡◌, ℕ, ◌-◌, List, drop, get_or, length, take, [], ◌∷◌, subst, rules, arith}
use Rattle.body_fields.proofs.Fields.{IsBytes}
use Rattle.sysv_sem.specs.Body.{set_code}
use Rattle.sysv_sem.specs.Passing.{HasRow}
use Rattle.sysv_sem.proofs.Passing.{behind-first, one-byte, unawaited-there}
use Rattle.sysv_sem.proofs.set.SemSet.is_unawaited.Goals as goal

pub returns-in-Some-eq0 : goal.returns-in-Some-eq0
returns-in-Some-eq0 c =
    let bytes = c.args.bytes.now in
    let rest = c.in-Some-eq0.field-0.now in
    let fits : IsBytes c.args.bytes.now = λ i. omega (arith, c.type_inv.bytes i) in
    let first : get_or c.args.bytes.now 0 0 ≡ set_code = search rules in
    let zero : get_or c.in-Some-eq0.field-0.now 0 0 ≡ 0 = search rules in
    let fields : List ℕ = take (length bytes - 1) (drop 1 bytes) in
    let nobody : rest ≡ 0 ∷ [] = one-byte rest 0 c.in-Some-eq0.len_at_least c.in-Some-eq0.len_below zero in
    let row : HasRow fields (0 ∷ []) = subst (λ (r : List ℕ). HasRow fields r) nobody c.in-Some-eq0.ensures in
    unawaited-there bytes fields fits (behind-first bytes set_code c.in-5.len_at_least first) row
