use Rattle.std.proofs.Common.{◌≡◌, ◌∷◌, [], ◌++◌, ap, ◌∙◌}
use Rattle.script_reader.proofs.Quotes.{quoted_at_once}
use Rattle.script_reader.proofs.texts.quoted_text.Goals as goal

pub returns-then-is_all_plain : goal.returns-then-is_all_plain
returns-then-is_all_plain c =
    let plain = c.in-Some.plain.now in
    let split : c.args.bytes.now ≡ plain ++ 34 ∷ [] =
    c.in-Some.ensures.cases.0 ∙ ap (λ b. plain ++ b ∷ []) c.if-last-eq34.true in
    rw c.in_ok-from_slice.ensures
    (quoted_at_once c.args.bytes.now plain split (c.is_all_plain.ensures c.if-is_all_plain.true))
