use Rattle.std.proofs.Common.{◌∷◌, [], ◌++◌, rules}
use Rattle.std.specs.Prelude.{FitsSigned}
use Rattle.std.specs.Int.{w32}
use Rattle.std.proofs.lemmas.Int.{to_z-of_z}
use Rattle.std.proofs.lemmas.Result.{on_ok_weaker}
use Rattle.frame_bytes.specs.Fields.{flag_byte, signed, text, word}
use Rattle.frame_bytes.proofs.Appending.{three-pieces}
use Rattle.frame_bytes.proofs.writing.put_send.Goals as goal

pub returns-clause-bytes : goal.returns-clause-bytes
returns-clause-bytes c =
    let fits : FitsSigned w32 c.args.class = search rules in
    let typed = simp to_z-of_z at c.in_ok-put_typed.ensures.bytes in
    on_ok_weaker c.put_flag.result
    (λ e. three-pieces c.args.out.now.items _ _ _ (3 ∷ (word c.args.id ++ signed c.args.class)) (text c.args.bytes.now)
    (flag_byte c.args.nowait ∷ [])
    typed c.in_ok-put_text.ensures e)
    c.put_flag.ensures
