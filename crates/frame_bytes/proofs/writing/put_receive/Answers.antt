use Rattle.std.proofs.Common.{◌∷◌, [], ◌++◌, rules}
use Rattle.std.specs.Prelude.{FitsSigned}
use Rattle.std.specs.Int.{w32}
use Rattle.std.proofs.lemmas.Int.{to_z-of_z}
use Rattle.std.proofs.lemmas.Result.{on_ok_weaker}
use Rattle.frame_bytes.specs.Fields.{flag_byte, signed, word}
use Rattle.frame_bytes.proofs.Appending.{three-pieces}
use Rattle.frame_bytes.proofs.writing.put_receive.Goals as goal

pub returns-clause-bytes : goal.returns-clause-bytes
returns-clause-bytes c =
    let fits : FitsSigned w32 c.args.class = search rules in
    let typed = simp to_z-of_z at c.in_ok-put_typed.ensures.bytes in
    on_ok_weaker c.put_flags.result
    (λ e. three-pieces c.args.out.now.items _ _ _ (4 ∷ (word c.args.id ++ signed c.args.class)) (word c.args.size)
    (flag_byte c.args.noerror ∷ flag_byte c.args.nowait ∷ [])
    typed c.in_ok-put_word.ensures.bytes e)
    c.put_flags.ensures
