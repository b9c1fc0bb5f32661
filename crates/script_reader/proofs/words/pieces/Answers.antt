use Rattle.std.proofs.Common.{sym, ap, ◌∙◌, ◌++◌}
use Rattle.script_reader.specs.Words.{texts, pieces}
use Rattle.script_reader.proofs.Cuts.{next_piece, no_more_pieces}
use Rattle.script_reader.proofs.Each.{texts-push, onto_rest}
use Rattle.script_reader.proofs.words.pieces.Goals as goal

pub loop-piece-preserved : goal.loop-piece-preserved
loop-piece-preserved c =
    onto_rest c.loop-piece.pieces.items c.in-Some.piece c.push.new.self.items (pieces c.args.byte c.loop-piece.rest.now)
    (pieces c.args.byte c.in-Some.after.now) c.in_ok-push.ensures.items
    (next_piece c.args.byte c.loop-piece.rest.now c.in-Some.piece.now c.in-Some.after.now c.in-Some.ensures.value)
    ∙ c.loop-piece.invariant

pub returns : goal.returns
returns c =
    ap texts c.in_ok-push-2.ensures.items ∙ texts-push c.loop-piece.pieces.items c.loop-piece.rest
    ∙ ap (λ ps. texts c.loop-piece.pieces.items ++ ps)
    (sym (no_more_pieces c.args.byte c.loop-piece.rest.now c.in_default.ensures.value)) ∙ c.loop-piece.invariant
