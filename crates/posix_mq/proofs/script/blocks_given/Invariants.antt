use Rattle.std.proofs.Common.{◌≡◌, ◌++◌, drop}
use Rattle.mq_model.specs.Lines as lines
use Rattle.posix_mq.proofs.script.blocks_given.Given as goal

-- so far, and what is left
abbrev pub invariant-loop-block : goal.invariant-loop-block
invariant-loop-block l =
    l.made ++ lines.blocks_given (drop l.block-index l.blocks) l.rest ≡ lines.blocks_given l.blocks l.own
