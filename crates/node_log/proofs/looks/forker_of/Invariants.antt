use Rattle.std.proofs.Common.{◌≡◌, ◌-◌, length}
use Rattle.world_model.specs.Lives.{is_forked_by}
use Rattle.log_model.specs.Forkers.{forker_of}
use Rattle.node_log.proofs.Forkers.{first_behind}
use Rattle.node_log.proofs.looks.forker_of.Given as goal

-- none of the blocks up to this place forks it
abbrev pub invariant-loop-place : goal.invariant-loop-place
invariant-loop-place l =
    forker_of l.script l.block
    ≡ first_behind (λ q. is_forked_by l.script q l.block) l.place (length l.script.blocks - l.place)
