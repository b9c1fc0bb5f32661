use Rattle.std.proofs.Common.{List, sym, subst}
use Rattle.pico_base.specs.declared.reply.Entry.{Entry}
use Rattle.world_core.specs.State.{IsAlive}
use Rattle.world_core.proofs.Alive.{IsAlive-let_go}
use Rattle.world_core.proofs.state.State.let_go.Goals as goal

pub returns-clause-alive : goal.returns-clause-alive
returns-clause-alive c =
    let s = c.args.self.now
    in subst (λ (entries : List Entry). IsAlive (record s { made = record s.made { entries = entries } }))
    (sym c.clear.ensures.items) (IsAlive-let_go s c.requires)
