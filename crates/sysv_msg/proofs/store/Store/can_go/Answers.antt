use Rattle.std.proofs.Common.{◌∙◌, rules, SFits, w32}
use Rattle.std.proofs.lemmas.Int.{to_z-of_z}
use Rattle.sysv_msg.proofs.ReceiveLemmas.{receive-goes-later}
use Rattle.sysv_msg.proofs.store.Store.can_go.Goals as goal

pub returns-else-nowait-2 : goal.returns-else-nowait-2
returns-else-nowait-2 c =
    let fits : SFits w32 c.in-MsgRcv.class = search rules
    in rw c.in-MsgRcv.is
    (simp to_z-of_z at c.can_receive.ensures
    ∙ receive-goes-later c.args.self.now.queue c.args.pid c.in-MsgRcv.class c.in-MsgRcv.size c.in-MsgRcv.noerror
    c.in-MsgRcv.nowait c.if-nowait-2.false)
