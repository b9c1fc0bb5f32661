use Rattle.node_serve.proofs.rows.on_row.Goals as goal

pub returns-in-SigProcMask : goal.returns-in-SigProcMask
returns-in-SigProcMask c = rw (c.in-SigProcMask.is, c.mask.ensures.masked, c.mask.ensures.old)
