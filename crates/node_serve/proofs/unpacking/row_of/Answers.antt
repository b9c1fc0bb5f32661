use Rattle.node_serve.proofs.BodyLemmas.{row-long, no-signals, no-family}
use Rattle.node_serve.proofs.unpacking.row_of.Goals as goal

pub returns-then-bytes-lt-PACKED-clause-refused : goal.returns-then-bytes-lt-PACKED-clause-refused
returns-then-bytes-lt-PACKED-clause-refused c = λ _ row is. row-long row c.args.bytes.now is c.if-bytes-lt-PACKED.true

pub returns-in-None-clause-refused : goal.returns-in-None-clause-refused
returns-in-None-clause-refused c = λ _ row is.
    no-signals row c.args.bytes.now c.split_at.result.0.now c.split_at.ensures.front c.in-None.ensures.only is

pub returns-in-Err-clause-refused : goal.returns-in-Err-clause-refused
returns-in-Err-clause-refused c = λ refused row is.
    no-family row c.args.bytes.now c.split_at.result.1.now c.in-Err.fault refused c.split_at.ensures.back
    c.in-Err.ensures.refused is
