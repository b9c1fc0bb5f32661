use Rattle.std.proofs.lemmas.Result.{err_from_is_err_and}
use Rattle.std.proofs.Common.{List, arith}
use Rattle.kernel_model.specs.Queue.{Message}
use Rattle.sysv_msg.specs.Linked.{messages_of}
use Rattle.sysv_msg.specs.Reading.{queue_of}
use Rattle.sysv_msg.proofs.Parts.{all-read, no-messages, no-numbers, no-waiters, state-read, within-read}
use Rattle.sysv_msg.proofs.unpack.fields_of.Goals as goal

pub returns-in_default : goal.returns-in_default
returns-in_default c = no-numbers c.args.bytes.now c.in_default.ensures

pub returns-in_err-size : goal.returns-in_err-size
returns-in_err-size c =
    let p = err_from_is_err_and c.from_residual.result c.from_residual.ensures.1 in
    rw (p.1, p.2)
    (no-messages c.in_err-size.field-0.0 c.args.bytes.now c.in-Some.rest.now
    (c.in-Some.qbytes, c.in-Some.sender, c.in-Some.receiver) c.in-Some.ensures c.in_err-size.ensures.read)

pub returns-in_err-waiters : goal.returns-in_err-waiters
returns-in_err-waiters c =
    let ms : List Message = messages_of c.read_messages.new.into.nodes in
    let state = state-read c.args.bytes.now c.in-Some.rest.now c.in_ok-size.rest.now
    (c.in-Some.qbytes, c.in-Some.sender, c.in-Some.receiver) ms c.in-Some.ensures c.in_ok-size.ensures.read in
    let p = err_from_is_err_and c.from_residual-in_err-waiters.result c.from_residual-in_err-waiters.ensures.1 in
    rw (p.1, p.2)
    (no-waiters c.in_err-waiters.field-0.0 c.args.bytes.now c.in_ok-size.rest.now
    (queue_of c.in-Some.qbytes c.in-Some.sender c.in-Some.receiver ms) state c.in_err-waiters.ensures.read)

pub invariant_of-store : goal.invariant_of-store
invariant_of-store c =
    let ms : List Message = messages_of c.read_messages.new.into.nodes in
    let state = state-read c.args.bytes.now c.in-Some.rest.now c.in_ok-size.rest.now
    (c.in-Some.qbytes, c.in-Some.sender, c.in-Some.receiver) ms c.in-Some.ensures c.in_ok-size.ensures.read in (
      c.in_ok-size.ensures.size,
      within-read c.args.bytes.now c.in_ok-size.rest.now
          (queue_of c.in-Some.qbytes c.in-Some.sender c.in-Some.receiver ms)
          (λ i. omega (arith, c.type_inv.bytes i)) state,
    )

pub returns : goal.returns
returns c =
    let ms : List Message = messages_of c.read_messages.new.into.nodes in
    let state = state-read c.args.bytes.now c.in-Some.rest.now c.in_ok-size.rest.now
    (c.in-Some.qbytes, c.in-Some.sender, c.in-Some.receiver) ms c.in-Some.ensures c.in_ok-size.ensures.read in
    rw (all-read c.args.bytes.now c.in_ok-size.rest.now
    (queue_of c.in-Some.qbytes c.in-Some.sender c.in-Some.receiver ms) c.in_ok-waiters.waiters.items state
    c.in_ok-waiters.ensures.read)
    c.settled.ensures

pub overflow_cast-store : goal.overflow_cast-store
overflow_cast-store c =
    let ms : List Message = messages_of c.read_messages.new.into.nodes in
    let state = state-read c.args.bytes.now c.in-Some.rest.now c.in_ok-size.rest.now
    (c.in-Some.qbytes, c.in-Some.sender, c.in-Some.receiver) ms c.in-Some.ensures c.in_ok-size.ensures.read in
    let within = within-read c.args.bytes.now c.in_ok-size.rest.now
    (queue_of c.in-Some.qbytes c.in-Some.sender c.in-Some.receiver ms) (λ i. omega (arith, c.type_inv.bytes i)) state in
    let most = within.bytes in
    let size = c.in_ok-size.ensures.size in
    omega (arith, most, size)
