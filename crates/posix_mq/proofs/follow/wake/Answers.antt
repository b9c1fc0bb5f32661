use Rattle.std.proofs.lemmas.Result.{on_ok_weaker}
use Rattle.posix_mq.proofs.Places.{wake-lands}
use Rattle.posix_mq.proofs.follow.wake.Goals as goal

pub returns-in-Some : goal.returns-in-Some
returns-in-Some c =
    on_ok_weaker c.wakes.result
    (λ e. wake-lands c.args.places.now.entries c.pid.inside.0 c.args.pid c.args.reply.now
    c.value_mut.result.now c.wakes.new.self c.pid.view_is c.value_mut.ensures.value e)
    c.wakes.ensures
