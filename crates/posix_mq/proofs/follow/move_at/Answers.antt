use Rattle.std.proofs.lemmas.Result.{on_ok_weaker}
use Rattle.posix_mq.proofs.Places.{move-lands}
use Rattle.posix_mq.proofs.follow.move_at.Goals as goal

pub returns-in-Some : goal.returns-in-Some
returns-in-Some c =
    on_ok_weaker c.goes_on.result
    (λ e. move-lands c.args.places.now.entries c.pid.inside.0 c.args.pid c.args.call.now c.args.own.now
    c.value_mut.result.now c.goes_on.new.self c.pid.view_is c.value_mut.ensures.value e)
    c.goes_on.ensures
