use Rattle.pico_run.proofs.Turns.{faulty, turning-behind, turning-idly}
use Rattle.std.proofs.Common.{refl}
use Rattle.pico_run.proofs.threads.turn_on.Goals as goal

pub returns-then-waited-most-clause-turning : goal.returns-then-waited-most-clause-turning
returns-then-waited-most-clause-turning g c =
    let idle = c.wait-waited.ensures.turns c.args.script.now c.requires.ready.of_script in
    turning-idly c.args.script.now c.args.lock.now c.wait-waited.result c.args.logged.now c.wait-waited.new.self
    c.turns_keep_logs.ensures c.requires.ready idle

pub turn-requires-clause-script : goal.turn-requires-clause-script
turn-requires-clause-script g c =
    let idle = c.wait-waited.ensures.turns c.args.script.now c.requires.ready.of_script in
    (turning-idly c.args.script.now c.args.lock.now c.wait-waited.result c.args.logged.now c.wait-waited.new.self
    c.turns_keep_logs.ensures c.requires.ready idle).can_turn.of_script

pub turn-requires-clause-lock : goal.turn-requires-clause-lock
turn-requires-clause-lock g c =
    let idle = c.wait-waited.ensures.turns c.args.script.now c.requires.ready.of_script in
    (turning-idly c.args.script.now c.args.lock.now c.wait-waited.result c.args.logged.now c.wait-waited.new.self
    c.turns_keep_logs.ensures c.requires.ready idle).can_turn.lock_is

pub returns-in-Did-clause-turning : goal.returns-in-Did-clause-turning
returns-in-Did-clause-turning g c =
    let idle = c.wait-waited.ensures.turns c.args.script.now c.requires.ready.of_script in
    let turn = c.turn.ensures in
    turning-behind c.args.script.now c.args.lock.now c.wait-waited.result c.args.logged.now c.wait-waited.new.self
    c.turn.new.self c.turn.result c.turns_keep_logs.ensures c.requires.ready idle turn.turned turn.script turn.lines
    turn.seat turn.number

pub returns-in-Piece-clause-turning : goal.returns-in-Piece-clause-turning
returns-in-Piece-clause-turning g c =
    let idle = c.wait-waited.ensures.turns c.args.script.now c.requires.ready.of_script in
    let turn = c.turn.ensures in
    turning-behind c.args.script.now c.args.lock.now c.wait-waited.result c.args.logged.now c.wait-waited.new.self
    c.turn.new.self c.turn.result c.turns_keep_logs.ensures c.requires.ready idle turn.turned turn.script turn.lines
    turn.seat turn.number

pub returns-in-Idle-clause-turning : goal.returns-in-Idle-clause-turning
returns-in-Idle-clause-turning g c =
    let idle = c.wait-waited.ensures.turns c.args.script.now c.requires.ready.of_script in
    let turn = c.turn.ensures in
    turning-behind c.args.script.now c.args.lock.now c.wait-waited.result c.args.logged.now c.wait-waited.new.self
    c.turn.new.self c.turn.result c.turns_keep_logs.ensures c.requires.ready idle turn.turned turn.script turn.lines
    turn.seat turn.number

pub returns-in_default-clause-turning : goal.returns-in_default-clause-turning
returns-in_default-clause-turning g c =
    let idle = c.wait-waited.ensures.turns c.args.script.now c.requires.ready.of_script in
    let turn = c.turn.ensures in
    turning-behind c.args.script.now c.args.lock.now c.wait-waited.result c.args.logged.now c.wait-waited.new.self
    c.turn.new.self c.turn.result c.turns_keep_logs.ensures c.requires.ready idle turn.turned turn.script turn.lines
    turn.seat turn.number

pub returns-in_default-clause-faulty : goal.returns-in_default-clause-faulty
returns-in_default-clause-faulty g c = λ _.
    faulty c.args.script.now c.wait-waited.new.self.fault c.wait-waited.new.self c.turn.new.self c.turn.result refl
    c.turn.ensures.turned c.in_default.not-Did c.in_default.not-Piece c.in_default.not-Idle
