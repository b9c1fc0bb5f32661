use Rattle.std.proofs.Common.{add-one}
use Rattle.node_log.proofs.Places.{lines-same}
use Rattle.node_log.proofs.Inside.{IsCounted, turned-after, turned-idle, same-idle, script-idle, whole-after, whole-yet, script-after}
use Rattle.node_log.proofs.logged.Logged.turn.Goals as goal

pub returns-in-Some-clause-lines : goal.returns-in-Some-clause-lines
returns-in-Some-clause-lines g c = lines-same _

pub returns-then-is_idle-clause-turned : goal.returns-then-is_idle-clause-turned
returns-then-is_idle-clause-turned g c =
    let old = c.self.inside in
    rw (← c.self.view_is, add-one old.silent, c.saturating_add-self-inside.ensures)
    (turned-idle c.args.script.now old c.in_default.not-Some
    (whole-yet old c.self.invariant c.in_default.not-Some) (c.is_idle.ensures c.if-is_idle.true))

pub returns-then-is_idle-clause-script : goal.returns-then-is_idle-clause-script
returns-then-is_idle-clause-script g c =
    let old = c.self.inside in
    let script = rw (← c.self.view_is) at c.requires.script in
    rw (add-one old.silent, c.saturating_add-self-inside.ensures) (script-idle c.args.script.now old script)

pub returns-then-is_idle-clause-lines : goal.returns-then-is_idle-clause-lines
returns-then-is_idle-clause-lines g c =
    let old = c.self.inside in
    rw (← c.self.view_is, add-one old.silent) ((same-idle old).lines)

pub invariant_of-self-2 : goal.invariant_of-self-2
invariant_of-self-2 g c =
    let counted : IsCounted c.self.inside c.note_silences.new.self =
    record { lines = c.note_silences.ensures.lines; same = c.note_silences.ensures.same }
    in
    rw (c.quiet_after-self-inside.ensures, c.fault_after-self-inside.ensures)
    (whole-after c.self.inside c.note_silences.new.self c.turn-turned.new.self c.turn-turned.result c.self.invariant
    counted c.turn-turned.ensures.same c.turn-turned.ensures.whole)

pub returns-clause-turned : goal.returns-clause-turned
returns-clause-turned g c =
    let counted : IsCounted c.self.inside c.note_silences.new.self =
    record { lines = c.note_silences.ensures.lines; same = c.note_silences.ensures.same }
    in
    rw (
      ← c.self.view_is,
      c.quiet_after-self-inside.ensures,
      c.fault_after-self-inside.ensures,
      c.answer_after.ensures,
    )
    (turned-after c.args.script.now c.self.inside c.note_silences.new.self c.turn-turned.new.self c.turn-turned.result
    c.in_default.not-Some counted c.turn-turned.ensures.turned)

pub returns-clause-script : goal.returns-clause-script
returns-clause-script g c =
    let counted : IsCounted c.self.inside c.note_silences.new.self =
    record { lines = c.note_silences.ensures.lines; same = c.note_silences.ensures.same }
    in
    let script = rw (← c.self.view_is) at c.requires.script in
    rw (c.quiet_after-self-inside.ensures, c.fault_after-self-inside.ensures)
    (script-after c.args.script.now c.self.inside c.note_silences.new.self c.turn-turned.new.self c.turn-turned.result
    script counted c.turn-turned.ensures.same c.turn-turned.ensures.known)
