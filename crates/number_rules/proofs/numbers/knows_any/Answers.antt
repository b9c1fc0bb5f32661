use Rattle.std.proofs.Common.{◌∙◌, sym, ap}
use Rattle.pico_base.specs.declared.numbers.Name.{Name}
use Rattle.node_model.specs.Directory.{is_known}
use Rattle.node_model.specs.Kinds.{name_of}
use Rattle.number_rules.proofs.InRow.{none-from, none-in-more}
use Rattle.number_rules.proofs.numbers.knows_any.Goals as goal

pub loop-place-preserved : goal.loop-place-preserved
loop-place-preserved c =
    none-in-more (λ number. is_known c.args.leader.now.directory (name_of c.args.kind number)) c.args.first
    c.loop-place.place c.loop-place.invariant
    (ap (λ (name : Name). is_known c.args.leader.now.directory name) (sym c.name_of.ensures)
    ∙ sym c.knows.ensures ∙ c.if-knows.false)

pub returns-then-is_past : goal.returns-then-is_past
returns-then-is_past c =
    sym (none-from (λ number. is_known c.args.leader.now.directory (name_of c.args.kind number)) c.args.first 8
    (c.is_past.ensures.0 c.if-is_past.true))
