use Rattle.std.proofs.Common.{◌++◌, ap, sym, ◌∙◌}
use Rattle.std.proofs.lemmas.Result.{on_ok_weaker}
use Rattle.trace_text.proofs.Appends.{one_part_more}
use Rattle.trace_text.proofs.Members.{set_text-of_names, set_text-of_none}
use Rattle.trace_text.proofs.names.push_set.Goals as goal

pub returns-then-branch : goal.returns-then-branch
returns-then-branch c =
    let any = c.in_ok-push_members.ensures.any in
    c.in_ok-push_members.ensures.names
    ∙ ap (λ t. c.args.out.now.items ++ t) (sym (set_text-of_names c.args.set (sym c.if-branch.true ∙ any)))

pub returns : goal.returns
returns c =
    let names = c.in_ok-push_members.ensures.names in
    let whole = set_text-of_none c.args.set (sym c.if-branch.false ∙ c.in_ok-push_members.ensures.any) in
    on_ok_weaker c.push_known.result (λ e. one_part_more _ _ _ _ _ _ names whole e) c.push_known.ensures
