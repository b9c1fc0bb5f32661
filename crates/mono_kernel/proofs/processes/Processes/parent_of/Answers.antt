use Rattle.std.proofs.Common.{◌∙◌, sym, ap}
use Rattle.std.specs.Option.{option_map}
use Rattle.waiting_model.specs.Kernel.{Parent}
use Rattle.mono_kernel.proofs.ParentLemmas.{parent_in-none, parent_in-one, parent_number-one, parent_in-stale, apart-listed}
use Rattle.mono_kernel.proofs.processes.Processes.parent_of.Goals as goal

pub returns-in_default : goal.returns-in_default
returns-in_default c =
    let none = sym (c.copied.ensures ∙ c.get.ensures.value) ∙ c.in_default.is
    in let parent = parent_in-none c.self.inside.cells.entries c.self.inside.parents.entries c.args.pid c.self.invariant
    none
    in rw (← c.self.view_is)
    (record { number = sym (ap (option_map (λ (p : Parent). p.pid)) parent); parent = parent; lists = tt })

pub returns-then-lists : goal.returns-then-lists
returns-then-lists c =
    let here = sym (c.copied.ensures ∙ c.get.ensures.value) ∙ c.in-Some.is
    in let it = sym c.lists.ensures ∙ c.if-lists.true
    in let listed = rw (← c.self.view_is) at it
    in rw (← c.self.view_is)
    (record {
      number = sym (parent_number-one c.self.inside.cells.entries c.self.inside.parents.entries c.args.pid
          c.in-Some.parent c.self.invariant here listed);
      parent = parent_in-one c.self.inside.cells.entries c.self.inside.parents.entries c.args.pid c.in-Some.parent
          c.self.invariant here listed;
      lists = (
        listed,
        apart-listed c.self.inside.cells.entries c.self.inside.parents.entries c.args.pid
            c.in-Some.parent c.self.invariant listed,
      );
    })

pub returns-else-lists : goal.returns-else-lists
returns-else-lists c =
    let here = sym (c.copied.ensures ∙ c.get.ensures.value) ∙ c.in-Some.is
    in let it = sym c.lists.ensures ∙ c.if-lists.false
    in let parent = parent_in-stale c.self.inside.cells.entries c.self.inside.parents.entries c.args.pid
    c.in-Some.parent c.self.invariant here
    (rw (← c.self.view_is) at it)
    in rw (← c.self.view_is)
    (record { number = sym (ap (option_map (λ (p : Parent). p.pid)) parent); parent = parent; lists = tt })
