-- A journal replays to one kernel, so each name has one owner in that kernel's words.
use Rattle.std.proofs.Common.{◌≡◌, List, [], ◌∷◌, Some, ap, sym, subst, ◌∙◌}
use Rattle.pico_base.specs.declared.numbers.Kind.{Kind}
use Rattle.pico_base.specs.declared.numbers.Kind.TheVariants as kinds
use Rattle.pico_base.specs.declared.numbers.Name.{Name}
use Rattle.pico_base.specs.declared.reply.Entry.{Entry}
use Rattle.pico_base.specs.declared.reply.Outcome.{Outcome}
use Rattle.pico_base.specs.declared.script.Script.{Script}
use Rattle.kernel_laws.proofs.Plain.{from_some}
use Rattle.kernel_model.specs.Footprint.{used_of}
use Rattle.kernel_model.specs.Kernel as plain
use Rattle.number_maps.specs.Maps.{is_used}
use Rattle.waiting_model.specs.History.{Replays}
use Rattle.waiting_model.specs.Kernel.{Kernel, opening}
use Rattle.waiting_model.specs.Plain.{plain_kernel}
use Rattle.waiting_model.specs.Transition.{Successor, successor}
use Rattle.waiting_laws.specs.InLine.{IsAlike}
use Rattle.entry_laws.specs.Entering.{is_used_name}
use Rattle.node_model.specs.Kinds.{kind_of, number_of}
use Rattle.world_model.specs.Census.{one_if, owners}
use Rattle.world_model.specs.World.{World}
use Rattle.world_laws.specs.Invariant.{Holds}
use Rattle.world_laws.specs.Places.{Beside}
use Rattle.world_laws.specs.Wholes.{HasWhole}
use Rattle.rest_laws.specs.Laws.{OthersLeadNothing}
use Rattle.rest_laws.proofs.Census.{owners-are}

kernel-is : (k m : Kernel) (o p : Outcome) → Some (successor k o) ≡ Some (successor m p) → k ≡ m
kernel-is k m o p e = ap (λ (s : Successor). s.kernel) (from_some (successor k o) (successor m p) e)

-- a list of entries leads from a kernel to one kernel alone
pub one-replay : (k last other : Kernel) (entries : List Entry) → Replays k entries last → Replays k entries other
    → last ≡ other
one-replay k last other [] h g = sym h ∙ g
one-replay k last other (e ∷ entries) h g =
    let same : g.next ≡ h.next = kernel-is g.next h.next e.outcome e.outcome (sym g.step ∙ h.step)
    in one-replay h.next last other entries h.rest (subst (λ (m : Kernel). Replays m entries other) same g.rest)

-- kernels that are alike have used the same numbers
pub used-alike : (whole : Kernel) (k : plain.Kernel) → IsAlike whole k → (kind : Kind)
    → used_of (plain_kernel whole) kind ≡ used_of k kind
used-alike whole k alike kinds.Proc = alike.used_processes
used-alike whole k alike kinds.Msg = alike.used_queues
used-alike whole k alike kinds.Sem = alike.used_sets

-- A name has one owner where the kernel that the journal replays to has used its number, and none where it hasn't.
pub owners-by-journal : (script : Script) (w : World) (b : Beside) → Holds script w [] b → OthersLeadNothing w
    → (k : Kernel) → Replays opening w.journal k → (name : Name)
    → owners name w ≡ one_if (is_used_name (plain_kernel k) name)
owners-by-journal script w b holds others k replays name =
    let whole : HasWhole w b = holds.whole
    in owners-are script w b holds others name
    ∙ ap (λ used. one_if (is_used used (number_of name)))
    (sym (used-alike b.whole b.kernel whole.alike (kind_of name)))
    ∙ ap (λ (m : Kernel). one_if (is_used_name (plain_kernel m) name))
    (one-replay opening b.whole k w.journal whole.legal replays)
