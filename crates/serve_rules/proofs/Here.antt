-- A call that is served on what is held, by its own name.
use Rattle.std.proofs.Common.{◌≡◌, ◌∙◌, ℕ, Bool, List, [], ◌++◌, map, Option, Some, refl, sym, ap, subst}
use Rattle.std.specs.List.{filter}
use Rattle.pico_base.specs.declared.numbers.Name.{Name}
use Rattle.pico_base.specs.declared.reply.Reply.{Reply}
use Rattle.waiting_model.specs.declared.callers.Waiting.{Waiting}
use Rattle.waiting_model.specs.declared.callers.Wake.{Wake}
use Rattle.node_model.specs.Kinds.{Named}
use Rattle.node_model.specs.Serving.{caller_if, name_for}
use Rattle.node_serve.specs.declared.body.Body.{Body}
use Rattle.node_serve.specs.declared.prompt.Replied.{Replied}
use Rattle.node_serve.specs.declared.serving.Readers.{Readers}
use Rattle.node_serve.specs.declared.serving.Served.{Served}
use Rattle.node_serve.specs.declared.serving.Served.TheVariants.{Did}
use Rattle.node_serve.specs.Bodies.{bodies_of}
use Rattle.node_serve.specs.Prompt.{IsAnswered}
use Rattle.node_serve.specs.Serving.{IsDefined, MayMake, ServesAsDefined, admits_at, reads_among}
use Rattle.serve_rules.specs.Held.{IsServed}

-- with the nodes of those among the woken who read
defined-here : (old new : Named Body) (name : Name) (who : Waiting) (own : Option Reply) (wakes seen : List Wake)
    (reads : Bool) (readers : Readers) (nodes : List ℕ) → IsDefined old who new own wakes reads readers
    → name_for who.pid who.call ≡ Some name → seen ≡ wakes
    → nodes ≡ map (λ w. w.caller) (filter (reads_among readers) seen) → IsServed old name who new own wakes reads nodes
defined-here old new name who own wakes seen reads readers nodes d named all are = record {
  served = d.served;
  admitted = sym (ap (admits_at (bodies_of old) who) named) ∙ d.admitted;
  is = d.is;
  after = d.after;
  replies = d.replies;
  woken = d.woken;
  read = ap (λ (ns : List ℕ). caller_if reads who.caller ++ ns)
      (are ∙ ap (λ (ws : List Wake). map (λ w. w.caller) (filter (reads_among readers) ws)) all) ∙ d.read;
}

-- a call that was carried out, and may be, is served as the definition says
pub served-here : (old new : Named Body) (name : Name) (who : Waiting) (own : Option Reply) (wakes seen : List Wake)
    (reads : Bool) (readers : Readers) (nodes : List ℕ) (served : Served) → ServesAsDefined old who new served
    → MayMake old who.pid who.call → served ≡ Did own wakes reads readers → name_for who.pid who.call ≡ Some name
    → seen ≡ wakes → nodes ≡ map (λ w. w.caller) (filter (reads_among readers) seen)
    → IsServed old name who new own wakes reads nodes
served-here old new name who own wakes seen reads readers nodes served defined may did named all are =
    let d = subst (λ (s : Served). ServesAsDefined old who new s) did defined
    in defined-here old new name who own wakes seen reads readers nodes (d may) named all are

-- one that wakes nobody has woken nobody who read
pub unwoken-here : (old new : Named Body) (name : Name) (who : Waiting) (own : Option Reply) (wakes : List Wake)
    (reads : Bool) (readers : Readers) (served : Served) → ServesAsDefined old who new served
    → MayMake old who.pid who.call → served ≡ Did own wakes reads readers → name_for who.pid who.call ≡ Some name
    → wakes ≡ [] → IsServed old name who new own [] reads []
unwoken-here old new name who own wakes reads readers served defined may did named none =
    subst (λ (ws : List Wake). IsServed old name who new own ws reads []) none
    (served-here old new name who own wakes [] reads readers [] served defined may did named (sym none) refl)

-- a call that had its reply at once is served with nobody woken
pub answered-here : (old new : Named Body) (name : Name) (who : Waiting) (at : Replied) → IsAnswered old name who new at
    → IsServed old name who new (Some at.reply) [] at.reads []
answered-here old new name who at a = record {
  served = a.served;
  admitted = a.admitted;
  is = a.is;
  after = a.after;
  replies = a.replies;
  woken = a.woken;
  read = a.read;
}
