-- A call is served on what is held, as the machine has it.
use Rattle.std.specs.Prelude.{◌≡◌, ℕ, Bool, true, false, List, [], ◌++◌, Option, Some}
use Rattle.pico_base.specs.declared.numbers.Name.{Name}
use Rattle.pico_base.specs.declared.reply.Reply.{Reply}
use Rattle.waiting_model.specs.declared.callers.Waiting.{Waiting}
use Rattle.waiting_model.specs.declared.callers.Wake.{Wake}
use Rattle.node_model.specs.Kinds.{Named, put_all}
use Rattle.node_model.specs.Serving as model
use Rattle.node_model.specs.Serving.{caller_if, serve}
use Rattle.node_serve.specs.declared.body.Body.{Body}
use Rattle.node_serve.specs.Bodies.{bodies_of}
use Rattle.node_serve.specs.Serving.{admits_at}
use Rattle.serve_rules.specs.declared.carrying.Held.{Held}
use Rattle.serve_rules.specs.declared.carrying.Held.TheVariants.{AtOnce, Did, NotAdmitted}

-- the nodes that read: the caller's where its call does, and then these
abbrev pub nodes_with : ℕ → Bool → List ℕ → List ℕ
nodes_with caller reads readers = caller_if reads caller ++ readers

-- the deeds, the reply, who is woken and which nodes read are those of a call that is served, which the name admits
pub record IsServed (old : Named Body) (name : Name) (who : Waiting) (new : Named Body) (own : Option Reply)
    (wakes : List Wake) (reads : Bool) (readers : List ℕ) : Type 0 where
  pub served : model.Served
  pub admitted : admits_at (bodies_of old) who (Some name) ≡ true
  pub is : serve (bodies_of old) who ≡ Some served
  pub after : bodies_of new ≡ put_all (bodies_of old) served.changes
  pub replies : own ≡ served.own
  pub woken : wakes ≡ served.wakes
  pub read : nodes_with who.caller reads readers ≡ served.readers

abbrev pub IsServedHere : Named Body → Name → Waiting → Named Body → Held → Type 0
IsServedHere old name who new (AtOnce reply reads) = IsServed old name who new (Some reply) [] reads []
IsServedHere old name who new (Did own wakes reads readers) =
    IsServed old name who new own wakes reads readers.items
IsServedHere old name who new NotAdmitted = (admits_at (bodies_of old) who (Some name) ≡ false) × (new ≡ old)
