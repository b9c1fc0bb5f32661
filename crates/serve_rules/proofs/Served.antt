-- A call that is served on a name that is held, as the machine's rules have it.
use Rattle.std.proofs.Common.{◌≡◌, ◌∙◌, ℕ, Bool, true, List, Option, Some, Result, OnOk, sym, ap, subst, refl}
use Rattle.std.specs.Prelude.{if◌then◌else◌}
use Rattle.std.specs.Option.{option_map}
use Rattle.pico_base.specs.declared.call.Call.{Call}
use Rattle.pico_base.specs.declared.numbers.Name.{Name}
use Rattle.pico_base.specs.declared.reply.Reply.{Reply}
use Rattle.pico_base.specs.declared.script.Script.{Script}
use Rattle.rpc_frame.specs.declared.asked.Asked.{Asked}
use Rattle.waiting_model.specs.declared.callers.Wake.{Wake}
use Rattle.node_model.specs.Kinds.{Named}
use Rattle.node_model.specs.Bodies as model
use Rattle.node_model.specs.Serving.{serve, waiting_as}
use Rattle.node_serve.specs.declared.body.Body.{Body}
use Rattle.node_serve.specs.declared.who.Who.{Who}
use Rattle.node_serve.specs.Bodies.{bodies_of}
use Rattle.node_serve.specs.Callers.{waiting_with}
use Rattle.node_serve.specs.Serving.{admits_at}
use Rattle.node_state.specs.Started.{started}
use Rattle.world_model.specs.Node.{asked_here}
use Rattle.world_model.specs.Serving.{has_room, is_struck, note_reads, serve_asked, serve_asked_with}
use Rattle.world_model.specs.Starting.{act, carry_out_own}
use Rattle.world_model.specs.Step.{Step, carry_out_waking, with_deeds, with_strike}
use Rattle.serve_rules.specs.Held.{IsServed, nodes_with}

who_of : Asked → Who
who_of asked = record { caller = asked.caller; ticket = asked.ticket; pid = asked.pid }

-- ---- a call that was asked for

-- what is done on these deeds
done_on : Script → Step → Name → Asked → model.Deeds → Option Reply → List Wake → List ℕ → Step
done_on script s name asked deeds own wakes readers =
    note_reads
    (carry_out_waking script (with_deeds (with_strike s (is_struck s.node name asked.call)) deeds) asked own wakes)
    name readers

with_own : (script : Script) (s : Step) (name : Name) (asked : Asked) (held left : Named Body) (own : Option Reply)
    (wakes : List Wake) (reads : Bool) (readers : List ℕ) → s.node.deeds ≡ bodies_of held
    → (served : IsServed held name (waiting_as asked) left own wakes reads readers)
    → serve_asked_with script s name asked served.served
    ≡ done_on script s name asked (bodies_of left) own wakes (nodes_with asked.caller reads readers)
unfolding done_on
with_own script s name asked held left own wakes reads readers deeds served =
    rw (deeds, served.after, served.replies, served.woken, served.read) refl

chosen : {A : Type 0} (b : Bool) (x y : A) → b ≡ true → (if b then x else y) ≡ x
chosen b x y is = ap (λ (t : Bool). if t then x else y) is

served-on : (script : Script) (s : Step) (name : Name) (asked : Asked) (held left : Named Body) (own : Option Reply)
    (wakes : List Wake) (reads : Bool) (readers : List ℕ) → s.node.deeds ≡ bodies_of held
    → IsServed held name (waiting_as asked) left own wakes reads readers
    → serve_asked script s name asked
    ≡ Some (done_on script s name asked (bodies_of left) own wakes (nodes_with asked.caller reads readers))
served-on script s name asked held left own wakes reads readers deeds served =
    chosen (has_room s name asked) _ _
    (ap (λ (ds : model.Deeds). admits_at ds (waiting_as asked) (Some name)) deeds ∙ served.admitted)
    ∙ ap (option_map (serve_asked_with script s name asked))
    (ap (λ (ds : model.Deeds). serve ds (waiting_as asked)) deeds ∙ served.is)
    ∙ ap (λ (t : Step). Some t) (with_own script s name asked held left own wakes reads readers deeds served)

-- where it is done step by step, it is done as the definition says
pub serves : (script : Script) (s struck carried new : Step) (name : Name) (asked : Asked) (who : Who)
    (held left : Named Body) (own : Option Reply) (wakes : List Wake) (reads hit : Bool) (readers seen : List ℕ)
    → s.node.deeds ≡ bodies_of held
    → who ≡ record { caller = asked.caller; ticket = asked.ticket; pid = asked.pid }
    → IsServed held name (waiting_with who asked.call) left own wakes reads readers
    → hit ≡ is_struck s.node name asked.call → struck ≡ with_strike (with_deeds s (bodies_of left)) hit
    → carried ≡ carry_out_waking script struck asked own wakes → seen ≡ readers
    → new ≡ note_reads carried name (nodes_with who.caller reads seen)
    → serve_asked script s name asked ≡ Some new
unfolding done_on
serves script s struck carried new name asked who held left own wakes reads hit readers seen deeds by served struck_is
    strikes carries all notes =
    served-on script s name asked held left own wakes reads readers deeds
    (subst (λ (w : Who). IsServed held name (waiting_with w asked.call) left own wakes reads readers) by served)
    ∙ sym (ap (λ (t : Step). Some t)
    (notes
    ∙ ap (λ (w : Who). note_reads carried name (nodes_with w.caller reads seen)) by
    ∙ ap (λ (ns : List ℕ). note_reads carried name (nodes_with asked.caller reads ns)) all
    ∙ ap (λ (t : Step). note_reads t name (nodes_with asked.caller reads readers)) (carries ∙ carried_on)))
  where
    carried_on : carry_out_waking script struck asked own wakes
        ≡ carry_out_waking script (with_deeds (with_strike s (is_struck s.node name asked.call)) (bodies_of left))
        asked own wakes
    carried_on =
        ap (λ (t : Step). carry_out_waking script t asked own wakes)
        (strikes ∙ ap (λ (b : Bool). with_strike (with_deeds s (bodies_of left)) b) struck_is)

-- ---- a process's call on itself

-- the rule lets the process go on with what its call did to its own body: its reply, and those whom it wakes
pub acts : (script : Script) (s : Step) (name : Name) (call : Call) (who : Who) (held left : Named Body)
    (own : Option Reply) (wakes : List Wake) (reads : Bool) (readers : List ℕ) → s.node.deeds ≡ bodies_of held
    → who ≡ record { caller = s.node.number; ticket = s.node.caller.ticket; pid = s.node.pid }
    → IsServed held name (waiting_with who call) left own wakes reads readers
    → act script s call
    ≡ Some (carry_out_waking script (with_deeds s (bodies_of left)) (asked_here s.node call) own wakes)
acts script s name call who held left own wakes reads readers deeds by served =
    let here = subst (λ (w : Who). IsServed held name (waiting_with w call) left own wakes reads readers) by served
    in ap (option_map (carry_out_own script s call))
    (ap (λ (ds : model.Deeds). serve ds (waiting_as (asked_here s.node call))) deeds ∙ here.is)
    ∙ ap (λ (t : Step). Some t) (rw (deeds, here.after, here.replies, here.woken) refl)

-- ---- a step that is as it was

-- a call that is answered in the same step is answered as before
pub as-before : {E : Type 0} (r : Result Unit E) (script : Script) (s t new : Step) (name : Name) (asked : Asked)
    → t ≡ s
    → OnOk r (serve_asked script t name asked ≡ Some new) → OnOk r (serve_asked script s name asked ≡ Some new)
as-before r script s t new name asked same served =
    subst (λ (u : Step). OnOk r (serve_asked script u name asked ≡ Some new)) same served

-- and so is one that its own node starts
pub started-as-before : {E : Type 0} (r : Result Unit E) (script : Script) (s t new : Step) (name : Name) (call : Call)
    → t ≡ s
    → OnOk r (serve_asked script (started t call) name (asked_here (started t call).node call) ≡ Some new)
    → OnOk r (serve_asked script (started s call) name (asked_here (started s call).node call) ≡ Some new)
started-as-before r script s t new name call same served =
    subst (λ (u : Step).
    OnOk r (serve_asked script (started u call) name (asked_here (started u call).node call) ≡ Some new)) same served
