-- A call that has its reply at once on a body at which nobody waits.
use Rattle.std.proofs.Common.{◌≡◌, ◌∙◌, ℕ, ℤ, length, Bool, true, false, not, ◌&&◌, ◌||◌, nat_eq, nat_lt, List, [], Option, Some, None, refl, sym, ap, subst}
use Rattle.std.specs.Prelude.{if◌then◌else◌}
use Rattle.std.specs.List.{list_any}
use Rattle.pico_base.specs.declared.call.Call.{Call}
use Rattle.pico_base.specs.declared.call.Call.TheVariants as calls
use Rattle.pico_base.specs.declared.call.Home.{Home}
use Rattle.pico_base.specs.declared.call.SemStep.{SemStep}
use Rattle.pico_base.specs.declared.numbers.Name.TheVariants.{Msg, Sem}
use Rattle.pico_base.specs.declared.reply.Reply.{Reply}
use Rattle.kernel_model.specs.Queue.{Queue, send, receive}
use Rattle.kernel_model.specs.SemaphoreSet.{SemaphoreSet}
use Rattle.waiting_model.specs.declared.callers.Waiting.{Waiting}
use Rattle.waiting_model.specs.Queue.{try_queue, try_receive, try_send}
use Rattle.waiting_model.specs.SemaphoreSet.{try_op}
use Rattle.waiting_model.specs.Waiters.{Attempt, Awaited, Carried}
use Rattle.waiter_fields.specs.Waiters.{max_waiters}
use Rattle.node_model.specs.Awaiting.{on_object}
use Rattle.node_model.specs.Bodies as model
use Rattle.node_model.specs.Bodies.{waiters_of}
use Rattle.node_model.specs.Serving.{admits, has_read, waits_in}
use Rattle.node_serve.specs.declared.body.Body.TheVariants as held
use Rattle.node_serve.specs.declared.prompt.Replied.{Replied}
use Rattle.node_serve.specs.declared.who.Who.{Who}
use Rattle.node_serve.specs.Callers.{waiting_with}
use Rattle.node_serve.specs.Prompt.{Goes, GoesOr, IsPrompt, PromptOr}
use Rattle.node_serve.proofs.AtOnce.{operates, queue-goes-on}

-- where nobody waits there is room for one
room-for : (ws : List Waiting) (pid : ℕ) → ws ≡ []
    → (nat_lt (length ws) max_waiters && not (list_any (λ w. nat_eq pid w.pid) ws)) ≡ true
room-for ws pid nobody =
    ap (λ (vs : List Waiting). nat_lt (length vs) max_waiters && not (list_any (λ w. nat_eq pid w.pid) vs)) nobody

-- a send
sends : (id : ℕ) (class : ℤ) (text : List ℕ) (nowait : Bool) (q new : Awaited Queue) (w : Who) (at : Replied)
    → q.waiters ≡ [] → Goes (try_send q.state nowait (send q.state w.pid class text)) (λ _. false) new at
    → IsPrompt (Msg id) (held.Queue q) (waiting_with w (calls.MsgSnd id class text nowait)) (held.Queue new) at
sends id class text nowait q new w at nobody goes =
    let who : Waiting = waiting_with w (calls.MsgSnd id class text nowait)
    in record {
      names = refl;
      served = refl;
      admitted = room-for q.waiters w.pid nobody;
      fits = refl;
      others = refl;
      does = ap (on_object model.AQueue) (queue-goes-on q new who at.reply nobody goes.still goes.gives);
      read = goes.read;
      childless = goes.childless;
    }

-- a receive
receives : (id : ℕ) (class : ℤ) (size : ℕ) (noerror nowait : Bool) (q new : Awaited Queue) (w : Who) (at : Replied)
    → q.waiters ≡ []
    → Goes (try_receive q.state nowait (receive q.state w.pid class size noerror))
    (has_read (calls.MsgRcv id class size noerror nowait)) new at
    → IsPrompt (Msg id) (held.Queue q) (waiting_with w (calls.MsgRcv id class size noerror nowait)) (held.Queue new) at
receives id class size noerror nowait q new w at nobody goes =
    let who : Waiting = waiting_with w (calls.MsgRcv id class size noerror nowait)
    in record {
      names = refl;
      served = refl;
      admitted = room-for q.waiters w.pid nobody;
      fits = refl;
      others = refl;
      does = ap (on_object model.AQueue) (queue-goes-on q new who at.reply nobody goes.still goes.gives);
      read = goes.read;
      childless = goes.childless;
    }

-- operations of which none may wait
pub operates-on : (id at : ℕ) (steps : List SemStep) (s new : Awaited SemaphoreSet) (w : Who) (call : Call)
    (o : Replied) → call ≡ calls.SemOp at steps → at ≡ id → s.waiters ≡ []
    → Goes (try_op s.state w.pid steps) (has_read (calls.SemOp id steps)) new o
    → IsPrompt (Sem id) (held.Set s) (waiting_with w call) (held.Set new) o
operates-on id at steps s new w call o is there nobody goes =
    subst (λ (c : Call). IsPrompt (Sem id) (held.Set s) (waiting_with w c) (held.Set new) o)
    (sym (is ∙ ap (λ (n : ℕ). calls.SemOp n steps) there))
    (record {
      names = refl;
      served = refl;
      admitted = room-for s.waiters w.pid nobody;
      fits = refl;
      others = refl;
      does = ap (on_object model.ASet)
          (operates s new w.caller w.ticket w.pid id steps o.reply nobody goes.still goes.gives);
      read = goes.read;
      childless = goes.childless;
    })

-- or it is left to others
pub sends-or : (id at : ℕ) (class : ℤ) (text : List ℕ) (nowait : Bool) (q new : Awaited Queue) (w : Who) (call : Call)
    (o : Option Replied) → call ≡ calls.MsgSnd at class text nowait → at ≡ id → q.waiters ≡ []
    → GoesOr q (try_send q.state nowait (send q.state w.pid class text)) (λ _. false) new o
    → PromptOr (Msg id) (held.Queue q) (waiting_with w call) (held.Queue new) o
sends-or id at class text nowait q new w call None is there nobody goes = ap held.Queue goes
sends-or id at class text nowait q new w call (Some o) is there nobody goes =
    subst (λ (c : Call). IsPrompt (Msg id) (held.Queue q) (waiting_with w c) (held.Queue new) o)
    (sym (is ∙ ap (λ (n : ℕ). calls.MsgSnd n class text nowait) there))
    (sends id class text nowait q new w o nobody goes)

pub receives-or : (id at : ℕ) (class : ℤ) (size : ℕ) (noerror nowait : Bool) (q new : Awaited Queue) (w : Who)
    (call : Call) (o : Option Replied) → call ≡ calls.MsgRcv at class size noerror nowait → at ≡ id → q.waiters ≡ []
    → GoesOr q (try_receive q.state nowait (receive q.state w.pid class size noerror))
    (has_read (calls.MsgRcv id class size noerror nowait)) new o
    → PromptOr (Msg id) (held.Queue q) (waiting_with w call) (held.Queue new) o
receives-or id at class size noerror nowait q new w call None is there nobody goes = ap held.Queue goes
receives-or id at class size noerror nowait q new w call (Some o) is there nobody goes =
    subst (λ (c : Call). IsPrompt (Msg id) (held.Queue q) (waiting_with w c) (held.Queue new) o)
    (sym (is ∙ ap (λ (n : ℕ). calls.MsgRcv n class size noerror nowait) there))
    (receives id class size noerror nowait q new w o nobody goes)
