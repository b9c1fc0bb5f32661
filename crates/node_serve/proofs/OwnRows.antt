-- A call of a process on its own row, by the definition of a served call.
use Rattle.std.proofs.Common.{◌≡◌, ◌∙◌, ℕ, Bool, true, false, not, ◌||◌, List, [], ◌∷◌, ◌++◌, map, Option, Some, None, Result, Ok, Err, IsSome, OnErr, refl, sym, ap, subst}
use Rattle.std.specs.Prelude.{if◌then◌else◌}
use Rattle.std.specs.List.{filter}
use Rattle.std.specs.Option.{option_and_then, option_map, option_map_or}
use Rattle.pico_base.specs.declared.call.Call.{Call}
use Rattle.pico_base.specs.declared.call.Call.TheVariants as calls
use Rattle.pico_base.specs.declared.call.Home.{Home}
use Rattle.pico_base.specs.declared.call.Home.TheVariants as homes
use Rattle.pico_base.specs.declared.numbers.Name.{Name}
use Rattle.pico_base.specs.declared.numbers.Name.TheVariants.{Proc}
use Rattle.pico_base.specs.declared.reply.Reply.{Reply}
use Rattle.pico_base.specs.Home.{home_of}
use Rattle.kernel_model.specs.Row as kernel
use Rattle.kernel_model.specs.Row.{Waited, Found, NotYet, NoChild, wait}
use Rattle.fork_wait.specs.Children.{is_child}
use Rattle.waiting_model.specs.declared.callers.Waiting.{Waiting}
use Rattle.waiting_model.specs.declared.callers.Wake.{Wake}
use Rattle.deed_box.specs.Deeds.{AreRising}
use Rattle.node_model.specs.Awaiting.{Applied, in_whole, on_own, on_whole, reap}
use Rattle.node_model.specs.Bodies as model
use Rattle.node_model.specs.Bodies.{fits_name, kernel_with, waiters_of}
use Rattle.node_model.specs.Carrying.{is_own_home, is_removal}
use Rattle.node_model.specs.Kinds.{Named, get_named, put_all, put_named}
use Rattle.node_model.specs.Serving as definition
use Rattle.node_model.specs.Serving.{actor, admits, caller_if, has_read, has_read_if, name_for, name_in, serve_by, serve_on, woken_reads}
use Rattle.serve_laws.specs.Served.{IsServedAs, found_gone}
use Rattle.serve_laws.proofs.OnWhole.{served-is-on_whole}
use Rattle.node_serve.specs.declared.body.Body.{Body}
use Rattle.node_serve.specs.declared.body.Body.TheVariants.{Living}
use Rattle.node_serve.specs.declared.body.Row.{Row}
use Rattle.node_serve.specs.Bodies.{bodies_of, body_of, row_of}
use Rattle.node_serve.specs.Own.{AnswersOwnOr, HasOwn, HasOwnOr, OwnOr, is_on_own_row, own_reply, reply_on_body, reply_on_held, unread}
use Rattle.node_serve.specs.Prompt.{IsAnswered}
use Rattle.node_serve.specs.Serving.{bury_found, child_in, may_be_served}
use Rattle.node_serve.specs.Waits.{alone}
use Rattle.node_serve.proofs.Defined.{buried, has-effect, looked-up}
use Rattle.node_serve.proofs.KernelLemmas.{bodies-get, bodies-put, differ}
use Rattle.node_serve.proofs.Making.{makes-own}
use Rattle.node_serve.proofs.ServingLemmas.{put-again}

-- ---- a call on a row

wait-leaves : (row left : kernel.Row) (nohang : Bool) (w : Waited) → reap row nohang w ≡ alone left None → left ≡ row
wait-leaves row left nohang (Found child ending) h =
    let o = ap (λ (d : Applied kernel.Row). d.own) h in absurd (cc)
wait-leaves row left true NotYet h = let o = ap (λ (d : Applied kernel.Row). d.own) h in absurd (cc)
wait-leaves row left false NotYet h = sym (ap (λ (d : Applied kernel.Row). d.left) h)
wait-leaves row left nohang NoChild h = let o = ap (λ (d : Applied kernel.Row). d.own) h in absurd (cc)

-- a call that has to wait leaves the row as it is
own-leaves : (row left : kernel.Row) (pid : ℕ) (call : Call) → on_own row pid call ≡ alone left None → left ≡ row
own-leaves row left pid (calls.WaitPid child nohang) h = wait-leaves row left nohang (wait row.family child) h
own-leaves row left pid call h = let o = ap (λ (d : Applied kernel.Row). d.own) h in absurd (cc)

same-row : (row left : Row) → row_of left ≡ row_of row → left ≡ row
same-row row left h = ap (λ (k : kernel.Row). record { signals = k.signals; family = k.family }) h

-- what a call comes to on the row of a living process that isn't its own child is the reply that it is due
pub is-due : (old : Body) (row left : Row) (who : Waiting) (is : Bool) (o : Option Reply) → old ≡ Living row
    → is ≡ is_child row.family who.pid → not is ≡ true
    → on_own (row_of row) who.pid who.call ≡ alone (row_of left) o → o ≡ reply_on_body old who
unfolding reply_on_body
is-due old row left who true o lives asked apart does = absurd (cc)
is-due old row left who false o lives asked apart does =
    sym (ap (λ (b : Body). reply_on_body b who) lives
    ∙ ap (λ (b : Bool). if b then None else (on_own (row_of row) who.pid who.call).own) (sym asked)
    ∙ ap (λ (d : Applied kernel.Row). d.own) does)

-- a process that is its own child is due no reply
pub none-to-own-child : (old : Body) (row : Row) (who : Waiting) (is : Bool) → old ≡ Living row
    → is ≡ is_child row.family who.pid → is ≡ true → None ≡ reply_on_body old who
unfolding reply_on_body
none-to-own-child old row who is lives asked found =
    sym (ap (λ (b : Body). reply_on_body b who) lives
    ∙ ap (λ (b : Bool). if b then None else (on_own (row_of row) who.pid who.call).own) (sym asked ∙ found))

-- nor is one that doesn't live
pub none-to-the-dead : (old : Body) (who : Waiting) → ((row : Row) → old ≡ Living row → ⊥)
    → None ≡ reply_on_body old who
unfolding reply_on_body
none-to-the-dead (Living row) who dead = absurd (dead row refl)
none-to-the-dead old who dead = refl

-- nor is a call that isn't carried out on its caller's row
pub none-elsewhere : (old : Named Body) (who : Waiting) → is_on_own_row who.pid who.call ≡ false
    → None ≡ own_reply old who
unfolding own_reply
none-elsewhere old who elsewhere =
    sym (ap (λ (b : Bool). if b then reply_on_held old who else None) elsewhere)

-- a call on its caller's row has the reply that it is due on the body that is held
pub due-on-own-row : (old : Named Body) (who : Waiting) (o : Option Reply) → is_on_own_row who.pid who.call ≡ true
    → o ≡ reply_on_held old who → o ≡ own_reply old who
unfolding own_reply
due-on-own-row old who o on_row is =
    is ∙ sym (ap (λ (b : Bool). if b then reply_on_held old who else None) on_row)

-- where memory was refused, the call that found a child is due a reply with it
pub child-is-due : {X E : Type 0} (r : Result X E) (old : Named Body) (who : Waiting) (o : Option Reply)
    → o ≡ own_reply old who → IsSome (child_in o) → OnErr r (IsSome (child_in (own_reply old who)))
child-is-due (Ok x) old who o is found = tt
child-is-due (Err e) old who o is found = subst (λ (own : Option Reply). IsSome (child_in own)) is found

-- what a call comes to on a living process's row
pub own-or : (old : Body) (row left : Row) (who : Waiting) (is : Bool) (o : Option Reply) → old ≡ Living row
    → is ≡ is_child row.family who.pid → not is ≡ true
    → on_own (row_of row) who.pid who.call ≡ alone (row_of left) o → OwnOr old who (Living left) o
own-or old row left who is None lives asked apart does =
    ap Living (same-row row left (own-leaves (row_of row) (row_of left) who.pid who.call does)) ∙ sym lives
own-or old row left who is (Some reply) lives asked apart does = record {
  makes = makes-own old row who.pid is lives asked apart;
  does = ap (λ (b : Body). on_whole (Proc who.pid) (body_of b) who) lives
      ∙ ap (λ (d : Applied kernel.Row). in_whole model.Living d) does;
}

-- and on the body of a name that is held
pub has-own-or : (old : Named Body) (who : Waiting) (body left : Body) (o : Option Reply) → AreRising old
    → get_named old (Proc who.pid) ≡ Some body → OwnOr body who left o
    → HasOwnOr old who (put_named old (Proc who.pid) left) o
has-own-or old who body left None rising held p =
    ap (put_named old (Proc who.pid)) p ∙ put-again old (Proc who.pid) body rising held
has-own-or old who body left (Some reply) rising held p =
    record { body = body; left = left; held = held; does = p; after = refl }

-- ---- which calls these are

own-served : (pid : ℕ) (call : Call) → is_on_own_row pid call ≡ true → may_be_served call ≡ true
own-served pid calls.GetPid on = refl
own-served pid (calls.Kill target sig) on = refl
own-served pid (calls.SigAction sig act) on = refl
own-served pid (calls.SigProcMask how set) on = refl
own-served pid calls.SigPending on = refl
own-served pid (calls.Handled sig) on = refl
own-served pid (calls.WaitPid child nohang) on = refl
own-served pid call on = differ on

own-reads : (pid : ℕ) (call : Call) (reply : Reply) → is_on_own_row pid call ≡ true → false ≡ has_read call reply
own-reads pid (calls.MsgRcv id class size noerror nowait) reply on = differ on
own-reads pid (calls.SemOp id steps) reply on = differ on
own-reads pid call reply on = refl

own-home : (pid : ℕ) (h : Home) → is_own_home h ≡ true → name_in pid h ≡ Some (Proc pid)
own-home pid homes.Own own = refl
own-home pid h own = differ own

own-names : (pid : ℕ) (call : Call) → is_on_own_row pid call ≡ true → name_for pid call ≡ Some (Proc pid)
own-names pid calls.GetPid on = refl
own-names pid (calls.Kill target sig) on = own-home pid (home_of pid (calls.Kill target sig)) on
own-names pid (calls.SigAction sig act) on = refl
own-names pid (calls.SigProcMask how set) on = refl
own-names pid calls.SigPending on = refl
own-names pid (calls.Handled sig) on = refl
own-names pid (calls.WaitPid child nohang) on = refl
own-names pid call on = differ on

or-true : (b : Bool) → (b || true) ≡ true
or-true true = refl
or-true false = refl

-- ---- by the definition

own-answered : (old new : Named Body) (who : Waiting) (reply : Reply) → is_on_own_row who.pid who.call ≡ true
    → (h : HasOwn old who new reply) → (after : Named Body) → after ≡ bury_found (Some reply) new
    → IsAnswered old (Proc who.pid) who after (unread reply)
own-answered old new who reply on_row h after is =
    let name : Name = Proc who.pid
    in let b : model.Body = body_of h.body
    in let may : may_be_served who.call ≡ true = own-served who.pid who.call on_row
    in let names : name_for who.pid who.call ≡ Some name = own-names who.pid who.call on_row
    in let lives : b ≡ model.Living h.does.makes.row = h.does.makes.lives
    in let e = has-effect (kernel_with name b) who (actor b) 0 who.call may
    in let s : definition.Served = serve_by name b who e.made
    in let on : serve_on name b who ≡ Some s = ap (option_map (serve_by name b who)) e.is
    in let same : IsServedAs name (on_whole name b who) s =
    served-is-on_whole name b who s names (ap (fits_name name) lives) (λ own. h.does.makes) on
    in let replies : Some reply ≡ s.own = sym (same.own ∙ ap (λ (d : Applied model.Body). d.own) h.does.does)
    in let woken : [] ≡ s.wakes = sym (same.wakes ∙ ap (λ (d : Applied model.Body). d.wakes) h.does.does)
    in let changes : s.changes ≡ (name, body_of h.left) ∷ found_gone (Some reply) =
    same.changes ∙ ap (λ (d : Applied model.Body). (name, d.left) ∷ found_gone d.own) h.does.does
    in record {
      served = s;
      admitted = ap (λ (o : Option model.Body). option_map_or (λ body. admits body who) o true)
          (bodies-get old name ∙ ap (option_map body_of) h.held)
          ∙ ap (λ (body : model.Body). admits body who) lives ∙ or-true (is_removal who.call);
      is = looked-up old who may (Some name) names
          ∙ ap (option_and_then (λ body. serve_on name body who))
          (bodies-get old name ∙ ap (option_map body_of) h.held)
          ∙ on;
      after = ap bodies_of is ∙ buried (Some reply) new
          ∙ ap (λ (d : model.Deeds). put_all d (found_gone (Some reply)))
          (ap bodies_of h.after ∙ bodies-put old name h.left)
          ∙ sym (ap (put_all (bodies_of old)) changes);
      replies = replies;
      woken = woken;
      read = ap (λ (reads : Bool). caller_if reads who.caller ++ []) (own-reads who.pid who.call reply on_row)
          ∙ ap (λ (own : Option Reply). caller_if (has_read_if who.call own) who.caller ++ []) replies
          ∙ ap (λ (ws : List Wake). caller_if (has_read_if who.call e.made.own) who.caller
          ++ map (λ w. w.caller) (filter (woken_reads (waiters_of b)) ws)) woken;
    }

-- what a call on its caller's row comes to, once a child that it found is gone
pub answers-own-or : (old new after : Named Body) (who : Waiting) (o : Option Reply)
    → is_on_own_row who.pid who.call ≡ true → HasOwnOr old who new o → after ≡ bury_found o new
    → AnswersOwnOr old who after o
answers-own-or old new after who None on_row h is = is ∙ h
answers-own-or old new after who (Some reply) on_row h is = own-answered old new who reply on_row h after is
