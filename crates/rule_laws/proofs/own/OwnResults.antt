-- What a call of a process on itself comes to, on its row: it has its reply, and then does in line what it does at
-- once; or
-- it is a `waitpid` that has to wait, which changes nothing. Nobody is woken.
use Rattle.std.proofs.Common.{◌≡◌, ℕ, Bool, true, false, [], ◌∷◌, ◌++◌, Option, Some, None, refl, ap, sym, subst, ◌∙◌}
use Rattle.std.specs.List.{flat_map}
use Rattle.std.proofs.lemmas.Bool.{false≢true}
use Rattle.pico_base.specs.declared.call.Call.{Call}
use Rattle.pico_base.specs.declared.call.Call.TheVariants as calls
use Rattle.pico_base.specs.declared.numbers.Name.TheVariants.{Proc}
use Rattle.pico_base.specs.declared.reply.Ending.{Ending}
use Rattle.pico_base.specs.declared.reply.Errno.{Errno}
use Rattle.pico_base.specs.declared.reply.Errno.TheVariants.{Echild}
use Rattle.pico_base.specs.declared.reply.Outcome.{Outcome}
use Rattle.pico_base.specs.declared.reply.Reply.{Reply}
use Rattle.pico_base.specs.declared.reply.Reply.TheVariants as replies
use Rattle.kernel_model.specs.Effect.{reply_alone}
use Rattle.kernel_model.specs.History.{number_in}
use Rattle.kernel_model.specs.Kernel.{Kernel}
use Rattle.kernel_model.specs.Row.{Row, Waited, Found, NotYet, NoChild, wait}
use Rattle.kernel_model.specs.Transition.{successor, transition}
use Rattle.waiting_model.specs.declared.callers.Waiting.{Waiting}
use Rattle.waiting_model.specs.Calls.{may_park}
use Rattle.waiting_model.specs.Linear.{BreaksOff, Counts, Does, LeadsTo, at_once, counts_waiters, is_broken_off, line_of}
use Rattle.waiting_model.specs.Marks.{Alive}
use Rattle.waiting_laws.proofs.Leads.{is_not_yet, waits_for_child}
use Rattle.node_model.specs.Awaiting.{Applied, on_own, on_whole, reap}
use Rattle.node_model.specs.Bodies.{Body, Living}
use Rattle.node_model.specs.Carrying.{is_own}
use Rattle.serve_laws.specs.Served.{DoesLine, DoLines, line, own_line as line_for, woken_lines}
use Rattle.serve_laws.proofs.InLine.{serving-is-in-line}

reap-wakes : (row : Row) (nohang : Bool) (w : Waited) → (reap row nohang w).wakes ≡ []
reap-wakes row nohang (Found child ending) = refl
reap-wakes row true NotYet = refl
reap-wakes row false NotYet = refl
reap-wakes row nohang NoChild = refl

-- nobody is woken
pub own-wakes : (row : Row) (pid : ℕ) (call : Call) → (on_own row pid call).wakes ≡ []
own-wakes row pid (calls.WaitPid child nohang) = reap-wakes row nohang (wait row.family child)
own-wakes row pid call = refl

some-none : (reply : Reply) → Some reply ≡ None → ⊥
some-none reply h = cc

-- ---- it has to wait

-- a `waitpid` without WNOHANG that finds only living children, which changes nothing
pub record WaitsForChild (row : Row) (pid : ℕ) (call : Call) : Type 0 where
  pub child : Option ℕ
  pub is : call ≡ calls.WaitPid child false
  pub not_yet : wait row.family child ≡ NotYet
  pub left : (on_own row pid call).left ≡ row

reap-waits : (row : Row) (pid : ℕ) (child : Option ℕ) (nohang : Bool) (w : Waited) → wait row.family child ≡ w
    → (reap row nohang w).own ≡ None → WaitsForChild row pid (calls.WaitPid child nohang)
reap-waits row pid child nohang (Found c ending) is h = absurd (some-none _ h)
reap-waits row pid child nohang NoChild is h = absurd (some-none _ h)
reap-waits row pid child true NotYet is h = absurd (some-none _ h)
reap-waits row pid child false NotYet is h =
    record {
      child = child;
      is = refl;
      not_yet = is;
      left = ap (λ w. (reap row false w).left) is;
    }

-- a call that has no reply is one
pub own-waits : (row : Row) (pid : ℕ) (call : Call) → (on_own row pid call).own ≡ None → WaitsForChild row pid call
own-waits row pid (calls.WaitPid child nohang) h =
    reap-waits row pid child nohang (wait row.family child) refl h
own-waits row pid call h = absurd (some-none _ h)

-- and so it is in the kernel in which callers wait
pub waits-in-whole : (row : Row) (pid : ℕ) (call : Call) (a : Alive) → a.row ≡ row → WaitsForChild row pid call
    → waits_for_child a call ≡ true
waits-in-whole row pid call a same w =
    ap (waits_for_child a) w.is
    ∙ ap (λ (r : Row). is_not_yet (wait r.family w.child)) same
    ∙ ap is_not_yet w.not_yet

-- ---- it has its reply

reap-replies : (row : Row) (nohang : Bool) (w : Waited) (reply : Reply) → nohang ≡ false
    → (reap row nohang w).own ≡ Some reply → is_not_yet w ≡ false
reap-replies row true w reply quick h = absurd (false≢true (sym quick))
reap-replies row false (Found child ending) reply quick h = refl
reap-replies row false NoChild reply quick h = refl
reap-replies row false NotYet reply quick h = absurd (some-none reply (sym h))

-- a call that has its reply waits for no child
pub replied-in-whole : (row : Row) (pid : ℕ) (call : Call) (reply : Reply) (a : Alive) → a.row ≡ row
    → (on_own row pid call).own ≡ Some reply → waits_for_child a call ≡ false
replied-in-whole row pid (calls.WaitPid child false) reply a same h =
    ap (λ (r : Row). is_not_yet (wait r.family child)) same
    ∙ reap-replies row false (wait row.family child) reply refl h
replied-in-whole row pid (calls.WaitPid child true) reply a same h = refl
replied-in-whole row pid call reply a same h = refl

echild-is : (reply : Reply) (error : Errno) → Some (replies.Fail Echild) ≡ Some reply → reply ≡ replies.Fail error
    → Echild ≡ error
echild-is reply error h is = cc

no-fault : (reply : Reply) (child : ℕ) (ending : Ending) (error : Errno)
    → Some (replies.Child child ending) ≡ Some reply
    → reply ≡ replies.Fail error → ⊥
no-fault reply child ending error h is = cc

no-fault-either : (reply : Reply) (n : ℕ) (error : Errno) → Some (replies.Num n) ≡ Some reply
    → reply ≡ replies.Fail error → ⊥
no-fault-either reply n error h is = cc

-- no wait for a child is broken off by such a reply
reap-unbroken : (row : Row) (nohang : Bool) (w : Waited) (reply : Reply) (error : Errno)
    → (reap row nohang w).own ≡ Some reply → reply ≡ replies.Fail error → is_broken_off error ≡ true → ⊥
reap-unbroken row nohang (Found child ending) reply error h is broken = no-fault reply child ending error h is
reap-unbroken row true NotYet reply error h is broken = no-fault-either reply 0 error h is
reap-unbroken row false NotYet reply error h is broken = some-none reply (sym h)
reap-unbroken row nohang NoChild reply error h is broken =
    false≢true (ap is_broken_off (echild-is reply error h is) ∙ broken)

own-unbroken : (row : Row) (pid : ℕ) (call : Call) (reply : Reply) (error : Errno) → is_own pid call ≡ true
    → (on_own row pid call).own ≡ Some reply → may_park call ≡ true → reply ≡ replies.Fail error
    → is_broken_off error ≡ true → ⊥
own-unbroken row pid (calls.WaitPid child nohang) reply error own h parks is broken =
    reap-unbroken row nohang (wait row.family child) reply error h is broken
own-unbroken row pid (calls.MsgSnd id class text nowait) reply error own h parks is broken = false≢true own
own-unbroken row pid (calls.MsgRcv id class size noerror nowait) reply error own h parks is broken = false≢true own
own-unbroken row pid (calls.SemOp id steps) reply error own h parks is broken = false≢true own
own-unbroken row pid call reply error own h parks is broken = false≢true parks

own-counts-not : (pid : ℕ) (call : Call) → is_own pid call ≡ true → counts_waiters call ≡ true → ⊥
own-counts-not pid (calls.SemGetNcnt id num) own counting = false≢true own
own-counts-not pid (calls.SemGetZcnt id num) own counting = false≢true own
own-counts-not pid call own counting = false≢true counting

alone-same : (a c : Reply) → reply_alone a ≡ reply_alone c → a ≡ c
alone-same a c h = some-reply a c (ap (λ (o : Outcome). o.own) h)
  where
    some-reply : (a c : Reply) → Some a ≡ Some c → a ≡ c
    some-reply a c h = cc

-- a call of one's own that has its reply does in line what it does at once
pub own-at-once : (k next : Kernel) (row : Row) (node pid : ℕ) (call : Call) (reply : Reply) → is_own pid call ≡ true
    → (on_own row pid call).own ≡ Some reply → LeadsTo k (line_of node pid call reply) next
    → transition k pid (at_once call) (number_in (Some reply)) ≡ Some (successor next (reply_alone reply))
own-at-once k next row node pid call reply own h (Does step) = step
own-at-once k next row node pid call reply own h (Counts n counting outcome step) =
    absurd (own-counts-not pid call own counting)
own-at-once k next row node pid call reply own h (BreaksOff error parks broken outcome same) =
    absurd (own-unbroken row pid call reply error own h parks (alone-same reply (replies.Fail error) outcome) broken)

-- and its line is that
pub own-line : (row : Row) (who : Waiting) (reply : Reply) → (on_own row who.pid who.call).own ≡ Some reply
    → DoesLine (Proc who.pid) (Living row) (line who.pid who.call reply) (Living (on_own row who.pid who.call).left)
own-line row who reply h =
    let d : Applied Body = on_whole (Proc who.pid) (Living row) who
    in let by_own : DoLines (Proc who.pid) (Living row) (line_for who (Some reply) ++ flat_map (woken_lines []) d.wakes)
    d.left =
    subst (λ o. DoLines (Proc who.pid) (Living row) (line_for who o ++ flat_map (woken_lines []) d.wakes) d.left) h
    (serving-is-in-line (Proc who.pid) (Living row) who refl tt)
    in let alone : DoLines (Proc who.pid) (Living row) (line who.pid who.call reply ∷ []) d.left =
    subst (λ ws. DoLines (Proc who.pid) (Living row) (line_for who (Some reply) ++ flat_map (woken_lines []) ws) d.left)
    (own-wakes row who.pid who.call) by_own
    in subst (λ after. DoesLine (Proc who.pid) (Living row) (line who.pid who.call reply) after) alone.2 alone.1
