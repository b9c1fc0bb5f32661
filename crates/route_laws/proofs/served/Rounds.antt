-- What a call does on a body where callers wait, in turn: it has its reply, and then each who is woken; or it parks
-- behind those who wait.
use Rattle.std.proofs.Common.{◌≡◌, ◌⊎◌, ◌∙◌, ℕ, Bool, true, false, if◌then◌else◌, List, [], ◌∷◌, ◌++◌, map, Option, Some, None, refl, sym, ap, subst, inl, inr}
use Rattle.std.specs.Prelude.{Contains}
use Rattle.std.proofs.lemmas.Bool.{false≢true}
use Rattle.pico_base.specs.declared.call.Call.{Call}
use Rattle.pico_base.specs.declared.call.Call.TheVariants as calls
use Rattle.pico_base.specs.declared.numbers.Name.{Name}
use Rattle.pico_base.specs.declared.numbers.Name.TheVariants.{Proc, Msg, Sem}
use Rattle.pico_base.specs.declared.reply.Reply.{Reply}
use Rattle.pico_base.specs.declared.reply.Reply.TheVariants as replies
use Rattle.kernel_model.specs.Queue.{Queue}
use Rattle.kernel_model.specs.Row.{Row}
use Rattle.kernel_model.specs.SemaphoreSet.{SemaphoreSet}
use Rattle.waiting_model.specs.declared.callers.Waiting.{Waiting}
use Rattle.waiting_model.specs.declared.callers.Wake.{Wake}
use Rattle.waiting_model.specs.Calls.{may_park}
use Rattle.waiting_model.specs.Linear.{at_once}
use Rattle.waiting_model.specs.Queue.{carry_out_on_queue, try_queue}
use Rattle.waiting_model.specs.SemaphoreSet.{carry_out_on_set, carry_out_on_set_by, try_set}
use Rattle.waiting_model.specs.Waiters.{Attempt, Awaited, Carried, carry_out, carry_out_by, wake, wakes_at_removal, unawaited}
use Rattle.node_model.specs.Awaiting.{Applied, on_object, on_own, on_whole, removed}
use Rattle.node_model.specs.Bodies.{Body, Living, Ended, Gone, AQueue, ASet, Removed, bare, fits_name, waiters_of}
use Rattle.node_model.specs.Carrying.{Done, done, in_body, is_own, is_removal, on_body, on_queue, on_set}
use Rattle.node_model.specs.Kinds.{is_object}
use Rattle.serve_laws.specs.Served.{DoesLine, Does, Counts, BreaksOff, Line, WaitAt, line}
use Rattle.serve_laws.proofs.Rounds.{Rounds, without}
use Rattle.serve_laws.proofs.Serving.{ServesSo, Parks, Replies, serves-so, waits_behind}
use Rattle.waiting_laws.proofs.RemovalLines.{queue-waits, set-waits}

-- ---- in turn

-- who has a reply
pub record Answered : Type 0 where
  pub who : Waiting
  pub reply : Reply

-- this reply is theirs who waited so
abbrev pub answered : Waiting → Reply → Answered
answered who reply = record { who = who; reply = reply }

-- as the kernel says whom a call wakes
abbrev pub wake_of : Answered → Wake
wake_of a = wake a.who a.reply

-- these are taken out of those who wait, one after another
abbrev pub Takes : List Waiting → List Answered → List Waiting → Type 0
Takes ws [] left = ws ≡ left
Takes ws (a ∷ more) left = Contains ws a.who × Takes (without a.who.pid ws) more left

-- each has its reply in turn, by a line, while these wait on
abbrev pub InTurn : Name → List Waiting → Body → List Answered → Body → Type 0
InTurn name ws now [] last = now ≡ last
InTurn name ws now (a ∷ more) last =
    (next : Body) × DoesLine name (bare now) (line a.who.pid a.who.call a.reply) (bare next)
    × (waiters_of next ≡ ws) × InTurn name ws next more last

-- these wait there
abbrev pub with_waiters : Body → List Waiting → Body
with_waiters (AQueue q) ws = AQueue (record q { waiters = ws })
with_waiters (ASet s) ws = ASet (record s { waiters = ws })
with_waiters body ws = body

-- The caller has its reply, and then those who are woken, who are taken out of those who wait before any has.
pub record RepliesInTurn (name : Name) (body : Body) (who : Waiting) (d : Applied Body) : Type 0 where
  pub reply : Reply
  pub own : d.own ≡ Some reply
  pub woken : List Answered
  pub wakes : d.wakes ≡ map wake_of woken
  pub takes : Takes (waiters_of body) woken (waiters_of d.left)
  pub room : waiters_of (with_waiters body (waiters_of d.left)) ≡ waiters_of d.left
  pub lines : InTurn name (waiters_of d.left) (with_waiters body (waiters_of d.left)) (answered who reply ∷ woken)
      d.left

-- The caller has to wait, behind those who do.
pub record ParksBehind (name : Name) (body : Body) (who : Waiting) (d : Applied Body) : Type 0 where
  pub own : d.own ≡ None
  pub wakes : d.wakes ≡ []
  pub left : d.left ≡ with_waiters body (waiters_of body ++ who ∷ [])
  pub room : waiters_of d.left ≡ waiters_of body ++ who ∷ []
  pub parks : may_park who.call ≡ true
  pub object : is_object name ≡ true

-- ---- bodies

-- who waits at a body is no matter for its part of the kernel
pub bare-with : (body : Body) (ws : List Waiting) → bare (with_waiters body ws) ≡ bare body
bare-with (AQueue q) ws = refl
bare-with (ASet s) ws = refl
bare-with (Living row) ws = refl
bare-with (Ended ending) ws = refl
bare-with Gone ws = refl
bare-with Removed ws = refl

-- and with those who wait there it is as it was
pub with-own : (body : Body) → with_waiters body (waiters_of body) ≡ body
with-own (AQueue q) = refl
with-own (ASet s) = refl
with-own (Living row) = refl
with-own (Ended ending) = refl
with-own Gone = refl
with-own Removed = refl

-- a part of the kernel has nobody who waits
pub bare-twice : (body : Body) → bare (bare body) ≡ bare body
bare-twice (AQueue q) = refl
bare-twice (ASet s) = refl
bare-twice (Living row) = refl
bare-twice (Ended ending) = refl
bare-twice Gone = refl
bare-twice Removed = refl

with-bare : (body : Body) → with_waiters (bare body) (waiters_of body) ≡ body
with-bare (AQueue q) = refl
with-bare (ASet s) = refl
with-bare (Living row) = refl
with-bare (Ended ending) = refl
with-bare Gone = refl
with-bare Removed = refl

with-instead : (body : Body) (ws : List Waiting) → with_waiters (bare body) ws ≡ with_waiters body ws
with-instead (AQueue q) ws = refl
with-instead (ASet s) ws = refl
with-instead (Living row) ws = refl
with-instead (Ended ending) ws = refl
with-instead Gone ws = refl
with-instead Removed ws = refl

-- ---- room for those who wait

abbrev has_waiters : Body → Bool
has_waiters (AQueue q) = true
has_waiters (ASet s) = true
has_waiters body = false

bare-room : (body : Body) → has_waiters (bare body) ≡ has_waiters body
bare-room (AQueue q) = refl
bare-room (ASet s) = refl
bare-room (Living row) = refl
bare-room (Ended ending) = refl
bare-room Gone = refl
bare-room Removed = refl

none-waits : (body : Body) → has_waiters body ≡ false → waiters_of body ≡ []
none-waits (AQueue q) h = absurd (false≢true (sym h))
none-waits (ASet s) h = absurd (false≢true (sym h))
none-waits (Living row) h = refl
none-waits (Ended ending) h = refl
none-waits Gone h = refl
none-waits Removed h = refl

-- where there is none, nobody is put
room-for : (body : Body) (ws : List Waiting) → (has_waiters body ≡ false → ws ≡ [])
    → waiters_of (with_waiters body ws) ≡ ws
room-for (AQueue q) ws h = refl
room-for (ASet s) ws h = refl
room-for (Living row) ws h = sym (h refl)
room-for (Ended ending) ws h = sym (h refl)
room-for Gone ws h = sym (h refl)
room-for Removed ws h = sym (h refl)

-- ---- what a line leaves

-- it leaves a part of the kernel
object-plain : (t : Bool) (d : Done Body) → bare d.left ≡ d.left
    → (let e : Done Body = (if t then done Removed (replies.Num 0) else d) in bare e.left ≡ e.left)
object-plain true d h = refl
object-plain false d h = h

body-plain : (name : Name) (body : Body) (pid : ℕ) (call : Call) → bare body ≡ body
    → (let d : Done Body = on_body name body pid call in bare d.left ≡ d.left)
body-plain (Proc p) (Living row) pid call h = refl
body-plain (Proc p) (Ended ending) pid call h = refl
body-plain (Proc p) Gone pid call h = refl
body-plain (Proc p) (AQueue q) pid call h = h
body-plain (Proc p) (ASet s) pid call h = h
body-plain (Proc p) Removed pid call h = refl
body-plain (Msg id) (AQueue q) pid call h =
    object-plain (is_removal call) (in_body (λ x. AQueue (unawaited x)) (on_queue q.state pid call)) refl
body-plain (Msg id) (Living row) pid call h = refl
body-plain (Msg id) (Ended ending) pid call h = refl
body-plain (Msg id) Gone pid call h = refl
body-plain (Msg id) (ASet s) pid call h = h
body-plain (Msg id) Removed pid call h = refl
body-plain (Sem id) (ASet s) pid call h =
    object-plain (is_removal call) (in_body (λ x. ASet (unawaited x)) (on_set s.state pid call)) refl
body-plain (Sem id) (Living row) pid call h = refl
body-plain (Sem id) (Ended ending) pid call h = refl
body-plain (Sem id) Gone pid call h = refl
body-plain (Sem id) (AQueue q) pid call h = h
body-plain (Sem id) Removed pid call h = refl

-- and no room where there was none
body-roomless : (name : Name) (body : Body) (pid : ℕ) (call : Call) → has_waiters body ≡ false
    → (let d : Done Body = on_body name body pid call in has_waiters d.left ≡ false)
body-roomless name (AQueue q) pid call h = absurd (false≢true (sym h))
body-roomless name (ASet s) pid call h = absurd (false≢true (sym h))
body-roomless (Proc p) (Living row) pid call h = refl
body-roomless (Proc p) (Ended ending) pid call h = refl
body-roomless (Proc p) Gone pid call h = refl
body-roomless (Proc p) Removed pid call h = refl
body-roomless (Msg id) (Living row) pid call h = refl
body-roomless (Msg id) (Ended ending) pid call h = refl
body-roomless (Msg id) Gone pid call h = refl
body-roomless (Msg id) Removed pid call h = refl
body-roomless (Sem id) (Living row) pid call h = refl
body-roomless (Sem id) (Ended ending) pid call h = refl
body-roomless (Sem id) Gone pid call h = refl
body-roomless (Sem id) Removed pid call h = refl

line-plain : (name : Name) (before : Body) (l : Line) (after : Body) → DoesLine name before l after
    → bare before ≡ before → bare after ≡ after
line-plain name before l after (Does d is left_is reply_is) h =
    subst (λ b. bare b ≡ b) (ap (λ (x : Done Body). x.left) is ∙ left_is)
    (body-plain name before l.pid (at_once l.call) h)
line-plain name before l after (Counts n counts reply_is is) h =
    subst (λ b. bare b ≡ b) (ap (λ (x : Done Body). x.left) is) (body-plain name before l.pid l.call h)
line-plain name before l after (BreaksOff parks reply_is same) h = subst (λ b. bare b ≡ b) (sym same) h

line-roomless : (name : Name) (before : Body) (l : Line) (after : Body) → DoesLine name before l after
    → has_waiters before ≡ false → has_waiters after ≡ false
line-roomless name before l after (Does d is left_is reply_is) h =
    ap has_waiters (sym (ap (λ (x : Done Body). x.left) is ∙ left_is))
    ∙ body-roomless name before l.pid (at_once l.call) h
line-roomless name before l after (Counts n counts reply_is is) h =
    ap has_waiters (sym (ap (λ (x : Done Body). x.left) is)) ∙ body-roomless name before l.pid l.call h
line-roomless name before l after (BreaksOff parks reply_is same) h = ap has_waiters same ∙ h

rounds-roomless : (name : Name) (now : Body) (ws : List Waiting) (wakes : List Wake) (last : Body) (left : List Waiting)
    → Rounds name now ws wakes last left → has_waiters now ≡ false → has_waiters last ≡ false
rounds-roomless name now ws [] last left h none = ap has_waiters (sym h.0) ∙ none
rounds-roomless name now ws (w ∷ wakes) last left h none =
    rounds-roomless name h.next (without h.waiter.pid ws) wakes last left h.rest
    (line-roomless name now (line h.waiter.pid h.waiter.call w.reply) h.next h.does none)

-- ---- rounds, in turn

record RoundsInTurn (name : Name) (now : Body) (ws : List Waiting) (wakes : List Wake) (last : Body)
    (left : List Waiting) : Type 0 where
  woken : List Answered
  are : wakes ≡ map wake_of woken
  takes : Takes ws woken left
  lines : InTurn name left (with_waiters now left) woken (with_waiters last left)

-- the line, while others wait
line-with : (name : Name) (before : Body) (l : Line) (after : Body) (ws : List Waiting) → bare before ≡ before
    → bare after ≡ after → DoesLine name before l after
    → DoesLine name (bare (with_waiters before ws)) l (bare (with_waiters after ws))
line-with name before l after ws plain plain_after does =
    subst (λ b. DoesLine name b l (bare (with_waiters after ws))) (sym (bare-with before ws ∙ plain))
    (subst (λ b. DoesLine name before l b) (sym (bare-with after ws ∙ plain_after)) does)

rounds-in-turn : (name : Name) (now : Body) (ws : List Waiting) (wakes : List Wake) (last : Body) (left : List Waiting)
    → bare now ≡ now → (has_waiters last ≡ false → left ≡ []) → Rounds name now ws wakes last left
    → RoundsInTurn name now ws wakes last left
rounds-in-turn name now ws [] last left plain none h =
    record { woken = []; are = refl; takes = h.1; lines = ap (λ b. with_waiters b left) h.0 }
rounds-in-turn name now ws (w ∷ wakes) last left plain none h =
    let l : Line = line h.waiter.pid h.waiter.call w.reply
    in let next_plain : bare h.next ≡ h.next = line-plain name now l h.next h.does plain
    in let r : RoundsInTurn name h.next (without h.waiter.pid ws) wakes last left =
    rounds-in-turn name h.next (without h.waiter.pid ws) wakes last left next_plain none h.rest
    in record {
      woken = answered h.waiter w.reply ∷ r.woken;
      are = ap (λ v. v ∷ wakes) h.is ∙ ap (λ vs. wake h.waiter w.reply ∷ vs) r.are;
      takes = (h.among, r.takes);
      lines = (
        with_waiters h.next left,
        line-with name now l h.next left plain next_plain h.does,
        room-for h.next left
            (λ roomless. none (rounds-roomless name h.next (without h.waiter.pid ws) wakes last left h.rest roomless)),
        r.lines,
      );
    }

-- ---- a call that has its reply, and wakes others in rounds

replies-by-rounds : (name : Name) (body : Body) (who : Waiting) (d : Applied Body) (reply : Reply)
    → d.own ≡ Some reply → (after : Body) → DoesLine name (bare body) (line who.pid who.call reply) after
    → Rounds name after (waiters_of body) d.wakes (bare d.left) (waiters_of d.left) → RepliesInTurn name body who d
replies-by-rounds name body who d reply own after does h =
    let l : Line = line who.pid who.call reply
    in let left : List Waiting = waiters_of d.left
    in let plain : bare after ≡ after = line-plain name (bare body) l after does (bare-twice body)
    in let none : has_waiters (bare d.left) ≡ false → left ≡ [] =
    λ roomless. none-waits d.left (sym (bare-room d.left) ∙ roomless)
    in let none_then : has_waiters after ≡ false → left ≡ [] =
    λ roomless. none (rounds-roomless name after (waiters_of body) d.wakes (bare d.left) left h roomless)
    in let r : RoundsInTurn name after (waiters_of body) d.wakes (bare d.left) left =
    rounds-in-turn name after (waiters_of body) d.wakes (bare d.left) left plain none h
    in record {
      reply = reply;
      own = own;
      woken = r.woken;
      wakes = r.are;
      takes = r.takes;
      room = room-for body left
          (λ roomless. none_then (line-roomless name (bare body) l after does (bare-room body ∙ roomless)));
      lines = (
        with_waiters after left,
        subst (λ b. DoesLine name b l (bare (with_waiters after left))) (sym (bare-with body left))
            (subst (λ b. DoesLine name (bare body) l b) (sym (bare-with after left ∙ plain)) does),
        room-for after left none_then,
        subst (λ b. InTurn name left (with_waiters after left) r.woken b) (with-bare d.left) r.lines,
      );
    }

-- ---- a call that parks

abbrev pub OneOrOther : Name → Body → Waiting → Applied Body → Type 0
OneOrOther name body who d = RepliesInTurn name body who d ⊎ ParksBehind name body who d

none-or-some : {A : Type 0} (o : Option A) (x : A) → o ≡ None → o ≡ Some x → ⊥
none-or-some o x none some = cc

-- what parks is a call on a queue or a set that may have to wait
record WaitsBehind (name : Name) (who : Waiting) : Type 0 where
  object : is_object name ≡ true
  parks : may_park who.call ≡ true
  behind : (ws : List Waiting) → waits_behind name ws who ≡ ws ++ who ∷ []

queue-parks : (q : Awaited Queue) (who : Waiting) (t : Bool)
    → (let d : Applied Body =
    (if t then removed (wakes_at_removal q) else on_object AQueue (carry_out_on_queue q who)) in d.own ≡ None)
    → may_park who.call ≡ true
queue-parks q who true none = absurd (none-or-some _ (replies.Num 0) none refl)
queue-parks q who false none = by (try_queue q.state who.pid who.call) refl none
  where
    by : (found : Option (Attempt Queue)) → try_queue q.state who.pid who.call ≡ found
        → (let c : Carried Queue = carry_out_by try_queue q who found in c.own ≡ None) → may_park who.call ≡ true
    by None is parks = queue-waits q.state who.pid who.call is
    by (Some a) is parks = absurd (none-or-some _ a.reply parks refl)

set-tried : (s : Awaited SemaphoreSet) (who : Waiting)
    → (let c : Carried SemaphoreSet = carry_out try_set s who in c.own ≡ None) → may_park who.call ≡ true
set-tried s who none = by (try_set s.state who.pid who.call) refl none
  where
    by : (found : Option (Attempt SemaphoreSet)) → try_set s.state who.pid who.call ≡ found
        → (let c : Carried SemaphoreSet = carry_out_by try_set s who found in c.own ≡ None) → may_park who.call ≡ true
    by None is parks = set-waits s.state who.pid who.call is
    by (Some a) is parks = absurd (none-or-some _ a.reply parks refl)

set-by-call : (s : Awaited SemaphoreSet) (who : Waiting) (call : Call) → who.call ≡ call
    → (let c : Carried SemaphoreSet = carry_out_on_set_by s who call in c.own ≡ None) → may_park who.call ≡ true
set-by-call s who (calls.SemGetNcnt id num) is none = absurd (none-or-some _ _ none refl)
set-by-call s who (calls.SemGetZcnt id num) is none = absurd (none-or-some _ _ none refl)
set-by-call s who call is none = set-tried s who none

set-parks : (s : Awaited SemaphoreSet) (who : Waiting) (t : Bool)
    → (let d : Applied Body =
    (if t then removed (wakes_at_removal s) else on_object ASet (carry_out_on_set s who)) in d.own ≡ None)
    → may_park who.call ≡ true
set-parks s who true none = absurd (none-or-some _ (replies.Num 0) none refl)
set-parks s who false none = set-by-call s who who.call refl none

row-replies : (row : Row) (pid : ℕ) (call : Call) → is_own pid call ≡ false → (on_own row pid call).own ≡ None → ⊥
row-replies row pid (calls.WaitPid child nohang) other none = false≢true (sym other)
row-replies row pid call other none = none-or-some _ _ none refl

parks-at-object : (name : Name) (body : Body) (who : Waiting) → is_own who.pid who.call ≡ false
    → (on_whole name body who).own ≡ None → WaitsBehind name who
parks-at-object (Msg id) (AQueue q) who other none =
    record { object = refl; parks = queue-parks q who (is_removal who.call) none; behind = λ ws. refl }
parks-at-object (Sem id) (ASet s) who other none =
    record { object = refl; parks = set-parks s who (is_removal who.call) none; behind = λ ws. refl }
parks-at-object (Proc p) (Living row) who other none = absurd (row-replies row who.pid who.call other none)
parks-at-object (Proc p) (Ended ending) who other none = absurd (none-or-some _ _ none refl)
parks-at-object (Proc p) Gone who other none = absurd (none-or-some _ _ none refl)
parks-at-object (Proc p) (AQueue q) who other none = absurd (none-or-some _ _ none refl)
parks-at-object (Proc p) (ASet s) who other none = absurd (none-or-some _ _ none refl)
parks-at-object (Proc p) Removed who other none = absurd (none-or-some _ _ none refl)
parks-at-object (Msg id) (Living row) who other none = absurd (none-or-some _ _ none refl)
parks-at-object (Msg id) (Ended ending) who other none = absurd (none-or-some _ _ none refl)
parks-at-object (Msg id) Gone who other none = absurd (none-or-some _ _ none refl)
parks-at-object (Msg id) (ASet s) who other none = absurd (none-or-some _ _ none refl)
parks-at-object (Msg id) Removed who other none = absurd (none-or-some _ _ none refl)
parks-at-object (Sem id) (Living row) who other none = absurd (none-or-some _ _ none refl)
parks-at-object (Sem id) (Ended ending) who other none = absurd (none-or-some _ _ none refl)
parks-at-object (Sem id) Gone who other none = absurd (none-or-some _ _ none refl)
parks-at-object (Sem id) (AQueue q) who other none = absurd (none-or-some _ _ none refl)
parks-at-object (Sem id) Removed who other none = absurd (none-or-some _ _ none refl)

parks-behind : (name : Name) (body : Body) (who : Waiting) (d : Applied Body) → WaitsBehind name who → d.own ≡ None
    → d.wakes ≡ [] → bare d.left ≡ bare body → waiters_of d.left ≡ waits_behind name (waiters_of body) who
    → ParksBehind name body who d
parks-behind name body who d w none nobody same waits =
    let room : waiters_of d.left ≡ waiters_of body ++ who ∷ [] = waits ∙ w.behind (waiters_of body)
    in record {
      own = none;
      wakes = nobody;
      left = sym (with-bare d.left) ∙ ap (λ b. with_waiters b (waiters_of d.left)) same
          ∙ ap (with_waiters (bare body)) room ∙ with-instead body (waiters_of body ++ who ∷ []);
      room = room;
      parks = w.parks;
      object = w.object;
    }

-- ---- all together

by-serving : (name : Name) (body : Body) (who : Waiting) (d : Applied Body) → (d.own ≡ None → WaitsBehind name who)
    → ServesSo name body who d → OneOrOther name body who d
by-serving name body who d object (Parks none nobody same waits) =
    inr (parks-behind name body who d (object none) none nobody same waits)
by-serving name body who d object (Replies reply own after does rounds) =
    inl (replies-by-rounds name body who d reply own after does rounds)

-- A call that isn't the process's own has its reply, and wakes others, or parks behind them.
pub served-in-turn : (name : Name) (body : Body) (who : Waiting) → fits_name name body ≡ true
    → WaitAt name (waiters_of body) → is_own who.pid who.call ≡ false
    → OneOrOther name body who (on_whole name body who)
served-in-turn name body who fits wait other =
    by-serving name body who (on_whole name body who) (parks-at-object name body who other)
    (serves-so name body who fits wait)
