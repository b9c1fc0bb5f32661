-- What has the same text in the grammar of a trace is the same.
use Rattle.std.proofs.Common.{◌≡◌, ◌∙◌, ℕ, true, ◌&&◌, nat_eq, List, [], ◌∷◌, ◌++◌, Option, Some, None, refl, sym, ap, subst}
use Rattle.std.specs.Prelude.{bytes_eq, if◌then◌else◌}
use Rattle.std.specs.List.{list_all}
use Rattle.std.proofs.lemmas.Bool.{and_parts, and_from, eqb-true, eq-eqb}
use Rattle.std.proofs.lemmas.Option.{same_Some}
use Rattle.std.proofs.lemmas.Slice.Eq.{bytes_eq-Decides}
use Rattle.pico_base.specs.Signal.{signal_number}
use Rattle.pico_base.specs.declared.call.Call.{Call}
use Rattle.pico_base.specs.declared.reply.Outcome.{Outcome}
use Rattle.pico_base.specs.declared.reply.Reply.{Reply}
use Rattle.pico_base.specs.declared.script.Script.{Script}
use Rattle.pico_base.specs.declared.signal.Sig.{Sig}
use Rattle.pico_base.specs.declared.signal.Sig.TheVariants.{Hup, Int, Quit, Kill, Usr1, Usr2, Pipe, Alrm, Term, Chld}
use Rattle.kernel_model.specs.Numbers.{is_u32}
use Rattle.kernel_model.specs.Script.{IsSoundScript}
use Rattle.kernel_model.specs.Trace.{call_text, reply_text}
use Rattle.trace_text.specs.Grammar.{is_call, is_own, is_outcome, is_reply, is_wake}
use Rattle.trace_text.specs.Reading.{call_at, reply_at}
use Rattle.trace_text.proofs.CallText.{call-again}
use Rattle.trace_text.proofs.ReplyLaws.{by-ends, reply-again}
use Rattle.trace_check.specs.FirstFault.{is_same_call, is_same_reply, is_same_own, are_same_wakes, is_same_outcome}

-- what follows a call in a line, and what follows a reply
after_call : List ℕ
after_call = 32 ∷ 61 ∷ []

after_reply : List ℕ
after_reply = 32 ∷ 98 ∷ []

-- a call that has the text of one in the grammar is that call
pub same-call : (script : Script) (call other : Call) → IsSoundScript script → is_call script other ≡ true
    → is_same_call script call other ≡ true → call ≡ other
unfolding after_call
same-call script call other sound there same =
    let p = and_parts (is_call script call) (bytes_eq (call_text script call) (call_text script other)) same in
    let text : call_text script call ≡ call_text script other =
    (bytes_eq-Decides (call_text script call) (call_text script other)).0 p.1 in
    let read : Some (call, after_call) ≡ Some (other, after_call) =
    sym (call-again script call [] sound p.0)
    ∙ ap (λ (t : List ℕ). call_at script (t ++ after_call)) text
    ∙ call-again script other [] sound there in
    ap (λ (x : Call × List ℕ). x.0) (same_Some (call, after_call) (other, after_call) read)

-- each call in the grammar is the same as itself
pub call-itself : (script : Script) (call : Call) → is_call script call ≡ true → is_same_call script call call ≡ true
call-itself script call there =
    and_from (is_call script call) (bytes_eq (call_text script call) (call_text script call)) there
    ((bytes_eq-Decides (call_text script call) (call_text script call)).1 refl)

-- so an equal call has its text
pub equal-call : (script : Script) (call other : Call) → is_call script call ≡ true → call ≡ other
    → true ≡ is_same_call script call other
equal-call script call other there same =
    sym (subst (λ (c : Call). is_same_call script call c ≡ true) same (call-itself script call there))

-- Replies.

-- a reply that has the text of one in the grammar is that reply
same-reply : (reply other : Reply) → is_reply other ≡ true → is_same_reply reply other ≡ true → reply ≡ other
unfolding after_reply
same-reply reply other there same =
    let p = and_parts (is_reply reply) (bytes_eq (reply_text reply) (reply_text other)) same in
    let text : reply_text reply ≡ reply_text other =
    (bytes_eq-Decides (reply_text reply) (reply_text other)).0 p.1 in
    let read : Some (reply, after_reply) ≡ Some (other, after_reply) =
    sym (reply-again after_reply (by-ends []) reply p.0)
    ∙ ap (λ (t : List ℕ). reply_at (t ++ after_reply)) text
    ∙ reply-again after_reply (by-ends []) other there in
    ap (λ (x : Reply × List ℕ). x.0) (same_Some (reply, after_reply) (other, after_reply) read)

-- each reply in the grammar is the same as itself
reply-itself : (reply : Reply) → is_reply reply ≡ true → is_same_reply reply reply ≡ true
reply-itself reply there =
    and_from (is_reply reply) (bytes_eq (reply_text reply) (reply_text reply)) there
    ((bytes_eq-Decides (reply_text reply) (reply_text reply)).1 refl)

-- so an equal reply has its text
pub equal-reply : (reply other : Reply) → is_reply reply ≡ true → reply ≡ other → true ≡ is_same_reply reply other
equal-reply reply other there same =
    sym (subst (λ (r : Reply). is_same_reply reply r ≡ true) same (reply-itself reply there))

-- Outcomes.

same-own : (own other : Option Reply) → is_own other ≡ true → is_same_own own other ≡ true → own ≡ other
same-own None None there same = refl
same-own None (Some other) there same = absurd (cc)
same-own (Some reply) None there same = absurd (cc)
same-own (Some reply) (Some other) there same = ap (λ (r : Reply). Some r) (same-reply reply other there same)

own-itself : (own : Option Reply) → is_own own ≡ true → is_same_own own own ≡ true
own-itself None there = refl
own-itself (Some reply) there = reply-itself reply there

same-wakes : (ws vs : List (ℕ × Reply)) → list_all is_wake vs ≡ true → are_same_wakes ws vs ≡ true → ws ≡ vs
same-wakes [] [] there same = refl
same-wakes [] (v ∷ vs) there same = absurd (cc)
same-wakes (w ∷ ws) [] there same = absurd (cc)
same-wakes (w ∷ ws) (v ∷ vs) there same =
    let p = and_parts (nat_eq w.0 v.0 && is_same_reply w.1 v.1) (are_same_wakes ws vs) same in
    let q = and_parts (nat_eq w.0 v.0) (is_same_reply w.1 v.1) p.0 in
    let t = and_parts (is_wake v) (list_all is_wake vs) there in
    let u = and_parts (is_u32 v.0) (is_reply v.1) t.0 in
    let pid : w.0 ≡ v.0 = eqb-true w.0 v.0 q.0 in
    let reply : w.1 ≡ v.1 = same-reply w.1 v.1 u.1 q.1 in
    ap (λ (n : ℕ). (n, w.1) ∷ ws) pid ∙ ap (λ (r : Reply). (v.0, r) ∷ ws) reply
    ∙ ap (λ (es : List (ℕ × Reply)). v ∷ es) (same-wakes ws vs t.1 p.1)

wakes-themselves : (ws : List (ℕ × Reply)) → list_all is_wake ws ≡ true → are_same_wakes ws ws ≡ true
wakes-themselves [] there = refl
wakes-themselves (w ∷ ws) there =
    let t = and_parts (is_wake w) (list_all is_wake ws) there in
    let u = and_parts (is_u32 w.0) (is_reply w.1) t.0 in
    and_from (nat_eq w.0 w.0 && is_same_reply w.1 w.1) (are_same_wakes ws ws)
    (and_from (nat_eq w.0 w.0) (is_same_reply w.1 w.1) (eq-eqb w.0 w.0 refl) (reply-itself w.1 u.1))
    (wakes-themselves ws t.1)

-- an outcome that is found to be one in the grammar is that outcome
pub same-outcome : (outcome other : Outcome) → is_outcome other ≡ true → is_same_outcome outcome other ≡ true
    → outcome ≡ other
same-outcome outcome other there same =
    let p = and_parts (is_same_own outcome.own other.own) (are_same_wakes outcome.woken other.woken) same in
    let t = and_parts (is_own other.own) (list_all is_wake other.woken) there in
    let own = same-own outcome.own other.own t.0 p.0 in
    let woken = same-wakes outcome.woken other.woken t.1 p.1 in
    ap (λ (o : Option Reply). record { own = o; woken = outcome.woken }) own
    ∙ ap (λ (ws : List (ℕ × Reply)). record { own = other.own; woken = ws }) woken

-- each outcome in the grammar is the same as itself
pub outcome-itself : (outcome : Outcome) → is_outcome outcome ≡ true → is_same_outcome outcome outcome ≡ true
outcome-itself outcome there =
    let t = and_parts (is_own outcome.own) (list_all is_wake outcome.woken) there in
    and_from (is_same_own outcome.own outcome.own) (are_same_wakes outcome.woken outcome.woken)
    (own-itself outcome.own t.0) (wakes-themselves outcome.woken t.1)

-- the signal of a number
numbered : ℕ → Sig
numbered n =
    if nat_eq n 1 then Hup else
    if nat_eq n 2 then Int else
    if nat_eq n 3 then Quit else
    if nat_eq n 4 then Kill else
    if nat_eq n 5 then Usr1 else
    if nat_eq n 6 then Usr2 else
    if nat_eq n 7 then Pipe else
    if nat_eq n 8 then Alrm else
    if nat_eq n 9 then Term else Chld

numbered-is : (g : Sig) → numbered (signal_number g) ≡ g
unfolding numbered
numbered-is Hup = refl
numbered-is Int = refl
numbered-is Quit = refl
numbered-is Kill = refl
numbered-is Usr1 = refl
numbered-is Usr2 = refl
numbered-is Pipe = refl
numbered-is Alrm = refl
numbered-is Term = refl
numbered-is Chld = refl

-- no two signals have the same number
pub same-signal : (g h : Sig) → signal_number g ≡ signal_number h → g ≡ h
same-signal g h same = sym (numbered-is g) ∙ ap numbered same ∙ numbered-is h
