-- A history's text by its journal, entry by entry.
use Rattle.std.proofs.Common.{◌≡◌, ◌∙◌, ℕ, ◌+◌, Bool, false, List, [], ◌∷◌, ◌++◌, length, Option, Some, None, refl, sym, ap, subst, append_assoc, suc, ◌<◌, drop, get_or, arith, pos, negsuc}
use Rattle.std.proofs.lemmas.List.{append-nil, drop_more}
use Rattle.std.proofs.lemmas.List.Sums.{sum_by-drop_more}
use Rattle.std.specs.Prelude.{count_by, sum_by, if◌then◌else◌}
use Rattle.std.specs.List.{flat_map}
use Rattle.std.specs.Option.{option_and_then}
use Rattle.pico_base.specs.declared.call.Call.{Call}
use Rattle.pico_base.specs.declared.call.Call.TheVariants as calls
use Rattle.pico_base.specs.declared.reply.Errno.TheVariants as errors
use Rattle.pico_base.specs.declared.reply.Reply.{Reply}
use Rattle.pico_base.specs.declared.reply.Reply.TheVariants as replies
use Rattle.pico_base.specs.declared.reply.Entry.{Entry}
use Rattle.pico_base.specs.declared.script.Script.{Script}
use Rattle.number_maps.specs.Maps.{get}
use Rattle.kernel_model.specs.Trace.{is_fork, is_not_ready_reply, is_refused_reply, replies_where, totals_line}
use Rattle.waiting_model.specs.Fitting.{Places, Progress, opening_places}
use Rattle.trace_text.specs.Totals.{Counts, tally_of}
use Rattle.mq_model.specs.declared.errno.MqErrno.{MqErrno}
use Rattle.mq_model.specs.declared.errno.MqErrno.TheVariants.{Base, Ebadf, Emsgsize}
use Rattle.mq_model.specs.Calls.{MqCall, MqEntry, Other, Refused}
use Rattle.mq_model.specs.Fitting.{written_error}
use Rattle.mq_model.specs.Shown.{due_in, history_from, history_of, places_behind, shown_at, stands_for}
use Rattle.mq_model.specs.SystemV.{given_call, refusal_of, shown, shown_call, shown_on_queues, shown_own}
use Rattle.mq_model.specs.Text.{is_mq_fork, is_mq_not_ready, is_mq_refused, mq_line, mq_replies_where, mq_totals_line, mq_trace_text}
use Rattle.posix_mq.specs.declared.text.Refusal.{Refusal}
use Rattle.posix_mq.specs.Told.{counted, counted_from, counted_of, refusal_at, refused_as, told_of}

-- What is shown is what is told of an entry.

told-by : (e : Entry) (call : Call) (why : Option MqErrno) → refusal_of call ≡ why
    → told_of e (refused_as (Some call)) ≡ shown e (Some call)
told-by e call None is = rw is refl
told-by e call (Some why) is = rw is refl

told-of : (e : Entry) (due : Option Call) → told_of e (refused_as due) ≡ shown e due
told-of e None = refl
told-of e (Some call) = told-by e call (refusal_of call) refl

told-at : (e : Entry) (progress : Option Progress) → told_of e (refusal_at e progress) ≡ shown_at e progress
told-at e progress = told-of e (stands_for e.call (due_in progress))

-- What is counted counts as much.

not-ready-on : (reply : Reply) → is_mq_not_ready (Some (shown_on_queues reply)) ≡ is_not_ready_reply (Some reply)
not-ready-on (replies.Fail errors.Einval) = refl
not-ready-on (replies.Fail errors.Enomsg) = refl
not-ready-on (replies.Fail e) = refl
not-ready-on (replies.Message (pos class) text) = refl
not-ready-on reply = refl

refused-on : (reply : Reply) → is_mq_refused (Some (shown_on_queues reply)) ≡ is_refused_reply (Some reply)
refused-on (replies.Fail errors.Einval) = refl
refused-on (replies.Fail errors.Enomsg) = refl
refused-on (replies.Fail e) = refl
refused-on (replies.Message (pos class) text) = refl
refused-on reply = refl

not-ready-own : (call : MqCall) (own : Option Reply) → is_mq_not_ready (shown_own call own) ≡ is_not_ready_reply own
not-ready-own call None = refl
not-ready-own (Other call) (Some reply) = refl
not-ready-own call (Some reply) = not-ready-on reply

refused-own : (call : MqCall) (own : Option Reply) → is_mq_refused (shown_own call own) ≡ is_refused_reply own
refused-own call None = refl
refused-own (Other call) (Some reply) = refl
refused-own call (Some reply) = refused-on reply

forks-shown : (call : Call) → is_mq_fork (shown_call call) ≡ is_fork call
forks-shown (calls.MsgGet None create excl) = refl
forks-shown (calls.MsgGet (Some name) create excl) = refl
forks-shown (calls.MsgSnd id (pos class) text nowait) = refl
forks-shown (calls.MsgSnd id (negsuc class) text nowait) = refl
forks-shown call = refl

-- an error counts as it is written
not-ready-error : (why : MqErrno)
    → is_mq_not_ready (Some (Refused why)) ≡ is_not_ready_reply (Some (replies.Fail (written_error why)))
not-ready-error (Base e) = refl
not-ready-error Ebadf = refl
not-ready-error Emsgsize = refl

refused-error : (why : MqErrno)
    → is_mq_refused (Some (Refused why)) ≡ is_refused_reply (Some (replies.Fail (written_error why)))
refused-error (Base e) = refl
refused-error Ebadf = refl
refused-error Emsgsize = refl

-- no fork is refused by its arguments
forkless : (call : Call) (why : MqErrno) → refusal_of call ≡ Some why → is_mq_fork (given_call call) ≡ false
forkless (calls.MsgSnd id (pos class) text nowait) why h = refl
forkless (calls.MsgSnd id (negsuc class) text nowait) why h = refl
forkless (calls.MsgRcv id class size noerror nowait) why h = refl
forkless call why h = absurd (cc)

-- the totals see the same of both
record Alike (m : MqEntry) (e : Entry) : Type 0 where
  pub forks : is_mq_fork m.call ≡ is_fork e.call
  pub not_ready : mq_replies_where is_mq_not_ready m.outcome ≡ replies_where is_not_ready_reply e.outcome
  pub refused : mq_replies_where is_mq_refused m.outcome ≡ replies_where is_refused_reply e.outcome

alike-plainly : (e : Entry) → Alike (told_of e None) (counted_of e None)
alike-plainly e =
    record {
      forks = forks-shown e.call;
      not_ready = ap (λ (b : Bool). count_by (λ w. is_not_ready_reply (Some w.1)) e.outcome.woken
          + (if b then 1 else 0))
          (not-ready-own (shown_call e.call) e.outcome.own);
      refused = ap (λ (b : Bool). count_by (λ w. is_refused_reply (Some w.1)) e.outcome.woken + (if b then 1 else 0))
          (refused-own (shown_call e.call) e.outcome.own);
    }

alike-refused : (e : Entry) (call : Call) (why : MqErrno) → refusal_of call ≡ Some why
    → Alike (told_of e (Some (record { call = call; why = why })))
    (counted_of e (Some (record { call = call; why = why })))
alike-refused e call why is =
    record {
      forks = forkless call why is;
      not_ready = ap (λ (b : Bool). 0 + (if b then 1 else 0)) (not-ready-error why);
      refused = ap (λ (b : Bool). 0 + (if b then 1 else 0)) (refused-error why);
    }

abbrev with_why : Call → Option MqErrno → Option Refusal
with_why call o = option_and_then (λ why. Some (record { call = call; why = why })) o

alike-by : (e : Entry) (call : Call) (o : Option MqErrno) → refusal_of call ≡ o
    → Alike (told_of e (with_why call o)) (counted_of e (with_why call o))
alike-by e call None is = alike-plainly e
alike-by e call (Some why) is = alike-refused e call why is

alike-due : (e : Entry) (due : Option Call) → Alike (told_of e (refused_as due)) (counted_of e (refused_as due))
alike-due e None = alike-plainly e
alike-due e (Some call) = alike-by e call (refusal_of call) refl

alike-at : (e : Entry) (progress : Option Progress)
    → Alike (shown_at e progress) (counted_of e (refusal_at e progress))
alike-at e progress =
    subst (λ (m : MqEntry). Alike m (counted_of e (refusal_at e progress))) (told-at e progress)
    (alike-due e (stands_for e.call (due_in progress)))

-- the same of both histories
record AllAlike (ms : List MqEntry) (es : List Entry) : Type 0 where
  pub len : length ms ≡ length es
  pub forks : count_by (λ m. is_mq_fork m.call) ms ≡ count_by (λ e. is_fork e.call) es
  pub not_ready : sum_by (λ m. mq_replies_where is_mq_not_ready m.outcome) ms
      ≡ sum_by (λ e. replies_where is_not_ready_reply e.outcome) es
  pub refused : sum_by (λ m. mq_replies_where is_mq_refused m.outcome) ms
      ≡ sum_by (λ e. replies_where is_refused_reply e.outcome) es

sum-more : {X : Type 0} (f : X → ℕ) (x : X) (xs : List X) → sum_by f (x ∷ xs) ≡ f x + sum_by f xs
sum-more f x xs = sum_by-drop_more f (x ∷ xs) 0 x (omega arith)

sums-alike : (f : MqEntry → ℕ) (g : Entry → ℕ) (m : MqEntry) (e : Entry) (ms : List MqEntry) (es : List Entry)
    → f m ≡ g e → sum_by f ms ≡ sum_by g es → sum_by f (m ∷ ms) ≡ sum_by g (e ∷ es)
sums-alike f g m e ms es first rest =
    sum-more f m ms ∙ ap (λ (n : ℕ). n + sum_by f ms) first ∙ ap (λ (n : ℕ). g e + n) rest ∙ sym (sum-more g e es)

one-alike : (m : MqEntry) (e : Entry) (ms : List MqEntry) (es : List Entry) → Alike m e → AllAlike ms es
    → AllAlike (m ∷ ms) (e ∷ es)
one-alike m e ms es one rest =
    record {
      len = ap suc rest.len;
      forks = sums-alike (λ m. if is_mq_fork m.call then 1 else 0) (λ e. if is_fork e.call then 1 else 0) m e ms es
          (ap (λ (b : Bool). if b then 1 else 0) one.forks) rest.forks;
      not_ready = sums-alike (λ m. mq_replies_where is_mq_not_ready m.outcome)
          (λ e. replies_where is_not_ready_reply e.outcome) m e ms es one.not_ready rest.not_ready;
      refused = sums-alike (λ m. mq_replies_where is_mq_refused m.outcome)
          (λ e. replies_where is_refused_reply e.outcome) m e ms es one.refused rest.refused;
    }

all-alike : (given : Script) (places : Places) (es : List Entry)
    → AllAlike (history_from given places es) (counted_from given places es)
all-alike given places [] = record { len = refl; forks = refl; not_ready = refl; refused = refl }
all-alike given places (e ∷ es) =
    let progress : Option Progress = get places e.pid in
    let next : Places = places_behind given places e progress in
    one-alike (shown_at e progress) (counted_of e (refusal_at e progress)) (history_from given next es)
    (counted_from given next es) (alike-at e progress) (all-alike given next es)

same-totals : (ms : List MqEntry) (es : List Entry) → AllAlike ms es → mq_totals_line ms ≡ totals_line es
same-totals ms es a = rw (a.len, a.forks, a.not_ready, a.refused) refl

-- the totals of a history are those of what is counted
pub totals-are : (given : Script) (journal : List Entry)
    → mq_totals_line (history_of given journal) ≡ totals_line (counted given journal)
totals-are given journal =
    same-totals (history_of given journal) (counted given journal) (all-alike given (opening_places given) journal)

-- The lines and counts so far, and what is left.
pub record Told (script given : Script) (journal : List Entry) (first out : List ℕ) (counts : Counts) (places : Places)
    (rest : List Entry) : Type 0 where
  pub text : out ++ flat_map (mq_line script) (history_from given places rest)
      ≡ first ++ flat_map (mq_line script) (history_of given journal)
  pub before : List Entry
  pub all : before ++ counted_from given places rest ≡ counted given journal
  pub tally : counts ≡ tally_of before

module _ (script given : Script) (journal : List Entry) (first : List ℕ) where
  pub told-first : (counts : Counts) (places : Places) → counts ≡ tally_of [] → places ≡ opening_places given
      → Told script given journal first first counts places journal
  told-first counts places none start =
      record {
        text = ap (λ (ps : Places). first ++ flat_map (mq_line script) (history_from given ps journal)) start;
        before = [];
        all = ap (λ (ps : Places). counted_from given ps journal) start;
        tally = none;
      }

  told-one : (out new : List ℕ) (counts more : Counts) (places behind : Places) (e : Entry) (rest : List Entry)
      (told : Told script given journal first out counts places (e ∷ rest))
      → new ≡ out ++ mq_line script (told_of e (refusal_at e (get places e.pid)))
      → more ≡ tally_of (told.before ++ counted_of e (refusal_at e (get places e.pid)) ∷ [])
      → behind ≡ places_behind given places e (get places e.pid)
      → Told script given journal first new more behind rest
  told-one out new counts more places behind e rest told line count next =
      let progress : Option Progress = get places e.pid in
      let line_of : List ℕ = mq_line script (shown_at e progress) in
      let counted_one : Entry = counted_of e (refusal_at e progress) in
      let after : Places = places_behind given places e progress in
      let lines : List ℕ = flat_map (mq_line script) (history_from given after rest) in
      let written : new ≡ out ++ line_of =
      line ∙ ap (λ (m : MqEntry). out ++ mq_line script m) (told-at e progress) in
      record {
        text =
            ap (λ (ps : Places). new ++ flat_map (mq_line script) (history_from given ps rest)) next
            ∙ ap (λ (o : List ℕ). o ++ lines) written ∙ append_assoc out line_of lines ∙ told.text;
        before = told.before ++ counted_one ∷ [];
        all =
            ap (λ (ps : Places). (told.before ++ counted_one ∷ []) ++ counted_from given ps rest) next
            ∙ append_assoc told.before (counted_one ∷ []) (counted_from given after rest) ∙ told.all;
        tally = count;
      }

  -- one entry more
  pub told-next : (out new : List ℕ) (counts more : Counts) (places behind : Places) (i : ℕ) (e : Entry)
      (told : Told script given journal first out counts places (drop i journal)) → i < length journal
      → e ≡ get_or journal i e → new ≡ out ++ mq_line script (told_of e (refusal_at e (get places e.pid)))
      → more ≡ tally_of (told.before ++ counted_of e (refusal_at e (get places e.pid)) ∷ [])
      → behind ≡ places_behind given places e (get places e.pid)
      → Told script given journal first new more behind (drop (i + 1) journal)
  told-next out new counts more places behind i e told within is line count next =
      let parts : drop i journal ≡ e ∷ drop (i + 1) journal =
      drop_more journal i e within ∙ ap (λ (x : Entry). x ∷ drop (i + 1) journal) (sym is) in
      let same : Told script given journal first out counts places (e ∷ drop (i + 1) journal) =
      record {
        text = ap (λ (es : List Entry). out ++ flat_map (mq_line script) (history_from given places es)) (sym parts)
            ∙ told.text;
        before = told.before;
        all = ap (λ (es : List Entry). told.before ++ counted_from given places es) (sym parts) ∙ told.all;
        tally = told.tally;
      } in
      told-one out new counts more places behind e (drop (i + 1) journal) same line count next

  pub told-text : (out : List ℕ) (counts : Counts) (places : Places) (rest : List Entry) → rest ≡ []
      → Told script given journal first out counts places rest
      → out ≡ first ++ flat_map (mq_line script) (history_of given journal)
  told-text out counts places rest end told =
      sym (append-nil out)
      ∙ ap (λ (es : List Entry). out ++ flat_map (mq_line script) (history_from given places es)) (sym end) ∙ told.text

  pub told-tally : (out : List ℕ) (counts : Counts) (places : Places) (rest : List Entry) → rest ≡ []
      → Told script given journal first out counts places rest → counts ≡ tally_of (counted given journal)
  told-tally out counts places rest end told =
      let whole : told.before ≡ counted given journal =
      sym (append-nil told.before)
      ∙ ap (λ (es : List Entry). told.before ++ counted_from given places es) (sym end) ∙ told.all in
      told.tally ∙ ap tally_of whole

-- the lines and the totals are the history's text
pub traced : (script given wanted : Script) (journal : List Entry) (first lines all : List ℕ) → given ≡ wanted
    → first ≡ [] → lines ≡ first ++ flat_map (mq_line script) (history_of given journal)
    → all ≡ lines ++ totals_line (counted given journal) → all ≡ mq_trace_text script (history_of wanted journal)
traced script given wanted journal first lines all same none told count =
    let history : List MqEntry = history_of given journal in
    count
    ∙ ap (λ (o : List ℕ). o ++ totals_line (counted given journal))
    (told ∙ ap (λ (o : List ℕ). o ++ flat_map (mq_line script) history) none)
    ∙ ap (λ (t : List ℕ). flat_map (mq_line script) history ++ t) (sym (totals-are given journal))
    ∙ ap (λ (g : Script). mq_trace_text script (history_of g journal)) same
