-- What an entry of the journal stands for, by the call of the given script that is due.
use Rattle.std.proofs.Common.{◌≡◌, ◌∙◌, ℕ, Bool, true, false, List, [], ◌∷◌, Option, Some, None, is_some, refl, ap, sym, subst, inl, inr}
use Rattle.std.specs.Prelude.{if◌then◌else◌}
use Rattle.std.specs.List.{list_all}
use Rattle.std.specs.Option.{option_map}
use Rattle.std.proofs.lemmas.Bool.{true≢false, and_parts}
use Rattle.pico_base.specs.declared.call.Call.{Call}
use Rattle.pico_base.specs.declared.call.Call.TheVariants as calls
use Rattle.pico_base.specs.declared.reply.Entry.{Entry}
use Rattle.pico_base.specs.declared.reply.Outcome.{Outcome}
use Rattle.kernel_model.specs.Script.{Vars, call_of}
use Rattle.kernel_model.specs.Fitting.{Place, IsDue, due, is_killed}
use Rattle.waiting_model.specs.Calls.{withdrawn_from}
use Rattle.waiting_model.specs.Fitting.{Progress, IsNext}
use Rattle.pico_base.specs.declared.script.Line.{Line}
use Rattle.mq_model.specs.declared.errno.MqErrno.{MqErrno}
use Rattle.mq_model.specs.Fitting.{written_call}
use Rattle.mq_model.specs.Given.{is_given_call, is_given_line}
use Rattle.mq_model.specs.Shown.{stands_for, shown_at}
use Rattle.mq_model.specs.SystemV.{refusal_of, carried_out, system_v_call, shown_call, shown, shown_by, shown_plainly, shown_refused}
use Rattle.mq_laws.specs.Together.{is_carried_out}
use Rattle.mq_laws.proofs.GivenCalls.{written-again, carried, shown-given, no-withdrawal, given-from}
use Rattle.mq_laws.proofs.Places.{system_v_place, system_v_progress, same-due}

-- An entry stands for one that is shown as it is, or for a given call that its arguments refuse.
pub data Stands (e : Entry) (p : Progress) : Type 0 where
  Plainly : (shown_at e (Some p) ≡ shown_plainly e) → (is_carried_out e.call ≡ true)
      → IsNext p (written_call (shown_call e.call)) → Stands e p
  Refused : (given : Call) (why : MqErrno) → (shown_at e (Some p) ≡ shown_refused e given why)
      → (e.call ≡ calls.SigPending) → (refusal_of given ≡ Some why) → (is_given_call given ≡ true)
      → IsNext p given → Stands e p

-- ---- what is due

-- a call that is due is next, unless it is a withdrawal
next-from : (p : Progress) (call : Call) → withdrawn_from call ≡ None → p.parked ≡ false → IsDue p.place call
    → IsNext p call
next-from p (calls.Withdraw name) h free due = absurd (cc)
next-from p call h free due = (free, due)

-- the call due in the given script, for which this one of the script of System V stands
record DueAs (place : Place) (call : Call) : Type 0 where
  given : Call
  is_due : due place ≡ Some given
  stands : system_v_call given ≡ call

due-by : (place : Place) (call : Call) (o : Option Call) → due place ≡ o → option_map system_v_call o ≡ Some call
    → DueAs place call
due-by place call None is h = absurd (cc)
due-by place call (Some given) is h = let same : system_v_call given ≡ call = cc in
    record { given = given; is_due = is; stands = same }

due-as : (place : Place) (call : Call) → due (system_v_place place) ≡ Some call → DueAs place call
due-as place call h = due-by place call (due place) refl (sym (same-due place) ∙ h)

-- all lines that are left are of a given script
abbrev pub is_given_place : Place → Bool
is_given_place place = list_all is_given_line place.left

given-in : (lines : List Line) (tried : ℕ) (vars : Vars) (call : Call) → list_all is_given_line lines ≡ true
    → due (record { left = lines; tried = tried; vars = vars }) ≡ Some call → is_given_call call ≡ true
given-in [] tried vars call h is = absurd (cc)
given-in (line ∷ lines) tried vars call h is =
    let same : call_of line vars ≡ call = cc
    in ap is_given_call (sym same)
    ∙ (given-from line.call vars line.from ∙ (and_parts (is_given_line line) (list_all is_given_line lines) h).0)

pub given-due : (place : Place) (call : Call) → is_given_place place ≡ true → due place ≡ Some call
    → is_given_call call ≡ true
given-due place call h is = given-in place.left place.tried place.vars call h is

-- ---- entries

-- the entry that is shown of a due call

unrefused : (e : Entry) (call : Call) (o : Option Call) (given : Call) → o ≡ Some given → refusal_of given ≡ None
    → shown e (stands_for call o) ≡ shown_plainly e
unrefused e calls.SigPending o given is kept =
    ap (shown e) is ∙ ap (λ (why : Option MqErrno). shown_by e given why) kept
unrefused e call o given is kept = refl

refused-as : (e : Entry) (call : Call) (o : Option Call) (given : Call) (why : MqErrno) → call ≡ calls.SigPending
    → o ≡ Some given → refusal_of given ≡ Some why → shown e (stands_for call o) ≡ shown_refused e given why
refused-as e call o given why at is refuses =
    ap (λ (c : Call). shown e (stands_for c o)) at
    ∙ (ap (shown e) is ∙ ap (λ (w : Option MqErrno). shown_by e given w) refuses)

if-refused : (given : Call) (o : Option MqErrno) → refusal_of given ≡ o
    → system_v_call given ≡ (if is_some o then calls.SigPending else carried_out given)
if-refused given o is = ap (λ (w : Option MqErrno). if is_some w then calls.SigPending else carried_out given) is

module _ (e : Entry) (p : Progress) (given_place : is_given_place p.place ≡ true) where
  due-stands : (d : DueAs p.place e.call) → withdrawn_from e.call ≡ None → p.parked ≡ false
      → (o : Option MqErrno) → refusal_of d.given ≡ o → Stands e p
  due-stands d carries free None kept =
      let is : is_given_call d.given ≡ true = given-due p.place d.given given_place d.is_due
      in let call : carried_out d.given ≡ e.call = sym (if-refused d.given None kept) ∙ d.stands
      in let plain : withdrawn_from d.given ≡ None = no-withdrawal d.given (ap withdrawn_from d.stands ∙ carries)
      in let written : written_call (shown_call e.call) ≡ d.given =
      ap (λ (c : Call). written_call (shown_call c)) (sym call)
      ∙ (ap written_call (shown-given d.given is kept) ∙ written-again d.given is)
      in Plainly (unrefused e e.call (due p.place) d.given d.is_due kept)
      (ap is_carried_out (sym call) ∙ carried d.given is kept)
      (subst (IsNext p) (sym written) (next-from p d.given plain free (inl d.is_due)))
  due-stands d carries free (Some why) refuses =
      let at : e.call ≡ calls.SigPending = sym d.stands ∙ if-refused d.given (Some why) refuses
      in let plain : withdrawn_from d.given ≡ None = no-withdrawal d.given (ap withdrawn_from d.stands ∙ carries)
      in Refused d.given why (refused-as e e.call (due p.place) d.given why at d.is_due refuses) at refuses
      (given-due p.place d.given given_place d.is_due) (next-from p d.given plain free (inl d.is_due))

abbrev pub entry_of : ℕ → Call → Outcome → ℕ → Entry
entry_of pid call outcome by = record { pid = pid; call = call; outcome = outcome; by = by }

killed-stands : (pid : ℕ) (call : Call) (outcome : Outcome) (by : ℕ) (p : Progress) → p.parked ≡ false
    → is_killed call ≡ true → (other : Call) → due p.place ≡ Some other → Stands (entry_of pid call outcome by) p
killed-stands pid (calls.Killed sig) outcome by p free is other due_is =
    Plainly refl refl (free, inr (refl, other, due_is))
killed-stands pid call outcome by p free is other due_is = absurd (true≢false (sym is))

called-stands : (e : Entry) (p : Progress) → is_given_place p.place ≡ true → withdrawn_from e.call ≡ None
    → p.parked ≡ false → IsDue (system_v_place p.place) e.call → Stands e p
called-stands e p given_place carries free (inl is) =
    let d : DueAs p.place e.call = due-as p.place e.call is
    in due-stands e p given_place d carries free (refusal_of d.given) refl
called-stands e p given_place carries free (inr killed) =
    killed-stands e.pid e.call e.outcome e.by p free killed.0 (due-as p.place killed.1 killed.2).given
    (due-as p.place killed.1 killed.2).is_due

next-stands : (pid : ℕ) (call : Call) (outcome : Outcome) (by : ℕ) (p : Progress) → is_given_place p.place ≡ true
    → IsNext (system_v_progress p) call → Stands (entry_of pid call outcome by) p
next-stands pid (calls.Withdraw name) outcome by p given_place next = Plainly refl refl next
next-stands pid call outcome by p given_place next =
    called-stands (entry_of pid call outcome by) p given_place refl next.0 next.1

-- each entry that is next in the script of System V
pub stands : (e : Entry) (p : Progress) → is_given_place p.place ≡ true → IsNext (system_v_progress p) e.call
    → Stands e p
stands e p given_place next = next-stands e.pid e.call e.outcome e.by p given_place next
