-- What the parts of the code's judging come to.
use Rattle.std.proofs.Common.{◌≡◌, ◌∙◌, ℕ, true, false, List, Option, Some, None, refl, sym, ap, subst}
use Rattle.std.specs.Prelude.{Ok, Err}
use Rattle.pico_base.specs.declared.call.Call.{Call}
use Rattle.pico_base.specs.declared.reply.Outcome.{Outcome}
use Rattle.pico_base.specs.declared.script.Script.{Script}
use Rattle.pico_base.specs.declared.signal.Sig.{Sig}
use Rattle.number_maps.specs.Maps.{Numbered, get}
use Rattle.kernel_model.specs.History.{number_in}
use Rattle.waiting_model.specs.Kernel.{Kernel, living_at}
use Rattle.waiting_model.specs.Transition.{transition}
use Rattle.waiting_model.specs.Fitting.{Places}
use Rattle.trace_text.specs.declared.fault.CheckFault.{CheckFault}
use Rattle.trace_text.specs.declared.fault.CheckFault.TheVariants.{NotTheScript}
use Rattle.trace_check.specs.declared.cursor.Cursor.{Cursor}
use Rattle.trace_check.specs.Cursors.{AreSteady, due_in, may_come_in, moved_on, places_of}
use Rattle.trace_check.specs.FirstFault.{due_at, last_doom, may_come, judge_outcome, judge_totals, or_fault, with_call, places_with, judge_made, GivesFault}
use Rattle.trace_check.specs.Judging.{so_far_of}
use Rattle.trace_check.proofs.Cases.{fault-goes, goes-next}
use Rattle.trace_check.proofs.PlaceLaws.{due-is, come-is, comes}
use Rattle.trace_check.proofs.SteadyLaws.{after-entry}

module _ (script : Script) (line : ℕ) (kernel : Kernel) (cursors : Numbered Cursor) (pid : ℕ) (call : Call)
    (outcome : Outcome) (doom : Option Sig) (dooms : doom ≡ last_doom (living_at kernel pid)) where
  -- whether the call may come, by the doom that the code finds
  comes-as : may_come_in script cursors pid doom call ≡ may_come script (so_far_of script kernel cursors) pid call
  comes-as =
      ap (λ (d : Option Sig). may_come_in script cursors pid d call) dooms
      ∙ sym (come-is script kernel cursors pid call)

  -- another call is due
  pub refused : (found : Option Call) → found ≡ due_in script cursors pid doom
      → may_come_in script cursors pid doom call ≡ false
      → judge_made script line (so_far_of script kernel cursors) pid call outcome
      ≡ Err (NotTheScript line found (Some call))
  refused found dues may =
      let no : may_come script (so_far_of script kernel cursors) pid call ≡ false = sym comes-as ∙ may in
      let due : found ≡ due_at (so_far_of script kernel cursors) pid =
      dues ∙ ap (due_in script cursors pid) dooms ∙ sym (due-is script kernel cursors pid) in
      rw no (ap (λ (c : Option Call). Err (NotTheScript line c (Some call))) (sym due))

  module _ (may : may_come_in script cursors pid doom call ≡ true) where
    carried-as : judge_made script line (so_far_of script kernel cursors) pid call outcome
        ≡ or_fault (judge_outcome line outcome (transition kernel pid call (number_in outcome.own)))
        (λ k. Ok (with_call script (so_far_of script kernel cursors) pid call outcome k))
    carried-as =
        let yes : may_come script (so_far_of script kernel cursors) pid call ≡ true = sym comes-as ∙ may in
        rw yes refl

    -- the kernel does otherwise
    pub illegal : (fault : CheckFault)
        → GivesFault fault (judge_outcome line outcome (transition kernel pid call (number_in outcome.own)))
        → GivesFault fault (judge_made script line (so_far_of script kernel cursors) pid call outcome)
    illegal fault given =
        subst (GivesFault fault) (sym carried-as)
        (fault-goes fault (judge_outcome line outcome (transition kernel pid call (number_in outcome.own)))
        (λ k. Ok (with_call script (so_far_of script kernel cursors) pid call outcome k)) given)

    -- no fault
    pub made : AreSteady script cursors → (next : Kernel)
        → judge_outcome line outcome (transition kernel pid call (number_in outcome.own)) ≡ Ok next
        → judge_made script line (so_far_of script kernel cursors) pid call outcome
        ≡ Ok (so_far_of script next (moved_on script cursors pid call outcome))
    made steady next is =
        let c = comes script cursors pid doom call may in
        let places : places_of script (moved_on script cursors pid call outcome)
        ≡ places_with script (places_of script cursors) pid call outcome (get (places_of script cursors) pid) =
        after-entry script cursors pid call outcome c.cursor c.there c.may steady in
        carried-as
        ∙ goes-next (judge_outcome line outcome (transition kernel pid call (number_in outcome.own))) next
        (λ k. Ok (with_call script (so_far_of script kernel cursors) pid call outcome k)) is
        ∙ ap (λ (ps : Places). Ok (record { kernel = next; places = ps })) (sym places)

-- at the totals the process of the smallest number that goes on is named
pub going : (script : Script) (line entries : ℕ) (kernel : Kernel) (cursors : Numbered Cursor) (after : List ℕ)
    (pid : ℕ) (doom : Option Sig) (found : Option Call) (o : Option ℕ) → Some pid ≡ o
    → doom ≡ last_doom (living_at kernel pid) → found ≡ due_in script cursors pid doom
    → judge_totals line entries (so_far_of script kernel cursors) after o ≡ Err (NotTheScript line found None)
going script line entries kernel cursors after pid doom found o there dooms dues =
    let due : found ≡ due_at (so_far_of script kernel cursors) pid =
    dues ∙ ap (due_in script cursors pid) dooms ∙ sym (due-is script kernel cursors pid) in
    ap (judge_totals line entries (so_far_of script kernel cursors) after) (sym there)
    ∙ ap (λ (c : Option Call). Err (NotTheScript line c None)) (sym due)
