-- Along a history that fits a sound script all bodies stay small.
use Rattle.std.proofs.Common.{◌≡◌, ℕ, ◌-◌, ◌<◌, ◌^◌, true, false, List, [], ◌∷◌, ◌++◌, Option, Some, None, is_some, refl, ap, sym, subst, ◌∙◌, inl, inr}
use Rattle.std.specs.List.{list_all, list_any}
use Rattle.std.specs.Option.{option_and_then}
use Rattle.std.proofs.lemmas.Bool.{cases_Bool, cases_eq, false≢true}
use Rattle.pico_base.specs.declared.call.Call.{Call}
use Rattle.pico_base.specs.declared.call.Call.TheVariants as calls
use Rattle.pico_base.specs.declared.reply.Entry.{Entry}
use Rattle.pico_base.specs.declared.reply.Outcome.{Outcome}
use Rattle.pico_base.specs.declared.reply.Reply.{Reply}
use Rattle.pico_base.specs.declared.reply.Reply.TheVariants as replies
use Rattle.pico_base.specs.declared.script.Block.{Block}
use Rattle.pico_base.specs.declared.script.Script.{Script}
use Rattle.number_maps.specs.Maps.{get, put}
use Rattle.number_maps.proofs.LookUps.{get-first, get-later, get-put-same, get-put-other}
use Rattle.kernel_model.specs.Fitting.{FitsFrom, Place, Places, block_at, block_place, child_vars, move_on, opening_places, places_after, places_after_fork}
use Rattle.kernel_model.specs.History.{number_in}
use Rattle.kernel_model.specs.Kernel.{Kernel, Process, alive_in, opening}
use Rattle.kernel_model.specs.Script.{IsSoundScript, Vars, is_line}
use Rattle.kernel_model.specs.Valid.{IsValid}
use Rattle.kernel_model.specs.Waiting.{is_waiting}
use Rattle.kernel_model.specs.Effect.{reply_alone}
use Rattle.kernel_model.specs.Transition.{successor, transition}
use Rattle.kernel_laws.specs.Reachable.{IsReachableKernel}
use Rattle.kernel_laws.proofs.Plain.{from_some, not_some}
use Rattle.kernel_laws.proofs.Steps.{Step, step}
use Rattle.kernel_laws.proofs.ValidLaws.{reachable_kernels_are_valid_lemma}
use Rattle.waiting_model.specs.Linear.{BreaksOff, Counts, Does, LeadInLine, LeadsTo, at_once}
use Rattle.entry_laws.proofs.History.{replays-more}
use Rattle.entry_laws.proofs.Places.{left-shrinks}
use Rattle.deed_laws.specs.Small.{IsSmallCall}
use Rattle.deed_laws.proofs.Families.{used-is-small}
use Rattle.bound_laws.proofs.Calls.{at-once-waits-not, count-waits-not, due-is-ranged, is_bad, none-bad, ranged-is-small, small-at-once}
use Rattle.bound_laws.proofs.Scripts.{test-at}
use Rattle.bound_laws.proofs.SmallBodies.{AreAllSmall, entry-leaves-small, opening-is-small}

-- ---- places

-- no line that is left anywhere is bad
abbrev AreFine : Places → Type 0
AreFine places = (pid : ℕ) (place : Place) → get places pid ≡ Some place → list_any is_bad place.left ≡ false

fine-put : (places : Places) (k : ℕ) (v : Place) → AreFine places → list_any is_bad v.left ≡ false
    → AreFine (put places k v)
fine-put places k v fine own pid place is =
    elim (cases_eq pid k) [
      | inl same ↦
          ap (λ (x : Place). list_any is_bad x.left)
          (from_some place v (sym is ∙ ap (get (put places k v)) same ∙ get-put-same places k v)) ∙ own
      | inr other ↦ fine pid place (sym (get-put-other places k v pid other) ∙ is)
    ]

fine-moved : (place : Place) (call : Call) (reply : Reply) → list_any is_bad place.left ≡ false
    → list_any is_bad (move_on place call (Some reply)).left ≡ false
fine-moved place call reply fine =
    elim (cases_Bool (list_any is_bad (move_on place call (Some reply)).left)) [
      | inr f ↦ f
      | inl t ↦ absurd (false≢true (sym fine ∙ left-shrinks place call reply is_bad t))
    ]

-- ---- lines

-- a process that lives has a number of four bytes
pub caller-is-low : (k : Kernel) (pid : ℕ) → IsReachableKernel k → (o : Option Process) → get k.processes pid ≡ o
    → is_some (option_and_then alive_in o) ≡ true → pid < 2 ^ 32
caller-is-low k pid reachable None is lives = absurd (false≢true lives)
caller-is-low k pid reachable (Some v) is lives =
    let valid : IsValid k = reachable_kernels_are_valid_lemma k reachable
    in used-is-small k reachable pid (valid.used_processes pid ∙ ap is_some is)

-- a kernel that a line leads to is reachable
line-reaches : (k next : Kernel) (e : Entry) → IsReachableKernel k → LeadsTo k e next → IsReachableKernel next
line-reaches k next e reachable (Does gives) = (
  reachable.0 ++ record e { call = at_once e.call } ∷ [],
  replays-more opening k next reachable.0 (record e { call = at_once e.call }) reachable.1 gives,
)
line-reaches k next e reachable (Counts n counts is gives) =
    let none : Entry = record e { outcome = reply_alone (replies.Num 0) }
    in (reachable.0 ++ none ∷ [], replays-more opening k next reachable.0 none reachable.1 gives)
line-reaches k next e reachable (BreaksOff error waits broken is same) = subst IsReachableKernel (sym same) reachable

-- what an entry of the kernel in which nobody waits leaves
made-small : (k next : Kernel) (pid n : ℕ) (call : Call) (outcome : Outcome) → IsReachableKernel k → AreAllSmall k
    → IsSmallCall call → is_waiting call ≡ false → transition k pid call n ≡ Some (successor next outcome)
    → AreAllSmall next
made-small k next pid n call outcome reachable all small waits_not gives =
    let s : Step k pid call n next outcome = step k pid call n next outcome gives
    in entry-leaves-small k next pid n call outcome all
    (record {
      valid = reachable_kernels_are_valid_lemma k reachable;
      low = caller-is-low k pid reachable (get k.processes pid) refl (ap is_some s.lives);
      small = small;
      not_waiting = waits_not;
      gives = gives;
    })

done-small : (k next : Kernel) (pid n : ℕ) (call : Call) (outcome : Outcome) → IsReachableKernel k → AreAllSmall k
    → IsSmallCall call → transition k pid (at_once call) n ≡ Some (successor next outcome) → AreAllSmall next
done-small k next pid n (calls.Withdraw name) outcome reachable all small gives =
    let s : Step k pid (calls.Withdraw name) n next outcome =
    step k pid (calls.Withdraw name) n next outcome gives
    in not_some s.result s.gives
done-small k next pid n call outcome reachable all small gives =
    made-small k next pid n (at_once call) outcome reachable all (small-at-once call small)
    (at-once-waits-not call refl)
    gives

-- What a line leaves is small, as it was before.
line-leaves-small : (k next : Kernel) (e : Entry) → IsReachableKernel k → AreAllSmall k → IsSmallCall e.call
    → LeadsTo k e next → AreAllSmall next
line-leaves-small k next e reachable all small (Does gives) =
    done-small k next e.pid (number_in e.outcome.own) e.call e.outcome reachable all small gives
line-leaves-small k next e reachable all small (Counts n counts is gives) =
    made-small k next e.pid 0 e.call (reply_alone (replies.Num 0)) reachable all small (count-waits-not e.call counts)
    gives
line-leaves-small k next e reachable all small (BreaksOff error waits broken is same) = subst AreAllSmall (sym same) all

-- ---- histories

module _ (script : Script) (sound : IsSoundScript script) where
  block-is-fine : (block : ℕ) (o : Option Block) (vars : Vars) → block_at script block ≡ o
      → list_any is_bad (block_place o vars).left ≡ false
  block-is-fine block None vars is = refl
  block-is-fine block (Some b) vars is =
      none-bad b.lines (test-at (λ (x : Block). list_all is_line x.lines) script.blocks (block - 1) b sound.lines is)

  forked-is-fine : (places : Places) (place : Place) (call : Call) (reply : Reply) → AreFine places
      → AreFine (places_after_fork script places place call (Some reply))
  forked-is-fine places place (calls.Fork block) (replies.Num child) fine =
      fine-put places child (block_place (block_at script block) (child_vars place)) fine
      (block-is-fine block (block_at script block) (child_vars place) refl)
  forked-is-fine places place (calls.Fork block) reply fine = fine
  forked-is-fine places place call reply fine = fine

  entry-is-fine : (places : Places) (e : Entry) (place : Place) (reply : Reply) → AreFine places
      → get places e.pid ≡ Some place → e.outcome.own ≡ Some reply → AreFine (places_after script places e place)
  entry-is-fine places e place reply fine there is =
      subst (λ (o : Option Reply). AreFine
      (places_after_fork script (put places e.pid (move_on place e.call o)) place e.call o)) (sym is)
      (forked-is-fine (put places e.pid (move_on place e.call (Some reply))) place e.call reply
      (fine-put places e.pid (move_on place e.call (Some reply)) fine
      (fine-moved place e.call reply (fine e.pid place there))))

  small-along : (lines : List Entry) (k last : Kernel) (places final : Places) → IsReachableKernel k
      → LeadInLine k lines last → FitsFrom script places lines final → AreFine places → AreAllSmall k
      → AreAllSmall last
  small-along [] k last places final reachable leads fits fine small = subst AreAllSmall leads small
  small-along (e ∷ lines) k last places final reachable leads fits fine small =
      small-along lines leads.next last (places_after script places e fits.place) final
      (line-reaches k leads.next e reachable leads.leads) leads.rest fits.rest
      (entry-is-fine places e fits.place fits.replied.reply fine fits.there
      (ap (λ (o : Outcome). o.own) fits.replied.alone))
      (line-leaves-small k leads.next e reachable small
      (ranged-is-small e.call (due-is-ranged fits.place e.call (fine e.pid fits.place fits.there) fits.due))
      leads.leads)

  opening-is-fine : AreFine (opening_places script)
  opening-is-fine pid place is =
      elim (cases_eq pid 1) [
        | inl same ↦
            ap (λ (x : Place). list_any is_bad x.left)
            (from_some place first (sym is ∙ get-first (1, first) [] pid same))
            ∙ block-is-fine 1 (block_at script 1) [] refl
        | inr other ↦ not_some place (sym (get-later (1, first) [] pid other) ∙ is)
      ]
    where
      first : Place
      first = block_place (block_at script 1) []

  -- The bodies of a kernel that a history of the script leads to in line are small.
  pub history-leaves-small : (lines : List Entry) (k : Kernel) (places : Places) → LeadInLine opening lines k
      → FitsFrom script (opening_places script) lines places → AreAllSmall k
  history-leaves-small lines k places legal fits =
      small-along lines opening k (opening_places script) places ([], refl) legal fits opening-is-fine opening-is-small
