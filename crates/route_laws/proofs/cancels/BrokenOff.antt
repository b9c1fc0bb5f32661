-- A wait that is broken off is a line that leaves the kernel as it was.
use Rattle.std.proofs.Common.{Some, ap, false, inl, inr, refl, sym, true, ℕ, ◌∙◌, ◌≡◌}
use Rattle.std.proofs.lemmas.Bool.{false≢true}
use Rattle.std.specs.List.{list_any}
use Rattle.pico_base.specs.declared.call.Call.{Call}
use Rattle.pico_base.specs.declared.reply.Errno.{Errno}
use Rattle.pico_base.specs.declared.reply.Reply.TheVariants as replies
use Rattle.pico_base.specs.declared.script.Script.{Script}
use Rattle.number_maps.specs.Maps.{get}
use Rattle.kernel_model.specs.Fitting.{IsDue, Place, Places, due, is_killed, move_on, place_after, places_after}
use Rattle.kernel_model.specs.Kernel.{Kernel}
use Rattle.kernel_model.specs.Script.{is_exit, is_fork}
use Rattle.waiting_model.specs.Calls.{may_park}
use Rattle.waiting_model.specs.Linear.{BreaksOff, is_broken_off, line_of}
use Rattle.node_model.specs.Caller.{Caller, caller_place}
use Rattle.entry_laws.proofs.History.{moved-is, place-moves, places-stay}
use Rattle.entry_laws.proofs.Others.{goes}
use Rattle.entry_laws.proofs.Places.{goes-on, left-shrinks}
use Rattle.entry_laws.specs.Entering.{Makes, MayMake}
use Rattle.rule_laws.proofs.own.Entries.{EntryLeaves}
use Rattle.rule_laws.proofs.own.Served.{served-no-exit, served-no-fork, served-not-killed}
use Rattle.route_laws.proofs.served.AllTurns.{parks-served}

not-fork : (call : Call) → may_park call ≡ true → is_fork call ≡ false
not-fork call h = served-no-fork call (parks-served call h)

not-exit : (call : Call) → may_park call ≡ true → is_exit call ≡ false
not-exit call h = served-no-exit call (parks-served call h)

pub not-killed : (call : Call) → may_park call ≡ true → is_killed call ≡ false
not-killed call h = served-not-killed call (parks-served call h)

module _ (k : Kernel) (pid : ℕ) (call : Call) (error : Errno) (may : MayMake k pid call) (parks : may_park call ≡ true)
    (broken : is_broken_off error ≡ true) where
  -- the line
  pub breaks-off : Makes k pid call (replies.Fail error) k
  breaks-off = record { leads = λ node. BreaksOff error parks broken refl refl }

  due-itself : (place : Place) → IsDue place call → due place ≡ Some call
  due-itself place (inl h) = h
  due-itself place (inr h) = absurd (false≢true (sym (not-killed call parks) ∙ h.0))

  -- where its process is in the history then
  pub breaks-place : (script : Script) (places : Places) (node : ℕ) (place : Place)
      → get (places_after script places (line_of node pid call (replies.Fail error)) place) pid
      ≡ Some (place_after place call (Some (replies.Fail error)))
  breaks-place script places node place =
      place-moves script places node pid call (replies.Fail error) place (not-fork call parks)
      ∙ ap Some (moved-is place call (Some (replies.Fail error)) (not-killed call parks))

  -- it leaves the rest as an entry does
  pub breaks-leaves : (script : Script) (places : Places) (node p : ℕ) (caller : Caller)
      → get places pid ≡ Some (caller_place script p caller) → IsDue (caller_place script p caller) call
      → EntryLeaves k places pid k
      (places_after script places (line_of node pid call (replies.Fail error)) (caller_place script p caller))
  breaks-leaves script places node p caller there is_due =
      let place : Place = caller_place script p caller
      in let moved : move_on place call (Some (replies.Fail error)) ≡ place_after place call (Some (replies.Fail error))
      =
      moved-is place call (Some (replies.Fail error)) (not-killed call parks)
      in record {
        valid = may.valid;
        others = goes k pid call (replies.Fail error) k may.valid may.alone breaks-off;
        lived = record { alive = may.alive; lives = may.lives };
        lives = record { alive = may.alive; lives = may.lives };
        processes = λ q. refl;
        kin = λ parent q h. h;
        listed = λ q child one. one;
        was = place;
        place_was = there;
        now = place_after place call (Some (replies.Fail error));
        place_is = breaks-place script places node place;
        places_stay = λ q d. places-stay script places node pid call (replies.Fail error) place q (not-fork call parks)
            d;
        more_left = goes-on script p caller call (replies.Fail error) (due-itself place is_due) (not-exit call parks);
        shrinks = λ test h. left-shrinks place call (replies.Fail error) test
            (ap (λ (x : Place). list_any test x.left) moved ∙ h);
      }
