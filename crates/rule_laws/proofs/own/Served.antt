-- What a served call's line leaves, in the words of the invariant: of the kernel and the places, and of the bodies of
-- processes whose Checkpoints are on their way.
use Rattle.std.proofs.Common.{◌≡◌, ℕ, Bool, true, false, Some, is_some, refl, ap, sym, subst, ◌∙◌, inl, inr}
use Rattle.std.specs.List.{list_any}
use Rattle.std.proofs.lemmas.Bool.{cases_eq, eqb-true, false≢true}
use Rattle.pico_base.specs.declared.call.Call.{Call}
use Rattle.pico_base.specs.declared.call.Call.TheVariants as calls
use Rattle.pico_base.specs.declared.numbers.Name.{Name}
use Rattle.pico_base.specs.declared.numbers.Name.TheVariants.{Proc, Msg, Sem}
use Rattle.pico_base.specs.declared.reply.Ending.{Ending}
use Rattle.pico_base.specs.declared.reply.Reply.{Reply}
use Rattle.pico_base.specs.declared.reply.Reply.TheVariants as replies
use Rattle.pico_base.specs.declared.script.Script.{Script}
use Rattle.number_maps.specs.Maps.{get}
use Rattle.kernel_model.specs.Script.{is_exit, is_fork}
use Rattle.kernel_model.specs.Row.{Row}
use Rattle.kernel_model.specs.Kernel.{Kernel}
use Rattle.kernel_model.specs.Fitting.{IsDue, Place, Places, due, is_killed, move_on, place_after, places_after}
use Rattle.node_model.specs.Bodies.{Body, Gone, Living, body_in}
use Rattle.node_model.specs.Caller.{Caller, caller_place}
use Rattle.node_model.specs.Carrying.{is_served}
use Rattle.node_model.specs.Serving.{name_for}
use Rattle.node_model.specs.Entries.{entry_by}
use Rattle.serve_laws.specs.Laws.{is_found}
use Rattle.serve_laws.specs.Served.{Line}
use Rattle.waiting_model.specs.Linear.{at_once}
use Rattle.entry_laws.specs.Entering.{IsKin, LeavesOthers, MayMake, Same}
use Rattle.entry_laws.proofs.Bodies.{living-body}
use Rattle.entry_laws.proofs.History.{moved-is, place-moves, places-stay}
use Rattle.entry_laws.proofs.Kin.{LeavesFound, kin-found, kin-same, lined-found, lined-kind}
use Rattle.entry_laws.proofs.Lined.{Lined}
use Rattle.entry_laws.proofs.Listed.{ListsOne, listed-found, listed-same}
use Rattle.entry_laws.proofs.Numbers.{process-there, used-kept}
use Rattle.entry_laws.proofs.Others.{goes}
use Rattle.entry_laws.proofs.Places.{goes-on, left-shrinks}
use Rattle.entry_laws.proofs.Replies.{finds}
use Rattle.rule_laws.proofs.own.Entries.{EntryLeaves}

-- a served call forks nothing and ends nobody
pub served-no-fork : (call : Call) → is_served (at_once call) ≡ true → is_fork call ≡ false
served-no-fork (calls.Fork block) h = absurd (false≢true h)
served-no-fork call h = refl

-- nor is it an exit
pub served-no-exit : (call : Call) → is_served (at_once call) ≡ true → is_exit call ≡ false
served-no-exit (calls.Exit status) h = absurd (false≢true h)
served-no-exit call h = refl

-- a served call is no end by a signal
pub served-not-killed : (call : Call) → is_served (at_once call) ≡ true → is_killed call ≡ false
served-not-killed (calls.Killed sig) h = absurd (false≢true h)
served-not-killed call h = refl

-- the child that a reply finds
pub record FindsOne (reply : Reply) : Type 0 where
  pub child : ℕ
  pub ending : Ending
  pub is : reply ≡ replies.Child child ending

finds-one : (reply : Reply) → finds reply ≡ true → FindsOne reply
finds-one (replies.Child child ending) h = record { child = child; ending = ending; is = refl }
finds-one reply h = absurd (false≢true h)

-- a name that was found is that child's
pub found-is : (child : ℕ) (ending : Ending) (m : Name) → is_found (replies.Child child ending) m ≡ true
    → m ≡ Proc child
found-is child ending (Proc p) h = ap Proc (sym (eqb-true child p h))
found-is child ending (Msg id) h = absurd (false≢true h)
found-is child ending (Sem id) h = absurd (false≢true h)

-- a name that was found is the child's of such a reply
pub found-one : (reply : Reply) (m : Name) → is_found reply m ≡ true → FindsOne reply
found-one (replies.Child child ending) m h = record { child = child; ending = ending; is = refl }
found-one reply m h = absurd (false≢true h)

gone-living : (r : Row) → Gone ≡ Living r → ⊥
gone-living r h = cc

module _ (k : Kernel) (name : Name) (l : Line) (left : Body) (m : MayMake k l.pid l.call) (c : Lined k name l left)
    (served : is_served (at_once l.call) ≡ true) (named : name_for l.pid l.call ≡ Some name) where
  abbrev pid : ℕ
  pid = l.pid

  abbrev call : Call
  call = l.call

  leaves-others : LeavesOthers k pid c.next
  leaves-others = goes k pid call l.reply c.next m.valid m.alone c.enters.makes

  there-too : (q : ℕ) → is_some (get k.processes q) ≡ true → is_some (get c.next.processes q) ≡ true
  there-too q h =
      process-there c.next q leaves-others.valid ∙ used-kept k pid call l.reply c.next c.enters (Proc q)
      ∙ sym (process-there k q m.valid) ∙ h

  found-leaves : (f : FindsOne l.reply) → LeavesFound k c.next pid f.child m.alive.row f.ending
  found-leaves f = lined-found k name l left m c f.child f.ending named f.is

  -- parents and children are so as before
  served-kin : (parent q : ℕ) → IsKin k parent q → IsKin c.next parent q
  served-kin parent q h = by-reply (finds l.reply) refl
    where
      there : is_some (get c.next.processes q) ≡ true
      there = there-too q (ap is_some h.is)

      by-reply : (t : Bool) → finds l.reply ≡ t → IsKin c.next parent q
      by-reply false none =
          kin-same k c.next parent q (lined-kind k name l left c none parent)
          (lined-kind k name l left c none q) there h
      by-reply true some =
          let f = finds-one l.reply some
          in kin-found k c.next pid f.child m.alive.row f.ending parent q m.valid (found-leaves f) there h

  -- whom a process lists it listed before
  served-listed : (q child : ℕ) → ListsOne c.next q child → ListsOne k q child
  served-listed q child one = by-reply (finds l.reply) refl
    where
      by-found : (f : FindsOne l.reply) → LeavesFound k c.next pid f.child m.alive.row f.ending → ListsOne k q child
      by-found f x =
          elim (cases_eq q pid) [
            | inl e ↦
                subst (λ (n : ℕ). ListsOne k n child) (sym e)
                (listed-found k c.next pid f.child child m.alive.row x.after x.own x.is x.family
                (subst (λ (n : ℕ). ListsOne c.next n child) e one))
            | inr d ↦
                elim (cases_eq q f.child) [
                  | inl e ↦
                      absurd
                      (gone-living one.alive.row
                      (sym (ap (λ (n : ℕ). body_in c.next (Proc n)) e ∙ x.gone)
                      ∙ living-body c.next q one.alive one.lives))
                  | inr g ↦ listed-same k c.next q child (Same (x.others q d g)) one
                ]
          ]

      by-reply : (t : Bool) → finds l.reply ≡ t → ListsOne k q child
      by-reply false none = listed-same k c.next q child (lined-kind k name l left c none q) one
      by-reply true some =
          let f = finds-one l.reply some
          in by-found f (found-leaves f)

  due-itself : (place : Place) → IsDue place call → due place ≡ Some call
  due-itself place (inl h) = h
  due-itself place (inr h) = absurd (false≢true (sym (served-not-killed call served) ∙ h.0))

  -- A served call that is due leaves the rest as an entry does.
  pub served-leaves : (script : Script) (places : Places) (node p : ℕ) (caller : Caller)
      → get places pid ≡ Some (caller_place script p caller) → IsDue (caller_place script p caller) call
      → EntryLeaves k places pid c.next
      (places_after script places (entry_by node pid call l.reply) (caller_place script p caller))
  served-leaves script places node p caller there is_due =
      let place : Place = caller_place script p caller
      in let moved : move_on place call (Some l.reply) ≡ place_after place call (Some l.reply) =
      moved-is place call (Some l.reply) (served-not-killed call served)
      in record {
        valid = m.valid;
        others = leaves-others;
        lived = record { alive = m.alive; lives = m.lives };
        lives = c.caller;
        processes = λ q. used-kept k pid call l.reply c.next c.enters (Proc q);
        kin = served-kin;
        listed = served-listed;
        was = place;
        place_was = there;
        now = place_after place call (Some l.reply);
        place_is = place-moves script places node pid call l.reply place (served-no-fork call served) ∙ ap Some moved;
        places_stay = λ q d. places-stay script places node pid call l.reply place q (served-no-fork call served) d;
        more_left = goes-on script p caller call l.reply (due-itself place is_due) (served-no-exit call served);
        shrinks = λ test h. left-shrinks place call l.reply test
            (ap (λ (x : Place). list_any test x.left) moved ∙ h);
      }

  -- where its process is in the history then
  pub served-place : (script : Script) (places : Places) (node : ℕ) (place : Place)
      → get (places_after script places (entry_by node pid call l.reply) place) pid
      ≡ Some (place_after place call (Some l.reply))
  served-place script places node place =
      place-moves script places node pid call l.reply place (served-no-fork call served)
      ∙ ap Some (moved-is place call (Some l.reply) (served-not-killed call served))
