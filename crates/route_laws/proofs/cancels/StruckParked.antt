-- A signal interrupts a call that waits for a child, at its own node: it is over at once.
use Rattle.std.proofs.Common.{◌≡◌, ℕ, ◌≤◌, false, if◌then◌else◌, [], ◌∷◌, Option, Some, refl, ap, sym, subst, ◌∙◌, inl, append-nil}
use Rattle.std.proofs.lemmas.Bool.{eq-eqb, ne_eqb}
use Rattle.pico_base.specs.declared.call.Call.{Call}
use Rattle.pico_base.specs.declared.call.Call.TheVariants as calls
use Rattle.pico_base.specs.declared.numbers.Name.TheVariants.{Proc}
use Rattle.pico_base.specs.declared.reply.Errno.TheVariants.{Eintr}
use Rattle.pico_base.specs.declared.reply.Reply.{Reply}
use Rattle.pico_base.specs.declared.reply.Reply.TheVariants as replies
use Rattle.pico_base.specs.declared.script.Script.{Script}
use Rattle.kernel_model.specs.Effect.{reply_alone}
use Rattle.node_model.specs.Caller.{answer_call}
use Rattle.node_model.specs.Entries.{entry_with}
use Rattle.world_model.specs.Node.{Node}
use Rattle.world_model.specs.Step.{Step, enter, with_node}
use Rattle.world_model.specs.World.{World, node_count, world_after}
use Rattle.world_laws.specs.Places.{Beside, Idle, Parked}
use Rattle.world_laws.specs.Sights.{node_of}
use Rattle.world_laws.specs.Cancels.{Wakes}
use Rattle.world_laws.specs.Invariant.{HoldsOwing}
use Rattle.world_laws.specs.Wholes.{under_way_at}
use Rattle.world_laws.proofs.Cancels.{IsLater, answer-later}
use Rattle.world_laws.proofs.Changes.{Changes}
use Rattle.world_laws.proofs.Middles.{changes-further}
use Rattle.rule_laws.proofs.own.Moved.{waited}
use Rattle.route_laws.proofs.cancels.BrokenParked.{parked-birth, parked-made, unparked-keeps, unparked_beside, unparked_node}
use Rattle.route_laws.proofs.cancels.BrokenWhole.{IsBroken}
use Rattle.route_laws.proofs.cancels.WholeBodies.{bodies-alone}
use Rattle.route_laws.proofs.served.Replies.{place_by}
use Rattle.route_laws.proofs.served.Replying.{forgets}
use Rattle.route_laws.proofs.served.Turns.{node-at}

module _ (script : Script) (v : World) (p : ℕ) (s : Step) (b : Beside)
    (holds : HoldsOwing script (world_after v p s) [] Wakes b) (low : 1 ≤ p) (high : p ≤ node_count script)
    (which : Option ℕ) (under_way : under_way_at (world_after v p s) p ≡ Some (calls.WaitPid which false))
    (parked : b.call p ≡ Parked) (withdrawal : Call) where
  abbrev w : World
  w = world_after v p s

  abbrev reply : Reply
  reply = replies.Fail Eintr

  abbrev call : Call
  call = calls.WaitPid which false

  node-is : node_of w p ≡ s.node
  node-is = node-at script v p s holds.shape low high

  number-is : s.node.number ≡ p
  number-is = let n = holds.nodes p low high in sym (ap (λ (m : Node). m.number) node-is) ∙ n.number

  pid-is : (node_of w p).pid ≡ b.pids p
  pid-is = let i = parked-birth script w [] b holds p low high which under_way parked in i.pid_is

  -- the entry, and then the reply
  abbrev entered : Step
  entered = enter s s.node.pid withdrawal reply

  abbrev pub over_at_once : Step
  over_at_once =
      with_node (enter s s.node.pid withdrawal (replies.Fail Eintr))
      (record s.node {
        caller = answer_call script p s.node.caller (calls.WaitPid which false) (replies.Fail Eintr);
      })

  abbrev w1 : World
  w1 = world_after v p entered

  abbrev w2 : World
  w2 = world_after v p over_at_once

  holds-entered : HoldsOwing script w1 [] Wakes b
  holds-entered = forgets script v p s entered [] Wakes b refl refl _ refl holds

  node-then : node_of w1 p ≡ s.node
  node-then = node-at script v p entered holds-entered.shape low high

  under-way-then : under_way_at w1 p ≡ Some call
  under-way-then =
      ap (λ (m : Node). m.caller.under_way) (node-then ∙ sym node-is) ∙ under_way

  unparked-is : unparked_node script w1 [] b holds-entered p low high which under-way-then parked ≡ over_at_once.node
  unparked-is =
      ap (λ (m : Node). record m { caller = answer_call script p m.caller call reply }) node-then

  further : Changes script p w1 w2 (unparked_node script w1 [] b holds-entered p low high which under-way-then parked)
      [] [] []
  further =
      subst (λ (m : Node). Changes script p w1 w2 m [] [] []) (sym unparked-is)
      (changes-further script v p entered over_at_once [] [] holds-entered.shape low high tt
      (record { sends_are = sym (append-nil s.sends); entries_are = sym (append-nil entered.entries) }))

  abbrev after : Beside
  after = unparked_beside script w1 [] b holds-entered p low high which under-way-then parked

  changes : Changes script p w w2 over_at_once.node [] []
      (entry_with p (b.pids p) withdrawal (reply_alone reply) ∷ [])
  changes =
      subst (λ q. Changes script p w w2 over_at_once.node [] [] (entry_with p q withdrawal (reply_alone reply) ∷ []))
      (ap (λ (m : Node). m.pid) (sym node-is) ∙ pid-is)
      (subst (λ q. Changes script p w w2 over_at_once.node [] []
      (entry_with q s.node.pid withdrawal (reply_alone reply) ∷ [])) number-is
      (changes-further script v p s over_at_once []
      (entry_with s.node.number s.node.pid withdrawal (reply_alone reply) ∷ []) holds.shape low high tt
      (record { sends_are = sym (append-nil s.sends); entries_are = refl })))

  -- It is over, and its process isn't parked any more.
  pub parked-broken : IsBroken script (world_after v p s)
      (world_after v p (over_at_once)) [] b p p withdrawal (Proc (b.pids p))
  parked-broken =
      let made = parked-made script w [] b holds p low high which under_way parked
      in record {
        beside = after;
        holds = unparked-keeps script w1 [] b holds-entered p low high which under-way-then parked w2 further;
        call = call;
        lines = refl;
        kernel = refl;
        pids = refl;
        cancel = refl;
        place = ap (λ t. if t then Idle else b.call p) (eq-eqb p p refl)
            ∙ ap (λ t. place_by t p reply) (sym (eq-eqb p p refl));
        others = λ y d. ap (λ t. if t then Idle else b.call y) (ne_eqb p y (λ e. d (sym e)));
        bodies = λ before m. before m ∙ sym (bodies-alone b.whole (b.pids p) (b.pids p) m);
        under_way = under_way;
        parked = inl parked;
        at = refl;
        alive = made.alive;
        lives = made.lives;
        may = made.may;
        forked = let i = parked-birth script w [] b holds p low high which under_way parked in i.forked;
        over = waited parked (ap (λ t. if t then Idle else b.call p) (eq-eqb p p refl));
        node = over_at_once.node;
        sends = [];
        changes = changes;
        same_caller = λ other. absurd (other refl);
        pid_is = ap (λ (m : Node). m.pid) (sym node-is);
        later = subst (λ (m : Node). IsLater m.caller over_at_once.node.caller) (sym node-is)
            (answer-later script p s.node.caller call reply);
        directory_is = ap (λ (m : Node). m.leader.directory) (sym node-is);
        not_about = λ y d. tt;
        no_cancel = λ y. tt;
      }
