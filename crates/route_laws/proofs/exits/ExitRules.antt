-- The rule of an ExitTo: the exit is carried out at the node, which may wake the parent there, and may strike it.
use Rattle.std.proofs.Common.{◌≡◌, ℕ, false, List, [], ◌∷◌, if◌then◌else◌, is_none, filter, Some, refl, ap, sym, subst, ◌∙◌, inl, inr}
use Rattle.std.proofs.lemmas.Bool.{cases_eq, eq-eqb, ne_eqb}
use Rattle.pico_base.specs.declared.call.Call.{Call}
use Rattle.pico_base.specs.declared.numbers.Name.TheVariants.{Proc}
use Rattle.pico_base.specs.declared.reply.Entry.{Entry}
use Rattle.pico_base.specs.declared.reply.Reply.{Reply}
use Rattle.pico_base.specs.declared.reply.Reply.TheVariants as replies
use Rattle.pico_base.specs.declared.script.Script.{Script}
use Rattle.rpc_frame.specs.declared.deed.Parcel.{Parcel}
use Rattle.rpc_frame.specs.declared.frame.Frame.{Frame}
use Rattle.rpc_frame.specs.declared.frame.Frame.TheVariants as frames
use Rattle.number_maps.specs.Maps.{get}
use Rattle.kernel_model.specs.Row.{Row}
use Rattle.waiting_model.specs.Calls.{waits_at}
use Rattle.waiting_model.specs.Kernel as whole_kernels
use Rattle.node_model.specs.Bodies.{Deeds, Living as LivingBody}
use Rattle.node_model.specs.Caller.{answer_call}
use Rattle.node_model.specs.Directory.{Directory, held_for, is_known}
use Rattle.node_model.specs.Entries.{entry_with, outcome_with}
use Rattle.node_model.specs.Kinds.{put_all}
use Rattle.node_model.specs.Parcels.{Committed}
use Rattle.serve_laws.specs.Ends.{WakesThen}
use Rattle.world_model.specs.Ends.{answer_own, enter_exit, is_struck_by_end}
use Rattle.world_model.specs.Lives.{take_exit}
use Rattle.world_model.specs.Node.{Node}
use Rattle.world_model.specs.Step.{Step, enter_with, reply_here, step_to, with_deeds, with_node, with_strike}
use Rattle.world_model.specs.World.{World, world_after}
use Rattle.world_laws.specs.Places.{Beside, Ends, Idle, InExitTo, InTable}
use Rattle.world_laws.specs.Sights.{directory_of, is_born_in, node_of, stage_of}
use Rattle.world_laws.specs.Cancels.{Nothing, Wakes, cancel_sight}
use Rattle.world_laws.specs.Deeds.{DeedsAreRead}
use Rattle.world_laws.specs.Families.{NodeHolds}
use Rattle.world_laws.specs.Invariant.{Holds, HoldsOwing}
use Rattle.world_laws.specs.Ways.{HasSender, under_way_of}
use Rattle.world_laws.proofs.Cancels.{SameCancel, cancel-left-alone, is_item_of}
use Rattle.world_laws.proofs.Changes.{Changes, directory-same}
use Rattle.world_laws.proofs.Middles.{changes-further}
use Rattle.world_laws.proofs.Steps.{Heads, changes-by-take, world_without}
use Rattle.rule_laws.proofs.ends.RecallAlls.{deeds_at}
use Rattle.rule_laws.proofs.own.Moved.{AreStill, is_still, waited}
use Rattle.route_laws.proofs.Owed.{RuleKeeps}
use Rattle.route_laws.proofs.exits.CarriedOut.{carried-out, carried-out-waking, exit_whole, replied_beside, woken_then}
use Rattle.route_laws.proofs.exits.ExitCancels.{AreSeen}
use Rattle.route_laws.proofs.exits.ExitMoves.{IsExitMove}
use Rattle.route_laws.proofs.exits.ExitTos.{exit-to-ended, exit-to-rule, exit_parcel, exit_parent_at, exit_sender, exit_taken, exit_to_entry, exit_to_node, is-exit-move}
use Rattle.route_laws.proofs.exits.Exits.{awaits, deeds_then, ends_as, parent_body}
use Rattle.route_laws.proofs.exits.Parcels.{HasParcel, own-place}
use Rattle.route_laws.proofs.exits.Parents.{ParentWaits, WhomItWakes, bereft, nobody, own_wake, parent-waits, the_parent, whom-it-wakes}
use Rattle.route_laws.proofs.exits.SentParcels.{not-leader}

-- The rule has a step that keeps all. Each call is where it was; only the node's own, which waited for a child, may be
-- over.
abbrev pub ExitIsTaken : Script → World → ℕ → Parcel → List Frame → Beside → Type 0
ExitIsTaken script w x parcel rest b = RuleKeeps script w x 1 (frames.ExitTo parcel) rest (AreStill b.call)

module _ (script : Script) (w : World) (b : Beside) (holds : Holds script w [] b)
    (reads : DeedsAreRead b.kernel b.body) (x : ℕ) (parcel : Parcel) (rest : List Frame)
    (h : Heads script w x 1 (frames.ExitTo parcel) rest) where
  abbrev v : World
  v = world_without w x 1 rest

  abbrev n : Node
  n = node_of w x

  abbrev sender : HasSender script b.pids (stage_of w) (under_way_of w) parcel
  sender = exit_sender script w b holds reads x parcel rest h

  abbrev c : ℕ
  c = sender.node

  abbrev its_parcel : HasParcel script w b parcel c sender.call (InExitTo c x)
  its_parcel = exit_parcel script w b holds reads x parcel rest h

  abbrev at : b.deed (Proc parcel.parent) ≡ InTable x
  at = exit_parent_at script w b holds reads x parcel rest h

  abbrev ends : Committed
  ends = ends_as script w [] b holds parcel c sender.call (InExitTo c x) its_parcel reads x at

  abbrev held_then : Deeds
  held_then = deeds_then script w [] b holds parcel c sender.call (InExitTo c x) its_parcel reads x at

  node-holds : NodeHolds script b.pids (is_born_in w) x n
  node-holds = holds.nodes x h.low h.high

  -- the exit, with these deeds and these wakes
  abbrev exited_with : Deeds → Step
  exited_with deeds =
      enter_with (with_deeds (with_strike (step_to n) (is_struck_by_end n parcel.parent)) deeds) parcel.pid parcel.call
      (outcome_with (Some replies.Ended) ends.wakes)

  abbrev ended : Step
  ended = exited_with held_then

  abbrev w1 : World
  w1 = world_after v x ended

  abbrev entries : List Entry
  entries = exit_to_entry script w b holds reads x parcel rest h ∷ []

  abbrev n1 : Node
  n1 = exit_to_node script w b holds reads x parcel rest h

  -- that is all that the step changes
  exit-changes : Changes script x w w1 n1 ((1, frames.ExitTo parcel) ∷ []) [] entries
  exit-changes =
      subst (λ es. Changes script x w w1 n1 ((1, frames.ExitTo parcel) ∷ []) [] es)
      (ap (λ q. entry_with q parcel.pid parcel.call (outcome_with (Some replies.Ended) ends.wakes) ∷ [])
      node-holds.number)
      (changes-by-take script w holds.shape x 1 (frames.ExitTo parcel) rest ended h tt)

  -- the kernel in which callers wait then
  abbrev whole_then : whole_kernels.Kernel
  whole_then = exit_whole script w [] x false b holds parcel c sender.call (InExitTo c x) its_parcel reads at

  -- what stands beside the world once the process has ended
  abbrev ended_beside : Beside
  ended_beside = exit_taken script w b holds reads x parcel rest h whole_then w1 exit-changes

  same-there : directory_of w1 ≡ directory_of w
  same-there =
      directory-same script x w w1 n1 ((1, frames.ExitTo parcel) ∷ []) [] entries exit-changes
      (not-leader script w b holds x parcel rest h)

  -- withdrawals are seen as before
  seen-as : (y : ℕ) → SameCancel (cancel_sight w [] b y) (cancel_sight w1 [] ended_beside y)
  seen-as y =
      cancel-left-alone script x w w1 n1 ((1, frames.ExitTo parcel) ∷ []) [] entries exit-changes [] [] b ended_beside y
      (record {
        own = λ e. record { number = refl; pid = refl; stage = refl; caller = refl; leases = refl };
        call_is = refl;
        cancel_is = refl;
        held_is = λ name. ap (λ (z : Directory). filter (is_item_of y) (held_for z name)) same-there;
        hand_is = refl;
        nowhere = λ call known may l. record {
          node = l.node;
          is = l.is;
          leaves = ap (λ (z : Directory). is_none (get z.partings l.node)) same-there ∙ l.leaves;
          unknown = ap (λ z. is_known z (waits_at (node_of w y).pid call)) same-there ∙ l.unknown;
        };
      }) (refl, tt) tt (refl, tt) tt

  seen-holds : AreSeen script b c sender.call Nothing (cancel_sight w [] b)
  seen-holds =
      record {
        alive = λ y. refl;
        held = λ y low high. holds.cancels y low high;
        under_way = its_parcel.under_way;
      }

  -- its own call ends still
  ends-there : b.call c ≡ Ends
  ends-there = own-place script w [] b holds parcel c sender.call (InExitTo c x) its_parcel

  rule : take_exit script n 1 parcel ≡ Some (enter_exit script (step_to n) parcel ends)
  rule = exit-to-rule script w b holds reads x parcel rest h

  move : IsExitMove script w w1 [] [] b b.call x n1 ((1, frames.ExitTo parcel) ∷ [])
  move = is-exit-move script w b holds reads x parcel rest h whole_then w1 exit-changes

  ended-holds : HoldsOwing script w1 [] Wakes ended_beside
  ended-holds = exit-to-ended script w b holds reads x parcel rest h whole_then w1 exit-changes

  -- ---- nobody is woken

  module _ (none : ends.wakes ≡ [])
      (same : ends.changes
      ≡ (bereft script w [] b holds parcel c sender.call (InExitTo c x) its_parcel reads x at).changes) where
    step-is : enter_exit script (step_to n) parcel ends ≡ ended
    step-is =
        ap (answer_own script (exited_with (put_all n.deeds ends.changes))) none
        ∙ ap (λ z. exited_with (put_all n.deeds z)) same

    taken-alone : ExitIsTaken script w x parcel rest b
    taken-alone =
        record {
          beside = ended_beside;
          keeps = record {
            step = ended;
            is_step = rule ∙ ap Some step-is;
            holds = carried-out script w [] x false b holds parcel c sender.call (InExitTo c x) its_parcel reads at
                (λ d. d) refl (λ d to e. e) (λ g v d z. z) b.call b.cancel w1 [] n1 ((1, frames.ExitTo parcel) ∷ [])
                exit-changes move refl ended-holds (λ y a m. m) ends-there (λ e. e) (λ e. e) (cancel_sight w [] b)
                seen-holds seen-as none;
          };
          after = λ y. is_still refl;
        }

  -- ---- the parent is

  module _ (r : Row)
      (is : parent_body script w [] b holds parcel c sender.call (InExitTo c x) its_parcel reads x at ≡ LivingBody r)
      (waits : Call) (reply : Reply)
      (aw : awaits script w [] b holds parcel c sender.call (InExitTo c x) its_parcel reads x at ≡ Some waits)
      (woken : ends.wakes ≡ own_wake parcel.parent reply ∷ [])
      (after : WakesThen parcel waits (deeds_at w x) ends
      (bereft script w [] b holds parcel c sender.call (InExitTo c x) its_parcel reads x at)
      (own_wake parcel.parent reply)) where
    m : ParentWaits script w [] b holds parcel c sender.call (InExitTo c x) its_parcel reads x at r is waits
    m = parent-waits script w [] b holds parcel c sender.call (InExitTo c x) its_parcel reads x at r is waits aw

    abbrev deeds_now : Deeds
    deeds_now = put_all n.deeds ends.changes

    abbrev entered : Step
    entered = exited_with deeds_now

    abbrev replied : Step
    replied = with_node entered (record entered.node { caller = answer_call script n.number n.caller waits reply })

    replies-so : enter_exit script (step_to n) parcel ends ≡ replied
    replies-so = ap (answer_own script entered) woken ∙ ap (reply_here script entered reply) m.under_way_is

    abbrev woken_there : Node
    woken_there =
        woken_then script w [] x false b holds parcel c sender.call (InExitTo c x) its_parcel reads at (λ d. d) refl
        (λ d to e. e) (λ g v d z. z) b.call b.cancel w1 [] n1 ((1, frames.ExitTo parcel) ∷ []) exit-changes move refl
        ended-holds (λ y a m. m) ends-there (λ e. e) (λ e. e) (cancel_sight w [] b) seen-holds seen-as r is waits reply
        aw woken after

    woken-is : woken_there ≡ replied.node
    woken-is =
        (λ i. record (exit-changes.here i) {
          caller = answer_call script x (exit-changes.here i).caller (sym m.waits_for i) reply;
          deeds = deeds_now;
        })
        ∙ ap (λ number. record ended.node {
          caller = answer_call script number n.caller waits reply;
          deeds = deeds_now;
        }) (sym node-holds.number)

    abbrev w2 : World
    w2 = world_after v x replied

    further : Changes script x w1 w2 woken_there [] [] []
    further =
        subst (λ (z : Node). Changes script x w1 w2 z [] [] []) (sym woken-is)
        (changes-further script v x ended replied [] [] exit-changes.shape h.low h.high tt
        (record { sends_are = refl; entries_are = refl }))

    abbrev beside_then : Beside
    beside_then =
        replied_beside script w [] x false b holds parcel c sender.call (InExitTo c x) its_parcel reads at (λ d. d) refl
        (λ d to e. e) (λ g v d z. z) b.call b.cancel w1 [] n1 ((1, frames.ExitTo parcel) ∷ []) exit-changes move refl
        ended-holds (λ y a m. m) ends-there (λ e. e) (λ e. e) (cancel_sight w [] b) seen-holds seen-as r is waits reply
        aw woken after

    taken-waking : ExitIsTaken script w x parcel rest b
    taken-waking =
        record {
          beside = beside_then;
          keeps = record {
            step = replied;
            is_step = rule ∙ ap Some replies-so;
            holds = carried-out-waking script w [] x false b holds parcel c sender.call (InExitTo c x) its_parcel reads
                at (λ d. d) refl (λ d to e. e) (λ g v d z. z) b.call b.cancel w1 [] n1 ((1, frames.ExitTo parcel) ∷ [])
                exit-changes move refl ended-holds (λ y a m. m) ends-there (λ e. e) (λ e. e) (cancel_sight w [] b)
                seen-holds seen-as r is waits reply aw woken after w2 further refl;
          };
          after = λ y. elim (cases_eq y x) [
            | inl here ↦
                waited (ap b.call here ∙ m.parked) (ap (λ t. if t then Idle else b.call y) (eq-eqb x y (sym here)))
            | inr other ↦
                is_still (sym (ap (λ t. if t then Idle else b.call y) (ne_eqb x y (λ e. other (sym e)))))
          ];
        }

  -- The rule has a step, and all holds after it but for the strike that it may owe.
  pub exit-to-keeps : ExitIsTaken script w x parcel rest b
  exit-to-keeps =
      by (whom-it-wakes script w [] b holds parcel c sender.call (InExitTo c x) its_parcel reads x at)
    where
      by : WhomItWakes script w [] b holds parcel c sender.call (InExitTo c x) its_parcel reads x at
          → ExitIsTaken script w x parcel rest b
      by (nobody none same) = taken-alone none same
      by (the_parent r waits reply is aw woken after) = taken-waking r is waits reply aw woken after
