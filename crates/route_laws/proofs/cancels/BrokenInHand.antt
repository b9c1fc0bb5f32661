-- In the middle of an event a call in hand, which waited, is broken off: it has its reply, and the kernel stays.
use Rattle.std.proofs.Common.{Bool, List, Some, [], ap, filter, inl, inr, nat_eq, refl, subst, sym, true, ℕ, ◌++◌, ◌∙◌, ◌∷◌, ◌≡◌}
use Rattle.std.proofs.lemmas.Bool.{false≢true}
use Rattle.pico_base.specs.declared.numbers.Name.{Name}
use Rattle.pico_base.specs.declared.reply.Errno.{Errno}
use Rattle.pico_base.specs.declared.reply.Reply.TheVariants as replies
use Rattle.pico_base.specs.declared.reply.Reply.{Reply}
use Rattle.pico_base.specs.declared.script.Script.{Script}
use Rattle.number_maps.specs.Maps.{get}
use Rattle.rpc_frame.specs.declared.asked.Asked.{Asked}
use Rattle.kernel_model.specs.Fitting.{IsDue, Place, places_after}
use Rattle.waiting_model.specs.Calls.{may_park}
use Rattle.waiting_model.specs.Linear.{is_broken_off, line_of}
use Rattle.node_model.specs.Bodies.{Body, Deeds}
use Rattle.node_model.specs.Caller.{caller_place}
use Rattle.node_model.specs.Directory.{held_for}
use Rattle.node_model.specs.Kinds.{get_named}
use Rattle.node_model.specs.declared.held.Held.TheVariants.{Request}
use Rattle.node_model.specs.declared.held.Held.{Held}
use Rattle.world_model.specs.Node.{Leader, Node}
use Rattle.world_model.specs.World.{World}
use Rattle.entry_laws.proofs.History.{history-goes-on}
use Rattle.entry_laws.specs.Entering.{MayMake}
use Rattle.rule_laws.proofs.CallMoves.{same-but-call}
use Rattle.world_laws.proofs.Changes.{Changes, read-same}
use Rattle.world_laws.proofs.Named.{name-cases}
use Rattle.world_laws.specs.Callers.{is_item_about}
use Rattle.world_laws.specs.Cancels.{Wakes}
use Rattle.world_laws.specs.Invariant.{HoldsOwing}
use Rattle.world_laws.specs.Names.{NameHolds, name_sight}
use Rattle.world_laws.specs.Places.{Beside, call_in}
use Rattle.world_laws.specs.Ranges.{KeysHold}
use Rattle.world_laws.specs.Sights.{directory_of, is_born_in, node_of}
use Rattle.route_laws.proofs.cancels.BrokenOff.{breaks-leaves, breaks-off, breaks-place}
use Rattle.route_laws.proofs.hand.Answering.{due-in-hand, has-history, may-make-in-hand, place-in-hand}
use Rattle.route_laws.proofs.hand.HandMoves.{IsCallOf, held-for-none}
use Rattle.route_laws.proofs.served.Nodes.{PutsBody, node-puts, node_with}
use Rattle.route_laws.proofs.served.Replies.{IsAtWork, IsReplied, Then, beside_then, caller_by, name-not-changed, place_by, replied-all, sends_by}

module _ (script : Script) (w : World) (p : ℕ) (at : IsAtWork script w p) (asked : Asked) (rest : List Held)
    (b : Beside)
    (holds : HoldsOwing script w (Request asked ∷ rest) Wakes b) (asks : IsCallOf script asked) (own : Bool)
    (is_mine : nat_eq asked.caller p ≡ own) (parks : may_park asked.call ≡ true) (error : Errno)
    (broken : is_broken_off error ≡ true) (name : Name) (body : Body)
    (held : (let n : Node = node_of w p in get_named n.deeds name ≡ Some body)) (deeds : Deeds)
    (puts : (let n : Node = node_of w p in PutsBody n.deeds deeds name body)) (w' : World)
    (c : Changes script p w w'
    (let n : Node = node_of w p in node_with n (caller_by script own asked (replies.Fail error) n.caller) deeds
    n.leader)
    [] (sends_by own asked (replies.Fail error)) []) where
  abbrev n : Node
  n = node_of w p

  abbrev reply : Reply
  reply = replies.Fail error

  abbrev after-node : Node
  after-node = node_with n (caller_by script own asked reply n.caller) deeds n.leader

  abbrev place : Place
  place = caller_place script asked.caller (node_of w asked.caller).caller

  may : MayMake b.kernel asked.pid asked.call
  may = may-make-in-hand script w asked rest b holds asks

  there : get b.places asked.pid ≡ Some place
  there = place-in-hand script w asked rest b holds asks

  is-due : IsDue place asked.call
  is-due = due-in-hand script w asked rest b holds asks

  abbrev after : Then
  after =
      record {
        lines = b.lines ++ line_of p asked.pid asked.call reply ∷ [];
        kernel = b.kernel;
        places = places_after script b.places (line_of p asked.pid asked.call reply) place;
        whole = b.whole;
        deed = b.deed;
        body = b.body;
        cancel = b.cancel;
      }

  -- what stands beside the world then
  abbrev pub broken_beside : Beside
  broken_beside = beside_then b (call_in b.call asked.caller (place_by own p reply)) after

  same-directory-now : directory_of w' ≡ directory_of w
  same-directory-now =
      read-same script p w w' after-node [] (sends_by own asked reply) [] c (λ (m : Node). m.leader.directory) refl 1

  replied : IsReplied script w w' asked rest Wakes Wakes b after p after-node own reply
  replied =
      record {
        leaves = breaks-leaves b.kernel asked.pid asked.call error may parks broken script b.places p asked.caller
            (node_of w asked.caller).caller there is-due;
        history = history-goes-on script b.lines b.kernel b.places p asked.pid asked.call reply place b.kernel
            (has-history script w asked rest b holds asks) there is-due
            (breaks-off b.kernel asked.pid asked.call error may parks broken);
        place_is = breaks-place b.kernel asked.pid asked.call error may parks broken script b.places p place;
        number = refl;
        pid = refl;
        stage = refl;
        leases = refl;
        caller = refl;
        node = node-puts script b.pids (is_born_in w) p n (holds.nodes p at.low at.high) name body body held deeds puts
            refl (caller_by script own asked reply n.caller) n.leader;
        keys = subst (λ (l : Leader). KeysHold l b.kernel)
            (sym (read-same script p w w' after-node [] (sends_by own asked reply) [] c (λ (m : Node). m.leader) refl
            1))
            holds.keys;
        directory = same-but-call asked.caller (directory_of w) (directory_of w') same-directory-now holds.leading;
        none_held = λ m. ap (λ d. filter (is_item_about asked.caller) (held_for d m)) same-directory-now
            ∙ held-for-none script w asked rest b holds asks m;
        awaited = λ q to e. refl;
        deeds = λ q. refl;
        waiters = λ m. refl;
        makers_stay = λ m maker unused used. absurd (false≢true (sym unused ∙ used));
        whole = λ h. tt;
        cancel_of_others = λ y d. refl;
        owed_of_others = λ y d same h. tt;
      }

  same-held : (m : Name) → get_named deeds m ≡ get_named n.deeds m
  same-held m =
      elim (name-cases m name) [
        | inl e ↦ ap (get_named deeds) e ∙ puts.here ∙ sym held ∙ ap (get_named n.deeds) (sym e)
        | inr d ↦ puts.others m d
      ]

  name-then : (m : Name) → NameHolds script b.pids (is_born_in w') m (name_sight script w' rest broken_beside m)
  name-then m =
      name-not-changed script w asked rest b holds asks p at own is_mine reply Wakes after after-node [] w'
      replied c same-directory-now (λ kind. refl) (λ other. refl) m refl refl (same-held m)

  -- All holds with its reply,
  pub broken-keeps : HoldsOwing script w' rest Wakes broken_beside
  broken-keeps =
      replied-all script w asked rest b holds asks p at own is_mine reply Wakes after after-node [] w' replied c
      same-directory-now (λ kind. refl) (λ other. refl) tt name-then
