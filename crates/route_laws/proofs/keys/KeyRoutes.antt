-- The leader routes a get by a key.
use Rattle.std.proofs.Common.{◌≡◌, ◌≢◌, Bool, true, if◌then◌else◌, List, [], ◌∷◌, nat_eq, Some, refl, ap, sym, subst, ◌∙◌, inl, inr}
use Rattle.std.proofs.lemmas.Bool.{eqb-true}
use Rattle.pico_base.specs.declared.call.Home.TheVariants as homes
use Rattle.pico_base.specs.declared.numbers.Kind.{Kind}
use Rattle.pico_base.specs.declared.numbers.Name.{Name}
use Rattle.pico_base.specs.declared.reply.Entry.{Entry}
use Rattle.pico_base.specs.declared.reply.Reply.{Reply}
use Rattle.pico_base.specs.declared.reply.Reply.TheVariants as replies
use Rattle.pico_base.specs.declared.script.Script.{Script}
use Rattle.pico_base.specs.Home.{home_of}
use Rattle.rpc_frame.specs.declared.asked.Asked.{Asked}
use Rattle.kernel_model.specs.Effect.{reply_alone}
use Rattle.node_model.specs.declared.held.Held.{Held}
use Rattle.node_model.specs.declared.held.Held.TheVariants.{Request}
use Rattle.node_model.specs.Bodies.{Body, bare, body_in, waiters_of}
use Rattle.node_model.specs.Directory.{has_more}
use Rattle.node_model.specs.Entries.{entry_by}
use Rattle.node_model.specs.Kinds.{number_of}
use Rattle.world_model.specs.Node.{Node, under_way_as}
use Rattle.world_model.specs.Routes.{route_home}
use Rattle.world_model.specs.Step.{Step, carry_out, enter, with_node}
use Rattle.world_model.specs.World.{World, world_after}
use Rattle.entry_laws.specs.Entering.{MayMake}
use Rattle.entry_laws.proofs.Fresh.{MakesObject}
use Rattle.world_laws.specs.Places.{Beside, body_put}
use Rattle.world_laws.specs.Sights.{directory_of, is_born_in, node_of}
use Rattle.world_laws.specs.Names.{NameHolds, name_sight}
use Rattle.world_laws.specs.Cancels.{owing_of}
use Rattle.world_laws.specs.Invariant.{HoldsOwing}
use Rattle.world_laws.proofs.Changes.{Changes}
use Rattle.world_laws.proofs.Middles.{changes-further}
use Rattle.world_laws.proofs.Named.{name-cases, other-name, same-name}
use Rattle.rule_laws.proofs.own.Moved.{moved-alone}
use Rattle.rule_laws.proofs.own.Rebodied.{nobody-at-unused, nobody-waits, nobody-waits-in}
use Rattle.route_laws.proofs.Owed.{HoldsAt}
use Rattle.route_laws.proofs.hand.Answering.{IsPlainCall, may-make-in-hand}
use Rattle.route_laws.proofs.hand.HandMoves.{IsCallOf}
use Rattle.route_laws.proofs.hand.ReadRoutes.{HasRoute, PlaceFits, is_carried_out}
use Rattle.route_laws.proofs.hand.Routes.{leader-here, leader-number}
use Rattle.route_laws.proofs.keys.KeyOutcomes.{IsKeyed, MakesKeyed, OnlyReplies, key-outcome, keyed, keyed-plain}
use Rattle.route_laws.proofs.keys.KeyWhole.{key-whole}
use Rattle.route_laws.proofs.keys.MadeByKey.{made-keeps, moved as made_moved}
use Rattle.route_laws.proofs.keys.MadeHere.{made_node, unused}
use Rattle.route_laws.proofs.served.Replies.{IsAtWork, caller_by, place_by, sends_by}
use Rattle.route_laws.proofs.served.Steps.{replied_step, reply-is}
use Rattle.route_laws.proofs.served.Turns.{replied-node, sends-grow, sends-to-nodes}
use Rattle.route_laws.proofs.served.Before.{IsInHandAt, in-hand-at}
use Rattle.route_laws.proofs.served.Unchanged.{entries-kept, is-carried, one_step, one-carried, one-keeps, one-moved, own-under-way, strikes-kept}
use Rattle.route_laws.proofs.served.Whole.{WholeStep}

module _ (script : Script) (v : World) (s : Step) (asked : Asked) (rest : List Held) (b : Beside)
    (holds : HoldsAt script v 1 s (Request asked ∷ rest) b) (at : IsAtWork script (world_after v 1 s) 1)
    (asks : IsCallOf script asked) (on : home_of asked.pid asked.call ≡ homes.Keys) where
  abbrev w : World
  w = world_after v 1 s

  abbrev hand : List Held
  hand = Request asked ∷ rest

  abbrev own : Bool
  own = nat_eq asked.caller 1

  in_hand : IsInHandAt script v 1 s asked rest b
  in_hand = in-hand-at script v 1 s asked rest b holds asks

  here : node_of w 1 ≡ s.node
  here = leader-here script v s asked rest b holds asks

  is-keyed : IsKeyed asked.call
  is-keyed = keyed asked.pid asked.call on

  plain : IsPlainCall asked.call
  plain = keyed-plain asked.call is-keyed

  may : MayMake b.kernel asked.pid asked.call
  may = may-make-in-hand script w asked rest b holds asks

  parts-before : (m : Name) → bare (b.body m) ≡ body_in b.kernel m
  parts-before m =
      let k : NameHolds script b.pids (is_born_in w) m (name_sight script w hand b m) = holds.names m
      in k.parts

  -- ---- a get that has a reply, and changes nothing else

  module _ (o : OnlyReplies script b s asked) where
    whole-step : WholeStep b.whole asked.pid asked.call (reply_alone o.reply) (o.leaves).next b.body
    whole-step =
        key-whole script w asked rest 1 s.strikes b holds asks on is-keyed o.reply (o.leaves).next
        (o.leaves).enters.makes
        b.body (λ m. parts-before m ∙ sym ((o.leaves).bodies m)) (λ m. refl)

    replies-only : HasRoute script v s asked rest b
    replies-only =
        record {
          beside = _;
          keeps = record {
            next = one_step script v 1 s asked rest b in_hand at asks o.reply;
            is_route = ap (route_home script s asked) on ∙ o.is
                ∙ ap Some (one-carried script v 1 s asked rest b in_hand at asks o.reply);
            holds = one-keeps script v 1 s asked rest b in_hand at asks o.reply o.leaves plain whole-step;
          };
          moved = one-moved script v 1 s asked rest b in_hand at asks o.reply o.leaves plain whole-step
              (PlaceFits s.node asked) (is_carried_out (is-carried 1 asked.caller o.reply));
        }

  -- ---- a get that makes something

  module _ (m : MakesKeyed script w b s asked) where
    abbrev after : Node
    after =
        made_node (node_of w 1) m.kind m.makes.takes.numbers m.makes.takes.directory m.name m.body
        (node_of w 1).caller m.keys

    abbrev reply : Reply
    reply = replies.Num (number_of m.name)

    abbrev entered : Step
    entered = enter (with_node s after) asked.pid asked.call reply

    abbrev next : Step
    next = replied_step script own entered asked reply

    abbrev made : MakesObject b.kernel asked.pid asked.call m.name m.body
    made = m.makes.made

    -- its number is 1
    number : after.number ≡ 1
    number = ap (λ (z : Node). z.number) here ∙ leader-number script v s asked rest b holds asks

    answered : carry_out script (with_node s after) asked reply ≡ next
    answered =
        reply-is script entered asked reply own (ap (nat_eq asked.caller) number)
        (λ mine. subst (λ (z : Node). under_way_as z asked.ticket ≡ Some asked.call) (sym here)
        (own-under-way script v 1 s asked rest b in_hand at asks reply mine))
        (λ mine. number ∙ sym (eqb-true asked.caller 1 mine))

    abbrev entry : Entry
    entry = entry_by after.number asked.pid asked.call reply

    changes : Changes script 1 w (world_after v 1 next)
        (made_node (node_of w 1) m.kind m.makes.takes.numbers m.makes.takes.directory m.name m.body
        (caller_by script own asked reply (node_of w 1).caller) m.keys) [] (sends_by own asked reply) (entry ∷ [])
    changes =
        subst (λ (z : Node). Changes script 1 w (world_after v 1 next) z [] (sends_by own asked reply) (entry ∷ []))
        (replied-node script own entered asked reply after.deeds after.leader)
        (changes-further script v 1 s next (sends_by own asked reply) (entry ∷ []) holds.shape at.low at.high
        (sends-to-nodes script own asked reply asks)
        (record {
          sends_are = sends-grow script own entered asked reply next refl;
          entries_are = entries-kept script own entered asked reply;
        }))

    -- ---- bodies

    abbrev body_now : Name → Body
    body_now = body_put b.body m.name m.body

    body-is : body_now m.name ≡ m.body
    body-is = ap (λ t. if t then m.body else b.body m.name) (same-name m.name m.name refl)

    body-elsewhere : (q : Name) → m.name ≢ q → body_now q ≡ b.body q
    body-elsewhere q d = ap (λ t. if t then m.body else b.body q) (other-name m.name q d)

    bare-new : bare m.body ≡ m.body
    bare-new =
        subst (λ body. bare body ≡ body) made.there (nobody-waits-in script made.next m.name).parts

    parts-then : (q : Name) → bare (body_now q) ≡ body_in made.next q
    parts-then q =
        elim (name-cases m.name q) [
          | inl e ↦
              subst (λ z. bare (body_now z) ≡ body_in made.next z) e (ap bare body-is ∙ bare-new ∙ sym made.there)
          | inr d ↦
              ap bare (body-elsewhere q d) ∙ parts-before q ∙ sym (made.rest q (λ same. d (sym same)))
        ]

    nobody-then : (q : Name) → waiters_of (body_now q) ≡ waiters_of (b.body q)
    nobody-then q =
        elim (name-cases m.name q) [
          | inl e ↦
              subst (λ z. waiters_of (body_now z) ≡ waiters_of (b.body z)) e
              (ap waiters_of body-is ∙ ap waiters_of (sym made.there) ∙ nobody-waits made.next m.name
              ∙ sym (nobody-at-unused b.kernel m.name (b.body m.name) may.valid
              (unused script w hand b holds at.high asked.pid asked.call m.kind m.name m.body m.makes)
              (parts-before m.name)))
          | inr d ↦ ap waiters_of (body-elsewhere q d)
        ]

    made-whole : WholeStep b.whole asked.pid asked.call (reply_alone reply) made.next body_now
    made-whole =
        key-whole script w asked rest 1 s.strikes b holds asks on is-keyed reply made.next made.enters.makes body_now
        parts-then nobody-then

    made-holds : HoldsOwing script (world_after v 1 next) rest (owing_of 1 s.strikes)
        (made_moved script w asked rest s.strikes b holds at asks m.kind m.name m.body m.makes m.keys m.has_keys plain
        made-whole nobody-then after.number (world_after v 1 next) changes)
    made-holds =
        made-keeps script w asked rest s.strikes b holds at asks m.kind m.name m.body m.makes m.keys m.has_keys plain
        made-whole nobody-then after.number (world_after v 1 next) changes

    makes-new : HasRoute script v s asked rest b
    makes-new =
        record {
          beside = made_moved script w asked rest s.strikes b holds at asks m.kind m.name m.body m.makes m.keys
              m.has_keys
              plain made-whole nobody-then after.number (world_after v 1 next) changes;
          keeps = record {
            next = next;
            is_route = ap (route_home script s asked) on ∙ m.is ∙ ap Some answered;
            holds = subst (λ t. HoldsOwing script (world_after v 1 next) rest (owing_of 1 t)
                (made_moved script w asked rest s.strikes b holds at asks m.kind m.name m.body m.makes m.keys m.has_keys
                plain made-whole nobody-then after.number (world_after v 1 next) changes))
                (sym (strikes-kept script own entered asked reply)) made-holds;
          };
          moved = moved-alone b.call _ asked.caller (PlaceFits s.node asked) (place_by own 1 reply) (λ y. refl)
              (is_carried_out (is-carried 1 asked.caller reply));
        }

  -- A get by a key has a route that keeps all.
  pub route-to-keys : ((kind : Kind) → has_more (directory_of w) kind ≡ true) → HasRoute script v s asked rest b
  route-to-keys enough =
      elim (key-outcome script w hand b holds at.high enough s here asked may is-keyed) [
        | inl only ↦ replies-only only
        | inr made ↦ makes-new made
      ]
