-- The deed of a queue or set comes back to the leader: it goes on to the node that it is bound for, or stays, and what
-- was held for the name is released.
use Rattle.std.proofs.Common.{◌≡◌, ◌≢◌, ℕ, Bool, true, false, ◌&&◌, not, if◌then◌else◌, List, [], ◌∷◌, nat_eq, Option, Some, None, option_and_then, is_some, refl, ap, sym, subst, ◌∙◌}
use Rattle.std.proofs.lemmas.Bool.{eq-eqb, false≢true}
use Rattle.pico_base.specs.declared.numbers.Name.{Name}
use Rattle.pico_base.specs.declared.script.Script.{Script}
use Rattle.rpc_frame.specs.declared.deed.PackedDeed.{PackedDeed}
use Rattle.rpc_frame.specs.declared.frame.Frame.{Frame}
use Rattle.rpc_frame.specs.declared.frame.Frame.TheVariants as frames
use Rattle.node_model.specs.declared.held.Held.{Held}
use Rattle.node_model.specs.Kinds.{is_object, get_named, put_named, without_named}
use Rattle.node_model.specs.Bodies.{Body, waiters_of}
use Rattle.node_model.specs.Directory.{Directory, Place, At, Coming, place_of, arrive, held_for, bound_for, is_coming, is_coming_to, stays}
use Rattle.node_model.specs.Spelling.{pack, read_deed}
use Rattle.world_model.specs.Node.{Node, is_leader}
use Rattle.world_model.specs.Step.{Step, with_directory}
use Rattle.world_model.specs.Moves.{goes_on_to, pass_on, come_back, is_new_here, take_give_back}
use Rattle.world_model.specs.Releases.{release}
use Rattle.world_model.specs.World.{World, world_after}
use Rattle.world_laws.specs.Places.{InGrant, Beside, deed_in}
use Rattle.world_laws.specs.Sights.{node_of, directory_of, is_born_in}
use Rattle.world_laws.specs.Deeds.{DeedsAreRead}
use Rattle.world_laws.specs.Names.{NameHolds, IsBoundRightly, name_sight}
use Rattle.world_laws.specs.Families.{NodeHolds}
use Rattle.world_laws.specs.Invariant.{Holds}
use Rattle.world_laws.proofs.Changes.{Changes, still-born}
use Rattle.world_laws.proofs.Middles.{changes-further}
use Rattle.world_laws.proofs.Steps.{Heads, world_without}
use Rattle.rule_laws.proofs.Grants.{all-nodes}
use Rattle.rule_laws.proofs.Places.{place-with-same}
use Rattle.rule_laws.proofs.own.Moved.{is_still}
use Rattle.rule_laws.proofs.Suggestions.{born-in-range}
use Rattle.route_laws.proofs.hand.Grantings.{grant-sent-keeps}
use Rattle.route_laws.proofs.release.TakenUp.{taken_up}
use Rattle.route_laws.proofs.hand.Noted.{HoldsAfter}
use Rattle.rule_laws.proofs.ends.Directories.{KnowsNodes}
use Rattle.route_laws.proofs.release.SamePlaces.{without-put-name, put-twice-name}
use Rattle.route_laws.proofs.release.Awaited.{given-held-none, given-is-awaited, given-is-new, given-is-used}
use Rattle.route_laws.proofs.release.GivenBack.{given-object, is-given-back, kept_beside, kept-changes, kept-in-hand}

-- a name that is awaited, with what is held for it
pub record IsComing (o : Option Place) : Type 0 where
  pub to : Option ℕ
  pub items : List Held
  pub place_is : o ≡ Some (Coming to items)

coming-is : (o : Option Place) → is_coming_to o ≡ true → IsComing o
coming-is None h = absurd (false≢true h)
coming-is (Some (At node)) h = absurd (false≢true h)
coming-is (Some (Coming to items)) h = record { to = to; items = items; place_is = refl }

-- the node that a deed goes on to: the one that it is bound for, which isn't the leader, and stays
record GoesTo (d : Directory) (bound : Option ℕ) (to : ℕ) : Type 0 where
  bound_is : bound ≡ Some to
  other : to ≢ 1
  stays_there : stays d to ≡ true

goes-to : (d : Directory) (bound : Option ℕ) (to : ℕ) → goes_on_to d bound ≡ Some to → GoesTo d bound to
goes-to d None to e = absurd (none-is-some e)
  where
    none-is-some : None ≡ Some to → ⊥
    none-is-some g = false≢true (ap is_some g)
goes-to d (Some other) to e = by-tests (nat_eq other 1) (stays d other) refl refl e
  where
    none-is-some : None ≡ Some to → ⊥
    none-is-some g = false≢true (ap is_some g)

    same : Some other ≡ Some to → other ≡ to
    same g = cc

    by-tests : (t u : Bool) → nat_eq other 1 ≡ t → stays d other ≡ u
        → (if not t && u then Some other else None) ≡ Some to → GoesTo d (Some other) to
    by-tests true u f g k = absurd (none-is-some k)
    by-tests false false f g k = absurd (none-is-some k)
    by-tests false true f g k =
        record {
          bound_is = k;
          other = λ z. false≢true (sym f ∙ eq-eqb other 1 (same k ∙ z));
          stays_there = ap (stays d) (sym (same k)) ∙ g;
        }

module _ (script : Script) (w : World) (b : Beside) (holds : Holds script w [] b)
    (at_nodes : KnowsNodes (directory_of w)) (reads : DeedsAreRead b.kernel b.body) (q : ℕ) (packed : PackedDeed)
    (rest : List Frame) (h : Heads script w 1 q (frames.GiveBack packed) rest) where
  abbrev name : Name
  name = packed.name

  abbrev n : Node
  n = node_of w 1

  abbrev d : Directory
  d = directory_of w

  abbrev v : World
  v = world_without w 1 q rest

  abbrev body : Body
  body = b.body name

  node-was : NodeHolds script b.pids (is_born_in w) 1 n
  node-was = holds.nodes 1 h.low h.high

  known-here : NameHolds script b.pids (is_born_in w) name (name_sight script w [] b name)
  known-here = holds.names name

  object : is_object name ≡ true
  object = given-object script w b holds q packed rest h

  awaited : is_coming d name ≡ true
  awaited =
      let given = is-given-back script w b holds q packed rest h
      in given-is-awaited script w [] b holds at_nodes name object q given.deed_is

  coming : IsComing (place_of d name)
  coming = coming-is (place_of d name) awaited

  -- ---- the rule

  all-true : (leads coming_here new : Bool) → leads ≡ true → coming_here ≡ true → new ≡ true
      → (leads && (coming_here && new)) ≡ true
  all-true leads coming_here new a c e = rw (a, c, e) refl

  -- what comes is the name's body
  pub given-is-read : read_deed packed ≡ Some body
  given-is-read =
      let given = is-given-back script w b holds q packed rest h
      in ap read_deed given.packed_is
      ∙ reads name (given-is-used script w [] b holds at_nodes name object q given.deed_is)

  -- The rule applies: the leader takes the deed, and releases what was held for it.
  pub give-back-releases : take_give_back script n q packed
      ≡ release script (held_for d name) (pass_on n name body (goes_on_to d (bound_for d name)))
  give-back-releases =
      let given = is-given-back script w b holds q packed rest h
      in ap (λ t. if t then option_and_then (come_back script n name) (read_deed packed) else None)
      (all-true (is_leader n) (is_coming d name) (is_new_here n name) (eq-eqb n.number 1 node-was.number) awaited
      (given-is-new script w [] b holds at_nodes name object q given.deed_is))
      ∙ ap (option_and_then (come_back script n name)) given-is-read
      ∙ ap (λ t. if t
      then release script (held_for d name) (pass_on n name body (goes_on_to d (bound_for d name)))
      else None) (all-nodes script (waiters_of body) known-here.callers)

  -- ---- the deed stays

  abbrev beside-kept : Beside
  beside-kept = kept_beside script w b holds q packed rest h

  abbrev home : World
  home = world_after v 1 (pass_on n name body None)

  kept-holds : Holds script home (held_for d name) beside-kept
  kept-holds = kept-in-hand script w b holds q packed rest h coming.to coming.items coming.place_is

  -- ---- it goes on

  module _ (to : ℕ) (goes : GoesTo d (bound_for d name) to) where
    abbrev sent : Step
    sent = pass_on n name body (Some to)

    abbrev sends : List (ℕ × Frame)
    sends = (to, frames.Grant (pack name body)) ∷ []

    bound : IsBoundRightly name (is_born_in w) to
    bound =
        known-here.bound to goes.bound_is

    none-here : get_named n.deeds name ≡ None
    none-here =
        let given = is-given-back script w b holds q packed rest h
        in given-held-none script w [] b holds at_nodes name object q given.deed_is 1

    same-node : with_directory n (arrive d name to)
        ≡ with_directory (record n { deeds = without_named (put_named n.deeds name body) name; watches = n.watches })
        (arrive (arrive d name 1) name to)
    same-node = λ i. with_directory
        (record n { deeds = sym (without-put-name n.deeds name body none-here) i; watches = n.watches })
        (record d { places = sym (put-twice-name d.places name (At 1) (At to)) i })

    further : Changes script 1 home (world_after v 1 sent) sent.node [] sends []
    further =
        let low-high = born-in-range script w holds.shape to bound.is_born
        in changes-further script v 1 (pass_on n name body None) sent sends [] kept-holds.shape h.low h.high
        (record { low = low-high.0; high = low-high.1 }, tt) (record { sends_are = refl; entries_are = refl })

    here : node_of home 1
        ≡ with_directory (record n { deeds = put_named n.deeds name body }) (arrive d name 1)
    here = let changes = kept-changes script w b holds q packed rest h in changes.here

    further-so : Changes script 1 home (world_after v 1 sent)
        (let m : Node = node_of home 1
        in with_directory (record m { deeds = without_named m.deeds name; watches = n.watches })
        (arrive m.leader.directory name to)) [] sends []
    further-so =
        subst (λ (m : Node). Changes script 1 home (world_after v 1 sent)
        (with_directory (record m { deeds = without_named m.deeds name; watches = n.watches })
        (arrive m.leader.directory name to)) [] sends []) (sym here)
        (subst (λ (m : Node). Changes script 1 home (world_after v 1 sent) m []
        sends []) same-node further)

    home-now : place_of (directory_of home) name ≡ Some (At 1)
    home-now = ap (λ (m : Node). place_of m.leader.directory name) here ∙ place-with-same d name (At 1)

    born-still : is_born_in home to ≡ true
    born-still = let c = kept-changes script w b holds q packed rest h in
        still-born script 1 w home _ _ [] [] c (λ g. g) to bound.is_born

    -- the deed is on its way there
    granted : HoldsAfter script v sent (held_for d name) (λ y. taken_up name (b.call y))
    granted =
        record {
          beside = record beside-kept { deed = deed_in beside-kept.deed name (InGrant to) };
          holds = grant-sent-keeps script home (held_for d name) beside-kept
              kept-holds name to object born-still goes.other home-now
              (ap (λ (m : Node). stays m.leader.directory to) here ∙ goes.stays_there) n.watches (world_after v 1 sent)
              further-so;
          calls = λ y. is_still refl;
        }

  -- ---- the event

  by-goal : (o : Option ℕ) → goes_on_to d (bound_for d name) ≡ o
      → HoldsAfter script v (pass_on n name body o) (held_for d name) (λ y. taken_up name (b.call y))
  by-goal None e = record { beside = beside-kept; holds = kept-holds; calls = λ y. is_still refl }
  by-goal (Some to) e = granted to (goes-to d (bound_for d name) to e)

  -- In the middle of the event all holds, with what was held for the name in hand.
  pub give-back-in-hand : HoldsAfter script v (pass_on n name body (goes_on_to d (bound_for d name))) (held_for d name)
      (λ y. taken_up name (b.call y))
  give-back-in-hand = by-goal (goes_on_to d (bound_for d name)) refl
