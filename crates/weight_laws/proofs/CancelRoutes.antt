-- The leader routes a withdrawal that is first in its hand: that costs no more than it weighs there.
use Rattle.std.proofs.Common.{◌≡◌, ◌≢◌, ℕ, ◌+◌, ◌≤◌, Bool, true, false, not, ◌&&◌, if◌then◌else◌, List, [], ◌∷◌, ◌++◌, nat_eq, Option, Some, None, refl, ap, sym, subst, ◌∙◌, arith}
use Rattle.std.specs.Prelude.{sum_by}
use Rattle.std.proofs.lemmas.Bool.{false≢true, eq-eqb, lt-ltb}
use Rattle.std.proofs.lemmas.List.Sums.{sum_by-cons}
use Rattle.pico_base.specs.declared.numbers.Name.{Name}
use Rattle.pico_base.specs.declared.reply.Reply.TheVariants as replies
use Rattle.pico_base.specs.declared.script.Script.{Script}
use Rattle.pico_base.specs.Home.{home_of}
use Rattle.rpc_frame.specs.declared.asked.Asked.{Asked}
use Rattle.rpc_frame.specs.declared.frame.Frame.TheVariants as frames
use Rattle.node_model.specs.declared.held.Held.{Held}
use Rattle.node_model.specs.declared.held.Held.TheVariants.{Request}
use Rattle.node_model.specs.declared.route.Route.{Route}
use Rattle.node_model.specs.declared.route.Route.TheVariants as routes
use Rattle.node_model.specs.Directory.{Directory, Place, At, Coming, hold, hold_at, maker, maker_stays, place_of, route, route_by, with_place, stays}
use Rattle.node_model.specs.Kinds.{put_named}
use Rattle.node_model.specs.Serving.{Leaves, NotHeld, NotThere, Withdrawn, withdraw}
use Rattle.world_model.specs.Node.{Node, is_leader}
use Rattle.world_model.specs.Routes.{hold_item, cancel, cancel_by, route_cancel}
use Rattle.world_model.specs.Serving.{interrupted, withdraw_by, withdraw_here}
use Rattle.world_model.specs.Step.{Step, with_deeds}
use Rattle.world_laws.specs.Invariant.{IsLeading}
use Rattle.route_laws.proofs.release.RoutedParcels.{directory_in}
use Rattle.weight_laws.specs.Weights.{directory_weight, hand_weight, item_weight, routing_weight, cancel_weight}
use Rattle.weight_laws.proofs.Costs.{MayEnd, step_weight, MayEndIf, carried-costs, deeds-by}
use Rattle.weight_laws.proofs.Hand.{back-less, back-rest, back_weight, items-less}
use Rattle.weight_laws.proofs.Known.{knows-with, carried-directory}
use Rattle.weight_laws.proofs.Parts.{place-replaces}
use Rattle.weight_laws.proofs.Sums.{sends-push}
use Rattle.waiting_model.specs.Calls.{is_withdrawal}
use Rattle.pico_base.specs.declared.reply.Errno.TheVariants.{Eintr}
use Rattle.weight_laws.proofs.Routes.{IsComing, RouteSays, cancels-held, fewer-held, no-more-parcels, route-says}

-- ---- routes by range

abbrev is_range : Route → Bool
is_range (routes.Range node) = true
is_range r = false

abbrev range_node : Route → ℕ
range_node (routes.Range node) = node
range_node r = 0

-- the node that a call goes to by range makes the name, and isn't the leader
record RangeIs (d : Directory) (name : Name) (node : ℕ) : Type 0 where
  makes : maker d name ≡ Some node
  other : node ≢ 1

range-of : (d : Directory) (name : Name) (node : ℕ) → route d name ≡ routes.Range node → RangeIs d name node
range-of d name node e = by-place (place_of d name) e
  where
    not-range : (r : Route) → is_range r ≡ false → r ≡ routes.Range node → ⊥
    not-range r away is = false≢true (sym away ∙ ap is_range is)

    by-tests : (made : ℕ) (t : Bool) → maker d name ≡ Some made
        → (if t && not (nat_eq made 1) then routes.Range made else routes.Nobody) ≡ routes.Range node
        → RangeIs d name node
    by-tests made true m is = by-one made (nat_eq made 1) refl m is
      where
        by-one : (made : ℕ) (one : Bool) → nat_eq made 1 ≡ one → maker d name ≡ Some made
            → (if not one then routes.Range made else routes.Nobody) ≡ routes.Range node → RangeIs d name node
        by-one made true test m is = absurd (not-range routes.Nobody refl is)
        by-one made false test m is =
            let same : made ≡ node = ap range_node is
            in record {
              makes = m ∙ ap Some same;
              other = λ one. false≢true (sym test ∙ eq-eqb made 1 (same ∙ one));
            }
    by-tests made false m is = absurd (not-range routes.Nobody refl is)

    by-maker : (o : Option ℕ) → maker d name ≡ o → route_by None (maker_stays d o) o ≡ routes.Range node
        → RangeIs d name node
    by-maker None m is = absurd (not-range routes.Nobody refl is)
    by-maker (Some made) m is = by-tests made (stays d made) m is

    by-place : (o : Option Place) → route_by o (maker_stays d (maker d name)) (maker d name) ≡ routes.Range node
        → RangeIs d name node
    by-place (Some (At other)) is = absurd (not-range (routes.At other) refl is)
    by-place (Some (Coming to items)) is = absurd (not-range routes.Coming refl is)
    by-place None is = by-maker (maker d name) refl is

-- ---- by the route

module _ (script : Script) (s : Step) (asked : Asked) (rest : List Held)
    (number : let n : Node = s.node in n.number ≡ 1) (leading : IsLeading (directory_in s))
    (may : MayEndIf script s.node) (withdraws : is_withdrawal asked.call ≡ true)
    (at_nodes : (name : Name) (node : ℕ) → place_of (directory_in s) name ≡ Some (At node) → 1 ≤ node)
    (by_nodes : (name : Name) (node : ℕ) → maker (directory_in s) name ≡ Some node → 1 ≤ node) where
  abbrev n : Node
  n = s.node

  abbrev d : Directory
  d = directory_in s

  -- with what stays in hand the step weighs no more
  abbrev pub CancelLowers : Step → Type 0
  CancelLowers t =
      step_weight script t + hand_weight (directory_in t) rest
      ≤ step_weight script s + hand_weight d (Request asked ∷ rest)

  leads : is_leader n ≡ true
  leads = ap (λ x. nat_eq x 1) number

  hand-was : hand_weight d (Request asked ∷ rest)
      ≡ 3 + sum_by (item_weight d) rest + back_weight d (Request asked ∷ rest)
  hand-was =
      let one = sum_by-cons (item_weight d) (Request asked) rest
      in let cancel : item_weight d (Request asked) ≡ 3 =
      ap (λ t. if t then 3 else routing_weight d (home_of asked.pid asked.call)) withdraws
      in omega (arith, one, cancel)

  -- the directory stays
  keeps-directory : (t : Step) → directory_in t ≡ d → step_weight script t ≤ step_weight script s + 3 → CancelLowers t
  keeps-directory t same cost =
      let was = hand-was
      in let back = back-rest d (Request asked) rest
      in let hand : hand_weight (directory_in t) rest ≡ hand_weight d rest =
      ap (λ (y : Directory). hand_weight y rest) same
      in omega (arith, was, back, hand, cost)

  sent-on : (node : ℕ) → 1 ≤ node → node ≢ 1 → CancelLowers (cancel s node asked)
  sent-on node low other =
      let sends = sends-push s.sends (node, frames.Cancel asked)
      in let three : cancel_weight node (frames.Cancel asked) ≡ 3 =
      ap (λ t. if t then 3 else 4) (lt-ltb 1 node (omega (arith, low, other)))
      in keeps-directory (cancel s node asked) refl (omega (arith, sends, three))

  held : (name : Name) (to : Option ℕ) (items : List Held) → place_of d name ≡ Some (Coming to items)
      → CancelLowers (hold_item s name (Request asked))
  held name to items e =
      let d' : Directory = with_place d name (Coming to (items ++ Request asked ∷ []))
      in let same : hold d name (Request asked) ≡ d' = ap (hold_at d name (Request asked)) e
      in let was = hand-was
      in let weighs = place-replaces d name (Coming to (items ++ Request asked ∷ [])) (Coming to items) leading e
      in let count = no-more-parcels items asked
      in let cancels = cancels-held items asked true withdraws
      in let directory : directory_weight (hold d name (Request asked)) ≡ directory_weight d' =
      ap directory_weight same
      in let hand : hand_weight (hold d name (Request asked)) rest ≡ hand_weight d' rest =
      ap (λ (y : Directory). hand_weight y rest) same
      in let knows = items-less d d' (knows-with d name (Coming to (items ++ Request asked ∷ []))) rest
      in let back = back-less d d' (fewer-held d name to (items ++ Request asked ∷ [])) rest
      in let all = back-rest d (Request asked) rest
      in omega (arith, was, weighs, count, cancels, directory, hand, knows, back, all)

  withdrawn : (name : Name) (x : Withdrawn) → CancelLowers (withdraw_by script s name asked x)
  withdrawn name (Leaves body) =
      let changed : Step = with_deeds s (put_named n.deeds name body)
      in let first = deeds-by script s (put_named n.deeds name body) (is_leader n) refl
      (λ other. absurd (false≢true (sym other ∙ leads)))
      in let cost = carried-costs script changed asked (replies.Fail Eintr)
      (λ there. let ends : MayEnd script n = may there in record { tries = ends.tries; left = ends.left })
      in keeps-directory (interrupted script s name asked body)
      (carried-directory script changed asked (replies.Fail Eintr))
      (omega (arith, first, cost))
  withdrawn name NotThere = keeps-directory s refl (omega arith)
  withdrawn name NotHeld = keeps-directory s refl (omega arith)

  at-node : (name : Name) (node : ℕ) → place_of d name ≡ Some (At node) → (t : Bool) → nat_eq node 1 ≡ t
      → CancelLowers (if t then withdraw_here script s name asked else cancel s node asked)
  at-node name node at true e = withdrawn name (withdraw n.deeds name asked.pid asked.ticket)
  at-node name node at false e =
      sent-on node (at_nodes name node at) (λ one. false≢true (sym e ∙ eq-eqb node 1 one))

  by-route : (name : Name) (r : Route) → route d name ≡ r → CancelLowers (cancel_by script s name asked r)
  by-route name (routes.At node) e =
      subst (λ x. CancelLowers (if nat_eq node x then withdraw_here script s name asked else cancel s node asked))
      (sym number)
      (at-node name node
      (subst (RouteSays (place_of d name)) e
      (route-says (place_of d name) (maker_stays d (maker d name)) (maker d name))) (nat_eq node 1) refl)
  by-route name routes.Coming e =
      let coming : IsComing (place_of d name) =
      subst (RouteSays (place_of d name)) e
      (route-says (place_of d name) (maker_stays d (maker d name)) (maker d name))
      in held name coming.to coming.items coming.is
  by-route name (routes.Range node) e =
      let r : RangeIs d name node = range-of d name node e
      in sent-on node (by_nodes name node r.makes) r.other
  by-route name routes.Nobody e = keeps-directory s refl (omega arith)

  -- The route of a withdrawal costs no more than it weighs in hand.
  pub cancel-lowers : (name : Name) → CancelLowers (route_cancel script s name asked)
  cancel-lowers name = by-route name (route d name) refl
