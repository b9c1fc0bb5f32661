-- The leader routes the first call of its hand: that costs no more than the call may cost in hand.
use Rattle.std.proofs.Common.{◌≡◌, ◌≢◌, ℕ, ◌+◌, ◌≤◌, Bool, true, false, not, ◌&&◌, ◌||◌, if◌then◌else◌, List, [], ◌∷◌, ◌++◌, filter, length, nat_eq, is_none, Option, Some, None, option_map, refl, ap, sym, subst, ◌∙◌, inl, inr, arith, cond}
use Rattle.std.specs.Prelude.{count_by, sum_by}
use Rattle.std.specs.List.{list_any}
use Rattle.std.proofs.lemmas.Bool.{false≢true, ne_eqb}
use Rattle.std.proofs.lemmas.List.{length-append}
use Rattle.std.proofs.lemmas.List.Elements.{filter-append}
use Rattle.std.proofs.lemmas.List.Sums.{length-filter, sum_by-cons}
use Rattle.pico_base.specs.declared.call.Home.{Home}
use Rattle.pico_base.specs.declared.call.Home.TheVariants as homes
use Rattle.pico_base.specs.declared.numbers.Name.{Name}
use Rattle.pico_base.specs.declared.numbers.Name.TheVariants.{Proc, Msg, Sem}
use Rattle.pico_base.specs.declared.reply.Reply.TheVariants as replies
use Rattle.pico_base.specs.declared.script.Script.{Script}
use Rattle.pico_base.specs.Home.{home_of}
use Rattle.rpc_frame.specs.declared.asked.Asked.{Asked}
use Rattle.rpc_frame.specs.declared.frame.Frame.TheVariants as frames
use Rattle.kernel_laws.proofs.Plain.{from_some, not_some}
use Rattle.node_model.specs.declared.held.Held.{Held}
use Rattle.node_model.specs.declared.held.Held.TheVariants.{Request}
use Rattle.node_model.specs.declared.route.Route.{Route}
use Rattle.node_model.specs.declared.route.Route.TheVariants as routes
use Rattle.node_model.specs.Directory.{Directory, Place, At, Coming, hold, hold_at, is_known, is_parcel, maker, maker_stays, place_of, recall, route, route_by, with_place}
use Rattle.node_model.specs.Kinds.{get_named}
use Rattle.node_model.specs.Serving.{no_such_name}
use Rattle.world_model.specs.Census.{one_if}
use Rattle.world_model.specs.Node.{Node, is_leader}
use Rattle.world_model.specs.Routes.{forward, hold_item, recall_and_hold, remove_by, remove_here, route_call, route_home, unbind_name, was_removed}
use Rattle.world_model.specs.Routes as routing
use Rattle.world_model.specs.Serving.{serve_asked, serve_nobody}
use Rattle.world_model.specs.Step.{Step}
use Rattle.world_laws.specs.Invariant.{IsLeading}
use Rattle.world_laws.specs.Places.{CallPlace}
use Rattle.world_laws.proofs.Named.{name-cases}
use Rattle.rule_laws.proofs.own.Moved.{IsCarriedOut, is_answered, is_over}
use Rattle.route_laws.proofs.hand.ReadRoutes.{PlaceFits, goes_by_range, goes_to_owner, is_asked_back, is_carried_out, is_held, is_served_here}
use Rattle.route_laws.proofs.hand.Routes.{IsOn}
use Rattle.rule_laws.proofs.Places.{place-with-other, place-with-same}
use Rattle.route_laws.proofs.release.RoutedParcels.{directory_in}
use Rattle.weight_laws.specs.Weights.{asks_back, call_weight, cost_if, directory_weight, hand_weight, is_away, item_weight, removes_away, routing_weight, is_held_cancel}
use Rattle.weight_laws.proofs.Costs.{nobody-costs, served-costs, step_weight, MayEndIf, read_cost}
use Rattle.weight_laws.proofs.Hand.{FewerAway, RemovalsAreOf, back-less, back-low, back-rest, back_weight, items-less, none-back, routing-low}
use Rattle.weight_laws.proofs.Keys.{IsFree, by-key-free}
use Rattle.weight_laws.proofs.Known.{KnowsMore, carried-knows, knows-after, knows-with, served-knows}
use Rattle.weight_laws.proofs.Parts.{place-adds, place-replaces}
use Rattle.weight_laws.proofs.Sums.{sends-push}
use Rattle.waiting_model.specs.Calls.{is_withdrawal}
use Rattle.route_laws.proofs.Owed.{IsServedPlace, has_reply, nobody_reads, waits_there}

-- what a call that the leader has served may weigh: one that waits is heavier, and then nobody reads
abbrev pub served_limit : Bool → ℕ
served_limit nobody = if nobody then 6 else 1

-- what the call's place weighs at most once it is routed
abbrev pub routed_weight : Bool → Route → ℕ
routed_weight nobody (routes.At node) = if nat_eq node 1 then served_limit nobody else 7
routed_weight nobody routes.Coming = 7
routed_weight nobody (routes.Range node) = 10
routed_weight nobody routes.Nobody = 1

-- by the call's home
abbrev pub place_limit : Bool → Directory → Home → ℕ
place_limit nobody d (homes.At name) = routed_weight nobody (route d name)
place_limit nobody d (homes.Removal name) = routed_weight nobody (route d name)
place_limit nobody d home = 1

served-low : (nobody : Bool) → 1 ≤ served_limit nobody
served-low true = omega arith
served-low false = omega arith

-- a call that is carried out weighs little
pub carried-light : (place : CallPlace) → IsCarriedOut place → call_weight place ≤ 1
carried-light place (is_over e) = let same = ap call_weight e in omega (arith, same)
carried-light place (is_answered sender reply e) = let same = ap call_weight e in omega (arith, same)

-- so does one that was served
pub served-light : (n : Node) (asked : Asked) (place : CallPlace) → IsServedPlace n asked place
    → call_weight place ≤ served_limit (nobody_reads n asked)
served-light n asked place (has_reply over) =
    let light = carried-light place over in let low = served-low (nobody_reads n asked) in omega (arith, light, low)
served-light n asked place (waits_there name is nobody) =
    let six = ap call_weight is
    in let most : served_limit (nobody_reads n asked) ≡ 6 = ap served_limit nobody
    in omega (arith, six, most)

routed-some : (nobody t : Bool) → 1 ≤ (if t then served_limit nobody else 7)
routed-some nobody true = served-low nobody
routed-some nobody false = omega arith

routed-low : (nobody : Bool) (r : Route) → 1 ≤ routed_weight nobody r
routed-low nobody (routes.At node) = routed-some nobody (nat_eq node 1)
routed-low nobody routes.Coming = omega arith
routed-low nobody (routes.Range node) = omega arith
routed-low nobody routes.Nobody = omega arith

limit-low : (nobody : Bool) (d : Directory) (home : Home) → 1 ≤ place_limit nobody d home
limit-low nobody d (homes.At name) = routed-low nobody (route d name)
limit-low nobody d (homes.Removal name) = routed-low nobody (route d name)
limit-low nobody d homes.Own = omega arith
limit-low nobody d homes.Keys = omega arith
limit-low nobody d homes.Parent = omega arith

-- a call on a name may weigh what the name's route allows
pub limit-on : (nobody : Bool) (d : Directory) (name : Name) (home : Home) → IsOn name home
    → place_limit nobody d home ≡ routed_weight nobody (route d name)
limit-on nobody d name home (inl e) = ap (place_limit nobody d) e
limit-on nobody d name home (inr e) = ap (place_limit nobody d) e

placed-by : (nobody : Bool) (d : Directory) (name : Name) (home : Home) (place : CallPlace) (o : Option Place)
    → place_of d name ≡ o → IsOn name home
    → call_weight place ≤ routed_weight nobody (route_by o (maker_stays d (maker d name)) (maker d name))
    → call_weight place ≤ place_limit nobody d home
placed-by nobody d name home place o e on light =
    let limit = limit-on nobody d name home on
    in let same : routed_weight nobody (route d name)
    ≡ routed_weight nobody (route_by o (maker_stays d (maker d name)) (maker d name)) =
    ap (λ x. routed_weight nobody (route_by x (maker_stays d (maker d name)) (maker d name))) e
    in omega (arith, limit, same, light)

away-light : (nobody : Bool) (place : CallPlace) (node : ℕ) → call_weight place ≡ 7 → node ≢ 1
    → call_weight place ≤ routed_weight nobody (routes.At node)
away-light nobody place node seven away =
    let t : routed_weight nobody (routes.At node) ≡ 7 =
    ap (λ t. if t then served_limit nobody else 7) (ne_eqb node 1 away)
    in omega (arith, seven, t)

-- A place that fits the route weighs no more than the route allows.
pub placed-light : (n : Node) (asked : Asked) (place : CallPlace) → PlaceFits n asked place
    → call_weight place
    ≤ place_limit (nobody_reads n asked) n.leader.directory (home_of asked.pid asked.call)
placed-light n asked place (is_carried_out over) =
    let light = carried-light place over
    in let low = limit-low (nobody_reads n asked) n.leader.directory (home_of asked.pid asked.call)
    in omega (arith, light, low)
placed-light n asked place (is_served_here name served on at) =
    placed-by (nobody_reads n asked) n.leader.directory name (home_of asked.pid asked.call) place (Some (At 1)) at on
    (served-light n asked place served)
placed-light n asked place (goes_to_owner name node is on at away) =
    placed-by (nobody_reads n asked) n.leader.directory name (home_of asked.pid asked.call) place (Some (At node)) at
    (inl on) (away-light (nobody_reads n asked) place node (ap call_weight is) away)
placed-light n asked place (goes_by_range name node is on ranged) =
    let limit = limit-on (nobody_reads n asked) n.leader.directory name (home_of asked.pid asked.call) on
    in let ten : call_weight place ≡ 10 = ap call_weight is
    in let range : routed_weight (nobody_reads n asked) (route n.leader.directory name) ≡ 10 =
    ap (routed_weight (nobody_reads n asked)) ranged
    in omega (arith, limit, ten, range)
placed-light n asked place (is_held name to items is on at) =
    let seven : call_weight place ≡ 7 = ap call_weight is
    in placed-by (nobody_reads n asked) n.leader.directory name (home_of asked.pid asked.call) place
    (Some (Coming to items)) at on (omega (arith, seven))
placed-light n asked place (is_asked_back name node is on at away) =
    placed-by (nobody_reads n asked) n.leader.directory name (home_of asked.pid asked.call) place (Some (At node)) at
    (inr on) (away-light (nobody_reads n asked) place node (ap call_weight is) away)

-- the route costs what the call may cost
abbrev pub RouteLowers : Script → Step → Step → Asked → List Held → CallPlace → Type 0
RouteLowers script s t asked rest place =
    step_weight script t + hand_weight (directory_in t) rest + call_weight place
    ≤ step_weight script s + hand_weight (directory_in s) (Request asked ∷ rest)

-- ---- what a route says of the name's place

pub record IsComing (o : Option Place) : Type 0 where
  pub to : Option ℕ
  pub items : List Held
  pub is : o ≡ Some (Coming to items)

-- it is at that node, or on its way; what goes by range is in no place, and of nobody nothing is said
abbrev pub RouteSays : Option Place → Route → Type 0
RouteSays o (routes.At node) = o ≡ Some (At node)
RouteSays o routes.Coming = IsComing o
RouteSays o (routes.Range node) = o ≡ None
RouteSays o routes.Nobody = Unit {0}

range-says : (t : Bool) (node : ℕ) → RouteSays None (if t then routes.Range node else routes.Nobody)
range-says true node = refl
range-says false node = tt

-- and so it is for the route that the leader finds
pub route-says : (o : Option Place) (who_stays : Bool) (made_by : Option ℕ) → RouteSays o (route_by o who_stays made_by)
route-says (Some (At node)) who_stays made_by = refl
route-says (Some (Coming to items)) who_stays made_by = record { to = to; items = items; is = refl }
route-says None who_stays None = tt
route-says None who_stays (Some node) = range-says (who_stays && not (nat_eq node 1)) node

-- ---- one more is held

-- a call that is held is no parcel
pub no-more-parcels : (items : List Held) (asked : Asked)
    → count_by is_parcel (items ++ Request asked ∷ []) ≡ count_by is_parcel items
no-more-parcels items asked =
    let both = length-filter is_parcel (items ++ Request asked ∷ [])
    in let one = length-filter is_parcel items
    in let parts = ap length (filter-append is_parcel items (Request asked ∷ []))
    ∙ length-append (filter is_parcel items) (filter is_parcel (Request asked ∷ []))
    in omega (arith, both, one, parts)

one-cancel : (asked : Asked) (t : Bool) → is_withdrawal asked.call ≡ t
    → length (filter is_held_cancel (Request asked ∷ [])) ≡ one_if t
one-cancel asked true e = ap (λ t. length (cond t (Request asked ∷ []) [])) e
one-cancel asked false e = ap (λ t. length (cond t (Request asked ∷ []) [])) e

-- a withdrawal more, or a call
pub cancels-held : (items : List Held) (asked : Asked) (t : Bool) → is_withdrawal asked.call ≡ t
    → count_by is_held_cancel (items ++ Request asked ∷ []) ≡ count_by is_held_cancel items + one_if t
cancels-held items asked t e =
    let both = length-filter is_held_cancel (items ++ Request asked ∷ [])
    in let one = length-filter is_held_cancel items
    in let last = one-cancel asked t e
    in let parts = ap length (filter-append is_held_cancel items (Request asked ∷ []))
    ∙ length-append (filter is_held_cancel items) (filter is_held_cancel (Request asked ∷ []))
    in omega (arith, both, one, last, parts)

-- with a name on its way no other queue or set is away than before
pub fewer-held : (d : Directory) (name : Name) (to : Option ℕ) (items : List Held)
    → FewerAway d (with_place d name (Coming to items))
fewer-held d name to items m object h =
    elim (name-cases m name) [
      | inl same ↦
          absurd (false≢true (sym (ap (λ y. is_away (place_of (with_place d name (Coming to items)) y)) same
          ∙ ap is_away (place-with-same d name (Coming to items))) ∙ h))
      | inr other ↦ sym (ap is_away (place-with-other d name (Coming to items) m other)) ∙ h
    ]

unbind-free : (script : Script) (refused : Bool) (name : Name) (s : Step)
    → IsFree script s (unbind_name refused name s)
unbind-free script true name s = record { costs = omega arith; knows = λ m h. h }
unbind-free script false (Proc pid) s = record { costs = omega arith; knows = λ m h. h }
unbind-free script false (Msg id) s = record { costs = omega arith; knows = λ m h. h }
unbind-free script false (Sem id) s = record { costs = omega arith; knows = λ m h. h }

module _ (script : Script) (s : Step) (asked : Asked) (rest : List Held)
    (number : let n : Node = s.node in n.number ≡ 1) (leading : IsLeading (directory_in s))
    (may : MayEndIf script s.node) (is_call : is_withdrawal asked.call ≡ false) where
  abbrev n : Node
  n = s.node

  abbrev nobody-reads : Bool
  nobody-reads = nobody_reads n asked

  abbrev d : Directory
  d = directory_in s

  abbrev home : Home
  home = home_of asked.pid asked.call

  -- where the call stands in the hand
  abbrev Lowers : CallPlace → Step → Type 0
  Lowers place t = RouteLowers script s t asked rest place

  leads : is_leader n ≡ true
  leads = ap (λ x. nat_eq x 1) number

  hand-was : hand_weight d (Request asked ∷ rest)
      ≡ routing_weight d home + sum_by (item_weight d) rest + back_weight d (Request asked ∷ rest)
  hand-was =
      let one = sum_by-cons (item_weight d) (Request asked) rest
      in let call : item_weight d (Request asked) ≡ routing_weight d home =
      ap (λ t. if t then 3 else routing_weight d home) is_call
      in omega (arith, one, call)

  -- ---- it is carried out

  cheap : (t : Step) (place : CallPlace) (cost : ℕ) → step_weight script t ≤ step_weight script s + cost
      → KnowsMore d (directory_in t) → call_weight place + cost ≤ 6 → Lowers place t
  cheap t place cost costs knows light =
      let was = hand-was
      in let items = items-less d (directory_in t) knows rest
      in let back = back-low (directory_in t) rest
      in let low = routing-low d home
      in omega (arith, was, items, back, low, costs, light)

  free : (t : Step) (place : CallPlace) → IsFree script s t → call_weight place ≤ 1 → Lowers place t
  free t place is light =
      let cost = is.costs in cheap t place 0 (omega (arith, cost)) is.knows (omega (arith, light))

  -- what a call that is served costs, with what it may weigh
  served-most : (t : Bool) → served_limit t + read_cost t true ≤ 6
  served-most true = omega arith
  served-most false = omega arith

  abbrev reading : ℕ
  reading = read_cost nobody-reads true

  serving : (t : Step) (name : Name) → serve_asked script s name asked ≡ Some t
      → step_weight script t ≤ step_weight script s + reading
  serving t name h =
      let cost = served-costs script s t name asked may (λ other. absurd (false≢true (sym other ∙ leads))) h
      in let same : read_cost nobody-reads (is_leader n) ≡ reading = ap (read_cost nobody-reads) leads
      in omega (arith, cost, same)

  served : (t : Step) (name : Name) (place : CallPlace) → serve_asked script s name asked ≡ Some t
      → call_weight place ≤ served_limit nobody-reads → Lowers place t
  served t name place h light =
      let most = served-most nobody-reads
      in cheap t place reading (serving t name h) (served-knows script s t name asked h) (omega (arith, light, most))

  unbound-by : (t : Step) (refused : Bool) (name : Name) (place : CallPlace) (o : Option Step)
      → serve_asked script s name asked ≡ o → option_map (unbind_name refused name) o ≡ Some t
      → call_weight place ≤ served_limit nobody-reads → Lowers place t
  unbound-by t refused name place None e h light = not_some t h
  unbound-by t refused name place (Some u) e h light =
      let cost = serving u name e
      in let most = served-most nobody-reads
      in let unbound : IsFree script u (unbind_name refused name u) = unbind-free script refused name u
      in let more = unbound.costs
      in subst (Lowers place) (from_some (unbind_name refused name u) t h)
      (cheap (unbind_name refused name u) place reading (omega (arith, cost, more))
      (knows-after d (directory_in u) (directory_in (unbind_name refused name u)) (served-knows script s u name asked e)
      unbound.knows) (omega (arith, light, most)))

  nobody : (name : Name) (place : CallPlace) → call_weight place ≤ 1
      → Lowers place (serve_nobody script s name asked)
  nobody name place light =
      free (serve_nobody script s name asked) place
      (record {
        costs = nobody-costs script s name asked may;
        knows = carried-knows script s asked (replies.Fail (no_such_name name));
      }) light

  -- ---- it goes on

  sent-on : (to : ℕ) (place : CallPlace) → call_weight place ≤ routing_weight d home → Lowers place (forward s to asked)
  sent-on to place light =
      let was = hand-was
      in let back = back-rest d (Request asked) rest
      in let sends = sends-push s.sends (to, frames.Forward asked)
      in omega (arith, was, back, sends, light)

  -- ---- it is held

  held : (name : Name) (to : Option ℕ) (items : List Held) (place : CallPlace)
      → place_of d name ≡ Some (Coming to items) → call_weight place ≤ 7
      → Lowers place (hold_item s name (Request asked))
  held name to items place e light =
      let d' : Directory = with_place d name (Coming to (items ++ Request asked ∷ []))
      in let same : hold d name (Request asked) ≡ d' = ap (hold_at d name (Request asked)) e
      in let was = hand-was
      in let low = routing-low d home
      in let weighs = place-replaces d name (Coming to (items ++ Request asked ∷ [])) (Coming to items) leading e
      in let count = no-more-parcels items asked
      in let cancels = cancels-held items asked false is_call
      in let directory : directory_weight (hold d name (Request asked)) ≡ directory_weight d' =
      ap directory_weight same
      in let hand : hand_weight (hold d name (Request asked)) rest ≡ hand_weight d' rest =
      ap (λ (y : Directory). hand_weight y rest) same
      in let knows = items-less d d' (knows-with d name (Coming to (items ++ Request asked ∷ []))) rest
      in let back = back-less d d' (fewer-held d name to (items ++ Request asked ∷ [])) rest
      in let all = back-rest d (Request asked) rest
      in omega (arith, was, low, weighs, count, cancels, directory, hand, knows, back, all, light)

  -- ---- its name is asked back

  asked-back : (name : Name) (node : ℕ) (place : CallPlace) → home ≡ homes.Removal name
      → place_of d name ≡ Some (At node) → nat_eq node 1 ≡ false → RemovalsAreOf name rest → call_weight place ≤ 7
      → Lowers place (recall_and_hold s name (Request asked) node)
  asked-back name node place on e away only light =
      let recalled : Directory = with_place d name (Coming None [])
      in let d' : Directory = with_place recalled name (Coming None (Request asked ∷ []))
      in let same : hold (recall d name None) name (Request asked) ≡ d' =
      ap (hold_at recalled name (Request asked)) (place-with-same d name (Coming None []))
      in let was = hand-was
      in let low = routing-low d home
      in let first = place-adds d name (Coming None [])
      in let second = place-adds recalled name (Coming None (Request asked ∷ []))
      in let cancels = cancels-held [] asked false is_call
      in let directory : directory_weight (hold (recall d name None) name (Request asked)) ≡ directory_weight d' =
      ap directory_weight same
      in let hand : hand_weight (hold (recall d name None) name (Request asked)) rest ≡ hand_weight d' rest =
      ap (λ (y : Directory). hand_weight y rest) same
      in let knows = items-less d d' (knows-after d recalled d' (knows-with d name (Coming None []))
      (knows-with recalled name (Coming None (Request asked ∷ [])))) rest
      in let none : back_weight d' rest ≡ 0 =
      none-back d' name (ap is_away (place-with-same recalled name (Coming None (Request asked ∷ [])))) rest only
      in let asks : removes_away d home ≡ true =
      ap (removes_away d) on ∙ ap is_away e ∙ ap not away
      in let one : back_weight d (Request asked ∷ rest) ≡ 1 =
      ap (λ t. one_if (t || list_any (asks_back d) rest)) asks
      in let sends = sends-push s.sends (node, frames.Recall name)
      in omega (arith, was, low, first, second, cancels, directory, hand, knows, none, one, sends, light)

  -- ---- by the name's place

  said : (name : Name) (r : Route) → route d name ≡ r → RouteSays (place_of d name) r
  said name r e =
      subst (RouteSays (place_of d name)) e
      (route-says (place_of d name) (maker_stays d (maker d name)) (maker d name))

  known : (name : Name) (place : Place) → place_of d name ≡ Some place → is_known d name ≡ true
  known name place e = ap (λ o. not (is_none o)) e

  at-node : (name : Name) (node : ℕ) (t : Step) (place : CallPlace) (leads_there : Bool)
      → routing_weight d home ≡ cost_if (is_known d name)
      → place_of d name ≡ Some (At node) → call_weight place ≤ (if leads_there then served_limit nobody-reads else 7)
      → (if leads_there then serve_asked script s name asked else Some (forward s node asked)) ≡ Some t
      → Lowers place t
  at-node name node t place true on e light h = served t name place h light
  at-node name node t place false on e light h =
      let cost : routing_weight d home ≡ 7 = on ∙ ap cost_if (known name (At node) e)
      in subst (Lowers place) (from_some (forward s node asked) t h)
      (sent-on node place (omega (arith, cost, light)))

  by-route : (name : Name) (t : Step) (place : CallPlace) (r : Route)
      → routing_weight d home ≡ cost_if (is_known d name) → route d name ≡ r
      → call_weight place ≤ routed_weight nobody-reads r
      → routing.route_by script s name asked r ≡ Some t → Lowers place t
  by-route name t place (routes.At node) on e light h =
      at-node name node t place (nat_eq node 1) on (said name (routes.At node) e) light
      (sym (ap (λ x. if nat_eq node x then serve_asked script s name asked else Some (forward s node asked)) number)
      ∙ h)
  by-route name t place routes.Coming on e light h =
      let coming : IsComing (place_of d name) = said name routes.Coming e
      in subst (Lowers place) (from_some (hold_item s name (Request asked)) t h)
      (held name coming.to coming.items place coming.is light)
  by-route name t place (routes.Range node) on e light h =
      let none : place_of d name ≡ None = said name (routes.Range node) e
      in let cost : routing_weight d home ≡ 10 = on ∙ ap (λ o. cost_if (not (is_none o))) none
      in subst (Lowers place) (from_some (forward s node asked) t h)
      (sent-on node place (omega (arith, cost, light)))
  by-route name t place routes.Nobody on e light h =
      subst (Lowers place) (from_some (serve_nobody script s name asked) t h) (nobody name place light)

  removed-at : (name : Name) (node : ℕ) (t : Step) (place : CallPlace) (leads_there : Bool)
      → nat_eq node 1 ≡ leads_there → home ≡ homes.Removal name → RemovalsAreOf name rest
      → place_of d name ≡ Some (At node) → call_weight place ≤ (if leads_there then served_limit nobody-reads else 7)
      → (if leads_there then remove_here script s name asked
      else Some (recall_and_hold s name (Request asked) node)) ≡ Some t
      → Lowers place t
  removed-at name node t place true test on only e light h =
      unbound-by t (was_removed (get_named n.deeds name)) name place (serve_asked script s name asked) refl h light
  removed-at name node t place false test on only e light h =
      subst (Lowers place) (from_some (recall_and_hold s name (Request asked) node) t h)
      (asked-back name node place on e test only light)

  by-removal : (name : Name) (t : Step) (place : CallPlace) (r : Route) → home ≡ homes.Removal name
      → RemovalsAreOf name rest → route d name ≡ r → call_weight place ≤ routed_weight nobody-reads r
      → remove_by script s name asked r ≡ Some t → Lowers place t
  by-removal name t place (routes.At node) on only e light h =
      removed-at name node t place (nat_eq node 1) refl on only (said name (routes.At node) e) light
      (sym (ap (λ x. if nat_eq node x then remove_here script s name asked
      else Some (recall_and_hold s name (Request asked) node)) number) ∙ h)
  by-removal name t place routes.Coming on only e light h =
      by-route name t place routes.Coming (ap (routing_weight d) on) e light h
  by-removal name t place (routes.Range node) on only e light h =
      by-route name t place (routes.Range node) (ap (routing_weight d) on) e light h
  by-removal name t place routes.Nobody on only e light h =
      by-route name t place routes.Nobody (ap (routing_weight d) on) e light h

  by-home : (t : Step) (place : CallPlace) (at : Home) → home ≡ at
      → ((name : Name) → at ≡ homes.Removal name → RemovalsAreOf name rest)
      → call_weight place ≤ place_limit nobody-reads d at → route_home script s asked at ≡ Some t → Lowers place t
  by-home t place (homes.At name) on only light h =
      by-route name t place (route d name) (ap (routing_weight d) on) refl light h
  by-home t place (homes.Removal name) on only light h =
      by-removal name t place (route d name) on (only name refl) refl light h
  by-home t place homes.Keys on only light h = free t place (by-key-free script s asked leads may asked.call t h) light
  by-home t place homes.Own on only light h = not_some t h
  by-home t place homes.Parent on only light h = not_some t h

  -- The route costs no more than the call may cost in hand, where a removal stands before removals of its name alone.
  pub route-lowers : (t : Step) (place : CallPlace)
      → ((name : Name) → home ≡ homes.Removal name → RemovalsAreOf name rest)
      → call_weight place ≤ place_limit nobody-reads d home → route_call script s asked ≡ Some t → Lowers place t
  route-lowers t place only light h = by-home t place home refl only light h
