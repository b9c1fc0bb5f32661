-- The leader routes the first call of its hand, in the middle of an event: one lemma for each way that it goes where
-- no entry is made.
use Rattle.std.proofs.Common.{◌≡◌, ◌≢◌, ◌⊎◌, ℕ, ◌≤◌, Bool, true, false, ◌&&◌, not, if◌then◌else◌, List, [], ◌∷◌, ◌++◌, nat_eq, ◌==◌, Option, Some, None, refl, ap, sym, subst, ◌∙◌, inl, inr, arith, append-nil}
use Rattle.std.proofs.lemmas.Bool.{ne_eqb, false≢true}
use Rattle.pico_base.specs.declared.call.Call.{Call}
use Rattle.pico_base.specs.declared.call.Call.TheVariants as calls
use Rattle.pico_base.specs.declared.call.Home.{Home}
use Rattle.pico_base.specs.declared.call.Home.TheVariants as homes
use Rattle.pico_base.specs.declared.numbers.Name.{Name}
use Rattle.pico_base.specs.declared.numbers.Name.TheVariants.{Proc, Msg, Sem}
use Rattle.pico_base.specs.declared.script.Script.{Script}
use Rattle.pico_base.specs.declared.signal.SigArg.TheVariants.{Zero, Is, Bad}
use Rattle.pico_base.specs.Home.{home_of, home_of_process, home_of_get, home_of_withdrawal}
use Rattle.rpc_frame.specs.declared.asked.Asked.{Asked}
use Rattle.rpc_frame.specs.declared.frame.Frame.{Frame}
use Rattle.rpc_frame.specs.declared.frame.Frame.TheVariants as frames
use Rattle.node_model.specs.declared.held.Held.{Held}
use Rattle.node_model.specs.declared.held.Held.TheVariants.{Request}
use Rattle.node_model.specs.declared.route.Route.{Route}
use Rattle.node_model.specs.declared.route.Route.TheVariants as routes
use Rattle.node_model.specs.Kinds.{is_object}
use Rattle.node_model.specs.Directory.{Directory, At, Coming, place_of, with_place, recall, hold, hold_at, maker, maker_stays, stays, route, route_by}
use Rattle.world_model.specs.Node.{Node}
use Rattle.world_model.specs.Step.{Step, with_directory}
use Rattle.world_model.specs.Serving.{serve_asked}
use Rattle.world_model.specs.Routes.{route_call, route_home, remove_by, remove_here, forward, hold_item, recall_and_hold}
use Rattle.world_model.specs.Routes as routing
use Rattle.world_model.specs.World.{World, node_count, world_after}
use Rattle.world_laws.specs.Places.{CallPlace, SentByPlace, SentByRange, IsHeld, Beside, call_in}
use Rattle.world_laws.specs.Sights.{node_of, directory_of, is_born_in}
use Rattle.world_laws.specs.Plays.{is_home_on}
use Rattle.world_laws.specs.Callers.{may_be_in}
use Rattle.world_laws.specs.Families.{NodeHolds}
use Rattle.world_laws.proofs.Named.{same-name}
use Rattle.world_laws.proofs.Sends.{AreToNodes}
use Rattle.world_laws.proofs.Changes.{Changes}
use Rattle.world_laws.proofs.Middles.{GrowsBy, changes-further}
use Rattle.rule_laws.proofs.Places.{place-with-same}
use Rattle.route_laws.proofs.hand.Owners.{owner-in-range, maker-in-range}
use Rattle.route_laws.proofs.hand.Forwards.{forward-keeps}
use Rattle.route_laws.proofs.hand.Holdings.{held-also, held-first, holding-keeps}
use Rattle.route_laws.proofs.Owed.{HoldsAt}
use Rattle.route_laws.proofs.hand.HandMoves.{IsCallOf}

-- In the middle of an event of the leader the call has a route, and the invariant holds after it, with the rest in hand
-- and with this beside the world, but for the strike that the step owes.
pub record RouteKeeps (script : Script) (v : World) (s : Step) (asked : Asked) (rest : List Held) (b : Beside) : Type 0
  where
    pub next : Step
    pub is_route : route_call script s asked ≡ Some next
    pub holds : HoldsAt script v 1 next rest b

-- ---- homes

abbrev removes : Home → Bool
removes (homes.Removal other) = is_object other
removes home = true

removes-kill : (pid other : ℕ) → removes (home_of_process pid other) ≡ true
removes-kill pid other = by-test (other == pid)
  where
    by-test : (t : Bool) → removes (if t then homes.Own else homes.At (Proc other)) ≡ true
    by-test true = refl
    by-test false = refl

removes-withdrawal : (pid : ℕ) (name : Name) → removes (home_of_withdrawal pid name) ≡ true
removes-withdrawal pid (Proc other) = removes-kill pid other
removes-withdrawal pid (Msg id) = refl
removes-withdrawal pid (Sem id) = refl

removes-get : (key : Option ℕ) → removes (home_of_get key) ≡ true
removes-get None = refl
removes-get (Some key) = refl

may-remove : (pid : ℕ) (call : Call) → removes (home_of pid call) ≡ true
may-remove pid (calls.Kill other Bad) = refl
may-remove pid (calls.Kill other Zero) = removes-kill pid other
may-remove pid (calls.Kill other (Is sig)) = removes-kill pid other
may-remove pid (calls.MsgGet key create excl) = removes-get key
may-remove pid (calls.SemGet key count create excl) = removes-get key
may-remove pid (calls.Withdraw name) = removes-withdrawal pid name
may-remove pid call = refl

-- a removal is of a queue or a set
pub removal-of-object : (pid : ℕ) (call : Call) (name : Name) → home_of pid call ≡ homes.Removal name
    → is_object name ≡ true
removal-of-object pid call name e = sym (ap removes e) ∙ may-remove pid call

-- a call on a name asks for it or removes it
abbrev pub IsOn : Name → Home → Type 0
IsOn name home = (home ≡ homes.At name) ⊎ (home ≡ homes.Removal name)

-- such a call is on it
pub is-home-on : (name : Name) (home : Home) → IsOn name home → is_home_on name home ≡ true
is-home-on name home (inl e) = ap (is_home_on name) e ∙ same-name name name refl
is-home-on name home (inr e) = ap (is_home_on name) e ∙ same-name name name refl

may-be-held : (name : Name) (home : Home) (call : Call) → IsOn name home → may_be_in (IsHeld name) home call ≡ true
may-be-held name home call (inl e) = ap (λ z. may_be_in (IsHeld name) z call) e ∙ same-name name name refl
may-be-held name home call (inr e) = ap (λ z. may_be_in (IsHeld name) z call) e ∙ same-name name name refl

may-go-by-range : (name : Name) (home : Home) (call : Call) (h : ℕ) → IsOn name home
    → may_be_in (SentByRange h) home call ≡ true
may-go-by-range name home call h (inl e) = ap (λ z. may_be_in (SentByRange h) z call) e
may-go-by-range name home call h (inr e) = ap (λ z. may_be_in (SentByRange h) z call) e

-- at no node
abbrev pub is_elsewhere : Route → Bool
is_elsewhere (routes.At node) = false
is_elsewhere r = true

no-recall : (script : Script) (s : Step) (name : Name) (asked : Asked) (r : Route) → is_elsewhere r ≡ true
    → remove_by script s name asked r ≡ routing.route_by script s name asked r
no-recall script s name asked (routes.At node) h = absurd (false≢true h)
no-recall script s name asked r h = refl

-- ---- the middle of the event

module _ (script : Script) (v : World) (s : Step) (asked : Asked) (rest : List Held) (b : Beside)
    (holds : HoldsAt script v 1 s (Request asked ∷ rest) b) (asks : IsCallOf script asked) where
  abbrev w : World
  w = world_after v 1 s

  abbrev d : Directory
  d = directory_of w

  abbrev home : Home
  home = home_of asked.pid asked.call

  abbrev placed : CallPlace → Beside
  placed place = record b { call = call_in b.call asked.caller place }

  high-one : 1 ≤ node_count script
  high-one = let low = asks.low in let high = asks.high in omega (arith, low, high)

  changes-now : (t : Step) (sends : List (ℕ × Frame)) → GrowsBy s t sends [] → AreToNodes (node_count script) sends
      → Changes script 1 w (world_after v 1 t) t.node [] sends []
  changes-now t sends grows to_nodes =
      changes-further script v 1 s t sends [] holds.shape (omega arith) high-one to_nodes grows

  -- the world shows the node of the step
  pub leader-here : node_of w 1 ≡ s.node
  leader-here =
      let c : Changes script 1 w w s.node [] [] [] =
      changes-now s [] (record { sends_are = sym (append-nil s.sends); entries_are = sym (append-nil s.entries) }) tt
      in c.here

  -- which is node 1
  pub leader-number : s.node.number ≡ 1
  leader-number =
      let n : NodeHolds script b.pids (is_born_in w) 1 (node_of w 1) = holds.nodes 1 (omega arith) high-one
      in sym (ap (λ (m : Node). m.number) leader-here) ∙ n.number

  directory : s.node.leader.directory ≡ d
  directory = sym (ap (λ (m : Node). m.leader.directory) leader-here)

  -- where the route isn't a node's it is the same for a removal
  pub routed-elsewhere : (name : Name) (r : Route) → is_elsewhere r ≡ true → IsOn name home → route d name ≡ r
      → route_call script s asked ≡ routing.route_by script s name asked r
  routed-elsewhere name r away (inl e) g =
      ap (route_home script s asked) e
      ∙ ap (λ y. routing.route_by script s name asked (route y name)) directory
      ∙ ap (routing.route_by script s name asked) g
  routed-elsewhere name r away (inr e) g =
      ap (route_home script s asked) e
      ∙ ap (λ y. remove_by script s name asked (route y name)) directory
      ∙ ap (remove_by script s name asked) g
      ∙ no-recall script s name asked r away

  -- ---- to a node

  module _ (by : Bool) (h : ℕ) where
    abbrev sent_on : Step
    sent_on = forward s h asked

    forward-changes : 1 ≤ h → h ≤ node_count script
        → Changes script 1 w (world_after v 1 sent_on) (node_of w 1) [] ((h, frames.Forward asked) ∷ []) []
    forward-changes low_to high_to =
        subst (λ (m : Node). Changes script 1 w (world_after v 1 sent_on) m [] ((h, frames.Forward asked) ∷ []) [])
        (sym leader-here)
        (changes-now sent_on ((h, frames.Forward asked) ∷ [])
        (record { sends_are = refl; entries_are = sym (append-nil s.entries) })
        (record { low = low_to; high = high_to }, tt))

  -- A call on a name that another node owns goes there.
  pub route-to-owner : (name : Name) (h : ℕ) → home ≡ homes.At name → place_of d name ≡ Some (At h) → 1 ≤ h → h ≢ 1
      → RouteKeeps script v s asked rest (placed (SentByPlace h))
  route-to-owner name h on place low_to other =
      let low_owner : 2 ≤ h = omega (arith, low_to, other)
      in record {
        next = forward s h asked;
        is_route = ap (route_home script s asked) on
            ∙ ap (λ y. routing.route_by script s name asked (route y name)) directory
            ∙ ap (λ o. routing.route_by script s name asked (route_by o (maker_stays d (maker d name)) (maker d name)))
            place
            ∙ ap (λ t. if t then serve_asked script s name asked else Some (forward s h asked))
            (ne_eqb h s.node.number (λ e. other (e ∙ leader-number)));
        holds = forward-keeps script w asked rest b holds asks name (is-home-on name home (inl on)) true h low_owner
            (ap (λ z. may_be_in (SentByPlace h) z asked.call) on) place (world_after v 1 (forward s h asked))
            (forward-changes true h low_to
            (owner-in-range script w (Request asked ∷ rest) b holds name h place low_owner));
      }

  -- the range's node is its route
  pub range-is : (name : Name) (h : ℕ) → place_of d name ≡ None → maker d name ≡ Some h → stays d h ≡ true → h ≢ 1
      → route d name ≡ routes.Range h
  range-is name h place makes stays_there other =
      ap (λ o. route_by o (maker_stays d (maker d name)) (maker d name)) place
      ∙ ap (λ m. route_by None (maker_stays d m) m) makes
      ∙ ap (λ t. if t && not (nat_eq h 1) then routes.Range h else routes.Nobody) stays_there
      ∙ ap (λ t. if not t then routes.Range h else routes.Nobody) (ne_eqb h 1 other)

  -- A call on a name that isn't known goes to the node that has its number's range, if that stays and isn't the leader.
  pub route-by-range : (name : Name) (h : ℕ) → IsOn name home → place_of d name ≡ None → maker d name ≡ Some h
      → stays d h ≡ true → h ≢ 1 → RouteKeeps script v s asked rest (placed (SentByRange h))
  route-by-range name h on place makes stays_there other =
      let range = maker-in-range script w (Request asked ∷ rest) b holds name h makes
      in let low_to : 1 ≤ h = range.0
      in record {
        next = forward s h asked;
        is_route = routed-elsewhere name (routes.Range h) refl on (range-is name h place makes stays_there other);
        holds = forward-keeps script w asked rest b holds asks name (is-home-on name home on) false h
            (omega (arith, low_to, other)) (may-go-by-range name home asked.call h on) (makes, place)
            (world_after v 1 (forward s h asked)) (forward-changes false h range.0 range.1);
      }

  -- ---- to what is held

  -- A call on a name that is on its way is held for it.
  pub route-to-held : (name : Name) (to : Option ℕ) (items : List Held) → IsOn name home
      → place_of d name ≡ Some (Coming to items) → RouteKeeps script v s asked rest (placed (IsHeld name))
  route-to-held name to items on place =
      record {
        next = after;
        is_route = routed-elsewhere name routes.Coming refl on
            (ap (λ o. route_by o (maker_stays d (maker d name)) (maker d name)) place);
        holds = holding-keeps script w asked rest b holds asks name (is-home-on name home on)
            (may-be-held name home asked.call on) None to items place (λ e. absurd (false≢true e)) _
            (held-also d name asked to items holds.leading place) (world_after v 1 after)
            (subst (λ (m : Node). Changes script 1 w (world_after v 1 after) m [] [] []) node-is
            (changes-now after []
            (record { sends_are = sym (append-nil s.sends); entries_are = sym (append-nil s.entries) }) tt));
      }
    where
      after : Step
      after = hold_item s name (Request asked)

      node-is : after.node ≡ with_directory (node_of w 1) (with_place d name (Coming to (items ++ Request asked ∷ [])))
      node-is =
          ap (λ (m : Node). with_directory m (hold m.leader.directory name (Request asked))) (sym leader-here)
          ∙ ap (λ o. with_directory (node_of w 1) (hold_at d name (Request asked) o)) place

  -- A removal of a queue or a set that another node owns: its deed is asked for, and the call is held until that comes.
  pub route-to-recall : (name : Name) (h : ℕ) → home ≡ homes.Removal name → place_of d name ≡ Some (At h) → 1 ≤ h
      → h ≢ 1 → RouteKeeps script v s asked rest (placed (IsHeld name))
  route-to-recall name h on place low_to other =
      record {
        next = after;
        is_route = ap (route_home script s asked) on
            ∙ ap (λ y. remove_by script s name asked (route y name)) directory
            ∙ ap (λ o. remove_by script s name asked (route_by o (maker_stays d (maker d name)) (maker d name))) place
            ∙ ap (λ t. if t then remove_here script s name asked else Some after)
            (ne_eqb h s.node.number (λ e. other (e ∙ leader-number)));
        holds = holding-keeps script w asked rest b holds asks name (is-home-on name home (inr on))
            (may-be-held name home asked.call (inr on)) (Some h) None []
            (record { low = low_owner; place_is = place; to_nobody = refl; none_held = refl })
            (λ e. removal-of-object asked.pid asked.call name on) _ (held-first d name asked h holds.leading place)
            (world_after v 1 after)
            (subst (λ (m : Node). Changes script 1 w (world_after v 1 after) m [] ((h, frames.Recall name) ∷ []) [])
            node-is
            (changes-now after ((h, frames.Recall name) ∷ [])
            (record { sends_are = refl; entries_are = sym (append-nil s.entries) })
            (record { low = low_to; high = high_to }, tt)));
      }
    where
      after : Step
      after = recall_and_hold s name (Request asked) h

      low_owner : 2 ≤ h
      low_owner = omega (arith, low_to, other)

      high_to : h ≤ node_count script
      high_to = owner-in-range script w (Request asked ∷ rest) b holds name h place low_owner

      node-is : after.node
          ≡ with_directory (node_of w 1)
          (with_place (with_place d name (Coming None [])) name (Coming None (Request asked ∷ [])))
      node-is =
          ap (λ (m : Node). with_directory m (hold (recall m.leader.directory name None) name (Request asked)))
          (sym leader-here)
          ∙ ap (λ o. with_directory (node_of w 1) (hold_at (recall d name None) name (Request asked) o))
          (place-with-same d name (Coming None []))
