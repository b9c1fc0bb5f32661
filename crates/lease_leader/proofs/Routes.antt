-- What a route tells of a name's place: whoever asked for it may recall the name, or hold for it.
use Rattle.std.proofs.Common.{◌≡◌, ℕ, Bool, true, false, cond, not, ◌&&◌, nat_eq, Option, Some, None, refl, IsTrue}
use Rattle.pico_base.specs.declared.numbers.Name.{Name}
use Rattle.node_model.specs.declared.route.Route.TheVariants as routes
use Rattle.node_model.specs.Directory.{Directory, Place, At, Coming, is_coming, is_coming_to, maker, maker_stays, place_of, route, route_by}
use Rattle.lease_leader.specs.Places.{is_at, is_at_node}

not-at : (b : Bool) (x node : ℕ) → cond b (routes.Range x) routes.Nobody ≡ routes.At node → ⊥
not-at true x node h = cc
not-at false x node h = cc

not-coming : (b : Bool) (x : ℕ) → cond b (routes.Range x) routes.Nobody ≡ routes.Coming → ⊥
not-coming true x h = cc
not-coming false x h = cc

at-by : (place : Option Place) (b : Bool) (made_by : Option ℕ) (node : ℕ) → route_by place b made_by ≡ routes.At node
    → IsTrue (is_at_node place)
at-by None b None node h = absurd (cc)
at-by None b (Some x) node h = absurd (not-at (b && not (nat_eq x 1)) x node h)
at-by (Some (At m)) b made_by node h = refl
at-by (Some (Coming to items)) b made_by node h = absurd (cc)

coming-by : (place : Option Place) (b : Bool) (made_by : Option ℕ) → route_by place b made_by ≡ routes.Coming
    → IsTrue (is_coming_to place)
coming-by None b None h = absurd (cc)
coming-by None b (Some x) h = absurd (not-coming (b && not (nat_eq x 1)) x h)
coming-by (Some (At m)) b made_by h = absurd (cc)
coming-by (Some (Coming to items)) b made_by h = refl

-- a name that a route finds at a node is at one
pub is_at_by_route : (d : Directory) (name : Name) (node : ℕ) → route d name ≡ routes.At node → IsTrue (is_at d name)
is_at_by_route d name node h = at-by (place_of d name) (maker_stays d (maker d name)) (maker d name) node h

-- a name that a route finds coming is coming
pub is_coming_by_route : (d : Directory) (name : Name) → route d name ≡ routes.Coming → IsTrue (is_coming d name)
is_coming_by_route d name h = coming-by (place_of d name) (maker_stays d (maker d name)) (maker d name) h
