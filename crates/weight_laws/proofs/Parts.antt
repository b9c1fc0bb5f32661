-- What a node weighs, part by part: its deeds, and the leader's places.
use Rattle.std.proofs.Common.{◌≡◌, ℕ, ◌+◌, ◌≤◌, Bool, true, false, not, ◌&&◌, [], ◌∷◌, length, nat_eq, if◌then◌else◌, Option, Some, None, refl, ap, arith}
use Rattle.std.proofs.lemmas.Bool.{false≢true}
use Rattle.std.proofs.lemmas.List.Sums.{sum_by-cons}
use Rattle.pico_base.specs.declared.numbers.Name.{Name}
use Rattle.pico_base.specs.declared.numbers.Name.TheVariants.{Proc, Msg, Sem}
use Rattle.number_maps.specs.Maps.{Numbered}
use Rattle.number_maps.specs.Rising.{IsRising}
use Rattle.node_model.specs.Bodies.{Body, Deeds}
use Rattle.node_model.specs.Directory.{Directory, Place, At, Coming, place_of, with_place, place_name, is_known, places_without, place_without, with_leaving}
use Rattle.node_model.specs.Kinds.{get_named, put_named, without_named, is_object}
use Rattle.world_model.specs.Node.{Node, is_leader}
use Rattle.world_laws.specs.Invariant.{IsLeading}
use Rattle.weight_laws.specs.Weights.{directory_weight, place_weight, places_weight, table_weight}
use Rattle.weight_laws.proofs.Maps.{length-put, length-put-there, length-without, put-adds, put-replaces}

-- ---- tests that were passed

-- where there is a result the test was passed
pub passed : {X : Type 0} (b : Bool) (o : Option X) (x : X) → (if b then o else None) ≡ Some x
    → (b ≡ true) × (o ≡ Some x)
passed true o x h = (refl, h)
passed false o x h = cc

-- both tests were
pub and-left : (a b : Bool) → (a && b) ≡ true → a ≡ true
and-left true b h = refl
and-left false b h = absurd (false≢true h)

-- the second, too
pub and-right : (a b : Bool) → (a && b) ≡ true → b ≡ true
and-right true b h = h
and-right false b h = absurd (false≢true h)

-- what isn't so is false
pub not-true : (a : Bool) → not a ≡ true → a ≡ false
not-true true h = absurd (false≢true h)
not-true false h = refl

-- ---- deeds

-- how many queues and sets there are
abbrev pub size_of : Deeds → ℕ
size_of deeds = length deeds.queues + length deeds.sets

-- the queues and the sets stand by rising number
pub record ObjectsRise (deeds : Deeds) : Type 0 where
  pub queues : IsRising deeds.queues
  pub sets : IsRising deeds.sets

counted : (leads : Bool) (x y more : ℕ) → x ≤ y + more → (if leads then 0 else x) ≤ (if leads then 0 else y) + more
counted true x y more h = omega arith
counted false x y more h = h

-- a node without objects
pub no-table : (t : Bool) → let none : ℕ = 0 in (if t then none else none) ≡ none
no-table true = refl
no-table false = refl

-- a node with so many more objects
pub table-adds : (n m : Node) (more : ℕ) → m.number ≡ n.number → size_of m.deeds ≤ size_of n.deeds + more
    → table_weight m ≤ table_weight n + more
table-adds n m more e h =
    let same : table_weight m ≡ (if is_leader n then 0 else size_of m.deeds) =
    ap (λ x. if nat_eq x 1 then 0 else size_of m.deeds) e
    in let low = counted (is_leader n) (size_of m.deeds) (size_of n.deeds) more h
    in omega (arith, same, low)

-- and with no more
pub table-keeps : (n m : Node) → m.number ≡ n.number → size_of m.deeds ≤ size_of n.deeds
    → table_weight m ≤ table_weight n
table-keeps n m e h = let low = table-adds n m 0 e (omega (arith, h)) in omega (arith, low)

-- another node than the leader
pub table-counts : (n : Node) → is_leader n ≡ false → table_weight n ≡ size_of n.deeds
table-counts n e = ap (λ t. if t then 0 else size_of n.deeds) e

-- a body is put
pub size-put : (deeds : Deeds) (name : Name) (body : Body) → size_of (put_named deeds name body) ≤ size_of deeds + 1
size-put deeds (Proc pid) body = omega arith
size-put deeds (Msg id) body = let one = length-put deeds.queues id body in omega (arith, one)
size-put deeds (Sem id) body = let one = length-put deeds.sets id body in omega (arith, one)

-- where there was one
pub size-put-there : (deeds : Deeds) (name : Name) (body was : Body) → ObjectsRise deeds
    → get_named deeds name ≡ Some was → size_of (put_named deeds name body) ≤ size_of deeds
size-put-there deeds (Proc pid) body was rise there = omega arith
size-put-there deeds (Msg id) body was rise there =
    let one = length-put-there deeds.queues id body was rise.queues there in omega (arith, one)
size-put-there deeds (Sem id) body was rise there =
    let one = length-put-there deeds.sets id body was rise.sets there in omega (arith, one)

-- it goes
pub size-without : (deeds : Deeds) (name : Name) (was : Body) → is_object name ≡ true
    → get_named deeds name ≡ Some was → size_of (without_named deeds name) + 1 ≤ size_of deeds
size-without deeds (Proc pid) was object there = cc
size-without deeds (Msg id) was object there =
    let one = length-without deeds.queues id was there in omega (arith, one)
size-without deeds (Sem id) was object there =
    let one = length-without deeds.sets id was there in omega (arith, one)

-- ---- places

-- a place comes, at most
pub place-adds : (d : Directory) (name : Name) (place : Place)
    → directory_weight (with_place d name place) ≤ directory_weight d + place_weight place
place-adds d (Proc pid) place = let one = put-adds place_weight d.places.processes pid place in omega (arith, one)
place-adds d (Msg id) place = let one = put-adds place_weight d.places.queues id place in omega (arith, one)
place-adds d (Sem id) place = let one = put-adds place_weight d.places.sets id place in omega (arith, one)

-- and the old one goes
pub place-replaces : (d : Directory) (name : Name) (place was : Place) → IsLeading d → place_of d name ≡ Some was
    → directory_weight (with_place d name place) + place_weight was ≤ directory_weight d + place_weight place
place-replaces d (Proc pid) place was leads there =
    let one = put-replaces place_weight d.places.processes pid place was leads.processes there in omega (arith, one)
place-replaces d (Msg id) place was leads there =
    let one = put-replaces place_weight d.places.queues id place was leads.queues there in omega (arith, one)
place-replaces d (Sem id) place was leads there =
    let one = put-replaces place_weight d.places.sets id place was leads.sets there in omega (arith, one)

-- a name that isn't known is placed at a node
pub placed-keeps-weight : (d : Directory) (name : Name) (node : ℕ)
    → directory_weight (place_name d name node) ≤ directory_weight d
placed-keeps-weight d name node = by-test (is_known d name)
  where
    by-test : (t : Bool)
        → directory_weight (if t then d else with_place d name (At node)) ≤ directory_weight d
    by-test true = omega arith
    by-test false = let one = place-adds d name (At node) in omega (arith, one)

-- ---- a node leaves

asked-back : (owner node : ℕ) (t : Bool) → place_weight (if t then Coming None [] else At owner) ≡ 0
asked-back owner node true = refl
asked-back owner node false = refl

place-still : (node : ℕ) (place : Place) → place_weight (place_without node place) ≡ place_weight place
place-still node (At owner) = asked-back owner node (nat_eq owner node)
place-still node (Coming to items) = refl

places-still : (node : ℕ) (places : Numbered Place) → places_weight (places_without node places) ≡ places_weight places
places-still node [] = refl
places-still node (e ∷ places) =
    let rest = places-still node places
    in let one = place-still node e.1
    in let now = sum_by-cons (λ (f : ℕ × Place). place_weight f.1) (e.0, place_without node e.1)
    (places_without node places)
    in let old = sum_by-cons (λ (f : ℕ × Place). place_weight f.1) e places
    in omega (arith, rest, one, now, old)

-- what was there is on its way, bound for no node
pub leaving-keeps-weight : (d : Directory) (node : ℕ) → directory_weight (with_leaving d node) ≡ directory_weight d
leaving-keeps-weight d node =
    let processes = places-still node d.places.processes
    in let queues = places-still node d.places.queues
    in let sets = places-still node d.places.sets
    in omega (arith, processes, queues, sets)
