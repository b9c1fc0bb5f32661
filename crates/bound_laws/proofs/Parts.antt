-- Changes of a node's tables, of the directory, and of the cache keep their bounds.
use Rattle.std.proofs.Common.{◌≡◌, ℕ, ◌-◌, ◌/◌, Bool, true, false, not, ◌&&◌, cond, nat_eq, List, [], ◌∷◌, ◌++◌, Option, Some, None, refl, ap, sym, subst, ◌∙◌, inl, inr}
use Rattle.std.specs.Prelude.{slice_get}
use Rattle.std.specs.List.{AllByRecursion}
use Rattle.std.specs.Option.{option_map}
use Rattle.std.proofs.lemmas.Bool.{cases_eq}
use Rattle.pico_base.specs.declared.numbers.Kind.{Kind}
use Rattle.pico_base.specs.declared.numbers.Kind.TheVariants as kinds
use Rattle.pico_base.specs.declared.numbers.Name.{Name}
use Rattle.pico_base.specs.declared.numbers.Name.TheVariants.{Proc, Msg, Sem}
use Rattle.pico_base.specs.declared.script.Script.{Script}
use Rattle.number_maps.specs.Maps.{Numbered, get}
use Rattle.number_maps.proofs.LookUps.{get-first, get-later}
use Rattle.number_maps.proofs.Rising.{rising-filter, rising-nothing, rising-put}
use Rattle.kernel_laws.proofs.Plain.{by_test}
use Rattle.kernel_laws.proofs.Lists.{all-at, all-both, all-filtered, all-taken}
use Rattle.world_model.specs.World.{IsNode}
use Rattle.entry_laws.proofs.Names.{get-put-other-name, get-put-same-name, name-cases}
use Rattle.node_model.specs.declared.held.Held.{Held}
use Rattle.node_model.specs.declared.route.Route.{Route}
use Rattle.node_model.specs.declared.route.Route.TheVariants as routes
use Rattle.node_model.specs.Cache.{Cache, forget, learn, look, look_by, max_cached, owner_in}
use Rattle.node_model.specs.Directory.{Directory, Place, At, Coming, arrive, bound_for, destination_of, held_for, hold, hold_at, is_known, items_of, maker, maker_in, maker_stays, place_name, place_of, place_without, places_without, range_size, recall, route, route_by, with_leaving, with_left, with_place, with_range}
use Rattle.node_model.specs.Kinds.{Named, for_kind, get_named, is_same_name, kind_of, number_of, none_named, put_all, put_named, without_named}
use Rattle.bound_laws.specs.Bounded.{AllRise, ItemIsOfNode, ItemsAreOfNodes, LeadsToNode, NamesNodes, PlaceNamesNodes}

-- ---- maps from names

-- an empty map stands by rising number
pub none-rises : {V : Type 0} → AllRise {V = V} none_named
none-rises {V} = record { processes = rising-nothing V; queues = rising-nothing V; sets = rising-nothing V }

-- so does one with a further value
pub put-rises : {V : Type 0} (m : Named V) (name : Name) (v : V) → AllRise m → AllRise (put_named m name v)
put-rises m (Proc n) v r =
    record { processes = rising-put m.processes n v r.processes; queues = r.queues; sets = r.sets }
put-rises m (Msg n) v r =
    record { processes = r.processes; queues = rising-put m.queues n v r.queues; sets = r.sets }
put-rises m (Sem n) v r =
    record { processes = r.processes; queues = r.queues; sets = rising-put m.sets n v r.sets }

-- one with a value less
pub without-rises : {V : Type 0} (m : Named V) (name : Name) → AllRise m → AllRise (without_named m name)
without-rises m (Proc n) r =
    record {
      processes = rising-filter (λ e. not (nat_eq n e.0)) m.processes r.processes;
      queues = r.queues;
      sets = r.sets;
    }
without-rises m (Msg n) r =
    record {
      processes = r.processes;
      queues = rising-filter (λ e. not (nat_eq n e.0)) m.queues r.queues;
      sets = r.sets;
    }
without-rises m (Sem n) r =
    record {
      processes = r.processes;
      queues = r.queues;
      sets = rising-filter (λ e. not (nat_eq n e.0)) m.sets r.sets;
    }

-- and one with several more
pub put-all-rises : {V : Type 0} (pairs : List (Name × V)) (m : Named V) → AllRise m → AllRise (put_all m pairs)
put-all-rises [] m r = r
put-all-rises (pair ∷ pairs) m r =
    put-all-rises pairs (put_named m pair.0 pair.1) (put-rises m pair.0 pair.1 r)

-- ---- the cache

module _ (script : Script) where
  abbrev CacheNamesNodes : Cache → Type 0
  CacheNamesNodes cache = AllByRecursion (λ e. IsNode script e.1) cache

  -- a cache without a name
  pub forget-names : (cache : Cache) (name : Name) → CacheNamesNodes cache → CacheNamesNodes (forget cache name)
  forget-names cache name all =
      all-filtered (λ e. IsNode script e.1) (λ e. not (is_same_name name e.0)) cache all

  -- with a further name
  pub learn-names : (cache : Cache) (name : Name) (node : ℕ) → CacheNamesNodes cache → IsNode script node
      → CacheNamesNodes (learn cache name node)
  learn-names cache name node all own =
      all-taken (λ e. IsNode script e.1) max_cached ((name, node) ∷ forget cache name)
      (own, forget-names cache name all)

  -- the owner that it names
  pub owner-is-node : (cache : Cache) (name : Name) → CacheNamesNodes cache → LeadsToNode script (owner_in cache name)
  owner-is-node [] name all = tt
  owner-is-node (e ∷ cache) name all = by (is_same_name name e.0) all.0 (owner-is-node cache name all.1)
    where
      by : (b : Bool) → IsNode script e.1 → LeadsToNode script (owner_in cache name)
          → LeadsToNode script (cond b (Some e.1) (owner_in cache name))
      by true first rest = first
      by false first rest = rest

  look-by-names : (cache : Cache) (name : Name) (o : Option ℕ) → CacheNamesNodes cache → LeadsToNode script o
      → CacheNamesNodes (look_by cache name o)
  look-by-names cache name None all own = all
  look-by-names cache name (Some node) all own = (own, forget-names cache name all)

  -- and after a look
  pub look-names : (cache : Cache) (name : Name) → CacheNamesNodes cache → CacheNamesNodes (look cache name)
  look-names cache name all = look-by-names cache name (owner_in cache name) all (owner-is-node cache name all)

  -- ---- the directory

  abbrev IsFine : Option Place → Type 0
  IsFine o = PlaceNamesNodes script o

  -- the directory with another place of a name
  pub place-put : (d : Directory) (name : Name) (place : Place) → NamesNodes script d → IsFine (Some place)
      → NamesNodes script (with_place d name place)
  place-put d name place k own =
      record {
        places = λ other. elim (name-cases other name) [
          | inl same ↦
              subst (λ m. IsFine (get_named (put_named d.places name place) m)) (sym same)
              (subst IsFine (sym (get-put-same-name d.places name place)) own)
          | inr apart ↦ subst IsFine (sym (get-put-other-name d.places name place other apart)) (k.places other)
        ];
        ranges = k.ranges;
      }

  -- a name is at a node
  pub arrive-names : (d : Directory) (name : Name) (node : ℕ) → NamesNodes script d → IsNode script node
      → NamesNodes script (arrive d name node)
  arrive-names d name node k own = place-put d name (At node) k own

  -- a new name is placed
  pub place-name-names : (d : Directory) (name : Name) (node : ℕ) → NamesNodes script d → IsNode script node
      → NamesNodes script (place_name d name node)
  place-name-names d name node k own =
      by_test (λ x. NamesNodes script x) (is_known d name) d (with_place d name (At node)) (λ _. k)
      (λ _. place-put d name (At node) k own)

  -- a name is asked back
  pub recall-names : (d : Directory) (name : Name) (to : Option ℕ) → NamesNodes script d → LeadsToNode script to
      → NamesNodes script (recall d name to)
  recall-names d name to k own = place-put d name (Coming to []) k (own, tt)

  hold-at-names : (d : Directory) (name : Name) (item : Held) (o : Option Place) → NamesNodes script d → IsFine o
      → ItemIsOfNode script item → NamesNodes script (hold_at d name item o)
  hold-at-names d name item None k was own = k
  hold-at-names d name item (Some (At node)) k was own = k
  hold-at-names d name item (Some (Coming to items)) k was own =
      place-put d name (Coming to (items ++ item ∷ [])) k
      (was.0, all-both (ItemIsOfNode script) items (item ∷ []) was.1 (own, tt))

  -- an item is held for a name
  pub hold-names : (d : Directory) (name : Name) (item : Held) → NamesNodes script d → ItemIsOfNode script item
      → NamesNodes script (hold d name item)
  hold-names d name item k own = hold-at-names d name item (place_of d name) k (k.places name) own

  -- a range is given to a node
  pub range-names : (d : Directory) (kind : Kind) (node : ℕ) → NamesNodes script d → IsNode script node
      → NamesNodes script (with_range d kind node)
  range-names d kinds.Proc node k own =
      record { places = k.places; ranges = λ other. ranges-of other }
    where
      ranges-of : (other : Kind)
          → AllByRecursion (IsNode script) (for_kind (with_range d kinds.Proc node).ranges other)
      ranges-of kinds.Proc =
          all-both (IsNode script) (for_kind d.ranges kinds.Proc) (node ∷ []) (k.ranges kinds.Proc) (own, tt)
      ranges-of kinds.Msg = k.ranges kinds.Msg
      ranges-of kinds.Sem = k.ranges kinds.Sem
  range-names d kinds.Msg node k own =
      record { places = k.places; ranges = λ other. ranges-of other }
    where
      ranges-of : (other : Kind)
          → AllByRecursion (IsNode script) (for_kind (with_range d kinds.Msg node).ranges other)
      ranges-of kinds.Proc = k.ranges kinds.Proc
      ranges-of kinds.Msg =
          all-both (IsNode script) (for_kind d.ranges kinds.Msg) (node ∷ []) (k.ranges kinds.Msg) (own, tt)
      ranges-of kinds.Sem = k.ranges kinds.Sem
  range-names d kinds.Sem node k own =
      record { places = k.places; ranges = λ other. ranges-of other }
    where
      ranges-of : (other : Kind)
          → AllByRecursion (IsNode script) (for_kind (with_range d kinds.Sem node).ranges other)
      ranges-of kinds.Proc = k.ranges kinds.Proc
      ranges-of kinds.Msg = k.ranges kinds.Msg
      ranges-of kinds.Sem =
          all-both (IsNode script) (for_kind d.ranges kinds.Sem) (node ∷ []) (k.ranges kinds.Sem) (own, tt)

  -- ---- a node leaves

  get-mapped : (node : ℕ) (m : Numbered Place) (n : ℕ)
      → get (places_without node m) n ≡ option_map (place_without node) (get m n)
  get-mapped node [] n = refl
  get-mapped node (e ∷ m) n =
      elim (cases_eq n e.0) [
        | inl same ↦
            get-first (e.0, place_without node e.1) (places_without node m) n same
            ∙ sym (ap (option_map (place_without node)) (get-first e m n same))
        | inr other ↦
            get-later (e.0, place_without node e.1) (places_without node m) n other
            ∙ get-mapped node m n
            ∙ sym (ap (option_map (place_without node)) (get-later e m n other))
      ]

  without-names : (node : ℕ) (o : Option Place) → IsFine o → IsFine (option_map (place_without node) o)
  without-names node None own = tt
  without-names node (Some (At owner)) own =
      by_test (λ (p : Place). IsFine (Some p)) (nat_eq owner node) (Coming None []) (At owner) (λ _. (tt, tt))
      (λ _. own)
  without-names node (Some (Coming to items)) own = own

  -- what was at a node that leaves is on its way
  pub leaving-names : (d : Directory) (node : ℕ) → NamesNodes script d → NamesNodes script (with_leaving d node)
  leaving-names d node k = record { places = places-of; ranges = k.ranges }
    where
      places-of : (name : Name) → IsFine (place_of (with_leaving d node) name)
      places-of (Proc n) =
          subst IsFine (sym (get-mapped node d.places.processes n)) (without-names node _ (k.places (Proc n)))
      places-of (Msg n) =
          subst IsFine (sym (get-mapped node d.places.queues n)) (without-names node _ (k.places (Msg n)))
      places-of (Sem n) =
          subst IsFine (sym (get-mapped node d.places.sets n)) (without-names node _ (k.places (Sem n)))

  -- a node has left
  pub left-names : (d : Directory) (node : ℕ) → NamesNodes script d → NamesNodes script (with_left d node)
  left-names d node k = record { places = k.places; ranges = k.ranges }

  -- ---- what the directory says

  items-named : (o : Option Place) → IsFine o → ItemsAreOfNodes script (items_of o)
  items-named None own = tt
  items-named (Some (At node)) own = tt
  items-named (Some (Coming to items)) own = own.1

  -- what is held for a name is of nodes
  pub held-are-of-nodes : (d : Directory) (name : Name) → NamesNodes script d → ItemsAreOfNodes script (held_for d name)
  held-are-of-nodes d name k = items-named (place_of d name) (k.places name)

  bound-named : (o : Option Place) → IsFine o → LeadsToNode script (destination_of o)
  bound-named None own = tt
  bound-named (Some (At node)) own = tt
  bound-named (Some (Coming to items)) own = own.0

  -- a name is bound for a node
  pub bound-is-node : (d : Directory) (name : Name) → NamesNodes script d → LeadsToNode script (bound_for d name)
  bound-is-node d name k = bound-named (place_of d name) (k.places name)

  -- a call goes to a node, or nowhere
  abbrev pub RouteNamesNode : Route → Type 0
  RouteNamesNode (routes.At node) = IsNode script node
  RouteNamesNode routes.Coming = Unit {0}
  RouteNamesNode (routes.Range node) = IsNode script node
  RouteNamesNode routes.Nobody = Unit {0}

  in-ranges : (ranges : List ℕ) (i : ℕ) (o : Option ℕ) → AllByRecursion (IsNode script) ranges → slice_get ranges i ≡ o
      → LeadsToNode script o
  in-ranges ranges i None all is = tt
  in-ranges ranges i (Some node) all is = all-at (IsNode script) ranges i node all is

  maker-named : (ranges : List ℕ) (number : ℕ) → AllByRecursion (IsNode script) ranges
      → LeadsToNode script (maker_in ranges number)
  maker-named ranges number all =
      by_test (LeadsToNode script) (nat_eq number 0) None (slice_get ranges ((number - 1) / range_size)) (λ _. tt)
      (λ _. in-ranges ranges ((number - 1) / range_size) (slice_get ranges ((number - 1) / range_size)) all refl)

  maker-is-node : (d : Directory) (name : Name) → NamesNodes script d → LeadsToNode script (maker d name)
  maker-is-node d name k =
      maker-named (for_kind d.ranges (kind_of name)) (number_of name) (k.ranges (kind_of name))

  route-by-names : (o : Option Place) (who_stays : Bool) (made_by : Option ℕ) → IsFine o → LeadsToNode script made_by
      → RouteNamesNode (route_by o who_stays made_by)
  route-by-names (Some (At node)) who_stays made_by own made = own
  route-by-names (Some (Coming to items)) who_stays made_by own made = tt
  route-by-names None who_stays None own made = tt
  route-by-names None who_stays (Some node) own made =
      by_test RouteNamesNode (who_stays && not (nat_eq node 1)) (routes.Range node) routes.Nobody (λ _. made) (λ _. tt)

  -- Where a call goes is a node.
  pub route-is-node : (d : Directory) (name : Name) → NamesNodes script d → RouteNamesNode (route d name)
  route-is-node d name k =
      route-by-names (place_of d name) (maker_stays d (maker d name)) (maker d name) (k.places name)
      (maker-is-node d name k)
