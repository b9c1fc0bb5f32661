-- The leader takes a number of its lease for something new. Where the lease is used up it gives itself the next range
-- first.
use Rattle.std.proofs.Common.{◌≡◌, ◌≢◌, ◌⊎◌, ℕ, ◌+◌, ◌≤◌, ◌<◌, Bool, true, false, ◌&&◌, ◌||◌, not, if◌then◌else◌, List, [], ◌∷◌, ◌++◌, length, flat_map, nat_eq, Option, Some, None, is_none, is_some, refl, ap, sym, ◌∙◌, inl, inr, arith, length-append}
use Rattle.std.specs.List.{list_any, range_with_len}
use Rattle.std.proofs.lemmas.Bool.{cases_eq, eq-eqb, ltb-true, ne_eqb, false≢true}
use Rattle.pico_base.specs.declared.numbers.Kind.{Kind}
use Rattle.pico_base.specs.declared.numbers.Kind.TheVariants as kinds
use Rattle.pico_base.specs.declared.numbers.Name.{Name}
use Rattle.pico_base.specs.declared.script.Script.{Script}
use Rattle.number_maps.specs.Maps.{is_used}
use Rattle.kernel_model.specs.Footprint.{used_of}
use Rattle.kernel_model.specs.Kernel.{Kernel}
use Rattle.kernel_model.specs.Numbers.{is_positive_u32}
use Rattle.entry_laws.specs.Entering.{is_used_name}
use Rattle.node_model.specs.declared.held.Held.{Held}
use Rattle.node_model.specs.Kinds.{for_kind, is_same_kind, kind_of, name_of, number_of, with_kind}
use Rattle.node_model.specs.Directory.{Directory, Place, has_more, is_known, maker, maker_in, max_ranges, place_of, upcoming, with_range}
use Rattle.node_model.specs.Leases.{Leases, lease_of}
use Rattle.world_model.specs.Node.{Node}
use Rattle.world_model.specs.Numbers.{Taken, knows_any, take_first, take_from, take_from_next, take_number, with_next_range}
use Rattle.world_model.specs.World.{World, node_count}
use Rattle.world_laws.specs.Places.{Beside}
use Rattle.world_laws.specs.Sights.{directory_of, is_born_in, node_of}
use Rattle.world_laws.specs.Names.{NameHolds, leases_name, name_sight}
use Rattle.world_laws.specs.Ranges.{KindHolds, KindSight, is_given, kind_sight, lease_at, lease_in}
use Rattle.world_laws.specs.Families.{NodeHolds}
use Rattle.world_laws.specs.Cancels.{Owing}
use Rattle.world_laws.specs.Invariant.{HoldsOwing}
use Rattle.world_laws.proofs.Stays.{SameKind, kind-stays}
use Rattle.world_laws.proofs.NewRanges.{maker-elsewhere, range-of-next, unmade-next}
use Rattle.world_laws.proofs.Numbers.{maker-in-range}
use Rattle.rule_laws.proofs.Nodes.{leader-stage}
use Rattle.rule_laws.proofs.own.Made.{number-is-low}
use Rattle.rule_laws.proofs.own.NewNumbers.{kind-taken, taken-at, taken-maker, taken-unused}
use Rattle.rule_laws.proofs.own.Objects.{kind-is}
use Rattle.route_laws.proofs.keys.NumberKinds.{leased-twice, range-now, range-still, same-kind-turned}
use Rattle.route_laws.proofs.keys.Refills.{kind-refilled, refilled}

-- ---- what it comes to

-- the node, with the rest of the lease, and with this directory
abbrev pub without_number : Node → Kind → List ℕ → Directory → Node
without_number n kind numbers d =
    record n { leases = with_kind n.leases kind numbers; leader = record n.leader { directory = d } }

-- the number's range is the leader's from now on, and nothing has had the name
pub record IsGivenOut (k : Kernel) (d d' : Directory) (name : Name) : Type 0 where
  pub was : maker d name ≡ None
  pub now : maker d' name ≡ Some 1
  pub unused : is_used_name k name ≡ false

-- the kind's numbers, as the leader has just these, and no other has been taken
abbrev pub to_be_taken : World → Kernel → Kind → List ℕ → Directory → KindSight
to_be_taken w k kind numbers d =
    record (kind_sight w k kind) {
      leases = λ h. if nat_eq h 1 then numbers else lease_at w kind h;
      ranges = for_kind d.ranges kind;
    }

-- a number of the leader, which it takes; and what its directory is then
pub record TakesNumber (w : World) (k : Kernel) (kind : Kind) : Type 0 where
  pub number : ℕ
  pub numbers : List ℕ
  pub directory : Directory
  pub is : take_number (node_of w 1) kind
      ≡ Some (record { number = number; node = without_number (node_of w 1) kind numbers directory })
  -- the number
  pub unused : is_used (used_of k kind) number ≡ false
  pub positive : is_positive_u32 number ≡ true
  pub made_here : maker_in (for_kind directory.ranges kind) number ≡ Some 1
  -- the directory says the same but for who has the kind's last range
  pub places_are : let d : Directory = directory_of w in directory.places ≡ d.places
  pub partings_are : let d : Directory = directory_of w in directory.partings ≡ d.partings
  pub other_ranges : (y : Kind) → is_same_kind kind y ≡ false
      → let d : Directory = directory_of w in for_kind directory.ranges y ≡ for_kind d.ranges y
  pub one_more : let d : Directory = directory_of w
      in length (for_kind directory.ranges kind) ≤ length (for_kind d.ranges kind) + 1
  pub makers : (name : Name)
      → (maker directory name ≡ maker (directory_of w) name) ⊎ IsGivenOut k (directory_of w) directory name
  -- the kind, once the number is taken
  pub taken : KindHolds (is_born_in w)
      (taken-at (to_be_taken w k kind (number ∷ numbers) directory) 1 number numbers)

-- ---- numbers of a range

-- a number of the range makes a name of the range
name-leased : (kind : Kind) (number first : ℕ) → list_any (nat_eq number) (lease_of first) ≡ true
    → leases_name (name_of kind number) kind first ≡ true
name-leased kinds.Proc number first h = h
name-leased kinds.Msg number first h = h
name-leased kinds.Sem number first h = h

both-true : (a c : Bool) → (a && c) ≡ true → (a ≡ true) × (c ≡ true)
both-true true c e = (refl, e)
both-true false c e = absurd (false≢true e)

or-true : (a c : Bool) → c ≡ true → (a || c) ≡ true
or-true true c e = refl
or-true false c e = e

-- what passes for none of the numbers passes for no number
none-passes : (test : ℕ → Bool) (xs : List ℕ) → ((x : ℕ) → list_any (nat_eq x) xs ≡ true → test x ≡ false)
    → list_any test xs ≡ false
none-passes test [] h = refl
none-passes test (x ∷ xs) h =
    ap (λ t. t || list_any test xs) (h x (ap (λ t. t || list_any (nat_eq x) xs) (eq-eqb x x refl)))
    ∙ none-passes test xs (λ y there. h y (or-true (nat_eq y x) (list_any (nat_eq y) xs) there))

-- ---- the leader's numbers

module _ (script : Script) (w : World) (hand : List Held) {owes : Owing} (b : Beside)
    (holds : HoldsOwing script w hand owes b)
    (some_node : 1 ≤ node_count script) (kind : Kind) (enough : has_more (directory_of w) kind ≡ true) where
  abbrev n : Node
  n = node_of w 1

  abbrev d : Directory
  d = directory_of w

  abbrev k : Kernel
  k = b.kernel

  abbrev x : KindSight
  x = kind_sight w k kind

  abbrev ranges-were : List ℕ
  ranges-were = for_kind d.ranges kind

  abbrev up : ℕ
  up = upcoming d kind

  node-holds : NodeHolds script b.pids (is_born_in w) 1 n
  node-holds = holds.nodes 1 (omega arith) some_node

  few : length ranges-were < max_ranges
  few = ltb-true (length ranges-were) max_ranges enough

  none-to-itself : x.coming 1 ≡ []
  none-to-itself =
      let fit = holds.frames_fit in ap (λ fs. flat_map (lease_in kind) fs) (fit.none_to_itself 1)

  -- ---- of its lease

  module _ (number : ℕ) (numbers : List ℕ) (lease : for_kind n.leases kind ≡ number ∷ numbers) where
    abbrev own : KindSight
    own = to_be_taken w k kind (number ∷ numbers) d

    own-same : SameKind x own
    own-same =
        record {
          used = λ m. refl;
          leases = λ h. lease-same h (cases_eq h 1);
          coming = λ h. refl;
          ranges = refl;
        }
      where
        lease-same : (h : ℕ) → (h ≡ 1) ⊎ (h ≢ 1) → lease_at w kind h ≡ own.leases h
        lease-same h (inl e) =
            ap (lease_at w kind) e ∙ lease
            ∙ sym (ap (λ t. if t then number ∷ numbers else lease_at w kind h) (eq-eqb h 1 e))
        lease-same h (inr e) = sym (ap (λ t. if t then number ∷ numbers else lease_at w kind h) (ne_eqb h 1 e))

    own-holds : KindHolds (is_born_in w) own
    own-holds = kind-stays (is_born_in w) (is_born_in w) x own (λ h e. e) own-same (holds.kinds kind)

    made : maker_in ranges-were number ≡ Some 1
    made = taken-maker (is_born_in w) own own-holds 1 (omega arith) number numbers refl none-to-itself

    takes-own : TakesNumber w k kind
    takes-own =
        record {
          number = number;
          numbers = numbers;
          directory = d;
          is = ap (take_from n kind) lease;
          unused = taken-unused (is_born_in w) own own-holds 1 (omega arith) number numbers refl none-to-itself;
          positive = number-is-low ranges-were number 1 (omega (arith, few)) made;
          made_here = made;
          places_are = refl;
          partings_are = refl;
          other_ranges = λ y e. refl;
          one_more = omega arith;
          makers = λ name. inl refl;
          taken = kind-taken (is_born_in w) own own-holds 1 (omega arith) number numbers refl none-to-itself;
        }

  -- ---- of the next range

  -- the numbers of the next range have had no maker
  unmade : (m : Name) → leases_name m kind up ≡ true → maker d m ≡ None
  unmade m inside =
      let both = both-true (is_same_kind (kind_of m) kind) _ inside
      in ap (λ y. maker_in (for_kind d.ranges y) (number_of m)) (kind-is (kind_of m) kind both.0)
      ∙ unmade-next ranges-were (number_of m) both.1

  unused-there : (m : Name) → leases_name m kind up ≡ true → is_used_name k m ≡ false
  unused-there m inside =
      let numbers_hold : KindHolds (is_born_in w) (kind_sight w k (kind_of m)) = holds.kinds (kind_of m)
      in numbers_hold.used (number_of m)
      ∙ ap (is_given (kind_sight w k (kind_of m)) (number_of m)) (unmade m inside)

  not-known : (m : Name) → is_used_name k m ≡ false → is_known d m ≡ false
  not-known m unused = by-place (place_of d m) refl
    where
      by-place : (o : Option Place) → place_of d m ≡ o → is_known d m ≡ false
      by-place None e = ap (λ o. not (is_none o)) e
      by-place (Some place) e =
          let name_holds : NameHolds script b.pids (is_born_in w) m (name_sight script w hand b m) = holds.names m
          in absurd (false≢true (sym unused ∙ name_holds.known (ap is_some e)))

  knows-none : knows_any d kind (lease_of up) ≡ false
  knows-none =
      none-passes (λ number. is_known d (name_of kind number)) (lease_of up)
      (λ number there. not-known (name_of kind number)
      (unused-there (name_of kind number) (name-leased kind number up there)))

  maker-other : (m : Name) → leases_name m kind up ≡ false → (t : Bool) → is_same_kind (kind_of m) kind ≡ t
      → maker (with_range d kind 1) m ≡ maker d m
  maker-other m away true e =
      let same : kind_of m ≡ kind = kind-is (kind_of m) kind e
      in ap (λ y. maker_in (for_kind (with_range d kind 1).ranges y) (number_of m)) same
      ∙ ap (λ rs. maker_in rs (number_of m)) (range-now d kind 1)
      ∙ maker-elsewhere ranges-were 1 (number_of m)
      (sym (ap (λ u. u && list_any (nat_eq (number_of m)) (lease_of up)) e) ∙ away)
      ∙ ap (λ y. maker_in (for_kind d.ranges y) (number_of m)) (sym same)
  maker-other m away false e =
      ap (λ rs. maker_in rs (number_of m))
      (range-still d kind (kind_of m) 1 (same-kind-turned kind (kind_of m) ∙ e))

  made-now : (m : Name) → leases_name m kind up ≡ true → maker (with_range d kind 1) m ≡ Some 1
  made-now m inside =
      let both = both-true (is_same_kind (kind_of m) kind) _ inside
      in ap (λ y. maker_in (for_kind (with_range d kind 1).ranges y) (number_of m))
      (kind-is (kind_of m) kind both.0)
      ∙ ap (λ rs. maker_in rs (number_of m)) (range-now d kind 1)
      ∙ maker-in-range (ranges-were ++ 1 ∷ []) up 1 (number_of m) (range-of-next ranges-were 1) both.1

  makers-now : (m : Name) (t : Bool) → leases_name m kind up ≡ t
      → (maker (with_range d kind 1) m ≡ maker d m) ⊎ IsGivenOut k d (with_range d kind 1) m
  makers-now m true inside =
      inr (record { was = unmade m inside; now = made-now m inside; unused = unused-there m inside })
  makers-now m false away = inl (maker-other m away (is_same_kind (kind_of m) kind) refl)

  module _ (used_up : for_kind n.leases kind ≡ []) where
    abbrev numbers : List ℕ
    numbers = range_with_len (up + 1) 7

    abbrev d' : Directory
    d' = with_range d kind 1

    abbrev fresh : KindSight
    fresh = to_be_taken w k kind (up ∷ numbers) d'

    born : is_born_in w 1 ≡ true
    born = (leader-stage script b.pids (is_born_in w) 1 n refl node-holds).0

    fresh-holds : KindHolds (is_born_in w) fresh
    fresh-holds =
        kind-stays (is_born_in w) (is_born_in w) (refilled x 1) fresh (λ h e. e)
        (record { used = λ m. refl; leases = λ h. refl; coming = λ h. refl; ranges = sym (range-now d kind 1) })
        (kind-refilled (is_born_in w) x 1 (holds.kinds kind) born used_up)

    made-next : maker_in (for_kind d'.ranges kind) up ≡ Some 1
    made-next = taken-maker (is_born_in w) fresh fresh-holds 1 (omega arith) up numbers refl none-to-itself

    longer : length (for_kind d'.ranges kind) ≡ length ranges-were + 1
    longer = ap length (range-now d kind 1) ∙ length-append ranges-were (1 ∷ [])

    next-is : take_number n kind ≡ Some (record { number = up; node = without_number n kind numbers d' })
    next-is =
        ap (take_from n kind) used_up
        ∙ ap (λ t. if t then take_from_next n kind else None) (eq-eqb n.number 1 node-holds.number)
        ∙ ap (λ t. if t && not (knows_any d kind (lease_of up))
        then take_first (with_next_range n kind) kind (lease_of up) else None) enough
        ∙ ap (λ t. if not t then take_first (with_next_range n kind) kind (lease_of up) else None) knows-none
        ∙ ap (λ (l : Leases). Some (taken_with (record n { leases = l; leader = record n.leader { directory = d' } })))
        (leased-twice n.leases kind numbers (lease_of up))
      where
        taken_with : Node → Taken
        taken_with m = record { number = up; node = m }

    takes-next : TakesNumber w k kind
    takes-next =
        record {
          number = up;
          numbers = numbers;
          directory = d';
          is = next-is;
          unused = taken-unused (is_born_in w) fresh fresh-holds 1 (omega arith) up numbers refl none-to-itself;
          positive = number-is-low (for_kind d'.ranges kind) up 1 (let l = longer in let f = few in omega (arith, l, f))
              made-next;
          made_here = made-next;
          places_are = refl;
          partings_are = refl;
          other_ranges = λ y e. range-still d kind y 1 e;
          one_more = let l = longer in omega (arith, l);
          makers = λ m. makers-now m (leases_name m kind up) refl;
          taken = kind-taken (is_born_in w) fresh fresh-holds 1 (omega arith) up numbers refl none-to-itself;
        }

  -- The leader takes a number, where the kind has numbers left.
  pub takes-number : TakesNumber w k kind
  takes-number = by-lease (for_kind n.leases kind) refl
    where
      by-lease : (lease : List ℕ) → for_kind n.leases kind ≡ lease → TakesNumber w k kind
      by-lease [] e = takes-next e
      by-lease (number ∷ numbers) e = takes-own number numbers e
