-- The leader's directory when a node leaves: the node's process and its parent are known from then on, and all that was
-- at the node is on its way.
use Rattle.std.proofs.Common.{◌≡◌, ◌≢◌, ◌≤◌, ℕ, Bool, true, false, not, if◌then◌else◌, List, [], ◌∷◌, nat_eq, Option, Some, None, is_none, is_some, option_map, refl, ap, sym, subst, ◌∙◌, inl, inr}
use Rattle.std.specs.List.Sorted.{IsStrictlySortedBy}
use Rattle.std.specs.Ordering.{nat_cmp}
use Rattle.std.proofs.lemmas.Bool.{cases_eq, eq-eqb, ne_eqb}
use Rattle.std.proofs.lemmas.Map.Made.{keys_of-map_values}
use Rattle.pico_base.specs.declared.numbers.Name.{Name}
use Rattle.pico_base.specs.declared.numbers.Name.TheVariants.{Proc, Msg, Sem}
use Rattle.number_maps.specs.Maps.{Numbered, get}
use Rattle.number_maps.specs.Rising.{IsRising}
use Rattle.number_maps.proofs.LookUps.{get-first, get-later, get-put-same, get-put-other}
use Rattle.node_model.specs.Directory.{Directory, Place, At, Coming, IsLeaving, place_of, place_name, with_place, with_leaving, place_without, places_without, items_of, destination_of, stays, is_known}
use Rattle.world_laws.specs.Plays.{Belief, believed, is_there, told}
use Rattle.world_laws.specs.Names.{is_nowhere}
use Rattle.world_laws.specs.Invariant.{IsLeading}
use Rattle.rule_laws.proofs.Quiet.{SameButPlaces}
use Rattle.rule_laws.proofs.Places.{place-with-same, place-with-other, with-place-keeps, itself-keeps}

-- ---- a name is known from now on

-- at this node, where it wasn't known
abbrev pub known_as : Option Place → ℕ → Option Place
known_as None node = Some (At node)
known_as (Some place) node = Some place

name-placed-by : (d : Directory) (name : Name) (node : ℕ) (o : Option Place) → place_of d name ≡ o
    → place_of (place_name d name node) name ≡ known_as o node
name-placed-by d name node None e =
    ap (λ v. place_of (if not (is_none v) then d else with_place d name (At node)) name) e
    ∙ place-with-same d name (At node)
name-placed-by d name node (Some place) e =
    ap (λ v. place_of (if not (is_none v) then d else with_place d name (At node)) name) e ∙ e

-- the place of a name that is placed
pub place-of-placed : (d : Directory) (name : Name) (node : ℕ)
    → place_of (place_name d name node) name ≡ known_as (place_of d name) node
place-of-placed d name node = name-placed-by d name node (place_of d name) refl

-- of another name it is as it was
pub place-of-other : (d : Directory) (name : Name) (node : ℕ) (m : Name) → m ≢ name
    → place_of (place_name d name node) m ≡ place_of d m
place-of-other d name node m e = by-test (is_known d name)
  where
    by-test : (t : Bool) → place_of (if t then d else with_place d name (At node)) m ≡ place_of d m
    by-test true = refl
    by-test false = place-with-other d name (At node) m e

keeps-by : (d : Directory) (name : Name) (node : ℕ) → IsLeading d → (o : Option Place) → place_of d name ≡ o
    → SameButPlaces d (if not (is_none o) then d else with_place d name (At node))
keeps-by d name node l None e = with-place-keeps d name (At node) l (sym (ap items_of e))
keeps-by d name node l (Some place) e = itself-keeps d l

-- all else is as it was
pub place-name-keeps : (d : Directory) (name : Name) (node : ℕ) → IsLeading d → SameButPlaces d (place_name d name node)
place-name-keeps d name node l = keeps-by d name node l (place_of d name) refl

-- so it is after two of them
pub keeps-both : (a b c : Directory) → SameButPlaces a b → SameButPlaces b c → SameButPlaces a c
keeps-both a b c s t =
    record {
      partings_are = λ x. t.partings_are x ∙ s.partings_are x;
      ranges_are = λ kind. t.ranges_are kind ∙ s.ranges_are kind;
      known_still = λ name h. t.known_still name (s.known_still name h);
      held_is = λ name. t.held_is name ∙ s.held_is name;
      leads = t.leads;
    }

-- ---- what was at a node is on its way

without-get : (node : ℕ) (m : Numbered Place) (k : ℕ)
    → get (places_without node m) k ≡ option_map (place_without node) (get m k)
without-get node [] k = refl
without-get node (e ∷ m) k =
    elim (cases_eq k e.0) [
      | inl g ↦
          get-first (e.0, place_without node e.1) (places_without node m) k g
          ∙ ap (option_map (place_without node)) (sym (get-first e m k g))
      | inr d ↦
          get-later (e.0, place_without node e.1) (places_without node m) k d
          ∙ without-get node m k ∙ ap (option_map (place_without node)) (sym (get-later e m k d))
    ]

-- each name's place afterwards
pub place-of-leaving : (d : Directory) (node : ℕ) (name : Name)
    → place_of (with_leaving d node) name ≡ option_map (place_without node) (place_of d name)
place-of-leaving d node (Proc k) = without-get node d.places.processes k
place-of-leaving d node (Msg k) = without-get node d.places.queues k
place-of-leaving d node (Sem k) = without-get node d.places.sets k

rising-without : (node : ℕ) (m : Numbered Place) → IsRising m → IsRising (places_without node m)
rising-without node m r =
    subst (λ ks. IsStrictlySortedBy nat_cmp ks) (sym (keys_of-map_values (place_without node) m)) r

-- the leader stays, and knows each name once
pub leading-leaving : (d : Directory) (node : ℕ) → IsLeading d → node ≢ 1 → IsLeading (with_leaving d node)
leading-leaving d node l other =
    record {
      stays = ap is_none (get-put-other d.partings node IsLeaving 1 (λ e. other (sym e))) ∙ l.stays;
      processes = rising-without node d.places.processes l.processes;
      queues = rising-without node d.places.queues l.queues;
      sets = rising-without node d.places.sets l.sets;
    }

-- all stay that stayed, but for the node
pub stays-leaving : (d : Directory) (node x : ℕ)
    → stays (with_leaving d node) x ≡ (if nat_eq x node then false else stays d x)
stays-leaving d node x =
    elim (cases_eq x node) [
      | inl e ↦
          ap is_none (ap (get _) e ∙ get-put-same d.partings node IsLeaving)
          ∙ ap (λ t. if t then false else stays d x) (sym (eq-eqb x node e))
      | inr e ↦
          ap is_none (get-put-other d.partings node IsLeaving x e)
          ∙ ap (λ t. if t then false else stays d x) (sym (ne_eqb x node e))
    ]

-- a name is known as it was
pub known-without : (node : ℕ) (o : Option Place) → is_some (option_map (place_without node) o) ≡ is_some o
known-without node None = refl
known-without node (Some place) = refl

-- nothing more is held for it
pub items-without : (node : ℕ) (o : Option Place) → items_of (option_map (place_without node) o) ≡ items_of o
items-without node None = refl
items-without node (Some (Coming to items)) = refl
items-without node (Some (At owner)) = by-test (nat_eq owner node)
  where
    by-test : (t : Bool) → items_of (Some (if t then Coming None [] else At owner)) ≡ []
    by-test true = refl
    by-test false = refl

-- and it is bound for where it was
pub bound-without : (node : ℕ) (o : Option Place)
    → destination_of (option_map (place_without node) o) ≡ destination_of o
bound-without node None = refl
bound-without node (Some (Coming to items)) = refl
bound-without node (Some (At owner)) = by-test (nat_eq owner node)
  where
    by-test : (t : Bool) → destination_of (Some (if t then Coming None [] else At owner)) ≡ None
    by-test true = refl
    by-test false = refl

-- ---- what the leader believes

-- something, where it believed something
pub nowhere-without : (node : ℕ) (o : Option Place) (tells : List ℕ)
    → is_nowhere (believed (option_map (place_without node) o) tells) ≡ is_nowhere (believed o tells)
nowhere-without node None tells = refl
nowhere-without node (Some (Coming to items)) tells = refl
nowhere-without node (Some (At owner)) tells = by-test (nat_eq owner node)
  where
    by-test : (t : Bool) → is_nowhere (believed (Some (if t then Coming None [] else At owner)) tells) ≡ false
    by-test true = refl
    by-test false = refl

if-false : (t : Bool) → false ≡ (if t then false else false)
if-false true = refl
if-false false = refl

if-there : (h node : ℕ) (b : Belief) → is_there node b ≡ false
    → is_there h b ≡ (if nat_eq h node then false else is_there h b)
if-there h node b none =
    elim (cases_eq h node) [
      | inl e ↦
          ap (λ y. is_there y b) e ∙ none ∙ ap (λ t. if t then false else is_there h b) (sym (eq-eqb h node e))
      | inr d ↦ ap (λ t. if t then false else is_there h b) (sym (ne_eqb h node d))
    ]

was-at : (h node owner : ℕ) (tells : List ℕ)
    → is_there h (believed (Some (if nat_eq owner node then Coming None [] else At owner)) tells)
    ≡ (if nat_eq h node then false else nat_eq owner h)
was-at h node owner tells =
    elim (cases_eq owner node) [
      | inl e ↦
          ap (λ t. is_there h (believed (Some (if t then Coming None [] else At owner)) tells)) (eq-eqb owner node e)
          ∙ elim (cases_eq h node) [
            | inl g ↦ ap (λ t. if t then false else nat_eq owner h) (sym (eq-eqb h node g))
            | inr d ↦
                sym (ne_eqb owner h (λ g. d (sym g ∙ e)))
                ∙ ap (λ t. if t then false else nat_eq owner h) (sym (ne_eqb h node d))
          ]
      | inr d ↦
          ap (λ t. is_there h (believed (Some (if t then Coming None [] else At owner)) tells)) (ne_eqb owner node d)
          ∙ elim (cases_eq h node) [
            | inl g ↦
                ne_eqb owner h (λ e. d (e ∙ g))
                ∙ ap (λ t. if t then false else nat_eq owner h) (sym (eq-eqb h node g))
            | inr e ↦ ap (λ t. if t then false else nat_eq owner h) (sym (ne_eqb h node e))
          ]
    ]

-- nothing is at the node any more, and all else is where it was
pub there-without : (h node : ℕ) (o : Option Place) (tells : List ℕ)
    → (o ≡ None → is_there node (believed o tells) ≡ false)
    → is_there h (believed (option_map (place_without node) o) tells)
    ≡ (if nat_eq h node then false else is_there h (believed o tells))
there-without h node None tells none = if-there h node (told tells) (none refl)
there-without h node (Some (Coming to items)) tells none = if-false (nat_eq h node)
there-without h node (Some (At owner)) tells none = was-at h node owner tells

-- ---- nodes

-- where the leader knows a name at a node, that is one
abbrev pub KnowsNodes : Directory → Type 0
KnowsNodes d = (name : Name) (node : ℕ) → place_of d name ≡ Some (At node) → 1 ≤ node
