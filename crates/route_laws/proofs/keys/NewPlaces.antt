-- The leader's directory once it knows a new name, which is at the leader itself.
use Rattle.std.proofs.Common.{◌≡◌, ◌≢◌, ℕ, true, not, if◌then◌else◌, is_none, List, filter, Contains, Option, Some, None, ap, sym, subst, ◌∙◌}
use Rattle.pico_base.specs.declared.numbers.Kind.{Kind}
use Rattle.pico_base.specs.declared.numbers.Name.{Name}
use Rattle.pico_base.specs.declared.numbers.Name.TheVariants.{Proc}
use Rattle.number_maps.specs.Maps.{get}
use Rattle.number_maps.specs.Rising.{IsRising}
use Rattle.node_model.specs.declared.held.Held.{Held}
use Rattle.node_model.specs.declared.held.Held.TheVariants.{Ending}
use Rattle.node_model.specs.Kinds.{Named, for_kind, get_named}
use Rattle.node_model.specs.Directory.{Directory, Place, At, held_for, is_known, items_of, place_name, place_of, with_place}
use Rattle.world_laws.proofs.Cancels.{is_item_of}
use Rattle.world_laws.specs.Invariant.{IsLeading}
use Rattle.rule_laws.proofs.CallMoves.{SameButCall}
use Rattle.rule_laws.proofs.Places.{place-with-other, place-with-same, with-place-keeps}
use Rattle.rule_laws.proofs.Quiet.{SameButPlaces}

-- The name is at the leader. All else is as it was, but for who has which range.
pub record KnowsNew (d d' : Directory) (name : Name) : Type 0 where
  pub place_is : place_of d' name ≡ Some (At 1)
  pub others : (m : Name) → m ≢ name → place_of d' m ≡ place_of d m
  pub held_is : (m : Name) → held_for d' m ≡ held_for d m
  pub known_still : (m : Name) → is_known d m ≡ true → is_known d' m ≡ true
  pub partings_are : (y : ℕ) → get d'.partings y ≡ get d.partings y
  pub leads : IsLeading d'

-- where the first directory is one that has the same places
module _ (d middle : Directory) (name : Name) (leads : IsLeading d) (unknown : place_of d name ≡ None)
    (places_are : middle.places ≡ d.places) (partings_are : middle.partings ≡ d.partings) where
  same-place : (m : Name) → place_of middle m ≡ place_of d m
  same-place m = ap (λ (ps : Named Place). get_named ps m) places_are

  middle-leads : IsLeading middle
  middle-leads =
      record {
        stays = ap (λ ps. is_none (get ps 1)) partings_are ∙ leads.stays;
        processes = subst (λ (ps : Named Place). IsRising ps.processes) (sym places_are) leads.processes;
        queues = subst (λ (ps : Named Place). IsRising ps.queues) (sym places_are) leads.queues;
        sets = subst (λ (ps : Named Place). IsRising ps.sets) (sym places_are) leads.sets;
      }

  abbrev after : Directory
  after = with_place middle name (At 1)

  -- the name is new, so that it is placed
  pub placed-is : place_name middle name 1 ≡ with_place middle name (At 1)
  placed-is =
      ap (λ (o : Option Place). if not (is_none o) then middle else after) (same-place name ∙ unknown)

  keeps : SameButPlaces middle after
  keeps =
      with-place-keeps middle name (At 1) middle-leads (sym (ap items_of (same-place name ∙ unknown)))

  -- The directory knows it.
  pub knows-new : KnowsNew d (place_name middle name 1) name
  knows-new =
      subst (λ (e : Directory). KnowsNew d e name) (sym placed-is)
      (record {
        place_is = place-with-same middle name (At 1);
        others = λ m other. place-with-other middle name (At 1) m other ∙ same-place m;
        held_is = λ m. keeps.held_is m ∙ ap items_of (same-place m);
        known_still = λ m h. keeps.known_still m (ap (λ o. not (is_none o)) (same-place m) ∙ h);
        partings_are = λ y. ap (λ ps. get ps y) partings_are;
        leads = keeps.leads;
      })

  -- It has the ranges of the first.
  pub ranges-placed : (kind : Kind) → for_kind (place_name middle name 1).ranges kind ≡ for_kind middle.ranges kind
  ranges-placed kind = ap (λ (e : Directory). for_kind e.ranges kind) placed-is

-- of what it holds, and of who leaves, nothing changes
pub knows-but-call : (x : ℕ) (d d' : Directory) (name : Name) → KnowsNew d d' name → SameButCall x d d'
knows-but-call x d d' name n =
    record {
      partings_are = n.partings_are;
      known_still = n.known_still;
      held_of_others = λ y other m. ap (filter (is_item_of y)) (n.held_is m);
      parcels_were = λ pid parcel. subst (λ (items : List Held). Contains items (Ending parcel))
          (n.held_is (Proc pid));
      leads = n.leads;
    }
