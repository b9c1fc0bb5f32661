-- The leader's directory with another place of one name, for which it holds what it held.
use Rattle.std.proofs.Common.{◌≡◌, ◌≢◌, true, not, is_none, filter, Some, refl, ap, sym, subst, ◌∙◌, inl, inr}
use Rattle.pico_base.specs.declared.numbers.Name.{Name}
use Rattle.pico_base.specs.declared.numbers.Name.TheVariants.{Proc, Msg, Sem}
use Rattle.number_maps.proofs.Rising.{rising-put}
use Rattle.node_model.specs.Kinds.{kind_of, number_of}
use Rattle.node_model.specs.Directory.{Directory, Place, place_of, with_place, is_known, held_for, items_of, maker_in, is_parcel_with}
use Rattle.world_laws.specs.Invariant.{IsLeading}
use Rattle.world_laws.proofs.Named.{name-cases, get-put-same-name, get-put-other-name}
use Rattle.world_laws.proofs.LeftAlone.{DirectoryLeaves}
use Rattle.rule_laws.proofs.Quiet.{SameButPlaces}

-- a name whose place is the same is left alone by such a directory
pub directory-leaves : (d d' : Directory) (name : Name) → SameButPlaces d d' → place_of d' name ≡ place_of d name
    → DirectoryLeaves d d' name
directory-leaves d d' name s e =
    record {
      place_is = e;
      maker_is = ap (λ ranges. maker_in ranges (number_of name)) (s.ranges_are (kind_of name));
      stays_is = λ x. ap is_none (s.partings_are x);
      kept_is = λ pid. ap (filter (is_parcel_with name)) (s.held_is (Proc pid));
    }

leading-with : (d : Directory) (name : Name) (place : Place) → IsLeading d → IsLeading (with_place d name place)
leading-with d (Proc pid) place l =
    record {
      stays = l.stays;
      processes = rising-put d.places.processes pid place l.processes;
      queues = l.queues;
      sets
          = l.sets;
    }
leading-with d (Msg id) place l =
    record {
      stays = l.stays;
      processes = l.processes;
      queues = rising-put d.places.queues id place l.queues;
      sets =
          l.sets;
    }
leading-with d (Sem id) place l =
    record {
      stays = l.stays;
      processes = l.processes;
      queues = l.queues;
      sets = rising-put d.places.sets id place
          l.sets;
    }

-- the name has the place
pub place-with-same : (d : Directory) (name : Name) (place : Place)
    → place_of (with_place d name place) name ≡ Some place
place-with-same d name place = get-put-same-name d.places name place

-- and the others have theirs
pub place-with-other : (d : Directory) (name : Name) (place : Place) (other : Name) → other ≢ name
    → place_of (with_place d name place) other ≡ place_of d other
place-with-other d name place other e = get-put-other-name d.places name place other e

-- another place of a name, with the same held for it
pub with-place-keeps : (d : Directory) (name : Name) (place : Place) → IsLeading d
    → items_of (Some place) ≡ held_for d name
    → SameButPlaces d (with_place d name place)
with-place-keeps d name place l held =
    record {
      partings_are = λ x. refl;
      ranges_are = λ kind. refl;
      known_still = λ m h. elim (name-cases m name) [
        | inl e ↦
            subst (λ y. is_known (with_place d name place) y ≡ true) (sym e)
            (ap (λ o. not (is_none o)) (place-with-same d name place))
        | inr d2 ↦ ap (λ o. not (is_none o)) (place-with-other d name place m d2) ∙ h
      ];
      held_is = λ m. elim (name-cases m name) [
        | inl e ↦
            subst (λ y. held_for (with_place d name place) y ≡ held_for d y) (sym e)
            (ap items_of (place-with-same d name place) ∙ held)
        | inr d2 ↦ ap items_of (place-with-other d name place m d2)
      ];
      leads = leading-with d name place l;
    }

-- and the directory itself
pub itself-keeps : (d : Directory) → IsLeading d → SameButPlaces d d
itself-keeps d l =
    record {
      partings_are = λ x. refl;
      ranges_are = λ kind. refl;
      known_still = λ m h. h;
      held_is = λ m. refl;
      leads =
          l;
    }
