-- The leader's directory after a new name: the leader places it itself, or the maker tells it. And the node that the
-- name is told by, or placed at.
use Rattle.std.proofs.Common.{◌≡◌, ◌≢◌, ℕ, Bool, true, false, not, if◌then◌else◌, List, [], ◌∷◌, ◌++◌, filter, nat_eq, is_none, Contains, Option, Some, None, refl, ap, sym, subst, ◌∙◌, inl, inr, append-nil}
use Rattle.std.proofs.lemmas.Bool.{cases_eq, ne_eqb}
use Rattle.pico_base.specs.declared.numbers.Kind.{Kind}
use Rattle.pico_base.specs.declared.numbers.Name.{Name}
use Rattle.pico_base.specs.declared.numbers.Name.TheVariants.{Proc}
use Rattle.pico_base.specs.declared.reply.Entry.{Entry}
use Rattle.pico_base.specs.declared.script.Script.{Script}
use Rattle.rpc_frame.specs.declared.frame.Frame.{Frame}
use Rattle.rpc_frame.specs.declared.frame.Frame.TheVariants as frames
use Rattle.number_maps.specs.Maps.{get}
use Rattle.node_model.specs.declared.held.Held.TheVariants.{Ending}
use Rattle.node_model.specs.Directory.{At, Directory, Place, held_for, is_known, items_of, maker, place_name, place_of, with_place}
use Rattle.node_model.specs.Kinds.{for_kind}
use Rattle.world_model.specs.Node.{Node, is_leader}
use Rattle.world_model.specs.Numbers.{tell_place}
use Rattle.world_model.specs.Step.{Step, send, with_directory, with_node}
use Rattle.world_model.specs.World.{World}
use Rattle.world_laws.specs.Invariant.{IsLeading}
use Rattle.world_laws.specs.Sights.{directory_of, node_of}
use Rattle.world_laws.proofs.Cancels.{is_item_of}
use Rattle.world_laws.proofs.Changes.{Changes, directory-same}
use Rattle.rule_laws.proofs.CallMoves.{SameButCall}
use Rattle.rule_laws.proofs.Places.{place-with-other, place-with-same, with-place-keeps}
use Rattle.rule_laws.proofs.makes.Sources.{Comes, InLease, Next, Origin, directory_by, takes_by}

-- ---- the step

-- what the leader has then
abbrev pub placed_if : Bool → Directory → Name → ℕ → Directory
placed_if t d name at = if t then place_name d name at else d

-- what any other maker sends
abbrev pub tells_if : Bool → Name → ℕ → List (ℕ × Frame)
tells_if t name at = if t then [] else (1, frames.Placed name at) ∷ []

-- where the name is known then
abbrev pub place_if : Bool → ℕ → Option Place
place_if t at = if t then Some (At at) else None

-- the place of a new name is told, or placed
pub tell-is : (step : Step) (name : Name) (at : ℕ) (t : Bool) → is_leader step.node ≡ t
    → tell_place step name at
    ≡ record {
      node = with_directory step.node (placed_if t step.node.leader.directory name at);
      entries = step.entries;
      sends =
          step.sends ++ tells_if t name at;
      strikes = step.strikes;
    }
tell-is step name at true e =
    ap (λ u. if u then with_node step (with_directory step.node (place_name step.node.leader.directory name at))
    else send step 1 (frames.Placed name at)) e
    ∙ ap (λ sends. record {
      node = with_directory step.node (place_name step.node.leader.directory name at);
      entries = step.entries;
      sends = sends;
      strikes = step.strikes;
    }) (sym (append-nil step.sends))
tell-is step name at false e =
    ap (λ u. if u then with_node step (with_directory step.node (place_name step.node.leader.directory name at))
    else send step 1 (frames.Placed name at)) e

-- ---- the directory

-- The new name has this place, and the others theirs; makers and ranges are those of the directory with the number's
-- range, and all else is as it was.
pub record IsAfter (d mid d' : Directory) (name : Name) (place : Option Place) : Type 0 where
  pub itself : place_of d' name ≡ place
  pub others : (m : Name) → m ≢ name → place_of d' m ≡ place_of d m
  pub makers : (m : Name) → maker d' m ≡ maker mid m
  pub ranges : (y : Kind) → for_kind d'.ranges y ≡ for_kind mid.ranges y
  pub partings : (x : ℕ) → get d'.partings x ≡ get d.partings x
  pub held : (m : Name) → held_for d' m ≡ held_for d m
  pub known_still : (m : Name) → is_known d m ≡ true → is_known d' m ≡ true
  pub leads : IsLeading d'

-- one more range changes no place
mid-is : (d : Directory) (kind : Kind) (o : Origin) (name : Name) → place_of d name ≡ None → IsLeading d
    → IsAfter d (directory_by d kind o) (directory_by d kind o) name None
mid-is d kind InLease name none l =
    record {
      itself = none;
      others = λ m other. refl;
      makers = λ m. refl;
      ranges = λ y. refl;
      partings = λ x. refl;
      held = λ m. refl;
      known_still = λ m h. h;
      leads = l;
    }
mid-is d kind (Comes first) name none l =
    record {
      itself = none;
      others = λ m other. refl;
      makers = λ m. refl;
      ranges = λ y. refl;
      partings = λ x. refl;
      held = λ m. refl;
      known_still = λ m h. h;
      leads = l;
    }
mid-is d kind Next name none l =
    record {
      itself = none;
      others = λ m other. refl;
      makers = λ m. refl;
      ranges = λ y. refl;
      partings = λ x. refl;
      held = λ m. refl;
      known_still = λ m h. h;
      leads = record { stays = l.stays; processes = l.processes; queues = l.queues; sets = l.sets };
    }

-- nor does a further place of a name that wasn't known
placed-is : (d mid : Directory) (name : Name) (at : ℕ) → IsAfter d mid mid name None
    → IsAfter d mid (with_place mid name (At at)) name (Some (At at))
placed-is d mid name at a =
    let still = with-place-keeps mid name (At at) a.leads (sym (ap items_of a.itself))
    in record {
      itself = place-with-same mid name (At at);
      others = λ m other. place-with-other mid name (At at) m other ∙ a.others m other;
      makers = λ m. refl;
      ranges = λ y. refl;
      partings = a.partings;
      held = λ m. still.held_is m ∙ a.held m;
      known_still = λ m h. still.known_still m (a.known_still m h);
      leads = still.leads;
    }

-- in any case the directory is so afterwards
pub after-is : (d : Directory) (kind : Kind) (o : Origin) (name : Name) (at : ℕ) (t : Bool) → place_of d name ≡ None
    → IsLeading d
    → IsAfter d (directory_by d kind o) (placed_if t (directory_by d kind o) name at) name (place_if t at)
after-is d kind o name at false none l = mid-is d kind o name none l
after-is d kind o name at true none l =
    let mid : Directory = directory_by d kind o
    in let a : IsAfter d mid mid name None = mid-is d kind o name none l
    in subst (λ (x : Directory). IsAfter d mid x name (Some (At at)))
    (sym (ap (λ place. if not (is_none place) then mid else with_place mid name (At at)) a.itself))
    (placed-is d mid name at a)

-- of what it holds nothing changes
pub moves-none : (x : ℕ) (d mid d' : Directory) (name : Name) (place : Option Place) → IsAfter d mid d' name place
    → SameButCall x d d'
moves-none x d mid d' name place a =
    record {
      partings_are = a.partings;
      known_still = a.known_still;
      held_of_others = λ y other m. ap (filter (is_item_of y)) (a.held m);
      parcels_were = λ pid parcel there. subst (λ items. Contains items (Ending parcel)) (a.held (Proc pid)) there;
      leads = a.leads;
    }

-- where node 1 makes the name it is node 1's new directory
pub directory-now : (script : Script) (w next : World) (p : ℕ) (kind : Kind) (o : Origin) (n : Node)
    (sends : List (ℕ × Frame)) (entries : List Entry) (name : Name) (at : ℕ)
    → Changes script p w next n (takes_by kind o) sends entries
    → (p ≢ 1 → directory_by (directory_of w) kind o ≡ directory_of w)
    → n.leader.directory ≡ placed_if (nat_eq p 1) (directory_by (node_of w p).leader.directory kind o) name at
    → directory_of next ≡ placed_if (nat_eq p 1) (directory_by (directory_of w) kind o) name at
directory-now script w next p kind o n sends entries name at c same is =
    elim (cases_eq p 1) [
      | inl e ↦
          ap (λ q. (node_of next q).leader.directory) (sym e)
          ∙ ap (λ (m : Node). m.leader.directory) c.here
          ∙ is
          ∙ ap (λ q. placed_if (nat_eq p 1) (directory_by (node_of w q).leader.directory kind o) name at) e
      | inr d ↦
          directory-same script p w next n (takes_by kind o) sends entries c d
          ∙ sym (same d)
          ∙ sym (ap (λ t. placed_if t (directory_by (directory_of w) kind o) name at) (ne_eqb p 1 d))
    ]
