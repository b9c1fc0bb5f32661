-- The leader holds the first call of its hand for a name that is on its way; and for a removal it asks the owner for
-- the deed first.
use Rattle.std.proofs.Common.{◌≡◌, ◌≢◌, ℕ, ◌≤◌, Bool, true, false, not, List, [], ◌∷◌, ◌++◌, filter, flat_map, nat_eq, Contains, cond, Option, Some, None, is_some, is_none, refl, ap, sym, subst, ◌∙◌, inl, inr, arith, append-nil}
use Rattle.std.specs.List.{AllByRecursion}
use Rattle.std.proofs.lemmas.Bool.{cases_eq, eq-eqb, ne_eqb, false≢true}
use Rattle.std.proofs.lemmas.List.Elements.{filter-append, Contains-push_cases}
use Rattle.pico_base.specs.declared.numbers.Name.{Name}
use Rattle.pico_base.specs.declared.numbers.Name.TheVariants.{Proc, Msg, Sem}
use Rattle.pico_base.specs.declared.script.Script.{Script}
use Rattle.pico_base.specs.Home.{home_of}
use Rattle.rpc_frame.specs.declared.asked.Asked.{Asked}
use Rattle.rpc_frame.specs.declared.deed.Parcel.{Parcel}
use Rattle.rpc_frame.specs.declared.frame.Frame.{Frame}
use Rattle.rpc_frame.specs.declared.frame.Frame.TheVariants as frames
use Rattle.number_maps.specs.Maps.{get}
use Rattle.number_maps.proofs.Rising.{rising-put}
use Rattle.node_model.specs.declared.held.Held.{Held}
use Rattle.node_model.specs.declared.held.Held.TheVariants.{Request, Ending}
use Rattle.node_model.specs.Kinds.{is_same_name, is_object, for_kind}
use Rattle.node_model.specs.Directory.{Directory, Place, At, Coming, place_of, with_place, held_for, items_of, destination_of, is_known, is_parcel, is_parcel_with}
use Rattle.world_model.specs.Node.{Node}
use Rattle.world_model.specs.Step.{with_directory}
use Rattle.world_model.specs.World.{World}
use Rattle.world_laws.specs.Places.{CallPlace, IsHeld, Beside, call_in}
use Rattle.world_laws.specs.Sights.{node_of, directory_of, is_born_in}
use Rattle.world_laws.specs.Plays.{Hold, Has, Lacks, Done, PlayStep, Goes, steps_if, play_on, plays, is_there, is_has, is_call_on, believed}
use Rattle.world_laws.specs.Names.{NameSight, name_sight, NameHolds, PlaysTo, RangeStep, IsSentThere, range_steps_of, leases_first, belief_of, maker_tells, IsItemFor, IsBoundRightly}
use Rattle.world_laws.specs.Callers.{only_if, is_held_at, is_about, is_item_about, may_be_in}
use Rattle.world_laws.specs.Invariant.{IsLeading, MayBe, HoldsOwing}
use Rattle.world_laws.proofs.Named.{name-cases, same-name, other-name}
use Rattle.world_laws.proofs.Played.{play-append}
use Rattle.world_laws.proofs.Sends.{frame_if}
use Rattle.world_laws.proofs.Stays.{name-stays}
use Rattle.world_laws.proofs.Changes.{Changes, frames_if, sent}
use Rattle.world_laws.proofs.Frames.{ArePlain, BringNoBirth, BringNoLease}
use Rattle.world_laws.proofs.LeftAlone.{AreNotAbout}
use Rattle.rule_laws.proofs.Nodes.{node-with-directory}
use Rattle.rule_laws.proofs.Places.{place-with-same, place-with-other}
use Rattle.route_laws.proofs.hand.HandMoves.{DirectoryRoutes, IsRouted, BringsNothing, routed_sight, routed-keeps, routed-born, name-routed, name-not-routed, held-for-none, IsCallOf, about-caller, no-held-cancel}
use Rattle.waiting_model.specs.Calls.{is_withdrawal}
use Rattle.entry_laws.specs.Entering.{is_used_name}
use Rattle.world_laws.specs.Cancels.{Owing, is_cancel_of, is_held_cancel_of}
use Rattle.world_laws.proofs.Cancels.{is_item_of}

-- ---- the directory

-- a further call is held for a name, which is on its way
pub record HoldsAlso (name : Name) (asked : Asked) (to : Option ℕ) (items : List Held) (d d' : Directory) : Type 0 where
  pub place_is : place_of d' name ≡ Some (Coming to (items ++ Request asked ∷ []))
  pub others : (m : Name) → m ≢ name → place_of d' m ≡ place_of d m
  pub were : held_for d name ≡ items
  pub partings_are : d'.partings ≡ d.partings
  pub ranges_are : d'.ranges ≡ d.ranges
  pub leads : IsLeading d'

-- another place of a name leaves each name known once
pub leading-with : (d : Directory) (name : Name) (place : Place) → IsLeading d → IsLeading (with_place d name place)
leading-with d (Proc pid) place l =
    record {
      stays = l.stays;
      processes = rising-put d.places.processes pid place l.processes;
      queues = l.queues;
      sets = l.sets;
    }
leading-with d (Msg id) place l =
    record {
      stays = l.stays;
      processes = l.processes;
      queues = rising-put d.places.queues id place l.queues;
      sets = l.sets;
    }
leading-with d (Sem id) place l =
    record {
      stays = l.stays;
      processes = l.processes;
      queues = l.queues;
      sets = rising-put d.places.sets id place l.sets;
    }

-- a call that is held for a name that is on its way
pub held-also : (d : Directory) (name : Name) (asked : Asked) (to : Option ℕ) (items : List Held) → IsLeading d
    → place_of d name ≡ Some (Coming to items)
    → HoldsAlso name asked to items d (with_place d name (Coming to (items ++ Request asked ∷ [])))
held-also d name asked to items leads e =
    record {
      place_is = place-with-same d name (Coming to (items ++ Request asked ∷ []));
      others = λ m other. place-with-other d name (Coming to (items ++ Request asked ∷ [])) m other;
      were = ap items_of e;
      partings_are = refl;
      ranges_are = refl;
      leads = leading-with d name (Coming to (items ++ Request asked ∷ [])) leads;
    }

-- and for one that is asked back
pub held-first : (d : Directory) (name : Name) (asked : Asked) (node : ℕ) → IsLeading d
    → place_of d name ≡ Some (At node)
    → HoldsAlso name asked None [] d
    (with_place (with_place d name (Coming None [])) name (Coming None (Request asked ∷ [])))
held-first d name asked node leads e =
    record {
      place_is = place-with-same (with_place d name (Coming None [])) name (Coming None (Request asked ∷ []));
      others = λ m other. place-with-other (with_place d name (Coming None [])) name
          (Coming None (Request asked ∷ [])) m other
          ∙ place-with-other d name (Coming None []) m other;
      were = ap items_of e;
      partings_are = refl;
      ranges_are = refl;
      leads = leading-with (with_place d name (Coming None [])) name (Coming None (Request asked ∷ []))
          (leading-with d name (Coming None []) leads);
    }

request-no-parcel : (asked : Asked) (parcel : Parcel) → Request asked ≡ Ending parcel → ⊥
request-no-parcel asked parcel e = false≢true (ap is_parcel e)

module _ (name : Name) (asked : Asked) (to : Option ℕ) (items : List Held) (d d' : Directory)
    (a : HoldsAlso name asked to items d d') where
  -- what a test that drops the call keeps
  pub still-held : (test : Held → Bool) → test (Request asked) ≡ false → (m : Name)
      → filter test (held_for d' m) ≡ filter test (held_for d m)
  still-held test drops m =
      elim (name-cases m name) [
        | inr other ↦ ap (λ o. filter test (items_of o)) (a.others m other)
        | inl e ↦
            subst (λ y. filter test (held_for d' y) ≡ filter test (held_for d y)) (sym e)
            (ap (λ o. filter test (items_of o)) a.place_is
            ∙ filter-append test items (Request asked ∷ [])
            ∙ ap (λ t. filter test items ++ cond t (Request asked ∷ []) []) drops
            ∙ append-nil (filter test items)
            ∙ ap (filter test) (sym a.were))
      ]

  -- and one that keeps it and nothing else
  now-held : is_withdrawal asked.call ≡ false → filter (is_item_about asked.caller) (held_for d name) ≡ []
      → filter (is_item_about asked.caller) (held_for d' name) ≡ Request asked ∷ []
  now-held is_call none =
      ap (λ o. filter (is_item_about asked.caller) (items_of o)) a.place_is
      ∙ filter-append (is_item_about asked.caller) items (Request asked ∷ [])
      ∙ ap (λ xs. xs ++ filter (is_item_about asked.caller) (Request asked ∷ []))
      (ap (filter (is_item_about asked.caller)) (sym a.were) ∙ none)
      ∙ ap (λ t. cond t (Request asked ∷ []) []) (about-caller asked is_call)

  -- the call is held for the name, and for no other
  pub held-there-now : is_withdrawal asked.call ≡ false → ((m : Name) → filter (is_item_about asked.caller)
      (held_for d m) ≡ []) → (m : Name)
      → filter (is_item_about asked.caller) (held_for d' m) ≡ only_if (is_held_at (IsHeld name) m) (Request asked)
  held-there-now is_call none m =
      elim (name-cases m name) [
        | inl e ↦
            subst (λ y. filter (is_item_about asked.caller) (held_for d' y)
            ≡ only_if (is_same_name name y) (Request asked)) (sym e)
            (now-held is_call (none name) ∙ ap (λ t. only_if t (Request asked)) (sym (same-name name name refl)))
        | inr other ↦
            ap (λ o. filter (is_item_about asked.caller) (items_of o)) (a.others m other)
            ∙ none m
            ∙ ap (λ t. only_if t (Request asked)) (sym (other-name name m (λ e. other (sym e))))
      ]

  known-still : (m : Name) → is_known d m ≡ true → is_known d' m ≡ true
  known-still m known =
      elim (name-cases m name) [
        | inl e ↦
            subst (λ y. is_known d' y ≡ true) (sym e) (ap (λ o. not (is_none o)) a.place_is)
        | inr other ↦ ap (λ o. not (is_none o)) (a.others m other) ∙ known
      ]

  parcels-were : (m : Name) (parcel : Parcel) → Contains (held_for d' m) (Ending parcel)
      → Contains (held_for d m) (Ending parcel)
  parcels-were m parcel there =
      elim (name-cases m name) [
        | inr other ↦ subst (λ o. Contains (items_of o) (Ending parcel)) (a.others m other) there
        | inl e ↦
            subst (λ y. Contains (held_for d y) (Ending parcel)) (sym e)
            (subst (λ xs. Contains xs (Ending parcel)) (sym a.were)
            (among (subst (λ o. Contains (items_of o) (Ending parcel)) a.place_is
            (subst (λ y. Contains (held_for d' y) (Ending parcel)) e there))))
      ]
    where
      among : Contains (items ++ Request asked ∷ []) (Ending parcel) → Contains items (Ending parcel)
      among at =
          elim (Contains-push_cases items (Request asked) (Ending parcel) at) [
            | inl old ↦ old
            | inr new ↦ absurd (request-no-parcel asked parcel new)
          ]

  -- the directory says the same of all but this
  pub holds-also-routes : DirectoryRoutes asked.caller d d'
  holds-also-routes =
      record {
        same = record {
          partings_are = λ y. ap (λ ps. get ps y) a.partings_are;
          known_still = known-still;
          held_of_others = λ y other m. still-held (is_item_of y) (ne_eqb asked.caller y (λ e. other (sym e))) m;
          parcels_were = λ pid parcel. parcels-were (Proc pid) parcel;
          leads = a.leads;
        };
        ranges_are = λ kind. ap (λ rs. for_kind rs kind) a.ranges_are;
        kept_is = λ m pid. still-held (is_parcel_with m) refl (Proc pid);
      }

-- ---- the name

all-behind : {A : Type 0} (P : A → Type 0) (xs : List A) (x : A) → AllByRecursion P xs → P x
    → AllByRecursion P (xs ++ x ∷ [])
all-behind P [] x all last = (last, tt)
all-behind P (y ∷ ys) x all last = (all.0, all-behind P ys x all.1 last)

none-is-some : (a : Place) → Some a ≡ None → ⊥
none-is-some a h = false≢true (sym (ap is_some h))

no-number : (a : ℕ) → None ≡ Some a → ⊥
no-number a h = false≢true (ap is_some h)

has-is : (hold : Hold) → is_has hold ≡ true → hold ≡ Has
has-is Has h = refl
has-is Lacks h = absurd (false≢true h)
has-is Done h = absurd (false≢true h)

-- the owner that is asked for the deed, if it is asked for now
abbrev pub recall_to : Name → Option ℕ → List (ℕ × Frame)
recall_to name None = []
recall_to name (Some node) = (node, frames.Recall name) ∷ []

-- the deed goes from that owner
abbrev pub goes_from : Option ℕ → ℕ → List PlayStep
goes_from None y = []
goes_from (Some node) y = steps_if (nat_eq y node) Goes

-- no more is on its way by range
abbrev pub no_ranges : ℕ → List RangeStep
no_ranges y = []

-- it is at the node that is asked for it now, and nothing is held for it yet
pub record IsAskedBack (node : ℕ) (to : Option ℕ) (items : List Held) (place : Option Place) : Type 0 where
  pub low : 2 ≤ node
  pub place_is : place ≡ Some (At node)
  pub to_nobody : to ≡ None
  pub none_held : items ≡ []

-- the name is on its way already, or it is asked for now
abbrev pub IsHeldFor : Option ℕ → Option ℕ → List Held → Option Place → Type 0
IsHeldFor None to items place = place ≡ Some (Coming to items)
IsHeldFor (Some node) to items place = IsAskedBack node to items place

module _ (script : Script) (pids : ℕ → ℕ) (born : ℕ → Bool) (name : Name) (x : NameSight)
    (h : NameHolds script pids born name x) where
  goes-at-owner : (node : ℕ) → 2 ≤ node → x.place ≡ Some (At node)
      → PlaysTo (x.begins node) (x.steps node ++ Goes ∷ []) false
  goes-at-owner node low place =
      let old : PlaysTo (x.begins node) (x.steps node) (is_there node (belief_of x)) = h.plays node low
      in let there : is_there node (belief_of x) ≡ true =
      ap (λ o. is_there node (believed o (maker_tells x x.maker))) place ∙ eq-eqb node node refl
      in record {
        last = Lacks;
        plays = play-append (x.steps node) (Goes ∷ []) (Some (x.begins node))
            ∙ ap (play_on (Goes ∷ [])) (old.plays ∙ ap Some (has-is old.last (old.agrees ∙ there)));
        agrees = refl;
      }

  goes-nowhere-else : (y : ℕ) → 2 ≤ y → is_there y (belief_of x) ≡ false
      → PlaysTo (x.begins y) (x.steps y ++ []) false
  goes-nowhere-else y low away =
      subst (λ t. PlaysTo (x.begins y) (x.steps y ++ []) t) away
      (subst (λ ss. PlaysTo (x.begins y) ss (is_there y (belief_of x))) (sym (append-nil (x.steps y))) (h.plays y low))

  plays-now : (recalls to : Option ℕ) (items : List Held) → IsHeldFor recalls to items x.place → (y : ℕ) → 2 ≤ y
      → PlaysTo (x.begins y) (x.steps y ++ goes_from recalls y) false
  plays-now None to items place y low =
      goes-nowhere-else y low (ap (λ o. is_there y (believed o (maker_tells x x.maker))) place)
  plays-now (Some node) to items f y low =
      elim (cases_eq y node) [
        | inl e ↦
            subst (λ t. PlaysTo (x.begins y) (x.steps y ++ steps_if t Goes) false) (sym (eq-eqb y node e))
            (subst (λ z. PlaysTo (x.begins z) (x.steps z ++ Goes ∷ []) false) (sym e)
            (goes-at-owner node f.low f.place_is))
        | inr d ↦
            subst (λ t. PlaysTo (x.begins y) (x.steps y ++ steps_if t Goes) false) (sym (ne_eqb y node d))
            (goes-nowhere-else y low
            (ap (λ o. is_there y (believed o (maker_tells x x.maker))) f.place_is ∙ ne_eqb node y (λ e. d (sym e))))
      ]

  was-known : (recalls to : Option ℕ) (items : List Held) → IsHeldFor recalls to items x.place
      → is_some x.place ≡ true
  was-known None to items place = ap is_some place
  was-known (Some node) to items f = ap is_some f.place_is

  leader-now : (recalls to : Option ℕ) (items : List Held) → IsHeldFor recalls to items x.place
      → is_some (x.held 1) ≡ false
  leader-now None to items place =
      h.leader ∙ ap (λ o. is_there 1 (believed o (maker_tells x x.maker))) place
  leader-now (Some node) to items f =
      h.leader ∙ ap (λ o. is_there 1 (believed o (maker_tells x x.maker))) f.place_is
      ∙ ne_eqb node 1 (let low = f.low in λ e. omega (arith, e, low))

  bound-now : (recalls to : Option ℕ) (items : List Held) → IsHeldFor recalls to items x.place → (z : ℕ)
      → to ≡ Some z → IsBoundRightly name born z
  bound-now None to items place z e = h.bound z (ap destination_of place ∙ e)
  bound-now (Some node) to items f z e = absurd (no-number z (sym f.to_nobody ∙ e))

  items-now : (recalls to : Option ℕ) (items : List Held) → IsHeldFor recalls to items x.place
      → AllByRecursion (IsItemFor name) items
  items-now None to items place = subst (λ o. AllByRecursion (IsItemFor name) (items_of o)) place h.items
  items-now (Some node) to items f = subst (λ xs. AllByRecursion (IsItemFor name) xs) (sym f.none_held) tt

  -- all holds of a name for which a further call is held
  pub name-held-for : (recalls to : Option ℕ) (items : List Held) (asked : Asked)
      → IsHeldFor recalls to items x.place → is_call_on name asked ≡ true
      → NameHolds script pids born name
      (routed_sight x (Some (Coming to (items ++ Request asked ∷ []))) (goes_from recalls) no_ranges)
  name-held-for recalls to items asked f on =
      record {
        parts = h.parts;
        callers = h.callers;
        made = h.made;
        place_fits = h.place_fits;
        tables = h.tables;
        streams = h.streams;
        kept = h.kept;
        in_hand = h.in_hand;
        known = λ e. h.known (was-known recalls to items f);
        believed = λ used. refl;
        plays = plays-now recalls to items f;
        leader = leader-now recalls to items f;
        told = h.told;
        found = λ q low_q. refl;
        unplaced = λ used e. absurd (none-is-some (Coming to (items ++ Request asked ∷ [])) e);
        ranged = λ y there. h.ranged y (subst (λ ss. Contains ss IsSentThere) (append-nil (x.ranges y)) there);
        leased = λ y low_y. ap leases_first (append-nil (x.ranges y)) ∙ h.leased y low_y;
        bound = bound-now recalls to items f;
        items = all-behind (IsItemFor name) items (Request asked) (items-now recalls to items f) on;
      }

-- ---- the move

module _ (name : Name) (asked : Asked) where
  no-call-taken : (recalls : Option ℕ) (to sender : ℕ)
      → filter (is_about asked.caller to sender) (sent 1 (recall_to name recalls) to sender) ≡ []
  no-call-taken None to sender = by-test (nat_eq sender 1)
    where
      by-test : (s : Bool) → filter (is_about asked.caller to sender) (frames_if s []) ≡ []
      by-test true = refl
      by-test false = refl
  no-call-taken (Some node) to sender = by-test (nat_eq sender 1) (nat_eq to node)
    where
      by-test : (s t : Bool)
          → filter (is_about asked.caller to sender) (frames_if s (frame_if t (frames.Recall name) ++ [])) ≡ []
      by-test true true = refl
      by-test true false = refl
      by-test false t = refl

  plain-recall : (recalls : Option ℕ) → ArePlain (recall_to name recalls)
  plain-recall None = tt
  plain-recall (Some node) = (refl, tt)

  no-birth-recall : (recalls : Option ℕ) → BringNoBirth (recall_to name recalls)
  no-birth-recall None = tt
  no-birth-recall (Some node) = (refl, tt)

  no-lease-recall : (recalls : Option ℕ) → BringNoLease (recall_to name recalls)
  no-lease-recall None kind = tt
  no-lease-recall (Some node) kind = (refl, tt)

  of-no-call : (recalls : Option ℕ) (y : ℕ)
      → AllByRecursion (λ s. is_about y s.0 1 s.1 ≡ false) (recall_to name recalls)
  of-no-call None y = tt
  of-no-call (Some node) y = (refl, tt)

  no-cancel-recall : (recalls : Option ℕ) (y : ℕ)
      → AllByRecursion (λ s. is_cancel_of y s.1 ≡ false) (recall_to name recalls)
  no-cancel-recall None y = tt
  no-cancel-recall (Some node) y = (refl, tt)

  may-be-recall : (recalls to : Option ℕ) (items : List Held) (place : Option Place) (script : Script) (born : ℕ → Bool)
      → IsHeldFor recalls to items place → (is_some recalls ≡ true → is_object name ≡ true)
      → AllByRecursion (λ s. MayBe script born s.0 1 s.1) (recall_to name recalls)
  may-be-recall None to items place script born f object = tt
  may-be-recall (Some node) to items place script born f object = ((refl, object refl), tt)

  to-others-recall : (recalls to : Option ℕ) (items : List Held) (place : Option Place)
      → IsHeldFor recalls to items place → AllByRecursion (λ s. s.0 ≢ 1) (recall_to name recalls)
  to-others-recall None to items place f = tt
  to-others-recall (Some node) to items place f = (let low = f.low in λ e. omega (arith, e, low), tt)

  not-about-recall : (recalls : Option ℕ) (m : Name) → m ≢ name → AreNotAbout m (recall_to name recalls)
  not-about-recall None m d = tt
  not-about-recall (Some node) m d = (other-name m name d, tt)

  brings-nothing : (recalls : Option ℕ) → BringsNothing name (recall_to name recalls)
  brings-nothing None =
      record { no_deed = tt; no_checkpoint = tt; no_place = tt; no_news = λ made. tt }
  brings-nothing (Some node) =
      record {
        no_deed = (refl, tt);
        no_checkpoint = (refl, tt);
        no_place = (refl, tt);
        no_news = λ made. (refl, tt);
      }

  goes-sent : (recalls : Option ℕ) (used : Bool) (call : ℕ → CallPlace) (y : ℕ)
      → plays used call name (sent 1 (recall_to name recalls) y 1) ≡ goes_from recalls y
  goes-sent None used call y = refl
  goes-sent (Some node) used call y = by-test (nat_eq y node)
    where
      by-test : (t : Bool) → plays used call name (frame_if t (frames.Recall name) ++ []) ≡ steps_if t Goes
      by-test true = ap (λ u. steps_if u Goes ++ []) (same-name name name refl)
      by-test false = refl

  no-ranges-sent : (recalls : Option ℕ) (used : Bool) (call : ℕ → CallPlace) (y : ℕ)
      → flat_map (range_steps_of used call name) (sent 1 (recall_to name recalls) y 1) ≡ no_ranges y
  no-ranges-sent None used call y = refl
  no-ranges-sent (Some node) used call y = by-test (nat_eq y node)
    where
      by-test : (t : Bool)
          → flat_map (range_steps_of used call name) (frame_if t (frames.Recall name) ++ []) ≡ no_ranges y
      by-test true = refl
      by-test false = refl

module _ (script : Script) (w : World) (asked : Asked) (rest : List Held) (b : Beside)
    {owes : Owing} (holds : HoldsOwing script w (Request asked ∷ rest) owes b) (asks : IsCallOf script asked)
    (name : Name) (on : is_call_on name asked ≡ true)
    (home : may_be_in (IsHeld name) (home_of asked.pid asked.call) asked.call ≡ true)
    (recalls to : Option ℕ) (items : List Held) (f : IsHeldFor recalls to items (place_of (directory_of w) name))
    (object : is_some recalls ≡ true → is_object name ≡ true) (d' : Directory)
    (a : HoldsAlso name asked to items (directory_of w) d')
    (w' : World) (c : Changes script 1 w w' (with_directory (node_of w 1) d') [] (recall_to name recalls) []) where
  abbrev sends : List (ℕ × Frame)
  sends = recall_to name recalls

  abbrev n : Node
  n = with_directory (node_of w 1) d'

  abbrev calls-now : ℕ → CallPlace
  calls-now = call_in b.call asked.caller (IsHeld name)

  directory-now : directory_of w' ≡ d'
  directory-now = ap (λ (m : Node). m.leader.directory) c.here

  is-routed : IsRouted script w w' b asked (IsHeld name) n sends
  is-routed =
      record {
        routed = refl;
        home = home;
        between = tt;
        frames = λ t s. no-call-taken name asked recalls t s;
        held = λ m. ap (λ d. filter (is_item_about asked.caller) (held_for d m)) directory-now
            ∙ held-there-now name asked to items (directory_of w) d' a asks.is_call
            (held-for-none script w asked rest b holds asks) m;
        held_cancels = λ m. ap (λ d. filter (is_held_cancel_of asked.caller) (held_for d m)) directory-now
            ∙ still-held name asked to items (directory_of w) d' a (is_held_cancel_of asked.caller)
            (no-held-cancel asked asked.caller asks.is_call) m;
        caller = record { number = refl; pid = refl; stage = refl; caller = refl; leases = refl };
        deeds = refl;
        queue_keys = refl;
        set_keys = refl;
        node = node-with-directory script b.pids (is_born_in w) 1 (node_of w 1) d' refl
            (holds.nodes 1 (omega arith) (let low = asks.low in let high = asks.high in omega (arith, low, high)));
        directory = subst (λ d. DirectoryRoutes asked.caller (directory_of w) d) (sym directory-now)
            (holds-also-routes name asked to items (directory_of w) d' a);
        plain = plain-recall name asked recalls;
        no_birth = no-birth-recall name asked recalls;
        no_lease = no-lease-recall name asked recalls;
        of_no_other = λ y d. of-no-call name asked recalls y;
        no_cancel = no-cancel-recall name asked recalls;
        may_be = may-be-recall name asked recalls to items (place_of (directory_of w) name) script (is_born_in w) f
            object;
        to_others = to-others-recall name asked recalls to items (place_of (directory_of w) name) f;
      }

  names : (m : Name) → NameHolds script b.pids (is_born_in w') m
      (name_sight script w' rest (record b { call = calls-now }) m)
  names m =
      elim (name-cases m name) [
        | inr d ↦
            name-not-routed script w asked rest b holds asks (IsHeld name) w' n sends c is-routed m
            (ap (λ z. place_of z m) directory-now ∙ a.others m d) (not-about-recall name asked recalls m d)
        | inl e ↦
            subst (λ y. NameHolds script b.pids (is_born_in w') y
            (name_sight script w' rest (record b { call = calls-now }) y)) (sym e)
            (name-stays script b.pids (is_born_in w) (is_born_in w') name _ _
            (routed-born script w asked rest b holds asks (IsHeld name) w' n sends c is-routed)
            (name-routed script w asked rest b holds asks (IsHeld name) w' n sends c is-routed name
            (Some (Coming to (items ++ Request asked ∷ []))) (goes_from recalls) no_ranges
            (ap (λ z. place_of z name) directory-now ∙ a.place_is) (brings-nothing name asked recalls)
            (goes-sent name asked recalls (is_used_name b.kernel name) calls-now)
            (no-ranges-sent name asked recalls (is_used_name b.kernel name) calls-now))
            (name-held-for script b.pids (is_born_in w) name
            (name_sight script w (Request asked ∷ rest) b name) (holds.names name) recalls to items asked f on))
      ]

  -- The call is held for the name.
  pub holding-keeps : HoldsOwing script w' rest owes (record b { call = calls-now })
  holding-keeps = routed-keeps script w asked rest b holds asks (IsHeld name) w' n sends c is-routed names
