-- The leader has made a queue or a set, whoever asked for it: all holds of each name afterwards.
use Rattle.std.proofs.Common.{◌≡◌, ◌≢◌, ◌⊎◌, ℕ, ◌≤◌, Bool, true, false, ◌&&◌, not, if◌then◌else◌, List, [], filter, flat_map, nat_eq, Contains, Some, None, is_none, is_some, refl, ap, sym, subst, ◌∙◌, inl, inr, arith}
use Rattle.std.proofs.lemmas.Bool.{cases_eq, eq-eqb, ne_eqb}
use Rattle.pico_base.specs.declared.call.Call.{Call}
use Rattle.pico_base.specs.declared.numbers.Kind.{Kind}
use Rattle.pico_base.specs.declared.numbers.Name.{Name}
use Rattle.pico_base.specs.declared.numbers.Name.TheVariants.{Proc}
use Rattle.pico_base.specs.declared.reply.Entry.{Entry}
use Rattle.pico_base.specs.declared.reply.Reply.TheVariants as replies
use Rattle.pico_base.specs.declared.script.Script.{Script}
use Rattle.rpc_frame.specs.declared.frame.Frame.{Frame}
use Rattle.kernel_model.specs.Kernel.{Kernel}
use Rattle.kernel_model.specs.Fitting.{Places}
use Rattle.entry_laws.specs.Entering.{is_used_name}
use Rattle.entry_laws.proofs.Fresh.{MakesObject}
use Rattle.entry_laws.proofs.Numbers.{used-made, used-others}
use Rattle.node_model.specs.declared.held.Held.{Held}
use Rattle.node_model.specs.Kinds.{for_kind, get_named, kind_of, number_of}
use Rattle.node_model.specs.Bodies.{Body}
use Rattle.node_model.specs.Caller.{Caller}
use Rattle.node_model.specs.Directory.{Directory, held_for, is_parcel_with, maker, maker_in, place_name, place_of, stays}
use Rattle.world_model.specs.Census.{brings}
use Rattle.world_model.specs.Node.{Node}
use Rattle.world_model.specs.World.{World, node_count}
use Rattle.world_laws.specs.Places.{Beside, CallPlace, DeedPlace, InTable, Unmade, body_put, deed_in}
use Rattle.world_laws.specs.Sights.{directory_of, frames_to, is_born_in, node_of, stage_of}
use Rattle.world_laws.specs.Plays.{Has, PlayStep, begin, has_any, is_checkpoint_of, news, placed_in, plays}
use Rattle.world_laws.specs.Names.{IsSentThere, NameHolds, NameSight, RangeStep, comes_to, forker, held_as, held_at, is_maker, leases_first, name_sight, range_steps_of}
use Rattle.world_laws.specs.Cancels.{Owing}
use Rattle.world_laws.specs.Invariant.{HoldsOwing}
use Rattle.world_laws.proofs.Changes.{Changes, filter-is-list-map, flat_map-is-list-map, made-same, only-stayed, read-same, stayed}
use Rattle.world_laws.proofs.Frames.{all-weaker, no-checkpoint, no-deed, no-news, no-places, no-ranges, no-steps}
use Rattle.world_laws.proofs.LeftAlone.{AreNotAbout}
use Rattle.world_laws.proofs.NameFacts.{begins-with, held-elsewhere, held-here}
use Rattle.world_laws.proofs.Named.{get-put-other-name, get-put-same-name, name-cases, other-name, same-name}
use Rattle.world_laws.proofs.Stays.{IsMore, SameName, name-stays}
use Rattle.rule_laws.proofs.Nodes.{leader-stage}
use Rattle.rule_laws.proofs.makes.FirstUsed.{first-still, plays-unsent, sent-before}
use Rattle.rule_laws.proofs.own.Rebodied.{IsBodyOf, nobody-waits-in}
use Rattle.route_laws.proofs.keys.AtLeader.{GoesAsBefore, at_leader, name-at-leader}
use Rattle.route_laws.proofs.keys.MadeHere.{MakesOf, Tables, directory-now, made_node, ranges-now, unused}
use Rattle.route_laws.proofs.keys.NewPlaces.{KnowsNew}
use Rattle.route_laws.proofs.keys.Refills.{made_by, name-given-out}
use Rattle.route_laws.proofs.keys.Taking.{IsGivenOut, TakesNumber}

-- What the event leaves of what names look at besides: parcels in hand, and frames that are on their way from the
-- leader.
pub record LeavesFrames (hand hand' : List Held) (b : Beside) (call : ℕ → CallPlace) (left : ℕ → ℕ → List Frame)
    : Type 0 where
  pub hand_is : (name : Name) → filter (is_parcel_with name) hand' ≡ filter (is_parcel_with name) hand
  pub steps_are : (used : Bool) (name : Name) (h : ℕ)
      → plays used call name (left h 1) ≡ plays used b.call name (left h 1)
  pub ranges_are : (used : Bool) (name : Name) (h : ℕ)
      → flat_map (range_steps_of used call name) (left h 1) ≡ flat_map (range_steps_of used b.call name) (left h 1)

module _ (script : Script) (w w' : World) (hand hand' : List Held) {owes : Owing} (b : Beside)
    (holds : HoldsOwing script w hand owes b) (some_node : 1 ≤ node_count script) (pid : ℕ) (call : Call) (kind : Kind)
    (name : Name) (body : Body)
    (m : MakesOf w b pid call kind name body) (caller : Caller) (keys : Tables) (places : Places)
    (calls : ℕ → CallPlace) (sends : List (ℕ × Frame)) (entries : List Entry)
    (c : Changes script 1 w w' (made_node (node_of w 1) kind m.takes.numbers m.takes.directory name body caller keys)
    [] sends entries) (more : IsMore (is_born_in w) (is_born_in w')) (l : LeavesFrames hand hand' b calls c.left)
    (plain : (y : Name) → AreNotAbout y sends) where
  abbrev n : Node
  n = node_of w 1

  abbrev d : Directory
  d = directory_of w

  abbrev t : TakesNumber w b.kernel kind
  t = m.takes

  abbrev made : MakesObject b.kernel pid call name body
  made = m.made

  abbrev k : Kernel
  k = b.kernel

  abbrev after : Node
  after = made_node (node_of w 1) kind t.numbers t.directory name body caller keys

  abbrev placed : Directory
  placed = place_name t.directory name 1

  abbrev body_now : Name → Body
  body_now = body_put b.body name body

  -- what stands beside the world, as names see it
  abbrev pub made_beside : Beside
  made_beside =
      record b {
        kernel = made.next;
        places = places;
        deed = deed_in b.deed name (InTable 1);
        call = calls;
        body = body_now;
      }

  knows : KnowsNew d placed name
  knows = directory-now script w hand b holds some_node pid call kind name body m

  -- The directory is the one with the name.
  pub directory-is : directory_of w' ≡ placed
  directory-is = ap (λ (y : Node). y.leader.directory) c.here

  abbrev x : Name → NameSight
  x y = name_sight script w hand b y

  -- ---- who has the name's number

  same-ranges : (y : Name) → maker placed y ≡ maker t.directory y
  same-ranges y =
      ap (λ rs. maker_in rs (number_of y))
      (ranges-now script w hand b holds some_node pid call kind name body m (kind_of y))

  maker-cases : (y : Name) → (maker (directory_of w') y ≡ maker d y) ⊎ IsGivenOut k d t.directory y
  maker-cases y =
      elim (t.makers y) [
        | inl same ↦ inl (ap (λ z. maker z y) directory-is ∙ same-ranges y ∙ same)
        | inr given ↦ inr given
      ]

  given-now : (y : Name) → IsGivenOut k d t.directory y → maker (directory_of w') y ≡ Some 1
  given-now y given = ap (λ z. maker z y) directory-is ∙ same-ranges y ∙ given.now

  -- all holds of each name with its maker
  maker-now : (y : Name) → NameHolds script b.pids (is_born_in w) y (made_by (x y) (maker (directory_of w') y))
  maker-now y =
      elim (maker-cases y) [
        | inl same ↦
            subst (λ o. NameHolds script b.pids (is_born_in w) y (made_by (x y) o)) (sym same) (holds.names y)
        | inr given ↦
            subst (λ o. NameHolds script b.pids (is_born_in w) y (made_by (x y) o)) (sym (given-now y given))
            (name-given-out script b.pids (is_born_in w) y (x y) (holds.names y) 1 given.unused given.was)
      ]

  -- ---- what is seen of every name

  brought-same : (y : Name) (to sender : ℕ)
      → filter (brings y) (frames_to w' to sender) ≡ filter (brings y) (frames_to w to sender)
  brought-same y to sender =
      made-same script 1 w w' after [] sends entries c (λ t s fs. filter (brings y) fs)
      (λ t s. filter-is-list-map (brings y)) tt (all-weaker (λ s. no-deed y s.1) sends (plain y)) to sender

  comes-same : (y : Name) (h : ℕ) → comes_to script w' y h ≡ comes_to script w y h
  comes-same y h =
      ap (λ fs. not (nat_eq (forker script h) 1) && has_any fs)
      (made-same script 1 w w' after [] sends entries c (λ t s fs. filter (is_checkpoint_of y) fs)
      (λ t s. filter-is-list-map (is_checkpoint_of y)) tt (all-weaker (λ s. no-checkpoint y s.1) sends (plain y)) h
      (forker script h))

  -- what is on its way to nodes, for a name that is used, or isn't
  steps-same : (used : Bool) (y : Name) (h : ℕ)
      → plays used calls y (frames_to w' h 1) ≡ plays used b.call y (frames_to w h 1)
  steps-same used y h =
      only-stayed script 1 w w' after [] sends entries c (λ t s fs. plays used calls y fs)
      (λ t s. flat_map-is-list-map _) (all-weaker (λ s. no-steps used calls y s.1) sends (plain y)) h 1
      ∙ l.steps_are used y h
      ∙ stayed script 1 w w' after [] sends entries c (λ t s fs. plays used b.call y fs)
      (λ t s. flat_map-is-list-map _) tt h 1

  ranges-same : (used : Bool) (y : Name) (h : ℕ)
      → flat_map (range_steps_of used calls y) (frames_to w' h 1)
      ≡ flat_map (range_steps_of used b.call y) (frames_to w h 1)
  ranges-same used y h =
      only-stayed script 1 w w' after [] sends entries c (λ t s fs. flat_map (range_steps_of used calls y) fs)
      (λ t s. flat_map-is-list-map _) (all-weaker (λ s. no-ranges used calls y s.1) sends (plain y)) h 1
      ∙ l.ranges_are used y h
      ∙ stayed script 1 w w' after [] sends entries c (λ t s fs. flat_map (range_steps_of used b.call y) fs)
      (λ t s. flat_map-is-list-map _) tt h 1

  placed-same : (y : Name) (q : ℕ) → placed_in y (frames_to w' 1 q) ≡ placed_in y (frames_to w 1 q)
  placed-same y q =
      made-same script 1 w w' after [] sends entries c (λ t s fs. placed_in y fs) (λ t s. flat_map-is-list-map _) tt
      (all-weaker (λ s. no-places y s.1) sends (plain y)) 1 q

  news-same : (y : Name) (u : Bool) (q : ℕ) → news y u (frames_to w' 1 q) ≡ news y u (frames_to w 1 q)
  news-same y u q =
      made-same script 1 w w' after [] sends entries c (λ t s fs. news y u fs) (λ t s. flat_map-is-list-map _) tt
      (all-weaker (λ s. no-news y u s.1) sends (plain y)) 1 q

  kept-same : (y : Name) (p : ℕ)
      → filter (is_parcel_with y) (held_for (directory_of w') (Proc p))
      ≡ filter (is_parcel_with y) (held_for d (Proc p))
  kept-same y p =
      ap (λ z. filter (is_parcel_with y) (held_for z (Proc p))) directory-is
      ∙ ap (filter (is_parcel_with y)) (knows.held_is (Proc p))

  stays-same : (y : ℕ) → stays (directory_of w') y ≡ stays d y
  stays-same y = ap (λ z. stays z y) directory-is ∙ ap is_none (knows.partings_are y)

  -- ---- any other name

  abbrev other_sight : Name → NameSight
  other_sight y = made_by (x y) (maker (directory_of w') y)

  used-other : (y : Name) → y ≢ name → is_used_name made.next y ≡ is_used_name k y
  used-other y other = used-others k pid call (replies.Num (number_of name)) name made.next made.enters y other

  held-other : (y : Name) → y ≢ name → (h : ℕ) → held_at w' y h ≡ held_at w y h
  held-other y other h =
      read-same script 1 w w' after [] sends entries c (λ (z : Node). get_named z.deeds y)
      (get-put-other-name n.deeds name body y other) h

  begins-other : (y : Name) → y ≢ name → (h : ℕ)
      → begin (stage_of w' h) (is_some (held_at w' y h)) (comes_to script w' y h)
      ≡ begin (stage_of w h) (is_some (held_at w y h)) (comes_to script w y h)
  begins-other y other h =
      ap (begin (stage_of w' h) (is_some (held_at w' y h))) (comes-same y h)
      ∙ read-same script 1 w w' after [] sends entries c
      (λ (z : Node). begin z.stage (is_some (get_named z.deeds y)) (comes_to script w y h))
      (ap (λ o. begin n.stage (is_some o) (comes_to script w y h)) (get-put-other-name n.deeds name body y other)) h

  -- a Leaving counts for it where it did
  flag-other : (y : Name) → y ≢ name → (q : ℕ)
      → (is_used_name made.next y && is_maker (maker (directory_of w') y) q)
      ≡ (is_used_name k y && is_maker (maker d y) q)
  flag-other y other q =
      ap (λ u. u && is_maker (maker (directory_of w') y) q) (used-other y other)
      ∙ elim (maker-cases y) [
        | inl same ↦ ap (λ o. is_used_name k y && is_maker o q) same
        | inr given ↦
            ap (λ u. u && is_maker (maker (directory_of w') y) q) given.unused
            ∙ sym (ap (λ u. u && is_maker (maker d y) q) given.unused)
      ]

  other-seen : (y : Name) → y ≢ name → SameName (other_sight y) (name_sight script w' hand' made_beside y)
  other-seen y other =
      record {
        place = sym (ap (λ z. place_of z y) directory-is ∙ knows.others y other);
        maker = refl;
        stays = λ q. sym (stays-same q);
        used = sym (used-other y other);
        part = sym (made.rest y other);
        body = sym (ap (λ t. if t then body else b.body y) (other-name name y (λ e. other (sym e))));
        deed = sym (ap (λ t. if t then InTable 1 else b.deed y) (other-name name y (λ e. other (sym e))));
        held = λ h. sym (held-other y other h);
        brought = λ to sender. sym (brought-same y to sender);
        kept = λ p. sym (kept-same y p);
        hand = sym (l.hand_is y);
        begins = λ h. sym (begins-other y other h);
        steps = λ h. ap (λ u. plays u b.call y (frames_to w h 1)) (sym (used-other y other))
            ∙ sym (steps-same (is_used_name made.next y) y h);
        ranges = λ h. ap (λ u. flat_map (range_steps_of u b.call y) (frames_to w h 1)) (sym (used-other y other))
            ∙ sym (ranges-same (is_used_name made.next y) y h);
        placed = λ q. sym (placed-same y q);
        news = λ q. ap (λ u. news y u (frames_to w 1 q)) (sym (flag-other y other q))
            ∙ sym (news-same y (is_used_name made.next y && is_maker (maker (directory_of w') y) q) q);
      }

  -- ---- its own

  name-unused : is_used_name k name ≡ false
  name-unused = unused script w hand b holds some_node pid call kind name body m

  used-now : is_used_name made.next name ≡ true
  used-now = used-made k pid call (replies.Num (number_of name)) name made.next made.enters

  made-here : maker (directory_of w') name ≡ Some 1
  made-here =
      ap (λ z. maker z name) directory-is ∙ same-ranges name
      ∙ ap (λ y. maker_in (for_kind t.directory.ranges y) (number_of name)) m.kind_is
      ∙ ap (maker_in (for_kind t.directory.ranges kind)) m.number_is ∙ t.made_here

  known : NameHolds script b.pids (is_born_in w) name (x name)
  known = holds.names name

  deed-none : b.deed name ≡ Unmade
  deed-none = known.made.1 name-unused

  -- nobody waits there
  new-body : IsBodyOf script body body
  new-body =
      subst (λ v. IsBodyOf script v v) made.there (nobody-waits-in script made.next name)

  abbrev steps_now : ℕ → List PlayStep
  steps_now h = plays true b.call name (frames_to w h 1)

  abbrev ranges_now : ℕ → List RangeStep
  ranges_now h = flat_map (range_steps_of true b.call name) (frames_to w h 1)

  not-first : (q : ℕ) → 2 ≤ q → Some 1 ≡ Some q → ⊥
  not-first q low same = omega (arith, low, number-same q same)
    where
      number-same : (r : ℕ) → Some 1 ≡ Some r → 1 ≡ r
      number-same r e = cc

  -- what is on its way to other nodes is the same, though the name is used now: none of it was sent by its range
  goes-as-before : GoesAsBefore (other_sight name) steps_now ranges_now
  goes-as-before =
      let ours : NameHolds script b.pids (is_born_in w) name (other_sight name) = maker-now name
      in let was : (q : ℕ) → (x name).ranges q ≡ flat_map (range_steps_of false b.call name) (frames_to w q 1) =
      λ q. ap (λ u. flat_map (range_steps_of u b.call name) (frames_to w q 1)) name-unused
      in record {
        steps_are = λ q low. plays-unsent b.call name (frames_to w q 1)
            (λ there. not-first q low (sym made-here
            ∙ ours.ranged q (subst (λ rs. Contains rs IsSentThere) (sym (was q)) there)))
            ∙ ap (λ u. plays u b.call name (frames_to w q 1)) (sym name-unused);
        ranged = λ q there. subst (λ rs. Contains rs IsSentThere) (sym (was q))
            (sent-before b.call name (frames_to w q 1) there);
        leased = λ q first. first-still b.call name (frames_to w q 1)
            (subst (λ rs. leases_first rs ≡ true) (was q) first);
      }

  held-none : (q : ℕ) → held_at w name q ≡ None
  held-none q =
      known.tables q ∙ ap (λ (y : DeedPlace). held_as y (b.body name) q) deed-none

  held-now : (q : ℕ) → held_as (InTable 1) body q ≡ held_at w' name q
  held-now q =
      elim (cases_eq q 1) [
        | inl e ↦
            subst (λ y. held_as (InTable 1) body y ≡ held_at w' name y) (sym e)
            (held-here 1 body
            ∙ sym (ap (λ (z : Node). get_named z.deeds name) c.here ∙ get-put-same-name n.deeds name body))
        | inr e ↦
            held-elsewhere 1 q body e
            ∙ sym (ap (λ (z : Node). get_named z.deeds name) (c.others q e) ∙ held-none q)
      ]

  begins-here : begin (stage_of w' 1) (is_some (held_at w' name 1)) (comes_to script w' name 1) ≡ Has
  begins-here =
      ap (λ o. begin (stage_of w' 1) (is_some o) (comes_to script w' name 1)) (sym (held-now 1) ∙ held-here 1 body)
      ∙ ap (λ (z : Node). begin z.stage true (comes_to script w' name 1)) c.here
      ∙ begins-with n.stage true (comes_to script w' name 1)
      ((leader-stage script b.pids (is_born_in w) 1 n refl (holds.nodes 1 (omega arith) some_node)).1) refl

  begins-now : (q : ℕ) → (if nat_eq q 1 then Has else (x name).begins q)
      ≡ begin (stage_of w' q) (is_some (held_at w' name q)) (comes_to script w' name q)
  begins-now q =
      elim (cases_eq q 1) [
        | inl e ↦
            ap (λ t. if t then Has else (x name).begins q) (eq-eqb q 1 e)
            ∙ subst (λ y. Has ≡ begin (stage_of w' y) (is_some (held_at w' name y)) (comes_to script w' name y))
            (sym e) (sym begins-here)
        | inr e ↦
            ap (λ t. if t then Has else (x name).begins q) (ne_eqb q 1 e)
            ∙ ap (begin (stage_of w q) (is_some (held_at w name q))) (sym (comes-same name q))
            ∙ sym (ap (λ (z : Node). begin z.stage (is_some (get_named z.deeds name)) (comes_to script w' name q))
            (c.others q e))
      ]

  flag-now : (q : ℕ) → q ≢ 1 → (is_used_name made.next name && is_maker (maker (directory_of w') name) q) ≡ false
  flag-now q other =
      ap (λ u. u && is_maker (maker (directory_of w') name) q) used-now
      ∙ ap (λ o. is_maker o q) made-here ∙ ne_eqb 1 q (λ e. other (sym e))

  news-now : (q : ℕ) → (x name).news q
      ≡ news name (is_used_name made.next name && is_maker (maker (directory_of w') name) q) (frames_to w' 1 q)
  news-now q =
      elim (cases_eq q 1) [
        | inl e ↦
            subst (λ y. (x name).news y
            ≡ news name (is_used_name made.next name && is_maker (maker (directory_of w') name) y) (frames_to w' 1 y))
            (sym e)
            (ap (news name (is_used_name k name && is_maker (maker d name) 1)) (none-to-itself)
            ∙ sym (news-same name (is_used_name made.next name && is_maker (maker (directory_of w') name) 1) 1
            ∙ ap (news name (is_used_name made.next name && is_maker (maker (directory_of w') name) 1))
            none-to-itself))
        | inr e ↦
            ap (λ u. news name (u && is_maker (maker d name) q) (frames_to w 1 q)) name-unused
            ∙ sym (ap (λ u. news name u (frames_to w' 1 q)) (flag-now q e) ∙ news-same name false q)
      ]
    where
      none-to-itself : frames_to w 1 1 ≡ []
      none-to-itself = let fit = holds.frames_fit in fit.none_to_itself 1

  own-seen : SameName (at_leader (other_sight name) body steps_now ranges_now)
      (name_sight script w' hand' made_beside name)
  own-seen =
      record {
        place = sym (ap (λ z. place_of z name) directory-is ∙ knows.place_is);
        maker = refl;
        stays = λ q. sym (stays-same q);
        used = sym used-now;
        part = sym made.there;
        body = sym (ap (λ t. if t then body else b.body name) (same-name name name refl));
        deed = sym (ap (λ t. if t then InTable 1 else b.deed name) (same-name name name refl));
        held = held-now;
        brought = λ to sender. sym (brought-same name to sender);
        kept = λ p. sym (kept-same name p);
        hand = sym (l.hand_is name);
        begins = begins-now;
        steps = λ h. sym (ap (λ u. plays u calls name (frames_to w' h 1)) used-now ∙ steps-same true name h);
        ranges = λ h. sym (ap (λ u. flat_map (range_steps_of u calls name) (frames_to w' h 1)) used-now
            ∙ ranges-same true name h);
        placed = λ q. sym (placed-same name q);
        news = news-now;
      }

  -- All holds of each name.
  pub made-names : (y : Name) → NameHolds script b.pids (is_born_in w') y (name_sight script w' hand' made_beside y)
  made-names y =
      elim (name-cases y name) [
        | inl e ↦
            subst (λ z. NameHolds script b.pids (is_born_in w') z (name_sight script w' hand' made_beside z)) (sym e)
            (name-stays script b.pids (is_born_in w) (is_born_in w') name _ _ more own-seen
            (name-at-leader script b.pids (is_born_in w) name (other_sight name) (maker-now name) body new-body
            steps_now
            ranges_now goes-as-before name-unused))
        | inr other ↦
            name-stays script b.pids (is_born_in w) (is_born_in w') y _ _ more (other-seen y other) (maker-now y)
      ]
