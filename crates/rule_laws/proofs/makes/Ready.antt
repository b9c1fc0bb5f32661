-- A call takes its number, and the frame that brought that is gone: what is left on its way, and what holds of each
-- name then. Nothing is on its way for the call any more.
use Rattle.std.proofs.Common.{◌≡◌, ◌≢◌, ◌⊎◌, ℕ, Bool, true, false, ◌&&◌, not, if◌then◌else◌, List, [], ◌∷◌, ◌++◌, filter, flat_map, nat_eq, Contains, Option, None, is_none, is_some, refl, ap, sym, subst, ◌∙◌, inl, inr}
use Rattle.std.specs.List.{AllByRecursion}
use Rattle.std.proofs.lemmas.Bool.{ne_eqb}
use Rattle.std.proofs.lemmas.List.Elements.{Contains-append_right}
use Rattle.pico_base.specs.declared.call.Call.{Call}
use Rattle.pico_base.specs.declared.numbers.Kind.{Kind}
use Rattle.pico_base.specs.declared.numbers.Name.{Name}
use Rattle.pico_base.specs.declared.numbers.Name.TheVariants.{Proc}
use Rattle.pico_base.specs.declared.reply.Entry.{Entry}
use Rattle.pico_base.specs.declared.script.Event.{Event}
use Rattle.pico_base.specs.declared.script.Script.{Script}
use Rattle.rpc_frame.specs.declared.frame.Frame.{Frame}
use Rattle.rpc_frame.specs.declared.frame.Frame.TheVariants as frames
use Rattle.entry_laws.specs.Entering.{is_used_name}
use Rattle.node_model.specs.Bodies.{Body, body_in}
use Rattle.node_model.specs.Directory.{Directory, Place, is_parcel_with, maker, maker_in, with_range}
use Rattle.node_model.specs.Kinds.{for_kind, is_same_kind, kind_of, number_of}
use Rattle.world_model.specs.Census.{brings}
use Rattle.world_model.specs.Node.{Node}
use Rattle.world_model.specs.World.{World}
use Rattle.world_laws.specs.Places.{Beside, CallPlace, Idle, call_in}
use Rattle.world_laws.specs.Sights.{directory_of, frames_to, is_born_in, stage_of}
use Rattle.world_laws.specs.Plays.{begin, has_any, is_checkpoint_of, news, placed_in, plays}
use Rattle.world_laws.specs.Names.{IsLeased, IsSentThere, NameHolds, NameSight, RangeStep, comes_to, forker, held_at, is_maker, leases_first, leases_name, name_sight, range_steps_if, range_steps_of}
use Rattle.world_laws.specs.Callers.{is_about}
use Rattle.world_laws.specs.Invariant.{Holds}
use Rattle.world_laws.specs.Ranges.{KindHolds, is_given, is_in_lease, kind_sight}
use Rattle.world_laws.proofs.Changes.{Changes, IsListMap, MakesNothing, filter-is-list-map, flat_map-is-list-map, frames_if, made-before, made-same, only-stayed, read-same, stayed, taken}
use Rattle.world_laws.proofs.Frames.{all-weaker, no-checkpoint, no-deed, no-news, no-places, no-ranges, no-steps, plays-of-others, ranges-of-all-others, IsSameBut}
use Rattle.world_laws.proofs.LeftAlone.{AreNotAbout}
use Rattle.world_laws.proofs.NewRanges.{maker-elsewhere, unmade-next, upcoming_in}
use Rattle.world_laws.proofs.Stays.{SameName}
use Rattle.rule_laws.proofs.own.Objects.{for-other, for-with, kind-is}
use Rattle.rule_laws.proofs.makes.Directories.{IsAfter}
use Rattle.rule_laws.proofs.makes.NewOnes.{name-ready}
use Rattle.rule_laws.proofs.makes.Sources.{Comes, InLease, Next, Origin, Source, directory_by, takes_by}

-- ---- frames

-- nothing is made of a frame with numbers that makes nothing
pub nothing-by : {A : Type 0} (kind : Kind) (f : ℕ → List Frame → List A)
    → ((first : ℕ) → f 1 (frames.Lease kind first ∷ []) ≡ []) → (o : Origin) → MakesNothing f (takes_by kind o)
nothing-by kind f none InLease = tt
nothing-by kind f none (Comes first) = (none first, tt)
nothing-by kind f none Next = tt

append-alone : {A : Type 0} (xs ys : List A) → xs ++ ys ≡ xs → ys ≡ []
append-alone [] ys h = h
append-alone (x ∷ xs) ys h = append-alone xs ys (tail-same x (xs ++ ys) xs h)
  where
    tail-same : {A : Type 0} (x : A) (ys zs : List A) → x ∷ ys ≡ x ∷ zs → ys ≡ zs
    tail-same x ys zs h = cc

-- ---- makers

module _ (script : Script) (w : World) (b : Beside) (holds : Holds script w [] b) (kind : Kind) (m : Name) where
  abbrev d : Directory
  d = directory_of w

  abbrev mid : Directory
  mid = with_range d kind 1

  abbrev were : List ℕ
  were = for_kind d.ranges kind

  -- with one more range
  makers-next : (t s : Bool) → is_same_kind kind (kind_of m) ≡ t → is_in_lease (number_of m) (upcoming_in were) ≡ s
      → (maker d m ≡ maker mid m) ⊎ ((is_used_name b.kernel m ≡ false) × (maker d m ≡ None))
  makers-next false s e g =
      inl (sym (ap (λ rs. maker_in rs (number_of m)) (for-other d.ranges kind (kind_of m) (were ++ 1 ∷ []) e)))
  makers-next true false e away =
      let same : kind ≡ kind_of m = kind-is kind (kind_of m) e
      in inl
      (sym (ap (λ y. maker_in (for_kind mid.ranges y) (number_of m)) (sym same)
      ∙ ap (λ rs. maker_in rs (number_of m)) (for-with d.ranges kind (were ++ 1 ∷ []))
      ∙ maker-elsewhere were 1 (number_of m) away
      ∙ ap (λ y. maker_in (for_kind d.ranges y) (number_of m)) same))
  makers-next true true e inside =
      let same : kind ≡ kind_of m = kind-is kind (kind_of m) e
      in let unmade : maker d m ≡ None =
      ap (λ y. maker_in (for_kind d.ranges y) (number_of m)) (sym same) ∙ unmade-next were (number_of m) inside
      in let numbers : KindHolds (is_born_in w) (kind_sight w b.kernel (kind_of m)) = holds.kinds (kind_of m)
      in inr (
        numbers.used (number_of m)
            ∙ ap (is_given (kind_sight w b.kernel (kind_of m)) (number_of m)) unmade,
        unmade,
      )

  -- a name's maker is the same, or it had none, and nothing has its number
  pub makers-by : (o : Origin) → (maker d m ≡ maker (directory_by d kind o) m)
      ⊎ ((is_used_name b.kernel m ≡ false) × (maker d m ≡ None))
  makers-by InLease = inl refl
  makers-by (Comes first) = inl refl
  makers-by Next =
      makers-next (is_same_kind kind (kind_of m)) (is_in_lease (number_of m) (upcoming_in were)) refl refl

-- ---- what a lease that came is for a name

all-leased : (xs ys : List RangeStep) → AllByRecursion (λ r. r ≡ IsLeased) xs
    → leases_first (xs ++ ys) ≡ leases_first ys
all-leased [] ys all = refl
all-leased (x ∷ xs) ys all = ap (λ r. leases_first (r ∷ (xs ++ ys))) all.0 ∙ all-leased xs ys all.1

-- only a lease is taken
leased-taken : (used : Bool) (call : ℕ → CallPlace) (m : Name) (p : ℕ) (kind : Kind) (o : Origin) (h : ℕ)
    → AllByRecursion (λ r. r ≡ IsLeased) (flat_map (range_steps_of used call m) (taken p (takes_by kind o) h 1))
leased-taken used call m p kind InLease h = none (nat_eq h p)
  where
    none : (t : Bool) → AllByRecursion (λ r. r ≡ IsLeased) (flat_map (range_steps_of used call m) (frames_if t []))
    none true = tt
    none false = tt
leased-taken used call m p kind Next h = none (nat_eq h p)
  where
    none : (t : Bool) → AllByRecursion (λ r. r ≡ IsLeased) (flat_map (range_steps_of used call m) (frames_if t []))
    none true = tt
    none false = tt
leased-taken used call m p kind (Comes first) h = one (nat_eq h p) (leases_name m kind first)
  where
    step-is : (u : Bool) → AllByRecursion (λ r. r ≡ IsLeased) (range_steps_if u IsLeased ++ [])
    step-is true = (refl, tt)
    step-is false = tt

    one : (t u : Bool)
        → AllByRecursion (λ r. r ≡ IsLeased)
        (flat_map (range_steps_of used call m) (frames_if t (frames.Lease kind first ∷ [])))
    one true u = step-is (leases_name m kind first)
    one false u = tt

-- ---- the event

module _ (script : Script) (w : World) (b : Beside) (holds : Holds script w [] b) (p : ℕ) (call : Call) (kind : Kind)
    (number : ℕ) (numbers : List ℕ) (o : Origin) (e : Event) (s : Source script w b p call kind number numbers o e)
    (next : World) (n : Node) (sends : List (ℕ × Frame)) (entries : List Entry)
    (c : Changes script p w next n (takes_by kind o) sends entries) where
  -- its call is under way no more
  abbrev pub calls-now : ℕ → CallPlace
  calls-now = call_in b.call p Idle

  -- the calls of others are where they were
  pub others-same : IsSameBut p b.call calls-now
  others-same y d = ap (λ t. if t then Idle else b.call y) (ne_eqb p y (λ g. d (sym g)))

  -- nothing of it is left on its way
  pub left-alone : (to sender : ℕ) → filter (is_about p to sender) (c.left to sender) ≡ []
  left-alone to sender =
      append-alone (filter (is_about p to sender) (taken p (takes_by kind o) to sender))
      (filter (is_about p to sender) (c.left to sender))
      (sym (made-before script p w next n (takes_by kind o) sends entries c
      (λ t q fs. filter (is_about p t q) fs) (λ t q. filter-is-list-map (is_about p t q)) to sender)
      ∙ s.about to sender)

  -- what a frame with numbers is nothing for has stayed
  pub left-same : {A : Type 0} (f : ℕ → ℕ → List Frame → List A) → ((to sender : ℕ) → IsListMap (f to sender))
      → ((first : ℕ) → f p 1 (frames.Lease kind first ∷ []) ≡ []) → (to sender : ℕ)
      → f to sender (c.left to sender) ≡ f to sender (frames_to w to sender)
  left-same f m none to sender =
      stayed script p w next n (takes_by kind o) sends entries c f m (nothing-by kind (f p) none o) to sender

  -- so the play of a name is as it was, but for what is sent
  pub left-steps : (used : Bool) (m : Name) (h : ℕ)
      → plays used calls-now m (c.left h 1) ≡ plays used b.call m (frames_to w h 1)
  left-steps used m h =
      plays-of-others used b.call calls-now p others-same m h 1 (c.left h 1) (left-alone h 1)
      ∙ left-same (λ t q fs. plays used b.call m fs) (λ t q. flat_map-is-list-map _) (λ first. refl) h 1

  -- the leases and the calls by range that are left of a name
  abbrev pub ranges-left : Name → ℕ → List RangeStep
  ranges-left m h = flat_map (range_steps_of (is_used_name b.kernel m) calls-now m) (c.left h 1)

  -- the name where its number is made ready
  abbrev pub ready-name : Name → NameSight
  ready-name m =
      record (name_sight script w [] b m) {
        maker = maker (directory_by (directory_of w) kind o) m;
        ranges = ranges-left m;
      }

  ranges-were : (m : Name) (h : ℕ) → flat_map (range_steps_of (is_used_name b.kernel m) b.call m) (frames_to w h 1)
      ≡ flat_map (range_steps_of (is_used_name b.kernel m) b.call m) (taken p (takes_by kind o) h 1) ++ ranges-left m h
  ranges-were m h =
      made-before script p w next n (takes_by kind o) sends entries c
      (λ t q fs. flat_map (range_steps_of (is_used_name b.kernel m) b.call m) fs) (λ t q. flat_map-is-list-map _) h 1
      ∙ ap (λ rs. flat_map (range_steps_of (is_used_name b.kernel m) b.call m) (taken p (takes_by kind o) h 1) ++ rs)
      (sym (ranges-of-all-others (is_used_name b.kernel m) b.call calls-now p others-same m h 1 (c.left h 1)
      (left-alone h 1)))

  -- all holds of each name so
  pub name-is-ready : (m : Name) → NameHolds script b.pids (is_born_in w) m (ready-name m)
  name-is-ready m =
      name-ready script b.pids (is_born_in w) m (name_sight script w [] b m)
      (maker (directory_by (directory_of w) kind o) m) (ranges-left m) (makers-by script w b holds kind m o)
      (λ h there. subst (λ rs. Contains rs IsSentThere) (sym (ranges-were m h))
      (Contains-append_right (flat_map (range_steps_of (is_used_name b.kernel m) b.call m) (taken p
      (takes_by kind o) h 1)) (ranges-left m h)
      IsSentThere there))
      (λ h first. sym (all-leased (flat_map (range_steps_of (is_used_name b.kernel m) b.call m) (taken p
      (takes_by kind o) h 1))
      (ranges-left m h) (leased-taken (is_used_name b.kernel m) b.call m p kind o h))
      ∙ ap leases_first (sym (ranges-were m h)) ∙ first)
      (holds.names m)

  -- where nothing has a name it doesn't matter who makes it
  flag-same : (m : Name) (q : ℕ)
      → (is_used_name b.kernel m && is_maker (maker (directory_of w) m) q)
      ≡ (is_used_name b.kernel m && is_maker (maker (directory_by (directory_of w) kind o) m) q)
  flag-same m q =
      elim (makers-by script w b holds kind m o) [
        | inl same ↦ ap (λ x. is_used_name b.kernel m && is_maker x q) same
        | inr new ↦
            ap (λ t. t && is_maker (maker (directory_of w) m) q) new.0
            ∙ sym (ap (λ t. t && is_maker (maker (directory_by (directory_of w) kind o) m) q) new.0)
      ]

  -- ---- a name that no frame is about

  -- What stands beside the world afterwards: its call is over.
  abbrev pub made_beside : Beside → Beside
  made_beside b' = record b' { call = calls-now }

  -- it is seen with this body where it is held, and else as when its number is ready
  pub other-seen : (b' : Beside) (name : Name)
      (place : Option Place) (m : Name) (part body : Body) (held : ℕ → Option Body)
      → IsAfter (directory_of w) (directory_by (directory_of w) kind o) (directory_of next) name place → m ≢ name
      → is_used_name b'.kernel m ≡ is_used_name b.kernel m → b'.deed m ≡ b.deed m → part ≡ body_in b'.kernel m
      → body ≡ b'.body m
      → ((q : ℕ) → held q ≡ held_at next m q) → ((q : ℕ) → is_some (held q) ≡ is_some (held_at w m q))
      → n.stage ≡ stage_of w p → AreNotAbout m sends
      → SameName (record (ready-name m) { part = part; body = body; held = held })
      (name_sight script next [] (made_beside b') m)
  other-seen b' name place m part body held a other used deed_is part_is body_is held_is still stage none =
      record {
        place = sym (a.others m other);
        maker = sym (a.makers m);
        stays = λ q. sym (ap is_none (a.partings q));
        used = sym used;
        part = part_is;
        body = body_is;
        deed = sym deed_is;
        held = held_is;
        brought = λ to sender. sym (same (λ t q fs. filter (brings m) fs) (λ t q. filter-is-list-map (brings m))
            (λ first. refl) (all-weaker (λ x. no-deed m x.1) sends none) to sender);
        kept = λ q. sym (ap (filter (is_parcel_with m)) (a.held (Proc q)));
        hand = refl;
        begins = begins-same;
        steps = λ h. sym (ap (λ u. plays u calls-now m (frames_to next h 1)) used
            ∙ only-stayed script p w next n (takes_by kind o) sends entries c
            (λ t q fs. plays (is_used_name b.kernel m) calls-now m fs) (λ t q. flat_map-is-list-map _)
            (all-weaker (λ x. no-steps (is_used_name b.kernel m) calls-now m x.1) sends none) h 1
            ∙ left-steps (is_used_name b.kernel m) m h);
        ranges = λ h. sym (ap (λ u. flat_map (range_steps_of u calls-now m) (frames_to next h 1)) used
            ∙ only-stayed script p w next n (takes_by kind o) sends entries c
            (λ t q fs. flat_map (range_steps_of (is_used_name b.kernel m) calls-now m) fs)
            (λ t q. flat_map-is-list-map _)
            (all-weaker (λ x. no-ranges (is_used_name b.kernel m) calls-now m x.1) sends none) h 1);
        placed = λ q. sym (same (λ t q fs. placed_in m fs) (λ t q. flat_map-is-list-map _) (λ first. refl)
            (all-weaker (λ x. no-places m x.1) sends none) 1 q);
        news = news-same;
      }
    where
      same : {A : Type 0} (f : ℕ → ℕ → List Frame → List A) → ((to sender : ℕ) → IsListMap (f to sender))
          → ((first : ℕ) → f p 1 (frames.Lease kind first ∷ []) ≡ []) → MakesNothing (λ to. f to p) sends
          → (to sender : ℕ) → f to sender (frames_to next to sender) ≡ f to sender (frames_to w to sender)
      same f m nothing none_sent to sender =
          made-same script p w next n (takes_by kind o) sends entries c f m (nothing-by kind (f p) nothing o) none_sent
          to sender

      comes-same : (q : ℕ) → comes_to script next m q ≡ comes_to script w m q
      comes-same q =
          ap (λ fs. not (nat_eq (forker script q) 1) && has_any fs)
          (same (λ t y fs. filter (is_checkpoint_of m) fs) (λ t y. filter-is-list-map (is_checkpoint_of m))
          (λ first. refl) (all-weaker (λ x. no-checkpoint m x.1) sends none) q (forker script q))

      begins-same : (q : ℕ) → begin (stage_of w q) (is_some (held_at w m q)) (comes_to script w m q)
          ≡ begin (stage_of next q) (is_some (held_at next m q)) (comes_to script next m q)
      begins-same q =
          ap (begin (stage_of w q) (is_some (held_at w m q))) (sym (comes-same q))
          ∙ ap (λ t. begin (stage_of w q) t (comes_to script next m q)) (sym (still q) ∙ ap is_some (held_is q))
          ∙ ap (λ x. begin x (is_some (held_at next m q)) (comes_to script next m q))
          (sym (read-same script p w next n (takes_by kind o) sends entries c (λ (z : Node). z.stage) stage q))

      news-same : (q : ℕ)
          → news m (is_used_name b.kernel m && is_maker (maker (directory_of w) m) q) (frames_to w 1 q)
          ≡ news m (is_used_name b'.kernel m && is_maker (maker (directory_of next) m) q) (frames_to next 1 q)
      news-same q =
          ap (λ t. news m t (frames_to w 1 q)) (flag-same m q)
          ∙ sym (ap (λ u. news m (u && is_maker (maker (directory_of next) m) q) (frames_to next 1 q)) used
          ∙ ap (λ x. news m (is_used_name b.kernel m && is_maker x q) (frames_to next 1 q)) (a.makers m)
          ∙ same (λ t z fs. news m
          (is_used_name b.kernel m && is_maker (maker (directory_by (directory_of w) kind o) m) z) fs)
          (λ t z. flat_map-is-list-map _) (λ first. refl) (all-weaker (λ x. no-news m _ x.1) sends none) 1 q)
