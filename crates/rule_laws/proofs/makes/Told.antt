-- The place of a new name is told by the node that made it, or placed at once where that is the leader: what is
-- believed of it, and what is on its way about it.
use Rattle.std.proofs.Common.{◌≡◌, ◌≢◌, ◌⊎◌, ℕ, ◌≤◌, Bool, true, false, ◌&&◌, if◌then◌else◌, List, [], ◌∷◌, ◌++◌, flat_map, nat_eq, Contains, Some, None, is_none, is_some, refl, ap, sym, subst, ◌∙◌, inl, inr, append-nil}
use Rattle.std.proofs.lemmas.Bool.{cases_eq, eq-eqb, eqb-true, ne_eqb, false≢true}
use Rattle.kernel_laws.proofs.Members.{contains-none}
use Rattle.pico_base.specs.declared.call.Call.{Call}
use Rattle.pico_base.specs.declared.numbers.Kind.{Kind}
use Rattle.pico_base.specs.declared.numbers.Name.{Name}
use Rattle.pico_base.specs.declared.reply.Entry.{Entry}
use Rattle.pico_base.specs.declared.script.Event.{Event}
use Rattle.pico_base.specs.declared.script.Script.{Script}
use Rattle.rpc_frame.specs.declared.frame.Frame.{Frame}
use Rattle.rpc_frame.specs.declared.frame.Frame.TheVariants as frames
use Rattle.entry_laws.specs.Entering.{is_used_name}
use Rattle.node_model.specs.Directory.{destination_of, items_of, maker, place_of, stays}
use Rattle.world_model.specs.Node.{Node}
use Rattle.world_model.specs.World.{World}
use Rattle.world_laws.specs.Places.{Beside, CallPlace}
use Rattle.world_laws.specs.Sights.{directory_of, frames_to, is_born_in}
use Rattle.world_laws.specs.Plays.{News, Somewhere, Tells, believed, finds_place, news, news_if, placed_in, plays, told}
use Rattle.world_laws.specs.Names.{HasMakerThatStays, IsSentThere, IsTold, NameHolds, NameSight, SaysOf, belief_of, is_maker, leases_first, maker_tells, name_sight, range_steps_of}
use Rattle.world_laws.specs.Invariant.{Holds}
use Rattle.world_laws.specs.Ways.{IsHere, knows_parent, way_sight}
use Rattle.world_laws.proofs.Changes.{Changes, IsListMap, MakesNothing, flat_map-is-list-map, frames_if, made-after, nothing-sent, only-stayed, sent}
use Rattle.world_laws.proofs.Named.{same-name}
use Rattle.world_laws.proofs.Played.{flat_map-append}
use Rattle.world_laws.proofs.Sends.{frame_if, frames_with}
use Rattle.rule_laws.proofs.own.NewNames.{only-in}
use Rattle.rule_laws.proofs.own.Objects.{here-way, no-news, two-or-more}
use Rattle.rule_laws.proofs.makes.Directories.{IsAfter, place_if, tells_if}
use Rattle.rule_laws.proofs.makes.FirstUsed.{first-still, plays-unsent, sent-before}
use Rattle.rule_laws.proofs.makes.NewOnes.{nothing-known, nothing-told}
use Rattle.rule_laws.proofs.makes.Ready.{calls-now, left-same, made_beside, name-is-ready, ready-name}
use Rattle.rule_laws.proofs.makes.Sources.{Origin, Source, directory_by, takes_by}

-- what was sent is what was sent first, and then the rest
pub sent-append : (p : ℕ) (xs ys : List (ℕ × Frame)) (to sender : ℕ)
    → sent p (xs ++ ys) to sender ≡ sent p xs to sender ++ sent p ys to sender
sent-append p xs ys to sender = by-test (nat_eq sender p)
  where
    by-test : (t : Bool)
        → frames_if t (frames_with to (xs ++ ys)) ≡ frames_if t (frames_with to xs) ++ frames_if t (frames_with to ys)
    by-test true = flat_map-append (λ (s : ℕ × Frame). frame_if (nat_eq to s.0) s.1) xs ys
    by-test false = refl

-- what is told of it
abbrev pub told_if : Bool → Bool → ℕ → List ℕ
told_if t u at = if t then [] else (if u then at ∷ [] else [])

-- and what that is for what needs the place
abbrev pub news_told : Bool → Bool → List News
news_told t u = if t then [] else (if u then Tells ∷ [] else [])

frames-of-none : (u : Bool) → frames_if u [] ≡ []
frames-of-none true = refl
frames-of-none false = refl

placed-told : (p q : ℕ) (name : Name) (at : ℕ) (t : Bool)
    → placed_in name (sent p (tells_if t name at) 1 q) ≡ told_if t (nat_eq q p) at
placed-told p q name at true = ap (placed_in name) (frames-of-none (nat_eq q p))
placed-told p q name at false = by-test (nat_eq q p)
  where
    by-test : (u : Bool)
        → placed_in name (frames_if u (frames.Placed name at ∷ [])) ≡ (if u then at ∷ [] else [])
    by-test true = ap (λ v. (if v then at ∷ [] else []) ++ []) (same-name name name refl)
    by-test false = refl

told-news : (p q : ℕ) (name : Name) (flag : Bool) (at : ℕ) (t : Bool)
    → news name flag (sent p (tells_if t name at) 1 q) ≡ news_told t (nat_eq q p)
told-news p q name flag at true = ap (news name flag) (frames-of-none (nat_eq q p))
told-news p q name flag at false = by-test (nat_eq q p)
  where
    by-test : (u : Bool)
        → news name flag (frames_if u (frames.Placed name at ∷ [])) ≡ (if u then Tells ∷ [] else [])
    by-test true = ap (λ v. news_if v Tells ++ []) (same-name name name refl)
    by-test false = refl

module _ (script : Script) (w : World) (b : Beside) (holds : Holds script w [] b) (p : ℕ) (call : Call) (kind : Kind)
    (number : ℕ) (numbers : List ℕ) (o : Origin) (e : Event) (s : Source script w b p call kind number numbers o e)
    (next : World) (n : Node) (births : List (ℕ × Frame)) (entries : List Entry) (name : Name) (at : ℕ)
    (c : Changes script p w next n (takes_by kind o) (births ++ tells_if (nat_eq p 1) name at) entries)
    (a : IsAfter (directory_of w) (directory_by (directory_of w) kind o) (directory_of next) name
    (place_if (nat_eq p 1) at)) (unused : is_used_name b.kernel name ≡ false)
    (made : maker (directory_by (directory_of w) kind o) name ≡ Some p) where
  abbrev sends : List (ℕ × Frame)
  sends = births ++ tells_if (nat_eq p 1) name at

  abbrev calls : ℕ → CallPlace
  calls = calls-now script w b holds p call kind number numbers o e s next n sends entries c

  abbrev x : NameSight
  x = ready-name script w b holds p call kind number numbers o e s next n sends entries c name

  known : NameHolds script b.pids (is_born_in w) name x
  known = name-is-ready script w b holds p call kind number numbers o e s next n sends entries c name

  -- what a list map that nothing of a birth is makes of what is on its way now
  after-told : {A : Type 0} (f : ℕ → ℕ → List Frame → List A) → ((to sender : ℕ) → IsListMap (f to sender))
      → ((first : ℕ) → f p 1 (frames.Lease kind first ∷ []) ≡ []) → MakesNothing (λ to. f to p) births
      → (to sender : ℕ)
      → f to sender (frames_to next to sender)
      ≡ f to sender (frames_to w to sender) ++ f to sender (sent p (tells_if (nat_eq p 1) name at) to sender)
  after-told f m none none_born to sender =
      let g : IsListMap (f to sender) = m to sender
      in made-after script p w next n (takes_by kind o) sends entries c f m to sender
      ∙ ap (λ ys. ys ++ f to sender (sent p sends to sender))
      (left-same script w b holds p call kind number numbers o e s next n sends entries c f m none to sender)
      ∙ ap (λ fs. f to sender (frames_to w to sender) ++ f to sender fs)
      (sent-append p births (tells_if (nat_eq p 1) name at) to sender)
      ∙ ap (λ ys. f to sender (frames_to w to sender) ++ ys)
      (g.of_both (sent p births to sender) (sent p (tells_if (nat_eq p 1) name at) to sender))
      ∙ ap (λ ys. f to sender (frames_to w to sender)
      ++ (ys ++ f to sender (sent p (tells_if (nat_eq p 1) name at) to sender)))
      (nothing-sent f m p births none_born to sender)

  -- what is on its way of it is told by its maker alone
  pub placed-now : MakesNothing (λ to fs. placed_in name fs) births → (q : ℕ)
      → placed_in name (frames_to next 1 q) ≡ told_if (nat_eq p 1) (nat_eq q p) at
  placed-now none q =
      after-told (λ to sender fs. placed_in name fs) (λ to sender. flat_map-is-list-map _) (λ first. refl) none 1 q
      ∙ ap (λ ys. ys ++ placed_in name (sent p (tells_if (nat_eq p 1) name at) 1 q))
      (nothing-told script b.pids (is_born_in w) name x known unused q)
      ∙ placed-told p q name at (nat_eq p 1)

  -- the maker stays
  pub maker-stays : stays (directory_of w) p ≡ true
  maker-stays = stays-here (cases_eq p 1)
    where
      stays-here : (p ≡ 1) ⊎ (p ≢ 1) → stays (directory_of w) p ≡ true
      stays-here (inl first) = ap (stays (directory_of w)) first ∙ holds.leading.stays
      stays-here (inr other) =
          let way : IsHere (way_sight w p) =
          here-way script b.pids p (knows_parent script w b.pids p) (way_sight w p) s.stage
          (holds.ways p (two-or-more p s.low other) s.high)
          in ap is_none way.shows.has_parting

  maker-now : maker (directory_of next) name ≡ Some p
  maker-now = a.makers name ∙ made

  module _ (b' : Beside) (used : is_used_name b'.kernel name
      ≡ true) (none_placed : MakesNothing (λ to fs. placed_in name fs) births) where
    abbrev moved : Beside
    moved = made_beside script w b holds p call kind number numbers o e s next n sends entries c b'

    abbrev y : NameSight
    y = name_sight script next [] moved name

    -- it is believed there
    pub belief-now : belief_of y ≡ Somewhere at
    belief-now =
        ap (λ place. believed place (maker_tells y y.maker)) a.itself
        ∙ ap (λ m. believed (place_if (nat_eq p 1) at) (maker_tells y m)) maker-now
        ∙ ap (believed (place_if (nat_eq p 1) at)) (placed-now none_placed p)
        ∙ by-test (nat_eq p 1)
      where
        by-test : (t : Bool) → believed (place_if t at) (told_if t (nat_eq p p) at) ≡ Somewhere at
        by-test true = refl
        by-test false = ap (λ u. told (if u then at ∷ [] else [])) (eq-eqb p p refl)

    -- it is told rightly
    pub told-now : SaysOf b'.pids name p at → (p ≢ 1 → at ≢ 1) → (sender node : ℕ)
        → Contains (placed_in name (frames_to next 1 sender)) node
        → IsTold b'.pids name (is_used_name b'.kernel name) (maker (directory_of next) name) sender node
    told-now says other sender node there =
        by-test (nat_eq p 1) (nat_eq sender p) refl refl
        (subst (λ vs. Contains vs node) (placed-now none_placed sender) there)
      where
        is-told : p ≢ 1 → IsTold b'.pids name (is_used_name b'.kernel name) (maker (directory_of next) name) p at
        is-told d = record { used = used; maker = maker-now; says = says; other = other d }

        by-test : (t u : Bool) → nat_eq p 1 ≡ t → nat_eq sender p ≡ u → Contains (told_if t u at) node
            → IsTold b'.pids name (is_used_name b'.kernel name) (maker (directory_of next) name) sender node
        by-test true u g i in_it = absurd (contains-none node in_it)
        by-test false false g i in_it = absurd (contains-none node in_it)
        by-test false true g i in_it =
            subst (λ v. IsTold b'.pids name (is_used_name b'.kernel name) (maker (directory_of next) name) sender v)
            (only-in at node in_it)
            (subst (λ v. IsTold b'.pids name (is_used_name b'.kernel name) (maker (directory_of next) name) v at)
            (sym (eqb-true sender p i))
            (is-told (λ same. false≢true (sym g ∙ eq-eqb p 1 same))))

    -- until it is known its maker stays
    pub unplaced-now : place_of (directory_of next) name ≡ None
        → HasMakerThatStays (maker (directory_of next) name) (stays (directory_of next))
    unplaced-now none =
        record { node = p; makes = maker-now; stays = ap is_none (a.partings p) ∙ maker-stays }

    flag-now : (q : ℕ) → (is_used_name b'.kernel name && is_maker (maker (directory_of next) name) q) ≡ nat_eq p q
    flag-now q =
        ap (λ u. u && is_maker (maker (directory_of next) name) q) used
        ∙ ap (λ m. is_maker m q) maker-now

    news-now : ((flag : Bool) → MakesNothing (λ to fs. news name flag fs) births) → (flag : Bool) (q : ℕ)
        → news name flag (frames_to next 1 q)
        ≡ news name flag (frames_to w 1 q) ++ news_told (nat_eq p 1) (nat_eq q p)
    news-now none flag q =
        after-told (λ to sender fs. news name flag fs) (λ to sender. flat_map-is-list-map _) (λ first. refl) (none flag)
        1 q
        ∙ ap (λ ys. news name flag (frames_to w 1 q) ++ ys) (told-news p q name flag at (nat_eq p 1))

    old-found : (q : ℕ) → 2 ≤ q → finds_place false (news name false (frames_to w 1 q)) ≡ true
    old-found q low =
        ap (λ t. finds_place false (news name (t && is_maker (maker (directory_of w) name) q) (frames_to w 1 q)))
        (sym unused)
        ∙ ap (λ place. finds_place (is_some place) (x.news q))
        (sym (nothing-known script b.pids (is_born_in w) name x known unused))
        ∙ known.found q low

    no-news-here : p ≢ 1 → news name true (frames_to w 1 p) ≡ []
    no-news-here other =
        let way : IsHere (way_sight w p) =
        here-way script b.pids p (knows_parent script w b.pids p) (way_sight w p) s.stage
        (holds.ways p (two-or-more p s.low other) s.high)
        in no-news name false (frames_to w 1 p) (nothing-told script b.pids (is_born_in w) name x known unused p)
        way.shows.has_leavings (old-found p (two-or-more p s.low other))

    -- what needs its place finds it
    pub found-now : ((flag : Bool) → MakesNothing (λ to fs. news name flag fs) births) → (q : ℕ) → 2 ≤ q
        → finds_place (is_some (place_of (directory_of next) name))
        (news name (is_used_name b'.kernel name && is_maker (maker (directory_of next) name) q) (frames_to next 1 q))
        ≡ true
    found-now none q low =
        ap (λ place. finds_place (is_some place)
        (news name (is_used_name b'.kernel name && is_maker (maker (directory_of next) name) q)
        (frames_to next 1 q))) a.itself
        ∙ ap (λ flag. finds_place (is_some (place_if (nat_eq p 1) at)) (news name flag (frames_to next 1 q)))
        (flag-now q)
        ∙ ap (finds_place (is_some (place_if (nat_eq p 1) at))) (news-now none (nat_eq p q) q)
        ∙ by-test (nat_eq p 1) refl (cases_eq q p)
      where
        by-test : (t : Bool) → nat_eq p 1 ≡ t → (q ≡ p) ⊎ (q ≢ p)
            → finds_place (is_some (place_if t at))
            (news name (nat_eq p q) (frames_to w 1 q) ++ news_told t (nat_eq q p)) ≡ true
        by-test true g either = refl
        by-test false g (inl same) =
            subst (λ z. finds_place false (news name (nat_eq p z) (frames_to w 1 z) ++ news_told false (nat_eq z p))
            ≡ true) (sym same)
            (ap (λ u. finds_place false (news name u (frames_to w 1 p) ++ news_told false u)) (eq-eqb p p refl)
            ∙ ap (λ ns. finds_place false (ns ++ Tells ∷ []))
            (no-news-here (λ first. false≢true (sym g ∙ eq-eqb p 1 first))))
        by-test false g (inr other) =
            ap (λ u. finds_place false (news name u (frames_to w 1 q) ++ news_told false (nat_eq q p)))
            (ne_eqb p q (λ i. other (sym i)))
            ∙ ap (λ u. finds_place false (news name false (frames_to w 1 q) ++ news_told false u)) (ne_eqb q p other)
            ∙ ap (finds_place false) (append-nil (news name false (frames_to w 1 q)))
            ∙ old-found q low

    ranges-now : MakesNothing (λ to fs. flat_map (range_steps_of true calls name) fs) sends → (q : ℕ)
        → y.ranges q ≡ flat_map (range_steps_of true calls name) (c.left q 1)
    ranges-now none q =
        ap (λ u. flat_map (range_steps_of u calls name) (frames_to next q 1)) used
        ∙ only-stayed script p w next n (takes_by kind o) sends entries c
        (λ t z fs. flat_map (range_steps_of true calls name) fs) (λ t z. flat_map-is-list-map _) none q 1

    ranges-were : (q : ℕ) → x.ranges q ≡ flat_map (range_steps_of false calls name) (c.left q 1)
    ranges-were q = ap (λ u. flat_map (range_steps_of u calls name) (c.left q 1)) unused

    -- a call goes by range to its maker
    pub ranged-now : MakesNothing (λ to fs. flat_map (range_steps_of true calls name) fs) sends → (q : ℕ)
        → Contains (y.ranges q) IsSentThere → maker (directory_of next) name ≡ Some q
    ranged-now none q there =
        a.makers name
        ∙ known.ranged q (subst (λ rs. Contains rs IsSentThere) (sym (ranges-were q))
        (sent-before calls name (c.left q 1) (subst (λ rs. Contains rs IsSentThere) (ranges-now none q) there)))

    -- and no lease with it stands behind one
    pub leased-now : MakesNothing (λ to fs. flat_map (range_steps_of true calls name) fs) sends → (q : ℕ) → 2 ≤ q
        → leases_first (y.ranges q) ≡ true
    leased-now none q low =
        ap leases_first (ranges-now none q)
        ∙ first-still calls name (c.left q 1) (ap leases_first (sym (ranges-were q)) ∙ known.leased q low)

    -- What is on its way of it to another node than its maker's is played as before.
    pub played-elsewhere : (q : ℕ) → q ≢ p
        → plays true calls name (c.left q 1) ≡ plays false calls name (c.left q 1)
    played-elsewhere q d =
        plays-unsent calls name (c.left q 1)
        (λ there. d (some-same q p (sym (known.ranged q
        (subst (λ rs. Contains rs IsSentThere) (sym (ranges-were q)) there)) ∙ made)))
      where
        some-same : (u v : ℕ) → Some u ≡ Some v → u ≡ v
        some-same u v h = cc

    -- nothing is held for it
    pub bound-now : destination_of (place_of (directory_of next) name) ≡ None
    bound-now = ap destination_of a.itself ∙ by-test (nat_eq p 1)
      where
        by-test : (t : Bool) → destination_of (place_if t at) ≡ None
        by-test true = refl
        by-test false = refl

    -- and no item waits
    pub items-now : items_of (place_of (directory_of next) name) ≡ []
    items-now = ap items_of a.itself ∙ by-test (nat_eq p 1)
      where
        by-test : (t : Bool) → items_of (place_if t at) ≡ []
        by-test true = refl
        by-test false = refl
