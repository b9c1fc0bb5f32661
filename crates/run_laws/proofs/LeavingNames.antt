-- A node leaves: names are seen as before, but for the Leaving, in front of which each name that the node made is known
-- or told.
use Rattle.std.proofs.Common.{◌≡◌, ◌≢◌, ◌⊎◌, ℕ, ◌≤◌, Bool, true, false, ◌&&◌, not, List, [], ◌∷◌, ◌++◌, filter, flat_map, nat_eq, Option, Some, None, is_some, refl, ap, sym, subst, ◌∙◌, inl, inr, arith, append-nil}
use Rattle.std.proofs.lemmas.Bool.{and_parts, cases_eq, eq-eqb, eqb-true, ne_eqb, false≢true}
use Rattle.pico_base.specs.declared.call.Home.TheVariants as homes
use Rattle.pico_base.specs.declared.numbers.Name.{Name}
use Rattle.pico_base.specs.declared.numbers.Name.TheVariants.{Proc}
use Rattle.pico_base.specs.declared.script.Script.{Script}
use Rattle.pico_base.specs.Home.{home_of}
use Rattle.rpc_frame.specs.declared.frame.Frame.{Frame}
use Rattle.kernel_model.specs.Script.{IsSoundScript}
use Rattle.entry_laws.specs.Entering.{is_used_name}
use Rattle.node_model.specs.Directory.{held_for, is_parcel_with, maker, place_of, stays}
use Rattle.node_model.specs.Kinds.{get_named}
use Rattle.world_model.specs.Census.{brings}
use Rattle.world_model.specs.Node.{Node, can_run}
use Rattle.world_model.specs.World.{World, node_count}
use Rattle.world_laws.specs.Places.{Beside}
use Rattle.world_laws.specs.Sights.{directory_of, frames_to, is_born_in, node_of, stage_of}
use Rattle.world_laws.specs.Plays.{NeedsPlace, begin, believed, finds_place, has_any, is_checkpoint_of, news, news_if, placed_in, plays, told}
use Rattle.world_laws.specs.Names.{NameHolds, NameSight, comes_to, forker, held_at, is_maker, is_nowhere, maker_tells, name_sight, range_steps_of}
use Rattle.world_laws.specs.Invariant.{Holds}
use Rattle.world_laws.proofs.Changes.{Changes, filter-is-list-map, flat_map-is-list-map, frames_if, made-after, made-same, only-stayed, read-same, sent, stayed}
use Rattle.world_laws.proofs.Stays.{SameName, name-stays}
use Rattle.rule_laws.proofs.own.Runs.{Starts}
use Rattle.route_laws.proofs.sent.Bounced.{found-at-end, no-news-no-place, none-known}
use Rattle.run_laws.proofs.LeavingStarts.{leaving_beside, leaving_frame, leaving_node, leaving_sends, leaving_world, leaving-born, leaving-changes, leaving-directory, leaving-ranges, leaving-steps}

-- the maker that passes the test is this one
maker-is : (o : Option ℕ) (q : ℕ) → is_maker o q ≡ true → o ≡ Some q
maker-is None q h = absurd (false≢true h)
maker-is (Some p) q h = ap (λ y. Some y) (eqb-true p q h)

module _ (script : Script) (sound : IsSoundScript script) (w : World) (b : Beside) (holds : Holds script w [] b) (p : ℕ)
    (low : 1 ≤ p) (high : p ≤ node_count script) (can : can_run (node_of w p) ≡ true) (s : Starts script w b p)
    (other : p ≢ 1) (home : home_of (node_of w p).pid s.call ≡ homes.Parent) (m : Name) where
  abbrev n : Node
  n = leaving_node script sound w b holds p low high can s other home

  abbrev frame : Frame
  frame = leaving_frame script sound w b holds p low high can s other home

  abbrev sends : List (ℕ × Frame)
  sends = leaving_sends script sound w b holds p low high can s other home

  abbrev next : World
  next = leaving_world script sound w b holds p low high can s other home

  abbrev moved : Beside
  moved = leaving_beside script sound w b holds p low high can s other home

  abbrev changes : Changes script p w next n [] sends []
  changes = leaving-changes script sound w b holds p low high can s other home

  same-there : directory_of next ≡ directory_of w
  same-there = leaving-directory script sound w b holds p low high can s other home

  abbrev x : NameSight
  x = name_sight script w [] b m

  old : NameHolds script b.pids (is_born_in w) m x
  old = holds.names m

  -- ---- the news

  abbrev made : ℕ → Bool
  made y = is_used_name b.kernel m && is_maker (maker (directory_of w) m) y

  news-now : (y : ℕ) → (name_sight script next [] moved m).news y ≡ x.news y ++ news m (made y) (sent p sends 1 y)
  news-now y =
      ap (λ d. news m (is_used_name b.kernel m && is_maker (maker d m) y) (frames_to next 1 y)) same-there
      ∙ made-after script p w next n [] sends [] changes
      (λ t q fs. news m (is_used_name b.kernel m && is_maker (maker (directory_of w) m) q) fs)
      (λ t q. flat_map-is-list-map _) 1 y
      ∙ ap (λ ns. ns ++ news m (made y) (sent p sends 1 y))
      (stayed script p w next n [] sends [] changes
      (λ t q fs. news m (is_used_name b.kernel m && is_maker (maker (directory_of w) m) q) fs)
      (λ t q. flat_map-is-list-map _) tt 1 y)

  -- a name that the node made is known, or some news tells it
  some-news : made p ≡ true → is_some x.place ≡ false → x.news p ≡ [] → ⊥
  some-news made_here unknown none =
      let parts = and_parts (is_used_name b.kernel m) (is_maker (maker (directory_of w) m) p) made_here
      in false≢true
      (sym (old.believed parts.0)
      ∙ ap (λ o. is_nowhere (believed x.place (maker_tells x o))) (maker-is x.maker p parts.1)
      ∙ ap (λ o. is_nowhere (believed o (x.placed p))) (none-known x.place unknown)
      ∙ ap (λ ns. is_nowhere (told ns)) (no-news-no-place m (made p) (frames_to w 1 p) none))

  found-here : (t : Bool) → made p ≡ t
      → finds_place (is_some x.place) (x.news p ++ (news_if t NeedsPlace ++ [])) ≡ true
  found-here true e =
      found-at-end (is_some x.place) (x.news p) (old.found p (omega (arith, low, other))) (some-news e)
  found-here false e =
      ap (finds_place (is_some x.place)) (append-nil (x.news p)) ∙ old.found p (omega (arith, low, other))

  found-by : (q : ℕ) → 2 ≤ q → (q ≡ p) ⊎ (q ≢ p)
      → finds_place (is_some x.place) (x.news q ++ news m (made q) (sent p sends 1 q)) ≡ true
  found-by q up (inl e) =
      subst (λ y. finds_place (is_some x.place) (x.news y ++ news m (made y) (sent p sends 1 y)) ≡ true) (sym e)
      (ap (λ t. finds_place (is_some x.place) (x.news p ++ news m (made p) (frames_if t (frame ∷ []))))
      (eq-eqb p p refl)
      ∙ found-here (made p) refl)
  found-by q up (inr d) =
      ap (λ t. finds_place (is_some x.place) (x.news q ++ news m (made q) (frames_if t (frame ∷ []))))
      (ne_eqb q p d)
      ∙ ap (finds_place (is_some x.place)) (append-nil (x.news q))
      ∙ old.found q up

  found-now : (q : ℕ) → 2 ≤ q → finds_place (is_some x.place) ((name_sight script next [] moved m).news q) ≡ true
  found-now q up = ap (finds_place (is_some x.place)) (news-now q) ∙ found-by q up (cases_eq q p)

  -- ---- all else

  comes-same : (y : ℕ) → comes_to script next m y ≡ comes_to script w m y
  comes-same y =
      ap (λ fs. not (nat_eq (forker script y) 1) && has_any fs)
      (made-same script p w next n [] sends [] changes (λ t q fs. filter (is_checkpoint_of m) fs)
      (λ t q. filter-is-list-map (is_checkpoint_of m)) tt (refl, tt) y (forker script y))

  begins-same : (y : ℕ) → begin (stage_of w y) (is_some (held_at w m y)) (comes_to script w m y)
      ≡ begin (stage_of next y) (is_some (held_at next m y)) (comes_to script next m y)
  begins-same y =
      ap (begin (stage_of w y) (is_some (held_at w m y))) (sym (comes-same y))
      ∙ sym (read-same script p w next n [] sends [] changes
      (λ (z : Node). begin z.stage (is_some (get_named z.deeds m)) (comes_to script next m y))
      (ap (λ stage. begin stage (is_some (held_at w m p)) (comes_to script next m y)) (sym s.stage)) y)

  abbrev news_sight : NameSight
  news_sight = record x { news = (name_sight script next [] moved m).news }

  name-seen : SameName news_sight (name_sight script next [] moved m)
  name-seen =
      record {
        place = sym (ap (λ d. place_of d m) same-there);
        maker = sym (ap (λ d. maker d m) same-there);
        stays = λ y. sym (ap (λ d. stays d y) same-there);
        used = refl;
        part = refl;
        body = refl;
        deed = refl;
        held = λ y. sym (read-same script p w next n [] sends [] changes (λ (z : Node). get_named z.deeds m) refl y);
        brought = λ t q. sym (made-same script p w next n [] sends [] changes (λ t q fs. filter (brings m) fs)
            (λ t q. filter-is-list-map (brings m)) tt (refl, tt) t q);
        kept = λ pid. sym (ap (λ d. filter (is_parcel_with m) (held_for d (Proc pid))) same-there);
        hand = refl;
        begins = begins-same;
        steps = λ y. sym (only-stayed script p w next n [] sends [] changes (λ t q fs. plays x.used moved.call m fs)
            (λ t q. flat_map-is-list-map _) (refl, tt) y 1
            ∙ leaving-steps script sound w b holds p low high can s other home x.used m y
            ∙ stayed script p w next n [] sends [] changes (λ t q fs. plays x.used b.call m fs)
            (λ t q. flat_map-is-list-map _) tt y 1);
        ranges = λ y. sym (only-stayed script p w next n [] sends [] changes
            (λ t q fs. flat_map (range_steps_of x.used moved.call m) fs) (λ t q. flat_map-is-list-map _) (refl, tt) y 1
            ∙ leaving-ranges script sound w b holds p low high can s other home x.used m y
            ∙ stayed script p w next n [] sends [] changes (λ t q fs. flat_map (range_steps_of x.used b.call m) fs)
            (λ t q. flat_map-is-list-map _) tt y 1);
        placed = λ y. sym (made-same script p w next n [] sends [] changes (λ t q fs. placed_in m fs)
            (λ t q. flat_map-is-list-map _) tt (refl, tt) 1 y);
        news = λ y. refl;
      }

  -- The name keeps all.
  pub leaving-name : NameHolds script b.pids (is_born_in next) m (name_sight script next [] moved m)
  leaving-name =
      name-stays script b.pids (is_born_in w) (is_born_in next) m _ _
      (leaving-born script sound w b holds p low high can s other home) name-seen
      (record {
        parts = old.parts;
        callers = old.callers;
        made = old.made;
        place_fits = old.place_fits;
        tables = old.tables;
        streams = old.streams;
        kept = old.kept;
        in_hand = old.in_hand;
        known = old.known;
        believed = old.believed;
        plays = old.plays;
        leader = old.leader;
        told = old.told;
        found = found-now;
        unplaced = old.unplaced;
        ranged = old.ranged;
        leased = old.leased;
        bound = old.bound;
        items = old.items;
      })
