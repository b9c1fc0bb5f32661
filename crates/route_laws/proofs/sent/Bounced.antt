-- A node sends a call back to the leader that it was sent by the range of a number: its name has gone, and is known
-- to the leader, or the leader is told of it first.
use Rattle.std.proofs.Common.{◌≡◌, ◌≢◌, ◌⊎◌, ℕ, ◌≤◌, Bool, true, false, ◌&&◌, if◌then◌else◌, List, [], ◌∷◌, ◌++◌, Option, Some, None, is_some, refl, ap, sym, subst, ◌∙◌, inl, inr, append-nil}
use Rattle.std.proofs.lemmas.Bool.{cases_eq, eq-eqb, ne_eqb, false≢true}
use Rattle.pico_base.specs.declared.call.Home.{Home}
use Rattle.pico_base.specs.declared.numbers.Name.{Name}
use Rattle.pico_base.specs.declared.script.Script.{Script}
use Rattle.pico_base.specs.Home.{home_of}
use Rattle.rpc_frame.specs.declared.asked.Asked.{Asked}
use Rattle.rpc_frame.specs.declared.frame.Frame.{Frame}
use Rattle.rpc_frame.specs.declared.frame.Frame.TheVariants as frames
use Rattle.node_model.specs.declared.held.Held.TheVariants.{Request}
use Rattle.node_model.specs.Kinds.{is_same_name}
use Rattle.node_model.specs.Directory.{Place, maker}
use Rattle.entry_laws.specs.Entering.{is_used_name}
use Rattle.world_model.specs.Node.{Node}
use Rattle.world_model.specs.World.{World}
use Rattle.world_laws.specs.Places.{CallPlace, InBounce, Beside, call_in}
use Rattle.world_laws.specs.Sights.{node_of, directory_of, frames_to, is_born_in}
use Rattle.world_laws.specs.Plays.{News, NeedsPlace, Tells, believed, finds_place, is_call_on, is_home_on, news, news_if, news_of, placed_by, placed_in, told}
use Rattle.world_laws.specs.Callers.{may_be_in}
use Rattle.world_laws.specs.Names.{NameHolds, NameSight, is_maker, is_nowhere, maker_tells, name_sight}
use Rattle.world_laws.specs.Invariant.{Holds}
use Rattle.world_laws.proofs.Cancels.{may_be_withdrawn}
use Rattle.world_laws.proofs.Changes.{Changes, frames_if, sent}
use Rattle.world_laws.proofs.Named.{same-name, same-name-is}
use Rattle.route_laws.proofs.hand.Routes.{IsOn}
use Rattle.route_laws.proofs.sent.InHand.{HasInHand}
use Rattle.route_laws.proofs.sent.Sent.{GoesOn, IsOnlyNews, name-not-sent, name-with-news, news-now, sent-keeps}

-- ---- news

not-empty : {A : Type 0} (x : A) (xs : List A) → x ∷ xs ≡ [] → ⊥
not-empty x xs h = cc

second-none : {A : Type 0} (xs ys : List A) → xs ++ ys ≡ [] → ys ≡ []
second-none [] ys h = h
second-none (x ∷ xs) ys h = absurd (not-empty x (xs ++ ys) h)

module _ (name : Name) (made : Bool) where
  -- what one frame tells is news
  told-is-news : (frame : Frame) → news_of name made frame ≡ [] → placed_by name frame ≡ []
  told-is-news (frames.Placed other node) h = by-test (is_same_name name other) h
    where
      by-test : (t : Bool) → news_if t Tells ≡ [] → (if t then node ∷ [] else []) ≡ []
      by-test true h = absurd (not-empty Tells [] h)
      by-test false h = refl
  told-is-news frame h = refl

  first-none : (xs ys : List News) → xs ++ ys ≡ [] → xs ≡ []
  first-none [] ys h = refl
  first-none (x ∷ xs) ys h = absurd (not-empty x (xs ++ ys) h)

  -- where no news is on its way no place is told
  pub no-news-no-place : (fs : List Frame) → news name made fs ≡ [] → placed_in name fs ≡ []
  no-news-no-place [] h = refl
  no-news-no-place (frame ∷ fs) h =
      ap (λ ns. ns ++ placed_in name fs)
      (told-is-news frame (first-none (news_of name made frame) (news name made fs) h))
      ∙ no-news-no-place fs (second-none (news_of name made frame) (news name made fs) h)

-- what needs the place at the end finds it where it is known, or some news tells it
pub found-at-end : (known : Bool) (ns : List News) → finds_place known ns ≡ true → (known ≡ false → ns ≡ [] → ⊥)
    → finds_place known (ns ++ NeedsPlace ∷ []) ≡ true
found-at-end true ns h some = refl
found-at-end false [] h some = absurd (some refl refl)
found-at-end false (Tells ∷ ns) h some = refl
found-at-end false (NeedsPlace ∷ ns) h some = absurd (false≢true h)

-- a place that isn't there is None
pub none-known : (place : Option Place) → is_some place ≡ false → place ≡ None
none-known None h = refl
none-known (Some place) h = absurd (false≢true (sym h))

-- a call on a name is on no other
pub call-on : (name : Name) (home : Home) → IsOn name home → (m : Name) → is_home_on m home ≡ is_same_name m name
call-on name home (inl e) m = ap (is_home_on m) e
call-on name home (inr e) m = ap (is_home_on m) e

-- ---- the event

module _ (script : Script) (w : World) (b : Beside) (p : ℕ) (asked : Asked) (g : HasInHand script w b p asked)
    (other : p ≢ 1) (name : Name) (on : IsOn name (home_of asked.pid asked.call))
    (back : may_be_in (InBounce p) (home_of asked.pid asked.call) asked.call ≡ true)
    (never : may_be_withdrawn asked.pid asked.call ≡ false)
    (used : is_used_name b.kernel name ≡ true) (made : maker (directory_of w) name ≡ Some p) (w' : World)
    (c : Changes script p w w' (node_of w p) [] ((1, frames.Bounce asked) ∷ []) []) where
  abbrev frame : Frame
  frame = frames.Bounce asked

  abbrev n : Node
  n = node_of w p

  abbrev calls-now : ℕ → CallPlace
  calls-now = call_in b.call asked.caller (InBounce p)

  abbrev moved : Beside
  moved = record b { call = calls-now }

  abbrev x : NameSight
  x = name_sight script w (Request asked ∷ []) b name

  holds : Holds script w (Request asked ∷ []) b
  holds = g.holds

  name-holds : NameHolds script b.pids (is_born_in w) name x
  name-holds = holds.names name

  goes-back : GoesOn script w b p asked (InBounce p) 1 frame n
  goes-back =
      record {
        on_way = refl;
        frame_is = refl;
        in_stream = λ t q. refl;
        home = back;
        between = other;
        never = never;
        other = λ e. other (sym e);
        about = eq-eqb asked.caller asked.caller refl;
        about_none = λ y d. ne_eqb asked.caller y (λ e. d (sym e));
        plain = refl;
        no_birth = refl;
        no_cancel = λ y. refl;
        no_lease = λ kind. refl;
        may_be = refl;
        caller = record { number = refl; pid = refl; stage = refl; caller = refl; leases = refl };
        deeds = refl;
        leader = refl;
        node = holds.nodes p g.low_node g.high_node;
      }

  only-news : (m : Name) → IsOnlyNews (is_used_name b.kernel m) calls-now m frame
  only-news m = record { no_deed = refl; no_checkpoint = refl; no_place = refl; no_steps = refl; no_ranges = refl }

  abbrev is-made : ℕ → Bool
  is-made y = is_used_name b.kernel name && is_maker (maker (directory_of w) name) y

  -- what isn't known is told by its maker
  some-news : is_some x.place ≡ false → x.news p ≡ [] → ⊥
  some-news unknown none =
      false≢true
      (sym (name-holds.believed used)
      ∙ ap (λ m. is_nowhere (believed x.place (maker_tells x m))) made
      ∙ ap (λ o. is_nowhere (believed o (x.placed p))) (none-known x.place unknown)
      ∙ ap (λ ns. is_nowhere (told ns)) (no-news-no-place name (is-made p) (frames_to w 1 p) none))

  on-it : is_call_on name asked ≡ true
  on-it = call-on name (home_of asked.pid asked.call) on name ∙ same-name name name refl

  found-by : (q : ℕ) → 2 ≤ q → (q ≡ p) ⊎ (q ≢ p)
      → finds_place (is_some x.place) (x.news q ++ news name (is-made q) (sent p ((1, frame) ∷ []) 1 q)) ≡ true
  found-by q low (inl e) =
      ap (λ t. finds_place (is_some x.place) (x.news q ++ news name (is-made q) (frames_if t (frame ∷ []))))
      (eq-eqb q p e)
      ∙ ap (λ t. finds_place (is_some x.place) (x.news q ++ (news_if t NeedsPlace ++ []))) on-it
      ∙ found-at-end (is_some x.place) (x.news q) (name-holds.found q low)
      (λ unknown none. some-news unknown (ap x.news (sym e) ∙ none))
  found-by q low (inr d) =
      ap (λ t. finds_place (is_some x.place) (x.news q ++ news name (is-made q) (frames_if t (frame ∷ []))))
      (ne_eqb q p d)
      ∙ ap (finds_place (is_some x.place)) (append-nil (x.news q))
      ∙ name-holds.found q low

  found-now : (q : ℕ) → 2 ≤ q
      → finds_place (is_some x.place) ((name_sight script w' [] moved name).news q) ≡ true
  found-now q low =
      ap (finds_place (is_some x.place))
      (news-now script w b p asked g (InBounce p) 1 frame n goes-back w' c name (only-news name) q)
      ∙ found-by q low (cases_eq q p)

  names : (m : Name) (t : Bool) → is_same_name m name ≡ t
      → NameHolds script b.pids (is_born_in w') m (name_sight script w' [] moved m)
  names m true e =
      subst (λ y. NameHolds script b.pids (is_born_in w') y (name_sight script w' [] moved y))
      (sym (same-name-is m name e))
      (name-with-news script w b p asked g (InBounce p) 1 frame n goes-back w' c name (only-news name) found-now)
  names m false e =
      name-not-sent script w b p asked g (InBounce p) 1 frame n goes-back w' c m
      (call-on name (home_of asked.pid asked.call) on m ∙ e)

  -- The call is on its way back.
  pub bounced-keeps : Holds script w' [] moved
  bounced-keeps =
      sent-keeps script w b p asked g (InBounce p) 1 frame n goes-back w' c (λ m. names m (is_same_name m name) refl)
