-- The leader sends the first call of its hand to the name's owner, or to the node that has the range of its number.
use Rattle.std.proofs.Common.{◌≡◌, ◌≢◌, ℕ, ◌≤◌, Bool, true, false, ◌&&◌, if◌then◌else◌, List, [], ◌∷◌, ◌++◌, filter, flat_map, nat_eq, Contains, cond, Some, refl, ap, sym, subst, ◌∙◌, inl, inr, arith, append-nil, None}
use Rattle.std.proofs.lemmas.Bool.{cases_eq, eq-eqb, ne_eqb, false≢true}
use Rattle.std.proofs.lemmas.List.Elements.{Contains-append_cases, Contains-append_left, Contains-push}
use Rattle.pico_base.specs.declared.call.Home.{Home}
use Rattle.pico_base.specs.declared.call.Home.TheVariants as homes
use Rattle.pico_base.specs.declared.numbers.Name.{Name}
use Rattle.pico_base.specs.declared.numbers.Name.TheVariants.{Proc, Msg, Sem}
use Rattle.pico_base.specs.declared.script.Script.{Script}
use Rattle.pico_base.specs.Home.{home_of}
use Rattle.rpc_frame.specs.declared.asked.Asked.{Asked}
use Rattle.rpc_frame.specs.declared.frame.Frame.{Frame}
use Rattle.rpc_frame.specs.declared.frame.Frame.TheVariants as frames
use Rattle.node_model.specs.declared.held.Held.{Held}
use Rattle.node_model.specs.declared.held.Held.TheVariants.{Request}
use Rattle.node_model.specs.Kinds.{for_kind, is_object}
use Rattle.node_model.specs.Directory.{Directory, At, place_of, held_for, is_parcel_with}
use Rattle.world_model.specs.Node.{Node}
use Rattle.world_model.specs.World.{World}
use Rattle.world_laws.specs.Places.{CallPlace, SentByPlace, SentByRange, Beside, call_in}
use Rattle.world_laws.specs.Sights.{node_of, directory_of, is_born_in}
use Rattle.world_laws.specs.Plays.{Hold, Has, Lacks, Done, PlayStep, IsNeeded, steps_if, play_on, plays, is_there, is_has, is_home_on, is_call_on, needs_by, believed, is_lasting, told}
use Rattle.world_laws.specs.Names.{NameSight, name_sight, NameHolds, PlaysTo, RangeStep, IsSentThere, IsLeased, range_steps_of, range_steps_if, is_sent_by_range, leases_first, belief_of, maker_tells, IsTold, SaysOf, is_nowhere}
use Rattle.world_laws.specs.Callers.{only_if, is_in_stream, frame_at, is_held_at, is_about, is_item_about, may_be_in, IsBetween}
use Rattle.world_laws.specs.Invariant.{IsLeading, HoldsOwing}
use Rattle.world_laws.proofs.Named.{name-cases, same-name-is, other-name}
use Rattle.world_laws.proofs.Played.{play-append}
use Rattle.world_laws.proofs.Sends.{frame_if}
use Rattle.world_laws.proofs.Stays.{name-stays}
use Rattle.world_laws.proofs.Changes.{Changes, frames_if}
use Rattle.rule_laws.proofs.CallMoves.{same-but-call}
use Rattle.route_laws.proofs.hand.HandMoves.{DirectoryRoutes, IsRouted, is_routed, routed_sight, routed-keeps, routed-born, name-routed, name-not-routed, held-for-none, IsCallOf}
use Rattle.entry_laws.specs.Entering.{is_used_name}
use Rattle.world_laws.specs.Cancels.{Owing, is_held_cancel_of}
use Rattle.world_laws.proofs.Following.{both-true}

-- ---- homes

-- a call on a name is on no other
pub on-no-other : (home : Home) (name : Name) → is_home_on name home ≡ true → (m : Name) → m ≢ name
    → is_home_on m home ≡ false
on-no-other (homes.At other) name on m d = other-name m other (λ e. d (e ∙ sym (same-name-is name other on)))
on-no-other (homes.Removal other) name on m d = other-name m other (λ e. d (e ∙ sym (same-name-is name other on)))
on-no-other homes.Own name on m d = refl
on-no-other homes.Keys name on m d = refl
on-no-other homes.Parent name on m d = refl

-- ---- the directory

-- the leader's directory is the same
pub same-routes : (x : ℕ) (d d' : Directory) → d' ≡ d → IsLeading d → DirectoryRoutes x d d'
same-routes x d d' e leads =
    record {
      same = same-but-call x d d' e leads;
      ranges_are = λ kind. ap (λ (z : Directory). for_kind z.ranges kind) e;
      kept_is = λ name pid. ap (λ z. filter (is_parcel_with name) (held_for z (Proc pid))) e;
    }

-- ---- the name

-- by the name's place, or by the range of its number
abbrev pub sent_as : Bool → ℕ → CallPlace
sent_as true h = SentByPlace h
sent_as false h = SentByRange h

-- Sent by place it needs the deed there. Sent by range it does where it is on a queue or a set that is used, and no
-- removal.
abbrev pub needs_as : Bool → Bool → Bool
needs_as true lasting = true
needs_as false lasting = lasting

-- sent by place it finds the deed at that node, and by range it asks for none
abbrev pub steps_as : Bool → ℕ → ℕ → List PlayStep
steps_as true h y = steps_if (nat_eq y h) IsNeeded
steps_as false h y = []

-- by range it is sent to the maker
abbrev pub ranges_as : Bool → ℕ → ℕ → List RangeStep
ranges_as true h y = []
ranges_as false h y = range_steps_if (nat_eq y h) IsSentThere

has-is : (hold : Hold) → is_has hold ≡ true → hold ≡ Has
has-is Has h = refl
has-is Lacks h = absurd (false≢true h)
has-is Done h = absurd (false≢true h)

none-there : {A : Type 0} (a : A) → Contains [] a → ⊥
none-there a there = omega (arith, there.1)

leases-first-behind : (ss : List RangeStep) → leases_first ss ≡ true → leases_first (ss ++ IsSentThere ∷ []) ≡ true
leases-first-behind [] h = refl
leases-first-behind (IsLeased ∷ ss) h = leases-first-behind ss h
leases-first-behind (IsSentThere ∷ []) h = refl
leases-first-behind (IsSentThere ∷ IsSentThere ∷ ss) h = leases-first-behind (IsSentThere ∷ ss) h
leases-first-behind (IsSentThere ∷ IsLeased ∷ ss) h = absurd (false≢true h)

-- where the name is for such a call
abbrev pub IsRightFor : Bool → NameSight → ℕ → Type 0
IsRightFor true x h = x.place ≡ Some (At h)
IsRightFor false x h = (x.maker ≡ Some h) × (x.place ≡ None)

module _ (script : Script) (pids : ℕ → ℕ) (born : ℕ → Bool) (name : Name) (x : NameSight)
    (h : NameHolds script pids born name x) (node : ℕ) (low : 2 ≤ node) where
  by-place : x.place ≡ Some (At node) → is_there node (belief_of x) ≡ true
  by-place place =
      ap (λ o. is_there node (believed o (maker_tells x x.maker))) place ∙ eq-eqb node node refl

  told-there : (told_nodes : List ℕ) → x.placed node ≡ told_nodes → is_nowhere (told told_nodes) ≡ false
      → is_object name ≡ true → is_there node (told told_nodes) ≡ true
  told-there [] is somewhere object = absurd (false≢true (sym somewhere))
  told-there (first ∷ others) is somewhere object =
      let says : IsTold pids name x.used x.maker node first =
      h.told node first (subst (λ ns. Contains ns first) (sym is)
      (Contains-append_left (first ∷ []) others first (Contains-push [] first)))
      in eq-eqb first node (says-own name first object says.says)
    where
      says-own : (m : Name) (first : ℕ) → is_object m ≡ true → SaysOf pids m node first → first ≡ node
      says-own (Msg id) first object e = e
      says-own (Sem id) first object e = e
      says-own (Proc pid) first object e = absurd (false≢true object)

  -- a queue or set that is used and isn't known is at the node that made it, which tells so
  by-maker : x.maker ≡ Some node → x.place ≡ None → x.used ≡ true → is_object name ≡ true
      → is_there node (belief_of x) ≡ true
  by-maker makes place used object =
      let belief : belief_of x ≡ told (x.placed node) =
      ap (λ o. believed o (maker_tells x x.maker)) place ∙ ap (λ m. told (maker_tells x m)) makes
      in ap (is_there node) belief
      ∙ told-there (x.placed node) refl (ap is_nowhere (sym belief) ∙ h.believed used) object

  needed-there : is_there node (belief_of x) ≡ true → PlaysTo (x.begins node) (x.steps node ++ IsNeeded ∷ [])
      (is_there node (belief_of x))
  needed-there there =
      let old : PlaysTo (x.begins node) (x.steps node) (is_there node (belief_of x)) = h.plays node low
      in let has : old.last ≡ Has = has-is old.last (old.agrees ∙ there)
      in record {
        last = Has;
        plays = play-append (x.steps node) (IsNeeded ∷ []) (Some (x.begins node))
            ∙ ap (play_on (IsNeeded ∷ [])) (old.plays ∙ ap Some has);
        agrees = sym there;
      }

  plays-same : (y : ℕ) → 2 ≤ y → PlaysTo (x.begins y) (x.steps y ++ []) (is_there y (belief_of x))
  plays-same y low_y =
      subst (λ ss. PlaysTo (x.begins y) ss (is_there y (belief_of x))) (sym (append-nil (x.steps y))) (h.plays y low_y)

  plays-as : (needs : Bool) → (needs ≡ true → is_there node (belief_of x) ≡ true) → (y : ℕ) → 2 ≤ y
      → PlaysTo (x.begins y) (x.steps y ++ steps_as needs node y) (is_there y (belief_of x))
  plays-as false there y low_y = plays-same y low_y
  plays-as true there y low_y =
      elim (cases_eq y node) [
        | inl e ↦
            subst (λ t. PlaysTo (x.begins y) (x.steps y ++ steps_if t IsNeeded) (is_there y (belief_of x)))
            (sym (eq-eqb y node e))
            (subst (λ z. PlaysTo (x.begins z) (x.steps z ++ IsNeeded ∷ []) (is_there z (belief_of x))) (sym e)
            (needed-there (there refl)))
        | inr d ↦
            subst (λ t. PlaysTo (x.begins y) (x.steps y ++ steps_if t IsNeeded) (is_there y (belief_of x)))
            (sym (ne_eqb y node d)) (plays-same y low_y)
      ]

  needed-by : (by lasting : Bool) → IsRightFor by x node
      → (lasting ≡ true → (x.used ≡ true) × (is_object name ≡ true)) → needs_as by lasting ≡ true
      → is_there node (belief_of x) ≡ true
  needed-by true lasting right lasts needs = by-place right
  needed-by false lasting right lasts needs =
      let both = lasts needs in by-maker right.0 right.1 both.0 both.1

  ranged-as : (by : Bool) → IsRightFor by x node → (y : ℕ) → Contains (x.ranges y ++ ranges_as by node y) IsSentThere
      → x.maker ≡ Some y
  ranged-as true right y there =
      h.ranged y (subst (λ ss. Contains ss IsSentThere) (append-nil (x.ranges y)) there)
  ranged-as false right y there =
      elim (Contains-append_cases (x.ranges y) (range_steps_if (nat_eq y node) IsSentThere) IsSentThere there) [
        | inl old ↦ h.ranged y old
        | inr new ↦
            elim (cases_eq y node) [
              | inl e ↦ right.0 ∙ ap Some (sym e)
              | inr d ↦
                  absurd (none-there IsSentThere
                  (subst (λ t. Contains (range_steps_if t IsSentThere) IsSentThere) (ne_eqb y node d) new))
            ]
      ]

  leased-as : (by : Bool) (y : ℕ) → 2 ≤ y → leases_first (x.ranges y ++ ranges_as by node y) ≡ true
  leased-as true y low_y = ap leases_first (append-nil (x.ranges y)) ∙ h.leased y low_y
  leased-as false y low_y = by-test (nat_eq y node)
    where
      by-test : (t : Bool) → leases_first (x.ranges y ++ range_steps_if t IsSentThere) ≡ true
      by-test true = leases-first-behind (x.ranges y) (h.leased y low_y)
      by-test false = ap leases_first (append-nil (x.ranges y)) ∙ h.leased y low_y

  -- all holds of a name that a call was sent for
  pub name-sent-for : (by lasting : Bool) → IsRightFor by x node
      → (lasting ≡ true → (x.used ≡ true) × (is_object name ≡ true))
      → NameHolds script pids born name
      (routed_sight x x.place (steps_as (needs_as by lasting) node) (ranges_as by node))
  name-sent-for by lasting right lasts =
      record {
        parts = h.parts;
        callers = h.callers;
        made = h.made;
        place_fits = h.place_fits;
        tables = h.tables;
        streams = h.streams;
        kept = h.kept;
        in_hand = h.in_hand;
        known = h.known;
        believed = h.believed;
        plays = plays-as (needs_as by lasting) (needed-by by lasting right lasts);
        leader = h.leader;
        told = h.told;
        found = h.found;
        unplaced = h.unplaced;
        ranged = ranged-as by right;
        leased = leased-as by;
        bound = h.bound;
        items = h.items;
      }

-- ---- the move

routed-as : (by : Bool) (h : ℕ) → is_routed (sent_as by h) ≡ true
routed-as true h = refl
routed-as false h = refl

between-as : (by : Bool) (h p : ℕ) (born : ℕ → Bool) → h ≢ 1 → IsBetween p born (sent_as by h)
between-as true h p born other = other
between-as false h p born other = other

held-as : (by : Bool) (h : ℕ) (asked : Asked) (name : Name)
    → [] ≡ only_if (is_held_at (sent_as by h) name) (Request asked)
held-as true h asked name = refl
held-as false h asked name = refl

sent-forward : (asked : Asked) (to sender : ℕ) (t s : Bool)
    → filter (is_about asked.caller to sender) (frames_if s (frame_if t (frames.Forward asked) ++ []))
    ≡ only_if (t && s) (frames.Forward asked)
sent-forward asked to sender true true =
    ap (λ u. cond u (frames.Forward asked ∷ []) []) (eq-eqb asked.caller asked.caller refl)
sent-forward asked to sender true false = refl
sent-forward asked to sender false true = refl
sent-forward asked to sender false false = refl

frames-as : (by : Bool) (h : ℕ) (asked : Asked) (to sender : ℕ)
    → only_if (nat_eq to h && nat_eq sender 1) (frames.Forward asked)
    ≡ only_if (is_in_stream (sent_as by h) asked.caller to sender) (frame_at (sent_as by h) asked)
frames-as true h asked to sender = refl
frames-as false h asked to sender = refl

-- the call needs the deed however it was sent
abbrev pub lasts_on : Bool → Name → Asked → Bool
lasts_on used name asked = used && (is_object name && is_lasting asked)

needed-as : (by lasting : Bool) (h : ℕ) → needs_by lasting (sent_as by h) ≡ needs_as by lasting
needed-as true lasting h = refl
needed-as false lasting h = refl

steps-by : (needs : Bool) (h y : ℕ) → nat_eq y h ≡ true → steps_if needs IsNeeded ++ [] ≡ steps_as needs h y
steps-by true h y e = ap (λ u. steps_if u IsNeeded) (sym e)
steps-by false h y e = refl

no-steps-by : (needs : Bool) (h y : ℕ) → nat_eq y h ≡ false → [] ≡ steps_as needs h y
no-steps-by true h y e = ap (λ u. steps_if u IsNeeded) (sym e)
no-steps-by false h y e = refl

steps-sent : (by used : Bool) (h : ℕ) (call : ℕ → CallPlace) (name : Name) (asked : Asked)
    → is_call_on name asked ≡ true → call asked.caller ≡ sent_as by h → (y : ℕ) (t : Bool) → nat_eq y h ≡ t
    → plays used call name (frame_if t (frames.Forward asked) ++ [])
    ≡ steps_as (needs_as by (lasts_on used name asked)) h y
steps-sent by used h call name asked on at y true e =
    ap (λ u. steps_if (u && needs_by (lasts_on used name asked) (call asked.caller)) IsNeeded ++ []) on
    ∙ ap (λ z. steps_if (needs_by (lasts_on used name asked) z) IsNeeded ++ []) at
    ∙ ap (λ u. steps_if u IsNeeded ++ []) (needed-as by (lasts_on used name asked) h)
    ∙ steps-by (needs_as by (lasts_on used name asked)) h y e
steps-sent by used h call name asked on at y false e = no-steps-by (needs_as by (lasts_on used name asked)) h y e

ranges-sent : (by used : Bool) (h : ℕ) (call : ℕ → CallPlace) (name : Name) (asked : Asked)
    → is_call_on name asked ≡ true → call asked.caller ≡ sent_as by h → (y : ℕ) (t : Bool) → nat_eq y h ≡ t
    → flat_map (range_steps_of used call name) (frame_if t (frames.Forward asked) ++ []) ≡ ranges_as by h y
ranges-sent false used h call name asked on at y true e =
    ap (λ u. range_steps_if (u && is_sent_by_range (call asked.caller)) IsSentThere ++ []) on
    ∙ ap (λ z. range_steps_if (is_sent_by_range z) IsSentThere ++ []) at
    ∙ ap (λ u. range_steps_if u IsSentThere) (sym e)
ranges-sent false used h call name asked on at y false e = ap (λ u. range_steps_if u IsSentThere) (sym e)
ranges-sent true used h call name asked on at y true e =
    ap (λ u. range_steps_if (u && is_sent_by_range (call asked.caller)) IsSentThere ++ []) on
    ∙ ap (λ z. range_steps_if (is_sent_by_range z) IsSentThere ++ []) at
ranges-sent true used h call name asked on at y false e = refl

lasts-split : (used : Bool) (name : Name) (asked : Asked) → lasts_on used name asked ≡ true
    → (used ≡ true) × (is_object name ≡ true)
lasts-split used name asked e =
    let first = both-true used (is_object name && is_lasting asked) e
    in let second = both-true (is_object name) (is_lasting asked) first.1
    in (first.0, second.0)

module _ (script : Script) (w : World) (asked : Asked) (rest : List Held) (b : Beside)
    {owes : Owing} (holds : HoldsOwing script w (Request asked ∷ rest) owes b) (asks : IsCallOf script asked)
    (name : Name) (on : is_call_on name asked ≡ true) (by : Bool) (h : ℕ)
    (low_to : 2 ≤ h) (home : may_be_in (sent_as by h) (home_of asked.pid asked.call) asked.call ≡ true)
    (right : IsRightFor by (name_sight script w (Request asked ∷ rest) b name) h)
    (w' : World) (c : Changes script 1 w w' (node_of w 1) [] ((h, frames.Forward asked) ∷ []) []) where
  abbrev sends : List (ℕ × Frame)
  sends = (h, frames.Forward asked) ∷ []

  abbrev n : Node
  n = node_of w 1

  abbrev calls-now : ℕ → CallPlace
  calls-now = call_in b.call asked.caller (sent_as by h)

  at-now : calls-now asked.caller ≡ sent_as by h
  at-now = ap (λ t. if t then sent_as by h else b.call asked.caller) (eq-eqb asked.caller asked.caller refl)

  abbrev lasting : Bool
  lasting = lasts_on (is_used_name b.kernel name) name asked

  other-node : h ≢ 1
  other-node e = omega (arith, e, low_to)

  same-directory-now : directory_of w' ≡ directory_of w
  same-directory-now = ap (λ (m : Node). m.leader.directory) c.here

  is-routed : IsRouted script w w' b asked (sent_as by h) n sends
  is-routed =
      record {
        routed = routed-as by h;
        home = home;
        between = between-as by h asked.caller (is_born_in w) other-node;
        frames = λ to sender. sent-forward asked to sender (nat_eq to h) (nat_eq sender 1)
            ∙ frames-as by h asked to sender;
        held = λ m. ap (λ d. filter (is_item_about asked.caller) (held_for d m)) same-directory-now
            ∙ held-for-none script w asked rest b holds asks m
            ∙ held-as by h asked m;
        held_cancels = λ m. ap (λ d. filter (is_held_cancel_of asked.caller) (held_for d m)) same-directory-now;
        caller = record { number = refl; pid = refl; stage = refl; caller = refl; leases = refl };
        deeds = refl;
        queue_keys = refl;
        set_keys = refl;
        node = holds.nodes 1 (omega arith) (let low = asks.low in let high = asks.high in omega (arith, low, high));
        directory = same-routes asked.caller (directory_of w) (directory_of w') same-directory-now holds.leading;
        plain = (refl, tt);
        no_birth = (refl, tt);
        no_lease = λ kind. (refl, tt);
        of_no_other = λ y d. (ne_eqb asked.caller y (λ e. d (sym e)), tt);
        no_cancel = λ y. (refl, tt);
        may_be = (refl, tt);
        to_others = (other-node, tt);
      }

  place-same : (m : Name) → place_of (directory_of w') m ≡ place_of (directory_of w) m
  place-same m = ap (λ d. place_of d m) same-directory-now

  names : (m : Name) → NameHolds script b.pids (is_born_in w') m
      (name_sight script w' rest (record b { call = calls-now }) m)
  names m =
      elim (name-cases m name) [
        | inr d ↦
            name-not-routed script w asked rest b holds asks (sent_as by h) w' n sends c is-routed m (place-same m)
            (on-no-other (home_of asked.pid asked.call) name on m d, tt)
        | inl e ↦
            subst (λ y. NameHolds script b.pids (is_born_in w') y
            (name_sight script w' rest (record b { call = calls-now }) y)) (sym e)
            (name-stays script b.pids (is_born_in w) (is_born_in w') name _ _
            (routed-born script w asked rest b holds asks (sent_as by h) w' n sends c is-routed)
            (name-routed script w asked rest b holds asks (sent_as by h) w' n sends c is-routed name
            (place_of (directory_of w) name) (steps_as (needs_as by lasting) h) (ranges_as by h) (place-same name)
            (record {
              no_deed = (refl, tt);
              no_checkpoint = (refl, tt);
              no_place = (refl, tt);
              no_news = λ made. (refl, tt);
            })
            (λ y. steps-sent by (is_used_name b.kernel name) h calls-now name asked on at-now y (nat_eq y h) refl)
            (λ y. ranges-sent by (is_used_name b.kernel name) h calls-now name asked on at-now y (nat_eq y h) refl))
            (name-sent-for script b.pids (is_born_in w) name
            (name_sight script w (Request asked ∷ rest) b name) (holds.names name) h low_to by lasting right
            (lasts-split (is_used_name b.kernel name) name asked)))
      ]

  -- The call is on its way to the owner, or to the maker.
  pub forward-keeps : HoldsOwing script w' rest owes (record b { call = calls-now })
  forward-keeps =
      routed-keeps script w asked rest b holds asks (sent_as by h) w' n sends c is-routed names
