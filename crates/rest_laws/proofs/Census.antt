-- Each used name has one owner, and a number that names nothing has none.
use Rattle.std.proofs.Common.{◌≡◌, ◌≢◌, ℕ, ◌+◌, ◌-◌, ◌≤◌, Bool, true, false, not, ◌&&◌, nat_eq, if◌then◌else◌, List, [], ◌∷◌, length, filter, slice_get, Option, Some, None, is_some, refl, ap, sym, subst, ◌∙◌, arith}
use Rattle.std.specs.Prelude.{count_by}
use Rattle.std.proofs.lemmas.Bool.{eq-eqb, eqb-true, ne_eqb, false≢true}
use Rattle.std.proofs.lemmas.List.Sums.{length-filter}
use Rattle.pico_base.specs.declared.numbers.Name.{Name}
use Rattle.pico_base.specs.declared.script.Script.{Script}
use Rattle.rpc_frame.specs.declared.frame.Frame.{Frame}
use Rattle.entry_laws.specs.Entering.{is_used_name}
use Rattle.number_maps.specs.Maps.{Numbered, get}
use Rattle.number_maps.specs.Rising.{IsRising}
use Rattle.node_model.specs.Bodies.{Body}
use Rattle.node_model.specs.declared.held.Held.{Held}
use Rattle.node_model.specs.Directory.{Place, items_of, is_parcel_with}
use Rattle.world_model.specs.Census.{brings, held_by_leader, holders, on_the_way, one_if, owners, parcels_with}
use Rattle.world_model.specs.Node.{Leader, Node}
use Rattle.world_model.specs.Node.{holds as holds_deed}
use Rattle.world_model.specs.World.{World, node_count}
use Rattle.world_laws.specs.Invariant.{Holds}
use Rattle.world_laws.specs.Names.{NameHolds, IsItemWith, NameSight, OneIf, held_as, is_hand_place, is_kept_for, is_stream_of, name_sight, node_in, forker}
use Rattle.world_laws.specs.Places.{Beside, DeedPlace, Unmade, InTable, InCheckpoint, InGrant, InGiveBack, InLeft, InKept, InHand, InExitTo}
use Rattle.world_laws.specs.Sights.{frames_to, is_born_in}
use Rattle.rest_laws.specs.Laws.{OthersLeadNothing, leader_at}
use Rattle.rest_laws.proofs.Shaped.{HasStream, frames-at-place, holder-in-range, node-at-place, stream-there}
use Rattle.rest_laws.proofs.Sums.{rising-none, rising-one, square-none, square-one, sum-none, sum-one}

-- ---- where a deed counts

abbrev is_table : DeedPlace → Bool
is_table (InTable node) = true
is_table place = false

-- a deed is in a frame
abbrev pub is_way : DeedPlace → Bool
is_way (InCheckpoint c) = true
is_way (InGrant h) = true
is_way (InGiveBack h) = true
is_way (InLeft c) = true
is_way (InExitTo c x) = true
is_way place = false

-- the node that it goes to
abbrev pub way_to : DeedPlace → ℕ
way_to (InCheckpoint c) = c
way_to (InGrant h) = h
way_to (InExitTo c x) = x
way_to place = 1

-- and the one that it comes from
abbrev pub way_from : (ℕ → ℕ) → DeedPlace → ℕ
way_from forks_it (InCheckpoint c) = forks_it c
way_from forks_it (InGiveBack h) = h
way_from forks_it (InLeft c) = c
way_from forks_it place = 1

abbrev is_kept : DeedPlace → Bool
is_kept (InKept c) = true
is_kept place = false

abbrev kept_for : (ℕ → ℕ) → (ℕ → ℕ) → DeedPlace → ℕ
kept_for forks_it pids (InKept c) = pids (forks_it c)
kept_for forks_it pids place = 0

abbrev is_unmade : DeedPlace → Bool
is_unmade Unmade = true
is_unmade place = false

some-if : {A : Type 0} (t : Bool) (a : A) → is_some (if t then Some a else None) ≡ t
some-if true a = refl
some-if false a = refl

table-is : (d : DeedPlace) (body : Body) (h : ℕ) → is_some (held_as d body h) ≡ (is_table d && nat_eq (node_in d) h)
table-is (InTable node) body h = some-if (nat_eq node h) body
table-is Unmade body h = refl
table-is (InCheckpoint c) body h = refl
table-is (InGrant x) body h = refl
table-is (InGiveBack x) body h = refl
table-is (InLeft c) body h = refl
table-is (InKept c) body h = refl
table-is (InHand c) body h = refl
table-is (InExitTo c x) body h = refl

-- such a frame is in one stream alone
pub stream-is : (forks_it : ℕ → ℕ) (d : DeedPlace) (to sender : ℕ)
    → is_stream_of forks_it d to sender ≡ (is_way d && (nat_eq to (way_to d) && nat_eq sender (way_from forks_it d)))
stream-is forks_it (InTable node) to sender = refl
stream-is forks_it Unmade to sender = refl
stream-is forks_it (InCheckpoint c) to sender = refl
stream-is forks_it (InGrant x) to sender = refl
stream-is forks_it (InGiveBack x) to sender = refl
stream-is forks_it (InLeft c) to sender = refl
stream-is forks_it (InKept c) to sender = refl
stream-is forks_it (InHand c) to sender = refl
stream-is forks_it (InExitTo c x) to sender = refl

kept-is : (forks_it pids : ℕ → ℕ) (d : DeedPlace) (pid : ℕ)
    → is_kept_for forks_it pids d pid ≡ (is_kept d && nat_eq (kept_for forks_it pids d) pid)
kept-is forks_it pids (InTable node) pid = refl
kept-is forks_it pids Unmade pid = refl
kept-is forks_it pids (InCheckpoint c) pid = refl
kept-is forks_it pids (InGrant x) pid = refl
kept-is forks_it pids (InGiveBack x) pid = refl
kept-is forks_it pids (InLeft c) pid = refl
kept-is forks_it pids (InKept c) pid = refl
kept-is forks_it pids (InHand c) pid = refl
kept-is forks_it pids (InExitTo c x) pid = refl

-- of the kinds of places a deed has one, where it is anywhere
one-place : (d : DeedPlace) → is_hand_place d ≡ false
    → one_if (is_table d) + (one_if (is_way d) + one_if (is_kept d)) ≡ one_if (not (is_unmade d))
one-place (InHand c) h = absurd (false≢true (sym h))
one-place (InTable node) h = refl
one-place Unmade h = refl
one-place (InCheckpoint c) h = refl
one-place (InGrant x) h = refl
one-place (InGiveBack x) h = refl
one-place (InLeft c) h = refl
one-place (InKept c) h = refl
one-place (InExitTo c x) h = refl

-- ---- one of a kind

one-length : {A : Type 0} (t : Bool) (P : A → Type 0) (xs : List A) → OneIf t P xs → length xs ≡ one_if t
one-length true P xs h = ap length h.only
one-length false P xs h = ap length h

-- a filter keeps one, where there is one
one-counts : {A : Type 0} (t : Bool) (P : A → Type 0) (test : A → Bool) (xs : List A) → OneIf t P (filter test xs)
    → count_by test xs ≡ one_if t
one-counts t P test xs h = sym (length-filter test xs) ∙ one-length t P (filter test xs) h

-- and then something is in the list
pub one-is-some : {A : Type 0} (t : Bool) (P : A → Type 0) (test : A → Bool) (xs : List A) → OneIf t P (filter test xs)
    → t ≡ true → xs ≢ []
one-is-some {A} false P test xs h is none = false≢true is
one-is-some {A} true P test xs h is none = absurd (not-one h.one (sym h.only ∙ ap (filter test) none))
  where
    not-one : (x : A) → x ∷ [] ≡ [] → ⊥
    not-one x e = cc

both-true : (a b : Bool) → a ≡ true → b ≡ true → (a && b) ≡ true
both-true a b g h = rw (g, h) refl

and-false : (t : Bool) → (t && false) ≡ false
and-false true = refl
and-false false = refl

-- ---- the counts

module _ (script : Script) (w : World) (b : Beside) (holds : Holds script w [] b) (others : OthersLeadNothing w)
    (name : Name) where
  abbrev sight : NameSight
  sight = name_sight script w [] b name

  known : NameHolds script b.pids (is_born_in w) name sight
  known = holds.names name

  abbrev deed : DeedPlace
  deed = b.deed name

  abbrev to_place : ℕ
  to_place = way_to deed

  abbrev from_place : ℕ
  from_place = way_from (forker script) deed

  -- a node holds it exactly where it is in the node's table
  held-count : (i : ℕ) (n : Node) → slice_get w.nodes i ≡ Some n
      → one_if (holds_deed n name) ≡ one_if (is_table deed && nat_eq (node_in deed) (i + 1))
  held-count i n there =
      ap one_if
      (ap (λ (m : Node). holds_deed m name) (sym (node-at-place w i n there))
      ∙ ap is_some (known.tables (i + 1)) ∙ table-is deed sight.body (i + 1))

  holders-are : holders name w ≡ one_if (is_table deed)
  holders-are = by-test (is_table deed) refl
    where
      nowhere : is_table deed ≡ false → holders name w ≡ 0
      nowhere none =
          sum-none (λ n. one_if (holds_deed n name)) w.nodes
          (λ i n there. held-count i n there ∙ ap (λ t. one_if (t && nat_eq (node_in deed) (i + 1))) none)

      held-body : (d : DeedPlace) (v : Body) → is_table d ≡ true → held_as d v (node_in d) ≡ Some v
      held-body (InTable node) v h = ap (λ t. if t then Some v else None) (eq-eqb node node refl)
      held-body d v h = absurd (false≢true h)

      somewhere : is_table deed ≡ true → holders name w ≡ 1
      somewhere some =
          let range = holder-in-range script w holds.shape (node_in deed) name sight.body
          (known.tables (node_in deed) ∙ held-body deed sight.body some)
          in let low : 1 ≤ node_in deed = range.0
          in let high : node_in deed ≤ node_count script = range.1
          in let count = let s = holds.shape in s.nodes
          in sum-one (λ n. one_if (holds_deed n name)) w.nodes (node_in deed - 1) 1 (omega (arith, low, high, count))
          (λ i n there d. held-count i n there
          ∙ ap (λ t. one_if (is_table deed && t)) (ne_eqb (node_in deed) (i + 1) (λ e. d (omega (arith, e))))
          ∙ ap one_if (and-false (is_table deed)))
          (λ n there. held-count (node_in deed - 1) n there
          ∙ ap one_if (both-true (is_table deed) (nat_eq (node_in deed) (node_in deed - 1 + 1)) some
          (eq-eqb (node_in deed) (node_in deed - 1 + 1) (omega (arith, low)))))

      by-test : (t : Bool) → is_table deed ≡ t → holders name w ≡ one_if t
      by-test true e = somewhere e
      by-test false e = nowhere e

  -- a stream has one frame with it exactly where it is in that stream
  abbrev in_stream : ℕ → ℕ → Bool
  in_stream to sender = is_way deed && (nat_eq to to_place && nat_eq sender from_place)

  stream-count : (i j : ℕ) → count_by (brings name) (frames_to w (i + 1) (j + 1)) ≡ one_if (in_stream (i + 1) (j + 1))
  stream-count i j =
      one-counts (is_stream_of (forker script) deed (i + 1) (j + 1)) _ (brings name) (frames_to w (i + 1) (j + 1))
      (known.streams (i + 1) (j + 1))
      ∙ ap one_if (stream-is (forker script) deed (i + 1) (j + 1))

  placed-count : (i j : ℕ) (fs : List Frame) → frames_to w (i + 1) (j + 1) ≡ fs
      → count_by (brings name) fs ≡ one_if (in_stream (i + 1) (j + 1))
  placed-count i j fs is = ap (count_by (brings name)) (sym is) ∙ stream-count i j

  sent-are : on_the_way (brings name) w.streams ≡ one_if (is_way deed)
  sent-are = by-test (is_way deed) refl
    where
      nowhere : is_way deed ≡ false → on_the_way (brings name) w.streams ≡ 0
      nowhere none =
          square-none (count_by (brings name)) w.streams
          (λ i j. placed-count i j _ (frames-at-place w i j)
          ∙ ap (λ t. one_if (t && (nat_eq (i + 1) to_place && nat_eq (j + 1) from_place))) none)

      apart : (i j : ℕ) → 1 ≤ to_place → 1 ≤ from_place → (i ≡ to_place - 1 → j ≢ from_place - 1)
          → in_stream (i + 1) (j + 1) ≡ false
      apart i j low low_from d =
          ap (λ t. is_way deed && t) (by-row (nat_eq (i + 1) to_place) refl) ∙ and-false (is_way deed)
        where
          by-row : (t : Bool) → nat_eq (i + 1) to_place ≡ t → (t && nat_eq (j + 1) from_place) ≡ false
          by-row false e = refl
          by-row true e =
              let row = eqb-true (i + 1) to_place e
              in ne_eqb (j + 1) from_place (λ g. d (omega (arith, row)) (omega (arith, g)))

      there : is_way deed ≡ true → HasStream w to_place from_place
      there some =
          stream-there w to_place from_place
          (one-is-some (is_stream_of (forker script) deed to_place from_place) _ (brings name)
          (frames_to w to_place from_place) (known.streams to_place from_place)
          (stream-is (forker script) deed to_place from_place
          ∙ both-true (is_way deed) (nat_eq to_place to_place && nat_eq from_place from_place) some
          (both-true (nat_eq to_place to_place) (nat_eq from_place from_place) (eq-eqb to_place to_place refl)
          (eq-eqb from_place from_place refl))))

      somewhere : is_way deed ≡ true → on_the_way (brings name) w.streams ≡ 1
      somewhere some =
          let s : HasStream w to_place from_place = there some
          in let low = s.low
          in let low_from = s.low_from
          in let first : to_place - 1 + 1 ≡ to_place = omega (arith, low)
          in let second : from_place - 1 + 1 ≡ from_place = omega (arith, low_from)
          in square-one (count_by (brings name)) w.streams (to_place - 1) (from_place - 1) 1 s.row s.column
          (λ i j d. placed-count i j _ (frames-at-place w i j) ∙ ap one_if (apart i j low low_from d))
          (placed-count (to_place - 1) (from_place - 1) _ (frames-at-place w (to_place - 1) (from_place - 1))
          ∙ ap one_if
          (both-true (is_way deed) (nat_eq (to_place - 1 + 1) to_place && nat_eq (from_place - 1 + 1) from_place) some
          (both-true (nat_eq (to_place - 1 + 1) to_place) (nat_eq (from_place - 1 + 1) from_place)
          (eq-eqb (to_place - 1 + 1) to_place first) (eq-eqb (from_place - 1 + 1) from_place second))))

      by-test : (t : Bool) → is_way deed ≡ t → on_the_way (brings name) w.streams ≡ one_if t
      by-test true e = somewhere e
      by-test false e = nowhere e

  -- the leader holds one parcel with it exactly where it is in one
  abbrev places : Numbered Place
  places =
      let l : Leader = leader_at w 1
      in l.directory.places.processes

  abbrev kept_pid : ℕ
  kept_pid = kept_for (forker script) b.pids deed

  abbrev IsWithDeed : Held → Type 0
  IsWithDeed item = IsItemWith name sight.body (b.pids (node_in deed)) item

  parcel-count : (pid : ℕ) (o : Option Place) → get places pid ≡ o
      → count_by (is_parcel_with name) (items_of o) ≡ one_if (is_kept deed && nat_eq kept_pid pid)
  parcel-count pid o there =
      one-counts (is_kept_for (forker script) b.pids deed pid) IsWithDeed (is_parcel_with name) (items_of o)
      (subst
      (λ v. OneIf (is_kept_for (forker script) b.pids deed pid) IsWithDeed (filter (is_parcel_with name) (items_of v)))
      there (known.kept pid))
      ∙ ap one_if (kept-is (forker script) b.pids deed pid)

  abbrev count : ℕ × Place → ℕ
  count e = count_by (is_parcel_with name) (items_of (Some e.1))

  parcels-are : parcels_with name places ≡ one_if (is_kept deed)
  parcels-are = by-test (is_kept deed) refl
    where
      rises : IsRising places
      rises = let l = holds.leading in l.processes

      nowhere : is_kept deed ≡ false → parcels_with name places ≡ 0
      nowhere none =
          rising-none count places rises
          (λ pid v there. parcel-count pid (Some v) there ∙ ap (λ t. one_if (t && nat_eq kept_pid pid)) none)

      here : is_kept deed ≡ true → (o : Option Place) → get places kept_pid ≡ o
          → count_by (is_parcel_with name) (items_of o) ≡ 1
      here some o there =
          parcel-count kept_pid o there
          ∙ ap one_if (both-true (is_kept deed) (nat_eq kept_pid kept_pid) some (eq-eqb kept_pid kept_pid refl))

      found : is_kept deed ≡ true → (o : Option Place) → get places kept_pid ≡ o → parcels_with name places ≡ 1
      found some None there = let none = here some None there in absurd (omega (arith, none))
      found some (Some u) there =
          rising-one count places kept_pid u 1 rises there (here some (Some u) there)
          (λ pid v at d. parcel-count pid (Some v) at
          ∙ ap (λ t. one_if (is_kept deed && t)) (ne_eqb kept_pid pid (λ e. d (sym e)))
          ∙ ap one_if (and-false (is_kept deed)))

      by-test : (t : Bool) → is_kept deed ≡ t → parcels_with name places ≡ one_if t
      by-test true e = found e (get places kept_pid) refl
      by-test false e = nowhere e

  held-are : held_by_leader name w ≡ one_if (is_kept deed)
  held-are =
      let first = let p = holds.pids in (p.nodes 1 (λ none. let one = p.first in omega (arith, one, none))).1
      in let count = let s = holds.shape in s.nodes
      in sum-one (λ n. parcels_with name n.leader.directory.places.processes) w.nodes 0 (one_if (is_kept deed))
      (omega (arith, first, count))
      (λ i n there d. ap (λ (l : Leader). parcels_with name l.directory.places.processes)
      (ap (λ (m : Node). m.leader) (sym (node-at-place w i n there)) ∙ others (i + 1) (λ e. d (omega (arith, e)))))
      (λ n there. ap (λ (m : Node). parcels_with name m.leader.directory.places.processes)
      (sym (node-at-place w 0 n there)) ∙ parcels-are)

  -- ---- the census

  not-in-hand : is_hand_place deed ≡ false
  not-in-hand = by-test IsWithDeed (is_hand_place deed) refl known.in_hand
    where
      not-one : {A : Type 0} (x : A) → [] ≡ x ∷ [] → ⊥
      not-one x e = cc

      by-test : (P : Held → Type 0) (t : Bool) → is_hand_place deed ≡ t → OneIf t P [] → is_hand_place deed ≡ false
      by-test P false e one = e
      by-test P true e one = absurd (not-one one.one one.only)

  used-is : not (is_unmade deed) ≡ is_used_name b.kernel name
  used-is = by-test (is_used_name b.kernel name) refl
    where
      unmade-is : (d : DeedPlace) → is_unmade d ≡ true → d ≡ Unmade
      unmade-is Unmade h = refl
      unmade-is d h = absurd (false≢true h)

      used-made : is_used_name b.kernel name ≡ true → (t : Bool) → is_unmade deed ≡ t → not t ≡ true
      used-made used false e = refl
      used-made used true e = absurd (false≢true (sym (known.made.0 (unmade-is deed e)) ∙ used))

      by-test : (t : Bool) → is_used_name b.kernel name ≡ t → not (is_unmade deed) ≡ t
      by-test false e = ap (λ d. not (is_unmade d)) (known.made.1 e)
      by-test true e = used-made e (is_unmade deed) refl

  -- A name has one owner where the kernel has used its number, and none where it hasn't.
  pub owners-are : owners name w ≡ one_if (is_used_name b.kernel name)
  owners-are =
      let table = holders-are
      in let way = sent-are
      in let kept = held-are
      in let one = one-place deed not-in-hand
      in let used = ap one_if used-is
      in omega (arith, table, way, kept, one, used)
