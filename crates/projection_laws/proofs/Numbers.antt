-- A number that is still to be taken is so in one place alone, and is unused; a used one is in a range.
use Rattle.std.proofs.Common.{◌≡◌, ◌≢◌, ◌⊎◌, ℕ, zero, suc, ◌+◌, ◌-◌, ◌/◌, ◌≤◌, Bool, true, false, ◌&&◌, ◌||◌, cond, not, nat_eq, if◌then◌else◌, List, [], ◌∷◌, ◌++◌, drop, filter, flat_map, slice_get, Option, Some, None, Contains, refl, ap, sym, subst, ◌∙◌, inl, inr, arith}
use Rattle.std.specs.Prelude.{count_by}
use Rattle.std.specs.List.{list_any, range_with_len}
use Rattle.std.proofs.lemmas.Bool.{eq-eqb, eqb-true, false≢true}
use Rattle.std.proofs.lemmas.List.Sums.{count_by-le-length, sum_by-append, sum_by-cons, sum_by-take-drop}
use Rattle.pico_base.specs.declared.call.Call.{Call}
use Rattle.pico_base.specs.declared.numbers.Kind.{Kind}
use Rattle.pico_base.specs.declared.numbers.Kind.TheVariants as kinds
use Rattle.pico_base.specs.declared.script.Script.{Script}
use Rattle.rpc_frame.specs.declared.asked.Asked.{Asked}
use Rattle.rpc_frame.specs.declared.frame.Frame.{Frame}
use Rattle.rpc_frame.specs.declared.frame.Frame.TheVariants as frames
use Rattle.kernel_laws.proofs.Members.{contains-first, contains-later}
use Rattle.kernel_laws.proofs.Plain.{from_some, not_some}
use Rattle.node_model.specs.Directory.{maker_in, range_size}
use Rattle.node_model.specs.Kinds.{for_kind, is_same_kind}
use Rattle.node_model.specs.Leases.{Leases, lease_of}
use Rattle.world_model.specs.Node.{Node}
use Rattle.world_model.specs.World.{World, node_count, stream}
use Rattle.number_maps.specs.Maps.{is_used}
use Rattle.kernel_model.specs.Footprint.{used_of}
use Rattle.waiting_model.specs.Plain.{plain_kernel}
use Rattle.world_laws.specs.Wholes.{HasWhole}
use Rattle.rest_laws.proofs.OneReplay.{used-alike}
use Rattle.world_laws.specs.Callers.{CallHolds, HasCall, HasCallOrNone, HasNoCall, IsJustThere, IsNowhere, asked_of, call_sight, frame_at, is_about, is_in_stream, lease_is_over, only_if}
use Rattle.world_laws.specs.Invariant.{Holds}
use Rattle.world_laws.specs.Places.{AsksLease, Beside, CallPlace, Ends, HasLease, Idle, InAnswer, InAsk, InBounce, InNotOwner, InRequest, IsHeld, IsInHand, Parked, SentByPlace, SentByRange, Waits}
use Rattle.world_laws.specs.Ranges.{KindHolds, KindSight, is_given, is_in_lease, first_if, kind_sight, lease_in}
use Rattle.world_laws.specs.Sights.{frames_to, is_born_in, node_of}
use Rattle.world_laws.proofs.Numbers.{in-range, maker-in-range, maker-of-rest}
use Rattle.world_laws.proofs.Steps.{frames-low}
use Rattle.rule_laws.proofs.Suggestions.{born-in-range}
use Rattle.rest_laws.proofs.Shaped.{node-at-place}
use Rattle.projection_laws.specs.Projection.{HasNode, NumberIsApart, brings_number, frames_that, in_leases, still_to_take}
use Rattle.projection_laws.proofs.Counts.{count-none, frames-most, sum-most}
use Rattle.projection_laws.proofs.Views.{any-there, node-is}

-- ---- a number in a lease

count-first : {A : Type 0} (test : A → Bool) (x : A) (xs : List A)
    → count_by test (x ∷ xs) ≡ cond (test x) 1 0 + count_by test xs
count-first test x xs = sum_by-cons (λ y. cond (test y) 1 0) x xs

-- nothing that passes counts for nothing
count-any : {A : Type 0} (test : A → Bool) (xs : List A) → list_any test xs ≡ false → count_by test xs ≡ 0
count-any {A} test xs none = count-none test xs (λ x there. by-test x there (test x) refl)
  where
    by-test : (x : A) → Contains xs x → (t : Bool) → test x ≡ t → test x ≡ false
    by-test x there false e = e
    by-test x there true e = absurd (false≢true (sym none ∙ any-there test xs x there e))

any-one : (t : Bool) → (let n : ℕ = cond t 1 0 in n) ≤ 1
any-one true = omega arith
any-one false = omega arith

once-behind : (x first n : ℕ) → count_by (nat_eq x) (range_with_len (first + 1) n) ≤ 1
    → count_by (nat_eq x) (first ∷ range_with_len (first + 1) n) ≤ 1
once-behind x first n rest = by-test (nat_eq x first) refl
  where
    both : count_by (nat_eq x) (first ∷ range_with_len (first + 1) n)
        ≡ cond (nat_eq x first) 1 0 + count_by (nat_eq x) (range_with_len (first + 1) n)
    both = count-first (nat_eq x) first (range_with_len (first + 1) n)

    none-behind : x ≡ first → (t : Bool) → list_any (nat_eq x) (range_with_len (first + 1) n) ≡ t → t ≡ false
    none-behind same false e = refl
    none-behind same true e =
        let low = (in-range (first + 1) n x e).0 in absurd (omega (arith, low, same))

    by-test : (t : Bool) → nat_eq x first ≡ t → count_by (nat_eq x) (first ∷ range_with_len (first + 1) n) ≤ 1
    by-test false e =
        let here = ap (λ t. let c : ℕ = cond t 1 0 in c) e in let b = both in omega (arith, here, b, rest)
    by-test true e =
        let here = ap (λ t. let c : ℕ = cond t 1 0 in c) e
        in let b = both
        in let same = eqb-true x first e
        in let none =
        count-any (nat_eq x) (range_with_len (first + 1) n)
        (none-behind same (list_any (nat_eq x) (range_with_len (first + 1) n)) refl)
        in omega (arith, here, b, none)

-- a range has a number once
range-once : (x first n : ℕ) → count_by (nat_eq x) (range_with_len first n) ≤ 1
range-once x first zero = omega arith
range-once x first (suc n) = once-behind x first n (range-once x (first + 1) n)

drop-once : (x first k : ℕ) → count_by (nat_eq x) (drop k (lease_of first)) ≤ 1
drop-once x first k =
    let whole = range-once x first range_size
    in let parts = sum_by-take-drop (λ y. cond (nat_eq x y) 1 0) (lease_of first) k
    in omega (arith, whole, parts)

-- ---- a number in Leases on their way

-- the frames that bring it are as many as the leases on their way that have it
brought-are : (kind : Kind) (number : ℕ) (fs : List Frame)
    → count_by (brings_number kind number) fs ≡ count_by (is_in_lease number) (flat_map (lease_in kind) fs)
brought-are kind number [] = refl
brought-are kind number (f ∷ fs) =
    count-first (brings_number kind number) f fs
    ∙ ap (λ n. cond (brings_number kind number f) 1 0 + n) (brought-are kind number fs)
    ∙ ap (λ n. n + count_by (is_in_lease number) (flat_map (lease_in kind) fs)) (by-frame f)
    ∙ sym (sum_by-append (λ y. cond (is_in_lease number y) 1 0) (lease_in kind f) (flat_map (lease_in kind) fs))
  where
    by-kind : (t : Bool) (first : ℕ) → (let c : ℕ = cond (t && list_any (nat_eq number) (lease_of first)) 1 0 in c)
        ≡ count_by (is_in_lease number) (first_if t first)
    by-kind true first = omega arith
    by-kind false first = refl

    by-frame : (g : Frame) → (let c : ℕ = cond (brings_number kind number g) 1 0 in c)
        ≡ count_by (is_in_lease number) (lease_in kind g)
    by-frame (frames.Lease other first) = by-kind (is_same_kind kind other) first
    by-frame g = refl

about-first : (kind : Kind) (h : ℕ) (f : Frame) (fs : List Frame)
    → flat_map (lease_in kind) fs ≡ flat_map (lease_in kind) (filter (is_about h h 1) fs)
    → flat_map (lease_in kind) (f ∷ fs) ≡ flat_map (lease_in kind) (filter (is_about h h 1) (f ∷ fs))
about-first kind h f fs rest = by-test (is_about h h 1 f) refl
  where
    not-leased : (g : Frame) → is_about h h 1 g ≡ false → lease_in kind g ≡ []
    not-leased (frames.Lease other first) e = absurd (false≢true (sym e ∙ eq-eqb h h refl))
    not-leased g e = refl

    by-test : (t : Bool) → is_about h h 1 f ≡ t → lease_in kind f ++ flat_map (lease_in kind) fs
        ≡ flat_map (lease_in kind) (cond t (f ∷ filter (is_about h h 1) fs) (filter (is_about h h 1) fs))
    by-test true e = ap (λ xs. lease_in kind f ++ xs) rest
    by-test false e = ap (λ xs. xs ++ flat_map (lease_in kind) fs) (not-leased f e) ∙ rest

-- a Lease is about the call of the node that it goes to
leases-are-about : (kind : Kind) (h : ℕ) (fs : List Frame)
    → flat_map (lease_in kind) fs ≡ flat_map (lease_in kind) (filter (is_about h h 1) fs)
leases-are-about kind h [] = refl
leases-are-about kind h (f ∷ fs) = about-first kind h f fs (leases-are-about kind h fs)

same-kind-is : (a c : Kind) → is_same_kind a c ≡ true → a ≡ c
same-kind-is kinds.Proc kinds.Proc e = refl
same-kind-is kinds.Msg kinds.Msg e = refl
same-kind-is kinds.Sem kinds.Sem e = refl
same-kind-is a c e = absurd (false≢true e)

-- a Lease comes where none of its kind is left
module _ (kind : Kind) (leases : Leases) (asked : Asked) where
  abbrev Over : List Frame → Type 0
  Over fs = (flat_map (lease_in kind) fs ≡ []) ⊎ (for_kind leases kind ≡ [])

  by-kind : (other : Kind) (first : ℕ) → for_kind leases other ≡ [] → (t : Bool) → is_same_kind kind other ≡ t
      → Over (frames.Lease other first ∷ [])
  by-kind other first over true e = inr (ap (for_kind leases) (same-kind-is kind other e) ∙ over)
  by-kind other first over false e = inl (ap (λ t. first_if t first ++ []) e)

  leased-over : (place : CallPlace) (t : Bool) → lease_is_over place leases → Over (only_if t (frame_at place asked))
  leased-over place false over = inl refl
  leased-over (HasLease other first) true over = by-kind other first over (is_same_kind kind other) refl
  leased-over (AsksLease other) true over = inl refl
  leased-over Idle true over = inl refl
  leased-over InAsk true over = inl refl
  leased-over (InRequest x) true over = inl refl
  leased-over (InNotOwner x) true over = inl refl
  leased-over (SentByPlace x) true over = inl refl
  leased-over (SentByRange x) true over = inl refl
  leased-over (InBounce x) true over = inl refl
  leased-over (IsHeld name) true over = inl refl
  leased-over IsInHand true over = inl refl
  leased-over (InAnswer x reply) true over = inl refl
  leased-over Ends true over = inl refl
  leased-over Parked true over = inl refl
  leased-over (Waits name) true over = inl refl

-- ---- a world

module _ (script : Script) (w : World) (b : Beside) (holds : Holds script w [] b) (kind : Kind) (number : ℕ) where
  abbrev x : KindSight
  x = kind_sight w b.kernel kind

  k : KindHolds (is_born_in w) x
  k = holds.kinds kind

  -- a lease on its way, or none of the kind left
  one-way : (h : ℕ) → 1 ≤ h → h ≤ node_count script → (x.coming h ≡ []) ⊎ (x.leases h ≡ [])
  one-way h low high = by-call (node_of w h).caller.under_way calls.call
    where
      calls : CallHolds script h (is_born_in w) (call_sight w [] b h)
      calls = holds.calls h low high

      from-about : (fs : List Frame) → filter (is_about h h 1) (frames_to w h 1) ≡ fs
          → x.coming h ≡ flat_map (lease_in kind) fs
      from-about fs e = leases-are-about kind h (frames_to w h 1) ∙ ap (flat_map (lease_in kind)) e

      by-call : (o : Option Call) → HasCallOrNone script h (is_born_in w) (call_sight w [] b h) o
          → (x.coming h ≡ []) ⊎ (x.leases h ≡ [])
      by-call None c =
          let free : HasNoCall script h (call_sight w [] b h) = c
          in let none : IsNowhere (call_sight w [] b h) = free.nowhere
          in inl (from-about [] (none.in_streams h 1))
      by-call (Some call) c =
          let has : HasCall script h (is_born_in w) (call_sight w [] b h) call = c
          in let there : IsJustThere h (call_sight w [] b h) (asked_of (call_sight w [] b h) call) = has.just_there
          in let leases : Leases = (node_of w h).leases
          in let asked : Asked = asked_of (call_sight w [] b h) call
          in elim (leased-over kind leases asked (b.call h) (is_in_stream (b.call h) h h 1) has.used_up) [
            | inl none ↦ inl (from-about _ (there.in_streams h 1) ∙ none)
            | inr over ↦ inr over
          ]

  abbrev leased : ℕ → ℕ
  leased h = count_by (nat_eq number) (x.leases h)

  abbrev coming : ℕ → ℕ
  coming h = count_by (is_in_lease number) (x.coming h)

  -- it is in the lease of its maker alone, and on its way there alone
  lease-elsewhere : (o : Option ℕ) → maker_in x.ranges number ≡ o → (h : ℕ) → 1 ≤ h → o ≢ Some h → leased h ≡ 0
  lease-elsewhere o made h low other = by-test (list_any (nat_eq number) (x.leases h)) refl
    where
      by-test : (t : Bool) → list_any (nat_eq number) (x.leases h) ≡ t → leased h ≡ 0
      by-test false e = count-any (nat_eq number) (x.leases h) e
      by-test true e =
          elim (k.leases h low) [
            | inl none ↦ absurd (false≢true (ap (λ ns. list_any (nat_eq number) ns) (sym none) ∙ e))
            | inr rest ↦ absurd (other (sym made ∙ maker-of-rest x.ranges (x.leases h) h number rest e))
          ]

  coming-elsewhere : (o : Option ℕ) → maker_in x.ranges number ≡ o → (h : ℕ) → o ≢ Some h → coming h ≡ 0
  coming-elsewhere o made h other =
      count-none (is_in_lease number) (x.coming h)
      (λ first there. by-test first there (is_in_lease number first) refl)
    where
      by-test : (first : ℕ) → Contains (x.coming h) first → (t : Bool) → is_in_lease number first ≡ t
          → is_in_lease number first ≡ false
      by-test first there false e = e
      by-test first there true e =
          absurd (other (sym made ∙ maker-in-range x.ranges first h number (k.coming h first there) e))

  -- at a node there are so many
  lease-at : (i : ℕ) (n : Node) → slice_get w.nodes i ≡ Some n
      → count_by (nat_eq number) (for_kind n.leases kind) ≡ leased (i + 1)
  lease-at i n there =
      ap (λ (m : Node). count_by (nat_eq number) (for_kind m.leases kind)) (sym (node-at-place w i n there))

  -- in a stream there are so many
  from-leader : (to : ℕ) → 1 ≤ to → count_by (brings_number kind number) (stream w to 1) ≡ coming to
  from-leader to low =
      ap (count_by (brings_number kind number)) (sym (frames-low w to 1 low (omega arith)))
      ∙ brought-are kind number (frames_to w to 1)

  from-other : (to sender : ℕ) → 1 ≤ to → 1 ≤ sender → sender ≢ 1
      → count_by (brings_number kind number) (stream w to sender) ≡ 0
  from-other to sender low low_from other =
      ap (count_by (brings_number kind number)) (sym (frames-low w to sender low low_from))
      ∙ count-none (brings_number kind number) (frames_to w to sender) (λ f there. by-frame f there)
    where
      by-frame : (f : Frame) → Contains (frames_to w to sender) f → brings_number kind number f ≡ false
      by-frame (frames.Lease y first) there =
          absurd (other (let fit = holds.frames_fit in fit.may_be to sender (frames.Lease y first) there))
      by-frame f there = refl

  -- so all in all there are no more than those of its maker
  leases-most : (o : Option ℕ) → maker_in x.ranges number ≡ o → (h : ℕ) → 1 ≤ h → ((g : ℕ) → g ≢ h → o ≢ Some g)
      → in_leases w kind number ≤ leased h
  leases-most o made h low apart =
      sum-most (λ n. count_by (nat_eq number) (for_kind n.leases kind)) w.nodes (h - 1) (leased h)
      (λ i n there d. lease-at i n there
      ∙ lease-elsewhere o made (i + 1) (omega arith) (apart (i + 1) (λ e. d (omega (arith, e)))))
      (λ n there. let same : h - 1 + 1 ≡ h = omega (arith, low)
      in let at = lease-at (h - 1) n there ∙ ap leased same in omega (arith, at))

  coming-most : (o : Option ℕ) → maker_in x.ranges number ≡ o → (h : ℕ) → 1 ≤ h → ((g : ℕ) → g ≢ h → o ≢ Some g)
      → frames_that w (λ to sender. brings_number kind number) ≤ coming h
  coming-most o made h low apart =
      frames-most w (λ to sender. brings_number kind number) h 1
      (λ a c low_to low_from d. by-sender a c low_to low_from d (nat_eq c 1) refl)
      low (coming h) (let at = from-leader h low in omega (arith, at))
    where
      by-sender : (a c : ℕ) → 1 ≤ a → 1 ≤ c → (a ≡ h → c ≢ 1) → (t : Bool) → nat_eq c 1 ≡ t
          → count_by (brings_number kind number) (stream w a c) ≡ 0
      by-sender a c low_to low_from d false e =
          from-other a c low_to low_from (λ same. false≢true (sym e ∙ eq-eqb c 1 same))
      by-sender a c low_to low_from d true e =
          let same : c ≡ 1 = eqb-true c 1 e
          in ap (λ q. count_by (brings_number kind number) (stream w a q)) same
          ∙ from-leader a low_to ∙ coming-elsewhere o made a (apart a (λ at. d at same))

  most : (o : Option ℕ) → maker_in x.ranges number ≡ o → (h : ℕ) → 1 ≤ h → ((g : ℕ) → g ≢ h → o ≢ Some g)
      → still_to_take w kind number ≤ leased h + coming h
  most o made h low apart =
      let first = leases-most o made h low apart
      in let second = coming-most o made h low apart
      in omega (arith, first, second)

  -- its maker has it once
  leased-once : (h : ℕ) → 1 ≤ h → leased h ≤ 1
  leased-once h low =
      elim (k.leases h low) [
        | inl none ↦ let zero_is = ap (count_by (nat_eq number)) none in omega (arith, zero_is)
        | inr rest ↦
            let first = rest.first
            in let once = drop-once number first rest.taken
            in let same = ap (count_by (nat_eq number)) rest.rest
            in omega (arith, once, same)
      ]

  coming-once : (h : ℕ) → coming h ≤ 1
  coming-once h =
      let few = k.one_coming h
      in let count = count_by-le-length (is_in_lease number) (x.coming h)
      in omega (arith, few, count)

  once-at : (h : ℕ) → 1 ≤ h → h ≤ node_count script → leased h + coming h ≤ 1
  once-at h low high =
      let here = leased-once h low
      in let way = coming-once h
      in elim (one-way h low high) [
        | inl none ↦ let zero_is = ap (count_by (is_in_lease number)) none in omega (arith, here, zero_is)
        | inr none ↦ let zero_is = ap (count_by (nat_eq number)) none in omega (arith, way, zero_is)
      ]

  -- and where it is used its maker hasn't it
  or-parts : (s t : Bool) → not (s || t) ≡ true → (s ≡ false) × (t ≡ false)
  or-parts false false e = (refl, refl)
  or-parts true t e = absurd (false≢true e)
  or-parts false true e = absurd (false≢true e)

  taken-at : (h : ℕ) → maker_in x.ranges number ≡ Some h → x.used number ≡ true → leased h + coming h ≡ 0
  taken-at h made used =
      let parts =
      or-parts (list_any (nat_eq number) (x.leases h)) (list_any (is_in_lease number) (x.coming h))
      (ap (is_given x number) (sym made) ∙ sym (k.used number) ∙ used)
      in let none = count-any (nat_eq number) (x.leases h) parts.0
      in let none_coming = count-any (is_in_lease number) (x.coming h) parts.1
      in omega (arith, none, none_coming)

  unused-unless : (t : Bool) → x.used number ≡ t → (x.used number ≡ true → ⊥) → x.used number ≡ false
  unused-unless false e h = e
  unused-unless true e h = absurd (h e)

  some-apart : (h g : ℕ) → g ≢ h → Some h ≢ Some g
  some-apart h g d e = d (sym (from_some h g e))

  none-apart : (g : ℕ) → None ≢ Some g
  none-apart g e = not_some g e

  maker-in-script : (h : ℕ) → maker_in x.ranges number ≡ Some h → (1 ≤ h) × (h ≤ node_count script)
  maker-in-script h made =
      born-in-range script w holds.shape h (k.to_born h (in-ranges x.ranges h made))
    where
      got-there : (xs : List ℕ) (i : ℕ) → slice_get xs i ≡ Some h → Contains xs h
      got-there [] i e = not_some h e
      got-there (y ∷ xs) zero e = subst (λ z. Contains (y ∷ xs) z) (from_some y h e) (contains-first y xs)
      got-there (y ∷ xs) (suc i) e = contains-later y xs h (got-there xs i e)

      in-ranges : (ranges : List ℕ) (g : ℕ) → maker_in ranges number ≡ Some h → Contains ranges h
      in-ranges ranges g e = by-test (nat_eq number 0) e
        where
          by-test : (t : Bool) → (if t then None else slice_get ranges ((number - 1) / range_size)) ≡ Some h
              → Contains ranges h
          by-test true e = not_some h e
          by-test false e = got-there ranges ((number - 1) / range_size) e

  abbrev Apart : Type 0
  Apart = NumberIsApart w b.whole kind number

  -- the two kernels have used the same numbers
  used-same : is_used (used_of (plain_kernel b.whole) kind) number ≡ x.used number
  used-same =
      let whole : HasWhole w b = holds.whole
      in ap (λ used. is_used used number) (used-alike b.whole b.kernel whole.alike kind)

  ranges-are : (n : Node) → HasNode w 1 n → x.ranges ≡ for_kind n.leader.directory.ranges kind
  ranges-are n is = ap (λ (m : Node). for_kind m.leader.directory.ranges kind) (node-is script w b holds 1 n is)

  -- Each number of each kind is free in one place, or used and of a range.
  pub number-is-apart : Apart
  number-is-apart = by-maker (maker_in x.ranges number) refl
    where
      by-maker : (o : Option ℕ) → maker_in x.ranges number ≡ o → Apart
      by-maker None made =
          let unused : x.used number ≡ false = k.used number ∙ ap (is_given x number) made
          in let all = most None made 1 (omega arith) (λ g d. none-apart g)
          in let here = lease-elsewhere None made 1 (omega arith) (none-apart 1)
          in let way = coming-elsewhere None made 1 (none-apart 1)
          in record {
            once = omega (arith, all, here, way);
            unused = λ some. used-same ∙ unused;
            given = λ used n is. absurd (false≢true (sym unused ∙ sym used-same ∙ used));
          }
      by-maker (Some h) made =
          let range = maker-in-script h made
          in let all = most (Some h) made h range.0 (some-apart h)
          in let here = once-at h range.0 range.1
          in record {
            once = omega (arith, all, here);
            unused = λ some. used-same ∙ unused-unless (x.used number) refl
                (λ used. let none = taken-at h made used in omega (arith, some, all, none));
            given = λ used n is.
                (h, ap (λ ranges. maker_in ranges number) (sym (ranges-are n is)) ∙ made);
          }
