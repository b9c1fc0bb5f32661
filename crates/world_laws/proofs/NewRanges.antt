-- One more range of a kind is given out: the numbers before it keep their makers, and its own have the new one.
use Rattle.std.proofs.Common.{◌≡◌, ◌≢◌, ◌⊎◌, ℕ, zero, suc, ◌+◌, ◌-◌, ◌*◌, ◌/◌, ◌<◌, ◌≤◌, Bool, true, false, ◌||◌, not, cond, if◌then◌else◌, List, [], ◌∷◌, ◌++◌, length, slice_get, filter, flat_map, sum_by, nat_eq, Contains, Option, Some, None, refl, ap, sym, subst, ◌∙◌, inl, inr, arith, length-append, append-nil}
use Rattle.std.specs.List.{list_any, range_with_len}
use Rattle.std.proofs.lemmas.Bool.{cases_eq, cases_lt, eqb-true, eq-eqb, ne_eqb, false≢true}
use Rattle.std.proofs.lemmas.Option.{slice_get_within, slice_get_past}
use Rattle.std.proofs.lemmas.List.Elements.{Contains-push_cases}
use Rattle.std.proofs.lemmas.List.Sums.{sum_by-cons, sum_by-le-sum_by}
use Rattle.pico_base.specs.declared.numbers.Kind.{Kind}
use Rattle.rpc_frame.specs.declared.frame.Frame.{Frame}
use Rattle.rpc_frame.specs.declared.frame.Frame.TheVariants as frames
use Rattle.node_model.specs.Directory.{maker_in, range_size}
use Rattle.world_model.specs.World.{numbers}
use Rattle.world_laws.specs.Callers.{is_about}
use Rattle.world_laws.specs.Ranges.{KindSight, KindHolds, IsRangeOf, IsRestOf, is_given, is_still_free, is_in_lease, lease_in}
use Rattle.world_laws.proofs.Numbers.{maker-in-range, in-range}

none-is-some : {A : Type 0} (a : A) → None ≡ Some a → ⊥
none-is-some a h = cc

get-in-front : {A : Type 0} (xs ys : List A) (i : ℕ) → i < length xs → slice_get (xs ++ ys) i ≡ slice_get xs i
get-in-front [] ys i h = absurd (omega arith)
get-in-front (x ∷ xs) ys zero h = refl
get-in-front (x ∷ xs) ys (suc i) h = get-in-front xs ys i (omega arith)

get-last : {A : Type 0} (xs : List A) (x : A) → slice_get (xs ++ x ∷ []) (length xs) ≡ Some x
get-last [] x = refl
get-last (y ∷ xs) x = get-last xs x

number-there : (ranges : List ℕ) (y : ℕ) → 1 ≤ y → maker_in ranges y ≡ slice_get ranges ((y - 1) / 8)
number-there ranges y low =
    ap (λ t. if t then None else slice_get ranges ((y - 1) / 8)) (ne_eqb y 0 (λ e. omega (arith, e, low)))

-- the first number of the next range
abbrev pub upcoming_in : List ℕ → ℕ
upcoming_in ranges = length ranges * range_size + 1

-- its maker is the new one
pub maker-of-next : (ranges : List ℕ) (node : ℕ) → maker_in (ranges ++ node ∷ []) (upcoming_in ranges) ≡ Some node
maker-of-next ranges node =
    let place : (length ranges * 8 + 1 - 1) / 8 ≡ length ranges = omega arith
    in number-there (ranges ++ node ∷ []) (length ranges * 8 + 1) (omega arith)
    ∙ ap (slice_get (ranges ++ node ∷ [])) place ∙ get-last ranges node

-- it begins a range of that node
pub range-of-next : (ranges : List ℕ) (node : ℕ) → IsRangeOf (ranges ++ node ∷ []) (upcoming_in ranges) node
range-of-next ranges node =
    record { index = length ranges; first_is = refl; maker = maker-of-next ranges node }

-- a number with a maker keeps it
pub maker-stays : (ranges : List ℕ) (node x maker : ℕ) → maker_in ranges x ≡ Some maker
    → maker_in (ranges ++ node ∷ []) x ≡ Some maker
maker-stays ranges node x maker h =
    elim (cases_eq x 0) [
      | inl nought ↦
          absurd (none-is-some maker (sym (ap (λ t. if t then None else slice_get ranges ((x - 1) / 8))
          (eq-eqb x 0 nought)) ∙ h))
      | inr some ↦
          let there : slice_get ranges ((x - 1) / 8) ≡ Some maker = sym (number-there ranges x (omega
          (arith, some))) ∙ h
          in number-there (ranges ++ node ∷ []) x (omega (arith, some))
          ∙ get-in-front ranges (node ∷ []) ((x - 1) / 8)
          (slice_get_within ranges ((x - 1) / 8) maker there)
          ∙ there
    ]

-- a number within a range is one of its numbers
pub in-lease-again : (x first count : ℕ) → first ≤ x → x < first + count
    → list_any (nat_eq x) (range_with_len first count) ≡ true
in-lease-again x first zero low high = absurd (omega (arith, low, high))
in-lease-again x first (suc count) low high =
    elim (cases_eq x first) [
      | inl e ↦ ap (λ t. t || list_any (nat_eq x) (range_with_len (first + 1) count)) (eq-eqb x first e)
      | inr d ↦
          ap (λ t. t || list_any (nat_eq x) (range_with_len (first + 1) count)) (ne_eqb x first d)
          ∙ in-lease-again x (first + 1) count (omega (arith, low, d)) (omega (arith, high))
    ]

-- any number outside the new range has the maker that it had, or none
pub maker-elsewhere : (ranges : List ℕ) (node x : ℕ) → is_in_lease x (upcoming_in ranges) ≡ false
    → maker_in (ranges ++ node ∷ []) x ≡ maker_in ranges x
maker-elsewhere ranges node x away =
    elim (cases_eq x 0) [
      | inl nought ↦
          ap (λ t. if t then None else slice_get (ranges ++ node ∷ []) ((x - 1) / 8)) (eq-eqb x 0 nought)
          ∙ sym (ap (λ t. if t then None else slice_get ranges ((x - 1) / 8)) (eq-eqb x 0 nought))
      | inr some ↦
          number-there (ranges ++ node ∷ []) x (omega (arith, some))
          ∙ by-index some (cases_lt ((x - 1) / 8) (length ranges))
          ∙ sym (number-there ranges x (omega (arith, some)))
    ]
  where
    by-index : x ≢ 0 → ((x - 1) / 8 < length ranges) ⊎ (length ranges ≤ (x - 1) / 8)
        → slice_get (ranges ++ node ∷ []) ((x - 1) / 8) ≡ slice_get ranges ((x - 1) / 8)
    by-index some (inl within) = get-in-front ranges (node ∷ []) ((x - 1) / 8) within
    by-index some (inr past) =
        elim (cases_eq ((x - 1) / 8) (length ranges)) [
          | inl e ↦
              absurd
              (false≢true
              (sym away
              ∙ in-lease-again x (length ranges * 8 + 1) 8 (omega (arith, some, e)) (omega (arith, some, e))))
          | inr d ↦
              slice_get_past (ranges ++ node ∷ []) ((x - 1) / 8)
              (subst (λ k. k ≤ (x - 1) / 8) (sym (length-append ranges (node ∷ []))) (omega (arith, past, d)))
              ∙ sym (slice_get_past ranges ((x - 1) / 8) past)
        ]

range-stays : (ranges : List ℕ) (node first maker : ℕ) → IsRangeOf ranges first maker
    → IsRangeOf (ranges ++ node ∷ []) first maker
range-stays ranges node first maker r =
    record { index = r.index; first_is = r.first_is; maker = maker-stays ranges node first maker r.maker }

rest-stays : (ranges : List ℕ) (node : ℕ) (ns : List ℕ) (maker : ℕ) → IsRestOf ranges ns maker
    → IsRestOf (ranges ++ node ∷ []) ns maker
rest-stays ranges node ns maker r =
    record {
      first = r.first;
      range = range-stays ranges node r.first maker r.range;
      taken = r.taken;
      rest = r.rest;
    }

list_any-append : {A : Type 0} (test : A → Bool) (xs ys : List A)
    → list_any test (xs ++ ys) ≡ (list_any test xs || list_any test ys)
list_any-append test [] ys = refl
list_any-append test (x ∷ xs) ys = ap (λ t. test x || t) (list_any-append test xs ys) ∙ or-assoc (test x) _ _
  where
    or-assoc : (a b c : Bool) → (a || (b || c)) ≡ ((a || b) || c)
    or-assoc true b c = refl
    or-assoc false b c = refl

-- the numbers of the next range have had no maker
pub unmade-next : (ranges : List ℕ) (x : ℕ) → is_in_lease x (upcoming_in ranges) ≡ true → maker_in ranges x ≡ None
unmade-next ranges x inside =
    let both = in-range (length ranges * 8 + 1) 8 x inside
    in let low = both.0
    in number-there ranges x (omega (arith, low)) ∙ slice_get_past ranges ((x - 1) / 8) (omega (arith, low))

-- the numbers of a kind, with a range on its way to a node
abbrev pub leased : KindSight → ℕ → KindSight
leased x node =
    record x {
      coming = λ h. x.coming h ++ cond (nat_eq h node) (upcoming_in x.ranges ∷ []) [];
      ranges = x.ranges ++ node ∷ [];
    }

or-false : (t : Bool) → (t || false) ≡ t
or-false true = refl
or-false false = refl

-- all still holds of the kind with one more range on its way
pub kind-leased : (born : ℕ → Bool) (x : KindSight) (node : ℕ) → KindHolds born x → born node ≡ true
    → x.coming node ≡ [] → KindHolds born (leased x node)
kind-leased born x node k is_born none =
    record {
      used = λ number. used-now number (is_in_lease number (upcoming_in x.ranges)) refl;
      leases = λ h low. elim (k.leases h low) [
        | inl none_left ↦ inl none_left
        | inr r ↦ inr (rest-stays x.ranges node (x.leases h) h r)
      ];
      coming = coming-now;
      one_coming = one-now;
      to_born = λ y there. elim (Contains-push_cases x.ranges node y there) [
        | inl old ↦ k.to_born y old
        | inr new ↦ subst (λ z. born z ≡ true) new is_born
      ];
    }
  where
    none-of : (number : ℕ) → is_in_lease number (upcoming_in x.ranges) ≡ false → (t : Bool)
        → list_any (is_in_lease number) (cond t (upcoming_in x.ranges ∷ []) []) ≡ false
    none-of number away true = or-false (is_in_lease number (upcoming_in x.ranges)) ∙ away
    none-of number away false = refl

    free-same : (number h : ℕ) → is_in_lease number (upcoming_in x.ranges) ≡ false
        → is_still_free (leased x node) number h ≡ is_still_free x number h
    free-same number h away =
        ap (λ t. list_any (nat_eq number) (x.leases h) || t)
        (list_any-append (is_in_lease number) (x.coming h) (cond (nat_eq h node) (upcoming_in x.ranges ∷ []) [])
        ∙ ap (λ t. list_any (is_in_lease number) (x.coming h) || t) (none-of number away (nat_eq h node))
        ∙ or-false (list_any (is_in_lease number) (x.coming h)))

    given-same : (number : ℕ) (made_by : Option ℕ) → is_in_lease number (upcoming_in x.ranges) ≡ false
        → is_given (leased x node) number made_by ≡ is_given x number made_by
    given-same number None away = refl
    given-same number (Some h) away = ap not (free-same number h away)

    or-true : (a b : Bool) → b ≡ true → (a || b) ≡ true
    or-true true b e = refl
    or-true false b e = e

    new-free : (number : ℕ) → is_in_lease number (upcoming_in x.ranges) ≡ true
        → is_still_free (leased x node) number node ≡ true
    new-free number inside =
        or-true (list_any (nat_eq number) (x.leases node)) _
        (list_any-append (is_in_lease number) (x.coming node)
        (cond (nat_eq node node) (upcoming_in x.ranges ∷ []) [])
        ∙ or-true (list_any (is_in_lease number) (x.coming node)) _
        (ap (λ t. list_any (is_in_lease number) (cond t (upcoming_in x.ranges ∷ []) [])) (eq-eqb node node refl)
        ∙ ap (λ t. t || false) inside))

    past-all : (number h : ℕ) → maker_in x.ranges number ≡ Some h
        → is_in_lease number (upcoming_in x.ranges) ≡ true → ⊥
    past-all number h e inside =
        let both = in-range (length x.ranges * 8 + 1) 8 number inside
        in let low = both.0
        in let there : slice_get x.ranges ((number - 1) / 8) ≡ Some h =
        sym (number-there x.ranges number (omega (arith, low))) ∙ e
        in let within = slice_get_within x.ranges ((number - 1) / 8) h there
        in omega (arith, low, within)

    not-given : (number : ℕ) (made_by : Option ℕ) → maker_in x.ranges number ≡ made_by
        → is_in_lease number (upcoming_in x.ranges) ≡ true → x.used number ≡ false
    not-given number None e inside = k.used number ∙ ap (is_given x number) e
    not-given number (Some h) e inside =
        absurd (past-all number h e inside)

    used-now : (number : ℕ) (t : Bool) → is_in_lease number (upcoming_in x.ranges) ≡ t
        → x.used number ≡ is_given (leased x node) number (maker_in (x.ranges ++ node ∷ []) number)
    used-now number true inside =
        not-given number (maker_in x.ranges number) refl inside
        ∙ sym (ap (is_given (leased x node) number)
        (maker-in-range (x.ranges ++ node ∷ []) (upcoming_in x.ranges) node number (range-of-next x.ranges node)
        inside)
        ∙ ap not (new-free number inside))
    used-now number false away =
        k.used number ∙ sym (given-same number (maker_in x.ranges number) away)
        ∙ ap (is_given (leased x node) number) (sym (maker-elsewhere x.ranges node number away))

    coming-by : (h first : ℕ) (t : Bool) → nat_eq h node ≡ t
        → Contains (x.coming h ++ cond t (upcoming_in x.ranges ∷ []) []) first
        → IsRangeOf (x.ranges ++ node ∷ []) first h
    coming-by h first true e there =
        elim (Contains-push_cases (x.coming h) (upcoming_in x.ranges) first there) [
          | inl old ↦ range-stays x.ranges node first h (k.coming h first old)
          | inr new ↦
              subst (λ y. IsRangeOf (x.ranges ++ node ∷ []) first y) (sym (eqb-true h node e))
              (subst (λ y. IsRangeOf (x.ranges ++ node ∷ []) y node) new (range-of-next x.ranges node))
        ]
    coming-by h first false e there =
        range-stays x.ranges node first h
        (k.coming h first (subst (λ ys. Contains ys first) (append-nil (x.coming h)) there))

    coming-now : (h first : ℕ) → Contains (x.coming h ++ cond (nat_eq h node) (upcoming_in x.ranges ∷ []) []) first
        → IsRangeOf (x.ranges ++ node ∷ []) first h
    coming-now h first there = coming-by h first (nat_eq h node) refl there

    one-by : (h : ℕ) (t : Bool) → nat_eq h node ≡ t
        → length (x.coming h ++ cond t (upcoming_in x.ranges ∷ []) []) ≤ 1
    one-by h true e =
        subst (λ ys. length (ys ++ upcoming_in x.ranges ∷ []) ≤ 1)
        (sym (ap x.coming (eqb-true h node e) ∙ none)) (omega arith)
    one-by h false e = subst (λ ys. length ys ≤ 1) (sym (append-nil (x.coming h))) (k.one_coming h)

    one-now : (h : ℕ) → length (x.coming h ++ cond (nat_eq h node) (upcoming_in x.ranges ∷ []) []) ≤ 1
    one-now h = one-by h (nat_eq h node) refl

-- ---- the range's call is the node's

-- a node with no frame about its call has no lease on its way
pub no-lease-about : (kind : Kind) (node : ℕ) (fs : List Frame) → filter (is_about node node 1) fs ≡ []
    → flat_map (lease_in kind) fs ≡ []
no-lease-about kind node [] h = refl
no-lease-about kind node (f ∷ fs) h =
    let both = drops (is_about node node 1 f) f (filter (is_about node node 1) fs) h
    in ap (λ xs. xs ++ flat_map (lease_in kind) fs) (not-leased f both.0) ∙ no-lease-about kind node fs both.1
  where
    is-not-empty : (f : Frame) (fs : List Frame) → f ∷ fs ≡ [] → ⊥
    is-not-empty f fs h = cc

    drops : (t : Bool) (f : Frame) (fs : List Frame) → cond t (f ∷ fs) fs ≡ [] → (t ≡ false) × (fs ≡ [])
    drops true f fs h = absurd (is-not-empty f fs h)
    drops false f fs h = (refl, h)

    not-leased : (f : Frame) → is_about node node 1 f ≡ false → lease_in kind f ≡ []
    not-leased (frames.Lease other first) g = absurd (false≢true (sym g ∙ eq-eqb node node refl))
    not-leased f g = refl

-- ---- one more lease on its way

-- a sum over the numbers up to some is more where it is more at one of them, and nowhere less
pub sum-more : (f g : ℕ → ℕ) (first count q : ℕ) → ((x : ℕ) → f x ≤ g x) → f q + 1 ≤ g q → first ≤ q
    → q < first + count
    → sum_by f (numbers first count) + 1 ≤ sum_by g (numbers first count)
sum-more f g first zero q less more low high = absurd (omega (arith, low, high))
sum-more f g first (suc count) q less more low high =
    elim (cases_eq q first) [
      | inl e ↦
          let here : f first + 1 ≤ g first = subst (λ y. f y + 1 ≤ g y) e more
          in let rest = sum_by-le-sum_by f g (numbers (first + 1) count) less
          in let one = sum_by-cons f first (numbers (first + 1) count)
          in let other = sum_by-cons g first (numbers (first + 1) count)
          in omega (arith, here, rest, one, other)
      | inr d ↦
          let here = less first
          in let rest = sum-more f g (first + 1) count q less more (omega (arith, low, d)) (omega (arith, high))
          in let one = sum_by-cons f first (numbers (first + 1) count)
          in let other = sum_by-cons g first (numbers (first + 1) count)
          in omega (arith, here, rest, one, other)
    ]
