-- The family of a process of a reachable kernel has bytes, where its children are among 31 processes.
use Rattle.std.proofs.Common.{◌≡◌, ◌∙◌, ℕ, ◌<◌, ◌≤◌, ◌^◌, Bool, true, false, not, ◌&&◌, ◌||◌, nat_eq, nat_lt, List, [], ◌∷◌, ◌++◌, length, map, Option, Some, None, refl, sym, ap, subst, inl, inr, arith}
use Rattle.std.specs.Prelude.{is_some, Contains}
use Rattle.std.specs.List.{IsDistinct, AllByRecursion, list_any}
use Rattle.std.specs.Cmp.{nat_eq_equiv}
use Rattle.std.specs.Option.{option_and_then}
use Rattle.std.proofs.lemmas.Bool.{cases_Bool, cases_eq, eq-eqb, eqb-true, false≢true, ltb-true, or_cases, or_right}
use Rattle.std.proofs.lemmas.List.Elements.{All-from_recursion}
use Rattle.std.proofs.lemmas.List.Folds.{list_any-append}
use Rattle.std.proofs.lemmas.Map.Keys.{IsDistinct-cons, IsDistinct-head, IsDistinct-tail}
use Rattle.std.proofs.lemmas.Map.Made.{length-le_from_is_member}
use Rattle.pico_base.specs.declared.reply.Ending.{Ending}
use Rattle.number_maps.specs.Maps.{get, is_used, used_with}
use Rattle.number_maps.proofs.Sets.{used-with-other}
use Rattle.kernel_model.specs.Numbers.{is_positive_u32, is_u32, number_end}
use Rattle.kernel_model.specs.Row.{Alive, EndedChild, Family, ended_child}
use Rattle.kernel_model.specs.Kernel.{Kernel, Process, alive_in, living_at, opening}
use Rattle.kernel_model.specs.Kernel as kernel
use Rattle.kernel_model.specs.Effect.{is_fresh}
use Rattle.kernel_model.specs.Valid.{IsValid}
use Rattle.kernel_laws.specs.Once.{ListsOnce}
use Rattle.kernel_laws.specs.Reachable.{IsReachableKernel}
use Rattle.kernel_laws.proofs.Histories.{Kept, kept-along}
use Rattle.kernel_laws.proofs.Members.{contains-first, contains-later}
use Rattle.kernel_laws.proofs.OnceAlong.{children_are_listed_once_lemma}
use Rattle.kernel_laws.proofs.ValidLaws.{reachable_kernels_are_valid_lemma}
use Rattle.fork_wait.specs.Children.{are_different, children}
use Rattle.fork_wait.specs.Spelling.{HasBytes as HasFamilyBytes}

-- ---- the numbers that are used

-- each is at least 1, and has four bytes
abbrev AllPositive : List ℕ → Type 0
AllPositive used = (n : ℕ) → is_used used n ≡ true → is_positive_u32 n ≡ true

record HasPositive (k : Kernel) : Type 0 where
  pub processes : AllPositive k.used_processes
  pub queues : AllPositive k.used_queues
  pub sets : AllPositive k.used_sets

and-first : (a b : Bool) → (a && b) ≡ true → a ≡ true
and-first true b h = refl
and-first false b h = absurd (false≢true h)

and-second : (a b : Bool) → (a && b) ≡ true → b ≡ true
and-second true b h = h
and-second false b h = absurd (false≢true h)

both : (a b : Bool) → a ≡ true → b ≡ true → (a && b) ≡ true
both true b h g = g
both false b h g = absurd (false≢true h)

-- one more that is fresh
one-more : (used : List ℕ) (n : ℕ) → is_fresh used n ≡ true → AllPositive used → AllPositive (used_with used n)
one-more used n fresh before q h =
    elim (cases_eq q n) [
      | inl same ↦
          ap is_positive_u32 same ∙ and-first (is_positive_u32 n) (not (is_used used n)) fresh
      | inr other ↦ before q (sym (used-with-other used n q other) ∙ h)
    ]

-- the numbers stay, or one more of a kind is used
same-numbers : (k next : Kernel) → HasPositive k → next.used_processes ≡ k.used_processes
    → next.used_queues ≡ k.used_queues → next.used_sets ≡ k.used_sets → HasPositive next
same-numbers k next h p q s =
    record {
      processes = subst AllPositive (sym p) h.processes;
      queues = subst AllPositive (sym q) h.queues;
      sets = subst AllPositive (sym s) h.sets;
    }

positive-kept : Kept HasPositive
positive-kept = record {
  moves = λ k pid call n next outcome s h.
      let stays : (after : Kernel) → after.used_processes ≡ k.used_processes → after.used_queues ≡ k.used_queues
      → after.used_sets ≡ k.used_sets → HasPositive after =
      λ after p q t. same-numbers k after h p q t
      in record {
        same = h;
        forks = λ f. record {
          processes = one-more k.used_processes n f h.processes;
          queues = h.queues;
          sets = h.sets;
        };
        ends = λ ending. stays _ refl refl refl;
        acts = λ g act kill. stays _ refl refl refl;
        masks = λ how set. stays _ refl refl refl;
        raises_own = λ target g t. stays _ refl refl refl;
        raises_other = λ other target g t. stays _ refl refl refl;
        reaps = λ which child ending e. stays _ refl refl refl;
        makes_queue = λ f. record {
          processes = h.processes;
          queues = one-more k.used_queues n f h.queues;
          sets = h.sets;
        };
        binds_queue = λ key f. record {
          processes = h.processes;
          queues = one-more k.used_queues n f h.queues;
          sets = h.sets;
        };
        sends = λ id class text q after t e. stays _ refl refl refl;
        receives = λ id class size noerror q r t e. stays _ refl refl refl;
        limits = λ id qbytes q after t e. stays _ refl refl refl;
        removes_queue = λ id. stays _ refl refl refl;
        makes_set = λ count set e f. record {
          processes = h.processes;
          queues = h.queues;
          sets = one-more k.used_sets n f h.sets;
        };
        binds_set = λ key count set e f. record {
          processes = h.processes;
          queues = h.queues;
          sets = one-more k.used_sets n f h.sets;
        };
        operates = λ id steps set after t e. stays _ refl refl refl;
        sets_one = λ id num value set after t e. stays _ refl refl refl;
        fills = λ id values set after t e. stays _ refl refl refl;
        removes_set = λ id. stays _ refl refl refl;
      };
  finishes = λ pid k a h l d. same-numbers k _ h refl refl refl;
}

first-positive : HasPositive opening
first-positive =
    record {
      processes = λ n h. elim (or_cases (nat_eq n 1) false h) [
        | inl one ↦ ap is_positive_u32 (eqb-true n 1 one)
        | inr none ↦ absurd (false≢true none)
      ];
      queues = λ n h. absurd (false≢true h);
      sets = λ n h. absurd (false≢true h);
    }

are-positive : (k : Kernel) → IsReachableKernel k → HasPositive k
are-positive k r = kept-along HasPositive positive-kept r.0 opening k r.1 first-positive

-- a used process number is at least 1, and has four bytes
pub used-is-positive : (k : Kernel) → IsReachableKernel k → (n : ℕ) → is_used k.used_processes n ≡ true
    → is_positive_u32 n ≡ true
used-is-positive k r = (are-positive k r).processes

positive-is-small : (n : ℕ) → is_positive_u32 n ≡ true → n < 2 ^ 32
positive-is-small n h = ltb-true n number_end (and-second (nat_lt 0 n) (is_u32 n) h)

-- a used number of a process has four bytes
pub used-is-small : (k : Kernel) → IsReachableKernel k → (n : ℕ) → is_used k.used_processes n ≡ true → n < 2 ^ 32
used-is-small k r n h = positive-is-small n (used-is-positive k r n h)

-- so has one of a queue
pub used-queue-is-small : (k : Kernel) → IsReachableKernel k → (n : ℕ) → is_used k.used_queues n ≡ true → n < 2 ^ 32
used-queue-is-small k r n h = positive-is-small n ((are-positive k r).queues n h)

-- and of a set
pub used-set-is-small : (k : Kernel) → IsReachableKernel k → (n : ℕ) → is_used k.used_sets n ≡ true → n < 2 ^ 32
used-set-is-small k r n h = positive-is-small n ((are-positive k r).sets n h)

-- ---- the children of a process

among-ended : (es : List EndedChild) (q : ℕ) → list_any (nat_eq q) (map (λ e. e.pid) es) ≡ true
    → (ending : Ending) × Contains es (ended_child q ending)
among-ended [] q h = absurd (false≢true h)
among-ended (x ∷ xs) q h =
    elim (or_cases (nat_eq q x.pid) (list_any (nat_eq q) (map (λ e. e.pid) xs)) h) [
      | inl first ↦ (
        x.ending,
        subst (λ (n : ℕ). Contains (x ∷ xs) (ended_child n x.ending)) (sym (eqb-true q x.pid first))
            (contains-first x xs),
      )
      | inr later ↦ let w = among-ended xs q later in (w.0, contains-later x xs (ended_child q w.0) w.1)
    ]

some-there : (o : Option Process) → is_some (option_and_then alive_in o) ≡ true → is_some o ≡ true
some-there None h = absurd (false≢true h)
some-there (Some p) h = refl

not-ended : (o : Option Process) (ending : Ending) → o ≡ Some (kernel.Ended ending)
    → is_some (option_and_then alive_in o) ≡ true → ⊥
not-ended o ending is h = false≢true (sym (ap (λ x. is_some (option_and_then alive_in x)) is) ∙ h)

module _ (k : Kernel) (reachable : IsReachableKernel k) (p : ℕ) (a : Alive) (lives : living_at k p ≡ Some a) where
  valid : IsValid k
  valid = reachable_kernels_are_valid_lemma k reachable

  child-there : (q : ℕ) → list_any (nat_eq q) (children a.row.family) ≡ true → is_used k.used_processes q ≡ true
  child-there q h =
      let f : Family = a.row.family
      in valid.used_processes q
      ∙ elim (or_cases (list_any (nat_eq q) f.living) (list_any (nat_eq q) (map (λ e. e.pid) f.ended))
      (sym (list_any-append (nat_eq q) f.living (map (λ e. e.pid) f.ended)) ∙ h)) [
        | inl living ↦ some-there (get k.processes q) ((valid.alive p a lives).living q living)
        | inr ended ↦
            let w = among-ended f.ended q ended
            in ap is_some ((valid.alive p a lives).ended q w.0 w.1)
      ]

  living-apart : (q : ℕ) → list_any (nat_eq q) a.row.family.living ≡ true
      → list_any (nat_eq q) (map (λ e. e.pid) a.row.family.ended) ≡ false
  living-apart q h =
      elim (cases_Bool (list_any (nat_eq q) (map (λ e. e.pid) a.row.family.ended))) [
        | inr f ↦ f
        | inl t ↦
            let w = among-ended a.row.family.ended q t
            in absurd (not-ended (get k.processes q) w.0 ((valid.alive p a lives).ended q w.0 w.1)
            ((valid.alive p a lives).living q h))
      ]

-- ---- none twice

all-apart : (x : ℕ) (zs : List ℕ) → list_any (nat_eq x) zs ≡ false → AllByRecursion (λ y. nat_eq x y ≡ false) zs
all-apart x [] h = tt
all-apart x (z ∷ zs) h =
    let w = neither (nat_eq x z) (list_any (nat_eq x) zs) h in (w.0, all-apart x zs w.1)
  where
    neither : (s t : Bool) → (s || t) ≡ false → (s ≡ false) × (t ≡ false)
    neither true t g = absurd (false≢true (sym g))
    neither false t g = (refl, g)

apart-all : (x : ℕ) (zs : List ℕ) → AllByRecursion (λ y. nat_eq x y ≡ false) zs → list_any (nat_eq x) zs ≡ false
apart-all x [] h = refl
apart-all x (z ∷ zs) h = ap (λ (t : Bool). t || list_any (nat_eq x) zs) h.0 ∙ apart-all x zs h.1

all-append : (x : ℕ) (xs zs : List ℕ) → AllByRecursion (λ y. nat_eq x y ≡ false) xs
    → AllByRecursion (λ y. nat_eq x y ≡ false) zs → AllByRecursion (λ y. nat_eq x y ≡ false) (xs ++ zs)
all-append x [] zs h g = g
all-append x (y ∷ ys) zs h g = (h.0, all-append x ys zs h.1 g)

distinct-append : (xs zs : List ℕ) → IsDistinct nat_eq xs → IsDistinct nat_eq zs
    → ((q : ℕ) → list_any (nat_eq q) xs ≡ true → list_any (nat_eq q) zs ≡ false) → IsDistinct nat_eq (xs ++ zs)
distinct-append [] zs h g apart = g
distinct-append (x ∷ xs) zs h g apart =
    let here : list_any (nat_eq x) (x ∷ xs) ≡ true = ap (λ (t : Bool). t || list_any (nat_eq x) xs) (eq-eqb x x refl)
    in IsDistinct-cons nat_eq x (xs ++ zs)
    (all-append x xs zs (IsDistinct-head nat_eq x xs h) (all-apart x zs (apart x here)))
    (distinct-append xs zs (IsDistinct-tail nat_eq x xs h) g
    (λ q there. apart q (or_right (nat_eq q x) (list_any (nat_eq q) xs) there)))

different : (xs : List ℕ) → IsDistinct nat_eq xs → are_different xs ≡ true
different [] h = refl
different (x ∷ xs) h =
    both (not (list_any (nat_eq x) xs)) (are_different xs)
    (ap not (apart-all x xs (IsDistinct-head nat_eq x xs h))) (different xs (IsDistinct-tail nat_eq x xs h))

-- ---- the bytes

each-by : (P : ℕ → Type 0) (xs : List ℕ) → ((q : ℕ) → list_any (nat_eq q) xs ≡ true → P q) → AllByRecursion P xs
each-by P [] h = tt
each-by P (x ∷ xs) h = (
  h x (ap (λ (t : Bool). t || list_any (nat_eq x) xs) (eq-eqb x x refl)),
  each-by P xs (λ q there. h q (or_right (nat_eq q x) (list_any (nat_eq q) xs) there)),
)

-- A living process's family has bytes where its children are among at most 31 processes.
pub family-has-bytes : (k : Kernel) → IsReachableKernel k → (p : ℕ) (a : Alive) → living_at k p ≡ Some a
    → (processes : List ℕ) → length processes ≤ 31
    → ((q : ℕ) → list_any (nat_eq q) (children a.row.family) ≡ true → list_any (nat_eq q) processes ≡ true)
    → HasFamilyBytes a.row.family
family-has-bytes k reachable p a lives processes few among =
    let f : Family = a.row.family
    in let once : ListsOnce f = children_are_listed_once_lemma k reachable p a lives
    in let distinct : IsDistinct nat_eq (children f) =
    distinct-append f.living (map (λ e. e.pid) f.ended) once.living once.ended
    (living-apart k reachable p a lives)
    in let there : (q : ℕ) → list_any (nat_eq q) (children f) ≡ true → is_used k.used_processes q ≡ true =
    child-there k reachable p a lives
    in let most : length (children f) ≤ length processes =
    length-le_from_is_member nat_eq_equiv (children f) processes distinct among
    in record {
      sound = record {
        few = omega (arith, most, few);
        positive = none-zero (children f) there;
        different = different (children f) distinct;
      };
      numbers = All-from_recursion (λ n. n < 2 ^ 32) (children f)
          (each-by (λ n. n < 2 ^ 32) (children f) (λ q h. used-is-small k reachable q (there q h)));
    }
  where
    none-zero : (xs : List ℕ) → ((q : ℕ) → list_any (nat_eq q) xs ≡ true → is_used k.used_processes q ≡ true)
        → list_any (nat_eq 0) xs ≡ false
    none-zero xs there =
        elim (cases_Bool (list_any (nat_eq 0) xs)) [
          | inr f ↦ f
          | inl t ↦ absurd (false≢true (used-is-positive k reachable 0 (there 0 t)))
        ]
