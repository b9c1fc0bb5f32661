-- The table of processes stays a table.
use Rattle.std.proofs.Common.{◌≡◌, ◌⊎◌, inl, inr, ◌∙◌, ℕ, Bool, true, false, cond, not, ◌||◌, nat_eq, List, [], ◌∷◌, ◌++◌, Option, Some, None, is_some, IsSome, IfSome, refl, sym, ap, subst, arith}
use Rattle.std.specs.List.{list_any, filter}
use Rattle.std.specs.Option.{option_and_then}
use Rattle.pico_base.specs.declared.reply.Ending.{Ending}
use Rattle.number_maps.specs.Maps.{Numbered, get, put}
use Rattle.kernel_model.specs.Row.{Family, Waited, Found, NotYet, NoChild, lists, ignores_children, family_after_end, without_ended, EndedChild, ended_child}
use Rattle.waiting_model.specs.Marks.{Alive}
use Rattle.waiting_model.specs.Kernel.{Process, Living, alive_in, living_in}
use Rattle.waiting_model.specs.ProcessCalls.{parent_after_fork, new_child, found_after_end, after_waiting, raise_chld, parent_after_end}
use Rattle.mono_kernel.specs.declared.process.Change.{Change}
use Rattle.mono_kernel.specs.declared.process.Change.TheVariants.{Signals, Raise, Reap, Spend, Park, Answer}
use Rattle.mono_kernel.specs.Process.{after_change}
use Rattle.number_maps.specs.Rising.{IsRising}
use Rattle.mono_kernel.specs.Table.{IsTable, IfLiving, keeps}
use Rattle.number_maps.proofs.LookUps.{get-put-same, get-put-apart}
use Rattle.number_maps.proofs.Order.{same-from-nat_eq}

-- look-ups after a change at a number

-- who lives at a number after a value was put there
pub living-put_same : (ps : Numbered Process) (k : ℕ) (v : Process) → living_in (put ps k v) k ≡ alive_in v
living-put_same ps k v = ap (option_and_then alive_in) (get-put-same ps k v)

-- and at another
pub living-put_other : (ps : Numbered Process) (k q : ℕ) (v : Process) → nat_eq q k ≡ false
    → living_in (put ps k v) q ≡ living_in ps q
living-put_other ps k q v apart = ap (option_and_then alive_in) (get-put-apart ps k q v apart)

-- what is there is there after a change
pub there-put : (ps : Numbered Process) (k q : ℕ) (v : Process) → is_some (get ps q) ≡ true
    → is_some (get (put ps k v) q) ≡ true
there-put ps k q v there = at (nat_eq q k) refl
  where
    at : (b : Bool) → nat_eq q k ≡ b → is_some (get (put ps k v) q) ≡ true
    at true is = rw (same-from-nat_eq q k is) (ap is_some (get-put-same ps k v))
    at false is = ap is_some (get-put-apart ps k q v is) ∙ there

-- where a process lives, something is there
pub there-living : (ps : Numbered Process) (p : ℕ) (a : Alive) → living_in ps p ≡ Some a → is_some (get ps p) ≡ true
there-living ps p a lives = at (get ps p) refl
  where
    at : (o : Option Process) → get ps p ≡ o → is_some o ≡ true
    at None is = let none : None ≡ Some a = rw is at lives in absurd (cc)
    at (Some v) is = refl

-- A process that no longer lives.
pub IsTable-settled : (ps : Numbered Process) (parents : Numbered ℕ) (k : ℕ) (v : Process) → IsTable ps parents
    → alive_in v ≡ None
    → IsRising (put ps k v) → IsTable (put ps k v) parents
IsTable-settled ps parents k v t dead rising =
    record {
      rising = rising;
      parent = λ p child a lives it. t.parent p child a (before p a lives) it;
      listed = λ p child a lives it.
          let old = t.listed p child a (before p a lives) it in (there-put ps k child v old.0, old.1);
      kept = λ p child a lives it.
          let old = t.kept p child a (before p a lives) it in (there-put ps k child v old.0, after child old.1);
    }
  where
    before : (p : ℕ) (a : Alive) → living_in (put ps k v) p ≡ Some a → living_in ps p ≡ Some a
    before p a lives = at (nat_eq p k) refl
      where
        at : (b : Bool) → nat_eq p k ≡ b → living_in ps p ≡ Some a
        at true is =
            let same : p ≡ k = same-from-nat_eq p k is
            in let none : None ≡ Some a = sym (living-put_same ps k v ∙ dead) ∙ (rw same at lives)
            in absurd (cc)
        at false is = sym (living-put_other ps k p v is) ∙ lives

    after : (child : ℕ) → living_in ps child ≡ None → living_in (put ps k v) child ≡ None
    after child none = at (nat_eq child k) refl
      where
        at : (b : Bool) → nat_eq child k ≡ b → living_in (put ps k v) child ≡ None
        at true is = rw (same-from-nat_eq child k is) (living-put_same ps k v ∙ dead)
        at false is = living-put_other ps k child v is ∙ none

-- A living process that lists and keeps no more than it did, but for one child that has ended.
pub IsTable-changed : (ps : Numbered Process) (parents : Numbered ℕ) (pid : ℕ) (a b : Alive) → IsTable ps parents
    → living_in ps pid ≡ Some a
    → ((child : ℕ) → lists b.row.family child ≡ true → lists a.row.family child ≡ true)
    → ((child : ℕ) → keeps b.row.family child ≡ true
    → (keeps a.row.family child ≡ true) ⊎ ((is_some (get ps child) ≡ true) × (living_in ps child ≡ None)))
    → IsRising (put ps pid (Living b)) → IsTable (put ps pid (Living b)) parents
IsTable-changed ps parents pid a b t here no_more kept_before rising =
    record {
      rising = rising;
      parent = λ p child c lives it. (at p child c lives (nat_eq p pid) refl).0 it;
      listed = λ p child c lives it. (at p child c lives (nat_eq p pid) refl).1 it;
      kept = λ p child c lives it. (at p child c lives (nat_eq p pid) refl).2 it;
    }
  where
    dead : (child : ℕ) → (is_some (get ps child) ≡ true) × (living_in ps child ≡ None)
        → (is_some (get (put ps pid (Living b)) child) ≡ true) × (living_in (put ps pid (Living b)) child ≡ None)
    dead child h = (there-put ps pid child (Living b) h.0, apart (nat_eq child pid) refl)
      where
        apart : (x : Bool) → nat_eq child pid ≡ x → living_in (put ps pid (Living b)) child ≡ None
        apart true is =
            let none : None ≡ Some a = sym h.1 ∙ rw (same-from-nat_eq child pid is) here in absurd (cc)
        apart false is = living-put_other ps pid child (Living b) is ∙ h.1

    at : (p child : ℕ) (c : Alive) → living_in (put ps pid (Living b)) p ≡ Some c → (x : Bool) → nat_eq p pid ≡ x
        → (lists c.row.family child ≡ true → get parents child ≡ Some p)
        × (lists c.row.family child ≡ true → (is_some (get (put ps pid (Living b)) child) ≡ true)
        × (nat_eq child p ≡ false))
        × (keeps c.row.family child ≡ true
        → (is_some (get (put ps pid (Living b)) child) ≡ true) × (living_in (put ps pid (Living b)) child ≡ None))
    at p child c lives true is =
        let same : p ≡ pid = same-from-nat_eq p pid is
        in let new : Some b ≡ Some c = sym (living-put_same ps pid (Living b)) ∙ (rw same at lives)
        in let it_is : c ≡ b = cc
        in (
          (λ it. rw same (t.parent pid child a here (no_more child (rw it_is at it)))),
          (λ it. let old = t.listed pid child a here (no_more child (rw it_is at it))
              in (there-put ps pid child (Living b) old.0, rw same old.1)),
          (λ it. dead child (from_kept (kept_before child (rw it_is at it)))),
        )
      where
        from_kept : (keeps a.row.family child ≡ true) ⊎ ((is_some (get ps child) ≡ true) × (living_in ps child ≡ None))
            → (is_some (get ps child) ≡ true) × (living_in ps child ≡ None)
        from_kept (inl k) = t.kept pid child a here k
        from_kept (inr d) = d
    at p child c lives false is =
        let old : living_in ps p ≡ Some c = sym (living-put_other ps pid p (Living b) is) ∙ lives
        in (
          t.parent p child c old,
          (λ it. let o = t.listed p child c old it in (there-put ps pid child (Living b) o.0, o.1)),
          (λ it. dead child (t.kept p child c old it)),
        )

-- plain changes move no child

kept-filter : {X : Type 0} (p q : X → Bool) (es : List X) → list_any p (filter q es) ≡ true → list_any p es ≡ true
kept-filter p q [] h = h
kept-filter p q (e ∷ es) h = at (q e) (list_any p (filter q es)) h (kept-filter p q es)
  where
    either : (b : Bool) → (b || true) ≡ true
    either true = refl
    either false = refl

    at : (b any : Bool) → list_any p (cond b (e ∷ filter q es) (filter q es)) ≡ true
        → (list_any p (filter q es) ≡ true → list_any p es ≡ true) → (p e || list_any p es) ≡ true
    at false any h rec = rw (rec h) (either (p e))
    at true any h rec = here (p e) h
      where
        here : (x : Bool) → (x || list_any p (filter q es)) ≡ true → (x || list_any p es) ≡ true
        here true g = refl
        here false g = rec g

plain-lists : (change : Change) (a : Alive) (child : ℕ) → lists (after_change change a).row.family child ≡ true
    → lists a.row.family child ≡ true
plain-lists (Signals s) a child h = h
plain-lists (Raise sig) a child h = h
plain-lists (Reap c) a child h = h
plain-lists Spend a child h = h
plain-lists (Park call) a child h = h
plain-lists Answer a child h = h

plain-keeps : (change : Change) (a : Alive) (child : ℕ) → keeps (after_change change a).row.family child ≡ true
    → keeps a.row.family child ≡ true
plain-keeps (Signals s) a child h = h
plain-keeps (Raise sig) a child h = h
plain-keeps (Reap c) a child h =
    kept-filter (λ e. nat_eq child e.pid) (λ e. not (nat_eq c e.pid)) a.row.family.ended h
plain-keeps Spend a child h = h
plain-keeps (Park call) a child h = h
plain-keeps Answer a child h = h

-- a change that moves no living child keeps the table in order
pub IsTable-plain : (ps ns : Numbered Process) (parents : Numbered ℕ) (pid : ℕ) (change : Change) → IsTable ps parents
    → IsSome (living_in ps pid)
    → IfLiving ps pid (λ a. ns ≡ put ps pid (Living (after_change change a)))
    → IsRising ns → IsTable ns parents
IsTable-plain ps ns parents pid change t lives is rising = at (living_in ps pid) refl lives is
  where
    at : (o : Option Alive) → living_in ps pid ≡ o → IsSome o
        → IfSome o (λ a. ns ≡ put ps pid (Living (after_change change a))) → IsTable ns parents
    at None here some h = absurd (cc)
    at (Some a) here some h =
        rw h
        (IsTable-changed ps parents pid a (after_change change a) t here (plain-lists change a)
        (λ child k. inl (plain-keeps change a child k)) (rw h at rising))

-- a child that has ended

-- its parent's family, once the child that was found is gone
abbrev pub family_found : Family → Waited → Family
family_found f (Found child ending) = without_ended child f
family_found f NotYet = f
family_found f NoChild = f

end-family : (ignored : Bool) (b : Alive) (w : Waited)
    → (raise_chld ignored (after_waiting b w)).row.family ≡ family_found b.row.family w
end-family true b (Found child ending) = refl
end-family true b NotYet = refl
end-family true b NoChild = refl
end-family false b (Found child ending) = refl
end-family false b NotYet = refl
end-family false b NoChild = refl

parent_family : Alive → ℕ → Ending → Family
parent_family a c ending = family_after_end a.row.family c ending (ignores_children a.row)

after-family : (a : Alive) (c : ℕ) (ending : Ending)
    → (parent_after_end a c ending).row.family ≡ family_found (parent_family a c ending) (found_after_end a c ending)
unfolding parent_family
after-family a c ending = end-family (ignores_children a.row) _ (found_after_end a c ending)

found-lists : (f : Family) (w : Waited) (child : ℕ) → lists (family_found f w) child ≡ true → lists f child ≡ true
found-lists f (Found c ending) child h = h
found-lists f NotYet child h = h
found-lists f NoChild child h = h

found-keeps : (f : Family) (w : Waited) (child : ℕ) → keeps (family_found f w) child ≡ true → keeps f child ≡ true
found-keeps f (Found c ending) child h =
    kept-filter (λ e. nat_eq child e.pid) (λ e. not (nat_eq c e.pid)) f.ended h
found-keeps f NotYet child h = h
found-keeps f NoChild child h = h

others-list : (f : Family) (c : ℕ) (ending : Ending) (b : Bool) (child : ℕ)
    → lists (family_after_end f c ending b) child ≡ true
    → lists f child ≡ true
others-list f c ending b child h = kept-filter (nat_eq child) (λ x. not (nat_eq c x)) f.living h

-- who is kept after a child's end was kept before, or is that child
pub kept-or-ended : (f : Family) (c : ℕ) (ending : Ending) (b : Bool) (child : ℕ)
    → keeps (family_after_end f c ending b) child ≡ true
    → (keeps f child ≡ true) ⊎ (child ≡ c)
kept-or-ended f c ending true child h = inl h
kept-or-ended f c ending false child h = last f.ended h
  where
    last : (es : List EndedChild) → list_any (λ e. nat_eq child e.pid) (es ++ ended_child c ending ∷ []) ≡ true
        → (list_any (λ e. nat_eq child e.pid) es ≡ true) ⊎ (child ≡ c)
    last [] g = inr (same-from-nat_eq child c (only (nat_eq child c) g))
      where
        only : (x : Bool) → (x || false) ≡ true → x ≡ true
        only true k = refl
        only false k = k
    last (e ∷ es) g = first (nat_eq child e.pid) (list_any (λ x. nat_eq child x.pid) es) (last es) g
      where
        first : (x any : Bool)
            → (list_any (λ y. nat_eq child y.pid) (es ++ ended_child c ending ∷ []) ≡ true → (any ≡ true) ⊎ (child ≡ c))
            → (x || list_any (λ y. nat_eq child y.pid) (es ++ ended_child c ending ∷ [])) ≡ true → ((x || any) ≡ true)
            ⊎ (child ≡ c)
        first true any rec k = inl refl
        first false any rec k = rec k

ended-lists : (a : Alive) (c : ℕ) (ending : Ending) (child : ℕ)
    → lists (parent_after_end a c ending).row.family child ≡ true
    → lists a.row.family child ≡ true
unfolding parent_family
ended-lists a c ending child h =
    others-list a.row.family c ending (ignores_children a.row) child
    (found-lists (parent_family a c ending) (found_after_end a c ending) child
    (subst (λ (f : Family). lists f child ≡ true) (after-family a c ending) h))

ended-keeps : (a : Alive) (c : ℕ) (ending : Ending) (child : ℕ)
    → keeps (parent_after_end a c ending).row.family child ≡ true
    → (keeps a.row.family child ≡ true) ⊎ (child ≡ c)
unfolding parent_family
ended-keeps a c ending child h =
    kept-or-ended a.row.family c ending (ignores_children a.row) child
    (found-keeps (parent_family a c ending) (found_after_end a c ending) child
    (subst (λ (f : Family). keeps f child ≡ true) (after-family a c ending) h))

-- so does a child's end
pub IsTable-ended_child : (ps ns : Numbered Process) (parents : Numbered ℕ) (pid c : ℕ) (ending : Ending)
    → IsTable ps parents
    → IsSome (living_in ps pid) → IfLiving ps pid (λ a. lists a.row.family c ≡ true) → living_in ps c ≡ None
    → IfLiving ps pid (λ a. ns ≡ put ps pid (Living (parent_after_end a c ending))) → IsRising ns → IsTable ns parents
IsTable-ended_child ps ns parents pid c ending t lives listed ended is rising =
    at (living_in ps pid) refl lives listed is
  where
    at : (o : Option Alive) → living_in ps pid ≡ o → IsSome o → IfSome o (λ a. lists a.row.family c ≡ true)
        → IfSome o (λ a. ns ≡ put ps pid (Living (parent_after_end a c ending))) → IsTable ns parents
    at None here some l h = absurd (cc)
    at (Some a) here some l h =
        let there = (t.listed pid c a here l).0
        in let kept : (child : ℕ) → keeps (parent_after_end a c ending).row.family child ≡ true
        → (keeps a.row.family child ≡ true) ⊎ ((is_some (get ps child) ≡ true) × (living_in ps child ≡ None)) =
        λ child k. from (ended-keeps a c ending child k)
        in rw h
        (IsTable-changed ps parents pid a (parent_after_end a c ending) t here (ended-lists a c ending) kept
        (rw h at rising))
      where
        from : {child : ℕ} → (keeps a.row.family child ≡ true) ⊎ (child ≡ c)
            → (keeps a.row.family child ≡ true) ⊎ ((is_some (get ps child) ≡ true) × (living_in ps child ≡ None))
        from (inl k) = inl k
        from (inr same) = inr (rw same ((t.listed pid c a here l).0), rw same ended)

-- a new process

-- a parent noted for a number that isn't there does no harm
pub IsTable-stale : (ps : Numbered Process) (parents : Numbered ℕ) (n pid : ℕ) → IsTable ps parents → get ps n ≡ None
    → IsTable ps (put parents n pid)
IsTable-stale ps parents n pid t fresh =
    record {
      rising = t.rising;
      parent = λ p child a lives it. at p child a lives it (nat_eq child n) refl;
      listed = t.listed;
      kept = t.kept;
    }
  where
    at : (p child : ℕ) (a : Alive) → living_in ps p ≡ Some a → lists a.row.family child ≡ true → (b : Bool)
        → nat_eq child n ≡ b
        → get (put parents n pid) child ≡ Some p
    at p child a lives it true is =
        let there : is_some (get ps n) ≡ true = rw (← same-from-nat_eq child n is) ((t.listed p child a lives it).0)
        in let none : false ≡ true = rw fresh at there in absurd (cc)
    at p child a lives it false is = get-put-apart parents n child pid is ∙ t.parent p child a lives it

module _ (ps : Numbered Process) (parents : Numbered ℕ) (n pid : ℕ) (a : Alive) (t : IsTable ps parents)
    (here : living_in ps pid ≡ Some a) (fresh : get ps n ≡ None) where
  forked_table : Numbered Process
  forked_table = put (put ps n (Living (new_child a))) pid (Living (parent_after_fork a n))

  absent : (q : ℕ) → is_some (get ps q) ≡ true → nat_eq q n ≡ false
  absent q there = at (nat_eq q n) refl
    where
      at : (b : Bool) → nat_eq q n ≡ b → nat_eq q n ≡ false
      at true is =
          let some : is_some (get ps n) ≡ true = rw (← same-from-nat_eq q n is) there
          in let no : false ≡ true = rw fresh at some in absurd (cc)
      at false is = is

  flip : (x y : ℕ) → nat_eq x y ≡ false → nat_eq y x ≡ false
  flip x y g = grind arith

  caller_apart : nat_eq n pid ≡ false
  caller_apart = flip pid n (absent pid (there-living ps pid a here))

  there-forked : (q : ℕ) → is_some (get ps q) ≡ true → is_some (get forked_table q) ≡ true
  unfolding forked_table
  there-forked q there =
      there-put (put ps n (Living (new_child a))) pid q (Living (parent_after_fork a n))
      (there-put ps n q (Living (new_child a)) there)

  new-there : is_some (get forked_table n) ≡ true
  unfolding forked_table
  new-there = there-put (put ps n (Living (new_child a))) pid n (Living (parent_after_fork a n))
      (ap is_some (get-put-same ps n (Living (new_child a))))

  others-live : (q : ℕ) → nat_eq q pid ≡ false → nat_eq q n ≡ false → living_in forked_table q ≡ living_in ps q
  unfolding forked_table
  others-live q p r = living-put_other (put ps n (Living (new_child a))) pid q (Living (parent_after_fork a n)) p
      ∙ living-put_other ps n q (Living (new_child a)) r

  caller-lives : living_in forked_table pid ≡ Some (parent_after_fork a n)
  unfolding forked_table
  caller-lives = living-put_same (put ps n (Living (new_child a))) pid (Living (parent_after_fork a n))

  child-lives : living_in forked_table n ≡ Some (new_child a)
  unfolding forked_table
  child-lives = living-put_other (put ps n (Living (new_child a))) pid n (Living (parent_after_fork a n)) caller_apart
      ∙ living-put_same ps n (Living (new_child a))

  still-dead : (q : ℕ) → (is_some (get ps q) ≡ true) × (living_in ps q ≡ None)
      → (is_some (get forked_table q) ≡ true) × (living_in forked_table q ≡ None)
  still-dead q h = (there-forked q h.0, at (nat_eq q pid) refl)
    where
      at : (b : Bool) → nat_eq q pid ≡ b → living_in forked_table q ≡ None
      at true is = let some : living_in ps q ≡ Some a =
          rw (same-from-nat_eq q pid is) here in let dead : living_in ps q ≡ None = h.1 in absurd (cc)
      at false is = others-live q is (absent q h.0) ∙ h.1

  pushed : (child : ℕ) (xs : List ℕ) → list_any (nat_eq child) (xs ++ n ∷ []) ≡ true
      → (list_any (nat_eq child) xs ≡ true) ⊎ (child ≡ n)
  pushed child [] g = inr (same-from-nat_eq child n (only (nat_eq child n) g))
    where
      only : (x : Bool) → (x || false) ≡ true → x ≡ true
      only true k = refl
      only false k = k
  pushed child (x ∷ xs) g = first (nat_eq child x) (list_any (nat_eq child) xs) (pushed child xs) g
    where
      first : (y any : Bool) → (list_any (nat_eq child) (xs ++ n ∷ []) ≡ true → (any ≡ true) ⊎ (child ≡ n))
          → (y || list_any (nat_eq child) (xs ++ n ∷ [])) ≡ true → ((y || any) ≡ true) ⊎ (child ≡ n)
      first true any rec k = inl refl
      first false any rec k = rec k

  Fits : ℕ → ℕ → Alive → Type 0
  Fits p child c =
      (lists c.row.family child ≡ true → get (put parents n pid) child ≡ Some p)
      × (lists c.row.family child ≡ true → (is_some (get forked_table child) ≡ true) × (nat_eq child p ≡ false))
      × (keeps c.row.family child ≡ true → (is_some (get forked_table child) ≡ true)
      × (living_in forked_table child ≡ None))

  fits-old : (p child : ℕ) (c : Alive) → living_in ps p ≡ Some c → Fits p child c
  unfolding Fits
  fits-old p child c lives = (
    (λ it. get-put-apart parents n child pid (absent child (t.listed p child c lives it).0)
        ∙ t.parent p child c lives it),
    (λ it. let old = t.listed p child c lives it in (there-forked child old.0, old.1)),
    (λ it. still-dead child (t.kept p child c lives it)),
  )

  fits-caller : (child : ℕ) → Fits pid child (parent_after_fork a n)
  unfolding Fits
  fits-caller child = (
    (λ it. parent (pushed child a.row.family.living it)),
    (λ it. listed (pushed child a.row.family.living it)),
    (λ it. still-dead child (t.kept pid child a here it)),
  )
    where
      parent : (list_any (nat_eq child) a.row.family.living ≡ true) ⊎ (child ≡ n)
          → get (put parents n pid) child ≡ Some pid
      parent (inl old) = get-put-apart parents n child pid (absent child (t.listed pid child a here old).0)
          ∙ t.parent pid child a here old
      parent (inr same) = rw same (get-put-same parents n pid)

      listed : (list_any (nat_eq child) a.row.family.living ≡ true) ⊎ (child ≡ n)
          → (is_some (get forked_table child) ≡ true) × (nat_eq child pid ≡ false)
      listed (inl old) = let o = t.listed pid child a here old in (there-forked child o.0, o.1)
      listed (inr same) = (rw same new-there, rw same caller_apart)

  fits-child : (child : ℕ) → Fits n child (new_child a)
  unfolding Fits
  fits-child child = ((λ it. absurd (cc)), (λ it. absurd (cc)), (λ it. absurd (cc)))

  fits : (p child : ℕ) (c : Alive) → living_in forked_table p ≡ Some c → Fits p child c
  fits p child c lives = at (nat_eq p pid) refl
    where
      second : (b : Bool) → nat_eq p pid ≡ false → nat_eq p n ≡ b → Fits p child c
      second true apart is =
          let same : p ≡ n = same-from-nat_eq p n is
          in let new : Some (new_child a) ≡ Some c = sym child-lives ∙ (rw same at lives)
          in let it_is : c ≡ new_child a = cc
          in rw (same, it_is) (fits-child child)
      second false apart is = fits-old p child c (sym (others-live p apart is) ∙ lives)

      at : (b : Bool) → nat_eq p pid ≡ b → Fits p child c
      at true is =
          let same : p ≡ pid = same-from-nat_eq p pid is
          in let new : Some (parent_after_fork a n) ≡ Some c = sym caller-lives ∙ (rw same at lives)
          in let it_is : c ≡ parent_after_fork a n = cc
          in rw (same, it_is) (fits-caller child)
      at false is = second (nat_eq p n) is refl

  pub IsTable-forked : (ns : Numbered Process) → IsRising ns
      → IfLiving ps pid (λ b. ns ≡ put (put ps n (Living (new_child a))) pid (Living (parent_after_fork b n)))
      → IsTable ns (put parents n pid)
  unfolding forked_table Fits
  IsTable-forked ns rising is =
      let whole : ns ≡ forked_table = rw here at is
      in rw whole
      (record {
        rising = rw (← whole) rising;
        parent = λ p child c lives it. (fits p child c lives).0 it;
        listed = λ p child c lives it. (fits p child c lives).1 it;
        kept = λ p child c lives it. (fits p child c lives).2 it;
      })

-- a process that lives is in the table
pub there-alive : (ps : Numbered Process) (p : ℕ) → IsSome (living_in ps p) → is_some (get ps p) ≡ true
there-alive ps p some = at (living_in ps p) refl some
  where
    at : (o : Option Alive) → living_in ps p ≡ o → IsSome o → is_some (get ps p) ≡ true
    at None is h = absurd (cc)
    at (Some a) is h = there-living ps p a is
