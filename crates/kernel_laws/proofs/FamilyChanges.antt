-- What each change of the map of processes does to the families.
use Rattle.std.proofs.Common.{◌≡◌, ◌≢◌, ℕ, true, List, Some, None, refl, ap, sym, subst, ◌∙◌, inl, inr, ◌⊎◌}
use Rattle.std.specs.Prelude.{Contains}
use Rattle.std.proofs.lemmas.Bool.{cases_eq}
use Rattle.pico_base.specs.declared.reply.Ending.{Ending}
use Rattle.number_maps.specs.Maps.{Numbered, get, put}
use Rattle.kernel_model.specs.Row.{Alive, Family, no_family, lists, with_child, without_ended, EndedChild, ended_child}
use Rattle.kernel_model.specs.Kernel.{Process, Living, Ended, Gone}
use Rattle.kernel_laws.proofs.Plain.{not_some, not_true}
use Rattle.number_maps.proofs.LookUps.{get-put-same, get-put-other}
use Rattle.kernel_laws.proofs.Members.{contains-none, lists-child, without-back, without-on}
use Rattle.kernel_laws.proofs.Families.{Map, Lists, KeepsEnded, IsLiving, Families, Kept, Born, living-ended, living-gone, ended-gone, same-alive, at-once}

-- another process at one number
pub record Put (f g : Map) (k : ℕ) (v : Process) : Type 0 where
  pub here : g k ≡ Some v
  pub other : (q : ℕ) → q ≢ k → g q ≡ f q

-- a table with one value put, as a function
pub put-is : (ps : Numbered Process) (k : ℕ) (v : Process) → Put (get ps) (get (put ps k v)) k v
put-is ps k v = record { here = get-put-same ps k v; other = get-put-other ps k v }

put-here : (f g : Map) (k : ℕ) (v : Process) → Put f g k v → (q : ℕ) (w : Process) → g q ≡ Some w → q ≡ k → v ≡ w
put-here f g k v p q w h same = at-once (g k) v w p.here (ap g (sym same) ∙ h)

put-there : (f g : Map) (k : ℕ) (v : Process) → Put f g k v → (q : ℕ) (w : Process) → g q ≡ Some w → q ≢ k
    → f q ≡ Some w
put-there f g k v p q w h ne = sym (p.other q ne) ∙ h

put-stays : (f g : Map) (k : ℕ) (v : Process) → Put f g k v → (q : ℕ) (w : Process) → f q ≡ Some w → q ≢ k
    → g q ≡ Some w
put-stays f g k v p q w h ne = p.other q ne ∙ h

-- other processes at two numbers, one after the other
pub record Two (f g : Map) (k : ℕ) (u : Process) (l : ℕ) (v : Process) : Type 0 where
  pub first : g k ≡ Some u
  pub last : g l ≡ Some v
  pub other : (q : ℕ) → q ≢ k → q ≢ l → g q ≡ f q

-- two values put one after the other
pub two-puts : (f m g : Map) (k l : ℕ) (u v : Process) → k ≢ l → Put f m k u → Put m g l v → Two f g k u l v
two-puts f m g k l u v ne p r =
    record { first = r.other k ne ∙ p.here; last = r.here; other = λ q a b. r.other q b ∙ p.other q a }

-- where a process of the new map is from
pub data From (f : Map) (k : ℕ) (u : Process) (l : ℕ) (v : Process) (q : ℕ) (w : Process) : Type 0 where
  AtFirst : (same : q ≡ k) (is : u ≡ w) → From f k u l v q w
  AtLast : (same : q ≡ l) (is : v ≡ w) → From f k u l v q w
  Elsewhere : (first : q ≢ k) (last : q ≢ l) (was : f q ≡ Some w) → From f k u l v q w

-- where a value after two puts comes from
pub from : (f g : Map) (k : ℕ) (u : Process) (l : ℕ) (v : Process) → Two f g k u l v → (q : ℕ) (w : Process)
    → g q ≡ Some w → From f k u l v q w
from f g k u l v t q w h =
    elim (cases_eq q k) [
      | inl a ↦ AtFirst a (at-once (g k) u w t.first (ap g (sym a) ∙ h))
      | inr a ↦
          elim (cases_eq q l) [
            | inl b ↦ AtLast b (at-once (g l) v w t.last (ap g (sym b) ∙ h))
            | inr b ↦ Elsewhere a b (sym (t.other q a b) ∙ h)
          ]
    ]

-- two numbers that have different processes are different
pub different : (f : Map) (q k : ℕ) (w v : Process) → f q ≡ Some w → f k ≡ Some v → (w ≡ v → ⊥) → q ≢ k
different f q k w v h g absent same = absent (at-once (f q) w v h (ap f same ∙ g))

-- 1. a living process with the same family

-- of every number
abbrev pub Each : ℕ → Type 0
Each c = Unit {0}

same-alive-back : (f g : Map) (pid : ℕ) (a b : Alive) → Put f g pid (Living b) → f pid ≡ Some (Living a)
    → b.row.family ≡ a.row.family
    → (p : ℕ) (x : Alive) → g p ≡ Some (Living x) → (y : Alive) × (f p ≡ Some (Living y))
    × (x.row.family ≡ y.row.family)
same-alive-back f g pid a b t l e p x h =
    elim (cases_eq p pid) [
      | inl same ↦
          let is : b ≡ x = same-alive b x (put-here f g pid (Living b) t p (Living x) h same)
          in (a, ap f same ∙ l, ap (λ (z : Alive). z.row.family) (sym is) ∙ e)
      | inr ne ↦ (x, put-there f g pid (Living b) t p (Living x) h ne, refl)
    ]

same-alive-on : (f g : Map) (pid : ℕ) (a b : Alive) → Put f g pid (Living b) → f pid ≡ Some (Living a)
    → b.row.family ≡ a.row.family
    → (p : ℕ) (x : Alive) → f p ≡ Some (Living x) → (y : Alive) × (g p ≡ Some (Living y))
    × (x.row.family ≡ y.row.family)
same-alive-on f g pid a b t l e p x h =
    elim (cases_eq p pid) [
      | inl same ↦
          let is : a ≡ x = same-alive a x (at-once (f pid) (Living a) (Living x) l (ap f (sym same) ∙ h))
          in (b, ap g same ∙ t.here, ap (λ (z : Alive). z.row.family) (sym is) ∙ sym e)
      | inr ne ↦ (x, put-stays f g pid (Living b) t p (Living x) h ne, refl)
    ]

lists-in : (f : Map) (p c : ℕ) (x y : Alive) → lists x.row.family c ≡ true → f p ≡ Some (Living y)
    → x.row.family ≡ y.row.family → Lists f p c
lists-in f p c x y h l e = record { alive = y; there = l; listed = subst (λ (z : Family). lists z c ≡ true) e h }

keeps-in : (f : Map) (p c : ℕ) (d : Ending) (x y : Alive) → Contains x.row.family.ended (ended_child c d)
    → f p ≡ Some (Living y) → x.row.family ≡ y.row.family → KeepsEnded f p c d
keeps-in f p c d x y h l e =
    record { alive = y; there = l; kept = subst (λ (z : Family). Contains z.ended (ended_child c d)) e h }

same-lists : (f g : Map) (pid : ℕ) (a b : Alive) → Put f g pid (Living b) → f pid ≡ Some (Living a)
    → b.row.family ≡ a.row.family
    → (p c : ℕ) → Lists g p c → Lists f p c
same-lists f g pid a b t l e p c h =
    let w = same-alive-back f g pid a b t l e p h.alive h.there in lists-in f p c h.alive w.0 h.listed w.1 w.2

same-keeps-back : (f g : Map) (pid : ℕ) (a b : Alive) → Put f g pid (Living b) → f pid ≡ Some (Living a)
    → b.row.family ≡ a.row.family
    → (p c : ℕ) (d : Ending) → KeepsEnded g p c d → KeepsEnded f p c d
same-keeps-back f g pid a b t l e p c d h =
    let w = same-alive-back f g pid a b t l e p h.alive h.there in keeps-in f p c d h.alive w.0 h.kept w.1 w.2

same-keeps-on : (f g : Map) (pid : ℕ) (a b : Alive) → Put f g pid (Living b) → f pid ≡ Some (Living a)
    → b.row.family ≡ a.row.family
    → (p c : ℕ) (d : Ending) → KeepsEnded f p c d → KeepsEnded g p c d
same-keeps-on f g pid a b t l e p c d h =
    let w = same-alive-on f g pid a b t l e p h.alive h.there in keeps-in g p c d h.alive w.0 h.kept w.1 w.2

same-lives : (f g : Map) (pid : ℕ) (a b : Alive) → Put f g pid (Living b) → f pid ≡ Some (Living a)
    → b.row.family ≡ a.row.family
    → (c : ℕ) → IsLiving f c → IsLiving g c
same-lives f g pid a b t l e c h =
    let w = same-alive-on f g pid a b t l e c h.alive h.there in record { alive = w.0; there = w.1 }

-- another value with the same family
pub kept-same : (f g : Map) (pid : ℕ) (a b : Alive) → Put f g pid (Living b) → f pid ≡ Some (Living a)
    → b.row.family ≡ a.row.family → Kept f g Each
kept-same f g pid a b t l e =
    record {
      lists_back = same-lists f g pid a b t l e;
      keeps_back = λ p c d h. (same-keeps-back f g pid a b t l e p c d h, tt);
      keeps_on = λ p c d h n. same-keeps-on f g pid a b t l e p c d h;
      lives_on = same-lives f g pid a b t l e;
      ended_back = λ c d h.
          let ne = different g c pid (Ended d) (Living b) h t.here (λ s. living-ended b d (sym s))
          in (put-there f g pid (Living b) t c (Ended d) h ne, tt);
      ended_on = λ c d h n.
          let ne = different f c pid (Ended d) (Living a) h l (λ s. living-ended a d (sym s))
          in put-stays f g pid (Living b) t c (Ended d) h ne;
    }

-- 2. a fork

absent-different : (f : Map) (q n : ℕ) (w : Process) → f q ≡ Some w → f n ≡ None → q ≢ n
absent-different f q n w h g same = not_some w (sym g ∙ (ap f (sym same) ∙ h))

born-lists : (f g : Map) (pid n : ℕ) (a child parent : Alive) → Two f g n (Living child) pid (Living parent)
    → f pid ≡ Some (Living a)
    → child.row.family ≡ no_family → parent.row.family ≡ with_child a.row.family n
    → (p c : ℕ) → Lists g p c → Lists f p c ⊎ ((p ≡ pid) × (c ≡ n))
born-lists f g pid n a child parent t l none more p c h =
    elim (from f g n (Living child) pid (Living parent) t p (Living h.alive) h.there) [
      | AtFirst same is ↦
          let e : no_family ≡ h.alive.row.family =
          sym none ∙ ap (λ (z : Alive). z.row.family) (same-alive child h.alive is)
          in absurd (not_true {B = ⊥} (subst (λ (z : Family). lists z c ≡ true) (sym e) h.listed))
      | AtLast same is ↦
          let e : with_child a.row.family n ≡ h.alive.row.family =
          sym more ∙ ap (λ (z : Alive). z.row.family) (same-alive parent h.alive is)
          in elim (lists-child a.row.family n c (subst (λ (z : Family). lists z c ≡ true) (sym e) h.listed)) [
            | inl old ↦ inl (record { alive = a; there = ap f same ∙ l; listed = old })
            | inr new ↦ inr (same, new)
          ]
      | Elsewhere first last was ↦ inl (record { alive = h.alive; there = was; listed = h.listed })
    ]

born-keeps : (f g : Map) (pid n : ℕ) (a child parent : Alive) → Two f g n (Living child) pid (Living parent)
    → f pid ≡ Some (Living a)
    → child.row.family ≡ no_family → parent.row.family ≡ with_child a.row.family n
    → (p c : ℕ) (d : Ending) → KeepsEnded g p c d → KeepsEnded f p c d
born-keeps f g pid n a child parent t l none more p c d h =
    elim (from f g n (Living child) pid (Living parent) t p (Living h.alive) h.there) [
      | AtFirst same is ↦
          let e : no_family ≡ h.alive.row.family =
          sym none ∙ ap (λ (z : Alive). z.row.family) (same-alive child h.alive is)
          in absurd (contains-none (ended_child c d)
          (subst (λ (z : Family). Contains z.ended (ended_child c d)) (sym e) h.kept))
      | AtLast same is ↦
          let e : with_child a.row.family n ≡ h.alive.row.family =
          sym more ∙ ap (λ (z : Alive). z.row.family) (same-alive parent h.alive is)
          in record {
            alive = a;
            there = ap f same ∙ l;
            kept =
                subst (λ (z : Family). Contains z.ended (ended_child c d)) (sym e) h.kept;
          }
      | Elsewhere first last was ↦ record { alive = h.alive; there = was; kept = h.kept }
    ]

born-keeps-on : (f g : Map) (pid n : ℕ) (a child parent : Alive) → Two f g n (Living child) pid (Living parent)
    → f pid ≡ Some (Living a) → f n ≡ None
    → parent.row.family ≡ with_child a.row.family n → (p c : ℕ) (d : Ending) → KeepsEnded f p c d → KeepsEnded g p c d
born-keeps-on f g pid n a child parent t l absent more p c d h =
    elim (cases_eq p pid) [
      | inl same ↦
          let is : h.alive ≡ a =
          same-alive h.alive a (at-once (f p) (Living h.alive) (Living a) h.there (ap f same ∙ l))
          in let e : h.alive.row.family.ended ≡ parent.row.family.ended =
          ap (λ (z : Alive). z.row.family.ended) is ∙ ap (λ (z : Family). z.ended) (sym more)
          in record {
            alive = parent;
            there = ap g same ∙ t.last;
            kept =
                subst (λ (z : List EndedChild). Contains z (ended_child c d)) e h.kept;
          }
      | inr ne ↦
          record {
            alive = h.alive;
            there =
                t.other p (absent-different f p n (Living h.alive) h.there absent) ne ∙ h.there;
            kept = h.kept;
          }
    ]

born-lives : (f g : Map) (pid n : ℕ) (child parent : Alive) → Two f g n (Living child) pid (Living parent) → f n ≡ None
    → (c : ℕ) → IsLiving f c → IsLiving g c
born-lives f g pid n child parent t absent c h =
    elim (cases_eq c pid) [
      | inl same ↦ record { alive = parent; there = ap g same ∙ t.last }
      | inr ne ↦ record {
        alive = h.alive;
        there =
            t.other c (absent-different f c n (Living h.alive) h.there absent) ne ∙ h.there;
      }
    ]

born-ended : (f g : Map) (pid n : ℕ) (child parent : Alive) → Two f g n (Living child) pid (Living parent)
    → (c : ℕ) (d : Ending) → g c ≡ Some (Ended d) → f c ≡ Some (Ended d)
born-ended f g pid n child parent t c d h =
    elim (from f g n (Living child) pid (Living parent) t c (Ended d) h) [
      | AtFirst same is ↦ living-ended child d is
      | AtLast same is ↦ living-ended parent d is
      | Elsewhere first last was ↦ was
    ]

-- a child and its parent put into the table are a fork
pub born-is : (f g : Map) (pid n : ℕ) (a child parent : Alive) → Two f g n (Living child) pid (Living parent)
    → f pid ≡ Some (Living a) → f n ≡ None
    → child.row.family ≡ no_family → parent.row.family ≡ with_child a.row.family n → Born f g pid n
born-is f g pid n a child parent t l absent none more =
    record {
      parent = record { alive = a; there = l };
      absent = absent;
      lists_back = born-lists f g pid n a child parent t l none more;
      keeps_back = born-keeps f g pid n a child parent t l none more;
      keeps_on = born-keeps-on f g pid n a child parent t l absent more;
      lives_on = born-lives f g pid n child parent t absent;
      lives_new = record { alive = child; there = t.first };
      ended_back = born-ended f g pid n child parent t;
      ended_on = λ c d h.
          t.other c (absent-different f c n (Ended d) h absent)
          (different f c pid (Ended d) (Living a) h l (λ s. living-ended a d (sym s))) ∙ h;
    }

-- 3. a child is reaped

-- of every other number
abbrev pub Not : ℕ → ℕ → Type 0
Not child c = c ≢ child

-- with what is known before: the process lives, and the child has ended
pub record Reap (f g : Map) (pid child : ℕ) (a b : Alive) (ending : Ending) : Type 0 where
  pub two : Two f g pid (Living b) child Gone
  pub lives : f pid ≡ Some (Living a)
  pub dead : f child ≡ Some (Ended ending)
  pub less : b.row.family ≡ without_ended child a.row.family

reap-lists : (f g : Map) (pid child : ℕ) (a b : Alive) (ending : Ending) → Reap f g pid child a b ending → (p c : ℕ)
    → Lists g p c → Lists f p c
reap-lists f g pid child a b ending r p c h =
    elim (from f g pid (Living b) child Gone r.two p (Living h.alive) h.there) [
      | AtFirst same is ↦
          let e : h.alive.row.family ≡ without_ended child a.row.family =
          ap (λ (z : Alive). z.row.family) (sym (same-alive b h.alive is)) ∙ r.less
          in record {
            alive = a;
            there = ap f same ∙ r.lives;
            listed =
                subst (λ (z : Family). lists z c ≡ true) e h.listed;
          }
      | AtLast same is ↦ living-gone h.alive (sym is)
      | Elsewhere first last was ↦ record { alive = h.alive; there = was; listed = h.listed }
    ]

-- no other process keeps the child
reap-other : (f g : Map) (pid child : ℕ) (a b : Alive) (ending : Ending) → Families f → Reap f g pid child a b ending
    → Contains a.row.family.ended (ended_child child ending)
    → (p c : ℕ) (d : Ending) → KeepsEnded f p c d → p ≢ pid → c ≢ child
reap-other f g pid child a b ending fam r k p c d h ne same =
    ne (fam.one_keeper p pid child d ending (subst (λ (x : ℕ). KeepsEnded f p x d) same h)
    (record { alive = a; there = r.lives; kept = k }))

reap-keeps : (f g : Map) (pid child : ℕ) (a b : Alive) (ending : Ending) → Families f → Reap f g pid child a b ending
    → Contains a.row.family.ended (ended_child child ending)
    → (p c : ℕ) (d : Ending) → KeepsEnded g p c d → KeepsEnded f p c d × Not child c
reap-keeps f g pid child a b ending fam r k p c d h =
    elim (from f g pid (Living b) child Gone r.two p (Living h.alive) h.there) [
      | AtFirst same is ↦
          let e : h.alive.row.family ≡ without_ended child a.row.family =
          ap (λ (z : Alive). z.row.family) (sym (same-alive b h.alive is)) ∙ r.less
          in let w = without-back a.row.family child c d
          (subst (λ (z : Family). Contains z.ended (ended_child c d)) e h.kept)
          in (record { alive = a; there = ap f same ∙ r.lives; kept = w.0 }, w.1)
      | AtLast same is ↦ living-gone h.alive (sym is)
      | Elsewhere first last was ↦
          let old : KeepsEnded f p c d =
          record {
            alive = h.alive;
            there = was;
            kept =
                h.kept;
          } in (old, reap-other f g pid child a b ending fam r k p c d old first)
    ]

reap-alive : (f g : Map) (pid child : ℕ) (a b : Alive) (ending : Ending) → Reap f g pid child a b ending
    → (p : ℕ) (x : Alive) → f p ≡ Some (Living x) → p ≢ child
reap-alive f g pid child a b ending r p x h =
    different f p child (Living x) (Ended ending) h r.dead (living-ended x ending)

reap-keeps-on : (f g : Map) (pid child : ℕ) (a b : Alive) (ending : Ending) → Reap f g pid child a b ending
    → (p c : ℕ) (d : Ending) → KeepsEnded f p c d → c ≢ child → KeepsEnded g p c d
reap-keeps-on f g pid child a b ending r p c d h ne =
    elim (cases_eq p pid) [
      | inl same ↦
          let is : h.alive ≡ a =
          same-alive h.alive a (at-once (f p) (Living h.alive) (Living a) h.there (ap f same ∙ r.lives))
          in let k : Contains a.row.family.ended (ended_child c d) =
          subst (λ (z : Alive). Contains z.row.family.ended (ended_child c d)) is h.kept
          in record {
            alive = b;
            there = ap g same ∙ r.two.first;
            kept = subst (λ (z : Family). Contains z.ended (ended_child c d)) (sym r.less)
                (without-on a.row.family child c d k ne);
          }
      | inr other ↦
          record {
            alive = h.alive;
            there =
                r.two.other p other (reap-alive f g pid child a b ending r p h.alive h.there) ∙ h.there;
            kept = h.kept;
          }
    ]

reap-lives : (f g : Map) (pid child : ℕ) (a b : Alive) (ending : Ending) → Reap f g pid child a b ending → (c : ℕ)
    → IsLiving f c → IsLiving g c
reap-lives f g pid child a b ending r c h =
    elim (cases_eq c pid) [
      | inl same ↦ record { alive = b; there = ap g same ∙ r.two.first }
      | inr other ↦ record {
        alive = h.alive;
        there =
            r.two.other c other (reap-alive f g pid child a b ending r c h.alive h.there) ∙ h.there;
      }
    ]

reap-ended : (f g : Map) (pid child : ℕ) (a b : Alive) (ending : Ending) → Reap f g pid child a b ending
    → (c : ℕ) (d : Ending) → g c ≡ Some (Ended d) → (f c ≡ Some (Ended d)) × Not child c
reap-ended f g pid child a b ending r c d h =
    elim (from f g pid (Living b) child Gone r.two c (Ended d) h) [
      | AtFirst same is ↦ living-ended b d is
      | AtLast same is ↦ ended-gone d (sym is)
      | Elsewhere first last was ↦ (was, last)
    ]

-- a child that was waited for falls away, and all else stays
pub kept-reap : (f g : Map) (pid child : ℕ) (a b : Alive) (ending : Ending) → Families f → Reap f g pid child a b ending
    → Contains a.row.family.ended (ended_child child ending)
    → Kept f g (Not child)
kept-reap f g pid child a b ending fam r k =
    record {
      lists_back = reap-lists f g pid child a b ending r;
      keeps_back = reap-keeps f g pid child a b ending fam r k;
      keeps_on = reap-keeps-on f g pid child a b ending r;
      lives_on = reap-lives f g pid child a b ending r;
      ended_back = reap-ended f g pid child a b ending r;
      ended_on = λ c d h ne.
          r.two.other c (different f c pid (Ended d) (Living a) h r.lives (λ s. living-ended a d (sym s))) ne ∙ h;
    }
