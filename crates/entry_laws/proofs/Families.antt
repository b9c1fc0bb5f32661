-- Who lists whom after a fork, a wait and an end; and whose child a process is.
use Rattle.std.proofs.Common.{◌≡◌, ◌≢◌, ℕ, Bool, true, false, not, ◌||◌, List, [], ◌∷◌, ◌++◌, Option, Some, None, refl, ap, sym, ◌∙◌, inl, inr, nat_eq}
use Rattle.std.specs.List.{list_any}
use Rattle.std.specs.Option.{option_map}
use Rattle.std.proofs.lemmas.Bool.{cases_Bool, eq-eqb, ne_eqb, eqb-true, or_left, or_right, or_cases, not_from_false, false≢true}
use Rattle.pico_base.specs.declared.numbers.Name.TheVariants.{Proc}
use Rattle.pico_base.specs.declared.reply.Ending.{Ending}
use Rattle.number_maps.proofs.LookUps.{filter-kept, filter-dropped}
use Rattle.kernel_model.specs.Row.{Alive, Family, Row, family_after_end, lists, others, with_child}
use Rattle.kernel_model.specs.Kernel.{Kernel, Parent, living_at, parent_in}
use Rattle.kernel_model.specs.Footprint.{parent_number}
use Rattle.kernel_model.specs.Valid.{IsValid}
use Rattle.kernel_laws.proofs.EndChanges.{orphan, parent-is}
use Rattle.kernel_laws.proofs.Members.{lists-end}
use Rattle.kernel_laws.proofs.People.{from-living, to-living}
use Rattle.node_model.specs.Bodies.{Body, Living, Ended, Gone, AQueue, ASet, Removed, body_in}
use Rattle.serve_laws.specs.Ends.{parent_by}
use Rattle.entry_laws.specs.Entering.{IsChildOf}
use Rattle.entry_laws.proofs.Bodies.{body-living, living-body}

-- ---- forks

any-append : (m : ℕ) (xs ys : List ℕ) → list_any (nat_eq m) xs ≡ true → list_any (nat_eq m) (xs ++ ys) ≡ true
any-append m [] ys h = absurd (false≢true h)
any-append m (x ∷ xs) ys h =
    elim (or_cases (nat_eq m x) (list_any (nat_eq m) xs) h) [
      | inl first ↦ or_left (nat_eq m x) (list_any (nat_eq m) (xs ++ ys)) first
      | inr later ↦ or_right (nat_eq m x) (list_any (nat_eq m) (xs ++ ys)) (any-append m xs ys later)
    ]

any-last : (m : ℕ) (xs : List ℕ) → list_any (nat_eq m) (xs ++ m ∷ []) ≡ true
any-last m [] = ap (λ (t : Bool). t || false) (eq-eqb m m refl)
any-last m (x ∷ xs) = or_right (nat_eq m x) (list_any (nat_eq m) (xs ++ m ∷ [])) (any-last m xs)

-- the children listed before are listed, and the new one is
pub lists-child-on : (f : Family) (child c : ℕ) → lists f c ≡ true → lists (with_child f child) c ≡ true
lists-child-on f child c h = any-append c f.living (child ∷ []) h

-- a new child is listed
pub lists-child-new : (f : Family) (child : ℕ) → lists (with_child f child) child ≡ true
lists-child-new f child = any-last child f.living

any-append-not : (m x : ℕ) (xs : List ℕ) → m ≢ x → list_any (nat_eq m) xs ≡ false
    → list_any (nat_eq m) (xs ++ x ∷ []) ≡ false
any-append-not m x [] apart h = ap (λ (t : Bool). t || false) (ne_eqb m x apart)
any-append-not m x (y ∷ ys) apart h =
    elim (cases_Bool (nat_eq m y)) [
      | inl t ↦ absurd (false≢true (sym h ∙ ap (λ (b : Bool). b || list_any (nat_eq m) ys) t))
      | inr f ↦
          ap (λ (b : Bool). b || list_any (nat_eq m) (ys ++ x ∷ [])) f
          ∙ any-append-not m x ys apart (sym (ap (λ (b : Bool). b || list_any (nat_eq m) ys) f) ∙ h)
    ]

-- and nobody else
pub lists-child-not : (f : Family) (child c : ℕ) → c ≢ child → lists f c ≡ false → lists (with_child f child) c ≡ false
lists-child-not f child c apart h = any-append-not c child f.living apart h

-- ---- ends

any-others-on : (n : ℕ) (ns : List ℕ) (m : ℕ) → m ≢ n → list_any (nat_eq m) ns ≡ true
    → list_any (nat_eq m) (others n ns) ≡ true
any-others-on n [] m apart h = h
any-others-on n (x ∷ ns) m apart h =
    let p : ℕ → Bool = λ c. not (nat_eq n c)
    in elim (cases_Bool (nat_eq n x)) [
      | inl t ↦
          let is : n ≡ x = eqb-true n x t
          in ap (λ zs. list_any (nat_eq m) zs) (filter-dropped p x ns (ap not t))
          ∙ any-others-on n ns m apart
          (elim (or_cases (nat_eq m x) (list_any (nat_eq m) ns) h) [
            | inl first ↦ absurd (apart (eqb-true m x first ∙ sym is))
            | inr later ↦ later
          ])
      | inr f ↦
          ap (λ zs. list_any (nat_eq m) zs) (filter-kept p x ns (not_from_false (nat_eq n x) f))
          ∙ elim (or_cases (nat_eq m x) (list_any (nat_eq m) ns) h) [
            | inl first ↦ or_left (nat_eq m x) (list_any (nat_eq m) (others n ns)) first
            | inr later ↦
                or_right (nat_eq m x) (list_any (nat_eq m) (others n ns)) (any-others-on n ns m apart later)
          ]
    ]

-- the other children are still listed, and the one that has ended isn't
pub lists-end-on : (f : Family) (n : ℕ) (e : Ending) (ignored : Bool) (c : ℕ) → c ≢ n → lists f c ≡ true
    → lists (family_after_end f n e ignored) c ≡ true
lists-end-on f n e ignored c apart h = any-others-on n f.living c apart h

-- a child that has ended isn't listed as living
pub lists-end-not : (f : Family) (n : ℕ) (e : Ending) (ignored : Bool)
    → lists (family_after_end f n e ignored) n ≡ false
lists-end-not f n e ignored = by (lists (family_after_end f n e ignored) n) refl
  where
    by : (t : Bool) → lists (family_after_end f n e ignored) n ≡ t → lists (family_after_end f n e ignored) n ≡ false
    by false h = h
    by true h = absurd ((lists-end f n e ignored n h).1 refl)

-- who wasn't listed isn't
pub lists-end-still-not : (f : Family) (n : ℕ) (e : Ending) (ignored : Bool) (c : ℕ) → lists f c ≡ false
    → lists (family_after_end f n e ignored) c ≡ false
lists-end-still-not f n e ignored c not = by (lists (family_after_end f n e ignored) c) refl
  where
    by : (t : Bool) → lists (family_after_end f n e ignored) c ≡ t → lists (family_after_end f n e ignored) c ≡ false
    by false h = h
    by true h = absurd (false≢true (sym not ∙ (lists-end f n e ignored c h).0))

-- ---- whose child a process is

nobody-lists : (k : Kernel) (pid parent : ℕ) (body : Body) → IsChildOf k pid parent body
    → parent_in pid k.processes ≡ None → (row : Row) → body ≡ Living row → ⊥
nobody-lists k pid parent body c none row living =
    let h = body-living k parent row (c.is ∙ living)
    in let not : lists h.alive.row.family pid ≡ false =
    orphan pid k.processes none parent h.alive (from-living k.processes parent h.alive h.lives)
    in let listed : lists h.alive.row.family pid ≡ true =
    ap (λ (r : Row). lists r.family pid) h.row_is ∙ c.listed row living
    in false≢true (sym not ∙ listed)

no-number : (parent : ℕ) (body : Body) → ((row : Row) → body ≡ Living row → ⊥) → None ≡ parent_by parent body
no-number parent (Living row) h = absurd (h row refl)
no-number parent (Ended e) h = refl
no-number parent Gone h = refl
no-number parent (AQueue q) h = refl
no-number parent (ASet s) h = refl
no-number parent Removed h = refl

number-by : (k : Kernel) (pid parent : ℕ) (body : Body) → IsValid k → IsChildOf k pid parent body
    → (o : Option Parent) → parent_in pid k.processes ≡ o → option_map (λ p. p.pid) o ≡ parent_by parent body
number-by k pid parent body valid c None is = no-number parent body (nobody-lists k pid parent body c is)
number-by k pid parent body valid c (Some p) is =
    let w = parent-is pid k.processes valid.processes p is
    in let lives : living_at k p.pid ≡ Some p.alive = to-living k.processes p.pid p.alive w.0
    in let same : p.pid ≡ parent = c.only p.pid p.alive lives w.1
    in let living : body ≡ Living p.alive.row =
    sym c.is ∙ ap (λ (q : ℕ). body_in k (Proc q)) (sym same) ∙ living-body k p.pid p.alive lives
    in ap Some same ∙ sym (ap (parent_by parent) living)

-- the kernel finds this parent, if it lives
pub parent-number : (k : Kernel) (pid parent : ℕ) (body : Body) → IsValid k → IsChildOf k pid parent body
    → parent_number k pid ≡ parent_by parent body
parent-number k pid parent body valid c = number-by k pid parent body valid c (parent_in pid k.processes) refl

-- a process that nobody lists has none
orphan-by : (k : Kernel) (pid : ℕ) → IsValid k
    → ((p : ℕ) (a : Alive) → living_at k p ≡ Some a → lists a.row.family pid ≡ true → ⊥)
    → (o : Option Parent) → parent_in pid k.processes ≡ o → o ≡ None
orphan-by k pid valid none None is = refl
orphan-by k pid valid none (Some p) is =
    let w = parent-is pid k.processes valid.processes p is
    in absurd (none p.pid p.alive (to-living k.processes p.pid p.alive w.0) w.1)

-- who is listed by nobody has no parent
pub no-parent : (k : Kernel) (pid : ℕ) → IsValid k
    → ((p : ℕ) (a : Alive) → living_at k p ≡ Some a → lists a.row.family pid ≡ true → ⊥)
    → parent_in pid k.processes ≡ None
no-parent k pid valid none = orphan-by k pid valid none (parent_in pid k.processes) refl
