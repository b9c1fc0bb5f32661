-- Who lists whom, and what holds of each living process, as an entry changes the map of processes.
use Rattle.std.proofs.Common.{◌≡◌, ◌≢◌, ◌⊎◌, ◌∙◌, ℕ, Bool, true, false, not, cond, nat_eq, List, [], ◌∷◌, ◌++◌, fold, Option, Some, None, refl, ap, sym, subst, inl, inr}
use Rattle.std.specs.List.{list_any}
use Rattle.std.specs.List.Sorted.{IsStrictlySortedBy}
use Rattle.std.specs.Map.{keys_of}
use Rattle.std.specs.Option.{option_map, option_and_then}
use Rattle.std.specs.Ordering.{nat_cmp}
use Rattle.std.proofs.lemmas.Bool.{cases_eq, false≢true, or_left, or_right, or_cases, eqb-true}
use Rattle.number_maps.specs.Maps.{Numbered, get, put, is_used, used_with}
use Rattle.number_maps.specs.Rising.{IsRising}
use Rattle.number_maps.proofs.Rising.{rising-put}
use Rattle.number_maps.proofs.LookUps.{get-put-same, get-put-other}
use Rattle.number_maps.proofs.Sets.{used-stays, used-with-same}
use Rattle.kernel_model.specs.Row.{EndedChild, lists, others}
use Rattle.kernel_laws.proofs.Plain.{from_some, not_some}
use Rattle.waiting_model.specs.declared.callers.Wake.{Wake}
use Rattle.waiting_model.specs.Marks.{Alive, after_reply}
use Rattle.waiting_model.specs.Kernel.{Process, Living, Ended, Gone, alive_in, change_living, living_in, where_living, wake_one}
use Rattle.waiting_model.specs.ProcessCalls.{bury, new_child, parent_after_fork, processes_after_fork}
use Rattle.waiting_footprint_laws.proofs.Changed.{changed-same, changed-other}

-- The map of processes: each living process has P, whom it lists has a used number, and nobody else lists it.
pub record People (P : ℕ → Alive → Type 0) (ps : Numbered Process) (used : List ℕ) : Type 0 where
  pub rising : IsRising ps
  pub each : (p : ℕ) (a : Alive) → living_in ps p ≡ Some a → P p a
  pub listed : (p c : ℕ) (a : Alive) → living_in ps p ≡ Some a → lists a.row.family c ≡ true → is_used used c ≡ true
  pub one_parent : (p q : ℕ) (a b : Alive) (c : ℕ) → living_in ps p ≡ Some a → living_in ps q ≡ Some b
      → lists a.row.family c ≡ true → lists b.row.family c ≡ true → p ≡ q

-- a process that lives has P, and was in the map with all the children that it lists
pub record Came (P : ℕ → Alive → Type 0) (ps : Numbered Process) (p : ℕ) (b : Alive) : Type 0 where
  pub alive : Alive
  pub lived : living_in ps p ≡ Some alive
  pub listed : (c : ℕ) → lists b.row.family c ≡ true → lists alive.row.family c ≡ true
  pub has : P p b

-- no one is born, and no one lists more
pub record Moves (P : ℕ → Alive → Type 0) (ps qs : Numbered Process) : Type 0 where
  pub rising : IsRising qs
  pub came : (p : ℕ) (b : Alive) → living_in qs p ≡ Some b → Came P ps p b

-- all stays in order
pub people-moved : (P Q : ℕ → Alive → Type 0) (ps qs : Numbered Process) (used : List ℕ) → People P ps used
    → Moves Q ps qs → People Q qs used
people-moved P Q ps qs used people m =
    record {
      rising = m.rising;
      each = λ p b l. (m.came p b l).has;
      listed = λ p c b l h.
          let w = m.came p b l in people.listed p c w.alive w.lived (w.listed c h);
      one_parent = λ p q a b c l next x y.
          let v = m.came p a l
          in let w = m.came q b next
          in people.one_parent p q v.alive w.alive c v.lived w.lived (v.listed c x) (w.listed c y);
    }

-- One change after the other.

living-put-same : (ps : Numbered Process) (n : ℕ) (v : Process) (p : ℕ) → p ≡ n
    → living_in (put ps n v) p ≡ alive_in v
living-put-same ps n v p e =
    subst (λ (q : ℕ). living_in (put ps n v) q ≡ alive_in v) (sym e)
    (ap (option_and_then alive_in) (get-put-same ps n v))

living-put-other : (ps : Numbered Process) (n : ℕ) (v : Process) (p : ℕ) → p ≢ n
    → living_in (put ps n v) p ≡ living_in ps p
living-put-other ps n v p ne = ap (option_and_then alive_in) (get-put-other ps n v p ne)

-- who lives after a change of who lives at a number
changed-by : (o : Option Process) (f : Alive → Alive) (x : Alive)
    → option_and_then alive_in (option_map (where_living f) o) ≡ Some x
    → (a : Alive) × (option_and_then alive_in o ≡ Some a) × (f a ≡ x)
changed-by None f x h = not_some x h
changed-by (Some (Living a)) f x h = (a, refl, from_some (f a) x h)
changed-by (Some (Ended ending)) f x h = not_some x h
changed-by (Some Gone) f x h = not_some x h

keys-changed : (ps : Numbered Process) (n : ℕ) (f : Alive → Alive) → keys_of (change_living ps n f) ≡ keys_of ps
keys-changed [] n f = refl
keys-changed (p ∷ ps) n f = ap (λ (ks : List ℕ). p.0 ∷ ks) (keys-changed ps n f)

-- the order of numbers stays
pub rising-changed : (ps : Numbered Process) (n : ℕ) (f : Alive → Alive) → IsRising ps
    → IsRising (change_living ps n f)
rising-changed ps n f r =
    subst (λ (ks : List ℕ). IsStrictlySortedBy nat_cmp ks) (sym (keys-changed ps n f)) r

module _ (P : ℕ → Alive → Type 0) (ps : Numbered Process) where
  -- nothing changes
  pub moves-none : IsRising ps → ((p : ℕ) (a : Alive) → living_in ps p ≡ Some a → P p a) → Moves P ps ps
  moves-none r each =
      record {
        rising = r;
        came = λ p b l. record { alive = b; lived = l; listed = λ c h. h; has = each p b l };
      }

  -- a number leads to no living process any more
  pub moves-dead : (qs : Numbered Process) (n : ℕ) (v : Process) → alive_in v ≡ None → Moves P ps qs
      → Moves P ps (put qs n v)
  moves-dead qs n v dead m =
      record {
        rising = rising-put qs n v m.rising;
        came = λ p b l.
            elim (cases_eq p n) [
              | inl e ↦ not_some b (sym dead ∙ sym (living-put-same qs n v p e) ∙ l)
              | inr ne ↦ m.came p b (sym (living-put-other qs n v p ne) ∙ l)
            ];
      }

  -- a living process is another, that lists no more
  pub moves-alive : (qs : Numbered Process) (n : ℕ) (a b : Alive) → living_in ps n ≡ Some a
      → ((c : ℕ) → lists b.row.family c ≡ true → lists a.row.family c ≡ true) → P n b
      → Moves P ps qs → Moves P ps (put qs n (Living b))
  moves-alive qs n a b lives fewer has m =
      record {
        rising = rising-put qs n (Living b) m.rising;
        came = λ p x l.
            elim (cases_eq p n) [
              | inl e ↦
                  let same : b ≡ x = from_some b x (sym (living-put-same qs n (Living b) p e) ∙ l)
                  in let here : Came P ps n b = record { alive = a; lived = lives; listed = fewer; has = has }
                  in subst (λ (y : Alive). Came P ps p y) same (subst (λ (q : ℕ). Came P ps q b) (sym e) here)
              | inr ne ↦ m.came p x (sym (living-put-other qs n (Living b) p ne) ∙ l)
            ];
      }

  module _ (replied : (p : ℕ) (a : Alive) → P p a → P p (after_reply a)) where
    reply-came : (qs : Numbered Process) (n : ℕ) → Moves P ps qs → (x : Alive)
        → living_in (change_living qs n after_reply) n ≡ Some x → Came P ps n x
    reply-came qs n m x l =
        let w = changed-by (get qs n) after_reply x
        (sym (ap (option_and_then alive_in) (changed-same qs n after_reply)) ∙ l)
        in let v = m.came n w.0 w.1
        in let here : Came P ps n (after_reply w.0) =
        record { alive = v.alive; lived = v.lived; listed = v.listed; has = replied n w.0 v.has }
        in subst (λ (y : Alive). Came P ps n y) w.2 here

    -- a wait ends
    pub moves-replied : (qs : Numbered Process) (n : ℕ) → Moves P ps qs → Moves P ps (change_living qs n after_reply)
    moves-replied qs n m =
        record {
          rising = rising-changed qs n after_reply m.rising;
          came = λ p x l.
              elim (cases_eq p n) [
                | inl e ↦
                    subst (λ (q : ℕ). Came P ps q x) (sym e)
                    (reply-came qs n m x
                    (subst (λ (q : ℕ). living_in (change_living qs n after_reply) q ≡ Some x) e l))
                | inr ne ↦
                    m.came p x
                    (sym (ap (option_and_then alive_in) (changed-other qs n after_reply p ne)) ∙ l)
              ];
        }

    -- several do
    pub moves-woken : (wakes : List Wake) (qs : Numbered Process) → Moves P ps qs
        → Moves P ps (fold wake_one qs wakes)
    moves-woken [] qs m = m
    moves-woken (w ∷ wakes) qs m = moves-woken wakes (wake_one qs w) (moves-replied qs w.pid m)

  -- ended children are gone
  pub moves-buried : (es : List EndedChild) (qs : Numbered Process) → Moves P ps qs → Moves P ps (fold bury qs es)
  moves-buried [] qs m = m
  moves-buried (e ∷ es) qs m = moves-buried es (put qs e.pid Gone) (moves-dead qs e.pid Gone refl m)

fewer-if : (child c x : ℕ) (xs : List ℕ) (b : Bool)
    → (list_any (nat_eq c) (others child xs) ≡ true → list_any (nat_eq c) xs ≡ true)
    → list_any (nat_eq c) (cond b (x ∷ others child xs) (others child xs)) ≡ true
    → list_any (nat_eq c) (x ∷ xs) ≡ true
fewer-if child c x xs true go h =
    elim (or_cases (nat_eq c x) (list_any (nat_eq c) (others child xs)) h)
    [ inl t ↦ or_left _ _ t | inr t ↦ or_right _ _ (go t) ]
fewer-if child c x xs false go h = or_right _ _ (go h)

-- who is listed once a child isn't any more was before
pub others-fewer : (child c : ℕ) (xs : List ℕ) → list_any (nat_eq c) (others child xs) ≡ true
    → list_any (nat_eq c) xs ≡ true
others-fewer child c [] h = h
others-fewer child c (x ∷ xs) h = fewer-if child c x xs (not (nat_eq child x)) (others-fewer child c xs) h

-- A birth.

with-last : (c n : ℕ) (xs : List ℕ) → list_any (nat_eq c) (xs ++ n ∷ []) ≡ true
    → (list_any (nat_eq c) xs ≡ true) ⊎ (c ≡ n)
with-last c n [] h =
    elim (or_cases (nat_eq c n) false h) [ inl t ↦ inr (eqb-true c n t) | inr t ↦ absurd (false≢true t) ]
with-last c n (x ∷ xs) h =
    elim (or_cases (nat_eq c x) (list_any (nat_eq c) (xs ++ n ∷ [])) h) [
      | inl t ↦ inl (or_left _ _ t)
      | inr t ↦ elim (with-last c n xs t) [ inl u ↦ inl (or_right _ _ u) | inr u ↦ inr u ]
    ]

module _ (P : ℕ → Alive → Type 0) (ps : Numbered Process) (used : List ℕ) (people : People P ps used) (pid n : ℕ)
    (a : Alive) (lives : living_in ps pid ≡ Some a) (new : is_used used n ≡ false) where
  -- the child was listed before, or it is the new one, which its parent lists
  record ListedBefore (p c : ℕ) : Type 0 where
    alive : Alive
    lived : living_in ps p ≡ Some alive
    listed : lists alive.row.family c ≡ true

  abbrev Listed : ℕ → ℕ → Type 0
  Listed p c = ListedBefore p c ⊎ ((c ≡ n) × (p ≡ pid))

  listed-parent : (p : ℕ) (b : Alive) → p ≡ pid → parent_after_fork a n ≡ b → (c : ℕ)
      → lists b.row.family c ≡ true → Listed p c
  listed-parent p b e is c h =
      elim (with-last c n a.row.family.living (ap (λ (x : Alive). lists x.row.family c) is ∙ h)) [
        | inl t ↦ inl (record {
          alive = a;
          lived = subst (λ (q : ℕ). living_in ps q ≡ Some a) (sym e) lives;
          listed = t;
        })
        | inr t ↦ inr (t, e)
      ]

  -- the parent, the child, or another
  born-by : (p : ℕ) (b : Alive) → living_in (processes_after_fork ps pid a n) p ≡ Some b
      → ((p ≡ pid) × (parent_after_fork a n ≡ b))
      ⊎ (((p ≡ n) × (new_child a ≡ b)) ⊎ (living_in ps p ≡ Some b))
  born-by p b l =
      let qs = put ps n (Living (new_child a))
      in let parent = Living (parent_after_fork a n)
      in elim (cases_eq p pid) [
        | inl e ↦ inl (e, from_some (parent_after_fork a n) b (sym (living-put-same qs pid parent p e) ∙ l))
        | inr ne ↦
            let before : living_in qs p ≡ Some b = sym (living-put-other qs pid parent p ne) ∙ l
            in elim (cases_eq p n) [
              | inl e ↦
                  let there = living-put-same ps n (Living (new_child a)) p e
                  in inr (inl (e, from_some (new_child a) b (sym there ∙ before)))
              | inr off ↦ inr (inr (sym (living-put-other ps n (Living (new_child a)) p off) ∙ before))
            ]
      ]

  listed-by : (p c : ℕ) (b : Alive) → living_in (processes_after_fork ps pid a n) p ≡ Some b
      → lists b.row.family c ≡ true → Listed p c
  listed-by p c b l h =
      elim (born-by p b l) [
        | inl w ↦ listed-parent p b w.0 w.1 c h
        | inr (inl w) ↦ absurd (false≢true (ap (λ (x : Alive). lists x.row.family c) w.1 ∙ h))
        | inr (inr w) ↦ inl (record { alive = b; lived = w; listed = h })
      ]

  -- the number of the new process was in no family
  not-before : {B : Type 0} (p c : ℕ) → ListedBefore p c → c ≡ n → B
  not-before p c w e =
      absurd
      (false≢true
      (sym new ∙ subst (λ (x : ℕ). is_used used x ≡ true) e (people.listed p c w.alive w.lived w.listed)))

  listed-used : (p c : ℕ) → Listed p c → is_used (used_with used n) c ≡ true
  listed-used p c (inl w) = used-stays used n c (people.listed p c w.alive w.lived w.listed)
  listed-used p c (inr w) =
      subst (λ (x : ℕ). is_used (used_with used n) x ≡ true) (sym w.0) (used-with-same used n)

  listed-once : (p q c : ℕ) → Listed p c → Listed q c → p ≡ q
  listed-once p q c (inl v) (inl w) = people.one_parent p q v.alive w.alive c v.lived w.lived v.listed w.listed
  listed-once p q c (inl v) (inr w) = not-before p c v w.0
  listed-once p q c (inr v) (inl w) = not-before q c w v.0
  listed-once p q c (inr v) (inr w) = v.1 ∙ sym w.1

  each-born : P n (new_child a) → P pid (parent_after_fork a n) → (p : ℕ) (b : Alive)
      → living_in (processes_after_fork ps pid a n) p ≡ Some b → P p b
  each-born child parent p b l =
      elim (born-by p b l) [
        | inl w ↦
            subst (λ (x : Alive). P p x) w.1 (subst (λ (q : ℕ). P q (parent_after_fork a n)) (sym w.0) parent)
        | inr (inl w) ↦
            subst (λ (x : Alive). P p x) w.1 (subst (λ (q : ℕ). P q (new_child a)) (sym w.0) child)
        | inr (inr w) ↦ people.each p b w
      ]

  -- all stays in order with a new process
  pub people-born : P n (new_child a) → P pid (parent_after_fork a n)
      → People P (processes_after_fork ps pid a n) (used_with used n)
  people-born child parent =
      record {
        rising = rising-put (put ps n (Living (new_child a))) pid (Living (parent_after_fork a n))
            (rising-put ps n (Living (new_child a)) people.rising);
        each = each-born child parent;
        listed = λ p c b l h. listed-used p c (listed-by p c b l h);
        one_parent = λ p q x y c l m h g. listed-once p q c (listed-by p c x l h) (listed-by q c y m g);
      }
