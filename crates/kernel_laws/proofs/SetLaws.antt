-- Each semaphore set stays within its limits, and the table of sets in order.
use Rattle.std.proofs.Common.{◌≡◌, ◌≢◌, ℕ, ℤ, zero, suc, ◌+◌, ◌-◌, ◌≤◌, Bool, true, false, List, [], ◌∷◌, length, replicate, Option, Some, None, Result, Ok, Err, refl, ap, sym, subst, arith, nat_eq}
use Rattle.std.specs.Prelude.{pos, negsuc, if◌then◌else◌, nat_le, nat_lt, is_some, slice_get, slice_set, fold}
use Rattle.std.specs.List.{All, list_any}
use Rattle.std.proofs.lemmas.Bool.{or_parts, leb-true, ltb-false, eqb-false}
use Rattle.std.proofs.lemmas.List.{length-set, length-replicate}
use Rattle.std.proofs.lemmas.List.Elements.{All-nil, All-cons, All-head, All-tail, All-set, All-replicate, All-map, All-get_or}
use Rattle.std.proofs.lemmas.Option.{slice_get_within, get_or_from_slice_get}
use Rattle.pico_base.specs.declared.call.SemStep.{SemStep}
use Rattle.pico_base.specs.declared.reply.Errno.{Errno}
use Rattle.pico_base.specs.declared.reply.Errno.TheVariants.{Einval, Eagain, E2big, Efbig, Erange}
use Rattle.number_maps.specs.Maps.{get, put}
use Rattle.kernel_model.specs.SemaphoreSet.{new_set, set_value, set_all, Semaphore, SemaphoreSet, set_of, new_semaphore, is_bad_count, values_of, Moved, To, Waits, TooHigh, move_by, move_at, Tried, Done, StopsAt, OutOfRange, go_on, try_from, try_ops, with_values, with_last, mark_at, mark, op_after_trial, op, set_value_at}
use Rattle.kernel_model.specs.Kernel.{Kernel, opening}
use Rattle.kernel_model.specs.Row.{Alive}
use Rattle.kernel_laws.specs.Sets.{IsSetWithinLimits, SetsAreWithinLimits}
use Rattle.kernel_laws.proofs.Plain.{from_ok, not_ok}
use Rattle.kernel_laws.proofs.Tables.{Table, table-empty, table-change, table-make, table-bind, table-remove, fresh-unused}
use Rattle.kernel_laws.proofs.Moves.{Moves}
use Rattle.kernel_laws.proofs.Histories.{Kept, kept-along}

abbrev IsLow : ℕ → Type 0
IsLow value = value ≤ 32767

abbrev IsLowAt : Semaphore → Type 0
IsLowAt s = s.value ≤ 32767

-- one of a list by its place
all-at : {X : Type 0} (P : X → Type 0) (xs : List X) (i : ℕ) (x : X) → All P xs → slice_get xs i ≡ Some x → P x
all-at {X} P xs i x h g = subst P (get_or_from_slice_get xs i x x g) (All-get_or P xs i x (slice_get_within xs i x g) h)

-- semget
made-within : (count : ℕ) (set : SemaphoreSet) → (bad : Bool) → is_bad_count count ≡ bad
    → (let r : Result SemaphoreSet Errno =
    Ok set in (if bad then Err Einval else Ok (set_of (replicate count new_semaphore))) ≡ r) → IsSetWithinLimits set
made-within count set true e h = not_ok Einval set h
made-within count set false e h =
    let t = or_parts (nat_eq count 0) (nat_lt 64 count) e
    in let some : count ≢ 0 = eqb-false count 0 t.0
    in let few : count ≤ 64 = ltb-false 64 count t.1
    in let l : length (replicate count new_semaphore) ≡ count = length-replicate count new_semaphore
    in subst IsSetWithinLimits (from_ok (set_of (replicate count new_semaphore)) set h)
    (record {
      least = omega arith;
      most = omega arith;
      values =
          All-replicate IsLowAt count new_semaphore (omega arith);
    })

-- semctl with SETVAL
changed-within : (set : SemaphoreSet) (num : ℕ) (s : Semaphore) → IsSetWithinLimits set → IsLowAt s
    → IsSetWithinLimits (record set { semaphores = slice_set set.semaphores num s })
changed-within set num s w low =
    let l : length (slice_set set.semaphores num s) ≡ length set.semaphores = length-set set.semaphores num s
    in let least = w.least
    in let most = w.most
    in record {
      least = omega (arith, l, least);
      most = omega (arith, l, most);
      values =
          All-set IsLowAt set.semaphores num s low w.values;
    }

valued-test : (set : SemaphoreSet) (num value : ℕ) (s : Semaphore) (next : SemaphoreSet) → IsSetWithinLimits set
    → (high : Bool) → nat_lt 32767 value ≡ high
    → (let r : Result SemaphoreSet Errno =
    Ok next in (if high then Err Erange else Ok
    (record set { semaphores = slice_set set.semaphores num (record s { value = value }) })) ≡ r)
    → IsSetWithinLimits next
valued-test set num value s next w true e h = not_ok Erange next h
valued-test set num value s next w false e h =
    subst IsSetWithinLimits
    (from_ok (record set { semaphores = slice_set set.semaphores num (record s { value = value }) }) next h)
    (changed-within set num (record s { value = value }) w (ltb-false 32767 value e))

valued-at : (set : SemaphoreSet) (num value : ℕ) (o : Option Semaphore) (next : SemaphoreSet) → IsSetWithinLimits set
    → set_value_at set num value o ≡ Ok next
    → IsSetWithinLimits next
valued-at set num value None next w h = not_ok Einval next h
valued-at set num value (Some s) next w h = valued-test set num value s next w (nat_lt 32767 value) refl h

-- other values
length-values : (set : List Semaphore) (values : List ℕ) → length (with_values set values) ≡ length set
length-values [] values = refl
length-values (s ∷ set) [] = refl
length-values (s ∷ set) (value ∷ values) = let i = length-values set values in ap suc i

all-values : (set : List Semaphore) (values : List ℕ) → All IsLowAt set → All IsLow values
    → All IsLowAt (with_values set values)
all-values [] values h g = h
all-values (s ∷ set) [] h g = h
all-values (s ∷ set) (value ∷ values) h g =
    All-cons IsLowAt (record s { value = value }) (with_values set values) (All-head IsLow value values g)
    (all-values set values (All-tail IsLowAt s set h) (All-tail IsLow value values g))

values-within : (set : SemaphoreSet) (values : List ℕ) → IsSetWithinLimits set → All IsLow values
    → IsSetWithinLimits (record set { semaphores = with_values set.semaphores values })
values-within set values w g =
    let l = length-values set.semaphores values
    in let least = w.least
    in let most = w.most
    in record {
      least = omega (arith, l, least);
      most = omega (arith, l, most);
      values =
          all-values set.semaphores values w.values g;
    }

-- semctl with SETALL
all-low : (values : List ℕ) → list_any (nat_lt 32767) values ≡ false → All IsLow values
all-low [] h = All-nil IsLow
all-low (value ∷ values) h =
    let t = or_parts (nat_lt 32767 value) (list_any (nat_lt 32767) values) h
    in All-cons IsLow value values (ltb-false 32767 value t.0) (all-low values t.1)

filled-test : (set : SemaphoreSet) (values : List ℕ) (next : SemaphoreSet) → IsSetWithinLimits set → (equal high : Bool)
    → list_any (nat_lt 32767) values ≡ high
    → (let r : Result SemaphoreSet Errno =
    Ok next in (if equal then if high then Err Erange else Ok
    (record set { semaphores = with_values set.semaphores values }) else Err Einval) ≡ r)
    → IsSetWithinLimits next
filled-test set values next w true true e h = not_ok Erange next h
filled-test set values next w true false e h =
    subst IsSetWithinLimits (from_ok (record set { semaphores = with_values set.semaphores values }) next h)
    (values-within set values w (all-low values e))
filled-test set values next w false high e h = not_ok Einval next h

-- semop's trial
abbrev IsTo : Moved → Type 0
IsTo (To value) = Unit {0}
IsTo Waits = ⊥
IsTo TooHigh = ⊥

moved-test : (low : Bool) (next value : ℕ) (otherwise : Moved) → (IsTo otherwise → ⊥) → (low ≡ true → IsLow next)
    → (if low then To next else otherwise) ≡ To value → IsLow value
moved-test true next value otherwise apart h e = let is : next ≡ value = cc in subst IsLow is (h refl)
moved-test false next value otherwise apart h e = absurd (apart (subst IsTo (sym e) tt))

moved-low : (add : ℤ) (old value : ℕ) → IsLow old → move_by add old ≡ To value → IsLow value
moved-low (pos zero) old value low h = moved-test (nat_eq old 0) 0 value Waits (λ x. x) (λ t. omega arith) h
moved-low (pos (suc n)) old value low h =
    moved-test (nat_le (old + suc n) 32767) (old + suc n) value TooHigh (λ x. x) (λ t. leb-true (old + suc n) 32767 t) h
moved-low (negsuc n) old value low h =
    moved-test (nat_le (suc n) old) (old - suc n) value Waits (λ x. x) (λ t. omega arith) h

moved-at : (values : List ℕ) (add : ℤ) (num : ℕ) (o : Option ℕ) (value : ℕ) → All IsLow values
    → slice_get values num ≡ o → move_at add o ≡ To value → IsLow value
moved-at values add num None value h e g = absurd (subst IsTo (sym g) tt)
moved-at values add num (Some old) value h e g = moved-low add old value (all-at IsLow values num old h e) g

tried-on : (index : ℕ) (values : List ℕ) (step : SemStep) (steps : List SemStep) (out : List ℕ) → All IsLow values
    → ((next : List ℕ) → All IsLow next → try_from (index + 1) next steps ≡ Done out → All IsLow out)
    → (m : Moved) → move_at step.add (slice_get values step.num) ≡ m
    → go_on index values step.num m (λ next. try_from (index + 1) next steps) ≡ Done out → All IsLow out
tried-on index values step steps out h rest (To value) e g =
    rest (slice_set values step.num value)
    (All-set IsLow values step.num value
    (moved-at values step.add step.num (slice_get values step.num) value h refl e) h) g
tried-on index values step steps out h rest Waits e g = cc
tried-on index values step steps out h rest TooHigh e g = cc

tried-low : (index : ℕ) (values : List ℕ) (steps : List SemStep) (out : List ℕ) → All IsLow values
    → try_from index values steps ≡ Done out → All IsLow out
tried-low index values [] out h g = let is : values ≡ out = cc in subst (λ (xs : List ℕ). All IsLow xs) is h
tried-low index values (step ∷ steps) out h g =
    tried-on index values step steps out h (λ next low e. tried-low (index + 1) next steps out low e)
    (move_at step.add (slice_get values step.num)) refl g

-- the named semaphores' last processes
marked-at-within : (set : SemaphoreSet) (pid num : ℕ) (o : Option Semaphore) → IsSetWithinLimits set
    → slice_get set.semaphores num ≡ o
    → IsSetWithinLimits (record set { semaphores = mark_at set.semaphores pid num o })
marked-at-within set pid num None w e = w
marked-at-within set pid num (Some s) w e =
    changed-within set num (with_last s pid) w (all-at IsLowAt set.semaphores num s w.values e)

marked-within : (pid : ℕ) (steps : List SemStep) (set : SemaphoreSet) → IsSetWithinLimits set
    → IsSetWithinLimits (record set { semaphores = fold (mark pid) set.semaphores steps })
marked-within pid [] set w = w
marked-within pid (step ∷ steps) set w =
    marked-within pid steps (record set { semaphores = mark pid set.semaphores step })
    (marked-at-within set pid step.num (slice_get set.semaphores step.num) w refl)

operated-tried : (set : SemaphoreSet) (pid : ℕ) (steps : List SemStep) (t : Tried) (next : SemaphoreSet)
    → IsSetWithinLimits set
    → try_ops (values_of set.semaphores) steps ≡ t → op_after_trial set pid steps t ≡ Ok next → IsSetWithinLimits next
operated-tried set pid steps (Done values) next w e h =
    let low = tried-low 0 (values_of set.semaphores) steps values
    (All-map IsLow (λ (s : Semaphore). s.value) set.semaphores w.values) e
    in subst IsSetWithinLimits
    (from_ok (record set { semaphores = fold (mark pid) (with_values set.semaphores values) steps }) next h)
    (marked-within pid steps (record set { semaphores = with_values set.semaphores values })
    (values-within set values w low))
operated-tried set pid steps (StopsAt index) next w e h = not_ok Eagain next h
operated-tried set pid steps OutOfRange next w e h = not_ok Erange next h

operated-test : (set : SemaphoreSet) (pid : ℕ) (steps : List SemStep) (next : SemaphoreSet) → IsSetWithinLimits set
    → (many outside : Bool)
    → (let r : Result SemaphoreSet Errno = Ok next
    in (if many then Err E2big else if outside then Err Efbig else op_after_trial set pid steps
    (try_ops (values_of set.semaphores) steps)) ≡ r) → IsSetWithinLimits next
operated-test set pid steps next w true outside h = not_ok E2big next h
operated-test set pid steps next w false true h = not_ok Efbig next h
operated-test set pid steps next w false false h =
    operated-tried set pid steps (try_ops (values_of set.semaphores) steps) next w refl h

operated-within : (set : SemaphoreSet) (pid : ℕ) (steps : List SemStep) (next : SemaphoreSet) → IsSetWithinLimits set
    → op set pid steps ≡ Ok next → IsSetWithinLimits next
operated-within set pid steps next w h =
    operated-test set pid steps next w (nat_lt 32 (length steps))
    (list_any (λ step. nat_le (length set.semaphores) step.num) steps) h

-- the table of sets, with what each call keeps of a set
abbrev pub SetTable : (SemaphoreSet → Type 0) → Kernel → Type 0
SetTable P k = Table P k.sets k.set_keys k.used_sets

pub record SetRule (P : SemaphoreSet → Type 0) : Type 0 where
  pub new : (count : ℕ) (set : SemaphoreSet) → new_set count ≡ Ok set → P set
  pub operated : (set : SemaphoreSet) (pid : ℕ) (steps : List SemStep) (next : SemaphoreSet) → P set
      → op set pid steps ≡ Ok next → P next
  pub one_set : (set : SemaphoreSet) (num value : ℕ) (next : SemaphoreSet) → P set → set_value set num value ≡ Ok next
      → P next
  pub filled : (set : SemaphoreSet) (values : List ℕ) (next : SemaphoreSet) → P set → set_all set values ≡ Ok next
      → P next

-- every move keeps what each change of a set keeps
pub sets-moves : (P : SemaphoreSet → Type 0) → SetRule P → (k : Kernel) (pid : ℕ) (a : Alive) (n : ℕ) → SetTable P k
    → Moves (SetTable P) k pid a n
sets-moves P rule k pid a n t =
    let change : (id : ℕ) (set next : SemaphoreSet) → get k.sets id ≡ Some set → P next
    → SetTable P (record k { sets = put k.sets id next }) =
    λ id set next l w. table-change P k.sets k.set_keys k.used_sets t id next (ap is_some l) w
    in record {
      same = t;
      forks = λ f. t;
      ends = λ ending. t;
      acts = λ g act h. t;
      masks = λ how set. t;
      raises_own = λ target g h. t;
      raises_other = λ other target g h. t;
      reaps = λ which child ending h. t;
      makes_queue = λ f. t;
      binds_queue = λ key f. t;
      sends = λ id class text q next l h. t;
      receives = λ id class size noerror q r l h. t;
      limits = λ id qbytes q next l h. t;
      removes_queue = λ id. t;
      makes_set = λ count set h f. table-make P k.sets k.set_keys k.used_sets t n set (rule.new count set h);
      binds_set = λ key count set h f.
          table-bind P k.sets k.set_keys k.used_sets t n key set (fresh-unused k.used_sets n f) (rule.new count set h);
      operates = λ id steps set next l h. change id set next l (rule.operated set pid steps next (t.each id set l) h);
      sets_one = λ id num value set next l h.
          change id set next l (rule.one_set set num value next (t.each id set l) h);
      fills = λ id values set next l h. change id set next l (rule.filled set values next (t.each id set l) h);
      removes_set = λ id. table-remove P k.sets k.set_keys k.used_sets t id;
    }

-- each change of a set keeps it within its limits
pub set-within-rule : SetRule IsSetWithinLimits
set-within-rule =
    record {
      new = λ count set h. made-within count set (is_bad_count count) refl h;
      operated = operated-within;
      one_set = λ set num value next w h. valued-at set num value (slice_get set.semaphores num) next w h;
      filled = λ set values next w h.
          filled-test set values next w (nat_eq (length values) (length set.semaphores))
          (list_any (nat_lt 32767) values) refl h;
    }

-- each set is within its limits
abbrev pub Sets : Kernel → Type 0
Sets k = SetTable IsSetWithinLimits k

-- the opening kernel has no set
pub sets-opening : Sets opening
sets-opening = table-empty IsSetWithinLimits

-- every entry keeps sets within their limits
pub sets-kept : Kept Sets
sets-kept =
    record {
      moves = λ k pid call n next outcome s t. sets-moves IsSetWithinLimits set-within-rule k pid s.alive n t;
      finishes = λ pid k a t l d. t;
    }

-- sets are within their limits
pub sets_are_within_limits_lemma : SetsAreWithinLimits
sets_are_within_limits_lemma k r id set l = (kept-along Sets sets-kept r.0 opening k r.1 sets-opening).each id set l
