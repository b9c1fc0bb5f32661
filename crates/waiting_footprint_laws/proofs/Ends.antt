-- The law at the calls that end a process.
use Rattle.std.proofs.Common.{◌≡◌, ◌≢◌, ◌⊎◌, ◌∙◌, ◌%◌, ℕ, Bool, true, false, not, cond, nat_eq, List, [], ◌∷◌, ◌++◌, map, Option, Some, None, refl, ap, sym, subst, inl, inr}
use Rattle.std.specs.Prelude.{fold}
use Rattle.std.specs.List.{list_any, AllByRecursion}
use Rattle.std.specs.Option.{option_map, option_and_then}
use Rattle.std.proofs.lemmas.Bool.{or_left, or_right, or_cases, cases_eq, cases_Bool, false≢true, eqb-true}
use Rattle.pico_base.specs.declared.call.Call.{Call}
use Rattle.pico_base.specs.declared.call.Call.TheVariants as calls
use Rattle.pico_base.specs.declared.reply.Ending.{Ending}
use Rattle.pico_base.specs.declared.reply.Ending.TheVariants as endings
use Rattle.pico_base.specs.declared.signal.Sig.{Sig}
use Rattle.number_maps.specs.Maps.{Numbered, put}
use Rattle.number_maps.specs.Rising.{IsRising}
use Rattle.number_maps.proofs.Rising.{rising-put}
use Rattle.number_maps.proofs.LookUps.{get-put-same, get-put-other}
use Rattle.number_maps.proofs.Order.{eq-same}
use Rattle.kernel_model.specs.Row.{EndedChild, Family, Waited, Found, NotYet, NoChild, ended_child, family_after_end, first_ended_child, ignores_children, lists, matches, others, wait, wait_result}
use Rattle.waiting_model.specs.Calls.{withdrawn_from}
use Rattle.waiting_model.specs.Waiters.{waiter}
use Rattle.waiting_model.specs.Marks.{Alive, awaited_children, with_family}
use Rattle.waiting_model.specs.Kernel.{Kernel, Process, Living, Gone, Parent, alive_in, living_in, living_at, parent_in}
use Rattle.waiting_model.specs.ProcessCalls.{after_waiting, bury, bury_all, bury_found, end_process, end_under, found_after_end, found_for, parent_after_end, process_after_end, raise_chld, wakes_under}
use Rattle.waiting_model.specs.Transition.{effect, transition}
use Rattle.footprint_laws.proofs.Change.{Changes, changes-none, changes-put}
use Rattle.waiting_footprint_laws.specs.Footprint.{Part, MarksOf, Whole, ParentOf, parts_of_ended, parent_parts, parent_number}
use Rattle.waiting_footprint_laws.specs.Law.{AgreeOn, is_whole}
use Rattle.waiting_footprint_laws.specs.Valid.{IsValid, IsValidProcess}
use Rattle.waiting_footprint_laws.proofs.Parents.{orphan-put, orphan-from_unlisted, parent-is}
use Rattle.waiting_footprint_laws.proofs.Effects.{AlikeSteps, SameEffect, SameEffects, has_parent, has_queue, has_queue_keys, has_set, has_set_keys, has_whole, is_parent, moved-from_changes}
use Rattle.waiting_footprint_laws.proofs.Processes.{ended-childless}
use Rattle.waiting_footprint_laws.proofs.Steps.{LawAt, whole-steps}

-- What a parent that waits for its children finds: the child that ended just now, if any.

first-behind : (which : Option ℕ) (es : List EndedChild) (e : EndedChild) → first_ended_child which es ≡ None
    → first_ended_child which (es ++ e ∷ []) ≡ first_ended_child which (e ∷ [])
first-behind which [] e h = refl
first-behind which (x ∷ xs) e h = behind-if (matches which x.pid) h (λ g. first-behind which xs e g)
  where
    behind-if : (b : Bool) → cond b (Some x) (first_ended_child which xs) ≡ None
        → (first_ended_child which xs ≡ None
        → first_ended_child which (xs ++ e ∷ []) ≡ first_ended_child which (e ∷ []))
        → cond b (Some x) (first_ended_child which (xs ++ e ∷ [])) ≡ first_ended_child which (e ∷ [])
    behind-if true h go = cc
    behind-if false h go = go h

-- who finds no child that has ended
none-ended : (o : Option EndedChild) (living : Bool) → wait_result o living ≡ NotYet → o ≡ None
none-ended None living h = refl
none-ended (Some e) living h = cc

found-first : (o : Option EndedChild) (living : Bool) (c : ℕ) (ending : Ending) → wait_result o living ≡ Found c ending
    → (pid : ℕ) → ((e : EndedChild) → o ≡ Some e → e.pid ≡ pid) → c ≡ pid
found-first None true c ending h pid is = cc
found-first None false c ending h pid is = cc
found-first (Some e) living c ending h pid is = let same : c ≡ e.pid = cc in same ∙ is e refl

only-first : (which : Option ℕ) (pid : ℕ) (ending : Ending) (e : EndedChild) (b : Bool)
    → cond b (Some (ended_child pid ending)) None ≡ Some e → e.pid ≡ pid
only-first which pid ending e true h = let same : e ≡ ended_child pid ending = cc in ap (λ (x : EndedChild). x.pid) same
only-first which pid ending e false h = cc

-- the first that matches behind an end, where none did before it
first-after_end : (which : Option ℕ) (f : Family) (pid : ℕ) (ending : Ending) (ignored : Bool)
    → first_ended_child which f.ended ≡ None → (e : EndedChild)
    → first_ended_child which (family_after_end f pid ending ignored).ended ≡ Some e → e.pid ≡ pid
first-after_end which f pid ending true none e h = let both : None ≡ Some e = sym none ∙ h in cc
first-after_end which f pid ending false none e h =
    only-first which pid ending e (matches which pid)
    (sym (first-behind which f.ended (ended_child pid ending) none) ∙ h)

found-waited : (f : Family) (which : Option ℕ) (pid : ℕ) (ending : Ending) (ignored : Bool) (c : ℕ) (own : Ending)
    → wait f which ≡ NotYet → wait (family_after_end f pid ending ignored) which ≡ Found c own → c ≡ pid
found-waited f which pid ending ignored c own before h =
    found-first (first_ended_child which (family_after_end f pid ending ignored).ended)
    (list_any (matches which) (family_after_end f pid ending ignored).living) c own h pid
    (first-after_end which f pid ending ignored
    (none-ended (first_ended_child which f.ended) (list_any (matches which) f.living) before))

found-by : (f : Family) (parked : Option Call) (pid : ℕ) (ending : Ending) (ignored : Bool) (c : ℕ) (own : Ending)
    → ((child : Option ℕ) (nohang : Bool) → parked ≡ Some (calls.WaitPid child nohang) → wait f child ≡ NotYet)
    → found_for (family_after_end f pid ending ignored) (awaited_children parked) ≡ Found c own → c ≡ pid
found-by f (Some (calls.WaitPid child nohang)) pid ending ignored c own patient h =
    found-waited f child pid ending ignored c own (patient child nohang refl) h
found-by f parked pid ending ignored c own patient h = cc

found-is : (a : Alive) (pid : ℕ) (ending : Ending) → IsValidProcess a → (c : ℕ) (own : Ending)
    → found_after_end a pid ending ≡ Found c own → c ≡ pid
found-is a pid ending v c own h =
    found-by a.row.family a.marks.parked pid ending (ignores_children a.row) c own v.patient h

-- The parent no longer lists the child.

unlist-by : (child x : ℕ) (xs : List ℕ) (b : Bool) → nat_eq child x ≡ b
    → list_any (nat_eq child) (others child xs) ≡ false
    → list_any (nat_eq child) (cond (not b) (x ∷ others child xs) (others child xs)) ≡ false
unlist-by child x xs true e h = h
unlist-by child x xs false e h = rw e h

unlisted : (child : ℕ) (xs : List ℕ) → list_any (nat_eq child) (others child xs) ≡ false
unlisted child [] = refl
unlisted child (x ∷ xs) = unlist-by child x xs (nat_eq child x) refl (unlisted child xs)

chld-living : (b : Bool) (a : Alive) → (raise_chld b a).row.family.living ≡ a.row.family.living
chld-living true a = refl
chld-living false a = refl

waiting-living : (a : Alive) (w : Waited) → (after_waiting a w).row.family.living ≡ a.row.family.living
waiting-living a (Found c ending) = refl
waiting-living a NotYet = refl
waiting-living a NoChild = refl

-- whom a parent lists behind the end of a child
pub parent-living : (a : Alive) (child : ℕ) (ending : Ending)
    → (parent_after_end a child ending).row.family.living ≡ others child a.row.family.living
parent-living a child ending =
    let ignored = ignores_children a.row
    in let bereft = with_family a (family_after_end a.row.family child ending ignored)
    in let w = found_after_end a child ending
    in chld-living ignored (after_waiting bereft w) ∙ waiting-living bereft w

ended-unlisted : (a : Alive) (child : ℕ) (ending : Ending)
    → lists (parent_after_end a child ending).row.family child ≡ false
ended-unlisted a child ending =
    ap (λ (xs : List ℕ). list_any (nat_eq child) xs) (parent-living a child ending)
    ∙ unlisted child a.row.family.living

-- The burial of the caller's ended children, and of the child that the parent finds.

buried-orphan : (child : ℕ) (es : List EndedChild) (ps : Numbered Process) → parent_in child ps ≡ None
    → parent_in child (fold bury ps es) ≡ None
buried-orphan child [] ps h = h
buried-orphan child (e ∷ es) ps h = buried-orphan child es (put ps e.pid Gone) (orphan-put child ps e.pid Gone refl h)

buried-rises : (es : List EndedChild) (ps : Numbered Process) → IsRising ps → IsRising (fold bury ps es)
buried-rises [] ps h = h
buried-rises (e ∷ es) ps h = buried-rises es (put ps e.pid Gone) (rising-put ps e.pid Gone h)

found-rises : (w : Waited) (ps : Numbered Process) → IsRising ps → IsRising (bury_found ps w)
found-rises (Found c ending) ps h = rising-put ps c Gone h
found-rises NotYet ps h = h
found-rises NoChild ps h = h

-- a process that lives afterwards lived before
gone-living : (ps : Numbered Process) (n p : ℕ) (a : Alive) → living_in (put ps n Gone) p ≡ Some a
    → living_in ps p ≡ Some a
gone-living ps n p a h =
    elim (cases_eq p n) [
      | inl e ↦
          let none : living_in (put ps n Gone) p ≡ None =
          subst (λ (q : ℕ). living_in (put ps n Gone) q ≡ None) (sym e)
          (ap (option_and_then alive_in) (get-put-same ps n Gone))
          in cc
      | inr ne ↦ sym (ap (option_and_then alive_in) (get-put-other ps n Gone p ne)) ∙ h
    ]

buried-living : (es : List EndedChild) (ps : Numbered Process) (p : ℕ) (a : Alive)
    → living_in (fold bury ps es) p ≡ Some a → living_in ps p ≡ Some a
buried-living [] ps p a h = h
buried-living (e ∷ es) ps p a h = gone-living ps e.pid p a (buried-living es (put ps e.pid Gone) p a h)

found-living : (w : Waited) (ps : Numbered Process) (p : ℕ) (a : Alive)
    → living_in (bury_found ps w) p ≡ Some a → living_in ps p ≡ Some a
found-living (Found c ending) ps p a h = gone-living ps c p a h
found-living NotYet ps p a h = h
found-living NoChild ps p a h = h

-- who has ended doesn't live
pub kept-dead : (b : Bool) (ending : Ending) → alive_in (process_after_end b ending) ≡ None
kept-dead true ending = refl
kept-dead false ending = refl

-- Nobody lists the ended process.

module _ (ps : Numbered Process) (rises : IsRising ps)
    (one_parent : (p q : ℕ) (a b : Alive) (child : ℕ) → living_in ps p ≡ Some a → living_in ps q ≡ Some b
    → lists a.row.family child ≡ true → lists b.row.family child ≡ true → p ≡ q)
    (es : List EndedChild) (pid : ℕ) (ending : Ending) where
  -- the row of the parent aside
  others-unlisted : (r : Parent) (v : Process) → alive_in v ≡ None → parent_in pid ps ≡ Some r → (p : ℕ) (b : Alive)
      → p ≢ r.pid
      → living_in (put (fold bury ps es) pid v) p ≡ Some b → lists b.row.family pid ≡ false
  others-unlisted r v dead h p b ne l =
      elim (cases_eq p pid) [
        | inl e ↦
            let none : living_in (put (fold bury ps es) pid v) p ≡ None =
            subst (λ (q : ℕ). living_in (put (fold bury ps es) pid v) q ≡ None) (sym e)
            (ap (option_and_then alive_in) (get-put-same (fold bury ps es) pid v) ∙ dead)
            in cc
        | inr off ↦
            let before = buried-living es ps p b
            (sym (ap (option_and_then alive_in) (get-put-other (fold bury ps es) pid v p off)) ∙ l)
            in let is = parent-is pid ps r rises h
            in elim (cases_Bool (lists b.row.family pid)) [
              | inl t ↦ absurd (ne (one_parent p r.pid b r.alive pid before is.0 t is.1))
              | inr f ↦ f
            ]
      ]

  orphan-under : (o : Option Parent) → parent_in pid ps ≡ o
      → parent_in pid (end_under (fold bury ps es) pid ending o) ≡ None
  orphan-under None h = orphan-put pid (fold bury ps es) pid Gone refl (buried-orphan pid es ps h)
  orphan-under (Some r) h =
      let kept = process_after_end (ignores_children r.alive.row) ending
      in let row = Living (parent_after_end r.alive pid ending)
      in let found = found_after_end r.alive pid ending
      in let first = put (fold bury ps es) pid kept
      in let middle = bury_found first found
      in orphan-from_unlisted pid (put middle r.pid row)
      (rising-put middle r.pid row
      (found-rises found first (rising-put (fold bury ps es) pid kept (buried-rises es ps rises))))
      (λ p b l. elim (cases_eq p r.pid) [
        | inl e ↦
            let there : living_in (put middle r.pid row) p ≡ Some (parent_after_end r.alive pid ending) =
            subst (λ (q : ℕ). living_in (put middle r.pid row) q ≡ Some (parent_after_end r.alive pid ending)) (sym e)
            (ap (option_and_then alive_in) (get-put-same middle r.pid row))
            in let same : b ≡ parent_after_end r.alive pid ending = cc
            in ap (λ (x : Alive). lists x.row.family pid) same ∙ ended-unlisted r.alive pid ending
        | inr ne ↦
            others-unlisted r kept (kept-dead (ignores_children r.alive.row) ending) h p b ne
            (found-living found first p b
            (sym (ap (option_and_then alive_in) (get-put-other middle r.pid row p ne)) ∙ l))
      ])

orphaned : (k : Kernel) → IsValid k → (es : List EndedChild) (pid : ℕ) (ending : Ending)
    → parent_in pid (end_under (fold bury k.processes es) pid ending (parent_in pid k.processes)) ≡ None
orphaned k v es pid ending =
    orphan-under k.processes v.processes v.one_parent es pid ending
    (parent_in pid k.processes) refl

-- The same changes.

module _ (touched : ℕ → Bool) (j k : Numbered Process) where
  buried-changes : (es : List EndedChild) (a b : Numbered Process) → AllByRecursion (λ e. touched e.pid ≡ true) es
      → Changes touched j k a b → Changes touched j k (fold bury a es) (fold bury b es)
  buried-changes [] a b t c = c
  buried-changes (e ∷ es) a b t c =
      buried-changes es (put a e.pid Gone) (put b e.pid Gone) t.1 (changes-put touched j k a b e.pid Gone t.0 c)

  found-changes : (w : Waited) (a b : Numbered Process)
      → ((c : ℕ) (own : Ending) → w ≡ Found c own → touched c ≡ true)
      → Changes touched j k a b → Changes touched j k (bury_found a w) (bury_found b w)
  found-changes (Found c ending) a b t s = changes-put touched j k a b c Gone (t c ending refl) s
  found-changes NotYet a b t s = s
  found-changes NoChild a b t s = s

  ended-changes : (o : Option Parent) (a b : Numbered Process) (pid : ℕ) (ending : Ending) → touched pid ≡ true
      → ((r : Parent) → o ≡ Some r → (touched r.pid ≡ true) × IsValidProcess r.alive)
      → Changes touched j k a b → Changes touched j k (end_under a pid ending o) (end_under b pid ending o)
  ended-changes None a b pid ending t u c = changes-put touched j k a b pid Gone t c
  ended-changes (Some r) a b pid ending t u c =
      changes-put touched j k _ _ r.pid (Living (parent_after_end r.alive pid ending)) (u r refl).0
      (found-changes (found_after_end r.alive pid ending) _ _
      (λ n own is. subst (λ (q : ℕ). touched q ≡ true)
      (sym (found-is r.alive pid ending (u r refl).1 n own is)) t)
      (changes-put touched j k a b pid (process_after_end (ignores_children r.alive.row) ending) t c))

-- The parts.

any-left : {X : Type 0} (test : X → Bool) (xs ys : List X) → list_any test xs ≡ true → list_any test (xs ++ ys) ≡ true
any-left test [] ys h = absurd (false≢true h)
any-left test (x ∷ xs) ys h =
    elim (or_cases (test x) (list_any test xs) h)
    [ inl t ↦ or_left _ _ t | inr t ↦ or_right _ _ (any-left test xs ys t) ]

any-right : {X : Type 0} (test : X → Bool) (xs ys : List X) → list_any test ys ≡ true → list_any test (xs ++ ys) ≡ true
any-right test [] ys h = h
any-right test (x ∷ xs) ys h = or_right _ _ (any-right test xs ys h)

any-neither : {X : Type 0} (test : X → Bool) (xs ys : List X) → list_any test (xs ++ ys) ≡ true
    → (list_any test xs ≡ true) ⊎ (list_any test ys ≡ true)
any-neither test [] ys h = inr h
any-neither test (x ∷ xs) ys h =
    elim (or_cases (test x) (list_any test (xs ++ ys)) h) [
      | inl t ↦ inl (or_left _ _ t)
      | inr t ↦ elim (any-neither test xs ys t) [ inl u ↦ inl (or_right _ _ u) | inr u ↦ inr u ]
    ]

agree-right : (xs ys : List Part) (j k : Kernel) → AgreeOn (xs ++ ys) j k → AgreeOn ys j k
agree-right [] ys j k h = h
agree-right (x ∷ xs) ys j k h = agree-right xs ys j k h.1

parents-childless : (p : ℕ) (o : Option ℕ) → list_any (is_parent p) (parent_parts o) ≡ false
parents-childless p None = refl
parents-childless p (Some q) = refl

abbrev exit_parts : ℕ → Option Alive → Option ℕ → List Part
exit_parts pid o parent = MarksOf pid ∷ Whole pid ∷ ParentOf pid ∷ (parts_of_ended o ++ parent_parts parent)

has_parent-is : (pid p : ℕ) (o : Option Alive) (parent : Option ℕ) → has_parent (exit_parts pid o parent) p ≡ true
    → p ≡ pid
has_parent-is pid p o parent h =
    elim (or_cases (nat_eq p pid) _ h) [
      | inl t ↦ eqb-true p pid t
      | inr t ↦
          elim (any-neither (is_parent p) (parts_of_ended o) (parent_parts parent) t) [
            | inl u ↦ absurd (false≢true (sym (ended-childless p o) ∙ u))
            | inr u ↦ absurd (false≢true (sym (parents-childless p parent) ∙ u))
          ]
    ]

-- each ended child is a part
all-whole : (t : ℕ → Bool) (es : List EndedChild)
    → ((p : ℕ) → list_any (is_whole p) (map (λ y. Whole y.pid) es) ≡ true → t p ≡ true)
    → AllByRecursion (λ e. t e.pid ≡ true) es
all-whole t [] h = tt
all-whole t (e ∷ es) h = (h e.pid (or_left _ _ (eq-same e.pid)), all-whole t es (λ p u. h p (or_right _ _ u)))

-- The parent is the same in both.

same-record : (r s : Parent) → r.pid ≡ s.pid → r.alive ≡ s.alive → r ≡ s
same-record r s x y =
    let f : ℕ → Parent = λ pid. record { pid = pid; alive = r.alive }
    in let g : Alive → Parent = λ alive. record { pid = s.pid; alive = alive }
    in ap f x ∙ ap g y

module _ (j k : Kernel) (vj : IsValid j) (vk : IsValid k) (pid : ℕ) where
  same-parent-by : (o p : Option Parent) → parent_in pid j.processes ≡ o → parent_in pid k.processes ≡ p
      → option_map (λ (r : Parent). r.pid) o ≡ option_map (λ (r : Parent). r.pid) p
      → AgreeOn (parent_parts (option_map (λ (r : Parent). r.pid) o)) j k → o ≡ p
  same-parent-by None None x y e h = refl
  same-parent-by None (Some s) x y e h = cc
  same-parent-by (Some r) None x y e h = cc
  same-parent-by (Some r) (Some s) x y e h =
      let number : r.pid ≡ s.pid = cc
      in let is_j = parent-is pid j.processes r vj.processes x
      in let is_k = parent-is pid k.processes s vk.processes y
      in let there : living_in k.processes r.pid ≡ Some r.alive = sym (ap (option_and_then alive_in) h.0) ∙ is_j.0
      in let too : living_in k.processes s.pid ≡ Some r.alive =
      subst (λ (q : ℕ). living_in k.processes q ≡ Some r.alive) number there
      in let row : r.alive ≡ s.alive = cc
      in ap Some (same-record r s number row)

  same-parent : parent_number j pid ≡ parent_number k pid → AgreeOn (parent_parts (parent_number j pid)) j k
      → parent_in pid j.processes ≡ parent_in pid k.processes
  same-parent e h = same-parent-by (parent_in pid j.processes) (parent_in pid k.processes) refl refl e h

-- The ending, from the same row and the same parent.

abbrev parts_at : Kernel → ℕ → List Part
parts_at j pid = exit_parts pid (living_at j pid) (parent_number j pid)

-- a part at the end of the list, and one among the ended children
whole-of_parent : (pid : ℕ) (o : Option Alive) (r : Parent) → has_whole (exit_parts pid o (Some r.pid)) r.pid ≡ true
whole-of_parent pid o r =
    or_right _ _ (any-right (is_whole r.pid) (parts_of_ended o) (parent_parts (Some r.pid))
    (or_left _ _ (eq-same r.pid)))

whole-of_ended : (pid p : ℕ) (a : Alive) (parent : Option ℕ)
    → list_any (is_whole p) (map (λ y. Whole y.pid) a.row.family.ended) ≡ true
    → has_whole (exit_parts pid (Some a) parent) p ≡ true
whole-of_ended pid p a parent h = or_right _ _ (any-left (is_whole p) (parts_of_ended (Some a)) (parent_parts parent) h)

end-changes : (j k : Kernel) (pid : ℕ) (a : Alive) (ending : Ending) → IsValid j → living_at j pid ≡ Some a
    → Changes (has_whole (parts_at j pid)) j.processes k.processes
    (end_under (bury_all j.processes a.row.family) pid ending (parent_in pid j.processes))
    (end_under (bury_all k.processes a.row.family) pid ending (parent_in pid j.processes))
end-changes j k pid a ending v lives =
    let touched = has_whole (parts_at j pid)
    in ended-changes touched j.processes k.processes (parent_in pid j.processes) (bury_all j.processes a.row.family)
    (bury_all k.processes a.row.family) pid ending
    (or_left _ _ (eq-same pid))
    (λ r e. (
      subst
          (λ q. has_whole (exit_parts pid (living_at j pid) (option_map (λ (x : Parent). x.pid) q)) r.pid ≡ true)
          (sym e) (whole-of_parent pid (living_at j pid) r),
      v.alive r.pid r.alive (parent-is pid j.processes r v.processes e).0,
    ))
    (buried-changes touched j.processes k.processes a.row.family.ended j.processes k.processes
    (all-whole touched a.row.family.ended
    (λ p u. subst (λ o. has_whole (exit_parts pid o (parent_number j pid)) p ≡ true) (sym lives)
    (whole-of_ended pid p a (parent_number j pid) u)))
    (changes-none touched j.processes k.processes))

-- with the parent of the first kernel in both
end-alike : (j k : Kernel) (pid n : ℕ) (a : Alive) (ending : Ending) → IsValid j → IsValid k → living_at j pid ≡ Some a
    → parent_in pid j.processes ≡ parent_in pid k.processes
    → SameEffect (parts_at j pid) j k (end_process j pid a ending) (end_process k pid a ending)
end-alike j k pid n a ending vj vk lives same =
    let parts = parts_at j pid
    in record {
      own = refl;
      wakes = ap (λ (o : Option Parent). wakes_under pid ending o) same;
      step = record {
        processes = moved-from_changes parts j k _ _
            (subst
            (λ o. Changes (has_whole parts) j.processes k.processes
            (end_under (bury_all j.processes a.row.family) pid ending (parent_in pid j.processes))
            (end_under (bury_all k.processes a.row.family) pid ending o)) same
            (end-changes j k pid a ending vj lives));
        queues = changes-none (has_queue parts) j.queues k.queues;
        sets = changes-none (has_set parts) j.sets k.sets;
        queue_keys = changes-none (has_queue_keys parts) j.queue_keys k.queue_keys;
        set_keys = changes-none (has_set_keys parts) j.set_keys k.set_keys;
        parents = λ p t. (orphan-of j vj p t, orphan-of k vk p t);
      };
    }
  where
    orphan-of : (i : Kernel) → IsValid i → (p : ℕ) → has_parent (parts_at j pid) p ≡ true
        → parent_in p (end_under (bury_all i.processes a.row.family) pid ending (parent_in pid i.processes)) ≡ None
    orphan-of i v p t =
        let e = has_parent-is pid p (living_at j pid) (parent_number j pid) t
        in subst
        (λ (q : ℕ).
        parent_in q (end_under (bury_all i.processes a.row.family) pid ending (parent_in pid i.processes)) ≡ None)
        (sym e) (orphaned i v a.row.family.ended pid ending)

end-law : (j k : Kernel) (pid n : ℕ) (call : Call) (ending : Ending) → IsValid j → IsValid k
    → AgreeOn (parts_at j pid) j k → withdrawn_from call ≡ None
    → ((i : Kernel) (a : Alive) → effect i (waiter pid call) a n ≡ Some (end_process i pid a ending))
    → AlikeSteps (parts_at j pid) j k (transition j pid call n) (transition k pid call n)
end-law j k pid n call ending vj vk h plain is =
    let parts = parts_at j pid
    in let who = waiter pid call
    in let same = same-parent j k vj vk pid h.1.1.0
    (agree-right (parts_of_ended (living_at j pid)) (parent_parts (parent_number j pid)) j k h.1.1.1)
    in whole-steps parts n j k pid call h (or_left _ _ (eq-same pid)) vj vk plain h.1.0
    (λ a x. subst (λ e. SameEffects parts j k e (effect k who a n)) (sym (is j a))
    (subst (λ e. SameEffects parts j k (Some (end_process j pid a ending)) e) (sym (is k a))
    (end-alike j k pid n a ending vj vk x same)))

-- the footprint's law at `exit`
pub exit-law : (j k : Kernel) (pid n status : ℕ) → LawAt j k pid (calls.Exit status) n
exit-law j k pid n status vj vk h uj uk =
    end-law j k pid n (calls.Exit status) (endings.Exited (status % 256)) vj vk h refl (λ i a. refl)

-- the footprint's law at the end by a signal
pub killed-law : (j k : Kernel) (pid n : ℕ) (sig : Sig) → LawAt j k pid (calls.Killed sig) n
killed-law j k pid n sig vj vk h uj uk =
    end-law j k pid n (calls.Killed sig) (endings.Killed sig) vj vk h refl (λ i a. refl)
