-- What the end of a process does to the families.
use Rattle.std.proofs.Common.{◌≡◌, ◌≢◌, ℕ, Bool, true, false, List, [], ◌∷◌, Some, None, refl, ap, sym, subst, ◌∙◌, inl, inr, ◌⊎◌}
use Rattle.std.specs.Prelude.{Contains, fold, if◌then◌else◌}
use Rattle.std.proofs.lemmas.Bool.{cases_eq}
use Rattle.pico_base.specs.declared.reply.Ending.{Ending}
use Rattle.number_maps.specs.Maps.{Numbered, get}
use Rattle.kernel_model.specs.Row.{Alive, Family, lists, family_after_end, EndedChild, ended_child}
use Rattle.kernel_model.specs.Kernel.{Process, Living, Ended, Gone, Parent, parent_in}
use Rattle.kernel_model.specs.ProcessCalls.{bury, bury_all, process_after_end}
use Rattle.kernel_laws.proofs.Plain.{from_some, not_some, not_none, not_true}
use Rattle.number_maps.specs.Rising.{IsRising}
use Rattle.number_maps.proofs.Rising.{Above, above-first, rising-rest, get-above}
use Rattle.number_maps.proofs.LookUps.{get-first, get-later}
use Rattle.kernel_laws.proofs.Members.{contains-none, contains-first, contains-later, contains-cases, lists-end, ended-end, ended-stays, ended-new}
use Rattle.kernel_laws.proofs.Families.{Map, Lists, KeepsEnded, IsLiving, Families, Over, living-ended, living-gone, ended-gone, same-alive, same-ending, at-once}
use Rattle.kernel_laws.proofs.FamilyChanges.{Put, put-is, Two, AtFirst, AtLast, Elsewhere, from, different}

-- 1. its own ended children are gone

abbrev Among : List EndedChild → ℕ → Type 0
Among es q = (e : Ending) × Contains es (ended_child q e)

among-cons : (e : EndedChild) (es : List EndedChild) (q : ℕ) → Among (e ∷ es) q → (q ≡ e.pid) ⊎ Among es q
among-cons e es q h =
    elim (contains-cases e es (ended_child q h.0) h.1) [
      | inl same ↦ inl (sym (ap (λ (x : EndedChild). x.pid) same))
      | inr later ↦ inr (h.0, later)
    ]

among-here : (e : EndedChild) (es : List EndedChild) (q : ℕ) → q ≡ e.pid → Among (e ∷ es) q
among-here e es q same = subst (λ (n : ℕ). Among (e ∷ es) n) (sym same) (e.ending, contains-first e es)

among-or-not : (es : List EndedChild) (q : ℕ) → Among es q ⊎ (Among es q → ⊥)
among-or-not [] q = inr (λ h. contains-none (ended_child q h.0) h.1)
among-or-not (e ∷ es) q =
    elim (cases_eq q e.pid) [
      | inl same ↦ inl (among-here e es q same)
      | inr ne ↦
          elim (among-or-not es q) [
            | inl later ↦ inl (later.0, contains-later e es (ended_child q later.0) later.1)
            | inr not ↦ inr (λ h. elim (among-cons e es q h) [ inl same ↦ ne same | inr later ↦ not later ])
          ]
    ]

-- gone stays gone
buried-gone : (es : List EndedChild) (ps : Numbered Process) (q : ℕ) → get ps q ≡ Some Gone
    → get (fold bury ps es) q ≡ Some Gone
buried-gone [] ps q h = h
buried-gone (e ∷ es) ps q h =
    let p = put-is ps e.pid Gone
    in elim (cases_eq q e.pid) [
      | inl same ↦ buried-gone es (bury ps e) q (ap (get (bury ps e)) same ∙ p.here)
      | inr ne ↦ buried-gone es (bury ps e) q (p.other q ne ∙ h)
    ]

buried-in : (es : List EndedChild) (ps : Numbered Process) (q : ℕ) → Among es q → get (fold bury ps es) q ≡ Some Gone
buried-in [] ps q h = absurd (contains-none (ended_child q h.0) h.1)
buried-in (e ∷ es) ps q h =
    elim (among-cons e es q h) [
      | inl same ↦ buried-gone es (bury ps e) q (ap (get (bury ps e)) same ∙ (put-is ps e.pid Gone).here)
      | inr later ↦ buried-in es (bury ps e) q later
    ]

buried-out : (es : List EndedChild) (ps : Numbered Process) (q : ℕ) → (Among es q → ⊥)
    → get (fold bury ps es) q ≡ get ps q
buried-out [] ps q h = refl
buried-out (e ∷ es) ps q h =
    buried-out es (bury ps e) q (λ later. h (later.0, contains-later e es (ended_child q later.0) later.1))
    ∙ (put-is ps e.pid Gone).other q (λ same. h (among-here e es q same))

-- the map without the ended children of a process
pub record Cleared (f m : Map) (es : List EndedChild) : Type 0 where
  pub alive_back : (q : ℕ) (x : Alive) → m q ≡ Some (Living x) → f q ≡ Some (Living x)
  pub alive_on : (q : ℕ) (x : Alive) → f q ≡ Some (Living x) → m q ≡ Some (Living x)
  pub ended_back : (q : ℕ) (d : Ending) → m q ≡ Some (Ended d) → (f q ≡ Some (Ended d)) × (Among es q → ⊥)
  pub ended_on : (q : ℕ) (d : Ending) → f q ≡ Some (Ended d) → (Among es q → ⊥) → m q ≡ Some (Ended d)

-- when the ended children of a process are forgotten, they are Gone and all else stays
pub cleared : (ps : Numbered Process) (pid : ℕ) (a : Alive) → Families (get ps) → get ps pid ≡ Some (Living a)
    → Cleared (get ps) (get (bury_all ps a.row.family)) a.row.family.ended
cleared ps pid a fam l =
    let es = a.row.family.ended
    in let not_alive : (q : ℕ) (x : Alive) → get ps q ≡ Some (Living x) → Among es q → ⊥ =
    λ q x h w. living-ended {B =
    ⊥} x w.0 (at-once (get ps q) (Living x) (Ended w.0) h
    (fam.ended pid q w.0 (record { alive = a; there = l; kept = w.1 })))
    in record {
      alive_back = λ q x h.
          elim (among-or-not es q) [
            | inl w ↦ living-gone x (at-once (get (bury_all ps a.row.family) q) (Living x) Gone h (buried-in es ps q w))
            | inr out ↦ sym (buried-out es ps q out) ∙ h
          ];
      alive_on = λ q x h. buried-out es ps q (not_alive q x h) ∙ h;
      ended_back = λ q d h.
          elim (among-or-not es q) [
            | inl w ↦ ended-gone d (at-once (get (bury_all ps a.row.family) q) (Ended d) Gone h (buried-in es ps q w))
            | inr out ↦ (sym (buried-out es ps q out) ∙ h, out)
          ];
      ended_on = λ q d h out. buried-out es ps q out ∙ h;
    }

-- 2. its parent

first-parent : (child : ℕ) (p : ℕ × Process) (ps : Numbered Process) (pa : Parent) → Above p.0 ps
    → ((x : Parent) → parent_in child ps ≡ Some x → (get ps x.pid ≡ Some (Living x.alive))
    × (lists x.alive.row.family child ≡ true))
    → parent_in child ps ≡ Some pa → (get (p ∷ ps) pa.pid ≡ Some (Living pa.alive))
    × (lists pa.alive.row.family child ≡ true)
first-parent child p ps pa above ih h =
    let w = ih pa h
    in let ne : pa.pid ≢ p.0 =
    λ same. not_some (Living pa.alive) (sym (ap (get ps) same ∙ get-above p.0 ps above) ∙ w.0)
    in (get-later p ps pa.pid ne ∙ w.0, w.1)

parent-if : (child n : ℕ) (a : Alive) (ps : Numbered Process) (pa : Parent) → Above n ps
    → ((x : Parent) → parent_in child ps ≡ Some x → (get ps x.pid ≡ Some (Living x.alive))
    × (lists x.alive.row.family child ≡ true))
    → (listed : Bool) → lists a.row.family child ≡ listed
    → (if listed then Some (record { pid = n; alive = a }) else parent_in child ps) ≡ Some pa
    → (get ((n, Living a) ∷ ps) pa.pid ≡ Some (Living pa.alive)) × (lists pa.alive.row.family child ≡ true)
parent-if child n a ps pa above ih true e h =
    let is : record { pid = n; alive = a } ≡ pa = from_some (record { pid = n; alive = a }) pa h
    in subst (λ (x : Parent). (get ((n, Living a) ∷ ps) x.pid ≡ Some (Living x.alive))
    × (lists x.alive.row.family child ≡ true)) is
    (get-first (n, Living a) ps n refl, e)
parent-if child n a ps pa above ih false e h = first-parent child (n, Living a) ps pa above ih h

-- a child's parent lives and lists it
pub parent-is : (child : ℕ) (ps : Numbered Process) → IsRising ps → (pa : Parent) → parent_in child ps ≡ Some pa
    → (get ps pa.pid ≡ Some (Living pa.alive)) × (lists pa.alive.row.family child ≡ true)
parent-is child [] r pa h = not_some pa h
parent-is child ((n, Living a) ∷ ps) r pa h =
    parent-if child n a ps pa (above-first (n, Living a) ps r)
    (parent-is child ps (rising-rest (n, Living a) ps r)) (lists a.row.family child) refl h
parent-is child ((n, Ended e) ∷ ps) r pa h =
    first-parent child (n, Ended e) ps pa (above-first (n, Ended e) ps r)
    (parent-is child ps (rising-rest (n, Ended e) ps r)) h
parent-is child ((n, Gone) ∷ ps) r pa h =
    first-parent child (n, Gone) ps pa (above-first (n, Gone) ps r) (parent-is child ps (rising-rest (n, Gone) ps r)) h

-- where there is none, no process lists it
orphan-later : (child : ℕ) (n : ℕ) (v : Process) (ps : Numbered Process)
    → ((x : Alive) → v ≡ Living x → lists x.row.family child ≡ false)
    → ((p : ℕ) (x : Alive) → get ps p ≡ Some (Living x) → lists x.row.family child ≡ false)
    → (p : ℕ) (x : Alive) → get ((n, v) ∷ ps) p ≡ Some (Living x) → lists x.row.family child ≡ false
orphan-later child n v ps own ih p x h =
    elim (cases_eq p n) [
      | inl same ↦ own x (from_some v (Living x) (sym (get-first (n, v) ps p same) ∙ h))
      | inr ne ↦ ih p x (sym (get-later (n, v) ps p ne) ∙ h)
    ]

orphan-if : (child n : ℕ) (a : Alive) (ps : Numbered Process) (listed : Bool) → lists a.row.family child ≡ listed
    → (if listed then Some (record { pid = n; alive = a }) else parent_in child ps) ≡ None
    → (lists a.row.family child ≡ false) × (parent_in child ps ≡ None)
orphan-if child n a ps true e h = not_none (record { pid = n; alive = a }) h
orphan-if child n a ps false e h = (e, h)

-- a child without a parent is listed by no living process
pub orphan : (child : ℕ) (ps : Numbered Process) → parent_in child ps ≡ None
    → (p : ℕ) (x : Alive) → get ps p ≡ Some (Living x) → lists x.row.family child ≡ false
orphan child [] h p x l = not_some (Living x) l
orphan child ((n, Living a) ∷ ps) h p x l =
    let w = orphan-if child n a ps (lists a.row.family child) refl h
    in orphan-later child n (Living a) ps
    (λ y e. ap (λ (z : Alive). lists z.row.family child) (sym (same-alive a y e)) ∙ w.0) (orphan child ps w.1) p x l
orphan child ((n, Ended e) ∷ ps) h p x l =
    orphan-later child n (Ended e) ps (λ y s. living-ended y e (sym s)) (orphan child ps h) p x l
orphan child ((n, Gone) ∷ ps) h p x l =
    orphan-later child n Gone ps (λ y s. living-gone y (sym s)) (orphan child ps h) p x l

-- 3. with no parent it is gone itself

keeps-cleared : (f m : Map) (pid : ℕ) (a : Alive) → Families f → f pid ≡ Some (Living a)
    → Cleared f m a.row.family.ended
    → (p c : ℕ) (d : Ending) → KeepsEnded f p c d → p ≢ pid → m c ≡ Some (Ended d)
keeps-cleared f m pid a fam l k p c d h ne =
    k.ended_on c d (fam.ended p c d h)
    (λ w. ne (fam.one_keeper p pid c d w.0 h (record { alive = a; there = l; kept = w.1 })))

own-keeps : (f m : Map) (pid : ℕ) (a : Alive) → f pid ≡ Some (Living a) → Cleared f m a.row.family.ended
    → (c : ℕ) (d : Ending) → m c ≡ Some (Ended d) → (f c ≡ Some (Ended d)) × (KeepsEnded f pid c d → ⊥)
own-keeps f m pid a l k c d h =
    let b = k.ended_back c d h
    in (
      b.0,
      λ w.
          let is : w.alive ≡ a = same-alive w.alive a (at-once (f pid) (Living w.alive) (Living a) w.there l)
          in b.1 (d, subst (λ (z : Alive). Contains z.row.family.ended (ended_child c d)) is w.kept),
    )

put-alive : (m g : Map) (pid : ℕ) → Put m g pid Gone → (p : ℕ) (x : Alive) → g p ≡ Some (Living x) → (p ≢ pid)
    × (m p ≡ Some (Living x))
put-alive m g pid t p x h =
    let ne = different g p pid (Living x) Gone h t.here (living-gone x) in (ne, sym (t.other p ne) ∙ h)

-- the end of a process that nobody lists, number by number
pub over-alone : (f m g : Map) (pid : ℕ) (a : Alive) → Families f → f pid ≡ Some (Living a)
    → Cleared f m a.row.family.ended → Put m g pid Gone
    → ((p : ℕ) (x : Alive) → f p ≡ Some (Living x) → lists x.row.family pid ≡ false) → Over f g pid pid
over-alone f m g pid a fam l k t alone =
    record {
      lists_back = λ p c h.
          let w = put-alive m g pid t p h.alive h.there
          in let b = k.alive_back p h.alive w.1
          in (
            record { alive = h.alive; there = b; listed = h.listed },
            λ same. not_true {B =
                ⊥} (sym (alone p h.alive b) ∙ subst (λ (x : ℕ). lists h.alive.row.family x ≡ true) same h.listed),
          );
      keeps_back = λ p c d h.
          let w = put-alive m g pid t p h.alive h.there in
          inl (record { alive = h.alive; there = k.alive_back p h.alive w.1; kept = h.kept }, w.0);
      keeps_on = λ p c d h ne. record {
        alive = h.alive;
        there = t.other p ne ∙ k.alive_on p h.alive h.there;
        kept =
            h.kept;
      };
      lives_before = record { alive = a; there = l };
      lives_on = λ c h ne. record { alive = h.alive; there = t.other c ne ∙ k.alive_on c h.alive h.there };
      ended_back = λ c d h.
          let ne = different g c pid (Ended d) Gone h t.here (ended-gone d)
          in inr (own-keeps f m pid a l k c d (sym (t.other c ne) ∙ h));
      ended_on = λ p c d h ne.
          let e = keeps-cleared f m pid a fam l k p c d h ne
          in let apart = different f c pid (Ended d) (Living a) (fam.ended p c d h) l (λ s. living-ended a d (sym s))
          in t.other c apart ∙ e;
    }

-- 4. with a parent, which keeps it or forgets it

pub record End (f m g : Map) (pid : ℕ) (a : Alive) (keeper : ℕ) (old new : Alive) (ending : Ending)
    (ignored : Bool) : Type 0 where
  pub lives : f pid ≡ Some (Living a)
  pub clear : Cleared f m a.row.family.ended
  pub two : Two m g pid (process_after_end ignored ending) keeper (Living new)
  pub parent : f keeper ≡ Some (Living old)
  pub listed : lists old.row.family pid ≡ true
  pub after : new.row.family ≡ family_after_end old.row.family pid ending ignored

kept-alive : {B : Type 0} (ignored : Bool) (ending : Ending) (x : Alive) → process_after_end ignored ending ≡ Living x
    → B
kept-alive true ending x h = living-gone x (sym h)
kept-alive false ending x h = living-ended x ending (sym h)

kept-ended : (ignored : Bool) (ending d : Ending) → process_after_end ignored ending ≡ Ended d → (ignored ≡ false)
    × (ending ≡ d)
kept-ended true ending d h = ended-gone d (sym h)
kept-ended false ending d h = (refl, same-ending ending d h)

end-family : (f m g : Map) (pid : ℕ) (a : Alive) (keeper : ℕ) (old new : Alive) (ending : Ending) (ignored : Bool)
    → End f m g pid a keeper old new ending ignored
    → (x : Alive) → Living new ≡ Living x → x.row.family ≡ family_after_end old.row.family pid ending ignored
end-family f m g pid a keeper old new ending ignored e x is =
    ap (λ (z : Alive). z.row.family) (sym (same-alive new x is)) ∙ e.after

end-apart : (f m g : Map) (pid : ℕ) (a : Alive) (keeper : ℕ) (old new : Alive) (ending : Ending) (ignored : Bool)
    → Families f
    → End f m g pid a keeper old new ending ignored → keeper ≢ pid
end-apart f m g pid a keeper old new ending ignored fam e same =
    fam.alone pid (subst (λ (x : ℕ). Lists f x pid) same (record { alive = old; there = e.parent; listed = e.listed }))

end-lists : (f m g : Map) (pid : ℕ) (a : Alive) (keeper : ℕ) (old new : Alive) (ending : Ending) (ignored : Bool)
    → Families f
    → End f m g pid a keeper old new ending ignored → (p c : ℕ) → Lists g p c → Lists f p c × (c ≢ pid)
end-lists f m g pid a keeper old new ending ignored fam e p c h =
    elim (from m g pid (process_after_end ignored ending) keeper (Living new) e.two p (Living h.alive) h.there) [
      | AtFirst same is ↦ kept-alive ignored ending h.alive is
      | AtLast same is ↦
          let w = lists-end old.row.family pid ending ignored c
          (subst (λ (z : Family). lists z c ≡ true)
          (end-family f m g pid a keeper old new ending ignored e h.alive is) h.listed)
          in (record { alive = old; there = ap f same ∙ e.parent; listed = w.0 }, w.1)
      | Elsewhere first last was ↦
          let b = e.clear.alive_back p h.alive was
          in let l : Lists f p c = record { alive = h.alive; there = b; listed = h.listed }
          in (
            l,
            λ same. last (fam.one_parent p keeper pid (subst (λ (x : ℕ). Lists f p x) same l)
                (record { alive = old; there = e.parent; listed = e.listed })),
          )
    ]

end-new : (f m g : Map) (pid : ℕ) (a : Alive) (keeper : ℕ) (old new : Alive) (ending : Ending) (ignored : Bool)
    → End f m g pid a keeper old new ending ignored → (c : ℕ) (d : Ending) → pid ≡ c → ending ≡ d → ignored ≡ false
    → g c ≡ Some (Ended d)
end-new f m g pid a keeper old new ending ignored e c d at is off =
    ap g (sym at) ∙ (e.two.first
    ∙ (ap (λ (b : Bool). Some (process_after_end b ending)) off ∙ ap (λ (x : Ending). Some (Ended x)) is))

end-keeps : (f m g : Map) (pid : ℕ) (a : Alive) (keeper : ℕ) (old new : Alive) (ending : Ending) (ignored : Bool)
    → Families f
    → End f m g pid a keeper old new ending ignored → (p c : ℕ) (d : Ending) → KeepsEnded g p c d
    → (KeepsEnded f p c d × (p ≢ pid)) ⊎ ((p ≡ keeper) × (c ≡ pid) × (g c ≡ Some (Ended d)))
end-keeps f m g pid a keeper old new ending ignored fam e p c d h =
    elim (from m g pid (process_after_end ignored ending) keeper (Living new) e.two p (Living h.alive) h.there) [
      | AtFirst same is ↦ kept-alive ignored ending h.alive is
      | AtLast same is ↦
          elim (ended-end old.row.family pid ending ignored c d
          (subst (λ (z : Family). Contains z.ended (ended_child c d))
          (end-family f m g pid a keeper old new ending ignored e h.alive is) h.kept)) [
            | inl before ↦
                inl (
                  record { alive = old; there = ap f same ∙ e.parent; kept = before },
                  λ own. end-apart f m g pid a keeper old new ending ignored fam e (sym same ∙ own),
                )
            | inr now ↦ inr (same, sym now.0, end-new f m g pid a keeper old new ending ignored e c d now.0 now.1 now.2)
          ]
      | Elsewhere first last was ↦ inl
          (record { alive = h.alive; there = e.clear.alive_back p h.alive was; kept = h.kept }, first)
    ]

end-keeps-on : (f m g : Map) (pid : ℕ) (a : Alive) (keeper : ℕ) (old new : Alive) (ending : Ending) (ignored : Bool)
    → End f m g pid a keeper old new ending ignored → (p c : ℕ) (d : Ending) → KeepsEnded f p c d → p ≢ pid
    → KeepsEnded g p c d
end-keeps-on f m g pid a keeper old new ending ignored e p c d h ne =
    elim (cases_eq p keeper) [
      | inl same ↦
          let is : h.alive ≡ old =
          same-alive h.alive old (at-once (f p) (Living h.alive) (Living old) h.there (ap f same ∙ e.parent))
          in let k : Contains old.row.family.ended (ended_child c d) =
          subst (λ (z : Alive). Contains z.row.family.ended (ended_child c d)) is h.kept
          in record {
            alive = new;
            there = ap g same ∙ e.two.last;
            kept = subst (λ (z : Family). Contains z.ended (ended_child c d)) (sym e.after)
                (ended-stays old.row.family pid ending ignored (ended_child c d) k);
          }
      | inr other ↦ record {
        alive = h.alive;
        there =
            e.two.other p ne other ∙ e.clear.alive_on p h.alive h.there;
        kept = h.kept;
      }
    ]

end-lives : (f m g : Map) (pid : ℕ) (a : Alive) (keeper : ℕ) (old new : Alive) (ending : Ending) (ignored : Bool)
    → End f m g pid a keeper old new ending ignored → (c : ℕ) → IsLiving f c → c ≢ pid → IsLiving g c
end-lives f m g pid a keeper old new ending ignored e c h ne =
    elim (cases_eq c keeper) [
      | inl same ↦ record { alive = new; there = ap g same ∙ e.two.last }
      | inr other ↦ record { alive = h.alive; there = e.two.other c ne other ∙ e.clear.alive_on c h.alive h.there }
    ]

end-keeper : (f m g : Map) (pid : ℕ) (a : Alive) (keeper : ℕ) (old new : Alive) (ending : Ending) (ignored : Bool)
    → End f m g pid a keeper old new ending ignored → (c : ℕ) (d : Ending) → c ≡ pid → ending ≡ d → ignored ≡ false
    → KeepsEnded g keeper c d
end-keeper f m g pid a keeper old new ending ignored e c d at is off =
    let k : Contains (family_after_end old.row.family pid ending ignored).ended (ended_child pid ending) =
    subst (λ (b : Bool). Contains (family_after_end old.row.family pid ending b).ended (ended_child pid ending))
    (sym off) (ended-new old.row.family pid ending)
    in let k2 : Contains new.row.family.ended (ended_child pid ending) =
    subst (λ (z : Family). Contains z.ended (ended_child pid ending)) (sym e.after) k
    in let k3 : Contains new.row.family.ended (ended_child c ending) =
    subst (λ (x : ℕ). Contains new.row.family.ended (ended_child x ending)) (sym at) k2
    in record {
      alive = new;
      there = e.two.last;
      kept =
          subst (λ (x : Ending). Contains new.row.family.ended (ended_child c x)) is k3;
    }

end-ended : (f m g : Map) (pid : ℕ) (a : Alive) (keeper : ℕ) (old new : Alive) (ending : Ending) (ignored : Bool)
    → End f m g pid a keeper old new ending ignored → (c : ℕ) (d : Ending) → g c ≡ Some (Ended d)
    → KeepsEnded g keeper c d ⊎ ((f c ≡ Some (Ended d)) × (KeepsEnded f pid c d → ⊥))
end-ended f m g pid a keeper old new ending ignored e c d h =
    elim (from m g pid (process_after_end ignored ending) keeper (Living new) e.two c (Ended d) h) [
      | AtFirst same is ↦
          let w = kept-ended ignored ending d is in
          inl (end-keeper f m g pid a keeper old new ending ignored e c d same w.1 w.0)
      | AtLast same is ↦ living-ended new d is
      | Elsewhere first last was ↦ inr (own-keeps f m pid a e.lives e.clear c d was)
    ]

-- the end of a process with a parent, number by number
pub over-end : (f m g : Map) (pid : ℕ) (a : Alive) (keeper : ℕ) (old new : Alive) (ending : Ending) (ignored : Bool)
    → Families f
    → End f m g pid a keeper old new ending ignored → Over f g pid keeper
over-end f m g pid a keeper old new ending ignored fam e =
    record {
      lists_back = end-lists f m g pid a keeper old new ending ignored fam e;
      keeps_back = end-keeps f m g pid a keeper old new ending ignored fam e;
      keeps_on = end-keeps-on f m g pid a keeper old new ending ignored e;
      lives_before = record { alive = a; there = e.lives };
      lives_on = end-lives f m g pid a keeper old new ending ignored e;
      ended_back = end-ended f m g pid a keeper old new ending ignored e;
      ended_on = λ p c d h ne.
          let was = fam.ended p c d h
          in let first = different f c pid (Ended d) (Living a) was e.lives (λ s. living-ended a d (sym s))
          in let last = different f c keeper (Ended d) (Living old) was e.parent (λ s. living-ended old d (sym s))
          in e.two.other c first last ∙ keeps-cleared f m pid a fam e.lives e.clear p c d h ne;
    }
