-- A doomed caller is left with nothing but its ending: from the same effect to the same step.
use Rattle.std.proofs.Common.{◌≡◌, ◌↔◌, ℕ, Bool, true, false, cond, List, Option, Some, None, is_some, refl, ap, sym, subst, ◌∙◌, inl, inr}
use Rattle.std.specs.Option.{option_map, option_and_then}
use Rattle.std.proofs.lemmas.Bool.{cases_eq, false≢true}
use Rattle.pico_base.specs.declared.signal.Sig.{Sig}
use Rattle.number_maps.specs.Maps.{get, put}
use Rattle.kernel_model.specs.Row.{Alive, Allowance, Free, Spent}
use Rattle.kernel_model.specs.Kernel.{Kernel, Process, Living, Ended, Gone, alive_in, living_at, with_alive}
use Rattle.kernel_model.specs.Effect.{Effect}
use Rattle.kernel_model.specs.Transition.{finish_call}
use Rattle.kernel_model.specs.Valid.{IsValidProcess}
use Rattle.kernel_model.specs.Footprint.{Part, parent_number}
use Rattle.kernel_model.specs.FootprintLaw.{bare}
use Rattle.number_maps.proofs.LookUps.{get-put-same, get-put-other}
use Rattle.footprint_laws.proofs.Parents.{orphan-put, orphan-unlisted}
use Rattle.footprint_laws.proofs.Change.{changes-put, change-agree, change-first, change-second, change-move, has_whole, has_parent, SameEffect, IsOrphan}
use Rattle.footprint_laws.proofs.Stepped.{Stepped, Moved, Doomed, moved-from_change, has_allowance, allowance_in}

-- a process that has nothing left but its ending
abbrev pub spent : Alive → Alive
spent a = record a { allowance = Spent }

-- the living process of a number stands there
pub living-stands : (o : Option Process) (a : Alive) → option_and_then alive_in o ≡ Some a → o ≡ Some (Living a)
living-stands None a h = cc
living-stands (Some (Living b)) a h = ap (λ o. option_map Living o) h
living-stands (Some (Ended ending)) a h = cc
living-stands (Some Gone) a h = cc

orphans-number : (p : ℕ) (j k : Kernel) → IsOrphan j p → IsOrphan k p → parent_number j p ≡ parent_number k p
orphans-number p j k a b = ap (option_map (λ r. r.pid)) (a ∙ sym b)

-- the effect alone
plain : (parts : List Part) (j k : Kernel) (e f : Effect) → SameEffect parts j k e f
    → Stepped parts j k e.kernel f.kernel
plain parts j k e f s =
    record {
      processes = λ p. moved-from_change _ _ _ _ _ _ (s.processes p);
      queues = s.queues;
      sets = s.sets;
      queue_keys = s.queue_keys;
      set_keys = s.set_keys;
      parents = λ p t. orphans-number p e.kernel f.kernel (s.parents p t).0 (s.parents p t).1;
    }

-- Where the whole caller is a part.

module _ (parts : List Part) (j k : Kernel) (e f : Effect) (pid : ℕ) (s : SameEffect parts j k e f)
    (whole : has_whole parts pid ≡ true) where
  with-spent : (a : Alive) → living_at e.kernel pid ≡ Some a → living_at f.kernel pid ≡ Some a
      → Stepped parts j k (with_alive e.kernel pid (spent a)) (with_alive f.kernel pid (spent a))
  with-spent a le lf =
      let p = plain parts j k e f s
      in record {
        processes = λ q. moved-from_change _ _ _ _ _ _
            (changes-put (has_whole parts) j.processes k.processes e.kernel.processes f.kernel.processes pid
            (Living (spent a)) whole s.processes q);
        queues = p.queues;
        sets = p.sets;
        queue_keys = p.queue_keys;
        set_keys = p.set_keys;
        parents = λ q t. orphans-number q (with_alive e.kernel pid (spent a)) (with_alive f.kernel pid (spent a))
            (orphan-put q e.kernel.processes pid (Living (spent a))
            (orphan-unlisted q e.kernel.processes pid a (s.parents q t).0 le) (s.parents q t).0)
            (orphan-put q f.kernel.processes pid (Living (spent a))
            (orphan-unlisted q f.kernel.processes pid a (s.parents q t).1 lf) (s.parents q t).1);
      }

  spent-if : (a : Alive) (b : Bool) → living_at e.kernel pid ≡ Some a → living_at f.kernel pid ≡ Some a
      → Stepped parts j k (cond b (with_alive e.kernel pid (spent a)) e.kernel)
      (cond b (with_alive f.kernel pid (spent a)) f.kernel)
  spent-if a true le lf = with-spent a le lf
  spent-if a false le lf = plain parts j k e f s

  finished-by : (o : Option Alive) → living_at e.kernel pid ≡ o → living_at f.kernel pid ≡ o
      → Stepped parts j k (finish_call e.kernel pid o) (finish_call f.kernel pid o)
  finished-by None le lf = plain parts j k e f s
  finished-by (Some a) le lf = spent-if a (is_some a.row.signals.doom) le lf

  pub whole-stepped : get j.processes pid ≡ get k.processes pid
      → Stepped parts j k (finish_call e.kernel pid (living_at e.kernel pid))
      (finish_call f.kernel pid (living_at f.kernel pid))
  whole-stepped h =
      let same : living_at e.kernel pid ≡ living_at f.kernel pid =
      ap (option_and_then alive_in) (change-agree _ _ _ _ _ (s.processes pid) h)
      in subst (λ o. Stepped parts j k (finish_call e.kernel pid (living_at e.kernel pid)) (finish_call f.kernel pid o))
      same
      (finished-by (living_at e.kernel pid) refl (sym same))

-- Where the caller's allowance alone is a part.

-- it is doomed exactly where its allowance isn't free
doomed-alike : (d g : Option Sig) (a b : Allowance) → (d ≡ None) ↔ (a ≡ Free) → (g ≡ None) ↔ (b ≡ Free) → a ≡ b
    → is_some d ≡ is_some g
doomed-alike None None a b x y h = refl
doomed-alike (Some s) (Some t) a b x y h = refl
doomed-alike None (Some t) a b x y h = let c = y.1 (sym h ∙ x.0 refl) in cc
doomed-alike (Some s) None a b x y h = let c = x.1 (h ∙ y.0 refl) in cc

bare-spent : (o : Option Process) (a : Alive) → o ≡ Some (Living a)
    → option_map bare (Some (Living (spent a))) ≡ option_map bare o
bare-spent o a h = sym (ap (option_map bare) h)

module _ (parts : List Part) (j k : Kernel) (e f : Effect) (pid : ℕ) (s : SameEffect parts j k e f)
    (away : has_whole parts pid ≡ false) (allowed : has_allowance parts pid ≡ true) (childless : (p : ℕ)
    → has_parent parts p ≡ false)
    (a b : Alive) (lives : living_at j pid ≡ Some a) (lives_too : living_at k pid ≡ Some b) where
  doomed-at : (q : ℕ) → Moved (has_whole parts q) (has_allowance parts q) (get j.processes q) (get k.processes q)
      (get (put e.kernel.processes pid (Living (spent a))) q) (get (put f.kernel.processes pid (Living (spent b))) q)
  doomed-at q =
      elim (cases_eq q pid) [
        | inl h ↦
            let P : ℕ → Type 0 = λ r.
            Moved (has_whole parts r) (has_allowance parts r) (get j.processes r) (get k.processes r)
            (get (put e.kernel.processes pid (Living (spent a))) r)
            (get (put f.kernel.processes pid (Living (spent b))) r)
            in let x = get-put-same e.kernel.processes pid (Living (spent a))
            in let y = get-put-same f.kernel.processes pid (Living (spent b))
            in subst P (sym h) (Doomed away allowed (ap allowance_in x ∙ sym (ap allowance_in y))
            (ap (option_map bare) x ∙ bare-spent _ a (living-stands _ a lives))
            (ap (option_map bare) y ∙ bare-spent _ b (living-stands _ b lives_too)))
        | inr h ↦ moved-from_change _ _ _ _ _ _ (change-move _ _ _ _ _ _ _ (s.processes q)
            (get-put-other e.kernel.processes pid (Living (spent a)) q h)
            (get-put-other f.kernel.processes pid (Living (spent b)) q h))
      ]

  both-spent : Stepped parts j k (with_alive e.kernel pid (spent a)) (with_alive f.kernel pid (spent b))
  both-spent =
      let p = plain parts j k e f s
      in record {
        processes = doomed-at;
        queues = p.queues;
        sets = p.sets;
        queue_keys = p.queue_keys;
        set_keys = p.set_keys;
        parents = λ q t. absurd (false≢true (sym (childless q) ∙ t));
      }

  both-by : (x y : Bool) → x ≡ y
      → Stepped parts j k (cond x (with_alive e.kernel pid (spent a)) e.kernel)
      (cond y (with_alive f.kernel pid (spent b)) f.kernel)
  both-by true true h = both-spent
  both-by false false h = plain parts j k e f s
  both-by true false h = cc
  both-by false true h = cc

  pub away-stepped : IsValidProcess j pid a → IsValidProcess k pid b → a.allowance ≡ b.allowance
      → Stepped parts j k (finish_call e.kernel pid (living_at e.kernel pid))
      (finish_call f.kernel pid (living_at f.kernel pid))
  away-stepped va vb h =
      let le : living_at e.kernel pid ≡ Some a =
      ap (option_and_then alive_in) (change-first _ _ _ _ _ (s.processes pid) away) ∙ lives
      in let lf : living_at f.kernel pid ≡ Some b =
      ap (option_and_then alive_in) (change-second _ _ _ _ _ (s.processes pid) away) ∙ lives_too
      in let alike = doomed-alike a.row.signals.doom b.row.signals.doom a.allowance b.allowance va.allowed vb.allowed h
      in subst (λ o. Stepped parts j k (finish_call e.kernel pid o) (finish_call f.kernel pid (living_at f.kernel pid)))
      (sym le)
      (subst (λ o. Stepped parts j k (finish_call e.kernel pid (Some a)) (finish_call f.kernel pid o)) (sym lf)
      (both-by (is_some a.row.signals.doom) (is_some b.row.signals.doom) alike))
