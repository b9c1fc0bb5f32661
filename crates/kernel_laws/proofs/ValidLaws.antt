-- Each reachable kernel is valid.
use Rattle.std.proofs.Common.{◌≡◌, ℕ, true, [], ◌∷◌, Option, Some, None, refl, ap, sym, subst, ◌∙◌, inl, inr}
use Rattle.std.specs.Prelude.{is_some, Contains}
use Rattle.std.proofs.lemmas.Bool.{cases_eq, false_from_ne_true}
use Rattle.pico_base.specs.declared.reply.Ending.{Ending}
use Rattle.number_maps.specs.Maps.{Numbered, get, is_used}
use Rattle.kernel_model.specs.Row.{Alive, Free, new_row, lists, ended_child}
use Rattle.kernel_model.specs.Kernel.{Kernel, Process, Living, Ended, Parent, parent_in, living_at, opening}
use Rattle.kernel_model.specs.Valid.{IsValidProcess, IsValid}
use Rattle.kernel_model.specs.Queue.{Queue}
use Rattle.kernel_model.specs.SemaphoreSet.{SemaphoreSet}
use Rattle.kernel_laws.specs.Reachable.{IsReachableKernel}
use Rattle.kernel_laws.specs.Processes.{ReachableKernelsAreValid, SignalsAreSound, ChildrenHaveOneParent}
use Rattle.kernel_laws.proofs.Plain.{from_some, not_some, not_true}
use Rattle.number_maps.proofs.LookUps.{get-first, get-later}
use Rattle.number_maps.proofs.Sets.{used-first, used-later}
use Rattle.number_maps.proofs.Rising.{rising-nothing, rising-put}
use Rattle.kernel_laws.proofs.Members.{contains-none}
use Rattle.kernel_laws.proofs.SignalLaws.{sound-new}
use Rattle.kernel_laws.proofs.Families.{Lists, KeepsEnded, Families, living-ended, same-alive, at-once}
use Rattle.kernel_laws.proofs.EndChanges.{parent-is, orphan}
use Rattle.kernel_laws.proofs.Living.{Strong}
use Rattle.kernel_laws.proofs.People.{People, from-living, to-living}
use Rattle.kernel_laws.proofs.ProcessLaws.{IsStrong, Settled, Midway, people-kept}
use Rattle.kernel_laws.proofs.Histories.{kept-along, kept-by-along}
use Rattle.kernel_laws.proofs.Tables.{table-keys}
use Rattle.kernel_laws.specs.Queues.{IsQueueWithinLimits}
use Rattle.kernel_laws.specs.Sets.{IsSetWithinLimits}
use Rattle.kernel_laws.proofs.QueueLaws.{QueueTable, Queues, queues-kept, queues-opening}
use Rattle.kernel_laws.proofs.SetLaws.{SetTable, Sets, sets-kept, sets-opening}

-- the opening kernel
abbrev pub first : Alive
first = record { row = new_row; allowance = Free }

abbrev pub start : Numbered Process
start = (1, Living first) ∷ []

first-alone : (p : ℕ) (x : Process) → get start p ≡ Some x → (p ≡ 1) × (Living first ≡ x)
first-alone p x h =
    elim (cases_eq p 1) [
      | inl same ↦ (same, from_some (Living first) x (sym (get-first (1, Living first) [] p same) ∙ h))
      | inr ne ↦ not_some x (sym (get-later (1, Living first) [] p ne) ∙ h)
    ]

-- process 1 alone lives at the start
pub first-living : (p : ℕ) (x : Alive) → get start p ≡ Some (Living x) → first ≡ x
first-living p x h = same-alive first x (first-alone p (Living x) h).1

first-used : (n : ℕ) → is_used (1 ∷ []) n ≡ is_some (get start n)
first-used n =
    elim (cases_eq n 1) [
      | inl same ↦ used-first 1 [] n same ∙ sym (ap is_some (get-first (1, Living first) [] n same))
      | inr ne ↦ used-later 1 [] n ne ∙ sym (ap is_some (get-later (1, Living first) [] n ne))
    ]

first-strong : Strong first
first-strong = record { sound = sound-new; free = λ d. refl; undoomed = λ e. refl }

nobody-listed : (p c : ℕ) → Lists (get start) p c → ⊥
nobody-listed p c h =
    not_true {B = ⊥} (subst (λ (x : Alive). lists x.row.family c ≡ true)
    (sym (first-living p h.alive h.there)) h.listed)

nobody-kept : (p c : ℕ) (e : Ending) → KeepsEnded (get start) p c e → ⊥
nobody-kept p c e h =
    contains-none (ended_child c e)
    (subst (λ (x : Alive). Contains x.row.family.ended (ended_child c e)) (sym (first-living p h.alive h.there)) h.kept)

first-families : Families (get start)
first-families =
    record {
      living = λ p c l. absurd (nobody-listed p c l);
      ended = λ p c e l. absurd (nobody-kept p c e l);
      one_parent = λ p q c l m. absurd (nobody-listed p c l);
      one_keeper = λ p q c d e l m. absurd (nobody-kept p c d l);
      kept = λ c e l. living-ended first e (first-alone c (Ended e) l).1;
      alone = λ p l. nobody-listed p p l;
    }

first-settled : People IsStrong start (1 ∷ [])
first-settled =
    record {
      body = record {
        rise = rising-put {V = Process} [] 1 (Living first) (rising-nothing Process);
        used_is = first-used;
        each =
            λ p x l. subst Strong (first-living p x l) first-strong;
      };
      families = first-families;
    }

-- the opening kernel is in order
pub settled-opening : Settled opening
settled-opening = first-settled

-- what a legal history leads to
pub settled : (k : Kernel) → IsReachableKernel k → Settled k
settled k r = kept-by-along Settled Midway people-kept r.0 opening k r.1 settled-opening

alive-valid : (k : Kernel) → Settled k → (pid : ℕ) (a : Alive) → living_at k pid ≡ Some a → IsValidProcess k pid a
alive-valid k h pid a l =
    let there = from-living k.processes pid a l
    in let s = h.body.each pid a there
    in record {
      signals = s.sound;
      allowed = (s.free, s.undoomed);
      living = λ child listed.
          let w = h.families.living pid child (record { alive = a; there = there; listed = listed })
          in ap is_some (to-living k.processes child w.alive w.there);
      ended = λ child ending c. h.families.ended pid child ending (record { alive = a; there = there; kept = c });
    }

-- a kernel whose parts are in order is valid
pub valid-from : (P : Queue → Type 0) (R : SemaphoreSet → Type 0) (k : Kernel) → Settled k → QueueTable P k
    → SetTable R k → IsValid k
valid-from P R k h q s =
    record {
      processes = h.body.rise;
      queues = q.things_rise;
      sets = s.things_rise;
      used_processes = h.body.used_is;
      used_queues = q.used_at;
      used_sets = s.used_at;
      queue_keys = table-keys P k.queues k.queue_keys k.used_queues q;
      set_keys = table-keys R k.sets k.set_keys k.used_sets s;
      alive = alive-valid k h;
      one_parent = λ p q a b child l m x y.
          h.families.one_parent p q child
          (record { alive = a; there = from-living k.processes p a l; listed = x })
          (record { alive = b; there = from-living k.processes q b m; listed = y });
      one_keeper = λ p q a b child l m x y.
          h.families.one_keeper p q child x.0 y.0
          (record { alive = a; there = from-living k.processes p a l; kept = x.1 })
          (record { alive = b; there = from-living k.processes q b m; kept = y.1 });
      kept = λ pid ending e.
          let w = h.families.kept pid ending e
          in record {
            keeper = w.0;
            alive = w.1.alive;
            lives = to-living k.processes w.0 w.1.alive w.1.there;
            kept =
                w.1.kept;
          };
    }

-- what a legal history leads to is valid
pub reachable_kernels_are_valid_lemma : ReachableKernelsAreValid
reachable_kernels_are_valid_lemma k r =
    valid-from IsQueueWithinLimits IsSetWithinLimits k (settled k r)
    (kept-along Queues queues-kept r.0 opening k r.1 queues-opening)
    (kept-along Sets sets-kept r.0 opening k r.1 sets-opening)

-- signals are sound in it
pub signals_are_sound_lemma : SignalsAreSound
signals_are_sound_lemma k r pid a l = ((reachable_kernels_are_valid_lemma k r).alive pid a l).signals

-- parents
parent-same : (ps : Numbered Process) (child pid : ℕ) (a : Alive) (p : Parent) → pid ≡ p.pid
    → get ps pid ≡ Some (Living a) → get ps p.pid ≡ Some (Living p.alive)
    → p ≡ record { pid = pid; alive = a }
parent-same ps child pid a p same l m =
    let is : p.alive ≡ a =
    same-alive p.alive a (at-once (get ps pid) (Living p.alive) (Living a) (ap (get ps) same ∙ m) l)
    in let P : ℕ → Type 0 = λ n. p ≡ record { pid = n; alive = a }
    in let Q : Alive → Type 0 = λ x. p ≡ record { pid = p.pid; alive = x }
    in subst P (sym same) (subst Q is refl)

parent-of : (k : Kernel) → Settled k → (child pid : ℕ) (a : Alive) → get k.processes pid ≡ Some (Living a)
    → lists a.row.family child ≡ true
    → (found : Option Parent) → parent_in child k.processes ≡ found → found ≡ Some (record { pid = pid; alive = a })
parent-of k h child pid a l listed None e = not_true (sym (orphan child k.processes e pid a l) ∙ listed)
parent-of k h child pid a l listed (Some p) e =
    let w = parent-is child k.processes h.body.rise p e
    in let same = h.families.one_parent pid p.pid child (record { alive = a; there = l; listed = listed })
    (record { alive = p.alive; there = w.0; listed = w.1 })
    in ap Some (parent-same k.processes child pid a p same l w.0)

-- no child has two parents in it
pub children_have_one_parent_lemma : ChildrenHaveOneParent
children_have_one_parent_lemma k r child =
    let h = settled k r
    in record {
      lists_it = λ p e. let w =
          parent-is child k.processes h.body.rise p e in (to-living k.processes p.pid p.alive w.0, w.1);
      is_parent = λ pid a l listed.
          parent-of k h child pid a (from-living k.processes pid a l) listed (parent_in child k.processes) refl;
      not_itself = λ a l.
          false_from_ne_true (lists a.row.family child)
          (λ t. h.families.alone child (record { alive = a; there = from-living k.processes child a l; listed = t }));
    }
