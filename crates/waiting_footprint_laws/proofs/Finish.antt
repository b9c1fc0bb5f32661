-- The marks that an entry leaves its caller: from the same effect to the same step.
use Rattle.std.proofs.Common.{◌≡◌, ◌≢◌, ◌↔◌, ◌∙◌, ℕ, Bool, true, false, List, Option, Some, None, is_some, refl, ap, sym, subst, inl, inr}
use Rattle.std.specs.Prelude.{if◌then◌else◌}
use Rattle.std.specs.Option.{option_map, option_and_then}
use Rattle.std.proofs.lemmas.Bool.{cases_eq}
use Rattle.pico_base.specs.declared.call.Call.{Call}
use Rattle.pico_base.specs.declared.reply.Reply.{Reply}
use Rattle.pico_base.specs.declared.signal.Sig.{Sig}
use Rattle.number_maps.specs.Maps.{Numbered, get}
use Rattle.number_maps.proofs.LookUps.{get-put-same, get-put-other}
use Rattle.kernel_model.specs.Row.{Allowance, Free, Spent}
use Rattle.waiting_model.specs.Marks.{Alive, Marks, marks_after_reply, spent}
use Rattle.waiting_model.specs.Kernel.{Kernel, Process, Living, Ended, Gone, alive_in, living_at, where_living, with_alive}
use Rattle.waiting_model.specs.Transition.{after_call, allowance_after, finish_call}
use Rattle.waiting_footprint_laws.specs.Footprint.{Part}
use Rattle.waiting_footprint_laws.specs.Law.{AgreeOn}
use Rattle.waiting_footprint_laws.specs.Valid.{IsValid, IsValidProcess}
use Rattle.footprint_laws.proofs.Change.{change-move}
use Rattle.waiting_footprint_laws.proofs.Changed.{changed-same, changed-other, orphan-changed}
use Rattle.waiting_footprint_laws.proofs.Parents.{orphan-put, orphan-unlisted}
use Rattle.waiting_footprint_laws.proofs.Moved.{Moved, marks_in, doomed_in, moved-move, moved-doomed, moved-remark, remarked}
use Rattle.waiting_footprint_laws.proofs.Effects.{AllMoved, IsOrphan, Stepped, has_marks, has_whole, marks-same}

-- marks of a doomed caller
abbrev pub spent_marks : Bool → Marks → Marks
spent_marks true m = record m { allowance = Spent }
spent_marks false m = m

-- marks by whether the call has a reply
abbrev pub replied_marks : Call → Option Reply → Marks → Marks
replied_marks call None m = record m { parked = Some call }
replied_marks call (Some reply) m = marks_after_reply m

-- marks of a caller whose call is done, by whether it is doomed
abbrev pub finished_marks : Call → Option Reply → Bool → Marks → Marks
finished_marks call own doomed m = replied_marks call own (spent_marks doomed m)

-- What finishing leaves at each number.

module _ (k : Kernel) (pid : ℕ) where
  allowed-if : (a : Alive) (b : Bool) → get k.processes pid ≡ Some (Living a)
      → get (if b then with_alive k pid (spent a) else k).processes pid ≡ remarked (spent_marks b) (Some (Living a))
  allowed-if a true h = get-put-same k.processes pid (Living (spent a))
  allowed-if a false h = h

  allowed-at : (o : Option Process) → get k.processes pid ≡ o
      → get (allowance_after k pid (option_and_then alive_in o)).processes pid ≡ remarked (spent_marks (doomed_in o)) o
  allowed-at None h = h
  allowed-at (Some (Living a)) h = allowed-if a (is_some a.row.signals.doom) h
  allowed-at (Some (Ended ending)) h = h
  allowed-at (Some Gone) h = h

  allowed-off : (q : ℕ) (a : Alive) (b : Bool) → q ≢ pid
      → get (if b then with_alive k pid (spent a) else k).processes q ≡ get k.processes q
  allowed-off q a true ne = get-put-other k.processes pid (Living (spent a)) q ne
  allowed-off q a false ne = refl

  allowed-other : (q : ℕ) (o : Option Alive) → q ≢ pid → get (allowance_after k pid o).processes q ≡ get k.processes q
  allowed-other q None ne = refl
  allowed-other q (Some a) ne = allowed-off q a (is_some a.row.signals.doom) ne

finished-marked : (call : Call) (own : Option Reply) (b : Bool) (o : Option Process)
    → option_map (where_living (after_call call own)) (remarked (spent_marks b) o)
    ≡ remarked (finished_marks call own b) o
finished-marked call own b None = refl
finished-marked call None b (Some (Living a)) = refl
finished-marked call (Some reply) b (Some (Living a)) = refl
finished-marked call own b (Some (Ended ending)) = refl
finished-marked call own b (Some Gone) = refl

-- of the caller
pub finished-at : (k : Kernel) (pid : ℕ) (call : Call) (own : Option Reply)
    → get (finish_call k pid call own).processes pid
    ≡ remarked (finished_marks call own (doomed_in (get k.processes pid))) (get k.processes pid)
finished-at k pid call own =
    changed-same (allowance_after k pid (living_at k pid)).processes pid (after_call call own)
    ∙ ap (option_map (where_living (after_call call own))) (allowed-at k pid (get k.processes pid) refl)
    ∙ finished-marked call own (doomed_in (get k.processes pid)) (get k.processes pid)

-- and of another
pub finished-other : (k : Kernel) (pid : ℕ) (call : Call) (own : Option Reply) (q : ℕ) → q ≢ pid
    → get (finish_call k pid call own).processes q ≡ get k.processes q
finished-other k pid call own q ne =
    changed-other (allowance_after k pid (living_at k pid)).processes pid (after_call call own) q ne
    ∙ allowed-other k pid q (living_at k pid) ne

-- The parts of the kernel beside the processes, and who has no parent.

pub record Kept (j k : Kernel) : Type 0 where
  pub queues : j.queues ≡ k.queues
  pub sets : j.sets ≡ k.sets
  pub queue_keys : j.queue_keys ≡ k.queue_keys
  pub set_keys : j.set_keys ≡ k.set_keys
  pub used_processes : j.used_processes ≡ k.used_processes
  pub used_queues : j.used_queues ≡ k.used_queues
  pub used_sets : j.used_sets ≡ k.used_sets

kept-self : (k : Kernel) → Kept k k
kept-self k =
    record {
      queues = refl;
      sets = refl;
      queue_keys = refl;
      set_keys = refl;
      used_processes = refl;
      used_queues = refl;
      used_sets = refl;
    }

kept-if : (k : Kernel) (pid : ℕ) (a : Alive) (b : Bool) → Kept (if b then with_alive k pid (spent a) else k) k
kept-if k pid a true =
    record {
      queues = refl;
      sets = refl;
      queue_keys = refl;
      set_keys = refl;
      used_processes = refl;
      used_queues = refl;
      used_sets = refl;
    }
kept-if k pid a false = kept-self k

-- what the caller's allowance leaves alone
pub kept-allowance : (k : Kernel) (pid : ℕ) (o : Option Alive) → Kept (allowance_after k pid o) k
kept-allowance k pid None = kept-self k
kept-allowance k pid (Some a) = kept-if k pid a (is_some a.row.signals.doom)

orphan-if : (k : Kernel) (pid : ℕ) (a : Alive) (b : Bool) (p : ℕ) → living_at k pid ≡ Some a → IsOrphan k p
    → IsOrphan (if b then with_alive k pid (spent a) else k) p
orphan-if k pid a true p lives h =
    orphan-put p k.processes pid (Living (spent a)) (orphan-unlisted p k.processes pid a h lives) h
orphan-if k pid a false p lives h = h

orphan-allowance : (k : Kernel) (pid : ℕ) (o : Option Alive) (p : ℕ) → living_at k pid ≡ o → IsOrphan k p
    → IsOrphan (allowance_after k pid o) p
orphan-allowance k pid None p lives h = h
orphan-allowance k pid (Some a) p lives h = orphan-if k pid a (is_some a.row.signals.doom) p lives h

same-row : (call : Call) (own : Option Reply) (a : Alive) → (after_call call own a).row ≡ a.row
same-row call None a = refl
same-row call (Some reply) a = refl

finished-orphan : (k : Kernel) (pid : ℕ) (call : Call) (own : Option Reply) (p : ℕ) → IsOrphan k p
    → IsOrphan (finish_call k pid call own) p
finished-orphan k pid call own p h =
    orphan-changed p (allowance_after k pid (living_at k pid)).processes pid (after_call call own) (same-row call own)
    (orphan-allowance k pid (living_at k pid) p refl h)

-- Who is doomed, by the marks.

-- a process is doomed exactly where its allowance isn't free
doomed-alike : (d g : Option Sig) (a b : Allowance) → (d ≡ None) ↔ (a ≡ Free) → (g ≡ None) ↔ (b ≡ Free) → a ≡ b
    → is_some d ≡ is_some g
doomed-alike None None a b x y h = refl
doomed-alike (Some s) (Some t) a b x y h = refl
doomed-alike None (Some t) a b x y h = let c = y.1 (sym h ∙ x.0 refl) in cc
doomed-alike (Some s) None a b x y h = let c = x.1 (h ∙ y.0 refl) in cc

-- what stands at a number is a valid process, if it lives
abbrev IsValidAt : Option Process → Type 0
IsValidAt o = (a : Alive) → option_and_then alive_in o ≡ Some a → IsValidProcess a

doomed-by : (o p : Option Process) → IsValidAt o → IsValidAt p → marks_in o ≡ marks_in p → doomed_in o ≡ doomed_in p
doomed-by None None v w h = refl
doomed-by None (Some (Living b)) v w h = cc
doomed-by None (Some (Ended f)) v w h = refl
doomed-by None (Some Gone) v w h = refl
doomed-by (Some (Living a)) None v w h = cc
doomed-by (Some (Living a)) (Some (Living b)) v w h =
    let same : a.marks ≡ b.marks = cc
    in doomed-alike a.row.signals.doom b.row.signals.doom a.marks.allowance b.marks.allowance (v a refl).allowed
    (w b refl).allowed (ap (λ (m : Marks). m.allowance) same)
doomed-by (Some (Living a)) (Some (Ended f)) v w h = cc
doomed-by (Some (Living a)) (Some Gone) v w h = cc
doomed-by (Some (Ended e)) None v w h = refl
doomed-by (Some (Ended e)) (Some (Living b)) v w h = cc
doomed-by (Some (Ended e)) (Some (Ended f)) v w h = refl
doomed-by (Some (Ended e)) (Some Gone) v w h = refl
doomed-by (Some Gone) None v w h = refl
doomed-by (Some Gone) (Some (Living b)) v w h = cc
doomed-by (Some Gone) (Some (Ended f)) v w h = refl
doomed-by (Some Gone) (Some Gone) v w h = refl

-- The step.

module _ (parts : List Part) (j k : Kernel) (h : AgreeOn parts j k) where
  -- the same change of the marks of a process whose marks are a part
  pub remarked-at : (n : ℕ) (f : Marks → Marks) (a b c d : Numbered Process) → has_marks parts n ≡ true
      → AllMoved parts j k a b
      → get c n ≡ remarked f (get a n) → get d n ≡ remarked f (get b n)
      → ((q : ℕ) → q ≢ n → get c q ≡ get a q) → ((q : ℕ) → q ≢ n → get d q ≡ get b q)
      → AllMoved parts j k c d
  remarked-at n f a b c d t m x y u v = λ p.
      elim (cases_eq p n) [
        | inl e ↦
            let P : ℕ → Type 0 = λ q.
            Moved (has_whole parts q) (has_marks parts q) (get j.processes q) (get k.processes q) (get c q) (get d q)
            in subst P (sym e)
            (moved-move _ _ _ _ _ _ _ _
            (moved-remark _ _ _ _ (get a n) (get b n) f t (marks-same parts n j k t h) (m n)) x y)
        | inr ne ↦ moved-move _ _ _ _ _ _ _ _ (m p) (u p ne) (v p ne)
      ]

module _ (parts : List Part) (j k : Kernel) (h : AgreeOn parts j k) (pid : ℕ)
    (marked : has_marks parts pid ≡ true) where
  finished-moved : (to_j to_k : Kernel) (call : Call) (own : Option Reply) → IsValid j → IsValid k
      → AllMoved parts j k to_j.processes to_k.processes
      → AllMoved parts j k (finish_call to_j pid call own).processes (finish_call to_k pid call own).processes
  finished-moved to_j to_k call own vj vk m =
      let doomed : doomed_in (get to_k.processes pid) ≡ doomed_in (get to_j.processes pid) =
      sym (moved-doomed _ _ _ _ _ _ (m pid)
      (doomed-by (get j.processes pid) (get k.processes pid) (vj.alive pid) (vk.alive pid)
      (marks-same parts pid j k marked h)))
      in remarked-at parts j k h pid (finished_marks call own (doomed_in (get to_j.processes pid))) to_j.processes
      to_k.processes
      (finish_call to_j pid call own).processes (finish_call to_k pid call own).processes marked m
      (finished-at to_j pid call own)
      (finished-at to_k pid call own
      ∙ ap (λ b. remarked (finished_marks call own b) (get to_k.processes pid)) doomed)
      (finished-other to_j pid call own) (finished-other to_k pid call own)

  -- from what an effect leaves to what the call does
  pub finished-step : (to_j to_k : Kernel) (call : Call) (own : Option Reply) → IsValid j → IsValid k
      → Stepped parts j k to_j to_k
      → Stepped parts j k (finish_call to_j pid call own) (finish_call to_k pid call own)
  finished-step to_j to_k call own vj vk s =
      let x = kept-allowance to_j pid (living_at to_j pid)
      in let y = kept-allowance to_k pid (living_at to_k pid)
      in record {
        processes = finished-moved to_j to_k call own vj vk s.processes;
        queues = λ p. change-move _ _ _ _ _ _ _ (s.queues p) (ap (λ m. get m p) x.queues) (ap (λ m. get m p) y.queues);
        sets = λ p. change-move _ _ _ _ _ _ _ (s.sets p) (ap (λ m. get m p) x.sets) (ap (λ m. get m p) y.sets);
        queue_keys = λ p. change-move _ _ _ _ _ _ _ (s.queue_keys p) (ap (λ m. get m p) x.queue_keys)
            (ap (λ m. get m p) y.queue_keys);
        set_keys = λ p. change-move _ _ _ _ _ _ _ (s.set_keys p) (ap (λ m. get m p) x.set_keys)
            (ap (λ m. get m p) y.set_keys);
        parents = λ p t. (
          finished-orphan to_j pid call own p (s.parents p t).0,
          finished-orphan to_k pid call own p (s.parents p t).1,
        );
      }
