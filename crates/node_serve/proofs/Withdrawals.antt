-- A waiter is taken out: where no process waits twice, the one of a process is the one of the process and its ticket.
use Rattle.std.proofs.Common.{◌≡◌, ◌∙◌, ℕ, Bool, true, false, not, ◌&&◌, ◌||◌, nat_eq, List, [], ◌∷◌, map, Option, Some, None, is_some, refl, sym, ap, subst, arith}
use Rattle.std.specs.Prelude.{find, if◌then◌else◌, MatchOption}
use Rattle.std.specs.List.{AllByRecursion, filter, list_any}
use Rattle.std.specs.Option.{option_map}
use Rattle.pico_base.specs.declared.numbers.Name.{Name}
use Rattle.kernel_model.specs.Queue as kernel
use Rattle.kernel_model.specs.SemaphoreSet.{SemaphoreSet}
use Rattle.waiting_model.specs.declared.callers.Waiting.{Waiting}
use Rattle.waiting_model.specs.Waiters.{Awaited, awaited, without_waiter}
use Rattle.waiter_fields.specs.Settling.{is_waiter}
use Rattle.waiter_fields.specs.Waiters.{are_different, processes_of}
use Rattle.sysv_msg.specs.Limits.{AreParked}
use Rattle.deed_box.specs.Deeds.{AreRising}
use Rattle.sysv_sem.specs.Waiters.{HaveOwnProcesses, IsAtRest, LackProcess}
use Rattle.node_model.specs.Bodies as model
use Rattle.node_model.specs.Kinds.{Named, get_named, put_named}
use Rattle.node_model.specs.Serving as definition
use Rattle.node_model.specs.Serving.{body_without, has_waiter, withdraw_in, without_caller}
use Rattle.node_serve.specs.declared.body.Body.{Body}
use Rattle.node_serve.specs.declared.body.Body.TheVariants.{Queue, Set}
use Rattle.node_serve.specs.declared.waiters.Withdrawn.{Withdrawn}
use Rattle.node_serve.specs.declared.waiters.Withdrawn.TheVariants.{TakenOut, NotThere}
use Rattle.node_serve.specs.Bodies.{bodies_of, body_of}
use Rattle.node_serve.specs.Withdrawing.{Leaves, TakesOut, Withdraws, withdrawn_if}
use Rattle.node_serve.proofs.KernelLemmas.{bodies-get, bodies-put}
use Rattle.node_serve.proofs.ServingLemmas.{put-again}

-- ---- whether there is one

any-found : (test : Waiting → Bool) (ws : List Waiting) (w : Waiting) → find test ws ≡ Some w → list_any test ws ≡ true
any-found test [] w h = absurd (cc)
any-found test (v ∷ vs) w h = by (test v) (any-found test vs w) h
  where
    by : (b : Bool) → (find test vs ≡ Some w → list_any test vs ≡ true)
        → (if b then Some v else find test vs) ≡ Some w → (b || list_any test vs) ≡ true
    by true rest h = refl
    by false rest h = rest h

none-found : (test : Waiting → Bool) (ws : List Waiting) → find test ws ≡ None → list_any test ws ≡ false
none-found test [] h = refl
none-found test (v ∷ vs) h = by (test v) (none-found test vs) h
  where
    by : (b : Bool) → (find test vs ≡ None → list_any test vs ≡ false)
        → (if b then Some v else find test vs) ≡ None → (b || list_any test vs) ≡ false
    by true rest h = absurd (cc)
    by false rest h = rest h

-- ---- who is left

abbrev others : ℕ → Waiting → Bool
others pid w = not (nat_eq pid w.pid)

abbrev all_but : ℕ → ℕ → Waiting → Bool
all_but pid ticket w = not (is_waiter pid ticket w)

-- where the process doesn't wait, both leave all
lacks-both : (pid ticket : ℕ) (ws : List Waiting) → LackProcess pid ws
    → (filter (others pid) ws ≡ filter (all_but pid ticket) ws) × (find (is_waiter pid ticket) ws ≡ None)
lacks-both pid ticket [] lack = (refl, refl)
lacks-both pid ticket (v ∷ vs) lack =
    let rest = lacks-both pid ticket vs lack.1
    in rw lack.0 (ap (λ (ws : List Waiting). v ∷ ws) rest.0, rest.1)

lacks-same : (pid other : ℕ) (ws : List Waiting) → nat_eq pid other ≡ true → LackProcess other ws → LackProcess pid ws
lacks-same pid other ws same lack =
    let is : pid ≡ other = grind_same pid other same in subst (λ (p : ℕ). LackProcess p ws) (sym is) lack
  where
    grind_same : (a b : ℕ) → nat_eq a b ≡ true → a ≡ b
    grind_same a b h = grind arith

-- where one was found, both leave the others
left-both : (pid ticket : ℕ) (ws : List Waiting) (w : Waiting) → HaveOwnProcesses ws
    → find (is_waiter pid ticket) ws ≡ Some w
    → filter (others pid) ws ≡ filter (all_but pid ticket) ws
left-both pid ticket [] w own found = absurd (cc)
left-both pid ticket (v ∷ vs) w own found =
    by (nat_eq pid v.pid) (nat_eq ticket v.ticket) refl found
    (λ here. lacks-both pid ticket vs (lacks-same pid v.pid vs here own.0))
    (left-both pid ticket vs w own.1)
  where
    by : (here same : Bool) → nat_eq pid v.pid ≡ here
        → (if here && same then Some v else find (is_waiter pid ticket) vs) ≡ Some w
        → (nat_eq pid v.pid ≡ true → (filter (others pid) vs ≡ filter (all_but pid ticket) vs)
        × (find (is_waiter pid ticket) vs ≡ None))
        → (find (is_waiter pid ticket) vs ≡ Some w → filter (others pid) vs ≡ filter (all_but pid ticket) vs)
        → (if not here then v ∷ filter (others pid) vs else filter (others pid) vs)
        ≡ (if not (here && same) then v ∷ filter (all_but pid ticket) vs else filter (all_but pid ticket) vs)
    by true true is found alone rest = (alone is).0
    by true false is found alone rest =
        let none : Some w ≡ None = sym found ∙ (alone is).1 in absurd (cc)
    by false same is found alone rest = ap (λ (ws : List Waiting). v ∷ ws) (rest found)

-- ---- a queue, and a set

lacks-process : (pid : ℕ) (ws : List Waiting) → list_any (nat_eq pid) (processes_of ws) ≡ false → LackProcess pid ws
lacks-process pid [] h = tt
lacks-process pid (w ∷ ws) h =
    let parts = neither (nat_eq pid w.pid) (list_any (nat_eq pid) (processes_of ws)) h
    in (parts.0, lacks-process pid ws parts.1)
  where
    neither : (a b : Bool) → (a || b) ≡ false → (a ≡ false) × (b ≡ false)
    neither true b h = absurd (cc)
    neither false b h = (refl, h)

own-processes : (ws : List Waiting) → are_different (processes_of ws) ≡ true → HaveOwnProcesses ws
own-processes [] h = tt
own-processes (w ∷ ws) h =
    let parts = both (list_any (nat_eq w.pid) (processes_of ws)) (are_different (processes_of ws)) h
    in (lacks-process w.pid ws parts.0, own-processes ws parts.1)
  where
    both : (a b : Bool) → (not a && b) ≡ true → (a ≡ false) × (b ≡ true)
    both true b h = absurd (cc)
    both false b h = (refl, h)

-- what a queue or a set says of it, without its own kind
TakesOutOf : {T : Type 0} → ℕ → ℕ → Awaited T → Awaited T → Option Waiting → Type 0
TakesOutOf pid ticket old new found =
    MatchOption found ((find (is_waiter pid ticket) old.waiters ≡ None) × (new ≡ old))
    (λ w. (find (is_waiter pid ticket) old.waiters ≡ Some w) × (new ≡ without_waiter pid old))

module _ {T : Type 0} (put : Awaited T → Body) (pid ticket : ℕ) (old new : Awaited T)
    (of : (object : Awaited T) → model.waiters_of (body_of (put object)) ≡ object.waiters)
    (without : (object : Awaited T)
    → body_without pid ticket (body_of (put object)) ≡ body_of (put (without_caller pid ticket object)))
    (own : HaveOwnProcesses old.waiters) where
  taken-out : (found : Option Waiting) → TakesOutOf pid ticket old new found
      → TakesOut pid ticket (put old) (put new) (is_some found)
  unfolding TakesOutOf
  taken-out None h =
      (ap (list_any (is_waiter pid ticket)) (of old) ∙ none-found (is_waiter pid ticket) old.waiters h.0, ap put h.1)
  taken-out (Some w) h =
      let left : without_waiter pid old ≡ without_caller pid ticket old =
      ap (awaited old.state) (left-both pid ticket old.waiters w own h.0)
      in (
        ap (list_any (is_waiter pid ticket)) (of old) ∙ any-found (is_waiter pid ticket) old.waiters w h.0,
        ap (λ (object : Awaited T). body_of (put object)) (h.1 ∙ left) ∙ sym (without old),
      )

-- a queue loses the one who waits so, or stays where nobody does
pub queue-takes-out : (pid ticket : ℕ) (old new : Awaited kernel.Queue) (found : Option Waiting) → AreParked old
    → MatchOption found ((find (is_waiter pid ticket) old.waiters ≡ None) × (new ≡ old))
    (λ w. (find (is_waiter pid ticket) old.waiters ≡ Some w) × (new ≡ without_waiter pid old))
    → TakesOut pid ticket (Queue old) (Queue new) (is_some found)
unfolding TakesOutOf
queue-takes-out pid ticket old new found parked h =
    taken-out Queue pid ticket old new (λ _. refl) (λ _. refl) (own-processes old.waiters parked.different) found h

-- and so does a set at rest
pub set-takes-out : (pid ticket : ℕ) (old new : Awaited SemaphoreSet) (found : Option Waiting) → IsAtRest old
    → found ≡ find (is_waiter pid ticket) old.waiters
    → MatchOption found (new ≡ old) (λ _. new ≡ without_waiter pid old)
    → TakesOut pid ticket (Set old) (Set new) (is_some found)
unfolding TakesOutOf
set-takes-out pid ticket old new None rest is h =
    taken-out Set pid ticket old new (λ _. refl) (λ _. refl) rest.waiters.apart None (sym is, h)
set-takes-out pid ticket old new (Some w) rest is h =
    taken-out Set pid ticket old new (λ _. refl) (λ _. refl) rest.waiters.apart (Some w) (sym is, h)

-- ---- at a name that is held

-- the deeds are with what the body leaves; or they stay, where nobody waits so
pub withdraws-there : (old : Named Body) (name : Name) (pid ticket : ℕ) (body left : Body) (there : Bool)
    → AreRising old → get_named old name ≡ Some body → TakesOut pid ticket body left there
    → Withdraws old name pid ticket (put_named old name left) (withdrawn_if there)
withdraws-there old name pid ticket body left true rising held takes =
    record {
      left = body_without pid ticket (body_of body);
      withdraws = ap (withdraw_in pid ticket) (bodies-get old name ∙ ap (option_map body_of) held)
          ∙ ap (λ (b : Bool).
          if b then definition.Leaves (body_without pid ticket (body_of body)) else definition.NotThere) takes.0;
      after = bodies-put old name left ∙ ap (put_named (bodies_of old) name) takes.1;
    }
withdraws-there old name pid ticket body left false rising held takes = (
  ap (withdraw_in pid ticket) (bodies-get old name ∙ ap (option_map body_of) held)
      ∙ ap (λ (b : Bool).
      if b then definition.Leaves (body_without pid ticket (body_of body)) else definition.NotThere) takes.0,
  ap (put_named old name) takes.1 ∙ put-again old name body rising held,
)

-- without a body of that name the withdrawal finds it isn't held
pub withdraws-nowhere : (old : Named Body) (name : Name) (pid ticket : ℕ) → get_named old name ≡ None
    → definition.withdraw (bodies_of old) name pid ticket ≡ definition.NotHeld
withdraws-nowhere old name pid ticket none =
    ap (withdraw_in pid ticket) (bodies-get old name ∙ ap (option_map body_of) none)
