-- Who is woken first, and settling round by round.
use Rattle.std.proofs.Common.{◌≡◌, ◌∙◌, ◌<◌, ◌≤◌, ℕ, zero, suc, ◌+◌, ◌-◌, List, [], ◌∷◌, ◌++◌, length, Option, Some, None, option_map, refl, sym, ap, subst, arith}
use Rattle.std.specs.List.{AllByRecursion}
use Rattle.std.proofs.lemmas.List.{append-nil}
use Rattle.pico_base.specs.declared.reply.Reply.{Reply}
use Rattle.index_links.specs.Chains.{HaveOwnSlots}
use Rattle.index_links.specs.Nodes.{Node, node_at, without}
use Rattle.kernel_model.specs.SemaphoreSet.{SemaphoreSet}
use Rattle.waiting_model.specs.declared.callers.Waiting.{Waiting}
use Rattle.waiting_model.specs.declared.callers.Wake.{Wake}
use Rattle.waiting_model.specs.Waiters.{Awaited, Attempt, Try, Ready, Settled, attempt, wake, ready_or, ready_behind, first_ready, settle, settle_by, settle_on}
use Rattle.sysv_sem.specs.Waiters.{held, waiters_in, try_steps}
use Rattle.sysv_sem.specs.Settling.{ready, settled, IsReadyAt, WakesOne, WakesFirst, SettlesOn}
use Rattle.sysv_sem.proofs.Walk.{Reached, stands_next, its_value, waiters_parts, waiters_left}

module _ {T : Type 0} (try : Try T) (state : T) where
  abbrev pub Waits : Waiting → Type 0
  Waits w = try state w.pid w.call ≡ None

  waits_passed : (w : Waiting) (ws : List Waiting) → try state w.pid w.call ≡ None
      → first_ready try state (w ∷ ws) ≡ option_map (ready_behind w) (first_ready try state ws)
  waits_passed w ws waits = ap (λ (o : Option (Attempt T)). ready_or w ws o (first_ready try state ws)) waits

  -- where all wait nobody is ready
  pub first_none : (ws : List Waiting) → AllByRecursion (λ w. try state w.pid w.call ≡ None) ws
      → first_ready try state ws ≡ None
  first_none [] all = refl
  first_none (w ∷ ws) all =
      waits_passed w ws all.0 ∙ ap (option_map (ready_behind w)) (first_none ws all.1)

  -- the first is the one behind those who wait, where it has a reply
  pub first_behind : (before : List Waiting) (w : Waiting) (after : List Waiting) (a : Attempt T)
      → AllByRecursion (λ w. try state w.pid w.call ≡ None) before → try state w.pid w.call ≡ Some a
      → first_ready try state (before ++ w ∷ after) ≡ Some (ready w a (before ++ after))
  first_behind [] w after a all goes =
      ap (λ (o : Option (Attempt T)). ready_or w after o (first_ready try state after)) goes
  first_behind (v ∷ vs) w after a all goes =
      waits_passed v (vs ++ w ∷ after) all.0
      ∙ ap (option_map (ready_behind v)) (first_behind vs w after a all.1 goes)

-- one more waits
pub one_waits_more : (P : Waiting → Type 0) (w : Waiting) → P w → (ws : List Waiting) → AllByRecursion P ws
    → AllByRecursion P (ws ++ w ∷ [])
one_waits_more P w h [] all = (h, tt)
one_waits_more P w h (v ∷ vs) all = (all.0, one_waits_more P w h vs all.1)

-- ---- the search for who can go on

-- those before the next one wait
abbrev pub WaitSo : SemaphoreSet → List Waiting → Type 0
WaitSo set ws = AllByRecursion (λ w. try_steps set w.pid w.call ≡ None) ws

-- the next one can go on
pub ready_there : (old new : SemaphoreSet) (nodes : List (Node Waiting)) (at : Option ℕ) (count slot : ℕ) (w : Waiting)
    (reply : Reply) → HaveOwnSlots nodes → at ≡ Some slot
    → option_map (λ (n : Node Waiting). n.value) (node_at slot nodes) ≡ Some w
    → try_steps old w.pid w.call ≡ Some (attempt new reply)
    → Reached nodes (WaitSo old) at count → IsReadyAt old new nodes slot reply
ready_there old new nodes at count slot w reply own is value goes r =
    let s = stands_next nodes (WaitSo old) at count slot own is r in
    let same : s.node.value ≡ w = its_value nodes r.done slot w s value in
    record {
      waiter = w;
      at = value;
      first = ap (first_ready try_steps old) (waiters_parts nodes r.done slot w s same)
          ∙ (first_behind try_steps old (waiters_in r.done) w (waiters_in s.rest) (attempt new reply) r.so_far goes
          ∙ ap (λ (ws : List Waiting). Some (ready w (attempt new reply) ws)) (sym (waiters_left nodes r.done slot s)));
    }

-- nobody can
pub none_ready : (set : SemaphoreSet) (nodes : List (Node Waiting)) → WaitSo set (waiters_in nodes)
    → first_ready try_steps set (waiters_in nodes) ≡ None
none_ready set nodes all = first_none try_steps set (waiters_in nodes) all

-- ---- the first who is woken

pub wakes_there : (old new : SemaphoreSet) (nodes : List (Node Waiting)) (slot : ℕ) (reply : Reply) (w : Waiting)
    (left : List (Node Waiting)) (told : Wake) → IsReadyAt old new nodes slot reply
    → option_map (λ (n : Node Waiting). n.value) (node_at slot nodes) ≡ Some w → left ≡ without slot nodes
    → told ≡ wake w reply
    → WakesFirst try_steps (held old nodes) (held new left) (Some told)
wakes_there old new nodes slot reply w left told r value is tells =
    let some : Some r.waiter ≡ Some w = sym r.at ∙ value in
    let same : r.waiter ≡ w = cc in
    subst (λ (o : Option (Ready SemaphoreSet)). WakesOne o (held old nodes) (held new left) (Some told)) (sym r.first) (
      ap (λ (ns : List (Node Waiting)). held new ns) (sym is),
      ap (λ (v : Waiting). wake v reply) same ∙ sym tells,
    )

pub wakes_nobody : (old new : SemaphoreSet) (nodes : List (Node Waiting))
    → first_ready try_steps old (waiters_in nodes) ≡ None → new ≡ old
    → WakesFirst try_steps (held old nodes) (held new nodes) None
wakes_nobody old new nodes none same =
    subst (λ (o : Option (Ready SemaphoreSet)). WakesOne o (held old nodes) (held new nodes) None) (sym none)
    (ap (λ (set : SemaphoreSet). held set nodes) same)

-- ---- rounds

module _ {T : Type 0} (try : Try T) where
  pub settles_start : (start : Awaited T) → SettlesOn try start [] (length start.waiters - 0) start
  settles_start start =
      subst (λ (n : ℕ). SettlesOn try start [] n start) (all_of (length start.waiters))
      (record { object = refl; wakes = refl })
    where
      all_of : (n : ℕ) → n ≡ n - 0
      all_of n = omega arith

  regroup : {X : Type 0} (xs : List X) (x y : X) (ys : List X) → x ≡ y → xs ++ x ∷ ys ≡ (xs ++ y ∷ []) ++ ys
  regroup [] x y ys is = ap (λ z. z ∷ ys) is
  regroup (z ∷ xs) x y ys is = ap (λ zs. z ∷ zs) (regroup xs x y ys is)

  more : (start now next : Awaited T) (woken : List Wake) (left : ℕ) (told : Wake)
      → SettlesOn try start woken (suc left) now
      → WakesFirst try now next (Some told)
      → SettlesOn try start (woken ++ told ∷ []) left next
  more start now next woken left told on wakes =
      here (first_ready try now.state now.waiters) refl wakes
    where
      here : (o : Option (Ready T)) → first_ready try now.state now.waiters ≡ o → WakesOne o now next (Some told)
          → SettlesOn try start (woken ++ told ∷ []) left next
      here None is h = absurd h
      here (Some r) is h =
          let first = ap (λ (o : Option (Ready T)). settle_on now o (settle_by left try)) is
          in record {
            object = on.object ∙ ap (λ (s : Settled T). s.object) first
                ∙ ap (λ (x : Awaited T). (settle_by left try x).object) h.0;
            wakes = on.wakes ∙ ap (λ (s : Settled T). woken ++ s.wakes) first
                ∙ ap (λ (x : Awaited T). woken ++ wake r.waiter r.attempt.reply ∷ (settle_by left try x).wakes) h.0
                ∙ regroup woken (wake r.waiter r.attempt.reply) told (settle_by left try next).wakes h.1;
          }

  -- one round more
  pub settles_more : (start now next : Awaited T) (woken : List Wake) (all i : ℕ) (told : Wake) → i < all
      → SettlesOn try start woken (all - i) now
      → WakesFirst try now next (Some told)
      → SettlesOn try start (woken ++ told ∷ []) (all - (i + 1)) next
  settles_more start now next woken all i told inside on wakes =
      more start now next woken (all - (i + 1)) told
      (subst (λ (n : ℕ). SettlesOn try start woken n now) (fewer all i inside) on) wakes
    where
      fewer : (a b : ℕ) → b < a → a - b ≡ suc (a - (b + 1))
      fewer a b less = omega arith

  rests : (now : Awaited T) (left : ℕ) → first_ready try now.state now.waiters ≡ None
      → settle_by left try now ≡ settled now []
  rests now zero none = refl
  rests now (suc left) none = ap (λ (o : Option (Ready T)). settle_on now o (settle_by left try)) none

  at_rest : (start now : Awaited T) (woken : List Wake) (left : ℕ) → SettlesOn try start woken left now
      → settle_by left try now ≡ settled now [] → settle try start ≡ settled now woken
  at_rest start now woken left on is =
      let object : (settle try start).object ≡ now = on.object ∙ ap (λ (s : Settled T). s.object) is
      in let wakes : (settle try start).wakes ≡ woken =
      on.wakes ∙ ap (λ (s : Settled T). woken ++ s.wakes) is ∙ append-nil woken
      in ap (λ (x : Awaited T). settled x (settle try start).wakes) object
      ∙ ap (λ (ws : List Wake). settled now ws) wakes

  -- where nobody can go on settling is done
  pub settles_done : (start now next : Awaited T) (woken : List Wake) (left : ℕ)
      → SettlesOn try start woken left now
      → WakesFirst try now next None
      → settle try start ≡ settled next woken
  settles_done start now next woken left on wakes = here (first_ready try now.state now.waiters) refl wakes
    where
      here : (o : Option (Ready T)) → first_ready try now.state now.waiters ≡ o → WakesOne o now next None
          → settle try start ≡ settled next woken
      here None is h =
          at_rest start now woken left on (rests now left is) ∙ ap (λ (x : Awaited T). settled x woken) (sym h)
      here (Some r) is h = absurd h

  -- and after all rounds
  pub settles_out : (start now : Awaited T) (woken : List Wake) (all i : ℕ) → all ≤ i
      → SettlesOn try start woken (all - i) now
      → settle try start ≡ settled now woken
  settles_out start now woken all i out on =
      at_rest start now woken (all - i) on (ap (λ (n : ℕ). settle_by n try now) (none_over all i out))
    where
      none_over : (a b : ℕ) → a ≤ b → a - b ≡ zero
      none_over a b less = omega arith

  -- where nobody can go on, settling leaves all as it is
  pub settle_rests : (now : Awaited T) → AllByRecursion (λ w. try now.state w.pid w.call ≡ None) now.waiters
      → settle try now ≡ settled now []
  settle_rests now all = rests now (length now.waiters) (first_none try now.state now.waiters all)
