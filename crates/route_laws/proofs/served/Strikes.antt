-- The marks of processes once a call was served: who isn't the caller and wasn't woken is struck as it was, isn't
-- doomed but by a signal that strikes it, and is struck by such a signal.
use Rattle.std.proofs.Common.{◌≡◌, ◌≢◌, ℕ, Bool, true, false, ◌&&◌, if◌then◌else◌, List, ◌∷◌, Option, Some, None, refl, ap, sym, subst, ◌∙◌, inl, inr}
use Rattle.std.specs.Option.{option_and_then, option_map_or}
use Rattle.std.specs.Prelude.{◌==◌}
use Rattle.std.proofs.lemmas.Bool.{and_parts, cases_Bool, false≢true, eq-eqb}
use Rattle.pico_base.specs.declared.call.Call.{Call}
use Rattle.pico_base.specs.declared.call.Call.TheVariants as calls
use Rattle.pico_base.specs.declared.call.Home.TheVariants as homes
use Rattle.pico_base.specs.declared.numbers.Name.{Name}
use Rattle.pico_base.specs.declared.numbers.Name.TheVariants.{Proc}
use Rattle.pico_base.specs.declared.script.Script.{Script}
use Rattle.pico_base.specs.declared.signal.Sig.{Sig}
use Rattle.pico_base.specs.declared.signal.SigArg.TheVariants.{Zero, Is, Bad}
use Rattle.pico_base.specs.Home.{home_of}
use Rattle.rpc_frame.specs.declared.asked.Asked.{Asked}
use Rattle.number_maps.specs.Maps.{get}
use Rattle.kernel_model.specs.Row.{Row}
use Rattle.waiting_model.specs.Kernel.{Kernel, Process, alive_in, living_at}
use Rattle.waiting_model.specs.Kernel as kernel
use Rattle.waiting_model.specs.Marks.{Alive, strikes}
use Rattle.waiting_model.specs.Transition.{successor, transition}
use Rattle.waiting_laws.proofs.Leads.{LivesOn, others-keep-marks}
use Rattle.waiting_laws.proofs.Struck.{IsStruck, kill-strikes}
use Rattle.node_model.specs.declared.held.Held.{Held}
use Rattle.node_model.specs.declared.held.Held.TheVariants.{Request}
use Rattle.node_model.specs.Awaiting.{Applied, on_whole}
use Rattle.kernel_model.specs.History.{number_in}
use Rattle.node_model.specs.Entries.{outcome_with}
use Rattle.node_model.specs.Bodies.{AQueue, ASet, Body, Ended, Gone, Living, Removed, erase, whole_in, whole_process}
use Rattle.node_model.specs.Carrying.{is_own}
use Rattle.node_model.specs.Kinds.{get_named, is_same_name}
use Rattle.node_model.specs.Serving.{signal_strikes, waiting_as}
use Rattle.world_model.specs.Node.{Node, Stage, own_row, Unborn, Leaving, Left, Over}
use Rattle.world_model.specs.Serving as serving
use Rattle.world_model.specs.Node as stages
use Rattle.world_model.specs.Step.{Step}
use Rattle.world_model.specs.World.{World, world_after}
use Rattle.entry_laws.proofs.Names.{same-name, same-name-is}
use Rattle.world_laws.specs.Places.{InTable, Beside}
use Rattle.world_laws.specs.Sights.{node_of, is_born_in, is_born_stage}
use Rattle.world_laws.specs.Callers.{is_on}
use Rattle.world_laws.specs.Cancels.{Owing, is_doomed, is_struck}
use Rattle.world_laws.specs.Families.{NodeHolds, BornIn}
use Rattle.world_laws.specs.Names.{NameHolds, held_as, name_sight}
use Rattle.world_laws.specs.Wholes.{HasWhole}
use Rattle.world_laws.specs.Invariant.{HoldsOwing}
use Rattle.world_laws.proofs.Named.{name-cases}
use Rattle.world_laws.proofs.NameFacts.{held-here}
use Rattle.rule_laws.proofs.own.Bodies.{alike-body}
use Rattle.route_laws.proofs.hand.HandMoves.{IsCallOf}
use Rattle.route_laws.proofs.served.AllTurns.{is_among, on-not-own}
use Rattle.route_laws.proofs.served.Dooms.{bare-doomed, doom-kept, doomed-is, doomed_body, strikes-row, strikes_body}
use Rattle.route_laws.proofs.served.Replies.{IsAtWork}
use Rattle.route_laws.proofs.served.Rounds.{Answered}
use Rattle.route_laws.proofs.served.Serving.{IsServing}
use Rattle.route_laws.proofs.served.Stepped.{parts-after, parts-before}
use Rattle.route_laws.proofs.served.Whole.{StandsWhole}
use Rattle.waiting_model.specs.declared.callers.Waiting.{Waiting}

-- ---- signals

-- a call that strikes this body is a signal to a living process
pub record StrikesOne (body : Body) (call : Call) : Type 0 where
  pub row : Row
  pub lives : body ≡ Living row
  pub target : ℕ
  pub sig : Sig
  pub is : call ≡ calls.Kill target (Is sig)
  pub strikes_it : strikes row.signals sig ≡ true

by-signal : (row : Row) (call : Call) → signal_strikes row call ≡ true → StrikesOne (Living row) call
by-signal row (calls.Kill target (Is g)) h =
    record { row = row; lives = refl; target = target; sig = g; is = refl; strikes_it = h }
by-signal row (calls.Kill target Zero) h = absurd (false≢true h)
by-signal row (calls.Kill target Bad) h = absurd (false≢true h)
by-signal row call h = absurd (false≢true h)

strikes-one : (body : Body) (call : Call) → strikes_body body call ≡ true → StrikesOne body call
strikes-one (Living row) call h = by-signal row call h
strikes-one (Ended ending) call h = absurd (false≢true h)
strikes-one Gone call h = absurd (false≢true h)
strikes-one (AQueue q) call h = absurd (false≢true h)
strikes-one (ASet s) call h = absurd (false≢true h)
strikes-one Removed call h = absurd (false≢true h)

-- on another process than the caller
kill-home : (name : Name) (target pid : ℕ) (b : Bool) → (target == pid) ≡ b
    → is_on name (if b then homes.Own else homes.At (Proc target)) ≡ true → (name ≡ Proc target) × (target ≢ pid)
kill-home name target pid true is h = absurd (false≢true h)
kill-home name target pid false is h = (
  same-name-is name (Proc target) h,
  λ e. false≢true (sym is ∙ eq-eqb target pid e),
)

-- who has a living body lives
pub record LivesAs (o : Option Process) (row : Row) : Type 0 where
  pub alive : Alive
  pub lives : option_and_then alive_in o ≡ Some alive
  pub row_is : alive.row ≡ row

lives-as : (o : Option Process) (row : Row) → Living row ≡ whole_process o → LivesAs o row
lives-as (Some (kernel.Living a)) row h = record { alive = a; lives = refl; row_is = sym (row-of row a h) }
  where
    row-of : (row : Row) (a : Alive) → Living row ≡ Living a.row → row ≡ a.row
    row-of row a h = cc
lives-as (Some (kernel.Ended ending)) row h = absurd (cc)
lives-as (Some kernel.Gone) row h = absurd (cc)
lives-as None row h = absurd (cc)

-- a born node's process has its number
own-pid-of : (script : Script) (w : World) (b : Beside) (p : ℕ) → is_born_in w p ≡ true
    → NodeHolds script b.pids (is_born_in w) p (node_of w p) → (node_of w p).pid ≡ b.pids p
own-pid-of script w b p born h = by (node_of w p).stage born h.birth
  where
    by : (stage : Stage) → is_born_stage stage ≡ true
        → BornIn script b.pids p (node_of w p).pid (node_of w p).parent (node_of w p).parent_node stage
        → (node_of w p).pid ≡ b.pids p
    by Unborn born i = absurd (false≢true born)
    by stages.Living born i = i.pid_is
    by Leaving born i = i.pid_is
    by Left born i = i.pid_is
    by Over born i = i.pid_is

-- which was forked
forked-of-born : (script : Script) (w : World) (b : Beside) (p : ℕ) → is_born_in w p ≡ true
    → NodeHolds script b.pids (is_born_in w) p (node_of w p) → b.pids p ≢ 0
forked-of-born script w b p born h = by (node_of w p).stage born h.birth
  where
    by : (stage : Stage) → is_born_stage stage ≡ true
        → BornIn script b.pids p (node_of w p).pid (node_of w p).parent (node_of w p).parent_node stage → b.pids p ≢ 0
    by Unborn born i = absurd (false≢true born)
    by stages.Living born i = i.forked
    by Leaving born i = i.forked
    by Left born i = i.forked
    by Over born i = i.forked

-- ---- in the world

module _ (script : Script) (v : World) (p : ℕ) (s t : Step) (asked : Asked) (rest : List Held) {owes : Owing}
    (b : Beside)
    (holds : HoldsOwing script (world_after v p s) (Request asked ∷ rest) owes b) (h : HasWhole (world_after v p s) b)
    (at : IsAtWork script (world_after v p s) p) (asks : IsCallOf script asked) (name : Name)
    (on : is_on name (home_of asked.pid asked.call) ≡ true) (here : b.deed name ≡ InTable p) (woken : List Answered)
    (i : IsServing script v p t asked rest b name (on_whole name (b.body name) (waiting_as asked)) woken)
    (z : StandsWhole v p t asked b i.beside (on_whole name (b.body name) (waiting_as asked)) woken)
    (there : node_of (world_after v p s) p ≡ s.node) where
  abbrev w : World
  w = world_after v p s

  abbrev next : Kernel
  next = z.next

  abbrev who : Waiting
  who = waiting_as asked

  abbrev d : Applied Body
  d = on_whole name (b.body name) (waiting_as asked)

  node-holds : NodeHolds script b.pids (is_born_in w) p (node_of w p)
  node-holds = holds.nodes p at.low at.high

  held : get_named s.node.deeds name ≡ Some (b.body name)
  held =
      let old : NameHolds script b.pids (is_born_in w) name (name_sight script w (Request asked ∷ rest) b name) =
      holds.names name
      in sym (ap (λ (n : Node). get_named n.deeds name) there)
      ∙ old.tables p ∙ ap (λ d. held_as d (b.body name) p) here ∙ held-here p (b.body name)

  not-own : is_own who.pid who.call ≡ false
  not-own = on-not-own name (home_of asked.pid asked.call) on

  -- the call is a signal that strikes the node's own process
  abbrev pub now : Bool
  now = serving.is_struck s.node name asked.call

  -- ---- who isn't the caller and isn't woken

  pub struck-still : (y : ℕ) → y ≢ asked.caller → is_among y woken ≡ false
      → is_struck (living_at b.whole (b.pids y)) ≡ true → is_struck (living_at next (b.pids y)) ≡ true
  struck-still y other among = by-life (living_at b.whole (b.pids y)) refl
    where
      by-life : (o : Option Alive) → living_at b.whole (b.pids y) ≡ o
          → is_struck (living_at b.whole (b.pids y)) ≡ true → is_struck (living_at next (b.pids y)) ≡ true
      by-life None is struck = absurd (false≢true (sym (ap is_struck is) ∙ struck))
      by-life (Some a) is struck =
          let on : LivesOn next (b.pids y) a =
          others-keep-marks b.whole asked.pid asked.call _ _ z.sound z.step (b.pids y) a
          (z.other_pid y other) (z.woken_is y (z.was_forked y a is) ∙ among) is
          in ap is_struck on.lives ∙ on.keeps.struck (sym (ap is_struck is) ∙ struck)

  -- ---- dooms

  -- by the bodies
  doomed-then : (y : ℕ) → is_doomed (living_at next (b.pids y)) ≡ doomed_body (i.beside.body (Proc (b.pids y)))
  doomed-then y =
      doomed-is next (b.pids y)
      ∙ ap doomed_body (alike-body next i.beside.kernel z.alike (b.pids y))
      ∙ ap doomed_body (sym (parts-after script v p s t asked rest b holds h asks name on woken i (Proc (b.pids y))))
      ∙ bare-doomed (i.beside.body (Proc (b.pids y)))

  doomed-before : (y : ℕ) → is_doomed (living_at b.whole (b.pids y)) ≡ doomed_body (b.body (Proc (b.pids y)))
  doomed-before y =
      doomed-is b.whole (b.pids y)
      ∙ ap doomed_body (alike-body b.whole b.kernel h.alike (b.pids y))
      ∙ ap doomed_body (sym (parts-before script v p s t asked rest b holds h asks name on woken i (Proc (b.pids y))))
      ∙ bare-doomed (b.body (Proc (b.pids y)))

  -- where no signal strikes the node's process, none strikes the body
  not-struck : (y : ℕ) → name ≡ Proc (b.pids y) → now ≡ false → strikes_body (b.body name) asked.call ≡ false
  not-struck y is calm =
      elim (cases_Bool (is_same_name name (Proc s.node.pid))) [
        | inl same ↦
            sym (strikes-row (get_named s.node.deeds (Proc s.node.pid)) (b.body name) asked.call
            (ap (get_named s.node.deeds) (sym (same-name-is name (Proc s.node.pid) same)) ∙ held))
            ∙ sym (ap (λ t. t && option_map_or (λ row. signal_strikes row asked.call) (own_row s.node) false) same)
            ∙ calm
        | inr other ↦ lifeless (b.body name) refl other
      ]
    where
      lifeless : (body : Body) → b.body name ≡ body → is_same_name name (Proc s.node.pid) ≡ false
          → strikes_body (b.body name) asked.call ≡ false
      lifeless (Living row) body_is other =
          let its : b.pids y ≡ (node_of w p).pid =
          node-holds.rows (b.pids y) row
          (ap (λ (n : Node). get_named n.deeds (Proc (b.pids y))) there ∙ ap (get_named s.node.deeds) (sym is)
          ∙ held ∙ ap Some body_is)
          in absurd (false≢true (sym other
          ∙ ap (λ m. is_same_name m (Proc s.node.pid)) is
          ∙ ap (λ q. is_same_name (Proc q) (Proc s.node.pid)) (its ∙ ap (λ (n : Node). n.pid) there)
          ∙ same-name (Proc s.node.pid)))
      lifeless (Ended ending) body_is other = ap (λ v. strikes_body v asked.call) body_is
      lifeless Gone body_is other = ap (λ v. strikes_body v asked.call) body_is
      lifeless (AQueue q) body_is other = ap (λ v. strikes_body v asked.call) body_is
      lifeless (ASet x) body_is other = ap (λ v. strikes_body v asked.call) body_is
      lifeless Removed body_is other = ap (λ v. strikes_body v asked.call) body_is

  -- the body, if it lives, is the node's own process's
  lifeless-elsewhere : (y : ℕ) → name ≡ Proc (b.pids y) → y ≢ p → strikes_body (b.body name) asked.call ≡ false
  lifeless-elsewhere y is other = by-body (b.body name) refl
    where
      by-body : (body : Body) → b.body name ≡ body → strikes_body (b.body name) asked.call ≡ false
      by-body (Living row) body_is =
          let its : b.pids y ≡ (node_of w p).pid =
          node-holds.rows (b.pids y) row
          (ap (λ (n : Node). get_named n.deeds (Proc (b.pids y))) there ∙ ap (get_named s.node.deeds) (sym is)
          ∙ held ∙ ap Some body_is)
          in let pids = holds.pids
          in absurd (other (sym (pids.apart p y (forked-of-born script w b p at.born node-holds)
          (sym (own-pid-of script w b p at.born node-holds) ∙ sym its))))
      by-body (Ended ending) body_is = ap (λ v. strikes_body v asked.call) body_is
      by-body Gone body_is = ap (λ v. strikes_body v asked.call) body_is
      by-body (AQueue q) body_is = ap (λ v. strikes_body v asked.call) body_is
      by-body (ASet x) body_is = ap (λ v. strikes_body v asked.call) body_is
      by-body Removed body_is = ap (λ v. strikes_body v asked.call) body_is

  doomed-by-body : (y : ℕ) → (name ≡ Proc (b.pids y) → strikes_body (b.body name) asked.call ≡ false)
      → is_doomed (living_at next (b.pids y)) ≡ true → is_doomed (living_at b.whole (b.pids y)) ≡ true
  doomed-by-body y none doomed =
      elim (name-cases (Proc (b.pids y)) name) [
        | inr d ↦
            doomed-before y ∙ ap doomed_body (sym (i.body_others (Proc (b.pids y)) d)) ∙ sym (doomed-then y) ∙ doomed
        | inl e ↦
            doomed-before y ∙ ap (λ m. doomed_body (b.body m)) e
            ∙ by-name name (sym e) (none (sym e))
            (sym (ap doomed_body i.body_here) ∙ ap (λ m. doomed_body (i.beside.body m)) (sym e) ∙ sym (doomed-then y)
            ∙ doomed)
      ]
    where
      by-name : (m : Name) → m ≡ Proc (b.pids y) → strikes_body (b.body m) asked.call ≡ false
          → doomed_body (on_whole m (b.body m) who).left ≡ true → doomed_body (b.body m) ≡ true
      by-name m is none doomed =
          subst (λ n. doomed_body (b.body n) ≡ true) (sym is)
          (doom-kept (b.pids y) (b.body (Proc (b.pids y))) who not-own
          (subst (λ n. strikes_body (b.body n) asked.call ≡ false) is none)
          (subst (λ n. doomed_body (on_whole n (b.body n) who).left ≡ true) is doomed))

  -- A process isn't doomed anew where no signal strikes the node's own,
  pub doomed-was : (y : ℕ) → now ≡ false → is_doomed (living_at next (b.pids y)) ≡ true
      → is_doomed (living_at b.whole (b.pids y)) ≡ true
  doomed-was y calm doomed = doomed-by-body y (λ is. not-struck y is calm) doomed

  -- nor is that of another node.
  pub doomed-elsewhere : (y : ℕ) → (y ≡ p → ⊥) → is_doomed (living_at next (b.pids y)) ≡ true
      → is_doomed (living_at b.whole (b.pids y)) ≡ true
  doomed-elsewhere y other doomed = doomed-by-body y (λ is. lifeless-elsewhere y is other) doomed

  -- ---- a signal that strikes

  pub struck-now : now ≡ true → is_struck (living_at next (b.pids p)) ≡ true
  struck-now yes_now =
      let both = and_parts (is_same_name name (Proc s.node.pid))
      (option_map_or (λ row. signal_strikes row asked.call) (own_row s.node) false) yes_now
      in let is : name ≡ Proc s.node.pid = same-name-is name (Proc s.node.pid) both.0
      in let one : StrikesOne (b.body name) asked.call =
      strikes-one (b.body name) asked.call
      (sym (strikes-row (get_named s.node.deeds (Proc s.node.pid)) (b.body name) asked.call
      (ap (get_named s.node.deeds) (sym is) ∙ held)) ∙ both.1)
      in let home = kill-home name one.target asked.pid (one.target == asked.pid) refl
      (subst (λ call. is_on name (home_of asked.pid call) ≡ true) one.is on)
      in let alike : LivesAs (get b.whole.processes one.target) one.row =
      lives-as (get b.whole.processes one.target) one.row
      (ap erase (sym one.lives) ∙ h.bodies name ∙ ap (whole_in b.whole) home.0)
      in let struck : IsStruck next one.target =
      kill-strikes b.whole asked.pid one.target alike.alive one.sig (number_in d.own)
      (successor next (outcome_with d.own d.wakes))
      (subst (λ call. transition b.whole asked.pid call (number_in d.own)
      ≡ Some (successor next (outcome_with d.own d.wakes))) one.is z.step) home.1 alike.lives
      (ap (λ (r : Row). strikes r.signals one.sig) alike.row_is ∙ one.strikes_it)
      in let target_is : one.target ≡ b.pids p = same-number (sym home.0 ∙ is) ∙ own-pid
      in ap (λ q. is_struck (living_at next q)) (sym target_is) ∙ ap is_struck struck.lives ∙ struck.struck
    where
      same-number : {a c : ℕ} → Proc a ≡ Proc c → a ≡ c
      same-number h = cc

      own-pid : s.node.pid ≡ b.pids p
      own-pid = sym (ap (λ (n : Node). n.pid) there) ∙ own-pid-of script w b p at.born node-holds
