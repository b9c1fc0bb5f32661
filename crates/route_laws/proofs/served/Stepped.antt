-- A served call's step in the kernel in which callers wait, in the world.
use Rattle.std.proofs.Common.{◌≡◌, ◌≢◌, ℕ, Bool, true, false, List, [], ◌∷◌, ◌++◌, filter, map, Option, Some, None, refl, ap, sym, subst, ◌∙◌}
use Rattle.std.proofs.lemmas.Bool.{false≢true}
use Rattle.pico_base.specs.declared.call.Call.{Call}
use Rattle.pico_base.specs.declared.call.Call.TheVariants as calls
use Rattle.pico_base.specs.declared.numbers.Name.{Name}
use Rattle.pico_base.specs.declared.numbers.Name.TheVariants.{Proc, Msg, Sem}
use Rattle.pico_base.specs.declared.reply.Entry.{Entry}
use Rattle.pico_base.specs.declared.reply.Reply.{Reply}
use Rattle.pico_base.specs.declared.script.Script.{Script}
use Rattle.pico_base.specs.Home.{home_of}
use Rattle.rpc_frame.specs.declared.asked.Asked.{Asked}
use Rattle.kernel_model.specs.Kernel as plain
use Rattle.kernel_model.specs.Row.{Row}
use Rattle.waiting_model.specs.declared.callers.Waiting.{Waiting}
use Rattle.waiting_model.specs.declared.callers.Wake.{Wake}
use Rattle.waiting_model.specs.Kernel.{living_at}
use Rattle.waiting_model.specs.Linear.{LeadInLine, line_of}
use Rattle.waiting_model.specs.Marks.{Alive}
use Rattle.waiting_model.specs.Transition.{may_make}
use Rattle.node_model.specs.declared.held.Held.{Held}
use Rattle.node_model.specs.declared.held.Held.TheVariants.{Request}
use Rattle.node_model.specs.Awaiting.{Applied, on_own, on_whole}
use Rattle.node_model.specs.Bodies.{AQueue, ASet, Body, Ended, Gone, Living, Removed, bare, body_in, erase}
use Rattle.node_model.specs.Carrying.{is_own}
use Rattle.node_model.specs.Entries.{outcome_with}
use Rattle.node_model.specs.Serving.{waiting_as}
use Rattle.world_model.specs.Step.{Step}
use Rattle.world_model.specs.World.{World, world_after}
use Rattle.world_laws.specs.Places.{Beside, IsInHand}
use Rattle.world_laws.specs.Sights.{is_born_in}
use Rattle.world_laws.specs.Callers.{CallSight, HasCall, IsSoFar, IsToBeMade, call_sight, is_item_about, is_on}
use Rattle.world_laws.specs.Cancels.{Owing}
use Rattle.world_laws.specs.Names.{NameHolds, name_sight}
use Rattle.world_laws.specs.Wholes.{HasMarks, HasWhole, under_way_at}
use Rattle.world_laws.specs.Invariant.{HoldsOwing}
use Rattle.world_laws.proofs.Wholes.{LivesAlike, lives-alike}
use Rattle.route_laws.proofs.hand.Answering.{pid-in-hand}
use Rattle.route_laws.proofs.hand.HandMoves.{IsCallOf, IsFirst, first}
use Rattle.route_laws.proofs.served.AllTurns.{on-not-own, turn_lines}
use Rattle.route_laws.proofs.served.Rounds.{Answered, wake_of}
use Rattle.route_laws.proofs.served.Serving.{IsServing, own_turn}
use Rattle.route_laws.proofs.served.Whole.{WholeStep}
use Rattle.route_laws.proofs.served.WholeSteps.{process-whole, queue-whole, set-whole}

-- ---- a call on another process

pub record RepliesAlone (d : Applied Body) : Type 0 where
  pub reply : Reply
  pub own : d.own ≡ Some reply
  pub wakes : d.wakes ≡ []

on-row : (q : ℕ) (row : Row) (caller ticket pid : ℕ) (call : Call) → is_own pid call ≡ false
    → RepliesAlone (on_whole (Proc q) (Living row) (record {
      caller = caller;
      ticket = ticket;
      pid = pid;
      call = call;
    }))
on-row q row caller ticket pid (calls.WaitPid child nohang) other = absurd (false≢true (sym other))
on-row q row caller ticket pid call other = record { reply = _; own = refl; wakes = refl }

-- it has its reply, and wakes nobody
pub on-process-replies : (q : ℕ) (body : Body) (who : Waiting) → is_own who.pid who.call ≡ false
    → RepliesAlone (on_whole (Proc q) body who)
on-process-replies q (Living row) who other = on-row q row who.caller who.ticket who.pid who.call other
on-process-replies q (Ended ending) who other = record { reply = _; own = refl; wakes = refl }
on-process-replies q Gone who other = record { reply = _; own = refl; wakes = refl }
on-process-replies q (AQueue x) who other = record { reply = _; own = refl; wakes = refl }
on-process-replies q (ASet x) who other = record { reply = _; own = refl; wakes = refl }
on-process-replies q Removed who other = record { reply = _; own = refl; wakes = refl }

none-woken : (woken : List Answered) → [] ≡ map wake_of woken → woken ≡ []
none-woken [] h = refl
none-woken (a ∷ more) h = absurd (cc)

-- ---- the step

module _ (script : Script) (v : World) (p : ℕ) (s t : Step) (asked : Asked) (rest : List Held) {owes : Owing}
    (b : Beside)
    (holds : HoldsOwing script (world_after v p s) (Request asked ∷ rest) owes b) (h : HasWhole (world_after v p s) b)
    (asks : IsCallOf script asked) (name : Name) (on : is_on name (home_of asked.pid asked.call) ≡ true)
    (woken : List Answered)
    (i : IsServing script v p t asked rest b name (on_whole name (b.body name) (waiting_as asked)) woken) where
  abbrev w : World
  w = world_after v p s

  abbrev who : Waiting
  who = waiting_as asked

  abbrev x : CallSight
  x = call_sight w (Request asked ∷ rest) b asked.caller

  pub is-first : IsFirst script asked.caller (is_born_in w) x asked (filter (is_item_about asked.caller) rest)
  is-first = first script w asked rest b holds asks

  pub to-be-made : IsToBeMade script asked.caller x is-first.call
  to-be-made =
      let has : HasCall script asked.caller (is_born_in w) x is-first.call = is-first.has
      in subst (λ z. IsSoFar script asked.caller x is-first.call z) is-first.place_is has.so_far

  pub in-whole : LivesAlike b.whole (b.pids asked.caller) to-be-made.alive
  in-whole = lives-alike b.whole b.kernel (b.pids asked.caller) to-be-made.alive h.alike to-be-made.lives

  -- the caller's process lives there
  pub caller-lives : living_at b.whole asked.pid ≡ Some in-whole.alive
  caller-lives = ap (living_at b.whole) (pid-in-hand script w asked rest b holds asks) ∙ in-whole.lives

  -- and may make the call
  pub caller-may : may_make in-whole.alive asked.call ≡ true
  caller-may =
      let marks : HasMarks (b.call asked.caller) (under_way_at w asked.caller) in-whole.alive =
      h.marks asked.caller in-whole.alive in-whole.lives
      in ap (λ (z : Asked). may_make in-whole.alive z.call) is-first.asked_is
      ∙ subst (λ o. HasMarks IsInHand o in-whole.alive) is-first.is
      (subst (λ place. HasMarks place (under_way_at w asked.caller) in-whole.alive) is-first.place_is marks)

  pub parts-before : (m : Name) → bare (b.body m) ≡ body_in b.kernel m
  parts-before m =
      let k : NameHolds script b.pids (is_born_in w) m (name_sight script w (Request asked ∷ rest) b m) = holds.names m
      in k.parts

  -- the bodies then are the kernel's parts
  pub parts-after : (m : Name) → bare (i.beside.body m) ≡ body_in i.beside.kernel m
  parts-after m =
      let after = i.holds
      in let k = after.names m
      in k.parts

  abbrev Steps : Name → Type 0
  Steps n =
      (let d : Applied Body = on_whole n (b.body n) who
      in WholeStep b.whole asked.pid asked.call (outcome_with d.own d.wakes) i.beside.kernel i.beside.body)

  by-name : (n : Name) → name ≡ n → Steps n
  by-name (Msg id) is =
      queue-whole b.whole i.beside.kernel b.body i.beside.body h.bodies parts-after name i.body_others who
      in-whole.alive caller-lives caller-may asks.is_call id (b.body (Msg id)) is (h.bodies (Msg id))
      (subst (λ n. is_on n (home_of asked.pid asked.call) ≡ true) is on)
      (subst (λ n. erase (i.beside.body n) ≡ (let d : Applied Body = on_whole n (b.body n) who in erase d.left)) is
      (ap erase i.body_here))
  by-name (Sem id) is =
      set-whole b.whole i.beside.kernel b.body i.beside.body h.bodies parts-after name i.body_others who
      in-whole.alive caller-lives caller-may asks.is_call id (b.body (Sem id)) is (h.bodies (Sem id))
      (subst (λ n. is_on n (home_of asked.pid asked.call) ≡ true) is on)
      (subst (λ n. erase (i.beside.body n) ≡ (let d : Applied Body = on_whole n (b.body n) who in erase d.left)) is
      (ap erase i.body_here))
  by-name (Proc q) is =
      let before = holds.history
      in let after = i.holds.history
      in let alone : RepliesAlone (on_whole (Proc q) (b.body (Proc q)) who) =
      on-process-replies q (b.body (Proc q)) who
      (on-not-own name (home_of asked.pid asked.call) on)
      in let nobody : woken ≡ [] =
      none-woken woken
      (sym alone.wakes
      ∙ subst (λ n. (let d : Applied Body = on_whole n (b.body n) who in d.wakes) ≡ map wake_of woken) is i.wakes)
      in let lines : i.beside.lines ≡ b.lines ++ line_of p asked.pid asked.call alone.reply ∷ [] =
      subst (λ n. i.beside.lines
      ≡ b.lines ++ turn_lines p (own_turn asked (let d : Applied Body = on_whole n (b.body n) who in d.own) ++ woken))
      is
      i.lines
      ∙ ap (λ o. b.lines ++ turn_lines p (own_turn asked o ++ woken)) alone.own
      ∙ ap (λ ws. b.lines ++ line_of p asked.pid asked.call alone.reply ∷ turn_lines p ws) nobody
      in process-whole b.whole i.beside.kernel b.body i.beside.body h.bodies parts-after name i.body_others who
      in-whole.alive caller-lives caller-may asks.is_call b.kernel h.sound h.alike plain.opening b.lines p before.legal
      parts-before q (on_whole (Proc q) (b.body (Proc q)) who) alone.reply is
      (subst (λ n. is_on n (home_of asked.pid asked.call) ≡ true) is on) alone.own alone.wakes
      (subst (λ ls. LeadInLine plain.opening ls i.beside.kernel) lines after.legal)

  -- Its entry's step there.
  pub whole-step : Steps name
  whole-step = by-name name refl
