-- A withdrawal that comes, and a signal that strikes the node's process: each costs no more than its frame, or the call
-- that it interrupts, weighs for it.
use Rattle.std.proofs.Common.{◌≡◌, ℕ, ◌≤◌, ◌<◌, ◌+◌, Bool, true, false, ◌&&◌, ◌||◌, if◌then◌else◌, List, [], ◌∷◌, Option, Some, None, is_some, option_map, refl, ap, sym, subst, ◌∙◌, arith}
use Rattle.std.specs.Prelude.{◌==◌, nat_lt}
use Rattle.std.specs.List.{list_any}
use Rattle.std.proofs.lemmas.List.Sums.{sum_by-cons}
use Rattle.std.proofs.lemmas.Bool.{eqb-true, false≢true}
use Rattle.pico_base.specs.declared.call.Call.{Call}
use Rattle.pico_base.specs.declared.call.Call.TheVariants as calls
use Rattle.pico_base.specs.declared.call.Home.TheVariants as homes
use Rattle.pico_base.specs.declared.numbers.Name.{Name}
use Rattle.pico_base.specs.declared.numbers.Name.TheVariants.{Proc, Msg, Sem}
use Rattle.pico_base.specs.declared.reply.Errno.TheVariants.{Eintr}
use Rattle.pico_base.specs.declared.reply.Reply.TheVariants as replies
use Rattle.pico_base.specs.declared.script.Script.{Script}
use Rattle.pico_base.specs.Home.{home_of}
use Rattle.rpc_frame.specs.declared.asked.Asked.{Asked}
use Rattle.rpc_frame.specs.declared.frame.Frame.{Frame}
use Rattle.rpc_frame.specs.declared.frame.Frame.TheVariants as frames
use Rattle.kernel_laws.proofs.Plain.{from_some, not_some}
use Rattle.waiting_model.specs.Calls.{is_withdrawal, waits_at, withdrawn_from}
use Rattle.node_model.specs.Bodies.{Body, Deeds}
use Rattle.node_model.specs.declared.held.Held.{Held}
use Rattle.node_model.specs.declared.held.Held.TheVariants.{Request}
use Rattle.node_model.specs.Caller.{note_cancel, to_cancel}
use Rattle.node_model.specs.Directory.{At, Directory, maker, place_of}
use Rattle.node_model.specs.Kinds.{get_named, put_named}
use Rattle.node_model.specs.Leases.{leases_hold}
use Rattle.node_model.specs.Serving.{Leaves, NotHeld, NotThere, Withdrawn, withdraw, withdraw_in}
use Rattle.world_model.specs.Census.{one_if}
use Rattle.world_model.specs.Node.{Node, is_born, is_leader, is_node}
use Rattle.world_model.specs.Routes.{cancel, route_call, route_cancel, route_held, route_held_by}
use Rattle.world_model.specs.Serving.{interrupted}
use Rattle.world_model.specs.Step.{Step, step_to, with_deeds, with_node}
use Rattle.world_model.specs.Strikes.{cancelled, cancelled_at, strike, strike_at, strike_call, strike_object, withdrawing}
use Rattle.world_model.specs.World.{World}
use Rattle.world_laws.specs.Families.{NodeHolds}
use Rattle.world_laws.specs.Invariant.{Holds, IsLeading}
use Rattle.world_laws.specs.Places.{Beside}
use Rattle.world_laws.specs.Sights.{directory_of, is_born_in, node_of}
use Rattle.world_laws.proofs.Steps.{Heads}
use Rattle.route_laws.proofs.release.RoutedParcels.{directory_in}
use Rattle.weight_laws.specs.Weights.{asks_back, hand_weight, item_weight, node_weight, removes_away, routing_weight, send_weight, strike_weight}
use Rattle.weight_laws.proofs.CallHeads.{may-end-if}
use Rattle.weight_laws.proofs.Costs.{MayEnd, MayEndIf, RisesBesides, carried-costs, deeds-by, step_weight}
use Rattle.weight_laws.proofs.Events.{TakesLower, lowers-still}
use Rattle.weight_laws.proofs.Parts.{passed, size-put-there}
use Rattle.weight_laws.proofs.CancelRoutes.{cancel-lowers}
use Rattle.weight_laws.proofs.Sums.{sends-push}

-- ---- a waiter is taken out of a body that is held here

abbrev leaves : Withdrawn → Bool
leaves (Leaves body) = true
leaves NotThere = false
leaves NotHeld = false

held-there : (deeds : Deeds) (name : Name) (pid ticket : ℕ) (body : Body) → withdraw deeds name pid ticket ≡ Leaves body
    → (was : Body) × (get_named deeds name ≡ Some was)
held-there deeds name pid ticket body e = by-body (get_named deeds name) refl
  where
    by-body : (o : Option Body) → get_named deeds name ≡ o → (was : Body) × (get_named deeds name ≡ Some was)
    by-body None none = absurd (false≢true (sym (ap (λ o. leaves (withdraw_in pid ticket o)) none) ∙ ap leaves e))
    by-body (Some was) is = (was, is)

interrupt-costs : (script : Script) (s : Step) (name : Name) (asked : Asked) (body : Body) → MayEndIf script s.node
    → RisesBesides s.node
    → (let n : Node = s.node in withdraw n.deeds name asked.pid asked.ticket ≡ Leaves body)
    → step_weight script (interrupted script s name asked body) ≤ step_weight script s
interrupt-costs script s name asked body may rises e =
    let n : Node = s.node
    in let there = held-there n.deeds name asked.pid asked.ticket body e
    in let changed : Step = with_deeds s (put_named n.deeds name body)
    in let first = deeds-by script s (put_named n.deeds name body) (is_leader n) refl
    (λ other. size-put-there n.deeds name body there.0 (rises other) there.1)
    in let cost = carried-costs script changed asked (replies.Fail Eintr)
    (λ some. let ends : MayEnd script n = may some in record { tries = ends.tries; left = ends.left })
    in omega (arith, first, cost)

-- ---- what the leader's directory says of nodes

pub record NamesNodes (d : Directory) : Type 0 where
  pub places : (name : Name) (node : ℕ) → place_of d name ≡ Some (At node) → 1 ≤ node
  pub makers : (name : Name) (node : ℕ) → maker d name ≡ Some node → 1 ≤ node

-- what is taken of the leader
pub record LeadsRightly (n : Node) : Type 0 where
  pub number : n.number ≡ 1
  pub leading : IsLeading n.leader.directory
  pub nodes : NamesNodes n.leader.directory

not-removal : (d : Directory) (pid : ℕ) (call : Call) → is_withdrawal call ≡ true
    → removes_away d (home_of pid call) ≡ false
not-removal d pid (calls.Withdraw (Proc child)) h = by-test (child == pid)
  where
    by-test : (t : Bool) → removes_away d (if t then homes.Own else homes.At (Proc child)) ≡ false
    by-test true = refl
    by-test false = refl
not-removal d pid (calls.Withdraw (Msg id)) h = refl
not-removal d pid (calls.Withdraw (Sem id)) h = refl
not-removal d pid call h = absurd (false≢true h)

hand-is : (d : Directory) (asked : Asked) → is_withdrawal asked.call ≡ true → hand_weight d (Request asked ∷ []) ≡ 3
hand-is d asked h =
    let one = sum_by-cons (item_weight d) (Request asked) []
    in let three : item_weight d (Request asked) ≡ 3 =
    ap (λ t. if t then 3 else routing_weight d (home_of asked.pid asked.call)) h
    in let back : one_if (list_any (asks_back d) (Request asked ∷ [])) ≡ 0 =
    ap (λ t. one_if (t || false)) (not-removal d asked.pid asked.call h)
    in omega (arith, one, three, back)

routed-costs : (script : Script) (s : Step) (name : Name) (asked : Asked) → MayEndIf script s.node
    → LeadsRightly s.node → is_withdrawal asked.call ≡ true
    → step_weight script (route_cancel script s name asked) ≤ step_weight script s + 3
routed-costs script s name asked may leads h =
    let n : Node = s.node
    in let nodes : NamesNodes n.leader.directory = leads.nodes
    in let low = cancel-lowers script s asked [] leads.number leads.leading may h nodes.places nodes.makers name
    in let three = hand-is n.leader.directory asked h
    in omega (arith, low, three)

-- ---- an item in the leader's hand

-- a call is routed as one
pub held-call : (script : Script) (s : Step) (asked : Asked) → is_withdrawal asked.call ≡ false
    → route_held script s asked ≡ route_call script s asked
held-call script s asked = by-name (withdrawn_from asked.call)
  where
    by-name : (o : Option Name) → is_some o ≡ false → route_held_by script s asked o ≡ route_call script s asked
    by-name None h = refl
    by-name (Some name) h = absurd (false≢true (sym h))

-- and a withdrawal costs no more than it weighs in hand
pub held-cancel-lowers : (script : Script) (s : Step) (asked : Asked) (rest : List Held) (next : Step)
    → LeadsRightly s.node → MayEndIf script s.node → is_withdrawal asked.call ≡ true
    → route_held script s asked ≡ Some next
    → step_weight script next + hand_weight (directory_in next) rest
    ≤ step_weight script s + hand_weight (directory_in s) (Request asked ∷ rest)
held-cancel-lowers script s asked rest next leads may h is = by-name (withdrawn_from asked.call) h is
  where
    by-name : (o : Option Name) → is_some o ≡ true → route_held_by script s asked o ≡ Some next
        → step_weight script next + hand_weight (directory_in next) rest
        ≤ step_weight script s + hand_weight (directory_in s) (Request asked ∷ rest)
    by-name None e g = absurd (false≢true e)
    by-name (Some name) e g =
        let n : Node = s.node
        in let nodes : NamesNodes n.leader.directory = leads.nodes
        in subst (λ (t : Step). step_weight script t + hand_weight (directory_in t) rest
        ≤ step_weight script s + hand_weight (directory_in s) (Request asked ∷ rest))
        (from_some (route_cancel script s name asked) next g)
        (cancel-lowers script s asked rest leads.number leads.leading may h nodes.places nodes.makers name)

-- ---- a withdrawal comes

-- Where it isn't for the leader, its name is here, or is this node's to give: it never goes back.
pub record CancelStays (w : World) (p : ℕ) (asked : Asked) : Type 0 where
  pub nodes : NamesNodes (directory_of w)
  pub stays : (name : Name) → withdrawn_from asked.call ≡ Some name
      → (let n : Node = node_of w p in (is_leader n ≡ false)
      → withdraw n.deeds name asked.pid asked.ticket ≡ NotHeld → leases_hold n.leases name ≡ true)

module _ (script : Script) (w : World) (b : Beside) (holds : Holds script w [] b) (p q : ℕ) (asked : Asked)
    (rest : List Frame) (h : Heads script w p q (frames.Cancel asked) rest) (rises : RisesBesides (node_of w p))
    (fits : CancelStays w p asked) where
  abbrev n : Node
  n = node_of w p

  may : MayEndIf script n
  may = may-end-if script w [] b holds p h.low h.high

  number-is : (let m : Node = n in m.number ≡ p)
  number-is = let m : NodeHolds script b.pids (is_born_in w) p n = holds.nodes p h.low h.high in m.number

  elsewhere : (name : Name) → withdrawn_from asked.call ≡ Some name → is_leader n ≡ false → (x : Withdrawn)
      → withdraw n.deeds name asked.pid asked.ticket ≡ x
      → step_weight script (cancelled_at script n name asked x) ≤ node_weight script n
  elsewhere name of other (Leaves body) e =
      let cost = interrupt-costs script (step_to n) name asked body may rises e in omega (arith, cost)
  elsewhere name of other NotThere e = omega arith
  elsewhere name of other NotHeld e =
      let same : cancelled_at script n name asked NotHeld ≡ step_to n =
      ap (λ t. if t then step_to n else cancel (step_to n) 1 asked) (fits.stays name of other e)
      in let cost : step_weight script (cancelled_at script n name asked NotHeld) ≡ step_weight script (step_to n) =
      ap (step_weight script) same
      in omega (arith, cost)

  leads-so : p ≡ 1 → LeadsRightly n
  leads-so one =
      record {
        number = number-is ∙ one;
        leading = subst (λ y. let m : Node = node_of w y in IsLeading m.leader.directory) (sym one) holds.leading;
        nodes = subst (λ y. let m : Node = node_of w y in NamesNodes m.leader.directory) (sym one) fits.nodes;
      }

  by-leader : (name : Name) → withdrawn_from asked.call ≡ Some name → (t : Bool) → is_leader n ≡ t
      → step_weight script (if t then route_cancel script (step_to n) name asked
      else cancelled_at script n name asked (withdraw n.deeds name asked.pid asked.ticket))
      < node_weight script n + send_weight (p, frames.Cancel asked)
  by-leader name of true e =
      let one : p ≡ 1 = sym number-is ∙ eqb-true n.number 1 e
      in let cost = routed-costs script (step_to n) name asked may (leads-so one) (ap is_some of)
      in let four : send_weight (p, frames.Cancel asked) ≡ 4 = ap (λ y. send_weight (y, frames.Cancel asked)) one
      in omega (arith, cost, four)
  by-leader name of false e =
      let cost = elsewhere name of e (withdraw n.deeds name asked.pid asked.ticket) refl
      in let some = weighs (nat_lt 1 p)
      in omega (arith, cost, some)
    where
      weighs : (t : Bool) → 3 ≤ (if t then 3 else 4)
      weighs true = omega arith
      weighs false = omega arith

  by-name : (s : Step) (o : Option Name) → withdrawn_from asked.call ≡ o
      → option_map (cancelled script n asked) o ≡ Some s
      → step_weight script s < node_weight script n + send_weight (p, frames.Cancel asked)
  by-name s None of g = not_some s g
  by-name s (Some name) of g =
      subst (λ (x : Step). step_weight script x < node_weight script n + send_weight (p, frames.Cancel asked))
      (from_some (cancelled script n asked name) s g) (by-leader name of (is_leader n) refl)

  -- It is taken out, or goes on.
  pub cancel-falls : TakesLower script w p q (frames.Cancel asked) b.call b.call
  cancel-falls s rule =
      lowers-still script n (send_weight (p, frames.Cancel asked)) b.call s
      (by-name s (withdrawn_from asked.call) refl
      (passed (is_born n && is_node script asked.caller)
      (option_map (cancelled script n asked) (withdrawn_from asked.call)) s rule).1)

-- ---- a signal strikes

module _ (script : Script) (s : Step) (may : MayEndIf script s.node) (rises : RisesBesides s.node)
    (leads : (let n : Node = s.node in is_leader n ≡ true) → LeadsRightly s.node) where
  abbrev noted : Node
  noted = let n : Node = s.node in record n { caller = note_cancel n.caller }

  abbrev from : Step
  from = with_node s noted

  may-noted : MayEndIf script noted
  may-noted some = let ends : MayEnd script s.node = may some in record { tries = ends.tries; left = ends.left }

  leads-noted : is_leader noted ≡ true → LeadsRightly noted
  leads-noted e =
      let l : LeadsRightly s.node = leads e in record { number = l.number; leading = l.leading; nodes = l.nodes }

  told : (name : Name) (asked : Asked) → is_withdrawal asked.call ≡ true → (t : Bool) → is_leader noted ≡ t
      → step_weight script (if t then route_cancel script from name asked else cancel from 1 asked)
      ≤ step_weight script from + 4
  told name asked h true e =
      let cost = routed-costs script from name asked may-noted (leads-noted e) h in omega (arith, cost)
  told name asked h false e =
      let sends = sends-push s.sends (1, frames.Cancel asked) in omega (arith, sends)

  at-object : (name : Name) (asked : Asked) → is_withdrawal asked.call ≡ true → (x : Withdrawn)
      → withdraw noted.deeds name asked.pid asked.ticket ≡ x
      → step_weight script (strike_object script from name asked x) ≤ step_weight script from + 4
  at-object name asked h (Leaves body) e =
      let cost = interrupt-costs script from name asked body may-noted rises e in omega (arith, cost)
  at-object name asked h NotThere e = told name asked h (is_leader noted) refl
  at-object name asked h NotHeld e = told name asked h (is_leader noted) refl

  at-name : (asked : Asked) → is_withdrawal asked.call ≡ true → (name : Name)
      → step_weight script (strike_at script from asked name) ≤ step_weight script from + 4
  at-name asked h (Proc pid) =
      let cost = carried-costs script from asked (replies.Fail Eintr) may-noted in omega (arith, cost)
  at-name asked h (Msg id) =
      at-object (Msg id) asked h (withdraw noted.deeds (Msg id) asked.pid asked.ticket) refl
  at-name asked h (Sem id) =
      at-object (Sem id) asked h (withdraw noted.deeds (Sem id) asked.pid asked.ticket) refl

  by-call : (o : Option Call) → (let n : Node = s.node in to_cancel n.caller ≡ o)
      → step_weight script (strike_call script s o) ≤ step_weight script s
  by-call None e = omega arith
  by-call (Some call) e =
      let n : Node = s.node
      in let four : strike_weight n.caller ≡ 4 = ap (λ o. if is_some o then 4 else 0) e
      in let asked : Asked = withdrawing n call
      in let cost = at-name asked refl (waits_at n.pid call)
      in let less : step_weight script from + 4 ≤ step_weight script s = omega (arith, four)
      in omega (arith, cost, less)

  by-test : (t : Bool) → step_weight script
      (let n : Node = s.node in if t then strike_call script s (to_cancel n.caller) else s)
      ≤ step_weight script s
  by-test true = let n : Node = s.node in by-call (to_cancel n.caller) refl
  by-test false = omega arith

  -- The strike costs nothing: what it sends weighs no more than the call that it interrupts did for it.
  pub strike-costs : step_weight script (strike script s) ≤ step_weight script s
  strike-costs = by-test s.strikes
