-- In the middle of a node's event those who are woken are taken up into the hand, in their order.
use Rattle.std.proofs.Common.{◌≡◌, ◌≢◌, ℕ, ◌≤◌, true, if◌then◌else◌, List, [], ◌∷◌, ◌++◌, Contains, refl, ap, sym, subst, ◌∙◌, append-nil, append_assoc}
use Rattle.std.specs.List.{AllByRecursion}
use Rattle.std.proofs.lemmas.Bool.{and_parts}
use Rattle.pico_base.specs.declared.numbers.Name.{Name}
use Rattle.pico_base.specs.declared.script.Script.{Script}
use Rattle.pico_base.specs.Home.{home_of}
use Rattle.rpc_frame.specs.declared.asked.Asked.{Asked}
use Rattle.kernel_laws.proofs.Members.{contains-none}
use Rattle.waiting_model.specs.Calls.{may_park}
use Rattle.waiting_model.specs.declared.callers.Waiting.{Waiting}
use Rattle.node_model.specs.declared.held.Held.{Held}
use Rattle.node_model.specs.declared.held.Held.TheVariants.{Request}
use Rattle.node_model.specs.Bodies.{AQueue, ASet, Body, Deeds, Ended, Gone, Living, Removed, bare, waiters_of}
use Rattle.node_model.specs.Kinds.{get_named, put_named}
use Rattle.world_model.specs.Node.{Leader, Node}
use Rattle.world_model.specs.Step.{Step}
use Rattle.world_model.specs.World.{World, node_count, world_after}
use Rattle.entry_laws.proofs.Names.{get-put-other-name, get-put-same-name, other-name, same-name}
use Rattle.serve_laws.proofs.Rounds.{contains-without, without}
use Rattle.world_laws.specs.Places.{CallPlace, InTable, IsInHand, Waits, Beside, call_in}
use Rattle.world_laws.specs.Sights.{node_of, is_born_stage}
use Rattle.world_laws.specs.Callers.{CallSight, asked_of, call_sight, is_on, may_be_in}
use Rattle.world_laws.specs.Cancels.{Owing, Wakes}
use Rattle.world_laws.specs.Invariant.{HoldsOwing, IsShaped}
use Rattle.world_laws.proofs.Changes.{Changes, read-same}
use Rattle.world_laws.proofs.Middles.{changes-further}
use Rattle.route_laws.proofs.served.AllTurns.{IsWoken, KeepsRest, keeps-both, requests}
use Rattle.route_laws.proofs.served.Nodes.{PutsBody, node_with}
use Rattle.route_laws.proofs.served.Replies.{IsAtWork}
use Rattle.route_laws.proofs.served.Rounds.{Answered, Takes, bare-with, with-own, with_waiters}
use Rattle.route_laws.proofs.served.Steps.{with_tables}
use Rattle.route_laws.proofs.served.Turns.{node-at}
use Rattle.route_laws.proofs.served.Waiters.{waits-there}
use Rattle.route_laws.proofs.served.Woken.{asked_from, parks-call, taken_beside, takes-up}

-- ---- bodies

-- where somebody waits there is room for fewer
room-of : (body : Body) (v : Waiting) (ws : List Waiting) → Contains (waiters_of body) v
    → waiters_of (with_waiters body ws) ≡ ws
room-of (AQueue q) v ws h = refl
room-of (ASet s) v ws h = refl
room-of (Living row) v ws h = absurd (contains-none v h)
room-of (Ended ending) v ws h = absurd (contains-none v h)
room-of Gone v ws h = absurd (contains-none v h)
room-of Removed v ws h = absurd (contains-none v h)

with-twice : (body : Body) (ws vs : List Waiting) → with_waiters (with_waiters body ws) vs ≡ with_waiters body vs
with-twice (AQueue q) ws vs = refl
with-twice (ASet s) ws vs = refl
with-twice (Living row) ws vs = refl
with-twice (Ended ending) ws vs = refl
with-twice Gone ws vs = refl
with-twice Removed ws vs = refl

-- ---- who is taken waits there

-- all of them wait among these
abbrev pub AreAmong : List Waiting → List Answered → Type 0
AreAmong ws all = AllByRecursion (λ a. Contains ws a.who) all

all-among : (ws : List Waiting) (pid : ℕ) (more : List Answered) → AreAmong (without pid ws) more → AreAmong ws more
all-among ws pid [] h = tt
all-among ws pid (a ∷ more) h = (contains-without pid ws a.who h.0, all-among ws pid more h.1)

-- those who are taken out, one after another, all waited there at first
pub takes-among : (ws : List Waiting) (more : List Answered) (left : List Waiting) → Takes ws more left
    → AreAmong ws more
takes-among ws [] left h = tt
takes-among ws (a ∷ more) left h = (
  h.0,
  all-among ws a.who.pid more (takes-among (without a.who.pid ws) more left h.1),
)

module _ (script : Script) (w : World) (hand : List Held) {owes : Owing} (b : Beside)
    (holds : HoldsOwing script w hand owes b) (name : Name) where
  -- it is a call that waits there
  woken-one : (a : Answered) → Contains (waiters_of (b.body name)) a.who
      → IsWoken script name a × (b.call a.who.caller ≡ Waits name)
  woken-one a there =
      let it = waits-there script w hand b holds name a.who there
      in let x : CallSight = call_sight w hand b a.who.caller
      in let parts = and_parts (is_on name (home_of x.pid it.call)) (may_park it.call)
      (subst (λ place. may_be_in place (home_of x.pid it.call) it.call ≡ true) it.waits it.has.home)
      in let same : asked_from a.who ≡ asked_of x it.call = ap asked_from it.is
      in let parks : may_park a.who.call ≡ true = ap (λ (z : Asked). may_park z.call) same ∙ parts.1
      in (
        record {
          asks = record { low = it.node.low; high = it.node.high; is_call = parks-call a.who.call parks };
          parks = parks;
          on = ap (λ (z : Asked). is_on name (home_of z.pid z.call)) same ∙ parts.0;
        },
        it.waits,
      )

  -- So are all of them.
  pub woken-all : (more : List Answered) → AreAmong (waiters_of (b.body name)) more
      → AllByRecursion (IsWoken script name) more × AllByRecursion (λ a. b.call a.who.caller ≡ Waits name) more
  woken-all [] h = (tt, tt)
  woken-all (a ∷ more) h =
      let first = woken-one a h.0
      in let rest = woken-all more h.1
      in ((first.0, rest.0), (first.1, rest.1))

-- ---- they are taken up

-- where their calls are then
abbrev pub taken_calls : List Answered → (ℕ → CallPlace) → ℕ → CallPlace
taken_calls [] f = f
taken_calls (a ∷ more) f = taken_calls more (call_in f a.who.caller IsInHand)

pub record AllTaken (script : Script) (v : World) (p : ℕ) (m : Step) (deeds : Deeds) (leader : Leader)
    (hand : List Held) (b : Beside) (name : Name) (more : List Answered) (body : Body) : Type 0 where
  pub beside : Beside
  pub table : Deeds
  pub agrees : (other : Name) → other ≢ name → get_named table other ≡ get_named deeds other
  pub holds : HoldsOwing script (world_after v p (with_tables m table leader)) hand Wakes beside
  pub at : IsAtWork script (world_after v p (with_tables m table leader)) p
  pub lines : beside.lines ≡ b.lines
  pub kernel : beside.kernel ≡ b.kernel
  pub body_here : beside.body name ≡ body
  pub body_others : (other : Name) → other ≢ name → beside.body other ≡ b.body other
  pub keeps : KeepsRest b beside
  pub call : beside.call ≡ taken_calls more b.call

module _ (script : Script) (v : World) (p : ℕ) (rest : List Held) (name : Name) (m : Step) (deeds : Deeds)
    (leader : Leader) (left : List Waiting) where
  -- only the table of deeds is another one
  pub table-changes : (one other : Deeds) → IsShaped script (world_after v p (with_tables m one leader)) → 1 ≤ p
      → p ≤ node_count script
      → (let w : World = world_after v p (with_tables m one leader)
      in Changes script p w (world_after v p (with_tables m other leader))
      (node_with (node_of w p) (let n : Node = node_of w p in n.caller) other (let n : Node = node_of w p in n.leader))
      [] [] [])
  table-changes one other shape low high =
      subst (λ (n : Node). Changes script p (world_after v p (with_tables m one leader))
      (world_after v p (with_tables m other leader)) (node_with n n.caller other n.leader) [] [] [])
      (sym (node-at script v p (with_tables m one leader) shape low high))
      (changes-further script v p (with_tables m one leader) (with_tables m other leader) [] [] shape low high tt
      (record { sends_are = sym (append-nil m.sends); entries_are = sym (append-nil m.entries) }))

  -- All are taken up, behind what is in front of the hand.
  pub take-all : (more : List Answered) (front : List Held) (b : Beside) (now : Body) (table : Deeds)
      → b.body name ≡ now → ((other : Name) → other ≢ name → get_named table other ≡ get_named deeds other)
      → HoldsOwing script (world_after v p (with_tables m table leader)) (front ++ rest) Wakes b
      → IsAtWork script (world_after v p (with_tables m table leader)) p → b.deed name ≡ InTable p
      → Takes (waiters_of now) more left
      → AllTaken script v p m deeds leader (front ++ (requests more ++ rest)) b name more (with_waiters now left)
  take-all [] front b now table is agrees holds at here takes =
      record {
        beside = b;
        table = table;
        agrees = agrees;
        holds = holds;
        at = at;
        lines = refl;
        kernel = refl;
        body_here = is ∙ sym (with-own now) ∙ ap (with_waiters now) takes;
        body_others = λ other d. refl;
        keeps = record { pids = refl; deed = refl; whole = refl; cancel = refl; dead = λ q h. h };
        call = refl;
      }
  take-all (a ∷ more) front b now table is agrees holds at here takes =
      let w : World = world_after v p (with_tables m table leader)
      in let among : Contains (waiters_of (b.body name)) a.who =
      subst (λ body. Contains (waiters_of body) a.who) (sym is) takes.0
      in let ws : List Waiting = without a.who.pid (waiters_of now)
      in let body : Body = with_waiters now ws
      in let room : waiters_of body ≡ ws = room-of now a.who ws takes.0
      in let bare_is : bare body ≡ bare (b.body name) = bare-with now ws ∙ ap bare (sym is)
      in let fewer : waiters_of body ≡ without a.who.pid (waiters_of (b.body name)) =
      room ∙ ap (λ z. without a.who.pid (waiters_of z)) (sym is)
      in let after : Deeds = put_named table name body
      in let there : node_of w p ≡ node_with m.node m.node.caller table leader =
      node-at script v p (with_tables m table leader) holds.shape at.low at.high
      in let puts : PutsBody (let n : Node = node_of w p in n.deeds) after name body =
      subst (λ (n : Node). PutsBody n.deeds after name body) (sym there)
      (record {
        here = get-put-same-name table name body;
        others = λ other d. get-put-other-name table name body other d;
      })
      in let c = table-changes table after holds.shape at.low at.high
      in let b' : Beside = taken_beside script w p at front rest b holds name here a.who among body bare_is fewer after
      puts
      (world_after v p (with_tables m after leader)) c
      in let held = takes-up script w p at front rest b holds name here a.who among body bare_is fewer after puts
      (world_after v p (with_tables m after leader)) c
      in let r = take-all more (front ++ Request (asked_from a.who) ∷ []) b' body after
      (ap (λ t. if t then body else b.body name) (same-name name))
      (λ other d. get-put-other-name table name body other d ∙ agrees other d)
      (subst (λ hand. HoldsOwing script (world_after v p (with_tables m after leader)) hand Wakes b')
      (sym (append_assoc front (Request (asked_from a.who) ∷ []) rest)) held)
      (record {
        low = at.low;
        high = at.high;
        born = read-same script p w (world_after v p (with_tables m after leader)) _ [] [] [] c
            (λ (n : Node). is_born_stage n.stage) refl p ∙ at.born;
      })
      here (subst (λ vs. Takes vs more left) (sym room) takes.1)
      in record {
        beside = r.beside;
        table = r.table;
        agrees = r.agrees;
        holds = subst (λ hand. HoldsOwing script (world_after v p (with_tables m r.table leader)) hand Wakes r.beside)
            (append_assoc front (Request (asked_from a.who) ∷ []) (requests more ++ rest)) r.holds;
        at = r.at;
        lines = r.lines;
        kernel = r.kernel;
        body_here = r.body_here ∙ with-twice now ws left;
        body_others = λ other d. r.body_others other d
            ∙ ap (λ t. if t then body else b.body other) (other-name name other d);
        keeps = keeps-both b b' r.beside (record {
          pids = refl;
          deed = refl;
          whole = refl;
          cancel = refl;
          dead = λ q h.
              h;
        }) r.keeps;
        call = r.call;
      }
