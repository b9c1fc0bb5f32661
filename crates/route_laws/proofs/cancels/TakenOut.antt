-- In the middle of an event one who waits at a name is taken out by a withdrawal: the call is broken off, and the
-- kernel stays.
use Rattle.std.proofs.Common.{append-nil, Bool, Contains, List, None, Some, [], ap, false, if◌then◌else◌, nat_eq, refl, subst, sym, true, ℕ, ◌++◌, ◌∙◌, ◌∷◌, ◌≡◌, ◌≢◌}
use Rattle.std.proofs.lemmas.Bool.{eq-eqb, eqb-true, ne_eqb}
use Rattle.std.specs.List.{AllByRecursion}
use Rattle.pico_base.specs.declared.call.Call.{Call}
use Rattle.pico_base.specs.declared.numbers.Name.{Name}
use Rattle.pico_base.specs.declared.reply.Errno.TheVariants.{Eintr}
use Rattle.pico_base.specs.declared.reply.Reply.TheVariants as replies
use Rattle.pico_base.specs.declared.reply.Reply.{Reply}
use Rattle.pico_base.specs.declared.script.Script.{Script}
use Rattle.rpc_frame.specs.declared.asked.Asked.{Asked}
use Rattle.kernel_model.specs.Effect.{reply_alone}
use Rattle.waiting_model.specs.Transition.{withdrawn}
use Rattle.waiting_model.specs.Linear.{line_of}
use Rattle.waiting_model.specs.declared.callers.Waiting.{Waiting}
use Rattle.node_model.specs.Bodies.{Body, Deeds, erase, waiters_of, whole_in}
use Rattle.node_model.specs.Entries.{entry_with}
use Rattle.node_model.specs.Kinds.{get_named, is_object, put_named}
use Rattle.node_model.specs.declared.held.Held.TheVariants.{Request}
use Rattle.node_model.specs.declared.held.Held.{Held}
use Rattle.world_model.specs.Node.{Node, under_way_as}
use Rattle.world_model.specs.Serving.{interrupted}
use Rattle.world_model.specs.Step.{Step, enter_with, reply_at}
use Rattle.world_model.specs.World.{World, world_after}
use Rattle.entry_laws.proofs.Names.{get-put-other-name, get-put-same-name}
use Rattle.serve_laws.proofs.Rounds.{without}
use Rattle.rule_laws.proofs.own.Moved.{IsCarriedOut, is_answered, is_over}
use Rattle.world_laws.proofs.Changes.{Changes}
use Rattle.world_laws.proofs.Middles.{changes-further}
use Rattle.world_laws.proofs.NameFacts.{held-here}
use Rattle.world_laws.specs.Callers.{call_sight}
use Rattle.world_laws.specs.Cancels.{Owing, Wakes}
use Rattle.world_laws.specs.Families.{NodeHolds}
use Rattle.world_laws.specs.Invariant.{HoldsOwing}
use Rattle.world_laws.specs.Names.{NameHolds, held_as, name_sight}
use Rattle.world_laws.specs.Places.{Beside, InTable, IsInHand, Waits}
use Rattle.world_laws.specs.Sights.{is_born_in, node_of}
use Rattle.route_laws.proofs.cancels.BrokenInHand.{broken-keeps, broken_beside}
use Rattle.route_laws.proofs.cancels.WholeBodies.{bodies-without}
use Rattle.route_laws.proofs.hand.HandMoves.{IsFirst, first}
use Rattle.route_laws.proofs.served.AllTaken.{AllTaken, take-all, woken-all}
use Rattle.route_laws.proofs.served.AllTurns.{IsWoken}
use Rattle.route_laws.proofs.served.Nodes.{PutsBody, node_with}
use Rattle.route_laws.proofs.served.Replies.{IsAtWork, caller_by, place_by, sends_by}
use Rattle.route_laws.proofs.served.Rounds.{Answered, answered, with_waiters}
use Rattle.route_laws.proofs.served.Replying.{forgets}
use Rattle.route_laws.proofs.served.Steps.{replied_step, reply-is, with_tables}
use Rattle.route_laws.proofs.served.Turns.{entries-stay, node-at, replied-node, sends-grow, sends-to-nodes}
use Rattle.route_laws.proofs.served.Woken.{asked_from}

-- The call of node x is over, by one line, which leaves the kernel as it was. What is said of withdrawals and of the
-- kernel in which callers wait is to come.
pub record IsBrokenOff (script : Script) (w' : World) (hand : List Held) (b : Beside) (p x : ℕ) (pid : ℕ) (call : Call)
    (name : Name) : Type 0 where
  pub beside : Beside
  pub holds : HoldsOwing script w' hand Wakes beside
  pub lines : beside.lines ≡ b.lines ++ line_of p pid call (replies.Fail Eintr) ∷ []
  pub kernel : beside.kernel ≡ b.kernel
  pub pids : beside.pids ≡ b.pids
  pub cancel : beside.cancel ≡ b.cancel
  pub place : beside.call x ≡ place_by (nat_eq x p) p (replies.Fail Eintr)
  pub others : (y : ℕ) → y ≢ x → beside.call y ≡ b.call y
  pub bodies : ((m : Name) → erase (b.body m) ≡ whole_in b.whole m) → (m : Name)
      → erase (beside.body m) ≡ whole_in (withdrawn b.whole pid name) m

-- it has its reply
pub place-over : (own : Bool) (p : ℕ) (reply : Reply) → IsCarriedOut (place_by own p reply)
place-over true p reply = is_over refl
place-over false p reply = is_answered p reply refl

module _ (script : Script) (v : World) (p : ℕ) (s : Step) (it : Asked) (rest : List Held) (owes : Owing) (b : Beside)
    (holds : HoldsOwing script (world_after v p s) rest owes b) (at : IsAtWork script (world_after v p s) p)
    (name : Name) (object : is_object name ≡ true) (here : b.deed name ≡ InTable p) (who : Waiting)
    (there : Contains (waiters_of (b.body name)) who) (caller_is : who.caller ≡ it.caller)
    (ticket_is : who.ticket ≡ it.ticket)
  where
    abbrev x : ℕ
    x = it.caller

    abbrev reply : Reply
    reply = replies.Fail Eintr

    -- the step with the entry
    abbrev entered : Step
    entered = enter_with s it.pid it.call (reply_alone reply)

    abbrev ws : List Waiting
    ws = waiters_of (b.body name)

    abbrev left : List Waiting
    left = without who.pid ws

    abbrev out : Body
    out = with_waiters (b.body name) left

    abbrev own : Answered
    own = answered who reply

    taken : AllTaken script v p entered s.node.deeds s.node.leader (Request (asked_from who) ∷ rest) b name (own ∷ [])
        out
    taken =
        take-all script v p rest name entered s.node.deeds s.node.leader left (own ∷ []) [] b (b.body name) s.node.deeds
        refl (λ other e. refl) (forgets script v p s entered rest owes b refl refl _ refl holds)
        (record { low = at.low; high = at.high; born = at.born }) here (there, refl)

    facts : AllByRecursion (IsWoken script name) (own ∷ []) × AllByRecursion (λ a. b.call a.who.caller ≡ Waits name)
        (own ∷ [])
    facts = woken-all script (world_after v p s) rest b holds name (own ∷ []) (there, tt)

    its : IsWoken script name own
    its = facts.0.0

    -- the step, once the table is as one who waits there leaves it
    abbrev m1 : Step
    m1 = with_tables entered taken.table s.node.leader

    abbrev w1 : World
    w1 = world_after v p m1

    abbrev asked : Asked
    asked = asked_from who

    abbrev mine : Bool
    mine = nat_eq asked.caller p

    its-node : node_of w1 p ≡ node_with s.node s.node.caller taken.table s.node.leader
    its-node = node-at script v p m1 taken.holds.shape at.low at.high

    number-is : s.node.number ≡ p
    number-is =
        let old : NodeHolds script taken.beside.pids (is_born_in w1) p (node_of w1 p) =
        taken.holds.nodes p at.low at.high
        in sym (ap (λ (n : Node). n.number) its-node) ∙ old.number

    under-way : mine ≡ true → under_way_as s.node asked.ticket ≡ Some asked.call
    under-way is_mine =
        let f : IsFirst script asked.caller (is_born_in w1)
        (call_sight w1 (Request asked ∷ rest) taken.beside asked.caller)
        asked _ = first script w1 asked rest taken.beside taken.holds its.asks
        in let same : node_of w1 asked.caller ≡ node_with s.node s.node.caller taken.table s.node.leader =
        ap (node_of w1) (eqb-true asked.caller p is_mine) ∙ its-node
        in let ticket : asked.ticket ≡ s.node.caller.ticket =
        ap (λ (z : Asked). z.ticket) f.asked_is ∙ ap (λ (n : Node). n.caller.ticket) same
        in ap (λ t. elim t [ true ↦ s.node.caller.under_way | false ↦ None ])
        (eq-eqb asked.ticket s.node.caller.ticket ticket)
        ∙ sym (ap (λ (n : Node). n.caller.under_way) same)
        ∙ f.is ∙ ap (λ (z : Asked). Some z.call) (sym f.asked_is)

    -- the deeds then
    abbrev deeds : Deeds
    deeds = put_named s.node.deeds name out

    abbrev now : Step
    now = with_tables entered deeds s.node.leader

    abbrev replied : Step
    replied = replied_step script mine now asked reply

    -- The withdrawal's step is that in which the call has its reply.
    step-is : interrupted script s name it out ≡ replied
    step-is =
        (λ i. reply_at script now (sym caller_is i) (sym ticket_is i) reply)
        ∙ reply-is script now asked reply mine (ap (nat_eq asked.caller) number-is) under-way
        (λ is_mine. number-is ∙ sym (eqb-true asked.caller p is_mine))

    held : (let n : Node = node_of w1 p in get_named n.deeds name ≡ Some out)
    held =
        let known : NameHolds script taken.beside.pids (is_born_in w1) name
        (name_sight script w1 (Request asked ∷ rest) taken.beside name) = taken.holds.names name
        in known.tables p
        ∙ ap (λ d. held_as d (taken.beside.body name) p) (ap (λ deed. deed name) taken.keeps.deed ∙ here)
        ∙ held-here p (taken.beside.body name) ∙ ap Some taken.body_here

    puts : (let n : Node = node_of w1 p in PutsBody n.deeds deeds name out)
    puts =
        subst (λ (n : Node). PutsBody n.deeds deeds name out) (sym its-node)
        (record {
          here = get-put-same-name s.node.deeds name out;
          others = λ m other. get-put-other-name s.node.deeds name out m other ∙ sym (taken.agrees m other);
        })

    changes : Changes script p w1 (world_after v p replied)
        (let n : Node = node_of w1 p in node_with n (caller_by script mine asked reply n.caller) deeds n.leader) []
        (sends_by mine asked reply) []
    changes =
        subst (λ (n : Node). Changes script p w1 (world_after v p replied) n [] (sends_by mine asked reply) [])
        (replied-node script mine entered asked reply deeds s.node.leader
        ∙ ap (λ (n : Node). node_with n (caller_by script mine asked reply n.caller) deeds n.leader) (sym its-node))
        (changes-further script v p m1 replied (sends_by mine asked reply) [] taken.holds.shape at.low at.high
        (sends-to-nodes script mine asked reply its.asks)
        (record {
          sends_are = sends-grow script mine now asked reply replied refl;
          entries_are = entries-stay script mine now asked reply;
        }))

    abbrev after : Beside
    after =
        broken_beside script w1 p taken.at asked rest taken.beside taken.holds its.asks mine refl its.parks Eintr refl
        name
        out held deeds puts (world_after v p replied) changes

    keeps : HoldsOwing script (world_after v p replied) rest Wakes after
    keeps =
        broken-keeps script w1 p taken.at asked rest taken.beside taken.holds its.asks mine refl its.parks Eintr refl
        name
        out held deeds puts (world_after v p replied) changes

    call-now : (y : ℕ) → after.call y ≡ (if nat_eq who.caller y then place_by mine p reply else
        if nat_eq who.caller y then IsInHand else b.call y)
    call-now y = ap (λ f. if nat_eq who.caller y then place_by mine p reply else f y) taken.call

    -- This is all that the step changes.
    pub broken-changes : Changes script p (world_after v p s) (world_after v p (interrupted script s name it out))
        (node_with s.node (caller_by script (nat_eq who.caller p) (asked_from who) (replies.Fail Eintr) s.node.caller)
        (put_named s.node.deeds name (with_waiters (b.body name) (without who.pid (waiters_of (b.body name)))))
        s.node.leader) [] (sends_by (nat_eq who.caller p) (asked_from who) (replies.Fail Eintr))
        (entry_with p it.pid it.call (reply_alone (replies.Fail Eintr)) ∷ [])
    broken-changes =
        subst (λ t. Changes script p (world_after v p s) (world_after v p t)
        (node_with s.node (caller_by script mine asked reply s.node.caller) deeds s.node.leader) []
        (sends_by mine asked reply) (entry_with p it.pid it.call (reply_alone reply) ∷ [])) (sym step-is)
        (subst (λ (n : Node). Changes script p (world_after v p s) (world_after v p replied) n []
        (sends_by mine asked reply) (entry_with p it.pid it.call (reply_alone reply) ∷ []))
        (replied-node script mine entered asked reply deeds s.node.leader)
        (changes-further script v p s replied (sends_by mine asked reply)
        (entry_with p it.pid it.call (reply_alone reply) ∷ []) holds.shape at.low at.high
        (sends-to-nodes script mine asked reply its.asks)
        (record {
          sends_are = sends-grow script mine now asked reply replied refl;
          entries_are = entries-stay script mine now asked reply ∙ append-nil now.entries
              ∙ ap (λ q. s.entries ++ entry_with q it.pid it.call (reply_alone reply) ∷ []) number-is;
        })))

    -- It is taken out, and has its reply.
    pub taken-out : IsBrokenOff script (world_after v p (interrupted script s name it out)) rest b p x who.pid who.call
        name
    taken-out =
        record {
          beside = after;
          holds = subst (λ t. HoldsOwing script (world_after v p t) rest Wakes after) (sym step-is) keeps;
          lines = ap (λ ls. ls ++ line_of p who.pid who.call reply ∷ []) taken.lines;
          kernel = taken.kernel;
          pids = taken.keeps.pids;
          cancel = taken.keeps.cancel;
          place = call-now x
              ∙ ap (λ t. if t then place_by mine p reply else if t then IsInHand else b.call x)
              (eq-eqb who.caller x caller_is)
              ∙ ap (λ y. place_by (nat_eq y p) p reply) caller_is;
          others = λ y d. call-now y
              ∙ ap (λ t. if t then place_by mine p reply else if t then IsInHand else b.call y)
              (ne_eqb who.caller y (λ e. d (sym e ∙ caller_is)));
          bodies = λ before m. bodies-without b.whole who.pid b.body after.body before name who there taken.body_here
              taken.body_others object m;
        }
