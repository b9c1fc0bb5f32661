-- In the middle of a node's event the calls of its hand are carried out one after another, on a name that it holds.
use Rattle.std.proofs.Common.{◌≡◌, ℕ, ◌≤◌, Bool, true, false, List, [], ◌∷◌, ◌++◌, nat_eq, Some, None, refl, ap, sym, subst, ◌∙◌, append-nil}
use Rattle.std.proofs.lemmas.Bool.{eq-eqb, eqb-true}
use Rattle.pico_base.specs.declared.numbers.Name.{Name}
use Rattle.pico_base.specs.declared.reply.Reply.{Reply}
use Rattle.pico_base.specs.declared.script.Script.{Script}
use Rattle.rpc_frame.specs.declared.asked.Asked.{Asked}
use Rattle.waiting_model.specs.Linear.{at_once}
use Rattle.node_model.specs.declared.held.Held.{Held}
use Rattle.node_model.specs.declared.held.Held.TheVariants.{Request}
use Rattle.node_model.specs.Bodies.{Body, Deeds, bare, waiters_of}
use Rattle.node_model.specs.Carrying.{is_own, is_served}
use Rattle.node_model.specs.Serving.{name_for}
use Rattle.world_model.specs.Node.{Leader, Node, under_way_as}
use Rattle.world_model.specs.Step.{Step}
use Rattle.world_model.specs.World.{World, node_count, world_after}
use Rattle.serve_laws.specs.Served.{DoesLine, line}
use Rattle.entry_laws.specs.Entering.{removed_queue, removed_set}
use Rattle.world_laws.specs.Places.{InTable, Beside}
use Rattle.world_laws.specs.Sights.{node_of, is_born_in, is_born_stage}
use Rattle.world_laws.specs.Callers.{call_sight}
use Rattle.world_laws.specs.Cancels.{Wakes}
use Rattle.world_laws.specs.Families.{NodeHolds}
use Rattle.world_laws.specs.Ranges.{KeysHold}
use Rattle.world_laws.specs.Invariant.{HoldsOwing, IsShaped}
use Rattle.world_laws.proofs.Changes.{Changes, read-same}
use Rattle.world_laws.proofs.Middles.{changes-further}
use Rattle.world_laws.proofs.Sends.{AreToNodes}
use Rattle.route_laws.proofs.hand.HandMoves.{IsCallOf, IsFirst, first}
use Rattle.route_laws.proofs.served.Lines.{KeysFollow, keys-stay, line-keeps, line_beside, line-dead}
use Rattle.route_laws.proofs.served.Nodes.{PutsBody, node_with}
use Rattle.route_laws.proofs.served.Replies.{IsAtWork, caller_by, sends_by}
use Rattle.route_laws.proofs.served.Rounds.{Answered}
use Rattle.route_laws.proofs.served.Steps.{answer_one, replied_step, reply-is, tables-replied, with_tables}
use Rattle.route_laws.proofs.served.Woken.{asked_from}
use Rattle.kernel_model.specs.Kernel.{living_at}

-- ---- the node of a step

-- it is the world's
pub node-at : (script : Script) (v : World) (p : ℕ) (m : Step) → IsShaped script (world_after v p m) → 1 ≤ p
    → p ≤ node_count script → node_of (world_after v p m) p ≡ m.node
node-at script v p m shape low high =
    let c : Changes script p (world_after v p m) (world_after v p m) m.node [] [] [] =
    changes-further script v p m m [] [] shape low high tt
    (record { sends_are = sym (append-nil m.sends); entries_are = sym (append-nil m.entries) })
    in c.here

-- ---- one call in turn

-- its Answer, if it needs one, goes behind what was sent before
pub sends-grow : (script : Script) (own : Bool) (m : Step) (asked : Asked) (reply : Reply) (t : Step)
    → t ≡ replied_step script own m asked reply → t.sends ≡ m.sends ++ sends_by own asked reply
sends-grow script true m asked reply t e = ap (λ (z : Step). z.sends) e ∙ sym (append-nil m.sends)
sends-grow script false m asked reply t e = ap (λ (z : Step). z.sends) e

-- the reply makes no entry
pub entries-stay : (script : Script) (own : Bool) (m : Step) (asked : Asked) (reply : Reply)
    → (let t : Step = replied_step script own m asked reply in t.entries) ≡ m.entries ++ []
entries-stay script true m asked reply = sym (append-nil m.entries)
entries-stay script false m asked reply = sym (append-nil m.entries)

-- one who asked is a node of the script, and so the Answer goes to one
pub sends-to-nodes : (script : Script) (own : Bool) (asked : Asked) (reply : Reply) → IsCallOf script asked
    → AreToNodes (node_count script) (sends_by own asked reply)
sends-to-nodes script true asked reply asks = tt
sends-to-nodes script false asked reply asks = (record { low = asks.low; high = asks.high }, tt)

-- the node has its tables, and a caller that goes on where the call was its own
pub replied-node : (script : Script) (own : Bool) (m : Step) (asked : Asked) (reply : Reply) (deeds : Deeds)
    (leader : Leader)
    → (let t : Step = replied_step script own (with_tables m deeds leader) asked reply in t.node)
    ≡ node_with m.node (caller_by script own asked reply m.node.caller) deeds leader
replied-node script true m asked reply deeds leader = refl
replied-node script false m asked reply deeds leader = refl

module _ (script : Script) (v : World) (p : ℕ) (m : Step) (deeds : Deeds) (leader : Leader)
    (a : Answered) (rest : List Held) (b : Beside)
    (holds : HoldsOwing script (world_after v p (with_tables m deeds leader)) (Request (asked_from a.who) ∷ rest) Wakes
    b)
    (at : IsAtWork script (world_after v p (with_tables m deeds leader)) p) (asks : IsCallOf script (asked_from a.who))
    (name : Name) (here : b.deed name ≡ InTable p) (named : name_for a.who.pid a.who.call ≡ Some name)
    (served : is_served (at_once a.who.call) ≡ true) (not_own : is_own a.who.pid a.who.call ≡ false) (next : Body)
    (does : DoesLine name (bare (b.body name)) (line a.who.pid a.who.call a.reply) (bare next))
    (same_waiters : waiters_of next ≡ waiters_of (b.body name)) (deeds' : Deeds)
    (puts : PutsBody deeds deeds' name next) (leader' : Leader) (directory_is : leader'.directory ≡ leader.directory)
  where
    abbrev asked : Asked
    asked = asked_from a.who

    abbrev own : Bool
    own = nat_eq asked.caller p

    abbrev w : World
    w = world_after v p (with_tables m deeds leader)

    -- the step then
    abbrev pub turned : Step
    turned = with_tables (answer_one script m a) deeds' leader'

    abbrev w' : World
    w' = world_after v p turned

    node-is : node_of w p ≡ node_with m.node m.node.caller deeds leader
    node-is = node-at script v p (with_tables m deeds leader) holds.shape at.low at.high

    number-is : m.node.number ≡ p
    number-is =
        let old : NodeHolds script b.pids (is_born_in w) p (node_of w p) = holds.nodes p at.low at.high
        in sym (ap (λ (n : Node). n.number) node-is) ∙ old.number

    under-way : own ≡ true → under_way_as m.node asked.ticket ≡ Some asked.call
    under-way mine =
        let f : IsFirst script asked.caller (is_born_in w) (call_sight w (Request asked ∷ rest) b asked.caller) asked
        _ =
        first script w asked rest b holds asks
        in let same : node_of w asked.caller ≡ node_with m.node m.node.caller deeds leader =
        ap (node_of w) (eqb-true asked.caller p mine) ∙ node-is
        in let ticket : asked.ticket ≡ m.node.caller.ticket =
        ap (λ (z : Asked). z.ticket) f.asked_is ∙ ap (λ (n : Node). n.caller.ticket) same
        in ap (λ t. elim t [ true ↦ m.node.caller.under_way | false ↦ None ])
        (eq-eqb asked.ticket m.node.caller.ticket ticket)
        ∙ sym (ap (λ (n : Node). n.caller.under_way) same)
        ∙ f.is ∙ ap (λ (z : Asked). Some z.call) (sym f.asked_is)

    abbrev replied : Step
    replied = replied_step script own (with_tables m deeds' leader') asked a.reply

    pub step-is : turned ≡ replied
    step-is =
        ap (λ t. with_tables t deeds' leader')
        (reply-is script m asked a.reply own (ap (nat_eq asked.caller) number-is) under-way
        (λ mine. number-is ∙ sym (eqb-true asked.caller p mine)))
        ∙ tables-replied script own m asked a.reply deeds' leader'

    pub changes : Changes script p w (world_after v p replied)
        (node_with (node_of w p) (caller_by script own asked a.reply (node_of w p).caller) deeds' leader') []
        (sends_by own asked a.reply) []
    changes =
        subst (λ (n : Node). Changes script p w (world_after v p replied) n [] (sends_by own asked a.reply) [])
        (replied-node script own m asked a.reply deeds' leader'
        ∙ ap (λ (n : Node). node_with n (caller_by script own asked a.reply n.caller) deeds' leader') (sym node-is))
        (changes-further script v p (with_tables m deeds leader) replied (sends_by own asked a.reply) [] holds.shape
        at.low at.high (sends-to-nodes script own asked a.reply asks)
        (record {
          sends_are = sends-grow script own (with_tables m deeds' leader') asked a.reply replied refl;
          entries_are = entries-stay script own (with_tables m deeds' leader') asked a.reply;
        }))

    pub puts-there : PutsBody (node_of w p).deeds deeds' name next
    puts-there = subst (λ (n : Node). PutsBody n.deeds deeds' name next) (sym node-is) puts

    pub same-directory : leader'.directory ≡ (node_of w p).leader.directory
    same-directory = directory_is ∙ ap (λ (n : Node). n.leader.directory) (sym node-is)

    -- Where the tables of keys of the leader are the same, they follow a call that removes nothing.
    pub keys-same : leader' ≡ leader → removed_queue asked.call ≡ None → removed_set asked.call ≡ None
        → KeysFollow asked.call b.kernel (node_of w' 1).leader
    keys-same same no_queue no_set =
        subst (λ t. KeysFollow asked.call b.kernel (node_of (world_after v p t) 1).leader) (sym step-is)
        (keys-stay asked.call b.kernel (node_of (world_after v p replied) 1).leader no_queue no_set
        (subst (λ l. KeysHold l b.kernel)
        (sym (read-same script p w (world_after v p replied) _ [] (sends_by own asked a.reply) [] changes
        (λ (n : Node). n.leader) (same ∙ ap (λ (n : Node). n.leader) (sym node-is)) 1)) holds.keys))

    -- and where it is the leader's turn these are the leader's
    pub leader-then : p ≡ 1 → (node_of w' 1).leader ≡ leader'
    leader-then is =
        ap (λ t. (let n : Node = node_of (world_after v p t) 1 in n.leader)) step-is
        ∙ ap (λ q. (let n : Node = node_of (world_after v p replied) q in n.leader)) (sym is)
        ∙ ap (λ (n : Node). n.leader) changes.here

    module _ (keys : KeysFollow asked.call b.kernel (node_of w' 1).leader) where
      pub keys-there : KeysFollow asked.call b.kernel (node_of (world_after v p replied) 1).leader
      keys-there = subst (λ t. KeysFollow asked.call b.kernel (node_of (world_after v p t) 1).leader) step-is keys

      -- what stands beside the world then
      abbrev pub turn_beside : Beside
      turn_beside =
          line_beside script w p at asked rest b holds asks own refl p name here named served not_own a.reply next does
          same_waiters deeds' puts-there leader' same-directory (world_after v p replied) keys-there changes

      -- All holds then,
      pub turn-keeps : HoldsOwing script w' rest Wakes turn_beside
      turn-keeps =
          subst (λ t. HoldsOwing script (world_after v p t) rest Wakes turn_beside) (sym step-is)
          (line-keeps script w p at asked rest b holds asks own refl p name here named served not_own a.reply next does
          same_waiters deeds' puts-there leader' same-directory (world_after v p replied) keys-there changes)

      -- who doesn't live doesn't live then,
      pub turn-dead : (q : ℕ) → living_at b.kernel q ≡ None → living_at turn_beside.kernel q ≡ None
      turn-dead =
          line-dead script w p at asked rest b holds asks own refl p name here named served not_own a.reply next does
          same_waiters deeds' puts-there leader' same-directory (world_after v p replied) keys-there changes

    -- and the node is at work as before.
    pub turn-at : IsAtWork script w' p
    turn-at =
        record {
          low = at.low;
          high = at.high;
          born = subst (λ t. is_born_in (world_after v p t) p ≡ true) (sym step-is)
              (read-same script p w (world_after v p replied) _ [] (sends_by own asked a.reply) [] changes
              (λ (n : Node). is_born_stage n.stage) refl p ∙ at.born);
        }
