-- A node serves the first call of its hand, on a name that it holds, and the call has its reply: those whom that wakes
-- are taken up, and then all are carried out in turn. The withdrawals and the kernel in which callers wait come last.
use Rattle.std.proofs.Common.{◌≡◌, ◌≢◌, ℕ, ◌+◌, ◌≤◌, Bool, true, false, ◌||◌, if◌then◌else◌, List, [], ◌∷◌, ◌++◌, length, nat_eq, refl, ap, sym, subst, ◌∙◌, arith, append_assoc, not, ◌-◌, set, Some, None}
use Rattle.std.specs.List.{AllByRecursion}
use Rattle.std.proofs.lemmas.Bool.{false≢true, or_parts}
use Rattle.std.proofs.lemmas.List.{length-append}
use Rattle.pico_base.specs.declared.call.Call.{Call}
use Rattle.pico_base.specs.declared.call.Call.TheVariants as calls
use Rattle.pico_base.specs.declared.numbers.Name.{Name}
use Rattle.pico_base.specs.declared.reply.Outcome.{Outcome}
use Rattle.pico_base.specs.declared.reply.Reply.{Reply}
use Rattle.pico_base.specs.declared.script.Script.{Script}
use Rattle.pico_base.specs.Home.{home_of}
use Rattle.rpc_frame.specs.declared.asked.Asked.{Asked}
use Rattle.waiting_model.specs.Calls.{is_withdrawal}
use Rattle.waiting_model.specs.Linear.{at_once, line_of}
use Rattle.node_model.specs.declared.held.Held.{Held}
use Rattle.node_model.specs.declared.held.Held.TheVariants.{Request}
use Rattle.node_model.specs.Awaiting.{Applied}
use Rattle.node_model.specs.Bodies.{Body, bare, waiters_of}
use Rattle.node_model.specs.Carrying.{is_own, is_served}
use Rattle.node_model.specs.Kinds.{for_kind, put_named}
use Rattle.node_model.specs.Serving.{name_for, waiting_as}
use Rattle.world_model.specs.Node.{Leader}
use Rattle.world_model.specs.Step.{Step, enter_with}
use Rattle.world_model.specs.World.{World, world_after, with_all_sent}
use Rattle.serve_laws.specs.Served.{DoesLine, line}
use Rattle.entry_laws.proofs.Names.{get-put-other-name, get-put-same-name, other-name, same-name}
use Rattle.world_laws.specs.Places.{CallPlace, InTable, IsInHand, Waits, Beside, call_in}
use Rattle.world_laws.specs.Sights.{directory_of, node_of}
use Rattle.world_laws.specs.Callers.{is_on}
use Rattle.world_laws.specs.Cancels.{Owing, Wakes}
use Rattle.world_laws.specs.Ranges.{leases_on_way}
use Rattle.world_laws.specs.Invariant.{HoldsOwing}
use Rattle.route_laws.proofs.hand.HandMoves.{IsCallOf}
use Rattle.route_laws.proofs.served.AllTaken.{AllTaken, take-all, taken_calls, takes-among, woken-all, AreAmong}
use Rattle.route_laws.proofs.served.AllTurns.{IsWoken, KeepsRest, Turned, all-turns, calls_by, is_among, keeps-both, on-not-own, others-there, requests, these-carried, turn_lines, steps-wait-not, CarriedAt}
use Rattle.route_laws.proofs.served.Lines.{KeysFollow}
use Rattle.route_laws.proofs.served.Nodes.{PutsBody}
use Rattle.route_laws.proofs.served.Replies.{IsAtWork}
use Rattle.route_laws.proofs.served.Rounds.{Answered, RepliesInTurn, answered, with_waiters}
use Rattle.route_laws.proofs.served.Steps.{answer_all, answer_one, with_tables}
use Rattle.route_laws.proofs.served.Turns.{turn-at, turn-keeps, turn_beside, keys-same, leader-then, turn-dead}
use Rattle.route_laws.proofs.served.Waiters.{name-of-on}
use Rattle.pico_base.specs.declared.reply.Entry.{Entry}
use Rattle.rpc_frame.specs.declared.deed.Parcel.{Parcel}
use Rattle.world_laws.specs.Ways.{IsParcelIn, left as left_in, sent as sent_in, kept as kept_in, at_hand}
use Rattle.waiting_model.specs.declared.callers.Waiting.{Waiting}
use Rattle.entry_laws.specs.Entering.{removed_queue, removed_set}

-- ---- calls

-- a call on a name that isn't a withdrawal is served at once
pub on-served : (name : Name) (pid : ℕ) (call : Call) → is_on name (home_of pid call) ≡ true
    → is_withdrawal call ≡ false → is_served (at_once call) ≡ true
on-served name pid (calls.Withdraw other) h is_call = absurd (false≢true (sym is_call))
on-served name pid (calls.MsgGet None create excl) h is_call = absurd (false≢true h)
on-served name pid (calls.MsgGet (Some key) create excl) h is_call = absurd (false≢true h)
on-served name pid (calls.SemGet None count create excl) h is_call = absurd (false≢true h)
on-served name pid (calls.SemGet (Some key) count create excl) h is_call = absurd (false≢true h)
on-served name pid (calls.Fork block) h is_call = absurd (false≢true h)
on-served name pid (calls.Exit status) h is_call = absurd (false≢true h)
on-served name pid (calls.Killed sig) h is_call = absurd (false≢true h)
on-served name pid (calls.SemOp id steps) h is_call = ap not (steps-wait-not steps)
on-served name pid call h is_call = refl

-- ---- the entry comes first

shorter-has : (w : World) (journal : List Entry) (hand : List Held) (parcel : Parcel)
    → IsParcelIn (record w { journal = journal }) hand parcel → IsParcelIn w hand parcel
shorter-has w journal hand parcel (left_in y there) = left_in y there
shorter-has w journal hand parcel (sent_in y there) = sent_in y there
shorter-has w journal hand parcel (kept_in pid there) = kept_in pid there
shorter-has w journal hand parcel (at_hand there) = at_hand there

-- In the middle of an event an entry is made, and what its lines lead to is to come.
pub forgets : (script : Script) (v : World) (p : ℕ) (s t : Step) (hand : List Held) (owes : Owing) (b : Beside)
    → t.node ≡ s.node → t.sends ≡ s.sends → (entry : Entry) → t.entries ≡ s.entries ++ entry ∷ []
    → HoldsOwing script (world_after v p s) hand owes b → HoldsOwing script (world_after v p t) hand Wakes b
forgets script v p s t hand owes b same_node same_sends entry entries h =
    let w : World = world_after v p s
    in let longer : World = record w { journal = v.journal ++ (s.entries ++ entry ∷ []) }
    in subst (λ (z : World). HoldsOwing script z hand Wakes b)
    (λ i. record {
      script = v.script;
      nodes = set v.nodes (p - 1) (sym same_node i);
      streams = with_all_sent p v.streams (sym same_sends i);
      journal = v.journal ++ sym entries i;
    })
    (record {
      shape = record {
        of_script = h.shape.of_script;
        nodes = h.shape.nodes;
        rows = h.shape.rows;
        row = h.shape.row;
        tries = h.shape.tries;
      };
      history = h.history;
      whole = tt;
      leading = h.leading;
      pids = h.pids;
      nodes = h.nodes;
      frames_fit = h.frames_fit;
      names = h.names;
      calls = h.calls;
      cancels = λ q low high. tt;
      ways = h.ways;
      parcels = λ parcel there. h.parcels parcel (shorter-has w longer.journal hand parcel there);
      kinds = h.kinds;
      few = λ kind.
          let old : length (for_kind (directory_of w).ranges kind)
          ≤ length w.journal + leases_on_way script b.call kind + 1 = h.few kind
          in let a = length-append v.journal s.entries
          in let c = length-append v.journal (s.entries ++ entry ∷ [])
          in let d = length-append s.entries (entry ∷ [])
          in omega (arith, old, a, c, d);
      keys = h.keys;
      families = h.families;
    })

-- ---- the call is served

-- What was carried out, by steps that answer the call and those whom it wakes; the withdrawals and the kernel in which
-- callers wait are to come.
pub record IsReplying (script : Script) (v : World) (p : ℕ) (t : Step) (asked : Asked) (rest : List Held) (b : Beside)
    (name : Name) (left : Body) (reply : Reply) (woken : List Answered) : Type 0 where
  pub beside : Beside
  pub holds : HoldsOwing script (world_after v p t) rest Wakes beside
  pub at : IsAtWork script (world_after v p t) p
  pub lines : beside.lines ≡ b.lines ++ turn_lines p (answered (waiting_as asked) reply ∷ woken)
  pub body_here : beside.body name ≡ left
  pub body_others : (m : Name) → m ≢ name → beside.body m ≡ b.body m
  pub keeps : KeepsRest b beside
  -- those who are woken waited there, and each is carried out; other calls are where they were
  pub among : AreAmong (waiters_of (b.body name)) woken
  pub are_woken : AllByRecursion (IsWoken script name) woken
  pub waited : AllByRecursion (λ a. b.call a.who.caller ≡ Waits name) woken
  pub carried : (y : ℕ) → is_among y (answered (waiting_as asked) reply ∷ woken) ≡ true → CarriedAt p y (beside.call y)
  pub still : (y : ℕ) → is_among y (answered (waiting_as asked) reply ∷ woken) ≡ false → beside.call y ≡ b.call y

not-taken : (y : ℕ) (more : List Answered) (f : ℕ → CallPlace) → is_among y more ≡ false → taken_calls more f y ≡ f y
not-taken y [] f h = refl
not-taken y (a ∷ more) f h =
    let parts = or_parts (nat_eq a.who.caller y) (is_among y more) h
    in not-taken y more (call_in f a.who.caller IsInHand) parts.1 ∙ ap (λ t. if t then IsInHand else f y) parts.0

or-right-false : (a b : Bool) → (a || b) ≡ false → b ≡ false
or-right-false true b h = absurd (false≢true (sym h))
or-right-false false b h = h

module _ (script : Script) (v : World) (p : ℕ) (s : Step) (asked : Asked) (rest : List Held) {owes : Owing} (b : Beside)
    (holds : HoldsOwing script (world_after v p s) (Request asked ∷ rest) owes b)
    (at : IsAtWork script (world_after v p s) p) (asks : IsCallOf script asked) (name : Name)
    (here : b.deed name ≡ InTable p) (on : is_on name (home_of asked.pid asked.call) ≡ true) (d : Applied Body)
    (r : RepliesInTurn name (b.body name) (waiting_as asked) d) (outcome : Outcome) (strikes : Bool) (leader : Leader)
    (directory_is : leader.directory ≡ s.node.leader.directory) where
  abbrev who : Waiting
  who = waiting_as asked

  abbrev own : Answered
  own = answered who r.reply

  abbrev all : List Answered
  all = own ∷ r.woken

  -- the step with the entry
  abbrev pub entered : Step
  entered = enter_with (record s { strikes = strikes }) asked.pid asked.call outcome

  -- and once all have their replies
  abbrev pub replied_all : Step
  replied_all = with_tables (answer_all script entered all) (put_named s.node.deeds name d.left) leader

  holds-entered : HoldsOwing script (world_after v p entered) (Request asked ∷ rest) Wakes b
  holds-entered =
      forgets script v p s entered (Request asked ∷ rest) owes b refl refl _ refl holds

  taken : AllTaken script v p entered s.node.deeds s.node.leader
      ((Request asked ∷ []) ++ (requests r.woken ++ rest)) b name r.woken
      (with_waiters (b.body name) (waiters_of d.left))
  taken =
      take-all script v p rest name entered s.node.deeds s.node.leader (waiters_of d.left) r.woken (Request asked ∷ [])
      b (b.body name) s.node.deeds refl (λ other e. refl) holds-entered
      (record { low = at.low; high = at.high; born = at.born }) here r.takes

  woken-facts : AllByRecursion (IsWoken script name) r.woken
      × AllByRecursion (λ a. b.call a.who.caller ≡ Waits name) r.woken
  woken-facts =
      woken-all script (world_after v p s) (Request asked ∷ rest) b holds name r.woken
      (takes-among (waiters_of (b.body name)) r.woken (waiters_of d.left) r.takes)

  abbrev first : Body
  first = r.lines.0

  deed-here : taken.beside.deed name ≡ InTable p
  deed-here = ap (λ deed. deed name) taken.keeps.deed ∙ here

  named : name_for who.pid who.call ≡ Some name
  named = name-of-on name asked.pid (home_of asked.pid asked.call) on

  not-own : is_own who.pid who.call ≡ false
  not-own = on-not-own name (home_of asked.pid asked.call) on

  served : is_served (at_once who.call) ≡ true
  served = on-served name asked.pid asked.call on asks.is_call

  does : DoesLine name (bare (taken.beside.body name)) (line who.pid who.call r.reply) (bare first)
  does =
      subst (λ body. DoesLine name (bare body) (line who.pid who.call r.reply) (bare first)) (sym taken.body_here)
      r.lines.1

  same-waiters : waiters_of first ≡ waiters_of (taken.beside.body name)
  same-waiters = r.lines.2 ∙ sym r.room ∙ ap waiters_of (sym taken.body_here)

  puts : PutsBody taken.table (put_named s.node.deeds name first) name first
  puts =
      record {
        here = get-put-same-name s.node.deeds name first;
        others = λ m other. get-put-other-name s.node.deeds name first m other ∙ sym (taken.agrees m other);
      }

  -- the world once the caller has its reply
  abbrev pub first_world : World
  first_world = world_after v p (with_tables (answer_one script entered own) (put_named s.node.deeds name first) leader)

  -- A call that removes nothing leaves the keys;
  pub keys-left : leader ≡ s.node.leader → removed_queue asked.call ≡ None → removed_set asked.call ≡ None
      → KeysFollow asked.call b.kernel (node_of first_world 1).leader
  keys-left same no_queue no_set =
      subst (λ k. KeysFollow asked.call k (node_of first_world 1).leader) taken.kernel
      (keys-same script v p entered taken.table s.node.leader own (requests r.woken ++ rest) taken.beside taken.holds
      taken.at asks name deed-here named served not-own first does same-waiters (put_named s.node.deeds name first)
      puts leader directory_is same no_queue no_set)

  -- and where it is the leader's event it has these.
  pub leader-first : p ≡ 1 → (node_of first_world 1).leader ≡ leader
  leader-first is =
      leader-then script v p entered taken.table s.node.leader own (requests r.woken ++ rest) taken.beside taken.holds
      taken.at asks name deed-here named served not-own first does same-waiters (put_named s.node.deeds name first)
      puts leader directory_is is

  module _ (keys_follow : KeysFollow asked.call b.kernel (node_of first_world 1).leader) where
    keys : KeysFollow asked.call taken.beside.kernel (node_of first_world 1).leader
    keys = subst (λ k. KeysFollow asked.call k (node_of first_world 1).leader) (sym taken.kernel) keys_follow

    abbrev b1 : Beside
    b1 =
        turn_beside script v p entered taken.table s.node.leader own (requests r.woken ++ rest) taken.beside taken.holds
        taken.at asks name deed-here named served not-own first does same-waiters (put_named s.node.deeds name first)
        puts leader directory_is keys

    others : Turned script v p replied_all rest b1 name r.woken d.left
    others =
        all-turns script v p rest name s.node.deeds leader (waiters_of d.left) d.left r.woken
        (answer_one script entered own) b1 first
        (ap (λ t. if t then first else taken.beside.body name) (same-name name))
        (turn-keeps script v p entered taken.table s.node.leader own (requests r.woken ++ rest) taken.beside taken.holds
        taken.at asks name deed-here named served not-own first does same-waiters (put_named s.node.deeds name first)
        puts leader directory_is keys)
        (turn-at script v p entered taken.table s.node.leader own (requests r.woken ++ rest) taken.beside taken.holds
        taken.at asks name deed-here named served not-own first does same-waiters (put_named s.node.deeds name first)
        puts leader directory_is)
        deed-here woken-facts.0 r.lines.2 r.lines.3

    call-is : others.beside.call ≡ calls_by p all (taken_calls r.woken b.call)
    call-is = others.call ∙ ap (calls_by p all) taken.call

    -- All of them have their replies.
    pub is-replying : IsReplying script v p replied_all asked rest b name d.left r.reply r.woken
    is-replying =
        record {
          beside = others.beside;
          holds = others.holds;
          at = others.at;
          lines = others.lines
              ∙ ap (λ ls. (ls ++ line_of p asked.pid asked.call r.reply ∷ []) ++ turn_lines p r.woken) taken.lines
              ∙ append_assoc b.lines (line_of p asked.pid asked.call r.reply ∷ []) (turn_lines p r.woken);
          body_here = others.body_here;
          body_others = λ m other. others.body_others m other
              ∙ ap (λ t. if t then first else taken.beside.body m) (other-name name m other)
              ∙ taken.body_others m other;
          keeps = keeps-both b b1 others.beside
              (keeps-both b taken.beside b1 taken.keeps
              (record {
                pids = refl;
                deed = refl;
                whole = refl;
                cancel = refl;
                dead = turn-dead script v p entered taken.table s.node.leader own (requests r.woken ++ rest)
                    taken.beside
                    taken.holds taken.at asks name deed-here named served not-own first does same-waiters
                    (put_named s.node.deeds name first) puts leader directory_is keys;
              })) others.keeps;
          among = takes-among (waiters_of (b.body name)) r.woken (waiters_of d.left) r.takes;
          are_woken = woken-facts.0;
          waited = woken-facts.1;
          carried = λ y h. subst (CarriedAt p y) (ap (λ f. f y) (sym call-is))
              (these-carried p y all (taken_calls r.woken b.call) h);
          still = λ y h. ap (λ f. f y) call-is ∙ others-there p y all (taken_calls r.woken b.call) h
              ∙ not-taken y r.woken b.call (or-right-false (nat_eq asked.caller y) (is_among y r.woken) h);
        }
