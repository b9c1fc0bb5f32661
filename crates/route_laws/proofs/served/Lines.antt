-- In the middle of an event, while the withdrawals and the kernel in which callers wait are to come last: the first
-- call of the hand is carried out, by one line, on a name that the node holds, and has its reply.
use Rattle.std.proofs.Common.{◌≡◌, ◌≢◌, ℕ, Bool, true, false, if◌then◌else◌, List, [], ◌∷◌, ◌++◌, nat_eq, Some, None, refl, ap, sym, subst, ◌∙◌, inl, inr, filter}
use Rattle.std.proofs.lemmas.Bool.{false≢true, cases_eq}
use Rattle.pico_base.specs.declared.call.Call.{Call}
use Rattle.pico_base.specs.declared.call.Call.TheVariants as calls
use Rattle.pico_base.specs.declared.numbers.Name.{Name}
use Rattle.pico_base.specs.declared.numbers.Name.TheVariants.{Proc}
use Rattle.pico_base.specs.declared.reply.Reply.{Reply}
use Rattle.pico_base.specs.declared.script.Script.{Script}
use Rattle.rpc_frame.specs.declared.asked.Asked.{Asked}
use Rattle.number_maps.specs.Maps.{get}
use Rattle.kernel_model.specs.Fitting.{Place, is_waitpid, places_after}
use Rattle.kernel_model.specs.Kernel.{Kernel, living_at}
use Rattle.kernel_model.specs.SetCalls.{set_size}
use Rattle.waiting_model.specs.Linear.{at_once, line_of}
use Rattle.node_model.specs.declared.held.Held.{Held}
use Rattle.node_model.specs.declared.held.Held.TheVariants.{Request}
use Rattle.node_model.specs.Bodies.{Body, Deeds, bare, body_in, is_living_body, waiters_of}
use Rattle.node_model.specs.Caller.{caller_place}
use Rattle.node_model.specs.Carrying.{Done, is_own, is_served}
use Rattle.node_model.specs.Entries.{entry_by}
use Rattle.node_model.specs.Kinds.{get_named}
use Rattle.node_model.specs.Serving.{name_for}
use Rattle.world_model.specs.Node.{Leader, Node, is_node}
use Rattle.world_model.specs.World.{World}
use Rattle.serve_laws.specs.Laws.{is_found}
use Rattle.serve_laws.specs.Served.{BreaksOff, Counts, Does, DoesLine, Line, line}
use Rattle.entry_laws.specs.Entering.{MayMake, removed_queue, removed_set, unless_removed}
use Rattle.entry_laws.proofs.History.{history-goes-on, moved-is, place-moves}
use Rattle.entry_laws.proofs.Keys.{keys-kept}
use Rattle.entry_laws.proofs.Kin.{lined-kind}
use Rattle.entry_laws.proofs.Lined.{Lined, lined}
use Rattle.entry_laws.proofs.Names.{other-name, same-name}
use Rattle.entry_laws.proofs.Numbers.{used-kept}
use Rattle.entry_laws.proofs.Replies.{body-none, finds, none-found}
use Rattle.world_laws.specs.Places.{InTable, InCheckpoint, Beside, body_put, call_in}
use Rattle.world_laws.specs.Sights.{node_of, directory_of, is_born_in}
use Rattle.world_laws.specs.Names.{NameHolds, held_as, name_sight}
use Rattle.world_laws.specs.Cancels.{Wakes}
use Rattle.world_laws.specs.Ranges.{KeysHold}
use Rattle.world_laws.specs.Families.{NodeHolds}
use Rattle.world_laws.specs.Invariant.{HoldsOwing}
use Rattle.world_laws.proofs.Changes.{Changes, read-same}
use Rattle.world_laws.proofs.Named.{name-cases}
use Rattle.world_laws.proofs.NameFacts.{held-here}
use Rattle.rule_laws.proofs.CallMoves.{same-but-call}
use Rattle.rule_laws.proofs.own.Entries.{EntryLeaves, StillLives, others-go-on}
use Rattle.rule_laws.proofs.own.Rebodied.{IsBodyOf}
use Rattle.rule_laws.proofs.own.Served.{served-leaves}
use Rattle.route_laws.proofs.hand.Answering.{IsPlainCall, due-in-hand, has-history, may-make-in-hand, place-in-hand, served-plain}
use Rattle.route_laws.proofs.hand.HandMoves.{IsCallOf, held-for-none}
use Rattle.route_laws.proofs.served.Nodes.{PutsBody, bare-lives, node-puts, node_with, parts-live}
use Rattle.route_laws.proofs.served.Replies.{IsAtWork, IsReplied, Then, beside_then, caller_by, name-changed, name-not-changed, place_by, replied-all, sends_by}
use Rattle.std.specs.List.{AllByRecursion}
use Rattle.node_model.specs.Directory.{held_for}
use Rattle.world_laws.specs.Callers.{is_item_about}
use Rattle.kernel_model.specs.Row.{Alive}

-- ---- keys

-- These are the leader's keys once the call has been carried out: no key leads to what it removes.
abbrev pub KeysFollow : Call → Kernel → Leader → Type 0
KeysFollow call k leader =
    (next : Kernel)
    → ((key : ℕ) → get next.queue_keys key ≡ unless_removed (removed_queue call) (get k.queue_keys key))
    → ((key : ℕ) → get next.set_keys key ≡ unless_removed (removed_set call) (get k.set_keys key))
    → ((key id : ℕ) → get next.set_keys key ≡ Some id → set_size next id ≡ set_size k id)
    → KeysHold leader next

-- a call that removes nothing leaves them
pub keys-stay : (call : Call) (k : Kernel) (leader : Leader) → removed_queue call ≡ None → removed_set call ≡ None
    → KeysHold leader k → KeysFollow call k leader
keys-stay call k leader no_queue no_set h = λ next queues sets sizes.
    (let sets_are : (key : ℕ) → get next.set_keys key ≡ get k.set_keys key =
    λ key. sets key ∙ ap (λ o. unless_removed o (get k.set_keys key)) no_set
    in keys-kept leader.queue_keys leader.set_keys k next
    (record {
      queues = λ key. queues key ∙ ap (λ o. unless_removed o (get k.queue_keys key)) no_queue;
      sets = sets_are;
      sizes = λ key id bound. sizes key id (sets_are key ∙ bound);
    })
    h)

-- ---- replies

at-once-waits : (call : Call) → is_waitpid (at_once call) ≡ is_waitpid call
at-once-waits (calls.WaitPid child nohang) = refl
at-once-waits (calls.MsgSnd id class text nowait) = refl
at-once-waits (calls.MsgRcv id class size noerror nowait) = refl
at-once-waits (calls.SemOp id steps) = refl
at-once-waits call = refl

-- a call on another name than its own process waits for no child
not-for-child : (pid : ℕ) (call : Call) → is_own pid call ≡ false → is_waitpid call ≡ false
not-for-child pid (calls.WaitPid child nohang) h = absurd (false≢true (sym h))
not-for-child pid call h = refl

-- so it finds none
pub line-finds-none : (name : Name) (before after : Body) (l : Line) → is_own l.pid l.call ≡ false
    → DoesLine name before l after → finds l.reply ≡ false
line-finds-none name before after l other (Does d is left_is reply_is) =
    ap finds (sym (ap (λ (x : Done Body). x.reply) is ∙ reply_is))
    ∙ body-none name before l.pid (at_once l.call) (at-once-waits l.call ∙ not-for-child l.pid l.call other)
line-finds-none name before after l other (Counts n counts reply_is is) = ap finds reply_is
line-finds-none name before after l other (BreaksOff parks reply_is same) = ap finds reply_is

none-is-some : (a : Alive) → None ≡ Some a → ⊥
none-is-some a h = cc

table-or-checkpoint : (node to : ℕ) → InTable node ≡ InCheckpoint to → ⊥
table-or-checkpoint node to h = cc

-- ---- the line

module _ (script : Script) (w : World) (p : ℕ) (at : IsAtWork script w p) (asked : Asked) (rest : List Held)
    (b : Beside)
    (holds : HoldsOwing script w (Request asked ∷ rest) Wakes b) (asks : IsCallOf script asked) (own : Bool)
    (is_mine : nat_eq asked.caller p ≡ own) (node : ℕ) (name : Name) (here : b.deed name ≡ InTable p)
    (named : name_for asked.pid asked.call ≡ Some name) (served : is_served (at_once asked.call) ≡ true)
    (not_own : is_own asked.pid asked.call ≡ false) (reply : Reply) (next : Body)
    (does : DoesLine name (bare (b.body name)) (line asked.pid asked.call reply) (bare next))
    (same_waiters : waiters_of next ≡ waiters_of (b.body name)) (deeds : Deeds)
    (puts : PutsBody (node_of w p).deeds deeds name next) (leader : Leader)
    (directory_is : leader.directory ≡ (node_of w p).leader.directory) (w' : World)
    (keys : KeysFollow asked.call b.kernel (node_of w' 1).leader)
    (c : Changes script p w w'
    (node_with (node_of w p) (caller_by script own asked reply (node_of w p).caller) deeds leader) []
    (sends_by own asked reply) []) where
  abbrev n : Node
  n = node_of w p

  abbrev hand : List Held
  hand = Request asked ∷ rest

  abbrev after_node : Node
  after_node = node_with n (caller_by script own asked reply n.caller) deeds leader

  name-holds : NameHolds script b.pids (is_born_in w) name (name_sight script w hand b name)
  name-holds = holds.names name

  may : MayMake b.kernel asked.pid asked.call
  may = may-make-in-hand script w asked rest b holds asks

  abbrev l : Line
  l = line asked.pid asked.call reply

  pub leads : Lined b.kernel name l (bare next)
  leads =
      lined b.kernel name l (bare next) may served named
      (subst (λ v. DoesLine name v l (bare next)) name-holds.parts does)

  -- the kernel then
  abbrev pub kernel_then : Kernel
  kernel_then = leads.next

  not-found : (m : Name) → is_found reply m ≡ false
  not-found m = none-found reply (line-finds-none name (bare (b.body name)) (bare next) l not_own does) m

  body-elsewhere : (m : Name) → m ≢ name → body_in kernel_then m ≡ body_in b.kernel m
  body-elsewhere m d = leads.others m d (not-found m)

  abbrev was : Place
  was = caller_place script asked.caller (node_of w asked.caller).caller

  -- what stands beside the world then
  abbrev pub after_line : Then
  after_line =
      record {
        lines = b.lines ++ line_of node asked.pid asked.call reply ∷ [];
        kernel = kernel_then;
        places = places_after script b.places (entry_by node asked.pid asked.call reply) was;
        whole = b.whole;
        deed = b.deed;
        body = body_put b.body name next;
        cancel = b.cancel;
      }

  abbrev pub line_beside : Beside
  line_beside = beside_then b (call_in b.call asked.caller (place_by own p reply)) after_line

  body-here : after_line.body name ≡ next
  body-here = ap (λ t. if t then next else b.body name) (same-name name)

  body-other : (m : Name) → m ≢ name → after_line.body m ≡ b.body m
  body-other m d = ap (λ t. if t then next else b.body m) (other-name name m d)

  held : get_named n.deeds name ≡ Some (b.body name)
  held = name-holds.tables p ∙ ap (λ d. held_as d (b.body name) p) here ∙ held-here p (b.body name)

  parts-then : bare next ≡ body_in kernel_then name
  parts-then = sym leads.there

  lives : is_living_body next ≡ is_living_body (b.body name)
  lives =
      sym (bare-lives next) ∙ ap is_living_body parts-then
      ∙ parts-live b.kernel kernel_then
      (lined-kind b.kernel name l (bare next) leads
      (line-finds-none name (bare (b.body name)) (bare next) l not_own does)) name
      ∙ ap is_living_body (sym name-holds.parts) ∙ bare-lives (b.body name)

  node-now : NodeHolds script b.pids (is_born_in w) p after_node
  node-now =
      node-puts script b.pids (is_born_in w) p n (holds.nodes p at.low at.high) name (b.body name) next held deeds puts
      lives (caller_by script own asked reply n.caller) leader

  same-directory-now : directory_of w' ≡ directory_of w
  same-directory-now =
      read-same script p w w' after_node [] (sends_by own asked reply) [] c (λ (m : Node). m.leader.directory)
      directory_is 1

  plain : IsPlainCall asked.call
  plain = served-plain asked.call served

  there : get b.places asked.pid ≡ Some was
  there = place-in-hand script w asked rest b holds asks

  leaves : EntryLeaves b.kernel b.places asked.pid kernel_then after_line.places
  leaves =
      served-leaves b.kernel name l (bare next) may leads served named script b.places node asked.caller
      (node_of w asked.caller).caller there (due-in-hand script w asked rest b holds asks)

  waiters-now : (m : Name) → waiters_of (after_line.body m) ≡ waiters_of (b.body m)
  waiters-now m =
      elim (name-cases m name) [
        | inl e ↦
            subst (λ z. waiters_of (after_line.body z) ≡ waiters_of (b.body z)) (sym e)
            (ap waiters_of body-here ∙ same_waiters)
        | inr d ↦ ap waiters_of (body-other m d)
      ]

  replied : IsReplied script w w' asked rest Wakes Wakes b after_line p after_node own reply
  replied =
      record {
        leaves = leaves;
        history = history-goes-on script b.lines b.kernel b.places node asked.pid asked.call reply was kernel_then
            (has-history script w asked rest b holds asks) there (due-in-hand script w asked rest b holds asks)
            leads.enters.makes;
        place_is = place-moves script b.places node asked.pid asked.call reply was plain.no_fork
            ∙ ap Some (moved-is was asked.call (Some reply) plain.not_killed);
        number = refl;
        pid = refl;
        stage = refl;
        leases = refl;
        caller = refl;
        node = node-now;
        keys = keys kernel_then leads.queue_keys leads.set_keys leads.sizes;
        directory = same-but-call asked.caller (directory_of w) (directory_of w') same-directory-now holds.leading;
        none_held = λ m. ap (λ d. filter (is_item_about asked.caller) (held_for d m)) same-directory-now
            ∙ held-for-none script w asked rest b holds asks m;
        awaited = λ q to e. body-elsewhere (Proc q)
            (λ same. table-or-checkpoint p to (sym here ∙ ap b.deed (sym same) ∙ e));
        deeds = λ q. refl;
        waiters = waiters-now;
        makers_stay = λ m maker unused used. absurd (false≢true (sym unused
            ∙ sym (used-kept b.kernel asked.pid asked.call reply kernel_then leads.enters m) ∙ used));
        whole = λ h. tt;
        cancel_of_others = λ y d. refl;
        owed_of_others = λ y d same h. tt;
      }

  body-of : IsBodyOf script (body_in kernel_then name) (after_line.body name)
  body-of =
      record {
        parts = ap bare body-here ∙ parts-then;
        callers = subst (λ us. AllByRecursion (λ u. is_node script u.caller ≡ true) us) (sym (waiters-now name))
            name-holds.callers;
      }

  name-then : (m : Name) → NameHolds script b.pids (is_born_in w') m (name_sight script w' rest line_beside m)
  name-then m =
      elim (name-cases m name) [
        | inr d ↦
            name-not-changed script w asked rest b holds asks p at own is_mine reply Wakes after_line after_node [] w'
            replied c same-directory-now leads.enters.used (λ other. refl) m (body-elsewhere m d) (body-other m d)
            (puts.others m d)
        | inl e ↦
            name-changed script w asked rest b holds asks p at own is_mine reply Wakes after_line after_node [] w'
            replied c same-directory-now leads.enters.used (λ other. refl) m (ap b.deed e ∙ here)
            (ap (get_named deeds) e ∙ puts.here ∙ ap Some (sym (ap after_line.body e ∙ body-here)))
            (subst (λ z. IsBodyOf script (body_in kernel_then z) (after_line.body z)) (sym e) body-of)
      ]

  -- Who doesn't live doesn't live then.
  pub line-dead : (q : ℕ) → living_at b.kernel q ≡ None → living_at kernel_then q ≡ None
  line-dead q dead =
      elim (cases_eq q asked.pid) [
        | inl e ↦ absurd (none-is-some may.alive (sym dead ∙ ap (living_at b.kernel) e ∙ may.lives))
        | inr d ↦
            let on : StillLives (living_at b.kernel q) (living_at kernel_then q) =
            others-go-on b.kernel kernel_then b.places after_line.places asked.pid leaves q d
            in on.dead dead
      ]

  -- All holds with its reply.
  pub line-keeps : HoldsOwing script w' rest Wakes line_beside
  line-keeps =
      replied-all script w asked rest b holds asks p at own is_mine reply Wakes after_line after_node [] w' replied c
      same-directory-now leads.enters.used (λ other. refl) tt name-then
