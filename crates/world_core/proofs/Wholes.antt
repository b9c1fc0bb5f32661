-- Nodes none of which is spent, and what a turn of one of them makes.
use Rattle.std.proofs.Common.{◌≡◌, ℕ, ◌-◌, ◌<◌, suc, zero, Bool, false, List, [], ◌∷◌, ◌++◌, length, map, set, get_or, slice_get, Option, Some, None, IsSome, IfSome, refl, sym, ap, subst, ◌∙◌, arith, length-set}
use Rattle.std.proofs.lemmas.List.{get_or_read, length-map, map-set}
use Rattle.pico_base.specs.declared.script.Script.{Script}
use Rattle.pico_base.specs.declared.script.Event.{Event}
use Rattle.pico_base.specs.declared.script.Event.TheVariants as events
use Rattle.pico_base.specs.declared.reply.Entry.{Entry}
use Rattle.rpc_frame.specs.declared.frame.Frame.{Frame}
use Rattle.world_model.specs.Node.{Node, can_run, is_born}
use Rattle.world_model.specs.Step.{Step}
use Rattle.world_model.specs.Turn.{take_frame}
use Rattle.world_model.specs.World.{World, Streams, node_at, stream, with_stream, with_all_sent, after_turn, runs_at, takes_at, is_run_enabled, is_take_enabled}
use Rattle.node_core.specs.declared.turn.Input.{Input}
use Rattle.node_core.specs.declared.turn.Input.TheVariants as inputs
use Rattle.node_core.specs.declared.turn.Turn.{Turn}
use Rattle.world_core.specs.declared.state.State.{State}
use Rattle.world_core.specs.Inbox.{IsTaken, may_take}
use Rattle.node_core.specs.Turns.{IsTurn, IsTurnOnto}
use Rattle.node_core.proofs.Turned.{step_of-run, step_of-take}
use Rattle.world_core.specs.State.{whole, AreWhole, AreSeats, AreCounted, world_of, IsSent, IsAfterTurn, IsStep}

-- of nodes that are all there, none is left out
pub whole-map : (xs : List Node) → whole (map Some xs) ≡ xs
whole-map [] = refl
whole-map (x ∷ xs) = ap (λ (l : List Node). x ∷ l) (whole-map xs)

-- of nodes that are all there, none is spent
pub AreWhole-map : (xs : List Node) → AreWhole (map Some xs)
AreWhole-map xs = sym (ap (λ (l : List Node). map Some l) (whole-map xs))

-- where no node is spent, there are as many as places
pub length-whole : (ns : List (Option Node)) → AreWhole ns → length (whole ns) ≡ length ns
length-whole ns all = sym (length-map (whole ns) Some) ∙ sym (ap length all)

slice_get-some : (xs : List Node) (i : ℕ) → slice_get xs i ≡ get_or (map Some xs) i None
slice_get-some [] i = refl
slice_get-some (x ∷ xs) zero = refl
slice_get-some (x ∷ xs) (suc i) = slice_get-some xs i

-- where no node is spent, each is found at its place
pub slice_get-whole : (ns : List (Option Node)) (i : ℕ) → AreWhole ns → slice_get (whole ns) i ≡ get_or ns i None
slice_get-whole ns i all = slice_get-some (whole ns) i ∙ sym (ap (λ (l : List (Option Node)). get_or l i None) all)

some_at : (xs : List Node) (i : ℕ) → i < length (map Some xs) → IsSome (get_or (map Some xs) i None)
some_at [] i h = absurd (omega arith)
some_at (x ∷ xs) zero h = refl
some_at (x ∷ xs) (suc i) h = some_at xs i (omega arith)

-- where no node is spent, there is one at each place
pub whole_at : (ns : List (Option Node)) (i : ℕ) → AreWhole ns → i < length ns → IsSome (get_or ns i None)
whole_at ns i all h =
    let P : List (Option Node) → Type 0 = λ l. i < length l → IsSome (get_or l i None)
    in subst P (sym all) (some_at (whole ns) i) h

-- whether the node at a place can run is whether its run is enabled
pub may_run-at : (slot o : Option Node) (r : Bool)
    → o ≡ slot → IsSome slot → IfSome slot (λ n. r ≡ can_run n) → r ≡ is_run_enabled o
may_run-at None o r same some e = absurd (let f : ⊥ = cc in f)
may_run-at (Some n) o r same some e = e ∙ sym (ap is_run_enabled same)

-- a node may take a frame just where that is enabled
pub take_enabled : (n : Node) (fs : List Frame) → may_take (is_born n) fs ≡ is_take_enabled (Some n) fs
take_enabled n [] = refl
take_enabled n (f ∷ fs) = refl

-- whether the node at a place may take a frame is whether that is enabled
pub may_take-at : (slot o : Option Node) (r b : Bool) (fs : List Frame)
    → o ≡ slot → IsSome slot → IfSome slot (λ n. b ≡ is_born n) → r ≡ may_take b fs → r ≡ is_take_enabled o fs
may_take-at None o r b fs same some born e = absurd (let f : ⊥ = cc in f)
may_take-at (Some n) o r b fs same some born e =
    e ∙ ap (λ (x : Bool). may_take x fs) born ∙ take_enabled n fs
    ∙ sym (ap (λ (x : Option Node). is_take_enabled x fs) same)

pub take_nothing : (o : Option Node) (fs : List Frame) → fs ≡ [] → false ≡ is_take_enabled o fs
take_nothing None fs e = refl
take_nothing (Some n) fs e = sym (ap (λ (l : List Frame). is_take_enabled (Some n) l) e)

-- a node is there with another state
pub AreWhole-set : (ns : List (Option Node)) (i : ℕ) (m : Node) → AreWhole ns → AreWhole (set ns i (Some m))
AreWhole-set ns i m all =
    let made : set ns i (Some m) ≡ map Some (set (whole ns) i m) =
    ap (λ (l : List (Option Node)). set l i (Some m)) all ∙ sym (map-set Some (whole ns) i m)
    in subst AreWhole (sym made) (AreWhole-map (set (whole ns) i m))

pub whole-set : (ns : List (Option Node)) (i : ℕ) (m : Node) → AreWhole ns
    → whole (set ns i (Some m)) ≡ set (whole ns) i m
whole-set ns i m all =
    ap (λ (l : List (Option Node)). whole (set l i (Some m))) all
    ∙ ap whole (sym (map-set Some (whole ns) i m)) ∙ whole-map (set (whole ns) i m)

-- worlds whose parts are the same are the same
pub same_world : (script other : Script) (nodes nodes' : List Node) (streams streams' : Streams)
    (journal journal' : List Entry)
    → script ≡ other → nodes ≡ nodes' → streams ≡ streams' → journal ≡ journal'
    → ◌≡◌ {A = World} (record { script = script; nodes = nodes; streams = streams; journal = journal })
    (record { script = other; nodes = nodes'; streams = streams'; journal = journal' })
same_world script other nodes nodes' streams streams' journal journal' a b c d = cc

-- a state with the node, sends and entries of a turn is the one after that turn
pub turn_taken : (s next : State) (p k : ℕ) (input : Input) (turn : Turn) (old new : Option Node)
    → AreWhole s.nodes.items → k ≡ p - 1 → k < length s.nodes.items → old ≡ get_or s.nodes.items k old
    → IsTurn s.script old input new turn → next.script ≡ s.script
    → next.nodes.items ≡ set s.nodes.items k new
    → next.inboxes.items ≡ with_all_sent p s.inboxes.items turn.sends
    → next.made.entries ≡ s.made.entries ++ turn.entries → AreCounted next → IsAfterTurn s p input next
turn_taken s next p k input turn None new all place lt old_is is_turn script nodes streams journal counted =
    absurd is_turn
turn_taken s next p k input turn (Some n) None all place lt old_is is_turn script nodes streams journal counted =
    absurd is_turn
turn_taken s next p k input turn (Some n) (Some m) all place lt old_is is_turn script nodes streams journal counted =
    let here : slice_get (whole s.nodes.items) k ≡ Some n =
    slice_get-whole s.nodes.items k all ∙ sym (get_or_read s.nodes.items k (Some n) lt old_is None)
    in let there : next.nodes.items ≡ set s.nodes.items (p - 1) (Some m) =
    nodes ∙ ap (λ (i : ℕ). set s.nodes.items i (Some m)) place
    in record {
      counted = counted;
      nodes = subst AreWhole (sym there) (AreWhole-set s.nodes.items (p - 1) m all);
      node = n;
      here = ap (λ (i : ℕ). slice_get (whole s.nodes.items) i) (sym place) ∙ here;
      taken =
          ap (λ (t : Option Step). after_turn (world_of s) p t) is_turn.1
          ∙ ap (λ (w : World). Some w)
          (same_world s.script next.script (set (whole s.nodes.items) (p - 1) m) (whole next.nodes.items)
          (with_all_sent p s.inboxes.items turn.sends) next.inboxes.items (s.made.entries ++ turn.entries)
          next.made.entries (sym script)
          (sym (ap whole there ∙ whole-set s.nodes.items (p - 1) m all)) (sym streams) (sym journal));
    }

-- The same where the turn's entries follow in the journal, and then its frames go their ways.
pub turn_handed : (s mid next : State) (p k : ℕ) (input : Input) (before : Turn) (old new : Option Node)
    → AreWhole s.nodes.items → k ≡ p - 1 → k < length s.nodes.items → old ≡ get_or s.nodes.items k old
    → before.entries ≡ s.made.entries → before.sends ≡ []
    → IsTurnOnto s.script old input new before mid.made
    → mid.script ≡ s.script → mid.nodes.items ≡ set s.nodes.items k new → mid.inboxes ≡ s.inboxes
    → IsSent mid p next → IsAfterTurn s p input next
turn_handed s mid next p k input before old new all place lt old_is entries no_sends onto script nodes inboxes sent =
    turn_taken s next p k input onto.turn old new all place lt old_is onto.taken (sent.script ∙ script)
    (ap (λ (v : _). v.items) sent.nodes ∙ nodes)
    (sent.streams ∙ ap (λ (v : _). with_all_sent p v.items mid.made.sends) inboxes
    ∙ ap (with_all_sent p s.inboxes.items)
    (onto.sends ∙ ap (λ (l : List (ℕ × Frame)). l ++ onto.turn.sends) no_sends))
    (sent.entries ∙ onto.entries ∙ ap (λ (l : List Entry). l ++ onto.turn.entries) entries)
    sent.counted

-- a turn leaves its node there
pub seats-turn : (ns : List (Option Node)) (streams : Streams) (k : ℕ) (script : Script) (input : Input) (turn : Turn)
    (old new : Option Node) → AreSeats ns streams → IsTurn script old input new turn → AreSeats (set ns k new) streams
seats-turn ns streams k script input turn None new seats is_turn = absurd is_turn
seats-turn ns streams k script input turn (Some n) None seats is_turn = absurd is_turn
seats-turn ns streams k script input turn (Some n) (Some m) seats is_turn =
    let same = length-set ns k (Some m) in
    record {
      whole = AreWhole-set ns k m seats.whole;
      few = omega (arith, seats.few);
      width = seats.width ∙ sym same;
      square = seats.square;
    }

-- a turn without a frame is a run
pub step_run : (s next : State) (p : ℕ) → IsAfterTurn s p inputs.Run next → IsStep s (events.Run p) next
step_run s next p turned = record {
  counted = turned.counted;
  nodes = turned.nodes;
  taken =
      ap (λ (o : Option Node). runs_at (world_of s) p o) turned.here
      ∙ ap (λ (t : Option Step). after_turn (world_of s) p t) (sym (step_of-run s.script turned.node)) ∙ turned.taken;
}

-- the frame was taken, and then the node had its turn
pub step_take : (s mid next : State) (p from k : ℕ) (frame : Frame) (row new : List (List Frame))
    → k ≡ p - 1 → k < length s.inboxes.items → row ≡ get_or s.inboxes.items k row → IsTaken row from (Some frame) new
    → mid.script ≡ s.script → mid.nodes ≡ s.nodes → mid.made.entries ≡ s.made.entries
    → mid.inboxes.items ≡ set s.inboxes.items k new
    → IsAfterTurn mid p (inputs.Take from frame) next → IsStep s (events.Take p from) next
step_take s mid next p from k frame row new place lt row_is taken script nodes journal inboxes turned =
    let streams = s.inboxes.items in
    let at : row ≡ get_or streams (p - 1) [] =
    get_or_read streams k row lt row_is [] ∙ ap (λ (i : ℕ). get_or streams i []) place in
    let fs = taken.0 in
    let first : stream (world_of s) p from ≡ frame ∷ fs =
    ap (λ (l : List (List Frame)). get_or l (from - 1) []) (sym at) ∙ taken.1 in
    let left : mid.inboxes.items ≡ with_stream streams p from fs =
    inboxes ∙ ap (λ (l : List (List Frame)). set streams k l)
    (taken.2 ∙ ap (λ (l : List (List Frame)). set l (from - 1) fs) at)
    ∙ ap (λ (i : ℕ). set streams i (set (get_or streams (p - 1) []) (from - 1) fs)) place in
    let here : node_at (world_of s) p ≡ Some turned.node =
    ap (λ (ns : List (Option Node)). slice_get (whole ns) (p - 1)) (sym (ap (λ (v : _). v.items) nodes))
    ∙ turned.here in
    let between : world_of mid ≡ record (world_of s) { streams = with_stream streams p from fs } =
    same_world mid.script s.script (whole mid.nodes.items) (whole s.nodes.items) mid.inboxes.items
    (with_stream streams p from fs)
    mid.made.entries s.made.entries script (ap (λ (v : _). whole v.items) nodes) left journal in
    record {
      counted = turned.counted;
      nodes = turned.nodes;
      taken =
          ap (λ (o : Option Node). takes_at (world_of s) p from o (stream (world_of s) p from)) here
          ∙ ap (λ (l : List Frame). takes_at (world_of s) p from (Some turned.node) l) first
          ∙ ap (λ (w : World). after_turn w p (take_frame s.script turned.node from frame)) (sym between)
          ∙ ap (λ (sc : Script). after_turn (world_of mid) p (take_frame sc turned.node from frame)) (sym script)
          ∙ ap (λ (t : Option Step). after_turn (world_of mid) p t)
          (sym (step_of-take mid.script turned.node from frame))
          ∙ turned.taken;
    }

-- a node's turn without a frame carries out its run
pub run_steps : (s next : State) (e : Event) (p : ℕ) → e ≡ events.Run p → IsAfterTurn s p inputs.Run next
    → IsStep s e next
run_steps s next e p is turned = subst (λ (x : Event). IsStep s x next) (sym is) (step_run s next p turned)

-- a node's turn with a frame that is off its stream carries out the taking of it
pub take_steps : (s mid next : State) (e : Event) (p from k : ℕ) (frame : Frame) (row new : List (List Frame))
    → e ≡ events.Take p from → k ≡ p - 1 → k < length s.inboxes.items → row ≡ get_or s.inboxes.items k row
    → IsTaken row from (Some frame) new
    → mid.script ≡ s.script → mid.nodes ≡ s.nodes → mid.made.entries ≡ s.made.entries
    → mid.inboxes.items ≡ set s.inboxes.items k new
    → IsAfterTurn mid p (inputs.Take from frame) next → IsStep s e next
take_steps s mid next e p from k frame row new is place lt row_is taken script nodes journal inboxes turned =
    subst (λ (x : Event). IsStep s x next) (sym is)
    (step_take s mid next p from k frame row new place lt row_is taken script nodes journal inboxes turned)
