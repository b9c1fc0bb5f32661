-- What a step does to a node within limits, and sends, is within limits.
use Rattle.std.proofs.Common.{◌≡◌, ◌++◌, Option, Some, None, ℕ, true, false, not, ◌&&◌, nat_eq, refl, ◌<◌, ◌≤◌, List, length, ◌+◌, [], ◌∷◌, nat_lt, ◌∙◌, inl, inr, ap, subst, arith, sym}
use Rattle.std.proofs.lemmas.Bool.{and_parts, false≢true, ltb-true, or_cases}
use Rattle.std.proofs.lemmas.Option.{slice_get_within}
use Rattle.std.specs.List.{AllByRecursion}
use Rattle.std.specs.Option.{option_map, option_map_or}
use Rattle.std.specs.Prelude.{if◌then◌else◌, slice_get}
use Rattle.frame_bytes.specs.Limits.{is_frame, is_nonzero}
use Rattle.kernel_laws.proofs.Plain.{by_test, Of, from_some, not_some, of-map, of-some}
use Rattle.kernel_model.specs.Fitting.{asks_again, set_variable, value_in}
use Rattle.kernel_model.specs.Script.{IsSoundScript}
use Rattle.limit_laws.proofs.Carried.{IsServedWithin, others-not-own, serve-within}
use Rattle.limit_laws.proofs.Frames.{answer-is-frame, suggest-is-frame}
use Rattle.limit_laws.proofs.Lengths.{grant-is-frame}
use Rattle.limit_laws.proofs.Lines.{IsFineLine, lines-of-are-fine, lines-of-are-few}
use Rattle.limit_laws.proofs.Named.{deeds-get, named-get, named-put, deeds-without, deeds-put-all, deeds-more}
use Rattle.limit_laws.proofs.Plain.{nonzero-some, some-nonzero}
use Rattle.limit_laws.proofs.Replies.{fail-is-short}
use Rattle.kernel_laws.proofs.Lists.{all-both, all-at}
use Rattle.limit_laws.proofs.Vars.{set-are-variables}
use Rattle.limit_laws.specs.Within.{AreDeedsWithin, AreVariables, IsReplyShort, IsItemWithin, AreItemsWithin, IsPlaceWithin, IsDirectoryWithin, IsNodeWithin, IsSentWithin, IsStepWithin, IsWakeWithin, SaysWithin}
use Rattle.node_model.specs.Bodies.{Body, Deeds, waiters_of}
use Rattle.node_model.specs.Cache.{Cache}
use Rattle.node_model.specs.Carrying.{is_removal}
use Rattle.node_model.specs.Caller.{Caller, lines_of, answer_call, answer_at, end_call}
use Rattle.node_model.specs.Directory.{At, Directory, Place, Coming, place_of, stays, held_for, arrive, items_of, is_known, place_name, recall, hold, with_leaving, place_without, places_without, hold_at, with_place}
use Rattle.node_model.specs.Entries.{outcome_with}
use Rattle.node_model.specs.Kinds.{for_kind, number_of, get_named, put_all, without_named}
use Rattle.node_model.specs.Leases.{Leases}
use Rattle.node_model.specs.Serving.{Served, serve, admits, name_for, name_in, no_such_name, waiting_as, waits_in}
use Rattle.node_model.specs.Spelling.{pack}
use Rattle.node_model.specs.Watches.{Watches, with_reads, last_move, unwatch}
use Rattle.node_model.specs.declared.held.Held.{Held}
use Rattle.number_maps.specs.Maps.{Numbered}
use Rattle.pico_base.specs.Home.{home_of}
use Rattle.pico_base.specs.declared.call.Call.{Call}
use Rattle.pico_base.specs.declared.call.Home.TheVariants as homes
use Rattle.pico_base.specs.declared.numbers.Kind.{Kind}
use Rattle.pico_base.specs.declared.numbers.Name.TheVariants.{Proc, Msg, Sem}
use Rattle.pico_base.specs.declared.numbers.Name.{Name}
use Rattle.pico_base.specs.declared.reply.Reply.TheVariants as replies
use Rattle.pico_base.specs.declared.reply.Reply.{Reply}
use Rattle.pico_base.specs.declared.script.Line.{Line}
use Rattle.pico_base.specs.declared.script.Script.{Script}
use Rattle.rpc_frame.specs.declared.asked.Asked.{Asked}
use Rattle.rpc_frame.specs.declared.frame.Frame.TheVariants as frames
use Rattle.rpc_frame.specs.declared.frame.Frame.{Frame}
use Rattle.waiter_fields.specs.Waiters.{max_waiters}
use Rattle.waiting_model.specs.declared.callers.Wake.{Wake}
use Rattle.waiting_model.specs.declared.callers.Waiting.{Waiting}
use Rattle.world_model.specs.Calls.{is_for_others}
use Rattle.world_model.specs.Node.{Node, is_leader, under_way_as, Leader, Stage}
use Rattle.world_model.specs.Serving.{without_deed, has_room, is_struck, serve_asked, serve_nobody, grant, grant_held, move_to, note_reads, serve_asked_with}
use Rattle.world_model.specs.Step.{send, Step, step_to, with_directory, with_node, with_deeds, with_strike, carry_out, carry_out_waking, with_leader, enter, enter_with, reply_at, reply_here, reply_if, wake_all, wake_one}

-- others carry the call out, on this name
pub record IsCalledOn (name : Name) (asked : Asked) : Type 0 where
  pub others : is_for_others (home_of asked.pid asked.call) ≡ true
  pub named : name_for asked.pid asked.call ≡ Some name

-- a call on a name
pub at-name : (asked : Asked) (name : Name) → home_of asked.pid asked.call ≡ homes.At name → IsCalledOn name asked
at-name asked name is = record { others = ap is_for_others is; named = ap (name_in asked.pid) is }

-- and its removal
pub at-removal : (asked : Asked) (name : Name) → home_of asked.pid asked.call ≡ homes.Removal name
    → IsCalledOn name asked
at-removal asked name is = record { others = ap is_for_others is; named = ap (name_in asked.pid) is }

module _ (script : Script) (sound : IsSoundScript script) where
  abbrev NodeIs : Node → Type 0
  NodeIs n = IsNodeWithin script n

  abbrev StepIs : Step → Type 0
  StepIs s = IsStepWithin script s

  -- ---- a node

  -- its process has no more children than 20,000
  pub few-lines : (n : Node) → NodeIs n → n.caller.line ≤ 20000
  few-lines n k =
      let line = k.line
      in let few = lines-of-are-few script sound n.number
      in omega (arith, line, few)

  -- other tables
  pub tables-within : (n : Node) (stage : Stage) (deeds : Deeds) (watches : Watches) (leases : Leases) (cache : Cache)
      → NodeIs n → AreDeedsWithin n.pid n.caller.line deeds
      → ((kind : Kind) → AllByRecursion (λ (number : ℕ). 1 ≤ number) (for_kind leases kind))
      → NodeIs (record n { stage = stage; deeds = deeds; watches = watches; leases = leases; cache = cache })
  tables-within n stage deeds watches leases cache k held numbers =
      record {
        vars = k.vars;
        line = k.line;
        under_way = k.under_way;
        deeds = held;
        leases = numbers;
        directory = k.directory;
      }

  -- what the leader has
  pub leader-within : (n : Node) (l : Leader) → NodeIs n → IsDirectoryWithin l.directory → NodeIs (with_leader n l)
  leader-within n l k places =
      record {
        vars = k.vars;
        line = k.line;
        under_way = k.under_way;
        deeds = k.deeds;
        leases = k.leases;
        directory = places;
      }

  -- another directory
  pub directory-within : (n : Node) (d : Directory) → NodeIs n → IsDirectoryWithin d → NodeIs (with_directory n d)
  directory-within n d k places = leader-within n (record n.leader { directory = d }) k places

  -- ---- a caller

  -- the caller after a reply: no line further back, and nothing under way
  pub record IsAnswered (number : ℕ) (c d : Caller) : Type 0 where
    pub vars : AreVariables d.vars
    pub line : d.line ≤ length (lines_of script number)
    pub up : c.line ≤ d.line
    pub none : d.under_way ≡ None

  answered-at : (number : ℕ) (c : Caller) (call : Call) (reply : Reply) (o : Option Line)
      → slice_get (lines_of script number) c.line ≡ o → AreVariables c.vars → c.line ≤ length (lines_of script number)
      → IsAnswered number c (answer_at c call reply o)
  answered-at number c call reply None is vars within =
      record { vars = vars; line = within; up = omega arith; none = refl }
  answered-at number c call reply (Some line) is vars within =
      let fine : IsFineLine line =
      all-at IsFineLine (lines_of script number) c.line line (lines-of-are-fine script sound number) is
      in let less = slice_get_within (lines_of script number) c.line line is
      in by_test (IsAnswered number c) (asks_again call (Some reply) && nat_lt (c.tried + 1) line.tries)
      (record (end_call c) { tried = c.tried + 1 })
      (record (end_call c) {
        line = c.line + 1;
        tried = 0;
        vars =
            set_variable c.vars line.set (value_in (Some reply));
      })
      (λ _. record { vars = vars; line = within; up = omega arith; none = refl })
      (λ _. record {
        vars = set-are-variables c.vars line.set (value_in (Some reply)) fine.variable vars;
        line = omega (arith, less);
        up = omega arith;
        none = refl;
      })

  -- another caller
  pub caller-within : (n : Node) (d : Caller) → NodeIs n → IsAnswered n.number n.caller d
      → NodeIs (record n { caller = d })
  caller-within n d k a =
      record {
        vars = a.vars;
        line = a.line;
        under_way = λ call is. not_some call (sym a.none ∙ is);
        deeds = deeds-more n.pid n.caller.line d.line n.deeds a.up k.deeds;
        leases = k.leases;
        directory = k.directory;
      }

  -- its call is answered
  pub answered-is : (n : Node) (call : Call) (reply : Reply) → NodeIs n
      → IsAnswered n.number n.caller (answer_call script n.number n.caller call reply)
  answered-is n call reply k =
      answered-at n.number n.caller call reply (slice_get (lines_of script n.number) n.caller.line) refl k.vars k.line

  -- and the node with it
  pub answered-within : (n : Node) (call : Call) (reply : Reply) → NodeIs n
      → NodeIs (record n { caller = answer_call script n.number n.caller call reply })
  answered-within n call reply k =
      caller-within n (answer_call script n.number n.caller call reply) k (answered-is n call reply k)

  -- ---- a step

  -- a step that has done nothing yet
  pub step-to-within : (n : Node) → NodeIs n → StepIs (step_to n)
  step-to-within n k = record { node = k; sends = tt }

  -- with another node
  pub with-node-within : (s : Step) (n : Node) → StepIs s → NodeIs n → StepIs (with_node s n)
  with-node-within s n k own = record { node = own; sends = k.sends }

  -- with other deeds
  pub with-deeds-within : (s : Step) (deeds : Deeds) → StepIs s → AreDeedsWithin s.node.pid s.node.caller.line deeds
      → StepIs (with_deeds s deeds)
  with-deeds-within s deeds k held =
      with-node-within s (record s.node { deeds = deeds }) k
      (tables-within s.node s.node.stage deeds s.node.watches s.node.leases s.node.cache k.node held k.node.leases)

  -- with another directory
  pub with-directory-step : (s : Step) (d : Directory) → StepIs s → IsDirectoryWithin d
      → StepIs (with_node s (with_directory s.node d))
  with-directory-step s d k places =
      with-node-within s (with_directory s.node d) k (directory-within s.node d k.node places)

  -- with a further frame
  pub send-within : (s : Step) (to : ℕ) (frame : Frame) → StepIs s → is_frame frame ≡ true → SaysWithin frame
      → StepIs (send s to frame)
  send-within s to frame k within says =
      record {
        node = k.node;
        sends = all-both IsSentWithin s.sends ((to, frame) ∷ []) k.sends
            (record { limits = within; says = says }, tt);
      }

  -- with a further entry
  pub enter-within : (s : Step) (pid : ℕ) (call : Call) (reply : Reply) → StepIs s → StepIs (enter s pid call reply)
  enter-within s pid call reply k = record { node = k.node; sends = k.sends }

  -- the call under way, if there is one, has its reply
  pub reply-here-within : (s : Step) (reply : Reply) (o : Option Call) → StepIs s → StepIs (reply_here script s reply o)
  reply-here-within s reply None k = k
  reply-here-within s reply (Some call) k =
      with-node-within s (record s.node { caller = answer_call script s.node.number s.node.caller call reply }) k
      (answered-within s.node call reply k.node)

  -- a reply goes to the node of its caller, which may be this one
  pub reply-at-within : (s : Step) (caller ticket : ℕ) (reply : Reply) → StepIs s → is_nonzero ticket ≡ true
      → (nat_eq caller s.node.number ≡ false → IsReplyShort reply) → StepIs (reply_at script s caller ticket reply)
  reply-at-within s caller ticket reply k nonzero short =
      by_test StepIs (nat_eq caller s.node.number) (reply_here script s reply (under_way_as s.node ticket))
      (send s caller (frames.Answer ticket reply))
      (λ _. reply-here-within s reply (under_way_as s.node ticket) k)
      (λ other. send-within s caller (frames.Answer ticket reply) k
      (answer-is-frame ticket reply nonzero (short other)) tt)

  -- A call is carried out.
  pub carry-out-within : (s : Step) (asked : Asked) (reply : Reply) → StepIs s → is_nonzero asked.ticket ≡ true
      → (nat_eq asked.caller s.node.number ≡ false → IsReplyShort reply) → StepIs (carry_out script s asked reply)
  carry-out-within s asked reply k ticket short =
      let entered = enter-within s asked.pid asked.call reply k
      in reply-at-within (enter s asked.pid asked.call reply) asked.caller asked.ticket reply entered ticket short

  reply-if-within : (s : Step) (asked : Asked) (own : Option Reply) → StepIs s → is_nonzero asked.ticket ≡ true
      → (nat_eq asked.caller s.node.number ≡ false → Of IsReplyShort own) → StepIs (reply_if script s asked own)
  reply-if-within s asked None k ticket short = k
  reply-if-within s asked (Some reply) k ticket short =
      reply-at-within s asked.caller asked.ticket reply k ticket short

  wake-all-within : (wakes : List Wake) (s : Step) → StepIs s → AllByRecursion IsWakeWithin wakes
      → StepIs (wake_all script s wakes)
  wake-all-within [] s k all = k
  wake-all-within (w ∷ wakes) s k all =
      let first : IsWakeWithin w = all.0
      in wake-all-within wakes (wake_one script s w)
      (reply-at-within s w.caller w.ticket w.reply k (some-nonzero w.ticket first.ticket) (λ _. first.reply)) all.1

  -- So is one that may have to wait or wake others.
  pub carry-out-waking-within : (s : Step) (asked : Asked) (own : Option Reply) (wakes : List Wake) → StepIs s
      → is_nonzero asked.ticket ≡ true → (nat_eq asked.caller s.node.number ≡ false → Of IsReplyShort own)
      → AllByRecursion IsWakeWithin wakes → StepIs (carry_out_waking script s asked own wakes)
  carry-out-waking-within s asked own wakes k ticket short all =
      let entered : Step = enter_with s asked.pid asked.call (outcome_with own wakes)
      in wake-all-within wakes (reply_if script entered asked own)
      (reply-if-within entered asked own (record { node = k.node; sends = k.sends }) ticket short) all

  -- ---- the directory

  -- a name is at a node,
  pub arrived-within : (d : Directory) (name : Name) (node : ℕ) → IsDirectoryWithin d → 1 ≤ number_of name
      → IsDirectoryWithin (arrive d name node)
  arrived-within d name node k low = named-put IsPlaceWithin d.places name (At node) k low

  -- a new name is placed,
  pub placed-within : (d : Directory) (name : Name) (node : ℕ) → IsDirectoryWithin d → 1 ≤ number_of name
      → IsDirectoryWithin (place_name d name node)
  placed-within d name node k low =
      by_test IsDirectoryWithin (is_known d name) d (with_place d name (At node)) (λ _. k)
      (λ _. named-put IsPlaceWithin d.places name (At node) k low)

  -- a name is asked back,
  pub recalled-within : (d : Directory) (name : Name) (to : Option ℕ) → IsDirectoryWithin d → 1 ≤ number_of name
      → IsDirectoryWithin (recall d name to)
  recalled-within d name to k low = named-put IsPlaceWithin d.places name (Coming to []) k (low, tt)

  -- and something is held for a name.
  held-at-within : (d : Directory) (name : Name) (item : Held) (o : Option Place) → IsDirectoryWithin d
      → place_of d name ≡ o → IsItemWithin item → IsDirectoryWithin (hold_at d name item o)
  held-at-within d name item None k is own = k
  held-at-within d name item (Some (At node)) k is own = k
  held-at-within d name item (Some (Coming to items)) k is own =
      let was = named-get IsPlaceWithin d.places name (Coming to items) k is
      in named-put IsPlaceWithin d.places name (Coming to (items ++ item ∷ [])) k
      (was.0, all-both IsItemWithin items (item ∷ []) was.1 (own, tt))

  -- an item is held for a name
  pub hold-within : (d : Directory) (name : Name) (item : Held) → IsDirectoryWithin d → IsItemWithin item
      → IsDirectoryWithin (hold d name item)
  hold-within d name item k own = held-at-within d name item (place_of d name) k refl own

  -- what is held for a name can be sent on
  items-within : (d : Directory) (name : Name) (o : Option Place) → IsDirectoryWithin d → place_of d name ≡ o
      → AreItemsWithin (items_of o)
  items-within d name None k is = tt
  items-within d name (Some (At node)) k is = tt
  items-within d name (Some (Coming to items)) k is =
      (named-get IsPlaceWithin d.places name (Coming to items) k is).1

  -- for each name
  pub held-are-within : (d : Directory) (name : Name) → IsDirectoryWithin d → AreItemsWithin (held_for d name)
  held-are-within d name k = items-within d name (place_of d name) k refl

  -- a known name has a number
  place-has-number : (name : Name) (place : Place) → IsPlaceWithin name place → 1 ≤ number_of name
  place-has-number name (At node) h = h
  place-has-number name (Coming to items) h = h.0

  -- so has one that is known
  pub known-has-number : (d : Directory) (name : Name) (place : Place) → IsDirectoryWithin d
      → place_of d name ≡ Some place → 1 ≤ number_of name
  known-has-number d name place k is = place-has-number name place (named-get IsPlaceWithin d.places name place k is)

  -- what was at a node that leaves is on its way
  left-places : (P : ℕ → Name) (node : ℕ) (m : Numbered Place)
      → AllByRecursion (λ (e : ℕ × Place). IsPlaceWithin (P e.0) e.1) m
      → AllByRecursion (λ (e : ℕ × Place). IsPlaceWithin (P e.0) e.1) (places_without node m)
  left-places P node [] all = tt
  left-places P node (e ∷ m) all = (of-place e.1 all.0, left-places P node m all.1)
    where
      of-place : (place : Place) → IsPlaceWithin (P e.0) place → IsPlaceWithin (P e.0) (place_without node place)
      of-place (At owner) h =
          by_test (IsPlaceWithin (P e.0)) (nat_eq owner node) (Coming None []) (At owner) (λ _. (h, tt)) (λ _. h)
      of-place (Coming to items) h = h

  -- of any kind
  pub leaving-within : (d : Directory) (node : ℕ) → IsDirectoryWithin d → IsDirectoryWithin (with_leaving d node)
  leaving-within d node k =
      record {
        processes = left-places Proc node d.places.processes k.processes;
        queues = left-places Msg node d.places.queues k.queues;
        sets = left-places Sem node d.places.sets k.sets;
      }

  -- ---- serving

  grant-held-within : (s : Step) (name : Name) (to : ℕ) (o : Option Body) → StepIs s → get_named s.node.deeds name ≡ o
      → StepIs (grant_held s name to o)
  grant-held-within s name to None k is = k
  grant-held-within s name to (Some body) k is =
      let n : Node = s.node
      in let deed = deeds-get n.pid n.caller.line n.deeds name body k.node.deeds is
      in let without : NodeIs (without_deed n name) =
      tables-within n n.stage (without_named n.deeds name) (unwatch n.watches name) n.leases n.cache k.node
      (deeds-without n.pid n.caller.line n.deeds name k.node.deeds) k.node.leases
      in send-within (with_node s (with_directory (without_deed n name) (arrive n.leader.directory name to))) to
      (frames.Grant (pack name body))
      (with-node-within s (with_directory (without_deed n name) (arrive n.leader.directory name to)) k
      (directory-within (without_deed n name) (arrive n.leader.directory name to) without
      (arrived-within n.leader.directory name to k.node.directory deed.0)))
      (grant-is-frame n.pid n.caller.line name body (few-lines n k.node) deed) tt

  -- the leader grants a deed that it holds
  pub grant-within : (s : Step) (name : Name) (to : ℕ) → StepIs s → StepIs (grant s name to)
  grant-within s name to k = grant-held-within s name to (get_named s.node.deeds name) k refl

  move-to-within : (s : Step) (name : Name) (o : Option ℕ) → StepIs s → 1 ≤ number_of name → StepIs (move_to s name o)
  move-to-within s name None k low = k
  move-to-within s name (Some to) k low =
      by_test StepIs (is_leader s.node)
      (if stays s.node.leader.directory to then grant s name to else s) (send s 1 (frames.Suggest name to))
      (λ _. by_test StepIs (stays s.node.leader.directory to) (grant s name to) s
      (λ _. grant-within s name to k) (λ _. k))
      (λ _. send-within s 1 (frames.Suggest name to) k (suggest-is-frame name to low) tt)

  -- reads are noted
  pub note-reads-within : (s : Step) (name : Name) (readers : List ℕ) → StepIs s → 1 ≤ number_of name
      → StepIs (note_reads s name readers)
  note-reads-within s name readers k low =
      let n : Node = s.node
      in let watches : Watches = with_reads n.watches n.number name readers
      in move-to-within (with_node s (record n { watches = watches })) name (last_move n.watches n.number name readers)
      (with-node-within s (record n { watches = watches }) k
      (tables-within n n.stage n.deeds watches n.leases n.cache k.node k.node.deeds k.node.leases)) low

  serve-asked-with-within : (s : Step) (name : Name) (asked : Asked) (served : Served) → StepIs s
      → is_nonzero asked.ticket ≡ true → is_for_others (home_of asked.pid asked.call) ≡ true → 1 ≤ number_of name
      → IsServedWithin s.node.pid s.node.caller.line (waiting_as asked) served
      → StepIs (serve_asked_with script s name asked served)
  serve-asked-with-within s name asked served k ticket others low h =
      let n : Node = s.node
      in let struck : Step = with_strike s (is_struck n name asked.call)
      in let struck_within : StepIs struck = record { node = k.node; sends = k.sends }
      in let held : Step = with_deeds struck (put_all n.deeds served.changes)
      in note-reads-within (carry_out_waking script held asked served.own served.wakes) name served.readers
      (carry-out-waking-within held asked served.own served.wakes
      (with-deeds-within struck (put_all n.deeds served.changes) struck_within
      (deeds-put-all n.pid n.caller.line served.changes n.deeds k.node.deeds h.changes)) ticket
      (λ _. h.reply others) h.wakes) low

  -- where the name's body has room
  room-in : (who : Waiting) (body : Body) → admits body who ≡ true → is_removal who.call ≡ false
      → length (waiters_of body) < max_waiters
  room-in who body room stays =
      elim (or_cases (is_removal who.call)
      (nat_lt (length (waiters_of body)) max_waiters && not (waits_in body who.pid)) room) [
        | inl removes ↦ absurd (false≢true (sym stays ∙ removes))
        | inr free ↦ ltb-true (length (waiters_of body)) max_waiters (and_parts _ _ free).0
      ]

  room-at : (o : Option Body) (body : Body) (who : Waiting) → option_map_or (λ b. admits b who) o true ≡ true
      → o ≡ Some body → is_removal who.call ≡ false → length (waiters_of body) < max_waiters
  room-at None body who room is stays = not_some body is
  room-at (Some b) body who room is stays =
      subst (λ (x : Body). length (waiters_of x) < max_waiters) (from_some b body is) (room-in who b room stays)

  -- A call that others carry out is served.
  pub serve-asked-within : (s : Step) (name : Name) (asked : Asked) → StepIs s → is_nonzero asked.ticket ≡ true
      → IsCalledOn name asked → 1 ≤ number_of name → Of StepIs (serve_asked script s name asked)
  serve-asked-within s name asked k ticket on low =
      let n : Node = s.node
      in let who : Waiting = waiting_as asked
      in by_test (Of StepIs) (has_room s name asked)
      (option_map (serve_asked_with script s name asked) (serve n.deeds who)) (Some s)
      (λ room. of-map StepIs (serve n.deeds who) (serve_asked_with script s name asked)
      (λ served is. serve-asked-with-within s name asked served k ticket on.others low
      (of-some (IsServedWithin n.pid n.caller.line who) (serve n.deeds who) served
      (serve-within n.pid n.caller.line who (nonzero-some asked.ticket ticket)
      (λ own. others-not-own (home_of asked.pid asked.call) on.others own) n.deeds k.node.deeds
      (λ other body called there.
      room-at (get_named n.deeds name) body who room
      (subst (λ (x : Name). get_named n.deeds x ≡ Some body) (from_some other name (sym called ∙ on.named))
      there))) is)))
      (λ _. k)

  -- So is one on a number that names nothing.
  pub serve-nobody-within : (s : Step) (name : Name) (asked : Asked) → StepIs s → is_nonzero asked.ticket ≡ true
      → StepIs (serve_nobody script s name asked)
  serve-nobody-within s name asked k ticket =
      carry-out-within s asked (replies.Fail (no_such_name name)) k ticket (λ _. fail-is-short (no_such_name name))
