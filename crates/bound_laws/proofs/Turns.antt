-- A node takes a frame: bounds stay, rule by rule.
use Rattle.std.proofs.Common.{◌≡◌, ℕ, not, ◌&&◌, nat_eq, List, [], ◌∷◌, ◌++◌, map, fold, Option, Some, None, refl, length, true}
use Rattle.std.specs.List.{AllByRecursion, list_any, list_all}
use Rattle.std.specs.Option.{option_and_then, option_map}
use Rattle.std.proofs.lemmas.Bool.{and_parts, leb-true}
use Rattle.std.specs.Prelude.{nat_le}
use Rattle.pico_base.specs.declared.call.Call.{Call}
use Rattle.pico_base.specs.declared.call.Call.TheVariants as calls
use Rattle.pico_base.specs.declared.call.Home.{Home}
use Rattle.pico_base.specs.declared.call.Home.TheVariants as homes
use Rattle.pico_base.specs.declared.numbers.Kind.{Kind}
use Rattle.pico_base.specs.declared.numbers.Name.{Name}
use Rattle.pico_base.specs.declared.numbers.Name.TheVariants.{Proc, Msg, Sem}
use Rattle.pico_base.specs.declared.reply.Reply.{Reply}
use Rattle.pico_base.specs.declared.script.Script.{Script}
use Rattle.pico_base.specs.Home.{home_of}
use Rattle.rpc_frame.specs.declared.asked.Asked.{Asked}
use Rattle.rpc_frame.specs.declared.deed.PackedDeed.{PackedDeed}
use Rattle.rpc_frame.specs.declared.deed.Parcel.{Parcel}
use Rattle.rpc_frame.specs.declared.frame.Frame.{Frame}
use Rattle.rpc_frame.specs.declared.frame.Frame.TheVariants as frames
use Rattle.kernel_laws.proofs.Plain.{Of, by_test, of-map, of-next, of-test, of-some}
use Rattle.kernel_model.specs.Script.{IsSoundScript, Vars}
use Rattle.waiting_model.specs.declared.callers.Waiting.{Waiting}
use Rattle.waiting_model.specs.Calls.{is_withdrawal}
use Rattle.node_model.specs.declared.held.Held.TheVariants.{Ending}
use Rattle.node_model.specs.Bodies.{AQueue, ASet, Body, Ended, Gone, Removed, Living as LivingBody, waiters_of}
use Rattle.node_model.specs.Cache.{forget, learn}
use Rattle.node_model.specs.Caller.{answer_call, new_caller}
use Rattle.node_model.specs.Directory.{Directory, arrive, bound_for, has_more, held_for, is_coming, place_name, place_of, stays, upcoming, with_leaving, with_left, with_range}
use Rattle.node_model.specs.Kinds.{get_named, is_object, none_named, put_named, without_named}
use Rattle.node_model.specs.Leases.{leases_hold, refill, takes_number}
use Rattle.node_model.specs.Parcels.{fitting_bodies, give_all, give_back, pack_all, parcel_of}
use Rattle.node_model.specs.Spelling.{pack, read_deed}
use Rattle.node_model.specs.Watches.{unwatch}
use Rattle.world_model.specs.Calls.{answered_by, ask_after, asks_as, bounce, bounce_or_nobody, end_with_reply, forwarded_by, is_for_others, is_from_leader, is_on_name_or_removal, is_to_leader, requested_by, take_answer, take_ask, take_bounce, take_forward, take_not_owner, take_request, with_forgotten, with_learnt}
use Rattle.world_model.specs.Ends.{exit_here, names_in}
use Rattle.world_model.specs.Lives.{be_born, born_with, end_released, hand_over, is_end, is_forked_by, is_new_row, is_of_process, may_leave, may_take, place_family, send_to_leader, take_checkpoint, take_exit, take_leaving, take_left, take_recall_all}
use Rattle.world_model.specs.Moves.{come_back, give_back as gives_back, goes_on_to, is_at, is_new_here, keep, pass_on, receive_deed, suggest, take_give_back, take_grant, take_recall, take_suggest, has_nodes}
use Rattle.world_model.specs.Node.{Left, Node, holds, is_born, is_leader, is_leaving_stage, is_node, is_unborn, under_way_as}
use Rattle.world_model.specs.Numbers.{make}
use Rattle.world_model.specs.Ranges.{go_on_with, may_lease, take_lease, take_lease_ask, take_placed}
use Rattle.world_model.specs.Routes.{recall_from, route_call}
use Rattle.world_model.specs.Serving.{serve_asked, serve_nobody, without_deed}
use Rattle.world_model.specs.Starting.{run}
use Rattle.world_model.specs.Step.{Step, send, step_to, with_directory}
use Rattle.world_model.specs.Turn.{take_by_kind, take_by_rules}
use Rattle.world_model.specs.World.{IsNode}
use Rattle.world_model.specs.Releases.{release}
use Rattle.world_model.specs.Strikes.{strike}
use Rattle.bound_laws.specs.Bounded.{FrameIsBounded, FrameNamesNodes, LeadsToNode, NamesNodes, NodeIsBounded, StepIsBounded, WaitersAreOfNodes}
use Rattle.bound_laws.proofs.NewNames.{ForksNodes, make-bounded}
use Rattle.bound_laws.proofs.Parts.{arrive-names, bound-is-node, forget-names, held-are-of-nodes, learn-names, leaving-names, left-names, place-name-names, range-names}
use Rattle.bound_laws.proofs.Released.{exit-here-bounded, release-bounded}
use Rattle.bound_laws.proofs.Routed.{recall-from-bounded, route-call-bounded}
use Rattle.bound_laws.proofs.Started.{ask-bounded, run-bounded}
use Rattle.bound_laws.proofs.Watched.{none-watched, unwatched}
use Rattle.bound_laws.proofs.StepParts.{answered-none, first-is-node, none-is, send-bounded, send-first-bounded, serve-asked-bounded, serve-nobody-bounded, step-to-bounded, with-cache-bounded, with-caller-bounded, with-directory-bounded, with-tables-bounded}
use Rattle.bound_laws.proofs.Waiters.{no-deeds-bounded, put-deed-bounded, without-deed-bounded}
use Rattle.bound_laws.proofs.Struck.{strike-bounded, take-cancel-bounded}

module _ (script : Script) where
  abbrev Bounded : Option Step → Type 0
  Bounded o = Of (StepIsBounded script) o

  -- ---- frames about a call

  take-ask-bounded : (n : Node) (sender ticket pid : ℕ) (call : Call) → NodeIsBounded script n → IsNode script sender
      → Bounded (take_ask script n sender ticket pid call)
  take-ask-bounded n sender ticket pid call k own =
      of-test (StepIsBounded script) (is_to_leader n sender && asks_as is_for_others pid call)
      (route_call script (step_to n) (record { caller = sender; ticket = ticket; pid = pid; call = call }))
      (λ _. route-call-bounded script (step_to n) (record { caller = sender; ticket = ticket; pid = pid; call = call })
      (step-to-bounded script n k) own)

  take-bounce-bounded : (n : Node) (sender : ℕ) (asked : Asked) → NodeIsBounded script n → IsNode script asked.caller
      → Bounded (take_bounce script n sender asked)
  take-bounce-bounded n sender asked k own =
      of-test (StepIsBounded script)
      (is_to_leader n sender
      && (is_node script asked.caller && asks_as is_on_name_or_removal asked.pid asked.call))
      (route_call script (step_to n) asked)
      (λ _. route-call-bounded script (step_to n) asked (step-to-bounded script n k) own)

  bounce-bounded : (n : Node) (asked : Asked) → NodeIsBounded script n → IsNode script asked.caller
      → StepIsBounded script (bounce n asked)
  bounce-bounded n asked k own =
      send-first-bounded script (step_to n) (frames.Bounce asked) (step-to-bounded script n k) own

  bounce-or-nobody-bounded : (n : Node) (asked : Asked) (name : Name) → NodeIsBounded script n
      → IsNode script asked.caller → StepIsBounded script (bounce_or_nobody script n asked name)
  bounce-or-nobody-bounded n asked name k own =
      by_test (StepIsBounded script) (leases_hold n.leases name) (serve_nobody script (step_to n) name asked)
      (bounce n asked)
      (λ _. serve-nobody-bounded script (step_to n) name asked (step-to-bounded script n k) own)
      (λ _. bounce-bounded n asked k own)

  forwarded-bounded : (n : Node) (asked : Asked) (home : Home) → NodeIsBounded script n → IsNode script asked.caller
      → Bounded (forwarded_by script n asked home)
  forwarded-bounded n asked (homes.At name) k own =
      by_test Bounded (holds n name) (serve_asked script (step_to n) name asked)
      (Some (bounce_or_nobody script n asked name))
      (λ _. serve-asked-bounded script (step_to n) name asked (step-to-bounded script n k) own)
      (λ _. bounce-or-nobody-bounded n asked name k own)
  forwarded-bounded n asked (homes.Removal name) k own =
      by_test Bounded (holds n name) (Some (bounce n asked)) (Some (bounce_or_nobody script n asked name))
      (λ _. bounce-bounded n asked k own) (λ _. bounce-or-nobody-bounded n asked name k own)
  forwarded-bounded n asked homes.Own k own = tt
  forwarded-bounded n asked homes.Keys k own = tt
  forwarded-bounded n asked homes.Parent k own = tt

  take-forward-bounded : (n : Node) (sender : ℕ) (asked : Asked) → NodeIsBounded script n → IsNode script asked.caller
      → Bounded (take_forward script n sender asked)
  take-forward-bounded n sender asked k own =
      of-test (StepIsBounded script)
      (is_from_leader n sender && (is_node script asked.caller && not (is_withdrawal asked.call)))
      (forwarded_by script n asked (home_of asked.pid asked.call))
      (λ _. forwarded-bounded n asked (home_of asked.pid asked.call) k own)

  requested-bounded : (n : Node) (asked : Asked) (home : Home) → NodeIsBounded script n → IsNode script asked.caller
      → Bounded (requested_by script n asked home)
  requested-bounded n asked (homes.At name) k own =
      by_test Bounded (holds n name) (serve_asked script (step_to n) name asked)
      (Some (send (step_to n) asked.caller (frames.NotOwner asked.ticket)))
      (λ _. serve-asked-bounded script (step_to n) name asked (step-to-bounded script n k) own)
      (λ _. send-bounded script (step_to n) asked.caller (frames.NotOwner asked.ticket) (step-to-bounded script n k) own
      tt)
  requested-bounded n asked (homes.Removal name) k own = tt
  requested-bounded n asked homes.Own k own = tt
  requested-bounded n asked homes.Keys k own = tt
  requested-bounded n asked homes.Parent k own = tt

  take-request-bounded : (n : Node) (sender ticket pid : ℕ) (call : Call) → NodeIsBounded script n
      → IsNode script sender → Bounded (take_request script n sender ticket pid call)
  take-request-bounded n sender ticket pid call k own =
      of-test (StepIsBounded script) ((is_born n && not (nat_eq sender n.number)) && not (is_withdrawal call))
      (requested_by script n (record { caller = sender; ticket = ticket; pid = pid; call = call }) (home_of pid call))
      (λ _. requested-bounded n (record { caller = sender; ticket = ticket; pid = pid; call = call })
      (home_of pid call) k own)

  ask-after-bounded : (n : Node) (call : Call) (home : Home) → NodeIsBounded script n
      → Bounded (ask_after script n call home)
  ask-after-bounded n call (homes.At name) k =
      ask-bounded script (step_to (with_forgotten n name)) call
      (step-to-bounded script (with_forgotten n name)
      (with-cache-bounded script n (forget n.cache name) k (forget-names script n.cache name k.cache)))
  ask-after-bounded n call (homes.Removal name) k = tt
  ask-after-bounded n call homes.Own k = tt
  ask-after-bounded n call homes.Keys k = tt
  ask-after-bounded n call homes.Parent k = tt

  take-not-owner-bounded : (n : Node) (ticket : ℕ) → NodeIsBounded script n → Bounded (take_not_owner script n ticket)
  take-not-owner-bounded n ticket k =
      of-next (StepIsBounded script) (under_way_as n ticket) (λ call. ask_after script n call (home_of n.pid call))
      (λ call _. ask-after-bounded n call (home_of n.pid call) k)

  learnt-bounded : (n : Node) (sender : ℕ) (home : Home) → NodeIsBounded script n → IsNode script sender
      → NodeIsBounded script (with_learnt n sender home)
  learnt-bounded n sender (homes.At name) k own =
      with-cache-bounded script n (learn n.cache name sender) k (learn-names script n.cache name sender k.cache own)
  learnt-bounded n sender (homes.Removal name) k own = k
  learnt-bounded n sender homes.Own k own = k
  learnt-bounded n sender homes.Keys k own = k
  learnt-bounded n sender homes.Parent k own = k

  answered-bounded : (n : Node) (sender : ℕ) (reply : Reply) (call : Call) → NodeIsBounded script n
      → IsNode script sender → Bounded (answered_by script n sender reply call)
  answered-bounded n sender reply call k own =
      of-test (StepIsBounded script) (is_for_others (home_of n.pid call))
      (Some (step_to (end_with_reply script n sender call reply)))
      (λ _. step-to-bounded script (end_with_reply script n sender call reply)
      (with-caller-bounded script (with_learnt n sender (home_of n.pid call))
      (answer_call script n.number n.caller call reply) (learnt-bounded n sender (home_of n.pid call) k own)
      (λ block.
      none-is (answer_call script n.number n.caller call reply).under_way (calls.Fork block)
      (answered-none script n.number n.caller call reply))
      (λ count create excl.
      none-is (answer_call script n.number n.caller call reply).under_way (calls.SemGet None count create excl)
      (answered-none script n.number n.caller call reply))))

  take-answer-bounded : (n : Node) (sender ticket : ℕ) (reply : Reply) → NodeIsBounded script n → IsNode script sender
      → Bounded (take_answer script n sender ticket reply)
  take-answer-bounded n sender ticket reply k own =
      of-next (StepIsBounded script) (under_way_as n ticket) (answered_by script n sender reply)
      (λ call _. answered-bounded n sender reply call k own)

  -- ---- frames about new numbers

  take-lease-ask-bounded : (n : Node) (sender : ℕ) (kind : Kind) → NodeIsBounded script n → IsNode script sender
      → Bounded (take_lease_ask n sender kind)
  take-lease-ask-bounded n sender kind k own =
      of-test (StepIsBounded script) (is_to_leader n sender && has_more n.leader.directory kind)
      (Some (send (step_to (with_directory n (with_range n.leader.directory kind sender))) sender
      (frames.Lease kind (upcoming n.leader.directory kind))))
      (λ _. send-bounded script (step_to (with_directory n (with_range n.leader.directory kind sender))) sender
      (frames.Lease kind (upcoming n.leader.directory kind))
      (step-to-bounded script (with_directory n (with_range n.leader.directory kind sender))
      (with-directory-bounded script n (with_range n.leader.directory kind sender) k
      (range-names script n.leader.directory kind sender k.directory own))) own tt)

  forks-under-way : (call : Call) (o : Option Call) → o ≡ Some call
      → ((block : ℕ) → o ≡ Some (calls.Fork block) → IsNode script block) → ForksNodes script call
  forks-under-way (calls.Fork block) o is h = h block is
  forks-under-way call o is h = tt

  go-on-with-bounded : (n : Node) (kind : Kind) (first : ℕ) (call : Call) → NodeIsBounded script n
      → ForksNodes script call → Bounded (go_on_with script n kind first call)
  go-on-with-bounded n kind first call k own =
      of-test (StepIsBounded script) (takes_number kind call)
      (make script (step_to (record n { leases = refill n.leases kind first })) call kind)
      (λ _. make-bounded script (step_to (record n { leases = refill n.leases kind first })) call kind
      (step-to-bounded script (record n { leases = refill n.leases kind first })
      (with-tables-bounded script n n.deeds n.watches (refill n.leases kind first) n.stage k k.deeds k.watches)) own)

  take-lease-bounded : (n : Node) (sender : ℕ) (kind : Kind) (first : ℕ) → NodeIsBounded script n
      → Bounded (take_lease script n sender kind first)
  take-lease-bounded n sender kind first k =
      of-test (StepIsBounded script) (nat_eq sender 1 && may_lease n kind first)
      (option_and_then (go_on_with script n kind first) n.caller.under_way)
      (λ _. of-next (StepIsBounded script) n.caller.under_way (go_on_with script n kind first)
      (λ call is. go-on-with-bounded n kind first call k (forks-under-way call n.caller.under_way is k.fork)))

  take-placed-bounded : (n : Node) (sender : ℕ) (name : Name) (node : ℕ) → NodeIsBounded script n → IsNode script node
      → Bounded (take_placed script n sender name node)
  take-placed-bounded n sender name node k own =
      of-test (StepIsBounded script)
      (is_to_leader n sender && (is_node script node && (not (nat_eq node 1) && not (leases_hold n.leases name))))
      (Some (step_to (with_directory n (place_name n.leader.directory name node))))
      (λ _. step-to-bounded script (with_directory n (place_name n.leader.directory name node))
      (with-directory-bounded script n (place_name n.leader.directory name node) k
      (place-name-names script n.leader.directory name node k.directory own)))

  -- ---- frames about a queue or set that moves

  suggest-bounded : (n : Node) (sender : ℕ) (name : Name) (to : ℕ) → NodeIsBounded script n → IsNode script sender
      → IsNode script to → StepIsBounded script (suggest n sender name to)
  suggest-bounded n sender name to k own reader =
      by_test (StepIsBounded script)
      (is_at sender (place_of n.leader.directory name) && stays n.leader.directory to)
      (recall_from (step_to n) name (Some to) sender) (step_to n)
      (λ _. recall-from-bounded script (step_to n) name (Some to) sender (step-to-bounded script n k) reader own)
      (λ _. step-to-bounded script n k)

  take-suggest-bounded : (n : Node) (sender : ℕ) (name : Name) (to : ℕ) → NodeIsBounded script n
      → IsNode script sender → IsNode script to → Bounded (take_suggest script n sender name to)
  take-suggest-bounded n sender name to k own reader =
      of-test (StepIsBounded script) (is_to_leader n sender && (is_node script to && is_object name))
      (Some (suggest n sender name to)) (λ _. suggest-bounded n sender name to k own reader)

  take-recall-bounded : (n : Node) (sender : ℕ) (name : Name) → NodeIsBounded script n
      → Bounded (take_recall n sender name)
  take-recall-bounded n sender name k =
      of-test (StepIsBounded script) (is_from_leader n sender && is_object name)
      (option_map (gives_back n name) (get_named n.deeds name))
      (λ _. of-map (StepIsBounded script) (get_named n.deeds name) (gives_back n name)
      (λ body _. send-first-bounded script (step_to (without_deed n name)) (frames.GiveBack (pack name body))
      (step-to-bounded script (without_deed n name)
      (with-tables-bounded script n (without_named n.deeds name) (unwatch n.watches name) n.leases n.stage k
      (without-deed-bounded script n.deeds name k.deeds) (unwatched n.number n.watches name k.watches))) tt))

  -- where each has a node of the script, calls of nodes wait there
  have-nodes : (ws : List Waiting) → list_all (λ w. is_node script w.caller) ws ≡ true
      → AllByRecursion (λ w. IsNode script w.caller) ws
  have-nodes [] h = tt
  have-nodes (w ∷ ws) h =
      let parts = and_parts (is_node script w.caller) (list_all (λ v. is_node script v.caller) ws) h
      in let ends = and_parts (nat_le 1 w.caller) (nat_le w.caller (length script.blocks)) parts.0
      in (
        record {
          low = leb-true 1 w.caller ends.0;
          high = leb-true w.caller (length script.blocks) ends.1;
        },
        have-nodes ws parts.1,
      )

  pub names-nodes : (body : Body) → has_nodes script body ≡ true → WaitersAreOfNodes script body
  names-nodes body h = have-nodes (waiters_of body) h

  keep-bounded : (n : Node) (name : Name) (body : Body) → NodeIsBounded script n → WaitersAreOfNodes script body
      → NodeIsBounded script (keep n name body)
  keep-bounded n name body k all =
      with-tables-bounded script n (put_named n.deeds name body) n.watches n.leases n.stage k
      (put-deed-bounded script n.deeds name body k.deeds all) k.watches

  goes-on-to-node : (d : Directory) (o : Option ℕ) → LeadsToNode script o → LeadsToNode script (goes_on_to d o)
  goes-on-to-node d None own = tt
  goes-on-to-node d (Some to) own =
      by_test (LeadsToNode script) (not (nat_eq to 1) && stays d to) (Some to) None (λ _. own) (λ _. tt)

  pass-on-bounded : (n : Node) (name : Name) (body : Body) (o : Option ℕ) → NodeIsBounded script n
      → WaitersAreOfNodes script body → LeadsToNode script o → StepIsBounded script (pass_on n name body o)
  pass-on-bounded n name body None k all own =
      step-to-bounded script (with_directory (keep n name body) (arrive n.leader.directory name 1))
      (with-directory-bounded script (keep n name body) (arrive n.leader.directory name 1)
      (keep-bounded n name body k all)
      (arrive-names script n.leader.directory name 1 k.directory (first-is-node script n.number k.number)))
  pass-on-bounded n name body (Some to) k all own =
      send-bounded script (step_to (with_directory n (arrive n.leader.directory name to))) to
      (frames.Grant (pack name body))
      (step-to-bounded script (with_directory n (arrive n.leader.directory name to))
      (with-directory-bounded script n (arrive n.leader.directory name to) k
      (arrive-names script n.leader.directory name to k.directory own))) own tt

  -- The step from which a GiveBack releases what was held is bounded.
  pub passed-on-bounded : (n : Node) (name : Name) (body : Body) → NodeIsBounded script n
      → WaitersAreOfNodes script body
      → StepIsBounded script
      (pass_on n name body (goes_on_to n.leader.directory (bound_for n.leader.directory name)))
  passed-on-bounded n name body k all =
      pass-on-bounded n name body (goes_on_to n.leader.directory (bound_for n.leader.directory name)) k all
      (goes-on-to-node n.leader.directory (bound_for n.leader.directory name)
      (bound-is-node script n.leader.directory name k.directory))

  come-back-bounded : (n : Node) (name : Name) (body : Body) → NodeIsBounded script n
      → Bounded (come_back script n name body)
  come-back-bounded n name body k =
      let d : Directory = n.leader.directory
      in of-test (StepIsBounded script) (has_nodes script body)
      (release script (held_for d name) (pass_on n name body (goes_on_to d (bound_for d name))))
      (λ h. release-bounded script (held_for d name) (pass_on n name body (goes_on_to d (bound_for d name)))
      (passed-on-bounded n name body k (names-nodes body h)) (held-are-of-nodes script d name k.directory))

  take-give-back-bounded : (n : Node) (sender : ℕ) (deed : PackedDeed) → NodeIsBounded script n
      → Bounded (take_give_back script n sender deed)
  take-give-back-bounded n sender deed k =
      of-test (StepIsBounded script)
      (is_leader n && (is_coming n.leader.directory deed.name && is_new_here n deed.name))
      (option_and_then (come_back script n deed.name) (read_deed deed))
      (λ _. of-next (StepIsBounded script) (read_deed deed) (come_back script n deed.name)
      (λ body _. come-back-bounded n deed.name body k))

  take-grant-bounded : (n : Node) (sender : ℕ) (deed : PackedDeed) → NodeIsBounded script n
      → Bounded (take_grant script n sender deed)
  take-grant-bounded n sender deed k =
      of-test (StepIsBounded script) (is_from_leader n sender && is_new_here n deed.name)
      (option_and_then (receive_deed script n deed.name) (read_deed deed))
      (λ _. of-next (StepIsBounded script) (read_deed deed) (receive_deed script n deed.name)
      (λ body _. of-test (StepIsBounded script) (has_nodes script body) (Some (step_to (keep n deed.name body)))
      (λ h. step-to-bounded script (keep n deed.name body) (keep-bounded n deed.name body k (names-nodes body h)))))

  -- ---- frames about a process's life

  born-bounded : (n : Node) (sender pid parent : ℕ) (vars : Vars) (body : Body) → NodeIsBounded script n
      → IsNode script sender → WaitersAreOfNodes script body
      → NodeIsBounded script (be_born n sender pid parent vars body)
  born-bounded n sender pid parent vars body k own all =
      record {
        number = k.number;
        parent_node = own;
        fork = λ block. none-is (new_caller vars).under_way (calls.Fork block) refl;
        size = λ count create excl.
            none-is (new_caller vars).under_way (calls.SemGet None count create excl) refl;
        deeds = put-deed-bounded script none_named (Proc pid) body (no-deeds-bounded script) all;
        watches = k.watches;
        cache = k.cache;
        directory = k.directory;
        queue_keys = k.queue_keys;
        set_keys = k.set_keys;
      }

  born-with-bounded : (n : Node) (sender pid parent : ℕ) (vars : Vars) (body : Body) → NodeIsBounded script n
      → IsNode script sender → Bounded (born_with n sender pid parent vars body)
  born-with-bounded n sender pid parent vars (LivingBody row) k own =
      of-test (StepIsBounded script) (is_new_row row)
      (Some (step_to (be_born n sender pid parent vars (LivingBody row))))
      (λ _. step-to-bounded script (be_born n sender pid parent vars (LivingBody row))
      (born-bounded n sender pid parent vars (LivingBody row) k own tt))
  born-with-bounded n sender pid parent vars (Ended ending) k own = tt
  born-with-bounded n sender pid parent vars Gone k own = tt
  born-with-bounded n sender pid parent vars (AQueue queue) k own = tt
  born-with-bounded n sender pid parent vars (ASet set) k own = tt
  born-with-bounded n sender pid parent vars Removed k own = tt

  take-checkpoint-bounded : (n : Node) (sender pid parent : ℕ) (deed : PackedDeed) (vars : Vars)
      → NodeIsBounded script n → IsNode script sender → Bounded (take_checkpoint script n sender pid parent deed vars)
  take-checkpoint-bounded n sender pid parent deed vars k own =
      of-test (StepIsBounded script)
      (is_unborn n.stage && (is_forked_by script sender n.number && is_of_process pid deed.name))
      (option_and_then (born_with n sender pid parent vars) (read_deed deed))
      (λ _. of-next (StepIsBounded script) (read_deed deed) (born_with n sender pid parent vars)
      (λ body _. born-with-bounded n sender pid parent vars body k own))

  family-names : (d : Directory) (node pid parent parent_node : ℕ) → NamesNodes script d → IsNode script node
      → IsNode script parent_node → NamesNodes script (place_family d node pid parent parent_node)
  family-names d node pid parent parent_node k own above =
      place-name-names script (place_name d (Proc parent) parent_node) (Proc pid) node
      (place-name-names script d (Proc parent) parent_node k above) own

  take-leaving-bounded : (n : Node) (sender pid parent parent_node : ℕ) → NodeIsBounded script n
      → IsNode script sender → IsNode script parent_node → Bounded (take_leaving script n sender pid parent parent_node)
  take-leaving-bounded n sender pid parent parent_node k own above =
      let d : Directory = with_leaving (place_family n.leader.directory sender pid parent parent_node) sender
      in of-test (StepIsBounded script) (is_to_leader n sender && may_leave script n sender pid parent parent_node)
      (Some (send (step_to (with_directory n d)) sender frames.RecallAll))
      (λ _. send-bounded script (step_to (with_directory n d)) sender frames.RecallAll
      (step-to-bounded script (with_directory n d)
      (with-directory-bounded script n d k
      (leaving-names script (place_family n.leader.directory sender pid parent parent_node) sender
      (family-names n.leader.directory sender pid parent parent_node k.directory own above)))) own tt)

  sent-to-leader : (fs : List Frame) (s : Step) → StepIsBounded script s
      → AllByRecursion (FrameNamesNodes script) fs → StepIsBounded script (fold send_to_leader s fs)
  sent-to-leader [] s k all = k
  sent-to-leader (f ∷ fs) s k all = sent-to-leader fs (send s 1 f) (send-first-bounded script s f k all.0) all.1

  given-name : (packs : List PackedDeed) (parcel : Parcel)
      → AllByRecursion (FrameNamesNodes script) (map give_back packs ++ frames.Left parcel ∷ [])
  given-name [] parcel = (tt, tt)
  given-name (deed ∷ packs) parcel = (tt, given-name packs parcel)

  hand-over-bounded : (n : Node) (call : Call) → NodeIsBounded script n → Bounded (hand_over n call)
  hand-over-bounded n call k =
      let empty : Node = record n { stage = Left; deeds = none_named; watches = none_named }
      in of-test (StepIsBounded script) (is_end call)
      (Some (fold send_to_leader (step_to empty) (give_all n.deeds n.pid n.parent call)))
      (λ _. sent-to-leader (give_all n.deeds n.pid n.parent call) (step_to empty)
      (step-to-bounded script empty
      (with-tables-bounded script n none_named none_named n.leases Left k (no-deeds-bounded script)
      (none-watched n.number)))
      (given-name (pack_all Msg n.deeds.queues ++ pack_all Sem n.deeds.sets) (parcel_of n.deeds n.pid n.parent call)))

  take-recall-all-bounded : (n : Node) (sender : ℕ) → NodeIsBounded script n → Bounded (take_recall_all n sender)
  take-recall-all-bounded n sender k =
      of-test (StepIsBounded script) (nat_eq sender 1 && is_leaving_stage n.stage)
      (option_and_then (hand_over n) n.caller.under_way)
      (λ _. of-next (StepIsBounded script) n.caller.under_way (hand_over n) (λ call _. hand-over-bounded n call k))

  -- The step from which a Left releases its parcel is bounded.
  pub left-noted-bounded : (n : Node) (sender : ℕ) → NodeIsBounded script n
      → StepIsBounded script (step_to (with_directory n (with_left n.leader.directory sender)))
  left-noted-bounded n sender k =
      step-to-bounded script (with_directory n (with_left n.leader.directory sender))
      (with-directory-bounded script n (with_left n.leader.directory sender) k
      (left-names script n.leader.directory sender k.directory))

  take-left-bounded : (n : Node) (sender : ℕ) (parcel : Parcel) → NodeIsBounded script n
      → Bounded (take_left script n sender parcel)
  take-left-bounded n sender parcel k =
      of-test (StepIsBounded script) (is_leader n && may_take n sender parcel)
      (option_and_then (end_released script n sender parcel) (fitting_bodies n.deeds parcel))
      (λ _. of-next (StepIsBounded script) (fitting_bodies n.deeds parcel) (end_released script n sender parcel)
      (λ bodies _. release-bounded script (Ending parcel ∷ [])
      (step_to (with_directory n (with_left n.leader.directory sender))) (left-noted-bounded n sender k) (tt, tt)))

  take-exit-bounded : (n : Node) (sender : ℕ) (parcel : Parcel) → NodeIsBounded script n
      → Bounded (take_exit script n sender parcel)
  take-exit-bounded n sender parcel k =
      of-test (StepIsBounded script)
      (is_from_leader n sender && not (list_any (leases_hold n.leases) (names_in parcel)))
      (exit_here script (step_to n) parcel)
      (λ _. exit-here-bounded script (step_to n) parcel (step-to-bounded script n k))

  -- ---- a turn

  pub take-by-kind-bounded : (n : Node) (to sender : ℕ) (frame : Frame) → NodeIsBounded script n
      → FrameIsBounded script to sender frame → Bounded (take_by_kind script n sender frame)
  take-by-kind-bounded n to sender (frames.Ask ticket pid call) k f =
      take-ask-bounded n sender ticket pid call k f.sender_is
  take-by-kind-bounded n to sender (frames.Request ticket pid call) k f =
      take-request-bounded n sender ticket pid call k f.sender_is
  take-by-kind-bounded n to sender (frames.Forward asked) k f = take-forward-bounded n sender asked k f.says
  take-by-kind-bounded n to sender (frames.Bounce asked) k f = take-bounce-bounded n sender asked k f.says
  take-by-kind-bounded n to sender (frames.Answer ticket reply) k f =
      take-answer-bounded n sender ticket reply k f.sender_is
  take-by-kind-bounded n to sender (frames.NotOwner ticket) k f = take-not-owner-bounded n ticket k
  take-by-kind-bounded n to sender (frames.LeaseAsk kind) k f = take-lease-ask-bounded n sender kind k f.sender_is
  take-by-kind-bounded n to sender (frames.Lease kind first) k f = take-lease-bounded n sender kind first k
  take-by-kind-bounded n to sender (frames.Placed name node) k f = take-placed-bounded n sender name node k f.says
  take-by-kind-bounded n to sender (frames.Checkpoint pid parent deed vars) k f =
      take-checkpoint-bounded n sender pid parent deed vars k f.sender_is
  take-by-kind-bounded n to sender (frames.Suggest name node) k f =
      take-suggest-bounded n sender name node k f.sender_is f.says
  take-by-kind-bounded n to sender (frames.Recall name) k f = take-recall-bounded n sender name k
  take-by-kind-bounded n to sender (frames.GiveBack deed) k f = take-give-back-bounded n sender deed k
  take-by-kind-bounded n to sender (frames.Grant deed) k f = take-grant-bounded n sender deed k
  take-by-kind-bounded n to sender (frames.Leaving pid parent parent_node) k f =
      take-leaving-bounded n sender pid parent parent_node k f.sender_is f.says
  take-by-kind-bounded n to sender frames.RecallAll k f = take-recall-all-bounded n sender k
  take-by-kind-bounded n to sender (frames.Left parcel) k f = take-left-bounded n sender parcel k
  take-by-kind-bounded n to sender (frames.ExitTo parcel) k f = take-exit-bounded n sender parcel k
  take-by-kind-bounded n to sender (frames.Cancel asked) k f = take-cancel-bounded script n asked k f.says

  -- A node that takes a frame stays bounded, and so is what it sends.
  pub take-turn-bounded : (n : Node) (to sender : ℕ) (frame : Frame) → NodeIsBounded script n
      → FrameIsBounded script to sender frame → Bounded (take_by_rules script n sender frame)
  take-turn-bounded n to sender frame k f =
      of-map (StepIsBounded script) (take_by_kind script n sender frame) (strike script)
      (λ s is. strike-bounded script s
      (of-some (StepIsBounded script) (take_by_kind script n sender frame) s
      (take-by-kind-bounded n to sender frame k f) is))

  -- So does one of a sound script that starts a call.
  pub run-turn-bounded : IsSoundScript script → (n : Node) → NodeIsBounded script n → Bounded (run script n)
  run-turn-bounded sound n k = run-bounded script sound n k
