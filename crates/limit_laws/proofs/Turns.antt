-- A node takes a frame: rule by rule, it stays within limits, and so is what it sends.
use Rattle.std.proofs.Common.{◌≡◌, ◌++◌, Option, Some, None, ℕ, Bool, true, false, not, ◌&&◌, nat_eq, refl, ◌≤◌, List, length, nat_lt, [], ◌∷◌, map, is_none, arith, ap, ◌∙◌}
use Rattle.std.proofs.lemmas.Bool.{false≢true, and_parts, ltb-true, eqb-true}
use Rattle.std.specs.List.{AllByRecursion, list_any}
use Rattle.std.specs.Option.{option_map, option_and_then}
use Rattle.std.specs.Prelude.{fold}
use Rattle.frame_bytes.specs.Fields.{name_number}
use Rattle.frame_bytes.specs.Limits.{is_frame, is_deed, is_nonzero, are_vars, is_call, has_fields}
use Rattle.kernel_laws.proofs.Plain.{by_test, Of, if-some, not_some, of-map, of-some, of-next, of-test}
use Rattle.kernel_model.specs.Row.{Row, new_row}
use Rattle.kernel_model.specs.Script.{Vars, IsSoundScript}
use Rattle.limit_laws.proofs.Frames.{forwarded-has-ticket, forwarded-is-bounced, bounced-is-forwarded, not-owner-is-frame, lease-is-frame, left-is-exit}
use Rattle.limit_laws.proofs.Lengths.{nonzero-is-some, grant-is-frame, give-back-is-frame, left-is-frame}
use Rattle.limit_laws.proofs.Named.{deeds-put, deeds-get, numbers-from, held-is-numbered, deeds-without, deeds-none}
use Rattle.limit_laws.proofs.NewNames.{make-within, refilled-within}
use Rattle.limit_laws.proofs.Reading.{deed-read}
use Rattle.limit_laws.proofs.Released.{exit-here-within, release-within}
use Rattle.limit_laws.proofs.Routed.{route-call-within, recall-from-within}
use Rattle.limit_laws.proofs.Served.{no-family-within}
use Rattle.limit_laws.proofs.Started.{ask-within, run-within}
use Rattle.limit_laws.proofs.Steps.{at-name, tables-within, send-within, placed-within, serve-asked-within, serve-nobody-within, arrived-within, held-are-within, directory-within, step-to-within, few-lines, answered-within, leaving-within}
use Rattle.limit_laws.proofs.Strikes.{strike-within, take-cancel-within}
use Rattle.kernel_laws.proofs.Lists.{all-both}
use Rattle.limit_laws.proofs.Vars.{none-are-variables, brought-are-variables}
use Rattle.limit_laws.specs.Bodies.{IsFamilyWithin}
use Rattle.limit_laws.specs.Laws.{HasVariables, SentFramesPass, OpeningNodesAreWithinLimits, TakingKeepsLimits, RunningKeepsLimits}
use Rattle.limit_laws.specs.Within.{IsFrameWithin, IsNodeWithin, IsStepWithin, IsDeedWithin, IsBodyWithin, AreVariables}
use Rattle.node_model.specs.Bodies.{Body, Living as LivingBody, Ended, Gone, AQueue, ASet, Removed}
use Rattle.node_model.specs.Cache.{Cache, learn, forget}
use Rattle.node_model.specs.Caller.{answer_call}
use Rattle.node_model.specs.Directory.{Directory, place_of, stays, is_coming, held_for, bound_for, arrive, has_more, upcoming, with_range, place_name, with_leaving, with_left}
use Rattle.node_model.specs.Kinds.{for_kind, number_of, is_object, get_named, put_named, none_named, without_named}
use Rattle.node_model.specs.Leases.{leases_hold, refill, leader_leases, no_leases, is_used_up, takes_number}
use Rattle.node_model.specs.Parcels.{fitting_bodies, give_all, pack_all, parcel_of, give_back}
use Rattle.node_model.specs.Spelling.{pack, read_deed}
use Rattle.node_model.specs.Watches.{unwatch}
use Rattle.node_model.specs.declared.held.Held.TheVariants.{Ending}
use Rattle.number_maps.specs.Maps.{Numbered}
use Rattle.pico_base.specs.Home.{home_of}
use Rattle.pico_base.specs.declared.call.Call.{Call}
use Rattle.pico_base.specs.declared.call.Home.TheVariants as homes
use Rattle.pico_base.specs.declared.call.Home.{Home}
use Rattle.pico_base.specs.declared.numbers.Kind.TheVariants as kinds
use Rattle.pico_base.specs.declared.numbers.Kind.{Kind}
use Rattle.pico_base.specs.declared.numbers.Name.TheVariants.{Proc, Msg, Sem}
use Rattle.pico_base.specs.declared.numbers.Name.{Name}
use Rattle.pico_base.specs.declared.reply.EndedChild.{EndedChild}
use Rattle.pico_base.specs.declared.reply.Reply.{Reply}
use Rattle.pico_base.specs.declared.script.Script.{Script}
use Rattle.rpc_frame.specs.declared.asked.Asked.{Asked}
use Rattle.rpc_frame.specs.declared.deed.PackedDeed.{PackedDeed}
use Rattle.rpc_frame.specs.declared.deed.Parcel.{Parcel}
use Rattle.rpc_frame.specs.declared.frame.Frame.TheVariants as frames
use Rattle.rpc_frame.specs.declared.frame.Frame.{Frame}
use Rattle.waiting_model.specs.Calls.{is_withdrawal}
use Rattle.world_model.specs.Calls.{is_for_others, is_to_leader, is_from_leader, take_ask, take_bounce, take_forward, take_request, take_not_owner, take_answer, is_on_name_or_removal, ask_after, asks_as, with_forgotten, answered_by, bounce, bounce_or_nobody, end_with_reply, forwarded_by, requested_by, with_learnt}
use Rattle.world_model.specs.Lives.{take_checkpoint, take_leaving, take_recall_all, take_left, take_exit, is_forked_by, is_new_row, is_end, born_with, be_born, hand_over, send_to_leader, place_family, end_released, may_take, is_of_process, may_leave}
use Rattle.world_model.specs.Moves.{is_at, give_back as gives_back, take_suggest, take_recall, take_give_back, take_grant, keep, come_back, goes_on_to, has_nodes, is_new_here, pass_on, receive_deed, suggest}
use Rattle.world_model.specs.Node.{Left, Node, is_leader, holds, is_node, is_born, under_way_as, first_node, is_unborn, is_leaving_stage, unborn_node}
use Rattle.world_model.specs.Numbers.{make}
use Rattle.world_model.specs.Ranges.{take_lease_ask, take_lease, take_placed, go_on_with, may_lease}
use Rattle.world_model.specs.Ends.{names_in, exit_here}
use Rattle.world_model.specs.Routes.{recall_from, route_call}
use Rattle.world_model.specs.Serving.{without_deed, serve_asked, serve_nobody}
use Rattle.world_model.specs.Releases.{release}
use Rattle.world_model.specs.Starting.{run}
use Rattle.world_model.specs.Step.{Step, step_to, with_directory, send}
use Rattle.world_model.specs.Strikes.{strike}
use Rattle.world_model.specs.Turn.{has_room_for, is_given_out, may_come, take_by_kind, take_by_rules}

module _ (script : Script) (sound : IsSoundScript script) where
  abbrev NodeIs : Node → Type 0
  NodeIs n = IsNodeWithin script n

  abbrev StepIs : Step → Type 0
  StepIs s = IsStepWithin script s

  abbrev Taken : Option Step → Type 0
  Taken o = Of StepIs o

  abbrev CanRoute : Asked → Type 0
  CanRoute asked = is_frame (frames.Forward asked) ≡ true

  started : (n : Node) → NodeIs n → StepIs (step_to n)
  started n k = step-to-within script sound n k

  -- ---- frames about a call

  take-ask-within : (n : Node) (sender ticket pid : ℕ) (call : Call) → NodeIs n
      → CanRoute (record { caller = sender; ticket = ticket; pid = pid; call = call })
      → Taken (take_ask script n sender ticket pid call)
  take-ask-within n sender ticket pid call k can =
      of-test StepIs (is_to_leader n sender && asks_as is_for_others pid call)
      (route_call script (step_to n) (record { caller = sender; ticket = ticket; pid = pid; call = call }))
      (λ _. route-call-within script sound (step_to n)
      (record { caller = sender; ticket = ticket; pid = pid; call = call }) (started n k) can)

  take-bounce-within : (n : Node) (sender : ℕ) (asked : Asked) → NodeIs n → CanRoute asked
      → Taken (take_bounce script n sender asked)
  take-bounce-within n sender asked k can =
      of-test StepIs
      (is_to_leader n sender
      && (is_node script asked.caller && asks_as is_on_name_or_removal asked.pid asked.call))
      (route_call script (step_to n) asked)
      (λ _. route-call-within script sound (step_to n) asked (started n k) can)

  bounce-within : (n : Node) (asked : Asked) → NodeIs n → CanRoute asked → StepIs (bounce n asked)
  bounce-within n asked k can =
      send-within script sound (step_to n) 1 (frames.Bounce asked) (started n k) (forwarded-is-bounced asked can) tt

  bounce-or-nobody-within : (n : Node) (asked : Asked) (name : Name) → NodeIs n → CanRoute asked
      → StepIs (bounce_or_nobody script n asked name)
  bounce-or-nobody-within n asked name k can =
      by_test StepIs (leases_hold n.leases name) (serve_nobody script (step_to n) name asked) (bounce n asked)
      (λ _. serve-nobody-within script sound (step_to n) name asked (started n k) (forwarded-has-ticket asked can))
      (λ _. bounce-within n asked k can)

  forwarded-within : (n : Node) (asked : Asked) (home : Home) → home_of asked.pid asked.call ≡ home → NodeIs n
      → CanRoute asked → Taken (forwarded_by script n asked home)
  forwarded-within n asked (homes.At name) is k can =
      by_test Taken (holds n name) (serve_asked script (step_to n) name asked)
      (Some (bounce_or_nobody script n asked name))
      (λ held. serve-asked-within script sound (step_to n) name asked (started n k) (forwarded-has-ticket asked can)
      (at-name asked name is) (held-is-numbered n.pid n.caller.line n.deeds name k.deeds held))
      (λ _. bounce-or-nobody-within n asked name k can)
  forwarded-within n asked (homes.Removal name) is k can =
      by_test Taken (holds n name) (Some (bounce n asked)) (Some (bounce_or_nobody script n asked name))
      (λ _. bounce-within n asked k can) (λ _. bounce-or-nobody-within n asked name k can)
  forwarded-within n asked homes.Own is k can = tt
  forwarded-within n asked homes.Keys is k can = tt
  forwarded-within n asked homes.Parent is k can = tt

  take-forward-within : (n : Node) (sender : ℕ) (asked : Asked) → NodeIs n → CanRoute asked
      → Taken (take_forward script n sender asked)
  take-forward-within n sender asked k can =
      of-test StepIs (is_from_leader n sender && (is_node script asked.caller && not (is_withdrawal asked.call)))
      (forwarded_by script n asked (home_of asked.pid asked.call))
      (λ _. forwarded-within n asked (home_of asked.pid asked.call) refl k can)

  requested-within : (n : Node) (asked : Asked) (home : Home) → home_of asked.pid asked.call ≡ home → NodeIs n
      → is_nonzero asked.ticket ≡ true → Taken (requested_by script n asked home)
  requested-within n asked (homes.At name) is k ticket =
      by_test Taken (holds n name) (serve_asked script (step_to n) name asked)
      (Some (send (step_to n) asked.caller (frames.NotOwner asked.ticket)))
      (λ held. serve-asked-within script sound (step_to n) name asked (started n k) ticket (at-name asked name is)
      (held-is-numbered n.pid n.caller.line n.deeds name k.deeds held))
      (λ _. send-within script sound (step_to n) asked.caller (frames.NotOwner asked.ticket) (started n k)
      (not-owner-is-frame asked.ticket ticket) tt)
  requested-within n asked (homes.Removal name) is k ticket = tt
  requested-within n asked homes.Own is k ticket = tt
  requested-within n asked homes.Keys is k ticket = tt
  requested-within n asked homes.Parent is k ticket = tt

  take-request-within : (n : Node) (sender ticket pid : ℕ) (call : Call) → NodeIs n → is_nonzero ticket ≡ true
      → Taken (take_request script n sender ticket pid call)
  take-request-within n sender ticket pid call k nonzero =
      of-test StepIs ((is_born n && not (nat_eq sender n.number)) && not (is_withdrawal call))
      (requested_by script n (record { caller = sender; ticket = ticket; pid = pid; call = call }) (home_of pid call))
      (λ _. requested-within n (record { caller = sender; ticket = ticket; pid = pid; call = call })
      (home_of pid call) refl k nonzero)

  -- the call with this ticket is the one under way
  under-way-is : (n : Node) (ticket : ℕ) (call : Call) → under_way_as n ticket ≡ Some call
      → n.caller.under_way ≡ Some call
  under-way-is n ticket call is = by (nat_eq ticket n.caller.ticket) is
    where
      by : (same : Bool) → (elim same [ true ↦ n.caller.under_way | false ↦ None ]) ≡ Some call
          → n.caller.under_way ≡ Some call
      by true h = h
      by false h = not_some call h

  forgotten-within : (n : Node) (name : Name) → NodeIs n → NodeIs (with_forgotten n name)
  forgotten-within n name k =
      tables-within script sound n n.stage n.deeds n.watches n.leases (forget n.cache name) k k.deeds k.leases

  ask-after-within : (n : Node) (call : Call) (home : Home) → home_of n.pid call ≡ home → NodeIs n
      → n.caller.under_way ≡ Some call → Taken (ask_after script n call home)
  ask-after-within n call (homes.At name) home_is k is =
      ask-within script sound (step_to (with_forgotten n name)) call
      (started (with_forgotten n name) (forgotten-within n name k)) is (ap is_for_others home_is)
  ask-after-within n call (homes.Removal name) home_is k is = tt
  ask-after-within n call homes.Own home_is k is = tt
  ask-after-within n call homes.Keys home_is k is = tt
  ask-after-within n call homes.Parent home_is k is = tt

  take-not-owner-within : (n : Node) (ticket : ℕ) → NodeIs n → Taken (take_not_owner script n ticket)
  take-not-owner-within n ticket k =
      of-next StepIs (under_way_as n ticket) (λ call. ask_after script n call (home_of n.pid call))
      (λ call is. ask-after-within n call (home_of n.pid call) refl k (under-way-is n ticket call is))

  answered-with-cache : (n : Node) (cache : Cache) (call : Call) (reply : Reply) → NodeIs n
      → NodeIs (record n { cache = cache; caller = answer_call script n.number n.caller call reply })
  answered-with-cache n cache call reply k =
      answered-within script sound (record n { cache = cache }) call reply
      (tables-within script sound n n.stage n.deeds n.watches n.leases cache k k.deeds k.leases)

  ended-with-reply : (n : Node) (sender : ℕ) (call : Call) (reply : Reply) (home : Home) → NodeIs n
      → NodeIs (record (with_learnt n sender home) { caller = answer_call script n.number n.caller call reply })
  ended-with-reply n sender call reply (homes.At name) k =
      answered-with-cache n (learn n.cache name sender) call reply k
  ended-with-reply n sender call reply (homes.Removal name) k = answered-within script sound n call reply k
  ended-with-reply n sender call reply homes.Own k = answered-within script sound n call reply k
  ended-with-reply n sender call reply homes.Keys k = answered-within script sound n call reply k
  ended-with-reply n sender call reply homes.Parent k = answered-within script sound n call reply k

  take-answer-within : (n : Node) (sender ticket : ℕ) (reply : Reply) → NodeIs n
      → Taken (take_answer script n sender ticket reply)
  take-answer-within n sender ticket reply k =
      of-next StepIs (under_way_as n ticket) (answered_by script n sender reply)
      (λ call _. of-test StepIs (is_for_others (home_of n.pid call))
      (Some (step_to (end_with_reply script n sender call reply)))
      (λ _. started (end_with_reply script n sender call reply)
      (ended-with-reply n sender call reply (home_of n.pid call) k)))

  -- ---- frames about new numbers

  take-lease-ask-within : (n : Node) (sender : ℕ) (kind : Kind) → NodeIs n → Taken (take_lease_ask n sender kind)
  take-lease-ask-within n sender kind k =
      of-test StepIs (is_to_leader n sender && has_more n.leader.directory kind)
      (Some (send (step_to (with_directory n (with_range n.leader.directory kind sender))) sender
      (frames.Lease kind (upcoming n.leader.directory kind))))
      (λ _. send-within script sound (step_to (with_directory n (with_range n.leader.directory kind sender))) sender
      (frames.Lease kind (upcoming n.leader.directory kind))
      (started (with_directory n (with_range n.leader.directory kind sender))
      (directory-within script sound n (with_range n.leader.directory kind sender) k k.directory))
      (lease-is-frame kind (upcoming n.leader.directory kind)) tt)

  take-lease-within : (n : Node) (sender : ℕ) (kind : Kind) (first : ℕ) → NodeIs n
      → Taken (take_lease script n sender kind first)
  take-lease-within n sender kind first k =
      of-test StepIs (nat_eq sender 1 && may_lease n kind first)
      (option_and_then (go_on_with script n kind first) n.caller.under_way)
      (λ may.
      let allowed : may_lease n kind first ≡ true = (and_parts (nat_eq sender 1) (may_lease n kind first) may).1
      in let low : nat_lt 0 first ≡ true =
      (and_parts (nat_lt 0 first) _ (and_parts (is_used_up (for_kind n.leases kind)) _ allowed).1).0
      in let refilled : Node = record n { leases = refill n.leases kind first }
      in of-next StepIs n.caller.under_way (go_on_with script n kind first)
      (λ call is. of-test StepIs (takes_number kind call) (make script (step_to refilled) call kind)
      (λ _. make-within script sound (step_to refilled) call kind
      (started refilled (refilled-within script sound n kind first k (ltb-true 0 first low))) is)))

  take-placed-within : (n : Node) (sender : ℕ) (name : Name) (node : ℕ) → NodeIs n → 1 ≤ number_of name
      → Taken (take_placed script n sender name node)
  take-placed-within n sender name node k low =
      of-test StepIs
      (is_to_leader n sender && (is_node script node && (not (nat_eq node 1) && not (leases_hold n.leases name))))
      (Some (step_to (with_directory n (place_name n.leader.directory name node))))
      (λ _. started (with_directory n (place_name n.leader.directory name node))
      (directory-within script sound n (place_name n.leader.directory name node) k
      (placed-within script sound n.leader.directory name node k.directory low)))

  -- ---- frames about a queue or set that moves

  take-suggest-within : (n : Node) (sender : ℕ) (name : Name) (to : ℕ) → NodeIs n → 1 ≤ number_of name
      → Taken (take_suggest script n sender name to)
  take-suggest-within n sender name to k low =
      of-test StepIs (is_to_leader n sender && (is_node script to && is_object name))
      (Some (suggest n sender name to))
      (λ _. by_test StepIs (is_at sender (place_of n.leader.directory name) && stays n.leader.directory to)
      (recall_from (step_to n) name (Some to) sender) (step_to n)
      (λ _. recall-from-within script sound (step_to n) name (Some to) sender (started n k) low) (λ _. started n k))

  take-recall-within : (n : Node) (sender : ℕ) (name : Name) → NodeIs n → Taken (take_recall n sender name)
  take-recall-within n sender name k =
      of-test StepIs (is_from_leader n sender && is_object name)
      (option_map (gives_back n name) (get_named n.deeds name))
      (λ _. of-map StepIs (get_named n.deeds name) (gives_back n name)
      (λ body is. send-within script sound (step_to (without_deed n name)) 1 (frames.GiveBack (pack name body))
      (started (without_deed n name)
      (tables-within script sound n n.stage (without_named n.deeds name) (unwatch n.watches name) n.leases n.cache k
      (deeds-without n.pid n.caller.line n.deeds name k.deeds) k.leases))
      (give-back-is-frame n.pid n.caller.line name body (few-lines script sound n k)
      (deeds-get n.pid n.caller.line n.deeds name body k.deeds is)) tt))

  keep-within : (n : Node) (name : Name) (body : Body) → NodeIs n → IsDeedWithin n.pid n.caller.line name body
      → NodeIs (keep n name body)
  keep-within n name body k deed =
      tables-within script sound n n.stage (put_named n.deeds name body) n.watches n.leases n.cache k
      (deeds-put n.pid n.caller.line n.deeds name body k.deeds deed) k.leases

  pass-on-within : (n : Node) (name : Name) (body : Body) (o : Option ℕ) → NodeIs n
      → IsDeedWithin n.pid n.caller.line name body → StepIs (pass_on n name body o)
  pass-on-within n name body None k deed =
      started (with_directory (keep n name body) (arrive n.leader.directory name 1))
      (directory-within script sound (keep n name body) (arrive n.leader.directory name 1)
      (keep-within n name body k deed) (arrived-within script sound n.leader.directory name 1 k.directory deed.0))
  pass-on-within n name body (Some to) k deed =
      send-within script sound (step_to (with_directory n (arrive n.leader.directory name to))) to
      (frames.Grant (pack name body))
      (started (with_directory n (arrive n.leader.directory name to))
      (directory-within script sound n (arrive n.leader.directory name to) k
      (arrived-within script sound n.leader.directory name to k.directory deed.0)))
      (grant-is-frame n.pid n.caller.line name body (few-lines script sound n k) deed) tt

  new-is-object : (n : Node) (name : Name) → is_new_here n name ≡ true → is_object name ≡ true
  new-is-object n name h = (and_parts (is_object name) _ h).0

  -- a deed that comes, of a queue or set, is within limits
  come-within : (n : Node) (deed : PackedDeed) (body : Body) → is_object deed.name ≡ true → is_deed deed ≡ true
      → read_deed deed ≡ Some body → IsDeedWithin n.pid n.caller.line deed.name body
  come-within n deed body object fits is = (
    nonzero-is-some deed.name (and_parts (is_nonzero (name_number deed.name)) _ fits).0,
    of-some (IsBodyWithin n.pid n.caller.line deed.name) (read_deed deed) body
        (deed-read n.pid n.caller.line deed object) is,
  )

  take-give-back-within : (n : Node) (sender : ℕ) (deed : PackedDeed) → NodeIs n → is_deed deed ≡ true
      → Taken (take_give_back script n sender deed)
  take-give-back-within n sender deed k fits =
      let d : Directory = n.leader.directory
      in of-test StepIs (is_leader n && (is_coming d deed.name && is_new_here n deed.name))
      (option_and_then (come_back script n deed.name) (read_deed deed))
      (λ may.
      let object : is_object deed.name ≡ true =
      new-is-object n deed.name
      (and_parts (is_coming d deed.name) _
      (and_parts (is_leader n) (is_coming d deed.name && is_new_here n deed.name) may).1).1
      in of-next StepIs (read_deed deed) (come_back script n deed.name)
      (λ body is. of-test StepIs (has_nodes script body)
      (release script (held_for d deed.name) (pass_on n deed.name body (goes_on_to d (bound_for d deed.name))))
      (λ _. release-within script sound (held_for d deed.name)
      (pass_on n deed.name body (goes_on_to d (bound_for d deed.name)))
      (pass-on-within n deed.name body (goes_on_to d (bound_for d deed.name)) k
      (come-within n deed body object fits is))
      (held-are-within script sound d deed.name k.directory))))

  take-grant-within : (n : Node) (sender : ℕ) (deed : PackedDeed) → NodeIs n → is_deed deed ≡ true
      → Taken (take_grant script n sender deed)
  take-grant-within n sender deed k fits =
      of-test StepIs (is_from_leader n sender && is_new_here n deed.name)
      (option_and_then (receive_deed script n deed.name) (read_deed deed))
      (λ may.
      let object : is_object deed.name ≡ true =
      new-is-object n deed.name (and_parts (is_from_leader n sender) (is_new_here n deed.name) may).1
      in of-next StepIs (read_deed deed) (receive_deed script n deed.name)
      (λ body is. of-test StepIs (has_nodes script body) (Some (step_to (keep n deed.name body)))
      (λ _. started (keep n deed.name body)
      (keep-within n deed.name body k (come-within n deed body object fits is)))))

  -- ---- frames about a process's life

  no-children : (row : Row) → is_new_row row ≡ true → IsFamilyWithin 0 row.family
  no-children row h =
      let w = and_parts (nat_eq (length row.family.living) 0) (nat_eq (length row.family.ended) 0)
      (and_parts (is_none row.signals.doom) _ h).1
      in let living = eqb-true (length row.family.living) 0 w.0
      in let ended = eqb-true (length row.family.ended) 0 w.1
      in record {
        few = omega (arith, living, ended);
        living = all-of-none (λ (c : ℕ). 1 ≤ c) row.family.living living;
        ended = all-of-none (λ (e : EndedChild). 1 ≤ e.pid) row.family.ended ended;
      }
    where
      all-of-none : {A : Type 0} (P : A → Type 0) (xs : List A) → length xs ≡ 0 → AllByRecursion P xs
      all-of-none P [] is = tt
      all-of-none P (x ∷ xs) is = absurd (omega (arith, is))

  born-within : (n : Node) (sender pid parent : ℕ) (vars : Vars) (row : Row) → NodeIs n → 1 ≤ pid → AreVariables vars
      → IsFamilyWithin 0 row.family → NodeIs (be_born n sender pid parent vars (LivingBody row))
  born-within n sender pid parent vars row k low fine family =
      record {
        vars = fine;
        line = omega arith;
        under_way = λ call is. not_some call is;
        deeds = deeds-put pid 0 none_named (Proc pid) (LivingBody row) (deeds-none pid 0) (low, (refl, family));
        leases = k.leases;
        directory = k.directory;
      }

  born-with-within : (n : Node) (sender pid parent : ℕ) (vars : Vars) (body : Body) → NodeIs n → 1 ≤ pid
      → AreVariables vars → Taken (born_with n sender pid parent vars body)
  born-with-within n sender pid parent vars (LivingBody row) k low fine =
      of-test StepIs (is_new_row row) (Some (step_to (be_born n sender pid parent vars (LivingBody row))))
      (λ new. started (be_born n sender pid parent vars (LivingBody row))
      (born-within n sender pid parent vars row k low fine (no-children row new)))
  born-with-within n sender pid parent vars (Ended ending) k low fine = tt
  born-with-within n sender pid parent vars Gone k low fine = tt
  born-with-within n sender pid parent vars (AQueue queue) k low fine = tt
  born-with-within n sender pid parent vars (ASet set) k low fine = tt
  born-with-within n sender pid parent vars Removed k low fine = tt

  process-is-numbered : (pid : ℕ) (name : Name) → is_of_process pid name ≡ true
      → is_nonzero (name_number name) ≡ true → 1 ≤ pid
  process-is-numbered pid (Proc p) same nonzero =
      let is = eqb-true pid p same
      in let low = ltb-true 0 p nonzero
      in omega (arith, is, low)
  process-is-numbered pid (Msg id) same nonzero = absurd (false≢true same)
  process-is-numbered pid (Sem id) same nonzero = absurd (false≢true same)

  take-checkpoint-within : (n : Node) (sender pid parent : ℕ) (deed : PackedDeed) (vars : Vars) → NodeIs n
      → is_deed deed ≡ true → AreVariables vars → Taken (take_checkpoint script n sender pid parent deed vars)
  take-checkpoint-within n sender pid parent deed vars k fits fine =
      of-test StepIs (is_unborn n.stage && (is_forked_by script sender n.number && is_of_process pid deed.name))
      (option_and_then (born_with n sender pid parent vars) (read_deed deed))
      (λ may.
      let named : is_of_process pid deed.name ≡ true =
      (and_parts (is_forked_by script sender n.number) (is_of_process pid deed.name)
      (and_parts (is_unborn n.stage) _ may).1).1
      in of-next StepIs (read_deed deed) (born_with n sender pid parent vars)
      (λ body _. born-with-within n sender pid parent vars body k
      (process-is-numbered pid deed.name named (and_parts (is_nonzero (name_number deed.name)) _ fits).0) fine))

  take-leaving-within : (n : Node) (sender pid parent parent_node : ℕ) → NodeIs n
      → Taken (take_leaving script n sender pid parent parent_node)
  take-leaving-within n sender pid parent parent_node k =
      let placed : Directory = place_family n.leader.directory sender pid parent parent_node
      in let d : Directory = with_leaving placed sender
      in of-test StepIs (is_to_leader n sender && may_leave script n sender pid parent parent_node)
      (Some (send (step_to (with_directory n d)) sender frames.RecallAll))
      (λ may.
      let tests = and_parts (stays n.leader.directory sender) _
      (and_parts (is_to_leader n sender) (may_leave script n sender pid parent parent_node) may).1
      in let own = and_parts (nat_lt 0 pid) _ tests.1
      in let above = and_parts (nat_lt 0 parent) _ own.1
      in send-within script sound (step_to (with_directory n d)) sender frames.RecallAll
      (started (with_directory n d)
      (directory-within script sound n d k
      (leaving-within script sound placed sender
      (placed-within script sound (place_name n.leader.directory (Proc parent) parent_node) (Proc pid) sender
      (placed-within script sound n.leader.directory (Proc parent) parent_node k.directory
      (ltb-true 0 parent above.0)) (ltb-true 0 pid own.0))))) refl tt)

  sent-to-leader : (fs : List Frame) (s : Step) → StepIs s → AllByRecursion IsFrameWithin fs
      → StepIs (fold send_to_leader s fs)
  sent-to-leader [] s k all = k
  sent-to-leader (f ∷ fs) s k all =
      let f_within : IsFrameWithin f = all.0
      in sent-to-leader fs (send s 1 f) (send-within script sound s 1 f k f_within.limits f_within.says) all.1

  given-within : (own most : ℕ) (P : ℕ → Name) (bodies : Numbered Body) → most ≤ 20000
      → AllByRecursion (λ (e : ℕ × Body). IsDeedWithin own most (P e.0) e.1) bodies
      → AllByRecursion IsFrameWithin (map give_back (pack_all P bodies))
  given-within own most P [] few all = tt
  given-within own most P (e ∷ bodies) few all = (
    record { limits = give-back-is-frame own most (P e.0) e.1 few all.0; says = tt },
    given-within own most P bodies few all.1,
  )

  mapped-both : (xs ys : List PackedDeed) → AllByRecursion IsFrameWithin (map give_back xs)
      → AllByRecursion IsFrameWithin (map give_back ys)
      → AllByRecursion IsFrameWithin (map give_back (xs ++ ys))
  mapped-both [] ys all more = more
  mapped-both (x ∷ xs) ys all more = (all.0, mapped-both xs ys all.1 more)

  hand-over-within : (n : Node) (call : Call) → NodeIs n → nat_lt (length n.deeds.processes) 256 ≡ true
      → Taken (hand_over n call)
  hand-over-within n call k count =
      let empty : Node = record n { stage = Left; deeds = none_named; watches = none_named }
      in let own : ℕ = n.pid
      in let most : ℕ = n.caller.line
      in let few : most ≤ 20000 = few-lines script sound n k
      in let queues : List PackedDeed = pack_all Msg n.deeds.queues
      in let sets : List PackedDeed = pack_all Sem n.deeds.sets
      in of-test StepIs (is_end call)
      (Some (fold send_to_leader (step_to empty) (give_all n.deeds n.pid n.parent call)))
      (λ ends. sent-to-leader (give_all n.deeds n.pid n.parent call) (step_to empty)
      (started empty
      (tables-within script sound n Left none_named none_named n.leases n.cache k (deeds-none own most) k.leases))
      (all-both IsFrameWithin (map give_back (queues ++ sets))
      (frames.Left (parcel_of n.deeds n.pid n.parent call) ∷ [])
      (mapped-both queues sets (given-within own most Msg n.deeds.queues few k.deeds.each.queues)
      (given-within own most Sem n.deeds.sets few k.deeds.each.sets))
      (record { limits = left-is-frame own most n.pid n.parent n.deeds call few k.deeds ends count; says = tt }, tt)))

  take-recall-all-within : (n : Node) (sender : ℕ) → NodeIs n → nat_lt (length n.deeds.processes) 256 ≡ true
      → Taken (take_recall_all n sender)
  take-recall-all-within n sender k count =
      of-test StepIs (nat_eq sender 1 && is_leaving_stage n.stage) (option_and_then (hand_over n) n.caller.under_way)
      (λ _. of-next StepIs n.caller.under_way (hand_over n) (λ call _. hand-over-within n call k count))

  take-left-within : (n : Node) (sender : ℕ) (parcel : Parcel) → NodeIs n
      → is_frame (frames.ExitTo parcel) ≡ true → Taken (take_left script n sender parcel)
  take-left-within n sender parcel k can =
      of-test StepIs (is_leader n && may_take n sender parcel)
      (option_and_then (end_released script n sender parcel) (fitting_bodies n.deeds parcel))
      (λ _. of-next StepIs (fitting_bodies n.deeds parcel) (end_released script n sender parcel)
      (λ bodies _. release-within script sound (Ending parcel ∷ [])
      (step_to (with_directory n (with_left n.leader.directory sender)))
      (started (with_directory n (with_left n.leader.directory sender))
      (directory-within script sound n (with_left n.leader.directory sender) k k.directory)) (can, tt)))

  take-exit-within : (n : Node) (sender : ℕ) (parcel : Parcel) → NodeIs n → is_frame (frames.ExitTo parcel) ≡ true
      → Taken (take_exit script n sender parcel)
  take-exit-within n sender parcel k can =
      of-test StepIs (is_from_leader n sender && not (list_any (leases_hold n.leases) (names_in parcel)))
      (exit_here script (step_to n) parcel)
      (λ _. exit-here-within script sound (step_to n) parcel (started n k) can)

  -- ---- a turn

  -- the fields of a frame within the limits
  abbrev fields : (f : Frame) → is_frame f ≡ true → has_fields f ≡ true
  fields f h = (and_parts (has_fields f) _ h).0

  take-turn-within : (n : Node) (sender : ℕ) (frame : Frame) → NodeIs n → is_frame frame ≡ true → HasVariables frame
      → has_room_for n sender frame ≡ true → Taken (take_by_kind script n sender frame)
  take-turn-within n sender (frames.Ask ticket pid call) k f ranges room =
      take-ask-within n sender ticket pid call k room
  take-turn-within n sender (frames.Request ticket pid call) k f ranges room =
      take-request-within n sender ticket pid call k
      (and_parts (is_nonzero ticket) (is_call call) (fields (frames.Request ticket pid call) f)).0
  take-turn-within n sender (frames.Forward asked) k f ranges room = take-forward-within n sender asked k f
  take-turn-within n sender (frames.Bounce asked) k f ranges room =
      take-bounce-within n sender asked k (bounced-is-forwarded asked f)
  take-turn-within n sender (frames.Answer ticket reply) k f ranges room = take-answer-within n sender ticket reply k
  take-turn-within n sender (frames.NotOwner ticket) k f ranges room = take-not-owner-within n ticket k
  take-turn-within n sender (frames.LeaseAsk kind) k f ranges room = take-lease-ask-within n sender kind k
  take-turn-within n sender (frames.Lease kind first) k f ranges room = take-lease-within n sender kind first k
  take-turn-within n sender (frames.Placed name node) k f ranges room =
      take-placed-within n sender name node k (nonzero-is-some name (fields (frames.Placed name node) f))
  take-turn-within n sender (frames.Checkpoint pid parent deed vars) k f ranges room =
      let w = and_parts (is_deed deed) (are_vars vars) (fields (frames.Checkpoint pid parent deed vars) f)
      in take-checkpoint-within n sender pid parent deed vars k w.0 (brought-are-variables vars w.1 ranges)
  take-turn-within n sender (frames.Suggest name node) k f ranges room =
      take-suggest-within n sender name node k (nonzero-is-some name (fields (frames.Suggest name node) f))
  take-turn-within n sender (frames.Recall name) k f ranges room = take-recall-within n sender name k
  take-turn-within n sender (frames.GiveBack deed) k f ranges room =
      take-give-back-within n sender deed k (fields (frames.GiveBack deed) f)
  take-turn-within n sender (frames.Grant deed) k f ranges room =
      take-grant-within n sender deed k (fields (frames.Grant deed) f)
  take-turn-within n sender (frames.Leaving pid parent parent_node) k f ranges room =
      take-leaving-within n sender pid parent parent_node k
  take-turn-within n sender frames.RecallAll k f ranges room = take-recall-all-within n sender k room
  take-turn-within n sender (frames.Left parcel) k f ranges room =
      take-left-within n sender parcel k (left-is-exit parcel f)
  take-turn-within n sender (frames.ExitTo parcel) k f ranges room = take-exit-within n sender parcel k f
  take-turn-within n sender (frames.Cancel asked) k f ranges room = take-cancel-within script sound n asked k f

  struck-within : (o : Option Step) → Taken o → Taken (option_map (strike script) o)
  struck-within None h = tt
  struck-within (Some s) h = strike-within script sound s h

-- a frame that comes is within the limits, and there is room for what it makes the node send
what-comes-is-within-and-has-room : (n : Node) (sender : ℕ) (frame : Frame) → may_come n sender frame ≡ true
    → (is_frame frame ≡ true) × (has_room_for n sender frame ≡ true)
unfolding may_come
what-comes-is-within-and-has-room n sender frame may =
    let first = and_parts (is_frame frame) (has_room_for n sender frame && is_given_out n frame) may
    in (first.0, (and_parts (has_room_for n sender frame) (is_given_out n frame) first.1).0)

-- A node within limits that takes a frame stays so, and so is what it sends.
pub taken-within : TakingKeepsLimits
taken-within script n sender frame s sound k ranges is =
    let taken = if-some (may_come n sender frame) (take_by_rules script n sender frame) s is
    in let come = what-comes-is-within-and-has-room n sender frame taken.0
    in of-some (IsStepWithin script) (take_by_rules script n sender frame) s
    (struck-within script sound (take_by_kind script n sender frame)
    (take-turn-within script sound n sender frame k come.0 ranges come.1)) taken.1

-- The same where it starts a call.
pub started-within : RunningKeepsLimits
started-within script n s sound k is =
    of-some (IsStepWithin script) (run script n) s (run-within script sound n k) is

-- What has been sent has variables, where it is a Checkpoint,
pub sent-has-variables : (frame : Frame) → IsFrameWithin frame → HasVariables frame
sent-has-variables (frames.Checkpoint pid parent deed vars) f = f.says
sent-has-variables frame f = tt

room-for-sent : (n : Node) (sender : ℕ) (frame : Frame) → IsFrameWithin frame
    → nat_lt (length n.deeds.processes) 256 ≡ true → has_room_for n sender frame ≡ true
room-for-sent n sender (frames.Ask ticket pid call) f count = f.says
room-for-sent n sender frames.RecallAll f count = count
room-for-sent n sender frame f count = refl

-- and passes the tests of who takes it.
pub sent-frames-pass : SentFramesPass
sent-frames-pass n sender frame f count = (
  sent-has-variables frame f,
  ap (λ t. t && has_room_for n sender frame) f.limits ∙ room-for-sent n sender frame f count,
)

-- ---- the opening

-- A node that isn't born is within limits, with whatever number.
pub unborn-within : (script : Script) (number : ℕ) → IsNodeWithin script (unborn_node number)
unborn-within script number =
    record {
      vars = none-are-variables;
      line = omega arith;
      under_way = λ call is. not_some call is;
      deeds = deeds-none 0 0;
      leases = none-leased;
      directory = record { processes = (omega arith, tt); queues = tt; sets = tt };
    }
  where
    none-leased : (kind : Kind) → AllByRecursion (λ (n : ℕ). 1 ≤ n) (for_kind no_leases kind)
    none-leased kinds.Proc = tt
    none-leased kinds.Msg = tt
    none-leased kinds.Sem = tt

first-within : (script : Script) → IsNodeWithin script first_node
first-within script =
    record {
      vars = none-are-variables;
      line = omega arith;
      under_way = λ call is. not_some call is;
      deeds = deeds-put 1 0 none_named (Proc 1) (LivingBody new_row) (deeds-none 1 0)
          (omega arith, (refl, no-family-within 0));
      leases = leased;
      directory = record { processes = (omega arith, tt); queues = tt; sets = tt };
    }
  where
    leased : (kind : Kind) → AllByRecursion (λ (n : ℕ). 1 ≤ n) (for_kind leader_leases kind)
    leased kinds.Proc = numbers-from 2 7 (omega arith)
    leased kinds.Msg = tt
    leased kinds.Sem = tt

-- Each node begins within limits.
pub opening-within : OpeningNodesAreWithinLimits
opening-within script number = by (nat_eq number 1)
  where
    by : (first : Bool) → IsNodeWithin script (elim first [ true ↦ first_node | false ↦ unborn_node number ])
    by true = first-within script
    by false = unborn-within script number
