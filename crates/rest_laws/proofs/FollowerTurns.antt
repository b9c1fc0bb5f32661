-- A node other than the leader stays one, and knows nothing of the leader's afterwards that it didn't know before: each
-- frame that it takes, and its turns.
use Rattle.std.proofs.Common.{◌≡◌, ℕ, Bool, true, false, not, ◌&&◌, nat_eq, List, [], ◌∷◌, Option, Some, None, refl, sym, ◌∙◌}
use Rattle.std.specs.Prelude.{if◌then◌else◌}
use Rattle.std.specs.List.{list_any}
use Rattle.std.specs.Option.{option_and_then, option_map}
use Rattle.std.proofs.lemmas.Bool.{false≢true}
use Rattle.pico_base.specs.declared.call.Call.{Call}
use Rattle.pico_base.specs.declared.call.Home.{Home}
use Rattle.pico_base.specs.declared.call.Home.TheVariants as homes
use Rattle.pico_base.specs.declared.numbers.Kind.{Kind}
use Rattle.pico_base.specs.declared.numbers.Name.{Name}
use Rattle.pico_base.specs.declared.numbers.Name.TheVariants.{Proc, Msg, Sem}
use Rattle.pico_base.specs.declared.reply.Errno.TheVariants.{Eintr}
use Rattle.pico_base.specs.declared.reply.Outcome.{Outcome}
use Rattle.pico_base.specs.declared.reply.Reply.{Reply}
use Rattle.pico_base.specs.declared.reply.Reply.TheVariants as replies
use Rattle.pico_base.specs.declared.script.Script.{Script}
use Rattle.pico_base.specs.Home.{home_of}
use Rattle.rpc_frame.specs.declared.asked.Asked.{Asked}
use Rattle.rpc_frame.specs.declared.deed.PackedDeed.{PackedDeed}
use Rattle.rpc_frame.specs.declared.deed.Parcel.{Parcel}
use Rattle.rpc_frame.specs.declared.frame.Frame.{Frame}
use Rattle.rpc_frame.specs.declared.frame.Frame.TheVariants as frames
use Rattle.number_maps.specs.Maps.{Numbered}
use Rattle.kernel_laws.proofs.Plain.{Of, by_test, of-map, of-next, of-some, of-test}
use Rattle.kernel_model.specs.Script.{Vars}
use Rattle.waiting_model.specs.declared.callers.Wake.{Wake}
use Rattle.waiting_model.specs.Calls.{is_withdrawal, waits_at, withdrawn_from}
use Rattle.node_model.specs.Bodies.{Body, Living as LivingBody}
use Rattle.node_model.specs.Caller.{note_cancel, to_cancel}
use Rattle.node_model.specs.Directory.{has_more, is_coming}
use Rattle.node_model.specs.Entries.{outcome_with}
use Rattle.node_model.specs.Kinds.{get_named, is_object, none_named, put_all, put_named}
use Rattle.node_model.specs.Leases.{leases_hold, refill, takes_number}
use Rattle.node_model.specs.Parcels.{Committed, commit_exit, fitting_bodies, give_all}
use Rattle.node_model.specs.Serving.{Leaves, NotHeld, NotThere, Withdrawn, withdraw}
use Rattle.node_model.specs.Spelling.{pack, read_deed}
use Rattle.world_model.specs.Calls.{answered_by, ask_after, asks_as, bounce, bounce_or_nobody, end_with_reply, forwarded_by, is_for_others, is_from_leader, is_on_name_or_removal, is_to_leader, requested_by, take_answer, take_forward, take_not_owner, take_request, with_forgotten, with_learnt}
use Rattle.world_model.specs.Ends.{answer_own, enter_exit, exit_here, exit_with, is_struck_by_end, names_in, parked_parent}
use Rattle.world_model.specs.Lives.{be_born, born_with, hand_over, is_end, is_forked_by, is_new_row, is_of_process, may_leave, may_take, take_checkpoint, take_exit, take_recall_all}
use Rattle.world_model.specs.Moves.{give_back as gives_back, has_nodes, is_new_here, keep, receive_deed, take_grant, take_recall}
use Rattle.world_model.specs.Node.{Left, Node, holds, is_born, is_leader, is_leaving_stage, is_node, is_unborn, under_way_as}
use Rattle.world_model.specs.Numbers.{make}
use Rattle.world_model.specs.Ranges.{go_on_with, may_lease, take_lease}
use Rattle.world_model.specs.Routes.{cancel, route_cancel}
use Rattle.world_model.specs.Serving.{interrupted, serve_asked, serve_nobody, without_deed}
use Rattle.world_model.specs.Starting.{run}
use Rattle.world_model.specs.Step.{Step, enter_with, reply_here, send, step_to, with_deeds, with_node, with_strike}
use Rattle.world_model.specs.Strikes.{cancelled, cancelled_at, strike, strike_at, strike_call, strike_object, take_cancel, tell_leader, withdrawing}
use Rattle.world_model.specs.Turn.{take_by_kind, take_by_rules}
use Rattle.rest_laws.proofs.Followers.{IsFollower, all-sent-follow, ask-follows, carry-out-follows, entered-follows, from-it, make-follows, not-done, reply-here-follows, run-follows, sent-follows, serve-asked-follows, serve-nobody-follows}

first-of-two : (a b : Bool) → (a && b) ≡ true → a ≡ true
first-of-two true b h = refl
first-of-two false b h = absurd (false≢true h)

learnt-same-leader : (n : Node) (sender : ℕ) (home : Home) → (with_learnt n sender home).leader ≡ n.leader
learnt-same-leader n sender (homes.At name) = refl
learnt-same-leader n sender (homes.Removal name) = refl
learnt-same-leader n sender homes.Own = refl
learnt-same-leader n sender homes.Keys = refl
learnt-same-leader n sender homes.Parent = refl

learnt-same-number : (n : Node) (sender : ℕ) (home : Home) → (with_learnt n sender home).number ≡ n.number
learnt-same-number n sender (homes.At name) = refl
learnt-same-number n sender (homes.Removal name) = refl
learnt-same-number n sender homes.Own = refl
learnt-same-number n sender homes.Keys = refl
learnt-same-number n sender homes.Parent = refl

module _ (script : Script) (n : Node) (other : is_leader n ≡ false) where
  abbrev Is : Step → Type 0
  Is s = IsFollower script n other s

  abbrev Stays : Option Step → Type 0
  Stays o = Of (IsFollower script n other) o

  itself : Is (step_to n)
  itself = from-it script n other n refl refl

  -- the leader alone takes this
  leader-only : (more : Bool) (o : Option Step) → Stays (if is_leader n && more then o else None)
  leader-only more o =
      of-test Is (is_leader n && more) o
      (λ e. absurd (false≢true (sym other ∙ first-of-two (is_leader n) more e)))

  -- from another node
  to-leader-only : (sender : ℕ) (more : Bool) (o : Option Step)
      → Stays (if is_to_leader n sender && more then o else None)
  to-leader-only sender more o =
      of-test Is (is_to_leader n sender && more) o
      (λ e. absurd
      (false≢true
      (sym other
      ∙ first-of-two (is_leader n) (not (nat_eq sender 1)) (first-of-two (is_to_leader n sender) more e))))

  -- ---- frames about a call

  bounce-or-nobody-follows : (asked : Asked) (name : Name) → Is (bounce_or_nobody script n asked name)
  bounce-or-nobody-follows asked name =
      by_test Is (leases_hold n.leases name) (serve_nobody script (step_to n) name asked) (bounce n asked)
      (λ _. serve-nobody-follows script n other (step_to n) name asked itself)
      (λ _. sent-follows script n other (step_to n) 1 (frames.Bounce asked) itself)

  forwarded-follows : (asked : Asked) (home : Home) → Stays (forwarded_by script n asked home)
  forwarded-follows asked (homes.At name) =
      by_test Stays (holds n name) (serve_asked script (step_to n) name asked)
      (Some (bounce_or_nobody script n asked name))
      (λ _. serve-asked-follows script n other (step_to n) name asked itself)
      (λ _. bounce-or-nobody-follows asked name)
  forwarded-follows asked (homes.Removal name) =
      by_test Stays (holds n name) (Some (bounce n asked)) (Some (bounce_or_nobody script n asked name))
      (λ _. sent-follows script n other (step_to n) 1 (frames.Bounce asked) itself)
      (λ _. bounce-or-nobody-follows asked name)
  forwarded-follows asked homes.Own = tt
  forwarded-follows asked homes.Keys = tt
  forwarded-follows asked homes.Parent = tt

  take-forward-follows : (sender : ℕ) (asked : Asked) → Stays (take_forward script n sender asked)
  take-forward-follows sender asked =
      of-test Is (is_from_leader n sender && (is_node script asked.caller && not (is_withdrawal asked.call)))
      (forwarded_by script n asked (home_of asked.pid asked.call))
      (λ _. forwarded-follows asked (home_of asked.pid asked.call))

  requested-follows : (asked : Asked) (home : Home) → Stays (requested_by script n asked home)
  requested-follows asked (homes.At name) =
      by_test Stays (holds n name) (serve_asked script (step_to n) name asked)
      (Some (send (step_to n) asked.caller (frames.NotOwner asked.ticket)))
      (λ _. serve-asked-follows script n other (step_to n) name asked itself)
      (λ _. sent-follows script n other (step_to n) asked.caller (frames.NotOwner asked.ticket) itself)
  requested-follows asked (homes.Removal name) = tt
  requested-follows asked homes.Own = tt
  requested-follows asked homes.Keys = tt
  requested-follows asked homes.Parent = tt

  take-request-follows : (sender ticket pid : ℕ) (call : Call) → Stays (take_request script n sender ticket pid call)
  take-request-follows sender ticket pid call =
      of-test Is ((is_born n && not (nat_eq sender n.number)) && not (is_withdrawal call))
      (requested_by script n (record { caller = sender; ticket = ticket; pid = pid; call = call }) (home_of pid call))
      (λ _. requested-follows (record { caller = sender; ticket = ticket; pid = pid; call = call }) (home_of pid call))

  ask-after-follows : (call : Call) (home : Home) → Stays (ask_after script n call home)
  ask-after-follows call (homes.At name) =
      ask-follows script n other (step_to (with_forgotten n name)) call
      (from-it script n other (with_forgotten n name) refl refl)
  ask-after-follows call (homes.Removal name) = tt
  ask-after-follows call homes.Own = tt
  ask-after-follows call homes.Keys = tt
  ask-after-follows call homes.Parent = tt

  take-not-owner-follows : (ticket : ℕ) → Stays (take_not_owner script n ticket)
  take-not-owner-follows ticket =
      of-next Is (under_way_as n ticket) (λ call. ask_after script n call (home_of n.pid call))
      (λ call _. ask-after-follows call (home_of n.pid call))

  answered-follows : (sender : ℕ) (reply : Reply) (call : Call) → Stays (answered_by script n sender reply call)
  answered-follows sender reply call =
      of-test Is (is_for_others (home_of n.pid call)) (Some (step_to (end_with_reply script n sender call reply)))
      (λ _. from-it script n other (end_with_reply script n sender call reply)
      (learnt-same-leader n sender (home_of n.pid call)) (learnt-same-number n sender (home_of n.pid call)))

  take-answer-follows : (sender ticket : ℕ) (reply : Reply) → Stays (take_answer script n sender ticket reply)
  take-answer-follows sender ticket reply =
      of-next Is (under_way_as n ticket) (answered_by script n sender reply)
      (λ call _. answered-follows sender reply call)

  -- ---- new numbers

  go-on-follows : (kind : Kind) (first : ℕ) (call : Call) → Stays (go_on_with script n kind first call)
  go-on-follows kind first call =
      of-test Is (takes_number kind call)
      (make script (step_to (record n { leases = refill n.leases kind first })) call kind)
      (λ _. make-follows script n other (step_to (record n { leases = refill n.leases kind first })) call kind
      (from-it script n other (record n { leases = refill n.leases kind first }) refl refl))

  take-lease-follows : (sender : ℕ) (kind : Kind) (first : ℕ) → Stays (take_lease script n sender kind first)
  take-lease-follows sender kind first =
      of-test Is (nat_eq sender 1 && may_lease n kind first)
      (option_and_then (go_on_with script n kind first) n.caller.under_way)
      (λ _. of-next Is n.caller.under_way (go_on_with script n kind first) (λ call _. go-on-follows kind first call))

  -- ---- a queue or a set that moves

  take-recall-follows : (sender : ℕ) (name : Name) → Stays (take_recall n sender name)
  take-recall-follows sender name =
      of-test Is (is_from_leader n sender && is_object name) (option_map (gives_back n name) (get_named n.deeds name))
      (λ _. of-map Is (get_named n.deeds name) (gives_back n name)
      (λ body _. sent-follows script n other (step_to (without_deed n name)) 1 (frames.GiveBack (pack name body))
      (from-it script n other (without_deed n name) refl refl)))

  take-grant-follows : (sender : ℕ) (deed : PackedDeed) → Stays (take_grant script n sender deed)
  take-grant-follows sender deed =
      of-test Is (is_from_leader n sender && is_new_here n deed.name)
      (option_and_then (receive_deed script n deed.name) (read_deed deed))
      (λ _. of-next Is (read_deed deed) (receive_deed script n deed.name)
      (λ body _. of-test Is (has_nodes script body) (Some (step_to (keep n deed.name body)))
      (λ _. from-it script n other (keep n deed.name body) refl refl)))

  -- ---- a process's life

  born-follows : (sender pid parent : ℕ) (vars : Vars) (body : Body) → Stays (born_with n sender pid parent vars body)
  born-follows sender pid parent vars (LivingBody row) =
      of-test Is (is_new_row row) (Some (step_to (be_born n sender pid parent vars (LivingBody row))))
      (λ _. from-it script n other (be_born n sender pid parent vars (LivingBody row)) refl refl)
  born-follows sender pid parent vars body = tt

  take-checkpoint-follows : (sender pid parent : ℕ) (deed : PackedDeed) (vars : Vars)
      → Stays (take_checkpoint script n sender pid parent deed vars)
  take-checkpoint-follows sender pid parent deed vars =
      of-test Is (is_unborn n.stage && (is_forked_by script sender n.number && is_of_process pid deed.name))
      (option_and_then (born_with n sender pid parent vars) (read_deed deed))
      (λ _. of-next Is (read_deed deed) (born_with n sender pid parent vars)
      (λ body _. born-follows sender pid parent vars body))

  hand-over-follows : (call : Call) → Stays (hand_over n call)
  hand-over-follows call =
      let empty : Node = record n { stage = Left; deeds = none_named; watches = none_named }
      in of-test Is (is_end call) (Some _)
      (λ _. all-sent-follow script n other (give_all n.deeds n.pid n.parent call) (step_to empty)
      (from-it script n other empty refl refl))

  take-recall-all-follows : (sender : ℕ) → Stays (take_recall_all n sender)
  take-recall-all-follows sender =
      of-test Is (nat_eq sender 1 && is_leaving_stage n.stage) (option_and_then (hand_over n) n.caller.under_way)
      (λ _. of-next Is n.caller.under_way (hand_over n) (λ call _. hand-over-follows call))

  own-answered-follows : (wakes : List Wake) (s : Step) → Is s → Is (answer_own script s wakes)
  own-answered-follows [] s k = k
  own-answered-follows (w ∷ wakes) s k =
      own-answered-follows wakes (reply_here script s w.reply s.node.caller.under_way)
      (reply-here-follows script n other s w.reply s.node.caller.under_way k)

  enter-exit-follows : (parcel : Parcel) (c : Committed) → Is (enter_exit script (step_to n) parcel c)
  enter-exit-follows parcel c =
      let struck : Step = with_strike (step_to n) (is_struck_by_end n parcel.parent)
      in let held : Step = with_deeds struck (put_all n.deeds c.changes)
      in let outcome : Outcome = outcome_with (Some replies.Ended) c.wakes
      in own-answered-follows c.wakes (enter_with held parcel.pid parcel.call outcome)
      (entered-follows script n other held parcel.pid parcel.call outcome (record { leader = refl; number = refl }))

  exit-with-follows : (parcel : Parcel) (bodies : Option (Numbered Body)) (parent : Option Body)
      → Stays (exit_with script (step_to n) parcel bodies parent)
  exit-with-follows parcel (Some bodies) (Some parent) =
      of-map Is (commit_exit parcel bodies (parked_parent n parcel.parent) parent)
      (enter_exit script (step_to n) parcel) (λ c _. enter-exit-follows parcel c)
  exit-with-follows parcel None parent = tt
  exit-with-follows parcel (Some bodies) None = tt

  take-exit-follows : (sender : ℕ) (parcel : Parcel) → Stays (take_exit script n sender parcel)
  take-exit-follows sender parcel =
      of-test Is (is_from_leader n sender && not (list_any (leases_hold n.leases) (names_in parcel)))
      (exit_here script (step_to n) parcel)
      (λ _. exit-with-follows parcel (fitting_bodies n.deeds parcel) (get_named n.deeds (Proc parcel.parent)))

  -- ---- a withdrawal, and a strike

  interrupted-follows : (s : Step) (name : Name) (asked : Asked) (body : Body) → Is s
      → Is (interrupted script s name asked body)
  interrupted-follows s name asked body k =
      carry-out-follows script n other (with_deeds s (put_named s.node.deeds name body)) asked (replies.Fail Eintr)
      (record { leader = k.leader; number = k.number })

  told-follows : (s : Step) (name : Name) (asked : Asked) → Is s → Is (tell_leader script s name asked)
  told-follows s name asked k =
      by_test Is (is_leader s.node) (route_cancel script s name asked) (cancel s 1 asked)
      (λ e. not-done script n other s k e) (λ _. sent-follows script n other s 1 (frames.Cancel asked) k)

  strike-object-follows : (s : Step) (name : Name) (asked : Asked) (r : Withdrawn) → Is s
      → Is (strike_object script s name asked r)
  strike-object-follows s name asked (Leaves body) k = interrupted-follows s name asked body k
  strike-object-follows s name asked NotThere k = told-follows s name asked k
  strike-object-follows s name asked NotHeld k = told-follows s name asked k

  strike-at-follows : (s : Step) (asked : Asked) (name : Name) → Is s → Is (strike_at script s asked name)
  strike-at-follows s asked (Proc pid) k = carry-out-follows script n other s asked (replies.Fail Eintr) k
  strike-at-follows s asked (Msg id) k =
      strike-object-follows s (Msg id) asked (withdraw s.node.deeds (Msg id) asked.pid asked.ticket) k
  strike-at-follows s asked (Sem id) k =
      strike-object-follows s (Sem id) asked (withdraw s.node.deeds (Sem id) asked.pid asked.ticket) k

  strike-call-follows : (s : Step) (o : Option Call) → Is s → Is (strike_call script s o)
  strike-call-follows s None k = k
  strike-call-follows s (Some call) k =
      strike-at-follows (with_node s (record s.node { caller = note_cancel s.node.caller })) (withdrawing s.node call)
      (waits_at s.node.pid call) (record { leader = k.leader; number = k.number })

  strike-follows : (s : Step) → Is s → Is (strike script s)
  strike-follows s k =
      by_test Is s.strikes (strike_call script s (to_cancel s.node.caller)) s
      (λ _. strike-call-follows s (to_cancel s.node.caller) k) (λ _. k)

  cancelled-at-follows : (name : Name) (asked : Asked) (r : Withdrawn) → Is (cancelled_at script n name asked r)
  cancelled-at-follows name asked (Leaves body) = interrupted-follows (step_to n) name asked body itself
  cancelled-at-follows name asked NotThere = itself
  cancelled-at-follows name asked NotHeld =
      by_test Is (leases_hold n.leases name) (step_to n) (cancel (step_to n) 1 asked) (λ _. itself)
      (λ _. sent-follows script n other (step_to n) 1 (frames.Cancel asked) itself)

  cancelled-follows : (asked : Asked) (name : Name) → Is (cancelled script n asked name)
  cancelled-follows asked name =
      by_test Is (is_leader n) (route_cancel script (step_to n) name asked)
      (cancelled_at script n name asked (withdraw n.deeds name asked.pid asked.ticket))
      (λ e. absurd (false≢true (sym other ∙ e)))
      (λ _. cancelled-at-follows name asked (withdraw n.deeds name asked.pid asked.ticket))

  take-cancel-follows : (asked : Asked) → Stays (take_cancel script n asked)
  take-cancel-follows asked =
      of-test Is (is_born n && is_node script asked.caller)
      (option_map (cancelled script n asked) (withdrawn_from asked.call))
      (λ _. of-map Is (withdrawn_from asked.call) (cancelled script n asked)
      (λ name _. cancelled-follows asked name))

  -- ---- a turn

  -- A node that takes a frame stays without what the leader knows,
  take-kind-follows : (sender : ℕ) (frame : Frame)
      → Of (IsFollower script n other) (take_by_kind script n sender frame)
  take-kind-follows sender (frames.Ask ticket pid call) =
      to-leader-only sender (asks_as is_for_others pid call) _
  take-kind-follows sender (frames.Request ticket pid call) = take-request-follows sender ticket pid call
  take-kind-follows sender (frames.Forward asked) = take-forward-follows sender asked
  take-kind-follows sender (frames.Bounce asked) =
      to-leader-only sender (is_node script asked.caller && asks_as is_on_name_or_removal asked.pid asked.call) _
  take-kind-follows sender (frames.Answer ticket reply) = take-answer-follows sender ticket reply
  take-kind-follows sender (frames.NotOwner ticket) = take-not-owner-follows ticket
  take-kind-follows sender (frames.LeaseAsk kind) = to-leader-only sender (has_more n.leader.directory kind) _
  take-kind-follows sender (frames.Lease kind first) = take-lease-follows sender kind first
  take-kind-follows sender (frames.Placed name node) =
      to-leader-only sender (is_node script node && (not (nat_eq node 1) && not (leases_hold n.leases name))) _
  take-kind-follows sender (frames.Checkpoint pid parent deed vars) =
      take-checkpoint-follows sender pid parent deed vars
  take-kind-follows sender (frames.Suggest name node) =
      to-leader-only sender (is_node script node && is_object name) _
  take-kind-follows sender (frames.Recall name) = take-recall-follows sender name
  take-kind-follows sender (frames.GiveBack deed) =
      leader-only (is_coming n.leader.directory deed.name && is_new_here n deed.name) _
  take-kind-follows sender (frames.Grant deed) = take-grant-follows sender deed
  take-kind-follows sender (frames.Leaving pid parent parent_node) =
      to-leader-only sender (may_leave script n sender pid parent parent_node) _
  take-kind-follows sender frames.RecallAll = take-recall-all-follows sender
  take-kind-follows sender (frames.Left parcel) = leader-only (may_take n sender parcel) _
  take-kind-follows sender (frames.ExitTo parcel) = take-exit-follows sender parcel
  take-kind-follows sender (frames.Cancel asked) = take-cancel-follows asked

  -- also where a signal strikes its process.
  pub take-turn-follows : (sender : ℕ) (frame : Frame)
      → Of (IsFollower script n other) (take_by_rules script n sender frame)
  take-turn-follows sender frame =
      of-map Is (take_by_kind script n sender frame) (strike script)
      (λ s is. strike-follows s
      (of-some (IsFollower script n other) (take_by_kind script n sender frame) s (take-kind-follows sender frame) is))

  -- So does one that starts a call.
  pub run-turn-follows : Of (IsFollower script n other) (run script n)
  run-turn-follows = run-follows script n other
