-- A number is taken, and a process, queue or set is made with it: bounds stay.
use Rattle.std.proofs.Common.{ℕ, not, ◌&&◌, List, [], ◌∷◌, Result, Ok, Err}
use Rattle.pico_base.specs.declared.call.Call.{Call}
use Rattle.pico_base.specs.declared.call.Call.TheVariants as calls
use Rattle.pico_base.specs.declared.numbers.Kind.{Kind}
use Rattle.pico_base.specs.declared.numbers.Name.{Name}
use Rattle.pico_base.specs.declared.numbers.Name.TheVariants.{Proc, Msg, Sem}
use Rattle.pico_base.specs.declared.reply.Errno.{Errno}
use Rattle.pico_base.specs.declared.reply.Reply.TheVariants as replies
use Rattle.pico_base.specs.declared.script.Script.{Script}
use Rattle.rpc_frame.specs.declared.frame.Frame.TheVariants as frames
use Rattle.kernel_laws.proofs.Plain.{Of, by_test, of-map, of-next, of-some, of-test}
use Rattle.kernel_model.specs.Fitting.{child_vars}
use Rattle.kernel_model.specs.Queue.{empty_queue}
use Rattle.kernel_model.specs.Row.{Row}
use Rattle.kernel_model.specs.SemaphoreSet.{SemaphoreSet, new_set}
use Rattle.waiting_model.specs.Waiters.{unawaited}
use Rattle.node_model.specs.Bodies.{AQueue, ASet, Body}
use Rattle.node_model.specs.Caller.{caller_place}
use Rattle.node_model.specs.Directory.{has_more, place_name, upcoming, with_range}
use Rattle.node_model.specs.Kinds.{for_kind, put_named, with_kind}
use Rattle.node_model.specs.Leases.{lease_of, refill}
use Rattle.node_model.specs.Serving.{child_body, parent_body}
use Rattle.node_model.specs.Spelling.{pack}
use Rattle.world_model.specs.Node.{Node, asked_here, is_leader, own_row}
use Rattle.world_model.specs.Numbers.{Taken, fork_with, knows_any, make, make_object, make_set, make_taken, make_with, take_first, take_from, take_from_next, take_number, tell_place, with_next_range}
use Rattle.world_model.specs.Step.{Step, carry_out, send, with_deeds, with_directory, with_node}
use Rattle.world_model.specs.World.{IsNode}
use Rattle.bound_laws.specs.Bounded.{NodeIsBounded, StepIsBounded, WaitersAreOfNodes}
use Rattle.bound_laws.proofs.Parts.{place-name-names, range-names}
use Rattle.bound_laws.proofs.StepParts.{carry-out-bounded, first-is-node, send-bounded, send-first-bounded, with-deeds-bounded, with-directory-bounded, with-node-bounded, with-tables-bounded}
use Rattle.bound_laws.proofs.Waiters.{put-deed-bounded}

-- a call that forks, forks a block of the script
abbrev pub ForksNodes : Script → Call → Type 0
ForksNodes script (calls.Fork block) = IsNode script block
ForksNodes script call = Unit {0}

module _ (script : Script) where
  abbrev IsTakenWell : Taken → Type 0
  IsTakenWell t = NodeIsBounded script t.node

  -- ---- a number

  take-first-bounded : (n : Node) (kind : Kind) (numbers : List ℕ) → NodeIsBounded script n
      → Of IsTakenWell (take_first n kind numbers)
  take-first-bounded n kind [] k = tt
  take-first-bounded n kind (number ∷ numbers) k =
      with-tables-bounded script n n.deeds n.watches (with_kind n.leases kind numbers) n.stage k k.deeds
      k.watches

  next-range-bounded : (n : Node) (kind : Kind) → NodeIsBounded script n → NodeIsBounded script (with_next_range n kind)
  next-range-bounded n kind k =
      with-directory-bounded script (record n { leases = refill n.leases kind (upcoming n.leader.directory kind) })
      (with_range n.leader.directory kind 1)
      (with-tables-bounded script n n.deeds n.watches (refill n.leases kind (upcoming n.leader.directory kind)) n.stage
      k k.deeds k.watches)
      (range-names script n.leader.directory kind 1 k.directory (first-is-node script n.number k.number))

  take-from-bounded : (n : Node) (kind : Kind) (numbers : List ℕ) → NodeIsBounded script n
      → Of IsTakenWell (take_from n kind numbers)
  take-from-bounded n kind (number ∷ numbers) k = take-first-bounded n kind (number ∷ numbers) k
  take-from-bounded n kind [] k =
      of-test IsTakenWell (is_leader n) (take_from_next n kind)
      (λ _. of-test IsTakenWell
      (has_more n.leader.directory kind
      && not (knows_any n.leader.directory kind (lease_of (upcoming n.leader.directory kind))))
      (take_first (with_next_range n kind) kind (lease_of (upcoming n.leader.directory kind)))
      (λ _. take-first-bounded (with_next_range n kind) kind (lease_of (upcoming n.leader.directory kind))
      (next-range-bounded n kind k)))

  -- A node that takes a number stays bounded.
  pub take-number-bounded : (n : Node) (kind : Kind) → NodeIsBounded script n → Of IsTakenWell (take_number n kind)
  take-number-bounded n kind k = take-from-bounded n kind (for_kind n.leases kind) k

  -- ---- what is made

  tell-place-bounded : (s : Step) (name : Name) (at : ℕ) → StepIsBounded script s → IsNode script at
      → StepIsBounded script (tell_place s name at)
  tell-place-bounded s name at k own =
      by_test (StepIsBounded script) (is_leader s.node)
      (with_node s (with_directory s.node (place_name s.node.leader.directory name at)))
      (send s 1 (frames.Placed name at))
      (λ _. with-node-bounded script s (with_directory s.node (place_name s.node.leader.directory name at)) k
      (with-directory-bounded script s.node (place_name s.node.leader.directory name at) k.node
      (place-name-names script s.node.leader.directory name at k.node.directory own)))
      (λ _. send-first-bounded script s (frames.Placed name at) k own)

  fork-with-bounded : (s : Step) (call : Call) (block child : ℕ) (row : Row) → StepIsBounded script s
      → IsNode script block → StepIsBounded script (fork_with script s call block child row)
  fork-with-bounded s call block child row k own =
      let n : Node = s.node
      in let held : Step = with_deeds s (put_named n.deeds (Proc n.pid) (parent_body row child))
      in let done : Step = carry_out script held (asked_here n call) (replies.Num child)
      in tell-place-bounded
      (send done block (frames.Checkpoint child n.pid (pack (Proc child) (child_body row))
      (child_vars (caller_place script n.number n.caller))))
      (Proc child) block
      (send-bounded script done block
      (frames.Checkpoint child n.pid (pack (Proc child) (child_body row))
      (child_vars (caller_place script n.number n.caller)))
      (carry-out-bounded script held (asked_here n call) (replies.Num child)
      (with-deeds-bounded script s (put_named n.deeds (Proc n.pid) (parent_body row child)) k
      (put-deed-bounded script n.deeds (Proc n.pid) (parent_body row child) k.node.deeds tt)) k.node.number) own tt) own

  make-object-bounded : (s : Step) (call : Call) (name : Name) (body : Body) (number : ℕ) → StepIsBounded script s
      → WaitersAreOfNodes script body → StepIsBounded script (make_object script s call name body number)
  make-object-bounded s call name body number k all =
      let n : Node = s.node
      in let held : Step = with_deeds s (put_named n.deeds name body)
      in tell-place-bounded (carry_out script held (asked_here n call) (replies.Num number)) name n.number
      (carry-out-bounded script held (asked_here n call) (replies.Num number)
      (with-deeds-bounded script s (put_named n.deeds name body) k
      (put-deed-bounded script n.deeds name body k.node.deeds all))
      k.node.number) k.node.number

  make-set-bounded : (s : Step) (call : Call) (number : ℕ) (r : Result SemaphoreSet Errno) → StepIsBounded script s
      → Of (StepIsBounded script) (make_set script s call number r)
  make-set-bounded s call number (Err e) k = tt
  make-set-bounded s call number (Ok set) k = make-object-bounded s call (Sem number) (ASet (unawaited set)) number k tt

  make-with-bounded : (s : Step) (call : Call) (number : ℕ) → StepIsBounded script s → ForksNodes script call
      → Of (StepIsBounded script) (make_with script s call number)
  make-with-bounded s (calls.Fork block) number k own =
      of-map (StepIsBounded script) (own_row s.node) (fork_with script s (calls.Fork block) block number)
      (λ row _. fork-with-bounded s (calls.Fork block) block number row k own)
  make-with-bounded s (calls.MsgGet key create excl) number k own =
      make-object-bounded s (calls.MsgGet key create excl) (Msg number) (AQueue (unawaited empty_queue)) number k tt
  make-with-bounded s (calls.SemGet key count create excl) number k own =
      make-set-bounded s (calls.SemGet key count create excl) number (new_set count) k
  make-with-bounded s call number k own = tt

  -- A call is carried out with the next number.
  pub make-bounded : (s : Step) (call : Call) (kind : Kind) → StepIsBounded script s → ForksNodes script call
      → Of (StepIsBounded script) (make script s call kind)
  make-bounded s call kind k own =
      of-next (StepIsBounded script) (take_number s.node kind) (make_taken script s call)
      (λ t is. make-with-bounded (with_node s t.node) call t.number
      (with-node-bounded script s t.node k
      (of-some IsTakenWell (take_number s.node kind) t (take-number-bounded s.node kind k.node) is)) own)
