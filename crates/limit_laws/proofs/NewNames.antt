-- New numbers, and what is made with them, within limits.
use Rattle.std.proofs.Common.{◌≡◌, Option, Some, None, Result, Err, Ok, ℕ, Bool, true, false, not, ◌&&◌, nat_eq, refl, ◌<◌, ◌≤◌, List, length, ◌+◌, [], ◌∷◌, zero, suc, drop, ◌∙◌, arith, sym, ap, subst}
use Rattle.std.proofs.lemmas.Bool.{false≢true}
use Rattle.std.specs.List.{AllByRecursion}
use Rattle.std.specs.Prelude.{if◌then◌else◌, slice_get}
use Rattle.kernel_laws.proofs.Plain.{by_test, Of, from_some, not_some, of-map, of-next, of-test, of-some}
use Rattle.kernel_laws.specs.Sets.{IsSetWithinLimits}
use Rattle.kernel_model.specs.Fitting.{child_vars, child_vars_at}
use Rattle.kernel_model.specs.Queue.{empty_queue}
use Rattle.kernel_model.specs.Row.{Row}
use Rattle.kernel_model.specs.Script.{Vars, IsSoundScript}
use Rattle.kernel_model.specs.SemaphoreSet.{SemaphoreSet, new_set}
use Rattle.limit_laws.proofs.Frames.{placed-is-frame}
use Rattle.kernel_laws.proofs.QueueLaws.{queue-within-rule}
use Rattle.kernel_laws.proofs.SetLaws.{set-within-rule}
use Rattle.limit_laws.proofs.Lengths.{checkpoint-is-frame}
use Rattle.limit_laws.proofs.Lines.{IsFineLine, lines-of-are-fine}
use Rattle.limit_laws.proofs.Named.{deeds-get, deeds-more, kind-put, numbers-from, deeds-put}
use Rattle.limit_laws.proofs.Plain.{some-nonzero}
use Rattle.limit_laws.proofs.Served.{child-within}
use Rattle.limit_laws.proofs.Steps.{tables-within, directory-within, answered-is, with-node-within, with-deeds-within, with-directory-step, send-within, carry-out-within, placed-within}
use Rattle.kernel_laws.proofs.Lists.{all-dropped}
use Rattle.limit_laws.proofs.Vars.{set-are-variables}
use Rattle.limit_laws.proofs.Waking.{unawaited-within}
use Rattle.limit_laws.specs.Within.{IsDeedWithin, AreDeedsWithin, AreVariables, IsDirectoryWithin, IsNodeWithin, IsStepWithin, IsUnderWayWithin}
use Rattle.node_model.specs.Bodies.{Body, Living, Ended, Gone, AQueue, ASet, Removed, row_of}
use Rattle.node_model.specs.Caller.{Caller, lines_of, caller_place, answer_call, answer_at}
use Rattle.node_model.specs.Directory.{Directory, has_more, upcoming, with_range, place_name, range_size}
use Rattle.node_model.specs.Kinds.{for_kind, number_of, get_named, put_named, with_kind}
use Rattle.node_model.specs.Leases.{lease_of, refill, Leases}
use Rattle.node_model.specs.Serving.{parent_body, child_body}
use Rattle.node_model.specs.Spelling.{pack}
use Rattle.number_maps.proofs.Order.{eq-same}
use Rattle.pico_base.specs.declared.call.Call.TheVariants as calls
use Rattle.pico_base.specs.declared.call.Call.{Call}
use Rattle.pico_base.specs.declared.numbers.Kind.{Kind}
use Rattle.pico_base.specs.declared.numbers.Name.TheVariants.{Proc, Msg, Sem}
use Rattle.pico_base.specs.declared.numbers.Name.{Name}
use Rattle.pico_base.specs.declared.reply.Errno.{Errno}
use Rattle.pico_base.specs.declared.reply.Reply.TheVariants as replies
use Rattle.pico_base.specs.declared.reply.Reply.{Reply}
use Rattle.pico_base.specs.declared.script.Line.{Line}
use Rattle.pico_base.specs.declared.script.Script.{Script}
use Rattle.rpc_frame.specs.declared.frame.Frame.TheVariants as frames
use Rattle.waiting_model.specs.Waiters.{unawaited}
use Rattle.world_model.specs.Node.{Node, is_leader, own_row, asked_here}
use Rattle.world_model.specs.Numbers.{make_set, Taken, take_number, make, tell_place, fork_with, make_object, make_taken, make_with, take_first, take_from, take_from_next, with_next_range, knows_any}
use Rattle.world_model.specs.Step.{send, Step, with_directory, with_node, with_deeds, carry_out, enter, reply_here, reply_to}

-- a number that is at least 1, and the node without it
pub record IsTakenWithin (script : Script) (n : Node) (t : Taken) : Type 0 where
  pub low : 1 ≤ t.number
  pub node : IsNodeWithin script t.node
  -- its process and its call are as they were
  pub number : t.node.number ≡ n.number
  pub caller : t.node.caller ≡ n.caller
  pub row : own_row t.node ≡ own_row n

module _ (script : Script) (sound : IsSoundScript script) where
  abbrev NodeIs : Node → Type 0
  NodeIs n = IsNodeWithin script n

  abbrev StepIs : Step → Type 0
  StepIs s = IsStepWithin script s

  -- ---- a number

  with-leases : (n : Node) (leases : Leases) → NodeIs n
      → ((kind : Kind) → AllByRecursion (λ (number : ℕ). 1 ≤ number) (for_kind leases kind))
      → NodeIs (record n { leases = leases })
  with-leases n leases k numbers =
      tables-within script sound n n.stage n.deeds n.watches leases n.cache k k.deeds numbers

  take-first-within : (n m : Node) (kind : Kind) (numbers : List ℕ) → NodeIs n
      → AllByRecursion (λ (number : ℕ). 1 ≤ number) numbers → n.number ≡ m.number → n.caller ≡ m.caller
      → own_row n ≡ own_row m → Of (IsTakenWithin script m) (take_first n kind numbers)
  take-first-within n m kind [] k all number caller row = tt
  take-first-within n m kind (number ∷ numbers) k all same caller row =
      record {
        low = all.0;
        node = with-leases n (with_kind n.leases kind numbers) k
            (kind-put (AllByRecursion (λ (x : ℕ). 1 ≤ x)) n.leases kind numbers all.1 k.leases);
        number = same;
        caller = caller;
        row = row;
      }

  -- a range of numbers from one on that is at least 1
  pub refilled-within : (n : Node) (kind : Kind) (first : ℕ) → NodeIs n → 1 ≤ first
      → NodeIs (record n { leases = refill n.leases kind first })
  refilled-within n kind first k low =
      with-leases n (refill n.leases kind first) k
      (kind-put (AllByRecursion (λ (x : ℕ). 1 ≤ x)) n.leases kind (lease_of first) (numbers-from first range_size low)
      k.leases)

  upcoming-is-numbered : (d : Directory) (kind : Kind) → 1 ≤ upcoming d kind
  upcoming-is-numbered d kind = omega arith

  -- a range more leaves the places
  range-within : (d : Directory) (kind : Kind) (node : ℕ) → IsDirectoryWithin d
      → IsDirectoryWithin (with_range d kind node)
  range-within d kind node k = k

  next-range-within : (n : Node) (kind : Kind) → NodeIs n → NodeIs (with_next_range n kind)
  next-range-within n kind k =
      let first : ℕ = upcoming n.leader.directory kind
      in directory-within script sound (record n { leases = refill n.leases kind first })
      (with_range n.leader.directory kind 1)
      (refilled-within n kind first k (upcoming-is-numbered n.leader.directory kind))
      (range-within n.leader.directory kind 1 k.directory)

  take-from-within : (n : Node) (kind : Kind) (numbers : List ℕ) → NodeIs n
      → AllByRecursion (λ (number : ℕ). 1 ≤ number) numbers → Of (IsTakenWithin script n) (take_from n kind numbers)
  take-from-within n kind (number ∷ numbers) k all =
      take-first-within n n kind (number ∷ numbers) k all refl refl refl
  take-from-within n kind [] k all =
      of-test (IsTakenWithin script n) (is_leader n) (take_from_next n kind)
      (λ _. of-test (IsTakenWithin script n)
      (has_more n.leader.directory kind
      && not (knows_any n.leader.directory kind (lease_of (upcoming n.leader.directory kind))))
      (take_first (with_next_range n kind) kind (lease_of (upcoming n.leader.directory kind)))
      (λ _. take-first-within (with_next_range n kind) n kind (lease_of (upcoming n.leader.directory kind))
      (next-range-within n kind k)
      (numbers-from (upcoming n.leader.directory kind) range_size
      (upcoming-is-numbered n.leader.directory kind)) refl refl refl))

  -- A node that takes a number stays within limits, and the number is at least 1.
  pub take-number-within : (n : Node) (kind : Kind) → NodeIs n → Of (IsTakenWithin script n) (take_number n kind)
  take-number-within n kind k = take-from-within n kind (for_kind n.leases kind) k (k.leases kind)

  -- ---- what is made

  tell-place-within : (s : Step) (name : Name) (at : ℕ) → StepIs s → 1 ≤ number_of name
      → StepIs (tell_place s name at)
  tell-place-within s name at k low =
      by_test StepIs (is_leader s.node)
      (with_node s (with_directory s.node (place_name s.node.leader.directory name at)))
      (send s 1 (frames.Placed name at))
      (λ _. with-directory-step script sound s (place_name s.node.leader.directory name at) k
      (placed-within script sound s.node.leader.directory name at k.node.directory low))
      (λ _. send-within script sound s 1 (frames.Placed name at) k (placed-is-frame name at low) tt)

  -- a reply to the process's own call
  own-reply-is : (t : Step) (pid : ℕ) (asked_call call : Call) (reply : Reply) → t.node.caller.under_way ≡ Some call
      → reply_to script t
      (record { caller = t.node.number; ticket = t.node.caller.ticket; pid = pid; call = asked_call }) reply
      ≡ with_node t (record t.node { caller = answer_call script t.node.number t.node.caller call reply })
  own-reply-is t pid asked_call call reply is =
      by (nat_eq t.node.number t.node.number) (nat_eq t.node.caller.ticket t.node.caller.ticket)
      t.node.caller.under_way (eq-same t.node.number) (eq-same t.node.caller.ticket) is
    where
      by : (own same : Bool) (o : Option Call) → own ≡ true → same ≡ true → o ≡ Some call
          → (if own
          then reply_here script t reply (elim same [ true ↦ o | false ↦ None ])
          else send t t.node.number (frames.Answer t.node.caller.ticket reply))
          ≡ with_node t (record t.node { caller = answer_call script t.node.number t.node.caller call reply })
      by true true None e g h = not_some call h
      by true true (Some c) e g h =
          ap (λ (x : Call). with_node t
          (record t.node { caller = answer_call script t.node.number t.node.caller x reply })) (from_some c call h)
      by true false o e g h = absurd (false≢true g)
      by false same o e g h = absurd (false≢true e)

  some-line : (lines : List Line) (i : ℕ) → i < length lines → slice_get lines i ≡ None → ⊥
  some-line [] i less is = omega (arith, less)
  some-line (line ∷ lines) zero less is = absurd (cc)
  some-line (line ∷ lines) (suc i) less is = some-line lines i (omega (arith, less)) is

  -- a fork that is answered is passed
  fork-passes : (number : ℕ) (c : Caller) (block child : ℕ) (o : Option Line)
      → slice_get (lines_of script number) c.line ≡ o → c.line < length (lines_of script number)
      → (answer_at c (calls.Fork block) (replies.Num child) o).line ≡ c.line + 1
  fork-passes number c block child None is less = absurd (some-line (lines_of script number) c.line less is)
  fork-passes number c block child (Some line) is less = refl

  child-vars-within : (n : Node) (lines : List Line) → AllByRecursion IsFineLine lines → AreVariables n.caller.vars
      → AreVariables (child_vars_at n.caller.vars lines)
  child-vars-within n [] all fine = fine
  child-vars-within n (line ∷ lines) all fine =
      let first : IsFineLine line = all.0
      in set-are-variables n.caller.vars line.set 0 first.variable fine

  own-body-within : (n : Node) (row : Row) (o : Option Body) → NodeIs n → get_named n.deeds (Proc n.pid) ≡ o
      → row_of o ≡ Some row → IsDeedWithin n.pid n.caller.line (Proc n.pid) (Living row)
  own-body-within n row (Some (Living other)) k held same =
      let is_row : other ≡ row = from_some other row same
      in subst (λ (r : Row). IsDeedWithin n.pid n.caller.line (Proc n.pid) (Living r)) is_row
      (deeds-get n.pid n.caller.line n.deeds (Proc n.pid) (Living other) k.deeds held)
  own-body-within n row (Some (Ended ending)) k held same = not_some row same
  own-body-within n row (Some Gone) k held same = not_some row same
  own-body-within n row (Some (AQueue q)) k held same = not_some row same
  own-body-within n row (Some (ASet s)) k held same = not_some row same
  own-body-within n row (Some Removed) k held same = not_some row same
  own-body-within n row None k held same = not_some row same

  -- its own process's row is within limits
  pub own-row-within : (n : Node) (row : Row) → NodeIs n → own_row n ≡ Some row
      → IsDeedWithin n.pid n.caller.line (Proc n.pid) (Living row)
  own-row-within n row k there = own-body-within n row (get_named n.deeds (Proc n.pid)) k refl there

  -- the parent, with its child and its reply
  forked-node : (n : Node) (block child : ℕ) (row : Row) → NodeIs n
      → n.caller.under_way ≡ Some (calls.Fork block) → own_row n ≡ Some row → 1 ≤ child
      → NodeIs (record n {
        deeds = put_named n.deeds (Proc n.pid) (parent_body row child);
        caller =
            answer_call script n.number n.caller (calls.Fork block) (replies.Num child);
      })
  forked-node n block child row k is there low =
      let call : Call = calls.Fork block
      in let under : IsUnderWayWithin script n.number n.pid n.caller call = k.under_way call is
      in let answered = answered-is script sound n call (replies.Num child) k
      in let passed : (answer_call script n.number n.caller call (replies.Num child)).line ≡ n.caller.line + 1 =
      fork-passes n.number n.caller block child (slice_get (lines_of script n.number) n.caller.line) refl
      (under.line refl)
      in let own : IsDeedWithin n.pid n.caller.line (Proc n.pid) (Living row) =
      own-row-within n row k there
      in let deeds : AreDeedsWithin n.pid (n.caller.line + 1)
      (put_named n.deeds (Proc n.pid) (parent_body row child)) =
      deeds-put n.pid (n.caller.line + 1) n.deeds (Proc n.pid) (parent_body row child)
      (deeds-more n.pid n.caller.line (n.caller.line + 1) n.deeds (omega arith) k.deeds)
      (own.0, (refl, child-within n.caller.line child row.family low (own.1).1))
      in record {
        vars = answered.vars;
        line = answered.line;
        under_way = λ other other_is. not_some other (sym answered.none ∙ other_is);
        deeds = subst (λ (line : ℕ). AreDeedsWithin n.pid line
            (put_named n.deeds (Proc n.pid) (parent_body row child))) (sym passed) deeds;
        leases = k.leases;
        directory = k.directory;
      }

  fork-with-within : (s : Step) (block child : ℕ) (row : Row) → StepIs s
      → s.node.caller.under_way ≡ Some (calls.Fork block) → own_row s.node ≡ Some row → 1 ≤ child
      → StepIs (fork_with script s (calls.Fork block) block child row)
  fork-with-within s block child row k is there low =
      let n : Node = s.node
      in let call : Call = calls.Fork block
      in let held : Step = with_deeds s (put_named n.deeds (Proc n.pid) (parent_body row child))
      in let entered : Step = enter held n.pid call (replies.Num child)
      in let done : Step = carry_out script held (asked_here n call) (replies.Num child)
      in let done_within : StepIs done =
      subst StepIs (sym (own-reply-is entered n.pid call call (replies.Num child) is))
      (record { node = forked-node n block child row k.node is there low; sends = k.sends })
      in let vars : Vars = child_vars (caller_place script n.number n.caller)
      in let fine : AreVariables vars =
      child-vars-within n (drop n.caller.line (lines_of script n.number))
      (all-dropped IsFineLine n.caller.line (lines_of script n.number) (lines-of-are-fine script sound n.number))
      k.node.vars
      in tell-place-within
      (send done block (frames.Checkpoint child n.pid (pack (Proc child) (child_body row)) vars)) (Proc child) block
      (send-within script sound done block
      (frames.Checkpoint child n.pid (pack (Proc child) (child_body row)) vars) done_within
      (checkpoint-is-frame child n.pid row vars low fine) fine.each) low

  -- a call of the process itself is answered here
  pub own-answered-within : (s : Step) (call : Call) (reply : Reply) → StepIs s → 1 ≤ s.node.caller.ticket
      → StepIs (carry_out script s (asked_here s.node call) reply)
  own-answered-within s call reply k low =
      carry-out-within script sound s (asked_here s.node call) reply k
      (some-nonzero s.node.caller.ticket low)
      (λ other. absurd (false≢true (sym other ∙ eq-same s.node.number)))

  make-object-within : (s : Step) (call : Call) (name : Name) (body : Body) (number : ℕ) → StepIs s
      → 1 ≤ s.node.caller.ticket → IsDeedWithin s.node.pid s.node.caller.line name body
      → StepIs (make_object script s call name body number)
  make-object-within s call name body number k low deed =
      let n : Node = s.node
      in let held : Step = with_deeds s (put_named n.deeds name body)
      in tell-place-within (carry_out script held (asked_here n call) (replies.Num number)) name n.number
      (own-answered-within held call (replies.Num number)
      (with-deeds-within script sound s (put_named n.deeds name body) k
      (deeds-put n.pid n.caller.line n.deeds name body k.node.deeds deed)) low) deed.0

  make-set-within : (s : Step) (call : Call) (number : ℕ) (r : Result SemaphoreSet Errno) → StepIs s
      → 1 ≤ s.node.caller.ticket → 1 ≤ number → ((set : SemaphoreSet) → r ≡ Ok set → IsSetWithinLimits set)
      → Of StepIs (make_set script s call number r)
  make-set-within s call number (Err e) k ticket low fits = tt
  make-set-within s call number (Ok set) k ticket low fits =
      make-object-within s call (Sem number) (ASet (unawaited set)) number k ticket
      (low, unawaited-within (fits set refl))

  make-with-within : (s : Step) (call : Call) (number : ℕ) → StepIs s → s.node.caller.under_way ≡ Some call
      → 1 ≤ number → Of StepIs (make_with script s call number)
  make-with-within s (calls.Fork block) number k is low =
      of-map StepIs (own_row s.node) (fork_with script s (calls.Fork block) block number)
      (λ row there. fork-with-within s block number row k is there low)
  make-with-within s (calls.MsgGet key create excl) number k is low =
      let under : IsUnderWayWithin script s.node.number s.node.pid s.node.caller (calls.MsgGet key create excl) =
      k.node.under_way (calls.MsgGet key create excl) is
      in make-object-within s (calls.MsgGet key create excl) (Msg number) (AQueue (unawaited empty_queue)) number k
      under.ticket (low, unawaited-within queue-within-rule.new)
  make-with-within s (calls.SemGet key count create excl) number k is low =
      let under : IsUnderWayWithin script s.node.number s.node.pid s.node.caller
      (calls.SemGet key count create excl) = k.node.under_way (calls.SemGet key count create excl) is
      in make-set-within s (calls.SemGet key count create excl) number (new_set count) k under.ticket low
      (set-within-rule.new count)
  make-with-within s call number k is low = tt

  -- The call under way is carried out with the next number.
  pub make-within : (s : Step) (call : Call) (kind : Kind) → StepIs s → s.node.caller.under_way ≡ Some call
      → Of StepIs (make script s call kind)
  make-within s call kind k is =
      of-next StepIs (take_number s.node kind) (make_taken script s call)
      (λ t there.
      let taken : IsTakenWithin script s.node t =
      of-some (IsTakenWithin script s.node) (take_number s.node kind) t (take-number-within s.node kind k.node) there
      in make-with-within (with_node s t.node) call t.number (with-node-within script sound s t.node k taken.node)
      (ap (λ (c : Caller). c.under_way) taken.caller ∙ is) taken.low)
