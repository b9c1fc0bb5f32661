-- A number that was taken, and what was made with it.
use Rattle.std.specs.Prelude.{◌≡◌, ℕ, Bool, true, false, not, nat_eq, Option, Some, None, Ok, is_some, if◌then◌else◌, ◌&&◌}
use Rattle.pico_base.specs.declared.call.Call.{Call}
use Rattle.pico_base.specs.declared.call.Call.TheVariants as calls
use Rattle.pico_base.specs.declared.numbers.Kind.{Kind}
use Rattle.pico_base.specs.declared.numbers.Name.{Name}
use Rattle.pico_base.specs.declared.numbers.Name.TheVariants.{Msg, Proc, Sem}
use Rattle.pico_base.specs.declared.reply.Reply.TheVariants as replies
use Rattle.pico_base.specs.declared.script.Script.{Script}
use Rattle.kernel_model.specs.Queue.{empty_queue}
use Rattle.kernel_model.specs.Row.{Row, child_row}
use Rattle.kernel_model.specs.SemaphoreSet.{SemaphoreSet, is_bad_count, new_set}
use Rattle.waiting_model.specs.Waiters.{unawaited}
use Rattle.node_model.specs.Bodies.{AQueue, ASet, Body, Living}
use Rattle.node_model.specs.Leases.{leases_hold, takes_number}
use Rattle.node_model.specs.Serving.{parent_body}
use Rattle.world_model.specs.Node.{Node, asked_here, is_node, own_row}
use Rattle.world_model.specs.Calls.{is_to_leader}
use Rattle.world_model.specs.Moves.{keep}
use Rattle.world_model.specs.Numbers.{Taken, tell_place}
use Rattle.world_model.specs.Step.{Step, carry_out}

abbrev pub taken : ℕ → Node → Taken
taken number n = record { number = number; node = n }

-- a new queue is held here under this number
abbrev pub IsNewQueue : Node → ℕ → Node → Name → Type 0
IsNewQueue old number new name = (name ≡ Msg number) × (new ≡ keep old (Msg number) (AQueue (unawaited empty_queue)))

-- a new set of so many semaphores is held here under this number
pub record IsNewSet (old : Node) (number count : ℕ) (new : Node) (name : Name) : Type 0 where
  pub set : SemaphoreSet
  pub is : new_set count ≡ Ok set
  pub named : name ≡ Sem number
  pub after : new ≡ keep old (Sem number) (ASet (unawaited set))

-- a process that lives has forked: its row lists the child, whose row is made from it
pub record IsForkedBody (old : Body) (child : ℕ) (new : Body) (made : Row) : Type 0 where
  pub row : Row
  pub lived : old ≡ Living row
  pub is : made ≡ child_row row
  pub after : new ≡ parent_body row child

-- the process of this node has forked: its row lists the child, whose row is made from it
pub record IsForked (old : Node) (child : ℕ) (new : Node) (made : Row) : Type 0 where
  pub row : Row
  pub own : own_row old ≡ Some row
  pub is : made ≡ child_row row
  pub after : new ≡ keep old (Proc old.pid) (parent_body row child)

-- the call is carried out that made what is held here under this name, and its place is told
abbrev pub with_made : Script → Step → Call → Name → ℕ → Step
with_made script step call name number =
    tell_place (carry_out script step (asked_here step.node call) (replies.Num number)) name step.node.number

-- a number can be given to what the call makes
abbrev pub can_make : Node → Call → Bool
can_make n (calls.Fork block) = is_some (own_row n)
can_make n (calls.MsgGet key create excl) = true
can_make n (calls.SemGet key count create excl) = not (is_bad_count count)
can_make n call = false

-- the call, where it takes a number of the kind that can be given to what it makes
abbrev pub taking : Node → Kind → Option Call → Option Call
taking n kind None = None
taking n kind (Some call) = if takes_number kind call && can_make n call then Some call else None

-- the leader can note that the name is at this node
abbrev pub may_note : Script → Node → ℕ → Name → ℕ → Bool
may_note script n from name node =
    is_to_leader n from && (is_node script node && (not (nat_eq node 1) && not (leases_hold n.leases name)))
