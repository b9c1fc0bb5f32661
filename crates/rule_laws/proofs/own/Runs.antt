-- A node that can run: its process lives, no call of it is under way, and some call is due, which it may make.
use Rattle.std.proofs.Common.{◌≡◌, ℕ, ◌+◌, ◌-◌, ◌≤◌, Bool, true, false, ◌&&◌, not, if◌then◌else◌, List, [], slice_get, get_or, sum_by, Option, Some, None, is_some, refl, ap, sym, subst, ◌∙◌, arith}
use Rattle.std.specs.Option.{option_and_then}
use Rattle.std.proofs.lemmas.Bool.{false≢true, leb-true, lt-ltb}
use Rattle.std.proofs.lemmas.Option.{slice_get_within, get_or_from_slice_get}
use Rattle.std.proofs.lemmas.List.Sums.{get_or-le-sum_by, sum_by_more_le}
use Rattle.pico_base.specs.declared.call.Call.{Call}
use Rattle.pico_base.specs.declared.call.Call.TheVariants as calls
use Rattle.pico_base.specs.declared.numbers.Name.TheVariants.{Proc}
use Rattle.pico_base.specs.declared.script.Block.{Block}
use Rattle.pico_base.specs.declared.script.Line.{Line}
use Rattle.pico_base.specs.declared.script.Script.{Script}
use Rattle.pico_base.specs.declared.signal.Sig.{Sig}
use Rattle.pico_base.specs.Home.{home_of}
use Rattle.kernel_model.specs.Fitting.{IsDue, block_at}
use Rattle.kernel_model.specs.Kernel.{living_at}
use Rattle.kernel_model.specs.Numbers.{is_u32, number_end}
use Rattle.kernel_model.specs.Row.{Alive, Row}
use Rattle.kernel_model.specs.Script.{IsSoundScript, calls_in, max_calls}
use Rattle.kernel_model.specs.Valid.{IsValid}
use Rattle.kernel_laws.proofs.ValidLaws.{reachable_kernels_are_valid_lemma}
use Rattle.entry_laws.specs.Entering.{HasHistory, MayMake}
use Rattle.entry_laws.proofs.Bodies.{living-body}
use Rattle.entry_laws.proofs.History.{history-reachable, may-make-from}
use Rattle.entry_laws.proofs.Places.{IsDueNow, due-now, some-due}
use Rattle.node_model.specs.Bodies.{Body, Living as LivingBody, bare, row_of}
use Rattle.node_model.specs.Caller.{Caller, caller_place, due_call, lines_in, lines_of, start_call}
use Rattle.node_model.specs.Kinds.{get_named}
use Rattle.world_model.specs.Node.{Node, Stage, Unborn, Living, Leaving, Left, Over, can_run, is_living, own_row}
use Rattle.world_model.specs.Starting.{run, start, start_by, start_due}
use Rattle.world_model.specs.Step.{step_to}
use Rattle.world_model.specs.World.{World, node_count}
use Rattle.world_laws.specs.Places.{Beside, Idle, InTable}
use Rattle.world_laws.specs.Sights.{node_of, is_born_in}
use Rattle.world_laws.specs.Names.{NameHolds, name_sight}
use Rattle.world_laws.specs.Callers.{CallHolds, FreeIn, HasCallOrNone, HasNoCall, HasTryLeft, IsFree, IsNowhere, call_sight, tries_made}
use Rattle.world_laws.specs.Families.{BornIn, HoldsIn, HoldsRow, IsBorn, NodeHolds}
use Rattle.world_laws.specs.Invariant.{Holds}
use Rattle.world_laws.proofs.Lines.{due-at-line}
use Rattle.world_laws.proofs.NameFacts.{IsHeldAt, held-there}
use Rattle.rule_laws.proofs.Nodes.{and-true}

-- ---- how many calls there are

in-blocks : (blocks : List Block) (i : ℕ) (block : Block) → slice_get blocks i ≡ Some block
    → calls_in block ≤ sum_by calls_in blocks
in-blocks blocks i block there =
    let one : calls_in (get_or blocks i block) ≡ calls_in block =
    ap calls_in (get_or_from_slice_get blocks i block block there)
    in let all = get_or-le-sum_by calls_in blocks i block (slice_get_within blocks i block there)
    in omega (arith, one, all)

-- a block has no more tries than the script has calls
few-tries : (script : Script) (p : ℕ) → IsSoundScript script
    → sum_by (λ line. line.tries) (lines_of script p) ≤ max_calls
few-tries script p sound = by-block (block_at script p) refl
  where
    few : sum_by calls_in script.blocks ≤ max_calls
    few = leb-true (sum_by calls_in script.blocks) max_calls sound.calls

    by-block : (o : Option Block) → block_at script p ≡ o
        → sum_by (λ line. line.tries) (lines_of script p) ≤ max_calls
    by-block None is =
        let none : sum_by (λ line. line.tries) (lines_of script p) ≡ 0 =
        ap (λ (o : Option Block). sum_by (λ line. line.tries) (lines_in o)) is
        in omega (arith, none)
    by-block (Some block) is =
        let all : sum_by (λ line. line.tries) (lines_of script p) ≡ calls_in block =
        ap (λ (o : Option Block). sum_by (λ line. line.tries) (lines_in o)) is
        in let within = in-blocks script.blocks (p - 1) block is
        in let some = few
        in omega (arith, all, within, some)

-- where a call is due a further ticket is a number of four bytes
pub next-ticket : (script : Script) (p : ℕ) (c : Caller) (call : Call) → IsSoundScript script
    → IsDue (caller_place script p c) call → HasTryLeft script p c → c.ticket ≤ tries_made script p c
    → is_u32 (c.ticket + 1) ≡ true
next-ticket script p c call sound is_due left tickets =
    let line = due-at-line script p c call is_due
    in let one = left line.0 line.1
    in let inside = slice_get_within (lines_of script p) c.line line.0 line.1
    in let same : (get_or (lines_of script p) c.line line.0).tries ≡ (line.0).tries =
    ap (λ (x : Line). x.tries) (get_or_from_slice_get (lines_of script p) c.line line.0 line.0 line.1)
    in let within = sum_by_more_le (λ (x : Line). x.tries) (lines_of script p) c.line line.0 inside
    in let few = few-tries script p sound
    in lt-ltb (c.ticket + 1) number_end (omega (arith, one, same, within, few, tickets))

-- ---- the node

-- What is known where node p can run: it is Living, and its process, of this row, is where the node says in its
-- history; no call of it is anywhere; and this one is due.
pub record Starts (script : Script) (w : World) (b : Beside) (p : ℕ) : Type 0 where
  pub stage : (node_of w p).stage ≡ Living
  pub no_call : (node_of w p).caller.under_way ≡ None
  pub birth : IsBorn script b.pids p (node_of w p).pid (node_of w p).parent (node_of w p).parent_node
  pub row : Row
  pub has_row : get_named (node_of w p).deeds (Proc (node_of w p).pid) ≡ Some (LivingBody row)
  pub alive : Alive
  pub lives : living_at b.kernel (b.pids p) ≡ Some alive
  pub row_is : alive.row ≡ row
  pub deed : b.deed (Proc (b.pids p)) ≡ InTable p
  pub nowhere : IsNowhere (call_sight w [] b p)
  pub idle : b.call p ≡ Idle
  pub free : IsFree script p (call_sight w [] b p)
  pub call : Call
  pub is_due : due_call script (node_of w p).number (node_of w p).caller row.signals.doom ≡ Some call
  pub due_now : IsDueNow (caller_place script p (node_of w p).caller) alive call
  pub may : MayMake b.kernel (b.pids p) call
  pub ticket : is_u32 ((node_of w p).caller.ticket + 1) ≡ true

and-both : (a c : Bool) → (a && c) ≡ true → (a ≡ true) × (c ≡ true)
and-both true c h = (refl, h)
and-both false c h = absurd (false≢true h)

living-stage : (stage : Stage) → is_living stage ≡ true → stage ≡ Living
living-stage Living h = refl
living-stage Unborn h = absurd (false≢true h)
living-stage Leaving h = absurd (false≢true h)
living-stage Left h = absurd (false≢true h)
living-stage Over h = absurd (false≢true h)

none-there : {A : Type 0} (o : Option A) → not (is_some o) ≡ true → o ≡ None
none-there None h = refl
none-there (Some x) h = absurd (false≢true h)

some-call : (script : Script) (p : ℕ) (c : Caller) (doom : Option Sig) → ((caller_place script p c).left ≡ [] → ⊥)
    → (call : Call) × (due_call script p c doom ≡ Some call)
some-call script p c (Some sig) more = (calls.Killed sig, refl)
some-call script p c None more = some-due (caller_place script p c) more

living-rows : (a r : Row) → LivingBody r ≡ LivingBody a → a ≡ r
living-rows a r h = cc

module _ (script : Script) (sound : IsSoundScript script) (w : World) (b : Beside) (holds : Holds script w [] b) (p : ℕ)
    (low : 1 ≤ p) (high : p ≤ node_count script) (can : can_run (node_of w p) ≡ true) where
  abbrev n : Node
  n = node_of w p

  node-holds : NodeHolds script b.pids (is_born_in w) p n
  node-holds = holds.nodes p low high

  is-living : n.stage ≡ Living
  is-living = living-stage n.stage ((and-both (is_living n.stage) (not (is_some n.caller.under_way)) can).0)

  no-call : n.caller.under_way ≡ None
  no-call = none-there n.caller.under_way ((and-both (is_living n.stage) (not (is_some n.caller.under_way)) can).1)

  holds-row : HoldsRow n.deeds n.pid
  holds-row = subst (λ (s : Stage). HoldsIn p n s) is-living node-holds.holds

  is-born : IsBorn script b.pids p n.pid n.parent n.parent_node
  is-born =
      subst (λ (s : Stage). BornIn script b.pids p n.pid n.parent n.parent_node s) is-living node-holds.birth

  has-no-call : HasNoCall script p (call_sight w [] b p)
  has-no-call =
      let c : CallHolds script p (is_born_in w) (call_sight w [] b p) = holds.calls p low high
      in subst (λ (o : Option Call). HasCallOrNone script p (is_born_in w) (call_sight w [] b p) o) no-call c.call

  is-free : IsFree script p (call_sight w [] b p)
  is-free = subst (λ (s : Stage). FreeIn script p (call_sight w [] b p) s) is-living has-no-call.free

  held-own : get_named n.deeds (Proc (b.pids p)) ≡ Some (LivingBody holds-row.row)
  held-own = ap (λ (q : ℕ). get_named n.deeds (Proc q)) (sym is-born.pid_is) ∙ holds-row.here

  own-name : NameHolds script b.pids (is_born_in w) (Proc (b.pids p)) (name_sight script w [] b (Proc (b.pids p)))
  own-name = holds.names (Proc (b.pids p))

  own-deed : IsHeldAt (b.deed (Proc (b.pids p))) (b.body (Proc (b.pids p))) p (LivingBody holds-row.row)
  own-deed =
      held-there (b.deed (Proc (b.pids p))) (b.body (Proc (b.pids p))) p (LivingBody holds-row.row)
      (sym (own-name.tables p) ∙ held-own)

  history : HasHistory script b.lines b.kernel b.places
  history = holds.history

  row-is : is-free.alive.row ≡ holds-row.row
  row-is =
      living-rows is-free.alive.row holds-row.row
      (ap bare own-deed.body_is ∙ own-name.parts ∙ living-body b.kernel (b.pids p) is-free.alive is-free.lives)

  more-left : (caller_place script p n.caller).left ≡ [] → ⊥
  more-left = holds.pids.alive p is-free.alive (caller_place script p n.caller) is-free.lives is-free.there

  some-due-call : (call : Call) × (due_call script n.number n.caller holds-row.row.signals.doom ≡ Some call)
  some-due-call =
      some-call script n.number n.caller holds-row.row.signals.doom
      (λ none. more-left (ap (λ (k : ℕ). (caller_place script k n.caller).left) (sym node-holds.number) ∙ none))

  abbrev call : Call
  call = some-due-call.0

  is-due-now : IsDueNow (caller_place script p n.caller) is-free.alive call
  is-due-now =
      due-now b.kernel (b.pids p) is-free.alive script p n.caller call valid is-free.lives sound more-left
      (ap (λ (k : ℕ). due_call script k n.caller is-free.alive.row.signals.doom) (sym node-holds.number)
      ∙ ap (λ (r : Row). due_call script n.number n.caller r.signals.doom) row-is ∙ some-due-call.1)
    where
      valid : IsValid b.kernel
      valid = reachable_kernels_are_valid_lemma b.kernel (history-reachable script b.lines b.kernel b.places history)

  -- All that a node's start of a call uses.
  pub starts : Starts script w b p
  starts =
      record {
        stage = is-living;
        no_call = no-call;
        birth = is-born;
        row = holds-row.row;
        has_row = holds-row.here;
        alive = is-free.alive;
        lives = is-free.lives;
        row_is = row-is;
        deed = own-deed.deed_is;
        nowhere = has-no-call.nowhere;
        idle = has-no-call.idle;
        free = is-free;
        call = call;
        is_due = some-due-call.1;
        due_now = is-due-now;
        may = may-make-from script b.lines b.kernel b.places (b.pids p) call is-free.alive history is-free.lives
            is-due-now.may;
        ticket = next-ticket script p n.caller call sound is-due-now.due is-free.try_left is-free.tickets;
      }

  -- The rule goes on by the call's home.
  pub run-is : (s : Starts script w b p)
      → run script n
      ≡ start_by script (step_to (record n { caller = start_call n.caller s.call })) s.call s.row (home_of n.pid s.call)
  run-is s =
      ap (λ t. if t then option_and_then (start_due script n) (own_row n) else None)
      (and-true (can_run n) (is_u32 (n.caller.ticket + 1)) can s.ticket)
      ∙ ap (λ (o : Option Body). option_and_then (start_due script n) (row_of o)) s.has_row
      ∙ ap (option_and_then (start script n s.row)) s.is_due
      ∙ ap (λ t. if t then None
      else start_by script (step_to (record n { caller = start_call n.caller s.call })) s.call s.row
      (home_of n.pid s.call)) s.due_now.not_withdrawal
