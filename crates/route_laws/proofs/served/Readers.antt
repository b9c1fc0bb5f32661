-- Who reads where a call is served: the caller, and some of those whom it wakes. Each is a node of the script that is
-- born, and what is read is a queue or a set.
use Rattle.std.proofs.Common.{◌≡◌, ℕ, Bool, true, false, ◌&&◌, ◌||◌, cond, if◌then◌else◌, nat_eq, List, [], ◌∷◌, ◌++◌, map, filter, Contains, Option, Some, None, refl, ap, sym, ◌∙◌, inl, inr, subst}
use Rattle.std.specs.List.{AllByRecursion}
use Rattle.std.proofs.lemmas.Bool.{false≢true}
use Rattle.pico_base.specs.declared.call.Call.{Call}
use Rattle.pico_base.specs.declared.call.Call.TheVariants as calls
use Rattle.pico_base.specs.declared.numbers.Name.{Name}
use Rattle.pico_base.specs.declared.numbers.Name.TheVariants.{Proc, Msg, Sem}
use Rattle.pico_base.specs.declared.reply.Errno.TheVariants.{Eidrm}
use Rattle.pico_base.specs.declared.reply.Reply.{Reply}
use Rattle.pico_base.specs.declared.reply.Reply.TheVariants.{Fail}
use Rattle.pico_base.specs.declared.script.Script.{Script}
use Rattle.pico_base.specs.Home.{home_of}
use Rattle.rpc_frame.specs.declared.asked.Asked.{Asked}
use Rattle.kernel_model.specs.Row.{Row}
use Rattle.kernel_laws.proofs.Members.{contains-cases, contains-none}
use Rattle.waiting_model.specs.declared.callers.Waiting.{Waiting}
use Rattle.waiting_model.specs.declared.callers.Wake.{Wake}
use Rattle.waiting_model.specs.Queue.{carry_out_on_queue}
use Rattle.waiting_model.specs.SemaphoreSet.{carry_out_on_set}
use Rattle.waiting_model.specs.Waiters.{wake, wakes_at_removal}
use Rattle.node_model.specs.declared.held.Held.{Held}
use Rattle.node_model.specs.declared.held.Held.TheVariants.{Request}
use Rattle.node_model.specs.Awaiting.{on_object, on_own, on_whole, removed}
use Rattle.node_model.specs.Carrying.{is_removal}
use Rattle.node_model.specs.Bodies.{AQueue, ASet, Body, Ended, Gone, Living, Removed, bare, fits_name, waiters_of}
use Rattle.node_model.specs.Kinds.{is_object}
use Rattle.node_model.specs.Serving.{caller_if, has_read, has_read_if, waiting_as, woken_reads}
use Rattle.world_model.specs.World.{IsNode, World}
use Rattle.entry_laws.proofs.Holding.{body-fits, readers_by}
use Rattle.entry_laws.proofs.Names.{same-name-is}
use Rattle.world_laws.specs.Places.{Beside}
use Rattle.world_laws.specs.Sights.{is_born_in, node_of}
use Rattle.world_laws.specs.Callers.{is_on}
use Rattle.world_laws.specs.Cancels.{Owing}
use Rattle.world_laws.specs.Names.{NameHolds, name_sight}
use Rattle.world_laws.specs.Invariant.{HoldsOwing}
use Rattle.route_laws.proofs.hand.Answering.{at-work-born, caller-born}
use Rattle.route_laws.proofs.hand.HandMoves.{IsCallOf}
use Rattle.route_laws.proofs.served.AllTaken.{AreAmong}
use Rattle.route_laws.proofs.served.Rounds.{Answered, wake_of}
use Rattle.route_laws.proofs.served.Waiters.{WaitsThere, waits-there}

-- ---- bodies

-- a body goes with its name as the kernel's part does
bare-fits : (name : Name) (body : Body) → fits_name name (bare body) ≡ fits_name name body
bare-fits (Proc p) (AQueue q) = refl
bare-fits (Proc p) (ASet s) = refl
bare-fits (Msg id) (AQueue q) = refl
bare-fits (Msg id) (ASet s) = refl
bare-fits (Sem id) (AQueue q) = refl
bare-fits (Sem id) (ASet s) = refl
bare-fits name body = refl

-- what is beside the world under a name is of the name's kind
pub body-is-fit : (script : Script) (w : World) (hand : List Held) {owes : Owing} (b : Beside)
    → HoldsOwing script w hand owes b → (name : Name) → fits_name name (b.body name) ≡ true
body-is-fit script w hand b holds name =
    let old : NameHolds script b.pids (is_born_in w) name (name_sight script w hand b name) = holds.names name
    in sym (bare-fits name (b.body name)) ∙ ap (fits_name name) old.parts ∙ body-fits b.kernel name

-- nobody waits for a process here
object-waits : (name : Name) (body : Body) (v : Waiting) → fits_name name body ≡ true → Contains (waiters_of body) v
    → is_object name ≡ true
object-waits (Msg id) body v fits there = refl
object-waits (Sem id) body v fits there = refl
object-waits (Proc p) (AQueue q) v fits there = absurd (false≢true fits)
object-waits (Proc p) (ASet s) v fits there = absurd (false≢true fits)
object-waits (Proc p) (Living row) v fits there = absurd (contains-none v there)
object-waits (Proc p) (Ended ending) v fits there = absurd (contains-none v there)
object-waits (Proc p) Gone v fits there = absurd (contains-none v there)
object-waits (Proc p) Removed v fits there = absurd (contains-none v there)

-- a call that has read is on a queue or a set
pub reads-object-on : (name : Name) (pid : ℕ) (call : Call) (reply : Reply)
    → is_on name (home_of pid call) ≡ true → has_read call reply ≡ true → is_object name ≡ true
reads-object-on name pid (calls.MsgRcv id class size noerror nowait) reply on h =
    ap is_object (same-name-is name (Msg id) on)
reads-object-on name pid (calls.SemOp id steps) reply on h = ap is_object (same-name-is name (Sem id) on)
reads-object-on name pid call reply on h = absurd (false≢true h)

-- ---- who reads

-- one of the woken who reads waited there
woken-reader : (test : Wake → Bool) (ws : List Waiting) (woken : List Answered) (r : ℕ) → AreAmong ws woken
    → Contains (map (λ (z : Wake). z.caller) (filter test (map wake_of woken))) r
    → (v : Waiting) × Contains ws v × (v.caller ≡ r)
woken-reader test ws [] r among h = absurd (contains-none r h)
woken-reader test ws (a ∷ more) r among h = by (test (wake_of a)) (woken-reader test ws more r among.1) h
  where
    by : (t : Bool)
        → (Contains (map (λ (z : Wake). z.caller) (filter test (map wake_of more))) r
        → (v : Waiting) × Contains ws v × (v.caller ≡ r))
        → Contains (map (λ (z : Wake). z.caller)
        (cond t (wake_of a ∷ filter test (map wake_of more)) (filter test (map wake_of more)))) r
        → (v : Waiting) × Contains ws v × (v.caller ≡ r)
    by false rest h = rest h
    by true rest h =
        elim (contains-cases a.who.caller (map (λ (z : Wake). z.caller) (filter test (map wake_of more))) r h) [
          | inl same ↦ (a.who, among.0, same)
          | inr later ↦ rest later
        ]

-- ---- removals

removal-reads-not : (call : Call) (own : Option Reply) → is_removal call ≡ true → has_read_if call own ≡ false
removal-reads-not (calls.MsgRmid id) None h = refl
removal-reads-not (calls.MsgRmid id) (Some reply) h = refl
removal-reads-not (calls.SemRmid id) None h = refl
removal-reads-not (calls.SemRmid id) (Some reply) h = refl
removal-reads-not call own h = absurd (false≢true h)

abbrev AreRemoved : List Wake → Type 0
AreRemoved wakes = AllByRecursion (λ (z : Wake). z.reply ≡ Fail Eidrm) wakes

all-removed : (ws : List Waiting) → AreRemoved (map (λ (v : Waiting). wake v (Fail Eidrm)) ws)
all-removed [] = tt
all-removed (v ∷ ws) = (refl, all-removed ws)

own-wakes-none : (row : Row) (pid : ℕ) (call : Call) → is_removal call ≡ true → (on_own row pid call).wakes ≡ []
own-wakes-none row pid (calls.WaitPid child nohang) h = absurd (false≢true h)
own-wakes-none row pid call h = refl

-- who waits at what is removed is woken with EIDRM
removal-wakes : (name : Name) (body : Body) (who : Waiting) → is_removal who.call ≡ true
    → AreRemoved (on_whole name body who).wakes
removal-wakes (Msg id) (AQueue q) who h =
    subst (λ (t : Bool). AreRemoved (if t then removed (wakes_at_removal q)
    else on_object AQueue (carry_out_on_queue q who)).wakes) (sym h) (all-removed q.waiters)
removal-wakes (Sem id) (ASet x) who h =
    subst (λ (t : Bool). AreRemoved (if t then removed (wakes_at_removal x)
    else on_object ASet (carry_out_on_set x who)).wakes) (sym h) (all-removed x.waiters)
removal-wakes (Proc p) (Living row) who h = subst AreRemoved (sym (own-wakes-none row who.pid who.call h)) tt
removal-wakes (Proc p) (Ended ending) who h = tt
removal-wakes (Proc p) Gone who h = tt
removal-wakes (Proc p) (AQueue q) who h = tt
removal-wakes (Proc p) (ASet x) who h = tt
removal-wakes (Proc p) Removed who h = tt
removal-wakes (Msg id) (Living row) who h = tt
removal-wakes (Msg id) (Ended ending) who h = tt
removal-wakes (Msg id) Gone who h = tt
removal-wakes (Msg id) (ASet x) who h = tt
removal-wakes (Msg id) Removed who h = tt
removal-wakes (Sem id) (Living row) who h = tt
removal-wakes (Sem id) (Ended ending) who h = tt
removal-wakes (Sem id) Gone who h = tt
removal-wakes (Sem id) (AQueue q) who h = tt
removal-wakes (Sem id) Removed who h = tt

removed-reads-not : (call : Call) → has_read call (Fail Eidrm) ≡ false
removed-reads-not (calls.MsgRcv id class size noerror nowait) = refl
removed-reads-not (calls.SemOp id steps) = refl
removed-reads-not call = refl

and-false : (t : Bool) → (t && false) ≡ false
and-false true = refl
and-false false = refl

none-woken-reads : (ws : List Waiting) (z : Wake) → z.reply ≡ Fail Eidrm → woken_reads ws z ≡ false
none-woken-reads [] z h = refl
none-woken-reads (v ∷ ws) z h =
    ap (λ t. (nat_eq v.pid z.pid && t) || woken_reads ws z) (ap (has_read v.call) h ∙ removed-reads-not v.call)
    ∙ ap (λ t. t || woken_reads ws z) (and-false (nat_eq v.pid z.pid)) ∙ none-woken-reads ws z h

none-reads : (ws : List Waiting) (wakes : List Wake) → AreRemoved wakes → filter (woken_reads ws) wakes ≡ []
none-reads ws [] h = refl
none-reads ws (z ∷ wakes) h =
    ap (λ t. cond t (z ∷ filter (woken_reads ws) wakes) (filter (woken_reads ws) wakes)) (none-woken-reads ws z h.0)
    ∙ none-reads ws wakes h.1

-- Nobody reads what is removed.
pub removal-read-by-none : (name : Name) (body : Body) (who : Waiting) → is_removal who.call ≡ true
    → readers_by body who (on_whole name body who).own (on_whole name body who).wakes ≡ []
removal-read-by-none name body who h =
    ap (λ t. caller_if t who.caller
    ++ map (λ (z : Wake). z.caller) (filter (woken_reads (waiters_of body)) (on_whole name body who).wakes))
    (removal-reads-not who.call (on_whole name body who).own h)
    ∙ ap (map (λ (z : Wake). z.caller))
    (none-reads (waiters_of body) (on_whole name body who).wakes (removal-wakes name body who h))

-- ---- in the world

-- a node of the script that is born reads a queue or a set
pub record IsReader (script : Script) (w : World) (name : Name) (r : ℕ) : Type 0 where
  pub object : is_object name ≡ true
  pub node : IsNode script r
  pub born : is_born_in w r ≡ true

module _ (script : Script) (w : World) (asked : Asked) (rest : List Held) (b : Beside) {owes : Owing}
    (holds : HoldsOwing script w (Request asked ∷ rest) owes b) (asks : IsCallOf script asked) (name : Name)
    (on : is_on name (home_of asked.pid asked.call) ≡ true) where
  abbrev hand : List Held
  hand = Request asked ∷ rest

  own-reader : (own : Option Reply) → has_read_if asked.call own ≡ true → IsReader script w name asked.caller
  own-reader None h = absurd (false≢true h)
  own-reader (Some reply) h =
      record {
        object = reads-object-on name asked.pid asked.call reply on h;
        node = record { low = asks.low; high = asks.high };
        born = caller-born script w asked rest b holds asks;
      }

  waiting-reader : (v : Waiting) → Contains (waiters_of (b.body name)) v → IsReader script w name v.caller
  waiting-reader v there =
      let it : WaitsThere script w hand b holds name v = waits-there script w hand b holds name v there
      in record {
        object = object-waits name (b.body name) v (body-is-fit script w hand b holds name) there;
        node = it.node;
        born = at-work-born (node_of w v.caller).stage it.has.at_work;
      }

  -- Each who reads is one.
  pub readers-are : (own : Option Reply) (woken : List Answered) → AreAmong (waiters_of (b.body name)) woken → (r : ℕ)
      → Contains (readers_by (b.body name) (waiting_as asked) own (map wake_of woken)) r → IsReader script w name r
  readers-are own woken among r = by (has_read_if asked.call own) refl
    where
      woken-is : Contains (map (λ (z : Wake). z.caller)
          (filter (woken_reads (waiters_of (b.body name))) (map wake_of woken))) r
          → IsReader script w name r
      woken-is h =
          let found = woken-reader (woken_reads (waiters_of (b.body name))) (waiters_of (b.body name)) woken r among h
          in subst (IsReader script w name) found.2 (waiting-reader found.0 found.1)

      by : (t : Bool) → has_read_if asked.call own ≡ t
          → Contains (caller_if t asked.caller
          ++ map (λ (z : Wake). z.caller)
          (filter (woken_reads (waiters_of (b.body name))) (map wake_of woken))) r
          → IsReader script w name r
      by false e h = woken-is h
      by true e h =
          elim (contains-cases asked.caller _ r h) [
            | inl same ↦ subst (IsReader script w name) same (own-reader own e)
            | inr later ↦ woken-is later
          ]
