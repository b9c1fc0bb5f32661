-- What a call makes that makes a queue or set without a key. Its entry leaves the processes as they are; and facts
-- about news of a name, ways, kinds and leases that stand by themselves.
use Rattle.std.proofs.Common.{◌≡◌, ◌≢◌, ℕ, ◌≤◌, Bool, true, false, if◌then◌else◌, [], ◌∷◌, filter, Some, refl, ap, sym, ◌∙◌, inl, inr, arith, is_some, zero, suc, List, ◌++◌}
use Rattle.std.proofs.lemmas.Bool.{false≢true}
use Rattle.pico_base.specs.declared.call.Call.{Call}
use Rattle.pico_base.specs.declared.numbers.Kind.{Kind}
use Rattle.pico_base.specs.declared.numbers.Name.{Name}
use Rattle.pico_base.specs.declared.numbers.Name.TheVariants.{Proc}
use Rattle.pico_base.specs.declared.reply.Reply.{Reply}
use Rattle.pico_base.specs.declared.script.Script.{Script}
use Rattle.rpc_frame.specs.declared.frame.Frame.{Frame}
use Rattle.rpc_frame.specs.declared.frame.Frame.TheVariants as frames
use Rattle.number_maps.specs.Maps.{get}
use Rattle.kernel_model.specs.Fitting.{Place, Places, place_after, places_after, IsDue, due, is_killed, move_on}
use Rattle.kernel_model.specs.Kernel.{Kernel}
use Rattle.kernel_model.specs.Script.{is_exit, is_fork}
use Rattle.entry_laws.specs.Entering.{LeavesOthers, MayMake, Same, Makes, is_used_name}
use Rattle.entry_laws.proofs.History.{moved-is, place-moves, places-stay}
use Rattle.node_model.specs.Bodies.{Body, body_in}
use Rattle.node_model.specs.Caller.{Caller, caller_place}
use Rattle.node_model.specs.Kinds.{for_kind, kind_of, number_of, is_object, is_same_name, with_kind, is_same_kind}
use Rattle.world_model.specs.Node.{Living, Left, Leaving}
use Rattle.world_model.specs.Step.{Step}
use Rattle.world_laws.proofs.Named.{same-name}
use Rattle.rule_laws.proofs.own.Entries.{EntryLeaves}
use Rattle.std.specs.List.{list_any}
use Rattle.entry_laws.proofs.Kin.{kin-same}
use Rattle.entry_laws.proofs.Listed.{listed-same}
use Rattle.entry_laws.proofs.Numbers.{process-there}
use Rattle.entry_laws.proofs.Others.{goes, Lived}
use Rattle.entry_laws.proofs.Places.{goes-on, left-shrinks}
use Rattle.node_model.specs.Leases.{Leases}
use Rattle.node_model.specs.Entries.{entry_by}
use Rattle.pico_base.specs.declared.numbers.Kind.TheVariants as kinds
use Rattle.world_laws.specs.Plays.{is_call_on, news_if, News, NeedsPlace, Tells, finds_place, news, placed_in}
use Rattle.entry_laws.proofs.Fresh.{MakesPrivate}
use Rattle.world_laws.specs.Ways.{WaySight, IsHere, Way, here, tells, collected, over, gone, is_leaving_frame}
use Rattle.world_model.specs.Numbers.{make_object, make_with}
use Rattle.rule_laws.proofs.Nodes.{object-is-no-process}
use Rattle.rule_laws.proofs.own.Asks.{Takes}

-- an entry that changes no process leaves the rest
pub processes-stay-leaves : (k : Kernel) (pid : ℕ) (call : Call) (reply : Reply) (next : Kernel) → MayMake k pid call
    → Makes k pid call reply next → Lived next pid → ((q : ℕ) → is_used_name next (Proc q) ≡ is_used_name k (Proc q))
    → ((q : ℕ) → body_in next (Proc q) ≡ body_in k (Proc q))
    → is_fork call ≡ false → is_exit call ≡ false → is_killed call ≡ false
    → (script : Script) (places : Places) (node p : ℕ) (caller : Caller)
    → get places pid ≡ Some (caller_place script p caller) → IsDue (caller_place script p caller) call
    → EntryLeaves k places pid next
    (places_after script places (entry_by node pid call reply) (caller_place script p caller))
processes-stay-leaves k pid call reply next m makes lived used bodies no_fork no_exit not_killed script places node p
    caller there is_due =
    let place : Place = caller_place script p caller
    in let moved : move_on place call (Some reply) ≡ place_after place call (Some reply) =
    moved-is place call (Some reply) not_killed
    in let others : LeavesOthers k pid next = goes k pid call reply next m.valid m.alone makes
    in record {
      valid = m.valid;
      others = others;
      lived = record { alive = m.alive; lives = m.lives };
      lives = lived;
      processes = used;
      kin = λ parent q h. kin-same k next parent q (Same (bodies parent)) (Same (bodies q))
          (process-there next q others.valid ∙ used q ∙ sym (process-there k q m.valid) ∙ ap is_some h.is) h;
      listed = λ q child l. listed-same k next q child (Same (bodies q)) l;
      was = place;
      place_was = there;
      now = place_after place call (Some reply);
      place_is = place-moves script places node pid call reply place no_fork ∙ ap Some moved;
      places_stay = λ q d. places-stay script places node pid call reply place q no_fork d;
      more_left = goes-on script p caller call reply (due-itself place is_due) no_exit;
      shrinks = λ test h. left-shrinks place call reply test (ap (λ (x : Place). list_any test x.left) moved ∙ h);
    }
  where
    due-itself : (place : Place) → IsDue place call → due place ≡ Some call
    due-itself place (inl h) = h
    due-itself place (inr h) = absurd (false≢true (sym not_killed ∙ h.0))

-- a list with a first element isn't empty
pub not-none : {A : Type 0} (x : A) (xs : List A) → x ∷ xs ≡ [] → ⊥
not-none x xs h = cc

if-placed : (t : Bool) (node : ℕ) (ns : List ℕ) (a c : List News) → (if t then node ∷ [] else []) ++ ns ≡ []
    → finds_place false (news_if t Tells ++ a) ≡ true → (ns ≡ [] → finds_place false a ≡ true → c ≡ [])
    → news_if t Tells ++ c ≡ []
if-placed true node ns a c e h rest = absurd (not-none node ns e)
if-placed false node ns a c e h rest = rest e h

if-bounced : (t : Bool) (a c : List News) → finds_place false (news_if t NeedsPlace ++ a) ≡ true
    → (finds_place false a ≡ true → c ≡ []) → news_if t NeedsPlace ++ c ≡ []
if-bounced true a c h rest = absurd (false≢true h)
if-bounced false a c h rest = rest h

-- where none of the frames tells the place and none is a Leaving, none is about the name
pub no-news : (name : Name) (known : Bool) (fs : List Frame) → placed_in name fs ≡ [] → filter is_leaving_frame fs ≡ []
    → finds_place false (news name known fs) ≡ true → news name true fs ≡ []
no-news name known [] e l h = refl
no-news name known (frames.Placed m node ∷ fs) e l h =
    if-placed (is_same_name name m) node (placed_in name fs) (news name known fs) (news name true fs) e h
    (λ e h. no-news name known fs e l h)
no-news name known (frames.Bounce asked ∷ fs) e l h =
    if-bounced (is_call_on name asked) (news name known fs) (news name true fs) h (λ h. no-news name known fs e l h)
no-news name known (frames.Leaving pid parent parent_node ∷ fs) e l h =
    absurd (not-none (frames.Leaving pid parent parent_node) (filter is_leaving_frame fs) l)
no-news name known (f ∷ fs) e l h = no-news name known fs e l h

-- what such a call makes: a name of this kind and number, with this body
pub record MakesOne (script : Script) (k : Kernel) (pid : ℕ) (call : Call) (kind : Kind) (number : ℕ) (name : Name)
    (body : Body) : Type 0 where
  pub takes : Takes kind call
  pub kind_is : kind_of name ≡ kind
  pub number_is : number_of name ≡ number
  pub object : is_object name ≡ true
  pub with_number : (step : Step) → make_with script step call number
      ≡ Some (make_object script step call name body number)
  pub makes : MakesPrivate k pid call name body
  pub no_fork : is_fork call ≡ false
  pub no_exit : is_exit call ≡ false
  pub not_killed : is_killed call ≡ false

-- a node whose process makes calls doesn't leave
pub here-way : (script : Script) (pids : ℕ → ℕ) (p : ℕ) (knows : Bool) (x : WaySight) → x.stage ≡ Living
    → Way script pids p knows x → IsHere x
here-way script pids p knows x e (here h) = h
here-way script pids p knows x e (tells h) = absurd (differ (sym e ∙ h.stage))
  where
    differ : Living ≡ Leaving → ⊥
    differ h = cc
here-way script pids p knows x e (collected h) = absurd (differ (sym e ∙ h.stage))
  where
    differ : Living ≡ Leaving → ⊥
    differ h = cc
here-way script pids p knows x e (over h) = absurd (differ (sym e ∙ h.stage))
  where
    differ : Living ≡ Left → ⊥
    differ h = cc
here-way script pids p knows x e (gone h) = absurd (differ (sym e ∙ h.stage))
  where
    differ : Living ≡ Left → ⊥
    differ h = cc

-- a kind is the same as itself
pub kind-itself : (kind : Kind) → is_same_kind kind kind ≡ true
kind-itself kinds.Proc = refl
kind-itself kinds.Msg = refl
kind-itself kinds.Sem = refl

-- what passes the test is one kind
pub kind-is : (a c : Kind) → is_same_kind a c ≡ true → a ≡ c
kind-is kinds.Proc kinds.Proc h = refl
kind-is kinds.Msg kinds.Msg h = refl
kind-is kinds.Sem kinds.Sem h = refl
kind-is kinds.Proc kinds.Msg h = absurd (false≢true h)
kind-is kinds.Proc kinds.Sem h = absurd (false≢true h)
kind-is kinds.Msg kinds.Proc h = absurd (false≢true h)
kind-is kinds.Msg kinds.Sem h = absurd (false≢true h)
kind-is kinds.Sem kinds.Proc h = absurd (false≢true h)
kind-is kinds.Sem kinds.Msg h = absurd (false≢true h)

-- the lease that was put is there
pub for-with : (m : Leases) (kind : Kind) (ns : List ℕ) → for_kind (with_kind m kind ns) kind ≡ ns
for-with m kinds.Proc ns = refl
for-with m kinds.Msg ns = refl
for-with m kinds.Sem ns = refl

-- and those of the other kinds stay
pub for-other : (m : Leases) (kind y : Kind) (ns : List ℕ) → is_same_kind kind y ≡ false
    → for_kind (with_kind m kind ns) y ≡ for_kind m y
for-other m kinds.Proc kinds.Msg ns h = refl
for-other m kinds.Proc kinds.Sem ns h = refl
for-other m kinds.Msg kinds.Proc ns h = refl
for-other m kinds.Msg kinds.Sem ns h = refl
for-other m kinds.Sem kinds.Proc ns h = refl
for-other m kinds.Sem kinds.Msg ns h = refl
for-other m kinds.Proc kinds.Proc ns h = absurd (false≢true (sym h))
for-other m kinds.Msg kinds.Msg ns h = absurd (false≢true (sym h))
for-other m kinds.Sem kinds.Sem ns h = absurd (false≢true (sym h))

-- a node other than the first has a number of two or more
pub two-or-more : (q : ℕ) → 1 ≤ q → q ≢ 1 → 2 ≤ q
two-or-more zero h d = absurd (omega (arith, h))
two-or-more (suc zero) h d = absurd (d refl)
two-or-more (suc (suc q)) h d = omega arith

-- a queue or set is no process's name
pub process-apart : (name : Name) (q : ℕ) → is_object name ≡ true → Proc q ≢ name
process-apart name q object e =
    false≢true (sym (object-is-no-process name q object) ∙ same-name name (Proc q) (sym e))
