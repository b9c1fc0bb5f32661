-- What the end of a process leaves of the deeds, by number.
use Rattle.std.proofs.Common.{◌≡◌, ◌∙◌, ℕ, Bool, true, false, nat_eq, List, [], ◌∷◌, ◌++◌, map, Some, None, refl, sym, ap}
use Rattle.std.specs.Prelude.{if◌then◌else◌}
use Rattle.std.proofs.lemmas.List.Sums.{fold-append}
use Rattle.pico_base.specs.declared.numbers.Name.{Name}
use Rattle.pico_base.specs.declared.numbers.Name.TheVariants.{Proc}
use Rattle.pico_base.specs.declared.reply.Ending.{Ending}
use Rattle.rpc_frame.specs.declared.deed.Parcel.{Parcel}
use Rattle.number_maps.specs.Maps.{Numbered, get, put}
use Rattle.number_maps.proofs.LookUps.{get-put-same, get-put-apart}
use Rattle.pico_base.specs.declared.signal.Sig.TheVariants.{Chld}
use Rattle.kernel_model.specs.Row.{Alive, Free, Row, family_after_end, ignores_children, with_ended_child}
use Rattle.kernel_model.specs.Row as plain_row
use Rattle.kernel_model.specs.ProcessCalls as plain_calls
use Rattle.waiting_model.specs.Marks as marks
use Rattle.waiting_model.specs.Kernel.{Process}
use Rattle.waiting_model.specs.Kernel as kernel
use Rattle.waiting_model.specs.ProcessCalls.{parent_after_end, process_after_end, raise_chld}
use Rattle.node_model.specs.Kinds.{put_all, put_named, put_pair}
use Rattle.node_model.specs.Bodies.{Body, Living, Ended, Gone, AQueue, ASet, Removed, Deeds, process_body, whole_process}
use Rattle.node_model.specs.Parcels.{Committed, all_gone, commit_exit, ending_of, lets_end, parked_in}
use Rattle.serve_laws.proofs.Puts.{put_each}

-- a living process that is free to act
abbrev pub free_alive : Row → Alive
free_alive row = record { row = row; allowance = Free }

-- what becomes of the process, and of a parent that lives
abbrev pub kept_under : Row → Ending → Body
kept_under row ending = process_body (Some (plain_calls.process_after_end (ignores_children row) ending))

-- the body of the parent once it has noted its child's end
abbrev pub parent_after : Row → ℕ → Ending → Body
parent_after row pid ending = Living (with_ended_child (free_alive row) pid ending).row

-- the processes that are held afterwards
abbrev pub processes_after : Numbered Body → List ℕ → ℕ → ℕ → Body → Ending → Numbered Body
processes_after bodies pids pid parent (Living row) ending =
    put (put (put_each Gone bodies pids) pid (kept_under row ending)) parent (parent_after row pid ending)
processes_after bodies pids pid parent body ending = put (put_each Gone bodies pids) pid Gone

-- ---- the kernel in which callers wait, where the parent doesn't

-- it keeps as much of the process
pub kept-whole : (b : Bool) (ending : Ending)
    → whole_process (Some (process_after_end b ending)) ≡ process_body (Some (plain_calls.process_after_end b ending))
kept-whole true ending = refl
kept-whole false ending = refl

-- whether or not the parent ignores its children
raised-whole : (b : Bool) (a : marks.Alive)
    → (raise_chld b a).row
    ≡ (if b then marks.plain_alive a else plain_row.raise_by_other (marks.plain_alive a) Chld).row
raised-whole true a = refl
raised-whole false a = refl

-- and as much of the parent
pub parent-whole : (row : Row) (pid : ℕ) (ending : Ending)
    → whole_process (Some (kernel.Living (parent_after_end (parked_in None row) pid ending)))
    ≡ parent_after row pid ending
parent-whole row pid ending =
    ap Living (raised-whole (ignores_children row)
    (marks.with_family (parked_in None row) (family_after_end row.family pid ending (ignores_children row))))

all-gone : (pids : List ℕ) (m : Deeds)
    → put_all m (all_gone pids) ≡ record m { processes = put_each Gone m.processes pids }
all-gone [] m = refl
all-gone (p ∷ ps) m = all-gone ps (put_named m (Proc p) Gone)

-- two more deeds, and one
two-more : (m : Deeds) (pids : List ℕ) (a b : Name) (x y : Body)
    → put_all m (all_gone pids ++ (a, x) ∷ (b, y) ∷ [])
    ≡ put_named (put_named (record m { processes = put_each Gone m.processes pids }) a x) b y
two-more m pids a b x y =
    fold-append put_pair m (all_gone pids) ((a, x) ∷ (b, y) ∷ [])
    ∙ ap (λ (d : Deeds). put_named (put_named d a x) b y) (all-gone pids m)

one-more : (m : Deeds) (pids : List ℕ) (a : Name) (x : Body)
    → put_all m (all_gone pids ++ (a, x) ∷ [])
    ≡ put_named (record m { processes = put_each Gone m.processes pids }) a x
one-more m pids a x =
    fold-append put_pair m (all_gone pids) ((a, x) ∷ []) ∙ ap (λ (d : Deeds). put_named d a x) (all-gone pids m)

some_same : {A : Type 0} (x y : A) → Some x ≡ Some y → x ≡ y
some_same x y h = cc

-- the first of two numbers that are written one after the other
pub first-there : (pid parent : ℕ) (v w : Process) → nat_eq pid parent ≡ false
    → whole_process (get (put (put [] pid v) parent w) pid) ≡ whole_process (Some v)
first-there pid parent v w apart =
    ap whole_process (get-put-apart (put [] pid v) parent pid w apart ∙ get-put-same [] pid v)

-- and the second, even where both numbers are one
pub second-there : (pid parent : ℕ) (v w : Process)
    → whole_process (get (put (put [] pid v) parent w) parent) ≡ whole_process (Some w)
second-there pid parent v w = ap whole_process (get-put-same (put [] pid v) parent w)

module _ (m : Deeds) (parcel : Parcel) (bodies : Numbered Body) (c : Committed)
    (apart : nat_eq parcel.pid parcel.parent ≡ false) where
  abbrev pids : List ℕ
  pids = map (λ e. e.0) bodies

  abbrev ending : Ending
  ending = ending_of parcel.call

  abbrev After : Body → Type 0
  After parent =
      put_all m c.changes
      ≡ record m { processes = processes_after m.processes pids parcel.pid parcel.parent parent ending }

  abbrev with_processes : Numbered Body → Deeds
  with_processes bodies = record m { processes = bodies }

  -- the changes of an end that wakes nobody
  abbrev made_of : List (Name × Body) → Committed
  made_of changes = record { changes = changes; wakes = [] }

  -- the first part of the kernel that has the process alone
  gone-there : whole_process (get (put [] parcel.pid kernel.Gone) parcel.pid) ≡ Gone
  gone-there = ap whole_process (get-put-same [] parcel.pid kernel.Gone)

  over : Some (made_of (all_gone pids
      ++ (Proc parcel.pid, whole_process (get (put [] parcel.pid kernel.Gone) parcel.pid)) ∷ [])) ≡ Some c
      → put_all m c.changes ≡ with_processes (put (put_each Gone m.processes pids) parcel.pid Gone)
  over made =
      ap (λ (x : Committed). put_all m x.changes) (sym (some_same _ c made))
      ∙ one-more m pids (Proc parcel.pid) (whole_process (get (put [] parcel.pid kernel.Gone) parcel.pid))
      ∙ ap (λ (x : Body). with_processes (put (put_each Gone m.processes pids) parcel.pid x)) gone-there

  living : (row : Row) (b : Bool) → lets_end parcel.pid (Living row) ≡ b
      → commit_exit parcel bodies None (Living row) ≡ Some c
      → After (Living row)
  living row true lets made =
      let v : Process = process_after_end (ignores_children row) ending
      in let w : Process = kernel.Living (parent_after_end (parked_in None row) parcel.pid ending)
      in let ps : Numbered Process = put (put [] parcel.pid v) parcel.parent w
      in let x : Body = whole_process (get ps parcel.pid)
      in let y : Body = whole_process (get ps parcel.parent)
      in let gone : Numbered Body = put_each Gone m.processes pids
      in let is : Some (made_of (all_gone pids ++ (Proc parcel.pid, x) ∷ (Proc parcel.parent, y) ∷ [])) ≡ Some c =
      rw lets at made
      in ap (λ (z : Committed). put_all m z.changes) (sym (some_same _ c is))
      ∙ two-more m pids (Proc parcel.pid) (Proc parcel.parent) x y
      ∙ ap (λ (z : Body). with_processes (put (put gone parcel.pid z) parcel.parent y))
      (first-there parcel.pid parcel.parent v w apart ∙ kept-whole (ignores_children row) ending)
      ∙ ap (λ (z : Body). with_processes (put (put gone parcel.pid (kept_under row ending)) parcel.parent z))
      (second-there parcel.pid parcel.parent v w ∙ parent-whole row parcel.pid ending)
  living row false lets made = let none : None ≡ Some c = rw lets at made in absurd (cc)

  -- the deeds after an end that is carried out
  pub committed : (parent : Body) → commit_exit parcel bodies None parent ≡ Some c → After parent
  committed (Living row) made = living row (lets_end parcel.pid (Living row)) refl made
  committed (Ended e) made = over made
  committed Gone made = over made
  committed (AQueue q) made = over made
  committed (ASet s) made = over made
  committed Removed made = over made
