-- What it comes to for the kernel when the end of a process is carried out where its parent's deed is held
-- (POSIX.1-2017: _Exit, consequences of the end of a process).
use Rattle.std.specs.Prelude.{◌≡◌, ◌≢◌, ℕ, Bool, true, false, ◌||◌, nat_eq, List, [], ◌∷◌, map, Option, Some, None, is_some, Contains}
use Rattle.pico_base.specs.declared.call.Call.{Call}
use Rattle.pico_base.specs.declared.numbers.Name.{Name}
use Rattle.pico_base.specs.declared.numbers.Name.TheVariants.{Proc}
use Rattle.pico_base.specs.declared.reply.Ending.{Ending}
use Rattle.pico_base.specs.declared.reply.Outcome.{Outcome}
use Rattle.pico_base.specs.declared.reply.Reply.TheVariants as replies
use Rattle.rpc_frame.specs.declared.deed.Parcel.{Parcel}
use Rattle.number_maps.specs.Maps.{Numbered, get, is_used}
use Rattle.kernel_model.specs.Row.{EndedChild, Row, ended_child}
use Rattle.kernel_model.specs.Kernel.{Kernel}
use Rattle.kernel_model.specs.Effect.{reply_alone}
use Rattle.kernel_model.specs.Footprint.{parent_number}
use Rattle.kernel_model.specs.Transition.{successor, transition}
use Rattle.kernel_model.specs.Valid.{IsValid}
use Rattle.node_model.specs.Kinds.{get_named, put_all}
use Rattle.node_model.specs.Bodies.{Body, Living, Ended, Gone, Deeds, body_in, is_living_body}
use Rattle.waiting_model.specs.declared.callers.Wake.{Wake}
use Rattle.waiting_model.specs.Linear.{at_once}
use Rattle.node_model.specs.Carrying.{done, on_row}
use Rattle.node_model.specs.Parcels.{Committed, commit_exit, fits_bodies}
use Rattle.serve_laws.specs.Served.{MakesOwn, found_gone}

-- Whose child the process is, by the body of who was its parent: one that has ended is nobody's parent any more.
abbrev pub parent_by : ℕ → Body → Option ℕ
parent_by parent (Living row) = Some parent
parent_by parent body = None

-- The kernel agrees with the deeds that are held and with those of the parcel on what the end looks at and changes: the
-- process, its ended children, whose child it is, and the parent.
pub record AgreesOnEnd (k : Kernel) (deeds : Deeds) (parcel : Parcel) (bodies : Numbered Body) : Type 0 where
  pub row : Row
  pub parent : Body
  pub brought : get bodies parcel.pid ≡ Some (Living row)
  pub lives : body_in k (Proc parcel.pid) ≡ Living row
  pub children : (child : ℕ) (ending : Ending) → Contains row.family.ended (ended_child child ending)
      → get bodies child ≡ Some (Ended ending)
  pub held : get_named deeds (Proc parcel.parent) ≡ Some parent
  pub parent_is : body_in k (Proc parcel.parent) ≡ parent
  pub parent_of : parent_number k parcel.pid ≡ parent_by parcel.parent parent

-- the number is that of one of these children
abbrev pub is_among : List EndedChild → ℕ → Bool
is_among children number = is_used (map (λ e. e.pid) children) number

-- the name is the process's, its parent's, or that of one of its ended children
abbrev pub concerns : Row → Parcel → Name → Bool
concerns row parcel (Proc number) =
    nat_eq number parcel.pid || (nat_eq number parcel.parent || is_among row.family.ended number)
concerns row parcel name = false

-- the parcel has a deed of this name
abbrev pub is_brought : Numbered Body → Name → Bool
is_brought bodies (Proc number) = is_some (get bodies number)
is_brought bodies name = false

-- The deeds after the end, and the next kernel. What the end concerns is the next kernel's part; all else is in the
-- kernel as it was. A deed that was held is as before, but for the parent's; each other process of the parcel is gone.
pub record IsEnded (k : Kernel) (deeds : Deeds) (parcel : Parcel) (bodies : Numbered Body) (row : Row) (after : Deeds)
    (next : Kernel) (outcome : Outcome) : Type 0 where
  pub alone : outcome ≡ reply_alone replies.Ended
  pub concerned : (name : Name) → concerns row parcel name ≡ true → get_named after name ≡ Some (body_in next name)
  pub others : (name : Name) → concerns row parcel name ≡ false → body_in next name ≡ body_in k name
  pub stays : (name : Name) → concerns row parcel name ≡ false → is_brought bodies name ≡ false
      → get_named after name ≡ get_named deeds name
  pub gone : (name : Name) → concerns row parcel name ≡ false → is_brought bodies name ≡ true
      → get_named after name ≡ Some Gone

-- A parcel that fits the deeds is taken where the parent's deed is held, as the kernel's transition ends its process.
abbrev pub EndsAreTheKernels : Type 0
EndsAreTheKernels =
    (k : Kernel) (deeds : Deeds) (parcel : Parcel) (bodies : Numbered Body) (c : Committed) (n : ℕ)
    (next : Kernel) (outcome : Outcome) → IsValid k → fits_bodies deeds parcel bodies ≡ true
    → (agrees : AgreesOnEnd k deeds parcel bodies) → commit_exit parcel bodies None agrees.parent ≡ Some c
    → transition k parcel.pid parcel.call n ≡ Some (successor next outcome)
    → IsEnded k deeds parcel bodies agrees.row (put_all deeds c.changes) next outcome

-- ---- an end that wakes the parent

-- In line it is the end, and then the parent's `waitpid` at once, which gives the reply with which the parent is woken.
pub record WakesThen (parcel : Parcel) (waits : Call) (deeds : Deeds) (c bereft : Committed) (w : Wake) : Type 0 where
  pub row : Row
  pub ended : get_named (put_all deeds bereft.changes) (Proc parcel.parent) ≡ Some (Living row)
  pub left : Row
  pub waited : on_row row parcel.parent (at_once waits) ≡ done left w.reply
  pub after : (name : Name)
      → get_named (put_all deeds c.changes) name
      ≡ get_named
      (put_all (put_all deeds bereft.changes) ((Proc parcel.parent, Living left) ∷ found_gone (Some w.reply))) name

abbrev pub WakesOrNot : Parcel → Call → Deeds → Committed → Committed → List Wake → Type 0
WakesOrNot parcel waits deeds c bereft [] = c.changes ≡ bereft.changes
WakesOrNot parcel waits deeds c bereft (w ∷ []) = WakesThen parcel waits deeds c bereft w
WakesOrNot parcel waits deeds c bereft wakes = ⊥

-- So it is where the process isn't its own parent, nor its parent that one's own child.
abbrev pub EndsWakeInLine : Type 0
EndsWakeInLine =
    (parcel : Parcel) (bodies : Numbered Body) (waits : Call) (parent : Body) (deeds : Deeds) (c bereft : Committed)
    → parcel.pid ≢ parcel.parent → (is_living_body parent ≡ true → MakesOwn parcel.parent parent)
    → commit_exit parcel bodies None parent ≡ Some bereft → commit_exit parcel bodies (Some waits) parent ≡ Some c
    → WakesOrNot parcel waits deeds c bereft c.wakes
