-- A process ends where its parent's deed is (POSIX.1-2017: _Exit).
use Rattle.std.specs.Prelude.{◌≡◌, ℕ, Bool, true, false, ◌&&◌, nat_eq, nat_lt, List, [], ◌∷◌, fold, map, if◌then◌else◌, Option, Some, None, is_some}
use Rattle.std.specs.List.{list_all, list_any}
use Rattle.std.specs.Option.{option_map}
use Rattle.pico_base.specs.declared.call.Call.{Call}
use Rattle.pico_base.specs.declared.call.Call.TheVariants as calls
use Rattle.pico_base.specs.declared.numbers.Name.{Name}
use Rattle.pico_base.specs.declared.numbers.Name.TheVariants.{Proc}
use Rattle.pico_base.specs.declared.reply.Ending.{Ending as Ends}
use Rattle.pico_base.specs.declared.reply.Outcome.{Outcome}
use Rattle.pico_base.specs.declared.reply.Reply.{Reply}
use Rattle.rpc_frame.specs.declared.deed.Parcel.{Parcel}
use Rattle.number_maps.specs.Maps.{Numbered}
use Rattle.kernel_model.specs.Row.{Alive, Free, Row, ignores_children, lists, wait, with_ended_child}
use Rattle.kernel_model.specs.Kernel.{Kernel}
use Rattle.kernel_model.specs.Transition.{successor, transition}
use Rattle.kernel_model.specs.Valid.{IsValid}
use Rattle.waiting_model.specs.declared.callers.Wake.{Wake}
use Rattle.serve_laws.specs.Ends.{AgreesOnEnd, IsEnded}
use Rattle.deed_box.specs.Packing.{ArePackedDeeds, names_of}
use Rattle.node_model.specs.Kinds.{Named, get_named, is_same_name, number_of, put_named, put_all}
use Rattle.node_model.specs.Bodies as model
use Rattle.node_model.specs.Awaiting.{Applied, in_whole, reap}
use Rattle.node_model.specs.Bodies.{is_over_body}
use Rattle.node_model.specs.Parcels as definition
use Rattle.node_model.specs.Parcels.{ending_of, fitting_bodies, has_own_row, lets_end}
use Rattle.node_model.specs.Spelling.{read_deed}
use Rattle.node_serve.specs.declared.body.Body.{Body}
use Rattle.node_serve.specs.declared.body.Body.TheVariants.{Living, Gone}
use Rattle.node_serve.specs.Bodies.{bodies_of, body_of}
use Rattle.node_serve.specs.Serving.{child_in}
use Rattle.node_serve.specs.Waits.{alone}
use Rattle.node_serve.specs.Spelled.{IsSpelled, suits}

-- The parent that lists the child no longer does; it keeps the ending, unless it ignores its children, and CHLD is
-- raised.
abbrev pub free_alive : Row → Alive
free_alive row = record { row = row; allowance = Free }

abbrev pub row_after : Row → ℕ → Ends → Row
row_after row child ending = (with_ended_child (free_alive row) child ending).row

abbrev pub parent_after : model.Body → ℕ → Ends → model.Body
parent_after (model.Living row) child ending =
    if lists row.family child then model.Living (row_after row child ending) else model.Living row
parent_after body child ending = body

-- what becomes of the child: its ending is kept by a living parent that lists it and doesn't ignore its children
abbrev pub kept_as : Bool → Ends → model.Body
kept_as ignored ending = if ignored then model.Gone else model.Ended ending

abbrev pub child_after : model.Body → ℕ → Ends → model.Body
child_after (model.Living row) child ending =
    if lists row.family child then kept_as (ignores_children row) ending else model.Gone
child_after body child ending = model.Gone

-- another body for a name that is held
abbrev pub replace_held : Named Body → Name → Body → Named Body
replace_held bodies name body = if is_some (get_named bodies name) then put_named bodies name body else bodies

abbrev pub gone_held : Named Body → Name → Named Body
gone_held bodies name = replace_held bodies name Gone

-- the parent's deed is held, and it lists the child
abbrev pub lists_child : ℕ → Option model.Body → Bool
lists_child child (Some (model.Living row)) = lists row.family child
lists_child child body = false

abbrev pub keeps : Named Body → ℕ → ℕ → Bool
keeps bodies parent child = lists_child child (option_map body_of (get_named bodies (Proc parent)))

-- The parent has noted the end, and this becomes of the child.
pub record Notes (old : Named Body) (parent child : ℕ) (ending : Ends) (new : Named Body) (kept : Body) : Type 0 where
  pub was : Body
  pub left : Body
  pub there : get_named old (Proc parent) ≡ Some was
  pub notes : body_of left ≡ parent_after (body_of was) child ending
  pub turns : body_of kept ≡ child_after (body_of was) child ending
  pub after : new ≡ put_named old (Proc parent) left

-- Where nobody lists the child nothing is noted, and the child is gone.
pub record NotesEnd (old : Named Body) (parent child : ℕ) (ending : Ends) (new : Named Body)
    (kept : Body) : Type 0 where
  pub noted : keeps old parent child ≡ true → Notes old parent child ending new kept
  pub unchanged : keeps old parent child ≡ false → new ≡ old
  pub gone : keeps old parent child ≡ false → kept ≡ Gone

-- The parcel's deeds are held here. The parent has noted the end, all processes of the parcel are gone, and the one
-- that ends is kept for the parent, or gone.
pub record Takes (old : Named Body) (parcel : Parcel) (new : Named Body) : Type 0 where
  pub deeds : List (Name × Body)
  pub packed : ArePackedDeeds suits IsSpelled deeds parcel.deeds
  pub noted : Named Body
  pub kept : Body
  pub notes : NotesEnd (put_all old deeds) parcel.parent parcel.pid (ending_of parcel.call) noted kept
  pub after : new ≡ replace_held (fold gone_held noted (names_of parcel.deeds)) (Proc parcel.pid) kept

-- ---- a parent that is parked in `waitpid`

abbrev pub lives : Option Body → Bool
lives (Some (Living row)) = true
lives body = false

-- it waits for its children, and may have its reply now
abbrev pub answered : model.Body → Option ℕ → Applied model.Body
answered (model.Living row) child = in_whole model.Living (reap row false (wait row.family child))
answered body child = alone body None

-- this is left of its body
pub record Answered (old : Named Body) (parent : ℕ) (child : Option ℕ) (body : Body) (new : Named Body)
    (own : Option Reply) : Type 0 where
  pub left : Body
  pub answers : answered (body_of body) child ≡ alone (body_of left) own
  pub after : new ≡ put_named old (Proc parent) left

abbrev pub AnswersIf : Named Body → ℕ → Option ℕ → Option Body → Named Body → Option Reply → Type 0
AnswersIf old parent child None new own = (own ≡ None) × (new ≡ old)
AnswersIf old parent child (Some body) new own = Answered old parent child body new own

abbrev pub AnswersAt : Named Body → ℕ → Option ℕ → Named Body → Option Reply → Type 0
AnswersAt old parent child new own = AnswersIf old parent child (get_named old (Proc parent)) new own

-- a child that it found is gone, unless it is the parent itself
abbrev pub bury_but : ℕ → Option ℕ → Named Body → Named Body
bury_but parent None bodies = bodies
bury_but parent (Some child) bodies = if nat_eq child parent then bodies else put_named bodies (Proc child) Gone

-- it has its reply, and what it found is gone
pub record Wakes (old : Named Body) (parent : ℕ) (child : Option ℕ) (new : Named Body) (own : Option Reply)
    : Type 0 where
  pub noted : Named Body
  pub answers : AnswersAt old parent child noted own
  pub after : new ≡ bury_but parent (child_in own) noted

abbrev pub WakesIf : Named Body → ℕ → Option ℕ → Bool → Named Body → Option Reply → Type 0
WakesIf old parent child false new own = (own ≡ None) × (new ≡ old)
WakesIf old parent child true new own = Wakes old parent child new own

abbrev pub WakesParent : Named Body → ℕ → Option (Option ℕ) → Named Body → Option Reply → Type 0
WakesParent old parent None new own = (own ≡ None) × (new ≡ old)
WakesParent old parent (Some child) new own =
    WakesIf old parent child (lives (get_named old (Proc parent))) new own

-- the parcel is taken, and then the parent may have its reply
pub record TakesThenWakes (old : Named Body) (parcel : Parcel) (awaits : Option (Option ℕ)) (new : Named Body)
    (own : Option Reply) : Type 0 where
  pub taken : Named Body
  pub takes : Takes old parcel taken
  pub wakes : WakesParent taken parcel.parent awaits new own

-- ---- what is asked of a parcel and of who takes it

-- a parent that lives lists the process; it may also have ended or be gone
abbrev pub lets : ℕ → Option Body → Bool
lets child None = false
lets child (Some body) = lets_end child (body_of body)

abbrev pub rise : List ℕ → Bool
rise [] = true
rise (n ∷ []) = true
rise (n ∷ m ∷ ns) = nat_lt n m && rise (m ∷ ns)

-- a process's own body says that it lives and may end by the parcel's call; any other that it has ended or is gone
abbrev pub may_be : Parcel → ℕ → model.Body → Bool
may_be parcel pid body = if nat_eq pid parcel.pid then has_own_row parcel.call (Some body) else is_over_body body

-- a deed that can't be read may be any process's
abbrev pub may_be_read : Parcel → Name → Option model.Body → Bool
may_be_read parcel (Proc pid) (Some body) = may_be parcel pid body
may_be_read parcel (Proc pid) None = true
may_be_read parcel name body = false

-- The parcel fits, as far as its bodies can be read: it has deeds of processes by rising number, the own one among
-- them.
abbrev pub fits_as_read : Parcel → Bool
fits_as_read parcel =
    rise (map (λ deed. number_of deed.name) parcel.deeds)
    && (list_any (is_same_name (Proc parcel.pid)) (names_of parcel.deeds)
    && list_all (λ deed. may_be_read parcel deed.name (read_deed deed)) parcel.deeds)

-- ---- what it comes to

-- the call in which a parent is parked that waits for these children
abbrev pub parked_for : Option (Option ℕ) → Option Call
parked_for awaits = option_map (λ child. calls.WaitPid child false) awaits

-- the parent is woken with this reply
abbrev pub wakes_with : ℕ → Option Reply → List Wake
wakes_with parent None = []
wakes_with parent (Some reply) = record { caller = 0; ticket = 0; pid = parent; reply = reply } ∷ []

-- The parcel fits the deeds, and they are as the definition of an exit that is carried out leaves them. So is the
-- parent's reply, if its `waitpid` has one now.
pub record Commits (old : Named Body) (parcel : Parcel) (awaits : Option (Option ℕ)) (new : Named Body)
    (own : Option Reply) : Type 0 where
  pub bodies : Numbered model.Body
  pub parent : model.Body
  pub committed : definition.Committed
  pub fits : fitting_bodies (bodies_of old) parcel ≡ Some bodies
  pub held : get_named (bodies_of old) (Proc parcel.parent) ≡ Some parent
  pub commits : definition.commit_exit parcel bodies (parked_for awaits) parent ≡ Some committed
  pub after : bodies_of new ≡ put_all (bodies_of old) committed.changes
  pub wakes : committed.wakes ≡ wakes_with parcel.parent own

-- On each valid kernel that agrees with the deeds and the parcel on what the end looks at and changes, and has a
-- transition for it, the outcome and the bodies are the transition's.
pub record EndsAsInKernels (old : Named Body) (parcel : Parcel) (new : Named Body) : Type 0 where
  pub ends : (bodies : Numbered model.Body) (k next : Kernel) (n : ℕ) (reached : Outcome)
      → fitting_bodies (bodies_of old) parcel ≡ Some bodies → IsValid k
      → (agrees : AgreesOnEnd k (bodies_of old) parcel bodies)
      → transition k parcel.pid parcel.call n ≡ Some (successor next reached)
      → IsEnded k (bodies_of old) parcel bodies agrees.row (bodies_of new) next reached
