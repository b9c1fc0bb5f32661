-- The end of a process where its parent's deed is held, and the end of the first process: they are the kernel's.
use Rattle.std.proofs.Common.{◌≡◌, ◌≢◌, ℕ, Bool, true, false, ◌&&◌, List, [], ◌∷◌, ◌++◌, map, Option, Some, None, refl, ap, sym, subst, ◌∙◌, inl, inr, nat_eq}
use Rattle.std.specs.Prelude.{Contains, fold, if◌then◌else◌, is_none}
use Rattle.std.specs.List.{list_all}
use Rattle.std.proofs.lemmas.Bool.{cases_eq, eqb-true, ne_eqb, or_cases, false≢true}
use Rattle.pico_base.specs.declared.call.Call.{Call}
use Rattle.pico_base.specs.declared.call.Call.TheVariants as calls
use Rattle.pico_base.specs.declared.numbers.Name.{Name}
use Rattle.pico_base.specs.declared.numbers.Name.TheVariants.{Proc, Msg, Sem}
use Rattle.pico_base.specs.declared.reply.EndedChild.{EndedChild}
use Rattle.pico_base.specs.declared.reply.Ending.{Ending}
use Rattle.pico_base.specs.declared.reply.Reply.TheVariants as replies
use Rattle.rpc_frame.specs.declared.deed.Parcel.{Parcel}
use Rattle.number_maps.specs.Maps.{Numbered, get, put, is_used}
use Rattle.number_maps.proofs.LookUps.{get-later}
use Rattle.kernel_laws.proofs.Members.{contains-first, contains-later}
use Rattle.kernel_model.specs.Row.{Alive, Row, ended_child, lists}
use Rattle.kernel_model.specs.Kernel.{Kernel, Parent, Process, living_at, parent_in}
use Rattle.kernel_model.specs.Kernel as kernel
use Rattle.kernel_model.specs.Effect.{Effect, reply_alone}
use Rattle.kernel_model.specs.ProcessCalls.{bury, bury_all, end_process, end_under}
use Rattle.kernel_model.specs.Transition.{effect}
use Rattle.kernel_model.specs.Valid.{IsValid}
use Rattle.waiting_model.specs.ProcessCalls.{wakes_under}
use Rattle.node_model.specs.Kinds.{get_named, is_object, put_all}
use Rattle.node_model.specs.Bodies.{Body, Living, Ended, Gone, AQueue, ASet, Removed, Deeds, body_in, is_living_body, process_body, queue_body, set_body}
use Rattle.node_model.specs.Parcels.{Committed, all_gone, commit_exit, committed, end_first, ending_of, fits_bodies, has_own_row, is_held_none, lets_end, may_end_with, parent_with}
use Rattle.serve_laws.specs.Ends.{AgreesOnEnd, IsEnded, WakesOrNot, is_among}
use Rattle.serve_laws.specs.Served.{MakesOwn}
use Rattle.serve_laws.proofs.Ends.{ends-are-the-kernels, fits-parts}
use Rattle.serve_laws.proofs.Waking.{ends-wake-in-line}
use Rattle.serve_laws.proofs.KernelEnds.{HasEnded, ends-under, kept_by, left_by}
use Rattle.serve_laws.proofs.Puts.{each-in, each-out, put_each}
use Rattle.entry_laws.specs.Entering.{Enters, IsChildOf, KeepsKeys, MayMake}
use Rattle.entry_laws.proofs.Bodies.{living-body}
use Rattle.entry_laws.proofs.Families.{no-parent, parent-number}
use Rattle.entry_laws.proofs.Holding.{ended-apart}
use Rattle.entry_laws.proofs.Making.{finished, finished-is-like, enters-by, keys-finished, steps-by}

-- ---- the effect of an end

pub end-effect : (k : Kernel) (pid n : ℕ) (a : Alive) (row : Row) (call : Call) → may_end_with row call ≡ true
    → effect k pid a call n ≡ Some (end_process k pid a (ending_of call))
end-effect k pid n a row (calls.Exit status) h = refl
end-effect k pid n a row (calls.Killed sig) h = refl
end-effect k pid n a row call h = absurd (false≢true h)

-- keys stay
end-keys : (k : Kernel) (pid : ℕ) (a : Alive) (ending : Ending) → KeepsKeys k (end_process k pid a ending).kernel
end-keys k pid a ending = record { queues = λ key. refl; sets = λ key. refl; sizes = λ key id bound. refl }

-- and so do queues and sets
end-objects : (k : Kernel) (pid : ℕ) (a : Alive) (ending : Ending) (name : Name) → is_object name ≡ true
    → body_in (end_process k pid a ending).kernel name ≡ body_in k name
end-objects k pid a ending (Proc p) h = absurd (false≢true h)
end-objects k pid a ending (Msg id) h = refl
end-objects k pid a ending (Sem id) h = refl

and-first : (a b : Bool) → (a && b) ≡ true → a ≡ true
and-first true b h = refl
and-first false b h = absurd (false≢true h)

and-second : (a b : Bool) → (a && b) ≡ true → b ≡ true
and-second true b h = h
and-second false b h = absurd (false≢true h)

-- ---- where the parent's deed is held

-- The deeds that are held, and those of the parcel, have the kernel's bodies; the ended children of the process are in
-- its parcel, and its parent is who lists it.
pub record MayEnd (k : Kernel) (deeds : Deeds) (parcel : Parcel) (bodies : Numbered Body) (row : Row)
    (parent : Body) : Type 0 where
  pub fits : fits_bodies deeds parcel bodies ≡ true
  pub brought : get bodies parcel.pid ≡ Some (Living row)
  pub lives : body_in k (Proc parcel.pid) ≡ Living row
  pub children : (child : ℕ) (ending : Ending) → Contains row.family.ended (ended_child child ending)
      → get bodies child ≡ Some (Ended ending)
  pub held : get_named deeds (Proc parcel.parent) ≡ Some parent
  pub child_of : IsChildOf k parcel.pid parcel.parent parent

pub agrees : (k : Kernel) (deeds : Deeds) (parcel : Parcel) (bodies : Numbered Body) (row : Row) (parent : Body)
    → IsValid k → MayEnd k deeds parcel bodies row parent → AgreesOnEnd k deeds parcel bodies
agrees k deeds parcel bodies row parent valid m = record {
  row = row;
  parent = parent;
  brought = m.brought;
  lives = m.lives;
  children = m.children;
  held = m.held;
  parent_is = m.child_of.is;
  parent_of = parent-number k parcel.pid parcel.parent parent valid m.child_of;
}

-- a living parent lists the child
lets-end : (child : ℕ) (body : Body) → ((row : Row) → body ≡ Living row → lists row.family child ≡ true)
    → lets_end child body ≡ true
lets-end child (Living row) h = h row refl
lets-end child (Ended e) h = refl
lets-end child Gone h = refl
lets-end child (AQueue q) h = refl
lets-end child (ASet s) h = refl
lets-end child Removed h = refl

-- what the exit comes to for the deeds that are held, where the parent waits with this call, or with none
abbrev pub exit_comes_to : Parcel → Numbered Body → Option Call → Body → Committed
exit_comes_to parcel bodies waits parent =
    committed parcel bodies waits parent
    (wakes_under parcel.pid (ending_of parcel.call) (parent_with parcel.parent waits parent))

-- where it waits with none
abbrev pub exit_changes : Parcel → Numbered Body → Body → List (Name × Body)
exit_changes parcel bodies parent = let c : Committed = exit_comes_to parcel bodies None parent in c.changes

-- an end that may be carried out is, with these changes
pub commits : (k : Kernel) (deeds : Deeds) (parcel : Parcel) (bodies : Numbered Body) (row : Row) (parent : Body)
    → MayEnd k deeds parcel bodies row parent → (waits : Option Call)
    → commit_exit parcel bodies waits parent ≡ Some (exit_comes_to parcel bodies waits parent)
commits k deeds parcel bodies row parent m waits =
    ap (λ (t : Bool). if t then Some (exit_comes_to parcel bodies waits parent) else None)
    (lets-end parcel.pid parent m.child_of.listed)

may-end : (call : Call) (row : Row) (o : Option Body) → o ≡ Some (Living row) → has_own_row call o ≡ true
    → may_end_with row call ≡ true
may-end call row o is h = sym (ap (has_own_row call) is) ∙ h

-- The bodies after the end of a process with this row: it is gone or kept for its parent, which notes the end; its
-- ended children are gone; and all else stays.
pub record EndBodies (k next : Kernel) (pid parent : ℕ) (row : Row) (body : Body) (ending : Ending) : Type 0 where
  pub own : body_in next (Proc pid) ≡ kept_by body ending
  pub its : body_in next (Proc parent) ≡ left_by body pid ending
  pub children : (q : ℕ) → q ≢ pid → q ≢ parent → is_among row.family.ended q ≡ true → body_in next (Proc q) ≡ Gone
  pub others : (q : ℕ) → q ≢ pid → q ≢ parent → is_among row.family.ended q ≡ false
      → body_in next (Proc q) ≡ body_in k (Proc q)
  pub objects : (name : Name) → is_object name ≡ true → body_in next name ≡ body_in k name
  pub apart : parent ≢ pid
  pub not_among : is_among row.family.ended parent ≡ false

all-at : (test : ℕ × Body → Bool) (bodies : Numbered Body) (q : ℕ) (b : Body) → list_all test bodies ≡ true
    → get bodies q ≡ Some b → (e : ℕ × Body) × (test e ≡ true) × (e.0 ≡ q)
all-at test [] q b h there = absurd (cc)
all-at test (e ∷ es) q b h there =
    elim (cases_eq q e.0) [
      | inl same ↦ (e, and-first (test e) (list_all test es) h, sym same)
      | inr other ↦ all-at test es q b (and-second (test e) (list_all test es) h) (sym (get-later e es q other) ∙ there)
    ]

-- who is among ended children was kept with an ending
pub among-kept : (es : List EndedChild) (q : ℕ) → is_among es q ≡ true → (e : Ending) × Contains es (ended_child q e)
among-kept [] q h = absurd (false≢true h)
among-kept (x ∷ xs) q h =
    elim (or_cases (nat_eq q x.pid) (is_among xs q) h) [
      | inl first ↦ (
        x.ending,
        subst (λ (n : ℕ). Contains (x ∷ xs) (ended_child n x.ending)) (sym (eqb-true q x.pid first))
            (contains-first x xs),
      )
      | inr later ↦
          let w = among-kept xs q later in (w.0, contains-later x xs (ended_child q w.0) w.1)
    ]

-- what is held isn't in the parcel
held-not-brought : (deeds : Deeds) (bodies : Numbered Body) (q : ℕ) (b held : Body)
    → list_all (is_held_none deeds) bodies ≡ true → get bodies q ≡ Some b → get deeds.processes q ≡ Some held → ⊥
held-not-brought deeds bodies q b held none there here =
    let w = all-at (is_held_none deeds) bodies q b none there
    in false≢true (sym (ap (λ o. is_none o) here)
    ∙ ap (λ n. is_none (get deeds.processes n)) (sym w.2) ∙ w.1)

parent-not-among : (k : Kernel) (deeds : Deeds) (parcel : Parcel) (bodies : Numbered Body) (row : Row) (parent : Body)
    → MayEnd k deeds parcel bodies row parent → is_among row.family.ended parcel.parent ≡ false
parent-not-among k deeds parcel bodies row parent m = by (is_among row.family.ended parcel.parent) refl
  where
    by : (t : Bool) → is_among row.family.ended parcel.parent ≡ t → is_among row.family.ended parcel.parent ≡ false
    by false h = h
    by true h =
        let w = among-kept row.family.ended parcel.parent h
        in absurd (held-not-brought deeds bodies parcel.parent (Ended w.0) parent
        (fits-parts deeds parcel bodies m.fits).absent (m.children parcel.parent w.0 w.1) m.held)

parent-apart : (k : Kernel) (deeds : Deeds) (parcel : Parcel) (bodies : Numbered Body) (row : Row) (parent : Body)
    → MayEnd k deeds parcel bodies row parent → parcel.parent ≢ parcel.pid
parent-apart k deeds parcel bodies row parent m same =
    held-not-brought deeds bodies parcel.parent (Living row) parent (fits-parts deeds parcel bodies m.fits).absent
    (ap (get bodies) same ∙ m.brought) m.held

same-row-of : (k : Kernel) (pid : ℕ) (call : Call) (row : Row) (m : MayMake k pid call)
    → body_in k (Proc pid) ≡ Living row
    → m.alive.row ≡ row
same-row-of k pid call row m own = same (sym (living-body k pid m.alive m.lives) ∙ own)
  where
    same : {r s : Row} → Living r ≡ Living s → r ≡ s
    same h = cc

-- The exit is carried out, and is the kernel's: the process is gone or kept, its parent notes it, and its ended
-- children are gone; the deeds held afterwards have the next kernel's bodies.
pub record EndsHere (k : Kernel) (deeds : Deeds) (parcel : Parcel) (bodies : Numbered Body) (row : Row)
    (parent : Body) : Type 0 where
  pub next : Kernel
  pub enters : Enters k parcel.pid parcel.call replies.Ended None next
  pub ended : IsEnded k deeds parcel bodies row (put_all deeds (exit_changes parcel bodies parent)) next
      (reply_alone replies.Ended)
  pub bodies_are : EndBodies k next parcel.pid parcel.parent row parent (ending_of parcel.call)
  pub keys : KeepsKeys k next

-- where the parent's deed is held, the end of a process is the kernel's
pub ends-here : (k : Kernel) (deeds : Deeds) (parcel : Parcel) (bodies : Numbered Body) (row : Row) (parent : Body)
    → MayMake k parcel.pid parcel.call → MayEnd k deeds parcel bodies row parent
    → EndsHere k deeds parcel bodies row parent
unfolding agrees
ends-here k deeds parcel bodies row parent m may =
    let own = (fits-parts deeds parcel bodies may.fits).own
    in let e : Effect = end_process k parcel.pid m.alive (ending_of parcel.call)
    in let ends : effect k parcel.pid m.alive parcel.call 0 ≡ Some e =
    end-effect k parcel.pid 0 m.alive row parcel.call
    (may-end parcel.call row (get bodies parcel.pid) may.brought own)
    in let step = steps-by k parcel.pid parcel.call e m ends
    in let enters : Enters k parcel.pid parcel.call replies.Ended None (finished e.kernel parcel.pid) =
    enters-by k parcel.pid parcel.call e None m ends (λ kind. refl)
    in let like = finished-is-like e.kernel parcel.pid
    in let apart : parcel.parent ≢ parcel.pid = parent-apart k deeds parcel bodies row parent may
    in let among = parent-not-among k deeds parcel bodies row parent may
    in let rows : m.alive.row ≡ row = same-row-of k parcel.pid parcel.call row m may.lives
    in let h : HasEnded k e.kernel parcel.pid parcel.parent m.alive.row.family.ended
    (kept_by parent (ending_of parcel.call)) (left_by parent parcel.pid (ending_of parcel.call)) =
    ends-under k m.valid parcel.pid parcel.parent m.alive (ending_of parcel.call)
    (ne_eqb parcel.pid parcel.parent (λ same. apart (sym same))) parent may.child_of.is
    (parent-number k parcel.pid parcel.parent parent m.valid may.child_of) (ne_eqb parcel.parent parcel.pid apart)
    (ap (λ (r : Row). is_among r.family.ended parcel.parent) rows ∙ among)
    in record {
      next = finished e.kernel parcel.pid;
      enters = enters;
      bodies_are = record {
        own = like.bodies (Proc parcel.pid) ∙ h.own;
        its = like.bodies (Proc parcel.parent) ∙ h.its;
        children = λ q ne np is.
            like.bodies (Proc q)
            ∙ h.children q (ne_eqb q parcel.pid ne) (ne_eqb q parcel.parent np)
            (ap (λ (r : Row). is_among r.family.ended q) rows ∙ is);
        others = λ q ne np is.
            like.bodies (Proc q)
            ∙ h.others q (ne_eqb q parcel.pid ne) (ne_eqb q parcel.parent np)
            (ap (λ (r : Row). is_among r.family.ended q) rows ∙ is);
        objects = λ name object. like.bodies name
            ∙ end-objects k parcel.pid m.alive (ending_of parcel.call) name object;
        apart = apart;
        not_among = among;
      };
      ended = ends-are-the-kernels k deeds parcel bodies (exit_comes_to parcel bodies None parent) 0
          (finished e.kernel parcel.pid) (reply_alone replies.Ended) m.valid may.fits
          (agrees k deeds parcel bodies row parent m.valid may) (commits k deeds parcel bodies row parent may None)
          step;
      keys = keys-finished k e.kernel parcel.pid (end-keys k parcel.pid m.alive (ending_of parcel.call));
    }

-- a parent that lives isn't its own child
parent-makes : (k : Kernel) (parcel : Parcel) (parent : Body) → IsValid k → body_in k (Proc parcel.parent) ≡ parent
    → is_living_body parent ≡ true → MakesOwn parcel.parent parent
parent-makes k parcel (Living row) valid is lives =
    record {
      row = row;
      lives = refl;
      apart = λ child ending kept. ended-apart k parcel.parent row valid is child ending kept;
    }
parent-makes k parcel (Ended e) valid is lives = absurd (false≢true lives)
parent-makes k parcel Gone valid is lives = absurd (false≢true lives)
parent-makes k parcel (AQueue q) valid is lives = absurd (false≢true lives)
parent-makes k parcel (ASet s) valid is lives = absurd (false≢true lives)
parent-makes k parcel Removed valid is lives = absurd (false≢true lives)

-- Where the parent waits with this call, it may have its reply then, which in line is that call at once.
pub ends-wake : (k : Kernel) (deeds : Deeds) (parcel : Parcel) (bodies : Numbered Body) (row : Row) (parent : Body)
    → MayMake k parcel.pid parcel.call → MayEnd k deeds parcel bodies row parent → (waits : Call)
    → WakesOrNot parcel waits deeds (exit_comes_to parcel bodies (Some waits) parent)
    (exit_comes_to parcel bodies None parent) (exit_comes_to parcel bodies (Some waits) parent).wakes
ends-wake k deeds parcel bodies row parent m may waits =
    ends-wake-in-line parcel bodies waits parent deeds (exit_comes_to parcel bodies (Some waits) parent)
    (exit_comes_to parcel bodies None parent)
    (λ same. parent-apart k deeds parcel bodies row parent may (sym same))
    (parent-makes k parcel parent m.valid may.child_of.is) (commits k deeds parcel bodies row parent may None)
    (commits k deeds parcel bodies row parent may (Some waits))

-- ---- the first process

-- these processes are gone in what is held
abbrev pub is_gone_of : List ℕ → Name → Bool
is_gone_of ns (Proc p) = is_used ns p
is_gone_of ns name = false

gone-each : (ns : List ℕ) (deeds : Deeds)
    → put_all deeds (all_gone ns) ≡ record deeds { processes = put_each Gone deeds.processes ns }
gone-each [] deeds = refl
gone-each (n ∷ ns) deeds = gone-each ns (record deeds { processes = put deeds.processes n Gone })

pub gone-in : (ns : List ℕ) (deeds : Deeds) (name : Name) → is_gone_of ns name ≡ true
    → get_named (put_all deeds (all_gone ns)) name ≡ Some Gone
gone-in ns deeds (Proc p) h = ap (λ d. get_named d (Proc p)) (gone-each ns deeds) ∙ each-in Gone deeds.processes ns p h
gone-in ns deeds (Msg id) h = absurd (false≢true h)
gone-in ns deeds (Sem id) h = absurd (false≢true h)

pub gone-out : (ns : List ℕ) (deeds : Deeds) (name : Name) → is_gone_of ns name ≡ false
    → get_named (put_all deeds (all_gone ns)) name ≡ get_named deeds name
gone-out ns deeds (Proc p) h =
    ap (λ d. get_named d (Proc p)) (gone-each ns deeds) ∙ each-out Gone deeds.processes ns p h
gone-out ns deeds (Msg id) h = ap (λ d. get_named d (Msg id)) (gone-each ns deeds)
gone-out ns deeds (Sem id) h = ap (λ d. get_named d (Sem id)) (gone-each ns deeds)

buried-each : (es : List EndedChild) (ps : Numbered Process)
    → fold bury ps es ≡ put_each kernel.Gone ps (map (λ e. e.pid) es)
buried-each [] ps = refl
buried-each (e ∷ es) ps = buried-each es (put ps e.pid kernel.Gone)

each-append : (ns ms : List ℕ) (ps : Numbered Process)
    → put_each kernel.Gone ps (ns ++ ms) ≡ put_each kernel.Gone (put_each kernel.Gone ps ns) ms
each-append [] ms ps = refl
each-append (n ∷ ns) ms ps = each-append ns ms (put ps n kernel.Gone)

-- the numbers that are gone with the first process
abbrev pub gone_with : ℕ → Row → List ℕ
gone_with pid row = map (λ e. e.pid) row.family.ended ++ pid ∷ []

-- The first process ends, which no process is the parent of, and is gone with its ended children; all else stays. What
-- is held afterwards has the next kernel's bodies.
pub record EndsFirst (k : Kernel) (pid : ℕ) (call : Call) (row : Row) : Type 0 where
  pub next : Kernel
  pub enters : Enters k pid call replies.Ended None next
  pub gone : (name : Name) → is_gone_of (gone_with pid row) name ≡ true → body_in next name ≡ Gone
  pub rest : (name : Name) → is_gone_of (gone_with pid row) name ≡ false → body_in next name ≡ body_in k name
  pub keys : KeepsKeys k next

first-processes : (k : Kernel) (pid : ℕ) (a : Alive) (row : Row) (ending : Ending) → a.row ≡ row
    → parent_in pid k.processes ≡ None
    → (end_process k pid a ending).kernel.processes ≡ put_each kernel.Gone k.processes (gone_with pid row)
first-processes k pid a row ending rows none =
    ap (λ (o : Option Parent). end_under (bury_all k.processes a.row.family) pid ending o) none
    ∙ ap (λ (r : Row). put (fold bury k.processes r.family.ended) pid kernel.Gone) rows
    ∙ ap (λ ps. put ps pid kernel.Gone) (buried-each row.family.ended k.processes)
    ∙ sym (each-append (map (λ e. e.pid) row.family.ended) (pid ∷ []) k.processes)

-- the first process's end is the kernel's
pub ends-first : (k : Kernel) (pid : ℕ) (call : Call) (row : Row) → MayMake k pid call
    → body_in k (Proc pid) ≡ Living row → may_end_with row call ≡ true
    → ((p : ℕ) (a : Alive) → living_at k p ≡ Some a → lists a.row.family pid ≡ true → ⊥)
    → EndsFirst k pid call row
ends-first k pid call row m own allowed unlisted =
    let e : Effect = end_process k pid m.alive (ending_of call)
    in let like = finished-is-like e.kernel pid
    in let ns : List ℕ = gone_with pid row
    in let rows : m.alive.row ≡ row = same-row m.alive.row row (sym (living-body k pid m.alive m.lives) ∙ own)
    in let is : e.kernel.processes ≡ put_each kernel.Gone k.processes ns =
    first-processes k pid m.alive row (ending_of call) rows (no-parent k pid m.valid unlisted)
    in record {
      next = finished e.kernel pid;
      enters = enters-by k pid call e None m (end-effect k pid 0 m.alive row call allowed) (λ kind. refl);
      gone = λ name h. like.bodies name ∙ gone-at e.kernel k ns is name h;
      rest = λ name h. like.bodies name ∙ rest-at e.kernel k ns is refl refl name h;
      keys = keys-finished k e.kernel pid (end-keys k pid m.alive (ending_of call));
    }
  where
    same-row : (r s : Row) → Living r ≡ Living s → r ≡ s
    same-row r s h = cc

    gone-at : (j l : Kernel) (ns : List ℕ) → j.processes ≡ put_each kernel.Gone l.processes ns → (name : Name)
        → is_gone_of ns name ≡ true → body_in j name ≡ Gone
    gone-at j l ns is (Proc p) h =
        ap (λ ps. process_body (get ps p)) is ∙ ap process_body (each-in kernel.Gone l.processes ns p h)
    gone-at j l ns is (Msg id) h = absurd (false≢true h)
    gone-at j l ns is (Sem id) h = absurd (false≢true h)

    rest-at : (j l : Kernel) (ns : List ℕ) → j.processes ≡ put_each kernel.Gone l.processes ns → j.queues ≡ l.queues
        → j.sets ≡ l.sets → (name : Name) → is_gone_of ns name ≡ false → body_in j name ≡ body_in l name
    rest-at j l ns is queues sets (Proc p) h =
        ap (λ ps. process_body (get ps p)) is ∙ ap process_body (each-out kernel.Gone l.processes ns p h)
    rest-at j l ns is queues sets (Msg id) h =
        ap (λ qs. queue_body (get qs id)) queues
    rest-at j l ns is queues sets (Sem id) h =
        ap (λ ss. set_body (get ss id)) sets

-- what the node holds then
pub first-held : (pid : ℕ) (row : Row) (deeds : Deeds) (name : Name) → is_gone_of (gone_with pid row) name ≡ true
    → get_named (put_all deeds (end_first pid row)) name ≡ Some Gone
first-held pid row deeds name h = gone-in (gone_with pid row) deeds name h

-- the first process's end leaves all other names
pub first-kept : (pid : ℕ) (row : Row) (deeds : Deeds) (name : Name) → is_gone_of (gone_with pid row) name ≡ false
    → get_named (put_all deeds (end_first pid row)) name ≡ get_named deeds name
first-kept pid row deeds name h = gone-out (gone_with pid row) deeds name h
