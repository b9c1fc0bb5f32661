-- What the kernel's end of a process leaves at each name.
use Rattle.std.proofs.Common.{◌≡◌, ◌∙◌, ℕ, Bool, true, false, nat_eq, List, [], ◌∷◌, map, fold, Option, Some, None, refl, sym, ap, subst}
use Rattle.std.specs.Prelude.{if◌then◌else◌}
use Rattle.std.specs.Option.{option_and_then, option_map}
use Rattle.pico_base.specs.declared.call.Call.{Call}
use Rattle.pico_base.specs.declared.call.Call.TheVariants as calls
use Rattle.pico_base.specs.declared.numbers.Name.TheVariants.{Proc}
use Rattle.pico_base.specs.declared.reply.Ending.{Ending}
use Rattle.pico_base.specs.declared.reply.EndedChild.{EndedChild}
use Rattle.pico_base.specs.declared.reply.Outcome.{Outcome}
use Rattle.number_maps.specs.Maps.{Numbered, get, put}
use Rattle.number_maps.proofs.LookUps.{get-put-same, get-put-apart}
use Rattle.pico_base.specs.declared.signal.Sig.TheVariants.{Chld}
use Rattle.kernel_model.specs.Row.{Alive, Row, family_after_end, ignores_children, raise_by_other, with_ended_child}
use Rattle.kernel_model.specs.Kernel.{Kernel, Parent, Process, alive_in, living_at, parent_in}
use Rattle.kernel_model.specs.Kernel as kernel
use Rattle.kernel_model.specs.Effect.{Effect, reply_alone}
use Rattle.kernel_model.specs.Footprint.{parent_number}
use Rattle.kernel_model.specs.ProcessCalls.{bury, end_process, end_under, process_after_end}
use Rattle.kernel_model.specs.Transition.{Successor, successor, effect, finish_call, may_make, outcome_of, transition, transition_by}
use Rattle.kernel_model.specs.Valid.{IsValid}
use Rattle.footprint_laws.proofs.Parents.{parent-is}
use Rattle.node_model.specs.Bodies.{Body, Living, Ended, Gone, AQueue, ASet, Removed, body_in, is_living_body, process_body}
use Rattle.node_model.specs.Parcels.{ending_of, may_end_with}
use Rattle.serve_laws.specs.Ends.{is_among, parent_by}
use Rattle.serve_laws.proofs.Puts.{put_each, each-in, each-out}
use Rattle.serve_laws.proofs.Follow.{same_living}
use Rattle.serve_laws.proofs.Committed.{free_alive, kept_under, parent_after}

-- ---- what is left at each name

-- the next kernel's parts after the end of a process with these ended children and this parent
pub record HasEnded (k next : Kernel) (pid parent : ℕ) (es : List EndedChild) (kept left : Body) : Type 0 where
  pub own : body_in next (Proc pid) ≡ kept
  pub its : body_in next (Proc parent) ≡ left
  pub children : (q : ℕ) → nat_eq q pid ≡ false → nat_eq q parent ≡ false → is_among es q ≡ true
      → body_in next (Proc q) ≡ Gone
  pub others : (q : ℕ) → nat_eq q pid ≡ false → nat_eq q parent ≡ false → is_among es q ≡ false
      → body_in next (Proc q) ≡ body_in k (Proc q)
  pub queues : next.queues ≡ k.queues
  pub sets : next.sets ≡ k.sets

buried-each : (es : List EndedChild) (ps : Numbered Process)
    → fold bury ps es ≡ put_each kernel.Gone ps (map (λ e. e.pid) es)
buried-each [] ps = refl
buried-each (e ∷ es) ps = buried-each es (put ps e.pid kernel.Gone)

module _ (k : Kernel) (pid : ℕ) (es : List EndedChild) where
  buried-in : (q : ℕ) → is_among es q ≡ true → get (fold bury k.processes es) q ≡ Some kernel.Gone
  buried-in q h =
      ap (λ (m : Numbered Process). get m q) (buried-each es k.processes)
      ∙ each-in kernel.Gone k.processes (map (λ e. e.pid) es) q h

  buried-out : (q : ℕ) → is_among es q ≡ false → get (fold bury k.processes es) q ≡ get k.processes q
  buried-out q h =
      ap (λ (m : Numbered Process). get m q) (buried-each es k.processes)
      ∙ each-out kernel.Gone k.processes (map (λ e. e.pid) es) q h

  under : (r : Parent) (ending : Ending) → nat_eq pid r.pid ≡ false
      → HasEnded k (record k { processes = end_under (fold bury k.processes es) pid ending (Some r) }) pid r.pid es
      (process_body (Some (process_after_end (ignores_children r.alive.row) ending)))
      (Living (with_ended_child r.alive pid ending).row)
  under r ending apart =
      let v : Process = process_after_end (ignores_children r.alive.row) ending
      in let w : Process = kernel.Living (with_ended_child r.alive pid ending)
      in let ps : Numbered Process = fold bury k.processes es
      in record {
        own = ap process_body (get-put-apart (put ps pid v) r.pid pid w apart ∙ get-put-same ps pid v);
        its = ap process_body (get-put-same (put ps pid v) r.pid w);
        children = λ q ne np among.
            ap process_body
            (get-put-apart (put ps pid v) r.pid q w np ∙ get-put-apart ps pid q v ne ∙ buried-in q among);
        others = λ q ne np apart.
            ap process_body
            (get-put-apart (put ps pid v) r.pid q w np ∙ get-put-apart ps pid q v ne ∙ buried-out q apart);
        queues = refl;
        sets = refl;
      }

  alone : (parent : ℕ) (ending : Ending) → nat_eq parent pid ≡ false → is_among es parent ≡ false
      → HasEnded k (record k { processes = end_under (fold bury k.processes es) pid ending None }) pid parent es
      Gone (body_in k (Proc parent))
  alone parent ending apart stays =
      let ps : Numbered Process = fold bury k.processes es
      in record {
        own = ap process_body (get-put-same ps pid kernel.Gone);
        its = ap process_body (get-put-apart ps pid parent kernel.Gone apart ∙ buried-out parent stays);
        children = λ q ne np among. ap process_body (get-put-apart ps pid q kernel.Gone ne ∙ buried-in q among);
        others = λ q ne np apart. ap process_body (get-put-apart ps pid q kernel.Gone ne ∙ buried-out q apart);
        queues = refl;
        sets = refl;
      }

-- ---- the parent by its body

some_same : {A : Type 0} (x y : A) → Some x ≡ Some y → x ≡ y
some_same x y h = cc

-- a body says who lives
pub record LivesAs (o : Option Process) (row : Row) : Type 0 where
  pub alive : Alive
  pub lives : o ≡ Some (kernel.Living alive)
  pub row_is : alive.row ≡ row

-- one living body has one row
pub living-same : (r s : Row) → Living r ≡ Living s → r ≡ s
living-same r s is = cc

-- whoever has a living row as body lives in the kernel with that row
pub lives-as : (o : Option Process) (row : Row) → process_body o ≡ Living row → LivesAs o row
lives-as None row is = absurd (cc)
lives-as (Some (kernel.Ended e)) row is = absurd (cc)
lives-as (Some kernel.Gone) row is = absurd (cc)
lives-as (Some (kernel.Living a)) row is =
    record { alive = a; lives = refl; row_is = living-same a.row row is }

-- what a row keeps of an end doesn't hang on what its process may still do
either-row : (b : Bool) (x y v w : Alive) → x.row ≡ v.row → y.row ≡ w.row
    → (if b then x else y).row ≡ (if b then v else w).row
either-row true x y v w first second = first
either-row false x y v w first second = second

abbrev listed : Alive → ℕ → Ending → Alive
listed a pid ending =
    record a {
      row = record {
        signals = a.row.signals;
        family = family_after_end a.row.family pid ending (ignores_children a.row);
      };
    }

kept-row : (a : Alive) (pid : ℕ) (ending : Ending)
    → (with_ended_child a pid ending).row ≡ (with_ended_child (free_alive a.row) pid ending).row
kept-row a pid ending =
    either-row (ignores_children a.row) (listed a pid ending) (raise_by_other (listed a pid ending) Chld)
    (listed (free_alive a.row) pid ending) (raise_by_other (listed (free_alive a.row) pid ending) Chld) refl refl

-- a number that stands for a parent is that of one
record IsFound (o : Option Parent) (parent : ℕ) : Type 0 where
  pub found : Parent
  pub is : o ≡ Some found
  pub number : found.pid ≡ parent

parent-found : (o : Option Parent) (parent : ℕ) → option_map (λ r. r.pid) o ≡ Some parent → IsFound o parent
parent-found None parent h = absurd (cc)
parent-found (Some r) parent h = record { found = r; is = refl; number = some_same r.pid parent h }

none-found : (o : Option Parent) → option_map (λ r. r.pid) o ≡ None → o ≡ None
none-found None h = refl
none-found (Some r) h = absurd (cc)

-- what becomes of the process and of its parent, by the parent's body
abbrev pub kept_by : Body → Ending → Body
kept_by (Living row) ending = kept_under row ending
kept_by body ending = Gone

-- the parent's body once its child has ended: it notes the end if it lives, and else stays
abbrev pub left_by : Body → ℕ → Ending → Body
left_by (Living row) pid ending = parent_after row pid ending
left_by body pid ending = body

module _ (k : Kernel) (valid : IsValid k) (pid parent : ℕ) (a : Alive) (ending : Ending)
    (apart : nat_eq pid parent ≡ false) where
  abbrev Ends : Body → Type 0
  Ends body =
      HasEnded k (end_process k pid a ending).kernel pid parent a.row.family.ended (kept_by body ending)
      (left_by body pid ending)

  -- the kernel after the end, by the parent that is found
  abbrev ended_with : Option Parent → Kernel
  ended_with o = record k { processes = end_under (fold bury k.processes a.row.family.ended) pid ending o }

  living-parent : (row : Row) → body_in k (Proc parent) ≡ Living row → parent_number k pid ≡ Some parent
      → Ends (Living row)
  living-parent row body number =
      let f = parent-found (parent_in pid k.processes) parent number
      in let r : Parent = f.found
      in let lives = parent-is pid k.processes r valid.processes f.is
      in let there : get k.processes r.pid ≡ Some (kernel.Living r.alive) =
      same_living (get k.processes r.pid) r.alive lives.0
      in let body_there : process_body (get k.processes r.pid) ≡ Living row =
      subst (λ (q : ℕ). process_body (get k.processes q) ≡ Living row) (sym f.number) body
      in let rows : r.alive.row ≡ row = living-same r.alive.row row (sym (ap process_body there) ∙ body_there)
      in let apart_there : nat_eq pid r.pid ≡ false =
      subst (λ (q : ℕ). nat_eq pid q ≡ false) (sym f.number) apart
      in let kept : process_body (Some (process_after_end (ignores_children r.alive.row) ending))
      ≡ kept_under row ending =
      ap (λ (x : Row). kept_under x ending) rows
      in let left : Living (with_ended_child r.alive pid ending).row ≡ parent_after row pid ending =
      ap Living (kept-row r.alive pid ending) ∙ ap (λ (x : Row). parent_after x pid ending) rows
      in subst (λ (o : Option Parent).
      HasEnded k (ended_with o) pid parent a.row.family.ended (kept_under row ending) (parent_after row pid ending))
      (sym f.is)
      (subst (λ (q : ℕ).
      HasEnded k (ended_with (Some r)) pid q a.row.family.ended (kept_under row ending) (parent_after row pid ending))
      f.number
      (subst (λ (b : Body).
      HasEnded k (ended_with (Some r)) pid r.pid a.row.family.ended (kept_under row ending) b) left
      (subst (λ (b : Body).
      HasEnded k (ended_with (Some r)) pid r.pid a.row.family.ended b
      (Living (with_ended_child r.alive pid ending).row)) kept
      (under k pid a.row.family.ended r ending apart_there))))

  no-parent : (body : Body) → body_in k (Proc parent) ≡ body → parent_number k pid ≡ None
      → nat_eq parent pid ≡ false → is_among a.row.family.ended parent ≡ false
      → HasEnded k (end_process k pid a ending).kernel pid parent a.row.family.ended Gone body
  no-parent body is number off stays =
      subst (λ (o : Option Parent). HasEnded k (ended_with o) pid parent a.row.family.ended Gone body)
      (sym (none-found (parent_in pid k.processes) number))
      (subst (λ (b : Body). HasEnded k (ended_with None) pid parent a.row.family.ended Gone b) is
      (alone k pid a.row.family.ended parent ending off stays))

  -- the kernel's end, by the parent's body
  pub ends-under : (body : Body) → body_in k (Proc parent) ≡ body → parent_number k pid ≡ parent_by parent body
      → nat_eq parent pid ≡ false → is_among a.row.family.ended parent ≡ false → Ends body
  ends-under (Living row) is number off stays = living-parent row is number
  ends-under (Ended e) is number off stays = no-parent (Ended e) is number off stays
  ends-under Gone is number off stays = no-parent Gone is number off stays
  ends-under (AQueue q) is number off stays = no-parent (AQueue q) is number off stays
  ends-under (ASet s) is number off stays = no-parent (ASet s) is number off stays
  ends-under Removed is number off stays = no-parent Removed is number off stays

-- ---- the transition

effect-of-end : (k : Kernel) (pid n : ℕ) (a : Alive) (row : Row) (call : Call) → may_end_with row call ≡ true
    → effect k pid a call n ≡ Some (end_process k pid a (ending_of call))
effect-of-end k pid n a row (calls.Exit status) h = refl
effect-of-end k pid n a row (calls.Killed sig) h = refl
effect-of-end k pid n a row call h = absurd (cc)

-- whoever has no living body isn't found alive
pub not-living : (o : Option Process) (b : Body) → process_body o ≡ b → is_living_body b ≡ false
    → option_and_then alive_in o ≡ None
not-living None b is not = refl
not-living (Some (kernel.Ended e)) b is not = refl
not-living (Some kernel.Gone) b is not = refl
not-living (Some (kernel.Living a)) b is not =
    let differ : true ≡ false = ap is_living_body is ∙ not in absurd (cc)

kept-dead : (b : Bool) (ending : Ending) → is_living_body (process_body (Some (process_after_end b ending))) ≡ false
kept-dead true ending = refl
kept-dead false ending = refl

-- a process that has ended doesn't live
pub kept_by-dead : (body : Body) (ending : Ending) → is_living_body (kept_by body ending) ≡ false
kept_by-dead (Living row) ending = kept-dead (ignores_children row) ending
kept_by-dead (Ended e) ending = refl
kept_by-dead Gone ending = refl
kept_by-dead (AQueue q) ending = refl
kept_by-dead (ASet s) ending = refl
kept_by-dead Removed ending = refl

module _ (pid : ℕ) (next : Kernel) (outcome : Outcome) where
  pub record IsSuccessor (e : Effect) : Type 0 where
    pub kernel_is : e.kernel ≡ next
    pub outcome_is : outcome ≡ reply_alone e.reply

  of-outcome : (e : Effect) → outcome_of pid (Some e) ≡ Some (successor next outcome) → living_at e.kernel pid ≡ None
      → IsSuccessor e
  of-outcome e gives dead =
      let to : successor (finish_call e.kernel pid (living_at e.kernel pid)) (reply_alone e.reply)
      ≡ successor next outcome = some_same _ _ gives
      in record {
        kernel_is = sym (ap (finish_call e.kernel pid) dead) ∙ ap (λ (s : Successor). s.kernel) to;
        outcome_is = sym (ap (λ (s : Successor). s.outcome) to);
      }

  of-may : (o : Option Successor) (b : Bool) → (if b then o else None) ≡ Some (successor next outcome)
      → o ≡ Some (successor next outcome)
  of-may o true gives = gives
  of-may o false gives = absurd (cc)

  pub ended-by : (k : Kernel) (n : ℕ) (a : Alive) (row : Row) (call : Call) → living_at k pid ≡ Some a
      → may_end_with row call ≡ true
      → transition k pid call n ≡ Some (successor next outcome)
      → living_at (end_process k pid a (ending_of call)).kernel pid ≡ None
      → IsSuccessor (end_process k pid a (ending_of call))
  ended-by k n a row call lives may gives dead =
      let alive : transition_by k pid call n (Some a) ≡ Some (successor next outcome) =
      sym (ap (transition_by k pid call n) lives) ∙ gives
      in let made : outcome_of pid (effect k pid a call n) ≡ Some (successor next outcome) =
      of-may (outcome_of pid (effect k pid a call n)) (may_make a call) alive
      in of-outcome (end_process k pid a (ending_of call))
      (sym (ap (outcome_of pid) (effect-of-end k pid n a row call may)) ∙ made) dead
