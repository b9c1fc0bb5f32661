-- Parents and children after an entry: who was a process's child is so as before, in each kind of entry.
use Rattle.std.proofs.Common.{◌≡◌, ◌≢◌, ℕ, Bool, true, false, not, List, [], ◌∷◌, Option, Some, None, refl, ap, sym, subst, ◌∙◌, inl, inr, nat_eq}
use Rattle.std.specs.Prelude.{is_some, if◌then◌else◌, Contains}
use Rattle.std.specs.Option.{option_and_then}
use Rattle.std.proofs.lemmas.Bool.{cases_eq, eq-eqb, ne_eqb, or_left, or_right, false≢true}
use Rattle.pico_base.specs.declared.call.Call.{Call}
use Rattle.pico_base.specs.declared.numbers.Name.{Name}
use Rattle.pico_base.specs.declared.numbers.Name.TheVariants.{Proc}
use Rattle.pico_base.specs.declared.reply.Ending.{Ending}
use Rattle.pico_base.specs.declared.reply.Reply.{Reply}
use Rattle.pico_base.specs.declared.reply.Reply.TheVariants as replies
use Rattle.number_maps.specs.Maps.{get}
use Rattle.kernel_model.specs.Row.{Alive, EndedChild, Family, Row, ended_child, family_after_end, ignores_children, lists, with_child, with_ended_child, without_ended}
use Rattle.kernel_model.specs.Kernel.{Kernel, Process, living_at}
use Rattle.kernel_model.specs.Kernel as kernel
use Rattle.kernel_model.specs.Valid.{IsValid, ListsEnded}
use Rattle.kernel_laws.proofs.Living.{family-ended_child}
use Rattle.kernel_laws.proofs.Members.{contains-cases, contains-none, ended-new, ended-stays, without-on}
use Rattle.node_model.specs.Bodies.{Body, Living, Ended, Gone, AQueue, ASet, Removed, body_in, process_body}
use Rattle.waiting_model.specs.Linear.{at_once}
use Rattle.node_model.specs.Carrying.{Done, on_body, on_row}
use Rattle.node_model.specs.Serving.{child_body, name_for, parent_body}
use Rattle.serve_laws.specs.Ends.{is_among}
use Rattle.serve_laws.specs.Laws.{is_found}
use Rattle.serve_laws.specs.Served.{DoesLine, Does, Counts, BreaksOff, Line}
use Rattle.serve_laws.proofs.Committed.{free_alive}
use Rattle.serve_laws.proofs.KernelEnds.{kept_by, left_by}
use Rattle.entry_laws.specs.Entering.{AreKin, IsChildIn, IsKin, KeepsEnding, MayMake, SameKind, Same, Lives, family_after}
use Rattle.entry_laws.proofs.Bodies.{body-living, living-body}
use Rattle.entry_laws.proofs.Ends.{EndBodies, among-kept}
use Rattle.entry_laws.proofs.Families.{lists-child-new, lists-child-not, lists-child-on, lists-end-not, lists-end-on, lists-end-still-not}
use Rattle.entry_laws.proofs.Fresh.{Forks}
use Rattle.entry_laws.proofs.Lined.{Lined, lined-finds}
use Rattle.entry_laws.proofs.Names.{name-cases}
use Rattle.entry_laws.proofs.Replies.{finds, none-found, row-family}
use Rattle.entry_laws.proofs.Served.{Carried, carried-finds}

-- ---- by bodies

living-same : {r s : Row} → Living r ≡ Living s → r ≡ s
living-same h = cc

pub kin-bodies : (k : Kernel) (parent pid : ℕ) (process : Process) → IsChildIn k parent pid process
    → AreKin (body_in k (Proc parent)) pid (process_body (Some process))
kin-bodies k parent pid (kernel.Living a) child = λ r is.
    let h = body-living k parent r is
    in ap (λ (x : Row). lists x.family pid) (sym h.row_is) ∙ child h.alive h.lives
kin-bodies k parent pid (kernel.Ended e) child = (child.0.row, living-body k parent child.0 child.1, child.2)
kin-bodies k parent pid kernel.Gone child = λ r is.
    let h = body-living k parent r is
    in ap (λ (x : Row). lists x.family pid) (sym h.row_is) ∙ child h.alive h.lives

pub bodies-kin : (k : Kernel) (parent pid : ℕ) (process : Process)
    → AreKin (body_in k (Proc parent)) pid (process_body (Some process)) → IsChildIn k parent pid process
bodies-kin k parent pid (kernel.Living a) kin = λ b lives. kin b.row (living-body k parent b lives)
bodies-kin k parent pid (kernel.Ended e) kin =
    let h = body-living k parent kin.0 kin.1
    in (h.alive, h.lives, subst (λ (x : Row). KeepsEnding x pid) (sym h.row_is) kin.2)
bodies-kin k parent pid kernel.Gone kin = λ b lives. kin b.row (living-body k parent b lives)

pub kin-in : (k : Kernel) (parent pid : ℕ) → IsKin k parent pid
    → AreKin (body_in k (Proc parent)) pid (body_in k (Proc pid))
kin-in k parent pid h =
    subst (λ (b : Body). AreKin (body_in k (Proc parent)) pid b) (sym (ap process_body h.is))
    (kin-bodies k parent pid h.process h.child)

kin-by : (k : Kernel) (parent pid : ℕ) (o : Option Process) → get k.processes pid ≡ o → is_some o ≡ true
    → AreKin (body_in k (Proc parent)) pid (process_body o) → IsKin k parent pid
kin-by k parent pid None is there kin = absurd (false≢true there)
kin-by k parent pid (Some process) is there kin =
    record { process = process; is = is; child = bodies-kin k parent pid process kin }

pub in-kin : (k : Kernel) (parent pid : ℕ) → is_some (get k.processes pid) ≡ true
    → AreKin (body_in k (Proc parent)) pid (body_in k (Proc pid)) → IsKin k parent pid
in-kin k parent pid there kin = kin-by k parent pid (get k.processes pid) refl there kin

-- ---- bodies as before for their families

parent-kind : (before after : Body) (pid : ℕ) (child : Body) → SameKind before after → AreKin before pid child
    → AreKin after pid child
parent-kind before after pid child (Same is) kin = subst (λ (b : Body). AreKin b pid child) (sym is) kin
parent-kind before after pid (Living row) (Lives r s was is same) kin = λ x here.
    let rows : s ≡ x = living-same (sym is ∙ here)
    in ap (λ (y : Row). lists y.family pid) (sym rows) ∙ ap (λ (f : Family). lists f pid) same ∙ kin r was
parent-kind before after pid (Ended e) (Lives r s was is same) kin =
    let rows : r ≡ kin.0 = living-same (sym was ∙ kin.1)
    in (
      s,
      is,
      subst (λ (f : Family). (d : Ending) × Contains f.ended (ended_child pid d))
          (ap (λ (y : Row). y.family) (sym rows) ∙ sym same) kin.2,
    )
parent-kind before after pid Gone (Lives r s was is same) kin = λ x here.
    let rows : s ≡ x = living-same (sym is ∙ here)
    in ap (λ (y : Row). lists y.family pid) (sym rows) ∙ ap (λ (f : Family). lists f pid) same ∙ kin r was
parent-kind before after pid (AQueue q) (Lives r s was is same) kin = kin
parent-kind before after pid (ASet t) (Lives r s was is same) kin = kin
parent-kind before after pid Removed (Lives r s was is same) kin = kin

-- a child that lives on
child-lives : (parent before after : Body) (pid : ℕ) (r s : Row) → before ≡ Living r → after ≡ Living s
    → AreKin parent pid before → AreKin parent pid after
child-lives parent before after pid r s was is kin =
    let living : AreKin parent pid (Living r) = subst (λ (b : Body). AreKin parent pid b) was kin
    in subst (λ (b : Body). AreKin parent pid b) (sym is) living

child-kind : (parent before after : Body) (pid : ℕ) → SameKind before after → AreKin parent pid before
    → AreKin parent pid after
child-kind parent before after pid (Same is) kin = subst (λ (b : Body). AreKin parent pid b) (sym is) kin
child-kind parent before after pid (Lives r s was is same) kin = child-lives parent before after pid r s was is kin

-- where both are as before for their families
pub kin-same : (k next : Kernel) (parent pid : ℕ) → SameKind (body_in k (Proc parent)) (body_in next (Proc parent))
    → SameKind (body_in k (Proc pid)) (body_in next (Proc pid)) → is_some (get next.processes pid) ≡ true
    → IsKin k parent pid → IsKin next parent pid
kin-same k next parent pid parents children there h =
    in-kin next parent pid there
    (child-kind (body_in next (Proc parent)) (body_in k (Proc pid)) (body_in next (Proc pid)) pid children
    (parent-kind (body_in k (Proc parent)) (body_in next (Proc parent)) pid (body_in k (Proc pid)) parents
    (kin-in k parent pid h)))

-- ---- calls that are served

family-kept : (r : Reply) (f : Family) → finds r ≡ false → family_after r f ≡ f
family-kept (replies.Child child ending) f h = absurd (false≢true (sym h))
family-kept r f h = refl

living-kind : (p : ℕ) (pid : ℕ) (call : Call) (row : Row) (left : Body) (reply : Reply)
    → left ≡ (on_body (Proc p) (Living row) pid call).left → reply ≡ (on_body (Proc p) (Living row) pid call).reply
    → finds reply ≡ false → SameKind (Living row) left
living-kind p pid call row left reply is answer none =
    Lives row (on_row row pid call).left refl is
    (row-family row pid call ∙ ap (λ (r : Reply). family_after r row.family) (sym answer)
    ∙ family-kept reply row.family none)

kind-by : (p : ℕ) (pid : ℕ) (call : Call) (body left : Body) (reply : Reply)
    → left ≡ (on_body (Proc p) body pid call).left
    → reply ≡ (on_body (Proc p) body pid call).reply → finds reply ≡ false → SameKind body left
kind-by p pid call (Living row) left reply is answer none = living-kind p pid call row left reply is answer none
kind-by p pid call (Ended e) left reply is answer none = Same is
kind-by p pid call Gone left reply is answer none = Same is
kind-by p pid call (AQueue q) left reply is answer none = Same is
kind-by p pid call (ASet s) left reply is answer none = Same is
kind-by p pid call Removed left reply is answer none = Same is

-- a call that finds no child leaves each process as it was for its family
pub carried-kind : (k : Kernel) (pid : ℕ) (call : Call) (name : Name) (c : Carried k pid call name)
    → finds c.reply ≡ false → (p : ℕ) → SameKind (body_in k (Proc p)) (body_in c.next (Proc p))
carried-kind k pid call name c none p =
    elim (name-cases (Proc p) name) [
      | inl same ↦
          kind-by p pid call (body_in k (Proc p)) (body_in c.next (Proc p)) c.reply
          (ap (body_in c.next) same ∙ c.follows.there
          ∙ ap (λ (n : Name). (on_body n (body_in k n) pid call).left) (sym same))
          (c.follows.reply ∙ ap (λ (n : Name). (on_body n (body_in k n) pid call).reply) (sym same)) none
      | inr other ↦ Same (c.follows.others (Proc p) other (none-found c.reply none (Proc p)))
    ]

-- who has ended is listed by nobody as living
pub ended-unlisted : (k : Kernel) (p q : ℕ) (row : Row) (ending : Ending) → IsValid k
    → body_in k (Proc p) ≡ Living row → get k.processes q ≡ Some (kernel.Ended ending) → lists row.family q ≡ false
ended-unlisted k p q row ending valid lives over = by (lists row.family q) refl
  where
    dead : (o : Option Process) → o ≡ Some (kernel.Ended ending)
        → is_some (option_and_then kernel.alive_in o) ≡ true → ⊥
    dead o is h =
        false≢true
        (sym (ap (λ x. is_some (option_and_then kernel.alive_in x)) is) ∙ h)

    by : (t : Bool) → lists row.family q ≡ t → lists row.family q ≡ false
    by false h = h
    by true h =
        let a = body-living k p row lives
        in let listed : lists a.alive.row.family q ≡ true = ap (λ (r : Row). lists r.family q) a.row_is ∙ h
        in absurd (dead (get k.processes q) over ((valid.alive p a.alive a.lives).living q listed))

-- what `waitpid` leaves where it finds a child
pub record LeavesFound (k : Kernel) (next : Kernel) (pid child : ℕ) (row : Row) (ending : Ending) : Type 0 where
  pub own : body_in k (Proc pid) ≡ Living row
  pub after : Row
  pub is : body_in next (Proc pid) ≡ Living after
  pub family : after.family ≡ without_ended child row.family
  pub over : get k.processes child ≡ Some (kernel.Ended ending)
  pub gone : body_in next (Proc child) ≡ Gone
  pub others : (p : ℕ) → p ≢ pid → p ≢ child → body_in next (Proc p) ≡ body_in k (Proc p)

ended-not-living : (k : Kernel) (p : ℕ) (row : Row) (ending : Ending) → get k.processes p ≡ Some (kernel.Ended ending)
    → body_in k (Proc p) ≡ Living row → ⊥
ended-not-living k p row ending over lives = differ row ending (sym lives ∙ ap process_body over)
  where
    differ : (r : Row) (e : Ending) → Living r ≡ Ended e → ⊥
    differ r e h = cc

gone-not-living : (r : Row) → Gone ≡ Living r → ⊥
gone-not-living r h = cc

found-parent : (k next : Kernel) (pid child : ℕ) (row : Row) (ending : Ending) (q : ℕ) (body : Body)
    → LeavesFound k next pid child row ending → q ≢ child → AreKin (body_in k (Proc pid)) q body
    → AreKin (body_in next (Proc pid)) q body
found-parent k next pid child row ending q (Living r) f other kin = λ x here.
    let rows : f.after ≡ x = living-same (sym f.is ∙ here)
    in ap (λ (y : Row). lists y.family q) (sym rows) ∙ ap (λ (g : Family). lists g q) f.family ∙ kin row f.own
found-parent k next pid child row ending q (Ended e) f other kin =
    let rows : row ≡ kin.0 = living-same (sym f.own ∙ kin.1)
    in let kept : Contains row.family.ended (ended_child q kin.2.0) =
    subst (λ (y : Row). Contains y.family.ended (ended_child q kin.2.0)) (sym rows) kin.2.1
    in (
      f.after,
      f.is,
      (
        kin.2.0,
        subst (λ (g : Family). Contains g.ended (ended_child q kin.2.0)) (sym f.family)
            (without-on row.family child q kin.2.0 kept other),
      ),
    )
found-parent k next pid child row ending q Gone f other kin = λ x here.
    let rows : f.after ≡ x = living-same (sym f.is ∙ here)
    in ap (λ (y : Row). lists y.family q) (sym rows) ∙ ap (λ (g : Family). lists g q) f.family ∙ kin row f.own
found-parent k next pid child row ending q (AQueue y) f other kin = kin
found-parent k next pid child row ending q (ASet y) f other kin = kin
found-parent k next pid child row ending q Removed f other kin = kin

dead-parent : (parent : Body) (pid : ℕ) (child : Body) (before : Body) → parent ≡ Gone → AreKin before pid child
    → ((r : Row) → before ≡ Living r → ⊥) → AreKin parent pid child
dead-parent parent pid (Living row) before gone kin dead = λ r is. absurd (gone-not-living r (sym gone ∙ is))
dead-parent parent pid (Ended e) before gone kin dead = absurd (dead kin.0 kin.1)
dead-parent parent pid Gone before gone kin dead = λ r is. absurd (gone-not-living r (sym gone ∙ is))
dead-parent parent pid (AQueue q) before gone kin dead = kin
dead-parent parent pid (ASet q) before gone kin dead = kin
dead-parent parent pid Removed before gone kin dead = kin

found-parents : (k next : Kernel) (pid child : ℕ) (row : Row) (ending : Ending) (p q : ℕ) (body : Body)
    → LeavesFound k next pid child row ending → q ≢ child → AreKin (body_in k (Proc p)) q body
    → AreKin (body_in next (Proc p)) q body
found-parents k next pid child row ending p q body f other kin =
    elim (cases_eq p pid) [
      | inl same ↦
          subst (λ (x : ℕ). AreKin (body_in next (Proc x)) q body) (sym same)
          (found-parent k next pid child row ending q body f other
          (subst (λ (x : ℕ). AreKin (body_in k (Proc x)) q body) same kin))
      | inr apart ↦
          elim (cases_eq p child) [
            | inl same ↦
                dead-parent (body_in next (Proc p)) q body (body_in k (Proc p))
                (ap (λ (x : ℕ). body_in next (Proc x)) same ∙ f.gone) kin
                (λ r is. ended-not-living k child r ending f.over
                (ap (λ (x : ℕ). body_in k (Proc x)) (sym same) ∙ is))
            | inr away ↦ subst (λ (b : Body). AreKin b q body) (sym (f.others p apart away)) kin
          ]
    ]

found-unlisted : (k next : Kernel) (pid child : ℕ) (row : Row) (ending : Ending) (p : ℕ) (r : Row) → IsValid k
    → LeavesFound k next pid child row ending → body_in next (Proc p) ≡ Living r → lists r.family child ≡ false
found-unlisted k next pid child row ending p r valid f lives =
    elim (cases_eq p pid) [
      | inl same ↦
          let rows : f.after ≡ r = living-same (sym f.is ∙ ap (λ (x : ℕ). body_in next (Proc x)) (sym same) ∙ lives)
          in ap (λ (y : Row). lists y.family child) (sym rows) ∙ ap (λ (g : Family). lists g child) f.family
          ∙ ended-unlisted k pid child row ending valid f.own f.over
      | inr apart ↦
          elim (cases_eq p child) [
            | inl same ↦
                absurd (gone-not-living r
                (sym f.gone ∙ ap (λ (x : ℕ). body_in next (Proc x)) (sym same) ∙ lives))
            | inr away ↦ ended-unlisted k p child r ending valid (sym (f.others p apart away) ∙ lives) f.over
          ]
    ]

-- a `waitpid` that finds a child leaves each child its parent's
pub kin-found : (k next : Kernel) (pid child : ℕ) (row : Row) (ending : Ending) (p q : ℕ) → IsValid k
    → LeavesFound k next pid child row ending → is_some (get next.processes q) ≡ true → IsKin k p q → IsKin next p q
kin-found k next pid child row ending p q valid f there h =
    in-kin next p q there
    (elim (cases_eq q child) [
      | inl same ↦
          subst (λ (b : Body). AreKin (body_in next (Proc p)) q b)
          (sym (ap (λ (x : ℕ). body_in next (Proc x)) same ∙ f.gone))
          (λ (r : Row) (is : body_in next (Proc p) ≡ Living r).
          ap (λ (x : ℕ). lists r.family x) same ∙ found-unlisted k next pid child row ending p r valid f is)
      | inr other ↦
          let kin = found-parents k next pid child row ending p q (body_in k (Proc q)) f other (kin-in k p q h)
          in elim (cases_eq q pid) [
            | inl same ↦
                child-lives (body_in next (Proc p)) (body_in k (Proc q)) (body_in next (Proc q)) q row f.after
                (ap (λ (x : ℕ). body_in k (Proc x)) same ∙ f.own)
                (ap (λ (x : ℕ). body_in next (Proc x)) same ∙ f.is) kin
            | inr apart ↦ subst (λ (b : Body). AreKin (body_in next (Proc p)) q b) (sym (f.others q apart other)) kin
          ]
    ])

-- what a line leaves of the name's body
line-kind : (p : ℕ) (l : Line) (before left : Body) → finds l.reply ≡ false → DoesLine (Proc p) before l left
    → SameKind before left
line-kind p l before left none (Does d is left_is reply_is) =
    kind-by p l.pid (at_once l.call) before left l.reply (sym left_is ∙ ap (λ (x : Done Body). x.left) (sym is))
    (sym reply_is ∙ ap (λ (x : Done Body). x.reply) (sym is)) none
line-kind p l before left none (Counts n counts reply_is is) =
    kind-by p l.pid l.call before left (replies.Num 0) (ap (λ (x : Done Body). x.left) (sym is))
    (ap (λ (x : Done Body). x.reply) (sym is)) refl
line-kind p l before left none (BreaksOff parks reply_is same) = Same same

-- a line that finds no child leaves each process as it was for its family
pub lined-kind : (k : Kernel) (name : Name) (l : Line) (left : Body) (c : Lined k name l left) → finds l.reply ≡ false
    → (p : ℕ) → SameKind (body_in k (Proc p)) (body_in c.next (Proc p))
lined-kind k name l left c none p =
    elim (name-cases (Proc p) name) [
      | inl same ↦
          subst (SameKind (body_in k (Proc p))) (sym (ap (body_in c.next) same ∙ c.there))
          (line-kind p l (body_in k (Proc p)) left none
          (subst (λ (n : Name). DoesLine n (body_in k n) l left) (sym same) c.does))
      | inr other ↦ Same (c.others (Proc p) other (none-found l.reply none (Proc p)))
    ]

proc-same : (a b : ℕ) → Proc a ≡ Proc b → a ≡ b
proc-same a b h = cc

-- what is left of who finds a child
record LeavesOne (row : Row) (child : ℕ) (left : Body) : Type 0 where
  pub after : Row
  pub is : left ≡ Living after
  pub family : after.family ≡ without_ended child row.family

line-finds : (l : Line) (left : Body) (row : Row) (child : ℕ) (ending : Ending) → l.reply ≡ replies.Child child ending
    → DoesLine (Proc l.pid) (Living row) l left → LeavesOne row child left
line-finds l left row child ending is (Does d on left_is reply_is) =
    let answer : (on_row row l.pid (at_once l.call)).reply ≡ replies.Child child ending =
    ap (λ (x : Done Body). x.reply) on ∙ reply_is ∙ is
    in record {
      after = (on_row row l.pid (at_once l.call)).left;
      is = sym left_is ∙ ap (λ (x : Done Body). x.left) (sym on);
      family = row-family row l.pid (at_once l.call) ∙ ap (λ (r : Reply). family_after r row.family) answer;
    }
line-finds l left row child ending is (Counts n counts reply_is on) =
    absurd (false≢true (sym (ap finds reply_is) ∙ ap finds is))
line-finds l left row child ending is (BreaksOff parks reply_is same) =
    absurd (false≢true (sym (ap finds reply_is) ∙ ap finds is))

-- and one that finds a child leaves what `waitpid` leaves
pub lined-found : (k : Kernel) (name : Name) (l : Line) (left : Body) (m : MayMake k l.pid l.call)
    (c : Lined k name l left) (child : ℕ) (ending : Ending) → name_for l.pid l.call ≡ Some name
    → l.reply ≡ replies.Child child ending → LeavesFound k c.next l.pid child m.alive.row ending
lined-found k name l left m c child ending named is =
    let f = lined-finds k name l left m c child ending named is
    in let own : body_in k (Proc l.pid) ≡ Living m.alive.row = living-body k l.pid m.alive m.lives
    in let found = line-finds l left m.alive.row child ending is
    (subst (λ (b : Body). DoesLine (Proc l.pid) b l left) own
    (subst (λ (n : Name). DoesLine n (body_in k n) l left) f.own c.does))
    in record {
      own = own;
      after = found.after;
      is = ap (body_in c.next) (sym f.own) ∙ c.there ∙ found.is;
      family = found.family;
      over = f.ended;
      gone = c.found (Proc child) (ap (λ (r : Reply). is_found r (Proc child)) is ∙ eq-eqb child child refl);
      others = λ p apart away.
          c.others (Proc p) (λ same. apart (proc-same p l.pid (same ∙ f.own)))
          (ap (λ (r : Reply). is_found r (Proc p)) is ∙ ne_eqb child p (λ same. away (sym same)));
    }

-- ---- forks

fork-parent : (r s : Row) (parent after : Body) (child q : ℕ) (body : Body) → parent ≡ Living r
    → after ≡ Living s → s.family ≡ with_child r.family child → q ≢ child → AreKin parent q body
    → AreKin after q body
fork-parent r s parent after child q (Living x) was is family other kin = λ y here.
    let rows : s ≡ y = living-same (sym is ∙ here)
    in ap (λ (z : Row). lists z.family q) (sym rows) ∙ ap (λ (g : Family). lists g q) family
    ∙ lists-child-on r.family child q (kin r was)
fork-parent r s parent after child q (Ended e) was is family other kin =
    let rows : r ≡ kin.0 = living-same (sym was ∙ kin.1)
    in (
      s,
      is,
      (
        kin.2.0,
        subst (λ (g : Family). Contains g.ended (ended_child q kin.2.0)) (sym family)
            (subst (λ (y : Row). Contains y.family.ended (ended_child q kin.2.0)) (sym rows) kin.2.1),
      ),
    )
fork-parent r s parent after child q Gone was is family other kin = λ y here.
    let rows : s ≡ y = living-same (sym is ∙ here)
    in ap (λ (z : Row). lists z.family q) (sym rows) ∙ ap (λ (g : Family). lists g q) family
    ∙ lists-child-not r.family child q other (kin r was)
fork-parent r s parent after child q (AQueue x) was is family other kin = kin
fork-parent r s parent after child q (ASet x) was is family other kin = kin
fork-parent r s parent after child q Removed was is family other kin = kin

-- what a fork leaves, by bodies
pub record LeavesFork (k next : Kernel) (pid child : ℕ) (row : Row) : Type 0 where
  pub own : body_in k (Proc pid) ≡ Living row
  pub parent : body_in next (Proc pid) ≡ parent_body row child
  pub child_is : body_in next (Proc child) ≡ child_body row
  pub others : (p : ℕ) → p ≢ pid → p ≢ child → body_in next (Proc p) ≡ body_in k (Proc p)
  pub apart : child ≢ pid

forked-row : Row → ℕ → Row
forked-row row child = record { signals = row.signals; family = with_child row.family child }

forked-is : (row : Row) (child : ℕ) → parent_body row child ≡ Living (forked-row row child)
unfolding forked-row
forked-is row child = refl

forked-family : (row : Row) (child : ℕ) → (forked-row row child).family ≡ with_child row.family child
unfolding forked-row
forked-family row child = refl

-- a fork leaves each child its parent's, but for the new one's children, which it has none of
pub kin-fork : (k next : Kernel) (pid child : ℕ) (row : Row) (p q : ℕ) → LeavesFork k next pid child row → p ≢ child
    → q ≢ child → is_some (get next.processes q) ≡ true → IsKin k p q → IsKin next p q
kin-fork k next pid child row p q f other_parent other there h =
    let s : Row = forked-row row child
    in let is : body_in next (Proc pid) ≡ Living s = f.parent ∙ forked-is row child
    in let child_body_is : AreKin (body_in k (Proc p)) q (body_in next (Proc q)) =
    elim (cases_eq q pid) [
      | inl same ↦
          child-lives (body_in k (Proc p)) (body_in k (Proc q)) (body_in next (Proc q)) q row s
          (ap (λ (x : ℕ). body_in k (Proc x)) same ∙ f.own) (ap (λ (x : ℕ). body_in next (Proc x)) same ∙ is)
          (kin-in k p q h)
      | inr apart ↦
          subst (λ (b : Body). AreKin (body_in k (Proc p)) q b) (sym (f.others q apart other)) (kin-in k p q h)
    ]
    in in-kin next p q there
    (elim (cases_eq p pid) [
      | inl same ↦
          fork-parent row s (body_in k (Proc p)) (body_in next (Proc p)) child q (body_in next (Proc q))
          (ap (λ (x : ℕ). body_in k (Proc x)) same ∙ f.own) (ap (λ (x : ℕ). body_in next (Proc x)) same ∙ is)
          (forked-family row child) other child_body_is
      | inr apart ↦
          subst (λ (b : Body). AreKin b q (body_in next (Proc q))) (sym (f.others p apart other_parent)) child_body_is
    ])

-- the new process is its parent's child
pub kin-new : (k next : Kernel) (pid child : ℕ) (row : Row) → LeavesFork k next pid child row
    → is_some (get next.processes child) ≡ true → IsKin next pid child
kin-new k next pid child row f there =
    let s : Row = forked-row row child
    in let is : body_in next (Proc pid) ≡ Living s = f.parent ∙ forked-is row child
    in in-kin next pid child there
    (subst (λ (b : Body). AreKin (body_in next (Proc pid)) child b) (sym f.child_is)
    (λ (r : Row) (here : body_in next (Proc pid) ≡ Living r).
    ap (λ (x : Row). lists x.family child) (sym (living-same (sym is ∙ here)))
    ∙ ap (λ (g : Family). lists g child) (forked-family row child) ∙ lists-child-new row.family child))

-- ---- ends

-- the parent's row once it has noted the end
noted : Row → ℕ → Ending → Row
noted row pid ending = let a : Alive = with_ended_child (free_alive row) pid ending in a.row

noted-family : (row : Row) (pid : ℕ) (ending : Ending)
    → (noted row pid ending).family ≡ family_after_end row.family pid ending (ignores_children row)
unfolding noted
noted-family row pid ending = family-ended_child (free_alive row) pid ending

left-is : (row : Row) (pid : ℕ) (ending : Ending) → left_by (Living row) pid ending ≡ Living (noted row pid ending)
unfolding noted
left-is row pid ending = refl

-- the parent's other children
sibling-kin : (r : Row) (parent after : Body) (pid q : ℕ) (ending : Ending) (body : Body) → parent ≡ Living r
    → after ≡ Living (noted r pid ending) → q ≢ pid → AreKin parent q body → AreKin after q body
sibling-kin r parent after pid q ending (Living x) was is other kin = λ y here.
    let rows : noted r pid ending ≡ y = living-same (sym is ∙ here)
    in ap (λ (z : Row). lists z.family q) (sym rows)
    ∙ ap (λ (g : Family). lists g q) (noted-family r pid ending)
    ∙ lists-end-on r.family pid ending (ignores_children r) q other (kin r was)
sibling-kin r parent after pid q ending (Ended e) was is other kin =
    let rows : r ≡ kin.0 = living-same (sym was ∙ kin.1)
    in let kept : Contains r.family.ended (ended_child q kin.2.0) =
    subst (λ (y : Row). Contains y.family.ended (ended_child q kin.2.0)) (sym rows) kin.2.1
    in (
      noted r pid ending,
      is,
      (
        kin.2.0,
        subst (λ (g : Family). Contains g.ended (ended_child q kin.2.0)) (sym (noted-family r pid ending))
            (ended-stays r.family pid ending (ignores_children r) (ended_child q kin.2.0) kept),
      ),
    )
sibling-kin r parent after pid q ending Gone was is other kin = λ y here.
    let rows : noted r pid ending ≡ y = living-same (sym is ∙ here)
    in ap (λ (z : Row). lists z.family q) (sym rows)
    ∙ ap (λ (g : Family). lists g q) (noted-family r pid ending)
    ∙ lists-end-still-not r.family pid ending (ignores_children r) q (kin r was)
sibling-kin r parent after pid q ending (AQueue x) was is other kin = kin
sibling-kin r parent after pid q ending (ASet x) was is other kin = kin
sibling-kin r parent after pid q ending Removed was is other kin = kin

-- the process itself, under a parent that lives
kept-kin : (r : Row) (after : Body) (pid : ℕ) (ending : Ending) (t : Bool) → ignores_children r ≡ t
    → after ≡ Living (noted r pid ending)
    → AreKin after pid (process_body (Some (if t then kernel.Gone else kernel.Ended ending)))
kept-kin r after pid ending true ignores is = λ y here.
    let rows : noted r pid ending ≡ y = living-same (sym is ∙ here)
    in ap (λ (z : Row). lists z.family pid) (sym rows)
    ∙ ap (λ (g : Family). lists g pid) (noted-family r pid ending)
    ∙ lists-end-not r.family pid ending (ignores_children r)
kept-kin r after pid ending false keeps is = (
  noted r pid ending,
  is,
  (
    ending,
    subst (λ (g : Family). Contains g.ended (ended_child pid ending)) (sym (noted-family r pid ending))
        (subst (λ (b : Bool). Contains (family_after_end r.family pid ending b).ended (ended_child pid ending))
        (sym keeps) (ended-new r.family pid ending)),
  ),
)

over-kin : (parent body : Body) (pid : ℕ) (ending : Ending) → parent ≡ left_by body pid ending
    → ((r : Row) → body ≡ Living r → ⊥) → AreKin parent pid Gone
over-kin parent (Living r) pid ending is dead = absurd (dead r refl)
over-kin parent (Ended e) pid ending is dead = λ r here. absurd (not-living r (sym is ∙ here))
  where
    not-living : (x : Row) → Ended e ≡ Living x → ⊥
    not-living x h = cc
over-kin parent Gone pid ending is dead = λ r here. absurd (gone-not-living r (sym is ∙ here))
over-kin parent (AQueue q) pid ending is dead = λ r here. absurd (not-living r (sym is ∙ here))
  where
    not-living : (x : Row) → AQueue q ≡ Living x → ⊥
    not-living x h = cc
over-kin parent (ASet q) pid ending is dead = λ r here. absurd (not-living r (sym is ∙ here))
  where
    not-living : (x : Row) → ASet q ≡ Living x → ⊥
    not-living x h = cc
over-kin parent Removed pid ending is dead = λ r here. absurd (not-living r (sym is ∙ here))
  where
    not-living : (x : Row) → Removed ≡ Living x → ⊥
    not-living x h = cc

own-kin : (parent body : Body) (pid : ℕ) (ending : Ending) → parent ≡ left_by body pid ending
    → AreKin parent pid (kept_by body ending)
own-kin parent (Living r) pid ending is =
    kept-kin r parent pid ending (ignores_children r) refl (is ∙ left-is r pid ending)
own-kin parent (Ended e) pid ending is = over-kin parent (Ended e) pid ending is (λ r h. absurd (cc))
own-kin parent Gone pid ending is = over-kin parent Gone pid ending is (λ r h. absurd (cc))
own-kin parent (AQueue q) pid ending is = over-kin parent (AQueue q) pid ending is (λ r h. absurd (cc))
own-kin parent (ASet q) pid ending is = over-kin parent (ASet q) pid ending is (λ r h. absurd (cc))
own-kin parent Removed pid ending is = over-kin parent Removed pid ending is (λ r h. absurd (cc))

-- the process that has ended is its parent's child, as it is now
pub kin-ended : (k next : Kernel) (pid parent : ℕ) (row : Row) (body : Body) (ending : Ending)
    → EndBodies k next pid parent row body ending → is_some (get next.processes pid) ≡ true → IsKin next parent pid
kin-ended k next pid parent row body ending f there =
    in-kin next parent pid there
    (subst (λ (b : Body). AreKin (body_in next (Proc parent)) pid b) (sym f.own)
    (own-kin (body_in next (Proc parent)) body pid ending f.its))

kept-not-living : (body : Body) (ending : Ending) (r : Row) → kept_by body ending ≡ Living r → ⊥
kept-not-living (Living x) ending r h = by (ignores_children x) h
  where
    by : (t : Bool) → process_body (Some (if t then kernel.Gone else kernel.Ended ending)) ≡ Living r → ⊥
    by true g = gone-not-living r g
    by false g = not-living r g
      where
        not-living : (y : Row) → Ended ending ≡ Living y → ⊥
        not-living y e = cc
kept-not-living (Ended e) ending r h = gone-not-living r h
kept-not-living Gone ending r h = gone-not-living r h
kept-not-living (AQueue q) ending r h = gone-not-living r h
kept-not-living (ASet q) ending r h = gone-not-living r h
kept-not-living Removed ending r h = gone-not-living r h

-- who is kept is among the ended children
pub kept-among : (es : List EndedChild) (q : ℕ) (e : Ending) → Contains es (ended_child q e) → is_among es q ≡ true
kept-among [] q e c = absurd (contains-none (ended_child q e) c)
kept-among (x ∷ xs) q e c =
    elim (contains-cases x xs (ended_child q e) c) [
      | inl first ↦
          or_left (nat_eq q x.pid) (is_among xs q) (eq-eqb q x.pid (sym (ap (λ (y : EndedChild). y.pid) first)))
      | inr later ↦ or_right (nat_eq q x.pid) (is_among xs q) (kept-among xs q e later)
    ]

-- a child whose parent doesn't live any more
dead-kin : (parent before : Body) (q : ℕ) (child : Body) → ((r : Row) → parent ≡ Living r → ⊥)
    → AreKin before q child → ((e : Ending) → child ≡ Ended e → ⊥) → AreKin parent q child
dead-kin parent before q (Living x) dead kin not = λ r is. absurd (dead r is)
dead-kin parent before q (Ended e) dead kin not = absurd (not e refl)
dead-kin parent before q Gone dead kin not = λ r is. absurd (dead r is)
dead-kin parent before q (AQueue x) dead kin not = kin
dead-kin parent before q (ASet x) dead kin not = kin
dead-kin parent before q Removed dead kin not = kin

some-same : {A : Type 0} (x y : A) → Some x ≡ Some y → x ≡ y
some-same x y h = cc

ended-same : (process : Process) (e : Ending) → process ≡ kernel.Ended e → (k : Kernel) (p q : ℕ)
    → IsChildIn k p q process → (a : Alive) × (living_at k p ≡ Some a) × ListsEnded a q
ended-same process e is k p q child = subst (λ (x : Process). IsChildIn k p q x) is child

module _ (k next : Kernel) (pid parent : ℕ) (row : Row) (body : Body) (ending : Ending) (valid : IsValid k)
    (own : body_in k (Proc pid) ≡ Living row) (its : body_in k (Proc parent) ≡ body)
    (f : EndBodies k next pid parent row body ending) where
  -- an ended child of the process is nobody else's
  not-among-child : (p q : ℕ) → p ≢ pid → IsKin k p q → is_among row.family.ended q ≡ false
  not-among-child p q apart h = by (is_among row.family.ended q) refl
    where
      by : (t : Bool) → is_among row.family.ended q ≡ t → is_among row.family.ended q ≡ false
      by false is = is
      by true is =
          let w = among-kept row.family.ended q is
          in let a = body-living k pid row own
          in let kept : Contains a.alive.row.family.ended (ended_child q w.0) =
          subst (λ (r : Row). Contains r.family.ended (ended_child q w.0)) (sym a.row_is) w.1
          in let over : get k.processes q ≡ Some (kernel.Ended w.0) =
          (valid.alive pid a.alive a.lives).ended q w.0 kept
          in let c = ended-same h.process w.0
          (some-same h.process (kernel.Ended w.0) (sym h.is ∙ over)) k p q h.child
          in absurd (apart (valid.one_keeper p pid c.0 a.alive q c.1 a.lives c.2 (w.0, kept)))

  -- the parent, as a child of its own parent
  parent-as-child : (x y : Body) (q : ℕ) → body ≡ y → body_in next (Proc parent) ≡ left_by y pid ending
      → AreKin x q y → AreKin x q (body_in next (Proc parent))
  parent-as-child x (Living r) q is left kin =
      child-lives x (Living r) (body_in next (Proc parent)) q r (noted r pid ending) refl
      (left ∙ left-is r pid ending) kin
  parent-as-child x (Ended e) q is left kin = subst (λ (b : Body). AreKin x q b) (sym left) kin
  parent-as-child x Gone q is left kin = subst (λ (b : Body). AreKin x q b) (sym left) kin
  parent-as-child x (AQueue y) q is left kin = subst (λ (b : Body). AreKin x q b) (sym left) kin
  parent-as-child x (ASet y) q is left kin = subst (λ (b : Body). AreKin x q b) (sym left) kin
  parent-as-child x Removed q is left kin = subst (λ (b : Body). AreKin x q b) (sym left) kin

  child-after : (x : Body) (q : ℕ) → q ≢ pid → is_among row.family.ended q ≡ false → AreKin x q (body_in k (Proc q))
      → AreKin x q (body_in next (Proc q))
  child-after x q apart not kin =
      elim (cases_eq q parent) [
        | inl same ↦
            subst (λ (n : ℕ). AreKin x q (body_in next (Proc n))) (sym same)
            (parent-as-child x body q refl f.its
            (subst (λ (b : Body). AreKin x q b) its
            (subst (λ (n : ℕ). AreKin x q (body_in k (Proc n))) same kin)))
        | inr other ↦ subst (λ (b : Body). AreKin x q b) (sym (f.others q apart other not)) kin
      ]

  -- a child of the process that ends
  own-child : (q : ℕ) → q ≢ pid → AreKin (body_in k (Proc pid)) q (body_in k (Proc q))
      → AreKin (body_in next (Proc pid)) q (body_in next (Proc q))
  own-child q apart kin = by (is_among row.family.ended q) refl
    where
      dead : (r : Row) → body_in next (Proc pid) ≡ Living r → ⊥
      dead r is = kept-not-living body ending r (sym f.own ∙ is)

      not-ended : (e : Ending) → is_among row.family.ended q ≡ false → body_in k (Proc q) ≡ Ended e → ⊥
      not-ended e not is =
          let c : AreKin (body_in k (Proc pid)) q (Ended e) =
          subst (λ (b : Body). AreKin (body_in k (Proc pid)) q b) is kin
          in let rows : row ≡ c.0 = living-same (sym own ∙ c.1)
          in false≢true (sym not ∙ kept-among row.family.ended q c.2.0
          (subst (λ (r : Row). Contains r.family.ended (ended_child q c.2.0)) (sym rows) c.2.1))

      by : (t : Bool) → is_among row.family.ended q ≡ t
          → AreKin (body_in next (Proc pid)) q (body_in next (Proc q))
      by true is =
          let away : q ≢ parent =
          λ same. false≢true (sym f.not_among ∙ ap (is_among row.family.ended) (sym same) ∙ is)
          in subst (λ (b : Body). AreKin (body_in next (Proc pid)) q b) (sym (f.children q apart away is))
          (λ (r : Row) (here : body_in next (Proc pid) ≡ Living r). absurd (dead r here))
      by false is =
          child-after (body_in next (Proc pid)) q apart is
          (dead-kin (body_in next (Proc pid)) (body_in k (Proc pid)) q (body_in k (Proc q)) dead kin
          (λ e ended. not-ended e is ended))

  -- a sibling
  of-parent : (y : Body) (q : ℕ) (child : Body) → body ≡ y → body_in next (Proc parent) ≡ left_by y pid ending
      → q ≢ pid → AreKin y q child → AreKin (body_in next (Proc parent)) q child
  of-parent (Living r) q child is left apart kin =
      sibling-kin r (Living r) (body_in next (Proc parent)) pid q ending child refl (left ∙ left-is r pid ending) apart
      kin
  of-parent (Ended e) q child is left apart kin = subst (λ (b : Body). AreKin b q child) (sym left) kin
  of-parent Gone q child is left apart kin = subst (λ (b : Body). AreKin b q child) (sym left) kin
  of-parent (AQueue x) q child is left apart kin = subst (λ (b : Body). AreKin b q child) (sym left) kin
  of-parent (ASet x) q child is left apart kin = subst (λ (b : Body). AreKin b q child) (sym left) kin
  of-parent Removed q child is left apart kin = subst (λ (b : Body). AreKin b q child) (sym left) kin

  -- who is among the ended children is nobody's parent
  among-dead : (p : ℕ) → is_among row.family.ended p ≡ true → (r : Row) → body_in k (Proc p) ≡ Living r → ⊥
  among-dead p is r lives =
      let w = among-kept row.family.ended p is
      in let a = body-living k pid row own
      in let kept : Contains a.alive.row.family.ended (ended_child p w.0) =
      subst (λ (x : Row). Contains x.family.ended (ended_child p w.0)) (sym a.row_is) w.1
      in ended-not-living k p r w.0 ((valid.alive pid a.alive a.lives).ended p w.0 kept) lives

  others-child : (p q : ℕ) → p ≢ pid → p ≢ parent → AreKin (body_in k (Proc p)) q (body_in next (Proc q))
      → AreKin (body_in next (Proc p)) q (body_in next (Proc q))
  others-child p q apart away kin = by (is_among row.family.ended p) refl
    where
      by : (t : Bool) → is_among row.family.ended p ≡ t → AreKin (body_in next (Proc p)) q (body_in next (Proc q))
      by true is =
          dead-parent (body_in next (Proc p)) q (body_in next (Proc q)) (body_in k (Proc p))
          (f.children p apart away is) kin (among-dead p is)
      by false is = subst (λ (b : Body). AreKin b q (body_in next (Proc q))) (sym (f.others p apart away is)) kin

  -- An end leaves each other process its parent's child, as that is now.
  pub kin-end : (p q : ℕ) → q ≢ pid → is_some (get next.processes q) ≡ true → IsKin k p q → IsKin next p q
  kin-end p q apart there h =
      let kin : AreKin (body_in k (Proc p)) q (body_in k (Proc q)) = kin-in k p q h
      in in-kin next p q there
      (elim (cases_eq p pid) [
        | inl same ↦
            subst (λ (n : ℕ). AreKin (body_in next (Proc n)) q (body_in next (Proc q))) (sym same)
            (own-child q apart (subst (λ (n : ℕ). AreKin (body_in k (Proc n)) q (body_in k (Proc q))) same kin))
        | inr other ↦
            let after : AreKin (body_in k (Proc p)) q (body_in next (Proc q)) =
            child-after (body_in k (Proc p)) q apart (not-among-child p q other h) kin
            in elim (cases_eq p parent) [
              | inl its_parent ↦
                  subst (λ (n : ℕ). AreKin (body_in next (Proc n)) q (body_in next (Proc q))) (sym its_parent)
                  (of-parent body q (body_in next (Proc q)) refl f.its apart
                  (subst (λ (b : Body). AreKin b q (body_in next (Proc q))) its
                  (subst (λ (n : ℕ). AreKin (body_in k (Proc n)) q (body_in next (Proc q))) its_parent after)))
              | inr away ↦ others-child p q other away after
            ]
      ])

-- ---- from what the entries leave

-- a `waitpid` that found this child
pub carried-found : (k : Kernel) (pid : ℕ) (call : Call) (name : Name) (m : MayMake k pid call)
    (c : Carried k pid call name) (child : ℕ) (ending : Ending) → name_for pid call ≡ Some name
    → c.reply ≡ replies.Child child ending → LeavesFound k c.next pid child m.alive.row ending
carried-found k pid call name m c child ending named is =
    let f = carried-finds k pid call name m c child ending named is
    in let own : body_in k (Proc pid) ≡ Living m.alive.row = living-body k pid m.alive m.lives
    in let does = on_row m.alive.row pid call
    in let lives : body_in c.next (Proc pid) ≡ Living does.left =
    ap (body_in c.next) (sym f.own) ∙ c.follows.there
    ∙ ap (λ (n : Name). (on_body n (body_in k n) pid call).left) f.own
    ∙ ap (λ (b : Body). (on_body (Proc pid) b pid call).left) own
    in let answer : does.reply ≡ replies.Child child ending =
    sym (c.follows.reply ∙ ap (λ (n : Name). (on_body n (body_in k n) pid call).reply) f.own
    ∙ ap (λ (b : Body). (on_body (Proc pid) b pid call).reply) own) ∙ is
    in record {
      own = own;
      after = does.left;
      is = lives;
      family = row-family m.alive.row pid call ∙ ap (λ (r : Reply). family_after r m.alive.row.family) answer;
      over = f.ended;
      gone = c.follows.found (Proc child)
          (ap (λ (r : Reply). is_found r (Proc child)) is ∙ eq-eqb child child refl);
      others = λ p apart away.
          c.follows.others (Proc p) (λ same. apart (proc-same p pid (same ∙ f.own)))
          (ap (λ (r : Reply). is_found r (Proc p)) is ∙ ne_eqb child p (λ same. away (sym same)));
    }

-- what a fork leaves of parents and children
pub forks-leave : (k : Kernel) (pid block child : ℕ) (row : Row) (f : Forks k pid block child row)
    → body_in k (Proc pid) ≡ Living row → LeavesFork k f.next pid child row
forks-leave k pid block child row f own = record {
  own = own;
  parent = f.parent;
  child_is = f.child_is;
  others = λ p apart away.
      f.rest (Proc p) (λ same. apart (proc-same p pid same)) (λ same. away (proc-same p child same));
  apart = f.apart;
}
