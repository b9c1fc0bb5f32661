-- No process lists a child twice, along each history.
use Rattle.std.proofs.Common.{◌≡◌, ℕ, Bool, true, false, List, [], ◌∷◌, Option, Some, None, refl, sym, subst, ◌∙◌}
use Rattle.std.specs.Prelude.{is_some, fold, if◌then◌else◌, Contains}
use Rattle.std.proofs.lemmas.Bool.{false_from_ne_true}
use Rattle.pico_base.specs.declared.reply.Ending.{Ending}
use Rattle.number_maps.specs.Maps.{Numbered, get, put, is_used}
use Rattle.kernel_model.specs.Row.{Alive, Spent, lists, with_ended_child, ignores_children, EndedChild, ended_child}
use Rattle.kernel_model.specs.Kernel.{Kernel, Process, Living, Ended, Gone, Parent, parent_in, living_at, with_alive, opening}
use Rattle.kernel_model.specs.ProcessCalls.{bury, bury_all, process_after_end, end_under, processes_after_fork, new_child, parent_after_fork, parent_after_wait}
use Rattle.kernel_model.specs.Transition.{finish_call}
use Rattle.kernel_laws.specs.Once.{ListsOnce, ChildrenAreListedOnce}
use Rattle.kernel_laws.proofs.Plain.{not_some, not_true}
use Rattle.kernel_laws.proofs.Tables.{fresh-unused}
use Rattle.kernel_laws.proofs.Families.{living-ended, living-gone, same-alive, at-once}
use Rattle.kernel_laws.proofs.EndChanges.{parent-is}
use Rattle.kernel_laws.proofs.Living.{family-ended_child}
use Rattle.kernel_laws.proofs.OnceLaws.{once-none, once-child, once-end, once-without}
use Rattle.kernel_laws.proofs.People.{People, from-living, each-put}
use Rattle.kernel_laws.proofs.ProcessLaws.{IsStrong, Settled, Midway, people-kept}
use Rattle.kernel_laws.proofs.ValidLaws.{first-living, settled-opening}
use Rattle.kernel_laws.proofs.Moves.{Moves}
use Rattle.kernel_laws.proofs.Pairs.{Both, both-moves}
use Rattle.kernel_laws.proofs.Histories.{KeptBy, kept-by-along}

abbrev IsOnce : ℕ → Alive → Type 0
IsOnce p a = ListsOnce a.row.family

abbrev EachOnce : Numbered Process → Type 0
EachOnce ps = (p : ℕ) (a : Alive) → get ps p ≡ Some (Living a) → ListsOnce a.row.family

abbrev OnceIn : Kernel → Type 0
OnceIn k = EachOnce k.processes

once-put : (ps : Numbered Process) (k : ℕ) (b : Alive) → EachOnce ps → ListsOnce b.row.family
    → EachOnce (put ps k (Living b))
once-put ps k b h o =
    each-put IsOnce ps k (Living b) h (λ x e. subst (λ (y : Alive). ListsOnce y.row.family) (same-alive b x e) o)

once-dead : (ps : Numbered Process) (k : ℕ) (v : Process) → EachOnce ps → ((x : Alive) → v ≡ Living x → ⊥)
    → EachOnce (put ps k v)
once-dead ps k v h dead = each-put IsOnce ps k v h (λ x e. absurd (dead x e))

once-buried : (es : List EndedChild) (ps : Numbered Process) → EachOnce ps → EachOnce (fold bury ps es)
once-buried [] ps h = h
once-buried (e ∷ es) ps h =
    once-buried es (bury ps e) (once-dead ps e.pid Gone h (λ x s. living-gone {B = ⊥} x (sym s)))

none-at : (o : Option Process) → false ≡ is_some o → o ≡ None
none-at None h = refl
none-at (Some p) h = not_true h

once-forked : (ps : Numbered Process) (used : List ℕ) → People IsStrong ps used → EachOnce ps
    → (pid : ℕ) (a : Alive) (n : ℕ) → get ps pid ≡ Some (Living a)
    → is_used used n ≡ false → EachOnce (processes_after_fork ps pid a n)
once-forked ps used h o pid a n l f =
    let absent : get ps n ≡ None = none-at (get ps n) (sym f ∙ h.body.used_is n)
    in let unlisted : lists a.row.family n ≡ false =
    false_from_ne_true (lists a.row.family n)
    (λ t.
    let w = h.families.living pid n (record { alive = a; there = l; listed = t })
    in not_some {B = ⊥} (Living w.alive) (sym absent ∙ w.there))
    in once-put (put ps n (Living (new_child a))) pid (parent_after_fork a n) (once-put ps n (new_child a) o once-none)
    (once-child a.row.family n (o pid a l) unlisted)

kept-dead : (ignored : Bool) (ending : Ending) (x : Alive) → process_after_end ignored ending ≡ Living x → ⊥
kept-dead true ending x h = living-gone {B = ⊥} x (sym h)
kept-dead false ending x h = living-ended {B = ⊥} x ending (sym h)

once-ended : (ps : Numbered Process) (used : List ℕ) → People IsStrong ps used → EachOnce ps
    → (pid : ℕ) (a : Alive) (ending : Ending)
    → get ps pid ≡ Some (Living a) → (found : Option Parent) → parent_in pid ps ≡ found
    → EachOnce (end_under (bury_all ps a.row.family) pid ending found)
once-ended ps used h o pid a ending l None e =
    once-dead (bury_all ps a.row.family) pid Gone (once-buried a.row.family.ended ps o)
    (λ x s. living-gone {B = ⊥} x (sym s))
once-ended ps used h o pid a ending l (Some p) e =
    let mid = bury_all ps a.row.family
    in let old = p.alive
    in let w = parent-is pid ps h.body.rise p e
    in let ignored = ignores_children old.row
    in let v = process_after_end ignored ending
    in let new : (d : Ending) → Contains old.row.family.ended (ended_child pid d) → ⊥ =
    λ d c. living-ended {B =
    ⊥} a d (at-once (get ps pid) (Living a) (Ended d) l
    (h.families.ended p.pid pid d (record { alive = old; there = w.0; kept = c })))
    in once-put (put mid pid v) p.pid (with_ended_child old pid ending)
    (once-dead mid pid v (once-buried a.row.family.ended ps o) (kept-dead ignored ending))
    (subst ListsOnce (sym (family-ended_child old pid ending))
    (once-end old.row.family pid ending ignored (o p.pid old w.0) new))

once-moves : (k : Kernel) (pid : ℕ) (a : Alive) (n : ℕ) → Settled k → get k.processes pid ≡ Some (Living a) → OnceIn k
    → Moves OnceIn k pid a n
once-moves k pid a n h l o =
    let ps = k.processes
    in let same = o pid a l
    in record {
      same = o;
      forks = λ f. once-forked ps k.used_processes h o pid a n l (fresh-unused k.used_processes n f);
      ends = λ ending. once-ended ps k.used_processes h o pid a ending l (parent_in pid ps) refl;
      acts = λ g act kill. once-put ps pid _ o same;
      masks = λ how set. once-put ps pid _ o same;
      raises_own = λ target g t. once-put ps pid _ o (o pid target t);
      raises_other = λ other target g t. once-put ps other _ o (o other target t);
      reaps = λ which child ending e.
          once-dead (put ps pid (Living (parent_after_wait a child))) child Gone
          (once-put ps pid (parent_after_wait a child) o (once-without a.row.family child same))
          (λ x s. living-gone {B = ⊥} x (sym s));
      makes_queue = λ f. o;
      binds_queue = λ key f. o;
      sends = λ id class text q next t e. o;
      receives = λ id class size noerror q r t e. o;
      limits = λ id qbytes q next t e. o;
      removes_queue = λ id. o;
      makes_set = λ count set e f. o;
      binds_set = λ key count set e f. o;
      operates = λ id steps set next t e. o;
      sets_one = λ id num value set next t e. o;
      fills = λ id values set next t e. o;
      removes_set = λ id. o;
    }

once-doom : (k : Kernel) (pid : ℕ) (a : Alive) → OnceIn k → get k.processes pid ≡ Some (Living a) → (doomed : Bool)
    → OnceIn (if doomed then with_alive k pid (record a { allowance = Spent }) else k)
once-doom k pid a o l true = once-put k.processes pid (record a { allowance = Spent }) o (o pid a l)
once-doom k pid a o l false = o

once-finished : (k : Kernel) (pid : ℕ) → OnceIn k → (found : Option Alive) → living_at k pid ≡ found
    → OnceIn (finish_call k pid found)
once-finished k pid o None e = o
once-finished k pid o (Some a) e = once-doom k pid a o (from-living k.processes pid a e) (is_some a.row.signals.doom)

once-kept : KeptBy (Both Settled OnceIn) (λ caller. Both (Midway caller) OnceIn)
once-kept =
    record {
      moves = λ k caller call n next outcome s b.
          both-moves (Midway caller) OnceIn k caller s.alive n
          (people-kept.moves k caller call n next outcome s b.order)
          (once-moves k caller s.alive n b.order (from-living k.processes caller s.alive s.lives) b.other);
      finishes = λ caller k b.
          record {
            order = people-kept.finishes caller k b.order;
            other =
                once-finished k caller b.other (living_at k caller) refl;
          };
    }

once-opening : OnceIn opening
once-opening p a l = subst (λ (x : Alive). ListsOnce x.row.family) (first-living p a l) once-none

-- no process lists a child twice
pub children_are_listed_once_lemma : ChildrenAreListedOnce
children_are_listed_once_lemma k r pid a l =
    let start : Both Settled OnceIn opening = record { order = settled-opening; other = once-opening }
    in let end = kept-by-along (Both Settled OnceIn)
    (λ caller. Both (Midway caller) OnceIn) once-kept r.0 opening k r.1 start
    in end.other pid a (from-living k.processes pid a l)
