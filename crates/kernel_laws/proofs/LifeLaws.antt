-- What a process at one point of a history is at a later one.
use Rattle.std.proofs.Common.{◌≡◌, ◌≢◌, ℕ, Bool, true, false, List, [], ◌∷◌, Option, Some, None, refl, ap, sym, subst, ◌∙◌, inl, inr}
use Rattle.std.specs.Prelude.{if◌then◌else◌, fold, is_some}
use Rattle.std.proofs.lemmas.Bool.{cases_eq}
use Rattle.pico_base.specs.declared.reply.Ending.{Ending}
use Rattle.number_maps.specs.Maps.{Numbered, get, put, is_used}
use Rattle.kernel_model.specs.Row.{Alive, Spent, with_ended_child, ignores_children, EndedChild}
use Rattle.kernel_model.specs.Kernel.{Kernel, Process, Living, Ended, Gone, Parent, parent_in, living_at, with_alive}
use Rattle.kernel_model.specs.ProcessCalls.{bury, bury_all, process_after_end, end_under, processes_after_fork, processes_after_wait, new_child, parent_after_fork, parent_after_wait}
use Rattle.kernel_model.specs.Transition.{finish_call}
use Rattle.kernel_laws.specs.Lives.{MayBecome, LivesGoOneWay}
use Rattle.kernel_laws.proofs.Plain.{not_some, not_true}
use Rattle.number_maps.proofs.LookUps.{get-put-same, get-put-other}
use Rattle.kernel_laws.proofs.Tables.{fresh-unused}
use Rattle.kernel_laws.proofs.Families.{Lists, living-ended, living-gone, at-once}
use Rattle.kernel_laws.proofs.EndChanges.{cleared, parent-is}
use Rattle.kernel_laws.proofs.People.{People, from-living}
use Rattle.kernel_laws.proofs.ProcessLaws.{IsStrong, Settled, Midway, people-kept}
use Rattle.kernel_laws.proofs.ValidLaws.{settled}
use Rattle.kernel_laws.proofs.Moves.{Moves}
use Rattle.kernel_laws.proofs.Pairs.{Both, both-moves}
use Rattle.kernel_laws.proofs.Histories.{KeptBy, kept-by-along}

-- who lives may be anything later, and anyone may be gone
from-alive : (p : Process) (a : Alive) (v : Process) → MayBecome p (Living a) → MayBecome p v
from-alive (Living x) a v h = tt
from-alive (Ended e) a v h = elim h [ inl s ↦ living-ended a e s | inr s ↦ living-gone a s ]
from-alive Gone a v h = living-gone a h

to-gone : (p w : Process) → MayBecome p w → MayBecome p Gone
to-gone (Living x) w h = tt
to-gone (Ended e) w h = inr refl
to-gone Gone w h = refl

itself : (p : Process) → MayBecome p p
itself (Living x) = tt
itself (Ended e) = inl refl
itself Gone = refl

record Goes (pid : ℕ) (p : Process) (ps : Numbered Process) : Type 0 where
  now : Process
  there : get ps pid ≡ Some now
  follows : MayBecome p now

-- another process at a number where one lived, or none was
goes-put : (pid : ℕ) (p : Process) (ps : Numbered Process) → Goes pid p ps → (k : ℕ) (v : Process)
    → ((w : Process) → get ps k ≡ Some w → MayBecome p w → MayBecome p v) → Goes pid p (put ps k v)
goes-put pid p ps g k v h =
    elim (cases_eq pid k) [
      | inl same ↦
          record {
            now = v;
            there = ap (get (put ps k v)) same ∙ get-put-same ps k v;
            follows = h g.now (ap (get ps) (sym same) ∙ g.there) g.follows;
          }
      | inr ne ↦ record { now = g.now; there = get-put-other ps k v pid ne ∙ g.there; follows = g.follows }
    ]

goes-alive : (pid : ℕ) (p : Process) (ps : Numbered Process) → Goes pid p ps → (k : ℕ) (a : Alive) (v : Process)
    → get ps k ≡ Some (Living a) → Goes pid p (put ps k v)
goes-alive pid p ps g k a v l =
    goes-put pid p ps g k v
    (λ w e m. from-alive p a v (subst (λ (x : Process). MayBecome p x) (at-once (get ps k) w (Living a) e l) m))

goes-new : (pid : ℕ) (p : Process) (ps : Numbered Process) → Goes pid p ps → (k : ℕ) (v : Process) → get ps k ≡ None
    → Goes pid p (put ps k v)
goes-new pid p ps g k v none = goes-put pid p ps g k v (λ w e m. not_some w (sym none ∙ e))

goes-gone : (pid : ℕ) (p : Process) (ps : Numbered Process) → Goes pid p ps → (k : ℕ) → Goes pid p (put ps k Gone)
goes-gone pid p ps g k = goes-put pid p ps g k Gone (λ w e m. to-gone p w m)

goes-buried : (pid : ℕ) (p : Process) (es : List EndedChild) (ps : Numbered Process) → Goes pid p ps
    → Goes pid p (fold bury ps es)
goes-buried pid p [] ps g = g
goes-buried pid p (e ∷ es) ps g = goes-buried pid p es (bury ps e) (goes-gone pid p ps g e.pid)

-- a living process is there after the ended children of another are gone, and after that one's end
alive-put : (ps : Numbered Process) (k n : ℕ) (v : Process) (a : Alive) → get ps n ≡ Some (Living a) → n ≢ k
    → get (put ps k v) n ≡ Some (Living a)
alive-put ps k n v a l ne = get-put-other ps k v n ne ∙ l

none-at : (o : Option Process) → false ≡ is_some o → o ≡ None
none-at None h = refl
none-at (Some p) h = not_true h

goes-forked : (pid : ℕ) (p : Process) (ps : Numbered Process) (used : List ℕ) → People IsStrong ps used → Goes pid p ps
    → (caller : ℕ) (a : Alive) (n : ℕ)
    → get ps caller ≡ Some (Living a) → is_used used n ≡ false → Goes pid p (processes_after_fork ps caller a n)
goes-forked pid p ps used h g caller a n l f =
    let absent : get ps n ≡ None = none-at (get ps n) (sym f ∙ h.body.used_is n)
    in let ne : caller ≢ n = λ same. not_some (Living a) (sym absent ∙ (ap (get ps) (sym same) ∙ l))
    in let v = Living (new_child a)
    in goes-alive pid p (put ps n v) (goes-new pid p ps g n v absent) caller a (Living (parent_after_fork a n))
    (alive-put ps n caller v a l ne)

goes-ended : (pid : ℕ) (p : Process) (ps : Numbered Process) (used : List ℕ) → People IsStrong ps used → Goes pid p ps
    → (caller : ℕ) (a : Alive) (ending : Ending)
    → get ps caller ≡ Some (Living a) → (found : Option Parent) → parent_in caller ps ≡ found
    → Goes pid p (end_under (bury_all ps a.row.family) caller ending found)
goes-ended pid p ps used h g caller a ending l None e =
    goes-gone pid p (bury_all ps a.row.family) (goes-buried pid p a.row.family.ended ps g) caller
goes-ended pid p ps used h g caller a ending l (Some parent) e =
    let mid = bury_all ps a.row.family
    in let c = cleared ps caller a h.families l
    in let w = parent-is caller ps h.body.rise parent e
    in let ne : parent.pid ≢ caller =
    λ same. h.families.alone caller
    (subst (λ (x : ℕ). Lists (get ps) x caller) same (record { alive = parent.alive; there = w.0; listed = w.1 }))
    in let v = process_after_end (ignores_children parent.alive.row) ending
    in let first = goes-alive pid p mid (goes-buried pid p a.row.family.ended ps g) caller a v (c.alive_on caller a l)
    in goes-alive pid p (put mid caller v) first parent.pid parent.alive
    (Living (with_ended_child parent.alive caller ending))
    (alive-put mid caller parent.pid v parent.alive (c.alive_on parent.pid parent.alive w.0) ne)

goes-reaped : (pid : ℕ) (p : Process) (ps : Numbered Process) → Goes pid p ps → (caller : ℕ) (a : Alive) (child : ℕ)
    → get ps caller ≡ Some (Living a) → Goes pid p (processes_after_wait ps caller a child)
goes-reaped pid p ps g caller a child l =
    let v = Living (parent_after_wait a child) in
    goes-gone pid p (put ps caller v) (goes-alive pid p ps g caller a v l) child

abbrev GoesIn : ℕ → Process → Kernel → Type 0
GoesIn pid p k = Goes pid p k.processes

goes-moves : (pid : ℕ) (p : Process) (k : Kernel) (caller : ℕ) (a : Alive) (n : ℕ) → Settled k
    → get k.processes caller ≡ Some (Living a)
    → Goes pid p k.processes → Moves (GoesIn pid p) k caller a n
goes-moves pid p k caller a n h l g =
    record {
      same = g;
      forks = λ f. goes-forked pid p k.processes k.used_processes h g caller a n l (fresh-unused k.used_processes n f);
      ends = λ ending. goes-ended pid p k.processes k.used_processes h g caller a ending l
          (parent_in caller k.processes) refl;
      acts = λ s act kill. goes-alive pid p k.processes g caller a _ l;
      masks = λ how set. goes-alive pid p k.processes g caller a _ l;
      raises_own = λ target s t. goes-alive pid p k.processes g caller target _ t;
      raises_other = λ other target s t. goes-alive pid p k.processes g other target _ t;
      reaps = λ which child ending e. goes-reaped pid p k.processes g caller a child l;
      makes_queue = λ f. g;
      binds_queue = λ key f. g;
      sends = λ id class text q next t e. g;
      receives = λ id class size noerror q r t e. g;
      limits = λ id qbytes q next t e. g;
      removes_queue = λ id. g;
      makes_set = λ count set e f. g;
      binds_set = λ key count set e f. g;
      operates = λ id steps set next t e. g;
      sets_one = λ id num value set next t e. g;
      fills = λ id values set next t e. g;
      removes_set = λ id. g;
    }

goes-doom : (pid : ℕ) (p : Process) (k : Kernel) (caller : ℕ) (a : Alive) → Goes pid p k.processes
    → get k.processes caller ≡ Some (Living a)
    → (doomed : Bool) → Goes pid p
    (if doomed then with_alive k caller (record a { allowance = Spent }) else k).processes
goes-doom pid p k caller a g l true = goes-alive pid p k.processes g caller a _ l
goes-doom pid p k caller a g l false = g

goes-finished : (pid : ℕ) (p : Process) (k : Kernel) (caller : ℕ) → Goes pid p k.processes → (found : Option Alive)
    → living_at k caller ≡ found
    → Goes pid p (finish_call k caller found).processes
goes-finished pid p k caller g None e = g
goes-finished pid p k caller g (Some a) e =
    goes-doom pid p k caller a g (from-living k.processes caller a e) (is_some a.row.signals.doom)

goes-kept : (pid : ℕ) (p : Process)
    → KeptBy (Both Settled (GoesIn pid p)) (λ caller. Both (Midway caller) (GoesIn pid p))
goes-kept pid p =
    record {
      moves = λ k caller call n next outcome s b.
          both-moves (Midway caller) (GoesIn pid p) k caller s.alive n
          (people-kept.moves k caller call n next outcome s b.order)
          (goes-moves pid p k caller s.alive n b.order (from-living k.processes caller s.alive s.lives) b.other);
      finishes = λ caller k b.
          record {
            order = people-kept.finishes caller k b.order;
            other =
                goes-finished pid p k caller b.other (living_at k caller) refl;
          };
    }

-- a process lives, then has ended, then is Gone
pub lives_go_one_way_lemma : LivesGoOneWay
lives_go_one_way_lemma k last entries r h pid p l =
    let start : Both Settled (GoesIn pid p) k =
    record { order = settled k r; other = record { now = p; there = l; follows = itself p } }
    in let end = kept-by-along (Both Settled (GoesIn pid p)) (λ caller. Both (Midway caller) (GoesIn pid p))
    (goes-kept pid p) entries k last h start
    in (end.other.now, end.other.there, end.other.follows)
