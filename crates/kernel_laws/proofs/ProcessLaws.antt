-- Each entry keeps the map of processes in order.
use Rattle.std.proofs.Common.{◌≡◌, ◌≢◌, ℕ, Bool, true, false, List, Option, Some, None, refl, ap, sym, subst, ◌∙◌, inl, inr}
use Rattle.std.specs.Prelude.{is_some, Contains, if◌then◌else◌}
use Rattle.std.proofs.lemmas.Bool.{cases_eq}
use Rattle.pico_base.specs.declared.reply.Ending.{Ending}
use Rattle.number_maps.specs.Maps.{Numbered, get, put, is_used, used_with}
use Rattle.kernel_model.specs.Signals.{Signals, AreSoundSignals, raise, with_action, with_mask}
use Rattle.kernel_model.specs.Row.{Alive, Spent, lists, raise_by_other, with_ended_child, ignores_children, ended_child}
use Rattle.kernel_model.specs.Kernel.{Kernel, Process, Living, Ended, Gone, Parent, parent_in, living_at, with_alive}
use Rattle.kernel_model.specs.ProcessCalls.{new_child, parent_after_fork, processes_after_fork, bury_all, process_after_end, end_under, parent_after_wait, processes_after_wait}
use Rattle.kernel_model.specs.Transition.{finish_call}
use Rattle.kernel_laws.proofs.Plain.{not_some, not_true}
use Rattle.kernel_laws.proofs.Tables.{fresh-unused, there-put}
use Rattle.kernel_laws.proofs.SignalLaws.{sound-raise, sound-action, sound-mask, raise-stays, mask-stays}
use Rattle.kernel_laws.proofs.Members.{found-contained}
use Rattle.kernel_laws.proofs.Families.{Lists, families-kept, families-born, families-over, living-ended, living-gone, same-alive, at-once}
use Rattle.kernel_laws.proofs.FamilyChanges.{put-is, two-puts, Each, kept-same, born-is, Not, kept-reap, different}
use Rattle.kernel_laws.proofs.EndChanges.{cleared, parent-is, orphan, over-alone, End, over-end}
use Rattle.kernel_laws.proofs.Living.{Strong, Weak, weak, weak-own, strong-raised, strong-child, strong-forking, strong-reaping, strong-ended_child, family-ended_child, strong-spent, strong-undoomed, strong-other}
use Rattle.kernel_laws.proofs.People.{Body, People, body-put, body-new, body-buried, buried-there, from-living, not-living}
use Rattle.kernel_laws.proofs.Moves.{Moves}
use Rattle.kernel_laws.proofs.Histories.{KeptBy}

-- between entries, and in an entry of a caller
abbrev pub IsStrong : ℕ → Alive → Type 0
IsStrong p a = Strong a

-- families and used numbers of the processes are in order
abbrev pub Settled : Kernel → Type 0
Settled k = People IsStrong k.processes k.used_processes

-- the same in the middle of a call of this process
abbrev pub Midway : ℕ → Kernel → Type 0
Midway caller k = People (Weak caller) k.processes k.used_processes

weaken : (ps : Numbered Process) (used : List ℕ) (caller : ℕ) → People IsStrong ps used → People (Weak caller) ps used
weaken ps used caller h =
    record {
      body = record {
        rise = h.body.rise;
        used_is = h.body.used_is;
        each =
            λ p x l. weak caller p x (h.body.each p x l);
      };
      families = h.families;
    }

-- a living process with the same family
change : (ps : Numbered Process) (used : List ℕ) (caller : ℕ) → People IsStrong ps used → (pid : ℕ) (a b : Alive)
    → get ps pid ≡ Some (Living a)
    → b.row.family ≡ a.row.family → Weak caller pid b → People (Weak caller) (put ps pid (Living b)) used
change ps used caller h pid a b l same w =
    record {
      body =
          body-put (Weak caller) ps used (weaken ps used caller h).body pid (Living b) (ap is_some l)
          (λ x e. subst (λ (y : Alive). Weak caller pid y) (same-alive b x e) w);
      families =
          families-kept (get ps) (get (put ps pid (Living b))) Each h.families
          (kept-same (get ps) (get (put ps pid (Living b))) pid a b (put-is ps pid (Living b)) l same);
    }

none-at : (o : Option Process) → false ≡ is_some o → o ≡ None
none-at None h = refl
none-at (Some p) h = not_true h

-- fork
forked : (ps : Numbered Process) (used : List ℕ) (pid : ℕ) (a : Alive) (n : ℕ) → People IsStrong ps used
    → get ps pid ≡ Some (Living a) → is_used used n ≡ false
    → People (Weak pid) (processes_after_fork ps pid a n) (used_with used n)
forked ps used pid a n h l f =
    let s = h.body.each pid a l
    in let mid = put ps n (Living (new_child a))
    in let absent : get ps n ≡ None = none-at (get ps n) (sym f ∙ h.body.used_is n)
    in let ne : n ≢ pid = λ same. not_some (Living a) (sym absent ∙ (ap (get ps) same ∙ l))
    in let child = weak pid n (new_child a) (strong-child a s)
    in let parent = weak pid pid (parent_after_fork a n) (strong-forking a n s)
    in let b = body-new (Weak pid) ps used (weaken ps used pid h).body n (Living (new_child a))
    (λ x e. subst (λ (y : Alive). Weak pid n y) (same-alive (new_child a) x e) child)
    in let two = two-puts (get ps) (get mid) (get (processes_after_fork ps pid a n)) n pid (Living (new_child a))
    (Living (parent_after_fork a n)) ne
    (put-is ps n (Living (new_child a))) (put-is mid pid (Living (parent_after_fork a n)))
    in record {
      body =
          body-put (Weak pid) mid (used_with used n) b pid (Living (parent_after_fork a n))
          (there-put ps n (Living (new_child a)) pid (ap is_some l))
          (λ x e. subst (λ (y : Alive). Weak pid pid y) (same-alive (parent_after_fork a n) x e) parent);
      families =
          families-born (get ps) (get (processes_after_fork ps pid a n)) pid n h.families
          (born-is (get ps) (get (processes_after_fork ps pid a n)) pid n a (new_child a)
          (parent_after_fork a n) two l absent refl refl);
    }

-- exit
buried-body : (ps : Numbered Process) (used : List ℕ) (pid : ℕ) (a : Alive) → People IsStrong ps used
    → get ps pid ≡ Some (Living a)
    → Body (Weak pid) (bury_all ps a.row.family) used
buried-body ps used pid a h l =
    body-buried (Weak pid) a.row.family.ended ps used (weaken ps used pid h).body
    (λ q d c. ap is_some (h.families.ended pid q d (record { alive = a; there = l; kept = c })))

kept-not-living : {B : Type 0} (ignored : Bool) (ending : Ending) (x : Alive)
    → process_after_end ignored ending ≡ Living x → B
kept-not-living true ending x h = living-gone x (sym h)
kept-not-living false ending x h = living-ended x ending (sym h)

ended-alone : (ps : Numbered Process) (used : List ℕ) (pid : ℕ) (a : Alive) → People IsStrong ps used
    → get ps pid ≡ Some (Living a)
    → parent_in pid ps ≡ None → People (Weak pid) (put (bury_all ps a.row.family) pid Gone) used
ended-alone ps used pid a h l none =
    let mid = bury_all ps a.row.family
    in record {
      body =
          body-put (Weak pid) mid used (buried-body ps used pid a h l) pid Gone
          (buried-there a.row.family.ended ps pid (ap is_some l))
          (λ x e. living-gone x (sym e));
      families =
          families-over (get ps) (get (put mid pid Gone)) pid pid h.families
          (over-alone (get ps) (get mid) (get (put mid pid Gone)) pid a h.families l (cleared ps pid a h.families l)
          (put-is mid pid Gone) (orphan pid ps none));
    }

end-is : (ps : Numbered Process) (used : List ℕ) (pid : ℕ) (a : Alive) (ending : Ending) (keeper : ℕ) (old : Alive)
    → People IsStrong ps used
    → get ps pid ≡ Some (Living a) → get ps keeper ≡ Some (Living old) → lists old.row.family pid ≡ true → pid ≢ keeper
    → (let mid = bury_all ps a.row.family
    in let kept = put mid pid (process_after_end (ignores_children old.row) ending)
    in let last = put kept keeper (Living (with_ended_child old pid ending))
    in End (get ps) (get mid) (get last) pid a keeper old (with_ended_child old pid ending) ending
    (ignores_children old.row))
end-is ps used pid a ending keeper old h l parent listed ne =
    let mid = bury_all ps a.row.family
    in let v = process_after_end (ignores_children old.row) ending
    in let kept = put mid pid v
    in let new = with_ended_child old pid ending
    in record {
      lives = l;
      clear = cleared ps pid a h.families l;
      two = two-puts (get mid) (get kept) (get (put kept keeper (Living new))) pid keeper v (Living new) ne
          (put-is mid pid v) (put-is kept keeper (Living new));
      parent = parent;
      listed = listed;
      after = family-ended_child old pid ending;
    }

ended-kept : (ps : Numbered Process) (used : List ℕ) (pid : ℕ) (a : Alive) (ending : Ending) (keeper : ℕ) (old : Alive)
    → People IsStrong ps used
    → get ps pid ≡ Some (Living a) → get ps keeper ≡ Some (Living old) → lists old.row.family pid ≡ true
    → People (Weak pid) (put
    (put (bury_all ps a.row.family) pid (process_after_end (ignores_children old.row) ending)) keeper
    (Living (with_ended_child old pid ending))) used
ended-kept ps used pid a ending keeper old h l parent listed =
    let mid = bury_all ps a.row.family
    in let v = process_after_end (ignores_children old.row) ending
    in let kept = put mid pid v
    in let new = with_ended_child old pid ending
    in let ne : pid ≢ keeper =
    λ same. h.families.alone pid
    (subst (λ (x : ℕ). Lists (get ps) x pid) (sym same) (record { alive = old; there = parent; listed = listed }))
    in let b = body-put (Weak pid) mid used (buried-body ps used pid a h l) pid v
    (buried-there a.row.family.ended ps pid (ap is_some l))
    (λ x e. kept-not-living (ignores_children old.row) ending x e)
    in let w = weak pid keeper new (strong-ended_child old pid ending (h.body.each keeper old parent))
    in record {
      body =
          body-put (Weak pid) kept used b keeper (Living new)
          (there-put mid pid v keeper (buried-there a.row.family.ended ps keeper (ap is_some parent)))
          (λ x e. subst (λ (y : Alive). Weak pid keeper y) (same-alive new x e) w);
      families =
          families-over (get ps) (get (put kept keeper (Living new))) pid keeper h.families
          (over-end (get ps) (get mid) (get (put kept keeper (Living new))) pid a keeper old new ending
          (ignores_children old.row) h.families
          (end-is ps used pid a ending keeper old h l parent listed ne));
    }

ended-under : (ps : Numbered Process) (used : List ℕ) (pid : ℕ) (a : Alive) (ending : Ending) → People IsStrong ps used
    → get ps pid ≡ Some (Living a)
    → (found : Option Parent) → parent_in pid ps ≡ found
    → People (Weak pid) (end_under (bury_all ps a.row.family) pid ending found) used
ended-under ps used pid a ending h l None e = ended-alone ps used pid a h l e
ended-under ps used pid a ending h l (Some p) e =
    let w = parent-is pid ps h.body.rise p e in ended-kept ps used pid a ending p.pid p.alive h l w.0 w.1

-- waitpid
reaped : (ps : Numbered Process) (used : List ℕ) (pid : ℕ) (a : Alive) (child : ℕ) (ending : Ending)
    → People IsStrong ps used → get ps pid ≡ Some (Living a)
    → Contains a.row.family.ended (ended_child child ending)
    → People (Weak pid) (processes_after_wait ps pid a child) used
reaped ps used pid a child ending h l c =
    let s = h.body.each pid a l
    in let mid = put ps pid (Living (parent_after_wait a child))
    in let dead : get ps child ≡ Some (Ended ending) =
    h.families.ended pid child ending (record { alive = a; there = l; kept = c })
    in let ne : pid ≢ child = different (get ps) pid child (Living a) (Ended ending) l dead (living-ended a ending)
    in let w = weak pid pid (parent_after_wait a child) (strong-reaping a child s)
    in let b = body-put (Weak pid) ps used (weaken ps used pid h).body pid (Living (parent_after_wait a child))
    (ap is_some l)
    (λ x e. subst (λ (y : Alive). Weak pid pid y) (same-alive (parent_after_wait a child) x e) w)
    in record {
      body = body-put (Weak pid) mid used b child Gone
          (there-put ps pid (Living (parent_after_wait a child)) child (ap is_some dead))
          (λ x e. living-gone x (sym e));
      families =
          families-kept (get ps) (get (processes_after_wait ps pid a child)) (Not child) h.families
          (kept-reap (get ps) (get (processes_after_wait ps pid a child)) pid child a
          (parent_after_wait a child) ending h.families
          (record {
            two = two-puts (get ps) (get mid) (get (processes_after_wait ps pid a child)) pid child
                (Living (parent_after_wait a child)) Gone ne
                (put-is ps pid (Living (parent_after_wait a child))) (put-is mid child Gone);
            lives = l;
            dead = dead;
            less = refl;
          }) c);
    }

-- a new set of signals for the caller
own-signals : (ps : Numbered Process) (used : List ℕ) (pid : ℕ) (a : Alive) (s : Signals) → People IsStrong ps used
    → get ps pid ≡ Some (Living a)
    → AreSoundSignals s → (s.doom ≡ None → a.row.signals.doom ≡ None)
    → People (Weak pid) (put ps pid (Living (record a { row = record { signals = s; family = a.row.family } }))) used
own-signals ps used pid a s h l sound stays =
    change ps used pid h pid a (record a { row = record { signals = s; family = a.row.family } }) l refl
    (weak-own pid a s (h.body.each pid a l) sound stays)

people-moves : (k : Kernel) (pid : ℕ) (a : Alive) (n : ℕ) → Settled k → get k.processes pid ≡ Some (Living a)
    → Moves (Midway pid) k pid a n
people-moves k pid a n h l =
    let ps = k.processes
    in let used = k.used_processes
    in let w = weaken ps used pid h
    in let sound = (h.body.each pid a l).sound
    in record {
      same = w;
      forks = λ f. forked ps used pid a n h l (fresh-unused used n f);
      ends = λ ending. ended-under ps used pid a ending h l (parent_in pid ps) refl;
      acts = λ g act kill. own-signals ps used pid a (with_action a.row.signals g act) h l
          (sound-action a.row.signals g act kill sound) (λ d. d);
      masks = λ how set. own-signals ps used pid a (with_mask a.row.signals how set) h l
          (sound-mask a.row.signals how set sound) (mask-stays a.row.signals how set);
      raises_own = λ target g t.
          own-signals ps used pid target (raise target.row.signals g) h t
          (sound-raise target.row.signals g (h.body.each pid target t).sound)
          (raise-stays target.row.signals g);
      raises_other = λ other target g t.
          change ps used pid h other target (raise_by_other target g) t refl
          (weak pid other (raise_by_other target g) (strong-raised target g (h.body.each other target t)));
      reaps = λ which child ending e.
          reaped ps used pid a child ending h l (found-contained a.row.family which child ending e);
      makes_queue = λ f. w;
      binds_queue = λ key f. w;
      sends = λ id class text q next g e. w;
      receives = λ id class size noerror q r g e. w;
      limits = λ id qbytes q next g e. w;
      removes_queue = λ id. w;
      makes_set = λ count set e f. w;
      binds_set = λ key count set e f. w;
      operates = λ id steps set next g e. w;
      sets_one = λ id num value set next g e. w;
      fills = λ id values set next g e. w;
      removes_set = λ id. w;
    }

-- after the entry
strengthen : (ps : Numbered Process) (used : List ℕ) (caller : ℕ) → People (Weak caller) ps used
    → ((x : Alive) → get ps caller ≡ Some (Living x) → Strong x)
    → People IsStrong ps used
strengthen ps used caller h own =
    record {
      body = record {
        rise = h.body.rise;
        used_is = h.body.used_is;
        each = λ p x l.
            elim (cases_eq p caller) [
              | inl same ↦ own x (ap (get ps) (sym same) ∙ l)
              | inr ne ↦ strong-other caller p x (h.body.each p x l) ne
            ];
      };
      families = h.families;
    }

spend : (ps : Numbered Process) (used : List ℕ) (caller : ℕ) (a : Alive) → People (Weak caller) ps used
    → get ps caller ≡ Some (Living a)
    → is_some a.row.signals.doom ≡ true → People IsStrong (put ps caller (Living (record a { allowance = Spent }))) used
spend ps used caller a h l d =
    let b : Alive = record a { allowance = Spent }
    in let s : Strong b = strong-spent caller caller a (h.body.each caller a l) d
    in let next = put ps caller (Living b)
    in let there : get next caller ≡ Some (Living b) = (put-is ps caller (Living b)).here
    in strengthen next used caller
    (record {
      body = body-put (Weak caller) ps used h.body caller (Living b) (ap is_some l)
          (λ x e. subst (λ (y : Alive). Weak caller caller y) (same-alive b x e) (weak caller caller b s));
      families = families-kept (get ps) (get next) Each h.families
          (kept-same (get ps) (get next) caller a b (put-is ps caller (Living b)) l refl);
    })
    (λ x e. subst Strong (same-alive b x (at-once (get next caller) (Living b) (Living x) there e)) s)

finish-doom : (k : Kernel) (pid : ℕ) (a : Alive) → Midway pid k → get k.processes pid ≡ Some (Living a)
    → (doomed : Bool) → is_some a.row.signals.doom ≡ doomed
    → Settled (if doomed then with_alive k pid (record a { allowance = Spent }) else k)
finish-doom k pid a h l true d = spend k.processes k.used_processes pid a h l d
finish-doom k pid a h l false d =
    strengthen k.processes k.used_processes pid h
    (λ x e.
    let s = strong-undoomed pid pid a (h.body.each pid a l) d
    in subst Strong (same-alive a x (at-once (get k.processes pid) (Living a) (Living x) l e)) s)

finish : (k : Kernel) (pid : ℕ) → Midway pid k → (found : Option Alive) → living_at k pid ≡ found
    → Settled (finish_call k pid found)
finish k pid h None e = strengthen k.processes k.used_processes pid h (λ x l. absurd (not-living k.processes pid x e l))
finish k pid h (Some a) e = finish-doom k pid a h (from-living k.processes pid a e) (is_some a.row.signals.doom) refl

-- every entry keeps processes in order
pub people-kept : KeptBy Settled Midway
people-kept =
    record {
      moves = λ k pid call n next outcome s h.
          people-moves k pid s.alive n h (from-living k.processes pid s.alive s.lives);
      finishes = λ pid k h. finish k pid h (living_at k pid) refl;
    }
