-- The map of processes, as calls change it: who waits at a queue or a set stays so, who is listed as ended is over, and
-- nobody lists itself.
use Rattle.std.proofs.Common.{◌≡◌, ◌≢◌, ◌∙◌, ℕ, Bool, true, false, cond, not, nat_eq, List, [], ◌∷◌, ◌++◌, Option, Some, None, is_some, refl, ap, sym, subst, inl, inr}
use Rattle.std.specs.Prelude.{◌⊎◌, if◌then◌else◌, fold}
use Rattle.std.specs.List.{filter, list_any, AllByRecursion}
use Rattle.std.specs.List.Sorted.{IsStrictlySortedBy}
use Rattle.std.specs.Map.{keys_of}
use Rattle.std.specs.Option.{option_map, option_and_then}
use Rattle.std.specs.Ordering.{nat_cmp}
use Rattle.std.specs.BTreeMap.{is_at}
use Rattle.std.proofs.lemmas.Bool.{false≢true, true≢false, cases_eq, or_parts, or_from}
use Rattle.pico_base.specs.declared.call.Call.{Call}
use Rattle.pico_base.specs.declared.call.Call.TheVariants as calls
use Rattle.pico_base.specs.declared.numbers.Name.TheVariants.{Msg, Sem}
use Rattle.pico_base.specs.declared.reply.Ending.{Ending}
use Rattle.number_maps.specs.Maps.{Numbered, get, put}
use Rattle.number_maps.specs.Rising.{IsRising}
use Rattle.number_maps.proofs.Order.{is_at-nat_eq, same-from-nat_eq}
use Rattle.number_maps.proofs.LookUps.{get-first, get-put-same, get-put-other}
use Rattle.number_maps.proofs.Rising.{rising-put, rising-rest}
use Rattle.number_maps.proofs.Changes.{get-rest}
use Rattle.kernel_model.specs.Row.{EndedChild, Family, Waited, Found, NotYet, NoChild, ended_child, family_after_end, first_ended_child, ignores_children, lists, matches, wait, wait_result}
use Rattle.waiting_model.specs.Marks.{Alive, after_reply, awaited_children, with_family}
use Rattle.waiting_model.specs.Kernel.{Process, Living, Ended, Gone, Parent, alive_in, change_living, living_in, parent_if, parent_in, where_living}
use Rattle.waiting_model.specs.ProcessCalls.{after_waiting, bury, bury_all, bury_found, end_under, found_after_end, found_for, parent_after_end, parent_after_wait, process_after_end, processes_after_wait, raise_chld}
use Rattle.waiting_laws.specs.Parked.{mark_at, mark_of, mark_in}
use Rattle.waiting_laws.proofs.Options.{some-isnt-none, not-some, same-some}

-- the same waits at queues and sets
pub record WaitsAlike (pid : ℕ) (x y : Option Call) : Type 0 where
  pub queues : (id : ℕ) → mark_at pid (Msg id) x ≡ mark_at pid (Msg id) y
  pub sets : (id : ℕ) → mark_at pid (Sem id) x ≡ mark_at pid (Sem id) y

-- with itself
pub alike-self : (pid : ℕ) (x : Option Call) → WaitsAlike pid x x
alike-self pid x = record { queues = λ id. refl; sets = λ id. refl }

-- the same mark
pub alike-from : (pid : ℕ) (x y : Option Call) → x ≡ y → WaitsAlike pid x y
alike-from pid x y h = subst (λ (z : Option Call). WaitsAlike pid x z) h (alike-self pid x)

-- one after the other
pub alike-on : (pid : ℕ) (x y z : Option Call) → WaitsAlike pid x y → WaitsAlike pid y z → WaitsAlike pid x z
alike-on pid x y z h g = record { queues = λ id. h.queues id ∙ g.queues id; sets = λ id. h.sets id ∙ g.sets id }

-- it has ended, or is gone
abbrev pub IsOver : Option Process → Type 0
IsOver None = ⊥
IsOver (Some (Living a)) = ⊥
IsOver (Some (Ended ending)) = Unit {0}
IsOver (Some Gone) = Unit {0}

-- each of these children is
abbrev pub AllOver : Numbered Process → List EndedChild → Type 0
AllOver ps es = AllByRecursion (λ e. IsOver (get ps e.pid)) es

-- where it is parked in waitpid it finds no child that has ended, and one that lives
abbrev pub FindsNothing : Alive → Type 0
FindsNothing a =
    (child : Option ℕ) (nohang : Bool) → a.marks.parked ≡ Some (calls.WaitPid child nohang)
    → wait a.row.family child ≡ NotYet

pub record People (ps : Numbered Process) : Type 0 where
  pub rising : IsRising ps
  pub ended : (pid : ℕ) (a : Alive) → living_in ps pid ≡ Some a → AllOver ps a.row.family.ended
  pub apart : (pid : ℕ) (a : Alive) → living_in ps pid ≡ Some a → lists a.row.family pid ≡ false
  pub patient : (pid : ℕ) (a : Alive) → living_in ps pid ≡ Some a → FindsNothing a

pub record Moves (ps qs : Numbered Process) : Type 0 where
  pub people : People qs
  pub waits : (pid : ℕ) → WaitsAlike pid (mark_in qs pid) (mark_in ps pid)
  pub there : (n : ℕ) → is_some (get qs n) ≡ is_some (get ps n)

-- nothing moves
pub moves-self : (ps : Numbered Process) → People ps → Moves ps ps
moves-self ps people = record { people = people; waits = λ pid. alike-self pid (mark_in ps pid); there = λ n. refl }

moves-on : (ps qs rs : Numbered Process) → Moves ps qs → Moves qs rs → Moves ps rs
moves-on ps qs rs h g =
    record {
      people = g.people;
      waits = λ pid. alike-on pid (mark_in rs pid) (mark_in qs pid) (mark_in ps pid) (g.waits pid) (h.waits pid);
      there = λ n. g.there n ∙ h.there n;
    }

-- Look-ups after a put.

-- who lives at this number
pub living-put-same : (ps : Numbered Process) (n : ℕ) (x : Process) → living_in (put ps n x) n ≡ alive_in x
living-put-same ps n x = ap (option_and_then alive_in) (get-put-same ps n x)

-- who lives at another number
pub living-put-other : (ps : Numbered Process) (n : ℕ) (x : Process) (q : ℕ) → q ≢ n
    → living_in (put ps n x) q ≡ living_in ps q
living-put-other ps n x q ne = ap (option_and_then alive_in) (get-put-other ps n x q ne)

-- so nobody lives there
pub over-isnt-living : (o : Option Process) → IsOver o → option_and_then alive_in o ≡ None
over-isnt-living None h = absurd h
over-isnt-living (Some (Living a)) h = absurd h
over-isnt-living (Some (Ended ending)) h = refl
over-isnt-living (Some Gone) h = refl

over-is-there : (o : Option Process) → IsOver o → is_some o ≡ true
over-is-there None h = absurd h
over-is-there (Some x) h = refl

over-is-dead : (x : Process) → IsOver (Some x) → alive_in x ≡ None
over-is-dead (Living a) h = absurd h
over-is-dead (Ended ending) h = refl
over-is-dead Gone h = refl

living-is-there : (o : Option Process) (a : Alive) → option_and_then alive_in o ≡ Some a → is_some o ≡ true
living-is-there None a h = some-isnt-none a None h refl
living-is-there (Some x) a h = refl

-- who lives isn't over
pub living-differs : (ps : Numbered Process) (n m : ℕ) (a : Alive) → living_in ps n ≡ Some a → IsOver (get ps m) → m ≢ n
living-differs ps n m a lives over same =
    some-isnt-none a (living_in ps n) lives
    (over-isnt-living (get ps n) (subst (λ (i : ℕ). IsOver (get ps i)) same over))

over-put-over : (ps : Numbered Process) (n : ℕ) (x : Process) (m : ℕ) → IsOver (Some x) → IsOver (get ps m)
    → IsOver (get (put ps n x) m)
over-put-over ps n x m h g =
    elim (cases_eq m n) [
      | inl same ↦
          subst (λ (i : ℕ). IsOver (get (put ps n x) i)) (sym same)
          (subst (λ (o : Option Process). IsOver o) (sym (get-put-same ps n x)) h)
      | inr ne ↦ subst (λ (o : Option Process). IsOver o) (sym (get-put-other ps n x m ne)) g
    ]

-- beside a living process with another row
pub over-put-living : (ps : Numbered Process) (n : ℕ) (x : Process) (m : ℕ) (a : Alive) → living_in ps n ≡ Some a
    → IsOver (get ps m) → IsOver (get (put ps n x) m)
over-put-living ps n x m a lives g =
    subst (λ (o : Option Process). IsOver o)
    (sym (get-put-other ps n x m (living-differs ps n m a lives g))) g

all-from : (P Q : EndedChild → Type 0) → ((e : EndedChild) → P e → Q e) → (es : List EndedChild)
    → AllByRecursion P es → AllByRecursion Q es
all-from P Q f [] h = tt
all-from P Q f (e ∷ es) h = (f e h.0, all-from P Q f es h.1)

-- another one who is over
pub all-over-put-over : (ps : Numbered Process) (n : ℕ) (x : Process) → IsOver (Some x) → (es : List EndedChild)
    → AllOver ps es → AllOver (put ps n x) es
all-over-put-over ps n x h es all =
    all-from (λ e. IsOver (get ps e.pid)) (λ e. IsOver (get (put ps n x) e.pid))
    (λ e over. over-put-over ps n x e.pid h over) es all

all-over-put-living : (ps : Numbered Process) (n : ℕ) (x : Process) (a : Alive) → living_in ps n ≡ Some a
    → (es : List EndedChild) → AllOver ps es → AllOver (put ps n x) es
all-over-put-living ps n x a lives es all =
    all-from (λ e. IsOver (get ps e.pid)) (λ e. IsOver (get (put ps n x) e.pid))
    (λ e over. over-put-living ps n x e.pid a lives over) es all

-- who lives after a put: the one that was put, or who lived
record LivesThere (n : ℕ) (x : Process) (p : ℕ) (a : Alive) : Type 0 where
  same : p ≡ n
  is : alive_in x ≡ Some a

record LivedBefore (ps : Numbered Process) (n p : ℕ) (a : Alive) : Type 0 where
  differs : p ≢ n
  lived : living_in ps p ≡ Some a

living-put : (ps : Numbered Process) (n : ℕ) (x : Process) (p : ℕ) (a : Alive) → living_in (put ps n x) p ≡ Some a
    → LivesThere n x p a ⊎ LivedBefore ps n p a
living-put ps n x p a lives =
    elim (cases_eq p n) [
      | inl same ↦
          inl (record {
            same = same;
            is =
                sym (living-put-same ps n x)
                ∙ subst (λ (i : ℕ). living_in (put ps n x) i ≡ Some a) same lives;
          })
      | inr ne ↦ inr (record { differs = ne; lived = sym (living-put-other ps n x p ne) ∙ lives })
    ]

there-put : (ps : Numbered Process) (n : ℕ) (x : Process) → is_some (get ps n) ≡ true → (m : ℕ)
    → is_some (get (put ps n x) m) ≡ is_some (get ps m)
there-put ps n x h m =
    elim (cases_eq m n) [
      | inl same ↦
          subst (λ (i : ℕ). is_some (get (put ps n x) i) ≡ is_some (get ps i)) (sym same)
          (ap is_some (get-put-same ps n x) ∙ sym h)
      | inr ne ↦ ap is_some (get-put-other ps n x m ne)
    ]

waits-put : (ps : Numbered Process) (n : ℕ) (x : Process) → WaitsAlike n (mark_of (alive_in x)) (mark_in ps n)
    → (p : ℕ) → WaitsAlike p (mark_in (put ps n x) p) (mark_in ps p)
waits-put ps n x h p =
    elim (cases_eq p n) [
      | inl same ↦
          subst (λ (i : ℕ). WaitsAlike i (mark_in (put ps n x) i) (mark_in ps i)) (sym same)
          (subst (λ (o : Option Alive). WaitsAlike n (mark_of o) (mark_in ps n)) (sym (living-put-same ps n x)) h)
      | inr ne ↦ alike-from p (mark_in (put ps n x) p) (mark_in ps p) (ap mark_of (living-put-other ps n x p ne))
    ]

-- somebody is over from here on, who waits nowhere
put-over : (ps : Numbered Process) → People ps → (n : ℕ) (x : Process) → IsOver (Some x)
    → WaitsAlike n None (mark_in ps n) → is_some (get ps n) ≡ true → Moves ps (put ps n x)
put-over ps people n x over alike there =
    record {
      people = record {
        rising = rising-put ps n x people.rising;
        ended =
            λ p a lives.
            elim (living-put ps n x p a lives) [
              | inl here ↦ some-isnt-none a (alive_in x) here.is (over-is-dead x over)
              | inr b ↦ all-over-put-over ps n x over a.row.family.ended (people.ended p a b.lived)
            ];
        apart =
            λ p a lives.
            elim (living-put ps n x p a lives) [
              | inl here ↦ some-isnt-none a (alive_in x) here.is (over-is-dead x over)
              | inr b ↦ people.apart p a b.lived
            ];
        patient =
            λ p a lives.
            elim (living-put ps n x p a lives) [
              | inl here ↦ some-isnt-none a (alive_in x) here.is (over-is-dead x over)
              | inr b ↦ people.patient p a b.lived
            ];
      };
      waits =
          waits-put ps n x
          (subst (λ (o : Option Alive). WaitsAlike n (mark_of o) (mark_in ps n)) (sym (over-is-dead x over)) alike);
      there = there-put ps n x there;
    }

-- a living process with another row
pub put-alive : (ps : Numbered Process) → People ps → (n : ℕ) (a b : Alive) → living_in ps n ≡ Some a
    → WaitsAlike n b.marks.parked a.marks.parked → AllOver ps b.row.family.ended → lists b.row.family n ≡ false
    → FindsNothing b → Moves ps (put ps n (Living b))
put-alive ps people n a b lives alike over alone patient =
    record {
      people = record {
        rising = rising-put ps n (Living b) people.rising;
        ended =
            λ p c living.
            elim (living-put ps n (Living b) p c living) [
              | inl here ↦
                  subst (λ (d : Alive). AllOver (put ps n (Living b)) d.row.family.ended) (same-some b c here.is)
                  (all-over-put-living ps n (Living b) a lives b.row.family.ended over)
              | inr before ↦
                  all-over-put-living ps n (Living b) a lives c.row.family.ended (people.ended p c before.lived)
            ];
        apart =
            λ p c living.
            elim (living-put ps n (Living b) p c living) [
              | inl here ↦
                  subst (λ (i : ℕ). lists c.row.family i ≡ false) (sym here.same)
                  (subst (λ (d : Alive). lists d.row.family n ≡ false) (same-some b c here.is) alone)
              | inr before ↦ people.apart p c before.lived
            ];
        patient =
            λ p c living.
            elim (living-put ps n (Living b) p c living) [
              | inl here ↦ subst (λ (d : Alive). FindsNothing d) (same-some b c here.is) patient
              | inr before ↦ people.patient p c before.lived
            ];
      };
      waits =
          waits-put ps n (Living b)
          (subst (λ (o : Option Alive). WaitsAlike n b.marks.parked (mark_of o)) (sym lives) alike);
      there = there-put ps n (Living b) (living-is-there (get ps n) a lives);
    }

-- a process with other signals or another allowance
pub put-marked : (ps : Numbered Process) → People ps → (n : ℕ) (a b : Alive) → living_in ps n ≡ Some a
    → b.marks.parked ≡ a.marks.parked → b.row.family ≡ a.row.family → Moves ps (put ps n (Living b))
put-marked ps people n a b lives marks family =
    put-alive ps people n a b lives (alike-from n b.marks.parked a.marks.parked marks)
    (subst (λ (f : Family). AllOver ps f.ended) (sym family) (people.ended n a lives))
    (subst (λ (f : Family). lists f n ≡ false) (sym family) (people.apart n a lives))
    (λ child nohang h.
    subst (λ (f : Family). wait f child ≡ NotYet) (sym family)
    (people.patient n a lives child nohang (sym marks ∙ h)))

-- Children that are found are over.

-- the child that is found, if one is
abbrev pub OverFound : Numbered Process → Waited → Type 0
OverFound ps (Found child ending) = IsOver (get ps child)
OverFound ps NotYet = Unit {0}
OverFound ps NoChild = Unit {0}

abbrev OverFirst : Numbered Process → Option EndedChild → Type 0
OverFirst ps None = Unit {0}
OverFirst ps (Some e) = IsOver (get ps e.pid)

over-if : (ps : Numbered Process) (b : Bool) (e : EndedChild) (o : Option EndedChild) → IsOver (get ps e.pid)
    → OverFirst ps o → OverFirst ps (if b then Some e else o)
over-if ps true e o h g = h
over-if ps false e o h g = g

over-first : (ps : Numbered Process) (which : Option ℕ) (es : List EndedChild) → AllOver ps es
    → OverFirst ps (first_ended_child which es)
over-first ps which [] h = tt
over-first ps which (e ∷ es) h =
    over-if ps (matches which e.pid) e (first_ended_child which es) h.0 (over-first ps which es h.1)

over-none : (ps : Numbered Process) (b : Bool) → OverFound ps (if b then NotYet else NoChild)
over-none ps true = tt
over-none ps false = tt

over-result : (ps : Numbered Process) (o : Option EndedChild) (living : Bool) → OverFirst ps o
    → OverFound ps (wait_result o living)
over-result ps None living h = over-none ps living
over-result ps (Some e) living h = h

over-wait : (ps : Numbered Process) (f : Family) (which : Option ℕ) → AllOver ps f.ended → OverFound ps (wait f which)
over-wait ps f which h =
    over-result ps (first_ended_child which f.ended) (list_any (matches which) f.living)
    (over-first ps which f.ended h)

-- what a parked call finds
pub over-found : (ps : Numbered Process) (f : Family) (which : Option (Option ℕ)) → AllOver ps f.ended
    → OverFound ps (found_for f which)
over-found ps f None h = tt
over-found ps f (Some which) h = over-wait ps f which h

nowhere : (ps : Numbered Process) (n : ℕ) → IsOver (get ps n) → WaitsAlike n None (mark_in ps n)
nowhere ps n over = alike-from n None (mark_in ps n) (sym (ap mark_of (over-isnt-living (get ps n) over)))

moves-gone : (ps : Numbered Process) → People ps → (n : ℕ) → IsOver (get ps n) → Moves ps (put ps n Gone)
moves-gone ps people n over = put-over ps people n Gone tt (nowhere ps n over) (over-is-there (get ps n) over)

-- ended children are gone
pub bury-moves : (ps : Numbered Process) → People ps → (es : List EndedChild) → AllOver ps es
    → Moves ps (fold bury ps es)
bury-moves ps people [] all = moves-self ps people
bury-moves ps people (e ∷ es) all =
    let first : Moves ps (put ps e.pid Gone) = moves-gone ps people e.pid all.0
    in moves-on ps (put ps e.pid Gone) (fold bury (put ps e.pid Gone) es) first
    (bury-moves (put ps e.pid Gone) first.people es (all-over-put-over ps e.pid Gone tt es all.1))

-- who lives goes on living
pub living-bury : (ps : Numbered Process) (es : List EndedChild) → AllOver ps es → (q : ℕ) (a : Alive)
    → living_in ps q ≡ Some a → living_in (fold bury ps es) q ≡ Some a
living-bury ps [] all q a lives = lives
living-bury ps (e ∷ es) all q a lives =
    living-bury (put ps e.pid Gone) es (all-over-put-over ps e.pid Gone tt es all.1) q a
    (living-put-other ps e.pid Gone q (λ same. living-differs ps q e.pid a lives all.0 (sym same)) ∙ lives)

over-bury : (ps : Numbered Process) (es : List EndedChild) (m : ℕ) → IsOver (get ps m)
    → IsOver (get (fold bury ps es) m)
over-bury ps [] m h = h
over-bury ps (e ∷ es) m h = over-bury (put ps e.pid Gone) es m (over-put-over ps e.pid Gone m tt h)

-- The parent lives, and lists the child.

-- what is known of a parent, if there is one
abbrev pub ParentView : Numbered Process → ℕ → Option Parent → Type 0
ParentView ps child None = Unit {0}
ParentView ps child (Some p) = (get ps p.pid ≡ Some (Living p.alive)) × (lists p.alive.row.family child ≡ true)

parent-behind : (e : ℕ × Process) (ps : Numbered Process) (child : ℕ) → IsRising (e ∷ ps) → (o : Option Parent)
    → ParentView ps child o → ParentView (e ∷ ps) child o
parent-behind e ps child rising None h = tt
parent-behind e ps child rising (Some p) h = (get-rest e ps p.pid (Living p.alive) rising h.0, h.1)

parent-by_test : (e : ℕ × Process) (ps : Numbered Process) (child : ℕ) (a : Alive) → e.1 ≡ Living a → (b : Bool)
    → lists a.row.family child ≡ b → (o : Option Parent) → ParentView (e ∷ ps) child o
    → ParentView (e ∷ ps) child (if b then Some (let p : Parent = record { pid = e.0; alive = a } in p) else o)
parent-by_test e ps child a is true listed o h = (get-first e ps e.0 refl ∙ ap Some is, listed)
parent-by_test e ps child a is false listed o h = h

parent-first : (e : ℕ × Process) (ps : Numbered Process) (child : ℕ) (x : Process) → e.1 ≡ x → (o : Option Parent)
    → ParentView (e ∷ ps) child o → ParentView (e ∷ ps) child (parent_if child e.0 x o)
parent-first e ps child (Living a) is o h =
    parent-by_test e ps child a is (lists a.row.family child) refl o h
parent-first e ps child (Ended ending) is o h = h
parent-first e ps child Gone is o h = h

-- by the map of processes
pub parent-view : (child : ℕ) (ps : Numbered Process) → IsRising ps → ParentView ps child (parent_in child ps)
parent-view child [] rising = tt
parent-view child (e ∷ ps) rising =
    parent-first e ps child e.1 refl (parent_in child ps)
    (parent-behind e ps child rising (parent_in child ps) (parent-view child ps (rising-rest e ps rising)))

-- A parent after the end of a child.

-- a parent's mark, by what its call found
abbrev pub parked_after : Waited → Option Call → Option Call
parked_after (Found child ending) parked = None
parked_after NotYet parked = parked
parked_after NoChild parked = None

parked-after-waiting : (a : Alive) (w : Waited) → (after_waiting a w).marks.parked ≡ parked_after w a.marks.parked
parked-after-waiting a (Found child ending) = refl
parked-after-waiting a NotYet = refl
parked-after-waiting a NoChild = refl

-- who is parked in waitpid waits at no queue and at no set
from-waitpid : (pid : ℕ) (child : Option ℕ) (nohang : Bool) (w : Waited)
    → WaitsAlike pid (parked_after w (Some (calls.WaitPid child nohang))) (Some (calls.WaitPid child nohang))
from-waitpid pid child nohang (Found c ending) = record { queues = λ id. refl; sets = λ id. refl }
from-waitpid pid child nohang NotYet = alike-self pid (Some (calls.WaitPid child nohang))
from-waitpid pid child nohang NoChild = record { queues = λ id. refl; sets = λ id. refl }

from-parked : (pid : ℕ) (f : Family) (parked : Option Call)
    → WaitsAlike pid (parked_after (found_for f (awaited_children parked)) parked) parked
from-parked pid f None = alike-self pid None
from-parked pid f (Some (calls.WaitPid child nohang)) = from-waitpid pid child nohang (wait f child)
from-parked pid f (Some call) = alike-self pid (Some call)

parked-chld : (b : Bool) (a : Alive) → (raise_chld b a).marks.parked ≡ a.marks.parked
parked-chld true a = refl
parked-chld false a = refl

family-chld : (b : Bool) (a : Alive) → (raise_chld b a).row.family ≡ a.row.family
family-chld true a = refl
family-chld false a = refl

-- the mark of a parent
pub parent-parked : (a : Alive) (child : ℕ) (ending : Ending)
    → (parent_after_end a child ending).marks.parked
    ≡ parked_after (found_after_end a child ending) a.marks.parked
parent-parked a child ending =
    let f : Family = family_after_end a.row.family child ending (ignores_children a.row)
    in let w : Waited = found_after_end a child ending
    in parked-chld (ignores_children a.row) (after_waiting (with_family a f) w)
    ∙ parked-after-waiting (with_family a f) w

parent-alike : (a : Alive) (pid child : ℕ) (ending : Ending)
    → WaitsAlike pid (parent_after_end a child ending).marks.parked a.marks.parked
parent-alike a pid child ending =
    let f : Family = family_after_end a.row.family child ending (ignores_children a.row)
    in let w : Waited = found_after_end a child ending
    in alike-on pid _ (parked_after w a.marks.parked) a.marks.parked
    (alike-from pid _ (parked_after w a.marks.parked)
    (parked-chld (ignores_children a.row) (after_waiting (with_family a f) w)
    ∙ parked-after-waiting (with_family a f) w))
    (from-parked pid f a.marks.parked)

-- whom a parked waitpid waits for
abbrev pub children_of : Option Call → Option ℕ
children_of (Some (calls.WaitPid child nohang)) = child
children_of o = None

-- whether it does
abbrev pub waits_for_children : Option Call → Bool
waits_for_children (Some (calls.WaitPid child nohang)) = true
waits_for_children o = false

-- a parent that goes on waiting finds nothing
record StillWaits (f : Family) (w : Waited) (child : Option ℕ) : Type 0 where
  result : w ≡ NotYet
  nothing : wait f child ≡ NotYet

still-by : (f : Family) (c : Option ℕ) (old : Bool) (child : Option ℕ) (nohang : Bool) (w : Waited) → wait f c ≡ w
    → parked_after w (Some (calls.WaitPid c old)) ≡ Some (calls.WaitPid child nohang) → StillWaits f w child
still-by f c old child nohang (Found d ending) is h = not-some (calls.WaitPid child nohang) h
still-by f c old child nohang NoChild is h = not-some (calls.WaitPid child nohang) h
still-by f c old child nohang NotYet is h =
    record { result = refl; nothing = subst (λ (x : Option ℕ). wait f x ≡ NotYet) (ap children_of h) is }

still-waits : (f : Family) (parked : Option Call) (child : Option ℕ) (nohang : Bool)
    → parked_after (found_for f (awaited_children parked)) parked ≡ Some (calls.WaitPid child nohang)
    → StillWaits f (found_for f (awaited_children parked)) child
still-waits f None child nohang h = not-some (calls.WaitPid child nohang) h
still-waits f (Some (calls.WaitPid c old)) child nohang h = still-by f c old child nohang (wait f c) refl h
still-waits f (Some call) child nohang h = absurd (false≢true (ap waits_for_children h))

parent-patient : (a : Alive) (child : ℕ) (ending : Ending) → FindsNothing (parent_after_end a child ending)
parent-patient a child ending which nohang h =
    let ignored : Bool = ignores_children a.row
    in let f : Family = family_after_end a.row.family child ending ignored
    in let w : Waited = found_after_end a child ending
    in let parked : (parent_after_end a child ending).marks.parked ≡ parked_after w a.marks.parked =
    parent-parked a child ending
    in let still : StillWaits f w which = still-waits f a.marks.parked which nohang (sym parked ∙ h)
    in let family : (parent_after_end a child ending).row.family ≡ f =
    family-chld ignored (after_waiting (with_family a f) w)
    ∙ ap (λ (v : Waited). (let b : Alive = after_waiting (with_family a f) v in b.row.family)) still.result
    in subst (λ (g : Family). wait g which ≡ NotYet) (sym family) still.nothing

all-over-behind : (ps : Numbered Process) (es : List EndedChild) (e : EndedChild) → AllOver ps es
    → IsOver (get ps e.pid) → AllOver ps (es ++ e ∷ [])
all-over-behind ps [] e h g = (g, tt)
all-over-behind ps (d ∷ es) e h g = (h.0, all-over-behind ps es e h.1 g)

all-over-kept : (ps : Numbered Process) (b : Bool) (e : EndedChild) (es : List EndedChild) → IsOver (get ps e.pid)
    → AllOver ps es → AllOver ps (cond b (e ∷ es) es)
all-over-kept ps true e es h g = (h, g)
all-over-kept ps false e es h g = g

all-over-filter : (ps : Numbered Process) (test : EndedChild → Bool) (es : List EndedChild) → AllOver ps es
    → AllOver ps (filter test es)
all-over-filter ps test [] h = tt
all-over-filter ps test (e ∷ es) h =
    all-over-kept ps (test e) e (filter test es) h.0 (all-over-filter ps test es h.1)

-- the ended children, with the one that ends now
pub over-after-end : (ps : Numbered Process) (f : Family) (child : ℕ) (ending : Ending) (ignored : Bool)
    → AllOver ps f.ended → IsOver (get ps child) → AllOver ps (family_after_end f child ending ignored).ended
over-after-end ps f child ending true h g = h
over-after-end ps f child ending false h g = all-over-behind ps f.ended (ended_child child ending) h g

any-kept : (n : ℕ) (b : Bool) (c : ℕ) (cs : List ℕ) → nat_eq n c ≡ false → list_any (nat_eq n) cs ≡ false
    → list_any (nat_eq n) (cond b (c ∷ cs) cs) ≡ false
any-kept n true c cs h g = or_from (nat_eq n c) (list_any (nat_eq n) cs) h g
any-kept n false c cs h g = g

any-filter : (n : ℕ) (test : ℕ → Bool) (cs : List ℕ) → list_any (nat_eq n) cs ≡ false
    → list_any (nat_eq n) (filter test cs) ≡ false
any-filter n test [] h = refl
any-filter n test (c ∷ cs) h =
    let parts = or_parts (nat_eq n c) (list_any (nat_eq n) cs) h
    in any-kept n (test c) c (filter test cs) parts.0 (any-filter n test cs parts.1)

-- what a found child leaves of the family
over-waiting : (ps : Numbered Process) (a : Alive) (w : Waited) → AllOver ps a.row.family.ended
    → AllOver ps (after_waiting a w).row.family.ended
over-waiting ps a (Found child ending) h =
    all-over-filter ps (λ e. not (nat_eq child e.pid)) a.row.family.ended h
over-waiting ps a NotYet h = h
over-waiting ps a NoChild h = h

living-waiting : (a : Alive) (w : Waited) → (after_waiting a w).row.family.living ≡ a.row.family.living
living-waiting a (Found child ending) = refl
living-waiting a NotYet = refl
living-waiting a NoChild = refl

-- a process that ends is
pub over-process : (b : Bool) (ending : Ending) → IsOver (Some (process_after_end b ending))
over-process true ending = tt
over-process false ending = tt

bury-found-moves : (ps : Numbered Process) → People ps → (w : Waited) → OverFound ps w → Moves ps (bury_found ps w)
bury-found-moves ps people (Found child ending) h = moves-gone ps people child h
bury-found-moves ps people NotYet h = moves-self ps people
bury-found-moves ps people NoChild h = moves-self ps people

-- who lives stays as it is when a child that is over is buried
pub living-bury-found : (ps : Numbered Process) (w : Waited) → OverFound ps w → (q : ℕ) (a : Alive)
    → living_in ps q ≡ Some a → living_in (bury_found ps w) q ≡ Some a
living-bury-found ps (Found child ending) h q a lives =
    living-put-other ps child Gone q (λ same. living-differs ps q child a lives h (sym same)) ∙ lives
living-bury-found ps NotYet h q a lives = lives
living-bury-found ps NoChild h q a lives = lives

all-over-bury-found : (ps : Numbered Process) (w : Waited) (es : List EndedChild) → AllOver ps es
    → AllOver (bury_found ps w) es
all-over-bury-found ps (Found child ending) es h = all-over-put-over ps child Gone tt es h
all-over-bury-found ps NotYet es h = h
all-over-bury-found ps NoChild es h = h

-- the end of a process whose ended children are buried, with a living parent that isn't itself
end-with-parent : (ps : Numbered Process) → People ps → (pid : ℕ) (a : Alive) (ending : Ending)
    → living_in ps pid ≡ Some a → a.marks.parked ≡ None → (p : Parent) → living_in ps p.pid ≡ Some p.alive
    → p.pid ≢ pid → Moves ps (end_under ps pid ending (Some p))
end-with-parent ps people pid a ending lives unparked p parent differs =
    let b : Alive = p.alive
    in let ignored : Bool = ignores_children b.row
    in let x : Process = process_after_end ignored ending
    in let f : Family = family_after_end b.row.family pid ending ignored
    in let w : Waited = found_after_end b pid ending
    in let over : IsOver (Some x) = over-process ignored ending
    in let ps1 : Numbered Process = put ps pid x
    in let m1 : Moves ps ps1 =
    put-over ps people pid x over
    (alike-from pid None (mark_in ps pid) (sym (ap mark_of lives ∙ unparked)))
    (living-is-there (get ps pid) a lives)
    in let here : IsOver (get ps1 pid) = subst (λ (o : Option Process). IsOver o) (sym (get-put-same ps pid x)) over
    in let all : AllOver ps1 f.ended =
    over-after-end ps1 b.row.family pid ending ignored
    (all-over-put-over ps pid x over b.row.family.ended (people.ended p.pid b parent)) here
    in let found : OverFound ps1 w = over-found ps1 f (awaited_children b.marks.parked) all
    in let ps2 : Numbered Process = bury_found ps1 w
    in let m2 : Moves ps1 ps2 = bury-found-moves ps1 m1.people w found
    in let lives1 : living_in ps1 p.pid ≡ Some b = living-put-other ps pid x p.pid differs ∙ parent
    in let lives2 : living_in ps2 p.pid ≡ Some b = living-bury-found ps1 w found p.pid b lives1
    in let c : Alive = after_waiting (with_family b f) w
    in let all2 : AllOver ps2 c.row.family.ended =
    over-waiting ps2 (with_family b f) w (all-over-bury-found ps1 w f.ended all)
    in let alone : lists c.row.family p.pid ≡ false =
    ap (λ (cs : List ℕ). list_any (nat_eq p.pid) cs) (living-waiting (with_family b f) w)
    ∙ any-filter p.pid (λ d. not (nat_eq pid d)) b.row.family.living (people.apart p.pid b parent)
    in let m3 : Moves ps2 (put ps2 p.pid (Living (parent_after_end b pid ending))) =
    put-alive ps2 m2.people p.pid b (parent_after_end b pid ending) lives2 (parent-alike b p.pid pid ending)
    (subst (λ (g : Family). AllOver ps2 g.ended) (sym (family-chld ignored c)) all2)
    (subst (λ (g : Family). lists g p.pid ≡ false) (sym (family-chld ignored c)) alone)
    (parent-patient b pid ending)
    in moves-on ps ps1 (put ps2 p.pid (Living (parent_after_end b pid ending))) m1
    (moves-on ps1 ps2 (put ps2 p.pid (Living (parent_after_end b pid ending))) m2 m3)

end-by-parent : (ps : Numbered Process) → People ps → (pid : ℕ) (a : Alive) (ending : Ending)
    → living_in ps pid ≡ Some a → a.marks.parked ≡ None → (bs : Numbered Process) → Moves ps bs
    → ((q : ℕ) (b : Alive) → living_in ps q ≡ Some b → living_in bs q ≡ Some b) → (o : Option Parent)
    → ParentView ps pid o → Moves bs (end_under bs pid ending o)
end-by-parent ps people pid a ending lives unparked bs buried still None view =
    put-over bs buried.people pid Gone tt
    (alike-from pid None (mark_in bs pid) (sym (ap mark_of (still pid a lives) ∙ unparked)))
    (living-is-there (get bs pid) a (still pid a lives))
end-by-parent ps people pid a ending lives unparked bs buried still (Some p) view =
    let parent : living_in ps p.pid ≡ Some p.alive = ap (option_and_then alive_in) view.0
    in let differs : p.pid ≢ pid =
    λ same.
    true≢false
    (sym view.1
    ∙ subst (λ (i : ℕ). lists p.alive.row.family i ≡ false) same (people.apart p.pid p.alive parent))
    in end-with-parent bs buried.people pid a ending (still pid a lives) unparked p (still p.pid p.alive parent) differs

-- each end of a process that isn't parked
pub end-moves : (ps : Numbered Process) → People ps → (pid : ℕ) (a : Alive) (ending : Ending)
    → living_in ps pid ≡ Some a → a.marks.parked ≡ None
    → Moves ps (end_under (bury_all ps a.row.family) pid ending (parent_in pid ps))
end-moves ps people pid a ending lives unparked =
    let bs : Numbered Process = bury_all ps a.row.family
    in let over : AllOver ps a.row.family.ended = people.ended pid a lives
    in let buried : Moves ps bs = bury-moves ps people a.row.family.ended over
    in moves-on ps bs (end_under bs pid ending (parent_in pid ps)) buried
    (end-by-parent ps people pid a ending lives unparked bs buried
    (λ q b h. living-bury ps a.row.family.ended over q b h) (parent_in pid ps)
    (parent-view pid ps people.rising))

-- waitpid that finds a child
pub reap-moves : (ps : Numbered Process) → People ps → (pid : ℕ) (a : Alive) → living_in ps pid ≡ Some a
    → a.marks.parked ≡ None → (child : ℕ) → IsOver (get ps child) → Moves ps (processes_after_wait ps pid a child)
reap-moves ps people pid a lives unparked child over =
    let b : Alive = parent_after_wait a child
    in let ps1 : Numbered Process = put ps pid (Living b)
    in let m1 : Moves ps ps1 =
    put-alive ps people pid a b lives (alike-self pid a.marks.parked)
    (all-over-filter ps (λ e. not (nat_eq child e.pid)) a.row.family.ended (people.ended pid a lives))
    (people.apart pid a lives)
    (λ which nohang h. not-some (calls.WaitPid which nohang) (sym unparked ∙ h))
    in moves-on ps ps1 (put ps1 child Gone) m1
    (moves-gone ps1 m1.people child (over-put-living ps pid (Living b) child a lives over))

-- what waitpid finds is over
pub wait-is-over : (ps : Numbered Process) → People ps → (pid : ℕ) (a : Alive) → living_in ps pid ≡ Some a
    → (which : Option ℕ) → OverFound ps (wait a.row.family which)
wait-is-over ps people pid a lives which = over-wait ps a.row.family which (people.ended pid a lives)

-- A change of the marks of one process.

changed-at : (n q : ℕ) (f : Alive → Alive) (p : ℕ × Process) (o : Option Process) (b : Bool) → nat_eq q p.0 ≡ b
    → cond b (Some (if nat_eq n p.0 then where_living f p.1 else p.1))
    (option_map (λ x. if nat_eq n q then where_living f x else x) o)
    ≡ option_map (λ x. if nat_eq n q then where_living f x else x) (cond b (Some p.1) o)
changed-at n q f p o true is =
    ap (λ (i : ℕ). (let r : Option Process = Some (if nat_eq n i then where_living f p.1 else p.1) in r))
    (sym (same-from-nat_eq q p.0 is))
changed-at n q f p o false is = refl

-- by number
pub get-changed : (ps : Numbered Process) (n : ℕ) (f : Alive → Alive) (q : ℕ)
    → get (change_living ps n f) q ≡ option_map (λ x. if nat_eq n q then where_living f x else x) (get ps q)
get-changed [] n f q = refl
get-changed (p ∷ ps) n f q =
    ap
    (λ (o : Option Process). cond (is_at (nat_cmp q) p.0) (Some (if nat_eq n p.0 then where_living f p.1 else p.1)) o)
    (get-changed ps n f q)
    ∙ changed-at n q f p (get ps q) (is_at (nat_cmp q) p.0) (sym (is_at-nat_eq q p.0))

keys-changed : (ps : Numbered Process) (n : ℕ) (f : Alive → Alive) → keys_of (change_living ps n f) ≡ keys_of ps
keys-changed [] n f = refl
keys-changed (p ∷ ps) n f = ap (λ (ks : List ℕ). p.0 ∷ ks) (keys-changed ps n f)

living-by : (o : Option Process) (b : Bool) (f : Alive → Alive)
    → option_and_then alive_in (option_map (λ x. if b then where_living f x else x) o)
    ≡ option_map (λ a. if b then f a else a) (option_and_then alive_in o)
living-by None b f = refl
living-by (Some (Living a)) true f = refl
living-by (Some (Living a)) false f = refl
living-by (Some (Ended ending)) true f = refl
living-by (Some (Ended ending)) false f = refl
living-by (Some Gone) true f = refl
living-by (Some Gone) false f = refl

-- who lives after a change of marks
pub living-changed : (ps : Numbered Process) (n : ℕ) (f : Alive → Alive) (q : ℕ)
    → living_in (change_living ps n f) q ≡ option_map (λ a. if nat_eq n q then f a else a) (living_in ps q)
living-changed ps n f q =
    ap (option_and_then alive_in) (get-changed ps n f q) ∙ living-by (get ps q) (nat_eq n q) f

over-by : (o : Option Process) (b : Bool) (f : Alive → Alive) → IsOver o
    → IsOver (option_map (λ x. if b then where_living f x else x) o)
over-by None b f h = h
over-by (Some (Living a)) b f h = absurd h
over-by (Some (Ended ending)) true f h = tt
over-by (Some (Ended ending)) false f h = tt
over-by (Some Gone) true f h = tt
over-by (Some Gone) false f h = tt

over-changed : (ps : Numbered Process) (n : ℕ) (f : Alive → Alive) (q : ℕ) → IsOver (get ps q)
    → IsOver (get (change_living ps n f) q)
over-changed ps n f q h =
    subst (λ (o : Option Process). IsOver o) (sym (get-changed ps n f q)) (over-by (get ps q) (nat_eq n q) f h)

-- who lives with a row afterwards lived with it before
record LivedWith (o : Option Alive) (b : Alive) : Type 0 where
  alive : Alive
  lived : o ≡ Some alive
  row : b.row ≡ alive.row

lived-if : (b : Bool) (f : Alive → Alive) → ((x : Alive) → (f x).row ≡ x.row) → (a c : Alive)
    → Some (if b then f a else a) ≡ Some c → c.row ≡ a.row
lived-if true f same a c h = ap (λ (x : Alive). x.row) (sym (same-some (f a) c h)) ∙ same a
lived-if false f same a c h = ap (λ (x : Alive). x.row) (sym (same-some a c h))

lived-by : (o : Option Alive) (b : Bool) (f : Alive → Alive) → ((x : Alive) → (f x).row ≡ x.row) → (c : Alive)
    → option_map (λ a. if b then f a else a) o ≡ Some c → LivedWith o c
lived-by None b f same c h = some-isnt-none c None h refl
lived-by (Some a) b f same c h = record { alive = a; lived = refl; row = lived-if b f same a c h }

lived-before : (ps : Numbered Process) (n : ℕ) (f : Alive → Alive) → ((x : Alive) → (f x).row ≡ x.row) → (q : ℕ)
    → (c : Alive) → living_in (change_living ps n f) q ≡ Some c → LivedWith (living_in ps q) c
lived-before ps n f same q c h =
    lived-by (living_in ps q) (nat_eq n q) f same c (sym (living-changed ps n f q) ∙ h)

-- the process whose marks change, or another one
record ChangedAlive (ps : Numbered Process) (n : ℕ) (f : Alive → Alive) (c : Alive) : Type 0 where
  alive : Alive
  lived : living_in ps n ≡ Some alive
  is : f alive ≡ c

changed-by : (ps : Numbered Process) (n : ℕ) (f : Alive → Alive) (q : ℕ) (c : Alive) (b : Bool) → nat_eq n q ≡ b
    → (o : Option Alive) → living_in ps q ≡ o → option_map (λ a. if b then f a else a) o ≡ Some c
    → ChangedAlive ps n f c ⊎ (living_in ps q ≡ Some c)
changed-by ps n f q c b same None lives h = not-some c h
changed-by ps n f q c true same (Some a) lives h =
    inl (record {
      alive = a;
      lived = subst (λ (i : ℕ). living_in ps i ≡ Some a) (sym (same-from-nat_eq n q same)) lives;
      is = same-some (f a) c h;
    })
changed-by ps n f q c false same (Some a) lives h = inr (lives ∙ h)

patient-changed : (ps : Numbered Process) → People ps → (n : ℕ) (f : Alive → Alive)
    → ((x : Alive) → living_in ps n ≡ Some x → FindsNothing (f x)) → (q : ℕ) (c : Alive)
    → living_in (change_living ps n f) q ≡ Some c → FindsNothing c
patient-changed ps people n f patient q c h =
    elim (changed-by ps n f q c (nat_eq n q) refl (living_in ps q) refl (sym (living-changed ps n f q) ∙ h)) [
      | inl x ↦ subst (λ (d : Alive). FindsNothing d) x.is (patient x.alive x.lived)
      | inr lived ↦ people.patient q c lived
    ]

-- rows stay, and so do families
pub people-changed : (ps : Numbered Process) → People ps → (n : ℕ) (f : Alive → Alive)
    → ((x : Alive) → (f x).row ≡ x.row) → ((x : Alive) → living_in ps n ≡ Some x → FindsNothing (f x))
    → People (change_living ps n f)
people-changed ps people n f same patient =
    record {
      rising = subst (λ (ks : List ℕ). IsStrictlySortedBy nat_cmp ks) (sym (keys-changed ps n f)) people.rising;
      ended =
          λ q c h.
          (let before : LivedWith (living_in ps q) c = lived-before ps n f same q c h
          in all-from (λ e. IsOver (get ps e.pid)) (λ e. IsOver (get (change_living ps n f) e.pid))
          (λ e over. over-changed ps n f e.pid over) c.row.family.ended
          (subst (λ r. AllOver ps r.family.ended) (sym before.row) (people.ended q before.alive before.lived)));
      apart =
          λ q c h.
          (let before : LivedWith (living_in ps q) c = lived-before ps n f same q c h
          in subst (λ r. lists r.family q ≡ false) (sym before.row) (people.apart q before.alive before.lived));
      patient = λ q c h. patient-changed ps people n f patient q c h;
    }

-- a reply ends each wait
pub replied-patient : (a : Alive) → FindsNothing (after_reply a)
replied-patient a child nohang h = not-some (calls.WaitPid child nohang) h

there-by : (o : Option Process) (b : Bool) (f : Alive → Alive)
    → is_some (option_map (λ x. if b then where_living f x else x) o) ≡ is_some o
there-by None b f = refl
there-by (Some x) b f = refl

-- and nobody comes or goes
pub there-changed : (ps : Numbered Process) (n : ℕ) (f : Alive → Alive) (q : ℕ)
    → is_some (get (change_living ps n f) q) ≡ is_some (get ps q)
there-changed ps n f q = ap is_some (get-changed ps n f q) ∙ there-by (get ps q) (nat_eq n q) f

mark-by : (o : Option Alive) (b : Bool)
    → mark_of (option_map (λ a. if b then after_reply a else a) o) ≡ (if b then None else mark_of o)
mark-by None true = refl
mark-by None false = refl
mark-by (Some a) true = refl
mark-by (Some a) false = refl

-- a reply ends the mark
pub mark-replied : (ps : Numbered Process) (n q : ℕ)
    → mark_in (change_living ps n after_reply) q ≡ (if nat_eq n q then None else mark_in ps q)
mark-replied ps n q = ap mark_of (living-changed ps n after_reply q) ∙ mark-by (living_in ps q) (nat_eq n q)

-- A new process, which has no children and waits nowhere.

over-born : (ps : Numbered Process) (n : ℕ) (b : Alive) → get ps n ≡ None → (m : ℕ) → IsOver (get ps m)
    → IsOver (get (put ps n (Living b)) m)
over-born ps n b none m h =
    elim (cases_eq m n) [
      | inl same ↦
          absurd
          (subst (λ (o : Option Process). IsOver o) none
          (subst (λ (i : ℕ). IsOver (get ps i)) same h))
      | inr ne ↦ subst (λ (o : Option Process). IsOver o) (sym (get-put-other ps n (Living b) m ne)) h
    ]

-- nobody knew it
pub birth-people : (ps : Numbered Process) → People ps → (n : ℕ) (b : Alive) → get ps n ≡ None
    → b.row.family.ended ≡ [] → b.row.family.living ≡ [] → b.marks.parked ≡ None → People (put ps n (Living b))
birth-people ps people n b none no_ended no_living unparked =
    record {
      rising = rising-put ps n (Living b) people.rising;
      ended =
          λ p c living.
          elim (living-put ps n (Living b) p c living) [
            | inl here ↦
                subst (λ (d : Alive). AllOver (put ps n (Living b)) d.row.family.ended) (same-some b c here.is)
                (subst (λ (es : List EndedChild). AllOver (put ps n (Living b)) es) (sym no_ended) tt)
            | inr before ↦
                all-from (λ e. IsOver (get ps e.pid)) (λ e. IsOver (get (put ps n (Living b)) e.pid))
                (λ e over. over-born ps n b none e.pid over) c.row.family.ended (people.ended p c before.lived)
          ];
      apart =
          λ p c living.
          elim (living-put ps n (Living b) p c living) [
            | inl here ↦
                subst (λ (d : Alive). lists d.row.family p ≡ false) (same-some b c here.is)
                (ap (λ (cs : List ℕ). list_any (nat_eq p) cs) no_living)
            | inr before ↦ people.apart p c before.lived
          ];
      patient =
          λ p c living.
          elim (living-put ps n (Living b) p c living) [
            | inl here ↦
                subst (λ (d : Alive). FindsNothing d) (same-some b c here.is)
                (λ child nohang h. not-some (calls.WaitPid child nohang) (sym unparked ∙ h))
            | inr before ↦ people.patient p c before.lived
          ];
    }

-- and it has no mark
pub birth-waits : (ps : Numbered Process) (n : ℕ) (b : Alive) → get ps n ≡ None → b.marks.parked ≡ None → (p : ℕ)
    → WaitsAlike p (mark_in (put ps n (Living b)) p) (mark_in ps p)
birth-waits ps n b none unparked p =
    waits-put ps n (Living b)
    (alike-from n b.marks.parked (mark_in ps n)
    (unparked ∙ sym (ap (λ (o : Option Process). mark_of (option_and_then alive_in o)) none))) p
