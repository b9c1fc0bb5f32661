-- A parent that is parked in `waitpid` is woken once its child has ended: the deeds and its reply are those of the
-- definition of an exit that is carried out.
use Rattle.std.proofs.Common.{◌≡◌, ◌∙◌, ℕ, Bool, true, false, nat_eq, List, [], ◌∷◌, ◌++◌, map, Option, Some, None, refl, sym, ap, subst, arith}
use Rattle.std.specs.Prelude.{if◌then◌else◌}
use Rattle.std.specs.Option.{option_map}
use Rattle.std.proofs.lemmas.List.Sums.{fold-append}
use Rattle.pico_base.specs.declared.call.Call.{Call}
use Rattle.pico_base.specs.declared.call.Call.TheVariants as calls
use Rattle.pico_base.specs.declared.numbers.Name.{Name}
use Rattle.pico_base.specs.declared.numbers.Name.TheVariants.{Proc}
use Rattle.pico_base.specs.declared.reply.Ending.{Ending as Ends}
use Rattle.pico_base.specs.declared.reply.Reply.{Reply}
use Rattle.rpc_frame.specs.declared.deed.Parcel.{Parcel}
use Rattle.number_maps.specs.Maps.{Numbered, get, put, is_used}
use Rattle.number_maps.proofs.Changes.{put-put}
use Rattle.number_maps.proofs.LookUps.{get-put-same, get-put-apart}
use Rattle.number_maps.proofs.Order.{same-from-nat_eq}
use Rattle.pico_base.specs.declared.signal.Sig.TheVariants.{Chld}
use Rattle.kernel_model.specs.Row as plain_row
use Rattle.kernel_model.specs.Row.{Family, Row, Waited, Found, NotYet, NoChild, family_after_end, ignores_children, wait}
use Rattle.waiting_model.specs.Kernel.{Process}
use Rattle.waiting_model.specs.Kernel as waiting
use Rattle.waiting_model.specs.Marks as marks
use Rattle.waiting_model.specs.ProcessCalls.{after_waiting, bury_found, parent_after_end, process_after_end, raise_chld, wakes_of_parent, wakes_under}
use Rattle.node_model.specs.Awaiting.{Applied, reap}
use Rattle.node_model.specs.Bodies as model
use Rattle.node_model.specs.Bodies.{whole_process}
use Rattle.node_model.specs.Kinds.{Named, get_named, put_all, put_named, put_pair}
use Rattle.node_model.specs.Parcels as definition
use Rattle.node_model.specs.Serving.{parts_in}
use Rattle.node_model.specs.Parcels.{all_gone, commit_exit, ending_of, found_names, lets_end, parked_in, parent_with}
use Rattle.serve_laws.proofs.Puts.{each-out, put_each, put-apart}
use Rattle.serve_laws.proofs.Committed.{committed, kept-whole, kept_under, processes_after}
use Rattle.node_serve.specs.declared.body.Row as code
use Rattle.node_serve.specs.declared.body.Body.{Body}
use Rattle.node_serve.specs.declared.body.Body.TheVariants.{Living, Ended, Gone, Queue, Set, Removed}
use Rattle.node_serve.specs.Bodies.{bodies_of, body_of, numbered_of, row_of}
use Rattle.node_serve.specs.Ending.{AnswersIf, Answered, Commits, Wakes, WakesIf, WakesParent, answered, bury_but, free_alive, lives, row_after, wakes_with}
use Rattle.node_serve.specs.Serving.{child_in}
use Rattle.node_serve.specs.Waits.{alone}
use Rattle.node_serve.proofs.KernelLemmas.{bodies-get, bodies-put, some_same}
use Rattle.node_serve.proofs.Taken.{IsTaken}

abbrev parked_on : Option ℕ → Option Call
parked_on child = Some (calls.WaitPid child false)

-- ---- what a parked parent finds

found_child : Waited → Option ℕ
found_child (Found q ending) = Some q
found_child NotYet = None
found_child NoChild = None

its-child : (row : Row) (w : Waited) → child_in (reap row false w).own ≡ found_child w
unfolding found_child
its-child row (Found q ending) = refl
its-child row NotYet = refl
its-child row NoChild = refl

its-wakes : (row : Row) (parent : ℕ) (w : Waited) → wakes_of_parent parent w ≡ wakes_with parent (reap row false w).own
its-wakes row parent (Found q ending) = refl
its-wakes row parent NotYet = refl
its-wakes row parent NoChild = refl

-- ---- what is left of it

abbrev with_children : Row → Family → Row
with_children row f = record { signals = row.signals; family = f }

abbrev raised_if : Bool → Row → Row
raised_if ignored row = (if ignored then free_alive row else plain_row.raise_by_other (free_alive row) Chld).row

left-by : (row : Row) (waits : Option Call) (f : Family) (ignored : Bool) (w : Waited)
    → (raise_chld ignored (after_waiting (marks.with_family (parked_in waits row) f) w)).row
    ≡ (reap (raised_if ignored (with_children row f)) false w).left
left-by row waits f true (Found q ending) = refl
left-by row waits f true NotYet = refl
left-by row waits f true NoChild = refl
left-by row waits f false (Found q ending) = refl
left-by row waits f false NotYet = refl
left-by row waits f false NoChild = refl

raised-family : (row : Row) (f : Family) (ignored : Bool) → (raised_if ignored (with_children row f)).family ≡ f
raised-family row f true = refl
raised-family row f false = refl

module _ (row : Row) (pid : ℕ) (ending : Ends) (child : Option ℕ) where
  abbrev bereft : Family
  bereft = family_after_end row.family pid ending (ignores_children row)

  -- what its parked `waitpid` comes to
  abbrev reaped : Applied Row
  reaped = reap (row_after row pid ending) false (wait (row_after row pid ending).family child)

  found-same : wait (row_after row pid ending).family child ≡ wait bereft child
  found-same = ap (λ (f : Family). wait f child) (raised-family row bereft (ignores_children row))

  parent-left : whole_process (Some (waiting.Living (parent_after_end (parked_in (parked_on child) row) pid ending)))
      ≡ model.Living reaped.left
  parent-left =
      ap model.Living
      (left-by row (parked_on child) bereft (ignores_children row) (wait bereft child)
      ∙ ap (λ (w : Waited). (reap (row_after row pid ending) false w).left) (sym found-same))

flipped : (a b : ℕ) → nat_eq a b ≡ false → nat_eq b a ≡ false
flipped a b h = grind arith

-- ---- the deeds after an end, with the child that the parent finds

all-gone : (pids : List ℕ) (m : model.Deeds)
    → put_all m (all_gone pids) ≡ record m { processes = put_each model.Gone m.processes pids }
all-gone [] m = refl
all-gone (p ∷ ps) m = all-gone ps (put_named m (Proc p) model.Gone)

-- the child that the parent found is gone, unless it is the parent itself
buried : ℕ → Option ℕ → Numbered model.Body → Numbered model.Body
buried parent None bodies = bodies
buried parent (Some q) bodies = if nat_eq q parent then bodies else put bodies q model.Gone

module _ (m : model.Deeds) (pids : List ℕ) (pid parent : ℕ) (apart : nat_eq pid parent ≡ false) (v l : Process) where
  abbrev gone : Numbered model.Body
  gone = put_each model.Gone m.processes pids

  abbrev with_processes : Numbered model.Body → model.Deeds
  with_processes bodies = record m { processes = bodies }

  abbrev pv : model.Body
  pv = whole_process (Some v)

  abbrev pl : model.Body
  pl = whole_process (Some l)

  -- without a child that is found
  abbrev both : Numbered model.Body
  both = put (put gone pid pv) parent pl

  abbrev changes_with : Numbered Process → List Name → List (Name × model.Body)
  changes_with ps names = all_gone pids ++ parts_in (record model.empty_kernel { processes = ps }) names

  many-more : (changes : List (Name × model.Body))
      → put_all m (all_gone pids ++ changes) ≡ put_all (with_processes gone) changes
  many-more changes =
      fold-append put_pair m (all_gone pids) changes ∙ ap (λ (d : model.Deeds). put_all d changes) (all-gone pids m)

  two : (ps : Numbered Process) → get ps pid ≡ Some v → get ps parent ≡ Some l
      → put_all m (changes_with ps (Proc pid ∷ Proc parent ∷ [])) ≡ with_processes both
  two ps first second =
      many-more ((Proc pid, whole_process (get ps pid)) ∷ (Proc parent, whole_process (get ps parent)) ∷ [])
      ∙ ap (λ (o : Option Process). with_processes
      (put (put gone pid (whole_process o)) parent (whole_process (get ps parent))))
      first
      ∙ ap (λ (o : Option Process). with_processes (put (put gone pid pv) parent (whole_process o))) second

  three : (ps : Numbered Process) (q : ℕ) (x z : Option Process) → get ps pid ≡ x → get ps parent ≡ Some l
      → get ps q ≡ z
      → put_all m (changes_with ps (Proc pid ∷ Proc parent ∷ Proc q ∷ []))
      ≡ with_processes (put (put (put gone pid (whole_process x)) parent pl) q (whole_process z))
  three ps q x z first second third =
      many-more ((Proc pid, whole_process (get ps pid)) ∷ (Proc parent, whole_process (get ps parent))
      ∷ (Proc q, whole_process (get ps q)) ∷ [])
      ∙ ap (λ (o : Option Process).
      with_processes (put (put (put gone pid (whole_process o)) parent (whole_process (get ps parent))) q
      (whole_process (get ps q)))) first
      ∙ ap (λ (o : Option Process).
      with_processes (put (put (put gone pid (whole_process x)) parent (whole_process o)) q (whole_process (get ps q))))
      second
      ∙ ap (λ (o : Option Process).
      with_processes (put (put (put gone pid (whole_process x)) parent pl) q (whole_process o))) third

  abbrev kernel_of : Waited → Numbered Process
  kernel_of w = put (bury_found (put [] pid v) w) parent l

  abbrev pair : Numbered Process
  pair = put (put [] pid v) parent l

  first-of-two : get pair pid ≡ Some v
  first-of-two = get-put-apart (put [] pid v) parent pid l apart ∙ get-put-same [] pid v

  abbrev triple : ℕ → Numbered Process
  triple q = put (put (put [] pid v) q waiting.Gone) parent l

  -- the process that ended, where another child is found
  its-own : (q : ℕ) → nat_eq pid q ≡ false → get (triple q) pid ≡ Some v
  its-own q other =
      get-put-apart (put (put [] pid v) q waiting.Gone) parent pid l apart
      ∙ get-put-apart (put [] pid v) q pid waiting.Gone other
      ∙ get-put-same [] pid v

  the-found : (q : ℕ) → nat_eq q parent ≡ false → get (triple q) q ≡ Some waiting.Gone
  the-found q other =
      get-put-apart (put (put [] pid v) q waiting.Gone) parent q l other
      ∙ get-put-same (put [] pid v) q waiting.Gone

  its-parent : (q : ℕ) → get (triple q) parent ≡ Some l
  its-parent q = get-put-same (put (put [] pid v) q waiting.Gone) parent l

  -- whatever the process was left as, it is gone where it is the child that is found
  own-found : (x y : model.Body)
      → put (put (put gone pid x) parent pl) pid model.Gone ≡ put (put (put gone pid y) parent pl) pid model.Gone
  own-found x y = same x ∙ sym (same y)
    where
      same : (z : model.Body)
          → put (put (put gone pid z) parent pl) pid model.Gone ≡ put (put gone parent pl) pid model.Gone
      same z =
          ap (λ (bodies : Numbered model.Body). put bodies pid model.Gone) (put-apart gone pid parent z pl apart)
          ∙ put-put (put gone parent pl) pid z model.Gone

  abbrev At : ℕ → Type 0
  At q =
      put_all m (changes_with (triple q) (Proc pid ∷ Proc parent ∷ Proc q ∷ []))
      ≡ with_processes (if nat_eq q parent then both else put both q model.Gone)

  found-at : (q : ℕ) (is_parent is_own : Bool) → nat_eq q parent ≡ is_parent → nat_eq q pid ≡ is_own → At q
  found-at q true is_own same own =
      let at : q ≡ parent = same-from-nat_eq q parent same
      in let other : nat_eq pid q ≡ false = ap (nat_eq pid) at ∙ apart
      in three (triple q) q (Some v) (Some l) (its-own q other) (its-parent q) (ap (get (triple q)) at ∙ its-parent q)
      ∙ ap (λ (n : ℕ). with_processes (put both n pl)) at
      ∙ ap with_processes (put-put (put gone pid pv) parent pl pl)
      ∙ sym (ap (λ (b : Bool). with_processes (if b then both else put both q model.Gone)) same)
  found-at q false true same own =
      let at : q ≡ pid = same-from-nat_eq q pid own
      in let gone_there : get (triple q) pid ≡ Some waiting.Gone =
      ap (get (triple q)) (sym at) ∙ the-found q same
      in three (triple q) q (Some waiting.Gone) (Some waiting.Gone) gone_there (its-parent q) (the-found q same)
      ∙ ap (λ (n : ℕ). with_processes (put (put (put gone pid model.Gone) parent pl) n model.Gone)) at
      ∙ ap with_processes (own-found model.Gone pv)
      ∙ ap (λ (n : ℕ). with_processes (put both n model.Gone)) (sym at)
      ∙ sym (ap (λ (b : Bool). with_processes (if b then both else put both q model.Gone)) same)
  found-at q false false same own =
      three (triple q) q (Some v) (Some waiting.Gone) (its-own q (flipped q pid own)) (its-parent q) (the-found q same)
      ∙ sym (ap (λ (b : Bool). with_processes (if b then both else put both q model.Gone)) same)

  told : (w : Waited)
      → put_all m (changes_with (kernel_of w) (Proc pid ∷ Proc parent ∷ found_names (wakes_of_parent parent w)))
      ≡ with_processes (buried parent (found_child w) both)
  unfolding buried found_child
  told (Found q ending) = found-at q (nat_eq q parent) (nat_eq q pid) refl refl
  told NotYet = two pair first-of-two (get-put-same (put [] pid v) parent l)
  told NoChild = two pair first-of-two (get-put-same (put [] pid v) parent l)

-- ---- the same of the bodies that are held

buried-is : (parent : ℕ) (o : Option ℕ) (bodies : Named Body)
    → bodies_of (bury_but parent o bodies)
    ≡ record (bodies_of bodies) { processes = buried parent o (numbered_of bodies.processes) }
unfolding buried
buried-is parent None bodies = refl
buried-is parent (Some q) bodies = by (nat_eq q parent)
  where
    by : (b : Bool)
        → bodies_of (if b then bodies else put_named bodies (Proc q) Gone)
        ≡ record (bodies_of bodies) {
          processes = if b then numbered_of bodies.processes else put (numbered_of bodies.processes) q model.Gone;
        }
    by true = refl
    by false = bodies-put bodies (Proc q) Gone

record LivesAs (o : Option Body) (row : Row) : Type 0 where
  its_row : code.Row
  is : o ≡ Some (Living its_row)
  same : row_of its_row ≡ row

living-is : (r s : Row) → Some (model.Living r) ≡ Some (model.Living s) → r ≡ s
living-is r s h = cc

lives-as : (o : Option Body) (row : Row) → option_map body_of o ≡ Some (model.Living row) → LivesAs o row
lives-as None row h = absurd (cc)
lives-as (Some (Living r)) row h = record { its_row = r; is = refl; same = living-is (row_of r) row h }
lives-as (Some (Ended e)) row h = absurd (cc)
lives-as (Some Gone) row h = absurd (cc)
lives-as (Some (Queue q)) row h = absurd (cc)
lives-as (Some (Set q)) row h = absurd (cc)
lives-as (Some Removed) row h = absurd (cc)

not-lives : (o : Option Body) (b : Body) → option_map body_of o ≡ Some (body_of b) → lives (Some b) ≡ false
    → lives o ≡ false
not-lives None b h dead = refl
not-lives (Some (Living r)) (Living s) h dead = dead
not-lives (Some (Living r)) (Ended e) h dead = absurd (cc)
not-lives (Some (Living r)) Gone h dead = absurd (cc)
not-lives (Some (Living r)) (Queue q) h dead = absurd (cc)
not-lives (Some (Living r)) (Set q) h dead = absurd (cc)
not-lives (Some (Living r)) Removed h dead = absurd (cc)
not-lives (Some (Ended e)) b h dead = refl
not-lives (Some Gone) b h dead = refl
not-lives (Some (Queue q)) b h dead = refl
not-lives (Some (Set q)) b h dead = refl
not-lives (Some Removed) b h dead = refl

module _ (old mid : Named Body) (parcel : Parcel) (t : IsTaken old parcel mid) where
  abbrev pids : List ℕ
  pids = map (λ e. e.0) t.bodies

  abbrev ending : Ends
  ending = ending_of parcel.call

  abbrev over_with : Option Call → model.Body → definition.Committed
  over_with waits parent =
      definition.committed parcel t.bodies waits parent
      (wakes_under parcel.pid ending (parent_with parcel.parent waits parent))

  made : (waits : Option Call)
      → commit_exit parcel t.bodies waits (body_of t.was) ≡ Some (over_with waits (body_of t.was))
  made waits = ap (λ (b : Bool). if b then Some (over_with waits (body_of t.was)) else None) t.lets_it

  held : get_named (bodies_of old) (Proc parcel.parent) ≡ Some (body_of t.was)
  held = bodies-get old (Proc parcel.parent) ∙ ap (option_map body_of) t.there

  -- ---- nobody is woken

  no-wakes : (parent : model.Body) → wakes_under parcel.pid ending (parent_with parcel.parent None parent) ≡ []
  no-wakes (model.Living row) = refl
  no-wakes parent = refl

  unwoken : (new : Named Body) (own : Option Reply) → own ≡ None → new ≡ mid → Commits old parcel None new own
  unwoken new own none same =
      record {
        bodies = t.bodies;
        parent = body_of t.was;
        committed = over_with None (body_of t.was);
        fits = t.fits;
        held = held;
        commits = made None;
        after = ap bodies_of same ∙ t.after
            ∙ sym (committed (bodies_of old) parcel t.bodies (over_with None (body_of t.was)) t.apart (body_of t.was)
            (made None));
        wakes = no-wakes (body_of t.was) ∙ ap (wakes_with parcel.parent) (sym none);
      }

  -- a parent that doesn't live isn't parked
  dead-waits : (child : Option ℕ) (was : Body) → lives (Some was) ≡ false
      → commit_exit parcel t.bodies (parked_on child) (body_of was) ≡ commit_exit parcel t.bodies None (body_of was)
  dead-waits child (Living row) dead = absurd (cc)
  dead-waits child (Ended e) dead = refl
  dead-waits child Gone dead = refl
  dead-waits child (Queue q) dead = refl
  dead-waits child (Set s) dead = refl
  dead-waits child Removed dead = refl

  unparked : (child : Option ℕ) (new : Named Body) (own : Option Reply) → lives (Some t.was) ≡ false
      → Commits old parcel None new own
      → Commits old parcel (Some child) new own
  unparked child new own dead c =
      let same : c.parent ≡ body_of t.was = some_same c.parent (body_of t.was) (sym c.held ∙ held)
      in let bodies_same : c.bodies ≡ t.bodies = some_same c.bodies t.bodies (sym c.fits ∙ t.fits)
      in record {
        bodies = t.bodies;
        parent = body_of t.was;
        committed = c.committed;
        fits = t.fits;
        held = held;
        commits = dead-waits child t.was dead
            ∙ sym (ap (λ (b : model.Body). commit_exit parcel t.bodies None b) same)
            ∙ sym (ap (λ (bs : Numbered model.Body). commit_exit parcel bs None c.parent) bodies_same)
            ∙ c.commits;
        after = c.after;
        wakes = c.wakes;
      }

  -- ---- what the deeds have of the parent

  abbrev held_before : Numbered model.Body
  held_before = numbered_of old.processes

  stays : get (put (put_each model.Gone held_before pids) parcel.pid model.Gone) parcel.parent
      ≡ get held_before parcel.parent
  stays =
      get-put-apart (put_each model.Gone held_before pids) parcel.pid parcel.parent model.Gone
      (flipped parcel.pid parcel.parent t.apart)
      ∙ each-out model.Gone held_before pids parcel.parent t.unused

  dead-stays : (b : Body) → lives (Some b) ≡ false
      → get (processes_after held_before pids parcel.pid parcel.parent (body_of b) ending) parcel.parent
      ≡ get held_before parcel.parent
  dead-stays (Living r) dead = absurd (cc)
  dead-stays (Ended e) dead = stays
  dead-stays Gone dead = stays
  dead-stays (Queue q) dead = stays
  dead-stays (Set s) dead = stays
  dead-stays Removed dead = stays

  dead-there : lives (Some t.was) ≡ false → option_map body_of (get_named mid (Proc parcel.parent))
      ≡ Some (body_of t.was)
  dead-there dead =
      sym (bodies-get mid (Proc parcel.parent))
      ∙ ap (λ (d : model.Deeds). get_named d (Proc parcel.parent)) t.after
      ∙ dead-stays t.was dead ∙ held

  living-there : (r : code.Row) → t.was ≡ Living r
      → option_map body_of (get_named mid (Proc parcel.parent))
      ≡ Some (model.Living (row_after (row_of r) parcel.pid ending))
  living-there r is =
      sym (bodies-get mid (Proc parcel.parent))
      ∙ ap (λ (d : model.Deeds). get_named d (Proc parcel.parent)) t.after
      ∙ ap (λ (b : Body).
      get (processes_after held_before pids parcel.pid parcel.parent (body_of b) ending) parcel.parent) is
      ∙ get-put-same (put (put_each model.Gone held_before pids) parcel.pid (kept_under (row_of r) ending))
      parcel.parent
      (model.Living (row_after (row_of r) parcel.pid ending))

  -- ---- the parent is woken

  module _ (r : code.Row) (is : t.was ≡ Living r) (child : Option ℕ) (new : Named Body) (own : Option Reply)
      (w : Wakes mid parcel.parent child new own) where
    abbrev row : Row
    row = row_of r

    abbrev came : Applied Row
    came = reaped row parcel.pid ending child

    abbrev kept : Process
    kept = process_after_end (ignores_children row) ending

    abbrev left : Process
    left = waiting.Living (parent_after_end (parked_in (parked_on child) row) parcel.pid ending)

    abbrev both_held : Numbered model.Body
    both_held = both (bodies_of old) pids parcel.pid parcel.parent t.apart kept left

    there : LivesAs (get_named mid (Proc parcel.parent)) (row_after row parcel.pid ending)
    there = lives-as (get_named mid (Proc parcel.parent)) (row_after row parcel.pid ending) (living-there r is)

    answers : Answered mid parcel.parent child (Living there.its_row) w.noted own
    answers = subst (λ (o : Option Body). AnswersIf mid parcel.parent child o w.noted own) there.is w.answers

    comes : record { left = model.Living came.left; own = came.own; wakes = came.wakes }
        ≡ alone (body_of answers.left) own
    comes = ap (λ (x : Row). answered (model.Living x) child) (sym there.same) ∙ answers.answers

    replies : came.own ≡ own
    replies = ap (λ (d : Applied model.Body). d.own) comes

    noted-is : bodies_of w.noted ≡ record (bodies_of old) { processes = both_held }
    noted-is =
        ap bodies_of answers.after
        ∙ bodies-put mid (Proc parcel.parent) answers.left
        ∙ ap (λ (b : model.Body). put_named (bodies_of mid) (Proc parcel.parent) b)
        (sym (ap (λ (d : Applied model.Body). d.left) comes) ∙ sym (parent-left row parcel.pid ending child))
        ∙ ap (λ (d : model.Deeds). put_named d (Proc parcel.parent) (whole_process (Some left)))
        (t.after
        ∙ ap (λ (b : Body).
        record (bodies_of old) {
          processes = processes_after held_before pids parcel.pid parcel.parent (body_of b) ending;
        }) is)
        ∙ ap (λ (bodies : Numbered model.Body). record (bodies_of old) { processes = bodies })
        (put-put (put (put_each model.Gone held_before pids) parcel.pid (kept_under row ending)) parcel.parent
        (model.Living (row_after row parcel.pid ending)) (whole_process (Some left))
        ∙ ap (λ (b : model.Body).
        put (put (put_each model.Gone held_before pids) parcel.pid b) parcel.parent (whole_process (Some left)))
        (sym (kept-whole (ignores_children row) ending)))

    abbrev found : Waited
    found = wait (bereft row parcel.pid ending child) child

    child-same : child_in own ≡ found_child found
    child-same =
        ap child_in (sym replies)
        ∙ its-child (row_after row parcel.pid ending) (wait (row_after row parcel.pid ending).family child)
        ∙ ap found_child (found-same row parcel.pid ending child)

    new-is : bodies_of new
        ≡ record (bodies_of old) { processes = buried parcel.parent (found_child found) both_held }
    new-is =
        ap bodies_of w.after
        ∙ buried-is parcel.parent (child_in own) w.noted
        ∙ ap (λ (d : model.Deeds). record d { processes = buried parcel.parent (child_in own) d.processes }) noted-is
        ∙ ap (λ (o : Option ℕ). record (bodies_of old) { processes = buried parcel.parent o both_held }) child-same

    lets_living : lets_end parcel.pid (model.Living row) ≡ true
    lets_living = sym (ap (λ (b : Body). lets_end parcel.pid (body_of b)) is) ∙ t.lets_it

    woken : Commits old parcel (Some child) new own
    woken =
        record {
          bodies = t.bodies;
          parent = model.Living row;
          committed = over_with (parked_on child) (model.Living row);
          fits = t.fits;
          held = held ∙ ap (λ (b : Body). Some (body_of b)) is;
          commits = ap (λ (b : Bool). if b then Some (over_with (parked_on child) (model.Living row)) else None)
              lets_living;
          after = new-is
              ∙ sym (told (bodies_of old) pids parcel.pid parcel.parent t.apart kept left found);
          wakes = ap (wakes_of_parent parcel.parent) (sym (found-same row parcel.pid ending child))
              ∙ its-wakes (row_after row parcel.pid ending) parcel.parent
              (wait (row_after row parcel.pid ending).family child)
              ∙ ap (wakes_with parcel.parent) replies;
        }

  -- ---- whether or not it is

  dead-parent : lives (Some t.was) ≡ false → (child : Option ℕ) (new : Named Body) (own : Option Reply)
      → WakesIf mid parcel.parent child (lives (get_named mid (Proc parcel.parent))) new own
      → Commits old parcel (Some child) new own
  dead-parent dead child new own w =
      let off : lives (get_named mid (Proc parcel.parent)) ≡ false =
      not-lives (get_named mid (Proc parcel.parent)) t.was (dead-there dead) dead
      in let none : WakesIf mid parcel.parent child false new own =
      subst (λ (b : Bool). WakesIf mid parcel.parent child b new own) off w
      in unparked child new own dead (unwoken new own none.0 none.1)

  by-parent : (b : Body) → t.was ≡ b → (child : Option ℕ) (new : Named Body) (own : Option Reply)
      → WakesIf mid parcel.parent child (lives (get_named mid (Proc parcel.parent))) new own
      → Commits old parcel (Some child) new own
  by-parent (Living r) is child new own w =
      let l = lives-as (get_named mid (Proc parcel.parent)) (row_after (row_of r) parcel.pid ending) (living-there r is)
      in woken r is child new own
      (subst (λ (b : Bool). WakesIf mid parcel.parent child b new own) (ap lives l.is) w)
  by-parent (Ended e) is child new own w = dead-parent (ap (λ (b : Body). lives (Some b)) is) child new own w
  by-parent Gone is child new own w = dead-parent (ap (λ (b : Body). lives (Some b)) is) child new own w
  by-parent (Queue q) is child new own w = dead-parent (ap (λ (b : Body). lives (Some b)) is) child new own w
  by-parent (Set s) is child new own w = dead-parent (ap (λ (b : Body). lives (Some b)) is) child new own w
  by-parent Removed is child new own w = dead-parent (ap (λ (b : Body). lives (Some b)) is) child new own w

  pub comes-to : (awaits : Option (Option ℕ)) (new : Named Body) (own : Option Reply)
      → WakesParent mid parcel.parent awaits new own → Commits old parcel awaits new own
  comes-to None new own w = unwoken new own w.0 w.1
  comes-to (Some child) new own w = by-parent t.was refl child new own w
