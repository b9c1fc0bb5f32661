-- The deeds once a parcel is taken, by number.
use Rattle.std.proofs.Common.{◌≡◌, ◌∙◌, ℕ, Bool, true, false, not, ◌&&◌, ◌||◌, nat_eq, List, [], ◌∷◌, ◌++◌, map, fold, Option, Some, None, Result, Ok, Err, IfOk, OnOk, is_some, refl, sym, ap, subst, arith}
use Rattle.std.specs.Prelude.{if◌then◌else◌}
use Rattle.std.specs.List.{list_any, IsDistinct}
use Rattle.std.specs.Option.{option_and_then, option_map}
use Rattle.pico_base.specs.declared.numbers.Name.{Name}
use Rattle.pico_base.specs.declared.numbers.Name.TheVariants.{Proc}
use Rattle.pico_base.specs.declared.reply.Ending.{Ending as Ends}
use Rattle.rpc_frame.specs.declared.deed.PackedDeed.{PackedDeed}
use Rattle.rpc_frame.specs.declared.deed.Parcel.{Parcel}
use Rattle.number_maps.specs.Maps.{Numbered, get, put, is_used}
use Rattle.number_maps.proofs.Changes.{put-put}
use Rattle.number_maps.proofs.LookUps.{get-put-same, get-put-apart}
use Rattle.number_maps.proofs.Order.{eq-same, same-from-nat_eq}
use Rattle.kernel_model.specs.Row.{ignores_children, lists}
use Rattle.kernel_model.specs.Row as kernel
use Rattle.kernel_model.specs.ProcessCalls.{process_after_end}
use Rattle.node_model.specs.Kinds.{Named, get_named, is_same_name, number_of, put_all, put_named}
use Rattle.node_model.specs.Bodies as model
use Rattle.node_model.specs.Parcels.{ending_of, fitting_bodies, lets_end}
use Rattle.deed_box.specs.Deeds.{AreAbsent}
use Rattle.deed_box.specs.Packing.{names_of}
use Rattle.serve_laws.proofs.Puts.{put_each, put-apart, each-in, each-apart, neither}
use Rattle.serve_laws.proofs.Committed.{kept_under, processes_after}
use Rattle.node_serve.specs.declared.body.Row.{Row}
use Rattle.node_serve.specs.declared.body.Body.{Body}
use Rattle.node_serve.specs.declared.body.Body.TheVariants.{Living, Ended, Gone, Queue, Set, Removed}
use Rattle.node_serve.specs.Bodies.{bodies_of, body_of, numbered_of, row_of}
use Rattle.node_serve.specs.Ending.{Notes, NotesEnd, Takes, child_after, fits_as_read, gone_held, keeps, kept_as, lets, lists_child, parent_after, replace_held, row_after}
use Rattle.node_serve.proofs.KernelLemmas.{bodies-get, numbered-put}
use Rattle.node_serve.proofs.Parcels.{AllKnown, Apart, FitsAsRead, Known, all-known, known-rise, numbered, numbers, parcel-fits, read-parts, rise-apart}

some_same : {A : Type 0} (x y : A) → Some x ≡ Some y → x ≡ y
some_same x y h = cc

differ : {B : Type 0} → false ≡ true → B
differ h = absurd (cc)

flip : (a b : ℕ) → nat_eq a b ≡ false → nat_eq b a ≡ false
flip a b h = grind arith

-- ---- deeds that are put one after another

put_pairs : Numbered Body → List (Name × Body) → Numbered Body
put_pairs m [] = m
put_pairs m (d ∷ ds) = put_pairs (put m (number_of d.0) d.1) ds

pairs-apart : (m : Numbered Body) (ds : List (Name × Body)) (k : ℕ) (w : Body) → is_used (numbers ds) k ≡ false
    → put_pairs (put m k w) ds ≡ put (put_pairs m ds) k w
unfolding put_pairs
pairs-apart m [] k w unused = refl
pairs-apart m (d ∷ ds) k w unused =
    let apart = neither (nat_eq k (number_of d.0)) (is_used (numbers ds) k) unused
    in ap (λ (r : Numbered Body). put_pairs r ds) (put-apart m k (number_of d.0) w d.1 apart.0)
    ∙ pairs-apart (put m (number_of d.0) d.1) ds k w apart.1

pairs-out : (m : Numbered Body) (ds : List (Name × Body)) (q : ℕ) → is_used (numbers ds) q ≡ false
    → get (put_pairs m ds) q ≡ get m q
unfolding put_pairs
pairs-out m [] q unused = refl
pairs-out m (d ∷ ds) q unused =
    let apart = neither (nat_eq q (number_of d.0)) (is_used (numbers ds) q) unused
    in pairs-out (put m (number_of d.0) d.1) ds q apart.1 ∙ get-put-apart m (number_of d.0) q d.1 apart.0

-- what is written over again might not have been written
overwritten : (v : Body) (m : Numbered Body) (ds : List (Name × Body)) → Apart (numbers ds)
    → put_each v (put_pairs m ds) (numbers ds) ≡ put_each v m (numbers ds)
unfolding put_pairs Apart
overwritten v m [] apart = refl
overwritten v m (d ∷ ds) apart =
    let n : ℕ = number_of d.0
    in ap (λ (r : Numbered Body). put_each v (put r n v) (numbers ds)) (pairs-apart m ds n d.1 apart.0)
    ∙ ap (λ (r : Numbered Body). put_each v r (numbers ds))
    (put-put (put_pairs m ds) n d.1 v ∙ sym (pairs-apart m ds n v apart.0))
    ∙ overwritten v (put m n v) ds apart.1

-- ---- who is held

AllHeld : Numbered Body → List ℕ → Type 0
AllHeld m ns = (q : ℕ) → is_used ns q ≡ true → is_some (get m q) ≡ true

some-put : (m : Numbered Body) (k q : ℕ) (v : Body) → is_some (get m q) ≡ true → is_some (get (put m k v) q) ≡ true
some-put m k q v there = by (nat_eq q k) refl
  where
    by : (b : Bool) → nat_eq q k ≡ b → is_some (get (put m k v) q) ≡ true
    by true is = ap is_some (ap (get (put m k v)) (same-from-nat_eq q k is) ∙ get-put-same m k v)
    by false is = ap is_some (get-put-apart m k q v is) ∙ there

some-pairs : (m : Numbered Body) (ds : List (Name × Body)) (q : ℕ) → is_some (get m q) ≡ true
    → is_some (get (put_pairs m ds) q) ≡ true
unfolding put_pairs
some-pairs m [] q there = there
some-pairs m (d ∷ ds) q there =
    some-pairs (put m (number_of d.0) d.1) ds q (some-put m (number_of d.0) q d.1 there)

pairs-held : (m : Numbered Body) (ds : List (Name × Body)) → AllHeld (put_pairs m ds) (numbers ds)
unfolding put_pairs AllHeld
pairs-held m [] q used = differ used
pairs-held m (d ∷ ds) q used =
    by (nat_eq q (number_of d.0)) refl used (pairs-held (put m (number_of d.0) d.1) ds q)
  where
    by : (b : Bool) → nat_eq q (number_of d.0) ≡ b → (b || is_used (numbers ds) q) ≡ true
        → (is_used (numbers ds) q ≡ true → is_some (get (put_pairs (put m (number_of d.0) d.1) ds) q) ≡ true)
        → is_some (get (put_pairs (put m (number_of d.0) d.1) ds) q) ≡ true
    by true is h later =
        some-pairs (put m (number_of d.0) d.1) ds q
        (ap is_some (ap (get (put m (number_of d.0) d.1)) (same-from-nat_eq q (number_of d.0) is)
        ∙ get-put-same m (number_of d.0) d.1))
    by false is h later = later h

held-put : (m : Numbered Body) (ns : List ℕ) (k : ℕ) (v : Body) → AllHeld m ns → AllHeld (put m k v) ns
unfolding AllHeld
held-put m ns k v held q used = some-put m k q v (held q used)

held-first : (m : Numbered Body) (n : ℕ) (ns : List ℕ) → AllHeld m (n ∷ ns) → is_some (get m n) ≡ true
unfolding AllHeld
held-first m n ns held = held n (rw (eq-same n) refl)

held-rest : (m : Numbered Body) (n : ℕ) (ns : List ℕ) → AllHeld m (n ∷ ns) → AllHeld m ns
unfolding AllHeld
held-rest m n ns held q used = held q (or-right (nat_eq q n) (is_used ns q) used)
  where
    or-right : (a b : Bool) → b ≡ true → (a || b) ≡ true
    or-right true b h = refl
    or-right false b h = h

-- ---- the deeds of a parcel

with_processes : Named Body → Numbered Body → Named Body
with_processes m bodies = record m { processes = bodies }

module _ (parcel : Parcel) where
  all-put : (old : Named Body) (ds : List (Name × Body)) (ps : List PackedDeed) → AllKnown parcel ds ps
      → put_all old ds ≡ record old { processes = put_pairs old.processes ds }
  unfolding put_pairs AllKnown
  all-put old [] [] all = refl
  all-put old [] (p ∷ ps) all = absurd all
  all-put old (d ∷ ds) [] all = absurd all
  all-put old (d ∷ ds) (p ∷ ps) all =
      let k = all.0
      in ap (λ (name : Name). put_all (put_named old name d.1) ds) k.same
      ∙ all-put (put_named old (Proc k.number) d.1) ds ps all.1
      ∙ ap (λ (name : Name). record old { processes = put_pairs (put old.processes (number_of name) d.1) ds })
      (sym k.same)

  all-gone : (m : Named Body) (ds : List (Name × Body)) (ps : List PackedDeed) → AllKnown parcel ds ps
      → AllHeld m.processes (numbers ds)
      → fold gone_held m (names_of ps) ≡ record m { processes = put_each Gone m.processes (numbers ds) }
  unfolding AllKnown
  all-gone m [] [] all held = refl
  all-gone m [] (p ∷ ps) all held = absurd all
  all-gone m (d ∷ ds) [] all held = absurd all
  all-gone m (d ∷ ds) (p ∷ ps) all held =
      let k = all.0
      in let n : ℕ = number_of d.0
      in let at : p.name ≡ Proc n = k.name ∙ sym (ap Proc (ap number_of k.same))
      in ap (λ (name : Name). fold gone_held (gone_held m name) (names_of ps)) at
      ∙ ap (λ (b : Bool). fold gone_held (if b then put_named m (Proc n) Gone else m) (names_of ps))
      (held-first m.processes n (numbers ds) held)
      ∙ all-gone (put_named m (Proc n) Gone) ds ps all.1
      (held-put m.processes (numbers ds) n Gone (held-rest m.processes n (numbers ds) held))

  own-used : (ds : List (Name × Body)) (ps : List PackedDeed) → AllKnown parcel ds ps
      → list_any (is_same_name (Proc parcel.pid)) (names_of ps) ≡ true → is_used (numbers ds) parcel.pid ≡ true
  unfolding AllKnown
  own-used [] [] all h = differ h
  own-used [] (p ∷ ps) all h = absurd all
  own-used (d ∷ ds) [] all h = absurd all
  own-used (d ∷ ds) (p ∷ ps) all h =
      let k = all.0
      in let at : p.name ≡ Proc (number_of d.0) = k.name ∙ sym (ap Proc (ap number_of k.same))
      in by (nat_eq parcel.pid (number_of d.0))
      (sym (ap (λ (name : Name).
      is_same_name (Proc parcel.pid) name || list_any (is_same_name (Proc parcel.pid)) (names_of ps)) at) ∙ h)
      (own-used ds ps all.1)
    where
      by : (b : Bool) → (b || list_any (is_same_name (Proc parcel.pid)) (names_of ps)) ≡ true
          → (list_any (is_same_name (Proc parcel.pid)) (names_of ps) ≡ true → is_used (numbers ds) parcel.pid ≡ true)
          → (b || is_used (numbers ds) parcel.pid) ≡ true
      by true any later = refl
      by false any later = later any

  held-apart : (old : Named Body) (ds : List (Name × Body)) (ps : List PackedDeed) (q : ℕ) (w : Body)
      → AllKnown parcel ds ps → AreAbsent old (names_of ps) → get old.processes q ≡ Some w
      → is_used (numbers ds) q ≡ false
  unfolding AllKnown
  held-apart old [] [] q w all absent there = refl
  held-apart old [] (p ∷ ps) q w all absent there = absurd all
  held-apart old (d ∷ ds) [] q w all absent there = absurd all
  held-apart old (d ∷ ds) (p ∷ ps) q w all absent there =
      let k = all.0
      in let at : p.name ≡ Proc (number_of d.0) = k.name ∙ sym (ap Proc (ap number_of k.same))
      in let none : get old.processes (number_of d.0) ≡ None = sym (ap (get_named old) at) ∙ absent.0
      in by (nat_eq q (number_of d.0)) refl none (held-apart old ds ps q w all.1 absent.1 there)
    where
      by : (b : Bool) → nat_eq q (number_of d.0) ≡ b → get old.processes (number_of d.0) ≡ None
          → is_used (numbers ds) q ≡ false → (b || is_used (numbers ds) q) ≡ false
      by false is none later = later
      by true is none later =
          let no : Some w ≡ None = sym there ∙ ap (get old.processes) (same-from-nat_eq q (number_of d.0) is) ∙ none
          in absurd (cc)

-- ---- all of them

numbered-each : (v : Body) (m : Numbered Body) (ns : List ℕ)
    → numbered_of (put_each v m ns) ≡ put_each (body_of v) (numbered_of m) ns
numbered-each v m [] = refl
numbered-each v m (n ∷ ns) =
    numbered-each v (put m n v) ns
    ∙ ap (λ (r : Numbered model.Body). put_each (body_of v) r ns) (numbered-put m n v)

numbers-of : (ds : List (Name × Body)) → map (λ e. e.0) (numbered ds) ≡ numbers ds
numbers-of [] = refl
numbers-of (d ∷ ds) = ap (λ (ns : List ℕ). number_of d.0 ∷ ns) (numbers-of ds)

kept-same : (row : kernel.Row) (ending : Ends) → kept_as (ignores_children row) ending ≡ kept_under row ending
kept-same row ending = by (ignores_children row)
  where
    by : (b : Bool) → kept_as b ending ≡ model.process_body (Some (process_after_end b ending))
    by true = refl
    by false = refl

-- the parent, whose deed is held
record Parents (child : ℕ) (o : Option Body) : Type 0 where
  pub was : Body
  pub there : o ≡ Some was
  pub lets_it : lets_end child (body_of was) ≡ true

parent-there : (child : ℕ) (o : Option Body) → lets child o ≡ true → Parents child o
parent-there child None h = differ h
parent-there child (Some was) h = record { was = was; there = refl; lets_it = h }

module _ (old new : Named Body) (parcel : Parcel) (t : Takes old parcel new)
    (all : AllKnown parcel t.deeds parcel.deeds) (f : FitsAsRead parcel) (apart : Apart (numbers t.deeds))
    (was : Body) (there : get old.processes parcel.parent ≡ Some was)
    (unused : is_used (numbers t.deeds) parcel.parent ≡ false)
    (used : is_used (numbers t.deeds) parcel.pid ≡ true) where
  abbrev nums : List ℕ
  nums = numbers t.deeds

  abbrev ending : Ends
  ending = ending_of parcel.call

  abbrev gone : Numbered Body
  gone = put_each Gone old.processes nums

  differs : nat_eq parcel.parent parcel.pid ≡ false
  differs = by (nat_eq parcel.parent parcel.pid) refl
    where
      by : (b : Bool) → nat_eq parcel.parent parcel.pid ≡ b → nat_eq parcel.parent parcel.pid ≡ false
      by false is = is
      by true is =
          differ (sym (subst (λ (q : ℕ). is_used nums q ≡ false) (same-from-nat_eq parcel.parent parcel.pid is) unused)
          ∙ used)

  -- what was put first
  first : put_all old t.deeds ≡ record old { processes = put_pairs old.processes t.deeds }
  first = all-put parcel old t.deeds parcel.deeds all

  parent-first : get_named (put_all old t.deeds) (Proc parcel.parent) ≡ Some was
  parent-first =
      ap (λ (m : Named Body). get_named m (Proc parcel.parent)) first
      ∙ pairs-out old.processes t.deeds parcel.parent unused ∙ there

  -- what is left, by what was noted
  left-by : (bodies : Numbered Body) → t.noted ≡ record old { processes = bodies } → AllHeld bodies nums
      → new ≡ record old { processes = put (put_each Gone bodies nums) parcel.pid t.kept }
  left-by bodies is held =
      t.after
      ∙ ap (λ (m : Named Body). replace_held (fold gone_held m (names_of parcel.deeds)) (Proc parcel.pid) t.kept) is
      ∙ ap (λ (m : Named Body). replace_held m (Proc parcel.pid) t.kept)
      (all-gone parcel (record old { processes = bodies }) t.deeds parcel.deeds all held)
      ∙ ap (λ (o : Option Body).
      if is_some o
      then record old { processes = put (put_each Gone bodies nums) parcel.pid t.kept }
      else record old { processes = put_each Gone bodies nums })
      (each-in Gone bodies nums parcel.pid used)

  abbrev After : model.Body → Type 0
  After parent =
      numbered_of new.processes
      ≡ processes_after (numbered_of old.processes) nums parcel.pid parcel.parent parent ending

  -- nobody lists the process
  unlisted : keeps (put_all old t.deeds) parcel.parent parcel.pid ≡ false
      → new ≡ record old { processes = put gone parcel.pid Gone }
  unlisted off =
      let same : t.noted ≡ record old { processes = put_pairs old.processes t.deeds } = t.notes.unchanged off ∙ first
      in left-by (put_pairs old.processes t.deeds) same (pairs-held old.processes t.deeds)
      ∙ ap (λ (m : Numbered Body). record old { processes = put m parcel.pid t.kept })
      (overwritten Gone old.processes t.deeds apart)
      ∙ ap (λ (b : Body). record old { processes = put gone parcel.pid b }) (t.notes.gone off)

  -- its parent lists it
  listed : (on : keeps (put_all old t.deeds) parcel.parent parcel.pid ≡ true)
      → new ≡ record old {
        processes = put (put gone parcel.pid t.kept) parcel.parent (t.notes.noted on).left;
      }
  listed on =
      let n = t.notes.noted on
      in let pairs : Numbered Body = put_pairs old.processes t.deeds
      in let same : t.noted ≡ record old { processes = put pairs parcel.parent n.left } =
      n.after ∙ ap (λ (m : Named Body). put_named m (Proc parcel.parent) n.left) first
      in left-by (put pairs parcel.parent n.left) same
      (held-put pairs nums parcel.parent n.left (pairs-held old.processes t.deeds))
      ∙ ap (λ (m : Numbered Body). record old { processes = put m parcel.pid t.kept })
      (each-apart Gone n.left pairs nums parcel.parent unused
      ∙ ap (λ (m : Numbered Body). put m parcel.parent n.left) (overwritten Gone old.processes t.deeds apart))
      ∙ ap (λ (m : Numbered Body). record old { processes = m })
      (put-apart gone parcel.parent parcel.pid n.left t.kept differs)

  -- as the definitions see it
  over : (body : model.Body) → keeps (put_all old t.deeds) parcel.parent parcel.pid ≡ false
      → bodies_of new
      ≡ record (bodies_of old) {
        processes = put (put_each model.Gone (numbered_of old.processes) nums) parcel.pid model.Gone;
      }
  over body off =
      ap bodies_of (unlisted off)
      ∙ ap (λ (m : Numbered model.Body). record (bodies_of old) { processes = m })
      (numbered-put gone parcel.pid Gone
      ∙ ap (λ (m : Numbered model.Body). put m parcel.pid model.Gone) (numbered-each Gone old.processes nums))

  under : (row : kernel.Row) → body_of was ≡ model.Living row → lists row.family parcel.pid ≡ true
      → keeps (put_all old t.deeds) parcel.parent parcel.pid ≡ true
      → bodies_of new
      ≡ record (bodies_of old) {
        processes = processes_after (numbered_of old.processes) nums parcel.pid parcel.parent (model.Living row) ending;
      }
  under row is lists_it on =
      let n = t.notes.noted on
      in let was_is : n.was ≡ was = some_same n.was was (sym n.there ∙ parent-first)
      in let body_is : body_of n.was ≡ model.Living row = ap body_of was_is ∙ is
      in let left : body_of n.left ≡ model.Living (row_after row parcel.pid ending) =
      n.notes ∙ ap (λ (b : model.Body). parent_after b parcel.pid ending) body_is
      ∙ ap (λ (b : Bool). if b then model.Living (row_after row parcel.pid ending) else model.Living row) lists_it
      in let kept : body_of t.kept ≡ kept_under row ending =
      n.turns ∙ ap (λ (b : model.Body). child_after b parcel.pid ending) body_is
      ∙ ap (λ (b : Bool). if b then kept_as (ignores_children row) ending else model.Gone) lists_it
      ∙ kept-same row ending
      in ap bodies_of (listed on)
      ∙ ap (λ (m : Numbered model.Body). record (bodies_of old) { processes = m })
      (numbered-put (put gone parcel.pid t.kept) parcel.parent n.left
      ∙ ap (λ (m : Numbered model.Body). put m parcel.parent (body_of n.left))
      (numbered-put gone parcel.pid t.kept
      ∙ ap (λ (m : Numbered model.Body). put m parcel.pid (body_of t.kept)) (numbered-each Gone old.processes nums))
      ∙ ap (λ (b : model.Body).
      put (put (put_each model.Gone (numbered_of old.processes) nums) parcel.pid b) parcel.parent (body_of n.left)) kept
      ∙ ap (λ (b : model.Body).
      put (put (put_each model.Gone (numbered_of old.processes) nums) parcel.pid (kept_under row ending)) parcel.parent
      b)
      left)

  keeps-is : (body : Body) → was ≡ body
      → keeps (put_all old t.deeds) parcel.parent parcel.pid ≡ lists_child parcel.pid (Some (body_of body))
  keeps-is body is =
      ap (λ (o : Option Body). lists_child parcel.pid (option_map body_of o)) (parent-first ∙ ap Some is)

  -- the deeds afterwards, by the parent's body
  stands : (body : Body) → was ≡ body → lets_end parcel.pid (body_of body) ≡ true
      → bodies_of new
      ≡ record (bodies_of old) {
        processes = processes_after (numbered_of old.processes) nums parcel.pid parcel.parent (body_of body) ending;
      }
  stands (Living row) is lets_it =
      under (row_of row) (ap body_of is) lets_it (keeps-is (Living row) is ∙ lets_it)
  stands (Ended e) is lets_it = over (model.Ended e) (keeps-is (Ended e) is)
  stands Gone is lets_it = over model.Gone (keeps-is Gone is)
  stands (Queue q) is lets_it = over (model.AQueue q) (keeps-is (Queue q) is)
  stands (Set s) is lets_it = over (model.ASet s) (keeps-is (Set s) is)
  stands Removed is lets_it = over model.Removed (keeps-is Removed is)

-- A parcel is taken where it may be, of a parent that isn't parked: the deeds are those of an exit that is carried out.
pub record IsTaken (old : Named Body) (parcel : Parcel) (new : Named Body) : Type 0 where
  pub bodies : Numbered model.Body
  pub was : Body
  pub fits : fitting_bodies (bodies_of old) parcel ≡ Some bodies
  pub there : get old.processes parcel.parent ≡ Some was
  pub lets_it : lets_end parcel.pid (body_of was) ≡ true
  pub apart : nat_eq parcel.pid parcel.parent ≡ false
  pub unused : is_used (map (λ e. e.0) bodies) parcel.parent ≡ false
  pub after : bodies_of new
      ≡ record (bodies_of old) {
        processes = processes_after (numbered_of old.processes) (map (λ e. e.0) bodies) parcel.pid parcel.parent
            (body_of was) (ending_of parcel.call);
      }

-- so it is for a parcel that fits as it is read, where the parent lets it end and none of its deeds is here
pub takes-alone : (old new : Named Body) (parcel : Parcel)
    → lets parcel.pid (get_named old (Proc parcel.parent)) ≡ true
    → AreAbsent old (names_of parcel.deeds) → fits_as_read parcel ≡ true → Takes old parcel new
    → IsTaken old parcel new
takes-alone old new parcel lets_it absent fits t =
    let f = read-parts parcel fits
    in let p = parent-there parcel.pid (get_named old (Proc parcel.parent)) lets_it
    in let all = all-known parcel t.deeds parcel.deeds t.packed f.each
    in let unused : is_used (numbers t.deeds) parcel.parent ≡ false =
    held-apart parcel old t.deeds parcel.deeds parcel.parent p.was all absent p.there
    in let used : is_used (numbers t.deeds) parcel.pid ≡ true = own-used parcel t.deeds parcel.deeds all f.own
    in let apart : Apart (numbers t.deeds) =
    rise-apart (numbers t.deeds) (known-rise parcel t.deeds parcel.deeds all f.rises)
    in record {
      bodies = numbered t.deeds;
      was = p.was;
      fits = parcel-fits parcel old t.deeds all absent f;
      there = p.there;
      lets_it = p.lets_it;
      apart = flip parcel.parent parcel.pid (differs old new parcel t all f apart p.was p.there unused used);
      unused = ap (λ (ns : List ℕ). is_used ns parcel.parent) (numbers-of t.deeds) ∙ unused;
      after = stands old new parcel t all f apart p.was p.there unused used p.was refl p.lets_it
          ∙ ap (λ (ns : List ℕ).
          record (bodies_of old) {
            processes = processes_after (numbered_of old.processes) ns parcel.pid parcel.parent (body_of p.was)
                (ending_of parcel.call);
          }) (sym (numbers-of t.deeds));
    }

-- what holds of an answer that was handed on
pub on-ok : {X E : Type 0} {P Q : Type 0} (r : Result X E) → (P → Q) → OnOk r P → OnOk r Q
on-ok (Ok x) f h = f h
on-ok (Err e) f h = tt

-- what follows from the value and from the success together holds of a value that was handed on
pub if-ok-both : {X E : Type 0} (P : Type 0) (Q R : X → Type 0) (r : Result X E) → ((x : X) → Q x → P → R x)
    → OnOk r P → IfOk r Q → IfOk r R
if-ok-both P Q R (Ok x) f h g = f x g h
if-ok-both P Q R (Err e) f h g = tt
