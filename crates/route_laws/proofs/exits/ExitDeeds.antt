-- What a node has once an exit was carried out there: the parcel's names and the parent's have the next kernel's parts,
-- and all other deeds are as they were; the node holds what it should, and deeds are where they may be.
use Rattle.std.proofs.Common.{◌≡◌, ◌≢◌, ◌⊎◌, ℕ, ◌<◌, Bool, true, false, ◌||◌, if◌then◌else◌, List, [], ◌∷◌, nat_eq, Option, Some, None, is_some, Contains, refl, ap, sym, subst, ◌∙◌, inl, inr, arith}
use Rattle.std.proofs.lemmas.Bool.{cases_eq, eq-eqb, ne_eqb, false≢true}
use Rattle.pico_base.specs.declared.call.Call.{Call}
use Rattle.pico_base.specs.declared.numbers.Name.{Name}
use Rattle.pico_base.specs.declared.numbers.Name.TheVariants.{Proc, Msg, Sem}
use Rattle.pico_base.specs.declared.reply.Ending.{Ending}
use Rattle.pico_base.specs.declared.reply.Reply.TheVariants as replies
use Rattle.pico_base.specs.declared.script.Script.{Script}
use Rattle.rpc_frame.specs.declared.deed.Parcel.{Parcel}
use Rattle.number_maps.specs.Maps.{Numbered, get}
use Rattle.number_maps.proofs.LookUps.{get-first, get-later}
use Rattle.kernel_model.specs.Row.{Alive, Row, ended_child}
use Rattle.kernel_model.specs.Kernel.{Kernel, Process, living_at}
use Rattle.kernel_model.specs.Kernel as kernel
use Rattle.kernel_model.specs.Effect.{reply_alone}
use Rattle.entry_laws.specs.Entering.{HasRow, IsChildIn}
use Rattle.entry_laws.proofs.Bodies.{body-living, living-body}
use Rattle.entry_laws.proofs.Ends.{among-kept}
use Rattle.entry_laws.proofs.Kin.{kept-among}
use Rattle.entry_laws.proofs.Numbers.{process-there}
use Rattle.entry_laws.proofs.Others.{others-lived, others-still-may}
use Rattle.node_model.specs.declared.held.Held.{Held}
use Rattle.node_model.specs.Kinds.{get_named, none_named}
use Rattle.node_model.specs.Directory.{has_deed_of}
use Rattle.node_model.specs.Bodies.{Body, Living as LivingBody, Gone, Deeds, body_in, process_body}
use Rattle.node_model.specs.Parcels.{ending_of}
use Rattle.serve_laws.specs.Ends.{IsEnded, is_among, is_brought, concerns}
use Rattle.world_model.specs.Node.{Node, Stage, Unborn, Living, Leaving, Left, Over}
use Rattle.world_model.specs.World.{World}
use Rattle.world_laws.specs.Places.{DeedPlace, Unmade, InTable, InCheckpoint, Beside}
use Rattle.world_laws.specs.Sights.{node_of, stage_of, is_born_in}
use Rattle.world_laws.specs.Names.{NameHolds, name_sight, forker}
use Rattle.world_laws.specs.Families.{NodeHolds, HoldsIn, HoldsRow, FamilyHolds, IsWhereFor, IsWithParent, RestsBelow, checkpoints_to}
use Rattle.world_laws.specs.Invariant.{process_deed, HoldsOwing}
use Rattle.world_laws.specs.Deeds.{DeedsAreRead}
use Rattle.world_laws.proofs.NameFacts.{IsHeldAt, held-there}
use Rattle.world_laws.specs.Cancels.{Owing}
use Rattle.rule_laws.proofs.ends.RecallAlls.{deeds_at}
use Rattle.rule_laws.proofs.ends.Taken.{each_with}
use Rattle.route_laws.proofs.exits.DeedMoves.{ComesAsBefore, deed_by, together-by, comes-by}
use Rattle.route_laws.proofs.exits.Parcels.{HasParcel, IsOnItsWay, bodies, part, has-body, own-in-parcel, parcel-forked, in-parcel-made, is-used-there, low-node, not-first, living-own}
use Rattle.route_laws.proofs.exits.EndLeaves.{EndLeaves, RestsAfter, end-dead}
use Rattle.route_laws.proofs.exits.Exits.{end_row, parent_body, exit_is, next, deeds_then, places_then, exit-leaves, none-here, parent-here, parent-not-in, pid-is, parent-is, own-row, gets, child-in}
use Rattle.route_laws.proofs.exits.Parts.{process-part}

some-same : {A : Type 0} {u v : A} → Some u ≡ Some v → u ≡ v
some-same e = cc

none-is-some : {A : Type 0} (a : A) → None ≡ Some a → ⊥
none-is-some a e = cc

each-some : (f : ℕ → Body) (m : Numbered Body) (q : ℕ) → is_some (get (each_with f m) q) ≡ is_some (get m q)
each-some f [] q = refl
each-some f (e ∷ m) q =
    elim (cases_eq q e.0) [
      | inl g ↦ ap is_some (get-first (e.0, f e.0) (each_with f m) q g) ∙ sym (ap is_some (get-first e m q g))
      | inr d ↦
          ap is_some (get-later (e.0, f e.0) (each_with f m) q d) ∙ each-some f m q
          ∙ sym (ap is_some (get-later e m q d))
    ]

or-second : (a t : Bool) → t ≡ true → (a || t) ≡ true
or-second true t h = refl
or-second false t h = h

three-false : (p q r : Bool) → p ≡ false → q ≡ false → r ≡ false → (p || (q || r)) ≡ false
three-false p q r e1 e2 e3 = rw (e1, e2, e3) refl

nothing-at : (m : Name) → get_named {V = Body} none_named m ≡ None
nothing-at (Proc q) = refl
nothing-at m = refl

module _ (script : Script) (w : World) (hand : List Held) {owes : Owing} (b : Beside)
    (holds : HoldsOwing script w hand owes b)
    (parcel : Parcel) (c : ℕ) (call : Call) (place : DeedPlace)
    (parcel_is : HasParcel script w b parcel c call place) (reads : DeedsAreRead b.kernel b.body) (x : ℕ)
    (parent_at : b.deed (Proc parcel.parent) ≡ InTable x) where
  abbrev k : Kernel
  k = b.kernel

  abbrev deeds : Deeds
  deeds = deeds_at w x

  abbrev its : Numbered Body
  its = bodies script w hand b holds parcel c call place parcel_is

  abbrev of : ℕ → Body
  of = part script w hand b holds parcel c call place parcel_is

  abbrev row : Row
  row = end_row script w hand b holds parcel c call place parcel_is reads x parent_at

  abbrev after : Kernel
  after = next script w hand b holds parcel c call place parcel_is reads x parent_at

  abbrev held_then : Deeds
  held_then = deeds_then script w hand b holds parcel c call place parcel_is reads x parent_at

  is-ended : IsEnded k deeds parcel (each_with of its) row held_then after (reply_alone replies.Ended)
  is-ended =
      let e = exit_is script w hand b holds parcel c call place parcel_is reads x parent_at
      in e.ended

  abbrev leaves : EndLeaves k b.places parcel.pid parcel.parent row
      (parent_body script w hand b holds parcel c call place parcel_is reads x parent_at) (ending_of parcel.call) after
      (places_then script w hand b holds parcel c call place parcel_is reads x parent_at)
  leaves = exit-leaves script w hand b holds parcel c call place parcel_is reads x parent_at

  pid-of : parcel.pid ≡ b.pids c
  pid-of = pid-is script w hand b holds parcel c call place parcel_is reads x parent_at

  on_way : IsOnItsWay c place
  on_way = parcel_is.on_way

  own-in : has_deed_of (Proc parcel.pid) parcel ≡ true
  own-in =
      ap (λ q. has_deed_of (Proc q) parcel) pid-of
      ∙ own-in-parcel script w hand b holds parcel c call place parcel_is

  -- ---- which names the end concerns

  concerns-own : (q : ℕ) → q ≡ parcel.pid → concerns row parcel (Proc q) ≡ true
  concerns-own q e =
      ap (λ t. t || (nat_eq q parcel.parent || is_among row.family.ended q)) (eq-eqb q parcel.pid e)

  concerns-among : (q : ℕ) → is_among row.family.ended q ≡ true → concerns row parcel (Proc q) ≡ true
  concerns-among q h =
      or-second (nat_eq q parcel.pid) (nat_eq q parcel.parent || is_among row.family.ended q)
      (or-second (nat_eq q parcel.parent) (is_among row.family.ended q) h)

  concerns-parent : concerns row parcel (Proc parcel.parent) ≡ true
  concerns-parent =
      or-second (nat_eq parcel.parent parcel.pid)
      (nat_eq parcel.parent parcel.parent || is_among row.family.ended parcel.parent)
      (ap (λ t. t || is_among row.family.ended parcel.parent) (eq-eqb parcel.parent parcel.parent refl))

  -- an ended child of the process is in its parcel
  among-in : (q : ℕ) → is_among row.family.ended q ≡ true → has_deed_of (Proc q) parcel ≡ true
  among-in q h =
      let kept = among-kept row.family.ended q h
      in (child-in script w hand b holds parcel c call place parcel_is reads x parent_at q kept.0 kept.1).0

  -- no other name is concerned
  unconcerned : (name : Name) → has_deed_of name parcel ≡ false → name ≢ Proc parcel.parent
      → concerns row parcel name ≡ false
  unconcerned (Msg id) not_in other = refl
  unconcerned (Sem id) not_in other = refl
  unconcerned (Proc q) not_in other =
      three-false (nat_eq q parcel.pid) (nat_eq q parcel.parent) (is_among row.family.ended q)
      (ne_eqb q parcel.pid
      (λ e. false≢true (sym not_in ∙ ap (λ p. has_deed_of (Proc p) parcel) e ∙ own-in)))
      (ne_eqb q parcel.parent (λ e. other (ap Proc e))) (not-among (is_among row.family.ended q) refl)
    where
      not-among : (t : Bool) → is_among row.family.ended q ≡ t → is_among row.family.ended q ≡ false
      not-among false e = e
      not-among true e = absurd (false≢true (sym not_in ∙ among-in q e))

  unbrought : (name : Name) → has_deed_of name parcel ≡ false → is_brought (each_with of its) name ≡ false
  unbrought (Msg id) not_in = refl
  unbrought (Sem id) not_in = refl
  unbrought (Proc q) not_in =
      each-some of its q ∙ sym (has-body script w hand b holds parcel c call place parcel_is q) ∙ not_in

  -- ---- a process of the parcel

  -- one that lives is the parcel's own
  lives-own : (q : ℕ) → has_deed_of (Proc q) parcel ≡ true → (r : Row) → of q ≡ LivingBody r → q ≡ parcel.pid
  lives-own q e r lives = by-body (get its q) refl
    where
      by-body : (o : Option Body) → get its q ≡ o → q ≡ parcel.pid
      by-body (Some v) g =
          living-own script w hand b holds parcel c call place parcel_is q v g r lives
      by-body None g =
          absurd (false≢true
          (sym (ap is_some g) ∙ sym (has-body script w hand b holds parcel c call place parcel_is q) ∙ e))

  same-row : (a : Alive) → living_at k parcel.pid ≡ Some a → a.row ≡ row
  same-row a lives =
      living-same
      (sym (living-body k parcel.pid a lives)
      ∙ own-row script w hand b holds parcel c call place parcel_is reads x parent_at)
    where
      living-same : {r s : Row} → LivingBody r ≡ LivingBody s → r ≡ s
      living-same g = cc

  -- one that isn't concerned is gone
  part-gone : (q : ℕ) → has_deed_of (Proc q) parcel ≡ true → concerns row parcel (Proc q) ≡ false → of q ≡ Gone
  part-gone q e not = by-process (get k.processes q) refl
    where
      made : b.deed (Proc q) ≢ Unmade
      made = in-parcel-made script w hand b holds parcel c call place parcel_is (Proc q) e

      there : is_some (get k.processes q) ≡ true
      there = process-there k q leaves.valid ∙ is-used-there script w hand b (Proc q) holds made

      -- its parent's deed would be with it
      kept-by : (d : ℕ) → b.pids d ≡ q → q ≢ 0 → (ending : Ending)
          → get k.processes q ≡ Some (kernel.Ended ending) → ⊥
      kept-by d is some ending over =
          let its_family : FamilyHolds script b.pids b.places k (process_deed b.deed) (checkpoints_to script w d)
          (stage_of w d) d = holds.families d (λ z. some (sym is ∙ z))
          in let process = some-same (sym its_family.is ∙ ap (get k.processes) is ∙ over)
          in let at : b.deed (Proc (b.pids d)) ≡ place =
          ap (λ p. b.deed (Proc p)) is ∙ parcel_is.deeds (Proc q) e
          in let rests : RestsBelow d place =
          subst (λ z. IsWhereFor d z (kernel.Ended ending)) at
          (subst (λ v. IsWhereFor d (b.deed (Proc (b.pids d))) v) process its_family.where_it_is)
          in let lower = on_way.below d rests
          in let low = low-node script w hand b holds parcel c call place parcel_is
          in let kept : IsChildIn k (b.pids (forker script d)) (b.pids d) (kernel.Ended ending) =
          subst (λ v. IsChildIn k (b.pids (forker script d)) (b.pids d) v) process
          (its_family.child (λ g. omega (arith, g, lower, low)))
          in let parent_in : has_deed_of (Proc (b.pids (forker script d))) parcel ≡ true =
          parcel_is.all (Proc (b.pids (forker script d)))
          (sym (subst (λ v. IsWithParent (process_deed b.deed) (b.pids (forker script d)) (b.pids d) v) process
          its_family.with_parent) ∙ at)
          in let own : b.pids (forker script d) ≡ parcel.pid =
          lives-own (b.pids (forker script d)) parent_in kept.0.row
          (living-body k (b.pids (forker script d)) kept.0 kept.1)
          in let rows = same-row kept.0 (ap (living_at k) (sym own) ∙ kept.1)
          in false≢true
          (sym not
          ∙ concerns-among q
          (kept-among row.family.ended q kept.2.0
          (subst (λ n. Contains row.family.ended (ended_child n kept.2.0)) is
          (subst (λ (r : Row). Contains r.family.ended (ended_child (b.pids d) kept.2.0)) rows kept.2.1))))

      by-process : (o : Option Process) → get k.processes q ≡ o → of q ≡ Gone
      by-process None g = absurd (false≢true (sym (ap is_some g) ∙ there))
      by-process (Some (kernel.Living a)) g =
          absurd (false≢true
          (sym not ∙ concerns-own q (lives-own q e a.row (ap process_body g))))
      by-process (Some (kernel.Ended ending)) g =
          let pids = holds.pids
          in let d = pids.there q (kernel.Ended ending) g
          in absurd (kept-by d.0 d.1 d.2 ending g)
      by-process (Some kernel.Gone) g = ap process_body g

  -- ---- what the node has

  -- a process of the parcel, as the next kernel has it
  pub then-in-parcel : (q : ℕ) → has_deed_of (Proc q) parcel ≡ true
      → get_named held_then (Proc q) ≡ Some (body_in after (Proc q))
  then-in-parcel q e = by-test (concerns row parcel (Proc q)) refl
    where
      by-test : (t : Bool) → concerns row parcel (Proc q) ≡ t
          → get_named held_then (Proc q) ≡ Some (body_in after (Proc q))
      by-test true h = is-ended.concerned (Proc q) h
      by-test false h =
          is-ended.gone (Proc q) h
          (ap is_some (gets script w hand b holds parcel c call place parcel_is reads x parent_at q e))
          ∙ ap Some (sym (is-ended.others (Proc q) h ∙ part-gone q e h))

  -- and the parent
  pub then-parent : get_named held_then (Proc parcel.parent) ≡ Some (body_in after (Proc parcel.parent))
  then-parent = is-ended.concerned (Proc parcel.parent) concerns-parent

  -- any other name as before
  pub then-other : (name : Name) → has_deed_of name parcel ≡ false → name ≢ Proc parcel.parent
      → get_named held_then name ≡ get_named deeds name
  then-other name not_in other = is-ended.stays name (unconcerned name not_in other) (unbrought name not_in)

  -- whose body the kernel has as before
  pub body-other : (name : Name) → has_deed_of name parcel ≡ false → name ≢ Proc parcel.parent
      → body_in after name ≡ body_in k name
  body-other name not_in other = is-ended.others name (unconcerned name not_in other)

  -- ---- rows

  -- a process of the parcel doesn't live any more
  pub then-over : (q : ℕ) → has_deed_of (Proc q) parcel ≡ true → (r : Row) → body_in after (Proc q) ≡ LivingBody r → ⊥
  then-over q e r lives =
      elim (cases_eq q parcel.pid) [
        | inl own ↦
            none-is-some is.alive
            (sym (ap (living_at after) own ∙ end-dead k after b.places _ parcel.pid parcel.parent row _ _ leaves)
            ∙ is.lives)
        | inr other ↦
            let before = others-lived k parcel.pid after q is.alive leaves.others other
            (process-there k q leaves.valid
            ∙ is-used-there script w hand b (Proc q) holds
            (in-parcel-made script w hand b holds parcel c call place parcel_is (Proc q) e)) is.lives
            in other (lives-own q e before.alive.row (living-body k q before.alive before.lives))
      ]
    where
      is : HasRow after q r
      is = body-living after q r lives

  -- any other that lives, lives on
  still-lives : (q : ℕ) → q ≢ parcel.pid → (r : Row) → of q ≡ LivingBody r
      → (s : Row) × (body_in after (Proc q) ≡ LivingBody s)
  still-lives q other r lives =
      let is = body-living k q r lives
      in let m = others-still-may k parcel.pid after q is.alive leaves.others other is.lives
      in (m.alive.row, living-body after q m.alive m.lives)

  held-body : (q : ℕ) (v : Body) → get_named deeds (Proc q) ≡ Some v → v ≡ of q
  held-body q v there =
      let known : NameHolds script b.pids (is_born_in w) (Proc q) (name_sight script w hand b (Proc q)) =
      holds.names (Proc q)
      in let at : IsHeldAt (b.deed (Proc q)) (b.body (Proc q)) x v =
      held-there (b.deed (Proc q)) (b.body (Proc q)) x v (sym (known.tables x) ∙ there)
      in at.body_is ∙ process-part script w hand b q holds

  held-not-in : (q : ℕ) (v : Body) → get_named deeds (Proc q) ≡ Some v → has_deed_of (Proc q) parcel ≡ false
  held-not-in q v there = by-test (has_deed_of (Proc q) parcel) refl
    where
      by-test : (t : Bool) → has_deed_of (Proc q) parcel ≡ t → has_deed_of (Proc q) parcel ≡ false
      by-test false e = e
      by-test true e =
          absurd (none-is-some v
          (sym (none-here script w hand b holds parcel c call place parcel_is reads x parent_at q e) ∙ there))

  -- what was held has the next kernel's part
  then-held : (q : ℕ) (v : Body) → get_named deeds (Proc q) ≡ Some v
      → get_named held_then (Proc q) ≡ Some (body_in after (Proc q))
  then-held q v there =
      elim (cases_eq q parcel.parent) [
        | inl e ↦
            subst (λ p. get_named held_then (Proc p) ≡ Some (body_in after (Proc p))) (sym e) then-parent
        | inr d ↦
            let not_in = held-not-in q v there
            in let other : Proc q ≢ Proc parcel.parent = λ g. d (proc-same q parcel.parent g)
            in then-other (Proc q) not_in other ∙ there
            ∙ ap Some (held-body q v there ∙ sym (body-other (Proc q) not_in other))
      ]
    where
      proc-same : (i j : ℕ) → Proc i ≡ Proc j → i ≡ j
      proc-same i j g = cc

  row-then : (pid : ℕ) → HoldsRow deeds pid → HoldsRow held_then pid
  row-then pid h =
      let not_in = held-not-in pid (LivingBody h.row) h.here
      in let lives = still-lives pid
      (λ e. false≢true (sym not_in ∙ ap (λ q. has_deed_of (Proc q) parcel) e ∙ own-in)) h.row
      (sym (held-body pid (LivingBody h.row) h.here))
      in record { row = lives.0; here = then-held pid (LivingBody h.row) h.here ∙ ap Some lives.1 }

  -- a row that the node has is that of a process that lived there
  row-was : (pid : ℕ) (r : Row) → get_named held_then (Proc pid) ≡ Some (LivingBody r)
      → (s : Row) × (get_named deeds (Proc pid) ≡ Some (LivingBody s))
  row-was pid r there = by-test (has_deed_of (Proc pid) parcel) refl
    where
      parent-row : pid ≡ parcel.parent → (s : Row) × (get_named deeds (Proc pid) ≡ Some (LivingBody s))
      parent-row e =
          let lives : HasRow after pid r =
          body-living after pid r
          (some-same
          (sym (subst (λ p. get_named held_then (Proc p) ≡ Some (body_in after (Proc p))) (sym e) then-parent) ∙ there))
          in let made : is_some (get k.processes pid) ≡ true =
          process-there k pid leaves.valid
          ∙ is-used-there script w hand b (Proc pid) holds
          (λ z. not-unmade (sym (ap (λ p. b.deed (Proc p)) e ∙ parent_at) ∙ z))
          in let before = others-lived k parcel.pid after pid lives.alive leaves.others
          (λ own. false≢true
          (sym (parent-not-in script w hand b holds parcel c call place parcel_is reads x parent_at)
          ∙ ap (λ p. has_deed_of (Proc p) parcel) (sym e ∙ own) ∙ own-in)) made lives.lives
          in (
            before.alive.row,
            ap (λ p. get_named deeds (Proc p)) e
                ∙ parent-here script w hand b holds parcel c call place parcel_is reads x parent_at
                ∙ ap (λ p. Some (of p)) (sym e) ∙ ap Some (living-body k pid before.alive before.lives),
          )
        where
          not-unmade : InTable x ≡ Unmade → ⊥
          not-unmade g = cc

      by-test : (t : Bool) → has_deed_of (Proc pid) parcel ≡ t
          → (s : Row) × (get_named deeds (Proc pid) ≡ Some (LivingBody s))
      by-test true e = absurd (then-over pid e r (some-same (sym (then-in-parcel pid e) ∙ there)))
      by-test false e =
          elim (cases_eq pid parcel.parent) [
            | inl same ↦ parent-row same
            | inr other ↦
                (r, sym (then-other (Proc pid) e (λ g. other (proc-same pid parcel.parent g))) ∙ there)
          ]
        where
          proc-same : (i j : ℕ) → Proc i ≡ Proc j → i ≡ j
          proc-same i j g = cc

  -- ---- the node

  abbrev n : Node
  n = node_of w x

  -- the node with these deeds
  abbrev pub node_then : Node
  node_then = record n { deeds = held_then }

  here : get_named n.deeds (Proc parcel.parent) ≡ Some (of parcel.parent)
  here = parent-here script w hand b holds parcel c call place parcel_is reads x parent_at

  holds-then : (stage : Stage) → HoldsIn x n stage → HoldsIn x node_then stage
  holds-then Unborn h =
      absurd (none-is-some (of parcel.parent)
      (sym (ap (λ (m : Node). get_named m.deeds (Proc parcel.parent)) h ∙ nothing-at (Proc parcel.parent)) ∙ here))
  holds-then Left h =
      absurd (none-is-some (of parcel.parent)
      (sym (ap (λ ds. get_named ds (Proc parcel.parent)) h ∙ nothing-at (Proc parcel.parent)) ∙ here))
  holds-then Living h = row-then n.pid h
  holds-then Leaving h = row-then n.pid h
  holds-then Over h = h

  -- The node holds what it should.
  pub node-after-exit : NodeHolds script b.pids (is_born_in w) x n
      → NodeHolds script b.pids (is_born_in w) x node_then
  node-after-exit h =
      record {
        number = h.number;
        holds = holds-then n.stage h.holds;
        birth = h.birth;
        first = h.first;
        others = h.others;
        rows = λ pid r there. let before = row-was pid r there in h.rows pid before.0 before.1;
        owners = h.owners;
      }

  -- ---- where deeds are

  -- the process's parent is at a smaller node, or at the leader
  below : (x < c) ⊎ (x ≡ 1)
  below =
      let pids = holds.pids
      in let up = pids.forked c (parcel-forked script w hand b holds parcel c call place parcel_is)
      (not-first script w hand b holds parcel c call place parcel_is)
      in let its_family : FamilyHolds script b.pids b.places k (process_deed b.deed)
      (checkpoints_to script w (forker script c)) (stage_of w (forker script c)) (forker script c) =
      holds.families (forker script c) up.0
      in by-process its_family.process
      (subst (λ d. IsWhereFor (forker script c) d its_family.process)
      (ap (λ p. b.deed (Proc p))
      (sym (parent-is script w hand b holds parcel c call place parcel_is reads x parent_at)) ∙ parent_at)
      its_family.where_it_is) up.1
    where
      lower : (g : ℕ) → (x < g) ⊎ (x ≡ 1) → g < c → (x < c) ⊎ (x ≡ 1)
      lower g (inl less) up = inl (omega (arith, less, up))
      lower g (inr first) up = inr first

      by-process : (v : Process) → IsWhereFor (forker script c) (InTable x) v → forker script c < c
          → (x < c) ⊎ (x ≡ 1)
      by-process (kernel.Living a) at up = inl (omega (arith, at, up))
      by-process (kernel.Ended e) at up = lower (forker script c) at up
      by-process kernel.Gone at up = lower (forker script c) at up

  module _ (moved : DeedPlace → DeedPlace) (stays_in : moved (InTable x) ≡ InTable x)
      (still : (d : DeedPlace) → ComesAsBefore d (moved d))
      (where_moved : (g : ℕ) (v : Process) (d : DeedPlace) → IsWhereFor g d v → IsWhereFor g (moved d) v) where
    -- the parcel's names are in the node's table
    abbrev pub deeds_after : Name → DeedPlace
    deeds_after = deed_by script w b parcel c call place parcel_is (InTable x) moved

    not-awaited : (to : ℕ) → InTable x ≡ InCheckpoint to → ⊥
    not-awaited to e = cc

    rests-under : (g : ℕ) → c < g → RestsBelow g (InTable x)
    rests-under g above = by-cases below
      where
        by-cases : (x < c) ⊎ (x ≡ 1) → (x < g) ⊎ (x ≡ 1)
        by-cases (inl less) = inl (omega (arith, less, above))
        by-cases (inr first) = inr first

    rests-over : (g : ℕ) (v : Process) → g ≢ c → IsWhereFor g place v → IsWhereFor g (InTable x) v
    rests-over g (kernel.Living a) other at = absurd (other (sym (on_way.own g at)))
    rests-over g (kernel.Ended e) other at = rests-under g (on_way.below g at)
    rests-over g kernel.Gone other at = rests-under g (on_way.below g at)

    where-then : (name : Name) (g : ℕ) (v : Process) → g ≢ c → IsWhereFor g (b.deed name) v
        → IsWhereFor g (deeds_after name) v
    where-then name g v other at = by-test (has_deed_of name parcel) refl
      where
        by-test : (t : Bool) → has_deed_of name parcel ≡ t
            → IsWhereFor g (if t then InTable x else moved (b.deed name)) v
        by-test true e =
            rests-over g v other (subst (λ d. IsWhereFor g d v) (parcel_is.deeds name e) at)
        by-test false e = where_moved g v (b.deed name) at

    here-now : (name : Name) → has_deed_of name parcel ≡ true → deeds_after name ≡ InTable x
    here-now name e = ap (λ t. if t then InTable x else moved (b.deed name)) e

    parent-now : deeds_after (Proc parcel.parent) ≡ InTable x
    parent-now =
        ap (λ t. if t then InTable x else moved (b.deed (Proc parcel.parent)))
        (parent-not-in script w hand b holds parcel c call place parcel_is reads x parent_at)
        ∙ ap moved parent_at ∙ stays_in

    awaited-same : (q to : ℕ) → b.deed (Proc q) ≡ InCheckpoint to
        → (body_in after (Proc q) ≡ body_in k (Proc q)) × (q ≢ parcel.pid)
    awaited-same q to e = (
      body-other (Proc q) (not-in (has_deed_of (Proc q) parcel) refl)
          (λ g. not-awaited to (sym parent_at ∙ ap b.deed (sym g) ∙ e)),
      λ own. on_way.comes_not to
          (sym (parcel_is.deeds (Proc parcel.pid) own-in) ∙ ap (λ p. b.deed (Proc p)) (sym own) ∙ e),
    )
      where
        not-in : (t : Bool) → has_deed_of (Proc q) parcel ≡ t → has_deed_of (Proc q) parcel ≡ false
        not-in false h = h
        not-in true h = absurd (on_way.comes_not to (sym (parcel_is.deeds (Proc q) h) ∙ e))

    -- Deeds are where they may be.
    pub rests-after : RestsAfter k after b.places
        (places_then script w hand b holds parcel c call place parcel_is reads x parent_at) parcel.pid parcel.parent row
        (parent_body script w hand b holds parcel c call place parcel_is reads x parent_at) (ending_of parcel.call)
        leaves script b.pids c (process_deed b.deed) (process_deed deeds_after)
    rests-after =
        record {
          process_is = sym pid-of;
          parent_is = λ up. sym
              (parent-is script w hand b holds parcel c call place parcel_is reads x parent_at);
          rests = subst (λ d. RestsBelow c d) (sym (here-now (Proc parcel.pid) own-in)) below;
          with_parent = λ e is. here-now (Proc parcel.pid) own-in
              ∙ sym (ap (λ p. deeds_after (Proc p))
              (sym (parent-is script w hand b holds parcel c call place parcel_is reads x parent_at)) ∙ parent-now);
          where_others = λ g v other at. where-then (Proc (b.pids g)) g v other at;
          together = λ p q e. together-by script w b parcel c call place parcel_is (InTable x) moved (Proc p) (Proc q)
              e;
          comes = λ q. comes-by script w b parcel c call place parcel_is (InTable x) moved not-awaited still (Proc q);
          awaited = awaited-same;
        }
