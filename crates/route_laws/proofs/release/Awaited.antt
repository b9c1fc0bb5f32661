-- A queue or set whose deed is on its way back to the leader is awaited there, and may be taken.
use Rattle.std.proofs.Common.{◌≡◌, ◌≢◌, ℕ, zero, suc, ◌≤◌, Bool, true, false, ◌&&◌, not, List, [], ◌∷◌, filter, nat_eq, Option, Some, None, is_some, Contains, refl, ap, sym, subst, ◌∙◌, inl, inr, arith}
use Rattle.std.proofs.lemmas.Bool.{cases_eq, eq-eqb, ne_eqb, false≢true}
use Rattle.std.proofs.lemmas.List.Elements.{Contains-append_left, Contains-push}
use Rattle.pico_base.specs.declared.numbers.Name.{Name}
use Rattle.pico_base.specs.declared.numbers.Name.TheVariants.{Proc, Msg, Sem}
use Rattle.pico_base.specs.declared.script.Script.{Script}
use Rattle.node_model.specs.declared.held.Held.{Held}
use Rattle.node_model.specs.Kinds.{is_object, kind_of, number_of}
use Rattle.node_model.specs.Leases.{leases_hold}
use Rattle.node_model.specs.Directory.{Place, At, Coming, place_of, is_coming, is_coming_to}
use Rattle.world_model.specs.Node.{Node, holds as holds_deed}
use Rattle.world_model.specs.Moves.{is_new_here}
use Rattle.world_model.specs.Census.{brings}
use Rattle.world_model.specs.World.{World}
use Rattle.world_laws.specs.Places.{Unmade, InGiveBack, Beside}
use Rattle.world_laws.specs.Sights.{node_of, frames_to, directory_of, stage_of, is_born_in}
use Rattle.world_laws.specs.Plays.{believed, told, is_there, begin, is_has, is_checkpoint_of, has_any}
use Rattle.world_laws.specs.Names.{NameSight, name_sight, NameHolds, IsTold, SaysOf, OneIf, IsBringer, held_at, held_as, comes_to, is_stream_of, forker, belief_of, maker_tells, is_nowhere, PlaysTo}
use Rattle.world_laws.specs.Ranges.{kind_sight}
use Rattle.world_laws.specs.Invariant.{Holds}
use Rattle.world_laws.proofs.Numbers.{used-is-taken}
use Rattle.rule_laws.proofs.ends.Directories.{KnowsNodes}
use Rattle.rule_laws.proofs.ends.Taken.{fewer-none, play-without, plays-without, begin-without}
use Rattle.rule_laws.proofs.ends.Releases.{checkpoints-bring}

-- what is told of a queue or set is told of the teller
says-itself : (pids : ℕ → ℕ) (name : Name) (sender node : ℕ) → is_object name ≡ true → SaysOf pids name sender node
    → node ≡ sender
says-itself pids (Proc pid) sender node object says = absurd (false≢true object)
says-itself pids (Msg id) sender node object says = says
says-itself pids (Sem id) sender node object says = says

no-tells : (node : ℕ) (more : List ℕ) → [] ≡ node ∷ more → ⊥
no-tells node more e = cc

module _ (script : Script) (w : World) (hand : List Held) (b : Beside) (holds : Holds script w hand b)
    (at_nodes : KnowsNodes (directory_of w)) (name : Name) (object : is_object name ≡ true) (q : ℕ)
    (deed : b.deed name ≡ InGiveBack q) where
  abbrev x : NameSight
  x = name_sight script w hand b name

  known : NameHolds script b.pids (is_born_in w) name x
  known = holds.names name

  -- no node has it
  pub given-held-none : (y : ℕ) → held_at w name y ≡ None
  given-held-none y = known.tables y ∙ ap (λ z. held_as z x.body y) deed

  none-brought : (y sender : ℕ) → y ≢ 1 → filter (brings name) (frames_to w y sender) ≡ []
  none-brought y sender d =
      subst (λ t. OneIf (t && nat_eq sender q) (IsBringer b.pids name x.body (InGiveBack q)) (x.brought y sender))
      (ne_eqb y 1 d)
      (subst (λ z. OneIf (is_stream_of (forker script) z y sender) (IsBringer b.pids name x.body z)
      (x.brought y sender)) deed (known.streams y sender))

  comes-not : (y : ℕ) → y ≢ 1 → comes_to script w name y ≡ false
  comes-not y d =
      ap (λ fs. not (nat_eq (forker script y) 1) && has_any fs)
      (fewer-none (is_checkpoint_of name) (brings name) (checkpoints-bring name) (frames_to w y (forker script y))
      (none-brought y (forker script y) d))
      ∙ and-false (not (nat_eq (forker script y) 1))
    where
      and-false : (t : Bool) → (t && false) ≡ false
      and-false true = refl
      and-false false = refl

  not-there : (y : ℕ) → 2 ≤ y → is_there y (belief_of x) ≡ true → ⊥
  not-there y low there =
      let played : PlaysTo (x.begins y) (x.steps y) (is_there y (belief_of x)) = known.plays y low
      in let d : y ≢ 1 = λ e. omega (arith, e, low)
      in false≢true
      (sym (play-without (x.begins y) played.last (x.steps y)
      (plays-without x.used b.call name (frames_to w y 1) (none-brought y 1 d))
      (ap (λ o. is_has (begin (stage_of w y) (is_some o) (comes_to script w name y))) (given-held-none y)
      ∙ ap (λ t. is_has (begin (stage_of w y) false t)) (comes-not y d)
      ∙ begin-without (stage_of w y))
      played.plays)
      ∙ played.agrees ∙ there)

  nowhere-at : (y : ℕ) → 1 ≤ y → is_there y (belief_of x) ≡ true → ⊥
  nowhere-at y low there =
      elim (cases_eq y 1) [
        | inl e ↦
            false≢true
            (ap is_some (sym (given-held-none 1)) ∙ known.leader
            ∙ ap (λ z. is_there z (belief_of x)) (sym e) ∙ there)
        | inr d ↦ not-there y (omega (arith, low, d)) there
      ]

  -- its number is in use
  pub given-is-used : x.used ≡ true
  given-is-used = by-test x.used refl
    where
      not-unmade : InGiveBack q ≡ Unmade → ⊥
      not-unmade e = cc

      by-test : (t : Bool) → x.used ≡ t → x.used ≡ true
      by-test true e = e
      by-test false e = absurd (not-unmade (sym deed ∙ known.made.1 e))

  -- no maker tells of it, or it would be there
  none-tells : place_of (directory_of w) name ≡ None → (m : Option ℕ) → x.maker ≡ m → (ts : List ℕ)
      → maker_tells x m ≡ ts → ⊥
  none-tells none m made [] g =
      false≢true
      (sym (known.believed given-is-used)
      ∙ ap (λ o. is_nowhere (believed o (maker_tells x x.maker))) none
      ∙ ap (λ o. is_nowhere (told (maker_tells x o))) made ∙ ap (λ ts. is_nowhere (told ts)) g)
  none-tells none None made (node ∷ more) g = no-tells node more g
  none-tells none (Some zero) made (node ∷ more) g = no-tells node more g
  none-tells none (Some (suc s)) made (node ∷ more) g =
      nowhere-at node
      (subst (λ y. 1 ≤ y) (sym (says-itself b.pids name (suc s) node object tells.says)) (omega arith))
      (ap (λ o. is_there node (believed o (maker_tells x x.maker))) none
      ∙ ap (λ o. is_there node (told (maker_tells x o))) made ∙ ap (λ ts. is_there node (told ts)) g
      ∙ eq-eqb node node refl)
    where
      tells : IsTold b.pids name x.used x.maker (suc s) node
      tells =
          known.told (suc s) node
          (subst (λ ns. Contains ns node) (sym g)
          (Contains-append_left (node ∷ []) more node (Contains-push [] node)))

  -- The leader awaits it.
  pub given-is-awaited : is_coming (directory_of w) name ≡ true
  given-is-awaited = by-place (place_of (directory_of w) name) refl
    where
      by-place : (o : Option Place) → place_of (directory_of w) name ≡ o → is_coming (directory_of w) name ≡ true
      by-place None g = absurd (none-tells g x.maker refl (maker_tells x x.maker) refl)
      by-place (Some (Coming to items)) g = ap is_coming_to g
      by-place (Some (At node)) g =
          absurd
          (nowhere-at node (at_nodes name node g)
          (ap (λ o. is_there node (believed o (maker_tells x x.maker))) g ∙ eq-eqb node node refl))

  -- It is new to the leader.
  pub given-is-new : is_new_here (node_of w 1) name ≡ true
  given-is-new =
      let n : Node = node_of w 1
      in all-true (is_object name) (holds_deed n name) (leases_hold n.leases name) object
      (ap is_some (given-held-none 1))
      (used-is-taken (is_born_in w) (kind_sight w b.kernel (kind_of name)) (holds.kinds (kind_of name))
      (number_of name) 1 (omega arith) given-is-used)
    where
      all-true : (o here leased : Bool) → o ≡ true → here ≡ false → leased ≡ false
          → (o && (not here && not leased)) ≡ true
      all-true o here leased a c e = rw (a, c, e) refl
