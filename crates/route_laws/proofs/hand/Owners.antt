-- Who owns a name, or has the range of its number, is a node of the script.
use Rattle.std.proofs.Common.{◌≡◌, ℕ, ◌-◌, ◌/◌, ◌<◌, ◌≤◌, Bool, true, false, ◌&&◌, ◌||◌, not, if◌then◌else◌, List, [], slice_get, get_or, nat_eq, Contains, Some, None, is_some, unwrap_or, refl, ap, sym, subst, ◌∙◌, inl, inr, arith}
use Rattle.std.proofs.lemmas.Bool.{cases_lt, eq-eqb, false≢true}
use Rattle.std.proofs.lemmas.List.{get_or_past}
use Rattle.std.proofs.lemmas.Option.{slice_get_past, slice_get_within, get_or_from_slice_get}
use Rattle.pico_base.specs.declared.numbers.Name.{Name}
use Rattle.pico_base.specs.declared.numbers.Name.TheVariants.{Proc, Msg, Sem}
use Rattle.pico_base.specs.declared.script.Script.{Script}
use Rattle.node_model.specs.declared.held.Held.{Held}
use Rattle.node_model.specs.Kinds.{get_named, kind_of, number_of, for_kind}
use Rattle.node_model.specs.Directory.{At, place_of, maker, maker_in, range_size}
use Rattle.world_model.specs.Node.{Node, unborn_node}
use Rattle.world_model.specs.World.{World, node_count, node_at, is_number, stream}
use Rattle.world_laws.specs.Places.{Beside}
use Rattle.world_laws.specs.Sights.{node_of, frames_to, directory_of, is_born_in}
use Rattle.world_laws.specs.Plays.{Hold, Has, Lacks, begin, brings_checkpoint, play, plays, is_has, is_there, believed}
use Rattle.world_laws.specs.Names.{NameSight, name_sight, NameHolds, PlaysTo, comes_to, belief_of, maker_tells, forker}
use Rattle.world_laws.specs.Invariant.{IsShaped, HoldsOwing}
use Rattle.world_laws.specs.Ranges.{kind_sight, KindHolds}
use Rattle.rule_laws.proofs.Suggestions.{born-in-range}
use Rattle.world_laws.specs.Cancels.{Owing}
use Rattle.entry_laws.specs.Entering.{is_used_name}

module _ (script : Script) (w : World) (s : IsShaped script w) (x : ℕ) (past : node_count script < x) where
  -- behind the last node is none
  nobody : node_of w x ≡ unborn_node x
  nobody = by-test (is_number x)
    where
      by-test : (t : Bool) → unwrap_or (if t then node_at w x else None) (unborn_node x) ≡ unborn_node x
      by-test true =
          ap (λ o. unwrap_or o (unborn_node x))
          (slice_get_past w.nodes (x - 1) (subst (λ k. k ≤ x - 1) (sym s.nodes) (omega (arith, past))))
      by-test false = refl

  nothing-to : (y : ℕ) → frames_to w x y ≡ []
  nothing-to y = by-test (is_number x && is_number y)
    where
      by-test : (t : Bool) → (if t then stream w x y else []) ≡ []
      by-test true =
          ap (λ row. get_or row (y - 1) [])
          (get_or_past w.streams (x - 1) [] (subst (λ k. k ≤ x - 1) (sym s.rows) (omega (arith, past))))
      by-test false = refl

holds-nothing : (x : ℕ) (name : Name) → get_named (unborn_node x).deeds name ≡ None
holds-nothing x (Proc pid) = refl
holds-nothing x (Msg id) = refl
holds-nothing x (Sem id) = refl

and-false : (t : Bool) → (t && false) ≡ false
and-false true = refl
and-false false = refl

slice-has : (xs : List ℕ) (i h : ℕ) → slice_get xs i ≡ Some h → Contains xs h
slice-has xs i h g = (i, slice_get_within xs i h g, get_or_from_slice_get xs i h h g)

some-hold : (a c : Hold) → Some a ≡ Some c → c ≡ a
some-hold a c h = cc

module _ (script : Script) (w : World) (hand : List Held) (b : Beside) {owes : Owing}
    (holds : HoldsOwing script w hand owes b) (name : Name) (h : ℕ) where
  abbrev x : NameSight
  x = name_sight script w hand b name

  module _ (past : node_count script < h) where
    begins-nowhere : x.begins h ≡ Lacks
    begins-nowhere =
        ap (λ (m : Node). begin m.stage (is_some (get_named m.deeds name)) (comes_to script w name h))
        (nobody script w holds.shape h past)
        ∙ ap (λ o. if is_some o || comes_to script w name h then Has else Lacks) (holds-nothing h name)
        ∙ ap (λ fs. if not (nat_eq (forker script h) 1) && brings_checkpoint name fs then Has else Lacks)
        (nothing-to script w holds.shape h past (forker script h))
        ∙ ap (λ t. if t then Has else Lacks) (and-false (not (nat_eq (forker script h) 1)))

    steps-nowhere : x.steps h ≡ []
    steps-nowhere = ap (plays (is_used_name b.kernel name) b.call name) (nothing-to script w holds.shape h past 1)

  -- an owner other than the leader is a node
  pub owner-in-range : place_of (directory_of w) name ≡ Some (At h) → 2 ≤ h → h ≤ node_count script
  owner-in-range place low =
      elim (cases_lt (node_count script) h) [
        | inr within ↦ omega (arith, within)
        | inl past ↦
            let old : PlaysTo (x.begins h) (x.steps h) (is_there h (belief_of x)) =
            (let m : NameHolds script b.pids (is_born_in w) name x = holds.names name in m.plays h low)
            in let there : is_there h (belief_of x) ≡ true =
            ap (λ o. is_there h (believed o (maker_tells x x.maker))) place ∙ eq-eqb h h refl
            in let last : old.last ≡ Lacks =
            some-hold Lacks old.last
            (sym (ap (λ z. play z (x.steps h)) (begins-nowhere past) ∙ ap (play Lacks) (steps-nowhere past))
            ∙ old.plays)
            in absurd (false≢true (sym (ap is_has last) ∙ old.agrees ∙ there))
      ]

  in-ranges : (ranges : List ℕ) (number : ℕ) → maker_in ranges number ≡ Some h → Contains ranges h
  in-ranges ranges number e = by-test (nat_eq number 0) e
    where
      by-test : (t : Bool) → (if t then None else slice_get ranges ((number - 1) / range_size)) ≡ Some h
          → Contains ranges h
      by-test true g = absurd (false≢true (ap is_some g))
      by-test false g = slice-has ranges ((number - 1) / range_size) h g

  -- and who made a name is born
  pub maker-is-born : maker (directory_of w) name ≡ Some h → is_born_in w h ≡ true
  maker-is-born e =
      let k : KindHolds (is_born_in w) (kind_sight w b.kernel (kind_of name)) = holds.kinds (kind_of name)
      in k.to_born h (in-ranges (for_kind (directory_of w).ranges (kind_of name)) (number_of name) e)

  -- so it is a node
  pub maker-in-range : maker (directory_of w) name ≡ Some h → (1 ≤ h) × (h ≤ node_count script)
  maker-in-range e = born-in-range script w holds.shape h (maker-is-born e)
