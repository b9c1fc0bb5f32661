-- Who is believed to have a queue or a set is born: it holds the deed, or a Grant brings it there.
use Rattle.std.proofs.Common.{Bool, Contains, List, [], ap, arith, cond, false, filter, inl, inr, nat_eq, not, refl, subst, sym, true, ℕ, ◌&&◌, ◌∙◌, ◌∷◌, ◌≡◌, ◌≤◌}
use Rattle.std.proofs.lemmas.Bool.{eq-eqb, false≢true}
use Rattle.std.proofs.lemmas.List.Elements.{Contains-append_left, Contains-append_right, Contains-push}
use Rattle.pico_base.specs.declared.numbers.Name.{Name}
use Rattle.pico_base.specs.declared.script.Script.{Script}
use Rattle.rpc_frame.specs.declared.frame.Frame.TheVariants as frames
use Rattle.rpc_frame.specs.declared.frame.Frame.{Frame}
use Rattle.node_model.specs.Kinds.{is_object}
use Rattle.node_model.specs.Spelling.{pack}
use Rattle.node_model.specs.declared.held.Held.{Held}
use Rattle.world_model.specs.Census.{brings}
use Rattle.world_model.specs.Node.{Stage, Unborn, is_unborn}
use Rattle.world_model.specs.World.{World, node_count}
use Rattle.world_laws.proofs.NameFacts.{held-here, holder-is-born}
use Rattle.world_laws.specs.Cancels.{Owing}
use Rattle.world_laws.specs.Families.{NodeHolds}
use Rattle.world_laws.specs.Invariant.{FramesFit, HoldsOwing, MayBe}
use Rattle.world_laws.specs.Names.{IsBringer, NameHolds, NameSight, OneIf, OnlyOne, belief_of, forker, held_as, is_stream_of, name_sight}
use Rattle.world_laws.specs.Places.{Beside}
use Rattle.world_laws.specs.Plays.{is_there}
use Rattle.world_laws.specs.Sights.{frames_to, is_born_in, is_born_stage, node_of, stage_of}
use Rattle.route_laws.proofs.cancels.Deeds.{IsAtOrComes, believed-there}

not-empty : (x : Frame) (xs : List Frame) → [] ≡ x ∷ xs → ⊥
not-empty x xs h = cc

-- what a filter keeps first is in the list
kept-there : (test : Frame → Bool) (f : Frame) (rest fs : List Frame) → filter test fs ≡ f ∷ rest → Contains fs f
kept-there test f rest [] h = absurd (not-empty f rest h)
kept-there test f rest (g ∷ fs) h = by (test g) h (λ e. kept-there test f rest fs e)
  where
    first-is : (x y : Frame) (xs ys : List Frame) → x ∷ xs ≡ y ∷ ys → x ≡ y
    first-is x y xs ys h = cc

    by : (t : Bool) → cond t (g ∷ filter test fs) (filter test fs) ≡ f ∷ rest
        → (filter test fs ≡ f ∷ rest → Contains fs f) → Contains (g ∷ fs) f
    by true e later =
        subst (λ z. Contains (z ∷ fs) f) (sym (first-is g f (filter test fs) rest e))
        (Contains-append_left (f ∷ []) fs f (Contains-push [] f))
    by false e later = Contains-append_right (g ∷ []) fs f (later e)

born-by : (stage : Stage) → not (is_unborn stage) ≡ true → is_born_stage stage ≡ true
born-by Unborn h = absurd (false≢true h)
born-by stage h = refl

module _ (script : Script) (w : World) (hand : List Held) (owes : Owing) (b : Beside)
    (holds : HoldsOwing script w hand owes b) (name : Name) (object : is_object name ≡ true) (h : ℕ) (low : 2 ≤ h)
    (high : h ≤ node_count script) where
  abbrev x : NameSight
  x = name_sight script w hand b name

  known : NameHolds script b.pids (is_born_in w) name x
  known = holds.names name

  born-at : IsAtOrComes x.deed h → is_born_in w h ≡ true
  born-at (inl at) =
      let n : NodeHolds script b.pids (is_born_in w) h (node_of w h) = holds.nodes h (omega (arith, low)) high
      in born-by (stage_of w h)
      (holder-is-born h (node_of w h) name x.body (stage_of w h) n.holds
      (known.tables h ∙ ap (λ d. held_as d x.body h) at ∙ held-here h x.body))
  born-at (inr comes) =
      let may : MayBe script (is_born_in w) h 1 (frames.Grant (pack name x.body)) =
      fit.may_be h 1 (frames.Grant (pack name x.body))
      (kept-there (brings name) (frames.Grant (pack name x.body)) [] (frames_to w h 1)
      (one.only ∙ ap (λ f. f ∷ []) one.holds))
      in may.1
    where
      fit : FramesFit script (is_born_in w) (frames_to w)
      fit = holds.frames_fit

      one : OnlyOne (λ f. f ≡ frames.Grant (pack name (b.body name))) (filter (brings name) (frames_to w h 1))
      one =
          subst
          (λ t. OneIf t (λ f. f ≡ frames.Grant (pack name (b.body name))) (filter (brings name) (frames_to w h 1)))
          (both (nat_eq h h) (eq-eqb h h refl))
          (subst (λ d. OneIf (is_stream_of (forker script) d h 1) (IsBringer b.pids name (b.body name) d)
          (filter (brings name) (frames_to w h 1))) comes (known.streams h 1))
        where
          both : (t : Bool) → t ≡ true → (t && nat_eq 1 1) ≡ true
          both t e = ap (λ u. u && true) e

  -- who is believed to have it
  pub believed-is-born : is_there h (belief_of x) ≡ true → is_born_in w h ≡ true
  believed-is-born there = born-at (believed-there script w hand b name known object h low there)
