-- A name that nothing has, at a node that doesn't leave: it isn't there, and nothing on its way from the leader is
-- about it.
use Rattle.std.proofs.Common.{◌≡◌, ℕ, ◌≤◌, Bool, true, false, ◌&&◌, ◌||◌, not, cond, List, [], ◌∷◌, filter, nat_eq, is_some, refl, ap, sym, subst, ◌∙◌, inl, inr}
use Rattle.pico_base.specs.declared.numbers.Name.{Name}
use Rattle.pico_base.specs.declared.script.Script.{Script}
use Rattle.rpc_frame.specs.declared.frame.Frame.{Frame}
use Rattle.rpc_frame.specs.declared.frame.Frame.TheVariants as frames
use Rattle.entry_laws.specs.Entering.{is_used_name}
use Rattle.world_model.specs.Census.{brings}
use Rattle.world_model.specs.World.{World}
use Rattle.world_laws.specs.Places.{Beside}
use Rattle.world_laws.specs.Sights.{frames_to, is_born_in, stage_of}
use Rattle.world_laws.specs.Plays.{Lacks, begin, has_any, is_checkpoint_of, play, plays}
use Rattle.world_laws.specs.Names.{NameHolds, NameSight, PlaysTo, comes_to, forker, held_at, name_sight}
use Rattle.world_laws.specs.Invariant.{Holds}
use Rattle.world_laws.specs.Ways.{IsHere, way_sight}
use Rattle.world_laws.proofs.NameFacts.{begins-without, has_left}
use Rattle.rule_laws.proofs.own.NewNames.{drops, no-plays}
use Rattle.rule_laws.proofs.makes.NewOnes.{brought-nowhere, held-nowhere, plays-without}

no-checkpoint : (name : Name) (f : Frame) → brings name f ≡ false → is_checkpoint_of name f ≡ false
no-checkpoint name (frames.Checkpoint pid parent deed vars) h = h
no-checkpoint name f h = refl

-- where nothing brings a name no Checkpoint does
pub no-checkpoint-brought : (name : Name) (fs : List Frame) → filter (brings name) fs ≡ []
    → filter (is_checkpoint_of name) fs ≡ []
no-checkpoint-brought name [] h = refl
no-checkpoint-brought name (f ∷ fs) h =
    let both = drops (brings name f) f (filter (brings name) fs) h
    in ap (λ t. cond t (f ∷ filter (is_checkpoint_of name) fs) (filter (is_checkpoint_of name) fs))
    (no-checkpoint name f both.0)
    ∙ no-checkpoint-brought name fs both.1

-- then none comes
pub and-none : (t : Bool) → (t && false) ≡ false
and-none true = refl
and-none false = refl

module _ (script : Script) (w : World) (b : Beside) (holds : Holds script w [] b) (name : Name)
    (unused : is_used_name b.kernel name ≡ false) where
  abbrev x : NameSight
  x = name_sight script w [] b name

  known : NameHolds script b.pids (is_born_in w) name x
  known = holds.names name

  -- none comes to a node
  pub comes-none : (q : ℕ) → comes_to script w name q ≡ false
  comes-none q =
      ap (λ fs. not (nat_eq (forker script q) 1) && has_any fs)
      (no-checkpoint-brought name (frames_to w q (forker script q))
      (brought-nowhere script b.pids (is_born_in w) name x known unused q (forker script q)))
      ∙ and-none (not (nat_eq (forker script q) 1))

  module _ (q : ℕ) (way : IsHere (way_sight w q)) where
    stays-here : has_left (stage_of w q) ≡ false
    stays-here = elim way.stage [ inl e ↦ ap has_left e | inr e ↦ ap has_left e ]

    -- the node lacks it
    pub begins-lacks : begin (stage_of w q) (is_some (held_at w name q)) (comes_to script w name q) ≡ Lacks
    begins-lacks =
        begins-without (stage_of w q) (is_some (held_at w name q)) (comes_to script w name q) stays-here
        (ap (λ t. t || comes_to script w name q)
        (ap is_some (held-nowhere script b.pids (is_born_in w) name x known unused q)) ∙ comes-none q)

    -- and nothing on its way there brings it, takes it or needs it
    pub nothing-played : 2 ≤ q → plays false b.call name (frames_to w q 1) ≡ []
    nothing-played low =
        let was = subst (λ u. PlaysTo (x.begins q) (plays u b.call name (frames_to w q 1)) false) unused
        (plays-without script b.pids (is_born_in w) name x known unused q low)
        in no-plays false b.call name (frames_to w q 1) was.last
        (brought-nowhere script b.pids (is_born_in w) name x known unused q 1) way.shows.has_recalls
        (sym (ap (λ z. play z (plays false b.call name (frames_to w q 1))) begins-lacks) ∙ was.plays)
