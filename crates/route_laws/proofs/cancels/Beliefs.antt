-- Who is believed to have a queue or a set: the owner that the leader knows; or, once it is used, its maker, which
-- isn't the leader then.
use Rattle.std.proofs.Common.{Contains, List, None, Some, [], ap, false, is_some, refl, sym, true, ℕ, ◌∙◌, ◌∷◌, ◌≡◌}
use Rattle.std.proofs.lemmas.Bool.{eq-eqb, false≢true}
use Rattle.std.proofs.lemmas.List.Elements.{Contains-append_left, Contains-push}
use Rattle.pico_base.specs.declared.numbers.Name.TheVariants.{Msg, Proc, Sem}
use Rattle.pico_base.specs.declared.numbers.Name.{Name}
use Rattle.pico_base.specs.declared.script.Script.{Script}
use Rattle.node_model.specs.Directory.{At, Directory, maker, place_of, stays}
use Rattle.node_model.specs.Kinds.{is_object}
use Rattle.node_model.specs.declared.held.Held.{Held}
use Rattle.world_model.specs.World.{World}
use Rattle.entry_laws.specs.Entering.{is_used_name}
use Rattle.world_laws.specs.Cancels.{Owing}
use Rattle.world_laws.specs.Invariant.{FramesFit, HoldsOwing}
use Rattle.world_laws.specs.Names.{HasMakerThatStays, IsTold, NameHolds, NameSight, SaysOf, belief_of, is_nowhere, maker_tells, name_sight}
use Rattle.world_laws.specs.Places.{Beside}
use Rattle.world_laws.specs.Plays.{believed, is_there, placed_in, told}
use Rattle.world_laws.specs.Sights.{directory_of, frames_to, is_born_in}

none-is-some : {T : Type 0} (a : T) → None ≡ Some a → ⊥
none-is-some a h = false≢true (ap is_some h)

-- what a maker tells of a queue or a set is its own node
says-itself : (pids : ℕ → ℕ) (name : Name) (sender node : ℕ) → is_object name ≡ true → SaysOf pids name sender node
    → node ≡ sender
says-itself pids (Proc pid) sender node object says = absurd (false≢true object)
says-itself pids (Msg id) sender node object says = says
says-itself pids (Sem id) sender node object says = says

not-nowhere : true ≡ false → ⊥
not-nowhere h = false≢true (sym h)

-- who is told first is believed
told-there : (nodes : List ℕ) (node : ℕ) → ((n : ℕ) → Contains nodes n → n ≡ node) → is_nowhere (told nodes) ≡ false
    → is_there node (told nodes) ≡ true
told-there [] node all h = absurd (not-nowhere h)
told-there (n ∷ nodes) node all h =
    eq-eqb n node
    (all n (Contains-append_left (n ∷ []) nodes n (Contains-push [] n)))

-- a name that isn't known and has no maker that stays but the leader
pub record IsNobodys (d : Directory) (name : Name) : Type 0 where
  pub place : place_of d name ≡ None
  pub makes : (node : ℕ) → maker d name ≡ Some node → stays d node ≡ true → node ≡ 1

module _ (script : Script) (w : World) (hand : List Held) (owes : Owing) (b : Beside)
    (holds : HoldsOwing script w hand owes b) (name : Name) (object : is_object name ≡ true) where
  abbrev x : NameSight
  x = name_sight script w hand b name

  abbrev d : Directory
  d = directory_of w

  known : NameHolds script b.pids (is_born_in w) name x
  known = holds.names name

  -- the owner
  pub owner-believed : (node : ℕ) → place_of d name ≡ Some (At node) → is_there node (belief_of x) ≡ true
  owner-believed node place =
      ap (λ o. is_there node (believed o (maker_tells x x.maker))) place ∙ eq-eqb node node refl

  belief-told : (node : ℕ) → place_of d name ≡ None → maker d name ≡ Some node
      → belief_of x ≡ told (x.placed node)
  belief-told node place makes =
      ap (λ o. believed o (maker_tells x x.maker)) place ∙ ap (λ m. told (maker_tells x m)) makes

  tells-itself : (node n : ℕ) → Contains (x.placed node) n → n ≡ node
  tells-itself node n there =
      let says : IsTold b.pids name x.used x.maker node n = known.told node n there
      in says-itself b.pids name node n object says.says

  -- the maker of a name that is used but isn't known
  pub maker-believed : (node : ℕ) → place_of d name ≡ None → maker d name ≡ Some node
      → is_used_name b.kernel name ≡ true → is_there node (belief_of x) ≡ true
  maker-believed node place makes used =
      ap (is_there node) (belief-told node place makes)
      ∙ told-there (x.placed node) node (tells-itself node)
      (ap is_nowhere (sym (belief-told node place makes)) ∙ known.believed used)

  -- a name that is nobody's isn't used: it would have been made at the leader, which knows what it makes
  pub nobodys-unused : IsNobodys d name → is_used_name b.kernel name ≡ true → ⊥
  nobodys-unused nobody used =
      let m : HasMakerThatStays x.maker x.stays = known.unplaced used nobody.place
      in let first : m.node ≡ 1 = nobody.makes m.node m.makes m.stays
      in not-nowhere
      (sym (ap is_nowhere (belief-told m.node nobody.place m.makes)
      ∙ ap (λ node. is_nowhere (told (placed_in name (frames_to w 1 node)))) first
      ∙ ap (λ fs. is_nowhere (told (placed_in name fs))) (fit.none_to_itself 1))
      ∙ known.believed used)
    where
      fit : FramesFit script (is_born_in w) (frames_to w)
      fit = holds.frames_fit
