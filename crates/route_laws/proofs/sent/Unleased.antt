-- A call that was sent by the range of a number comes to the node that has the range: the number is still to be given
-- out there, and names nothing; or it names something.
use Rattle.std.proofs.Common.{◌≡◌, ℕ, Bool, true, false, ◌&&◌, ◌||◌, not, List, [], ◌∷◌, ◌++◌, flat_map, nat_eq, Some, refl, ap, ◌∙◌}
use Rattle.std.specs.List.{list_any}
use Rattle.std.proofs.lemmas.Bool.{false≢true}
use Rattle.pico_base.specs.declared.numbers.Kind.{Kind}
use Rattle.pico_base.specs.declared.numbers.Name.{Name}
use Rattle.pico_base.specs.declared.script.Script.{Script}
use Rattle.rpc_frame.specs.declared.frame.Frame.{Frame}
use Rattle.rpc_frame.specs.declared.frame.Frame.TheVariants as frames
use Rattle.entry_laws.specs.Entering.{is_used_name}
use Rattle.node_model.specs.declared.held.Held.{Held}
use Rattle.node_model.specs.Kinds.{is_same_kind, kind_of, number_of}
use Rattle.node_model.specs.Directory.{maker}
use Rattle.node_model.specs.Leases.{lease_of, leases_hold}
use Rattle.world_model.specs.World.{World}
use Rattle.world_laws.specs.Places.{CallPlace, Beside}
use Rattle.world_laws.specs.Sights.{directory_of, frames_to, is_born_in, node_of}
use Rattle.world_laws.specs.Names.{IsLeased, IsSentThere, RangeStep, range_steps_if, range_steps_of}
use Rattle.world_laws.specs.Ranges.{KindHolds, KindSight, first_if, is_given, is_in_lease, kind_sight, lease_in}
use Rattle.world_laws.specs.Cancels.{Owing}
use Rattle.world_laws.specs.Invariant.{HoldsOwing}
use Rattle.route_laws.proofs.sent.Needed.{has_no_lease}

-- ---- the numbers on their way

module _ (used : Bool) (call : ℕ → CallPlace) (name : Name) where
  abbrev number : ℕ
  number = number_of name

  abbrev kind : Kind
  kind = kind_of name

  -- a lease that isn't for the name doesn't have its number
  not-in-lease : (first : ℕ) (firsts : List ℕ) (rs : List RangeStep) (same has : Bool)
      → has_no_lease (range_steps_if (same && has) IsLeased ++ rs) ≡ true
      → list_any (nat_eq number) (lease_of first) ≡ has
      → (has_no_lease rs ≡ true → list_any (is_in_lease number) firsts ≡ false)
      → list_any (is_in_lease number) (first_if same first ++ firsts) ≡ false
  not-in-lease first firsts rs true true h e rest = absurd (false≢true h)
  not-in-lease first firsts rs true false h e rest =
      ap (λ t. t || list_any (is_in_lease number) firsts) e ∙ rest h
  not-in-lease first firsts rs false has h e rest = rest h

  past-sent : (t : Bool) (rs : List RangeStep) → has_no_lease (range_steps_if t IsSentThere ++ rs) ≡ true
      → has_no_lease rs ≡ true
  past-sent true rs h = h
  past-sent false rs h = h

  -- where no lease with the name's number is on its way, none of the numbers on their way is that
  pub none-coming : (fs : List Frame) → has_no_lease (flat_map (range_steps_of used call name) fs) ≡ true
      → list_any (is_in_lease number) (flat_map (lease_in kind) fs) ≡ false
  none-coming [] h = refl
  none-coming (frames.Lease other first ∷ fs) h =
      not-in-lease first (flat_map (lease_in kind) fs) (flat_map (range_steps_of used call name) fs)
      (is_same_kind kind other) (list_any (nat_eq number) (lease_of first)) h refl (none-coming fs)
  none-coming (frames.Forward asked ∷ fs) h =
      none-coming fs (past-sent _ (flat_map (range_steps_of used call name) fs) h)
  none-coming (frames.Cancel asked ∷ fs) h =
      none-coming fs (past-sent _ (flat_map (range_steps_of used call name) fs) h)
  none-coming (frames.Ask ticket pid call ∷ fs) h = none-coming fs h
  none-coming (frames.Request ticket pid call ∷ fs) h = none-coming fs h
  none-coming (frames.Bounce asked ∷ fs) h = none-coming fs h
  none-coming (frames.Answer ticket reply ∷ fs) h = none-coming fs h
  none-coming (frames.NotOwner ticket ∷ fs) h = none-coming fs h
  none-coming (frames.LeaseAsk other ∷ fs) h = none-coming fs h
  none-coming (frames.Placed other node ∷ fs) h = none-coming fs h
  none-coming (frames.Checkpoint pid parent deed vars ∷ fs) h = none-coming fs h
  none-coming (frames.Suggest other node ∷ fs) h = none-coming fs h
  none-coming (frames.Recall other ∷ fs) h = none-coming fs h
  none-coming (frames.GiveBack deed ∷ fs) h = none-coming fs h
  none-coming (frames.Grant deed ∷ fs) h = none-coming fs h
  none-coming (frames.Leaving pid parent parent_node ∷ fs) h = none-coming fs h
  none-coming (frames.RecallAll ∷ fs) h = none-coming fs h
  none-coming (frames.Left parcel ∷ fs) h = none-coming fs h
  none-coming (frames.ExitTo parcel ∷ fs) h = none-coming fs h

-- ---- the name

module _ (script : Script) (w : World) (hand : List Held) {owes : Owing} (b : Beside)
    (holds : HoldsOwing script w hand owes b) (p : ℕ) (name : Name) (made : maker (directory_of w) name ≡ Some p) where
  abbrev x : KindSight
  x = kind_sight w b.kernel (kind_of name)

  kind-holds : KindHolds (is_born_in w) x
  kind-holds = holds.kinds (kind_of name)

  used-is : is_used_name b.kernel name
      ≡ not (leases_hold (node_of w p).leases name || list_any (is_in_lease (number_of name)) (x.coming p))
  used-is = kind-holds.used (number_of name) ∙ ap (is_given x (number_of name)) made

  -- a number that its maker has still to give out names nothing
  pub leased-unused : leases_hold (node_of w p).leases name ≡ true → is_used_name b.kernel name ≡ false
  leased-unused e =
      used-is ∙ ap (λ t. not (t || list_any (is_in_lease (number_of name)) (x.coming p))) e

  -- and one that it hasn't, and that isn't on its way there, names something
  pub given-used : leases_hold (node_of w p).leases name ≡ false
      → has_no_lease (flat_map (range_steps_of (is_used_name b.kernel name) b.call name) (frames_to w p 1)) ≡ true
      → is_used_name b.kernel name ≡ true
  given-used e none =
      used-is
      ∙ ap (λ t. not (t || list_any (is_in_lease (number_of name)) (x.coming p))) e
      ∙ ap not (none-coming (is_used_name b.kernel name) b.call name (frames_to w p 1) none)
