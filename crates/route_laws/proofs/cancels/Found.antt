-- Where the leader sends a withdrawal it may follow its call, which has left its caller: that is on its way to the same
-- node, is held for the same name, or waits. Where the leader sends it nowhere the call doesn't come to wait.
use Rattle.std.proofs.Common.{Bool, List, None, Option, Some, ap, arith, false, is_none, is_some, not, refl, sym, true, ℕ, ◌∙◌, ◌≡◌, ◌≤◌}
use Rattle.std.proofs.lemmas.Bool.{eq-eqb, false≢true}
use Rattle.pico_base.specs.declared.call.Call.{Call}
use Rattle.pico_base.specs.declared.numbers.Name.{Name}
use Rattle.pico_base.specs.declared.script.Script.{Script}
use Rattle.waiting_model.specs.Calls.{waits_at}
use Rattle.node_model.specs.Directory.{At, Coming, Directory, Place, maker, place_of, stays}
use Rattle.node_model.specs.declared.held.Held.{Held}
use Rattle.world_model.specs.World.{World, node_count}
use Rattle.entry_laws.specs.Entering.{is_used_name}
use Rattle.world_laws.proofs.Cancels.{may_be_withdrawn}
use Rattle.world_laws.proofs.Following.{WaitsAt, waits-at}
use Rattle.world_laws.proofs.Named.{same-name}
use Rattle.world_laws.specs.Cancels.{LeadsNowhere, Owing, cancel_sight, may_follow}
use Rattle.world_laws.specs.Invariant.{HoldsOwing}
use Rattle.world_laws.specs.Names.{NameHolds, NameSight, name_sight, node_in}
use Rattle.world_laws.specs.Places.{Beside, CallPlace, CancelHeld, IsHeld, SentByPlace, SentByRange, SentTo, Waits}
use Rattle.world_laws.specs.Sights.{directory_of, is_born_in, node_of}
use Rattle.route_laws.proofs.cancels.Beliefs.{IsNobodys, maker-believed, nobodys-unused, owner-believed}
use Rattle.route_laws.proofs.cancels.Deeds.{believed-at, deed-is-used}
use Rattle.route_laws.proofs.cancels.Whereabouts.{by-place-at, by-place-to, by-range-at, by-range-to, by-range-to-maker, held-for-it, held-is-coming, is_out, waits-at-used}

none-is-some : {T : Type 0} (a : T) → None ≡ Some a → ⊥
none-is-some a h = false≢true (ap is_some h)

some-is-none : {T : Type 0} (a : T) → Some a ≡ None → ⊥
some-is-none a h = false≢true (sym (ap is_some h))

abbrev is_coming_place : Option Place → Bool
is_coming_place (Some (Coming to items)) = true
is_coming_place place = false

some-node : (a c : ℕ) → Some a ≡ Some c → a ≡ c
some-node a c h = cc

not-nowhere : true ≡ false → ⊥
not-nowhere h = false≢true (sym h)

module _ (script : Script) (w : World) (hand : List Held) (owes : Owing) (b : Beside)
    (holds : HoldsOwing script w hand owes b) (p : ℕ) (low : 1 ≤ p) (high : p ≤ node_count script) (call : Call)
    (is : (node_of w p).caller.under_way ≡ Some call)
    (may : may_be_withdrawn (node_of w p).pid call ≡ true) where
  abbrev name : Name
  name = waits_at (node_of w p).pid call

  abbrev x : NameSight
  x = name_sight script w hand b name

  abbrev d : Directory
  d = directory_of w

  known : NameHolds script b.pids (is_born_in w) name x
  known = holds.names name

  at : WaitsAt (node_of w p).pid call
  at = waits-at (node_of w p).pid call may

  -- a call isn't held for a name that isn't on its way to the leader
  not-held : (m : Name) → b.call p ≡ IsHeld m → is_coming_place (place_of d name) ≡ false → ⊥
  not-held m e away =
      let coming = held-is-coming script w hand owes b holds p low high call is may m e
      in not-nowhere (sym (ap is_coming_place coming.2) ∙ away)

  -- a node where the deed is, or that it is on its way to, is where the call is on its way to
  follows-to-deed : (node : ℕ) → node_in x.deed ≡ node → is_used_name b.kernel name ≡ true
      → is_coming_place (place_of d name) ≡ false → is_out (b.call p) ≡ true
      → may_follow (SentTo node) (b.call p) ≡ true
  follows-to-deed node deed used away out = by (b.call p) refl out
    where
      by : (place : CallPlace) → b.call p ≡ place → is_out place ≡ true → may_follow (SentTo node) place ≡ true
      by (SentByPlace h) e out =
          eq-eqb node h (sym deed ∙ by-place-at script w hand owes b holds p low high call is may h e)
      by (SentByRange h) e out =
          eq-eqb node h (sym deed ∙ by-range-at script w hand owes b holds p low high call is may h e used)
      by (IsHeld m) e out = absurd (not-held m e away)
      by (Waits m) e out = refl
      by place e out = absurd (false≢true out)

  -- who is known as the owner has the deed
  pub owner-has-deed : (node : ℕ) → 1 ≤ node → place_of d name ≡ Some (At node) → node_in x.deed ≡ node
  owner-has-deed node low_to place =
      believed-at script w hand b name known at.object node low_to
      (owner-believed script w hand owes b holds name at.object node place)

  -- To the owner: the call is on its way there, or waits there.
  pub follows-to-owner : (node : ℕ) → 1 ≤ node → place_of d name ≡ Some (At node) → is_out (b.call p) ≡ true
      → may_follow (SentTo node) (b.call p) ≡ true
  follows-to-owner node low_to place out =
      follows-to-deed node (owner-has-deed node low_to place)
      (known.known (ap is_some place)) (ap is_coming_place place) out

  -- a name that is used but isn't known is where it was made
  pub maker-has-deed : (node : ℕ) → 1 ≤ node → place_of d name ≡ None → maker d name ≡ Some node
      → is_used_name b.kernel name ≡ true → node_in x.deed ≡ node
  maker-has-deed node low_to place makes used =
      believed-at script w hand b name known at.object node low_to
      (maker-believed script w hand owes b holds name at.object node place makes used)

  -- To the maker of a name that isn't known: the call is on its way there, or waits there.
  pub follows-to-maker : (node : ℕ) → 1 ≤ node → place_of d name ≡ None → maker d name ≡ Some node
      → is_out (b.call p) ≡ true
      → may_follow (SentTo node) (b.call p) ≡ true
  follows-to-maker node low_to place makes out = by (b.call p) refl out
    where
      some-same : (a c : ℕ) → Some a ≡ Some c → a ≡ c
      some-same a c h = cc

      by : (z : CallPlace) → b.call p ≡ z → is_out z ≡ true → may_follow (SentTo node) z ≡ true
      by (SentByRange h) e out =
          eq-eqb node h
          (some-same node h (sym makes ∙ by-range-to-maker script w hand owes b holds p low high call is may h e))
      by (SentByPlace h) e out =
          let deed = by-place-at script w hand owes b holds p low high call is may h e
          in let to = by-place-to script w hand owes b holds p low high call is may h e
          in let used = deed-is-used script w hand b (waits_at (node_of w p).pid call) known at.object h
          (omega (arith, to)) deed
          in eq-eqb node h (sym (maker-has-deed node low_to place makes used) ∙ deed)
      by (IsHeld m) e out = absurd (not-held m e (ap is_coming_place place))
      by (Waits m) e out = refl
      by z e out = absurd (false≢true out)

  -- To what is held for the name: the call is held in front, or on its way, or it waits.
  pub follows-to-held : is_out (b.call p) ≡ true → may_follow (CancelHeld name) (b.call p) ≡ true
  follows-to-held out = by (b.call p) refl out
    where
      by : (z : CallPlace) → b.call p ≡ z → is_out z ≡ true
          → may_follow (CancelHeld (waits_at (node_of w p).pid call)) z ≡ true
      by (SentByRange h) e out = refl
      by (SentByPlace h) e out = refl
      by (IsHeld m) e out =
          same-name (waits_at (node_of w p).pid call) m
          (sym (held-for-it script w hand owes b holds p low high call is may m e))
      by (Waits m) e out = refl
      by z e out = absurd (false≢true out)

  -- ---- to nobody

  module _ (nobody : IsNobodys d name) where
    unused : is_used_name b.kernel name ≡ true → ⊥
    unused = nobodys-unused script w hand owes b holds name at.object nobody

    leaves-by : (h : ℕ) → 2 ≤ h → maker d name ≡ Some h → (t : Bool) → stays d h ≡ t → stays d h ≡ false
    leaves-by h low_to makes true e = let one = nobody.makes h makes e in absurd (omega (arith, one, low_to))
    leaves-by h low_to makes false e = e

    -- The call goes to a node that leaves.
    pub goes-nowhere : is_out (b.call p) ≡ true → LeadsNowhere (cancel_sight w hand b p) name
    goes-nowhere out = by (b.call p) refl out
      where
        by : (z : CallPlace) → b.call p ≡ z → is_out z ≡ true
            → LeadsNowhere (cancel_sight w hand b p) (waits_at (node_of w p).pid call)
        by (SentByRange h) e out =
            record {
              node = h;
              is = e;
              leaves = leaves-by h (by-range-to script w hand owes b holds p low high call is may h e)
                  (by-range-to-maker script w hand owes b holds p low high call is may h e)
                  (stays (directory_of w) h) refl;
              unknown = ap (λ o. not (is_none o)) nobody.place;
            }
        by (SentByPlace h) e out =
            let to = by-place-to script w hand owes b holds p low high call is may h e
            in absurd
            (unused
            (deed-is-used script w hand b (waits_at (node_of w p).pid call) known at.object h (omega (arith, to))
            (by-place-at script w hand owes b holds p low high call is may h e)))
        by (IsHeld m) e out = absurd (not-held m e (ap is_coming_place nobody.place))
        by (Waits m) e out =
            absurd (unused (waits-at-used script w hand owes b holds p low high call is may m e))
        by z e out = absurd (false≢true out)
