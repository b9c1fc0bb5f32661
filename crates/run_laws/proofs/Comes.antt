-- In the world of a run each frame that a node may take passes the test of what may come: it is within the limits,
-- there is room for what it makes the node send, and no process comes whose number the node has still to give.
use Rattle.std.proofs.Common.{◌≡◌, ℕ, ◌≤◌, Bool, true, false, not, ◌&&◌, List, [], ◌∷◌, length, refl, ap, sym, subst, ◌∙◌, arith}
use Rattle.std.specs.List.{AllByRecursion}
use Rattle.std.proofs.lemmas.Bool.{lt-ltb}
use Rattle.pico_base.specs.declared.numbers.Name.{Name}
use Rattle.pico_base.specs.declared.script.Event.{Event}
use Rattle.pico_base.specs.declared.script.Event.TheVariants as events
use Rattle.pico_base.specs.declared.script.Script.{Script}
use Rattle.rpc_frame.specs.declared.deed.Parcel.{Parcel}
use Rattle.rpc_frame.specs.declared.frame.Frame.{Frame}
use Rattle.rpc_frame.specs.declared.frame.Frame.TheVariants as frames
use Rattle.frame_bytes.specs.Limits.{is_frame}
use Rattle.kernel_model.specs.Script.{IsSoundScript}
use Rattle.entry_laws.specs.Entering.{is_used_name}
use Rattle.node_model.specs.Kinds.{kind_of, number_of}
use Rattle.node_model.specs.Leases.{leases_hold}
use Rattle.world_model.specs.Ends.{names_in}
use Rattle.world_model.specs.Turn.{has_room_for, is_given_out, may_come}
use Rattle.world_model.specs.World.{World, is_enabled, step}
use Rattle.world_laws.specs.ByRules.{step_by_rules}
use Rattle.world_laws.specs.Invariant.{Holds}
use Rattle.world_laws.specs.Places.{Beside}
use Rattle.world_laws.specs.Ranges.{kind_sight}
use Rattle.world_laws.specs.Sights.{is_born_in, node_of}
use Rattle.world_laws.proofs.ByRules.{come-by-rules}
use Rattle.world_laws.proofs.Heads.{head-may-be}
use Rattle.world_laws.proofs.Numbers.{used-is-taken}
use Rattle.world_laws.proofs.Steps.{Heads, frames-low}
use Rattle.rule_laws.proofs.Births.{checkpoint-is-used}
use Rattle.rule_laws.proofs.Enabled.{IsTaken, enabled-takes}
use Rattle.rule_laws.proofs.ends.Lefts.{IsBroughtHere, is-brought}
use Rattle.rule_laws.proofs.ends.Releases.{on-its-way-is-used}
use Rattle.route_laws.proofs.exits.Arrivals.{has-is-one, is_one_of}
use Rattle.route_laws.proofs.exits.ExitTos.{none-held-of}
use Rattle.bound_laws.specs.Bounded.{IsBounded}
use Rattle.bound_laws.proofs.Ready.{Ready, bounded-is-ready}
use Rattle.limit_laws.specs.Within.{IsFrameWithin}
use Rattle.limit_laws.proofs.Turns.{sent-frames-pass}
use Rattle.world_limit_laws.specs.Within.{IsWorldWithin}
use Rattle.world_limit_laws.proofs.FewDeeds.{few-deeds}

module _ (script : Script) (sound : IsSoundScript script) (w : World) (b : Beside) (holds : Holds script w [] b)
    (bounded : IsBounded script w []) (within : IsWorldWithin script w) where
  ready : Ready script w [] b
  ready = bounded-is-ready script sound w [] b holds bounded

  -- a number in use is no node's to give
  not-leased : (p : ℕ) → 1 ≤ p → (name : Name) → is_used_name b.kernel name ≡ true
      → leases_hold (node_of w p).leases name ≡ false
  not-leased p low name used =
      used-is-taken (is_born_in w) (kind_sight w b.kernel (kind_of name)) (holds.kinds (kind_of name)) (number_of name)
      p low used

  -- the processes that come home are in use
  home-given-out : (q : ℕ) (parcel : Parcel) (rest : List Frame) → Heads script w 1 q (frames.Left parcel) rest
      → is_given_out (node_of w 1) (frames.Left parcel) ≡ true
  home-given-out q parcel rest h =
      ap not
      (none-held-of (leases_hold (node_of w 1).leases) parcel.deeds
      (λ name e. not-leased 1 h.low name (used name e)))
    where
      used : (name : Name) → is_one_of name (names_in parcel) ≡ true → is_used_name b.kernel name ≡ true
      used name e =
          let at : IsBroughtHere b.pids name (b.body name) (b.deed name) q parcel =
          is-brought script w b holds q parcel rest h name (sym (has-is-one name parcel) ∙ e)
          in on-its-way-is-used script w b holds ready.at_nodes name q at.deed_is

  given-out : (p q : ℕ) (frame : Frame) (rest : List Frame) → Heads script w p q frame rest
      → is_given_out (node_of w p) frame ≡ true
  given-out p q (frames.Checkpoint pid parent deed vars) rest h =
      ap not
      (not-leased p h.low deed.name
      (checkpoint-is-used script w b holds ready.reads p q pid parent deed vars rest h))
  given-out p q (frames.Left parcel) rest h =
      let first : p ≡ 1 = head-may-be script w p q (frames.Left parcel) rest h (is_born_in w) holds.frames_fit
      in subst (λ y. is_given_out (node_of w y) (frames.Left parcel) ≡ true) (sym first)
      (home-given-out q parcel rest (subst (λ y. Heads script w y q (frames.Left parcel) rest) first h))
  given-out p q frame rest h = refl

  all-three : (a c d : Bool) → (a && c) ≡ true → d ≡ true → (a && (c && d)) ≡ true
  all-three true true true e f = refl
  all-three true true false e f = f
  all-three true false d e f = e
  all-three false c d e f = e

  -- The first frame of a stream may come.
  pub first-may-come : (p q : ℕ) (frame : Frame) (rest : List Frame) → Heads script w p q frame rest
      → may_come (node_of w p) q frame ≡ true
  unfolding may_come
  first-may-come p q frame rest h =
      let there : AllByRecursion IsFrameWithin (frame ∷ rest) =
      subst (AllByRecursion IsFrameWithin) (frames-low w p q h.low h.low_from ∙ h.head) (within.streams p q)
      in let few = few-deeds script sound w [] b holds p (bounded.nodes p h.low h.high)
      in let pass =
      sent-frames-pass (node_of w p) q frame there.0
      (lt-ltb (length (node_of w p).deeds.processes) 256 (omega (arith, few)))
      in all-three (is_frame frame) (has_room_for (node_of w p) q frame) (is_given_out (node_of w p) frame) pass.1
      (given-out p q frame rest h)

  -- So the step of an enabled event is the one by the rules.
  pub enabled-by-rules : (e : Event) → is_enabled w e ≡ true → step w e ≡ step_by_rules w e
  enabled-by-rules (events.Run p) enabled = refl
  enabled-by-rules (events.Take p q) enabled =
      let t : IsTaken script w p q = enabled-takes script w p q holds.shape enabled
      in come-by-rules script w p q t.frame t.rest holds.shape t.heads
      (first-may-come p q t.frame t.rest t.heads)
