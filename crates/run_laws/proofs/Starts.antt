-- Each call that a node may start has a step, and keeps all.
use Rattle.std.proofs.Common.{◌≡◌, ℕ, ◌≤◌, true, [], refl, ap, sym, subst, inl, inr}
use Rattle.std.proofs.lemmas.Bool.{cases_eq}
use Rattle.pico_base.specs.declared.call.Home.{Home}
use Rattle.pico_base.specs.declared.call.Home.TheVariants as homes
use Rattle.pico_base.specs.declared.script.Event.TheVariants as events
use Rattle.pico_base.specs.declared.script.Script.{Script}
use Rattle.pico_base.specs.Home.{home_of}
use Rattle.kernel_model.specs.Script.{IsSoundScript}
use Rattle.node_model.specs.Carrying.{is_own_home}
use Rattle.world_model.specs.Calls.{is_for_others}
use Rattle.world_model.specs.Node.{can_run}
use Rattle.world_model.specs.World.{World, is_enabled, node_count}
use Rattle.world_laws.specs.Invariant.{Holds}
use Rattle.world_laws.specs.Places.{Beside}
use Rattle.world_laws.specs.Sights.{node_of}
use Rattle.rule_laws.proofs.own.Enabled.{IsRun, enabled-runs, enabled-starts}
use Rattle.rule_laws.proofs.own.Moved.{AfterRun, is_still}
use Rattle.rule_laws.proofs.own.OwnCases.{Keeps}
use Rattle.rule_laws.proofs.own.Runs.{Starts}
use Rattle.rule_laws.proofs.makes.Makes.{own-call-starts}
use Rattle.route_laws.proofs.held.AnyStarts.{any-starts}
use Rattle.route_laws.proofs.exits.FirstEnds.{first-end-keeps}
use Rattle.bound_laws.specs.Bounded.{IsBounded}
use Rattle.bound_laws.proofs.Ready.{Ready, bounded-is-ready}
use Rattle.run_laws.proofs.Middle.{leader-is-ready}
use Rattle.run_laws.proofs.Leaves.{leave-starts}
use Rattle.bound_laws.proofs.Ranges.{few-blocks}

module _ (script : Script) (sound : IsSoundScript script) (w : World) (b : Beside) (holds : Holds script w [] b)
    (bounded : IsBounded script w []) where
  ready : Ready script w [] b
  ready = bounded-is-ready script sound w [] b holds bounded

  -- ---- the end of a process

  -- node p can run, and starts the call that ends its process
  abbrev StartsEnd : ℕ → Type 0
  StartsEnd p =
      p ≤ node_count script → can_run (node_of w p) ≡ true → (s : Starts script w b p)
      → home_of (node_of w p).pid s.call ≡ homes.Parent → Keeps script w (events.Run p) (AfterRun b p)

  end-starts : (p : ℕ) → 1 ≤ p → StartsEnd p
  end-starts p low =
      elim (cases_eq p 1) [
        | inl e ↦
            subst (λ y. StartsEnd y) (sym e)
            (λ high can s is.
            record {
              beside = _;
              keeps = first-end-keeps script sound w b holds high can s is;
              after = inl (λ y. is_still refl);
            })
        | inr other ↦ λ high can s is. leave-starts script sound w b holds p low high can s other is
      ]

  -- ---- the event

  module _ (p : ℕ) (low : 1 ≤ p) (high : p ≤ node_count script) (can : can_run (node_of w p) ≡ true)
      (s : Starts script w b p) where
    for-others : is_for_others (home_of (node_of w p).pid s.call) ≡ true → Keeps script w (events.Run p) (AfterRun b p)
    for-others others =
        any-starts script sound w b holds (few-blocks script sound) (leader-is-ready script sound w [] b ready) p low
        high
        can s others

    by-home : (home : Home) → home_of (node_of w p).pid s.call ≡ home → Keeps script w (events.Run p) (AfterRun b p)
    by-home homes.Own is =
        own-call-starts script sound w b holds p low high can s ready.enough (ap is_own_home is)
    by-home (homes.At name) is = for-others (ap is_for_others is)
    by-home (homes.Removal name) is = for-others (ap is_for_others is)
    by-home homes.Keys is = for-others (ap is_for_others is)
    by-home homes.Parent is = end-starts p low high can s is

  -- Each enabled event that starts a call has a step, and keeps all.
  pub run-keeps : (p : ℕ) → is_enabled w (events.Run p) ≡ true → Keeps script w (events.Run p) (AfterRun b p)
  run-keeps p enabled =
      let r : IsRun script w p = enabled-runs script w p holds.shape enabled
      in let s : Starts script w b p = enabled-starts script w b p sound holds enabled
      in by-home p r.low r.high r.can s (home_of (node_of w p).pid s.call) refl
