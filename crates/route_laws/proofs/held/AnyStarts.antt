-- Any node that can run starts a call of its process that others may carry out, the leader as well.
use Rattle.std.proofs.Common.{◌≡◌, ℕ, ◌≤◌, true, [], sym, subst, inl, inr}
use Rattle.std.proofs.lemmas.Bool.{cases_eq}
use Rattle.pico_base.specs.declared.script.Event.TheVariants as events
use Rattle.pico_base.specs.declared.script.Script.{Script}
use Rattle.pico_base.specs.Home.{home_of}
use Rattle.kernel_model.specs.Script.{IsSoundScript}
use Rattle.world_model.specs.Calls.{is_for_others}
use Rattle.world_model.specs.Node.{can_run}
use Rattle.world_model.specs.World.{World, node_count}
use Rattle.world_laws.specs.Places.{Beside}
use Rattle.world_laws.specs.Sights.{node_of}
use Rattle.world_laws.specs.Invariant.{Holds}
use Rattle.rule_laws.proofs.own.Moved.{AfterRun}
use Rattle.rule_laws.proofs.own.OwnCases.{Keeps}
use Rattle.rule_laws.proofs.own.Runs.{Starts}
use Rattle.route_laws.specs.Ready.{HasFewNodes, IsReady}
use Rattle.route_laws.proofs.first.OwnStarts.{first-starts}
use Rattle.route_laws.proofs.held.OtherStarts.{others-start}

-- node p can run, and starts any call that others may carry out
abbrev pub StartsForOthers : Script → World → Beside → ℕ → Type 0
StartsForOthers script w b p =
    p ≤ node_count script → can_run (node_of w p) ≡ true → (s : Starts script w b p)
    → is_for_others (home_of (node_of w p).pid s.call) ≡ true → Keeps script w (events.Run p) (AfterRun b p)

-- Any node starts any such call.
pub any-starts : (script : Script) → IsSoundScript script → (w : World) (b : Beside) → Holds script w [] b
    → HasFewNodes script → IsReady (node_of w 1) → (p : ℕ) → 1 ≤ p → StartsForOthers script w b p
any-starts script sound w b holds few ready p low =
    elim (cases_eq p 1) [
      | inl e ↦
          subst (λ y. StartsForOthers script w b y) (sym e)
          (λ high can s others. first-starts script sound w b holds high can s few ready others)
      | inr other ↦
          λ high can s others. others-start script sound w b holds p low high can s other few others
    ]
