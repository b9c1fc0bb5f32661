-- A node serves a call of its process on the process itself: getpid, the calls on signals, kill of oneself, and
-- waitpid,
-- which may have to wait.
use Rattle.std.proofs.Common.{◌≡◌, ℕ, ◌+◌, ◌≤◌, true, List, [], Option, Some, refl, ap, sym, ◌∙◌}
use Rattle.std.specs.Option.{option_map}
use Rattle.std.proofs.lemmas.Bool.{false≢true}
use Rattle.pico_base.specs.declared.call.Call.{Call}
use Rattle.pico_base.specs.declared.call.Call.TheVariants as calls
use Rattle.pico_base.specs.declared.call.Home.{Home}
use Rattle.pico_base.specs.declared.call.Home.TheVariants as homes
use Rattle.pico_base.specs.declared.numbers.Name.{Name}
use Rattle.pico_base.specs.declared.numbers.Name.TheVariants.{Proc}
use Rattle.pico_base.specs.declared.reply.Reply.{Reply}
use Rattle.pico_base.specs.declared.script.Script.{Script}
use Rattle.pico_base.specs.Home.{home_of}
use Rattle.kernel_model.specs.Row.{Row}
use Rattle.kernel_model.specs.Script.{IsSoundScript}
use Rattle.waiting_model.specs.declared.callers.Waiting.{Waiting}
use Rattle.waiting_model.specs.declared.callers.Wake.{Wake}
use Rattle.waiting_model.specs.Linear.{at_once}
use Rattle.entry_laws.proofs.Bodies.{living-body}
use Rattle.entry_laws.proofs.Holding.{ServesHere, served_deeds, serves-here}
use Rattle.node_model.specs.Awaiting.{Applied, on_own}
use Rattle.node_model.specs.Bodies.{Deeds, Living as LivingBody, body_in}
use Rattle.node_model.specs.Caller.{start_call}
use Rattle.node_model.specs.Carrying.{is_own, is_own_home, is_served}
use Rattle.node_model.specs.Entries.{outcome_with}
use Rattle.node_model.specs.Kinds.{get_named, put_all}
use Rattle.node_model.specs.Serving.{name_for, name_in, serve}
use Rattle.world_model.specs.Node.{Node, asked_here, can_run}
use Rattle.world_model.specs.Starting.{act, carry_out_own, run, start_by, start_own}
use Rattle.world_model.specs.Step.{Step, enter_with, reply_if, step_to, wake_all, with_deeds}
use Rattle.world_model.specs.World.{World, node_count}
use Rattle.world_laws.specs.Places.{Beside}
use Rattle.world_laws.specs.Sights.{node_of}
use Rattle.world_laws.specs.Invariant.{Holds}
use Rattle.rule_laws.proofs.own.OwnResults.{own-wakes}
use Rattle.rule_laws.proofs.own.Runs.{Starts, run-is}

home-own : (home : Home) → is_own_home home ≡ true → home ≡ homes.Own
home-own homes.Own h = refl
home-own homes.Keys h = absurd (false≢true h)
home-own (homes.At name) h = absurd (false≢true h)
home-own (homes.Removal name) h = absurd (false≢true h)
home-own homes.Parent h = absurd (false≢true h)

-- one that is served takes no number
acts : (script : Script) (step : Step) (call : Call) → is_served (at_once call) ≡ true
    → start_own script step call ≡ act script step call
acts script step (calls.Fork block) h = absurd (false≢true h)
acts script step (calls.MsgGet key create excl) h = absurd (false≢true h)
acts script step (calls.SemGet key count create excl) h = absurd (false≢true h)
acts script step call h = refl

module _ (script : Script) (sound : IsSoundScript script) (w : World) (b : Beside) (holds : Holds script w [] b) (p : ℕ)
    (low : 1 ≤ p) (high : p ≤ node_count script) (can : can_run (node_of w p) ≡ true) (s : Starts script w b p)
    (own : is_own (node_of w p).pid s.call ≡ true) (served : is_served (at_once s.call) ≡ true) where
  abbrev n : Node
  n = node_of w p

  abbrev pid : ℕ
  pid = b.pids p

  abbrev name : Name
  name = Proc pid

  abbrev call : Call
  call = s.call

  pub pid-is : n.pid ≡ pid
  pid-is = s.birth.pid_is

  pub own-call : is_own pid call ≡ true
  own-call = ap (λ (q : ℕ). is_own q call) (sym pid-is) ∙ own

  -- its home is the process itself
  pub home-is : home_of pid call ≡ homes.Own
  home-is = home-own (home_of pid call) own-call

  pub named : name_for pid call ≡ Some name
  named = ap (name_in pid) home-is

  -- the caller, as it would wait
  abbrev who-as : ℕ → Waiting
  who-as q = record { caller = n.number; ticket = n.caller.ticket + 1; pid = q; call = call }

  abbrev pub own_caller : Waiting
  own_caller = who-as pid

  body-is : LivingBody s.row ≡ body_in b.kernel name
  body-is = sym (living-body b.kernel pid s.alive s.lives ∙ ap LivingBody s.row_is)

  held : get_named n.deeds name ≡ Some (LivingBody s.row)
  held = ap (λ (q : ℕ). get_named n.deeds (Proc q)) (sym pid-is) ∙ s.has_row

  -- It is served on the process's row.
  pub serves : ServesHere n.deeds name (LivingBody s.row) own_caller
  serves = serves-here b.kernel name (LivingBody s.row) own_caller n.deeds s.may served named held body-is

  -- what is left of the row, and the reply
  abbrev pub own_result : Applied Row
  own_result = on_own s.row pid call

  abbrev pub own_deeds : Deeds
  own_deeds = served_deeds n.deeds name (LivingBody own_result.left) own_result.own

  abbrev started : Node
  started = record n { caller = start_call n.caller call }

  -- the step, by the deeds, the reply and the woken
  abbrev result-of : Deeds → Option Reply → List Wake → Step
  result-of deeds reply wakes =
      wake_all script
      (reply_if script (enter_with (with_deeds (step_to started) deeds) n.pid call (outcome_with reply wakes))
      (asked_here started call) reply) wakes

  -- The rule carries it out here.
  pub own-rule : run script n ≡ Some (result-of own_deeds own_result.own [])
  own-rule =
      run-is script sound w b holds p low high can s
      ∙ ap (start_by script (step_to started) call s.row) (home-own (home_of n.pid call) own)
      ∙ acts script (step_to started) call served
      ∙ ap (option_map (carry_out_own script (step_to started) call))
      (ap (λ (q : ℕ). serve n.deeds (who-as q)) pid-is ∙ serves.serves)
      ∙ ap (λ o. Some (result-of (put_all n.deeds serves.served.changes) o serves.served.wakes)) serves.own
      ∙ ap (λ ws. Some (result-of (put_all n.deeds serves.served.changes) own_result.own ws))
      (serves.wakes ∙ own-wakes s.row pid call)
      ∙ ap (λ ds. Some (result-of ds own_result.own [])) serves.deeds_are
