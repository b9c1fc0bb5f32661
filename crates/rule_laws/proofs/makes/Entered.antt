-- A call that took a number is in the history: the same step leads from the kernel in which callers wait, and that
-- stands
-- beside the world afterwards.
use Rattle.std.proofs.Common.{◌≡◌, ◌≢◌, ◌⊎◌, ℕ, true, List, [], ◌∷◌, ◌++◌, Some, None, refl, ap, sym, subst, ◌∙◌}
use Rattle.pico_base.specs.declared.call.Call.{Call}
use Rattle.pico_base.specs.declared.numbers.Kind.{Kind}
use Rattle.pico_base.specs.declared.numbers.Name.{Name}
use Rattle.pico_base.specs.declared.reply.Entry.{Entry}
use Rattle.pico_base.specs.declared.reply.Reply.{Reply}
use Rattle.pico_base.specs.declared.script.Event.{Event}
use Rattle.pico_base.specs.declared.script.Script.{Script}
use Rattle.rpc_frame.specs.declared.frame.Frame.{Frame}
use Rattle.kernel_model.specs.Fitting.{places_after}
use Rattle.kernel_model.specs.Kernel.{Kernel, living_at}
use Rattle.kernel_model.specs.Row as plain_rows
use Rattle.kernel_model.specs.Transition.{may_make}
use Rattle.waiting_laws.proofs.Leads.{StepsAlike, is_of_process, own-leads}
use Rattle.entry_laws.specs.Entering.{Makes}
use Rattle.node_model.specs.Bodies.{bare, body_in, waiters_of}
use Rattle.node_model.specs.Caller.{caller_place}
use Rattle.node_model.specs.Entries.{entry_by}
use Rattle.world_model.specs.Node.{Node}
use Rattle.world_model.specs.World.{World}
use Rattle.world_laws.specs.Places.{Beside, CallPlace}
use Rattle.world_laws.specs.Invariant.{Holds}
use Rattle.world_laws.specs.Wholes.{HasMarks, HasWhole, under_way_at}
use Rattle.world_laws.proofs.Changes.{Changes}
use Rattle.world_laws.proofs.Wholes.{LivesAlike, lives-alike}
use Rattle.rule_laws.proofs.own.Alone.{does-at-once}
use Rattle.rule_laws.proofs.own.InWhole.{EntersAlone, IsNewProcess}
use Rattle.rule_laws.proofs.makes.Numbered.{numbered-counts-not, numbered-parks-not, numbered-waits-not, numbered-withdraws-not}
use Rattle.rule_laws.proofs.makes.Ready.{calls-now, others-same}
use Rattle.rule_laws.proofs.makes.Sources.{Origin, Source, takes_by}
use Rattle.rule_laws.proofs.makes.Taken.{history-after}

some-same : (a c : plain_rows.Alive) → Some a ≡ Some c → a ≡ c
some-same a c h = cc

module _ (script : Script) (w : World) (b : Beside) (holds : Holds script w [] b) (p : ℕ) (call : Call) (kind : Kind)
    (number : ℕ) (numbers : List ℕ) (o : Origin) (e : Event)
    (s : Source script w b p call kind number numbers o e) (reply : Reply) (after : Kernel)
    (makes : Makes b.kernel (b.pids p) call reply after) where
  abbrev pid : ℕ
  pid = b.pids p

  whole-is : HasWhole w b
  whole-is = holds.whole

  its : LivesAlike b.whole pid s.may.alive
  its = lives-alike b.whole b.kernel pid s.may.alive whole-is.alike s.may.lives

  -- The step of the kernel in which callers wait.
  pub made-whole : StepsAlike b.whole pid call reply after
  made-whole =
      own-leads b.whole b.kernel after pid its.alive call reply whole-is.sound whole-is.alike
      (ap is_of_process (s.takes.home pid)) its.lives (s.may_whole its.alive its.lives)
      (numbered-waits-not its.alive kind call s.takes.takes)
      (does-at-once b.kernel (entry_by p pid call reply) after (makes.leads p)
      (numbered-counts-not kind call s.takes.takes) (numbered-parks-not kind call s.takes.takes))

  module _ (next : World) (n : Node) (sends : List (ℕ × Frame))
      (c : Changes script p w next n (takes_by kind o) sends (entry_by p pid call reply ∷ [])) where
    abbrev entries : List Entry
    entries = entry_by p pid call reply ∷ []

    abbrev calls : ℕ → CallPlace
    calls = calls-now script w b holds p call kind number numbers o e s next n sends entries c

    -- What stands beside the world afterwards: what is in line, the kernels, and that its call is over.
    abbrev pub entered_by : Beside → Beside
    entered_by b' =
        record b' {
          lines = b.lines ++ entries;
          kernel = after;
          places = places_after script b.places (entry_by p pid call reply) (caller_place script p s.caller);
          whole = made-whole.next;
          call = calls;
        }

    none-now : n.caller.under_way ≡ None → under_way_at next p ≡ None
    none-now free = ap (λ (z : Node). z.caller.under_way) c.here ∙ free

    pub made-enters : (b' : Beside) → n.caller.under_way ≡ None
        → ((name : Name) → bare (b'.body name) ≡ body_in after name)
        → ((name : Name) → waiters_of (b'.body name) ≡ waiters_of (b.body name))
        → b'.pids p ≡ b.pids p
        → ((y : ℕ) → y ≢ p
        → ((b'.pids y ≡ b.pids y) × (b.pids y ≢ b.pids p)) ⊎ IsNewProcess next b.kernel y (b'.pids y) (b.pids p))
        → ((y : ℕ) → y ≢ p → b'.pids y ≡ b.pids y → living_at b.kernel (b.pids y) ≡ None
        → living_at after (b.pids y) ≡ None)
        → EntersAlone w next b (entered_by b') p p call (Some reply)
    made-enters b' free parts waiters own others dead =
        record {
          step = made-whole.step;
          keeps = made-whole.keeps;
          ends_no_wait = numbered-withdraws-not kind call s.takes.takes;
          may = λ a lives. subst (λ (z : plain_rows.Alive). may_make z call ≡ true)
              (some-same s.may.alive a (sym s.may.lives ∙ lives)) s.may.may;
          journal = c.journal;
          lines = refl;
          led = holds.history.legal;
          leads =
              let history = history-after script w b holds p call kind number numbers o e s next n sends reply after c
              makes
              in history.legal;
          parts = parts;
          waiters = waiters;
          own_pid = own;
          own_marks = λ a marks. subst (λ v. HasMarks (calls p) v a) (sym (none-now free)) marks;
          others = others;
          calls = λ y d same. (
            others-same script w b holds p call kind number numbers o e s next n sends entries c y d,
            ap (λ (z : Node). z.caller.under_way) (c.others y d),
          );
          dead = dead;
        }
