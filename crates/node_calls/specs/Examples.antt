-- A caller that tries again, sets a variable and forks, worked out by the checker.
use Rattle.std.specs.Prelude.{◌≡◌, true, [], ◌∷◌, Some, None, codes, refl}
use Rattle.pico_base.specs.declared.call.Call.TheVariants.{Exit, Fork, Killed, WaitPid}
use Rattle.pico_base.specs.declared.reply.Ending.TheVariants.{Exited}
use Rattle.pico_base.specs.declared.reply.Reply.TheVariants.{Num, Child}
use Rattle.pico_base.specs.declared.script.Script.{Script}
use Rattle.pico_base.specs.declared.signal.Sig.TheVariants.{Term}
use Rattle.kernel_model.specs.Fitting.{child_vars}
use Rattle.node_calls.specs.Caller.{BlockCaller, answered, beginning, call_due, place_of, started}

-- `c = fork child` and `try 2 waitpid $c nohang`, where c is the variable of index 222
abbrev pub two_lines : Script
two_lines =
    record {
      blocks =
          record {
            name = codes "main";
            lines =
                record { set = Some 222; tries = 1; from = None; call = Fork 2 }
                ∷ record { set = None; tries = 2; from = Some 222; call = WaitPid (Some 0) true }
                ∷ [];
          }
          ∷ record { name = codes "child"; lines = [] }
          ∷ [];
    }

-- after the fork, whose child is process 2
abbrev forked : BlockCaller
forked = answered two_lines (started (beginning 1 []) (Fork 2)) (Fork 2) (Num 2)

its_child_begins_with : child_vars (place_of two_lines (beginning 1 [])) ≡ (222, 0) ∷ []
its_child_begins_with = refl

then_it_waits_for_the_child : call_due two_lines forked None ≡ Some (WaitPid (Some 2) true)
then_it_waits_for_the_child = refl

-- the child still lives, which the reply 0 says, and then it has ended
abbrev once : BlockCaller
once = answered two_lines (started forked (WaitPid (Some 2) true)) (WaitPid (Some 2) true) (Num 0)

it_tries_again : call_due two_lines once None ≡ Some (WaitPid (Some 2) true)
it_tries_again = refl

twice : call_due two_lines
    (answered two_lines (started once (WaitPid (Some 2) true)) (WaitPid (Some 2) true) (Num 0)) None ≡ Some (Exit 0)
twice = refl

no_more_after_success : call_due two_lines
    (answered two_lines (started forked (WaitPid (Some 2) true)) (WaitPid (Some 2) true) (Child 2 (Exited 7))) None
    ≡ Some (Exit 0)
no_more_after_success = refl

a_doom_comes_first : call_due two_lines once (Some Term) ≡ Some (Killed Term)
a_doom_comes_first = refl
