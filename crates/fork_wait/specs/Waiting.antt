-- What `waitpid` answers and leaves (POSIX.1-2017: wait), by what it finds.
use Rattle.std.specs.Prelude.{◌≡◌, [], ◌∷◌, Result, Ok, Err, Some, None, refl}
use Rattle.pico_base.specs.declared.reply.Ending.TheVariants.{Exited}
use Rattle.pico_base.specs.declared.reply.Errno.{Errno}
use Rattle.pico_base.specs.declared.reply.Errno.TheVariants.{Echild}
use Rattle.kernel_model.specs.Row as row
use Rattle.kernel_model.specs.Row.{Family, wait, without_ended, ended_child}
use Rattle.fork_wait.specs.declared.family.Waited.{Waited}
use Rattle.fork_wait.specs.declared.family.Waited.TheVariants.{Child, NotYet}

abbrev pub answer_of : row.Waited → Result Waited Errno
answer_of (row.Found child ending) = Ok (Child child ending)
answer_of row.NotYet = Ok NotYet
answer_of row.NoChild = Err Echild

-- a child that is found is no longer there
abbrev pub family_after : row.Waited → Family → Family
family_after (row.Found child ending) f = without_ended child f
family_after row.NotYet f = f
family_after row.NoChild f = f

abbrev one_of_each : Family
one_of_each = record { living = 2 ∷ []; ended = ended_child 9 (Exited 7) ∷ ended_child 10 (Exited 8) ∷ [] }

-- the child that ended first comes first
first_ended : answer_of (wait one_of_each None) ≡ Ok (Child 9 (Exited 7))
first_ended = refl

then_the_next : family_after (wait one_of_each (Some 9)) one_of_each
    ≡ record { living = 2 ∷ []; ended = ended_child 10 (Exited 8) ∷ [] }
then_the_next = refl

still_living : answer_of (wait one_of_each (Some 2)) ≡ Ok NotYet
still_living = refl

nobody : answer_of (wait one_of_each (Some 3)) ≡ Err Echild
nobody = refl
