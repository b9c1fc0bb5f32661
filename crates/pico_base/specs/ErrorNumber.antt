-- The number of each error, as frames carry it (profile: POSIX.1-2017 gives the errors names, and their values to the
-- implementation).
use Rattle.std.specs.Prelude.{◌≡◌, ℕ, List, [], ◌∷◌, map, refl}
use Rattle.pico_base.specs.declared.reply.Errno.{Errno}
use Rattle.pico_base.specs.declared.reply.Errno.TheVariants.{Esrch, Einval, Echild, Enoent, Eexist, Enomsg, Eagain, E2big, Efbig, Erange, Eidrm, Eintr}

abbrev pub error_number : Errno → ℕ
error_number Esrch = 1
error_number Einval = 2
error_number Echild = 3
error_number Enoent = 4
error_number Eexist = 5
error_number Enomsg = 6
error_number Eagain = 7
error_number E2big = 8
error_number Efbig = 9
error_number Erange = 10
error_number Eidrm = 11
error_number Eintr = 12

-- the table of errors, in order
abbrev pub all_errors : List Errno
all_errors =
    Esrch ∷ Einval ∷ Echild ∷ Enoent ∷ Eexist ∷ Enomsg ∷ Eagain ∷ E2big ∷ Efbig ∷ Erange ∷ Eidrm ∷ Eintr ∷ []

pub numbers_errors : map error_number all_errors ≡ 1 ∷ 2 ∷ 3 ∷ 4 ∷ 5 ∷ 6 ∷ 7 ∷ 8 ∷ 9 ∷ 10 ∷ 11 ∷ 12 ∷ []
numbers_errors = refl
