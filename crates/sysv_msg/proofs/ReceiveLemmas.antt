-- When a receive needn't wait.
use Rattle.std.proofs.Common.{◌≡◌, ◌∙◌, [], ◌∷◌, ℕ, zero, suc, ℤ, Bool, true, false, cond, ◌||◌, nat_le, nat_lt, List, length, slice_get, Option, Some, None, is_some, Result, Ok, Err, refl, sym, ap, arith}
use Rattle.pico_base.specs.declared.reply.Errno.{Errno}
use Rattle.pico_base.specs.declared.reply.Errno.TheVariants.{Esrch, Einval, Echild, Enoent, Eexist, Enomsg, Eagain, E2big, Efbig, Erange, Eidrm, Eintr}
use Rattle.kernel_model.specs.Queue.{Queue, Message, Received, receive, receive_from, receive_at, select, take_message}
use Rattle.waiting_model.specs.Queue.{try_receive}
use Rattle.sysv_msg.specs.Going.{can_receive, is_inside}

-- a receive needn't wait with IPC_NOWAIT, or where a message is selected
pub receive-goes : (q : Queue) (pid : ℕ) (class : ℤ) (size : ℕ) (noerror nowait : Bool)
    → (nowait || can_receive q class) ≡ is_some (try_receive q nowait (receive q pid class size noerror))
receive-goes q pid class size noerror true = anyway (receive q pid class size noerror)
  where
    err : (e : Errno) → true ≡ is_some (try_receive q true (Err e))
    err Enomsg = refl
    err Eagain = refl
    err Esrch = refl
    err Einval = refl
    err Echild = refl
    err Enoent = refl
    err Eexist = refl
    err E2big = refl
    err Efbig = refl
    err Erange = refl
    err Eidrm = refl
    err Eintr = refl

    anyway : (r : Result Received Errno) → true ≡ is_some (try_receive q true r)
    anyway (Ok r) = refl
    anyway (Err e) = err e
receive-goes q pid class size noerror false = selected (select q.messages class)
  where
    taken : (place : ℕ) (m : Message) (b : Bool)
        → true ≡ is_some (try_receive q false (cond b (Ok (take_message q pid size place m)) (Err E2big)))
    taken place m true = refl
    taken place m false = refl

    there : (place : ℕ) (o : Option Message) (b : Bool) → b ≡ is_some o
        → b ≡ is_some (try_receive q false (receive_at q pid size noerror place o))
    there place None b h = h
    there place (Some m) b h = h ∙ taken place m (nat_le (length m.text) size || noerror)

    selected : (o : Option ℕ) → is_inside q o ≡ is_some (try_receive q false (receive_from q pid size noerror o))
    selected None = refl
    selected (Some place) =
        there place (slice_get q.messages place) (nat_lt place (length q.messages)) (inside q.messages place)
      where
        inside : (ms : List Message) (n : ℕ) → nat_lt n (length ms) ≡ is_some (slice_get ms n)
        inside [] n = none n
          where
            none : (n : ℕ) → nat_lt n 0 ≡ false
            none n = grind arith
        inside (m ∷ ms) zero = some (length ms)
          where
            some : (n : ℕ) → nat_lt 0 (suc n) ≡ true
            some n = grind arith
        inside (m ∷ ms) (suc n) = step n (length ms) ∙ inside ms n
          where
            step : (a b : ℕ) → nat_lt (suc a) (suc b) ≡ nat_lt a b
            step a b = grind arith

-- without IPC_NOWAIT it goes by the message alone
pub receive-goes-later : (q : Queue) (pid : ℕ) (class : ℤ) (size : ℕ) (noerror nowait : Bool) → nowait ≡ false
    → can_receive q class ≡ is_some (try_receive q nowait (receive q pid class size noerror))
receive-goes-later q pid class size noerror nowait later =
    sym (ap (λ (b : Bool). b || can_receive q class) later) ∙ receive-goes q pid class size noerror nowait
