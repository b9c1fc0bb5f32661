-- A call that is read is within its ranges.
use Rattle.std.proofs.Common.{◌≡◌, ℕ, ◌+◌, ◌*◌, ◌^◌, ◌<◌, ◌≤◌, Bool, true, false, ◌&&◌, cond, ltb, leb, List, [], ◌∷◌, length, Option, Some, None, refl, arith}
use Rattle.std.specs.Prelude.{IfSome, option_map, codes, bytes_eq, is_some}
use Rattle.std.specs.List.{list_all}
use Rattle.std.proofs.lemmas.Bool.{and_from, le-leb, lt-ltb}
use Rattle.pico_base.specs.declared.call.Call.{Call}
use Rattle.pico_base.specs.declared.call.Call.TheVariants as calls
use Rattle.pico_base.specs.declared.call.SemStep.{SemStep}
use Rattle.pico_base.specs.Options.{◌>>=◌}
use Rattle.kernel_model.specs.Script as model
use Rattle.kernel_model.specs.Numbers.{is_u16, is_u32, is_positive_u32}
use Rattle.kernel_model.specs.Texts.{has_spelling}
use Rattle.call_words.specs.declared.verb.Verb.{Verb}
use Rattle.call_words.specs.declared.verb.Verb.TheVariants as verbs
use Rattle.script_reader.specs.Words.{pieces}
use Rattle.script_reader.specs.Parts as parts
use Rattle.script_reader.specs.Parts.{number, positive, signed, each, step, values, text}
use Rattle.script_reader.specs.Forms as forms
use Rattle.script_reader.specs.Forms.{FromCall, Object, Child, identifier, process}
use Rattle.script_reader.proofs.Ranges.{if_bind, if_map, if_cond, Anything, anything, number_small, positive_small, signed_small, IsWithin, is_type_from, IsObject, IsProcess, identifier_small, process_small}
use Rattle.script_reader.proofs.Widths.{width, Passes, steps_wide, values_wide, text_spelled, each_length, if_both, pieces_some}

-- ---- a call that stands in a script

pub record Fits (c : FromCall) : Type 0 where
  pub in_range : model.is_in_range c.1 ≡ true
  pub named : cond (is_some c.0) (model.can_name c.1) (model.is_process_in_range c.1) ≡ true
  pub variable : model.is_variable c.0 ≡ true

-- one that is neither `fork` nor `exit`
pub record IsOther (c : FromCall) : Type 0 where
  pub fits : Fits c
  pub no_exit : model.is_exit c.1 ≡ false
  pub no_fork : model.is_fork c.1 ≡ false

-- a test that passes either way
pub either : (o : Option ℕ) → cond (is_some o) true true ≡ true
either None = refl
either (Some v) = refl

-- a number below its type's bound is in the range
pub u32 : (n : ℕ) → n < 2 ^ 32 → is_u32 n ≡ true
u32 n h = lt-ltb n (2 ^ 32) h

-- and one up to the greatest
pub u16 : (n : ℕ) → n ≤ 65535 → is_u16 n ≡ true
u16 n h = le-leb n 65535 h

-- a call on an identifier, which is in its range with it
pub shared : (o : Object) (call : Call) → IsObject o → model.is_in_range call ≡ true
    → cond (is_some o.0) (model.can_name call) (model.is_process_in_range call) ≡ true → model.is_exit call ≡ false
    → model.is_fork call ≡ false → IsOther (o.0, call)
shared o call h range named exit fork =
    record { fits = record { in_range = range; named = named; variable = h.variable }; no_exit = exit; no_fork = fork }

-- ---- processes and signals

exit_fits : (ws : List (List ℕ)) → IfSome (forms.exit_of ws) (λ c. Fits c × (c.0 ≡ None) × (model.is_exit c.1 ≡ true))
unfolding forms.exit_of
exit_fits [] = tt
exit_fits (n ∷ []) = if_map (number 65535 n) (λ status. forms.plainly (calls.Exit status)) (λ n. n ≤ 65535) (λ c. Fits c
    × (c.0 ≡ None) × (model.is_exit c.1 ≡ true)) (number_small 65535 n)
    (λ s h. (record { in_range = u16 s h; named = refl; variable = refl }, refl, refl))
exit_fits (n ∷ m ∷ ws) = tt

getpid_fits : (ws : List (List ℕ)) → IfSome (forms.getpid_of ws) IsOther
unfolding forms.getpid_of
getpid_fits [] = record {
  fits = record { in_range = refl; named = refl; variable = refl };
  no_exit = refl;
  no_fork =
      refl;
}
getpid_fits (w ∷ ws) = tt

sigpending_fits : (ws : List (List ℕ)) → IfSome (forms.sigpending_of ws) IsOther
unfolding forms.sigpending_of
sigpending_fits [] = record {
  fits = record { in_range = refl; named = refl; variable = refl };
  no_exit =
      refl;
  no_fork = refl;
}
sigpending_fits (w ∷ ws) = tt

process_named : (o : Object) → IsProcess o → cond (is_some o.0) true (ltb 0 o.1) ≡ true
process_named o h = of (is_some o.0) refl
  where
    of : (b : Bool) → is_some o.0 ≡ b → cond b true (ltb 0 o.1) ≡ true
    of true e = refl
    of false e = lt-ltb 0 o.1 (omega (arith, h.some e))

kill_fits : (ws : List (List ℕ)) → IfSome (forms.kill_of ws) IsOther
unfolding forms.kill_of
kill_fits [] = tt
kill_fits (p ∷ []) = tt
kill_fits (p ∷ g ∷ []) =
    if_bind (process p) (λ o. parts.signal_argument g >>= λ sig. Some (o.0, calls.Kill o.1 sig)) IsProcess IsOther
    (process_small p)
    (λ o h. if_bind (parts.signal_argument g) (λ sig. Some (o.0, calls.Kill o.1 sig)) Anything IsOther
    (anything (parts.signal_argument g))
    (λ sig _. shared o (calls.Kill o.1 sig) h.object (u32 o.1 h.object.small) (process_named o h) refl refl))
kill_fits (p ∷ g ∷ x ∷ ws) = tt

sigaction_fits : (ws : List (List ℕ)) → IfSome (forms.sigaction_of ws) IsOther
unfolding forms.sigaction_of
sigaction_fits [] = tt
sigaction_fits (g ∷ []) = tt
sigaction_fits (g ∷ a ∷ []) =
    if_bind (parts.signal_argument g)
    (λ sig. parts.action a >>= λ act. Some (forms.plainly (calls.SigAction sig act))) Anything IsOther
    (anything (parts.signal_argument g))
    (λ sig _. if_bind (parts.action a) (λ act. Some (forms.plainly (calls.SigAction sig act))) Anything IsOther
    (anything (parts.action a))
    (λ act _. record {
      fits = record { in_range = refl; named = refl; variable = refl };
      no_exit = refl;
      no_fork =
          refl;
    }))
sigaction_fits (g ∷ a ∷ x ∷ ws) = tt

sigprocmask_fits : (ws : List (List ℕ)) → IfSome (forms.sigprocmask_of ws) IsOther
unfolding forms.sigprocmask_of
sigprocmask_fits [] = tt
sigprocmask_fits (h ∷ []) = tt
sigprocmask_fits (h ∷ m ∷ []) =
    if_bind (parts.how h)
    (λ way. parts.signal_set m >>= λ set. Some (forms.plainly (calls.SigProcMask way set))) Anything IsOther
    (anything (parts.how h))
    (λ way _. if_bind (parts.signal_set m) (λ set. Some (forms.plainly (calls.SigProcMask way set))) Anything IsOther
    (anything (parts.signal_set m))
    (λ set _. record {
      fits = record { in_range = refl; named = refl; variable = refl };
      no_exit = refl;
      no_fork =
          refl;
    }))
sigprocmask_fits (h ∷ m ∷ x ∷ ws) = tt

handled_fits : (ws : List (List ℕ)) → IfSome (forms.handled_of ws) IsOther
unfolding forms.handled_of
handled_fits [] = tt
handled_fits (g ∷ []) =
    if_map (parts.signal g) (λ sig. forms.plainly (calls.Handled sig)) Anything IsOther (anything (parts.signal g))
    (λ sig _. record {
      fits = record { in_range = refl; named = refl; variable = refl };
      no_exit = refl;
      no_fork =
          refl;
    })
handled_fits (g ∷ x ∷ ws) = tt

-- a child that `waitpid` may name
abbrev IsChild : Child → Type 0
IsChild c = (nohang : Bool) → IsOther (c.0, calls.WaitPid c.1 nohang)

child_fits : (w : List ℕ) → IfSome (forms.child w) IsChild
unfolding forms.child
child_fits w =
    if_cond (bytes_eq w (codes "any")) (Some (None, None)) (option_map forms.one_child (process w)) IsChild
    (λ _ nohang. record {
      fits = record { in_range = refl; named = refl; variable = refl };
      no_exit = refl;
      no_fork =
          refl;
    })
    (λ _. if_map (process w) forms.one_child IsProcess IsChild (process_small w)
    (λ o h nohang. shared o (calls.WaitPid (Some o.1) nohang) h.object (u32 o.1 h.object.small)
    (process_named o h) refl refl))

waitpid_fits : (ws : List (List ℕ)) → IfSome (forms.waitpid_of ws) IsOther
unfolding forms.waitpid_of
waitpid_fits [] = tt
waitpid_fits (w ∷ more) =
    if_bind (forms.child w)
    (λ whom. forms.optional (codes "nohang") more >>= λ nohang. Some (whom.0, calls.WaitPid whom.1 nohang)) IsChild
    IsOther (child_fits w)
    (λ whom h. if_bind (forms.optional (codes "nohang") more)
    (λ nohang. Some (whom.0, calls.WaitPid whom.1 nohang)) Anything IsOther
    (anything (forms.optional (codes "nohang") more)) (λ nohang _. h nohang))

-- ---- message queues

-- a key that isn't 0
pub key_fits : (k : ℕ) → (1 ≤ k) × (k ≤ 4294967295) → is_positive_u32 k ≡ true
key_fits k h = and_from (ltb 0 k) (is_u32 k) (lt-ltb 0 k (omega (arith, h.0))) (u32 k (omega (arith, h.1)))

keyed_queue_fits : (k : List ℕ) (more : List (List ℕ)) → IfSome (forms.keyed_queue k more) IsOther
unfolding forms.keyed_queue
keyed_queue_fits k more =
    if_bind (positive 4294967295 k)
    (λ key. forms.two_optional (codes "create") (codes "excl") more >>= λ flags.
    Some (forms.plainly (calls.MsgGet (Some key) flags.0 flags.1))) (λ n. (1 ≤ n) × (n ≤ 4294967295)) IsOther
    (positive_small 4294967295 k)
    (λ key h. if_bind (forms.two_optional (codes "create") (codes "excl") more)
    (λ flags. Some (forms.plainly (calls.MsgGet (Some key) flags.0 flags.1))) Anything IsOther
    (anything (forms.two_optional (codes "create") (codes "excl") more))
    (λ flags _. record {
      fits = record { in_range = key_fits key h; named = refl; variable = refl };
      no_exit =
          refl;
      no_fork = refl;
    }))

private_queue_fits : (more : List (List ℕ)) → IfSome (forms.private_queue more) IsOther
unfolding forms.private_queue
private_queue_fits [] =
    record { fits = record { in_range = refl; named = refl; variable = refl }; no_exit = refl; no_fork = refl }
private_queue_fits (w ∷ ws) = tt

msgget_fits : (ws : List (List ℕ)) → IfSome (forms.msgget_of ws) IsOther
unfolding forms.msgget_of
msgget_fits [] = tt
msgget_fits (k ∷ more) =
    if_cond (bytes_eq k (codes "private")) (forms.private_queue more) (forms.keyed_queue k more) IsOther
    (λ _. private_queue_fits more) (λ _. keyed_queue_fits k more)

msgsnd_fits : (ws : List (List ℕ)) → width ws ≤ 4097 → IfSome (forms.msgsnd_of ws) IsOther
unfolding forms.msgsnd_of
msgsnd_fits [] room = tt
msgsnd_fits (q ∷ []) room = tt
msgsnd_fits (q ∷ t ∷ []) room = tt
msgsnd_fits (q ∷ t ∷ x ∷ more) room =
    if_bind (identifier q)
    (λ o. signed 2147483647 t >>= λ class. forms.optional (codes "nowait") more >>= λ nowait. text x >>= λ bytes.
    Some (o.0, calls.MsgSnd o.1 class bytes nowait)) IsObject IsOther (identifier_small q)
    (λ o h. if_bind (signed 2147483647 t)
    (λ class. forms.optional (codes "nowait") more >>= λ nowait. text x >>= λ bytes.
    Some (o.0, calls.MsgSnd o.1 class bytes nowait)) (IsWithin 2147483647) IsOther (signed_small 2147483647 t)
    (λ class k. if_bind (forms.optional (codes "nowait") more)
    (λ nowait. text x >>= λ bytes. Some (o.0, calls.MsgSnd o.1 class bytes nowait)) Anything IsOther
    (anything (forms.optional (codes "nowait") more))
    (λ nowait _. if_bind (text x) (λ bytes. Some (o.0, calls.MsgSnd o.1 class bytes nowait))
    (λ t. has_spelling t ≡ true) IsOther (text_spelled x (omega (arith, room)))
    (λ bytes s. shared o (calls.MsgSnd o.1 class bytes nowait) h
    (and_from (is_u32 o.1) (model.is_type class && has_spelling bytes) (u32 o.1 h.small)
    (and_from (model.is_type class) (has_spelling bytes) (is_type_from class k) s)) (either o.0) refl refl))))

msgrcv_fits : (ws : List (List ℕ)) → IfSome (forms.msgrcv_of ws) IsOther
unfolding forms.msgrcv_of
msgrcv_fits [] = tt
msgrcv_fits (q ∷ []) = tt
msgrcv_fits (q ∷ t ∷ []) = tt
msgrcv_fits (q ∷ t ∷ z ∷ more) =
    if_bind (identifier q)
    (λ o. signed 2147483647 t >>= λ class. number 65535 z >>= λ size.
    forms.two_optional (codes "noerror") (codes "nowait") more >>= λ flags.
    Some (o.0, calls.MsgRcv o.1 class size flags.0 flags.1)) IsObject IsOther (identifier_small q)
    (λ o h. if_bind (signed 2147483647 t)
    (λ class. number 65535 z >>= λ size. forms.two_optional (codes "noerror") (codes "nowait") more >>= λ flags.
    Some (o.0, calls.MsgRcv o.1 class size flags.0 flags.1)) (IsWithin 2147483647) IsOther
    (signed_small 2147483647 t)
    (λ class k. if_bind (number 65535 z)
    (λ size. forms.two_optional (codes "noerror") (codes "nowait") more >>= λ flags.
    Some (o.0, calls.MsgRcv o.1 class size flags.0 flags.1)) (λ n. n ≤ 65535) IsOther (number_small 65535 z)
    (λ size s. if_bind (forms.two_optional (codes "noerror") (codes "nowait") more)
    (λ flags. Some (o.0, calls.MsgRcv o.1 class size flags.0 flags.1)) Anything IsOther
    (anything (forms.two_optional (codes "noerror") (codes "nowait") more))
    (λ flags _. shared o (calls.MsgRcv o.1 class size flags.0 flags.1) h
    (and_from (is_u32 o.1) (model.is_type class && is_u16 size) (u32 o.1 h.small)
    (and_from (model.is_type class) (is_u16 size) (is_type_from class k) (u16 size s))) (either o.0) refl refl))))

-- a call on the object of this identifier
abbrev IsOn : Object → Call → Type 0
IsOn o call = IsOther (o.0, call)

queue_command_fits : (o : Object) → IsObject o → (ws : List (List ℕ)) → IfSome (forms.queue_command o.1 ws) (IsOn o)
unfolding forms.queue_command
queue_command_fits o h [] = tt
queue_command_fits o h (c ∷ []) =
    if_cond (bytes_eq c (codes "stat")) (Some (calls.MsgStat o.1))
    (cond (bytes_eq c (codes "rmid")) (Some (calls.MsgRmid o.1)) None) (IsOn o)
    (λ _. shared o (calls.MsgStat o.1) h (u32 o.1 h.small) (either o.0) refl refl)
    (λ _. if_cond (bytes_eq c (codes "rmid")) (Some (calls.MsgRmid o.1)) None (IsOn o)
    (λ _. shared o (calls.MsgRmid o.1) h (u32 o.1 h.small) (either o.0) refl refl) (λ _. tt))
queue_command_fits o h (c ∷ b ∷ []) =
    if_cond (bytes_eq c (codes "set")) (option_map (λ qbytes. calls.MsgSet o.1 qbytes) (number 65535 b)) None (IsOn o)
    (λ _. if_map (number 65535 b) (λ qbytes. calls.MsgSet o.1 qbytes) (λ n. n ≤ 65535) (IsOn o) (number_small 65535 b)
    (λ n k. shared o (calls.MsgSet o.1 n) h (and_from (is_u32 o.1) (is_u16 n) (u32 o.1 h.small) (u16 n k))
    (either o.0) refl refl))
    (λ _. tt)
queue_command_fits o h (c ∷ b ∷ x ∷ ws) = tt

on_object : (w : List ℕ) (f : ℕ → Option Call) → ((o : Object) → IsObject o → IfSome (f o.1) (IsOn o))
    → IfSome (identifier w >>= λ o. f o.1 >>= λ call. Some (o.0, call)) IsOther
on_object w f fits =
    if_bind (identifier w) (λ o. f o.1 >>= λ call. Some (o.0, call)) IsObject IsOther (identifier_small w)
    (λ o h. if_bind (f o.1) (λ call. Some (o.0, call)) (IsOn o) IsOther (fits o h) (λ call k. k))

msgctl_fits : (ws : List (List ℕ)) → IfSome (forms.msgctl_of ws) IsOther
unfolding forms.msgctl_of
msgctl_fits [] = tt
msgctl_fits (q ∷ more) = on_object q (λ id. forms.queue_command id more) (λ o h. queue_command_fits o h more)

-- ---- semaphore sets

keyed_set_fits : (k n : List ℕ) (more : List (List ℕ)) → IfSome (forms.keyed_set k n more) IsOther
unfolding forms.keyed_set
keyed_set_fits k n more =
    if_bind (positive 4294967295 k)
    (λ key. number 65535 n >>= λ count. forms.two_optional (codes "create") (codes "excl") more >>= λ flags.
    Some (forms.plainly (calls.SemGet (Some key) count flags.0 flags.1))) (λ n. (1 ≤ n) × (n ≤ 4294967295)) IsOther
    (positive_small 4294967295 k)
    (λ key h. if_bind (number 65535 n)
    (λ count. forms.two_optional (codes "create") (codes "excl") more >>= λ flags.
    Some (forms.plainly (calls.SemGet (Some key) count flags.0 flags.1))) (λ n. n ≤ 65535) IsOther
    (number_small 65535 n)
    (λ count c. if_bind (forms.two_optional (codes "create") (codes "excl") more)
    (λ flags. Some (forms.plainly (calls.SemGet (Some key) count flags.0 flags.1))) Anything IsOther
    (anything (forms.two_optional (codes "create") (codes "excl") more))
    (λ flags _. record {
      fits =
          record {
            in_range = and_from (is_positive_u32 key) (is_u16 count) (key_fits key h) (u16 count c);
            named =
                refl;
            variable = refl;
          };
      no_exit = refl;
      no_fork = refl;
    })))

private_set_fits : (n : List ℕ) (more : List (List ℕ)) → IfSome (forms.private_set n more) IsOther
unfolding forms.private_set
private_set_fits n [] =
    if_map (number 65535 n) (λ count. forms.plainly (calls.SemGet None count false false)) (λ n. n ≤ 65535) IsOther
    (number_small 65535 n)
    (λ count c. record {
      fits = record { in_range = u16 count c; named = refl; variable = refl };
      no_exit =
          refl;
      no_fork = refl;
    })
private_set_fits n (w ∷ ws) = tt

semget_fits : (ws : List (List ℕ)) → IfSome (forms.semget_of ws) IsOther
unfolding forms.semget_of
semget_fits [] = tt
semget_fits (k ∷ []) = tt
semget_fits (k ∷ n ∷ more) =
    if_cond (bytes_eq k (codes "private")) (forms.private_set n more) (forms.keyed_set k n more) IsOther
    (λ _. private_set_fits n more) (λ _. keyed_set_fits k n more)

whole_set_fits : (o : Object) → IsObject o → (c : List ℕ) → IfSome (forms.whole_set o.1 c) (IsOn o)
unfolding forms.whole_set
whole_set_fits o h c =
    if_cond (bytes_eq c (codes "getall")) (Some (calls.SemGetAll o.1))
    (cond (bytes_eq c (codes "rmid")) (Some (calls.SemRmid o.1)) None) (IsOn o)
    (λ _. shared o (calls.SemGetAll o.1) h (u32 o.1 h.small) (either o.0) refl refl)
    (λ _. if_cond (bytes_eq c (codes "rmid")) (Some (calls.SemRmid o.1)) None (IsOn o)
    (λ _. shared o (calls.SemRmid o.1) h (u32 o.1 h.small) (either o.0) refl refl) (λ _. tt))

place_fits : (o : Object) → IsObject o → (n : ℕ) → n ≤ 65535 → model.is_place o.1 n ≡ true
place_fits o h n k = and_from (is_u32 o.1) (is_u16 n) (u32 o.1 h.small) (u16 n k)

semaphore_fits : (o : Object) → IsObject o → (c : List ℕ) (n : ℕ) → n ≤ 65535
    → IfSome (forms.semaphore_of o.1 c n) (IsOn o)
unfolding forms.semaphore_of
semaphore_fits o h c n k =
    if_cond (bytes_eq c (codes "getval")) (Some (calls.SemGetVal o.1 n)) _ (IsOn o)
    (λ _. shared o (calls.SemGetVal o.1 n) h (place_fits o h n k) (either o.0) refl refl)
    (λ _. if_cond (bytes_eq c (codes "getpid")) (Some (calls.SemGetPid o.1 n)) _ (IsOn o)
    (λ _. shared o (calls.SemGetPid o.1 n) h (place_fits o h n k) (either o.0) refl refl)
    (λ _. if_cond (bytes_eq c (codes "getncnt")) (Some (calls.SemGetNcnt o.1 n)) _ (IsOn o)
    (λ _. shared o (calls.SemGetNcnt o.1 n) h (place_fits o h n k) (either o.0) refl refl)
    (λ _. if_cond (bytes_eq c (codes "getzcnt")) (Some (calls.SemGetZcnt o.1 n)) None (IsOn o)
    (λ _. shared o (calls.SemGetZcnt o.1 n) h (place_fits o h n k) (either o.0) refl refl) (λ _. tt))))

-- a number between two others passes the test
pub between_from : (low high n : ℕ) → low ≤ n → n ≤ high → (leb low n && leb n high) ≡ true
between_from low high n h k = and_from (leb low n) (leb n high) (le-leb low n h) (le-leb n high k)

abbrev AreSteps : List (List ℕ) → List SemStep → Type 0
AreSteps ws steps = Passes step model.is_step_in_range 3 (width ws) steps × (length steps ≡ length ws)

semop_fits : (ws : List (List ℕ)) → width ws ≤ 4097 → IfSome (forms.semop_of ws) IsOther
unfolding forms.semop_of
semop_fits [] room = tt
semop_fits (s ∷ []) room = tt
semop_fits (s ∷ w ∷ more) room =
    if_bind (identifier s) (λ o. each step (w ∷ more) >>= λ steps. Some (o.0, calls.SemOp o.1 steps)) IsObject IsOther
    (identifier_small s)
    (λ o h. if_bind (each step (w ∷ more)) (λ steps. Some (o.0, calls.SemOp o.1 steps)) (AreSteps (w ∷ more)) IsOther
    (if_both (each step (w ∷ more)) (Passes step model.is_step_in_range 3 (width (w ∷ more)))
    (λ steps. length steps ≡ length (w ∷ more)) (steps_wide (w ∷ more)) (each_length step (w ∷ more)))
    (λ steps k.
    let many : (leb 1 (length steps) && leb (length steps) 1024) ≡ true =
    between_from 1 1024 (length steps) (omega (arith, k.1)) (omega (arith, k.0.0, room)) in
    shared o (calls.SemOp o.1 steps) h
    (and_from (is_u32 o.1)
    ((leb 1 (length steps) && leb (length steps) 1024) && list_all model.is_step_in_range steps) (u32 o.1 h.small)
    (and_from (leb 1 (length steps) && leb (length steps) 1024) (list_all model.is_step_in_range steps) many k.0.1))
    (either o.0) refl refl))

values_some : (w : List ℕ) → IfSome (values w) (λ vs. 1 ≤ length vs)
unfolding values
values_some w = of (each (number 65535) (pieces 44 w)) (each_length (number 65535) (pieces 44 w))
  where
    of : (o : Option (List ℕ)) → IfSome o (λ vs. length vs ≡ length (pieces 44 w)) → IfSome o (λ vs. 1 ≤ length vs)
    of None e = tt
    of (Some vs) e = omega (arith, e, pieces_some 44 w)

abbrev AreValues : List ℕ → List ℕ → Type 0
AreValues w vs = ((length vs * 2 ≤ length w + 1) × (list_all is_u16 vs ≡ true)) × (1 ≤ length vs)

one_argument_fits : (o : Object) → IsObject o → (c i : List ℕ) → length i ≤ 4095
    → IfSome (forms.one_argument o.1 c i) (IsOn o)
unfolding forms.one_argument
one_argument_fits o h c i room =
    if_cond (bytes_eq c (codes "setall")) (option_map (λ all. calls.SemSetAll o.1 all) (values i))
    (number 65535 i >>= forms.semaphore_of o.1 c) (IsOn o)
    (λ _. if_map (values i) (λ all. calls.SemSetAll o.1 all) (AreValues i) (IsOn o)
    (if_both (values i) (λ vs. (length vs * 2 ≤ length i + 1) × (list_all is_u16 vs ≡ true)) (λ vs. 1 ≤ length vs)
    (values_wide i) (values_some i))
    (λ vs k.
    let many : (leb 1 (length vs) && leb (length vs) 2048) ≡ true =
    between_from 1 2048 (length vs) k.1 (omega (arith, k.0.0, room)) in
    shared o (calls.SemSetAll o.1 vs) h
    (and_from (is_u32 o.1) ((leb 1 (length vs) && leb (length vs) 2048) && list_all is_u16 vs) (u32 o.1 h.small)
    (and_from (leb 1 (length vs) && leb (length vs) 2048) (list_all is_u16 vs) many k.0.1)) (either o.0) refl refl))
    (λ _. if_bind (number 65535 i) (forms.semaphore_of o.1 c) (λ n. n ≤ 65535) (IsOn o) (number_small 65535 i)
    (λ n k. semaphore_fits o h c n k))

set_value_fits : (o : Object) → IsObject o → (c i v : List ℕ) → IfSome (forms.set_value o.1 c i v) (IsOn o)
unfolding forms.set_value
set_value_fits o h c i v =
    if_bind (number 65535 i)
    (λ num. number 65535 v >>= λ value.
    cond (bytes_eq c (codes "setval")) (Some (calls.SemSetVal o.1 num value)) None) (λ n. n ≤ 65535) (IsOn o)
    (number_small 65535 i)
    (λ num k. if_bind (number 65535 v)
    (λ value. cond (bytes_eq c (codes "setval")) (Some (calls.SemSetVal o.1 num value)) None) (λ n. n ≤ 65535)
    (IsOn o) (number_small 65535 v)
    (λ value l. if_cond (bytes_eq c (codes "setval")) (Some (calls.SemSetVal o.1 num value)) None (IsOn o)
    (λ _. shared o (calls.SemSetVal o.1 num value) h
    (and_from (model.is_place o.1 num) (is_u16 value) (place_fits o h num k) (u16 value l)) (either o.0) refl refl)
    (λ _. tt)))

set_command_fits : (o : Object) → IsObject o → (ws : List (List ℕ)) → width ws ≤ 4096
    → IfSome (forms.set_command o.1 ws) (IsOn o)
unfolding forms.set_command
set_command_fits o h [] room = tt
set_command_fits o h (c ∷ []) room = whole_set_fits o h c
set_command_fits o h (c ∷ i ∷ []) room = one_argument_fits o h c i (omega (arith, room))
set_command_fits o h (c ∷ i ∷ v ∷ []) room = set_value_fits o h c i v
set_command_fits o h (c ∷ i ∷ v ∷ x ∷ ws) room = tt

semctl_fits : (ws : List (List ℕ)) → width ws ≤ 4097 → IfSome (forms.semctl_of ws) IsOther
unfolding forms.semctl_of
semctl_fits [] room = tt
semctl_fits (s ∷ more) room =
    on_object s (λ id. forms.set_command id more) (λ o h. set_command_fits o h more (omega (arith, room)))

-- ---- the table

-- an `exit`, which no variable names
abbrev pub IsExit : FromCall → Type 0
IsExit c = Fits c × (c.0 ≡ None) × (model.is_exit c.1 ≡ true)

-- `exit N` is within its range
pub exits_fit : (ws : List (List ℕ)) → IfSome (forms.call_of verbs.Exit ws) IsExit
exits_fit ws = exit_fits ws

-- a call other than `fork` and `exit`
abbrev pub NamesOther : Verb → Type 0
NamesOther verbs.Fork = ⊥
NamesOther verbs.Exit = ⊥
NamesOther verb = Unit {0}

-- each other call is within its ranges, in words that a line has room for
pub others_fit : (verb : Verb) (ws : List (List ℕ)) → NamesOther verb → width ws ≤ 4097
    → IfSome (forms.call_of verb ws) IsOther
others_fit verbs.Fork ws h room = tt
others_fit verbs.Exit ws h room = absurd h
others_fit verbs.GetPid ws h room = getpid_fits ws
others_fit verbs.Kill ws h room = kill_fits ws
others_fit verbs.SigAction ws h room = sigaction_fits ws
others_fit verbs.SigProcMask ws h room = sigprocmask_fits ws
others_fit verbs.SigPending ws h room = sigpending_fits ws
others_fit verbs.Handled ws h room = handled_fits ws
others_fit verbs.WaitPid ws h room = waitpid_fits ws
others_fit verbs.MsgGet ws h room = msgget_fits ws
others_fit verbs.MsgSnd ws h room = msgsnd_fits ws room
others_fit verbs.MsgRcv ws h room = msgrcv_fits ws
others_fit verbs.MsgCtl ws h room = msgctl_fits ws
others_fit verbs.SemGet ws h room = semget_fits ws
others_fit verbs.SemOp ws h room = semop_fits ws room
others_fit verbs.SemCtl ws h room = semctl_fits ws room
