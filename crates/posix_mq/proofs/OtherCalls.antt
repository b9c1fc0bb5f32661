-- A call that isn't on queues is one of a given script.
use Rattle.std.proofs.Common.{◌≡◌, ℕ, Bool, true, false, cond, List, [], ◌∷◌, Option, Some, None, refl, sym, ap, ◌∙◌}
use Rattle.std.specs.Prelude.{IfSome, codes, bytes_eq, option_map}
use Rattle.std.specs.List.{find}
use Rattle.pico_base.specs.declared.call.Call.{Call}
use Rattle.pico_base.specs.declared.call.Call.TheVariants as calls
use Rattle.pico_base.specs.Options.{◌>>=◌}
use Rattle.call_words.specs.declared.verb.Verb.{Verb}
use Rattle.call_words.specs.declared.verb.Verb.TheVariants as verbs
use Rattle.call_words.specs.Verbs.{verb_of, verb_name, all_verbs}
use Rattle.script_reader.specs.Parts as parts
use Rattle.script_reader.specs.Parts.{number, positive, each, step, values}
use Rattle.script_reader.specs.Forms as forms
use Rattle.script_reader.specs.Forms.{FromCall, Child, call_of, identifier, process, plainly}
use Rattle.script_reader.proofs.Saying.{bytes_same}
use Rattle.mq_model.specs.Reading.{is_system_v}
use Rattle.mq_model.specs.Given.{is_given_call}

-- the call that a form gives may stand in a given script
abbrev pub IsGivenCall : FromCall → Type 0
IsGivenCall c = is_given_call c.1 ≡ true

-- ---- options

bind : {A B : Type 0} (o : Option A) (f : A → Option B) (Q : B → Type 0) → ((x : A) → IfSome (f x) Q)
    → IfSome (o >>= f) Q
bind None f Q h = tt
bind (Some x) f Q h = h x

mapped : {A B : Type 0} (o : Option A) (f : A → B) (Q : B → Type 0) → ((x : A) → Q (f x)) → IfSome (option_map f o) Q
mapped None f Q h = tt
mapped (Some x) f Q h = h x

tested : {A : Type 0} (b : Bool) (x y : Option A) (Q : A → Type 0) → IfSome x Q → IfSome y Q → IfSome (cond b x y) Q
tested true x y Q f g = f
tested false x y Q f g = g

-- ---- processes and signals

exit_given : (ws : List (List ℕ)) → IfSome (forms.exit_of ws) IsGivenCall
unfolding forms.exit_of
exit_given [] = tt
exit_given (n ∷ []) = mapped (number 65535 n) (λ status. plainly (calls.Exit status)) IsGivenCall (λ status. refl)
exit_given (n ∷ m ∷ ws) = tt

getpid_given : (ws : List (List ℕ)) → IfSome (forms.getpid_of ws) IsGivenCall
unfolding forms.getpid_of
getpid_given [] = refl
getpid_given (w ∷ ws) = tt

sigpending_given : (ws : List (List ℕ)) → IfSome (forms.sigpending_of ws) IsGivenCall
unfolding forms.sigpending_of
sigpending_given [] = refl
sigpending_given (w ∷ ws) = tt

kill_given : (ws : List (List ℕ)) → IfSome (forms.kill_of ws) IsGivenCall
unfolding forms.kill_of
kill_given [] = tt
kill_given (p ∷ []) = tt
kill_given (p ∷ g ∷ []) =
    bind (process p) (λ o. parts.signal_argument g >>= λ sig. Some (o.0, calls.Kill o.1 sig)) IsGivenCall
    (λ o. bind (parts.signal_argument g) (λ sig. Some (o.0, calls.Kill o.1 sig)) IsGivenCall (λ sig. refl))
kill_given (p ∷ g ∷ x ∷ ws) = tt

sigaction_given : (ws : List (List ℕ)) → IfSome (forms.sigaction_of ws) IsGivenCall
unfolding forms.sigaction_of
sigaction_given [] = tt
sigaction_given (g ∷ []) = tt
sigaction_given (g ∷ a ∷ []) =
    bind (parts.signal_argument g) (λ sig. parts.action a >>= λ act. Some (plainly (calls.SigAction sig act)))
    IsGivenCall
    (λ sig. bind (parts.action a) (λ act. Some (plainly (calls.SigAction sig act))) IsGivenCall (λ act. refl))
sigaction_given (g ∷ a ∷ x ∷ ws) = tt

sigprocmask_given : (ws : List (List ℕ)) → IfSome (forms.sigprocmask_of ws) IsGivenCall
unfolding forms.sigprocmask_of
sigprocmask_given [] = tt
sigprocmask_given (h ∷ []) = tt
sigprocmask_given (h ∷ m ∷ []) =
    bind (parts.how h) (λ way. parts.signal_set m >>= λ set. Some (plainly (calls.SigProcMask way set))) IsGivenCall
    (λ way. bind (parts.signal_set m) (λ set. Some (plainly (calls.SigProcMask way set))) IsGivenCall (λ set. refl))
sigprocmask_given (h ∷ m ∷ x ∷ ws) = tt

handled_given : (ws : List (List ℕ)) → IfSome (forms.handled_of ws) IsGivenCall
unfolding forms.handled_of
handled_given [] = tt
handled_given (g ∷ []) = mapped (parts.signal g) (λ sig. plainly (calls.Handled sig)) IsGivenCall (λ sig. refl)
handled_given (g ∷ x ∷ ws) = tt

waitpid_given : (ws : List (List ℕ)) → IfSome (forms.waitpid_of ws) IsGivenCall
unfolding forms.waitpid_of
waitpid_given [] = tt
waitpid_given (w ∷ more) =
    bind (forms.child w)
    (λ whom. forms.optional (codes "nohang") more >>= λ nohang. Some (whom.0, calls.WaitPid whom.1 nohang))
    IsGivenCall
    (λ whom. bind (forms.optional (codes "nohang") more) (λ nohang. Some (whom.0, calls.WaitPid whom.1 nohang))
    IsGivenCall (λ nohang. refl))

-- ---- semaphore sets

keyed_set_given : (k n : List ℕ) (more : List (List ℕ)) → IfSome (forms.keyed_set k n more) IsGivenCall
unfolding forms.keyed_set
keyed_set_given k n more =
    bind (positive 4294967295 k)
    (λ key. number 65535 n >>= λ count. forms.two_optional (codes "create") (codes "excl") more >>= λ flags.
    Some (plainly (calls.SemGet (Some key) count flags.0 flags.1))) IsGivenCall
    (λ key. bind (number 65535 n)
    (λ count. forms.two_optional (codes "create") (codes "excl") more >>= λ flags.
    Some (plainly (calls.SemGet (Some key) count flags.0 flags.1))) IsGivenCall
    (λ count. bind (forms.two_optional (codes "create") (codes "excl") more)
    (λ flags. Some (plainly (calls.SemGet (Some key) count flags.0 flags.1))) IsGivenCall (λ flags. refl)))

private_set_given : (n : List ℕ) (more : List (List ℕ)) → IfSome (forms.private_set n more) IsGivenCall
unfolding forms.private_set
private_set_given n [] =
    mapped (number 65535 n) (λ count. plainly (calls.SemGet None count false false)) IsGivenCall (λ count. refl)
private_set_given n (w ∷ ws) = tt

semget_given : (ws : List (List ℕ)) → IfSome (forms.semget_of ws) IsGivenCall
unfolding forms.semget_of
semget_given [] = tt
semget_given (k ∷ []) = tt
semget_given (k ∷ n ∷ more) =
    tested (bytes_eq k (codes "private")) (forms.private_set n more) (forms.keyed_set k n more) IsGivenCall
    (private_set_given n more) (keyed_set_given k n more)

semop_given : (ws : List (List ℕ)) → IfSome (forms.semop_of ws) IsGivenCall
unfolding forms.semop_of
semop_given [] = tt
semop_given (s ∷ []) = tt
semop_given (s ∷ o ∷ more) =
    bind (identifier s) (λ x. each step (o ∷ more) >>= λ steps. Some (x.0, calls.SemOp x.1 steps)) IsGivenCall
    (λ x. bind (each step (o ∷ more)) (λ steps. Some (x.0, calls.SemOp x.1 steps)) IsGivenCall (λ steps. refl))

abbrev IsGivenOne : Call → Type 0
IsGivenOne call = is_given_call call ≡ true

whole_set_given : (id : ℕ) (c : List ℕ) → IfSome (forms.whole_set id c) IsGivenOne
unfolding forms.whole_set
whole_set_given id c =
    tested (bytes_eq c (codes "getall")) (Some (calls.SemGetAll id))
    (cond (bytes_eq c (codes "rmid")) (Some (calls.SemRmid id)) None) IsGivenOne refl
    (tested (bytes_eq c (codes "rmid")) (Some (calls.SemRmid id)) None IsGivenOne refl tt)

semaphore_given : (id : ℕ) (c : List ℕ) (num : ℕ) → IfSome (forms.semaphore_of id c num) IsGivenOne
unfolding forms.semaphore_of
semaphore_given id c num =
    let zero : Option Call = cond (bytes_eq c (codes "getzcnt")) (Some (calls.SemGetZcnt id num)) None in
    let more : Option Call = cond (bytes_eq c (codes "getncnt")) (Some (calls.SemGetNcnt id num)) zero in
    let pid : Option Call = cond (bytes_eq c (codes "getpid")) (Some (calls.SemGetPid id num)) more in
    tested (bytes_eq c (codes "getval")) (Some (calls.SemGetVal id num)) pid IsGivenOne refl
    (tested (bytes_eq c (codes "getpid")) (Some (calls.SemGetPid id num)) more IsGivenOne refl
    (tested (bytes_eq c (codes "getncnt")) (Some (calls.SemGetNcnt id num)) zero IsGivenOne refl
    (tested (bytes_eq c (codes "getzcnt")) (Some (calls.SemGetZcnt id num)) None IsGivenOne refl tt)))

one_argument_given : (id : ℕ) (c i : List ℕ) → IfSome (forms.one_argument id c i) IsGivenOne
unfolding forms.one_argument
one_argument_given id c i =
    tested (bytes_eq c (codes "setall")) (option_map (λ all. calls.SemSetAll id all) (values i))
    (number 65535 i >>= forms.semaphore_of id c) IsGivenOne
    (mapped (values i) (λ all. calls.SemSetAll id all) IsGivenOne (λ all. refl))
    (bind (number 65535 i) (forms.semaphore_of id c) IsGivenOne (λ num. semaphore_given id c num))

set_value_given : (id : ℕ) (c i v : List ℕ) → IfSome (forms.set_value id c i v) IsGivenOne
unfolding forms.set_value
set_value_given id c i v =
    bind (number 65535 i)
    (λ num. number 65535 v >>= λ value.
    cond (bytes_eq c (codes "setval")) (Some (calls.SemSetVal id num value)) None) IsGivenOne
    (λ num. bind (number 65535 v)
    (λ value. cond (bytes_eq c (codes "setval")) (Some (calls.SemSetVal id num value)) None) IsGivenOne
    (λ value. tested (bytes_eq c (codes "setval")) (Some (calls.SemSetVal id num value)) None IsGivenOne refl tt))

set_command_given : (id : ℕ) (ws : List (List ℕ)) → IfSome (forms.set_command id ws) IsGivenOne
unfolding forms.set_command
set_command_given id [] = tt
set_command_given id (c ∷ []) = whole_set_given id c
set_command_given id (c ∷ i ∷ []) = one_argument_given id c i
set_command_given id (c ∷ i ∷ v ∷ []) = set_value_given id c i v
set_command_given id (c ∷ i ∷ v ∷ x ∷ ws) = tt

called : (o : Option ℕ) (call : Option Call) → IfSome call IsGivenOne
    → IfSome (call >>= λ c. Some (o, c)) IsGivenCall
called o None h = tt
called o (Some call) h = h

semctl_given : (ws : List (List ℕ)) → IfSome (forms.semctl_of ws) IsGivenCall
unfolding forms.semctl_of
semctl_given [] = tt
semctl_given (s ∷ more) =
    bind (identifier s) (λ x. forms.set_command x.1 more >>= λ call. Some (x.0, call)) IsGivenCall
    (λ x. called x.0 (forms.set_command x.1 more) (set_command_given x.1 more))

-- ---- the table

-- a call that isn't on System V's queues
abbrev pub IsNoQueue : Verb → Type 0
IsNoQueue verbs.MsgGet = ⊥
IsNoQueue verbs.MsgSnd = ⊥
IsNoQueue verbs.MsgRcv = ⊥
IsNoQueue verbs.MsgCtl = ⊥
IsNoQueue verb = Unit {0}

-- each other call is one of a given script
pub others_given : (verb : Verb) (ws : List (List ℕ)) → IsNoQueue verb → IfSome (call_of verb ws) IsGivenCall
others_given verbs.Fork ws h = tt
others_given verbs.Exit ws h = exit_given ws
others_given verbs.GetPid ws h = getpid_given ws
others_given verbs.Kill ws h = kill_given ws
others_given verbs.SigAction ws h = sigaction_given ws
others_given verbs.SigProcMask ws h = sigprocmask_given ws
others_given verbs.SigPending ws h = sigpending_given ws
others_given verbs.Handled ws h = handled_given ws
others_given verbs.WaitPid ws h = waitpid_given ws
others_given verbs.MsgGet ws h = absurd h
others_given verbs.MsgSnd ws h = absurd h
others_given verbs.MsgRcv ws h = absurd h
others_given verbs.MsgCtl ws h = absurd h
others_given verbs.SemGet ws h = semget_given ws
others_given verbs.SemOp ws h = semop_given ws
others_given verbs.SemCtl ws h = semctl_given ws

-- ---- names

first_found : {A : Type 0} (p : A → Bool) (x : A) (o : Option A) (b : Bool) → p x ≡ b
    → IfSome o (λ y. p y ≡ true) → IfSome (cond b (Some x) o) (λ y. p y ≡ true)
first_found p x o true e h = e
first_found p x o false e h = h

found : {A : Type 0} (p : A → Bool) (xs : List A) → IfSome (find p xs) (λ x. p x ≡ true)
found p [] = tt
found p (x ∷ xs) = first_found p x (find p xs) (p x) refl (found p xs)

verb_named : (name : List ℕ) (verb : Verb) → verb_of name ≡ Some verb → verb_name verb ≡ name
unfolding verb_of
verb_named name verb e =
    bytes_same (verb_name verb) name
    (of (find (λ v. bytes_eq (verb_name v) name) all_verbs) (found (λ v. bytes_eq (verb_name v) name) all_verbs) e)
  where
    of : (o : Option Verb) → IfSome o (λ v. bytes_eq (verb_name v) name ≡ true) → o ≡ Some verb
        → bytes_eq (verb_name verb) name ≡ true
    of None h e = absurd cc
    of (Some v) h e = let same : v ≡ verb = cc in sym (ap (λ (w : Verb). bytes_eq (verb_name w) name) same) ∙ h

not_named : (name : List ℕ) (verb : Verb) → verb_of name ≡ Some verb → is_system_v (verb_name verb) ≡ true
    → is_system_v name ≡ false → ⊥
not_named name verb e is other =
    let both : true ≡ false = sym is ∙ ap is_system_v (verb_named name verb e) ∙ other in cc

-- a call whose name is none of System V's queues isn't on them
pub no_queue_named : (name : List ℕ) (verb : Verb) → verb_of name ≡ Some verb → is_system_v name ≡ false
    → IsNoQueue verb
no_queue_named name verbs.MsgGet e other = not_named name verbs.MsgGet e refl other
no_queue_named name verbs.MsgSnd e other = not_named name verbs.MsgSnd e refl other
no_queue_named name verbs.MsgRcv e other = not_named name verbs.MsgRcv e refl other
no_queue_named name verbs.MsgCtl e other = not_named name verbs.MsgCtl e refl other
no_queue_named name verbs.Fork e other = tt
no_queue_named name verbs.Exit e other = tt
no_queue_named name verbs.GetPid e other = tt
no_queue_named name verbs.Kill e other = tt
no_queue_named name verbs.SigAction e other = tt
no_queue_named name verbs.SigProcMask e other = tt
no_queue_named name verbs.SigPending e other = tt
no_queue_named name verbs.Handled e other = tt
no_queue_named name verbs.WaitPid e other = tt
no_queue_named name verbs.SemGet e other = tt
no_queue_named name verbs.SemOp e other = tt
no_queue_named name verbs.SemCtl e other = tt
