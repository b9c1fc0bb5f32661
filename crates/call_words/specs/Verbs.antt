-- The names of calls, in scripts and in traces.
use Rattle.std.specs.Prelude.{◌≡◌, refl, ℕ, List, [], ◌∷◌, codes, bytes_eq, Option, Some, None}
use Rattle.std.specs.List.{find}
use Rattle.call_words.specs.declared.verb.Verb.{Verb}
use Rattle.call_words.specs.declared.verb.Verb.TheVariants as verbs

abbrev pub verb_name : Verb → List ℕ
verb_name verbs.Fork = codes "fork"
verb_name verbs.Exit = codes "exit"
verb_name verbs.GetPid = codes "getpid"
verb_name verbs.Kill = codes "kill"
verb_name verbs.SigAction = codes "sigaction"
verb_name verbs.SigProcMask = codes "sigprocmask"
verb_name verbs.SigPending = codes "sigpending"
verb_name verbs.Handled = codes "handled"
verb_name verbs.WaitPid = codes "waitpid"
verb_name verbs.MsgGet = codes "msgget"
verb_name verbs.MsgSnd = codes "msgsnd"
verb_name verbs.MsgRcv = codes "msgrcv"
verb_name verbs.MsgCtl = codes "msgctl"
verb_name verbs.SemGet = codes "semget"
verb_name verbs.SemOp = codes "semop"
verb_name verbs.SemCtl = codes "semctl"

abbrev pub all_verbs : List Verb
all_verbs =
    verbs.MsgRcv ∷ verbs.MsgSnd ∷ verbs.SemOp ∷ verbs.GetPid ∷ verbs.Fork ∷ verbs.Exit ∷ verbs.Kill ∷ verbs.WaitPid
    ∷ verbs.SigAction ∷ verbs.SigProcMask ∷ verbs.SigPending ∷ verbs.Handled ∷ verbs.MsgGet ∷ verbs.MsgCtl
    ∷ verbs.SemGet ∷ verbs.SemCtl ∷ []

-- the call that a word names
unfoldable pub verb_of : List ℕ → Option Verb
verb_of word = find (λ v. bytes_eq (verb_name v) word) all_verbs

-- ---- examples

pub a_name : verb_of (codes "semop") ≡ Some verbs.SemOp
unfolding verb_of
a_name = refl

pub no_longer_name : verb_of (codes "semops") ≡ None
unfolding verb_of
no_longer_name = refl
