-- Each call's text, and then ` =`, is read as that call.
use Rattle.std.proofs.Common.{◌≡◌, ℕ, ◌≤◌, ℤ, Bool, true, false, List, [], ◌∷◌, ◌++◌, Some, None, refl, ◌∙◌, arith}
use Rattle.std.specs.Prelude.{codes, decimal}
use Rattle.std.specs.Fmt.{signed_decimal}
use Rattle.std.specs.List.{AllByRecursion, flat_map}
use Rattle.pico_base.specs.declared.call.Call.{Call}
use Rattle.pico_base.specs.declared.call.Call.TheVariants as calls
use Rattle.pico_base.specs.declared.call.SemStep.{SemStep}
use Rattle.pico_base.specs.declared.numbers.Name.{Name}
use Rattle.pico_base.specs.declared.numbers.Name.TheVariants.{Proc, Msg, Sem}
use Rattle.pico_base.specs.declared.signal.Act.{Act}
use Rattle.pico_base.specs.declared.signal.How.{How}
use Rattle.pico_base.specs.declared.signal.PerSignal.{PerSignal}
use Rattle.pico_base.specs.declared.signal.Sig.{Sig}
use Rattle.pico_base.specs.declared.signal.SigArg.{SigArg}
use Rattle.kernel_model.specs.Texts.{message_text}
use Rattle.kernel_model.specs.Trace.{signal_name, signal_argument, action_name, how_name, set_text, word, create_words, step_text, values_text}
use Rattle.text_fields.specs.Fields.{digit_at, flag_at}
use Rattle.quoted_bytes.proofs.Strips.{strip_again}
use Rattle.quoted_bytes.specs.Front.{strip}
use Rattle.text_fields.proofs.Numerals.{IsWithin, front_number_again, signed_again}
use Rattle.text_fields.proofs.Sets.{signal_again, argument_again, action_again, how_again, set_again}
use Rattle.text_fields.proofs.Spelled.{IsStep, text_again, steps_again, values_again}
use Rattle.trace_text.specs.Reading.{exit_at, killed_at, handled_at, kill_at, sigaction_at, sigprocmask_at, child_at, waitpid_at, options_at, msgget_key_at, msgget_at, object_at, msgsnd_at, msgrcv_at, msgset_at, queue_command_at, msgctl_at, semget_key_at, semget_private_at, semget_at, semop_at, semaphore_at, setval_at, setall_at, set_command_at, semctl_at, withdrawal_from_at, withdrawal_at}
use Rattle.trace_text.proofs.Ranges.{IsTextInRange, no-word}

-- what stands behind a call
abbrev pub tail : List ℕ → List ℕ
tail more = 32 ∷ 61 ∷ more

blank-ends : (rest : List ℕ) → digit_at (32 ∷ rest) ≡ None
unfolding digit_at
blank-ends rest = refl

module _ (more : List ℕ) where
  pub exit-again : (n : ℕ) → n ≤ 65535 → exit_at (decimal n ++ tail more) ≡ Some (calls.Exit n, tail more)
  unfolding exit_at
  exit-again n h = rw (front_number_again 65535 n (tail more) h (omega arith) (blank-ends (61 ∷ more))) refl

  pub killed-again : (g : Sig) → killed_at (signal_name g ++ tail more) ≡ Some (calls.Killed g, tail more)
  unfolding killed_at
  killed-again g = rw (signal_again g (tail more)) refl

  pub handled-again : (g : Sig) → handled_at (signal_name g ++ tail more) ≡ Some (calls.Handled g, tail more)
  unfolding handled_at
  handled-again g = rw (signal_again g (tail more)) refl

  pub kill-again : (pid : ℕ) (g : SigArg) → pid ≤ 4294967295
      → kill_at (decimal pid ++ 32 ∷ (signal_argument g ++ tail more)) ≡ Some (calls.Kill pid g, tail more)
  unfolding kill_at
  kill-again pid g h =
      let rest : List ℕ = signal_argument g ++ tail more in
      rw (
        front_number_again 4294967295 pid (32 ∷ rest) h (omega arith) (blank-ends rest),
        strip_again (codes " ") rest,
        argument_again g (tail more),
      ) refl

  pub sigaction-again : (g : SigArg) (a : Act)
      → sigaction_at (signal_argument g ++ 32 ∷ (action_name a ++ tail more)) ≡ Some (calls.SigAction g a, tail more)
  unfolding sigaction_at
  sigaction-again g a =
      let rest : List ℕ = action_name a ++ tail more in
      rw (argument_again g (32 ∷ rest), strip_again (codes " ") rest, action_again a (tail more)) refl

  pub sigprocmask-again : (h : How) (s : PerSignal Bool)
      → sigprocmask_at (how_name h ++ 32 ∷ (set_text s ++ tail more)) ≡ Some (calls.SigProcMask h s, tail more)
  unfolding sigprocmask_at
  sigprocmask-again h s =
      let rest : List ℕ = set_text s ++ tail more in
      rw (how_again h (32 ∷ rest), strip_again (codes " ") rest, set_again s (61 ∷ more)) refl

  nohang-again : (b : Bool) → flag_at (codes " nohang") (word b (codes "nohang") ++ tail more) ≡ (b, tail more)
  unfolding flag_at strip
  nohang-again true = refl
  nohang-again false = refl

  nohang-ends : (b : Bool) → digit_at (word b (codes "nohang") ++ tail more) ≡ None
  unfolding digit_at
  nohang-ends true = refl
  nohang-ends false = refl

  any-again : (rest : List ℕ) → child_at (codes "any" ++ rest) ≡ Some (None, rest)
  unfolding child_at
  any-again rest = rw (strip_again (codes "any") rest) refl

  child-again : (pid : ℕ) (rest : List ℕ) → pid ≤ 4294967295 → digit_at rest ≡ None
      → child_at (decimal pid ++ rest) ≡ Some (Some pid, rest)
  unfolding child_at
  child-again pid rest h ends =
      rw (
        no-word 97 (codes "ny") pid rest h (omega arith),
        front_number_again 4294967295 pid rest h (omega arith) ends,
      ) refl

  pub wait-any-again : (b : Bool)
      → waitpid_at (codes "any" ++ (word b (codes "nohang") ++ tail more)) ≡ Some (calls.WaitPid None b, tail more)
  unfolding waitpid_at
  wait-any-again b = rw (any-again (word b (codes "nohang") ++ tail more), nohang-again b) refl

  pub wait-again : (pid : ℕ) (b : Bool) → pid ≤ 4294967295
      → waitpid_at (decimal pid ++ (word b (codes "nohang") ++ tail more))
      ≡ Some (calls.WaitPid (Some pid) b, tail more)
  unfolding waitpid_at
  wait-again pid b h = rw (
    child-again pid (word b (codes "nohang") ++ tail more) h (nohang-ends b),
    nohang-again b,
  ) refl

  options-again : (c e : Bool) → options_at (create_words c e ++ tail more) ≡ ((c, e), tail more)
  unfolding options_at flag_at strip
  options-again true true = refl
  options-again true false = refl
  options-again false true = refl
  options-again false false = refl

  options-end : (c e : Bool) → digit_at (create_words c e ++ tail more) ≡ None
  unfolding digit_at
  options-end true true = refl
  options-end true false = refl
  options-end false true = refl
  options-end false false = refl

  pub msgget-private-again : msgget_at (codes "private" ++ tail more) ≡ Some (calls.MsgGet None false false, tail more)
  unfolding msgget_at
  msgget-private-again = rw (strip_again (codes "private") (tail more)) refl

  pub msgget-again : (key : ℕ) (c e : Bool) → key ≤ 4294967295
      → msgget_at (decimal key ++ (create_words c e ++ tail more)) ≡ Some (calls.MsgGet (Some key) c e, tail more)
  unfolding msgget_at msgget_key_at
  msgget-again key c e h =
      let rest : List ℕ = create_words c e ++ tail more in
      rw (
        no-word 112 (codes "rivate") key rest h (omega arith),
        front_number_again 4294967295 key rest h (omega arith) (options-end c e),
        options-again c e,
      ) refl

  object-again : (id : ℕ) (class : ℤ) (rest : List ℕ) → id ≤ 4294967295 → IsWithin 2147483647 class
      → object_at (decimal id ++ 32 ∷ (signed_decimal class ++ 32 ∷ rest)) ≡ Some ((id, class), rest)
  unfolding object_at
  object-again id class rest h within =
      let behind : List ℕ = signed_decimal class ++ 32 ∷ rest in
      rw (
        front_number_again 4294967295 id (32 ∷ behind) h (omega arith) (blank-ends behind),
        strip_again (codes " ") behind,
        signed_again 2147483647 class (32 ∷ rest) (omega arith) within (blank-ends rest),
        strip_again (codes " ") rest,
      ) refl

  nowait-again : (b : Bool) → flag_at (codes " nowait") (word b (codes "nowait") ++ tail more) ≡ (b, tail more)
  unfolding flag_at strip
  nowait-again true = refl
  nowait-again false = refl

  pub msgsnd-again : (id : ℕ) (class : ℤ) (text : List ℕ) (b : Bool) → id ≤ 4294967295 → IsWithin 2147483647 class
      → IsTextInRange text
      → msgsnd_at (decimal id ++ 32
      ∷ (signed_decimal class ++ 32 ∷ (message_text text ++ (word b (codes "nowait") ++ tail more))))
      ≡ Some (calls.MsgSnd id class text b, tail more)
  unfolding msgsnd_at
  msgsnd-again id class text b h within t =
      let rest : List ℕ = word b (codes "nowait") ++ tail more in
      rw (
        object-again id class (message_text text ++ rest) h within,
        text_again text rest t.bytes t.few,
        nowait-again b,
      ) refl

  noerror-again : (a b : Bool)
      → flag_at (codes " noerror") (word a (codes "noerror") ++ (word b (codes "nowait") ++ tail more))
      ≡ (a, word b (codes "nowait") ++ tail more)
  unfolding flag_at strip
  noerror-again true true = refl
  noerror-again true false = refl
  noerror-again false true = refl
  noerror-again false false = refl

  noerror-ends : (a b : Bool) → digit_at (word a (codes "noerror") ++ (word b (codes "nowait") ++ tail more)) ≡ None
  unfolding digit_at
  noerror-ends true true = refl
  noerror-ends true false = refl
  noerror-ends false true = refl
  noerror-ends false false = refl

  pub msgrcv-again : (id : ℕ) (class : ℤ) (size : ℕ) (a b : Bool) → id ≤ 4294967295 → IsWithin 2147483647 class
      → size ≤ 65535
      → msgrcv_at (decimal id ++ 32
      ∷ (signed_decimal class ++ 32
      ∷ (decimal size ++ (word a (codes "noerror") ++ (word b (codes "nowait") ++ tail more)))))
      ≡ Some (calls.MsgRcv id class size a b, tail more)
  unfolding msgrcv_at
  msgrcv-again id class size a b h within small =
      let rest : List ℕ = word a (codes "noerror") ++ (word b (codes "nowait") ++ tail more) in
      rw (
        object-again id class (decimal size ++ rest) h within,
        front_number_again 65535 size rest small (omega arith) (noerror-ends a b),
        noerror-again a b,
        nowait-again b,
      ) refl

  -- ---- commands on queues

  stat-chosen : (id : ℕ) (rest : List ℕ) → queue_command_at id (codes " stat" ++ rest) ≡ Some (calls.MsgStat id, rest)
  unfolding queue_command_at strip
  stat-chosen id rest = refl

  rmid-chosen : (id : ℕ) (rest : List ℕ) → queue_command_at id (codes " rmid" ++ rest) ≡ Some (calls.MsgRmid id, rest)
  unfolding queue_command_at strip
  rmid-chosen id rest = refl

  set-chosen : (id : ℕ) (rest : List ℕ)
      → queue_command_at id (codes " set " ++ rest) ≡ msgset_at id (codes " set " ++ rest)
  unfolding queue_command_at strip
  set-chosen id rest = refl

  msgset-again : (id qbytes : ℕ) → qbytes ≤ 65535
      → msgset_at id (codes " set " ++ (decimal qbytes ++ tail more)) ≡ Some (calls.MsgSet id qbytes, tail more)
  unfolding msgset_at
  msgset-again id qbytes h =
      rw (
        strip_again (codes " set ") (decimal qbytes ++ tail more),
        front_number_again 65535 qbytes (tail more) h (omega arith) (blank-ends (61 ∷ more)),
      ) refl

  module _ (id : ℕ) (h : id ≤ 4294967295) where
    pub msgstat-again : msgctl_at (decimal id ++ (codes " stat" ++ tail more)) ≡ Some (calls.MsgStat id, tail more)
    unfolding msgctl_at
    msgstat-again = rw (front_number_again 4294967295 id (codes " stat" ++ tail more) h (omega arith) (blank-ends _))
        (stat-chosen id (tail more))

    pub msgrmid-again : msgctl_at (decimal id ++ (codes " rmid" ++ tail more)) ≡ Some (calls.MsgRmid id, tail more)
    unfolding msgctl_at
    msgrmid-again = rw (front_number_again 4294967295 id (codes " rmid" ++ tail more) h (omega arith) (blank-ends _))
        (rmid-chosen id (tail more))

    pub msgqbytes-again : (qbytes : ℕ) → qbytes ≤ 65535
        → msgctl_at (decimal id ++ (codes " set " ++ (decimal qbytes ++ tail more)))
        ≡ Some (calls.MsgSet id qbytes, tail more)
    unfolding msgctl_at
    msgqbytes-again qbytes small =
        let rest : List ℕ = decimal qbytes ++ tail more in
        rw (front_number_again 4294967295 id (codes " set " ++ rest) h (omega arith) (blank-ends _))
        (set-chosen id rest ∙ msgset-again id qbytes small)

  -- ---- new sets and operations

  pub semget-private-again : (n : ℕ) → n ≤ 65535
      → semget_at (codes "private " ++ (decimal n ++ tail more)) ≡ Some (calls.SemGet None n false false, tail more)
  unfolding semget_at semget_private_at
  semget-private-again n h =
      rw (
        strip_again (codes "private ") (decimal n ++ tail more),
        front_number_again 65535 n (tail more) h (omega arith) (blank-ends (61 ∷ more)),
      ) refl

  pub semget-again : (key n : ℕ) (c e : Bool) → key ≤ 4294967295 → n ≤ 65535
      → semget_at (decimal key ++ 32 ∷ (decimal n ++ (create_words c e ++ tail more)))
      ≡ Some (calls.SemGet (Some key) n c e, tail more)
  unfolding semget_at semget_key_at
  semget-again key n c e h small =
      let rest : List ℕ = create_words c e ++ tail more in
      rw (
        no-word 112 (codes "rivate ") key (32 ∷ (decimal n ++ rest)) h (omega arith),
        front_number_again 4294967295 key (32 ∷ (decimal n ++ rest)) h (omega arith) (blank-ends (decimal n ++ rest)),
        strip_again (codes " ") (decimal n ++ rest),
        front_number_again 65535 n rest small (omega arith) (options-end c e),
        options-again c e,
      ) refl

  steps-end : (steps : List SemStep) → digit_at (flat_map step_text steps ++ tail more) ≡ None
  unfolding digit_at
  steps-end [] = refl
  steps-end (step ∷ steps) = refl

  pub semop-again : (id : ℕ) (steps : List SemStep) → id ≤ 4294967295 → AllByRecursion IsStep steps
      → semop_at (decimal id ++ (flat_map step_text steps ++ tail more)) ≡ Some (calls.SemOp id steps, tail more)
  unfolding semop_at
  semop-again id steps h all =
      rw (
        front_number_again 4294967295 id (flat_map step_text steps ++ tail more) h (omega arith) (steps-end steps),
        steps_again steps more all,
      ) refl

  -- ---- commands on sets

  semaphore-again : (call : ℕ → Call) (num : ℕ) → num ≤ 65535
      → semaphore_at call (decimal num ++ tail more) ≡ Some (call num, tail more)
  unfolding semaphore_at
  semaphore-again call num h =
      rw (front_number_again 65535 num (tail more) h (omega arith) (blank-ends (61 ∷ more))) refl

  setval-again : (id num value : ℕ) → num ≤ 65535 → value ≤ 65535
      → setval_at id (decimal num ++ 32 ∷ (decimal value ++ tail more)) ≡ Some (calls.SemSetVal id num value, tail more)
  unfolding setval_at
  setval-again id num value h small =
      let rest : List ℕ = decimal value ++ tail more in
      rw (
        front_number_again 65535 num (32 ∷ rest) h (omega arith) (blank-ends rest),
        strip_again (codes " ") rest,
        front_number_again 65535 value (tail more) small (omega arith) (blank-ends (61 ∷ more)),
      ) refl

  setall-again : (id v : ℕ) (vs : List ℕ) → AllByRecursion (λ n. n ≤ 65535) (v ∷ vs)
      → setall_at id (values_text (v ∷ vs) ++ tail more) ≡ Some (calls.SemSetAll id (v ∷ vs), tail more)
  unfolding setall_at
  setall-again id v vs h = rw (values_again 65535 (omega arith) v vs (61 ∷ more) h) refl

  getall-chosen : (id : ℕ) (rest : List ℕ)
      → set_command_at id (codes " getall" ++ rest) ≡ Some (calls.SemGetAll id, rest)
  unfolding set_command_at strip
  getall-chosen id rest = refl

  removal-chosen : (id : ℕ) (rest : List ℕ) → set_command_at id (codes " rmid" ++ rest) ≡ Some (calls.SemRmid id, rest)
  unfolding set_command_at strip
  removal-chosen id rest = refl

  getval-chosen : (id : ℕ) (rest : List ℕ)
      → set_command_at id (codes " getval " ++ rest) ≡ semaphore_at (calls.SemGetVal id) rest
  unfolding set_command_at strip
  getval-chosen id rest = refl

  getpid-chosen : (id : ℕ) (rest : List ℕ)
      → set_command_at id (codes " getpid " ++ rest) ≡ semaphore_at (calls.SemGetPid id) rest
  unfolding set_command_at strip
  getpid-chosen id rest = refl

  getncnt-chosen : (id : ℕ) (rest : List ℕ)
      → set_command_at id (codes " getncnt " ++ rest) ≡ semaphore_at (calls.SemGetNcnt id) rest
  unfolding set_command_at strip
  getncnt-chosen id rest = refl

  getzcnt-chosen : (id : ℕ) (rest : List ℕ)
      → set_command_at id (codes " getzcnt " ++ rest) ≡ semaphore_at (calls.SemGetZcnt id) rest
  unfolding set_command_at strip
  getzcnt-chosen id rest = refl

  setval-chosen : (id : ℕ) (rest : List ℕ) → set_command_at id (codes " setval " ++ rest) ≡ setval_at id rest
  unfolding set_command_at strip
  setval-chosen id rest = refl

  setall-chosen : (id : ℕ) (rest : List ℕ) → set_command_at id (codes " setall " ++ rest) ≡ setall_at id rest
  unfolding set_command_at strip
  setall-chosen id rest = refl

  module _ (id : ℕ) (h : id ≤ 4294967295) where
    -- the identifier, and a blank behind it
    named : (rest : List ℕ) → semctl_at (decimal id ++ 32 ∷ rest) ≡ set_command_at id (32 ∷ rest)
    unfolding semctl_at
    named rest = rw (front_number_again 4294967295 id (32 ∷ rest) h (omega arith) (blank-ends rest)) refl

    pub getall-again : semctl_at (decimal id ++ (codes " getall" ++ tail more)) ≡ Some (calls.SemGetAll id, tail more)
    getall-again = named _ ∙ getall-chosen id (tail more)

    pub removal-again : semctl_at (decimal id ++ (codes " rmid" ++ tail more)) ≡ Some (calls.SemRmid id, tail more)
    removal-again = named _ ∙ removal-chosen id (tail more)

    pub getval-again : (num : ℕ) → num ≤ 65535
        → semctl_at (decimal id ++ (codes " getval " ++ (decimal num ++ tail more)))
        ≡ Some (calls.SemGetVal id num, tail more)
    getval-again num small =
        named _ ∙ getval-chosen id (decimal num ++ tail more) ∙ semaphore-again (calls.SemGetVal id) num small

    pub getpid-again : (num : ℕ) → num ≤ 65535
        → semctl_at (decimal id ++ (codes " getpid " ++ (decimal num ++ tail more)))
        ≡ Some (calls.SemGetPid id num, tail more)
    getpid-again num small =
        named _ ∙ getpid-chosen id (decimal num ++ tail more) ∙ semaphore-again (calls.SemGetPid id) num small

    pub getncnt-again : (num : ℕ) → num ≤ 65535
        → semctl_at (decimal id ++ (codes " getncnt " ++ (decimal num ++ tail more)))
        ≡ Some (calls.SemGetNcnt id num, tail more)
    getncnt-again num small =
        named _ ∙ getncnt-chosen id (decimal num ++ tail more) ∙ semaphore-again (calls.SemGetNcnt id) num small

    pub getzcnt-again : (num : ℕ) → num ≤ 65535
        → semctl_at (decimal id ++ (codes " getzcnt " ++ (decimal num ++ tail more)))
        ≡ Some (calls.SemGetZcnt id num, tail more)
    getzcnt-again num small =
        named _ ∙ getzcnt-chosen id (decimal num ++ tail more) ∙ semaphore-again (calls.SemGetZcnt id) num small

    pub set-value-again : (num value : ℕ) → num ≤ 65535 → value ≤ 65535
        → semctl_at (decimal id ++ (codes " setval " ++ (decimal num ++ 32 ∷ (decimal value ++ tail more))))
        ≡ Some (calls.SemSetVal id num value, tail more)
    set-value-again num value small low =
        named _ ∙ setval-chosen id (decimal num ++ 32 ∷ (decimal value ++ tail more))
        ∙ setval-again id num value small low

    pub set-all-again : (v : ℕ) (vs : List ℕ) → AllByRecursion (λ n. n ≤ 65535) (v ∷ vs)
        → semctl_at (decimal id ++ (codes " setall " ++ (values_text (v ∷ vs) ++ tail more)))
        ≡ Some (calls.SemSetAll id (v ∷ vs), tail more)
    set-all-again v vs all = named _ ∙ setall-chosen id (values_text (v ∷ vs) ++ tail more) ∙ setall-again id v vs all

  -- ---- withdrawals

  withdrawal-again : (name : ℕ → Name) (n : ℕ) → n ≤ 4294967295
      → withdrawal_from_at name (decimal n ++ tail more) ≡ Some (calls.Withdraw (name n), tail more)
  unfolding withdrawal_from_at
  withdrawal-again name n h =
      rw (front_number_again 4294967295 n (tail more) h (omega arith) (blank-ends (61 ∷ more))) refl

  queue-chosen : (rest : List ℕ) → withdrawal_at (codes "msg " ++ rest) ≡ withdrawal_from_at Msg rest
  unfolding withdrawal_at strip
  queue-chosen rest = refl

  semaphores-chosen : (rest : List ℕ) → withdrawal_at (codes "sem " ++ rest) ≡ withdrawal_from_at Sem rest
  unfolding withdrawal_at strip
  semaphores-chosen rest = refl

  process-chosen : (rest : List ℕ) → withdrawal_at (codes "proc " ++ rest) ≡ withdrawal_from_at Proc rest
  unfolding withdrawal_at strip
  process-chosen rest = refl

  pub from-queue-again : (id : ℕ) → id ≤ 4294967295
      → withdrawal_at (codes "msg " ++ (decimal id ++ tail more)) ≡ Some (calls.Withdraw (Msg id), tail more)
  from-queue-again id h = queue-chosen (decimal id ++ tail more) ∙ withdrawal-again Msg id h

  pub from-set-again : (id : ℕ) → id ≤ 4294967295
      → withdrawal_at (codes "sem " ++ (decimal id ++ tail more)) ≡ Some (calls.Withdraw (Sem id), tail more)
  from-set-again id h = semaphores-chosen (decimal id ++ tail more) ∙ withdrawal-again Sem id h

  pub from-process-again : (pid : ℕ) → pid ≤ 4294967295
      → withdrawal_at (codes "proc " ++ (decimal pid ++ tail more)) ≡ Some (calls.Withdraw (Proc pid), tail more)
  from-process-again pid h = process-chosen (decimal pid ++ tail more) ∙ withdrawal-again Proc pid h
