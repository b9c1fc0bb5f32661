-- Calls: the words of a call are read as it, and have no more bytes than the words that it was read from.
use Rattle.std.proofs.Common.{◌≡◌, ℕ, ◌≤◌, ℤ, Bool, true, false, ◌&&◌, cond, List, [], ◌∷◌, ◌++◌, length, map, Option, Some, None, refl, sym, ap, subst, ◌∙◌, arith}
use Rattle.std.specs.Prelude.{IfSome, codes, bytes_eq, option_map}
use Rattle.std.specs.Fmt.{decimal, signed_decimal}
use Rattle.std.specs.List.{AllByRecursion}
use Rattle.std.proofs.lemmas.Bool.{and_parts}
use Rattle.std.proofs.lemmas.Slice.Eq.{bytes_eq-Decides}
use Rattle.pico_base.specs.declared.call.Call.{Call}
use Rattle.pico_base.specs.declared.call.Call.TheVariants as calls
use Rattle.pico_base.specs.declared.signal.How.{How}
use Rattle.pico_base.specs.declared.signal.How.TheVariants.{Block, Unblock, SetMask}
use Rattle.pico_base.specs.declared.signal.PerSignal.{PerSignal}
use Rattle.pico_base.specs.declared.script.Script.{Script}
use Rattle.pico_base.specs.Options.{◌>>=◌}
use Rattle.kernel_model.specs.Trace as trace
use Rattle.kernel_model.specs.Trace.{signal_name, action_name, how_name, set_text, values_text}
use Rattle.call_words.specs.declared.verb.Verb.{Verb}
use Rattle.call_words.specs.declared.verb.Verb.TheVariants as verbs
use Rattle.script_reader.specs.Parts as parts
use Rattle.script_reader.specs.Parts.{number, positive, signed, signal, how, signal_set, text, each, step, values}
use Rattle.script_reader.specs.Forms as forms
use Rattle.call_words.specs.Verbs.{verb_name, verb_of}
use Rattle.script_reader.specs.Forms.{FromCall, Object, Child, identifier, process, optional, two_optional, call_of}
use Rattle.script_reader.proofs.Ranges.{if_bind, if_map, if_cond}
use Rattle.script_reader.proofs.Widths.{width}
use Rattle.script_speller.specs.Spelling.{object_text, child_word, message_word, step_word, flag_words, call_name, arguments}
use Rattle.script_speller.proofs.Numbers.{Spelt, is_argument, IsObjectOf, number_spelt, positive_spelt, signed_spelt, identifier_spelt, process_spelt}
use Rattle.script_speller.proofs.Names.{IsArgument, signal_spelt, action_spelt, how_spelt, signal_argument_spelt, set_again, set_word, set_short, AreSpelt, steps_spelt, values_spelt}
use Rattle.script_speller.proofs.Texts.{MessageOf, message_spelt}

-- ---- words and their spellings

-- the words are these texts
abbrev pub Words : List (List ℕ) → List (List ℕ) → Type 0
Words [] [] = Unit {0}
Words [] (t ∷ ts) = ⊥
Words (w ∷ ws) [] = ⊥
Words (w ∷ ws) (t ∷ ts) = Spelt w t × Words ws ts

-- words that can stand behind a call's name
abbrev pub AreArguments : List (List ℕ) → Type 0
AreArguments ws = AllByRecursion IsArgument ws

same_words : (ws ts : List (List ℕ)) → Words ws ts → (ws ≡ ts) × AreArguments ts
same_words [] [] h = (refl, tt)
same_words [] (t ∷ ts) h = absurd h
same_words (w ∷ ws) [] h = absurd h
same_words (w ∷ ws) (t ∷ ts) h =
    let more = same_words ws ts h.1 in (
      ap (λ (x : List ℕ). x ∷ ws) h.0.same ∙ ap (λ (xs : List (List ℕ)). t ∷ xs) more.0,
      (h.0.argument, more.1),
    )

words_from : (ws ts : List (List ℕ)) → ws ≡ ts → AreArguments ws → Words ws ts
words_from ws ts e h = subst (Words ws) e (itself ws h)
  where
    itself : (xs : List (List ℕ)) → AreArguments xs → Words xs xs
    itself [] k = tt
    itself (x ∷ xs) k = (record { same = refl; argument = k.0 }, itself xs k.1)

-- a word that is this text
literal : (w text : List ℕ) → bytes_eq w text ≡ true → is_argument text ≡ true → Spelt w text
literal w text e h = record { same = (bytes_eq-Decides w text).0 e; argument = h }

optional_spelt : (word : List ℕ) → is_argument word ≡ true → (more : List (List ℕ))
    → IfSome (optional word more) (λ b. Words more (flag_words b word))
unfolding optional
optional_spelt word h [] = tt
optional_spelt word h (w ∷ []) =
    if_cond (bytes_eq w word) (Some true) None (λ b. Words (w ∷ []) (flag_words b word))
    (λ t. (literal w word t h, tt)) (λ _. tt)
optional_spelt word h (v ∷ w ∷ more) = tt

abbrev both_flags : List ℕ → List ℕ → Bool × Bool → List (List ℕ)
both_flags first second b = flag_words b.0 first ++ flag_words b.1 second

two_optional_spelt : (first second : List ℕ) → is_argument first ≡ true → is_argument second ≡ true
    → (more : List (List ℕ))
    → IfSome (two_optional first second more) (λ b. Words more (both_flags first second b))
unfolding two_optional
two_optional_spelt first second h k [] = tt
two_optional_spelt first second h k (w ∷ []) =
    let P : Bool × Bool → Type 0 = λ b. Words (w ∷ []) (both_flags first second b) in
    if_cond (bytes_eq w first) (Some (true, false)) (cond (bytes_eq w second) (Some (false, true)) None) P
    (λ t. (literal w first t h, tt))
    (λ _. if_cond (bytes_eq w second) (Some (false, true)) None P (λ t. (literal w second t k, tt)) (λ _. tt))
two_optional_spelt first second h k (v ∷ w ∷ []) =
    if_cond (bytes_eq v first && bytes_eq w second) (Some (true, true)) None
    (λ b. Words (v ∷ w ∷ []) (both_flags first second b))
    (λ t. let p = and_parts (bytes_eq v first) (bytes_eq w second) t in
    (literal v first p.0 h, (literal w second p.1 k, tt)))
    (λ _. tt)
two_optional_spelt first second h k (v ∷ w ∷ x ∷ more) = tt

-- ---- options with their equations

-- a value that an option has, with the equation that it has it
bind_with : {A B : Type 0} (o : Option A) (f : A → Option B) (Q : B → Type 0)
    → ((x : A) → o ≡ Some x → IfSome (f x) Q) → IfSome (o >>= f) Q
bind_with None f Q g = tt
bind_with (Some x) f Q g = g x refl

-- what is known of an option is known of its value
pub of_some : {A : Type 0} (o : Option A) (P : A → Type 0) → IfSome o P → (x : A) → o ≡ Some x → P x
of_some o P h x e = subst (λ p. IfSome p P) e h

module _ (script : Script) where
  -- the call's name is this one, and these are the words behind it
  abbrev IsCallOf : List ℕ → List (List ℕ) → FromCall → Type 0
  IsCallOf name ws c = (call_name c.1 ≡ name) × Words ws (arguments script c.0 c.1)

  -- ---- processes and signals

  exit_words : (ws : List (List ℕ)) → IfSome (forms.exit_of ws) (IsCallOf (codes "exit") ws)
  unfolding forms.exit_of
  exit_words [] = tt
  exit_words (n ∷ []) =
      if_map (number 65535 n) (λ status. forms.plainly (calls.Exit status)) (λ k. Spelt n (decimal k))
      (IsCallOf (codes "exit") (n ∷ [])) (number_spelt 65535 n (omega arith)) (λ k h. (refl, (h, tt)))
  exit_words (n ∷ m ∷ ws) = tt

  getpid_words : (ws : List (List ℕ)) → IfSome (forms.getpid_of ws) (IsCallOf (codes "getpid") ws)
  unfolding forms.getpid_of
  getpid_words [] = (refl, tt)
  getpid_words (w ∷ ws) = tt

  sigpending_words : (ws : List (List ℕ)) → IfSome (forms.sigpending_of ws) (IsCallOf (codes "sigpending") ws)
  unfolding forms.sigpending_of
  sigpending_words [] = (refl, tt)
  sigpending_words (w ∷ ws) = tt

  kill_words : (ws : List (List ℕ)) → IfSome (forms.kill_of ws) (IsCallOf (codes "kill") ws)
  unfolding forms.kill_of
  kill_words [] = tt
  kill_words (p ∷ []) = tt
  kill_words (p ∷ g ∷ []) =
      let P : FromCall → Type 0 = IsCallOf (codes "kill") (p ∷ g ∷ []) in
      if_bind (process p) (λ o. parts.signal_argument g >>= λ sig. Some (o.0, calls.Kill o.1 sig)) (IsObjectOf p) P
      (process_spelt p)
      (λ o h. if_bind (parts.signal_argument g) (λ sig. Some (o.0, calls.Kill o.1 sig))
      (λ s. Spelt g (trace.signal_argument s)) P (signal_argument_spelt g) (λ sig k. (refl, (h, (k, tt)))))
  kill_words (p ∷ g ∷ x ∷ ws) = tt

  sigaction_words : (ws : List (List ℕ)) → IfSome (forms.sigaction_of ws) (IsCallOf (codes "sigaction") ws)
  unfolding forms.sigaction_of
  sigaction_words [] = tt
  sigaction_words (g ∷ []) = tt
  sigaction_words (g ∷ a ∷ []) =
      let P : FromCall → Type 0 = IsCallOf (codes "sigaction") (g ∷ a ∷ []) in
      if_bind (parts.signal_argument g)
      (λ sig. parts.action a >>= λ act. Some (forms.plainly (calls.SigAction sig act)))
      (λ s. Spelt g (trace.signal_argument s)) P (signal_argument_spelt g)
      (λ sig h. if_bind (parts.action a) (λ act. Some (forms.plainly (calls.SigAction sig act)))
      (λ x. Spelt a (action_name x)) P (action_spelt a) (λ act k. (refl, (h, (k, tt)))))
  sigaction_words (g ∷ a ∷ x ∷ ws) = tt

  handled_words : (ws : List (List ℕ)) → IfSome (forms.handled_of ws) (IsCallOf (codes "handled") ws)
  unfolding forms.handled_of
  handled_words [] = tt
  handled_words (g ∷ []) =
      if_map (signal g) (λ sig. forms.plainly (calls.Handled sig)) (λ s. Spelt g (signal_name s))
      (IsCallOf (codes "handled") (g ∷ [])) (signal_spelt g) (λ sig h. (refl, (h, tt)))
  handled_words (g ∷ x ∷ ws) = tt

  child_spelt : (w : List ℕ) → IfSome (forms.child w) (λ c. Spelt w (child_word c.0 c.1))
  unfolding forms.child
  child_spelt w =
      let P : Child → Type 0 = λ c. Spelt w (child_word c.0 c.1) in
      if_cond (bytes_eq w (codes "any")) (Some (None, None)) (option_map forms.one_child (process w)) P
      (λ t. literal w (codes "any") t refl)
      (λ _. if_map (process w) forms.one_child (IsObjectOf w) P (process_spelt w) (λ o h. h))

  waitpid_words : (ws : List (List ℕ)) → IfSome (forms.waitpid_of ws) (IsCallOf (codes "waitpid") ws)
  unfolding forms.waitpid_of
  waitpid_words [] = tt
  waitpid_words (w ∷ more) =
      let P : FromCall → Type 0 = IsCallOf (codes "waitpid") (w ∷ more) in
      if_bind (forms.child w)
      (λ whom. optional (codes "nohang") more >>= λ nohang. Some (whom.0, calls.WaitPid whom.1 nohang))
      (λ c. Spelt w (child_word c.0 c.1)) P (child_spelt w)
      (λ whom h. if_bind (optional (codes "nohang") more) (λ nohang. Some (whom.0, calls.WaitPid whom.1 nohang))
      (λ b. Words more (flag_words b (codes "nohang"))) P (optional_spelt (codes "nohang") refl more)
      (λ nohang k. (refl, (h, k))))

  -- ---- message queues

  private_queue_words : (k : List ℕ) (more : List (List ℕ)) → bytes_eq k (codes "private") ≡ true
      → IfSome (forms.private_queue more) (IsCallOf (codes "msgget") (k ∷ more))
  unfolding forms.private_queue
  private_queue_words k [] t = (refl, (literal k (codes "private") t refl, tt))
  private_queue_words k (w ∷ ws) t = tt

  keyed_queue_words : (k : List ℕ) (more : List (List ℕ))
      → IfSome (forms.keyed_queue k more) (IsCallOf (codes "msgget") (k ∷ more))
  unfolding forms.keyed_queue
  keyed_queue_words k more =
      let P : FromCall → Type 0 = IsCallOf (codes "msgget") (k ∷ more) in
      if_bind (positive 4294967295 k)
      (λ key. two_optional (codes "create") (codes "excl") more >>= λ flags.
      Some (forms.plainly (calls.MsgGet (Some key) flags.0 flags.1))) (λ n. Spelt k (decimal n) × (1 ≤ n)) P
      (positive_spelt 4294967295 k (omega arith))
      (λ key h. if_bind (two_optional (codes "create") (codes "excl") more)
      (λ flags. Some (forms.plainly (calls.MsgGet (Some key) flags.0 flags.1)))
      (λ b. Words more (both_flags (codes "create") (codes "excl") b)) P
      (two_optional_spelt (codes "create") (codes "excl") refl refl more) (λ flags j. (refl, (h.0, j))))

  msgget_words : (ws : List (List ℕ)) → IfSome (forms.msgget_of ws) (IsCallOf (codes "msgget") ws)
  unfolding forms.msgget_of
  msgget_words [] = tt
  msgget_words (k ∷ more) =
      if_cond (bytes_eq k (codes "private")) (forms.private_queue more) (forms.keyed_queue k more)
      (IsCallOf (codes "msgget") (k ∷ more)) (λ t. private_queue_words k more t) (λ _. keyed_queue_words k more)

  msgrcv_words : (ws : List (List ℕ)) → IfSome (forms.msgrcv_of ws) (IsCallOf (codes "msgrcv") ws)
  unfolding forms.msgrcv_of
  msgrcv_words [] = tt
  msgrcv_words (q ∷ []) = tt
  msgrcv_words (q ∷ t ∷ []) = tt
  msgrcv_words (q ∷ t ∷ z ∷ more) =
      let P : FromCall → Type 0 = IsCallOf (codes "msgrcv") (q ∷ t ∷ z ∷ more) in
      if_bind (identifier q)
      (λ o. signed 2147483647 t >>= λ class. number 65535 z >>= λ size.
      two_optional (codes "noerror") (codes "nowait") more >>= λ flags.
      Some (o.0, calls.MsgRcv o.1 class size flags.0 flags.1)) (IsObjectOf q) P (identifier_spelt q)
      (λ o h. if_bind (signed 2147483647 t)
      (λ class. number 65535 z >>= λ size. two_optional (codes "noerror") (codes "nowait") more >>= λ flags.
      Some (o.0, calls.MsgRcv o.1 class size flags.0 flags.1)) (λ n. Spelt t (signed_decimal n)) P
      (signed_spelt 2147483647 t (omega arith))
      (λ class k. if_bind (number 65535 z)
      (λ size. two_optional (codes "noerror") (codes "nowait") more >>= λ flags.
      Some (o.0, calls.MsgRcv o.1 class size flags.0 flags.1)) (λ n. Spelt z (decimal n)) P
      (number_spelt 65535 z (omega arith))
      (λ size s. if_bind (two_optional (codes "noerror") (codes "nowait") more)
      (λ flags. Some (o.0, calls.MsgRcv o.1 class size flags.0 flags.1))
      (λ b. Words more (both_flags (codes "noerror") (codes "nowait") b)) P
      (two_optional_spelt (codes "noerror") (codes "nowait") refl refl more)
      (λ flags j. (refl, (h, (k, (s, j))))))))

  -- a call on the object of this word
  abbrev IsOn : List ℕ → List (List ℕ) → List ℕ → Object → Call → Type 0
  IsOn name more q o call = (call_name call ≡ name) × (IsObjectOf q o → Words (q ∷ more) (arguments script o.0 call))

  on_object : (name : List ℕ) (more : List (List ℕ)) (q : List ℕ) (f : ℕ → Option Call)
      → ((o : Object) → IfSome (f o.1) (IsOn name more q o))
      → IfSome (identifier q >>= λ o. f o.1 >>= λ call. Some (o.0, call)) (IsCallOf name (q ∷ more))
  on_object name more q f fits =
      if_bind (identifier q) (λ o. f o.1 >>= λ call. Some (o.0, call)) (IsObjectOf q) (IsCallOf name (q ∷ more))
      (identifier_spelt q)
      (λ o h. if_bind (f o.1) (λ call. Some (o.0, call)) (IsOn name more q o) (IsCallOf name (q ∷ more)) (fits o)
      (λ call k. (k.0, k.1 h)))

  queue_command_words : (q : List ℕ) (o : Object) (ws : List (List ℕ))
      → IfSome (forms.queue_command o.1 ws) (IsOn (codes "msgctl") ws q o)
  unfolding forms.queue_command
  queue_command_words q o [] = tt
  queue_command_words q o (c ∷ []) =
      let P : Call → Type 0 = IsOn (codes "msgctl") (c ∷ []) q o in
      if_cond (bytes_eq c (codes "stat")) (Some (calls.MsgStat o.1))
      (cond (bytes_eq c (codes "rmid")) (Some (calls.MsgRmid o.1)) None) P
      (λ t. (refl, λ h. (h, (literal c (codes "stat") t refl, tt))))
      (λ _. if_cond (bytes_eq c (codes "rmid")) (Some (calls.MsgRmid o.1)) None P
      (λ t. (refl, λ h. (h, (literal c (codes "rmid") t refl, tt)))) (λ _. tt))
  queue_command_words q o (c ∷ b ∷ []) =
      let P : Call → Type 0 = IsOn (codes "msgctl") (c ∷ b ∷ []) q o in
      if_cond (bytes_eq c (codes "set")) (option_map (λ qbytes. calls.MsgSet o.1 qbytes) (number 65535 b)) None P
      (λ t. if_map (number 65535 b) (λ qbytes. calls.MsgSet o.1 qbytes) (λ n. Spelt b (decimal n)) P
      (number_spelt 65535 b (omega arith)) (λ n k. (refl, λ h. (h, (literal c (codes "set") t refl, (k, tt))))))
      (λ _. tt)
  queue_command_words q o (c ∷ b ∷ x ∷ ws) = tt

  msgctl_words : (ws : List (List ℕ)) → IfSome (forms.msgctl_of ws) (IsCallOf (codes "msgctl") ws)
  unfolding forms.msgctl_of
  msgctl_words [] = tt
  msgctl_words (q ∷ more) =
      on_object (codes "msgctl") more q (λ id. forms.queue_command id more) (λ o. queue_command_words q o more)

  -- ---- semaphore sets

  private_set_words : (k n : List ℕ) (more : List (List ℕ)) → bytes_eq k (codes "private") ≡ true
      → IfSome (forms.private_set n more) (IsCallOf (codes "semget") (k ∷ n ∷ more))
  unfolding forms.private_set
  private_set_words k n [] t =
      if_map (number 65535 n) (λ count. forms.plainly (calls.SemGet None count false false)) (λ c. Spelt n (decimal c))
      (IsCallOf (codes "semget") (k ∷ n ∷ [])) (number_spelt 65535 n (omega arith))
      (λ c h. (refl, (literal k (codes "private") t refl, (h, tt))))
  private_set_words k n (w ∷ ws) t = tt

  keyed_set_words : (k n : List ℕ) (more : List (List ℕ))
      → IfSome (forms.keyed_set k n more) (IsCallOf (codes "semget") (k ∷ n ∷ more))
  unfolding forms.keyed_set
  keyed_set_words k n more =
      let P : FromCall → Type 0 = IsCallOf (codes "semget") (k ∷ n ∷ more) in
      if_bind (positive 4294967295 k)
      (λ key. number 65535 n >>= λ count. two_optional (codes "create") (codes "excl") more >>= λ flags.
      Some (forms.plainly (calls.SemGet (Some key) count flags.0 flags.1))) (λ x. Spelt k (decimal x) × (1 ≤ x)) P
      (positive_spelt 4294967295 k (omega arith))
      (λ key h. if_bind (number 65535 n)
      (λ count. two_optional (codes "create") (codes "excl") more >>= λ flags.
      Some (forms.plainly (calls.SemGet (Some key) count flags.0 flags.1))) (λ x. Spelt n (decimal x)) P
      (number_spelt 65535 n (omega arith))
      (λ count c. if_bind (two_optional (codes "create") (codes "excl") more)
      (λ flags. Some (forms.plainly (calls.SemGet (Some key) count flags.0 flags.1)))
      (λ b. Words more (both_flags (codes "create") (codes "excl") b)) P
      (two_optional_spelt (codes "create") (codes "excl") refl refl more) (λ flags j. (refl, (h.0, (c, j))))))

  semget_words : (ws : List (List ℕ)) → IfSome (forms.semget_of ws) (IsCallOf (codes "semget") ws)
  unfolding forms.semget_of
  semget_words [] = tt
  semget_words (k ∷ []) = tt
  semget_words (k ∷ n ∷ more) =
      if_cond (bytes_eq k (codes "private")) (forms.private_set n more) (forms.keyed_set k n more)
      (IsCallOf (codes "semget") (k ∷ n ∷ more)) (λ t. private_set_words k n more t) (λ _. keyed_set_words k n more)

  semop_words : (ws : List (List ℕ)) → IfSome (forms.semop_of ws) (IsCallOf (codes "semop") ws)
  unfolding forms.semop_of
  semop_words [] = tt
  semop_words (s ∷ []) = tt
  semop_words (s ∷ o ∷ more) =
      let P : FromCall → Type 0 = IsCallOf (codes "semop") (s ∷ o ∷ more) in
      if_bind (identifier s)
      (λ object. each step (o ∷ more) >>= λ steps. Some (object.0, calls.SemOp object.1 steps)) (IsObjectOf s) P
      (identifier_spelt s)
      (λ object h. if_bind (each step (o ∷ more)) (λ steps. Some (object.0, calls.SemOp object.1 steps))
      (AreSpelt step step_word IsArgument (o ∷ more)) P (steps_spelt (o ∷ more))
      (λ steps k. (refl, (h, words_from (o ∷ more) (map step_word steps) k.0 k.1))))

  whole_set_words : (q c : List ℕ) (o : Object) → IfSome (forms.whole_set o.1 c) (IsOn (codes "semctl") (c ∷ []) q o)
  unfolding forms.whole_set
  whole_set_words q c o =
      let P : Call → Type 0 = IsOn (codes "semctl") (c ∷ []) q o in
      if_cond (bytes_eq c (codes "getall")) (Some (calls.SemGetAll o.1))
      (cond (bytes_eq c (codes "rmid")) (Some (calls.SemRmid o.1)) None) P
      (λ t. (refl, λ h. (h, (literal c (codes "getall") t refl, tt))))
      (λ _. if_cond (bytes_eq c (codes "rmid")) (Some (calls.SemRmid o.1)) None P
      (λ t. (refl, λ h. (h, (literal c (codes "rmid") t refl, tt)))) (λ _. tt))

  semaphore_of_words : (q c i : List ℕ) (o : Object) (num : ℕ) → Spelt i (decimal num)
      → IfSome (forms.semaphore_of o.1 c num) (IsOn (codes "semctl") (c ∷ i ∷ []) q o)
  unfolding forms.semaphore_of
  semaphore_of_words q c i o num k =
      let P : Call → Type 0 = IsOn (codes "semctl") (c ∷ i ∷ []) q o in
      if_cond (bytes_eq c (codes "getval")) (Some (calls.SemGetVal o.1 num))
      (cond (bytes_eq c (codes "getpid")) (Some (calls.SemGetPid o.1 num))
      (cond (bytes_eq c (codes "getncnt")) (Some (calls.SemGetNcnt o.1 num))
      (cond (bytes_eq c (codes "getzcnt")) (Some (calls.SemGetZcnt o.1 num)) None))) P
      (λ t. (refl, λ h. (h, (literal c (codes "getval") t refl, (k, tt)))))
      (λ _. if_cond (bytes_eq c (codes "getpid")) (Some (calls.SemGetPid o.1 num))
      (cond (bytes_eq c (codes "getncnt")) (Some (calls.SemGetNcnt o.1 num))
      (cond (bytes_eq c (codes "getzcnt")) (Some (calls.SemGetZcnt o.1 num)) None)) P
      (λ t. (refl, λ h. (h, (literal c (codes "getpid") t refl, (k, tt)))))
      (λ _. if_cond (bytes_eq c (codes "getncnt")) (Some (calls.SemGetNcnt o.1 num))
      (cond (bytes_eq c (codes "getzcnt")) (Some (calls.SemGetZcnt o.1 num)) None) P
      (λ t. (refl, λ h. (h, (literal c (codes "getncnt") t refl, (k, tt)))))
      (λ _. if_cond (bytes_eq c (codes "getzcnt")) (Some (calls.SemGetZcnt o.1 num)) None P
      (λ t. (refl, λ h. (h, (literal c (codes "getzcnt") t refl, (k, tt))))) (λ _. tt))))

  one_argument_words : (q c i : List ℕ) (o : Object)
      → IfSome (forms.one_argument o.1 c i) (IsOn (codes "semctl") (c ∷ i ∷ []) q o)
  unfolding forms.one_argument
  one_argument_words q c i o =
      let P : Call → Type 0 = IsOn (codes "semctl") (c ∷ i ∷ []) q o in
      if_cond (bytes_eq c (codes "setall")) (option_map (λ all. calls.SemSetAll o.1 all) (values i))
      (number 65535 i >>= forms.semaphore_of o.1 c) P
      (λ t. if_map (values i) (λ all. calls.SemSetAll o.1 all) (λ vs. Spelt i (values_text vs)) P (values_spelt i)
      (λ vs k. (refl, λ h. (h, (literal c (codes "setall") t refl, (k, tt))))))
      (λ _. if_bind (number 65535 i) (forms.semaphore_of o.1 c) (λ n. Spelt i (decimal n)) P
      (number_spelt 65535 i (omega arith)) (λ num k. semaphore_of_words q c i o num k))

  set_value_words : (q c i v : List ℕ) (o : Object)
      → IfSome (forms.set_value o.1 c i v) (IsOn (codes "semctl") (c ∷ i ∷ v ∷ []) q o)
  unfolding forms.set_value
  set_value_words q c i v o =
      let P : Call → Type 0 = IsOn (codes "semctl") (c ∷ i ∷ v ∷ []) q o in
      if_bind (number 65535 i)
      (λ num. number 65535 v >>= λ value.
      cond (bytes_eq c (codes "setval")) (Some (calls.SemSetVal o.1 num value)) None) (λ n. Spelt i (decimal n)) P
      (number_spelt 65535 i (omega arith))
      (λ num k. if_bind (number 65535 v)
      (λ value. cond (bytes_eq c (codes "setval")) (Some (calls.SemSetVal o.1 num value)) None)
      (λ n. Spelt v (decimal n)) P (number_spelt 65535 v (omega arith))
      (λ value j. if_cond (bytes_eq c (codes "setval")) (Some (calls.SemSetVal o.1 num value)) None P
      (λ t. (refl, λ h. (h, (literal c (codes "setval") t refl, (k, (j, tt)))))) (λ _. tt)))

  set_command_words : (q : List ℕ) (o : Object) (ws : List (List ℕ))
      → IfSome (forms.set_command o.1 ws) (IsOn (codes "semctl") ws q o)
  unfolding forms.set_command
  set_command_words q o [] = tt
  set_command_words q o (c ∷ []) = whole_set_words q c o
  set_command_words q o (c ∷ i ∷ []) = one_argument_words q c i o
  set_command_words q o (c ∷ i ∷ v ∷ []) = set_value_words q c i v o
  set_command_words q o (c ∷ i ∷ v ∷ x ∷ ws) = tt

  semctl_words : (ws : List (List ℕ)) → IfSome (forms.semctl_of ws) (IsCallOf (codes "semctl") ws)
  unfolding forms.semctl_of
  semctl_words [] = tt
  semctl_words (s ∷ more) =
      on_object (codes "semctl") more s (λ id. forms.set_command id more) (λ o. set_command_words s o more)

  -- ---- a call read again

  pub record Again (verb : Verb) (ws : List (List ℕ)) (c : FromCall) : Type 0 where
    pub named : call_name c.1 ≡ verb_name verb
    pub again : call_of verb (arguments script c.0 c.1) ≡ Some c
    pub short : width (arguments script c.0 c.1) ≤ width ws
    pub words : AreArguments (arguments script c.0 c.1)

  -- words that are spelled in one way alone
  exactly : (verb : Verb) (ws : List (List ℕ)) → IfSome (call_of verb ws) (IsCallOf (verb_name verb) ws)
      → IfSome (call_of verb ws) (Again verb ws)
  exactly verb ws h = of (call_of verb ws) refl h
    where
      of : (o : Option FromCall) → call_of verb ws ≡ o → IfSome o (IsCallOf (verb_name verb) ws)
          → IfSome o (Again verb ws)
      of None e k = tt
      of (Some c) e k =
          let same = same_words ws (arguments script c.0 c.1) k.1 in
          let size : width ws ≡ width (arguments script c.0 c.1) = ap width same.0 in
          record {
            named = k.0;
            again = ap (call_of verb) (sym same.0) ∙ e;
            short = omega (arith, size);
            words = same.1;
          }

  how_again : (h : How) → how (how_name h) ≡ Some h
  unfolding how
  how_again Block = refl
  how_again Unblock = refl
  how_again SetMask = refl

  mask_again : (way : How) (set : PerSignal Bool)
      → forms.sigprocmask_of (how_name way ∷ set_text set ∷ []) ≡ Some (forms.plainly (calls.SigProcMask way set))
  unfolding forms.sigprocmask_of
  mask_again way set = rw (how_again way, set_again set) refl

  sigprocmask_again : (ws : List (List ℕ)) → IfSome (forms.sigprocmask_of ws) (Again verbs.SigProcMask ws)
  unfolding forms.sigprocmask_of
  sigprocmask_again [] = tt
  sigprocmask_again (h ∷ []) = tt
  sigprocmask_again (h ∷ m ∷ []) =
      let P : FromCall → Type 0 = Again verbs.SigProcMask (h ∷ m ∷ []) in
      if_bind (how h) (λ way. signal_set m >>= λ set. Some (forms.plainly (calls.SigProcMask way set)))
      (λ x. Spelt h (how_name x)) P (how_spelt h)
      (λ way k. if_bind (signal_set m) (λ set. Some (forms.plainly (calls.SigProcMask way set)))
      (λ s. length (set_text s) ≤ length m) P (set_short m)
      (λ set j. record {
        named = refl;
        again = mask_again way set;
        short = omega (arith, ap length k.same, j);
        words = (k.argument, (set_word set, tt));
      }))
  sigprocmask_again (h ∷ m ∷ x ∷ ws) = tt

  -- the words of a send, where each is read
  send_again : (o : Object) (class : ℤ) (t : List ℕ) (nowait : Bool) → identifier (object_text o.0 o.1) ≡ Some o
      → signed 2147483647 (signed_decimal class) ≡ Some class → text (message_word t) ≡ Some t
      → optional (codes "nowait") (flag_words nowait (codes "nowait")) ≡ Some nowait
      → forms.msgsnd_of (arguments script o.0 (calls.MsgSnd o.1 class t nowait))
      ≡ Some (o.0, calls.MsgSnd o.1 class t nowait)
  unfolding forms.msgsnd_of
  send_again o class t nowait a b c d = rw (a, b, c, d) refl

  msgsnd_again : (ws : List (List ℕ)) → width ws ≤ 4097 → IfSome (forms.msgsnd_of ws) (Again verbs.MsgSnd ws)
  unfolding forms.msgsnd_of
  msgsnd_again [] room = tt
  msgsnd_again (q ∷ []) room = tt
  msgsnd_again (q ∷ t ∷ []) room = tt
  msgsnd_again (q ∷ t ∷ x ∷ more) room =
      let P : FromCall → Type 0 = Again verbs.MsgSnd (q ∷ t ∷ x ∷ more) in
      bind_with (identifier q)
      (λ o. signed 2147483647 t >>= λ class. optional (codes "nowait") more >>= λ nowait. text x >>= λ bytes.
      Some (o.0, calls.MsgSnd o.1 class bytes nowait)) P
      (λ o oe. bind_with (signed 2147483647 t)
      (λ class. optional (codes "nowait") more >>= λ nowait. text x >>= λ bytes.
      Some (o.0, calls.MsgSnd o.1 class bytes nowait)) P
      (λ class ce. bind_with (optional (codes "nowait") more)
      (λ nowait. text x >>= λ bytes. Some (o.0, calls.MsgSnd o.1 class bytes nowait)) P
      (λ nowait ne. bind_with (text x) (λ bytes. Some (o.0, calls.MsgSnd o.1 class bytes nowait)) P
      (λ bytes be.
      let h : IsObjectOf q o = of_some (identifier q) (IsObjectOf q) (identifier_spelt q) o oe in
      let k : Spelt t (signed_decimal class) =
      of_some (signed 2147483647 t) (λ z. Spelt t (signed_decimal z)) (signed_spelt 2147483647 t (omega arith)) class
      ce in
      let flags = same_words more (flag_words nowait (codes "nowait"))
      (of_some (optional (codes "nowait") more) (λ b. Words more (flag_words b (codes "nowait")))
      (optional_spelt (codes "nowait") refl more) nowait ne) in
      let m : MessageOf x bytes =
      of_some (text x) (MessageOf x) (message_spelt x (omega (arith, room))) bytes be in
      let flags_width : width more ≡ width (flag_words nowait (codes "nowait")) = ap width flags.0 in
      record {
        named = refl;
        again = send_again o class bytes nowait (ap identifier (sym h.same) ∙ oe)
            (ap (signed 2147483647) (sym k.same) ∙ ce) m.again
            (ap (optional (codes "nowait")) (sym flags.0) ∙ ne);
        short = omega (arith, ap length h.same, ap length k.same, m.short, flags_width);
        words = (h.argument, (k.argument, (m.argument, flags.1)));
      }))))

  -- each call but a fork
  pub call_again : (verb : Verb) (ws : List (List ℕ)) → width ws ≤ 4097 → IfSome (call_of verb ws) (Again verb ws)
  call_again verbs.Fork ws room = tt
  call_again verbs.Exit ws room = exactly verbs.Exit ws (exit_words ws)
  call_again verbs.GetPid ws room = exactly verbs.GetPid ws (getpid_words ws)
  call_again verbs.Kill ws room = exactly verbs.Kill ws (kill_words ws)
  call_again verbs.SigAction ws room = exactly verbs.SigAction ws (sigaction_words ws)
  call_again verbs.SigProcMask ws room = sigprocmask_again ws
  call_again verbs.SigPending ws room = exactly verbs.SigPending ws (sigpending_words ws)
  call_again verbs.Handled ws room = exactly verbs.Handled ws (handled_words ws)
  call_again verbs.WaitPid ws room = exactly verbs.WaitPid ws (waitpid_words ws)
  call_again verbs.MsgGet ws room = exactly verbs.MsgGet ws (msgget_words ws)
  call_again verbs.MsgSnd ws room = msgsnd_again ws room
  call_again verbs.MsgRcv ws room = exactly verbs.MsgRcv ws (msgrcv_words ws)
  call_again verbs.MsgCtl ws room = exactly verbs.MsgCtl ws (msgctl_words ws)
  call_again verbs.SemGet ws room = exactly verbs.SemGet ws (semget_words ws)
  call_again verbs.SemOp ws room = exactly verbs.SemOp ws (semop_words ws)
  call_again verbs.SemCtl ws room = exactly verbs.SemCtl ws (semctl_words ws)
