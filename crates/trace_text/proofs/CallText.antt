-- A call in the grammar is read from its text.
use Rattle.std.proofs.Common.{◌≡◌, ℕ, zero, suc, ◌+◌, ◌-◌, ◌≤◌, ◌<◌, Bool, true, false, ◌&&◌, not, ◌||◌, leb, ltb, eqb, List, [], ◌∷◌, ◌++◌, length, Option, Some, None, is_some, refl, sym, ap, ◌∙◌, append_assoc, arith}
use Rattle.std.specs.Prelude.{codes, decimal, position, bytes_eq, slice_get, option_map}
use Rattle.std.specs.Fmt.{signed_decimal}
use Rattle.std.specs.List.{flat_map, list_all, list_any, position_or_len}
use Rattle.std.proofs.lemmas.Bool.{and_parts, and_from, leb-true, lt-ltb}
use Rattle.std.proofs.lemmas.List.{take_at, drop_at, length-append}
use Rattle.std.proofs.lemmas.Slice.Eq.{bytes_eq-Decides}
use Rattle.pico_base.specs.declared.call.Call.{Call}
use Rattle.pico_base.specs.declared.call.Call.TheVariants as calls
use Rattle.pico_base.specs.declared.numbers.Name.TheVariants.{Proc, Msg, Sem}
use Rattle.pico_base.specs.declared.script.Block.{Block}
use Rattle.pico_base.specs.declared.script.Script.{Script}
use Rattle.kernel_model.specs.Fitting.{block_at}
use Rattle.kernel_model.specs.Numbers.{is_u16, is_u32}
use Rattle.kernel_model.specs.Script.{IsSoundScript, is_name, is_name_byte, is_lower, is_same, names_differ, is_type, is_step_in_range, is_place}
use Rattle.kernel_model.specs.Texts.{message_text}
use Rattle.kernel_model.specs.Trace.{call_text, name_of_block, signal_argument, action_name, how_name, set_text, word, create_words, step_text, values_text}
use Rattle.quoted_bytes.specs.Front.{strip}
use Rattle.text_fields.specs.Fields.{word_length, word_at}
use Rattle.text_fields.proofs.Spelled.{IsStep}
use Rattle.trace_text.specs.Grammar.{is_call, is_text, is_block}
use Rattle.call_words.specs.Verbs.{verb_of}
use Rattle.trace_text.specs.Reading.{block_named, fork_at, exit_at, killed_at, handled_at, kill_at, sigaction_at, sigprocmask_at, waitpid_at, msgget_at, msgsnd_at, msgrcv_at, msgctl_at, semget_at, semop_at, semctl_at, withdrawal_at, no_call_at, call_at}
use Rattle.trace_text.proofs.Ranges.{u32-bound, u16-bound, type-within, step-within, all-from, text-in-range}
use Rattle.trace_text.proofs.CallLaws.{tail, exit-again, killed-again, handled-again, kill-again, sigaction-again, sigprocmask-again, wait-any-again, wait-again, msgget-private-again, msgget-again, msgsnd-again, msgrcv-again, msgstat-again, msgrmid-again, msgqbytes-again, semget-private-again, semget-again, semop-again, getall-again, removal-again, getval-again, getpid-again, getncnt-again, getzcnt-again, set-value-again, set-all-again, from-queue-again, from-set-again, from-process-again}

-- ---- words

abbrev is_blank : ℕ → Bool
is_blank b = eqb b 32

-- a byte of a name isn't a blank
name-byte : (b : ℕ) → is_name_byte b ≡ true → is_blank b ≡ false
name-byte b h = grind arith

blank-place : (name rest : List ℕ) → list_all is_name_byte name ≡ true
    → position_or_len is_blank (name ++ 32 ∷ rest) ≡ length name
blank-place [] rest h = refl
blank-place (b ∷ name) rest h =
    let p = and_parts (is_name_byte b) (list_all is_name_byte name) h in
    let later : position_or_len is_blank (name ++ 32 ∷ rest) ≡ length name = blank-place name rest p.1 in
    rw (name-byte b p.0) (omega (arith, later))

-- a search that stops before the end of the list finds the place where it stops
pub position-is : {A : Type 0} (test : A → Bool) (xs : List A) (i : ℕ) → position_or_len test xs ≡ i → i < length xs
    → position test xs ≡ Some i
position-is test xs i e low = rw (e, lt-ltb i (length xs) low) refl

blank-behind : (name rest : List ℕ) → list_all is_name_byte name ≡ true
    → position is_blank (name ++ 32 ∷ rest) ≡ Some (length name)
blank-behind name rest h =
    position-is is_blank (name ++ 32 ∷ rest) (length name) (blank-place name rest h)
    (omega (arith, length-append name (32 ∷ rest)))

-- a word ends at the first blank
word-ends : (name rest : List ℕ) → list_all is_name_byte name ≡ true → word_at (name ++ 32 ∷ rest) ≡ (name, 32 ∷ rest)
unfolding word_at
word-ends name rest h =
    let at : word_length (name ++ 32 ∷ rest) ≡ length name = rw (blank-behind name rest h) refl in
    rw (at, take_at name (32 ∷ rest) (length name) refl, drop_at name (32 ∷ rest) (length name) refl) refl

-- ---- the call's name

module _ (script : Script) (rest : List ℕ) where
  at-fork : call_at script (codes "fork " ++ rest) ≡ fork_at script rest
  unfolding call_at verb_of strip
  at-fork = rw (word-ends (codes "fork") rest refl) refl

  at-exit : call_at script (codes "exit " ++ rest) ≡ exit_at rest
  unfolding call_at verb_of strip
  at-exit = rw (word-ends (codes "exit") rest refl) refl

  at-killed : call_at script (codes "killed " ++ rest) ≡ killed_at rest
  unfolding call_at verb_of no_call_at strip
  at-killed = rw (word-ends (codes "killed") rest refl) refl

  at-withdraw : call_at script (codes "withdraw " ++ rest) ≡ withdrawal_at rest
  unfolding call_at verb_of no_call_at strip
  at-withdraw = rw (word-ends (codes "withdraw") rest refl) refl

  at-getpid : call_at script (codes "getpid" ++ 32 ∷ rest) ≡ Some (calls.GetPid, 32 ∷ rest)
  unfolding call_at verb_of strip
  at-getpid = rw (word-ends (codes "getpid") rest refl) refl

  at-kill : call_at script (codes "kill " ++ rest) ≡ kill_at rest
  unfolding call_at verb_of strip
  at-kill = rw (word-ends (codes "kill") rest refl) refl

  at-sigaction : call_at script (codes "sigaction " ++ rest) ≡ sigaction_at rest
  unfolding call_at verb_of strip
  at-sigaction = rw (word-ends (codes "sigaction") rest refl) refl

  at-sigprocmask : call_at script (codes "sigprocmask " ++ rest) ≡ sigprocmask_at rest
  unfolding call_at verb_of strip
  at-sigprocmask = rw (word-ends (codes "sigprocmask") rest refl) refl

  at-sigpending : call_at script (codes "sigpending" ++ 32 ∷ rest) ≡ Some (calls.SigPending, 32 ∷ rest)
  unfolding call_at verb_of strip
  at-sigpending = rw (word-ends (codes "sigpending") rest refl) refl

  at-handled : call_at script (codes "handled " ++ rest) ≡ handled_at rest
  unfolding call_at verb_of strip
  at-handled = rw (word-ends (codes "handled") rest refl) refl

  at-waitpid : call_at script (codes "waitpid " ++ rest) ≡ waitpid_at rest
  unfolding call_at verb_of strip
  at-waitpid = rw (word-ends (codes "waitpid") rest refl) refl

  at-msgget : call_at script (codes "msgget " ++ rest) ≡ msgget_at rest
  unfolding call_at verb_of strip
  at-msgget = rw (word-ends (codes "msgget") rest refl) refl

  at-msgsnd : call_at script (codes "msgsnd " ++ rest) ≡ msgsnd_at rest
  unfolding call_at verb_of strip
  at-msgsnd = rw (word-ends (codes "msgsnd") rest refl) refl

  at-msgrcv : call_at script (codes "msgrcv " ++ rest) ≡ msgrcv_at rest
  unfolding call_at verb_of strip
  at-msgrcv = rw (word-ends (codes "msgrcv") rest refl) refl

  at-msgctl : call_at script (codes "msgctl " ++ rest) ≡ msgctl_at rest
  unfolding call_at verb_of strip
  at-msgctl = rw (word-ends (codes "msgctl") rest refl) refl

  at-semget : call_at script (codes "semget " ++ rest) ≡ semget_at rest
  unfolding call_at verb_of strip
  at-semget = rw (word-ends (codes "semget") rest refl) refl

  at-semop : call_at script (codes "semop " ++ rest) ≡ semop_at rest
  unfolding call_at verb_of strip
  at-semop = rw (word-ends (codes "semop") rest refl) refl

  at-semctl : call_at script (codes "semctl " ++ rest) ≡ semctl_at rest
  unfolding call_at verb_of strip
  at-semctl = rw (word-ends (codes "semctl") rest refl) refl

-- ---- the block of a name

-- a name is of bytes of a name
pub name-bytes : (name : List ℕ) → is_name name ≡ true → list_all is_name_byte name ≡ true
name-bytes [] h = absurd (cc)
name-bytes (b ∷ name) h =
    let p = and_parts (is_lower b) (list_all is_name_byte name && leb (length name) 31) h in
    let q = and_parts (list_all is_name_byte name) (leb (length name) 31) p.1 in
    and_from (is_name_byte b) (list_all is_name_byte name) (rw p.0 refl) q.0

same-name : (xs ys : List ℕ) → is_same xs ys ≡ bytes_eq xs ys
same-name [] [] = refl
same-name [] (y ∷ ys) = refl
same-name (x ∷ xs) [] = refl
same-name (x ∷ xs) (y ∷ ys) = ap (λ (b : Bool). eqb x y && b) (same-name xs ys)

eq-self : (xs : List ℕ) → bytes_eq xs xs ≡ true
eq-self xs = (bytes_eq-Decides xs xs).1 refl

not-any : (b : Block) (bs : List Block) (i : ℕ) (block : Block)
    → not (list_any (λ other. is_same b.name other.name) bs) ≡ true → slice_get bs i ≡ Some block
    → bytes_eq b.name block.name ≡ false
not-any b [] i block apart there = absurd (cc)
not-any b (x ∷ bs) zero block apart there =
    let same : x ≡ block = cc in
    let other : is_same b.name x.name ≡ false = head (is_same b.name x.name) _ apart in
    ap (λ (y : Block). bytes_eq b.name y.name) (sym same) ∙ sym (same-name b.name x.name) ∙ other
  where
    head : (p q : Bool) → not (p || q) ≡ true → p ≡ false
    head true q h = absurd (cc)
    head false q h = refl
not-any b (x ∷ bs) (suc i) block apart there = not-any b bs i block (rest (is_same b.name x.name) _ apart) there
  where
    rest : (p q : Bool) → not (p || q) ≡ true → not q ≡ true
    rest true q h = absurd (cc)
    rest false q h = h

name-sym : (xs ys : List ℕ) → bytes_eq xs ys ≡ false → bytes_eq ys xs ≡ false
name-sym xs ys h = of (bytes_eq ys xs) refl
  where
    of : (c : Bool) → bytes_eq ys xs ≡ c → bytes_eq ys xs ≡ false
    of true e = let same : bytes_eq xs ys ≡ true =
        (bytes_eq-Decides xs ys).1 (sym ((bytes_eq-Decides ys xs).0 e)) in absurd (cc)
    of false e = e

-- the first block of a block's name is that block
first-place : (bs : List Block) (i : ℕ) (block : Block) → names_differ bs ≡ true → slice_get bs i ≡ Some block
    → position_or_len (λ b. bytes_eq b.name block.name) bs ≡ i
first-place [] i block apart there = absurd (cc)
first-place (b ∷ bs) zero block apart there =
    let same : b ≡ block = cc in
    let test : bytes_eq b.name block.name ≡ true =
    ap (λ (y : Block). bytes_eq b.name y.name) (sym same) ∙ eq-self b.name in
    rw test refl
first-place (b ∷ bs) (suc i) block apart there =
    let p = and_parts (not (list_any (λ other. is_same b.name other.name) bs)) (names_differ bs) apart in
    let later : position_or_len (λ x. bytes_eq x.name block.name) bs ≡ i = first-place bs i block p.1 there in
    rw (not-any b bs i block p.0 there) (omega (arith, later))

within : (bs : List Block) (i : ℕ) (block : Block) → slice_get bs i ≡ Some block → i < length bs
within [] i block there = absurd (cc)
within (b ∷ bs) zero block there = omega arith
within (b ∷ bs) (suc i) block there = omega (arith, within bs i block there)

first-named : (bs : List Block) (i : ℕ) (block : Block) → names_differ bs ≡ true → slice_get bs i ≡ Some block
    → position (λ b. bytes_eq b.name block.name) bs ≡ Some i
first-named bs i block apart there =
    position-is (λ b. bytes_eq b.name block.name) bs i (first-place bs i block apart there) (within bs i block there)

-- where the names of all blocks are well formed, that of each block is
pub name-at : (bs : List Block) (i : ℕ) (block : Block) → list_all (λ b. is_name b.name) bs ≡ true
    → slice_get bs i ≡ Some block → is_name block.name ≡ true
name-at [] i block h there = absurd (cc)
name-at (b ∷ bs) zero block h there =
    let same : b ≡ block = cc in
    ap (λ (y : Block). is_name y.name) (sym same) ∙ (and_parts (is_name b.name) (list_all (λ x. is_name x.name) bs) h).0
name-at (b ∷ bs) (suc i) block h there =
    name-at bs i block (and_parts (is_name b.name) (list_all (λ x. is_name x.name) bs) h).1 there

fork-again : (script : Script) (k : ℕ) (rest : List ℕ) → IsSoundScript script → is_block script k ≡ true
    → fork_at script (name_of_block (block_at script k) ++ 32 ∷ rest) ≡ Some (calls.Fork k, 32 ∷ rest)
unfolding fork_at
fork-again script k rest sound h =
    let p = and_parts (leb 1 k) (leb k 32 && is_some (block_at script k)) h in
    let q = and_parts (leb k 32) (is_some (block_at script k)) p.1 in
    of (block_at script k) refl q.1 (leb-true 1 k p.0)
  where
    of : (o : Option Block) → block_at script k ≡ o → is_some o ≡ true → 1 ≤ k
        → option_map {U = Call × List ℕ}
        (λ block. (calls.Fork block, (word_at (name_of_block (block_at script k) ++ 32 ∷ rest)).1))
        (block_named script (word_at (name_of_block (block_at script k) ++ 32 ∷ rest)).0)
        ≡ Some (calls.Fork k, 32 ∷ rest)
    of None e some low = absurd (cc)
    of (Some block) e some low =
        let word = word-ends block.name rest
        (name-bytes block.name (name-at script.blocks (k - 1) block sound.names e)) in
        let first = first-named script.blocks (k - 1) block sound.names_apart e in
        let back : k - 1 + 1 ≡ k = omega arith in
        rw (e, word, first, back) refl

-- ---- each call

-- a call in the grammar is read from its text, where ` =` follows
pub call-again : (script : Script) (c : Call) (more : List ℕ) → IsSoundScript script → is_call script c ≡ true
    → call_at script (call_text script c ++ tail more) ≡ Some (c, tail more)
call-again script (calls.Fork k) more sound h = at-fork script _ ∙ fork-again script k (61 ∷ more) sound h
call-again script (calls.Exit n) more sound h = at-exit script _ ∙ exit-again more n (u16-bound n h)
call-again script (calls.Killed g) more sound h = at-killed script _ ∙ killed-again more g
call-again script calls.GetPid more sound h = at-getpid script (61 ∷ more)
call-again script (calls.Kill pid g) more sound h =
    rw (append_assoc (decimal pid) (32 ∷ signal_argument g) (tail more))
    (at-kill script _ ∙ kill-again more pid g (u32-bound pid h))
call-again script (calls.SigAction g a) more sound h =
    rw (append_assoc (signal_argument g) (32 ∷ action_name a) (tail more))
    (at-sigaction script _ ∙ sigaction-again more g a)
call-again script (calls.SigProcMask how s) more sound h =
    rw (
      append_assoc (how_name how ++ 32 ∷ []) (set_text s) (tail more),
      append_assoc (how_name how) (32 ∷ []) (set_text s ++ tail more),
    )
    (at-sigprocmask script _ ∙ sigprocmask-again more how s)
call-again script calls.SigPending more sound h = at-sigpending script (61 ∷ more)
call-again script (calls.Handled g) more sound h = at-handled script _ ∙ handled-again more g
call-again script (calls.WaitPid None b) more sound h = at-waitpid script _ ∙ wait-any-again more b
call-again script (calls.WaitPid (Some pid) b) more sound h =
    rw (append_assoc (decimal pid) (word b (codes "nohang")) (tail more))
    (at-waitpid script _ ∙ wait-again more pid b (u32-bound pid h))
call-again script (calls.MsgGet None false false) more sound h = at-msgget script _ ∙ msgget-private-again more
call-again script (calls.MsgGet None true e) more sound h = absurd (cc)
call-again script (calls.MsgGet None false true) more sound h = absurd (cc)
call-again script (calls.MsgGet (Some key) c e) more sound h =
    let front : call_text script (calls.MsgGet (Some key) c e) ++ tail more ≡ codes "msgget "
    ++ (decimal key ++ (create_words c e ++ tail more)) = simp append_assoc in
    let p = and_parts (ltb 0 key) (is_u32 key) h in
    ap (call_at script) front ∙ at-msgget script _ ∙ msgget-again more key c e (u32-bound key p.1)
call-again script (calls.MsgSnd id class text b) more sound h =
    let front : call_text script (calls.MsgSnd id class text b) ++ tail more ≡ codes "msgsnd "
    ++ (decimal id ++ 32 ∷
    (signed_decimal class ++ 32 ∷ (message_text text ++ (word b (codes "nowait") ++ tail more)))) =
    simp append_assoc in
    let p = and_parts (is_u32 id) (is_type class && is_text text) h in
    let q = and_parts (is_type class) (is_text text) p.1 in
    ap (call_at script) front ∙ at-msgsnd script _
    ∙ msgsnd-again more id class text b (u32-bound id p.0) (type-within class q.0) (text-in-range text q.1)
call-again script (calls.MsgRcv id class size a b) more sound h =
    let front : call_text script (calls.MsgRcv id class size a b) ++ tail more ≡ codes "msgrcv "
    ++ (decimal id ++ 32 ∷
    (signed_decimal class ++ 32
    ∷ (decimal size ++ (word a (codes "noerror") ++ (word b (codes "nowait") ++ tail more))))) =
    simp append_assoc in
    let p = and_parts (is_u32 id) (is_type class && is_u16 size) h in
    let q = and_parts (is_type class) (is_u16 size) p.1 in
    ap (call_at script) front ∙ at-msgrcv script _
    ∙ msgrcv-again more id class size a b (u32-bound id p.0) (type-within class q.0) (u16-bound size q.1)
call-again script (calls.MsgStat id) more sound h =
    let front : call_text script (calls.MsgStat id) ++ tail more ≡ codes "msgctl "
    ++ (decimal id ++ (codes " stat" ++ tail more)) = simp append_assoc in
    ap (call_at script) front ∙ at-msgctl script _ ∙ msgstat-again more id (u32-bound id h)
call-again script (calls.MsgSet id qbytes) more sound h =
    let front : call_text script (calls.MsgSet id qbytes) ++ tail more ≡ codes "msgctl "
    ++ (decimal id ++ (codes " set " ++ (decimal qbytes ++ tail more))) = simp append_assoc in
    let p = and_parts (is_u32 id) (is_u16 qbytes) h in
    ap (call_at script) front ∙ at-msgctl script _
    ∙ msgqbytes-again more id (u32-bound id p.0) qbytes (u16-bound qbytes p.1)
call-again script (calls.MsgRmid id) more sound h =
    let front : call_text script (calls.MsgRmid id) ++ tail more ≡ codes "msgctl "
    ++ (decimal id ++ (codes " rmid" ++ tail more)) = simp append_assoc in
    ap (call_at script) front ∙ at-msgctl script _ ∙ msgrmid-again more id (u32-bound id h)
call-again script (calls.SemGet None n false false) more sound h =
    at-semget script _ ∙ semget-private-again more n (u16-bound n h)
call-again script (calls.SemGet None n true e) more sound h = absurd (cc)
call-again script (calls.SemGet None n false true) more sound h = absurd (cc)
call-again script (calls.SemGet (Some key) n c e) more sound h =
    let front : call_text script (calls.SemGet (Some key) n c e) ++ tail more ≡ codes "semget "
    ++ (decimal key ++ 32 ∷ (decimal n ++ (create_words c e ++ tail more))) =
    ap (λ (w : List ℕ). codes "semget " ++ w)
    (append_assoc (decimal key ++ 32 ∷ decimal n) (create_words c e) (tail more)
    ∙ append_assoc (decimal key) (32 ∷ decimal n) (create_words c e ++ tail more)) in
    let p = and_parts (ltb 0 key && is_u32 key) (is_u16 n) h in
    let q = and_parts (ltb 0 key) (is_u32 key) p.0 in
    ap (call_at script) front ∙ at-semget script _ ∙ semget-again more key n c e (u32-bound key q.1) (u16-bound n p.1)
call-again script (calls.SemOp id steps) more sound h =
    let front : call_text script (calls.SemOp id steps) ++ tail more ≡ codes "semop "
    ++ (decimal id ++ (flat_map step_text steps ++ tail more)) = simp append_assoc in
    let p = and_parts (is_u32 id) (leb 1 (length steps) && list_all is_step_in_range steps) h in
    let q = and_parts (leb 1 (length steps)) (list_all is_step_in_range steps) p.1 in
    ap (call_at script) front ∙ at-semop script _
    ∙ semop-again more id steps (u32-bound id p.0) (all-from is_step_in_range IsStep step-within steps q.1)
call-again script (calls.SemGetVal id num) more sound h =
    let front : call_text script (calls.SemGetVal id num) ++ tail more ≡ codes "semctl "
    ++ (decimal id ++ (codes " getval " ++ (decimal num ++ tail more))) = simp append_assoc in
    let p = and_parts (is_u32 id) (is_u16 num) h in
    ap (call_at script) front ∙ at-semctl script _ ∙ getval-again more id (u32-bound id p.0) num (u16-bound num p.1)
call-again script (calls.SemGetPid id num) more sound h =
    let front : call_text script (calls.SemGetPid id num) ++ tail more ≡ codes "semctl "
    ++ (decimal id ++ (codes " getpid " ++ (decimal num ++ tail more))) = simp append_assoc in
    let p = and_parts (is_u32 id) (is_u16 num) h in
    ap (call_at script) front ∙ at-semctl script _ ∙ getpid-again more id (u32-bound id p.0) num (u16-bound num p.1)
call-again script (calls.SemGetNcnt id num) more sound h =
    let front : call_text script (calls.SemGetNcnt id num) ++ tail more ≡ codes "semctl "
    ++ (decimal id ++ (codes " getncnt " ++ (decimal num ++ tail more))) = simp append_assoc in
    let p = and_parts (is_u32 id) (is_u16 num) h in
    ap (call_at script) front ∙ at-semctl script _ ∙ getncnt-again more id (u32-bound id p.0) num (u16-bound num p.1)
call-again script (calls.SemGetZcnt id num) more sound h =
    let front : call_text script (calls.SemGetZcnt id num) ++ tail more ≡ codes "semctl "
    ++ (decimal id ++ (codes " getzcnt " ++ (decimal num ++ tail more))) = simp append_assoc in
    let p = and_parts (is_u32 id) (is_u16 num) h in
    ap (call_at script) front ∙ at-semctl script _ ∙ getzcnt-again more id (u32-bound id p.0) num (u16-bound num p.1)
call-again script (calls.SemSetVal id num value) more sound h =
    let front : call_text script (calls.SemSetVal id num value) ++ tail more ≡ codes "semctl "
    ++ (decimal id ++ (codes " setval " ++ (decimal num ++ 32 ∷ (decimal value ++ tail more)))) =
    simp append_assoc in
    let p = and_parts (is_place id num) (is_u16 value) h in
    let q = and_parts (is_u32 id) (is_u16 num) p.0 in
    ap (call_at script) front ∙ at-semctl script _
    ∙ set-value-again more id (u32-bound id q.0) num value (u16-bound num q.1) (u16-bound value p.1)
call-again script (calls.SemGetAll id) more sound h =
    let front : call_text script (calls.SemGetAll id) ++ tail more ≡ codes "semctl "
    ++ (decimal id ++ (codes " getall" ++ tail more)) = simp append_assoc in
    ap (call_at script) front ∙ at-semctl script _ ∙ getall-again more id (u32-bound id h)
call-again script (calls.SemSetAll id []) more sound h = let p = and_parts (is_u32 id) false h in absurd (cc)
call-again script (calls.SemSetAll id (v ∷ vs)) more sound h =
    let front : call_text script (calls.SemSetAll id (v ∷ vs)) ++ tail more ≡ codes "semctl "
    ++ (decimal id ++ (codes " setall " ++ (values_text (v ∷ vs) ++ tail more))) =
    ap (λ (w : List ℕ). codes "semctl " ++ w)
    (append_assoc (decimal id ++ codes " setall ") (values_text (v ∷ vs)) (tail more)
    ∙ append_assoc (decimal id) (codes " setall ") (values_text (v ∷ vs) ++ tail more)) in
    let p = and_parts (is_u32 id) (leb 1 (length (v ∷ vs)) && list_all is_u16 (v ∷ vs)) h in
    let q = and_parts (leb 1 (length (v ∷ vs))) (list_all is_u16 (v ∷ vs)) p.1 in
    ap (call_at script) front ∙ at-semctl script _
    ∙ set-all-again more id (u32-bound id p.0) v vs (all-from is_u16 (λ n. n ≤ 65535) u16-bound (v ∷ vs) q.1)
call-again script (calls.SemRmid id) more sound h =
    let front : call_text script (calls.SemRmid id) ++ tail more ≡ codes "semctl "
    ++ (decimal id ++ (codes " rmid" ++ tail more)) = simp append_assoc in
    ap (call_at script) front ∙ at-semctl script _ ∙ removal-again more id (u32-bound id h)
call-again script (calls.Withdraw (Proc pid)) more sound h =
    at-withdraw script (codes "proc " ++ (decimal pid ++ tail more)) ∙ from-process-again more pid (u32-bound pid h)
call-again script (calls.Withdraw (Msg id)) more sound h =
    at-withdraw script (codes "msg " ++ (decimal id ++ tail more)) ∙ from-queue-again more id (u32-bound id h)
call-again script (calls.Withdraw (Sem id)) more sound h =
    at-withdraw script (codes "sem " ++ (decimal id ++ tail more)) ∙ from-set-again more id (u32-bound id h)
