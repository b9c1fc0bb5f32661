-- Calls and replies read what they spell.
use Rattle.std.proofs.Common.{◌≡◌, ℕ, Bool, true, ℤ, List, [], ◌∷◌, ◌++◌, length, Some, None, refl, ap, ◌∙◌, append_assoc}
use Rattle.std.specs.List.{AllByRecursion}
use Rattle.std.proofs.lemmas.Bool.{false≢true}
use Rattle.pico_base.specs.declared.call.Call.{Call}
use Rattle.pico_base.specs.declared.call.Call.TheVariants as calls
use Rattle.pico_base.specs.declared.call.SemStep.{SemStep}
use Rattle.pico_base.specs.declared.numbers.Kind.{Kind}
use Rattle.pico_base.specs.declared.numbers.Kind.TheVariants as kinds
use Rattle.pico_base.specs.declared.numbers.Name.{Name}
use Rattle.pico_base.specs.declared.numbers.Name.TheVariants as names
use Rattle.pico_base.specs.declared.reply.Errno.{Errno}
use Rattle.pico_base.specs.declared.reply.Reply.{Reply}
use Rattle.pico_base.specs.declared.reply.Reply.TheVariants as replies
use Rattle.pico_base.specs.declared.signal.Sig.{Sig}
use Rattle.pico_base.specs.declared.signal.SigArg.{SigArg}
use Rattle.frame_bytes.specs.Readers.{Reader, two, tabled}
use Rattle.frame_bytes.specs.Fields.{IsWord, word, half, signed, text, flag_byte, name_field, name_of, word_at, half_at, count_at, kind_at}
use Rattle.frame_bytes.specs.Calls.{step_field, steps_field, values_field, is_object, object_at, call_bytes, step_at, steps_at, set_at, asked_rows, asked_call_at, last_rows, last_call_at, withdrawal_rows, withdrawal_at}
use Rattle.frame_bytes.specs.Replies.{reply_bytes, values_at, reply_rows, reply_at}
use Rattle.frame_bytes.specs.Limits.{is_half, is_count, is_call, is_last_call, is_withdrawal, is_reply}
use Rattle.frame_bytes.specs.Ranges.{HasStepRanges, HasNameRange, HasCallRanges, HasReplyRanges}
use Rattle.frame_bytes.proofs.Inverse.{Inverse, Field, Counted, Passes, Reads, passing-inverse, counted-inverse, renamed, one-takes, two-takes, three-takes, four-takes, five-takes, tabled-takes, one-again, two-again, three-again, four-again, five-again}
use Rattle.frame_bytes.proofs.FieldLaws.{word-inverse, values-count-inverse, count-inverse, word-field, half-field, positive-field, signed-field, flag-field, sig-field, sigarg-field, errno-field, kind-field, text-field, name-same, whole-inverse}

-- ---- operations and values

abbrev step-of : ℕ → ℤ → Bool → SemStep
step-of num add nowait = record { num = num; add = add; nowait = nowait }

pub step-inverse : Inverse SemStep HasStepRanges step_field step_at
unfolding step_at
step-inverse =
    whole-inverse SemStep HasStepRanges step_field step_at
    (three-takes SemStep HasStepRanges step_field ℕ ℤ Bool half-field signed-field flag-field step-of [] (λ a b c. refl)
    (λ a b c p q r. record { num = p; add = q }))
    (λ s rest p. three-again ℕ ℤ Bool SemStep half-field signed-field flag-field step-of s.num s.add s.nowait rest p.num
    p.add tt)

abbrev step-list : Field SemStep
step-list = record { Fits = HasStepRanges; spell = step_field; read = step_at; inverse = step-inverse }

-- operations that have a spelling
abbrev pub AreSteps : List SemStep → Type 0
AreSteps steps = AllByRecursion HasStepRanges steps × (is_count (length steps) ≡ true)

pub steps-inverse : Inverse (List SemStep) AreSteps steps_field steps_at
unfolding steps_at
steps-inverse =
    renamed (List SemStep) (Counted SemStep (λ n. is_count n ≡ true) HasStepRanges) AreSteps steps_field steps_at
    (λ xs p. (p.each, p.count)) (λ xs p. record { count = p.1; each = p.0 })
    (counted-inverse SemStep (λ n. is_count n ≡ true) half count_at HasStepRanges step_field step_at count-inverse
    step-inverse)

-- values for a whole set that have a spelling
abbrev pub AreSet : List ℕ → Type 0
AreSet values = AllByRecursion IsWord values × (is_count (length values) ≡ true)

pub set-inverse : Inverse (List ℕ) AreSet values_field set_at
unfolding set_at
set-inverse =
    renamed (List ℕ) (Counted ℕ (λ n. is_count n ≡ true) IsWord) AreSet values_field set_at
    (λ xs p. (p.each, p.count)) (λ xs p. record { count = p.1; each = p.0 })
    (counted-inverse ℕ (λ n. is_count n ≡ true) half count_at IsWord word word_at count-inverse word-inverse)

-- values that have a spelling
abbrev pub AreValues : List ℕ → Type 0
AreValues values = AllByRecursion IsWord values × (is_half (length values) ≡ true)

pub values-inverse : Inverse (List ℕ) AreValues values_field values_at
unfolding values_at
values-inverse =
    renamed (List ℕ) (Counted ℕ (λ n. is_half n ≡ true) IsWord) AreValues values_field values_at
    (λ xs p. (p.each, p.count)) (λ xs p. record { count = p.1; each = p.0 })
    (counted-inverse ℕ (λ n. is_half n ≡ true) half half_at IsWord word word_at values-count-inverse word-inverse)

abbrev steps-field : Field (List SemStep)
steps-field = record { Fits = AreSteps; spell = steps_field; read = steps_at; inverse = steps-inverse }

abbrev set-field : Field (List ℕ)
set-field = record { Fits = AreSet; spell = values_field; read = set_at; inverse = set-inverse }

abbrev values-field : Field (List ℕ)
values-field = record { Fits = AreValues; spell = values_field; read = values_at; inverse = values-inverse }

-- ---- where a call waits

-- a name of any number
abbrev any-name-at : Reader Name
any-name-at bytes = two kind_at word_at name_of bytes

any-name-fits : (k : Kind) (n : ℕ) → Unit {0} → IsWord n → HasNameRange (name_of k n)
any-name-fits kinds.Proc n u h = h
any-name-fits kinds.Msg n u h = h
any-name-fits kinds.Sem n u h = h

any-name-again : (name : Name) (rest : List ℕ) → HasNameRange name
    → any-name-at (name_field name ++ rest) ≡ Some (name, rest)
any-name-again (names.Proc n) rest h = two-again Kind ℕ Name kind-field word-field name_of kinds.Proc n rest tt h
any-name-again (names.Msg n) rest h = two-again Kind ℕ Name kind-field word-field name_of kinds.Msg n rest tt h
any-name-again (names.Sem n) rest h = two-again Kind ℕ Name kind-field word-field name_of kinds.Sem n rest tt h

any-name-inverse : Inverse Name HasNameRange name_field any-name-at
any-name-inverse =
    whole-inverse Name HasNameRange name_field any-name-at
    (two-takes Name HasNameRange name_field Kind ℕ kind-field word-field name_of [] name-same any-name-fits)
    any-name-again

-- the name of a queue or a set that has a spelling
abbrev pub IsObject : Name → Type 0
IsObject name = HasNameRange name × (is_object name ≡ true)

pub object-inverse : Inverse Name IsObject name_field object_at
unfolding object_at
object-inverse =
    renamed Name (Passes Name HasNameRange is_object) IsObject name_field object_at
    (λ name p. (p.fits, p.passes)) (λ name p. record { fits = p.0; passes = p.1 })
    (passing-inverse Name HasNameRange name_field any-name-at is_object any-name-inverse)

abbrev object-field : Field Name
object-field = record { Fits = IsObject; spell = name_field; read = object_at; inverse = object-inverse }

-- ---- calls

-- a call that has a spelling, where one node asks another to carry it out
abbrev pub IsAskedCall : Call → Type 0
IsAskedCall call = HasCallRanges call × (is_call call ≡ true)

-- and where it ends a process
abbrev pub IsLastCall : Call → Type 0
IsLastCall call = HasCallRanges call × (is_last_call call ≡ true)

-- and where it ends a wait
abbrev pub IsWithdrawal : Call → Type 0
IsWithdrawal call = HasCallRanges call × (is_withdrawal call ≡ true)

asked-takes : Reads Call IsAskedCall call_bytes asked_call_at []
unfolding asked_call_at
asked-takes =
    tabled-takes Call IsAskedCall call_bytes asked_rows (
      two-takes Call IsAskedCall call_bytes ℕ SigArg word-field sigarg-field calls.Kill (1 ∷ []) (λ a b. refl)
          (λ a b p q. (p, q)),
      (
        three-takes Call IsAskedCall call_bytes ℕ Bool Bool positive-field flag-field flag-field
            (λ key. calls.MsgGet (Some key)) (2 ∷ []) (λ a b c. refl) (λ a b c p q r. p),
        (
          four-takes Call IsAskedCall call_bytes ℕ ℤ
              (List ℕ) Bool word-field signed-field text-field flag-field calls.MsgSnd (3 ∷ []) (λ a b c d. refl)
              (λ a b c d p q r s. ((p, q), r)),
          (
            five-takes Call IsAskedCall call_bytes ℕ ℤ ℕ Bool Bool word-field signed-field word-field flag-field
                flag-field calls.MsgRcv (4 ∷ []) (λ a b c d e. refl)
                (λ a b c d e p q r s t. ((p, q, r), refl)),
            (
              one-takes Call IsAskedCall call_bytes ℕ word-field calls.MsgStat (5 ∷ []) (λ a. refl) (λ a p. (p, refl)),
              (
                two-takes Call IsAskedCall call_bytes ℕ ℕ word-field word-field calls.MsgSet (6 ∷ []) (λ a b. refl)
                    (λ a b p q. ((p, q), refl)),
                (
                  one-takes Call IsAskedCall call_bytes ℕ word-field calls.MsgRmid (7 ∷ []) (λ a. refl)
                      (λ a p. (p, refl)),
                  (
                    four-takes Call IsAskedCall call_bytes ℕ ℕ Bool Bool positive-field word-field flag-field flag-field
                        (λ key. calls.SemGet (Some key)) (8 ∷ []) (λ a b c d. refl)
                        (λ a b c d p q r s. ((p.0, q), p.1)),
                    (
                      two-takes Call IsAskedCall call_bytes ℕ (List SemStep) word-field steps-field calls.SemOp (9 ∷ [])
                          (λ a b. refl) (λ a b p q. ((p, q.0), q.1)),
                      (
                        two-takes Call IsAskedCall call_bytes ℕ ℕ word-field half-field calls.SemGetVal (10 ∷ [])
                            (λ a b. refl) (λ a b p q. ((p, q), refl)),
                        (
                          three-takes Call IsAskedCall call_bytes ℕ ℕ ℕ word-field half-field word-field calls.SemSetVal
                              (11 ∷ []) (λ a b c. refl)
                              (λ a b c p q r. ((p, q, r), refl)),
                          (
                            one-takes Call IsAskedCall call_bytes ℕ word-field calls.SemGetAll (12 ∷ []) (λ a. refl)
                                (λ a p. (p, refl)),
                            (
                              two-takes Call IsAskedCall call_bytes ℕ (List ℕ) word-field set-field calls.SemSetAll
                                  (13 ∷ []) (λ a b. refl) (λ a b p q. ((p, q.0), q.1)),
                              (
                                two-takes Call IsAskedCall call_bytes ℕ ℕ word-field half-field calls.SemGetPid
                                    (14 ∷ []) (λ a b. refl) (λ a b p q. ((p, q), refl)),
                                (
                                  two-takes Call IsAskedCall call_bytes ℕ ℕ word-field half-field calls.SemGetNcnt
                                      (15 ∷ []) (λ a b. refl) (λ a b p q. ((p, q), refl)),
                                  (
                                    two-takes Call IsAskedCall call_bytes ℕ ℕ word-field half-field calls.SemGetZcnt
                                        (16 ∷ []) (λ a b. refl) (λ a b p q. ((p, q), refl)),
                                    (
                                      one-takes Call IsAskedCall call_bytes ℕ word-field calls.SemRmid (17 ∷ [])
                                          (λ a. refl) (λ a p. (p, refl)),
                                      tt,
                                    ),
                                  ),
                                ),
                              ),
                            ),
                          ),
                        ),
                      ),
                    ),
                  ),
                ),
              ),
            ),
          ),
        ),
      ),
    )

-- the flag behind a text
send-bytes : (id : ℕ) (class : ℤ) (bytes : List ℕ) (nowait : Bool) (rest : List ℕ)
    → call_bytes (calls.MsgSnd id class bytes nowait) ++ rest ≡ 3
    ∷ (word id ++ (signed class ++ (text bytes ++ (flag_byte nowait ∷ rest))))
send-bytes id class bytes nowait rest =
    ap (λ (y : List ℕ). 3 ∷ (word id ++ (signed class ++ (word (length bytes) ++ y))))
    (append_assoc bytes (flag_byte nowait ∷ []) rest)

asked-again : (call : Call) (rest : List ℕ) → IsAskedCall call
    → asked_call_at (call_bytes call ++ rest) ≡ Some (call, rest)
unfolding asked_call_at
asked-again (calls.Kill pid sig) rest h =
    two-again ℕ SigArg Call word-field sigarg-field calls.Kill pid sig rest h.0 h.1
asked-again (calls.MsgGet (Some key) create excl) rest h =
    three-again ℕ Bool Bool Call positive-field flag-field flag-field
    (λ k. calls.MsgGet (Some k)) key create excl rest h tt tt
asked-again (calls.MsgSnd id class bytes nowait) rest h =
    ap (tabled asked_rows) (send-bytes id class bytes nowait rest)
    ∙ four-again ℕ ℤ (List ℕ) Bool Call word-field signed-field text-field flag-field calls.MsgSnd id class bytes nowait
    rest h.0.0 h.0.1 h.1 tt
asked-again (calls.MsgRcv id class size noerror nowait) rest h =
    five-again ℕ ℤ ℕ Bool Bool Call word-field signed-field word-field flag-field flag-field calls.MsgRcv id class size
    noerror nowait rest h.0.0 h.0.1 h.0.2 tt tt
asked-again (calls.MsgStat id) rest h = one-again ℕ Call word-field calls.MsgStat id rest h.0
asked-again (calls.MsgSet id qbytes) rest h =
    two-again ℕ ℕ Call word-field word-field calls.MsgSet id qbytes rest h.0.0 h.0.1
asked-again (calls.MsgRmid id) rest h = one-again ℕ Call word-field calls.MsgRmid id rest h.0
asked-again (calls.SemGet (Some key) count create excl) rest h =
    four-again ℕ ℕ Bool Bool Call positive-field word-field flag-field flag-field
    (λ k. calls.SemGet (Some k)) key count create excl rest (h.0.0, h.1) h.0.1 tt tt
asked-again (calls.SemOp id steps) rest h =
    two-again ℕ (List SemStep) Call word-field steps-field calls.SemOp id steps rest h.0.0 (h.0.1, h.1)
asked-again (calls.SemGetVal id num) rest h =
    two-again ℕ ℕ Call word-field half-field calls.SemGetVal id num rest h.0.0 h.0.1
asked-again (calls.SemSetVal id num value) rest h =
    three-again ℕ ℕ ℕ Call word-field half-field word-field calls.SemSetVal id num value rest h.0.0 h.0.1 h.0.2
asked-again (calls.SemGetAll id) rest h = one-again ℕ Call word-field calls.SemGetAll id rest h.0
asked-again (calls.SemSetAll id values) rest h =
    two-again ℕ (List ℕ) Call word-field set-field calls.SemSetAll id values rest h.0.0 (h.0.1, h.1)
asked-again (calls.SemGetPid id num) rest h =
    two-again ℕ ℕ Call word-field half-field calls.SemGetPid id num rest h.0.0 h.0.1
asked-again (calls.SemGetNcnt id num) rest h =
    two-again ℕ ℕ Call word-field half-field calls.SemGetNcnt id num rest h.0.0 h.0.1
asked-again (calls.SemGetZcnt id num) rest h =
    two-again ℕ ℕ Call word-field half-field calls.SemGetZcnt id num rest h.0.0 h.0.1
asked-again (calls.SemRmid id) rest h = one-again ℕ Call word-field calls.SemRmid id rest h.0
asked-again (calls.MsgGet None create excl) rest h = absurd (false≢true h.1)
asked-again (calls.SemGet None count create excl) rest h = absurd (false≢true h.1)
asked-again (calls.Fork block) rest h = absurd (false≢true h.1)
asked-again (calls.Exit status) rest h = absurd (false≢true h.1)
asked-again (calls.Killed sig) rest h = absurd (false≢true h.1)
asked-again calls.GetPid rest h = absurd (false≢true h.1)
asked-again (calls.SigAction sig act) rest h = absurd (false≢true h.1)
asked-again (calls.SigProcMask how set) rest h = absurd (false≢true h.1)
asked-again calls.SigPending rest h = absurd (false≢true h.1)
asked-again (calls.Handled sig) rest h = absurd (false≢true h.1)
asked-again (calls.WaitPid child nohang) rest h = absurd (false≢true h.1)
asked-again (calls.Withdraw name) rest h = absurd (false≢true h.1)

-- a call that a frame asks for is read as it is spelled
pub asked_call-inverse : Inverse Call IsAskedCall call_bytes asked_call_at
asked_call-inverse = whole-inverse Call IsAskedCall call_bytes asked_call_at asked-takes asked-again

last-takes : Reads Call IsLastCall call_bytes last_call_at []
unfolding last_call_at
last-takes =
    tabled-takes Call IsLastCall call_bytes last_rows (
      one-takes Call IsLastCall call_bytes ℕ half-field calls.Exit (18 ∷ []) (λ a. refl) (λ a p. (p, refl)),
      (one-takes Call IsLastCall call_bytes Sig sig-field calls.Killed (19 ∷ []) (λ a. refl) (λ a p. (p, refl)), tt),
    )

last-again : (call : Call) (rest : List ℕ) → IsLastCall call
    → last_call_at (call_bytes call ++ rest) ≡ Some (call, rest)
unfolding last_call_at
last-again (calls.Exit status) rest h = one-again ℕ Call half-field calls.Exit status rest h.0
last-again (calls.Killed sig) rest h = one-again Sig Call sig-field calls.Killed sig rest tt
last-again call rest h = absurd (false≢true h.1)

-- so is a call that ends a process
pub last_call-inverse : Inverse Call IsLastCall call_bytes last_call_at
last_call-inverse = whole-inverse Call IsLastCall call_bytes last_call_at last-takes last-again

withdrawal-takes : Reads Call IsWithdrawal call_bytes withdrawal_at []
unfolding withdrawal_at
withdrawal-takes =
    tabled-takes Call IsWithdrawal call_bytes withdrawal_rows
    (one-takes Call IsWithdrawal call_bytes Name object-field calls.Withdraw (20 ∷ []) (λ a. refl) (λ a p. p), tt)

withdrawal-again : (call : Call) (rest : List ℕ) → IsWithdrawal call
    → withdrawal_at (call_bytes call ++ rest) ≡ Some (call, rest)
unfolding withdrawal_at
withdrawal-again (calls.Withdraw name) rest h = one-again Name Call object-field calls.Withdraw name rest h
withdrawal-again call rest h = absurd (false≢true h.1)

-- so is a call that ends a wait
pub withdrawal-inverse : Inverse Call IsWithdrawal call_bytes withdrawal_at
withdrawal-inverse = whole-inverse Call IsWithdrawal call_bytes withdrawal_at withdrawal-takes withdrawal-again

-- ---- replies

-- a reply that has a spelling
abbrev pub IsAnswer : Reply → Type 0
IsAnswer reply = HasReplyRanges reply × (is_reply reply ≡ true)

reply-takes : Reads Reply IsAnswer reply_bytes reply_at []
unfolding reply_at
reply-takes =
    tabled-takes Reply IsAnswer reply_bytes reply_rows (
      one-takes Reply IsAnswer reply_bytes ℕ word-field replies.Num (1 ∷ []) (λ a. refl) (λ a p. (p, refl)),
      (
        two-takes Reply IsAnswer reply_bytes ℤ (List ℕ) signed-field text-field replies.Message (2 ∷ []) (λ a b. refl)
            (λ a b p q. (p, q)),
        (
          four-takes Reply IsAnswer reply_bytes ℕ ℕ ℕ ℕ word-field word-field word-field word-field replies.Stat
              (3 ∷ []) (λ a b c d. refl)
              (λ a b c d p q r s. ((p, q, r, s), refl)),
          (
            one-takes Reply IsAnswer reply_bytes (List ℕ) values-field replies.All (4 ∷ []) (λ a. refl) (λ a p. p),
            (
              one-takes Reply IsAnswer reply_bytes Errno errno-field replies.Fail (5 ∷ []) (λ a. refl)
                  (λ a p. (p, refl)),
              tt,
            ),
          ),
        ),
      ),
    )

reply-again : (reply : Reply) (rest : List ℕ) → IsAnswer reply
    → reply_at (reply_bytes reply ++ rest) ≡ Some (reply, rest)
unfolding reply_at
reply-again (replies.Num n) rest h = one-again ℕ Reply word-field replies.Num n rest h.0
reply-again (replies.Message class bytes) rest h =
    two-again ℤ (List ℕ) Reply signed-field text-field replies.Message class bytes rest h.0 h.1
reply-again (replies.Stat qnum qbytes sender receiver) rest h =
    four-again ℕ ℕ ℕ ℕ Reply word-field word-field word-field word-field replies.Stat qnum qbytes sender receiver rest
    h.0.0 h.0.1 h.0.2 h.0.3
reply-again (replies.All values) rest h = one-again (List ℕ) Reply values-field replies.All values rest h
reply-again (replies.Fail errno) rest h = one-again Errno Reply errno-field replies.Fail errno rest tt
reply-again reply rest h = absurd (false≢true h.1)

-- so is a reply
pub reply-inverse : Inverse Reply IsAnswer reply_bytes reply_at
reply-inverse = whole-inverse Reply IsAnswer reply_bytes reply_at reply-takes reply-again
