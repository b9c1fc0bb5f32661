-- Each reply's text is read as that reply, where what follows ends it.
use Rattle.std.proofs.Common.{◌≡◌, ◌⊎◌, inl, inr, ℕ, suc, ◌≤◌, ℤ, pos, negsuc, Bool, true, false, ◌&&◌, cond, leb, List, [], ◌∷◌, ◌++◌, length, Option, Some, None, refl, ap, ◌∙◌, append_assoc, arith}
use Rattle.std.specs.Prelude.{codes, decimal}
use Rattle.std.specs.Fmt.{signed_decimal}
use Rattle.std.specs.List.{AllByRecursion, flat_map, filter, list_all}
use Rattle.std.proofs.lemmas.Bool.{and_parts, le-leb}
use Rattle.pico_base.specs.declared.reply.Reply.{Reply}
use Rattle.pico_base.specs.declared.reply.Reply.TheVariants as replies
use Rattle.pico_base.specs.declared.reply.Ending.{Ending}
use Rattle.pico_base.specs.declared.reply.Ending.TheVariants.{Exited, Killed}
use Rattle.pico_base.specs.declared.reply.Errno.{Errno}
use Rattle.pico_base.specs.declared.reply.Errno.TheVariants.{Esrch, Einval, Echild, Enoent, Eexist, Enomsg, Eagain, E2big, Efbig, Erange, Eidrm, Eintr}
use Rattle.pico_base.specs.declared.signal.PerSignal.{PerSignal}
use Rattle.pico_base.specs.declared.signal.Sig.{Sig}
use Rattle.pico_base.specs.declared.signal.Sig.TheVariants.{Hup, Int, Quit, Kill, Usr1, Usr2, Pipe, Alrm, Term, Chld}
use Rattle.pico_base.specs.Signal.{at, all_signals}
use Rattle.kernel_model.specs.Numbers.{is_u32}
use Rattle.kernel_model.specs.Script.{is_type}
use Rattle.kernel_model.specs.Texts.{message_text, is_repeated, repeated_text, escape}
use Rattle.kernel_model.specs.Trace.{reply_text, ending_text, signal_name, signals_text, set_text, error_name, values_text}
use Rattle.text_fields.specs.Fields.{digit_at, number_at, named_at, text_at}
use Rattle.quoted_bytes.proofs.Strips.{strip_again}
use Rattle.quoted_bytes.specs.Front.{strip}
use Rattle.text_fields.proofs.Numerals.{IsWithin, front_number_again, signed_again}
use Rattle.text_fields.proofs.Sets.{signal_again}
use Rattle.text_fields.proofs.Spelled.{text_again}
use Rattle.trace_text.specs.Grammar.{is_reply, is_ending, is_text}
use Rattle.trace_text.specs.Reading.{exited_at, ended_by_at, message_at, or_number, numbered_at, negative_at, stat_at, all_values_at, word_reply_at, reply_at, or_set}
use Rattle.trace_text.proofs.Joined.{IsNoComma, values-again, set-again}
use Rattle.trace_text.proofs.Ranges.{IsTextInRange, text-in-range, u32-bound, byte-bound, type-within, all-from}

-- What may stand behind a reply: nothing that goes on a number, a list of values or a set, and no text or ending, which
-- would make another reply of a number.
pub record EndsReply (rest : List ℕ) : Type 0 where
  pub digit : digit_at rest ≡ None
  pub comma : IsNoComma rest
  pub message : (class : ℤ) → message_at class rest ≡ None
  pub exited : strip (codes " exited ") rest ≡ None
  pub killed : strip (codes " killed ") rest ≡ None

-- the word ` by` ends a reply
pub by-ends : (more : List ℕ) → EndsReply (32 ∷ 98 ∷ more)
unfolding digit_at message_at strip text_at
by-ends more = record { digit = refl; comma = refl; message = λ class. refl; exited = refl; killed = refl }

-- the word ` wakes` ends a reply
pub wakes-end : (more : List ℕ) → EndsReply (32 ∷ 119 ∷ more)
unfolding digit_at message_at strip text_at
wakes-end more = record { digit = refl; comma = refl; message = λ class. refl; exited = refl; killed = refl }

-- the end of the line ends a reply
pub nothing-ends : EndsReply []
unfolding digit_at message_at strip text_at
nothing-ends = record { digit = refl; comma = refl; message = λ class. refl; exited = refl; killed = refl }

blank-ends : (rest : List ℕ) → digit_at (32 ∷ rest) ≡ None
unfolding digit_at
blank-ends rest = refl

module _ (tail : List ℕ) (ends : EndsReply tail) where
  -- ---- behind a number

  number-alone : (n : ℕ) → numbered_at n tail ≡ Some (replies.Num n, tail)
  unfolding numbered_at
  number-alone n = rw (ends.exited, ends.killed) (of (leb n 2147483647))
    where
      of : (b : Bool) → cond b (or_number n tail (message_at (pos n) tail))
          (Some (replies.Num n, tail)) ≡ Some (replies.Num n, tail)
      of true = rw (ends.message (pos n)) refl
      of false = refl

  exited-again : (n s : ℕ) → s ≤ 255
      → numbered_at n (codes " exited " ++ (decimal s ++ tail))
      ≡ Some (replies.Child n (Exited s), tail)
  unfolding numbered_at exited_at
  exited-again n s h = rw (
    strip_again (codes " exited ") (decimal s ++ tail),
    front_number_again 255 s tail h (omega arith) ends.digit,
  ) refl

  not-exited : (rest : List ℕ) → strip (codes " exited ") (codes " killed " ++ rest) ≡ None
  unfolding strip
  not-exited rest = refl

  ended-again : (n : ℕ) (g : Sig)
      → numbered_at n (codes " killed " ++ (signal_name g ++ tail))
      ≡ Some (replies.Child n (Killed g), tail)
  unfolding numbered_at ended_by_at
  ended-again n g = rw (
    not-exited (signal_name g ++ tail),
    strip_again (codes " killed ") (signal_name g ++ tail),
    signal_again g tail,
  ) refl

  message-again : (class : ℤ) (text : List ℕ) → IsTextInRange text
      → message_at class (32 ∷ (message_text text ++ tail)) ≡ Some (replies.Message class text, tail)
  unfolding message_at
  message-again class text t =
      rw (
        strip_again (codes " ") (message_text text ++ tail),
        text_again text tail t.bytes t.few,
      ) refl

  -- ---- the first byte of a message's text

  pub record IsTextHead (text : List ℕ) : Type 0 where
    first : ℕ
    rest : List ℕ
    are : message_text text ≡ first ∷ rest
    other : (first ≡ 34) ⊎ (first ≡ 114)

  text-head : (text : List ℕ) → IsTextHead text
  text-head text = of (is_repeated text) refl
    where
      repeats : (text : List ℕ) → is_repeated text ≡ true → (w : List ℕ) × (repeated_text text ≡ 114 ∷ w)
      repeats [] e = absurd (cc)
      repeats (b ∷ bs) e = (_, refl)

      of : (c : Bool) → is_repeated text ≡ c → IsTextHead text
      of true e = let r = repeats text e in record { first = 114; rest = r.0; are = rw e r.1; other = inr refl }
      of false e = record { first = 34; rest = flat_map escape text ++ 34 ∷ []; are = rw e refl; other = inl refl }

  not-ending : (first : ℕ) (rest : List ℕ) → (first ≡ 34) ⊎ (first ≡ 114)
      → (strip (codes " exited ") (32 ∷ first ∷ rest) ≡ None) × (strip (codes " killed ") (32 ∷ first ∷ rest) ≡ None)
  unfolding strip
  not-ending first rest (inl e) = rw e (refl, refl)
  not-ending first rest (inr e) = rw e (refl, refl)

  positive-again : (n : ℕ) (text : List ℕ) → n ≤ 2147483647 → IsTextInRange text
      → numbered_at n (32 ∷ (message_text text ++ tail)) ≡ Some (replies.Message (pos n) text, tail)
  unfolding numbered_at
  positive-again n text small t =
      let head = text-head text in
      let apart = not-ending head.first (head.rest ++ tail) head.other in
      let bytes : List ℕ = message_text text ++ tail in
      let are : bytes ≡ head.first ∷ (head.rest ++ tail) = ap (λ (w : List ℕ). w ++ tail) head.are in
      let exited : strip (codes " exited ") (32 ∷ bytes) ≡ None =
      ap (λ (w : List ℕ). strip (codes " exited ") (32 ∷ w)) are ∙ apart.0 in
      let killed : strip (codes " killed ") (32 ∷ bytes) ≡ None =
      ap (λ (w : List ℕ). strip (codes " killed ") (32 ∷ w)) are ∙ apart.1 in
      rw (exited, killed, le-leb n 2147483647 small, message-again (pos n) text t) refl

  -- ---- replies that begin with a number

  number-first : (n : ℕ) (rest : List ℕ) → n ≤ 4294967295 → digit_at rest ≡ None
      → reply_at (decimal n ++ rest) ≡ numbered_at n rest
  unfolding reply_at
  number-first n rest h ends = rw (front_number_again 4294967295 n rest h (omega arith) ends) refl

  num-again : (n : ℕ) → n ≤ 4294967295 → reply_at (decimal n ++ tail) ≡ Some (replies.Num n, tail)
  num-again n h = number-first n tail h ends.digit ∙ number-alone n

  child-again : (pid : ℕ) (e : Ending) → pid ≤ 4294967295 → is_ending e ≡ true
      → reply_at (decimal pid ++ (ending_text e ++ tail)) ≡ Some (replies.Child pid e, tail)
  child-again pid (Exited s) h low = number-first pid _ h (blank-ends _) ∙ exited-again pid s (byte-bound s low)
  child-again pid (Killed g) h low = number-first pid _ h (blank-ends _) ∙ ended-again pid g

  -- ---- the others

  no-number : (b : ℕ) (rest : List ℕ) → 58 ≤ b → number_at 4294967295 (b ∷ rest) ≡ None
  unfolding number_at digit_at
  no-number b rest high = grind arith

  minus : (rest : List ℕ) → reply_at (45 ∷ rest) ≡ negative_at (45 ∷ rest)
  unfolding reply_at word_reply_at number_at digit_at strip
  minus rest = refl

  negative-again : (m : ℕ) (text : List ℕ) → IsWithin 2147483647 (negsuc m) → IsTextInRange text
      → negative_at (45 ∷ (decimal (suc m) ++ 32 ∷ (message_text text ++ tail)))
      ≡ Some (replies.Message (negsuc m) text, tail)
  unfolding negative_at
  negative-again m text within t =
      rw (signed_again 2147483647 (negsuc m) (32 ∷ (message_text text ++ tail)) (omega arith) within
      (blank-ends (message_text text ++ tail))) (message-again (negsuc m) text t)

  message-of : (class : ℤ) (text : List ℕ) → IsWithin 2147483647 class → IsTextInRange text
      → reply_at (signed_decimal class ++ 32 ∷ (message_text text ++ tail))
      ≡ Some (replies.Message class text, tail)
  message-of (pos n) text within t =
      number-first n (32 ∷ (message_text text ++ tail)) (omega (arith, within))
      (blank-ends (message_text text ++ tail)) ∙ positive-again n text within t
  message-of (negsuc m) text within t =
      minus (decimal (suc m) ++ 32 ∷ (message_text text ++ tail)) ∙ negative-again m text within t

  stat-again : (a b c d : ℕ) → a ≤ 4294967295 → b ≤ 4294967295 → c ≤ 4294967295 → d ≤ 4294967295
      → stat_at (decimal a ++
      (codes " qbytes " ++ (decimal b
      ++ (codes " lspid " ++ (decimal c ++ (codes " lrpid " ++ (decimal d ++ tail)))))))
      ≡ Some (replies.Stat a b c d, tail)
  unfolding stat_at
  stat-again a b c d ha hb hc hd =
      let last : List ℕ = decimal d ++ tail in
      let third : List ℕ = decimal c ++ (codes " lrpid " ++ last) in
      let second : List ℕ = decimal b ++ (codes " lspid " ++ third) in
      rw (
        front_number_again 4294967295 a (codes " qbytes " ++ second) ha (omega arith) (blank-ends _),
        strip_again (codes " qbytes ") second,
        front_number_again 4294967295 b (codes " lspid " ++ third) hb (omega arith) (blank-ends _),
        strip_again (codes " lspid ") third,
        front_number_again 4294967295 c (codes " lrpid " ++ last) hc (omega arith) (blank-ends _),
        strip_again (codes " lrpid ") last,
        front_number_again 4294967295 d tail hd (omega arith) ends.digit,
      ) refl

  at-stat : (rest : List ℕ) → reply_at (codes "qnum " ++ rest) ≡ stat_at rest
  unfolding reply_at word_reply_at number_at digit_at strip
  at-stat rest = refl

  at-all : (rest : List ℕ) → reply_at (codes "all " ++ rest) ≡ all_values_at rest
  unfolding reply_at word_reply_at number_at digit_at strip
  at-all rest = refl

  all-again : (v : ℕ) (vs : List ℕ) → AllByRecursion (λ n. n ≤ 4294967295) (v ∷ vs)
      → all_values_at (values_text (v ∷ vs) ++ tail) ≡ Some (replies.All (v ∷ vs), tail)
  unfolding all_values_at
  all-again v vs h = rw (values-again 4294967295 (omega arith) v vs tail ends.digit ends.comma h) refl

  ended-alone : reply_at (codes "ended" ++ tail) ≡ Some (replies.Ended, tail)
  unfolding reply_at word_reply_at number_at digit_at strip
  ended-alone = refl

  fail-again : (e : Errno) → reply_at (error_name e ++ tail) ≡ Some (replies.Fail e, tail)
  unfolding reply_at word_reply_at number_at digit_at strip named_at
  fail-again Esrch = refl
  fail-again Einval = refl
  fail-again Echild = refl
  fail-again Enoent = refl
  fail-again Eexist = refl
  fail-again Enomsg = refl
  fail-again Eagain = refl
  fail-again E2big = refl
  fail-again Efbig = refl
  fail-again Erange = refl
  fail-again Eidrm = refl
  fail-again Eintr = refl

  -- ---- sets

  abbrev bits_at : List ℕ → Option (Reply × List ℕ)
  bits_at bytes = or_set bytes None

  none-first : (rest : List ℕ) → reply_at (codes "none" ++ rest) ≡ bits_at (codes "none" ++ rest)
  unfolding reply_at word_reply_at number_at digit_at strip named_at
  none-first rest = refl

  signal-first : (g : Sig) (rest : List ℕ) → reply_at (signal_name g ++ rest) ≡ bits_at (signal_name g ++ rest)
  unfolding reply_at word_reply_at number_at digit_at strip named_at
  signal-first Hup rest = refl
  signal-first Int rest = refl
  signal-first Quit rest = refl
  signal-first Kill rest = refl
  signal-first Usr1 rest = refl
  signal-first Usr2 rest = refl
  signal-first Pipe rest = refl
  signal-first Alrm rest = refl
  signal-first Term rest = refl
  signal-first Chld rest = refl

  signals-first : (gs : List Sig)
      → reply_at (signals_text gs ++ tail) ≡ bits_at (signals_text gs ++ tail)
  signals-first [] = none-first tail
  signals-first (g ∷ gs) =
      let front : signals_text (g ∷ gs) ++ tail ≡ signal_name g
      ++ (flat_map (λ y. 44 ∷ signal_name y) gs ++ tail) =
      append_assoc (signal_name g) (flat_map (λ y. 44 ∷ signal_name y) gs) tail in
      rw front (signal-first g (flat_map (λ y. 44 ∷ signal_name y) gs ++ tail))

  set-first : (s : PerSignal Bool) → reply_at (set_text s ++ tail) ≡ bits_at (set_text s ++ tail)
  unfolding set_text
  set-first s = signals-first (filter (at s) all_signals)

  bits-again : (s : PerSignal Bool) → reply_at (set_text s ++ tail) ≡ Some (replies.Bits s, tail)
  bits-again s = set-first s ∙ rw (set-again s tail ends.comma) refl

  pub reply-again : (r : Reply) → is_reply r ≡ true → reply_at (reply_text r ++ tail) ≡ Some (r, tail)
  reply-again (replies.Num n) h = num-again n (u32-bound n h)
  reply-again (replies.Child pid e) h =
      let p = and_parts (is_u32 pid) (is_ending e) h in
      rw (append_assoc (decimal pid) (ending_text e) tail) (child-again pid e (u32-bound pid p.0) p.1)
  reply-again (replies.Message class text) h =
      let p = and_parts (is_type class) (is_text text) h in
      rw (append_assoc (signed_decimal class) (32 ∷ message_text text) tail)
      (message-of class text (type-within class p.0) (text-in-range text p.1))
  reply-again (replies.Bits s) h = bits-again s
  reply-again (replies.Stat a b c d) h =
      let p = and_parts (is_u32 a) (is_u32 b && (is_u32 c && is_u32 d)) h in
      let q = and_parts (is_u32 b) (is_u32 c && is_u32 d) p.1 in
      let r = and_parts (is_u32 c) (is_u32 d) q.1 in
      let second : List ℕ = codes " qbytes " ++ decimal b in
      let third : List ℕ = codes " lspid " ++ decimal c in
      let last : List ℕ = codes " lrpid " ++ decimal d in
      let front : reply_text (replies.Stat a b c d) ++ tail ≡ codes "qnum "
      ++ (decimal a ++ (codes " qbytes "
      ++ (decimal b ++ (codes " lspid " ++ (decimal c ++ (codes " lrpid " ++ (decimal d ++ tail))))))) =
      ap (λ (w : List ℕ). codes "qnum " ++ w)
      (append_assoc ((decimal a ++ second) ++ third) last tail
      ∙ append_assoc (decimal a ++ second) third (last ++ tail)
      ∙ append_assoc (decimal a) second (third ++ (last ++ tail))) in
      ap reply_at front ∙ (at-stat _
      ∙ stat-again a b c d (u32-bound a p.0) (u32-bound b q.0) (u32-bound c r.0) (u32-bound d r.1))
  reply-again (replies.All []) h = absurd (cc)
  reply-again (replies.All (v ∷ vs)) h =
      let p = and_parts (leb 1 (length (v ∷ vs))) (list_all is_u32 (v ∷ vs)) h in
      at-all (values_text (v ∷ vs) ++ tail)
      ∙ all-again v vs (all-from is_u32 (λ n. n ≤ 4294967295) u32-bound (v ∷ vs) p.1)
  reply-again replies.Ended h = ended-alone
  reply-again (replies.Fail e) h = fail-again e
