-- No line that is printed has a line feed but its last byte.
use Rattle.std.proofs.Common.{◌≡◌, ℕ, suc, ◌-◌, ◌/◌, ◌%◌, ◌≤◌, ℤ, pos, negsuc, Bool, true, false, not, ◌&&◌, ◌||◌, cond, leb, ltb, eqb, List, [], ◌∷◌, ◌++◌, length, Option, Some, None, refl, arith}
use Rattle.std.specs.Prelude.{codes, decimal}
use Rattle.std.specs.Fmt.{signed_decimal}
use Rattle.std.specs.List.{AllByRecursion, flat_map, filter, list_all}
use Rattle.std.specs.Str.{all_ascii_digits}
use Rattle.std.proofs.lemmas.Bool.{and_parts, and_from, leb-true}
use Rattle.pico_base.specs.declared.call.Call.{Call}
use Rattle.pico_base.specs.declared.call.Call.TheVariants as calls
use Rattle.pico_base.specs.declared.call.SemStep.{SemStep}
use Rattle.pico_base.specs.declared.numbers.Name.TheVariants.{Proc, Msg, Sem}
use Rattle.pico_base.specs.declared.reply.Reply.{Reply}
use Rattle.pico_base.specs.declared.reply.Reply.TheVariants as replies
use Rattle.pico_base.specs.declared.reply.Ending.{Ending}
use Rattle.pico_base.specs.declared.reply.Ending.TheVariants.{Exited, Killed}
use Rattle.pico_base.specs.declared.reply.Errno.{Errno}
use Rattle.pico_base.specs.declared.reply.Errno.TheVariants.{Esrch, Einval, Echild, Enoent, Eexist, Enomsg, Eagain, E2big, Efbig, Erange, Eidrm, Eintr}
use Rattle.pico_base.specs.declared.signal.Act.{Act}
use Rattle.pico_base.specs.declared.signal.Act.TheVariants.{Dfl, Ign, Catch}
use Rattle.pico_base.specs.declared.signal.How.{How}
use Rattle.pico_base.specs.declared.signal.How.TheVariants.{Block, Unblock, SetMask}
use Rattle.pico_base.specs.declared.signal.PerSignal.{PerSignal}
use Rattle.pico_base.specs.declared.signal.Sig.{Sig}
use Rattle.pico_base.specs.declared.signal.Sig.TheVariants.{Hup, Int, Quit, Kill, Usr1, Usr2, Pipe, Alrm, Term, Chld}
use Rattle.pico_base.specs.declared.signal.SigArg.{SigArg}
use Rattle.pico_base.specs.declared.signal.SigArg.TheVariants.{Zero, Is, Bad}
use Rattle.pico_base.specs.declared.script.Block.{Block as ScriptBlock}
use Rattle.pico_base.specs.declared.script.Script.{Script}
use Rattle.pico_base.specs.Signal.{at, all_signals}
use Rattle.kernel_model.specs.Fitting.{block_at}
use Rattle.kernel_model.specs.Numbers.{is_u16, is_u32, is_byte}
use Rattle.kernel_model.specs.Script.{IsSoundScript, is_name_byte, is_type, is_step_in_range, is_place}
use Rattle.kernel_model.specs.Texts.{is_plain, is_letter_or_digit, hex_digit, escape, quoted_text, is_repeated, message_text}
use Rattle.kernel_model.specs.Trace.{signal_name, signal_argument, action_name, how_name, error_name, signals_text, set_text, word, create_words, step_text, values_text, name_of_block, queue_words, call_text, ending_text, reply_text, own_text, wake_text}
use Rattle.text_fields.proofs.Numerals.{AreDigits, IsWithin, decimal-digits}
use Rattle.text_fields.proofs.Spelled.{IsStep}
use Rattle.trace_text.specs.Grammar.{is_call, is_reply, is_ending, is_text, is_own, is_wake}
use Rattle.trace_text.proofs.Ranges.{u32-bound, u16-bound, byte-bound, type-within, step-within, all-from}
use Rattle.trace_text.proofs.CallText.{name-at, name-bytes}

-- a byte that isn't a line feed
abbrev pub is_other : ℕ → Bool
is_other b = not (eqb b 10)

-- no byte is a line feed
abbrev pub IsFree : List ℕ → Type 0
IsFree bytes = list_all is_other bytes ≡ true

-- two texts without a line feed have none when joined
pub both : (xs ys : List ℕ) → IsFree xs → IsFree ys → IsFree (xs ++ ys)
both [] ys h k = k
both (x ∷ xs) ys h k =
    let p = and_parts (is_other x) (list_all is_other xs) h in
    and_from (is_other x) (list_all is_other (xs ++ ys)) p.0 (both xs ys p.1 k)

-- a byte that isn't a line feed may stand in front of a text that has none
pub behind : (b : ℕ) (xs : List ℕ) → is_other b ≡ true → IsFree xs → IsFree (b ∷ xs)
behind b xs h k = and_from (is_other b) (list_all is_other xs) h k

digit-other : (ds : List ℕ) → AreDigits ds → IsFree ds
digit-other [] h = refl
digit-other (d ∷ ds) h =
    let p = and_parts (leb 48 d && leb d 57) (all_ascii_digits ds) h in
    behind d ds (other d p.0) (digit-other ds p.1)
  where
    other : (d : ℕ) → (leb 48 d && leb d 57) ≡ true → is_other d ≡ true
    other d h = grind arith

-- a number's spelling has no line feed
pub number : (n : ℕ) → n ≤ 4294967295 → IsFree (decimal n)
number n small = digit-other (decimal n) (decimal-digits n small)

pub signed : (limit : ℕ) (z : ℤ) → limit ≤ 4294967295 → IsWithin limit z → IsFree (signed_decimal z)
signed limit (pos n) bound h = number n (omega (arith, bound, h))
signed limit (negsuc m) bound h = behind 45 (decimal (suc m)) refl (number (suc m) (omega (arith, bound, h)))

each : {A : Type 0} (text : A → List ℕ) (P : A → Type 0) → ((x : A) → P x → IsFree (text x)) → (xs : List A)
    → AllByRecursion P xs → IsFree (flat_map text xs)
each text P says [] h = refl
each text P says (x ∷ xs) h = both (text x) (flat_map text xs) (says x h.0) (each text P says xs h.1)

signal : (g : Sig) → IsFree (signal_name g)
signal Hup = refl
signal Int = refl
signal Quit = refl
signal Kill = refl
signal Usr1 = refl
signal Usr2 = refl
signal Pipe = refl
signal Alrm = refl
signal Term = refl
signal Chld = refl

argument : (g : SigArg) → IsFree (signal_argument g)
argument Zero = refl
argument (Is g) = signal g
argument Bad = refl

action : (a : Act) → IsFree (action_name a)
action Dfl = refl
action Ign = refl
action Catch = refl

how : (h : How) → IsFree (how_name h)
how Block = refl
how Unblock = refl
how SetMask = refl

error : (e : Errno) → IsFree (error_name e)
error Esrch = refl
error Einval = refl
error Echild = refl
error Enoent = refl
error Eexist = refl
error Enomsg = refl
error Eagain = refl
error E2big = refl
error Efbig = refl
error Erange = refl
error Eidrm = refl
error Eintr = refl

abbrev AnySignal : Sig → Type 0
AnySignal g = Unit {0}

any : (gs : List Sig) → AllByRecursion AnySignal gs
any [] = tt
any (g ∷ gs) = (tt, any gs)

signals : (gs : List Sig) → IsFree (signals_text gs)
signals [] = refl
signals (g ∷ gs) =
    both (signal_name g) (flat_map (λ y. 44 ∷ signal_name y) gs) (signal g)
    (each (λ y. 44 ∷ signal_name y) AnySignal (λ y _. behind 44 (signal_name y) refl (signal y)) gs (any gs))

set : (s : PerSignal Bool) → IsFree (set_text s)
unfolding set_text
set s = signals (filter (at s) all_signals)

flag : (b : Bool) (w : List ℕ) → IsFree w → IsFree (word b w)
flag true w h = behind 32 w refl h
flag false w h = refl

-- texts

hex-other : (d : ℕ) → is_other (hex_digit d) ≡ true
hex-other d = of (ltb d 10) refl
  where
    of : (c : Bool) → ltb d 10 ≡ c → is_other (hex_digit d) ≡ true
    of true e = rw e (grind arith)
    of false e = rw e (grind arith)

plain-other : (b : ℕ) → is_plain b ≡ true → is_other b ≡ true
plain-other b h = grind arith

letter-other : (b : ℕ) → is_letter_or_digit b ≡ true → is_other b ≡ true
letter-other b h = grind arith

escaped : (b : ℕ) → IsFree (escape b)
escaped b = of (is_plain b) refl
  where
    of : (c : Bool) → is_plain b ≡ c → IsFree (escape b)
    of true e = rw e (behind b [] (plain-other b e) refl)
    of false e = rw e (behind (hex_digit (b / 16)) (hex_digit (b % 16) ∷ []) (hex-other (b / 16))
        (behind (hex_digit (b % 16)) [] (hex-other (b % 16)) refl))

abbrev AnyByte : ℕ → Type 0
AnyByte b = Unit {0}

any-bytes : (bs : List ℕ) → AllByRecursion AnyByte bs
any-bytes [] = tt
any-bytes (b ∷ bs) = (tt, any-bytes bs)

quoted : (text : List ℕ) → IsFree (quoted_text text)
quoted text = behind 34 (flat_map escape text ++ 34 ∷ []) refl
    (both (flat_map escape text) (34 ∷ []) (each escape AnyByte (λ b _. escaped b) text (any-bytes text)) refl)

message : (text : List ℕ) → is_text text ≡ true → IsFree (message_text text)
message [] h = quoted []
message (b ∷ bs) h = of (is_repeated (b ∷ bs)) refl
  where
    of : (c : Bool) → is_repeated (b ∷ bs) ≡ c → IsFree (message_text (b ∷ bs))
    of true e =
        let p = and_parts (is_letter_or_digit b) (leb 16 (length bs) && list_all (eqb b) bs) e in
        let q = and_parts (list_all is_byte (b ∷ bs)) (not (is_repeated (b ∷ bs)) || leb (length (b ∷ bs)) 8192) h in
        let few : leb (length (b ∷ bs)) 8192 ≡ true = rw e at q.1 in
        let small : length (b ∷ bs) ≤ 8192 = leb-true (length (b ∷ bs)) 8192 few in
        rw e (both (codes "rep:" ++ decimal (length (b ∷ bs))) (58 ∷ b ∷ [])
        (both (codes "rep:") (decimal (length (b ∷ bs))) refl (number (length (b ∷ bs)) (omega (arith, small))))
        (behind 58 (b ∷ []) refl (behind b [] (letter-other b p.0) refl)))
    of false e = rw e (quoted (b ∷ bs))

step : (s : SemStep) → IsStep s → IsFree (step_text s)
step s h =
    let third : List ℕ = cond s.nowait (codes ":nowait") [] in
    let second : List ℕ = signed_decimal s.add ++ third in
    behind 32 (decimal s.num ++ 58 ∷ second) refl
    (both (decimal s.num) (58 ∷ second) (number s.num (omega (arith, h.num)))
    (behind 58 second refl
    (both (signed_decimal s.add) third (signed 65535 s.add (omega arith) h.add) (last s.nowait))))
  where
    last : (b : Bool) → IsFree (cond b (codes ":nowait") [])
    last true = refl
    last false = refl

values : (limit : ℕ) → limit ≤ 4294967295 → (vs : List ℕ) → AllByRecursion (λ n. n ≤ limit) vs → IsFree (values_text vs)
values limit bound [] h = refl
values limit bound (v ∷ vs) h =
    both (decimal v) (flat_map (λ n. 44 ∷ decimal n) vs) (number v (omega (arith, bound, h.0)))
    (each (λ n. 44 ∷ decimal n) (λ n. n ≤ limit)
    (λ n small. behind 44 (decimal n) refl (number n (omega (arith, bound, small)))) vs h.1)

name-other : (name : List ℕ) → list_all is_name_byte name ≡ true → IsFree name
name-other [] h = refl
name-other (b ∷ name) h =
    let p = and_parts (is_name_byte b) (list_all is_name_byte name) h in
    behind b name (other b p.0) (name-other name p.1)
  where
    other : (b : ℕ) → is_name_byte b ≡ true → is_other b ≡ true
    other b h = grind arith

block-name : (script : Script) (k : ℕ) → IsSoundScript script → IsFree (name_of_block (block_at script k))
block-name script k sound = of (block_at script k) refl
  where
    of : (o : Option ScriptBlock) → block_at script k ≡ o → IsFree (name_of_block (block_at script k))
    of None e = rw e refl
    of (Some block) e = rw e
        (name-other block.name (name-bytes block.name (name-at script.blocks (k - 1) block sound.names e)))

ending : (e : Ending) → is_ending e ≡ true → IsFree (ending_text e)
ending (Exited s) h = both (codes " exited ") (decimal s) refl (number s (omega (arith, byte-bound s h)))
ending (Killed g) h = both (codes " killed ") (signal_name g) refl (signal g)

-- the text of a reply in the grammar has no line feed
pub reply : (r : Reply) → is_reply r ≡ true → IsFree (reply_text r)
reply (replies.Num n) h = number n (u32-bound n h)
reply (replies.Child pid e) h =
    let p = and_parts (is_u32 pid) (is_ending e) h in
    both (decimal pid) (ending_text e) (number pid (u32-bound pid p.0)) (ending e p.1)
reply (replies.Message class text) h =
    let p = and_parts (is_type class) (is_text text) h in
    both (signed_decimal class) (32 ∷ message_text text) (signed 2147483647 class (omega arith) (type-within class p.0))
    (behind 32 (message_text text) refl (message text p.1))
reply (replies.Bits s) h = set s
reply (replies.Stat a b c d) h =
    let p = and_parts (is_u32 a) (is_u32 b && (is_u32 c && is_u32 d)) h in
    let q = and_parts (is_u32 b) (is_u32 c && is_u32 d) p.1 in
    let r = and_parts (is_u32 c) (is_u32 d) q.1 in
    both (codes "qnum " ++ decimal a ++ (codes " qbytes " ++ decimal b) ++ (codes " lspid " ++ decimal c))
    (codes " lrpid " ++ decimal d)
    (both (codes "qnum " ++ decimal a ++ (codes " qbytes " ++ decimal b)) (codes " lspid " ++ decimal c)
    (both (codes "qnum " ++ decimal a) (codes " qbytes " ++ decimal b)
    (both (codes "qnum ") (decimal a) refl (number a (u32-bound a p.0)))
    (both (codes " qbytes ") (decimal b) refl (number b (u32-bound b q.0))))
    (both (codes " lspid ") (decimal c) refl (number c (u32-bound c r.0))))
    (both (codes " lrpid ") (decimal d) refl (number d (u32-bound d r.1)))
reply (replies.All vs) h =
    let p = and_parts (leb 1 (length vs)) (list_all is_u32 vs) h in
    both (codes "all ") (values_text vs) refl
    (values 4294967295 (omega arith) vs (all-from is_u32 (λ n. n ≤ 4294967295) u32-bound vs p.1))
reply replies.Ended h = refl
reply (replies.Fail e) h = error e

-- calls

named : (name : List ℕ) (n : ℕ) → IsFree name → n ≤ 4294967295 → IsFree (name ++ decimal n)
named name n h small = both name (decimal n) h (number n small)

queue : (name : List ℕ) (id : ℕ) (class : ℤ) → IsFree name → is_u32 id ≡ true → is_type class ≡ true
    → IsFree (name ++ decimal id ++ 32 ∷ (signed_decimal class ++ 32 ∷ []))
queue name id class h i t =
    both (name ++ decimal id) (32 ∷ (signed_decimal class ++ 32 ∷ [])) (named name id h (u32-bound id i))
    (behind 32 (signed_decimal class ++ 32 ∷ []) refl
    (both (signed_decimal class) (32 ∷ []) (signed 2147483647 class (omega arith) (type-within class t)) refl))

options : (c e : Bool) → IsFree (create_words c e)
options c e = both (word c (codes "create")) (word e (codes "excl")) (flag c (codes "create") refl)
    (flag e (codes "excl") refl)

semaphore : (id num : ℕ) (command : List ℕ) → IsFree command → is_place id num ≡ true
    → IsFree (codes "semctl " ++ decimal id ++ command ++ decimal num)
semaphore id num command c h =
    let p = and_parts (is_u32 id) (is_u16 num) h in
    both (codes "semctl " ++ decimal id ++ command) (decimal num)
    (both (codes "semctl " ++ decimal id) command (named (codes "semctl ") id refl (u32-bound id p.0)) c)
    (number num (omega (arith, u16-bound num p.1)))

on : (name : List ℕ) (id : ℕ) (command : List ℕ) → IsFree name → is_u32 id ≡ true → IsFree command
    → IsFree (name ++ decimal id ++ command)
on name id command n h c = both (name ++ decimal id) command (named name id n (u32-bound id h)) c

-- the text of a call in the grammar has no line feed
pub call : (script : Script) (c : Call) → IsSoundScript script → is_call script c ≡ true → IsFree (call_text script c)
call script (calls.Fork k) sound h =
    both (codes "fork ") (name_of_block (block_at script k)) refl (block-name script k sound)
call script (calls.Exit n) sound h = named (codes "exit ") n refl (omega (arith, u16-bound n h))
call script (calls.Killed g) sound h = both (codes "killed ") (signal_name g) refl (signal g)
call script calls.GetPid sound h = refl
call script (calls.Kill pid g) sound h =
    both (codes "kill " ++ decimal pid) (32 ∷ signal_argument g) (named (codes "kill ") pid refl (u32-bound pid h))
    (behind 32 (signal_argument g) refl (argument g))
call script (calls.SigAction g a) sound h =
    both (codes "sigaction " ++ signal_argument g) (32 ∷ action_name a)
    (both (codes "sigaction ") (signal_argument g) refl (argument g)) (behind 32 (action_name a) refl (action a))
call script (calls.SigProcMask way s) sound h =
    both (codes "sigprocmask " ++ how_name way ++ 32 ∷ []) (set_text s)
    (both (codes "sigprocmask " ++ how_name way) (32 ∷ [])
    (both (codes "sigprocmask ") (how_name way) refl (how way)) refl) (set s)
call script calls.SigPending sound h = refl
call script (calls.Handled g) sound h = both (codes "handled ") (signal_name g) refl (signal g)
call script (calls.WaitPid None b) sound h =
    both (codes "waitpid any") (word b (codes "nohang")) refl (flag b (codes "nohang") refl)
call script (calls.WaitPid (Some pid) b) sound h =
    both (codes "waitpid " ++ decimal pid) (word b (codes "nohang"))
    (named (codes "waitpid ") pid refl (u32-bound pid h)) (flag b (codes "nohang") refl)
call script (calls.MsgGet None c e) sound h = refl
call script (calls.MsgGet (Some key) c e) sound h =
    let p = and_parts (ltb 0 key) (is_u32 key) h in
    both (codes "msgget " ++ decimal key) (create_words c e) (named (codes "msgget ") key refl (u32-bound key p.1))
    (options c e)
call script (calls.MsgSnd id class text b) sound h =
    let p = and_parts (is_u32 id) (is_type class && is_text text) h in
    let q = and_parts (is_type class) (is_text text) p.1 in
    let front : List ℕ = queue_words (codes "msgsnd ") id class in
    both (front ++ message_text text) (word b (codes "nowait"))
    (both front (message_text text) (queue (codes "msgsnd ") id class refl p.0 q.0) (message text q.1))
    (flag b (codes "nowait") refl)
call script (calls.MsgRcv id class size a b) sound h =
    let p = and_parts (is_u32 id) (is_type class && is_u16 size) h in
    let q = and_parts (is_type class) (is_u16 size) p.1 in
    let front : List ℕ = queue_words (codes "msgrcv ") id class in
    both (front ++ decimal size ++ word a (codes "noerror")) (word b (codes "nowait"))
    (both (front ++ decimal size) (word a (codes "noerror"))
    (both front (decimal size) (queue (codes "msgrcv ") id class refl p.0 q.0)
    (number size (omega (arith, u16-bound size q.1)))) (flag a (codes "noerror") refl))
    (flag b (codes "nowait") refl)
call script (calls.MsgStat id) sound h = on (codes "msgctl ") id (codes " stat") refl h refl
call script (calls.MsgSet id qbytes) sound h =
    let p = and_parts (is_u32 id) (is_u16 qbytes) h in
    both (codes "msgctl " ++ decimal id ++ codes " set ") (decimal qbytes)
    (on (codes "msgctl ") id (codes " set ") refl p.0 refl) (number qbytes (omega (arith, u16-bound qbytes p.1)))
call script (calls.MsgRmid id) sound h = on (codes "msgctl ") id (codes " rmid") refl h refl
call script (calls.SemGet None n c e) sound h =
    let p = and_parts (not c && not e) (is_u16 n) h in
    named (codes "semget private ") n refl (omega (arith, u16-bound n p.1))
call script (calls.SemGet (Some key) n c e) sound h =
    let p = and_parts (ltb 0 key && is_u32 key) (is_u16 n) h in
    let q = and_parts (ltb 0 key) (is_u32 key) p.0 in
    both (codes "semget " ++ decimal key ++ (codes " " ++ decimal n)) (create_words c e)
    (both (codes "semget " ++ decimal key) (codes " " ++ decimal n)
    (named (codes "semget ") key refl (u32-bound key q.1))
    (named (codes " ") n refl (omega (arith, u16-bound n p.1))))
    (options c e)
call script (calls.SemOp id steps) sound h =
    let p = and_parts (is_u32 id) (leb 1 (length steps) && list_all is_step_in_range steps) h in
    let q = and_parts (leb 1 (length steps)) (list_all is_step_in_range steps) p.1 in
    both (codes "semop " ++ decimal id) (flat_map step_text steps) (named (codes "semop ") id refl (u32-bound id p.0))
    (each step_text IsStep step steps (all-from is_step_in_range IsStep step-within steps q.1))
call script (calls.SemGetVal id num) sound h = semaphore id num (codes " getval ") refl h
call script (calls.SemGetPid id num) sound h = semaphore id num (codes " getpid ") refl h
call script (calls.SemGetNcnt id num) sound h = semaphore id num (codes " getncnt ") refl h
call script (calls.SemGetZcnt id num) sound h = semaphore id num (codes " getzcnt ") refl h
call script (calls.SemSetVal id num value) sound h =
    let p = and_parts (is_place id num) (is_u16 value) h in
    both (codes "semctl " ++ decimal id ++ codes " setval " ++ decimal num) (32 ∷ decimal value)
    (semaphore id num (codes " setval ") refl p.0)
    (behind 32 (decimal value) refl (number value (omega (arith, u16-bound value p.1))))
call script (calls.SemGetAll id) sound h = on (codes "semctl ") id (codes " getall") refl h refl
call script (calls.SemSetAll id vs) sound h =
    let p = and_parts (is_u32 id) (leb 1 (length vs) && list_all is_u16 vs) h in
    let q = and_parts (leb 1 (length vs)) (list_all is_u16 vs) p.1 in
    both (codes "semctl " ++ decimal id ++ codes " setall ") (values_text vs)
    (on (codes "semctl ") id (codes " setall ") refl p.0 refl)
    (values 65535 (omega arith) vs (all-from is_u16 (λ n. n ≤ 65535) u16-bound vs q.1))
call script (calls.SemRmid id) sound h = on (codes "semctl ") id (codes " rmid") refl h refl
call script (calls.Withdraw (Proc pid)) sound h = named (codes "withdraw proc ") pid refl (u32-bound pid h)
call script (calls.Withdraw (Msg id)) sound h = named (codes "withdraw msg ") id refl (u32-bound id h)
call script (calls.Withdraw (Sem id)) sound h = named (codes "withdraw sem ") id refl (u32-bound id h)

-- what a call came to

-- the caller's own reply, or none, has no line feed
pub own : (o : Option Reply) → is_own o ≡ true → IsFree (own_text o)
own None h = refl
own (Some r) h = reply r h

wake : (w : ℕ × Reply) → is_wake w ≡ true → IsFree (wake_text w)
wake w h =
    let p = and_parts (is_u32 w.0) (is_reply w.1) h in
    both (codes " wakes " ++ decimal w.0) (32 ∷ reply_text w.1) (named (codes " wakes ") w.0 refl (u32-bound w.0 p.0))
    (behind 32 (reply_text w.1) refl (reply w.1 p.1))

-- nor have those who are woken
pub wakes : (ws : List (ℕ × Reply)) → list_all is_wake ws ≡ true → IsFree (flat_map wake_text ws)
wakes ws h =
    each wake_text (λ w. is_wake w ≡ true) wake ws (all-from is_wake (λ w. is_wake w ≡ true) (λ w k. k) ws h)
