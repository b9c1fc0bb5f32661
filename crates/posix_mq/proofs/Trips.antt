-- A given script is read back from the script of System V that runs it and what is kept of its calls.
use Rattle.std.proofs.Common.{◌≡◌, ◌∙◌, ℕ, ℤ, pos, negsuc, Bool, true, false, not, ◌&&◌, List, [], ◌∷◌, map, Some, None, refl, ap}
use Rattle.std.specs.List.{list_all}
use Rattle.std.specs.Ordering.{int_eq}
use Rattle.std.proofs.lemmas.Bool.Decides.{Decides-int_eq}
use Rattle.pico_base.specs.declared.call.Call.{Call}
use Rattle.pico_base.specs.declared.call.Call.TheVariants as calls
use Rattle.pico_base.specs.declared.script.Line.{Line}
use Rattle.pico_base.specs.declared.script.Block.{Block}
use Rattle.pico_base.specs.declared.script.Script.{Script}
use Rattle.kernel_model.specs.Numbers.{is_u16}
use Rattle.mq_model.specs.declared.lines.MqLine.{MqLine}
use Rattle.mq_model.specs.Given.{is_given_call, is_given_line, is_given_block, IsGiven}
use Rattle.mq_model.specs.Lines.{line_given, lines_given, block_given, blocks_given, script_given}
use Rattle.mq_model.specs.SystemV.{system_v_line, system_v_block, system_v}
use Rattle.posix_mq.specs.Given.{given_call, given_line, given_lines, given_in}

both : (a b : Bool) → (a && b) ≡ true → (a ≡ true) × (b ≡ true)
both true b h = (refl, h)
both false b h = absurd (cc)

is_not : (b : Bool) → not b ≡ true → b ≡ false
is_not true h = absurd (cc)
is_not false h = refl

is_zero : (class : ℤ) → int_eq class (pos 0) ≡ true → class ≡ pos 0
is_zero class h = (Decides-int_eq class (pos 0)).0 h

module _ (line : Line) where
  abbrev making : Call → Line
  making call = record line { call = call }

  Reads : Call → Type 0
  Reads call = line_given (system_v_line (making call)) line.from (given_call call) ≡ making call

  sent : (id : ℕ) (class : ℤ) (text : List ℕ) (nowait : Bool) → is_given_call (calls.MsgSnd id class text nowait) ≡ true
      → Reads (calls.MsgSnd id class text nowait)
  unfolding Reads
  sent id (negsuc n) text nowait h = absurd (cc)
  sent id (pos priority) text true h = absurd (no (both (is_u16 priority) false h).1)
    where
      no : false ≡ true → ⊥
      no e = absurd (cc)
  sent id (pos priority) text false h = rw ((both (is_u16 priority) true h).0) refl

  received : (id : ℕ) (class : ℤ) (size : ℕ) (noerror nowait : Bool)
      → is_given_call (calls.MsgRcv id class size noerror nowait) ≡ true
      → Reads (calls.MsgRcv id class size noerror nowait)
  unfolding Reads
  received id class size noerror nowait h =
      let parts = both (int_eq class (pos 0)) (is_u16 size && (not noerror && not nowait)) h in
      let more = both (is_u16 size) (not noerror && not nowait) parts.1 in
      let flags = both (not noerror) (not nowait) more.1 in
      let any : class ≡ pos 0 = is_zero class parts.0 in
      let full : noerror ≡ false = is_not noerror flags.0 in
      let waits : nowait ≡ false = is_not nowait flags.1 in
      rw (any, full, waits, more.0) refl

  -- a given call is read back
  read-call : (call : Call) → is_given_call call ≡ true → Reads call
  unfolding Reads
  read-call (calls.MsgSnd id class text nowait) h = sent id class text nowait h
  read-call (calls.MsgRcv id class size noerror nowait) h = received id class size noerror nowait h
  read-call (calls.MsgGet None create excl) h = refl
  read-call (calls.MsgGet (Some name) create excl) h = refl
  read-call (calls.MsgStat id) h = refl
  read-call (calls.MsgSet id qbytes) h = refl
  read-call (calls.MsgRmid id) h = refl
  read-call (calls.Fork block) h = refl
  read-call (calls.Exit status) h = refl
  read-call (calls.Killed sig) h = refl
  read-call calls.GetPid h = refl
  read-call (calls.Kill pid sig) h = refl
  read-call (calls.SigAction sig act) h = refl
  read-call (calls.SigProcMask how set) h = refl
  read-call calls.SigPending h = refl
  read-call (calls.Handled sig) h = refl
  read-call (calls.WaitPid child nohang) h = refl
  read-call (calls.SemGet key count create excl) h = refl
  read-call (calls.SemOp id steps) h = refl
  read-call (calls.SemGetVal id num) h = refl
  read-call (calls.SemGetPid id num) h = refl
  read-call (calls.SemGetNcnt id num) h = refl
  read-call (calls.SemGetZcnt id num) h = refl
  read-call (calls.SemSetVal id num value) h = refl
  read-call (calls.SemGetAll id) h = refl
  read-call (calls.SemSetAll id values) h = refl
  read-call (calls.SemRmid id) h = refl
  read-call (calls.Withdraw name) h = refl

one-more : {X : Type 0} (x y : X) (xs ys : List X) → x ≡ y → xs ≡ ys → x ∷ xs ≡ y ∷ ys
one-more {X} x y xs ys first rest = ap (λ (z : X). z ∷ xs) first ∙ ap (λ (zs : List X). y ∷ zs) rest

read-lines : (ls : List Line) → list_all is_given_line ls ≡ true
    → lines_given (map system_v_line ls) (map given_line ls) ≡ ls
unfolding Reads
read-lines [] h = refl
read-lines (line ∷ ls) h =
    let parts = both (is_given_line line) (list_all is_given_line ls) h in
    one-more (line_given (system_v_line line) line.from (given_call line.call)) line
    (lines_given (map system_v_line ls) (map given_line ls)) ls
    (read-call line line.call parts.0) (read-lines ls parts.1)

read-blocks : (bs : List Block) → list_all is_given_block bs ≡ true
    → blocks_given (map system_v_block bs) (map given_lines bs) ≡ bs
read-blocks [] h = refl
read-blocks (b ∷ bs) h =
    let parts = both (is_given_block b) (list_all is_given_block bs) h in
    one-more (block_given (system_v_block b) (given_lines b)) b
    (blocks_given (map system_v_block bs) (map given_lines bs)) bs
    (ap (λ (ls : List Line). record b { lines = ls }) (read-lines b.lines parts.0)) (read-blocks bs parts.1)

-- what is kept of a given script gives it back
pub given-back : (given : Script) → IsGiven given → script_given (system_v given) (given_in given) ≡ given
given-back given h = ap (λ (bs : List Block). record given { blocks = bs }) (read-blocks given.blocks h)

-- as the code has it
pub kept-given : (given script : Script) (lines : List (List MqLine)) → script ≡ system_v given → lines ≡ given_in given
    → IsGiven given → script_given script lines ≡ given
kept-given given script lines is kept h = rw (is, kept) (given-back given h)
