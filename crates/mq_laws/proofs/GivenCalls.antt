-- The calls of a given script, beside those that are carried out in their place.
use Rattle.std.proofs.Common.{◌≡◌, ℕ, ◌≤◌, pos, negsuc, Bool, true, false, not, ◌&&◌, List, length, Option, Some, None, refl, ap, sym, arith, le-leb, ltb-false}
use Rattle.std.specs.Prelude.{if◌then◌else◌, nat_lt, nat_le}
use Rattle.std.specs.Ordering.{int_eq}
use Rattle.std.proofs.lemmas.Bool.{true≢false, and_parts, and_from}
use Rattle.std.proofs.lemmas.Bool.Decides.{Decides-int_eq}
use Rattle.pico_base.specs.declared.call.Call.{Call}
use Rattle.pico_base.specs.declared.call.Call.TheVariants as calls
use Rattle.pico_base.specs.declared.reply.Errno.TheVariants.{Einval}
use Rattle.kernel_model.specs.Numbers.{is_u16}
use Rattle.kernel_model.specs.Script.{Vars, call_from}
use Rattle.waiting_model.specs.Calls.{withdrawn_from}
use Rattle.mq_model.specs.declared.errno.MqErrno.TheVariants.{Base, Emsgsize}
use Rattle.mq_model.specs.Calls.{Send}
use Rattle.mq_model.specs.Fitting.{written_call}
use Rattle.mq_model.specs.Given.{is_given_call}
use Rattle.mq_model.specs.SystemV.{refusal_of, refusal_of_send, carried_out, system_v_call, given_call, shown_call, turned}
use Rattle.mq_laws.specs.Together.{is_carried_out}

unset : (b : Bool) → not b ≡ true → b ≡ false
unset false h = refl
unset true h = absurd (true≢false (sym h))

-- written again, a given call is itself
pub written-again : (given : Call) → is_given_call given ≡ true → written_call (given_call given) ≡ given
written-again (calls.MsgGet None create excl) is = absurd (true≢false (sym is))
written-again (calls.MsgGet (Some key) create excl) is = refl
written-again (calls.MsgSnd id (pos p) text nowait) is =
    ap (λ (b : Bool). calls.MsgSnd id (pos p) text b) (sym (unset nowait (and_parts (is_u16 p) (not nowait) is).1))
written-again (calls.MsgSnd id (negsuc p) text nowait) is = absurd (true≢false (sym is))
written-again (calls.MsgRcv id class size noerror nowait) is =
    let parts = and_parts (int_eq class (pos 0)) (is_u16 size && (not noerror && not nowait)) is
    in let more = and_parts (is_u16 size) (not noerror && not nowait) parts.1
    in let last = and_parts (not noerror) (not nowait) more.1
    in rw ((Decides-int_eq class (pos 0)).0 parts.0, unset noerror last.0, unset nowait last.1) refl
written-again (calls.MsgSet id qbytes) is = absurd (true≢false (sym is))
written-again (calls.MsgRmid id) is = absurd (true≢false (sym is))
written-again given is = refl

-- What isn't refused is within its bounds.

pub record Accepts (p : ℕ) (text : List ℕ) : Type 0 where
  pub priority : p ≤ 31
  pub short : length text ≤ 16

accepted-by : (p : ℕ) (text : List ℕ) (b c : Bool) → nat_lt 31 p ≡ b → nat_lt 16 (length text) ≡ c
    → (if b then Some (Base Einval) else if c then Some Emsgsize else None) ≡ None → Accepts p text
accepted-by p text true c is also h = absurd (cc)
accepted-by p text false true is also h = absurd (cc)
accepted-by p text false false is also h =
    record { priority = ltb-false 31 p is; short = ltb-false 16 (length text) also }

accepts : (p : ℕ) (text : List ℕ) → refusal_of_send (pos p) text ≡ None → Accepts p text
accepts p text h = accepted-by p text (nat_lt 31 p) (nat_lt 16 (length text)) refl refl h

roomy-by : (size : ℕ) (b : Bool) → nat_lt size 16 ≡ b → (if b then Some Emsgsize else None) ≡ None → 16 ≤ size
roomy-by size true is h = absurd (cc)
roomy-by size false is h = ltb-false size 16 is

-- what stands in the place of a given call that isn't refused is one that is carried out
pub carried : (given : Call) → is_given_call given ≡ true → refusal_of given ≡ None
    → is_carried_out (carried_out given) ≡ true
carried (calls.MsgGet key create excl) is kept = is
carried (calls.MsgSnd id (pos p) text nowait) is kept =
    let a : Accepts p text = accepts p text kept
    in let priority : p ≤ 31 = a.priority
    in and_from (nat_le 1 (turned p) && nat_le (turned p) 32) (nat_le (length text) 16 && true)
    (and_from (nat_le 1 (turned p)) (nat_le (turned p) 32) (le-leb 1 (turned p) (omega (arith, priority)))
    (le-leb (turned p) 32 (omega (arith, priority))))
    (and_from (nat_le (length text) 16) true (le-leb (length text) 16 a.short) refl)
carried (calls.MsgSnd id (negsuc p) text nowait) is kept = absurd (true≢false (sym is))
carried (calls.MsgRcv id class size noerror nowait) is kept =
    and_from (nat_le 16 size) true (le-leb 16 size (roomy-by size (nat_lt size 16) refl kept)) refl
carried (calls.MsgSet id qbytes) is kept = absurd (true≢false (sym is))
carried (calls.MsgRmid id) is kept = absurd (true≢false (sym is))
carried given is kept = is

-- and it is shown as the given one
pub shown-given : (given : Call) → is_given_call given ≡ true → refusal_of given ≡ None
    → shown_call (carried_out given) ≡ given_call given
shown-given (calls.MsgSnd id (pos p) text nowait) is kept =
    let priority : p ≤ 31 = (accepts p text kept).priority
    in let same : turned (turned p) ≡ p = omega (arith, priority)
    in ap (λ (n : ℕ). Send id n text) same
shown-given (calls.MsgSnd id (negsuc p) text nowait) is kept = absurd (true≢false (sym is))
shown-given given is kept = refl

-- a call that stands for one that is no withdrawal is none
pub no-withdrawal : (given : Call) → withdrawn_from (system_v_call given) ≡ None → withdrawn_from given ≡ None
no-withdrawal (calls.Withdraw name) h = h
no-withdrawal given h = refl

-- a variable's number makes no difference
pub given-from : (call : Call) (vars : Vars) (from : Option ℕ)
    → is_given_call (call_from call vars from) ≡ is_given_call call
given-from (calls.WaitPid (Some child) nohang) vars (Some v) = refl
given-from (calls.WaitPid None nohang) vars (Some v) = refl
given-from call vars None = refl
given-from call vars (Some v) = refl
