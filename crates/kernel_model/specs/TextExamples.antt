-- Worked examples of texts, of ranges and of places in a script, computed by the checker.
use Rattle.std.specs.Prelude.{◌≡◌, ℕ, pos, true, false, [], ◌∷◌, map, Some, None, refl, codes, replicate}
use Rattle.std.specs.List.{flat_map}
use Rattle.std.specs.Fmt.{digits}
use Rattle.pico_base.specs.declared.call.Call.TheVariants as calls
use Rattle.pico_base.specs.declared.reply.Reply.TheVariants as replies
use Rattle.pico_base.specs.declared.reply.Errno.TheVariants.{Eagain}
use Rattle.pico_base.specs.declared.reply.Entry.{Entry}
use Rattle.pico_base.specs.declared.script.Script.{Script}
use Rattle.pico_base.specs.ErrorNumber.{all_errors}
use Rattle.kernel_model.specs.Texts.{message_text, has_spelling}
use Rattle.kernel_model.specs.Script.{is_in_range}
use Rattle.kernel_model.specs.Fitting.{Place, child_vars, place_after}
use Rattle.kernel_model.specs.Trace.{error_name, entry_line, totals_line, entries_total, processes_total, not_ready_total, refused_total}

-- sixteen equal letters are quoted, and seventeen counted
pub quotes_sixteen : message_text (replicate 16 97) ≡ codes "\"aaaaaaaaaaaaaaaa\""
quotes_sixteen = refl

pub counts_seventeen : message_text (replicate 17 97) ≡ codes "rep:17:a"
unfolding digits
counts_seventeen = refl

pub escapes_bytes : message_text (0 ∷ 34 ∷ 92 ∷ 255 ∷ 126 ∷ 32 ∷ []) ≡ codes "\"\\x00\\x22\\x5c\\xff~ \""
escapes_bytes = refl

pub names_errors : map error_name all_errors
    ≡ codes "ESRCH" ∷ codes "EINVAL" ∷ codes "ECHILD" ∷ codes "ENOENT" ∷ codes "EEXIST" ∷ codes "ENOMSG"
    ∷ codes "EAGAIN"
    ∷ codes "E2BIG" ∷ codes "EFBIG" ∷ codes "ERANGE" ∷ codes "EIDRM" ∷ codes "EINTR" ∷ []
names_errors = refl

-- no script can write these
pub exit_is_too_high : is_in_range (calls.Exit 70000) ≡ false
exit_is_too_high = refl

pub type_is_too_high : is_in_range (calls.MsgSnd 1 (pos 2147483648) [] true) ≡ false
type_is_too_high = refl

pub key_is_too_high : is_in_range (calls.MsgGet (Some 8589934592) true false) ≡ false
key_is_too_high = refl

pub text_is_too_long : has_spelling (flat_map (λ (n : ℕ). codes "ab") (replicate 2500 0)) ≡ false
text_is_too_long = refl

pub counted_text_is_long : has_spelling (replicate 8192 98) ≡ true
counted_text_is_long = refl

pub counted_text_is_too_long : has_spelling (replicate 8193 98) ≡ false
counted_text_is_too_long = refl

-- `c = fork child` at a place where the variable `a` is 7 and `c` is 5
abbrev pub at_a_fork : Place
at_a_fork =
    record {
      left = record { set = Some 222; tries = 1; from = None; call = calls.Fork 2 } ∷ [];
      tried = 0;
      vars = (0, 7) ∷ (222, 5) ∷ [];
    }

-- the child has `a` as it was, and `c` at 0; its parent goes on with the child's number in `c`
pub child_has_the_variables : child_vars at_a_fork ≡ (0, 7) ∷ (222, 0) ∷ []
child_has_the_variables = refl

pub parent_has_the_number : (place_after at_a_fork (calls.Fork 2) (Some (replies.Num 9))).vars ≡ (0, 7) ∷ (222, 9) ∷ []
parent_has_the_number = refl

-- a call that waits has no reply yet, and stays where it is
pub waiting_call_stays : place_after at_a_fork (calls.Fork 2) None ≡ at_a_fork
waiting_call_stays = refl

-- Calls that wait: the second entry wakes the caller of the first. Its own reply counts, and that of the woken caller.
abbrev pub no_blocks : Script
no_blocks = record { blocks = [] }

abbrev pub parked_receive : Entry
parked_receive = record {
  pid = 1;
  call = calls.MsgRcv 1 (pos 0) 8 false false;
  outcome =
      record { own = None; woken = [] };
  by = 1;
}

abbrev pub waking_send : Entry
waking_send =
    record {
      pid = 2;
      call = calls.MsgSnd 1 (pos 1) (codes "hi") false;
      outcome = record {
        own = Some (replies.Num 0);
        woken =
            (1, replies.Message (pos 1) (codes "hi")) ∷ (3, replies.Fail Eagain) ∷ [];
      };
      by = 1;
    }

pub parks_a_call : entry_line no_blocks parked_receive ≡ codes "1 msgrcv 1 0 8 = parked by 1\n"
unfolding digits
parks_a_call = refl

pub wakes_callers : entry_line no_blocks waking_send
    ≡ codes "2 msgsnd 1 1 \"hi\" = 0 by 1 wakes 1 1 \"hi\" wakes 3 EAGAIN\n"
unfolding digits
wakes_callers = refl

pub counts_woken_replies : totals_line (parked_receive ∷ waking_send ∷ [])
    ≡ codes "totals entries 2 processes 1 notready 1 refused 0\n"
unfolding digits entries_total processes_total not_ready_total refused_total
counts_woken_replies = refl
