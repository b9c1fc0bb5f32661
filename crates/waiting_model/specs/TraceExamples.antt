-- Worked examples of whole histories in which callers wait: legal, fitting, and as a trace.
use Rattle.std.specs.Prelude.{◌≡◌, ℕ, pos, false, List, [], ◌∷◌, ◌++◌, Option, Some, None, refl, codes}
use Rattle.std.specs.Fmt.{digits}
use Rattle.std.proofs.Common.{inl, inr}
use Rattle.pico_base.specs.declared.call.Call.{Call}
use Rattle.pico_base.specs.declared.call.Call.TheVariants as calls
use Rattle.pico_base.specs.declared.numbers.Name.TheVariants.{Proc, Msg, Sem}
use Rattle.pico_base.specs.declared.reply.Entry.{Entry}
use Rattle.pico_base.specs.declared.reply.Errno.TheVariants.{Eagain, Eidrm, Eintr}
use Rattle.pico_base.specs.declared.reply.Reply.{Reply}
use Rattle.pico_base.specs.declared.reply.Reply.TheVariants.{Num, Message, Ended, Fail}
use Rattle.pico_base.specs.declared.script.Script.{Script}
use Rattle.kernel_model.specs.Trace.{entry_line, totals_line, trace_text, entries_total, processes_total, not_ready_total, refused_total}
use Rattle.waiting_model.specs.History.{IsLegal}
use Rattle.waiting_model.specs.Fitting.{FitsWhole}

abbrev pub entry : ℕ → Call → Option Reply → List (ℕ × Reply) → Entry
entry pid call own woken =
    record { pid = pid; call = call; outcome = record { own = own; woken = woken }; by = 1 }

-- `q = msgget private`, `fork child`, `msgrcv $q 0 8`; the child makes `msgsnd $q 1 "hi"`. The variable q has index
-- 1776
abbrev pub two_blocks : Script
two_blocks =
    record {
      blocks = record {
        name = codes "main";
        lines =
            record { set = Some 1776; tries = 1; from = None; call = calls.MsgGet None false false }
            ∷ record { set = None; tries = 1; from = None; call = calls.Fork 2 }
            ∷ record { set = None; tries = 1; from = Some 1776; call = calls.MsgRcv 0 (pos 0) 8 false false }
            ∷ [];
      }
          ∷ record {
            name = codes "child";
            lines =
                record { set = None; tries = 1; from = Some 1776; call = calls.MsgSnd 0 (pos 1) (codes "hi") false }
                ∷ [];
          }
          ∷ [];
    }

-- the receive parks, the child's send wakes it, and both go on to their ends
abbrev pub woken_history : List Entry
woken_history =
    entry 1 (calls.MsgGet None false false) (Some (Num 1)) []
    ∷ entry 1 (calls.Fork 2) (Some (Num 2)) []
    ∷ entry 1 (calls.MsgRcv 1 (pos 0) 8 false false) None []
    ∷ entry 2 (calls.MsgSnd 1 (pos 1) (codes "hi") false) (Some (Num 0))
    ((1, Message (pos 1) (codes "hi")) ∷ [])
    ∷ entry 1 (calls.Exit 0) (Some Ended) []
    ∷ entry 2 (calls.Exit 0) (Some Ended) []
    ∷ []

pub woken_is_legal : IsLegal woken_history
woken_is_legal =
    record {
      last = _;
      replays = record {
        next = _;
        step = refl;
        rest = record {
          next = _;
          step = refl;
          rest = record {
            next = _;
            step = refl;
            rest = record {
              next = _;
              step = refl;
              rest = record {
                next = _;
                step = refl;
                rest = record { next = _; step = refl; rest = refl };
              };
            };
          };
        };
      };
    }

pub woken_fits : FitsWhole two_blocks woken_history
woken_fits =
    record {
      last = _;
      fits = record {
        progress = _;
        there = refl;
        next = (refl, inl refl);
        rest = record {
          progress = _;
          there = refl;
          next = (refl, inl refl);
          rest = record {
            progress = _;
            there = refl;
            next = (refl, inl refl);
            rest = record {
              progress = _;
              there = refl;
              next = (refl, inl refl);
              rest = record {
                progress = _;
                there = refl;
                next = (refl, inl refl);
                rest = record { progress = _; there = refl; next = (refl, inl refl); rest = refl };
              };
            };
          };
        };
      };
      over = (inl refl, (inl refl, tt));
    }

pub woken_trace : trace_text two_blocks woken_history ≡
    codes "1 msgget private = 1 by 1\n1 fork child = 2 by 1\n1 msgrcv 1 0 8 = parked by 1\n"
    ++ codes "2 msgsnd 1 1 \"hi\" = 0 by 1 wakes 1 1 \"hi\"\n1 exit 0 = ended by 1\n2 exit 0 = ended by 1\n"
    ++ codes "totals entries 6 processes 2 notready 0 refused 0\n"
unfolding digits entries_total processes_total not_ready_total refused_total
woken_trace = refl

-- one block that receives from its queue, in which nothing ever is: the history ends with a call that waits
abbrev pub one_block : Script
one_block =
    record {
      blocks = record {
        name = codes "main";
        lines =
            record { set = Some 1776; tries = 1; from = None; call = calls.MsgGet None false false }
            ∷ record { set = None; tries = 1; from = Some 1776; call = calls.MsgRcv 0 (pos 0) 8 false false }
            ∷ [];
      }
          ∷ [];
    }

abbrev pub stalled_history : List Entry
stalled_history =
    entry 1 (calls.MsgGet None false false) (Some (Num 1)) []
    ∷ entry 1 (calls.MsgRcv 1 (pos 0) 8 false false) None []
    ∷ []

pub stalled_fits : FitsWhole one_block stalled_history
stalled_fits =
    record {
      last = _;
      fits = record {
        progress = _;
        there = refl;
        next = (refl, inl refl);
        rest = record { progress = _; there = refl; next = (refl, inl refl); rest = refl };
      };
      over = (inr refl, tt);
    }

pub stalled_trace : trace_text one_block stalled_history ≡
    codes "1 msgget private = 1 by 1\n1 msgrcv 1 0 8 = parked by 1\n"
    ++ codes "totals entries 2 processes 1 notready 0 refused 0\n"
unfolding digits entries_total processes_total not_ready_total refused_total
stalled_trace = refl

-- lines of withdrawals, and of an entry that wakes several
pub withdrawal_lines :
    entry_line one_block (entry 2 (calls.Withdraw (Msg 1)) (Some (Fail Eintr)) [])
    ++ entry_line one_block (entry 2 (calls.Withdraw (Sem 3)) (Some (Fail Eintr)) [])
    ++ entry_line one_block (entry 2 (calls.Withdraw (Proc 2)) (Some (Fail Eintr)) [])
    ≡ codes "2 withdraw msg 1 = EINTR by 1\n2 withdraw sem 3 = EINTR by 1\n2 withdraw proc 2 = EINTR by 1\n"
unfolding digits
withdrawal_lines = refl

-- replies to those who are woken are counted as all others are, and a withdrawal is a refused call
pub counts_woken_replies :
    totals_line
    (entry 1 (calls.MsgRmid 1) (Some (Num 0)) ((2, Fail Eidrm) ∷ (3, Fail Eagain) ∷ [])
    ∷ entry 4 (calls.Withdraw (Proc 4)) (Some (Fail Eintr)) [] ∷ [])
    ≡ codes "totals entries 2 processes 1 notready 1 refused 2\n"
unfolding digits entries_total processes_total not_ready_total refused_total
counts_woken_replies = refl
