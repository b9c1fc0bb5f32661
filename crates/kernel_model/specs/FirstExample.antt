-- The first example: one process makes a queue, sends `hi`, receives it and ends.
use Rattle.std.specs.Prelude.{◌≡◌, pos, true, false, List, [], ◌∷◌, ◌++◌, Some, None, refl, codes}
use Rattle.std.specs.Fmt.{digits}
use Rattle.std.proofs.Common.{inl}
use Rattle.pico_base.specs.declared.call.Call.{Call}
use Rattle.pico_base.specs.declared.call.Call.TheVariants.{MsgGet, MsgSnd, MsgRcv, Exit}
use Rattle.pico_base.specs.declared.reply.Reply.{Reply}
use Rattle.pico_base.specs.declared.reply.Reply.TheVariants.{Num, Message, Ended}
use Rattle.pico_base.specs.declared.reply.Entry.{Entry}
use Rattle.pico_base.specs.declared.script.Script.{Script}
use Rattle.kernel_model.specs.Script.{IsSoundScript}
use Rattle.kernel_model.specs.Effect.{reply_alone}
use Rattle.kernel_model.specs.History.{IsLegal}
use Rattle.kernel_model.specs.Fitting.{FitsWhole}
use Rattle.kernel_model.specs.Trace.{trace_text, entries_total, processes_total, not_ready_total, refused_total}

-- `q = msgget private`, `msgsnd $q 1 "hi" nowait`, `msgrcv $q 0 16 nowait`; the variable q has index 1776
abbrev pub hello : Script
hello =
    record {
      blocks = record {
        name = codes "main";
        lines =
            record { set = Some 1776; tries = 1; from = None; call = MsgGet None false false }
            ∷ record { set = None; tries = 1; from = Some 1776; call = MsgSnd 0 (pos 1) (codes "hi") true }
            ∷ record { set = None; tries = 1; from = Some 1776; call = MsgRcv 0 (pos 0) 16 false true }
            ∷ [];
      } ∷ [];
    }

abbrev pub entry : Call → Reply → Entry
entry call reply = record { pid = 1; call = call; outcome = reply_alone reply; by = 1 }

abbrev pub hello_history : List Entry
hello_history =
    entry (MsgGet None false false) (Num 1)
    ∷ entry (MsgSnd 1 (pos 1) (codes "hi") true) (Num 0)
    ∷ entry (MsgRcv 1 (pos 0) 16 false true) (Message (pos 1) (codes "hi"))
    ∷ entry (Exit 0) Ended
    ∷ []

pub hello_is_legal : IsLegal hello_history
hello_is_legal =
    record {
      last = _;
      replays = record {
        next = _;
        step = refl;
        rest = record {
          next = _;
          step = refl;
          rest = record {
            next = _;
            step = refl;
            rest = record {
              next = _;
              step = refl;
              rest = refl;
            };
          };
        };
      };
    }

pub hello_fits : FitsWhole hello hello_history
hello_fits =
    record {
      last = _;
      fits = record {
        place = _;
        there = refl;
        due = inl refl;
        replied = record { reply = _; alone = refl };
        rest = record {
          place = _;
          there = refl;
          due = inl refl;
          replied = record { reply = _; alone = refl };
          rest = record {
            place = _;
            there = refl;
            due = inl refl;
            replied = record { reply = _; alone = refl };
            rest = record {
              place = _;
              there = refl;
              due = inl refl;
              replied = record { reply = _; alone = refl };
              rest = refl;
            };
          };
        };
      };
      over = (refl, tt);
    }

-- the five lines that the program writes
pub hello_trace : trace_text hello hello_history ≡
    codes "1 msgget private = 1 by 1\n1 msgsnd 1 1 \"hi\" nowait = 0 by 1\n1 msgrcv 1 0 16 nowait = 1 \"hi\" by 1\n"
    ++ codes "1 exit 0 = ended by 1\ntotals entries 4 processes 1 notready 0 refused 0\n"
unfolding digits entries_total processes_total not_ready_total refused_total
hello_trace = refl

pub hello_is_sound : IsSoundScript hello
hello_is_sound =
    record {
      size = refl;
      names = refl;
      names_apart = refl;
      forward = refl;
      forked_once = refl;
      lines = refl;
      exits = refl;
      variables = refl;
      calls = refl;
    }
