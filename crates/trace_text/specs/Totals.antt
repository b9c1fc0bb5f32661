-- What the totals line counts of a history.
use Rattle.std.specs.Prelude.{◌≡◌, ℕ, ◌+◌, pos, true, false, List, [], ◌∷◌, length, if◌then◌else◌, Some, None, codes, count_by, sum_by, refl}
use Rattle.std.specs.Fmt.{digits}
use Rattle.pico_base.specs.declared.call.Call.{Call}
use Rattle.pico_base.specs.declared.call.Call.TheVariants.{Fork, Kill, MsgRcv, MsgRmid}
use Rattle.pico_base.specs.declared.reply.Reply.TheVariants.{Num, Fail}
use Rattle.pico_base.specs.declared.reply.Errno.TheVariants.{Esrch, Enomsg, Eidrm}
use Rattle.pico_base.specs.declared.reply.Entry.{Entry}
use Rattle.pico_base.specs.declared.reply.Outcome.{Outcome}
use Rattle.pico_base.specs.declared.signal.SigArg.TheVariants.{Zero}
use Rattle.kernel_model.specs.Effect.{reply_alone}
use Rattle.kernel_model.specs.Trace.{is_fork, is_not_ready_reply, is_refused_reply, replies_where, totals_line, entries_total, processes_total, not_ready_total, refused_total}

-- the entries, those that fork, the replies that nothing was ready (ENOMSG and EAGAIN), and the other refusals
pub record Counts : Type 0 where
  pub entries : ℕ
  pub forks : ℕ
  pub not_ready : ℕ
  pub refused : ℕ

abbrev pub counts_of : List Entry → Counts
counts_of h =
    record {
      entries = length h;
      forks = count_by (λ e. is_fork e.call) h;
      not_ready = sum_by (λ e. replies_where is_not_ready_reply e.outcome) h;
      refused = sum_by (λ e. replies_where is_refused_reply e.outcome) h;
    }

-- the same under a name that is opened only where entries are counted
unfoldable pub tally_of : List Entry → Counts
tally_of h = counts_of h

-- the counts with one more entry, of this call with this outcome
abbrev pub with_made : Counts → Call → Outcome → Counts
with_made c call outcome =
    record {
      entries = c.entries + 1;
      forks = c.forks + (if is_fork call then 1 else 0);
      not_ready = c.not_ready + replies_where is_not_ready_reply outcome;
      refused = c.refused + replies_where is_refused_reply outcome;
    }

abbrev pub with_entry : Counts → Entry → Counts
with_entry c e = with_made c e.call e.outcome

-- Examples.

pub no-entries : tally_of [] ≡ record { entries = 0; forks = 0; not_ready = 0; refused = 0 }
unfolding tally_of
no-entries = refl

-- Process 1 forks. Process 2 waits at a queue, until 1 removes it: one entry with two replies. Then 1 finds another
-- queue empty, and signals a process that isn't there.
abbrev pub five_entries : List Entry
five_entries =
    record { pid = 1; call = Fork 1; outcome = reply_alone (Num 2); by = 1 }
    ∷ record { pid = 2; call = MsgRcv 1 (pos 0) 16 false false; outcome = record { own = None; woken = [] }; by = 2 }
    ∷ record {
      pid = 1;
      call = MsgRmid 1;
      outcome = record { own = Some (Num 0); woken = (2, Fail Eidrm) ∷ [] };
      by = 2;
    }
    ∷ record { pid = 1; call = MsgRcv 3 (pos 0) 16 false true; outcome = reply_alone (Fail Enomsg); by = 1 }
    ∷ record { pid = 1; call = Kill 7 Zero; outcome = reply_alone (Fail Esrch); by = 1 }
    ∷ []

pub five-entries : tally_of five_entries ≡ record { entries = 5; forks = 1; not_ready = 1; refused = 2 }
unfolding tally_of
five-entries = refl

pub five-entries-totals : totals_line five_entries ≡ codes "totals entries 5 processes 2 notready 1 refused 2\n"
unfolding digits entries_total processes_total not_ready_total refused_total
five-entries-totals = refl
