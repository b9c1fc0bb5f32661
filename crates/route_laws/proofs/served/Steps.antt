-- Steps that answer calls, one after another: what is in the node's tables doesn't matter for that.
use Rattle.std.proofs.Common.{◌≡◌, ℕ, Bool, true, false, if◌then◌else◌, List, [], ◌∷◌, map, nat_eq, Option, Some, None, refl, ap, sym, ◌∙◌}
use Rattle.pico_base.specs.declared.call.Call.{Call}
use Rattle.pico_base.specs.declared.reply.Reply.{Reply}
use Rattle.pico_base.specs.declared.script.Script.{Script}
use Rattle.rpc_frame.specs.declared.asked.Asked.{Asked}
use Rattle.rpc_frame.specs.declared.frame.Frame.TheVariants as frames
use Rattle.node_model.specs.Bodies.{Deeds}
use Rattle.world_model.specs.Node.{Leader, under_way_as}
use Rattle.world_model.specs.Step.{Step, reply_at, reply_here, send, wake_all, with_node}
use Rattle.route_laws.proofs.served.Replies.{caller_by}
use Rattle.route_laws.proofs.served.Rounds.{Answered, wake_of}
use Rattle.node_model.specs.Caller.{answer_call}

-- ---- tables

-- with these deeds, and this of the leader
abbrev pub with_tables : Step → Deeds → Leader → Step
with_tables m deeds leader = with_node m (record m.node { deeds = deeds; leader = leader })

-- ---- one reply

-- the node's own caller goes on, or an Answer goes to another's node
abbrev pub replied_step : Script → Bool → Step → Asked → Reply → Step
replied_step script true m asked reply =
    with_node m (record m.node { caller = caller_by script true asked reply m.node.caller })
replied_step script false m asked reply = send m asked.caller (frames.Answer asked.ticket reply)

-- the node's own call is under way there
pub reply-is : (script : Script) (m : Step) (asked : Asked) (reply : Reply) (own : Bool)
    → nat_eq asked.caller m.node.number ≡ own
    → (own ≡ true → under_way_as m.node asked.ticket ≡ Some asked.call) → (own ≡ true → m.node.number ≡ asked.caller)
    → reply_at script m asked.caller asked.ticket reply ≡ replied_step script own m asked reply
reply-is script m asked reply true is under_way number =
    ap (λ t. if t then reply_here script m reply (under_way_as m.node asked.ticket)
    else send m asked.caller (frames.Answer asked.ticket reply)) is
    ∙ ap (reply_here script m reply) (under_way refl)
    ∙ ap (λ k. with_node m (record m.node { caller = answer_call script k m.node.caller asked.call reply }))
    (number refl)
reply-is script m asked reply false is under_way number =
    ap (λ t. if t then reply_here script m reply (under_way_as m.node asked.ticket)
    else send m asked.caller (frames.Answer asked.ticket reply)) is

-- what is in the tables doesn't matter
pub tables-replied : (script : Script) (own : Bool) (m : Step) (asked : Asked) (reply : Reply) (deeds : Deeds)
    (leader : Leader)
    → with_tables (replied_step script own m asked reply) deeds leader
    ≡ replied_step script own (with_tables m deeds leader) asked reply
tables-replied script true m asked reply deeds leader = refl
tables-replied script false m asked reply deeds leader = refl

reply-here-tables : (script : Script) (m : Step) (reply : Reply) (o : Option Call) (deeds : Deeds) (leader : Leader)
    → with_tables (reply_here script m reply o) deeds leader ≡ reply_here script (with_tables m deeds leader) reply o
reply-here-tables script m reply None deeds leader = refl
reply-here-tables script m reply (Some call) deeds leader = refl

tables-reply : (script : Script) (m : Step) (caller ticket : ℕ) (reply : Reply) (deeds : Deeds) (leader : Leader)
    → with_tables (reply_at script m caller ticket reply) deeds leader
    ≡ reply_at script (with_tables m deeds leader) caller ticket reply
tables-reply script m caller ticket reply deeds leader = by (nat_eq caller m.node.number)
  where
    by : (t : Bool) → with_tables (if t then reply_here script m reply (under_way_as m.node ticket)
        else send m caller (frames.Answer ticket reply)) deeds leader
        ≡ (if t then reply_here script (with_tables m deeds leader) reply (under_way_as m.node ticket)
        else send (with_tables m deeds leader) caller (frames.Answer ticket reply))
    by true = reply-here-tables script m reply (under_way_as m.node ticket) deeds leader
    by false = refl

-- ---- all replies

-- one who waited has the reply
abbrev pub answer_one : Script → Step → Answered → Step
answer_one script m a = reply_at script m a.who.caller a.who.ticket a.reply

-- and then the next, until all have theirs
abbrev pub answer_all : Script → Step → List Answered → Step
answer_all script m [] = m
answer_all script m (a ∷ more) = answer_all script (answer_one script m a) more

-- so are those woken who wait
pub wakes-answer : (script : Script) (m : Step) (all : List Answered)
    → wake_all script m (map wake_of all) ≡ answer_all script m all
wakes-answer script m [] = refl
wakes-answer script m (a ∷ more) = wakes-answer script (answer_one script m a) more

-- the tables don't matter for any of them
pub tables-all : (script : Script) (m : Step) (all : List Answered) (deeds : Deeds) (leader : Leader)
    → with_tables (answer_all script m all) deeds leader ≡ answer_all script (with_tables m deeds leader) all
tables-all script m [] deeds leader = refl
tables-all script m (a ∷ more) deeds leader =
    tables-all script (answer_one script m a) more deeds leader
    ∙ ap (λ t. answer_all script t more) (tables-reply script m a.who.caller a.who.ticket a.reply deeds leader)

-- ---- what stays

-- the tables, the entries, and whether a signal strikes
pub record StaysStep (m t : Step) : Type 0 where
  pub deeds : t.node.deeds ≡ m.node.deeds
  pub leader : t.node.leader ≡ m.node.leader
  pub number : t.node.number ≡ m.node.number
  pub watches : t.node.watches ≡ m.node.watches
  pub pid : t.node.pid ≡ m.node.pid
  pub stage : t.node.stage ≡ m.node.stage
  pub leases : t.node.leases ≡ m.node.leases
  pub entries : t.entries ≡ m.entries
  pub strikes : t.strikes ≡ m.strikes

stays-itself : (m : Step) → StaysStep m m
stays-itself m = record {
  deeds = refl;
  leader = refl;
  number = refl;
  watches = refl;
  pid = refl;
  stage = refl;
  leases = refl;
  entries = refl;
  strikes = refl;
}

reply-here-stays : (script : Script) (m : Step) (reply : Reply) (o : Option Call)
    → StaysStep m (reply_here script m reply o)
reply-here-stays script m reply None = stays-itself m
reply-here-stays script m reply (Some call) =
    record {
      deeds = refl;
      leader = refl;
      number = refl;
      watches = refl;
      pid = refl;
      stage = refl;
      leases = refl;
      entries = refl;
      strikes = refl;
    }

-- whoever asked, a reply leaves all this as it is
pub reply-stays : (script : Script) (m : Step) (caller ticket : ℕ) (reply : Reply)
    → StaysStep m (reply_at script m caller ticket reply)
reply-stays script m caller ticket reply = by (nat_eq caller m.node.number)
  where
    by : (t : Bool) → StaysStep m (if t then reply_here script m reply (under_way_as m.node ticket)
        else send m caller (frames.Answer ticket reply))
    by true = reply-here-stays script m reply (under_way_as m.node ticket)
    by false =
        record {
          deeds = refl;
          leader = refl;
          number = refl;
          watches = refl;
          pid = refl;
          stage = refl;
          leases = refl;
          entries = refl;
          strikes = refl;
        }

pub both-stay : (m t u : Step) → StaysStep m t → StaysStep t u → StaysStep m u
both-stay m t u a b =
    record {
      deeds = b.deeds ∙ a.deeds;
      leader = b.leader ∙ a.leader;
      number = b.number ∙ a.number;
      watches = b.watches ∙ a.watches;
      pid = b.pid ∙ a.pid;
      stage = b.stage ∙ a.stage;
      leases = b.leases ∙ a.leases;
      entries = b.entries ∙ a.entries;
      strikes = b.strikes ∙ a.strikes;
    }

-- and so do several
pub all-stay : (script : Script) (m : Step) (all : List Answered) → StaysStep m (answer_all script m all)
all-stay script m [] = stays-itself m
all-stay script m (a ∷ more) =
    both-stay m (answer_one script m a) (answer_all script (answer_one script m a) more)
    (reply-stays script m a.who.caller a.who.ticket a.reply) (all-stay script (answer_one script m a) more)

-- So a step whose tables are these stays as it is with them.
pub tables-own : (m : Step) (deeds : Deeds) (leader : Leader) → m.node.deeds ≡ deeds → m.node.leader ≡ leader
    → with_tables m deeds leader ≡ m
tables-own m deeds leader has_deeds has_leader =
    sym (ap (λ ds. with_tables m ds leader) has_deeds) ∙ sym (ap (λ l. with_tables m m.node.deeds l) has_leader)
