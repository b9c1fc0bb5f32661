-- Worked examples of reading a script of message queues, computed by the checker: what lines say, and the given script
-- by the script of System V that runs it.
use Rattle.std.specs.Prelude.{◌≡◌, ℕ, pos, true, false, List, [], ◌∷◌, Option, Some, None, refl, codes, map}
use Rattle.pico_base.specs.declared.call.Call.TheVariants as calls
use Rattle.pico_base.specs.declared.script.Line.{Line}
use Rattle.pico_base.specs.declared.call.Call.{Call}
use Rattle.mq_model.specs.declared.lines.MqCall.{MqCall}
use Rattle.mq_model.specs.declared.lines.MqCall.TheVariants.{Open, Send, Receive, GetAttr, Same}
use Rattle.mq_model.specs.declared.lines.MqLine.{MqLine}
use Rattle.script_reader.specs.declared.says.Said.{Said}
use Rattle.script_reader.specs.declared.says.Said.TheVariants.{Unknown, Bad, Calls}
use Rattle.quoted_bytes.specs.Front.{strip}
use Rattle.call_words.specs.Verbs.{verb_of}
use Rattle.script_reader.specs.Words.{words_in}
use Rattle.script_reader.specs.Parts.{digits, number, positive, variable, cut, counted, repetition, letter, text}
use Rattle.script_reader.specs.Forms.{identifier, optional, two_optional, getpid_of}
use Rattle.script_reader.specs.Says.{set_at, tries_at, other_said, verb_said, is_comment}
use Rattle.mq_model.specs.Reading.{mq_said_of, mq_words_said, mq_line_said, mq_call_said, mq_named_said, mqopen_of, mqsend_of, mqreceive_of, mqgetattr_of, name_number}
use Rattle.mq_model.specs.Lines.{lines_given}

-- the variable `q` by its index
abbrev pub q : ℕ
q = 1776

abbrev pub line : Option ℕ → ℕ → Option ℕ → Call → Line
line set tries from call = record { set = set; tries = tries; from = from; call = call }

-- what these lines say, in a text without blocks
abbrev pub said : List (List ℕ) → List Said
said lines = map (mq_said_of []) lines

-- each of the four calls, with what may stand in front of it, and with a variable in place of the identifier
pub reads_the_calls : said (
    codes "q = mqopen /5 create excl" ∷ codes "mqsend $q 31 rep:2:a" ∷ codes "try 3 mqreceive $q 16"
    ∷ codes "mqgetattr 7" ∷ [])
    ≡ Calls (line (Some q) 1 None (calls.MsgGet (Some 5) true true))
    ∷ Calls (line None 1 (Some q) (calls.MsgSnd 0 (pos 31) (codes "aa") false))
    ∷ Calls (line None 3 (Some q) (calls.MsgRcv 0 (pos 0) 16 false false))
    ∷ Calls (line None 1 None (calls.MsgStat 7)) ∷ []
unfolding mq_words_said mq_line_said mq_call_said mq_named_said mqopen_of mqsend_of mqreceive_of mqgetattr_of
    name_number set_at tries_at other_said verb_said is_comment identifier optional two_optional getpid_of digits number
    positive variable cut counted repetition letter text words_in verb_of strip
reads_the_calls = refl

-- a priority and a size that the call refuses are read: that is the reply's affair
pub reads_what_a_call_refuses : said (codes "mqsend 1 32 rep:1:a" ∷ codes "mqreceive 1 15" ∷ [])
    ≡ Calls (line None 1 None (calls.MsgSnd 1 (pos 32) (codes "a") false))
    ∷ Calls (line None 1 None (calls.MsgRcv 1 (pos 0) 15 false false)) ∷ []
unfolding mq_words_said mq_line_said mq_call_said mq_named_said mqopen_of mqsend_of mqreceive_of mqgetattr_of
    name_number set_at tries_at other_said verb_said is_comment identifier optional two_optional getpid_of digits number
    positive variable cut counted repetition letter text words_in verb_of strip
reads_what_a_call_refuses = refl

-- the name of a queue is `/N` from 1 to 1,000,000, and no word may lack or follow
pub refuses_other_forms : said (
    codes "mqopen 5" ∷ codes "mqopen /0" ∷ codes "mqopen /1000001" ∷ codes "mqopen /5 excl create"
    ∷ codes "mqsend 1 65536 rep:1:a" ∷ codes "mqreceive 1" ∷ codes "mqgetattr 1 2" ∷ [])
    ≡ Bad ∷ Bad ∷ Bad ∷ Bad ∷ Bad ∷ Bad ∷ Bad ∷ []
unfolding mq_words_said mq_line_said mq_call_said mq_named_said mqopen_of mqsend_of mqreceive_of mqgetattr_of
    name_number set_at tries_at other_said verb_said is_comment identifier optional two_optional getpid_of digits number
    positive variable cut counted repetition letter text words_in verb_of strip
refuses_other_forms = refl

-- these scripts don't have the calls on System V's queues, and have all others
pub has_no_system_v_queues : said (codes "msgget private" ∷ codes "msgctl 1 stat" ∷ codes "getpid" ∷ [])
    ≡ Unknown ∷ Unknown ∷ Calls (line None 1 None calls.GetPid) ∷ []
unfolding mq_words_said mq_line_said mq_call_said mq_named_said mqopen_of mqsend_of mqreceive_of mqgetattr_of
    name_number set_at tries_at other_said verb_said is_comment identifier optional two_optional getpid_of digits number
    positive variable cut counted repetition letter text words_in verb_of strip
has_no_system_v_queues = refl

-- the given lines: in place of each call of System V the given one, and what stands in front of it as it is
pub gives_back_the_lines : lines_given
    (line (Some q) 1 None (calls.MsgGet (Some 9) true false)
    ∷ line None 3 None (calls.MsgRcv 0 (pos 0) 16 false false)
    ∷ line None 1 None calls.GetPid ∷ [])
    (record { from = None; call = Open 5 true false } ∷ record { from = Some q; call = Receive 0 16 }
    ∷ record { from = None; call = Same } ∷ [])
    ≡ line (Some q) 1 None (calls.MsgGet (Some 5) true false)
    ∷ line None 3 (Some q) (calls.MsgRcv 0 (pos 0) 16 false false)
    ∷ line None 1 None calls.GetPid ∷ []
gives_back_the_lines = refl
