-- What a line says is within its ranges, and its call is one of a given script.
use Rattle.std.proofs.Common.{◌≡◌, ℕ, ◌≤◌, Bool, true, false, ◌&&◌, cond, List, [], ◌∷◌, length, Option, Some, None, refl, arith}
use Rattle.std.specs.Prelude.{IfSome, codes, bytes_eq}
use Rattle.std.proofs.lemmas.Option.{same_Some, none-some}
use Rattle.kernel_model.specs.Script as model
use Rattle.call_words.specs.declared.verb.Verb.{Verb}
use Rattle.call_words.specs.declared.verb.Verb.TheVariants as verbs
use Rattle.call_words.specs.Verbs.{verb_of}
use Rattle.script_reader.specs.declared.says.Front.{Front}
use Rattle.script_reader.specs.declared.says.Front.TheVariants.{Wrong, Gives}
use Rattle.script_reader.specs.declared.says.Said.{Said}
use Rattle.script_reader.specs.declared.says.Said.TheVariants.{Skipped, BadProc, Unknown, Bad, Forks, Calls}
use Rattle.script_reader.specs.Words.{words_of}
use Rattle.script_reader.specs.Forms.{FromCall, call_of}
use Rattle.script_reader.specs.Says as says
use Rattle.script_reader.specs.Says.{number_of}
use Rattle.script_reader.proofs.Widths.{width, line_width}
use Rattle.script_reader.proofs.CallRanges.{IsOther}
use Rattle.script_reader.proofs.Saying.{IsFine, IfGives, IsSet, IsTries, set_fits, tries_fit, other_fine, named_fine, proc_fine, end_fine, bytes_same}
use Rattle.mq_model.specs.Reading as reading
use Rattle.mq_model.specs.Reading.{mqopen_of, mqsend_of, mqreceive_of, mqgetattr_of, is_system_v, mq_said_of}
use Rattle.mq_model.specs.Given.{is_given_line}
use Rattle.posix_mq.proofs.QueueCalls.{IsQueueCall, mqopen_fits, mqsend_fits, mqreceive_fits, mqgetattr_fits}
use Rattle.posix_mq.proofs.OtherCalls.{IsGivenCall, IsNoQueue, others_given, no_queue_named}

-- a line of a given script
abbrev pub IsGivenSaid : Said → Type 0
IsGivenSaid (Calls line) = is_given_line line ≡ true
IsGivenSaid said = Unit {0}

-- one that is within its ranges besides, in a text whose blocks have these names
pub record IsRight (names : List (List ℕ)) (o : Option (List ℕ)) (said : Said) : Type 0 where
  pub fine : IsFine names o said
  pub given : IsGivenSaid said

pick : (P : Said → Type 0) (b : Bool) (x y : Said) → (b ≡ true → P x) → (b ≡ false → P y) → P (cond b x y)
pick P true x y f g = f refl
pick P false x y f g = g refl

-- ---- calls

from_given : (set tries : Option ℕ) (call : Option FromCall) → IfSome call IsGivenCall
    → IsGivenSaid (says.said_from set tries call)
from_given set tries None h = tt
from_given set tries (Some c) h = h

other_given : (set tries : Front ℕ) (call : Option FromCall) → IfSome call IsGivenCall
    → IsGivenSaid (says.other_said set tries call)
unfolding says.other_said
other_given Wrong tries call h = tt
other_given (Gives set) Wrong call h = tt
other_given (Gives set) (Gives tries) call h = from_given set tries call h

exit_given : (set tries : Front ℕ) (call : Option FromCall) → IfSome call IsGivenCall
    → IsGivenSaid (says.exit_said set tries call)
unfolding says.exit_said
exit_given Wrong tries call h = tt
exit_given (Gives (Some v)) tries call h = tt
exit_given (Gives None) Wrong call h = tt
exit_given (Gives None) (Gives (Some n)) call h = tt
exit_given (Gives None) (Gives None) call h = from_given None None call h

fork_given : (names : List (List ℕ)) (set tries : Front ℕ) (ws : List (List ℕ))
    → IsGivenSaid (says.fork_said names set tries ws)
unfolding says.fork_said
fork_given names Wrong tries ws = tt
fork_given names (Gives set) Wrong ws = tt
fork_given names (Gives set) (Gives (Some n)) ws = tt
fork_given names (Gives set) (Gives None) [] = tt
fork_given names (Gives set) (Gives None) (name ∷ []) =
    pick IsGivenSaid (model.is_name name) (Forks set (number_of names name)) Bad (λ _. tt) (λ _. tt)
fork_given names (Gives set) (Gives None) (name ∷ x ∷ ws) = tt

verb_given : (names : List (List ℕ)) (set tries : Front ℕ) (verb : Verb) (ws : List (List ℕ)) → IsNoQueue verb
    → IsGivenSaid (says.verb_said names set tries verb ws)
unfolding says.verb_said
verb_given names set tries verbs.Fork ws h = fork_given names set tries ws
verb_given names set tries verbs.Exit ws h =
    exit_given set tries (call_of verbs.Exit ws) (others_given verbs.Exit ws tt)
verb_given names set tries verbs.GetPid ws h =
    other_given set tries (call_of verbs.GetPid ws) (others_given verbs.GetPid ws tt)
verb_given names set tries verbs.Kill ws h =
    other_given set tries (call_of verbs.Kill ws) (others_given verbs.Kill ws tt)
verb_given names set tries verbs.SigAction ws h =
    other_given set tries (call_of verbs.SigAction ws) (others_given verbs.SigAction ws tt)
verb_given names set tries verbs.SigProcMask ws h =
    other_given set tries (call_of verbs.SigProcMask ws) (others_given verbs.SigProcMask ws tt)
verb_given names set tries verbs.SigPending ws h =
    other_given set tries (call_of verbs.SigPending ws) (others_given verbs.SigPending ws tt)
verb_given names set tries verbs.Handled ws h =
    other_given set tries (call_of verbs.Handled ws) (others_given verbs.Handled ws tt)
verb_given names set tries verbs.WaitPid ws h =
    other_given set tries (call_of verbs.WaitPid ws) (others_given verbs.WaitPid ws tt)
verb_given names set tries verbs.MsgGet ws h = absurd h
verb_given names set tries verbs.MsgSnd ws h = absurd h
verb_given names set tries verbs.MsgRcv ws h = absurd h
verb_given names set tries verbs.MsgCtl ws h = absurd h
verb_given names set tries verbs.SemGet ws h =
    other_given set tries (call_of verbs.SemGet ws) (others_given verbs.SemGet ws tt)
verb_given names set tries verbs.SemOp ws h =
    other_given set tries (call_of verbs.SemOp ws) (others_given verbs.SemOp ws tt)
verb_given names set tries verbs.SemCtl ws h =
    other_given set tries (call_of verbs.SemCtl ws) (others_given verbs.SemCtl ws tt)

named_given : (names : List (List ℕ)) (set tries : Front ℕ) (verb : Option Verb) (ws : List (List ℕ))
    → IfSome verb IsNoQueue → IsGivenSaid (says.named_said names set tries verb ws)
named_given names set tries None ws h = tt
named_given names set tries (Some verb) ws h = verb_given names set tries verb ws h

no_queue : (name : List ℕ) → is_system_v name ≡ false → IfSome (verb_of name) IsNoQueue
no_queue name other = of (verb_of name) refl
  where
    of : (o : Option Verb) → verb_of name ≡ o → IfSome o IsNoQueue
    of None e = tt
    of (Some verb) e = no_queue_named name verb e other

ranges_of : (call : Option FromCall) → IfSome call IsQueueCall → IfSome call IsOther
ranges_of None h = tt
ranges_of (Some c) h = h.other

given_of : (call : Option FromCall) → IfSome call IsQueueCall → IfSome call IsGivenCall
given_of None h = tt
given_of (Some c) h = h.given

queue_right : (names : List (List ℕ)) (o : Option (List ℕ)) (set tries : Front ℕ) (call : Option FromCall)
    → IfGives set IsSet → IfGives tries IsTries → IfSome call IsQueueCall
    → IsRight names o (says.other_said set tries call)
queue_right names o set tries call s t h =
    record {
      fine = other_fine names o set tries call s t (ranges_of call h);
      given = other_given set tries call (given_of call h);
    }

named_right : (names : List (List ℕ)) (o : Option (List ℕ)) (set tries : Front ℕ) (name : List ℕ)
    (ws : List (List ℕ)) → IfGives set IsSet → IfGives tries IsTries → width ws ≤ 4097
    → IsRight names o (reading.mq_named_said names set tries name ws)
unfolding reading.mq_named_said
named_right names o set tries name ws s t room =
    let P : Said → Type 0 = IsRight names o in
    let plain : Said = says.named_said names set tries (verb_of name) ws in
    let none : Said = cond (is_system_v name) Unknown plain in
    let look : Said = cond (bytes_eq name (codes "mqgetattr")) (says.other_said set tries (mqgetattr_of ws)) none in
    let take : Said = cond (bytes_eq name (codes "mqreceive")) (says.other_said set tries (mqreceive_of ws)) look in
    let send : Said = cond (bytes_eq name (codes "mqsend")) (says.other_said set tries (mqsend_of ws)) take in
    pick P (bytes_eq name (codes "mqopen")) (says.other_said set tries (mqopen_of ws)) send
    (λ _. queue_right names o set tries (mqopen_of ws) s t (mqopen_fits ws))
    (λ _. pick P (bytes_eq name (codes "mqsend")) (says.other_said set tries (mqsend_of ws)) take
    (λ _. queue_right names o set tries (mqsend_of ws) s t (mqsend_fits ws room))
    (λ _. pick P (bytes_eq name (codes "mqreceive")) (says.other_said set tries (mqreceive_of ws)) look
    (λ _. queue_right names o set tries (mqreceive_of ws) s t (mqreceive_fits ws))
    (λ _. pick P (bytes_eq name (codes "mqgetattr")) (says.other_said set tries (mqgetattr_of ws)) none
    (λ _. queue_right names o set tries (mqgetattr_of ws) s t (mqgetattr_fits ws))
    (λ _. pick P (is_system_v name) Unknown plain (λ _. record { fine = tt; given = tt })
    (λ other. record {
      fine = named_fine names o set tries (verb_of name) ws s t room;
      given = named_given names set tries (verb_of name) ws (no_queue name other);
    })))))

call_right : (names : List (List ℕ)) (o : Option (List ℕ)) (set tries : Front ℕ) (ws : List (List ℕ))
    → IfGives set IsSet → IfGives tries IsTries → width ws ≤ 4097
    → IsRight names o (reading.mq_call_said names set tries ws)
unfolding reading.mq_call_said
call_right names o set tries [] s t room = record { fine = tt; given = tt }
call_right names o set tries (name ∷ ws) s t room =
    named_right names o set tries name ws s t (omega (arith, room))

line_right : (names : List (List ℕ)) (o : Option (List ℕ)) (ws : List (List ℕ)) → width ws ≤ 4097
    → IsRight names o (reading.mq_line_said names ws)
unfolding reading.mq_line_said
line_right names o ws room =
    let s = set_fits ws in
    let t = tries_fit (says.set_at ws).1 in
    call_right names o (says.set_at ws).0 (says.tries_at (says.set_at ws).1).0
    (says.tries_at (says.set_at ws).1).1 s.0 t.0 (omega (arith, s.1, t.1, room))

-- ---- lines

proc_from_given : (number : Option ℕ) (name : List ℕ) → IsGivenSaid (says.proc_from number name)
proc_from_given None name = tt
proc_from_given (Some k) name = tt

proc_given : (names ws : List (List ℕ)) → IsGivenSaid (says.proc_said names ws)
unfolding says.proc_said
proc_given names [] = tt
proc_given names (name ∷ []) =
    pick IsGivenSaid (model.is_name name) (says.proc_from (number_of names name) name) BadProc
    (λ _. proc_from_given (number_of names name) name) (λ _. tt)
proc_given names (name ∷ x ∷ ws) = tt

end_given : (ws : List (List ℕ)) → IsGivenSaid (says.end_said ws)
unfolding says.end_said
end_given [] = tt
end_given (w ∷ ws) = tt

words_right : (names : List (List ℕ)) (o : Option (List ℕ)) (ws : List (List ℕ)) → o ≡ says.opened_by ws
    → width ws ≤ 4097 → IsRight names o (reading.mq_words_said names ws)
unfolding reading.mq_words_said
words_right names o [] e room = record { fine = tt; given = tt }
words_right names o (w ∷ ws) e room =
    let P : Said → Type 0 = IsRight names o in
    let line : Said = reading.mq_line_said names (w ∷ ws) in
    let rest : Said = cond (bytes_eq w (codes "end")) (says.end_said ws) line in
    pick P (says.is_comment w) Skipped (cond (bytes_eq w (codes "proc")) (says.proc_said names ws) rest)
    (λ _. record { fine = tt; given = tt })
    (λ _. pick P (bytes_eq w (codes "proc")) (says.proc_said names ws) rest
    (λ t. record { fine = proc_fine names o w ws e t; given = proc_given names ws })
    (λ _. pick P (bytes_eq w (codes "end")) (says.end_said ws) line
    (λ _. record { fine = end_fine names o ws; given = end_given ws })
    (λ _. line_right names o (w ∷ ws) room)))

-- what a line of at most 4,096 bytes says is within its ranges, and one of a given script
pub said_right : (names : List (List ℕ)) (line : List ℕ) → length line ≤ 4096
    → IsRight names (says.opening_at line) (mq_said_of names line)
said_right names line h =
    words_right names (says.opening_at line) (words_of line) refl (omega (arith, line_width line, h))

-- ---- lines that open a block

two_words : (names : List (List ℕ)) (w name x : List ℕ) (b c : Bool) → bytes_eq w (codes "proc") ≡ b
    → model.is_name name ≡ c → cond (b && c) (Some name) None ≡ Some x
    → reading.mq_words_said names (w ∷ name ∷ []) ≡ says.proc_from (number_of names x) x
unfolding reading.mq_words_said says.proc_said says.is_comment
two_words names w name x true true t is e =
    let same : name ≡ x = same_Some name x e in
    let proc : w ≡ codes "proc" = bytes_same w (codes "proc") t in
    rw (proc, is, same) refl
two_words names w name x true false t is e = absurd (none-some x e)
two_words names w name x false c t is e = absurd (none-some x e)

words_open : (names : List (List ℕ)) (ws : List (List ℕ)) (x : List ℕ) → says.opened_by ws ≡ Some x
    → reading.mq_words_said names ws ≡ says.proc_from (number_of names x) x
unfolding says.opened_by
words_open names [] x e = absurd (none-some x e)
words_open names (w ∷ []) x e = absurd (none-some x e)
words_open names (w ∷ name ∷ []) x e =
    two_words names w name x (bytes_eq w (codes "proc")) (model.is_name name) refl refl e
words_open names (w ∷ name ∷ v ∷ ws) x e = absurd (none-some x e)

-- a line with a name opens its block
pub opening_said : (names : List (List ℕ)) (line x : List ℕ) → says.opening_at line ≡ Some x
    → mq_said_of names line ≡ says.proc_from (number_of names x) x
opening_said names line x e = words_open names (words_of line) x e
