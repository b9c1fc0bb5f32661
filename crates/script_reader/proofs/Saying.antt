-- What a line says is within its ranges.
use Rattle.std.proofs.Common.{◌≡◌, ℕ, ◌+◌, ◌<◌, ◌≤◌, Bool, true, false, ◌&&◌, ◌||◌, not, cond, eqb, ltb, leb, List, [], ◌∷◌, length, Option, Some, None, refl, ◌∙◌, arith}
use Rattle.std.specs.Prelude.{IfSome, option_map, codes, bytes_eq, is_some}
use Rattle.std.specs.List.{position_or_len}
use Rattle.std.specs.Option.{unwrap_or}
use Rattle.std.proofs.lemmas.Bool.{and_from, le-leb, ltb-true}
use Rattle.std.proofs.lemmas.Option.{same_Some, none-some}
use Rattle.std.proofs.lemmas.Slice.Eq.{bytes_eq-Decides}
use Rattle.pico_base.specs.declared.call.Call.{Call}
use Rattle.pico_base.specs.declared.call.Call.TheVariants as calls
use Rattle.pico_base.specs.declared.script.Line.{Line}
use Rattle.kernel_model.specs.Script as model
use Rattle.call_words.specs.declared.verb.Verb.{Verb}
use Rattle.call_words.specs.declared.verb.Verb.TheVariants as verbs
use Rattle.script_reader.specs.declared.says.Front.{Front}
use Rattle.script_reader.specs.declared.says.Front.TheVariants.{Wrong, Gives}
use Rattle.script_reader.specs.declared.says.Said.{Said}
use Rattle.script_reader.specs.declared.says.Said.TheVariants.{Skipped, Opens, BadProc, Bad, Forks, Calls}
use Rattle.script_reader.specs.Words.{words_of}
use Rattle.script_reader.specs.Parts.{positive, variable}
use Rattle.call_words.specs.Verbs.{verb_of}
use Rattle.script_reader.specs.Forms.{FromCall, call_of}
use Rattle.script_reader.specs.Says as says
use Rattle.script_reader.specs.Says.{number_of, said_of}
use Rattle.script_reader.proofs.Ranges.{positive_small, variable_small}
use Rattle.script_reader.proofs.Widths.{width, line_width}
use Rattle.script_reader.proofs.CallRanges.{Fits, IsOther, IsExit, exits_fit, others_fit, between_from}

abbrev pub IsForkOf : List (List ℕ) → Option ℕ → Type 0
IsForkOf names None = Unit {0}
IsForkOf names (Some number) = (1 ≤ number) × (number ≤ length names)

-- a line in a text whose blocks have these names, which opens a block of this name or none
abbrev pub IsFine : List (List ℕ) → Option (List ℕ) → Said → Type 0
IsFine names o (Opens name number) =
    (model.is_name name ≡ true) × (number_of names name ≡ Some number) × (o ≡ Some name)
IsFine names o (Forks set number) = (model.is_variable set ≡ true) × IsForkOf names number
IsFine names o (Calls line) = (model.is_line line ≡ true) × (model.is_fork line.call ≡ false)
IsFine names o said = Unit {0}

-- either of two lines, by a test
pub fine_cond : (names : List (List ℕ)) (o : Option (List ℕ)) (b : Bool) (x y : Said) → (b ≡ true → IsFine names o x)
    → IsFine names o y → IsFine names o (cond b x y)
fine_cond names o true x y f g = f refl
fine_cond names o false x y f g = g

-- ---- in front of a call

-- what stands in front of a call sets a variable that there can be
abbrev pub IsSet : Option ℕ → Type 0
IsSet set = model.is_variable set ≡ true

-- a call is tried once, or as many times as a script may say
abbrev pub IsTries : Option ℕ → Type 0
IsTries tries = (leb 1 (unwrap_or tries 1) && leb (unwrap_or tries 1) 20000) ≡ true

-- what is said of what a front gives, where it isn't wrong
abbrev pub IfGives : Front ℕ → (Option ℕ → Type 0) → Type 0
IfGives Wrong P = Unit {0}
IfGives (Gives value) P = P value

if_given : (o : Option ℕ) (P : ℕ → Type 0) (Q : Option ℕ → Type 0) → IfSome o P → ((v : ℕ) → P v → Q (Some v))
    → IfGives (says.given o) Q
if_given None P Q h g = tt
if_given (Some v) P Q h g = g v h

front_cond : (P : Option ℕ → Type 0) (n : ℕ) (b : Bool) (x y : Front ℕ × List (List ℕ))
    → IfGives x.0 P × (width x.1 ≤ n) → IfGives y.0 P × (width y.1 ≤ n)
    → IfGives (cond b x y).0 P × (width (cond b x y).1 ≤ n)
front_cond P n true x y f g = f
front_cond P n false x y f g = g

-- `VAR =` names a variable, and leaves no more words
pub set_fits : (ws : List (List ℕ)) → IfGives (says.set_at ws).0 IsSet × (width (says.set_at ws).1 ≤ width ws)
unfolding says.set_at
set_fits [] = (refl, omega arith)
set_fits (v ∷ []) = (refl, omega arith)
set_fits (v ∷ e ∷ ws) =
    front_cond IsSet (width (v ∷ e ∷ ws)) (bytes_eq e (codes "=")) (says.given (variable v), ws)
    (says.nothing, v ∷ e ∷ ws)
    (if_given (variable v) (λ v. v ≤ 2885) IsSet (variable_small v) (λ v h. le-leb v 2885 h), omega arith)
    (refl, omega arith)

-- `try N` is within its range, and leaves no more words
pub tries_fit : (ws : List (List ℕ)) → IfGives (says.tries_at ws).0 IsTries × (width (says.tries_at ws).1 ≤ width ws)
unfolding says.tries_at
tries_fit [] = (refl, omega arith)
tries_fit (t ∷ []) =
    front_cond IsTries (width (t ∷ [])) (bytes_eq t (codes "try")) (Wrong, []) (says.nothing, t ∷ []) (tt, omega arith)
    (refl, omega arith)
tries_fit (t ∷ n ∷ ws) =
    front_cond IsTries (width (t ∷ n ∷ ws)) (bytes_eq t (codes "try")) (says.given (positive 20000 n), ws)
    (says.nothing, t ∷ n ∷ ws) (
      if_given (positive 20000 n) (λ n. (1 ≤ n) × (n ≤ 20000)) IsTries (positive_small 20000 n)
          (λ v h. between_from 1 20000 v h.0 h.1),
      omega arith,
    ) (refl, omega arith)

-- ---- calls

position_within : (b : Bool) (i n : ℕ) → (b ≡ true → i < n)
    → IfSome (option_map (λ place. place + 1) (cond b (Some i) None)) (λ k. (1 ≤ k) × (k ≤ n))
position_within true i n h = (omega arith, omega (arith, h refl))
position_within false i n h = tt

number_within : (names : List (List ℕ)) (name : List ℕ)
    → IfSome (number_of names name) (λ k. (1 ≤ k) × (k ≤ length names))
unfolding number_of
number_within names name =
    position_within (ltb (position_or_len (bytes_eq name) names) (length names)) (position_or_len (bytes_eq name) names)
    (length names) (ltb-true (position_or_len (bytes_eq name) names) (length names))

fork_of : (names : List (List ℕ)) (o : Option ℕ) → IfSome o (λ k. (1 ≤ k) × (k ≤ length names)) → IsForkOf names o
fork_of names None h = tt
fork_of names (Some k) h = h

fork_fine : (names : List (List ℕ)) (o : Option (List ℕ)) (set tries : Front ℕ) (ws : List (List ℕ)) → IfGives set IsSet
    → IsFine names o (says.fork_said names set tries ws)
unfolding says.fork_said
fork_fine names o Wrong tries ws h = tt
fork_fine names o (Gives set) Wrong ws h = tt
fork_fine names o (Gives set) (Gives (Some n)) ws h = tt
fork_fine names o (Gives set) (Gives None) [] h = tt
fork_fine names o (Gives set) (Gives None) (name ∷ []) h =
    fine_cond names o (model.is_name name) (Forks set (number_of names name)) Bad
    (λ _. (h, fork_of names (number_of names name) (number_within names name))) tt
fork_fine names o (Gives set) (Gives None) (name ∷ x ∷ ws) h = tt

no_fork : (call : Call) → model.is_exit call ≡ true → model.is_fork call ≡ false
no_fork (calls.Fork block) e = cc
no_fork call e = refl

-- the parts of a line's test
line_from : (line : Line) → (leb 1 line.tries && leb line.tries 20000) ≡ true → model.is_tried_once line ≡ true
    → model.sets_rightly line ≡ true → Fits (line.from, line.call) → model.is_variable line.set ≡ true
    → model.is_line line ≡ true
line_from line tries once sets fits set =
    let named : Bool = cond (is_some line.from) (model.can_name line.call) (model.is_process_in_range line.call) in
    let variables : Bool = model.is_variable line.set && model.is_variable line.from in
    and_from (leb 1 line.tries && leb line.tries 20000)
    (model.is_tried_once line
    && (model.sets_rightly line && (model.is_in_range line.call && (named && variables)))) tries
    (and_from (model.is_tried_once line)
    (model.sets_rightly line && (model.is_in_range line.call && (named && variables))) once
    (and_from (model.sets_rightly line) (model.is_in_range line.call && (named && variables)) sets
    (and_from (model.is_in_range line.call) (named && variables) fits.in_range
    (and_from named variables fits.named
    (and_from (model.is_variable line.set) (model.is_variable line.from) set fits.variable)))))

exit_fine : (names : List (List ℕ)) (o : Option (List ℕ)) (set tries : Front ℕ) (call : Option FromCall)
    → IfSome call IsExit → IsFine names o (says.exit_said set tries call)
unfolding says.exit_said
exit_fine names o Wrong tries call h = tt
exit_fine names o (Gives (Some v)) tries call h = tt
exit_fine names o (Gives None) Wrong call h = tt
exit_fine names o (Gives None) (Gives (Some n)) call h = tt
exit_fine names o (Gives None) (Gives None) None h = tt
exit_fine names o (Gives None) (Gives None) (Some c) h =
    (line_from (record { set = None; tries = 1; from = c.0; call = c.1 }) refl refl refl h.0 refl, no_fork c.1 h.2)

or_not : (a b c : Bool) → b ≡ false → c ≡ false → (a || not (b || c)) ≡ true
or_not true b c e f = refl
or_not false b c e f = rw (e, f) refl

not_both : (a b : Bool) → b ≡ false → not (a && b) ≡ true
not_both true b e = rw e refl
not_both false b e = refl

-- a call that is neither `fork` nor `exit`, within its ranges
pub other_fine : (names : List (List ℕ)) (o : Option (List ℕ)) (set tries : Front ℕ) (call : Option FromCall)
    → IfGives set IsSet → IfGives tries IsTries → IfSome call IsOther → IsFine names o (says.other_said set tries call)
unfolding says.other_said
other_fine names o Wrong tries call s t h = tt
other_fine names o (Gives set) Wrong call s t h = tt
other_fine names o (Gives set) (Gives tries) None s t h = tt
other_fine names o (Gives set) (Gives tries) (Some c) s t h =
    let line : Line = record { set = set; tries = unwrap_or tries 1; from = c.0; call = c.1 } in (
      line_from line t (or_not (eqb line.tries 1) (model.is_fork c.1) (model.is_exit c.1) h.no_fork h.no_exit)
          (not_both (is_some set) (model.is_exit c.1) h.no_exit) h.fits s,
      h.no_fork,
    )

verb_fine : (names : List (List ℕ)) (o : Option (List ℕ)) (set tries : Front ℕ) (verb : Verb) (ws : List (List ℕ))
    → IfGives set IsSet → IfGives tries IsTries → width ws ≤ 4097
    → IsFine names o (says.verb_said names set tries verb ws)
unfolding says.verb_said
verb_fine names o set tries verbs.Fork ws s t room = fork_fine names o set tries ws s
verb_fine names o set tries verbs.Exit ws s t room = exit_fine names o set tries (call_of verbs.Exit ws) (exits_fit ws)
verb_fine names o set tries verbs.GetPid ws s t room =
    other_fine names o set tries (call_of verbs.GetPid ws) s t (others_fit verbs.GetPid ws tt room)
verb_fine names o set tries verbs.Kill ws s t room =
    other_fine names o set tries (call_of verbs.Kill ws) s t (others_fit verbs.Kill ws tt room)
verb_fine names o set tries verbs.SigAction ws s t room =
    other_fine names o set tries (call_of verbs.SigAction ws) s t (others_fit verbs.SigAction ws tt room)
verb_fine names o set tries verbs.SigProcMask ws s t room =
    other_fine names o set tries (call_of verbs.SigProcMask ws) s t (others_fit verbs.SigProcMask ws tt room)
verb_fine names o set tries verbs.SigPending ws s t room =
    other_fine names o set tries (call_of verbs.SigPending ws) s t (others_fit verbs.SigPending ws tt room)
verb_fine names o set tries verbs.Handled ws s t room =
    other_fine names o set tries (call_of verbs.Handled ws) s t (others_fit verbs.Handled ws tt room)
verb_fine names o set tries verbs.WaitPid ws s t room =
    other_fine names o set tries (call_of verbs.WaitPid ws) s t (others_fit verbs.WaitPid ws tt room)
verb_fine names o set tries verbs.MsgGet ws s t room =
    other_fine names o set tries (call_of verbs.MsgGet ws) s t (others_fit verbs.MsgGet ws tt room)
verb_fine names o set tries verbs.MsgSnd ws s t room =
    other_fine names o set tries (call_of verbs.MsgSnd ws) s t (others_fit verbs.MsgSnd ws tt room)
verb_fine names o set tries verbs.MsgRcv ws s t room =
    other_fine names o set tries (call_of verbs.MsgRcv ws) s t (others_fit verbs.MsgRcv ws tt room)
verb_fine names o set tries verbs.MsgCtl ws s t room =
    other_fine names o set tries (call_of verbs.MsgCtl ws) s t (others_fit verbs.MsgCtl ws tt room)
verb_fine names o set tries verbs.SemGet ws s t room =
    other_fine names o set tries (call_of verbs.SemGet ws) s t (others_fit verbs.SemGet ws tt room)
verb_fine names o set tries verbs.SemOp ws s t room =
    other_fine names o set tries (call_of verbs.SemOp ws) s t (others_fit verbs.SemOp ws tt room)
verb_fine names o set tries verbs.SemCtl ws s t room =
    other_fine names o set tries (call_of verbs.SemCtl ws) s t (others_fit verbs.SemCtl ws tt room)

-- a call of this name, in words that a line has room for
pub named_fine : (names : List (List ℕ)) (o : Option (List ℕ)) (set tries : Front ℕ) (verb : Option Verb)
    (ws : List (List ℕ)) → IfGives set IsSet → IfGives tries IsTries → width ws ≤ 4097
    → IsFine names o (says.named_said names set tries verb ws)
named_fine names o set tries None ws s t room = tt
named_fine names o set tries (Some verb) ws s t room = verb_fine names o set tries verb ws s t room

call_fine : (names : List (List ℕ)) (o : Option (List ℕ)) (set tries : Front ℕ) (ws : List (List ℕ)) → IfGives set IsSet
    → IfGives tries IsTries → width ws ≤ 4097 → IsFine names o (says.call_said names set tries ws)
unfolding says.call_said
call_fine names o set tries [] s t room = tt
call_fine names o set tries (name ∷ ws) s t room =
    named_fine names o set tries (verb_of name) ws s t (omega (arith, room))

line_fine : (names : List (List ℕ)) (o : Option (List ℕ)) (ws : List (List ℕ)) → width ws ≤ 4097
    → IsFine names o (says.line_said names ws)
unfolding says.line_said
line_fine names o ws room =
    let s = set_fits ws in
    let t = tries_fit (says.set_at ws).1 in
    call_fine names o (says.set_at ws).0 (says.tries_at (says.set_at ws).1).0
    (says.tries_at (says.set_at ws).1).1 s.0 t.0 (omega (arith, s.1, t.1, room))

-- ---- lines

proc_from_fine : (names : List (List ℕ)) (o : Option (List ℕ)) (name : List ℕ) (number : Option ℕ)
    → model.is_name name ≡ true → number_of names name ≡ number → o ≡ Some name
    → IsFine names o (says.proc_from number name)
proc_from_fine names o name None is e h = tt
proc_from_fine names o name (Some k) is e h = (is, e, h)

-- `proc NAME` opens the block that the line names
pub proc_fine : (names : List (List ℕ)) (o : Option (List ℕ)) (w : List ℕ) (ws : List (List ℕ))
    → o ≡ says.opened_by (w ∷ ws) → bytes_eq w (codes "proc") ≡ true → IsFine names o (says.proc_said names ws)
unfolding says.proc_said says.opened_by
proc_fine names o w [] e t = tt
proc_fine names o w (name ∷ []) e t =
    fine_cond names o (model.is_name name) (says.proc_from (number_of names name) name) BadProc
    (λ is. proc_from_fine names o name (number_of names name) is refl (e ∙ rw (t, is) refl)) tt
proc_fine names o w (name ∷ x ∷ ws) e t = tt

-- `end` is always within its ranges
pub end_fine : (names : List (List ℕ)) (o : Option (List ℕ)) (ws : List (List ℕ)) → IsFine names o (says.end_said ws)
unfolding says.end_said
end_fine names o [] = tt
end_fine names o (w ∷ ws) = tt

words_fine : (names : List (List ℕ)) (o : Option (List ℕ)) (ws : List (List ℕ)) → o ≡ says.opened_by ws
    → width ws ≤ 4097 → IsFine names o (says.words_said names ws)
unfolding says.words_said
words_fine names o [] e room = tt
words_fine names o (w ∷ ws) e room =
    let rest : Said = cond (bytes_eq w (codes "end")) (says.end_said ws) (says.line_said names (w ∷ ws)) in
    let call = fine_cond names o (bytes_eq w (codes "end")) (says.end_said ws) (says.line_said names (w ∷ ws))
    (λ _. end_fine names o ws) (line_fine names o (w ∷ ws) room) in
    let inner = fine_cond names o (bytes_eq w (codes "proc")) (says.proc_said names ws) rest
    (λ t. proc_fine names o w ws e t) call in
    fine_cond names o (says.is_comment w) Skipped (cond (bytes_eq w (codes "proc")) (says.proc_said names ws) rest)
    (λ _. tt) inner

-- what a line of at most 4,096 bytes says is within its ranges
pub said_fine : (names : List (List ℕ)) (line : List ℕ) → length line ≤ 4096
    → IsFine names (says.opening_at line) (said_of names line)
said_fine names line h =
    words_fine names (says.opening_at line) (words_of line) refl (omega (arith, line_width line, h))

-- ---- lines that open a block

-- equal bytes are the same
pub bytes_same : (a b : List ℕ) → bytes_eq a b ≡ true → a ≡ b
bytes_same a b e = (bytes_eq-Decides a b).0 e

two_words : (names : List (List ℕ)) (w name x : List ℕ) (b c : Bool) → bytes_eq w (codes "proc") ≡ b
    → model.is_name name ≡ c → cond (b && c) (Some name) None ≡ Some x
    → says.words_said names (w ∷ name ∷ []) ≡ says.proc_from (number_of names x) x
unfolding says.words_said says.proc_said says.is_comment
two_words names w name x true true t is e =
    let same : name ≡ x = same_Some name x e in
    let proc : w ≡ codes "proc" = bytes_same w (codes "proc") t in
    rw (proc, is, same) refl
two_words names w name x true false t is e = absurd (none-some x e)
two_words names w name x false c t is e = absurd (none-some x e)

words_open : (names : List (List ℕ)) (ws : List (List ℕ)) (x : List ℕ) → says.opened_by ws ≡ Some x
    → says.words_said names ws ≡ says.proc_from (number_of names x) x
unfolding says.opened_by
words_open names [] x e = absurd (none-some x e)
words_open names (w ∷ []) x e = absurd (none-some x e)
words_open names (w ∷ name ∷ []) x e =
    two_words names w name x (bytes_eq w (codes "proc")) (model.is_name name) refl refl e
words_open names (w ∷ name ∷ v ∷ ws) x e = absurd (none-some x e)

-- a line with a name opens its block
pub opening_said : (names : List (List ℕ)) (line x : List ℕ) → says.opening_at line ≡ Some x
    → said_of names line ≡ says.proc_from (number_of names x) x
opening_said names line x e = words_open names (words_of line) x e
