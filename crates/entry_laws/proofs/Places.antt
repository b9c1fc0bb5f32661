-- Where a process is in its block: a reply moves the node's place as it moves the history's, a call that ends a
-- process is its last one and any other isn't, and the call that is due may be made.
use Rattle.std.proofs.Common.{◌≡◌, ◌⊎◌, ℕ, zero, suc, ◌+◌, Bool, true, false, not, ◌&&◌, nat_lt, List, [], ◌∷◌, drop, Option, Some, None, refl, ap, sym, subst, ◌∙◌, inl, inr}
use Rattle.std.specs.Prelude.{if◌then◌else◌, is_some, slice_get}
use Rattle.std.specs.List.{list_all, list_any}
use Rattle.std.proofs.lemmas.Bool.{eq-eqb, false≢true, or_right}
use Rattle.pico_base.specs.declared.call.Call.{Call}
use Rattle.pico_base.specs.declared.call.Call.TheVariants as calls
use Rattle.pico_base.specs.declared.reply.Reply.{Reply}
use Rattle.pico_base.specs.declared.reply.Reply.TheVariants as replies
use Rattle.pico_base.specs.declared.script.Line.{Line}
use Rattle.pico_base.specs.declared.script.Block.{Block}
use Rattle.pico_base.specs.declared.script.Script.{Script}
use Rattle.pico_base.specs.declared.signal.Sig.{Sig}
use Rattle.pico_base.specs.Signal.{signal_number}
use Rattle.kernel_model.specs.Row.{Alive, Free}
use Rattle.kernel_model.specs.Kernel.{Kernel, living_at}
use Rattle.kernel_model.specs.Valid.{IsValid}
use Rattle.kernel_model.specs.Transition.{is_spent, is_doomed_by, may_make}
use Rattle.kernel_model.specs.Numbers.{is_between}
use Rattle.kernel_model.specs.Script.{IsSoundScript, Vars, call_from, call_of, can_name, implied_exit, is_exit, is_in_range, is_line, is_process_in_range, is_tried_once, is_variable, max_calls, sets_rightly, value_of, with_exit, with_target}
use Rattle.kernel_model.specs.Fitting.{IsDue, Place, call_due, after_reply, asks_again, block_at, due, is_killed, move_on, place_after, set_variable, value_in}
use Rattle.waiting_model.specs.Calls.{is_withdrawal}
use Rattle.node_model.specs.Caller.{Caller, caller_place, due_call, lines_in}

-- ---- a reply moves the place

abbrev place_in : List Line → Caller → Place
place_in lines c = record { left = drop c.line lines; tried = c.tried; vars = c.vars }

pub drop-at : (lines : List Line) (i : ℕ) (line : Line) → slice_get lines i ≡ Some line
    → drop i lines ≡ line ∷ drop (suc i) lines
drop-at [] i line there = absurd (cc)
drop-at (x ∷ xs) zero line there = let same : x ≡ line = cc in ap (λ (y : Line). y ∷ xs) same
drop-at (x ∷ xs) (suc i) line there = drop-at xs i line there

-- ---- the lines of a block

-- exit stands last, and only there
abbrev pub ends_once : List Line → Bool
ends_once [] = false
ends_once (line ∷ []) = is_exit line.call
ends_once (line ∷ next ∷ rest) = not (is_exit line.call) && ends_once (next ∷ rest)

and-both : (a b : Bool) → a ≡ true → b ≡ true → (a && b) ≡ true
and-both true b h g = g
and-both false b h g = absurd (false≢true h)

and-first : (a b : Bool) → (a && b) ≡ true → a ≡ true
and-first true b h = refl
and-first false b h = absurd (false≢true h)

and-second : (a b : Bool) → (a && b) ≡ true → b ≡ true
and-second true b h = h
and-second false b h = absurd (false≢true h)

not-true : (a : Bool) → not a ≡ true → a ≡ false
not-true true h = absurd (false≢true h)
not-true false h = refl

ends-cons : (line : Line) (rest : List Line) → is_exit line.call ≡ false → ends_once rest ≡ true
    → ends_once (line ∷ rest) ≡ true
ends-cons line [] h g = absurd (false≢true g)
ends-cons line (next ∷ rest) h g = and-both (not (is_exit line.call)) (ends_once (next ∷ rest)) (ap not h) g

block-ends : (lines : List Line) → ends_once (with_exit lines) ≡ true
block-ends [] = refl
block-ends (line ∷ lines) = by (is_exit line.call) refl (block-ends lines)
  where
    by : (t : Bool) → is_exit line.call ≡ t → ends_once (with_exit lines) ≡ true
        → ends_once (if t then line ∷ [] else line ∷ with_exit lines) ≡ true
    by true h rest = h
    by false h rest = ends-cons line (with_exit lines) h rest

cons-not-nil : (line : Line) (rest : List Line) → [] ≡ line ∷ rest → ⊥
cons-not-nil line rest h = absurd (cc)

drop-nil : (i : ℕ) (line : Line) (rest : List Line) → drop i [] ≡ line ∷ rest → ⊥
drop-nil zero line rest h = cons-not-nil line rest h
drop-nil (suc i) line rest h = cons-not-nil line rest h

ends-drop : (i : ℕ) (lines : List Line) (line : Line) (rest : List Line) → ends_once lines ≡ true
    → drop i lines ≡ line ∷ rest → ends_once (line ∷ rest) ≡ true
ends-drop i [] line rest h is = absurd (drop-nil i line rest is)
ends-drop zero (x ∷ xs) line rest h is = subst (λ (ls : List Line). ends_once ls ≡ true) is h
ends-drop (suc i) (x ∷ []) line rest h is = absurd (drop-nil i line rest is)
ends-drop (suc i) (x ∷ y ∷ ys) line rest h is =
    ends-drop i (y ∷ ys) line rest (and-second (not (is_exit x.call)) (ends_once (y ∷ ys)) h) is

lines-end : (o : Option Block) (i : ℕ) (line : Line) (rest : List Line) → drop i (lines_in o) ≡ line ∷ rest
    → ends_once (line ∷ rest) ≡ true
lines-end None i line rest is = absurd (drop-nil i line rest is)
lines-end (Some block) i line rest is = ends-drop i (with_exit block.lines) line rest (block-ends block.lines) is

-- what is left of a block ends once, too
pub left-ends : (script : Script) (p : ℕ) (c : Caller) (line : Line) (rest : List Line)
    → (caller_place script p c).left ≡ line ∷ rest → ends_once (line ∷ rest) ≡ true
left-ends script p c line rest is = lines-end (block_at script p) c.line line rest is

last-exit : (line : Line) (rest : List Line) → ends_once (line ∷ rest) ≡ true → is_exit line.call ≡ true → rest ≡ []
last-exit line [] h exits = refl
last-exit line (next ∷ rest) h exits =
    absurd (false≢true (sym (not-true (is_exit line.call)
    (and-first (not (is_exit line.call)) (ends_once (next ∷ rest)) h)) ∙ exits))

more-lines : (line : Line) (rest : List Line) → ends_once (line ∷ rest) ≡ true → is_exit line.call ≡ false
    → rest ≡ [] → ⊥
more-lines line [] h goes is = false≢true (sym goes ∙ h)
more-lines line (next ∷ rest) h goes is = absurd (cc)

-- ---- the call that is due

-- it is that of the first line left
pub record DueLine (place : Place) (call : Call) : Type 0 where
  pub line : Line
  pub rest : List Line
  pub left : place.left ≡ line ∷ rest
  pub call_is : call_of line place.vars ≡ call

some-is : {A : Type 0} (x y : A) → Some x ≡ Some y → x ≡ y
some-is x y h = cc

due-by : (place : Place) (call : Call) (lines : List Line) → place.left ≡ lines
    → call_due place lines ≡ Some call → DueLine place call
due-by place call [] is h = absurd (cc)
due-by place call (line ∷ rest) is h =
    record { line = line; rest = rest; left = is; call_is = some-is (call_of line place.vars) call h }

-- a call that is due is that of the line
pub due-line : (place : Place) (call : Call) → due place ≡ Some call → DueLine place call
due-line place call h = due-by place call place.left refl h

due-some : (place : Place) (lines : List Line) → place.left ≡ lines → (lines ≡ [] → ⊥)
    → (call : Call) × (due place ≡ Some call)
due-some place [] is h = absurd (h refl)
due-some place (line ∷ rest) is h =
    (call_of line place.vars, ap (call_due place) is)

-- some call is due where a line is left
pub some-due : (place : Place) → (place.left ≡ [] → ⊥) → (call : Call) × (due place ≡ Some call)
some-due place h = due-some place place.left refl h

-- the number that a variable names doesn't change what kind of call it is
exit-target : (call : Call) (n : ℕ) → is_exit (with_target call n) ≡ is_exit call
exit-target (calls.Fork block) n = refl
exit-target call n = refl

killed-target : (call : Call) (n : ℕ) → is_killed (with_target call n) ≡ is_killed call
killed-target (calls.Fork block) n = refl
killed-target call n = refl

pub exit-of : (call : Call) (vars : Vars) (o : Option ℕ) → is_exit (call_from call vars o) ≡ is_exit call
exit-of call vars None = refl
exit-of call vars (Some v) = exit-target call (value_of vars v)

pub killed-of : (call : Call) (vars : Vars) (o : Option ℕ) → is_killed (call_from call vars o) ≡ is_killed call
killed-of call vars None = refl
killed-of call vars (Some v) = killed-target call (value_of vars v)

fork-target : (call : Call) (n block : ℕ) → with_target call n ≡ calls.Fork block → call ≡ calls.Fork block
fork-target (calls.Fork b) n block h = h
fork-target call n block h = absurd (cc)

-- nor does it make a fork of another call
pub fork-of : (call : Call) (vars : Vars) (o : Option ℕ) (block : ℕ) → call_from call vars o ≡ calls.Fork block
    → call ≡ calls.Fork block
fork-of call vars None block h = h
fork-of call vars (Some v) block h = fork-target call (value_of vars v) block h

-- ---- the place afterwards

after-by : (place : Place) (call : Call) (reply : Reply) (line : Line) (rest : List Line) (again : Bool)
    → place.left ≡ line ∷ rest
    → ((if again then record place { tried = place.tried + 1 }
    else record { left = rest; tried = 0; vars = set_variable place.vars line.set (value_in (Some reply)) }).left
    ≡ line ∷ rest)
    ⊎ ((if again then record place { tried = place.tried + 1 }
    else record { left = rest; tried = 0; vars = set_variable place.vars line.set (value_in (Some reply)) }).left
    ≡ rest)
after-by place call reply line rest true is = inl is
after-by place call reply line rest false is = inr refl

-- after a reply the line is due again, or is passed
pub after-cases : (place : Place) (call : Call) (reply : Reply) (line : Line) (rest : List Line)
    → place.left ≡ line ∷ rest
    → ((place_after place call (Some reply)).left ≡ line ∷ rest) ⊎ ((place_after place call (Some reply)).left ≡ rest)
after-cases place call reply line rest is =
    let same = ap (λ ls. (after_reply place call reply ls).left) is
    in elim (after-by place call reply line rest
    (asks_again call (Some reply) && nat_lt (place.tried + 1) line.tries) is) [
      | inl stays ↦ inl (same ∙ stays)
      | inr passes ↦ inr (same ∙ passes)
    ]

-- it is passed where the call isn't tried again
pub passes : (place : Place) (call : Call) (reply : Reply) (line : Line) (rest : List Line) → place.left ≡ line ∷ rest
    → asks_again call (Some reply) ≡ false → (place_after place call (Some reply)).left ≡ rest
passes place call reply line rest is once =
    ap (λ ls. (after_reply place call reply ls).left) is
    ∙ ap (λ (t : Bool). (if t && nat_lt (place.tried + 1) line.tries then record place { tried = place.tried + 1 }
    else record { left = rest; tried = 0; vars = set_variable place.vars line.set (value_in (Some reply)) }).left) once

-- a process that makes another call than an end has more to do
pub goes-on : (script : Script) (p : ℕ) (c : Caller) (call : Call) (reply : Reply)
    → due (caller_place script p c) ≡ Some call → is_exit call ≡ false
    → (place_after (caller_place script p c) call (Some reply)).left ≡ [] → ⊥
goes-on script p c call reply h goes over =
    let place : Place = caller_place script p c
    in let d = due-line place call h
    in let ends = left-ends script p c d.line d.rest d.left
    in let line_goes : is_exit d.line.call ≡ false =
    sym (exit-of d.line.call place.vars d.line.from) ∙ ap is_exit d.call_is ∙ goes
    in elim (after-cases place call reply d.line d.rest d.left) [
      | inl stays ↦ cons-not-nil d.line d.rest (sym over ∙ stays)
      | inr passed ↦ more-lines d.line d.rest ends line_goes (sym passed ∙ over)
    ]

-- `exit` is the last call
pub exit-ends : (script : Script) (p : ℕ) (c : Caller) (status : ℕ)
    → due (caller_place script p c) ≡ Some (calls.Exit status)
    → (place_after (caller_place script p c) (calls.Exit status) (Some replies.Ended)).left ≡ []
exit-ends script p c status h =
    let place : Place = caller_place script p c
    in let d = due-line place (calls.Exit status) h
    in let ends = left-ends script p c d.line d.rest d.left
    in let exits : is_exit d.line.call ≡ true =
    sym (exit-of d.line.call place.vars d.line.from) ∙ ap is_exit d.call_is
    in passes place (calls.Exit status) replies.Ended d.line d.rest d.left refl ∙ last-exit d.line d.rest ends exits

-- a call that ends its process is its last one
abbrev pub is_end : Call → Bool
is_end (calls.Exit status) = true
is_end (calls.Killed sig) = true
is_end call = false

-- behind the call that ends a process no line is left
pub end-is-last : (script : Script) (p : ℕ) (c : Caller) (call : Call) → IsDue (caller_place script p c) call
    → is_end call ≡ true → (move_on (caller_place script p c) call (Some replies.Ended)).left ≡ []
end-is-last script p c (calls.Exit status) (inl h) ends = exit-ends script p c status h
end-is-last script p c (calls.Exit status) (inr h) ends = absurd (false≢true h.0)
end-is-last script p c (calls.Killed sig) h ends = refl
end-is-last script p c call h ends = absurd (false≢true ends)

-- what the lines left have, they had before
pub left-shrinks : (place : Place) (call : Call) (reply : Reply) (test : Line → Bool)
    → list_any test (move_on place call (Some reply)).left ≡ true → list_any test place.left ≡ true
left-shrinks place call reply test h = by (is_killed call) h
  where
    after : (lines : List Line) → place.left ≡ lines
        → list_any test (place_after place call (Some reply)).left ≡ true → list_any test place.left ≡ true
    after [] is g =
        ap (λ ls. list_any test ls) is
        ∙ sym (ap (λ ls. list_any test (after_reply place call reply ls).left) is ∙ ap (λ ls. list_any test ls) is)
        ∙ g
    after (line ∷ rest) is g =
        elim (after-cases place call reply line rest is) [
          | inl stays ↦ ap (list_any test) is ∙ sym (ap (list_any test) stays) ∙ g
          | inr passed ↦
              ap (list_any test) is
              ∙ or_right (test line) (list_any test rest) (sym (ap (list_any test) passed) ∙ g)
        ]

    by : (t : Bool)
        → list_any test (if t then record place { left = [] } else place_after place call (Some reply)).left ≡ true
        → list_any test place.left ≡ true
    by true g = absurd (false≢true g)
    by false g = after place.left refl g

-- a fork's line is passed
pub record ForkPasses (place : Place) (block child : ℕ) : Type 0 where
  pub line : Line
  pub rest : List Line
  pub left : place.left ≡ line ∷ rest
  pub call_is : line.call ≡ calls.Fork block
  pub after : (place_after place (calls.Fork block) (Some (replies.Num child))).left ≡ rest

-- a fork that is carried out is behind its process
pub fork-passes : (place : Place) (block child : ℕ) → due place ≡ Some (calls.Fork block)
    → ForkPasses place block child
fork-passes place block child h =
    let d = due-line place (calls.Fork block) h
    in record {
      line = d.line;
      rest = d.rest;
      left = d.left;
      call_is = fork-of d.line.call place.vars d.line.from block d.call_is;
      after = passes place (calls.Fork block) (replies.Num child) d.line d.rest d.left refl;
    }

-- ---- the calls of a sound script

all-get : {X : Type 0} (test : X → Bool) (xs : List X) (i : ℕ) (x : X) → list_all test xs ≡ true
    → slice_get xs i ≡ Some x → test x ≡ true
all-get test [] i x h is = absurd (cc)
all-get test (y ∷ ys) zero x h is =
    let same : y ≡ x = cc in ap test (sym same) ∙ and-first (test y) (list_all test ys) h
all-get test (y ∷ ys) (suc i) x h is = all-get test ys i x (and-second (test y) (list_all test ys) h) is

all-with-exit : (test : Line → Bool) (lines : List Line) → test implied_exit ≡ true → list_all test lines ≡ true
    → list_all test (with_exit lines) ≡ true
all-with-exit test [] implied h = and-both (test implied_exit) true implied refl
all-with-exit test (line ∷ lines) implied h =
    by (is_exit line.call) (all-with-exit test lines implied (and-second (test line) (list_all test lines) h))
  where
    by : (t : Bool) → list_all test (with_exit lines) ≡ true
        → list_all test (if t then line ∷ [] else line ∷ with_exit lines) ≡ true
    by true rest = and-both (test line) true (and-first (test line) (list_all test lines) h) refl
    by false rest =
        and-both (test line) (list_all test (with_exit lines)) (and-first (test line) (list_all test lines) h) rest

all-drop : (test : Line → Bool) (i : ℕ) (lines : List Line) (line : Line) (rest : List Line)
    → list_all test lines ≡ true → drop i lines ≡ line ∷ rest → test line ≡ true
all-drop test i [] line rest h is = absurd (drop-nil i line rest is)
all-drop test zero (x ∷ xs) line rest h is =
    let same : x ≡ line = cc in ap test (sym same) ∙ and-first (test x) (list_all test xs) h
all-drop test (suc i) (x ∷ xs) line rest h is =
    all-drop test i xs line rest (and-second (test x) (list_all test xs) h) is

all-in : (test : Line → Bool) (script : Script) (o : Option Block) (p i : ℕ) (line : Line) (rest : List Line)
    → block_at script p ≡ o → test implied_exit ≡ true
    → list_all (λ (b : Block). list_all test b.lines) script.blocks ≡ true → drop i (lines_in o) ≡ line ∷ rest
    → test line ≡ true
all-in test script None p i line rest there implied h is = absurd (drop-nil i line rest is)
all-in test script (Some block) p i line rest there implied h is =
    all-drop test i (with_exit block.lines) line rest
    (all-with-exit test block.lines implied
    (all-get (λ (b : Block). list_all test b.lines) script.blocks _ block h there)) is

in-range-not-killed : (call : Call) → is_in_range call ≡ true → is_killed call ≡ false
in-range-not-killed (calls.Killed sig) h = absurd (false≢true h)
in-range-not-killed call h = refl

line-in-range : (line : Line) → is_line line ≡ true → is_in_range line.call ≡ true
line-in-range line h =
    let from : Bool = if is_some line.from then can_name line.call else is_process_in_range line.call
    in let later : Bool = from && (is_variable line.set && is_variable line.from)
    in let ranged : Bool = is_in_range line.call && later
    in and-first (is_in_range line.call) later
    (and-second (sets_rightly line) ranged
    (and-second (is_tried_once line) (sets_rightly line && ranged)
    (and-second (is_between 1 max_calls line.tries) (is_tried_once line && (sets_rightly line && ranged)) h)))

in-range-not-withdrawal : (call : Call) → is_in_range call ≡ true → is_withdrawal call ≡ false
in-range-not-withdrawal (calls.Withdraw name) h = absurd (false≢true h)
in-range-not-withdrawal call h = refl

withdrawal-target : (call : Call) (n : ℕ) → is_withdrawal (with_target call n) ≡ is_withdrawal call
withdrawal-target (calls.Kill pid sig) n = refl
withdrawal-target (calls.WaitPid child nohang) n = refl
withdrawal-target call n = refl

-- a variable doesn't make a call a withdrawal
withdrawal-of : (call : Call) (vars : Vars) (o : Option ℕ) → is_withdrawal (call_from call vars o) ≡ is_withdrawal call
withdrawal-of call vars None = refl
withdrawal-of call vars (Some v) = withdrawal-target call (value_of vars v)

-- the call due in a block is no end by a signal, and no withdrawal
pub record IsFineCall (call : Call) : Type 0 where
  pub not_killed : is_killed call ≡ false
  pub not_withdrawal : is_withdrawal call ≡ false

-- a call that is due in a sound script is within the ranges of its types
pub due-is-fine : (script : Script) (p : ℕ) (c : Caller) (call : Call) → IsSoundScript script
    → due (caller_place script p c) ≡ Some call → IsFineCall call
due-is-fine script p c call sound h =
    let place : Place = caller_place script p c
    in let d = due-line place call h
    in let lines = all-in is_line script (block_at script p) p c.line d.line d.rest refl refl sound.lines d.left
    in record {
      not_killed = ap is_killed (sym d.call_is) ∙ killed-of d.line.call place.vars d.line.from
          ∙ in-range-not-killed d.line.call (line-in-range d.line lines);
      not_withdrawal = ap is_withdrawal (sym d.call_is) ∙ withdrawal-of d.line.call place.vars d.line.from
          ∙ in-range-not-withdrawal d.line.call (line-in-range d.line lines);
    }

-- ---- who may make it

may-unspent : (a : Alive) (call : Call) → is_killed call ≡ false → is_spent a.allowance ≡ false
    → may_make a call ≡ true
may-unspent a (calls.Killed sig) h unspent = absurd (false≢true (sym h))
may-unspent a call h unspent = ap not unspent

-- the call that is due, or the end by its doom, in the history and for the kernel
pub record IsDueNow (place : Place) (a : Alive) (call : Call) : Type 0 where
  pub due : IsDue place call
  pub may : may_make a call ≡ true
  pub not_withdrawal : is_withdrawal call ≡ false

due-now-by : (k : Kernel) (pid : ℕ) (a : Alive) (script : Script) (p : ℕ) (c : Caller) (call : Call) (o : Option Sig)
    → IsValid k → living_at k pid ≡ Some a → IsSoundScript script → ((caller_place script p c).left ≡ [] → ⊥)
    → a.row.signals.doom ≡ o → due_call script p c o ≡ Some call → IsDueNow (caller_place script p c) a call
due-now-by k pid a script p c call None valid lives sound more calm h =
    let fine = due-is-fine script p c call sound h
    in let free : a.allowance ≡ Free = (valid.alive pid a lives).allowed.0 calm
    in record {
      due = inl h;
      may = may-unspent a call fine.not_killed (ap is_spent free);
      not_withdrawal = fine.not_withdrawal;
    }
due-now-by k pid a script p c call (Some g) valid lives sound more doomed h =
    let is : calls.Killed g ≡ call = some-is (calls.Killed g) call h
    in let other = some-due (caller_place script p c) more
    in let may : is_doomed_by a.row.signals.doom g ≡ true =
    ap (λ (d : Option Sig). is_doomed_by d g) doomed ∙ eq-eqb (signal_number g) (signal_number g) refl
    in subst (λ (x : Call). IsDueNow (caller_place script p c) a x) is
    (record { due = inr (refl, other.0, other.1); may = may; not_withdrawal = refl })

-- The call that a node starts is due in the history, and its process may make it.
pub due-now : (k : Kernel) (pid : ℕ) (a : Alive) (script : Script) (p : ℕ) (c : Caller) (call : Call) → IsValid k
    → living_at k pid ≡ Some a → IsSoundScript script → ((caller_place script p c).left ≡ [] → ⊥)
    → due_call script p c a.row.signals.doom ≡ Some call → IsDueNow (caller_place script p c) a call
due-now k pid a script p c call valid lives sound more h =
    due-now-by k pid a script p c call a.row.signals.doom valid lives sound more refl h
