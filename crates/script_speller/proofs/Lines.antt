-- Lines with a call: the spelling of a line says what the line says, and is no longer.
use Rattle.std.proofs.Common.{◌≡◌, ℕ, ◌+◌, ◌≤◌, Bool, true, false, ◌&&◌, not, cond, eqb, leb, List, [], ◌∷◌, ◌++◌, length, Option, Some, None, refl, sym, ap, subst, ◌∙◌, append_assoc, arith}
use Rattle.std.specs.Prelude.{IfSome, codes, bytes_eq}
use Rattle.std.specs.Fmt.{decimal}
use Rattle.std.specs.List.{find, list_all}
use Rattle.std.specs.Option.{unwrap_or}
use Rattle.std.proofs.lemmas.Bool.{and_parts, and_from, leb-true, le-leb, eqb-true, ne_eqb, not-true}
use Rattle.std.proofs.lemmas.Slice.Eq.{bytes_eq-Decides}
use Rattle.pico_base.specs.declared.script.Line.{Line}
use Rattle.pico_base.specs.declared.script.Script.{Script}
use Rattle.kernel_model.specs.Script.{is_lower, is_name_byte, is_name}
use Rattle.kernel_model.specs.Fitting.{block_at}
use Rattle.kernel_model.specs.Trace.{name_of_block}
use Rattle.call_words.specs.declared.verb.Verb.{Verb}
use Rattle.call_words.specs.declared.verb.Verb.TheVariants as verbs
use Rattle.script_reader.specs.declared.says.Front.{Front}
use Rattle.script_reader.specs.declared.says.Front.TheVariants.{Wrong, Gives}
use Rattle.script_reader.specs.declared.says.Said.{Said}
use Rattle.script_reader.specs.declared.says.Said.TheVariants.{Skipped, BadProc, Ends, Unknown, Bad, Forks, Calls}
use Rattle.script_reader.specs.Words.{words_of}
use Rattle.script_reader.specs.Words.Stretch.{plain}
use Rattle.script_reader.specs.Parts.{positive, variable}
use Rattle.call_words.specs.Verbs.{verb_name, verb_of, all_verbs}
use Rattle.script_reader.specs.Forms.{FromCall, call_of}
use Rattle.script_reader.specs.Says as says
use Rattle.script_reader.specs.Says.{number_of, said_of}
use Rattle.script_reader.specs.Fault.{is_call, fork_line, node_of}
use Rattle.script_reader.proofs.Widths.{width, line_width}
use Rattle.script_speller.specs.Spelling.{variable_text, call_name, arguments, behind_blanks, separated, set_front, tries_front, line_text}
use Rattle.script_speller.proofs.Separated.{is_solid, is_word, is_rest, is_printable, AreWords, words_again, words_are_printable, separated_width}
use Rattle.script_speller.proofs.Numbers.{Spelt, is_argument, argument_from, IsVariable, variable_spelt, positive_spelt}
use Rattle.script_speller.proofs.Names.{IsArgument, found}
use Rattle.script_speller.proofs.CallWords.{AreArguments, Again, call_again, of_some}

-- ---- a line's words

abbrev set_words : Option ℕ → List (List ℕ)
set_words None = []
set_words (Some v) = variable_text v ∷ codes "=" ∷ []

abbrev tries_words : ℕ → List (List ℕ)
tries_words n = cond (eqb n 1) [] (codes "try" ∷ decimal n ∷ [])

-- the words from `try` on
abbrev tried_words : ℕ → List ℕ → List (List ℕ) → List (List ℕ)
tried_words n name args = tries_words n ++ name ∷ args

abbrev all_words : Option ℕ → ℕ → List ℕ → List (List ℕ) → List (List ℕ)
all_words set n name args = set_words set ++ tried_words n name args

tried_text : (n : ℕ) (name : List ℕ) (args : List (List ℕ))
    → tries_front n ++ (name ++ behind_blanks args) ≡ separated 32 (tried_words n name args)
tried_text n name args = of (eqb n 1)
  where
    of : (c : Bool) → cond c [] (codes "try " ++ (decimal n ++ 32 ∷ [])) ++ (name ++ behind_blanks args)
        ≡ separated 32 (cond c [] (codes "try" ∷ decimal n ∷ []) ++ name ∷ args)
    of true = refl
    of false =
        ap (λ (xs : List ℕ). codes "try " ++ xs) (append_assoc (decimal n) (32 ∷ []) (name ++ behind_blanks args))

tried_behind : (n : ℕ) (name : List ℕ) (args : List (List ℕ))
    → behind_blanks (tried_words n name args) ≡ 32 ∷ separated 32 (tried_words n name args)
tried_behind n name args = of (eqb n 1)
  where
    of : (c : Bool) → behind_blanks (cond c [] (codes "try" ∷ decimal n ∷ []) ++ name ∷ args)
        ≡ 32 ∷ separated 32 (cond c [] (codes "try" ∷ decimal n ∷ []) ++ name ∷ args)
    of true = refl
    of false = refl

front_text : (set : Option ℕ) (n : ℕ) (name : List ℕ) (args : List (List ℕ))
    → set_front set ++ (tries_front n ++ (name ++ behind_blanks args)) ≡ separated 32 (all_words set n name args)
front_text None n name args = tried_text n name args
front_text (Some v) n name args =
    append_assoc (variable_text v) (codes " = ") (tries_front n ++ (name ++ behind_blanks args))
    ∙ ap (λ (xs : List ℕ). variable_text v ++ 32 ∷ 61 ∷ 32 ∷ xs) (tried_text n name args)
    ∙ ap (λ (xs : List ℕ). variable_text v ++ 32 ∷ 61 ∷ xs) (sym (tried_behind n name args))

-- the text of a line is its words, with one blank between each two
line_is_words : (script : Script) (line : Line)
    → line_text script line
    ≡ separated 32 (all_words line.set line.tries (call_name line.call) (arguments script line.from line.call))
unfolding line_text
line_is_words script line =
    front_text line.set line.tries (call_name line.call) (arguments script line.from line.call)

-- ---- first words

-- a word that heads a line with a call
record IsHead (w : List ℕ) : Type 0 where
  no_comment : says.is_comment w ≡ false
  no_proc : bytes_eq w (codes "proc") ≡ false
  no_end : bytes_eq w (codes "end") ≡ false

verb_head : (verb : Verb) → IsHead (verb_name verb)
unfolding says.is_comment
verb_head verbs.Fork = record { no_comment = refl; no_proc = refl; no_end = refl }
verb_head verbs.Exit = record { no_comment = refl; no_proc = refl; no_end = refl }
verb_head verbs.GetPid = record { no_comment = refl; no_proc = refl; no_end = refl }
verb_head verbs.Kill = record { no_comment = refl; no_proc = refl; no_end = refl }
verb_head verbs.SigAction = record { no_comment = refl; no_proc = refl; no_end = refl }
verb_head verbs.SigProcMask = record { no_comment = refl; no_proc = refl; no_end = refl }
verb_head verbs.SigPending = record { no_comment = refl; no_proc = refl; no_end = refl }
verb_head verbs.Handled = record { no_comment = refl; no_proc = refl; no_end = refl }
verb_head verbs.WaitPid = record { no_comment = refl; no_proc = refl; no_end = refl }
verb_head verbs.MsgGet = record { no_comment = refl; no_proc = refl; no_end = refl }
verb_head verbs.MsgSnd = record { no_comment = refl; no_proc = refl; no_end = refl }
verb_head verbs.MsgRcv = record { no_comment = refl; no_proc = refl; no_end = refl }
verb_head verbs.MsgCtl = record { no_comment = refl; no_proc = refl; no_end = refl }
verb_head verbs.SemGet = record { no_comment = refl; no_proc = refl; no_end = refl }
verb_head verbs.SemOp = record { no_comment = refl; no_proc = refl; no_end = refl }
verb_head verbs.SemCtl = record { no_comment = refl; no_proc = refl; no_end = refl }

verb_is : (verb : Verb) → (verb_of (verb_name verb) ≡ Some verb) × (bytes_eq (verb_name verb) (codes "try") ≡ false)
    × (is_word (verb_name verb) ≡ true)
unfolding verb_of
verb_is verbs.Fork = (refl, refl, refl)
verb_is verbs.Exit = (refl, refl, refl)
verb_is verbs.GetPid = (refl, refl, refl)
verb_is verbs.Kill = (refl, refl, refl)
verb_is verbs.SigAction = (refl, refl, refl)
verb_is verbs.SigProcMask = (refl, refl, refl)
verb_is verbs.SigPending = (refl, refl, refl)
verb_is verbs.Handled = (refl, refl, refl)
verb_is verbs.WaitPid = (refl, refl, refl)
verb_is verbs.MsgGet = (refl, refl, refl)
verb_is verbs.MsgSnd = (refl, refl, refl)
verb_is verbs.MsgRcv = (refl, refl, refl)
verb_is verbs.MsgCtl = (refl, refl, refl)
verb_is verbs.SemGet = (refl, refl, refl)
verb_is verbs.SemOp = (refl, refl, refl)
verb_is verbs.SemCtl = (refl, refl, refl)

try_head : IsHead (codes "try")
unfolding says.is_comment
try_head = record { no_comment = refl; no_proc = refl; no_end = refl }

head_said : (names : List (List ℕ)) (w : List ℕ) (ws : List (List ℕ)) → IsHead w
    → says.words_said names (w ∷ ws) ≡ says.line_said names (w ∷ ws)
unfolding says.words_said
head_said names w ws h = rw (h.no_comment, h.no_proc, h.no_end) refl

-- an argument isn't `=`
no_equals : (w : List ℕ) → is_argument w ≡ true → bytes_eq w (codes "=") ≡ false
no_equals [] h = refl
no_equals (b ∷ bytes) h =
    let p = and_parts (not (eqb b 61)) (is_word (b ∷ bytes)) h in rw (not-true (eqb b 61) p.0) refl

-- a word behind a call is a word
pub argument_word : (w : List ℕ) → is_argument w ≡ true → is_word w ≡ true
argument_word [] h = absurd cc
argument_word (b ∷ bytes) h = (and_parts (not (eqb b 61)) (is_word (b ∷ bytes)) h).1

argument_words : (ws : List (List ℕ)) → AreArguments ws → AreWords ws
argument_words [] h = tt
argument_words (w ∷ ws) h = (argument_word w h.0, argument_words ws h.1)

-- ---- a line's words are read

-- how often a line is tried, as it is read from its spelling
abbrev tries_again : ℕ → Front ℕ
tries_again n = cond (eqb n 1) (Gives None) (Gives (Some n))

record IsSetAgain (v : ℕ) : Type 0 where
  read : variable (variable_text v) ≡ Some v
  head : IsHead (variable_text v)
  argument : is_argument (variable_text v) ≡ true

abbrev IsTriesAgain : ℕ → Type 0
IsTriesAgain n = eqb n 1 ≡ false → (positive 20000 (decimal n) ≡ Some n) × (is_argument (decimal n) ≡ true)

set_at_none : (w : List ℕ) (ws : List (List ℕ)) → AreArguments ws
    → says.set_at (w ∷ ws) ≡ (says.nothing, w ∷ ws)
unfolding says.set_at
set_at_none w [] h = refl
set_at_none w (x ∷ ws) h = rw (no_equals x h.0) refl

set_at_try : (n : ℕ) (rest : List (List ℕ)) → is_argument (decimal n) ≡ true
    → says.set_at (codes "try" ∷ decimal n ∷ rest) ≡ (says.nothing, codes "try" ∷ decimal n ∷ rest)
unfolding says.set_at
set_at_try n rest h = rw (no_equals (decimal n) h) refl

tries_at_none : (w : List ℕ) (ws : List (List ℕ)) → bytes_eq w (codes "try") ≡ false
    → says.tries_at (w ∷ ws) ≡ (says.nothing, w ∷ ws)
unfolding says.tries_at
tries_at_none w [] h = rw h refl
tries_at_none w (x ∷ ws) h = rw h refl

tries_at_try : (n : ℕ) (rest : List (List ℕ)) → positive 20000 (decimal n) ≡ Some n
    → says.tries_at (codes "try" ∷ decimal n ∷ rest) ≡ (Gives (Some n), rest)
unfolding says.tries_at
tries_at_try n rest h = rw h refl

-- the call behind both fronts
behind_fronts : (names : List (List ℕ)) (ws rest : List (List ℕ)) (front : Front ℕ × List (List ℕ)) (tries : Front ℕ)
    → says.set_at ws ≡ front → says.tries_at front.1 ≡ (tries, rest)
    → says.line_said names ws ≡ says.call_said names front.0 tries rest
unfolding says.line_said
behind_fronts names ws rest front tries e f = rw (e, f) refl

module _ (names : List (List ℕ)) (verb : Verb) (args : List (List ℕ)) (words : AreArguments args) where
  name_said : (set tries : Front ℕ) → says.call_said names set tries (verb_name verb ∷ args)
      ≡ says.verb_said names set tries verb args
  unfolding says.call_said
  name_said set tries = rw (verb_is verb).0 refl

  -- from `try` on
  tried_said : (n : ℕ) → IsTriesAgain n
      → says.tries_at (tried_words n (verb_name verb) args) ≡ (tries_again n, verb_name verb ∷ args)
  tried_said n h = of (eqb n 1) refl
    where
      of : (c : Bool) → eqb n 1 ≡ c
          → says.tries_at (cond c [] (codes "try" ∷ decimal n ∷ []) ++ verb_name verb ∷ args)
          ≡ (cond c (Gives None) (Gives (Some n)), verb_name verb ∷ args)
      of true e = tries_at_none (verb_name verb) args (verb_is verb).1
      of false e = tries_at_try n (verb_name verb ∷ args) (h e).0

  no_set : (n : ℕ) → IsTriesAgain n
      → says.set_at (tried_words n (verb_name verb) args) ≡ (says.nothing, tried_words n (verb_name verb) args)
  no_set n h = of (eqb n 1) refl
    where
      of : (c : Bool) → eqb n 1 ≡ c
          → says.set_at (cond c [] (codes "try" ∷ decimal n ∷ []) ++ verb_name verb ∷ args)
          ≡ (says.nothing, cond c [] (codes "try" ∷ decimal n ∷ []) ++ verb_name verb ∷ args)
      of true e = set_at_none (verb_name verb) args words
      of false e = set_at_try n (verb_name verb ∷ args) (h e).1

  tried_head : (n : ℕ)
      → says.words_said names (tried_words n (verb_name verb) args)
      ≡ says.line_said names (tried_words n (verb_name verb) args)
  tried_head n = of (eqb n 1)
    where
      of : (c : Bool) → says.words_said names (cond c [] (codes "try" ∷ decimal n ∷ []) ++ verb_name verb ∷ args)
          ≡ says.line_said names (cond c [] (codes "try" ∷ decimal n ∷ []) ++ verb_name verb ∷ args)
      of true = head_said names (verb_name verb) args (verb_head verb)
      of false = head_said names (codes "try") (decimal n ∷ verb_name verb ∷ args) try_head

  set_said : (v : ℕ) (rest : List (List ℕ)) → variable (variable_text v) ≡ Some v
      → says.set_at (variable_text v ∷ codes "=" ∷ rest) ≡ (Gives (Some v), rest)
  unfolding says.set_at
  set_said v rest h = rw h refl

  -- a line's words say its call
  words_said_again : (set : Option ℕ) (n : ℕ) → IfSome set IsSetAgain → IsTriesAgain n
      → says.words_said names (all_words set n (verb_name verb) args)
      ≡ says.verb_said names (Gives set) (tries_again n) verb args
  words_said_again None n s t =
      let tail : List (List ℕ) = tried_words n (verb_name verb) args in
      tried_head n
      ∙ behind_fronts names tail (verb_name verb ∷ args) (says.nothing, tail) (tries_again n) (no_set n t)
      (tried_said n t)
      ∙ name_said (Gives None) (tries_again n)
  words_said_again (Some v) n s t =
      let tail : List (List ℕ) = tried_words n (verb_name verb) args in
      let whole : List (List ℕ) = variable_text v ∷ codes "=" ∷ tail in
      head_said names (variable_text v) (codes "=" ∷ tail) s.head
      ∙ behind_fronts names whole (verb_name verb ∷ args) (Gives (Some v), tail) (tries_again n)
      (set_said v tail s.read) (tried_said n t)
      ∙ name_said (Gives (Some v)) (tries_again n)

  tried_are_words : (n : ℕ) → IsTriesAgain n → AreWords (tried_words n (verb_name verb) args)
  tried_are_words n h = of (eqb n 1) refl
    where
      of : (c : Bool) → eqb n 1 ≡ c
          → AreWords (cond c [] (codes "try" ∷ decimal n ∷ []) ++ verb_name verb ∷ args)
      of true e = ((verb_is verb).2, argument_words args words)
      of false e =
          (refl, (argument_word (decimal n) (h e).1, ((verb_is verb).2, argument_words args words)))

  are_words : (set : Option ℕ) (n : ℕ) → IfSome set IsSetAgain → IsTriesAgain n
      → AreWords (all_words set n (verb_name verb) args)
  are_words None n s t = tried_are_words n t
  are_words (Some v) n s t = (argument_word (variable_text v) s.argument, (refl, tried_are_words n t))

-- ---- a line's words, as they were read

-- which way a test went, where its first way isn't this
pub pick : (b : Bool) (x y s : Said) → (x ≡ s → ⊥) → cond b x y ≡ s → (b ≡ false) × (y ≡ s)
pick true x y s h e = absurd (h e)
pick false x y s h e = (refl, e)

no_call : (x s : Said) → is_call x ≡ false → is_call s ≡ true → x ≡ s → ⊥
no_call x s h k e = let wrong : false ≡ true = sym h ∙ ap is_call e ∙ k in cc

proc_no_call : (names ws : List (List ℕ)) → is_call (says.proc_said names ws) ≡ false
unfolding says.proc_said
proc_no_call names [] = refl
proc_no_call names (name ∷ []) = of (is_name name) (number_of names name)
  where
    of : (b : Bool) (o : Option ℕ) → is_call (cond b (says.proc_from o name) BadProc) ≡ false
    of true None = refl
    of true (Some k) = refl
    of false o = refl
proc_no_call names (name ∷ x ∷ ws) = refl

end_no_call : (ws : List (List ℕ)) → is_call (says.end_said ws) ≡ false
unfolding says.end_said
end_no_call [] = refl
end_no_call (w ∷ ws) = refl

-- the first word of a line with a call
call_head : (names : List (List ℕ)) (w : List ℕ) (ws : List (List ℕ)) (s : Said) → is_call s ≡ true
    → says.words_said names (w ∷ ws) ≡ s → IsHead w × (says.line_said names (w ∷ ws) ≡ s)
unfolding says.words_said
call_head names w ws s is e =
    let line : Said = says.line_said names (w ∷ ws) in
    let end : Said = cond (bytes_eq w (codes "end")) (says.end_said ws) line in
    let proc : Said = cond (bytes_eq w (codes "proc")) (says.proc_said names ws) end in
    let a = pick (says.is_comment w) Skipped proc s (no_call Skipped s refl is) e in
    let b = pick (bytes_eq w (codes "proc")) (says.proc_said names ws) end s
    (no_call (says.proc_said names ws) s (proc_no_call names ws) is) a.1 in
    let c = pick (bytes_eq w (codes "end")) (says.end_said ws) line s
    (no_call (says.end_said ws) s (end_no_call ws) is) b.1 in
    (record { no_comment = a.0; no_proc = b.0; no_end = c.0 }, c.1)

verb_named : (name : List ℕ) (verb : Verb) → verb_of name ≡ Some verb → name ≡ verb_name verb
unfolding verb_of
verb_named name verb e =
    sym ((bytes_eq-Decides (verb_name verb) name).0 (of_some (find (λ v. bytes_eq (verb_name v) name) all_verbs)
    (λ v. bytes_eq (verb_name v) name ≡ true) (found (λ v. bytes_eq (verb_name v) name) all_verbs) verb e))

record CallParted (names : List (List ℕ)) (set tries : Front ℕ) (ws : List (List ℕ)) (s : Said) : Type 0 where
  verb : Verb
  args : List (List ℕ)
  whole : ws ≡ verb_name verb ∷ args
  said : says.verb_said names set tries verb args ≡ s

-- the call's name and the words behind it
call_parted : (names : List (List ℕ)) (set tries : Front ℕ) (ws : List (List ℕ)) (s : Said) → is_call s ≡ true
    → says.call_said names set tries ws ≡ s → CallParted names set tries ws s
unfolding says.call_said
call_parted names set tries [] s is e = absurd (no_call Bad s refl is e)
call_parted names set tries (name ∷ args) s is e = of (verb_of name) refl e
  where
    of : (o : Option Verb) → verb_of name ≡ o → says.named_said names set tries o args ≡ s
        → CallParted names set tries (name ∷ args) s
    of None f g = absurd (no_call Unknown s refl is g)
    of (Some verb) f g =
        record {
          verb = verb;
          args = args;
          whole = ap (λ (x : List ℕ). x ∷ args) (verb_named name verb f);
          said = g;
        }

bad_set : (names : List (List ℕ)) (tries : Front ℕ) (verb : Verb) (args : List (List ℕ))
    → is_call (says.verb_said names Wrong tries verb args) ≡ false
unfolding says.verb_said says.fork_said says.exit_said says.other_said
bad_set names tries verbs.Fork args = refl
bad_set names tries verbs.Exit args = refl
bad_set names tries verbs.GetPid args = refl
bad_set names tries verbs.Kill args = refl
bad_set names tries verbs.SigAction args = refl
bad_set names tries verbs.SigProcMask args = refl
bad_set names tries verbs.SigPending args = refl
bad_set names tries verbs.Handled args = refl
bad_set names tries verbs.WaitPid args = refl
bad_set names tries verbs.MsgGet args = refl
bad_set names tries verbs.MsgSnd args = refl
bad_set names tries verbs.MsgRcv args = refl
bad_set names tries verbs.MsgCtl args = refl
bad_set names tries verbs.SemGet args = refl
bad_set names tries verbs.SemOp args = refl
bad_set names tries verbs.SemCtl args = refl

bad_tries : (names : List (List ℕ)) (set : Option ℕ) (verb : Verb) (args : List (List ℕ))
    → is_call (says.verb_said names (Gives set) Wrong verb args) ≡ false
unfolding says.verb_said says.fork_said says.exit_said says.other_said
bad_tries names set verbs.Fork args = refl
bad_tries names None verbs.Exit args = refl
bad_tries names (Some v) verbs.Exit args = refl
bad_tries names set verbs.GetPid args = refl
bad_tries names set verbs.Kill args = refl
bad_tries names set verbs.SigAction args = refl
bad_tries names set verbs.SigProcMask args = refl
bad_tries names set verbs.SigPending args = refl
bad_tries names set verbs.Handled args = refl
bad_tries names set verbs.WaitPid args = refl
bad_tries names set verbs.MsgGet args = refl
bad_tries names set verbs.MsgSnd args = refl
bad_tries names set verbs.MsgRcv args = refl
bad_tries names set verbs.MsgCtl args = refl
bad_tries names set verbs.SemGet args = refl
bad_tries names set verbs.SemOp args = refl
bad_tries names set verbs.SemCtl args = refl

record TriesParted (names : List (List ℕ)) (set : Option ℕ) (ws : List (List ℕ)) (s : Said) : Type 0 where
  tries : Option ℕ
  verb : Verb
  args : List (List ℕ)
  again : IsTriesAgain (unwrap_or tries 1)
  short : width (tries_words (unwrap_or tries 1)) + width (verb_name verb ∷ args) ≤ width ws
  said : says.verb_said names (Gives set) (Gives tries) verb args ≡ s

none_tried : (names : List (List ℕ)) (set : Option ℕ) (ws : List (List ℕ)) (s : Said) → is_call s ≡ true
    → says.call_said names (Gives set) (Gives None) ws ≡ s → TriesParted names set ws s
none_tried names set ws s is e =
    let c = call_parted names (Gives set) (Gives None) ws s is e in
    let size : width ws ≡ width (verb_name c.verb ∷ c.args) = ap width c.whole in
    record {
      tries = None;
      verb = c.verb;
      args = c.args;
      again = λ f. absurd (let wrong : true ≡ false = f in cc);
      short = omega (arith, size);
      said = c.said;
    }

tries_width : (m : ℕ) → width (tries_words m) ≤ width (codes "try" ∷ decimal m ∷ [])
tries_width m = of (eqb m 1)
  where
    of : (c : Bool) → width (cond c [] (codes "try" ∷ decimal m ∷ [])) ≤ width (codes "try" ∷ decimal m ∷ [])
    of true = omega arith
    of false = omega arith

some_tried : (names : List (List ℕ)) (set : Option ℕ) (t n : List ℕ) (rest : List (List ℕ)) (s : Said)
    → is_call s ≡ true → bytes_eq t (codes "try") ≡ true
    → says.call_said names (Gives set) (says.given (positive 20000 n)) rest ≡ s
    → TriesParted names set (t ∷ n ∷ rest) s
some_tried names set t n rest s is head e = of (positive 20000 n) refl e
  where
    of : (o : Option ℕ) → positive 20000 n ≡ o → says.call_said names (Gives set) (says.given o) rest ≡ s
        → TriesParted names set (t ∷ n ∷ rest) s
    of None f g =
        let c = call_parted names (Gives set) Wrong rest s is g in
        absurd (no_call (says.verb_said names (Gives set) Wrong c.verb c.args) s (bad_tries names set c.verb c.args) is
        c.said)
    of (Some m) f g =
        let c = call_parted names (Gives set) (Gives (Some m)) rest s is g in
        let try : t ≡ codes "try" = (bytes_eq-Decides t (codes "try")).0 head in
        let number : Spelt n (decimal m) =
        (of_some (positive 20000 n) (λ k. Spelt n (decimal k) × (1 ≤ k)) (positive_spelt 20000 n (omega arith)) m f).0
        in
        record {
          tries = Some m;
          verb = c.verb;
          args = c.args;
          again = λ _. (ap (positive 20000) (sym number.same) ∙ f, number.argument);
          short = omega (arith, tries_width m, ap length try, ap length number.same, ap width c.whole);
          said = c.said;
        }

-- `try N`, where it is there
tries_parted : (names : List (List ℕ)) (set : Option ℕ) (ws : List (List ℕ)) (s : Said) → is_call s ≡ true
    → says.call_said names (Gives set) (says.tries_at ws).0 (says.tries_at ws).1 ≡ s → TriesParted names set ws s
unfolding says.tries_at
tries_parted names set [] s is e = none_tried names set [] s is e
tries_parted names set (t ∷ []) s is e = of (bytes_eq t (codes "try")) e
  where
    read : Bool → Front ℕ × List (List ℕ)
    read b = cond b (Wrong, []) (says.nothing, t ∷ [])

    of : (b : Bool) → says.call_said names (Gives set) (read b).0 (read b).1 ≡ s → TriesParted names set (t ∷ []) s
    of true g =
        let c = call_parted names (Gives set) Wrong [] s is g in
        absurd (no_call (says.verb_said names (Gives set) Wrong c.verb c.args) s (bad_tries names set c.verb c.args) is
        c.said)
    of false g = none_tried names set (t ∷ []) s is g
tries_parted names set (t ∷ n ∷ rest) s is e = of (bytes_eq t (codes "try")) refl e
  where
    read : Bool → Front ℕ × List (List ℕ)
    read b = cond b (says.given (positive 20000 n), rest) (says.nothing, t ∷ n ∷ rest)

    of : (b : Bool) → bytes_eq t (codes "try") ≡ b → says.call_said names (Gives set) (read b).0 (read b).1 ≡ s
        → TriesParted names set (t ∷ n ∷ rest) s
    of true head g = some_tried names set t n rest s is head g
    of false head g = none_tried names set (t ∷ n ∷ rest) s is g

record Parted (names ws : List (List ℕ)) (s : Said) : Type 0 where
  set : Option ℕ
  tries : Option ℕ
  verb : Verb
  args : List (List ℕ)
  set_again : IfSome set IsSetAgain
  tries_are : IsTriesAgain (unwrap_or tries 1)
  short : width (set_words set) + (width (tries_words (unwrap_or tries 1)) + width (verb_name verb ∷ args)) ≤ width ws
  said : says.verb_said names (Gives set) (Gives tries) verb args ≡ s

none_set : (names ws : List (List ℕ)) (s : Said) → is_call s ≡ true
    → says.call_said names (Gives None) (says.tries_at ws).0 (says.tries_at ws).1 ≡ s → Parted names ws s
none_set names ws s is e =
    let p = tries_parted names None ws s is e in
    record {
      set = None;
      tries = p.tries;
      verb = p.verb;
      args = p.args;
      set_again = tt;
      tries_are = p.again;
      short = omega (arith, p.short);
      said = p.said;
    }

some_set : (names : List (List ℕ)) (v e : List ℕ) (rest : List (List ℕ)) (s : Said) → is_call s ≡ true → IsHead v
    → bytes_eq e (codes "=") ≡ true
    → says.call_said names (says.given (variable v)) (says.tries_at rest).0 (says.tries_at rest).1 ≡ s
    → Parted names (v ∷ e ∷ rest) s
some_set names v e rest s is head equals g = of (variable v) refl g
  where
    of : (o : Option ℕ) → variable v ≡ o
        → says.call_said names (says.given o) (says.tries_at rest).0 (says.tries_at rest).1 ≡ s
        → Parted names (v ∷ e ∷ rest) s
    of None f h =
        let tries : Front ℕ = (says.tries_at rest).0 in
        let c = call_parted names Wrong tries (says.tries_at rest).1 s is h in
        absurd (no_call (says.verb_said names Wrong tries c.verb c.args) s (bad_set names tries c.verb c.args) is
        c.said)
    of (Some x) f h =
        let p = tries_parted names (Some x) rest s is h in
        let name : IsVariable v x = of_some (variable v) (IsVariable v) (variable_spelt v) x f in
        let sign : e ≡ codes "=" = (bytes_eq-Decides e (codes "=")).0 equals in
        record {
          set = Some x;
          tries = p.tries;
          verb = p.verb;
          args = p.args;
          set_again =
              record {
                read = ap variable (sym name.same) ∙ f;
                head = subst IsHead name.same head;
                argument = subst (λ w. is_argument w ≡ true) name.same name.argument;
              };
          tries_are = p.again;
          short = omega (arith, ap length name.same, ap length sign, p.short);
          said = p.said;
        }

-- `VAR =`, where it is there
line_parted : (names : List (List ℕ)) (w : List ℕ) (ws : List (List ℕ)) (s : Said) → is_call s ≡ true → IsHead w
    → says.line_said names (w ∷ ws) ≡ s → Parted names (w ∷ ws) s
unfolding says.line_said says.set_at
line_parted names w [] s is head e = none_set names (w ∷ []) s is e
line_parted names w (x ∷ rest) s is head e = of (bytes_eq x (codes "=")) refl e
  where
    read : Bool → Front ℕ × List (List ℕ)
    read b = cond b (says.given (variable w), rest) (says.nothing, w ∷ x ∷ rest)

    of : (b : Bool) → bytes_eq x (codes "=") ≡ b
        → says.call_said names (read b).0 (says.tries_at (read b).1).0 (says.tries_at (read b).1).1 ≡ s
        → Parted names (w ∷ x ∷ rest) s
    of true equals g = some_set names w x rest s is head equals g
    of false equals g = none_set names (w ∷ x ∷ rest) s is g

words_parted : (names ws : List (List ℕ)) (s : Said) → is_call s ≡ true → says.words_said names ws ≡ s
    → Parted names ws s
unfolding says.words_said
words_parted names [] s is e = absurd (no_call Skipped s refl is e)
words_parted names (w ∷ ws) s is e =
    let h = call_head names w ws s is e in line_parted names w ws s is h.0 h.1

-- ---- what a call's words say

-- the words behind a call's name, spelled
record ArgsAgain (names : List (List ℕ)) (script : Script) (set : Option ℕ) (n : ℕ) (verb : Verb)
    (args : List (List ℕ)) (line : Line) (s : Said) : Type 0 where
  set_is : line.set ≡ set
  tries_is : line.tries ≡ n
  name_is : call_name line.call ≡ verb_name verb
  words : AreArguments (arguments script line.from line.call)
  short : width (arguments script line.from line.call) ≤ width args
  said : says.verb_said names (Gives set) (tries_again n) verb (arguments script line.from line.call) ≡ s

-- a line of such words says the same, and is no longer
pub record SaidAgain (names : List (List ℕ)) (line : List ℕ) (s : Said) (text : List ℕ) : Type 0 where
  pub said : said_of names text ≡ s
  pub short : length text ≤ length line
  pub printable : list_all is_printable text ≡ true

append_width : (xs ys : List (List ℕ)) → width (xs ++ ys) ≡ width xs + width ys
append_width [] ys = omega arith
append_width (x ∷ xs) ys = omega (arith, append_width xs ys)

some_words : (set : Option ℕ) (n : ℕ) (name : List ℕ) (args : List (List ℕ))
    → length (separated 32 (all_words set n name args)) + 1 ≡ width (all_words set n name args)
some_words (Some v) n name args = separated_width 32 (variable_text v) (codes "=" ∷ tried_words n name args)
some_words None n name args = of (eqb n 1)
  where
    of : (c : Bool) → length (separated 32 (cond c [] (codes "try" ∷ decimal n ∷ []) ++ name ∷ args)) + 1
        ≡ width (cond c [] (codes "try" ∷ decimal n ∷ []) ++ name ∷ args)
    of true = separated_width 32 name args
    of false = separated_width 32 (codes "try") (decimal n ∷ name ∷ args)

spelled_line : (names : List (List ℕ)) (script : Script) (bytes : List ℕ) (s : Said)
    (p : Parted names (words_of bytes) s) (line : Line)
    → ArgsAgain names script p.set (unwrap_or p.tries 1) p.verb p.args line s
    → SaidAgain names bytes s (line_text script line)
spelled_line names script bytes s p line a =
    let n : ℕ = unwrap_or p.tries 1 in
    let args : List (List ℕ) = arguments script line.from line.call in
    let ws : List (List ℕ) = all_words p.set n (verb_name p.verb) args in
    let text : line_text script line ≡ separated 32 ws =
    line_is_words script line
    ∙ ap (λ (set : Option ℕ). separated 32 (all_words set line.tries (call_name line.call) args)) a.set_is
    ∙ ap (λ (k : ℕ). separated 32 (all_words p.set k (call_name line.call) args)) a.tries_is
    ∙ ap (λ (name : List ℕ). separated 32 (all_words p.set n name args)) a.name_is in
    let are : AreWords ws = are_words names p.verb args a.words p.set n p.set_again p.tries_are in
    record {
      said = ap (said_of names) text ∙ ap (says.words_said names) (words_again ws are)
          ∙ words_said_again names p.verb args a.words p.set n p.set_again p.tries_are ∙ a.said;
      short = omega (
        arith,
        ap length text,
        some_words p.set n (verb_name p.verb) args,
        append_width (set_words p.set) (tried_words n (verb_name p.verb) args),
        append_width (tries_words n) (verb_name p.verb ∷ args),
        a.short,
        p.short,
        line_width bytes,
      );
      printable = ap (list_all is_printable) text ∙ words_are_printable ws are;
    }

-- ---- forks

-- the only words of a fork
record ForkArgs (names : List (List ℕ)) (set tries made : Option ℕ) (args : List (List ℕ)) (number : ℕ) : Type 0 where
  name : List ℕ
  args_are : args ≡ name ∷ []
  is : is_name name ≡ true
  number_is : number_of names name ≡ Some number
  made_is : made ≡ set
  once : tries ≡ None

fork_args : (names : List (List ℕ)) (set tries : Option ℕ) (args : List (List ℕ)) (made : Option ℕ) (number : ℕ)
    → says.fork_said names (Gives set) (Gives tries) args ≡ Forks made (Some number)
    → ForkArgs names set tries made args number
unfolding says.fork_said
fork_args names set (Some n) args made number e = absurd cc
fork_args names set None [] made number e = absurd cc
fork_args names set None (name ∷ []) made number e = of (is_name name) refl e
  where
    of : (b : Bool) → is_name name ≡ b → cond b (Forks set (number_of names name)) Bad ≡ Forks made (Some number)
        → ForkArgs names set None made (name ∷ []) number
    of true is f =
        record { name = name; args_are = refl; is = is; number_is = cc; made_is = cc; once = refl }
    of false is f = absurd cc
fork_args names set None (name ∷ x ∷ args) made number e = absurd cc

name_bytes : (bs : List ℕ) → list_all is_name_byte bs ≡ true → is_rest plain bs ≡ true
name_bytes [] h = refl
name_bytes (b ∷ bs) h =
    let p = and_parts (is_name_byte b) (list_all is_name_byte bs) h in
    and_from (is_solid b) (is_rest plain bs) (grind (arith, p.0)) (name_bytes bs p.1)

-- a block's name is a word
pub name_argument : (name : List ℕ) → is_name name ≡ true → is_argument name ≡ true
name_argument [] h = absurd cc
name_argument (b ∷ bs) h =
    let p = and_parts (is_lower b) (list_all is_name_byte bs && leb (length bs) 31) h in
    let q = and_parts (list_all is_name_byte bs) (leb (length bs) 31) p.1 in
    let r = and_parts (leb 97 b) (leb b 122) p.0 in
    let low : 97 ≤ b = leb-true 97 b r.0 in
    let high : b ≤ 122 = leb-true b 122 r.1 in
    argument_from b bs
    (and_from (leb 33 b) (leb b 126) (le-leb 33 b (omega (arith, low))) (le-leb b 126 (omega (arith, high))))
    (ne_eqb b 61 (λ e. omega (arith, e, low))) (ne_eqb b 34 (λ e. omega (arith, e, low))) (name_bytes bs q.0)

-- the script's block of each number has the name of that number
abbrev pub Names : List (List ℕ) → Script → Type 0
Names names script =
    (number : ℕ) (name : List ℕ) → number_of names name ≡ Some number → name_of_block (block_at script number) ≡ name

spelled_fork : (names : List (List ℕ)) (script : Script) (set tries : Option ℕ) (args : List (List ℕ))
    (made : Option ℕ) (number : ℕ) → Names names script → node_of number ≡ number
    → says.fork_said names (Gives set) (Gives tries) args ≡ Forks made (Some number)
    → ArgsAgain names script set (unwrap_or tries 1) verbs.Fork args (fork_line made number) (Forks made (Some number))
unfolding says.verb_said says.fork_said
spelled_fork names script set tries args made number are node e =
    let f = fork_args names set tries args made number e in
    let block : name_of_block (block_at script (node_of number)) ≡ f.name =
    ap (λ (k : ℕ). name_of_block (block_at script k)) node ∙ are number f.name f.number_is in
    let once : unwrap_or tries 1 ≡ 1 = ap (λ (o : Option ℕ). unwrap_or o 1) f.once in
    record {
      set_is = f.made_is;
      tries_is = sym once;
      name_is = refl;
      words = (subst IsArgument (sym block) (name_argument f.name f.is), tt);
      short = omega (arith, ap length block, ap width f.args_are);
      said = rw (once, block, f.is, f.number_is, f.made_is) refl;
    }

no_forks : (set tries : Option ℕ) (o : Option FromCall) (made number : Option ℕ)
    → says.said_from set tries o ≡ Forks made number → ⊥
no_forks set tries None made number e = cc
no_forks set tries (Some c) made number e = cc

no_forks_other : (set tries : Option ℕ) (o : Option FromCall) (made number : Option ℕ)
    → says.other_said (Gives set) (Gives tries) o ≡ Forks made number → ⊥
unfolding says.other_said
no_forks_other set tries o made number e = no_forks set tries o made number e

no_forks_exit : (set tries : Option ℕ) (o : Option FromCall) (made number : Option ℕ)
    → says.exit_said (Gives set) (Gives tries) o ≡ Forks made number → ⊥
unfolding says.exit_said
no_forks_exit None None o made number e = no_forks None None o made number e
no_forks_exit (Some v) tries o made number e = cc
no_forks_exit None (Some n) o made number e = cc

fork_again : (names : List (List ℕ)) (script : Script) (set tries : Option ℕ) (verb : Verb) (args : List (List ℕ))
    (made : Option ℕ) (number : ℕ) → Names names script → node_of number ≡ number
    → says.verb_said names (Gives set) (Gives tries) verb args ≡ Forks made (Some number)
    → ArgsAgain names script set (unwrap_or tries 1) verb args (fork_line made number) (Forks made (Some number))
unfolding says.verb_said
fork_again names script set tries verbs.Fork args made number are node e =
    spelled_fork names script set tries args made number are node e
fork_again names script set tries verbs.Exit args made number are node e =
    absurd (no_forks_exit set tries (call_of verbs.Exit args) made (Some number) e)
fork_again names script set tries verbs.GetPid args made number are node e =
    absurd (no_forks_other set tries (call_of verbs.GetPid args) made (Some number) e)
fork_again names script set tries verbs.Kill args made number are node e =
    absurd (no_forks_other set tries (call_of verbs.Kill args) made (Some number) e)
fork_again names script set tries verbs.SigAction args made number are node e =
    absurd (no_forks_other set tries (call_of verbs.SigAction args) made (Some number) e)
fork_again names script set tries verbs.SigProcMask args made number are node e =
    absurd (no_forks_other set tries (call_of verbs.SigProcMask args) made (Some number) e)
fork_again names script set tries verbs.SigPending args made number are node e =
    absurd (no_forks_other set tries (call_of verbs.SigPending args) made (Some number) e)
fork_again names script set tries verbs.Handled args made number are node e =
    absurd (no_forks_other set tries (call_of verbs.Handled args) made (Some number) e)
fork_again names script set tries verbs.WaitPid args made number are node e =
    absurd (no_forks_other set tries (call_of verbs.WaitPid args) made (Some number) e)
fork_again names script set tries verbs.MsgGet args made number are node e =
    absurd (no_forks_other set tries (call_of verbs.MsgGet args) made (Some number) e)
fork_again names script set tries verbs.MsgSnd args made number are node e =
    absurd (no_forks_other set tries (call_of verbs.MsgSnd args) made (Some number) e)
fork_again names script set tries verbs.MsgRcv args made number are node e =
    absurd (no_forks_other set tries (call_of verbs.MsgRcv args) made (Some number) e)
fork_again names script set tries verbs.MsgCtl args made number are node e =
    absurd (no_forks_other set tries (call_of verbs.MsgCtl args) made (Some number) e)
fork_again names script set tries verbs.SemGet args made number are node e =
    absurd (no_forks_other set tries (call_of verbs.SemGet args) made (Some number) e)
fork_again names script set tries verbs.SemOp args made number are node e =
    absurd (no_forks_other set tries (call_of verbs.SemOp args) made (Some number) e)
fork_again names script set tries verbs.SemCtl args made number are node e =
    absurd (no_forks_other set tries (call_of verbs.SemCtl args) made (Some number) e)

-- ---- other calls

abbrev line_from : Option ℕ → ℕ → FromCall → Line
line_from set n c = record { set = set; tries = n; from = c.0; call = c.1 }

other_line : (set tries : Option ℕ) (c : FromCall)
    → says.other_said (Gives set) (tries_again (unwrap_or tries 1)) (Some c) ≡ says.line_with set tries c
unfolding says.other_said
other_line set tries c = of (eqb (unwrap_or tries 1) 1) refl
  where
    of : (b : Bool) → eqb (unwrap_or tries 1) 1 ≡ b
        → says.other_said (Gives set) (cond b (Gives None) (Gives (Some (unwrap_or tries 1)))) (Some c)
        ≡ says.line_with set tries c
    of true e = ap (λ (k : ℕ). Calls (line_from set k c)) (sym (eqb-true (unwrap_or tries 1) 1 e))
    of false e = refl

-- the line that a call gives
given_line : (names : List (List ℕ)) (script : Script) (set tries : Option ℕ) (verb : Verb) (args : List (List ℕ))
    (c : FromCall) (line : Line) (s : Said) → Again script verb args c
    → says.verb_said names (Gives set) (tries_again (unwrap_or tries 1)) verb (arguments script c.0 c.1)
    ≡ says.line_with set tries c → says.line_with set tries c ≡ s → s ≡ Calls line
    → ArgsAgain names script set (unwrap_or tries 1) verb args line s
given_line names script set tries verb args c line s a said e f =
    let same : line_from set (unwrap_or tries 1) c ≡ line = let both = e ∙ f in cc in
    subst (λ (l : Line). ArgsAgain names script set (unwrap_or tries 1) verb args l s) same
    (record {
      set_is = refl;
      tries_is = refl;
      name_is = a.named;
      words = a.words;
      short = a.short;
      said = said ∙ e;
    })

other_again : (names : List (List ℕ)) (script : Script) (set tries : Option ℕ) (verb : Verb) (args : List (List ℕ))
    (line : Line) → width args ≤ 4097
    → ((front : Front ℕ) (ws : List (List ℕ)) → says.verb_said names (Gives set) front verb ws
    ≡ says.other_said (Gives set) front (call_of verb ws))
    → says.verb_said names (Gives set) (Gives tries) verb args ≡ Calls line
    → ArgsAgain names script set (unwrap_or tries 1) verb args line (Calls line)
unfolding says.other_said
other_again names script set tries verb args line room other e =
    of (call_of verb args) refl (sym (other (Gives tries) args) ∙ e)
  where
    of : (o : Option FromCall) → call_of verb args ≡ o → says.other_said (Gives set) (Gives tries) o ≡ Calls line
        → ArgsAgain names script set (unwrap_or tries 1) verb args line (Calls line)
    of None f g = absurd cc
    of (Some c) f g =
        let a : Again script verb args c =
        of_some (call_of verb args) (Again script verb args) (call_again script verb args room) c f in
        let n : Front ℕ = tries_again (unwrap_or tries 1) in
        given_line names script set tries verb args c line (Calls line) a
        (other n (arguments script c.0 c.1) ∙ ap (says.other_said (Gives set) n) a.again ∙ other_line set tries c)
        g refl

exit_again : (names : List (List ℕ)) (script : Script) (set tries : Option ℕ) (args : List (List ℕ)) (line : Line)
    → width args ≤ 4097 → says.exit_said (Gives set) (Gives tries) (call_of verbs.Exit args) ≡ Calls line
    → ArgsAgain names script set (unwrap_or tries 1) verbs.Exit args line (Calls line)
unfolding says.exit_said says.verb_said
exit_again names script (Some v) tries args line room e = absurd cc
exit_again names script None (Some n) args line room e = absurd cc
exit_again names script None None args line room e = of (call_of verbs.Exit args) refl e
  where
    of : (o : Option FromCall) → call_of verbs.Exit args ≡ o → says.said_from None None o ≡ Calls line
        → ArgsAgain names script None 1 verbs.Exit args line (Calls line)
    of None f g = absurd cc
    of (Some c) f g =
        let a : Again script verbs.Exit args c =
        of_some (call_of verbs.Exit args) (Again script verbs.Exit args) (call_again script verbs.Exit args room) c f in
        given_line names script None None verbs.Exit args c line (Calls line) a
        (ap (says.said_from None None) a.again) g refl

no_call_fork : (names : List (List ℕ)) (set tries : Option ℕ) (args : List (List ℕ)) (line : Line)
    → says.fork_said names (Gives set) (Gives tries) args ≡ Calls line → ⊥
unfolding says.fork_said
no_call_fork names set (Some n) args line e = cc
no_call_fork names set None [] line e = cc
no_call_fork names set None (name ∷ []) line e = of (is_name name) e
  where
    of : (b : Bool) → cond b (Forks set (number_of names name)) Bad ≡ Calls line → ⊥
    of true f = cc
    of false f = cc
no_call_fork names set None (name ∷ x ∷ args) line e = cc

line_again : (names : List (List ℕ)) (script : Script) (set tries : Option ℕ) (verb : Verb) (args : List (List ℕ))
    (line : Line) → width args ≤ 4097 → says.verb_said names (Gives set) (Gives tries) verb args ≡ Calls line
    → ArgsAgain names script set (unwrap_or tries 1) verb args line (Calls line)
unfolding says.verb_said
line_again names script set tries verbs.Fork args line room e = absurd (no_call_fork names set tries args line e)
line_again names script set tries verbs.Exit args line room e = exit_again names script set tries args line room e
line_again names script set tries verbs.GetPid args line room e =
    other_again names script set tries verbs.GetPid args line room (λ _ _. refl) e
line_again names script set tries verbs.Kill args line room e =
    other_again names script set tries verbs.Kill args line room (λ _ _. refl) e
line_again names script set tries verbs.SigAction args line room e =
    other_again names script set tries verbs.SigAction args line room (λ _ _. refl) e
line_again names script set tries verbs.SigProcMask args line room e =
    other_again names script set tries verbs.SigProcMask args line room (λ _ _. refl) e
line_again names script set tries verbs.SigPending args line room e =
    other_again names script set tries verbs.SigPending args line room (λ _ _. refl) e
line_again names script set tries verbs.Handled args line room e =
    other_again names script set tries verbs.Handled args line room (λ _ _. refl) e
line_again names script set tries verbs.WaitPid args line room e =
    other_again names script set tries verbs.WaitPid args line room (λ _ _. refl) e
line_again names script set tries verbs.MsgGet args line room e =
    other_again names script set tries verbs.MsgGet args line room (λ _ _. refl) e
line_again names script set tries verbs.MsgSnd args line room e =
    other_again names script set tries verbs.MsgSnd args line room (λ _ _. refl) e
line_again names script set tries verbs.MsgRcv args line room e =
    other_again names script set tries verbs.MsgRcv args line room (λ _ _. refl) e
line_again names script set tries verbs.MsgCtl args line room e =
    other_again names script set tries verbs.MsgCtl args line room (λ _ _. refl) e
line_again names script set tries verbs.SemGet args line room e =
    other_again names script set tries verbs.SemGet args line room (λ _ _. refl) e
line_again names script set tries verbs.SemOp args line room e =
    other_again names script set tries verbs.SemOp args line room (λ _ _. refl) e
line_again names script set tries verbs.SemCtl args line room e =
    other_again names script set tries verbs.SemCtl args line room (λ _ _. refl) e

-- ---- whole lines

-- the text of a line with a call says it, and is no longer than the line that said it
pub calls_again : (names : List (List ℕ)) (script : Script) (bytes : List ℕ) (line : Line) → length bytes ≤ 4096
    → said_of names bytes ≡ Calls line → SaidAgain names bytes (Calls line) (line_text script line)
calls_again names script bytes line room e =
    let p = words_parted names (words_of bytes) (Calls line) refl e in
    spelled_line names script bytes (Calls line) p line
    (line_again names script p.set p.tries p.verb p.args line (omega (arith, p.short, line_width bytes, room)) p.said)

-- the same of a fork
pub forks_again : (names : List (List ℕ)) (script : Script) (bytes : List ℕ) (set : Option ℕ) (number : ℕ)
    → Names names script → node_of number ≡ number → said_of names bytes ≡ Forks set (Some number)
    → SaidAgain names bytes (Forks set (Some number)) (line_text script (fork_line set number))
forks_again names script bytes set number are node e =
    let p = words_parted names (words_of bytes) (Forks set (Some number)) refl e in
    spelled_line names script bytes (Forks set (Some number)) p (fork_line set number)
    (fork_again names script p.set p.tries p.verb p.args set number are node p.said)

-- ---- no call line is the end of a block

abbrev is_end : Said → Bool
is_end Ends = true
is_end said = false

fork_no_end : (names : List (List ℕ)) (set tries : Front ℕ) (ws : List (List ℕ))
    → is_end (says.fork_said names set tries ws) ≡ false
unfolding says.fork_said
fork_no_end names Wrong tries ws = refl
fork_no_end names (Gives set) Wrong ws = refl
fork_no_end names (Gives set) (Gives (Some n)) ws = refl
fork_no_end names (Gives set) (Gives None) [] = refl
fork_no_end names (Gives set) (Gives None) (name ∷ []) = of (is_name name)
  where
    of : (b : Bool) → is_end (cond b (Forks set (number_of names name)) Bad) ≡ false
    of true = refl
    of false = refl
fork_no_end names (Gives set) (Gives None) (name ∷ x ∷ ws) = refl

said_from_no_end : (set tries : Option ℕ) (o : Option FromCall) → is_end (says.said_from set tries o) ≡ false
said_from_no_end set tries None = refl
said_from_no_end set tries (Some c) = refl

exit_no_end : (set tries : Front ℕ) (o : Option FromCall) → is_end (says.exit_said set tries o) ≡ false
unfolding says.exit_said
exit_no_end Wrong tries o = refl
exit_no_end (Gives (Some v)) tries o = refl
exit_no_end (Gives None) Wrong o = refl
exit_no_end (Gives None) (Gives (Some n)) o = refl
exit_no_end (Gives None) (Gives None) o = said_from_no_end None None o

other_no_end : (set tries : Front ℕ) (o : Option FromCall) → is_end (says.other_said set tries o) ≡ false
unfolding says.other_said
other_no_end Wrong tries o = refl
other_no_end (Gives set) Wrong o = refl
other_no_end (Gives set) (Gives tries) o = said_from_no_end set tries o

verb_no_end : (names : List (List ℕ)) (set tries : Front ℕ) (verb : Verb) (ws : List (List ℕ))
    → is_end (says.verb_said names set tries verb ws) ≡ false
unfolding says.verb_said
verb_no_end names set tries verbs.Fork ws = fork_no_end names set tries ws
verb_no_end names set tries verbs.Exit ws = exit_no_end set tries (call_of verbs.Exit ws)
verb_no_end names set tries verbs.GetPid ws = other_no_end set tries (call_of verbs.GetPid ws)
verb_no_end names set tries verbs.Kill ws = other_no_end set tries (call_of verbs.Kill ws)
verb_no_end names set tries verbs.SigAction ws = other_no_end set tries (call_of verbs.SigAction ws)
verb_no_end names set tries verbs.SigProcMask ws = other_no_end set tries (call_of verbs.SigProcMask ws)
verb_no_end names set tries verbs.SigPending ws = other_no_end set tries (call_of verbs.SigPending ws)
verb_no_end names set tries verbs.Handled ws = other_no_end set tries (call_of verbs.Handled ws)
verb_no_end names set tries verbs.WaitPid ws = other_no_end set tries (call_of verbs.WaitPid ws)
verb_no_end names set tries verbs.MsgGet ws = other_no_end set tries (call_of verbs.MsgGet ws)
verb_no_end names set tries verbs.MsgSnd ws = other_no_end set tries (call_of verbs.MsgSnd ws)
verb_no_end names set tries verbs.MsgRcv ws = other_no_end set tries (call_of verbs.MsgRcv ws)
verb_no_end names set tries verbs.MsgCtl ws = other_no_end set tries (call_of verbs.MsgCtl ws)
verb_no_end names set tries verbs.SemGet ws = other_no_end set tries (call_of verbs.SemGet ws)
verb_no_end names set tries verbs.SemOp ws = other_no_end set tries (call_of verbs.SemOp ws)
verb_no_end names set tries verbs.SemCtl ws = other_no_end set tries (call_of verbs.SemCtl ws)

call_no_end : (names : List (List ℕ)) (set tries : Front ℕ) (ws : List (List ℕ))
    → is_end (says.call_said names set tries ws) ≡ false
unfolding says.call_said
call_no_end names set tries [] = refl
call_no_end names set tries (name ∷ ws) = of (verb_of name)
  where
    of : (o : Option Verb) → is_end (says.named_said names set tries o ws) ≡ false
    of None = refl
    of (Some verb) = verb_no_end names set tries verb ws

-- a line with a call isn't `end`
pub line_no_end : (names ws : List (List ℕ)) → says.line_said names ws ≡ Ends → ⊥
unfolding says.line_said
line_no_end names ws e =
    let front : Front ℕ × List (List ℕ) = says.set_at ws in
    let more : Front ℕ × List (List ℕ) = says.tries_at front.1 in
    let wrong : true ≡ false = ap is_end (sym e) ∙ call_no_end names front.0 more.0 more.1 in
    cc
