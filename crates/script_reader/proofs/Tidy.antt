-- Each line that is read stands rightly in its block, and the calls are counted.
use Rattle.std.proofs.Common.{◌≡◌, ℕ, ◌+◌, ◌≤◌, Bool, true, false, ◌&&◌, ◌||◌, not, cond, List, [], ◌∷◌, ◌++◌, Option, Some, None, refl, sym, ap, ◌∙◌, arith}
use Rattle.std.specs.Prelude.{sum_by}
use Rattle.std.specs.List.{list_all}
use Rattle.std.proofs.lemmas.Bool.{ltb-false, and_parts, not-true}
use Rattle.std.proofs.lemmas.List.Folds.{list_all-append}
use Rattle.std.proofs.lemmas.List.Sums.{sum_by-append}
use Rattle.pico_base.specs.declared.script.Block.{Block}
use Rattle.pico_base.specs.declared.script.Line.{Line}
use Rattle.kernel_model.specs.Script as model
use Rattle.script_reader.specs.declared.place.Place.{Place}
use Rattle.script_reader.specs.declared.says.Said.{Said}
use Rattle.script_reader.specs.declared.says.Said.TheVariants.{Skipped, Opens, BadProc, Ends, Unknown, Bad, Forks, Calls}
use Rattle.script_reader.specs.Fault as spec
use Rattle.script_reader.proofs.Saying.{IsFine}
use Rattle.script_reader.proofs.Steps.{IsFaultless}
use Rattle.script_reader.proofs.Opened.{neither, not_both, inside_of, number_here, not_true as no_true}

-- ---- one item more

-- a test that all items pass, and one more
pub all_push : {A : Type 0} (test : A → Bool) (xs : List A) (x : A) → list_all test xs ≡ true → test x ≡ true
    → list_all test (xs ++ x ∷ []) ≡ true
all_push test xs x h k = list_all-append test xs (x ∷ []) ∙ rw (h, k) refl

and_true : (a : Bool) → (a && true) ≡ a
and_true true = refl
and_true false = refl

abbrev pub is_going : Line → Bool
is_going line = not (model.is_exit line.call)

ends_push : (lines : List Line) (line : Line) → list_all is_going lines ≡ true
    → model.ends_rightly (lines ++ line ∷ []) ≡ true
ends_push [] line h = ends_alone (model.is_exit line.call)
  where
    ends_alone : (b : Bool) → ((not b || true) && true) ≡ true
    ends_alone true = refl
    ends_alone false = refl
ends_push (l ∷ lines) line h =
    let p = and_parts (is_going l) (list_all is_going lines) h in
    rw (p.0, ends_push lines line p.1) refl

exit_push : (lines : List Line) (line : Line) → list_all is_going lines ≡ true → model.is_exit line.call ≡ true
    → model.with_exit (lines ++ line ∷ []) ≡ lines ++ line ∷ []
exit_push [] line h e = rw e refl
exit_push (l ∷ lines) line h e =
    let p = and_parts (is_going l) (list_all is_going lines) h in
    rw (not-true (model.is_exit l.call) p.0, exit_push lines line p.1 e) refl

exit_implied : (lines : List Line) → list_all is_going lines ≡ true
    → model.with_exit lines ≡ lines ++ model.implied_exit ∷ []
exit_implied [] h = refl
exit_implied (l ∷ lines) h =
    let p = and_parts (is_going l) (list_all is_going lines) h in
    rw (not-true (model.is_exit l.call) p.0, exit_implied lines p.1) refl

abbrev pub tries_of : Line → ℕ
tries_of line = line.tries

tries_push : (lines : List Line) (line : Line)
    → sum_by tries_of (lines ++ line ∷ []) ≡ sum_by tries_of lines + line.tries
tries_push lines line = sum_by-append tries_of lines (line ∷ []) ∙ omega arith

-- ---- what stands

pub record IsTidy (place : Place) : Type 0 where
  pub names : list_all (λ (b : Block). model.is_name b.name) place.blocks ≡ true
  pub name : place.inside ≡ true → model.is_name place.name ≡ true
  pub outside : place.inside ≡ false → place.lines ≡ []
  pub blocks_lines : list_all (λ (b : Block). list_all model.is_line b.lines) place.blocks ≡ true
  pub lines : list_all model.is_line place.lines ≡ true
  pub blocks_end : list_all (λ (b : Block). model.ends_rightly b.lines) place.blocks ≡ true
  pub end : model.ends_rightly place.lines ≡ true
  pub going : place.over ≡ false → list_all is_going place.lines ≡ true
  pub gone : place.over ≡ true → model.with_exit place.lines ≡ place.lines
  pub counted : place.calls ≡ sum_by model.calls_in place.blocks + sum_by tries_of place.lines
  pub few : place.calls ≤ 20000

tidy_open : (place : Place) (size : ℕ) (name : List ℕ) (number : ℕ) → IsTidy place
    → model.is_name name ≡ true → IsFaultless place size (Opens name number)
    → IsTidy (spec.opened place name number)
tidy_open place size name number h good f =
    let here = number_here place size name number f in
    record {
      names = h.names;
      name = λ _. good;
      outside = λ e. absurd (no_true e);
      blocks_lines = h.blocks_lines;
      lines = refl;
      blocks_end = h.blocks_end;
      end = refl;
      going = λ _. refl;
      gone = λ e. absurd (no_true (sym e));
      counted = h.counted ∙ ap (λ (ls : List Line). sum_by model.calls_in place.blocks + sum_by tries_of ls)
          (h.outside here.0);
      few = h.few;
    }

implied_count : (over : Bool) (lines : List Line) → (over ≡ false → list_all is_going lines ≡ true)
    → (over ≡ true → model.with_exit lines ≡ lines)
    → sum_by tries_of (model.with_exit lines) ≡ sum_by tries_of lines + cond over 0 1
implied_count true lines f g = ap (sum_by tries_of) (g refl) ∙ omega arith
implied_count false lines f g = ap (sum_by tries_of) (exit_implied lines (f refl)) ∙ tries_push lines model.implied_exit

tidy_end : (place : Place) (size : ℕ) → IsTidy place → IsFaultless place size Ends
    → IsTidy (spec.behind place Ends)
tidy_end place size h f =
    let block : Block = record { name = place.name; lines = place.lines } in
    let within = inside_of place Ends f.no_proc refl in
    let one : sum_by model.calls_in (block ∷ []) ≡ model.calls_in block = omega arith in
    let count : model.calls_in block ≡ sum_by tries_of place.lines + cond place.over 0 1 =
    implied_count place.over place.lines h.going h.gone in
    let all : sum_by model.calls_in (place.blocks ++ block ∷ [])
    ≡ sum_by model.calls_in place.blocks + sum_by model.calls_in (block ∷ []) =
    sum_by-append model.calls_in place.blocks (block ∷ []) in
    record {
      names = all_push (λ (b : Block). model.is_name b.name) place.blocks block h.names (h.name within);
      name = λ e. absurd (no_true (sym e));
      outside = λ _. refl;
      blocks_lines = all_push (λ (b : Block). list_all model.is_line b.lines) place.blocks block h.blocks_lines h.lines;
      lines = refl;
      blocks_end = all_push (λ (b : Block). model.ends_rightly b.lines) place.blocks block h.blocks_end h.end;
      end = refl;
      going = λ _. refl;
      gone = λ e. absurd (no_true (sym e));
      counted = omega (arith, h.counted, all, one, count);
      few = ltb-false 20000 (place.calls + spec.calls_of place Ends) f.few_calls;
    }

-- one more line of the open block
tidy_line : (place : Place) (line : Line) (known : List Bool) → IsTidy place
    → place.over ≡ false → model.is_line line ≡ true
    → place.inside ≡ true
    → place.calls + line.tries ≤ 20000
    → IsTidy (record place {
      lines = place.lines ++ line ∷ [];
      over = model.is_exit line.call;
      known =
          known;
      calls = place.calls + line.tries;
    })
tidy_line place line known h going is within few =
    record {
      names = h.names;
      name = h.name;
      outside = λ e. absurd (no_true (sym within ∙ e));
      blocks_lines = h.blocks_lines;
      lines = all_push model.is_line place.lines line h.lines is;
      blocks_end = h.blocks_end;
      end = ends_push place.lines line (h.going going);
      going = λ e. all_push is_going place.lines line (h.going going) (ap not e);
      gone = λ e. exit_push place.lines line (h.going going) e;
      counted = omega (arith, h.counted, tries_push place.lines line);
      few = few;
    }

going_of : (place : Place) (size : ℕ) (said : Said) → IsFaultless place size said
    → spec.is_call said ≡ true → place.over ≡ false
going_of place size said f is =
    not_both place.over (spec.is_call said)
    (neither (spec.repeats place said) (place.over && spec.is_call said)
    (neither (spec.is_bad said) (spec.repeats place said || (place.over && spec.is_call said)) f.good).1).1 is

fork_is_line : (set : Option ℕ) (number : ℕ) → model.is_variable set ≡ true
    → model.is_line (spec.fork_line set number) ≡ true
fork_is_line None number h = refl
fork_is_line (Some v) number h = rw h refl

-- each line without a fault keeps what stands of lines and calls
pub tidy_step : (names : List (List ℕ)) (place : Place) (size : ℕ) (o : Option (List ℕ)) (said : Said)
    → IsTidy place → IsFine names o said → IsFaultless place size said
    → IsTidy (spec.behind place said)
tidy_step names place size o (Opens name number) h fine f =
    tidy_open place size name number h fine.0 f
tidy_step names place size o Skipped h fine f = h
tidy_step names place size o Ends h fine f = tidy_end place size h f
tidy_step names place size o (Forks set None) h fine f = h
tidy_step names place size o (Forks set (Some number)) h fine f =
    let line : Line = spec.fork_line set number in
    let t = tidy_line place line (spec.known_with place.known set) h
    (going_of place size (Forks set (Some number)) f refl) (fork_is_line set number fine.0)
    (inside_of place (Forks set (Some number)) f.no_proc refl) (ltb-false 20000 (place.calls + 1) f.few_calls) in
    record {
      names = t.names;
      name = t.name;
      outside = t.outside;
      blocks_lines = t.blocks_lines;
      lines = t.lines;
      blocks_end = t.blocks_end;
      end = t.end;
      going = λ _. t.going refl;
      gone = λ e. absurd (no_true (sym e ∙ going_of place size (Forks set (Some number)) f refl));
      counted = t.counted;
      few = t.few;
    }
tidy_step names place size o (Calls line) h fine f =
    tidy_line place line (spec.known_with place.known line.set) h
    (going_of place size (Calls line) f refl) fine.0
    (inside_of place (Calls line) f.no_proc refl) (ltb-false 20000 (place.calls + line.tries) f.few_calls)
tidy_step names place size o BadProc h fine f = absurd (no_true f.good)
tidy_step names place size o Bad h fine f = absurd (no_true f.good)
tidy_step names place size o Unknown h fine f =
    absurd (no_true (sym (inside_of place Unknown f.no_proc refl) ∙ not_both place.inside true f.known_call refl))
