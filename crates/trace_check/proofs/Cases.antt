-- What a line leads to, case by case, as the code goes.
use Rattle.std.proofs.Common.{◌≡◌, ◌∙◌, ℕ, zero, suc, ◌+◌, ◌-◌, ◌<◌, true, false, List, [], ◌∷◌, ◌++◌, length, Some, None, refl, sym, ap, subst, arith}
use Rattle.std.specs.Prelude.{Option, Result, Ok, Err}
use Rattle.std.specs.Option.{option_map_or}
use Rattle.pico_base.specs.declared.reply.Entry.{Entry}
use Rattle.pico_base.specs.declared.script.Script.{Script}
use Rattle.number_maps.specs.Maps.{Numbered}
use Rattle.waiting_model.specs.Kernel.{Kernel, opening}
use Rattle.waiting_model.specs.Fitting.{Progress}
use Rattle.kernel_model.specs.Trace.{totals_line}
use Rattle.trace_text.specs.Reading.{is_line, entry_in}
use Rattle.trace_text.specs.Read.{next_line, fits}
use Rattle.trace_text.specs.declared.fault.CheckFault.{CheckFault}
use Rattle.trace_text.specs.declared.fault.CheckFault.TheVariants.{Memory, NotATrace, Illegal, NotTheScript}
use Rattle.trace_check.specs.declared.cursor.Cursor.{Cursor}
use Rattle.trace_check.specs.Cursors.{beginning}
use Rattle.trace_check.specs.FirstFault.{SoFar, GivesFault, judge_entry, judge_totals, first_going, or_fault, judge_from, verdict_of}
use Rattle.trace_check.specs.Judging.{so_far_of}
use Rattle.trace_check.proofs.PlaceLaws.{begins}

-- a fault goes through what follows
pub fault-goes : {A B : Type 0} (fault : CheckFault) (r : Result A CheckFault) (next : A → Result B CheckFault)
    → GivesFault fault r → GivesFault fault (or_fault r next)
fault-goes Memory r next given = tt
fault-goes (NotATrace line) r next given = ap (λ x. or_fault x next) given
fault-goes (Illegal line kernel trace) r next given = ap (λ x. or_fault x next) given
fault-goes (NotTheScript line due found) r next given = ap (λ x. or_fault x next) given

-- and where there is none, that follows
pub goes-next : {A B : Type 0} (r : Result A CheckFault) (x : A) (next : A → Result B CheckFault) → r ≡ Ok x
    → or_fault r next ≡ next x
goes-next r x next is = ap (λ y. or_fault y next) is

-- before the first line
pub judge-starts : (script : Script) (n : ℕ) (bytes : List ℕ) (first : ℕ) (kernel : Kernel) (cursors : Numbered Cursor)
    → n ≡ length bytes → kernel ≡ opening → cursors ≡ (1, beginning 1 []) ∷ []
    → judge_from script n first 67108864 [] (so_far_of script kernel cursors) bytes ≡ verdict_of script bytes first
judge-starts script n bytes first kernel cursors count opens begin =
    ap (λ (m : ℕ). judge_from script m first 67108864 [] (so_far_of script kernel cursors) bytes) count
    ∙ ap (λ (k : Kernel). judge_from script (length bytes) first 67108864 [] (so_far_of script k cursors) bytes) opens
    ∙ ap (λ (cs : Numbered Cursor). judge_from script (length bytes) first 67108864 [] (so_far_of script opening cs)
    bytes) begin
    ∙ ap (λ (p : Progress). judge_from script (length bytes) first 67108864 []
    (record { kernel = opening; places = (1, p) ∷ [] }) bytes) (begins script 1 [])

module _ (script : Script) (line left : ℕ) (done : List Entry) (so_far : SoFar) (bytes : List ℕ) where
  -- no line is left to be looked at
  pub judge-full : (n : ℕ) → n ≡ 0 → judge_from script n line left done so_far bytes ≡ Err (NotATrace line)
  unfolding judge_from
  judge-full zero e = refl
  judge-full (suc n) e = absurd (omega (arith, e))

  -- no line feed comes any more
  pub judge-end : (n : ℕ) → None ≡ next_line bytes
      → judge_from script n line left done so_far bytes ≡ Err (NotATrace line)
  unfolding judge_from
  judge-end zero e = refl
  judge-end (suc n) e = rw (← e) refl

  module _ (text after : List ℕ) (there : Some (text, after) ≡ next_line bytes) where
    -- the line is too long
    pub judge-unfit : (n : ℕ) → fits left text ≡ false
        → judge_from script n line left done so_far bytes ≡ Err (NotATrace line)
    unfolding judge_from
    judge-unfit zero f = refl
    judge-unfit (suc n) f = rw (← there, f) refl

    -- it is the totals
    pub judge-whole : (n : ℕ) → 0 < n → fits left text ≡ true → is_line (totals_line done) text ≡ true
        → judge_from script n line left done so_far bytes
        ≡ judge_totals line (length done) so_far after (first_going so_far.places)
    unfolding judge_from
    judge-whole zero some f t = absurd (omega (arith, some))
    judge-whole (suc n) some f t = rw (← there, f, t) refl

    -- it is no entry's
    pub judge-none : (n : ℕ) → fits left text ≡ true → is_line (totals_line done) text ≡ false
        → entry_in script text ≡ None → judge_from script n line left done so_far bytes ≡ Err (NotATrace line)
    unfolding judge_from
    judge-none zero f t e = refl
    judge-none (suc n) f t e = rw (← there, f, t, e) refl

    -- it is an entry's
    pub judge-entry : (n : ℕ) (e : Entry) → 0 < n → fits left text ≡ true → is_line (totals_line done) text ≡ false
        → entry_in script text ≡ Some e
        → judge_from script n line left done so_far bytes
        ≡ or_fault (judge_entry script line so_far e) (λ next. judge_from script (n - 1) (line + 1)
        (left - (length text + 1)) (done ++ e ∷ []) next after)
    unfolding judge_from
    judge-entry zero e some f t is = absurd (omega (arith, some))
    judge-entry (suc n) e some f t is =
        let same : suc n - 1 ≡ n = omega arith in
        rw (← there, f, t, is, same) refl

    -- with a fault
    pub judge-fault : (n : ℕ) (e : Entry) → 0 < n → fits left text ≡ true → is_line (totals_line done) text ≡ false
        → entry_in script text ≡ Some e → (fault : CheckFault)
        → GivesFault fault (judge_entry script line so_far e)
        → GivesFault fault (judge_from script n line left done so_far bytes)
    judge-fault n e some f t is fault given =
        subst (GivesFault fault) (sym (judge-entry n e some f t is))
        (fault-goes fault (judge_entry script line so_far e)
        (λ (next : SoFar).
        judge_from script (n - 1) (line + 1) (left - (length text + 1)) (done ++ e ∷ []) next after)
        given)

    -- or with none
    pub judge-next : (n : ℕ) (e : Entry) → 0 < n → fits left text ≡ true → is_line (totals_line done) text ≡ false
        → entry_in script text ≡ Some e → (next : SoFar) → judge_entry script line so_far e ≡ Ok next
        → judge_from script n line left done so_far bytes
        ≡ judge_from script (n - 1) (line + 1) (left - (length text + 1)) (done ++ e ∷ []) next after
    judge-next n e some f t is next judged =
        judge-entry n e some f t is
        ∙ goes-next (judge_entry script line so_far e) next
        (λ (next : SoFar).
        judge_from script (n - 1) (line + 1) (left - (length text + 1)) (done ++ e ∷ []) next after)
        judged

    -- by what is read of it, it has this fault
    pub judge-text : (n : ℕ) → 0 < n → fits left text ≡ true → is_line (totals_line done) text ≡ false
        → (fault : CheckFault)
        → GivesFault fault (option_map_or (judge_entry script line so_far) (entry_in script text)
        (Err (NotATrace line)))
        → GivesFault fault (judge_from script n line left done so_far bytes)
    judge-text n some f t fault given = of (entry_in script text) refl given
      where
        of : (o : Option Entry) → entry_in script text ≡ o
            → GivesFault fault (option_map_or (judge_entry script line so_far) o (Err (NotATrace line)))
            → GivesFault fault (judge_from script n line left done so_far bytes)
        of None is g =
            subst (GivesFault fault) (sym (judge-none n f t is))
            (fault-goes fault (Err (NotATrace line)) (λ (next : SoFar). judge_from script n line left done next bytes)
            g)
        of (Some e) is g = judge-fault n e some f t is fault g
