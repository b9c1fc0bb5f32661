-- Which call is due, and what may come, as the code finds it.
use Rattle.std.proofs.Common.{◌≡◌, ◌∙◌, ℕ, Bool, true, false, ◌&&◌, ◌||◌, Option, Some, None, is_some, refl, sym, ap}
use Rattle.std.specs.Prelude.{Result, Ok, Err, IfOk, IfSome, if◌then◌else◌}
use Rattle.std.specs.Option.{option_and_then, option_map, option_map_or}
use Rattle.pico_base.specs.declared.call.Call.{Call}
use Rattle.pico_base.specs.declared.call.Call.TheVariants.{Killed}
use Rattle.pico_base.specs.declared.fault.Memory.{Memory}
use Rattle.pico_base.specs.declared.script.Script.{Script}
use Rattle.pico_base.specs.declared.signal.Sig.{Sig}
use Rattle.number_maps.specs.Maps.{Numbered, get}
use Rattle.kernel_model.specs.Fitting.{due, is_killed}
use Rattle.waiting_model.specs.Fitting.{Progress}
use Rattle.trace_check.specs.declared.cursor.Cursor.{Cursor}
use Rattle.trace_check.specs.Cursors.{due_in, may_come_in, progress_of}
use Rattle.trace_check.specs.FirstFault.{due_by, due_of, is_same_call, may_follow, may_stand, withdrawal}

-- What is due.

due-free : (o : Option Call) → due_by None o ≡ o
due-free None = refl
due-free (Some call) = refl

due-doomed : (sig : Sig) (o : Option Call) → is_some o ≡ true → Some (Killed sig) ≡ due_by (Some sig) o
due-doomed sig None some = absurd (cc)
due-doomed sig (Some call) some = refl

due-ended : (doom : Option Sig) (o : Option Call) → is_some o ≡ false → None ≡ due_by doom o
due-ended doom None none = refl
due-ended doom (Some call) none = absurd (cc)

module _ (pid : ℕ) (doom : Option Sig) (p : Progress) where
  due-if : (parked : Bool) → p.parked ≡ parked
      → due_of pid doom p ≡ (if parked then option_map (withdrawal pid) (due p.place) else due_by doom (due p.place))
  due-if parked is =
      ap (λ (b : Bool). (if b then option_map (withdrawal pid) (due p.place) else due_by doom (due p.place))) is

  -- of a process that waits, its withdrawal
  pub withdrawal-due : p.parked ≡ true → (o : Option Call) → o ≡ due p.place
      → option_map (withdrawal pid) o ≡ due_of pid doom p
  withdrawal-due waits o is = ap (option_map (withdrawal pid)) is ∙ sym (due-if true waits)

  module _ (free : p.parked ≡ false) where
    -- the script's call
    pub script-due : doom ≡ None → (r : Result (Option Call) Memory) → IfOk r (λ call. call ≡ due p.place)
        → IfOk r (λ call. call ≡ due_of pid doom p)
    script-due is (Ok call) given =
        given ∙ sym (due-free (due p.place)) ∙ ap (λ (d : Option Sig). due_by d (due p.place)) (sym is)
        ∙ sym (due-if false free)
    script-due is (Err memory) given = tt

    -- the end by a signal
    pub end-due : (sig : Sig) → doom ≡ Some sig → is_some (due p.place) ≡ true
        → Some (Killed sig) ≡ due_of pid doom p
    end-due sig is some =
        due-doomed sig (due p.place) some ∙ ap (λ (d : Option Sig). due_by d (due p.place)) (sym is)
        ∙ sym (due-if false free)

    -- nothing is due any more
    pub over-due : is_some (due p.place) ≡ false → None ≡ due_of pid doom p
    over-due none = due-ended doom (due p.place) none ∙ sym (due-if false free)

module _ (script : Script) (cursors : Numbered Cursor) (pid : ℕ) (doom : Option Sig) where
  -- nothing is due for a process that was not forked
  pub nobody-due : None ≡ get cursors pid → None ≡ due_in script cursors pid doom
  nobody-due there = ap (option_and_then (λ (c : Cursor). due_of pid doom (progress_of script c))) there

  -- and for one that was what is due for it
  pub cursor-due : (c : Cursor) → Some c ≡ get cursors pid → (r : Result (Option Call) Memory)
      → IfOk r (λ due. due ≡ due_of pid doom (progress_of script c))
      → IfOk r (λ due. due ≡ due_in script cursors pid doom)
  cursor-due c there (Ok due) given =
      given ∙ ap (option_and_then (λ (x : Cursor). due_of pid doom (progress_of script x))) there
  cursor-due c there (Err memory) given = tt

  -- nothing may come of a process that was not forked
  pub nobody-comes : (found : Call) → None ≡ get cursors pid → false ≡ may_come_in script cursors pid doom found
  nobody-comes found there =
      ap (λ (o : Option Cursor).
      option_map_or (λ (c : Cursor). may_follow script pid doom (progress_of script c) found) o false) there

  -- and of one that was what may follow
  pub cursor-comes : (c : Cursor) (found : Call) → Some c ≡ get cursors pid → (r : Result Bool Memory)
      → IfOk r (λ may. may ≡ may_follow script pid doom (progress_of script c) found)
      → IfOk r (λ may. may ≡ may_come_in script cursors pid doom found)
  cursor-comes c found there (Ok may) given =
      given ∙ ap (λ (o : Option Cursor).
      option_map_or (λ (x : Cursor). may_follow script pid doom (progress_of script x) found) o false) there
  cursor-comes c found there (Err memory) given = tt

-- What may stand.

module _ (script : Script) (found : Call) where
  -- nothing, once the process has ended
  pub over-may : (doom : Option Sig) (o : Option Call) → is_some o ≡ false
      → false ≡ may_stand script doom (due_by doom o) found
  over-may doom None none = refl
  over-may doom (Some call) none = absurd (cc)

  same-alone : (x killed : Bool) → x ≡ (x || (killed && false))
  same-alone true killed = refl
  same-alone false true = refl
  same-alone false false = refl

  -- its end by the signal that dooms it
  pub doomed-may : (doom : Option Sig) (sig : Sig) (o : Option Call) → doom ≡ Some sig → is_some o ≡ true
      → (r : Result Bool Memory) → IfOk r (λ is. is ≡ is_same_call script (Killed sig) found)
      → IfOk r (λ may. may ≡ may_stand script doom (due_by doom o) found)
  doomed-may doom sig None is some r given = absurd (cc)
  doomed-may doom sig (Some call) is some (Err memory) given = tt
  doomed-may doom sig (Some call) is some (Ok may) given =
      given ∙ same-alone (is_same_call script (Killed sig) found) (is_killed found)
      ∙ ap (λ (d : Option Sig). may_stand script d (due_by d (Some call)) found) (sym is)

  or-true : (b : Bool) → true ≡ (b || true)
  or-true true = refl
  or-true false = refl

  -- the end by any signal in place of the script's call
  pub end-may : (doom : Option Sig) (o : Option Call) → doom ≡ None → is_some o ≡ true → is_killed found ≡ true
      → true ≡ may_stand script doom (due_by doom o) found
  end-may doom None is some killed = absurd (cc)
  end-may doom (Some call) is some killed =
      or-true (is_same_call script call found)
      ∙ ap (λ (k : Bool). is_same_call script call found || (k && true)) (sym killed)
      ∙ ap (λ (d : Option Sig). may_stand script d (due_by d (Some call)) found) (sym is)

  or-false : (b : Bool) → b ≡ (b || false)
  or-false true = refl
  or-false false = refl

  -- and else that call alone
  pub else-may : (doom : Option Sig) (o : Option Call) → doom ≡ None → is_some o ≡ true → is_killed found ≡ false
      → (r : Result Bool Memory) → IfOk r (λ is. IfSome o (λ call. is ≡ is_same_call script call found))
      → IfOk r (λ may. may ≡ may_stand script doom (due_by doom o) found)
  else-may doom None is some killed r given = absurd (cc)
  else-may doom (Some call) is some killed (Err memory) given = tt
  else-may doom (Some call) is some killed (Ok may) given =
      given ∙ or-false (is_same_call script call found)
      ∙ ap (λ (k : Bool). is_same_call script call found || (k && true)) (sym killed)
      ∙ ap (λ (d : Option Sig). may_stand script d (due_by d (Some call)) found) (sym is)
