-- Where a caller is once its reply has come: the line is due again, or the next one is.
use Rattle.std.proofs.Common.{◌≡◌, ℕ, zero, suc, ◌+◌, ◌<◌, ◌≤◌, Bool, true, false, ◌&&◌, if◌then◌else◌, nat_lt, List, [], ◌∷◌, take, drop, slice_get, sum_by, Option, Some, None, refl, ap, sym, subst, ◌∙◌, inl, inr, arith}
use Rattle.std.proofs.lemmas.Bool.{ltb-true, false≢true}
use Rattle.std.proofs.lemmas.Option.{slice_get_within, get_or_from_slice_get}
use Rattle.std.proofs.lemmas.List.Sums.{sum_by_more}
use Rattle.pico_base.specs.declared.call.Call.{Call}
use Rattle.pico_base.specs.declared.reply.Reply.{Reply}
use Rattle.pico_base.specs.declared.script.Line.{Line}
use Rattle.pico_base.specs.declared.script.Script.{Script}
use Rattle.kernel_laws.proofs.Lists.{all-at}
use Rattle.kernel_model.specs.Fitting.{Place, IsDue, due, call_due, asks_again, set_variable, value_in, place_after, after_line}
use Rattle.node_model.specs.Caller.{Caller, lines_of, caller_place, answer_call, answer_at, end_call}
use Rattle.world_laws.specs.Callers.{tries_made, HasTryLeft, HasTries}

none-is-some : {A : Type 0} (a : A) → None ≡ Some a → ⊥
none-is-some a h = cc

same-in-some : {A : Type 0} (a c : A) → Some a ≡ Some c → a ≡ c
same-in-some a c h = cc

-- the line at a place is the first of those left
pub cut-at : {A : Type 0} (xs : List A) (i : ℕ) (x : A) → slice_get xs i ≡ Some x → drop i xs ≡ x ∷ drop (i + 1) xs
cut-at [] i x h = absurd (none-is-some x h)
cut-at (y ∷ xs) zero x h = ap (λ z. z ∷ xs) (same-in-some y x h)
cut-at (y ∷ xs) (suc i) x h =
    let next : suc (i + 1) ≡ suc i + 1 = omega arith
    in cut-at xs i x h ∙ ap (λ k. x ∷ drop k (y ∷ xs)) next

-- past the end no line is left
pub past-end : {A : Type 0} (xs : List A) (i : ℕ) → slice_get xs i ≡ None → drop i xs ≡ []
past-end [] zero h = refl
past-end [] (suc i) h = refl
past-end (y ∷ xs) zero h = absurd (none-is-some y (sym h))
past-end (y ∷ xs) (suc i) h = past-end xs i h

tries-next : (xs : List Line) (i : ℕ) (x : Line) → slice_get xs i ≡ Some x
    → sum_by (λ line. line.tries) (take (i + 1) xs) ≡ sum_by (λ line. line.tries) (take i xs) + x.tries
tries-next xs i x h =
    sum_by_more (λ (line : Line). line.tries) xs i x (slice_get_within xs i x h)
    ∙ ap (λ (z : Line). sum_by (λ line. line.tries) (take i xs) + z.tries) (get_or_from_slice_get xs i x x h)

-- a call is due at a line
pub due-at-line : (script : Script) (p : ℕ) (c : Caller) (call : Call) → IsDue (caller_place script p c) call
    → (line : Line) × (slice_get (lines_of script p) c.line ≡ Some line)
due-at-line script p c call h = by-line (slice_get (lines_of script p) c.line) refl
  where
    nothing-due : (place : Place) → place.left ≡ [] → (other : Call) → due place ≡ Some other → ⊥
    nothing-due place e other g = none-is-some other (sym (ap (call_due place) e) ∙ g)

    by-line : (o : Option Line) → slice_get (lines_of script p) c.line ≡ o
        → (line : Line) × (slice_get (lines_of script p) c.line ≡ Some line)
    by-line (Some line) e = (line, e)
    by-line None e =
        absurd
        (elim h [
          | inl is_due ↦ nothing-due (caller_place script p c) (past-end (lines_of script p) c.line e) call is_due
          | inr killed ↦
              nothing-due (caller_place script p c) (past-end (lines_of script p) c.line e) killed.1 killed.2
        ])

-- the caller afterwards
pub record IsAnswered (script : Script) (p : ℕ) (c : Caller) (call : Call) (reply : Reply) (next : Caller) : Type 0
  where
    pub free : next.under_way ≡ None
    pub ticket_is : next.ticket ≡ c.ticket
    pub place_is : caller_place script p next ≡ place_after (caller_place script p c) call (Some reply)
    pub more_tries : tries_made script p c + 1 ≤ tries_made script p next
    pub left : HasTryLeft script p next

abbrev again : Caller → Caller
again c = record (end_call c) { tried = c.tried + 1 }

abbrev passed : Caller → Line → Reply → Caller
passed c line reply =
    record (end_call c) {
      line = c.line + 1;
      tried = 0;
      vars =
          set_variable c.vars line.set (value_in (Some reply));
    }

lt-of-and : (a : Bool) (m n : ℕ) → (a && nat_lt m n) ≡ true → m < n
lt-of-and true m n h = ltb-true m n h
lt-of-and false m n h = absurd (false≢true h)

module _ (script : Script) (p : ℕ) (tries : HasTries script) (c : Caller) (call : Call) (reply : Reply) (line : Line)
    (at : slice_get (lines_of script p) c.line ≡ Some line) (left : HasTryLeft script p c) where
  place-by : (t : Bool) → (asks_again call (Some reply) && nat_lt (c.tried + 1) line.tries) ≡ t
      → place_after (caller_place script p c) call (Some reply)
      ≡ (if t then record (caller_place script p c) { tried = c.tried + 1 }
      else record {
        left = drop (c.line + 1) (lines_of script p);
        tried = 0;
        vars =
            set_variable c.vars line.set (value_in (Some reply));
      })
  place-by t e =
      ap (λ lines. after_line (caller_place script p c) call (Some reply) lines) (cut-at
      (lines_of script p) c.line line at)
      ∙ ap (λ u. if u then record (caller_place script p c) { tried = c.tried + 1 }
      else record {
        left = drop (c.line + 1) (lines_of script p);
        tried = 0;
        vars =
            set_variable c.vars line.set (value_in (Some reply));
      }) e

  answered-by : (t : Bool) → (asks_again call (Some reply) && nat_lt (c.tried + 1) line.tries) ≡ t
      → IsAnswered script p c call reply (if t then again c else passed c line reply)
  answered-by true e =
      record {
        free = refl;
        ticket_is = refl;
        place_is = sym (place-by true e);
        more_tries = omega arith;
        left = λ other there.
            let same : line ≡ other = same-in-some line other (sym at ∙ there)
            in let more = lt-of-and (asks_again call (Some reply)) (c.tried + 1) line.tries e
            in let kept : line.tries ≡ other.tries = ap (λ (l : Line). l.tries) same
            in omega (arith, more, kept);
      }
  answered-by false e =
      record {
        free = refl;
        ticket_is = refl;
        place_is = sym (place-by false e);
        more_tries =
            let one = left line at
            in let sum = tries-next (lines_of script p) c.line line at
            in omega (arith, one, sum);
        left = λ other there.
            let some = all-at (λ (l : Line). 1 ≤ l.tries) (lines_of script p) (c.line + 1) other (tries p) there
            in omega (arith, some);
      }

  -- the reply ends the call at its line
  pub answered : IsAnswered script p c call reply (answer_call script p c call reply)
  answered =
      subst (λ (next : Caller). IsAnswered script p c call reply next)
      (sym (ap (answer_at c call reply) at))
      (answered-by (asks_again call (Some reply) && nat_lt (c.tried + 1) line.tries) refl)
