-- A trace is judged to be legal exactly where it is the text of a history that is legal and fits the script whole.
use Rattle.std.proofs.Common.{◌≡◌, ◌⊎◌, inl, inr, ◌∙◌, ℕ, zero, suc, ◌+◌, ◌-◌, Bool, true, false, not, ◌&&◌, cond, List, [], ◌∷◌, ◌++◌, length, Option, Some, None, is_some, refl, sym, ap, subst, append_assoc}
use Rattle.std.specs.Prelude.{Result, Ok, Err, IfOk}
use Rattle.std.specs.List.{AllByRecursion}
use Rattle.std.specs.Option.{option_map_or}
use Rattle.std.proofs.lemmas.List.{append-nil}
use Rattle.pico_base.specs.declared.reply.Entry.{Entry}
use Rattle.pico_base.specs.declared.script.Script.{Script}
use Rattle.pico_base.specs.declared.script.Line.{Line}
use Rattle.waiting_model.specs.Kernel.{Kernel, opening}
use Rattle.waiting_model.specs.History.{Replays}
use Rattle.kernel_model.specs.Script.{IsSoundScript}
use Rattle.kernel_model.specs.Trace.{totals_line}
use Rattle.kernel_model.specs.Fitting.{Place, due, call_due}
use Rattle.waiting_model.specs.Fitting.{Progress, Places, IsOver, FitsFrom, opening_places}
use Rattle.trace_text.specs.Reading.{has_ended, is_line, entry_in}
use Rattle.trace_text.specs.Read.{max_trace, next_line, fits, read_from}
use Rattle.trace_text.specs.declared.fault.CheckFault.{CheckFault}
use Rattle.trace_text.specs.declared.fault.CheckFault.TheVariants.{NotATrace}
use Rattle.trace_text.proofs.EntryLaws.{entry-takes}
use Rattle.trace_text.proofs.Whole.{read-is}
use Rattle.trace_check.specs.declared.check.Legal.{Legal}
use Rattle.trace_check.specs.FirstFault.{SoFar, at_opening, judge_entry, judge_totals, judge_line, judge_from, goes_on, first_going, or_fault, verdict_of, Gives, CountsLegal}
use Rattle.trace_check.proofs.Entries.{GoesOn, judged-goes-on}

-- Processes that have ended, or wait.

no-call : (place : Place) (left : List Line) → is_some (call_due place left) ≡ false → left ≡ []
no-call place [] h = refl
no-call place (line ∷ lines) h = absurd (cc)

over-by : (p : Progress) (parked : Bool) → p.parked ≡ parked → (some : Bool) → is_some (due p.place) ≡ some
    → (not parked && some) ≡ false → (p.place.left ≡ []) ⊎ (p.parked ≡ true)
over-by p true waits some is h = inr waits
over-by p false waits true is h = absurd (cc)
over-by p false waits false is h = inl (no-call p.place p.place.left is)

over-all : (p : ℕ × Progress) (ps : Places) (b : Bool) → goes_on p.1 ≡ b
    → cond b (Some p.0) (first_going ps) ≡ None → (first_going ps ≡ None → AllByRecursion IsOver ps)
    → AllByRecursion IsOver (p ∷ ps)
over-all p ps true is h rest = absurd (cc)
over-all p ps false is h rest =
    (over-by p.1 p.1.parked refl (is_some (due p.1.place)) refl is, rest h)

-- where no process is found that goes on, all have ended or wait
pub all-over : (places : Places) → first_going places ≡ None → AllByRecursion IsOver places
all-over [] h = tt
all-over (p ∷ ps) h = over-all p ps (goes_on p.1) refl h (all-over ps)

and-never : (b : Bool) → (b && false) ≡ false
and-never true = refl
and-never false = refl

over-stays : (p : Progress) → (p.place.left ≡ []) ⊎ (p.parked ≡ true) → goes_on p ≡ false
over-stays p (inl none) =
    let ended : is_some (call_due p.place p.place.left) ≡ false =
    ap (λ (l : List Line). is_some (call_due p.place l)) none in
    rw ended (and-never (not p.parked))
over-stays p (inr waits) = rw waits refl

-- where all have ended or wait, none is found
pub none-going : (places : Places) → AllByRecursion IsOver places → first_going places ≡ None
none-going [] h = refl
none-going (p ∷ ps) h =
    let over : goes_on p.1 ≡ false = over-stays p.1 h.0 in
    rw over (none-going ps h.1)

-- A history that goes on from here to its whole text.
pub record Follows (script : Script) (n line left : ℕ) (done : List Entry) (so_far : SoFar) (bytes : List ℕ)
    (legal : Legal) : Type 0 where
  pub history : List Entry
  pub more : List Entry
  pub is : history ≡ done ++ more
  pub read : read_from script n line left done bytes ≡ Ok history
  pub kernel : Kernel
  pub replays : Replays so_far.kernel more kernel
  pub places : Places
  pub fits : FitsFrom script so_far.places more places
  pub over : AllByRecursion IsOver places
  pub count : legal.entries ≡ length history

module _ (script : Script) (sound : IsSoundScript script) where
  follows-entry : (n line left : ℕ) (done : List Entry) (so_far next : SoFar) (bytes text after : List ℕ) (e : Entry)
      (legal : Legal) → next_line bytes ≡ Some (text, after) → fits left text ≡ true
      → is_line (totals_line done) text ≡ false → entry_in script text ≡ Some e
      → GoesOn script so_far e next
      → Follows script n (line + 1) (left - (length text + 1)) (done ++ e ∷ []) next after legal
      → Follows script (suc n) line left done so_far bytes legal
  unfolding read_from
  follows-entry n line left done so_far next bytes text after e legal there fit totals entry goes rest =
      record {
        history = rest.history;
        more = e ∷ rest.more;
        is = rest.is ∙ append_assoc done (e ∷ []) rest.more;
        read = rw (there, fit, totals, entry) rest.read;
        kernel = rest.kernel;
        replays = record { next = next.kernel; step = goes.step; rest = rest.replays };
        places = rest.places;
        fits = record {
          progress = goes.progress;
          there = goes.there;
          next = goes.next;
          rest = subst (λ (p : Places). FitsFrom script p rest.more rest.places) goes.moved rest.fits;
        };
        over = rest.over;
        count = rest.count;
      }

  -- what is judged to be legal is a history that goes on from here
  pub judged-follows : (n line left : ℕ) (done : List Entry) (so_far : SoFar) (bytes : List ℕ) (legal : Legal)
      → judge_from script n line left done so_far bytes ≡ Ok legal
      → Follows script n line left done so_far bytes legal
  unfolding judge_from read_from
  judged-follows zero line left done so_far bytes legal h = absurd (cc)
  judged-follows (suc n) line left done so_far bytes legal h =
      of (next_line bytes) refl h (λ left' done' next after. judged-follows n (line + 1) left' done' next after legal)
    where
      at-entry : (text after : List ℕ) (e : Entry) → next_line bytes ≡ Some (text, after) → fits left text ≡ true
          → is_line (totals_line done) text ≡ false → entry_in script text ≡ Some e
          → (r : Result SoFar CheckFault) → judge_entry script line so_far e ≡ r
          → or_fault r (λ next. judge_from script n (line + 1) (left - (length text + 1)) (done ++ e ∷ []) next after)
          ≡ Ok legal → ((left' : ℕ) (done' : List Entry) (next : SoFar) (after : List ℕ)
          → judge_from script n (line + 1) left' done' next after ≡ Ok legal
          → Follows script n (line + 1) left' done' next after legal)
          → Follows script (suc n) line left done so_far bytes legal
      at-entry text after e there fit totals entry (Err fault) judged h later = absurd (cc)
      at-entry text after e there fit totals entry (Ok next) judged h later =
          let t = entry-takes script text e entry in
          follows-entry n line left done so_far next bytes text after e legal there fit totals entry
          (judged-goes-on script sound line so_far next e t.0 judged)
          (later (left - (length text + 1)) (done ++ e ∷ []) next after h)

      at-totals : (text after : List ℕ) → next_line bytes ≡ Some (text, after) → fits left text ≡ true
          → is_line (totals_line done) text ≡ true → (o : Option ℕ) → first_going so_far.places ≡ o
          → (d : Bool) → has_ended after ≡ d
          → judge_totals line (length done) so_far after o ≡ Ok legal
          → Follows script (suc n) line left done so_far bytes legal
      at-totals text after there fit totals (Some pid) going d ended h = absurd (cc)
      at-totals text after there fit totals None going false ended h =
          let no : cond false (Ok (record { entries = length done })) (Err (NotATrace (line + 1))) ≡ Ok legal =
          ap (λ (b : Bool). cond b (Ok (record { entries = length done })) (Err (NotATrace (line + 1)))) (sym ended)
          ∙ h in absurd (cc)
      at-totals text after there fit totals None going true ended h =
          let yes : cond true (Ok (record { entries = length done })) (Err (NotATrace (line + 1))) ≡ Ok legal =
          ap (λ (b : Bool). cond b (Ok (record { entries = length done })) (Err (NotATrace (line + 1)))) (sym ended)
          ∙ h in
          let same : record { entries = length done } ≡ legal = cc in
          record {
            history = done;
            more = [];
            is = sym (append-nil done);
            read = rw (there, fit, totals, ended) refl;
            kernel = so_far.kernel;
            replays = refl;
            places = so_far.places;
            fits = refl;
            over = all-over so_far.places going;
            count = ap (λ (l : Legal). l.entries) (sym same);
          }

      at-line : (text after : List ℕ) → next_line bytes ≡ Some (text, after) → (b : Bool) → fits left text ≡ b
          → (c : Bool) → is_line (totals_line done) text ≡ c → (o : Option Entry) → entry_in script text ≡ o
          → cond (not b) (Err (NotATrace line))
          (cond c (judge_totals line (length done) so_far after (first_going so_far.places))
          (option_map_or (λ e. or_fault (judge_entry script line so_far e) (λ next.
          judge_from script n (line + 1) (left - (length text + 1)) (done ++ e ∷ []) next after)) o
          (Err (NotATrace line)))) ≡ Ok legal
          → ((left' : ℕ) (done' : List Entry) (next : SoFar) (after : List ℕ)
          → judge_from script n (line + 1) left' done' next after ≡ Ok legal
          → Follows script n (line + 1) left' done' next after legal)
          → Follows script (suc n) line left done so_far bytes legal
      at-line text after there false fit c totals o entry h later = absurd (cc)
      at-line text after there true fit true totals o entry h later =
          at-totals text after there fit totals (first_going so_far.places) refl (has_ended after) refl h
      at-line text after there true fit false totals None entry h later = absurd (cc)
      at-line text after there true fit false totals (Some e) entry h later =
          at-entry text after e there fit totals entry (judge_entry script line so_far e) refl h later

      of : (o : Option (List ℕ × List ℕ)) → next_line bytes ≡ o
          → option_map_or (λ (p : List ℕ × List ℕ). judge_line script line left done so_far p.0 p.1
          (λ e next. judge_from script n (line + 1) (left - (length p.0 + 1)) (done ++ e ∷ []) next p.1)) o
          (Err (NotATrace line)) ≡ Ok legal
          → ((left' : ℕ) (done' : List Entry) (next : SoFar) (after : List ℕ)
          → judge_from script n (line + 1) left' done' next after ≡ Ok legal
          → Follows script n (line + 1) left' done' next after legal)
          → Follows script (suc n) line left done so_far bytes legal
      of None there h later = absurd (cc)
      of (Some p) there h later =
          at-line p.0 p.1 there (fits left p.0) refl (is_line (totals_line done) p.0) refl (entry_in script p.0) refl h
          later

  -- what is judged to be legal is the text of a legal history that fits whole
  pub judged-legal : (bytes : List ℕ) (first : ℕ) (legal : Legal) → verdict_of script bytes first ≡ Ok legal
      → CountsLegal script bytes legal.entries
  judged-legal bytes first legal h =
      let f = judged-follows (length bytes) first max_trace [] (at_opening script) bytes legal h in
      let same : f.more ≡ f.history = sym f.is in
      record {
        history = f.history;
        is = record {
          text = read-is script bytes first f.history f.read;
          legal =
              record {
                last = f.kernel;
                replays = subst (λ (es : List Entry). Replays opening es f.kernel) same f.replays;
              };
          whole = record {
            last = f.places;
            fits = subst (λ (es : List Entry). FitsFrom script (opening_places script) es f.places) same f.fits;
            over = f.over;
          };
        };
        count = f.count;
      }

  pub gives-legal : (bytes : List ℕ) (first : ℕ) (r : Result Legal CheckFault) → Gives r (verdict_of script bytes first)
      → IfOk r (λ legal. CountsLegal script bytes legal.entries)
  gives-legal bytes first (Ok legal) g = judged-legal bytes first legal g
  gives-legal bytes first (Err fault) g = tt
