-- The text of a history that is legal and fits the script whole is judged to be legal.
use Rattle.std.proofs.Common.{◌≡◌, ◌⊎◌, inl, inr, ◌∙◌, ℕ, zero, suc, ◌+◌, ◌-◌, Bool, true, false, not, cond, List, [], ◌∷◌, ◌++◌, length, Option, Some, None, refl, sym, ap, subst, append_assoc}
use Rattle.std.specs.Prelude.{Result, Ok, Err}
use Rattle.std.specs.List.{AllByRecursion}
use Rattle.std.specs.Option.{option_map_or}
use Rattle.pico_base.specs.declared.reply.Entry.{Entry}
use Rattle.pico_base.specs.declared.script.Script.{Script}
use Rattle.waiting_model.specs.Kernel.{Kernel, opening}
use Rattle.kernel_model.specs.History.{number_in}
use Rattle.waiting_model.specs.History.{Replays}
use Rattle.waiting_model.specs.Transition.{successor, transition}
use Rattle.kernel_model.specs.Script.{IsSoundScript}
use Rattle.kernel_model.specs.Trace.{totals_line}
use Rattle.waiting_model.specs.Fitting.{Places, IsOver, FitsFrom, places_after}
use Rattle.waiting_laws.specs.Parked.{mark_in}
use Rattle.trace_text.specs.Reading.{has_ended, is_line, entry_in}
use Rattle.trace_text.specs.Read.{max_trace, next_line, fits, read_line, read_from}
use Rattle.trace_text.specs.declared.fault.CheckFault.{CheckFault}
use Rattle.trace_text.specs.declared.fault.CheckFault.TheVariants.{Memory, NotATrace, Illegal, NotTheScript}
use Rattle.trace_text.proofs.EntryLaws.{entry-takes}
use Rattle.trace_text.proofs.Whole.{takes}
use Rattle.trace_text.proofs.Again.{reads-again}
use Rattle.trace_check.specs.declared.check.Legal.{Legal}
use Rattle.trace_check.specs.FirstFault.{SoFar, at_opening, judge_entry, judge_line, judge_from, first_going, verdict_of, Gives, IsLegalTrace}
use Rattle.trace_check.proofs.Entries.{goes-on-judged}
use Rattle.trace_check.proofs.Follows.{none-going}
use Rattle.trace_check.proofs.Waits.{MarkLaws, WaitAsMarked, wait-opening, wait-step}

-- what stands behind the same list is the same
same-behind : (done more rest : List Entry) → done ++ more ≡ done ++ rest → more ≡ rest
same-behind [] more rest h = h
same-behind (e ∷ es) more rest h = let tail : es ++ more ≡ es ++ rest = cc in same-behind es more rest tail

-- an entry more is never nothing more
more-is-not-none : (done rest : List Entry) (e : Entry) → (done ++ e ∷ []) ++ rest ≡ done → ⊥
more-is-not-none [] rest e h = let no : e ∷ rest ≡ [] = h in absurd (cc)
more-is-not-none (x ∷ xs) rest e h = let tail : (xs ++ e ∷ []) ++ rest ≡ xs = cc in more-is-not-none xs rest e tail

-- a history that is legal up to here goes on by an entry
replays-more : (es : List Entry) (first k next : Kernel) (e : Entry) → Replays first es k
    → transition k e.pid e.call (number_in e.outcome.own) ≡ Some (successor next e.outcome)
    → Replays first (es ++ e ∷ []) next
replays-more [] first k next e r step =
    record {
      next = next;
      step =
          ap (λ (x : Kernel). transition x e.pid e.call (number_in e.outcome.own)) r ∙ step;
      rest = refl;
    }
replays-more (x ∷ es) first k next e r step =
    record { next = r.next; step = r.step; rest = replays-more es r.next k next e r.rest step }

-- A history that goes on from these entries, kernel and places, and is then whole. The entries are legal, and each call
-- that waits is that of the kernel's mark.
pub record Ends (script : Script) (h done : List Entry) (so_far : SoFar) : Type 0 where
  pub more : List Entry
  pub is : h ≡ done ++ more
  pub replayed : Replays opening done so_far.kernel
  pub waits : WaitAsMarked so_far.places (λ q. mark_in so_far.kernel.processes q)
  pub kernel : Kernel
  pub replays : Replays so_far.kernel more kernel
  pub places : Places
  pub fits : FitsFrom script so_far.places more places
  pub over : AllByRecursion IsOver places

module _ (laws : MarkLaws) (script : Script) (sound : IsSoundScript script) (h : List Entry) where
  -- the next entry of such a history, and what it leads to
  record Next (done : List Entry) (line : ℕ) (so_far : SoFar) (e : Entry) : Type 0 where
    next : SoFar
    judged : judge_entry script line so_far e ≡ Ok next
    ends : Ends script h (done ++ e ∷ []) next

  next-entry : (done : List Entry) (line : ℕ) (so_far : SoFar) (text : List ℕ) (e : Entry) (rest : List Entry)
      → entry_in script text ≡ Some e → (ends : Ends script h done so_far) → ends.more ≡ e ∷ rest
      → Next done line so_far e
  next-entry done line so_far text e rest entry ends same =
      let t = entry-takes script text e entry in
      let replay : Replays so_far.kernel (e ∷ rest) ends.kernel =
      subst (λ (es : List Entry). Replays so_far.kernel es ends.kernel) same ends.replays in
      let fit : FitsFrom script so_far.places (e ∷ rest) ends.places =
      subst (λ (es : List Entry). FitsFrom script so_far.places es ends.places) same ends.fits in
      record {
        next = record { kernel = replay.next; places = places_after script so_far.places e fit.progress };
        judged = goes-on-judged script sound line so_far e replay.next fit.progress t.0 replay.step fit.there
            fit.next (λ parked. ends.waits e.pid fit.progress fit.there parked);
        ends =
            record {
              more = rest;
              is = ends.is ∙ ap (λ (es : List Entry). done ++ es) same ∙ sym (append_assoc done (e ∷ []) rest);
              replayed = replays-more done opening so_far.kernel replay.next e ends.replayed replay.step;
              waits = wait-step laws script done so_far.kernel ends.replayed e so_far.places fit.progress replay.next
                  replay.step ends.waits fit.there fit.next;
              kernel = ends.kernel;
              replays = replay.rest;
              places = ends.places;
              fits = fit.rest;
              over = ends.over;
            };
      }

  next-of : (n line left : ℕ) (done : List Entry) (so_far : SoFar) (text after : List ℕ) (e : Entry)
      → entry_in script text ≡ Some e → read_from script n line left (done ++ e ∷ []) after ≡ Ok h
      → (at : ℕ) → Ends script h done so_far → Next done at so_far e
  next-of n line left done so_far text after e entry read at ends =
      let r = takes script n line left (done ++ e ∷ []) after h read in
      let both : done ++ ends.more ≡ done ++ e ∷ r.more = sym ends.is ∙ r.is ∙ append_assoc done (e ∷ []) r.more in
      let same : ends.more ≡ e ∷ r.more = same-behind done ends.more (e ∷ r.more) both in
      next-entry done at so_far text e r.more entry ends same

  over-places : (done : List Entry) (so_far : SoFar) → h ≡ done → (more : List Entry) → h ≡ done ++ more
      → (places : Places) → FitsFrom script so_far.places more places → AllByRecursion IsOver places
      → first_going so_far.places ≡ None
  over-places done so_far same [] is places fits over =
      none-going so_far.places (subst (AllByRecursion IsOver) (sym fits) over)
  over-places done so_far same (e ∷ es) is places fits over =
      absurd (more-is-not-none done es e (append_assoc done (e ∷ []) es ∙ sym is ∙ same))

  -- line by line
  completes : (n line left : ℕ) (done : List Entry) (so_far : SoFar) (bytes : List ℕ)
      → read_from script n line left done bytes ≡ Ok h → Ends script h done so_far
      → judge_from script n line left done so_far bytes ≡ Ok (record { entries = length h })
  unfolding judge_from read_from
  completes zero line left done so_far bytes read ends = absurd (cc)
  completes (suc n) line left done so_far bytes read ends =
      of (next_line bytes) refl read
      (λ left' done' next after. completes n (line + 1) left' done' next after)
    where
      at-line : (text after : List ℕ) → (b : Bool) → fits left text ≡ b
          → (c : Bool) → is_line (totals_line done) text ≡ c → (d : Bool) → has_ended after ≡ d → (o : Option Entry)
          → entry_in script text ≡ o
          → cond (not b) (Err line)
          (cond c (cond d (Ok done) (Err (line + 1)))
          (option_map_or (λ x. read_from script n (line + 1) (left - (length text + 1)) (done ++ x ∷ []) after) o
          (Err line))) ≡ Ok h
          → ((left' : ℕ) (done' : List Entry) (next : SoFar) (after : List ℕ)
          → read_from script n (line + 1) left' done' after ≡ Ok h → Ends script h done' next
          → judge_from script n (line + 1) left' done' next after ≡ Ok (record { entries = length h }))
          → judge_line script line left done so_far text after
          (λ e next. judge_from script n (line + 1) (left - (length text + 1)) (done ++ e ∷ []) next after)
          ≡ Ok (record { entries = length h })
      at-line text after false fit c totals d ended o entry read later = absurd (cc)
      at-line text after true fit true totals false ended o entry read later = absurd (cc)
      at-line text after true fit true totals true ended o entry read later =
          let same : done ≡ h = cc in
          let over : first_going so_far.places ≡ None =
          over-places done so_far (sym same) ends.more ends.is ends.places ends.fits ends.over in
          rw (fit, totals, over, ended, same) refl
      at-line text after true fit false totals d ended None entry read later = absurd (cc)
      at-line text after true fit false totals d ended (Some e) entry read later =
          let next = next-of n (line + 1) (left - (length text + 1)) done so_far text after e entry read line ends in
          rw (fit, totals, entry, next.judged)
          (later (left - (length text + 1)) (done ++ e ∷ []) next.next after read next.ends)

      of : (o : Option (List ℕ × List ℕ)) → next_line bytes ≡ o
          → option_map_or (λ (p : List ℕ × List ℕ).
          read_line script line left done p.0 p.1
          (λ x. read_from script n (line + 1) (left - (length p.0 + 1)) (done ++ x ∷ []) p.1)) o (Err line) ≡ Ok h
          → ((left' : ℕ) (done' : List Entry) (next : SoFar) (after : List ℕ)
          → read_from script n (line + 1) left' done' after ≡ Ok h → Ends script h done' next
          → judge_from script n (line + 1) left' done' next after ≡ Ok (record { entries = length h }))
          → option_map_or (λ (p : List ℕ × List ℕ). judge_line script line left done so_far p.0 p.1
          (λ e next. judge_from script n (line + 1) (left - (length p.0 + 1)) (done ++ e ∷ []) next p.1)) o
          (Err (NotATrace line)) ≡ Ok (record { entries = length h })
      of None there read later = absurd (cc)
      of (Some p) there read later =
          at-line p.0 p.1 (fits left p.0) refl (is_line (totals_line done) p.0) refl (has_ended p.1) refl
          (entry_in script p.0) refl read later

  -- the text of a legal history that fits whole is judged to be legal
  pub legal-judged : (bytes : List ℕ) (first : ℕ) → IsLegalTrace script bytes h
      → verdict_of script bytes first ≡ Ok (record { entries = length h })
  legal-judged bytes first is =
      completes (length bytes) first max_trace [] (at_opening script) bytes
      (reads-again script sound bytes first h is.text)
      (record {
        more = h;
        is = refl;
        replayed = refl;
        waits = wait-opening script;
        kernel = is.legal.last;
        replays = is.legal.replays;
        places = is.whole.last;
        fits = is.whole.fits;
        over = is.whole.over;
      })

  pub gives-only : (bytes : List ℕ) (first : ℕ) (r : Result Legal CheckFault) → Gives r (verdict_of script bytes first)
      → IsLegalTrace script bytes h → (r ≡ Ok (record { entries = length h })) ⊎ (r ≡ Err Memory)
  gives-only bytes first (Ok legal) g is = let e = legal-judged bytes first is in inl (sym g ∙ e)
  gives-only bytes first (Err Memory) g is = inr refl
  gives-only bytes first (Err (NotATrace line)) g is = let e = legal-judged bytes first is in absurd (cc)
  gives-only bytes first (Err (Illegal line kernel trace)) g is = let e = legal-judged bytes first is in absurd (cc)
  gives-only bytes first (Err (NotTheScript line due found)) g is = let e = legal-judged bytes first is in absurd (cc)
