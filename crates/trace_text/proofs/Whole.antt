-- What is read of a trace is the history whose text it is.
use Rattle.std.proofs.Common.{◌≡◌, ◌∙◌, ℕ, zero, suc, ◌+◌, ◌-◌, ◌≤◌, ◌<◌, Bool, true, false, not, cond, leb, ltb, eqb, List, [], ◌∷◌, ◌++◌, length, take, drop, get_or, Option, Some, None, refl, sym, ap, append_assoc, arith, drop-cons, add-one}
use Rattle.std.specs.Prelude.{position, Result, Ok, Err, IfOk}
use Rattle.std.specs.List.{flat_map, list_all}
use Rattle.std.specs.Option.{option_map_or}
use Rattle.std.proofs.lemmas.Bool.{and_parts, and_from, leb-true, le-leb, ltb-true, eqb-true}
use Rattle.std.proofs.lemmas.List.{append-nil, length-append, take-append-drop}
use Rattle.std.proofs.lemmas.List.Quantifiers.{position-Some}
use Rattle.pico_base.specs.declared.reply.Entry.{Entry}
use Rattle.pico_base.specs.declared.script.Script.{Script}
use Rattle.kernel_model.specs.Trace.{entry_line, totals_line}
use Rattle.text_fields.proofs.Chains.{mapped}
use Rattle.trace_text.specs.Grammar.{is_entry}
use Rattle.trace_text.specs.Reading.{has_ended, is_line, entry_in}
use Rattle.trace_text.specs.declared.fault.CheckFault.{CheckFault}
use Rattle.trace_text.specs.Read.{has_line, IsTraceOf, next_line, fits, read_line, read_from, read_of, Gives}
use Rattle.trace_text.proofs.EntryLaws.{line-tested, entry-takes}

-- a line feed
abbrev pub is_feed : ℕ → Bool
is_feed b = eqb b 10

-- a line that was split off ends at a line feed
pub split : (bytes text after : List ℕ) → next_line bytes ≡ Some (text, after) → bytes ≡ text ++ 10 ∷ after
split bytes text after e =
    let m = mapped (λ at. (take at bytes, drop (at + 1) bytes)) (position is_feed bytes) (text, after) e in
    let i : ℕ = m.0 in
    let p = position-Some is_feed bytes i 0 m.1 in
    let feed : get_or bytes i 0 ≡ 10 = eqb-true (get_or bytes i 0) 10 p.1 in
    let front : take i bytes ≡ text = ap (λ (q : List ℕ × List ℕ). q.0) m.2 in
    let back : drop (i + 1) bytes ≡ after = ap (λ (q : List ℕ × List ℕ). q.1) m.2 in
    let low : i < length bytes = p.0 in
    let next : drop (suc i) bytes ≡ after = ap (λ (k : ℕ). drop k bytes) (sym (add-one i)) ∙ back in
    sym (take-append-drop i bytes) ∙ rw (drop-cons bytes i 0, feed, front, next) refl

ended-empty : (bytes : List ℕ) → has_ended bytes ≡ true → bytes ≡ []
ended-empty [] h = refl
ended-empty (b ∷ bytes) h = absurd (cc)

-- which line comes next, and what it leads to
pub record Rests (script : Script) (left : ℕ) (done : List Entry) (bytes : List ℕ) (h : List Entry) : Type 0 where
  pub more : List Entry
  pub is : h ≡ done ++ more
  pub text : bytes ≡ flat_map (entry_line script) more ++ totals_line h
  pub lines : list_all (has_line script) more ≡ true
  pub within : length bytes ≤ left
  pub short : length (totals_line h) ≤ 1048577

module _ (script : Script) where
  pub takes : (n line left : ℕ) (done : List Entry) (bytes : List ℕ) (h : List Entry)
      → read_from script n line left done bytes ≡ Ok h → Rests script left done bytes h
  unfolding read_from
  takes zero line left done bytes h e = absurd (cc)
  takes (suc n) line left done bytes h e =
      of (next_line bytes) refl e (λ left' done' bytes'. takes n (line + 1) left' done' bytes' h)
    where
      at-line : (text after : List ℕ) → next_line bytes ≡ Some (text, after) → (b : Bool) → fits left text ≡ b
          → (c : Bool) → is_line (totals_line done) text ≡ c → (d : Bool) → has_ended after ≡ d → (o : Option Entry)
          → entry_in script text ≡ o
          → cond (not b) (Err line)
          (cond c (cond d (Ok done) (Err (line + 1)))
          (option_map_or (λ x. read_from script n (line + 1) (left - (length text + 1)) (done ++ x ∷ []) after) o
          (Err line))) ≡ Ok h
          → ((left' : ℕ) (done' : List Entry) (bytes' : List ℕ)
          → read_from script n (line + 1) left' done' bytes' ≡ Ok h → Rests script left' done' bytes' h)
          → Rests script left done bytes h
      at-line text after there false fit c totals d ended o entry e again = absurd (cc)
      at-line text after there true fit true totals false ended o entry e again = absurd (cc)
      at-line text after there true fit true totals true ended o entry e again =
          let same : done ≡ h = cc in
          let whole : bytes ≡ text ++ 10 ∷ [] =
          split bytes text after there ∙ ap (λ (x : List ℕ). text ++ 10 ∷ x) (ended-empty after ended) in
          let line_is : totals_line done ≡ text ++ 10 ∷ [] = line-tested (totals_line done) text totals in
          let f = and_parts (leb (length text) 1048576) (ltb (length text) left) fit in
          let room : length text < left = ltb-true (length text) left f.1 in
          let small : length text ≤ 1048576 = leb-true (length text) 1048576 f.0 in
          let count : length (text ++ 10 ∷ []) ≡ length text + 1 = length-append text (10 ∷ []) ∙ omega arith in
          record {
            more = [];
            is = sym same ∙ sym (append-nil done);
            text = whole ∙ sym line_is ∙ ap totals_line same;
            lines = refl;
            within = omega (arith, ap length whole, count);
            short = omega (arith, ap length (sym (ap totals_line same)), ap length line_is, count);
          }
      at-line text after there true fit false totals d ended None entry e again = absurd (cc)
      at-line text after there true fit false totals d ended (Some x) entry e again =
          let r = again (left - (length text + 1)) (done ++ x ∷ []) after e in
          let t = entry-takes script text x entry in
          let whole : bytes ≡ text ++ 10 ∷ after = split bytes text after there in
          let f = and_parts (leb (length text) 1048576) (ltb (length text) left) fit in
          let room : length text < left = ltb-true (length text) left f.1 in
          let small : length text ≤ 1048576 = leb-true (length text) 1048576 f.0 in
          let count : length (text ++ 10 ∷ []) ≡ length text + 1 = length-append text (10 ∷ []) ∙ omega arith in
          let total : length (text ++ 10 ∷ after) ≡ length text + (length after + 1) =
          length-append text (10 ∷ after) ∙ omega arith in
          let short_line : length (entry_line script x) ≤ 1048577 = omega (arith, ap length t.1, count) in
          let good : has_line script x ≡ true =
          and_from (is_entry script x) (leb (length (entry_line script x)) 1048577) t.0
          (le-leb (length (entry_line script x)) 1048577 short_line) in
          record {
            more = x ∷ r.more;
            is = r.is ∙ append_assoc done (x ∷ []) r.more;
            text = whole ∙ sym (append_assoc text (10 ∷ []) after) ∙ ap (λ (w : List ℕ). w ++ after) (sym t.1)
                ∙ ap (λ (w : List ℕ). entry_line script x ++ w) r.text
                ∙ sym (append_assoc (entry_line script x) (flat_map (entry_line script) r.more) (totals_line h));
            lines = and_from (has_line script x) (list_all (has_line script) r.more) good r.lines;
            within = omega (arith, ap length whole, total, r.within);
            short = r.short;
          }

      of : (o : Option (List ℕ × List ℕ)) → next_line bytes ≡ o
          → option_map_or (λ (p : List ℕ × List ℕ).
          read_line script line left done p.0 p.1
          (λ x. read_from script n (line + 1) (left - (length p.0 + 1)) (done ++ x ∷ []) p.1)) o (Err line) ≡ Ok h
          → ((left' : ℕ) (done' : List Entry) (bytes' : List ℕ)
          → read_from script n (line + 1) left' done' bytes' ≡ Ok h → Rests script left' done' bytes' h)
          → Rests script left done bytes h
      of None there e again = absurd (cc)
      of (Some p) there e again =
          at-line p.0 p.1 there (fits left p.0) refl (is_line (totals_line done) p.0) refl (has_ended p.1) refl
          (entry_in script p.0) refl e again

  pub read-is : (bytes : List ℕ) (first : ℕ) (h : List Entry) → read_of script bytes first ≡ Ok h
      → IsTraceOf script bytes h
  read-is bytes first h e =
      let r = takes (length bytes) first 67108864 [] bytes h e in
      let text : bytes ≡ flat_map (entry_line script) h ++ totals_line h =
      r.text ∙ ap (λ (xs : List Entry). flat_map (entry_line script) xs ++ totals_line h) (sym r.is) in
      let front : length (flat_map (entry_line script) h ++ totals_line h)
      ≡ length (flat_map (entry_line script) h) + length (totals_line h) =
      length-append (flat_map (entry_line script) h) (totals_line h) in
      record {
        begins = record {
          lines = ap (list_all (has_line script)) r.is ∙ r.lines;
          text = text;
          within = omega (arith, r.within, ap length text, front);
        };
        short = r.short;
        within = r.within;
      }

  pub read-ok : (bytes : List ℕ) (first : ℕ) (r : Result (List Entry) CheckFault) → Gives r (read_of script bytes first)
      → IfOk r (IsTraceOf script bytes)
  read-ok bytes first (Ok h) e = read-is bytes first h e
  read-ok bytes first (Err fault) e = tt
