-- Each trace within the limits is read as its history.
use Rattle.std.proofs.Common.{◌≡◌, ◌⊎◌, inl, inr, ◌∙◌, ℕ, ◌+◌, ◌-◌, ◌≤◌, ◌<◌, Bool, true, false, not, leb, ltb, eqb, List, [], ◌∷◌, ◌++◌, length, drop, get_or, Option, Some, refl, sym, ap, append_assoc, arith}
use Rattle.std.specs.Prelude.{codes, decimal, position, Result, Ok, Err}
use Rattle.std.specs.List.{flat_map, list_all, position_or_len, count_by, sum_by}
use Rattle.std.proofs.lemmas.Bool.{and_parts, and_from, leb-true, le-leb, lt-ltb}
use Rattle.std.proofs.lemmas.List.{append-nil, length-append, take_at, drop_at}
use Rattle.std.proofs.lemmas.List.Sums.{sum_by-cons, count_by-le-length}
use Rattle.pico_base.specs.declared.reply.Entry.{Entry}
use Rattle.pico_base.specs.declared.reply.Outcome.{Outcome}
use Rattle.pico_base.specs.declared.reply.Reply.{Reply}
use Rattle.pico_base.specs.declared.script.Script.{Script}
use Rattle.kernel_model.specs.Script.{IsSoundScript, is_fork}
use Rattle.kernel_model.specs.Trace.{call_text, own_text, wake_text, made_text, entry_line, totals_line, entries_total, processes_total, not_ready_total, refused_total, replies_where, is_not_ready_reply, is_refused_reply}
use Rattle.text_fields.proofs.Numerals.{decimal_first}
use Rattle.trace_text.specs.declared.fault.CheckFault.{CheckFault}
use Rattle.trace_text.specs.declared.fault.CheckFault.TheVariants.{Memory, NotATrace, Illegal, NotTheScript}
use Rattle.trace_text.specs.Grammar.{is_entry}
use Rattle.trace_text.specs.Reading.{is_line}
use Rattle.trace_text.specs.Read.{has_line, IsTraceOf, next_line, fits, begins_like_totals, read_from, read_of, Gives}
use Rattle.trace_text.proofs.CallText.{position-is}
use Rattle.trace_text.proofs.EntryLaws.{in-grammar, line_of, line-is, line-again, entry-reads}
use Rattle.trace_text.proofs.Feeds.{IsFree, is_other, both, behind, number, call, own, wakes}
use Rattle.trace_text.proofs.ReadLaws.{no-totals, read-whole, read-goes}
use Rattle.trace_text.proofs.Whole.{is_feed}

-- a text without a line feed, and then one, is split off there
feed-place : (text after : List ℕ) → IsFree text → position_or_len is_feed (text ++ 10 ∷ after) ≡ length text
feed-place [] after h = refl
feed-place (b ∷ text) after h =
    let p = and_parts (is_other b) (list_all is_other text) h in
    let later : position_or_len is_feed (text ++ 10 ∷ after) ≡ length text = feed-place text after p.1 in
    let other : is_feed b ≡ false = flip (is_feed b) p.0 in
    rw other (omega (arith, later))
  where
    flip : (c : Bool) → not c ≡ true → c ≡ false
    flip true e = absurd (cc)
    flip false e = refl

splits : (text after : List ℕ) → IsFree text → next_line (text ++ 10 ∷ after) ≡ Some (text, after)
splits text after h =
    let bytes : List ℕ = text ++ 10 ∷ after in
    let at : position is_feed bytes ≡ Some (length text) =
    position-is is_feed bytes (length text) (feed-place text after h)
    (omega (arith, length-append text (10 ∷ after))) in
    let back : drop (length text + 1) bytes ≡ after =
    ap (λ (w : List ℕ). drop (length text + 1) w) (sym (append_assoc text (10 ∷ []) after))
    ∙ drop_at (text ++ 10 ∷ []) after (length text + 1) (omega (arith, length-append text (10 ∷ []))) in
    rw (at, take_at text (10 ∷ after) (length text) refl, back) refl

-- the line of an entry without its line feed
pub record HasText (script : Script) (e : Entry) : Type 0 where
  text : List ℕ
  line : entry_line script e ≡ text ++ 10 ∷ []
  free : IsFree text
  first : begins_like_totals text ≡ false

number-first : (w rest : List ℕ) → (48 ≤ get_or (w ++ rest) 0 0) × (get_or (w ++ rest) 0 0 ≤ 57)
    → begins_like_totals (w ++ rest) ≡ false
number-first [] [] h = refl
number-first [] (b ∷ rest) h = other b h
  where
    other : (b : ℕ) → (48 ≤ b) × (b ≤ 57) → eqb b 116 ≡ false
    other b h = grind arith
number-first (b ∷ w) rest h = other b h
  where
    other : (b : ℕ) → (48 ≤ b) × (b ≤ 57) → eqb b 116 ≡ false
    other b h = grind arith

has-text : (script : Script) (e : Entry) → IsSoundScript script → is_entry script e ≡ true → HasText script e
has-text script e sound h =
    let a = in-grammar script e h in
    let wakes_text : List ℕ = flat_map wake_text e.outcome.woken in
    let by : List ℕ = codes " by " ++ (decimal e.by ++ wakes_text) in
    let answer : List ℕ = own_text e.outcome.own ++ by in
    let rest : List ℕ = call_text script e.call ++ (codes " = " ++ answer) in
    record {
      text = line_of script e.pid e.call e.outcome.own e.by e.outcome.woken;
      line = line-is script e;
      free = both (decimal e.pid) (32 ∷ rest) (number e.pid a.pid)
          (behind 32 rest refl (both (call_text script e.call) (codes " = " ++ answer) (call script e.call sound a.call)
          (both (codes " = ") answer refl
          (both (own_text e.outcome.own) by (own e.outcome.own a.own)
          (both (codes " by ") (decimal e.by ++ wakes_text) refl
          (both (decimal e.by) wakes_text (number e.by (omega (arith, a.high))) (wakes e.outcome.woken a.woken)))))));
      first = number-first (decimal e.pid) (32 ∷ rest) (decimal_first e.pid (32 ∷ rest) a.pid);
    }

-- the totals without their line feed
pub record HasTotals (h : List Entry) : Type 0 where
  text : List ℕ
  line : totals_line h ≡ text ++ 10 ∷ []
  free : IsFree text

totals-of : (h : List Entry) → length h ≤ 4294967294 → count_by (λ e. is_fork e.call) h ≤ length h
    → sum_by (λ e. replies_where is_not_ready_reply e.outcome) h ≤ 4294967295
    → sum_by (λ e. replies_where is_refused_reply e.outcome) h ≤ 4294967295 → HasTotals h
unfolding entries_total processes_total not_ready_total refused_total
totals-of h few forks waits refusals =
    let first : List ℕ = codes "totals entries " ++ decimal (length h) in
    let second : List ℕ = codes " processes " ++ decimal (1 + count_by (λ e. is_fork e.call) h) in
    let third : List ℕ = codes " notready " ++ decimal (sum_by (λ e. replies_where is_not_ready_reply e.outcome) h) in
    let fourth : List ℕ = codes " refused " ++ decimal (sum_by (λ e. replies_where is_refused_reply e.outcome) h) in
    record {
      text = first ++ second ++ third ++ fourth;
      line = refl;
      free = both (first ++ second ++ third) fourth
          (both (first ++ second) third
          (both first second
          (both (codes "totals entries ") (decimal (length h)) refl (number (length h) (omega (arith, few))))
          (both (codes " processes ") (decimal (1 + count_by (λ e. is_fork e.call) h)) refl
          (number (1 + count_by (λ e. is_fork e.call) h) (omega (arith, few, forks)))))
          (both (codes " notready ") (decimal (sum_by (λ e. replies_where is_not_ready_reply e.outcome) h)) refl
          (number (sum_by (λ e. replies_where is_not_ready_reply e.outcome) h) waits)))
          (both (codes " refused ") (decimal (sum_by (λ e. replies_where is_refused_reply e.outcome) h)) refl
          (number (sum_by (λ e. replies_where is_refused_reply e.outcome) h) refusals));
    }

-- ---- no line has more replies than bytes

-- an outcome has the caller's reply at most, and one of each caller that is woken
few-replies : (test : Option Reply → Bool) (outcome : Outcome)
    → replies_where test outcome ≤ length outcome.woken + 1
few-replies test outcome = of (test outcome.own) refl
  where
    of : (b : Bool) → test outcome.own ≡ b → replies_where test outcome ≤ length outcome.woken + 1
    of true t = rw t (omega (arith, count_by-le-length (λ w. test (Some w.1)) outcome.woken))
    of false t = rw t (omega (arith, count_by-le-length (λ w. test (Some w.1)) outcome.woken))

wakes-room : (wakes : List (ℕ × Reply)) → length wakes ≤ length (flat_map wake_text wakes)
wakes-room [] = omega arith
wakes-room (wake ∷ wakes) =
    omega (arith, length-append (wake_text wake) (flat_map wake_text wakes), some wake, wakes-room wakes)
  where
    some : (w : ℕ × Reply) → 1 ≤ length (wake_text w)
    some w = omega arith

line-room : (script : Script) (e : Entry) → length e.outcome.woken + 1 ≤ length (entry_line script e)
line-room script e =
    let front : List ℕ = made_text script e.pid e.call ++ codes " = " ++ own_text e.outcome.own in
    let by : List ℕ = codes " by " ++ decimal e.by in
    let wakes_text : List ℕ = flat_map wake_text e.outcome.woken in
    omega (
      arith,
      length-append front (by ++ (wakes_text ++ 10 ∷ [])),
      length-append by (wakes_text ++ 10 ∷ []),
      length-append wakes_text (10 ∷ []),
      wakes-room e.outcome.woken,
    )

replies : (script : Script) (test : Option Reply → Bool) (h : List Entry)
    → sum_by (λ e. replies_where test e.outcome) h ≤ length (flat_map (entry_line script) h)
replies script test [] = omega arith
replies script test (e ∷ es) =
    omega (
      arith,
      sum_by-cons (λ x. replies_where test x.outcome) e es,
      few-replies test e.outcome,
      line-room script e,
      length-append (entry_line script e) (flat_map (entry_line script) es),
      replies script test es,
    )

-- a line isn't empty
lines-room : (script : Script) (h : List Entry) → IsSoundScript script → list_all (has_line script) h ≡ true
    → length h ≤ length (flat_map (entry_line script) h)
lines-room script [] sound all = omega arith
lines-room script (e ∷ es) sound all =
    let p = and_parts (has_line script e) (list_all (has_line script) es) all in
    let q = and_parts (is_entry script e) (leb (length (entry_line script e)) 1048577) p.0 in
    let t = has-text script e sound q.0 in
    omega (
      arith,
      length-append (entry_line script e) (flat_map (entry_line script) es),
      ap length t.line,
      length-append t.text (10 ∷ []),
      lines-room script es sound p.1,
    )

whole-totals : (script : Script) (h : List Entry) → IsSoundScript script → list_all (has_line script) h ≡ true
    → length (flat_map (entry_line script) h) ≤ 67108864 → HasTotals h
whole-totals script h sound all within =
    totals-of h (omega (arith, lines-room script h sound all, within)) (count_by-le-length (λ e. is_fork e.call) h)
    (omega (arith, replies script is_not_ready_reply h, within))
    (omega (arith, replies script is_refused_reply h, within))

module _ (script : Script) (sound : IsSoundScript script) where
  again : (n line left : ℕ) (done more h : List Entry) → h ≡ done ++ more → list_all (has_line script) more ≡ true
      → (t : HasTotals h) → length t.text ≤ 1048576
      → length (flat_map (entry_line script) more) + (length t.text + 1) ≤ left → length more < n
      → read_from script n line left done (flat_map (entry_line script) more ++ totals_line h) ≡ Ok h
  again n line left done [] h is all t short room fuel =
      let same : h ≡ done = is ∙ append-nil done in
      let bytes : totals_line h ≡ t.text ++ 10 ∷ [] = t.line in
      let fit : fits left t.text ≡ true =
      and_from (leb (length t.text) 1048576) (ltb (length t.text) left) (le-leb (length t.text) 1048576 short)
      (lt-ltb (length t.text) left (omega (arith, room))) in
      let totals : is_line (totals_line done) t.text ≡ true =
      ap (λ (x : List ℕ). is_line x t.text) (ap totals_line (sym same) ∙ bytes) ∙ line-again t.text in
      ap (read_from script n line left done) bytes
      ∙ read-whole script line left done (t.text ++ 10 ∷ []) t.text [] (sym (splits t.text [] t.free)) n
      (omega (arith, fuel)) fit totals refl
      ∙ ap Ok (sym same)
  again n line left done (e ∷ es) h is all t short room fuel =
      let p = and_parts (has_line script e) (list_all (has_line script) es) all in
      let q = and_parts (is_entry script e) (leb (length (entry_line script e)) 1048577) p.0 in
      let w = has-text script e sound q.0 in
      let rest : List ℕ = flat_map (entry_line script) es ++ totals_line h in
      let count : length (entry_line script e) ≡ length w.text + 1 =
      ap length w.line ∙ length-append w.text (10 ∷ []) ∙ omega arith in
      let small : length w.text ≤ 1048576 = omega (arith, leb-true (length (entry_line script e)) 1048577 q.1, count) in
      let total : length (entry_line script e ++ flat_map (entry_line script) es)
      ≡ length (entry_line script e) + length (flat_map (entry_line script) es) =
      length-append (entry_line script e) (flat_map (entry_line script) es) in
      let low : length w.text < left = omega (arith, room, total, count) in
      let fit : fits left w.text ≡ true =
      and_from (leb (length w.text) 1048576) (ltb (length w.text) left) (le-leb (length w.text) 1048576 small)
      (lt-ltb (length w.text) left low) in
      let bytes : (entry_line script e ++ flat_map (entry_line script) es) ++ totals_line h ≡ w.text ++ 10 ∷ rest =
      append_assoc (entry_line script e) (flat_map (entry_line script) es) (totals_line h)
      ∙ ap (λ (x : List ℕ). x ++ rest) w.line ∙ append_assoc w.text (10 ∷ []) rest in
      let other : is_line (totals_line done) w.text ≡ false = no-totals done w.text w.first in
      let goes = read-goes script line left done (w.text ++ 10 ∷ rest) w.text rest (sym (splits w.text rest w.free)) n e
      (omega (arith, fuel)) fit other (entry-reads script w.text e sound q.0 w.line) in
      let next : h ≡ (done ++ e ∷ []) ++ es = is ∙ sym (append_assoc done (e ∷ []) es) in
      ap (read_from script n line left done) bytes ∙ goes
      ∙ again (n - 1) (line + 1) (left - (length w.text + 1)) (done ++ e ∷ []) es h next p.1 t short
      (omega (arith, room, total, count, low)) (omega (arith, fuel))

  pub reads-again : (bytes : List ℕ) (first : ℕ) (h : List Entry) → IsTraceOf script bytes h
      → read_of script bytes first ≡ Ok h
  reads-again bytes first h is =
      let t = whole-totals script h sound is.begins.lines is.begins.within in
      let count : length (totals_line h) ≡ length t.text + 1 =
      ap length t.line ∙ length-append t.text (10 ∷ []) ∙ omega arith in
      let whole : length bytes ≡ length (flat_map (entry_line script) h) + length (totals_line h) =
      ap length is.begins.text ∙ length-append (flat_map (entry_line script) h) (totals_line h) in
      ap (read_from script (length bytes) first 67108864 []) is.begins.text
      ∙ again (length bytes) first 67108864 [] h h refl is.begins.lines t (omega (arith, is.short, count))
      (omega (arith, is.within, whole, count))
      (omega (arith, lines-room script h sound is.begins.lines, whole, count))

  pub read-only : (bytes : List ℕ) (first : ℕ) (r : Result (List Entry) CheckFault)
      → Gives r (read_of script bytes first) → (h : List Entry) → IsTraceOf script bytes h → (r ≡ Ok h)
      ⊎ (r ≡ Err Memory)
  read-only bytes first (Ok entries) g h is = let e = reads-again bytes first h is in inl (cc)
  read-only bytes first (Err Memory) g h is = inr refl
  read-only bytes first (Err (NotATrace line)) g h is = let e = reads-again bytes first h is in absurd (cc)
  read-only bytes first (Err (Illegal line kernel trace)) g h is = absurd g
  read-only bytes first (Err (NotTheScript line due found)) g h is = absurd g
