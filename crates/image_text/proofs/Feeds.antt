-- The lines of what is written: each line ends at its line feed.
use Rattle.std.proofs.Common.{◌≡◌, ◌≢◌, ℕ, zero, suc, ◌+◌, ◌-◌, ◌^◌, ◌<◌, ◌≤◌, Bool, true, false, cond, ◌&&◌, leb, eqb, List, [], ◌∷◌, ◌++◌, length, map, take, Option, Some, None, refl, sym, ap, subst, ◌∙◌, append-nil, append_assoc, arith}
use Rattle.std.specs.Prelude.{codes, sum_by, option_map}
use Rattle.std.specs.Fmt.{decimal}
use Rattle.std.specs.List.{AllByRecursion, flat_map, onto_first}
use Rattle.std.specs.Str.{all_ascii_digits}
use Rattle.std.proofs.lemmas.Bool.{ne_eqb, and_parts, leb-true}
use Rattle.text_fields.proofs.Numerals.{AreDigits}
use Rattle.std.specs.Str.Parse.{digits_value}
use Rattle.std.proofs.lemmas.Fmt.{decimal_is_IsNumeral}
use Rattle.std.proofs.lemmas.Str.Parse.{IsNumeralModel, numerals_by_value, tells_all_ascii_digits}
use Rattle.pico_base.specs.declared.script.Event.{Event}
use Rattle.pico_base.specs.declared.script.Event.TheVariants.{Run, Take}
use Rattle.stamp_merge.specs.declared.Stamped.{Stamped}
use Rattle.script_reader.specs.Words.{lines_of, words_of, words_in}
use Rattle.image_text.specs.Image.{act_text, event_line, count_line, ended, event_lines}
use Rattle.image_text.specs.Grammar.{MayStand, HasNodes}
use Rattle.image_text.specs.Parts.{ends_script, place_in}
use Rattle.image_text.proofs.Orders.{all-append}

-- no byte is a line feed
abbrev pub HasNoFeed : List ℕ → Type 0
HasNoFeed line = AllByRecursion (λ b. eqb b 10 ≡ false) line

-- ---- lines end at their feeds

onto-join : (b : ℕ) (line : List ℕ) (ls ms : List (List ℕ))
    → onto_first b ((line ∷ ls) ++ ms) ≡ onto_first b (line ∷ ls) ++ ms
onto-join b line ls ms = refl

-- a line and its feed, and what follows
pub line-first : (line rest : List ℕ) → HasNoFeed line → lines_of (ended line ++ rest) ≡ line ∷ lines_of rest
line-first [] rest none = refl
line-first (b ∷ line) rest none = rw (none.0, line-first line rest none.1) refl

some-lines : (bytes : List ℕ) → length (lines_of (ended bytes)) ≢ 0
some-lines [] e = omega (arith, e)
some-lines (b ∷ bytes) e = of (eqb b 10) (lines_of (ended bytes)) e
  where
    of : (c : Bool) (ls : List (List ℕ)) → length (cond c ([] ∷ ls) (onto_first b ls)) ≢ 0
    of true ls e = omega (arith, e)
    of false [] e = omega (arith, e)
    of false (l ∷ ls) e = omega (arith, e)

-- lines that end with a feed, and what follows
pub lines-join : (bytes rest : List ℕ) → lines_of (ended bytes ++ rest) ≡ lines_of (ended bytes) ++ lines_of rest
lines-join [] rest = refl
lines-join (b ∷ bytes) rest = of (eqb b 10) (lines-join bytes rest) (some-lines bytes)
  where
    of : (c : Bool) → lines_of (ended bytes ++ rest) ≡ lines_of (ended bytes) ++ lines_of rest
        → length (lines_of (ended bytes)) ≢ 0
        → cond c ([] ∷ lines_of (ended bytes ++ rest)) (onto_first b (lines_of (ended bytes ++ rest)))
        ≡ cond c ([] ∷ lines_of (ended bytes)) (onto_first b (lines_of (ended bytes))) ++ lines_of rest
    of true h some = ap (λ (ls : List (List ℕ)). [] ∷ ls) h
    of false h some = ap (onto_first b) h ∙ by (lines_of (ended bytes)) some
      where
        by : (ls : List (List ℕ)) → length ls ≢ 0 → onto_first b (ls ++ lines_of rest)
            ≡ onto_first b ls ++ lines_of rest
        by [] none = absurd (none refl)
        by (l ∷ ls) some = refl

-- ---- what is written has no feed within a line

own : IsNumeralModel AreDigits (digits_value 10)
own = numerals_by_value AreDigits tells_all_ascii_digits

digits-none : (w : List ℕ) → AreDigits w → HasNoFeed w
digits-none [] h = tt
digits-none (b ∷ w) h =
    let p = and_parts (leb 48 b && leb b 57) (all_ascii_digits w) h in
    let q = and_parts (leb 48 b) (leb b 57) p.0 in
    let low : 48 ≤ b = leb-true 48 b q.0 in
    (ne_eqb b 10 (λ e. omega arith), digits-none w p.1)

number-none : (n : ℕ) → n < 2 ^ 64 → HasNoFeed (decimal n)
number-none n small = digits-none (decimal n) (own.from (decimal n) (decimal_is_IsNumeral n small).0.1)

join-none : (xs ys : List ℕ) → HasNoFeed xs → HasNoFeed ys → HasNoFeed (xs ++ ys)
join-none xs ys a b = all-append (λ b. eqb b 10 ≡ false) xs ys a b

act-none : (nodes : ℕ) (event : Event) → nodes ≤ 32 → HasNodes nodes event → HasNoFeed (act_text event)
act-none nodes (Run p) few there = (refl, (refl, (refl, tt)))
act-none nodes (Take p from) few there =
    let high : from ≤ nodes = there.1.1 in
    (refl, (refl, (refl, (refl, (refl, number-none from (omega arith))))))

pub event-none : (nodes : ℕ) (e : Stamped Event) → nodes ≤ 32 → e.node ≤ 32 → MayStand nodes e
    → HasNoFeed (event_line e)
unfolding event_line
event-none nodes e few high h =
    let small : e.stamp ≤ 9223372036854775807 = h.high in
    join-none (((decimal e.stamp ++ codes " ") ++ decimal e.node) ++ codes " ") (act_text e.item)
    (join-none ((decimal e.stamp ++ codes " ") ++ decimal e.node) (codes " ")
    (join-none (decimal e.stamp ++ codes " ") (decimal e.node)
    (join-none (decimal e.stamp) (codes " ") (number-none e.stamp (omega arith)) (refl, tt))
    (number-none e.node (omega arith))) (refl, tt)) (act-none nodes e.item few h.there)

-- the line with the number has no feed within
pub count-none : (count : ℕ) → count < 2 ^ 64 → HasNoFeed (count_line count)
unfolding count_line
count-none count small = (refl, (refl, (refl, (refl, (refl, (refl, number-none count small))))))

-- the lines of events
pub events-lines : (nodes : ℕ) (events : List (Stamped Event)) → nodes ≤ 32
    → AllByRecursion (λ (e : Stamped Event). e.node ≤ 32) events → AllByRecursion (MayStand nodes) events
    → lines_of (event_lines events) ≡ map event_line events
events-lines nodes [] few high stand = refl
events-lines nodes (e ∷ events) few high stand =
    line-first (event_line e) (event_lines events) (event-none nodes e few high.0 stand.0)
    ∙ ap (λ (ls : List (List ℕ)). event_line e ∷ ls) (events-lines nodes events few high.1 stand.1)

-- the line with their number ends a script
pub count-ends : (count : ℕ) → ends_script (count_line count) ≡ true
unfolding ends_script count_line words_in
count-ends count = refl

-- its place is behind lines that don't
pub place-behind : (before : List (List ℕ)) (line : List ℕ) (behind : List (List ℕ))
    → AllByRecursion (λ l. ends_script l ≡ false) before → ends_script line ≡ true
    → place_in (before ++ line ∷ behind) ≡ Some (length before)
place-behind [] line behind none is = rw is refl
place-behind (l ∷ before) line behind none is =
    let more : length before + 1 ≡ suc (length before) = omega arith in
    rw (none.0, place-behind before line behind none.1 is, more) refl
