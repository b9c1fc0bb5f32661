-- What freezing writes is an image of the script and of the events.
use Rattle.std.proofs.Common.{◌≡◌, ◌≢◌, ◌⊎◌, inl, inr, ℕ, zero, suc, ◌+◌, ◌-◌, ◌<◌, ◌≤◌, Bool, true, false, cond, not, ◌&&◌, ltb, leb, eqb, List, [], ◌∷◌, ◌++◌, length, map, take, drop, get_or, Option, Some, None, refl, sym, ap, subst, ◌∙◌, append_assoc, arith}
use Rattle.std.specs.Prelude.{Ok, sum_by}
use Rattle.std.specs.List.{AllByRecursion, onto_first}
use Rattle.std.specs.List.Sorted.{IsPermutation}
use Rattle.std.proofs.lemmas.Bool.{eqb-true, ltb-true, leb-true, and_parts}
use Rattle.std.proofs.lemmas.List.{take_at, drop_at, drop_all, length-append}
use Rattle.std.proofs.lemmas.List.Sorted.{length_permutation}
use Rattle.std.proofs.lemmas.List.Sums.{sum_by-cons}
use Rattle.std.proofs.Math.Seq.{split_at}
use Rattle.pico_base.specs.declared.script.Script.{Script}
use Rattle.pico_base.specs.declared.script.Event.{Event}
use Rattle.stamp_merge.specs.declared.Stamped.{Stamped}
use Rattle.stamp_merge.proofs.Filters.{all-map}
use Rattle.script_reader.specs.Words.{lines_of, words_in}
use Rattle.script_reader.specs.Fault.{outcome, Reads}
use Rattle.script_reader.proofs.Sound.{reads_sound}
use Rattle.image_text.specs.Image.{max_image, max_node, event_line, count_line, ended, lacks_feed, closed, by_node, event_lines, image_text}
use Rattle.image_text.specs.Parts.{ends_script, place_in, end_place, size_of, script_before, lines_from, script_of, lines_behind}
use Rattle.image_text.specs.Grammar.{MayStand, IsImage}
use Rattle.image_text.proofs.Orders.{all-append}
use Rattle.image_text.proofs.Again.{own-node}
use Rattle.image_text.proofs.Grouped.{all-by-node, rise-by-node, by-node-same}
use Rattle.image_text.proofs.Feeds.{line-first, lines-join, count-none, events-lines, count-ends, place-behind}
use Rattle.image_text.proofs.Opened.{none-ends, reads-opened, none-empty, lines-nearly}

-- ---- the script's part

open-size : (bytes : List ℕ) → length (ended bytes) ≡ length bytes + 1
open-size [] = refl
open-size (b ∷ bytes) = let rest = open-size bytes in omega (arith, rest)

sums-onto : (b : ℕ) (lines : List (List ℕ)) → 0 < length lines
    → sum_by (λ (l : List ℕ). length l + 1) (onto_first b lines) ≡ sum_by (λ (l : List ℕ). length l + 1) lines + 1
sums-onto b [] some = absurd (omega (arith, some))
sums-onto b (line ∷ lines) some =
    let f : List ℕ → ℕ = λ (l : List ℕ). length l + 1 in
    let more : sum_by f ((b ∷ line) ∷ lines) ≡ (suc (length line) + 1) + sum_by f lines =
    sum_by-cons f (b ∷ line) lines in
    let here : sum_by f (line ∷ lines) ≡ (length line + 1) + sum_by f lines = sum_by-cons f line lines in
    omega (arith, more, here)

some-lines : (bytes : List ℕ) → 0 < length (lines_of (ended bytes))
some-lines [] = omega arith
some-lines (b ∷ bytes) = of (eqb b 10) (lines_of (ended bytes))
  where
    of : (c : Bool) (ls : List (List ℕ)) → 0 < length (cond c ([] ∷ ls) (onto_first b ls))
    of true ls = omega arith
    of false [] = omega arith
    of false (l ∷ ls) = omega arith

-- the lines have all bytes
sizes : (bytes : List ℕ) → sum_by (λ (l : List ℕ). length l + 1) (lines_of (ended bytes)) ≡ length bytes + 1
sizes [] = refl
sizes (b ∷ bytes) = of (eqb b 10) (sizes bytes)
  where
    of : (c : Bool) → sum_by (λ (l : List ℕ). length l + 1) (lines_of (ended bytes)) ≡ length bytes + 1
        → sum_by (λ (l : List ℕ). length l + 1)
        (cond c ([] ∷ lines_of (ended bytes)) (onto_first b (lines_of (ended bytes)))) ≡ suc (length bytes) + 1
    of true h =
        let f : List ℕ → ℕ = λ (l : List ℕ). length l + 1 in
        let more : sum_by f ([] ∷ lines_of (ended bytes)) ≡ 1 + sum_by f (lines_of (ended bytes)) =
        sum_by-cons f [] (lines_of (ended bytes)) in
        omega (arith, h, more)
    of false h = omega (arith, h, sums-onto b (lines_of (ended bytes)) (some-lines bytes))

-- a text whose last line ends is one with a feed behind it
closed-has : (bytes : List ℕ) → 0 < length bytes → lacks_feed bytes ≡ false
    → bytes ≡ ended (take (length bytes - 1) bytes)
closed-has bytes some h =
    let at : ℕ = length bytes - 1 in
    let cut : bytes ≡ take at bytes ++ get_or bytes at 0 ∷ drop (suc at) bytes =
    split_at bytes at 0 (omega (arith, some)) in
    let none : drop (suc at) bytes ≡ [] = drop_all (suc at) bytes (omega arith) in
    let last : get_or bytes at 0 ≡ 10 = feed (ltb 0 (length bytes)) (get_or bytes at 0) (positive
    (length bytes) some) h in
    cut ∙ rw (last, none) refl
  where
    positive : (n : ℕ) → 0 < n → ltb 0 n ≡ true
    positive n lt = grind arith

    feed : (b : Bool) (n : ℕ) → b ≡ true → (b && not (eqb n 10)) ≡ false → n ≡ 10
    feed true n is e = grind arith
    feed false n is e = absurd cc

-- the script without its last feed
pub record IsOpened (bytes : List ℕ) (script : Script) : Type 0 where
  pub front : List ℕ
  pub whole : closed bytes ≡ ended front
  pub reads : outcome front ≡ Ok script

opened : (bytes : List ℕ) (script : Script) → outcome bytes ≡ Ok script → IsOpened bytes script
opened bytes script h = of (lacks_feed bytes) refl
  where
    of : (b : Bool) → lacks_feed bytes ≡ b → IsOpened bytes script
    of true e = record { front = bytes; whole = rw e refl; reads = h }
    of false e =
        let same : bytes ≡ ended (take (length bytes - 1) bytes) = closed-has bytes (some bytes h) e in
        record {
          front = take (length bytes - 1) bytes;
          whole = rw e same;
          reads = reads-opened (take (length bytes - 1) bytes) script (ap outcome (sym same) ∙ h);
        }
      where
        some : (bytes : List ℕ) → outcome bytes ≡ Ok script → 0 < length bytes
        some [] h = absurd (none-empty script h)
        some (b ∷ bytes) h = omega arith

-- ---- the lines

empty-ends : ends_script [] ≡ false
unfolding ends_script words_in
empty-ends = refl

none-ends-ended : (bytes : List ℕ) (script : Script) → outcome bytes ≡ Ok script
    → AllByRecursion (λ l. ends_script l ≡ false) (lines_of (ended bytes))
none-ends-ended bytes script h = of (lines_of (ended bytes)) (lines-nearly bytes)
  where
    of : (more : List (List ℕ)) → (more ≡ lines_of bytes) ⊎ (more ≡ lines_of bytes ++ [] ∷ [])
        → AllByRecursion (λ l. ends_script l ≡ false) more
    of more (inl same) = subst (AllByRecursion (λ l. ends_script l ≡ false)) (sym same) (none-ends bytes script h)
    of more (inr same) =
        subst (AllByRecursion (λ l. ends_script l ≡ false)) (sym same)
        (all-append (λ l. ends_script l ≡ false) (lines_of bytes) ([] ∷ []) (none-ends bytes script h) (empty-ends, tt))

-- an image of this front, whatever follows the feed behind it
record IsCut (image front : List ℕ) (tail : List (List ℕ)) : Type 0 where
  script : script_of image ≡ front
  lines : lines_behind image ≡ tail

cut-there : (front behind : List ℕ) (tail : List (List ℕ)) (line : List ℕ) (rest : List (List ℕ))
    → AllByRecursion (λ l. ends_script l ≡ false) (lines_of (ended front)) → lines_of behind ≡ tail
    → tail ≡ line ∷ rest → ends_script line ≡ true → IsCut (ended front ++ behind) front tail
unfolding end_place size_of
cut-there front behind tail line rest none lines first is =
    let image : List ℕ = ended front ++ behind in
    let before : List (List ℕ) = lines_of (ended front) in
    let all : lines_of image ≡ before ++ tail = lines-join front behind
    ∙ ap (λ (ls : List (List ℕ)). before ++ ls) lines in
    let place : end_place image ≡ Some (length before) =
    ap place_in (all ∙ ap (λ (ls : List (List ℕ)). before ++ ls) first) ∙ place-behind before line rest none is in
    let sum : size_of (length before) image ≡ length front + 1 =
    ap (λ (ls : List (List ℕ)). sum_by (λ (l : List ℕ). length l + 1) (take (length before) ls)) all
    ∙ ap (sum_by (λ (l : List ℕ). length l + 1)) (take_at before tail (length before) refl) ∙ sizes front in
    let less : size_of (length before) image - 1 ≡ length front = omega (arith, sum) in
    record {
      script =
          ap (λ (p : Option ℕ). script_before p image) place ∙ ap (λ (n : ℕ). take n image) less
          ∙ ap (take (length front)) (append_assoc front (10 ∷ []) behind)
          ∙ take_at front ((10 ∷ []) ++ behind) (length front) refl;
      lines =
          ap (λ (p : Option ℕ). lines_from p image) place ∙ ap (drop (length before)) all
          ∙ drop_at before tail (length before) refl;
    }

-- ---- the whole

-- there are no more events than bytes in their lines
events-few : (events : List (Stamped Event)) → length events ≤ length (event_lines events)
events-few [] = omega arith
events-few (e ∷ events) =
    let whole : length (event_lines (e ∷ events)) ≡ length (ended (event_line e)) + length (event_lines events) =
    length-append (ended (event_line e)) (event_lines events) in
    omega (arith, whole, open-size (event_line e), events-few events)

-- a script has at most 32 blocks
pub blocks-few : (bytes : List ℕ) (script : Script) → Reads bytes script → length script.blocks ≤ max_node
blocks-few bytes script reads =
    let sound = reads_sound bytes script reads in
    leb-true (length script.blocks) 32
    (and_parts (leb 1 (length script.blocks)) (leb (length script.blocks) 32) sound.size).1

-- their nodes are from 1 to 32
pub low-nodes : (nodes : ℕ) (events : List (Stamped Event)) → nodes ≤ max_node → AllByRecursion (MayStand nodes) events
    → AllByRecursion (λ (e : Stamped Event). (1 ≤ e.node) × (e.node ≤ max_node)) events
low-nodes nodes events few stand =
    all-map {P = MayStand nodes} (λ (e : Stamped Event) h. let own = own-node nodes e h in
    let high : e.node ≤ nodes = own.1 in
    (own.0, omega arith)) events stand

-- what is written of a script and of events that may stand in its image is their image
pub frozen-is : (bytes : List ℕ) (script : Script) (events : List (Stamped Event)) → Reads bytes script
    → AllByRecursion (MayStand (length script.blocks)) events → length (image_text bytes events) ≤ max_image
    → IsImage (image_text bytes events) script (by_node events)
unfolding image_text
frozen-is bytes script events reads stand small =
    let few = blocks-few bytes script reads in
    let nodes = low-nodes (length script.blocks) events few stand in
    let there = opened bytes script reads in
    let front : List ℕ = there.front in
    let grouped : List (Stamped Event) = by_node events in
    let count : length grouped ≡ length events = length_permutation events grouped (by-node-same events nodes) in
    let size : length (image_text bytes events)
    ≡ length (closed bytes ++ ended (count_line (length events))) + length (event_lines grouped) =
    length-append (closed bytes ++ ended (count_line (length events))) (event_lines grouped) in
    let number : length events ≤ max_image = omega (arith, count, events-few grouped, size, small) in
    let tail : List (List ℕ) = count_line (length events) ∷ map event_line grouped in
    let behind : List ℕ = ended (count_line (length events)) ++ event_lines grouped in
    let high : AllByRecursion (λ (e : Stamped Event). e.node ≤ 32) grouped =
    all-map (λ (e : Stamped Event) (h : (1 ≤ e.node) × (e.node ≤ max_node)). h.1) grouped
    (all-by-node (λ e. (1 ≤ e.node) × (e.node ≤ max_node)) events nodes) in
    let standing : AllByRecursion (MayStand (length script.blocks)) grouped =
    all-by-node (MayStand (length script.blocks)) events stand in
    let lines : lines_of behind ≡ tail =
    line-first (count_line (length events)) (event_lines grouped) (count-none (length events) (omega (arith, number)))
    ∙ ap (λ (ls : List (List ℕ)). count_line (length events) ∷ ls)
    (events-lines (length script.blocks) grouped few high standing) in
    let whole : image_text bytes events ≡ ended front ++ behind =
    append_assoc (closed bytes) (ended (count_line (length events))) (event_lines grouped)
    ∙ ap (λ (xs : List ℕ). xs ++ behind) there.whole in
    let cut = cut-there front behind tail (count_line (length events)) (map event_line grouped)
    (none-ends-ended front script there.reads) lines refl (count-ends (length events)) in
    record {
      within = small;
      reads = ap (λ (xs : List ℕ). outcome (script_of xs)) whole ∙ ap outcome cut.script ∙ there.reads;
      lines =
          ap lines_behind whole ∙ cut.lines
          ∙ ap (λ (n : ℕ). count_line n ∷ map event_line grouped) (sym count);
      stand = standing;
      rise = rise-by-node events;
    }
