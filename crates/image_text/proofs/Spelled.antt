-- What is read of a line is what it spells.
use Rattle.std.proofs.Common.{◌≡◌, ℕ, ◌+◌, ◌^◌, ◌<◌, ◌≤◌, Bool, true, false, cond, ◌&&◌, leb, ltb, eqb, List, [], ◌∷◌, ◌++◌, length, map, Option, Some, None, refl, sym, ap, ◌∙◌, append-nil, append_assoc, arith}
use Rattle.std.specs.Prelude.{codes, bytes_eq}
use Rattle.std.specs.Fmt.{decimal}
use Rattle.std.proofs.lemmas.Bool.{and_parts, and_from, leb-true, ltb-true, le-leb, lt-ltb}
use Rattle.std.proofs.lemmas.Option.{none-some, same_Some}
use Rattle.std.proofs.lemmas.Slice.Eq.{bytes_eq-Decides}
use Rattle.pico_base.specs.declared.script.Event.{Event}
use Rattle.pico_base.specs.declared.script.Event.TheVariants.{Run, Take}
use Rattle.pico_base.specs.Options.{◌>>=◌}
use Rattle.quoted_bytes.specs.Front.{strip}
use Rattle.quoted_bytes.proofs.Strips.{strip_takes, strip_again}
use Rattle.text_fields.specs.Fields.{number_at}
use Rattle.text_fields.proofs.Chains.{bind_some, chosen}
use Rattle.stamp_merge.specs.declared.Stamped.{Stamped}
use Rattle.image_text.specs.declared.placed.Placed.{Placed}
use Rattle.world_model.specs.Schedule.{node_of}
use Rattle.image_text.specs.Image.{max_stamp, max_node, act_text, event_line, count_line}
use Rattle.image_text.specs.Grammar.{IsNodeOf, HasNodes, MayStand}
use Rattle.image_text.specs.Lines.{is_node, may_stand, whole_number, if_node, node_at, take_in, act_in, standing, event_in, max_count, or_long, count_of, count_in}
use Rattle.image_text.specs.Order.{plain}
use Rattle.trace_text.proofs.Decimals.{number-was}

-- ---- the parts of a line

whole-was : (o : Option (ℕ × List ℕ)) (n : ℕ) → whole_number o ≡ Some n → o ≡ Some (n, [])
whole-was None n h = absurd cc
whole-was (Some (m, [])) n h = let same : m ≡ n = same_Some m n h in ap (λ (k : ℕ). Some (k, [])) same
whole-was (Some (m, b ∷ bytes)) n h = absurd cc

node-was : (nodes : ℕ) (bytes : List ℕ) (p : ℕ) (rest : List ℕ) → node_at nodes bytes ≡ Some (p, rest)
    → (bytes ≡ decimal p ++ rest) × (1 ≤ p) × (p ≤ nodes) × (p ≤ max_node)
unfolding node_at
node-was nodes bytes p rest h =
    let n = bind_some (number_at max_node bytes) (if_node nodes) (p, rest) h in
    let c = chosen (is_node nodes n.0.0) (Some n.0) (p, rest) n.2 in
    let same : n.0 ≡ (p, rest) = same_Some n.0 (p, rest) c.1 in
    let read : number_at max_node bytes ≡ Some (p, rest) = n.1 ∙ ap (λ (x : ℕ × List ℕ). Some x) same in
    let is : is_node nodes p ≡ true = ap (λ (x : ℕ × List ℕ). is_node nodes x.0) (sym same) ∙ c.0 in
    let both = and_parts (ltb 0 p) (leb p nodes) is in
    let was = number-was max_node (omega arith) bytes p rest (omega arith) read in
    (was.0, omega (arith, ltb-true 0 p both.0), leb-true p nodes both.1, was.1)

take-was : (nodes p : ℕ) (bytes : List ℕ) (event : Event) → 1 ≤ p → p ≤ nodes → take_in nodes p bytes ≡ Some event
    → (bytes ≡ act_text event) × (node_of event ≡ p) × HasNodes nodes event
unfolding take_in
take-was nodes p bytes event low high h =
    let a = bind_some (strip (codes "take ") bytes) _ event h in
    let b = bind_some (whole_number (node_at nodes a.0)) (λ from. Some (Take p from)) event a.2 in
    let n = node-was nodes a.0 b.0 [] (whole-was (node_at nodes a.0) b.0 b.1) in
    let same : Take p b.0 ≡ event = same_Some (Take p b.0) event b.2 in
    let digits : a.0 ≡ decimal b.0 = n.0 ∙ append-nil (decimal b.0) in
    let front : bytes ≡ codes "take " ++ decimal b.0 =
    strip_takes (codes "take ") bytes a.0 a.1 ∙ ap (λ (xs : List ℕ). codes "take " ++ xs) digits in
    rw (← same) (front, refl, ((low, high), (n.1, n.2)))

act-was : (nodes p : ℕ) (bytes : List ℕ) (event : Event) → 1 ≤ p → p ≤ nodes → act_in nodes p bytes ≡ Some event
    → (bytes ≡ act_text event) × (node_of event ≡ p) × HasNodes nodes event
unfolding act_in
act-was nodes p bytes event low high h = of (bytes_eq bytes (codes "run")) refl h
  where
    of : (b : Bool) → bytes_eq bytes (codes "run") ≡ b → cond b (Some (Run p)) (take_in nodes p bytes) ≡ Some event
        → (bytes ≡ act_text event) × (node_of event ≡ p) × HasNodes nodes event
    of true is h =
        let same : Run p ≡ event = same_Some (Run p) event h in
        let text : bytes ≡ codes "run" = (bytes_eq-Decides bytes (codes "run")).0 is in
        rw (← same) (text, refl, (low, high))
    of false is h = take-was nodes p bytes event low high h

spelt : (line rest a b c d e : List ℕ) → line ≡ a ++ rest → rest ≡ b ++ (c ++ (d ++ e))
    → line ≡ (((a ++ b) ++ c) ++ d) ++ e
spelt line rest a b c d e h r =
    h ∙ ap (λ (xs : List ℕ). a ++ xs) r ∙
    sym (append_assoc a b (c ++ (d ++ e))) ∙ sym (append_assoc (a ++ b) c (d ++ e))
    ∙ sym (append_assoc ((a ++ b) ++ c) d e)

-- an event was read of its line, whose number it has
pub record WasLine (nodes low number : ℕ) (line : List ℕ) (e : Stamped Placed) : Type 0 where
  pub text : line ≡ event_line (plain e)
  pub stands : MayStand nodes (plain e)
  pub from : low ≤ e.node
  pub few : e.node ≤ max_node
  pub at : e.item.line ≡ number

-- an event that was read of a line stands there
pub event-was : (nodes low number : ℕ) (line : List ℕ) (e : Stamped Placed) → event_in nodes low number line ≡ Some e
    → WasLine nodes low number line e
unfolding event_in event_line
event-was nodes low number line e h =
    let a = bind_some (number_at max_stamp line) _ e h in
    let b = bind_some (strip (codes " ") a.0.1) _ e a.2 in
    let c = bind_some (node_at nodes b.0) _ e b.2 in
    let d = bind_some (strip (codes " ") c.0.1) _ e c.2 in
    let f = bind_some (act_in nodes c.0.0 d.0) (λ event. standing low number a.0.0 c.0.0 event) e d.2 in
    let s : ℕ = a.0.0 in
    let p : ℕ = c.0.0 in
    let event : Event = f.0 in
    let made : Stamped Placed = record { stamp = s; node = p; item = record { line = number; event = event } } in
    let g = chosen (may_stand low s p) (Some made) e f.2 in
    let same : made ≡ e = same_Some made e g.1 in
    let stamp = number-was max_stamp (omega arith) line s a.0.1 (omega arith) a.1 in
    let node = node-was nodes b.0 p c.0.1 c.1 in
    let act = act-was nodes p d.0 event node.1 node.2 f.1 in
    let may = and_parts (ltb 0 s && leb s max_stamp) (leb low p) g.0 in
    let above = and_parts (ltb 0 s) (leb s max_stamp) may.0 in
    let text4 : d.0 ≡ act_text event = act.0 in
    let text3 : c.0.1 ≡ codes " " ++ act_text event =
    strip_takes (codes " ") c.0.1 d.0 d.1 ∙ ap (λ (xs : List ℕ). codes " " ++ xs) text4 in
    let text2 : b.0 ≡ decimal p ++ (codes " " ++ act_text event) =
    node.0 ∙ ap (λ (xs : List ℕ). decimal p ++ xs) text3 in
    let text1 : a.0.1 ≡ codes " " ++ (decimal p ++ (codes " " ++ act_text event)) =
    strip_takes (codes " ") a.0.1 b.0 b.1 ∙ ap (λ (xs : List ℕ). codes " " ++ xs) text2 in
    let text : line ≡ (((decimal s ++ codes " ") ++ decimal p) ++ codes " ") ++ act_text event =
    spelt line a.0.1 (decimal s) (codes " ") (decimal p) (codes " ") (act_text event) stamp.0 text1 in
    rw (← same) (record {
      text = text;
      stands = record {
        low = omega (arith, ltb-true 0 s above.0);
        high = leb-true s max_stamp above.1;
        own = sym act.1;
        there = act.2;
      };
      from = leb-true low p may.1;
      few = node.3;
      at = refl;
    })

-- a count that is below the greatest was read of its digits
pub count-was : (line : List ℕ) (count : ℕ) → count_in line ≡ Some count → count < max_count → line ≡ count_line count
unfolding count_in count_line
count-was line count h small =
    let a = bind_some (strip (codes "image ") line) count_of count h in
    strip_takes (codes "image ") line a.0 a.1
    ∙ ap (λ (xs : List ℕ). codes "image " ++ xs) (digits a.0 (whole_number (number_at max_count a.0)) refl a.2)
  where
    digits : (bytes : List ℕ) (o : Option ℕ) → whole_number (number_at max_count bytes) ≡ o
        → or_long o bytes ≡ Some count → bytes ≡ decimal count
    digits bytes (Some n) is h =
        let same : n ≡ count = same_Some n count h in
        let read : number_at max_count bytes ≡ Some (count, []) =
        whole-was (number_at max_count bytes) count (is ∙ ap (λ (k : ℕ). Some k) same) in
        (number-was max_count (omega arith) bytes count [] (omega arith) read).0 ∙ append-nil (decimal count)
    digits bytes None is h =
        let c = chosen _ (Some max_count) count h in
        let same : max_count ≡ count = same_Some max_count count c.1 in
        absurd (omega (arith, same, small))
