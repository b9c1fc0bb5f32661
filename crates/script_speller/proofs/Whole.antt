-- A script's spelling reads as the script, where some text does.
use Rattle.std.proofs.Common.{◌≡◌, ℕ, zero, suc, ◌+◌, ◌-◌, ◌<◌, ◌≤◌, Bool, true, false, cond, eqb, ltb, leb, List, [], ◌∷◌, ◌++◌, length, map, get_or, Option, Some, None, Result, Ok, Err, refl, sym, ap, subst, ◌∙◌, append_assoc, arith}
use Rattle.std.specs.Prelude.{codes, bytes_eq, position}
use Rattle.std.specs.List.{AllByRecursion, flat_map, list_all, onto_first, slice_get}
use Rattle.std.specs.Str.{IsAscii}
use Rattle.std.specs.Str.Lossy.{utf8_valid_len}
use Rattle.std.proofs.lemmas.Bool.{and_parts, ltb-false, le-ltb, ne_eqb, leb-true}
use Rattle.std.proofs.lemmas.List.{append-nil}
use Rattle.std.proofs.lemmas.List.Elements.{All-from_recursion}
use Rattle.std.proofs.lemmas.List.Quantifiers.{position-Some}
use Rattle.std.proofs.lemmas.Option.{same_Some, none-some}
use Rattle.std.proofs.lemmas.Slice.Eq.{bytes_eq-Decides}
use Rattle.std.proofs.lemmas.Str.{IsUtf8-from_ascii, utf8_valid_len-IsUtf8}
use Rattle.std.proofs.lemmas.Str.Ascii.{IsAscii-from_all}
use Rattle.pico_base.specs.declared.script.Block.{Block}
use Rattle.pico_base.specs.declared.script.Line.{Line}
use Rattle.pico_base.specs.declared.script.Script.{Script}
use Rattle.kernel_model.specs.Fitting.{block_at}
use Rattle.kernel_model.specs.Trace.{name_of_block}
use Rattle.script_reader.specs.declared.fault.ScriptFault.TheVariants.{ScriptTooLong, NotUtf8}
use Rattle.script_reader.specs.declared.fault.ScriptStop.{ScriptStop}
use Rattle.script_reader.specs.declared.fault.ScriptStop.TheVariants.{At}
use Rattle.script_reader.specs.declared.place.Place.{Place}
use Rattle.script_reader.specs.Words.{lines_of}
use Rattle.script_reader.specs.Says.{names_of, number_of}
use Rattle.script_reader.specs.Fault as spec
use Rattle.script_reader.specs.Fault.{Blocks, Reads, blocks_of, blocks_from, outcome, start}
use Rattle.script_reader.proofs.Lines.{Plain, lines_of-feed, lines_of-plain}
use Rattle.script_reader.proofs.Widths.{width}
use Rattle.script_reader.proofs.Opened.{AreOpened, block_names}
use Rattle.script_speller.specs.Spelling.{behind, line_text, proc_line, separated, behind_feed, block_text, block_behind, blocks_text, spelling}
use Rattle.script_speller.proofs.Separated.{is_printable, separated_width}
use Rattle.script_speller.proofs.Names.{onto_width}
use Rattle.script_speller.proofs.Lines.{Names}
use Rattle.script_speller.proofs.Runs.{IsEnd, runs_from, runs_to, names_run, names_are, opened_by, end_line, block_lines, closed_lines, open_lines, lines_so_far, IsLineText, Spelled, spelled_run}

-- ---- lines and their text

plain_from : (text : List ℕ) → list_all is_printable text ≡ true → Plain text
plain_from [] h = tt
plain_from (b ∷ text) h =
    let p = and_parts (is_printable b) (list_all is_printable text) h in
    let low : 32 ≤ b = leb-true 32 b (and_parts (leb 32 b) (leb b 126) p.0).0 in
    (ne_eqb b 10 (λ e. omega (arith, e, low)), plain_from text p.1)

-- lines with a line feed between each two are the lines of their text
lines_again : (text : List ℕ) (texts : List (List ℕ)) → AllByRecursion IsLineText (text ∷ texts)
    → lines_of (separated 10 (text ∷ texts)) ≡ text ∷ texts
lines_again text [] h = ap lines_of (append-nil text) ∙ last text h.0
  where
    last : (t : List ℕ) → IsLineText t → lines_of t ≡ t ∷ []
    last [] k = absurd (omega (arith, k.1))
    last (b ∷ t) k = lines_of-plain b t (plain_from (b ∷ t) k.0)
lines_again text (next ∷ texts) h =
    lines_of-feed text (separated 10 (next ∷ texts)) (plain_from text h.0.0)
    ∙ ap (λ (ls : List (List ℕ)). text ∷ ls) (lines_again next texts h.1)

-- the lines of a text have room in it
lines_width : (bytes : List ℕ) → width (lines_of bytes) ≤ length bytes + 1
lines_width [] = omega arith
lines_width (b ∷ bytes) = of (eqb b 10) (lines_width bytes)
  where
    of : (c : Bool) → width (lines_of bytes) ≤ length bytes + 1
        → width (cond c ([] ∷ lines_of bytes) (onto_first b (lines_of bytes))) ≤ length (b ∷ bytes) + 1
    of true h = omega (arith, h)
    of false h = onto_width b (length bytes) (lines_of bytes) h

-- ---- the spelling's lines

behind_lines : (script : Script) (lines : List Line) (more : List (List ℕ))
    → flat_map (behind_feed script) lines ++ flat_map (behind 10) more
    ≡ flat_map (behind 10) (map (line_text script) lines ++ more)
behind_lines script [] more = refl
behind_lines script (line ∷ lines) more =
    append_assoc (behind_feed script line) (flat_map (behind_feed script) lines) (flat_map (behind 10) more)
    ∙ ap (λ (x : List ℕ). behind_feed script line ++ x) (behind_lines script lines more)

-- a block's text is its lines, before any others
block_before : (script : Script) (block : Block) (more : List (List ℕ))
    → block_text script block ++ flat_map (behind 10) more ≡ separated 10 (block_lines script block ++ more)
unfolding block_text
block_before script block more =
    let lines : List (List ℕ) = map (line_text script) block.lines in
    let rest : List ℕ = flat_map (behind 10) more in
    append_assoc (proc_line block) (flat_map (behind_feed script) block.lines ++ codes "\nend") rest
    ∙ ap (λ (x : List ℕ). proc_line block ++ x)
    (append_assoc (flat_map (behind_feed script) block.lines) (codes "\nend") rest
    ∙ behind_lines script block.lines (end_line ∷ more)
    ∙ ap (flat_map (behind 10)) (sym (append_assoc lines (end_line ∷ []) more)))

behind_blocks : (script : Script) (blocks : List Block)
    → flat_map (block_behind script) blocks ≡ flat_map (behind 10) (closed_lines script blocks)
behind_blocks script [] = refl
behind_blocks script (block ∷ blocks) =
    ap (λ (x : List ℕ). 10 ∷ (block_text script block ++ x)) (behind_blocks script blocks)
    ∙ ap (λ (x : List ℕ). 10 ∷ x) (block_before script block (closed_lines script blocks))

-- the spelling is its lines, with a line feed between each two
spelling_lines : (script : Script) (blocks : List Block)
    → blocks_text script blocks ≡ separated 10 (closed_lines script blocks)
spelling_lines script [] = refl
spelling_lines script (block ∷ blocks) =
    ap (λ (x : List ℕ). block_text script block ++ x) (behind_blocks script blocks)
    ∙ block_before script block (closed_lines script blocks)

-- ---- names

named_block : (blocks : List Block) (i : ℕ) (name : List ℕ) → i < length (block_names blocks)
    → get_or (block_names blocks) i [] ≡ name → name_of_block (slice_get blocks i) ≡ name
named_block [] i name h e = absurd (omega (arith, h))
named_block (block ∷ blocks) zero name h e = e
named_block (block ∷ blocks) (suc i) name h e = named_block blocks i name (omega (arith, h)) e

names_of_blocks : (names : List (List ℕ)) (script : Script) → names ≡ block_names script.blocks → Names names script
unfolding number_of
names_of_blocks names script are number name e = of (position (bytes_eq name) names) refl e
  where
    of : (o : Option ℕ) → position (bytes_eq name) names ≡ o
        → Rattle.std.specs.Prelude.option_map (λ place. place + 1) o ≡ Some number
        → name_of_block (block_at script number) ≡ name
    of None f g = absurd (none-some number g)
    of (Some i) f g =
        let k : i + 1 ≡ number = same_Some (i + 1) number g in
        let h = position-Some (bytes_eq name) names i [] f in
        let same : name ≡ get_or names i [] = (bytes_eq-Decides name (get_or names i [])).0 h.1 in
        let place : number - 1 ≡ i = omega (arith, k) in
        let here : get_or (block_names script.blocks) i [] ≡ name =
        ap (λ (ns : List (List ℕ)). get_or ns i []) (sym are) ∙ sym same in
        ap (λ (j : ℕ). name_of_block (slice_get script.blocks j)) place
        ∙ named_block script.blocks i name (omega (arith, h.0, ap length are)) here

-- ---- a text within its limits

not_first_cond : (b : Bool) (x y : Result Script ScriptStop) (script : Script) → ((s : Script) → x ≡ Ok s → ⊥)
    → cond b x y ≡ Ok script → (b ≡ false) × (y ≡ Ok script)
not_first_cond true x y script h e = absurd (h script e)
not_first_cond false x y script h e = (refl, e)

no_script : (stop : ScriptStop) (s : Script) → (let r : Result Script ScriptStop = Err stop in r ≡ Ok s) → ⊥
no_script stop s e = cc

script_blocks : (blocks : Blocks) (script : Script) → spec.script_from blocks ≡ Ok script → blocks ≡ Ok script.blocks
script_blocks (Ok blocks) script e = cc
script_blocks (Err fault) script e = absurd cc

-- a text of a script is short enough, and its lines are the script's
read_parts : (bytes : List ℕ) (script : Script) → Reads bytes script → (length bytes ≤ 1048576)
    × (blocks_of (lines_of bytes) ≡ Ok script.blocks)
unfolding outcome
read_parts bytes script e =
    let long : ScriptStop = At (spec.line_behind spec.max_bytes bytes) ScriptTooLong in
    let bad : ScriptStop = At (spec.line_behind (utf8_valid_len bytes) bytes) NotUtf8 in
    let whole : Result Script ScriptStop = spec.script_from (blocks_of (lines_of bytes)) in
    let a = not_first_cond (ltb spec.max_bytes (length bytes)) (Err long)
    (cond (ltb (utf8_valid_len bytes) (length bytes)) (Err bad) whole) script (no_script long) e in
    let b = not_first_cond (ltb (utf8_valid_len bytes) (length bytes)) (Err bad) whole script (no_script bad) a.1 in
    (ltb-false 1048576 (length bytes) a.0, script_blocks (blocks_of (lines_of bytes)) script b.1)

whole_script : (script : Script) → spec.script_from (Ok script.blocks) ≡ Ok script
whole_script script = refl

-- bytes of ASCII that are short enough read as what their lines give
reads_from : (bytes : List ℕ) (script : Script) → length bytes ≤ 1048576 → utf8_valid_len bytes ≡ length bytes
    → blocks_of (lines_of bytes) ≡ Ok script.blocks → Reads bytes script
unfolding outcome
reads_from bytes script room valid e =
    rw (
      le-ltb 1048576 (length bytes) room,
      le-ltb (utf8_valid_len bytes) (length bytes) (omega (arith, valid)),
      e,
    ) (whole_script script)

low_bytes : (text : List ℕ) → list_all is_printable text ≡ true → AllByRecursion (λ b. b < 128) text
low_bytes [] h = tt
low_bytes (b ∷ text) h =
    let p = and_parts (is_printable b) (list_all is_printable text) h in
    (omega (arith, leb-true b 126 (and_parts (leb 32 b) (leb b 126) p.0).1), low_bytes text p.1)

low_append : (xs ys : List ℕ) → AllByRecursion (λ b. b < 128) xs → AllByRecursion (λ b. b < 128) ys
    → AllByRecursion (λ b. b < 128) (xs ++ ys)
low_append [] ys h k = k
low_append (x ∷ xs) ys h k = (h.0, low_append xs ys h.1 k)

low_behind : (texts : List (List ℕ)) → AllByRecursion IsLineText texts
    → AllByRecursion (λ b. b < 128) (flat_map (behind 10) texts)
low_behind [] h = tt
low_behind (text ∷ texts) h =
    (omega arith, low_append text (flat_map (behind 10) texts) (low_bytes text h.0.0) (low_behind texts h.1))

low_text : (texts : List (List ℕ)) → AllByRecursion IsLineText texts
    → AllByRecursion (λ b. b < 128) (separated 10 texts)
low_text [] h = tt
low_text (text ∷ texts) h = low_append text (flat_map (behind 10) texts) (low_bytes text h.0.0) (low_behind texts h.1)

valid_text : (texts : List (List ℕ)) → AllByRecursion IsLineText texts
    → utf8_valid_len (separated 10 texts) ≡ length (separated 10 texts)
valid_text texts h =
    let text : List ℕ = separated 10 texts in
    utf8_valid_len-IsUtf8 text
    (IsUtf8-from_ascii text (IsAscii-from_all text (All-from_recursion (λ b. b < 128) text (low_text texts h))))

-- ---- the law

first_place : (names : List (List ℕ)) → AreOpened names [] (start (length names))
unfolding start
first_place names = record { opened = refl; numbered = tt; few = omega arith }

no_lines_yet : (script : Script) (count : ℕ) → lines_so_far script (start count) ≡ []
unfolding start
no_lines_yet script count = refl

-- a text has lines where it has blocks
text_width : (texts : List (List ℕ)) (n : ℕ) → width texts ≤ n + 1 → 1 ≤ length texts
    → length (separated 10 texts) ≤ n
text_width [] n h some = absurd (omega (arith, some))
text_width (text ∷ texts) n h some = omega (arith, separated_width 10 text texts, h)

some_lines : (script : Script) (blocks : List Block) → eqb (length blocks) 0 ≡ false
    → 1 ≤ length (closed_lines script blocks)
some_lines script [] e = absurd cc
some_lines script (block ∷ blocks) e = omega arith

lines_of_some : (texts : List (List ℕ)) → 1 ≤ length texts → AllByRecursion IsLineText texts
    → lines_of (separated 10 texts) ≡ texts
lines_of_some [] some h = absurd (omega (arith, some))
lines_of_some (text ∷ texts) some h = lines_again text texts h

-- the blocks of the spelled lines
record SpelledLines (bytes : List ℕ) (script : Script) (texts : List (List ℕ)) : Type 0 where
  are : closed_lines script script.blocks ≡ texts
  some : 1 ≤ length texts
  short : width texts ≤ width (lines_of bytes)
  printable : AllByRecursion IsLineText texts
  read : blocks_of texts ≡ Ok script.blocks

-- what a run of a text's lines gives for the spelled ones
spelled_end : (bytes : List ℕ) (script : Script) (names : List (List ℕ)) (last : Place) (texts : List (List ℕ))
    → IsEnd last script.blocks → Spelled script names (start (length names)) last (lines_of bytes) texts
    → names ≡ block_names script.blocks → SpelledLines bytes script texts
unfolding blocks_of
spelled_end bytes script names last texts end h are =
    let same : lines_so_far script last ≡ closed_lines script script.blocks =
    ap (λ (b : Bool). closed_lines script last.blocks ++ open_lines script b last.name last.lines) end.out
    ∙ append-nil (closed_lines script last.blocks) ∙ ap (closed_lines script) end.blocks_are in
    let whole : closed_lines script script.blocks ≡ texts =
    sym same ∙ h.whole ∙ ap (λ (xs : List (List ℕ)). xs ++ texts) (no_lines_yet script (length names)) in
    let opened = names_run names [] (start (length names)) last texts (first_place names) h.runs in
    let named : names_of texts ≡ names =
    names_are names (opened_by [] texts) last opened end.out ∙ ap block_names end.blocks_are ∙ sym are in
    record {
      are = whole;
      some = omega (
        arith,
        ap length whole,
        some_lines script script.blocks (ap (λ (bs : List Block). eqb (length bs) 0) (sym end.blocks_are) ∙ end.some),
      );
      short = h.short;
      printable = h.printable;
      read = ap (λ (ns : List (List ℕ)). blocks_from ns (start (length ns)) 1 texts) named
          ∙ runs_to names (start (length names)) last 1 texts script.blocks h.runs end;
    }

spelled_lines : (bytes : List ℕ) (script : Script) → blocks_of (lines_of bytes) ≡ Ok script.blocks
    → (texts : List (List ℕ)) × SpelledLines bytes script texts
unfolding blocks_of
spelled_lines bytes script e =
    let lines : List (List ℕ) = lines_of bytes in
    let names : List (List ℕ) = names_of lines in
    let run = runs_from names (start (length names)) 1 lines script.blocks e in
    let opened = names_run names [] (start (length names)) run.0 lines (first_place names) run.1 in
    let are : names ≡ block_names script.blocks =
    names_are names names run.0 opened run.2.out ∙ ap block_names run.2.blocks_are in
    let spelled = spelled_run script names (start (length names)) run.0 lines (names_of_blocks names script are)
    opened.few run.1 in
    (spelled.0, spelled_end bytes script names run.0 spelled.0 run.2 spelled.1 are)

-- the spelling of a script that some text reads as reads as it, and is no longer than that text
pub spelling_again : (bytes : List ℕ) (script : Script) → Reads bytes script → Reads (spelling script) script
    × (length (spelling script) ≤ length bytes)
spelling_again bytes script e =
    let parts = read_parts bytes script e in
    let lines = spelled_lines bytes script parts.1 in
    let texts : List (List ℕ) = lines.0 in
    let h = lines.1 in
    let text : spelling script ≡ separated 10 texts = spelling_lines script script.blocks ∙ ap (separated 10) h.are in
    let size : length (spelling script) ≡ length (separated 10 texts) = ap length text in
    let short : length (separated 10 texts) ≤ length bytes =
    text_width texts (length bytes) (omega (arith, h.short, lines_width bytes)) h.some in (
      reads_from (spelling script) script (omega (arith, size, short, parts.0))
          (ap utf8_valid_len text ∙ valid_text texts h.printable ∙ sym size)
          (ap (λ (x : List ℕ). blocks_of (lines_of x)) text
          ∙ ap blocks_of (lines_of_some texts h.some h.printable) ∙ h.read),
      omega (arith, size, short),
    )

-- the spelling as a text
pub reads_of : (bytes text : List ℕ) (script : Script) → Reads bytes script → text ≡ spelling script
    → Reads text script
reads_of bytes text script h e = subst (λ t. Reads t script) (sym e) (spelling_again bytes script h).0

-- and no text of the script is shorter
pub shortest_of : (text : List ℕ) (script : Script) → text ≡ spelling script → (bytes : List ℕ) → Reads bytes script
    → length text ≤ length bytes
shortest_of text script e bytes h = omega (arith, ap length e, (spelling_again bytes script h).1)
