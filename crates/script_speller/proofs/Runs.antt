-- A whole text: the lines of a script's spelling lead from place to place as those of a text that reads as the script.
use Rattle.std.proofs.Common.{◌≡◌, ℕ, ◌+◌, ◌≤◌, Bool, true, false, ◌&&◌, cond, eqb, List, [], ◌∷◌, ◌++◌, length, map, Option, Some, None, Ok, Err, refl, sym, ap, subst, ◌∙◌, append_assoc, arith}
use Rattle.std.specs.Prelude.{codes, bytes_eq, fold}
use Rattle.std.specs.List.{AllByRecursion, flat_map, list_all}
use Rattle.std.proofs.lemmas.Bool.{and_parts, ltb-false, le-ltb, le-leb, lt-ltb}
use Rattle.std.proofs.lemmas.List.{append-nil, map_push}
use Rattle.std.proofs.lemmas.Option.{same_Some, none-some}
use Rattle.std.proofs.lemmas.Slice.Eq.{bytes_eq-Decides}
use Rattle.pico_base.specs.declared.script.Block.{Block}
use Rattle.pico_base.specs.declared.script.Line.{Line}
use Rattle.pico_base.specs.declared.script.Script.{Script}
use Rattle.kernel_model.specs.Script.{is_name}
use Rattle.script_reader.specs.declared.fault.ScriptFault.{ScriptFault}
use Rattle.script_reader.specs.declared.fault.ScriptFault.TheVariants.{NoProc, NoEnd}
use Rattle.script_reader.specs.declared.place.Place.{Place}
use Rattle.script_reader.specs.declared.says.Said.{Said}
use Rattle.script_reader.specs.declared.says.Said.TheVariants.{Skipped, Opens, BadProc, Ends, Unknown, Bad, Forks, Calls}
use Rattle.script_reader.specs.Words.{words_of, words_in}
use Rattle.script_reader.specs.Says as says
use Rattle.script_reader.specs.Says.{number_of, said_of, opening_at, with_opening}
use Rattle.script_reader.specs.Fault as spec
use Rattle.script_reader.specs.Fault.{Blocks, fault_of, has_fault, behind, blocks_from, node_of}
use Rattle.script_reader.proofs.Widths.{width, line_width}
use Rattle.script_reader.proofs.Saying.{IsFine, said_fine, opening_said}
use Rattle.script_reader.proofs.Steps.{IsFaultless, faultless}
use Rattle.script_reader.proofs.Opened.{AreOpened, names_step, number_here, inside_of, not_both, block_names, not_true as no_true}
use Rattle.script_speller.specs.Spelling.{line_text, proc_line, separated}
use Rattle.script_speller.proofs.Separated.{is_printable, AreWords, words_again, words_are_printable}
use Rattle.script_speller.proofs.Lines.{SaidAgain, Names, name_argument, calls_again, forks_again, argument_word, line_no_end, pick}

-- ---- lines without a fault

-- the lines have no fault, and lead from one place to the other
abbrev pub Runs : List (List ℕ) → Place → List (List ℕ) → Place → Type 0
Runs names place [] last = place ≡ last
Runs names place (line ∷ lines) last =
    (fault_of place (length line) (said_of names line) ≡ None)
    × Runs names (behind place (said_of names line)) lines last

-- where a text ends without a fault
pub record IsEnd (last : Place) (blocks : List Block) : Type 0 where
  pub out : last.inside ≡ false
  pub some : eqb (length last.blocks) 0 ≡ false
  pub blocks_are : last.blocks ≡ blocks

no_blocks : (fault : ℕ × ScriptFault) (blocks : List Block) → (let r : Blocks = Err fault in r ≡ Ok blocks) → ⊥
no_blocks fault blocks e = cc

ends_ok : (place : Place) (number : ℕ) (blocks : List Block) → spec.ending place number ≡ Ok blocks
    → IsEnd place blocks
ends_ok place number blocks e = of place.inside (eqb (length place.blocks) 0) refl refl e
  where
    of : (b c : Bool) → place.inside ≡ b → eqb (length place.blocks) 0 ≡ c
        → cond {A = Blocks} b (Err (number, NoEnd)) (cond c (Err (1, NoProc)) (Ok place.blocks)) ≡ Ok blocks
        → IsEnd place blocks
    of true c f g h = absurd cc
    of false true f g h = absurd cc
    of false false f g h = record { out = f; some = g; blocks_are = cc }

stopped : (fault : Option ScriptFault) (number : ℕ) (others : Blocks) (blocks : List Block)
    → spec.unless fault number others ≡ Ok blocks → (fault ≡ None) × (others ≡ Ok blocks)
stopped None number others blocks e = (refl, e)
stopped (Some fault) number others blocks e = absurd (no_blocks (number, fault) blocks e)

-- a text that is read runs to its end
pub runs_from : (names : List (List ℕ)) (place : Place) (number : ℕ) (lines : List (List ℕ)) (blocks : List Block)
    → blocks_from names place number lines ≡ Ok blocks
    → (last : Place) × Runs names place lines last × IsEnd last blocks
unfolding blocks_from
runs_from names place number [] blocks e = (place, refl, ends_ok place number blocks e)
runs_from names place number (line ∷ lines) blocks e =
    let said : Said = said_of names line in
    let s = stopped (fault_of place (length line) said) number
    (blocks_from names (behind place said) (number + 1) lines) blocks e in
    let more = runs_from names (behind place said) (number + 1) lines blocks s.1 in
    (more.0, (s.0, more.1), more.2)

-- and one that runs to its end is read
pub runs_to : (names : List (List ℕ)) (place last : Place) (number : ℕ) (lines : List (List ℕ)) (blocks : List Block)
    → Runs names place lines last → IsEnd last blocks → blocks_from names place number lines ≡ Ok blocks
unfolding blocks_from
runs_to names place last number [] blocks h end =
    ap (λ (p : Place). spec.ending p number) h ∙ rw (end.out, end.some) (ap Ok end.blocks_are)
runs_to names place last number (line ∷ lines) blocks h end =
    rw h.0 (runs_to names (behind place (said_of names line)) last (number + 1) lines blocks h.1 end)

-- ---- the length of a line

after_none : (b : Bool) (x : ScriptFault) (o : Option ScriptFault) → cond b (Some x) o ≡ None → (b ≡ false) × (o ≡ None)
after_none true x o e = absurd (none-some x (sym e))
after_none false x o e = (refl, e)

-- a line without a fault has none in any other length
pub shorter_fault : (place : Place) (n m : ℕ) (said : Said) → m ≤ 4096 → fault_of place n said ≡ None
    → fault_of place m said ≡ None
unfolding fault_of has_fault
shorter_fault place n m said short e =
    let a = after_none _ _ _ e in
    rw (le-ltb 4096 m short) a.1

-- ---- names

-- the names of the lines so far
abbrev pub opened_by : List (List ℕ) → List (List ℕ) → List (List ℕ)
opened_by so_far lines = fold (λ names line. with_opening names (opening_at line)) so_far lines

-- a run keeps the names of the blocks those of the lines so far
pub names_run : (names so_far : List (List ℕ)) (place last : Place) (lines : List (List ℕ))
    → AreOpened names so_far place → Runs names place lines last → AreOpened names (opened_by so_far lines) last
names_run names so_far place last [] o h = subst (AreOpened names so_far) h o
names_run names so_far place last (line ∷ lines) o h =
    let said : Said = said_of names line in
    let f = faultless place (length line) said h.0 in
    let fine = said_fine names line (ltb-false 4096 (length line) f.short) in
    names_run names (with_opening so_far (opening_at line)) (behind place said) last lines
    (names_step names so_far place (length line) (opening_at line) said o fine (opening_said names line) f) h.1

-- where no block is open, the names are those of the blocks
pub names_are : (names so_far : List (List ℕ)) (last : Place) → AreOpened names so_far last → last.inside ≡ false
    → so_far ≡ block_names last.blocks
names_are names so_far last o out =
    o.opened ∙ ap (λ (b : Bool). block_names last.blocks ++ cond b (last.name ∷ []) []) out
    ∙ append-nil (block_names last.blocks)

-- ---- the lines of a spelling

-- the line that ends a block
abbrev pub end_line : List ℕ
end_line = codes "end"

-- the lines of a block's spelling
abbrev pub block_lines : Script → Block → List (List ℕ)
block_lines script block = proc_line block ∷ (map (line_text script) block.lines ++ end_line ∷ [])

-- those of an open block so far
abbrev pub open_lines : Script → Bool → List ℕ → List Line → List (List ℕ)
open_lines script false name lines = []
open_lines script true name lines = (codes "proc " ++ name) ∷ map (line_text script) lines

-- those of whole blocks
abbrev pub closed_lines : Script → List Block → List (List ℕ)
closed_lines script blocks = flat_map (block_lines script) blocks

-- those of the blocks and lines so far
abbrev pub lines_so_far : Script → Place → List (List ℕ)
lines_so_far script place =
    closed_lines script place.blocks ++ open_lines script place.inside place.name place.lines

-- the line that says this
abbrev pub line_of : Script → Said → List ℕ
line_of script (Opens name number) = codes "proc " ++ name
line_of script Ends = end_line
line_of script (Forks set (Some number)) = line_text script (spec.fork_line set number)
line_of script (Calls line) = line_text script line
line_of script said = []

closed_push : (script : Script) (blocks : List Block) (block : Block)
    → closed_lines script (blocks ++ block ∷ []) ≡ closed_lines script blocks ++ block_lines script block
closed_push script [] block = append-nil (block_lines script block)
closed_push script (b ∷ blocks) block =
    ap (λ (xs : List (List ℕ)). block_lines script b ++ xs) (closed_push script blocks block)
    ∙ sym (append_assoc (block_lines script b) (closed_lines script blocks) (block_lines script block))

opened_lines : (script : Script) (place : Place) (name : List ℕ) (number : ℕ) → place.inside ≡ false
    → lines_so_far script (spec.opened place name number)
    ≡ lines_so_far script place ++ (codes "proc " ++ name) ∷ []
opened_lines script place name number out =
    let closed : List (List ℕ) = closed_lines script place.blocks in
    let before : lines_so_far script place ≡ closed =
    ap (λ (b : Bool). closed ++ open_lines script b place.name place.lines) out ∙ append-nil closed in
    ap (λ (xs : List (List ℕ)). xs ++ (codes "proc " ++ name) ∷ []) (sym before)

ended_lines : (script : Script) (place : Place) (implied : ℕ) → place.inside ≡ true
    → lines_so_far script (spec.ended place implied) ≡ lines_so_far script place ++ end_line ∷ []
ended_lines script place implied within =
    let block : Block = record { name = place.name; lines = place.lines } in
    let closed : List (List ℕ) = closed_lines script place.blocks in
    let opened : List (List ℕ) = open_lines script true place.name place.lines in
    let before : lines_so_far script place ≡ closed ++ opened =
    ap (λ (b : Bool). closed ++ open_lines script b place.name place.lines) within in
    append-nil (closed_lines script (place.blocks ++ block ∷ []))
    ∙ closed_push script place.blocks block
    ∙ sym (append_assoc closed opened (end_line ∷ []))
    ∙ ap (λ (xs : List (List ℕ)). xs ++ end_line ∷ []) (sym before)

-- one more line of the open block
added_line : (script : Script) (place : Place) (line : Line) → place.inside ≡ true
    → closed_lines script place.blocks ++ open_lines script place.inside place.name (place.lines ++ line ∷ [])
    ≡ lines_so_far script place ++ line_text script line ∷ []
added_line script place line within =
    let closed : List (List ℕ) = closed_lines script place.blocks in
    let opened : List Line → List (List ℕ) = open_lines script true place.name in
    let front : (lines : List Line) → open_lines script place.inside place.name lines ≡ opened lines =
    λ lines. ap (λ (b : Bool). open_lines script b place.name lines) within in
    ap (λ (xs : List (List ℕ)). closed ++ xs)
    (front (place.lines ++ line ∷ [])
    ∙ ap (λ (xs : List (List ℕ)). (codes "proc " ++ place.name) ∷ xs) (map_push (line_text script) place.lines line))
    ∙ sym (append_assoc closed (opened place.lines) (line_text script line ∷ []))
    ∙ ap (λ (xs : List (List ℕ)). (closed ++ xs) ++ line_text script line ∷ []) (sym (front place.lines))

-- each line that says something adds its line to the spelling
lines_step : (script : Script) (place : Place) (size : ℕ) (said : Said) → IsFaultless place size said
    → spec.is_skipped said ≡ false
    → lines_so_far script (behind place said) ≡ lines_so_far script place ++ line_of script said ∷ []
lines_step script place size (Opens name number) f s =
    opened_lines script place name number (number_here place size name number f).0
lines_step script place size Skipped f s = absurd (no_true s)
lines_step script place size Ends f s =
    ended_lines script place (spec.calls_of place Ends) (inside_of place Ends f.no_proc refl)
lines_step script place size (Forks set None) f s = absurd (no_true f.known_proc)
lines_step script place size (Forks set (Some number)) f s =
    added_line script place (spec.fork_line set number) (inside_of place (Forks set (Some number)) f.no_proc refl)
lines_step script place size (Calls line) f s =
    added_line script place line (inside_of place (Calls line) f.no_proc refl)
lines_step script place size BadProc f s = absurd (no_true f.good)
lines_step script place size Bad f s = absurd (no_true f.good)
lines_step script place size Unknown f s =
    absurd (no_true (sym (inside_of place Unknown f.no_proc refl) ∙ not_both place.inside true f.known_call refl))

-- ---- each line again

proc_words : (names : List (List ℕ)) (ws : List (List ℕ)) (name : List ℕ) → says.opened_by ws ≡ Some name
    → width (codes "proc" ∷ name ∷ []) ≤ width ws
unfolding says.opened_by
proc_words names [] name e = absurd (none-some name e)
proc_words names (w ∷ []) name e = absurd (none-some name e)
proc_words names (w ∷ x ∷ []) name e = of (bytes_eq w (codes "proc") && is_name x) refl e
  where
    of : (b : Bool) → (bytes_eq w (codes "proc") && is_name x) ≡ b → cond b (Some x) None ≡ Some name
        → width (codes "proc" ∷ name ∷ []) ≤ width (w ∷ x ∷ [])
    of false f g = absurd (none-some name g)
    of true f g =
        let proc : w ≡ codes "proc" =
        (bytes_eq-Decides w (codes "proc")).0 (and_parts (bytes_eq w (codes "proc")) (is_name x) f).0 in
        omega (arith, ap length proc, ap length (same_Some x name g))
proc_words names (w ∷ x ∷ y ∷ ws) name e = absurd (none-some name e)

proc_again : (names : List (List ℕ)) (bytes name : List ℕ) (number : ℕ) → is_name name ≡ true
    → number_of names name ≡ Some number → opening_at bytes ≡ Some name
    → SaidAgain names bytes (Opens name number) (codes "proc " ++ name)
unfolding says.words_said says.proc_said says.is_comment
proc_again names bytes name number is e f =
    let ws : List (List ℕ) = codes "proc" ∷ name ∷ [] in
    let are : AreWords ws = (refl, (argument_word name (name_argument name is), tt)) in
    let text : codes "proc " ++ name ≡ separated 32 ws =
    ap (λ (xs : List ℕ). codes "proc " ++ xs) (sym (append-nil name)) in
    record {
      said = ap (said_of names) text ∙ ap (says.words_said names) (words_again ws are) ∙ rw (is, e) refl;
      short = omega (arith, proc_words names (words_of bytes) name f, line_width bytes);
      printable = ap (list_all is_printable) text ∙ words_are_printable ws are;
    }

proc_no_end : (names ws : List (List ℕ)) → says.proc_said names ws ≡ Ends → ⊥
unfolding says.proc_said
proc_no_end names [] e = cc
proc_no_end names (name ∷ []) e = of (is_name name) (number_of names name) e
  where
    of : (b : Bool) (o : Option ℕ) → cond b (says.proc_from o name) BadProc ≡ Ends → ⊥
    of true None f = cc
    of true (Some k) f = cc
    of false o f = cc
proc_no_end names (name ∷ x ∷ ws) e = cc

end_words : (names : List (List ℕ)) (ws : List (List ℕ)) → says.words_said names ws ≡ Ends
    → width (end_line ∷ []) ≤ width ws
unfolding says.words_said
end_words names [] e = absurd cc
end_words names (w ∷ ws) e =
    let line : Said = says.line_said names (w ∷ ws) in
    let end : Said = cond (bytes_eq w (codes "end")) (says.end_said ws) line in
    let proc : Said = cond (bytes_eq w (codes "proc")) (says.proc_said names ws) end in
    let a = pick (says.is_comment w) Skipped proc Ends (λ f. cc) e in
    let b = pick (bytes_eq w (codes "proc")) (says.proc_said names ws) end Ends (proc_no_end names ws) a.1 in
    of (bytes_eq w (codes "end")) refl b.1
  where
    of : (c : Bool) → bytes_eq w (codes "end") ≡ c
        → cond c (says.end_said ws) (says.line_said names (w ∷ ws)) ≡ Ends → width (end_line ∷ []) ≤ width (w ∷ ws)
    of true f g = omega (arith, ap length ((bytes_eq-Decides w (codes "end")).0 f))
    of false f g = absurd (line_no_end names (w ∷ ws) g)

end_again : (names : List (List ℕ)) (bytes : List ℕ) → said_of names bytes ≡ Ends
    → SaidAgain names bytes Ends end_line
unfolding says.words_said says.end_said says.is_comment words_in
end_again names bytes e =
    record {
      said = refl;
      short = omega (arith, end_words names (words_of bytes) e, line_width bytes);
      printable = refl;
    }

node_same : (number : ℕ) → 1 ≤ number → number ≤ 32 → node_of number ≡ number
node_same number low high = rw (lt-ltb 0 number (omega (arith, low)), le-leb number 32 high) refl

-- the line of what a line says, says it and is no longer
said_again : (names : List (List ℕ)) (script : Script) (place : Place) (bytes : List ℕ) (said : Said)
    → Names names script → length names ≤ 32 → length bytes ≤ 4096 → said_of names bytes ≡ said
    → IsFine names (opening_at bytes) said → IsFaultless place (length bytes) said
    → spec.is_skipped said ≡ false → SaidAgain names bytes said (line_of script said)
said_again names script place bytes (Opens name number) are few room e fine f s =
    proc_again names bytes name number fine.0 fine.1 fine.2
said_again names script place bytes Ends are few room e fine f s = end_again names bytes e
said_again names script place bytes (Forks set (Some number)) are few room e fine f s =
    forks_again names script bytes set number are
    (node_same number fine.1.0 (omega (arith, fine.1.1, few))) e
said_again names script place bytes (Calls line) are few room e fine f s = calls_again names script bytes line room e
said_again names script place bytes (Forks set None) are few room e fine f s = absurd (no_true f.known_proc)
said_again names script place bytes Skipped are few room e fine f s = absurd (no_true s)
said_again names script place bytes BadProc are few room e fine f s = absurd (no_true f.good)
said_again names script place bytes Bad are few room e fine f s = absurd (no_true f.good)
said_again names script place bytes Unknown are few room e fine f s =
    absurd (no_true (sym (inside_of place Unknown f.no_proc refl) ∙ not_both place.inside true f.known_call refl))

-- ---- all lines

-- a line that may stand in a text: printable bytes, and some
abbrev pub IsLineText : List ℕ → Type 0
IsLineText text = (list_all is_printable text ≡ true) × (1 ≤ length text)

-- what is known of lines that spell those of a text
pub record Spelled (script : Script) (names : List (List ℕ)) (place last : Place) (lines texts : List (List ℕ))
    : Type 0 where
  pub runs : Runs names place texts last
  pub whole : lines_so_far script last ≡ lines_so_far script place ++ texts
  pub short : width texts ≤ width lines
  pub printable : AllByRecursion IsLineText texts

said_some : (names : List (List ℕ)) (text : List ℕ) (said : Said) → said_of names text ≡ said
    → spec.is_skipped said ≡ false → 1 ≤ length text
unfolding says.words_said words_in
said_some names [] said e s = absurd (no_true (ap spec.is_skipped e ∙ s))
said_some names (b ∷ text) said e s = omega arith

skipped_is : (said : Said) → spec.is_skipped said ≡ true → said ≡ Skipped
skipped_is Skipped e = refl
skipped_is (Opens name number) e = cc
skipped_is BadProc e = cc
skipped_is Ends e = cc
skipped_is Unknown e = cc
skipped_is Bad e = cc
skipped_is (Forks set number) e = cc
skipped_is (Calls line) e = cc

-- one line more in front
one_more : (script : Script) (names : List (List ℕ)) (place last : Place) (line : List ℕ) (lines texts : List (List ℕ))
    → Names names script → length names ≤ 32 → fault_of place (length line) (said_of names line) ≡ None
    → spec.is_skipped (said_of names line) ≡ false
    → Spelled script names (behind place (said_of names line)) last lines texts
    → Spelled script names place last (line ∷ lines) (line_of script (said_of names line) ∷ texts)
one_more script names place last line lines texts are few free s h =
    let said : Said = said_of names line in
    let text : List ℕ = line_of script said in
    let f = faultless place (length line) said free in
    let room : length line ≤ 4096 = ltb-false 4096 (length line) f.short in
    let a = said_again names script place line said are few room refl (said_fine names line room) f s in
    record {
      runs = (
        ap (fault_of place (length text)) a.said
            ∙ shorter_fault place (length line) (length text) said (omega (arith, a.short, room)) free,
        subst (λ (x : Said). Runs names (behind place x) texts last) (sym a.said) h.runs,
      );
      whole = h.whole ∙ ap (λ (xs : List (List ℕ)). xs ++ texts) (lines_step script place (length line) said f s)
          ∙ append_assoc (lines_so_far script place) (text ∷ []) texts;
      short = omega (arith, a.short, h.short);
      printable = ((a.printable, said_some names text said a.said s), h.printable);
    }

-- the lines of a text that runs to a place, spelled
pub spelled_run : (script : Script) (names : List (List ℕ)) (place last : Place) (lines : List (List ℕ))
    → Names names script → length names ≤ 32 → Runs names place lines last
    → (texts : List (List ℕ)) × Spelled script names place last lines texts
spelled_run script names place last [] are few h = (
  [],
  record {
    runs = h;
    whole = ap (lines_so_far script) (sym h) ∙ sym (append-nil (lines_so_far script place));
    short = omega arith;
    printable = tt;
  },
)
spelled_run script names place last (line ∷ lines) are few h =
    let more = spelled_run script names (behind place (said_of names line)) last lines are few h.1 in
    of (spec.is_skipped (said_of names line)) refl more
  where
    of : (b : Bool) → spec.is_skipped (said_of names line) ≡ b
        → ((texts : List (List ℕ)) × Spelled script names (behind place (said_of names line)) last lines texts)
        → (texts : List (List ℕ)) × Spelled script names place last (line ∷ lines) texts
    of false s more = (
      line_of script (said_of names line) ∷ more.0,
      one_more script names place last line lines more.0 are few h.0 s more.1,
    )
    of true s more =
        let same : behind place (said_of names line) ≡ place = ap (behind place) (skipped_is (said_of names line) s) in
        let m = more.1 in (
          more.0,
          record {
            runs = subst (λ (p : Place). Runs names p more.0 last) same m.runs;
            whole = m.whole ∙ ap (λ (p : Place). lines_so_far script p ++ more.0) same;
            short = omega (arith, m.short);
            printable = m.printable;
          },
        )
