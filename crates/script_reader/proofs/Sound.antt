-- A script that is read is sound.
use Rattle.std.proofs.Common.{◌≡◌, ℕ, ◌+◌, ◌<◌, ◌≤◌, Bool, true, false, ◌||◌, not, cond, eqb, ltb, leb, List, [], ◌∷◌, ◌++◌, length, Option, Some, None, Result, Ok, Err, eq-eqb, refl, sym, ap, subst, ◌∙◌, arith}
use Rattle.std.specs.Prelude.{nat_eq, count_by, sum_by, fold, IfOk}
use Rattle.std.specs.List.{list_all, list_any, enumerate_from}
use Rattle.std.specs.Str.Lossy.{utf8_valid_len}
use Rattle.std.proofs.lemmas.Bool.{and_parts, and_from, le-leb, eqb-true, eqb-false, ltb-false}
use Rattle.std.proofs.lemmas.List.{length-map, append-nil}
use Rattle.std.proofs.lemmas.Option.{same_Some}
use Rattle.pico_base.specs.declared.script.Block.{Block}
use Rattle.pico_base.specs.declared.script.Line.{Line}
use Rattle.pico_base.specs.declared.script.Script.{Script}
use Rattle.kernel_model.specs.Script as model
use Rattle.kernel_model.specs.Script.{IsSoundScript, Fork}
use Rattle.script_reader.specs.declared.fault.ScriptFault.{ScriptFault}
use Rattle.script_reader.specs.declared.fault.ScriptFault.TheVariants.{ScriptTooLong, NotUtf8, NoProc, NoEnd}
use Rattle.script_reader.specs.declared.fault.ScriptStop.{ScriptStop}
use Rattle.script_reader.specs.declared.fault.ScriptStop.TheVariants.{At}
use Rattle.script_reader.specs.declared.place.Place.{Place}
use Rattle.script_reader.specs.declared.says.Said.{Said}
use Rattle.script_reader.specs.declared.says.Said.TheVariants.{Skipped, Opens, BadProc, Ends, Unknown, Bad, Forks, Calls}
use Rattle.script_reader.specs.Words.{lines_of}
use Rattle.script_reader.specs.Says.{names_of, number_of, with_opening, opening_at, proc_from, said_of}
use Rattle.script_reader.specs.Fault as spec
use Rattle.script_reader.specs.Fault.{start, fault_of, blocks_from, blocks_of, outcome, Blocks}
use Rattle.script_reader.proofs.Saying.{IsFine, said_fine, opening_said}
use Rattle.script_reader.proofs.Steps.{IsFaultless, faultless}
use Rattle.script_reader.proofs.Opened.{AreOpened, AreNumbered, block_names, names_step, inside_of, number_here, not_both, not_true as no_true}
use Rattle.script_reader.proofs.Tidy.{IsTidy, tidy_step}
use Rattle.script_reader.proofs.Forked.{AreForked, forked_step, forks_from, forks_so_far, goes_to, is_to, node_is, no_targets, first_forks}
use Rattle.script_reader.proofs.Known.{AreKnown, known_open, known_end, known_call, known_fork, first_place_known}

-- ---- one line

known_step : (names : List (List ℕ)) (place : Place) (size : ℕ) (o : Option (List ℕ)) (said : Said)
    → length names ≤ 32 → IsTidy place → AreKnown place → IsFine names o said
    → IsFaultless place size said → AreKnown (spec.behind place said)
known_step names place size o (Opens name number) small t h fine f =
    let here = number_here place size name number f in
    known_open place name number h (t.outside here.0) here.1
known_step names place size o Skipped small t h fine f = h
known_step names place size o Ends small t h fine f = known_end place (spec.calls_of place Ends) h
known_step names place size o (Forks set None) small t h fine f = h
known_step names place size o (Forks set (Some n)) small t h fine f =
    let high : n ≤ 32 = omega (arith, fine.1.1, small) in
    known_fork place set n h (inside_of place (Forks set (Some n)) f.no_proc refl) high (node_is n fine.1.0 high)
known_step names place size o (Calls line) small t h fine f =
    known_call place line h (inside_of place (Calls line) f.no_proc refl) (no_targets line fine.1) f.set
known_step names place size o BadProc small t h fine f = absurd (no_true f.good)
known_step names place size o Bad small t h fine f = absurd (no_true f.good)
known_step names place size o Unknown small t h fine f =
    absurd (no_true (sym (inside_of place Unknown f.no_proc refl) ∙ not_both place.inside true f.known_call refl))

-- ---- all lines

pub record Stands (names : List (List ℕ)) (place : Place) : Type 0 where
  pub tidy : IsTidy place
  pub forked : AreForked (length names) place
  pub known : AreKnown place

-- where the lines end
no_blocks : (fault : ℕ × ScriptFault) (all : List Block) → (let r : Blocks = Err fault in r ≡ Ok all) → ⊥
no_blocks fault all e = cc

same_blocks : (blocks all : List Block) → (let r : Blocks = Ok blocks in r ≡ Ok all) → blocks ≡ all
same_blocks blocks all e = cc

abbrev pub ended_as : Bool → Bool → ℕ → List Block → Blocks
ended_as inside none number blocks = cond inside (Err (number, NoEnd)) (cond none (Err (1, NoProc)) (Ok blocks))

-- where the lines end in blocks, none is open, there is one, and they are these
pub ending_ok : (inside : Bool) (none : Bool) (number : ℕ) (blocks all : List Block)
    → ended_as inside none number blocks ≡ Ok all → (inside ≡ false) × (none ≡ false) × (blocks ≡ all)
ending_ok true none number blocks all e = absurd (no_blocks (number, NoEnd) all e)
ending_ok false true number blocks all e = absurd (no_blocks (1, NoProc) all e)
ending_ok false false number blocks all e = (refl, refl, same_blocks blocks all e)

is_same_eq : (x y : List ℕ) → model.is_same x y ≡ true → x ≡ y
is_same_eq [] [] e = refl
is_same_eq [] (b ∷ y) e = absurd cc
is_same_eq (a ∷ x) [] e = absurd cc
is_same_eq (a ∷ x) (b ∷ y) e =
    let p = and_parts (eqb a b) (model.is_same x y) e in
    let first : a ≡ b = eqb-true a b p.0 in
    let rest : x ≡ y = is_same_eq x y p.1 in
    cc

differs_of : (names : List (List ℕ)) (k n : ℕ) (x y : List ℕ) (b rest : Bool) → model.is_same x y ≡ b
    → number_of names x ≡ Some k → number_of names y ≡ Some n → k < n → rest ≡ false → (b || rest) ≡ false
differs_of names k n x y false rest e is at low more = more
differs_of names k n x y true rest e is at low more =
    let same : k ≡ n = same_Some k n (sym is ∙ ap (number_of names) (is_same_eq x y e) ∙ at) in
    absurd (omega (arith, same, low))

none_same : (names : List (List ℕ)) (k n : ℕ) (x : List ℕ) (blocks : List Block) → number_of names x ≡ Some k → k < n
    → AreNumbered names n (block_names blocks) → list_any (λ (other : Block). model.is_same x other.name) blocks ≡ false
none_same names k n x [] is low h = refl
none_same names k n x (b ∷ blocks) is low h =
    differs_of names k n x b.name (model.is_same x b.name)
    (list_any (λ (other : Block). model.is_same x other.name) blocks) refl is h.0 low
    (none_same names k (n + 1) x blocks is (omega (arith, low)) h.1)

apart : (names : List (List ℕ)) (k : ℕ) (blocks : List Block) → AreNumbered names k (block_names blocks)
    → model.names_differ blocks ≡ true
apart names k [] h = refl
apart names k (b ∷ blocks) h =
    and_from (not (list_any (λ (other : Block). model.is_same b.name other.name) blocks)) (model.names_differ blocks)
    (ap not (none_same names k (k + 1) b.name blocks h.0 (omega arith) h.1)) (apart names (k + 1) blocks h.1)

-- the script of blocks
abbrev pub script_of : List Block → Script
script_of blocks = record { blocks = blocks }

forked_at : (script : Script) (k n : ℕ) (b : Bool) → nat_eq k 1 ≡ b → 1 ≤ k
    → (2 ≤ k → model.is_forked_once script k ≡ true) → (b || model.is_forked_once script k) ≡ true
forked_at script k n true e low h = refl
forked_at script k n false e low h = h (at_least k low (eqb-false k 1 e))
  where
    at_least : (k : ℕ) → 1 ≤ k → (k ≡ 1 → ⊥) → 2 ≤ k
    at_least k low other = omega (arith, low, other)

all_forked : (script : Script) (k : ℕ) (blocks : List Block) → 1 ≤ k
    → ((j : ℕ) → 2 ≤ j → j + 1 ≤ k + length blocks + 0 → model.is_forked_once script j ≡ true)
    → list_all (λ (b : ℕ × Block). nat_eq b.0 1 || model.is_forked_once script b.0) (enumerate_from k blocks) ≡ true
all_forked script k [] low h = refl
all_forked script k (b ∷ blocks) low h =
    and_from (nat_eq k 1 || model.is_forked_once script k)
    (list_all (λ (b : ℕ × Block). nat_eq b.0 1 || model.is_forked_once script b.0) (enumerate_from (k + 1) blocks))
    (forked_at script k 0 (nat_eq k 1) refl low (λ l. h k l (omega arith)))
    (all_forked script (k + 1) blocks (omega arith) (λ j l m. h j l (omega (arith, m))))

forward_of : (blocks : List Block) (lines : List Line) (total : ℕ) → lines ≡ [] → total ≡ length blocks
    → list_all (goes_to total) (forks_so_far blocks lines) ≡ true
    → list_all (model.goes_forward (script_of blocks)) (forks_from 1 blocks) ≡ true
forward_of blocks lines total none count h =
    let bare : list_all (goes_to total) (forks_from 1 blocks ++ []) ≡ true =
    subst (λ (ls : List Line). list_all (goes_to total) (forks_so_far blocks ls) ≡ true) none h in
    let plain : list_all (goes_to total) (forks_from 1 blocks) ≡ true =
    subst (λ (fs : List Fork). list_all (goes_to total) fs ≡ true) (append-nil (forks_from 1 blocks)) bare in
    subst (λ (n : ℕ). list_all (goes_to n) (forks_from 1 blocks) ≡ true) count plain

once_of : (blocks : List Block) (lines : List Line) (k : ℕ) → lines ≡ []
    → count_by (is_to k) (forks_so_far blocks lines) ≡ 1 → model.is_forked_once (script_of blocks) k ≡ true
once_of blocks lines k none h =
    let bare : count_by (is_to k) (forks_from 1 blocks ++ []) ≡ 1 =
    subst (λ (ls : List Line). count_by (is_to k) (forks_so_far blocks ls) ≡ 1) none h in
    let plain : count_by (is_to k) (forks_from 1 blocks) ≡ 1 =
    subst (λ (fs : List Fork). count_by (is_to k) fs ≡ 1) (append-nil (forks_from 1 blocks)) bare in
    eq-eqb (count_by (is_to k) (forks_from 1 blocks)) 1 plain

some_of : (n : ℕ) → (n ≡ 0 → ⊥) → 1 ≤ n
some_of n h = omega (arith, h)

finish : (names : List (List ℕ)) (place : Place) → AreOpened names names place
    → (length names ≤ 32 → Stands names place) → place.inside ≡ false → eqb (length place.blocks) 0 ≡ false
    → IsSoundScript (script_of place.blocks)
finish names place o stands out some =
    let are : names ≡ block_names place.blocks =
    o.opened ∙ ap (λ (b : Bool). block_names place.blocks ++ cond b (place.name ∷ []) []) out
    ∙ append-nil (block_names place.blocks) in
    let count : length names ≡ length place.blocks = ap length are ∙ length-map place.blocks (λ (b : Block). b.name) in
    let s = stands o.few in
    let t = s.tidy in
    let f = s.forked in
    let none : place.lines ≡ [] = t.outside out in
    let forward : list_all (model.goes_forward (script_of place.blocks)) (forks_from 1 place.blocks) ≡ true =
    forward_of place.blocks place.lines (length names) none count f.forward in
    let closed : cond {A = ℕ} place.inside 1 0 ≡ 0 = ap {B = ℕ} (λ (b : Bool). cond b 1 0) out in
    let blocks_some : 1 ≤ length place.blocks =
    some_of (length place.blocks) (eqb-false (length place.blocks) 0 some) in
    record {
      size = and_from (leb 1 (length place.blocks)) (leb (length place.blocks) 32)
          (le-leb 1 (length place.blocks) blocks_some) (le-leb (length place.blocks) 32 (omega (arith, count, o.few)));
      names = t.names;
      names_apart = apart names 1 place.blocks (subst (AreNumbered names 1) are o.numbered);
      forward = forward;
      forked_once = all_forked (script_of place.blocks) 1 place.blocks (omega arith)
          (λ j l m. once_of place.blocks place.lines j none
          (f.count j ∙ ap {B = ℕ} (λ (b : Bool). cond b 1 0) (f.forked j l (omega (arith, m, closed)))));
      lines = t.blocks_lines;
      exits = t.blocks_end;
      variables = s.known.uses_blocks;
      calls = le-leb (sum_by model.calls_in place.blocks) 20000 (omega (arith, t.few, t.counted));
    }

-- ---- from the first line to the last

stands_step : (names : List (List ℕ)) (place : Place) (size : ℕ) (o : Option (List ℕ)) (said : Said)
    → IsFine names o said → IsFaultless place size said → (length names ≤ 32 → Stands names place)
    → length names ≤ 32 → Stands names (spec.behind place said)
stands_step names place size o said fine f stands small =
    let s = stands small in
    record {
      tidy = tidy_step names place size o said s.tidy fine f;
      forked = forked_step names place size o said small s.tidy s.forked fine f;
      known = known_step names place size o said small s.tidy s.known fine f;
    }

-- where lines give blocks, the first of them has no fault, and those behind it give the blocks
pub stopped : (fault : Option ScriptFault) (number : ℕ) (others : Blocks) (blocks : List Block)
    → spec.unless fault number others ≡ Ok blocks → (fault ≡ None) × (others ≡ Ok blocks)
stopped None number others blocks e = (refl, e)
stopped (Some fault) number others blocks e = absurd (no_blocks (number, fault) blocks e)

-- what lines are read as, where each of them says this
pub record IsReader (say : List ℕ → Said) (read : Place → ℕ → List (List ℕ) → Blocks) : Type 0 where
  pub ends : (place : Place) (number : ℕ) → read place number [] ≡ spec.ending place number
  pub goes : (place : Place) (number : ℕ) (line : List ℕ) (lines : List (List ℕ)) → read place number (line ∷ lines)
      ≡ spec.unless (fault_of place (length line) (say line)) number
      (read (spec.behind place (say line)) (number + 1) lines)

-- what each line says is within its ranges, and one with a name opens its block
pub record AreFine (names : List (List ℕ)) (say : List ℕ → Said) : Type 0 where
  pub fine : (line : List ℕ) → length line ≤ 4096 → IsFine names (opening_at line) (say line)
  pub opens : (line x : List ℕ) → opening_at line ≡ Some x → say line ≡ proc_from (number_of names x) x

sound_from : (names : List (List ℕ)) (say : List ℕ → Said) (read : Place → ℕ → List (List ℕ) → Blocks)
    → AreFine names say → IsReader say read → (so_far : List (List ℕ)) (place : Place) (number : ℕ)
    (lines : List (List ℕ)) (blocks : List Block) → AreOpened names so_far place
    → (length names ≤ 32 → Stands names place)
    → fold (λ names line. with_opening names (opening_at line)) so_far lines ≡ names
    → read place number lines ≡ Ok blocks → IsSoundScript (script_of blocks)
sound_from names say read a r so_far place number [] blocks o stands all e =
    let end = ending_ok place.inside (eqb (length place.blocks) 0) number place.blocks blocks
    (sym (r.ends place number) ∙ e) in
    subst (λ (bs : List Block). IsSoundScript (script_of bs)) end.2
    (finish names place
    (subst (λ (ns : List (List ℕ)). AreOpened names ns place) all o) stands end.0 end.1)
sound_from names say read a r so_far place number (line ∷ lines) blocks o stands all e =
    let said : Said = say line in
    let s = stopped (fault_of place (length line) said) number
    (read (spec.behind place said) (number + 1) lines) blocks (sym (r.goes place number line lines) ∙ e) in
    let f = faultless place (length line) said s.0 in
    let fine = a.fine line (ltb-false 4096 (length line) f.short) in
    sound_from names say read a r (with_opening so_far (opening_at line)) (spec.behind place said) (number + 1) lines
    blocks (names_step names so_far place (length line) (opening_at line) said o fine (a.opens line) f)
    (stands_step names place (length line) (opening_at line) said fine f stands) all s.1

first_place : (names : List (List ℕ)) → AreOpened names [] (start (length names))
    × Stands names (start (length names))
unfolding start
first_place names = (
  record { opened = refl; numbered = tt; few = omega arith },
  record {
    tidy =
        record {
          names = refl;
          name = λ e. absurd (no_true (sym e));
          outside = λ _. refl;
          blocks_lines = refl;
          lines = refl;
          blocks_end = refl;
          end = refl;
          going = λ _. refl;
          gone = λ e. absurd (no_true (sym e));
          counted = refl;
          few = omega arith;
        };
    forked = first_forks (length names);
    known = first_place_known (length names);
  },
)

-- all lines of a text, whatever calls they have
pub sound_lines : (say : List ℕ → Said) (read : Place → ℕ → List (List ℕ) → Blocks) (lines : List (List ℕ))
    (blocks : List Block) → AreFine (names_of lines) say → IsReader say read
    → read (start (length (names_of lines))) 1 lines ≡ Ok blocks → IsSoundScript (script_of blocks)
sound_lines say read lines blocks a r e =
    let first = first_place (names_of lines) in
    sound_from (names_of lines) say read a r [] (start (length (names_of lines))) 1 lines blocks first.0
    (λ _. first.1) refl e

reader : (names : List (List ℕ)) → IsReader (said_of names) (blocks_from names)
unfolding blocks_from
reader names = record { ends = λ place number. refl; goes = λ place number line lines. refl }

pub sound_blocks : (lines : List (List ℕ)) (blocks : List Block) → blocks_of lines ≡ Ok blocks
    → IsSoundScript (script_of blocks)
unfolding blocks_of
sound_blocks lines blocks e =
    let names : List (List ℕ) = names_of lines in
    sound_lines (said_of names) (blocks_from names) lines blocks
    (record { fine = said_fine names; opens = opening_said names }) (reader names) e

-- ---- whole texts

read_of : (P : Script → Type 0) (blocks : Blocks) (script : Script)
    → ((bs : List Block) → blocks ≡ Ok bs → P (script_of bs)) → spec.script_from blocks ≡ Ok script → P script
read_of P (Ok bs) script h e = let same : script_of bs ≡ script =
    cc in subst P same (h bs refl)
read_of P (Err fault) script h e = absurd cc

not_first_cond : (b : Bool) (x y : Result Script ScriptStop) (script : Script) → ((s : Script) → x ≡ Ok s → ⊥)
    → cond b x y ≡ Ok script → y ≡ Ok script
not_first_cond true x y script h e = absurd (h script e)
not_first_cond false x y script h e = e

no_script : (stop : ScriptStop) (s : Script) → (let r : Result Script ScriptStop = Err stop in r ≡ Ok s) → ⊥
no_script stop s e = cc

-- what bytes are read as whose lines are read as this
abbrev pub read_whole : List ℕ → Blocks → Result Script ScriptStop
read_whole bytes blocks =
    cond (ltb spec.max_bytes (length bytes)) (Err (At (spec.line_behind spec.max_bytes bytes) ScriptTooLong))
    (cond (ltb (utf8_valid_len bytes) (length bytes))
    (Err (At (spec.line_behind (utf8_valid_len bytes) bytes) NotUtf8)) (spec.script_from blocks))

-- what holds of the blocks of a text holds of the script that it is read as
pub whole_has : (P : Script → Type 0) (bytes : List ℕ) (blocks : Blocks) (script : Script)
    → ((bs : List Block) → blocks ≡ Ok bs → P (script_of bs)) → read_whole bytes blocks ≡ Ok script → P script
whole_has P bytes blocks script h e =
    let long : ScriptStop = At (spec.line_behind spec.max_bytes bytes) ScriptTooLong in
    let bad : ScriptStop = At (spec.line_behind (utf8_valid_len bytes) bytes) NotUtf8 in
    let whole : Result Script ScriptStop = spec.script_from blocks in
    let a = not_first_cond (ltb spec.max_bytes (length bytes)) (Err long)
    (cond (ltb (utf8_valid_len bytes) (length bytes)) (Err bad) whole) script (no_script long) e in
    let b = not_first_cond (ltb (utf8_valid_len bytes) (length bytes)) (Err bad) whole script (no_script bad) a in
    read_of P blocks script h b

-- what reads as a script is sound
pub reads_sound : (bytes : List ℕ) (script : Script) → outcome bytes ≡ Ok script
    → IsSoundScript script
unfolding outcome
reads_sound bytes script e =
    whole_has IsSoundScript bytes (blocks_of (lines_of bytes)) script
    (λ bs is. sound_blocks (lines_of bytes) bs is) e

-- what holds of each script that is read holds of one that is given
pub given_has : (P : Script → Type 0) (r read : Result Script ScriptStop)
    → ((script : Script) → read ≡ Ok script → P script) → spec.Gives r read → IfOk r P
given_has P (Ok script) read h g = h script g
given_has P (Err stop) read h g = tt

-- a script that is given is sound
pub given_sound : (bytes : List ℕ) (r : Result Script ScriptStop)
    → spec.Gives r (outcome bytes) → IfOk r IsSoundScript
given_sound bytes r h = given_has IsSoundScript r (outcome bytes) (reads_sound bytes) h
