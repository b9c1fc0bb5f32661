-- A script's text reads the same without its last line feed, and none of its lines begins as the line `image` does.
use Rattle.std.proofs.Common.{◌≡◌, ◌≢◌, ◌⊎◌, inl, inr, ℕ, zero, suc, ◌+◌, ◌<◌, ◌≤◌, Bool, true, false, cond, not, ◌&&◌, ◌||◌, ltb, leb, eqb, List, [], ◌∷◌, ◌++◌, length, take, get_or, fold, Option, Some, None, refl, sym, ap, subst, ◌∙◌, arith}
use Rattle.std.specs.Prelude.{Result, Ok, Err, codes, bytes_eq}
use Rattle.std.specs.List.{AllByRecursion, find, onto_first}
use Rattle.std.specs.Str.{is_utf8, IsUtf8}
use Rattle.std.specs.Str.Lossy.{utf8_valid_len, valid_len_up_to}
use Rattle.std.proofs.lemmas.Bool.{le-leb, lt-ltb, ltb-true}
use Rattle.std.proofs.lemmas.List.{take_all, take_at}
use Rattle.std.proofs.lemmas.Str.{utf8_valid_len-IsUtf8, IsUtf8-from_is_utf8, IsUtf8-take, IsCharBoundary-before_ascii}
use Rattle.std.proofs.lemmas.Slice.Eq.{bytes_eq-Decides}
use Rattle.pico_base.specs.declared.script.Block.{Block}
use Rattle.pico_base.specs.declared.script.Script.{Script}
use Rattle.script_reader.specs.declared.fault.ScriptFault.{ScriptFault}
use Rattle.script_reader.specs.declared.fault.ScriptFault.TheVariants as faults
use Rattle.script_reader.specs.declared.fault.ScriptStop.{ScriptStop}
use Rattle.script_reader.specs.declared.fault.ScriptStop.TheVariants.{At}
use Rattle.script_reader.specs.declared.place.Place.{Place}
use Rattle.script_reader.specs.declared.says.Front.{Front}
use Rattle.script_reader.specs.declared.says.Front.TheVariants.{Gives, Wrong}
use Rattle.script_reader.specs.declared.says.Said.{Said}
use Rattle.script_reader.specs.declared.says.Said.TheVariants.{Unknown, Bad}
use Rattle.call_words.specs.declared.verb.Verb.{Verb}
use Rattle.call_words.specs.declared.verb.Verb.TheVariants as verbs
use Rattle.call_words.specs.Verbs.{verb_of}
use Rattle.script_reader.specs.Words.{lines_of, words_of, words_in}
use Rattle.script_reader.specs.Parts.{variable}
use Rattle.script_reader.specs.Says.{names_of, with_opening, opening_at, opened_by, set_at, tries_at, nothing, fork_said, exit_said, other_said, verb_said, named_said, call_said, line_said, words_said, is_comment, said_of}
use Rattle.script_reader.specs.Fault as spec
use Rattle.script_reader.specs.Fault.{Blocks, start, outcome, script_from, blocks_of, blocks_from, unless, fault_of, has_fault, behind, line_faults}
use Rattle.image_text.specs.Image.{ended}
use Rattle.image_text.specs.Parts.{ends_script, begins_by}

-- ---- a line whose first word is `image`

abbrev IsNone : Said → Type 0
IsNone said = (said ≡ Bad) ⊎ (said ≡ Unknown)

verb-wrong : (names : List (List ℕ)) (tries : Front ℕ) (verb : Verb) (words : List (List ℕ))
    → verb_said names Wrong tries verb words ≡ Bad
unfolding verb_said fork_said exit_said other_said
verb-wrong names tries verbs.Fork words = refl
verb-wrong names tries verbs.Exit words = refl
verb-wrong names tries verb words = refl

named-wrong : (names : List (List ℕ)) (tries : Front ℕ) (verb : Option Verb) (words : List (List ℕ))
    → IsNone (named_said names Wrong tries verb words)
named-wrong names tries None words = inr refl
named-wrong names tries (Some verb) words = inl (verb-wrong names tries verb words)

call-wrong : (names : List (List ℕ)) (tries : Front ℕ) (words : List (List ℕ))
    → IsNone (call_said names Wrong tries words)
unfolding call_said
call-wrong names tries [] = inl refl
call-wrong names tries (name ∷ words) = named-wrong names tries (verb_of name) words

image-unknown : (names words : List (List ℕ)) → call_said names nothing nothing (codes "image" ∷ words) ≡ Unknown
unfolding call_said verb_of
image-unknown names words = refl

image-line : (names words : List (List ℕ)) → IsNone (line_said names (codes "image" ∷ words))
unfolding line_said set_at tries_at variable
image-line names [] = inr (image-unknown names [])
image-line names (e ∷ words) = of (bytes_eq e (codes "=")) refl
  where
    of : (b : Bool) → bytes_eq e (codes "=") ≡ b → IsNone (line_said names (codes "image" ∷ e ∷ words))
    of true is = rw is (call-wrong names (tries_at words).0 (tries_at words).1)
    of false is = rw is (inr (image-unknown names (e ∷ words)))

image-words : (names : List (List ℕ)) (words : List (List ℕ)) → begins_by words ≡ true → IsNone (words_said names words)
unfolding words_said is_comment
image-words names [] h = absurd cc
image-words names (word ∷ words) h =
    let is : word ≡ codes "image" = (bytes_eq-Decides word (codes "image")).0 h in
    rw is (image-line names words)

said-image : (names : List (List ℕ)) (line : List ℕ) → ends_script line ≡ true → IsNone (said_of names line)
unfolding ends_script
said-image names line h = image-words names (words_of line) h

-- ---- it has a fault

not-found : {A : Type 0} (b : Bool) (x : A) (rest : Option A) → cond b (Some x) rest ≡ None
    → (b ≡ false) × (rest ≡ None)
not-found true x rest h = absurd cc
not-found false x rest h = (refl, h)

found-none : {A : Type 0} (p : A → Bool) (xs : List A) → find p xs ≡ None → AllByRecursion (λ x. p x ≡ false) xs
found-none p [] h = tt
found-none p (x ∷ xs) h = let a = not-found (p x) x (find p xs) h in (a.0, found-none p xs a.1)

none-bad : (place : Place) (size : ℕ) → fault_of place size Bad ≡ None → ⊥
unfolding fault_of has_fault
none-bad place size h =
    let all = found-none (λ fault. has_fault place size Bad fault) line_faults h in
    let bad : true ≡ false = all.1.1.1.1.0 in absurd cc

none-unknown : (place : Place) (size : ℕ) → fault_of place size Unknown ≡ None → ⊥
unfolding fault_of has_fault
none-unknown place size h =
    let all = found-none (λ fault. has_fault place size Unknown fault) line_faults h in
    of place.inside all.1.0 all.1.1.1.0
  where
    of : (inside : Bool) → (not inside && true) ≡ false → (inside && true) ≡ false → ⊥
    of true a b = cc
    of false a b = cc

fault-there : (place : Place) (size : ℕ) (said : Said) → IsNone said → fault_of place size said ≡ None → ⊥
fault-there place size said (inl is) h = none-bad place size (ap (fault_of place size) (sym is) ∙ h)
fault-there place size said (inr is) h = none-unknown place size (ap (fault_of place size) (sym is) ∙ h)

unless-ok : (fault : Option ScriptFault) (number : ℕ) (others : Blocks) (blocks : List Block)
    → unless fault number others ≡ Ok blocks → (fault ≡ None) × (others ≡ Ok blocks)
unless-ok (Some fault) number others blocks h = absurd cc
unless-ok None number others blocks h = (refl, h)

none-ends-from : (names : List (List ℕ)) (lines : List (List ℕ)) (place : Place) (number : ℕ) (blocks : List Block)
    → blocks_from names place number lines ≡ Ok blocks → AllByRecursion (λ l. ends_script l ≡ false) lines
unfolding blocks_from
none-ends-from names [] place number blocks h = tt
none-ends-from names (line ∷ lines) place number blocks h =
    let said : Said = said_of names line in
    let a = unless-ok (fault_of place (length line) said) number _ blocks h in
    (of (ends_script line) refl a.0, none-ends-from names lines (behind place said) (number + 1) blocks a.1)
  where
    of : (b : Bool) → ends_script line ≡ b → fault_of place (length line) (said_of names line) ≡ None
        → ends_script line ≡ false
    of true is none = absurd (fault-there place (length line) (said_of names line) (said-image names line is) none)
    of false is none = is

-- ---- without its last feed

not-first : (b : Bool) (stop : ScriptStop) (r : Result Script ScriptStop) (script : Script)
    → cond b (Err stop) r ≡ Ok script → (b ≡ false) × (r ≡ Ok script)
not-first true stop r script h = absurd cc
not-first false stop r script h = (refl, h)

blocks-ok : (r : Blocks) (script : Script) → script_from r ≡ Ok script
    → (blocks : List Block) × (r ≡ Ok blocks) × (record { blocks = blocks } ≡ script)
blocks-ok (Err fault) script h = absurd cc
blocks-ok (Ok blocks) script h = let same : record { blocks = blocks } ≡ script = cc in (blocks, refl, same)

-- a text of a script is short, of characters, and its lines make the script's blocks
parts-of : (bytes : List ℕ) (script : Script) → outcome bytes ≡ Ok script
    → (blocks : List Block) × (ltb 1048576 (length bytes) ≡ false)
    × (ltb (utf8_valid_len bytes) (length bytes) ≡ false) × (blocks_of (lines_of bytes) ≡ Ok blocks)
    × (record { blocks = blocks } ≡ script)
unfolding outcome
parts-of bytes script h =
    let a = not-first (ltb 1048576 (length bytes)) _ _ script h in
    let b = not-first (ltb (utf8_valid_len bytes) (length bytes)) _ _ script a.1 in
    let c = blocks-ok (blocks_of (lines_of bytes)) script b.1 in
    (c.0, a.0, b.0, c.1, c.2)

-- no line of a script's text ends the script
pub none-ends : (bytes : List ℕ) (script : Script) → outcome bytes ≡ Ok script
    → AllByRecursion (λ l. ends_script l ≡ false) (lines_of bytes)
unfolding outcome blocks_of
none-ends bytes script h =
    let a = parts-of bytes script h in
    none-ends-from _ (lines_of bytes) _ 1 a.0 a.3

up-to-le : (bytes : List ℕ) (n : ℕ) → valid_len_up_to bytes n ≤ n
up-to-le bytes zero = omega arith
up-to-le bytes (suc n) = of (is_utf8 (take (suc n) bytes)) (up-to-le bytes n)
  where
    of : (b : Bool) → valid_len_up_to bytes n ≤ n → cond b (suc n) (valid_len_up_to bytes n) ≤ suc n
    of true h = omega arith
    of false h = omega (arith, h)

full-utf8 : (bytes : List ℕ) (n : ℕ) → n ≡ length bytes → ltb (valid_len_up_to bytes n) n ≡ false → 0 < n → IsUtf8 bytes
full-utf8 bytes zero is h some = absurd (omega (arith, some))
full-utf8 bytes (suc n) is h some = of (is_utf8 (take (suc n) bytes)) refl (up-to-le bytes n) h
  where
    of : (b : Bool) → is_utf8 (take (suc n) bytes) ≡ b → valid_len_up_to bytes n ≤ n
        → ltb (cond b (suc n) (valid_len_up_to bytes n)) (suc n) ≡ false → IsUtf8 bytes
    of true e le h =
        subst IsUtf8 (take_all (suc n) bytes (omega (arith, is))) (IsUtf8-from_is_utf8 (take (suc n) bytes) e)
    of false e le h =
        let less : ltb (valid_len_up_to bytes n) (suc n) ≡ true =
        lt-ltb (valid_len_up_to bytes n) (suc n) (omega (arith, le)) in
        absurd cc

feed-last : (bytes : List ℕ) → get_or (ended bytes) (length bytes) 0 ≡ 10
feed-last [] = refl
feed-last (b ∷ bytes) = feed-last bytes

ended-length : (bytes : List ℕ) → length (ended bytes) ≡ length bytes + 1
ended-length [] = refl
ended-length (b ∷ bytes) = let rest = ended-length bytes in omega (arith, rest)

opened-utf8 : (bytes : List ℕ) → ltb (utf8_valid_len (ended bytes)) (length (ended bytes)) ≡ false
    → ltb (utf8_valid_len bytes) (length bytes) ≡ false
unfolding utf8_valid_len
opened-utf8 bytes h =
    let size : length (ended bytes) ≡ length bytes + 1 = ended-length bytes in
    let all : IsUtf8 (ended bytes) = full-utf8 (ended bytes) (length (ended bytes)) refl h (omega (arith, size)) in
    let feed : get_or (ended bytes) (length bytes) 0 < 128 = omega (arith, feed-last bytes) in
    let front : IsUtf8 (take (length bytes) (ended bytes)) =
    IsUtf8-take (ended bytes) (length bytes) all
    (IsCharBoundary-before_ascii (ended bytes) (length bytes) (omega (arith, size)) feed) in
    let whole : IsUtf8 bytes = subst IsUtf8 (take_at bytes (10 ∷ []) (length bytes) refl) front in
    let full : utf8_valid_len bytes ≡ length bytes = utf8_valid_len-IsUtf8 bytes whole in
    of (utf8_valid_len bytes) (length bytes) full
  where
    of : (m n : ℕ) → m ≡ n → ltb m n ≡ false
    of m n e = grind arith

-- the lines are the same, but for one without bytes
abbrev AreNearly : List (List ℕ) → List (List ℕ) → Type 0
AreNearly more lines = (more ≡ lines) ⊎ (more ≡ lines ++ [] ∷ [])

onto-nearly : (b : ℕ) (more lines : List (List ℕ)) → AreNearly more lines
    → AreNearly (onto_first b more) (onto_first b lines)
onto-nearly b more lines (inl same) = inl (ap (onto_first b) same)
onto-nearly b more [] (inr same) = inl (ap (onto_first b) same)
onto-nearly b more (line ∷ lines) (inr same) = inr (ap (onto_first b) same)

cons-nearly : (more lines : List (List ℕ)) → AreNearly more lines → AreNearly ([] ∷ more) ([] ∷ lines)
cons-nearly more lines (inl same) = inl (ap (λ (ls : List (List ℕ)). [] ∷ ls) same)
cons-nearly more lines (inr same) = inr (ap (λ (ls : List (List ℕ)). [] ∷ ls) same)

-- the lines with one feed more
pub lines-nearly : (bytes : List ℕ) → AreNearly (lines_of (ended bytes)) (lines_of bytes)
lines-nearly [] = inr refl
lines-nearly (b ∷ bytes) = of (eqb b 10) (lines-nearly bytes)
  where
    of : (c : Bool) → AreNearly (lines_of (ended bytes)) (lines_of bytes)
        → AreNearly (cond c ([] ∷ lines_of (ended bytes)) (onto_first b (lines_of (ended bytes))))
        (cond c ([] ∷ lines_of bytes) (onto_first b (lines_of bytes)))
    of true h = cons-nearly (lines_of (ended bytes)) (lines_of bytes) h
    of false h = onto-nearly b (lines_of (ended bytes)) (lines_of bytes) h

ending-earlier : (place : Place) (number : ℕ) (blocks : List Block) → spec.ending place (number + 1) ≡ Ok blocks
    → spec.ending place number ≡ Ok blocks
ending-earlier place number blocks h = of place.inside (eqb (length place.blocks) 0) h
  where
    of : (inside none : Bool)
        → (let r : Blocks = cond inside (Err (number + 1, faults.NoEnd)) (cond none (Err (
          1,
          faults.NoProc,
        )) (Ok place.blocks)) in r ≡ Ok blocks)
        → (let r : Blocks = cond inside (Err (number, faults.NoEnd)) (cond none (Err (
          1,
          faults.NoProc,
        )) (Ok place.blocks)) in r ≡ Ok blocks)
    of true none h = absurd cc
    of false true h = absurd cc
    of false false h = h

rest-earlier : (names : List (List ℕ)) (lines : List (List ℕ)) (place : Place) (number : ℕ) (blocks : List Block)
    → blocks_from names place number (lines ++ [] ∷ []) ≡ Ok blocks → blocks_from names place number lines ≡ Ok blocks
unfolding blocks_from words_said words_in
rest-earlier names [] place number blocks h =
    let a = unless-ok (fault_of place 0 (said_of names [])) number _ blocks h in
    ending-earlier place number blocks a.1
rest-earlier names (line ∷ lines) place number blocks h =
    let said : Said = said_of names line in
    let a = unless-ok (fault_of place (length line) said) number _ blocks h in
    rw a.0 (rest-earlier names lines (behind place said) (number + 1) blocks a.1)

fold-last : {A B : Type 0} (f : B → A → B) (z : B) (xs : List A) (x : A) → fold f z (xs ++ x ∷ []) ≡ f (fold f z xs) x
fold-last f z [] x = refl
fold-last f z (y ∷ xs) x = fold-last f (f z y) xs x

names-last : (lines : List (List ℕ)) → names_of (lines ++ [] ∷ []) ≡ names_of lines
unfolding words_in opened_by
names-last lines = fold-last (λ (names : List (List ℕ)) (line : List ℕ). with_opening names
    (opening_at line)) [] lines []

blocks-earlier : (more lines : List (List ℕ)) (blocks : List Block) → AreNearly more lines
    → blocks_of more ≡ Ok blocks → blocks_of lines ≡ Ok blocks
unfolding blocks_of
blocks-earlier more lines blocks (inl same) h = ap blocks_of (sym same) ∙ h
blocks-earlier more lines blocks (inr same) h =
    let whole : blocks_of (lines ++ [] ∷ []) ≡ Ok blocks = ap blocks_of (sym same) ∙ h in
    rest-earlier (names_of lines) lines (spec.start (length (names_of lines))) 1 blocks
    (ap (λ (names : List (List ℕ)). blocks_from names (spec.start (length names)) 1 (lines ++ [] ∷ []))
    (sym (names-last lines)) ∙ whole)

shorter : (most m n : ℕ) → m ≤ n → ltb most n ≡ false → ltb most m ≡ false
shorter most m n le e = of (ltb most m) refl
  where
    of : (b : Bool) → ltb most m ≡ b → ltb most m ≡ false
    of true t =
        let less : most < m = ltb-true most m t in
        let more : ltb most n ≡ true = lt-ltb most n (omega (arith, less, le)) in
        absurd cc
    of false t = t

-- a script's text reads the same without its last line feed
pub reads-opened : (bytes : List ℕ) (script : Script) → outcome (ended bytes) ≡ Ok script → outcome bytes ≡ Ok script
unfolding outcome
reads-opened bytes script h =
    let p = parts-of (ended bytes) script h in
    let size : length (ended bytes) ≡ length bytes + 1 = ended-length bytes in
    let short : ltb 1048576 (length bytes) ≡ false = shorter 1048576 (length bytes) (length (ended bytes)) (omega
    (arith, size)) p.1 in
    let utf8 : ltb (utf8_valid_len bytes) (length bytes) ≡ false = opened-utf8 bytes p.2 in
    let blocks : blocks_of (lines_of bytes) ≡ Ok p.0 =
    blocks-earlier (lines_of (ended bytes)) (lines_of bytes) p.0 (lines-nearly bytes) p.3 in
    rw (short, utf8, blocks) (ap (λ (s : Script). Ok s) p.4)

stop-is-none : (stop : ScriptStop) (script : Script) → (let r : Result Script ScriptStop =
    Err stop in r ≡ Ok script) → ⊥
stop-is-none stop script h = cc

-- a text without bytes is no script
pub none-empty : (script : Script) → outcome [] ≡ Ok script → ⊥
unfolding outcome blocks_of blocks_from start utf8_valid_len
none-empty script h = stop-is-none (At 1 faults.NoProc) script h
