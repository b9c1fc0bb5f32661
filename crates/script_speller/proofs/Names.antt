-- Names, sets of signals, operations and values: how what is read of a word is spelled.
use Rattle.std.proofs.Common.{◌≡◌, ℕ, suc, ◌+◌, ◌<◌, ◌≤◌, ℤ, Bool, true, false, not, cond, eqb, List, [], ◌∷◌, ◌++◌, length, map, get_or, take, drop, Option, Some, None, refl, sym, ap, subst, ◌∙◌, append_assoc, arith}
use Rattle.std.specs.Prelude.{IfSome, codes, bytes_eq, option_map, position}
use Rattle.std.specs.Fmt.{decimal, signed_decimal}
use Rattle.std.specs.List.{AllByRecursion, find, filter, flat_map, list_all, onto_first, slice_split, join_with_byte, position_or_len}
use Rattle.std.proofs.lemmas.Bool.{and_parts, not-true, eqb-true, eq-eqb, lt-ltb}
use Rattle.std.proofs.lemmas.List.{append-nil, length-append, take-append-drop, drop_more, take_at, drop_at}
use Rattle.std.proofs.lemmas.List.Quantifiers.{position-Some}
use Rattle.std.proofs.lemmas.List.Splits.{join_with_byte-slice_split}
use Rattle.std.proofs.lemmas.Slice.Eq.{bytes_eq-Decides}
use Rattle.pico_base.specs.declared.call.SemStep.{SemStep}
use Rattle.pico_base.specs.declared.signal.Sig.{Sig}
use Rattle.pico_base.specs.declared.signal.Sig.TheVariants.{Hup, Int, Quit, Kill, Usr1, Usr2, Pipe, Alrm, Term, Chld}
use Rattle.pico_base.specs.declared.signal.SigArg.{SigArg}
use Rattle.pico_base.specs.declared.signal.SigArg.TheVariants.{Zero, Is, Bad}
use Rattle.pico_base.specs.declared.signal.Act.{Act}
use Rattle.pico_base.specs.declared.signal.Act.TheVariants.{Dfl, Ign, Catch}
use Rattle.pico_base.specs.declared.signal.How.{How}
use Rattle.pico_base.specs.declared.signal.How.TheVariants.{Block, Unblock, SetMask}
use Rattle.pico_base.specs.declared.signal.PerSignal.{PerSignal}
use Rattle.pico_base.specs.Options.{◌>>=◌}
use Rattle.pico_base.specs.Signal.{at, put_at, everywhere, all_signals}
use Rattle.kernel_model.specs.Trace as trace
use Rattle.kernel_model.specs.Trace.{signal_name, action_name, how_name, set_text, signals_text, commas, values_text}
use Rattle.script_reader.specs.Words.{pieces}
use Rattle.script_reader.specs.Words.Stretch.{plain}
use Rattle.script_reader.specs.Parts as parts
use Rattle.script_reader.specs.Parts.{number, signed, signal, signal_argument, action, how, signal_set, signals_with, cut, each, step, added, values}
use Rattle.script_reader.proofs.Ranges.{if_bind, if_map, if_cond}
use Rattle.script_reader.proofs.Widths.{width, if_both, pieces_some}
use Rattle.text_fields.proofs.Numerals.{AreDigits}
use Rattle.script_speller.specs.Spelling.{step_word}
use Rattle.script_speller.proofs.Separated.{is_rest}
use Rattle.script_speller.proofs.Numbers.{Spelt, is_argument, spelt_from, if_weaker, number_spelt, number_digits, signed_spelt, signed_rest, digits_argument, digits_rest, digit_word, rest_append}

bytes_same : (a b : List ℕ) → bytes_eq a b ≡ true → a ≡ b
bytes_same a b e = (bytes_eq-Decides a b).0 e

-- ---- names of a table

-- what a search finds passes the test
pub found : {A : Type 0} (p : A → Bool) (xs : List A) → IfSome (find p xs) (λ x. p x ≡ true)
found p [] = tt
found p (x ∷ xs) = if_cond (p x) (Some x) (find p xs) (λ y. p y ≡ true) (λ t. t) (λ _. found p xs)

signal_word : (g : Sig) → is_argument (signal_name g) ≡ true
signal_word Hup = refl
signal_word Int = refl
signal_word Quit = refl
signal_word Kill = refl
signal_word Usr1 = refl
signal_word Usr2 = refl
signal_word Pipe = refl
signal_word Alrm = refl
signal_word Term = refl
signal_word Chld = refl

action_word : (a : Act) → is_argument (action_name a) ≡ true
action_word Dfl = refl
action_word Ign = refl
action_word Catch = refl

how_word : (h : How) → is_argument (how_name h) ≡ true
how_word Block = refl
how_word Unblock = refl
how_word SetMask = refl

-- a signal's word is its name
pub signal_spelt : (w : List ℕ) → IfSome (signal w) (λ g. Spelt w (signal_name g))
unfolding signal
signal_spelt w =
    if_weaker (find (λ g. bytes_eq (signal_name g) w) all_signals) (λ g. bytes_eq (signal_name g) w ≡ true)
    (λ g. Spelt w (signal_name g)) (found (λ g. bytes_eq (signal_name g) w) all_signals)
    (λ g h. record { same = sym (bytes_same (signal_name g) w h); argument = signal_word g })

-- an action's word is its name
pub action_spelt : (w : List ℕ) → IfSome (action w) (λ a. Spelt w (action_name a))
unfolding action
action_spelt w =
    if_weaker (find (λ a. bytes_eq (action_name a) w) (Dfl ∷ Ign ∷ Catch ∷ []))
    (λ a. bytes_eq (action_name a) w ≡ true) (λ a. Spelt w (action_name a))
    (found (λ a. bytes_eq (action_name a) w) (Dfl ∷ Ign ∷ Catch ∷ []))
    (λ a h. record { same = sym (bytes_same (action_name a) w h); argument = action_word a })

-- the word that tells how a mask changes is its name
pub how_spelt : (w : List ℕ) → IfSome (how w) (λ h. Spelt w (how_name h))
unfolding how
how_spelt w =
    if_weaker (find (λ h. bytes_eq (how_name h) w) (Block ∷ Unblock ∷ SetMask ∷ []))
    (λ h. bytes_eq (how_name h) w ≡ true) (λ h. Spelt w (how_name h))
    (found (λ h. bytes_eq (how_name h) w) (Block ∷ Unblock ∷ SetMask ∷ []))
    (λ h e. record { same = sym (bytes_same (how_name h) w e); argument = how_word h })

-- the word of a signal, `0` or `badsig` is its name
pub signal_argument_spelt : (w : List ℕ) → IfSome (signal_argument w) (λ g. Spelt w (trace.signal_argument g))
unfolding signal_argument
signal_argument_spelt w =
    let Named : SigArg → Type 0 = λ g. Spelt w (trace.signal_argument g) in
    if_cond (bytes_eq w (codes "0")) (Some Zero)
    (cond (bytes_eq w (codes "badsig")) (Some Bad) (option_map Is (signal w))) Named
    (λ t. record { same = bytes_same w (codes "0") t; argument = refl })
    (λ _. if_cond (bytes_eq w (codes "badsig")) (Some Bad) (option_map Is (signal w)) Named
    (λ t. record { same = bytes_same w (codes "badsig") t; argument = refl })
    (λ _. if_map (signal w) Is (λ g. Spelt w (signal_name g)) Named (signal_spelt w) (λ g h. h)))

-- ---- sets of signals

signal_again : (g : Sig) → signal (signal_name g) ≡ Some g
unfolding signal
signal_again Hup = refl
signal_again Int = refl
signal_again Quit = refl
signal_again Kill = refl
signal_again Usr1 = refl
signal_again Usr2 = refl
signal_again Pipe = refl
signal_again Alrm = refl
signal_again Term = refl
signal_again Chld = refl

abbrev names : List Sig → List (List ℕ)
names gs = map signal_name gs

-- the signal of one field, and the others
one_member : (b : Bool) (set full : PerSignal Bool) (g : Sig) (gs : List Sig) → at set g ≡ false
    → (b ≡ true → put_at set g true ≡ full) → (b ≡ false → set ≡ full)
    → signals_with set (names (cond b (g ∷ gs) gs)) ≡ signals_with full (names gs)
unfolding signals_with
one_member true set full g gs new with_it without = rw (signal_again g, new, with_it refl) refl
one_member false set full g gs new with_it without = ap (λ s. signals_with s (names gs)) (without refl)

abbrev of_ten : Bool → Bool → Bool → Bool → Bool → Bool → Bool → Bool → Bool → Bool → PerSignal Bool
of_ten a b c d e f g h i j =
    record { hup = a; int = b; quit = c; kill = d; usr1 = e; usr2 = f; pipe = g; alrm = h; term = i; chld = j }

members_again : (s : PerSignal Bool)
    → signals_with (everywhere false) (names (filter (at s) all_signals)) ≡ Some s
unfolding signals_with
members_again s =
    let f : Bool = false in
    one_member s.hup _ (of_ten s.hup f f f f f f f f f) Hup _ refl (λ e. rw e refl) (λ e. rw e refl)
    ∙ one_member s.int _ (of_ten s.hup s.int f f f f f f f f) Int _ refl (λ e. rw e refl) (λ e. rw e refl)
    ∙ one_member s.quit _ (of_ten s.hup s.int s.quit f f f f f f f) Quit _ refl (λ e. rw e refl) (λ e. rw e refl)
    ∙ one_member s.kill _ (of_ten s.hup s.int s.quit s.kill f f f f f f) Kill _ refl (λ e. rw e refl) (λ e. rw e refl)
    ∙ one_member s.usr1 _ (of_ten s.hup s.int s.quit s.kill s.usr1 f f f f f) Usr1 _ refl (λ e. rw e refl)
    (λ e. rw e refl)
    ∙ one_member s.usr2 _ (of_ten s.hup s.int s.quit s.kill s.usr1 s.usr2 f f f f) Usr2 _ refl (λ e. rw e refl)
    (λ e. rw e refl)
    ∙ one_member s.pipe _ (of_ten s.hup s.int s.quit s.kill s.usr1 s.usr2 s.pipe f f f) Pipe _ refl (λ e. rw e refl)
    (λ e. rw e refl)
    ∙ one_member s.alrm _ (of_ten s.hup s.int s.quit s.kill s.usr1 s.usr2 s.pipe s.alrm f f) Alrm _ refl
    (λ e. rw e refl) (λ e. rw e refl)
    ∙ one_member s.term _ (of_ten s.hup s.int s.quit s.kill s.usr1 s.usr2 s.pipe s.alrm s.term f) Term _ refl
    (λ e. rw e refl) (λ e. rw e refl)
    ∙ one_member s.chld _ s Chld [] refl (λ e. rw (← e) refl) (λ e. rw (← e) refl)

-- ---- pieces between commas

abbrev is_comma : ℕ → Bool
is_comma b = eqb b 44

abbrev has_no_comma : List ℕ → Bool
has_no_comma xs = list_all (λ b. not (is_comma b)) xs

split_front : (xs ys : List ℕ) (ws : List (List ℕ)) → has_no_comma xs ≡ true → slice_split is_comma ys ≡ [] ∷ ws
    → slice_split is_comma (xs ++ ys) ≡ xs ∷ ws
split_front [] ys ws h e = e
split_front (x ∷ xs) ys ws h e =
    let p = and_parts (not (is_comma x)) (has_no_comma xs) h in
    rw (not-true (is_comma x) p.0, split_front xs ys ws p.1 e) refl

signal_no_comma : (g : Sig) → has_no_comma (signal_name g) ≡ true
signal_no_comma Hup = refl
signal_no_comma Int = refl
signal_no_comma Quit = refl
signal_no_comma Kill = refl
signal_no_comma Usr1 = refl
signal_no_comma Usr2 = refl
signal_no_comma Pipe = refl
signal_no_comma Alrm = refl
signal_no_comma Term = refl
signal_no_comma Chld = refl

abbrev more_text : Sig → List ℕ
more_text g = 44 ∷ signal_name g

split_behind : (gs : List Sig) → slice_split is_comma (flat_map more_text gs) ≡ [] ∷ names gs
split_behind [] = refl
split_behind (g ∷ gs) =
    ap (λ (ws : List (List ℕ)). [] ∷ ws)
    (split_front (signal_name g) (flat_map more_text gs) (names gs) (signal_no_comma g) (split_behind gs))

pieces_again : (g : Sig) (gs : List Sig) → pieces 44 (signals_text (g ∷ gs)) ≡ names (g ∷ gs)
unfolding pieces
pieces_again g gs =
    split_front (signal_name g) (flat_map more_text gs) (names gs) (signal_no_comma g) (split_behind gs)

not_none : (g : Sig) (rest : List ℕ) → bytes_eq (signal_name g ++ rest) (codes "none") ≡ false
not_none Hup rest = refl
not_none Int rest = refl
not_none Quit rest = refl
not_none Kill rest = refl
not_none Usr1 rest = refl
not_none Usr2 rest = refl
not_none Pipe rest = refl
not_none Alrm rest = refl
not_none Term rest = refl
not_none Chld rest = refl

listed_again : (s : PerSignal Bool) (gs : List Sig) → signals_with (everywhere false) (names gs) ≡ Some s
    → signal_set (signals_text gs) ≡ Some s
unfolding signal_set signals_with
listed_again s [] e = e
listed_again s (g ∷ gs) e =
    rw (not_none g (flat_map more_text gs)) (ap (signals_with (everywhere false)) (pieces_again g gs) ∙ e)

-- a set's text is read as the set
pub set_again : (s : PerSignal Bool) → signal_set (set_text s) ≡ Some s
unfolding set_text
set_again s = listed_again s (filter (at s) all_signals) (members_again s)

signal_front : (g : Sig) (rest : List ℕ) → is_rest plain rest ≡ true → is_argument (signal_name g ++ rest) ≡ true
signal_front Hup rest h = h
signal_front Int rest h = h
signal_front Quit rest h = h
signal_front Kill rest h = h
signal_front Usr1 rest h = h
signal_front Usr2 rest h = h
signal_front Pipe rest h = h
signal_front Alrm rest h = h
signal_front Term rest h = h
signal_front Chld rest h = h

signal_rest : (g : Sig) (rest : List ℕ) → is_rest plain rest ≡ true → is_rest plain (signal_name g ++ rest) ≡ true
signal_rest Hup rest h = h
signal_rest Int rest h = h
signal_rest Quit rest h = h
signal_rest Kill rest h = h
signal_rest Usr1 rest h = h
signal_rest Usr2 rest h = h
signal_rest Pipe rest h = h
signal_rest Alrm rest h = h
signal_rest Term rest h = h
signal_rest Chld rest h = h

more_rest : (gs : List Sig) → is_rest plain (flat_map more_text gs) ≡ true
more_rest [] = refl
more_rest (g ∷ gs) = signal_rest g (flat_map more_text gs) (more_rest gs)

signals_word : (gs : List Sig) → is_argument (signals_text gs) ≡ true
signals_word [] = refl
signals_word (g ∷ gs) = signal_front g (flat_map more_text gs) (more_rest gs)

-- and is a word
pub set_word : (s : PerSignal Bool) → is_argument (set_text s) ≡ true
unfolding set_text
set_word s = signals_word (filter (at s) all_signals)

-- ---- the length of a set's text

abbrev size : Bool → ℕ → ℕ
size b n = cond b n 0

-- the bytes of its signals' names, and one for each
abbrev weight : PerSignal Bool → ℕ
weight s =
    size s.hup 4 + (size s.int 4 + (size s.quit 5 + (size s.kill 5 + (size s.usr1 5 + (size s.usr2 5 + (size s.pipe 5
    + (size s.alrm 5 + (size s.term 5 + (size s.chld 5 + 0)))))))))

name_width : (b : Bool) (g : Sig) (gs : List Sig) (n rest : ℕ) → length (signal_name g) + 1 ≡ n
    → width (names gs) ≡ rest → width (names (cond b (g ∷ gs) gs)) ≡ size b n + rest
name_width true g gs n rest e h = omega (arith, e, h)
name_width false g gs n rest e h = omega (arith, h)

members_width : (s : PerSignal Bool) → width (names (filter (at s) all_signals)) ≡ weight s
members_width s =
    name_width s.hup Hup _ 4 _ refl (name_width s.int Int _ 4 _ refl (name_width s.quit Quit _ 5 _ refl
    (name_width s.kill Kill _ 5 _ refl (name_width s.usr1 Usr1 _ 5 _ refl (name_width s.usr2 Usr2 _ 5 _ refl
    (name_width s.pipe Pipe _ 5 _ refl (name_width s.alrm Alrm _ 5 _ refl (name_width s.term Term _ 5 _ refl
    (name_width s.chld Chld [] 5 0 refl refl)))))))))

one_heavier : (set : PerSignal Bool) (g : Sig) → at set g ≡ false
    → weight (put_at set g true) ≡ length (signal_name g) + 1 + weight set
one_heavier set Hup e = rw e (omega arith)
one_heavier set Int e = rw e (omega arith)
one_heavier set Quit e = rw e (omega arith)
one_heavier set Kill e = rw e (omega arith)
one_heavier set Usr1 e = rw e (omega arith)
one_heavier set Usr2 e = rw e (omega arith)
one_heavier set Pipe e = rw e (omega arith)
one_heavier set Alrm e = rw e (omega arith)
one_heavier set Term e = rw e (omega arith)
one_heavier set Chld e = rw e (omega arith)

signals_weight : (set : PerSignal Bool) (ws : List (List ℕ))
    → IfSome (signals_with set ws) (λ s. width ws + weight set ≡ weight s)
unfolding signals_with
signals_weight set [] = omega arith
signals_weight set (w ∷ ws) =
    let P : PerSignal Bool → Type 0 = λ s. width (w ∷ ws) + weight set ≡ weight s in
    if_bind (signal w) (λ g. cond (at set g) None (signals_with (put_at set g true) ws)) (λ g. Spelt w (signal_name g))
    P (signal_spelt w)
    (λ g h. if_cond (at set g) None (signals_with (put_at set g true) ws) P (λ _. tt)
    (λ t. if_weaker (signals_with (put_at set g true) ws) (λ s. width ws + weight (put_at set g true) ≡ weight s) P
    (signals_weight (put_at set g true) ws)
    (λ s k. omega (arith, k, one_heavier set g t, ap length h.same))))

-- one byte more at the front of words
pub onto_width : (b n : ℕ) (ws : List (List ℕ)) → width ws ≤ n + 1 → width (onto_first b ws) ≤ suc n + 1
onto_width b n [] h = omega arith
onto_width b n (w ∷ ws) h = omega (arith, h)

pieces_width : (bytes : List ℕ) → width (slice_split is_comma bytes) ≤ length bytes + 1
pieces_width [] = omega arith
pieces_width (b ∷ bytes) = of (is_comma b) (pieces_width bytes)
  where
    of : (c : Bool) → width (slice_split is_comma bytes) ≤ length bytes + 1
        → width (cond c ([] ∷ slice_split is_comma bytes) (onto_first b (slice_split is_comma bytes)))
        ≤ length (b ∷ bytes) + 1
    of true h = omega (arith, h)
    of false h = onto_width b (length bytes) (slice_split is_comma bytes) h

some_width : (ws : List (List ℕ)) → 1 ≤ length ws → 1 ≤ width ws
some_width [] h = absurd (omega (arith, h))
some_width (w ∷ ws) h = omega arith

behind_comma_width : (gs : List Sig) → length (flat_map more_text gs) ≡ width (names gs)
behind_comma_width [] = refl
behind_comma_width (g ∷ gs) =
    omega (arith, length-append (signal_name g) (flat_map more_text gs), behind_comma_width gs)

listed_short : (gs : List Sig) (n : ℕ) → 1 ≤ width (names gs) → width (names gs) ≤ n + 1 → length (signals_text gs) ≤ n
listed_short [] n some h = absurd (omega (arith, some))
listed_short (g ∷ gs) n some h =
    omega (arith, h, length-append (signal_name g) (flat_map more_text gs), behind_comma_width gs)

set_short_from : (w : List ℕ) (s : PerSignal Bool) → width (pieces 44 w) + 0 ≡ weight s
    → length (set_text s) ≤ length w
unfolding pieces set_text
set_short_from w s e =
    let gs : List Sig = filter (at s) all_signals in
    let same : width (names gs) ≡ weight s = members_width s in
    let some : 1 ≤ width (slice_split is_comma w) = some_width (slice_split is_comma w) (pieces_some 44 w) in
    listed_short gs (length w) (omega (arith, same, e, some)) (omega (arith, same, e, pieces_width w))

none_short : (w : List ℕ) → w ≡ codes "none" → length (set_text (everywhere false)) ≤ length w
unfolding set_text
none_short w e = omega (arith, ap length e)

-- no word of a set is shorter than its text
pub set_short : (w : List ℕ) → IfSome (signal_set w) (λ s. length (set_text s) ≤ length w)
unfolding signal_set
set_short w =
    let P : PerSignal Bool → Type 0 = λ s. length (set_text s) ≤ length w in
    if_cond (bytes_eq w (codes "none")) (Some (everywhere false)) (signals_with (everywhere false) (pieces 44 w)) P
    (λ t. none_short w (bytes_same w (codes "none") t))
    (λ _. if_weaker (signals_with (everywhere false) (pieces 44 w)) (λ s. width (pieces 44 w) + 0 ≡ weight s) P
    (signals_weight (everywhere false) (pieces 44 w)) (λ s h. set_short_from w s h))

-- ---- operations

-- a word that is cut in two
pub cut_spelt : (byte : ℕ) (w : List ℕ) → IfSome (cut byte w) (λ p. w ≡ p.0 ++ byte ∷ p.1)
unfolding cut
cut_spelt byte w = of (position (λ b. eqb b byte) w) refl
  where
    of : (o : Option ℕ) → position (λ b. eqb b byte) w ≡ o
        → IfSome {T = List ℕ × List ℕ} (option_map (λ k. (take k w, drop (k + 1) w)) o) (λ p. w ≡ p.0 ++ byte ∷ p.1)
    of None e = tt
    of (Some k) e =
        let h = position-Some (λ b. eqb b byte) w k 0 e in
        let here : get_or w k 0 ≡ byte = eqb-true (get_or w k 0) byte h.1 in
        sym (take-append-drop k w)
        ∙ ap (λ (ys : List ℕ). take k w ++ ys)
        (drop_more w k 0 h.0 ∙ ap (λ (b : ℕ). b ∷ drop (k + 1) w) here)

place_of : (byte : ℕ) (xs ys : List ℕ) → list_all (λ b. not (eqb b byte)) xs ≡ true
    → position_or_len (λ b. eqb b byte) (xs ++ byte ∷ ys) ≡ length xs
place_of byte [] ys h = rw (eq-eqb byte byte refl) refl
place_of byte (x ∷ xs) ys h =
    let p = and_parts (not (eqb x byte)) (list_all (λ b. not (eqb b byte)) xs) h in
    rw (not-true (eqb x byte) p.0, place_of byte xs ys p.1) (omega arith)

-- what stands before a byte and what behind it
pub cut_again : (byte : ℕ) (xs ys : List ℕ) → list_all (λ b. not (eqb b byte)) xs ≡ true
    → cut byte (xs ++ byte ∷ ys) ≡ Some (xs, ys)
unfolding cut
cut_again byte xs ys h =
    let within : length xs < length (xs ++ byte ∷ ys) = omega (arith, length-append xs (byte ∷ ys)) in
    let front : take (length xs) (xs ++ byte ∷ ys) ≡ xs = take_at xs (byte ∷ ys) (length xs) refl in
    let more : length (xs ++ byte ∷ []) ≡ length xs + 1 = length-append xs (byte ∷ []) in
    let rest : drop (length xs + 1) (xs ++ byte ∷ ys) ≡ ys =
    ap (drop (length xs + 1)) (sym (append_assoc xs (byte ∷ []) ys))
    ∙ drop_at (xs ++ byte ∷ []) ys (length xs + 1) more in
    rw (place_of byte xs ys h, lt-ltb (length xs) (length (xs ++ byte ∷ ys)) within, front, rest) refl

abbrev nowait_text : Bool → List ℕ
nowait_text b = cond b (codes ":nowait") []

abbrev IsAdded : List ℕ → ℤ × Bool → Type 0
IsAdded w a = (w ≡ signed_decimal a.0 ++ nowait_text a.1) × (is_rest plain w ≡ true)

signed_both : (w : List ℕ) → IfSome (signed 65535 w) (λ z. (w ≡ signed_decimal z) × (is_rest plain w ≡ true))
signed_both w =
    if_weaker (signed 65535 w) (λ z. Spelt w (signed_decimal z) × (is_rest plain w ≡ true))
    (λ z. (w ≡ signed_decimal z) × (is_rest plain w ≡ true))
    (if_both (signed 65535 w) (λ z. Spelt w (signed_decimal z)) (λ z. is_rest plain w ≡ true)
    (signed_spelt 65535 w (omega arith)) (signed_rest 65535 w)) (λ z h. (h.0.same, h.1))

added_from_spelt : (w : List ℕ) (o : Option (List ℕ × List ℕ)) → IfSome o (λ p. w ≡ p.0 ++ 58 ∷ p.1)
    → IfSome (parts.added_from o w) (IsAdded w)
added_from_spelt w None h =
    if_map (signed 65535 w) (λ add. (add, false)) (λ z. (w ≡ signed_decimal z) × (is_rest plain w ≡ true)) (IsAdded w)
    (signed_both w) (λ z k. (k.0 ∙ sym (append-nil (signed_decimal z)), k.1))
added_from_spelt w (Some p) h =
    if_bind (signed 65535 p.0) (λ add. cond (bytes_eq p.1 (codes "nowait")) (Some (add, true)) None)
    (λ z. (p.0 ≡ signed_decimal z) × (is_rest plain p.0 ≡ true)) (IsAdded w) (signed_both p.0)
    (λ z k. if_cond (bytes_eq p.1 (codes "nowait")) (Some (z, true)) None (IsAdded w)
    (λ t. let last : p.1 ≡ codes "nowait" = bytes_same p.1 (codes "nowait") t in
    let whole : w ≡ p.0 ++ codes ":nowait" = h ∙ ap (λ (x : List ℕ). p.0 ++ 58 ∷ x) last in (
      whole ∙ ap (λ (x : List ℕ). x ++ codes ":nowait") k.0,
      subst (λ x. is_rest plain x ≡ true) (sym whole) (rest_append p.0 (codes ":nowait") k.1 refl),
    ))
    (λ _. tt))

added_spelt : (w : List ℕ) → IfSome (added w) (IsAdded w)
unfolding added
added_spelt w = added_from_spelt w (cut 58 w) (cut_spelt 58 w)

abbrev IsIndex : List ℕ → ℕ → Type 0
IsIndex w n = Spelt w (decimal n) × (AreDigits w × (0 < length w))

index_spelt : (w : List ℕ) → IfSome (number 65535 w) (IsIndex w)
index_spelt w =
    if_both (number 65535 w) (λ n. Spelt w (decimal n)) (λ n. AreDigits w × (0 < length w))
    (number_spelt 65535 w (omega arith)) (number_digits 65535 w)

-- an operation's word is its text
pub step_spelt : (w : List ℕ) → IfSome (step w) (λ s. Spelt w (step_word s))
unfolding step
step_spelt w =
    let P : SemStep → Type 0 = λ s. Spelt w (step_word s) in
    if_bind (cut 58 w) (λ p. number 65535 p.0 >>= λ num. added p.1 >>= λ a.
    Some (record { num = num; add = a.0; nowait = a.1 })) (λ p. w ≡ p.0 ++ 58 ∷ p.1) P (cut_spelt 58 w)
    (λ p split. if_bind (number 65535 p.0)
    (λ num. added p.1 >>= λ a. Some (record { num = num; add = a.0; nowait = a.1 })) (IsIndex p.0) P (index_spelt p.0)
    (λ num n. if_bind (added p.1) (λ a. Some (record { num = num; add = a.0; nowait = a.1 })) (IsAdded p.1) P
    (added_spelt p.1)
    (λ a k. spelt_from w (decimal num ++ 58 ∷ (signed_decimal a.0 ++ nowait_text a.1))
    (split ∙ ap (λ (x : List ℕ). p.0 ++ 58 ∷ x) k.0
    ∙ ap (λ (x : List ℕ). x ++ 58 ∷ (signed_decimal a.0 ++ nowait_text a.1)) n.0.same)
    (subst (λ x. is_argument x ≡ true) (sym split) (digits_argument p.0 (58 ∷ p.1) n.1.0 n.1.1 k.1)))))

-- ---- many words

module _ {B : Type 0} (f : List ℕ → Option B) (text : B → List ℕ) (Q : List ℕ → Type 0) where
  abbrev pub AreSpelt : List (List ℕ) → List B → Type 0
  AreSpelt ws ys = (ws ≡ map text ys) × AllByRecursion Q ws

  pub each_spelt : ((w : List ℕ) → IfSome (f w) (λ y. (w ≡ text y) × Q w)) → (ws : List (List ℕ))
      → IfSome (each f ws) (AreSpelt ws)
  unfolding each
  each_spelt h [] = (refl, tt)
  each_spelt h (w ∷ ws) =
      if_bind (f w) (λ y. option_map (λ ys. y ∷ ys) (each f ws)) (λ y. (w ≡ text y) × Q w) (AreSpelt (w ∷ ws)) (h w)
      (λ y one. if_map (each f ws) (λ ys. y ∷ ys) (AreSpelt ws) (AreSpelt (w ∷ ws)) (each_spelt h ws)
      (λ ys more. (
        ap (λ (x : List ℕ). x ∷ ws) one.0 ∙ ap (λ (xs : List (List ℕ)). text y ∷ xs) more.0,
        (one.1, more.1),
      )))

-- a word that can stand behind a call's name
abbrev pub IsArgument : List ℕ → Type 0
IsArgument w = is_argument w ≡ true

-- the words of operations
pub steps_spelt : (ws : List (List ℕ)) → IfSome (each step ws) (AreSpelt step step_word IsArgument ws)
steps_spelt ws =
    each_spelt step step_word IsArgument
    (λ w. if_weaker (step w) (λ s. Spelt w (step_word s)) (λ s. (w ≡ step_word s) × IsArgument w) (step_spelt w)
    (λ s h. (h.same, subst IsArgument (sym h.same) h.argument))) ws

-- ---- values

abbrev IsNumeralWord : List ℕ → Type 0
IsNumeralWord w = AreDigits w × (0 < length w)

joined_decimals : (vs : List ℕ) → join_with_byte 44 (map decimal vs) ≡ values_text vs
joined_decimals [] = refl
joined_decimals (v ∷ []) = sym (append-nil (decimal v))
joined_decimals (v ∷ u ∷ vs) = ap (λ (x : List ℕ). decimal v ++ 44 ∷ x) (joined_decimals (u ∷ vs))

joined_rest : (ws : List (List ℕ)) → AllByRecursion IsNumeralWord ws → is_rest plain (join_with_byte 44 ws) ≡ true
joined_rest [] h = refl
joined_rest (w ∷ []) h = digits_rest w h.0.0
joined_rest (w ∷ x ∷ ws) h =
    rest_append w (44 ∷ join_with_byte 44 (x ∷ ws)) (digits_rest w h.0.0) (joined_rest (x ∷ ws) h.1)

joined_word : (ws : List (List ℕ)) → 1 ≤ length ws → AllByRecursion IsNumeralWord ws
    → is_argument (join_with_byte 44 ws) ≡ true
joined_word [] some h = absurd (omega (arith, some))
joined_word (w ∷ []) some h = digit_word w h.0.0 h.0.1
joined_word (w ∷ x ∷ ws) some h =
    digits_argument w (44 ∷ join_with_byte 44 (x ∷ ws)) h.0.0 h.0.1 (joined_rest (x ∷ ws) h.1)

-- the word of values joined by commas
pub values_spelt : (w : List ℕ) → IfSome (values w) (λ vs. Spelt w (values_text vs))
unfolding values pieces
values_spelt w =
    let ws : List (List ℕ) = slice_split is_comma w in
    let whole : join_with_byte 44 ws ≡ w = join_with_byte-slice_split 44 w in
    if_weaker (each (number 65535) ws) (AreSpelt (number 65535) decimal IsNumeralWord ws)
    (λ vs. Spelt w (values_text vs))
    (each_spelt (number 65535) decimal IsNumeralWord
    (λ x. if_weaker (number 65535 x) (IsIndex x) (λ n. (x ≡ decimal n) × IsNumeralWord x) (index_spelt x)
    (λ n h. (h.0.same, h.1))) ws)
    (λ vs h. spelt_from w (values_text vs)
    (sym whole ∙ ap (join_with_byte 44) h.0 ∙ joined_decimals vs)
    (subst IsArgument whole (joined_word ws (pieces_some 44 w) h.1)))
