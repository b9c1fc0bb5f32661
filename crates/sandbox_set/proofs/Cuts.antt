-- Bytes cut in front of a line: what lines stand on both sides, and that both sides stay UTF-8.
use Rattle.std.proofs.Common.{◌≡◌, ◌⊎◌, inl, inr, ℕ, zero, suc, ◌+◌, ◌-◌, ◌<◌, ◌≤◌, Bool, true, false, cond, eqb, List, [], ◌∷◌, ◌++◌, length, get_or, take, drop, refl, sym, ap, subst, ◌∙◌, arith}
use Rattle.std.specs.List.{onto_first}
use Rattle.std.specs.Str.{IsUtf8, is_utf8, IsCharBoundary}
use Rattle.std.specs.Str.Lossy.{valid_len_up_to, utf8_valid_len}
use Rattle.std.proofs.lemmas.Bool.{eqb-true}
use Rattle.std.proofs.lemmas.List.{append_assoc, append-nil, length-append, take_at, drop_at, take_all}
use Rattle.std.proofs.lemmas.Str.{IsUtf8-from_is_utf8, IsUtf8-nil, utf8_valid_len-IsUtf8, IsUtf8-take, IsUtf8-drop, IsCharBoundary-after_ascii}
use Rattle.script_reader.specs.Words.{lines_of}
use Rattle.sandbox_set.specs.Boxes.{ends_script, ends_sandbox, script_lines}
use Rattle.sandbox_set.specs.Parts.{IsText, IsPart, is_closed, Closes}

-- ---- lines of joined bytes

abbrev pub fed : List ℕ → List ℕ
fed xs = xs ++ 10 ∷ []

onto_some : (x : ℕ) (l : List ℕ) (ls ms : List (List ℕ)) → onto_first x ((l ∷ ls) ++ ms) ≡ onto_first x (l ∷ ls) ++ ms
onto_some x l ls ms = refl

-- bytes that end in a line feed have a line
some_line : (xs : List ℕ) → (l : List ℕ) × (ls : List (List ℕ)) × (lines_of (fed xs) ≡ l ∷ ls)
some_line [] = ([], [], refl)
some_line (x ∷ xs) = some_step (eqb x 10) x xs refl (some_line xs)
  where
    some_step : (b : Bool) (x : ℕ) (xs : List ℕ) → eqb x 10 ≡ b
        → (l : List ℕ) × (ls : List (List ℕ)) × (lines_of (fed xs) ≡ l ∷ ls)
        → (l : List ℕ) × (ls : List (List ℕ)) × (lines_of (x ∷ fed xs) ≡ l ∷ ls)
    some_step true x xs e again = ([], lines_of (fed xs), rw e refl)
    some_step false x xs e again = (x ∷ again.0, again.1, rw (e, again.2) refl)

feed_step : (b : Bool) (x : ℕ) (xs ys : List ℕ) → eqb x 10 ≡ b
    → lines_of (fed xs ++ ys) ≡ lines_of (fed xs) ++ lines_of ys
    → lines_of (x ∷ (fed xs ++ ys)) ≡ lines_of (x ∷ fed xs) ++ lines_of ys
feed_step true x xs ys e h = rw (e, h) refl
feed_step false x xs ys e h =
    let some = some_line xs in
    rw (e, h, some.2) refl

-- behind a line feed lines go on by themselves
pub lines_behind_feed : (xs ys : List ℕ) → lines_of (fed xs ++ ys) ≡ lines_of (fed xs) ++ lines_of ys
lines_behind_feed [] ys = refl
lines_behind_feed (x ∷ xs) ys = feed_step (eqb x 10) x xs ys refl (lines_behind_feed xs ys)

-- ---- one line more

-- bytes that end in a line feed, or none
abbrev pub Whole : List ℕ → Type 0
Whole front = (front ≡ []) ⊎ ((xs : List ℕ) × (front ≡ fed xs))

lines_joined : (front ys : List ℕ) → Whole front → lines_of (front ++ ys) ≡ lines_of front ++ lines_of ys
lines_joined front ys (inl e) = rw e refl
lines_joined front ys (inr (xs, e)) = rw e (lines_behind_feed xs ys)

not_onto : (x : ℕ) (ls : List (List ℕ)) → onto_first x ls ≡ [] → ⊥
not_onto x [] e = cc
not_onto x (l ∷ ls) e = cc

-- a text without a line is empty
pub no_bytes : (xs : List ℕ) → lines_of xs ≡ [] → xs ≡ []
no_bytes [] e = refl
no_bytes (x ∷ xs) e = no_step (eqb x 10) x xs refl e
  where
    no_step : (b : Bool) (x : ℕ) (xs : List ℕ) → eqb x 10 ≡ b → lines_of (x ∷ xs) ≡ [] → x ∷ xs ≡ []
    no_step true x xs b e = let f : [] ∷ lines_of xs ≡ [] = rw b at e in absurd cc
    no_step false x xs b e = absurd (not_onto x (lines_of xs) (rw b at e))

-- the bytes of the first line with its line feed, and what follows; the last line may lack it
pub record IsFront (rest line passed after : List ℕ) : Type 0 where
  pub parts : rest ≡ passed ++ after
  pub alone : lines_of passed ≡ line ∷ []
  pub whole : Whole passed ⊎ (after ≡ [])

abbrev FirstParts : List ℕ → List ℕ → Type 0
FirstParts rest line =
    ((rest ≡ fed line ++ drop (length line + 1) rest) × (lines_of (fed line) ≡ line ∷ []))
    ⊎ ((rest ≡ line) × (drop (length line + 1) rest ≡ []))

more_is : (n : ℕ) → suc n + 1 ≡ suc (n + 1)
more_is n = omega arith

step_parts : (x : ℕ) (xs line : List ℕ) → eqb x 10 ≡ false → FirstParts xs line → FirstParts (x ∷ xs) (x ∷ line)
step_parts x xs line b (inl (e, f)) =
    inl (rw (more_is (length line)) (ap (λ ys. x ∷ ys) e), rw (b, f) refl)
step_parts x xs line b (inr (e, f)) = inr (ap (λ ys. x ∷ ys) e, rw (more_is (length line)) f)

first_parts : (xs line : List ℕ) (lines : List (List ℕ)) → lines_of xs ≡ line ∷ lines → FirstParts xs line
first_parts [] line lines e = absurd cc
first_parts (x ∷ xs) line lines e =
    first_step (eqb x 10) (lines_of xs) x xs line lines refl refl e (first_parts xs)
  where
    first_step : (b : Bool) (ls : List (List ℕ)) (x : ℕ) (xs line : List ℕ) (lines : List (List ℕ)) → eqb x 10 ≡ b
        → lines_of xs ≡ ls → lines_of (x ∷ xs) ≡ line ∷ lines
        → ((m : List ℕ) (ms : List (List ℕ)) → lines_of xs ≡ m ∷ ms → FirstParts xs m)
        → FirstParts (x ∷ xs) line
    first_step true ls x xs line lines b is e again =
        let f : [] ∷ lines_of xs ≡ line ∷ lines = rw b at e in
        let none : [] ≡ line = cc in
        let feed : x ≡ 10 = eqb-true x 10 b in
        subst (λ l. FirstParts (x ∷ xs) l) none (inl (ap (λ y. y ∷ xs) feed, refl))
    first_step false [] x xs line lines b is e again =
        let f : (x ∷ []) ∷ [] ≡ line ∷ lines = rw (b, is) at e in
        let one : x ∷ [] ≡ line = cc in
        subst (λ l. FirstParts (x ∷ xs) l) one (inr (ap (λ ys. x ∷ ys) (no_bytes xs is), ap (drop 1) (no_bytes xs is)))
    first_step false (m ∷ ms) x xs line lines b is e again =
        let f : (x ∷ m) ∷ ms ≡ line ∷ lines = rw (b, is) at e in
        let one : x ∷ m ≡ line = cc in
        subst (λ l. FirstParts (x ∷ xs) l) one (step_parts x xs m b (again m ms is))

-- where a text is cut behind its first line
pub first_front : (rest line after : List ℕ) → lines_of rest ≡ line ∷ lines_of after
    → after ≡ drop (length line + 1) rest → (passed : List ℕ) × IsFront rest line passed after
first_front rest line after lines behind = front_of (first_parts rest line (lines_of after) lines)
  where
    front_of : FirstParts rest line → (passed : List ℕ) × IsFront rest line passed after
    front_of (inl (e, f)) = (
      fed line,
      record {
        parts = e ∙ ap (λ ys. fed line ++ ys) (sym behind);
        alone = f;
        whole = inl (inr (line, refl));
      },
    )
    front_of (inr (e, f)) =
        let none : after ≡ [] = behind ∙ f in (
          line,
          record {
            parts = e ∙ sym (append-nil line) ∙ ap (λ ys. line ++ ys) (sym none);
            alone = ap lines_of (sym e) ∙ lines ∙ ap (λ ys. line ∷ lines_of ys) none;
            whole = inr none;
          },
        )

-- ---- UTF-8

up_to_le : (bs : List ℕ) (m : ℕ) → valid_len_up_to bs m ≤ m
up_to_le bs zero = omega arith
up_to_le bs (suc m) = le_step (is_utf8 (take (suc m) bs)) (up_to_le bs m)
  where
    le_step : (b : Bool) → valid_len_up_to bs m ≤ m → cond b (suc m) (valid_len_up_to bs m) ≤ suc m
    le_step true h = omega arith
    le_step false h = omega (arith, h)

valid_front : (bs : List ℕ) (n : ℕ) → valid_len_up_to bs n ≡ n → IsUtf8 (take n bs)
valid_front bs zero e = IsUtf8-nil
valid_front bs (suc n) e = valid_step (is_utf8 (take (suc n) bs)) refl e
  where
    valid_step : (b : Bool) → is_utf8 (take (suc n) bs) ≡ b → cond b (suc n) (valid_len_up_to bs n) ≡ suc n
        → IsUtf8 (take (suc n) bs)
    valid_step true b e = IsUtf8-from_is_utf8 (take (suc n) bs) b
    valid_step false b e = absurd (omega (arith, up_to_le bs n, e))

utf8_from_text : (bs : List ℕ) → IsText bs → IsUtf8 bs
unfolding utf8_valid_len
utf8_from_text bs e = subst IsUtf8 (take_all (length bs) bs (omega arith)) (valid_front bs (length bs) e)

text_nil : IsText []
unfolding utf8_valid_len
text_nil = refl

feed_last : (xs ys : List ℕ) → get_or (fed xs ++ ys) (length xs) 0 ≡ 10
feed_last [] ys = refl
feed_last (x ∷ xs) ys = feed_last xs ys

-- both sides of a cut behind a line feed are texts
text_cut : (xs ys : List ℕ) → IsText (fed xs ++ ys) → IsText (fed xs) × IsText ys
text_cut xs ys t =
    let all : List ℕ = fed xs ++ ys in
    let u : IsUtf8 all = utf8_from_text all t in
    let long : length all ≡ length xs + 1 + length ys =
    omega (arith, length-append (fed xs) ys, length-append xs (10 ∷ [])) in
    let size : length (fed xs) ≡ length xs + 1 = omega (arith, length-append xs (10 ∷ [])) in
    let feed : get_or all (length xs) 0 ≡ 10 = feed_last xs ys in
    let here : IsCharBoundary all (length xs + 1) =
    IsCharBoundary-after_ascii all (length xs) u (omega (arith, long)) (omega (arith, feed)) in (
      utf8_valid_len-IsUtf8 (fed xs)
          (subst IsUtf8 (take_at (fed xs) ys (length xs + 1) size) (IsUtf8-take all (length xs + 1) u here)),
      utf8_valid_len-IsUtf8 ys
          (subst IsUtf8 (drop_at (fed xs) ys (length xs + 1) size) (IsUtf8-drop all (length xs + 1) u here)),
    )

-- both sides of a cut in front of a line are texts
pub text_sides : (bytes front rest : List ℕ) → bytes ≡ front ++ rest → Whole front ⊎ (rest ≡ []) → IsText bytes
    → IsText front × IsText rest
text_sides bytes front rest parts (inl (inl e)) t =
    let same : bytes ≡ rest = parts ∙ ap (λ ys. ys ++ rest) e in
    (subst IsText (sym e) text_nil, subst IsText same t)
text_sides bytes front rest parts (inl (inr (xs, e))) t =
    let both : IsText (fed xs) × IsText rest =
    text_cut xs rest (subst IsText (parts ∙ ap (λ ys. ys ++ rest) e) t) in
    (subst IsText (sym e) both.0, both.1)
text_sides bytes front rest parts (inr e) t =
    let same : bytes ≡ front = parts ∙ ap (λ ys. front ++ ys) e ∙ append-nil front in
    (subst IsText same t, subst IsText (sym e) text_nil)

-- what follows a line of a text is a text
pub text_after : (rest line after : List ℕ) → lines_of rest ≡ line ∷ lines_of after
    → after ≡ drop (length line + 1) rest → IsText rest → IsText after
text_after rest line after lines behind t =
    let front = first_front rest line after lines behind in
    let f : IsFront rest line front.0 after = front.1 in
    (text_sides rest front.0 after f.parts f.whole t).1

-- ---- the lines of a script

-- bytes cut in front of a line, with none before it that ends the script
pub record IsCut (bytes front rest : List ℕ) (lines : ℕ) : Type 0 where
  pub parts : bytes ≡ front ++ rest
  pub whole : Whole front ⊎ (rest ≡ [])
  pub count : length (lines_of front) ≡ lines
  pub split : lines_of bytes ≡ lines_of front ++ lines_of rest
  pub script : script_lines (lines_of bytes) ≡ lines_of front ++ script_lines (lines_of rest)
  pub few : lines + length rest ≤ length bytes

-- the front by what is left
abbrev pub front_of : List ℕ → List ℕ → List ℕ
front_of bytes rest = take (length bytes - length rest) bytes

-- a cut by what is left
abbrev pub IsCutAt : List ℕ → List ℕ → ℕ → Type 0
IsCutAt bytes rest lines = IsCut bytes (front_of bytes rest) rest lines

front_is : (bytes front rest : List ℕ) → bytes ≡ front ++ rest → front ≡ front_of bytes rest
front_is bytes front rest e =
    let size : length bytes ≡ length front + length rest = ap length e ∙ length-append front rest in
    let n : length front ≡ length bytes - length rest = omega (arith, size) in
    sym (take_at front rest (length bytes - length rest) n) ∙ ap (take (length bytes - length rest)) (sym e)

cut_at : (bytes front rest : List ℕ) (lines : ℕ) → IsCut bytes front rest lines → IsCutAt bytes rest lines
cut_at bytes front rest lines h =
    subst (λ f. IsCut bytes f rest lines) (front_is bytes front rest h.parts) h

-- before the first line
pub cut_start : (bytes : List ℕ) → IsCutAt bytes bytes 0
cut_start bytes =
    cut_at bytes [] bytes 0
    (record {
      parts = refl;
      whole = inl (inl refl);
      count = refl;
      split = refl;
      script = refl;
      few = omega arith;
    })

module _ (bytes front rest : List ℕ) (lines : ℕ) (h : IsCut bytes front rest lines) (line after : List ℕ)
    (is : lines_of rest ≡ line ∷ lines_of after) (behind : after ≡ drop (length line + 1) rest)
    (shorter : length after < length rest) (goes : ends_script line ≡ false) where
  whole_here : Whole front ⊎ (rest ≡ []) → Whole front
  whole_here (inl w) = w
  whole_here (inr e) =
      let none : [] ≡ line ∷ lines_of after = sym (ap lines_of e) ∙ is in
      absurd cc

  whole_next : (passed : List ℕ) → Whole front → Whole passed ⊎ (after ≡ []) → Whole (front ++ passed) ⊎ (after ≡ [])
  whole_next passed w (inr e) = inr e
  whole_next passed w (inl (inl e)) =
      inl (subst Whole (sym (append-nil front) ∙ ap (λ ys. front ++ ys) (sym e)) w)
  whole_next passed w (inl (inr (xs, e))) =
      inl (inr (front ++ xs, ap (λ ys. front ++ ys) e ∙ sym (append_assoc front xs (10 ∷ []))))

  next_cut : (passed : List ℕ) → IsFront rest line passed after → IsCut bytes (front ++ passed) after (lines + 1)
  next_cut passed f =
      let w : Whole front = whole_here h.whole in
      let joined : lines_of (front ++ passed) ≡ lines_of front ++ line ∷ [] =
      lines_joined front passed w ∙ ap (λ ls. lines_of front ++ ls) f.alone in
      let step : script_lines (lines_of rest) ≡ line ∷ script_lines (lines_of after) = rw (is, goes) refl in
      record {
        parts = h.parts ∙ ap (λ ys. front ++ ys) f.parts ∙ sym (append_assoc front passed after);
        whole = whole_next passed w f.whole;
        count =
            ap length joined
            ∙ length-append (lines_of front) (line ∷ []) ∙ ap (λ (n : ℕ). n + 1) h.count;
        split =
            h.split ∙ ap (λ ls. lines_of front ++ ls) is
            ∙ sym (append_assoc (lines_of front) (line ∷ []) (lines_of after))
            ∙ ap (λ ls. ls ++ lines_of after) (sym joined);
        script =
            h.script ∙ ap (λ ls. lines_of front ++ ls) step
            ∙ sym (append_assoc (lines_of front) (line ∷ []) (script_lines (lines_of after)))
            ∙ ap (λ ls. ls ++ script_lines (lines_of after)) (sym joined);
        few = omega (arith, h.few, shorter);
      }

-- behind one line more
pub cut_next : (bytes rest : List ℕ) (lines : ℕ) → IsCutAt bytes rest lines → (line after : List ℕ)
    → lines_of rest ≡ line ∷ lines_of after → after ≡ drop (length line + 1) rest
    → length after < length rest → ends_script line ≡ false → IsCutAt bytes after (lines + 1)
cut_next bytes rest lines h line after is behind shorter goes =
    let front = first_front rest line after is behind in
    cut_at bytes (front_of bytes rest ++ front.0) after (lines + 1)
    (next_cut bytes (front_of bytes rest) rest lines h line after is behind shorter goes front.0 front.1)

-- the script ends in front of a line, or of none
pub cut_part : (bytes front rest : List ℕ) (lines : ℕ) → IsCut bytes front rest lines
    → script_lines (lines_of rest) ≡ [] → IsPart bytes front lines rest
cut_part bytes front rest lines h ends =
    record {
      script_is =
          sym (h.script ∙ ap (λ ls. lines_of front ++ ls) ends ∙ append-nil (lines_of front));
      count = h.count;
      parts = h.split;
      ends = ends;
      short = omega (arith, ap length h.parts, length-append front rest);
      room = h.few;
      text = λ t. (text_sides bytes front rest h.parts h.whole t).0;
      text_behind = λ t. (text_sides bytes front rest h.parts h.whole t).1;
    }

-- where a line ends it
pub part_at : (bytes rest line : List ℕ) (others : List (List ℕ)) (lines : ℕ) → IsCutAt bytes rest lines
    → lines_of rest ≡ line ∷ others → ends_script line ≡ true → IsPart bytes (front_of bytes rest) lines rest
part_at bytes rest line others lines h is ends =
    cut_part bytes (front_of bytes rest) rest lines h (rw (is, ends) refl)

-- where no line is left
pub part_end : (bytes rest : List ℕ) (lines : ℕ) → IsCutAt bytes rest lines → lines_of rest ≡ []
    → IsPart bytes bytes lines rest
part_end bytes rest lines h none =
    let front : List ℕ = front_of bytes rest in
    let all : bytes ≡ front = h.parts ∙ ap (λ ys. front ++ ys) (no_bytes rest none) ∙ append-nil front in
    subst (λ f. IsPart bytes f lines rest) (sym all)
    (cut_part bytes front rest lines h (ap script_lines none))

-- a line `endsandbox` in front
pub closes_at : (bytes line rest : List ℕ) → lines_of bytes ≡ line ∷ lines_of rest
    → rest ≡ drop (length line + 1) bytes → length rest < length bytes → ends_sandbox line ≡ true
    → Closes bytes rest
closes_at bytes line rest is behind shorter ends =
    record {
      closed = ap is_closed is ∙ ends;
      rest_is = ap (drop 1) is;
      shorter = shorter;
      text = text_after bytes line rest is behind;
    }
