-- A stream has one reading, and the frames that come of it don't depend on its pieces.
use Rattle.std.proofs.Common.{◌≡◌, ℕ, true, ◌≤◌, ◌+◌, inl, inr, List, [], ◌∷◌, ◌++◌, length, Option, Some, Result, Ok, Err, refl, sym, ap, subst, ◌∙◌, append_assoc, arith}
use Rattle.std.specs.List.{flat_map, AllByRecursion}
use Rattle.std.proofs.lemmas.List.{length-append, append-nil}
use Rattle.std.proofs.lemmas.List.Concat.{flat_map-cons}
use Rattle.rpc_frame.specs.declared.frame.Frame.{Frame}
use Rattle.frame_bytes.specs.declared.fault.FrameFault.{FrameFault}
use Rattle.frame_bytes.specs.declared.fault.FrameFault.TheVariants.{Memory, TooLong, NotAFrame}
use Rattle.body_fields.proofs.Fields.{some_is}
use Rattle.frame_bytes.specs.Fields.{IsWord, word, text, word_at, text_at}
use Rattle.frame_bytes.specs.Frames.{frame_body, frame_bytes, max_frame, whole_at}
use Rattle.frame_bytes.specs.Limits.{is_text}
use Rattle.frame_bytes.specs.Ranges.{IsFrame}
use Rattle.frame_bytes.specs.Streams.{IsCut, IsPartial, IsTooLong, Stands, Left, Rest, Broken, Ends, Splits, Feeds, frames_of, HadMemory, AllFed, Nothing, Further}
use Rattle.frame_bytes.proofs.FieldLaws.{text-is, word-inverse, text-inverse}
use Rattle.frame_bytes.proofs.FrameLaws.{frame-short, whole-again}

pub record Same (A : Type 0) (a b : A) (x y : List ℕ) : Type 0 where
  pub value : a ≡ b
  pub rest : x ≡ y

-- ---- no spelling begins another's

abbrev word-read : ℕ × List ℕ → Option (ℕ × List ℕ)
word-read p = Some p

abbrev text-read : List ℕ × List ℕ → Option (List ℕ × List ℕ)
text-read p = Some p

word-same : (m n : ℕ) (x y : List ℕ) → IsWord m → IsWord n → word m ++ x ≡ word n ++ y → Same ℕ m n x y
word-same m n x y fm fn e =
    let read : word-read (m, x) ≡ word-read (n, y) =
    sym (word-inverse.again m x fm) ∙ ap word_at e ∙ word-inverse.again n y fn
    in let pair = some_is (m, x) (n, y) read
    in record { value = ap (λ (p : ℕ × List ℕ). p.0) pair; rest = ap (λ (p : ℕ × List ℕ). p.1) pair }

text-same : (b c x y : List ℕ) → is_text b ≡ true → is_text c ≡ true → text b ++ x ≡ text c ++ y → Same (List ℕ) b c x y
text-same b c x y fb fc e =
    let read : text-read (b, x) ≡ text-read (c, y) =
    sym (text-inverse.again b x fb) ∙ ap text_at e ∙ text-inverse.again c y fc
    in let pair = some_is (b, x) (c, y) read
    in record { value = ap (λ (p : List ℕ × List ℕ). p.0) pair; rest = ap (λ (p : List ℕ × List ℕ). p.1) pair }

short-text : (f : Frame) → IsFrame f → is_text (frame_body f) ≡ true
short-text f h = text-is (frame_body f) (omega (arith, frame-short f h))

-- bytes that begin with the spellings of two frames begin with one frame, and the same bytes stand behind it
pub frame-same : (f g : Frame) (x y : List ℕ) → IsFrame f → IsFrame g → frame_bytes f ++ x ≡ frame_bytes g ++ y
    → Same Frame f g x y
frame-same f g x y hf hg e =
    let t = text-same (frame_body f) (frame_body g) x y (short-text f hf) (short-text g hg) e
    in record {
      value = some_is f g (sym (whole-again f hf) ∙ ap whole_at t.value ∙ whole-again g hg);
      rest = t.rest;
    }

-- ---- at most one thing ends a stream

-- the bytes behind a length are as many as it says, or more
word-long : (n : ℕ) (more : List ℕ) → 4 ≤ length (word n ++ more)
word-long n more = omega (arith, length-append (word n) more)

not-cut : (bytes body more : List ℕ) → length body ≤ max_frame → bytes ≡ text body ++ more → IsCut bytes → ⊥
not-cut bytes body more short is c =
    let cut = c.cut
    in let few = c.short
    in let same = word-same c.len (length body) c.more (body ++ more) (omega (arith, few)) (omega (arith, short))
    (sym c.spelled ∙ is ∙ append_assoc (word (length body)) body more)
    in let len = same.value
    in let rest : length c.more ≡ length body + length more = ap length same.rest ∙ length-append body more
    in absurd (omega (arith, cut, len, rest))

not-partial : (bytes body more : List ℕ) → length body ≤ max_frame → bytes ≡ text body ++ more → IsPartial bytes → ⊥
not-partial bytes body more short is (inl few) =
    let long : 4 ≤ length bytes =
    subst (λ (l : List ℕ). 4 ≤ length l) (sym (is ∙ append_assoc (word (length body)) body more))
    (word-long (length body) (body ++ more))
    in absurd (omega (arith, few, long))
not-partial bytes body more short is (inr c) = not-cut bytes body more short is c

not-long : (bytes body more : List ℕ) → length body ≤ max_frame → bytes ≡ text body ++ more → IsTooLong bytes → ⊥
not-long bytes body more short is t =
    let same = word-same t.len (length body) t.more (body ++ more) t.fits (omega (arith, short))
    (sym t.spelled ∙ is ∙ append_assoc (word (length body)) body more)
    in let len = same.value
    in let long = t.long
    in absurd (omega (arith, len, long, short))

partial-long : (bytes : List ℕ) → IsPartial bytes → IsTooLong bytes → ⊥
partial-long bytes (inl few) t =
    let long : 4 ≤ length bytes = subst (λ (l : List ℕ). 4 ≤ length l) (sym t.spelled) (word-long t.len t.more)
    in absurd (omega (arith, few, long))
partial-long bytes (inr c) t =
    let few = c.short
    in let same = word-same c.len t.len c.more t.more (omega (arith, few)) t.fits (sym c.spelled ∙ t.spelled)
    in let len = same.value
    in let long = t.long
    in absurd (omega (arith, len, long, few))

partial-stands : (bytes : List ℕ) (fault : FrameFault) → IsPartial bytes → Stands fault bytes → ⊥
partial-stands bytes Memory p s = s
partial-stands bytes TooLong p s = partial-long bytes p s
partial-stands bytes NotAFrame p s = not-partial bytes s.body s.more s.short s.spelled p

one-fault : (bytes : List ℕ) (a b : FrameFault) → Stands a bytes → Stands b bytes → a ≡ b
one-fault bytes Memory b s t = absurd s
one-fault bytes a Memory s t = absurd t
one-fault bytes TooLong TooLong s t = refl
one-fault bytes NotAFrame NotAFrame s t = refl
one-fault bytes TooLong NotAFrame s t = absurd (not-long bytes t.body t.more t.short t.spelled s)
one-fault bytes NotAFrame TooLong s t = absurd (not-long bytes s.body s.more s.short s.spelled t)

one-end : (bytes : List ℕ) (l m : Left) → Ends bytes l → Ends bytes m → l ≡ m
one-end bytes (Rest a) (Rest b) s t = ap Rest (sym s.0 ∙ t.0)
one-end bytes (Broken a) (Broken b) s t = ap Broken (one-fault bytes a b s t)
one-end bytes (Rest a) (Broken b) s t = absurd (partial-stands bytes b (subst IsPartial (sym s.0) s.1) t)
one-end bytes (Broken a) (Rest b) s t = absurd (partial-stands bytes a (subst IsPartial (sym t.0) t.1) s)

-- where a frame stands, nothing else does
frame-stands : (f : Frame) (bytes more : List ℕ) (l : Left) → IsFrame f → bytes ≡ frame_bytes f ++ more → Ends bytes l
    → ⊥
frame-stands f bytes more (Rest rest) h is s =
    not-partial bytes (frame_body f) more (frame-short f h) is (subst IsPartial (sym s.0) s.1)
frame-stands f bytes more (Broken Memory) h is s = s
frame-stands f bytes more (Broken TooLong) h is s = not-long bytes (frame_body f) more (frame-short f h) is s
frame-stands f bytes more (Broken NotAFrame) h is s =
    let few = s.short
    in let same = text-same s.body (frame_body f) s.more more (text-is s.body (omega (arith, few))) (short-text f h)
    (sym s.spelled ∙ is)
    in s.none f h same.value

-- ---- a stream has one reading

regrouped : (f : Frame) (fs : List Frame) (x : List ℕ)
    → flat_map frame_bytes (f ∷ fs) ++ x ≡ frame_bytes f ++ (flat_map frame_bytes fs ++ x)
regrouped f fs x = ap (λ (y : List ℕ). y ++ x) (flat_map-cons frame_bytes f fs)
    ∙ append_assoc (frame_bytes f) (flat_map frame_bytes fs) x

one-list : (fs gs : List Frame) (x y : List ℕ) (l m : Left) → AllByRecursion IsFrame fs → AllByRecursion IsFrame gs
    → flat_map frame_bytes fs ++ x ≡ flat_map frame_bytes gs ++ y → Ends x l → Ends y m → Same (List Frame) fs gs x y
one-list [] [] x y l m hf hg e s t = record { value = refl; rest = e }
one-list [] (g ∷ gs) x y l m hf hg e s t =
    absurd (frame-stands g x (flat_map frame_bytes gs ++ y) l hg.0 (e ∙ regrouped g gs y) s)
one-list (f ∷ fs) [] x y l m hf hg e s t =
    absurd (frame-stands f y (flat_map frame_bytes fs ++ x) m hf.0 (sym e ∙ regrouped f fs x) t)
one-list (f ∷ fs) (g ∷ gs) x y l m hf hg e s t =
    let first = frame-same f g (flat_map frame_bytes fs ++ x) (flat_map frame_bytes gs ++ y) hf.0 hg.0
    (sym (regrouped f fs x) ∙ e ∙ regrouped g gs y)
    in let others = one-list fs gs x y l m hf.1 hg.1 first.rest s t
    in let a = first.value
    in let b = others.value
    in record { value = ap (λ (h : Frame). h ∷ fs) a ∙ ap (λ (hs : List Frame). g ∷ hs) b; rest = others.rest }

-- a stream has one reading: the same frames and the same rest
pub one-reading : (stream : List ℕ) (fs gs : List Frame) (l m : Left) → Splits stream fs l → Splits stream gs m
    → (fs ≡ gs) × (l ≡ m)
one-reading stream fs gs l m s t =
    let same = one-list fs gs s.rest t.rest l m s.each t.each (sym s.whole ∙ t.whole) s.end t.end
    in (same.value, one-end s.rest l m s.end (subst (λ (b : List ℕ). Ends b m) (sym same.rest) t.end))

-- ---- feeding goes on where it stood

each-append : (fs gs : List Frame) → AllByRecursion IsFrame fs → AllByRecursion IsFrame gs
    → AllByRecursion IsFrame (fs ++ gs)
each-append [] gs hf hg = hg
each-append (f ∷ fs) gs hf hg = (hf.0, each-append fs gs hf.1 hg)

bytes-append : (fs gs : List Frame) (x : List ℕ)
    → flat_map frame_bytes (fs ++ gs) ++ x ≡ flat_map frame_bytes fs ++ (flat_map frame_bytes gs ++ x)
bytes-append [] gs x = refl
bytes-append (f ∷ fs) gs x =
    regrouped f (fs ++ gs) x ∙ ap (λ (y : List ℕ). frame_bytes f ++ y) (bytes-append fs gs x)
    ∙ sym (regrouped f fs (flat_map frame_bytes gs ++ x))

goes-on : (stream rest piece : List ℕ) (fs gs : List Frame) (new : Left) → Splits stream fs (Rest rest)
    → Splits (rest ++ piece) gs new
    → Splits (stream ++ piece) (fs ++ gs) new
goes-on stream rest piece fs gs new s t =
    let front = flat_map frame_bytes fs
    in let held : s.rest ++ piece ≡ flat_map frame_bytes gs ++ t.rest =
    ap (λ (y : List ℕ). y ++ piece) s.end.0 ∙ t.whole
    in record {
      rest = t.rest;
      whole = ap (λ (y : List ℕ). y ++ piece) s.whole ∙ append_assoc front s.rest piece
          ∙ ap (λ (y : List ℕ). front ++ y) held
          ∙ sym (bytes-append fs gs t.rest);
      each = each-append fs gs s.each t.each;
      end = t.end;
    }

stands-on : (fault : FrameFault) (bytes piece : List ℕ) → Stands fault bytes → Stands fault (bytes ++ piece)
stands-on Memory bytes piece s = s
stands-on TooLong bytes piece s =
    record {
      len = s.len;
      more = s.more ++ piece;
      spelled = ap (λ (y : List ℕ). y ++ piece) s.spelled ∙ append_assoc (word s.len) s.more piece;
      fits = s.fits;
      long = s.long;
    }
stands-on NotAFrame bytes piece s =
    record {
      body = s.body;
      more = s.more ++ piece;
      spelled = ap (λ (y : List ℕ). y ++ piece) s.spelled ∙ append_assoc (text s.body) s.more piece;
      short = s.short;
      none = s.none;
    }

lasts : (stream piece : List ℕ) (fs : List Frame) (fault : FrameFault) → Splits stream fs (Broken fault)
    → Splits (stream ++ piece) fs (Broken fault)
lasts stream piece fs fault s =
    record {
      rest = s.rest ++ piece;
      whole = ap (λ (y : List ℕ). y ++ piece) s.whole ∙ append_assoc (flat_map frame_bytes fs) s.rest piece;
      each = s.each;
      end = stands-on fault s.rest piece s.end;
    }

no-more : (fs : List Frame) → fs ++ [] ≡ fs
no-more fs = append-nil fs

fed-step : (stream piece : List ℕ) (fs : List Frame) (old new : Left) (answer : Result (List Frame) FrameFault)
    → Feeds old piece answer new → HadMemory answer
    → Splits stream fs old → Splits (stream ++ piece) (fs ++ frames_of answer) new
fed-step stream piece fs (Broken fault) new answer fed had s =
    let none : frames_of answer ≡ [] = ap frames_of fed.0
    in let same : fs ++ frames_of answer ≡ fs = ap (λ (hs : List Frame). fs ++ hs) none ∙ no-more fs
    in subst (λ (l : Left). Splits (stream ++ piece) (fs ++ frames_of answer) l) (sym fed.1)
    (subst (λ (hs : List Frame). Splits (stream ++ piece) hs (Broken fault)) (sym same) (lasts stream piece fs fault s))
fed-step stream piece fs (Rest rest) new (Ok frames) fed had s = goes-on stream rest piece fs frames new s fed.0
fed-step stream piece fs (Rest rest) new (Err Memory) fed had s = absurd had
fed-step stream piece fs (Rest rest) new (Err TooLong) fed had s =
    subst (λ (l : Left). Splits (stream ++ piece) (fs ++ []) l) (sym fed.1)
    (goes-on stream rest piece fs [] (Broken TooLong) s fed.0)
fed-step stream piece fs (Rest rest) new (Err NotAFrame) fed had s =
    subst (λ (l : Left). Splits (stream ++ piece) (fs ++ []) l) (sym fed.1)
    (goes-on stream rest piece fs [] (Broken NotAFrame) s fed.0)

all-fed : (stream : List ℕ) (fs : List Frame) (old : Left) (pieces : List (List ℕ)) (frames : List Frame) (new : Left)
    → AllFed old pieces frames new → Splits stream fs old
    → Splits (stream ++ flat_map (λ piece. piece) pieces) (fs ++ frames) new
all-fed stream fs old pieces frames new (Nothing left) s =
    subst (λ (x : List ℕ). Splits x (fs ++ []) left) (sym (append-nil stream))
    (subst (λ (hs : List Frame). Splits stream hs left) (sym (no-more fs)) s)
all-fed stream fs old pieces frames new (Further left mid end piece others first later fed after) s =
    let given : Splits (stream ++ piece) (fs ++ first) mid =
    subst (λ (hs : List Frame). Splits (stream ++ piece) (fs ++ hs) mid) (sym fed.given)
    (fed-step stream piece fs left mid fed.answer fed.feeds fed.memory s)
    in let t = all-fed (stream ++ piece) (fs ++ first) mid others later end after given
    in let bytes : (stream ++ piece) ++ flat_map (λ x. x) others ≡ stream ++ flat_map (λ x. x) (piece ∷ others) =
    append_assoc stream piece (flat_map (λ x. x) others)
    ∙ ap (λ (y : List ℕ). stream ++ y) (sym (flat_map-cons (λ (x : List ℕ). x) piece others))
    in subst (λ (x : List ℕ). Splits x (fs ++ (first ++ later)) end) bytes
    (subst (λ (hs : List Frame). Splits ((stream ++ piece) ++ flat_map (λ x. x) others) hs end)
    (append_assoc fs first later) t)

-- what a joiner gave for pieces is the reading of all their bytes
pub all-fed-splits : (pieces : List (List ℕ)) (frames : List Frame) (new : Left) → AllFed (Rest []) pieces frames new
    → Splits (flat_map (λ piece. piece) pieces) frames new
all-fed-splits pieces frames new fed =
    all-fed [] [] (Rest []) pieces frames new fed
    (record { rest = []; whole = refl; each = tt; end = (refl, inl (omega arith)) })
