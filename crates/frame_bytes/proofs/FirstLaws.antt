-- What stands at the front of some bytes, by their length field.
use Rattle.std.proofs.Common.{◌≡◌, ℕ, ◌<◌, ◌≤◌, ◌+◌, inl, inr, List, [], ◌∷◌, ◌++◌, length, take, drop, Option, Some, None, sym, ap, subst, ◌∙◌, append_assoc, arith}
use Rattle.std.proofs.lemmas.Bool.{cases_lt}
use Rattle.std.specs.List.{flat_map, AllByRecursion}
use Rattle.std.specs.Int.{w32}
use Rattle.std.proofs.lemmas.List.{take-append-drop, length-append, length-take, drop_at, drop-drop, get_or-take, get_or_past, length-drop, append-nil}
use Rattle.std.proofs.lemmas.List.Concat.{flat_map-cons}
use Rattle.rpc_frame.specs.declared.frame.Frame.{Frame}
use Rattle.body_fields.specs.Fields.{number_at}
use Rattle.body_fields.proofs.Fields.{IsBytes, Takes}
use Rattle.frame_bytes.specs.Fields.{IsWord, word, text}
use Rattle.frame_bytes.specs.Frames.{frame_body, frame_bytes, max_frame, whole_at}
use Rattle.frame_bytes.specs.Ranges.{IsFrame}
use Rattle.frame_bytes.specs.Streams.{IsPartial, IsTooLong, IsNoFrame, Begins}
use Rattle.frame_bytes.specs.Splitting.{Front}
use Rattle.frame_bytes.proofs.FieldLaws.{word-inverse}
use Rattle.frame_bytes.proofs.FrameLaws.{frame-is, whole-takes, whole-again}

none-some : (o : Option Frame) (f : Frame) → o ≡ None → o ≡ Some f → ⊥
none-some None f h e = absurd cc
none-some (Some g) f h e = absurd cc

IsBytes-take : (n : ℕ) (bytes : List ℕ) → IsBytes bytes → IsBytes (take n bytes)
IsBytes-take n bytes h i =
    elim (cases_lt i n) [
      | inl lt ↦ rw (get_or-take n bytes i 0 lt) (h i)
      | inr le ↦ rw (get_or_past (take n bytes) i 0 (omega (arith, length-take n bytes))) (omega arith)
    ]

bytes-more : (fs : List Frame) (f : Frame) (x : List ℕ)
    → flat_map frame_bytes (fs ++ f ∷ []) ++ x ≡ flat_map frame_bytes fs ++ (frame_bytes f ++ x)
bytes-more [] f x = ap (λ (y : List ℕ). y ++ x) (flat_map-cons frame_bytes f [] ∙ append-nil (frame_bytes f))
bytes-more (g ∷ fs) f x =
    ap (λ (y : List ℕ). y ++ x) (flat_map-cons frame_bytes g (fs ++ f ∷ []))
    ∙ append_assoc (frame_bytes g) (flat_map frame_bytes (fs ++ f ∷ [])) x
    ∙ ap (λ (y : List ℕ). frame_bytes g ++ y) (bytes-more fs f x)
    ∙ sym (ap (λ (y : List ℕ). y ++ (frame_bytes f ++ x)) (flat_map-cons frame_bytes g fs)
    ∙ append_assoc (frame_bytes g) (flat_map frame_bytes fs) (frame_bytes f ++ x))

each-more : (fs : List Frame) (f : Frame) → AllByRecursion IsFrame fs → IsFrame f
    → AllByRecursion IsFrame (fs ++ f ∷ [])
each-more [] f hs h = (h, tt)
each-more (g ∷ fs) f hs h = (hs.0, each-more fs f hs.1 h)

module _ (bytes : List ℕ) (len : ℕ) (rest : List ℕ) (fits : IsBytes bytes)
    (read : number_at w32 bytes ≡ Some (len, rest)) where
  taken : Takes bytes (word len) rest × IsWord len
  taken = word-inverse.takes bytes (len, rest) fits read

  pub is-long : max_frame < len → IsTooLong bytes
  is-long long = record { len = len; more = rest; spelled = taken.0.parts; fits = taken.1; long = long }

  pub is-cut : len ≤ max_frame → length rest < len → IsPartial bytes
  is-cut short cut = inr (record { len = len; more = rest; spelled = taken.0.parts; short = short; cut = cut })

  -- the body and the bytes behind it
  body-long : len ≤ length rest → length (take len rest) ≡ len
  body-long long = omega (arith, length-take len rest)

  parts : len ≤ length rest → bytes ≡ text (take len rest) ++ drop len rest
  parts long =
      let whole : bytes ≡ word len ++ (take len rest ++ drop len rest) =
      taken.0.parts ∙ ap (λ (y : List ℕ). word len ++ y) (sym (take-append-drop len rest))
      in let named : bytes ≡ word (length (take len rest)) ++ (take len rest ++ drop len rest) =
      subst (λ (n : ℕ). bytes ≡ word n ++ (take len rest ++ drop len rest)) (sym (body-long long)) whole
      in named ∙ sym (append_assoc (word (length (take len rest))) (take len rest) (drop len rest))

  pub is-none : len ≤ max_frame → len ≤ length rest → whole_at (take len rest) ≡ None → IsNoFrame bytes
  is-none short long none =
      let size = body-long long
      in record {
        body = take len rest;
        more = drop len rest;
        spelled = parts long;
        short = omega (arith, size, short);
        none = λ f h e. none-some (whole_at (take len rest)) f none (ap whole_at e ∙ whole-again f h);
      }

  pub is-whole : (f : Frame) → len ≤ max_frame → len ≤ length rest → whole_at (take len rest) ≡ Some f
      → Begins f (4 + len) bytes
  is-whole f short long got =
      let t = whole-takes (take len rest) f (IsBytes-take len rest taken.0.rest_fits) got
      in let size = body-long long
      in let same : length (frame_body f) ≡ len = sym (ap length t.0) ∙ size
      in let spelled : bytes ≡ frame_bytes f ++ drop len rest =
      parts long ∙ ap (λ (b : List ℕ). text b ++ drop len rest) t.0
      in let count : length (frame_bytes f) ≡ 4 + len =
      omega (arith, length-append (word (length (frame_body f))) (frame_body f), same)
      in let behind : drop (4 + len) bytes ≡ drop len rest =
      ap (drop (4 + len)) spelled ∙ drop_at (frame_bytes f) (drop len rest) (4 + len) count
      in let total : length bytes ≡ length (frame_bytes f) + length (drop len rest) =
      ap length spelled ∙ length-append (frame_bytes f) (drop len rest)
      in record {
        fits = frame-is f t.1 (omega (arith, same, short));
        spelled = spelled ∙ ap (λ (y : List ℕ). frame_bytes f ++ y) (sym behind);
        within = omega (arith, total, count);
        long = omega arith;
      }

-- one more frame at the front of what is left
pub one-more : (bytes : List ℕ) (frames : List Frame) (used : ℕ) (f : Frame) (len : ℕ) → Front bytes frames used
    → Begins f len (drop used bytes)
    → Front bytes (frames ++ f ∷ []) (used + len)
one-more bytes frames used f len front b =
    let within = b.within
    in let room = length-drop used bytes
    in let low = front.within
    in let behind : drop len (drop used bytes) ≡ drop (used + len) bytes = drop-drop len used bytes
    in let spelled : bytes ≡ flat_map frame_bytes frames ++ (frame_bytes f ++ drop (used + len) bytes) =
    front.spelled ∙ ap (λ (y : List ℕ). flat_map frame_bytes frames ++ y)
    (b.spelled ∙ ap (λ (y : List ℕ). frame_bytes f ++ y) behind)
    in record {
      within = omega (arith, within, room, low);
      spelled = spelled ∙ sym (bytes-more frames f (drop (used + len) bytes));
      each = each-more frames f front.each b.fits;
    }
