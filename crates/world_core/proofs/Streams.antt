-- The frames of a stream that stands in two lists, of which the first is in reverse.
use Rattle.std.proofs.Common.{◌≡◌, ℕ, ◌-◌, ◌+◌, ◌<◌, ◌≤◌, suc, zero, Bool, true, false, nat_lt, List, [], ◌∷◌, ◌++◌, length, map, reverse, get_or, set, slice_get, Option, Some, None, refl, sym, ap, subst, ◌∙◌, arith, length-append}
use Rattle.std.specs.Option.{option_map}
use Rattle.std.proofs.lemmas.List.{length-map, length-reverse, reverse-append, get_or-reverse, get_or_read}
use Rattle.std.proofs.lemmas.Option.{slice_get-map, slice_get_within, slice_get-get_or, get_or_from_slice_get}
use Rattle.rpc_frame.specs.declared.frame.Frame.{Frame}
use Rattle.world_model.specs.World.{Streams, is_checkpoint, with_all_sent}
use Rattle.world_core.specs.Inbox.{IsFirstOf, from_node, with_from, is_filled, may_take}
use Rattle.world_core.specs.Stream.{frame_of, frames_of, has_second}

-- as many as both lists have
pub length-frames : (front back : List (ℕ × Frame)) → length (frames_of front back) ≡ length front + length back
length-frames front back =
    length-map (reverse front ++ back) frame_of ∙ length-append (reverse front) back
    ∙ ap (λ (k : ℕ). k + length back) (length-reverse front)

-- ---- by how many frames there are

-- a stream with a frame is filled
pub filled-long : (fs : List Frame) → 0 < length fs → true ≡ is_filled fs
filled-long [] lt = absurd (omega arith)
filled-long (f ∷ fs) lt = refl

-- a stream with two frames has a second one
pub second-long : (fs : List Frame) → 1 < length fs → true ≡ has_second fs
second-long [] lt = absurd (omega arith)
second-long (f ∷ []) lt = absurd (omega arith)
second-long (f ∷ g ∷ fs) lt = refl

one-more : (b : ℕ) → nat_lt 0 b ≡ nat_lt 1 (1 + b)
one-more zero = refl
one-more (suc b) = grind arith

second-count : (fs : List Frame) → nat_lt 1 (length fs) ≡ has_second fs
second-count [] = refl
second-count (f ∷ []) = refl
second-count (f ∷ g ∷ fs) = grind arith

-- with one at the front at most
pub second-few : (front back : List (ℕ × Frame)) (f b : ℕ) → f ≡ length front → b ≡ length back → f ≤ 1
    → nat_lt (1 - f) b ≡ has_second (frames_of front back)
second-few front back zero b is_front is_back few =
    let all : b ≡ length (frames_of front back) = omega (arith, length-frames front back) in
    ap (nat_lt 1) all ∙ second-count (frames_of front back)
second-few front back (suc zero) b is_front is_back few =
    let all : 1 + b ≡ length (frames_of front back) = omega (arith, length-frames front back) in
    one-more b ∙ ap (nat_lt 1) all ∙ second-count (frames_of front back)
second-few front back (suc (suc f)) b is_front is_back few = absurd (omega arith)

-- ---- a frame is taken

-- the first one
pub first-popped : (front rest back : List (ℕ × Frame)) (sent : ℕ × Frame) → front ≡ rest ++ sent ∷ []
    → frames_of front back ≡ frame_of sent ∷ frames_of rest back
first-popped front rest back sent e =
    ap (λ (l : List (ℕ × Frame)). map frame_of (l ++ back)) (ap reverse e ∙ reverse-append rest (sent ∷ []))

-- what is left after the first
pub left-filled : (old new : List Frame) (taken : Option Frame) → IsFirstOf old taken new
    → has_second old ≡ is_filled new
left-filled old new None first = ap has_second first.0 ∙ sym (ap is_filled first.1)
left-filled old new (Some frame) first = ap has_second first

-- a stream with a second frame is filled
pub second-filled : (fs : List Frame) → has_second fs ≡ true → is_filled fs ≡ true
second-filled [] e = e
second-filled (f ∷ fs) e = refl

-- ---- the first frame

head-of : (ys zs : List (ℕ × Frame)) (sent : ℕ × Frame) → slice_get ys 0 ≡ Some sent
    → slice_get (ys ++ zs) 0 ≡ Some sent
head-of [] zs sent e = absurd (let lt = slice_get_within [] 0 sent e in omega arith)
head-of (y ∷ ys) zs sent e = e

-- it stands last at the front,
pub first-front : (front back : List (ℕ × Frame)) (sent : ℕ × Frame) → slice_get front (length front - 1) ≡ Some sent
    → slice_get (frames_of front back) 0 ≡ Some (frame_of sent)
first-front front back sent e =
    let lt : length front - 1 < length front = slice_get_within front (length front - 1) sent e in
    let last : length front - 1 - 0 ≡ length front - 1 = omega arith in
    let there : 0 < length (reverse front) = omega (arith, length-reverse front) in
    let here : slice_get (reverse front) 0 ≡ Some sent =
    slice_get-get_or (reverse front) 0 sent there
    ∙ ap Some (get_or-reverse front 0 sent (omega arith) ∙ ap (λ (k : ℕ). get_or front k sent) last
    ∙ get_or_from_slice_get front (length front - 1) sent sent e) in
    slice_get-map frame_of (reverse front ++ back) 0 ∙ ap (option_map frame_of) (head-of (reverse front) back sent here)

-- and first behind where there is none at the front
pub first-back : (front back : List (ℕ × Frame)) (sent : ℕ × Frame) → length front ≡ 0 → slice_get back 0 ≡ Some sent
    → slice_get (frames_of front back) 0 ≡ Some (frame_of sent)
first-back [] back sent none e = slice_get-map frame_of back 0 ∙ ap (option_map frame_of) e
first-back (f ∷ fs) back sent none e = absurd (omega arith)

pub first-takes : (fs : List Frame) (f : Frame) → slice_get fs 0 ≡ Some f → is_checkpoint f ≡ may_take false fs
first-takes [] f e = absurd (let lt = slice_get_within [] 0 f e in omega arith)
first-takes (g ∷ fs) f e = cc

-- ---- a list of one frame is taken over

none-filled : (fs : List Frame) → is_filled fs ≡ false → fs ≡ []
none-filled [] e = refl
none-filled (f ∷ fs) e = absurd (let no : ⊥ = cc in no)

-- nothing is on its way from a node whose stream is found empty
pub free-there : (rows : Streams) (k from : ℕ) (row : List (List Frame)) (found : Bool) → k < length rows
    → row ≡ get_or rows k row → found ≡ is_filled (from_node row from) → found ≡ false
    → from_node (get_or rows k []) from ≡ []
free-there rows k from row found lt read is none =
    none-filled (from_node (get_or rows k []) from)
    (ap (λ (r : List (List Frame)). is_filled (from_node r from)) (sym (get_or_read rows k row lt read []))
    ∙ sym is ∙ none)

-- it comes where the frame would come by itself
pub sent-alone : (from k : ℕ) (rows new : Streams) (sends : List (ℕ × Frame)) (sent : ℕ × Frame)
    → length sends ≡ 1 → sent ≡ get_or sends 0 sent → k ≡ sent.0 - 1 → from_node (get_or rows k []) from ≡ []
    → new ≡ set rows k (with_from (get_or rows k []) from (map frame_of sends)) → new ≡ with_all_sent from rows sends
sent-alone from k rows new [] sent one read place free is_new = absurd (omega arith)
sent-alone from k rows new (s ∷ t ∷ more) sent one read place free is_new = absurd (omega arith)
sent-alone from k rows new (s ∷ []) sent one read place free is_new =
    let here : k ≡ s.0 - 1 = place ∙ ap (λ (x : ℕ × Frame). x.0 - 1) read in
    let free' : from_node (get_or rows (s.0 - 1) []) from ≡ [] =
    subst (λ (i : ℕ). from_node (get_or rows i []) from ≡ []) here free in
    is_new
    ∙ ap (λ (i : ℕ). set rows i (with_from (get_or rows i []) from (s.1 ∷ []))) here
    ∙ ap (λ (l : List Frame). set rows (s.0 - 1) (with_from (get_or rows (s.0 - 1) []) from (l ++ s.1 ∷ [])))
    (sym free')
