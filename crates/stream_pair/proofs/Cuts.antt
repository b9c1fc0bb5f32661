-- Bytes and the pieces that they are cut into.
use Rattle.std.proofs.Common.{◌≡◌, ◌≢◌, ℕ, zero, suc, ◌+◌, ◌/◌, ◌<◌, List, [], ◌∷◌, ◌++◌, length, take, drop, map, min, sym, refl, ap, ◌∙◌, arith, length-append, append-nil, inl, inr}
use Rattle.std.proofs.Math.Seq.{take-append_seam, drop-append_seam}
use Rattle.std.proofs.lemmas.Bool.{cases_lt}
use Rattle.std.proofs.lemmas.List.{nil_from_length}
use Rattle.std.proofs.Math.ListN.{drop_of_length-le}
use Rattle.std.proofs.lemmas.List.{take-append-drop, length-take, length-drop}
use Rattle.stream_pair.specs.declared.piece.Piece.{Piece}
use Rattle.stream_pair.specs.Pieces.{piece, pieces, cut, piece_count, AreCutFrom}

-- the front of some bytes, as chunks of 512 come off them, is the first piece's bytes, and the rest is what is behind
chunk_is_first_cut : (all front rest : List ℕ) → all ≡ front ++ rest → length front ≡ min 512 (length all)
    → (take 512 all ≡ front) × (drop 512 all ≡ rest) × (length all ≡ length front + length rest)
chunk_is_first_cut all front rest parts size =
    let sum : length all ≡ length front + length rest = ap length parts ∙ length-append front rest in
    elim (cases_lt (length all) 512) [
      | inl short ↦
          let none : rest ≡ [] = nil_from_length rest (omega arith) in
          let behind : drop 512 all ≡ [] = drop_of_length-le all {i = 512} (omega arith) in
          let whole : take 512 all ≡ all = sym (append-nil (take 512 all)) ∙ ap (λ l. take 512 all ++ l) (sym behind)
          ∙ take-append-drop 512 all in
          (whole ∙ parts ∙ ap (λ l. front ++ l) none ∙ append-nil front, behind ∙ sym none, sum)
      | inr long ↦
          let full : 512 ≡ length front = omega arith in (
            ap (λ n. take n all) full ∙ ap (λ l. take (length front) l) parts ∙ take-append_seam front rest,
            ap (λ n. drop n all) full ∙ ap (λ l. drop (length front) l) parts ∙ drop-append_seam front rest,
            sum,
          )
    ]

count_is_one_more : (all front rest : ℕ) → all ≡ front + rest → front ≡ min 512 all → 0 < all
    → (all + 511) / 512 ≡ suc ((rest + 511) / 512)
count_is_one_more all front rest sum size some = omega arith

-- the pieces of bytes begin with the first chunk that comes off, and go on with those of the rest
pub pieces_begin_with_the_chunk : (stamp : ℕ) (all front rest : List ℕ) → all ≡ front ++ rest
    → length front ≡ min 512 (length all) → 0 < length all
    → pieces stamp all ≡ piece stamp front ∷ pieces stamp rest
pieces_begin_with_the_chunk stamp all front rest parts size some =
    let first = chunk_is_first_cut all front rest parts size in
    let count : piece_count all ≡ suc (piece_count rest) = count_is_one_more (length all) (length front)
    (length rest) first.2 size some in
    ap (λ n. map (piece stamp) (cut n all)) count
    ∙ ap (λ l. piece stamp l ∷ map (piece stamp) (cut (piece_count rest) (drop 512 all))) first.0
    ∙ ap (λ l. piece stamp front ∷ map (piece stamp) (cut (piece_count rest) l)) first.1

-- no bytes, no pieces
pub no_bytes_no_pieces : (stamp : ℕ) (bytes : List ℕ) → length bytes ≡ 0 → pieces stamp bytes ≡ []
no_bytes_no_pieces stamp bytes none = ap (λ l. pieces stamp l) (nil_from_length bytes none)

-- a list with a first item isn't empty
pub first_item_is_there : (p : Piece) (ps qs : List Piece) → qs ≡ p ∷ ps → qs ≢ []
first_item_is_there p ps qs is none =
    let none_long : length (p ∷ ps) ≡ 0 = ap length (sym is ∙ none) in absurd (omega arith)

cuts_are_the_bytes : (stamp count : ℕ) (bytes : List ℕ) → piece_count bytes ≡ count
    → AreCutFrom stamp bytes (map (piece stamp) (cut count bytes))
cuts_are_the_bytes stamp zero bytes is =
    let none : length bytes ≡ 0 = omega arith in record { each = tt; whole = sym (nil_from_length bytes none) }
cuts_are_the_bytes stamp (suc count) bytes is =
    let front = length-take 512 bytes in
    let behind = length-drop 512 bytes in
    let others = cuts_are_the_bytes stamp count (drop 512 bytes) (omega arith) in
    record {
      each = (record { stamped = refl; some = omega arith; short = omega arith }, others.each);
      whole = ap (λ l. take 512 bytes ++ l) others.whole ∙ take-append-drop 512 bytes;
    }

-- the pieces of some bytes are the bytes
pub the_pieces_are_the_bytes : (stamp : ℕ) (bytes : List ℕ) → AreCutFrom stamp bytes (pieces stamp bytes)
the_pieces_are_the_bytes stamp bytes = cuts_are_the_bytes stamp (piece_count bytes) bytes refl
