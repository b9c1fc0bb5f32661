-- How the bytes of one event are cut into pieces: each of 512 bytes, but the last, which may be shorter. *(profile)*
use Rattle.std.specs.Prelude.{◌≡◌, ◌≢◌, ℕ, zero, suc, ◌+◌, ◌/◌, ◌≤◌, List, [], ◌∷◌, ◌++◌, length, take, drop, map}
use Rattle.std.specs.List.{flat_map, AllByRecursion}
use Rattle.stream_pair.specs.declared.piece.Piece.{Piece}

abbrev pub piece : ℕ → List ℕ → Piece
piece stamp bytes = record { stamp = stamp; bytes = bytes }

-- the first so many pieces of the bytes
abbrev pub cut : ℕ → List ℕ → List (List ℕ)
cut zero bytes = []
cut (suc count) bytes = take 512 bytes ∷ cut count (drop 512 bytes)

abbrev pub piece_count : List ℕ → ℕ
piece_count bytes = (length bytes + 511) / 512

-- The pieces of an event's bytes: all have its stamp. No bytes make no piece.
abbrev pub pieces : ℕ → List ℕ → List Piece
pieces stamp bytes = map (piece stamp) (cut (piece_count bytes) bytes)

-- some of the pieces were sent, from the first one on, and at least one was not
pub record IsFrontSent (old new all : List Piece) : Type 0 where
  pub front : List Piece
  pub left : List Piece
  pub sent : new ≡ old ++ front
  pub whole : all ≡ front ++ left
  pub refused : left ≢ []

-- 1 to 512 bytes under this stamp
pub record IsPiece (stamp : ℕ) (p : Piece) : Type 0 where
  pub stamped : p.stamp ≡ stamp
  pub some : 1 ≤ length p.bytes
  pub short : length p.bytes ≤ 512

-- these are pieces under this stamp, and one behind the other they are the bytes
pub record AreCutFrom (stamp : ℕ) (bytes : List ℕ) (ps : List Piece) : Type 0 where
  pub each : AllByRecursion (IsPiece stamp) ps
  pub whole : flat_map (λ p. p.bytes) ps ≡ bytes

abbrev pub PiecesAreTheBytes : Type 0
PiecesAreTheBytes = (stamp : ℕ) (bytes : List ℕ) → AreCutFrom stamp bytes (pieces stamp bytes)
