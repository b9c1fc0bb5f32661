-- The rule of a stream: what was sent is what was taken, followed by what the queue holds. One end at most may send,
-- and it knows what was sent; one at most may take, and it knows what was taken. Of what was sent each knows a front.
use Rattle.std.specs.Prelude.{◌≡◌, ℕ, Bool, true, false, List, [], ◌∷◌, ◌++◌, length, drop}
use mathlib.Core.Option.{some}
use lib.ListN.{get_elem?}
use Rattle.stream_pair.specs.declared.piece.Piece.{Piece}
use Rattle.stream_pair.specs.declared.order.Hand.{Hand}

abbrev pub hand : Bool → Bool → List Piece → List Piece → Hand
hand sends takes sent taken = record { sends = sends; takes = takes; sent = sent; taken = taken }

-- the one list begins the other
pub record Begins (front all : List Piece) : Type 0 where
  pub rest : List Piece
  pub whole : all ≡ front ++ rest

-- what the end with this number knows, where `sender` and `taker` are the numbers of the ends that may send and take
pub record Knows (sender taker : ℕ) (sent taken : List Piece) (end : ℕ) (h : Hand) : Type 0 where
  pub sends : h.sends ≡ true → (end ≡ sender) × (h.sent ≡ sent)
  pub takes : h.takes ≡ true → (end ≡ taker) × (h.taken ≡ taken)
  pub front : Begins h.sent sent

-- the queue holds these items, and the ends, by their numbers, know this
pub record IsInOrder (items : List Piece) (hands : List Hand) : Type 0 where
  pub sender : ℕ
  pub taker : ℕ
  pub sent : List Piece
  pub taken : List Piece
  pub whole : sent ≡ taken ++ items
  pub each : (end : ℕ) (h : Hand) → get_elem? hands end ≡ some h → Knows sender taker sent taken end h

abbrev pub after_send : Hand → Piece → Hand
after_send h p = hand h.sends h.takes (h.sent ++ p ∷ []) h.taken

abbrev pub after_take : Hand → Piece → Hand
after_take h p = hand h.sends h.takes h.sent (h.taken ++ p ∷ [])

-- the piece is the next one that was sent, and is taken
abbrev pub TakesNext : Hand → Piece → Hand → Type 0
TakesNext h p new = (new ≡ after_take h p) × ((items : List Piece) × (h.sent ≡ h.taken ++ p ∷ items))

-- at one step the queue held these items, and this is what the end knew
pub record WasThere (h : Hand) (items : List Piece) : Type 0 where
  pub hands : List Hand
  pub end : ℕ
  pub order : IsInOrder items hands
  pub knew : get_elem? hands end ≡ some h

-- at one step of the stream it was empty: what had been sent until then, and so all that its taker had been told of,
-- was just what is taken
abbrev pub WasEmpty : List Piece → List Piece → Type 0
WasEmpty told taken = WasThere (hand false true told taken) []

-- what was sent, behind what was taken
abbrev pub left_of : Hand → List Piece
left_of h = drop (length h.taken) h.sent

-- the two ends have come together
pub record HasBothEnds (h : Hand) : Type 0 where
  pub sends : h.sends ≡ true
  pub takes : h.takes ≡ true
  pub whole : h.sent ≡ h.taken ++ left_of h
