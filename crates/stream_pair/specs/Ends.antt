-- What contracts see of the two ends of a stream, and of the passes through which they reach its queue.
use Rattle.std.specs.Prelude.{◌≡◌, ℕ, zero, suc, ◌+◌, ◌-◌, ◌^◌, true, false, min, List, [], Option}
use Rattle.std.specs.declared.alloc.Global.{Global}
use Rattle.atomic_blocks.specs.declared.web.Seat.{Seat}
use Rattle.crossbeam_queue.specs.SegTies.{SegId, IsSegPassOf}
use Rattle.crossbeam_queue.specs.declared.seg_queue.Going.{Going}
use Rattle.stream_pair.specs.declared.piece.Piece.{Piece}
use Rattle.stream_pair.specs.declared.order.Hand.{Hand}
use Rattle.stream_pair.specs.Order.{hand, HasBothEnds}

-- which stream it is; the two ends of a pair have the same
abbrev pub StreamId : Type 0
StreamId = SegId Global

-- the end that sends, and all that it has sent
pub record Sending : Type 0 where
  pub stream : StreamId
  pub sent : List Piece

-- the end that takes, all that it has taken, what it was last shown to have been sent, and its number of looks
pub record Taking : Type 0 where
  pub stream : StreamId
  pub taken : List Piece
  pub told : List Piece
  pub looks : ℕ

-- the number of looks after one more: it stands still at its type's last value
abbrev pub one_more_look : ℕ → ℕ
one_more_look looks = min (looks + 1) (2 ^ 64 - 1)

-- the number of looks after so many more
abbrev pub after_looks : ℕ → ℕ → ℕ
after_looks zero looks = looks
after_looks (suc more) looks = one_more_look (after_looks more looks)

abbrev pub Pass : Type 0
Pass = Seat (Option Piece) (Going Piece Hand) Global

abbrev pub sent_by : Pass → List Piece
sent_by pass = pass.me.view.client.sent

abbrev pub taken_by : Pass → List Piece
taken_by pass = pass.me.view.client.taken

-- the stream of this pass
abbrev pub stream_of : Pass → StreamId
stream_of pass = record { web = pass.web; heap = pass.heap }

-- the pass that may send on this stream, when this was sent
abbrev pub IsSender : StreamId → Pass → List Piece → Type 0
IsSender stream pass sent = IsSegPassOf stream pass × (pass.me.view.client ≡ hand true false sent [])

-- the pass that may take from this stream, when it was told of so much and this was taken
abbrev pub IsTaker : StreamId → Pass → List Piece → List Piece → Type 0
IsTaker stream pass told taken = IsSegPassOf stream pass × (pass.me.view.client ≡ hand false true told taken)

-- the pass that knows that this was sent, and may do nothing
abbrev pub IsReceipt : StreamId → Pass → List Piece → Type 0
IsReceipt stream pass sent = IsSegPassOf stream pass × (pass.me.view.client ≡ hand false false sent [])

-- the pass that may do both
abbrev pub IsBoth : StreamId → Pass → Type 0
IsBoth stream pass = IsSegPassOf stream pass × HasBothEnds pass.me.view.client
