-- Lines with the pieces of frames that were sent.
use Rattle.std.proofs.Common.{◌≡◌, ◌≢◌, ℕ, zero, suc, ◌<◌, Bool, true, false, ◌&&◌, nat_eq, List, [], ◌∷◌, ◌++◌, length, get_or, map, refl, sym, ap, ◌∙◌, append_assoc, arith}
use Rattle.std.proofs.lemmas.List.{append-nil, map-append}
use Rattle.std.proofs.lemmas.Grind.{flat_map-append}
use Rattle.std.proofs.lemmas.Bool.{eq-eqb, ne_eqb, false≢true}
use Rattle.rpc_frame.specs.declared.frame.Frame.{Frame}
use Rattle.stream_pair.specs.declared.piece.Piece.{Piece}
use Rattle.stream_pair.specs.Pieces.{pieces}
use Rattle.frame_bytes.specs.Frames.{frame_bytes}
use Rattle.frame_bytes.specs.Limits.{IsWithinLimits, is_frame}
use Rattle.piece_laws.specs.Pieces.{pieces_of, pieces_of_frame}
use Rattle.log_laws.specs.Logs.{frame_if, sent_to, stamped}
use Rattle.log_model.specs.Views.{Line}
use Rattle.log_model.specs.Turns.{has_line, may_send, with_sent}
use Rattle.node_lines.specs.Lines.{with_bytes}

-- the line with these pieces sent
abbrev with_pieces : Line → List Piece → Line
with_pieces line sent = record line { out = record { stream = line.out.stream; sent = sent } }

-- the pieces of frames that are sent under one stamp
abbrev pieces_under : ℕ → List Frame → List Piece
pieces_under stamp frames = pieces_of (map (stamped stamp) frames)

pieces-append : (stamp : ℕ) (fs gs : List Frame)
    → pieces_under stamp (fs ++ gs) ≡ pieces_under stamp fs ++ pieces_under stamp gs
pieces-append stamp fs gs =
    ap pieces_of (map-append (stamped stamp) fs gs)
    ∙ flat_map-append pieces_of_frame (map (stamped stamp) fs) (map (stamped stamp) gs)

-- a frame that is sent alone goes to the line with its receiver
pub with_sent-one : (stamp to : ℕ) (frame : Frame) (line : Line) → line.other ≡ to
    → with_bytes stamp (frame_bytes frame) line ≡ with_sent stamp ((to, frame) ∷ []) line
with_sent-one stamp to frame line e =
    ap (with_pieces line)
    (ap (λ ps. line.out.sent ++ ps) (sym (append-nil (pieces stamp (frame_bytes frame))))
    ∙ ap (λ b. line.out.sent ++ pieces_under stamp (frame_if b frame ++ []))
    (sym (eq-eqb to line.other (sym e))))

-- and leaves the others as they are
pub with_sent-other : (stamp to : ℕ) (frame : Frame) (line : Line) → line.other ≢ to
    → line ≡ with_sent stamp ((to, frame) ∷ []) line
with_sent-other stamp to frame line d =
    ap (with_pieces line)
    (sym (append-nil line.out.sent)
    ∙ ap (λ b. line.out.sent ++ pieces_under stamp (frame_if b frame ++ []))
    (sym (ne_eqb to line.other (λ e. d (sym e)))))

-- nothing is sent
pub with_sent-none : (stamp : ℕ) (line : Line) → with_sent stamp [] line ≡ line
with_sent-none stamp line = ap (with_pieces line) (append-nil line.out.sent)

-- one is sent, and then the others
with_sent-further : (stamp : ℕ) (s : ℕ × Frame) (rest : List (ℕ × Frame)) (line : Line)
    → with_sent stamp rest (with_sent stamp (s ∷ []) line) ≡ with_sent stamp (s ∷ rest) line
with_sent-further stamp s rest line =
    let first = frame_if (nat_eq s.0 line.other) s.1 in
    let others = sent_to line.other rest in
    ap (with_pieces line)
    (append_assoc line.out.sent (pieces_under stamp (first ++ [])) (pieces_under stamp others)
    ∙ ap (λ fs. line.out.sent ++ (pieces_under stamp fs ++ pieces_under stamp others)) (append-nil first)
    ∙ ap (λ ps. line.out.sent ++ ps) (sym (pieces-append stamp first others)))

both : {X : Type 0} (x y : X) (xs ys : List X) → x ≡ y → xs ≡ ys → x ∷ xs ≡ y ∷ ys
both x y xs ys e f = λ i. e i ∷ f i

-- one frame, and then the others, are all of them
pub all_sent-further : (stamp : ℕ) (s : ℕ × Frame) (rest : List (ℕ × Frame)) (lines : List Line)
    → map (with_sent stamp rest) (map (with_sent stamp (s ∷ [])) lines) ≡ map (with_sent stamp (s ∷ rest)) lines
all_sent-further stamp s rest [] = refl
all_sent-further stamp s rest (line ∷ lines) =
    both _ _ _ _ (with_sent-further stamp s rest line) (all_sent-further stamp s rest lines)

-- no frames leave the lines as they are
pub all_sent-none : (stamp : ℕ) (lines : List Line) → map (with_sent stamp []) lines ≡ lines
all_sent-none stamp [] = refl
all_sent-none stamp (line ∷ lines) = both _ _ _ _ (with_sent-none stamp line) (all_sent-none stamp lines)

-- what may be sent is within the limits
right-of : (a b : Bool) → a && b ≡ true → b ≡ true
right-of true b h = h
right-of false b h = absurd (false≢true h)

left-of : (a b : Bool) → a && b ≡ true → a ≡ true
left-of true b h = refl
left-of false b h = h

-- each frame that may be sent is within the limits
pub may_send-within : (lines : List Line) (sends : List (ℕ × Frame)) (i : ℕ) (d : ℕ × Frame)
    → may_send lines sends ≡ true → i < length sends → IsWithinLimits (get_or sends i d).1
may_send-within lines [] i d h below = absurd (omega arith)
may_send-within lines (s ∷ sends) zero d h below =
    let first = has_line lines s.0 && is_frame s.1 in
    right-of (has_line lines s.0) (is_frame s.1) (left-of first (may_send lines sends) h)
may_send-within lines (s ∷ sends) (suc i) d h below =
    may_send-within lines sends i d
    (right-of (has_line lines s.0 && is_frame s.1) (may_send lines sends) h) (omega arith)
