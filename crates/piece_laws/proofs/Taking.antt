-- A taker feeds piece after piece of what was sent to its joiner.
use Rattle.std.proofs.Common.{◌≡◌, ◌≢◌, ℕ, ◌+◌, ◌≤◌, List, [], ◌∷◌, ◌++◌, length, Result, Ok, Err, refl, sym, ap, subst, ◌∙◌, append_assoc, arith}
use Rattle.std.specs.List.{AllByRecursion}
use Rattle.std.proofs.lemmas.List.{length-append, append-nil}
use Rattle.std.proofs.lemmas.List.Concat.{flat_map-cons, flat_map-append}
use Rattle.rpc_frame.specs.declared.frame.Frame.{Frame}
use Rattle.stream_pair.specs.declared.piece.Piece.{Piece}
use Rattle.stream_pair.specs.Pieces.{IsPiece}
use Rattle.stream_pair.proofs.Cuts.{the_pieces_are_the_bytes}
use Rattle.frame_bytes.specs.declared.fault.FrameFault.{FrameFault}
use Rattle.frame_bytes.specs.declared.fault.FrameFault.TheVariants.{Memory, TooLong, NotAFrame}
use Rattle.frame_bytes.specs.Fields.{word}
use Rattle.frame_bytes.specs.Frames.{frame_body, frame_bytes}
use Rattle.frame_bytes.specs.Ranges.{IsFrame}
use Rattle.frame_bytes.specs.Streams.{Left, Rest, Splits, Feeds}
use Rattle.log_laws.specs.Logs.{StampedFrame, stamped}
use Rattle.piece_laws.specs.Pieces.{pieces_of_frame, pieces_of, bytes_of, AreFrames, Took, TookNothing, TookPart, TookFrame}
use Rattle.piece_laws.specs.Laws.{IsBegun, GoesOn, AreFront, IsRightAnswer}
use Rattle.piece_laws.proofs.Readings.{IsAnswerOf, a_frame_is_read, a_front_is_no_frame, the_answer_is_the_reading}

-- ---- pieces and their bytes

-- the pieces of frames, and then those of one more
pub pieces_of_one_more : (sent : List StampedFrame) (s : StampedFrame)
    → pieces_of (sent ++ s ∷ []) ≡ pieces_of sent ++ pieces_of_frame s
pieces_of_one_more sent s =
    flat_map-append pieces_of_frame sent (s ∷ [])
    ∙ ap (λ (ps : List Piece). pieces_of sent ++ ps)
    (flat_map-cons pieces_of_frame s [] ∙ append-nil (pieces_of_frame s))

bytes_of_one : (p : Piece) → bytes_of (p ∷ []) ≡ p.bytes
bytes_of_one p = flat_map-cons (λ (q : Piece). q.bytes) p [] ∙ append-nil p.bytes

bytes_of_one_more : (ps : List Piece) (p : Piece) → bytes_of (ps ++ p ∷ []) ≡ bytes_of ps ++ p.bytes
bytes_of_one_more ps p =
    flat_map-append (λ (q : Piece). q.bytes) ps (p ∷ []) ∙ ap (λ (l : List ℕ). bytes_of ps ++ l) (bytes_of_one p)

in_the_middle : {X : Type 0} (P : X → Type 0) (front : List X) (x : X) (behind : List X)
    → AllByRecursion P (front ++ x ∷ behind) → P x
in_the_middle P [] x behind h = h.0
in_the_middle P (y ∷ front) x behind h = in_the_middle P front x behind h.1

-- where a frame's pieces are cut in two, so are its bytes
cut_bytes : (s : StampedFrame) (front behind : List Piece) → pieces_of_frame s ≡ front ++ behind
    → frame_bytes s.frame ≡ bytes_of front ++ bytes_of behind
cut_bytes s front behind cut =
    sym (the_pieces_are_the_bytes s.stamp (frame_bytes s.frame)).whole ∙ ap bytes_of cut
    ∙ flat_map-append (λ (p : Piece). p.bytes) front behind

-- a piece of a frame has its stamp, and at least one byte
its_piece : (s : StampedFrame) (front : List Piece) (p : Piece) (behind : List Piece)
    → pieces_of_frame s ≡ front ++ p ∷ behind → IsPiece s.stamp p
its_piece s front p behind cut =
    in_the_middle (IsPiece s.stamp) front p behind
    (subst (λ (ps : List Piece). AllByRecursion (IsPiece s.stamp) ps) cut
    (the_pieces_are_the_bytes s.stamp (frame_bytes s.frame)).each)

has_bytes : (stamp : ℕ) (p : Piece) (ps : List Piece) → IsPiece stamp p → 1 ≤ length (bytes_of (p ∷ ps))
has_bytes stamp p ps h =
    let some = h.some
    in let total : length (bytes_of (p ∷ ps)) ≡ length p.bytes + length (bytes_of ps) =
    ap length (flat_map-cons (λ (q : Piece). q.bytes) p ps) ∙ length-append p.bytes (bytes_of ps)
    in omega (arith, some, total)

a_frame_has_pieces : (s : StampedFrame) → pieces_of_frame s ≢ []
a_frame_has_pieces s none =
    let long = length-append (word (length (frame_body s.frame))) (frame_body s.frame)
    in let empty : length (frame_bytes s.frame) ≡ 0 =
    ap length (sym (the_pieces_are_the_bytes s.stamp (frame_bytes s.frame)).whole ∙ ap bytes_of none)
    in absurd (omega (arith, long, empty))

-- ---- where a taker stands

-- it has begun none of these frames, and all of their pieces are to come
has_begun_nothing : (sent : List StampedFrame) → GoesOn sent [] (pieces_of sent)
has_begun_nothing [] = (refl, refl)
has_begun_nothing (s ∷ further) =
    record {
      after = pieces_of_frame s;
      cut = refl;
      spelled = cut_bytes s [] (pieces_of_frame s) refl;
      short = a_frame_has_pieces s;
      others = flat_map-cons pieces_of_frame s further;
    }

-- one piece more, which isn't the frame's last one
has_begun_more : (s : StampedFrame) (further : List StampedFrame) (begun : List Piece) (p q : Piece)
    (later rest : List Piece) → pieces_of_frame s ≡ begun ++ p ∷ q ∷ later → rest ≡ (q ∷ later) ++ pieces_of further
    → IsBegun s further (begun ++ p ∷ []) rest
has_begun_more s further begun p q later rest cut others =
    let parts : pieces_of_frame s ≡ (begun ++ p ∷ []) ++ q ∷ later = cut ∙ sym (append_assoc begun (p ∷ []) (q ∷ later))
    in record {
      after = q ∷ later;
      cut = parts;
      spelled = cut_bytes s (begun ++ p ∷ []) (q ∷ later) parts;
      short = λ none. absurd cc;
      others = others;
    }

-- ---- what the joiner answers to the next piece

-- the frame's last piece completes it
last_piece_is_right : (sent got further : List StampedFrame) (s : StampedFrame) (p : Piece) (rest : List Piece)
    (answer : Result (List Frame) FrameFault) (new : Left) → sent ≡ got ++ s ∷ further → p.stamp ≡ s.stamp
    → rest ≡ pieces_of further → IsAnswerOf (s.frame ∷ []) [] answer new
    → IsRightAnswer sent got p rest answer new
last_piece_is_right sent got further s p rest (Ok []) new e stamp others a = let none = a.0 in absurd cc
last_piece_is_right sent got further s p rest (Ok (f ∷ [])) new e stamp others a =
    let given = a.0
    in let frame : s.frame ≡ f = cc
    in let same : s ≡ stamped p.stamp f = ap (λ (n : ℕ). stamped n s.frame) (sym stamp) ∙ ap (stamped p.stamp) frame
    in record {
      untaken = further;
      begun = [];
      whole = e ∙ sym (append_assoc got (s ∷ []) further)
          ∙ ap (λ (x : StampedFrame). (got ++ x ∷ []) ++ further) same;
      held = a.1;
      next = subst (λ (ps : List Piece). GoesOn further [] ps) (sym others) (has_begun_nothing further);
    }
last_piece_is_right sent got further s p rest (Ok (f ∷ g ∷ more)) new e stamp others a = let two = a.0 in absurd cc
last_piece_is_right sent got further s p rest (Err Memory) new e stamp others a = tt
last_piece_is_right sent got further s p rest (Err TooLong) new e stamp others a = a
last_piece_is_right sent got further s p rest (Err NotAFrame) new e stamp others a = a

-- any other piece of it completes nothing
part_is_right : (sent got further : List StampedFrame) (s : StampedFrame) (begun : List Piece) (p : Piece)
    (rest : List Piece) (answer : Result (List Frame) FrameFault) (new : Left) → sent ≡ got ++ s ∷ further
    → IsBegun s further (begun ++ p ∷ []) rest → IsAnswerOf [] (bytes_of begun ++ p.bytes) answer new
    → IsRightAnswer sent got p rest answer new
part_is_right sent got further s begun p rest (Ok []) new e more a =
    record {
      untaken = s ∷ further;
      begun = begun ++ p ∷ [];
      whole = e;
      held = a.1 ∙ ap Rest (sym (bytes_of_one_more begun p));
      next = more;
    }
part_is_right sent got further s begun p rest (Ok (f ∷ fs)) new e more a = let some = a.0 in absurd cc
part_is_right sent got further s begun p rest (Err Memory) new e more a = tt
part_is_right sent got further s begun p rest (Err TooLong) new e more a = a
part_is_right sent got further s begun p rest (Err NotAFrame) new e more a = a

-- the next piece of a frame that is begun
frames_piece_is_right : (sent got further : List StampedFrame) (s : StampedFrame) (begun : List Piece) (p : Piece)
    (later rest : List Piece) (answer : Result (List Frame) FrameFault) (new : Left) → IsFrame s.frame
    → sent ≡ got ++ s ∷ further → pieces_of_frame s ≡ begun ++ p ∷ later → rest ≡ later ++ pieces_of further
    → Feeds (Rest (bytes_of begun)) p.bytes answer new
    → IsRightAnswer sent got p rest answer new
frames_piece_is_right sent got further s begun p [] rest answer new h e cut others fed =
    let spelled : frame_bytes s.frame ≡ bytes_of begun ++ p.bytes =
    cut_bytes s begun (p ∷ []) cut ∙ ap (λ (l : List ℕ). bytes_of begun ++ l) (bytes_of_one p)
    in last_piece_is_right sent got further s p rest answer new e (its_piece s begun p [] cut).stamped others
    (the_answer_is_the_reading (bytes_of begun) p.bytes [] (s.frame ∷ []) answer new
    (subst (λ (l : List ℕ). Splits l (s.frame ∷ []) (Rest [])) spelled (a_frame_is_read s.frame h)) fed)
frames_piece_is_right sent got further s begun p (q ∷ later) rest answer new h e cut others fed =
    let more = has_begun_more s further begun p q later rest cut others
    in let spelled : frame_bytes s.frame ≡ (bytes_of begun ++ p.bytes) ++ bytes_of (q ∷ later) =
    cut_bytes s (begun ++ p ∷ []) (q ∷ later) (cut ∙ sym (append_assoc begun (p ∷ []) (q ∷ later)))
    ∙ ap (λ (l : List ℕ). l ++ bytes_of (q ∷ later)) (bytes_of_one_more begun p)
    in let some : 1 ≤ length (bytes_of (q ∷ later)) =
    has_bytes s.stamp q later
    (its_piece s (begun ++ p ∷ []) q later (cut ∙ sym (append_assoc begun (p ∷ []) (q ∷ later))))
    in part_is_right sent got further s begun p rest answer new e more
    (the_answer_is_the_reading (bytes_of begun) p.bytes (bytes_of begun ++ p.bytes) [] answer new
    (a_front_is_no_frame s.frame (bytes_of begun ++ p.bytes) (bytes_of (q ∷ later)) h spelled some) fed)

-- the pieces that are to come begin with this one, so it is the frame's next
begun_frame_is_right : (sent got further : List StampedFrame) (s : StampedFrame) (begun : List Piece) (p : Piece)
    (after rest : List Piece) (answer : Result (List Frame) FrameFault) (new : Left) → IsFrame s.frame
    → sent ≡ got ++ s ∷ further → pieces_of_frame s ≡ begun ++ after → after ≢ []
    → p ∷ rest ≡ after ++ pieces_of further
    → Feeds (Rest (bytes_of begun)) p.bytes answer new
    → IsRightAnswer sent got p rest answer new
begun_frame_is_right sent got further s begun p [] rest answer new h e cut short others fed = absurd (short refl)
begun_frame_is_right sent got further s begun p (q ∷ later) rest answer new h e cut short others fed =
    let first : q ≡ p = cc
    in let behind : rest ≡ later ++ pieces_of further = cc
    in frames_piece_is_right sent got further s begun p later rest answer new h e
    (cut ∙ ap (λ (x : Piece). begun ++ x ∷ later) first) behind fed

next_is_right : (sent got untaken : List StampedFrame) (begun : List Piece) (p : Piece) (rest : List Piece)
    (answer : Result (List Frame) FrameFault) (new : Left) → AreFrames sent → sent ≡ got ++ untaken
    → GoesOn untaken begun (p ∷ rest) → Feeds (Rest (bytes_of begun)) p.bytes answer new
    → IsRightAnswer sent got p rest answer new
next_is_right sent got [] begun p rest answer new frames e g fed = let none = g.1 in absurd cc
next_is_right sent got (s ∷ further) begun p rest answer new frames e g fed =
    let fits : IsFrame s.frame =
    in_the_middle (λ (x : StampedFrame). IsFrame x.frame) got s further
    (subst (λ (l : List StampedFrame). AreFrames l) e frames)
    in begun_frame_is_right sent got further s begun p g.after rest answer new fits e g.cut g.short g.others fed

-- a joiner with the front of what was sent answers rightly to the next piece
pub the_next_answer_is_right : (sent got : List StampedFrame) (p : Piece) (rest : List Piece) (left new : Left)
    (answer : Result (List Frame) FrameFault) → AreFrames sent → AreFront sent got (p ∷ rest) left
    → Feeds left p.bytes answer new
    → IsRightAnswer sent got p rest answer new
the_next_answer_is_right sent got p rest left new answer frames front fed =
    next_is_right sent got front.untaken front.begun p rest answer new frames front.whole front.next
    (subst (λ (l : Left). Feeds l p.bytes answer new) front.held fed)

-- ---- and so for all pieces

took_the_front : (sent : List StampedFrame) → AreFrames sent → (taken : List Piece) (got : List StampedFrame)
    (left : Left) → Took taken got left → (rest : List Piece) → pieces_of sent ≡ taken ++ rest
    → AreFront sent got rest left
took_the_front sent frames taken got left TookNothing rest parts =
    record {
      untaken = sent;
      begun = [];
      whole = refl;
      held = refl;
      next = subst (λ (ps : List Piece). GoesOn sent [] ps) parts (has_begun_nothing sent);
    }
took_the_front sent frames taken got left (TookPart {taken = t} {got = g} {old = o} took p new fed) rest parts =
    the_next_answer_is_right sent g p rest o new (Ok []) frames
    (took_the_front sent frames t g o took (p ∷ rest) (parts ∙ append_assoc t (p ∷ []) rest)) fed
took_the_front sent frames taken got left (TookFrame {taken = t} {got = g} {old = o} took p f new fed) rest parts =
    the_next_answer_is_right sent g p rest o new (Ok (f ∷ [])) frames
    (took_the_front sent frames t g o took (p ∷ rest) (parts ∙ append_assoc t (p ∷ []) rest)) fed

-- the frames that a taker got are the first of those that were sent
pub taken_are_sent_lemma : (sent got : List StampedFrame) (taken rest : List Piece) (left : Left) → AreFrames sent
    → pieces_of sent ≡ taken ++ rest → Took taken got left
    → AreFront sent got rest left
taken_are_sent_lemma sent got taken rest left frames parts took =
    took_the_front sent frames taken got left took rest parts

-- and the next piece completes nothing, or the next frame
pub the_next_is_sent_lemma : (sent got : List StampedFrame) (taken rest : List Piece) (p : Piece) (left new : Left)
    (answer : Result (List Frame) FrameFault) → AreFrames sent → pieces_of sent ≡ (taken ++ p ∷ []) ++ rest
    → Took taken got left → Feeds left p.bytes answer new
    → IsRightAnswer sent got p rest answer new
the_next_is_sent_lemma sent got taken rest p left new answer frames parts took fed =
    the_next_answer_is_right sent got p rest left new answer frames
    (took_the_front sent frames taken got left took (p ∷ rest) (parts ∙ append_assoc taken (p ∷ []) rest)) fed
