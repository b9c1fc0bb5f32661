use Rattle.std.proofs.Common.{[], ◌∷◌, ◌++◌, rules, sym, ap, ◌∙◌, append_assoc, min, length, Result, Ok, Err}
use Rattle.std.specs.Prelude.{OnErr}
use Rattle.std.specs.Slice.Iter.{chunks_rest}
use Rattle.stream_pair.specs.Pieces.{piece, pieces}
use Rattle.stream_pair.proofs.Cuts.{pieces_begin_with_the_chunk, first_item_is_there}
use Rattle.stream_pair.proofs.outlet.Out.send.Goals as goal

on_err : {T E : Type 0} (r : Result T E) (P : Type 0) → P → OnErr r P
on_err (Ok x) P p = tt
on_err (Err e) P p = p

pub loop-front-preserved : goal.loop-front-preserved
loop-front-preserved g c =
    let so_far = c.loop-front.invariant.4 in
    let steps = c.in-Some.ensures.steps in
    let left = chunks_rest c.loop-front.front-iterator in
    let front = piece c.args.stamp c.in-Some.front.now in
    let size = steps.1.1 ∙ ap (λ n. min n (length left)) c.loop-front.invariant.2 in
    let cut = pieces_begin_with_the_chunk c.args.stamp left c.in-Some.front.now
    (chunks_rest c.next.new.self) steps.1.0 size steps.1.2 in (
      search rules,
      tt,
      steps.0 ∙ c.loop-front.invariant.2,
      c.in_ok-send_piece.ensures.stream ∙ c.loop-front.invariant.3,
      (
        so_far.0 ++ front ∷ [],
        c.in_ok-send_piece.ensures.sent ∙ ap (λ l. l ++ front ∷ []) so_far.1
            ∙ append_assoc c.args.self.now.sent so_far.0 (front ∷ []),
        append_assoc so_far.0 (front ∷ []) _ ∙ ap (λ l. so_far.0 ++ l) (sym cut) ∙ so_far.2,
      ),
    )

pub returns-in_err-send_piece-clause-refused : goal.returns-in_err-send_piece-clause-refused
returns-in_err-send_piece-clause-refused g c =
    let so_far = c.loop-front.invariant.4 in
    let steps = c.in-Some.ensures.steps in
    let left = chunks_rest c.loop-front.front-iterator in
    let size = steps.1.1 ∙ ap (λ n. min n (length left)) c.loop-front.invariant.2 in
    let cut = pieces_begin_with_the_chunk c.args.stamp left c.in-Some.front.now
    (chunks_rest c.next.new.self) steps.1.0 size steps.1.2 in
    on_err c.from_residual.result _ record {
      front = so_far.0;
      left = pieces c.args.stamp left;
      sent = c.in_err-send_piece.ensures.refused ∙ so_far.1;
      whole = sym so_far.2;
      refused = first_item_is_there _ _ _ cut;
    }
