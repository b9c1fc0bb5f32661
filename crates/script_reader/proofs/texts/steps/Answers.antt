use Rattle.std.proofs.Common.{ℕ, ◌+◌, drop, sym, ap, ◌∙◌, arith}
use Rattle.std.proofs.lemmas.Iterator.Adapters.{option_map_id}
use Rattle.script_reader.specs.Words.{texts}
use Rattle.script_reader.specs.Parts.{step}
use Rattle.script_reader.proofs.Each.{texts-next, texts-none, each-goes, each-stuck, each-done}
use Rattle.script_reader.proofs.texts.steps.Goals as goal

pub returns-in_default : goal.returns-in_default
returns-in_default c =
    let l = c.loop-word in
    let words = c.args.words.now in
    each-stuck step l.steps.items (texts (drop l.word-index words)) (texts (drop (l.word-index + 1) words)) _
    (texts-next words l.word-index _ (omega (arith, c.loop-word-test.true))) (sym c.step.ensures ∙ c.in_default.is)
    ∙ l.invariant.read

pub loop-word-init : goal.loop-word-init
loop-word-init c = rw c.in_ok-steps.ensures.items record {
  read = option_map_id _;
  len = c.in_ok-steps.ensures.len;
  room = c.in_ok-steps.ensures.capacity;
}

pub loop-word-preserved : goal.loop-word-preserved
loop-word-preserved c =
    let l = c.loop-word in
    let words = c.args.words.now in
    rw c.push_reserved.ensures.items record {
      read = each-goes step l.steps.items (texts (drop l.word-index words))
          (texts (drop (l.word-index + 1) words)) _ c.in-Some.step
          (texts-next words l.word-index _ (omega (arith, c.loop-word-test.true)))
          (sym c.in-Some.is ∙ c.step.ensures) ∙ l.invariant.read;
      len = c.push_reserved.ensures.len ∙ ap (λ (n : ℕ). n + 1) l.invariant.len;
      room = rw c.push_reserved.ensures.capacity l.invariant.room;
    }

pub returns : goal.returns
returns c =
    let l = c.loop-word in
    let words = c.args.words.now in
    rw c.from_vec.ensures (each-done step l.steps.items (texts (drop l.word-index words))
    (texts-none words l.word-index c.loop-word-test.false) ∙ l.invariant.read)
