use Rattle.std.proofs.Common.{ℕ, ◌+◌, drop, sym, ap, ◌∙◌, arith}
use Rattle.std.proofs.lemmas.Iterator.Adapters.{option_map_id}
use Rattle.script_reader.specs.Words.{texts}
use Rattle.script_reader.specs.Parts.{number}
use Rattle.script_reader.proofs.Each.{texts-next, texts-none, each-goes, each-stuck, each-done}
use Rattle.script_reader.proofs.texts.numbers.Goals as goal

pub returns-in_default : goal.returns-in_default
returns-in_default c =
    let l = c.loop-word in
    let words = c.args.words.now in
    each-stuck (number 65535) l.values.items (texts (drop l.word-index words)) (texts (drop (l.word-index + 1) words)) _
    (texts-next words l.word-index _ (omega (arith, c.loop-word-test.true)))
    (sym c.number.ensures.value ∙ c.in_default.is) ∙ l.invariant.read

pub loop-word-init : goal.loop-word-init
loop-word-init c = rw c.in_ok-values.ensures.items record {
  read = option_map_id _;
  len = c.in_ok-values.ensures.len;
  room = c.in_ok-values.ensures.capacity;
}

pub loop-word-preserved : goal.loop-word-preserved
loop-word-preserved c =
    let l = c.loop-word in
    let words = c.args.words.now in
    rw c.push_reserved.ensures.items record {
      read = each-goes (number 65535) l.values.items (texts (drop l.word-index words))
          (texts (drop (l.word-index + 1) words)) _ c.in-Some.value
          (texts-next words l.word-index _ (omega (arith, c.loop-word-test.true)))
          (sym c.in-Some.is ∙ c.number.ensures.value) ∙ l.invariant.read;
      len = c.push_reserved.ensures.len ∙ ap (λ (n : ℕ). n + 1) l.invariant.len;
      room = rw c.push_reserved.ensures.capacity l.invariant.room;
    }

pub returns : goal.returns
returns c =
    let l = c.loop-word in
    let words = c.args.words.now in
    rw c.from_vec.ensures (each-done (number 65535) l.values.items (texts (drop l.word-index words))
    (texts-none words l.word-index c.loop-word-test.false) ∙ l.invariant.read)
