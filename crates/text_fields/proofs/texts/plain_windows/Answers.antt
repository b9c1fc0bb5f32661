use Rattle.std.proofs.Common.{◌≡◌, ◌∙◌, ◌+◌, ◌-◌, true, ℕ, take, drop, sym, subst, arith}
use Rattle.std.specs.List.{list_all}
use Rattle.kernel_model.specs.Texts.{is_plain}
use Rattle.text_fields.proofs.PlainRuns.{all-further}
use Rattle.text_fields.proofs.texts.plain_windows.Goals as goal

pub loop-count-preserved : goal.loop-count-preserved
loop-count-preserved c =
    let window : c.loop-count.count + 16 - c.loop-count.count ≡ 16 = omega arith in (
      omega (arith, c.loop-count-test.true),
      all-further is_plain c.loop-count.count 16 c.args.bytes.now c.loop-count.invariant.1
          (subst (λ (n : ℕ). list_all is_plain (take n (drop c.loop-count.count c.args.bytes.now)) ≡ true) window
          (sym c.all_plain.ensures ∙ c.if-all_plain.true)),
    )
