use Rattle.std.proofs.Common.{◌++◌, ap, sym, ◌∙◌}
use Rattle.pico_base.specs.declared.signal.Sig.TheVariants.{Hup}
use Rattle.pico_base.specs.Signal.{at, all_signals}
use Rattle.kernel_model.specs.Trace.{commas, signal_name}
use Rattle.trace_text.proofs.Appends.{two_parts_more}
use Rattle.trace_text.proofs.Members.{member-marked, names-grow, members-stay, some-begun, some-stay}
use Rattle.trace_text.proofs.names.push_members.Goals as goal
use Rattle.trace_text.proofs.names.push_members.Goals.{then-marks-place+in_ok-push_member, else-marks-place}

pub loop-place-preserved : goal.loop-place-preserved
loop-place-preserved c =
    let within = c.loop-place-test.true in
    let so-far = c.loop-place.invariant in
    let marks = c.marks_of-marks.ensures in
    elim c.if-marks-place.branch [
      | then-marks-place+in_ok-push_member w ↦
          let is = member-marked (at c.args.set) _ all_signals _ _ _ _ within marks w.if-marks-place.true
          in record {
            names = ap (λ v. v.items) w.out-is
                ∙ two_parts_more _ _ _ _ _ _ _ so-far.names w.in_ok-push_member.ensures
                (names-grow _ all_signals _ _ within _ so-far.begun is);
            begun = w.begun-is ∙ some-begun _ all_signals _ _ within is;
          }
      | else-marks-place w ↦
          let not = member-marked (at c.args.set) _ all_signals _ Hup _ _ within marks w.if-marks-place.false in
          let same = sym (members-stay _ all_signals _ _ within not)
          in record {
            names = ap (λ v. v.items) w.out-is ∙ so-far.names
                ∙ ap (λ xs. c.args.out.now.items ++ commas signal_name xs) same;
            begun = w.begun-is ∙ so-far.begun ∙ sym (some-stay _ all_signals _ _ within not);
          }
    ]
