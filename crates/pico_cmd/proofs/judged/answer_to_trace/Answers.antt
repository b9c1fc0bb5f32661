use Rattle.std.proofs.Common.{inl, inr}
use Rattle.pico_cmd.proofs.Verdicts.{refused_first, refused_not_memory}
use Rattle.pico_cmd.proofs.judged.answer_to_trace.Goals as goal

pub returns-in_ok-text_of_legal-in-Ok-clause-answer : goal.returns-in_ok-text_of_legal-in-Ok-clause-answer
returns-in_ok-text_of_legal-in-Ok-clause-answer c =
    record {
      entries = c.in-Ok.legal.entries;
      legal = c.in-Ok.ensures.legal;
      is_text = c.in_ok-text_of_legal-in-Ok.ensures;
    }

pub returns-in_ok-text_of_legal-in-Ok-clause-refused : goal.returns-in_ok-text_of_legal-in-Ok-clause-refused
returns-in_ok-text_of_legal-in-Ok-clause-refused c fault is refusal = absurd (let e = c.in-Ok.ensures.gives in cc)

pub returns-in_ok-text_of_refusal-in-Err-clause-answer : goal.returns-in_ok-text_of_refusal-in-Err-clause-answer
returns-in_ok-text_of_refusal-in-Err-clause-answer c =
    record {
      fault = c.in-Err.fault;
      is_refusal = c.in_ok-text_of_refusal-in-Err.ensures.refusal;
      first =
          refused_first c.in-Err.fault _ c.in_ok-text_of_refusal-in-Err.ensures.refusal c.in-Err.ensures.gives;
      is_text = c.in_ok-text_of_refusal-in-Err.ensures.text;
    }

pub returns-in_ok-text_of_refusal-in-Err-clause-legal : goal.returns-in_ok-text_of_refusal-in-Err-clause-legal
returns-in_ok-text_of_refusal-in-Err-clause-legal c history h =
    elim (c.in-Err.ensures.only history h) [
      | inl e ↦ absurd cc
      | inr e ↦ absurd (refused_not_memory c.in-Err.fault c.in_ok-text_of_refusal-in-Err.ensures.refusal e)
    ]
