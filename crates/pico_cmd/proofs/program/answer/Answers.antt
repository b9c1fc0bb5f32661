use Rattle.std.proofs.Common.{◌≡◌, Option, subst, ◌∙◌}
use Rattle.std.specs.Prelude.{IfOk, OnOk, IfErr, IfSome}
use Rattle.pico_words.specs.declared.words.Request.{Request}
use Rattle.pico_cmd.specs.declared.answer.Answer.{Answer}
use Rattle.pico_cmd.specs.declared.status.Status.{Status}
use Rattle.pico_cmd.specs.Promise.{Allows, EachCause}
use Rattle.pico_cmd.specs.Stop.{IsReadFault, Reads, left_behind, most_read}
use Rattle.pico_cmd.proofs.program.answer.Goals as goal

pub returns-clause-answer : goal.returns-clause-answer
returns-clause-answer g c =
    subst
    (λ (o : Option Request). IfOk c.answer_asked.result
    (λ (a : Answer). Allows o (g.S.Source.left c.args.source.now) a.status a.text a.rested))
    c.in_ok-asked.ensures c.answer_asked.ensures.answer

pub returns-clause-usage : goal.returns-clause-usage
returns-clause-usage g c none = c.answer_asked.ensures.usage (c.in_ok-asked.ensures ∙ none)

pub returns-clause-causes : goal.returns-clause-causes
returns-clause-causes g c =
    subst
    (λ (o : Option Request). EachCause o (g.S.Source.left c.args.source.now)
    (λ (s : Status). IfOk c.answer_asked.result (λ (a : Answer). a.status ≡ s)))
    c.in_ok-asked.ensures c.answer_asked.ensures.causes

pub returns-clause-rest : goal.returns-clause-rest
returns-clause-rest g c =
    subst
    (λ (o : Option Request). IfSome o (λ (r : Request). OnOk c.answer_asked.result
    (g.S.Source.left c.answer_asked.new.source ≡ left_behind (most_read r) (g.S.Source.left c.args.source.now))))
    c.in_ok-asked.ensures c.answer_asked.ensures.rest

pub returns-clause-read : goal.returns-clause-read
returns-clause-read g c =
    subst (λ (o : Option Request). IfErr c.answer_asked.result (IsReadFault (Reads o)))
    c.in_ok-asked.ensures c.answer_asked.ensures.read

pub returns-clause-untouched : goal.returns-clause-untouched
returns-clause-untouched g c unread =
    c.answer_asked.ensures.untouched (λ reads. unread (subst Reads c.in_ok-asked.ensures reads))
