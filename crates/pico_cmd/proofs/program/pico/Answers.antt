use Rattle.pico_cmd.proofs.Promises.{wrote, wrote_front, none_memory, none_read_fault, not_told, rest_told, rest_memory, rest_read_fault}
use Rattle.pico_cmd.proofs.Causes.{exactly_written, exactly_memory, exactly_read_fault, complete_written, complete_memory}
use Rattle.pico_words.specs.Words.{request_in}
use Rattle.std.proofs.Common.{map}
use Rattle.std.specs.Prelude.{string_bytes}
use Rattle.pico_cmd.proofs.program.pico.Goals as goal

pub returns-in-Ok-clause-done : goal.returns-in-Ok-clause-done
returns-in-Ok-clause-done g c e =
    wrote _ _ _ _ _ _ _ _ _ _ _ c.in-Ok.ensures.answer c.write_answer.ensures.written c.write_answer.ensures.rested e
    (λ n. cc)

pub returns-in-Ok-clause-stalled : goal.returns-in-Ok-clause-stalled
returns-in-Ok-clause-stalled g c e =
    wrote _ _ _ _ _ _ _ _ _ _ _ c.in-Ok.ensures.answer c.write_answer.ensures.written c.write_answer.ensures.rested e
    (λ n. cc)

pub returns-in-Ok-clause-bad_script : goal.returns-in-Ok-clause-bad_script
returns-in-Ok-clause-bad_script g c e =
    wrote _ _ _ _ _ _ _ _ _ _ _ c.in-Ok.ensures.answer c.write_answer.ensures.written c.write_answer.ensures.rested e
    (λ n. cc)

pub returns-in-Ok-clause-not_legal : goal.returns-in-Ok-clause-not_legal
returns-in-Ok-clause-not_legal g c e =
    wrote _ _ _ _ _ _ _ _ _ _ _ c.in-Ok.ensures.answer c.write_answer.ensures.written c.write_answer.ensures.rested e
    (λ n. cc)

pub returns-in-Ok-clause-bad_image : goal.returns-in-Ok-clause-bad_image
returns-in-Ok-clause-bad_image g c e =
    wrote _ _ _ _ _ _ _ _ _ _ _ c.in-Ok.ensures.answer c.write_answer.ensures.written c.write_answer.ensures.rested e
    (λ n. cc)

pub returns-in-Ok-clause-usage : goal.returns-in-Ok-clause-usage
returns-in-Ok-clause-usage g c e =
    wrote _ _ _ _ _ _ _ _ _ _ _ c.in-Ok.ensures.answer c.write_answer.ensures.written c.write_answer.ensures.rested e
    (λ n. cc)

pub returns-in-Ok-clause-memory : goal.returns-in-Ok-clause-memory
returns-in-Ok-clause-memory g c e =
    absurd
    (not_told _ _ _ _ _ _ _ _ _ _ c.in-Ok.ensures.answer c.write_answer.ensures.written e (none_memory _ _ _ _)
    (λ n. cc))

pub returns-in-Ok-clause-memory_calm : goal.returns-in-Ok-clause-memory_calm
returns-in-Ok-clause-memory_calm g c e =
    absurd
    (not_told _ _ _ _ _ _ _ _ _ _ c.in-Ok.ensures.answer c.write_answer.ensures.written e (none_memory _ _ _ _)
    (λ n. cc))

pub returns-in-Ok-clause-read_fault : goal.returns-in-Ok-clause-read_fault
returns-in-Ok-clause-read_fault g c e =
    absurd
    (not_told _ _ _ _ _ _ _ _ _ _ c.in-Ok.ensures.answer c.write_answer.ensures.written e (none_read_fault _ _ _ _)
    (λ n. cc))

pub returns-in-Ok-clause-read_cause : goal.returns-in-Ok-clause-read_cause
returns-in-Ok-clause-read_cause g c e =
    absurd
    (not_told _ _ _ _ _ _ _ _ _ _ c.in-Ok.ensures.answer c.write_answer.ensures.written e (none_read_fault _ _ _ _)
    (λ n. cc))

pub returns-in-Ok-clause-write_front : goal.returns-in-Ok-clause-write_front
returns-in-Ok-clause-write_front g c e =
    wrote_front _ _ _ _ _ _ _ _ _ _ c.in-Ok.ensures.answer c.write_answer.ensures.written
    c.write_answer.ensures.rested e

pub returns-in-Ok-clause-exactly : goal.returns-in-Ok-clause-exactly
returns-in-Ok-clause-exactly g c =
    exactly_written (request_in (map string_bytes c.args.words.now)) (g.S.Source.left c.args.source.now) _ _ _ _ _ _
    c.in-Ok.ensures.causes c.write_answer.ensures.written

pub returns-in-Ok-clause-complete : goal.returns-in-Ok-clause-complete
returns-in-Ok-clause-complete g c no_read_fault no_write_fault =
    complete_written (request_in (map string_bytes c.args.words.now)) (g.S.Source.left c.args.source.now) _ _ _ _ _ _
    c.in-Ok.ensures.causes c.write_answer.ensures.written no_write_fault

pub returns-in-Ok-clause-rest : goal.returns-in-Ok-clause-rest
returns-in-Ok-clause-rest g c =
    rest_told (request_in (map string_bytes c.args.words.now)) _ _ _ _ c.in-Ok.ensures.rest

pub returns-in-Err-Memory-clause-rest : goal.returns-in-Err-Memory-clause-rest
returns-in-Err-Memory-clause-rest g c = rest_memory (request_in (map string_bytes c.args.words.now)) _ _ _

pub returns-in-Err-ReadFault-clause-rest : goal.returns-in-Err-ReadFault-clause-rest
returns-in-Err-ReadFault-clause-rest g c = rest_read_fault (request_in (map string_bytes c.args.words.now)) _ _ _

pub returns-in-Err-Memory-clause-exactly : goal.returns-in-Err-Memory-clause-exactly
returns-in-Err-Memory-clause-exactly g c =
    exactly_memory (request_in (map string_bytes c.args.words.now)) (g.S.Source.left c.args.source.now)

pub returns-in-Err-ReadFault-clause-exactly : goal.returns-in-Err-ReadFault-clause-exactly
returns-in-Err-ReadFault-clause-exactly g c =
    exactly_read_fault (request_in (map string_bytes c.args.words.now)) (g.S.Source.left c.args.source.now)

pub returns-in-Err-Memory-clause-complete : goal.returns-in-Err-Memory-clause-complete
returns-in-Err-Memory-clause-complete g c no_read_fault no_write_fault =
    complete_memory (request_in (map string_bytes c.args.words.now)) (g.S.Source.left c.args.source.now)

pub returns-in-Err-ReadFault-clause-complete : goal.returns-in-Err-ReadFault-clause-complete
returns-in-Err-ReadFault-clause-complete g c no_read_fault no_write_fault =
    absurd
    (no_read_fault (rw c.in-Err-ReadFault.field-0-is at c.in-Err-ReadFault.ensures.read)
    (rw c.in-Err-ReadFault.field-0-is at c.in-Err-ReadFault.ensures.stop))
