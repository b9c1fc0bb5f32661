-- Worked examples, computed by the checker: inputs that are read, and for each fault inputs that are refused.
use Rattle.std.specs.Prelude.{◌≡◌, ℕ, List, [], ◌∷◌, ◌++◌, codes, refl, Ok, Err}
use Rattle.std.specs.Fmt.{digits}
use Rattle.std.specs.List.{AllByRecursion, flat_map}
use Rattle.std.specs.Str.{is_utf8, chars}
use Rattle.std.specs.Str.Lossy.{utf8_valid_len}
use lib.Utf8.{encode}
use Rattle.quoted_bytes.specs.Front.{strip}
use Rattle.quoted_bytes.specs.Bytes.{hex_at, escape_at, text_byte_at}
use Rattle.kernel_model.specs.FirstExample.{hello, hello_history}
use Rattle.kernel_model.specs.Trace.{entries_total, processes_total, not_ready_total, refused_total}
use Rattle.script_reader.specs.declared.fault.ScriptFault.TheVariants.{NotUtf8, NoProc, NoEnd, UnknownCall, UnknownProc}
use Rattle.script_reader.specs.Words.{words_in}
use Rattle.script_reader.specs.Parts.{cut, each, number, positive, signed, variable, quoted_at, letter, counted, repetition, text}
use Rattle.call_words.specs.Verbs.{verb_of}
use Rattle.script_reader.specs.Forms.{identifier, process, optional, two_optional, keyed_queue, private_queue, msgget_of, msgsnd_of, msgrcv_of}
use Rattle.script_reader.specs.Parts as script_parts
use Rattle.script_reader.specs.Says.{opened_by, number_of, set_at, tries_at, fork_said, other_said, verb_said, call_said, line_said, proc_said, end_said, is_comment, words_said}
use Rattle.script_reader.specs.Fault as script
use Rattle.script_reader.specs.Fault.{no_flags, start, begun_with, blocks_from, blocks_of}
use Rattle.sandbox_set.specs.declared.read.Sandbox.{Sandbox as Box}
use Rattle.sandbox_set.specs.declared.fault.BoxFault.{BoxFault}
use Rattle.sandbox_set.specs.declared.fault.BoxFault.TheVariants.{Script, NoSandbox, NoEndSandbox, SandboxTwice, TooManySandboxes, TooManyNodes}
use Rattle.sandbox_set.specs.declared.fault.BoxStop.TheVariants.{At}
use Rattle.sandbox_set.specs.Boxes.{heading_of, name_in, read_behind, has_fault, own_fault, boxes_from, boxes_of, outcome}
use Rattle.sandbox_set.specs.Text.{boxes_text}

-- ---- what the examples compute with

unfoldable pub on_bytes : Unit {0}
unfolding outcome utf8_valid_len is_utf8 chars encode
on_bytes = tt

unfoldable pub on_lines : Unit {0}
unfolding boxes_of boxes_from heading_of name_in has_fault own_fault read_behind
on_lines = tt

unfoldable pub on_scripts : Unit {0}
unfolding blocks_of blocks_from start no_flags begun_with script.has_fault script.fault_of number_of
on_scripts = tt

unfoldable pub on_words : Unit {0}
unfolding words_in words_said proc_said end_said line_said set_at tries_at call_said verb_said is_comment verb_of
on_words = tt

unfoldable pub on_calls : Unit {0}
unfolding fork_said other_said keyed_queue private_queue msgget_of msgsnd_of msgrcv_of optional two_optional
on_calls = tt

unfoldable pub on_fields : Unit {0}
unfolding cut each number positive signed variable quoted_at letter counted repetition text identifier process
on_fields = tt

unfoldable pub on_texts : Unit {0}
unfolding strip hex_at escape_at text_byte_at script_parts.digits opened_by
on_texts = tt

-- ---- two sandboxes of one script

abbrev pub hello_text : List ℕ
hello_text = codes "proc main\nq = msgget private\nmsgsnd $q 1 \"hi\" nowait\nmsgrcv $q 0 16 nowait\nend\n"

abbrev pub two_inputs : List ℕ
two_inputs = codes "sandbox a\n" ++ hello_text ++ codes "endsandbox\nsandbox b\n" ++ hello_text ++ codes "endsandbox\n"

abbrev pub two_boxes : List Box
two_boxes = record { name = codes "a"; script = hello } ∷ record { name = codes "b"; script = hello } ∷ []

abbrev pub hello_trace : List ℕ
hello_trace =
    codes "1 msgget private = 1 by 1\n1 msgsnd 1 1 \"hi\" nowait = 0 by 1\n1 msgrcv 1 0 16 nowait = 1 \"hi\" by 1\n"
    ++ codes "1 exit 0 = ended by 1\ntotals entries 4 processes 1 notready 0 refused 0\n"

-- each has its own trace
pub two_texts : boxes_text two_boxes (hello_history ∷ hello_history ∷ [])
    ≡ codes "sandbox a\n" ++ hello_trace ++ codes "sandbox b\n" ++ hello_trace
unfolding boxes_text digits entries_total processes_total not_ready_total refused_total
two_texts = refl

-- ---- inputs that are refused

-- a sandbox of this name with one process
abbrev pub plain : List ℕ → List ℕ
plain name = codes "sandbox " ++ name ++ codes "\nproc m\nend\nendsandbox\n"

-- a sandbox of this name with eight processes, on 25 lines
abbrev pub eight : List ℕ → List ℕ
eight name =
    codes "sandbox " ++ name ++ codes "\nproc m\n"
    ++ codes "fork a\nfork b\nfork c\nfork d\nfork e\nfork f\nfork g\nend\n"
    ++ flat_map (λ n. codes "proc " ++ n ∷ codes "\nend\n") (codes "abcdefg")
    ++ codes "endsandbox\n"

-- an input, and the line and the fault that is told
pub record Refused : Type 0 where
  pub input : List ℕ
  pub line : ℕ
  pub fault : BoxFault

abbrev pub refused : List ℕ → ℕ → BoxFault → Refused
refused input line fault = record { input = input; line = line; fault = fault }

abbrev pub refusals : List Refused
refusals =
    -- no line with words, and words outside a sandbox
    refused (codes "# nothing\n") 1 NoSandbox
    ∷ refused (codes "\nproc m\n") 2 NoSandbox
    ∷ refused (codes "sandbox A\n") 1 NoSandbox
    -- the input ends inside a sandbox, and a sandbox begins inside another
    ∷ refused (codes "sandbox a\n") 2 NoEndSandbox
    ∷ refused (codes "sandbox a\nproc m\nend\nsandbox b\n") 4 NoEndSandbox
    ∷ refused (plain (codes "a") ++ plain (codes "a")) 5 SandboxTwice
    ∷ refused (flat_map (λ n. plain (n ∷ [])) (codes "abcdefghi")) 33 TooManySandboxes
    -- the 33rd line headed by `proc`, whatever stands behind
    ∷ refused (flat_map (λ n. eight (n ∷ [])) (codes "abcd") ++ codes "sandbox e\nproc M\n") 102 TooManyNodes
    -- faults of a script at their lines of the whole input
    ∷ refused (plain (codes "a") ++ codes "sandbox b\nproc m\nwalk\n") 7 (Script UnknownCall)
    ∷ refused (codes "sandbox a\nproc m\nendsandbox x\nend\nendsandbox\n") 3 (Script UnknownCall)
    -- a missing `end`, and a missing block, at the line `endsandbox`
    ∷ refused (codes "sandbox a\nproc m\nendsandbox\n") 3 (Script NoEnd)
    ∷ refused (codes "sandbox a\n# nothing\nendsandbox\n") 3 (Script NoProc)
    -- a sandbox that is broken off has the lines before that place as its script
    ∷ refused (codes "sandbox a\nproc m\nfork b\nend\nsandbox b\nproc b\nend\nendsandbox\n") 3 (Script UnknownProc)
    ∷ refused (codes "sandbox a\n# " ++ 255 ∷ codes "\nendsandbox\n") 2 (Script NotUtf8)
    ∷ []

pub refusals_are_told : AllByRecursion (λ (r : Refused). outcome r.input ≡ Err (At r.line r.fault)) refusals
unfolding on_bytes on_lines on_scripts on_words on_calls on_texts
refusals_are_told =
    (refl, (refl, (refl, (refl, (refl, (refl, (refl, (refl, (refl, (refl, (refl, (refl, (refl, (refl, tt))))))))))))))

-- ---- an input that is read

pub two_are_read : outcome two_inputs ≡ Ok two_boxes
unfolding on_bytes on_lines on_scripts on_words on_calls on_fields on_texts
two_are_read = refl
