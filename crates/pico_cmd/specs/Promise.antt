-- What the program promises: when each status comes, and what is written with it.
use Rattle.std.specs.Prelude.{◌≡◌, ◌⊎◌, ◌≤◌, ℕ, Bool, true, false, List, [], ◌∷◌, ◌++◌, length, take, codes, Option, Some, None, IfSome, Ok, Err}
use Rattle.std.specs.Fmt.{decimal}
use Rattle.pico_base.specs.declared.script.Script.{Script}
use Rattle.host_iface.specs.Told.{followed_by}
use Rattle.pico_base.specs.declared.reply.Entry.{Entry}
use Rattle.script_reader.specs.declared.fault.ScriptFault.{ScriptFault}
use Rattle.script_reader.specs.declared.fault.ScriptStop.TheVariants.{At}
use Rattle.script_reader.specs.Fault.{Reads, IsFirstFault, name_of}
use Rattle.pico_cmd.specs.declared.status.Status.{Status}
use Rattle.pico_cmd.specs.declared.status.Status.TheVariants as status
use Rattle.script_writer.specs.Generated.{generated}
use Rattle.check_input.specs.Parts.{checked_script, trace_of, first_line_of}
use Rattle.trace_text.specs.declared.fault.CheckFault.{CheckFault}
use Rattle.trace_check.specs.FirstFault.{CountsLegal, IsLegalTrace, verdict_of}
use Rattle.trace_check.specs.Refusal.{IsRefusal, refusal_text}
use Rattle.sandbox_set.specs.declared.fault.BoxFault.{BoxFault}
use Rattle.sandbox_set.specs.declared.read.Sandbox.{Sandbox}
use Rattle.sandbox_set.specs.Boxes as boxes
use Rattle.image_text.specs.declared.fault.ImageFault.{ImageFault}
use Rattle.image_text.specs.Faults as images
use Rattle.image_text.specs.Parts.{script_of, seen}
use Rattle.world_model.specs.World.{World}
use Rattle.world_image.specs.Thaws.{IsThawOf}
use Rattle.mq_model.specs.Reading as queues
use Rattle.pico_words.specs.declared.words.Options.{Options}
use Rattle.pico_words.specs.declared.words.Request.{Request}
use Rattle.pico_words.specs.declared.words.Request.TheVariants.{Run, Simulate, Check, Generate, Boxes, Queues, Freeze, Thaw}
use Rattle.pico_run.specs.declared.rested.Rested.{Rested}
use Rattle.pico_cmd.specs.Run.{IsTextOfRun}
use Rattle.pico_cmd.specs.Threads.{IsTextOfThreads, IsTotalsOfThreads}
use Rattle.pico_cmd.specs.Boxed.{IsTextOfBoxes}
use Rattle.pico_cmd.specs.Queued.{IsTextOfQueues}
use Rattle.pico_cmd.specs.Frozen.{IsFrozen}
use Rattle.pico_cmd.specs.Thawed.{IsTextOfThaw, IsImageFault}
use Rattle.pico_cmd.specs.Stalled.{are_left_stalled}
use Rattle.pico_cmd.specs.Stop.{most_read}

unfoldable pub usage_text : List ℕ
usage_text = codes "usage: pico run|sim|check|gen|mq|boxes|freeze|thaw [--seed N] [--steps]\n"

-- a line, and the name of the fault that is there
abbrev pub named_fault_text : ℕ → List ℕ → List ℕ
named_fault_text line name = codes "fault: line " ++ decimal line ++ codes ": " ++ name ++ 10 ∷ []

abbrev pub fault_text : ℕ → ScriptFault → List ℕ
fault_text line fault = named_fault_text line (name_of fault)

abbrev pub box_fault_text : ℕ → BoxFault → List ℕ
box_fault_text line fault = named_fault_text line (boxes.name_of fault)

abbrev pub image_fault_text : ℕ → ImageFault → List ℕ
image_fault_text line fault = named_fault_text line (images.name_of fault)

unfoldable pub legal_text : ℕ → List ℕ
legal_text entries = codes "legal entries " ++ decimal entries ++ 10 ∷ []

-- ---- `run`

-- the bytes are a script, and the text is that of its run with threads, whose outcome is handed back
pub record IsTraceOfThreads (steps : Bool) (bytes text : List ℕ) (rested : List Rested) : Type 0 where
  pub script : Script
  pub reads : Reads bytes script
  pub run : IsTextOfThreads script steps text rested

-- ---- `sim`

-- the bytes are a script, and the text is that of its run by the schedule that is asked for, which is left so
pub record IsTraceOf (options : Options) (stalled : Bool) (bytes text : List ℕ) : Type 0 where
  pub script : Script
  pub reads : Reads bytes script
  pub run : IsTextOfRun script options stalled text

-- the text names the first fault of the bytes
pub record IsFaultOf (bytes text : List ℕ) : Type 0 where
  pub line : ℕ
  pub fault : ScriptFault
  pub first : IsFirstFault bytes line fault
  pub is_text : text ≡ fault_text line fault

-- what goes with a status of `run` for these bytes
abbrev pub RunsThreads : Bool → List ℕ → Status → List ℕ → List Rested → Type 0
RunsThreads steps bytes status.Done text rested =
    IsTraceOfThreads steps bytes text rested × (are_left_stalled rested ≡ false)
RunsThreads steps bytes status.Stalled text rested =
    IsTraceOfThreads steps bytes text rested × (are_left_stalled rested ≡ true)
RunsThreads steps bytes status.BadScript text rested = IsFaultOf bytes text × (rested ≡ [])
RunsThreads steps bytes _ text rested = ⊥

-- what goes with a status for these options and bytes
abbrev pub Simulates : Options → List ℕ → Status → List ℕ → Type 0
Simulates options bytes status.Done text = IsTraceOf options false bytes text
Simulates options bytes status.Stalled text = IsTraceOf options true bytes text
Simulates options bytes status.BadScript text = IsFaultOf bytes text
Simulates options bytes _ text = ⊥

-- ---- `check`

-- the trace is the text of a legal history that fits the script whole, and the text counts its entries
pub record IsLegalOf (script : Script) (trace text : List ℕ) : Type 0 where
  pub entries : ℕ
  pub legal : CountsLegal script trace entries
  pub is_text : text ≡ legal_text entries

-- the text is that of the trace's first fault
pub record IsRefusalOf (script : Script) (trace : List ℕ) (first_line : ℕ) (text : List ℕ) : Type 0 where
  pub fault : CheckFault
  pub is_refusal : IsRefusal fault
  pub first : verdict_of script trace first_line ≡ Err fault
  pub is_text : text ≡ refusal_text script fault

-- what goes with a status for this script, and this trace from this line on
abbrev pub JudgesTrace : Script → List ℕ → ℕ → Status → List ℕ → Type 0
JudgesTrace script trace first_line status.Done text = IsLegalOf script trace text
JudgesTrace script trace first_line status.NotLegal text = IsRefusalOf script trace first_line text
JudgesTrace script trace first_line _ text = ⊥

-- the bytes begin with this script, and their trace has the status
pub record JudgesBytes (bytes : List ℕ) (s : Status) (text : List ℕ) : Type 0 where
  pub script : Script
  pub reads : checked_script bytes ≡ Ok script
  pub judges : JudgesTrace script (trace_of bytes) (first_line_of bytes) s text

-- the text names the first fault of the script that the bytes begin with
pub record IsCheckFaultOf (bytes text : List ℕ) : Type 0 where
  pub line : ℕ
  pub fault : ScriptFault
  pub first : checked_script bytes ≡ Err (At line fault)
  pub is_text : text ≡ fault_text line fault

-- what goes with a status for these bytes
abbrev pub Judges : List ℕ → Status → List ℕ → Type 0
Judges bytes status.BadScript text = IsCheckFaultOf bytes text
Judges bytes s text = JudgesBytes bytes s text

-- ---- `boxes`

-- The bytes are sandboxes, and the text is that of their runs with threads, whose outcomes are handed back. What is
-- said of each sandbox is said of its script alone, whatever the others are.
pub record AreTracesOfBoxes (bytes text : List ℕ) (rested : List Rested) : Type 0 where
  pub sandboxes : List Sandbox
  pub reads : boxes.Reads bytes sandboxes
  pub run : IsTextOfBoxes sandboxes text rested

-- the text names the first fault of the bytes
pub record IsBoxFaultOf (bytes text : List ℕ) : Type 0 where
  pub line : ℕ
  pub fault : BoxFault
  pub first : boxes.IsFirstFault bytes line fault
  pub is_text : text ≡ box_fault_text line fault

-- what goes with a status for these bytes
abbrev pub RunsBoxes : List ℕ → Status → List ℕ → List Rested → Type 0
RunsBoxes bytes status.Done text rested = AreTracesOfBoxes bytes text rested × (are_left_stalled rested ≡ false)
RunsBoxes bytes status.Stalled text rested = AreTracesOfBoxes bytes text rested × (are_left_stalled rested ≡ true)
RunsBoxes bytes status.BadScript text rested = IsBoxFaultOf bytes text × (rested ≡ [])
RunsBoxes bytes _ text rested = ⊥

-- ---- `freeze`

-- what goes with a status for these bytes
abbrev pub Freezes : ℕ → List ℕ → Status → List ℕ → Type 0
Freezes count bytes status.Done text = IsFrozen count bytes text
Freezes count bytes status.BadScript text = IsFaultOf bytes text
Freezes count bytes _ text = ⊥

-- ---- `thaw`

-- the text names the first fault behind the image's script
pub record IsImageFaultOf (image text : List ℕ) : Type 0 where
  pub line : ℕ
  pub fault : ImageFault
  pub first : IsImageFault image line fault
  pub is_text : text ≡ image_fault_text line fault

-- what goes with a status for these bytes; a fault of the image's script comes before all others
abbrev pub Thaws : List ℕ → Status → List ℕ → Type 0
Thaws image status.Done text = IsTextOfThaw image false text
Thaws image status.Stalled text = IsTextOfThaw image true text
Thaws image status.BadScript text = IsFaultOf (script_of (seen image)) text
Thaws image status.BadImage text = IsImageFaultOf image text
Thaws image _ text = ⊥

-- ---- `mq`

-- The bytes are a script of POSIX message queues, and the text is that of its run with threads, whose outcome is handed
-- back.
pub record IsTraceOfQueues (steps : Bool) (bytes text : List ℕ) (rested : List Rested) : Type 0 where
  pub given : Script
  pub reads : queues.Reads bytes given
  pub run : IsTextOfQueues given steps text rested

-- the text names the first fault of the bytes
pub record IsQueueFaultOf (bytes text : List ℕ) : Type 0 where
  pub line : ℕ
  pub fault : ScriptFault
  pub first : queues.IsFirstFault bytes line fault
  pub is_text : text ≡ fault_text line fault

-- what goes with a status for these bytes
abbrev pub RunsQueues : Bool → List ℕ → Status → List ℕ → List Rested → Type 0
RunsQueues steps bytes status.Done text rested =
    IsTraceOfQueues steps bytes text rested × (are_left_stalled rested ≡ false)
RunsQueues steps bytes status.Stalled text rested =
    IsTraceOfQueues steps bytes text rested × (are_left_stalled rested ≡ true)
RunsQueues steps bytes status.BadScript text rested = IsQueueFaultOf bytes text × (rested ≡ [])
RunsQueues steps bytes _ text rested = ⊥

-- ---- each mode

-- What goes with a status for what is asked for and the bytes that the source had, with the outcomes of the runs with
-- threads that are handed back: of `run`, `gen`, `mq` and `boxes` alone. `check` rests on as many bytes as it reads.
abbrev pub Answers : Request → List ℕ → Status → List ℕ → List Rested → Type 0
Answers (Run steps) bytes s text rested = RunsThreads steps bytes s text rested
Answers (Simulate options) bytes s text rested = Simulates options bytes s text × (rested ≡ [])
Answers Check bytes s text rested = Judges (take (most_read Check) bytes) s text × (rested ≡ [])
Answers (Generate options) bytes status.Done text rested =
    IsTotalsOfThreads (generated options.seed) options.steps text rested × (are_left_stalled rested ≡ false)
Answers (Generate options) bytes _ text rested = ⊥
Answers Boxes bytes s text rested = RunsBoxes bytes s text rested
Answers (Queues steps) bytes s text rested = RunsQueues steps bytes s text rested
Answers (Freeze count) bytes s text rested = Freezes count bytes s text × (rested ≡ [])
Answers Thaw bytes s text rested = Thaws bytes s text × (rested ≡ [])

-- the same for bytes that are those that the source had left where it tells them
pub record AnswersTold (request : Request) (left : Option (List ℕ)) (s : Status) (text : List ℕ)
    (rested : List Rested) : Type 0 where
  pub bytes : List ℕ
  pub told : IfSome left (λ bytes_left. bytes_left ≡ bytes)
  pub answers : Answers request bytes s text rested

-- The text that goes with a status, by what the words ask for and by the source: the usage line where they aren't in
-- order. With a status that writes nothing no text goes.
abbrev pub Allows : Option Request → Option (List ℕ) → Status → List ℕ → List Rested → Type 0
Allows None left status.Usage text rested = (text ≡ usage_text) × (rested ≡ [])
Allows None left _ text rested = ⊥
Allows (Some request) left s text rested = AnswersTold request left s text rested

-- ---- causes

-- what makes `run` and `sim` end so; a run that ends is Done or Stalled, which the run itself shows. `freeze` ends so
-- by the same causes, and is never Stalled.
abbrev pub CauseOfSim : List ℕ → Status → Type 0
CauseOfSim bytes status.Done = (script : Script) × Reads bytes script
CauseOfSim bytes status.BadScript = (line : ℕ) × (fault : ScriptFault) × IsFirstFault bytes line fault
CauseOfSim bytes _ = ⊥

-- the bytes begin with a script, and then have a trace that is legal
pub record HasLegalTrace (bytes : List ℕ) : Type 0 where
  pub script : Script
  pub reads : checked_script bytes ≡ Ok script
  pub history : List Entry
  pub legal : IsLegalTrace script (trace_of bytes) history

-- or one that has a fault
pub record HasRefusedTrace (bytes : List ℕ) : Type 0 where
  pub script : Script
  pub reads : checked_script bytes ≡ Ok script
  pub fault : CheckFault
  pub is_refusal : IsRefusal fault
  pub first : verdict_of script (trace_of bytes) (first_line_of bytes) ≡ Err fault

-- what makes `check` end so
abbrev pub CauseOfCheck : List ℕ → Status → Type 0
CauseOfCheck bytes status.Done = HasLegalTrace bytes
CauseOfCheck bytes status.BadScript = (line : ℕ) × (fault : ScriptFault) × (checked_script bytes ≡ Err (At line fault))
CauseOfCheck bytes status.NotLegal = HasRefusedTrace bytes
CauseOfCheck bytes _ = ⊥

-- `gen` is always done
abbrev pub CauseOfGen : Status → Type 0
CauseOfGen status.Done = Unit {0}
CauseOfGen _ = ⊥

-- what makes `boxes` end so
abbrev pub CauseOfBoxes : List ℕ → Status → Type 0
CauseOfBoxes bytes status.Done = (sandboxes : List Sandbox) × boxes.Reads bytes sandboxes
CauseOfBoxes bytes status.BadScript = (line : ℕ) × (fault : BoxFault) × boxes.IsFirstFault bytes line fault
CauseOfBoxes bytes _ = ⊥

-- what makes `thaw` end so
abbrev pub CauseOfThaw : List ℕ → Status → Type 0
CauseOfThaw image status.Done = (w : World) × (last : Option ℕ) × IsThawOf image w last
CauseOfThaw image status.BadScript =
    (line : ℕ) × (fault : ScriptFault) × IsFirstFault (script_of (seen image)) line fault
CauseOfThaw image status.BadImage = (line : ℕ) × (fault : ImageFault) × IsImageFault image line fault
CauseOfThaw image _ = ⊥

-- what makes `mq` end so
abbrev pub CauseOfQueues : List ℕ → Status → Type 0
CauseOfQueues bytes status.Done = (given : Script) × queues.Reads bytes given
CauseOfQueues bytes status.BadScript = (line : ℕ) × (fault : ScriptFault) × queues.IsFirstFault bytes line fault
CauseOfQueues bytes _ = ⊥

-- what makes the answer have a status, but for want of memory and for reads and writes that fail
abbrev pub Cause : Request → List ℕ → Status → Type 0
Cause (Run steps) bytes s = CauseOfSim bytes s
Cause (Simulate options) bytes s = CauseOfSim bytes s
Cause Check bytes s = CauseOfCheck (take (most_read Check) bytes) s
Cause (Generate options) bytes s = CauseOfGen s
Cause Boxes bytes s = CauseOfBoxes bytes s
Cause (Queues steps) bytes s = CauseOfQueues bytes s
Cause (Freeze count) bytes s = CauseOfSim bytes s
Cause Thaw bytes s = CauseOfThaw bytes s

-- What follows where a status is due in a mode that runs scripts to rest: Stalled may stand for Done.
abbrev pub OrStalled : (Status → Type 0) → Status → Type 0
OrStalled follows s = follows s ⊎ ((s ≡ status.Done) × follows status.Stalled)

-- each cause of a status for what the words ask for and the bytes that the source tells, and what follows from it
abbrev pub EachCause : Option Request → Option (List ℕ) → (Status → Type 0) → Type 0
EachCause None left follows = Unit {0}
EachCause (Some (Generate options)) left follows = (s : Status) → CauseOfGen s → follows s
EachCause (Some Check) left follows = IfSome left (λ bytes. (s : Status) → Cause Check bytes s → follows s)
EachCause (Some (Freeze count)) left follows = IfSome left (λ bytes. (s : Status) → CauseOfSim bytes s → follows s)
EachCause (Some request) left follows =
    IfSome left (λ bytes. (s : Status) → Cause request bytes s → OrStalled follows s)

-- ---- what is written

-- the sink took exactly a text that goes with the status and with what is handed back
pub record Wrote (asked : Option Request) (left : Option (List ℕ)) (s : Status) (rested : List Rested)
    (old new : Option (List ℕ)) : Type 0 where
  pub text : List ℕ
  pub allowed : Allows asked left s text rested
  pub taken : new ≡ followed_by old text

-- the sink took a front of a text that goes with some status and with what is handed back
pub record WroteFront (asked : Option Request) (left : Option (List ℕ)) (rested : List Rested)
    (old new : Option (List ℕ)) : Type 0 where
  pub replaced : Status
  pub text : List ℕ
  pub count : ℕ
  pub allowed : Allows asked left replaced text rested
  pub within : count ≤ length text
  pub taken : new ≡ followed_by old (take count text)

-- the statuses that may stand in another's place: want of memory, and a write that failed
abbrev pub IsOrFails : Status → Status → Type 0
IsOrFails s wanted = (s ≡ wanted) ⊎ ((s ≡ status.Memory) ⊎ (s ≡ status.WriteFault))

-- and, where the source is read, a read that failed
abbrev pub IsOrStops : Status → Status → Type 0
IsOrStops s wanted = IsOrFails s wanted ⊎ (s ≡ status.ReadFault)

-- a text with a status was written whole, or a write failed and a front of it was taken
pub record IsWhole (wanted : Status) (text : List ℕ) (old new : Option (List ℕ)) (s : Status) : Type 0 where
  pub status : s ≡ wanted
  pub taken : new ≡ followed_by old text

pub record IsCut (text : List ℕ) (old new : Option (List ℕ)) (cause : Type 0) (s : Status) : Type 0 where
  pub status : s ≡ status.WriteFault
  pub count : ℕ
  pub within : count ≤ length text
  pub taken : new ≡ followed_by old (take count text)
  pub cause_is : cause

abbrev pub IsWritten : Status → List ℕ → Option (List ℕ) → Option (List ℕ) → Type 0 → Status → Type 0
IsWritten wanted text old new cause s = IsWhole wanted text old new s ⊎ IsCut text old new cause s
