-- The text of the sandboxes' histories.
use Rattle.std.specs.Prelude.{ℕ, List, [], ◌∷◌, ◌++◌, codes}
use Rattle.std.specs.List.{flat_map, zip}
use Rattle.pico_base.specs.declared.reply.Entry.{Entry}
use Rattle.pico_base.specs.declared.script.Script.{Script}
use Rattle.kernel_model.specs.Trace.{trace_text}
use Rattle.sandbox_set.specs.declared.read.Sandbox.{Sandbox}

-- `sandbox NAME`
abbrev pub heading_line : List ℕ → List ℕ
heading_line name = codes "sandbox " ++ (name ++ 10 ∷ [])

-- a name, and the trace of a history of the script's processes
abbrev pub named_trace : List ℕ → Script → List Entry → List ℕ
named_trace name script journal = heading_line name ++ trace_text script journal

abbrev pub sandbox_text : Sandbox → List Entry → List ℕ
sandbox_text sandbox journal = named_trace sandbox.name sandbox.script journal

-- the texts of the sandboxes, in order, each with its journal
unfoldable pub boxes_text : List Sandbox → List (List Entry) → List ℕ
boxes_text boxes journals =
    flat_map (λ (one : Sandbox × List Entry). sandbox_text one.0 one.1) (zip boxes journals)
