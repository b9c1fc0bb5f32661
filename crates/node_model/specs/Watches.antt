-- The watches over what a node holds, which say when a name moves to a node that reads it.
use Rattle.std.specs.Prelude.{ℕ, List, [], ◌∷◌, Option, Some, None}
use Rattle.std.specs.Option.{unwrap_or}
use Rattle.pico_base.specs.declared.numbers.Name.{Name}
use Rattle.migrate.specs.Watching.{Watching, watching_anew, watching_after, move_at}
use Rattle.node_model.specs.Kinds.{Named, get_named, put_named, without_named}

-- a name that isn't here has been read by nobody since this node owns it
abbrev pub Watches : Type 0
Watches = Named Watching

abbrev pub watch_over : Watches → ℕ → Name → Watching
watch_over watches owner name = unwrap_or (get_named watches name) (watching_anew owner)

-- a node reads the name, and the node to which the name moves then
abbrev pub with_read : Watches → ℕ → Name → ℕ → Watches
with_read watches owner name reader = put_named watches name (watching_after (watch_over watches owner name) reader)

abbrev pub moves_to : Watches → ℕ → Name → ℕ → Option ℕ
moves_to watches owner name reader = move_at (watch_over watches owner name) reader

-- Several nodes read the name, one after another. It moves, if at all, to the last node to which one of the reads would
-- move it.
abbrev pub later : Option ℕ → Option ℕ → Option ℕ
later None before = before
later (Some node) before = Some node

abbrev pub with_reads : Watches → ℕ → Name → List ℕ → Watches
with_reads watches owner name [] = watches
with_reads watches owner name (reader ∷ readers) = with_reads (with_read watches owner name reader) owner name readers

abbrev pub last_move : Watches → ℕ → Name → List ℕ → Option ℕ
last_move watches owner name [] = None
last_move watches owner name (reader ∷ readers) =
    later (last_move (with_read watches owner name reader) owner name readers) (moves_to watches owner name reader)

-- a deed that goes away takes its watch's count with it
abbrev pub unwatch : Watches → Name → Watches
unwatch watches name = without_named watches name
