-- A node that logs, from its parts.
use Rattle.std.specs.Prelude.{◌≡◌, ◌≤◌, [], List, length, map, Option, None, IsSome, vec_capacity}
use Rattle.journal_core.specs.Seated.{Seated}
use Rattle.world_model.specs.Node.{Node}
use Rattle.log_model.specs.Views.{LoggedNode}
use Rattle.node_lines.specs.declared.end.End.{End}
use Rattle.node_log.specs.declared.logged.Logged.TheInside.{Inside}
use Rattle.node_lines.specs.Lines.{after_silences}
use Rattle.node_log.specs.Ends.{line_of}
use Rattle.node_log.specs.Parts.{view_with}

-- each stream has the looks at all of them together, too
abbrev pub logged_of : Inside → LoggedNode
logged_of l =
    record (view_with l.works l.quiet l.fault) { lines = after_silences l.silent l.works.lines.items }

-- there is room for the ends, and the node isn't spent while there is no fault
pub record IsWhole (l : Inside) : Type 0 where
  pub empty : l.room.items ≡ []
  pub room : length l.works.lines.items ≤ vec_capacity l.room
  pub node : l.fault ≡ None → IsSome l.works.node

-- a node that has made no turn
abbrev pub opened : Option Node → List End → Seated → LoggedNode
opened node ends seat =
    record {
      number = seat.number;
      node = node;
      forker = None;
      clock = 0;
      log = [];
      lines = map line_of ends;
      seat = seat;
      quiet = 0;
      fault = None;
    }
