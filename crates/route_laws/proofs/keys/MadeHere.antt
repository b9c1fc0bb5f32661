-- The leader has made a queue or a set, whoever asked for it: what holds of the names, of the numbers, and of the
-- leader's node afterwards.
use Rattle.std.proofs.Common.{◌≡◌, ℕ, ◌≤◌, true, false, List, None, refl, ap, sym, ◌∙◌, arith}
use Rattle.pico_base.specs.declared.call.Call.{Call}
use Rattle.pico_base.specs.declared.numbers.Kind.{Kind}
use Rattle.pico_base.specs.declared.numbers.Name.{Name}
use Rattle.pico_base.specs.declared.script.Script.{Script}
use Rattle.key_table.specs.declared.Bound.{Bound}
use Rattle.number_maps.specs.Maps.{Numbered, get, is_used}
use Rattle.kernel_model.specs.Footprint.{used_of}
use Rattle.entry_laws.specs.Entering.{is_used_name}
use Rattle.entry_laws.proofs.Fresh.{MakesObject}
use Rattle.node_model.specs.declared.held.Held.{Held}
use Rattle.node_model.specs.Kinds.{for_kind, is_object, kind_of, number_of, put_named, with_kind}
use Rattle.node_model.specs.Bodies.{Body}
use Rattle.node_model.specs.Caller.{Caller}
use Rattle.node_model.specs.Directory.{Directory, place_name, place_of}
use Rattle.world_model.specs.Node.{Node}
use Rattle.world_model.specs.World.{World, node_count, numbers}
use Rattle.world_laws.specs.Places.{Beside}
use Rattle.world_laws.specs.Sights.{directory_of, is_born_in, node_of}
use Rattle.world_laws.specs.Names.{NameHolds, name_sight}
use Rattle.world_laws.specs.Families.{NodeHolds}
use Rattle.world_laws.specs.Cancels.{Owing}
use Rattle.world_laws.specs.Invariant.{HoldsOwing}
use Rattle.rule_laws.proofs.Nodes.{holds-stay, leader-stage, processes-with}
use Rattle.rule_laws.proofs.makes.NewOnes.{nothing-known}
use Rattle.route_laws.proofs.keys.NewPlaces.{KnowsNew, knows-new, ranges-placed}
use Rattle.route_laws.proofs.keys.Taking.{TakesNumber}

-- ---- what is made

-- the keys that the leader has then
pub record Tables : Type 0 where
  pub queues : Numbered Bound
  pub sets : Numbered Bound

-- A queue or set of this kind, with the number that is taken. The call's reply is that number.
pub record MakesOf (w : World) (b : Beside) (pid : ℕ) (call : Call) (kind : Kind) (name : Name) (body : Body)
    : Type 0 where
  pub takes : TakesNumber w b.kernel kind
  pub kind_is : kind_of name ≡ kind
  pub number_is : number_of name ≡ takes.number
  pub object : is_object name ≡ true
  pub made : MakesObject b.kernel pid call name body

-- the leader's node, with what it has made in its table and in its directory, without its number, and with these keys
abbrev pub made_node : Node → Kind → List ℕ → Directory → Name → Body → Caller → Tables → Node
made_node n kind numbers d name body caller keys =
    record n {
      caller = caller;
      deeds = put_named n.deeds name body;
      leases = with_kind n.leases kind numbers;
      leader = record { directory = place_name d name 1; queue_keys = keys.queues; set_keys = keys.sets };
    }

module _ (script : Script) (w : World) (hand : List Held) {owes : Owing} (b : Beside)
    (holds : HoldsOwing script w hand owes b)
    (some_node : 1 ≤ node_count script) (pid : ℕ) (call : Call) (kind : Kind) (name : Name) (body : Body)
    (m : MakesOf w b pid call kind name body) where
  abbrev d : Directory
  d = directory_of w

  abbrev t : TakesNumber w b.kernel kind
  t = m.takes

  -- Its number was unused.
  pub unused : is_used_name b.kernel name ≡ false
  unused =
      ap (λ y. is_used (used_of b.kernel y) (number_of name)) m.kind_is
      ∙ ap (is_used (used_of b.kernel kind)) m.number_is ∙ t.unused

  known : NameHolds script b.pids (is_born_in w) name (name_sight script w hand b name)
  known = holds.names name

  unplaced : place_of d name ≡ None
  unplaced =
      nothing-known script b.pids (is_born_in w) name (name_sight script w hand b name) known unused

  -- The directory knows it.
  pub directory-now : KnowsNew d (place_name t.directory name 1) name
  directory-now = knows-new d t.directory name holds.leading unplaced t.places_are t.partings_are

  -- Each kind has the ranges that it had when the number was taken.
  pub ranges-now : (y : Kind)
      → for_kind (place_name t.directory name 1).ranges y ≡ for_kind t.directory.ranges y
  ranges-now y = ranges-placed d t.directory name holds.leading unplaced t.places_are t.partings_are y

  -- The node holds what it should, with any caller and any keys.
  pub node-now : (caller : Caller) (keys : Tables)
      → NodeHolds script b.pids (is_born_in w) 1
      (made_node (node_of w 1) kind t.numbers t.directory name body caller keys)
  node-now caller keys =
      let n : Node = node_of w 1
      in let after : Node = made_node n kind t.numbers t.directory name body caller keys
      in let old : NodeHolds script b.pids (is_born_in w) 1 n = holds.nodes 1 (omega arith) some_node
      in let stage = leader-stage script b.pids (is_born_in w) 1 n refl old
      in let processes : after.deeds.processes ≡ n.deeds.processes = processes-with n.deeds name body m.object
      in record {
        number = old.number;
        holds = holds-stay 1 n after n.stage stage.0 stage.1 refl processes old.holds;
        birth = old.birth;
        first = old.first;
        others = old.others;
        rows = λ p row there. old.rows p row (ap (λ (ps : Numbered Body). get ps p) (sym processes) ∙ there);
        owners = old.owners;
      }
