-- All that the rules ask of a world besides the invariant, in one record; a bounded world of a sound script has it.
use Rattle.std.proofs.Common.{◌≡◌, ℕ, zero, suc, ◌-◌, ◌≤◌, true, List, length, Option, Some, None, unwrap_or, refl, ap, sym, subst, ◌∙◌, Contains, arith, Bool, ◌++◌, Ok, [], ◌∷◌}
use Rattle.std.specs.Prelude.{if◌then◌else◌}
use Rattle.std.specs.List.{AllByRecursion}
use Rattle.std.proofs.lemmas.Bool.{lt-ltb}
use Rattle.std.proofs.lemmas.List.Elements.{All-contains, All-from_recursion}
use Rattle.std.proofs.lemmas.Option.{slice_get_within}
use Rattle.pico_base.specs.declared.call.Call.{Call}
use Rattle.pico_base.specs.declared.call.Call.TheVariants as calls
use Rattle.pico_base.specs.declared.numbers.Kind.{Kind}
use Rattle.pico_base.specs.declared.numbers.Name.{Name}
use Rattle.pico_base.specs.declared.script.Script.{Script}
use Rattle.rpc_frame.specs.declared.asked.Asked.{Asked}
use Rattle.rpc_frame.specs.declared.deed.Parcel.{Parcel}
use Rattle.rpc_frame.specs.declared.frame.Frame.{Frame}
use Rattle.rpc_frame.specs.declared.frame.Frame.TheVariants as frames
use Rattle.number_maps.specs.Rising.{IsRising}
use Rattle.kernel_model.specs.Script.{IsSoundScript}
use Rattle.kernel_model.specs.SemaphoreSet.{SemaphoreSet, new_set}
use Rattle.node_model.specs.declared.held.Held.{Held}
use Rattle.node_model.specs.declared.held.Held.TheVariants.{Request, Ending}
use Rattle.node_model.specs.Bodies.{Deeds}
use Rattle.node_model.specs.Directory.{At, has_more, held_for, max_ranges, place_of}
use Rattle.node_model.specs.Kinds.{for_kind}
use Rattle.world_model.specs.Ends.{IsHeld, Releases, end_process}
use Rattle.world_model.specs.Node.{Node, unborn_node}
use Rattle.world_model.specs.Routes.{route_held}
use Rattle.world_model.specs.Step.{Step}
use Rattle.world_model.specs.World.{IsNode, World, node_at, world_after, node_count}
use Rattle.world_laws.specs.Deeds.{DeedsAreRead}
use Rattle.world_laws.specs.Invariant.{Holds, IsShaped, HoldsOwing}
use Rattle.world_laws.specs.Places.{Beside}
use Rattle.world_laws.specs.Runnable.{IsRunnable}
use Rattle.world_laws.specs.Sights.{directory_of, frames_to, node_of}
use Rattle.world_laws.proofs.Heads.{head-there}
use Rattle.world_laws.proofs.Steps.{Heads, world_without}
use Rattle.world_laws.specs.Wholes.{HasWhole}
use Rattle.world_laws.specs.Cancels.{Nothing, Owing}
use Rattle.route_laws.proofs.hand.Asks.{NeverWithdraws}
use Rattle.rule_laws.proofs.ends.Directories.{KnowsNodes}
use Rattle.rule_laws.proofs.ends.Given.{AreRising}
use Rattle.rule_laws.proofs.ends.RecallAlls.{deeds_at}
use Rattle.route_laws.specs.Watching.{AreWatchesOf}
use Rattle.bound_laws.specs.Bounded.{AllRise, FrameIsBounded, IsBounded, IsGood, ItemIsOfNode, ItemsAreOfNodes, NodeIsBounded, PlaceNamesNodes, StepIsBounded}
use Rattle.bound_laws.proofs.Deeds.{deeds-are-read-in}
use Rattle.bound_laws.proofs.Parts.{held-are-of-nodes, none-rises}
use Rattle.bound_laws.proofs.Ranges.{few-ranges, more-ranges, some-blocks}
use Rattle.bound_laws.proofs.Scripts.{never-withdraws, sound-is-runnable}
use Rattle.bound_laws.proofs.Released.{ended-is-bounded, routed-is-bounded}
use Rattle.bound_laws.proofs.Worlds.{middle-is-bounded, without-is-bounded, without-is-shaped}
use Rattle.kernel_laws.proofs.Lists.{all-both}

-- what a rule may ask, in the words in which rules ask it
pub record Ready (script : Script) (w : World) (hand : List Held) (b : Beside) : Type 0 where
  -- the script's
  pub runnable : IsRunnable script
  pub never_withdraws : NeverWithdraws script
  -- deeds on their way are read back
  pub reads : DeedsAreRead b.kernel b.body
  -- each kind has numbers left, and all have four bytes
  pub enough : (kind : Kind) → has_more (directory_of w) kind ≡ true
  pub few : (kind : Kind) → length (for_kind (directory_of w).ranges kind) ≤ max_ranges
  -- tables stand by rising number
  pub rises : (q : ℕ) → AreRising (deeds_at w q)
  pub queue_keys : let n : Node = node_of w 1 in IsRising n.leader.queue_keys
  pub set_keys : let n : Node = node_of w 1 in IsRising n.leader.set_keys
  -- names are at nodes of the script
  pub at_nodes : KnowsNodes (directory_of w)
  pub places : (name : Name) (node : ℕ) → place_of (directory_of w) name ≡ Some (At node) → IsNode script node
  -- a node's own reads count for nothing, and a set that it asks for has a size that there is
  pub watches : (p : ℕ) → 1 ≤ p → p ≤ node_count script → AreWatchesOf (node_of w p).number (node_of w p).watches
  pub sized : (p : ℕ) → 1 ≤ p → p ≤ node_count script → (call : Call) → (node_of w p).caller.under_way ≡ Some call
      → (count : ℕ) (create excl : Bool) → call ≡ calls.SemGet None count create excl
      → (set : SemaphoreSet) × (new_set count ≡ Ok set)
  -- who made each call, on its way, held, and in hand, is a node of the script
  pub frames : (to sender : ℕ) (frame : Frame) → Contains (frames_to w to sender) frame
      → FrameIsBounded script to sender frame
  pub held : (name : Name) (asked : Asked) → Contains (held_for (directory_of w) name) (Request asked)
      → IsNode script asked.caller
  pub in_hand : (asked : Asked) → Contains hand (Request asked) → IsNode script asked.caller

-- ---- a bounded world of a sound script

all-contained : {A : Type 0} (P : A → Type 0) (xs : List A) (x : A) → AllByRecursion P xs → Contains xs x → P x
all-contained P xs x all there = All-contains P xs x (All-from_recursion P xs all) there

rising-of : (deeds : Deeds) → AllRise deeds → AreRising deeds
rising-of deeds r = record { processes = r.processes; queues = r.queues; sets = r.sets }

module _ (script : Script) (sound : IsSoundScript script) (w : World) (hand : List Held) (owes : Owing) (b : Beside)
    (holds : HoldsOwing script w hand owes b) (whole : HasWhole w b) (k : IsBounded script w hand) where
  first : NodeIsBounded script (node_of w 1)
  first = k.nodes 1 (omega arith) (some-blocks script sound)

  unborn-rises : (q : ℕ) → AreRising (unborn_node q).deeds
  unborn-rises q = rising-of (unborn_node q).deeds none-rises

  rises-by : (q : ℕ) → (o : Option Node) → node_at w (suc q) ≡ o
      → AreRising (unwrap_or o (unborn_node (suc q))).deeds
  rises-by q None is = unborn-rises (suc q)
  rises-by q (Some n) is =
      let within = slice_get_within w.nodes (suc q - 1) n is
      in let count = holds.shape.nodes
      in let here : NodeIsBounded script (node_of w (suc q)) =
      k.nodes (suc q) (omega arith) (omega (arith, within, count))
      in let same : node_of w (suc q) ≡ n =
      ap (λ t. unwrap_or (if t then node_at w (suc q) else None) (unborn_node (suc q))) (lt-ltb 0 (suc q) (omega arith))
      ∙ ap (λ o. unwrap_or o (unborn_node (suc q))) is
      in subst (λ (m : Node). AreRising m.deeds) same (rising-of (node_of w (suc q)).deeds here.deeds.rise)

  all-rise : (q : ℕ) → AreRising (deeds_at w q)
  all-rise zero = unborn-rises 0
  all-rise (suc q) =
      subst (λ (m : Node). AreRising m.deeds)
      (sym (ap (λ t. unwrap_or (if t then node_at w (suc q) else None) (unborn_node (suc q)))
      (lt-ltb 0 (suc q) (omega arith))))
      (rises-by q (node_at w (suc q)) refl)

  place-is-node : (name : Name) (node : ℕ) → place_of (directory_of w) name ≡ Some (At node) → IsNode script node
  place-is-node name node is = subst (PlaceNamesNodes script) is (first.directory.places name)

  -- It has all that the rules ask, also while a strike is owed.
  pub owing-is-ready : Ready script w hand b
  owing-is-ready =
      record {
        runnable = sound-is-runnable script sound;
        never_withdraws = never-withdraws script sound;
        reads = deeds-are-read-in script sound w hand owes b holds whole;
        enough = more-ranges script sound w hand owes b holds whole;
        few = few-ranges script sound w hand owes b holds whole;
        rises = all-rise;
        queue_keys = first.queue_keys;
        set_keys = first.set_keys;
        at_nodes = λ name node is. (place-is-node name node is).low;
        places = place-is-node;
        watches = λ p low high. (k.nodes p low high).watches;
        sized = λ p low high call is count create excl same.
            (k.nodes p low high).size count create excl (is ∙ ap Some same);
        frames = λ to sender frame there.
            all-contained (FrameIsBounded script to sender) (frames_to w to sender) frame (k.streams to sender) there;
        held = λ name asked there.
            all-contained (ItemIsOfNode script) (held_for (directory_of w) name) (Request asked)
            (held-are-of-nodes script (directory_of w) name first.directory) there;
        in_hand = λ asked there. all-contained (ItemIsOfNode script) hand (Request asked) k.in_hand there;
      }

-- where none is owed
pub bounded-is-ready : (script : Script) → IsSoundScript script → (w : World) (hand : List Held) (b : Beside)
    → Holds script w hand b → IsBounded script w hand → Ready script w hand b
bounded-is-ready script sound w hand b holds k = owing-is-ready script sound w hand Nothing b holds holds.whole k

-- ---- in the middle of an event of the leader

module _ (script : Script) (v : World) where
  -- The world in the middle has all that the rules ask,
  pub good-is-ready : IsSoundScript script → (s : Step) (hand : List Held) (owes : Owing) (b : Beside)
      → IsGood script v s hand → HoldsOwing script (world_after v 1 s) hand owes b → HasWhole (world_after v 1 s) b
      → Ready script (world_after v 1 s) hand b
  good-is-ready sound s hand owes b g holds whole =
      owing-is-ready script sound (world_after v 1 s) hand owes b holds whole
      (middle-is-bounded script v [] hand 1 s g.shape g.bounded
      (record { low = omega arith; high = some-blocks script sound }) g.step_is g.items)

  -- and once its first call, or the withdrawal of one, is routed,
  pub good-routed : (s next : Step) (asked : Asked) (rest : List Held) → IsGood script v s (Request asked ∷ rest)
      → route_held script s asked ≡ Some next → IsGood script v next rest
  good-routed s next asked rest g is =
      record {
        shape = g.shape;
        bounded = g.bounded;
        step_is = routed-is-bounded script s next asked g.step_is g.items.0 is;
        items = g.items.1;
      }

  -- or its first parcel is held,
  pub good-held : (s next : Step) (parcel : Parcel) (rest : List Held) → IsGood script v s (Ending parcel ∷ rest)
      → end_process script s parcel ≡ Some (IsHeld next) → IsGood script v next rest
  good-held s next parcel rest g is =
      record {
        shape = g.shape;
        bounded = g.bounded;
        step_is = ended-is-bounded script s parcel (IsHeld next) g.step_is is;
        items = g.items.1;
      }

  -- or ends and releases what was held for it, it is good again.
  pub good-released : (s next : Step) (parcel : Parcel) (items rest : List Held)
      → IsGood script v s (Ending parcel ∷ rest) → end_process script s parcel ≡ Some (Releases next items)
      → IsGood script v next (items ++ rest)
  good-released s next parcel items rest g is =
      let after = ended-is-bounded script s parcel (Releases next items) g.step_is is
      in record {
        shape = g.shape;
        bounded = g.bounded;
        step_is = after.0;
        items = all-both (ItemIsOfNode script) items rest after.1 g.items.1;
      }

-- So an event of the leader that takes a frame goes on from a good step, where its rule's first step is bounded.
pub taken-is-good : (script : Script) (w : World) (q : ℕ) (frame : Frame) (rest : List Frame) (s : Step)
    (hand : List Held) → IsShaped script w → IsBounded script w [] → Heads script w 1 q frame rest
    → StepIsBounded script s → ItemsAreOfNodes script hand → IsGood script (world_without w 1 q rest) s hand
taken-is-good script w q frame rest s hand shape k h step_is items =
    record {
      shape = without-is-shaped script w 1 q frame rest shape h;
      bounded = without-is-bounded script w [] 1 q frame rest shape h k;
      step_is = step_is;
      items = items;
    }

-- Who made the call of a Forward, a Cancel or a Bounce at the head of a stream is a node of the script.
module _ (script : Script) (w : World) (hand : List Held) (b : Beside) (ready : Ready script w hand b) where
  pub forward-is-of-node : (p q : ℕ) (asked : Asked) (rest : List Frame)
      → Heads script w p q (frames.Forward asked) rest → IsNode script asked.caller
  forward-is-of-node p q asked rest h =
      let f : FrameIsBounded script p q (frames.Forward asked) =
      ready.frames p q (frames.Forward asked) (head-there script w p q (frames.Forward asked) rest h)
      in f.says

  -- so is that of a Cancel
  pub cancel-is-of-node : (p q : ℕ) (asked : Asked) (rest : List Frame)
      → Heads script w p q (frames.Cancel asked) rest → IsNode script asked.caller
  cancel-is-of-node p q asked rest h =
      let f : FrameIsBounded script p q (frames.Cancel asked) =
      ready.frames p q (frames.Cancel asked) (head-there script w p q (frames.Cancel asked) rest h)
      in f.says

  -- and that of a Bounce
  pub bounce-is-of-node : (p q : ℕ) (asked : Asked) (rest : List Frame)
      → Heads script w p q (frames.Bounce asked) rest → IsNode script asked.caller
  bounce-is-of-node p q asked rest h =
      let f : FrameIsBounded script p q (frames.Bounce asked) =
      ready.frames p q (frames.Bounce asked) (head-there script w p q (frames.Bounce asked) rest h)
      in f.says
