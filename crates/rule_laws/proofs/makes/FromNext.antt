-- The leader starts its own call where its lease is used up: it gives itself the next range, and takes the first
-- number.
use Rattle.std.proofs.Common.{◌≡◌, ℕ, ◌+◌, ◌≤◌, Bool, true, false, ◌&&◌, ◌||◌, not, if◌then◌else◌, List, [], ◌∷◌, ◌++◌, length, filter, nat_eq, Some, None, is_none, option_and_then, refl, ap, sym, subst, ◌∙◌, arith, length-append}
use Rattle.std.specs.List.{list_any, range_with_len}
use Rattle.std.proofs.lemmas.Bool.{eq-eqb, ltb-true, or_left, or_right}
use Rattle.pico_base.specs.declared.numbers.Kind.{Kind}
use Rattle.pico_base.specs.declared.numbers.Kind.TheVariants as kinds
use Rattle.pico_base.specs.declared.script.Event.TheVariants as events
use Rattle.pico_base.specs.declared.script.Script.{Script}
use Rattle.rpc_frame.specs.declared.frame.Frame.TheVariants as frames
use Rattle.kernel_model.specs.Script.{IsSoundScript}
use Rattle.entry_laws.specs.Entering.{is_used_name}
use Rattle.node_model.specs.Caller.{Caller, start_call}
use Rattle.node_model.specs.Directory.{Directory, has_more, is_known, max_ranges, upcoming, with_range}
use Rattle.node_model.specs.Kinds.{for_kind, kind_of, name_of, number_of, with_kind}
use Rattle.node_model.specs.Leases.{Leases, is_used_up, lease_of}
use Rattle.world_model.specs.Node.{Node, can_run, is_leader}
use Rattle.world_model.specs.Numbers.{knows_any, make_taken, make_with, take_first, take_from, with_next_range}
use Rattle.world_model.specs.Starting.{start_making}
use Rattle.world_model.specs.Step.{Step, send, step_to}
use Rattle.world_model.specs.World.{World, node_count}
use Rattle.world_laws.specs.Places.{Beside}
use Rattle.world_laws.specs.Sights.{directory_of, frames_to, is_born_in, is_born_stage, node_of}
use Rattle.world_laws.specs.Names.{name_sight}
use Rattle.world_laws.specs.Families.{NodeHolds}
use Rattle.world_laws.specs.Invariant.{Holds}
use Rattle.number_maps.specs.Maps.{is_used}
use Rattle.kernel_model.specs.Footprint.{used_of}
use Rattle.world_laws.specs.Callers.{is_about}
use Rattle.world_laws.specs.Ranges.{KindHolds, has_lease, is_given, kind_sight}
use Rattle.world_laws.proofs.NewRanges.{no-lease-about, unmade-next}
use Rattle.rule_laws.proofs.own.Asks.{Takes}
use Rattle.rule_laws.proofs.own.Objects.{for-with}
use Rattle.rule_laws.proofs.own.Runs.{Starts}
use Rattle.rule_laws.proofs.own.Starting.{starts-may-as, starts-uncancelled}
use Rattle.rule_laws.proofs.makes.NewOnes.{nothing-known}
use Rattle.rule_laws.proofs.makes.Sources.{Next, Source, kind-next, ready_kind, ready_node}
use Rattle.rule_laws.proofs.makes.FromLease.{frames-of-none, given-by, on-way-still}

-- the lease that was put last is the node's
pub with-with : (m : Leases) (kind : Kind) (ns ms : List ℕ)
    → with_kind (with_kind m kind ns) kind ms ≡ with_kind m kind ms
with-with m kinds.Proc ns ms = refl
with-with m kinds.Msg ns ms = refl
with-with m kinds.Sem ns ms = refl

-- a name of a kind and a number has these
pub kind-of-name : (kind : Kind) (number : ℕ) → kind_of (name_of kind number) ≡ kind
kind-of-name kinds.Proc number = refl
kind-of-name kinds.Msg number = refl
kind-of-name kinds.Sem number = refl

-- and this number
pub number-of-name : (kind : Kind) (number : ℕ) → number_of (name_of kind number) ≡ number
number-of-name kinds.Proc number = refl
number-of-name kinds.Msg number = refl
number-of-name kinds.Sem number = refl

-- what none of these numbers passes
pub none-passes : (test : ℕ → Bool) (xs : List ℕ)
    → ((x : ℕ) → list_any (nat_eq x) xs ≡ true → test x ≡ false) → list_any test xs ≡ false
none-passes test [] h = refl
none-passes test (x ∷ xs) h =
    ap (λ t. t || list_any test xs)
    (h x (or_left (nat_eq x x) (list_any (nat_eq x) xs) (eq-eqb x x refl)))
    ∙ none-passes test xs (λ y there. h y (or_right (nat_eq y x) (list_any (nat_eq y) xs) there))

module _ (script : Script) (sound : IsSoundScript script) (w : World) (b : Beside) (holds : Holds script w [] b)
    (high : 1 ≤ node_count script) (can : can_run (node_of w 1) ≡ true) (s : Starts script w b 1) (kind : Kind)
    (takes : Takes kind s.call) (over : for_kind (node_of w 1).leases kind ≡ [])
    (more : has_more (directory_of w) kind ≡ true) where
  abbrev n : Node
  n = node_of w 1

  abbrev d : Directory
  d = directory_of w

  abbrev were : List ℕ
  were = for_kind d.ranges kind

  abbrev up : ℕ
  up = upcoming d kind

  abbrev later : List ℕ
  later = range_with_len (up + 1) 7

  abbrev started : Caller
  started = start_call n.caller s.call

  abbrev first : Step
  first = step_to (record n { caller = started })

  low : 1 ≤ 1
  low = omega arith

  node-holds : NodeHolds script b.pids (is_born_in w) 1 n
  node-holds = holds.nodes 1 low high

  -- nothing has a number of the next range, so nobody knows a name with it
  unknown : (number : ℕ) → list_any (nat_eq number) (lease_of up) ≡ true → is_known d (name_of kind number) ≡ false
  unknown number inside =
      ap (λ o. not (is_none o))
      (nothing-known script b.pids (is_born_in w) (name_of kind number) (name_sight script w [] b (name_of kind number))
      (holds.names (name_of kind number)) unused)
    where
      numbers-hold : KindHolds (is_born_in w) (kind_sight w b.kernel kind)
      numbers-hold = holds.kinds kind

      unused : is_used_name b.kernel (name_of kind number) ≡ false
      unused =
          ap (λ y. is_used (used_of b.kernel y) (number_of (name_of kind number))) (kind-of-name kind number)
          ∙ ap (is_used (used_of b.kernel kind)) (number-of-name kind number)
          ∙ numbers-hold.used number
          ∙ ap (is_given (kind_sight w b.kernel kind) number) (unmade-next were number inside)

  none-known : knows_any d kind (lease_of up) ≡ false
  none-known = none-passes (λ number. is_known d (name_of kind number)) (lease_of up) unknown

  starts-so : start_making script first s.call kind
      ≡ make_with script (step_to (ready_node n started kind later Next)) s.call up
  starts-so =
      ap (λ ns. if is_used_up ns && not (is_leader n) then Some (send first 1 (frames.LeaseAsk kind))
      else option_and_then (make_taken script first s.call) (take_from first.node kind ns)) over
      ∙ ap (λ t. if not t then Some (send first 1 (frames.LeaseAsk kind))
      else option_and_then (make_taken script first s.call)
      (if t then (if has_more d kind && not (knows_any d kind (lease_of up))
      then take_first (with_next_range first.node kind) kind (lease_of up) else None) else None))
      (eq-eqb n.number 1 node-holds.number)
      ∙ ap (λ t. option_and_then (make_taken script first s.call)
      (if t && not (knows_any d kind (lease_of up))
      then take_first (with_next_range first.node kind) kind (lease_of up) else None)) more
      ∙ ap (λ t. option_and_then (make_taken script first s.call)
      (if not t then take_first (with_next_range first.node kind) kind (lease_of up) else None)) none-known
      ∙ ap (λ leases. make_with script
      (step_to (record (ready_node n started kind later Next) { leases = leases })) s.call up)
      (with-with n.leases kind (lease_of up) later)

  ranges-now : for_kind (with_range d kind 1).ranges kind ≡ were ++ 1 ∷ []
  ranges-now = for-with d.ranges kind (were ++ 1 ∷ [])

  counted : length (for_kind (with_range d kind 1).ranges kind) ≡ length were + 1
  counted = ap length ranges-now ∙ length-append were (1 ∷ [])

  -- The leader's call starts with the first number of the next range.
  pub from-next : Source script w b 1 s.call kind up later Next (events.Run 1)
  from-next =
      record {
        low = low;
        high = high;
        takes = takes;
        stage = s.stage;
        birth = s.birth;
        row = s.row;
        has_row = s.has_row;
        deed = s.deed;
        caller = started;
        under_way = refl;
        there = s.free.there;
        is_due = s.due_now.due;
        may = s.may;
        may_whole = starts-may-as script w b holds 1 low high s;
        uncancelled = starts-uncancelled script w b holds 1 low high s;
        older = omega arith;
        tickets = let few = s.free.tickets in omega (arith, few);
        try_left = s.free.try_left;
        about = λ to sender. s.nowhere.in_streams to sender
            ∙ sym (ap (filter (is_about 1 to sender)) (frames-of-none (nat_eq to 1)));
        not_held = s.nowhere.held_for_names;
        not_waiting = s.nowhere.waiting;
        other_kinds = λ y d. ap (has_lease y) s.idle;
        at_leader = λ other. absurd (other refl);
        ready = subst (λ rs. KindHolds (is_born_in w) (ready_kind (kind_sight w b.kernel kind) 1 (lease_of up) rs))
            (sym ranges-now)
            (kind-next (is_born_in w) (kind_sight w b.kernel kind) 1 (holds.kinds kind) (ap is_born_stage s.stage) over
            (no-lease-about kind 1 (frames_to w 1 1) (s.nowhere.in_streams 1 1)));
        few =
            let old = holds.few kind
            in let same = on-way-still script sound w b holds 1 low high can s kind takes
            in let count = counted
            in omega (arith, old, same, count);
        enough =
            let count = counted
            in let fewer = ltb-true (length were) max_ranges more
            in omega (arith, count, fewer);
        gives = λ after to_nodes unstruck makes. given-by script sound w b holds 1 low high can s kind takes later up
            Next
            refl after to_nodes unstruck starts-so makes;
      }
