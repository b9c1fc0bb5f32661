-- Where a number comes from that a call takes: it is left in the node's lease, or in the lease that has just come,
-- or in the next range, which the leader gives itself. In each case the numbers of the kind are so that the node has
-- it next.
use Rattle.std.proofs.Common.{◌≡◌, ◌≢◌, ◌⊎◌, ℕ, ◌+◌, ◌≤◌, Bool, true, false, not, ◌||◌, cond, if◌then◌else◌, List, [], ◌∷◌, ◌++◌, length, nat_eq, filter, Contains, Option, Some, None, refl, ap, sym, subst, ◌∙◌, inr, arith, append-nil}
use Rattle.std.specs.List.{list_any}
use Rattle.std.proofs.lemmas.Bool.{eq-eqb, eqb-true}
use Rattle.pico_base.specs.declared.call.Call.{Call}
use Rattle.pico_base.specs.declared.numbers.Kind.{Kind}
use Rattle.pico_base.specs.declared.numbers.Name.{Name}
use Rattle.pico_base.specs.declared.numbers.Name.TheVariants.{Proc}
use Rattle.pico_base.specs.declared.script.Event.{Event}
use Rattle.pico_base.specs.declared.script.Script.{Script}
use Rattle.rpc_frame.specs.declared.frame.Frame.{Frame}
use Rattle.rpc_frame.specs.declared.frame.Frame.TheVariants as frames
use Rattle.number_maps.specs.Maps.{get}
use Rattle.kernel_model.specs.Fitting.{IsDue}
use Rattle.kernel_model.specs.Row.{Row}
use Rattle.kernel_laws.proofs.Members.{contains-first, contains-none}
use Rattle.entry_laws.specs.Entering.{MayMake}
use Rattle.waiting_model.specs.Kernel.{living_at as whole_living}
use Rattle.waiting_model.specs.Marks.{Alive as WholeAlive}
use Rattle.waiting_model.specs.Transition.{may_make as whole_may}
use Rattle.node_model.specs.Bodies.{Living as LivingBody, waiters_of}
use Rattle.node_model.specs.Caller.{Caller, caller_place}
use Rattle.node_model.specs.Directory.{Directory, held_for, maker_in, max_ranges, with_range}
use Rattle.node_model.specs.Kinds.{for_kind, get_named, is_same_kind, with_kind}
use Rattle.node_model.specs.Leases.{lease_of}
use Rattle.world_model.specs.Node.{Node, Living}
use Rattle.world_model.specs.Numbers.{make_with}
use Rattle.world_model.specs.Step.{Step, step_to}
use Rattle.world_model.specs.World.{World, node_count}
use Rattle.world_laws.specs.ByRules.{step_by_rules}
use Rattle.world_laws.specs.Places.{Beside, Idle, InTable, NoCancel, call_in}
use Rattle.world_laws.specs.Sights.{directory_of, frames_to, is_born_in, node_of}
use Rattle.world_laws.specs.Callers.{HasTryLeft, is_about, is_item_about, is_waiter_of, tries_made}
use Rattle.world_laws.specs.Families.{IsBorn}
use Rattle.world_laws.specs.Ranges.{IsRangeOf, IsRestOf, KindHolds, KindSight, has_lease, is_given, is_in_lease, kind_sight, leases_on_way}
use Rattle.world_laws.proofs.Changes.{Changes, taken}
use Rattle.world_laws.proofs.NewRanges.{kind-leased, leased, upcoming_in}
use Rattle.world_laws.proofs.Sends.{AreToNodes}
use Rattle.world_laws.proofs.Stays.{kind-stays}
use Rattle.rule_laws.proofs.own.Asks.{Takes}

-- ---- where it comes from

-- left in the lease, brought by a frame, or the first of the next range
pub data Origin : Type 0 where
  InLease : Origin
  Comes : (first : ℕ) → Origin
  Next : Origin

-- the frame that brings it
abbrev pub takes_by : Kind → Origin → List (ℕ × Frame)
takes_by kind (Comes first) = (1, frames.Lease kind first) ∷ []
takes_by kind origin = []

-- the leader's directory once it is there
abbrev pub directory_by : Directory → Kind → Origin → Directory
directory_by d kind Next = with_range d kind 1
directory_by d kind origin = d

-- the node with the call under way, once its number is taken
abbrev pub ready_node : Node → Caller → Kind → List ℕ → Origin → Node
ready_node n caller kind numbers o =
    record n {
      caller = caller;
      leases = with_kind n.leases kind numbers;
      leader = record n.leader { directory = directory_by n.leader.directory kind o };
    }

-- the numbers of the kind, where the node has these, and none are on their way to it
abbrev pub ready_kind : KindSight → ℕ → List ℕ → List ℕ → KindSight
ready_kind x p numbers ranges =
    record x {
      leases = λ h. if nat_eq h p then numbers else x.leases h;
      coming = λ h. if nat_eq h p then [] else x.coming h;
      ranges = ranges;
    }

-- a node's turn is a step of the world, which changes this there
pub record Gives (script : Script) (w : World) (p : ℕ) (e : Event) (takes : List (ℕ × Frame)) (after : Step) : Type 0
  where
    pub next : World
    pub is_step : step_by_rules w e ≡ Some next
    pub changes : Changes script p w next after.node takes after.sends after.entries

-- A node's process lives, and its call, which is due and takes a number of the kind, has this one to take, and is on
-- its way nowhere once the frame with it is taken. What the call is made with is the event's step.
pub record Source (script : Script) (w : World) (b : Beside) (p : ℕ) (call : Call) (kind : Kind) (number : ℕ)
    (numbers : List ℕ) (o : Origin) (e : Event) : Type 0 where
  pub low : 1 ≤ p
  pub high : p ≤ node_count script
  pub takes : Takes kind call
  -- the node and its process
  pub stage : (node_of w p).stage ≡ Living
  pub birth : IsBorn script b.pids p (node_of w p).pid (node_of w p).parent (node_of w p).parent_node
  pub row : Row
  pub has_row : get_named (node_of w p).deeds (Proc (node_of w p).pid) ≡ Some (LivingBody row)
  pub deed : b.deed (Proc (b.pids p)) ≡ InTable p
  -- the call
  pub caller : Caller
  pub under_way : caller.under_way ≡ Some call
  pub there : get b.places (b.pids p) ≡ Some (caller_place script p caller)
  pub is_due : IsDue (caller_place script p caller) call
  pub may : MayMake b.kernel (b.pids p) call
  -- in the kernel in which callers wait it may be made, too, and nobody has withdrawn it
  pub may_whole : (a : WholeAlive) → whole_living b.whole (b.pids p) ≡ Some a → whole_may a call ≡ true
  pub uncancelled : b.cancel p ≡ NoCancel
  pub older : let m : Node = node_of w p in m.caller.ticket ≤ caller.ticket
  pub tickets : caller.ticket ≤ tries_made script p caller + 1
  pub try_left : HasTryLeft script p caller
  pub about : (to sender : ℕ)
      → filter (is_about p to sender) (frames_to w to sender)
      ≡ filter (is_about p to sender) (taken p (takes_by kind o) to sender)
  pub not_held : (name : Name) → filter (is_item_about p) (held_for (directory_of w) name) ≡ []
  pub not_waiting : (name : Name) → filter (is_waiter_of p) (waiters_of (b.body name)) ≡ []
  pub other_kinds : (y : Kind) → is_same_kind y kind ≡ false → has_lease y (b.call p) ≡ false
  -- the numbers
  pub at_leader : p ≢ 1 → directory_by (directory_of w) kind o ≡ directory_of w
  pub ready : KindHolds (is_born_in w)
      (ready_kind (kind_sight w b.kernel kind) p (number ∷ numbers)
      (for_kind (directory_by (directory_of w) kind o).ranges kind))
  pub few : length (for_kind (directory_by (directory_of w) kind o).ranges kind)
      ≤ length w.journal + leases_on_way script (call_in b.call p Idle) kind + 2
  pub enough : length (for_kind (directory_by (directory_of w) kind o).ranges kind) ≤ max_ranges
  -- the step
  pub gives : (after : Step) → AreToNodes (node_count script) after.sends → after.strikes ≡ false
      → make_with script (step_to (ready_node (node_of w p) caller kind numbers o)) call number ≡ Some after
      → Gives script w p e (takes_by kind o) after

-- ---- the numbers of the kind

-- a number that is left in the lease
pub kind-at-hand : (born : ℕ → Bool) (x : KindSight) (p : ℕ) (numbers : List ℕ) → KindHolds born x
    → x.leases p ≡ numbers → x.coming p ≡ [] → KindHolds born (ready_kind x p numbers x.ranges)
kind-at-hand born x p numbers k lease none =
    kind-stays born born x (ready_kind x p numbers x.ranges) (λ y h. h)
    (record {
      used = λ number. refl;
      leases = λ h. leases-at h (nat_eq h p) refl;
      coming = λ h. coming-at h (nat_eq h p) refl;
      ranges = refl;
    }) k
  where
    leases-at : (h : ℕ) (t : Bool) → nat_eq h p ≡ t → x.leases h ≡ (if t then numbers else x.leases h)
    leases-at h true e = ap x.leases (eqb-true h p e) ∙ lease
    leases-at h false e = refl

    coming-at : (h : ℕ) (t : Bool) → nat_eq h p ≡ t → x.coming h ≡ (if t then [] else x.coming h)
    coming-at h true e = ap x.coming (eqb-true h p e) ∙ none
    coming-at h false e = refl

-- numbers that have come
pub kind-come : (born : ℕ → Bool) (x : KindSight) (p first : ℕ) → KindHolds born x → x.leases p ≡ []
    → x.coming p ≡ first ∷ [] → KindHolds born (ready_kind x p (lease_of first) x.ranges)
kind-come born x p first k none one =
    record {
      used = λ number. k.used number ∙ given-same number (maker_in x.ranges number);
      leases = λ h low. leases-at h low (nat_eq h p) refl;
      coming = λ h other. coming-at h other (nat_eq h p) refl;
      one_coming = λ h. one-at h (nat_eq h p) refl;
      to_born = k.to_born;
    }
  where
    range : IsRangeOf x.ranges first p
    range = k.coming p first (subst (λ ns. Contains ns first) (sym one) (contains-first first []))

    free-at : (number h : ℕ) (t : Bool) → nat_eq h p ≡ t
        → (list_any (nat_eq number) (x.leases h) || list_any (is_in_lease number) (x.coming h))
        ≡ (list_any (nat_eq number) (if t then lease_of first else x.leases h)
        || list_any (is_in_lease number) (if t then [] else x.coming h))
    free-at number h true e =
        ap (λ q. list_any (nat_eq number) (x.leases q) || list_any (is_in_lease number) (x.coming q)) (eqb-true h p e)
        ∙ ap (λ ns. list_any (nat_eq number) ns || list_any (is_in_lease number) (x.coming p)) none
        ∙ ap (λ ns. list_any (is_in_lease number) ns) one
    free-at number h false e = refl

    given-same : (number : ℕ) (made_by : Option ℕ)
        → is_given x number made_by ≡ is_given (ready_kind x p (lease_of first) x.ranges) number made_by
    given-same number None = refl
    given-same number (Some h) = ap not (free-at number h (nat_eq h p) refl)

    leases-at : (h : ℕ) → 1 ≤ h → (t : Bool) → nat_eq h p ≡ t
        → ((if t then lease_of first else x.leases h) ≡ [])
        ⊎ IsRestOf x.ranges (if t then lease_of first else x.leases h) h
    leases-at h low true e =
        inr
        (subst (λ q. IsRestOf x.ranges (lease_of first) q) (sym (eqb-true h p e))
        (record { first = first; range = range; taken = 0; rest = refl }))
    leases-at h low false e = k.leases h low

    coming-at : (h other : ℕ) (t : Bool) → nat_eq h p ≡ t → Contains (if t then [] else x.coming h) other
        → IsRangeOf x.ranges other h
    coming-at h other true e there = absurd (contains-none other there)
    coming-at h other false e there = k.coming h other there

    one-at : (h : ℕ) (t : Bool) → nat_eq h p ≡ t → length (if t then [] else x.coming h) ≤ 1
    one-at h true e = omega arith
    one-at h false e = k.one_coming h

-- numbers of the next range, which a born node gives itself
pub kind-next : (born : ℕ → Bool) (x : KindSight) (p : ℕ) → KindHolds born x → born p ≡ true → x.leases p ≡ []
    → x.coming p ≡ []
    → KindHolds born (ready_kind x p (lease_of (upcoming_in x.ranges)) (x.ranges ++ p ∷ []))
kind-next born x p k is_born none_left none =
    kind-stays born born (ready_kind (leased x p) p (lease_of up) (x.ranges ++ p ∷ []))
    (ready_kind x p (lease_of up) (x.ranges ++ p ∷ [])) (λ y h. h)
    (record {
      used = λ number. refl;
      leases = λ h. refl;
      coming = λ h. coming-at h (nat_eq h p) refl;
      ranges = refl;
    })
    (kind-come born (leased x p) p up (kind-leased born x p k is_born none) none_left
    (ap (λ t. x.coming p ++ cond t (up ∷ []) []) (eq-eqb p p refl) ∙ ap (λ ns. ns ++ up ∷ []) none))
  where
    up : ℕ
    up = upcoming_in x.ranges

    coming-at : (h : ℕ) (t : Bool) → nat_eq h p ≡ t
        → (if t then [] else x.coming h ++ cond t (upcoming_in x.ranges ∷ []) []) ≡ (if t then [] else x.coming h)
    coming-at h true e = refl
    coming-at h false e = append-nil (x.coming h)
