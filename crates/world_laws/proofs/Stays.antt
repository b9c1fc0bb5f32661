-- What is seen the same keeps what holds of it; and what holds stays where more nodes are born, and more names known.
use Rattle.std.proofs.Common.{◌≡◌, ℕ, Bool, true, Option, Some, None, subst, inl, inr}
use Rattle.pico_base.specs.declared.call.Call.{Call}
use Rattle.pico_base.specs.declared.numbers.Name.{Name}
use Rattle.pico_base.specs.declared.script.Script.{Script}
use Rattle.rpc_frame.specs.declared.frame.Frame.{Frame}
use Rattle.rpc_frame.specs.declared.frame.Frame.TheVariants as frames
use Rattle.world_model.specs.Node.{Node}
use Rattle.world_laws.specs.Places.{CallPlace, Idle, AsksLease, HasLease, InAsk, InRequest, InNotOwner, SentByPlace, SentByRange, InBounce, IsHeld, IsInHand, Parked, Waits, InAnswer, Ends}
use Rattle.world_laws.specs.Names.{NameSight, NameHolds, IsBoundRightly}
use Rattle.world_laws.specs.Callers.{CallSight, CallHolds, HasCall, HasCallOrNone, IsBetween}
use Rattle.world_laws.specs.Ways.{WaySight, Way, here, tells, collected, over, gone}
use Rattle.world_laws.specs.Ranges.{KindSight, KindHolds}
use Rattle.world_laws.specs.Families.{NodeHolds}
use Rattle.world_laws.specs.Invariant.{MayBe}

-- each node that was born is born
abbrev pub IsMore : (ℕ → Bool) → (ℕ → Bool) → Type 0
IsMore born more = (x : ℕ) → born x ≡ true → more x ≡ true

-- ---- names

pub record SameName (x y : NameSight) : Type 0 where
  pub place : x.place ≡ y.place
  pub maker : x.maker ≡ y.maker
  pub stays : (n : ℕ) → x.stays n ≡ y.stays n
  pub used : x.used ≡ y.used
  pub part : x.part ≡ y.part
  pub body : x.body ≡ y.body
  pub deed : x.deed ≡ y.deed
  pub held : (h : ℕ) → x.held h ≡ y.held h
  pub brought : (to sender : ℕ) → x.brought to sender ≡ y.brought to sender
  pub kept : (pid : ℕ) → x.kept pid ≡ y.kept pid
  pub hand : x.hand ≡ y.hand
  pub begins : (h : ℕ) → x.begins h ≡ y.begins h
  pub steps : (h : ℕ) → x.steps h ≡ y.steps h
  pub ranges : (h : ℕ) → x.ranges h ≡ y.ranges h
  pub placed : (q : ℕ) → x.placed q ≡ y.placed q
  pub news : (q : ℕ) → x.news q ≡ y.news q

same-sight : (x y : NameSight) → SameName x y → x ≡ y
same-sight x y s = λ i. record {
  place = s.place i;
  maker = s.maker i;
  stays = λ n. s.stays n i;
  used = s.used i;
  part = s.part i;
  body = s.body i;
  deed = s.deed i;
  held = λ h. s.held h i;
  brought = λ to sender. s.brought to sender i;
  kept = λ pid. s.kept pid i;
  hand = s.hand i;
  begins = λ h. s.begins h i;
  steps = λ h. s.steps h i;
  ranges = λ h. s.ranges h i;
  placed = λ q. s.placed q i;
  news = λ q. s.news q i;
}

name-born : (script : Script) (pids : ℕ → ℕ) (born more : ℕ → Bool) (name : Name) (x : NameSight) → IsMore born more
    → NameHolds script pids born name x → NameHolds script pids more name x
name-born script pids born more name x m h =
    record {
      parts = h.parts;
      callers = h.callers;
      made = h.made;
      place_fits = h.place_fits;
      tables = h.tables;
      streams = h.streams;
      kept = h.kept;
      in_hand = h.in_hand;
      known = h.known;
      believed = h.believed;
      plays = h.plays;
      leader = h.leader;
      told = h.told;
      found = h.found;
      unplaced = h.unplaced;
      ranged = h.ranged;
      leased = h.leased;
      bound = λ to e.
          let bound : IsBoundRightly name born to = h.bound to e
          in record { object = bound.object; is_born = m to bound.is_born };
      items = h.items;
    }

-- a name that is seen the same keeps all that holds of it
pub name-stays : (script : Script) (pids : ℕ → ℕ) (born more : ℕ → Bool) (name : Name) (x y : NameSight)
    → IsMore born more → SameName x y → NameHolds script pids born name x → NameHolds script pids more name y
name-stays script pids born more name x y m s h =
    subst (λ (z : NameSight). NameHolds script pids more name z) (same-sight x y s)
    (name-born script pids born more name x m h)

-- ---- calls

pub record SameCall (x y : CallSight) : Type 0 where
  pub number : x.number ≡ y.number
  pub pid : x.pid ≡ y.pid
  pub stage : x.stage ≡ y.stage
  pub caller : x.caller ≡ y.caller
  pub leases : x.leases ≡ y.leases
  pub place : x.place ≡ y.place
  pub alive : x.alive ≡ y.alive
  pub call : x.call ≡ y.call
  pub frames_about : (to sender : ℕ) → x.frames_about to sender ≡ y.frames_about to sender
  pub held : (name : Name) → x.held name ≡ y.held name
  pub hand : x.hand ≡ y.hand
  pub waiters : (name : Name) → x.waiters name ≡ y.waiters name

same-call : (x y : CallSight) → SameCall x y → x ≡ y
same-call x y s = λ i. record {
  number = s.number i;
  pid = s.pid i;
  stage = s.stage i;
  caller = s.caller i;
  leases = s.leases i;
  place = s.place i;
  alive = s.alive i;
  call = s.call i;
  frames_about = λ to sender. s.frames_about to sender i;
  held = λ name. s.held name i;
  hand = s.hand i;
  waiters = λ name. s.waiters name i;
}

between-born : (p : ℕ) (born more : ℕ → Bool) (place : CallPlace) → IsMore born more → IsBetween p born place
    → IsBetween p more place
between-born p born more Idle m h = tt
between-born p born more (AsksLease kind) m h = h
between-born p born more (HasLease kind first) m h = h
between-born p born more InAsk m h = h
between-born p born more (InRequest to) m h = (m to h.0, h.1)
between-born p born more (InNotOwner sender) m h = h
between-born p born more (SentByPlace to) m h = h
between-born p born more (SentByRange to) m h = h
between-born p born more (InBounce sender) m h = h
between-born p born more (IsHeld name) m h = tt
between-born p born more IsInHand m h = tt
between-born p born more Parked m h = tt
between-born p born more (Waits name) m h = tt
between-born p born more (InAnswer sender reply) m h = (m sender h.0, h.1)
between-born p born more Ends m h = tt

-- a call stays where it is when more nodes are born
pub has-call-born : (script : Script) (p : ℕ) (born more : ℕ → Bool) (x : CallSight) (call : Call) → IsMore born more
    → HasCall script p born x call → HasCall script p more x call
has-call-born script p born more x call m h =
    record {
      just_there = h.just_there;
      home = h.home;
      used_up = h.used_up;
      between = between-born p born more x.call m h.between;
      so_far = h.so_far;
      at_work = h.at_work;
      started = h.started;
      tickets = h.tickets;
      try_left = h.try_left;
    }

call-or-none-born : (script : Script) (p : ℕ) (born more : ℕ → Bool) (x : CallSight) (call : Option Call)
    → IsMore born more
    → HasCallOrNone script p born x call → HasCallOrNone script p more x call
call-or-none-born script p born more x None m h = h
call-or-none-born script p born more x (Some call) m h = has-call-born script p born more x call m h

call-born : (script : Script) (p : ℕ) (born more : ℕ → Bool) (x : CallSight) → IsMore born more
    → CallHolds script p born x → CallHolds script p more x
call-born script p born more x m h =
    record { call = call-or-none-born script p born more x x.caller.under_way m h.call; ends = h.ends }

-- a call that is seen the same keeps all that holds of it
pub call-stays : (script : Script) (p : ℕ) (born more : ℕ → Bool) (x y : CallSight) → IsMore born more → SameCall x y
    → CallHolds script p born x → CallHolds script p more y
call-stays script p born more x y m s h =
    subst (λ (z : CallSight). CallHolds script p more z) (same-call x y s) (call-born script p born more x m h)

-- ---- ways

pub record SameWay (x y : WaySight) : Type 0 where
  pub stage : x.stage ≡ y.stage
  pub parting : x.parting ≡ y.parting
  pub leavings : x.leavings ≡ y.leavings
  pub recalls : x.recalls ≡ y.recalls
  pub lefts : x.lefts ≡ y.lefts

same-way : (x y : WaySight) → SameWay x y → x ≡ y
same-way x y s = λ i. record {
  stage = s.stage i;
  parting = s.parting i;
  leavings = s.leavings i;
  recalls = s.recalls i;
  lefts = s.lefts i;
}

way-known : (script : Script) (pids : ℕ → ℕ) (c : ℕ) (knows more : Bool) (x : WaySight)
    → (knows ≡ true → more ≡ true) → Way script pids c knows x → Way script pids c more x
way-known script pids c knows more x m (here h) = here h
way-known script pids c knows more x m (tells h) = tells h
way-known script pids c knows more x m (collected h) =
    collected (record { stage = h.stage; shows = h.shows; lefts = h.lefts; parent = m h.parent })
way-known script pids c knows more x m (over h) =
    over
    (record { stage = h.stage; shows = h.shows; parcel = h.parcel; lefts = h.lefts; parent = m h.parent })
way-known script pids c knows more x m (gone h) =
    gone (record { stage = h.stage; shows = h.shows; lefts = h.lefts; parent = m h.parent })

-- a way that is seen the same is the same
pub way-stays : (script : Script) (pids : ℕ → ℕ) (c : ℕ) (knows more : Bool) (x y : WaySight)
    → (knows ≡ true → more ≡ true) → SameWay x y → Way script pids c knows x → Way script pids c more y
way-stays script pids c knows more x y m s h =
    subst (λ (z : WaySight). Way script pids c more z) (same-way x y s) (way-known script pids c knows more x m h)

-- ---- kinds

pub record SameKind (x y : KindSight) : Type 0 where
  pub used : (number : ℕ) → x.used number ≡ y.used number
  pub leases : (h : ℕ) → x.leases h ≡ y.leases h
  pub coming : (h : ℕ) → x.coming h ≡ y.coming h
  pub ranges : x.ranges ≡ y.ranges

same-kind : (x y : KindSight) → SameKind x y → x ≡ y
same-kind x y s = λ i. record {
  used = λ number. s.used number i;
  leases = λ h. s.leases h i;
  coming = λ h. s.coming h i;
  ranges = s.ranges i;
}

-- a kind that is seen the same keeps all that holds of it
pub kind-stays : (born more : ℕ → Bool) (x y : KindSight) → IsMore born more → SameKind x y → KindHolds born x
    → KindHolds more y
kind-stays born more x y m s h =
    subst (λ (z : KindSight). KindHolds more z) (same-kind x y s)
    (record {
      used = h.used;
      leases = h.leases;
      coming = h.coming;
      one_coming = h.one_coming;
      to_born = λ node there. m node (h.to_born node there);
    })

-- ---- nodes and frames

-- a node holds what it held when more nodes are born
pub node-born : (script : Script) (pids : ℕ → ℕ) (born more : ℕ → Bool) (p : ℕ) (n : Node) → IsMore born more
    → NodeHolds script pids born p n → NodeHolds script pids more p n
node-born script pids born more p n m h =
    record {
      number = h.number;
      holds = h.holds;
      birth = h.birth;
      first = h.first;
      others = h.others;
      rows = h.rows;
      owners = λ name owner there.
          let old = h.owners name owner there
          in (m owner old.0, old.1);
    }

-- a frame may be where it was when more nodes are born
pub may-be-born : (script : Script) (born more : ℕ → Bool) (to sender : ℕ) (frame : Frame) → IsMore born more
    → MayBe script born to sender frame → MayBe script more to sender frame
may-be-born script born more to sender (frames.Ask ticket pid call) m h = h
may-be-born script born more to sender (frames.Request ticket pid call) m h = m to h
may-be-born script born more to sender (frames.Forward asked) m h = h
may-be-born script born more to sender (frames.Bounce asked) m h = h
may-be-born script born more to sender (frames.Answer ticket reply) m h = m sender h
may-be-born script born more to sender (frames.NotOwner ticket) m h = m sender h
may-be-born script born more to sender (frames.LeaseAsk kind) m h = h
may-be-born script born more to sender (frames.Lease kind first) m h = h
may-be-born script born more to sender (frames.Placed name node) m h = h
may-be-born script born more to sender (frames.Checkpoint pid parent deed vars) m h = h
may-be-born script born more to sender (frames.Suggest name node) m h = (h.0, h.1, m node h.2)
may-be-born script born more to sender (frames.Recall name) m h = h
may-be-born script born more to sender (frames.GiveBack deed) m h = h
may-be-born script born more to sender (frames.Grant deed) m h = (h.0, m to h.1)
may-be-born script born more to sender (frames.Leaving pid parent parent_node) m h = h
may-be-born script born more to sender frames.RecallAll m h = h
may-be-born script born more to sender (frames.Left parcel) m h = h
may-be-born script born more to sender (frames.ExitTo parcel) m h = h
may-be-born script born more to sender (frames.Cancel asked) m (inl h) = inl h
may-be-born script born more to sender (frames.Cancel asked) m (inr h) = inr (h.0, m to h.1)
