-- The families where deeds of processes move with a parcel: what holds of each stays.
use Rattle.std.proofs.Common.{◌≡◌, ℕ, Bool, true, false, if◌then◌else◌, List, refl, ap, sym, subst, ◌∙◌}
use Rattle.pico_base.specs.declared.numbers.Name.{Name}
use Rattle.pico_base.specs.declared.numbers.Name.TheVariants.{Proc}
use Rattle.pico_base.specs.declared.call.Call.{Call}
use Rattle.pico_base.specs.declared.script.Script.{Script}
use Rattle.rpc_frame.specs.declared.deed.Parcel.{Parcel}
use Rattle.rpc_frame.specs.declared.frame.Frame.{Frame}
use Rattle.kernel_model.specs.Fitting.{Places}
use Rattle.kernel_model.specs.Kernel.{Kernel, Process}
use Rattle.kernel_model.specs.Kernel as kernel
use Rattle.node_model.specs.Directory.{has_deed_of}
use Rattle.world_model.specs.Node.{Stage}
use Rattle.world_model.specs.World.{World}
use Rattle.world_laws.specs.Places.{DeedPlace, Unmade, InTable, InCheckpoint, InGrant, InGiveBack, InLeft, InKept, InHand, InExitTo, Beside}
use Rattle.world_laws.specs.Names.{forker}
use Rattle.world_laws.specs.Families.{FamilyHolds, IsWhereFor, IsWithParent, CheckpointIn, IsNewAt, IsAwaited}
use Rattle.route_laws.proofs.exits.Arrivals.{is_one_of}
use Rattle.route_laws.proofs.exits.Released.{deed_released}
use Rattle.route_laws.proofs.exits.Parcels.{HasParcel}

-- ---- a process that isn't awaited any more, or is as before

-- no deed is in a Checkpoint that wasn't
abbrev pub ComesAsBefore : DeedPlace → DeedPlace → Type 0
ComesAsBefore before after = (to : ℕ) → after ≡ InCheckpoint to → before ≡ InCheckpoint to

-- the Checkpoint of a process is on its way still
pub checkpoint-moved : (script : Script) (pids : ℕ → ℕ) (places : Places) (c : ℕ) (fs : List Frame)
    (before after : DeedPlace)
    → ComesAsBefore before after → CheckpointIn script pids places c fs before
    → CheckpointIn script pids places c fs after
checkpoint-moved script pids places c fs before (InCheckpoint to) same h =
    subst (λ d. CheckpointIn script pids places c fs d) (same to refl) h
checkpoint-moved script pids places c fs before after same h = tt

-- a process in one is new
pub fresh-moved : (v : Process) (before after : DeedPlace) → ComesAsBefore before after → IsNewAt v before
    → IsNewAt v after
fresh-moved (kernel.Living alive) before (InCheckpoint to) same h =
    subst (λ d. IsNewAt (kernel.Living alive) d) (same to refl) h
fresh-moved (kernel.Ended ending) before after same h = tt
fresh-moved kernel.Gone before after same h = tt
fresh-moved (kernel.Living alive) before after same h = tt

-- and its node isn't born
pub awaited-moved : (stage : Stage) (before after : DeedPlace) → ComesAsBefore before after → IsAwaited stage before
    → IsAwaited stage after
awaited-moved stage before (InCheckpoint to) same h = subst (λ d. IsAwaited stage d) (same to refl) h
awaited-moved stage before after same h = tt

-- ---- families

-- deeds move so that each is where it may be, and those that were together are
pub record MovesDeeds (deed deed' : ℕ → DeedPlace) : Type 0 where
  pub where_they_are : (pid k : ℕ) (v : Process) → IsWhereFor k (deed pid) v → IsWhereFor k (deed' pid) v
  pub together : (p q : ℕ) → deed p ≡ deed q → deed' p ≡ deed' q
  pub comes : (pid : ℕ) → ComesAsBefore (deed pid) (deed' pid)

-- who was with its parent is
pub parent-moved : (deed deed' : ℕ → DeedPlace) → ((p q : ℕ) → deed p ≡ deed q → deed' p ≡ deed' q) → (parent pid : ℕ)
    (v : Process) → IsWithParent deed parent pid v → IsWithParent deed' parent pid v
parent-moved deed deed' together parent pid (kernel.Ended ending) h = together pid parent h
parent-moved deed deed' together parent pid (kernel.Living alive) h = tt
parent-moved deed deed' together parent pid kernel.Gone h = tt

-- So each family holds.
pub family-moved : (script : Script) (pids : ℕ → ℕ) (places : Places) (k : Kernel) (deed deed' : ℕ → DeedPlace)
    (fs : List Frame) (stage : Stage) (c : ℕ) → MovesDeeds deed deed'
    → FamilyHolds script pids places k deed fs stage c → FamilyHolds script pids places k deed' fs stage c
family-moved script pids places k deed deed' fs stage c m h =
    record {
      process = h.process;
      is = h.is;
      child = h.child;
      where_it_is = m.where_they_are (pids c) c h.process h.where_it_is;
      with_parent = parent-moved deed deed' m.together (pids (forker script c)) (pids c) h.process h.with_parent;
      checkpoint = checkpoint-moved script pids places c fs (deed (pids c)) (deed' (pids c)) (m.comes (pids c))
          h.checkpoint;
      fresh = fresh-moved h.process (deed (pids c)) (deed' (pids c)) (m.comes (pids c)) h.fresh;
      awaited = awaited-moved stage (deed (pids c)) (deed' (pids c)) (m.comes (pids c)) h.awaited;
      children = h.children;
    }

-- ---- what comes into the hand

where-in-hand : (k g : ℕ) (v : Process) → IsWhereFor k (InKept g) v → IsWhereFor k (InHand g) v
where-in-hand k g (kernel.Living alive) h = h
where-in-hand k g (kernel.Ended ending) h = h
where-in-hand k g kernel.Gone h = h

-- a deed that comes into the hand is where it may be
pub where-released : (script : Script) (pids : ℕ → ℕ) (names : List Name) (k : ℕ) (v : Process) (d : DeedPlace)
    → IsWhereFor k d v → IsWhereFor k (deed_released script pids names d) v
where-released script pids names k v (InKept g) h = by-test (is_one_of (Proc (pids (forker script g))) names)
  where
    by-test : (t : Bool) → IsWhereFor k (if t then InHand g else InKept g) v
    by-test true = where-in-hand k g v h
    by-test false = h
where-released script pids names k v Unmade h = h
where-released script pids names k v (InTable node) h = h
where-released script pids names k v (InCheckpoint to) h = h
where-released script pids names k v (InGrant to) h = h
where-released script pids names k v (InGiveBack sender) h = h
where-released script pids names k v (InLeft g) h = h
where-released script pids names k v (InHand g) h = h
where-released script pids names k v (InExitTo g x) h = h

-- and in no Checkpoint
pub comes-released : (script : Script) (pids : ℕ → ℕ) (names : List Name) (d : DeedPlace)
    → ComesAsBefore d (deed_released script pids names d)
comes-released script pids names (InKept g) to e = absurd (by-test (is_one_of (Proc (pids (forker script g))) names) e)
  where
    by-test : (t : Bool) → (if t then InHand g else InKept g) ≡ InCheckpoint to → ⊥
    by-test true h = cc
    by-test false h = cc
comes-released script pids names Unmade to e = e
comes-released script pids names (InTable node) to e = e
comes-released script pids names (InCheckpoint c) to e = e
comes-released script pids names (InGrant c) to e = e
comes-released script pids names (InGiveBack c) to e = e
comes-released script pids names (InLeft c) to e = e
comes-released script pids names (InHand c) to e = e
comes-released script pids names (InExitTo c x) to e = e

-- ---- what was in the parcel

module _ (script : Script) (w : World) (b : Beside) (parcel : Parcel) (c : ℕ) (call : Call) (place : DeedPlace)
    (parcel_is : HasParcel script w b parcel c call place) where
  -- two names whose deeds are together are both in the parcel, or neither
  pub has-same : (m k : Name) → b.deed m ≡ b.deed k → has_deed_of m parcel ≡ has_deed_of k parcel
  has-same m k e = by-tests (has_deed_of m parcel) (has_deed_of k parcel) refl refl
    where
      by-tests : (s t : Bool) → has_deed_of m parcel ≡ s → has_deed_of k parcel ≡ t
          → has_deed_of m parcel ≡ has_deed_of k parcel
      by-tests true t g h = g ∙ sym (parcel_is.all k (sym e ∙ parcel_is.deeds m g))
      by-tests false true g h = parcel_is.all m (e ∙ parcel_is.deeds k h) ∙ sym h
      by-tests false false g h = g ∙ sym h

  -- the names of the parcel are here now, and the others by their places
  abbrev pub deed_by : DeedPlace → (DeedPlace → DeedPlace) → Name → DeedPlace
  deed_by here moved name = if has_deed_of name parcel then here else moved (b.deed name)

  -- so they are together
  pub together-by : (here : DeedPlace) (moved : DeedPlace → DeedPlace) (m k : Name) → b.deed m ≡ b.deed k
      → deed_by here moved m ≡ deed_by here moved k
  together-by here moved m k e =
      ap (λ t. if t then here else moved (b.deed m)) (has-same m k e)
      ∙ ap (λ p. if has_deed_of k parcel then here else moved p) e

  -- and in no Checkpoint
  pub comes-by : (here : DeedPlace) (moved : DeedPlace → DeedPlace) → ((to : ℕ) → here ≡ InCheckpoint to → ⊥)
      → ((d : DeedPlace) → ComesAsBefore d (moved d)) → (name : Name)
      → ComesAsBefore (b.deed name) (deed_by here moved name)
  comes-by here moved not still name to = by-test (has_deed_of name parcel)
    where
      by-test : (t : Bool) → (if t then here else moved (b.deed name)) ≡ InCheckpoint to
          → b.deed name ≡ InCheckpoint to
      by-test true e = absurd (not to e)
      by-test false e = still (b.deed name) to e
