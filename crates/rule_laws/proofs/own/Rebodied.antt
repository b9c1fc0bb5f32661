-- A name whose deed is in the table of a node, and has another body after an entry.
use Rattle.std.proofs.Common.{◌≡◌, ℕ, Bool, true, false, ◌&&◌, not, if◌then◌else◌, List, [], filter, flat_map, nat_eq, Option, Some, None, is_some, refl, ap, sym, subst, ◌∙◌, inl, inr}
use Rattle.std.specs.List.{AllByRecursion}
use Rattle.std.proofs.lemmas.Bool.{cases_eq, false≢true}
use Rattle.pico_base.specs.declared.numbers.Name.{Name}
use Rattle.pico_base.specs.declared.numbers.Name.TheVariants.{Proc, Msg, Sem}
use Rattle.pico_base.specs.declared.reply.Entry.{Entry}
use Rattle.pico_base.specs.declared.script.Script.{Script}
use Rattle.rpc_frame.specs.declared.frame.Frame.{Frame}
use Rattle.number_maps.specs.Maps.{get}
use Rattle.kernel_model.specs.Kernel.{Kernel, Process}
use Rattle.kernel_model.specs.Kernel as kernel
use Rattle.kernel_model.specs.Queue.{Queue}
use Rattle.kernel_model.specs.SemaphoreSet.{SemaphoreSet}
use Rattle.kernel_model.specs.Valid.{IsValid}
use Rattle.waiting_model.specs.Waiters.{Awaited}
use Rattle.entry_laws.specs.Entering.{is_used_name}
use Rattle.entry_laws.proofs.Fresh.{nothing_at, unused-body}
use Rattle.node_model.specs.declared.held.Held.{Held}
use Rattle.node_model.specs.Kinds.{get_named}
use Rattle.node_model.specs.Directory.{maker, is_parcel_with}
use Rattle.node_model.specs.Bodies.{Body, AQueue, ASet, Living, Ended, Gone, Removed, bare, body_in, process_body, queue_body, set_body, waiters_of}
use Rattle.world_model.specs.Census.{brings}
use Rattle.world_model.specs.Node.{Node, is_node}
use Rattle.world_model.specs.World.{World}
use Rattle.world_laws.specs.Places.{DeedPlace, InTable, Beside}
use Rattle.world_laws.specs.Sights.{frames_to, directory_of, stage_of}
use Rattle.world_laws.specs.Plays.{begin, has_any, is_checkpoint_of, plays, placed_in, news}
use Rattle.world_laws.specs.Names.{NameHolds, NameSight, OneIf, IsBringer, IsItemWith, name_sight, held_as, held_at, is_stream_of, is_kept_for, is_hand_place, node_in, comes_to, is_maker, range_steps_of, forker}
use Rattle.world_laws.proofs.Changes.{Changes, filter-is-list-map, flat_map-is-list-map, made-same, only-stayed, read-same, stayed}
use Rattle.world_laws.proofs.Frames.{all-weaker, no-checkpoint, no-deed, no-news, no-places, no-ranges, no-steps}
use Rattle.world_laws.proofs.LeftAlone.{AreNotAbout, DirectoryLeaves}
use Rattle.world_laws.proofs.NameFacts.{held-elsewhere, held-here}
use Rattle.world_laws.proofs.Stays.{SameName}

-- the same name, with another body where its deed is held, and another part in the kernel
abbrev pub rebodied : NameSight → Body → Body → NameSight
rebodied x part body = record x { part = part; body = body; held = held_as x.deed body }

-- a queue or a set
abbrev is_awaited : Body → Bool
is_awaited (AQueue q) = true
is_awaited (ASet s) = true
is_awaited body = false

-- the body is this part of the kernel, with those who wait there, who have nodes of the script
pub record IsBodyOf (script : Script) (part body : Body) : Type 0 where
  pub parts : bare body ≡ part
  pub callers : AllByRecursion (λ w. is_node script w.caller ≡ true) (waiters_of body)

queue-of : (script : Script) (o : Option Queue) → IsBodyOf script (queue_body o) (queue_body o)
queue-of script None = record { parts = refl; callers = tt }
queue-of script (Some q) = record { parts = refl; callers = tt }

set-of : (script : Script) (o : Option SemaphoreSet) → IsBodyOf script (set_body o) (set_body o)
set-of script None = record { parts = refl; callers = tt }
set-of script (Some s) = record { parts = refl; callers = tt }

process-of : (script : Script) (o : Option Process) → IsBodyOf script (process_body o) (process_body o)
process-of script None = record { parts = refl; callers = tt }
process-of script (Some (kernel.Living a)) = record { parts = refl; callers = tt }
process-of script (Some (kernel.Ended ending)) = record { parts = refl; callers = tt }
process-of script (Some kernel.Gone) = record { parts = refl; callers = tt }

-- where nobody waits it is the part itself
pub nobody-waits-in : (script : Script) (k : Kernel) (name : Name) → IsBodyOf script (body_in k name) (body_in k name)
nobody-waits-in script k (Proc pid) = process-of script (get k.processes pid)
nobody-waits-in script k (Msg id) = queue-of script (get k.queues id)
nobody-waits-in script k (Sem id) = set-of script (get k.sets id)

nobody-at-process : (o : Option Process) → waiters_of (process_body o) ≡ []
nobody-at-process None = refl
nobody-at-process (Some (kernel.Living a)) = refl
nobody-at-process (Some (kernel.Ended ending)) = refl
nobody-at-process (Some kernel.Gone) = refl

nobody-at-queue : (o : Option Queue) → waiters_of (queue_body o) ≡ []
nobody-at-queue None = refl
nobody-at-queue (Some q) = refl

nobody-at-set : (o : Option SemaphoreSet) → waiters_of (set_body o) ≡ []
nobody-at-set None = refl
nobody-at-set (Some s) = refl

-- nobody waits in the part
pub nobody-waits : (k : Kernel) (name : Name) → waiters_of (body_in k name) ≡ []
nobody-waits k (Proc pid) = nobody-at-process (get k.processes pid)
nobody-waits k (Msg id) = nobody-at-queue (get k.queues id)
nobody-waits k (Sem id) = nobody-at-set (get k.sets id)

queue-no-other : (q : Awaited Queue) (v : Body) → is_awaited v ≡ false → AQueue q ≡ v → ⊥
queue-no-other q v none h = false≢true (sym none ∙ ap is_awaited (sym h))

set-no-other : (s : Awaited SemaphoreSet) (v : Body) → is_awaited v ≡ false → ASet s ≡ v → ⊥
set-no-other s v none h = false≢true (sym none ∙ ap is_awaited (sym h))

-- nobody waits at a body that is no queue and no set
nobody-else : (v part : Body) → bare v ≡ part → is_awaited part ≡ false → waiters_of v ≡ []
nobody-else (AQueue q) part is none = absurd (queue-no-other _ part none is)
nobody-else (ASet s) part is none = absurd (set-no-other _ part none is)
nobody-else (Living row) part is none = refl
nobody-else (Ended ending) part is none = refl
nobody-else Gone part is none = refl
nobody-else Removed part is none = refl

nothing-awaited : (name : Name) → is_awaited (nothing_at name) ≡ false
nothing-awaited (Proc pid) = refl
nothing-awaited (Msg id) = refl
nothing-awaited (Sem id) = refl

-- where nothing has the name nobody waits
pub nobody-at-unused : (k : Kernel) (name : Name) (v : Body) → IsValid k → is_used_name k name ≡ false
    → bare v ≡ body_in k name → waiters_of v ≡ []
nobody-at-unused k name v valid unused is =
    nobody-else v (nothing_at name) (is ∙ unused-body k name valid unused) (nothing-awaited name)

same-some : (t : Bool) (a c : Body) → is_some (if t then Some a else None) ≡ is_some (if t then Some c else None)
same-some true a c = refl
same-some false a c = refl

-- all holds of it as before
pub name-rebodied : (script : Script) (pids : ℕ → ℕ) (born : ℕ → Bool) (name : Name) (x : NameSight) (node : ℕ)
    (part body : Body) → IsBodyOf script part body → x.deed ≡ InTable node → NameHolds script pids born name x
    → NameHolds script pids born name (rebodied x part body)
name-rebodied script pids born name x node part body is at h =
    record {
      parts = is.parts;
      callers = is.callers;
      made = h.made;
      place_fits = h.place_fits;
      tables = λ q. refl;
      streams = λ to sender. subst (λ (d : DeedPlace). OneIf (is_stream_of (forker script) d to sender)
          (IsBringer pids name body d) (x.brought to sender)) (sym at)
          (subst (λ (d : DeedPlace). OneIf (is_stream_of (forker script) d to sender)
          (IsBringer pids name x.body d) (x.brought to sender)) at (h.streams to sender));
      kept = λ pid. subst (λ (d : DeedPlace). OneIf (is_kept_for (forker script) pids d pid)
          (IsItemWith name body (pids (node_in d))) (x.kept pid)) (sym at)
          (subst (λ (d : DeedPlace). OneIf (is_kept_for (forker script) pids d pid)
          (IsItemWith name x.body (pids (node_in d))) (x.kept pid)) at (h.kept pid));
      in_hand = subst (λ (d : DeedPlace). OneIf (is_hand_place d) (IsItemWith name body (pids (node_in d))) x.hand)
          (sym at)
          (subst (λ (d : DeedPlace). OneIf (is_hand_place d) (IsItemWith name x.body (pids (node_in d))) x.hand) at
          h.in_hand);
      known = h.known;
      believed = h.believed;
      plays = h.plays;
      leader = ap (λ (d : DeedPlace). is_some (held_as d body 1)) at
          ∙ same-some (nat_eq node 1) body x.body
          ∙ sym (ap is_some (h.tables 1) ∙ ap (λ (d : DeedPlace). is_some (held_as d x.body 1)) at)
          ∙ h.leader;
      told = h.told;
      found = h.found;
      unplaced = h.unplaced;
      ranged = h.ranged;
      leased = h.leased;
      bound = h.bound;
      items = h.items;
    }

-- what an event at node p leaves of a name that has another body in its table
pub record RebodiesName (w w' : World) (hand hand' : List Held) (b b' : Beside) (p : ℕ) (n : Node)
    (left : ℕ → ℕ → List Frame) (name : Name) : Type 0 where
  pub directory : DirectoryLeaves (directory_of w) (directory_of w') name
  pub used_is : is_used_name b'.kernel name ≡ is_used_name b.kernel name
  pub deed_was : b.deed name ≡ InTable p
  pub deed_is : b'.deed name ≡ b.deed name
  pub held_is : get_named n.deeds name ≡ Some (b'.body name)
  pub begins_is : (holds comes : Bool) → begin n.stage holds comes ≡ begin (stage_of w p) holds comes
  pub hand_is : filter (is_parcel_with name) hand' ≡ filter (is_parcel_with name) hand
  pub steps_are : (used : Bool) (h : ℕ) → plays used b'.call name (left h 1) ≡ plays used b.call name (left h 1)
  pub ranges_are : (used : Bool) (h : ℕ)
      → flat_map (range_steps_of used b'.call name) (left h 1) ≡ flat_map (range_steps_of used b.call name) (left h 1)

module _ (script : Script) (p : ℕ) (w w' : World) (n : Node) (takes sends : List (ℕ × Frame)) (entries : List Entry)
    (c : Changes script p w w' n takes sends entries) where
  -- it is seen with that body
  pub name-seen-rebodied : (hand hand' : List Held) (b b' : Beside) (name : Name)
      → ((h : ℕ) → held_at w name h ≡ held_as (b.deed name) (b.body name) h)
      → RebodiesName w w' hand hand' b b' p n c.left name → AreNotAbout name takes → AreNotAbout name sends
      → SameName (rebodied (name_sight script w hand b name) (body_in b'.kernel name) (b'.body name))
      (name_sight script w' hand' b' name)
  name-seen-rebodied hand hand' b b' name tables l none_taken none_sent =
      let d : DirectoryLeaves (directory_of w) (directory_of w') name = l.directory
      in record {
        place = sym d.place_is;
        maker = sym d.maker_is;
        stays = λ x. sym (d.stays_is x);
        used = sym l.used_is;
        part = refl;
        body = refl;
        deed = sym l.deed_is;
        held = λ h. held-now h;
        brought = λ to sender. sym (made-same script p w w' n takes sends entries c
            (λ t s fs. filter (brings name) fs) (λ t s. filter-is-list-map (brings name))
            (all-weaker (λ s. no-deed name s.1) takes none_taken)
            (all-weaker (λ s. no-deed name s.1) sends none_sent) to sender);
        kept = λ pid. sym (d.kept_is pid);
        hand = sym l.hand_is;
        begins = λ h. sym (begins-same h);
        steps = λ h. sym (steps-same h);
        ranges = λ h. sym (ranges-same h);
        placed = λ q. sym (made-same script p w w' n takes sends entries c
            (λ t s fs. placed_in name fs) (λ t s. flat_map-is-list-map _)
            (all-weaker (λ s. no-places name s.1) takes none_taken)
            (all-weaker (λ s. no-places name s.1) sends none_sent) 1 q);
        news = λ q. sym (news-same q);
      }
    where
      was-held : (h : ℕ) → held_at w name h ≡ held_as (InTable p) (b.body name) h
      was-held h = tables h ∙ ap (λ (d : DeedPlace). held_as d (b.body name) h) l.deed_was

      held-now : (h : ℕ) → held_as (b.deed name) (b'.body name) h ≡ held_at w' name h
      held-now h =
          ap (λ (d : DeedPlace). held_as d (b'.body name) h) l.deed_was
          ∙ elim (cases_eq h p) [
            | inl e ↦
                subst (λ y. held_as (InTable p) (b'.body name) y ≡ held_at w' name y) (sym e)
                (held-here p (b'.body name)
                ∙ sym (ap (λ (m : Node). get_named m.deeds name) c.here ∙ l.held_is))
            | inr d ↦
                held-elsewhere p h (b'.body name) d
                ∙ sym (ap (λ (m : Node). get_named m.deeds name) (c.others h d) ∙ was-held h
                ∙ held-elsewhere p h (b.body name) d)
          ]

      comes-same : (h : ℕ) → comes_to script w' name h ≡ comes_to script w name h
      comes-same h =
          ap (λ fs. not (nat_eq (forker script h) 1) && has_any fs)
          (made-same script p w w' n takes sends entries c
          (λ t s fs. filter (is_checkpoint_of name) fs) (λ t s. filter-is-list-map (is_checkpoint_of name))
          (all-weaker (λ s. no-checkpoint name s.1) takes none_taken)
          (all-weaker (λ s. no-checkpoint name s.1) sends none_sent) h (forker script h))

      begins-same : (h : ℕ)
          → begin (stage_of w' h) (is_some (held_at w' name h)) (comes_to script w' name h)
          ≡ begin (stage_of w h) (is_some (held_at w name h)) (comes_to script w name h)
      begins-same h =
          ap (begin (stage_of w' h) (is_some (held_at w' name h))) (comes-same h)
          ∙ read-same script p w w' n takes sends entries c
          (λ (m : Node). begin m.stage (is_some (get_named m.deeds name)) (comes_to script w name h))
          (ap (λ o. begin n.stage (is_some o) (comes_to script w name h)) l.held_is
          ∙ l.begins_is true (comes_to script w name h)
          ∙ sym (ap (λ o. begin (stage_of w p) (is_some o) (comes_to script w name h))
          (was-held p ∙ held-here p (b.body name)))) h

      steps-same : (h : ℕ)
          → plays (is_used_name b'.kernel name) b'.call name (frames_to w' h 1)
          ≡ plays (is_used_name b.kernel name) b.call name (frames_to w h 1)
      steps-same h =
          ap (λ u. plays u b'.call name (frames_to w' h 1)) l.used_is
          ∙ only-stayed script p w w' n takes sends entries c
          (λ t s fs. plays (is_used_name b.kernel name) b'.call name fs) (λ t s. flat_map-is-list-map _)
          (all-weaker (λ s. no-steps (is_used_name b.kernel name) b'.call name s.1) sends none_sent) h 1
          ∙ l.steps_are (is_used_name b.kernel name) h
          ∙ stayed script p w w' n takes sends entries c
          (λ t s fs. plays (is_used_name b.kernel name) b.call name fs) (λ t s. flat_map-is-list-map _)
          (all-weaker (λ s. no-steps (is_used_name b.kernel name) b.call name s.1) takes none_taken) h 1

      ranges-same : (h : ℕ)
          → flat_map (range_steps_of (is_used_name b'.kernel name) b'.call name) (frames_to w' h 1)
          ≡ flat_map (range_steps_of (is_used_name b.kernel name) b.call name) (frames_to w h 1)
      ranges-same h =
          ap (λ u. flat_map (range_steps_of u b'.call name) (frames_to w' h 1)) l.used_is
          ∙ only-stayed script p w w' n takes sends entries c
          (λ t s fs. flat_map (range_steps_of (is_used_name b.kernel name) b'.call name) fs)
          (λ t s. flat_map-is-list-map _)
          (all-weaker (λ s. no-ranges (is_used_name b.kernel name) b'.call name s.1) sends none_sent) h 1
          ∙ l.ranges_are (is_used_name b.kernel name) h
          ∙ stayed script p w w' n takes sends entries c
          (λ t s fs. flat_map (range_steps_of (is_used_name b.kernel name) b.call name) fs)
          (λ t s. flat_map-is-list-map _)
          (all-weaker (λ s. no-ranges (is_used_name b.kernel name) b.call name s.1) takes none_taken) h 1

      news-same : (q : ℕ)
          → news name (is_used_name b'.kernel name && is_maker (maker (directory_of w') name) q) (frames_to w' 1 q)
          ≡ news name (is_used_name b.kernel name && is_maker (maker (directory_of w) name) q) (frames_to w 1 q)
      news-same q =
          let d : DirectoryLeaves (directory_of w) (directory_of w') name = l.directory
          in ap (λ u. news name (u && is_maker (maker (directory_of w') name) q) (frames_to w' 1 q)) l.used_is
          ∙ ap (λ m. news name (is_used_name b.kernel name && is_maker m q) (frames_to w' 1 q)) d.maker_is
          ∙ made-same script p w w' n takes sends entries c
          (λ t s fs. news name (is_used_name b.kernel name && is_maker (maker (directory_of w) name) s) fs)
          (λ t s. flat_map-is-list-map _)
          (all-weaker (λ s. no-news name _ s.1) takes none_taken)
          (all-weaker (λ s. no-news name _ s.1) sends none_sent) 1 q
