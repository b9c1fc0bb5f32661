-- After an entry of a process: its family and those of the others, and the calls of the others.
use Rattle.std.proofs.Common.{◌≡◌, ◌≢◌, ℕ, Bool, true, List, Option, Some, None, is_some, refl, ap, sym, subst, ◌∙◌, inl, inr}
use Rattle.std.proofs.lemmas.Bool.{cases_eq, false≢true}
use Rattle.pico_base.specs.declared.call.Call.{Call}
use Rattle.pico_base.specs.declared.numbers.Name.TheVariants.{Proc}
use Rattle.pico_base.specs.declared.reply.Ending.{Ending}
use Rattle.pico_base.specs.declared.script.Script.{Script}
use Rattle.rpc_frame.specs.declared.frame.Frame.{Frame}
use Rattle.number_maps.specs.Maps.{get}
use Rattle.kernel_model.specs.Row.{Alive}
use Rattle.kernel_model.specs.Kernel.{Kernel, Process, living_at}
use Rattle.kernel_model.specs.Kernel as kernel
use Rattle.kernel_model.specs.Fitting.{Places}
use Rattle.kernel_laws.proofs.People.{from-living}
use Rattle.entry_laws.specs.Entering.{IsChildIn, IsKin, TurnsTo}
use Rattle.node_model.specs.Bodies.{Living as LivingBody, body_in, process_body}
use Rattle.world_model.specs.Lives.{is_new_row}
use Rattle.world_model.specs.Node.{Stage, Unborn, Living, Leaving, Left, Over}
use Rattle.world_laws.specs.Places.{CallPlace, DeedPlace, InCheckpoint, InAnswer, Ends}
use Rattle.world_laws.specs.Names.{forker}
use Rattle.world_laws.specs.Callers.{CallSight, CallHolds, FreeIn, HasCallOrNone, HasEnded, IsNowhere, IsSoFar, IsToBeMade}
use Rattle.world_laws.specs.Families.{FamilyHolds, IsWhereFor, IsWithParent, IsCheckpointFor, CheckpointIn, IsNewAt}
use Rattle.rule_laws.proofs.own.Entries.{EntryLeaves, MayStill, StillLives, there-same}

some-same : {A : Type 0} (a c : A) → Some a ≡ Some c → a ≡ c
some-same a c h = cc

-- ---- what a process is afterwards

-- it lives on, it has ended and stays so, or it is gone
abbrev pub GoesOn : Process → Process → Type 0
GoesOn (kernel.Living a) (kernel.Living b) = Unit {0}
GoesOn (kernel.Ended e) (kernel.Ended f) = Unit {0}
GoesOn (kernel.Ended e) kernel.Gone = Unit {0}
GoesOn kernel.Gone kernel.Gone = Unit {0}
GoesOn before after = ⊥

lives-as-living : (after : Process) (b : Alive) → Some after ≡ Some (kernel.Living b) → (a : Alive)
    → GoesOn (kernel.Living a) after
lives-as-living (kernel.Living c) b is a = tt
lives-as-living (kernel.Ended e) b is a = absurd (cc)
lives-as-living kernel.Gone b is a = absurd (cc)

ended-as-over : (after : Process) (e f : Ending) → Some after ≡ Some (kernel.Ended f) → GoesOn (kernel.Ended e) after
ended-as-over (kernel.Living c) e f is = absurd (cc)
ended-as-over (kernel.Ended g) e f is = tt
ended-as-over kernel.Gone e f is = tt

ended-as-gone : (after : Process) (e : Ending) → Some after ≡ Some kernel.Gone → GoesOn (kernel.Ended e) after
ended-as-gone (kernel.Living c) e is = absurd (cc)
ended-as-gone (kernel.Ended g) e is = tt
ended-as-gone kernel.Gone e is = tt

gone-as-gone : (after : Process) → Some after ≡ Some kernel.Gone → GoesOn kernel.Gone after
gone-as-gone (kernel.Living c) is = absurd (cc)
gone-as-gone (kernel.Ended g) is = absurd (cc)
gone-as-gone kernel.Gone is = tt

-- so is each process that didn't make the entry
pub turned-on : (before after : Process) → TurnsTo (Some before) (Some after) → GoesOn before after
turned-on (kernel.Living a) after t = lives-as-living after t.0 t.1 a
turned-on (kernel.Ended e) after (inl is) = ended-as-over after e e is
turned-on (kernel.Ended e) after (inr is) = ended-as-gone after e is
turned-on kernel.Gone after is = gone-as-gone after is

-- who lives before and afterwards goes on
pub both-live : (before after : Process) (a b : Alive) → Some before ≡ Some (kernel.Living a)
    → Some after ≡ Some (kernel.Living b) → GoesOn before after
both-live (kernel.Living c) after a b is then = lives-as-living after b then c
both-live (kernel.Ended e) after a b is then = absurd (cc)
both-live kernel.Gone after a b is then = absurd (cc)

-- ---- where its deed is

-- the deed is where it may be
pub where-still : (c : ℕ) (place : DeedPlace) (before after : Process) → GoesOn before after → IsWhereFor c place before
    → IsWhereFor c place after
where-still c place (kernel.Living a) (kernel.Living b) t h = h
where-still c place (kernel.Living a) (kernel.Ended f) t h = absurd t
where-still c place (kernel.Living a) kernel.Gone t h = absurd t
where-still c place (kernel.Ended e) (kernel.Living b) t h = absurd t
where-still c place (kernel.Ended e) (kernel.Ended f) t h = h
where-still c place (kernel.Ended e) kernel.Gone t h = h
where-still c place kernel.Gone (kernel.Living b) t h = absurd t
where-still c place kernel.Gone (kernel.Ended f) t h = absurd t
where-still c place kernel.Gone kernel.Gone t h = h

-- an ended process's is still where its parent's is
pub with-parent-still : (deed : ℕ → DeedPlace) (parent pid : ℕ) (before after : Process) → GoesOn before after
    → IsWithParent deed parent pid before → IsWithParent deed parent pid after
with-parent-still deed parent pid before (kernel.Living b) t h = tt
with-parent-still deed parent pid before kernel.Gone t h = tt
with-parent-still deed parent pid (kernel.Ended e) (kernel.Ended f) t h = h
with-parent-still deed parent pid (kernel.Living a) (kernel.Ended f) t h = absurd t
with-parent-still deed parent pid kernel.Gone (kernel.Ended f) t h = absurd t

rows-same : (a b : Alive) → LivingBody b.row ≡ LivingBody a.row → a.row ≡ b.row
rows-same a b h = cc

-- who is new is so still, with the same row
pub fresh-still : (place : DeedPlace) (before after : Process) → GoesOn before after
    → ((to : ℕ) → place ≡ InCheckpoint to → process_body (Some after) ≡ process_body (Some before))
    → IsNewAt before place → IsNewAt after place
fresh-still (InCheckpoint to) (kernel.Living a) (kernel.Living b) t same h =
    ap is_new_row (sym (rows-same a b (same to refl))) ∙ h
fresh-still (InCheckpoint to) (kernel.Ended e) (kernel.Living b) t same h = absurd t
fresh-still (InCheckpoint to) kernel.Gone (kernel.Living b) t same h = absurd t
fresh-still place before (kernel.Living b) t same h = tt
fresh-still place before (kernel.Ended f) t same h = tt
fresh-still place before kernel.Gone t same h = tt

-- a Checkpoint on its way brings the process that it brought
pub checkpoint-still : (script : Script) (pids : ℕ → ℕ) (places after : Places) (c : ℕ) (checkpoints : List Frame)
    (place : DeedPlace)
    → ((to : ℕ) → place ≡ InCheckpoint to → get after (pids c) ≡ get places (pids c))
    → CheckpointIn script pids places c checkpoints place → CheckpointIn script pids after c checkpoints place
checkpoint-still script pids places after c checkpoints (InCheckpoint to) same h =
    let is : IsCheckpointFor script pids places c h.0 = h.2
    in (h.0, h.1, record { packed = is.packed; vars = is.vars; is = is.is; place = same to refl ∙ is.place })
checkpoint-still script pids places after c checkpoints place same h = tt

-- the number leads to a process
pub record Leads (k : Kernel) (q : ℕ) : Type 0 where
  pub process : Process
  pub is : get k.processes q ≡ Some process

-- where it is used
pub leads-by : (k : Kernel) (q : ℕ) (o : Option Process) → get k.processes q ≡ o → is_some o ≡ true → Leads k q
leads-by k q (Some process) is h = record { process = process; is = is }
leads-by k q None is h = absurd (false≢true h)

module _ (script : Script) (pids : ℕ → ℕ) (k next : Kernel) (places after : Places) (pid : ℕ)
    (l : EntryLeaves k places pid next after) where
  goes-on : (q : ℕ) (before now : Process) → get k.processes q ≡ Some before → get next.processes q ≡ Some now
      → GoesOn before now
  goes-on q before now was is =
      elim (cases_eq q pid) [
        | inr d ↦
            turned-on before now
            (subst (λ (o : Option Process). TurnsTo (Some before) o) is
            (subst (λ (o : Option Process). TurnsTo o (get next.processes q)) was (l.others.others q d)))
        | inl e ↦
            both-live before now l.lived.alive l.lives.alive
            (sym was ∙ ap (get k.processes) e ∙ from-living k.processes pid l.lived.alive l.lived.lives)
            (sym is ∙ ap (get next.processes) e ∙ from-living next.processes pid l.lives.alive l.lives.lives)
      ]

  -- A family holds afterwards. Of a process whose Checkpoint is on its way the entry leaves the row, and it isn't the
  -- one that makes the entry.
  pub family-after : (deed : ℕ → DeedPlace) (checkpoints : List Frame) (stage : Stage) (c : ℕ)
      → ((to : ℕ) → deed (pids c) ≡ InCheckpoint to
      → (body_in next (Proc (pids c)) ≡ body_in k (Proc (pids c))) × (pids c ≢ pid))
      → FamilyHolds script pids places k deed checkpoints stage c
      → FamilyHolds script pids after next deed checkpoints stage c
  family-after deed checkpoints stage c awaited h =
      record {
        process = now.process;
        is = now.is;
        child = λ other. child-now other;
        where_it_is = where-still c (deed (pids c)) h.process now.process on h.where_it_is;
        with_parent = with-parent-still deed (pids (forker script c)) (pids c) h.process now.process on h.with_parent;
        checkpoint = checkpoint-still script pids places after c checkpoints (deed (pids c))
            (λ to e. l.places_stay (pids c) ((awaited to e).1)) h.checkpoint;
        fresh = fresh-still (deed (pids c)) h.process now.process on
            (λ to e. ap process_body (sym now.is) ∙ (awaited to e).0 ∙ ap process_body h.is) h.fresh;
        awaited = h.awaited;
        children = λ a child lives lists.
            let before = l.listed (pids c) child (record { alive = a; lives = lives; listed = lists })
            in h.children before.alive child before.lives before.listed;
      }
    where
      now : Leads next (pids c)
      now =
          leads-by next (pids c) (get next.processes (pids c)) refl
          (there-same k next places after pid l (pids c) ∙ ap is_some h.is)

      on : GoesOn h.process now.process
      on = goes-on (pids c) h.process now.process h.is now.is

      child-now : c ≢ 1 → IsChildIn next (pids (forker script c)) (pids c) now.process
      child-now other =
          let kin : IsKin next (pids (forker script c)) (pids c) =
          l.kin (pids (forker script c)) (pids c)
          (record {
            process = h.process;
            is = h.is;
            child = h.child other;
          })
          in subst (λ (x : Process). IsChildIn next (pids (forker script c)) (pids c) x)
          (some-same kin.process now.process (sym kin.is ∙ now.is))
          kin.child

-- ---- calls of others

module _ (script : Script) (p : ℕ) (born : ℕ → Bool) (x : CallSight) (alive : Option Alive)
    (s : StillLives x.alive alive) where
  abbrev y : CallSight
  y = record x { alive = alive }

  to-be-made : (call : Call) → IsToBeMade script p x call → IsToBeMade script p y call
  to-be-made call h =
      let m : MayStill alive h.alive = s.lives h.alive h.lives
      in record { there = h.there; due = h.due; alive = m.alive; lives = m.lives; may = m.may call h.may }

  has-ended : HasEnded x → HasEnded y
  has-ended h = record { last = h.last; there = h.there; over = h.over; dead = s.dead h.dead }

  so-far : (call : Call) (place : CallPlace) → IsSoFar script p x call place → IsSoFar script p y call place
  so-far call (InAnswer h reply) made =
      let m : MayStill alive made.alive = s.lives made.alive made.lives
      in record { there = made.there; due = made.due; alive = m.alive; lives = m.lives }
  so-far call Ends (inl h) = inl (to-be-made call h)
  so-far call Ends (inr h) = inr (has-ended h)
  so-far call place h = to-be-made call h

  free : (stage : Stage) → FreeIn script p x stage → FreeIn script p y stage
  free Unborn h = h
  free Living h =
      let m : MayStill alive h.alive = s.lives h.alive h.lives
      in record { there = h.there; alive = m.alive; lives = m.lives; tickets = h.tickets; try_left = h.try_left }
  free Leaving h = h
  free Left h = h
  free Over h = has-ended h

  call-or-none : (o : Option Call) → HasCallOrNone script p born x o → HasCallOrNone script p born y o
  call-or-none None h =
      let nowhere : IsNowhere x = h.nowhere
      in record {
        nowhere = record {
          in_streams = nowhere.in_streams;
          held_for_names = nowhere.held_for_names;
          in_hand = nowhere.in_hand;
          waiting = nowhere.waiting;
        };
        idle = h.idle;
        free = free x.stage h.free;
      }
  call-or-none (Some call) h =
      record {
        just_there = record {
          in_streams = h.just_there.in_streams;
          held_for_names = h.just_there.held_for_names;
          in_hand = h.just_there.in_hand;
          waiting = h.just_there.waiting;
        };
        home = h.home;
        used_up = h.used_up;
        between = h.between;
        so_far = so-far call x.call h.so_far;
        at_work = h.at_work;
        started = h.started;
        tickets = h.tickets;
        try_left = h.try_left;
      }

  -- a call whose process may do what it might holds as before
  pub call-goes-on : CallHolds script p born x → CallHolds script p born y
  call-goes-on h = record { call = call-or-none x.caller.under_way h.call; ends = h.ends }
