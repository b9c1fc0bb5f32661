-- After a fork each process's family holds: the new process is its parent's child, on its way to its node, and the
-- others are whose children they were.
use Rattle.std.proofs.Common.{◌≡◌, ◌≢◌, ◌⊎◌, ℕ, List, [], ◌∷◌, Some, is_some, refl, ap, sym, subst, ◌∙◌, inl, inr}
use Rattle.std.proofs.lemmas.Bool.{cases_eq}
use Rattle.pico_base.specs.declared.script.Script.{Script}
use Rattle.rpc_frame.specs.declared.deed.PackedDeed.{PackedDeed}
use Rattle.rpc_frame.specs.declared.frame.Frame.{Frame}
use Rattle.rpc_frame.specs.declared.frame.Frame.TheVariants as frames
use Rattle.number_maps.specs.Maps.{get}
use Rattle.kernel_model.specs.Fitting.{Places}
use Rattle.kernel_model.specs.Kernel.{Kernel, Process, living_at}
use Rattle.kernel_model.specs.Kernel as kernel
use Rattle.kernel_model.specs.Row.{Alive, Row}
use Rattle.kernel_model.specs.Script.{Vars}
use Rattle.kernel_laws.proofs.People.{from-living}
use Rattle.entry_laws.specs.Entering.{IsChildIn, IsKin, Same, TurnsTo}
use Rattle.entry_laws.proofs.Kin.{kin-fork, kin-new}
use Rattle.entry_laws.proofs.Listed.{ListsOne, listed-fork, listed-new, listed-same}
use Rattle.node_model.specs.Bodies.{process_body}
use Rattle.world_model.specs.Node.{Stage, Unborn}
use Rattle.world_laws.specs.Places.{DeedPlace, InCheckpoint, InExitTo, InGiveBack, InGrant, InHand, InKept, InLeft, InTable, Unmade}
use Rattle.world_laws.specs.Names.{forker}
use Rattle.world_laws.specs.Families.{CheckpointIn, FamilyHolds, IsAwaited, IsCheckpointFor, IsNewAt, IsWhereFor, IsWithParent, ListsChild}
use Rattle.rule_laws.proofs.own.Others.{GoesOn, Leads, both-live, checkpoint-still, fresh-still, leads-by, turned-on, where-still, with-parent-still}
use Rattle.rule_laws.proofs.makes.ForkKin.{ForkLeaves, apart-child, now-other, now-parent, now-parent-of-child, now-there, there-same, with_pid}

same-in-some : {A : Type 0} (a c : A) → Some a ≡ Some c → a ≡ c
same-in-some a c h = cc

-- a Checkpoint is still of the same processes
checkpoint-with : (script : Script) (pids now : ℕ → ℕ) (places : Places) (c : ℕ) (checkpoints : List Frame)
    (place : DeedPlace) → now c ≡ pids c → now (forker script c) ≡ pids (forker script c)
    → CheckpointIn script pids places c checkpoints place → CheckpointIn script now places c checkpoints place
checkpoint-with script pids now places c checkpoints (InCheckpoint to) own parent h =
    let is : IsCheckpointFor script pids places c h.0 = h.2
    in (
      h.0,
      h.1,
      record {
        packed = is.packed;
        vars = is.vars;
        is = is.is
            ∙ ap (λ q. frames.Checkpoint q (pids (forker script c)) is.packed is.vars) (sym own)
            ∙ ap (λ q. frames.Checkpoint (now c) q is.packed is.vars) (sym parent);
        place = ap (get places) own ∙ is.place;
      },
    )
checkpoint-with script pids now places c checkpoints Unmade own parent h = h
checkpoint-with script pids now places c checkpoints (InTable node) own parent h = h
checkpoint-with script pids now places c checkpoints (InGrant to) own parent h = h
checkpoint-with script pids now places c checkpoints (InGiveBack sender) own parent h = h
checkpoint-with script pids now places c checkpoints (InLeft of) own parent h = h
checkpoint-with script pids now places c checkpoints (InKept of) own parent h = h
checkpoint-with script pids now places c checkpoints (InHand of) own parent h = h
checkpoint-with script pids now places c checkpoints (InExitTo of to) own parent h = h

module _ (script : Script) (k : Kernel) (places : Places) (pids : ℕ → ℕ) (p block child : ℕ) (row : Row) (vars : Vars)
    (next : Kernel) (after : Places) (l : ForkLeaves script k places pids p block child row vars next after)
    (deed deed' : ℕ → DeedPlace) (at_home : deed (pids p) ≡ InTable p) (new_deed : deed' child ≡ InCheckpoint block)
    (deeds : (q : ℕ) → q ≢ child → deed' q ≡ deed q) where
  abbrev now : ℕ → ℕ
  now = with_pid pids block child

  -- ---- the new process

  new-is : get next.processes child ≡ Some (kernel.Living l.child_lives.alive)
  new-is = from-living next.processes child l.child_lives.alive l.child_lives.lives

  new-child : IsChildIn next (pids p) child (kernel.Living l.child_lives.alive)
  new-child =
      let kin : IsKin next (pids p) child =
      kin-new k next (pids p) child row l.fork (ap is_some new-is)
      in subst (λ (v : Process). IsChildIn next (pids p) child v)
      (same-in-some kin.process (kernel.Living l.child_lives.alive) (sym kin.is ∙ new-is)) kin.child

  -- the family of the new process holds, as it is on its way to its node
  pub family-new : (packed : PackedDeed)
      → FamilyHolds script now after next deed' (frames.Checkpoint child (pids p) packed vars ∷ []) Unborn block
  family-new packed =
      record {
        process = kernel.Living l.child_lives.alive;
        is = ap (get next.processes) own ∙ new-is;
        child = λ later. subst (λ q. IsChildIn next q (now block) (kernel.Living l.child_lives.alive))
            (sym now-parent-is)
            (subst (λ q. IsChildIn next (pids p) q (kernel.Living l.child_lives.alive)) (sym own) new-child);
        where_it_is = subst (λ d. IsWhereFor block d (kernel.Living l.child_lives.alive)) (sym deed-is) refl;
        with_parent = tt;
        checkpoint = subst (λ d. CheckpointIn script now after block
            (frames.Checkpoint child (pids p) packed vars ∷ []) d) (sym deed-is) (
              frames.Checkpoint child (pids p) packed vars,
              refl,
              record {
                packed = packed;
                vars = vars;
                is = ap (λ q. frames.Checkpoint q (pids p) packed vars) (sym own)
                    ∙ ap (λ q. frames.Checkpoint (now block) q packed vars) (sym now-parent-is);
                place = ap (get after) own ∙ l.begins;
              },
            );
        fresh = subst (λ d. IsNewAt (kernel.Living l.child_lives.alive) d) (sym deed-is) l.child_new;
        awaited = subst (λ d. IsAwaited Unborn d) (sym deed-is) refl;
        children = λ a other lives listed. absurd
            (listed-new next child other row l.fork.child_is
            (record { alive = a; lives = ap (living_at next) (sym own) ∙ lives; listed = listed }));
      }
    where
      own : now block ≡ child
      own = now-there script k places pids p block child row vars next after l

      now-parent-is : now (forker script block) ≡ pids p
      now-parent-is = now-parent-of-child script k places pids p block child row vars next after l

      deed-is : deed' (now block) ≡ InCheckpoint block
      deed-is = ap deed' own ∙ new_deed

  -- ---- the others

  module _ (checkpoints : List Frame) (stage : Stage) (c : ℕ) (forked : pids c ≢ 0)
      (h : FamilyHolds script pids places k deed checkpoints stage c) where
    own-is : now c ≡ pids c
    own-is = now-other script k places pids p block child row vars next after l c forked

    parent-is : now (forker script c) ≡ pids (forker script c)
    parent-is = now-parent script k places pids p block child row vars next after l c forked

    not-new : (q : ℕ) → pids q ≢ child
    not-new q = apart-child script k places pids p block child row vars next after l q

    deed-is : deed' (pids c) ≡ deed (pids c)
    deed-is = deeds (pids c) (not-new c)

    leads : Leads next (pids c)
    leads =
        leads-by next (pids c) (get next.processes (pids c)) refl
        (there-same script k places pids p block child row vars next after l (pids c) (not-new c) ∙ ap is_some h.is)

    goes-on : GoesOn h.process leads.process
    goes-on =
        elim (cases_eq (pids c) (pids p)) [
          | inr d ↦
              turned-on h.process leads.process
              (subst (λ o. TurnsTo (Some h.process) o) leads.is
              (subst (λ o. TurnsTo o (get next.processes (pids c))) h.is (l.others.others (pids c) d)))
          | inl e ↦
              both-live h.process leads.process l.lived.alive l.lives.alive
              (sym h.is ∙ ap (get k.processes) e ∙ from-living k.processes (pids p) l.lived.alive l.lived.lives)
              (sym leads.is ∙ ap (get next.processes) e
              ∙ from-living next.processes (pids p) l.lives.alive l.lives.lives)
        ]

    child-now : c ≢ 1 → IsChildIn next (pids (forker script c)) (pids c) leads.process
    child-now later =
        let kin : IsKin next (pids (forker script c)) (pids c) =
        kin-fork k next (pids p) child row (pids (forker script c)) (pids c) l.fork (not-new (forker script c))
        (not-new c) (ap is_some leads.is)
        (record { process = h.process; is = h.is; child = h.child later })
        in subst (λ (v : Process). IsChildIn next (pids (forker script c)) (pids c) v)
        (same-in-some kin.process leads.process (sym kin.is ∙ leads.is)) kin.child

    -- one that is on its way isn't the caller
    awaited-other : (to : ℕ) → deed (pids c) ≡ InCheckpoint to → pids c ≢ pids p
    awaited-other to is same = differ (sym at_home ∙ ap deed (sym same) ∙ is)
      where
        differ : InTable p ≡ InCheckpoint to → ⊥
        differ e = cc

    children-now : (a : Alive) (other : ℕ) → living_at next (pids c) ≡ Some a → ListsChild a other
        → (d : ℕ) × (forker script d ≡ c) × (now d ≡ other) × (other ≢ 0)
    children-now a other lives listed = by-process (cases_eq (pids c) (pids p))
      where
        one : ListsOne next (pids c) other
        one = record { alive = a; lives = lives; listed = listed }

        old : ListsOne k (pids c) other → (d : ℕ) × (forker script d ≡ c) × (now d ≡ other) × (other ≢ 0)
        old was =
            let it = h.children was.alive other was.lives was.listed
            in (
              it.0,
              it.1,
              now-other script k places pids p block child row vars next after l it.0 (λ none. it.3 (sym it.2 ∙ none))
                  ∙ it.2,
              it.3,
            )

        by-process : (pids c ≡ pids p) ⊎ (pids c ≢ pids p)
            → (d : ℕ) × (forker script d ≡ c) × (now d ≡ other) × (other ≢ 0)
        by-process (inr d) = old (listed-same k next (pids c) other (Same (l.fork.others (pids c) d (not-new c))) one)
        by-process (inl e) =
            elim (listed-fork k next (pids p) child other row l.fork.own l.fork.parent
            (subst (λ q. ListsOne next q other) e one)) [
              | inl was ↦ old (subst (λ q. ListsOne k q other) (sym e) was)
              | inr new ↦ (
                block,
                l.from_here.forker_is ∙ sym (l.apart c p forked e),
                now-there script k places pids p block child row vars next after l ∙ sym new,
                λ none. l.some_child (sym new ∙ none),
              )
            ]

    -- the family of another holds
    pub family-still : FamilyHolds script now after next deed' checkpoints stage c
    family-still =
        record {
          process = leads.process;
          is = ap (get next.processes) own-is ∙ leads.is;
          child = λ later. subst (λ q. IsChildIn next q (now c) leads.process) (sym parent-is)
              (subst (λ q. IsChildIn next (pids (forker script c)) q leads.process) (sym own-is) (child-now later));
          where_it_is = subst (λ d. IsWhereFor c d leads.process) (sym deed-now)
              (where-still c (deed (pids c)) h.process leads.process goes-on h.where_it_is);
          with_parent = subst (λ q. IsWithParent deed' q (now c) leads.process) (sym parent-is)
              (subst (λ q. IsWithParent deed' (pids (forker script c)) q leads.process) (sym own-is)
              (with-parent-still deed' (pids (forker script c)) (pids c) h.process leads.process goes-on
              (old-parent h.process h.with_parent)));
          checkpoint = subst (λ d. CheckpointIn script now after c checkpoints d) (sym deed-now)
              (checkpoint-with script pids now after c checkpoints (deed (pids c)) own-is parent-is
              (checkpoint-still script pids places after c checkpoints (deed (pids c))
              (λ to is. l.places_stay (pids c) (awaited-other to is) (not-new c)) h.checkpoint));
          fresh = subst (λ d. IsNewAt leads.process d) (sym deed-now)
              (fresh-still (deed (pids c)) h.process leads.process goes-on
              (λ to is. ap process_body (sym leads.is)
              ∙ l.fork.others (pids c) (awaited-other to is) (not-new c) ∙ ap process_body h.is) h.fresh);
          awaited = subst (λ d. IsAwaited stage d) (sym deed-now) h.awaited;
          children = λ a other lives listed. children-now a other (ap (living_at next) (sym own-is) ∙ lives) listed;
        }
      where
        deed-now : deed' (now c) ≡ deed (pids c)
        deed-now = ap deed' own-is ∙ deed-is

        old-parent : (v : Process) → IsWithParent deed (pids (forker script c)) (pids c) v
            → IsWithParent deed' (pids (forker script c)) (pids c) v
        old-parent (kernel.Ended ending) same =
            deed-is ∙ same ∙ sym (deeds (pids (forker script c)) (not-new (forker script c)))
        old-parent (kernel.Living alive) same = tt
        old-parent kernel.Gone same = tt
