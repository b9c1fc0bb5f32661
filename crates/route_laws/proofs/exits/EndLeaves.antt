-- What the end of a process leaves of the parts of the invariant that look at the kernel and at the places of its
-- history: the numbers of processes, parents and children, families, and calls.
use Rattle.std.proofs.Common.{◌≡◌, ◌≢◌, ◌⊎◌, ℕ, Bool, true, false, List, [], Option, Some, None, is_some, refl, ap, sym, subst, ◌∙◌, inl, inr}
use Rattle.std.specs.List.{list_any}
use Rattle.std.specs.Option.{option_and_then}
use Rattle.std.proofs.lemmas.Bool.{cases_eq, false≢true}
use Rattle.pico_base.specs.declared.call.Call.{Call}
use Rattle.pico_base.specs.declared.numbers.Kind.{Kind}
use Rattle.pico_base.specs.declared.numbers.Kind.TheVariants as kinds
use Rattle.pico_base.specs.declared.numbers.Name.TheVariants.{Proc}
use Rattle.pico_base.specs.declared.reply.Ending.{Ending}
use Rattle.pico_base.specs.declared.script.Script.{Script}
use Rattle.rpc_frame.specs.declared.frame.Frame.{Frame}
use Rattle.number_maps.specs.Maps.{get, is_used}
use Rattle.kernel_laws.proofs.Living.{family-ended_child}
use Rattle.kernel_laws.proofs.People.{from-living}
use Rattle.kernel_model.specs.Row.{Alive, Row, lists}
use Rattle.kernel_model.specs.Kernel.{Kernel, Process, alive_in, living_at}
use Rattle.kernel_model.specs.Kernel as kernel
use Rattle.kernel_model.specs.Fitting.{Place, Places}
use Rattle.kernel_model.specs.Footprint.{used_of}
use Rattle.kernel_model.specs.Valid.{IsValid}
use Rattle.entry_laws.specs.Entering.{IsChildIn, IsKin, LeavesOthers, Same, TurnsTo}
use Rattle.entry_laws.proofs.Bodies.{body-dead, living-body}
use Rattle.entry_laws.proofs.Ends.{EndBodies}
use Rattle.entry_laws.proofs.Kin.{kin-end, kin-ended}
use Rattle.entry_laws.proofs.Listed.{ListsOne, listed-end, listed-same}
use Rattle.entry_laws.proofs.Numbers.{process-there}
use Rattle.entry_laws.proofs.Others.{others-lived, others-stay-dead, others-still-may}
use Rattle.node_model.specs.Bodies.{Body, Living as LivingBody, Ended, Gone, AQueue, ASet, Removed, body_in, process_body, is_living_body}
use Rattle.serve_laws.specs.Ends.{is_among}
use Rattle.serve_laws.proofs.Committed.{free_alive}
use Rattle.serve_laws.proofs.KernelEnds.{left_by, kept_by-dead}
use Rattle.world_model.specs.Lives.{names_block}
use Rattle.world_model.specs.Node.{Stage}
use Rattle.world_laws.specs.Places.{DeedPlace, InCheckpoint, Ends}
use Rattle.world_laws.specs.Names.{forker}
use Rattle.world_laws.specs.Callers.{CallSight, CallHolds, HasCall, HasCallOrNone, HasEnded, IsSoFar}
use Rattle.world_laws.specs.Families.{PidsHold, FamilyHolds, IsWhereFor, IsWithParent, RestsBelow, IsNewAt, ListsChild}
use Rattle.rule_laws.proofs.own.Entries.{StillLives}
use Rattle.rule_laws.proofs.own.Others.{GoesOn, turned-on, where-still, with-parent-still, fresh-still, checkpoint-still, Leads, leads-by}
use Rattle.route_laws.proofs.exits.DeedMoves.{ComesAsBefore, checkpoint-moved, fresh-moved, awaited-moved, parent-moved}

-- ---- the end

-- What it leaves: the kernel is valid, and all others may do what they might; the process, with this row, its parent,
-- with this body, and its ended children have the bodies that they have after an end; no process is made; and in the
-- history its process alone has moved on, and has nothing more to do.
pub record EndLeaves (k : Kernel) (places : Places) (pid parent : ℕ) (row : Row) (body : Body) (ending : Ending)
    (next : Kernel) (after : Places) : Type 0 where
  pub valid : IsValid k
  pub others : LeavesOthers k pid next
  pub own : body_in k (Proc pid) ≡ LivingBody row
  pub its : body_in k (Proc parent) ≡ body
  pub listed : (r : Row) → body ≡ LivingBody r → lists r.family pid ≡ true
  pub bodies : EndBodies k next pid parent row body ending
  pub used : (kind : Kind) → used_of next kind ≡ used_of k kind
  pub was : Place
  pub place_was : get places pid ≡ Some was
  pub now : Place
  pub place_is : get after pid ≡ Some now
  pub over : now.left ≡ []
  pub places_stay : (q : ℕ) → q ≢ pid → get after q ≡ get places q

none-is-some : {A : Type 0} (a : A) → None ≡ Some a → ⊥
none-is-some a h = cc

same-in-some : {A : Type 0} (a c : A) → Some a ≡ Some c → a ≡ c
same-in-some a c h = cc

not-living-gone : (r : Row) → Gone ≡ LivingBody r → ⊥
not-living-gone r h = cc

-- a process that ends is over
abbrev pub is_over : Process → Bool
is_over (kernel.Living alive) = false
is_over (kernel.Ended ending) = true
is_over kernel.Gone = true

dead-is-over : (v : Process) → is_living_body (process_body (Some v)) ≡ false → is_over v ≡ true
dead-is-over (kernel.Living alive) h = absurd (false≢true (sym h))
dead-is-over (kernel.Ended ending) h = refl
dead-is-over kernel.Gone h = refl

module _ (k next : Kernel) (places after : Places) (pid parent : ℕ) (row : Row) (body : Body) (ending : Ending)
    (l : EndLeaves k places pid parent row body ending next after) where
  -- as many processes are there
  pub end-there-same : (q : ℕ) → is_some (get next.processes q) ≡ is_some (get k.processes q)
  end-there-same q =
      process-there next q l.others.valid ∙ ap (λ u. is_used u q) (l.used kinds.Proc)
      ∙ sym (process-there k q l.valid)

  -- the process doesn't live any more
  pub end-dead : living_at next pid ≡ None
  end-dead =
      body-dead next pid
      (λ r is. false≢true (sym (kept_by-dead body ending) ∙ ap is_living_body (sym l.bodies.own ∙ is)))

  -- the others go on as before
  pub end-others : (q : ℕ) → q ≢ pid → StillLives (living_at k q) (living_at next q)
  end-others q other =
      record {
        lives = λ a lives.
            let m = others-still-may k pid next q a l.others other lives
            in record { alive = m.alive; lives = m.lives; may = m.may };
        dead = λ dead. by-process (get k.processes q) refl dead;
      }
    where
      nobody : (o : Option Process) → is_some o ≡ false → o ≡ None
      nobody None h = refl
      nobody (Some process) h = absurd (false≢true (sym h))

      by-process : (o : Option Process) → get k.processes q ≡ o → living_at k q ≡ None → living_at next q ≡ None
      by-process (Some process) is dead = others-stay-dead k pid next q l.others other (ap is_some is) dead
      by-process None is dead =
          ap (option_and_then alive_in) (nobody (get next.processes q) (end-there-same q ∙ ap is_some is))

  -- ---- the numbers of processes

  own-or-other : (q : ℕ) (place : Place) → get after q ≡ Some place
      → (get places q ≡ Some place) ⊎ ((q ≡ pid) × (place ≡ l.now))
  own-or-other q place there =
      elim (cases_eq q pid) [
        | inl e ↦ inr (e, same-in-some place l.now (sym there ∙ ap (get after) e ∙ l.place_is))
        | inr d ↦ inl (sym (l.places_stay q d) ∙ there)
      ]

  -- what holds of them holds afterwards
  pub pids-after-end : (script : Script) (pids : ℕ → ℕ) → PidsHold script pids places k
      → PidsHold script pids after next
  pids-after-end script pids h =
      record {
        first = h.first;
        apart = h.apart;
        nodes = h.nodes;
        forked = h.forked;
        placed = λ q place there. elim (own-or-other q place there) [
          | inl old ↦ h.placed q place old
          | inr own ↦ h.placed q l.was (ap (get places) own.0 ∙ l.place_was)
        ];
        there = λ q process is. old-process q (get k.processes q) refl (sym (end-there-same q) ∙ ap is_some is);
        has_place = λ c forked. has-place c forked (cases_eq (pids c) pid);
        ahead = λ p c place there forked named. elim (own-or-other (pids p) place there) [
          | inl old ↦ h.ahead p c place old forked named
          | inr own ↦
              absurd (false≢true
              (ap (λ lines. list_any (λ line. names_block c line.call) lines)
              (sym (ap (λ (x : Place). x.left) own.1 ∙ l.over)) ∙ named))
        ];
        alive = λ c a place lives there. alive-before c a place lives there (cases_eq (pids c) pid);
        dead = λ c place forked dead there. dead-before c place forked dead there (cases_eq (pids c) pid);
      }
    where
      old-process : (q : ℕ) (o : Option Process) → get k.processes q ≡ o → is_some (get k.processes q) ≡ true
          → (c : ℕ) × (pids c ≡ q) × (q ≢ 0)
      old-process q (Some process) is some = h.there q process is
      old-process q None is some = absurd (false≢true (sym (ap is_some is) ∙ some))

      has-place : (c : ℕ) → pids c ≢ 0 → (pids c ≡ pid) ⊎ (pids c ≢ pid)
          → (place : Place) × (get after (pids c) ≡ Some place)
      has-place c forked (inl e) = (l.now, ap (get after) e ∙ l.place_is)
      has-place c forked (inr d) =
          let old = h.has_place c forked
          in (old.0, l.places_stay (pids c) d ∙ old.1)

      alive-before : (c : ℕ) (a : Alive) (place : Place) → living_at next (pids c) ≡ Some a
          → get after (pids c) ≡ Some place → (pids c ≡ pid) ⊎ (pids c ≢ pid) → place.left ≢ []
      alive-before c a place lives there (inl e) =
          absurd (none-is-some a (sym (ap (living_at next) e ∙ end-dead) ∙ lives))
      alive-before c a place lives there (inr d) =
          let before = others-lived k pid next (pids c) a l.others d
          (sym (end-there-same (pids c)) ∙ ap is_some (from-living next.processes (pids c) a lives)) lives
          in h.alive c before.alive place before.lives (sym (l.places_stay (pids c) d) ∙ there)

      dead-before : (c : ℕ) (place : Place) → pids c ≢ 0 → living_at next (pids c) ≡ None
          → get after (pids c) ≡ Some place → (pids c ≡ pid) ⊎ (pids c ≢ pid) → place.left ≡ []
      dead-before c place forked dead there (inl e) =
          ap (λ (x : Place). x.left) (same-in-some place l.now (sym there ∙ ap (get after) e ∙ l.place_is)) ∙ l.over
      dead-before c place forked dead there (inr d) =
          h.dead c place forked (was-dead (living_at k (pids c)) refl) (sym (l.places_stay (pids c) d) ∙ there)
        where
          was-dead : (o : Option Alive) → living_at k (pids c) ≡ o → living_at k (pids c) ≡ None
          was-dead None is = is
          was-dead (Some a) is =
              let m = others-still-may k pid next (pids c) a l.others d is
              in absurd (none-is-some m.alive (sym dead ∙ m.lives))

  -- ---- parents and children

  after-there : (q : ℕ) → is_some (get k.processes q) ≡ true → is_some (get next.processes q) ≡ true
  after-there q h = end-there-same q ∙ h

  -- who was a child of another is so, as it is now
  pub end-kin : (p q : ℕ) → q ≢ pid → IsKin k p q → IsKin next p q
  end-kin p q other h =
      kin-end k next pid parent row body ending l.valid l.own l.its l.bodies p q other
      (after-there q (ap is_some h.is)) h

  -- and so is the process, of its parent
  pub end-own-kin : is_some (get k.processes pid) ≡ true → IsKin next parent pid
  end-own-kin there = kin-ended k next pid parent row body ending l.bodies (after-there pid there)

  parent-listed : (child : ℕ) (y : Body) → body ≡ y → body_in next (Proc parent) ≡ left_by y pid ending
      → ListsOne next parent child → ListsOne k parent child
  parent-listed child (LivingBody r) is left lists_it =
      listed-end k next parent pid child r _ ending (l.its ∙ is) (l.listed r is) left
      (family-ended_child (free_alive r) pid ending) lists_it
  parent-listed child (Ended e) is left lists_it =
      listed-same k next parent child (Same (left ∙ sym (l.its ∙ is))) lists_it
  parent-listed child Gone is left lists_it =
      listed-same k next parent child (Same (left ∙ sym (l.its ∙ is))) lists_it
  parent-listed child (AQueue q) is left lists_it =
      listed-same k next parent child (Same (left ∙ sym (l.its ∙ is))) lists_it
  parent-listed child (ASet t) is left lists_it =
      listed-same k next parent child (Same (left ∙ sym (l.its ∙ is))) lists_it
  parent-listed child Removed is left lists_it =
      listed-same k next parent child (Same (left ∙ sym (l.its ∙ is))) lists_it

  other-listed : (q child : ℕ) → q ≢ pid → q ≢ parent → (t : Bool) → is_among row.family.ended q ≡ t
      → ListsOne next q child → ListsOne k q child
  other-listed q child other away true among lists_it =
      absurd (not-living-gone lists_it.alive.row
      (sym (l.bodies.children q other away among) ∙ living-body next q lists_it.alive lists_it.lives))
  other-listed q child other away false among lists_it =
      listed-same k next q child (Same (l.bodies.others q other away among)) lists_it

  -- whom a process lists, it listed before
  pub end-listed : (q child : ℕ) → ListsOne next q child → ListsOne k q child
  end-listed q child lists_it =
      elim (cases_eq q pid) [
        | inl e ↦
            absurd (none-is-some lists_it.alive (sym (ap (living_at next) e ∙ end-dead) ∙ lists_it.lives))
        | inr other ↦
            elim (cases_eq q parent) [
              | inl is ↦
                  subst (λ p. ListsOne k p child) (sym is)
                  (parent-listed child body refl l.bodies.its
                  (subst (λ p. ListsOne next p child) is lists_it))
              | inr away ↦ other-listed q child other away (is_among row.family.ended q) refl lists_it
            ]
      ]

  -- ---- families

  -- Where deeds are afterwards: that of the process rests below, with its parent's, if it is kept; the others are where
  -- they may be, together as before.
  pub record RestsAfter (script : Script) (pids : ℕ → ℕ) (c : ℕ) (deed deed' : ℕ → DeedPlace) : Type 0 where
    pub process_is : pids c ≡ pid
    pub parent_is : c ≢ 1 → pids (forker script c) ≡ parent
    pub rests : RestsBelow c (deed' pid)
    pub with_parent : (e : Ending) → get next.processes pid ≡ Some (kernel.Ended e)
        → deed' pid ≡ deed' (pids (forker script c))
    pub where_others : (g : ℕ) (v : Process) → g ≢ c → IsWhereFor g (deed (pids g)) v
        → IsWhereFor g (deed' (pids g)) v
    pub together : (p q : ℕ) → deed p ≡ deed q → deed' p ≡ deed' q
    pub comes : (q : ℕ) → ComesAsBefore (deed q) (deed' q)
    pub awaited : (q to : ℕ) → deed q ≡ InCheckpoint to
        → (body_in next (Proc q) ≡ body_in k (Proc q)) × (q ≢ pid)

  module _ (script : Script) (pids : ℕ → ℕ) (c : ℕ) (deed deed' : ℕ → DeedPlace)
      (r : RestsAfter script pids c deed deed') (fs : List Frame) (stage : Stage) where
    now-of : (g : ℕ) → FamilyHolds script pids places k deed fs stage g → Leads next (pids g)
    now-of g h =
        leads-by next (pids g) (get next.processes (pids g)) refl (end-there-same (pids g) ∙ ap is_some h.is)

    children-after : (g : ℕ) → FamilyHolds script pids places k deed fs stage g → (a : Alive) (child : ℕ)
        → living_at next (pids g) ≡ Some a → ListsChild a child
        → (d : ℕ) × (forker script d ≡ g) × (pids d ≡ child) × (child ≢ 0)
    children-after g h a child lives lists_it =
        let before = end-listed (pids g) child (record { alive = a; lives = lives; listed = lists_it })
        in h.children before.alive child before.lives before.listed

    child-is : (p q : ℕ) (v : Process) → get next.processes q ≡ Some v → IsKin next p q → IsChildIn next p q v
    child-is p q v is kin =
        subst (λ (x : Process). IsChildIn next p q x) (same-in-some kin.process v (sym kin.is ∙ is)) kin.child

    other-family : (g : ℕ) → g ≢ c → pids g ≢ pid → FamilyHolds script pids places k deed fs stage g
        → FamilyHolds script pids after next deed' fs stage g
    other-family g not_c other h =
        record {
          process = now.process;
          is = now.is;
          child = λ up. child-is (pids (forker script g)) (pids g) now.process now.is
              (end-kin (pids (forker script g)) (pids g) other
              (record { process = h.process; is = h.is; child = h.child up }));
          where_it_is = where-still g (deed' (pids g)) h.process now.process on
              (r.where_others g h.process not_c h.where_it_is);
          with_parent = with-parent-still deed' (pids (forker script g)) (pids g) h.process now.process on
              (parent-moved deed deed' r.together (pids (forker script g)) (pids g) h.process h.with_parent);
          checkpoint = checkpoint-still script pids places after g fs (deed' (pids g))
              (λ to e. l.places_stay (pids g) other)
              (checkpoint-moved script pids places g fs (deed (pids g)) (deed' (pids g)) (r.comes (pids g))
              h.checkpoint);
          fresh = fresh-moved now.process (deed (pids g)) (deed' (pids g)) (r.comes (pids g))
              (fresh-still (deed (pids g)) h.process now.process on
              (λ to e. ap process_body (sym now.is) ∙ (r.awaited (pids g) to e).0 ∙ ap process_body h.is)
              h.fresh);
          awaited = awaited-moved stage (deed (pids g)) (deed' (pids g)) (r.comes (pids g)) h.awaited;
          children = children-after g h;
        }
      where
        now : Leads next (pids g)
        now = now-of g h

        on : GoesOn h.process now.process
        on =
            turned-on h.process now.process
            (subst (λ (o : Option Process). TurnsTo (Some h.process) o) now.is
            (subst (λ (o : Option Process). TurnsTo o (get next.processes (pids g))) h.is
            (l.others.others (pids g) other)))

    where-over : (d : DeedPlace) (v : Process) → is_over v ≡ true → RestsBelow c d → IsWhereFor c d v
    where-over d (kernel.Living alive) h rests = absurd (false≢true h)
    where-over d (kernel.Ended ending) h rests = rests
    where-over d kernel.Gone h rests = rests

    own-family : FamilyHolds script pids places k deed fs stage c
        → FamilyHolds script pids after next deed' fs stage c
    own-family h =
        record {
          process = now.process;
          is = now.is;
          child = λ up. child-is (pids (forker script c)) (pids c) now.process now.is
              (subst (λ p. IsKin next p (pids c)) (sym (r.parent_is up))
              (subst (λ q. IsKin next parent q) (sym r.process_is)
              (end-own-kin (ap (λ q. is_some (get k.processes q)) (sym r.process_is) ∙ ap is_some h.is))));
          where_it_is = where-over (deed' (pids c)) now.process over
              (subst (λ q. RestsBelow c (deed' q)) (sym r.process_is) r.rests);
          with_parent = with-its-parent now.process refl;
          checkpoint = checkpoint-still script pids places after c fs (deed' (pids c))
              (λ to e. absurd (not-awaited to e))
              (checkpoint-moved script pids places c fs (deed (pids c)) (deed' (pids c)) (r.comes (pids c))
              h.checkpoint);
          fresh = fresh-over now.process over (deed' (pids c));
          awaited = awaited-moved stage (deed (pids c)) (deed' (pids c)) (r.comes (pids c)) h.awaited;
          children = children-after c h;
        }
      where
        now : Leads next (pids c)
        now = now-of c h

        over : is_over now.process ≡ true
        over =
            dead-is-over now.process
            (ap (λ o. is_living_body (process_body o)) (sym now.is)
            ∙ ap (λ q. is_living_body (body_in next (Proc q))) r.process_is
            ∙ ap is_living_body l.bodies.own ∙ kept_by-dead body ending)

        not-awaited : (to : ℕ) → deed' (pids c) ≡ InCheckpoint to → ⊥
        not-awaited to e = (r.awaited (pids c) to (r.comes (pids c) to e)).1 r.process_is

        with-its-parent : (v : Process) → now.process ≡ v
            → IsWithParent deed' (pids (forker script c)) (pids c) v
        with-its-parent (kernel.Living alive) e = tt
        with-its-parent kernel.Gone e = tt
        with-its-parent (kernel.Ended ended) e =
            ap deed' r.process_is
            ∙ r.with_parent ended (ap (get next.processes) (sym r.process_is) ∙ now.is ∙ ap Some e)

        fresh-over : (v : Process) → is_over v ≡ true → (d : DeedPlace) → IsNewAt v d
        fresh-over (kernel.Living alive) h d = absurd (false≢true h)
        fresh-over (kernel.Ended ended) h d = tt
        fresh-over kernel.Gone h d = tt

    -- Each family holds afterwards.
    pub family-after-end : (g : ℕ) → pids g ≢ 0 → ((a b : ℕ) → pids a ≢ 0 → pids a ≡ pids b → a ≡ b)
        → FamilyHolds script pids places k deed fs stage g → FamilyHolds script pids after next deed' fs stage g
    family-after-end g forked apart h =
        elim (cases_eq g c) [
          | inl e ↦
              subst (λ d. FamilyHolds script pids after next deed' fs stage d) (sym e)
              (own-family (subst (λ d. FamilyHolds script pids places k deed fs stage d) e h))
          | inr d ↦
              other-family g d (λ same. d (apart g c forked (same ∙ sym r.process_is))) h
        ]

  -- ---- the call that ends it

  module _ (script : Script) (p : ℕ) (born : ℕ → Bool) (x : CallSight) (at : x.call ≡ Ends)
      (h : CallHolds script p born x) where
    abbrev y : CallSight
    y = record x { place = get after pid; alive = living_at next pid }

    ended : HasEnded y
    ended = record { last = l.now; there = l.place_is; over = l.over; dead = end-dead }

    -- it has ended its process
    pub ended-call : (call : Call) → x.caller.under_way ≡ Some call → HasCall script p born x call
        → CallHolds script p born y
    ended-call call is has =
        record {
          call = subst (λ o. HasCallOrNone script p born y o) (sym is)
              (record {
                just_there = record {
                  in_streams = has.just_there.in_streams;
                  held_for_names = has.just_there.held_for_names;
                  in_hand = has.just_there.in_hand;
                  waiting = has.just_there.waiting;
                };
                home = has.home;
                used_up = has.used_up;
                between = has.between;
                so_far = subst (λ c. IsSoFar script p y call c) (sym at) (inr ended);
                at_work = has.at_work;
                started = has.started;
                tickets = has.tickets;
                try_left = has.try_left;
              });
          ends = h.ends;
        }
