-- A node makes a queue or set without a key, whatever the number's source: it holds it, and places it or tells its
-- place.
use Rattle.std.proofs.Common.{◌≡◌, ◌≢◌, ℕ, ◌≤◌, Bool, true, false, ◌&&◌, not, if◌then◌else◌, List, [], ◌∷◌, filter, nat_eq, Some, None, is_some, refl, ap, sym, subst, ◌∙◌, inl, inr, arith}
use Rattle.std.specs.List.{AllByRecursion}
use Rattle.std.proofs.lemmas.Bool.{cases_eq, eq-eqb, false≢true}
use Rattle.pico_base.specs.declared.call.Call.{Call}
use Rattle.pico_base.specs.declared.numbers.Kind.{Kind}
use Rattle.pico_base.specs.declared.numbers.Name.{Name}
use Rattle.pico_base.specs.declared.numbers.Name.TheVariants.{Proc, Msg, Sem}
use Rattle.pico_base.specs.declared.reply.Reply.{Reply}
use Rattle.pico_base.specs.declared.reply.Reply.TheVariants as replies
use Rattle.pico_base.specs.declared.script.Event.{Event}
use Rattle.pico_base.specs.declared.script.Script.{Script}
use Rattle.rpc_frame.specs.declared.frame.Frame.{Frame}
use Rattle.rpc_frame.specs.declared.frame.Frame.TheVariants as frames
use Rattle.kernel_model.specs.Fitting.{Place}
use Rattle.kernel_model.specs.Kernel.{Kernel}
use Rattle.entry_laws.specs.Entering.{Enters, is_used_name}
use Rattle.entry_laws.proofs.Fresh.{MakesObject}
use Rattle.entry_laws.proofs.History.{moved-is, place-moves}
use Rattle.entry_laws.proofs.Numbers.{used-made, used-others}
use Rattle.node_model.specs.Bodies.{Body, Deeds, Living as LivingBody, body_in, waiters_of}
use Rattle.node_model.specs.Caller.{answer_call, caller_place}
use Rattle.node_model.specs.Directory.{Directory, is_parcel_with, maker, place_of, stays}
use Rattle.node_model.specs.Kinds.{get_named, is_object, put_named, with_kind}
use Rattle.node_model.specs.Entries.{entry_by}
use Rattle.world_model.specs.Census.{brings}
use Rattle.world_model.specs.Node.{Node, Stage, Living, Left}
use Rattle.world_model.specs.Numbers.{make_with, tell_place}
use Rattle.world_model.specs.Step.{Step, step_to}
use Rattle.world_model.specs.World.{World, node_count}
use Rattle.world_laws.specs.Places.{Beside, CallPlace, DeedPlace, InTable, Unmade, body_put, deed_in}
use Rattle.world_laws.specs.Sights.{directory_of, frames_to, is_born_in, is_born_stage, node_of, stage_of}
use Rattle.world_laws.specs.Plays.{Has, begin, has_any, is_checkpoint_of, placed_in, play, plays}
use Rattle.world_laws.specs.Names.{IsBringer, NameHolds, NameSight, OneIf, PlaysTo, SaysOf, comes_to, forker, held_as, held_at, is_kept_for, is_hand_place, is_stream_of, may_be_at, name_sight}
use Rattle.world_laws.specs.Callers.{CallHolds, call_sight, is_waiter_of}
use Rattle.world_laws.specs.Cancels.{CancelHolds, Nothing, cancel_sight}
use Rattle.world_laws.specs.Families.{HoldsIn, NodeHolds}
use Rattle.world_laws.specs.Invariant.{Holds}
use Rattle.world_laws.specs.Ranges.{lease_in}
use Rattle.world_laws.specs.Ways.{IsHere, knows_parent, way_sight}
use Rattle.world_laws.proofs.Changes.{Changes, filter-is-list-map, flat_map-is-list-map, made-same, only-stayed, read-same, MakesNothing}
use Rattle.world_laws.proofs.Named.{get-put-other-name, get-put-same-name, name-cases, other-name, same-name}
use Rattle.world_laws.proofs.NameFacts.{held-elsewhere, held-here}
use Rattle.world_laws.proofs.Sends.{AreToNodes}
use Rattle.world_laws.proofs.Stays.{IsMore, name-stays}
use Rattle.world_laws.proofs.Steps.{KeepsAs}
use Rattle.rule_laws.proofs.Nodes.{object-is-no-process}
use Rattle.rule_laws.proofs.own.Entries.{EntryLeaves, others-go-on}
use Rattle.rule_laws.proofs.own.InWhole.{EntersAlone, has-whole-then, other-withdrawal}
use Rattle.rule_laws.proofs.own.Rebodied.{IsBodyOf, nobody-at-unused, nobody-waits, nobody-waits-in}
use Rattle.rule_laws.proofs.own.EntryMoves.{IsEntryMove, entry-born, entry-keeps}
use Rattle.rule_laws.proofs.own.Objects.{MakesOne, here-way, process-apart, processes-stay-leaves}
use Rattle.rule_laws.proofs.makes.CallsOver.{carried-here}
use Rattle.rule_laws.proofs.makes.Counts.{few-now, kinds-now}
use Rattle.rule_laws.proofs.makes.Directories.{IsAfter, after-is, directory-now, moves-none, place_if, placed_if, tell-is, tells_if}
use Rattle.rule_laws.proofs.makes.Entered.{entered_by, made-enters}
use Rattle.rule_laws.proofs.makes.FirstUsed.{still-has}
use Rattle.rule_laws.proofs.makes.Lacking.{nothing-played}
use Rattle.rule_laws.proofs.makes.NewOnes.{IsNew, brought-nowhere, held-nowhere, name-new}
use Rattle.rule_laws.proofs.makes.Ready.{calls-now, left-steps, makers-by, name-is-ready, nothing-by, other-seen, others-same, ready-name}
use Rattle.rule_laws.proofs.makes.Sources.{Gives, Origin, Source, directory_by, ready_node, takes_by}
use Rattle.rule_laws.proofs.makes.Taken.{call-after, cancel-after, free-after, history-after, keys-after, name-maker, name-unknown, name-unused, some-node, taken-no-birth, taken-no-cancel, taken-of-no-other, taken-plain}
use Rattle.rule_laws.proofs.makes.Told.{belief-now, bound-now, found-now, items-now, leased-now, maker-stays, played-elsewhere, ranged-now, told-now, unplaced-now}

module _ (script : Script) (w : World) (b : Beside) (holds : Holds script w [] b) (p : ℕ) (call : Call) (kind : Kind)
    (number : ℕ) (numbers : List ℕ) (o : Origin) (e : Event) (s : Source script w b p call kind number numbers o e)
    (name : Name) (body : Body) (g : MakesOne script b.kernel (b.pids p) call kind number name body) where
  abbrev n : Node
  n = node_of w p

  abbrev k : Kernel
  k = b.kernel

  abbrev pid : ℕ
  pid = b.pids p

  abbrev reply : Reply
  reply = replies.Num number

  abbrev place : Place
  place = caller_place script p s.caller

  node-holds : NodeHolds script b.pids (is_born_in w) p n
  node-holds = holds.nodes p s.low s.high

  abbrev made : MakesObject k pid call name body
  made = g.makes.object

  pub enters : Enters k pid call reply (Some name) made.next
  enters = subst (λ m. Enters k pid call (replies.Num m) (Some name) made.next) g.number_is made.enters

  -- ---- the step

  abbrev deeds-now : Deeds
  deeds-now = put_named n.deeds name body

  abbrev step-with : ℕ → ℕ → Step
  step-with q process =
      record {
        node =
            record n {
              caller = answer_call script q s.caller call reply;
              deeds = deeds-now;
              leases = with_kind n.leases kind numbers;
              leader =
                  record n.leader {
                    directory = placed_if (nat_eq p 1) (directory_by n.leader.directory kind o) name q;
                  };
            };
        entries = entry_by q process call reply ∷ [];
        sends = tells_if (nat_eq p 1) name q;
        strikes = false;
      }

  abbrev after : Step
  after = step-with p pid

  abbrev ready : Node
  ready = ready_node n s.caller kind numbers o

  abbrev held : Step
  held = record { node = record ready { deeds = deeds-now }; entries = []; sends = []; strikes = false }

  abbrev replied : Step
  replied =
      record {
        node = record ready { deeds = deeds-now; caller = answer_call script n.number s.caller call reply };
        entries = entry_by n.number n.pid call reply ∷ [];
        sends = [];
        strikes = false;
      }

  rule : make_with script (step_to ready) call number ≡ Some after
  rule =
      g.with_number (step_to ready)
      ∙ ap (λ st. Some (tell_place st name n.number)) (carried-here script held call reply s.under_way)
      ∙ ap Some (tell-is replied name n.number (nat_eq p 1) (ap (λ q. nat_eq q 1) node-holds.number))
      ∙ ap (λ q. Some (step-with q n.pid)) node-holds.number
      ∙ ap (λ process. Some (step-with p process)) s.birth.pid_is

  to-nodes : AreToNodes (node_count script) after.sends
  to-nodes = by-test (nat_eq p 1)
    where
      by-test : (t : Bool) → AreToNodes (node_count script) (tells_if t name p)
      by-test true = tt
      by-test false =
          (record { low = omega arith; high = some-node script w b holds p call kind number numbers o e s }, tt)

  -- which is the event's
  pub given : Gives script w p e (takes_by kind o) after
  given = s.gives after to-nodes refl rule

  abbrev next : World
  next = given.next

  abbrev changes : Changes script p w next after.node (takes_by kind o) after.sends after.entries
  changes = given.changes

  abbrev deed-now : Name → DeedPlace
  deed-now = deed_in b.deed name (InTable p)

  abbrev body-now : Name → Body
  body-now = body_put b.body name body

  -- what stands beside the world then
  abbrev pub moved : Beside
  moved =
      entered_by script w b holds p call kind number numbers o e s reply made.next enters.makes next after.node
      after.sends
      changes (record b { deed = deed-now; body = body-now })

  abbrev calls : ℕ → CallPlace
  calls = calls-now script w b holds p call kind number numbers o e s next after.node after.sends after.entries changes

  -- ---- the directory

  unknown : place_of (directory_of w) name ≡ None
  unknown = name-unknown script w b holds p call kind number numbers o e s name g.kind_is g.number_is

  unused : is_used_name k name ≡ false
  unused = name-unused script w b holds p call kind number numbers o e s name g.kind_is g.number_is

  directory-is : directory_of next ≡ placed_if (nat_eq p 1) (directory_by (directory_of w) kind o) name p
  directory-is =
      directory-now script w next p kind o after.node after.sends after.entries name p changes s.at_leader refl

  is-after : IsAfter (directory_of w) (directory_by (directory_of w) kind o) (directory_of next) name
      (place_if (nat_eq p 1) p)
  is-after =
      subst (λ (d : Directory). IsAfter (directory_of w) (directory_by (directory_of w) kind o) d name
      (place_if (nat_eq p 1) p)) (sym directory-is)
      (after-is (directory_of w) kind o name p (nat_eq p 1) unknown holds.leading)

  -- ---- the bodies

  known-before : (m : Name) → NameHolds script b.pids (is_born_in w) m (name_sight script w [] b m)
  known-before m = holds.names m

  -- it is the kernel's, and nobody waits there
  body-is : body-now name ≡ body
  body-is = ap (λ t. if t then body else b.body name) (same-name name name refl)

  body-elsewhere : (m : Name) → name ≢ m → body-now m ≡ b.body m
  body-elsewhere m d = ap (λ t. if t then body else b.body m) (other-name name m d)

  new-body : IsBodyOf script (body_in made.next name) body
  new-body =
      subst (λ v. IsBodyOf script (body_in made.next name) v) made.there (nobody-waits-in script made.next name)

  nobody-new : waiters_of body ≡ []
  nobody-new = ap waiters_of (sym made.there) ∙ nobody-waits made.next name

  nobody-before : waiters_of (b.body name) ≡ []
  nobody-before =
      nobody-at-unused k name (b.body name) s.may.valid unused (known-before name).parts

  now-body : (m : Name) → IsBodyOf script (body_in made.next m) (body-now m)
  now-body m =
      elim (name-cases name m) [
        | inl i ↦
            subst (λ z. IsBodyOf script (body_in made.next z) (body-now z)) i
            (subst (λ v. IsBodyOf script (body_in made.next name) v) (sym body-is) new-body)
        | inr d ↦
            subst (λ v. IsBodyOf script (body_in made.next m) v) (sym (body-elsewhere m d))
            (record {
              parts = (known-before m).parts ∙ sym (made.rest m (λ same. d (sym same)));
              callers = (known-before m).callers;
            })
      ]

  waiters-same : (m : Name) → waiters_of (body-now m) ≡ waiters_of (b.body m)
  waiters-same m =
      elim (name-cases name m) [
        | inl i ↦
            subst (λ z. waiters_of (body-now z) ≡ waiters_of (b.body z)) i
            (ap waiters_of body-is ∙ nobody-new ∙ sym nobody-before)
        | inr d ↦ ap waiters_of (body-elsewhere m d)
      ]

  -- ---- the frames

  -- a fact of the frame that tells the place
  of-tells : (P : ℕ × Frame → Type 0) → (p ≢ 1 → P (1, frames.Placed name p)) → AllByRecursion P after.sends
  of-tells P h = by-test (nat_eq p 1) refl
    where
      by-test : (t : Bool) → nat_eq p 1 ≡ t → AllByRecursion P (tells_if t name p)
      by-test true i = tt
      by-test false i = (h (λ first. false≢true (sym i ∙ eq-eqb p 1 first)), tt)

  -- ---- the rest

  no-process : (q : ℕ) → Proc q ≢ name
  no-process q = process-apart name q g.object

  bodies-stay : (q : ℕ) → body_in made.next (Proc q) ≡ body_in k (Proc q)
  bodies-stay q = made.rest (Proc q) (no-process q)

  row-now : get_named deeds-now (Proc n.pid) ≡ Some (LivingBody s.row)
  row-now = get-put-other-name n.deeds name body (Proc n.pid) (no-process n.pid) ∙ s.has_row

  node-now : NodeHolds script b.pids (is_born_in w) p after.node
  node-now =
      record {
        number = node-holds.number;
        holds = subst (λ (stage : Stage). HoldsIn p after.node stage) (sym s.stage)
            (record { row = s.row; here = row-now });
        birth = node-holds.birth;
        first = node-holds.first;
        others = node-holds.others;
        rows = λ q row there.
            node-holds.rows q row (sym (get-put-other-name n.deeds name body (Proc q) (no-process q)) ∙ there);
        owners = node-holds.owners;
      }

  entry-leaves : EntryLeaves k b.places pid made.next moved.places
  entry-leaves =
      processes-stay-leaves k pid call reply made.next s.may enters.makes made.caller
      (λ q. used-others k pid call reply name made.next enters (Proc q) (no-process q)) bodies-stay g.no_fork
      g.no_exit g.not_killed script b.places p p s.caller s.there s.is_due

  free : after.node.caller.under_way ≡ None
  free =
      free-after script w b holds p call kind number numbers o e s next after.node after.sends reply made.next changes
      refl

  apart : (y : ℕ) → y ≢ p → b.pids y ≢ pid
  apart y d i = d (sym (holds.pids.apart p y s.birth.forked (sym i)))

  -- it stands beside the world, also with the kernel in which callers wait
  enters-whole : EntersAlone w next b moved p p call (Some reply)
  enters-whole =
      made-enters script w b holds p call kind number numbers o e s reply made.next enters.makes next after.node
      after.sends changes (record b { deed = deed-now; body = body-now }) free
      (λ m. (now-body m).parts) waiters-same refl
      (λ y d. inl (refl, apart y d))
      (λ y d same dead. (others-go-on k made.next b.places moved.places pid entry-leaves (b.pids y) (apart y d)).dead
      dead)

  -- who has made the name stays
  is-maker : maker (directory_by (directory_of w) kind o) name ≡ Some p
  is-maker = name-maker script w b holds p call kind number numbers o e s name g.kind_is g.number_is

  maker-is-here : (node : ℕ) → maker (directory_of w) name ≡ Some node → node ≡ p
  maker-is-here node has =
      elim (makers-by script w b holds kind name o) [
        | inl same ↦ some-same node p (sym has ∙ same ∙ is-maker)
        | inr new ↦ absurd (none-is-some node (sym new.1 ∙ has))
      ]
    where
      some-same : (u v : ℕ) → Some u ≡ Some v → u ≡ v
      some-same u v h = cc

      none-is-some : (u : ℕ) → None ≡ Some u → ⊥
      none-is-some u h = cc

  makers-stay : (m : Name) (node : ℕ) → is_used_name k m ≡ false → is_used_name made.next m ≡ true
      → maker (directory_of w) m ≡ Some node → stays (directory_of w) node ≡ true
  makers-stay m node unused_then used_now has =
      elim (name-cases name m) [
        | inl i ↦
            subst (λ z. stays (directory_of w) z ≡ true)
            (sym (maker-is-here node (ap (maker (directory_of w)) i ∙ has)))
            (maker-stays script w b holds p call kind number numbers o e s next after.node [] after.entries name p
            changes
            is-after unused is-maker)
        | inr d ↦
            absurd
            (false≢true (sym unused_then
            ∙ sym (used-others k pid call reply name made.next enters m (λ same. d (sym same))) ∙ used_now))
      ]

  move : IsEntryMove script w next [] [] Nothing Nothing b moved p after.node (takes_by kind o) after.sends p
  move =
      record {
        entry = entry-leaves;
        history = history-after script w b holds p call kind number numbers o e s next after.node after.sends reply
            made.next changes enters.makes;
        keys = keys-after script w b holds p call kind number numbers o e s next after.node after.sends reply made.next
            changes g.makes.keys refl refl;
        forked = s.birth.forked;
        born = ap is_born_stage s.stage;
        awaited = λ q to i. bodies-stay q;
        stage = refl;
        under_way = λ left. absurd (left-not (sym s.stage ∙ left));
        own = λ d. absurd (d refl);
        directory = moves-none p (directory_of w) (directory_by (directory_of w) kind o) (directory_of next) name
            (place_if (nat_eq p 1) p) is-after;
        node = node-now;
        deeds = λ q. ap (λ t. if t then InTable p else b.deed (Proc q)) (object-is-no-process name q g.object);
        calls = others-same script w b holds p call kind number numbers o e s next after.node after.sends after.entries
            changes;
        hand_of_others = λ y d. refl;
        parcels_at_hand = λ parcel there. there;
        whole = λ h. has-whole-then w next b moved p p call (Some reply) h enters-whole;
        waiters_of_others = λ y d m. ap (filter (is_waiter_of y)) (waiters-same m);
        cancel_of_others = λ y d. refl;
        owed_of_others = λ y d same h. other-withdrawal w next b moved p p call
            (Some reply) holds.whole enters-whole y d
            refl (apart y d) (λ a lives. bodies-stay (b.pids y)) [] [] Nothing same h;
        makers_stay = makers-stay;
        plain_taken = taken-plain kind o;
        plain_sent = of-tells _ (λ other. refl);
        no_birth_taken = taken-no-birth kind o;
        no_birth_sent = of-tells _ (λ other. refl);
        of_no_other = λ y d. taken-of-no-other kind p o y d;
        sent_of_no_other = λ y d. of-tells _ (λ other. refl);
        no_cancel_taken = λ y d. taken-no-cancel kind o y;
        no_cancel_sent = λ y d. of-tells _ (λ other. refl);
        may_be_sent = of-tells _ (λ other. refl);
        to_others = of-tells _ (λ other first. other (sym first));
      }
    where
      left-not : Living ≡ Left → ⊥
      left-not h = cc

  more : IsMore (is_born_in w) (is_born_in next)
  more =
      entry-born script w next [] [] Nothing Nothing b moved p after.node (takes_by kind o) after.sends
      after.entries p s.low s.high holds changes move

  none-waits : (m : Name) → filter (is_waiter_of p) (waiters_of (body-now m)) ≡ []
  none-waits m = ap (filter (is_waiter_of p)) (waiters-same m) ∙ s.not_waiting m

  call-now : CallHolds script p (is_born_in next) (call_sight next [] moved p)
  call-now =
      call-after script w b holds p call kind number numbers o e s next after.node after.sends reply made.next changes
      (is_born_in next) moved made.caller.alive name (place_if (nat_eq p 1) p) is-after refl
      s.stage (place-moves script b.places p pid call reply place g.no_fork
      ∙ ap Some (moved-is place call (Some reply) g.not_killed)) made.caller.lives none-waits (of-tells _
      (λ other. refl))

  cancel-now : CancelHolds p Nothing (cancel_sight next [] moved p)
  cancel-now =
      cancel-after script w b holds p call kind number numbers o e s next after.node after.sends reply made.next changes
      moved name (place_if (nat_eq p 1) p) is-after refl refl refl (of-tells _ (λ other. refl))

  -- ---- other names

  other-name-now : (m : Name) → name ≢ m
      → NameHolds script b.pids (is_born_in next) m (name_sight script next [] moved m)
  other-name-now m d =
      name-stays script b.pids (is_born_in w) (is_born_in next) m _ _ more
      (other-seen script w b holds p call kind number numbers o e s next after.node after.sends after.entries changes
      moved name (place_if (nat_eq p 1) p) m (body_in k m) (b.body m) (held_at w m) is-after
      (λ same. d (sym same)) (used-others k pid call reply name made.next enters m (λ same. d (sym same)))
      (ap (λ t. if t then InTable p else b.deed m) (other-name name m d))
      (sym (made.rest m (λ same. d (sym same)))) (sym (body-elsewhere m d))
      (λ q. sym (read-same script p w next after.node (takes_by kind o) after.sends after.entries changes
      (λ (z : Node). get_named z.deeds m) (get-put-other-name n.deeds name body m (λ same. d (sym same))) q))
      (λ q. refl) refl (of-tells _ (λ other. other-name m name (λ same. d (sym same)))))
      (name-is-ready script w b holds p call kind number numbers o e s next after.node after.sends after.entries changes
      m)

  -- ---- its name

  abbrev x : NameSight
  x =
      ready-name script w b holds p call kind number numbers o e s next after.node after.sends after.entries changes
      name

  known : NameHolds script b.pids (is_born_in w) name x
  known =
      name-is-ready script w b holds p call kind number numbers o e s next after.node after.sends after.entries changes
      name

  abbrev y : NameSight
  y = name_sight script next [] moved name

  deed-is : deed-now name ≡ InTable p
  deed-is = ap (λ t. if t then InTable p else b.deed name) (same-name name name refl)

  held-none : (q : ℕ) → held_at w name q ≡ None
  held-none q = held-nowhere script b.pids (is_born_in w) name x known unused q

  held-now : (q : ℕ) → held_at next name q ≡ held_as (InTable p) (body-now name) q
  held-now q =
      elim (cases_eq q p) [
        | inl i ↦
            subst (λ z. held_at next name z ≡ held_as (InTable p) (body-now name) z) (sym i)
            (ap (λ (m : Node). get_named m.deeds name) changes.here ∙ get-put-same-name n.deeds name body
            ∙ ap Some (sym body-is) ∙ sym (held-here p (body-now name)))
        | inr d ↦
            ap (λ (m : Node). get_named m.deeds name) (changes.others q d) ∙ held-none q
            ∙ sym (held-elsewhere p q (body-now name) d)
      ]

  -- what nothing is made of in the frame that tells its place is as it was
  brings-none : (to sender : ℕ) → filter (brings name) (frames_to next to sender) ≡ []
  brings-none to sender =
      made-same script p w next after.node (takes_by kind o) after.sends after.entries changes
      (λ t q fs. filter (brings name) fs) (λ t q. filter-is-list-map (brings name))
      (nothing-by kind (λ q fs. filter (brings name) fs) (λ first. refl) o) (of-tells _ (λ other. refl)) to sender
      ∙ brought-nowhere script b.pids (is_born_in w) name x known unused to sender

  comes-same : (q : ℕ) → comes_to script next name q ≡ comes_to script w name q
  comes-same q =
      ap (λ fs. not (nat_eq (forker script q) 1) && has_any fs)
      (made-same script p w next after.node (takes_by kind o) after.sends after.entries changes
      (λ t z fs. filter (is_checkpoint_of name) fs) (λ t z. filter-is-list-map (is_checkpoint_of name))
      (nothing-by kind (λ z fs. filter (is_checkpoint_of name) fs) (λ first. refl) o) (of-tells _ (λ other. refl)) q
      (forker script q))

  begins-elsewhere : (q : ℕ) → q ≢ p → y.begins q ≡ x.begins q
  begins-elsewhere q d =
      ap (begin (stage_of next q) (is_some (held_at next name q))) (comes-same q)
      ∙ ap (λ (m : Node). begin m.stage (is_some (get_named m.deeds name)) (comes_to script w name q))
      (changes.others q d)

  used : is_used_name made.next name ≡ true
  used = used-made k pid call reply name made.next enters

  none-placed : MakesNothing (λ to fs. placed_in name fs) []
  none-placed = tt

  -- what is on its way to nodes, as the name is used now
  steps-now : (q : ℕ) → y.steps q ≡ plays true calls name (changes.left q 1)
  steps-now q =
      ap (λ u. plays u calls name (frames_to next q 1)) used
      ∙ only-stayed script p w next after.node (takes_by kind o) after.sends after.entries changes
      (λ t z fs. plays true calls name fs) (λ t z. flat_map-is-list-map _) (of-tells _ (λ other. refl)) q 1

  steps-left : (q : ℕ) → plays false calls name (changes.left q 1) ≡ plays false b.call name (frames_to w q 1)
  steps-left q =
      left-steps script w b holds p call kind number numbers o e s next after.node after.sends after.entries changes
      false name q

  -- it is as before to all but the maker
  steps-elsewhere : (q : ℕ) → q ≢ p → y.steps q ≡ x.steps q
  steps-elsewhere q d =
      steps-now q
      ∙ played-elsewhere script w b holds p call kind number numbers o e s next after.node [] after.entries name p
      changes
      is-after unused is-maker moved used none-placed q d
      ∙ steps-left q ∙ sym (ap (λ u. plays u b.call name (frames_to w q 1)) unused)

  there-now : 2 ≤ p → PlaysTo (y.begins p) (y.steps p) true
  there-now low =
      let other : p ≢ 1 = λ first. omega (arith, low, first)
      in let way : IsHere (way_sight w p) =
      here-way script b.pids p (knows_parent script w b.pids p) (way_sight w p) s.stage (holds.ways p low s.high)
      in record {
        last = Has;
        plays = ap (λ z. play z (y.steps p)) has
            ∙ ap (play Has) (steps-now p)
            ∙ still-has calls name (changes.left p 1)
            (steps-left p ∙ nothing-played script w b holds name unused p way low);
        agrees = refl;
      }
    where
      has : y.begins p ≡ Has
      has =
          ap (λ held_it. begin (stage_of next p) (is_some held_it) (comes_to script next name p))
          (held-now p ∙ held-here p (body-now name))
          ∙ ap (λ (m : Node). begin m.stage true (comes_to script next name p)) changes.here
          ∙ ap (λ stage. begin stage true (comes_to script next name p)) s.stage

  is-new : IsNew script b.pids name x y p
  is-new =
      record {
        is_body = now-body name;
        used = used;
        made = λ i. in-table-not p (sym deed-is ∙ i);
        place_fits = ap (may_be_at (is_object name)) deed-is;
        tables = λ q. held-now q ∙ ap (λ (d : DeedPlace). held_as d (body-now name) q) (sym deed-is);
        streams = λ to sender. subst (λ (d : DeedPlace). OneIf (is_stream_of (forker script) d to sender)
            (IsBringer b.pids name (body-now name) d) (y.brought to sender)) (sym deed-is)
            (brings-none to sender);
        not_kept = λ q. ap (λ (d : DeedPlace). is_kept_for (forker script) b.pids d q) deed-is;
        not_in_hand = ap is_hand_place deed-is;
        kept = λ q. ap (filter (is_parcel_with name)) (is-after.held (Proc q));
        hand = refl;
        belief = belief-now script w b holds p call kind number numbers o e s next after.node [] after.entries name p
            changes is-after unused is-maker moved used none-placed;
        leader = ap is_some (held-now 1) ∙ by-test (nat_eq p 1);
        there = there-now;
        begins = begins-elsewhere;
        steps = steps-elsewhere;
        told = told-now script w b holds p call kind number numbers o e s next after.node [] after.entries name p
            changes is-after unused is-maker moved used none-placed
            (says-itself name g.object)
            (λ other. other);
        found = found-now script w b holds p call kind number numbers o e s next after.node [] after.entries name p
            changes is-after unused is-maker moved used none-placed (λ flag. tt);
        unplaced = unplaced-now script w b holds p call kind number numbers o e s next after.node [] after.entries name
            p changes is-after unused is-maker moved used none-placed;
        ranged = ranged-now script w b holds p call kind number numbers o e s next after.node [] after.entries name p
            changes is-after unused is-maker moved used none-placed
            (of-tells _ (λ other. refl));
        leased = leased-now script w b holds p call kind number numbers o e s next after.node [] after.entries name p
            changes is-after unused is-maker moved used none-placed
            (of-tells _ (λ other. refl));
        bound = bound-now script w b holds p call kind number numbers o e s next after.node [] after.entries name p
            changes is-after unused is-maker moved used none-placed;
        items = items-now script w b holds p call kind number numbers o e s next after.node [] after.entries name p
            changes is-after unused is-maker moved used none-placed;
      }
    where
      in-table-not : (q : ℕ) → InTable q ≡ Unmade → ⊥
      in-table-not q h = cc

      by-test : (t : Bool) → is_some (if t then Some (body-now name) else None) ≡ t
      by-test true = refl
      by-test false = refl

      says-itself : (m : Name) → is_object m ≡ true → SaysOf b.pids m p p
      says-itself (Proc q) h = absurd (false≢true h)
      says-itself (Msg id) h = refl
      says-itself (Sem id) h = refl

  names-now : (m : Name) → NameHolds script b.pids (is_born_in next) m (name_sight script next [] moved m)
  names-now m =
      elim (name-cases name m) [
        | inl i ↦
            subst (λ z. NameHolds script b.pids (is_born_in next) z (name_sight script next [] moved z)) i
            (name-new script b.pids b.pids (is_born_in w) (is_born_in next) name x y p known unused is-new)
        | inr d ↦ other-name-now m d
      ]

  no-leases : (z : Kind) → AllByRecursion (λ t. lease_in z t.1 ≡ []) after.sends
  no-leases z = of-tells _ (λ other. refl)

  -- The queue or set is there, held by the node that made it, which tells its place or is the leader.
  pub object-keeps : KeepsAs script w e moved
  object-keeps =
      record {
        next = next;
        is_step = given.is_step;
        holds = entry-keeps script w next [] [] Nothing Nothing b moved p after.node (takes_by kind o)
            after.sends after.entries p s.low s.high holds changes move call-now cancel-now names-now
            (kinds-now script w b holds p call kind number numbers o e s next after.node after.sends
            (entry_by p pid call reply) changes name made.next reply enters g.kind_is g.number_is more refl
            is-after.ranges no-leases)
            (few-now script w b holds p call kind number numbers o e s next after.node after.sends
            (entry_by p pid call reply) changes is-after.ranges);
      }
