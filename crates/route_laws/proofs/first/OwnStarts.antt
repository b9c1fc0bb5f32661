-- Node 1 starts a call of its process that isn't on the process itself: it is served where node 1 holds the name, goes
-- to the owner of its cache, or is routed by the leader.
use Rattle.std.proofs.Common.{◌≡◌, ◌≢◌, ℕ, ◌+◌, ◌≤◌, Bool, true, false, not, if◌then◌else◌, [], ◌∷◌, Contains, Option, Some, None, refl, ap, sym, subst, ◌∙◌, inr, arith, All}
use Rattle.std.proofs.lemmas.Bool.{eq-eqb, false≢true, ne_eqb}
use Rattle.std.proofs.lemmas.List.Elements.{All-cons, All-filter, All-weaker, All-contains, All-contains_itself}
use Rattle.std.proofs.lemmas.Map.Views.{Contains-from_lookup}
use Rattle.pico_base.specs.declared.call.Call.{Call}
use Rattle.pico_base.specs.declared.call.Home.{Home}
use Rattle.pico_base.specs.declared.call.Home.TheVariants as homes
use Rattle.pico_base.specs.declared.numbers.Name.{Name}
use Rattle.pico_base.specs.declared.script.Event.TheVariants as events
use Rattle.pico_base.specs.declared.script.Script.{Script}
use Rattle.pico_base.specs.Home.{home_of}
use Rattle.rpc_frame.specs.declared.asked.Asked.{Asked}
use Rattle.rpc_frame.specs.declared.frame.Frame.TheVariants as frames
use Rattle.kernel_laws.proofs.Plain.{of-some}
use Rattle.kernel_model.specs.Script.{IsSoundScript}
use Rattle.waiting_model.specs.Calls.{may_park}
use Rattle.node_model.specs.Cache.{Cache, forget, look, look_by, owner_in}
use Rattle.node_model.specs.declared.held.Held.TheVariants.{Request}
use Rattle.node_model.specs.Caller.{start_call}
use Rattle.node_model.specs.Kinds.{is_same_name}
use Rattle.world_model.specs.Calls.{is_for_others}
use Rattle.world_model.specs.Node.{Node, asked_here, can_run, holds as node_holds}
use Rattle.world_model.specs.Routes.{route_call}
use Rattle.world_model.specs.Serving.{serve_asked}
use Rattle.world_model.specs.Starting.{ask, request, run, start_by}
use Rattle.world_model.specs.Step.{send, step_to}
use Rattle.world_model.specs.World.{World, node_count, world_after}
use Rattle.entry_laws.proofs.Names.{same-name}
use Rattle.world_laws.specs.Places.{Beside, InRequest, InTable, IsInHand, call_in}
use Rattle.world_laws.specs.Sights.{is_born_in, is_born_stage, node_of}
use Rattle.world_laws.specs.Callers.{is_on, may_be_in}
use Rattle.world_laws.specs.Families.{NodeHolds}
use Rattle.world_laws.specs.Invariant.{Holds}
use Rattle.world_laws.proofs.Named.{same-name-is}
use Rattle.world_laws.proofs.Steps.{run-steps}
use Rattle.rule_laws.proofs.Suggestions.{born-in-range}
use Rattle.rule_laws.proofs.own.Outs.{out-keeps}
use Rattle.rule_laws.proofs.own.Moved.{AfterRun, moved-alone, moved-twice}
use Rattle.rule_laws.proofs.own.OwnCases.{Keeps}
use Rattle.rule_laws.proofs.own.Runs.{Starts, run-is}
use Rattle.route_laws.specs.Ready.{HasFewNodes, IsReady}
use Rattle.route_laws.proofs.hand.ReadRoutes.{HasRoute}
use Rattle.route_laws.proofs.hand.HandRoutes.{has-route}
use Rattle.route_laws.proofs.sent.NoCheckpoint.{in-table}
use Rattle.route_laws.proofs.sent.Requests.{place-at-leader}
use Rattle.route_laws.proofs.served.Noting.{ServesAndNotes, serves-at-leader}
use Rattle.route_laws.proofs.first.Calm.{OwesAs, own-route-calm, own-strikes-not, served-calm}
use Rattle.route_laws.proofs.first.Starts.{HasOwners, calm-keeps, somewhere, start-in-hand, started_asked, started_beside, started-asked-here, started-asks, started-here}

-- ---- the cache

module _ (P : Name × ℕ → Type 0) (cache : Cache) (name : Name) (all : All P cache) where
  looked : (o : Option ℕ) → owner_in cache name ≡ o → All P (look_by cache name o)
  looked None is = all
  looked (Some owner) is =
      All-cons P (name, owner) (forget cache name)
      (All-contains P cache (name, owner) all (Contains-from_lookup same-name-is name owner cache is))
      (All-filter (λ e. not (is_same_name name e.0)) P cache all)

module _ (script : Script) (sound : IsSoundScript script) (w : World) (b : Beside) (holds : Holds script w [] b)
    (high : 1 ≤ node_count script) (can : can_run (node_of w 1) ≡ true) (s : Starts script w b 1)
    (few : HasFewNodes script) (ready : IsReady (node_of w 1)) where
  abbrev n : Node
  n = node_of w 1

  abbrev call : Call
  call = s.call

  low : 1 ≤ 1
  low = omega arith

  abbrev started : Cache → Node
  started cache = record n { caller = start_call n.caller call; cache = cache }

  abbrev Runs : Type 0
  Runs = Keeps script w (events.Run 1) (AfterRun b 1)

  node-was : NodeHolds script b.pids (is_born_in w) 1 n
  node-was = holds.nodes 1 low high

  rule-by : (home : Home) → home_of n.pid call ≡ home
      → run script n ≡ start_by script (step_to (started n.cache)) call s.row home
  rule-by home is =
      run-is script sound w b holds 1 low high can s
      ∙ ap (start_by script (step_to (started n.cache)) call s.row) is

  -- ---- in hand

  module _ (cache : Cache) (owners : HasOwners w 1 cache) (others : is_for_others (home_of n.pid call) ≡ true) where
    abbrev asked : Asked
    asked = started_asked script w b holds 1 low high s cache owners others

    abbrev in-hand : Beside
    in-hand = started_beside script w b holds 1 low high s cache owners others

    abbrev next : World
    next = world_after w 1 (step_to (started cache))

    holds-in-hand : Holds script next (Request asked ∷ []) in-hand
    holds-in-hand = start-in-hand script w b holds 1 low high s cache owners others

    here : node_of next 1 ≡ started cache
    here = started-here script w b holds 1 low high s cache owners others

    asks-itself : ask script (step_to (started cache)) call ≡ route_call script (step_to (started cache)) asked
    asks-itself =
        ap (λ t. if t then route_call script (step_to (started cache)) (asked_here (started cache) call)
        else Some (send (step_to (started cache)) 1 (frames.Ask (n.caller.ticket + 1) n.pid call)))
        (eq-eqb n.number 1 node-was.number)
        ∙ ap (route_call script (step_to (started cache)))
        (started-asked-here script w b holds 1 low high s cache owners others)

    ready-now : IsReady (node_of next 1)
    ready-now =
        subst (λ (m : Node). IsReady m) (sym here)
        (record {
          watches = ready.watches;
          queues = ready.queues;
          sets = ready.sets;
          nodes = ready.nodes;
          numbers = ready.numbers;
        })

    -- the call has a route
    routed : run script n ≡ ask script (step_to (started cache)) call → Runs
    routed rule =
        let r : HasRoute script w (step_to (started cache)) asked [] in-hand =
        has-route script w (step_to (started cache)) asked [] in-hand holds-in-hand
        (started-asks script w b holds 1 low high s cache owners others) few ready-now
        in record {
          beside = r.beside;
          keeps = record {
            next = world_after w 1 r.keeps.next;
            is_step = run-steps script w 1 r.keeps.next holds.shape low high (rule ∙ asks-itself ∙ r.keeps.is_route);
            holds = calm-keeps script w 1 r.keeps.next r.beside r.keeps.holds
                (own-route-calm script (step_to (started cache)) r.keeps.next asked refl r.keeps.is_route);
          };
          after = inr (somewhere b.call r.beside.call 1 (moved-twice b.call r.beside.call 1 IsInHand _ r.moved));
        }

    -- or is served
    served : (name : Name) → home_of n.pid call ≡ homes.At name → b.deed name ≡ InTable 1
        → run script n ≡ serve_asked script (step_to (started cache)) name asked → Runs
    served name home deed rule =
        let r : ServesAndNotes script w 1 (step_to (started cache)) asked [] in-hand name =
        serves-at-leader script w (step_to (started cache)) asked [] in-hand holds-in-hand
        (record {
          low = low;
          high = high;
          born = ap (λ (m : Node). is_born_stage m.stage) here ∙ ap is_born_stage s.stage;
        })
        (started-asks script w b holds 1 low high s cache owners others) name home deed few ready.watches
        (place-at-leader script next (Request asked ∷ []) in-hand holds-in-hand name deed)
        in record {
          beside = r.beside;
          keeps = record {
            next = world_after w 1 r.next;
            is_step = run-steps script w 1 r.next holds.shape low high (rule ∙ r.is);
            holds = calm-keeps script w 1 r.next r.beside r.holds
                (of-some (OwesAs (step_to (started cache)))
                (serve_asked script (step_to (started cache)) name asked) r.next
                (served-calm script (step_to (started cache)) asked name
                (own-strikes-not (started cache) name call (ap (is_on name) home ∙ same-name name))) r.is);
          };
          after = inr (somewhere b.call r.beside.call 1 (moved-twice b.call r.beside.call 1 IsInHand _ r.moved));
        }

  -- Node 1 starts a call on a key.
  pub own-key-starts : home_of n.pid call ≡ homes.Keys → Keeps script w (events.Run 1) (AfterRun b 1)
  own-key-starts is = routed n.cache node-was.owners (ap is_for_others is) (rule-by homes.Keys is)

  -- Node 1 starts a removal.
  pub own-removal-starts : (name : Name) → home_of n.pid call ≡ homes.Removal name
      → Keeps script w (events.Run 1) (AfterRun b 1)
  own-removal-starts name is = routed n.cache node-was.owners (ap is_for_others is) (rule-by (homes.Removal name) is)

  -- ---- on a name

  module _ (name : Name) (is : home_of n.pid call ≡ homes.At name) where
    others : is_for_others (home_of n.pid call) ≡ true
    others = ap is_for_others is

    abbrev looked-at : Cache
    looked-at = look n.cache name

    -- one that may have to wait isn't looked for in the cache
    rule-at : (held parks : Bool) → node_holds n name ≡ held → may_park call ≡ parks
        → run script n
        ≡ (if held then serve_asked script (step_to (started n.cache)) name (asked_here (started n.cache) call)
        else if parks then ask script (step_to (started n.cache)) call
        else request script (step_to (started looked-at)) call (owner_in n.cache name))
    rule-at held parks e f =
        rule-by (homes.At name) is
        ∙ ap (λ t. if t then serve_asked script (step_to (started n.cache)) name (asked_here (started n.cache) call)
        else if may_park call then ask script (step_to (started n.cache)) call
        else request script (step_to (started looked-at)) call (owner_in n.cache name)) e
        ∙ ap (λ t. if held
        then serve_asked script (step_to (started n.cache)) name (asked_here (started n.cache) call)
        else if t then ask script (step_to (started n.cache)) call
        else request script (step_to (started looked-at)) call (owner_in n.cache name)) f

    -- it holds the name
    served-there : node_holds n name ≡ true → Runs
    served-there held =
        served n.cache node-was.owners others name is
        (in-table script w [] b holds 1 (ap is_born_stage s.stage) name held)
        (rule-at true (may_park call) held refl
        ∙ ap (serve_asked script (step_to (started n.cache)) name)
        (started-asked-here script w b holds 1 low high s n.cache node-was.owners others))

    -- its cache afterwards

    abbrev IsOwner : Name × ℕ → Type 0
    IsOwner e = (is_born_in w e.1 ≡ true) × (e.1 ≢ 1)

    owners-now : HasOwners w 1 looked-at
    owners-now m owner there =
        All-contains IsOwner looked-at (m, owner)
        (looked IsOwner n.cache name
        (All-weaker (Contains n.cache) IsOwner (λ e found. node-was.owners e.0 e.1 found) n.cache
        (All-contains_itself n.cache)) (owner_in n.cache name) refl) there

    -- the owner that it names is asked
    asked-owner : node_holds n name ≡ false → may_park call ≡ false → (owner : ℕ) → owner_in n.cache name ≡ Some owner
        → Runs
    asked-owner elsewhere quick owner found =
        record {
          beside = record b { call = call_in b.call 1 (InRequest owner) };
          keeps = out-keeps script w b holds 1 low high s (InRequest owner) owner
              (frames.Request (n.caller.ticket + 1) n.pid call) looked-at
              (record {
                low = within.0;
                high = within.1;
                other = its.1;
                frame_is = refl;
                in_stream = λ t q. refl;
                not_held = λ m. refl;
                not_in_hand = refl;
                not_waiting = λ m. refl;
                not_made = refl;
                no_end = refl;
                no_lease_place = λ k. refl;
                about = refl;
                about_none = λ y d. ne_eqb 1 y (λ e. d (sym e));
                no_cancel = λ y. refl;
                plain = refl;
                no_birth = refl;
                no_lease = λ k. refl;
                no_name = λ m. refl;
                may_be = its.0;
                home = ap (λ h. may_be_in (InRequest owner) h call) is ∙ ap not quick;
                used_up = tt;
                between = its;
                to_be_made = λ x made. made;
                owners = owners-now;
              })
              (rule-at false false elsewhere quick ∙ ap (request script (step_to (started looked-at)) call) found
              ∙ ap (λ t. if t then ask script (step_to (started looked-at)) call
              else Some (send (step_to (started looked-at)) owner (frames.Request (n.caller.ticket + 1) n.pid call)))
              (ne_eqb owner n.number (λ e. its.1 (e ∙ node-was.number))));
          after = inr (moved-alone b.call (call_in b.call 1 (InRequest owner)) 1 (λ place. Unit {0}) (InRequest owner)
              (λ y. refl) tt);
        }
      where
        its : (is_born_in w owner ≡ true) × (owner ≢ 1)
        its = node-was.owners name owner (Contains-from_lookup same-name-is name owner n.cache found)

        within : (1 ≤ owner) × (owner ≤ node_count script)
        within = born-in-range script w holds.shape owner its.0

    by-owner : node_holds n name ≡ false → may_park call ≡ false → (o : Option ℕ) → owner_in n.cache name ≡ o → Runs
    by-owner elsewhere quick (Some owner) found = asked-owner elsewhere quick owner found
    by-owner elsewhere quick None found =
        routed looked-at owners-now others
        (rule-at false false elsewhere quick ∙ ap (request script (step_to (started looked-at)) call) found)

    by-waits : node_holds n name ≡ false → (t : Bool) → may_park call ≡ t → Runs
    by-waits elsewhere true parks =
        routed n.cache node-was.owners others (rule-at false true elsewhere parks)
    by-waits elsewhere false quick = by-owner elsewhere quick (owner_in n.cache name) refl

    by-held : (t : Bool) → node_holds n name ≡ t → Runs
    by-held true e = served-there e
    by-held false e = by-waits e (may_park call) refl

    -- Node 1 starts a call on a name.
    pub own-at-starts : Keeps script w (events.Run 1) (AfterRun b 1)
    own-at-starts = by-held (node_holds n name) refl

  -- Node 1 starts any call that others may carry out: it is served at once, goes to the cache's owner, or is routed.
  pub first-starts : is_for_others (home_of n.pid call) ≡ true → Keeps script w (events.Run 1) (AfterRun b 1)
  first-starts others = by-home (home_of n.pid call) refl others
    where
      by-home : (home : Home) → home_of n.pid call ≡ home → is_for_others home ≡ true
          → Keeps script w (events.Run 1) (AfterRun b 1)
      by-home (homes.At name) is h = own-at-starts name is
      by-home (homes.Removal name) is h = own-removal-starts name is
      by-home homes.Keys is h = own-key-starts is
      by-home homes.Own is h = absurd (false≢true h)
      by-home homes.Parent is h = absurd (false≢true h)
