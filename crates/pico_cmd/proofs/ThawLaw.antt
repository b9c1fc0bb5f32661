-- Thawing what was frozen is simulating: both take the same events.
use Rattle.std.proofs.Common.{◌≡◌, ℕ, ◌+◌, ◌≤◌, Bool, true, false, List, [], ◌∷◌, ◌++◌, length, map, Option, Some, None, Ok, Err, Result, refl, sym, ap, subst, ◌∙◌, arith, append-nil}
use Rattle.std.specs.List.{AllByRecursion}
use Rattle.std.specs.Option.{unwrap_or}
use Rattle.std.specs.Result.{result_ok}
use Rattle.std.proofs.lemmas.Option.{same_Some}
use Rattle.pico_base.specs.declared.script.Event.{Event}
use Rattle.pico_base.specs.declared.script.Script.{Script}
use Rattle.stamp_merge.specs.declared.Stamped.{Stamped}
use Rattle.kernel_model.specs.Script.{IsSoundScript}
use Rattle.kernel_model.specs.Trace.{trace_text}
use Rattle.script_reader.specs.declared.fault.ScriptFault.{ScriptFault}
use Rattle.script_reader.specs.declared.fault.ScriptStop.{ScriptStop}
use Rattle.script_reader.specs.declared.fault.ScriptStop.TheVariants as scripts
use Rattle.script_reader.specs.Fault.{IsFirstFault, Reads}
use Rattle.script_reader.proofs.Sound.{reads_sound}
use Rattle.world_model.specs.World.{World, opening_world, size, node_count, step}
use Rattle.world_model.specs.Run.{IsRunOf, is_stalled}
use Rattle.world_model.specs.Schedule.{Schedule, InTurn, Follows, node_of, schedule_after, schedule_of}
use Rattle.image_text.specs.Grammar.{HasNodes}
use Rattle.image_text.specs.declared.fault.ImageStop.TheVariants.{Script as InScript, At}
use Rattle.world_image.specs.Laws.{MayFreeze}
use Rattle.world_image.specs.Thawing.{Outcome}
use Rattle.world_image.specs.Thaws.{IsThawOf, last_from}
use Rattle.world_image.proofs.Frozen.{frozen-thaws}
use Rattle.world_image.proofs.Laws.{thaw-again}
use Rattle.pico_cmd.specs.declared.status.Status.{Status}
use Rattle.pico_cmd.specs.declared.status.Status.TheVariants as status
use Rattle.pico_cmd.specs.Frozen.{IsFrozen, stamped_from}
use Rattle.pico_cmd.specs.Laws.{ThawOfFreezeIsSim, plain}
use Rattle.pico_cmd.specs.Promise.{IsTraceOf, Simulates, Thaws}
use Rattle.pico_cmd.specs.Stalled.{status_left}
use Rattle.pico_cmd.specs.Taking.{Takes}
use Rattle.pico_cmd.specs.Thawed.{IsTextOfThaw, node_behind}
use Rattle.pico_cmd.proofs.Ends.{runs_keep}
use Rattle.pico_cmd.proofs.FrozenSizes.{image_short, order_of_stamped, run_few, stamped_rise, stamped_stand, takes_nodes}
use Rattle.pico_cmd.proofs.ImageFaults.{stops_at_script}
use Rattle.pico_cmd.proofs.RunLaws.{Laws}
use Rattle.pico_cmd.proofs.Thaws.{fault_not_thawed, thawed_script}

-- ---- what schedules take

-- the schedule stands behind the last event's node
turn_of : (stamp p : ℕ) (o : Option ℕ) (w : World) (es : List Event) (now : World) (at : Schedule)
    → Takes w (InTurn (unwrap_or o p)) es now at → at ≡ InTurn (unwrap_or (last_from o (stamped_from stamp es)) p)
turn_of stamp p o w [] now at t = sym t.1
turn_of stamp p o w (e ∷ es) now at t = turn_of (stamp + 1) p (Some (node_of e)) t.next es now at t.rest

-- what is taken from there on goes on what was taken
follows_join : (w : World) (s : Schedule) (es : List Event) (now : World) (at : Schedule) (further : List Event)
    (last : World) → Takes w s es now at → Follows now at further last → Follows w s (es ++ further) last
follows_join w s [] now at further last t f =
    subst (λ (x : World). Follows x s further last) (sym t.0)
    (subst (λ (x : Schedule). Follows now x further last) (sym t.1) f)
follows_join w s (e ∷ es) now at further last t f =
    record {
      chosen = t.chosen;
      next = t.next;
      steps = t.steps;
      rest = follows_join t.next (schedule_after s e) es now at further last t.rest f;
    }

-- a schedule takes one run
follows_once : (w : World) (s : Schedule) (es fs : List Event) (last other : World) → Follows w s es last
    → Follows w s fs other → last ≡ other
follows_once w s [] [] last other f g = sym f.1 ∙ g.1
follows_once w s [] (e ∷ fs) last other f g = absurd (let h : None ≡ Some e = sym f.0 ∙ g.chosen in cc)
follows_once w s (e ∷ es) [] last other f g = absurd (let h : None ≡ Some e = sym g.0 ∙ f.chosen in cc)
follows_once w s (e ∷ es) (d ∷ fs) last other f g =
    let event : d ≡ e = (let h : Some d ≡ Some e = sym g.chosen ∙ f.chosen in cc) in
    let step_there : step w e ≡ Some g.next = subst (λ (x : Event). step w x ≡ Some g.next) event g.steps in
    let world : g.next ≡ f.next = (let h : Some g.next ≡ Some f.next = sym step_there ∙ f.steps in cc) in
    let rest : Follows f.next (schedule_after s e) fs other =
    subst (λ (x : World). Follows x (schedule_after s e) fs other) world
    (subst (λ (x : Event). Follows g.next (schedule_after s x) fs other) event g.rest) in
    follows_once f.next (schedule_after s e) es fs last other f.rest rest

items_back : (stamp : ℕ) (es : List Event) → map (λ (e : Stamped Event). e.item) (stamped_from stamp es) ≡ es
items_back stamp [] = refl
items_back stamp (e ∷ es) = ap (λ (xs : List Event). e ∷ xs) (items_back (stamp + 1) es)

same_ok : (x y : World × Option ℕ) → (let r : Outcome = Ok x in r ≡ Ok y) → x ≡ y
same_ok x y e = cc

-- an image is thawed as one world
same_thaw : (image : List ℕ) (w v : World) (last other : Option ℕ) → IsThawOf image w last → IsThawOf image v other
    → (w ≡ v) × (last ≡ other)
same_thaw image w v last other t u =
    let pair = same_ok (w, last) (v, other) (sym (thaw-again image w last t) ∙ thaw-again image v other u) in
    (ap (λ (x : World × Option ℕ). x.0) pair, ap (λ (x : World × Option ℕ). x.1) pair)

same_script : (bytes : List ℕ) (a b : Script) → Reads bytes a → Reads bytes b → a ≡ b
same_script bytes a b r s = same_Some a b (ap result_ok (sym r ∙ s))

-- ---- what was frozen

module _ (laws : Laws) (count : ℕ) (bytes image : List ℕ) (z : IsFrozen count bytes image) where
  abbrev taken : List (Stamped Event)
  taken = stamped_from 1 z.events

  abbrev nodes : ℕ
  nodes = node_count z.script

  abbrev last_node : Option ℕ
  last_node = last_from None taken

  sound : IsSoundScript z.script
  sound = reads_sound bytes z.script z.reads

  few : length z.events ≤ 640000
  few = run_few z.script z.events sound (laws.short z.script sound z.events z.first.world z.first.run)

  there : AllByRecursion (HasNodes (length z.script.blocks)) z.events
  there =
      takes_nodes (opening_world z.script) nodes z.events z.first.world z.first.schedule (omega arith) z.first.takes

  may : MayFreeze bytes z.script taken
  may =
      record {
        reads = z.reads;
        stand = stamped_stand (length z.script.blocks) z.events few there;
        stamps = stamped_rise z.events;
        within = image_short bytes z.script z.events z.reads few there;
      }

  -- it is thawed as the world after the events
  thaws : IsThawOf image z.first.world last_node
  thaws =
      subst (λ (b : List ℕ). IsThawOf b z.first.world last_node) (sym z.is_text)
      (frozen-thaws bytes z.script taken taken z.first.world may (order_of_stamped z.events)
      (subst (λ (es : List Event). IsRunOf z.script es z.first.world) (sym (items_back 1 z.events)) z.first.run))

  -- the schedule goes on from there as it would have
  goes_on : (further : List Event) (last : World)
      → Follows z.first.world (InTurn (node_behind z.first.world last_node)) further last
      → Follows (opening_world z.script) (schedule_of 0 nodes) (z.events ++ further) last
  goes_on further last f =
      let same : z.first.world.script ≡ z.script =
      runs_keep (opening_world z.script) z.first.world z.events z.first.run in
      let size_is : size z.first.world ≡ nodes = ap (λ (s : Script). node_count s) same in
      let at : z.first.schedule ≡ InTurn (unwrap_or last_node nodes) =
      turn_of 1 nodes None (opening_world z.script) z.events z.first.world z.first.schedule z.first.takes in
      follows_join (opening_world z.script) (schedule_of 0 nodes) z.events z.first.world z.first.schedule further last
      z.first.takes
      (subst (λ (s : Schedule). Follows z.first.world s further last)
      (ap (λ (n : ℕ). InTurn (unwrap_or last_node n)) size_is ∙ sym at) f)

  -- what is thawed and what is simulated come to the same world
  same_end : (stalled other_stalled : Bool) (text other : List ℕ) → IsTextOfThaw image stalled text
      → IsTraceOf plain other_stalled bytes other → (stalled ≡ other_stalled) × (text ≡ other)
  same_end stalled other_stalled text other a b =
      let same = same_thaw image a.world z.first.world a.last_node last_node a.thaws thaws in
      let follows : Follows z.first.world (InTurn (node_behind z.first.world last_node)) a.further a.last =
      subst (λ (w : World). Follows w (InTurn (node_behind w last_node)) a.further a.last) same.0
      (subst (λ (o : Option ℕ). Follows a.world (InTurn (node_behind a.world o)) a.further a.last) same.1 a.goes_on)
      in
      let scripts : b.script ≡ z.script = same_script bytes b.script z.script b.reads z.reads in
      let simulated : Follows (opening_world z.script) (schedule_of 0 nodes) b.run.events b.run.last =
      subst (λ (s : Script). Follows (opening_world s) (schedule_of 0 (node_count s)) b.run.events b.run.last) scripts
      b.run.run.schedule in
      let last : a.last ≡ b.run.last =
      follows_once (opening_world z.script) (schedule_of 0 nodes) (z.events ++ a.further) b.run.events a.last b.run.last
      (goes_on a.further a.last follows) simulated in
      let script : a.thaws.script ≡ z.script =
      sym (thawed_script image a.world a.last_node a.thaws) ∙ ap (λ (w : World). w.script) same.0
      ∙ runs_keep (opening_world z.script) z.first.world z.events z.first.run in (
        sym a.left.stalled_is ∙ ap is_stalled last ∙ b.run.left.stalled_is,
        a.is_text ∙ ap (λ (s : Script). trace_text s a.last.journal) (script ∙ sym scripts)
            ∙ ap (λ (w : World). trace_text b.script w.journal) last
            ∙ sym (append-nil (trace_text b.script b.run.last.journal)) ∙ sym b.run.is_text,
      )

  no_fault : (line : ℕ) (fault : ScriptFault) → IsFirstFault bytes line fault → ⊥
  no_fault line fault h = of (sym z.reads ∙ h)
    where
      of : (let r : Result Script ScriptStop = Ok z.script in r ≡ Err (scripts.At line fault)) → ⊥
      of e = cc

  -- with the status that goes with it
  same_simulated : (stalled : Bool) (text : List ℕ) (t : Status) (other : List ℕ) → IsTextOfThaw image stalled text
      → Simulates plain bytes t other → (status_left stalled ≡ t) × (text ≡ other)
  same_simulated stalled text status.Done other a b =
      let same = same_end stalled false text other a b in (ap status_left same.0, same.1)
  same_simulated stalled text status.Stalled other a b =
      let same = same_end stalled true text other a b in (ap status_left same.0, same.1)
  same_simulated stalled text status.BadScript other a b = absurd (no_fault b.line b.fault b.first)
  same_simulated stalled text status.Usage other a b = absurd b
  same_simulated stalled text status.Memory other a b = absurd b
  same_simulated stalled text status.ReadFault other a b = absurd b
  same_simulated stalled text status.WriteFault other a b = absurd b
  same_simulated stalled text status.NotLegal other a b = absurd b
  same_simulated stalled text status.BadImage other a b = absurd b

  same_answers : (s t : Status) (text other : List ℕ) → Thaws image s text → Simulates plain bytes t other
      → (s ≡ t) × (text ≡ other)
  same_answers status.Done t text other a b = same_simulated false text t other a b
  same_answers status.Stalled t text other a b = same_simulated true text t other a b
  same_answers status.BadScript t text other a b =
      absurd (fault_not_thawed image (InScript a.line a.fault) z.first.world last_node
      (stops_at_script image a.line a.fault a.first) thaws)
  same_answers status.BadImage t text other a b =
      absurd (fault_not_thawed image (At a.line a.fault) z.first.world last_node a.first thaws)
  same_answers status.Usage t text other a b = absurd a
  same_answers status.Memory t text other a b = absurd a
  same_answers status.ReadFault t text other a b = absurd a
  same_answers status.WriteFault t text other a b = absurd a
  same_answers status.NotLegal t text other a b = absurd a

-- the law
pub thaw_of_freeze : Laws → ThawOfFreezeIsSim
thaw_of_freeze laws count bytes image h =
    record {
      cause = (h.0.first.world, last_node laws count bytes image h.0, thaws laws count bytes image h.0);
      same = λ s t text other a b. same_answers laws count bytes image h.0 s t text other a.0 b.0;
    }
