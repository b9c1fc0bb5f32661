-- What `thaw` reads of the source, and what is promised of its answer.
use Rattle.std.proofs.Common.{◌≡◌, ℕ, ◌≤◌, Bool, true, false, List, [], ◌∷◌, ◌++◌, map, take, Option, Some, None, Result, Ok, Err, refl, sym, ap, subst, ◌∙◌, inl, inr, arith}
use Rattle.std.specs.Prelude.{IfOk, IfSome, IsSome}
use Rattle.std.specs.List.{AllByRecursion}
use Rattle.std.specs.Option.{unwrap_or}
use Rattle.std.proofs.lemmas.List.{take-take}
use Rattle.pico_base.specs.declared.script.Event.{Event}
use Rattle.pico_base.specs.declared.script.Script.{Script}
use Rattle.stamp_merge.specs.declared.Stamped.{Stamped}
use Rattle.kernel_model.specs.Script.{IsSoundScript}
use Rattle.kernel_model.specs.Trace.{trace_text}
use Rattle.script_reader.specs.declared.fault.ScriptFault.{ScriptFault}
use Rattle.script_reader.specs.Fault.{IsFirstFault, outcome}
use Rattle.script_reader.proofs.Sound.{reads_sound}
use Rattle.world_model.specs.World.{World, opening_world, size, node_count}
use Rattle.world_model.specs.Run.{Runs, IsRunOf, IsAtRest, is_stalled}
use Rattle.world_model.specs.Schedule.{Schedule, InTurn, Follows, choice, schedule_after}
use Rattle.run_laws.proofs.Schedules.{schedules_are_runs_lemma}
use Rattle.world_core.specs.Laws.{IsWithin}
use Rattle.image_text.specs.Grammar.{MayStand}
use Rattle.image_text.specs.Parts.{script_of, seen}
use Rattle.image_text.specs.Reading.{of_script, said_by}
use Rattle.image_text.specs.declared.fault.ImageFault.{ImageFault}
use Rattle.image_text.specs.declared.fault.ImageStop.{ImageStop}
use Rattle.image_text.specs.declared.fault.ImageStop.TheVariants.{Script as InScript, At}
use Rattle.image_text.proofs.Again.{own-node}
use Rattle.image_text.proofs.Orders.{all-moved}
use Rattle.world_image.specs.Thawing.{Outcome, of_said, thawed}
use Rattle.world_image.specs.Thaws.{IsThawOf, last_from}
use Rattle.world_image.specs.declared.thawing.Thawed.{Thawed}
use Rattle.world_image.proofs.Laws.{thaw-again}
use Rattle.pico_words.specs.declared.words.Request.TheVariants.{Thaw}
use Rattle.pico_run.specs.declared.rested.Rested.{Rested}
use Rattle.pico_cmd.specs.declared.answer.Answer.{Answer}
use Rattle.pico_cmd.specs.declared.status.Status.{Status}
use Rattle.pico_cmd.specs.declared.status.Status.TheVariants as status
use Rattle.pico_cmd.specs.Promise.{AnswersTold, CauseOfThaw, EachCause, OrStalled, Thaws}
use Rattle.pico_cmd.specs.Stalled.{status_left}
use Rattle.pico_cmd.specs.Stop.{AreBytesUpTo}
use Rattle.pico_cmd.specs.Thawed.{AnswersThaw, IsTextOfThaw, IsImageFault, node_behind}
use Rattle.pico_cmd.proofs.Chosen.{choice_next}
use Rattle.pico_cmd.proofs.Ends.{runs_keep}
use Rattle.pico_cmd.proofs.Left.{IsEnded, ended_or_stalled, ended_so}
use Rattle.pico_cmd.proofs.Onward.{of_some}
use Rattle.pico_cmd.proofs.RunLaws.{Laws, left_as}
use Rattle.pico_cmd.proofs.Runs.{at_its_rest, of_after, step_script}
use Rattle.pico_cmd.proofs.Sizes.{whole_image, whole_left}

-- ---- the node that the run goes on behind

last_within : (nodes : ℕ) (last : Option ℕ) (order : List (Stamped Event)) → IfSome last (λ p. p ≤ nodes)
    → AllByRecursion (MayStand nodes) order → IfSome (last_from last order) (λ p. p ≤ nodes)
last_within nodes last [] h all = h
last_within nodes last (e ∷ order) h all = last_within nodes (Some e.node) order (own-node nodes e all.0).1 all.1

or_size : (o : Option ℕ) (count : ℕ) → IfSome o (λ p. p ≤ count) → unwrap_or o count ≤ count
or_size None count h = omega arith
or_size (Some p) count h = h

-- a thawed world runs the image's script
pub thawed_script : (image : List ℕ) (w : World) (last : Option ℕ) (t : IsThawOf image w last) → w.script ≡ t.script
thawed_script image w last t = runs_keep (opening_world t.script) w (map (λ e. e.item) t.order) t.run

-- it is one of the world's nodes
pub node_there : (image : List ℕ) (w : World) (last : Option ℕ) → IsThawOf image w last → node_behind w last ≤ size w
node_there image w last t =
    let nodes : ℕ = node_count t.script in
    let stand : AllByRecursion (MayStand nodes) t.order =
    all-moved (MayStand nodes) t.events t.order t.is_order.same t.is_image.stand in
    let within : IfSome last (λ p. p ≤ nodes) =
    subst (λ (o : Option ℕ). IfSome o (λ p. p ≤ nodes)) (sym t.last_is) (last_within nodes None t.order tt stand) in
    let same : size w ≡ nodes = ap (λ (s : Script). node_count s) (thawed_script image w last t) in
    or_size last (size w) (subst (λ (n : ℕ). IfSome last (λ p. p ≤ n)) (sym same) within)

-- of a world that is there
pub nodes_there : (image : List ℕ) (o : Option World) (last : Option ℕ) → IfSome o (λ w. IsThawOf image w last)
    → IfSome o (λ w. node_behind w last ≤ size w)
nodes_there image None last h = tt
nodes_there image (Some w) last h = node_there image w last h

-- the script of a thawed world is sound
pub sound_there : (image : List ℕ) (o : Option World) (last : Option ℕ) → IfSome o (λ w. IsThawOf image w last)
    → IfSome o (λ w. IsSoundScript w.script)
sound_there image None last h = tt
sound_there image (Some w) last h =
    subst (λ (s : Script). IsSoundScript s) (sym (thawed_script image w last h))
    (reads_sound (script_of image) h.script h.is_image.reads)

-- so is that of a world that is there, wherever it is read
pub sound_read : (o : Option World) (script : Script) → IsSome o → IfSome o (λ w. script ≡ w.script)
    → IfSome o (λ w. IsSoundScript w.script) → IsSoundScript script
sound_read None script there is sound = absurd (let f : ⊥ = cc in f)
sound_read (Some w) script there is sound = subst (λ (s : Script). IsSoundScript s) (sym is) sound

-- ---- the run

runs_join : (w mid last : World) (first further : List Event) → Runs w first mid → Runs mid further last
    → Runs w (first ++ further) last
runs_join w mid last [] further r s = subst (λ (x : World). Runs x further last) (sym r) s
runs_join w mid last (e ∷ first) further r s =
    record {
      enabled = r.enabled;
      next = r.next;
      steps = r.steps;
      rest = runs_join r.next mid last first further r.rest s;
    }

-- where a schedule ends, it finds nothing
record Ends (last : World) : Type 0 where
  at : Schedule
  within : IsWithin (size last) at
  none : choice last at ≡ None

ends : (w : World) (s : Schedule) (es : List Event) (last : World) → IsWithin (size w) s → Follows w s es last
    → Ends last
ends w s [] last le f =
    subst (λ (x : World). Ends x) f.1 (record { at = s; within = le; none = f.0 })
ends w s (e ∷ es) last le f =
    ends f.next (schedule_after s e) es last
    (of_after w f.next s e (step_script w e f.next f.steps) (choice_next w s e le f.chosen).within) f.rest

-- the image's events and those that follow are a run to rest, whose trace is the text
pub text_of_thaw : Laws → (image : List ℕ) (w : World) (last_node : Option ℕ) (further : List Event) (last : World)
    (text : List ℕ) → IsThawOf image w last_node → Follows w (InTurn (node_behind w last_node)) further last
    → text ≡ trace_text last.script last.journal → IsTextOfThaw image (is_stalled last) text
text_of_thaw laws image w last_node further last text t follows is =
    let script : Script = t.script in
    let taken : List Event = map (λ e. e.item) t.order ++ further in
    let sound : IsSoundScript script = reads_sound (script_of image) script t.is_image.reads in
    let run : IsRunOf script taken last =
    runs_join (opening_world script) w last (map (λ e. e.item) t.order) further t.run
    (schedules_are_runs_lemma w last (InTurn (node_behind w last_node)) further follows) in
    let over : Ends last =
    ends w (InTurn (node_behind w last_node)) further last (node_there image w last_node t) follows in
    let rest : IsAtRest last = laws.rest script last over.at (taken, run) over.within over.none in
    record {
      world = w;
      last_node = last_node;
      thaws = t;
      further = further;
      last = last;
      goes_on = follows;
      run = at_its_rest laws script taken last sound run rest;
      left = left_as laws script last (is_stalled last) sound (taken, run) rest refl;
      is_text =
          is
          ∙ ap (λ (s : Script). trace_text s last.journal) (runs_keep (opening_world script) last taken run);
    }

-- ---- the answer

thaws_left : (image text : List ℕ) (stalled : Bool) → IsTextOfThaw image stalled text
    → Thaws image (status_left stalled) text
thaws_left image text false run = run
thaws_left image text true run = run

module _ (laws : Laws) (image : List ℕ) (t : Thawed) (is : IfSome t.world (λ w. IsThawOf image w t.last)) where
  answers : (a : Answer) → AnswersThaw t a → Thaws image a.status a.text
  answers a h =
      let thaw : IsThawOf image h.from t.last = of_some (λ w. IsThawOf image w t.last) t.world h.from h.world_is is in
      subst (λ (s : Status). Thaws image s a.text) (sym h.status_is)
      (thaws_left image a.text (is_stalled h.last)
      (text_of_thaw laws image h.from t.last h.further h.last a.text thaw h.follows h.is_text))

  pub thaws_so : {E : Type 0} (r : Result Answer E) → IfOk r (AnswersThaw t)
      → IfOk r (λ (a : Answer). Thaws image a.status a.text)
  thaws_so (Err e) h = tt
  thaws_so (Ok a) h = answers a h

-- and no outcome of threads is handed back
pub thaws_alone : {E : Type 0} (t : Thawed) (r : Result Answer E) → IfOk r (AnswersThaw t)
    → IfOk r (λ (a : Answer). a.rested ≡ [])
thaws_alone t (Err e) h = tt
thaws_alone t (Ok a) h = h.alone

-- which is Done or Stalled
pub thaws_end : {E : Type 0} (t : Thawed) (r : Result Answer E) → IfOk r (AnswersThaw t)
    → IfOk r (λ (a : Answer). IsEnded a.status)
thaws_end t (Err e) h = tt
thaws_end t (Ok a) h = ended_so a.status (is_stalled h.last) h.status_is

-- ---- what thawing gives is one of three

-- a thawed image has no fault
module _ (image : List ℕ) (o : Option World) (last : Option ℕ) (there : IsSome o)
    (is : IfSome o (λ w. IsThawOf image w last)) where
  pub thawed_no_fault : (stop : ImageStop) → thawed image ≡ Err stop → ⊥
  thawed_no_fault stop h = of o there is
    where
      of : (o : Option World) → IsSome o → IfSome o (λ w. IsThawOf image w last) → ⊥
      of None there is = cc
      of (Some w) there is = apart (w, last) (sym (thaw-again image w last is) ∙ h)
        where
          apart : (x : World × Option ℕ) → (let r : Outcome = Ok x in r ≡ Err stop) → ⊥
          apart x e = cc

-- an image with a fault isn't thawed
pub fault_not_thawed : (image : List ℕ) (stop : ImageStop) (w : World) (last : Option ℕ) → thawed image ≡ Err stop
    → IsThawOf image w last → ⊥
fault_not_thawed image stop w last h is = thawed_no_fault image (Some w) last refl is stop h

-- an image has one fault
pub same_stop : (image : List ℕ) (a b : ImageStop) → thawed image ≡ Err a → thawed image ≡ Err b → a ≡ b
same_stop image a b h g = of (sym h ∙ g)
  where
    of : (let r : Outcome = Err a in r ≡ Err b) → a ≡ b
    of e = cc

-- not one in its script and one behind it
pub not_both : (image : List ℕ) (line other : ℕ) (fault : ScriptFault) (behind : ImageFault)
    → thawed image ≡ Err (InScript line fault) → thawed image ≡ Err (At other behind) → ⊥
not_both image line other fault behind h g = of (same_stop image (InScript line fault) (At other behind) h g)
  where
    of : InScript line fault ≡ At other behind → ⊥
    of e = cc

-- ---- the bytes that were left

seen_left : (bytes left : List ℕ) → AreBytesUpTo 16777216 bytes left → seen bytes ≡ seen left
unfolding seen
seen_left bytes left (inl same) = ap (take 16777217) same.0
seen_left bytes left (inr long) = ap (take 16777217) long.1 ∙ take-take 16777217 16777217 left (omega arith)

-- what was read is thawed as what was left
thawed_left : (bytes left : List ℕ) → AreBytesUpTo 16777216 bytes left → thawed bytes ≡ thawed left
unfolding thawed said_by
thawed_left bytes left r =
    ap (λ (b : List ℕ). of_said (of_script b (outcome (script_of b)))) (seen_left bytes left r)

fault_in_left : (bytes left : List ℕ) (line : ℕ) (fault : ScriptFault) → AreBytesUpTo 16777216 bytes left
    → IsFirstFault (script_of (seen bytes)) line fault → IsFirstFault (script_of (seen left)) line fault
fault_in_left bytes left line fault r h =
    subst (λ (b : List ℕ). IsFirstFault (script_of b) line fault) (seen_left bytes left r) h

-- what goes with the bytes that were read goes with those that were left
Thaws-left : (bytes left : List ℕ) (s : Status) (text : List ℕ) → AreBytesUpTo 16777216 bytes left
    → Thaws bytes s text → Thaws left s text
Thaws-left bytes left status.Done text r a =
    subst (λ (b : List ℕ). IsTextOfThaw b false text) (whole_image bytes left r a.thaws.is_image.within) a
Thaws-left bytes left status.Stalled text r a =
    subst (λ (b : List ℕ). IsTextOfThaw b true text) (whole_image bytes left r a.thaws.is_image.within) a
Thaws-left bytes left status.BadScript text r a =
    record {
      line = a.line;
      fault = a.fault;
      first = fault_in_left bytes left a.line a.fault r a.first;
      is_text = a.is_text;
    }
Thaws-left bytes left status.BadImage text r a =
    record {
      line = a.line;
      fault = a.fault;
      first = sym (thawed_left bytes left r) ∙ a.first;
      is_text = a.is_text;
    }
Thaws-left bytes left status.Usage text r a = a
Thaws-left bytes left status.Memory text r a = a
Thaws-left bytes left status.ReadFault text r a = a
Thaws-left bytes left status.WriteFault text r a = a
Thaws-left bytes left status.NotLegal text r a = a

-- and with the source, whether it tells its bytes or not
pub told_thaw : (told : Option (List ℕ)) (bytes read : List ℕ) (s : Status) (text : List ℕ) (rested : List Rested)
    → IfSome told (AreBytesUpTo 16777216 bytes) → read ≡ bytes → Thaws read s text → rested ≡ []
    → AnswersTold Thaw told s text rested
told_thaw None bytes read s text rested r e a none = record { bytes = read; told = tt; answers = (a, none) }
told_thaw (Some left) bytes read s text rested r e a none =
    record {
      bytes = left;
      told = refl;
      answers = (Thaws-left bytes left s text r (subst (λ (b : List ℕ). Thaws b s text) e a), none);
    }

-- ---- causes

module _ (bytes left : List ℕ) (got : Status) (r : AreBytesUpTo 16777216 bytes left)
    (done : (w : World) (last : Option ℕ) → IsThawOf bytes w last → IsEnded got)
    (bad : (line : ℕ) (fault : ScriptFault) → IsFirstFault (script_of (seen bytes)) line fault
    → got ≡ status.BadScript)
    (image : (line : ℕ) (fault : ImageFault) → IsImageFault bytes line fault → got ≡ status.BadImage) where
  thaw_cause : (s : Status) → CauseOfThaw left s → OrStalled (λ s. got ≡ s) s
  thaw_cause status.Done c =
      ended_or_stalled got
      (done c.0 c.1
      (subst (λ (b : List ℕ). IsThawOf b c.0 c.1) (sym (whole_left bytes left r c.2.is_image.within)) c.2))
  thaw_cause status.BadScript c =
      inl (bad c.0 c.1
      (subst (λ (b : List ℕ). IsFirstFault (script_of b) c.0 c.1) (sym (seen_left bytes left r)) c.2))
  thaw_cause status.BadImage c = inl (image c.0 c.1 (thawed_left bytes left r ∙ c.2))
  thaw_cause status.Stalled c = absurd c
  thaw_cause status.Usage c = absurd c
  thaw_cause status.Memory c = absurd c
  thaw_cause status.ReadFault c = absurd c
  thaw_cause status.WriteFault c = absurd c
  thaw_cause status.NotLegal c = absurd c

-- a status that follows from what was read follows from what the source had left
pub thaw_causes : (told : Option (List ℕ)) (bytes read : List ℕ) (got : Status)
    → IfSome told (AreBytesUpTo 16777216 bytes) → read ≡ bytes
    → ((w : World) (last : Option ℕ) → IsThawOf read w last → IsEnded got)
    → ((line : ℕ) (fault : ScriptFault) → IsFirstFault (script_of (seen read)) line fault → got ≡ status.BadScript)
    → ((line : ℕ) (fault : ImageFault) → IsImageFault read line fault → got ≡ status.BadImage)
    → EachCause (Some Thaw) told (λ s. got ≡ s)
thaw_causes None bytes read got r e done bad image = tt
thaw_causes (Some left) bytes read got r e done bad image = λ s c.
    thaw_cause read left got (subst (λ (b : List ℕ). AreBytesUpTo 16777216 b left) (sym e) r) done bad image s c
