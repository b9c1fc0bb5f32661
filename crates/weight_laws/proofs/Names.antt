-- The rules of names that move, and of how a node's life begins and ends: no call moves, and the weight falls.
use Rattle.std.proofs.Common.{◌≡◌, ℕ, ◌+◌, Bool, true, false, ◌&&◌, if◌then◌else◌, List, [], ◌∷◌, ◌++◌, length, map, fold, Option, Some, None, option_map, option_and_then, refl, ap, subst, arith}
use Rattle.std.specs.Prelude.{sum_by}
use Rattle.std.proofs.lemmas.Bool.{false≢true}
use Rattle.std.proofs.lemmas.List.{length-append}
use Rattle.std.proofs.lemmas.List.Sums.{sum_by-cons, sum_by-append}
use Rattle.pico_base.specs.declared.call.Call.{Call}
use Rattle.pico_base.specs.declared.numbers.Name.{Name}
use Rattle.pico_base.specs.declared.numbers.Name.TheVariants.{Proc, Msg, Sem}
use Rattle.pico_base.specs.declared.script.Script.{Script}
use Rattle.rpc_frame.specs.declared.deed.PackedDeed.{PackedDeed}
use Rattle.rpc_frame.specs.declared.frame.Frame.{Frame}
use Rattle.rpc_frame.specs.declared.frame.Frame.TheVariants as frames
use Rattle.number_maps.specs.Maps.{Numbered}
use Rattle.kernel_model.specs.Script.{Vars}
use Rattle.kernel_laws.proofs.Plain.{from_some, not_some}
use Rattle.node_model.specs.Bodies.{Body, Living as LivingBody, Ended, Gone, AQueue, ASet, Removed}
use Rattle.node_model.specs.Directory.{Directory, Coming, stays, place_of, place_name, with_leaving}
use Rattle.node_model.specs.Kinds.{get_named, is_object, none_named}
use Rattle.node_model.specs.Parcels.{give_all, pack_all, parcel_of}
use Rattle.node_model.specs.Parcels as parcels
use Rattle.node_model.specs.Spelling.{read_deed}
use Rattle.world_model.specs.Node.{Node, Stage, Unborn, Living, Leaving, Left, Over, is_leader, is_unborn, is_leaving_stage}
use Rattle.world_model.specs.Step.{Step, step_to, send, with_directory}
use Rattle.world_model.specs.Serving.{without_deed}
use Rattle.world_model.specs.Routes.{recall_from}
use Rattle.world_model.specs.Ranges.{take_placed}
use Rattle.world_model.specs.Moves.{take_suggest, take_recall, take_grant, is_at, give_back, has_nodes, keep, receive_deed}
use Rattle.world_model.specs.Lives.{take_checkpoint, take_leaving, take_recall_all, born_with, be_born, hand_over, send_to_leader, place_family}
use Rattle.world_laws.specs.Places.{CallPlace}
use Rattle.weight_laws.specs.Weights.{send_weight, sends_weight, node_weight, to_start, to_start_in}
use Rattle.weight_laws.proofs.Sums.{sends-push}
use Rattle.weight_laws.proofs.Events.{Lowers, lowers-still}
use Rattle.weight_laws.proofs.Parts.{no-table, passed, and-left, and-right, not-true, size_of, size-put, size-without, table-adds, table-counts, place-adds, placed-keeps-weight, leaving-keeps-weight}

module _ (script : Script) (n : Node) (call : ℕ → CallPlace) where
  -- the step lowers the weight, with no call moved
  abbrev LowersAlone : ℕ → Step → Type 0
  LowersAlone taken s = Lowers script n taken call call s

  becomes : (taken : ℕ) (m s : Step) → Some m ≡ Some s → LowersAlone taken m → LowersAlone taken s
  becomes taken m s e low = subst (LowersAlone taken) (from_some m s e) low

  -- ---- Placed

  pub placed-lowers : (from : ℕ) (name : Name) (node : ℕ) (s : Step) → take_placed script n from name node ≡ Some s
      → LowersAlone 1 s
  placed-lowers from name node s h =
      let low = placed-keeps-weight n.leader.directory name node
      in let m : Step = step_to (with_directory n (place_name n.leader.directory name node))
      in becomes 1 m s (passed _ _ s h).1 (lowers-still script n 1 call m (omega (arith, low)))

  -- ---- Suggest

  suggest-by : (from : ℕ) (name : Name) (to : ℕ) (t : Bool)
      → LowersAlone 5 (if t then recall_from (step_to n) name (Some to) from else step_to n)
  suggest-by from name to true =
      let low = place-adds n.leader.directory name (Coming (Some to) [])
      in lowers-still script n 5 call (recall_from (step_to n) name (Some to) from) (omega (arith, low))
  suggest-by from name to false = lowers-still script n 5 call (step_to n) (omega arith)

  pub suggest-lowers : (from : ℕ) (name : Name) (to : ℕ) (s : Step) → take_suggest script n from name to ≡ Some s
      → LowersAlone 5 s
  suggest-lowers from name to s h =
      subst (LowersAlone 5) (from_some _ _ (passed _ _ s h).1)
      (suggest-by from name to (is_at from (place_of n.leader.directory name) && stays n.leader.directory to))

  -- ---- Recall

  recall-by : (name : Name) (s : Step) (o : Option Body) → get_named n.deeds name ≡ o → is_leader n ≡ false
      → is_object name ≡ true → option_map (give_back n name) o ≡ Some s → LowersAlone 1 s
  recall-by name s None there other object h = not_some s h
  recall-by name s (Some body) there other object h =
      let fewer = size-without n.deeds name body object there
      in let old = table-counts n other
      in let now = table-counts (without_deed n name) other
      in subst (LowersAlone 1) (from_some _ _ h)
      (lowers-still script n 1 call (give_back n name body) (omega (arith, fewer, old, now)))

  pub recall-lowers : (from : ℕ) (name : Name) (s : Step) → take_recall n from name ≡ Some s → LowersAlone 1 s
  recall-lowers from name s h =
      let p = passed _ _ s h
      in recall-by name s (get_named n.deeds name) refl (not-true _ (and-left _ _ (and-left _ _ p.0)))
      (and-right _ _ p.0) p.1

  -- ---- Grant

  grant-by : (name : Name) (s : Step) (o : Option Body) → option_and_then (receive_deed script n name) o ≡ Some s
      → LowersAlone 2 s
  grant-by name s None h = not_some s h
  grant-by name s (Some body) h =
      let more = table-adds n (keep n name body) 1 refl (size-put n.deeds name body)
      in subst (LowersAlone 2)
      (from_some _ _ (passed (has_nodes script body) (Some (step_to (keep n name body))) s h).1)
      (lowers-still script n 2 call (step_to (keep n name body)) (omega (arith, more)))

  pub grant-lowers : (from : ℕ) (packed : PackedDeed) (s : Step) → take_grant script n from packed ≡ Some s
      → LowersAlone 2 s
  grant-lowers from packed s h = grant-by packed.name s (read_deed packed) (passed _ _ s h).1

  -- ---- Checkpoint

  is-unborn : (stage : Stage) → is_unborn stage ≡ true → stage ≡ Unborn
  is-unborn Unborn h = refl
  is-unborn Living h = absurd (false≢true h)
  is-unborn Leaving h = absurd (false≢true h)
  is-unborn Left h = absurd (false≢true h)
  is-unborn Over h = absurd (false≢true h)

  born-lowers : (from pid parent : ℕ) (vars : Vars) (body : Body) → n.stage ≡ Unborn
      → LowersAlone 1 (step_to (be_born n from pid parent vars body))
  born-lowers from pid parent vars body unborn =
      let was : to_start script n ≡ to_start_in script n.number n.caller Unborn =
      ap (to_start_in script n.number n.caller) unborn
      in let none = no-table (is_leader n)
      in lowers-still script n 1 call (step_to (be_born n from pid parent vars body)) (omega (arith, was, none))

  born-by : (from pid parent : ℕ) (vars : Vars) (s : Step) (body : Body) → n.stage ≡ Unborn
      → born_with n from pid parent vars body ≡ Some s → LowersAlone 1 s
  born-by from pid parent vars s (LivingBody row) unborn h =
      subst (LowersAlone 1) (from_some _ _ (passed _ _ s h).1)
      (born-lowers from pid parent vars (LivingBody row) unborn)
  born-by from pid parent vars s (Ended ending) unborn h = not_some s h
  born-by from pid parent vars s Gone unborn h = not_some s h
  born-by from pid parent vars s (AQueue queue) unborn h = not_some s h
  born-by from pid parent vars s (ASet set) unborn h = not_some s h
  born-by from pid parent vars s Removed unborn h = not_some s h

  checkpoint-by : (from pid parent : ℕ) (vars : Vars) (s : Step) (o : Option Body) → n.stage ≡ Unborn
      → option_and_then (born_with n from pid parent vars) o ≡ Some s → LowersAlone 1 s
  checkpoint-by from pid parent vars s None unborn h = not_some s h
  checkpoint-by from pid parent vars s (Some body) unborn h = born-by from pid parent vars s body unborn h

  pub checkpoint-lowers : (from pid parent : ℕ) (deed : PackedDeed) (vars : Vars) (s : Step)
      → take_checkpoint script n from pid parent deed vars ≡ Some s → LowersAlone 1 s
  checkpoint-lowers from pid parent deed vars s h =
      let p = passed _ _ s h
      in checkpoint-by from pid parent vars s (read_deed deed) (is-unborn n.stage (and-left _ _ p.0)) p.1

  -- ---- Leaving

  pub leaving-lowers : (from pid parent parent_node : ℕ) (s : Step)
      → take_leaving script n from pid parent parent_node ≡ Some s → LowersAlone 4 s
  leaving-lowers from pid parent parent_node s h =
      let d : Directory = n.leader.directory
      in let first = placed-keeps-weight d (Proc parent) parent_node
      in let second = placed-keeps-weight (place_name d (Proc parent) parent_node) (Proc pid) from
      in let third = leaving-keeps-weight (place_family d from pid parent parent_node) from
      in let m : Step =
      send (step_to (with_directory n (with_leaving (place_family d from pid parent parent_node) from))) from
      frames.RecallAll
      in becomes 4 m s (passed _ _ s h).1 (lowers-still script n 4 call m (omega (arith, first, second, third)))

  -- ---- RecallAll

  handed : (fs : List Frame) (s : Step)
      → let t : Step = fold send_to_leader s fs
      in (sends_weight t.sends ≡ sends_weight s.sends + sum_by (λ f. send_weight (1, f)) fs) × (t.node ≡ s.node)
  handed [] s = (omega arith, refl)
  handed (f ∷ fs) s =
      let rest = handed fs (send_to_leader s f)
      in let first = sends-push s.sends (1, f)
      in let all = sum_by-cons (λ g. send_weight (1, g)) f fs
      in (omega (arith, rest.0, first, all), rest.1)

  gives-back : (deeds : List PackedDeed)
      → sum_by (λ f. send_weight (1, f)) (map parcels.give_back deeds) ≡ length deeds
  gives-back [] = refl
  gives-back (deed ∷ deeds) =
      let rest = gives-back deeds
      in let one = sum_by-cons (λ f. send_weight (1, f)) (parcels.give_back deed) (map parcels.give_back deeds)
      in omega (arith, rest, one)

  length-packed : (name : ℕ → Name) (bodies : Numbered Body) → length (pack_all name bodies) ≡ length bodies
  length-packed name [] = refl
  length-packed name (e ∷ bodies) = let rest = length-packed name bodies in omega (arith, rest)

  gives-all : (pid parent : ℕ) (ends : Call)
      → sum_by (λ f. send_weight (1, f)) (give_all n.deeds pid parent ends) ≡ size_of n.deeds + 2
  gives-all pid parent ends =
      let queues : List PackedDeed = pack_all Msg n.deeds.queues
      in let sets : List PackedDeed = pack_all Sem n.deeds.sets
      in let all = sum_by-append (λ f. send_weight (1, f)) (map parcels.give_back (queues ++ sets))
      (frames.Left (parcel_of n.deeds pid parent ends) ∷ [])
      in let back = gives-back (queues ++ sets)
      in let both = length-append queues sets
      in let some = length-packed Msg n.deeds.queues
      in let others = length-packed Sem n.deeds.sets
      in omega (arith, all, back, both, some, others)

  is-leaving : (stage : Stage) → is_leaving_stage stage ≡ true → stage ≡ Leaving
  is-leaving Leaving h = refl
  is-leaving Unborn h = absurd (false≢true h)
  is-leaving Living h = absurd (false≢true h)
  is-leaving Left h = absurd (false≢true h)
  is-leaving Over h = absurd (false≢true h)

  handed-over : (ends : Call) (s : Step) → n.stage ≡ Leaving → is_leader n ≡ false → hand_over n ends ≡ Some s
      → LowersAlone 3 s
  handed-over ends s leaving other h =
      let empty : Node = record n { stage = Left; deeds = none_named; watches = none_named }
      in let m : Step = fold send_to_leader (step_to empty) (give_all n.deeds n.pid n.parent ends)
      in let all = handed (give_all n.deeds n.pid n.parent ends) (step_to empty)
      in let given = gives-all n.pid n.parent ends
      in let old = table-counts n other
      in let now = table-counts empty other
      in let was : to_start script n ≡ 0 = ap (to_start_in script n.number n.caller) leaving
      in let same : node_weight script m.node ≡ node_weight script empty = ap (node_weight script) all.1
      in becomes 3 m s (passed _ _ s h).1
      (lowers-still script n 3 call m (omega (arith, all.0, given, old, now, was, same)))

  recall-all-by : (s : Step) (o : Option Call) → n.stage ≡ Leaving → is_leader n ≡ false
      → option_and_then (hand_over n) o ≡ Some s → LowersAlone 3 s
  recall-all-by s None leaving other h = not_some s h
  recall-all-by s (Some ends) leaving other h = handed-over ends s leaving other h

  pub recall-all-lowers : (from : ℕ) (s : Step) → is_leader n ≡ false → take_recall_all n from ≡ Some s
      → LowersAlone 3 s
  recall-all-lowers from s other h =
      let p = passed _ _ s h
      in recall-all-by s n.caller.under_way (is-leaving n.stage (and-right _ _ p.0)) other p.1
