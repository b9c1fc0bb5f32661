-- A node carries out the first call of its hand on a name that nothing has: it is refused, as in the kernel, and that
-- changes nothing else.
use Rattle.std.proofs.Common.{◌≡◌, ℕ, true, false, List, [], ◌∷◌, ◌++◌, refl, ap, sym, subst, ◌∙◌}
use Rattle.pico_base.specs.declared.numbers.Name.{Name}
use Rattle.pico_base.specs.declared.numbers.Name.TheVariants.{Proc, Msg, Sem}
use Rattle.pico_base.specs.declared.reply.Reply.{Reply}
use Rattle.pico_base.specs.declared.reply.Reply.TheVariants as replies
use Rattle.pico_base.specs.declared.script.Script.{Script}
use Rattle.pico_base.specs.Home.{home_of}
use Rattle.rpc_frame.specs.declared.asked.Asked.{Asked}
use Rattle.kernel_model.specs.Effect.{reply_alone}
use Rattle.kernel_model.specs.Fitting.{places_after}
use Rattle.kernel_model.specs.Kernel as plain
use Rattle.waiting_model.specs.declared.callers.Waiting.{Waiting}
use Rattle.waiting_model.specs.Linear.{LeadInLine, at_once, line_of}
use Rattle.node_model.specs.declared.held.Held.{Held}
use Rattle.node_model.specs.declared.held.Held.TheVariants.{Request}
use Rattle.node_model.specs.Awaiting.{on_whole}
use Rattle.node_model.specs.Bodies.{AQueue, ASet, Body, Ended, Gone, Living, Removed, bare, body_in, erase}
use Rattle.node_model.specs.Caller.{caller_place}
use Rattle.node_model.specs.Carrying.{is_served}
use Rattle.node_model.specs.Entries.{entry_by}
use Rattle.node_model.specs.Serving.{no_such_name, waiting_as}
use Rattle.world_model.specs.Step.{Step}
use Rattle.world_model.specs.World.{World, world_after}
use Rattle.entry_laws.specs.Entering.{HasHistory, MayMake, is_used_name}
use Rattle.entry_laws.proofs.Fresh.{LeavesAll, nobody, nothing_at, unused-body}
use Rattle.entry_laws.proofs.History.{history-goes-on}
use Rattle.world_laws.specs.Places.{Beside}
use Rattle.world_laws.specs.Sights.{is_born_in, node_of}
use Rattle.world_laws.specs.Callers.{is_on}
use Rattle.world_laws.specs.Invariant.{HoldsOwing}
use Rattle.world_laws.specs.Names.{NameHolds, name_sight}
use Rattle.world_laws.specs.Wholes.{HasWhole}
use Rattle.route_laws.proofs.Owed.{HoldsAt}
use Rattle.route_laws.proofs.hand.Answering.{IsPlainCall, due-in-hand, has-history, may-make-in-hand, place-in-hand, served-plain}
use Rattle.route_laws.proofs.hand.HandMoves.{IsCallOf}
use Rattle.route_laws.proofs.served.OneReply.{in-whole, one-lives, one-may}
use Rattle.route_laws.proofs.served.Replies.{IsAtWork}
use Rattle.route_laws.proofs.served.Replying.{on-served}
use Rattle.route_laws.proofs.served.Before.{IsInHandAt}
use Rattle.route_laws.proofs.served.Unchanged.{one_beside, one_step, one-keeps}
use Rattle.route_laws.proofs.served.Waiters.{name-of-on}
use Rattle.route_laws.proofs.served.Whole.{WholeStep}
use Rattle.route_laws.proofs.served.WholeSteps.{process-whole, queue-whole, set-whole}

-- ---- bodies

gone-is : (body : Body) → bare body ≡ Gone → body ≡ Gone
gone-is Gone h = refl
gone-is Removed h = h
gone-is (Living row) h = h
gone-is (Ended ending) h = h
gone-is (AQueue q) h = absurd (cc)
gone-is (ASet s) h = absurd (cc)

removed-is : (body : Body) → bare body ≡ Removed → body ≡ Removed
removed-is Removed h = refl
removed-is Gone h = h
removed-is (Living row) h = h
removed-is (Ended ending) h = h
removed-is (AQueue q) h = absurd (cc)
removed-is (ASet s) h = absurd (cc)

-- nobody waits where nothing is
bare-nothing : (name : Name) (body : Body) → bare body ≡ nothing_at name → body ≡ nothing_at name
bare-nothing (Proc q) body h = gone-is body h
bare-nothing (Msg id) body h = removed-is body h
bare-nothing (Sem id) body h = removed-is body h

module _ (script : Script) (v : World) (p : ℕ) (s : Step) (asked : Asked) (rest : List Held) (b : Beside)
    (in_hand : IsInHandAt script v p s asked rest b) (at : IsAtWork script (world_after v p s) p)
    (asks : IsCallOf script asked) (name : Name) (on : is_on name (home_of asked.pid asked.call) ≡ true)
    (unused : is_used_name b.kernel name ≡ false) where
  abbrev w : World
  w = world_after v p s

  abbrev who : Waiting
  who = waiting_as asked

  holds : HoldsOwing script w (Request asked ∷ rest) in_hand.owed b
  holds = in_hand.holds

  whole-was : HasWhole w b
  whole-was = in_hand.whole

  -- it is refused
  abbrev pub refusal : Reply
  refusal = replies.Fail (no_such_name name)

  served : is_served (at_once asked.call) ≡ true
  served = on-served name asked.pid asked.call on asks.is_call

  pub plain-call : IsPlainCall asked.call
  plain-call = served-plain asked.call served

  may : MayMake b.kernel asked.pid asked.call
  may = may-make-in-hand script w asked rest b holds asks

  pub refused : LeavesAll b.kernel asked.pid asked.call refusal
  refused =
      nobody b.kernel asked.pid asked.call name may served (name-of-on name asked.pid (home_of asked.pid asked.call) on)
      unused

  parts-before : (m : Name) → bare (b.body m) ≡ body_in b.kernel m
  parts-before m =
      let k : NameHolds script b.pids (is_born_in w) m (name_sight script w (Request asked ∷ rest) b m) = holds.names m
      in k.parts

  parts-after : (m : Name) → bare (b.body m) ≡ body_in refused.next m
  parts-after m = parts-before m ∙ sym (refused.bodies m)

  nothing-there : b.body name ≡ nothing_at name
  nothing-there = bare-nothing name (b.body name) (parts-before name ∙ unused-body b.kernel name may.valid unused)

  history : HasHistory script (b.lines ++ line_of s.node.number asked.pid asked.call refusal ∷ []) refused.next
      (places_after script b.places (entry_by s.node.number asked.pid asked.call refusal)
      (caller_place script asked.caller (node_of w asked.caller).caller))
  history =
      history-goes-on script b.lines b.kernel b.places s.node.number asked.pid asked.call refusal _ refused.next
      (has-history script w asked rest b holds asks) (place-in-hand script w asked rest b holds asks)
      (due-in-hand script w asked rest b holds asks) refused.enters.makes

  abbrev Steps : Name → Type 0
  Steps m = WholeStep b.whole asked.pid asked.call (reply_alone (replies.Fail (no_such_name m))) refused.next b.body

  by-name : (m : Name) → name ≡ m → Steps m
  by-name (Msg id) is =
      let nothing : b.body (Msg id) ≡ Removed = ap b.body (sym is) ∙ nothing-there ∙ ap nothing_at is
      in queue-whole b.whole refused.next b.body b.body whole-was.bodies parts-after name (λ m d. refl) who
      (in-whole script w asked rest p s.strikes b holds whole-was asks).alive
      (one-lives script w asked rest p s.strikes b holds whole-was asks)
      (one-may script w asked rest p s.strikes b holds whole-was asks) asks.is_call id Removed is
      (ap erase (sym nothing) ∙ whole-was.bodies (Msg id))
      (subst (λ m. is_on m (home_of asked.pid asked.call) ≡ true) is on) (ap erase nothing)
  by-name (Sem id) is =
      let nothing : b.body (Sem id) ≡ Removed = ap b.body (sym is) ∙ nothing-there ∙ ap nothing_at is
      in set-whole b.whole refused.next b.body b.body whole-was.bodies parts-after name (λ m d. refl) who
      (in-whole script w asked rest p s.strikes b holds whole-was asks).alive
      (one-lives script w asked rest p s.strikes b holds whole-was asks)
      (one-may script w asked rest p s.strikes b holds whole-was asks) asks.is_call id Removed is
      (ap erase (sym nothing) ∙ whole-was.bodies (Sem id))
      (subst (λ m. is_on m (home_of asked.pid asked.call) ≡ true) is on) (ap erase nothing)
  by-name (Proc q) is =
      let before = holds.history
      in process-whole b.whole refused.next b.body b.body whole-was.bodies parts-after name (λ m d. refl) who
      (in-whole script w asked rest p s.strikes b holds whole-was asks).alive
      (one-lives script w asked rest p s.strikes b holds whole-was asks)
      (one-may script w asked rest p s.strikes b holds whole-was asks) asks.is_call b.kernel whole-was.sound
      whole-was.alike
      plain.opening b.lines s.node.number before.legal parts-before q (on_whole (Proc q) Gone who)
      (replies.Fail (no_such_name (Proc q))) is (subst (λ m. is_on m (home_of asked.pid asked.call) ≡ true) is on) refl
      refl
      (subst (λ m. LeadInLine plain.opening
      (b.lines ++ line_of s.node.number asked.pid asked.call (replies.Fail (no_such_name m)) ∷ []) refused.next) is
      history.legal)

  pub whole-step : Steps name
  whole-step = by-name name refl

  -- what stands beside the world then
  abbrev pub nobody_beside : Beside
  nobody_beside = one_beside script v p s asked rest b in_hand at asks refusal refused plain-call whole-step

  -- All holds with the refusal on its way, or the node's own call over.
  pub nobody-keeps : HoldsAt script v p (one_step script v p s asked rest b in_hand at asks refusal) rest nobody_beside
  nobody-keeps = one-keeps script v p s asked rest b in_hand at asks refusal refused plain-call whole-step
