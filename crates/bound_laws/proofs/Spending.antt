-- What a process may still do in its block, with all that it forks: each entry spends some of it.
use Rattle.std.proofs.Common.{◌≡◌, ◌⊎◌, ℕ, suc, ◌+◌, ◌-◌, ◌≤◌, Bool, true, false, ◌&&◌, nat_lt, List, [], ◌∷◌, Option, Some, None, refl, ap, sym, ◌∙◌, inl, inr, arith}
use Rattle.std.specs.Prelude.{if◌then◌else◌}
use Rattle.std.proofs.lemmas.Bool.{and_parts, false≢true, ltb-true}
use Rattle.pico_base.specs.declared.call.Call.{Call}
use Rattle.pico_base.specs.declared.call.Call.TheVariants as calls
use Rattle.pico_base.specs.declared.reply.Reply.{Reply}
use Rattle.pico_base.specs.declared.reply.Reply.TheVariants as replies
use Rattle.pico_base.specs.declared.script.Block.{Block}
use Rattle.pico_base.specs.declared.script.Line.{Line}
use Rattle.kernel_model.specs.Fitting.{IsDue, Place, after_reply, asks_again, block_place, is_killed, move_on, place_after, set_variable, value_in}
use Rattle.kernel_model.specs.Script.{Vars, call_of, fork_targets}
use Rattle.entry_laws.proofs.Places.{DueLine, due-line, fork-of}
use Rattle.node_model.specs.Caller.{lines_in}
use Rattle.bound_laws.proofs.Costs.{lines_cost}
use Rattle.bound_laws.proofs.Totals.{total}

-- ---- what is left at a place

module _ (block_cost : ℕ → ℕ) where
  -- the first line left was tried so often already
  abbrev pub left_cost : ℕ → List Line → ℕ
  left_cost tried [] = 0
  left_cost tried (line ∷ rest) =
      suc (line.tries - (tried + 1)) + total block_cost (fork_targets line.call) + lines_cost block_cost rest

  -- of a process at this place
  abbrev pub place_cost : Place → ℕ
  place_cost place = left_cost place.tried place.left

  -- what a call gives to a process that it forks
  abbrev pub given : Call → Reply → ℕ
  given (calls.Fork block) (replies.Num child) = block_cost block
  given call reply = 0

  start-cost : (lines : List Line) → left_cost 0 lines ≡ lines_cost block_cost lines
  start-cost [] = refl
  start-cost (line ∷ lines) = omega arith

  -- a process at the beginning of its block
  pub block-place-cost : (o : Option Block) (vars : Vars)
      → place_cost (block_place o vars) ≡ lines_cost block_cost (lines_in o)
  block-place-cost None vars = refl
  block-place-cost (Some block) vars = start-cost (lines_in (Some block))

  -- ---- an entry

  again-gives-nothing : (call : Call) (reply : Reply) → asks_again call (Some reply) ≡ true → given call reply ≡ 0
  again-gives-nothing (calls.Fork block) (replies.Num child) h = absurd (false≢true h)
  again-gives-nothing (calls.Fork block) reply h = refl
  again-gives-nothing call reply h = refl

  given-by-fork : (call : Call) (reply : Reply)
      → (given call reply ≡ 0) ⊎ ((block : ℕ) × (call ≡ calls.Fork block) × (given call reply ≡ block_cost block))
  given-by-fork (calls.Fork block) (replies.Num child) = inr (block, refl, refl)
  given-by-fork (calls.Fork block) reply = inl refl
  given-by-fork call reply = inl refl

  -- a line gives no more than it costs
  line-gives : (line : Line) (vars : Vars) (call : Call) (reply : Reply) → call_of line vars ≡ call
      → given call reply ≤ total block_cost (fork_targets line.call)
  line-gives line vars call reply is =
      elim (given-by-fork call reply) [
        | inl none ↦ omega (arith, none)
        | inr some ↦
            let forks : line.call ≡ calls.Fork some.0 = fork-of line.call vars line.from some.0 (is ∙ some.1)
            in let has : total block_cost (fork_targets line.call) ≡ block_cost some.0 + 0 =
            ap (λ (c : Call). total block_cost (fork_targets c)) forks
            in let same = some.2
            in omega (arith, has, same)
      ]

  after-test : (place : Place) (call : Call) (reply : Reply) (line : Line) (rest : List Line) → place.left ≡ line ∷ rest
      → call_of line place.vars ≡ call → (again : Bool)
      → (asks_again call (Some reply) && nat_lt (place.tried + 1) line.tries) ≡ again
      → place_cost (if again then record place { tried = place.tried + 1 }
      else record { left = rest; tried = 0; vars = set_variable place.vars line.set (value_in (Some reply)) })
      + given call reply + 1
      ≤ left_cost place.tried (line ∷ rest)
  after-test place call reply line rest left is true e =
      let parts = and_parts (asks_again call (Some reply)) (nat_lt (place.tried + 1) line.tries) e
      in let none = again-gives-nothing call reply parts.0
      in let less = ltb-true (place.tried + 1) line.tries parts.1
      in let here : left_cost (place.tried + 1) place.left ≡ left_cost (place.tried + 1) (line ∷ rest) =
      ap (left_cost (place.tried + 1)) left
      in omega (arith, none, less, here)
  after-test place call reply line rest left is false e =
      let gives = line-gives line place.vars call reply is
      in let start = start-cost rest
      in omega (arith, gives, start)

  move-test : (place : Place) (call : Call) (reply : Reply) (line : Line) (rest : List Line) → place.left ≡ line ∷ rest
      → ((is_killed call ≡ true) ⊎ (call_of line place.vars ≡ call)) → (killed : Bool) → is_killed call ≡ killed
      → place_cost (if killed then record place { left = [] } else place_after place call (Some reply))
      + given call reply + 1
      ≤ left_cost place.tried (line ∷ rest)
  move-test place call reply line rest left is true e =
      let none = killed-gives-nothing call e in omega (arith, none)
    where
      killed-gives-nothing : (c : Call) → is_killed c ≡ true → given c reply ≡ 0
      killed-gives-nothing (calls.Fork block) h = absurd (false≢true h)
      killed-gives-nothing c h = refl
  move-test place call reply line rest left (inl ends) false e = absurd (false≢true (sym e ∙ ends))
  move-test place call reply line rest left (inr is) false e =
      let same : place_cost (place_after place call (Some reply))
      ≡ place_cost (after_reply place call reply (line ∷ rest)) =
      ap (λ lines. place_cost (after_reply place call reply lines)) left
      in let less = after-test place call reply line rest left is _ refl
      in omega (arith, same, less)

  -- An entry of the call that is due spends some of what is left.
  pub entry-spends : (place : Place) (call : Call) (reply : Reply) → IsDue place call
      → place_cost (move_on place call (Some reply)) + given call reply + 1 ≤ place_cost place
  entry-spends place call reply (inl is_due) =
      let d : DueLine place call = due-line place call is_due
      in let less = move-test place call reply d.line d.rest d.left (inr d.call_is) (is_killed call) refl
      in let whole : place_cost place ≡ left_cost place.tried (d.line ∷ d.rest) = ap (left_cost place.tried) d.left
      in omega (arith, less, whole)
  entry-spends place call reply (inr ends) =
      let d : DueLine place ends.1 = due-line place ends.1 ends.2
      in let less = move-test place call reply d.line d.rest d.left (inl ends.0) (is_killed call) refl
      in let whole : place_cost place ≡ left_cost place.tried (d.line ∷ d.rest) = ap (left_cost place.tried) d.left
      in omega (arith, less, whole)
