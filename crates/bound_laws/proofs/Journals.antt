-- A history that fits a sound script has no more entries than the script has calls.
use Rattle.std.proofs.Common.{◌≡◌, ℕ, ◌+◌, ◌≤◌, List, [], ◌∷◌, length, Option, Some, ap, sym, subst, ◌∙◌, inl, inr, arith}
use Rattle.std.specs.Prelude.{sum_by}
use Rattle.std.proofs.lemmas.Bool.{cases_order}
use Rattle.pico_base.specs.declared.call.Call.{Call}
use Rattle.pico_base.specs.declared.call.Call.TheVariants as calls
use Rattle.pico_base.specs.declared.reply.Entry.{Entry}
use Rattle.pico_base.specs.declared.reply.Outcome.{Outcome}
use Rattle.pico_base.specs.declared.reply.Reply.{Reply}
use Rattle.pico_base.specs.declared.reply.Reply.TheVariants as replies
use Rattle.pico_base.specs.declared.script.Script.{Script}
use Rattle.number_maps.specs.Maps.{Numbered, get, put}
use Rattle.number_maps.specs.Rising.{IsRising}
use Rattle.number_maps.proofs.LookUps.{get-first, get-later, put-equal, put-greater, put-less}
use Rattle.number_maps.proofs.Rising.{above-first, above-lower, get-above, rising-behind, rising-nothing, rising-put, rising-rest}
use Rattle.kernel_laws.proofs.Plain.{from_some, not_some}
use Rattle.kernel_model.specs.Fitting.{FitsFrom, IsDue, Place, Places, block_at, block_place, child_vars, move_on, opening_places, places_after, places_after_fork}
use Rattle.kernel_model.specs.Script.{IsSoundScript, Vars, calls_in}
use Rattle.bound_laws.proofs.Blocks.{first-cost}
use Rattle.bound_laws.proofs.Costs.{cost, cost-is}
use Rattle.bound_laws.proofs.Spending.{block-place-cost, entry-spends, given, place_cost}
use Rattle.bound_laws.proofs.Totals.{total}

-- ---- sums over maps

-- what all that a map has comes to
abbrev pub total_of : {V : Type 0} → (V → ℕ) → Numbered V → ℕ
total_of f m = total (λ e. f e.1) m

total-put : {V : Type 0} (f : V → ℕ) (m : Numbered V) (k : ℕ) (v : V) → total_of f (put m k v) ≤ total_of f m + f v
total-put f [] k v = omega arith
total-put f (e ∷ m) k v =
    elim (cases_order k e.0) [
      | inl same ↦
          let is : total_of f (put (e ∷ m) k v) ≡ f v + total_of f m = ap (total_of f) (put-equal e m k v same)
          in omega (arith, is)
      | inr c ↦
          elim c [
            | inl less ↦
                let is : total_of f (put (e ∷ m) k v) ≡ f v + (f e.1 + total_of f m) =
                ap (total_of f) (put-less e m k v less)
                in omega (arith, is)
            | inr more ↦
                let is : total_of f (put (e ∷ m) k v) ≡ f e.1 + total_of f (put m k v) =
                ap (total_of f) (put-greater e m k v more)
                in let rest = total-put f m k v
                in omega (arith, is, rest)
          ]
    ]

total-changed : {V : Type 0} (f : V → ℕ) (m : Numbered V) (k : ℕ) (v old : V) → IsRising m → get m k ≡ Some old
    → total_of f (put m k v) + f old ≤ total_of f m + f v
total-changed f [] k v old rises there = not_some old there
total-changed f (e ∷ m) k v old rises there =
    elim (cases_order k e.0) [
      | inl same ↦
          let is : total_of f (put (e ∷ m) k v) ≡ f v + total_of f m = ap (total_of f) (put-equal e m k v same)
          in let was : f e.1 ≡ f old = ap f (from_some e.1 old (sym (get-first e m k same) ∙ there))
          in omega (arith, is, was)
      | inr c ↦
          elim c [
            | inl less ↦
                not_some old
                (sym (get-later e m k (λ same. omega (arith, same, less))
                ∙ get-above k m (above-lower k e.0 m less (above-first e m rises)))
                ∙ there)
            | inr more ↦
                let is : total_of f (put (e ∷ m) k v) ≡ f e.1 + total_of f (put m k v) =
                ap (total_of f) (put-greater e m k v more)
                in let rest =
                total-changed f m k v old (rising-rest e m rises)
                (sym (get-later e m k (λ same. omega (arith, same, more))) ∙ there)
                in omega (arith, is, rest)
          ]
    ]

-- ---- a history

module _ (script : Script) (sound : IsSoundScript script) where
  -- what all processes may still do
  abbrev left_to_do : Places → ℕ
  left_to_do places = total_of (place_cost (cost script)) places

  start-costs : (block : ℕ) (vars : Vars)
      → place_cost (cost script) (block_place (block_at script block) vars) ≡ cost script block
  start-costs block vars =
      block-place-cost (cost script) (block_at script block) vars ∙ cost-is script sound block

  forked-costs : (places : Places) (place : Place) (call : Call) (reply : Reply)
      → left_to_do (places_after_fork script places place call (Some reply))
      ≤ left_to_do places + given (cost script) call reply
  forked-costs places place (calls.Fork block) (replies.Num child) =
      let put =
      total-put (place_cost (cost script)) places child (block_place (block_at script block) (child_vars place))
      in let start = start-costs block (child_vars place)
      in omega (arith, put, start)
  forked-costs places place (calls.Fork block) reply = omega arith
  forked-costs places place call reply = omega arith

  forked-rises : (places : Places) (place : Place) (call : Call) (reply : Reply) → IsRising places
      → IsRising (places_after_fork script places place call (Some reply))
  forked-rises places place (calls.Fork block) (replies.Num child) r =
      rising-put places child (block_place (block_at script block) (child_vars place)) r
  forked-rises places place (calls.Fork block) reply r = r
  forked-rises places place call reply r = r

  record Spends (places next : Places) : Type 0 where
    less : left_to_do next + 1 ≤ left_to_do places
    rises : IsRising next

  spends-by : (places : Places) (pid : ℕ) (call : Call) (reply : Reply) (place : Place) → IsRising places
      → get places pid ≡ Some place → IsDue place call
      → Spends places
      (places_after_fork script (put places pid (move_on place call (Some reply))) place call (Some reply))
  spends-by places pid call reply place rises there is_due =
      let moved : Places = put places pid (move_on place call (Some reply))
      in let spent = entry-spends (cost script) place call reply is_due
      in let changed =
      total-changed (place_cost (cost script)) places pid (move_on place call (Some reply)) place rises there
      in let forked = forked-costs moved place call reply
      in record {
        less = omega (arith, spent, changed, forked);
        rises = forked-rises moved place call reply
            (rising-put places pid (move_on place call (Some reply)) rises);
      }

  entry-is-spent : (places : Places) (e : Entry) (place : Place) → IsRising places → get places e.pid ≡ Some place
      → IsDue place e.call → (reply : Reply) → e.outcome.own ≡ Some reply
      → Spends places (places_after script places e place)
  entry-is-spent places e place rises there is_due reply is =
      subst (λ (o : Option Reply). Spends places
      (places_after_fork script (put places e.pid (move_on place e.call o)) place e.call o)) (sym is)
      (spends-by places e.pid e.call reply place rises there is_due)

  spent-along : (journal : List Entry) (places last : Places) → IsRising places → FitsFrom script places journal last
      → length journal ≤ left_to_do places
  spent-along [] places last rises fits = omega arith
  spent-along (e ∷ journal) places last rises fits =
      let s : Spends places (places_after script places e fits.place) =
      entry-is-spent places e fits.place rises fits.there fits.due fits.replied.reply
      (ap (λ (o : Outcome). o.own) fits.replied.alone)
      in let less = s.less
      in let rest = spent-along journal (places_after script places e fits.place) last s.rises fits.rest
      in omega (arith, less, rest)

  -- A journal that fits the script is no longer than its calls, each line counted as often as it may be tried.
  pub journal-is-short : (journal : List Entry) (places : Places)
      → FitsFrom script (opening_places script) journal places → length journal ≤ sum_by calls_in script.blocks
  journal-is-short journal places fits =
      let first =
      spent-along journal (opening_places script) places
      (rising-behind (1, block_place (block_at script 1) []) [] tt (rising-nothing Place)) fits
      in let start = start-costs 1 []
      in let all = first-cost script sound
      in omega (arith, first, start, all)
