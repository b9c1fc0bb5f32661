-- The numbers of each kind last: there are more ranges than a sound script has calls and nodes.
use Rattle.std.proofs.Common.{◌≡◌, ℕ, zero, suc, ◌+◌, ◌≤◌, Bool, true, false, nat_eq, List, length, map, Option, Some, None, is_some, refl, ap, sym, subst, ◌∙◌, arith, ◌*◌}
use Rattle.std.specs.Prelude.{nat_le, sum_by}
use Rattle.std.proofs.lemmas.Bool.{and_parts, false≢true, leb-true, lt-ltb}
use Rattle.std.proofs.lemmas.List.{length-map}
use Rattle.std.specs.List.{list_any}
use Rattle.pico_base.specs.declared.numbers.Kind.{Kind}
use Rattle.pico_base.specs.declared.script.Script.{Script}
use Rattle.number_maps.specs.Maps.{get}
use Rattle.kernel_model.specs.Kernel as kernel
use Rattle.kernel_model.specs.Script.{IsSoundScript, calls_in, max_calls}
use Rattle.waiting_model.specs.Kernel.{living_at}
use Rattle.waiting_model.specs.Linear.{in_line}
use Rattle.waiting_model.specs.Marks.{Alive}
use Rattle.waiting_laws.specs.Parked.{mark_of}
use Rattle.waiting_laws.proofs.Rows.{LivesAlike, alike-living}
use Rattle.node_model.specs.declared.held.Held.{Held}
use Rattle.node_model.specs.Directory.{has_more, max_ranges}
use Rattle.node_model.specs.Kinds.{for_kind}
use Rattle.world_model.specs.World.{World, node_count, numbers}
use Rattle.world_laws.specs.Places.{Beside, CallPlace}
use Rattle.world_laws.specs.Sights.{directory_of}
use Rattle.world_laws.specs.Ranges.{has_lease, leases_on_way, one_for}
use Rattle.world_laws.specs.Invariant.{HoldsOwing}
use Rattle.world_laws.specs.Wholes.{HasWhole}
use Rattle.world_laws.specs.Cancels.{Owing}
use Rattle.bound_laws.proofs.Journals.{journal-is-short}
use Rattle.bound_laws.proofs.Numbers.{in-numbers, is-among, length-of-numbers}
use Rattle.bound_laws.proofs.Parks.{above_all, history-is-paid, is_marked, parked-are-few}
use Rattle.bound_laws.proofs.Totals.{total, total-is-sum}

-- A sound script has 1 to 32 blocks.
pub some-blocks : (script : Script) → IsSoundScript script → 1 ≤ node_count script
some-blocks script sound =
    leb-true 1 (node_count script)
    (and_parts (nat_le 1 (node_count script)) (nat_le (node_count script) 32) sound.size).0

-- at least one, and at most 32
pub few-blocks : (script : Script) → IsSoundScript script → node_count script ≤ 32
few-blocks script sound =
    leb-true (node_count script) 32
    (and_parts (nat_le 1 (node_count script)) (nat_le (node_count script) 32) sound.size).1

at-most-one : (b : Bool) → one_for b ≤ 1
at-most-one true = omega arith
at-most-one false = omega arith

one-for-each : (test : ℕ → Bool) (n k : ℕ) → total (λ p. one_for (test p)) (numbers k n) ≤ n
one-for-each test zero k = omega arith
one-for-each test (suc n) k =
    let one = at-most-one (test k)
    in let rest = one-for-each test n (k + 1)
    in omega (arith, one, rest)

-- no more numbers are on their way than there are nodes
few-leases : (script : Script) (call : ℕ → CallPlace) (kind : Kind) → leases_on_way script call kind ≤ node_count script
few-leases script call kind =
    let one = one-for-each (λ p. has_lease kind (call p)) (node_count script) 1
    in let sums = total-is-sum (λ p. one_for (has_lease kind (call p))) (numbers 1 (node_count script))
    in omega (arith, one, sums)

-- who is parked lives
marked-lives : (o : Option Alive) → is_some (mark_of o) ≡ true → (a : Alive) × (o ≡ Some a)
marked-lives None h = absurd (false≢true h)
marked-lives (Some a) h = (a, refl)

same-number : ℕ → ℕ
same-number n = n

module _ (script : Script) (sound : IsSoundScript script) (w : World) (hand : List Held) (owes : Owing) (b : Beside)
    (holds : HoldsOwing script w hand owes b) (whole : HasWhole w b) where
  -- In line there are no more entries than a script may have calls.
  pub lines-within : length b.lines ≤ max_calls
  lines-within =
      let short = journal-is-short script sound b.lines b.places holds.history.fits
      in let few = leb-true (sum_by calls_in script.blocks) max_calls sound.calls
      in omega (arith, short, few)

  -- whose process is parked is a process of a node
  parked-of-node : (q : ℕ) → is_marked b.whole q ≡ true
      → list_any (nat_eq q) (map b.pids (numbers 1 (node_count script))) ≡ true
  parked-of-node q marked =
      let lives = marked-lives (living_at b.whole q) marked
      in let there : LivesAlike (get b.kernel.processes q) lives.0 =
      alike-living b.whole.processes b.kernel.processes whole.alike.processes q lives.0 lives.1
      in let c = holds.pids.there q (kernel.Living there.alive) there.is
      in let node = holds.pids.nodes c.0 (λ none. c.2 (sym c.1 ∙ none))
      in let low = node.0
      in let high = node.1
      in subst (λ n. list_any (nat_eq n) (map b.pids (numbers 1 (node_count script))) ≡ true) c.1
      (is-among b.pids c.0 (numbers 1 (node_count script))
      (in-numbers (node_count script) 1 c.0 (omega (arith, low)) (omega (arith, high))))

  -- and the journal has no more than two for each, and one for each process
  pub journal-within : length w.journal ≤ 2 * max_calls + 32
  journal-within =
      let paid = history-is-paid w.journal b.whole whole.legal
      in let waits =
      parked-are-few b.pids (numbers 1 (node_count script)) (above_all w.journal) b.whole parked-of-node
      in let nodes = length-of-numbers same-number (node_count script) 1
      in let count = length-map (numbers 1 (node_count script)) same-number
      in let few = few-blocks script sound
      in let lines = lines-within
      in let same : length b.lines ≡ length (in_line w.journal) = ap length whole.lines
      in omega (arith, paid, waits, nodes, count, few, lines, same)

  ranges-within : (kind : Kind) → length (for_kind (directory_of w).ranges kind) ≤ 2 * max_calls + 65
  ranges-within kind =
      let few = holds.few kind
      in let leases = few-leases script b.call kind
      in let nodes = few-blocks script sound
      in let journal = journal-within
      in omega (arith, few, leases, nodes, journal)

  -- So there is always a further range of numbers,
  pub more-ranges : (kind : Kind) → has_more (directory_of w) kind ≡ true
  more-ranges kind =
      let within = ranges-within kind
      in lt-ltb (length (for_kind (directory_of w).ranges kind)) max_ranges (omega (arith, within))

  -- and all numbers have four bytes.
  pub few-ranges : (kind : Kind) → length (for_kind (directory_of w).ranges kind) ≤ max_ranges
  few-ranges kind =
      let within = ranges-within kind
      in omega (arith, within)
