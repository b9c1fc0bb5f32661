-- In a world with the invariant no node has more than 32 deeds of processes: each is of a process that was made, which
-- is a node's.
use Rattle.std.proofs.Common.{◌≡◌, ◌≢◌, ◌⊎◌, ℕ, ◌≤◌, true, false, nat_eq, List, [], ◌∷◌, length, map, Option, Some, None, is_some, refl, ap, sym, subst, ◌∙◌, inl, inr, arith}
use Rattle.std.specs.Cmp.{nat_eq_equiv}
use Rattle.std.specs.List.{AllByRecursion, IsDistinct, list_any}
use Rattle.std.proofs.lemmas.Bool.{cases_Bool, cases_eq, eqb-true, false≢true, ne_eqb, or_cases}
use Rattle.std.proofs.lemmas.List.{length-map}
use Rattle.std.proofs.lemmas.Map.Keys.{IsDistinct-cons}
use Rattle.std.proofs.lemmas.Map.Made.{length-le_from_is_member}
use Rattle.pico_base.specs.declared.numbers.Name.TheVariants.{Proc}
use Rattle.pico_base.specs.declared.script.Script.{Script}
use Rattle.number_maps.specs.Maps.{Numbered, get}
use Rattle.number_maps.specs.Rising.{IsRising}
use Rattle.number_maps.proofs.LookUps.{get-first, get-later}
use Rattle.number_maps.proofs.Rising.{Above, above-first, rising-rest}
use Rattle.kernel_laws.proofs.Plain.{not_some}
use Rattle.kernel_laws.proofs.ValidLaws.{reachable_kernels_are_valid_lemma}
use Rattle.kernel_model.specs.Kernel.{Process}
use Rattle.kernel_model.specs.Script.{IsSoundScript}
use Rattle.kernel_model.specs.Valid.{IsValid}
use Rattle.entry_laws.specs.Entering.{is_used_name}
use Rattle.entry_laws.proofs.History.{history-reachable}
use Rattle.node_model.specs.Bodies.{Body}
use Rattle.node_model.specs.declared.held.Held.{Held}
use Rattle.world_model.specs.World.{World, node_count, numbers}
use Rattle.world_laws.specs.Invariant.{Holds}
use Rattle.world_laws.specs.Names.{NameHolds, held_as, held_at, name_sight}
use Rattle.world_laws.specs.Places.{Beside}
use Rattle.world_laws.specs.Sights.{is_born_in, node_of}
use Rattle.bound_laws.specs.Bounded.{NodeIsBounded}
use Rattle.bound_laws.proofs.Numbers.{in-numbers, is-among, length-of-numbers}
use Rattle.bound_laws.proofs.Ranges.{few-blocks}

-- ---- entries by rising number

apart-above : {V : Type 0} (n : ℕ) (m : Numbered V) → Above n m
    → AllByRecursion (λ y. nat_eq n y ≡ false) (map (λ e. e.0) m)
apart-above n [] above = tt
apart-above n (e ∷ m) above =
    let first = above.0
    in (ne_eqb n e.0 (λ same. omega (arith, first, same)), apart-above n m above.1)

-- no number comes twice
distinct-numbers : {V : Type 0} (m : Numbered V) → IsRising m → IsDistinct nat_eq (map (λ e. e.0) m)
unfolding IsDistinct
distinct-numbers [] r = tt
distinct-numbers (e ∷ m) r =
    IsDistinct-cons nat_eq e.0 (map (λ x. x.0) m) (apart-above e.0 m (above-first e m r))
    (distinct-numbers m (rising-rest e m r))

-- a number among those of the entries is found
number-found : {V : Type 0} (m : Numbered V) (q : ℕ) → list_any (nat_eq q) (map (λ e. e.0) m) ≡ true
    → (v : V) × (get m q ≡ Some v)
number-found [] q h = absurd (false≢true h)
number-found (e ∷ m) q h =
    elim (cases_eq q e.0) [
      | inl same ↦ (e.1, get-first e m q same)
      | inr other ↦
          let w = number-found m q (later-is other (or_cases (nat_eq q e.0) _ h))
          in (w.0, get-later e m q other ∙ w.1)
    ]
  where
    later-is : q ≢ e.0 → (nat_eq q e.0 ≡ true) ⊎ (list_any (nat_eq q) (map (λ x. x.0) m) ≡ true)
        → list_any (nat_eq q) (map (λ x. x.0) m) ≡ true
    later-is other (inl here) = absurd (other (eqb-true q e.0 here))
    later-is other (inr later) = later

-- ---- a world

module _ (script : Script) (sound : IsSoundScript script) (w : World) (hand : List Held) (b : Beside)
    (holds : Holds script w hand b) where
  some-process : (o : Option Process) → is_some o ≡ true → (v : Process) × (o ≡ Some v)
  some-process (Some v) e = (v, refl)
  some-process None e = absurd (false≢true e)

  -- a used process number is that of a node of the script
  used-among-nodes : (q : ℕ) → is_used_name b.kernel (Proc q) ≡ true
      → list_any (nat_eq q) (map b.pids (numbers 1 (node_count script))) ≡ true
  used-among-nodes q used =
      let valid : IsValid b.kernel = reachable_kernels_are_valid_lemma b.kernel
      (history-reachable script b.lines b.kernel b.places holds.history)
      in let pids = holds.pids
      in let it = some-process (get b.kernel.processes q) (sym (valid.used_processes q) ∙ used)
      in let c = pids.there q it.0 it.1
      in let node = pids.nodes c.0 (λ none. c.2 (sym c.1 ∙ none))
      in let low = node.0
      in let high = node.1
      in subst (λ n. list_any (nat_eq n) (map b.pids (numbers 1 (node_count script))) ≡ true) c.1
      (is-among b.pids c.0 (numbers 1 (node_count script))
      (in-numbers (node_count script) 1 c.0 (omega (arith, low)) (omega (arith, high))))

  -- a deed that a node has is of a used name
  held-is-used : (p q : ℕ) (body : Body) → held_at w (Proc q) p ≡ Some body → is_used_name b.kernel (Proc q) ≡ true
  held-is-used p q body is =
      let n : NameHolds script b.pids (is_born_in w) (Proc q) (name_sight script w hand b (Proc q)) =
      holds.names (Proc q)
      in elim (cases_Bool (is_used_name b.kernel (Proc q))) [
        | inl used ↦ used
        | inr unused ↦
            not_some body
            (sym (n.tables p ∙ ap (λ place. held_as place (b.body (Proc q)) p) (n.made.1 unused)) ∙ is)
      ]

  -- So there are no more than nodes.
  pub few-deeds : (p : ℕ) → NodeIsBounded script (node_of w p) → length (node_of w p).deeds.processes ≤ 32
  few-deeds p bounded =
      let bodies : Numbered Body = (node_of w p).deeds.processes
      in let many =
      length-le_from_is_member nat_eq_equiv (map (λ e. e.0) bodies) (map b.pids (numbers 1 (node_count script)))
      (distinct-numbers bodies bounded.deeds.rise.processes)
      (λ q among.
      let found = number-found bodies q among in used-among-nodes q (held-is-used p q found.0 found.1))
      in let count = length-map bodies (λ (e : ℕ × Body). e.0)
      in let nodes = length-of-numbers b.pids (node_count script) 1
      in let few = few-blocks script sound
      in omega (arith, many, count, nodes, few)
